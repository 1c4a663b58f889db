use Rattle.std.proofs.Common.{◌≡◌, ◌∙◌, ◌+◌, ◌<◌, ◌≤◌, ◌++◌, List, ap, arith, is_some, length, map, sym, subst, true}
use Rattle.std.specs.List.{All}
use Rattle.std.proofs.lemmas.List.{length-map}
use Rattle.sf_output_shown.specs.sf_layer.declared.layer.Layer.{Layer}
use Rattle.sf_base.specs.declared.ids.LayerId.{LayerId}
use Rattle.sf_output_shown.specs.Copies.{copied, copy_of, named, number_of}
use Rattle.sf_output_shown.specs.Cuts.{under}
use Rattle.sf_output_shown.proofs.KeepingLemmas.{under-few}
use Rattle.sf_mirror.specs.inner.Extended.{Extends}
use Rattle.sf_mirror.proofs.CopyLemmas.{long_copies}
use Rattle.sf_mirror.proofs.CopyTreeLemmas.{Extends-copies, all_named, mirror_there}
use Rattle.sf_mirror.proofs.writing.push_copies.Goals as goal

pub name_all-requires : goal.name_all-requires
name_all-requires c =
    let taken : length c.in_ok-taken.taken.items ≡ length c.args.layers.now.items = ap length c.in_ok-taken.ensures ∙ (length-map c.deref.result.now number_of ∙ ap length c.deref.ensures.value) in
    let named : length c.deref-2.result.now ≡ length (under c.args.tree.now.layers (record { 0 = c.args.pair.now.1 })) = ap length (c.deref-2.ensures.value ∙ c.in_ok-originals.ensures.value) in
    let few = c.requires.few in
    record { few = omega (arith, taken, named, under-few c.args.tree.now.layers (record { 0 = c.args.pair.now.1 }), few) }

pub copy_all-requires-clause-named : goal.copy_all-requires-clause-named
copy_all-requires-clause-named c =
    let same : c.deref-2.result.now ≡ c.deref-3.result.now = c.deref-2.ensures.value ∙ sym c.deref-3.ensures.value in
    let names : c.in_ok-names.names ≡ named c.in_ok-taken.taken.items c.deref-2.result.now = c.in_ok-names.ensures ∙ c.in_ok-name_all.ensures.value in
    subst (λ (l : List (LayerId × LayerId)). All (λ (layer : Layer). is_some (copy_of l layer.number) ≡ true) c.deref-3.result.now) (sym names)
    (subst (λ (l : List Layer). All (λ (layer : Layer). is_some (copy_of (named c.in_ok-taken.taken.items c.deref-2.result.now) layer.number) ≡ true) l) same (all_named c.in_ok-taken.taken.items c.deref-2.result.now))

pub returns-clause-tree : goal.returns-clause-tree
returns-clause-tree c =
    let tree = c.args.tree.now.layers in
    let so_far = c.args.layers.now.items in
    let mirror : LayerId = record { 0 = c.args.pair.now.0 } in
    let id : LayerId = record { 0 = c.args.pair.now.1 } in
    let taken : c.in_ok-taken.taken.items ≡ map number_of so_far = c.in_ok-taken.ensures ∙ ap (map number_of) c.deref.ensures.value in
    let originals : c.deref-2.result.now ≡ under tree id = c.deref-2.ensures.value ∙ c.in_ok-originals.ensures.value in
    let names : c.in_ok-names.names ≡ named (map number_of so_far) (under tree id) = (c.in_ok-names.ensures ∙ c.in_ok-name_all.ensures.value) ∙ (λ i. named (taken i) (originals i)) in
    let made : c.in_ok-copies.copies.items ≡ map (copied mirror id (named (map number_of so_far) (under tree id))) (under tree id) =
    c.in_ok-copies.ensures.value ∙ (λ i. map (copied mirror id (names i)) ((c.deref-3.ensures.value ∙ c.in_ok-originals.ensures.value) i)) in
    let positive = subst (λ (l : List (LayerId × LayerId)). All (λ (name : LayerId × LayerId). 0 < name.1.0) l) (sym c.in_ok-names.ensures ∙ names) c.in_ok-name_all.ensures.positive in
    subst (Extends tree) (sym (c.in_ok-append.ensures.items ∙ ap (λ (l : List Layer). so_far ++ l) made))
    (Extends-copies c.args.tree.now.most tree so_far mirror id c.in_ok-originals.ensures.kept c.requires.tree positive
    (mirror_there tree c.args.pair.now (sym c.mirrors.ensures ∙ c.if-not-mirrors.false)) c.requires.few
    (subst (λ (l : List Layer). All (λ (copy : Layer). 0 < copy.number.0) l) made c.in_ok-copies.ensures.numbered))

pub returns-clause-long : goal.returns-clause-long
returns-clause-long c =
    let kept = c.deref-3.ensures.value ∙ c.in_ok-originals.ensures.value in
    let made = c.in_ok-copies.ensures.value ∙ ap (map (copied (record { 0 = c.args.pair.now.0 }) (record { 0 = c.args.pair.now.1 }) c.in_ok-names.names)) kept in
    subst (λ (l : List Layer). length l ≤ length c.args.layers.now.items + length c.args.tree.now.layers) (sym (c.in_ok-append.ensures.items ∙ ap (λ (l : List Layer). c.args.layers.now.items ++ l) made))
    (long_copies c.args.tree.now.layers c.args.layers.now.items (record { 0 = c.args.pair.now.0 }) (record { 0 = c.args.pair.now.1 }) c.in_ok-names.names)

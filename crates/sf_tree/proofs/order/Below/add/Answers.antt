use Rattle.std.proofs.Common.{◌≡◌, ◌<◌, Some, sym, ap, ◌∙◌, refl, map, length}
use Rattle.std.proofs.lemmas.List.{length-map}
use Rattle.sf_layer.specs.declared.parent.Parent.TheVariants as parent
use Rattle.sf_tree.specs.DrawOrder.{draw_parent, drawn_with}
use Rattle.sf_tree.proofs.BelowLemmas.{AtPlaces-push, drawn_with-no, drawn_with-yes, IsBelow-other, IsBelow-push, not_in_tree}
use Rattle.sf_tree.proofs.Places.{index_of_inside}
use Rattle.sf_tree.proofs.ZOrder.{on_ok_weaker}
use Rattle.sf_tree.proofs.order.Below.add.Goals as goal

pub returns-in_ok-push-in-Root : goal.returns-in_ok-push-in-Root
returns-in_ok-push-in-Root c earlier layer at s =
    let both : Some c.at.result ≡ Some layer = sym c.at.ensures ∙ at in
    let same : c.at.result ≡ layer = cc in
    let with : draw_parent layer ≡ parent.Root = ap draw_parent (sym same) ∙ (sym c.draw_parent.ensures ∙ c.in-Root.is) in
    record {
      hang = rw (c.in_ok-push-in-Root.ensures.items, drawn_with-yes parent.Root earlier layer (rw with refl)) (AtPlaces-push c.args.layers.now c.args.self.now.roots.items (drawn_with parent.Root earlier) c.args.place layer s.hang at);
      lists = IsBelow-other c.args.layers.now earlier layer _ (λ k other there. rw with refl) s.lists;
    }

pub returns-in-Some : goal.returns-in-Some
returns-in-Some c =
    on_ok_weaker c.push-in-Some.result (λ put earlier layer at s.
    let both : Some c.at.result ≡ Some layer = sym c.at.ensures ∙ at in
    let same : c.at.result ≡ layer = cc in
    let with : draw_parent layer ≡ parent.Layer c.in-Layer.id = ap draw_parent (sym same) ∙ (sym c.draw_parent.ensures ∙ c.in-Layer.is) in
    let inside : c.in-Some.with < length c.args.layers.now = index_of_inside c.args.layers.now c.in-Layer.id c.in-Some.with (sym c.in-Some.ensures.place) in
    let fits : c.in-Some.with < length (map (λ list. list.items) c.args.self.now.lists.items) = rw (length-map c.args.self.now.lists.items (λ list. list.items), c.requires.size) inside in
    record {
      hang = rw (c.push-in-Some.ensures.roots, drawn_with-no parent.Root earlier layer (rw with refl)) s.hang;
      lists = rw put (IsBelow-push c.args.layers.now earlier layer _ c.in-Layer.id c.in-Some.with c.args.place c.in-Some.ensures.distinct with (sym c.in-Some.ensures.place) at fits s.lists);
    }) c.push-in-Some.ensures.lists

pub returns-in-None : goal.returns-in-None
returns-in-None c earlier layer at s =
    let both : Some c.at.result ≡ Some layer = sym c.at.ensures ∙ at in
    let same : c.at.result ≡ layer = cc in
    let with : draw_parent layer ≡ parent.Layer c.in-Layer.id = ap draw_parent (sym same) ∙ (sym c.draw_parent.ensures ∙ c.in-Layer.is) in
    record {
      hang = rw (drawn_with-no parent.Root earlier layer (rw with refl)) s.hang;
      lists = IsBelow-other c.args.layers.now earlier layer _ (λ k other there. rw with (not_in_tree c.args.layers.now c.in-Layer.id k other c.in-None.ensures.distinct (sym c.in-None.ensures.place) there)) s.lists;
    }

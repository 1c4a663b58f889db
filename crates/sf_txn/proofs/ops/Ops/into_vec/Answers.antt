use Rattle.std.proofs.Common.{◌≡◌, ◌∙◌, ap, sym, rules}
use Rattle.std.proofs.lemmas.Fn.{filter_same}
use Rattle.sf_txn.specs.Places.{Listed, is_kept, kept}
use Rattle.sf_txn.proofs.Places.{no_index}
use Rattle.sf_txn.proofs.ops.Ops.into_vec.Goals as goal

pub returns-then-is_none : goal.returns-then-is_none
returns-then-is_none c =
    sym (c.self.invariant.whole (no_index c.self.inside.index c.is_none.result c.is_none.ensures c.if-is_none.true)) ∙ ap (λ (l : Listed). l.list) c.self.view_is

pub returns : goal.returns
returns c =
    let e : c.retain.new.self.items ≡ kept c.self.inside.items.items = filter_same _ is_kept _ (λ x b f' k. search rules) _ _ c.retain.ensures.filtered in
    e ∙ ap (λ (l : Listed). l.list) c.self.view_is

use Rattle.std.proofs.Common.{◌≡◌, ◌∙◌, ap, rules}
use Rattle.std.proofs.lemmas.Fn.{filter_same}
use Rattle.sf_txn.specs.Places.{Listed, is_kept, kept}
use Rattle.sf_txn.proofs.ops.Ops.copied.Goals as goal

pub returns : goal.returns
returns c =
    let e : c.retain.new.self.items ≡ kept c.extend_from_slice.new.self.items = filter_same _ is_kept _ (λ x b f' k. search rules) _ _ c.retain.ensures.filtered in
    e ∙ rw (c.in_ok-extend_from_slice.ensures.items, c.new-ops.ensures.items, c.deref.ensures.value) (ap (λ (l : Listed). l.list) c.self.view_is)

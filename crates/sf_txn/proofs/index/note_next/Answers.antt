use Rattle.std.proofs.Common.{◌∙◌, ap, cond, Some, sym}
use Rattle.std.specs.BTreeMap.{get, is_at}
use Rattle.std.specs.Ordering.{nat_cmp}
use Rattle.sf_txn.proofs.Places.{places-more, places-same}
use Rattle.sf_txn.proofs.index.note_next.Goals as goal

pub returns-then-is_cumulative : goal.returns-then-is_cumulative
returns-then-is_cumulative c =
    places-same c.args.ops.now c.args.place _ c.args.places.now c.requires.inside c.requires.apart c.requires.found (sym c.is_cumulative.ensures ∙ c.if-is_cumulative.true)

pub returns : goal.returns
returns c =
    places-more c.args.ops.now c.args.place _ c.args.places.now c.insert.new.self c.requires.inside c.requires.apart c.requires.found (sym c.is_cumulative.ensures ∙ c.if-is_cumulative.false)
    (λ q. c.in_ok-insert.ensures.updates.0 q ∙ ap (λ k. cond (is_at (nat_cmp k) q) (Some c.args.place) (get nat_cmp c.args.places.now q)) c.key_of.ensures)

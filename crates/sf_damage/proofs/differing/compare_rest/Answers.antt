use Rattle.std.proofs.Common.{◌≡◌, ◌+◌, ◌∷◌, ◌⊎◌, [], add-one, drop, get_or, inl, inr, arith}
use Rattle.std.proofs.Math.Seq.{drop-cons}
use Rattle.std.proofs.lemmas.List.{drop_all}
use Rattle.sf_view.specs.declared.drawn.Drawn.{Drawn}
use Rattle.sf_damage.proofs.ComparingLemmas.{goes_on_end, goes_on_new}
use Rattle.sf_damage.proofs.DiffersLemmas.{IsSplit}
use Rattle.sf_damage.proofs.ListLemmas.{no_layer}
use Rattle.sf_damage.proofs.differing.compare_rest.Goals as goal
use Rattle.sf_damage.proofs.differing.compare_rest.Goals.{then-loop-at-test+else-not-is_empty, else-loop-at-test}

pub loop-at-preserved : goal.loop-at-preserved
loop-at-preserved c =
    let news = c.args.news.now in
    let at = c.loop-at.at in
    let new : Drawn = get_or news at no_layer in
    let cut : drop at news ≡ new ∷ drop (at + 1) news = rw (add-one at) (drop-cons news at no_layer c.loop-at-test.true) in
    let parts : IsSplit new.clip c.loop-at.rest c.in_ok-inside.field-0.inside c.in_ok-inside.field-0.outside = record { inside = c.in_ok-inside.ensures.inside; outside = c.in_ok-inside.ensures.outside } in
    goes_on_new new news c.args.piece c.args.found.now.items c.loop-at.found.items c.push_part.new.parts.items at (at + 1) c.loop-at.rest c.in_ok-inside.field-0.inside c.in_ok-inside.field-0.outside
    cut parts c.in_ok-push_part.ensures c.loop-at.invariant

pub returns : goal.returns
returns c =
    let news = c.args.news.now in
    let at = c.loop-at.at in
    let none : (drop at news ≡ []) ⊎ (c.loop-at.rest ≡ []) = elim c.loop-at-test.branch [
      | then-loop-at-test+else-not-is_empty w ↦ inr (w.is_empty.ensures.0 w.if-not-is_empty.false)
      | else-loop-at-test w ↦ inl (drop_all at news (omega (arith, w.loop-at-test.false)))
    ] in
    goes_on_end news c.args.piece c.args.found.now.items c.loop-at.found.items at c.loop-at.rest none c.loop-at.invariant

use Rattle.std.proofs.Common.{◌+◌, max, ℕ, [], ◌∷◌, ◌++◌, sym, refl, ap, ◌∙◌, subst, arith}
use Rattle.sf_intake.specs.Passes.{known}
use Rattle.sf_intake.specs.Posts.{Post, numbered}
use Rattle.sf_intake.specs.Views.{HasGrown, TakerView, taker_view}
use Rattle.sf_intake.specs.declared.protocol.Knows.{Knows}
use Rattle.sf_intake.proofs.TakerLemmas.{newest_drawn, pulled_is, pulled_popped, dry_heard, grown_by_one}
use Rattle.sf_intake.proofs.taker.Taker.pull.Goals as goal

pub invariant_of-self-in-Some : goal.invariant_of-self-in-Some
invariant_of-self-in-Some g c = let last = c.self.inside.last in (
  pulled_is g.N.LeaseHome.holds (known c.self.inside.pass) (known c.pop.new.taker) c.in-Some.post c.self.inside.waiting.items c.push_reserved.new.self.items last (last + 1) c.self.invariant.0 c.in-Some.ensures.popped refl
      (c.push_reserved.ensures.items ∙ (λ i. c.reserve.ensures.items i ++ numbered (last + 1) (c.post.view_is i) ∷ [])),
  newest_drawn (known c.self.inside.pass).taken (known c.pop.new.taker).taken c.in-Some.post c.self.inside.newest c.max-self-inside.result (ap (λ (k : Knows (Post g.row.L.Denot)). k.taken) c.in-Some.ensures.popped.0) c.self.invariant.1
      (c.max-self-inside.ensures ∙ ap (λ (p : Post g.row.L.Denot). max c.self.inside.newest p.stamp) c.post.view_is),
  c.in-Some.ensures.own.1,
  c.in-Some.ensures.own.2,
)

pub returns-in-Some-clause-popped : goal.returns-in-Some-clause-popped
returns-in-Some-clause-popped g c = let last = c.self.inside.last in
    pulled_popped g.N.LeaseHome.holds c.args.self.now (known c.self.inside.pass) (known c.pop.new.taker) c.in-Some.post c.self.inside.pass.web c.pop.new.taker.web c.self.inside.waiting.items c.push_reserved.new.self.items last
    (last + 1) c.self.inside.empties c.self.view_is
    (c.in-Some.ensures.own.0 ∙ (sym c.requires.own ∙ sym (ap (λ (t : TakerView g.row.L.Denot). t.intake) c.self.view_is)))
    c.self.invariant.0 c.in-Some.ensures.popped refl
    (c.push_reserved.ensures.items ∙ (λ i. c.reserve.ensures.items i ++ numbered (last + 1) (c.post.view_is i) ∷ []))

pub returns-in-None-clause-dry : goal.returns-in-None-clause-dry
returns-in-None-clause-dry g c = λ _.
    let v : Knows (Post g.row.L.Denot) = known c.self.inside.pass in
    let n = c.saturating_add-self-inside.result in
    let now : TakerView g.row.L.Denot = taker_view c.pop.new.taker.web (known c.pop.new.taker) c.reserve.new.self.items n in
    let same = c.in-None.ensures.popped.0 in
    let sum = c.saturating_add-self-inside.ensures in
    let ranges = c.self.ranges in
    record {
      counted = subst (λ (m : ℕ). HasGrown m n) (ap (λ (t : TakerView g.row.L.Denot). t.empties) c.self.view_is) (grown_by_one c.self.inside.empties n (omega (arith, sum, ranges.0, ranges.1)) sum);
      heard = dry_heard now v (ap (λ (k : Knows (Post g.row.L.Denot)). k.taken) same)
          (ap (λ (k : Knows (Post g.row.L.Denot)). k.heard) same) c.in-None.ensures.popped.1;
    }

use Rattle.std.proofs.Common.{◌≡◌, ◌<◌, ℕ, length, sym, subst, ap}
use Rattle.sf_intake.specs.Passes.{known}
use Rattle.sf_intake.specs.Posts.{Post, newest_of}
use Rattle.sf_intake.specs.Views.{IsTaker, TakerView}
use Rattle.sf_intake.specs.declared.protocol.Knows.{Knows}
use Rattle.sf_intake.proofs.TakerLemmas.{made_more}
use Rattle.sf_intake.proofs.taker.Taker.sender.Goals as goal

pub invariant_of-self : goal.invariant_of-self
invariant_of-self g c = (
  subst (λ (k : Knows (Post g.row.L.Denot)). IsTaker g.N.LeaseHome.holds k c.self.inside.waiting.items c.self.inside.last) (sym c.split_for-pass.ensures.made)
      (made_more g.N.LeaseHome.holds (known c.self.inside.pass) c.args.by.0 c.self.inside.waiting.items c.self.inside.last
      (subst (λ (n : ℕ). n < 64) (ap (λ (t : TakerView g.row.L.Denot). length t.made) (sym c.self.view_is)) c.requires.few) c.self.invariant.0),
  subst (λ (k : Knows (Post g.row.L.Denot)). c.self.inside.newest ≡ newest_of k.taken) (sym c.split_for-pass.ensures.made) c.self.invariant.1,
  c.split_for-pass.ensures.own.0.1,
  c.split_for-pass.ensures.own.0.2,
)

use Rattle.std.proofs.Common.{◌≡◌, sym, subst}
use Rattle.sf_intake.specs.Passes.{known}
use Rattle.sf_intake.specs.Posts.{Post, newest_of}
use Rattle.sf_intake.specs.Rule.{note}
use Rattle.sf_intake.specs.Views.{IsTaker}
use Rattle.sf_intake.specs.declared.protocol.Knows.{Knows}
use Rattle.sf_intake.proofs.TakerLemmas.{heard_more}
use Rattle.sf_intake.proofs.taker.Taker.hear.Goals as goal

pub invariant_of-self : goal.invariant_of-self
invariant_of-self g c = (
  subst (λ (k : Knows (Post g.row.L.Denot)). IsTaker g.N.LeaseHome.holds k c.self.inside.waiting.items c.self.inside.last) (sym c.hear.ensures.heard)
      (heard_more g.N.LeaseHome.holds (known c.self.inside.pass) (note (known c.sender.inside.pass)) c.self.inside.waiting.items c.self.inside.last c.self.invariant.0),
  subst (λ (k : Knows (Post g.row.L.Denot)). c.self.inside.newest ≡ newest_of k.taken) (sym c.hear.ensures.heard) c.self.invariant.1,
  c.hear.ensures.own.0.1,
  c.hear.ensures.own.0.2,
)

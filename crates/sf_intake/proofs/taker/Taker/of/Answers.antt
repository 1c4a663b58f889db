use Rattle.std.proofs.Common.{◌≡◌, refl, subst, sym}
use Rattle.sf_intake.specs.Posts.{Post, newest_of}
use Rattle.sf_intake.specs.Views.{taker_view}
use Rattle.sf_intake.specs.declared.protocol.Knows.{Knows}
use Rattle.sf_intake.proofs.TakerLemmas.{opens_taker}
use Rattle.sf_intake.proofs.taker.Taker.of.Goals as goal

pub invariant_of-result : goal.invariant_of-result
invariant_of-result g c = (
  opens_taker g.N.LeaseHome.holds _ _ c.requires.opened c.new.ensures.items,
  subst (λ (k : Knows (Post g.row.L.Denot)). 0 ≡ newest_of k.taken) (sym c.requires.opened) refl,
  c.requires.idle.0,
  c.requires.idle.1,
)

pub returns : goal.returns
returns g c = λ i. taker_view c.args.pass.web (c.requires.opened i) (c.new.ensures.items i) 0

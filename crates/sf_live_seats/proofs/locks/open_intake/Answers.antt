use Rattle.std.proofs.Common.{◌≡◌, ◌∙◌, ℕ, None, Some, ap, refl, subst, sym}
use Rattle.std.specs.Prelude.{Bool}
use Rattle.sf_intake.specs.Views.{TakerView, first_taker}
use Rattle.sf_actor.specs.sf_surface.Tokens.{ReadLeaseOf}
use Rattle.sf_live_seats.specs.declared.at_intake.AtIntake.TheVariants as at
use Rattle.sf_live_seats.specs.Closing.{OpensIntake}
use Rattle.sf_live_seats.proofs.locks.open_intake.Goals as goal

pub returns-then-tells : goal.returns-then-tells
returns-then-tells g c = subst (λ (tells : Bool). OpensIntake tells None at.Nothing) (sym c.if-tells.true) (refl, refl)

pub returns : goal.returns
returns g c =
    let taker : c.of.result.taker ≡ first_taker c.in_ok-intake.intake = c.of.ensures.taker ∙ c.in_ok-intake.ensures in
    let same = ap (λ (t : TakerView ReadLeaseOf). t.intake) taker in
    subst (λ (tells : Bool). OpensIntake tells (Some c.in_ok-intake.intake) (at.Takes c.of.result)) (sym c.if-tells.false) (record {
      inbox = c.of.result;
      takes = refl;
      intake_is = ap (λ (i : ℕ × ℕ). Some i) (sym same);
      taker = taker ∙ ap (λ (i : ℕ × ℕ). first_taker i) (sym same);
      empty = c.of.ensures.empty;
    })

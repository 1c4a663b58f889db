use Rattle.std.proofs.Common.{◌∙◌, ℕ, None, ap, refl, subst, sym}
use Rattle.sf_intake.specs.Views.{SenderView, new_sender}
use Rattle.sf_actor.specs.sf_surface.Tokens.{ReadLeaseOf}
use Rattle.sf_live_seats.specs.declared.at_intake.AtIntake.TheVariants as at
use Rattle.sf_live_seats.specs.First.{HandsOut, MayHandOut}
use Rattle.sf_live_seats.proofs.ReunitedPass.{some_same}
use Rattle.sf_live_seats.proofs.first.hand_out.Goals as goal

pub unreachable-requires : goal.unreachable-requires
unreachable-requires g c =
    let may = subst (λ first. MayHandOut c.args.locks.now c.args.by first) c.in-Takes.is c.requires.may in
    (let f = sym c.in_default.is ∙ may.0 in cc)

pub admit-requires : goal.admit-requires
admit-requires g c =
    let may = subst (λ first. MayHandOut c.args.locks.now c.args.by first) c.in-Takes.is c.requires.may in
    record { own = some_same (sym may.0 ∙ c.in-Some.is); fresh = may.1; count = may.2 }

pub returns-in_ok-sender-in-Takes : goal.returns-in_ok-sender-in-Takes
returns-in_ok-sender-in-Takes g c =
    let may = subst (λ first. MayHandOut c.args.locks.now c.args.by first) c.in-Takes.is c.requires.may in
    let same = some_same (sym c.in-Some.is ∙ may.0) in
    subst (λ first. HandsOut c.args.by c.args.pass first (at.Takes c.admit.new.self) None (at.Sends (record { sender = c.in_ok-sender-in-Takes.sender; count = 0 }))) (sym c.in-Takes.is) (record {
      after = c.admit.new.self;
      takes = refl;
      admits = c.in_ok-sender-in-Takes.ensures.admits;
      none = refl;
      sends =
          ap (λ (s : SenderView ReadLeaseOf). at.Sends (record { sender = s; count = 0 }))
          (c.in_ok-sender-in-Takes.ensures.given ∙ ap (λ (intake : ℕ × ℕ). new_sender intake (record { 0 = c.args.by })) same);
    })

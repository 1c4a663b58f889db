use Rattle.std.proofs.Common.{◌∙◌, ap, sym, refl, subst, inl, inr}
use Rattle.sf_base.specs.Fences.{IsSignalled}
use Rattle.sf_turns.specs.sf_picture.Pixels.{HasSize}
use Rattle.sf_turns.specs.sf_picture.declared.picture.Picture.{Picture}
use Rattle.sf_turns.specs.Views.{Leaves}
use Rattle.sf_surface.specs.Drawing.{IsShort, MayEnter}
use Rattle.sf_surface.specs.Tokens.{Issued, OwingOf}
use Rattle.sf_surface.proofs.SamePictures.{other_picture, same_picture-is}
use Rattle.sf_surface.proofs.token.Owing.draw.Goals as goal

pub returns-then-not-is_same-clause-pays : goal.returns-then-not-is_same-clause-pays
returns-then-not-is_same-clause-pays g c =
    let promises = c.promised.ensures ∙ ap (λ (o : OwingOf). o.turn.promises) c.self.view_is in
    (λ same. other_picture c.args.picture.now c.promised.result.now (sym c.if-not-is_same.ensures) (same ∙ sym promises), refl, refl)

pub returns-then-is_some-clause-pays : goal.returns-then-is_some-clause-pays
returns-then-is_some-clause-pays g c =
    let promises = c.promised.ensures ∙ ap (λ (o : OwingOf). o.turn.promises) c.self.view_is in
    let same = same_picture-is c.args.picture.now c.promised.result.now (sym c.if-not-is_same.ensures) in
    let some = c.if-is_some.ensures in (
      same ∙ promises,
      refl,
      inl (λ signalled. (let none = c.first_open.ensures.signalled.1 (subst (λ (o : OwingOf). IsSignalled o.fence c.args.seen.now) (sym c.self.view_is) signalled) in cc (some, none)), refl),
    )

pub repaint-requires-clause-size : goal.repaint-requires-clause-size
repaint-requires-clause-size g c =
    let is = c.in-Ok.ensures.same ∙ same_picture-is c.args.picture.now c.promised.result.now (sym c.if-not-is_same.ensures) ∙ c.promised.ensures in
    subst HasSize (sym is) c.self.invariant.fits

pub repaint-requires-clause-same_width : goal.repaint-requires-clause-same_width
repaint-requires-clause-same_width g c =
    let is = c.in-Ok.ensures.same ∙ same_picture-is c.args.picture.now c.promised.result.now (sym c.if-not-is_same.ensures) ∙ c.promised.ensures in
    ap (λ (p : Picture). p.width) is ∙ (sym c.self.invariant.wide ∙ sym (ap (λ (p : Picture). p.width) c.in-Ok-enter.ensures.entered.1))

pub repaint-requires-clause-same_height : goal.repaint-requires-clause-same_height
repaint-requires-clause-same_height g c =
    let is = c.in-Ok.ensures.same ∙ same_picture-is c.args.picture.now c.promised.result.now (sym c.if-not-is_same.ensures) ∙ c.promised.ensures in
    ap (λ (p : Picture). p.height) is ∙ (sym c.self.invariant.high ∙ sym (ap (λ (p : Picture). p.height) c.in-Ok-enter.ensures.entered.1))

pub leave-requires-clause-promised : goal.leave-requires-clause-promised
leave-requires-clause-promised g c =
    let same = same_picture-is c.args.picture.now c.promised.result.now (sym c.if-not-is_same.ensures) in
    c.repaint.ensures ∙ c.in-Ok.ensures.same ∙ same ∙ c.promised.ensures ∙ ap (λ (t : Issued). t.promises) (sym c.in-Ok-enter.ensures.entered.0)

pub returns-in-Ok-enter-clause-pays : goal.returns-in-Ok-enter-clause-pays
returns-in-Ok-enter-clause-pays g c =
    let promises = c.promised.ensures ∙ ap (λ (o : OwingOf). o.turn.promises) c.self.view_is in
    let same = same_picture-is c.args.picture.now c.promised.result.now (sym c.if-not-is_same.ensures) in
    let turn = c.in-Ok-enter.ensures.entered.0 ∙ ap (λ (o : OwingOf). o.turn) c.self.view_is in (
      same ∙ promises,
      subst (λ (o : OwingOf). IsSignalled o.fence c.args.seen.now) c.self.view_is (c.first_open.ensures.signalled.0 (sym c.if-is_some.ensures)),
      (
        c.enter.new.seat,
        subst (λ (o : OwingOf). MayEnter o.turn.buffer o.turn.number c.args.seat.now c.enter.new.seat) c.self.view_is c.in-Ok-enter.ensures.observed,
        subst (λ (t : Issued). Leaves c.enter.new.seat t.buffer t.number c.leave.new.seat) turn c.leave.ensures.left,
      ),
    )

pub returns-in-Err-clause-pays : goal.returns-in-Err-clause-pays
returns-in-Err-clause-pays g c =
    let promises = c.promised.ensures ∙ ap (λ (o : OwingOf). o.turn.promises) c.self.view_is in
    let same = same_picture-is c.args.picture.now c.promised.result.now (sym c.if-not-is_same.ensures) in
    let inside = c.self.inside in
    let back = ap (λ (t : Issued). let owing : OwingOf = record { queue = inside.queue; slot = inside.slot; frame = inside.frame; fence = inside.fence; turn = t } in owing) c.in-Err.ensures.back in (
      same ∙ promises,
      back ∙ c.self.view_is,
      inr (
        subst (λ (o : OwingOf). IsSignalled o.fence c.args.seen.now) c.self.view_is (c.first_open.ensures.signalled.0 (sym c.if-is_some.ensures)),
        subst (λ (o : OwingOf). IsShort o.turn.buffer o.turn.number c.args.seat.now c.enter.new.seat) c.self.view_is c.in-Err.ensures.observed,
      ),
    )

use Rattle.std.proofs.Common.{◌≡◌, ◌∙◌, ap, rules, subst, sym}
use Rattle.sf_surface.specs.declared.work.Work.{Work}
use Rattle.sf_surface.specs.declared.work.Work.TheVariants as work
use Rattle.sf_surface.specs.Drawing.{Enters, MayBegin, drawn_with}
use Rattle.sf_surface.specs.inner.Lent.{lease_with}
use Rattle.sf_surface.specs.Tokens.{turn_of}
use Rattle.sf_surface.proofs.token.WriteLease.draw.Goals as goal

pub returns-in-Ok-enter-clause-draws : goal.returns-in-Ok-enter-clause-draws
returns-in-Ok-enter-clause-draws g c =
    let lease = c.args.self in
    let seen = c.args.seen.now in
    let is : lease.work ≡ work.Fresh c.in-Fresh.turn = sym c.parts_of-lent.ensures.work ∙ c.in-Fresh.is in
    let inside = c.in-Ok-enter.ensures.entered.0 ∙ ap turn_of (sym is) in
    let pixels = c.repaint-in-Ok-enter.ensures ∙ c.in-Ok.ensures.same in
    let given : c.lease-in-Ok-enter.result ≡ drawn_with lease c.args.picture.now =
    c.lease-in-Ok-enter.ensures ∙ (λ i. lease_with (c.parts_of-lent.ensures.lent i) (work.Drawn (inside i) (pixels i))) in
    let begins = subst (λ (w : Work). MayBegin w lease.fence seen) is (c.has_to_wait.ensures.begins c.if-has_to_wait.false) in (
      search rules,
      given,
      subst (λ (w : Work). Enters w lease.fence seen c.args.seat.now c.enter.new.seat) (sym is) (begins, c.in-Ok-enter.ensures.observed),
    )

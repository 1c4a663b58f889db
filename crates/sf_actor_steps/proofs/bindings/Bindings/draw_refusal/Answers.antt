use Rattle.std.proofs.Common.{cond, None, Some, ◌∙◌, Bool, ap, not, sym}
use Rattle.sf_actor.specs.sf_picture.declared.picture.Picture.{Picture}
use Rattle.sf_actor.specs.sf_surface.Tokens.{is_size_of}
use Rattle.sf_actor.specs.Scripts.{picture_at}
use Rattle.sf_actor_steps.specs.Bindings.{holdings_of}
use Rattle.sf_actor_steps.proofs.RefusalLemmas.{draw_empty, draw_lent, draw_owed}
use Rattle.sf_actor_steps.proofs.bindings.Bindings.draw_refusal.Goals as goal

pub returns-in-Some : goal.returns-in-Some
returns-in-Some g c =
    let lease = c.in-Some.lease.now in
    let fits = c.fits.ensures ∙ ap (λ (p : Picture). is_size_of p lease.held) c.picture_of.ensures in
    c.refused_if.ensures ∙ (ap (λ (b : Bool). cond (not b) (Some 11) None) fits
    ∙ sym (draw_lent (picture_at c.args.pictures.now) (holdings_of c.args.self.now) c.args.name c.args.picture lease c.in-Some.ensures))

pub returns-in-Some-owed : goal.returns-in-Some-owed
returns-in-Some-owed g c =
    let owing = c.in-Some-owed.owing.now in
    c.refused_if-in-Some-owed.ensures ∙ (ap (λ (b : Bool). cond b (Some 11) None) c.owes_other.ensures
    ∙ sym (draw_owed (picture_at c.args.pictures.now) (holdings_of c.args.self.now) c.args.name c.args.picture owing c.in-Some-owed.ensures.0 c.in-Some-owed.ensures.1))

pub returns-in-None : goal.returns-in-None
returns-in-None g c = sym (draw_empty (picture_at c.args.pictures.now) (holdings_of c.args.self.now) c.args.name c.args.picture c.in_default.ensures c.in-None.ensures)

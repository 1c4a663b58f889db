use Rattle.std.proofs.Common.{◌≡◌, ◌∙◌, ap, false, not, subst, sym}
use Rattle.sf_surface.specs.declared.work.Work.{Work}
use Rattle.sf_surface.specs.Calls.{shows_other}
use Rattle.sf_surface.specs.Pictures.{same_picture}
use Rattle.sf_surface.specs.Tokens.{Issued, turn_of}
use Rattle.sf_surface.proofs.SamePictures.{not_unmet, same_picture-is}
use Rattle.sf_surface.proofs.rights.promise_work.Goals as goal

pub invariant_of-result : goal.invariant_of-result
invariant_of-result g c =
    let busy = c.in-Ok-issue.ensures.busy in
    let table = ap (λ (w : Work). (turn_of w).table) (sym c.in-Drawn.is) ∙ c.requires.table in
    let same : not (same_picture c.in-Drawn.pixels c.args.picture) ≡ false = subst (λ (w : Work). shows_other w c.args.picture ≡ false) c.in-Drawn.is c.requires.same in
    record {
      of_table = ap (λ (v : Issued). v.table) busy ∙ table;
      shows = same_picture-is c.in-Drawn.pixels c.args.picture (not_unmet (same_picture c.in-Drawn.pixels c.args.picture) same) ∙ sym (ap (λ (v : Issued). v.promises) busy);
    }

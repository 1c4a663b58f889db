use Rattle.std.proofs.Common.{subst, sym}
use Rattle.std.proofs.lemmas.List.Elements.{All-push}
use Rattle.sf_output_screen.specs.ScreenLists.{AreShown}
use Rattle.sf_output_screen.specs.Screens.{IsShown}
use Rattle.sf_output_screen.specs.declared.screens.OutputScreen.{OutputScreen}
use Rattle.sf_play_write.proofs.VsyncLemmas.{still_shown}
use Rattle.sf_play_write.proofs.WritingLemmas.{part_whole}
use Rattle.sf_play_write.proofs.vsync.write_on.Goals as goal

pub returns-in-Ok-put-clause-shown : goal.returns-in-Ok-put-clause-shown
returns-in-Ok-put-clause-shown g c = λ pictures is was.
    subst (AreShown pictures) (sym c.in-Ok-put.ensures.ok)
    (All-push (λ (one : OutputScreen). IsShown pictures one.screen) c.args.screens.now _ was
    (still_shown pictures c.args.image.shows c.write_shown.new.screen c.write_shown.ensures.view c.write_shown.ensures.frame is))

pub returns-in-Err-put-clause-wrote : goal.returns-in-Err-put-clause-wrote
returns-in-Err-put-clause-wrote g c = record { ok = tt; err = part_whole _ _ _ c.in-Ok.ensures.wrote.ok; later = c.in-Ok.ensures.wrote.later; failed = λ fails. absurd (cc fails) }

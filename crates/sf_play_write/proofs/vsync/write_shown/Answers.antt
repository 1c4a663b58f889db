use Rattle.std.proofs.Common.{◌++◌, ◌∙◌, ap}
use Rattle.sf_output_screen.specs.Screens.{ScreenOf, head_of}
use Rattle.sf_play_write.proofs.VsyncLemmas.{image_begins, image_is}
use Rattle.sf_play_write.proofs.WritingLemmas.{one_part, one_written}
use Rattle.sf_play_write.proofs.vsync.write_shown.Goals as goal

pub write_image-requires : goal.write_image-requires
write_image-requires g c =
    let body = c.body.ensures c.args.number (ap (λ (s : ScreenOf). s.numbers) c.number.ensures) ∙ ap (λ (s : ScreenOf). head_of c.args.of c.args.number ++ s.frame) c.number.ensures in
    record { begins = image_begins c.args.of c.args.number c.body.result.now c.args.screen.now.frame body }

pub returns-clause-wrote : goal.returns-clause-wrote
returns-clause-wrote g c =
    let body = c.body.ensures c.args.number (ap (λ (s : ScreenOf). s.numbers) c.number.ensures) ∙ ap (λ (s : ScreenOf). head_of c.args.of c.args.number ++ s.frame) c.number.ensures in
    let is = image_is c.args.of c.args.number c.body.result.now c.args.screen.now.frame body in
    record {
      ok = one_written c.write_image.result _ _ _ _ is c.write_image.ensures.ok c.write_image.ensures.fits;
      err = one_part c.write_image.result _ _ _ _ is c.write_image.ensures.err c.write_image.ensures.begun (λ wanting. ap g.K.Sink.taken (c.write_image.ensures.nothing wanting));
      later = c.write_image.ensures.later;
      failed = c.write_image.ensures.failed;
    }

use Rattle.std.proofs.Common.{ℕ, Ok, All, map}
use Rattle.sf_output.specs.Outputs.{OfImage}
use Rattle.sf_output_screen.specs.sf_picture.declared.picture.Picture.{Picture}
use Rattle.sf_output_screen.specs.ScreenLists.{AreShown}
use Rattle.sf_output_screen.specs.Screens.{IsShown}
use Rattle.sf_play_write.specs.Vsyncs.{shown_record}
use Rattle.sf_play_write.specs.Writing.{Wrote}
use Rattle.sf_play_write.proofs.vsync.write_outputs.Given as goal

abbrev pub invariant-loop-image : goal.invariant-loop-image
invariant-loop-image g l = record {
  can_next : (goal.iterator-loop-image g).can_next l.image-iterator;
  is_finite : (goal.iterator-loop-image g).is_finite l.image-iterator;
  written : Wrote {A = Unit {0}} g.K.Sink.taken g.K.Sink.faults l.fn.sink l.sink (Ok tt) (map (shown_record l.number) l.yielded);
  shown : (pictures : ℕ → Picture) → All (OfImage (IsShown pictures)) l.fn.images.items → AreShown pictures l.fn.screens → AreShown pictures l.screens;
}

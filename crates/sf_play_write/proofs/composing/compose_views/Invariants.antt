use Rattle.std.proofs.Common.{ℕ, All, map}
use Rattle.sf_output.specs.Outputs.{OfImage}
use Rattle.sf_output_screen.specs.sf_picture.declared.picture.Picture.{Picture}
use Rattle.sf_output_screen.specs.ScreenLists.{AreShown}
use Rattle.sf_play_write.specs.Vsyncs.{AreComposed, AreSameOutputs, FindPictures, HasView, KeepsShown}
use Rattle.sf_play_write.proofs.composing.compose_views.Given as goal

abbrev pub invariant-loop-output : goal.invariant-loop-output
invariant-loop-output g l = record {
  can_next : (goal.iterator-loop-output g).can_next l.output-iterator;
  is_finite : (goal.iterator-loop-output g).is_finite l.output-iterator;
  outputs : AreSameOutputs l.yielded l.images.items;
  showed : All (OfImage HasView) l.images.items;
  composed : (pictures : ℕ → Picture) → FindPictures pictures (map g.C.Pixels.picture l.contents) l.fn.views.items → AreShown pictures l.fn.screens
      → AreComposed pictures l.yielded l.images.items;
  shown : KeepsShown l.fn.screens l.screens;
}

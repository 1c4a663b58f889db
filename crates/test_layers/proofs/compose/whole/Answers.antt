use Rattle.std.proofs.Common.{◌∙◌, ap}
use Rattle.sf_view.specs.Views.{ViewOf}
use Rattle.test_layers.proofs.DrawnPictures.{readable}
use Rattle.test_layers.proofs.compose.whole.Goals as goal

pub compose_frame-requires : goal.compose_frame-requires
compose_frame-requires c = record {
  readable = rw c.deref.ensures.value (readable c.args.contents.now c.as_slice.result.now c.args.view.now.drawn c.in-Some.sources.items (c.as_slice.ensures ∙ ap (λ (v : ViewOf). v.drawn) c.view.view_is) c.in-Some.ensures);
}

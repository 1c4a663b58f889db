use Rattle.std.proofs.Common.{◌∙◌, ap}
use Rattle.sf_view.specs.Views.{ViewOf}
use Rattle.test_layers.proofs.DrawnPictures.{readable}
use Rattle.test_layers.proofs.compose.add.Goals as goal

pub compose_one-requires-clause-readable : goal.compose_one-requires-clause-readable
compose_one-requires-clause-readable g c =
    rw c.deref.ensures.value (readable c.args.contents.now c.as_slice.result.now c.args.view.now.drawn c.in-Some.sources.items (c.as_slice.ensures ∙ ap (λ (v : ViewOf). v.drawn) c.view.view_is) c.in-Some.ensures)

pub compose-requires-clause-readable : goal.compose-requires-clause-readable
compose-requires-clause-readable g c κs within =
    rw c.deref-in-Parallel.ensures.value (readable c.args.contents.now c.as_slice.result.now c.args.view.now.drawn c.in-Some.sources.items (c.as_slice.ensures ∙ ap (λ (v : ViewOf). v.drawn) c.view.view_is) c.in-Some.ensures)

pub compose_seen-requires-clause-readable : goal.compose_seen-requires-clause-readable
compose_seen-requires-clause-readable g c =
    rw c.deref-in-Seen.ensures.value (readable c.args.contents.now c.as_slice.result.now c.args.view.now.drawn c.in-Some.sources.items (c.as_slice.ensures ∙ ap (λ (v : ViewOf). v.drawn) c.view.view_is) c.in-Some.ensures)

use Rattle.std.proofs.Common.{ℕ, ◌≤◌, List, arith, sym, subst, ◌∙◌, OnErr, OnOk}
use Rattle.std.specs.Prelude.{All}
use Rattle.std.proofs.lemmas.List.{map-id}
use Rattle.sf_output_screen.specs.sf_picture.declared.picture.Picture.{Picture}
use Rattle.sf_output_screen.specs.ScreenLists.{AreShown}
use Rattle.sf_play_write.specs.Vsyncs.{AreReadableViews, CutsVsync, FindPictures, WritesVsync, vsync_shown}
use Rattle.sf_play_write.specs.Writing.{Writes, WritesPart}
use Rattle.sf_play_write.proofs.VsyncLemmas.{begun_if, told_if, vsync_begun, vsync_cut, vsync_told, vsync_unbegun, vsync_written}
use Rattle.sf_play_write.proofs.WritingLemmas.{part_none}
use Rattle.sf_play_write.proofs.vsync.show_vsync.Goals as goal

pub returns-in-Err-clause-err : goal.returns-in-Err-clause-err
returns-in-Err-clause-err g c = λ pictures expected shown. part_none (g.K.Sink.taken c.args.sink.now) _

pub returns-in-Err-clause-ended : goal.returns-in-Err-clause-ended
returns-in-Err-clause-ended g c = record {
  ok = tt;
  err = vsync_unbegun c.args.shows.now.plan c.args.shows.now.timelines.items c.args.handler.now.tree.layers c.args.report (g.K.Sink.taken c.args.sink.now);
  later = omega arith;
  failed = λ fails. absurd (cc fails);
}

pub compose_views-requires-clause-readable : goal.compose_views-requires-clause-readable
compose_views-requires-clause-readable g c = λ lives outlives.
    subst (λ (contents : List Picture). AreReadableViews contents c.in-Ok.views.items) (sym (map-id c.contents.result.now ∙ c.contents.ensures.pictures)) c.in-Ok.ensures.readable

pub write_vsync-requires-clause-timelines : goal.write_vsync-requires-clause-timelines
write_vsync-requires-clause-timelines g c = subst (All (λ (timeline : ℕ). (1 ≤ timeline) × (timeline ≤ 64))) (sym c.deref.ensures.value) c.requires.timelines

pub returns-in-Err-compose_views-clause-err : goal.returns-in-Err-compose_views-clause-err
returns-in-Err-compose_views-clause-err g c = λ pictures expected shown. part_none (g.K.Sink.taken c.args.sink.now) _

pub returns-in-Err-compose_views-clause-ended : goal.returns-in-Err-compose_views-clause-ended
returns-in-Err-compose_views-clause-ended g c = record {
  ok = tt;
  err = vsync_unbegun c.args.shows.now.plan c.args.shows.now.timelines.items c.args.handler.now.tree.layers c.args.report (g.K.Sink.taken c.args.sink.now);
  later = omega arith;
  failed = λ fails. absurd (cc fails);
}

pub returns-in-Ok-compose_views-clause-ok : goal.returns-in-Ok-compose_views-clause-ok
returns-in-Ok-compose_views-clause-ok g c = λ pictures expected was.
    let contents = map-id c.contents.result.now ∙ c.contents.ensures.pictures in
    let finds = subst (λ (l : List Picture). FindPictures pictures l c.in-Ok.views.items) (sym contents) (c.in-Ok.ensures.found pictures expected) in
    subst (λ (timelines : List ℕ). OnOk c.write_vsync.result (Writes (g.K.Sink.taken c.args.sink.now) (g.K.Sink.taken c.write_vsync.new.sink) (vsync_shown pictures c.args.shows.now.plan timelines c.args.report c.args.handler.now.tree.layers)
    × AreShown pictures c.write_vsync.new.screens)) c.deref.ensures.value
    (vsync_written c.write_vsync.result _ _ pictures c.args.shows.now.plan c.deref.result.now c.args.report c.args.handler.now.tree.layers c.in-Ok.views.items c.in-Ok-compose_views.images.items
    c.compose_views.new.screens c.write_vsync.new.screens c.in-Ok.ensures.due (c.in-Ok-compose_views.ensures.images.composed pictures finds was) c.write_vsync.ensures.wrote.ok
    (c.write_vsync.ensures.shown pictures) (c.compose_views.ensures.shown pictures was))

pub returns-in-Ok-compose_views-clause-err : goal.returns-in-Ok-compose_views-clause-err
returns-in-Ok-compose_views-clause-err g c = λ pictures expected was.
    let contents = map-id c.contents.result.now ∙ c.contents.ensures.pictures in
    let finds = subst (λ (l : List Picture). FindPictures pictures l c.in-Ok.views.items) (sym contents) (c.in-Ok.ensures.found pictures expected) in
    subst (λ (timelines : List ℕ). OnErr c.write_vsync.result (WritesPart (g.K.Sink.taken c.args.sink.now) (g.K.Sink.taken c.write_vsync.new.sink) (vsync_shown pictures c.args.shows.now.plan timelines c.args.report c.args.handler.now.tree.layers)))
    c.deref.ensures.value
    (vsync_cut c.write_vsync.result _ _ pictures c.args.shows.now.plan c.deref.result.now c.args.report c.args.handler.now.tree.layers c.in-Ok.views.items c.in-Ok-compose_views.images.items
    c.in-Ok.ensures.due (c.in-Ok-compose_views.ensures.images.composed pictures finds was) c.write_vsync.ensures.wrote.err)

pub returns-in-Ok-compose_views-clause-ended : goal.returns-in-Ok-compose_views-clause-ended
returns-in-Ok-compose_views-clause-ended g c =
    let wrote = c.write_vsync.ensures.wrote in
    record {
      ok = subst (λ (timelines : List ℕ). OnOk c.write_vsync.result (WritesVsync c.args.shows.now.plan timelines c.args.handler.now.tree.layers c.args.report (g.K.Sink.taken c.args.sink.now) (g.K.Sink.taken c.write_vsync.new.sink)))
          c.deref.ensures.value
          (told_if c.write_vsync.result (vsync_told c.args.shows.now.plan c.deref.result.now c.args.handler.now.tree.layers c.args.report _ _ c.in-Ok.views.items c.in-Ok-compose_views.images.items
          c.in-Ok.ensures.due c.in-Ok-compose_views.ensures.images.outputs) wrote.ok);
      err = subst (λ (timelines : List ℕ). OnErr c.write_vsync.result (CutsVsync c.args.shows.now.plan timelines c.args.handler.now.tree.layers c.args.report (g.K.Sink.taken c.args.sink.now) (g.K.Sink.taken c.write_vsync.new.sink)))
          c.deref.ensures.value
          (begun_if c.write_vsync.result (vsync_begun c.args.shows.now.plan c.deref.result.now c.args.handler.now.tree.layers c.args.report _ _ c.in-Ok.views.items c.in-Ok-compose_views.images.items
          c.in-Ok.ensures.due c.in-Ok-compose_views.ensures.images.outputs) wrote.err);
      later = wrote.later;
      failed = wrote.failed;
    }

use Rattle.std.proofs.Common.{◌≡◌, ◌≤◌, ℕ, Err, List, false, ap, arith, map, refl, sym, ◌∙◌, subst}
use Rattle.std.specs.Prelude.{All}
use Rattle.sf_live_threads.specs.sf_io.Causes.{Rose}
use Rattle.sf_live_threads.specs.sf_commit.Handlers.{HandlerOf}
use Rattle.sf_live_threads.specs.sf_surface.Tokens.{ReadLeaseOf}
use Rattle.sf_play_write.specs.declared.shows.Shows.{Shows}
use Rattle.sf_play_write.specs.sf_record.declared.encode.RunFault.{RunFault}
use Rattle.sf_play_write.specs.sf_play.Playing.{expected_by}
use Rattle.sf_play_write.specs.Vsyncs.{AreImagesOf, CutsVsync, WritesVsync, vsync_shown}
use Rattle.sf_play_write.specs.Writing.{Writes}
use Rattle.sf_play_write.proofs.VsyncLemmas.{composed_shown, records_are, vsync_begun, vsync_told, vsync_unbegun, vsync_whole}
use Rattle.sf_live_compositor.specs.Sitting.{MakesVsync}
use Rattle.sf_live_compositor.specs.Vsyncs.{Sitting}
use Rattle.sf_live_compositor.proofs.FaultCounts.{err_fault}
use Rattle.sf_live_compositor.proofs.Shown.{if_ok, is_stage, may_make, on_ok, sits_on}
use Rattle.sf_live_compositor.proofs.compositor.Compositor.show_behind.Goals as goal

pub make_behind-composed-requires-clause-next : goal.make_behind-composed-requires-clause-next
make_behind-composed-requires-clause-next g c κs within = may_make _ _ _ _ _ c.requires.next

pub make_behind-composed-requires-clause-all : goal.make_behind-composed-requires-clause-all
make_behind-composed-requires-clause-all g c κs within = c.requires.next.may.all

pub write_vsync-requires-clause-timelines : goal.write_vsync-requires-clause-timelines
write_vsync-requires-clause-timelines g c =
    subst (All (λ (timeline : ℕ). (1 ≤ timeline) × (timeline ≤ 64))) (sym (c.deref.ensures.value ∙ ap (λ (s : Shows). s.timelines.items) c.make_behind-composed.ensures.same.shows)) c.requires.next.set.ranges

pub returns-in-Err-clause-same : goal.returns-in-Err-clause-same
returns-in-Err-clause-same g c = record { workers = refl; shows = refl; period = refl; sink = refl }

pub returns-in_default-clause-same : goal.returns-in_default-clause-same
returns-in_default-clause-same g c = let same = c.make_behind-composed.ensures.same in record { workers = same.workers; shows = same.shows; period = same.period; sink = same.sink }

pub returns-in-Err-write_vsync-clause-same : goal.returns-in-Err-write_vsync-clause-same
returns-in-Err-write_vsync-clause-same g c = let same = c.make_behind-composed.ensures.same in record { workers = same.workers; shows = same.shows; period = same.period; sink = same.sink }

pub returns-in-Err-made-clause-same : goal.returns-in-Err-made-clause-same
returns-in-Err-made-clause-same g c = let same = c.make_behind-composed.ensures.same in record { workers = same.workers; shows = same.shows; period = same.period; sink = same.sink }

pub returns-in-Ok-made-clause-same : goal.returns-in-Ok-made-clause-same
returns-in-Ok-made-clause-same g c = let same = c.make_behind-composed.ensures.same in record { workers = same.workers; shows = same.shows; period = same.period; sink = same.sink }

pub returns-in-Ok-made-clause-written : goal.returns-in-Ok-made-clause-written
returns-in-Ok-made-clause-written g c = λ pictures expected was.
    let self = c.args.self.now in
    let mid = c.make_behind-composed in
    let layers = self.decider.handler.tree.layers in
    let views = c.in-Ok.views.items in
    let images = c.in-Ok-composed.images.items in
    let all = if_ok mid.result.0 c.in-Ok-composed.images (λ images. AreImagesOf (map expected_by self.decider.handler.on) c.in-Ok.views.items self.screens images.items) c.in-Ok-composed.is mid.ensures.images in
    let timelines = c.deref.ensures.value ∙ ap (λ (s : Shows). s.timelines.items) mid.ensures.same.shows in
    let composed = all.composed pictures (c.in-Ok.ensures.found pictures expected) was in (
      subst (λ s. Writes (g.K.Sink.taken s.now) (g.K.Sink.taken c.write_vsync.new.sink) (vsync_shown pictures self.shows.plan self.shows.timelines.items c.args.last layers)) mid.ensures.sink
          (subst (Writes (g.K.Sink.taken mid.new.self.sink.now) (g.K.Sink.taken c.write_vsync.new.sink))
          (records_are pictures self.shows.plan c.deref.result.now c.args.last layers views images c.in-Ok.ensures.due composed ∙ ap (λ (ts : List ℕ). vsync_shown pictures self.shows.plan ts c.args.last layers) timelines)
          c.in-Ok-write_vsync.ensures.wrote.ok),
      c.in-Ok-write_vsync.ensures.shown pictures (composed_shown pictures views images composed) (mid.ensures.shown pictures was),
    )

pub returns-in-Ok-made-clause-stage : goal.returns-in-Ok-made-clause-stage
returns-in-Ok-made-clause-stage g c =
    let self = c.args.self.now in
    let made = c.make_behind-composed in
    let old : Sitting g.row.B.Denot = record { handler = self.decider.handler; seats = c.args.seats.now; number = self.vsyncs } in
    let new : Sitting g.row.B.Denot = record { handler = made.new.self.decider.handler; seats = made.new.seats; number = made.new.self.vsyncs } in
    let makes = if_ok made.result.1 c.in-Ok-made.made (λ made. MakesVsync _ g.B.TableName.table c.args.locks.now self.period old new made.report) c.in-Ok-made.is made.ensures.makes in
    let alive : new.handler.is_spent ≡ false = ap (λ (h : HandlerOf ReadLeaseOf). h.is_spent) makes.vsync.decides.settled.state ∙ c.requires.next.may.alive in
    is_stage _ g.B.TableName.table c.args.locks.now self.period self.shows.plan old new c.in-Ok-made.made.report makes c.requires.next.set.planned c.requires.next.may made.ensures.few (made.ensures.buffers alive)

pub returns-in-Ok-made-clause-may : goal.returns-in-Ok-made-clause-may
returns-in-Ok-made-clause-may g c =
    let self = c.args.self.now in
    let made = c.make_behind-composed in
    let old : Sitting g.row.B.Denot = record { handler = self.decider.handler; seats = c.args.seats.now; number = self.vsyncs } in
    let new : Sitting g.row.B.Denot = record { handler = made.new.self.decider.handler; seats = made.new.seats; number = made.new.self.vsyncs } in
    let makes = if_ok made.result.1 c.in-Ok-made.made (λ made. MakesVsync _ g.B.TableName.table c.args.locks.now self.period old new made.report) c.in-Ok-made.is made.ensures.makes in
    sits_on _ g.B.TableName.table c.args.locks.now self.period self.shows.plan old new c.in-Ok-made.made.report makes c.requires.next.may made.ensures.all (on_ok made.result.1 c.in-Ok-made.made c.in-Ok-made.is made.ensures.known) (on_ok made.result.1 c.in-Ok-made.made c.in-Ok-made.is made.ensures.early)

pub returns-in-Err-clause-ended : goal.returns-in-Err-clause-ended
returns-in-Err-clause-ended g c =
    let self = c.args.self.now in
    record {
      ok = tt;
      err = vsync_unbegun self.shows.plan self.shows.timelines.items self.decider.handler.tree.layers c.args.last (g.K.Sink.taken self.sink.now);
      later = omega arith;
      failed = λ fails. absurd (cc fails);
    }

pub returns-in_default-clause-ended : goal.returns-in_default-clause-ended
returns-in_default-clause-ended g c =
    let self = c.args.self.now in
    let layers = self.decider.handler.tree.layers in
    record {
      ok = tt;
      err = subst (λ s. CutsVsync self.shows.plan self.shows.timelines.items layers c.args.last (g.K.Sink.taken self.sink.now) (g.K.Sink.taken s.now)) (sym c.make_behind-composed.ensures.sink)
          (vsync_unbegun self.shows.plan self.shows.timelines.items layers c.args.last (g.K.Sink.taken self.sink.now));
      later = subst (λ s. g.K.Sink.faults self.sink.now ≤ g.K.Sink.faults s.now) (sym c.make_behind-composed.ensures.sink) (omega arith);
      failed = λ fails. absurd (cc fails);
    }

pub returns-in-Err-write_vsync-clause-ended : goal.returns-in-Err-write_vsync-clause-ended
returns-in-Err-write_vsync-clause-ended g c =
    let self = c.args.self.now in
    let mid = c.make_behind-composed in
    let layers = self.decider.handler.tree.layers in
    let all = if_ok mid.result.0 c.in-Ok-composed.images (λ images. AreImagesOf (map expected_by self.decider.handler.on) c.in-Ok.views.items self.screens images.items) c.in-Ok-composed.is mid.ensures.images in
    let timelines = c.deref.ensures.value ∙ ap (λ (s : Shows). s.timelines.items) mid.ensures.same.shows in
    record {
      ok = tt;
      err = subst (λ s. CutsVsync self.shows.plan self.shows.timelines.items layers c.args.last (g.K.Sink.taken s.now) (g.K.Sink.taken c.write_vsync.new.sink)) mid.ensures.sink
          (subst (λ (ts : List ℕ). CutsVsync self.shows.plan ts layers c.args.last (g.K.Sink.taken mid.new.self.sink.now) (g.K.Sink.taken c.write_vsync.new.sink)) timelines
          (vsync_begun self.shows.plan c.deref.result.now layers c.args.last _ _ c.in-Ok.views.items c.in-Ok-composed.images.items c.in-Ok.ensures.due all.outputs c.in-Err-write_vsync.ensures.wrote.err));
      later = subst (λ s. g.K.Sink.faults s.now ≤ g.K.Sink.faults c.write_vsync.new.sink) mid.ensures.sink c.write_vsync.ensures.wrote.later;
      failed = λ is. subst (λ s. Rose (g.K.Sink.faults s.now) (g.K.Sink.faults c.write_vsync.new.sink)) mid.ensures.sink
          (c.write_vsync.ensures.wrote.failed (c.in-Err-write_vsync.is ∙ ap (λ (f : RunFault). Err f) (err_fault c.in-Err-write_vsync.fault is)));
    }

pub returns-in-Err-made-clause-ended : goal.returns-in-Err-made-clause-ended
returns-in-Err-made-clause-ended g c =
    let self = c.args.self.now in
    let mid = c.make_behind-composed in
    let layers = self.decider.handler.tree.layers in
    let all = if_ok mid.result.0 c.in-Ok-composed.images (λ images. AreImagesOf (map expected_by self.decider.handler.on) c.in-Ok.views.items self.screens images.items) c.in-Ok-composed.is mid.ensures.images in
    let timelines = c.deref.ensures.value ∙ ap (λ (s : Shows). s.timelines.items) mid.ensures.same.shows in
    record {
      ok = tt;
      err = subst (λ s. CutsVsync self.shows.plan self.shows.timelines.items layers c.args.last (g.K.Sink.taken s.now) (g.K.Sink.taken c.write_vsync.new.sink)) mid.ensures.sink
          (subst (λ (ts : List ℕ). CutsVsync self.shows.plan ts layers c.args.last (g.K.Sink.taken mid.new.self.sink.now) (g.K.Sink.taken c.write_vsync.new.sink)) timelines
          (vsync_whole self.shows.plan c.deref.result.now layers c.args.last _ _
          (vsync_told self.shows.plan c.deref.result.now layers c.args.last _ _ c.in-Ok.views.items c.in-Ok-composed.images.items c.in-Ok.ensures.due all.outputs c.in-Ok-write_vsync.ensures.wrote.ok)));
      later = subst (λ s. g.K.Sink.faults s.now ≤ g.K.Sink.faults c.write_vsync.new.sink) mid.ensures.sink c.write_vsync.ensures.wrote.later;
      failed = λ fails. absurd (cc fails);
    }

pub returns-in-Ok-made-clause-ended : goal.returns-in-Ok-made-clause-ended
returns-in-Ok-made-clause-ended g c =
    let self = c.args.self.now in
    let mid = c.make_behind-composed in
    let layers = self.decider.handler.tree.layers in
    let all = if_ok mid.result.0 c.in-Ok-composed.images (λ images. AreImagesOf (map expected_by self.decider.handler.on) c.in-Ok.views.items self.screens images.items) c.in-Ok-composed.is mid.ensures.images in
    let timelines = c.deref.ensures.value ∙ ap (λ (s : Shows). s.timelines.items) mid.ensures.same.shows in
    record {
      ok = subst (λ s. WritesVsync self.shows.plan self.shows.timelines.items layers c.args.last (g.K.Sink.taken s.now) (g.K.Sink.taken c.write_vsync.new.sink)) mid.ensures.sink
          (subst (λ (ts : List ℕ). WritesVsync self.shows.plan ts layers c.args.last (g.K.Sink.taken mid.new.self.sink.now) (g.K.Sink.taken c.write_vsync.new.sink)) timelines
          (vsync_told self.shows.plan c.deref.result.now layers c.args.last _ _ c.in-Ok.views.items c.in-Ok-composed.images.items c.in-Ok.ensures.due all.outputs c.in-Ok-write_vsync.ensures.wrote.ok));
      err = tt;
      later = subst (λ s. g.K.Sink.faults s.now ≤ g.K.Sink.faults c.write_vsync.new.sink) mid.ensures.sink c.write_vsync.ensures.wrote.later;
      failed = λ fails. absurd (cc fails);
    }

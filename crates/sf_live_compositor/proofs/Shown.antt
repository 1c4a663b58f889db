-- What a vsync shows can be composed by a plan, and what is written of it is that of its report.
use Rattle.std.proofs.Common.{◌≡◌, ℕ, ◌≤◌, List, Option, Result, Ok, OnOk, arith, ap, ◌∙◌, length, sym, subst}
use Rattle.std.specs.Prelude.{IfOk}
use Rattle.atomic_table.specs.Seated.{TableId}
use Rattle.sf_live_threads.specs.sf_picture.declared.picture.Picture.{Picture}
use Rattle.sf_live_threads.specs.sf_commit.Handlers.{HandlerOf}
use Rattle.sf_play_write.specs.sf_output_plan.Due.{IsPlan}
use Rattle.sf_play_write.specs.sf_output_plan.declared.plan.Plan.{Plan}
use Rattle.sf_play_write.specs.sf_play_report.Stages.{AreExpected, IsStage}
use Rattle.sf_play_write.specs.sf_play_report.declared.report.VsyncReport.{VsyncReport}
use Rattle.sf_play_write.specs.sf_output_screen.ScreenLists.{AreShown}
use Rattle.sf_play_write.specs.sf_output_screen.declared.screens.OutputScreen.{OutputScreen}
use Rattle.sf_live_threads.specs.sf_calls_stamped.Stamps.{unstamped}
use Rattle.sf_live_threads.specs.sf_surface.Tokens.{Issued, ReadLeaseOf}
use Rattle.sf_live_threads.specs.sf_turns.Views.{SeatView}
use Rattle.sf_live_threads.specs.sf_txn.declared.lease.Lease.{Ghosts}
use Rattle.sf_live_threads.specs.sf_actor.Plain.{taken_in}
use Rattle.sf_live_threads.specs.sf_live_seats.declared.locks.Locks.{Locks}
use Rattle.sf_play_write.specs.sf_play.Playing.{expected_by}
use Rattle.sf_play_write.specs.Vsyncs.{WritesVsync, vsync_shown}
use Rattle.sf_play_write.specs.Writing.{Writes}
use Rattle.sf_play_write.specs.declared.shows.Shows.{Shows}
use Rattle.sf_live_compositor.specs.Sitting.{HasAll, MakesVsync, MayMake, MayShowNext, MaySit, ShowsBuffers, ShowsVsync}
use Rattle.sf_live_compositor.specs.Vsyncs.{Sitting}
use Rattle.sf_live_compositor.proofs.Limits.{limit_stays}

-- what is so of what came of it, where it succeeded
pub if_ok : {T E : Type 0} (result : Result T E) (value : T) (P : T → Type 0) → result ≡ Ok value → IfOk result P → P value
if_ok {T} {E} result value P is all = subst (λ (r : Result T E). IfOk r P) is all

pub on_ok : {T E X : Type 0} (result : Result T E) (value : T) → result ≡ Ok value → OnOk result X → X
on_ok {T} {E} {X} result value is fact = subst (λ (r : Result T E). OnOk r X) is fact

-- the next vsync may be made
pub may_make : {B : Type 0} (table : TableId) (locks : Locks B) (period : ℕ) (shows : Shows) (sitting : Sitting B) → MayShowNext table locks period shows sitting → MayMake table locks period sitting
may_make table locks period shows sitting next =
    let early = next.early in
    record { own = next.own; first = next.first; known = next.may.known; short = next.set.short; few = omega (arith, early); early = next.may.early }

module _ {B : Type 0} (lease : Ghosts ReadLeaseOf SeatView ReadLeaseOf Issued) (table : TableId) (locks : Locks B) (period : ℕ) where
  abbrev Makes : Sitting B → Sitting B → VsyncReport → Type 0
  Makes old new report = MakesVsync lease table locks period old new report

  limit_is : (old new : Sitting B) (report : VsyncReport) → Makes old new report → new.handler.tree.most ≡ old.handler.tree.most
  limit_is old new report makes =
      let vsync = makes.vsync in
      limit_stays lease old.handler new.handler vsync.took.turns vsync.turns vsync.arrived vsync.seen vsync.expected vsync.told vsync.decides

  -- what there is to show
  pub is_stage : (plan : Plan) (old new : Sitting B) (report : VsyncReport) → Makes old new report → IsPlan plan → MaySit plan old → length new.handler.tree.layers ≤ new.handler.tree.most
      → ShowsBuffers new.handler → IsStage expected_by plan new.handler
  is_stage plan old new report makes planned may few buffers =
      let limit = limit_is old new report makes in
      let low = may.few in
      record {
        planned = planned;
        few = omega (arith, few, limit, low);
        stands = buffers.stands;
        crops = buffers.crops;
      }

  -- another vsync may follow
  pub sits_on : (plan : Plan) (old new : Sitting B) (report : VsyncReport) → Makes old new report → MaySit plan old → HasAll new.handler
      → new.handler.last ≤ taken_in (unstamped new.seats.arrivals.seen) → new.seats.last.step ≤ new.number → MaySit plan new
  sits_on plan old new report makes may all known early =
      let state = makes.vsync.decides.settled.state in
      let limit = limit_is old new report makes in
      let low = may.few in
      record {
        alive = ap (λ (h : HandlerOf ReadLeaseOf). h.is_spent) state ∙ may.alive;
        all = all;
        wide = ap (λ (h : HandlerOf ReadLeaseOf). h.width) state ∙ may.wide;
        high = ap (λ (h : HandlerOf ReadLeaseOf). h.height) state ∙ may.high;
        few = omega (arith, limit, low);
        known = known;
        early = early;
      }

  -- what was written of the report
  pub shows_it : (plan : Plan) (timelines : List ℕ) (before now : Option (List ℕ)) (screens shown : List OutputScreen) (old new : Sitting B) (report : VsyncReport) → Makes old new report
      → ((pictures : ℕ → Picture) → AreExpected expected_by pictures new.handler → AreShown pictures screens
      → Writes before now (vsync_shown pictures plan timelines report new.handler.tree.layers) × AreShown pictures shown)
      → WritesVsync plan timelines new.handler.tree.layers report before now
      → ShowsVsync lease table locks period plan timelines before now screens shown old new
  shows_it plan timelines before now screens shown old new report makes written told = record {
    vsync = makes.vsync;
    written = λ pictures expected was.
        let both = written pictures expected was in
        (subst (λ (r : VsyncReport). Writes before now (vsync_shown pictures plan timelines r new.handler.tree.layers)) (sym makes.is) both.0, both.1);
    told = subst (λ (r : VsyncReport). WritesVsync plan timelines new.handler.tree.layers r before now) (sym makes.is) told;
  }

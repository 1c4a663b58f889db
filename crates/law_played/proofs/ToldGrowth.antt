-- What is told of a run goes on: calls, what is written, and the leases of arrivals, with steps of actors and of the compositor.
use Rattle.std.proofs.Common.{◌≡◌, ◌≢◌, ℕ, ◌+◌, ◌==◌, ◌&&◌, Bool, true, List, [], ◌∷◌, ◌++◌, set, map, refl, sym, ap, ◌∙◌, subst, inl, inr}
use Rattle.std.specs.Prelude.{All, Contains}
use Rattle.std.specs.List.{AllZip, flat_map, list_any}
use Rattle.std.proofs.lemmas.Bool.{cases_eq}
use Rattle.std.proofs.lemmas.List.{append-nil}
use Rattle.std.proofs.Common.{append_assoc}
use Rattle.std.proofs.lemmas.List.Concat.{flat_map-append}
use Rattle.std.proofs.lemmas.List.Elements.{All-cons, All-head, All-tail, All-weaker}
use Rattle.sf_base.specs.Fences.{Fence}
use Rattle.sf_commit.specs.sf_calls.Histories.{IsLegal, entry}
use Rattle.sf_commit.specs.OnLayers.{OnLayer}
use Rattle.sf_actor.specs.sf_surface.Histories.{Answers, Made, told}
use Rattle.sf_actor.specs.sf_surface.Tokens.{Issued, ReadLeaseOf}
use Rattle.sf_actor.specs.sf_surface.declared.call.QCall.{QCall}
use Rattle.sf_actor.specs.sf_surface.declared.call.QCall.TheVariants as call
use Rattle.sf_actor.specs.sf_surface.declared.call.QReply.{QReply}
use Rattle.sf_actor.specs.sf_surface.declared.mark.QueueMark.{QueueMark}
use Rattle.sf_commit.specs.sf_token.Arrivals.{sent}
use Rattle.sf_commit.specs.sf_token.declared.arrivals.ArriveCall.TheVariants as arrive
use Rattle.sf_commit.specs.sf_token.declared.arrivals.ArriveReply.{ArriveReply}
use Rattle.sf_actor.specs.sf_turns.Views.{SeatView}
use Rattle.sf_script_scene.specs.sf_picture.declared.picture.Picture.{Picture}
use Rattle.sf_commit.specs.sf_txn.Buffers.{Buffer}
use Rattle.sf_script_scene.specs.Limits.{IsWithinLimits}
use Rattle.sf_script_scene.specs.Scene.{SceneValue, has_queue}
use Rattle.sf_script_scene.specs.declared.declarations.QueueDecl.{QueueDecl}
use Rattle.sf_script_scene.specs.declared.step.ActorScript.{ActorScript}
use Rattle.sf_actor.specs.declared.done.Done.{Done}
use Rattle.sf_actor.specs.Desks.{DeskHome, DeskView, MadeCall, has_queue as has_mark, known_of, mark_among, values_of}
use Rattle.sf_actor.specs.Known.{GoesOn, Known, frame_of, share_of}
use Rattle.sf_actor.specs.Holdings.{HoldingsOf, queue_held}
use Rattle.sf_actor.specs.Plain.{PlainOf, view_of}
use Rattle.sf_actor.specs.Names.{FrameOf}
use Rattle.sf_actor.specs.Scripts.{picture_at}
use Rattle.sf_actor.specs.Traces.{DoneAt, Past, next, no_past, places_from, places_of}
use Rattle.sf_actor.specs.Tries.{ActorKept, ActorOf, AreThere, Keeps}
use Rattle.sf_actor.specs.Written as written
use Rattle.sf_record.specs.declared.event.Event.{Event}
use Rattle.law_played.specs.Actors.{AreActors, AreCalls, IsCallBy, mark_declared, number_of, run_of, trace_among}
use Rattle.law_played.specs.Framing.{framed_on}
use Rattle.law_played.specs.Histories.{IsReleased, Released, released_at, released_in, released_on}
use Rattle.law_played.specs.Progress.{AreWrittenToo}
use Rattle.law_played.specs.inner.Releasing.{ReleaseAll, released_with}
use Rattle.law_played.specs.Runs.{calls_of, rising_actors, written_in}
use Rattle.law_played.specs.Stages.{VsyncAt}
use Rattle.law_played.specs.Telling.{AreReleases, TellRun}
use Rattle.law_played.proofs.RunGrowth.{callers_of, releases_frame}
use Rattle.law_played.proofs.AsQueued.{one_passes}
use Rattle.law_played.proofs.ArrivedFrames.{any_passes}
use Rattle.law_played.proofs.StepKeepsTold.{Replaces, callers_kept, got_has, same_numbers, traces_on}
use Rattle.law_played.proofs.Parts.{map_twice}
use Rattle.law_played.proofs.Members.{has_cases, has_first, has_joined, has_later, has_map, has_none, joined_has}

-- the steps of a trace are among those of a longer one
places_more : (place : ℕ) (past : Past) (trace more : List Done) (at : DoneAt) → Contains (places_from place past trace) at → Contains (places_from place past (trace ++ more)) at
unfolding places_from
places_more place past [] more at there = has_none at there
places_more place past (done ∷ later) more at there =
    let first : DoneAt = record { place = place; past = past; done = done } in
    elim (has_cases first at (places_from (place + 1) (next place past done) later) there) [
      | inl same ↦ has_first first at (places_from (place + 1) (next place past done) (later ++ more)) same
      | inr c ↦ has_later first at (places_from (place + 1) (next place past done) (later ++ more)) (places_more (place + 1) (next place past done) later more at c)
    ]

-- and so is what they write
writes_more : (trace more : List Done) (frame : written.FrameNumber) → Contains (written.written_in trace) frame → Contains (written.written_in (trace ++ more)) frame
writes_more trace more frame there =
    let at = joined_has written.written_at (places_of trace) frame there in
    has_joined written.written_at (places_of (trace ++ more)) at.0 frame (places_more 1 no_past trace more at.0 at.1) at.2

written_too : (one other : List written.FrameNumber) → ((frame : written.FrameNumber) → Contains one frame → Contains other frame) → AreWrittenToo one other
written_too one other sub frame is =
    let is_it : written.FrameNumber → Bool = λ w. (w.0.0 == frame.0.0) && (w.1 == frame.1.frame) in
    let found = one_passes is_it one is in
    any_passes is_it other found.0 (sub found.0 found.1) found.2

module _ {B : Type 0} where
  -- what is written stays written where an actor does a step
  pub written_kept : (scene : SceneValue) (ofs : List (ActorOf B)) (home others : DeskHome) (before after : DeskView B) (place : ℕ) (old new : ActorOf B) → Replaces ofs place old new
      → AreWrittenToo (written_in scene (run_of ofs home before)) (written_in scene (run_of (set ofs place new) others after))
  written_kept scene ofs home others before after place old new by =
      let wrote : List (ActorOf B) → ActorScript → List written.FrameNumber = λ actors script. written.written_in (trace_among actors script.number) in
      written_too (written_in scene (run_of ofs home before)) (written_in scene (run_of (set ofs place new) others after)) (λ frame there.
      let at = joined_has (wrote ofs) (rising_actors scene) frame there in
      let on = traces_on ofs place at.0.number old new by in
      has_joined (wrote (set ofs place new)) (rising_actors scene) at.0 frame at.1
      (subst (λ (trace : List Done). Contains (written.written_in trace) frame) (sym on.1) (writes_more (trace_among ofs at.0.number) on.0 frame at.2)))

  -- the calls, where an actor did a step: they are its own that are new
  pub calls_kept : (scene : SceneValue) (ofs : List (ActorOf B)) (home : DeskHome) (before after : DeskView B) (place : ℕ) (old new : ActorOf B) → Replaces ofs place old new
      → ((other : ℕ) → other ≢ old.script.number → GoesOn other (known_of home before) (known_of home after))
      → ((queue : ℕ) (made : Made B) → Contains (after.calls queue) made → has_queue scene.queues queue ≡ true)
      → ((queue : ℕ) → IsLegal (Answers (mark_among home.marks queue)) (after.calls queue))
      → AreCalls scene ofs home before → AreCalls scene (set ofs place new) home after
  calls_kept scene ofs home before after place old new by alone declared legal calls = record {
    marks = calls.marks;
    declared = declared;
    legal = legal;
    callers = λ queue. callers_of ofs (set ofs place new) (after.calls queue) (same_numbers ofs place old new by)
        (callers_kept ofs old.script.number (before.calls queue) (after.calls queue) (has_map number_of ofs old (got_has ofs place old by.here))
        (λ other apart. (alone other apart).calls queue) (calls.callers queue));
  }

  -- the calls, where nothing was called
  pub calls_stay : (scene : SceneValue) (ofs : List (ActorOf B)) (home : DeskHome) (before after : DeskView B) → ((queue : ℕ) → after.calls queue ≡ before.calls queue)
      → AreCalls scene ofs home before → AreCalls scene ofs home after
  calls_stay scene ofs home before after same calls = record {
    marks = calls.marks;
    declared = λ queue made there. calls.declared queue made (subst (λ (log : List (Made B)). Contains log made) (same queue) there);
    legal = λ queue. subst (IsLegal (Answers (mark_among home.marks queue))) (sym (same queue)) (calls.legal queue);
    callers = λ queue. subst (All (IsCallBy ofs)) (sym (same queue)) (calls.callers queue);
  }

  -- the calls, where the compositor released a frame
  pub calls_released : (scene : SceneValue) (ofs : List (ActorOf B)) (home : DeskHome) (before after : DeskView B) (queue vsync : ℕ) (lease : ReadLeaseOf) (fence : Fence) (reply : QReply B)
      → home.is_exact ≡ true → has_queue scene.queues queue ≡ true → MadeCall home before after 0 queue (vsync, call.Release lease fence) reply
      → AreCalls scene ofs home before → AreCalls scene ofs home after
  calls_released scene ofs home before after queue vsync lease fence reply exact declared made calls =
      let asked : ℕ × QCall B = (vsync, call.Release lease fence) in
      let newest = made.newest ∙ ap (λ (log : List (Made B)). entry 0 asked reply ∷ log) (made.alone exact) in
      record {
        marks = calls.marks;
        declared = λ q m there. elim (cases_eq q queue) [
          | inl same ↦ subst (λ (n : ℕ). has_queue scene.queues n ≡ true) (sym same) declared
          | inr apart ↦ calls.declared q m (subst (λ (log : List (Made B)). Contains log m) (made.changes.others q apart) there)
        ];
        legal = λ q. elim (cases_eq q queue) [
          | inl same ↦ subst (λ (n : ℕ). IsLegal (Answers (mark_among home.marks n)) (after.calls n)) (sym same) made.legal
          | inr apart ↦ subst (IsLegal (Answers (mark_among home.marks q))) (sym (made.changes.others q apart)) (calls.legal q)
        ];
        callers = λ q. elim (cases_eq q queue) [
          | inl same ↦ subst (λ (n : ℕ). All (IsCallBy ofs) (after.calls n)) (sym same)
              (subst (All (IsCallBy ofs)) (sym newest) (All-cons (IsCallBy ofs) (entry 0 asked reply) (before.calls queue) (inl (refl, tt)) (calls.callers queue)))
          | inr apart ↦ subst (All (IsCallBy ofs)) (sym (made.changes.others q apart)) (calls.callers q)
        ];
      }

  -- of a desk's home only the marks count
  there_home : (home other : DeskHome) (parts : HoldingsOf B) → other.marks ≡ home.marks → AreThere home parts → AreThere other parts
  there_home home other parts same there =
      let has : (queue : ℕ) → has_mark home queue ≡ true → has_mark other queue ≡ true =
      λ queue is. subst (λ (marks : List QueueMark). list_any (λ (mark : QueueMark). mark.queue.0 == queue) marks ≡ true) (sym same) is in
      record {
        names = λ name held is. has (queue_held held).0 (there.names name held is);
        frames = λ number txn is.
            All-weaker (λ (buffer : Buffer ReadLeaseOf). has_mark home buffer.lease.queue.0 ≡ true) (λ (buffer : Buffer ReadLeaseOf). has_mark other buffer.lease.queue.0 ≡ true)
            (λ (buffer : Buffer ReadLeaseOf). has buffer.lease.queue.0) txn.buffers (there.frames number txn is);
      }

  pub keeps_home : (pictures : ℕ → Picture) (home other : DeskHome) (view : DeskView B) (of : ActorOf B) → other.marks ≡ home.marks → other.tells ≡ home.tells → Keeps pictures home of view → Keeps pictures other of view
  keeps_home pictures home other view of same told keeps = record {
    kept = subst (λ (known : Known B). ActorKept pictures of (share_of of.script.number known)) (known_home home other view same told) keeps.kept;
    there = there_home home other of.parts same keeps.there;
  }
    where
      known_home : (home other : DeskHome) (view : DeskView B) → other.marks ≡ home.marks → other.tells ≡ home.tells → known_of home view ≡ known_of other view
      known_home home other view same told = λ i. record {
        marks = mark_among (sym same i);
        tells = sym told i;
        calls = view.calls;
        arrivals = view.arrivals;
        values = values_of view.times.known;
        signals = view.times.signals;
        left = view.turns.leaves;
        counts = view.turns.seen;
      }

  pub actors_home : (scene : SceneValue) (ofs : List (ActorOf B)) (home other : DeskHome) (view : DeskView B) → other.marks ≡ home.marks → other.tells ≡ home.tells → AreActors scene ofs home view → AreActors scene ofs other view
  actors_home scene ofs home other view same told actors = record {
    scripts = actors.scripts;
    apart = actors.apart;
    keep = All-weaker (λ (of : ActorOf B). Keeps (picture_at scene.pictures) home of view) (λ (of : ActorOf B). Keeps (picture_at scene.pictures) other of view)
        (λ of. keeps_home (picture_at scene.pictures) home other view of same told) ofs actors.keep;
  }

  pub calls_home : (scene : SceneValue) (ofs : List (ActorOf B)) (home other : DeskHome) (view : DeskView B) → other.marks ≡ home.marks → AreCalls scene ofs home view → AreCalls scene ofs other view
  calls_home scene ofs home other view same calls = record {
    marks = subst (λ (marks : List QueueMark). All (λ (queue : QueueDecl). mark_among marks queue.number ≡ mark_declared queue) scene.queues) (sym same) calls.marks;
    declared = calls.declared;
    legal = λ queue. subst (λ (marks : List QueueMark). IsLegal (Answers (mark_among marks queue)) (view.calls queue)) (sym same) (calls.legal queue);
    callers = calls.callers;
  }

  pub releases_home : (scene : SceneValue) (ofs : List (ActorOf B)) (home other : DeskHome) (view : DeskView B) (released : List Released) → other.marks ≡ home.marks
      → AreReleases scene ofs home view released → AreReleases scene ofs other view released
  releases_home scene ofs home other view released same releases =
      subst (λ (marks : List QueueMark). All (λ (queue : QueueDecl). AllZip IsReleased (released_on queue.number released) (calls_of 0 (told (mark_among marks queue.number) (view.calls queue.number)))) scene.queues)
      (sym same) releases

  pub tell_home : (scene : SceneValue) (ofs : List (ActorOf B)) (home other : DeskHome) (view : DeskView B) (events : List Event) (released : List Released) → other.marks ≡ home.marks → other.tells ≡ home.tells
      → TellRun scene ofs home view events released → TellRun scene ofs other view events released
  tell_home scene ofs home other view events released same told tell = record {
    actors = actors_home scene ofs home other view same told tell.actors;
    signals = tell.signals;
    callers = tell.callers;
    senders = tell.senders;
    replies = tell.replies;
    releases = releases_home scene ofs home other view released same tell.releases;
  }

  -- a compositor that takes what arrived changes nothing that a desk knows
  pub taken_view : (desk : PlainOf B) (by : ℕ) (reply : ArriveReply ReadLeaseOf SeatView ReadLeaseOf Issued)
      → view_of (record desk { arrivals = entry by arrive.Take reply ∷ desk.arrivals }) ≡ view_of desk
  taken_view desk by reply = λ i. record (view_of desk) { arrivals = append-nil (sent desk.arrivals) i }

  -- the compositor releases frames, one after another
  pub releases_all : (scene : SceneValue) (ofs : List (ActorOf B)) (home : DeskHome) (before after : DeskView B) (events : List Event) (released : List Released) (gone : List (OnLayer ReadLeaseOf))
      (vsync : ℕ) → IsWithinLimits scene → home.is_exact ≡ true → All (λ (declared : QueueDecl). mark_among home.marks declared.number ≡ mark_declared declared) scene.queues
      → ReleaseAll home before gone vsync after → TellRun scene ofs home before events released → TellRun scene ofs home after events (released ++ released_with vsync gone)
  releases_all scene ofs home before after events released [] vsync limits exact marks all tell =
      subst (λ (rs : List Released). TellRun scene ofs home after events rs) (sym (append-nil released)) (subst (λ (v : DeskView B). TellRun scene ofs home v events released) (sym all) tell)
  releases_all scene ofs home before after events released (one ∷ gone) vsync limits exact marks all tell =
      let first : Released = record { vsync = vsync; on = framed_on frame_of one } in
      let mid = releases_frame scene ofs home before all.0 events released one.lease.queue.0 vsync one.lease one.fence all.1 first limits exact marks refl
      (record { at = refl; leased = refl; fenced = refl }) all.2 tell in
      subst (λ (rs : List Released). TellRun scene ofs home after events rs) (append_assoc released (first ∷ []) (released_with vsync gone))
      (releases_all scene ofs home all.0 after events (released ++ first ∷ []) gone vsync limits exact marks all.3 mid)

  pub calls_released_all : (scene : SceneValue) (ofs : List (ActorOf B)) (home : DeskHome) (before after : DeskView B) (gone : List (OnLayer ReadLeaseOf)) (vsync : ℕ) → home.is_exact ≡ true
      → All (λ (one : OnLayer ReadLeaseOf). has_queue scene.queues one.lease.queue.0 ≡ true) gone → ReleaseAll home before gone vsync after → AreCalls scene ofs home before → AreCalls scene ofs home after
  calls_released_all scene ofs home before after [] vsync exact there all calls = subst (AreCalls scene ofs home) (sym all) calls
  calls_released_all scene ofs home before after (one ∷ gone) vsync exact there all calls =
      calls_released_all scene ofs home all.0 after gone vsync exact (All-tail (λ (one : OnLayer ReadLeaseOf). has_queue scene.queues one.lease.queue.0 ≡ true) one gone there) all.3
      (calls_released scene ofs home before all.0 one.lease.queue.0 vsync one.lease one.fence all.1 exact
      (All-head (λ (one : OnLayer ReadLeaseOf). has_queue scene.queues one.lease.queue.0 ≡ true) one gone there) all.2 calls)

-- what one more vsync releases
pub released_more : (told : List VsyncAt) (at : VsyncAt) → released_in (told ++ at ∷ []) ≡ released_in told ++ released_at at
unfolding released_in
released_more told at = flat_map-append released_at told (at ∷ []) ∙ ap (λ (rs : List Released). flat_map released_at told ++ rs) (append-nil (released_at at))

-- these are the frames that went
pub released_so : (at : VsyncAt) (gone : List (OnLayer ReadLeaseOf)) → at.round.stage.gone ≡ map (framed_on frame_of) gone → released_at at ≡ released_with at.vsync.number gone
released_so at gone same =
    ap (map (λ (on : OnLayer FrameOf). record { vsync = at.vsync.number; on = on })) same
    ∙ map_twice (framed_on frame_of) (λ (on : OnLayer FrameOf). record { vsync = at.vsync.number; on = on }) gone

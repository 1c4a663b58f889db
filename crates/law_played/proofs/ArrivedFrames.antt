-- What arrivals bring was queued: over a desk, and by the steps of the scene's actors.
use Rattle.std.proofs.Common.{◌≡◌, ℕ, ◌==◌, Bool, true, false, List, [], ◌∷◌, map, filter, Option, refl, sym, ap, ◌∙◌, subst, inl, inr}
use Rattle.std.specs.Prelude.{All, Contains, if◌then◌else◌}
use Rattle.std.specs.List.{list_any}
use Rattle.std.proofs.lemmas.Bool.{cases_Bool, eq-eqb, eqb-true, or_left, or_right}
use Rattle.std.proofs.lemmas.List.Elements.{All-contains, All-weaker, Contains-append_cases}
use Rattle.std.proofs.lemmas.List.Sorted.{Contains-permutation, IsPermutation-sym}
use Rattle.sf_actor.specs.sf_slots.declared.calls.Entry.{Entry}
use Rattle.sf_actor.specs.sf_slots.declared.calls.PlainCall.TheVariants as plain
use Rattle.sf_actor.specs.sf_slots.declared.calls.PlainReply.TheVariants as reply
use Rattle.sf_actor.specs.sf_slots.Tells.{AreReplies}
use Rattle.sf_actor.specs.sf_surface.Histories.{Made, told}
use Rattle.sf_actor.specs.sf_surface.Tokens.{ReadLeaseOf}
use Rattle.sf_actor.specs.sf_surface.declared.call.Gives.{Gives}
use Rattle.sf_actor.specs.sf_surface.declared.call.Gives.TheVariants as gives
use Rattle.sf_actor.specs.sf_surface.declared.call.QCall.{QCall}
use Rattle.sf_actor.specs.sf_surface.declared.call.QCall.TheVariants as call
use Rattle.sf_actor.specs.sf_surface.declared.mark.QueueMark.{QueueMark}
use Rattle.sf_commit.specs.sf_token.Pending.{Arrival}
use Rattle.sf_commit.specs.sf_txn.Buffers.{Buffer}
use Rattle.sf_script_scene.specs.Limits.{IsWithinLimits}
use Rattle.sf_script_scene.specs.Ranges.{IsQueue}
use Rattle.sf_script_scene.specs.Scene.{SceneValue, has_actor}
use Rattle.sf_script_scene.specs.declared.declarations.QueueDecl.{QueueDecl}
use Rattle.sf_script_scene.specs.declared.step.ActorScript.{ActorScript}
use Rattle.sf_actor.specs.Asking.{shown_of}
use Rattle.sf_actor.specs.Desks.{DeskHome, DeskView, mark_among}
use Rattle.sf_actor.specs.Known.{Call, arrivals_told, call_after, frame_of, is_sent_by as sends, own_calls, plain_arrival, plain_buffer}
use Rattle.sf_actor.specs.Names.{FrameOf}
use Rattle.sf_actor.specs.Rights.{HoldsAcquired, SendsAcquired, Takes}
use Rattle.sf_actor.specs.Scripts.{picture_at}
use Rattle.sf_actor.specs.ScriptTraces.{sent_as}
use Rattle.sf_actor.specs.Traces.{SentStep}
use Rattle.sf_actor.specs.Tries.{ActorOf, Keeps}
use Rattle.sf_record.specs.declared.record.CommitRecord.{CommitRecord}
use Rattle.sf_record.specs.declared.record.CommittedBuffer.{CommittedBuffer}
use Rattle.sf_record.specs.declared.record.HistoryEntry.{HistoryEntry}
use Rattle.sf_record.specs.declared.record.QueueHistory.{QueueHistory}
use Rattle.law_played.specs.Acquired.{ShowsGiven, TakesFrame}
use Rattle.law_played.specs.Actors.{AreActors, AreArrivals, AreCalls, IsCallBy, IsRelease, arrivals_of, mark_declared, number_of, run_of, script_of, told_on}
use Rattle.law_played.specs.Brought.{IsBrought, ShowBrought}
use Rattle.law_played.specs.Buffers.{HasOfStep, IsAsQueued, ShowAsQueued, queueing_of, step_of_entry}
use Rattle.law_played.specs.Commits.{buffer_shown}
use Rattle.law_played.specs.Histories.{history_shown, rising_queues}
use Rattle.law_played.specs.Runs.{AreTraced}
use Rattle.law_played.proofs.AsQueued.{has_of_step, one_passes}
use Rattle.law_played.proofs.Members.{has_cases, has_filter, has_here, has_later, has_map, has_none, map_has}
use Rattle.law_played.proofs.QueuedFrames.{IsQueued}
use Rattle.law_played.proofs.HistoryRecords.{queueing_found}
use Rattle.law_played.proofs.Sent.{IsShown, sent_shown}
use Rattle.law_played.proofs.AcquiredFrames.{queued_told, was_queued}
use Rattle.law_played.proofs.RunTraces.{played_by, told_legal}

-- one that passes is among these
pub any_passes : {X : Type 0} (p : X → Bool) (xs : List X) (x : X) → Contains xs x → p x ≡ true → list_any p xs ≡ true
any_passes p [] x there met = has_none x there
any_passes p (a ∷ xs) x there met = elim (has_cases a x xs there) [
  | inl same ↦ or_left (p a) (list_any p xs) (ap p same ∙ met)
  | inr c ↦ or_right (p a) (list_any p xs) (any_passes p xs x c met)
]

-- an arrival is among those of which their senders were told, whatever number they were told
pub told_has : (tells : Bool) (arrivals : List (Arrival ReadLeaseOf)) (arrival : Arrival ReadLeaseOf) → Contains arrivals arrival
    → (n : ℕ) × Contains (arrivals_told tells arrivals) (record arrival { number = n })
told_has true arrivals arrival there = (arrival.number, there)
told_has false arrivals arrival there = (0, has_map (λ (a : Arrival ReadLeaseOf). record a { number = 0 }) arrivals arrival there)

module _ {B : Type 0} where
  -- the lease of an acquired frame
  record TakesAs (frame : FrameOf) (asked : QCall B) (given : Gives B) : Type 0 where
    expected : ℕ
    lease : ReadLeaseOf
    call : asked ≡ call.Acquire expected
    gives : given ≡ gives.Read lease
    is : frame_of lease ≡ frame

  takes_as : {made : Made B} (lease : ReadLeaseOf) (asked : QCall B) (given : Gives B) → asked ≡ made.call.1 → given ≡ made.reply.gives → Takes lease asked given → TakesFrame made lease
  takes_as {made} lease (call.Acquire expected) (gives.Read given) asking giving is = record { expected = expected; call = sym asking; gives = sym giving ∙ ap (λ (l : ReadLeaseOf). gives.Read l) is }
  takes_as {made} lease asked given asking giving is = absurd is

  -- a call of an actor's own is one of all
  pub own_is : (actor : ℕ) (mark : QueueMark) (calls : List (Made B)) (one : Call B) → Contains (own_calls actor mark calls) one → Contains calls one.made
  own_is actor mark [] one there = has_none one there
  own_is actor mark (m ∷ earlier) one there = elim (Contains-append_cases (own_calls actor mark earlier) (if m.by == actor then call_after mark earlier m ∷ [] else []) one there) [
    | inl c ↦ has_later m one.made earlier (own_is actor mark earlier one c)
    | inr c ↦ elim (cases_Bool (m.by == actor)) [
      | inl met ↦ elim (has_cases (call_after mark earlier m) one [] (rw met at c)) [
        | inl same ↦ subst (λ (x : Made B). Contains (m ∷ earlier) x) (ap (λ (o : Call B). o.made) same) (has_here m earlier)
        | inr none ↦ has_none one none
      ]
      | inr unmet ↦ has_none one (rw unmet at c)
    ]
  ]

  -- the script of an actor's number is one of the scene's
  pub record IsNumbered (scene : SceneValue) (ofs : List (ActorOf B)) (home : DeskHome) (view : DeskView B) (number : ℕ) : Type 0 where
    pub of : ActorOf B
    pub is : of.script.number ≡ number
    pub script : Contains scene.actors of.script
    pub keeps : Keeps (picture_at scene.pictures) home of view

  pub is_numbered : (scene : SceneValue) (ofs : List (ActorOf B)) (home : DeskHome) (view : DeskView B) (number : ℕ) → AreActors scene ofs home view → Contains (map number_of ofs) number
      → IsNumbered scene ofs home view number
  is_numbered scene ofs home view number actors there =
      let found = map_has number_of ofs number there in
      record {
        of = found.0;
        is = found.2;
        script = Contains-permutation (map script_of ofs) scene.actors found.0.script (IsPermutation-sym scene.actors (map script_of ofs) actors.scripts) (has_map script_of ofs found.0 found.1);
        keeps = All-contains (λ of. Keeps (picture_at scene.pictures) home of view) ofs found.0 actors.keep found.1;
      }

  pub is_actor : (scene : SceneValue) (ofs : List (ActorOf B)) (home : DeskHome) (view : DeskView B) (number : ℕ) → AreActors scene ofs home view → Contains (map number_of ofs) number
      → has_actor scene.actors number ≡ true
  is_actor scene ofs home view number actors there =
      let it = is_numbered scene ofs home view number actors there in
      any_passes (λ (script : ActorScript). script.number == number) scene.actors it.of.script it.script (eq-eqb it.of.script.number number it.is)

  pub actor_is : (scene : SceneValue) (ofs : List (ActorOf B)) (home : DeskHome) (view : DeskView B) (number : ℕ) → AreActors scene ofs home view → has_actor scene.actors number ≡ true
      → Contains (map number_of ofs) number
  actor_is scene ofs home view number actors has =
      let script = one_passes (λ (script : ActorScript). script.number == number) scene.actors has in
      let by = played_by scene ofs home view script.0 actors script.1 in
      subst (λ (n : ℕ). Contains (map number_of ofs) n) (ap (λ (s : ActorScript). s.number) by.is ∙ eqb-true script.0.number number script.2) (has_map number_of ofs by.of by.there)

  -- a frame was queued on a declared queue, by an actor
  record IsQueuedOn (scene : SceneValue) (home : DeskHome) (view : DeskView B) (frame : FrameOf) : Type 0 where
    queue : QueueDecl
    declared : Contains scene.queues queue
    number : queue.number ≡ frame.0.0
    entry : Entry
    called : Contains (told_on home view queue.number) entry
    queued : IsQueued entry frame.1.frame frame.1.picture frame.1.crop
    calls : has_actor scene.actors entry.caller.0 ≡ true

  queued_on : (scene : SceneValue) (ofs : List (ActorOf B)) (home : DeskHome) (view : DeskView B) (frame : FrameOf) (made : Made B) → AreActors scene ofs home view → AreCalls scene ofs home view
      → Contains (view.calls frame.0.0) made → TakesAs frame made.call.1 made.reply.gives → IsQueuedOn scene home view frame
  queued_on scene ofs home view frame made actors calls there takes =
      let mark = mark_among home.marks frame.0.0 in
      let log = view.calls frame.0.0 in
      let legal = calls.legal frame.0.0 in
      let was = was_queued mark log made takes.lease legal there (record { expected = takes.expected; call = takes.call; gives = takes.gives }) in
      let so = queued_told mark log was.made takes.lease.frame takes.lease.turn legal was.there was.queues in
      let picture = sym was.picture ∙ ap (λ (f : FrameOf). f.1.picture) takes.is in
      let crop = sym was.crop ∙ ap (λ (f : FrameOf). f.1.crop) takes.is in
      let queued : IsQueued so.entry frame.1.frame frame.1.picture frame.1.crop = record {
        lease = so.queued.lease;
        width = so.queued.width;
        height = so.queued.height;
        time = so.queued.time;
        fence = so.queued.fence;
        call = so.queued.call ∙ (λ i. plain.Queue so.queued.lease (picture i) so.queued.width so.queued.height so.queued.time (crop i) so.queued.fence);
        reply = so.queued.reply ∙ ap (λ (f : FrameOf). reply.Queued f.1.frame) takes.is;
      } in
      let queue = one_passes (λ (q : QueueDecl). q.number == frame.0.0) scene.queues (calls.declared frame.0.0 made there) in
      let number : queue.0.number ≡ frame.0.0 = eqb-true queue.0.number frame.0.0 queue.2 in
      let by : Contains (map number_of ofs) was.made.by = elim (All-contains (IsCallBy ofs) log was.made (calls.callers frame.0.0) was.there) [
        | inl release ↦ absurd (subst (λ (c : QCall B). IsRelease c) (ap (λ (c : ℕ × QCall B). c.1) was.queues.call) release.1)
        | inr c ↦ c
      ] in
      record {
        queue = queue.0;
        declared = queue.1;
        number = number;
        entry = so.entry;
        called = subst (λ (n : ℕ). Contains (told_on home view n) so.entry) (sym number) so.there;
        queued = queued;
        calls = is_actor scene ofs home view so.entry.caller.0 actors (subst (λ (n : ℕ). Contains (map number_of ofs) n) (sym so.caller) by);
      }

  -- a buffer that an arrival brings
  record IsBuffer (scene : SceneValue) (home : DeskHome) (view : DeskView B) (buffer : Buffer FrameOf) : Type 0 where
    shown : buffer.shown ≡ shown_of buffer.lease
    queued : IsQueuedOn scene home view buffer.lease

  -- a buffer of an arrival shows the frame of a lease that a call gave
  pub shows_given : (scene : SceneValue) (ofs : List (ActorOf B)) (home : DeskHome) (view : DeskView B) (arrival : Arrival ReadLeaseOf) (buffer : Buffer ReadLeaseOf) → AreActors scene ofs home view
      → AreArrivals ofs view → Contains view.arrivals arrival → Contains arrival.txn.buffers buffer → ShowsGiven view buffer
  shows_given scene ofs home view arrival buffer actors senders there inside =
      let sender = All-contains (λ (a : Arrival ReadLeaseOf). Contains (map number_of ofs) a.actor.0) view.arrivals arrival senders there in
      let by = is_numbered scene ofs home view arrival.actor.0 actors sender in
      let number = by.of.script.number in
      let kept = by.keeps.kept.kept in
      let own = has_filter (sends number) view.arrivals arrival (eq-eqb arrival.actor.0 number (sym by.is)) there in
      let called : ℕ → List (Call B) = λ queue. own_calls number (mark_among home.marks queue) (view.calls queue) in
      let told = arrivals_told home.tells (filter (sends number) view.arrivals) in
      let it = told_has home.tells (filter (sends number) view.arrivals) arrival own in
      let told_it : Arrival ReadLeaseOf = record arrival { number = it.0 } in
      let acquired = All-contains (SendsAcquired called) told told_it kept.sends it.1 in
      let was = All-contains (HoldsAcquired called) arrival.txn.buffers buffer acquired inside in
      let takes = takes_as {made = was.0.made} buffer.lease was.0.made.call.1 was.0.made.reply.gives refl refl was.2 in
      let sent = has_map sent_as (map plain_arrival told) (plain_arrival told_it) (has_map plain_arrival told told_it it.1) in
      let shown = sent_shown by.of.trace (sent_as (plain_arrival told_it)) (subst (λ (xs : List SentStep). Contains xs (sent_as (plain_arrival told_it))) kept.is.sent sent) in
      record {
        made = was.0.made;
        there = own_is number (mark_among home.marks buffer.lease.queue.0) (view.calls buffer.lease.queue.0) was.0 was.1;
        takes = takes;
        shows = All-contains IsShown (map plain_buffer arrival.txn.buffers) (plain_buffer buffer) shown (has_map plain_buffer arrival.txn.buffers buffer inside);
      }

  is_buffer : (scene : SceneValue) (ofs : List (ActorOf B)) (home : DeskHome) (view : DeskView B) (arrived : Arrival FrameOf) (buffer : Buffer FrameOf) → AreActors scene ofs home view
      → AreCalls scene ofs home view → AreArrivals ofs view → Contains (arrivals_of view) arrived → Contains arrived.txn.buffers buffer
      → IsBuffer scene home view buffer
  is_buffer scene ofs home view arrived buffer actors calls senders there inside =
      let arrival = map_has plain_arrival view.arrivals arrived there in
      let brought = map_has plain_buffer arrival.0.txn.buffers buffer (subst (λ (a : Arrival FrameOf). Contains a.txn.buffers buffer) (sym arrival.2) inside) in
      let given = shows_given scene ofs home view arrival.0 brought.0 actors senders arrival.1 brought.1 in
      let takes : TakesAs (frame_of brought.0.lease) given.made.call.1 given.made.reply.gives =
      record { expected = given.takes.expected; lease = brought.0.lease; call = given.takes.call; gives = given.takes.gives; is = refl } in
      let is : IsBuffer scene home view (plain_buffer brought.0) =
      record { shown = given.shows; queued = queued_on scene ofs home view (frame_of brought.0.lease) given.made actors calls given.there takes } in
      subst (IsBuffer scene home view) brought.2 is

  -- it is shown as it was queued
  as_queued : (scene : SceneValue) (ofs : List (ActorOf B)) (home : DeskHome) (view : DeskView B) (shown : CommittedBuffer) (tells : Bool) → IsWithinLimits scene → AreActors scene ofs home view
      → AreCalls scene ofs home view → AreArrivals ofs view → AreTraced tells scene (run_of ofs home view) (arrivals_of view) → IsBrought (arrivals_of view) shown
      → IsAsQueued scene (map (history_shown (run_of ofs home view)) (rising_queues scene)) shown
  as_queued scene ofs home view shown tells limits actors calls senders traced brought =
      let run = run_of ofs home view in
      let histories = map (history_shown run) (rising_queues scene) in
      let it = is_buffer scene ofs home view brought.arrived brought.buffer actors calls senders brought.there brought.inside in
      let on = it.queued in
      let frame = brought.buffer.lease in
      let now : CommittedBuffer = buffer_shown (brought.buffer.layer, shown_of frame) in
      let same : shown ≡ now = brought.is ∙ ap (λ s. buffer_shown (brought.buffer.layer, s)) it.shown in
      let ranges = All-contains IsQueue scene.queues on.queue limits.queues.each on.declared in
      let mark = All-contains (λ (queue : QueueDecl). mark_among home.marks queue.number ≡ mark_declared queue) scene.queues on.queue calls.marks on.declared in
      let legal = subst (λ (m : QueueMark). AreReplies m.width m.height (run.calls on.queue.number)) mark (told_legal (mark_among home.marks on.queue.number) (view.calls on.queue.number)) in
      let found = queueing_found scene run on.queue on.entry frame.1.frame frame.1.picture frame.1.crop ranges.low ranges.high on.declared legal on.called on.queued in
      let so = has_of_step tells scene run (arrivals_of view) on.queue on.entry frame.1.frame frame.1.picture frame.1.crop now limits.known_pictures traced legal on.called on.queued on.calls
      (record { picture = refl; crop_is = refl }) in
      subst (IsAsQueued scene histories) (sym same)
      (subst (λ (n : ℕ). HasOfStep (picture_at scene.pictures) now (step_of_entry scene (queueing_of histories n frame.1.frame))) on.number
      (subst (λ (e : Option HistoryEntry). HasOfStep (picture_at scene.pictures) now (step_of_entry scene e)) (sym found) so))

  pub show_as_queued : (scene : SceneValue) (ofs : List (ActorOf B)) (home : DeskHome) (view : DeskView B) (histories : List QueueHistory) (commits : List CommitRecord) (tells : Bool) → IsWithinLimits scene
      → AreActors scene ofs home view → AreCalls scene ofs home view → AreArrivals ofs view → AreTraced tells scene (run_of ofs home view) (arrivals_of view)
      → histories ≡ map (history_shown (run_of ofs home view)) (rising_queues scene) → ShowBrought (arrivals_of view) commits → ShowAsQueued scene histories commits
  show_as_queued scene ofs home view histories commits tells limits actors calls senders traced told brought =
      subst (λ (hs : List QueueHistory). ShowAsQueued scene hs commits) (sym told)
      (All-weaker (λ (commit : CommitRecord). All (IsBrought (arrivals_of view)) commit.buffers)
      (λ (commit : CommitRecord). All (IsAsQueued scene (map (history_shown (run_of ofs home view)) (rising_queues scene))) commit.buffers)
      (λ (commit : CommitRecord). All-weaker (IsBrought (arrivals_of view)) (IsAsQueued scene (map (history_shown (run_of ofs home view)) (rising_queues scene)))
      (λ (shown : CommittedBuffer). as_queued scene ofs home view shown tells limits actors calls senders traced) commit.buffers)
      commits brought)

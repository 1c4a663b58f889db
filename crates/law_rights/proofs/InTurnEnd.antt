-- Where all that draws entered is in turn, each draw comes after those that were owed before.
use Rattle.std.proofs.Common.{◌≡◌, ℕ, ◌&&◌, ◌⊎◌, true, false, List, [], ◌∷◌, Option, Some, None, refl, ap, sym, ◌∙◌, subst, inl, inr}
use Rattle.std.specs.Prelude.{Contains}
use Rattle.std.specs.List.{All, AllZip, list_any}
use Rattle.std.proofs.lemmas.Bool.{cases_Bool, eq-eqb}
use Rattle.std.proofs.lemmas.List.Elements.{All-contains, All-contains_itself, All-weaker, Contains-append_left, Contains-append_right}
use Rattle.sf_base.specs.Fences.{Fence}
use Rattle.sf_base.specs.declared.geometry.Rect.{Rect}
use Rattle.sf_base.specs.declared.ids.QueueId.{QueueId}
use Rattle.sf_actor_set.specs.sf_commit.Handlers.{HandlerOf}
use Rattle.sf_actor_set.specs.sf_script_scene.Limits.{IsWithinLimits}
use Rattle.sf_actor_set.specs.sf_script_scene.Scene.{SceneValue}
use Rattle.sf_actor_set.specs.sf_script_scene.declared.step.ActorScript.{ActorScript}
use Rattle.sf_actor_set.specs.sf_script_scene.declared.step.Step.{Step}
use Rattle.sf_actor_set.specs.sf_script_scene.declared.step.Step.TheVariants as step
use Rattle.sf_slots.specs.declared.calls.Entry.{Entry}
use Rattle.sf_slots.specs.declared.calls.PlainCall.{PlainCall}
use Rattle.sf_slots.specs.declared.calls.PlainCall.TheVariants as plain_call
use Rattle.sf_slots.specs.declared.calls.PlainReply.{PlainReply}
use Rattle.sf_slots.specs.declared.calls.PlainReply.TheVariants as plain
use Rattle.sf_slots.specs.declared.calls.WriteToken.{WriteToken}
use Rattle.sf_slots.specs.declared.slot.Held.{Held}
use Rattle.sf_actor_set.specs.sf_surface.declared.call.QCall.{QCall}
use Rattle.sf_actor_set.specs.sf_surface.declared.call.QCall.TheVariants as call
use Rattle.sf_actor_set.specs.sf_surface.declared.mark.QueueMark.{QueueMark}
use Rattle.sf_actor_set.specs.sf_surface.Calls.{told_call}
use Rattle.sf_actor_set.specs.sf_surface.Histories.{Made, told, told_entry, told_reply}
use Rattle.sf_actor_set.specs.sf_surface.Tokens.{ReadLeaseOf}
use Rattle.sf_actor_set.specs.sf_actor.declared.done.Done.{Done}
use Rattle.sf_actor_set.specs.sf_actor.Desks.{DeskHome, DeskView, has_queue, mark_among}
use Rattle.sf_actor_set.specs.sf_actor.Makers.{BufferOf, Run, buffer_in, is_before, same_maker}
use Rattle.sf_actor_set.specs.sf_actor.Names.{OwedFrame, Owing, Token, name_in}
use Rattle.sf_actor_set.specs.sf_actor.Scripts.{picture_at}
use Rattle.sf_actor_set.specs.sf_actor.Steps.{owed_by}
use Rattle.sf_actor_set.specs.sf_actor.ScriptTraces.{IsMade, made_on}
use Rattle.sf_actor_set.specs.sf_actor.Traces.{DoneAt, made_by, places_of as steps_of}
use Rattle.sf_actor_set.specs.sf_actor.Tries.{ActorOf, Keeps}
use Rattle.sf_actor_set.specs.sf_actor.Written.{FrameNumber, paid_at, written_at}
use Rattle.law_played.specs.Actors.{AreActors, run_of, script_of}
use Rattle.law_played.specs.Runs.{StepBy, rising_actors, steps_by, steps_in}
use Rattle.law_played.specs.Turns.{ComesAfter, DrawAfterOwed, EntersAfter, Paid, entered_by, is_earlier, maker_at, owed_by_step, owed_if, owed_in, paid_by, payments_in, pays_before, turn_frame}
use Rattle.law_played.proofs.ArrivedFrames.{any_passes}
use Rattle.law_played.proofs.Members.{has_joined, has_map, map_has}
use Rattle.law_played.proofs.RisingNumbers.{rising_actors_are}
use Rattle.law_played.proofs.RunTraces.{own_told, trace_here}
use Rattle.law_rights.specs.InTurn.{DrawsStand, IsEarlier, IsInTurn, WasWritten}
use Rattle.law_rights.specs.Makers.{WriteAt, buffer_of, place_written, places_of, places_written}
use Rattle.law_rights.specs.Queuing.{QueuesFrame}
use Rattle.law_rights.specs.Standing.{state_of}
use Rattle.law_rights.specs.States.{is_queue}
use Rattle.law_rights.proofs.TurnCounts.{first, in_front, none_in, the_only}
use Rattle.law_rights.proofs.QueueCounts.{in_all, in_some, mark_there}
use Rattle.law_rights.proofs.OwedTraces.{OwedNow, owed_now}
use Rattle.law_rights.proofs.PaidDrawings.{wrote_paid}
use Rattle.law_rights.proofs.QueueSteps.{EntryOf, entry_of}

-- what a step left owed
record LeftOwed (at : DoneAt) (token : Token) : Type 0 where
  queue : QueueId
  owed : OwedFrame
  is : Owing queue owed ≡ token
  name : ℕ
  picture : ℕ
  time : Option ℕ
  part : Option (ℕ × ℕ × ℕ × ℕ)
  points : List (ℕ × ℕ)
  asks : at.done.step ≡ step.Queue name picture time part points
  now : OwedNow name queue owed picture at.done.answered (name_in at.past.holdings name)

record IsOwedToken (o : Option Token) (token : Token) : Type 0 where
  queue : QueueId
  owed : OwedFrame
  is : Owing queue owed ≡ token
  same : o ≡ Some (Owing queue owed)

owed_token : (o : Option Token) (token : Token) → Contains (owed_if o) token → IsOwedToken o token
owed_token (Some (Owing queue owed)) token there = record { queue = queue; owed = owed; is = the_only (Owing queue owed) token there; same = refl }
owed_token o token there = absurd (none_in token there)

left_owed : (at : DoneAt) (s : Step) (token : Token) → at.done.step ≡ s → Contains (owed_by_step at s) token → LeftOwed at token
left_owed at (step.Queue name picture time part points) token is there =
    let owes = owed_token (owed_by picture at.done.answered (name_in at.past.holdings name)) token there in
    record {
      queue = owes.queue;
      owed = owes.owed;
      is = owes.is;
      name = name;
      picture = picture;
      time = time;
      part = part;
      points = points;
      asks = is;
      now = owed_now name owes.queue owes.owed picture at.done.answered (name_in at.past.holdings name) owes.same;
    }
left_owed at s token is there = absurd (none_in token there)

-- the number of the buffer of a call that queues
abbrev number_queued : PlainCall → ℕ
number_queued (plain_call.Queue token picture width height time crop fence) = token.held.number
number_queued other = 0

-- a frame that was queued with a lease of this buffer
record IsQueuedAs (writes : List WriteAt) (queue : QueueId) (frame number : ℕ) : Type 0 where
  write : WriteAt
  there : Contains writes write
  frame_is : write.write.frame ≡ (queue, frame)
  number_is : write.number ≡ number

module _ {B : Type 0} where
  written_as : (queue : QueueId) (asked : QCall B) (given : PlainReply) (token : WriteToken) (picture width height : ℕ) (time : Option ℕ) (crop : Rect) (fence : Fence) (frame : ℕ)
      → told_call queue asked ≡ plain_call.Queue token picture width height time crop fence → given ≡ plain.Queued frame → IsQueuedAs (place_written queue asked given) queue frame token.held.number
  written_as queue (call.Queue lease shown at part waits) (plain.Queued got) token picture width height time crop fence frame asks gives =
      let number : got ≡ frame = cc (gives) in
      let size : lease.held.number ≡ token.held.number = ap number_queued asks in
      record { write = _; there = first _ []; frame_is = ap (λ (n : ℕ). (queue, n)) number; number_is = size }
  written_as queue (call.Queue lease shown at part waits) given token picture width height time crop fence frame asks gives = absurd (cc (gives))
  written_as queue asked given token picture width height time crop fence frame asks gives = absurd (cc (asks))

  queued_as : (mark : QueueMark) (calls : List (Made B)) (e : Entry) (token : WriteToken) (picture width height : ℕ) (time : Option ℕ) (crop : Rect) (fence : Fence) (frame : ℕ) → Contains (told mark calls) e
      → e.call ≡ plain_call.Queue token picture width height time crop fence → e.reply ≡ plain.Queued frame → IsQueuedAs (places_written mark calls) mark.queue frame token.held.number
  unfolding told
  queued_as mark [] e token picture width height time crop fence frame there asks gives = absurd (none_in e there)
  queued_as mark (made ∷ earlier) e token picture width height time crop fence frame there asks gives =
      by_place (in_front (told_entry mark (told mark earlier) made) e (told mark earlier) there) (λ rest. queued_as mark earlier e token picture width height time crop fence frame rest asks gives)
    where
      by_place : (told_entry mark (told mark earlier) made ≡ e) ⊎ Contains (told mark earlier) e → (Contains (told mark earlier) e → IsQueuedAs (places_written mark earlier) mark.queue frame token.held.number)
          → IsQueuedAs (places_written mark (made ∷ earlier)) mark.queue frame token.held.number
      by_place (inl same) further =
          let here = written_as mark.queue made.call.1 (told_reply mark earlier made.by made.call.1) token picture width height time crop fence frame
          (ap (λ (x : Entry). x.call) same ∙ asks) (ap (λ (x : Entry). x.reply) same ∙ gives) in
          record {
            write = here.write;
            there = Contains-append_left (place_written mark.queue made.call.1 (told_reply mark earlier made.by made.call.1)) (places_written mark earlier) here.write here.there;
            frame_is = here.frame_is;
            number_is = here.number_is;
          }
      by_place (inr rest) further =
          let found = further rest in
          record {
            write = found.write;
            there = Contains-append_right (place_written mark.queue made.call.1 (told_reply mark earlier made.by made.call.1)) (places_written mark earlier) found.write found.there;
            frame_is = found.frame_is;
            number_is = found.number_is;
          }

  module _ (scene : SceneValue) (ofs : List (ActorOf B)) (home : DeskHome) (view : DeskView B) (handler : HandlerOf ReadLeaseOf) (limits : IsWithinLimits scene) (actors : AreActors scene ofs home view)
      (not_called : (queue : ℕ) → has_queue home queue ≡ false → view.calls queue ≡ []) (draws : DrawsStand scene home view ofs handler) where
    abbrev run : Run
    run = run_of ofs home view

    -- a step of the run is one of an actor
    record IsStepOf (s : StepBy) : Type 0 where
      of : ActorOf B
      there : Contains ofs of
      done : Contains (steps_of of.trace) s.at
      number : of.script.number ≡ s.actor

    step_of : (s : StepBy) → Contains (steps_in scene run) s → IsStepOf s
    step_of s there =
        let found = in_some (steps_by run) (rising_actors scene) s there in
        let of = map_has script_of ofs found.0 (subst (λ (scripts : List ActorScript). Contains scripts found.0) (rising_actors_are scene ofs home view limits actors) found.1) in
        let at = map_has (λ (at : DoneAt). record { actor = found.0.number; at = at }) (steps_of (run.trace found.0.number)) s found.2 in
        let traced : run.trace found.0.number ≡ of.0.trace = ap (λ (script : ActorScript). run.trace script.number) (sym of.2) ∙ trace_here ofs of.0 actors.apart of.1 in
        record {
          of = of.0;
          there = of.1;
          done = subst (λ (a : DoneAt). Contains (steps_of of.0.trace) a) (ap (λ (t : StepBy). t.at) at.2) (subst (λ (t : List Done). Contains (steps_of t) at.0) traced at.1);
          number = ap (λ (script : ActorScript). script.number) of.2 ∙ ap (λ (t : StepBy). t.actor) at.2;
        }

    module _ (token : Token) (by : StepBy) (by_there : Contains (steps_in scene run) by) (left : LeftOwed by.at token) where
      by_of : IsStepOf by
      by_of = step_of by by_there

      queues : QueuesFrame by_of.of.trace left.queue left.owed.frame by.at
      queues = record {
        there = by_of.done;
        name = left.name;
        picture = left.picture;
        time = left.time;
        part = left.part;
        points = left.points;
        done = λ i. record { step = left.asks i; answered = left.now.answers i };
        token = left.now.write;
        drawn = None;
        lent = left.now.lent;
      }

      keeps : Keeps (picture_at scene.pictures) home by_of.of view
      keeps = All-contains (λ (o : ActorOf B). Keeps (picture_at scene.pictures) home o view) ofs by_of.of actors.keep by_of.there

      abbrev mark : QueueMark
      mark = mark_among home.marks left.queue.0

      made : EntryOf (told mark (view.calls left.queue.0)) by_of.of.script.number left.owed.frame by.at.place queues.token
      made = entry_of (picture_at scene.pictures) by_of.of.trace by_of.of.script.number (told mark (view.calls left.queue.0)) left.queue left.owed.frame by.at queues
          (subst (λ (es : List Entry). AllZip IsMade (made_on left.queue.0 (made_by (picture_at scene.pictures) by_of.of.trace)) es)
          (sym (own_told by_of.of.script.number mark (view.calls left.queue.0))) (keeps.kept.kept.is.made left.queue.0))

      -- the queue is there, since it was called
      marked : list_any (is_queue left.queue.0) home.marks ≡ true
      unfolding told
      marked = elim (cases_Bool (has_queue home left.queue.0)) [
        | inl met ↦ met
        | inr unmet ↦ absurd (none_in made.entry (subst (λ (calls : List (Made B)). Contains (told mark calls) made.entry) (not_called left.queue.0 unmet) made.there))
      ]

      -- what was owed was queued
      queued : IsQueuedAs (places_of (state_of home view ofs handler)).queued left.queue left.owed.frame left.owed.held.number
      unfolding queues
      queued =
          let at = mark_there home.marks left.queue.0 marked in
          let same : mark.queue ≡ left.queue = λ i. record { 0 = at.1 i } in
          let found = queued_as mark (view.calls left.queue.0) made.entry made.queued.lease made.picture made.queued.width made.queued.height made.queued.time made.crop made.queued.fence left.owed.frame
          made.there made.queued.call made.queued.reply in
          record {
            write = found.write;
            there = in_all (λ (m : QueueMark). places_written m (view.calls m.queue.0)) home.marks mark found.write at.0
                (subst (λ (q : ℕ). Contains (places_written mark (view.calls q)) found.write) (sym at.1) found.there);
            frame_is = found.frame_is ∙ ap (λ (q : QueueId). (q, left.owed.frame)) same;
            number_is = found.number_is ∙ ap (λ (t : WriteToken). t.held.number) made.lease ∙ ap (λ (h : Held). h.number) (sym left.now.size);
          }

      same_at : buffer_of queued.write ≡ buffer_in (Owing left.queue left.owed)
      same_at = λ i. record { queue = (queued.frame_is i).0.0; number = queued.number_is i }

      module _ (s : StepBy) (entered : Token) (turn : IsInTurn scene run (places_of (state_of home view ofs handler)) s entered) where
        earlier_write : is_earlier scene run token s entered ≡ true → IsEarlier scene run s entered queued.write
        earlier_write met =
            subst (λ (b : BufferOf). (same_maker (maker_at scene run b) (maker_at scene run (buffer_in entered))
            && is_before (maker_at scene run b).age queued.write.write.frame.1 (maker_at scene run (buffer_in entered)).age (turn_frame run s entered)) ≡ true) (sym same_at)
            (subst (λ (n : ℕ). (same_maker (maker_at scene run (buffer_in (Owing left.queue left.owed))) (maker_at scene run (buffer_in entered))
            && is_before (maker_at scene run (buffer_in (Owing left.queue left.owed))).age n (maker_at scene run (buffer_in entered)).age (turn_frame run s entered)) ≡ true)
            (sym (ap (λ (f : FrameNumber). f.1) queued.frame_is))
            (subst (λ (t : Token). is_earlier scene run t s entered ≡ true) (sym left.is) met))

        paid : (wrote : WasWritten scene run s queued.write.write.frame) → list_any (pays_before token s) (payments_in scene run) ≡ true
        unfolding queues
        paid wrote =
            let of = step_of wrote.by wrote.there in
            let frame : Contains (paid_at wrote.by.at) (left.queue, left.owed.frame) =
            wrote_paid (picture_at scene.pictures) home view ofs actors.keep actors.apart by_of.of by_of.there left.queue left.owed.frame by.at queues refl of.of of.there wrote.by.at of.done
            (subst (λ (f : FrameNumber). Contains (written_at wrote.by.at) f) queued.frame_is wrote.wrote) in
            let payment : Paid = record { actor = wrote.by.actor; step = wrote.by.at.place; frame = (left.queue, left.owed.frame) } in
            any_passes (pays_before token s) (payments_in scene run) payment
            (has_joined paid_by (steps_in scene run) wrote.by payment wrote.there (has_map (λ frame. record { actor = wrote.by.actor; step = wrote.by.at.place; frame = frame }) (paid_at wrote.by.at) (left.queue, left.owed.frame) frame))
            (subst (λ (t : Token). pays_before t s payment ≡ true) left.is
            (rw (eq-eqb left.queue.0 left.queue.0 refl, eq-eqb left.owed.frame left.owed.frame refl, wrote.no_later) refl))

        comes_after : ComesAfter scene run s entered token
        comes_after = elim (cases_Bool (is_earlier scene run token s entered)) [
          | inl met ↦ let pays = paid (turn.first queued.write queued.there (earlier_write met)) in rw (met, pays) refl
          | inr unmet ↦ rw unmet refl
        ]

    pub draw_after_owed : DrawAfterOwed scene run
    draw_after_owed =
        All-weaker (Contains (steps_in scene run)) (EntersAfter scene run) (λ s there. enters s there) (steps_in scene run) (All-contains_itself (steps_in scene run))
      where
        after : (s : StepBy) → Contains (steps_in scene run) s → (entered : Token) → Contains (entered_by s.at) entered → (token : Token) → Contains (owed_in scene run) token → ComesAfter scene run s entered token
        after s there entered is token owed =
            let by = in_some (λ (t : StepBy). owed_by_step t.at t.at.done.step) (steps_in scene run) token owed in
            comes_after token by.0 by.1 (left_owed by.0.at by.0.at.done.step token refl by.2) s entered (draws s there entered is)

        enters : (s : StepBy) → Contains (steps_in scene run) s → EntersAfter scene run s
        enters s there =
            All-weaker (Contains (entered_by s.at)) (λ entered. All (ComesAfter scene run s entered) (owed_in scene run))
            (λ entered is. All-weaker (Contains (owed_in scene run)) (ComesAfter scene run s entered) (λ token owed. after s there entered is token owed) (owed_in scene run) (All-contains_itself (owed_in scene run)))
            (entered_by s.at) (All-contains_itself (entered_by s.at))

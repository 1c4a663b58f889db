-- A draw that enters pixels is placed: each frame that was queued earlier at them has a lesser turn.
use Rattle.std.proofs.Common.{◌≡◌, ℕ, ◌+◌, ◌<◌, ◌≤◌, ◌⊎◌, ◌==◌, ◌&&◌, true, false, nat_lt, List, [], ◌∷◌, length, Some, arith, ap, sym, ◌∙◌, subst, inl, inr}
use Rattle.std.specs.Prelude.{Contains, filter}
use Rattle.std.proofs.lemmas.Bool.{cases_Bool, false≢true}
use Rattle.sf_base.specs.declared.ids.QueueId.{QueueId}
use Rattle.law_rights.specs.sf_calls.Histories.{IsLegal}
use Rattle.law_rights.specs.sf_script_scene.Scene.{SceneValue}
use Rattle.sf_slots.specs.declared.calls.Entry.{Entry}
use Rattle.sf_slots.specs.declared.calls.PlainReply.{PlainReply}
use Rattle.sf_slots.specs.declared.calls.PlainReply.TheVariants as plain
use Rattle.sf_slots.specs.Events.{Event, frames_queued}
use Rattle.law_rights.specs.sf_surface.declared.call.QCall.{QCall}
use Rattle.law_rights.specs.sf_surface.declared.call.QCall.TheVariants as call
use Rattle.law_rights.specs.sf_surface.declared.call.QReply.{QReply}
use Rattle.law_rights.specs.sf_surface.declared.mark.QueueMark.{QueueMark}
use Rattle.law_rights.specs.sf_surface.Calls.{write_token}
use Rattle.law_rights.specs.sf_surface.Hands.{IsReply}
use Rattle.law_rights.specs.sf_surface.Histories.{Answers, Made, told, told_entry, told_reply}
use Rattle.law_rights.specs.sf_actor.declared.done.Done.{Done}
use Rattle.law_rights.specs.sf_actor.declared.holding.Holding.{Holding}
use Rattle.law_rights.specs.sf_actor.declared.holding.Holding.TheVariants as holding
use Rattle.law_rights.specs.sf_actor.Desks.{mark_among}
use Rattle.law_rights.specs.sf_actor.Makers.{BufferOf, Maker, Run, buffer_in, followed, is_before, same_maker}
use Rattle.law_rights.specs.sf_actor.Holdings.{token_of, turn_held}
use Rattle.law_rights.specs.sf_actor.Rights.{issued_turn}
use Rattle.law_rights.specs.sf_actor.Written.{FrameNumber, paid_frame}
use Rattle.law_rights.specs.law_played.Runs.{StepBy}
use Rattle.law_rights.specs.law_played.Turns.{calls_in, frames_at_lending, is_queued, lends, maker_at, turn_frame}
use Rattle.law_rights.proofs.law_played_lemmas.Members.{has_here}
use Rattle.law_rights.specs.Calls.{write_of, writes_in}
use Rattle.law_rights.specs.InTurn.{frames_on}
use Rattle.law_rights.specs.Ledgers.{IsLedger, Write}
use Rattle.law_rights.specs.MakerRuns.{run_in}
use Rattle.law_rights.specs.Makers.{IsStay, IsTraced, MakersStand, RightAt, WriteAt, buffer_of, maker_in, places_of}
use Rattle.law_rights.specs.Older.{IsHeld}
use Rattle.law_rights.specs.Owed.{MayDraw}
use Rattle.law_rights.specs.States.{AreApart, State, ledger_of}
use Rattle.law_rights.proofs.TurnCounts.{first, none_in, the_only}
use Rattle.law_rights.proofs.FirstLemmas.{both_met, made_there, one_maker_is, queued_first}
use Rattle.law_rights.proofs.FrameNumbers.{frame_counts, frames_below, frames_in, frames_more}
use Rattle.law_rights.proofs.InTurnCalls.{live_turn, write_known}
use Rattle.law_rights.proofs.SlotRights.{events_more}
use Rattle.law_rights.proofs.MakersTelling.{right_there, traced_back, turn_there, write_there}
use Rattle.law_rights.proofs.QueueCounts.{in_some, mark_only}
use Rattle.law_draws.specs.Placed.{IsPlaced, IsQueuedWith}

-- how many replies queued a frame
abbrev queued_in : List Entry → ℕ
queued_in log = length (filter (λ (e : Entry). is_queued e.reply) log)

queued_more : (e : Entry) (log : List Entry) → queued_in log ≤ queued_in (e ∷ log)
queued_more e log = elim (cases_Bool (is_queued e.reply)) [
  | inl met ↦ rw met omega arith
  | inr unmet ↦ rw unmet omega arith
]

lending_most : (actor place slot : ℕ) (log : List Entry) → frames_at_lending actor place slot log ≤ queued_in log
lending_most actor place slot [] = omega arith
lending_most actor place slot (e ∷ log) = by_test (cases_Bool ((e.caller.0 == actor) && (nat_lt e.step place && lends slot e.reply))) (lending_most actor place slot log)
  where
    by_test : (((e.caller.0 == actor) && (nat_lt e.step place && lends slot e.reply)) ≡ true) ⊎ (((e.caller.0 == actor) && (nat_lt e.step place && lends slot e.reply)) ≡ false)
        → frames_at_lending actor place slot log ≤ queued_in log → frames_at_lending actor place slot (e ∷ log) ≤ queued_in (e ∷ log)
    by_test (inl met) rest = rw met omega arith
    by_test (inr unmet) rest = let more = queued_more e log in rw unmet omega (arith, rest, more)

one_more : (a b c : ℕ) → a ≤ b → b ≤ c → a + 1 ≤ c + 1
one_more a b c first second = omega (arith, first, second)

module _ {B : Type 0} where
  -- only a frame's call is answered by a frame's number
  queue_writes : (queue : QueueId) (asked : QCall B) (answered : PlainReply) (reply : QReply B) → IsReply queue asked answered reply → is_queued answered ≡ true → (write : Write) × Contains (write_of queue asked answered) write
  queue_writes queue (call.Queue lease picture time crop fence) (plain.Queued frame) reply is met = (_, first _ [])
  queue_writes queue asked (plain.Queued frame) reply is met = absurd is
  queue_writes queue asked answered reply is met = absurd (false≢true met)

  queued_most : (mark : QueueMark) (calls : List (Made B)) → IsLegal (Answers mark) calls → queued_in (told mark calls) ≤ frames_in mark calls
  unfolding told
  queued_most mark [] legal = omega arith
  queued_most mark (made ∷ earlier) legal = by_reply (cases_Bool (is_queued (told_reply mark earlier made.by made.call.1))) (queued_most mark earlier legal.1)
    where
      grown : frames_in mark earlier ≤ frames_in mark (made ∷ earlier)
      grown = frames_more mark made earlier

      by_reply : (is_queued (told_reply mark earlier made.by made.call.1) ≡ true) ⊎ (is_queued (told_reply mark earlier made.by made.call.1) ≡ false) → queued_in (told mark earlier) ≤ frames_in mark earlier
          → queued_in (told_entry mark (told mark earlier) made ∷ told mark earlier) ≤ frames_in mark (made ∷ earlier)
      by_reply (inl met) rest =
          let write = queue_writes mark.queue made.call.1 (told_reply mark earlier made.by made.call.1) made.reply legal.0.answer met in
          let counts = frame_counts mark earlier made.by made.call.1 (told_reply mark earlier made.by made.call.1) write.0 write.1 in
          let more = ap (λ (es : List Event). frames_queued es) (events_more mark made earlier) in
          rw met omega (arith, rest, counts, more)
      by_reply (inr unmet) rest = let more = grown in rw unmet omega (arith, rest, more)

  module _ (scene : SceneValue) (trace : ℕ → List Done) (state : State B) (ledger : IsLedger (ledger_of state)) (apart : AreApart state.marks)
      (legal : (queue : ℕ) → IsLegal (Answers (mark_among state.marks queue)) (state.view.calls queue)) (makers : MakersStand (run_in trace state) (calls_in scene (run_in trace state)) state) where
    abbrev run : Run
    run = run_in trace state

    abbrev most : ℕ
    most = calls_in scene (run_in trace state)

    -- what is drawn in is a stay of its buffer
    stay_held : (held : Holding B) → IsHeld state.actors held → MayDraw held → IsStay run most makers.stays (turn_held held).0 (buffer_in (token_of held))
    stay_held (holding.Lends lease) is may =
        let at = makers.are.live _ (right_there run most state ledger makers (holding.Lends lease) _ is (has_here _ [])) in
        let traced = makers.are.made _ (made_there run most state ledger makers (holding.Lends lease) is may) in
        record {
          traced = subst (IsTraced run most makers.stays) (sym at) traced;
          one_maker = ap (λ (stay : BufferOf). (maker_in makers.stays stay).made) at;
          age = inr at;
        }
    stay_held (holding.Owes owing size) is may = makers.are.queued _ (write_there run most state ledger makers (holding.Owes owing size) _ is (has_here _ []))
    stay_held (holding.Reads lease) is may = absurd may
    stay_held (holding.Frees queue loose) is may = absurd may

    -- an earlier write of its buffer has an earlier turn
    turn_before : (held : Holding B) → IsHeld state.actors held → MayDraw held → (write : WriteAt) → Contains (places_of state).queued write → write.write.turn.0 ≡ (turn_held held).0 → (s : StepBy)
        → is_before (followed most run (buffer_of write)).age write.write.frame.1 (followed most run (buffer_in (token_of held))).age (turn_frame run s (token_of held)) ≡ true → write.write.turn.1 < (turn_held held).1
    turn_before (holding.Lends lease) is may write there buffer s met =
        ledger.after_queued _ write.write (turn_there run most state ledger makers (holding.Lends lease) _ is (has_here _ [])) (write_known state write there) buffer
    turn_before (holding.Owes owing size) is may write there buffer s met =
        queued_first run most state ledger makers write _ there (write_there run most state ledger makers (holding.Owes owing size) _ is (has_here _ [])) buffer met
    turn_before (holding.Reads lease) is may write there buffer s met = absurd may
    turn_before (holding.Frees queue loose) is may write there buffer s met = absurd may

    -- its frame is behind those that its queue got
    frame_low : (held : Holding B) → IsHeld state.actors held → MayDraw held → (s : StepBy) → turn_frame run s (token_of held) ≤ frames_on run (buffer_in (token_of held)).queue + 1
    frame_low (holding.Lends lease) is may s =
        one_more (frames_at_lending s.actor s.at.place (write_token lease.queue lease).slot.0 (run.calls lease.queue.0)) (queued_in (run.calls lease.queue.0)) (frames_on run lease.queue.0)
        (lending_most s.actor s.at.place (write_token lease.queue lease).slot.0 (run.calls lease.queue.0)) (queued_most (mark_among state.marks lease.queue.0) (state.view.calls lease.queue.0) (legal lease.queue.0))
    frame_low (holding.Owes owing size) is may s =
        let write : WriteAt = record { write = record { turn = issued_turn owing.turn; frame = (owing.queue, owing.frame) }; number = size.number } in
        let queued = write_known state write (write_there run most state ledger makers (holding.Owes owing size) write is (has_here write [])) in
        let at = in_some (λ (m : QueueMark). writes_in m (state.view.calls m.queue.0)) state.marks write.write queued in
        let below = frames_below at.0 (state.view.calls at.0.queue.0) write.write at.2 in
        let low = below.1 in
        let marked = ap (λ (m : QueueMark). frames_in m (state.view.calls at.0.queue.0)) (mark_only state.marks at.0 apart at.1) in
        let queue = ap (λ (q : QueueId). frames_on run q.0) below.0 in
        omega (arith, low, marked, queue)
    frame_low (holding.Reads lease) is may s = absurd may
    frame_low (holding.Frees queue loose) is may s = absurd may

    -- what is owed is the write of its frame
    owed_with : (held : Holding B) → IsHeld state.actors held → MayDraw held → (frame : FrameNumber) → Contains (paid_frame (Some (token_of held))) frame → IsQueuedWith (places_of state) (turn_held held) frame
    owed_with (holding.Lends lease) is may frame there = absurd (none_in frame there)
    owed_with (holding.Owes owing size) is may frame there =
        let write : WriteAt = record { write = record { turn = issued_turn owing.turn; frame = (owing.queue, owing.frame) }; number = size.number } in (
          write,
          write_there run most state ledger makers (holding.Owes owing size) write is (has_here write []),
          ap (λ (f : FrameNumber). let w : Write = record { turn = issued_turn owing.turn; frame = f } in w) (the_only (owing.queue, owing.frame) frame there),
        )
    owed_with (holding.Reads lease) is may frame there = absurd may
    owed_with (holding.Frees queue loose) is may frame there = absurd may

    module _ (held : Holding B) (is_held : IsHeld state.actors held) (may : MayDraw held) (s : StepBy)
        (behind : (queue : ℕ) (entry : Entry) → Contains (run.calls queue) entry → is_queued entry.reply ≡ true → entry.caller.0 ≡ s.actor → entry.step < s.at.place) where
      stay : IsStay run most makers.stays (turn_held held).0 (buffer_in (token_of held))
      stay = stay_held held is_held may

      stay_follows : followed most run (buffer_in (token_of held)) ≡ maker_in makers.stays (buffer_in (token_of held))
      stay_follows = traced_back run most makers.stays (buffer_in (token_of held)) stay.traced

      -- of one maker, so of one buffer
      one_buffer : (buffer : ℕ) (other : BufferOf) → Contains (ledger_of state).made buffer → followed most run other ≡ maker_in makers.stays other
          → (maker_in makers.stays other).made ≡ (maker_in makers.stays (makers.stays.last buffer)).made → same_maker (followed most run other) (followed most run (buffer_in (token_of held))) ≡ true
          → buffer ≡ (turn_held held).0
      one_buffer buffer other made follows maker same =
          makers.are.apart buffer (turn_held held).0 made (made_there run most state ledger makers held is_held may)
          (sym maker ∙ sym (ap (λ (m : Maker). m.made) follows) ∙ one_maker_is (followed most run other) (followed most run (buffer_in (token_of held))) same ∙ ap (λ (m : Maker). m.made) stay_follows ∙ stay.one_maker)

      newest : (right : RightAt) → Contains (places_of state).live right → same_maker (maker_at scene run right.at) (maker_at scene run (buffer_in (token_of held))) ≡ true
          → ((maker_at scene run (buffer_in (token_of held))).age < (maker_at scene run right.at).age) ⊎ (buffer_in (token_of held) ≡ right.at)
      newest right live same =
          let at_last = makers.are.live right live in
          let made = ledger.live_made right.turn (live_turn state right live) in
          let traced : IsTraced run most makers.stays right.at = subst (IsTraced run most makers.stays) (sym at_last) (makers.are.made right.turn.0 made) in
          let follows = traced_back run most makers.stays right.at traced in
          let buffer = one_buffer right.turn.0 right.at made follows (ap (λ (b : BufferOf). (maker_in makers.stays b).made) at_last) same in
          let last : makers.stays.last (turn_held held).0 ≡ right.at = ap makers.stays.last (sym buffer) ∙ sym at_last in
          elim stay.age [
            | inl older ↦
                let mine = ap (λ (m : Maker). m.age) stay_follows in
                let theirs = ap (λ (m : Maker). m.age) follows in
                let same_age = ap (λ (b : BufferOf). (maker_in makers.stays b).age) last in
                inl (omega (arith, older, mine, theirs, same_age))
            | inr one ↦ inr (one ∙ last)
          ]

      pub held_placed : IsPlaced scene run (places_of state) (turn_held held) s (token_of held)
      held_placed = record {
        earlier = makers.stays.before (buffer_in (token_of held));
        made = stay.traced.was_made;
        follows = stay.traced.follows;
        few = stay.traced.few;
        newest = newest;
        frame = frame_low held is_held may s;
        first = λ write queued earlier.
            let parts = both_met (same_maker (maker_at scene run (buffer_of write)) (maker_at scene run (buffer_in (token_of held))))
            (is_before (maker_at scene run (buffer_of write)).age write.write.frame.1 (maker_at scene run (buffer_in (token_of held))).age (turn_frame run s (token_of held))) earlier in
            let made = ledger.queued_made write.write (write_known state write queued) in
            let one = makers.are.queued write queued in
            let buffer = one_buffer write.write.turn.0 (buffer_of write) made (traced_back run most makers.stays (buffer_of write) one.traced) one.one_maker parts.0 in
            record {
              buffer = buffer;
              less = turn_before held is_held may write queued buffer s parts.1;
              queued = λ entry there replied own. behind write.write.frame.0.0 entry there (ap is_queued replied) own;
            };
        own = owed_with held is_held may;
      }

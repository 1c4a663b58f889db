-- A call leaves what draws entered placed, and so do frames that go back.
use Rattle.std.proofs.Common.{◌≡◌, ℕ, ◌+◌, ◌<◌, ◌≤◌, ◌⊎◌, ◌==◌, ◌&&◌, Bool, true, false, nat_lt, List, [], ◌∷◌, arith, refl, ap, sym, ◌∙◌, subst, inl, inr}
use Rattle.std.specs.Prelude.{Contains}
use Rattle.std.proofs.lemmas.Bool.{cases_Bool, cases_eq, eqb-true}
use Rattle.std.proofs.lemmas.List.Elements.{Contains-append_cases, Contains-append_right}
use Rattle.sf_base.specs.Fences.{Fence}
use Rattle.sf_base.specs.declared.ids.QueueId.{QueueId}
use Rattle.law_rights.specs.sf_calls.Histories.{entry}
use Rattle.law_rights.specs.sf_script_scene.Scene.{SceneValue}
use Rattle.sf_slots.specs.declared.calls.Entry.{Entry}
use Rattle.sf_slots.specs.declared.calls.PlainReply.{PlainReply}
use Rattle.sf_slots.specs.declared.calls.PlainReply.TheVariants as plain
use Rattle.sf_slots.specs.Events.{frames_queued}
use Rattle.sf_slots.specs.History.{events}
use Rattle.law_rights.specs.sf_surface.declared.call.QCall.{QCall}
use Rattle.law_rights.specs.sf_surface.declared.call.QCall.TheVariants as call
use Rattle.law_rights.specs.sf_surface.declared.call.QReply.{QReply}
use Rattle.law_rights.specs.sf_surface.declared.mark.QueueMark.{QueueMark}
use Rattle.law_rights.specs.sf_surface.Hands.{IsReply}
use Rattle.law_rights.specs.sf_surface.Histories.{Made, told, told_entry, told_reply}
use Rattle.law_rights.specs.sf_surface.Tokens.{ReadLeaseOf, turn_of}
use Rattle.law_rights.specs.sf_actor.declared.done.Done.{Done}
use Rattle.law_rights.specs.sf_actor.Desks.{mark_among}
use Rattle.law_rights.specs.sf_actor.Makers.{BufferOf, Run, attached_from, is_attached}
use Rattle.law_rights.specs.sf_actor.Names.{Apart, Frame, Lent, Owing, Token}
use Rattle.law_rights.specs.sf_actor.Known.{Call}
use Rattle.law_rights.specs.sf_actor.Rights.{Turn, turn_by}
use Rattle.law_rights.specs.law_played.Runs.{StepBy, steps_in}
use Rattle.law_rights.specs.law_played.Turns.{calls_in, frames_at_lending, lends, turn_frame}
use Rattle.law_rights.proofs.law_played_lemmas.Members.{has_map}
use Rattle.law_rights.specs.InTurn.{frames_on}
use Rattle.law_rights.specs.Calls.{write_of, writes_in}
use Rattle.law_rights.specs.Ledgers.{IsLedger, Write}
use Rattle.law_rights.specs.MakerCalls.{IsNewAt, right_written}
use Rattle.law_rights.specs.MakerRuns.{AreDeclared, run_in}
use Rattle.law_rights.specs.Makers.{MakersStand, Places, RightAt, WriteAt, buffer_of, place_written, places_of}
use Rattle.law_rights.specs.MakerSteps.{PlaceStep, PlacesTold, RunGets, RunTold}
use Rattle.law_rights.specs.Places.{WasAt}
use Rattle.law_rights.specs.PlaceTries.{RestsIn, ReturnAll, ReturnsIn}
use Rattle.law_rights.specs.States.{State, ledger_of}
use Rattle.law_rights.proofs.TurnCounts.{first, in_front, none_in, the_only}
use Rattle.law_rights.proofs.FrameNumbers.{frame_is_next, frames_below, frames_in, frames_more}
use Rattle.law_rights.proofs.InTurnCalls.{live_turn, write_known}
use Rattle.law_rights.proofs.InTurnKeeping.{Arrives, IsNext}
use Rattle.law_rights.proofs.MakersGoing.{run_told}
use Rattle.law_rights.proofs.MakersRunning.{call_stands, calls_more, release_attaches, rests_stand, run_gets}
use Rattle.law_rights.proofs.MakersStanding.{told_is}
use Rattle.law_rights.proofs.MakersTurns.{write_at, write_told}
use Rattle.law_rights.proofs.QueueCounts.{in_some, mark_only}
use Rattle.law_rights.proofs.CallKeepsState.{call_keeps}
use Rattle.law_draws.specs.Placed.{ArePlaced}
use Rattle.law_draws.proofs.PlacedDraws.{QueuesNoOld, placed_stays}

-- a call that lends nothing to an actor before a step leaves what was queued at the lending
abbrev counts_for : ℕ → ℕ → ℕ → Entry → Bool
counts_for actor place slot entry = (entry.caller.0 == actor) && (nat_lt entry.step place && lends slot entry.reply)

frames_skip : (actor place slot : ℕ) (entry : Entry) (earlier : List Entry) → counts_for actor place slot entry ≡ false → frames_at_lending actor place slot (entry ∷ earlier) ≡ frames_at_lending actor place slot earlier
frames_skip actor place slot entry earlier unmet = rw unmet refl

-- a release lends nothing
release_lends : {B : Type 0} (queue : QueueId) (lease : ReadLeaseOf) (fence : Fence) (given : PlainReply) (reply : QReply B) → IsReply queue (call.Release lease fence) given reply → (slot : ℕ) → lends slot given ≡ false
release_lends queue lease fence (plain.Dequeued at held requested reallocated waits) reply is slot = absurd is
release_lends queue lease fence (plain.Attached at held) reply is slot = absurd is
release_lends queue lease fence given reply is slot = refl

none_counts : (actor place slot : ℕ) (entry : Entry) → lends slot entry.reply ≡ false → counts_for actor place slot entry ≡ false
none_counts actor place slot entry none = rw none (both_false (entry.caller.0 == actor) (nat_lt entry.step place))
  where
    both_false : (a b : Bool) → (a && (b && false)) ≡ false
    both_false true true = refl
    both_false true false = refl
    both_false false b = refl

-- a call of a step that is no earlier than this one
late_counts : (actor place slot : ℕ) (entry : Entry) → (entry.caller.0 ≡ actor → place ≤ entry.step) → counts_for actor place slot entry ≡ false
late_counts actor place slot entry late = elim (cases_Bool (entry.caller.0 == actor)) [
  | inl met ↦
      let from = late (eqb-true entry.caller.0 actor met) in
      let unmet : nat_lt entry.step place ≡ false = grind (arith, from) in
      rw (met, unmet) refl
  | inr unmet ↦ rw unmet refl
]

module _ {B : Type 0} (calls : ℕ → ℕ → List (Call B)) where
  -- what was answered with a frame's number queued it
  queues_frame : (queue : QueueId) (asked : QCall B) (answered : PlainReply) (reply : QReply B) (frame : ℕ) → IsReply queue asked answered reply → answered ≡ plain.Queued frame
      → (turn : Turn) × Contains (write_of queue asked answered) (record { turn = turn; frame = (queue, frame) })
  queues_frame queue (call.Queue lease picture time crop fence) (plain.Queued given) reply frame is same =
      let number : given ≡ frame = cc same in
      (_, subst (λ (n : ℕ). Contains (write_of {B = B} queue (call.Queue lease picture time crop fence) (plain.Queued given)) (record { turn = turn_by (turn_of lease.work); frame = (queue, n) })) number (first _ []))
  queues_frame queue asked (plain.Queued given) reply frame is same = absurd is
  queues_frame queue asked answered reply frame is same = absurd (cc same)

  arrives : (scene : SceneValue) (queue : QueueId) (from : BufferOf) (before after : Run) (old new : Places) (asked : QCall B) (answered : PlainReply) (right : RightAt) → PlacesTold queue asked answered from old new
      → RunTold queue asked answered from before after → calls_in scene before < calls_in scene after → IsNewAt queue asked answered right → Arrives scene before after old right
  arrives scene queue from before after old new (call.Dequeue wide high wait permit) (plain.Dequeued slot held requested true fence) right told run more comes =
      record { was_none = run.was_none right comes; way = inl (run.made_by right comes); more = more }
  arrives scene queue from before after old new (call.Attach loose) (plain.Attached slot held) right told run more comes =
      let was : RightAt = record { turn = turn_by loose.turn; at = from } in
      record { was_none = run.was_none right comes; way = inr (was, told.brought was (first was []), run.made_by right comes); more = more }
  arrives scene queue from before after old new (call.AttachRead loose) (plain.Attached slot held) right told run more comes =
      let was : RightAt = record { turn = turn_by loose.turn; at = from } in
      record { was_none = run.was_none right comes; way = inr (was, told.brought was (first was []), run.made_by right comes); more = more }
  arrives scene queue from before after old new asked answered right told run more comes = absurd comes

  next_is : (before : Run) (queue : QueueId) (from : BufferOf) (old new : Places) (asked : QCall B) (answered : PlainReply) (write : WriteAt) → PlacesTold queue asked answered from old new
      → Contains (place_written queue asked answered) write → write.write.frame.1 ≡ frames_on before (buffer_of write).queue + 1 → IsNext before old write
  next_is before queue from old new (call.Queue lease picture time crop fence) (plain.Queued frame) write told there number =
      let brought = first (right_written lease) [] in
      let one = the_only _ write there in
      let own : lease.queue.0 ≡ queue.0 = told.own _ (first _ []) (right_written lease) brought in
      record {
        was = right_written lease;
        there = told.brought (right_written lease) brought;
        at = (λ i. record { queue = own i; number = lease.held.number }) ∙ ap buffer_of one;
        frame = number;
      }
  next_is before queue from old new asked answered write told there number = absurd (none_in write there)

  module _ (trace : ℕ → List Done) (old new : State B) (by queue step : ℕ) (asked : QCall B) (reply : QReply B) (from : BufferOf) (made : PlaceStep old new by queue step asked reply from) (scene : SceneValue)
      (declared : AreDeclared scene old.marks) (is : IsLedger (ledger_of old))
      (attached : (stay : BufferOf) → is_attached (told_reply (mark_among old.marks queue) (old.view.calls queue) by asked) ≡ true
      → attached_from (run_in trace new) (told_entry (mark_among old.marks queue) (told (mark_among old.marks queue) (old.view.calls queue)) (entry by (step, asked) reply)) stay ≡ from)
      (makers : MakersStand (run_in trace old) (calls_in scene (run_in trace old)) old) where
    abbrev before : Run
    before = run_in trace old

    abbrev after : Run
    after = run_in trace new

    abbrev mark : QueueMark
    mark = mark_among old.marks queue

    abbrev one : Made B
    one = entry by (step, asked) reply

    abbrev answered : PlainReply
    answered = told_reply (mark_among old.marks queue) (old.view.calls queue) by asked

    gets : RunGets mark one (old.view.calls queue) from before after
    gets = run_gets trace old new by queue step asked reply from made attached

    goes : RunTold mark.queue asked answered from before after
    goes = run_told mark one (old.view.calls queue) from before after gets

    told_it : PlacesTold mark.queue asked answered from (places_of old) (places_of new)
    told_it = told_is old new by queue step asked reply from made is

    more : calls_in scene before < calls_in scene after
    more = calls_more trace old new by queue step asked reply from made scene declared

    live_now : (right : RightAt) → Contains (places_of new).live right → WasAt (places_of old) right ⊎ Arrives scene before after (places_of old) right
    live_now right there = elim (told_it.live right there) [
      | inl was ↦ inl was
      | inr comes ↦ inr (arrives scene mark.queue from before after (places_of old) (places_of new) asked answered right told_it goes more comes)
    ]

    frame_now : (write : WriteAt) → Contains (place_written mark.queue asked answered) write → write.write.frame.1 ≡ frames_on before (buffer_of write).queue + 1
    frame_now write there =
        let next = frame_is_next mark (old.view.calls queue) by asked answered write.write refl
        (subst (λ (ws : List Write). Contains ws write.write) (write_told mark.queue asked answered) (has_map write_at (place_written mark.queue asked answered) write there)) in
        next.1 ∙ ap (λ (es : List Entry). frames_queued (events es) + 1) (sym gets.old) ∙ ap (λ (q : QueueId). frames_on before q.0 + 1) (sym next.0)

    queued_now : (write : WriteAt) → Contains (places_of new).queued write → Contains (places_of old).queued write ⊎ IsNext before (places_of old) write
    queued_now write there = elim (Contains-append_cases (place_written mark.queue asked answered) (places_of old).queued write (told_it.queued.no_others write there)) [
      | inl now ↦ inr (next_is before mark.queue from (places_of old) (places_of new) asked answered write told_it now (frame_now write now))
      | inr was ↦ inl was
    ]

    frames_grow : (number : ℕ) → frames_on before number ≤ frames_on after number
    frames_grow number = elim (cases_eq number mark.queue.0) [
      | inl same ↦
          let grown = frames_more mark one (old.view.calls queue) in
          let was = ap (frames_on before) same ∙ ap (λ (es : List Entry). frames_queued (events es)) gets.old in
          let now = ap (frames_on after) same ∙ ap (λ (es : List Entry). frames_queued (events es)) gets.new in
          omega (arith, grown, was, now)
      | inr other ↦ let same = ap (λ (es : List Entry). frames_queued (events es)) (gets.others number other) in omega (arith, same)
    ]

    -- the call counts for no step
    abbrev NotLent : StepBy → Type 0
    NotLent s = (slot : ℕ) → counts_for s.actor s.at.place slot (told_entry mark (told mark (old.view.calls queue)) one) ≡ false

    lent_same : (s : StepBy) → NotLent s → (number slot : ℕ) → frames_at_lending s.actor s.at.place slot (after.calls number) ≡ frames_at_lending s.actor s.at.place slot (before.calls number)
    unfolding told
    lent_same s none number slot = elim (cases_eq number mark.queue.0) [
      | inl same ↦
          ap (λ (n : ℕ). frames_at_lending s.actor s.at.place slot (after.calls n)) same
          ∙ ap (frames_at_lending s.actor s.at.place slot) gets.new
          ∙ frames_skip s.actor s.at.place slot (told_entry mark (told mark (old.view.calls queue)) one) (told mark (old.view.calls queue)) (none slot)
          ∙ ap (frames_at_lending s.actor s.at.place slot) (sym gets.old)
          ∙ ap (λ (n : ℕ). frames_at_lending s.actor s.at.place slot (before.calls n)) (sym same)
      | inr other ↦ ap (frames_at_lending s.actor s.at.place slot) (gets.others number other)
    ]

    frame_same : (s : StepBy) (token : Token) → NotLent s → turn_frame after s token ≡ turn_frame before s token
    frame_same s (Lent of token drawn) none = ap (λ (n : ℕ). n + 1) (lent_same s none of.0 token.slot.0)
    frame_same s (Owing of owed) none = refl
    frame_same s (Frame of token) none = refl
    frame_same s (Apart of held) none = refl

    -- what was queued before has a lesser number than a frame that is queued now
    frame_low : (write : WriteAt) → Contains (places_of old).queued write → write.write.frame.1 ≤ frames_on before write.write.frame.0.0
    frame_low write there =
        let at = in_some (λ (m : QueueMark). writes_in m (old.view.calls m.queue.0)) old.marks write.write (write_known old write there) in
        let below = frames_below at.0 (old.view.calls at.0.queue.0) write.write at.2 in
        let low = below.1 in
        let marked = ap (λ (m : QueueMark). frames_in m (old.view.calls at.0.queue.0)) (mark_only old.marks at.0 made.call.once.apart at.1) in
        let queue = ap (λ (q : QueueId). frames_on before q.0) below.0 in
        omega (arith, low, marked, queue)

    is_it : (write : WriteAt) → Contains (places_of old).queued write → write.write.frame.0.0 ≡ mark.queue.0 → answered ≡ plain.Queued write.write.frame.1 → ⊥
    is_it write there here replied =
        let queues = queues_frame mark.queue asked answered reply write.write.frame.1 made.call.once.replied.answer replied in
        let next = frame_is_next mark (old.view.calls queue) by asked answered (record { turn = queues.0; frame = (mark.queue, write.write.frame.1) }) refl queues.1 in
        let low = frame_low write there in
        let number = next.1 in
        let was = ap (λ (es : List Entry). frames_queued (events es)) gets.old in
        let queue = ap (frames_on before) here in
        omega (arith, low, number, was, queue)

    no_old : QueuesNoOld before after (places_of old)
    unfolding told
    no_old write there one_of among replied = elim (cases_eq write.write.frame.0.0 mark.queue.0) [
      | inl here ↦
          let now : Contains (told_entry mark (told mark (old.view.calls queue)) one ∷ told mark (old.view.calls queue)) one_of =
          subst (λ (es : List Entry). Contains es one_of) (ap after.calls here ∙ gets.new) among in
          elim (in_front (told_entry mark (told mark (old.view.calls queue)) one) one_of (told mark (old.view.calls queue)) now) [
            | inl it ↦ absurd (is_it write there here (ap (λ (e : Entry). e.reply) it ∙ replied))
            | inr was ↦ subst (λ (es : List Entry). Contains es one_of) (sym (ap before.calls here ∙ gets.old)) was
          ]
      | inr other ↦ subst (λ (es : List Entry). Contains es one_of) (gets.others write.write.frame.0.0 other) among
    ]

    pub call_placed : ((s : StepBy) → Contains (steps_in scene before) s → NotLent s) → ArePlaced scene calls before (places_of old) → ArePlaced scene calls after (places_of new)
    call_placed none all s there token entered =
        let was = all s there token entered in
        record {
          place = was.place;
          at = was.at;
          turn = was.turn;
          given = was.given;
          placed = placed_stays scene before after (places_of old) (places_of new) makers.stays makers.are told_it.live_made goes.on (omega (arith, more)) was.turn s token was.placed
              (frame_same s token (none s there)) frames_grow live_now queued_now
              (λ write queued. told_it.queued.all write (Contains-append_right (place_written mark.queue asked answered) (places_of old).queued write queued)) no_old;
        }

    -- where the steps that an actor has done are no later than its call
    pub late_placed : ((s : StepBy) → Contains (steps_in scene before) s → by ≡ s.actor → s.at.place ≤ step) → ArePlaced scene calls before (places_of old) → ArePlaced scene calls after (places_of new)
    late_placed late all =
        call_placed (λ s there slot. late_counts s.actor s.at.place slot (told_entry mark (told mark (old.view.calls queue)) one) (late s there)) all

  -- where nothing was called
  pub rest_placed : (trace : ℕ → List Done) (scene : SceneValue) (old new : State B) → RestsIn old new → IsLedger (ledger_of old) → MakersStand (run_in trace old) (calls_in scene (run_in trace old)) old
      → ArePlaced scene calls (run_in trace old) (places_of old) → ArePlaced scene calls (run_in trace new) (places_of new)
  rest_placed trace scene old new rests is makers all =
      subst (λ (run : Run). ArePlaced scene calls run (places_of new)) same
      (λ s there token entered.
      let was = all s there token entered in
      record {
        place = was.place;
        at = was.at;
        turn = was.turn;
        given = was.given;
        placed = placed_stays scene (run_in trace old) (run_in trace old) (places_of old) (places_of new) makers.stays makers.are
            (λ right held. live_is_made right held)
            (record { made = λ stay was. was; same = λ stay was. refl }) (omega arith) was.turn s token was.placed refl (λ queue. omega arith)
            (λ right held. inl (rests.places.live right held)) (λ write held. inl (rests.places.queued.no_others write held))
            (λ write held. rests.places.queued.all write held) (λ write queued entry among replied. among);
      })
    where
      live_is_made : (right : RightAt) → Contains (places_of old).live right → Contains (places_of old).made right.turn.0
      live_is_made right held = is.live_made right.turn (live_turn old right held)

      same : run_in trace old ≡ run_in trace new
      same = sym (λ i. record { trace = trace; calls = λ queue. told (mark_among (rests.marks i) queue) (rests.calls i queue) })

  module _ (trace : ℕ → List Done) (scene : SceneValue) (by step : ℕ) where
    pub returned_placed : (leases : List ReadLeaseOf) (old new : State B) → AreDeclared scene old.marks → ReturnAll by step leases old new → IsLedger (ledger_of old) → MakersStand (run_in trace old) (calls_in scene (run_in trace old)) old
        → ArePlaced scene calls (run_in trace old) (places_of old) → ArePlaced scene calls (run_in trace new) (places_of new)
    returned_placed [] old new declared same is makers all = subst (λ (state : State B). ArePlaced scene calls (run_in trace state) (places_of state)) (sym same) all
    returned_placed (lease ∷ later) old new declared returns is makers all =
        returned_placed later mid new (subst (AreDeclared scene) (sym made.call.marks) declared) returns.2
        (call_keeps old mid by returns.1.queue step (call.Release lease returns.1.fence) returns.1.reply made.call is)
        (call_stands trace old mid by returns.1.queue step (call.Release lease returns.1.fence) returns.1.reply nowhere made scene declared is none_attached makers)
        (call_placed trace old mid by returns.1.queue step (call.Release lease returns.1.fence) returns.1.reply nowhere made scene declared is none_attached makers
        (λ s there slot. none_counts s.actor s.at.place slot (told_entry (mark_among old.marks returns.1.queue) (told (mark_among old.marks returns.1.queue) (old.view.calls returns.1.queue)) (entry by (step, call.Release lease returns.1.fence) returns.1.reply))
        (release_lends (mark_among old.marks returns.1.queue).queue lease returns.1.fence (told_reply (mark_among old.marks returns.1.queue) (old.view.calls returns.1.queue) by (call.Release lease returns.1.fence)) returns.1.reply made.call.once.replied.answer slot))
        all)
      where
        mid : State B
        mid = returns.0

        nowhere : BufferOf
        nowhere = record { queue = 0; number = 0 }

        made : PlaceStep old mid by returns.1.queue step (call.Release lease returns.1.fence) returns.1.reply nowhere
        made = returns.1.made nowhere

        none_attached : (stay : BufferOf) → is_attached (told_reply (mark_among old.marks returns.1.queue) (old.view.calls returns.1.queue) by (call.Release lease returns.1.fence)) ≡ true
            → attached_from (run_in trace mid) (told_entry (mark_among old.marks returns.1.queue) (told (mark_among old.marks returns.1.queue) (old.view.calls returns.1.queue)) (entry by (step, call.Release lease returns.1.fence) returns.1.reply)) stay ≡ nowhere
        none_attached stay attaches = absurd (release_attaches (mark_among old.marks returns.1.queue).queue lease returns.1.fence (told_reply (mark_among old.marks returns.1.queue) (old.view.calls returns.1.queue) by (call.Release lease returns.1.fence)) returns.1.reply made.call.once.replied.answer attaches)

    pub returns_placed : (old new : State B) → AreDeclared scene old.marks → ReturnsIn by step old new → IsLedger (ledger_of old) → MakersStand (run_in trace old) (calls_in scene (run_in trace old)) old
        → ArePlaced scene calls (run_in trace old) (places_of old) → ArePlaced scene calls (run_in trace new) (places_of new)
    returns_placed old new declared returns is makers all =
        returned_placed returns.leases returns.mid new (subst (AreDeclared scene) (sym returns.rests.marks) declared) returns.returns returns.rests.ledger (rests_stand trace scene old returns.mid returns.rests makers)
        (rest_placed trace scene old returns.mid returns.rests is makers all)

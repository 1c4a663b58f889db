-- Where a run is joined, draws that are placed are in turn: all that left is known, and each earlier write is among it.
use Rattle.std.proofs.Common.{◌≡◌, ℕ, ◌≤◌, ◌<◌, ◌⊎◌, ◌==◌, nat_le, true, false, List, [], Option, Some, arith, ap, sym, refl, ◌∙◌, inl, inr, subst}
use Rattle.std.specs.Prelude.{Contains, is_some, option_to_list}
use Rattle.std.specs.List.{AllZip, flat_map}
use Rattle.std.proofs.lemmas.Bool.{cases_Bool, cases_lt, eqb-true}
use Rattle.std.proofs.lemmas.List.Elements.{All-contains}
use Rattle.sf_base.specs.declared.ids.QueueId.{QueueId}
use Rattle.law_rights.specs.sf_commit.Handlers.{HandlerOf}
use Rattle.law_rights.specs.sf_picture.declared.picture.Picture.{Picture}
use Rattle.law_rights.specs.sf_script_scene.Limits.{IsWithinLimits}
use Rattle.law_rights.specs.sf_script_scene.Scene.{SceneValue}
use Rattle.law_rights.specs.sf_script_scene.declared.step.ActorScript.{ActorScript}
use Rattle.law_rights.specs.sf_script_scene.declared.step.Step.{Step}
use Rattle.law_rights.specs.sf_script_scene.declared.step.Step.TheVariants as step
use Rattle.sf_slots.specs.declared.calls.Entry.{Entry}
use Rattle.sf_slots.specs.declared.calls.PlainReply.TheVariants as reply
use Rattle.sf_slots.specs.declared.calls.WriteToken.{WriteToken}
use Rattle.law_rights.specs.sf_surface.Histories.{told}
use Rattle.law_rights.specs.sf_surface.Tokens.{ReadLeaseOf}
use Rattle.law_rights.specs.sf_surface.declared.mark.QueueMark.{QueueMark}
use Rattle.law_rights.specs.sf_turns.Counts.{IsExact}
use Rattle.law_rights.specs.sf_actor.declared.done.Answered.{Answered}
use Rattle.law_rights.specs.sf_actor.declared.done.Answered.TheVariants as answered
use Rattle.law_rights.specs.sf_actor.declared.done.Done.{Done}
use Rattle.law_rights.specs.sf_actor.Desks.{DeskHome, DeskView, known_of, mark_among}
use Rattle.law_rights.specs.sf_actor.Draws.{entered_at, entered_in, entered_name}
use Rattle.law_rights.specs.sf_actor.Known.{share_of}
use Rattle.law_rights.specs.sf_actor.Makers.{Run}
use Rattle.law_rights.specs.sf_actor.Names.{Holdings, Lent, Owing, Token, name_in}
use Rattle.law_rights.specs.sf_actor.Points.{undrawn_fence}
use Rattle.law_rights.specs.sf_actor.Rights.{Turn, WasGivenAt}
use Rattle.law_rights.specs.sf_actor.ScriptTraces.{IsMade, made_on}
use Rattle.law_rights.specs.sf_actor.Traces.{DoneAt, made_by, no_past, places_of as steps_of}
use Rattle.law_rights.specs.sf_actor.Tries.{ActorOf, Keeps}
use Rattle.law_rights.specs.sf_actor.Written.{FrameNumber, drawn_frame, paid_frame, written_at, written_by, written_in}
use Rattle.law_rights.specs.law_played.Actors.{AreActors, run_of, script_of, trace_among}
use Rattle.law_rights.specs.law_played.Runs.{StepBy, rising_actors, steps_by, steps_in}
use Rattle.law_rights.specs.law_played.Turns.{token_in}
use Rattle.law_rights.proofs.law_played_lemmas.Members.{has_here, has_joined, has_map, map_has}
use Rattle.law_rights.proofs.law_played_lemmas.RisingNumbers.{rising_actors_are}
use Rattle.law_rights.proofs.law_played_lemmas.RunTraces.{own_told, trace_here}
use Rattle.law_rights.specs.Actors.{AreOver}
use Rattle.law_rights.specs.InTurn.{DrawsStand, IsInTurn, IsNoLater, WasWritten}
use Rattle.law_rights.specs.Ledgers.{Write}
use Rattle.law_rights.specs.Makers.{WriteAt, places_of}
use Rattle.law_rights.specs.Owed.{EntersLast}
use Rattle.law_rights.specs.Queuing.{QueuesFrame}
use Rattle.law_rights.specs.Standing.{LedgerStands, state_of}
use Rattle.law_rights.specs.States.{State, all_written, ledger_of}
use Rattle.law_rights.proofs.TurnCounts.{none_in, the_only}
use Rattle.law_rights.proofs.EarlierWrites.{enters_last}
use Rattle.law_rights.proofs.InTurnCalls.{write_known}
use Rattle.law_rights.proofs.QueueCounts.{in_some}
use Rattle.law_rights.proofs.DrawOrder.{draws_rise}
use Rattle.law_rights.proofs.PaidDrawings.{same_place}
use Rattle.law_rights.proofs.QueueSteps.{entry_of}
use Rattle.law_draws.specs.Placed.{DrawsPlaced, EntersPlaced, IsBehind, IsQueuedWith, calls_of}
use Rattle.law_draws.proofs.TurnsGiven.{given_once}

-- a step wrote a frame as it queued it, drawn; or it drew what was owed to it
record WroteDrawn (holdings : Holdings) (done : Done) (queue : QueueId) (frame : ℕ) : Type 0 where
  name : ℕ
  picture : ℕ
  time : Option ℕ
  part : Option (ℕ × ℕ × ℕ × ℕ)
  points : List (ℕ × ℕ)
  is : done ≡ record { step = step.Queue name picture time part points; answered = answered.Called (reply.Queued frame) }
  token : WriteToken
  drawn : ℕ
  lent : name_in holdings name ≡ Some (Lent queue token (Some drawn))

record PaysFor (holdings : Holdings) (s : Step) (answer : Answered) (frame : FrameNumber) : Type 0 where
  token : Token
  entered : Contains (option_to_list (token_in holdings (entered_name holdings s answer))) token
  owed : Contains (paid_frame (Some token)) frame

record IsDrawn (token : Option Token) (given : ℕ) (queue : QueueId) (frame : ℕ) : Type 0 where
  same : given ≡ frame
  write : WriteToken
  drawn : ℕ
  lent : token ≡ Some (Lent queue write (Some drawn))

is_drawn : (token : Option Token) (given : ℕ) (queue : QueueId) (frame : ℕ) → Contains (drawn_frame token given) (queue, frame) → IsDrawn token given queue frame
is_drawn (Some (Lent of write (Some drawn))) given queue frame there =
    let same = the_only (of, given) (queue, frame) there in
    record { same = ap (λ (f : FrameNumber). f.1) same; write = write; drawn = drawn; lent = ap (λ (q : QueueId). Some (Lent q write (Some drawn))) (ap (λ (f : FrameNumber). f.0) same) }
is_drawn token given queue frame there = absurd (none_in (queue, frame) there)

-- what is owed is entered by its draw
record IsOwed (token : Option Token) (frame : FrameNumber) : Type 0 where
  is : Token
  held : token ≡ Some is
  undrawn : is_some (undrawn_fence token) ≡ true
  owed : Contains (paid_frame (Some is)) frame

is_owed : (token : Option Token) (frame : FrameNumber) → Contains (paid_frame token) frame → IsOwed token frame
is_owed (Some (Owing queue owed)) frame there = record { is = Owing queue owed; held = refl; undrawn = refl; owed = there }
is_owed token frame there = absurd (none_in frame there)

owed_entered : (holdings : Holdings) (name picture status : ℕ) (is : Token) → (status == 0) ≡ true → is_some (undrawn_fence (name_in holdings name)) ≡ true → name_in holdings name ≡ Some is
    → Contains (option_to_list (token_in holdings (entered_name holdings (step.Draw name picture) (answered.Own status)))) is
owed_entered holdings name picture status is met undrawn held = rw (met, undrawn, held) (has_here is [])

pays_for : (holdings : Holdings) (name picture status : ℕ) (frame : FrameNumber) → (status == 0) ≡ true → Contains (paid_frame (name_in holdings name)) frame → PaysFor holdings (step.Draw name picture) (answered.Own status) frame
pays_for holdings name picture status frame met there =
    let owes = is_owed (name_in holdings name) frame there in
    record {
      token = owes.is;
      entered = owed_entered holdings name picture status owes.is met owes.undrawn owes.held;
      owed = owes.owed;
    }

wrote_or_paid : (holdings : Holdings) (s : Step) (answer : Answered) (queue : QueueId) (frame : ℕ) → Contains (written_by holdings s answer) (queue, frame)
    → WroteDrawn holdings (record { step = s; answered = answer }) queue frame ⊎ PaysFor holdings s answer (queue, frame)
wrote_or_paid holdings (step.Queue name picture time part points) (answered.Called (reply.Queued given)) queue frame there =
    let is = is_drawn (name_in holdings name) given queue frame there in
    inl (record {
      name = name;
      picture = picture;
      time = time;
      part = part;
      points = points;
      is = ap (λ (n : ℕ). record { step = step.Queue name picture time part points; answered = answered.Called (reply.Queued n) }) is.same;
      token = is.write;
      drawn = is.drawn;
      lent = is.lent;
    })
wrote_or_paid holdings (step.Draw name picture) (answered.Own status) queue frame there = elim (cases_Bool (status == 0)) [
  | inl met ↦ inr (pays_for holdings name picture status (queue, frame) met (rw met at there))
  | inr unmet ↦ absurd (none_in (queue, frame) (rw unmet at there))
]
wrote_or_paid holdings s answer queue frame there = absurd (none_in (queue, frame) there)

the_same : {m n : ℕ} → Some m ≡ Some n → m ≡ n
the_same same = cc same

module _ {B : Type 0} (scene : SceneValue) (ofs : List (ActorOf B)) (home : DeskHome) (view : DeskView B) (limits : IsWithinLimits scene) (actors : AreActors scene ofs home view)
    (pictures : ℕ → Picture) (buffers : ℕ) (handler : HandlerOf ReadLeaseOf) (stands : LedgerStands buffers home view ofs handler) (over : AreOver pictures home view ofs)
    (exact : IsExact buffers view.turns.leaves view.turns.seen) (placed : DrawsPlaced scene home view ofs handler) where
  abbrev run : Run
  run = run_of ofs home view

  abbrev state : State B
  state = state_of home view ofs handler

  -- a step of the run is one of an actor
  record IsStepOf (s : StepBy) : Type 0 where
    of : ActorOf B
    there : Contains ofs of
    number : of.script.number ≡ s.actor
    done : Contains (steps_of of.trace) s.at

  abbrev by_script : ActorScript → DoneAt → StepBy
  by_script script at = record { actor = script.number; at = at }

  step_of : (s : StepBy) → Contains (steps_in scene run) s → IsStepOf s
  step_of s there =
      let found = in_some (steps_by run) (rising_actors scene) s there in
      let at = map_has (by_script found.0) (steps_of (run.trace found.0.number)) s found.2 in
      let of = map_has script_of ofs found.0 (subst (λ (scripts : List ActorScript). Contains scripts found.0) (rising_actors_are scene ofs home view limits actors) found.1) in
      let number : of.0.script.number ≡ found.0.number = ap (λ (script : ActorScript). script.number) of.2 in
      let traced : run.trace found.0.number ≡ of.0.trace = ap (trace_among ofs) (sym number) ∙ trace_here ofs of.0 actors.apart of.1 in
      record {
        of = of.0;
        there = of.1;
        number = number ∙ ap (λ (t : StepBy). t.actor) at.2;
        done = subst (λ (a : DoneAt). Contains (steps_of of.0.trace) a) (ap (λ (t : StepBy). t.at) at.2) (subst (λ (t : List Done). Contains (steps_of t) at.0) traced at.1);
      }

  step_there : (of : ActorOf B) (at : DoneAt) → Contains ofs of → Contains (steps_of of.trace) at → Contains (steps_in scene run) (record { actor = of.script.number; at = at })
  step_there of at there done =
      let traced : trace_among ofs of.script.number ≡ of.trace = trace_here ofs of actors.apart there in
      has_joined (steps_by run) (rising_actors scene) of.script (record { actor = of.script.number; at = at })
      (subst (λ (scripts : List ActorScript). Contains scripts of.script) (sym (rising_actors_are scene ofs home view limits actors)) (has_map script_of ofs of there))
      (has_map (by_script of.script) (steps_of (trace_among ofs of.script.number)) at (subst (λ (t : List Done). Contains (steps_of t) at) (sym traced) done))

  keeps : (of : ActorOf B) → Contains ofs of → Keeps pictures home of view
  keeps of there = All-contains (λ (o : ActorOf B). Keeps pictures home o view) ofs of over.keep there

  module _ (of : ActorOf B) (there : Contains ofs of) (at : DoneAt) (done : Contains (steps_of of.trace) at) (token : Token) (enters : EntersPlaced scene (calls_of home view) run (places_of state) (record { actor = of.script.number; at = at }) token) where
    abbrev s : StepBy
    s = record { actor = of.script.number; at = at }

    entered : Contains (entered_in of.trace) enters.place
    entered = has_joined (λ (a : DoneAt). option_to_list (entered_at a)) (steps_of of.trace) at enters.place done
        (subst (λ (o : Option ℕ). Contains (option_to_list o) enters.place) (sym enters.at) (has_here enters.place []))

    last : EntersLast home view (all_written state) of.script.number enters.place
    last = enters_last pictures buffers home view ofs handler stands over exact of there enters.place entered

    -- the turn that was counted is that of the token
    counted : last.turn ≡ enters.turn
    counted = given_once pictures home view of (keeps of there) at done enters.place enters.at last.turn enters.turn last.given enters.given

    module _ (write : WriteAt) (queued : Contains (places_of state).queued write) (behind : IsBehind run s enters.turn write) where
      known : Contains (ledger_of state).queued write.write
      known = write_known state write queued

      wrote : Contains (flat_map (λ (o : ActorOf B). written_in o.trace) ofs) write.write.frame
      wrote = last.before write.write known (behind.buffer ∙ ap (λ (t : Turn). t.0) (sym counted))
          (subst (λ (t : Turn). write.write.turn.1 < t.1) (sym counted) behind.less)

      -- the step that wrote it is no later one
      module _ (o : ActorOf B) (among : Contains ofs o) (by : DoneAt) (by_done : Contains (steps_of o.trace) by) (same : o.script.number ≡ of.script.number) where
        traces : o.trace ≡ of.trace
        traces = sym (trace_here ofs o actors.apart among) ∙ ap (trace_among ofs) same ∙ trace_here ofs of actors.apart there

        drawn_before : WroteDrawn by.past.holdings (record { step = by.done.step; answered = by.done.answered }) write.write.frame.0 write.write.frame.1 → by.place < at.place
        drawn_before drew =
            let queues : QueuesFrame o.trace write.write.frame.0 write.write.frame.1 by = record {
              there = by_done;
              name = drew.name;
              picture = drew.picture;
              time = drew.time;
              part = drew.part;
              points = drew.points;
              done = drew.is;
              token = drew.token;
              drawn = Some drew.drawn;
              lent = drew.lent;
            } in
            let mark : QueueMark = mark_among home.marks write.write.frame.0.0 in
            let made = entry_of pictures o.trace o.script.number (told mark (view.calls write.write.frame.0.0)) write.write.frame.0 write.write.frame.1 by queues
            (subst (λ (es : List Entry). AllZip IsMade (made_on write.write.frame.0.0 (made_by pictures o.trace)) es)
            (sym (own_told o.script.number mark (view.calls write.write.frame.0.0))) ((keeps o among).kept.kept.is.made write.write.frame.0.0)) in
            let before = behind.queued made.entry made.there made.queued.reply (made.caller ∙ same) in
            let step = made.step in
            omega (arith, before, step)

        paid_before : PaysFor by.past.holdings by.done.step by.done.answered write.write.frame → by.place < at.place
        paid_before pays = elim (cases_lt by.place at.place) [
          | inl less ↦ less
          | inr late ↦ absurd (no_later late)
        ]
          where
            payer : EntersPlaced scene (calls_of home view) run (places_of state) (record { actor = o.script.number; at = by }) pays.token
            payer = placed (record { actor = o.script.number; at = by }) (step_there o by among by_done) pays.token pays.entered

            own : IsQueuedWith (places_of state) payer.turn write.write.frame
            own = payer.placed.own write.write.frame pays.owed

            turn : write.write.turn ≡ payer.turn
            turn = stands.ledger.one_turn write.write own.0.write known (write_known state own.0 own.1) (sym (ap (λ (w : Write). w.frame) own.2)) ∙ ap (λ (w : Write). w.turn) own.2

            less : payer.turn.1 < enters.turn.1
            less = subst (λ (t : Turn). t.1 < enters.turn.1) turn behind.less

            buffer : payer.turn.0 ≡ enters.turn.0
            buffer = ap (λ (t : Turn). t.0) (sym turn) ∙ behind.buffer

            by_here : Contains (steps_of of.trace) by
            by_here = subst (λ (t : List Done). Contains (steps_of t) by) traces by_done

            paid_with : WasGivenAt (calls_of home view of.script.number) payer.place (Some payer.turn)
            paid_with = subst (λ (n : ℕ). WasGivenAt (calls_of home view n) payer.place (Some payer.turn)) same payer.given

            one_turn : at.place ≡ by.place → ⊥
            one_turn here =
                let steps : at ≡ by = same_place 1 no_past of.trace at by done by_here here in
                let places : payer.place ≡ enters.place = the_same (sym payer.at ∙ ap (λ (a : DoneAt). entered_at a) (sym steps) ∙ enters.at) in
                let turns = given_once pictures home view of (keeps of there) at done enters.place enters.at payer.turn enters.turn
                (subst (λ (p : ℕ). WasGivenAt (calls_of home view of.script.number) p (Some payer.turn)) places paid_with) enters.given in
                let numbers = ap (λ (t : Turn). t.1) turns in
                omega (arith, less, numbers)

            later_turn : at.place < by.place → ⊥
            later_turn after =
                let order = draws_rise (share_of of.script.number (known_of home view)) of.trace (keeps of there).kept.kept.turns at by done by_here after enters.place payer.place enters.at payer.at in
                let mine = given_once pictures home view of (keeps of there) at done enters.place enters.at order.0 enters.turn order.2 enters.given in
                let theirs = given_once pictures home view of (keeps of there) by by_here payer.place payer.at order.1 payer.turn order.3 paid_with in
                let rise = order.4 (ap (λ (t : Turn). t.0) mine ∙ sym buffer ∙ ap (λ (t : Turn). t.0) (sym theirs)) in
                let a = ap (λ (t : Turn). t.1) mine in
                let b = ap (λ (t : Turn). t.1) theirs in
                omega (arith, less, rise, a, b)

            no_later : at.place ≤ by.place → ⊥
            no_later late = elim (cases_lt at.place by.place) [
              | inl after ↦ later_turn after
              | inr back ↦ one_turn (omega (arith, late, back))
            ]

      is_before : (o : ActorOf B) → Contains ofs o → (by : DoneAt) → Contains (steps_of o.trace) by → Contains (written_at by) write.write.frame → IsNoLater s (record { actor = o.script.number; at = by })
      is_before o among by by_done wrote_it = elim (cases_Bool (o.script.number == of.script.number)) [
        | inl met ↦
            let before = by_way (eqb-true o.script.number of.script.number met) (wrote_or_paid by.past.holdings by.done.step by.done.answered write.write.frame.0 write.write.frame.1 wrote_it) in
            let late : nat_le at.place by.place ≡ false = grind (arith, before) in
            rw (met, late) refl
        | inr unmet ↦ rw unmet refl
      ]
        where
          by_way : o.script.number ≡ of.script.number
              → WroteDrawn by.past.holdings (record { step = by.done.step; answered = by.done.answered }) write.write.frame.0 write.write.frame.1 ⊎ PaysFor by.past.holdings by.done.step by.done.answered write.write.frame
              → by.place < at.place
          by_way same (inl drew) = drawn_before o among by by_done same drew
          by_way same (inr pays) = paid_before o among by by_done same pays

      was_written : WasWritten scene run s write.write.frame
      was_written =
          let by = in_some (λ (o : ActorOf B). written_in o.trace) ofs write.write.frame wrote in
          let step = in_some written_at (steps_of by.0.trace) write.write.frame by.2 in
          record {
            by = record { actor = by.0.script.number; at = step.0 };
            there = step_there by.0 step.0 by.1 step.1;
            wrote = step.2;
            no_later = is_before by.0 by.1 step.0 step.1 step.2;
          }

    is_in_turn : IsInTurn scene run (places_of state) s token
    is_in_turn = record {
      earlier = enters.placed.earlier;
      made = enters.placed.made;
      follows = enters.placed.follows;
      few = enters.placed.few;
      newest = enters.placed.newest;
      frame = enters.placed.frame;
      first = λ write queued earlier. was_written write queued (enters.placed.first write queued earlier);
    }

  pub draws_stand : DrawsStand scene home view ofs handler
  draws_stand s there token entered =
      let by = step_of s there in
      let is : record { actor = by.of.script.number; at = s.at } ≡ s = λ i. record { actor = by.number i; at = s.at } in
      subst (λ (t : StepBy). IsInTurn scene run (places_of state) t token) is
      (is_in_turn by.of by.there s.at by.done token (subst (λ (t : StepBy). EntersPlaced scene (calls_of home view) run (places_of state) t token) (sym is) (placed s there token entered)))

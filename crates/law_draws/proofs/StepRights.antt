-- What stands of the rights of a run stands after a step that an actor did.
use Rattle.std.proofs.Common.{◌≡◌, ℕ, zero, suc, ◌+◌, ◌-◌, ◌≤◌, ◌⊎◌, ◌==◌, ◌&&◌, ◌||◌, Bool, true, false, List, [], ◌∷◌, ◌++◌, map, length, get_or, Option, Some, None, arith, refl, ap, sym, ◌∙◌, subst, inl, inr}
use Rattle.std.specs.Prelude.{Contains, is_some, option_to_list, slice_get, slice_set}
use Rattle.std.specs.List.Sorted.{IsStrictlyIncreasing}
use Rattle.std.specs.Option.{option_map, option_map_or}
use Rattle.std.proofs.lemmas.Bool.{cases_Bool, false≢true}
use Rattle.std.proofs.lemmas.List.{length-append}
use Rattle.law_rights.specs.sf_calls.Histories.{IsLegal}
use Rattle.law_rights.specs.sf_script_scene.Scene.{SceneValue}
use Rattle.law_rights.specs.sf_script_scene.declared.step.Step.{Step}
use Rattle.law_rights.specs.sf_script_scene.declared.step.Step.TheVariants as step
use Rattle.law_rights.specs.sf_surface.Histories.{Answers, told}
use Rattle.law_rights.specs.sf_actor.declared.done.Answered.{Answered}
use Rattle.law_rights.specs.sf_actor.declared.done.Answered.TheVariants as answered
use Rattle.law_rights.specs.sf_actor.declared.done.Done.{Done}
use Rattle.law_rights.specs.sf_actor.declared.holding.Holding.{Holding}
use Rattle.law_rights.specs.sf_actor.declared.holding.Holding.TheVariants as holding
use Rattle.law_rights.specs.sf_actor.Desks.{mark_among}
use Rattle.law_rights.specs.sf_actor.Draws.{entered_name}
use Rattle.law_rights.specs.sf_actor.Known.{Call}
use Rattle.law_rights.specs.sf_actor.Makers.{BufferOf, Run, attached_at, is_attached}
use Rattle.law_rights.specs.sf_actor.Names.{Holdings, Token, name_in}
use Rattle.law_rights.specs.sf_actor.Holdings.{token_of, turn_held}
use Rattle.law_rights.specs.sf_actor.Points.{undrawn_fence}
use Rattle.law_rights.specs.sf_actor.Traces.{DoneAt, places_of as steps_of}
use Rattle.law_rights.specs.sf_actor.Tries.{ActorOf, past_of}
use Rattle.law_rights.specs.law_played.Actors.{number_of, trace_among}
use Rattle.law_rights.specs.law_played.Runs.{StepBy, steps_in}
use Rattle.law_rights.specs.law_played.Turns.{calls_in, entered_by, is_queued, token_in}
use Rattle.law_rights.proofs.law_played_lemmas.RunTraces.{trace_here}
use Rattle.law_rights.specs.MakerRuns.{AreDeclared, run_in}
use Rattle.law_rights.specs.Makers.{GoesOn, MakersStand, RightAt, places_of}
use Rattle.law_rights.specs.Older.{IsHeld}
use Rattle.law_rights.specs.Owed.{MayDraw}
use Rattle.law_rights.specs.PlaceTries.{PlacesGo, loose_at}
use Rattle.law_rights.specs.States.{AreApart, State}
use Rattle.law_rights.proofs.TurnCounts.{none_in}
use Rattle.law_rights.proofs.FirstLemmas.{both_met, the_some}
use Rattle.law_rights.proofs.InTurnCalls.{live_turn}
use Rattle.law_rights.proofs.InTurnSteps.{step_from, steps_within}
use Rattle.law_rights.proofs.MakersKeeping.{run_keeps}
use Rattle.law_rights.proofs.MakersRunning.{call_stands, returns_stand}
use Rattle.law_rights.proofs.MakersTracing.{got_end, trace_now, trace_other}
use Rattle.law_rights.proofs.OlderLemmas.{get_there}
use Rattle.law_rights.proofs.OwedDrawings.{in_set}
use Rattle.law_rights.proofs.StepLedger.{got_has, got_set}
use Rattle.law_rights.proofs.StepMoves.{at_end}
use Rattle.law_draws.specs.Doing.{DoesIn}
use Rattle.law_draws.specs.Placed.{ArePlaced, EntersPlaced}
use Rattle.law_draws.specs.Standing.{AreOfSteps, RightsStand}
use Rattle.law_draws.proofs.CallPlacement.{late_placed, returns_placed}
use Rattle.law_draws.proofs.EnteredDraws.{held_placed}
use Rattle.law_draws.proofs.PlacedDraws.{placed_stays}
use Rattle.law_draws.proofs.RightsAtRest.{call_of_steps, returns_of_steps}
use Rattle.law_draws.proofs.TraceGrowth.{numbers_stay, trace_goes_on}

-- a step that enters what a name holds
record EntersName (holdings : Holdings) (s : Step) (answer : Answered) (token : Token) : Type 0 where
  name : ℕ
  named : entered_name holdings s answer ≡ Some name
  held : name_in holdings name ≡ Some token
  undrawn : is_some (undrawn_fence (Some token)) ≡ true

entered_is : (holdings : Holdings) (s : Step) (answer : Answered) (token : Token) → Contains (option_to_list (token_in holdings (entered_name holdings s answer))) token → EntersName holdings s answer token
entered_is holdings (step.Draw name picture) (answered.Own status) token there = by_test (cases_Bool ((status == 0) && is_some (undrawn_fence (name_in holdings name))))
  where
    by_test : (((status == 0) && is_some (undrawn_fence (name_in holdings name))) ≡ true) ⊎ (((status == 0) && is_some (undrawn_fence (name_in holdings name))) ≡ false)
        → EntersName holdings (step.Draw name picture) (answered.Own status) token
    by_test (inl met) =
        let parts = both_met (status == 0) (is_some (undrawn_fence (name_in holdings name))) met in
        let held : name_in holdings name ≡ Some token = the_some (name_in holdings name) token (rw met at there) in
        record { name = name; named = rw met refl; held = held; undrawn = subst (λ (o : Option Token). is_some (undrawn_fence o) ≡ true) held parts.1 }
    by_test (inr unmet) = absurd (none_in token (rw unmet at there))
entered_is holdings s answer token there = absurd (none_in token there)

told_first : (a b : Bool) → a ≡ true → (a || b) ≡ true
told_first true b met = refl
told_first false b met = absurd (false≢true met)

told_second : (a b : Bool) → b ≡ true → (a || b) ≡ true
told_second true b met = refl
told_second false b met = met

module _ {B : Type 0} where
  -- what a name holds, by its token
  held_of : (names : List (Option (Holding B))) (name : ℕ) (token : Token) → get_or (map (option_map token_of) names) name None ≡ Some token → (held : Holding B) × (get_or names name None ≡ Some held) × (token_of held ≡ token)
  held_of [] name token is = absurd (cc (is))
  held_of (None ∷ names) zero token is = absurd (cc (is))
  held_of (Some held ∷ names) zero token is = (held, refl, let same : token_of held ≡ token = cc is in same)
  held_of (other ∷ names) (suc name) token is = held_of names name token is

  may_draw : (held : Holding B) → is_some (undrawn_fence (Some (token_of held))) ≡ true → MayDraw held
  may_draw (holding.Lends lease) undrawn = tt
  may_draw (holding.Owes owing size) undrawn = tt
  may_draw (holding.Reads lease) undrawn = absurd (false≢true undrawn)
  may_draw (holding.Frees queue loose) undrawn = absurd (false≢true undrawn)

  module _ (scene : SceneValue) (calls : ℕ → ℕ → List (Call B)) (old new : State B) (apart : AreApart old.marks) (declared : AreDeclared scene old.marks)
      (legal : (queue : ℕ) → IsLegal (Answers (mark_among old.marks queue)) (old.view.calls queue)) (does : DoesIn calls old new) (stands : RightsStand scene calls old) where
    abbrev number : ℕ
    number = does.was.script.number

    abbrev before : Run
    before = run_in (trace_among old.actors) old

    abbrev after : Run
    after = run_in (trace_among new.actors) old

    abbrev holdings : Holdings
    holdings = (past_of does.was).holdings

    abbrev last : DoneAt
    last = at_end does.was.trace does.done

    abbrev now : StepBy
    now = record { actor = does.was.script.number; at = at_end does.was.trace does.done }

    there_was : Contains old.actors does.was
    there_was = got_has old.actors does.place does.was does.here

    there_is : Contains new.actors does.is
    there_is = subst (λ (ofs : List (ActorOf B)). Contains ofs does.is) (sym does.actors) (got_has (slice_set old.actors does.place does.is) does.place does.is (got_set old.actors does.place does.was does.is does.here))

    here : trace_among old.actors number ≡ does.was.trace
    here = trace_here old.actors does.was stands.apart there_was

    grows_is : trace_among new.actors number ≡ does.was.trace ++ does.done ∷ []
    grows_is =
        ap (λ (ofs : List (ActorOf B)). trace_among ofs number) does.actors ∙ ap (trace_among (slice_set old.actors does.place does.is)) (sym does.number)
        ∙ trace_now old.actors does.place does.was does.is does.here does.number stands.apart ∙ does.trace

    grows : trace_among new.actors number ≡ trace_among old.actors number ++ does.done ∷ []
    grows = grows_is ∙ ap (λ (t : List Done). t ++ does.done ∷ []) (sym here)

    others : (other : ℕ) → (other ≡ number → ⊥) → trace_among new.actors other ≡ trace_among old.actors other
    others other differ = ap (λ (ofs : List (ActorOf B)). trace_among ofs other) does.actors ∙ trace_other old.actors does.place other does.was does.is does.here does.number differ

    apart_new : IsStrictlyIncreasing (map number_of new.actors)
    apart_new = subst IsStrictlyIncreasing (sym (ap (map number_of) does.actors ∙ numbers_stay old.actors does.place does.was does.is does.here does.number)) stands.apart

    long : length does.is.trace ≡ length does.was.trace + 1
    long = ap (λ (t : List Done). length t) does.trace ∙ length-append does.was.trace (does.done ∷ [])

    goes : GoesOn before after
    goes = trace_goes_on (trace_among old.actors) (trace_among new.actors) (λ queue. told (mark_among old.marks queue) (old.view.calls queue)) number does.done others grows
        (λ queue entry there own attached.
        let done = stands.of_steps does.was there_was queue entry there own (told_first (is_attached entry.reply) (is_queued entry.reply) attached) in
        (done.low, subst (λ (t : List Done). entry.step ≤ length t) (sym here) done.high))

    -- what the step entered is placed
    entered_now : (token : Token) → Contains (entered_by last) token → EntersPlaced scene calls before (places_of old) now token
    entered_now token entered =
        let enters = entered_is holdings does.done.step does.done.answered token entered in
        let name : get_or (map (option_map token_of) does.was.parts.names) enters.name None ≡ Some token = ap (λ (h : Holdings). name_in h enters.name) does.has ∙ enters.held in
        let held = held_of does.was.parts.names enters.name token name in
        let may = may_draw held.0 (subst (λ (t : Token). is_some (undrawn_fence (Some t)) ≡ true) (sym held.2) enters.undrawn) in
        let is_held : IsHeld old.actors held.0 = record { of = does.was; there = there_was; named = get_there does.was.parts.names enters.name held.0 held.1 } in
        subst (EntersPlaced scene calls before (places_of old) now) held.2 (record {
          place = get_or (past_of does.was).since enters.name 0;
          at = ap (option_map (λ n. get_or (past_of does.was).since n 0)) enters.named;
          turn = turn_held held.0;
          given = does.given enters.name held.0 held.1;
          placed = held_placed scene (trace_among old.actors) old stands.ledger apart legal stands.makers held.0 is_held may now
              (λ queue entry there queued own. let high = (stands.of_steps does.was there_was queue entry there own (told_second (is_attached entry.reply) (is_queued entry.reply) queued)).high in omega (arith, high));
        })

    live_made : (right : RightAt) → Contains (places_of old).live right → Contains (places_of old).made right.turn.0
    live_made right held = stands.ledger.live_made right.turn (live_turn old right held)

    grown : (s : StepBy) (token : Token) → EntersPlaced scene calls before (places_of old) s token → EntersPlaced scene calls after (places_of old) s token
    grown s token was = record {
      place = was.place;
      at = was.at;
      turn = was.turn;
      given = was.given;
      placed = placed_stays scene before after (places_of old) (places_of old) stands.makers.stays stands.makers.are live_made goes (omega arith) was.turn s token was.placed refl (λ queue. omega arith)
          (λ right held. inl (right, held, refl, refl)) (λ write queued. inl queued) (λ write queued. queued) (λ write queued entry among replied. among);
    }

    was_or_now : (s : StepBy) → Contains (steps_in scene before) s ⊎ (record { actor = number; at = at_end (trace_among old.actors number) does.done } ≡ s) → (token : Token) → Contains (entered_by s.at) token
        → EntersPlaced scene calls before (places_of old) s token
    was_or_now s (inl was) token entered = stands.placed s was token entered
    was_or_now s (inr is) token entered =
        let same : now ≡ s = ap (λ (t : List Done). record { actor = number; at = at_end t does.done }) (sym here) ∙ is in
        subst (λ (t : StepBy). EntersPlaced scene calls before (places_of old) t token) same (entered_now token (subst (λ (t : StepBy). Contains (entered_by t.at) token) (sym same) entered))

    traced_now : ArePlaced scene calls after (places_of old)
    traced_now s there token entered =
        grown s token (was_or_now s (step_from scene before.calls (trace_among old.actors) (trace_among new.actors) number does.done others grows s there) token entered)

    makers_now : MakersStand after (calls_in scene after) old
    makers_now = record { stays = stands.makers.stays; are = run_keeps before after (calls_in scene before) (calls_in scene after) stands.makers.stays (places_of old) goes (omega arith) stands.makers.are }

    -- calls of before are of steps that were done before
    of_steps_now : AreOfSteps new.actors old.marks old.view.calls
    of_steps_now of among queue entry there caller tells = elim (in_set old.actors does.place does.is of (subst (λ (ofs : List (ActorOf B)). Contains ofs of) does.actors among)) [
      | inl it ↦
          let done = stands.of_steps does.was there_was queue entry there (caller ∙ ap number_of it ∙ does.number) tells in
          let high = done.high in
          let same = ap (λ (o : ActorOf B). length o.trace) it in
          record { low = done.low; high = omega (arith, high, long, same) }
      | inr was ↦ stands.of_steps of was queue entry there caller tells
    ]

    -- the actor of the number is the one that did it
    own_long : (of : ActorOf B) → Contains new.actors of → number ≡ of.script.number → length of.trace ≡ length does.was.trace + 1
    own_long of among same =
        let traces : of.trace ≡ does.is.trace = sym (trace_here new.actors of apart_new among) ∙ ap (trace_among new.actors) (sym same ∙ sym does.number) ∙ trace_here new.actors does.is apart_new there_is in
        ap (λ (t : List Done). length t) traces ∙ long

    -- what the step attached was last where the name that it used tells
    attached_is : (stay : BufferOf) → option_map_or (attached_at stay) (slice_get (steps_of (trace_among new.actors number)) (length does.was.trace + 1 - 1)) stay ≡ loose_at holdings does.done.step stay
    attached_is stay =
        ap (λ (t : List Done). option_map_or (attached_at stay) (slice_get (steps_of t) (length does.was.trace + 1 - 1)) stay) grows_is
        ∙ ap (λ (o : Option DoneAt). option_map_or (attached_at stay) o stay) (got_end does.was.trace does.done)

    late : (s : StepBy) → Contains (steps_in scene after) s → number ≡ s.actor → s.at.place ≤ length does.was.trace + 1
    late s there own =
        let within = steps_within scene before.calls (trace_among old.actors) (trace_among new.actors) number does.done others grows s there own in
        let same = ap (λ (t : List Done). length t) here in
        omega (arith, within, same)

    by_places : PlacesGo holdings does.done.step number (length does.was.trace + 1) old new → RightsStand scene calls new
    by_places (inl goes_by) = record {
      apart = apart_new;
      of_steps = call_of_steps new.actors old new number goes_by.queue (length does.was.trace + 1) goes_by.asked goes_by.reply goes_by.made.call.marks goes_by.made.call.once
          (λ tells of among own. let same = own_long of among own in (omega arith, omega (arith, same))) of_steps_now;
      ledger = does.keeps stands.ledger;
      makers = call_stands (trace_among new.actors) old new number goes_by.queue (length does.was.trace + 1) goes_by.asked goes_by.reply goes_by.from goes_by.made scene declared stands.ledger
          (λ stay attaches. attached_is stay ∙ goes_by.attached stay attaches) makers_now;
      placed = late_placed calls (trace_among new.actors) old new number goes_by.queue (length does.was.trace + 1) goes_by.asked goes_by.reply goes_by.from goes_by.made scene declared stands.ledger
          (λ stay attaches. attached_is stay ∙ goes_by.attached stay attaches) makers_now late traced_now;
    }
    by_places (inr returns) = record {
      apart = apart_new;
      of_steps = returns_of_steps new.actors number (length does.was.trace + 1) old new returns of_steps_now;
      ledger = does.keeps stands.ledger;
      makers = returns_stand (trace_among new.actors) scene number (length does.was.trace + 1) old new declared returns makers_now;
      placed = returns_placed calls (trace_among new.actors) scene number (length does.was.trace + 1) old new declared returns stands.ledger makers_now traced_now;
    }

    pub step_keeps : RightsStand scene calls new
    step_keeps = by_places (does.goes stands.ledger)

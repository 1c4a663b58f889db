-- What draws entered is in turn after an actor's step, and after a vsync.
use Rattle.std.proofs.Common.{◌≡◌, ℕ, zero, suc, ◌+◌, ◌≤◌, ◌⊎◌, ◌==◌, ◌&&◌, true, false, List, [], ◌∷◌, ◌++◌, map, length, get_or, Option, Some, None, arith, refl, ap, sym, ◌∙◌, subst, inl, inr}
use Rattle.std.specs.Prelude.{All, Contains, is_some, option_to_list, slice_set}
use Rattle.std.specs.Option.{option_map}
use Rattle.std.proofs.lemmas.Bool.{cases_Bool, cases_eq, eqb-true, false≢true}
use Rattle.std.proofs.lemmas.List.{length-append}
use Rattle.std.proofs.lemmas.List.Elements.{Contains-append_cases, Contains-append_left}
use Rattle.atomic_table.specs.Seated.{TableId}
use Rattle.sf_base.specs.Fences.{Fence}
use Rattle.sf_actor_set.specs.sf_calls.Histories.{entry}
use Rattle.sf_actor_set.specs.sf_commit.Handlers.{HandlerOf}
use Rattle.sf_actor_set.specs.sf_picture.declared.picture.Picture.{Picture}
use Rattle.sf_actor_set.specs.sf_script_scene.Limits.{IsWithinLimits}
use Rattle.sf_actor_set.specs.sf_script_scene.Scene.{SceneValue}
use Rattle.sf_actor_set.specs.sf_script_scene.declared.step.ActorScript.{ActorScript}
use Rattle.sf_actor_set.specs.sf_script_scene.declared.step.Step.{Step}
use Rattle.sf_actor_set.specs.sf_script_scene.declared.step.Step.TheVariants as step
use Rattle.sf_slots.specs.declared.calls.Entry.{Entry}
use Rattle.sf_slots.specs.declared.calls.WriteToken.{WriteToken}
use Rattle.sf_base.specs.declared.ids.QueueId.{QueueId}
use Rattle.sf_actor_set.specs.sf_surface.declared.work.Work.{Work}
use Rattle.sf_actor_set.specs.sf_surface.declared.work.Work.TheVariants as work
use Rattle.sf_actor_set.specs.sf_surface.Calls.{write_token}
use Rattle.sf_actor_set.specs.sf_surface.Drawing.{MayEnter}
use Rattle.sf_actor_set.specs.sf_surface.Tokens.{Issued, ReadLeaseOf, turn_of}
use Rattle.sf_actor_set.specs.sf_turns.Counts.{IsExact}
use Rattle.sf_actor_set.specs.sf_turns.Views.{SeatView}
use Rattle.sf_actor_set.specs.sf_txn.declared.lease.Lease.{Ghosts}
use Rattle.sf_actor_set.specs.sf_actor.declared.done.Answered.{Answered}
use Rattle.sf_actor_set.specs.sf_actor.declared.done.Answered.TheVariants as answered
use Rattle.sf_actor_set.specs.sf_actor.declared.done.Done.{Done}
use Rattle.sf_actor_set.specs.sf_actor.declared.holding.Holding.{Holding}
use Rattle.sf_actor_set.specs.sf_actor.declared.holding.Holding.TheVariants as holding
use Rattle.sf_actor_set.specs.sf_actor.declared.tried.Reply.{Reply}
use Rattle.sf_actor_set.specs.sf_actor.declared.tried.Stepped.{Stepped}
use Rattle.sf_actor_set.specs.sf_actor.declared.tried.Stepped.TheVariants as stepped
use Rattle.sf_actor_set.specs.sf_actor.Desks.{DeskHome, DeskView}
use Rattle.sf_actor_set.specs.sf_actor.Draws.{entered_name}
use Rattle.sf_actor_set.specs.sf_actor.Makers.{Run}
use Rattle.sf_actor_set.specs.sf_actor.Names.{Holdings, Lent, Token, name_in}
use Rattle.sf_actor_set.specs.sf_actor.Holdings.{drawn_picture, token_of, turn_held}
use Rattle.sf_actor_set.specs.sf_actor.Plain.{PlainOf, home_of, view_of}
use Rattle.sf_actor_set.specs.sf_actor.Points.{undrawn_fence}
use Rattle.sf_actor_set.specs.sf_actor.Rights.{turn_by}
use Rattle.sf_actor_set.specs.sf_actor.Scripts.{picture_at}
use Rattle.sf_actor_set.specs.sf_actor.Traces.{DoneAt, no_past, past_after, places_of as steps_of}
use Rattle.sf_actor_set.specs.sf_actor.Tries.{ActorOf, DoesStep, DrawsHeld, DrawsIn, Tries}
use Rattle.sf_actor_set.specs.sf_actor_steps.declared.actor.Actor.{Actor}
use Rattle.sf_actor_set.specs.sf_actor_steps.Bindings.{holdings_of}
use Rattle.sf_actor_set.specs.sf_actor_steps.Playable.{MayPlay}
use Rattle.sf_actor_set.specs.ActorSets.{KeepAs, StepsAt, scripts_of}
use Rattle.law_played.specs.Actors.{AreActors, trace_among}
use Rattle.law_played.specs.Runs.{StepBy, rising_actors, steps_by, steps_in}
use Rattle.law_played.specs.Turns.{calls_in, entered_by, token_in}
use Rattle.law_played.proofs.Members.{has_joined, has_map, map_has}
use Rattle.law_played.proofs.RunTraces.{trace_here}
use Rattle.law_rights.specs.Actors.{AreOver}
use Rattle.law_rights.specs.InTurn.{AreInTurn, DrawsStand, IsInTurn}
use Rattle.law_rights.specs.MakerRuns.{AreDeclared, MakersPlay, run_in}
use Rattle.law_rights.specs.Makers.{GoesOn, MakersStand, RightAt, places_of}
use Rattle.law_rights.specs.Owed.{MayDraw}
use Rattle.law_rights.specs.PlaceTries.{PlacesGo, TellsPlaces}
use Rattle.law_rights.specs.Standing.{LedgerStands, VsyncIn, home_taken, state_of}
use Rattle.law_rights.specs.States.{State}
use Rattle.law_rights.proofs.TurnCounts.{none_in, the_only}
use Rattle.law_rights.proofs.FirstLemmas.{both_met, the_some}
use Rattle.law_rights.proofs.InTurnCalls.{late_in_turn, live_turn, returns_in_turn}
use Rattle.law_rights.proofs.InTurnDraws.{enters_in_turn}
use Rattle.law_rights.proofs.InTurnKeeping.{turn_stays}
use Rattle.law_rights.proofs.MakersPlayed.{attached_is, by_it, called_once, grown, grows, kept, on, same_number, same_ofs}
use Rattle.law_rights.proofs.MakersTracing.{places_within, trace_other}
use Rattle.law_rights.proofs.QueueCounts.{in_some}
use Rattle.law_rights.proofs.OlderLemmas.{get_there}
use Rattle.law_rights.proofs.StepLedger.{got_has, is_kept, next_done, step_goes}
use Rattle.law_rights.proofs.VsyncLedger.{vsync_returns}
use Rattle.law_rights.proofs.StepMoves.{at_end, places_with}

-- a step that enters what a name holds
record EntersName (holdings : Holdings) (s : Step) (answer : Answered) (token : Token) : Type 0 where
  name : ℕ
  picture : ℕ
  is : s ≡ step.Draw name picture
  answers : answer ≡ answered.Own 0
  held : name_in holdings name ≡ Some token
  undrawn : is_some (undrawn_fence (Some token)) ≡ true

entered_is : (holdings : Holdings) (s : Step) (answer : Answered) (token : Token) → Contains (option_to_list (token_in holdings (entered_name holdings s answer))) token → EntersName holdings s answer token
entered_is holdings (step.Draw name picture) (answered.Own status) token there = by_test (cases_Bool ((status == 0) && is_some (undrawn_fence (name_in holdings name))))
  where
    by_test : (((status == 0) && is_some (undrawn_fence (name_in holdings name))) ≡ true) ⊎ (((status == 0) && is_some (undrawn_fence (name_in holdings name))) ≡ false)
        → EntersName holdings (step.Draw name picture) (answered.Own status) token
    by_test (inl met) =
        let parts = both_met (status == 0) (is_some (undrawn_fence (name_in holdings name))) met in
        let held : name_in holdings name ≡ Some token = the_some (name_in holdings name) token (rw met at there) in
        record {
          name = name;
          picture = picture;
          is = refl;
          answers = ap (λ (n : ℕ). answered.Own n) (eqb-true status 0 parts.0);
          held = held;
          undrawn = subst (λ (o : Option Token). is_some (undrawn_fence o) ≡ true) held parts.1;
        }
    by_test (inr unmet) = absurd (none_in token (rw unmet at there))
entered_is holdings s answer token there = absurd (none_in token there)

-- a lease that was not drawn in
lent_undrawn : (queue : QueueId) (token : WriteToken) (drawn : Option ℕ) → is_some (undrawn_fence (Some (Lent queue token drawn))) ≡ true → drawn ≡ None
lent_undrawn queue token None met = refl
lent_undrawn queue token (Some picture) met = absurd (false≢true met)

module _ {B : Type 0} where
  -- what a name holds, by its token
  held_of : (names : List (Option (Holding B))) (name : ℕ) (token : Token) → get_or (map (option_map token_of) names) name None ≡ Some token → (held : Holding B) × (get_or names name None ≡ Some held) × (token_of held ≡ token)
  held_of [] name token is = absurd (cc (is))
  held_of (None ∷ names) zero token is = absurd (cc (is))
  held_of (Some held ∷ names) zero token is = (held, refl, let same : token_of held ≡ token = cc is in same)
  held_of (other ∷ names) (suc name) token is = held_of names name token is

  enters_work : (home : DeskHome) (old new : DeskView B) (fence : Fence) (w : Work) → drawn_picture w ≡ None → DrawsIn home old new fence w → MayEnter (turn_by (turn_of w)).0 (turn_by (turn_of w)).1 old.turns new.turns
  enters_work home old new fence (work.Fresh turn) none draws = draws.1
  enters_work home old new fence (work.Drawn inside pixels) none draws = absurd (cc (none))

  -- a look of a draw showed that its turn came
  may_enter : (home : DeskHome) (old new : DeskView B) (held : Holding B) → DrawsHeld home old new (Some held) → is_some (undrawn_fence (Some (token_of held))) ≡ true
      → MayDraw held × ((now : SeatView) × MayEnter (turn_held held).0 (turn_held held).1 old.turns now)
  may_enter home old new (holding.Lends lease) draws undrawn =
      (tt, (new.turns, enters_work home old new lease.fence lease.work (lent_undrawn lease.queue (write_token lease.queue lease) (drawn_picture lease.work) undrawn) draws))
  may_enter home old new (holding.Owes owing size) draws undrawn = (tt, (draws.1.0, draws.1.1))
  may_enter home old new (holding.Reads lease) draws undrawn = absurd draws
  may_enter home old new (holding.Frees queue loose) draws undrawn = absurd draws

module _ (scene : SceneValue) (calls : ℕ → List Entry) (old new : ℕ → List Done) (actor : ℕ) (done : Done) (others : (other : ℕ) → (other ≡ actor → ⊥) → new other ≡ old other) (grows : new actor ≡ old actor ++ done ∷ []) where
  abbrev before : Run
  before = record { trace = old; calls = calls }

  abbrev after : Run
  after = record { trace = new; calls = calls }

  grown_at : (number : ℕ) (at : DoneAt) → Contains (steps_of (old number)) at → Contains (steps_of (new number)) at
  grown_at number at there = elim (cases_eq number actor) [
    | inl same ↦
        subst (λ (t : List Done). Contains (steps_of t) at) (sym (ap new same ∙ grows))
        (subst (λ (ps : List DoneAt). Contains ps at) (sym (places_with (old actor) done))
        (Contains-append_left (steps_of (old actor)) (at_end (old actor) done ∷ []) at (subst (λ (n : ℕ). Contains (steps_of (old n)) at) same there)))
    | inr other ↦ subst (λ (t : List Done). Contains (steps_of t) at) (sym (others number other)) there
  ]

  grown_from : (number : ℕ) (at : DoneAt) → Contains (steps_of (new number)) at → Contains (steps_of (old number)) at ⊎ ((number ≡ actor) × (at_end (old actor) done ≡ at))
  grown_from number at there = by_number (cases_eq number actor)
    where
      by_number : (number ≡ actor) ⊎ (number ≡ actor → ⊥) → Contains (steps_of (old number)) at ⊎ ((number ≡ actor) × (at_end (old actor) done ≡ at))
      by_number (inl same) =
          elim (Contains-append_cases (steps_of (old actor)) (at_end (old actor) done ∷ []) at
          (subst (λ (ps : List DoneAt). Contains ps at) (places_with (old actor) done) (subst (λ (t : List Done). Contains (steps_of t) at) (ap new same ∙ grows) there))) [
            | inl was ↦ inl (subst (λ (n : ℕ). Contains (steps_of (old n)) at) (sym same) was)
            | inr now ↦ inr (same, the_only (at_end (old actor) done) at now)
          ]
      by_number (inr other) = inl (subst (λ (t : List Done). Contains (steps_of t) at) (others number other) there)

  abbrev by_script : ActorScript → DoneAt → StepBy
  by_script script at = record { actor = script.number; at = at }

  pub steps_grow : (s : StepBy) → Contains (steps_in scene before) s → Contains (steps_in scene after) s
  steps_grow s there =
      let found = in_some (steps_by before) (rising_actors scene) s there in
      let at = map_has (by_script found.0) (steps_of (old found.0.number)) s found.2 in
      has_joined (steps_by after) (rising_actors scene) found.0 s found.1
      (subst (λ (t : StepBy). Contains (steps_by after found.0) t) at.2 (has_map (by_script found.0) (steps_of (new found.0.number)) at.0 (grown_at found.0.number at.0 at.1)))

  -- a step of the run is one of before, or the last one of the actor
  pub step_from : (s : StepBy) → Contains (steps_in scene after) s → Contains (steps_in scene before) s ⊎ (record { actor = actor; at = at_end (old actor) done } ≡ s)
  step_from s there = by_place (grown_from found.0.number at.0 at.1)
    where
      found : (script : ActorScript) × Contains (rising_actors scene) script × Contains (steps_by after script) s
      found = in_some (steps_by after) (rising_actors scene) s there

      at : (at : DoneAt) × Contains (steps_of (new found.0.number)) at × (by_script found.0 at ≡ s)
      at = map_has (by_script found.0) (steps_of (new found.0.number)) s found.2

      by_place : Contains (steps_of (old found.0.number)) at.0 ⊎ ((found.0.number ≡ actor) × (at_end (old actor) done ≡ at.0)) → Contains (steps_in scene before) s ⊎ (record { actor = actor; at = at_end (old actor) done } ≡ s)
      by_place (inl was) =
          inl (has_joined (steps_by before) (rising_actors scene) found.0 s found.1
          (subst (λ (t : StepBy). Contains (steps_by before found.0) t) at.2 (has_map (by_script found.0) (steps_of (old found.0.number)) at.0 was)))
      by_place (inr now) = inr ((λ i. record { actor = sym now.0 i; at = now.1 i }) ∙ at.2)

  -- the steps of the actor are no later than the last
  pub steps_within : (s : StepBy) → Contains (steps_in scene after) s → actor ≡ s.actor → s.at.place ≤ length (old actor) + 1
  steps_within s there own =
      let found = in_some (steps_by after) (rising_actors scene) s there in
      let at = map_has (by_script found.0) (steps_of (new found.0.number)) s found.2 in
      let number : found.0.number ≡ actor = ap (λ (t : StepBy). t.actor) at.2 ∙ sym own in
      let trace : new found.0.number ≡ old actor ++ done ∷ [] = ap new number ∙ grows in
      let within = places_within 1 no_past (new found.0.number) at.0 at.1 in
      let long = ap (λ (t : List Done). length t) trace ∙ length-append (old actor) (done ∷ []) in
      let place = ap (λ (t : StepBy). t.at.place) at.2 in
      omega (arith, within, long, place)

module _ {B : Type 0} (scene : SceneValue) (table : TableId) (buffers place : ℕ) (pictures : List Picture) (ofs : List (ActorOf B)) (actors nows : List (Actor B)) (before after : PlainOf B) (st : Stepped) (handler : HandlerOf ReadLeaseOf)
    (steps : StepsAt table (picture_at pictures) place actors ofs before nows after st) (keep : KeepAs table (picture_at pictures) (home_of before) (view_of before) actors ofs)
    (plays : All (MayPlay (home_of before) pictures) (scripts_of actors)) (same_home : home_of after ≡ home_of before)
    (over : AreOver (picture_at pictures) (home_of before) (view_of before) ofs) (stands : LedgerStands buffers (home_of before) (view_of before) ofs handler)
    (declared : AreDeclared scene (home_of before).marks) (limits : IsWithinLimits scene) (actor_set : AreActors scene ofs (home_of before) (view_of before))
    (exact : IsExact buffers (view_of before).turns.leaves (view_of before).turns.seen) (is_first : (view_of before).turns.is_first ≡ true) (alone : (view_of before).turns.out ≡ 0)
    (makers : MakersPlay scene (home_of before) (view_of before) ofs handler) (draws : DrawsStand scene (home_of before) (view_of before) ofs handler) where
  abbrev next_ofs : List (ActorOf B)
  next_ofs = slice_set ofs place steps.new

  abbrev old : State B
  old = state_of (home_of before) (view_of before) ofs handler

  abbrev new : State B
  new = state_of (home_of before) (view_of after) (slice_set ofs place steps.new) handler

  abbrev by : ℕ
  by = steps.was_here.bindings.by.0

  abbrev number : ℕ
  number = length steps.old.trace + 1

  there_is : Contains ofs steps.old
  there_is = got_has ofs place steps.old steps.here

  was_trace : trace_among ofs steps.old.script.number ≡ steps.old.trace
  was_trace = trace_here ofs steps.old actor_set.apart there_is

  live_known : (right : RightAt) → Contains (places_of old).live right → Contains (places_of old).made right.turn.0
  live_known right held = stands.ledger.live_made right.turn (live_turn old right held)

  by_number : by ≡ steps.old.script.number
  by_number = by_it scene table buffers place pictures ofs actors nows before after st handler steps keep plays same_home over stands declared actor_set.apart

  module _ (reply : Reply) (does : DoesStep (picture_at pictures) (home_of before) steps.old (view_of before) steps.new (view_of after) reply) where
    same : steps.new.script.number ≡ steps.old.script.number
    same = same_number scene table buffers place pictures ofs actors nows before after st handler steps keep plays same_home over stands declared actor_set.apart reply does

    others : (other : ℕ) → (other ≡ steps.old.script.number → ⊥) → trace_among next_ofs other ≡ trace_among ofs other
    others other apart = trace_other ofs place other steps.old steps.new steps.here same apart

    trace_grows : trace_among next_ofs steps.old.script.number ≡ trace_among ofs steps.old.script.number ++ does.done ∷ []
    trace_grows = grows scene table buffers place pictures ofs actors nows before after st handler steps keep plays same_home over stands declared actor_set.apart reply does

    goes : GoesOn (run_in (trace_among ofs) old) (run_in (trace_among next_ofs) old)
    goes = on scene table buffers place pictures ofs actors nows before after st handler steps keep plays same_home over stands declared actor_set.apart reply does

    abbrev last : DoneAt
    last = at_end steps.old.trace does.done

    abbrev now : StepBy
    now = record { actor = steps.old.script.number; at = at_end steps.old.trace does.done }

    -- what the step entered is in turn
    entered_now : (token : Token) → Contains (entered_by (at_end steps.old.trace does.done)) token → IsInTurn scene (run_in (trace_among ofs) old) (places_of old) now token
    entered_now token entered =
        let enters = entered_is (past_after steps.old.trace).holdings does.done.step does.done.answered token entered in
        let has = (kept scene table buffers place pictures ofs actors nows before after st handler steps keep plays same_home over stands declared actor_set.apart).keeps.kept.has in
        let name : get_or (map (option_map token_of) steps.old.parts.names) enters.name None ≡ Some token = ap (λ (h : Holdings). name_in h enters.name) has ∙ enters.held in
        let held = held_of steps.old.parts.names enters.name token name in
        let draws : DrawsHeld (home_of before) (view_of before) (view_of after) (Some held.0) =
        subst (DrawsHeld (home_of before) (view_of before) (view_of after)) held.1 (does.entered enters.name enters.picture enters.is enters.answers) in
        let may = may_enter (home_of before) (view_of before) (view_of after) held.0 draws (subst (λ (t : Token). is_some (undrawn_fence (Some t)) ≡ true) (sym held.2) enters.undrawn) in
        subst (IsInTurn scene (run_in (trace_among ofs) old) (places_of old) now) held.2
        (enters_in_turn scene ofs (home_of before) (view_of before) limits actor_set (picture_at pictures) buffers handler stands over exact makers steps.old there_is held.0
        (get_there steps.old.parts.names enters.name held.0 held.1) may.0 last (omega arith) is_first alone may.1.0 may.1.1)

    was_or_now : (s : StepBy) → Contains (steps_in scene (run_in (trace_among ofs) old)) s ⊎ (record { actor = steps.old.script.number; at = at_end (trace_among ofs steps.old.script.number) does.done } ≡ s)
        → (token : Token) → Contains (entered_by s.at) token → IsInTurn scene (run_in (trace_among ofs) old) (places_of old) s token
    was_or_now s (inl was) token entered = draws s was token entered
    was_or_now s (inr is) token entered =
        let same_step : now ≡ s = ap (λ (t : List Done). record { actor = steps.old.script.number; at = at_end t does.done }) (sym was_trace) ∙ is in
        subst (λ (t : StepBy). IsInTurn scene (run_in (trace_among ofs) old) (places_of old) t token) same_step
        (entered_now token (subst (λ (t : StepBy). Contains (entered_by t.at) token) (sym same_step) entered))

    traced_now : AreInTurn scene (run_in (trace_among next_ofs) old) (places_of old)
    traced_now s there token entered =
        turn_stays scene (run_in (trace_among ofs) old) (run_in (trace_among next_ofs) old) (places_of old) (places_of old) makers.stays makers.are live_known goes (omega arith) s token
        (was_or_now s (step_from scene (run_in (trace_among ofs) old).calls (trace_among ofs) (trace_among next_ofs) steps.old.script.number does.done others trace_grows s there) token entered)
        refl (λ queue. omega arith)
        (steps_grow scene (run_in (trace_among ofs) old).calls (trace_among ofs) (trace_among next_ofs) steps.old.script.number does.done others trace_grows)
        (λ right held. inl (right, held, refl, refl)) (λ write queued. inl queued)

    makers_now : MakersStand (run_in (trace_among next_ofs) old) (calls_in scene (run_in (trace_among next_ofs) old)) old
    makers_now = grown scene table buffers place pictures ofs actors nows before after st handler steps keep plays same_home over stands declared actor_set.apart reply does makers

    did_in_turn : PlacesGo (holdings_of steps.was_here.bindings) does.done.step by number old new → AreInTurn scene (run_in (trace_among next_ofs) new) (places_of new)
    did_in_turn (inl calls) =
        late_in_turn (trace_among next_ofs) old new by calls.queue number calls.asked calls.reply calls.from calls.made scene declared stands.ledger
        (λ stay attaches.
        attached_is scene table buffers place pictures ofs actors nows before after st handler steps keep plays same_home over stands declared actor_set.apart reply does stay ∙ calls.attached stay attaches)
        makers_now
        (λ s there own.
        let within = steps_within scene (run_in (trace_among ofs) old).calls (trace_among ofs) (trace_among next_ofs) steps.old.script.number does.done others trace_grows s there (sym by_number ∙ own) in
        let long = ap (λ (t : List Done). length t) was_trace in
        omega (arith, within, long))
        traced_now
    did_in_turn (inr returns) = returns_in_turn (trace_among next_ofs) scene by number old new declared returns stands.ledger makers_now traced_now

  -- a step that is not done
  module _ (same : steps.new ≡ steps.old) where
    stay_ofs : ofs ≡ next_ofs
    stay_ofs = same_ofs scene table buffers place pictures ofs actors nows before after st handler steps keep plays same_home over stands declared actor_set.apart same

    left_in_turn : (next : Step) → ((queue : ℕ) → (view_of after).calls queue ≡ (view_of before).calls queue) → PlacesGo (holdings_of steps.was_here.bindings) next by number old new → AreInTurn scene (run_in (trace_among next_ofs) new) (places_of new)
    left_in_turn next none (inl calls) =
        absurd (called_once (entry by (number, calls.asked) calls.reply) ((view_of before).calls calls.queue) (sym calls.made.call.once.newest ∙ none calls.queue))
    left_in_turn next none (inr returns) =
        returns_in_turn (trace_among next_ofs) scene by number old new declared returns stands.ledger
        (subst (λ (xs : List (ActorOf B)). MakersStand (run_in (trace_among xs) old) (calls_in scene (run_in (trace_among xs) old)) old) stay_ofs makers)
        (subst (λ (xs : List (ActorOf B)). AreInTurn scene (run_in (trace_among xs) old) (places_of old)) stay_ofs draws)

    ended_in_turn : view_of after ≡ view_of before → AreInTurn scene (run_in (trace_among next_ofs) new) (places_of new)
    ended_in_turn view =
        subst (λ (xs : List (ActorOf B)). DrawsStand scene (home_of before) (view_of after) xs handler) stay_ofs
        (subst (λ (v : DeskView B). DrawsStand scene (home_of before) v ofs handler) (sym view) draws)

  by_stepped : (s : Stepped) → Tries (picture_at pictures) (home_of before) steps.old (view_of before) steps.new (view_of after) s → AreInTurn scene (run_in (trace_among next_ofs) new) (places_of new)
  by_stepped stepped.Done tries =
      let next_is = next_done (picture_at pictures) (home_of before) steps.old steps.new (view_of before) (view_of after) tries.0
      (is_kept table buffers place pictures ofs actors nows before after st handler steps keep plays same_home over stands).keeps tries.1 in
      did_in_turn tries.0 tries.1 (step_goes table buffers place pictures ofs actors nows before after st handler steps keep plays same_home over stands tries.1.done.step next_is)
  by_stepped stepped.NotYet tries =
      left_in_turn tries.same tries.next (tries.calls stands.exact) (step_goes table buffers place pictures ofs actors nows before after st handler steps keep plays same_home over stands tries.next tries.step)
  by_stepped stepped.Ended tries = ended_in_turn tries.0 tries.1

  pub step_in_turn : DrawsStand scene (home_of after) (view_of after) (slice_set ofs place steps.new) handler
  step_in_turn = subst (λ (h : DeskHome). DrawsStand scene h (view_of after) next_ofs handler) (sym same_home) (by_stepped st steps.tries)

module _ {B : Type 0} (scene : SceneValue) (home : DeskHome) (ofs : List (ActorOf B)) (old : DeskView B) (handler : HandlerOf ReadLeaseOf) where
  pub vsync_in_turn : (lease : Ghosts ReadLeaseOf SeatView ReadLeaseOf Issued) (buffers : ℕ) (new : DeskView B) (after : HandlerOf ReadLeaseOf) → VsyncIn lease home old handler new after → LedgerStands buffers home old ofs handler
      → TellsPlaces lease → AreDeclared scene home.marks → MakersPlay scene home old ofs handler → DrawsStand scene home old ofs handler → DrawsStand scene (home_taken home old) new ofs after
  vsync_in_turn lease buffers new after vsync stands tells declared makers draws =
      returns_in_turn (trace_among ofs) scene 0 vsync.number (state_of home old ofs handler) (state_of (home_taken home old) new ofs after) declared
      (vsync_returns lease buffers home ofs old new handler after vsync stands tells) stands.ledger makers draws

-- What stands of the rights of a run, makers and draws with the ledger, stands wherever events of callers are lifted.
use Rattle.std.proofs.Common.{◌≡◌, ℕ, ◌+◌, ◌==◌, ◌⊎◌, true, false, List, [], ◌∷◌, ◌++◌, arith, ap, ◌∙◌, sym, refl, inl, inr, subst, suc, map, length, get_or, Some}
use Rattle.std.specs.Prelude.{Contains, if◌then◌else◌, nat_le, slice_get, slice_set}
use Rattle.std.specs.List.{flat_map, sum_by}
use Rattle.std.proofs.lemmas.Bool.{cases_Bool}
use Rattle.std.proofs.lemmas.List.Elements.{Contains-append_left}
use Rattle.std.proofs.lemmas.List.Sums.{sum_by-append}
use Rattle.law_draws.specs.sf_calls.Histories.{IsLegal}
use Rattle.sf_script_scene.specs.sf_picture.declared.picture.Picture.{Picture}
use Rattle.sf_script_scene.specs.Scene.{SceneValue}
use Rattle.sf_script_scene.specs.declared.step.ActorScript.{ActorScript}
use Rattle.sf_script_scene.specs.declared.step.Step.{Step}
use Rattle.law_draws.specs.sf_surface.declared.mark.QueueMark.{QueueMark}
use Rattle.law_draws.specs.sf_surface.Histories.{Answers, Made}
use Rattle.law_draws.specs.sf_surface.Tokens.{ReadLeaseOf}
use Rattle.law_draws.specs.sf_token.Pending.{Arrival}
use Rattle.law_draws.specs.sf_actor.declared.done.Done.{Done}
use Rattle.law_draws.specs.sf_actor.declared.holding.Holding.{Holding}
use Rattle.law_draws.specs.sf_actor.Desks.{DeskHome, DeskView, has_queue, mark_among}
use Rattle.law_draws.specs.sf_actor.Known.{Call, call_after, own_calls}
use Rattle.law_draws.specs.sf_actor.Names.{Holdings}
use Rattle.law_draws.specs.sf_actor.Holdings.{plain_of, turn_held}
use Rattle.law_draws.specs.sf_actor.Rights.{Turn, WasGivenAt}
use Rattle.law_draws.specs.sf_actor.Tries.{ActorOf, held_in, past_of}
use Rattle.law_draws.specs.sf_actor_steps.declared.bindings.Bindings.{Bindings}
use Rattle.law_draws.specs.sf_actor_steps.declared.tried.Tried.{Tried}
use Rattle.law_draws.specs.sf_actor_steps.Bindings.{holdings_of}
use Rattle.law_draws.specs.law_rights.MakerRuns.{AreDeclared}
use Rattle.law_draws.specs.law_rights.Makers.{places_arrived, places_held, places_of, places_out, places_owed, right_read}
use Rattle.law_draws.specs.law_rights.Moves.{AreIn, HasAtMost}
use Rattle.law_draws.specs.law_rights.PlaceTries.{PlacesGo, RestsIn}
use Rattle.law_draws.specs.law_rights.Ledgers.{IsLedger}
use Rattle.law_draws.specs.law_rights.States.{AreApart, State, ledger_of}
use Rattle.law_draws.proofs.law_rights_lemmas.PlaceChanges.{most_rests, sum_read}
use Rattle.law_draws.specs.Doing.{DoesIn}
use Rattle.law_draws.specs.Standing.{RightsStand}
use Rattle.law_draws.proofs.RightsAtRest.{return_keeps, returns_keep}
use Rattle.law_draws.proofs.StepRights.{step_keeps}
use Rattle.law_threads.specs.Cuts.{Local, Whole, front, state_at}
use Rattle.law_threads.specs.Lifts.{Comes, local_of}
use Rattle.law_threads.specs.Rights.{calls_in}
use Rattle.law_threads.specs.Tries.{DoesTry}
use Rattle.law_threads.proofs.LedgerViews.{GivesKept, GivesTo, GoesTo, IsClose, RestsKept, close_keeps}
use Rattle.law_threads.proofs.TryOutcomes.{comes}
use Rattle.law_threads.proofs.CallLift.{actor_there, actors_are}
use Rattle.law_threads.proofs.Locals.{same_at}
use Rattle.law_threads.proofs.TryWrites.{done_is}

module _ {B : Type 0} where
  -- the earliest calls are legal where all are
  pub front_legal : (mark : QueueMark) (n : ℕ) (calls : List (Made B)) → IsLegal (Answers mark) calls → IsLegal (Answers mark) (front n calls)
  front_legal mark n [] legal = tt
  front_legal mark n (made ∷ earlier) legal = by_length (cases_Bool (nat_le (length (made ∷ earlier)) n)) (front_legal mark n earlier legal.1)
    where
      by_length : (nat_le (length (made ∷ earlier)) n ≡ true) ⊎ (nat_le (length (made ∷ earlier)) n ≡ false) → IsLegal (Answers mark) (front n earlier) → IsLegal (Answers mark) (front n (made ∷ earlier))
      by_length (inl met) rest = rw met legal
      by_length (inr unmet) rest = rw unmet rest

  -- what an actor knew of its own calls is among those of the whole run
  own_on : (actor : ℕ) (mark : QueueMark) (more calls : List (Made B)) (c : Call B) → Contains (own_calls actor mark calls) c → Contains (own_calls actor mark (more ++ calls)) c
  own_on actor mark [] calls c there = there
  own_on actor mark (made ∷ more) calls c there =
      Contains-append_left (own_calls actor mark (more ++ calls)) (if made.by == actor then call_after mark (more ++ calls) made ∷ [] else []) c (own_on actor mark more calls c there)

  -- states that differ only in what no ledger reads
  close_rests : (one other : State B) → IsClose one other → IsLedger (ledger_of one) → RestsIn one other
  close_rests one other close is = record { marks = close.marks; calls = close.calls; places = most_rests one other close.marks close.calls held owed; ledger = close_keeps one other close is }
    where
      same : places_out (record one { on = other.on }) ≡ places_out other
      same = λ i. places_out (record other { actors = sym close.actors i; waiting = sym close.waiting i })

      held : HasAtMost (places_out one) [] [] (places_out other)
      held w =
          let e = ap (sum_by w) same in
          let a = sum_by-append w (flat_map (λ (actor : ActorOf B). places_held actor.parts) one.actors ++ flat_map places_arrived one.waiting) (map right_read one.on) in
          let b = sum_by-append w (flat_map (λ (actor : ActorOf B). places_held actor.parts) one.actors ++ flat_map places_arrived one.waiting) (map right_read other.on) in
          let c = sum_read right_read w one.on in
          let d = sum_read right_read w other.on in
          let f = close.on (λ (lease : ReadLeaseOf). w (right_read lease)) in
          omega (arith, e, a, b, c, d, f)

      owed : AreIn (places_of other).owed (places_of one).owed
      owed = subst (λ (items : List (ActorOf B)). AreIn (flat_map (λ (actor : ActorOf B). places_owed actor.parts) items) (places_of one).owed) (sym close.actors) (λ write there. there)

  module _ (scene : SceneValue) (calls : ℕ → ℕ → List (Call B)) where
    pub close_rights : (one other : State B) → AreDeclared scene one.marks → IsClose one other → RightsStand scene calls one → RightsStand scene calls other
    close_rights one other declared close stands =
        returns_keep scene calls 0 0 one other declared (record { mid = other; rests = close_rests one other close stands.ledger; leases = []; returns = refl }) close.actors stands

    -- a frame that goes back
    pub gives_rights : (by number : ℕ) (lease : ReadLeaseOf) (old new : State B) → AreDeclared scene old.marks → new.actors ≡ old.actors → GivesTo by number lease old new → RightsStand scene calls old → RightsStand scene calls new
    gives_rights by number lease old new declared actors goes stands =
        close_rights goes.to new (subst (AreDeclared scene) (sym to_marks) declared) goes.close_to
        (return_keeps scene calls by number goes.from goes.to (subst (AreDeclared scene) (sym goes.close_from.marks) declared) lease goes.gives
        (sym goes.close_to.actors ∙ actors ∙ sym goes.close_from.actors) (close_rights old goes.from declared goes.close_from stands))
      where
        to_marks : goes.to.marks ≡ old.marks
        to_marks = (goes.gives.made (record { queue = 0; number = 0 })).call.marks ∙ goes.close_from.marks

  -- so each frame that is given back keeps it, and where rights rest
  pub rights_given : (scene : SceneValue) (whole : Whole B) → AreDeclared scene whole.marks → GivesKept whole (RightsStand scene (calls_in whole))
  rights_given scene whole declared by number lease old new marks actors goes = gives_rights scene (calls_in whole) by number lease old new (subst (AreDeclared scene) (sym marks) declared) actors goes

  pub rights_rest : (scene : SceneValue) (whole : Whole B) → AreDeclared scene whole.marks → RestsKept whole (RightsStand scene (calls_in whole))
  rights_rest scene whole declared old new marks actors rests stands =
      returns_keep scene (calls_in whole) 0 0 old new (subst (AreDeclared scene) (sym marks) declared) (record { mid = new; rests = rests stands.ledger; leases = []; returns = refl }) actors stands

  module _ (scene : SceneValue) (whole : Whole B) (declared : AreDeclared scene whole.marks) (pictures : ℕ → Picture) (home : DeskHome) (marks : whole.marks ≡ home.marks) (apart : AreApart home.marks)
      (legal : (queue : ℕ) → IsLegal (Answers (mark_among home.marks queue)) (whole.view.calls queue)) where
    -- a done try of an actor
    module _ (was is : ActorOf B) (s : Step) (before after : Bindings B) (old new : DeskView B) (came_to : Tried) (tries : DoesTry pictures home was is s before after old new came_to)
        (known : (queue : ℕ) → (more : List (Made B)) × (whole.view.calls queue ≡ more ++ old.calls queue)) (others later : List (Local B)) (on more : List ReadLeaseOf) (leaves left : List Turn) (sent : List (Arrival ReadLeaseOf))
        (heights risen : ℕ → ℕ) where
      abbrev number : ℕ
      number = length was.trace + 1

      abbrev old_state : State B
      old_state = state_at whole heights (others ++ local_of was on leaves ∷ later)

      abbrev new_state : State B
      new_state = state_at whole risen (others ++ record (local_of is more left) { pending = sent } ∷ later)

      given_on : (name : ℕ) (held : Holding B) → held_in was.parts name ≡ Some held → WasGivenAt (calls_in whole was.script.number) (get_or (past_of was).since name 0) (Some (turn_held held))
      given_on name held there =
          let given = tries.keeps_was.kept.given name held there in (
            given.0,
            given.1,
            subst (λ (ms : List QueueMark). Contains (own_calls was.script.number (mark_among ms given.0) (whole.view.calls given.0)) given.1) (sym marks)
                (subst (λ (cs : List (Made B)). Contains (own_calls was.script.number (mark_among home.marks given.0) cs) given.1) (sym (known given.0).1)
                (own_on was.script.number (mark_among home.marks given.0) (known given.0).0 (old.calls given.0) given.1 given.2)),
            given.3,
            given.4,
          )

      module _ (goes : GoesTo s before number old_state new_state) where
        held_is : holdings_of before ≡ (past_of was).holdings
        held_is = sym (ap plain_of tries.parts_was) ∙ tries.keeps_was.kept.has

        steps_is : s ≡ tries.does.done.step
        steps_is = sym (ap (λ (d : Done). d.step) (done_is pictures home was is s before after old new came_to tries))

        script : is.script ≡ was.script
        script = ap (λ (a : ActorOf B). a.script) tries.does.same

        from_marks : goes.from.marks ≡ whole.marks
        from_marks = goes.close_from.marks

        new_actors : new_state.actors ≡ slice_set old_state.actors (length (flat_map (λ (local : Local B). local.actors) others)) is
        new_actors = same_at (λ (local : Local B). local.actors) others later (local_of is on left) (record (local_of is more left) { pending = sent }) refl ∙ actors_are others later was is on leaves left

        to_actors : goes.to.actors ≡ slice_set goes.from.actors (length (flat_map (λ (local : Local B). local.actors) others)) is
        to_actors = sym goes.close_to.actors ∙ new_actors ∙ ap (λ (ofs : List (ActorOf B)). slice_set ofs (length (flat_map (λ (local : Local B). local.actors) others)) is) (sym goes.close_from.actors)

        does : DoesIn (calls_in whole) goes.from goes.to
        does = record {
          was = was;
          is = is;
          place = length (flat_map (λ (local : Local B). local.actors) others);
          here = ap (λ (ofs : List (ActorOf B)). slice_get ofs (length (flat_map (λ (local : Local B). local.actors) others))) goes.close_from.actors ∙ actor_there others later was on leaves;
          actors = to_actors;
          number = ap (λ (a : ActorScript). a.number) script;
          done = tries.does.done;
          trace = tries.does.trace;
          has = tries.keeps_was.kept.has;
          given = given_on;
          keeps = λ ledger. (goes.went ledger).ledger;
          goes = λ ledger.
              subst (λ (h : Holdings). PlacesGo h tries.does.done.step was.script.number number goes.from goes.to) held_is
              (subst (λ (next : Step). PlacesGo (holdings_of before) next was.script.number number goes.from goes.to) steps_is
              (subst (λ (by : ℕ). PlacesGo (holdings_of before) s by number goes.from goes.to) (sym tries.by_it) (goes.went ledger).places));
        }

        from_legal : (queue : ℕ) → IsLegal (Answers (mark_among goes.from.marks queue)) (goes.from.view.calls queue)
        from_legal queue =
            subst (λ (cs : ℕ → List (Made B)). IsLegal (Answers (mark_among goes.from.marks queue)) (cs queue)) (sym goes.close_from.calls)
            (subst (λ (ms : List QueueMark). IsLegal (Answers (mark_among ms queue)) (old_state.view.calls queue)) (sym (from_marks ∙ marks))
            (front_legal (mark_among home.marks queue) (heights (suc queue)) (whole.view.calls queue) (legal queue)))

        pub goes_rights : RightsStand scene (calls_in whole) old_state → RightsStand scene (calls_in whole) new_state
        goes_rights stands =
            close_rights scene (calls_in whole) goes.to new_state (subst (AreDeclared scene) goes.close_to.marks declared) goes.close_to
            (step_keeps scene (calls_in whole) goes.from goes.to (subst AreApart (sym (from_marks ∙ marks)) apart) (subst (AreDeclared scene) (sym from_marks) declared) from_legal does
            (close_rights scene (calls_in whole) old_state goes.from declared goes.close_from stands))

    -- what a done try comes to keeps it
    pub comes_rights : (absent : (queue : ℕ) → has_queue home queue ≡ false → whole.view.calls queue ≡ []) (was is : ActorOf B) (s : Step) (before after : Bindings B) (old new : DeskView B) (came_to : Tried)
        → DoesTry pictures home was is s before after old new came_to → ((queue : ℕ) → (more : List (Made B)) × (whole.view.calls queue ≡ more ++ old.calls queue))
        → ((queue : ℕ) → (more : List (Made B)) × (whole.view.calls queue ≡ more ++ new.calls queue)) → Comes whole (RightsStand scene (calls_in whole)) before.by.0 was is old new
    comes_rights absent was is s before after old new came_to tries known begins =
        comes whole pictures home marks apart absent legal was is before after old new begins (RightsStand scene (calls_in whole))
        (λ next to does others later on more leaves left sent heights risen goes. goes_rights was is next before after old new to does known others later on more leaves left sent heights risen goes)
        (rights_given scene whole declared) s came_to tries

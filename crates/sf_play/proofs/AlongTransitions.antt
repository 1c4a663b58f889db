-- A try of a player's actor is a transition of the play of its scene.
use Rattle.std.proofs.Common.{◌≡◌, ◌≢◌, ℕ, zero, suc, ◌+◌, ◌<◌, ◌≤◌, ◌==◌, Bool, true, false, List, [], ◌∷◌, ◌++◌, length, map, set, Some, refl, sym, ap, ◌∙◌, subst, inl, inr, arith, length-append}
use Rattle.std.specs.Prelude.{Contains, find, slice_get}
use Rattle.std.specs.List.{flat_map}
use Rattle.std.proofs.lemmas.Bool.{cases_Bool, eq-eqb, eqb-true}
use Rattle.std.proofs.lemmas.List.{append-nil}
use Rattle.std.proofs.lemmas.List.Concat.{flat_map-append}
use Rattle.std.proofs.lemmas.List.Elements.{All-contains}
use Rattle.std.proofs.lemmas.List.Sorted.{Contains-permutation, IsPermutation-sym}
use Rattle.atomic_table.specs.Seated.{TableId}
use Rattle.sf_play_report.specs.sf_surface.Histories.{Made}
use Rattle.sf_play_report.specs.sf_surface.declared.mark.QueueMark.{QueueMark}
use Rattle.sf_script_scene.specs.Scene.{SceneValue, has_queue}
use Rattle.sf_script_scene.specs.declared.declarations.Pick.{Pick}
use Rattle.sf_script_scene.specs.declared.step.ActorScript.{ActorScript}
use Rattle.sf_play_report.specs.sf_actor.declared.done.Done.{Done}
use Rattle.sf_play_report.specs.sf_actor.declared.tried.Stepped.TheVariants as stepped
use Rattle.sf_play_report.specs.sf_actor.Desks.{DeskHome, DeskView}
use Rattle.sf_play_report.specs.sf_actor.Known.{plain_arrival}
use Rattle.sf_play_report.specs.sf_actor.Plain.{home_of, view_of}
use Rattle.sf_play_report.specs.sf_actor.Scripts.{picture_at}
use Rattle.sf_play_report.specs.sf_actor.Tries.{ActorOf, DoesStep, LeavesStep}
use Rattle.law_rights.specs.sf_actor_set.ActorSets.{ActorSetOf, IsSameActorSet, StepsAt}
use Rattle.sf_play_report.specs.sf_record.declared.event.Event.{Event}
use Rattle.sf_play_report.specs.sf_record.declared.event.Event.TheVariants as event
use Rattle.sf_play_report.specs.sf_record.declared.event.VsyncRecords.{VsyncRecords}
use Rattle.sf_play_report.specs.law_played.Actors.{AreCalls, arrivals_of, number_of, run_of, script_of, trace_among}
use Rattle.sf_play_report.specs.law_played.Plays.{TakesTransition}
use Rattle.sf_play_report.specs.law_played.Replies.{reply_shown}
use Rattle.sf_play_report.specs.law_played.Runs.{rising_actors}
use Rattle.sf_play_report.specs.law_played.Stepping.{KnowsRun, TellsFirst}
use Rattle.sf_play_report.specs.law_played.Stopping.{TellsOlder}
use Rattle.sf_play_report.specs.law_played.Stuck.{IsNotReady, next_step}
use Rattle.sf_play_report.specs.law_played.Vsyncs.{vsync_in, vsyncs_in}
use Rattle.sf_play_report.specs.law_played.RunStates.{Transition, RunState, actor_transition, idle, with_list}
use Rattle.sf_play_report.proofs.law_played_lemmas.RunGrowth.{not_none}
use Rattle.sf_play_report.proofs.law_played_lemmas.AsQueued.{one_passes}
use Rattle.sf_play_report.proofs.law_played_lemmas.DeskOfOneThread.{desk_called, sent_numbered}
use Rattle.sf_play_report.proofs.law_played_lemmas.StepKeepsTold.{got_has}
use Rattle.sf_play_report.proofs.law_played_lemmas.Members.{has_map}
use Rattle.sf_play_report.proofs.law_played_lemmas.NextStep.{desk_transition, script_of_number, traces}
use Rattle.sf_play_report.proofs.law_played_lemmas.RisingNumbers.{rising_actors_are}
use Rattle.sf_play_report.proofs.law_played_lemmas.SteppingLemmas.{idle_ended, idle_waits}
use Rattle.sf_play_report.proofs.law_played_lemmas.StuckActors.{left_not_ready, run_stays}
use Rattle.sf_play_report.proofs.law_played_lemmas.RunTraces.{trace_here}
use Rattle.sf_play.proofs.AlongLemmas.{plays_idle, plays_pick, plays_step}
use Rattle.sf_play.proofs.StepKeepsPlayer.{stands_done, stands_waiting}
use Rattle.sf_play.specs.Alongs.{DeskKnows, PlaysSo, PlaysTo, state_so}
use Rattle.sf_play.specs.Players.{PlayOf, SoFar, Stands}
use Rattle.sf_play.specs.declared.place.Place.TheVariants as at

-- where one trace has one step more, none is shorter
longer : (traces : ℕ → List Done) (number : ℕ) (done : Done) (actor : ℕ) → length (traces actor) ≤ length (with_list traces number (traces number ++ done ∷ []) actor)
longer traces number done actor = elim (cases_Bool (actor == number)) [
  | inl met ↦
      let many = length-append (traces number) (done ∷ []) in
      let same = ap (λ (n : ℕ). length (traces n)) (eqb-true actor number met) in
      rw met (omega (arith, many, same))
  | inr unmet ↦ rw unmet (omega arith)
]

longer_own : (traces : ℕ → List Done) (number : ℕ) (done : Done) → length (traces number) < length (with_list traces number (traces number ++ done ∷ []) number)
longer_own traces number done = (let many = length-append (traces number) (done ∷ []) in rw (eq-eqb number number refl) (omega (arith, many)))

got_map : {X Y : Type 0} (f : X → Y) (xs : List X) (n : ℕ) (x : X) → slice_get xs n ≡ Some x → slice_get (map f xs) n ≡ Some (f x)
got_map f [] n x e = absurd (cc (e))
got_map f (y ∷ xs) zero x e = (let same : y ≡ x = cc in ap (λ z. Some (f z)) same)
got_map f (y ∷ xs) (suc n) x e = got_map f xs n x e

-- the compositor is none of the actors
takes_actor : (scene : SceneValue) (number : ℕ) (state : RunState) (transition : Transition) → 0 ≢ number → transition ≡ actor_transition scene number state → TakesTransition scene number state transition
takes_actor scene zero state transition some is = absurd (some refl)
takes_actor scene (suc n) state transition some is = is

-- a reply is no vsync
reply_no_vsync : (events : List Event) (e : Event) → vsync_in e ≡ [] → vsyncs_in (events ++ e ∷ []) ≡ vsyncs_in events
unfolding vsyncs_in
reply_no_vsync events e none = flat_map-append vsync_in events (e ∷ []) ∙ ap (λ (v : List VsyncRecords). flat_map vsync_in events ++ (v ++ [])) none ∙ append-nil (flat_map vsync_in events)

module _ {B : Type 0} where
  module _ (table : TableId) (scene : SceneValue) (so : SoFar B) (play : PlayOf B) (stands : Stands table scene so play) where
    abbrev home : DeskHome
    home = home_of play.actor_set.desk

    abbrev view : DeskView B
    view = view_of play.actor_set.desk

    -- what was called is a queue of the scene
    pub calls_declared : (queue : ℕ) (made : Made B) → Contains (view.calls queue) made → has_queue scene.queues queue ≡ true
    calls_declared queue made there =
        let mark = one_passes (λ (mark : QueueMark). mark.queue.0 == queue) home.marks (desk_called play.actor_set.desk queue made there) in
        subst (λ (n : ℕ). has_queue scene.queues n ≡ true) (eqb-true mark.0.queue.0 queue mark.2)
        (All-contains (λ (mark : QueueMark). has_queue scene.queues mark.queue.0 ≡ true) home.marks mark.0 stands.desk.declared mark.1)

    pub calls_so : DeskKnows play → AreCalls scene so.actors home view
    calls_so knows = record { marks = stands.desk.marks; declared = calls_declared; legal = knows.legal; callers = stands.tell.callers }

    pub knows_so : DeskKnows play → KnowsRun scene so.actors home view
    knows_so knows = record { actors = stands.tell.actors; knows = knows.knows; signals = stands.tell.signals }

    -- the actor at a place
    module _ (place : ℕ) (old : ActorOf B) (here : slice_get so.actors place ≡ Some old) where
      pub script_at : slice_get (rising_actors scene) place ≡ Some old.script
      script_at =
          ap (λ (scripts : List ActorScript). slice_get scripts place) (rising_actors_are scene so.actors home view stands.of_scene.limits stands.tell.actors)
          ∙ got_map script_of so.actors place old here

      script_there : Contains scene.actors old.script
      script_there = Contains-permutation (map script_of so.actors) scene.actors old.script (IsPermutation-sym scene.actors (map script_of so.actors) stands.tell.actors.scripts)
          (has_map script_of so.actors old (got_has so.actors place old here))

      is_found : find (λ (s : ActorScript). s.number == old.script.number) scene.actors ≡ Some old.script
      is_found = script_of_number scene so.actors home view old stands.tell.actors (got_has so.actors place old here)

      is_some : 0 ≢ old.script.number
      is_some = not_none scene so.actors home view old.script.number stands.of_scene.limits stands.tell.actors (has_map number_of so.actors old (got_has so.actors place old here))

      its_trace : trace_among so.actors old.script.number ≡ old.trace
      its_trace = trace_here so.actors old stands.tell.actors.apart (got_has so.actors place old here)

      module _ (actor_set : ActorSetOf B) (same : IsSameActorSet play.actor_set actor_set) where
        abbrev later_play : PlayOf B
        later_play = record play { actor_set = actor_set }

        abbrev after : DeskView B
        after = view_of actor_set.desk

        -- nothing was called or sent: the state is as it was
        left_state : ((queue : ℕ) → after.calls queue ≡ view.calls queue) → after.arrivals ≡ view.arrivals → state_so so later_play ≡ state_so so play
        left_state calls arrivals = λ i. record {
          run = run_stays so.actors home (home_of actor_set.desk) view after (ap (λ (h : DeskHome). h.marks) same.home) calls i;
          arrivals = map plain_arrival (arrivals i);
          reports = vsyncs_in so.events;
          vsyncs = play.vsyncs;
        }

        module _ (nothing : actor_transition scene old.script.number (state_so so play) ≡ idle (state_so so play)) (left : state_so so later_play ≡ state_so so play) where
          idle_pick : (at' done : ℕ) (pick : Pick) → PlaysSo scene so play (at.Order at' done) → slice_get scene.order at' ≡ Some pick → done < pick.times → pick.actor ≡ old.script.number
              → PlaysSo scene so later_play (at.Order at' (done + 1))
          idle_pick at' done pick plays there less is =
              subst (λ (w : RunState). PlaysTo scene so.events w (at.Order at' (done + 1))) (sym left)
              (subst (λ (es : List Event). PlaysTo scene es (state_so so play) (at.Order at' (done + 1))) (append-nil so.events)
              (plays_pick scene so.events (state_so so play) at' done pick (idle (state_so so play)) plays there less
              (subst (λ (n : ℕ). TakesTransition scene n (state_so so play) (idle (state_so so play))) (sym is)
              (takes_actor scene old.script.number (state_so so play) (idle (state_so so play)) is_some (sym nothing)))))

          idle_round : (stepped : Bool) → PlaysSo scene so play (at.Round place stepped) → PlaysSo scene so later_play (at.Round (place + 1) stepped)
          idle_round stepped plays =
              subst (λ (w : RunState). PlaysTo scene so.events w (at.Round (place + 1) stepped)) (sym left)
              (plays_idle scene so.events (state_so so play) place stepped old.script (idle (state_so so play)) plays script_at
              (takes_actor scene old.script.number (state_so so play) (idle (state_so so play)) is_some (sym nothing)) refl)

  module _ (table : TableId) (scene : SceneValue) (so : SoFar B) (play : PlayOf B) (stands : Stands table scene so play) (place : ℕ) (actor_set : ActorSetOf B)
      (same : IsSameActorSet play.actor_set actor_set) (acts : actor_set.is_spent ≡ false) where
    abbrev new_play : PlayOf B
    new_play = record play { actor_set = actor_set }

    -- no step is left
    module _ (s : StepsAt table (picture_at scene.pictures) place play.actor_set.actors so.actors play.actor_set.desk actor_set.actors actor_set.desk stepped.Ended) where
      nothing_ended : actor_transition scene s.old.script.number (state_so so play) ≡ idle (state_so so play)
      nothing_ended = idle_ended scene (state_so so play) s.old.script (is_found table scene so play stands place s.old s.here)
          (ap (λ (t : List Done). slice_get s.old.script.steps (length t)) (its_trace table scene so play stands place s.old s.here) ∙ s.tries.2)

      left_ended : state_so so new_play ≡ state_so so play
      left_ended = left_state table scene so play stands place s.old s.here actor_set same (λ queue. ap (λ (v : DeskView B). v.calls queue) s.tries.1) (ap (λ (v : DeskView B). v.arrivals) s.tries.1)

      pub pick_ended : (at' done : ℕ) (pick : Pick) → PlaysSo scene so play (at.Order at' done) → slice_get scene.order at' ≡ Some pick → done < pick.times → pick.actor ≡ s.old.script.number
          → PlaysSo scene so new_play (at.Order at' (done + 1))
      pick_ended = idle_pick table scene so play stands place s.old s.here actor_set same nothing_ended left_ended

      pub round_ended : (stepped : Bool) → PlaysSo scene so play (at.Round place stepped) → PlaysSo scene so new_play (at.Round (place + 1) stepped)
      round_ended = idle_round table scene so play stands place s.old s.here actor_set same nothing_ended left_ended

    -- the step is not done
    module _ (s : StepsAt table (picture_at scene.pictures) place play.actor_set.actors so.actors play.actor_set.desk actor_set.actors actor_set.desk stepped.NotYet) (knows : DeskKnows new_play)
        (older : TellsOlder scene (run_of so.actors (home_of actor_set.desk) (view_of actor_set.desk)) s.old (view_of play.actor_set.desk) (view_of actor_set.desk)) where
      leaves : LeavesStep (picture_at scene.pictures) (home_of play.actor_set.desk) s.old (view_of play.actor_set.desk) s.new (view_of actor_set.desk)
      leaves = s.tries

      is_now : Stands table scene so new_play
      is_now = stands_waiting table scene so play place actor_set stands same acts s

      left_waits : state_so so new_play ≡ state_so so play
      left_waits = left_state table scene so play stands place s.old s.here actor_set same (leaves.calls refl) leaves.arrivals

      not_ready : IsNotReady scene (state_so so new_play).run s.old.script (next_step (state_so so new_play).run s.old.script)
      not_ready = left_not_ready scene so.actors (home_of actor_set.desk) (view_of play.actor_set.desk) (view_of actor_set.desk) s.old s.new stands.of_scene.limits refl is_now.tell.actors
          (calls_so table scene so new_play is_now knows) is_now.tell.signals (got_has so.actors place s.old s.here) older
          (subst (λ (h : DeskHome). LeavesStep (picture_at scene.pictures) h s.old (view_of play.actor_set.desk) s.new (view_of actor_set.desk)) (sym same.home) leaves)

      next_is : next_step (state_so so play).run s.old.script ≡ Some leaves.next
      next_is = ap (λ (t : List Done). slice_get s.old.script.steps (length t)) (its_trace table scene so play stands place s.old s.here) ∙ leaves.step

      nothing_yet : actor_transition scene s.old.script.number (state_so so play) ≡ idle (state_so so play)
      nothing_yet = idle_waits scene (state_so so play) s.old.script leaves.next (is_found table scene so play stands place s.old s.here) next_is
          (subst (IsNotReady scene (state_so so play).run s.old.script) next_is
          (subst (λ (w : RunState). IsNotReady scene w.run s.old.script (next_step w.run s.old.script)) left_waits not_ready))

      pub pick_waits : (at' done : ℕ) (pick : Pick) → PlaysSo scene so play (at.Order at' done) → slice_get scene.order at' ≡ Some pick → done < pick.times → pick.actor ≡ s.old.script.number
          → PlaysSo scene so new_play (at.Order at' (done + 1))
      pick_waits = idle_pick table scene so play stands place s.old s.here actor_set same nothing_yet left_waits

      pub round_waits : (stepped : Bool) → PlaysSo scene so play (at.Round place stepped) → PlaysSo scene so new_play (at.Round (place + 1) stepped)
      round_waits = idle_round table scene so play stands place s.old s.here actor_set same nothing_yet left_waits

    -- the step is done
    module _ (s : StepsAt table (picture_at scene.pictures) place play.actor_set.actors so.actors play.actor_set.desk actor_set.actors actor_set.desk stepped.Done) (knows : DeskKnows play) (known : DeskKnows new_play)
        (first : TellsFirst scene (state_so so play).run s.old (view_of play.actor_set.desk)) (told : (home_of play.actor_set.desk).tells ≡ true) where
      abbrev later_so : SoFar B
      later_so = record { actors = set so.actors place s.new; events = so.events ++ event.Reply (reply_shown s.tries.0) ∷ [] }

      does : DoesStep (picture_at scene.pictures) (home_of play.actor_set.desk) s.old (view_of play.actor_set.desk) s.new (view_of actor_set.desk) s.tries.0
      does = s.tries.1

      stands_now : Stands table scene later_so new_play
      stands_now = stands_done table scene so play place actor_set stands same acts s

      runs_now : KnowsRun scene later_so.actors (home_of play.actor_set.desk) (view_of actor_set.desk)
      runs_now = subst (λ (h : DeskHome). KnowsRun scene later_so.actors h (view_of actor_set.desk)) same.home (knows_so table scene later_so new_play stands_now known)

      calls_now : AreCalls scene later_so.actors (home_of play.actor_set.desk) (view_of actor_set.desk)
      calls_now = subst (λ (h : DeskHome). AreCalls scene later_so.actors h (view_of actor_set.desk)) same.home (calls_so table scene later_so new_play stands_now known)

      same_vsyncs : vsyncs_in later_so.events ≡ vsyncs_in so.events
      same_vsyncs = reply_no_vsync so.events (event.Reply (reply_shown s.tries.0)) refl

      abbrev transition : Transition
      transition = record { events = event.Reply (reply_shown s.tries.0) ∷ []; state = state_so later_so new_play }

      turn_now : actor_transition scene s.old.script.number (state_so so play) ≡ transition
      turn_now =
          desk_transition scene so.actors (home_of play.actor_set.desk) (view_of play.actor_set.desk) (view_of actor_set.desk) place s.old s.new s.tries.0 (vsyncs_in so.events) play.vsyncs stands.of_scene.limits refl told s.here s.tries.1
          (knows_so table scene so play stands knows) runs_now calls_now (sent_numbered actor_set.desk.arrivals) first
          ∙ (λ i. record {
            events = event.Reply (reply_shown s.tries.0) ∷ [];
            state = record {
              run = run_of later_so.actors (sym same.home i) (view_of actor_set.desk);
              arrivals = arrivals_of (view_of actor_set.desk);
              reports = sym same_vsyncs i;
              vsyncs = play.vsyncs;
            };
          })

      traces_now : (actor : ℕ) → trace_among later_so.actors actor ≡ with_list (trace_among so.actors) s.old.script.number (trace_among so.actors s.old.script.number ++ s.tries.1.done ∷ []) actor
      traces_now =
          traces scene so.actors (home_of play.actor_set.desk) (view_of play.actor_set.desk) (view_of actor_set.desk) place s.old s.new s.tries.0 (vsyncs_in so.events) play.vsyncs stands.of_scene.limits refl told s.here s.tries.1
          (knows_so table scene so play stands knows) runs_now calls_now (sent_numbered actor_set.desk.arrivals)

      takes_now : TakesTransition scene s.old.script.number (state_so so play) transition
      takes_now = takes_actor scene s.old.script.number (state_so so play) transition (is_some table scene so play stands place s.old s.here) (sym turn_now)

      pub pick_done : (at' done : ℕ) (pick : Pick) → PlaysSo scene so play (at.Order at' done) → slice_get scene.order at' ≡ Some pick → done < pick.times → pick.actor ≡ s.old.script.number
          → PlaysSo scene later_so new_play (at.Order at' (done + 1))
      pick_done at' done pick plays there less is =
          plays_pick scene so.events (state_so so play) at' done pick transition plays there less (subst (λ (n : ℕ). TakesTransition scene n (state_so so play) transition) (sym is) takes_now)

      pub round_done : (stepped : Bool) → PlaysSo scene so play (at.Round place stepped) → PlaysSo scene later_so new_play (at.Round (place + 1) true)
      round_done stepped plays =
          plays_step scene so.events (state_so so play) place stepped s.old.script transition plays (script_at table scene so play stands place s.old s.here)
          (script_there table scene so play stands place s.old s.here) takes_now same_vsyncs
          (λ actor. subst (λ (t : List Done). length (trace_among so.actors actor) ≤ length t) (sym (traces_now actor)) (longer (trace_among so.actors) s.old.script.number s.tries.1.done actor))
          (subst (λ (t : List Done). length (trace_among so.actors s.old.script.number) < length t) (sym (traces_now s.old.script.number)) (longer_own (trace_among so.actors) s.old.script.number s.tries.1.done))

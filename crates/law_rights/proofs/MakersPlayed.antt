-- The makers of a run stand after an actor's step, and after a vsync.
use Rattle.std.proofs.Common.{◌≡◌, ℕ, ◌+◌, ◌-◌, ◌≤◌, true, List, [], ◌∷◌, ◌++◌, arith, ap, ◌∙◌, sym, inl, inr, subst, length, map, Option, Some}
use Rattle.std.specs.Prelude.{All, Contains, slice_get, slice_set}
use Rattle.std.specs.List.{AllZip}
use Rattle.std.specs.List.Sorted.{IsStrictlyIncreasing}
use Rattle.std.specs.Option.{option_map_or}
use Rattle.atomic_table.specs.Seated.{TableId}
use Rattle.sf_actor_set.specs.sf_calls.Histories.{entry}
use Rattle.sf_actor_set.specs.sf_commit.Handlers.{HandlerOf}
use Rattle.sf_actor_set.specs.sf_picture.declared.picture.Picture.{Picture}
use Rattle.sf_actor_set.specs.sf_script_scene.Scene.{SceneValue}
use Rattle.sf_actor_set.specs.sf_script_scene.declared.step.ActorScript.{ActorScript}
use Rattle.sf_actor_set.specs.sf_script_scene.declared.step.Step.{Step}
use Rattle.sf_slots.specs.declared.calls.Entry.{Entry}
use Rattle.sf_actor_set.specs.sf_surface.Tokens.{Issued, ReadLeaseOf}
use Rattle.sf_actor_set.specs.sf_turns.Counts.{IsExact}
use Rattle.sf_actor_set.specs.sf_turns.Views.{SeatView}
use Rattle.sf_actor_set.specs.sf_txn.declared.lease.Lease.{Ghosts}
use Rattle.sf_actor_set.specs.sf_actor.declared.done.Done.{Done}
use Rattle.sf_actor_set.specs.sf_actor.declared.tried.Reply.{Reply}
use Rattle.sf_actor_set.specs.sf_actor.declared.tried.Stepped.{Stepped}
use Rattle.sf_actor_set.specs.sf_actor.declared.tried.Stepped.TheVariants as stepped
use Rattle.sf_actor_set.specs.sf_actor.Desks.{DeskHome, DeskView, mark_among}
use Rattle.sf_actor_set.specs.sf_actor.Makers.{BufferOf, attached_at}
use Rattle.sf_actor_set.specs.sf_actor.Names.{Holdings}
use Rattle.sf_actor_set.specs.sf_actor.Holdings.{plain_of}
use Rattle.sf_actor_set.specs.sf_actor.Plain.{PlainOf, home_of, view_of}
use Rattle.sf_actor_set.specs.sf_actor.Scripts.{picture_at}
use Rattle.sf_actor_set.specs.sf_actor.ScriptTraces.{IsMade, made_on}
use Rattle.sf_actor_set.specs.sf_actor.Traces.{DoneAt, made_by, past_after, places_of}
use Rattle.sf_actor_set.specs.sf_actor.Tries.{ActorOf, DoesStep, Tries, next_step}
use Rattle.sf_actor_set.specs.sf_actor_steps.declared.actor.Actor.{Actor}
use Rattle.sf_actor_set.specs.sf_actor_steps.Bindings.{holdings_of}
use Rattle.sf_actor_set.specs.sf_actor_steps.Playable.{MayPlay}
use Rattle.sf_actor_set.specs.ActorSets.{KeepAs, KeepsAs, StepsAt, scripts_of}
use Rattle.law_played.specs.Actors.{AreActors, number_of, run_of, told_on, trace_among}
use Rattle.law_played.specs.Stopping.{TellsOlder}
use Rattle.law_played.specs.Turns.{calls_in, maker_at}
use Rattle.law_played.proofs.StuckActors.{run_stays}
use Rattle.law_played.proofs.RunTraces.{own_told, trace_here}
use Rattle.law_rights.specs.Actors.{AreOver}
use Rattle.law_rights.specs.MakerRuns.{AreDeclared, MakersPlay, run_in}
use Rattle.law_rights.specs.Makers.{GoesOn, MakersStand, places_of as all_places}
use Rattle.law_rights.specs.Older.{MakersTell}
use Rattle.law_rights.specs.PlaceTries.{PlacesGo, TellsPlaces, loose_at}
use Rattle.law_rights.specs.Standing.{LedgerStands, VsyncIn, home_taken, state_of}
use Rattle.law_rights.specs.States.{State}
use Rattle.law_rights.proofs.MakersKeeping.{run_keeps}
use Rattle.law_rights.proofs.MakersRunning.{call_stands, returns_stand}
use Rattle.law_rights.proofs.MakersTelling.{makers_tell}
use Rattle.law_rights.proofs.MakersTracing.{AreDone, call_within, got_end, trace_now, trace_other, traces_go_on}
use Rattle.law_rights.proofs.OlderLemmas.{tells_older}
use Rattle.law_rights.proofs.StepLedger.{got_has, is_kept, next_done, set_same, step_goes, was_kept}
use Rattle.law_rights.proofs.VsyncLedger.{vsync_returns}

pub called_once : {A : Type 0} (x : A) (xs : List A) → x ∷ xs ≡ xs → ⊥
called_once x xs same = let e = ap length same in omega (arith, e)

module _ {B : Type 0} (scene : SceneValue) (table : TableId) (buffers place : ℕ) (pictures : List Picture) (ofs : List (ActorOf B)) (actors nows : List (Actor B)) (before after : PlainOf B) (st : Stepped) (handler : HandlerOf ReadLeaseOf)
    (steps : StepsAt table (picture_at pictures) place actors ofs before nows after st) (keep : KeepAs table (picture_at pictures) (home_of before) (view_of before) actors ofs)
    (plays : All (MayPlay (home_of before) pictures) (scripts_of actors)) (same_home : home_of after ≡ home_of before)
    (over : AreOver (picture_at pictures) (home_of before) (view_of before) ofs) (stands : LedgerStands buffers (home_of before) (view_of before) ofs handler)
    (declared : AreDeclared scene (home_of before).marks) (apart : IsStrictlyIncreasing (map number_of ofs)) where
  abbrev pub was : ActorOf B
  was = steps.old

  abbrev pub is : ActorOf B
  is = steps.new

  abbrev pub next_ofs : List (ActorOf B)
  next_ofs = slice_set ofs place steps.new

  abbrev pub old : State B
  old = state_of (home_of before) (view_of before) ofs handler

  abbrev pub new : State B
  new = state_of (home_of before) (view_of after) (slice_set ofs place steps.new) handler

  abbrev pub by : ℕ
  by = steps.was_here.bindings.by.0

  abbrev pub number : ℕ
  number = length steps.old.trace + 1

  abbrev pub holdings : Holdings
  holdings = holdings_of steps.was_here.bindings

  pub kept : KeepsAs table (picture_at pictures) (home_of before) (view_of before) steps.was_here steps.old
  kept = was_kept table buffers place pictures ofs actors nows before after st handler steps keep plays same_home over stands

  pub by_it : by ≡ steps.old.script.number
  by_it = kept.is.by_it ∙ ap (λ (s : ActorScript). s.number) (sym kept.is.script)

  all_done : AreDone (trace_among ofs) (told_on (home_of before) (view_of before)) steps.old.script.number
  all_done queue entry there own =
      let here = trace_here ofs steps.old apart (got_has ofs place steps.old steps.here) in
      let within = call_within (picture_at pictures) steps.old.trace steps.old.script.number queue (told_on (home_of before) (view_of before) queue)
      (subst (λ (es : List Entry). AllZip IsMade (made_on queue (made_by (picture_at pictures) steps.old.trace)) es)
      (sym (own_told steps.old.script.number (mark_among (home_of before).marks queue) ((view_of before).calls queue))) (kept.keeps.kept.kept.is.made queue)) entry there own in
      (within.0, subst (λ (t : List Done). entry.step ≤ length t) (sym here) within.1)

  module _ (reply : Reply) (does : DoesStep (picture_at pictures) (home_of before) steps.old (view_of before) steps.new (view_of after) reply) where
    same_script : steps.new.script ≡ steps.old.script
    same_script = ap (λ (a : ActorOf B). a.script) does.same

    pub same_number : steps.new.script.number ≡ steps.old.script.number
    same_number = ap (λ (s : ActorScript). s.number) same_script

    pub grows : trace_among next_ofs steps.old.script.number ≡ trace_among ofs steps.old.script.number ++ does.done ∷ []
    grows =
        ap (trace_among next_ofs) (sym same_number) ∙ trace_now ofs place steps.old steps.new steps.here same_number apart ∙ does.trace
        ∙ ap (λ (t : List Done). t ++ does.done ∷ []) (sym (trace_here ofs steps.old apart (got_has ofs place steps.old steps.here)))

    pub on : GoesOn (run_in (trace_among ofs) old) (run_in (trace_among next_ofs) old)
    on = traces_go_on (trace_among ofs) (trace_among next_ofs) (told_on (home_of before) (view_of before)) steps.old.script.number does.done
        (λ other others. trace_other ofs place other steps.old steps.new steps.here same_number others) grows all_done

    pub grown : MakersStand (run_in (trace_among ofs) old) (calls_in scene (run_in (trace_among ofs) old)) old → MakersStand (run_in (trace_among next_ofs) old) (calls_in scene (run_in (trace_among next_ofs) old)) old
    grown makers = record {
      stays = makers.stays;
      are = run_keeps (run_in (trace_among ofs) old) (run_in (trace_among next_ofs) old) (calls_in scene (run_in (trace_among ofs) old)) (calls_in scene (run_in (trace_among next_ofs) old)) makers.stays (all_places old) on (omega arith) makers.are;
    }

    pub now_trace : trace_among next_ofs by ≡ steps.old.trace ++ does.done ∷ []
    now_trace = ap (trace_among next_ofs) (by_it ∙ sym same_number) ∙ trace_now ofs place steps.old steps.new steps.here same_number apart ∙ does.trace

    past_is : (past_after steps.old.trace).holdings ≡ holdings
    past_is = sym kept.keeps.kept.has ∙ ap plain_of kept.is.parts

    -- what the step attached was last where the name that it used tells
    pub attached_is : (stay : BufferOf) → option_map_or (attached_at stay) (slice_get (places_of (trace_among next_ofs by)) (number - 1)) stay ≡ loose_at holdings does.done.step stay
    attached_is stay =
        ap (λ (t : List Done). option_map_or (attached_at stay) (slice_get (places_of t) (number - 1)) stay) now_trace
        ∙ ap (λ (o : Option DoneAt). option_map_or (attached_at stay) o stay) (got_end steps.old.trace does.done)
        ∙ ap (λ (h : Holdings). loose_at h does.done.step stay) past_is

    by_places : PlacesGo holdings does.done.step by number old new → MakersStand (run_in (trace_among next_ofs) old) (calls_in scene (run_in (trace_among next_ofs) old)) old
        → MakersStand (run_in (trace_among next_ofs) new) (calls_in scene (run_in (trace_among next_ofs) new)) new
    by_places (inl calls) makers =
        call_stands (trace_among next_ofs) old new by calls.queue number calls.asked calls.reply calls.from calls.made scene declared stands.ledger
        (λ stay attaches. attached_is stay ∙ calls.attached stay attaches) makers
    by_places (inr returns) makers = returns_stand (trace_among next_ofs) scene by number old new declared returns makers

    pub did_stand : PlacesGo holdings does.done.step by number old new → MakersStand (run_in (trace_among ofs) old) (calls_in scene (run_in (trace_among ofs) old)) old
        → MakersStand (run_in (trace_among next_ofs) new) (calls_in scene (run_in (trace_among next_ofs) new)) new
    did_stand places makers = by_places places (grown makers)

  -- a step that is not done
  module _ (same : steps.new ≡ steps.old) where
    pub same_ofs : ofs ≡ next_ofs
    same_ofs = sym (ap (slice_set ofs place) same ∙ set_same ofs place steps.old steps.here)

    pub same_traces : MakersStand (run_in (trace_among ofs) old) (calls_in scene (run_in (trace_among ofs) old)) old → MakersStand (run_in (trace_among next_ofs) old) (calls_in scene (run_in (trace_among next_ofs) old)) old
    same_traces makers = subst (λ (xs : List (ActorOf B)). MakersStand (run_in (trace_among xs) old) (calls_in scene (run_in (trace_among xs) old)) old) same_ofs makers

    left_stand : (next : Step) → ((queue : ℕ) → (view_of after).calls queue ≡ (view_of before).calls queue) → PlacesGo holdings next by number old new → MakersStand (run_in (trace_among ofs) old) (calls_in scene (run_in (trace_among ofs) old)) old
        → MakersStand (run_in (trace_among next_ofs) new) (calls_in scene (run_in (trace_among next_ofs) new)) new
    left_stand next none (inl calls) makers =
        absurd (called_once (entry by (number, calls.asked) calls.reply) ((view_of before).calls calls.queue) (sym calls.made.call.once.newest ∙ none calls.queue))
    left_stand next none (inr returns) makers = returns_stand (trace_among next_ofs) scene by number old new declared returns (same_traces makers)

    ended_stand : view_of after ≡ view_of before → MakersStand (run_in (trace_among ofs) old) (calls_in scene (run_in (trace_among ofs) old)) old
        → MakersStand (run_in (trace_among next_ofs) new) (calls_in scene (run_in (trace_among next_ofs) new)) new
    ended_stand view makers =
        subst (λ (xs : List (ActorOf B)). MakersPlay scene (home_of before) (view_of after) xs handler) same_ofs
        (subst (λ (v : DeskView B). MakersPlay scene (home_of before) v ofs handler) (sym view) makers)

  -- what each try of a step does to places
  module _ (places : (next : Step) → next_step steps.old ≡ Some next → PlacesGo holdings next by number old new) (makers : MakersPlay scene (home_of before) (view_of before) ofs handler) where
    by_stepped : (s : Stepped) → Tries (picture_at pictures) (home_of before) steps.old (view_of before) steps.new (view_of after) s → MakersPlay scene (home_of before) (view_of after) next_ofs handler
    by_stepped stepped.Done tries =
        let next_is = next_done (picture_at pictures) (home_of before) steps.old steps.new (view_of before) (view_of after) tries.0
        (is_kept table buffers place pictures ofs actors nows before after st handler steps keep plays same_home over stands).keeps tries.1 in
        did_stand tries.0 tries.1 (places tries.1.done.step next_is) makers
    by_stepped stepped.NotYet tries = left_stand tries.same tries.next (tries.calls stands.exact) (places tries.next tries.step) makers
    by_stepped stepped.Ended tries = ended_stand tries.0 tries.1 makers

    by_places_told : MakersPlay scene (home_of after) (view_of after) next_ofs handler
    by_places_told = subst (λ (h : DeskHome). MakersPlay scene h (view_of after) next_ofs handler) (sym same_home) (by_stepped st steps.tries)

  pub step_makers : MakersPlay scene (home_of before) (view_of before) ofs handler → MakersPlay scene (home_of after) (view_of after) next_ofs handler
  step_makers makers = by_places_told (step_goes table buffers place pictures ofs actors nows before after st handler steps keep plays same_home over stands) makers

module _ {B : Type 0} (scene : SceneValue) (home : DeskHome) (ofs : List (ActorOf B)) (old : DeskView B) (handler : HandlerOf ReadLeaseOf) where
  pub vsync_makers : (lease : Ghosts ReadLeaseOf SeatView ReadLeaseOf Issued) (buffers : ℕ) (new : DeskView B) (after : HandlerOf ReadLeaseOf) → VsyncIn lease home old handler new after → LedgerStands buffers home old ofs handler
      → TellsPlaces lease → AreDeclared scene home.marks → MakersPlay scene home old ofs handler → MakersPlay scene (home_taken home old) new ofs after
  vsync_makers lease buffers new after vsync stands tells declared makers =
      returns_stand (trace_among ofs) scene 0 vsync.number (state_of home old ofs handler) (state_of (home_taken home old) new ofs after) declared
      (vsync_returns lease buffers home ofs old new handler after vsync stands tells) makers

  module _ (buffers : ℕ) (stands : LedgerStands buffers home old ofs handler) (makers : MakersPlay scene home old ofs handler) where
    -- makers tell of the turns, also after a look that showed what has left
    pub standing_tell : MakersTell (maker_at scene (run_of ofs home old)) ofs
    standing_tell = makers_tell (run_of ofs home old) (calls_in scene (run_of ofs home old)) (state_of home old ofs handler) stands.ledger makers

    pub looked_tell : (now : DeskHome) (new : DeskView B) → now.marks ≡ home.marks → ((queue : ℕ) → new.calls queue ≡ old.calls queue) → MakersTell (maker_at scene (run_of ofs now new)) ofs
    looked_tell now new marks calls = subst (λ run. MakersTell (maker_at scene run) ofs) (sym (run_stays ofs home now old new marks calls)) standing_tell

    pub looked_older : (pictures : ℕ → Picture) → AreOver pictures home old ofs → IsExact buffers old.turns.leaves old.turns.seen → (now : DeskHome) (new : DeskView B) → AreActors scene ofs now new
        → now.marks ≡ home.marks → ((queue : ℕ) → new.calls queue ≡ old.calls queue) → old.turns.is_first ≡ true → old.turns.out ≡ 0 → (of : ActorOf B) → Contains ofs of → TellsOlder scene (run_of ofs now new) of old new
    looked_older pictures over exact now new actors marks calls =
        tells_older pictures buffers home old ofs handler stands over exact scene now new actors (looked_tell now new marks calls)

-- What stands of the rights of a run stands after frames that go back, and where rights rest.
use Rattle.std.proofs.Common.{◌≡◌, ℕ, ◌≤◌, ◌⊎◌, true, false, List, [], ◌∷◌, map, length, refl, ap, sym, ◌∙◌, subst, inl, inr}
use Rattle.std.specs.Prelude.{Contains}
use Rattle.std.specs.List.Sorted.{IsStrictlyIncreasing}
use Rattle.std.proofs.lemmas.Bool.{cases_eq, false≢true}
use Rattle.sf_base.specs.Fences.{Fence}
use Rattle.sf_base.specs.declared.ids.QueueId.{QueueId}
use Rattle.law_rights.specs.sf_calls.Histories.{entry}
use Rattle.law_rights.specs.sf_script_scene.Scene.{SceneValue}
use Rattle.sf_slots.specs.declared.calls.Entry.{Entry}
use Rattle.sf_slots.specs.declared.calls.PlainReply.{PlainReply}
use Rattle.sf_slots.specs.declared.calls.PlainReply.TheVariants as plain
use Rattle.law_rights.specs.sf_surface.declared.call.QCall.{QCall}
use Rattle.law_rights.specs.sf_surface.declared.call.QCall.TheVariants as call
use Rattle.law_rights.specs.sf_surface.declared.call.QReply.{QReply}
use Rattle.law_rights.specs.sf_surface.declared.mark.QueueMark.{QueueMark}
use Rattle.law_rights.specs.sf_surface.Hands.{IsReply}
use Rattle.law_rights.specs.sf_surface.Histories.{Made, told, told_entry, told_reply}
use Rattle.law_rights.specs.sf_surface.Tokens.{ReadLeaseOf}
use Rattle.law_rights.specs.sf_actor.Desks.{mark_among}
use Rattle.law_rights.specs.sf_actor.Known.{Call}
use Rattle.law_rights.specs.sf_actor.Tries.{ActorOf}
use Rattle.law_rights.specs.law_played.Actors.{number_of, trace_among}
use Rattle.law_rights.specs.law_played.Turns.{calls_in}
use Rattle.law_rights.specs.Ledgers.{IsLedger}
use Rattle.law_rights.specs.MakerRuns.{AreDeclared, run_in}
use Rattle.law_rights.specs.Makers.{MakersStand, places_of}
use Rattle.law_rights.specs.PlaceTries.{ReturnAll, ReturnsIn, ReturnsOne}
use Rattle.law_rights.specs.States.{CallsOnce, State, ledger_of}
use Rattle.law_rights.proofs.TurnCounts.{in_front}
use Rattle.law_rights.proofs.MakersRunning.{returns_stand}
use Rattle.law_rights.proofs.OwedDrawings.{gets_same}
use Rattle.law_rights.proofs.CallKeepsState.{call_keeps}
use Rattle.law_draws.specs.Placed.{ArePlaced}
use Rattle.law_draws.specs.Standing.{AreOfSteps, IsOfStep, RightsStand, is_told}
use Rattle.law_draws.proofs.CallPlacement.{returns_placed}

-- a frame that goes back queues nothing and attaches nothing
release_tells : {B : Type 0} (queue : QueueId) (lease : ReadLeaseOf) (fence : Fence) (given : PlainReply) (reply : QReply B) → IsReply queue (call.Release lease fence) given reply → is_told given ≡ false
release_tells queue lease fence (plain.Attached slot held) reply is = absurd is
release_tells queue lease fence (plain.Queued frame) reply is = absurd is
release_tells queue lease fence given reply is = refl

module _ {B : Type 0} where
  -- what is told after a call was told before, or it is the call
  call_entries : (old new : State B) (by queue step : ℕ) (asked : QCall B) (reply : QReply B) → new.marks ≡ old.marks → CallsOnce old.marks old.view.calls new.view.calls by queue step asked reply → (number : ℕ) (e : Entry)
      → Contains (told (mark_among new.marks number) (new.view.calls number)) e
      → Contains (told (mark_among old.marks number) (old.view.calls number)) e ⊎ (told_entry (mark_among old.marks queue) (told (mark_among old.marks queue) (old.view.calls queue)) (entry by (step, asked) reply) ≡ e)
  unfolding told
  call_entries old new by queue step asked reply marks once number e there = elim (cases_eq number queue) [
    | inl here ↦
        let now : Contains (told (mark_among old.marks queue) (entry by (step, asked) reply ∷ old.view.calls queue)) e =
        subst (λ (cs : List (Made B)). Contains (told (mark_among old.marks queue) cs) e) once.newest
        (subst (λ (n : ℕ). Contains (told (mark_among old.marks n) (new.view.calls n)) e) here at_old) in
        elim (in_front (told_entry (mark_among old.marks queue) (told (mark_among old.marks queue) (old.view.calls queue)) (entry by (step, asked) reply)) e (told (mark_among old.marks queue) (old.view.calls queue)) now) [
          | inl it ↦ inr it
          | inr was ↦ inl (subst (λ (n : ℕ). Contains (told (mark_among old.marks n) (old.view.calls n)) e) (sym here) was)
        ]
    | inr other ↦ inl (subst (λ (cs : List (Made B)). Contains (told (mark_among old.marks number) cs) e) (once.others number other) at_old)
  ]
    where
      at_old : Contains (told (mark_among old.marks number) (new.view.calls number)) e
      at_old = subst (λ (ms : List QueueMark). Contains (told (mark_among ms number) (new.view.calls number)) e) marks there

  -- a call of a step that its actor has done
  pub call_of_steps : (actors : List (ActorOf B)) (old new : State B) (by queue step : ℕ) (asked : QCall B) (reply : QReply B) → new.marks ≡ old.marks → CallsOnce old.marks old.view.calls new.view.calls by queue step asked reply
      → (is_told (told_reply (mark_among old.marks queue) (old.view.calls queue) by asked) ≡ true → (of : ActorOf B) → Contains actors of → by ≡ of.script.number → (1 ≤ step) × (step ≤ length of.trace))
      → AreOfSteps actors old.marks old.view.calls → AreOfSteps actors new.marks new.view.calls
  call_of_steps actors old new by queue step asked reply marks once own of_steps of among number e there caller tells = elim (call_entries old new by queue step asked reply marks once number e there) [
    | inl was ↦ of_steps of among number e was caller tells
    | inr it ↦
        let done = own (ap (λ (x : Entry). is_told x.reply) it ∙ tells) of among (ap (λ (x : Entry). x.caller.0) it ∙ caller) in
        subst (IsOfStep of) it (record { low = done.0; high = done.1 })
  ]

  module _ (actors : List (ActorOf B)) (by step : ℕ) where
    return_of_steps : (lease : ReadLeaseOf) (old new : State B) → ReturnsOne by step lease old new → AreOfSteps actors old.marks old.view.calls → AreOfSteps actors new.marks new.view.calls
    return_of_steps lease old new returns of_steps =
        let made = returns.made (record { queue = 0; number = 0 }) in
        call_of_steps actors old new by returns.queue step (call.Release lease returns.fence) returns.reply made.call.marks made.call.once
        (λ tells of among own. absurd (false≢true (sym (release_tells (mark_among old.marks returns.queue).queue lease returns.fence
        (told_reply (mark_among old.marks returns.queue) (old.view.calls returns.queue) by (call.Release lease returns.fence)) returns.reply made.call.once.replied.answer) ∙ tells)))
        of_steps

    returned_of_steps : (leases : List ReadLeaseOf) (old new : State B) → ReturnAll by step leases old new → AreOfSteps actors old.marks old.view.calls → AreOfSteps actors new.marks new.view.calls
    returned_of_steps [] old new same of_steps = subst (λ (state : State B). AreOfSteps actors state.marks state.view.calls) (sym same) of_steps
    returned_of_steps (lease ∷ later) old new returns of_steps = returned_of_steps later returns.0 new returns.2 (return_of_steps lease old returns.0 returns.1 of_steps)

    returned_ledger : (leases : List ReadLeaseOf) (old new : State B) → ReturnAll by step leases old new → IsLedger (ledger_of old) → IsLedger (ledger_of new)
    returned_ledger [] old new same is = subst (λ (state : State B). IsLedger (ledger_of state)) (sym same) is
    returned_ledger (lease ∷ later) old new returns is =
        let made = returns.1.made (record { queue = 0; number = 0 }) in
        returned_ledger later returns.0 new returns.2 (call_keeps old returns.0 by returns.1.queue step (call.Release lease returns.1.fence) returns.1.reply made.call is)

    pub returns_of_steps : (old new : State B) → ReturnsIn by step old new → AreOfSteps actors old.marks old.view.calls → AreOfSteps actors new.marks new.view.calls
    returns_of_steps old new returns of_steps =
        returned_of_steps returns.leases returns.mid new returns.returns
        (subst (λ (ms : List QueueMark). AreOfSteps actors ms returns.mid.view.calls) (sym returns.rests.marks)
        (subst (λ (cs : ℕ → List (Made B)). AreOfSteps actors old.marks cs) (sym returns.rests.calls) of_steps))

  module _ (scene : SceneValue) (calls : ℕ → ℕ → List (Call B)) (by step : ℕ) (old new : State B) (declared : AreDeclared scene old.marks) where
    pub returns_keep : ReturnsIn by step old new → new.actors ≡ old.actors → RightsStand scene calls old → RightsStand scene calls new
    returns_keep returns actors stands = record {
      apart = subst (λ (ofs : List (ActorOf B)). IsStrictlyIncreasing (map number_of ofs)) (sym actors) stands.apart;
      of_steps = subst (λ (ofs : List (ActorOf B)). AreOfSteps ofs new.marks new.view.calls) (sym actors) (returns_of_steps old.actors by step old new returns stands.of_steps);
      ledger = returned_ledger old.actors by step returns.leases returns.mid new returns.returns returns.rests.ledger;
      makers = subst (λ (ofs : List (ActorOf B)). MakersStand (run_in (trace_among ofs) new) (calls_in scene (run_in (trace_among ofs) new)) new) (sym actors)
          (returns_stand (trace_among old.actors) scene by step old new declared returns stands.makers);
      placed = subst (λ (ofs : List (ActorOf B)). ArePlaced scene calls (run_in (trace_among ofs) new) (places_of new)) (sym actors)
          (returns_placed calls (trace_among old.actors) scene by step old new declared returns stands.ledger stands.makers stands.placed);
    }

    -- a frame that goes back alone
    pub return_keeps : (lease : ReadLeaseOf) → ReturnsOne by step lease old new → new.actors ≡ old.actors → RightsStand scene calls old → RightsStand scene calls new
    return_keeps lease returns actors stands = returns_keep (record {
      mid = old;
      rests = record {
        marks = refl;
        calls = refl;
        places = record { live = λ right there. (right, there, refl, refl); owed = λ write there. there; queued = gets_same (places_of old).queued; made = λ buffer there. there };
        ledger = stands.ledger;
      };
      leases = lease ∷ [];
      returns = (new, returns, refl);
    }) actors stands

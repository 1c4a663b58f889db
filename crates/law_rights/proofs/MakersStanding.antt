-- A call leaves the makers of a state standing.
use Rattle.std.proofs.Common.{◌≡◌, ℕ, ◌<◌, ◌⊎◌, true, [], ◌∷◌, ap, ◌∙◌, sym, refl, inl, inr, subst}
use Rattle.std.specs.Prelude.{Contains}
use Rattle.sf_actor_set.specs.sf_calls.Histories.{entry}
use Rattle.sf_slots.specs.declared.calls.PlainReply.{PlainReply}
use Rattle.sf_slots.specs.declared.calls.PlainReply.TheVariants as plain
use Rattle.sf_actor_set.specs.sf_surface.declared.call.QCall.{QCall}
use Rattle.sf_actor_set.specs.sf_surface.declared.call.QCall.TheVariants as call
use Rattle.sf_actor_set.specs.sf_surface.declared.call.QReply.{QReply}
use Rattle.sf_actor_set.specs.sf_surface.declared.mark.QueueMark.{QueueMark}
use Rattle.sf_actor_set.specs.sf_surface.Hands.{IsReply}
use Rattle.sf_actor_set.specs.sf_surface.Histories.{told_reply}
use Rattle.sf_actor_set.specs.sf_actor.Desks.{mark_among}
use Rattle.sf_actor_set.specs.sf_actor.Makers.{BufferOf, Run}
use Rattle.sf_actor_set.specs.sf_actor.Rights.{turn_by}
use Rattle.law_rights.specs.Calls.{move_of}
use Rattle.law_rights.specs.Ledgers.{IsLedger}
use Rattle.law_rights.specs.MakerCalls.{IsNewAt, given_at}
use Rattle.law_rights.specs.Makers.{MakersStand, RightAt, places_of}
use Rattle.law_rights.specs.MakerSteps.{PlaceStep, PlacesTold, RunGets}
use Rattle.law_rights.specs.Moves.{made_by}
use Rattle.law_rights.specs.Places.{WasAt}
use Rattle.law_rights.specs.States.{State, ledger_of}
use Rattle.law_rights.proofs.CallBalance.{homes}
use Rattle.law_rights.proofs.TurnCounts.{first}
use Rattle.law_rights.proofs.MakersCalling.{lies_at, lies_in, lies_still}
use Rattle.law_rights.proofs.MakersForms.{form_keeps}
use Rattle.law_rights.proofs.MakersGoing.{run_told}
use Rattle.law_rights.proofs.MakersMoving.{attach_leaves, attach_read_leaves, moved_to}
use Rattle.law_rights.proofs.MakersStepping.{live_from}
use Rattle.law_rights.proofs.MakersTold.{places_told, turn_there}

module _ {B : Type 0} (old new : State B) (by queue step : ℕ) where
  abbrev mark : QueueMark
  mark = mark_among old.marks queue

  -- where a buffer came to the queue, each right of it is there
  moved_by : (asked : QCall B) (reply : QReply B) (from : BufferOf) → PlaceStep old new by queue step asked reply from → IsLedger (ledger_of old) → (given : PlainReply) → told_reply mark (old.view.calls queue) by asked ≡ given
      → IsReply mark.queue asked given reply → (right now : RightAt) → Contains (places_of new).live right → IsNewAt mark.queue asked given now → right.turn.0 ≡ now.turn.0 → right.at ≡ now.at
  moved_by (call.Dequeue wide high wait permit) reply from made is (plain.Dequeued slot held requested true fence) told answer right now there new_one same =
      by_place (live_from old new by queue step asked reply from made right there)
    where
      asked : QCall B
      asked = call.Dequeue wide high wait permit

      makes : Contains (made_by (move_of mark.queue asked (told_reply mark (old.view.calls queue) by asked))) permit.buffer
      makes = subst (λ (g : PlainReply). Contains (made_by (move_of mark.queue asked g)) permit.buffer) (sym told) (first permit.buffer [])

      by_place : WasAt (places_of old) right ⊎ IsNewAt mark.queue asked (told_reply mark (old.view.calls queue) by asked) right → right.at ≡ now.at
      by_place (inl was) =
          let known = is.live_made was.0.turn (turn_there old new by queue step asked reply from made is was.0 was.1) in
          let buffer : was.0.turn.0 ≡ permit.buffer = was.2 ∙ same ∙ ap (λ (r : RightAt). r.turn.0) new_one in
          absurd (made.call.unmade permit.buffer makes (subst (Contains (places_of old).made) buffer known))
      by_place (inr comes) = ap (λ (r : RightAt). r.at) (subst (λ (g : PlainReply). IsNewAt mark.queue asked g right) told comes ∙ sym new_one)
  moved_by (call.Attach loose) reply from made is (plain.Attached slot held) told answer right now there new_one same =
      ap (λ (r : RightAt). r.at)
      (moved_to old new by queue step (call.Attach loose) reply from made is right (record { turn = turn_by loose.turn; at = from }) now refl
      (ap (λ (r : QReply B). given_at from (call.Attach loose) r.gives) answer ∙ ap (λ (r : RightAt). r ∷ []) (sym new_one))
      (same ∙ ap (λ (r : RightAt). r.turn.0) new_one)
      (λ lies. lies_in mark (old.view.calls queue) right
      (lies_still mark (entry by (step, call.Attach loose) reply) (old.view.calls queue) right (attach_leaves loose reply.gives) (homes mark (old.view.calls queue) by step (call.Attach loose) (plain.Attached slot held) reply told)
      (lies_at mark (entry by (step, call.Attach loose) reply ∷ old.view.calls queue) right lies)))
      there)
  moved_by (call.AttachRead loose) reply from made is (plain.Attached slot held) told answer right now there new_one same =
      ap (λ (r : RightAt). r.at)
      (moved_to old new by queue step (call.AttachRead loose) reply from made is right (record { turn = turn_by loose.turn; at = from }) now refl
      (ap (λ (r : QReply B). given_at from (call.AttachRead loose) r.gives) answer ∙ ap (λ (r : RightAt). r ∷ []) (sym new_one))
      (same ∙ ap (λ (r : RightAt). r.turn.0) new_one)
      (λ lies. lies_in mark (old.view.calls queue) right
      (lies_still mark (entry by (step, call.AttachRead loose) reply) (old.view.calls queue) right (attach_read_leaves loose reply.gives) (homes mark (old.view.calls queue) by step (call.AttachRead loose) (plain.Attached slot held) reply told)
      (lies_at mark (entry by (step, call.AttachRead loose) reply ∷ old.view.calls queue) right lies)))
      there)
  moved_by asked reply from made is given told answer right now there new_one same = absurd new_one

  pub told_is : (asked : QCall B) (reply : QReply B) (from : BufferOf) → PlaceStep old new by queue step asked reply from → IsLedger (ledger_of old)
      → PlacesTold mark.queue asked (told_reply mark (old.view.calls queue) by asked) from (places_of old) (places_of new)
  told_is asked reply from made is =
      places_told old new by queue step asked reply from made is
      (λ right now there new_one same. moved_by asked reply from made is (told_reply mark (old.view.calls queue) by asked) refl made.call.once.replied.answer right now there new_one same)

  pub makers_stand : (asked : QCall B) (reply : QReply B) (from : BufferOf) (before after : Run) (most more : ℕ) → PlaceStep old new by queue step asked reply from → IsLedger (ledger_of old)
      → RunGets mark (entry by (step, asked) reply) (old.view.calls queue) from before after → most < more → MakersStand before most old → MakersStand after more new
  makers_stand asked reply from before after most more made is gets grows stands =
      let told = told_is asked reply from made is in
      let kept = form_keeps mark.queue from before after most more stands.stays (places_of old) (places_of new) grows stands.are asked (told_reply mark (old.view.calls queue) by asked) told
      (run_told mark (entry by (step, asked) reply) (old.view.calls queue) from before after gets) in
      record { stays = kept.0; are = kept.1 }

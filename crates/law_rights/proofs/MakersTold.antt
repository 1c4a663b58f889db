-- A call does to the places of a state what is told of it.
use Rattle.std.proofs.Common.{◌≡◌, ℕ, ◌<◌, ◌==◌, List, [], arith, ap, ◌∙◌, sym, refl, subst}
use Rattle.std.specs.Prelude.{Contains}
use Rattle.std.specs.List.{flat_map}
use Rattle.std.proofs.lemmas.Bool.{eqb-true}
use Rattle.std.proofs.lemmas.List.Elements.{Contains-append_right}
use Rattle.sf_base.specs.declared.ids.QueueId.{QueueId}
use Rattle.sf_slots.specs.declared.calls.PlainReply.{PlainReply}
use Rattle.sf_slots.specs.declared.calls.PlainReply.TheVariants as plain
use Rattle.sf_actor_set.specs.sf_surface.Calls.{queued_token, shows_other}
use Rattle.sf_actor_set.specs.sf_surface.declared.call.QCall.{QCall}
use Rattle.sf_actor_set.specs.sf_surface.declared.call.QCall.TheVariants as call
use Rattle.sf_actor_set.specs.sf_surface.declared.call.QReply.{QReply}
use Rattle.sf_actor_set.specs.sf_surface.declared.mark.QueueMark.{QueueMark}
use Rattle.sf_actor_set.specs.sf_surface.Histories.{caller, told, told_reply}
use Rattle.sf_actor_set.specs.sf_actor.Desks.{mark_among}
use Rattle.sf_actor_set.specs.sf_actor.Makers.{BufferOf}
use Rattle.sf_actor_set.specs.sf_actor.Rights.{Turn}
use Rattle.law_played.proofs.Members.{has_map}
use Rattle.law_rights.specs.Calls.{writes_in}
use Rattle.law_rights.specs.Ledgers.{IsLedger, Write}
use Rattle.law_rights.specs.MakerCalls.{IsNewAt, brought_at, right_written}
use Rattle.law_rights.specs.Makers.{RightAt, WriteAt, place_written, places_lying, places_of, places_out}
use Rattle.law_rights.specs.MakerSteps.{PlaceStep, PlacesTold}
use Rattle.law_rights.specs.Moves.{AreIn}
use Rattle.law_rights.specs.States.{State, ledger_of}
use Rattle.law_rights.proofs.SlotAnswers.{queued_below}
use Rattle.law_rights.proofs.CallEffects.{move_makes}
use Rattle.law_rights.proofs.TurnCounts.{first, none_in, the_only}
use Rattle.law_rights.proofs.FrameNumbers.{frame_is_next, frames_below, frames_in}
use Rattle.law_rights.proofs.MakersCalling.{own_queued}
use Rattle.law_rights.proofs.MakersStepping.{live_from, made_get, queued_get}
use Rattle.law_rights.proofs.MakersTurns.{turn_at, turns_of, write_at, write_told, writes_of}
use Rattle.law_rights.proofs.QueueCounts.{in_some, mark_only, mark_there}

module _ {B : Type 0} (old new : State B) (by queue step : ℕ) (asked : QCall B) (reply : QReply B) (from : BufferOf) (made : PlaceStep old new by queue step asked reply from) (is : IsLedger (ledger_of old)) where
  abbrev mark : QueueMark
  mark = mark_among old.marks queue

  abbrev answered : PlainReply
  answered = told_reply mark (old.view.calls queue) by asked

  pub turn_there : (right : RightAt) → Contains (places_of old).live right → Contains (ledger_of old).live right.turn
  turn_there right there = subst (λ (turns : List Turn). Contains turns right.turn) (turns_of old) (has_map turn_at (places_of old).live right there)

  write_there : (write : WriteAt) → Contains (places_of old).queued write → Contains (ledger_of old).queued write.write
  write_there write there = subst (λ (writes : List Write). Contains writes write.write) (writes_of old) (has_map write_at (places_of old).queued write there)

  brought_there : AreIn (brought_at from asked) (places_of old).live
  brought_there right there = Contains-append_right (flat_map (λ (m : QueueMark). places_lying m (old.view.calls m.queue.0)) old.marks) (places_out old) right (made.brought right there)

  -- what is queued is queued with the right that is brought
  brought_for : (asks : QCall B) (given : PlainReply) (write : WriteAt) → Contains (place_written mark.queue asks given) write → (right : RightAt) × Contains (brought_at from asks) right × (right.turn ≡ write.write.turn)
  brought_for (call.Queue lease picture time crop fence) (plain.Queued frame) write there = (right_written lease, first (right_written lease) [], ap (λ (w : WriteAt). w.write.turn) (the_only _ write there))
  brought_for asks given write there = absurd (none_in write there)

  own_queue : (asks : QCall B) (given : PlainReply) → told_reply mark (old.view.calls queue) by asks ≡ given → (write : WriteAt) → Contains (place_written mark.queue asks given) write
      → (right : RightAt) → Contains (brought_at from asks) right → right.at.queue ≡ mark.queue.0
  own_queue (call.Queue lease picture time crop fence) (plain.Queued frame) told_it write there right brought =
      let below = queued_below mark.width mark.height (told mark (old.view.calls queue)) (caller by) (queued_token mark.queue lease picture) picture.number picture.width picture.height time crop fence frame told_it in
      ap (λ (r : RightAt). r.at.queue) (sym (the_only _ right brought)) ∙ eqb-true lease.queue.0 mark.queue.0 (own_queued (shows_other lease.work picture) (lease.queue.0 == mark.queue.0) lease.slot below.0)
  own_queue asks given told_it write there right brought = absurd (none_in write there)

  latest : (write other : WriteAt) → Contains (place_written mark.queue asked answered) write → Contains (places_of old).queued other → other.write.turn.0 ≡ write.write.turn.0 → other.write.turn.1 < write.write.turn.1
  latest write other now before same =
      let found = brought_for asked answered write now in
      let live = subst (Contains (ledger_of old).live) found.2 (turn_there found.0 (brought_there found.0 found.1)) in
      is.after_queued write.write.turn other.write live (write_there other before) same

  frames : (write other : WriteAt) → Contains (place_written mark.queue asked answered) write → Contains (places_of old).queued other → other.write.frame.0.0 ≡ write.write.frame.0.0
      → other.write.frame.1 < write.write.frame.1
  frames write other now before same =
      let next = frame_is_next mark (old.view.calls queue) by asked answered write.write refl
      (subst (λ (ws : List Write). Contains ws write.write) (write_told mark.queue asked answered) (has_map write_at (place_written mark.queue asked answered) write now)) in
      let found = in_some (λ (m : QueueMark). writes_in m (old.view.calls m.queue.0)) old.marks other.write (write_there other before) in
      let below = frames_below found.0 (old.view.calls found.0.queue.0) other.write found.2 in
      let numbers : found.0.queue.0 ≡ mark.queue.0 = ap (λ (q : QueueId). q.0) (sym below.0) ∙ same ∙ ap (λ (q : QueueId). q.0) next.0 in
      let at = mark_there old.marks queue made.call.once.there in
      let one : found.0 ≡ mark = mark_only old.marks found.0 made.call.once.apart found.1 ∙ ap (mark_among old.marks) (numbers ∙ at.1) in
      let low = below.1 in
      let high = next.1 in
      let count = ap (λ (m : QueueMark). frames_in m (old.view.calls m.queue.0)) one ∙ ap (λ (q : ℕ). frames_in mark (old.view.calls q)) at.1 in
      omega (arith, low, high, count)

  -- where each right of a buffer that came is there, a call does what is told
  pub places_told : ((right now : RightAt) → Contains (places_of new).live right → IsNewAt mark.queue asked answered now → right.turn.0 ≡ now.turn.0 → right.at ≡ now.at)
      → PlacesTold mark.queue asked answered from (places_of old) (places_of new)
  places_told moved = record {
    live = live_from old new by queue step asked reply from made;
    moved = moved;
    brought = brought_there;
    owed = made.owed;
    queued = queued_get old new by queue step asked reply from made;
    made = (made_get old new by queue step asked reply from made).no_others;
    unmade = λ buffer there was. made.call.unmade buffer (subst (λ (bs : List ℕ). Contains bs buffer) (sym (move_makes mark.queue asked answered)) there) was;
    live_made = λ right there. is.live_made right.turn (turn_there right there);
    queued_made = λ write there. is.queued_made write.write (write_there write there);
    own = own_queue asked answered refl;
    latest = latest;
    frames = frames;
  }

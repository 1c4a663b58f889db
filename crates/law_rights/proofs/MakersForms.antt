-- A call keeps makers followed, whatever it is.
use Rattle.std.proofs.Common.{◌≡◌, ℕ, ◌<◌, ◌≤◌, ◌⊎◌, ◌==◌, true, false, [], arith, ap, ◌∙◌, sym, refl, inl, inr, subst}
use Rattle.std.specs.Prelude.{Contains}
use Rattle.std.proofs.lemmas.Bool.{cases_Bool, eq-eqb, eqb-true, false≢true}
use Rattle.sf_base.specs.declared.ids.QueueId.{QueueId}
use Rattle.sf_slots.specs.declared.calls.PlainReply.{PlainReply}
use Rattle.sf_slots.specs.declared.calls.PlainReply.TheVariants as plain
use Rattle.sf_actor_set.specs.sf_surface.declared.call.QCall.{QCall}
use Rattle.sf_actor_set.specs.sf_surface.declared.call.QCall.TheVariants as call
use Rattle.sf_actor_set.specs.sf_surface.Tokens.{turn_of}
use Rattle.sf_actor_set.specs.sf_actor.Makers.{BufferOf, Run}
use Rattle.sf_actor_set.specs.sf_actor.Rights.{turn_by}
use Rattle.law_rights.specs.MakerCalls.{IsNewAt, right_written}
use Rattle.law_rights.specs.Makers.{AreFollowed, Places, RightAt, Stays, WriteAt}
use Rattle.law_rights.specs.MakerSteps.{PlacesTold, RunTold}
use Rattle.law_rights.specs.Moves.{AreIn, Gets}
use Rattle.law_rights.specs.Places.{AttachesTo, ComesTo, MakesAt, QueuesAt, WasAt}
use Rattle.law_rights.proofs.TurnCounts.{first}
use Rattle.law_rights.proofs.MakersComing.{attach_keeps, make_keeps}
use Rattle.law_rights.proofs.MakersKeeping.{queue_keeps, rest_keeps, run_keeps}

only_was : (places : Places) (right : RightAt) → WasAt places right ⊎ ⊥ → WasAt places right
only_was places right (inl was) = was
only_was places right (inr none) = absurd none

less_or_same : (n m : ℕ) → n < m → n ≤ m
less_or_same n m less = omega (arith, less)

module _ {B : Type 0} (queue : QueueId) (from : BufferOf) (before after : Run) (most more : ℕ) (stays : Stays) (old new : Places) (grows : most < more) (are : AreFollowed before most stays old) where
  -- a buffer came to the queue
  coming : (asked : QCall B) (answered : PlainReply) (now : RightAt) → IsNewAt queue asked answered now → ((right : RightAt) → IsNewAt queue asked answered right → right ≡ now)
      → AreIn new.owed old.owed → Gets old.queued [] new.queued → PlacesTold queue asked answered from old new → RunTold queue asked answered from before after → ComesTo now.turn.0 now.at before after old new
  coming asked answered now is only owed queued told run = record {
    was_none = run.was_none now is;
    was_made = run.was_made now is;
    live = λ right there. split right there (told.live right there) (cases_Bool (right.turn.0 == now.turn.0));
    owed = owed;
    queued = queued;
  }
    where
      split : (right : RightAt) → Contains new.live right → WasAt old right ⊎ IsNewAt queue asked answered right → ((right.turn.0 == now.turn.0) ≡ true) ⊎ ((right.turn.0 == now.turn.0) ≡ false)
          → (WasAt old right × (right.turn.0 ≡ now.turn.0 → ⊥)) ⊎ ((right.turn.0 ≡ now.turn.0) × (right.at ≡ now.at))
      split right there known (inl met) = let same = eqb-true right.turn.0 now.turn.0 met in inr (same, told.moved right now there is same)
      split right there (inl was) (inr unmet) = inl (was, λ same. false≢true (sym unmet ∙ eq-eqb right.turn.0 now.turn.0 same))
      split right there (inr new_one) (inr unmet) = let same = only right new_one in inr (ap (λ (r : RightAt). r.turn.0) same, ap (λ (r : RightAt). r.at) same)

  pub form_keeps : (asked : QCall B) (answered : PlainReply) → PlacesTold queue asked answered from old new → RunTold queue asked answered from before after → (next : Stays) × AreFollowed after more next new
  form_keeps (call.Queue lease picture time crop fence) (plain.Queued frame) told run =
      let write : WriteAt = record { write = record { turn = turn_by (turn_of lease.work); frame = (queue, frame) }; number = lease.held.number } in
      let here = first write [] in
      let brought = first (right_written lease) [] in
      let there = told.brought (right_written lease) brought in
      let own = told.own write here (right_written lease) brought in
      let queues : QueuesAt write old new = record {
        right = right_written lease;
        there = there;
        same = refl;
        at = λ i. record { queue = own i; number = lease.held.number };
        latest = λ other is same. told.latest write other here is same;
        frames = λ other is same. told.frames write other here is same;
        live = λ right is. only_was old right (told.live right is);
        owed = told.owed;
        queued = told.queued;
        made = told.made;
      } in
      (stays, queue_keeps after more stays old new (run_keeps before after most more stays old run.on (less_or_same most more grows) are) write queues (told.live_made (right_written lease) there))
  form_keeps (call.Dequeue wide high wait permit) (plain.Dequeued slot held requested true fence) told run =
      let now : RightAt = record { turn = (permit.buffer, 0); at = record { queue = queue.0; number = held.number } } in
      let makes : MakesAt permit.buffer now.at before after old new = record {
        comes = coming (call.Dequeue wide high wait permit) (plain.Dequeued slot held requested true fence) now refl (λ right is. is) told.owed told.queued told run;
        first = run.made_by now refl;
        unqueued = λ write is same. told.unmade permit.buffer (first permit.buffer []) (subst (Contains old.made) same (told.queued_made write is));
        unmade = told.unmade permit.buffer (first permit.buffer []);
        made = told.made;
      } in
      (_, make_keeps before after most more stays old new run.on grows are told.queued_made permit.buffer now.at makes)
  form_keeps (call.Attach loose) (plain.Attached slot held) told run =
      let now : RightAt = record { turn = turn_by loose.turn; at = record { queue = queue.0; number = held.number } } in
      let was : RightAt = record { turn = turn_by loose.turn; at = from } in
      let there = told.brought was (first was []) in
      let attaches : AttachesTo now.turn.0 now.at before after old new = record {
        comes = coming (call.Attach loose) (plain.Attached slot held) now refl (λ right is. is) told.owed told.queued told run;
        right = was;
        there = there;
        same = refl;
        known = told.live_made was there;
        from = run.made_by now refl;
        made = told.made;
      } in
      (_, attach_keeps before after most more stays old new run.on grows are told.queued_made now.turn.0 now.at attaches)
  form_keeps (call.AttachRead loose) (plain.Attached slot held) told run =
      let now : RightAt = record { turn = turn_by loose.turn; at = record { queue = queue.0; number = held.number } } in
      let was : RightAt = record { turn = turn_by loose.turn; at = from } in
      let there = told.brought was (first was []) in
      let attaches : AttachesTo now.turn.0 now.at before after old new = record {
        comes = coming (call.AttachRead loose) (plain.Attached slot held) now refl (λ right is. is) told.owed told.queued told run;
        right = was;
        there = there;
        same = refl;
        known = told.live_made was there;
        from = run.made_by now refl;
        made = told.made;
      } in
      (_, attach_keeps before after most more stays old new run.on grows are told.queued_made now.turn.0 now.at attaches)
  form_keeps asked answered told run = (
    stays,
    rest_keeps after more stays old new (run_keeps before after most more stays old run.on (less_or_same most more grows) are)
        (record { live = λ right is. only_was old right (told.live right is); owed = told.owed; queued = told.queued; made = told.made }),
  )

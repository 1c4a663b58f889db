-- A frame that is held goes back to its queue; and a release of a compositor keeps the ledger.
use Rattle.std.proofs.Common.{◌≡◌, ℕ, List, [], ◌∷◌, ◌++◌, arith, ap, ◌∙◌, sym, refl, subst, map}
use Rattle.std.specs.Prelude.{Contains}
use Rattle.std.specs.List.{flat_map}
use Rattle.std.proofs.lemmas.List.Elements.{Contains-append_right}
use Rattle.std.proofs.lemmas.List.Sums.{sum_by-append, sum_by-cons}
use Rattle.sf_base.specs.Fences.{Fence}
use Rattle.sf_actor_set.specs.sf_calls.Histories.{IsLegal, entry}
use Rattle.sf_actor_set.specs.sf_surface.declared.call.QCall.{QCall}
use Rattle.sf_actor_set.specs.sf_surface.declared.call.QCall.TheVariants as call
use Rattle.sf_actor_set.specs.sf_surface.declared.call.QReply.{QReply}
use Rattle.sf_actor_set.specs.sf_surface.declared.mark.QueueMark.{QueueMark}
use Rattle.sf_actor_set.specs.sf_surface.Histories.{Answers, Made, told_reply}
use Rattle.sf_actor_set.specs.sf_surface.Tokens.{ReadLeaseOf}
use Rattle.sf_actor_set.specs.sf_actor.Desks.{DeskHome, DeskView, mark_among}
use Rattle.sf_actor_set.specs.sf_actor.Makers.{BufferOf}
use Rattle.sf_actor_set.specs.sf_actor.Rights.{Turn}
use Rattle.sf_actor_set.specs.sf_actor.Tries.{ActorOf}
use Rattle.law_rights.specs.Ledgers.{IsLedger}
use Rattle.law_rights.specs.MakerCalls.{given_at}
use Rattle.law_rights.specs.Makers.{RightAt, place_written, places_arrived, places_held, places_of, places_out, right_read}
use Rattle.law_rights.specs.MakerSteps.{PlaceStep}
use Rattle.law_rights.specs.Moves.{AreIn, Gets, HasAtMost}
use Rattle.law_rights.specs.States.{CallsOnce, State, all_owed, all_written, ledger_of}
use Rattle.law_rights.specs.Vsyncs.{ReleasesIn}
use Rattle.law_rights.proofs.TurnCounts.{first, none_in, the_only}
use Rattle.law_rights.proofs.OwedDrawings.{gets_same}
use Rattle.law_rights.proofs.PlaceChanges.{brought_held, held_turns}
use Rattle.law_rights.proofs.CallKeepsState.{call_keeps}

module _ {B : Type 0} (st : State B) (on : List ReadLeaseOf) (lease : ReadLeaseOf) (fence : Fence) (by queue place : ℕ) (reply : QReply B) (next : DeskView B) where
  abbrev asked : QCall B
  asked = call.Release lease fence

  abbrev before : State B
  before = record st { on = lease ∷ on }

  abbrev after : State B
  after = record st { view = next; on = on }

  -- a frame that was held goes back, whether its queue takes it or not
  pub back_places : CallsOnce st.marks st.view.calls next.calls by queue place asked reply → Gets st.view.turns.leaves [] next.turns.leaves → (was : BufferOf) → PlaceStep before after by queue place asked reply was
  back_places once left was = record {
    call = record {
      marks = refl;
      once = once;
      brought = brought_held before was asked brought;
      held = held_turns before after was asked reply.gives held;
      owed = gets_same (all_owed before);
      left = left;
      written = gets_same (all_written before);
      unmade = λ buffer none. absurd (none_in buffer none);
    };
    brought = brought;
    held = held;
    owed = λ write there. Contains-append_right (place_written (mark_among st.marks queue).queue asked (told_reply (mark_among st.marks queue) (st.view.calls queue) by asked)) (places_of before).owed write there;
  }
    where
      front : List RightAt
      front = flat_map (λ (a : ActorOf B). places_held a.parts) st.actors ++ flat_map places_arrived st.waiting

      brought : AreIn (right_read lease ∷ []) (places_out before)
      brought right there = Contains-append_right front (right_read lease ∷ map right_read on) right
          (subst (λ (r : RightAt). Contains (right_read lease ∷ map right_read on) r) (the_only (right_read lease) right there) (first (right_read lease) (map right_read on)))

      held : HasAtMost (places_out before ++ given_at was asked reply.gives) (right_read lease ∷ []) [] (places_out after)
      held w =
          let a = sum_by-append w (places_out before) (given_at was asked reply.gives) in
          let b = sum_by-append w front (right_read lease ∷ map right_read on) in
          let c = sum_by-append w front (map right_read on) in
          let d = sum_by-cons w (right_read lease) (map right_read on) in
          let e = sum_by-cons w (right_read lease) [] in
          omega (arith, a, b, c, d, e)

module _ {B : Type 0} where
  -- a compositor's release
  pub return_places : (home : DeskHome) (old new : State B) (back : ReleasesIn home old new) (was : BufferOf)
      → PlaceStep (record old { on = back.lease ∷ new.on }) (record old { view = new.view; on = new.on }) back.by back.queue back.place (call.Release back.lease back.fence) back.reply was
  return_places home old new back was = back_places old new.on back.lease back.fence back.by back.queue back.place back.reply new.view once left was
    where
      asked : QCall B
      asked = call.Release back.lease back.fence

      newest : new.view.calls back.queue ≡ entry back.by (back.place, asked) back.reply ∷ old.view.calls back.queue
      newest = back.made.newest ∙ ap (λ (calls : List (Made B)). entry back.by (back.place, asked) back.reply ∷ calls) (back.made.alone back.exact)

      legal : IsLegal (Answers (mark_among home.marks back.queue)) (entry back.by (back.place, asked) back.reply ∷ old.view.calls back.queue)
      legal = subst (IsLegal (Answers (mark_among home.marks back.queue)))
          (back.made.newest ∙ ap (λ (calls : List (Made B)). entry back.by (back.place, asked) back.reply ∷ calls) (back.made.alone back.exact)) back.made.legal

      once : CallsOnce old.marks old.view.calls new.view.calls back.by back.queue back.place asked back.reply
      once = subst (λ (ms : List QueueMark). CallsOnce ms old.view.calls new.view.calls back.by back.queue back.place asked back.reply) (sym back.marks)
          (record { apart = back.apart; there = back.there; newest = newest; others = back.made.changes.others; replied = legal.0 })

      left : Gets old.view.turns.leaves [] new.view.turns.leaves
      left = subst (λ (xs : List Turn). Gets old.view.turns.leaves [] xs) (sym (ap (λ (view : DeskView B). view.turns.leaves) back.made.changes.same)) (gets_same old.view.turns.leaves)

  pub returns_keep : (home : DeskHome) (old new : State B) → ReleasesIn home old new → IsLedger (ledger_of old) → IsLedger (ledger_of new)
  returns_keep home old new back is = subst (λ (st : State B). IsLedger (ledger_of st)) (sym back.same)
      (call_keeps _ _ back.by back.queue back.place (call.Release back.lease back.fence) back.reply (return_places home old new back (record { queue = 0; number = 0 })).call
      (subst (λ (on : List ReadLeaseOf). IsLedger (ledger_of (record old { on = on }))) back.held is))

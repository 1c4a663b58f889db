-- What happens to the places of rights keeps makers followed.
use Rattle.std.proofs.Common.{◌≡◌, ℕ, ◌<◌, ◌≤◌, ◌⊎◌, List, [], ◌∷◌, arith, ap, sym, ◌∙◌, subst, inl, inr}
use Rattle.std.specs.Prelude.{Contains}
use Rattle.sf_actor_set.specs.sf_actor.Makers.{BufferOf, Run}
use Rattle.law_rights.specs.Makers.{AreFollowed, AreMade, GoesOn, IsStay, IsTraced, Places, RightAt, Rises, Stays, WriteAt, buffer_of, maker_in}
use Rattle.law_rights.specs.Places.{QueuesAt, RestsAt, WasAt}
use Rattle.law_rights.specs.Stays.{AreStays}
use Rattle.law_rights.proofs.TurnCounts.{first, in_front, later}

pub made_on : (old new : Run) → GoesOn old new → (stays : List BufferOf) → AreMade old stays → AreMade new stays
made_on old new on [] all = tt
made_on old new on (stay ∷ stays) all = (on.made stay all.0, made_on old new on stays all.1)

-- stays that were made are the same in a later run
pub stays_on : (old new : Run) → GoesOn old new → (stay : BufferOf) (earlier : List BufferOf) → AreMade old (stay ∷ earlier) → AreStays old stay earlier → AreStays new stay earlier
stays_on old new on stay [] made none = on.same stay made.0 ∙ none
stays_on old new on stay (before ∷ earlier) made are = (on.same stay made.0 ∙ are.0, stays_on old new on before earlier made.1 are.1)

pub traced_on : (old new : Run) (most more : ℕ) (stays : Stays) (stay : BufferOf) → GoesOn old new → most ≤ more → IsTraced old most stays stay → IsTraced new more stays stay
traced_on old new most more stays stay on grows traced = record {
  was_made = made_on old new on (stay ∷ stays.before stay) traced.was_made;
  follows = stays_on old new on stay (stays.before stay) traced.was_made traced.follows;
  few = (let few = traced.few in omega (arith, few, grows));
}

stay_on : (old new : Run) (most more : ℕ) (stays : Stays) (buffer : ℕ) (stay : BufferOf) → GoesOn old new → most ≤ more → IsStay old most stays buffer stay → IsStay new more stays buffer stay
stay_on old new most more stays buffer stay on grows is = record { traced = traced_on old new most more stays stay on grows is.traced; one_maker = is.one_maker; age = is.age }

-- where a run only goes on
pub run_keeps : (old new : Run) (most more : ℕ) (stays : Stays) (places : Places) → GoesOn old new → most ≤ more → AreFollowed old most stays places → AreFollowed new more stays places
run_keeps old new most more stays places on grows are = record {
  made = λ buffer there. traced_on old new most more stays (stays.last buffer) on grows (are.made buffer there);
  apart = are.apart;
  live = are.live;
  queued = λ write there. stay_on old new most more stays write.write.turn.0 (buffer_of write) on grows (are.queued write there);
  once = are.once;
  rises = are.rises;
  owed = are.owed;
}

module _ (run : Run) (most : ℕ) (stays : Stays) (old new : Places) (are : AreFollowed run most stays old) where
  pub was_last : (right : RightAt) → WasAt old right → right.at ≡ stays.last right.turn.0
  was_last right was = sym was.3 ∙ are.live was.0 was.1 ∙ ap stays.last was.2

  pub rest_keeps : RestsAt old new → AreFollowed run most stays new
  rest_keeps rests = record {
    made = λ buffer there. are.made buffer (rests.made buffer there);
    apart = λ buffer other here there same. are.apart buffer other (rests.made buffer here) (rests.made other there) same;
    live = λ right there. was_last right (rests.live right there);
    queued = λ write there. are.queued write (rests.queued.no_others write there);
    once = λ one other is too turn. are.once one other (rests.queued.no_others one is) (rests.queued.no_others other too) turn;
    rises = λ one other is too buffer less. are.rises one other (rests.queued.no_others one is) (rests.queued.no_others other too) buffer less;
    owed = λ write there. rests.queued.all write (are.owed write (rests.owed write there));
  }

  module _ (write : WriteAt) (queues : QueuesAt write old new) (known : Contains old.made write.write.turn.0) where
    at_last : buffer_of write ≡ stays.last write.write.turn.0
    at_last = sym queues.at ∙ are.live queues.right queues.there ∙ ap (λ (turn : ℕ × ℕ). stays.last turn.0) queues.same

    own_stay : IsStay run most stays write.write.turn.0 (buffer_of write)
    own_stay = record {
      traced = subst (IsTraced run most stays) (sym at_last) (are.made write.write.turn.0 known);
      one_maker = ap (λ (stay : BufferOf). (maker_in stays stay).made) at_last;
      age = inr at_last;
    }

    -- an earlier write of the buffer is in an older stay, or has a lesser frame of this queue
    rises_to : (other : WriteAt) → Contains old.queued other → other.write.turn.0 ≡ write.write.turn.0 → Rises stays other write
    rises_to other there buffer =
        elim ((are.queued other there).age) [
          | inl less ↦ inl (subst (λ (stay : BufferOf). (maker_in stays (buffer_of other)).age < (maker_in stays stay).age) (ap stays.last buffer ∙ sym at_last) less)
          | inr last ↦ same (last ∙ ap stays.last buffer ∙ sym at_last)
        ]
      where
        same : buffer_of other ≡ buffer_of write → Rises stays other write
        same one = inr (ap (λ (stay : BufferOf). (maker_in stays stay).age) one, queues.frames other there (ap (λ (stay : BufferOf). stay.queue) one))

    queue_rises : (one other : WriteAt) → (write ≡ one) ⊎ Contains old.queued one → (write ≡ other) ⊎ Contains old.queued other → one.write.turn.0 ≡ other.write.turn.0 → one.write.turn.1 < other.write.turn.1
        → Rises stays one other
    queue_rises one other (inr is) (inr too) buffer less = are.rises one other is too buffer less
    queue_rises one other (inr is) (inl now) buffer less =
        subst (Rises stays one) now (rises_to one is (buffer ∙ ap (λ (w : WriteAt). w.write.turn.0) (sym now)))
    queue_rises one other (inl now) (inr too) buffer less =
        let later = queues.latest other too (sym buffer ∙ ap (λ (w : WriteAt). w.write.turn.0) (sym now)) in
        let same = ap (λ (w : WriteAt). w.write.turn.1) now in
        absurd (omega (arith, later, same, less))
    queue_rises one other (inl now) (inl again) buffer less =
        let same = ap (λ (w : WriteAt). w.write.turn.1) now in
        let too = ap (λ (w : WriteAt). w.write.turn.1) again in
        absurd (omega (arith, same, too, less))

    -- no frame was queued in this turn before
    not_again : (other : WriteAt) → Contains old.queued other → other.write.turn ≡ write.write.turn → ⊥
    not_again other there same =
        let less = queues.latest other there (ap (λ (turn : ℕ × ℕ). turn.0) same) in
        let number = ap (λ (turn : ℕ × ℕ). turn.1) same in
        omega (arith, less, number)

    queue_once : (one other : WriteAt) → (write ≡ one) ⊎ Contains old.queued one → (write ≡ other) ⊎ Contains old.queued other → one.write.turn ≡ other.write.turn → one ≡ other
    queue_once one other (inr is) (inr too) turn = are.once one other is too turn
    queue_once one other (inr is) (inl now) turn = absurd (not_again one is (turn ∙ ap (λ (w : WriteAt). w.write.turn) (sym now)))
    queue_once one other (inl now) (inr too) turn = absurd (not_again other too (sym turn ∙ ap (λ (w : WriteAt). w.write.turn) (sym now)))
    queue_once one other (inl now) (inl again) turn = sym now ∙ again

    now_or_before : (one : WriteAt) → Contains new.queued one → (write ≡ one) ⊎ Contains old.queued one
    now_or_before one there = in_front write one old.queued (queues.queued.no_others one there)

    pub queue_keeps : AreFollowed run most stays new
    queue_keeps = record {
      made = λ buffer there. are.made buffer (queues.made buffer there);
      apart = λ buffer other here there same. are.apart buffer other (queues.made buffer here) (queues.made other there) same;
      live = λ right there. was_last right (queues.live right there);
      queued = λ one there. elim (now_or_before one there) [
        | inl now ↦ subst (λ (w : WriteAt). IsStay run most stays w.write.turn.0 (buffer_of w)) now own_stay
        | inr before ↦ are.queued one before
      ];
      once = λ one other is too turn. queue_once one other (now_or_before one is) (now_or_before other too) turn;
      rises = λ one other is too buffer less. queue_rises one other (now_or_before one is) (now_or_before other too) buffer less;
      owed = λ one there. elim (in_front write one old.owed (queues.owed one there)) [
        | inl now ↦ subst (Contains new.queued) now (queues.queued.all write (first write old.queued))
        | inr before ↦ queues.queued.all one (later write one old.queued (are.owed one before))
      ];
    }

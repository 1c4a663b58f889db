-- What a call does to the places of a state.
use Rattle.std.proofs.Common.{◌≡◌, ℕ, ◌+◌, ◌≤◌, ◌==◌, ◌&&◌, ◌⊎◌, Bool, true, false, List, [], ◌∷◌, ◌++◌, arith, ap, ◌∙◌, sym, refl, inl, inr, subst}
use Rattle.std.specs.Prelude.{Contains, if◌then◌else◌}
use Rattle.std.specs.List.{flat_map, sum_by}
use Rattle.std.proofs.lemmas.Bool.{cases_Bool, eq-eqb, eqb-true, false≢true}
use Rattle.std.proofs.lemmas.List.Elements.{Contains-append_cases, Contains-append_left, Contains-append_right}
use Rattle.std.proofs.lemmas.List.Sums.{sum_by-cons}
use Rattle.sf_actor_set.specs.sf_calls.Histories.{entry}
use Rattle.sf_slots.specs.declared.calls.PlainReply.{PlainReply}
use Rattle.sf_actor_set.specs.sf_surface.declared.call.QCall.{QCall}
use Rattle.sf_actor_set.specs.sf_surface.declared.call.QReply.{QReply}
use Rattle.sf_actor_set.specs.sf_surface.declared.mark.QueueMark.{QueueMark}
use Rattle.sf_actor_set.specs.sf_surface.Histories.{Made, told_reply}
use Rattle.sf_actor_set.specs.sf_actor.Desks.{mark_among}
use Rattle.sf_actor_set.specs.sf_actor.Makers.{BufferOf}
use Rattle.law_rights.specs.Calls.{made_of}
use Rattle.law_rights.specs.MakerCalls.{IsNewAt, WasIn, brought_at, given_at}
use Rattle.law_rights.specs.Makers.{RightAt, place_written, places_lying, places_of, places_out, places_written}
use Rattle.law_rights.specs.MakerSteps.{PlaceStep}
use Rattle.law_rights.specs.Moves.{Gets}
use Rattle.law_rights.specs.Places.{WasAt}
use Rattle.law_rights.specs.States.{CallsOnce, State, all_buffers, is_queue}
use Rattle.law_rights.proofs.CallEffects.{buffers_move, move_makes}
use Rattle.law_rights.proofs.TurnCounts.{first, in_front, later, none_in}
use Rattle.law_rights.proofs.MakersCalling.{call_places}
use Rattle.law_rights.proofs.QueueCounts.{in_all, in_some, mark_only, mark_there}

-- one right at one place, or two
pub is_same : RightAt → RightAt → Bool
is_same right other = ((right.turn.0 == other.turn.0) && (right.turn.1 == other.turn.1)) && ((right.at.queue == other.at.queue) && (right.at.number == other.at.number))

abbrev pub is_right : RightAt → RightAt → ℕ
is_right right other = if is_same right other then 1 else 0

both : (a b : Bool) → (a && b) ≡ true → (a ≡ true) × (b ≡ true)
both true b e = (refl, e)
both false b e = absurd (false≢true e)

pub same_right : (right other : RightAt) → is_same right other ≡ true → right ≡ other
unfolding is_same
same_right right other e =
    let parts = both ((right.turn.0 == other.turn.0) && (right.turn.1 == other.turn.1)) ((right.at.queue == other.at.queue) && (right.at.number == other.at.number)) e in
    let turns = both (right.turn.0 == other.turn.0) (right.turn.1 == other.turn.1) parts.0 in
    let ats = both (right.at.queue == other.at.queue) (right.at.number == other.at.number) parts.1 in
    let buffer = eqb-true right.turn.0 other.turn.0 turns.0 in
    let number = eqb-true right.turn.1 other.turn.1 turns.1 in
    let queue = eqb-true right.at.queue other.at.queue ats.0 in
    let which = eqb-true right.at.number other.at.number ats.1 in
    λ i. record { turn = (buffer i, number i); at = record { queue = queue i; number = which i } }

same_itself : (right : RightAt) → is_same right right ≡ true
unfolding is_same
same_itself right = rw (eq-eqb right.turn.0 right.turn.0 refl, eq-eqb right.turn.1 right.turn.1 refl, eq-eqb right.at.queue right.at.queue refl, eq-eqb right.at.number right.at.number refl) refl

pub counted_at : (right : RightAt) (xs : List RightAt) → Contains xs right → 1 ≤ sum_by (is_right right) xs
counted_at right [] there = absurd (none_in right there)
counted_at right (x ∷ xs) there = by_place (in_front x right xs there) (counted_at right xs)
  where
    cons : sum_by (is_right right) (x ∷ xs) ≡ is_right right x + sum_by (is_right right) xs
    cons = sum_by-cons (is_right right) x xs

    by_place : (x ≡ right) ⊎ Contains xs right → (Contains xs right → 1 ≤ sum_by (is_right right) xs) → 1 ≤ sum_by (is_right right) (x ∷ xs)
    by_place (inl same) further =
        let one : is_right right x ≡ 1 = ap (is_right right) same ∙ ap (λ (b : Bool). if b then 1 else 0) (same_itself right) in
        omega (arith, cons, one)
    by_place (inr rest) further = let more = further rest in omega (arith, cons, more)

pub found_right : (right : RightAt) (xs : List RightAt) → 1 ≤ sum_by (is_right right) xs → Contains xs right
found_right right [] some = absurd (omega (arith, some))
found_right right (x ∷ xs) some = by_same (cases_Bool (is_same right x)) (found_right right xs)
  where
    by_same : (is_same right x ≡ true) ⊎ (is_same right x ≡ false) → (1 ≤ sum_by (is_right right) xs → Contains xs right) → Contains (x ∷ xs) right
    by_same (inl met) further = subst (Contains (x ∷ xs)) (sym (same_right right x met)) (first x xs)
    by_same (inr unmet) further =
        let none : is_right right x ≡ 0 = ap (λ (b : Bool). if b then 1 else 0) unmet in
        let cons = sum_by-cons (is_right right) x xs in
        later x right xs (further (omega (arith, none, cons, some)))

module _ {B : Type 0} (marks : List QueueMark) (old new : ℕ → List (Made B)) (by queue step : ℕ) (asked : QCall B) (reply : QReply B) (once : CallsOnce marks old new by queue step asked reply) where
  abbrev mark : QueueMark
  mark = mark_among marks queue

  module _ {A : Type 0} (tells : QueueMark → List (Made B) → List A) (x : A) where
    -- what the calls on all queues tell of after a call, they told of before, or those on its queue tell of it
    pub told_or_new : Contains (flat_map (λ (m : QueueMark). tells m (new m.queue.0)) marks) x
        → Contains (flat_map (λ (m : QueueMark). tells m (old m.queue.0)) marks) x ⊎ Contains (tells mark (entry by (step, asked) reply ∷ old queue)) x
    told_or_new there = by_queue (cases_Bool (is_queue queue found.0))
      where
        found : (m : QueueMark) × Contains marks m × Contains (tells m (new m.queue.0)) x
        found = in_some (λ (m : QueueMark). tells m (new m.queue.0)) marks x there

        by_queue : (is_queue queue found.0 ≡ true) ⊎ (is_queue queue found.0 ≡ false)
            → Contains (flat_map (λ (m : QueueMark). tells m (old m.queue.0)) marks) x ⊎ Contains (tells mark (entry by (step, asked) reply ∷ old queue)) x
        by_queue (inl met) =
            let number = eqb-true found.0.queue.0 queue met in
            let same = mark_only marks found.0 once.apart found.1 ∙ ap (mark_among marks) number in
            let here = subst (λ (q : ℕ). Contains (tells found.0 (new q)) x) number found.2 in
            inr (subst (λ (calls : List (Made B)). Contains (tells mark calls) x) once.newest (subst (λ (m : QueueMark). Contains (tells m (new queue)) x) same here))
        by_queue (inr unmet) =
            inl (in_all (λ (m : QueueMark). tells m (old m.queue.0)) marks found.0 x found.1
            (subst (λ (calls : List (Made B)). Contains (tells found.0 calls) x) (once.others found.0.queue.0 (λ e. false≢true (sym unmet ∙ eq-eqb found.0.queue.0 queue e))) found.2))

    -- what those on its queue tell of
    pub told_here : Contains (tells mark (entry by (step, asked) reply ∷ old queue)) x → Contains (flat_map (λ (m : QueueMark). tells m (new m.queue.0)) marks) x
    told_here there =
        let at = mark_there marks queue once.there in
        in_all (λ (m : QueueMark). tells m (new m.queue.0)) marks mark x at.0
        (subst (λ (q : ℕ). Contains (tells mark (new q)) x) (sym at.1) (subst (λ (calls : List (Made B)). Contains (tells mark calls) x) (sym once.newest) there))

    pub told_before : Contains (tells mark (old queue)) x → Contains (flat_map (λ (m : QueueMark). tells m (old m.queue.0)) marks) x
    told_before there =
        let at = mark_there marks queue once.there in
        in_all (λ (m : QueueMark). tells m (old m.queue.0)) marks mark x at.0 (subst (λ (q : ℕ). Contains (tells mark (old q)) x) (sym at.1) there)

    -- what was told of is told of, where it is on its queue
    pub told_still : (Contains (tells mark (old queue)) x → Contains (tells mark (entry by (step, asked) reply ∷ old queue)) x) → Contains (flat_map (λ (m : QueueMark). tells m (old m.queue.0)) marks) x
        → Contains (flat_map (λ (m : QueueMark). tells m (new m.queue.0)) marks) x
    told_still keeps there = by_queue (cases_Bool (is_queue queue found.0))
      where
        found : (m : QueueMark) × Contains marks m × Contains (tells m (old m.queue.0)) x
        found = in_some (λ (m : QueueMark). tells m (old m.queue.0)) marks x there

        by_queue : (is_queue queue found.0 ≡ true) ⊎ (is_queue queue found.0 ≡ false) → Contains (flat_map (λ (m : QueueMark). tells m (new m.queue.0)) marks) x
        by_queue (inl met) =
            let number = eqb-true found.0.queue.0 queue met in
            let same = mark_only marks found.0 once.apart found.1 ∙ ap (mark_among marks) number in
            let here = subst (λ (q : ℕ). Contains (tells found.0 (old q)) x) number found.2 in
            told_here (keeps (subst (λ (m : QueueMark). Contains (tells m (old queue)) x) same here))
        by_queue (inr unmet) =
            in_all (λ (m : QueueMark). tells m (new m.queue.0)) marks found.0 x found.1
            (subst (λ (calls : List (Made B)). Contains (tells found.0 calls) x) (sym (once.others found.0.queue.0 (λ e. false≢true (sym unmet ∙ eq-eqb found.0.queue.0 queue e)))) found.2)

module _ {B : Type 0} (old new : State B) (by queue step : ℕ) (asked : QCall B) (reply : QReply B) (from : BufferOf) (made : PlaceStep old new by queue step asked reply from) where
  abbrev at_mark : QueueMark
  at_mark = mark_among old.marks queue

  abbrev answered : PlainReply
  answered = told_reply at_mark (old.view.calls queue) by asked

  abbrev lies_old : List RightAt
  lies_old = flat_map (λ (m : QueueMark). places_lying m (old.view.calls m.queue.0)) old.marks

  -- what lay in the queue or was brought was there
  was_there : (right : RightAt) → WasIn (places_lying at_mark (old.view.calls queue) ++ brought_at from asked) right → WasAt (places_of old) right
  was_there right was = (was.0, by_place (Contains-append_cases (places_lying at_mark (old.view.calls queue)) (brought_at from asked) was.0 was.1), was.2, was.3)
    where
      by_place : Contains (places_lying at_mark (old.view.calls queue)) was.0 ⊎ Contains (brought_at from asked) was.0 → Contains (places_of old).live was.0
      by_place (inl lay) = Contains-append_left lies_old (places_out old) was.0 (told_before old.marks old.view.calls new.view.calls by queue step asked reply made.call.once places_lying was.0 lay)
      by_place (inr brought) = Contains-append_right lies_old (places_out old) was.0 (made.brought was.0 brought)

  by_call : (right : RightAt) → Contains (places_lying at_mark (entry by (step, asked) reply ∷ old.view.calls queue)) right ⊎ Contains (given_at from asked reply.gives) right
      → WasAt (places_of old) right ⊎ IsNewAt at_mark.queue asked answered right
  by_call right after = elim (call_places at_mark (old.view.calls queue) by step asked reply made.call.once.replied from right after) [
    | inl was ↦ inl (was_there right was)
    | inr new_one ↦ inr new_one
  ]

  out_from : (right : RightAt) → Contains (places_out new) right → Contains (places_out old ++ given_at from asked reply.gives) right
  out_from right there =
      let count = counted_at right (places_out new) there in
      let most = made.held (is_right right) in
      found_right right (places_out old ++ given_at from asked reply.gives) (omega (arith, count, most))

  pub live_from : (right : RightAt) → Contains (places_of new).live right → WasAt (places_of old) right ⊎ IsNewAt at_mark.queue asked answered right
  live_from right there = by_place (Contains-append_cases (flat_map (λ (m : QueueMark). places_lying m (new.view.calls m.queue.0)) new.marks) (places_out new) right there)
    where
      lay : Contains lies_old right ⊎ Contains (places_lying at_mark (entry by (step, asked) reply ∷ old.view.calls queue)) right → WasAt (places_of old) right ⊎ IsNewAt at_mark.queue asked answered right
      lay (inl was) = inl (right, Contains-append_left lies_old (places_out old) right was, refl, refl)
      lay (inr now) = by_call right (inl now)

      out : Contains (places_out old) right ⊎ Contains (given_at from asked reply.gives) right → WasAt (places_of old) right ⊎ IsNewAt at_mark.queue asked answered right
      out (inl was) = inl (right, Contains-append_right lies_old (places_out old) right was, refl, refl)
      out (inr given) = by_call right (inr given)

      by_place : Contains (flat_map (λ (m : QueueMark). places_lying m (new.view.calls m.queue.0)) new.marks) right ⊎ Contains (places_out new) right
          → WasAt (places_of old) right ⊎ IsNewAt at_mark.queue asked answered right
      by_place (inl lies) = lay (told_or_new old.marks old.view.calls new.view.calls by queue step asked reply made.call.once places_lying right
          (subst (λ (ms : List QueueMark). Contains (flat_map (λ (m : QueueMark). places_lying m (new.view.calls m.queue.0)) ms) right) made.call.marks lies))
      by_place (inr held) = out (Contains-append_cases (places_out old) (given_at from asked reply.gives) right (out_from right held))

  pub queued_get : Gets (places_of old).queued (place_written at_mark.queue asked answered) (places_of new).queued
  queued_get = subst (λ (ms : List QueueMark). Gets (places_of old).queued (place_written at_mark.queue asked answered) (flat_map (λ (m : QueueMark). places_written m (new.view.calls m.queue.0)) ms)) (sym made.call.marks)
      (record {
        no_others = λ write there. elim (told_or_new old.marks old.view.calls new.view.calls by queue step asked reply made.call.once places_written write there) [
          | inl was ↦ Contains-append_right (place_written at_mark.queue asked answered) (places_of old).queued write was
          | inr now ↦ elim (Contains-append_cases (place_written at_mark.queue asked answered) (places_written at_mark (old.view.calls queue)) write now) [
            | inl new_one ↦ Contains-append_left (place_written at_mark.queue asked answered) (places_of old).queued write new_one
            | inr was ↦ Contains-append_right (place_written at_mark.queue asked answered) (places_of old).queued write
                (told_before old.marks old.view.calls new.view.calls by queue step asked reply made.call.once places_written write was)
          ]
        ];
        all = λ write there. elim (Contains-append_cases (place_written at_mark.queue asked answered) (places_of old).queued write there) [
          | inl new_one ↦ told_here old.marks old.view.calls new.view.calls by queue step asked reply made.call.once places_written write
              (Contains-append_left (place_written at_mark.queue asked answered) (places_written at_mark (old.view.calls queue)) write new_one)
          | inr was ↦ told_still old.marks old.view.calls new.view.calls by queue step asked reply made.call.once places_written write
              (λ here. Contains-append_right (place_written at_mark.queue asked answered) (places_written at_mark (old.view.calls queue)) write here) was
        ];
      })

  pub made_get : Gets (places_of old).made (made_of asked answered) (places_of new).made
  made_get = subst (λ (ms : List QueueMark). Gets (places_of old).made (made_of asked answered) (all_buffers ms new.view.calls)) (sym made.call.marks)
      (subst (λ (bs : List ℕ). Gets (all_buffers old.marks old.view.calls) bs (all_buffers old.marks new.view.calls)) (move_makes at_mark.queue asked answered)
      (buffers_move old.marks old.view.calls new.view.calls by queue step asked reply made.call.once))

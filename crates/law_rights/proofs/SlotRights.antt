-- The rights that lie in the slots of a queue, after one more call.
use Rattle.std.proofs.Common.{◌≡◌, ℕ, ◌+◌, ◌<◌, ◌≤◌, Bool, true, false, ◌==◌, List, [], ◌∷◌, arith, ap, ◌∙◌, sym, refl, inl, inr, subst, Option, Some, None}
use Rattle.std.specs.Prelude.{if◌then◌else◌}
use Rattle.std.specs.List.{range_with_len, sum_by}
use Rattle.std.proofs.lemmas.Bool.{cases_Bool, eqb-true, eq-eqb, false≢true}
use Rattle.std.proofs.lemmas.List.Sums.{sum_by-cons}
use Rattle.sf_slots.specs.History.{events, events_of, happening}
use Rattle.sf_actor_set.specs.sf_surface.declared.mark.QueueMark.{QueueMark}
use Rattle.sf_actor_set.specs.sf_surface.Calls.{told_call}
use Rattle.sf_actor_set.specs.sf_surface.Histories.{Left, Made, last_left, left_after, left_by, told, told_reply}
use Rattle.sf_actor_set.specs.sf_actor.Rights.{Turn, turn_by}
use Rattle.law_rights.specs.Slots.{is_home_after, lying, lying_in, turn_left}
use Rattle.law_rights.proofs.Homes.{ComeHome, StayHome}
use Rattle.law_rights.proofs.ListSums.{at, range_filled, range_kept, range_taken, sum-flat_map}

module _ (w : Turn → ℕ) where
  abbrev lies : Bool → Option Left → List Turn
  lies home left = if home then turn_left left else []

  one : (turn : Turn) → sum_by w (turn ∷ []) ≡ w turn
  one turn = let cons = sum_by-cons w turn [] in omega (arith, cons)

  lies_kept : (home now : Bool) (left : Option Left) → (now ≡ true → home ≡ true) → sum_by w (lies now left) ≤ sum_by w (lies home left)
  lies_kept home false left stays = omega arith
  lies_kept true true left stays = omega arith
  lies_kept false true left stays = absurd (false≢true (stays refl))

  lies_one : (now : Bool) (left : Left) → sum_by w (lies now (Some left)) ≤ w (turn_by left.turn)
  lies_one false left = omega arith
  lies_one true left = let single = one (turn_by left.turn) in omega (arith, single)

  lies_there : (home : Bool) (left : Option Left) (turn : Turn) → home ≡ true → turn_left left ≡ turn ∷ [] → sum_by w (lies home left) ≡ w turn
  lies_there true left turn there is = ap (sum_by w) is ∙ one turn
  lies_there false left turn there is = absurd (false≢true there)

  lies_gone : (home : Bool) (left : Option Left) → home ≡ false → sum_by w (lies home left) ≡ 0
  lies_gone false left gone = refl
  lies_gone true left gone = absurd (false≢true (sym gone))

module _ {B : Type 0} where
  -- a call adds the events that the history says
  pub events_more : (mark : QueueMark) (made : Made B) (earlier : List (Made B))
      → events (told mark (made ∷ earlier)) ≡ happening (events_of (events (told mark earlier)) (told mark earlier) (told_call mark.queue made.call.1) (told_reply mark earlier made.by made.call.1)) (events (told mark earlier))
  unfolding told
  events_more mark made earlier = refl

  left_more : (made : Made B) (earlier : List (Made B)) (s : ℕ) → last_left (made ∷ earlier) s ≡ left_after (left_by made.call.1 made.reply.gives) (last_left earlier s) s
  unfolding last_left
  left_more made earlier s = refl

  module _ (w : Turn → ℕ) (mark : QueueMark) (made : Made B) (earlier : List (Made B)) where
    abbrev weight : List (Made B) → ℕ → ℕ
    weight calls s = sum_by w (lying_in mark calls s)

    abbrev home : List (Made B) → ℕ → Bool
    home calls s = is_home_after (events (told mark calls)) s

    lying_sum : (calls : List (Made B)) → sum_by w (lying mark calls) ≡ sum_by (weight calls) (range_with_len 0 64)
    unfolding lying
    lying_sum calls = sum-flat_map w (lying_in mark calls) (range_with_len 0 64)

    same_left : left_by made.call.1 made.reply.gives ≡ None → (s : ℕ) → last_left (made ∷ earlier) s ≡ last_left earlier s
    same_left none s = left_more made earlier s ∙ ap (λ (o : Option Left). left_after o (last_left earlier s) s) none

    -- a call that leaves no right
    pub lying_kept : left_by made.call.1 made.reply.gives ≡ None → StayHome (events (told mark earlier)) (events (told mark (made ∷ earlier))) → sum_by w (lying mark (made ∷ earlier)) ≤ sum_by w (lying mark earlier)
    lying_kept none stay =
        let kept = range_kept (weight (made ∷ earlier)) (weight earlier) 64 each in
        let a = lying_sum (made ∷ earlier) in
        let b = lying_sum earlier in
        omega (arith, kept, a, b)
      where
        each : (s : ℕ) → weight (made ∷ earlier) s ≤ weight earlier s
        each s = subst (λ (o : Option Left). sum_by w (if home (made ∷ earlier) s then turn_left o else []) ≤ weight earlier s) (sym (same_left none s))
            (lies_kept w (home earlier s) (home (made ∷ earlier) s) (last_left earlier s) (stay.stays s))

    -- one that leaves a right in a slot
    pub lying_filled : (left : Left) → left_by made.call.1 made.reply.gives ≡ Some left → ComeHome (events (told mark earlier)) (events (told mark (made ∷ earlier))) left.slot
        → sum_by w (lying mark (made ∷ earlier)) ≤ sum_by w (lying mark earlier) + w (turn_by left.turn)
    lying_filled left some come =
        let filled = range_filled (weight (made ∷ earlier)) (weight earlier) left.slot (w (turn_by left.turn)) 64 each in
        let a = lying_sum (made ∷ earlier) in
        let b = lying_sum earlier in
        omega (arith, filled, a, b)
      where
        now : (s : ℕ) → last_left (made ∷ earlier) s ≡ (if left.slot == s then Some left else last_left earlier s)
        now s = left_more made earlier s ∙ ap (λ (o : Option Left). left_after o (last_left earlier s) s) some

        elsewhere : (s : ℕ) → (left.slot == s) ≡ false → home (made ∷ earlier) s ≡ true → home earlier s ≡ true
        elsewhere s apart here = elim (come.stays s here) [
          | inl same ↦ absurd (false≢true (sym apart ∙ eq-eqb left.slot s (sym same)))
          | inr was ↦ was
        ]

        each : (s : ℕ) → weight (made ∷ earlier) s ≤ weight earlier s + at left.slot (w (turn_by left.turn)) s
        each s = elim (cases_Bool (left.slot == s)) [
          | inl met ↦
              let is : last_left (made ∷ earlier) s ≡ Some left = now s ∙ rw met refl in
              let most = lies_one w (home (made ∷ earlier) s) left in
              let amount : at left.slot (w (turn_by left.turn)) s ≡ w (turn_by left.turn) = rw met refl in
              subst (λ (o : Option Left). sum_by w (if home (made ∷ earlier) s then turn_left o else []) ≤ weight earlier s + at left.slot (w (turn_by left.turn)) s) (sym is) (omega (arith, most, amount))
          | inr unmet ↦
              let is : last_left (made ∷ earlier) s ≡ last_left earlier s = now s ∙ rw unmet refl in
              let kept = lies_kept w (home earlier s) (home (made ∷ earlier) s) (last_left earlier s) (elsewhere s unmet) in
              subst (λ (o : Option Left). sum_by w (if home (made ∷ earlier) s then turn_left o else []) ≤ weight earlier s + at left.slot (w (turn_by left.turn)) s) (sym is) (omega (arith, kept))
        ]

    -- one that gives the right in a slot away
    pub lying_taken : (slot : ℕ) (turn : Turn) → slot < 64 → left_by made.call.1 made.reply.gives ≡ None → StayHome (events (told mark earlier)) (events (told mark (made ∷ earlier)))
        → home earlier slot ≡ true → home (made ∷ earlier) slot ≡ false → turn_left (last_left earlier slot) ≡ turn ∷ []
        → sum_by w (lying mark (made ∷ earlier)) + w turn ≤ sum_by w (lying mark earlier)
    lying_taken slot turn low none stay was gone is =
        let taken = range_taken (weight (made ∷ earlier)) (weight earlier) slot (w turn) 64 low each in
        let a = lying_sum (made ∷ earlier) in
        let b = lying_sum earlier in
        omega (arith, taken, a, b)
      where
        each : (s : ℕ) → weight (made ∷ earlier) s + at slot (w turn) s ≤ weight earlier s
        each s = elim (cases_Bool (slot == s)) [
          | inl met ↦
              let same = eqb-true slot s met in
              let amount : at slot (w turn) s ≡ w turn = rw met refl in
              let none_now : weight (made ∷ earlier) s ≡ 0 = lies_gone w (home (made ∷ earlier) s) (last_left (made ∷ earlier) s) (subst (λ (t : ℕ). home (made ∷ earlier) t ≡ false) same gone) in
              let before : weight earlier s ≡ w turn = lies_there w (home earlier s) (last_left earlier s) turn (subst (λ (t : ℕ). home earlier t ≡ true) same was) (subst (λ (t : ℕ). turn_left (last_left earlier t) ≡ turn ∷ []) same is) in
              omega (arith, amount, none_now, before)
          | inr unmet ↦
              let amount : at slot (w turn) s ≡ 0 = rw unmet refl in
              let kept = lies_kept w (home earlier s) (home (made ∷ earlier) s) (last_left earlier s) (stay.stays s) in
              subst (λ (o : Option Left). sum_by w (if home (made ∷ earlier) s then turn_left o else []) + at slot (w turn) s ≤ weight earlier s) (sym (same_left none s)) (omega (arith, amount, kept))
        ]

-- Slots that may not be used are free, so those that may are all that count in another state.
use Rattle.std.proofs.Common.{◌≡◌, ℕ, ◌+◌, ◌<◌, ◌≤◌, ◌&&◌, suc, zero, false, true, Bool, not, if◌then◌else◌, nat_lt, is_some, List, [], ◌∷◌, length, get_or, take, refl, sym, ap, ◌∙◌, arith}
use Rattle.std.specs.Prelude.{count_by}
use Rattle.std.proofs.Math.Seq.{take-length}
use Rattle.std.proofs.lemmas.List.{length-take}
use Rattle.std.proofs.lemmas.Bool.Decides.{nat_tests}
use Rattle.std.proofs.lemmas.List.Sums.{count_by-le-length, sum_by-cons}
use Rattle.sf_slots.specs.Queue.{Queue, IsSound, slot_in, told_of}
use Rattle.sf_slots.specs.Told.{unused, usable, count_in, is_in, same_state}
use Rattle.sf_slots.specs.declared.slot.SlotState.{SlotState}
use Rattle.sf_slots.specs.declared.slot.SlotState.TheVariants.{Free, Dequeued, Queued, Acquired}

-- what an element adds to a count
abbrev counted : Bool → ℕ
counted b = if b then 1 else 0

-- where a test fails from a place on, none after it counts
none_after : {A : Type 0} (p : A → Bool) (xs : List A) (n : ℕ) (d : A) → ((i : ℕ) → n ≤ i → i < length xs → p (get_or xs i d) ≡ false) → count_by p xs ≡ count_by p (take n xs)
none_after p [] zero d fails = refl
none_after p [] (suc n) d fails = refl
none_after p (x ∷ xs) zero d fails =
    let here : p x ≡ false = fails zero (omega arith) (omega arith) in
    let none : counted (p x) ≡ 0 = ap counted here in
    let rest : count_by p xs ≡ count_by p (take zero xs) = none_after p xs zero d (λ i from low. fails (suc i) (omega arith) (omega (arith, low))) in
    let nothing : count_by p (take zero xs) ≡ 0 = refl in
    let more : count_by p (x ∷ xs) ≡ counted (p x) + count_by p xs = sum_by-cons (λ y. counted (p y)) x xs in
    omega (arith, none, rest, nothing, more)
none_after p (x ∷ xs) (suc n) d fails =
    sum_by-cons (λ y. counted (p y)) x xs
    ∙ (ap (λ (k : ℕ). counted (p x) + k) (none_after p xs n d (λ i from low. fails (suc i) (omega (arith, from)) (omega (arith, low))))
    ∙ sym (sum_by-cons (λ y. counted (p y)) x (take n xs)))

other_state : (here state : SlotState) → same_state here Free ≡ true → (state ≡ Free → ⊥) → same_state here state ≡ false
other_state Free Free is other = absurd (other refl)
other_state Free Dequeued is other = refl
other_state Free Queued is other = refl
other_state Free Acquired is other = refl
other_state Dequeued state is other = cc
other_state Queued state is other = cc
other_state Acquired state is other = cc

left_of : (a b : Bool) → (a && b) ≡ true → a ≡ true
left_of true b h = refl
left_of false b h = cc

-- how many slots are in a state other than free
pub count_usable : {R : Type 0} (q : Queue R) (state : SlotState) → IsSound q → (state ≡ Free → ⊥) → count_by (is_in state) (take (usable q.settings) q.slots) ≡ count_in state (told_of q)
count_usable q state sound other =
    sym (none_after (is_in state) q.slots (usable q.settings) unused (λ i from low.
    let kept = sound.each i (omega (arith, low, sound.sized)) in
    let out : nat_lt i (usable q.settings) ≡ false = grind (arith, nat_tests, from) in
    other_state (slot_in q i).state state (left_of (is_in Free (slot_in q i)) (not (is_some (slot_in q i).held)) (kept.outside out)) other))

-- of the first so many elements at most so many count
pub count_few : {A : Type 0} (p : A → Bool) (xs : List A) (n : ℕ) → count_by p (take n xs) ≤ n
count_few p xs n =
    let few = count_by-le-length p (take n xs) in
    let some : length (take n xs) ≤ n = simp length-take (omega arith) in
    omega (arith, few, some)

-- and how many are free
pub count_all : {R : Type 0} (q : Queue R) (state : SlotState) → IsSound q → count_by (is_in state) (take 64 q.slots) ≡ count_in state (told_of q)
count_all q state sound =
    let whole : take 64 q.slots ≡ q.slots = ap (λ (n : ℕ). take n q.slots) (sym sound.sized) ∙ take-length q.slots in
    ap (count_by (is_in state)) whole

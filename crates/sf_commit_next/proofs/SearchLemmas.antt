-- Looks whose numbers rise are found by halving.
use Rattle.std.proofs.Common.{◌≡◌, ℕ, zero, suc, ◌<◌, ◌≤◌, ltb, Bool, true, false, List, [], ◌∷◌, length, get_or, Some, None, refl, ap, sym, subst, arith}
use Rattle.std.specs.Prelude.{◌==◌}
use Rattle.std.specs.Cmp.{ranks}
use Rattle.std.specs.List.{All, find}
use Rattle.std.specs.List.Sorted.{IsNonDecreasingBy, IsPartitionPoint}
use Rattle.std.specs.Option.{option_map_or}
use Rattle.std.specs.Ordering.{MatchOrdering, nat_cmp, ordering_index}
use Rattle.std.specs.declared.cmp.Ordering.{Ordering}
use Rattle.std.specs.declared.cmp.Ordering.TheVariants.{Equal, Greater, Less}
use Rattle.std.proofs.lemmas.Bool.{eq-eqb, ltb-false, ltb-true, ne_eqb}
use Rattle.std.proofs.lemmas.List.Elements.{All-cons, All-nil, All-weaker}
use Rattle.sf_token.specs.declared.looks.Looks.{Looks}
use Rattle.sf_commit_next.specs.Next.{AreRising, drawn_for}

index_rises : (a b n : ℕ) → a ≤ b → ordering_index (nat_cmp a n) ≤ ordering_index (nat_cmp b n)
index_rises a b n le = by_rank (nat_cmp a n) (nat_cmp b n) (ranks a n) (ranks b n)
  where
    by_rank : (r s : Ordering) → MatchOrdering r (a < n) (a ≡ n) (n < a) → MatchOrdering s (b < n) (b ≡ n) (n < b) → ordering_index r ≤ ordering_index s
    by_rank Less s p q = omega arith
    by_rank Equal Less p q = absurd (omega (arith, le, p, q))
    by_rank Equal Equal p q = omega arith
    by_rank Equal Greater p q = omega arith
    by_rank Greater Less p q = absurd (omega (arith, le, p, q))
    by_rank Greater Equal p q = absurd (omega (arith, le, p, q))
    by_rank Greater Greater p q = omega arith

all_above : (before : ℕ) (looks : List Looks) → AreRising before looks → All (λ (look : Looks). before < look.number) looks
all_above before [] rising = All-nil (λ (look : Looks). before < look.number)
all_above before (x ∷ xs) rising =
    let first = rising.0 in
    All-cons (λ (look : Looks). before < look.number) x xs first
    (All-weaker (λ (look : Looks). x.number < look.number) (λ (look : Looks). before < look.number) (λ look more. omega (arith, more, first)) xs (all_above x.number xs rising.1))

-- a later one has no lesser number
in_order : (before : ℕ) (looks : List Looks) → AreRising before looks → (i j : ℕ) (d : Looks) → i ≤ j → j < length looks → (get_or looks i d).number ≤ (get_or looks j d).number
in_order before [] rising i j d le less = absurd (omega (arith, less))
in_order before (x ∷ xs) rising zero zero d le less = omega arith
in_order before (x ∷ xs) rising zero (suc j) d le less = let more = all_above x.number xs rising.1 j d (omega (arith, less)) in omega (arith, more)
in_order before (x ∷ xs) rising (suc i) zero d le less = absurd (omega (arith, le))
in_order before (x ∷ xs) rising (suc i) (suc j) d le less = in_order x.number xs rising.1 i j d (omega (arith, le)) (omega (arith, less))

pub in_order_by : (number : ℕ) (looks : List Looks) → AreRising 0 looks → IsNonDecreasingBy (λ (look : Looks). ordering_index (nat_cmp look.number number)) looks
in_order_by number looks rising i j d le less = index_rises (get_or looks i d).number (get_or looks j d).number number (in_order 0 looks rising i j d le less)

-- one with the number is found
pub found_there : (number before : ℕ) (looks : List Looks) (i : ℕ) (d : Looks) → AreRising before looks → i < length looks → (get_or looks i d).number ≡ number
    → find (λ (look : Looks). look.number == number) looks ≡ Some (get_or looks i d)
found_there number before [] i d rising less same = absurd (omega (arith, less))
found_there number before (x ∷ xs) zero d rising less same = rw (eq-eqb x.number number same) refl
found_there number before (x ∷ xs) (suc i) d rising less same =
    let more = all_above x.number xs rising.1 i d (omega (arith, less)) in
    rw (ne_eqb x.number number (λ e. omega (arith, more, e, same))) (found_there number x.number xs i d rising.1 (omega (arith, less)) same)

-- none is found where none has it
pub found_nowhere : (number : ℕ) (looks : List Looks) → ((k : ℕ) (d : Looks) → k < length looks → (get_or looks k d).number ≡ number → ⊥)
    → find (λ (look : Looks). look.number == number) looks ≡ None
found_nowhere number [] none = refl
found_nowhere number (x ∷ xs) none =
    rw (ne_eqb x.number number (none 0 x (omega arith))) (found_nowhere number xs (λ k d less. none (suc k) d (omega (arith, less))))

-- what the search by halving finds
pub halved_found : (number : ℕ) (looks : List Looks) → AreRising 0 looks → (i : ℕ) (d : Looks) → i < length looks → nat_cmp (get_or looks i d).number number ≡ Equal
    → (get_or looks i d).drawn ≡ drawn_for looks number
halved_found number looks rising i d less e =
    let same : (get_or looks i d).number ≡ number = subst (λ r. MatchOrdering r ((get_or looks i d).number < number) ((get_or looks i d).number ≡ number) (number < (get_or looks i d).number)) e (ranks (get_or looks i d).number number) in
    sym (ap (λ o. option_map_or (λ (look : Looks). look.drawn) o []) (found_there number 0 looks i d rising less same))

pub halved_none : (number : ℕ) (looks : List Looks) → AreRising 0 looks → (i : ℕ)
    → (IsNonDecreasingBy (λ (look : Looks). ordering_index (nat_cmp look.number number)) looks
    → IsPartitionPoint (λ (look : Looks). nat_cmp look.number number ≡ Less) (λ (look : Looks). nat_cmp look.number number ≡ Greater) looks i)
    → [] ≡ drawn_for looks number
halved_none number looks rising i parts =
    let point = parts (in_order_by number looks rising) in
    sym (ap (λ o. option_map_or (λ (look : Looks). look.drawn) o []) (found_nowhere number looks (λ k d less same. apart k d less same point (ltb k i) refl)))
  where
    apart : (k : ℕ) (d : Looks) → k < length looks → (get_or looks k d).number ≡ number
        → IsPartitionPoint (λ (look : Looks). nat_cmp look.number number ≡ Less) (λ (look : Looks). nat_cmp look.number number ≡ Greater) looks i
        → (b : Bool) → ltb k i ≡ b → ⊥
    apart k d less same point true e =
        let before = subst (λ r. MatchOrdering r ((get_or looks k d).number < number) ((get_or looks k d).number ≡ number) (number < (get_or looks k d).number)) (point.0 k d (omega arith) (ltb-true k i e)) (ranks (get_or looks k d).number number) in
        omega (arith, before, same)
    apart k d less same point false e =
        let behind = subst (λ r. MatchOrdering r ((get_or looks k d).number < number) ((get_or looks k d).number ≡ number) (number < (get_or looks k d).number)) (point.1 k d (ltb-false k i e) less) (ranks (get_or looks k d).number number) in
        omega (arith, behind, same)

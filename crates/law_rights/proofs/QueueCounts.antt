-- What is counted over all queues, where the calls on one of them changed.
use Rattle.std.proofs.Common.{◌≡◌, ℕ, ◌+◌, ◌≤◌, ◌⊎◌, ◌==◌, true, false, List, [], ◌∷◌, arith, ap, sym, refl, inl, inr, subst}
use Rattle.std.specs.Prelude.{Contains}
use Rattle.std.specs.List.{flat_map, list_any, sum_by}
use Rattle.std.proofs.lemmas.Bool.{cases_Bool, eqb-true, false≢true, or_parts}
use Rattle.std.proofs.lemmas.List.Elements.{Contains-append_cases, Contains-append_left, Contains-append_right}
use Rattle.std.proofs.lemmas.List.Sums.{sum_by-cons}
use Rattle.sf_actor_set.specs.sf_surface.declared.mark.QueueMark.{QueueMark}
use Rattle.sf_actor_set.specs.sf_actor.Desks.{mark_among}
use Rattle.law_rights.specs.States.{AreApart, is_queue}
use Rattle.law_rights.proofs.TurnCounts.{first, in_front, later, none_in}

module _ {X A : Type 0} where
  -- an item of a list of lists is in one of them
  pub in_some : (f : X → List A) (xs : List X) (y : A) → Contains (flat_map f xs) y → (x : X) × Contains xs x × Contains (f x) y
  in_some f [] y there = absurd (none_in y there)
  in_some f (x ∷ xs) y there = by_place (Contains-append_cases (f x) (flat_map f xs) y there) (in_some f xs y)
    where
      by_place : Contains (f x) y ⊎ Contains (flat_map f xs) y → (Contains (flat_map f xs) y → (z : X) × Contains xs z × Contains (f z) y) → (z : X) × Contains (x ∷ xs) z × Contains (f z) y
      by_place (inl here) further = (x, first x xs, here)
      by_place (inr rest) further = let found = further rest in (found.0, later x found.0 xs found.1, found.2)

  pub in_all : (f : X → List A) (xs : List X) (x : X) (y : A) → Contains xs x → Contains (f x) y → Contains (flat_map f xs) y
  in_all f [] x y there here = absurd (none_in x there)
  in_all f (z ∷ xs) x y there here = by_place (in_front z x xs there) (λ rest. in_all f xs x y rest here)
    where
      by_place : (z ≡ x) ⊎ Contains xs x → (Contains xs x → Contains (flat_map f xs) y) → Contains (flat_map f (z ∷ xs)) y
      by_place (inl same) further = Contains-append_left (f z) (flat_map f xs) y (subst (λ (x : X). Contains (f x) y) (sym same) here)
      by_place (inr rest) further = Contains-append_right (f z) (flat_map f xs) y (further rest)

-- where no mark has the number, nothing changed
none_moved : (f g : QueueMark → ℕ) (queue : ℕ) → ((m : QueueMark) → is_queue queue m ≡ false → f m ≤ g m) → (marks : List QueueMark) → list_any (is_queue queue) marks ≡ false → sum_by f marks ≤ sum_by g marks
none_moved f g queue others [] none = omega arith
none_moved f g queue others (m ∷ marks) none =
    let parts = or_parts (is_queue queue m) (list_any (is_queue queue) marks) none in
    let here = others m parts.0 in
    let rest = none_moved f g queue others marks parts.1 in
    let a = sum_by-cons f m marks in
    let b = sum_by-cons g m marks in
    omega (arith, here, rest, a, b)

-- of all queues one changed
pub marks_moved : (f g : QueueMark → ℕ) (queue more less : ℕ) (marks : List QueueMark) → AreApart marks → list_any (is_queue queue) marks ≡ true → ((m : QueueMark) → is_queue queue m ≡ false → f m ≤ g m)
    → f (mark_among marks queue) + less ≤ g (mark_among marks queue) + more → sum_by f marks + less ≤ sum_by g marks + more
marks_moved f g queue more less [] apart there others one = absurd (false≢true there)
marks_moved f g queue more less (m ∷ marks) apart there others one = by_mark (cases_Bool (is_queue queue m)) (marks_moved f g queue more less marks apart.1)
  where
    a : sum_by f (m ∷ marks) ≡ f m + sum_by f marks
    a = sum_by-cons f m marks

    b : sum_by g (m ∷ marks) ≡ g m + sum_by g marks
    b = sum_by-cons g m marks

    by_mark : (is_queue queue m ≡ true) ⊎ (is_queue queue m ≡ false)
        → (list_any (is_queue queue) marks ≡ true → ((m : QueueMark) → is_queue queue m ≡ false → f m ≤ g m) → f (mark_among marks queue) + less ≤ g (mark_among marks queue) + more → sum_by f marks + less ≤ sum_by g marks + more)
        → sum_by f (m ∷ marks) + less ≤ sum_by g (m ∷ marks) + more
    by_mark (inl met) further =
        let same : m.queue.0 ≡ queue = eqb-true m.queue.0 queue met in
        let none : list_any (is_queue queue) marks ≡ false = subst (λ (q : ℕ). list_any (is_queue q) marks ≡ false) same apart.0 in
        let rest = none_moved f g queue others marks none in
        let here : f m + less ≤ g m + more = subst (λ (mark : QueueMark). f mark + less ≤ g mark + more) (rw met refl) one in
        omega (arith, rest, here, a, b)
    by_mark (inr unmet) further =
        let here = others m unmet in
        let rest = further (rw unmet at there) others (subst (λ (mark : QueueMark). f mark + less ≤ g mark + more) (rw unmet refl) one) in
        omega (arith, rest, here, a, b)

-- the mark of a queue is one of the marks, and has its number
pub mark_there : (marks : List QueueMark) (queue : ℕ) → list_any (is_queue queue) marks ≡ true → Contains marks (mark_among marks queue) × ((mark_among marks queue).queue.0 ≡ queue)
mark_there [] queue there = absurd (false≢true there)
mark_there (m ∷ marks) queue there = by_mark (cases_Bool (is_queue queue m)) (mark_there marks queue)
  where
    by_mark : (is_queue queue m ≡ true) ⊎ (is_queue queue m ≡ false) → (list_any (is_queue queue) marks ≡ true → Contains marks (mark_among marks queue) × ((mark_among marks queue).queue.0 ≡ queue))
        → Contains (m ∷ marks) (mark_among (m ∷ marks) queue) × ((mark_among (m ∷ marks) queue).queue.0 ≡ queue)
    by_mark (inl met) further = rw met (first m marks, eqb-true m.queue.0 queue met)
    by_mark (inr unmet) further = let rest = further (rw unmet at there) in rw unmet (later m (mark_among marks queue) marks rest.0, rest.1)

-- and no other mark has it
pub mark_only : (marks : List QueueMark) (m : QueueMark) → AreApart marks → Contains marks m → m ≡ mark_among marks m.queue.0
mark_only [] m apart there = absurd (none_in m there)
mark_only (n ∷ marks) m apart there = by_place (in_front n m marks there) (mark_only marks m apart.1)
  where
    absent : (rest : List QueueMark) → list_any (is_queue n.queue.0) rest ≡ false → Contains rest m → (n.queue.0 == m.queue.0) ≡ false
    absent [] none there = absurd (none_in m there)
    absent (o ∷ rest) none there =
        let parts = or_parts (is_queue n.queue.0 o) (list_any (is_queue n.queue.0) rest) none in
        at_place (in_front o m rest there) parts.0 (absent rest parts.1)
      where
        at_place : (o ≡ m) ⊎ Contains rest m → (o.queue.0 == n.queue.0) ≡ false → (Contains rest m → (n.queue.0 == m.queue.0) ≡ false) → (n.queue.0 == m.queue.0) ≡ false
        at_place (inl same) unmet further = let e = ap (λ (x : QueueMark). x.queue.0) same in grind (arith, unmet, e)
        at_place (inr later_on) unmet further = further later_on

    by_place : (n ≡ m) ⊎ Contains marks m → (Contains marks m → m ≡ mark_among marks m.queue.0) → m ≡ mark_among (n ∷ marks) m.queue.0
    by_place (inl same) further = let met : (n.queue.0 == m.queue.0) ≡ true = itself same in rw met (sym same)
      where
        itself : n ≡ m → (n.queue.0 == m.queue.0) ≡ true
        itself same = let e = ap (λ (x : QueueMark). x.queue.0) same in grind (arith, e)
    by_place (inr rest) further = rw (absent marks apart.0 rest) (further rest)

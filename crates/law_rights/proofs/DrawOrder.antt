-- The draws of one actor come in the order of their turns.
use Rattle.std.proofs.Common.{◌≡◌, ℕ, zero, suc, ◌+◌, ◌≤◌, ◌<◌, ◌⊎◌, List, [], ◌∷◌, ◌++◌, arith, ap, sym, inl, inr, subst, Option, Some}
use Rattle.std.specs.Prelude.{AllPairs, Contains, option_to_list}
use Rattle.std.specs.List.{flat_map}
use Rattle.std.proofs.lemmas.List.Elements.{All-contains, Contains-append_right}
use Rattle.sf_actor_set.specs.sf_actor.declared.done.Done.{Done}
use Rattle.sf_actor_set.specs.sf_actor.Draws.{DrawInTurn, IsInOrder, entered_at}
use Rattle.sf_actor_set.specs.sf_actor.Known.{Share}
use Rattle.sf_actor_set.specs.sf_actor.Traces.{DoneAt, Past, next, no_past, places_from, places_of}
use Rattle.law_rights.proofs.TurnCounts.{first, in_front, none_in}
use Rattle.law_rights.proofs.QueueCounts.{in_all}

pub places_late : (place : ℕ) (past : Past) (trace : List Done) (at : DoneAt) → Contains (places_from place past trace) at → place ≤ at.place
unfolding places_from
places_late place past [] at there = absurd (none_in at there)
places_late place past (done ∷ trace) at there =
    by_place (in_front (record { place = place; past = past; done = done }) at (places_from (place + 1) (next place past done) trace) there) (places_late (place + 1) (next place past done) trace at)
  where
    by_place : (record { place = place; past = past; done = done } ≡ at) ⊎ Contains (places_from (place + 1) (next place past done) trace) at
        → (Contains (places_from (place + 1) (next place past done) trace) at → place + 1 ≤ at.place) → place ≤ at.place
    by_place (inl same) further = let e = ap (λ (a : DoneAt). a.place) same in omega (arith, e)
    by_place (inr rest) further = let more = further rest in omega (arith, more)

module _ {X : Type 0} (R : X → X → Type 0) where
  -- one of the front and one behind it
  pairs_behind : (x : X) (xs : List X) → AllPairs R (x ∷ xs) → AllPairs R xs
  pairs_behind x xs all i j d less within = all (suc i) (suc j) d (omega (arith, less)) (omega (arith, within))

  pairs_head : (x : X) (xs : List X) (y : X) → AllPairs R (x ∷ xs) → Contains xs y → R x y
  pairs_head x xs y all there = All-contains (R x) xs y (λ k d within. all zero (suc k) d (omega arith) (omega (arith, within))) there

  later_pairs : (xs ys : List X) → AllPairs R (xs ++ ys) → AllPairs R ys
  later_pairs [] ys all = all
  later_pairs (x ∷ xs) ys all = later_pairs xs ys (pairs_behind x (xs ++ ys) all)

  across : (xs ys : List X) (x y : X) → AllPairs R (xs ++ ys) → Contains xs x → Contains ys y → R x y
  across [] ys x y all here there = absurd (none_in x here)
  across (z ∷ xs) ys x y all here there = by_place (in_front z x xs here) (λ rest. across xs ys x y (pairs_behind z (xs ++ ys) all) rest there)
    where
      by_place : (z ≡ x) ⊎ Contains xs x → (Contains xs x → R x y) → R x y
      by_place (inl same) further = subst (λ (w : X). R w y) same (pairs_head z (xs ++ ys) y all (Contains-append_right xs ys y there))
      by_place (inr rest) further = further rest

  in_order : (f : DoneAt → List X) (place : ℕ) (past : Past) (trace : List Done) → AllPairs R (flat_map f (places_from place past trace)) → (one other : DoneAt) → Contains (places_from place past trace) one
      → Contains (places_from place past trace) other → one.place < other.place → (x y : X) → Contains (f one) x → Contains (f other) y → R x y
  unfolding places_from
  in_order f place past [] all one other here there less x y of_one of_other = absurd (none_in one here)
  in_order f place past (done ∷ trace) all one other here there less x y of_one of_other =
      by_place (in_front at one rest here) (in_front at other rest there) (λ a b. in_order f (place + 1) (next place past done) trace (later_pairs (f at) (flat_map f rest) all) one other a b less x y of_one of_other)
    where
      at : DoneAt
      at = record { place = place; past = past; done = done }

      rest : List DoneAt
      rest = places_from (place + 1) (next place past done) trace

      by_place : (at ≡ one) ⊎ Contains rest one → (at ≡ other) ⊎ Contains rest other → (Contains rest one → Contains rest other → R x y) → R x y
      by_place (inl same) (inl both) further =
          let a = ap (λ (w : DoneAt). w.place) same in
          let b = ap (λ (w : DoneAt). w.place) both in
          absurd (omega (arith, less, a, b))
      by_place (inl same) (inr later) further = across (f at) (flat_map f rest) x y all (subst (λ (w : DoneAt). Contains (f w) x) (sym same) of_one) (in_all f rest other y later of_other)
      by_place (inr later) (inl both) further =
          let a = places_late (place + 1) (next place past done) trace one later in
          let b = ap (λ (w : DoneAt). w.place) both in
          absurd (omega (arith, less, a, b))
      by_place (inr later) (inr both) further = further later both

module _ {B : Type 0} where
  pub draws_rise : (share : Share B) (trace : List Done) → DrawInTurn share trace → (one other : DoneAt) → Contains (places_of trace) one → Contains (places_of trace) other → one.place < other.place
      → (place later : ℕ) → entered_at one ≡ Some place → entered_at other ≡ Some later → IsInOrder share.calls place later
  draws_rise share trace turns one other here there less place later of_one of_other =
      in_order (IsInOrder share.calls) (λ (at : DoneAt). option_to_list (entered_at at)) 1 no_past trace turns.order one other here there less place later
      (subst (λ (o : Option ℕ). Contains (option_to_list o) place) (sym of_one) (first place [])) (subst (λ (o : Option ℕ). Contains (option_to_list o) later) (sym of_other) (first later []))

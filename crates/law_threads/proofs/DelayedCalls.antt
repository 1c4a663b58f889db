-- A call that another makes for a caller, put among what the caller has yet to do by its stamp.
use Rattle.std.proofs.Common.{◌≡◌, ℕ, ◌+◌, ◌<◌, ◌≤◌, ◌⊎◌, true, false, List, [], ◌∷◌, ◌++◌, arith, ap, ◌∙◌, sym, refl, inl, inr, subst, map, Option, Some, None}
use Rattle.std.specs.Prelude.{Contains, if◌then◌else◌}
use Rattle.std.proofs.lemmas.Bool.{cases_Bool, eq-eqb, false≢true, ltb-false, ltb-true, or_parts}
use Rattle.std.proofs.lemmas.List.Elements.{Contains-append_cases, Contains-append_left, Contains-append_right, Contains-push, Contains-push_cases}
use Rattle.law_threads.specs.Delays.{delayed, is_above, is_below, some_above, some_below}
use Rattle.law_threads.specs.Orders.{ComesFirst, IsInTurn, Spot, events_in, is_spot, times_at}
use Rattle.law_threads.proofs.LeastStamp.{times_joined}

same_some : {A : Type 0} (x y : A) → Some x ≡ Some y → x ≡ y
same_some x y same = cc

none_some : {A : Type 0} (x : A) → None ≡ Some x → ⊥
none_some x same = absurd (cc same)

module _ {A : Type 0} where
  none_in : (y : A) → Contains [] y → ⊥
  none_in y there = omega (arith, there.1)

  in_front : (x y : A) (xs : List A) → Contains (x ∷ xs) y → (x ≡ y) ⊎ Contains xs y
  in_front x y xs there = elim (Contains-append_cases (x ∷ []) xs y there) [
    | inl first ↦ elim (Contains-push_cases [] x y first) [
      | inl none ↦ absurd (none_in y none)
      | inr same ↦ inl same
    ]
    | inr later ↦ inr later
  ]

  pub here_first : (x : A) (xs : List A) → Contains (x ∷ xs) x
  here_first x xs = Contains-append_left (x ∷ []) xs x (Contains-push [] x)

  pub behind : (x y : A) (xs : List A) → Contains xs y → Contains (x ∷ xs) y
  behind x y xs there = Contains-append_right (x ∷ []) xs y there

-- an event that is there is counted
pub times_there : {A : Type 0} (spot : A → Option Spot) (here : Spot) (event : A) (block : List A) → Contains block event → spot event ≡ Some here → 1 ≤ times_at spot here block
times_there spot here event [] there is = absurd (none_in event there)
times_there spot here event (x ∷ block) there is = by_place (in_front x event block there) (λ (further : Contains block event). times_there spot here event block further is)
  where
    at_it : is_spot here (spot x) ≡ true → 1 ≤ times_at spot here (x ∷ block)
    at_it met = rw met (omega arith)

    by_place : (x ≡ event) ⊎ Contains block event → (Contains block event → 1 ≤ times_at spot here block) → 1 ≤ times_at spot here (x ∷ block)
    by_place (inl it) further = at_it (ap (is_spot here) (ap spot it ∙ is) ∙ rw (eq-eqb here.0 here.0 refl, eq-eqb here.1 here.1 refl) refl)
    by_place (inr later) further = let rest = further later in omega (arith, rest)

module _ {A : Type 0} (spot : A → Option Spot) (stamp : Spot → ℕ) (meanwhile : A → A) (same : (e : A) → spot (meanwhile e) ≡ spot e) where
  -- calls are as often there meanwhile
  times_meanwhile : (here : Spot) (block : List A) → times_at spot here (map meanwhile block) ≡ times_at spot here block
  times_meanwhile here [] = refl
  times_meanwhile here (e ∷ block) =
      let rest = times_meanwhile here block in
      ap (λ (o : Option Spot). (if is_spot here o then 1 else 0) + times_at spot here (map meanwhile block)) (same e) ∙ ap (λ (n : ℕ). (if is_spot here (spot e) then 1 else 0) + n) rest

  pub times_delayed : (event : A) (n : ℕ) (rest : List (List A)) (here : Spot)
      → times_at spot here (events_in spot (delayed spot stamp meanwhile event n rest)) ≡ times_at spot here (events_in spot rest) + times_at spot here (event ∷ [])
  unfolding delayed
  times_delayed event n [] here = omega arith
  times_delayed event n (block ∷ later) here = by_above (cases_Bool (some_above spot stamp meanwhile n block)) (times_delayed event n later here)
    where
      by_above : (some_above spot stamp meanwhile n block ≡ true) ⊎ (some_above spot stamp meanwhile n block ≡ false)
          → times_at spot here (events_in spot (delayed spot stamp meanwhile event n later)) ≡ times_at spot here (events_in spot later) + times_at spot here (event ∷ [])
          → times_at spot here (events_in spot (delayed spot stamp meanwhile event n (block ∷ later))) ≡ times_at spot here (block ++ events_in spot later) + times_at spot here (event ∷ [])
      by_above (inl met) rest = elim (cases_Bool (some_below spot stamp meanwhile n block)) [
        | inl below ↦ rw (met, below) (omega arith)
        | inr none ↦ rw (met, none) (omega arith)
      ]
      by_above (inr unmet) rest =
          let a = times_joined spot here (map meanwhile block) (events_in spot (delayed spot stamp meanwhile event n later)) in
          let b = times_joined spot here block (events_in spot later) in
          let c = times_meanwhile here block in
          rw unmet (omega (arith, rest, a, b, c))

  -- an event of a block that has none above
  pub not_above : (n : ℕ) (block : List A) → some_above spot stamp meanwhile n block ≡ false → (e : A) → Contains block e → (at : Spot) → spot e ≡ Some at → stamp at ≤ n
  not_above n [] none e there at is = absurd (none_in e there)
  not_above n (x ∷ block) none e there at is =
      let parts = or_parts (is_above stamp n (spot x)) (some_above spot stamp meanwhile n block) none in
      elim (in_front x e block there) [
        | inl it ↦
            ltb-false n (stamp at) (ap (is_above stamp n) (sym (ap spot it ∙ is)) ∙ parts.0)
        | inr further ↦ not_above n block parts.1 e further at is
      ]

  not_below : (n : ℕ) (block : List A) → some_below spot stamp meanwhile n block ≡ false → (e : A) → Contains block e → (at : Spot) → spot e ≡ Some at → n ≤ stamp at
  not_below n [] none e there at is = absurd (none_in e there)
  not_below n (x ∷ block) none e there at is =
      let parts = or_parts (is_below stamp n (spot x)) (some_below spot stamp meanwhile n block) none in
      elim (in_front x e block there) [
        | inl it ↦ ltb-false (stamp at) n (ap (is_below stamp n) (sym (ap spot it ∙ is)) ∙ parts.0)
        | inr further ↦ not_below n block parts.1 e further at is
      ]

  -- an event of a block with a call of a greater stamp
  record IsAbove (n : ℕ) (block : List A) : Type 0 where
    one : A
    there : Contains block one
    at : Spot
    is : spot one ≡ Some at
    above : n < stamp at

  above_in : (n : ℕ) (block : List A) → some_above spot stamp meanwhile n block ≡ true → IsAbove n block
  above_in n [] met = absurd (false≢true met)
  above_in n (x ∷ block) met = by_first (cases_Bool (is_above stamp n (spot x))) (above_in n block)
    where
      of_spot : (o : Option Spot) → spot x ≡ o → is_above stamp n o ≡ true → IsAbove n (x ∷ block)
      of_spot None is met = absurd (false≢true met)
      of_spot (Some at) is met = record { one = x; there = here_first x block; at = at; is = is; above = ltb-true n (stamp at) met }

      by_first : (is_above stamp n (spot x) ≡ true) ⊎ (is_above stamp n (spot x) ≡ false) → (some_above spot stamp meanwhile n block ≡ true → IsAbove n block) → IsAbove n (x ∷ block)
      by_first (inl first) rest = of_spot (spot x) refl first
      by_first (inr none) rest =
          let found = rest (rw none at met) in
          record { one = found.one; there = behind x found.one block found.there; at = found.at; is = found.is; above = found.above }

  in_meanwhile : (block : List A) (e : A) → Contains (map meanwhile block) e → (x : A) × Contains block x × (e ≡ meanwhile x)
  in_meanwhile [] e there = absurd (none_in e there)
  in_meanwhile (x ∷ block) e there = elim (in_front (meanwhile x) e (map meanwhile block) there) [
    | inl it ↦ (x, here_first x block, sym it)
    | inr further ↦ let found = in_meanwhile block e further in (found.0, behind x found.0 block found.1, found.2)
  ]

  -- what is among the blocks with the event is it, or was there, maybe as it is meanwhile
  abbrev pub IsAs : A → A → Type 0
  IsAs x e = (e ≡ x) ⊎ (e ≡ meanwhile x)

  abbrev pub Was : A → A → List (List A) → Type 0
  Was event e rest = (e ≡ event) ⊎ ((x : A) × Contains (events_in spot rest) x × IsAs x e)

  pub spot_was : (x e : A) → IsAs x e → spot e ≡ spot x
  spot_was x e (inl it) = ap spot it
  spot_was x e (inr it) = ap spot it ∙ same x

  pub in_delayed : (event : A) (n : ℕ) (rest : List (List A)) (e : A) → Contains (events_in spot (delayed spot stamp meanwhile event n rest)) e → Was event e rest
  unfolding delayed
  in_delayed event n [] e there = elim (in_front event e [] there) [
    | inl it ↦ inl (sym it)
    | inr none ↦ absurd (none_in e none)
  ]
  in_delayed event n (block ∷ later) e there = by_above (cases_Bool (some_above spot stamp meanwhile n block)) (in_delayed event n later e)
    where
      first_or : Contains (event ∷ block ++ events_in spot later) e → Was event e (block ∷ later)
      first_or there = elim (in_front event e (block ++ events_in spot later) there) [
        | inl it ↦ inl (sym it)
        | inr further ↦ inr (e, further, inl refl)
      ]

      by_above : (some_above spot stamp meanwhile n block ≡ true) ⊎ (some_above spot stamp meanwhile n block ≡ false)
          → (Contains (events_in spot (delayed spot stamp meanwhile event n later)) e → Was event e later) → Was event e (block ∷ later)
      by_above (inl met) rest = elim (cases_Bool (some_below spot stamp meanwhile n block)) [
        | inl below ↦ first_or (rw (met, below) at there)
        | inr none ↦ first_or (rw (met, none) at there)
      ]
      by_above (inr unmet) rest = elim (Contains-append_cases (map meanwhile block) (events_in spot (delayed spot stamp meanwhile event n later)) e (rw unmet at there)) [
        | inl inside ↦ let found = in_meanwhile block e inside in inr (found.0, Contains-append_left block (events_in spot later) found.0 found.1, inr found.2)
        | inr further ↦ elim (rest further) [
          | inl it ↦ inl it
          | inr was ↦ inr (was.0, Contains-append_right block (events_in spot later) was.0 was.1, was.2)
        ]
      ]

  -- it comes in turn
  pub turn_delayed : (event : A) (at : Spot) (rest : List (List A)) → spot event ≡ Some at → IsInTurn spot stamp rest → IsInTurn spot stamp (delayed spot stamp meanwhile event (stamp at) rest)
  unfolding delayed
  turn_delayed event at [] is turn = (λ e other there none. absurd (none_in other none), tt)
  turn_delayed event at (block ∷ later) is turn = by_above (cases_Bool (some_above spot stamp meanwhile (stamp at) block)) (turn_delayed event at later is turn.1)
    where
      same_at : (e : A) (here : Spot) → spot e ≡ spot event → spot e ≡ Some here → at ≡ here
      same_at e here it is_here = same_some at here (sym is ∙ sym it ∙ is_here)

      -- what is behind the block is not before the event
      event_first : IsAbove (stamp at) block → (other : A) → Contains (events_in spot later) other → (next : Spot) → spot other ≡ Some next → stamp at ≤ stamp next
      event_first found other there next is_next =
          let first = turn.0 found.one other found.there there found.at next found.is is_next in
          let above = found.above in
          omega (arith, first, above)

      into : IsAbove (stamp at) block → (e other : A) → Contains (event ∷ block) e → Contains (events_in spot later) other → ComesFirst spot stamp e other
      into found e other inside behind_it here next is_here is_next = elim (in_front event e block inside) [
        | inl it ↦ subst (λ (s : Spot). stamp s ≤ stamp next) (same_at e here (ap spot (sym it)) is_here) (event_first found other behind_it next is_next)
        | inr further ↦ turn.0 e other further behind_it here next is_here is_next
      ]

      in_front_of : some_below spot stamp meanwhile (stamp at) block ≡ false → IsAbove (stamp at) block → (e other : A) → Contains (event ∷ []) e → Contains (block ++ events_in spot later) other → ComesFirst spot stamp e other
      in_front_of none found e other inside behind_it here next is_here is_next =
          let it : at ≡ here = elim (in_front event e [] inside) [
            | inl it ↦ same_at e here (ap spot (sym it)) is_here
            | inr nothing ↦ absurd (none_in e nothing)
          ] in
          subst (λ (s : Spot). stamp s ≤ stamp next) it (elim (Contains-append_cases block (events_in spot later) other behind_it) [
            | inl own ↦ not_below (stamp at) block none other own next is_next
            | inr further ↦ event_first found other further next is_next
          ])

      past : some_above spot stamp meanwhile (stamp at) block ≡ false → (e other : A) → Contains (map meanwhile block) e → Contains (events_in spot (delayed spot stamp meanwhile event (stamp at) later)) other → ComesFirst spot stamp e other
      past none e other inside behind_it here next is_here is_next =
          let was = in_meanwhile block e inside in
          let at_was : spot was.0 ≡ Some here = sym (spot_was was.0 e (inr was.2)) ∙ is_here in
          elim (in_delayed event (stamp at) later other behind_it) [
            | inl it ↦ subst (λ (s : Spot). stamp here ≤ stamp s) (same_at other next (ap spot it) is_next) (not_above (stamp at) block none was.0 was.1 here at_was)
            | inr there ↦ turn.0 was.0 there.0 was.1 there.1 here next at_was (sym (spot_was there.0 other there.2) ∙ is_next)
          ]

      by_above : (some_above spot stamp meanwhile (stamp at) block ≡ true) ⊎ (some_above spot stamp meanwhile (stamp at) block ≡ false)
          → IsInTurn spot stamp (delayed spot stamp meanwhile event (stamp at) later) → IsInTurn spot stamp (delayed spot stamp meanwhile event (stamp at) (block ∷ later))
      by_above (inl met) rest = elim (cases_Bool (some_below spot stamp meanwhile (stamp at) block)) [
        | inl below ↦ rw (met, below) (into (above_in (stamp at) block met), turn.1)
        | inr none ↦ rw (met, none) (in_front_of none (above_in (stamp at) block met), turn)
      ]
      by_above (inr unmet) rest = rw unmet (past unmet, rest)

-- Of what callers have yet to do, the call of the least stamp is the next one on its lock.
use Rattle.std.proofs.Common.{◌≡◌, ℕ, zero, suc, ◌+◌, ◌<◌, ◌≤◌, ◌==◌, ◌⊎◌, Bool, true, false, List, [], ◌∷◌, ◌++◌, arith, ap, ◌∙◌, sym, refl, inl, inr, subst, length, Option, Some, None}
use Rattle.std.specs.Prelude.{Contains, if◌then◌else◌}
use Rattle.std.proofs.lemmas.Bool.{and_parts, cases_Bool, cases_eq, cases_lt, eq-eqb, eqb-true, false≢true}
use Rattle.std.proofs.lemmas.List.Elements.{Contains-append_cases, Contains-append_left, Contains-append_right, Contains-push}
use Rattle.law_threads.specs.Orders.{AreDone, AreInTurn, Does, IsCut, IsInTurn, Order, Passes, Spot, StampsRise, all_events, events_in, is_spot, raised, times_at}
use Rattle.law_threads.specs.Orders.Order.{Call, End, Pass, Still}

module _ {A : Type 0} where
  none_in : (y : A) → Contains [] y → ⊥
  none_in y there = omega (arith, there.1)

  at_first : (x : A) (xs : List A) → Contains (x ∷ xs) x
  at_first x xs = Contains-append_left (x ∷ []) xs x (Contains-push [] x)

  behind : (x y : A) (xs : List A) → Contains xs y → Contains (x ∷ xs) y
  behind x y xs there = Contains-append_right (x ∷ []) xs y there

  -- what is in a list is in it with one more in its middle
  with_one : (front back : List A) (x y : A) → Contains (front ++ back) y → Contains (front ++ x ∷ back) y
  with_one front back x y there = elim (Contains-append_cases front back y there) [
    | inl before ↦ Contains-append_left front (x ∷ back) y before
    | inr after ↦ Contains-append_right front (x ∷ back) y (behind x y back after)
  ]

same_some : {A : Type 0} (x y : A) → Some x ≡ Some y → x ≡ y
same_some x y same = cc

none_some : {A : Type 0} (x : A) → None ≡ Some x → ⊥
none_some x same = absurd (cc same)

-- it is the call at a spot
spot_is : (here : Spot) (spot : Option Spot) → is_spot here spot ≡ true → spot ≡ Some here
spot_is here None met = absurd (false≢true met)
spot_is here (Some spot) met =
    let parts = and_parts (spot.0 == here.0) (spot.1 == here.1) met in
    let lock = eqb-true spot.0 here.0 parts.0 in
    let place = eqb-true spot.1 here.1 parts.1 in
    λ i. Some (lock i, place i)

is_here : (here : Spot) → is_spot here (Some here) ≡ true
is_here here = rw (eq-eqb here.0 here.0 refl, eq-eqb here.1 here.1 refl) refl

-- how often an event is the call at a spot
abbrev once : Bool → ℕ
once is = if is then 1 else 0

module _ {A : Type 0} (spot : A → Option Spot) where
  pub times_joined : (here : Spot) (xs ys : List A) → times_at spot here (xs ++ ys) ≡ times_at spot here xs + times_at spot here ys
  times_joined here [] ys = omega arith
  times_joined here (x ∷ xs) ys = let rest = times_joined here xs ys in omega (arith, rest)

  pub all_joined : (here : Spot) (xs ys : List (List (List A))) → times_at spot here (all_events spot (xs ++ ys)) ≡ times_at spot here (all_events spot xs) + times_at spot here (all_events spot ys)
  all_joined here [] ys = omega arith
  all_joined here (c ∷ cs) ys =
      let rest = all_joined here cs ys in
      let a = times_joined here (events_in spot c) (all_events spot (cs ++ ys)) in
      let b = times_joined here (events_in spot c) (all_events spot cs) in
      omega (arith, rest, a, b)

  -- an event that is done is not yet to come any more
  times_less : (here : Spot) (rest left : List (List (List A))) (does : Does spot rest left)
      → times_at spot here (all_events spot rest) ≡ once (is_spot here (spot does.event)) + times_at spot here (all_events spot left)
  times_less here rest left does =
      let was = ap (λ (r : List (List (List A))). times_at spot here (all_events spot r)) does.was in
      let is = ap (λ (r : List (List (List A))). times_at spot here (all_events spot r)) does.is in
      let a = all_joined here does.callers (((does.earlier ++ does.event ∷ does.later) ∷ does.blocks) ∷ does.others) in
      let b = all_joined here does.callers (((does.earlier ++ does.later) ∷ does.blocks) ∷ does.others) in
      let c = times_joined here ((does.earlier ++ does.event ∷ does.later) ++ events_in spot does.blocks) (all_events spot does.others) in
      let d = times_joined here ((does.earlier ++ does.later) ++ events_in spot does.blocks) (all_events spot does.others) in
      let e = times_joined here (does.earlier ++ does.event ∷ does.later) (events_in spot does.blocks) in
      let f = times_joined here (does.earlier ++ does.later) (events_in spot does.blocks) in
      let g = times_joined here does.earlier (does.event ∷ does.later) in
      let h = times_joined here does.earlier does.later in
      omega (arith, was, is, a, b, c, d, e, f, g, h)

  times_same : (here : Spot) (rest left : List (List (List A))) → Passes spot rest left → times_at spot here (all_events spot rest) ≡ times_at spot here (all_events spot left)
  times_same here rest left passes =
      let was = ap (λ (r : List (List (List A))). times_at spot here (all_events spot r)) passes.was in
      let is = ap (λ (r : List (List (List A))). times_at spot here (all_events spot r)) passes.is in
      let a = all_joined here passes.callers (([] ∷ passes.blocks) ∷ passes.others) in
      let b = all_joined here passes.callers (passes.blocks ∷ passes.others) in
      omega (arith, was, is, a, b)

  -- what is yet to come, once an event is done
  pub cut_still : (many heights : ℕ → ℕ) (rest left : List (List (List A))) (does : Does spot rest left) → spot does.event ≡ None → IsCut spot many heights rest → IsCut spot many heights left
  cut_still many heights rest left does none cut = record {
    below = cut.below;
    to_come = λ here reached more. sym (same here) ∙ cut.to_come here reached more;
    done = λ here under. sym (same here) ∙ cut.done here under;
    beyond = λ here over. sym (same here) ∙ cut.beyond here over;
  }
    where
      same : (here : Spot) → times_at spot here (all_events spot rest) ≡ times_at spot here (all_events spot left)
      same here =
          let less = times_less here rest left does in
          let nothing : once (is_spot here (spot does.event)) ≡ 0 = ap (λ (o : Option Spot). once (is_spot here o)) none in
          omega (arith, less, nothing)

  pub cut_passed : (many heights : ℕ → ℕ) (rest left : List (List (List A))) → Passes spot rest left → IsCut spot many heights rest → IsCut spot many heights left
  cut_passed many heights rest left passes cut = record {
    below = cut.below;
    to_come = λ here reached more. sym (times_same here rest left passes) ∙ cut.to_come here reached more;
    done = λ here under. sym (times_same here rest left passes) ∙ cut.done here under;
    beyond = λ here over. sym (times_same here rest left passes) ∙ cut.beyond here over;
  }

  pub cut_called : (many heights : ℕ → ℕ) (rest left : List (List (List A))) (does : Does spot rest left) (call : Spot) → spot does.event ≡ Some call → call.1 ≡ heights call.0
      → IsCut spot many heights rest → IsCut spot many (raised heights call.0) left
  cut_called many heights rest left does call is_call next cut = record {
    below = below;
    to_come = to_come;
    done = done;
    beyond = λ here over. by_count here (cut.beyond here over);
  }
    where
      less : (here : Spot) → times_at spot here (all_events spot rest) ≡ once (is_spot here (Some call)) + times_at spot here (all_events spot left)
      less here = times_less here rest left does ∙ ap (λ (o : Option Spot). once (is_spot here o) + times_at spot here (all_events spot left)) is_call

      by_count : (here : Spot) → times_at spot here (all_events spot rest) ≡ 0 → times_at spot here (all_events spot left) ≡ 0
      by_count here none = let e = less here in omega (arith, e, none)

      itself : once (is_spot call (Some call)) ≡ 1
      itself = ap once (is_here call)

      inside : call.1 < many call.0
      inside = elim (cases_lt call.1 (many call.0)) [
        | inl under ↦ under
        | inr over ↦ let none = cut.beyond call over in let e = less call in absurd (omega (arith, none, e, itself))
      ]

      below : (lock : ℕ) → raised heights call.0 lock ≤ many lock
      below lock = elim (cases_eq lock call.0) [
        | inl same ↦ subst (λ (l : ℕ). raised heights call.0 l ≤ many l) (sym same) (rw (eq-eqb call.0 call.0 refl) (omega (arith, inside, next)))
        | inr apart ↦ elim (cases_Bool (lock == call.0)) [
          | inl met ↦ absurd (apart (eqb-true lock call.0 met))
          | inr unmet ↦ rw unmet (cut.below lock)
        ]
      ]

      apart_from : (here : Spot) → (here ≡ call → ⊥) → times_at spot here (all_events spot left) ≡ times_at spot here (all_events spot rest)
      apart_from here apart = elim (cases_Bool (is_spot here (Some call))) [
        | inl met ↦ absurd (apart (sym (same_some call here (spot_is here (Some call) met))))
        | inr unmet ↦ let e = less here in let nothing : once (is_spot here (Some call)) ≡ 0 = ap once unmet in omega (arith, e, nothing)
      ]

      at_call : times_at spot call (all_events spot left) ≡ 0
      at_call = let e = less call in let was = cut.to_come call (omega (arith, next)) inside in omega (arith, e, was, itself)

      -- the heights, by whether the lock is that of the call
      to_come : (here : Spot) → raised heights call.0 here.0 ≤ here.1 → here.1 < many here.0 → times_at spot here (all_events spot left) ≡ 1
      to_come here reached more = elim (cases_Bool (here.0 == call.0)) [
        | inl met ↦
            let lock = eqb-true here.0 call.0 met in
            let height : heights here.0 + 1 ≤ here.1 = rw met at reached in
            let same = ap heights lock in
            apart_from here (λ (e : here ≡ call). let place = ap (λ (s : Spot). s.1) e in absurd (omega (arith, place, height, same, next))) ∙ cut.to_come here (omega (arith, height)) more
        | inr unmet ↦
            let height : heights here.0 ≤ here.1 = rw unmet at reached in
            apart_from here (λ (e : here ≡ call). false≢true (sym unmet ∙ eq-eqb here.0 call.0 (ap (λ (s : Spot). s.0) e))) ∙ cut.to_come here height more
      ]

      done : (here : Spot) → here.1 < raised heights call.0 here.0 → times_at spot here (all_events spot left) ≡ 0
      done here under = elim (cases_Bool (here.0 == call.0)) [
        | inl met ↦
            let lock = eqb-true here.0 call.0 met in
            let height : here.1 < heights here.0 + 1 = rw met at under in
            let same = ap heights lock in
            elim (cases_lt here.1 (heights here.0)) [
              | inl before ↦ by_count here (cut.done here before)
              | inr after ↦
                  let place : here.1 ≡ call.1 = omega (arith, height, after, same, next) in
                  subst (λ (s : Spot). times_at spot s (all_events spot left) ≡ 0) (λ i. (sym lock i, sym place i)) at_call
            ]
        | inr unmet ↦
            let height : here.1 < heights here.0 = rw unmet at under in
            by_count here (cut.done here height)
      ]

  module _ (stamp : Spot → ℕ) where
    -- it is a call, and its stamp is so great at least
    abbrev FromStamp : ℕ → A → Type 0
    FromStamp least event = (here : Spot) × (spot event ≡ Some here) × (least ≤ stamp here)

    abbrev AllFrom : ℕ → List A → Type 0
    AllFrom least [] = Unit {0}
    AllFrom least (event ∷ later) = FromStamp least event × AllFrom least later

    abbrev CallerFrom : ℕ → List (List A) → Type 0
    CallerFrom least [] = Unit {0}
    CallerFrom least ([] ∷ later) = ⊥
    CallerFrom least ((event ∷ block) ∷ later) = AllFrom least (event ∷ block)

    abbrev EachFrom : ℕ → List (List (List A)) → Type 0
    EachFrom least [] = Unit {0}
    EachFrom least (caller ∷ callers) = CallerFrom least caller × EachFrom least callers

    all_lower : (low high : ℕ) → low ≤ high → (events : List A) → AllFrom high events → AllFrom low events
    all_lower low high less [] all = tt
    all_lower low high less (event ∷ later) all = ((all.0.0, all.0.1, omega (arith, all.0.2, less)), all_lower low high less later all.1)

    caller_lower : (low high : ℕ) → low ≤ high → (caller : List (List A)) → CallerFrom high caller → CallerFrom low caller
    caller_lower low high less [] from = tt
    caller_lower low high less ([] ∷ later) from = from
    caller_lower low high less ((event ∷ block) ∷ later) from = all_lower low high less (event ∷ block) from

    each_lower : (low high : ℕ) → low ≤ high → (callers : List (List (List A))) → EachFrom high callers → EachFrom low callers
    each_lower low high less [] each = tt
    each_lower low high less (caller ∷ callers) each = (caller_lower low high less caller each.0, each_lower low high less callers each.1)

    done_from : (least : ℕ) (callers : List (List (List A))) → AreDone spot callers → EachFrom least callers
    done_from least [] done = tt
    done_from least (caller ∷ callers) done = (subst (CallerFrom least) (sym done.0) tt, done_from least callers done.1)

    -- an event that is the call at a spot
    found : (here : Spot) (events : List A) → 1 ≤ times_at spot here events → (event : A) × Contains events event × (spot event ≡ Some here)
    found here [] some = absurd (omega (arith, some))
    found here (event ∷ later) some = by_spot (cases_Bool (is_spot here (spot event))) (found here later)
      where
        by_spot : (is_spot here (spot event) ≡ true) ⊎ (is_spot here (spot event) ≡ false) → (1 ≤ times_at spot here later → (other : A) × Contains later other × (spot other ≡ Some here))
            → (other : A) × Contains (event ∷ later) other × (spot other ≡ Some here)
        by_spot (inl met) further = (event, at_first event later, spot_is here (spot event) met)
        by_spot (inr unmet) further =
            let nothing : once (is_spot here (spot event)) ≡ 0 = ap once unmet in
            let one = further (omega (arith, some, nothing)) in
            (one.0, behind event one.0 later one.1, one.2)

    all_found : (least : ℕ) (here : Spot) (events : List A) → AllFrom least events → 1 ≤ times_at spot here events → least ≤ stamp here
    all_found least here [] all some = absurd (omega (arith, some))
    all_found least here (event ∷ later) all some = by_spot (cases_Bool (is_spot here (spot event))) (all_found least here later all.1)
      where
        by_spot : (is_spot here (spot event) ≡ true) ⊎ (is_spot here (spot event) ≡ false) → (1 ≤ times_at spot here later → least ≤ stamp here) → least ≤ stamp here
        by_spot (inl met) further = subst (λ (s : Spot). least ≤ stamp s) (same_some all.0.0 here (sym all.0.1 ∙ spot_is here (spot event) met)) all.0.2
        by_spot (inr unmet) further =
            let nothing : once (is_spot here (spot event)) ≡ 0 = ap once unmet in
            further (omega (arith, some, nothing))

    -- where no stamp of the first blocks is below another, none of the later ones is
    caller_found : (least : ℕ) (here : Spot) (caller : List (List A)) → IsInTurn spot stamp caller → CallerFrom least caller → 1 ≤ times_at spot here (events_in spot caller) → least ≤ stamp here
    caller_found least here [] turn from some = absurd (omega (arith, some))
    caller_found least here ([] ∷ later) turn from some = absurd from
    caller_found least here ((event ∷ block) ∷ later) turn from some = elim (cases_lt 0 (times_at spot here (event ∷ block))) [
      | inl in_block ↦ all_found least here (event ∷ block) from in_block
      | inr not ↦
          let joined = times_joined here (event ∷ block) (events_in spot later) in
          let other = found here (events_in spot later) (omega (arith, joined, some, not)) in
          let after = turn.0 event other.0 (at_first event block) other.1 from.0.0 here from.0.1 other.2 in
          omega (arith, after, from.0.2)
    ]

    each_found : (least : ℕ) (here : Spot) (callers : List (List (List A))) → AreInTurn spot stamp callers → EachFrom least callers → 1 ≤ times_at spot here (all_events spot callers) → least ≤ stamp here
    each_found least here [] turn each some = absurd (omega (arith, some))
    each_found least here (caller ∷ callers) turn each some = elim (cases_lt 0 (times_at spot here (events_in spot caller))) [
      | inl in_caller ↦ caller_found least here caller turn.0 each.0 in_caller
      | inr not ↦
          let joined = times_joined here (events_in spot caller) (all_events spot callers) in
          each_found least here callers turn.1 each.1 (omega (arith, joined, some, not))
    ]

    -- of a block, an event that is no call, or the call of the least stamp
    data InBlock (block : List A) : Type 0 where
      Quiet : (front : List A) (event : A) (back : List A) → block ≡ front ++ event ∷ back → spot event ≡ None → InBlock block
      Least : (front : List A) (event : A) (back : List A) → block ≡ front ++ event ∷ back → (here : Spot) → spot event ≡ Some here → AllFrom (stamp here) block → InBlock block

    with_front : (event : A) (here : Spot) → spot event ≡ Some here → (block : List A) → InBlock block → InBlock (event ∷ block)
    with_front event here is block (Quiet front other back same none) = Quiet (event ∷ front) other back (ap (λ (xs : List A). event ∷ xs) same) none
    with_front event here is block (Least front other back same there is_there all) = elim (cases_lt (stamp there) (stamp here)) [
      | inl less ↦ Least (event ∷ front) other back (ap (λ (xs : List A). event ∷ xs) same) there is_there ((here, is, omega (arith, less)), all)
      | inr not ↦ Least [] event block refl here is ((here, is, omega arith), all_lower (stamp here) (stamp there) not block all)
    ]

    in_block : (event : A) (block : List A) → InBlock (event ∷ block)
    in_block event [] = by_spot (spot event) refl
      where
        by_spot : (o : Option Spot) → spot event ≡ o → InBlock (event ∷ [])
        by_spot None is = Quiet [] event [] refl is
        by_spot (Some here) is = Least [] event [] refl here is ((here, is, omega arith), tt)
    in_block event (other ∷ later) = by_spot (spot event) refl (in_block other later)
      where
        by_spot : (o : Option Spot) → spot event ≡ o → InBlock (other ∷ later) → InBlock (event ∷ other ∷ later)
        by_spot None is rest = Quiet [] event (other ∷ later) refl is
        by_spot (Some here) is rest = with_front event here is (other ∷ later) rest

    -- of what all callers do next, a block that is done, an event that is no call, or the call of the least stamp
    data InAll (rest : List (List (List A))) : Type 0 where
      Over : AreDone spot rest → InAll rest
      Hollow : {left : List (List (List A))} → Passes spot rest left → InAll rest
      Silent : {left : List (List (List A))} (does : Does spot rest left) → spot does.event ≡ None → InAll rest
      First : {left : List (List (List A))} (does : Does spot rest left) (here : Spot) → spot does.event ≡ Some here → EachFrom (stamp here) rest → InAll rest

    abbrev passes_later : (caller : List (List A)) (rest left : List (List (List A))) → Passes spot rest left → Passes spot (caller ∷ rest) (caller ∷ left)
    passes_later caller rest left passes = record {
      callers = caller ∷ passes.callers;
      blocks = passes.blocks;
      others = passes.others;
      was = ap (λ (r : List (List (List A))). caller ∷ r) passes.was;
      is = ap (λ (r : List (List (List A))). caller ∷ r) passes.is;
    }

    abbrev does_later : (caller : List (List A)) (rest left : List (List (List A))) → Does spot rest left → Does spot (caller ∷ rest) (caller ∷ left)
    does_later caller rest left does = record {
      callers = caller ∷ does.callers;
      earlier = does.earlier;
      event = does.event;
      later = does.later;
      blocks = does.blocks;
      others = does.others;
      was = ap (λ (r : List (List (List A))). caller ∷ r) does.was;
      is = ap (λ (r : List (List (List A))). caller ∷ r) does.is;
    }

    abbrev does_here : (block front : List A) (event : A) (back : List A) (blocks : List (List A)) (callers : List (List (List A))) → block ≡ front ++ event ∷ back
        → Does spot ((block ∷ blocks) ∷ callers) (((front ++ back) ∷ blocks) ∷ callers)
    does_here block front event back blocks callers same = record {
      callers = [];
      earlier = front;
      event = event;
      later = back;
      blocks = blocks;
      others = callers;
      was = ap (λ (b : List A). (b ∷ blocks) ∷ callers) same;
      is = refl;
    }

    -- a caller that is done beside the others
    beside_done : (callers : List (List (List A))) → InAll callers → InAll ([] ∷ callers)
    beside_done callers (Over done) = Over (refl, done)
    beside_done callers (Hollow passes) = Hollow (passes_later [] callers _ passes)
    beside_done callers (Silent does none) = Silent (does_later [] callers _ does) none
    beside_done callers (First does here is each) = First (does_later [] callers _ does) here is (tt, each)

    beside_block : (event : A) (block : List A) (blocks : List (List A)) (callers : List (List (List A))) → InBlock (event ∷ block) → InAll callers → InAll (((event ∷ block) ∷ blocks) ∷ callers)
    beside_block event block blocks callers (Quiet front other back same none) all = Silent (does_here (event ∷ block) front other back blocks callers same) none
    beside_block event block blocks callers (Least front other back same here is from) (Over done) =
        First (does_here (event ∷ block) front other back blocks callers same) here is (from, done_from (stamp here) callers done)
    beside_block event block blocks callers (Least front other back same here is from) (Hollow passes) = Hollow (passes_later ((event ∷ block) ∷ blocks) callers _ passes)
    beside_block event block blocks callers (Least front other back same here is from) (Silent does none) = Silent (does_later ((event ∷ block) ∷ blocks) callers _ does) none
    beside_block event block blocks callers (Least front other back same here is from) (First does there is_there each) = elim (cases_lt (stamp there) (stamp here)) [
      | inl less ↦ First (does_later ((event ∷ block) ∷ blocks) callers _ does) there is_there (all_lower (stamp there) (stamp here) (omega (arith, less)) (event ∷ block) from, each)
      | inr not ↦ First (does_here (event ∷ block) front other back blocks callers same) here is (from, each_lower (stamp here) (stamp there) not callers each)
    ]

    in_all : (rest : List (List (List A))) → InAll rest
    in_all [] = Over tt
    in_all ([] ∷ callers) = beside_done callers (in_all callers)
    in_all (([] ∷ blocks) ∷ callers) = Hollow (record { callers = []; blocks = blocks; others = callers; was = refl; is = refl })
    in_all (((event ∷ block) ∷ blocks) ∷ callers) = beside_block event block blocks callers (in_block event block) (in_all callers)

    -- what is left stays in turn
    turn_replaced : (callers others : List (List (List A))) (was is : List (List A)) → (IsInTurn spot stamp was → IsInTurn spot stamp is) → AreInTurn spot stamp (callers ++ was ∷ others) → AreInTurn spot stamp (callers ++ is ∷ others)
    turn_replaced [] others was is to turn = (to turn.0, turn.1)
    turn_replaced (caller ∷ callers) others was is to turn = (turn.0, turn_replaced callers others was is to turn.1)

    turn_done : (rest left : List (List (List A))) → Does spot rest left → AreInTurn spot stamp rest → AreInTurn spot stamp left
    turn_done rest left does turn = subst (AreInTurn spot stamp) (sym does.is)
        (turn_replaced does.callers does.others ((does.earlier ++ does.event ∷ does.later) ∷ does.blocks) ((does.earlier ++ does.later) ∷ does.blocks)
        (λ (one : IsInTurn spot stamp ((does.earlier ++ does.event ∷ does.later) ∷ does.blocks)).
        (λ event other there later. one.0 event other (with_one does.earlier does.later does.event event there) later, one.1))
        (subst (AreInTurn spot stamp) does.was turn))

    turn_passed : (rest left : List (List (List A))) → Passes spot rest left → AreInTurn spot stamp rest → AreInTurn spot stamp left
    turn_passed rest left passes turn = subst (AreInTurn spot stamp) (sym passes.is)
        (turn_replaced passes.callers passes.others ([] ∷ passes.blocks) passes.blocks (λ (one : IsInTurn spot stamp ([] ∷ passes.blocks)). one.1) (subst (AreInTurn spot stamp) passes.was turn))

  -- how much is yet to come
  abbrev size_in : List (List A) → ℕ
  size_in [] = 0
  size_in (block ∷ later) = (length block + 1) + size_in later

  abbrev size : List (List (List A)) → ℕ
  size [] = 0
  size (caller ∷ callers) = size_in caller + size callers

  size_joined : (xs ys : List (List (List A))) → size (xs ++ ys) ≡ size xs + size ys
  size_joined [] ys = omega arith
  size_joined (x ∷ xs) ys = let rest = size_joined xs ys in omega (arith, rest)

  longer : (front back : List A) (event : A) → length (front ++ event ∷ back) ≡ length (front ++ back) + 1
  longer [] back event = omega arith
  longer (x ∷ front) back event = let rest = longer front back event in omega (arith, rest)

  size_done : (rest left : List (List (List A))) → Does spot rest left → size left < size rest
  size_done rest left does =
      let was = ap size does.was in
      let is = ap size does.is in
      let a = size_joined does.callers (((does.earlier ++ does.event ∷ does.later) ∷ does.blocks) ∷ does.others) in
      let b = size_joined does.callers (((does.earlier ++ does.later) ∷ does.blocks) ∷ does.others) in
      let c = longer does.earlier does.later does.event in
      omega (arith, was, is, a, b, c)

  size_passed : (rest left : List (List (List A))) → Passes spot rest left → size left < size rest
  size_passed rest left passes =
      let was = ap size passes.was in
      let is = ap size passes.is in
      let a = size_joined passes.callers (([] ∷ passes.blocks) ∷ passes.others) in
      let b = size_joined passes.callers (passes.blocks ∷ passes.others) in
      omega (arith, was, is, a, b)

  none_left : (here : Spot) (rest : List (List (List A))) → AreDone spot rest → times_at spot here (all_events spot rest) ≡ 0
  none_left here [] done = refl
  none_left here (caller ∷ callers) done =
      let rest = none_left here callers done.1 in
      let joined = times_joined here (events_in spot caller) (all_events spot callers) in
      let nothing = ap (λ (c : List (List A)). times_at spot here (events_in spot c)) done.0 in
      omega (arith, rest, joined, nothing)

  module _ (many : ℕ → ℕ) (stamp : Spot → ℕ) (rise : StampsRise stamp many) where
    -- the call of the least stamp is the next one on its lock
    is_next : (heights : ℕ → ℕ) (rest left : List (List (List A))) (does : Does spot rest left) (here : Spot) → spot does.event ≡ Some here → EachFrom stamp (stamp here) rest → IsCut spot many heights rest
        → AreInTurn spot stamp rest → here.1 ≡ heights here.0
    is_next heights rest left does here is each cut turn = elim (cases_lt here.1 (heights here.0)) [
      | inl under ↦
          let none = cut.done here under in
          absurd (omega (arith, some, none))
      | inr reached ↦ elim (cases_lt (heights here.0) here.1) [
        | inl above ↦
            let one = cut.to_come (here.0, heights here.0) (omega arith) (omega (arith, above, inside)) in
            let low = each_found stamp (stamp here) (here.0, heights here.0) rest turn each (omega (arith, one)) in
            let less = rise here.0 (heights here.0) here.1 above inside in
            absurd (omega (arith, low, less))
        | inr not ↦ omega (arith, reached, not)
      ]
    ]
      where
        some : 1 ≤ times_at spot here (all_events spot rest)
        some =
            let less = times_less here rest left does in
            let itself : once (is_spot here (spot does.event)) ≡ 1 = ap (λ (o : Option Spot). once (is_spot here o)) is ∙ ap once (is_here here) in
            omega (arith, less, itself)

        inside : here.1 < many here.0
        inside = elim (cases_lt here.1 (many here.0)) [
          | inl under ↦ under
          | inr over ↦ let none = cut.beyond here over in absurd (omega (arith, none, some))
        ]

    at_end : (heights : ℕ → ℕ) (rest : List (List (List A))) → AreDone spot rest → IsCut spot many heights rest → (lock : ℕ) → heights lock ≡ many lock
    at_end heights rest done cut lock = elim (cases_lt (heights lock) (many lock)) [
      | inl under ↦
          let one = cut.to_come (lock, heights lock) (omega arith) under in
          let none = none_left (lock, heights lock) rest done in
          absurd (omega (arith, one, none))
      | inr reached ↦ let below = cut.below lock in omega (arith, reached, below)
    ]

    by_size : (fuel : ℕ) (heights : ℕ → ℕ) (rest : List (List (List A))) → size rest < fuel → IsCut spot many heights rest → AreInTurn spot stamp rest → Order spot many heights rest
    by_size zero heights rest low cut turn = absurd (omega (arith, low))
    by_size (suc fuel) heights rest low cut turn = by_next (by_size fuel) (in_all stamp rest)
      where
        by_next : ((heights : ℕ → ℕ) (rest : List (List (List A))) → size rest < fuel → IsCut spot many heights rest → AreInTurn spot stamp rest → Order spot many heights rest) → InAll stamp rest → Order spot many heights rest
        by_next further (Over done) = End done (at_end heights rest done cut)
        by_next further (Hollow {left} passes) = Pass passes
            (further heights left (let less = size_passed rest left passes in omega (arith, less, low)) (cut_passed many heights rest left passes cut) (turn_passed stamp rest left passes turn))
        by_next further (Silent {left} does none) = Still does none
            (further heights left (let less = size_done rest left does in omega (arith, less, low)) (cut_still many heights rest left does none cut) (turn_done stamp rest left does turn))
        by_next further (First {left} does here is each) =
            let next = is_next heights rest left does here is each cut turn in
            Call does here is next
            (further (raised heights here.0) left (let less = size_done rest left does in omega (arith, less, low)) (cut_called many heights rest left does here is next cut) (turn_done stamp rest left does turn))

    pub ordered : (heights : ℕ → ℕ) (rest : List (List (List A))) → IsCut spot many heights rest → AreInTurn spot stamp rest → Order spot many heights rest
    ordered heights rest cut turn = by_size (size rest + 1) heights rest (omega arith) cut turn

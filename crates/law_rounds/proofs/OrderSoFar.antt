-- What is done next leaves all that happened in one order.
use Rattle.std.proofs.Common.{◌≡◌, ℕ, zero, suc, pred, ◌+◌, ◌-◌, ◌<◌, ◌≤◌, Bool, true, false, List, [], ◌∷◌, ◌++◌, length, Some, slice_get, Contains, inl, inr, refl, sym, ap, subst, ◌∙◌, arith}
use Rattle.std.specs.Prelude.{◌⊎◌, if◌then◌else◌, nat_lt, All}
use Rattle.std.proofs.lemmas.Bool.{cases_lt}
use Rattle.std.proofs.lemmas.Bool.Decides.{nat_tests}
use Rattle.std.proofs.lemmas.List.{get_or-append_right, get_or_append_left, length-append}
use Rattle.std.proofs.lemmas.List.Elements.{Contains-append_cases}
use Rattle.std.proofs.lemmas.Option.{get_or_from_slice_get, slice_get_read, slice_get_within}
use Rattle.sf_play.specs.sf_record.declared.event.VsyncRecords.{VsyncRecords}
use Rattle.sf_play.specs.sf_record.declared.record.ArrivalEntry.{ArrivalEntry}
use Rattle.sf_play.specs.sf_record.declared.record.CommitRecord.{CommitRecord}
use Rattle.sf_play.specs.sf_record.declared.record.HistoryEntry.{HistoryEntry}
use Rattle.sf_play.specs.sf_record.declared.record.QueueHistory.{QueueHistory}
use Rattle.law_order.specs.Order.{ArrivalAt, CallAt, Happened, InOneOrder, IsArrival, IsCall, IsLaterStep, IsLaterThere}
use Rattle.law_rounds.specs.OrderSoFar.{ComesTo, ComesToVsync, DoesMore, IsOrderedSoFar, MakesVsync}

-- an element in front of a place is the front's, and one behind it the rest's
front_get : {X : Type 0} (xs ys : List X) (i : ℕ) (x : X) → i < length xs → slice_get (xs ++ ys) i ≡ Some x → slice_get xs i ≡ Some x
front_get xs ys i x low e = slice_get_read xs (length xs) i x refl low (sym (sym (get_or_append_left xs ys x i low) ∙ get_or_from_slice_get (xs ++ ys) i x x e))

some_is : {X : Type 0} (x y : X) → Some x ≡ Some y → x ≡ y
some_is x y e = cc (e)

rest_get : {X : Type 0} (P : X → Type 0) (xs ys : List X) (i : ℕ) (x : X) → length xs ≤ i → slice_get (xs ++ ys) i ≡ Some x → All P ys → P x
rest_get P xs ys i x high e all =
    let within = slice_get_within (xs ++ ys) i x e in
    let long = length-append xs ys in
    subst P (sym (get_or-append_right xs ys (length xs) i x refl high) ∙ get_or_from_slice_get (xs ++ ys) i x x e) (all (i - length xs) x (omega (arith, within, long, high)))

-- one did more in one step
module _ (tells : Bool) (by step : ℕ) (come_to later : ℕ → ℕ) (before after : Happened) (so : IsOrderedSoFar tells come_to before) (more : DoesMore by step before after) (comes : ComesTo by step come_to later) where
  abbrev many_arrived : ℕ
  many_arrived = length before.arrived

  abbrev call_now : CallAt → ℕ
  call_now one = if nat_lt one.place (more.many one.queue) then so.order.call one else so.bound + 1 + (one.place - more.many one.queue)

  abbrev arrival_now : ℕ → ℕ
  arrival_now number = if nat_lt many_arrived number then so.bound + 1 + more.most + number else so.order.arrival number

  abbrev bound_now : ℕ
  bound_now = so.bound + 2 + more.most + length after.arrived

  abbrev vsync_now : ℕ → ℕ
  vsync_now number = if nat_lt (come_to 0) number then bound_now + number else so.order.vsync number

  call_old : (one : CallAt) → one.place < more.many one.queue → call_now one ≡ so.order.call one
  call_old one low = let t : nat_lt one.place (more.many one.queue) ≡ true = grind (arith, nat_tests, low) in rw t refl

  call_new : (one : CallAt) → more.many one.queue ≤ one.place → call_now one ≡ so.bound + 1 + (one.place - more.many one.queue)
  call_new one high = let t : nat_lt one.place (more.many one.queue) ≡ false = grind (arith, nat_tests, high) in rw t refl

  arrival_old : (number : ℕ) → number ≤ many_arrived → arrival_now number ≡ so.order.arrival number
  arrival_old number low = let t : nat_lt many_arrived number ≡ false = grind (arith, nat_tests, low) in rw t refl

  arrival_new : (number : ℕ) → many_arrived < number → arrival_now number ≡ so.bound + 1 + more.most + number
  arrival_new number high = let t : nat_lt many_arrived number ≡ true = grind (arith, nat_tests, high) in rw t refl

  vsync_old : (number : ℕ) → number ≤ come_to 0 → vsync_now number ≡ so.order.vsync number
  vsync_old number low = let t : nat_lt (come_to 0) number ≡ false = grind (arith, nat_tests, low) in rw t refl

  vsync_new : (number : ℕ) → come_to 0 < number → vsync_now number ≡ bound_now + number
  vsync_new number high = let t : nat_lt (come_to 0) number ≡ true = grind (arith, nat_tests, high) in rw t refl

  -- a call is one of before, with its number, or it is new
  record IsOld (one : CallAt) : Type 0 where
    call : IsCall before one
    place : one.place < more.many one.queue
    number : call_now one ≡ so.order.call one
    low : call_now one < so.bound
    step_low : one.entry.step ≤ come_to one.entry.caller

  record IsNew (one : CallAt) : Type 0 where
    place : more.many one.queue ≤ one.place
    number : call_now one ≡ so.bound + 1 + (one.place - more.many one.queue)
    low : call_now one < so.bound + 1 + more.most
    caller : one.entry.caller ≡ by
    at_step : one.entry.step ≡ step

  old_or_new : (one : CallAt) → IsCall after one → IsOld one ⊎ IsNew one
  old_or_new one is = elim (cases_lt one.place (more.many one.queue)) [
    | inl low ↦
        let call = more.older one is low in
        let number = call_old one low in
        let under = so.calls_low one call in
        inl (record { call = call; place = low; number = number; low = omega (arith, number, under); step_low = so.called one call })
    | inr high ↦
        let new = more.newer one is high in
        let number = call_new one high in
        let few = new.0 in
        inr (record { place = high; number = number; low = omega (arith, number, few, high); caller = new.1; at_step = new.2 })
  ]

  -- so is what was sent
  record IsOldSent (s : ArrivalAt) : Type 0 where
    there : IsArrival before s
    many : s.number ≤ many_arrived
    number : arrival_now s.number ≡ so.order.arrival s.number
    low : arrival_now s.number < so.bound
    step_low : s.entry.step ≤ come_to s.entry.actor

  record IsNewSent (s : ArrivalAt) : Type 0 where
    many : many_arrived < s.number
    number : arrival_now s.number ≡ so.bound + 1 + more.most + s.number
    actor : s.entry.actor ≡ by
    at_step : s.entry.step ≡ step

  old_or_sent : (s : ArrivalAt) → IsArrival after s → IsOldSent s ⊎ IsNewSent s
  old_or_sent s is = elim (cases_lt many_arrived s.number) [
    | inr low ↦
        let from_1 = is.from_1 in
        let less : pred s.number < many_arrived = below s.number from_1 low in
        let there : IsArrival before s = record { from_1 = from_1; at = front_get before.arrived more.sent (pred s.number) s.entry less (ap (λ (xs : List ArrivalEntry). slice_get xs (pred s.number)) (sym more.arrived) ∙ is.at) } in
        let number = arrival_old s.number low in
        let under = so.arrivals_low s.number low in
        inl (record { there = there; many = low; number = number; low = omega (arith, number, under); step_low = so.sent s there })
    | inl high ↦
        let own = rest_get (λ (entry : ArrivalEntry). (entry.actor ≡ by) × (entry.step ≡ step)) before.arrived more.sent (pred s.number) s.entry (above s.number high)
        (ap (λ (xs : List ArrivalEntry). slice_get xs (pred s.number)) (sym more.arrived) ∙ is.at) more.sent_by in
        inr (record { many = high; number = arrival_new s.number high; actor = own.0; at_step = own.1 })
  ]
    where
      below : (n : ℕ) → 0 < n → n ≤ many_arrived → pred n < many_arrived
      below zero from_1 low = absurd (omega (arith, from_1))
      below (suc n) from_1 low = omega (arith, low)

      above : (n : ℕ) → many_arrived < n → many_arrived ≤ pred n
      above zero high = absurd (omega (arith, high))
      above (suc n) high = omega (arith, high)

  -- what it did before is of no later step
  not_later : (of n : ℕ) → of ≡ by → n ≤ come_to of → n ≤ step
  not_later of n same low =
      let rise = subst (λ (m : ℕ). n ≤ come_to m) same low in
      let up = comes.rises by in
      let now = comes.now in
      omega (arith, rise, up, now)

  histories_now : (one next : CallAt) → IsCall after one → IsCall after next → IsLaterThere one next → call_now one < call_now next
  histories_now one next a b there = elim (old_or_new one a) [
    | inl o ↦ elim (old_or_new next b) [
      | inl n ↦
          let less = so.order.histories one next o.call n.call there in
          let p = o.number in
          let q = n.number in
          omega (arith, less, p, q)
      | inr n ↦ let under = o.low in let q = n.number in omega (arith, under, q)
    ]
    | inr o ↦ elim (old_or_new next b) [
      | inl n ↦
          let same = ap more.many there.queue in
          let high = o.place in
          let low = n.place in
          let less = there.place in
          absurd (omega (arith, same, high, low, less))
      | inr n ↦
          let same = ap more.many there.queue in
          let high = o.place in
          let less = there.place in
          let p = o.number in
          let q = n.number in
          omega (arith, same, high, less, p, q)
    ]
  ]

  steps_now : (one next : CallAt) → IsCall after one → IsCall after next → IsLaterStep one next → call_now one < call_now next
  steps_now one next a b behind = elim (old_or_new one a) [
    | inl o ↦ elim (old_or_new next b) [
      | inl n ↦
          let less = so.order.steps one next o.call n.call behind in
          let p = o.number in
          let q = n.number in
          omega (arith, less, p, q)
      | inr n ↦ let under = o.low in let q = n.number in omega (arith, under, q)
    ]
    | inr o ↦
        let at_step = o.at_step in
        let less = behind.step in
        elim (old_or_new next b) [
          | inl n ↦ let low = not_later next.entry.caller next.entry.step (sym behind.caller ∙ o.caller) n.step_low in absurd (omega (arith, at_step, less, low))
          | inr n ↦ let its = n.at_step in absurd (omega (arith, at_step, less, its))
        ]
  ]

  sends_now : (one : CallAt) (s : ArrivalAt) → IsCall after one → IsArrival after s → one.entry.caller ≡ s.entry.actor → one.entry.step < s.entry.step → call_now one < arrival_now s.number
  sends_now one s a b same less = elim (old_or_new one a) [
    | inl o ↦ elim (old_or_sent s b) [
      | inl n ↦
          let rise = so.order.sends one s o.call n.there same less in
          let p = o.number in
          let q = n.number in
          omega (arith, rise, p, q)
      | inr n ↦ let under = o.low in let q = n.number in omega (arith, under, q)
    ]
    | inr o ↦
        let at_step = o.at_step in
        elim (old_or_sent s b) [
          | inl n ↦ let low = not_later s.entry.actor s.entry.step (sym same ∙ o.caller) n.step_low in absurd (omega (arith, at_step, less, low))
          | inr n ↦ let its = n.at_step in absurd (omega (arith, at_step, less, its))
        ]
  ]

  told_now : tells ≡ true → (s : ArrivalAt) (next : CallAt) → IsArrival after s → IsCall after next → s.entry.actor ≡ next.entry.caller → s.entry.step < next.entry.step → arrival_now s.number < call_now next
  told_now told s next a b same less = elim (old_or_sent s a) [
    | inl o ↦ elim (old_or_new next b) [
      | inl n ↦
          let rise = so.order.told told s next o.there n.call same less in
          let p = o.number in
          let q = n.number in
          omega (arith, rise, p, q)
      | inr n ↦ let under = o.low in let q = n.number in omega (arith, under, q)
    ]
    | inr o ↦
        let at_step = o.at_step in
        elim (old_or_new next b) [
          | inl n ↦ let low = not_later next.entry.caller next.entry.step (sym same ∙ o.actor) n.step_low in absurd (omega (arith, at_step, less, low))
          | inr n ↦ let its = n.at_step in absurd (omega (arith, at_step, less, its))
        ]
  ]

  arrivals_now : (one next : ℕ) → one < next → arrival_now one < arrival_now next
  arrivals_now one next less = elim (cases_lt many_arrived next) [
    | inl high ↦
        let q = arrival_new next high in
        elim (cases_lt many_arrived one) [
          | inl also ↦ let p = arrival_new one also in omega (arith, p, q, less)
          | inr low ↦
              let p = arrival_old one low in
              let under = so.arrivals_low one low in
              omega (arith, p, q, under)
        ]
    | inr low ↦
        let p = arrival_old one (omega (arith, low, less)) in
        let q = arrival_old next low in
        let rise = so.order.arrivals one next less in
        omega (arith, p, q, rise)
  ]

  vsyncs_now : (one next : ℕ) → one < next → vsync_now one < vsync_now next
  vsyncs_now one next less = elim (cases_lt (come_to 0) next) [
    | inl high ↦
        let q = vsync_new next high in
        elim (cases_lt (come_to 0) one) [
          | inl also ↦ let p = vsync_new one also in omega (arith, p, q, less)
          | inr low ↦
              let p = vsync_old one low in
              let under = so.vsyncs_low one low in
              omega (arith, p, q, under)
        ]
    | inr low ↦
        let p = vsync_old one (omega (arith, low, less)) in
        let q = vsync_old next low in
        let rise = so.order.vsyncs one next less in
        omega (arith, p, q, rise)
  ]

  was_there : (at : VsyncRecords) → Contains after.vsyncs at → Contains before.vsyncs at
  was_there at there = subst (λ (vs : List VsyncRecords). Contains vs at) more.vsyncs there

  commits_now : (at : VsyncRecords) (commit : CommitRecord) → Contains after.vsyncs at → Contains at.commits commit → arrival_now commit.arrival < vsync_now at.number
  commits_now at commit there has =
      let was = was_there at there in
      let p = arrival_old commit.arrival (so.committed at commit was has) in
      let q = vsync_old at.number (so.made at was) in
      let rise = so.order.commits at commit was has in
      omega (arith, p, q, rise)

  releases_now : (one : CallAt) → IsCall after one → one.entry.caller ≡ 0 → vsync_now one.entry.step < call_now one
  releases_now one a compositor = elim (old_or_new one a) [
    | inl o ↦
        let q = vsync_old one.entry.step (subst (λ (of : ℕ). one.entry.step ≤ come_to of) compositor o.step_low) in
        let p = o.number in
        let rise = so.order.releases one o.call compositor in
        omega (arith, p, q, rise)
    | inr o ↦
        let here = last_vsync one o compositor in
        let q = vsync_old one.entry.step (omega (arith, here)) in
        let under = so.vsyncs_low one.entry.step (omega (arith, here)) in
        let p = o.number in
        omega (arith, p, q, under)
  ]
    where
      last_vsync : (one : CallAt) → IsNew one → one.entry.caller ≡ 0 → one.entry.step ≡ come_to 0
      last_vsync one o compositor = o.at_step ∙ sym comes.now ∙ ap later (sym o.caller ∙ compositor) ∙ comes.vsyncs

  ends_now : (one : CallAt) (next : ℕ) → IsCall after one → one.entry.caller ≡ 0 → one.entry.step < next → call_now one < vsync_now next
  ends_now one next a compositor less = elim (cases_lt (come_to 0) next) [
    | inl high ↦
        let q = vsync_new next high in
        elim (old_or_new one a) [
          | inl o ↦ let under = o.low in omega (arith, q, under)
          | inr o ↦ let under = o.low in omega (arith, q, under)
        ]
    | inr low ↦
        let q = vsync_old next low in
        elim (old_or_new one a) [
          | inl o ↦
              let p = o.number in
              let rise = so.order.ends one next o.call compositor less in
              omega (arith, p, q, rise)
          | inr o ↦
              let here = o.at_step ∙ sym comes.now ∙ ap later (sym o.caller ∙ compositor) ∙ comes.vsyncs in
              absurd (omega (arith, here, less, low))
        ]
  ]

  abbrev order_now : InOneOrder tells after
  order_now = record {
    call = call_now;
    arrival = arrival_now;
    vsync = vsync_now;
    histories = histories_now;
    arrivals = arrivals_now;
    vsyncs = vsyncs_now;
    steps = steps_now;
    sends = sends_now;
    told = told_now;
    commits = commits_now;
    releases = releases_now;
    ends = ends_now;
  }

  arrived_more : many_arrived ≤ length after.arrived
  arrived_more =
      let all = ap (λ (xs : List ArrivalEntry). length xs) more.arrived in
      let long = length-append before.arrived more.sent in
      omega (arith, all, long)

  pub still_ordered : IsOrderedSoFar tells later after
  still_ordered = record {
    order = order_now;
    bound = bound_now;
    calls_low = λ one a. elim (old_or_new one a) [
      | inl o ↦ let under = o.low in omega (arith, under)
      | inr o ↦ let under = o.low in omega (arith, under)
    ];
    arrivals_low = λ number most. elim (cases_lt many_arrived number) [
      | inl high ↦ let p = arrival_new number high in omega (arith, p, most)
      | inr low ↦
          let p = arrival_old number low in
          let under = so.arrivals_low number low in
          omega (arith, p, under)
    ];
    vsyncs_low = λ number most.
        let same = comes.vsyncs in
        let p = vsync_old number (omega (arith, most, same)) in
        let under = so.vsyncs_low number (omega (arith, most, same)) in
        omega (arith, p, under);
    called = λ one a. elim (old_or_new one a) [
      | inl o ↦
          let low = o.step_low in
          let up = comes.rises one.entry.caller in
          omega (arith, low, up)
      | inr o ↦ let here = o.at_step ∙ sym comes.now ∙ ap later (sym o.caller) in omega (arith, here)
    ];
    sent = λ s a. elim (old_or_sent s a) [
      | inl o ↦
          let low = o.step_low in
          let up = comes.rises s.entry.actor in
          omega (arith, low, up)
      | inr o ↦ let here = o.at_step ∙ sym comes.now ∙ ap later (sym o.actor) in omega (arith, here)
    ];
    made = λ at there. let low = so.made at (was_there at there) in let same = comes.vsyncs in omega (arith, low, same);
    committed = λ at commit there has. let low = so.committed at commit (was_there at there) has in let up = arrived_more in omega (arith, low, up);
  }

-- a vsync was made
module _ (tells : Bool) (come_to later : ℕ → ℕ) (before after : Happened) (so : IsOrderedSoFar tells come_to before) (makes : MakesVsync (come_to 0 + 1) before after) (comes : ComesToVsync come_to later) where
  abbrev vsync_next : ℕ → ℕ
  vsync_next number = if nat_lt (come_to 0) number then so.bound + number else so.order.vsync number

  next_old : (number : ℕ) → number ≤ come_to 0 → vsync_next number ≡ so.order.vsync number
  next_old number low = let t : nat_lt (come_to 0) number ≡ false = grind (arith, nat_tests, low) in rw t refl

  next_new : (number : ℕ) → come_to 0 < number → vsync_next number ≡ so.bound + number
  next_new number high = let t : nat_lt (come_to 0) number ≡ true = grind (arith, nat_tests, high) in rw t refl

  same_call : (one : CallAt) → IsCall after one → IsCall before one
  same_call one is = record { history = is.history; there = subst (λ (hs : List QueueHistory). Contains hs is.history) makes.histories is.there; of_queue = is.of_queue; at = is.at }

  same_sent : (s : ArrivalAt) → IsArrival after s → IsArrival before s
  same_sent s is = record { from_1 = is.from_1; at = ap (λ (xs : List ArrivalEntry). slice_get xs (pred s.number)) (sym makes.arrived) ∙ is.at }

  -- a vsync is one of before, or it is this one
  was_or_is : (at : VsyncRecords) → Contains after.vsyncs at → Contains before.vsyncs at ⊎ Contains makes.shown at
  was_or_is at there = Contains-append_cases before.vsyncs makes.shown at (subst (λ (vs : List VsyncRecords). Contains vs at) makes.vsyncs there)

  vsyncs_rise : (one next : ℕ) → one < next → vsync_next one < vsync_next next
  vsyncs_rise one next less = elim (cases_lt (come_to 0) next) [
    | inl high ↦
        let q = next_new next high in
        elim (cases_lt (come_to 0) one) [
          | inl also ↦ let p = next_new one also in omega (arith, p, q, less)
          | inr low ↦
              let p = next_old one low in
              let under = so.vsyncs_low one low in
              omega (arith, p, q, under)
        ]
    | inr low ↦
        let p = next_old one (omega (arith, low, less)) in
        let q = next_old next low in
        let rise = so.order.vsyncs one next less in
        omega (arith, p, q, rise)
  ]

  commits_rise : (at : VsyncRecords) (commit : CommitRecord) → Contains after.vsyncs at → Contains at.commits commit → so.order.arrival commit.arrival < vsync_next at.number
  commits_rise at commit there has = elim (was_or_is at there) [
    | inl was ↦
        let q = next_old at.number (so.made at was) in
        let rise = so.order.commits at commit was has in
        omega (arith, q, rise)
    | inr is ↦
        let number = makes.numbered at is in
        let q = next_new at.number (omega (arith, number)) in
        let under = so.arrivals_low commit.arrival (makes.commits at commit is has) in
        omega (arith, q, under)
  ]

  releases_rise : (one : CallAt) → IsCall after one → one.entry.caller ≡ 0 → vsync_next one.entry.step < so.order.call one
  releases_rise one a compositor =
      let call = same_call one a in
      let q = next_old one.entry.step (subst (λ (of : ℕ). one.entry.step ≤ come_to of) compositor (so.called one call)) in
      let rise = so.order.releases one call compositor in
      omega (arith, q, rise)

  ends_rise : (one : CallAt) (next : ℕ) → IsCall after one → one.entry.caller ≡ 0 → one.entry.step < next → so.order.call one < vsync_next next
  ends_rise one next a compositor less = elim (cases_lt (come_to 0) next) [
    | inl high ↦
        let q = next_new next high in
        let under = so.calls_low one (same_call one a) in
        omega (arith, q, under)
    | inr low ↦
        let q = next_old next low in
        let rise = so.order.ends one next (same_call one a) compositor less in
        omega (arith, q, rise)
  ]

  pub vsync_ordered : IsOrderedSoFar tells later after
  vsync_ordered = record {
    order = record {
      call = so.order.call;
      arrival = so.order.arrival;
      vsync = vsync_next;
      histories = λ one next a b there. so.order.histories one next (same_call one a) (same_call next b) there;
      arrivals = so.order.arrivals;
      vsyncs = vsyncs_rise;
      steps = λ one next a b behind. so.order.steps one next (same_call one a) (same_call next b) behind;
      sends = λ one s a b. so.order.sends one s (same_call one a) (same_sent s b);
      told = λ told s next a b. so.order.told told s next (same_sent s a) (same_call next b);
      commits = commits_rise;
      releases = releases_rise;
      ends = ends_rise;
    };
    bound = so.bound + come_to 0 + 2;
    calls_low = λ one a. let under = so.calls_low one (same_call one a) in omega (arith, under);
    arrivals_low = λ number most. let under = so.arrivals_low number (subst (λ (xs : List ArrivalEntry). number ≤ length xs) makes.arrived most) in omega (arith, under);
    vsyncs_low = λ number most. elim (cases_lt (come_to 0) number) [
      | inl high ↦
          let q = next_new number high in
          let now = comes.now in
          omega (arith, q, now, most)
      | inr low ↦
          let q = next_old number low in
          let under = so.vsyncs_low number low in
          omega (arith, q, under)
    ];
    called = λ one a. let low = so.called one (same_call one a) in let up = comes.rises one.entry.caller in omega (arith, low, up);
    sent = λ s a. let low = so.sent s (same_sent s a) in let up = comes.rises s.entry.actor in omega (arith, low, up);
    made = λ at there. elim (was_or_is at there) [
      | inl was ↦ let low = so.made at was in let now = comes.now in omega (arith, low, now)
      | inr is ↦ let number = makes.numbered at is in let now = comes.now in omega (arith, number, now)
    ];
    committed = λ at commit there has. elim (was_or_is at there) [
      | inl was ↦ subst (λ (xs : List ArrivalEntry). commit.arrival ≤ length xs) (sym makes.arrived) (so.committed at commit was has)
      | inr is ↦ subst (λ (xs : List ArrivalEntry). commit.arrival ≤ length xs) (sym makes.arrived) (makes.commits at commit is has)
    ];
  }

-- the sum of the numbers of the calls of a history from a place on
sum_from : (CallAt → ℕ) → ℕ → ℕ → List HistoryEntry → ℕ
sum_from number queue place [] = 0
sum_from number queue place (entry ∷ later) = number (record { queue = queue; place = place; entry = entry }) + sum_from number queue (suc place) later

in_sum : (number : CallAt → ℕ) (queue place i : ℕ) (entries : List HistoryEntry) (entry : HistoryEntry) → slice_get entries i ≡ Some entry
    → number (record { queue = queue; place = place + i; entry = entry }) ≤ sum_from number queue place entries
unfolding sum_from
in_sum number queue place i [] entry got = absurd (let within = slice_get_within [] i entry got in omega (arith, within))
in_sum number queue place zero (first ∷ later) entry got =
    let same : first ≡ entry = some_is first entry got in
    let here : place + 0 ≡ place = omega arith in
    subst (λ (n : ℕ). number (record { queue = queue; place = n; entry = entry }) ≤ number (record { queue = queue; place = place; entry = first }) + sum_from number queue (suc place) later) (sym here)
    (subst (λ (e : HistoryEntry). number (record { queue = queue; place = place; entry = e }) ≤ number (record { queue = queue; place = place; entry = first }) + sum_from number queue (suc place) later) same (omega arith))
in_sum number queue place (suc i) (first ∷ later) entry got =
    let rest = in_sum number queue (suc place) i later entry got in
    let next : suc place + i ≡ place + suc i = omega arith in
    let low = subst (λ (n : ℕ). number (record { queue = queue; place = n; entry = entry }) ≤ sum_from number queue (suc place) later) next rest in
    omega (arith, low)

sum_all : (CallAt → ℕ) → List QueueHistory → ℕ
sum_all number [] = 0
sum_all number (history ∷ later) = sum_from number history.queue 0 history.entries + sum_all number later

in_all : (number : CallAt → ℕ) (histories : List QueueHistory) (history : QueueHistory) → Contains histories history → sum_from number history.queue 0 history.entries ≤ sum_all number histories
unfolding sum_all
in_all number [] history there = absurd (omega (arith, there.1))
in_all number (first ∷ later) history (zero, low, same) = subst (λ (h : QueueHistory). sum_from number h.queue 0 h.entries ≤ sum_from number first.queue 0 first.entries + sum_all number later) same (omega arith)
in_all number (first ∷ later) history (suc i, low, same) =
    let rest = in_all number later history (i, omega (arith, low), same) in
    omega (arith, rest)

not_above : (number : ℕ → ℕ) → ((n m : ℕ) → n < m → number n < number m) → (n m : ℕ) → n ≤ m → number n ≤ number m
not_above number rises n m low = elim (cases_lt n m) [
  | inl less ↦ let up = rises n m less in omega (arith, up)
  | inr high ↦ let same : n ≡ m = omega (arith, low, high) in subst (λ (k : ℕ). number n ≤ number k) same (omega arith)
]

-- what is in one order is so below a bound
pub ordered_so_far : (tells : Bool) (come_to : ℕ → ℕ) (all : Happened) → InOneOrder tells all → ((one : CallAt) → IsCall all one → one.entry.step ≤ come_to one.entry.caller)
    → ((sent : ArrivalAt) → IsArrival all sent → sent.entry.step ≤ come_to sent.entry.actor) → ((at : VsyncRecords) → Contains all.vsyncs at → at.number ≤ come_to 0)
    → ((at : VsyncRecords) (commit : CommitRecord) → Contains all.vsyncs at → Contains at.commits commit → commit.arrival ≤ length all.arrived) → IsOrderedSoFar tells come_to all
ordered_so_far tells come_to all order called sent made committed = record {
  order = order;
  bound = sum_all order.call all.histories + order.arrival (length all.arrived) + order.vsync (come_to 0) + 1;
  calls_low = λ one a.
      let from_0 : 0 + one.place ≡ one.place = omega arith in
      let mine = subst (λ (n : ℕ). order.call (record { queue = a.history.queue; place = n; entry = one.entry }) ≤ sum_from order.call a.history.queue 0 a.history.entries) from_0
      (in_sum order.call a.history.queue 0 one.place a.history.entries one.entry a.at) in
      let low = subst (λ (q : ℕ). order.call (record { queue = q; place = one.place; entry = one.entry }) ≤ sum_from order.call a.history.queue 0 a.history.entries) a.of_queue mine in
      let whole = in_all order.call all.histories a.history a.there in
      omega (arith, low, whole);
  arrivals_low = λ number most. let up = not_above order.arrival order.arrivals number (length all.arrived) most in omega (arith, up);
  vsyncs_low = λ number most. let up = not_above order.vsync order.vsyncs number (come_to 0) most in omega (arith, up);
  called = called;
  sent = sent;
  made = made;
  committed = committed;
}

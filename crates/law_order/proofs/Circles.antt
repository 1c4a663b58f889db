-- Numbers that would rise in a circle.
use Rattle.std.proofs.Common.{◌≡◌, ℕ, ◌<◌, ◌≤◌, Bool, List, [], ◌∷◌, Contains, Some, refl, subst, arith, slice_get, inl, inr}
use Rattle.std.proofs.lemmas.Bool.{cases_lt}
use Rattle.std.proofs.lemmas.List.Elements.{Contains-get_or}
use Rattle.sf_record.specs.declared.event.VsyncRecords.{VsyncRecords}
use Rattle.sf_record.specs.declared.record.CommitRecord.{CommitRecord}
use Rattle.sf_record.specs.declared.record.HistoryEntry.{HistoryEntry}
use Rattle.sf_record.specs.declared.record.QueueHistory.{QueueHistory}
use Rattle.law_order.specs.Crossings.{crossed, frame_call, released_first, sets_mode, vsync_with, commit_of}
use Rattle.law_order.specs.Order.{ArrivalAt, CallAt, Happened, InOneOrder, IsArrival, IsCall, IsLaterStep, IsLaterThere}

pub circle : (tells : Bool) (all : Happened) (first second other_first other_second : CallAt)
    → IsCall all first → IsCall all second → IsCall all other_first → IsCall all other_second
    → IsLaterStep first second → IsLaterStep other_first other_second
    → IsLaterThere other_second first → IsLaterThere second other_first → InOneOrder tells all → ⊥
circle tells all first second other_first other_second a b c d s t q r order =
    let one = order.steps first second a b s in
    let two = order.histories second other_first b c r in
    let three = order.steps other_first other_second c d t in
    let four = order.histories other_second first d a q in
    omega (arith, one, two, three, four)

rises : (number : ℕ → ℕ) → ((n m : ℕ) → n < m → number n < number m) → (n m : ℕ) → n ≤ m → number n ≤ number m
rises number up n m h = elim (cases_lt n m) [
  | inl low ↦ let r = up n m low in omega (arith, r)
  | inr back ↦ let e : n ≡ m = omega (arith, h, back) in rw e (omega arith)
]

pub released : (tells : Bool) (all : Happened) (call release : CallAt) (sent : ArrivalAt) (at : VsyncRecords) (commit : CommitRecord)
    → IsCall all call → IsCall all release → IsArrival all sent → Contains all.vsyncs at → Contains at.commits commit
    → call.entry.caller ≡ sent.entry.actor → call.entry.step < sent.entry.step → commit.arrival ≡ sent.number
    → release.entry.caller ≡ 0 → at.number ≤ release.entry.step → IsLaterThere release call → InOneOrder tells all → ⊥
released tells all call release sent at commit is_call is_release is_sent shown has by step same compositor by_then there order =
    let one = order.sends call sent is_call is_sent by step in
    let two = subst (λ n. order.arrival n < order.vsync at.number) same (order.commits at commit shown has) in
    let three = order.releases release is_release compositor in
    let four = order.histories release call is_release is_call there in
    let five = rises order.vsync order.vsyncs at.number release.entry.step by_then in
    omega (arith, one, two, three, four, five)

at_first : {X : Type 0} (x : X) (xs : List X) → Contains (x ∷ xs) x
at_first x xs = Contains-get_or (x ∷ xs) 0 x (omega arith)

at_second : {X : Type 0} (x y : X) (xs : List X) → Contains (x ∷ y ∷ xs) y
at_second x y xs = Contains-get_or (x ∷ y ∷ xs) 1 y (omega arith)

-- the histories of two queues whose calls stand in a circle
one_queue : QueueHistory
one_queue = record { queue = 1; entries = sets_mode 2 2 ∷ sets_mode 1 1 ∷ [] }

other_queue : QueueHistory
other_queue = record { queue = 2; entries = sets_mode 1 2 ∷ sets_mode 2 1 ∷ [] }

on_one : (place : ℕ) (entry : HistoryEntry) → slice_get one_queue.entries place ≡ Some entry → IsCall crossed (record { queue = 1; place = place; entry = entry })
unfolding one_queue other_queue
on_one place entry e = record { history = one_queue; there = at_first one_queue (other_queue ∷ []); of_queue = refl; at = e }

on_other : (place : ℕ) (entry : HistoryEntry) → slice_get other_queue.entries place ≡ Some entry → IsCall crossed (record { queue = 2; place = place; entry = entry })
unfolding one_queue other_queue
on_other place entry e = record { history = other_queue; there = at_second one_queue other_queue []; of_queue = refl; at = e }

pub crossed_refused : (tells : Bool) → InOneOrder tells crossed → ⊥
unfolding one_queue other_queue
crossed_refused tells order =
    circle tells crossed
    (record { queue = 1; place = 1; entry = sets_mode 1 1 })
    (record { queue = 2; place = 0; entry = sets_mode 1 2 })
    (record { queue = 2; place = 1; entry = sets_mode 2 1 })
    (record { queue = 1; place = 0; entry = sets_mode 2 2 })
    (on_one 1 (sets_mode 1 1) refl) (on_other 0 (sets_mode 1 2) refl) (on_other 1 (sets_mode 2 1) refl) (on_one 0 (sets_mode 2 2) refl)
    (record { of_actor = λ e. absurd (cc (e)); caller = refl; step = omega arith })
    (record { of_actor = λ e. absurd (cc (e)); caller = refl; step = omega arith })
    (record { queue = refl; place = omega arith })
    (record { queue = refl; place = omega arith })
    order

-- a history that begins with the release
stale : HistoryEntry
stale = record { caller = 0; step = 4; kind = 14; status = 1; slot = 0; frame = 1 }

released_queue : QueueHistory
released_queue = record { queue = 1; entries = stale ∷ frame_call 1 5 7 ∷ frame_call 1 6 13 ∷ [] }

on_released : (place : ℕ) (entry : HistoryEntry) → slice_get released_queue.entries place ≡ Some entry → IsCall released_first (record { queue = 1; place = place; entry = entry })
unfolding stale released_queue
on_released place entry e = record { history = released_queue; there = at_first released_queue []; of_queue = refl; at = e }

pub released_first_refused : (tells : Bool) → InOneOrder tells released_first → ⊥
unfolding stale released_queue
released_first_refused tells order =
    released tells released_first
    (record { queue = 1; place = 1; entry = frame_call 1 5 7 })
    (record { queue = 1; place = 0; entry = stale })
    (record { number = 1; entry = record { actor = 1; step = 9; token = 1 } })
    (vsync_with 1 1) (commit_of 1)
    (on_released 1 (frame_call 1 5 7) refl) (on_released 0 stale refl)
    (record { from_1 = omega arith; at = refl })
    (at_first (vsync_with 1 1) (vsync_with 4 2 ∷ [])) (at_first (commit_of 1) [])
    refl (omega arith) refl refl (omega arith)
    (record { queue = refl; place = omega arith })
    order

-- A number for each vsync of a compositor among threads: the stamp of its take, and greater ones for those that never were.
use Rattle.std.proofs.Common.{◌≡◌, ℕ, ◌+◌, ◌-◌, ◌<◌, ◌≤◌, ◌==◌, true, false, refl, ap, inl, inr, arith}
use Rattle.std.specs.Prelude.{◌⊎◌, if◌then◌else◌, nat_lt}
use Rattle.std.proofs.lemmas.Bool.{cases_eq, cases_lt}
use Rattle.std.proofs.lemmas.Bool.Decides.{nat_tests}
use Rattle.atomic_table.specs.Seated.{TableId}
use Rattle.law_threads.specs.sf_live_compositor.Vsyncs.{Begin, IsVsync, More, Sitting, Vsyncs}
use Rattle.law_threads.specs.sf_live_seats.declared.locks.Locks.{Locks}
use Rattle.law_threads.specs.sf_live_seats.declared.seats.Seats.{Seats}
use Rattle.law_threads.specs.sf_surface.Tokens.{Issued, ReadLeaseOf}
use Rattle.law_threads.specs.sf_turns.Views.{SeatView}
use Rattle.law_threads.specs.sf_txn.declared.lease.Lease.{Ghosts}

module _ {B : Type 0} (lease : Ghosts ReadLeaseOf SeatView ReadLeaseOf Issued) (table : TableId) (locks : Locks B) (period : ℕ) where
  abbrev pub first_stamp : Sitting B → ℕ → ℕ
  first_stamp start n = if n == 0 then 0 else start.seats.last.stamp + n

  abbrev pub vsync_stamp : {start end : Sitting B} → Vsyncs lease table locks period start end → ℕ → ℕ
  vsync_stamp {start} Begin n = first_stamp start n
  vsync_stamp (More {before} {after} log v) n =
      if nat_lt n after.number then vsync_stamp log n else if n == after.number then v.took.last.stamp else after.seats.last.stamp + (n - after.number)

  module _ (before after : Sitting B) (v : IsVsync lease table locks period before after) where
    -- its take is behind all that the compositor did before
    pub took_later : before.seats.last.stamp < v.took.last.stamp
    took_later =
        let rose = v.takes.rose in
        let same = ap (λ (seats : Seats B). seats.last.stamp) v.look in
        omega (arith, rose, same)

    pub goes_up : before.seats.last.stamp ≤ after.seats.last.stamp
    goes_up = let up = took_later in let last = v.last in omega (arith, up, last)

  pub stamp_below : {start before after : Sitting B} (log : Vsyncs lease table locks period start before) (v : IsVsync lease table locks period before after) (n : ℕ) → n < after.number
      → vsync_stamp (More log v) n ≡ vsync_stamp log n
  stamp_below {start} {before} {after} log v n low = let t : nat_lt n after.number ≡ true = grind (arith, nat_tests, low) in rw t refl

  pub stamp_at : {start before after : Sitting B} (log : Vsyncs lease table locks period start before) (v : IsVsync lease table locks period before after) (n : ℕ) → n ≡ after.number
      → vsync_stamp (More log v) n ≡ v.took.last.stamp
  stamp_at {start} {before} {after} log v n same =
      let t : nat_lt n after.number ≡ false = grind (arith, nat_tests, same) in
      let e : (n == after.number) ≡ true = grind (arith, nat_tests, same) in
      rw (t, e) refl

  pub stamp_beyond : {start before after : Sitting B} (log : Vsyncs lease table locks period start before) (v : IsVsync lease table locks period before after) (n : ℕ) → after.number < n
      → vsync_stamp (More log v) n ≡ after.seats.last.stamp + (n - after.number)
  stamp_beyond {start} {before} {after} log v n high =
      let t : nat_lt n after.number ≡ false = grind (arith, nat_tests, high) in
      let e : (n == after.number) ≡ false = grind (arith, nat_tests, high) in
      rw (t, e) refl

  stamp_first : (start : Sitting B) (n : ℕ) → 0 < n → first_stamp start n ≡ start.seats.last.stamp + n
  stamp_first start n some = let e : (n == 0) ≡ false = grind (arith, nat_tests, some) in rw e refl

  -- where a number is below, at or above another
  below_or : (n m : ℕ) → (n < m) ⊎ ((n ≡ m) ⊎ (m < n))
  below_or n m = elim (cases_lt n m) [
    | inl less ↦ inl less
    | inr most ↦ elim (cases_eq n m) [
      | inl same ↦ inr (inl same)
      | inr apart ↦ inr (inr (omega (arith, most, apart)))
    ]
  ]

  -- up to the last vsync they are no greater than the last stamp
  pub stamp_low : (start end : Sitting B) (log : Vsyncs lease table locks period start end) → start.number ≡ 0 → (n : ℕ) → n ≤ end.number → vsync_stamp log n ≤ end.seats.last.stamp
  stamp_low start end Begin first n low = let none : n ≡ 0 = omega (arith, first, low) in let e : (n == 0) ≡ true = grind (arith, nat_tests, none) in rw e (omega arith)
  stamp_low start end (More {before} {after} log v) first n low = elim (below_or n after.number) [
    | inl less ↦
        let counted = v.counted in
        let rest = stamp_low start before log first n (omega (arith, less, counted)) in
        let up = goes_up before after v in
        let same = stamp_below log v n less in
        omega (arith, rest, up, same)
    | inr more ↦ elim more [
      | inl here ↦ let same = stamp_at log v n here in let last = v.last in omega (arith, same, last)
      | inr above ↦ absurd (omega (arith, above, low))
    ]
  ]

  -- and beyond it they are greater
  pub stamp_high : (start end : Sitting B) (log : Vsyncs lease table locks period start end) → start.number ≡ 0 → (n : ℕ) → end.number < n → end.seats.last.stamp < vsync_stamp log n
  stamp_high start end Begin first n high = let some : 0 < n = omega (arith, first, high) in let same = stamp_first start n some in omega (arith, same, some)
  stamp_high start end (More {before} {after} log v) first n high = let same = stamp_beyond log v n high in omega (arith, same, high)

  -- they rise
  pub stamp_rises : (start end : Sitting B) (log : Vsyncs lease table locks period start end) → start.number ≡ 0 → (n m : ℕ) → n < m → vsync_stamp log n < vsync_stamp log m
  stamp_rises start end Begin first n m less = elim (cases_eq n 0) [
    | inl none ↦
        let e : (n == 0) ≡ true = grind (arith, nat_tests, none) in
        let zero : first_stamp start n ≡ 0 = rw e refl in
        let same = stamp_first start m (omega (arith, less)) in
        omega (arith, zero, same, less)
    | inr some ↦
        let one = stamp_first start n (omega (arith, some)) in
        let two = stamp_first start m (omega (arith, less)) in
        omega (arith, one, two, less)
  ]
  stamp_rises start end (More {before} {after} log v) first n m less = elim (below_or m after.number) [
    | inl low ↦
        let rest = stamp_rises start before log first n m less in
        let one = stamp_below log v n (omega (arith, less, low)) in
        let two = stamp_below log v m low in
        omega (arith, rest, one, two)
    | inr more ↦ elim more [
      | inl here ↦
          let counted = v.counted in
          let one = stamp_below log v n (omega (arith, less, here)) in
          let two = stamp_at log v m here in
          let most = stamp_low start before log first n (omega (arith, less, here, counted)) in
          let later = took_later before after v in
          omega (arith, one, two, most, later)
      | inr above ↦
          let two = stamp_beyond log v m above in
          elim (cases_lt after.number n) [
            | inl over ↦ let one = stamp_beyond log v n over in omega (arith, one, two, less, over)
            | inr under ↦ let most = stamp_low start after (More log v) first n under in omega (arith, most, two, above)
          ]
    ]
  ]

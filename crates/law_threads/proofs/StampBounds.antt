-- The calls of vsyncs have stamps between bounds, where what the compositor's seats knew, with stamps, is how the histories began.
use Rattle.std.proofs.Common.{◌≡◌, ℕ, suc, ◌<◌, ◌≤◌, true, false, List, [], ◌∷◌, ◌++◌, arith, ap, ◌∙◌, sym, refl, inl, inr, subst, length, map}
use Rattle.std.specs.Prelude.{Contains, if◌then◌else◌, nat_le}
use Rattle.std.specs.List.{AllZip}
use Rattle.std.proofs.lemmas.Bool.{cases_lt}
use Rattle.std.proofs.lemmas.List.{append_assoc}
use Rattle.std.proofs.lemmas.List.Elements.{Contains-append_left}
use Rattle.atomic_table.specs.Seated.{TableId}
use Rattle.law_draws.specs.sf_calls.declared.object.Entry.{Entry}
use Rattle.law_draws.specs.sf_calls.Histories.{Begins, GoesOnWithout, calls_by, entry}
use Rattle.law_draws.specs.sf_commit.Releases.{ReleaseOf}
use Rattle.sf_live_compositor.specs.sf_calls_stamped.Stamps.{newest_stamp, stamp_of, unstamped}
use Rattle.law_draws.specs.sf_surface.Histories.{Made}
use Rattle.law_draws.specs.sf_surface.declared.call.QCall.TheVariants as call
use Rattle.law_draws.specs.sf_surface.Tokens.{Issued, ReadLeaseOf}
use Rattle.sf_turns.specs.Views.{SeatView}
use Rattle.law_draws.specs.sf_txn.declared.lease.Lease.{Ghosts}
use Rattle.law_draws.specs.sf_actor.Desks.{DeskHome, DeskView}
use Rattle.law_draws.specs.law_rights.Standing.{GiveAll}
use Rattle.sf_live_compositor.specs.sf_live_seats.declared.first.FirstSeats.{FirstSeats}
use Rattle.sf_live_compositor.specs.sf_live_seats.declared.locks.Locks.{Locks}
use Rattle.sf_live_compositor.specs.sf_live_seats.declared.seats.Seats.{Seats}
use Rattle.sf_live_compositor.specs.sf_live_seats.Seats.{QueuePass, calls_made, home_of, moment, moments_of, post_moment, posts_of, sent_in, view_of}
use Rattle.law_threads.specs.Members.{AreBetween, AreTimed, IsTimed, back_spots, seen_at, stamp_in, stamps}
use Rattle.law_threads.specs.Stamped.{AreStamped, IsStamped}
use Rattle.sf_live_compositor.specs.Vsyncs.{IsVsync, Sitting, Vsyncs}
use Rattle.sf_live_compositor.specs.Vsyncs.{Begin, More}
use Rattle.law_threads.proofs.TryOutcomes.{all_begin}
use Rattle.law_threads.proofs.CallStamps.{IsStampedAt, known_seen, made_there, stamp_there, stamped_at, unstamped_length}
use Rattle.law_threads.proofs.CompositorPieces.{give_each}

module _ {C R : Type 0} where
  -- the newest call, with its stamp
  record Newest (seen : List (Entry (ℕ × C) (ℕ × R))) (many : ℕ) : Type 0 where
    e : Entry (ℕ × C) (ℕ × R)
    rest : List (Entry (ℕ × C) (ℕ × R))
    is : seen ≡ e ∷ rest
    height : length rest ≡ many

  newest_of : (seen : List (Entry (ℕ × C) (ℕ × R))) (made : Entry C R) (earlier : List (Entry C R)) → unstamped seen ≡ made ∷ earlier → Newest seen (length earlier)
  newest_of [] made earlier same = absurd (cc same)
  newest_of (e ∷ rest) made earlier same =
      record { e = e; rest = rest; is = refl; height = sym (unstamped_length rest) ∙ ap (λ (es : List (Entry C R)). length es) (let it : unstamped rest ≡ earlier = cc in it) }

  -- its stamp is that of its place in any history that began so
  stamp_newest : (seen all : List (Entry (ℕ × C) (ℕ × R))) (made : Entry C R) (earlier : List (Entry C R)) → unstamped seen ≡ made ∷ earlier → Begins seen all → stamp_in (length earlier) all ≡ newest_stamp seen
  stamp_newest seen all made earlier same begins =
      let newest = newest_of seen made earlier same in
      ap (λ (n : ℕ). stamp_in n all) (sym newest.height)
      ∙ ap (stamp_in (length newest.rest)) (begins.1 ∙ ap (λ (es : List (Entry (ℕ × C) (ℕ × R))). begins.0 ++ es) newest.is)
      ∙ stamp_there begins.0 newest.e newest.rest
      ∙ sym (ap newest_stamp newest.is)

module _ {B : Type 0} where
  same_goes : (by : ℕ) (passes : List (QueuePass B)) → AllZip (λ (last own : QueuePass B). GoesOnWithout by own.seen last.seen) passes passes
  same_goes by [] = tt
  same_goes by (pass ∷ passes) = (record { begins = ([], refl); calls = refl }, same_goes by passes)

module _ {B : Type 0} (lease : Ghosts ReadLeaseOf SeatView ReadLeaseOf Issued) (table : TableId) (locks : Locks B) (period : ℕ) where
  -- up to each vsync, the stamp of the last call
  bound_of : {start end : Sitting B} → Vsyncs lease table locks period start end → ℕ → ℕ
  bound_of {start} Begin n = start.seats.last.stamp
  bound_of (More {before} {after} log vsync) n = if nat_le after.number n then after.seats.last.stamp else bound_of log n

  module _ (before after : Sitting B) (vsync : IsVsync lease table locks period before after) where
    took_later : before.seats.last.stamp < vsync.took.last.stamp
    took_later =
        let rose = vsync.takes.rose in
        let same = ap (λ (seats : Seats B). seats.last.stamp) vsync.look in
        omega (arith, rose, same)

    goes_up : before.seats.last.stamp ≤ after.seats.last.stamp
    goes_up = let up = took_later in let last = vsync.last in omega (arith, up, last)

  le_true : (a b : ℕ) → a ≤ b → nat_le a b ≡ true
  le_true a b less = grind (arith, less)

  le_false : (a b : ℕ) → b < a → nat_le a b ≡ false
  le_false a b less = grind (arith, less)

  bound_top : {start end : Sitting B} (log : Vsyncs lease table locks period start end) (n : ℕ) → end.number ≤ n → bound_of log n ≡ end.seats.last.stamp
  unfolding bound_of
  bound_top Begin n high = refl
  bound_top (More {before} {after} log vsync) n high = rw (le_true after.number n high) refl

  bound_before : {start before after : Sitting B} (log : Vsyncs lease table locks period start before) (vsync : IsVsync lease table locks period before after) (n : ℕ) → n < after.number
      → bound_of (More log vsync) n ≡ bound_of log n
  unfolding bound_of
  bound_before {start} {before} {after} log vsync n low = rw (le_false after.number n low) refl

  bound_most : {start end : Sitting B} (log : Vsyncs lease table locks period start end) (n : ℕ) → bound_of log n ≤ end.seats.last.stamp
  unfolding bound_of
  bound_most Begin n = omega arith
  bound_most (More {before} {after} log vsync) n = elim (cases_lt n after.number) [
    | inl low ↦
        let most = bound_most log n in
        let up = goes_up before after vsync in
        let same = bound_before log vsync n low in
        omega (arith, most, up, same)
    | inr high ↦ let same = bound_top (More log vsync) n high in omega (arith, same)
  ]

  bound_rises : {start end : Sitting B} (log : Vsyncs lease table locks period start end) (n m : ℕ) → n ≤ m → bound_of log n ≤ bound_of log m
  unfolding bound_of
  bound_rises Begin n m less = omega arith
  bound_rises (More {before} {after} log vsync) n m less = elim (cases_lt m after.number) [
    | inl low ↦
        let rest = bound_rises log n m less in
        let one = bound_before log vsync n (omega (arith, less, low)) in
        let two = bound_before log vsync m low in
        omega (arith, rest, one, two)
    | inr high ↦
        let most = bound_most (More log vsync) n in
        let same = bound_top (More log vsync) m high in
        omega (arith, most, same)
  ]

  module _ (first : FirstSeats B) where
    module _ (before after : Sitting B) (vsync : IsVsync lease table locks period before after) (by_it : after.seats.by ≡ 0) (stamped : IsStamped lease table locks period first before after vsync) where
      pub take_stamp : stamps first (0, length vsync.takes.took.earlier) ≡ vsync.took.last.stamp
      take_stamp =
          stamp_newest vsync.took.arrivals.seen first.seats.arrivals.seen _ vsync.takes.took.earlier vsync.takes.took.newest
          (subst (λ pass. Begins pass.seen first.seats.arrivals.seen) vsync.arrivals stamped.arrivals)
          ∙ vsync.takes.stamp

      -- a call of the vsync is behind its take
      module _ (queue : ℕ) (made : Made B) (more earlier : List (Made B)) (is : (view_of after.seats).calls queue ≡ more ++ made ∷ earlier) (own : made.by ≡ 0) (step : made.call.0 ≡ after.number) where
        found : IsStampedAt (seen_at queue after.seats.queues.items) made earlier
        found = stamped_at (seen_at queue after.seats.queues.items) more made earlier (sym (known_seen queue after.seats.queues.items) ∙ is)

        stamp_is : stamps first (suc queue, length earlier) ≡ stamp_of found.e
        stamp_is =
            ap (λ (n : ℕ). stamp_in n (seen_at queue first.seats.queues.items)) (sym found.height)
            ∙ ap (stamp_in (length found.before)) ((stamped.queues queue).1 ∙ ap (λ es. (stamped.queues queue).0 ++ es) found.is ∙ sym (append_assoc (stamped.queues queue).0 found.more (found.e ∷ found.before)))
            ∙ stamp_there ((stamped.queues queue).0 ++ found.more) found.e found.before

        there : Contains (moments_of after.seats) (moment found.e)
        there = Contains-append_left (calls_made after.seats.by after.seats.queues.items) (sent_in (calls_by after.seats.by after.seats.arrivals.seen) ++ map post_moment (posts_of after.seats.intake)) (moment found.e)
            (made_there queue after.seats.by after.seats.by locks.queues.items after.seats.queues.items after.seats.queues.items vsync.own.queues vsync.own.queues (same_goes after.seats.by after.seats.queues.items)
            found.more found.e found.before found.is (ap (λ (m : Made B). m.by) found.without ∙ own ∙ sym by_it))

        number_is : (moment found.e).0 ≡ after.number
        number_is = ap (λ (m : Made B). m.call.0) found.without ∙ step

        pub call_high : stamps first (suc queue, length earlier) ≤ after.seats.last.stamp
        call_high = let high = vsync.own.in_order.stamp (moment found.e) there in let same = stamp_is in omega (arith, high, same)

        pub call_low : stamps first (0, length vsync.takes.took.earlier) ≤ stamps first (suc queue, length earlier)
        call_low = elim (vsync.later (moment found.e) there) [
          | inl was ↦
              let early = vsync.early (moment found.e) was in
              let number = number_is in
              let counted = vsync.counted in
              absurd (omega (arith, early, number, counted))
          | inr later ↦
              let take = take_stamp in
              let same = stamp_is in
              omega (arith, later, take, same)
        ]

      backs : (home : DeskHome) (releases : List (ReleaseOf ReadLeaseOf)) (old : DeskView B) (all : GiveAll home after.number releases old (view_of after.seats))
          → AreBetween (stamps first) (stamps first (0, length vsync.takes.took.earlier)) after.seats.last.stamp (back_spots home after.number releases old (view_of after.seats) all)
      backs home [] old all = tt
      backs home (release ∷ releases) old all = (
        call_low release.queue.0 (entry 0 (after.number, call.Release release.lease release.fence) all.1.reply) behind.0 all.1.made.earlier is refl refl,
        call_high release.queue.0 (entry 0 (after.number, call.Release release.lease release.fence) all.1.reply) behind.0 all.1.made.earlier is refl refl,
        backs home releases all.0 all.2,
      )
        where
          behind : (more : List (Made B)) × ((view_of after.seats).calls release.queue.0 ≡ more ++ all.0.calls release.queue.0)
          behind = all_begin 0 after.number (give_each home after.number releases all.0 (view_of after.seats) all.2).gives all.0 (view_of after.seats)
              (give_each home after.number releases all.0 (view_of after.seats) all.2).all release.queue.0

          is : (view_of after.seats).calls release.queue.0 ≡ behind.0 ++ entry 0 (after.number, call.Release release.lease release.fence) all.1.reply ∷ all.1.made.earlier
          is = behind.1 ∙ ap (λ (cs : List (Made B)). behind.0 ++ cs) all.1.made.newest

    log_timed : {start end : Sitting B} (log : Vsyncs lease table locks period start end) (bound : ℕ → ℕ) → ((n : ℕ) → n ≤ end.number → bound n ≡ bound_of log n) → end.seats.by ≡ 0
        → AreStamped lease table locks period first log → AreTimed lease table locks period (stamps first) bound log
    log_timed Begin bound same by_it stamped = tt
    log_timed (More {before} {after} log vsync) bound same by_it stamped =
        (log_timed log bound (λ n low. let counted = vsync.counted in same n (omega (arith, low, counted)) ∙ bound_before log vsync n (omega (arith, low, counted))) (sym vsync.caller ∙ by_it) stamped.0, one)
      where
        at_after : bound after.number ≡ after.seats.last.stamp
        at_after = same after.number (omega arith) ∙ bound_top (More log vsync) after.number (omega arith)

        at_before : bound before.number ≡ before.seats.last.stamp
        at_before =
            let counted = vsync.counted in
            same before.number (omega (arith, counted)) ∙ bound_before log vsync before.number (omega (arith, counted)) ∙ bound_top log before.number (omega arith)

        one : IsTimed lease table locks period (stamps first) bound before after vsync
        one = record {
          low =
              (let up = took_later before after vsync in
              let take = take_stamp before after vsync by_it stamped.1 in
              let low = at_before in
              omega (arith, up, take, low));
          high = (let last = vsync.last in let take = take_stamp before after vsync by_it stamped.1 in let high = at_after in omega (arith, last, take, high));
          backs = subst (λ (high : ℕ). AreBetween (stamps first) (stamps first (0, length vsync.takes.took.earlier)) high
              (back_spots (home_of locks vsync.took) after.number vsync.told.releases (view_of (record vsync.took { turns = vsync.turns })) (view_of after.seats) vsync.gives)) (sym at_after)
              (backs before after vsync by_it stamped.1 (home_of locks vsync.took) vsync.told.releases (view_of (record vsync.took { turns = vsync.turns })) vsync.gives);
        }

    -- the bounds rise, and each vsync is between its own
    pub vsyncs_timed : (start end : Sitting B) (log : Vsyncs lease table locks period start end) → end.seats.by ≡ 0 → AreStamped lease table locks period first log
        → (bound : ℕ → ℕ) × ((n m : ℕ) → n ≤ m → bound n ≤ bound m) × AreTimed lease table locks period (stamps first) bound log
    vsyncs_timed start end log by_it stamped = (bound_of log, bound_rises log, log_timed log (bound_of log) (λ n low. refl) by_it stamped)

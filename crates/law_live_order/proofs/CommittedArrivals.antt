-- What a vsync of a compositor among threads commits had arrived before its take.
use Rattle.std.proofs.Common.{◌≡◌, ℕ, ◌<◌, ◌≤◌, Bool, true, false, List, [], ◌∷◌, ◌++◌, refl, ap, ◌∙◌, sym, inl, inr, subst, arith}
use Rattle.std.specs.Prelude.{All, Contains, if◌then◌else◌}
use Rattle.std.specs.List.{AllZip}
use Rattle.std.proofs.lemmas.List.{append_assoc}
use Rattle.std.proofs.lemmas.List.Elements.{All-append, All-cons, All-contains, All-head, All-nil, All-tail, All-weaker, Contains-append_cases}
use Rattle.atomic_table.specs.Seated.{TableId}
use Rattle.sf_base.specs.declared.fences.Seen.{Seen}
use Rattle.sf_commit.proofs.DecideLemmas.{all_left}
use Rattle.law_threads.specs.sf_calls.Histories.{Begins}
use Rattle.law_threads.specs.sf_calls.declared.object.Entry.{Entry}
use Rattle.law_threads.specs.sf_calls_stamped.Stamps.{StampsRise, newest_stamp, stamp_of, unstamped}
use Rattle.law_threads.specs.sf_commit.Rounds.{Leads, Round, committed, facts_of}
use Rattle.law_threads.specs.sf_commit.declared.vsync.Commit.{Commit}
use Rattle.law_threads.specs.sf_commit.Handlers.{begun, last_of}
use Rattle.law_threads.specs.sf_live_compositor.Vsyncs.{Begin, IsVsync, More, Sitting, Vsyncs}
use Rattle.law_threads.specs.sf_live_seats.Arriving.{ArrivalCalls, ArrivalEntry, Arrived, Arriving}
use Rattle.law_threads.specs.sf_live_seats.declared.locks.Locks.{Locks}
use Rattle.law_threads.specs.sf_record.declared.event.VsyncRecords.{VsyncRecords}
use Rattle.law_threads.specs.sf_record.declared.record.CommitRecord.{CommitRecord}
use Rattle.law_threads.specs.sf_script_scene.Scene.{SceneValue}
use Rattle.law_threads.specs.sf_surface.Tokens.{Issued, ReadLeaseOf}
use Rattle.law_threads.specs.sf_token.Loads.{IsLookedArrival}
use Rattle.law_threads.specs.sf_token.Pending.{Arrival, is_of}
use Rattle.law_threads.specs.sf_token.declared.arrivals.ArriveCall.TheVariants as arrive
use Rattle.law_threads.specs.sf_token.declared.arrivals.ArriveReply.TheVariants as reply
use Rattle.law_threads.specs.sf_turns.Views.{SeatView}
use Rattle.law_threads.specs.sf_txn.declared.lease.Lease.{Ghosts}
use Rattle.law_threads.specs.sf_actor.Plain.{taken_in}
use Rattle.law_threads.specs.sf_play_report.Reports.{has_commits}
use Rattle.law_threads.specs.sf_play.Showing.{vsync_shown}
use Rattle.law_threads.specs.law_played.Commits.{commit_shown}
use Rattle.law_threads.proofs.law_played_lemmas.Members.{has_cases, has_none, map_has}
use Rattle.law_threads.proofs.law_played_lemmas.OrderLemmas.{below, found_has}
use Rattle.law_threads.proofs.law_played_lemmas.PathLemmas.{commits_along, ready_next, told_along}
use Rattle.law_joins.specs.Logs.{OnlyFirstTakes, reports_of, shown_of}
use Rattle.law_joins.proofs.Fronts.{arrivals_begin, begins_on}
use Rattle.law_joins.proofs.Takes.{TakesAll, log_takes, takes_rise, vsync_takes}
use Rattle.law_live_order.proofs.ArrivalStamps.{arrival_stamp, many_sent, sent_low, stamp_stays}
use Rattle.law_live_order.proofs.VsyncStamps.{stamp_at, stamp_below, vsync_stamp}

-- an arrival has a number up to this
abbrev IsLow : ℕ → Arrival ReadLeaseOf → Type 0
IsLow last a = a.number ≤ last

-- of what is committed, and of what still waits
told_low : (last : ℕ) (drawn : ReadLeaseOf → Bool) (seen : Seen) (expected : ℕ) (r end : Round ReadLeaseOf) (taken : List (Arrival ReadLeaseOf)) → All (IsLow last) r.pending → Leads drawn seen expected r taken end
    → All (λ (t : Commit). t.number ≤ last) (told_along r taken) × All (IsLow last) end.pending
told_low last drawn seen expected r end [] low leads = (All-nil (λ (t : Commit). t.number ≤ last), subst (λ (x : Round ReadLeaseOf). All (IsLow last) x.pending) (sym leads) low)
told_low last drawn seen expected r end (a ∷ later) low leads =
    let next = ready_next drawn seen expected (facts_of r) r.pending a leads.0.0 in
    let rest = told_low last drawn seen expected (committed r a) end later (all_left (IsLow last) (is_of a.txn.token) r.pending low) leads.1 in
    (All-cons (λ (t : Commit). t.number ≤ last) _ (told_along (committed r a) later) (found_has (IsLow last) (is_of a.txn.token) r.pending a low next.head) rest.0, rest.1)

looked_low : (lease : Ghosts ReadLeaseOf SeatView ReadLeaseOf Issued) (last : ℕ) (old new : List (Arrival ReadLeaseOf)) → AllZip (IsLookedArrival lease) old new → All (IsLow last) old → All (IsLow last) new
looked_low lease last [] [] looked low = All-nil (IsLow last)
looked_low lease last [] (y ∷ new) looked low = absurd looked
looked_low lease last (x ∷ old) [] looked low = absurd looked
looked_low lease last (x ∷ old) (y ∷ new) looked low =
    let same = looked.0.number in
    let here = All-head (IsLow last) x old low in
    All-cons (IsLow last) y new (omega (arith, same, here)) (looked_low lease last old new looked.1 (All-tail (IsLow last) x old low))

rise_end : (more seen : List ArrivalEntry) → StampsRise (more ++ seen) → StampsRise seen
rise_end [] seen rise = rise
rise_end (e ∷ more) seen rise = rise_end more seen rise.2

first_is : {X : Type 0} {x y : X} {xs ys : List X} → x ∷ xs ≡ y ∷ ys → x ≡ y
first_is e = cc (e)

-- the newest call takes
record NewestTakes (seen : List ArrivalEntry) : Type 0 where
  e : ArrivalEntry
  earlier : List ArrivalEntry
  is : seen ≡ e ∷ earlier
  takes : e.call.1 ≡ arrive.Take

newest_takes : (seen : List ArrivalEntry) (by : ℕ) (batch : Arrived) (earlier : ArrivalCalls) → unstamped seen ≡ record { by = by; call = arrive.Take; reply = batch } ∷ earlier → NewestTakes seen
newest_takes [] by batch earlier e = absurd (cc (e))
newest_takes (x ∷ seen) by batch earlier e = record { e = x; earlier = seen; is = refl; takes = ap (λ (c : Entry Arriving Arrived). c.call) (first_is e) }

taken_is : (e : ArrivalEntry) (earlier : List ArrivalEntry) → e.call.1 ≡ arrive.Take → taken_in (unstamped (e ∷ earlier)) ≡ many_sent earlier
taken_is e earlier takes =
    subst (λ (asked : Arriving). taken_in (unstamped (record { by = e.by; call = (e.call.0, asked); reply = e.reply } ∷ earlier)) ≡ many_sent earlier) (sym takes) refl

module _ {B : Type 0} (lease : Ghosts ReadLeaseOf SeatView ReadLeaseOf Issued) (table : TableId) (locks : Locks B) (period : ℕ) (scene : SceneValue) (arriving : ArrivalCalls) (only : OnlyFirstTakes arriving)
    (all : List ArrivalEntry) (rise : StampsRise all) where
  -- what a vsync shows
  abbrev shown_report : (before after : Sitting B) → IsVsync lease table locks period before after → VsyncRecords
  shown_report before after v = vsync_shown scene after.number v.expected v.seen v.told.commits after.handler.tree

  module _ (start before after : Sitting B) (log : Vsyncs lease table locks period start before) (v : IsVsync lease table locks period before after) (none : start.handler.last ≡ 0)
      (nothing : start.seats.arrivals.seen ≡ []) (first : after.seats.by ≡ 0) (begins : Begins (unstamped after.seats.arrivals.seen) arriving) (low : All (IsLow before.handler.last) before.handler.pending) where
    was_taken : before.handler.last ≡ taken_in (unstamped before.seats.arrivals.seen)
    was_taken = (log_takes lease table locks period arriving only start before log none nothing (sym v.caller ∙ first)
        (begins_on (unstamped before.seats.arrivals.seen) (unstamped after.seats.arrivals.seen) arriving (arrivals_begin lease table locks period before after v) begins)).last

    is_taken : after.handler.last ≡ taken_in (unstamped after.seats.arrivals.seen)
    is_taken = (log_takes lease table locks period arriving only start after (More log v) none nothing first begins).last

    takes : TakesAll (unstamped before.seats.arrivals.seen) v.arrived (unstamped after.seats.arrivals.seen)
    takes = vsync_takes lease table locks period arriving only before after v first begins

    last_is : after.handler.last ≡ last_of before.handler.last v.arrived
    last_is = ap (λ h. h.last) v.decides.settled.state

    rises : (taken_in (unstamped before.seats.arrivals.seen) ≤ last_of (taken_in (unstamped before.seats.arrivals.seen)) v.arrived)
        × All (λ (a : Arrival ReadLeaseOf). a.number ≤ last_of (taken_in (unstamped before.seats.arrivals.seen)) v.arrived) v.arrived
    rises = below (taken_in (unstamped before.seats.arrivals.seen)) v.arrived (last_of (taken_in (unstamped before.seats.arrivals.seen)) v.arrived)
        (takes_rise (unstamped before.seats.arrivals.seen) v.arrived (unstamped after.seats.arrivals.seen) takes)

    last_of_taken : last_of (taken_in (unstamped before.seats.arrivals.seen)) v.arrived ≡ after.handler.last
    last_of_taken = sym (last_is ∙ ap (λ (n : ℕ). last_of n v.arrived) was_taken)

    all_low : All (IsLow after.handler.last) (before.handler.pending ++ v.arrived)
    all_low = All-append (IsLow after.handler.last) before.handler.pending v.arrived
        (All-weaker (IsLow before.handler.last) (IsLow after.handler.last) (λ a most. higher a.number most rises.0 was_taken last_of_taken) before.handler.pending low)
        (subst (λ (n : ℕ). All (IsLow n) v.arrived) last_of_taken rises.1)
      where
        higher : (n : ℕ) → n ≤ before.handler.last → taken_in (unstamped before.seats.arrivals.seen) ≤ last_of (taken_in (unstamped before.seats.arrivals.seen)) v.arrived
            → before.handler.last ≡ taken_in (unstamped before.seats.arrivals.seen) → last_of (taken_in (unstamped before.seats.arrivals.seen)) v.arrived ≡ after.handler.last → n ≤ after.handler.last
        higher n most up same last = omega (arith, most, up, same, last)

    parts : All (λ (t : Commit). t.number ≤ after.handler.last) (told_along (begun before.handler v.decides.looked) v.decides.decided.taken) × All (IsLow after.handler.last) v.decides.end.pending
    parts = told_low after.handler.last lease.shown v.seen v.expected (begun before.handler v.decides.looked) v.decides.end v.decides.decided.taken
        (looked_low lease after.handler.last (before.handler.pending ++ v.arrived) v.decides.looked v.decides.looks all_low) v.decides.decided.leads

    pub keeps_low : All (IsLow after.handler.last) after.handler.pending
    keeps_low = subst (All (IsLow after.handler.last)) (sym (ap (λ h. h.pending) v.decides.settled.state)) parts.1

    pub commits_low : All (λ (t : Commit). t.number ≤ after.handler.last) v.told.commits
    commits_low = subst (All (λ (t : Commit). t.number ≤ after.handler.last))
        (sym (v.decides.settled.commits ∙ commits_along lease.shown v.seen v.expected (begun before.handler v.decides.looked) v.decides.end v.decides.decided.taken v.decides.decided.leads)) parts.0

    -- what it took last arrived before its take
    pub before_take : Begins after.seats.arrivals.seen all → (n : ℕ) → n ≤ after.handler.last → arrival_stamp all n < v.took.last.stamp
    before_take begins_all n most =
        let newest = newest_takes after.seats.arrivals.seen takes.by (reply.Batch v.arrived) (takes.more ++ unstamped before.seats.arrivals.seen) takes.newest in
        let whole : all ≡ begins_all.0 ++ newest.e ∷ newest.earlier = begins_all.1 ∙ ap (λ es. begins_all.0 ++ es) newest.is in
        let rise_here = rise_end begins_all.0 (newest.e ∷ newest.earlier) (subst StampsRise whole rise) in
        let taken : taken_in (unstamped after.seats.arrivals.seen) ≡ many_sent newest.earlier = ap (λ es. taken_in (unstamped es)) newest.is ∙ taken_is newest.e newest.earlier newest.takes in
        let last = is_taken in
        let under : n ≤ many_sent newest.earlier = omega (arith, most, last, taken) in
        let stays : arrival_stamp all n ≡ arrival_stamp newest.earlier n =
        ap (λ (es : List ArrivalEntry). arrival_stamp es n) (whole ∙ sym (append_assoc begins_all.0 (newest.e ∷ []) newest.earlier)) ∙ stamp_stays (begins_all.0 ++ newest.e ∷ []) newest.earlier n under in
        let low_here = sent_low newest.earlier rise_here.2 n under in
        let above = rise_here.1 in
        let stamp : stamp_of newest.e ≡ v.took.last.stamp = sym (ap newest_stamp newest.is) ∙ ap (λ pass. newest_stamp pass.seen) v.arrivals ∙ v.takes.stamp in
        omega (arith, stays, low_here, above, stamp)

  pub all_keep_low : (start end : Sitting B) (log : Vsyncs lease table locks period start end) → start.handler.last ≡ 0 → start.handler.pending ≡ [] → start.seats.arrivals.seen ≡ [] → end.seats.by ≡ 0
      → Begins (unstamped end.seats.arrivals.seen) arriving → All (IsLow end.handler.last) end.handler.pending
  all_keep_low start end Begin none no_pending nothing first begins = subst (All (IsLow start.handler.last)) (sym no_pending) (All-nil (IsLow start.handler.last))
  all_keep_low start end (More {before} {after} log v) none no_pending nothing first begins =
      keeps_low start before after log v none nothing first begins
      (all_keep_low start before log none no_pending nothing (sym v.caller ∙ first)
      (begins_on (unstamped before.seats.arrivals.seen) (unstamped after.seats.arrivals.seen) arriving (arrivals_begin lease table locks period before after v) begins))

  -- each commit is of what arrived before the take of its vsync
  pub record IsBehindArrival {start end : Sitting B} (log : Vsyncs lease table locks period start end) (number arrival : ℕ) : Type 0 where
    pub within : number ≤ end.number
    pub behind : arrival_stamp all arrival < vsync_stamp lease table locks period log number

  pub commits_timed : (start end : Sitting B) (log : Vsyncs lease table locks period start end) → start.handler.last ≡ 0 → start.handler.pending ≡ [] → start.seats.arrivals.seen ≡ [] → end.seats.by ≡ 0
      → Begins (unstamped end.seats.arrivals.seen) arriving → Begins end.seats.arrivals.seen all
      → (at : VsyncRecords) (commit : CommitRecord) → Contains (reports_of lease table locks period scene log) at → Contains at.commits commit → IsBehindArrival log at.number commit.arrival
  commits_timed start end Begin none no_pending nothing first begins begins_all at commit there has = has_none at there
  commits_timed start end (More {before} {after} log v) none no_pending nothing first begins begins_all at commit there has =
      elim (Contains-append_cases (reports_of lease table locks period scene log) (shown_of lease table locks period scene v) at there) [
        | inl old ↦ as_before (commits_timed start before log none no_pending nothing (sym v.caller ∙ first)
            (begins_on (unstamped before.seats.arrivals.seen) (unstamped after.seats.arrivals.seen) arriving (arrivals_begin lease table locks period before after v) begins)
            (begins_on before.seats.arrivals.seen after.seats.arrivals.seen all v.stays.begins begins_all) at commit old has)
        | inr new ↦ now (has_commits v.told.commits) new
      ]
    where
      as_before : IsBehindArrival log at.number commit.arrival → IsBehindArrival (More log v) at.number commit.arrival
      as_before is =
          let within = is.within in
          let behind = is.behind in
          let counted = v.counted in
          let same = stamp_below lease table locks period log v at.number (omega (arith, within, counted)) in
          record { within = omega (arith, within, counted); behind = omega (arith, behind, same) }

      low_before : All (IsLow before.handler.last) before.handler.pending
      low_before = all_keep_low start before log none no_pending nothing (sym v.caller ∙ first)
          (begins_on (unstamped before.seats.arrivals.seen) (unstamped after.seats.arrivals.seen) arriving (arrivals_begin lease table locks period before after v) begins)

      of_report : shown_report before after v ≡ at → IsBehindArrival (More log v) at.number commit.arrival
      of_report same =
          let one = map_has commit_shown v.told.commits commit (subst (λ (r : VsyncRecords). Contains r.commits commit) (sym same) has) in
          let most = All-contains (λ (t : Commit). t.number ≤ after.handler.last) v.told.commits one.0 (commits_low start before after log v none nothing first begins low_before) one.1 in
          let number : after.number ≡ at.number = ap (λ (r : VsyncRecords). r.number) same in
          let arrival : one.0.number ≡ commit.arrival = ap (λ (c : CommitRecord). c.arrival) one.2 in
          let less = before_take start before after log v none nothing first begins low_before begins_all commit.arrival (omega (arith, most, arrival)) in
          let stamp = stamp_at lease table locks period log v at.number (sym number) in
          record { within = omega (arith, number); behind = omega (arith, less, stamp) }

      now : (b : Bool) → Contains (if b then shown_report before after v ∷ [] else []) at → IsBehindArrival (More log v) at.number commit.arrival
      now true new = elim (has_cases (shown_report before after v) at [] new) [
        | inl same ↦ of_report same
        | inr later ↦ has_none at later
      ]
      now false new = has_none at new

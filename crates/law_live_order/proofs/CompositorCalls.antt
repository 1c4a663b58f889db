-- Each call of a compositor stands behind the take of the vsync of its step, and before the takes of all later ones.
use Rattle.std.proofs.Common.{◌≡◌, ℕ, suc, ◌<◌, ◌≤◌, List, [], ◌∷◌, ◌++◌, length, ap, subst, ◌∙◌, sym, inl, inr, arith}
use Rattle.std.specs.Prelude.{◌⊎◌}
use Rattle.std.proofs.lemmas.Bool.{cases_eq, cases_lt}
use Rattle.std.proofs.lemmas.List.{append_assoc}
use Rattle.atomic_table.specs.Seated.{TableId}
use Rattle.law_threads.specs.law_rights.Standing.{GiveAll, GivesOne}
use Rattle.law_threads.specs.sf_actor.Desks.{DeskHome, DeskView}
use Rattle.law_threads.specs.sf_calls.Histories.{GoesOnWithout, entry}
use Rattle.law_threads.specs.sf_calls.declared.object.Entry.{Entry}
use Rattle.law_threads.specs.sf_commit.Releases.{ReleaseOf}
use Rattle.law_threads.specs.sf_live_compositor.Vsyncs.{Begin, More, Sitting, Vsyncs}
use Rattle.law_threads.specs.sf_live_seats.Seats.{home_of, view_of}
use Rattle.law_threads.specs.sf_live_seats.declared.first.FirstSeats.{FirstSeats}
use Rattle.law_threads.specs.sf_live_seats.declared.locks.Locks.{Locks}
use Rattle.law_threads.specs.sf_live_seats.declared.seats.Seats.{Seats}
use Rattle.law_threads.specs.sf_surface.Histories.{Made}
use Rattle.law_threads.specs.sf_surface.Tokens.{Issued, ReadLeaseOf}
use Rattle.law_threads.specs.sf_surface.declared.call.QCall.TheVariants as call
use Rattle.law_threads.specs.sf_turns.Views.{SeatView}
use Rattle.law_threads.specs.sf_txn.declared.lease.Lease.{Ghosts}
use Rattle.law_threads.specs.Members.{mine, stamps}
use Rattle.law_threads.specs.Stamped.{AreStamped}
use Rattle.law_threads.proofs.CallCounts.{Found, IsAt, Nothing, One, find_mine, mine_there, mine_without, same_at_place}
use Rattle.law_threads.proofs.StampBounds.{call_high, call_low, take_stamp}
use Rattle.law_live_order.proofs.VsyncStamps.{goes_up, stamp_at, stamp_below, stamp_high, took_later, vsync_stamp}

cons_head : {X : Type 0} {x y : X} {xs ys : List X} → x ∷ xs ≡ y ∷ ys → x ≡ y
cons_head e = cc (e)

cons_tail : {X : Type 0} {x y : X} {xs ys : List X} → x ∷ xs ≡ y ∷ ys → xs ≡ ys
cons_tail e = cc (e)

module _ {C R : Type 0} where
  -- a caller's call was there before, where a history went on without it
  pub own_was : (by place : ℕ) (xs ys : List (Entry C R)) (e : Entry C R) (earlier : List (Entry C R)) → GoesOnWithout by xs ys → IsAt ys place e earlier → e.by ≡ by → IsAt xs place e earlier
  own_was by place xs ys e earlier goes at own = by_found (find_mine by place xs)
    where
      some : 1 ≤ mine by place ys
      some = mine_there by place ys e earlier at own

      by_found : Found by place xs → IsAt xs place e earlier
      by_found (Nothing none) = let same = mine_without by place xs ys goes in let many = some in absurd (omega (arith, none, same, many))
      by_found (One other before there own_other) =
          let lifted : IsAt ys place other before = record {
            more = goes.begins.0 ++ there.more;
            is = goes.begins.1 ∙ ap (λ (es : List (Entry C R)). goes.begins.0 ++ es) there.is ∙ sym (append_assoc goes.begins.0 there.more (other ∷ before));
            height = there.height;
          } in
          let same = same_at_place ys place other e before earlier lifted at in
          subst (λ (x : Entry C R). IsAt xs place x earlier) same.0 (subst (λ (es : List (Entry C R)). IsAt xs place other es) same.1 there)

module _ {B : Type 0} where
  -- of what is there once frames went back, the compositor's calls are of this vsync, or were there before
  one_gave : (home : DeskHome) (number : ℕ) (release : ReleaseOf ReadLeaseOf) (old new : DeskView B) → GivesOne home number release old new
      → (queue place : ℕ) (made : Made B) (earlier : List (Made B)) → IsAt (new.calls queue) place made earlier → made.by ≡ 0 → (made.call.0 ≡ number) ⊎ IsAt (old.calls queue) place made earlier
  one_gave home number release old new one queue place made earlier at own = elim (cases_eq queue release.queue.0) [
    | inl same ↦ here at.more (sym (ap (λ (q : ℕ). new.calls q) same ∙ one.made.newest) ∙ at.is)
        (subst (λ (q : ℕ). GoesOnWithout 0 (old.calls q) one.made.earlier) (sym same) one.made.goes_on)
    | inr apart ↦ inr (subst (λ (calls : List (Made B)). IsAt calls place made earlier) (one.made.changes.others queue apart) at)
  ]
    where
      here : (more : List (Made B)) → entry 0 (number, call.Release release.lease release.fence) one.reply ∷ one.made.earlier ≡ more ++ made ∷ earlier → GoesOnWithout 0 (old.calls queue) one.made.earlier
          → (made.call.0 ≡ number) ⊎ IsAt (old.calls queue) place made earlier
      here [] e goes = inl (sym (ap (λ (m : Made B). m.call.0) (cons_head e)))
      here (m ∷ more) e goes = inr (own_was 0 place (old.calls queue) one.made.earlier made earlier goes (record { more = more; is = cons_tail e; height = at.height }) own)

  gave_or_was : (home : DeskHome) (number : ℕ) (releases : List (ReleaseOf ReadLeaseOf)) (old new : DeskView B) → GiveAll home number releases old new
      → (queue place : ℕ) (made : Made B) (earlier : List (Made B)) → IsAt (new.calls queue) place made earlier → made.by ≡ 0 → (made.call.0 ≡ number) ⊎ IsAt (old.calls queue) place made earlier
  gave_or_was home number [] old new gives queue place made earlier at own = inr (subst (λ (v : DeskView B). IsAt (v.calls queue) place made earlier) gives at)
  gave_or_was home number (release ∷ later) old new gives queue place made earlier at own = elim (gave_or_was home number later gives.0 new gives.2 queue place made earlier at own) [
    | inl step ↦ inl step
    | inr there ↦ one_gave home number release old gives.0 gives.1 queue place made earlier there own
  ]

module _ {B : Type 0} (lease : Ghosts ReadLeaseOf SeatView ReadLeaseOf Issued) (table : TableId) (locks : Locks B) (period : ℕ) (first : FirstSeats B) where
  -- a stamp between the take of the vsync of this step and those of all later ones
  pub record IsTimedCall {start end : Sitting B} (log : Vsyncs lease table locks period start end) (step stamp : ℕ) : Type 0 where
    pub within : step ≤ end.number
    pub behind : vsync_stamp lease table locks period log step ≤ stamp
    pub last : stamp ≤ end.seats.last.stamp
    pub before : (n : ℕ) → step < n → stamp < vsync_stamp lease table locks period log n

  pub calls_timed : (start end : Sitting B) (log : Vsyncs lease table locks period start end) → start.number ≡ 0 → ((queue : ℕ) → (view_of start.seats).calls queue ≡ []) → end.seats.by ≡ 0
      → AreStamped lease table locks period first log → (queue place : ℕ) (made : Made B) (earlier : List (Made B)) → IsAt ((view_of end.seats).calls queue) place made earlier → made.by ≡ 0
      → IsTimedCall log made.call.0 (stamps first (suc queue, place))
  calls_timed start end Begin from_0 none by_it stamped queue place made earlier at own = absurd (no_call at.more (sym (none queue) ∙ at.is))
    where
      no_call : (more : List (Made B)) → [] ≡ more ++ made ∷ earlier → ⊥
      no_call [] e = cc (e)
      no_call (m ∷ more) e = cc (e)
  calls_timed start end (More {before} {after} log v) from_0 none by_it stamped queue place made earlier at own =
      elim (gave_or_was (home_of locks v.took) after.number v.told.releases (view_of (record v.took { turns = v.turns })) (view_of after.seats) v.gives queue place made earlier at own) [
        | inl step ↦ now step
        | inr was ↦ as_before (calls_timed start before log from_0 none (sym v.caller ∙ by_it) stamped.0 queue place made earlier (before_that was) own)
      ]
    where
      before_that : IsAt ((view_of (record v.took { turns = v.turns })).calls queue) place made earlier → IsAt ((view_of before.seats).calls queue) place made earlier
      before_that was =
          subst (λ (seats : Seats B). IsAt ((view_of seats).calls queue) place made earlier) v.look
          (subst (λ (seats : Seats B). IsAt ((view_of seats).calls queue) place made earlier) v.changes.same was)

      spot_is : stamps first (suc queue, length earlier) ≡ stamps first (suc queue, place)
      spot_is = ap (λ (n : ℕ). stamps first (suc queue, n)) at.height

      now : made.call.0 ≡ after.number → IsTimedCall (More log v) made.call.0 (stamps first (suc queue, place))
      now step =
          let low = call_low lease table locks period first before after v by_it stamped.1 queue made at.more earlier at.is own step in
          let high = call_high lease table locks period first before after v by_it stamped.1 queue made at.more earlier at.is own step in
          let take = take_stamp lease table locks period first before after v by_it stamped.1 in
          let here = stamp_at lease table locks period log v made.call.0 step in
          let spot = spot_is in
          record {
            within = omega (arith, step);
            behind = omega (arith, low, take, here, spot);
            last = omega (arith, high, spot);
            before = λ n later. let beyond = stamp_high lease table locks period start after (More log v) from_0 n (omega (arith, later, step)) in omega (arith, high, beyond, spot);
          }

      as_before : IsTimedCall log made.call.0 (stamps first (suc queue, place)) → IsTimedCall (More log v) made.call.0 (stamps first (suc queue, place))
      as_before is =
          let counted = v.counted in
          let within = is.within in
          let behind = is.behind in
          let last = is.last in
          let up = goes_up lease table locks period before after v in
          let same = stamp_below lease table locks period log v made.call.0 (omega (arith, within, counted)) in
          record {
            within = omega (arith, within, counted);
            behind = omega (arith, behind, same);
            last = omega (arith, last, up);
            before = λ n later. elim (cases_lt n after.number) [
              | inl less ↦ let is_before = is.before n later in let below = stamp_below lease table locks period log v n less in omega (arith, is_before, below)
              | inr most ↦ elim (cases_eq n after.number) [
                | inl here ↦ let took = took_later lease table locks period before after v in let at_it = stamp_at lease table locks period log v n here in omega (arith, last, took, at_it)
                | inr apart ↦ let beyond = stamp_high lease table locks period start after (More log v) from_0 n (omega (arith, most, apart)) in omega (arith, last, up, beyond)
              ]
            ];
          }

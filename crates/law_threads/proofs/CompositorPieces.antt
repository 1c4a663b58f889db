-- The vsyncs of a compositor, piece by piece.
use Rattle.std.proofs.Common.{◌≡◌, ℕ, zero, suc, ◌+◌, ◌<◌, ◌≤◌, false, List, [], ◌∷◌, ◌++◌, arith, ap, ◌∙◌, sym, refl, subst, length, map, Some}
use Rattle.std.specs.List.{list_any}
use Rattle.std.proofs.lemmas.List.{append_assoc}
use Rattle.atomic_table.specs.Seated.{TableId}
use Rattle.law_draws.specs.sf_calls.Histories.{GoesOnWithout, IsLegal, entry}
use Rattle.sf_script_scene.specs.declared.step.ActorScript.{ActorScript}
use Rattle.sf_live_compositor.specs.sf_calls_stamped.Stamps.{unstamped}
use Rattle.law_draws.specs.sf_surface.declared.call.QCall.TheVariants as call
use Rattle.law_draws.specs.sf_surface.Histories.{Answers, Made}
use Rattle.law_draws.specs.sf_surface.Tokens.{Issued, ReadLeaseOf}
use Rattle.law_draws.specs.sf_token.declared.arrivals.ArriveCall.TheVariants as arrive
use Rattle.law_draws.specs.sf_token.declared.arrivals.ArriveReply.TheVariants as reply
use Rattle.sf_turns.specs.Views.{SeatView}
use Rattle.law_draws.specs.sf_txn.declared.lease.Lease.{Ghosts}
use Rattle.law_draws.specs.sf_commit.Releases.{ReleaseOf}
use Rattle.law_draws.specs.sf_actor.Desks.{DeskHome, DeskView, mark_among}
use Rattle.sf_live_compositor.specs.sf_live_seats.declared.locks.Locks.{Locks}
use Rattle.sf_live_compositor.specs.sf_live_seats.declared.seats.Seats.{Seats}
use Rattle.sf_live_compositor.specs.sf_live_seats.Arriving.{ArrivalCalls}
use Rattle.sf_live_compositor.specs.sf_live_seats.Seats.{home_of, view_of}
use Rattle.law_draws.specs.law_rights.Standing.{GiveAll}
use Rattle.law_draws.specs.law_rights.States.{AreApart, State, is_queue}
use Rattle.law_draws.specs.law_rights.Vsyncs.{IsOfTurns, lease_back, lease_on}
use Rattle.law_draws.proofs.law_rights_lemmas.TurnCounts.{none_in}
use Rattle.law_threads.specs.Cuts.{Event, Local, Whole, state_at}
use Rattle.law_threads.specs.Lifts.{AllGiven, Given, GivesAll, given_lease}
use Rattle.law_threads.specs.Orders.{Spot, raised}
use Rattle.sf_live_compositor.specs.Vsyncs.{IsVsync, Sitting, Vsyncs}
use Rattle.sf_live_compositor.specs.Vsyncs.{Begin, More}
use Rattle.law_threads.proofs.ReturnedFrames.{back_lifts}
use Rattle.law_threads.proofs.TryOutcomes.{all_begin}
use Rattle.law_threads.proofs.CallCounts.{mine_more, mine_without}
use Rattle.law_draws.specs.law_rights.PlaceTries.{TellsPlaces}
use Rattle.law_threads.proofs.LedgerViews.{GivesKept, RestsKept}
use Rattle.law_threads.proofs.VsyncRights.{decides_kept}
use Rattle.law_threads.proofs.Lines.{AllAfter, AllAt, Back, IsFresh, Piece, Post, Rest, backs_at, end_rest, leases_of, piece_rest, spot_at, with_piece}
use Rattle.law_threads.proofs.Pieces.{all_backs, at_arrivals, at_queue, at_zero, back_of, given_leases, gives_known}
use Rattle.law_threads.proofs.WalkBlocks.{Front, front_on}
use Rattle.law_threads.specs.Members.{mine, sitting_at, total_in}

module _ {B : Type 0} (home : DeskHome) (number : ℕ) where
  -- the frames that go back in calls, one after another
  pub record GivesEach (releases : List (ReleaseOf ReadLeaseOf)) (old new : DeskView B) : Type 0 where
    pub gives : List (Given B)
    pub leases : map given_lease gives ≡ map lease_back releases
    pub all : GivesAll 0 number gives old new
    pub turns : new.turns ≡ old.turns

  abbrev pub give_each : (releases : List (ReleaseOf ReadLeaseOf)) (old new : DeskView B) → GiveAll home number releases old new → GivesEach releases old new
  give_each [] old new same = record {
    gives = [];
    leases = refl;
    all = (ap (λ (view : DeskView B). view.calls) same, ap (λ (view : DeskView B). view.arrivals) same);
    turns = ap (λ (view : DeskView B). view.turns) same;
  }
  give_each (release ∷ releases) old new all = record {
    gives = record {
      lease = release.lease;
      queue = release.queue.0;
      made = entry 0 (number, call.Release release.lease release.fence) all.1.reply;
      earlier = all.1.made.earlier;
    } ∷ (give_each releases all.0 new all.2).gives;
    leases = ap (λ (xs : List ReadLeaseOf). release.lease ∷ xs) (give_each releases all.0 new all.2).leases;
    all = (
      all.0,
      record {
        newest = all.1.made.newest;
        by_it = refl;
        step = refl;
        goes_on = all.1.made.goes_on;
        others = all.1.made.changes.others;
        arrivals = ap (λ (view : DeskView B). view.arrivals) all.1.made.changes.same;
      },
      (give_each releases all.0 new all.2).all,
    );
    turns = (give_each releases all.0 new all.2).turns ∙ ap (λ (view : DeskView B). view.turns) all.1.made.changes.same;
  }

module _ {B : Type 0} (lease : Ghosts ReadLeaseOf SeatView ReadLeaseOf Issued) (of_turns : IsOfTurns lease) (whole : Whole B) (script : ActorScript) (table : TableId) (locks : Locks B) (period : ℕ)
    (apart : AreApart whole.marks) (absent : (queue : ℕ) → list_any (is_queue queue) whole.marks ≡ false → whole.view.calls queue ≡ [])
    (legal : (queue : ℕ) → IsLegal (Answers (mark_among whole.marks queue)) (whole.view.calls queue))
    (tells : TellsPlaces lease) (Holds : State B → Type 0) (given : GivesKept whole Holds) (rests : RestsKept whole Holds) where
  -- how many of the compositor's calls at a place are known to its seats
  abbrev pub known_sitting : Seats B → ℕ → ℕ → ℕ
  known_sitting seats zero place = mine 0 place (unstamped seats.arrivals.seen)
  known_sitting seats (suc queue) place = mine 0 place ((view_of seats).calls queue)

  abbrev pub post_sitting : Sitting B → Post B
  post_sitting sitting = record {
    local = sitting_at sitting.handler.pending (map lease_on sitting.handler.on) sitting.seats.turns.leaves;
    known = λ here. known_sitting sitting.seats here.0 here.1;
    step = sitting.number;
  }

  -- what its seats knew is a front of what was called in the whole run
  pub record SeatsFront (seats : Seats B) : Type 0 where
    pub calls : (queue : ℕ) → Front ((view_of seats).calls queue) (whole.view.calls queue)
    pub arriving : Front (unstamped seats.arrivals.seen) whole.arriving

  abbrev pub gives_in : (before after : Sitting B) → IsVsync lease table locks period before after → List (Given B)
  gives_in before after vsync = (give_each (home_of locks vsync.took) after.number vsync.told.releases (view_of (record vsync.took { turns = vsync.turns })) (view_of after.seats) vsync.gives).gives

  abbrev pub backs_in : (before after : Sitting B) → IsVsync lease table locks period before after → List Back
  backs_in before after vsync = map back_of (gives_in before after vsync)

  abbrev pub take_spot : (before after : Sitting B) → IsVsync lease table locks period before after → Spot
  take_spot before after vsync = (0, length vsync.takes.took.earlier)

  module _ (stamp : Spot → ℕ) (At : Spot → ℕ → Type 0) (order : (here there : Spot) (n m : ℕ) → At here n → At there m → n < m → stamp here ≤ stamp there) where
    abbrev pub totals : Spot → ℕ
    totals here = total_in whole 0 here.0 here.1

    -- the calls of a vsync are in turn: its take, and then the frames that go back
    pub record IsTimed (before after : Sitting B) (vsync : IsVsync lease table locks period before after) : Type 0 where
      pub take : At (take_spot before after vsync) after.number
      pub backs : AllAt whole Holds totals stamp At order after.number (backs_in before after vsync)
      pub behind : AllAfter whole Holds totals stamp At order (take_spot before after vsync) (backs_in before after vsync)

    nothing_fresh : (sitting : Sitting B) → IsFresh whole Holds totals stamp At order (post_sitting sitting)
    nothing_fresh sitting = record { unused = λ number queue place there makes. absurd (none_in number there); own = λ number queue place there makes. absurd (none_in number there) }

    module _ (before after : Sitting B) (vsync : IsVsync lease table locks period before after) (caller : before.seats.by ≡ 0) (front : SeatsFront after.seats) (timed : IsTimed before after vsync) where
      abbrev decided_view : DeskView B
      decided_view = view_of (record vsync.took { turns = vsync.turns })

      abbrev each : GivesEach {B = B} (home_of locks vsync.took) after.number vsync.told.releases decided_view (view_of after.seats)
      each = give_each (home_of locks vsync.took) after.number vsync.told.releases decided_view (view_of after.seats) vsync.gives

      looked_by : vsync.looked.by ≡ 0
      looked_by = ap (λ (seats : Seats B). seats.by) vsync.look ∙ caller

      same_calls : (view_of vsync.took).calls ≡ (view_of before.seats).calls
      same_calls = ap (λ (seats : Seats B). (view_of seats).calls) vsync.changes.same ∙ ap (λ (seats : Seats B). (view_of seats).calls) vsync.look

      same_turns : vsync.took.turns ≡ before.seats.turns
      same_turns = ap (λ (seats : Seats B). seats.turns) vsync.changes.same ∙ ap (λ (seats : Seats B). seats.turns) vsync.look

      same_seen : vsync.looked.arrivals ≡ before.seats.arrivals
      same_seen = ap (λ (seats : Seats B). seats.arrivals) vsync.look

      after_turns : after.seats.turns ≡ vsync.turns
      after_turns = each.turns

      after_seen : unstamped after.seats.arrivals.seen ≡ entry vsync.looked.arrivals.by arrive.Take (reply.Batch vsync.arrived) ∷ vsync.takes.took.earlier
      after_seen = ap (λ pass. unstamped pass.seen) vsync.arrivals ∙ vsync.takes.took.newest

      all_given : (gives : List (Given B)) (releases : List (ReleaseOf ReadLeaseOf)) (from : DeskView B) (all : GiveAll (home_of locks vsync.took) after.number releases from (view_of after.seats))
          → AllGiven whole Holds (give_each (home_of locks vsync.took) after.number releases from (view_of after.seats) all).gives
      all_given gives [] from all = tt
      all_given gives (release ∷ releases) from all = (
        back_lifts whole apart absent legal Holds given 0 after.number release.queue.0 release.lease release.fence all.1.reply (more.0 ++ behind.0) all.1.made.earlier
            (more.1 ∙ ap (λ (xs : List (Made B)). more.0 ++ xs) (behind.1 ∙ ap (λ (xs : List (Made B)). behind.0 ++ xs) all.1.made.newest)
            ∙ sym (append_assoc more.0 behind.0 (entry 0 (after.number, call.Release release.lease release.fence) all.1.reply ∷ all.1.made.earlier))),
        all_given gives releases all.0 all.2,
      )
        where
          more : Front ((view_of after.seats).calls release.queue.0) (whole.view.calls release.queue.0)
          more = front.calls release.queue.0

          rest : GivesEach {B = B} (home_of locks vsync.took) after.number releases all.0 (view_of after.seats)
          rest = give_each (home_of locks vsync.took) after.number releases all.0 (view_of after.seats) all.2

          behind : Front (all.0.calls release.queue.0) ((view_of after.seats).calls release.queue.0)
          behind = all_begin 0 after.number (give_each (home_of locks vsync.took) after.number releases all.0 (view_of after.seats) all.2).gives all.0 (view_of after.seats)
              (give_each (home_of locks vsync.took) after.number releases all.0 (view_of after.seats) all.2).all release.queue.0

      known_more : (lock place : ℕ) → known_sitting after.seats lock place ≡ known_sitting before.seats lock place + (spot_at (lock, place) (Some (take_spot before after vsync)) + backs_at (lock, place) (backs_in before after vsync))
      known_more zero place =
          let now = ap (mine 0 place) after_seen in
          let by_it : vsync.looked.arrivals.by ≡ 0 = sym (ap (λ pass. pass.by) vsync.changes.pass) ∙ sym (ap (λ pass. pass.by) vsync.arrivals) ∙ vsync.own.number ∙ vsync.caller ∙ caller in
          let more = mine_more 0 place (entry vsync.looked.arrivals.by arrive.Take (reply.Batch vsync.arrived)) vsync.takes.took.earlier by_it in
          let goes = mine_without 0 place (unstamped vsync.looked.arrivals.seen) vsync.takes.took.earlier (subst (λ (n : ℕ). GoesOnWithout n (unstamped vsync.looked.arrivals.seen) vsync.takes.took.earlier) by_it vsync.takes.took.goes_on) in
          let was = ap (λ pass. mine 0 place (unstamped pass.seen)) same_seen in
          let here = at_arrivals (length vsync.takes.took.earlier) place in
          let none = backs_zero (gives_in before after vsync) place in
          omega (arith, now, more, goes, was, here, none)
        where
          backs_zero : (gives : List (Given B)) (place : ℕ) → backs_at (0, place) (map back_of gives) ≡ 0
          backs_zero [] place = refl
          backs_zero (given ∷ gives) place = let rest = backs_zero gives place in let none = at_zero given.queue (length given.earlier) place in omega (arith, rest, none)
      known_more (suc queue) place =
          let all = gives_known whole Holds 0 after.number each.gives decided_view (view_of after.seats) each.all (suc queue) place in
          let was = ap (λ (cs : ℕ → List (Made B)). mine 0 place (cs queue)) same_calls in
          let none = at_queue queue (length vsync.takes.took.earlier) place in
          omega (arith, all, was, none)

      pub seen_piece : Piece whole Holds totals stamp At order (post_sitting before) (post_sitting after)
      seen_piece = record {
        spot = Some (take_spot before after vsync);
        backs = backs_in before after vsync;
        lifts = λ others later heights next unused holds.
            subst (λ (local : Local B). Holds (state_at whole (raised heights 0) (others ++ local ∷ later))) local_is
            (decides_kept lease of_turns tells whole script before.handler after.handler vsync.took.turns vsync.turns vsync.arrived vsync.seen vsync.expected vsync.told vsync.decides vsync.unlent
            front.arriving.0 vsync.takes.took.earlier (entry vsync.looked.arrivals.by arrive.Take (reply.Batch vsync.arrived))
            (front.arriving.1 ∙ ap (λ (xs : ArrivalCalls). front.arriving.0 ++ xs) after_seen) refl vsync.takes.took.waits others later heights next Holds rests
            (subst (λ (turns : SeatView). Holds (state_at whole heights (others ++ sitting_at before.handler.pending (map lease_on before.handler.on) turns.leaves ∷ later))) (sym same_turns) holds));
        back = all_backs whole Holds 0 (gives_in before after vsync) (all_given [] vsync.told.releases decided_view vsync.gives);
        known = λ here. known_more here.0 here.1;
        rose = let counted = vsync.counted in omega (arith, counted);
        at = λ here is_here. subst (λ (s : Spot). At s after.number) (some_is (take_spot before after vsync) here is_here) timed.take;
        all_at = timed.backs;
        first = λ here is_here. subst (λ (s : Spot). AllAfter whole Holds totals stamp At order s (backs_in before after vsync)) (some_is (take_spot before after vsync) here is_here) timed.behind;
      }
        where
          some_is : (x y : Spot) → Some x ≡ Some y → x ≡ y
          some_is x y same = cc

          local_is : sitting_at {B = B} after.handler.pending (map lease_back vsync.told.releases ++ map lease_on after.handler.on) vsync.turns.leaves
              ≡ sitting_at after.handler.pending (leases_of (backs_in before after vsync) ++ map lease_on after.handler.on) after.seats.turns.leaves
          local_is =
              ap (λ (on : List ReadLeaseOf). sitting_at {B = B} after.handler.pending (on ++ map lease_on after.handler.on) vsync.turns.leaves) (sym each.leases ∙ sym (given_leases whole Holds 0 (gives_in before after vsync)))
              ∙ ap (λ (turns : SeatView). sitting_at {B = B} after.handler.pending (leases_of (backs_in before after vsync) ++ map lease_on after.handler.on) turns.leaves) (sym after_turns)

      front_before : SeatsFront before.seats
      front_before = record {
        calls = λ queue. front_on ((view_of before.seats).calls queue) ((view_of after.seats).calls queue) (whole.view.calls queue)
            (subst (λ (cs : ℕ → List (Made B)). Front (cs queue) ((view_of after.seats).calls queue)) same_calls (all_begin 0 after.number each.gives decided_view (view_of after.seats) each.all queue)) (front.calls queue);
        arriving = front_on (unstamped before.seats.arrivals.seen) (unstamped after.seats.arrivals.seen) whole.arriving
            (subst (λ pass. Front (unstamped pass.seen) (unstamped after.seats.arrivals.seen)) same_seen (
              entry vsync.looked.arrivals.by arrive.Take (reply.Batch vsync.arrived) ∷ vsync.takes.took.goes_on.begins.0,
              after_seen ∙ ap (λ (xs : ArrivalCalls). entry vsync.looked.arrivals.by arrive.Take (reply.Batch vsync.arrived) ∷ xs) vsync.takes.took.goes_on.begins.1,
            )) front.arriving;
      }

    -- all that a compositor has yet to do
    pub record SitsBehind (sitting : Sitting B) (last : Local B) : Type 0 where
      pub rest : List (List (Event B))
      pub behind : Rest whole Holds totals stamp At order (post_sitting sitting) rest last
      pub is_front : SeatsFront sitting.seats

    abbrev pub AllTimed : {start end : Sitting B} → Vsyncs lease table locks period start end → Type 0
    AllTimed Begin = Unit {0}
    AllTimed (More {before} {after} log vsync) = AllTimed log × IsTimed before after vsync

    callers_stay : {start end : Sitting B} → Vsyncs lease table locks period start end → start.seats.by ≡ 0 → end.seats.by ≡ 0
    callers_stay Begin caller = caller
    callers_stay (More {before} {after} log vsync) caller = vsync.caller ∙ callers_stay log caller

    log_behind : {start end : Sitting B} (log : Vsyncs lease table locks period start end) → AllTimed log → start.seats.by ≡ 0 → (last : Local B) → SitsBehind end last → SitsBehind start last
    log_behind Begin timed caller last behind = behind
    log_behind (More {before} {after} log vsync) timed caller last behind =
        log_behind log timed.0 caller last (record {
          rest = with_piece whole Holds totals stamp At order (post_sitting before) (post_sitting after) (seen_piece before after vsync (callers_stay log caller) behind.is_front timed.1) (nothing_fresh before) behind.rest last behind.behind;
          behind = piece_rest whole Holds totals stamp At order (post_sitting before) (post_sitting after) (seen_piece before after vsync (callers_stay log caller) behind.is_front timed.1) (nothing_fresh before) behind.rest last behind.behind;
          is_front = front_before before after vsync (callers_stay log caller) behind.is_front timed.1;
        })

    -- from its beginning it has all its vsyncs to do
    pub sat : (start end : Sitting B) (log : Vsyncs lease table locks period start end) → AllTimed log → start.seats.by ≡ 0 → SeatsFront end.seats
        → ((lock place : ℕ) → known_sitting end.seats lock place ≡ total_in whole 0 lock place) → SitsBehind start (post_sitting end).local
    sat start end log timed caller front known = log_behind log timed caller (post_sitting end).local (record {
      rest = [];
      behind = end_rest whole Holds totals stamp At order (post_sitting end) (nothing_fresh end) (λ here. known here.0 here.1);
      is_front = front;
    })

-- A vsync that was made while the pixels of what was shown were lent, once they are back.
use Rattle.std.proofs.Common.{◌≡◌, ℕ, ◌+◌, ◌*◌, ◌≤◌, List, [], ◌∷◌, map, None, Result, Ok, Err, refl, ap, ◌∙◌, sym, subst}
use Rattle.std.specs.Prelude.{Contains, IfOk}
use Rattle.atomic_table.specs.Seated.{TableId}
use Rattle.sf_base.specs.declared.fences.Seen.{Seen}
use Rattle.sf_live_threads.specs.sf_commit.Handlers.{Decides, HandlerOf}
use Rattle.sf_live_threads.specs.sf_commit.Lending.{ends_of}
use Rattle.sf_live_threads.specs.sf_commit.OnLayers.{at_hand}
use Rattle.sf_live_threads.specs.sf_commit.Releases.{ReleaseOf, CommittedOf}
use Rattle.sf_play_write.specs.sf_play_report.declared.report.VsyncReport.{VsyncReport}
use Rattle.sf_live_threads.specs.sf_surface.Tokens.{Issued, ReadLeaseOf}
use Rattle.sf_live_threads.specs.sf_surface.declared.call.QCall.{QCall}
use Rattle.sf_live_threads.specs.sf_surface.declared.call.QReply.{QReply}
use Rattle.sf_live_threads.specs.sf_token.Pending.{Arrival}
use Rattle.sf_live_threads.specs.sf_turns.Views.{SeatView}
use Rattle.sf_live_threads.specs.sf_txn.Leases.{IsEyeAfter}
use Rattle.sf_live_threads.specs.sf_txn.declared.lease.Lease.{Ghosts}
use Rattle.sf_live_threads.specs.sf_actor.Desks.{DeskHome, DeskView, MadeCall}
use Rattle.sf_live_threads.specs.sf_actor.Tries.{Sees}
use Rattle.sf_play_write.specs.law_rights.Standing.{GiveAll}
use Rattle.sf_live_threads.specs.sf_live_seats.declared.locks.Locks.{Locks}
use Rattle.sf_live_threads.specs.sf_live_seats.declared.seats.Seats.{Seats}
use Rattle.sf_live_threads.specs.sf_live_seats.Observers.{SeatGoesOn}
use Rattle.sf_live_threads.specs.sf_live_seats.Moves.{ChangesArrivals, MadeLater, Stays, Takes}
use Rattle.sf_live_threads.specs.sf_live_seats.Seats.{AreSeats, home_of, moments_of, view_of}
use Rattle.sf_live_threads.proofs.sf_live_seats_lemmas.FirstSeatsKept.{stays_looked}
use Rattle.sf_live_compositor.specs.Sitting.{HasAll, HasLent, MakesLent, MakesVsync}
use Rattle.sf_live_compositor.specs.Vsyncs.{Sitting}
use Rattle.sf_live_compositor.specs.declared.vsync.MadeVsync.{MadeVsync}
use Rattle.sf_live_compositor.proofs.SeatGrowth.{own_on, stays_on}
use Rattle.sf_live_compositor.proofs.Lent.{decides_behind, hand_twice}

module _ {B : Type 0} (home : DeskHome) (turns : SeatView) where
  -- a call, over another seat at the turns
  call_seated : (old new : DeskView B) (by queue : ℕ) (asked : ℕ × QCall B) (reply : QReply B) → MadeCall home old new by queue asked reply
      → MadeCall home (record old { turns = turns }) (record new { turns = turns }) by queue asked reply
  call_seated old new by queue asked reply made = record {
    changes = record {
      same = ap (λ (v : DeskView B). record v { turns = turns }) made.changes.same;
      others = made.changes.others;
      locked = made.changes.locked;
    };
    legal = made.legal;
    earlier = made.earlier;
    newest = made.newest;
    goes_on = made.goes_on;
    alone = made.alone;
  }

  -- frames go back, over another seat at the turns
  gives_seated : (number : ℕ) (releases : List (ReleaseOf ReadLeaseOf)) (old new : DeskView B) → GiveAll home number releases old new
      → GiveAll home number releases (record old { turns = turns }) (record new { turns = turns })
  gives_seated number [] old new same = ap (λ (v : DeskView B). record v { turns = turns }) same
  gives_seated number (release ∷ later) old new gives = (
    record gives.0 { turns = turns },
    record { reply = gives.1.reply; made = call_seated old gives.0 0 release.queue.0 (number, _) gives.1.reply gives.1.made },
    gives_seated number later gives.0 new gives.2,
  )

module _ {B : Type 0} (lease : Ghosts ReadLeaseOf SeatView ReadLeaseOf Issued) (table : TableId) (locks : Locks B) (period : ℕ) where
  -- a vsync with its report, whether anything is lent meanwhile or not
  pub record Making (old new : Sitting B) (report : VsyncReport) : Type 0 where
    pub own : AreSeats table locks new.seats
    pub caller : new.seats.by ≡ old.seats.by
    pub looked : Seats B
    pub look : looked ≡ record old.seats { times = looked.times }
    pub took : Seats B
    pub arrived : List (Arrival ReadLeaseOf)
    pub takes : Takes looked took arrived
    pub changes : ChangesArrivals looked took
    pub early : (m : ℕ × ℕ) → Contains (moments_of took) m → m.0 ≤ old.number
    pub seen : Seen
    pub sees : Sees (home_of locks old.seats) (view_of old.seats) (view_of looked) seen
    pub expected : ℕ
    pub due : expected ≡ new.number * period
    pub told : CommittedOf ReadLeaseOf
    pub turns : SeatView
    pub decides : Decides lease old.handler took.turns arrived seen expected told new.handler turns
    pub gives : GiveAll (home_of locks took) new.number told.releases (view_of (record took { turns = turns })) (view_of new.seats)
    pub arrivals : new.seats.arrivals ≡ took.arrivals
    pub later : MadeLater took new.seats
    pub last : took.last.stamp ≤ new.seats.last.stamp
    pub counted : new.number ≡ old.number + 1
    pub stays : Stays old.seats new.seats
    pub same_turns : new.seats.turns ≡ turns
    pub is : record { number = new.number; expected = expected; seen = seen; commits = told.commits } ≡ report

  -- once the pixels are back, it is a vsync of a compositor that lent nothing
  pub makes_lent : (was : HandlerOf ReadLeaseOf) (old new : Sitting B) (report : VsyncReport) → HasLent was old.handler → Making old new report
      → MakesLent lease table locks period (record old { handler = was }) new report
  makes_lent was old new report lent made = λ turns goes back. record {
    vsync = record {
      own = own_on table locks new.seats turns goes made.own;
      caller = made.caller;
      unlent = lent.all.unlent;
      looked = made.looked;
      look = made.look;
      took = made.took;
      arrived = made.arrived;
      takes = made.takes;
      changes = made.changes;
      early = made.early;
      seen = made.seen;
      sees = made.sees;
      expected = made.expected;
      due = made.due;
      told = made.told;
      turns = turns;
      decides =
          decides_behind lease was lent.pixels made.took.turns made.turns turns made.arrived made.seen made.expected made.told new.handler lent.all.unlent lent.all.none_kept lent.all.here
          (subst (λ (h : HandlerOf ReadLeaseOf). Decides lease h made.took.turns made.arrived made.seen made.expected made.told new.handler made.turns) lent.lent made.decides)
          (subst (λ (v : SeatView). IsEyeAfter lease v turns (ends_of lease new.handler.kept)) made.same_turns back);
      gives = gives_seated (home_of locks made.took) turns new.number made.told.releases (view_of (record made.took { turns = made.turns })) (view_of new.seats) made.gives;
      arrivals = made.arrivals;
      later = made.later;
      last = made.last;
      counted = made.counted;
      stays = stays_on old.seats new.seats (record new.seats { turns = turns }) made.stays (stays_looked new.seats (record new.seats { turns = turns }) refl goes);
    };
    is = made.is;
  }

  -- and it is, once they were given back
  pub all_given : {E : Type 0} (result : Result MadeVsync E) (old mid : Sitting B) (handler : HandlerOf ReadLeaseOf) (later : Seats B) → IfOk result (λ (made : MadeVsync). MakesLent lease table locks period old mid made.report)
      → SeatGoesOn mid.seats.turns later.turns → IsEyeAfter lease mid.seats.turns later.turns (ends_of lease mid.handler.kept) → handler ≡ record mid.handler { on = map at_hand mid.handler.on; lent = None; kept = [] }
      → later ≡ record mid.seats { turns = later.turns } → IfOk result (λ (made : MadeVsync). MakesVsync lease table locks period old (record { handler = handler; seats = later; number = mid.number }) made.report)
  all_given (Ok made) old mid handler later makes goes back is_handler is_later =
      subst (λ (s : Sitting B). MakesVsync lease table locks period old s made.report) (λ i. record { handler = sym is_handler i; seats = sym is_later i; number = mid.number }) (makes later.turns goes back)
  all_given (Err e) old mid handler later makes goes back is_handler is_later = tt

-- all is at hand once pixels were given back
pub all_at_hand : (mid handler : HandlerOf ReadLeaseOf) → handler ≡ record mid { on = map at_hand mid.on; lent = None; kept = [] } → HasAll handler
all_at_hand mid handler is =
    let on = ap (λ (h : HandlerOf ReadLeaseOf). h.on) is in
    record {
      unlent = ap (λ (h : HandlerOf ReadLeaseOf). h.lent) is;
      none_kept = ap (λ (h : HandlerOf ReadLeaseOf). h.kept) is;
      here = ap (map at_hand) on ∙ hand_twice mid.on ∙ sym on;
    }

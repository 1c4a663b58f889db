-- The frames that a compositor among threads holds were lent by calls that are known at the join.
use Rattle.std.proofs.Common.{◌≡◌, ℕ, List, [], ◌∷◌, ◌++◌, sym, subst}
use Rattle.std.specs.List.{All}
use Rattle.std.proofs.lemmas.List.Elements.{All-head, All-nil, All-tail, All-cons}
use Rattle.atomic_table.specs.Seated.{TableId}
use Rattle.law_threads.specs.sf_surface.Tokens.{Issued, ReadLeaseOf}
use Rattle.law_threads.specs.sf_turns.Views.{SeatView}
use Rattle.law_threads.specs.sf_txn.declared.lease.Lease.{Ghosts}
use Rattle.law_threads.specs.sf_commit.Handlers.{HandlerOf}
use Rattle.law_threads.specs.sf_actor.Desks.{DeskView}
use Rattle.law_threads.specs.sf_live_seats.declared.locks.Locks.{Locks}
use Rattle.law_threads.proofs.sf_play_lemmas.HandlerLeases.{IsArrivedLent, IsOnLent, OfFrames, gone_lent, looked_all, stays_lent, waits_lent}
use Rattle.law_joins.specs.Logs.{HoldsLent, taken_of}
use Rattle.law_threads.specs.sf_live_compositor.Vsyncs.{Begin, IsVsync, More, Sitting, Vsyncs}

pub front_all : {X : Type 0} (P : X → Type 0) (xs ys : List X) → All P (xs ++ ys) → All P xs
front_all P [] ys all = All-nil P
front_all P (x ∷ xs) ys all = All-cons P x xs (All-head P x (xs ++ ys) all) (front_all P xs ys (All-tail P x (xs ++ ys) all))

pub back_all : {X : Type 0} (P : X → Type 0) (xs ys : List X) → All P (xs ++ ys) → All P ys
back_all P [] ys all = all
back_all P (x ∷ xs) ys all = back_all P xs ys (All-tail P x (xs ++ ys) all)

module _ {B : Type 0} (lease : Ghosts ReadLeaseOf SeatView ReadLeaseOf Issued) (frames : OfFrames lease) (table : TableId) (locks : Locks B) (period : ℕ) (joined : DeskView B) where
  module _ (before after : Sitting B) (v : IsVsync lease table locks period before after) (was : HoldsLent joined before.handler) (came : All (IsArrivedLent joined) v.arrived) where
    pub looked_lent : All (IsArrivedLent joined) v.decides.looked
    looked_lent = looked_all lease frames joined before.handler after.handler v.took.turns v.turns v.arrived v.seen v.expected v.told v.decides was.pending came was.on

    pub goes_lent : All (IsOnLent joined) v.decides.end.stage.gone
    goes_lent = gone_lent lease frames joined before.handler after.handler v.took.turns v.turns v.arrived v.seen v.expected v.told v.decides was.pending came was.on

    pub lent_after : HoldsLent joined after.handler
    lent_after = record {
      pending = waits_lent lease frames joined before.handler after.handler v.took.turns v.turns v.arrived v.seen v.expected v.told v.decides was.pending came was.on;
      on = stays_lent lease frames joined before.handler after.handler v.took.turns v.turns v.arrived v.seen v.expected v.told v.decides was.pending came was.on;
    }

  pub holds_nothing : (handler : HandlerOf ReadLeaseOf) → handler.pending ≡ [] → handler.on ≡ [] → HoldsLent joined handler
  holds_nothing handler pending on = record {
    pending = subst (All (IsArrivedLent joined)) (sym pending) (All-nil (IsArrivedLent joined));
    on = subst (All (IsOnLent joined)) (sym on) (All-nil (IsOnLent joined));
  }

  -- so it is all along a log
  pub log_lent : (start last : Sitting B) (log : Vsyncs lease table locks period start last) → start.handler.pending ≡ [] → start.handler.on ≡ [] → All (IsArrivedLent joined) (taken_of lease table locks period log)
      → HoldsLent joined last.handler
  log_lent start last Begin pending on came = holds_nothing start.handler pending on
  log_lent start last (More {before} {after} log v) pending on came =
      lent_after before after v (log_lent start before log pending on (front_all (IsArrivedLent joined) (taken_of lease table locks period log) v.arrived came)) (back_all (IsArrivedLent joined) (taken_of lease table locks period log) v.arrived came)

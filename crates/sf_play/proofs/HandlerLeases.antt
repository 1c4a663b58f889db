-- The leases that a handler holds are frames that calls gave: what a vsync looks at, leaves on layers, leaves waiting and lets go.
use Rattle.std.proofs.Common.{◌≡◌, ℕ, true, List, [], ◌∷◌, ◌++◌, map, ap, sym, ◌∙◌, subst}
use Rattle.std.specs.Prelude.{Contains}
use Rattle.std.specs.List.{All, AllZip}
use Rattle.std.proofs.lemmas.List.Elements.{All-append, All-cons, All-head, All-nil, All-tail, All-weaker}
use Rattle.sf_base.specs.declared.fences.Seen.{Seen}
use Rattle.sf_play_report.specs.sf_layer.declared.shown.Shown.{Shown}
use Rattle.sf_play_report.specs.sf_surface.Histories.{Made}
use Rattle.sf_play_report.specs.sf_surface.Reading.{PlainLease, plain_lease}
use Rattle.sf_play_report.specs.sf_surface.Tokens.{ReadLeaseOf}
use Rattle.sf_play_report.specs.sf_token.Loads.{IsLookedArrival}
use Rattle.sf_play_report.specs.sf_token.Pending.{Arrival, is_of}
use Rattle.sf_play_report.specs.sf_turns.Views.{SeatView}
use Rattle.sf_play_report.specs.sf_txn.Buffers.{Buffer}
use Rattle.sf_play_report.specs.sf_txn.Leases.{IsLookedBuffer}
use Rattle.sf_play_report.specs.sf_txn.declared.lease.Lease.{Ghosts}
use Rattle.sf_play_report.proofs.sf_commit_lemmas.DecideLemmas.{all_left}
use Rattle.sf_play_report.proofs.sf_commit_lemmas.KnownLemmas.{Holds, holds_along}
use Rattle.sf_play_report.specs.sf_commit.Handlers.{Decides, HandlerOf, begun}
use Rattle.sf_play_report.specs.sf_commit.OnLayers.{OnLayer, brought, shown_on}
use Rattle.sf_play_report.specs.sf_commit.Releases.{CommittedOf}
use Rattle.sf_play_report.specs.sf_commit.Rounds.{Leads, Round, committed}
use Rattle.sf_play_report.specs.sf_actor.Desks.{DeskView}
use Rattle.sf_play.specs.Players.{IsBufferLent}

-- what the ghosts of a lease tell, where the lease is one of a frame
pub record OfFrames {R C : Type 0} (lease : Ghosts ReadLeaseOf SeatView R C) : Type 0 where
  pub plain : (a b : ReadLeaseOf) → lease.plain a ≡ lease.plain b → plain_lease a ≡ plain_lease b
  pub picture : (a b : ReadLeaseOf) → lease.picture a ≡ lease.picture b → a.turn.expects ≡ b.turn.expects
  pub number : (a b : ReadLeaseOf) → lease.end a ≡ lease.end b → a.turn.number ≡ b.turn.number

-- something that holds along two lists
zip_all : {X Y : Type 0} (R : X → Y → Type 0) (P : X → Type 0) (Q : Y → Type 0) → ((x : X) (y : Y) → R x y → P x → Q y) → (xs : List X) (ys : List Y) → AllZip R xs ys → All P xs → All Q ys
zip_all R P Q goes [] [] zip all = All-nil Q
zip_all R P Q goes [] (y ∷ ys) zip all = absurd zip
zip_all R P Q goes (x ∷ xs) [] zip all = absurd zip
zip_all R P Q goes (x ∷ xs) (y ∷ ys) zip all = All-cons Q y ys (goes x y zip.0 (All-head P x xs all)) (zip_all R P Q goes xs ys zip.1 (All-tail P x xs all))

-- what is shown of a frame is so by its lease without its right
shown_of_plain : PlainLease → Shown
shown_of_plain l = record { queue = l.queue; frame = l.frame; picture = l.picture; crop = l.crop }

module _ {B : Type 0} where
  abbrev pub IsOnLent : DeskView B → OnLayer ReadLeaseOf → Type 0
  IsOnLent view on = IsBufferLent view on.shown on.lease

  abbrev pub IsArrivedLent : DeskView B → Arrival ReadLeaseOf → Type 0
  IsArrivedLent view arrived = All (λ (buffer : Buffer ReadLeaseOf). IsBufferLent view buffer.shown buffer.lease) arrived.txn.buffers

  -- while calls are added
  lent_on : (old new : DeskView B) → ((queue : ℕ) (made : Made B) → Contains (old.calls queue) made → Contains (new.calls queue) made) → (shown : Shown) (lease : ReadLeaseOf)
      → IsBufferLent old shown lease → IsBufferLent new shown lease
  lent_on old new grows shown lease is = record {
    lent = record {
      first = is.lent.first;
      made = is.lent.made;
      there = grows lease.queue.0 is.lent.made is.lent.there;
      takes = is.lent.takes;
      plain = is.lent.plain;
      expects = is.lent.expects;
      number = is.lent.number;
    };
    shows = is.shows;
  }

  pub arrived_lent_on : (old new : DeskView B) → ((queue : ℕ) (made : Made B) → Contains (old.calls queue) made → Contains (new.calls queue) made) → (arrivals : List (Arrival ReadLeaseOf))
      → All (IsArrivedLent old) arrivals → All (IsArrivedLent new) arrivals
  arrived_lent_on old new grows arrivals =
      All-weaker (IsArrivedLent old) (IsArrivedLent new)
      (λ (a : Arrival ReadLeaseOf).
      All-weaker (λ (b : Buffer ReadLeaseOf). IsBufferLent old b.shown b.lease) (λ (b : Buffer ReadLeaseOf). IsBufferLent new b.shown b.lease) (λ (b : Buffer ReadLeaseOf). lent_on old new grows b.shown b.lease) a.txn.buffers)
      arrivals

  pub on_lent_on : (old new : DeskView B) → ((queue : ℕ) (made : Made B) → Contains (old.calls queue) made → Contains (new.calls queue) made) → (on : List (OnLayer ReadLeaseOf))
      → All (IsOnLent old) on → All (IsOnLent new) on
  on_lent_on old new grows on = All-weaker (IsOnLent old) (IsOnLent new) (λ (one : OnLayer ReadLeaseOf). lent_on old new grows one.shown one.lease) on

  module _ {R C : Type 0} (lease : Ghosts ReadLeaseOf SeatView R C) (frames : OfFrames lease) (view : DeskView B) where
    -- a lease that was looked at
    looked_lent : (old new : Buffer ReadLeaseOf) → IsLookedBuffer lease old new → IsBufferLent view old.shown old.lease → IsBufferLent view new.shown new.lease
    unfolding shown_of_plain
    looked_lent old new looked is =
        let plain = frames.plain new.lease old.lease looked.looked.plain in
        record {
          lent = record {
            first = is.lent.first;
            made = is.lent.made;
            there = subst (λ (l : PlainLease). Contains (view.calls l.queue.0) is.lent.made) (sym plain) is.lent.there;
            takes = is.lent.takes;
            plain = plain ∙ is.lent.plain;
            expects = frames.picture new.lease old.lease looked.looked.picture ∙ is.lent.expects;
            number = frames.number new.lease old.lease looked.looked.end ∙ is.lent.number;
          };
          shows = looked.shown ∙ is.shows ∙ ap shown_of_plain (sym plain);
        }

    arrival_lent : (old new : Arrival ReadLeaseOf) → IsLookedArrival lease old new → IsArrivedLent view old → IsArrivedLent view new
    arrival_lent old new looked all =
        zip_all (IsLookedBuffer lease) (λ (b : Buffer ReadLeaseOf). IsBufferLent view b.shown b.lease) (λ (b : Buffer ReadLeaseOf). IsBufferLent view b.shown b.lease) looked_lent old.txn.buffers new.txn.buffers looked.buffers all

    module _ (old new : HandlerOf ReadLeaseOf) (eye after : SeatView) (arrived : List (Arrival ReadLeaseOf)) (seen : Seen) (expected : ℕ) (told : CommittedOf ReadLeaseOf)
        (d : Decides lease old eye arrived seen expected told new after) (pending : All (IsArrivedLent view) old.pending) (came : All (IsArrivedLent view) arrived) (on : All (IsOnLent view) old.on) where
      pub looked_all : All (IsArrivedLent view) d.looked
      looked_all =
          zip_all (IsLookedArrival lease) (IsArrivedLent view) (IsArrivedLent view) arrival_lent (old.pending ++ arrived) d.looked d.looks (All-append (IsArrivedLent view) old.pending arrived pending came)

      begins : Holds lease.shown seen expected (IsOnLent view) (begun old d.looked)
      begins = record {
        on = on;
        gone = All-nil (IsOnLent view);
        waits = All-weaker (IsArrivedLent view) (λ (a : Arrival ReadLeaseOf). All (λ (b : Buffer ReadLeaseOf). lease.shown b.lease ≡ true → IsOnLent view (brought b)) a.txn.buffers)
            (λ (a : Arrival ReadLeaseOf).
            All-weaker (λ (b : Buffer ReadLeaseOf). IsBufferLent view b.shown b.lease) (λ (b : Buffer ReadLeaseOf). lease.shown b.lease ≡ true → IsOnLent view (brought b)) (λ (b : Buffer ReadLeaseOf) is drawn. is) a.txn.buffers)
            d.looked looked_all;
      }

      holds : Holds lease.shown seen expected (IsOnLent view) d.end
      holds = holds_along lease.shown seen expected (IsOnLent view) (begun old d.looked) d.end d.decided.taken d.decided.leads begins

      waits_along : (r end : Round ReadLeaseOf) (taken : List (Arrival ReadLeaseOf)) → Leads lease.shown seen expected r taken end → All (IsArrivedLent view) r.pending → All (IsArrivedLent view) end.pending
      waits_along r end [] leads all = subst (λ (x : Round ReadLeaseOf). All (IsArrivedLent view) x.pending) (sym leads) all
      waits_along r end (a ∷ later) leads all = waits_along (committed r a) end later leads.1 (all_left (IsArrivedLent view) (is_of a.txn.token) r.pending all)

      read_all : (ones : List (OnLayer ReadLeaseOf)) → All (IsOnLent view) ones → All (IsOnLent view) (map shown_on ones)
      read_all [] all = All-nil (IsOnLent view)
      read_all (one ∷ ones) all = All-cons (IsOnLent view) (shown_on one) (map shown_on ones) (All-head (IsOnLent view) one ones all) (read_all ones (All-tail (IsOnLent view) one ones all))

      -- what goes, what stays on layers, and what waits
      pub gone_lent : All (IsOnLent view) d.end.stage.gone
      gone_lent = holds.gone

      pub stays_lent : All (IsOnLent view) new.on
      stays_lent = subst (λ (h : HandlerOf ReadLeaseOf). All (IsOnLent view) h.on) (sym d.settled.state) (read_all d.end.stage.on holds.on)

      pub waits_lent : All (IsArrivedLent view) new.pending
      waits_lent = subst (λ (h : HandlerOf ReadLeaseOf). All (IsArrivedLent view) h.pending) (sym d.settled.state) (waits_along (begun old d.looked) d.end d.decided.taken d.decided.leads looked_all)

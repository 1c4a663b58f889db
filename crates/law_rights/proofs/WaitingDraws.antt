-- A draw that an earlier turn keeps waiting finds that turn owed.
use Rattle.std.proofs.Common.{◌≡◌, ℕ, ◌<◌, true, List, [], ◌++◌, arith, ap, refl, inl, inr, subst, Option, Some, None}
use Rattle.std.specs.Prelude.{Contains}
use Rattle.std.specs.List.{flat_map}
use Rattle.std.proofs.lemmas.List.Elements.{Contains-append_left, Contains-append_right}
use Rattle.sf_actor_set.specs.sf_commit.Handlers.{HandlerOf}
use Rattle.sf_actor_set.specs.sf_picture.declared.picture.Picture.{Picture}
use Rattle.sf_slots.specs.declared.slot.Held.{Held}
use Rattle.sf_actor_set.specs.sf_surface.Drawing.{IsShort}
use Rattle.sf_actor_set.specs.sf_surface.Tokens.{OwingOf, ReadLeaseOf, WriteLeaseOf, turn_of}
use Rattle.sf_actor_set.specs.sf_turns.Counts.{IsExact, leaves_of}
use Rattle.sf_actor_set.specs.sf_turns.Views.{SeatView}
use Rattle.sf_actor_set.specs.sf_actor.declared.holding.Holding.{Holding}
use Rattle.sf_actor_set.specs.sf_actor.declared.holding.Holding.TheVariants as holding
use Rattle.sf_actor_set.specs.sf_actor.Desks.{DeskHome, DeskView}
use Rattle.sf_actor_set.specs.sf_actor.Holdings.{turn_held}
use Rattle.sf_actor_set.specs.sf_actor.Rights.{Turn, issued_turn, turn_by}
use Rattle.sf_actor_set.specs.sf_actor.Tries.{ActorOf}
use Rattle.law_rights.specs.Actors.{AreOver}
use Rattle.law_rights.specs.Ledgers.{HasLeftOrIsOwed, IsSettled, Ledger, Write}
use Rattle.law_rights.specs.Owed.{HasEarlier, IsOwedIn, MayDraw}
use Rattle.law_rights.specs.Standing.{LedgerStands, state_of}
use Rattle.law_rights.specs.States.{all_buffers, all_lying, all_owed, ledger_of, owed_of, right_of, rights_arrived, rights_held, rights_in, rights_of, write_owed}
use Rattle.law_rights.proofs.TurnCounts.{first, none_in, the_only}
use Rattle.law_rights.proofs.LookResults.{left_below}
use Rattle.law_rights.proofs.QueueCounts.{in_all, in_some}
use Rattle.law_rights.proofs.PermitStock.{made_in_stocks}

module _ {B : Type 0} where
  record Owes (held : Option (Holding B)) (write : Write) : Type 0 where
    owing : OwingOf
    size : Held
    is : held ≡ Some (holding.Owes owing size)
    turn : issued_turn owing.turn ≡ write.turn

  owes_it : (held : Option (Holding B)) (write : Write) → Contains (write_owed held) write → Owes held write
  owes_it (Some (holding.Owes owing size)) write there = record {
    owing = owing;
    size = size;
    is = refl;
    turn = ap (λ (w : Write). w.turn) (the_only (record { turn = issued_turn owing.turn; frame = (owing.queue, owing.frame) }) write there);
  }
  owes_it None write there = absurd (none_in write there)
  owes_it (Some (holding.Lends lease)) write there = absurd (none_in write there)
  owes_it (Some (holding.Reads lease)) write there = absurd (none_in write there)
  owes_it (Some (holding.Frees queue loose)) write there = absurd (none_in write there)

  owed_in : (ofs : List (ActorOf B)) (write : Write) → Contains (flat_map (λ (of : ActorOf B). owed_of of.parts) ofs) write → IsOwedIn ofs write.turn
  owed_in ofs write there =
      let at = in_some (λ (of : ActorOf B). owed_of of.parts) ofs write there in
      let name = in_some write_owed at.0.parts.names write at.2 in
      let owes = owes_it name.0 write name.2 in
      record { of = at.0; there = at.1; owing = owes.owing; held = owes.size; named = subst (λ (o : Option (Holding B)). Contains at.0.parts.names o) owes.is name.1; owes = owes.turn }

  module _ (pictures : ℕ → Picture) (buffers : ℕ) (home : DeskHome) (view : DeskView B) (ofs : List (ActorOf B)) (handler : HandlerOf ReadLeaseOf) (stands : LedgerStands buffers home view ofs handler) (over : AreOver pictures home view ofs) where
    abbrev ledger : Ledger
    ledger = ledger_of (state_of home view ofs handler)

    -- what a name holds is settled, and of a buffer that was made
    record Stood (turn : Turn) : Type 0 where
      settled : IsSettled (ledger_of (state_of home view ofs handler)) turn
      made : Contains (all_buffers home.marks view.calls) turn.0

    lent : (of : ActorOf B) (lease : WriteLeaseOf) → Contains ofs of → Contains of.parts.names (Some (holding.Lends lease)) → Stood (turn_by (turn_of lease.work))
    lent of lease there named = record { settled = stands.ledger.live_settled (turn_by (turn_of lease.work)) live; made = stands.ledger.live_made (turn_by (turn_of lease.work)) live }
      where
        here : Contains (rights_of of.parts) (turn_by (turn_of lease.work))
        here = Contains-append_left (flat_map right_of of.parts.names) (flat_map rights_in of.parts.transactions) (turn_by (turn_of lease.work))
            (in_all right_of of.parts.names (Some (holding.Lends lease)) (turn_by (turn_of lease.work)) named (first (turn_by (turn_of lease.work)) []))

        held : Contains (rights_held (state_of home view ofs handler)) (turn_by (turn_of lease.work))
        held = Contains-append_left (flat_map (λ (o : ActorOf B). rights_of o.parts) ofs ++ flat_map rights_arrived (state_of home view ofs handler).waiting) _ (turn_by (turn_of lease.work))
            (Contains-append_left (flat_map (λ (o : ActorOf B). rights_of o.parts) ofs) (flat_map rights_arrived (state_of home view ofs handler).waiting) (turn_by (turn_of lease.work))
            (in_all (λ (o : ActorOf B). rights_of o.parts) ofs of (turn_by (turn_of lease.work)) there here))

        live : Contains (ledger_of (state_of home view ofs handler)).live (turn_by (turn_of lease.work))
        live = Contains-append_right (all_lying home.marks view.calls) (rights_held (state_of home view ofs handler)) (turn_by (turn_of lease.work)) held

    owed : (of : ActorOf B) (owing : OwingOf) (size : Held) → Contains ofs of → Contains of.parts.names (Some (holding.Owes owing size)) → Stood (issued_turn owing.turn)
    owed of owing size there named = record {
      settled = stands.ledger.owed_settled (record { turn = issued_turn owing.turn; frame = (owing.queue, owing.frame) }) is_owed;
      made = stands.ledger.queued_made (record { turn = issued_turn owing.turn; frame = (owing.queue, owing.frame) })
          (stands.ledger.owed_queued (record { turn = issued_turn owing.turn; frame = (owing.queue, owing.frame) }) is_owed);
    }
      where
        is_owed : Contains (all_owed (state_of home view ofs handler)) (record { turn = issued_turn owing.turn; frame = (owing.queue, owing.frame) })
        is_owed = in_all (λ (o : ActorOf B). owed_of o.parts) ofs of (record { turn = issued_turn owing.turn; frame = (owing.queue, owing.frame) }) there
            (in_all write_owed of.parts.names (Some (holding.Owes owing size)) (record { turn = issued_turn owing.turn; frame = (owing.queue, owing.frame) }) named (first (record { turn = issued_turn owing.turn; frame = (owing.queue, owing.frame) }) []))

    stood : (of : ActorOf B) (held : Holding B) → Contains ofs of → Contains of.parts.names (Some held) → MayDraw held → Stood (turn_held held)
    stood of (holding.Lends lease) there named may = lent of lease there named
    stood of (holding.Owes owing size) there named may = owed of owing size there named
    stood of (holding.Reads lease) there named may = absurd may
    stood of (holding.Frees queue loose) there named may = absurd may

    pub short_owed : (of : ActorOf B) (held : Holding B) (after : SeatView) → Contains ofs of → Contains of.parts.names (Some held) → MayDraw held
        → view.turns.is_first ≡ true → view.turns.out ≡ 0 → IsExact buffers view.turns.leaves view.turns.seen → IsShort (turn_held held).0 (turn_held held).1 view.turns after → HasEarlier ofs held
    short_owed of held after there named may is_first alone exact short = by_turn (is.settled short.0 short.2)
      where
        is : Stood (turn_held held)
        is = stood of held there named may

        low : (turn_held held).0 < buffers
        low = stands.below (turn_held held).0 (made_in_stocks pictures home view ofs over (turn_held held).0 is.made)

        count : short.0 ≡ leaves_of (turn_held held).0 view.turns.leaves
        count = short.1.3 is_first alone

        by_turn : HasLeftOrIsOwed (ledger_of (state_of home view ofs handler)) ((turn_held held).0, short.0) → HasEarlier ofs held
        by_turn (inl left) =
            let below = left_below buffers view.turns.leaves view.turns.seen ((turn_held held).0, short.0) exact low left in
            absurd (omega (arith, below, count))
        by_turn (inr found) = record { number = short.0; earlier = short.2; owed = subst (IsOwedIn ofs) found.2 (owed_in ofs found.0 found.1) }

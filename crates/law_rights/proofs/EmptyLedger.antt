-- The ledger stands where nothing has happened.
use Rattle.std.proofs.Common.{◌≡◌, ℕ, zero, suc, Bool, true, false, List, [], ◌∷◌, ◌++◌, arith, ap, ◌∙◌, sym, refl, subst, map, drop, None, Option}
use Rattle.std.specs.Prelude.{All, if◌then◌else◌}
use Rattle.std.specs.List.{flat_map, range_with_len}
use Rattle.std.proofs.lemmas.List.Elements.{All-head, All-tail}
use Rattle.sf_actor_set.specs.sf_commit.Handlers.{HandlerOf}
use Rattle.sf_actor_set.specs.sf_commit.OnLayers.{OnLayer}
use Rattle.sf_slots.specs.History.{events}
use Rattle.sf_actor_set.specs.sf_surface.declared.mark.QueueMark.{QueueMark}
use Rattle.sf_actor_set.specs.sf_surface.Histories.{last_left, told}
use Rattle.sf_actor_set.specs.sf_surface.Tokens.{ReadLeaseOf}
use Rattle.sf_actor_set.specs.sf_token.Pending.{Arrival}
use Rattle.sf_actor_set.specs.sf_txn.Transactions.{Contents}
use Rattle.sf_actor_set.specs.sf_actor.declared.done.Done.{Done}
use Rattle.sf_actor_set.specs.sf_actor.declared.holding.Holding.{Holding}
use Rattle.sf_actor_set.specs.sf_actor.Desks.{DeskHome, DeskView}
use Rattle.sf_actor_set.specs.sf_actor.Rights.{Turn}
use Rattle.sf_actor_set.specs.sf_actor.Traces.{places_from}
use Rattle.sf_actor_set.specs.sf_actor.Tries.{ActorOf}
use Rattle.sf_actor_set.specs.sf_actor.Written as written
use Rattle.law_rights.specs.Calls.{buffers_in, writes_in}
use Rattle.law_rights.specs.Ledgers.{IsLedger, Ledger}
use Rattle.law_rights.specs.Slots.{is_home_after, lying, lying_in, turn_left}
use Rattle.law_rights.specs.Standing.{Begins, IsFresh, LedgerStands, state_of}
use Rattle.law_rights.specs.States.{all_buffers, all_lying, all_writes, lease_turn, ledger_of, owed_of, right_of, rights_arrived, rights_held, rights_in, rights_of, write_owed}
use Rattle.law_rights.specs.Vsyncs.{lease_on}
use Rattle.law_rights.proofs.TurnCounts.{none_in}

-- a ledger of nothing
abbrev nothing : Ledger
nothing = record { live = []; owed = []; queued = []; left = []; written = []; made = [] }

is_nothing : IsLedger nothing
is_nothing = record {
  one = λ buffer. omega arith;
  after_left = λ turn left there. absurd (none_in turn there);
  after_queued = λ turn write there. absurd (none_in turn there);
  live_made = λ turn there. absurd (none_in turn there);
  left_made = λ turn there. absurd (none_in turn there);
  queued_made = λ write there. absurd (none_in write there);
  one_frame = λ write other there. absurd (none_in write there);
  one_turn = λ write other there. absurd (none_in write there);
  owed_queued = λ write there. absurd (none_in write there);
  written_queued = λ frame there. absurd (none_in frame there);
  written_left = λ write there. absurd (none_in write there);
  left_written = λ write there. absurd (none_in write there);
  live_settled = λ turn there. absurd (none_in turn there);
  owed_settled = λ write there. absurd (none_in write there);
}

none_joined : {A X : Type 0} (f : X → List A) (xs : List X) → ((x : X) → f x ≡ []) → flat_map f xs ≡ []
none_joined f [] each = refl
none_joined f (x ∷ xs) each = ap (λ ys. ys ++ flat_map f xs) (each x) ∙ none_joined f xs each

drop_none : {A : Type 0} (n : ℕ) → drop {A = A} n [] ≡ []
drop_none zero = refl
drop_none (suc n) = refl

written_none : written.written_in [] ≡ []
unfolding places_from
written_none = refl

none_lies : (home : Bool) → (if home then turn_left None else []) ≡ []
none_lies true = refl
none_lies false = refl

none_lying : (B : Type 0) (mark : QueueMark) → lying {B = B} mark [] ≡ []
unfolding lying told last_left
none_lying B mark = none_joined (lying_in {B = B} mark []) (range_with_len 0 64) (λ s. none_lies (is_home_after (events (told {B = B} mark [])) s))

module _ {B : Type 0} where
  fresh_rights : (ofs : List (ActorOf B)) → All IsFresh ofs → flat_map (λ (of : ActorOf B). rights_of of.parts) ofs ≡ []
  fresh_rights [] fresh = refl
  fresh_rights (of ∷ ofs) fresh =
      let is = All-head IsFresh of ofs fresh in
      ap (λ (names : List (Option (Holding B))). (flat_map right_of names ++ flat_map rights_in of.parts.transactions) ++ flat_map (λ (o : ActorOf B). rights_of o.parts) ofs) is.names
      ∙ ap (λ (txns : List (Option (Contents ReadLeaseOf))). flat_map rights_in txns ++ flat_map (λ (o : ActorOf B). rights_of o.parts) ofs) is.transactions
      ∙ fresh_rights ofs (All-tail IsFresh of ofs fresh)

  fresh_owed : (ofs : List (ActorOf B)) → All IsFresh ofs → flat_map (λ (of : ActorOf B). owed_of of.parts) ofs ≡ []
  fresh_owed [] fresh = refl
  fresh_owed (of ∷ ofs) fresh =
      ap (λ (names : List (Option (Holding B))). flat_map write_owed names ++ flat_map (λ (o : ActorOf B). owed_of o.parts) ofs) (All-head IsFresh of ofs fresh).names
      ∙ fresh_owed ofs (All-tail IsFresh of ofs fresh)

  fresh_written : (ofs : List (ActorOf B)) → All IsFresh ofs → flat_map (λ (of : ActorOf B). written.written_in of.trace) ofs ≡ []
  fresh_written [] fresh = refl
  fresh_written (of ∷ ofs) fresh =
      ap (λ (trace : List Done). written.written_in trace ++ flat_map (λ (o : ActorOf B). written.written_in o.trace) ofs) (All-head IsFresh of ofs fresh).trace
      ∙ ap (λ xs. xs ++ flat_map (λ (o : ActorOf B). written.written_in o.trace) ofs) written_none
      ∙ fresh_written ofs (All-tail IsFresh of ofs fresh)

  pub begins_standing : (buffers : ℕ) (home : DeskHome) (view : DeskView B) (ofs : List (ActorOf B)) (handler : HandlerOf ReadLeaseOf) → Begins buffers home view ofs handler → LedgerStands buffers home view ofs handler
  begins_standing buffers home view ofs handler begins = record { ledger = ledger; exact = begins.exact; apart = begins.apart; once = begins.once; below = begins.below }
    where
      lying_is : all_lying home.marks view.calls ≡ []
      lying_is = none_joined (λ (m : QueueMark). lying m (view.calls m.queue.0)) home.marks (λ m. ap (lying m) (begins.calls m.queue.0) ∙ none_lying B m)

      writes_is : all_writes home.marks view.calls ≡ []
      writes_is = none_joined (λ (m : QueueMark). writes_in m (view.calls m.queue.0)) home.marks (λ m. ap (writes_in m) (begins.calls m.queue.0))

      buffers_is : all_buffers home.marks view.calls ≡ []
      buffers_is = none_joined (λ (m : QueueMark). buffers_in m (view.calls m.queue.0)) home.marks (λ m. ap (buffers_in m) (begins.calls m.queue.0))

      waiting_is : handler.pending ++ drop home.taken view.arrivals ≡ []
      waiting_is = ap (λ (xs : List (Arrival ReadLeaseOf)). xs ++ drop home.taken view.arrivals) begins.pending ∙ ap (drop home.taken) begins.arrivals ∙ drop_none home.taken

      held_is : rights_held (state_of home view ofs handler) ≡ []
      held_is =
          ap (λ (xs : List Turn). xs ++ flat_map rights_arrived (handler.pending ++ drop home.taken view.arrivals) ++ map lease_turn (map lease_on handler.on)) (fresh_rights ofs begins.fresh)
          ∙ ap (λ (xs : List (Arrival ReadLeaseOf)). flat_map rights_arrived xs ++ map lease_turn (map lease_on handler.on)) waiting_is
          ∙ ap (λ (xs : List (OnLayer ReadLeaseOf)). map lease_turn (map lease_on xs)) begins.on

      same : ledger_of (state_of home view ofs handler) ≡ nothing
      same = λ i. record {
        live = live i;
        owed = fresh_owed ofs begins.fresh i;
        queued = writes_is i;
        left = begins.leaves i;
        written = fresh_written ofs begins.fresh i;
        made = buffers_is i;
      }
        where
          live : all_lying home.marks view.calls ++ rights_held (state_of home view ofs handler) ≡ []
          live = ap (λ (xs : List Turn). xs ++ rights_held (state_of home view ofs handler)) lying_is ∙ held_is

      ledger : IsLedger (ledger_of (state_of home view ofs handler))
      ledger = subst IsLedger (sym same) is_nothing

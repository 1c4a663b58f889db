-- Where nothing has happened, makers stand.
use Rattle.std.proofs.Common.{◌≡◌, ℕ, zero, suc, ◌⊎◌, List, [], ◌++◌, map, drop, ap, ◌∙◌, refl, inl, inr, subst, Option}
use Rattle.std.specs.Prelude.{Contains}
use Rattle.std.specs.List.{flat_map}
use Rattle.std.proofs.lemmas.List.Elements.{All-contains, Contains-append_cases}
use Rattle.sf_actor_set.specs.sf_commit.Handlers.{HandlerOf}
use Rattle.sf_actor_set.specs.sf_commit.OnLayers.{OnLayer}
use Rattle.sf_actor_set.specs.sf_surface.declared.mark.QueueMark.{QueueMark}
use Rattle.sf_actor_set.specs.sf_surface.Histories.{Made, last_left}
use Rattle.sf_actor_set.specs.sf_surface.Tokens.{ReadLeaseOf}
use Rattle.sf_actor_set.specs.sf_token.Pending.{Arrival}
use Rattle.sf_actor_set.specs.sf_txn.Transactions.{Contents}
use Rattle.sf_actor_set.specs.sf_actor.declared.holding.Holding.{Holding}
use Rattle.sf_actor_set.specs.sf_actor.Desks.{DeskHome, DeskView}
use Rattle.sf_actor_set.specs.sf_actor.Makers.{Run}
use Rattle.sf_actor_set.specs.sf_actor.Tries.{ActorOf}
use Rattle.law_rights.specs.Calls.{buffers_in}
use Rattle.law_rights.specs.Makers.{MakersStand, RightAt, WriteAt, place_of, place_owed, places_arrived, places_held, places_in, places_lying, places_of, places_out, places_owed, places_written, right_read}
use Rattle.law_rights.specs.Standing.{Begins, IsFresh, state_of}
use Rattle.law_rights.specs.Vsyncs.{lease_on}
use Rattle.law_rights.proofs.TurnCounts.{none_in}
use Rattle.law_rights.proofs.MakersCalling.{LiesAt, lies_at}
use Rattle.law_rights.proofs.QueueCounts.{in_some}

drop_none : {A : Type 0} (n : ℕ) → drop {A = A} n [] ≡ []
drop_none zero = refl
drop_none (suc n) = refl

module _ {B : Type 0} where
  none_lies : (mark : QueueMark) (right : RightAt) → LiesAt {B = B} mark [] right → ⊥
  unfolding last_left
  none_lies mark right lies = none_in right lies.left

  module _ (buffers : ℕ) (home : DeskHome) (view : DeskView B) (ofs : List (ActorOf B)) (handler : HandlerOf ReadLeaseOf) (begins : Begins buffers home view ofs handler) where
    fresh : (of : ActorOf B) → Contains ofs of → IsFresh of
    fresh of there = All-contains IsFresh ofs of begins.fresh there

    none_held : (right : RightAt) → Contains (flat_map (λ (of : ActorOf B). places_held of.parts) ofs) right → ⊥
    none_held right there =
        let found = in_some (λ (of : ActorOf B). places_held of.parts) ofs right there in
        let is = fresh found.0 found.1 in
        none_in right (subst (λ (xs : List RightAt). Contains xs right)
        (ap (λ (names : List (Option (Holding B))). flat_map place_of names ++ flat_map places_in found.0.parts.transactions) is.names
        ∙ ap (λ (txns : List (Option (Contents ReadLeaseOf))). flat_map places_in txns) is.transactions) found.2)

    waiting_is : handler.pending ++ drop home.taken view.arrivals ≡ []
    waiting_is = ap (λ (xs : List (Arrival ReadLeaseOf)). xs ++ drop home.taken view.arrivals) begins.pending ∙ ap (drop home.taken) begins.arrivals ∙ drop_none home.taken

    none_live : (right : RightAt) → Contains (places_of (state_of home view ofs handler)).live right → ⊥
    none_live right there = by_place (Contains-append_cases (flat_map (λ (m : QueueMark). places_lying m (view.calls m.queue.0)) home.marks) (places_out (state_of home view ofs handler)) right there)
      where
        lay : Contains (flat_map (λ (m : QueueMark). places_lying m (view.calls m.queue.0)) home.marks) right → ⊥
        lay lies =
            let found = in_some (λ (m : QueueMark). places_lying m (view.calls m.queue.0)) home.marks right lies in
            none_lies found.0 right (lies_at found.0 [] right (subst (λ (calls : List (Made B)). Contains (places_lying found.0 calls) right) (begins.calls found.0.queue.0) found.2))

        waits : Contains (flat_map places_arrived (handler.pending ++ drop home.taken view.arrivals)) right → ⊥
        waits there = none_in right (subst (λ (xs : List (Arrival ReadLeaseOf)). Contains (flat_map places_arrived xs) right) waiting_is there)

        shown : Contains (map right_read (map lease_on handler.on)) right → ⊥
        shown there = none_in right (subst (λ (xs : List (OnLayer ReadLeaseOf)). Contains (map right_read (map lease_on xs)) right) begins.on there)

        out : Contains (places_out (state_of home view ofs handler)) right → ⊥
        out there = elim (Contains-append_cases (flat_map (λ (of : ActorOf B). places_held of.parts) ofs ++ flat_map places_arrived (handler.pending ++ drop home.taken view.arrivals)) (map right_read (map lease_on handler.on)) right there) [
          | inl first ↦ elim (Contains-append_cases (flat_map (λ (of : ActorOf B). places_held of.parts) ofs) (flat_map places_arrived (handler.pending ++ drop home.taken view.arrivals)) right first) [
            | inl held ↦ none_held right held
            | inr waiting ↦ waits waiting
          ]
          | inr on ↦ shown on
        ]

        by_place : Contains (flat_map (λ (m : QueueMark). places_lying m (view.calls m.queue.0)) home.marks) right ⊎ Contains (places_out (state_of home view ofs handler)) right → ⊥
        by_place (inl lies) = lay lies
        by_place (inr held) = out held

    none_queued : (write : WriteAt) → Contains (places_of (state_of home view ofs handler)).queued write → ⊥
    none_queued write there =
        let found = in_some (λ (m : QueueMark). places_written m (view.calls m.queue.0)) home.marks write there in
        none_in write (subst (λ (calls : List (Made B)). Contains (places_written found.0 calls) write) (begins.calls found.0.queue.0) found.2)

    none_made : (buffer : ℕ) → Contains (places_of (state_of home view ofs handler)).made buffer → ⊥
    none_made buffer there =
        let found = in_some (λ (m : QueueMark). buffers_in m (view.calls m.queue.0)) home.marks buffer there in
        none_in buffer (subst (λ (calls : List (Made B)). Contains (buffers_in found.0 calls) buffer) (begins.calls found.0.queue.0) found.2)

    none_owed : (write : WriteAt) → Contains (places_of (state_of home view ofs handler)).owed write → ⊥
    none_owed write there =
        let found = in_some (λ (of : ActorOf B). places_owed of.parts) ofs write there in
        none_in write (subst (λ (names : List (Option (Holding B))). Contains (flat_map place_owed names) write) (fresh found.0 found.1).names found.2)

    pub makers_begin : (run : Run) (most : ℕ) → MakersStand run most (state_of home view ofs handler)
    makers_begin run most = record {
      stays = record { last = λ buffer. record { queue = 0; number = 0 }; before = λ stay. [] };
      are = record {
        made = λ buffer there. absurd (none_made buffer there);
        apart = λ buffer other there. absurd (none_made buffer there);
        live = λ right there. absurd (none_live right there);
        queued = λ write there. absurd (none_queued write there);
        once = λ one other there. absurd (none_queued one there);
        rises = λ one other there. absurd (none_queued one there);
        owed = λ write there. absurd (none_owed write there);
      };
    }

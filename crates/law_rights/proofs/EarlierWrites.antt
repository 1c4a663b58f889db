-- Each frame that was queued with an earlier turn at the pixels that a draw entered is written.
use Rattle.std.proofs.Common.{◌≡◌, ℕ, ◌≤◌, ◌<◌, List, arith, ap}
use Rattle.std.specs.Prelude.{Contains}
use Rattle.std.proofs.lemmas.List.Elements.{All-contains}
use Rattle.sf_base.specs.Points.{greatest}
use Rattle.sf_actor_set.specs.sf_commit.Handlers.{HandlerOf}
use Rattle.sf_actor_set.specs.sf_picture.declared.picture.Picture.{Picture}
use Rattle.sf_actor_set.specs.sf_surface.Tokens.{ReadLeaseOf}
use Rattle.sf_actor_set.specs.sf_turns.Counts.{IsExact}
use Rattle.sf_actor_set.specs.sf_actor.Desks.{DeskHome, DeskView, known_of}
use Rattle.sf_actor_set.specs.sf_actor.Draws.{EntersCounted, entered_in}
use Rattle.sf_actor_set.specs.sf_actor.Known.{share_of}
use Rattle.sf_actor_set.specs.sf_actor.Tries.{ActorOf, Keeps}
use Rattle.law_rights.specs.Actors.{AreOver}
use Rattle.law_rights.specs.Ledgers.{Write}
use Rattle.law_rights.specs.Owed.{EntersLast}
use Rattle.law_rights.specs.Standing.{LedgerStands, state_of}
use Rattle.law_rights.specs.States.{all_writes, all_written}
use Rattle.law_rights.proofs.LookResults.{below_left}
use Rattle.law_rights.proofs.PermitStock.{made_in_stocks}

module _ {B : Type 0} where
  pub enters_last : (pictures : ℕ → Picture) (buffers : ℕ) (home : DeskHome) (view : DeskView B) (ofs : List (ActorOf B)) (handler : HandlerOf ReadLeaseOf) → LedgerStands buffers home view ofs handler → AreOver pictures home view ofs
      → IsExact buffers view.turns.leaves view.turns.seen → (of : ActorOf B) → Contains ofs of → (place : ℕ) → Contains (entered_in of.trace) place
      → EntersLast home view (all_written (state_of home view ofs handler)) of.script.number place
  enters_last pictures buffers home view ofs handler stands over exact of there place entered =
      let keeps = All-contains (λ (o : ActorOf B). Keeps pictures home o view) ofs of over.keep there in
      let counted = All-contains (EntersCounted (share_of of.script.number (known_of home view))) (entered_in of.trace) place keeps.kept.kept.turns.counted entered in
      record { turn = counted.0; given = counted.1; before = λ write queued same earlier. written write queued (counted.0).0 (counted.0).1 same earlier counted.2 }
    where
      written : (write : Write) → Contains (all_writes home.marks view.calls) write → (buffer number : ℕ) → write.turn.0 ≡ buffer → write.turn.1 < number → number ≤ greatest buffer view.turns.seen
          → Contains (all_written (state_of home view ofs handler)) write.frame
      written write queued buffer number same earlier counted =
          let low = stands.below write.turn.0 (made_in_stocks pictures home view ofs over write.turn.0 (stands.ledger.queued_made write queued)) in
          let unseen = exact.unseen write.turn.0 low in
          let seen = ap (λ (b : ℕ). greatest b view.turns.seen) same in
          stands.ledger.left_written write queued (below_left buffers view.turns.leaves view.turns.seen write.turn exact low (omega (arith, earlier, counted, unseen, seen)))

-- How what an actor has moves where a step changes what one transaction number holds.
use Rattle.std.proofs.Common.{◌≡◌, ◌≢◌, ℕ, ◌+◌, ◌<◌, ◌==◌, inl, inr, false, List, ◌++◌, length, set, ap, ◌∙◌, sym, Option, Some, None}
use Rattle.std.specs.Prelude.{get_or}
use Rattle.std.specs.List.{All}
use Rattle.std.specs.Option.{option_map}
use Rattle.std.proofs.Math.ListN.{get_or-map}
use Rattle.std.proofs.lemmas.Bool.{cases_Bool, eq-eqb, eqb-true, false≢true}
use Rattle.std.proofs.lemmas.List.{get_or-set_other, get_or-set_same, map-set}
use Rattle.sf_base.specs.Fences.{IsSignalled}
use Rattle.sf_script_scene.specs.sf_picture.declared.picture.Picture.{Picture}
use Rattle.sf_surface.specs.Tokens.{ReadLeaseOf}
use Rattle.sf_token.specs.sf_txn.Transactions.{Contents}
use Rattle.sf_actor.specs.declared.done.Done.{Done}
use Rattle.sf_actor.specs.Known.{Call, Share, plain_txn}
use Rattle.sf_actor.specs.Names.{FrameOf, Holdings, transaction_in, with_transaction}
use Rattle.sf_actor.specs.Holdings.{HoldingsOf, plain_of}
use Rattle.sf_actor.specs.Points.{shown_next}
use Rattle.sf_actor.specs.Rights.{HoldsAcquired}
use Rattle.sf_actor.specs.Steps.{holdings_next}
use Rattle.sf_actor.specs.Traces.{since_next}
use Rattle.sf_actor.specs.Tries.{ActorKept, ActorOf, ArePermits, contents_in, past_of}
use Rattle.sf_actor.proofs.FilledNames.{changes_move}
use Rattle.sf_actor.proofs.StepKeepsActor.{PartsMove, stepped}

module _ {B : Type 0} where
  -- the parts with something else under a transaction number
  abbrev pub with_contents : HoldingsOf B → ℕ → Option (Contents ReadLeaseOf) → HoldingsOf B
  with_contents parts number txn = record parts { transactions = set parts.transactions number txn }

  -- what a number holds, as the trace tells it
  pub transactions_told : (pictures : ℕ → Picture) (actor : ActorOf B) (share : Share B) (number : ℕ) → ActorKept pictures actor share → transaction_in (past_of actor).holdings number ≡ option_map plain_txn (contents_in actor.parts number)
  transactions_told pictures actor share number is =
      ap (λ (holdings : Holdings). transaction_in holdings number) (sym is.has)
      ∙ get_or-map (option_map plain_txn) actor.parts.transactions number None

  -- what a number holds then
  pub contents_case : {P : Type 0} (parts : HoldingsOf B) (number : ℕ) (txn : Option (Contents ReadLeaseOf)) (other : ℕ) (now : Contents ReadLeaseOf) → number < length parts.transactions → contents_in (with_contents parts number txn) other ≡ Some now → (txn ≡ Some now → P) → (contents_in parts other ≡ Some now → P) → P
  contents_case parts number txn other now low there here elsewhere = elim (cases_Bool (other == number)) [
    | inl met ↦
        let is = eqb-true other number met in
        here (sym (get_or-set_same parts.transactions number txn None low) ∙ ap (λ (n : ℕ). get_or (set parts.transactions number txn) n None) (sym is) ∙ there)
    | inr unmet ↦ elsewhere (sym (get_or-set_other parts.transactions number other txn None (apart unmet)) ∙ there)
  ]
    where
      apart : (other == number) ≡ false → other ≢ number
      apart unmet e = false≢true (sym unmet ∙ eq-eqb other number e)

  -- a step after which a number holds something else, of frames that the actor acquired
  pub record NumberMoves (pictures : ℕ → Picture) (actor : ActorOf B) (done : Done) (number : ℕ) (txn : Option (Contents ReadLeaseOf)) (old new : Share B) (added : ℕ → List (Call B)) : Type 0 where
    pub calls : (queue : ℕ) → new.calls queue ≡ old.calls queue ++ added queue
    pub low : number < length actor.parts.transactions
    pub holdings : holdings_next (past_of actor).holdings done ≡ with_transaction (past_of actor).holdings number (option_map plain_txn txn)
    pub since : since_next (past_of actor).since (length actor.trace + 1) done ≡ (past_of actor).since
    pub acquired : (now : Contents ReadLeaseOf) → txn ≡ Some now → All (HoldsAcquired new.calls) now.buffers
    pub reached : IsSignalled (shown_next (past_of actor).holdings (past_of actor).shown done) new.values
    pub permits : ArePermits (stepped actor done (with_contents actor.parts number txn)) new

  pub number_moves : (pictures : ℕ → Picture) (actor : ActorOf B) (done : Done) (number : ℕ) (txn : Option (Contents ReadLeaseOf)) (old new : Share B) (added : ℕ → List (Call B)) → ActorKept pictures actor old → NumberMoves pictures actor done number txn old new added → PartsMove pictures actor done (with_contents actor.parts number txn) new
  number_moves pictures actor done number txn old new added is move =
      changes_move pictures actor done (with_contents actor.parts number txn) old new added is
      (record {
        calls = move.calls;
        has =
            ap (λ (transactions : List (Option (Contents FrameOf))). record { names = (plain_of actor.parts).names; transactions = transactions }) (map-set (option_map plain_txn) actor.parts.transactions number txn)
            ∙ ap (λ (holdings : Holdings). with_transaction holdings number (option_map plain_txn txn)) is.has
            ∙ sym move.holdings;
        held = λ name now there. inl (there, ap (λ (since : List ℕ). get_or since name 0) move.since);
        contents = λ other now there. contents_case actor.parts number txn other now move.low there (λ same. inr (move.acquired now same)) (λ was. inl was);
        reached = move.reached;
        permits = move.permits;
      })

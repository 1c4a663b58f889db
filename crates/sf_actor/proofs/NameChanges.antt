-- How what an actor has moves where a step changes what one name holds.
use Rattle.std.proofs.Common.{◌≡◌, ◌≢◌, ℕ, ◌+◌, ◌<◌, ◌==◌, false, List, ◌++◌, length, set, inl, inr, ap, ◌∙◌, sym, subst, Option, Some, None}
use Rattle.std.specs.Prelude.{get_or}
use Rattle.std.specs.Option.{option_map}
use Rattle.std.proofs.lemmas.Bool.{cases_Bool, eq-eqb, eqb-true, false≢true}
use Rattle.std.proofs.lemmas.List.{get_or-set_other, get_or-set_same, map-set}
use Rattle.std.proofs.lemmas.List.Elements.{All-weaker}
use Rattle.sf_base.specs.Fences.{IsSignalled}
use Rattle.sf_script_scene.specs.sf_picture.declared.picture.Picture.{Picture}
use Rattle.sf_token.specs.sf_txn.Buffers.{Buffer}
use Rattle.sf_surface.specs.Tokens.{ReadLeaseOf}
use Rattle.sf_actor.specs.declared.done.Done.{Done}
use Rattle.sf_actor.specs.declared.holding.Holding.{Holding}
use Rattle.sf_actor.specs.Known.{Call, Share}
use Rattle.sf_actor.specs.Names.{Holdings, Token, with_name}
use Rattle.sf_actor.specs.Holdings.{HoldingsOf, ShowsPictures, plain_of, token_of, turn_held}
use Rattle.sf_actor.specs.Points.{shown_next}
use Rattle.sf_actor.specs.Rights.{HoldsAcquired, IsOfCall, WasGivenAt}
use Rattle.sf_actor.specs.Steps.{holdings_next}
use Rattle.sf_actor.specs.Traces.{since_next}
use Rattle.sf_actor.specs.Tries.{ActorKept, ActorOf, ArePermits, held_in, past_of}
use Rattle.sf_actor.proofs.TraceGrowth.{taken_still, given_still, of_call_still}
use Rattle.sf_actor.proofs.StepKeepsActor.{PartsMove, stepped}

module _ {B : Type 0} where
  -- the parts with something else under a name, and with this stock
  abbrev pub with_held : HoldingsOf B → ℕ → Option (Holding B) → List ℕ → HoldingsOf B
  with_held parts name held stock = record parts { names = set parts.names name held; stock = stock }

  -- a step after which a name holds something else, with the right that a call of the actor gave with it
  pub record NameMoves (pictures : ℕ → Picture) (actor : ActorOf B) (done : Done) (name : ℕ) (held : Option (Holding B)) (stock : List ℕ) (old new : Share B) (added : ℕ → List (Call B)) : Type 0 where
    pub calls : (queue : ℕ) → new.calls queue ≡ old.calls queue ++ added queue
    pub low : name < length actor.parts.names
    pub holdings : holdings_next (past_of actor).holdings done ≡ with_name (past_of actor).holdings name (option_map token_of held)
    pub since : (other : ℕ) → other ≢ name → get_or (since_next (past_of actor).since (length actor.trace + 1) done) other 0 ≡ get_or (past_of actor).since other 0
    pub given : (now : Holding B) → held ≡ Some now → WasGivenAt new.calls (get_or (since_next (past_of actor).since (length actor.trace + 1) done) name 0) (Some (turn_held now))
    pub of_call : (now : Holding B) → held ≡ Some now → IsOfCall new.calls now
    pub shows : (now : Holding B) → held ≡ Some now → ShowsPictures pictures now
    pub reached : IsSignalled (shown_next (past_of actor).holdings (past_of actor).shown done) new.values
    pub permits : ArePermits (stepped actor done (with_held actor.parts name held stock)) new

  -- what a name holds then
  pub held_case : {P : Type 0} (parts : HoldingsOf B) (name : ℕ) (held : Option (Holding B)) (stock : List ℕ) (other : ℕ) (now : Holding B) → name < length parts.names → held_in (with_held parts name held stock) other ≡ Some now → (other ≡ name → held ≡ Some now → P) → (other ≢ name → held_in parts other ≡ Some now → P) → P
  held_case parts name held stock other now low there here elsewhere = elim (cases_Bool (other == name)) [
    | inl met ↦
        let same = eqb-true other name met in
        here same (sym (get_or-set_same parts.names name held None low) ∙ ap (λ (n : ℕ). get_or (set parts.names name held) n None) (sym same) ∙ there)
    | inr unmet ↦ elsewhere (apart unmet) (sym (get_or-set_other parts.names name other held None (apart unmet)) ∙ there)
  ]
    where
      apart : (other == name) ≡ false → other ≢ name
      apart unmet e = false≢true (sym unmet ∙ eq-eqb other name e)

  pub name_moves : (pictures : ℕ → Picture) (actor : ActorOf B) (done : Done) (name : ℕ) (held : Option (Holding B)) (stock : List ℕ) (old new : Share B) (added : ℕ → List (Call B)) → ActorKept pictures actor old → NameMoves pictures actor done name held stock old new added → PartsMove pictures actor done (with_held actor.parts name held stock) new
  name_moves pictures actor done name held stock old new added is move =
      let since = since_next (past_of actor).since (length actor.trace + 1) done in
      record {
        has =
            ap (λ (names : List (Option Token)). record { names = names; transactions = (plain_of actor.parts).transactions }) (map-set (option_map token_of) actor.parts.names name held)
            ∙ ap (λ (holdings : Holdings). with_name holdings name (option_map token_of held)) is.has
            ∙ sym move.holdings;
        given = λ other now there. held_case actor.parts name held stock other now move.low there
            (λ same is_held. subst (λ (n : ℕ). WasGivenAt new.calls (get_or since n 0) (Some (turn_held now))) (sym same) (move.given now is_held))
            (λ apart was. subst (λ (place : ℕ). WasGivenAt new.calls place (Some (turn_held now))) (sym (move.since other apart))
            (given_still old.calls new.calls added move.calls (get_or (past_of actor).since other 0) (Some (turn_held now)) (is.given other now was)));
        of_call = λ other now there. held_case actor.parts name held stock other now move.low there
            (λ same is_held. move.of_call now is_held)
            (λ apart was. of_call_still old.calls new.calls added move.calls now (is.of_call other now was));
        acquired = λ number txn there.
            All-weaker (HoldsAcquired old.calls) (HoldsAcquired new.calls)
            (λ (buffer : Buffer ReadLeaseOf). taken_still old.calls new.calls added move.calls buffer.lease)
            txn.buffers (is.acquired number txn there);
        shows = λ other now there. held_case actor.parts name held stock other now move.low there
            (λ same is_held. move.shows now is_held)
            (λ apart was. is.shows other now was);
        reached = move.reached;
        permits = move.permits;
      }

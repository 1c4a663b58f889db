-- How what an actor has moves where its step fills a name with what its call gave, or changes several places.
use Rattle.std.proofs.Common.{◌≡◌, ◌≢◌, ℕ, ◌+◌, ◌<◌, ◌==◌, ◌⊎◌, inl, inr, false, zero, List, [], ◌∷◌, ◌++◌, length, set, arith, ap, ◌∙◌, sym, refl, subst, Option, Some, None}
use Rattle.std.specs.Prelude.{Contains, get_or}
use Rattle.std.specs.List.{All}
use Rattle.std.specs.Option.{option_map}
use Rattle.std.proofs.lemmas.Bool.{cases_Bool, eq-eqb, eqb-true, false≢true}
use Rattle.std.proofs.lemmas.List.{get_or-set_other, get_or-set_same, length-replicate, length-set, map-set}
use Rattle.std.proofs.lemmas.List.Elements.{All-weaker, Contains-append_right}
use Rattle.sf_base.specs.Fences.{IsSignalled, merged, no_points}
use Rattle.sf_base.specs.declared.ids.QueueId.{QueueId}
use Rattle.sf_script_scene.specs.sf_picture.declared.picture.Picture.{Picture}
use Rattle.sf_script_scene.specs.declared.step.Step.{Step}
use Rattle.sf_surface.specs.sf_slots.declared.calls.PlainReply.{PlainReply}
use Rattle.sf_surface.specs.declared.call.QCall.{QCall}
use Rattle.sf_surface.specs.declared.call.QReply.{QReply}
use Rattle.sf_surface.specs.Hands.{IsReply}
use Rattle.sf_surface.specs.Tokens.{ReadLeaseOf}
use Rattle.sf_token.specs.sf_txn.Buffers.{Buffer}
use Rattle.sf_token.specs.sf_txn.Transactions.{Contents}
use Rattle.sf_actor.specs.declared.done.Answered.TheVariants as answered
use Rattle.sf_actor.specs.declared.done.Done.{Done}
use Rattle.sf_actor.specs.declared.holding.Holding.{Holding}
use Rattle.sf_actor.specs.Known.{Call, Rise, Share}
use Rattle.sf_actor.specs.Names.{Holdings, Token, moved, with_name}
use Rattle.sf_actor.specs.Holdings.{HoldingsOf, ShowsPictures, plain_of, token_of, turn_held}
use Rattle.sf_actor.specs.Points.{shown_next}
use Rattle.sf_actor.specs.Rights.{HoldsAcquired, IsOfCall, Turn, WasGivenAt, given_turn}
use Rattle.sf_actor.specs.Steps.{filled_by, holdings_next, is_refusal, was_done}
use Rattle.sf_actor.specs.Traces.{Past, next, no_past, past_after, past_from, since_next, since_with}
use Rattle.sf_actor.specs.Tries.{ActorKept, ActorOf, ArePermits, contents_in, held_in, past_of}
use Rattle.sf_actor.proofs.TraceGrowth.{taken_still, given_still, of_call_still}
use Rattle.sf_actor.proofs.GoingOn.{signalled_on}
use Rattle.sf_actor.proofs.CallShare.{OneMore}
use Rattle.sf_actor.proofs.StepKeepsActor.{PartsMove, stepped}
use Rattle.sf_actor.proofs.NameChanges.{name_moves, with_held}
use Rattle.sf_actor.proofs.SignalledFences.{merged_reached, none_reached}

-- a trace tells a place for each of 32 names
with_length : (since : List ℕ) (name : Option ℕ) (place : ℕ) → length (since_with since name place) ≡ length since
with_length since None place = refl
with_length since (Some name) place = length-set since name place

next_length : (since : List ℕ) (place : ℕ) (done : Done) → length (since_next since place done) ≡ length since
next_length since place done = elim (cases_Bool (was_done done.answered)) [
  | inl met ↦ rw met (with_length since (filled_by done.step) place)
  | inr unmet ↦ rw unmet refl
]

kept_length : (place : ℕ) (past : Past) (trace : List Done) → length (past_from place past trace).since ≡ length past.since
unfolding past_from
kept_length place past [] = refl
kept_length place past (done ∷ later) = kept_length (place + 1) (next place past done) later ∙ next_length past.since place done

pub since_length : (trace : List Done) → length (past_after trace).since ≡ 32
since_length trace = kept_length 1 no_past trace ∙ length-replicate {A = ℕ} 32 0

-- the place of a name that a step fills is the step's, and the others stay
pub filled_here : (since : List ℕ) (place : ℕ) (s : Step) (told : PlainReply) (name : ℕ) → is_refusal told ≡ false → filled_by s ≡ Some name → name < length since → get_or (since_next since place (record { step = s; answered = answered.Called told })) name 0 ≡ place
filled_here since place s told name done fills low = rw (done, fills) (get_or-set_same since name place 0 low)

pub filled_other : (since : List ℕ) (place : ℕ) (s : Step) (told : PlainReply) (name other : ℕ) → is_refusal told ≡ false → filled_by s ≡ Some name → other ≢ name → get_or (since_next since place (record { step = s; answered = answered.Called told })) other 0 ≡ get_or since other 0
filled_other since place s told name other done fills apart = rw (done, fills) (get_or-set_other since name other place 0 apart)

module _ {B : Type 0} where
  -- what a step with a call came to: the queue replied so, and the actor keeps what it keeps with these parts
  pub record KeepsWith (pictures : ℕ → Picture) (actor : ActorOf B) (s : Step) (queue : QueueId) (asked : QCall B) (reply : QReply B) (parts : HoldingsOf B) (share : Share B) : Type 0 where
    pub told : PlainReply
    pub replies : IsReply queue asked told reply
    pub keeps : ActorKept pictures (stepped actor (record { step = s; answered = answered.Called told }) parts) share

  -- the newest call is one of the actor's calls
  pub is_made : (queue : ℕ) (made : Call B) (old new : Share B) → OneMore queue made old new → Contains (new.calls queue) made
  is_made queue made old new more = subst (λ (xs : List (Call B)). Contains xs made) (sym more.here) (Contains-append_right (old.calls queue) (made ∷ []) made (zero, omega arith, refl))

  -- the newest call gave what its reply gives
  pub given_now : (queue place : ℕ) (turn : Option Turn) (made : Call B) (old new : Share B) → OneMore queue made old new → made.made.call.0 ≡ place → given_turn made.made.reply.gives ≡ turn → WasGivenAt new.calls place turn
  given_now queue place turn made old new more at gives =
      (queue, made, is_made queue made old new more, at, gives)

  -- a name holds what it held, with the place that it had
  abbrev pub IsStill : ActorOf B → Done → ℕ → Holding B → Type 0
  IsStill actor done name now = (held_in actor.parts name ≡ Some now) × (get_or (since_next (past_of actor).since (length actor.trace + 1) done) name 0 ≡ get_or (past_of actor).since name 0)

  -- or what the step gave
  abbrev pub IsNew : (ℕ → Picture) → ActorOf B → Done → Share B → ℕ → Holding B → Type 0
  IsNew pictures actor done new name now = WasGivenAt new.calls (get_or (since_next (past_of actor).since (length actor.trace + 1) done) name 0) (Some (turn_held now)) × ShowsPictures pictures now × IsOfCall new.calls now

  -- a step after which each place holds what it held, or what the step gave
  pub record PartsChange (pictures : ℕ → Picture) (actor : ActorOf B) (done : Done) (parts : HoldingsOf B) (old new : Share B) (added : ℕ → List (Call B)) : Type 0 where
    pub calls : (queue : ℕ) → new.calls queue ≡ old.calls queue ++ added queue
    pub has : plain_of parts ≡ holdings_next (past_of actor).holdings done
    pub held : (name : ℕ) (now : Holding B) → held_in parts name ≡ Some now → IsStill actor done name now ⊎ IsNew pictures actor done new name now
    pub contents : (number : ℕ) (txn : Contents ReadLeaseOf) → contents_in parts number ≡ Some txn → (contents_in actor.parts number ≡ Some txn) ⊎ All (HoldsAcquired new.calls) txn.buffers
    pub reached : IsSignalled (shown_next (past_of actor).holdings (past_of actor).shown done) new.values
    pub permits : ArePermits (stepped actor done parts) new

  -- the frames of a transaction stay acquired
  pub all_still : (old new : Share B) (added : ℕ → List (Call B)) (buffers : List (Buffer ReadLeaseOf)) → ((queue : ℕ) → new.calls queue ≡ old.calls queue ++ added queue) → All (HoldsAcquired old.calls) buffers → All (HoldsAcquired new.calls) buffers
  all_still old new added buffers calls all =
      All-weaker (HoldsAcquired old.calls) (HoldsAcquired new.calls)
      (λ (buffer : Buffer ReadLeaseOf). taken_still old.calls new.calls added calls buffer.lease)
      buffers all

  pub changes_move : (pictures : ℕ → Picture) (actor : ActorOf B) (done : Done) (parts : HoldingsOf B) (old new : Share B) (added : ℕ → List (Call B)) → ActorKept pictures actor old → PartsChange pictures actor done parts old new added → PartsMove pictures actor done parts new
  changes_move pictures actor done parts old new added is change =
      let since = since_next (past_of actor).since (length actor.trace + 1) done in
      record {
        has = change.has;
        given = λ name now there. elim (change.held name now there) [
          | inl still ↦
              subst (λ (place : ℕ). WasGivenAt new.calls place (Some (turn_held now))) (sym still.1)
              (given_still old.calls new.calls added change.calls (get_or (past_of actor).since name 0) (Some (turn_held now)) (is.given name now still.0))
          | inr given ↦ given.0
        ];
        of_call = λ name now there. elim (change.held name now there) [
          | inl still ↦ of_call_still old.calls new.calls added change.calls now (is.of_call name now still.0)
          | inr given ↦ given.2
        ];
        acquired = λ number txn there. elim (change.contents number txn there) [
          | inl still ↦ all_still old new added txn.buffers change.calls (is.acquired number txn still)
          | inr all ↦ all
        ];
        shows = λ name now there. elim (change.held name now there) [
          | inl still ↦ is.shows name now still.0
          | inr given ↦ given.1
        ];
        reached = change.reached;
        permits = change.permits;
      }

  -- the parts with a token moved to another name, as something else
  abbrev pub moved_held : HoldingsOf B → ℕ → ℕ → Holding B → HoldingsOf B
  moved_held parts from to now = record parts { names = set (set parts.names from None) to (Some now) }

  -- a name that another token moved to holds it, the one that it came from nothing, and the others what they held
  moved_case : {P : Type 0} (parts : HoldingsOf B) (from to : ℕ) (now : Holding B) (other : ℕ) (held : Holding B) → from < length parts.names → to < length parts.names → held_in (moved_held parts from to now) other ≡ Some held → (other ≡ to → now ≡ held → P) → (other ≢ to → held_in parts other ≡ Some held → P) → P
  moved_case parts from to now other held low_from low_to there here elsewhere = elim (cases_Bool (other == to)) [
    | inl met ↦
        let same = eqb-true other to met in
        let low : to < length (set parts.names from None) = omega (arith, length-set parts.names from None, low_to) in
        here same (one (sym (get_or-set_same (set parts.names from None) to (Some now) None low) ∙ ap (λ (n : ℕ). get_or (set (set parts.names from None) to (Some now)) n None) (sym same) ∙ there))
    | inr unmet ↦
        let before : get_or (set parts.names from None) other None ≡ Some held = sym (get_or-set_other (set parts.names from None) to other (Some now) None (apart to unmet)) ∙ there in
        elim (cases_Bool (other == from)) [
          | inl met ↦
              let same = eqb-true other from met in
              absurd (none_some (sym (get_or-set_same parts.names from None None low_from) ∙ ap (λ (n : ℕ). get_or (set parts.names from None) n None) (sym same) ∙ before))
          | inr away ↦ elsewhere (apart to unmet) (sym (get_or-set_other parts.names from other None None (apart from away)) ∙ before)
        ]
  ]
    where
      apart : (name : ℕ) → (other == name) ≡ false → other ≢ name
      apart name unmet e = false≢true (sym unmet ∙ eq-eqb other name e)

      one : Some now ≡ Some held → now ≡ held
      one e = cc

      none_some : None ≡ Some held → ⊥
      none_some e = cc

  -- a step that moves a token from one name to another, as what its call gave
  pub record TokenMoves (pictures : ℕ → Picture) (actor : ActorOf B) (s : Step) (told : PlainReply) (from to : ℕ) (now : Holding B) (old new : Share B) (added : ℕ → List (Call B)) : Type 0 where
    pub calls : (queue : ℕ) → new.calls queue ≡ old.calls queue ++ added queue
    pub low_from : from < length actor.parts.names
    pub low_to : to < length actor.parts.names
    pub there : to < 32
    pub done : is_refusal told ≡ false
    pub fills : filled_by s ≡ Some to
    pub holdings : holdings_next (past_of actor).holdings (record { step = s; answered = answered.Called told }) ≡ moved (past_of actor).holdings from to (token_of now)
    pub given : WasGivenAt new.calls (length actor.trace + 1) (Some (turn_held now))
    pub of_call : IsOfCall new.calls now
    pub shows : ShowsPictures pictures now
    pub reached : IsSignalled (shown_next (past_of actor).holdings (past_of actor).shown (record { step = s; answered = answered.Called told })) new.values
    pub permits : ArePermits (stepped actor (record { step = s; answered = answered.Called told }) (moved_held actor.parts from to now)) new

  pub token_moves : (pictures : ℕ → Picture) (actor : ActorOf B) (s : Step) (told : PlainReply) (from to : ℕ) (now : Holding B) (old new : Share B) (added : ℕ → List (Call B)) → ActorKept pictures actor old → TokenMoves pictures actor s told from to now old new added → PartsMove pictures actor (record { step = s; answered = answered.Called told }) (moved_held actor.parts from to now) new
  token_moves pictures actor s told from to now old new added is move =
      let done : Done = record { step = s; answered = answered.Called told } in
      let since = (past_of actor).since in
      let at : ℕ = length actor.trace + 1 in
      let low : to < length since = omega (arith, since_length actor.trace, move.there) in
      changes_move pictures actor done (moved_held actor.parts from to now) old new added is
      (record {
        calls = move.calls;
        has =
            ap (λ (names : List (Option Token)). record { names = names; transactions = (plain_of actor.parts).transactions })
            (map-set (option_map token_of) (set actor.parts.names from None) to (Some now) ∙ ap (λ (names : List (Option Token)). set names to (Some (token_of now))) (map-set (option_map token_of) actor.parts.names from None))
            ∙ ap (λ (holdings : Holdings). moved holdings from to (token_of now)) is.has
            ∙ sym move.holdings;
        held = λ other held there. moved_case actor.parts from to now other held move.low_from move.low_to there
            (λ same is_held. inr (new_one other held same is_held at low))
            (λ apart was. inl (was, filled_other since at s told to other move.done move.fills apart));
        contents = λ number txn there. inl there;
        reached = move.reached;
        permits = move.permits;
      })
    where
      new_one : (other : ℕ) (held : Holding B) → other ≡ to → now ≡ held → (at : ℕ) → to < length (past_of actor).since → IsNew pictures actor (record { step = s; answered = answered.Called told }) new other held
      new_one other held same is_held at low =
          let place = filled_here (past_of actor).since (length actor.trace + 1) s told to move.done move.fills low in (
            subst (λ (h : Holding B). WasGivenAt new.calls (get_or (since_next (past_of actor).since (length actor.trace + 1) (record { step = s; answered = answered.Called told })) other 0) (Some (turn_held h))) is_held
                (subst (λ (n : ℕ). WasGivenAt new.calls (get_or (since_next (past_of actor).since (length actor.trace + 1) (record { step = s; answered = answered.Called told })) n 0) (Some (turn_held now))) (sym same)
                (subst (λ (place : ℕ). WasGivenAt new.calls place (Some (turn_held now))) (sym place) move.given)),
            subst (λ (h : Holding B). ShowsPictures pictures h) is_held move.shows,
            subst (λ (h : Holding B). IsOfCall new.calls h) is_held move.of_call,
          )

  -- a step that fills a name with what its call gave
  pub record TokenFills (pictures : ℕ → Picture) (actor : ActorOf B) (s : Step) (told : PlainReply) (name : ℕ) (now : Holding B) (stock : List ℕ) (old new : Share B) (added : ℕ → List (Call B)) : Type 0 where
    pub calls : (queue : ℕ) → new.calls queue ≡ old.calls queue ++ added queue
    pub low : name < length actor.parts.names
    pub there : name < 32
    pub done : is_refusal told ≡ false
    pub fills : filled_by s ≡ Some name
    pub holdings : holdings_next (past_of actor).holdings (record { step = s; answered = answered.Called told }) ≡ with_name (past_of actor).holdings name (Some (token_of now))
    pub given : WasGivenAt new.calls (length actor.trace + 1) (Some (turn_held now))
    pub of_call : IsOfCall new.calls now
    pub shows : ShowsPictures pictures now
    pub reached : IsSignalled (shown_next (past_of actor).holdings (past_of actor).shown (record { step = s; answered = answered.Called told })) new.values
    pub permits : ArePermits (stepped actor (record { step = s; answered = answered.Called told }) (with_held actor.parts name (Some now) stock)) new

  pub token_fills : (pictures : ℕ → Picture) (actor : ActorOf B) (s : Step) (told : PlainReply) (name : ℕ) (now : Holding B) (stock : List ℕ) (old new : Share B) (added : ℕ → List (Call B)) → ActorKept pictures actor old → TokenFills pictures actor s told name now stock old new added → PartsMove pictures actor (record { step = s; answered = answered.Called told }) (with_held actor.parts name (Some now) stock) new
  token_fills pictures actor s told name now stock old new added is move =
      let done : Done = record { step = s; answered = answered.Called told } in
      let since = (past_of actor).since in
      let low : name < length since = omega (arith, since_length actor.trace, move.there) in
      let place : get_or (since_next since (length actor.trace + 1) done) name 0 ≡ length actor.trace + 1 = filled_here since (length actor.trace + 1) s told name move.done move.fills low in
      name_moves pictures actor done name (Some now) stock old new added is
      (record {
        calls = move.calls;
        low = move.low;
        holdings = move.holdings;
        since = λ other apart. filled_other since (length actor.trace + 1) s told name other move.done move.fills apart;
        given = λ held e.
            subst (λ (h : Holding B). WasGivenAt new.calls (get_or (since_next since (length actor.trace + 1) done) name 0) (Some (turn_held h))) (one held e)
            (subst (λ (n : ℕ). WasGivenAt new.calls n (Some (turn_held now))) (sym place) move.given);
        of_call = λ held e. subst (λ (h : Holding B). IsOfCall new.calls h) (one held e) move.of_call;
        shows = λ held e. subst (λ (h : Holding B). ShowsPictures pictures h) (one held e) move.shows;
        reached = move.reached;
        permits = move.permits;
      })
    where
      one : (held : Holding B) → Some now ≡ Some held → now ≡ held
      one held e = cc

  -- what was shown stays reached where a step shows nothing
  pub still_reached : (actor : ActorOf B) (old new : Share B) → Rise old.values new.values → IsSignalled (past_of actor).shown old.values → IsSignalled (merged (past_of actor).shown no_points) new.values
  still_reached actor old new rise reached =
      merged_reached (past_of actor).shown no_points new.values (signalled_on (past_of actor).shown old.values new.values rise reached) (none_reached new.values)

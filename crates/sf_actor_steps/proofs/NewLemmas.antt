-- An actor that has done nothing keeps what it keeps.
use Rattle.std.proofs.Common.{◌≡◌, ℕ, zero, suc, List, [], replicate, get_or, map, Option, Some, None, refl, ap, ◌∙◌, sym, subst, arith}
use Rattle.std.specs.Prelude.{Contains}
use Rattle.std.specs.List.{All, AllZip}
use Rattle.std.proofs.lemmas.List.Elements.{All-nil}
use Rattle.sf_actor.specs.sf_picture.declared.picture.Picture.{Picture}
use Rattle.sf_actor.specs.sf_script_scene.declared.step.ActorScript.{ActorScript}
use Rattle.sf_actor.specs.sf_surface.Tokens.{ReadLeaseOf}
use Rattle.sf_actor.specs.sf_token.Pending.{Arrival}
use Rattle.sf_actor.specs.sf_txn.Transactions.{Contents}
use Rattle.sf_actor.specs.declared.holding.Holding.{Holding}
use Rattle.sf_actor.specs.Desks.{DeskHome, DeskView, known_of}
use Rattle.sf_actor.specs.Keeping.{TraceKept}
use Rattle.sf_actor.specs.Known.{Call, Share, plain_arrival, share_of, told_by}
use Rattle.sf_actor.specs.Rights.{BringsGiven, SendsAcquired}
use Rattle.sf_actor.specs.ScriptTraces.{IsMade, sent_as}
use Rattle.sf_actor.specs.Traces.{IsAnswered, past_from, places_from}
use Rattle.sf_actor.specs.Tries.{ActorOf, Keeps, held_in}
use Rattle.sf_actor.proofs.SignalledFences.{none_reached}
use Rattle.sf_actor_steps.specs.Actors.{IsNew, IsNewActor, new_actor}

none_some : {A : Type 0} (a : A) → None ≡ Some a → ⊥
none_some a e = cc

none_among : {A : Type 0} (x : A) → Contains [] x → ⊥
none_among x there = omega (arith, there.1)

-- a name or number among ones that hold nothing holds nothing
none_held : {A : Type 0} (n i : ℕ) (nothing : A) → get_or (replicate n nothing) i nothing ≡ nothing
none_held zero i nothing = refl
none_held (suc n) zero nothing = refl
none_held (suc n) (suc i) nothing = none_held n i nothing

abbrev no_txn : Option (Contents ReadLeaseOf)
no_txn = None

new_fills : (number : ℕ) (txn : Contents ReadLeaseOf) → get_or (replicate 65 no_txn) number no_txn ≡ Some txn → ⊥
new_fills number txn there = none_some txn (sym (none_held 65 number no_txn) ∙ there)

module _ {B : Type 0} where
  -- what its trace keeps, where the desk knows no call and no arrival of it
  new_traces : (pictures : ℕ → Picture) (script : ActorScript) (stock : List ℕ) (share : Share B) → ((queue : ℕ) → share.calls queue ≡ []) → share.arrivals ≡ [] → TraceKept pictures script stock [] [] share
  unfolding places_from
  new_traces pictures script stock share no_calls no_arrivals = record {
    is = record {
      first = refl;
      answered = All-nil (IsAnswered pictures share.values);
      replied = refl;
      made = λ queue. subst (λ (calls : List (Call B)). AllZip IsMade [] (map told_by calls)) (sym (no_calls queue)) tt;
      sent = ap (λ (arrivals : List (Arrival ReadLeaseOf)). map sent_as (map plain_arrival arrivals)) no_arrivals;
    };
    shows = λ queue made there. absurd (no_call queue made there);
    tokens = λ queue. subst (λ (calls : List (Call B)). AllZip (BringsGiven share.calls) [] calls) (sym (no_calls queue)) tt;
    sends = subst (All (SendsAcquired share.calls)) (sym no_arrivals) (All-nil (SendsAcquired share.calls));
    permits = λ queue made permit there brings. absurd (no_call queue made there);
    once = λ number queue other made later there theirs mine its. absurd (no_call queue made there);
    signals = λ p there. absurd (none_among p there);
    ends = λ queue made there. absurd (no_call queue made there);
    pays = λ frame there. absurd (none_among frame there);
    turns = record { counted = All-nil _; order = λ i j d low high. absurd (omega (arith, high)) };
  }
    where
      no_call : (queue : ℕ) (made : Call B) → Contains (share.calls queue) made → ⊥
      no_call queue made there = none_among made (subst (λ (calls : List (Call B)). Contains calls made) (no_calls queue) there)

  new_holds : (script : ActorScript) (stock : List ℕ) (name : ℕ) (held : Holding B) → held_in (new_actor script stock).parts name ≡ Some held → ⊥
  new_holds script stock name held there = let nothing : Option (Holding B) = None in none_some held (sym (none_held 32 name nothing) ∙ there)

  pub new_keeps : (pictures : ℕ → Picture) (home : DeskHome) (view : DeskView B) (script : ActorScript) (stock : List ℕ) → IsNew home view script stock → Keeps pictures home (new_actor script stock) view
  unfolding past_from
  new_keeps pictures home view script stock is =
      let share = share_of script.number (known_of home view) in
      record {
        kept = record {
          kept = new_traces pictures script stock share is.no_calls is.no_arrivals;
          has = refl;
          given = λ name held there. absurd (new_holds script stock name held there);
          of_call = λ name held there. absurd (new_holds script stock name held there);
          acquired = λ number txn there. absurd (new_fills number txn there);
          shows = λ name held there. absurd (new_holds script stock name held there);
          reached = none_reached share.values;
          permits = record {
            own = λ number there. there;
            once = is.once;
            unused = λ number queue made there called makes. none_among made (subst (λ (calls : List (Call B)). Contains calls made) (is.no_calls queue) called);
            enough = is.enough;
          };
        };
        there = record {
          names = λ name held there. absurd (new_holds script stock name held there);
          frames = λ number txn there. absurd (new_fills number txn there);
        };
      }

  -- the same by the actor itself
  pub new_actor_keeps : (pictures : ℕ → Picture) (home : DeskHome) (view : DeskView B) (actor : ActorOf B) → IsNewActor home view actor → Keeps pictures home actor view
  new_actor_keeps pictures home view actor is =
      subst (λ (a : ActorOf B). Keeps pictures home a view) (sym is.first) (new_keeps pictures home view actor.script actor.stock is.new)

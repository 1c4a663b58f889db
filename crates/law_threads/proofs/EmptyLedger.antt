-- The ledger where nothing has happened.
use Rattle.std.proofs.Common.{◌≡◌, ℕ, zero, suc, ◌+◌, ◌<◌, ◌≤◌, true, None, List, [], ◌∷◌, ◌++◌, arith, ap, ◌∙◌, sym, refl, inl, inr, map, drop}
use Rattle.std.specs.Prelude.{Contains, take}
use Rattle.std.specs.List.{All, flat_map, sum_by}
use Rattle.std.proofs.lemmas.List.Elements.{All-cons, All-nil, Contains-append_cases}
use Rattle.law_draws.specs.sf_commit.Handlers.{HandlerOf}
use Rattle.sf_script_scene.specs.declared.step.ActorScript.{ActorScript}
use Rattle.law_draws.specs.sf_surface.Tokens.{ReadLeaseOf}
use Rattle.law_draws.specs.sf_token.Arrivals.{sent, waiting}
use Rattle.law_draws.specs.sf_token.Pending.{Arrival}
use Rattle.sf_turns.specs.Counts.{stock_at}
use Rattle.law_draws.specs.sf_actor.Desks.{DeskHome, DeskView}
use Rattle.law_draws.specs.sf_actor.Tries.{dequeues_in}
use Rattle.law_draws.specs.sf_actor_steps.Actors.{new_actor}
use Rattle.law_draws.specs.sf_actor_set.Opening.{new_actors}
use Rattle.law_draws.proofs.law_played_lemmas.Members.{has_cases, has_first, has_later}
use Rattle.law_draws.specs.law_rights.Standing.{Begins, IsFresh, state_of, stock_of}
use Rattle.law_draws.specs.law_rights.States.{AreApart, State}
use Rattle.law_draws.specs.law_rights.Vsyncs.{lease_on}
use Rattle.law_threads.specs.Cuts.{Local, Whole, front, state_at}
use Rattle.law_threads.proofs.LedgerViews.{IsClose}
use Rattle.law_threads.proofs.FirstAndLastStates.{front_none}

module _ {B : Type 0} where
  -- actors that have done nothing
  pub new_fresh : (scripts : List ActorScript) (stock : List ℕ) → All (IsFresh {B = B}) (new_actors scripts stock)
  new_fresh [] stock = All-nil (IsFresh {B = B})
  new_fresh (script ∷ scripts) stock =
      All-cons (IsFresh {B = B}) (new_actor script (take (dequeues_in script.steps) stock)) (new_actors scripts (drop (dequeues_in script.steps) stock))
      (record { names = refl; transactions = refl; trace = refl }) (new_fresh scripts (drop (dequeues_in script.steps) stock))

-- a stock is its front and what is behind it
pub stock_parted : (number k : ℕ) (stock : List ℕ) → stock_at number (take k stock) + stock_at number (drop k stock) ≡ stock_at number stock
stock_parted number zero stock = omega arith
stock_parted number (suc k) [] = refl
stock_parted number (suc k) (x ∷ stock) = let rest = stock_parted number k stock in omega (arith, rest)

stock_joined : (number : ℕ) (xs ys : List ℕ) → stock_at number (xs ++ ys) ≡ stock_at number xs + stock_at number ys
stock_joined number [] ys = omega arith
stock_joined number (x ∷ xs) ys = let rest = stock_joined number xs ys in omega (arith, rest)

part_of : (number k : ℕ) (stock : List ℕ) → Contains (take k stock) number → Contains stock number
part_of number zero stock there = absurd (omega (arith, there.1))
part_of number (suc k) [] there = there
part_of number (suc k) (x ∷ stock) there = elim (has_cases x number (take k stock) there) [
  | inl same ↦ has_first x number stock same
  | inr later ↦ has_later x number stock (part_of number k stock later)
]

rest_of : (number k : ℕ) (stock : List ℕ) → Contains (drop k stock) number → Contains stock number
rest_of number zero stock there = there
rest_of number (suc k) [] there = there
rest_of number (suc k) (x ∷ stock) there = has_later x number stock (rest_of number k stock there)

module _ (B : Type 0) where
  pub new_once : (number : ℕ) (scripts : List ActorScript) (stock : List ℕ) → stock_at number (flat_map (stock_of {B = B}) (new_actors scripts stock)) ≤ stock_at number stock
  new_once number [] stock = omega arith
  new_once number (script ∷ scripts) stock =
      let rest = new_once number scripts (drop (dequeues_in script.steps) stock) in
      let joined = stock_joined number (take (dequeues_in script.steps) stock) (flat_map (stock_of {B = B}) (new_actors scripts (drop (dequeues_in script.steps) stock))) in
      let parted = stock_parted number (dequeues_in script.steps) stock in
      omega (arith, rest, joined, parted)

  pub new_among : (number : ℕ) (scripts : List ActorScript) (stock : List ℕ) → Contains (flat_map (stock_of {B = B}) (new_actors scripts stock)) number → Contains stock number
  new_among number [] stock there = absurd (omega (arith, there.1))
  new_among number (script ∷ scripts) stock there =
      elim (Contains-append_cases (take (dequeues_in script.steps) stock) (flat_map (stock_of {B = B}) (new_actors scripts (drop (dequeues_in script.steps) stock))) number there) [
        | inl here ↦ part_of number (dequeues_in script.steps) stock here
        | inr later ↦ rest_of number (dequeues_in script.steps) stock (new_among number scripts (drop (dequeues_in script.steps) stock) later)
      ]

module _ {B : Type 0} (whole : Whole B) (apart : AreApart whole.marks) (buffers : ℕ) (scripts : List ActorScript) (stock : List ℕ) (once : (number : ℕ) → stock_at number stock ≤ 1)
    (below : (number : ℕ) → Contains stock number → number < buffers) (handler : HandlerOf ReadLeaseOf) (pending : handler.pending ≡ []) (on : handler.on ≡ []) (locals : List (Local B))
    (actors : flat_map (λ (local : Local B). local.actors) locals ≡ new_actors scripts stock) (pendings : flat_map (λ (local : Local B). local.pending) locals ≡ [])
    (ons : flat_map (λ (local : Local B). local.on) locals ≡ []) (leaves : flat_map (λ (local : Local B). local.leaves) locals ≡ []) where
  home : DeskHome
  home = record { marks = whole.marks; is_exact = true; tells = true; tables = []; serves = λ by. true; intake = None; taken = 0 }

  view : DeskView B
  view = (state_at whole (λ lock. 0) locals).view

  starts : Begins buffers home view (new_actors scripts stock) handler
  unfolding home view
  starts = record {
    fresh = new_fresh scripts stock;
    calls = λ queue. front_none (whole.view.calls queue);
    arrivals = ap sent (front_none whole.arriving);
    leaves = leaves;
    pending = pending;
    on = on;
    exact = refl;
    apart = apart;
    once = λ number. let most = new_once B number scripts stock in let one = once number in omega (arith, most, one);
    below = λ number there. below number (new_among B number scripts stock there);
  }

  starts_close : IsClose (state_of home view (new_actors scripts stock) handler) (state_at whole (λ lock. 0) locals)
  unfolding home view
  starts_close = record {
    marks = refl;
    calls = refl;
    actors = actors;
    waiting =
        ap (λ (xs : List (Arrival ReadLeaseOf)). xs ++ waiting (front 0 whole.arriving)) pendings ∙ ap waiting (front_none whole.arriving)
        ∙ sym (ap (λ (xs : List (Arrival ReadLeaseOf)). xs ++ drop 0 view.arrivals) pending ∙ ap sent (front_none whole.arriving));
    on = λ count. ap (sum_by count) ons ∙ sym (ap (λ xs. sum_by count (map lease_on xs)) on);
    left = λ turn there. there;
    all_left = λ turn there. there;
  }

  -- what holds wherever nothing has happened holds at the beginning
  pub starts_hold : (Holds : State B → Type 0)
      → ((home : DeskHome) (view : DeskView B) → home.marks ≡ whole.marks → Begins buffers home view (new_actors scripts stock) handler → (other : State B) → IsClose (state_of home view (new_actors scripts stock) handler) other → Holds other)
      → Holds (state_at whole (λ lock. 0) locals)
  unfolding home view
  starts_hold Holds from = from home view refl starts (state_at whole (λ lock. 0) locals) starts_close

-- A play that is not over goes on.
use Rattle.std.proofs.Common.{◌≡◌, ℕ, zero, suc, ◌+◌, ◌*◌, ◌<◌, ◌≤◌, ◌==◌, Bool, true, false, List, [], ◌∷◌, ◌++◌, length, Option, Some, None, refl, sym, ap, ◌∙◌, subst, inl, inr, arith}
use Rattle.std.specs.Prelude.{◌⊎◌, is_none}
use Rattle.std.proofs.lemmas.Bool.{cases_Bool, cases_eq, cases_lt, eqb-true, ne_eqb}
use Rattle.sf_base.specs.declared.fences.Seen.{Seen}
use Rattle.sf_base.specs.declared.ids.TokenId.{TokenId}
use Rattle.sf_commit.specs.sf_token.Pending.{Arrival, head_of, is_of}
use Rattle.sf_commit.specs.sf_txn.Transactions.{without_first}
use Rattle.sf_commit.specs.sf_ready.Facts.{FactsOf}
use Rattle.sf_commit.specs.Rounds.{Decided, IsNext, Round, committed, facts_of}
use Rattle.sf_commit.specs.sf_commit_next.Heads.{head_hold, ready_if, ready_of}
use Rattle.sf_script_scene.specs.Scene.{SceneValue}
use Rattle.law_played.specs.Commits.{is_written}
use Rattle.law_played.specs.Plays.{GoesOnTo, GoesOnWith, IsOver, Playing, TakesTransition, is_quiet, with_round}
use Rattle.law_played.specs.Runs.{final_values, written_in}
use Rattle.law_played.specs.RunStates.{Transition, RunState, actor_transition, after_vsync, round_now}

module _ {L : Type 0} where
  -- a number above all tokens of which something is pending
  abbrev above : List (Arrival L) → ℕ
  above [] = 0
  above (arrived ∷ later) = arrived.txn.token.0 + 1 + above later

  none_above : (pending : List (Arrival L)) (token : TokenId) → above pending ≤ token.0 → head_of token pending ≡ None
  none_above [] token high = refl
  none_above (arrived ∷ later) token high =
      let apart : (arrived.txn.token.0 == token.0) ≡ false = ne_eqb arrived.txn.token.0 token.0 (λ e. omega (arith, high, e)) in
      rw apart (none_above later token (omega (arith, high)))

  -- what is found has the token
  found_of : (pending : List (Arrival L)) (token : TokenId) (arrived : Arrival L) → head_of token pending ≡ Some arrived → arrived.txn.token ≡ token
  found_of [] token arrived e = absurd (cc (e))
  found_of (a ∷ later) token arrived e = elim (cases_Bool (is_of token a)) [
    | inl met ↦
        let same : a ≡ arrived = one_of a arrived (rw met at e) in
        let number : a.txn.token.0 ≡ token.0 = eqb-true a.txn.token.0 token.0 met in
        ap (λ (x : Arrival L). x.txn.token) (sym same) ∙ ap (λ (n : ℕ). record { 0 = n }) number
    | inr unmet ↦ found_of later token arrived (rw unmet at e)
  ]
    where
      one_of : (x y : Arrival L) → Some x ≡ Some y → x ≡ y
      one_of x y e = cc

  -- a commit leaves fewer pending
  fewer_left : (pending : List (Arrival L)) (token : TokenId) (arrived : Arrival L) → head_of token pending ≡ Some arrived → length (without_first (is_of token) pending) + 1 ≡ length pending
  fewer_left [] token arrived e = absurd (cc (e))
  fewer_left (a ∷ later) token arrived e = elim (cases_Bool (is_of token a)) [
    | inl met ↦ rw met (omega arith)
    | inr unmet ↦ let rest = fewer_left later token arrived (rw unmet at e) in rw unmet (omega (arith, rest))
  ]

  module _ (drawn : L → Bool) (seen : Seen) (expected : ℕ) where
    -- what is ready is the first of its token
    ready_head : (facts : FactsOf) (head : Option (Arrival L)) (next : Arrival L) → ready_if drawn seen expected facts head ≡ Some next → head ≡ Some next
    ready_head facts None next e = absurd (cc (e))
    ready_head facts (Some arrived) next e = elim (cases_Bool (is_none (head_hold drawn seen expected facts arrived))) [
      | inl met ↦ rw met at e
      | inr unmet ↦ let f = rw unmet at e in absurd (cc (f))
    ]

    abbrev NoneBelow : Round L → ℕ → Type 0
    NoneBelow r n = (token : TokenId) → token.0 < n → ready_of drawn seen expected (facts_of r) r.pending token ≡ None

    -- the lowest token whose first is ready
    lowest : (r : Round L) (n : ℕ) → NoneBelow r n ⊎ ((next : Arrival L) × IsNext drawn seen expected r (Some next))
    lowest r zero = inl (λ token low. absurd (omega (arith, low)))
    lowest r (suc n) = elim (lowest r n) [
      | inr next ↦ inr next
      | inl none ↦ by_ready none (ready_of drawn seen expected (facts_of r) r.pending (record { 0 = n })) refl
    ]
      where
        by_ready : NoneBelow r n → (o : Option (Arrival L)) → ready_of drawn seen expected (facts_of r) r.pending (record { 0 = n }) ≡ o
            → NoneBelow r (suc n) ⊎ ((next : Arrival L) × IsNext drawn seen expected r (Some next))
        by_ready none None e = inl (λ token low. by_number token low (cases_eq token.0 n))
          where
            by_number : (token : TokenId) → token.0 < suc n → (token.0 ≡ n) ⊎ (token.0 ≡ n → ⊥) → ready_of drawn seen expected (facts_of r) r.pending token ≡ None
            by_number token low (inl same) = ap (λ (k : ℕ). ready_of drawn seen expected (facts_of r) r.pending (record { 0 = k })) same ∙ e
            by_number token low (inr apart) = none token (omega (arith, low, apart))
        by_ready none (Some next) e =
            let token : next.txn.token ≡ record { 0 = n } = found_of r.pending (record { 0 = n }) next (ready_head (facts_of r) (head_of (record { 0 = n }) r.pending) next e) in
            inr (next, (ap (ready_of drawn seen expected (facts_of r) r.pending) token ∙ e, λ lower low. none lower (subst (λ (t : TokenId). lower.0 < t.0) token low)))

    -- what is committed next, or nothing is
    next_of : (r : Round L) → IsNext drawn seen expected r None ⊎ ((next : Arrival L) × IsNext drawn seen expected r (Some next))
    next_of r = elim (lowest r (above r.pending)) [
      | inr next ↦ inr next
      | inl none ↦ inl (λ token. by_number token none (ltb_cases token.0 (above r.pending)))
    ]
      where
        ltb_cases : (a b : ℕ) → (a < b) ⊎ (b ≤ a)
        ltb_cases a b = cases_lt a b

        by_number : (token : TokenId) → NoneBelow r (above r.pending) → (token.0 < above r.pending) ⊎ (above r.pending ≤ token.0) → ready_of drawn seen expected (facts_of r) r.pending token ≡ None
        by_number token none (inl low) = none token low
        by_number token none (inr high) = ap (ready_if drawn seen expected (facts_of r)) (none_above r.pending token high)

    -- all that can be committed is, in some order
    pub decides : (n : ℕ) (r : Round L) → length r.pending ≤ n → (end : Round L) × Decided drawn seen expected r end
    decides zero r few = elim (next_of r) [
      | inl none ↦ (r, record { taken = []; leads = refl; rests = none })
      | inr next ↦
          let less = fewer_left r.pending next.0.txn.token next.0 (ready_head (facts_of r) (head_of next.0.txn.token r.pending) next.0 next.1.0) in
          absurd (omega (arith, few, less))
    ]
    decides (suc m) r few = elim (next_of r) [
      | inl none ↦ (r, record { taken = []; leads = refl; rests = none })
      | inr next ↦
          let less = fewer_left r.pending next.0.txn.token next.0 (ready_head (facts_of r) (head_of next.0.txn.token r.pending) next.0 next.1.0) in
          let rest = decides m (committed r next.0) (omega (arith, few, less)) in
          (rest.0, record { taken = next.0 ∷ rest.1.taken; leads = (next.1, rest.1.leads); rests = rest.1.rests })
    ]

module _ (scene : SceneValue) where
  -- each transition can be taken
  pub transition_taken : (pick : ℕ) (state : RunState) → (transition : Transition) × TakesTransition scene pick state transition
  transition_taken zero state =
      let r = round_now scene state in
      let end = decides (is_written (written_in scene state.run)) (final_values scene state.run) ((state.vsyncs + 1) * scene.period) (length r.pending) r (omega arith) in
      (after_vsync scene state end.0, record { end = end.0; decides = end.1; is = refl })
  transition_taken (suc n) state = (actor_transition scene (suc n) state, refl)

  -- a play is over, or it goes on
  pub plays_on : (playing : Playing) → IsOver scene playing ⊎ ((next : Playing) × GoesOnTo scene playing next)
  plays_on playing = by_left playing.left playing.before refl refl
    where
      by_left : (left : List ℕ) (before : Option RunState) → playing.left ≡ left → playing.before ≡ before → IsOver scene playing ⊎ ((next : Playing) × GoesOnWith scene playing playing.left playing.before next)
      by_left (pick ∷ left) before e b =
          let taken = transition_taken pick playing.state in
          inr (
            record playing { events = playing.events ++ taken.0.events; state = taken.0.state; left = left },
            subst (λ (l : List ℕ). GoesOnWith scene playing l playing.before (record playing { events = playing.events ++ taken.0.events; state = taken.0.state; left = left })) (sym e)
                (record { transition = taken.0; takes = taken.1; is = refl }),
          )
      by_left [] None e b =
          inr (
            with_round scene playing,
            subst (λ (l : List ℕ). GoesOnWith scene playing l playing.before (with_round scene playing)) (sym e)
                (subst (λ (o : Option RunState). GoesOnWith scene playing [] o (with_round scene playing)) (sym b) refl),
          )
      by_left [] (Some before) e b = by_quiet (is_quiet scene before playing.state) refl
        where
          by_quiet : (q : Bool) → is_quiet scene before playing.state ≡ q → IsOver scene playing ⊎ ((next : Playing) × GoesOnWith scene playing playing.left playing.before next)
          by_quiet true quiet = inl (record { none_left = e; before = before; round = b; quiet = quiet })
          by_quiet false busy =
              inr (
                with_round scene playing,
                subst (λ (l : List ℕ). GoesOnWith scene playing l playing.before (with_round scene playing)) (sym e)
                    (subst (λ (o : Option RunState). GoesOnWith scene playing [] o (with_round scene playing)) (sym b) (busy, refl)),
              )

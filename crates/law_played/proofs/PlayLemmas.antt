-- A scene has one play: each transition is determined by what happened before it.
use Rattle.std.proofs.Common.{◌≡◌, ℕ, zero, suc, ◌<◌, Bool, List, [], ◌∷◌, ◌++◌, Option, Some, None, refl, ap, sym, ◌∙◌, subst, true≢false, inl, inr}
use Rattle.std.specs.Prelude.{◌⊎◌}
use Rattle.std.proofs.lemmas.Bool.{cases_order}
use Rattle.std.proofs.lemmas.Option.{none-some, same_Some}
use Rattle.sf_base.specs.declared.fences.Seen.{Seen}
use Rattle.sf_commit.specs.sf_token.Pending.{Arrival}
use Rattle.sf_commit.specs.Rounds.{Decided, IsNext, Leads, Round, committed, facts_of}
use Rattle.sf_commit.specs.sf_commit_next.Heads.{ready_of}
use Rattle.sf_script_scene.specs.Scene.{SceneValue}
use Rattle.sf_record.specs.declared.event.Event.{Event}
use Rattle.law_played.specs.Plays.{Comes, GoesOnTo, GoesOnWith, IsOver, IsPlay, Playing, TakesTransition, first_playing, goes, stays}
use Rattle.law_played.specs.RunStates.{Transition, RunState, after_vsync}

module _ {L : Type 0} (drawn : L → Bool) (seen : Seen) (expected : ℕ) where
  -- there is one next transaction
  next_same : (r : Round L) (a b : Arrival L) → IsNext drawn seen expected r (Some a) → IsNext drawn seen expected r (Some b) → a ≡ b
  next_same r a b next other = by_order (cases_order a.txn.token.0 b.txn.token.0)
    where
      by_order : (a.txn.token.0 ≡ b.txn.token.0) ⊎ ((a.txn.token.0 < b.txn.token.0) ⊎ (b.txn.token.0 < a.txn.token.0)) → a ≡ b
      by_order (inl e) =
          let token : a.txn.token ≡ b.txn.token = λ i. record { 0 = e i } in
          same_Some a b (sym next.0 ∙ (ap (ready_of drawn seen expected (facts_of r) r.pending) token ∙ other.0))
      by_order (inr (inl less)) = absurd (none-some a (sym (other.1 a.txn.token less) ∙ next.0))
      by_order (inr (inr less)) = absurd (none-some b (sym (next.1 b.txn.token less) ∙ other.0))

  none_next : (r end : Round L) (b : Arrival L) → end ≡ r → IsNext drawn seen expected end None → IsNext drawn seen expected r (Some b) → ⊥
  none_next r end b same rests next = none-some b (sym (subst (λ x. IsNext drawn seen expected x None) same rests b.txn.token) ∙ next.0)

  leads_same : (r end other : Round L) (xs ys : List (Arrival L)) → Leads drawn seen expected r xs end → Leads drawn seen expected r ys other
      → IsNext drawn seen expected end None → IsNext drawn seen expected other None → end ≡ other
  leads_same r end other [] [] leads others rests ends = leads ∙ sym others
  leads_same r end other [] (b ∷ ys) leads others rests ends = absurd (none_next r end b leads rests others.0)
  leads_same r end other (a ∷ xs) [] leads others rests ends = absurd (none_next r other a others ends leads.0)
  leads_same r end other (a ∷ xs) (b ∷ ys) leads others rests ends =
      leads_same (committed r a) end other xs ys leads.1 (subst (λ x. Leads drawn seen expected (committed r x) ys other) (sym (next_same r a b leads.0 others.0)) others.1) rests ends

  pub decided_same : (r end other : Round L) → Decided drawn seen expected r end → Decided drawn seen expected r other → end ≡ other
  decided_same r end other d e = leads_same r end other d.taken e.taken d.leads e.leads d.rests e.rests

module _ (scene : SceneValue) where
  transition_same : (pick : ℕ) (state : RunState) (transition other : Transition) → TakesTransition scene pick state transition → TakesTransition scene pick state other → transition ≡ other
  transition_same zero state transition other takes also =
      let end = decided_same _ _ _ _ takes.end also.end takes.decides also.decides in
      takes.is ∙ (ap (after_vsync scene state) end ∙ sym also.is)
  transition_same (suc n) state transition other takes also = takes ∙ sym also

  on_same : (playing : Playing) (left : List ℕ) (before : Option RunState) (next other : Playing) → GoesOnWith scene playing left before next → GoesOnWith scene playing left before other → next ≡ other
  on_same playing (pick ∷ left) before next other on also =
      on.is ∙ (ap (λ (t : Transition). record playing { events = playing.events ++ t.events; state = t.state; left = left }) (transition_same pick playing.state on.transition also.transition on.takes also.takes) ∙ sym also.is)
  on_same playing [] None next other on also = on ∙ sym also
  on_same playing [] (Some before) next other on also = on.1 ∙ sym also.1

  pub over_stays : (playing next : Playing) → IsOver scene playing → GoesOnTo scene playing next → ⊥
  over_stays playing next over on =
      let by_round = subst (λ o. GoesOnWith scene playing playing.left o next) over.round on in
      let ended = subst (λ left. GoesOnWith scene playing left (Some over.before) next) over.none_left by_round in
      true≢false (sym over.quiet ∙ ended.0)

  pub one_end : (playing end other : Playing) → Comes scene playing end → Comes scene playing other → IsOver scene end → IsOver scene other → end ≡ other
  one_end playing _ _ stays stays over also = refl
  one_end playing _ other stays (goes {next = n} on later) over also = absurd (over_stays playing n over on)
  one_end playing end _ (goes {next = n} on later) stays over also = absurd (over_stays playing n also on)
  one_end playing end other (goes {next = n} on later) (goes {next = m} on' later') over also =
      one_end n end other later (subst (λ p. Comes scene p other) (sym (on_same playing playing.left playing.before n m on on')) later') over also

  -- of two begun plays one goes on with the other
  pub one_line : (playing some other : Playing) → Comes scene playing some → Comes scene playing other → Comes scene some other ⊎ Comes scene other some
  one_line playing _ other stays also = inl also
  one_line playing some _ (goes {next = n} on later) stays = inr (goes on later)
  one_line playing some other (goes {next = n} on later) (goes {next = m} on' later') =
      one_line n some other later (subst (λ p. Comes scene p other) (sym (on_same playing playing.left playing.before n m on on')) later')

  -- a step more
  pub comes_on : (playing next end : Playing) → Comes scene playing next → GoesOnTo scene next end → Comes scene playing end
  comes_on playing _ end stays on = goes on stays
  comes_on playing next end (goes {next = n} first later) on = goes first (comes_on n next end later on)

  pub one_play : (events others : List Event) (state end : RunState) → IsPlay scene events state → IsPlay scene others end → (events ≡ others) × (state ≡ end)
  one_play events others state end play other =
      let same = one_end (first_playing scene) play.playing other.playing play.begun other.begun play.over other.over in
      (sym play.shows ∙ (ap (λ (p : Playing). p.events) same ∙ other.shows), sym play.ends ∙ (ap (λ (p : Playing). p.state) same ∙ other.ends))

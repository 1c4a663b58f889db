-- What an actor keeps where it signals a timeline, and where it waited for one.
use Rattle.std.proofs.Common.{◌≡◌, ℕ, ◌+◌, ◌-◌, ◌≤◌, ◌==◌, max, suc, zero, List, [], ◌∷◌, ◌++◌, length, replicate, inl, inr, arith, ap, ◌∙◌, sym, refl, subst, Option, Some, None}
use Rattle.std.specs.Prelude.{Contains, slice_index, slice_set}
use Rattle.std.proofs.lemmas.Bool.{cases_Bool, eq-eqb, eqb-true, false≢true}
use Rattle.std.proofs.lemmas.List.{append-nil, get_or-replicate, get_or-set_other, get_or-set_same, length-replicate}
use Rattle.std.proofs.lemmas.List.Elements.{Contains-append_right}
use Rattle.sf_base.specs.Fences.{IsSignalled, no_points, value_of, with_point}
use Rattle.sf_base.specs.Points.{greatest, points_from, value_at}
use Rattle.sf_base.specs.declared.fences.Seen.{Seen}
use Rattle.sf_base.proofs.PointLemmas.{greatest-append, greatest-last, value_here}
use Rattle.sf_script_scene.specs.sf_picture.declared.picture.Picture.{Picture}
use Rattle.sf_script_scene.specs.declared.step.Step.{Step}
use Rattle.sf_script_scene.specs.declared.step.Step.TheVariants as step
use Rattle.sf_times.specs.declared.protocol.Knows.{Knows}
use Rattle.sf_times.specs.Seats.{raised}
use Rattle.sf_actor.specs.declared.done.Answered.TheVariants as answered
use Rattle.sf_actor.specs.declared.done.Done.{Done}
use Rattle.sf_actor.specs.Desks.{ChangesTimes, DeskHome, DeskView, known_of}
use Rattle.sf_actor.specs.Known.{Share, ShareGoesOn, share_of}
use Rattle.sf_actor.specs.Names.{Holdings}
use Rattle.sf_actor.specs.Points.{shown_next}
use Rattle.sf_actor.specs.Steps.{filled_by, holdings_with}
use Rattle.sf_actor.specs.Tests.{refusal_of}
use Rattle.sf_actor.specs.Traces.{AnswersTests}
use Rattle.sf_actor.specs.Tries.{ActorKept, ActorOf, Sees, next_step, past_of}
use Rattle.sf_actor.proofs.TraceGrowth.{at_end}
use Rattle.sf_actor.proofs.Forms.{plain_holds, plain_since}
use Rattle.sf_actor.proofs.GoingOn.{share_on, signalled_on}
use Rattle.sf_actor.proofs.CallGrowth.{see_goes, signal_goes, value-values}
use Rattle.sf_actor.proofs.StepKeepsActor.{CallsNone, actor_with, none_adds, stays, stepped}
use Rattle.sf_actor.proofs.SignalledFences.{merged_reached}

-- a fence of one point is signalled where the timeline has reached its value
pub point_reached : (t v : ℕ) (values : Seen) → 1 ≤ t → t ≤ 64 → v ≤ value_of values.values t → IsSignalled (with_point no_points t v) values
unfolding with_point no_points
point_reached t v values low high reached other above below = elim (cases_Bool (other - 1 == t - 1)) [
  | inl met ↦
      let same = eqb-true (other - 1) (t - 1) met in
      let is : other ≡ t = omega (arith, same, low, above) in
      let zero_there : slice_index (replicate 64 0) (t - 1) ≡ 0 = get_or-replicate 64 (t - 1) 0 0 (omega (arith, low, high)) in
      let value : slice_index (slice_set (replicate 64 0) (t - 1) (max (slice_index (replicate 64 0) (t - 1)) v)) (t - 1) ≡ max (slice_index (replicate 64 0) (t - 1)) v =
      get_or-set_same (replicate 64 0) (t - 1) (max (slice_index (replicate 64 0) (t - 1)) v) 0 (omega (arith, low, high, length-replicate {A = ℕ} 64 0)) in
      subst (λ (n : ℕ). slice_index (slice_set (replicate 64 0) (t - 1) (max (slice_index (replicate 64 0) (t - 1)) v)) (n - 1) ≤ value_of values.values n) (sym is) (omega (arith, zero_there, value, reached))
  | inr unmet ↦
      let zero_there : slice_index (replicate 64 0) (other - 1) ≡ 0 = get_or-replicate 64 (other - 1) 0 0 (omega (arith, above, below)) in
      let value : slice_index (slice_set (replicate 64 0) (t - 1) (max (slice_index (replicate 64 0) (t - 1)) v)) (other - 1) ≡ slice_index (replicate 64 0) (other - 1) =
      get_or-set_other (replicate 64 0) (t - 1) (other - 1) (max (slice_index (replicate 64 0) (t - 1)) v) 0 (λ e. false≢true (sym unmet ∙ eq-eqb (other - 1) (t - 1) e)) in
      omega (arith, zero_there, value)
]

-- neither has a test of its own
no_signal_test : (pictures : ℕ → Picture) (holdings : Holdings) (t v : ℕ) → refusal_of pictures holdings (step.Signal t v) ≡ None
unfolding refusal_of
no_signal_test pictures holdings t v = refl

no_wait_test : (pictures : ℕ → Picture) (holdings : Holdings) (t v : ℕ) → refusal_of pictures holdings (step.Wait t v) ≡ None
unfolding refusal_of
no_wait_test pictures holdings t v = refl

-- values that were seen are reached
pub seen_within : (values : List ℕ) (first k : ℕ) → slice_index values k ≤ greatest (first + k) (points_from first values)
seen_within [] first k = omega arith
seen_within (v ∷ vs) first zero =
    let here = value_here first v in
    let same : value_at (first + 0) (first, v) ≡ value_at first (first, v) = ap (λ (n : ℕ). value_at n (first, v)) (omega arith) in
    omega (arith, here, same)
seen_within (v ∷ vs) first (suc k) =
    let rest = seen_within vs (first + 1) k in
    let same : greatest ((first + 1) + k) (points_from (first + 1) vs) ≡ greatest (first + suc k) (points_from (first + 1) vs) = ap (λ (n : ℕ). greatest n (points_from (first + 1) vs)) (omega arith) in
    omega (arith, rest, same)

module _ {B : Type 0} where
  -- a step of a timeline is answered with 0, makes no call, and leaves what the actor has
  own_keeps : (pictures : ℕ → Picture) (actor : ActorOf B) (s : Step) (old new : Share B) → next_step actor ≡ Some s → ActorKept pictures actor old → ShareGoesOn old new → (let done : Done = record { step = s; answered = answered.Own 0 } in CallsNone pictures actor.trace (at_end actor.trace done) [] old new) → holdings_with (past_of actor).holdings s (answered.Own 0) ≡ (past_of actor).holdings → filled_by s ≡ None → IsSignalled (shown_next (past_of actor).holdings (past_of actor).shown (record { step = s; answered = answered.Own 0 })) new.values → ActorKept pictures (stepped actor (record { step = s; answered = answered.Own 0 }) actor.parts) new
  own_keeps pictures actor s old new is_next is goes none holds fills reached =
      let done : Done = record { step = s; answered = answered.Own 0 } in
      actor_with pictures actor done actor.parts old new is_next is (none_adds pictures actor.stock actor.trace (at_end actor.trace done) [] old new none)
      (stays pictures actor done old new (λ queue. []) is (record {
        calls = λ queue. goes.calls queue ∙ sym (append-nil (old.calls queue));
        holdings = plain_holds (past_of actor).holdings done holds;
        since = plain_since (past_of actor).since (length actor.trace + 1) done fills;
        reached = reached;
        unused = λ number queue made there makes. omega (arith, there.1);
      }))

  pub signal_keeps : (pictures : ℕ → Picture) (actor : ActorOf B) (t v : ℕ) (home : DeskHome) (old new : DeskView B) → next_step actor ≡ Some (step.Signal t v) → ActorKept pictures actor (share_of actor.script.number (known_of home old)) → 1 ≤ t → t ≤ 64 → ChangesTimes old new → new.times ≡ raised old.times (t, v) → ActorKept pictures (stepped actor (record { step = step.Signal t v; answered = answered.Own 0 }) actor.parts) (share_of actor.script.number (known_of home new))
  signal_keeps pictures actor t v home old new is_next is low high changes signalled =
      let by = actor.script.number in
      let before = share_of by (known_of home old) in
      let after = share_of by (known_of home new) in
      let goes = share_on by (known_of home old) (known_of home new) (signal_goes by home old new (t, v) changes signalled) in
      let done : Done = record { step = step.Signal t v; answered = answered.Own 0 } in
      let at = at_end actor.trace done in
      let among : Contains after.signals (t, v) = subst (λ (xs : List (ℕ × ℕ)). Contains xs (t, v)) (sym (ap (λ (times : Knows). times.signals) signalled)) (Contains-append_right old.times.signals ((t, v) ∷ []) (t, v) (zero, omega arith, refl)) in
      let value : value_of after.values.values t ≡ greatest t (old.times.known ++ (t, v) ∷ []) = value-values new.times.known t low high ∙ ap (λ (times : Knows). greatest t times.known) signalled in
      let last = greatest-last t old.times.known (t, v) in
      let here = value_here t v in
      own_keeps pictures actor (step.Signal t v) before after is_next is goes
      (record {
        unmade = refl;
        overtakes = refl;
        answered = subst (λ (test : Option ℕ). AnswersTests pictures after.values at.past (step.Signal t v) (answered.Own 0) test) (sym (no_signal_test pictures (past_of actor).holdings t v)) (tt, refl);
        calls = goes.calls;
        arrivals = goes.arrivals ∙ sym (append-nil before.arrivals);
        sent = refl;
        sends = λ k d below. absurd (omega (arith, below));
        values = goes.values;
        signals = goes.signals;
        signalled = λ p there. subst (Contains after.signals) (only_point p there) among;
        left = goes.left;
        counts = goes.counts;
        pays = λ frame there. absurd (omega (arith, there.1));
        counted = λ place entered. absurd (no_place place entered);
        order = λ place entered. absurd (no_place place entered);
      })
      refl refl
      (merged_reached (past_of actor).shown (with_point no_points t v) after.values (signalled_on (past_of actor).shown before.values after.values goes.values is.reached)
      (point_reached t v after.values low high (omega (arith, value, last, here))))
    where
      only_point : (p : ℕ × ℕ) → Contains ((t, v) ∷ []) p → (t, v) ≡ p
      only_point p (zero, below, same) = same
      only_point p (suc n, below, same) = absurd (omega (arith, below))

      no_place : (place : ℕ) → None ≡ Some place → ⊥
      no_place place e = cc

  pub wait_keeps : (pictures : ℕ → Picture) (actor : ActorOf B) (t v : ℕ) (home : DeskHome) (old new : DeskView B) (seen : Seen) → next_step actor ≡ Some (step.Wait t v) → ActorKept pictures actor (share_of actor.script.number (known_of home old)) → ChangesTimes old new → Sees home old new seen → IsSignalled (with_point no_points t v) seen → ActorKept pictures (stepped actor (record { step = step.Wait t v; answered = answered.Own 0 }) actor.parts) (share_of actor.script.number (known_of home new))
  wait_keeps pictures actor t v home old new seen is_next is changes sees signalled =
      let by = actor.script.number in
      let before = share_of by (known_of home old) in
      let after = share_of by (known_of home new) in
      let points = points_from 1 seen.values in
      let goes = share_on by (known_of home old) (known_of home new) (see_goes by home old new points changes sees.shown) in
      let done : Done = record { step = step.Wait t v; answered = answered.Own 0 } in
      let at = at_end actor.trace done in
      let reached : IsSignalled (with_point no_points t v) after.values = λ other above below.
      let a = signalled other above below in
      let b = seen_within seen.values 1 (other - 1) in
      let c : value_of after.values.values other ≡ greatest other (old.times.known ++ points) = value-values new.times.known other above below ∙ ap (λ (times : Knows). greatest other times.known) sees.shown in
      let d = greatest-append other old.times.known points in
      let e : greatest (1 + (other - 1)) points ≡ greatest other points = ap (λ (n : ℕ). greatest n points) (omega (arith, above)) in
      omega (arith, a, b, c, d, e) in
      own_keeps pictures actor (step.Wait t v) before after is_next is goes
      (record {
        unmade = refl;
        overtakes = refl;
        answered = subst (λ (test : Option ℕ). AnswersTests pictures after.values at.past (step.Wait t v) (answered.Own 0) test) (sym (no_wait_test pictures (past_of actor).holdings t v)) (reached, refl);
        calls = goes.calls;
        arrivals = goes.arrivals ∙ sym (append-nil before.arrivals);
        sent = refl;
        sends = λ k d below. absurd (omega (arith, below));
        values = goes.values;
        signals = goes.signals;
        signalled = λ p there. absurd (omega (arith, there.1));
        left = goes.left;
        counts = goes.counts;
        pays = λ frame there. absurd (omega (arith, there.1));
        counted = λ place entered. absurd (no_place place entered);
        order = λ place entered. absurd (no_place place entered);
      })
      refl refl
      (merged_reached (past_of actor).shown (with_point no_points t v) after.values (signalled_on (past_of actor).shown before.values after.values goes.values is.reached) reached)
    where
      no_place : (place : ℕ) → None ≡ Some place → ⊥
      no_place place e = cc

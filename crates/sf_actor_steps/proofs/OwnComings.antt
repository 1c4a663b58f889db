-- What a step comes to that is answered by its actor: the general form, and the steps of timelines.
use Rattle.std.proofs.Common.{◌≡◌, ◌≢◌, ℕ, ◌+◌, ◌-◌, ◌<◌, ◌≤◌, Bool, true, false, suc, List, [], ◌∷◌, ◌++◌, length, inl, inr, arith, ap, ◌∙◌, sym, refl, subst, Some, None}
use Rattle.std.specs.Prelude.{if◌then◌else◌, nat_lt, replicate, slice_index, slice_set, max}
use Rattle.std.proofs.lemmas.Bool.{cases_Bool, false≢true, ltb-false, ltb-true}
use Rattle.std.proofs.lemmas.List.{append-nil, get_or-set_same, length-append, length-replicate}
use Rattle.sf_base.specs.Fences.{Fence, no_points, value_of, with_point}
use Rattle.sf_base.specs.Points.{points_from}
use Rattle.sf_base.specs.declared.fences.Seen.{Seen}
use Rattle.sf_actor.specs.sf_picture.declared.picture.Picture.{Picture}
use Rattle.sf_actor.specs.sf_script_scene.declared.step.Step.{Step}
use Rattle.sf_actor.specs.sf_script_scene.declared.step.Step.TheVariants as step
use Rattle.sf_actor.specs.sf_times.declared.protocol.Knows.{Knows}
use Rattle.sf_actor.specs.declared.done.Answered.TheVariants as answered
use Rattle.sf_actor.specs.declared.done.Done.{Done}
use Rattle.sf_actor.specs.declared.tried.Reply.{Reply}
use Rattle.sf_actor.specs.Desks.{ChangesTimes, DeskHome, DeskView, known_of, looks}
use Rattle.sf_actor.specs.Known.{GoesOn, Share, share_of}
use Rattle.sf_actor.specs.Holdings.{HoldingsOf}
use Rattle.sf_actor.specs.Points.{detached_fence}
use Rattle.sf_actor.specs.Tests.{refusal_of}
use Rattle.sf_actor.specs.Tries.{ActorKept, ActorOf, AreThere, EntersInTurn, IsRefusedByFence, Sees, Open, ended_by, past_of}
use Rattle.sf_actor.specs.Values.{reply_at}
use Rattle.sf_actor.specs.Written.{signal_of}
use Rattle.sf_actor.proofs.TraceGrowth.{at_end}
use Rattle.sf_actor.proofs.CallGrowth.{see_goes, signal_goes}
use Rattle.sf_actor.proofs.LookStep.{look_keeps}
use Rattle.sf_actor.proofs.StepKeepsActor.{stepped}
use Rattle.sf_actor.proofs.TimelineSteps.{point_reached, signal_keeps, wait_keeps}
use Rattle.sf_actor_steps.specs.Acting.{Signals, Waits}
use Rattle.sf_actor_steps.specs.Actors.{parts_of}
use Rattle.sf_actor_steps.specs.inner.Coming.{Comes, DoneWith, IsReady, after_step, reply_with}
use Rattle.sf_actor_steps.specs.declared.bindings.Bindings.{Bindings}
use Rattle.sf_actor_steps.specs.declared.tried.Tried.{Tried}
use Rattle.sf_actor_steps.specs.declared.tried.Tried.TheVariants as tried

abbrev pub is_draw : Step → Bool
is_draw (step.Draw name picture) = true
is_draw s = false

-- the loads of a look are counted
pub points_length : (first : ℕ) (values : List ℕ) → length (points_from first values) ≡ length values
points_length first [] = refl
points_length first (v ∷ vs) = ap suc (points_length (first + 1) vs)

-- a fence of one point is not signalled before its timeline has reached the value
pub point_there : (t v : ℕ) → 1 ≤ t → t ≤ 64 → v ≤ value_of (with_point no_points t v).values t
unfolding with_point no_points
point_there t v low high =
    let value : slice_index (slice_set (replicate 64 0) (t - 1) (max (slice_index (replicate 64 0) (t - 1)) v)) (t - 1) ≡ max (slice_index (replicate 64 0) (t - 1)) v =
    get_or-set_same (replicate 64 0) (t - 1) (max (slice_index (replicate 64 0) (t - 1)) v) 0 (omega (arith, low, high, length-replicate {A = ℕ} 64 0)) in
    omega (arith, value)

module _ {B : Type 0} where
  -- a step that is no draw enters nothing
  pub no_draw : (home : DeskHome) (actor : ActorOf B) (old new : DeskView B) (done : Done) → is_draw done.step ≡ false → EntersInTurn home actor old new done
  no_draw home actor old new done not name picture is own = absurd (false≢true (sym not ∙ ap is_draw is))

  -- a step with no fence of its own is not refused by one
  pub no_fence : (pictures : ℕ → Picture) (home : DeskHome) (actor : ActorOf B) (old new : DeskView B) (done : Done) → detached_fence (past_of actor).holdings done.step ≡ None → IsRefusedByFence pictures home actor old new done
  no_fence pictures home actor old new done none fence fenced unrefused refused = absurd (none_some fence (sym none ∙ fenced))
    where
      none_some : (fence : Fence) → None ≡ Some fence → ⊥
      none_some fence e = cc

  -- the actor keeps what it keeps with what is in its bindings
  pub held_as : (pictures : ℕ → Picture) (actor : ActorOf B) (bindings : Bindings B) (done : Done) (reply : Reply) (parts : HoldingsOf B) (share : Share B) → parts_of bindings ≡ parts → reply ≡ reply_at actor.script.number (at_end actor.trace done) → ActorKept pictures (stepped actor done parts) share → ActorKept pictures (after_step actor bindings done reply) share
  held_as pictures actor bindings done reply parts share same told kept =
      subst (λ (r : Reply). ActorKept pictures (after_step actor bindings done r) share) (sym told)
      (subst (λ (p : HoldingsOf B). ActorKept pictures (stepped actor done p) share) (sym same) kept)

  -- a step that its actor answers, after which the actor has these parts
  pub record OwnDone (pictures : ℕ → Picture) (home : DeskHome) (actor : ActorOf B) (bindings : Bindings B) (old new : DeskView B) (done : Done) (parts : HoldingsOf B) : Type 0 where
    pub signals : new.times.signals ≡ old.times.signals ++ signal_of done.step
    pub ended : new.turns.leaves ≡ old.turns.leaves ++ ended_by actor.parts done
    pub entered : EntersInTurn home actor old new done
    pub refused : IsRefusedByFence pictures home actor old new done
    pub alone : home.is_exact ≡ true → (other : ℕ) → other ≢ actor.script.number → GoesOn other (known_of home old) (known_of home new)
    pub has : parts_of bindings ≡ parts
    pub kept : ActorKept pictures (stepped actor done parts) (share_of actor.script.number (known_of home new))
    pub there : AreThere home parts

  pub own_done : (pictures : ℕ → Picture) (home : DeskHome) (actor : ActorOf B) (bindings : Bindings B) (old new : DeskView B) (done : Done) (parts : HoldingsOf B) (reply : Reply) → reply ≡ reply_at actor.script.number (at_end actor.trace done) → OwnDone pictures home actor bindings old new done parts → DoneWith pictures home actor bindings old new reply
  own_done pictures home actor bindings old new done parts reply told own = record {
    done = done;
    does = record {
      done = done;
      trace = refl;
      replies = refl;
      replied = told;
      same = refl;
      signals = own.signals;
      ended = own.ended;
      entered = own.entered;
      refused = own.refused;
      alone = own.alone;
    };
    keeps = record {
      kept = held_as pictures actor bindings done reply parts (share_of actor.script.number (known_of home new)) own.has told own.kept;
      there = subst (AreThere home) (sym own.has) own.there;
    };
  }

  -- what a look leaves
  pub look_left : (old new : DeskView B) → ChangesTimes old new → new.turns.leaves ≡ old.turns.leaves
  look_left old new changes = ap (λ (view : DeskView B). view.turns.leaves) changes

  pub look_signals : (home : DeskHome) (old new : DeskView B) (seen : Seen) → Sees home old new seen → new.times.signals ≡ old.times.signals
  look_signals home old new seen sees = ap (λ (times : Knows). times.signals) sees.shown

  -- a look is counted
  pub look_counts : (home : DeskHome) (old new : DeskView B) (seen : Seen) → ChangesTimes old new → Sees home old new seen → looks old < looks new
  look_counts home old new seen changes sees =
      let shown = ap (λ (times : Knows). length times.shown) sees.shown in
      let more = length-append old.times.shown (points_from 1 seen.values) in
      let points = points_length 1 seen.values in
      let locked = ap (λ (view : DeskView B). view.locked) changes in
      let turns = ap (λ (view : DeskView B). length view.turns.seen) changes in
      let all = sees.all in
      omega (arith, shown, more, points, locked, turns, all)

  pub signal_comes : (pictures : ℕ → Picture) (home : DeskHome) (actor : ActorOf B) (before after : Bindings B) (old new : DeskView B) (t v : ℕ) (came_to : Tried) → IsReady pictures home actor before old (step.Signal t v) → refusal_of pictures (past_of actor).holdings (step.Signal t v) ≡ None → Signals t v before after old new came_to → Comes pictures home actor after old new came_to
  signal_comes pictures home actor before after old new t v came_to ready unrefused signals =
      let done : Done = record { step = step.Signal t v; answered = answered.Own 0 } in
      let within = ready.playable.timelines 0 t (omega arith) in
      subst (λ (c : Tried). Comes pictures home actor after old new c) (sym signals.own)
      (own_done pictures home actor after old new done actor.parts (reply_with actor.script.number (length actor.trace + 1) 0 []) refl
      (record {
        signals = ap (λ (times : Knows). times.signals) signals.signalled;
        ended = look_left old new signals.times ∙ sym (append-nil old.turns.leaves);
        entered = no_draw home actor old new done refl;
        refused = no_fence pictures home actor old new done refl;
        alone = λ exact other apart. signal_goes other home old new (t, v) signals.times signals.signalled;
        has = ap parts_of signals.bindings ∙ sym ready.parts;
        kept = signal_keeps pictures actor t v home old new ready.is_next ready.keeps.kept within.0 within.1 signals.times signals.signalled;
        there = ready.keeps.there;
      }))

  pub wait_comes : (pictures : ℕ → Picture) (home : DeskHome) (actor : ActorOf B) (before after : Bindings B) (old new : DeskView B) (t v : ℕ) (came_to : Tried) → IsReady pictures home actor before old (step.Wait t v) → refusal_of pictures (past_of actor).holdings (step.Wait t v) ≡ None → Waits home t v before after old new came_to → Comes pictures home actor after old new came_to
  wait_comes pictures home actor before after old new t v came_to ready unrefused waits =
      let done : Done = record { step = step.Wait t v; answered = answered.Own 0 } in
      let seen = waits.seen in
      let sees = waits.sees in
      let within = ready.playable.timelines 0 t (omega arith) in
      let has = ap parts_of waits.bindings ∙ sym ready.parts in
      elim (cases_Bool (nat_lt (slice_index seen.values (t - 1)) v)) [
        | inl below ↦
            let came : came_to ≡ tried.NotYet = subst (λ (b : Bool). came_to ≡ (if b then tried.NotYet else tried.Own 0)) below waits.answers in
            let less : slice_index seen.values (t - 1) < v = ltb-true (slice_index seen.values (t - 1)) v below in
            let point = point_there t v within.0 within.1 in
            subst (λ (c : Tried). Comes pictures home actor after old new c) (sym came)
            (record {
              leaves = record {
                next = step.Wait t v;
                step = ready.is_next;
                unrefused = unrefused;
                why = Open (with_point no_points t v) refl (seen, sees, λ signalled. let reached = signalled t within.0 within.1 in omega (arith, reached, point, less)) (ap (λ (view : DeskView B). view.turns) waits.times);
                same = refl;
                signals = look_signals home old new seen sees;
                left = look_left old new waits.times;
                looked = λ not. look_counts home old new seen waits.times sees;
                calls = λ exact queue. ap (λ (view : DeskView B). view.calls queue) waits.times;
                arrivals = ap (λ (view : DeskView B). view.arrivals) waits.times;
                alone = λ exact other. see_goes other home old new (points_from 1 seen.values) waits.times sees.shown;
              };
              parts = has;
              keeps = record { kept = look_keeps pictures actor home old new seen waits.times sees ready.keeps.kept; there = ready.keeps.there };
            })
        | inr reached ↦
            let came : came_to ≡ tried.Own 0 = subst (λ (b : Bool). came_to ≡ (if b then tried.NotYet else tried.Own 0)) reached waits.answers in
            let enough : v ≤ slice_index seen.values (t - 1) = ltb-false (slice_index seen.values (t - 1)) v reached in
            subst (λ (c : Tried). Comes pictures home actor after old new c) (sym came)
            (own_done pictures home actor after old new done actor.parts (reply_with actor.script.number (length actor.trace + 1) 0 []) refl
            (record {
              signals = look_signals home old new seen sees ∙ sym (append-nil old.times.signals);
              ended = look_left old new waits.times ∙ sym (append-nil old.turns.leaves);
              entered = no_draw home actor old new done refl;
              refused = no_fence pictures home actor old new done refl;
              alone = λ exact other apart. see_goes other home old new (points_from 1 seen.values) waits.times sees.shown;
              has = has;
              kept = wait_keeps pictures actor t v home old new seen ready.is_next ready.keeps.kept waits.times sees (point_reached t v seen within.0 within.1 enough);
              there = ready.keeps.there;
            }))
      ]

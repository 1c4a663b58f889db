-- An actor whose step was left is not ready, as the end of the run tells it.
use Rattle.std.proofs.Common.{◌≡◌, ℕ, zero, suc, ◌+◌, ◌-◌, ◌<◌, ◌≤◌, ◌==◌, Bool, true, false, List, [], ◌∷◌, ◌++◌, length, map, filter, take, Option, Some, None, refl, sym, ap, ◌∙◌, subst, inl, inr, arith}
use Rattle.std.specs.Prelude.{All, Contains, if◌then◌else◌, is_some, nat_le, nat_lt, slice_get, slice_index}
use Rattle.std.specs.List.{flat_map, range_with_len}
use Rattle.std.specs.Option.{option_map, option_map_or}
use Rattle.std.proofs.lemmas.Bool.{cases_Bool, eqb-true, false≢true, leb-true, or_left, or_right}
use Rattle.std.proofs.Math.ListN.{get_or-map}
use Rattle.std.proofs.lemmas.List.Elements.{All-contains, All-head}
use Rattle.std.proofs.lemmas.List.Sorted.{Contains-permutation, IsPermutation-sym}
use Rattle.std.proofs.lemmas.Option.{slice_get-get_or}
use Rattle.sf_base.specs.Fences.{Fence, IsSignalled, first_open_of, no_points, open_from, value_of, with_point}
use Rattle.sf_base.specs.Points.{greatest}
use Rattle.sf_base.specs.declared.fences.Seen.{Seen}
use Rattle.sf_base.specs.declared.ids.QueueId.{QueueId}
use Rattle.sf_script_scene.specs.sf_picture.declared.picture.Picture.{Picture}
use Rattle.sf_actor.specs.sf_surface.Calls.{may_wait as may_wait_with, told_call}
use Rattle.sf_actor.specs.sf_surface.Histories.{caller, told}
use Rattle.sf_actor.specs.sf_surface.declared.call.QCall.{QCall}
use Rattle.sf_actor.specs.sf_surface.declared.mark.QueueMark.{QueueMark}
use Rattle.sf_actor.specs.sf_slots.Replies.{reply_after}
use Rattle.sf_actor.specs.sf_slots.declared.calls.PlainCall.{PlainCall}
use Rattle.sf_actor.specs.sf_surface.declared.call.QCall.TheVariants as call
use Rattle.sf_record.specs.declared.record.StuckEntry.{StuckEntry}
use Rattle.sf_script_scene.specs.Limits.{EachStep, IsWithinLimits, most_actors}
use Rattle.sf_script_scene.specs.Named.{KnowsQueue, KnowsTimelines}
use Rattle.sf_script_scene.specs.Ranges.{IsTimeline}
use Rattle.sf_script_scene.specs.Scene.{SceneValue, has_queue, has_timeline}
use Rattle.sf_script_scene.specs.declared.declarations.QueueDecl.{QueueDecl}
use Rattle.sf_script_scene.specs.declared.step.ActorScript.{ActorScript}
use Rattle.sf_script_scene.specs.declared.step.Step.{Step}
use Rattle.sf_script_scene.specs.declared.step.Step.TheVariants as step
use Rattle.sf_actor.specs.declared.done.Done.{Done}
use Rattle.sf_actor.specs.declared.holding.Holding.{Holding}
use Rattle.sf_actor.specs.Asking.{Asked, attach_of, attach_read_of, call_of, cancel_of, dequeue_of, detach_of, detach_read_of, may_wait, queueing_of, releasing_of, request_of}
use Rattle.sf_actor.specs.Desks.{DeskHome, DeskView, WaitsForCall, mark_among}
use Rattle.sf_actor.specs.Known.{AreAmong}
use Rattle.sf_actor.specs.Makers.{Run}
use Rattle.sf_actor.specs.Names.{Apart, Frame, Holdings, Lent, Owing, Token, name_in}
use Rattle.sf_actor.specs.Holdings.{token_of}
use Rattle.sf_actor.specs.Points.{undrawn_fence, waited_fence}
use Rattle.sf_actor.specs.Scripts.{fence_of, picture_at}
use Rattle.sf_actor.specs.ScriptTraces.{step_done}
use Rattle.sf_actor.specs.Tries.{ActorOf, EarlierTurn, Keeps, LeavesStep, NoSlot, Open, WhyNotYet, held_in, next_step as next_of, past_of}
use Rattle.sf_actor.specs.Tests.{refusal_of}
use Rattle.sf_actor.specs.Traces.{is_blocked, past_after}
use Rattle.sf_actor.specs.Written.{signal_of, signals_of}
use Rattle.law_played.specs.Actors.{AreActors, AreCalls, mark_declared, run_of, script_of, told_on, trace_among}
use Rattle.law_played.specs.Runs.{actor_number, final_values, rising_actors, signals_in}
use Rattle.law_played.specs.Stopping.{TellsOlder, stuck_among}
use Rattle.law_played.specs.Stuck.{AreStuck, IsNotReady, call_blocks, draw_waits, has_older, has_open_point, holdings_at_end, is_blocked_on, next_step, step_waits, stuck_if}
use Rattle.law_played.proofs.AsQueued.{one_passes}
use Rattle.law_played.proofs.QueueCalls.{in_front}
use Rattle.law_played.proofs.StepKeepsTold.{got_has, of_all}
use Rattle.law_played.proofs.Members.{filter_has, has_cases, has_found, has_here, has_later, has_map, has_none, joined_has}
use Rattle.law_played.proofs.RisingNumbers.{rising_actors_are}
use Rattle.law_played.proofs.SeenLemmas.{reached_is}
use Rattle.law_played.proofs.RunTraces.{greatest_among, played_by, trace_here}

-- no point of a fence is open: each timeline that was seen has reached it
none_open : (t : ℕ) (vs ss : List ℕ) → open_from t vs ss ≡ None → (k : ℕ) → k < length ss → slice_index vs k ≤ slice_index ss k
unfolding open_from
none_open t [] ss e k low = omega arith
none_open t (v ∷ vs) [] e k low = absurd (omega (arith, low))
none_open t (v ∷ vs) (s ∷ ss) e k low = elim (cases_Bool (nat_le v s)) [
  | inl met ↦ by_place (leb-true v s met) (none_open (t + 1) vs ss (rw met at e)) k low
  | inr unmet ↦ let f = rw unmet at e in absurd (cc (f))
]
  where
    by_place : v ≤ s → ((k : ℕ) → k < length ss → slice_index vs k ≤ slice_index ss k) → (k : ℕ) → k < length (s ∷ ss) → slice_index (v ∷ vs) k ≤ slice_index (s ∷ ss) k
    by_place here rest zero low = here
    by_place here rest (suc k) low = rest k (omega (arith, low))

is_open : (fence : Fence) (seen : Seen) → length seen.values ≡ 64 → (IsSignalled fence seen → ⊥) → is_some (first_open_of fence seen) ≡ true
unfolding first_open_of
is_open fence seen sized short = by_open (open_from 1 fence.values seen.values) refl
  where
    by_open : (found : Option (ℕ × ℕ)) → open_from 1 fence.values seen.values ≡ found → is_some found ≡ true
    by_open None e = absurd (short (λ t low high. none_open 1 fence.values seen.values e (t - 1) (omega (arith, low, high, sized))))
    by_open (Some point) e = refl

-- the first ones of a list are of it
take_has : {X : Type 0} (n : ℕ) (xs : List X) (x : X) → Contains (take n xs) x → Contains xs x
take_has n xs x there = got_has xs there.0 x (in_front n xs there.0 x (slice_get-get_or (take n xs) there.0 x there.1 ∙ ap (λ (y : _). Some y) there.2))

signalled : (timelines : List ℕ) (s : Step) (p : ℕ × ℕ) → KnowsTimelines timelines s → Contains (signal_of s) p → has_timeline timelines p.0 ≡ true
signalled timelines (step.Signal t v) p knows there = elim (has_cases (t, v) p [] there) [
  | inl same ↦ ap (λ (q : ℕ × ℕ). has_timeline timelines q.0) (sym same) ∙ All-head (λ number. has_timeline timelines number ≡ true) t [] knows
  | inr none ↦ has_none p none
]
signalled timelines s p knows there = has_none p there

-- a step that waits for points that are open
draw_open : (scene : SceneValue) (run : Run) (token : Option Token) (fence : Fence) → undrawn_fence token ≡ Some fence → has_open_point (final_values scene run) fence ≡ true
    → draw_waits scene run token (undrawn_fence token) ≡ true
draw_open scene run None fence e short = absurd (cc (e))
draw_open scene run (Some (Lent queue token None)) fence e short =
    let same : token.fence ≡ fence = cc in
    or_left (has_open_point (final_values scene run) token.fence) (has_older scene run (Lent queue token None)) (ap (has_open_point (final_values scene run)) same ∙ short)
draw_open scene run (Some (Lent queue token (Some drawn))) fence e short = absurd (cc (e))
draw_open scene run (Some (Owing queue owed)) fence e short =
    let same : owed.fence ≡ fence = cc in
    or_left (has_open_point (final_values scene run) owed.fence) (has_older scene run (Owing queue owed)) (ap (has_open_point (final_values scene run)) same ∙ short)
draw_open scene run (Some (Frame queue token)) fence e short = absurd (cc (e))
draw_open scene run (Some (Apart queue held)) fence e short = absurd (cc (e))

open_waits : (scene : SceneValue) (run : Run) (script : ActorScript) (holdings : Holdings) (s : Step) (fence : Fence) → waited_fence holdings s ≡ Some fence
    → has_open_point (final_values scene run) fence ≡ true → step_waits scene run script holdings s ≡ true
open_waits scene run script holdings (step.Wait t v) fence e short = (let same : with_point no_points t v ≡ fence = cc in ap (has_open_point (final_values scene run)) same ∙ short)
open_waits scene run script holdings (step.Draw s p) fence e short = draw_open scene run (name_in holdings s) fence e short
open_waits scene run script holdings s fence e short = absurd (cc (e))

-- a draw before which an older one is owed
older_waits : (scene : SceneValue) (run : Run) (token : Token) (fence : Fence) → undrawn_fence (Some token) ≡ Some fence → has_older scene run token ≡ true
    → draw_waits scene run (Some token) (undrawn_fence (Some token)) ≡ true
older_waits scene run token fence e older =
    subst (λ (f : Option Fence). draw_waits scene run (Some token) f ≡ true) (sym e) (or_right (has_open_point (final_values scene run) fence) (has_older scene run token) older)

-- a step that asks to wait for a slot
abbrev asks_wait : Option Asked → Bool
asks_wait None = false
asks_wait (Some asked) = may_wait asked.1

request_waits : (token : Option Token) → asks_wait (request_of token) ≡ false
request_waits (Some (Lent queue token drawn)) = refl
request_waits other = refl

queueing_waits : (picture : Picture) (time : Option ℕ) (part : Option (ℕ × ℕ × ℕ × ℕ)) (fence : Fence) (token : Option Token) → asks_wait (queueing_of picture time part fence token) ≡ false
queueing_waits picture time part fence (Some (Lent queue token drawn)) = refl
queueing_waits picture time part fence other = refl

cancel_waits : (fence : Fence) (token : Option Token) → asks_wait (cancel_of fence token) ≡ false
cancel_waits fence (Some (Lent queue token None)) = refl
cancel_waits fence (Some (Lent queue token (Some drawn))) = refl
cancel_waits fence other = refl

detach_waits : (token : Option Token) → asks_wait (detach_of token) ≡ false
detach_waits (Some (Lent queue token drawn)) = refl
detach_waits other = refl

attach_waits : (queue : ℕ) (token : Option Token) → asks_wait (attach_of queue token) ≡ false
attach_waits queue (Some (Apart of held)) = refl
attach_waits queue other = refl

release_waits : (fence : Fence) (token : Option Token) → asks_wait (releasing_of fence token) ≡ false
release_waits fence (Some (Frame queue token)) = refl
release_waits fence other = refl

detach_read_waits : (token : Option Token) → asks_wait (detach_read_of token) ≡ false
detach_read_waits (Some (Frame queue token)) = refl
detach_read_waits other = refl

attach_read_waits : (queue : ℕ) (token : Option Token) → asks_wait (attach_read_of queue token) ≡ false
attach_read_waits queue (Some (Apart of held)) = refl
attach_read_waits queue other = refl

-- it is the only kind of step that may wait for one
record IsWaitingFor (s : Step) (asked : Asked) : Type 0 where
  queue : ℕ
  name : ℕ
  size : Option (ℕ × ℕ)
  step : s ≡ step.DequeueWait queue name size
  asks : asked ≡ dequeue_of queue size true

module _ (pictures : ℕ → Picture) (holdings : Holdings) (asked : Asked) (waiting : may_wait asked.1 ≡ true) where
  no_wait : {P : Type 0} (made : Option Asked) → asks_wait made ≡ false → made ≡ Some asked → P
  no_wait made none e = absurd (false≢true (sym none ∙ ap asks_wait e ∙ waiting))

  waiting_for : (s : Step) → call_of pictures holdings s ≡ Some asked → IsWaitingFor s asked
  waiting_for (step.Connect q) e = no_wait (call_of pictures holdings (step.Connect q)) refl e
  waiting_for (step.Disconnect q) e = no_wait (call_of pictures holdings (step.Disconnect q)) refl e
  waiting_for (step.MaxDequeued q n) e = no_wait (call_of pictures holdings (step.MaxDequeued q n)) refl e
  waiting_for (step.Async q on) e = no_wait (call_of pictures holdings (step.Async q on)) refl e
  waiting_for (step.Dequeue q s size) e = no_wait (call_of pictures holdings (step.Dequeue q s size)) refl e
  waiting_for (step.DequeueWait q s size) e = record { queue = q; name = s; size = size; step = refl; asks = (let same : asked ≡ dequeue_of q size true = cc in same) }
  waiting_for (step.Request s) e = no_wait (request_of (name_in holdings s)) (request_waits (name_in holdings s)) e
  waiting_for (step.Queue s p time part points) e =
      no_wait (queueing_of (pictures p) time part (fence_of points) (name_in holdings s)) (queueing_waits (pictures p) time part (fence_of points) (name_in holdings s)) e
  waiting_for (step.Cancel s points) e = no_wait (cancel_of (fence_of points) (name_in holdings s)) (cancel_waits (fence_of points) (name_in holdings s)) e
  waiting_for (step.PDetach s b) e = no_wait (detach_of (name_in holdings s)) (detach_waits (name_in holdings s)) e
  waiting_for (step.PAttach q b s) e = no_wait (attach_of q (name_in holdings b)) (attach_waits q (name_in holdings b)) e
  waiting_for (step.MaxAcquired q n) e = no_wait (call_of pictures holdings (step.MaxAcquired q n)) refl e
  waiting_for (step.Abandon q) e = no_wait (call_of pictures holdings (step.Abandon q)) refl e
  waiting_for (step.Acquire q i at) e = no_wait (call_of pictures holdings (step.Acquire q i at)) refl e
  waiting_for (step.Release i points) e = no_wait (releasing_of (fence_of points) (name_in holdings i)) (release_waits (fence_of points) (name_in holdings i)) e
  waiting_for (step.CDetach i b) e = no_wait (detach_read_of (name_in holdings i)) (detach_read_waits (name_in holdings i)) e
  waiting_for (step.CAttach q b i) e = no_wait (attach_read_of q (name_in holdings b)) (attach_read_waits q (name_in holdings b)) e
  waiting_for s e = no_wait None refl e

-- the entry of an actor of this script that has done so many steps
abbrev stuck_with : ActorScript → ℕ → List StuckEntry
stuck_with script done = if nat_lt done (length script.steps) then record { actor = script.number; step = done + 1 } ∷ [] else []

module _ {B : Type 0} where
  -- what a call says that may wait
  waits_told : (queue : QueueId) (call : QCall B) → may_wait_with call ≡ true → may_wait (told_call queue call) ≡ true
  waits_told queue (call.Dequeue width height wait permit) e = e
  waits_told queue other e = absurd (false≢true e)

  told_alike : (queue other : QueueId) (call : QCall B) → may_wait_with call ≡ true → told_call queue call ≡ told_call other call
  told_alike queue other (call.Dequeue width height wait permit) e = refl
  told_alike queue other asked e = absurd (false≢true e)

  -- the steps of a trace are its script's
  of_script : (scene : SceneValue) (home : DeskHome) (view : DeskView B) (of : ActorOf B) (done : Done) → Keeps (picture_at scene.pictures) home of view → Contains of.trace done
      → Contains of.script.steps done.step
  of_script scene home view of done keeps there =
      take_has (length of.trace) of.script.steps done.step (subst (λ (xs : List Step). Contains xs done.step) keeps.kept.kept.is.first (has_map step_done of.trace done there))

  -- a signal is one of a step of a script, of a timeline that is declared
  signal_from : (scene : SceneValue) (ofs : List (ActorOf B)) (home : DeskHome) (view : DeskView B) (p : ℕ × ℕ) → IsWithinLimits scene → AreActors scene ofs home view
      → Contains (signals_in scene (run_of ofs home view)) p → Contains view.times.signals p × (1 ≤ p.0)
  signal_from scene ofs home view p limits actors there =
      let at = joined_has (λ (script : ActorScript). signals_of (trace_among ofs script.number)) (rising_actors scene) p there in
      let risen = joined_has (λ (n : ℕ). filter (λ (item : ActorScript). actor_number item == n) scene.actors) (range_with_len 1 (most_actors scene.version)) at.0 at.1 in
      let script = (filter_has (λ (item : ActorScript). actor_number item == risen.0) scene.actors at.0 risen.2).0 in
      let by = played_by scene ofs home view at.0 actors script in
      let same : trace_among ofs at.0.number ≡ by.of.trace = ap (λ (s : ActorScript). trace_among ofs s.number) (sym by.is) ∙ trace_here ofs by.of actors.apart by.there in
      let own = subst (λ (trace : List Done). Contains (signals_of trace) p) same at.2 in
      let done = joined_has (λ (d : Done). signal_of d.step) by.of.trace p own in
      let known = All-contains (EachStep (KnowsTimelines scene.timelines)) scene.actors at.0 limits.known_timelines script in
      let inside = subst (λ (s : ActorScript). Contains s.steps done.0.step) by.is (of_script scene home view by.of done.0 by.keeps done.1) in
      let has = signalled scene.timelines done.0.step p (All-contains (KnowsTimelines scene.timelines) at.0.steps done.0.step known inside) done.2 in
      let one = one_passes (λ (n : ℕ). n == p.0) scene.timelines has in
      let low = (All-contains IsTimeline scene.timelines one.0 limits.timelines.each one.1).low in
      let number = eqb-true one.0 p.0 one.2 in
      (by.keeps.kept.kept.signals p own, omega (arith, low, number))

  -- what a look showed that saw all signals is what the timelines come to
  pub final_is : (scene : SceneValue) (ofs : List (ActorOf B)) (home : DeskHome) (view : DeskView B) (seen : Seen) → IsWithinLimits scene → AreActors scene ofs home view
      → AreAmong view.times.signals (signals_in scene (run_of ofs home view)) → length seen.values ≡ 64
      → ((t : ℕ) → 1 ≤ t → t ≤ 64 → value_of seen.values t ≡ greatest t view.times.signals) → final_values scene (run_of ofs home view) ≡ seen
  final_is scene ofs home view seen limits actors among sized exact =
      let signals = signals_in scene (run_of ofs home view) in
      reached_is seen signals sized (of_all (λ (p : ℕ × ℕ). 1 ≤ p.0) signals (λ p there. (signal_from scene ofs home view p limits actors there).1)) (λ t low high.
      let is = exact t low high in
      let up = greatest_among t view.times.signals signals among in
      let down = greatest_among t signals view.times.signals (λ p there. (signal_from scene ofs home view p limits actors there).0) in
      omega (arith, is, up, down))

  -- what a name holds, as the trace tells it
  name_held : (scene : SceneValue) (home : DeskHome) (view : DeskView B) (of : ActorOf B) (name : ℕ) (held : Holding B) → Keeps (picture_at scene.pictures) home of view → held_in of.parts name ≡ Some held
      → name_in (past_of of).holdings name ≡ Some (token_of held)
  name_held scene home view of name held keeps here =
      ap (λ (h : Holdings). name_in h name) (sym keeps.kept.has) ∙ get_or-map (option_map token_of) of.parts.names name None ∙ ap (option_map token_of) here

  -- a call that waits is refused at the end
  no_slot : (scene : SceneValue) (ofs : List (ActorOf B)) (home : DeskHome) (before after : DeskView B) (of : ActorOf B) (next : Step) (asked : Asked) (asking : QCall B) → IsWithinLimits scene
      → AreCalls scene ofs home after → Contains scene.actors of.script → Contains of.script.steps next → call_of (picture_at scene.pictures) (past_of of).holdings next ≡ Some asked
      → told_call asked.0 asking ≡ asked.1 → WaitsForCall home before after of.script.number asked.0.0 (length of.trace + 1, asking)
      → step_waits scene (run_of ofs home after) of.script (past_of of).holdings next ≡ true
  no_slot scene ofs home before after of next asked asking limits calls declared inside called said waits =
      let run = run_of ofs home after in
      let script = of.script in
      let holdings = (past_of of).holdings in
      let mark = mark_among home.marks asked.0.0 in
      let waiting = subst (λ (c : PlainCall). may_wait c ≡ true) said (waits_told asked.0 asking waits.not_yet.0) in
      let for_slot = waiting_for (picture_at scene.pictures) holdings asked waiting next called in
      let known = All-contains (KnowsQueue scene.queues) script.steps next (All-contains (EachStep (KnowsQueue scene.queues)) scene.actors script limits.known_queues declared) inside in
      let has = subst (KnowsQueue scene.queues) for_slot.step known in
      let one = one_passes (λ (queue : QueueDecl). queue.number == asked.0.0) scene.queues (subst (λ (a : Asked). has_queue scene.queues a.0.0 ≡ true) (sym for_slot.asks) has) in
      let found = has_found (λ (queue : QueueDecl). queue.number == asked.0.0) scene.queues one.0 one.1 one.2 in
      let number = eqb-true found.one.number asked.0.0 found.passes in
      let marked = All-contains (λ (queue : QueueDecl). mark_among home.marks queue.number ≡ mark_declared queue) scene.queues found.one calls.marks found.there in
      let plainly = told_alike mark.queue asked.0 asking waits.not_yet.0 ∙ said in
      let refused : is_blocked (reply_after mark.width mark.height (told_on home after asked.0.0) (caller script.number) asked.1) ≡ true =
      ap (λ (c : PlainCall). is_blocked (reply_after mark.width mark.height (told_on home after asked.0.0) (caller script.number) c)) (sym plainly) ∙ ap is_blocked waits.not_yet.1 in
      let there = subst (λ (n : ℕ). let m = mark_among home.marks n in is_blocked (reply_after m.width m.height (told_on home after n) (caller script.number) asked.1) ≡ true) (sym number) refused in
      let sized = subst (λ (m : QueueMark). is_blocked (reply_after m.width m.height (told_on home after found.one.number) (caller script.number) asked.1) ≡ true) marked there in
      let blocks = subst (λ (o : Option QueueDecl). option_map_or (is_blocked_on run script asked) o false ≡ true) (sym found.found) sized in
      subst (λ (s : Step). step_waits scene run script holdings s ≡ true) (sym for_slot.step)
      (subst (λ (a : Asked). call_blocks scene run script (Some a) ≡ true) for_slot.asks blocks)

  why_waits : (scene : SceneValue) (ofs : List (ActorOf B)) (home : DeskHome) (before after : DeskView B) (of : ActorOf B) (next : Step) → IsWithinLimits scene → home.is_exact ≡ true
      → AreActors scene ofs home after → AreCalls scene ofs home after → AreAmong after.times.signals (signals_in scene (run_of ofs home after)) → after.times.signals ≡ before.times.signals
      → TellsOlder scene (run_of ofs home after) of before after → Keeps (picture_at scene.pictures) home of after → Contains scene.actors of.script → Contains of.script.steps next
      → WhyNotYet (picture_at scene.pictures) home of before after next → step_waits scene (run_of ofs home after) of.script (past_of of).holdings next ≡ true
  why_waits scene ofs home before after of next limits exact actors calls among same older keeps declared inside (Open fence waited sees turns) =
      let run = run_of ofs home after in
      let final : final_values scene run ≡ sees.0 = final_is scene ofs home after sees.0 limits actors among sees.1.all
      (λ t low high. sees.1.exact exact t low high ∙ ap (λ (signals : List (ℕ × ℕ)). greatest t signals) (sym same)) in
      open_waits scene run of.script (past_of of).holdings next fence waited (ap (λ (seen : Seen). has_open_point seen fence) final ∙ is_open fence sees.0 sees.1.all sees.2)
  why_waits scene ofs home before after of next limits exact actors calls among same older keeps declared inside (NoSlot asked asking called said waits) =
      no_slot scene ofs home before after of next asked asking limits calls declared inside called said waits
  why_waits scene ofs home before after of next limits exact actors calls among same older keeps declared inside (EarlierTurn name picture held fence drawing here waited sees short) =
      let run = run_of ofs home after in
      let holdings = (past_of of).holdings in
      let named = name_held scene home after of name held keeps here in
      let undrawn : undrawn_fence (Some (token_of held)) ≡ Some fence =
      ap undrawn_fence (sym named) ∙ ap (waited_fence holdings) (sym drawing) ∙ waited in
      subst (λ (s : Step). step_waits scene run of.script holdings s ≡ true) (sym drawing)
      (subst (λ (token : Option Token). draw_waits scene run token (undrawn_fence token) ≡ true) (sym named)
      (older_waits scene run (token_of held) fence undrawn (older.owed name held fence here undrawn short)))

  -- an actor whose step was left is not ready at it
  pub left_not_ready : (scene : SceneValue) (ofs : List (ActorOf B)) (home : DeskHome) (before after : DeskView B) (old new : ActorOf B) → IsWithinLimits scene → home.is_exact ≡ true
      → AreActors scene ofs home after → AreCalls scene ofs home after → AreAmong after.times.signals (signals_in scene (run_of ofs home after)) → Contains ofs old
      → TellsOlder scene (run_of ofs home after) old before after → LeavesStep (picture_at scene.pictures) home old before new after
      → IsNotReady scene (run_of ofs home after) old.script (next_step (run_of ofs home after) old.script)
  left_not_ready scene ofs home before after old new limits exact actors calls among there older leaves =
      let run = run_of ofs home after in
      let script = old.script in
      let traced : run.trace script.number ≡ old.trace = trace_here ofs old actors.apart there in
      let next : next_step run script ≡ Some leaves.next = ap (λ (trace : List Done). slice_get script.steps (length trace)) traced ∙ leaves.step in
      let holdings : holdings_at_end run script ≡ (past_of old).holdings = ap (λ (trace : List Done). (past_after trace).holdings) traced in
      let keeps = All-contains (λ (of : ActorOf B). Keeps (picture_at scene.pictures) home of after) ofs old actors.keep there in
      let declared = Contains-permutation (map script_of ofs) scene.actors script (IsPermutation-sym scene.actors (map script_of ofs) actors.scripts) (has_map script_of ofs old there) in
      let waits = why_waits scene ofs home before after old leaves.next limits exact actors calls among leaves.signals older keeps declared
      (got_has script.steps (length old.trace) leaves.next leaves.step) leaves.why in
      subst (IsNotReady scene run script) (sym next)
      (subst (λ (h : Holdings). (refusal_of (picture_at scene.pictures) h leaves.next ≡ None) × (step_waits scene run script h leaves.next ≡ true)) (sym holdings) (leaves.unrefused, waits))

  -- one that has done all its steps is not stuck
  pub ended_not_stuck : (scene : SceneValue) (ofs : List (ActorOf B)) (home : DeskHome) (view : DeskView B) (of : ActorOf B) → AreActors scene ofs home view → Contains ofs of
      → next_of of ≡ None → IsNotReady scene (run_of ofs home view) of.script (next_step (run_of ofs home view) of.script)
  ended_not_stuck scene ofs home view of actors there ended =
      let run = run_of ofs home view in
      let next = ap (λ (trace : List Done). slice_get of.script.steps (length trace)) (trace_here ofs of actors.apart there) ∙ ended in
      subst (IsNotReady scene run of.script) (sym next) tt

  -- the run that is told is the same where nothing more is called
  pub run_stays : (ofs : List (ActorOf B)) (home other : DeskHome) (before after : DeskView B) → other.marks ≡ home.marks → ((queue : ℕ) → after.calls queue ≡ before.calls queue)
      → run_of ofs other after ≡ run_of ofs home before
  run_stays ofs home other before after marks same = λ i. record { trace = trace_among ofs; calls = λ queue. told (mark_among (marks i) queue) (same queue i) }

  -- the stuck actors, by rising number
  entries_are : (scene : SceneValue) (ofs : List (ActorOf B)) (home : DeskHome) (view : DeskView B) (later : List (ActorOf B)) → AreActors scene ofs home view
      → ((of : ActorOf B) → Contains later of → Contains ofs of) → flat_map (stuck_if (run_of ofs home view)) (map script_of later) ≡ stuck_among later
  entries_are scene ofs home view [] actors sub = refl
  entries_are scene ofs home view (of ∷ later) actors sub =
      let traced = trace_here ofs of actors.apart (sub of (has_here of later)) in
      let rest = entries_are scene ofs home view later actors (λ other c. sub other (has_later of other later c)) in
      (λ i. stuck_with of.script (length (traced i)) ++ rest i)

  pub are_stuck : (scene : SceneValue) (ofs : List (ActorOf B)) (home : DeskHome) (view : DeskView B) (stuck : List StuckEntry) → IsWithinLimits scene → AreActors scene ofs home view
      → stuck ≡ stuck_among ofs → All (λ (of : ActorOf B). IsNotReady scene (run_of ofs home view) of.script (next_step (run_of ofs home view) of.script)) ofs
      → AreStuck scene (run_of ofs home view) stuck
  are_stuck scene ofs home view stuck limits actors shown each =
      let run = run_of ofs home view in
      record {
        exactly = shown ∙ sym (ap (flat_map (stuck_if run)) (rising_actors_are scene ofs home view limits actors) ∙ entries_are scene ofs home view ofs actors (λ of there. there));
        not_ready = of_all (λ (script : ActorScript). IsNotReady scene run script (next_step run script)) scene.actors (λ script there.
            let by = played_by scene ofs home view script actors there in
            subst (λ (s : ActorScript). IsNotReady scene run s (next_step run s)) by.is
            (All-contains (λ (of : ActorOf B). IsNotReady scene run of.script (next_step run of.script)) ofs by.of each by.there));
      }

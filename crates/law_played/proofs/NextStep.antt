-- A step that an actor does over an exact desk is one step more of the run that is told.
use Rattle.std.proofs.Common.{◌≡◌, ◌≢◌, ℕ, zero, suc, ◌+◌, ◌≤◌, ◌==◌, Bool, true, false, ◌||◌, List, [], ◌∷◌, ◌++◌, length, set, map, Option, Some, None, refl, sym, ap, ◌∙◌, subst, true≢false, inl, inr, arith}
use Rattle.std.specs.Prelude.{◌⊎◌, All, Contains, if◌then◌else◌, slice_get}
use Rattle.std.specs.List.{find, list_any, range_with_len}
use Rattle.std.specs.List.Sorted.{IsStrictlyIncreasing}
use Rattle.std.specs.Option.{option_map, option_map_or}
use Rattle.std.proofs.Math.ListN.{get_or-map}
use Rattle.std.proofs.lemmas.Bool.{cases_eq, eq-eqb, eqb-true, ne_eqb, or_parts}
use Rattle.std.proofs.lemmas.List.{append_cancel_left, length-map, map-append}
use Rattle.std.proofs.lemmas.List.Elements.{All-cons, All-contains, All-head, All-map, All-nil, All-tail, All-weaker}
use Rattle.std.proofs.lemmas.List.Sorted.{Contains-permutation, IsPermutation-sym}
use Rattle.sf_base.specs.Fences.{Fence, IsSignalled}
use Rattle.sf_base.specs.declared.fences.Seen.{Seen}
use Rattle.sf_commit.specs.sf_calls.Histories.{calls_by, entry}
use Rattle.sf_actor.specs.sf_slots.Replies.{reply_after}
use Rattle.sf_actor.specs.sf_slots.Tells.{AreReplies}
use Rattle.sf_actor.specs.sf_slots.declared.calls.PlainCall.TheVariants as plain
use Rattle.sf_actor.specs.sf_slots.declared.calls.PlainReply.TheVariants as reply'
use Rattle.sf_actor.specs.sf_slots.declared.calls.Entry.{Entry}
use Rattle.sf_actor.specs.sf_surface.Calls.{told_call}
use Rattle.sf_actor.specs.sf_surface.Histories.{Made, told, told_entry}
use Rattle.sf_actor.specs.sf_surface.Drawing.{MayEnter}
use Rattle.sf_actor.specs.sf_surface.Calls.{write_token}
use Rattle.sf_actor.specs.sf_surface.Tokens.{ReadLeaseOf, WriteLeaseOf, turn_of}
use Rattle.sf_actor.specs.sf_surface.declared.work.Work.{Work}
use Rattle.sf_actor.specs.sf_surface.declared.work.Work.TheVariants as work
use Rattle.sf_actor.specs.sf_surface.declared.call.QCall.TheVariants as call
use Rattle.sf_actor.specs.sf_surface.declared.call.QReply.{QReply}
use Rattle.sf_actor.specs.sf_surface.declared.mark.QueueMark.{QueueMark}
use Rattle.sf_commit.specs.sf_token.Pending.{Arrival}
use Rattle.sf_script_scene.specs.Limits.{IsWithinLimits}
use Rattle.sf_script_scene.specs.Scene.{SceneValue, has_queue}
use Rattle.sf_script_scene.specs.declared.declarations.QueueDecl.{QueueDecl}
use Rattle.sf_script_scene.specs.declared.step.ActorScript.{ActorScript}
use Rattle.sf_script_scene.specs.declared.step.Step.{Step}
use Rattle.sf_script_scene.specs.declared.step.Step.TheVariants as step
use Rattle.sf_actor.specs.declared.done.Done.{Done}
use Rattle.sf_actor.specs.declared.tried.Reply.{Reply}
use Rattle.sf_actor.specs.declared.done.Answered.TheVariants as answered
use Rattle.sf_actor.specs.declared.holding.Holding.{Holding}
use Rattle.sf_actor.specs.declared.holding.Holding.TheVariants as holding
use Rattle.sf_actor.specs.Desks.{DeskHome, DeskView, MadeCall, known_of, mark_among}
use Rattle.sf_actor.specs.Known.{GoesOn, frame_of, is_sent_by, plain_arrival}
use Rattle.sf_actor.specs.Names.{FrameOf, Holdings, Lent, Token, name_in}
use Rattle.sf_actor.specs.Holdings.{drawn_picture, token_of}
use Rattle.sf_actor.specs.Points.{detached_fence, undrawn_fence}
use Rattle.sf_actor.specs.Rights.{turn_by}
use Rattle.sf_actor.specs.Scripts.{picture_at}
use Rattle.sf_actor.specs.Tests.{refusal_of}
use Rattle.sf_actor.specs.Traces.{past_after}
use Rattle.sf_actor.specs.Tries.{ActorOf, DoesStep, DrawsHeld, DrawsIn, Keeps, SeesSignalled, held_in}
use Rattle.sf_actor.specs.Values.{reply_at}
use Rattle.sf_record.specs.declared.event.Event.TheVariants as event
use Rattle.sf_record.specs.declared.event.VsyncRecords.{VsyncRecords}
use Rattle.law_played.specs.Actors.{AreActors, AreCalls, arrivals_of, mark_declared, number_of, run_of, script_of, told_on, trace_among}
use Rattle.law_played.specs.Arrivals.{number_of as number_shown}
use Rattle.law_played.specs.Histories.{Released}
use Rattle.law_played.specs.Runs.{AreTraced, IsTraced, final_values}
use Rattle.law_played.specs.Stepping.{CallsMore, DoesOneMore, DrawsInTime, KnowsRun, RefusesOpen, TellsFirst}
use Rattle.law_played.specs.Telling.{AreNumbered, place_of}
use Rattle.law_played.specs.Replies.{reply_shown}
use Rattle.law_played.specs.Stuck.{draw_waits, has_older, has_open_point, holdings_at_end}
use Rattle.law_played.specs.RunStates.{RunState, actor_transition, answer_tested, at_now, done_now, release_asked, reply_now, reply_on, with_call, with_list}
use Rattle.law_played.proofs.RunGrowth.{released_token}
use Rattle.law_played.proofs.AsQueued.{one_passes}
use Rattle.law_played.proofs.StepKeepsTold.{got_has, set_has}
use Rattle.law_played.proofs.Members.{has_cases, has_first, has_found, has_map, has_none}
use Rattle.law_played.proofs.SteppingLemmas.{done_is, in_time, none_open, transition_is}
use Rattle.law_played.proofs.StuckActors.{final_is}
use Rattle.law_played.proofs.RunTraces.{are_traced, head_apart, played_by, rising_later, told_legal, trace_here}

module _ {B : Type 0} where
  -- the traces of all others stay
  trace_other : (ofs : List (ActorOf B)) (place number : ℕ) (old new : ActorOf B) → slice_get ofs place ≡ Some old → new.script.number ≡ old.script.number → number ≢ old.script.number
      → trace_among (set ofs place new) number ≡ trace_among ofs number
  trace_other [] place number old new here same apart = absurd (cc (here))
  trace_other (of ∷ ofs) zero number old new here same apart =
      let is : of ≡ old = cc in
      rw (ne_eqb new.script.number number (λ e. apart (sym e ∙ same)), ne_eqb of.script.number number (λ e. apart (sym e ∙ ap (λ (o : ActorOf B). o.script.number) is))) refl
  trace_other (of ∷ ofs) (suc place) number old new here same apart = by_test (of.script.number == number) (trace_other ofs place number old new here same apart)
    where
      by_test : (b : Bool) → trace_among (set ofs place new) number ≡ trace_among ofs number
          → (if b then of.trace else trace_among (set ofs place new) number) ≡ (if b then of.trace else trace_among ofs number)
      by_test true rest = refl
      by_test false rest = rest

  -- calls that are all of one caller, where the others made none
  fewer : (caller : ℕ) (more earlier : List (Made B)) → length (calls_by caller earlier) ≤ length (calls_by caller (more ++ earlier))
  fewer caller [] earlier = omega arith
  fewer caller (m ∷ more) earlier = by_test (m.by == caller) (fewer caller more earlier)
    where
      by_test : (b : Bool) → length (calls_by caller earlier) ≤ length (calls_by caller (more ++ earlier))
          → length (calls_by caller earlier) ≤ length (if b then m ∷ calls_by caller (more ++ earlier) else calls_by caller (more ++ earlier))
      by_test true rest = omega (arith, rest)
      by_test false rest = rest

  all_by : (number : ℕ) (more earlier : List (Made B)) → ((other : ℕ) → other ≢ number → calls_by other (more ++ earlier) ≡ calls_by other earlier) → All (λ (m : Made B). m.by ≡ number) more
  all_by number [] earlier none = All-nil (λ (m : Made B). m.by ≡ number)
  all_by number (m ∷ more) earlier none = by_caller (cases_eq m.by number) (all_by number more earlier)
    where
      by_caller : (m.by ≡ number) ⊎ (m.by ≡ number → ⊥)
          → (((other : ℕ) → other ≢ number → calls_by other (more ++ earlier) ≡ calls_by other earlier) → All (λ (m : Made B). m.by ≡ number) more) → All (λ (m : Made B). m.by ≡ number) (m ∷ more)
      by_caller (inl same) rest =
          All-cons (λ (m : Made B). m.by ≡ number) m more same
          (rest (λ other apart. ap (λ b. if b then m ∷ calls_by other (more ++ earlier) else calls_by other (more ++ earlier)) (sym (ne_eqb m.by other (λ e. apart (sym e ∙ same)))) ∙ none other apart))
      by_caller (inr apart) rest =
          let own : (m ∷ calls_by m.by (more ++ earlier)) ≡ calls_by m.by earlier =
          ap (λ b. if b then m ∷ calls_by m.by (more ++ earlier) else calls_by m.by (more ++ earlier)) (sym (eq-eqb m.by m.by refl)) ∙ none m.by apart in
          let size = ap (λ (ms : List (Made B)). length ms) own in
          let less = fewer m.by more earlier in
          absurd (omega (arith, size, less))

  -- what more calls tell, in front of what the earlier ones tell
  told_front : QueueMark → List (Made B) → List (Made B) → List Entry
  told_front mark [] earlier = []
  told_front mark (m ∷ more) earlier = told_entry mark (told mark (more ++ earlier)) m ∷ told_front mark more earlier

  told_more : (mark : QueueMark) (more earlier : List (Made B)) → told mark (more ++ earlier) ≡ told_front mark more earlier ++ told mark earlier
  unfolding told told_front
  told_more mark [] earlier = refl
  told_more mark (m ∷ more) earlier = ap (λ (rest : List Entry). told_entry mark (told mark (more ++ earlier)) m ∷ rest) (told_more mark more earlier)

  front_by : (mark : QueueMark) (number : ℕ) (more earlier : List (Made B)) → All (λ (m : Made B). m.by ≡ number) more → All (λ (e : Entry). e.caller.0 ≡ number) (told_front mark more earlier)
  unfolding told_front
  front_by mark number [] earlier all = All-nil (λ (e : Entry). e.caller.0 ≡ number)
  front_by mark number (m ∷ more) earlier all =
      All-cons (λ (e : Entry). e.caller.0 ≡ number) (told_entry mark (told mark (more ++ earlier)) m) (told_front mark more earlier) (All-head (λ (m : Made B). m.by ≡ number) m more all)
      (front_by mark number more earlier (All-tail (λ (m : Made B). m.by ≡ number) m more all))

  -- what is told of no calls is nothing
  told_has : (mark : QueueMark) (calls : List (Made B)) (entry : Entry) → Contains (told mark calls) entry → (made : Made B) × Contains calls made
  unfolding told
  told_has mark [] entry there = has_none entry there
  told_has mark (m ∷ ms) entry there = (m, has_first m m ms refl)

all_sent : (number : ℕ) (xs : List (Arrival ReadLeaseOf)) → ((other : ℕ) → other ≢ number → list_any (is_sent_by other) xs ≡ false) → All (λ (a : Arrival ReadLeaseOf). a.actor.0 ≡ number) xs
all_sent number [] none = All-nil (λ (a : Arrival ReadLeaseOf). a.actor.0 ≡ number)
all_sent number (a ∷ xs) none = by_sender (cases_eq a.actor.0 number) (all_sent number xs (λ other apart. (or_parts (is_sent_by other a) (list_any (is_sent_by other) xs) (none other apart)).1))
  where
    by_sender : (a.actor.0 ≡ number) ⊎ (a.actor.0 ≡ number → ⊥) → All (λ (a : Arrival ReadLeaseOf). a.actor.0 ≡ number) xs → All (λ (a : Arrival ReadLeaseOf). a.actor.0 ≡ number) (a ∷ xs)
    by_sender (inl same) rest = All-cons (λ (a : Arrival ReadLeaseOf). a.actor.0 ≡ number) a xs same rest
    by_sender (inr apart) rest =
        absurd (true≢false (sym (eq-eqb a.actor.0 a.actor.0 refl) ∙ (or_parts (is_sent_by a.actor.0 a) (list_any (is_sent_by a.actor.0) xs) (none a.actor.0 apart)).0))

numbers_plain : (xs : List (Arrival ReadLeaseOf)) → map number_shown (map plain_arrival xs) ≡ map place_of xs
numbers_plain [] = refl
numbers_plain (a ∷ xs) = ap (λ (ns : List ℕ). a.number ∷ ns) (numbers_plain xs)

-- actors of rising numbers with one number are one
same_member : {B : Type 0} (ofs : List (ActorOf B)) (a b : ActorOf B) → IsStrictlyIncreasing (map number_of ofs) → Contains ofs a → Contains ofs b → number_of a ≡ number_of b → a ≡ b
same_member [] a b rising one other same = has_none a one
same_member (x ∷ ofs) a b rising one other same = by_place (has_cases x a ofs one) (has_cases x b ofs other) (same_member ofs a b (rising_later x ofs rising))
  where
    by_place : (x ≡ a) ⊎ Contains ofs a → (x ≡ b) ⊎ Contains ofs b → (Contains ofs a → Contains ofs b → number_of a ≡ number_of b → a ≡ b) → a ≡ b
    by_place (inl p) (inl q) rest = sym p ∙ q
    by_place (inl p) (inr q) rest = let below = head_apart x b ofs rising q in let here = ap number_of p in absurd (omega (arith, below, here, same))
    by_place (inr p) (inl q) rest = let below = head_apart x a ofs rising p in let here = ap number_of q in absurd (omega (arith, below, here, same))
    by_place (inr p) (inr q) rest = rest p q same

-- the script of an actor is the one of its number
pub script_of_number : {B : Type 0} (scene : SceneValue) (ofs : List (ActorOf B)) (home : DeskHome) (view : DeskView B) (old : ActorOf B) → AreActors scene ofs home view → Contains ofs old
    → find (λ (s : ActorScript). s.number == old.script.number) scene.actors ≡ Some old.script
script_of_number {B} scene ofs home view old actors there =
    let number = old.script.number in
    let in_scene = Contains-permutation (map script_of ofs) scene.actors old.script (IsPermutation-sym scene.actors (map script_of ofs) actors.scripts) (has_map script_of ofs old there) in
    let found = has_found (λ (s : ActorScript). s.number == number) scene.actors old.script in_scene (eq-eqb number number refl) in
    let by = played_by scene ofs home view found.one actors found.there in
    let same = same_member ofs by.of old actors.apart by.there there (ap (λ (s : ActorScript). s.number) by.is ∙ eqb-true found.one.number number found.passes) in
    found.found ∙ ap (λ (s : ActorScript). Some s) (sym by.is ∙ ap (λ (of : ActorOf B). of.script) same)

-- a buffer that is lent, with what was drawn
abbrev token_with : WriteLeaseOf → Work → Token
token_with lease w = Lent lease.queue (write_token lease.queue lease) (drawn_picture w)

module _ {B : Type 0} (scene : SceneValue) (ofs : List (ActorOf B)) (home : DeskHome) (before after : DeskView B) (place : ℕ) (old new : ActorOf B) (reply : Reply) (reports : List VsyncRecords) (vsyncs : ℕ)
    (limits : IsWithinLimits scene) (exact : home.is_exact ≡ true) (tells : home.tells ≡ true) (here : slice_get ofs place ≡ Some old) (does : DoesStep (picture_at scene.pictures) home old before new after reply)
    (was : KnowsRun scene ofs home before) (is : KnowsRun scene (set ofs place new) home after) (calls : AreCalls scene (set ofs place new) home after) (numbered : AreNumbered after.arrivals) where
  abbrev state : RunState
  state = record { run = run_of ofs home before; arrivals = arrivals_of before; reports = reports; vsyncs = vsyncs }

  abbrev number : ℕ
  number = old.script.number

  another : number + 1 ≢ number
  another e = omega (arith, e)

  abbrev goes : GoesOn (number + 1) (known_of home before) (known_of home after)
  goes = does.alone exact (number + 1) another

  -- what arrived since
  abbrev since : List (Arrival FrameOf)
  since = map plain_arrival goes.arrivals.later

  arrivals_are : arrivals_of before ++ since ≡ arrivals_of after
  arrivals_are = sym (map-append plain_arrival before.arrivals goes.arrivals.later) ∙ ap (map plain_arrival) (sym goes.arrivals.joined)

  there : Contains ofs old
  there = got_has ofs place old here

  in_scene : Contains scene.actors old.script
  in_scene = Contains-permutation (map script_of ofs) scene.actors old.script (IsPermutation-sym scene.actors (map script_of ofs) was.actors.scripts) (has_map script_of ofs old there)

  script_same : new.script ≡ old.script
  script_same = ap (λ (of : ActorOf B). of.script) does.same

  number_same : new.script.number ≡ number
  number_same = ap (λ (s : ActorScript). s.number) script_same

  traced : trace_among ofs number ≡ old.trace
  traced = trace_here ofs old was.actors.apart there

  pub traces : (actor : ℕ) → trace_among (set ofs place new) actor ≡ with_list (trace_among ofs) number (trace_among ofs number ++ does.done ∷ []) actor
  traces actor = by_actor (cases_eq actor number)
    where
      by_actor : (actor ≡ number) ⊎ (actor ≡ number → ⊥) → trace_among (set ofs place new) actor ≡ with_list (trace_among ofs) number (trace_among ofs number ++ does.done ∷ []) actor
      by_actor (inl same) =
          rw (eq-eqb actor number same)
          (ap (trace_among (set ofs place new)) (same ∙ sym number_same) ∙ (trace_here (set ofs place new) new is.actors.apart (set_has ofs place old new here)
          ∙ (does.trace ∙ ap (λ (t : List Done). t ++ does.done ∷ []) (sym traced))))
      by_actor (inr apart) = rw (ne_eqb actor number apart) (trace_other ofs place actor old new here number_same apart)

  calls_more : (queue : ℕ) → CallsMore number (told_on home before queue) (told_on home after queue)
  calls_more queue =
      let mark = mark_among home.marks queue in
      let begins = (goes.calls queue).begins in
      let by_others = λ (other : ℕ) (apart : other ≢ number).
      subst (λ (ms : List (Made B)). calls_by other ms ≡ calls_by other (before.calls queue)) begins.1 ((does.alone exact other apart).calls queue).calls in
      record {
        more = told_front mark begins.0 (before.calls queue);
        joined = ap (told mark) begins.1 ∙ told_more mark begins.0 (before.calls queue);
        own = front_by mark number begins.0 (before.calls queue) (all_by number begins.0 (before.calls queue) by_others);
      }

  none_of_others : (other : ℕ) → other ≢ number → list_any (is_sent_by other) goes.arrivals.later ≡ false
  none_of_others other apart =
      let theirs = (does.alone exact other apart).arrivals in
      let same = append_cancel_left before.arrivals goes.arrivals.later theirs.later (sym goes.arrivals.joined ∙ theirs.joined) in
      ap (list_any (is_sent_by other)) same ∙ theirs.none

  refuses : RefusesOpen scene state old.script does.done
  refuses fence detached unrefused answer signalled =
      let holdings : (past_after (trace_among ofs number)).holdings ≡ (past_after old.trace).holdings = ap (λ (t : List Done). (past_after t).holdings) traced in
      let open' = does.refused fence (ap (λ (h : Holdings). detached_fence h does.done.step) (sym holdings) ∙ detached)
      (ap (λ (h : Holdings). refusal_of (picture_at scene.pictures) h does.done.step) (sym holdings) ∙ unrefused) answer in
      let final = final_is scene ofs home before open'.0 limits was.actors was.signals open'.1.all (open'.1.exact exact) in
      open'.2 (subst (IsSignalled fence) final signalled)

  does_one_more : DoesOneMore scene state old.script does.done (run_of (set ofs place new) home after) since
  does_one_more = record {
    before = All-contains (IsTraced true scene (run_of ofs home before) (arrivals_of before)) scene.actors old.script
        (subst (λ (t : Bool). AreTraced t scene (run_of ofs home before) (arrivals_of before)) tells (are_traced scene ofs home before was.actors (record { all = was.knows; made = was.signals }))) in_scene;
    after = subst (λ (arrivals : List (Arrival FrameOf)). IsTraced true scene (run_of (set ofs place new) home after) arrivals old.script) (sym arrivals_are)
        (All-contains (IsTraced true scene (run_of (set ofs place new) home after) (arrivals_of after)) scene.actors old.script
        (subst (λ (t : Bool). AreTraced t scene (run_of (set ofs place new) home after) (arrivals_of after)) tells
        (are_traced scene (set ofs place new) home after is.actors (record { all = is.knows; made = is.signals }))) in_scene);
    traces = traces;
    calls = calls_more;
    declared = λ queue entry told'. let made = told_has (mark_among home.marks queue) (after.calls queue) entry told' in calls.declared queue made.0 made.1;
    replies = All-weaker (λ (queue : QueueDecl). mark_among home.marks queue.number ≡ mark_declared queue) (λ (queue : QueueDecl). AreReplies queue.width queue.height (told_on home after queue.number))
        (λ queue marked. subst (λ (m : QueueMark). AreReplies m.width m.height (told_on home after queue.number)) marked (told_legal (mark_among home.marks queue.number) (after.calls queue.number)))
        scene.queues calls.marks;
    sent = All-map (λ (a : Arrival FrameOf). a.actor.0 ≡ number) plain_arrival goes.arrivals.later (all_sent number goes.arrivals.later none_of_others);
    numbered = subst (λ (arrivals : List (Arrival FrameOf)). map number_shown arrivals ≡ range_with_len 1 (length arrivals)) (sym arrivals_are)
        (numbers_plain after.arrivals ∙ (numbered ∙ ap (range_with_len 1) (sym (length-map after.arrivals plain_arrival))));
    refused = refuses;
  }

  script_found : find (λ (s : ActorScript). s.number == number) scene.actors ≡ Some old.script
  script_found = script_of_number scene ofs home before old was.actors there

  reply_is : reply_at number (at_now state old.script does.done) ≡ reply
  reply_is = ap (λ (t : List Done). reply_at number (record { place = length t + 1; past = past_after t; done = does.done })) traced ∙ sym does.replied

  -- a draw that is done: its fence was signalled
  answered_zero : (name picture : ℕ) → does.done.step ≡ step.Draw name picture → refusal_of (picture_at scene.pictures) (holdings_at_end state.run old.script) (step.Draw name picture) ≡ None
      → does.done.answered ≡ answered.Own 0
  unfolding done_now
  answered_zero name picture is unrefused =
      sym (ap (λ (d : Done). d.answered) (done_is scene state old.script does.done (run_of (set ofs place new) home after) since does_one_more))
      ∙ ((λ i. answer_tested scene state old.script (is i) (refusal_of (picture_at scene.pictures) (holdings_at_end state.run old.script) (is i)))
      ∙ ap (answer_tested scene state old.script (step.Draw name picture)) unrefused)

  closed : (fence : Fence) → SeesSignalled home before after fence → has_open_point (final_values scene state.run) fence ≡ false
  closed fence sees =
      let final = final_is scene ofs home before sees.0 limits was.actors was.signals sees.1.all (sees.1.exact exact) in
      ap (λ (seen : Seen). has_open_point seen fence) final ∙ none_open fence sees.0 sees.1.all sees.2

  in_turn : (fence : Fence) (token : Token) → SeesSignalled home before after fence → has_older scene state.run token ≡ false
      → (has_open_point (final_values scene state.run) fence || has_older scene state.run token) ≡ false
  in_turn fence token sees none = λ i. closed fence sees i || none i

  module _ (first : TellsFirst scene (run_of ofs home before) old before) where
    by_held : (name : ℕ) (o : Option (Holding B)) → held_in old.parts name ≡ o → DrawsHeld home before after o
        → draw_waits scene state.run (option_map token_of o) (undrawn_fence (option_map token_of o)) ≡ false
    by_held name (Some (holding.Lends lease)) here draws = by_work lease.work refl draws
      where
        by_work : (w : Work) → lease.work ≡ w → DrawsIn home before after lease.fence w → draw_waits scene state.run (Some (token_with lease w)) (undrawn_fence (Some (token_with lease w))) ≡ false
        by_work (work.Fresh turn) same draws =
            in_turn lease.fence (token_with lease (work.Fresh turn)) draws.0
            (ap (λ (w : Work). has_older scene state.run (token_with lease w)) (sym same)
            ∙ first.none name (holding.Lends lease) after.turns here
            (subst (λ (w : Work). MayEnter (turn_by (turn_of w)).0 (turn_by (turn_of w)).1 before.turns after.turns) (sym same) draws.1))
        by_work (work.Drawn inside pixels) same draws = refl
    by_held name (Some (holding.Owes owing held)) here draws =
        in_turn owing.fence (token_of {B = B} (holding.Owes owing held)) draws.0 (first.none name (holding.Owes owing held) draws.1.0 here draws.1.1)
    by_held name other here draws = absurd draws

    pub draws_now : DrawsInTime scene state old.script does.done.step
    draws_now = by_step does.done.step refl
      where
        by_step : (s : Step) → does.done.step ≡ s → DrawsInTime scene state old.script s
        by_step (step.Draw name picture) is = λ unrefused.
            let keeps = All-contains (λ (of : ActorOf B). Keeps (picture_at scene.pictures) home of before) ofs old was.actors.keep there in
            let named : name_in (holdings_at_end state.run old.script) name ≡ option_map token_of (held_in old.parts name) =
            ap (λ (t : List Done). name_in (past_after t).holdings name) traced
            ∙ (ap (λ (h : Holdings). name_in h name) (sym keeps.kept.has) ∙ get_or-map (option_map token_of) old.parts.names name None) in
            subst (λ (o : Option Token). draw_waits scene state.run o (undrawn_fence o) ≡ false) (sym named)
            (by_held name (held_in old.parts name) refl (does.entered name picture is (answered_zero name picture is unrefused)))
        by_step s is = tt

  -- so it is the actor's next transition of the play
  pub desk_transition : TellsFirst scene (run_of ofs home before) old before
      → actor_transition scene number state ≡ record { events = event.Reply (reply_shown reply) ∷ []; state = record state { run = run_of (set ofs place new) home after; arrivals = arrivals_of after } }
  desk_transition first =
      transition_is scene state old.script does.done (run_of (set ofs place new) home after) since does_one_more script_found
      (in_time scene state old.script does.done (run_of (set ofs place new) home after) since does_one_more (draws_now first))
      ∙ (λ i. record { events = event.Reply (reply_shown (reply_is i)) ∷ []; state = record state { run = run_of (set ofs place new) home after; arrivals = arrivals_are i } })

-- a release by the compositor is a call that is made now
module _ {B : Type 0} (scene : SceneValue) (ofs : List (ActorOf B)) (home : DeskHome) (before after : DeskView B)
    (marks : All (λ (queue : QueueDecl). mark_among home.marks queue.number ≡ mark_declared queue) scene.queues) where
  pub desk_release : (queue vsync : ℕ) (lease : ReadLeaseOf) (fence : Fence) (reply : QReply B) (one : Released) → home.is_exact ≡ true → has_queue scene.queues queue ≡ true → lease.queue.0 ≡ queue → one.on.lease ≡ frame_of lease → one.on.fence ≡ fence
      → MadeCall home before after 0 queue (vsync, call.Release lease fence) reply → run_of ofs home after ≡ with_call scene 0 vsync (run_of ofs home before) (release_asked one)
  unfolding told
  desk_release queue vsync lease fence reply one exact declared own leased fenced made =
      λ i. record { trace = trace_among ofs; calls = λ n. calls_on n i }
    where
      asked : ℕ
      asked = one.on.lease.0.0

      on_queue : asked ≡ queue
      on_queue = ap (λ (f : FrameOf). f.0.0) leased ∙ own

      newest : after.calls queue ≡ entry 0 (vsync, call.Release lease fence) reply ∷ before.calls queue
      newest = made.newest ∙ ap (λ (ms : List (Made B)). entry 0 (vsync, call.Release lease fence) reply ∷ ms) (made.alone exact)

      mark : QueueMark
      mark = mark_among home.marks queue

      earlier : List Entry
      earlier = told mark (before.calls queue)

      by_declared : (q : QueueDecl) → find (λ (o : QueueDecl). o.number == asked) scene.queues ≡ Some q → q.number ≡ queue → mark ≡ mark_declared q
          → told_on home after queue ≡ record { caller = record { 0 = 0 }; step = vsync; call = (release_asked one).1; reply = reply_now scene (run_of ofs home before) 0 (release_asked one) } ∷ earlier
      by_declared q found number marked =
          let plain_call : told_call {B = B} mark.queue (call.Release lease fence) ≡ (release_asked one).1 =
          (λ i. plain.Release (released_token mark.queue lease (own ∙ (sym number ∙ sym (ap (λ (m : QueueMark). m.queue.0) marked))) i) fence)
          ∙ (λ i. plain.Release (sym leased i).1 (sym fenced i)) in
          let now : reply_now scene (run_of ofs home before) 0 (release_asked one) ≡ reply_after q.width q.height (told_on home before q.number) (record { 0 = 0 }) (release_asked one).1 =
          ap (λ o. option_map_or (reply_on (run_of ofs home before) 0 (release_asked one)) o reply'.Done) found in
          let replied : reply_after mark.width mark.height earlier (record { 0 = 0 }) (told_call {B = B} mark.queue (call.Release lease fence)) ≡ reply_after q.width q.height (told_on home before q.number) (record { 0 = 0 }) (release_asked one).1 =
          (λ i. reply_after (marked i).width (marked i).height (told_on home before (sym number i)) (record { 0 = 0 }) (plain_call i)) in
          ap (told mark) newest
          ∙ (λ i. record { caller = record { 0 = 0 }; step = vsync; call = plain_call i; reply = (replied ∙ sym now) i } ∷ earlier)

      one_declared : told_on home after queue ≡ record { caller = record { 0 = 0 }; step = vsync; call = (release_asked one).1; reply = reply_now scene (run_of ofs home before) 0 (release_asked one) } ∷ earlier
      one_declared =
          let some = one_passes (λ (o : QueueDecl). o.number == queue) scene.queues declared in
          let found = has_found (λ (o : QueueDecl). o.number == queue) scene.queues some.0 some.1 some.2 in
          let number = eqb-true found.one.number queue found.passes in
          let marked = All-contains (λ (o : QueueDecl). mark_among home.marks o.number ≡ mark_declared o) scene.queues found.one marks found.there in
          by_declared found.one (ap (λ n. find (λ (o : QueueDecl). o.number == n) scene.queues) on_queue ∙ found.found) number
          (ap (mark_among home.marks) (sym number) ∙ marked)

      calls_on : (n : ℕ) → told_on home after n ≡ (with_call scene 0 vsync (run_of ofs home before) (release_asked one)).calls n
      calls_on n = by_queue (cases_eq n asked)
        where
          by_queue : (n ≡ asked) ⊎ (n ≡ asked → ⊥) → told_on home after n ≡ (with_call scene 0 vsync (run_of ofs home before) (release_asked one)).calls n
          by_queue (inl same) =
              rw (eq-eqb n asked same) (ap (told_on home after) (same ∙ on_queue) ∙ (one_declared
              ∙ ap (λ (es : List Entry). record { caller = record { 0 = 0 }; step = vsync; call = (release_asked one).1; reply = reply_now scene (run_of ofs home before) 0 (release_asked one) } ∷ es) (ap (told_on home before) (sym on_queue))))
          by_queue (inr apart) = rw (ne_eqb n asked apart) (ap (told (mark_among home.marks n)) (made.changes.others n (λ e. apart (e ∙ sym on_queue))))

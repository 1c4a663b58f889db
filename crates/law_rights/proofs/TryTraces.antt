-- What a try wrote, as its actor's trace tells.
use Rattle.std.proofs.Common.{◌≡◌, ℕ, ◌+◌, ◌==◌, true, List, [], ◌∷◌, ◌++◌, arith, ap, ◌∙◌, sym, refl, inl, inr, subst, length, map, get_or, Option, Some, None}
use Rattle.std.specs.Prelude.{All, slice_get, take}
use Rattle.std.specs.List.{AllZip, flat_map}
use Rattle.std.specs.Option.{option_map}
use Rattle.std.proofs.lemmas.Bool.{cases_Bool, eq-eqb, false≢true}
use Rattle.std.proofs.lemmas.List.{append-nil, map-append}
use Rattle.std.proofs.lemmas.List.Concat.{flat_map-append}
use Rattle.std.proofs.lemmas.List.Elements.{All-head, All-tail, filter-append}
use Rattle.sf_base.specs.declared.fences.Seen.{Seen}
use Rattle.sf_actor_set.specs.sf_calls.Histories.{entry}
use Rattle.sf_actor_set.specs.sf_picture.declared.picture.Picture.{Picture}
use Rattle.sf_actor_set.specs.sf_script_scene.declared.step.ActorScript.{ActorScript}
use Rattle.sf_actor_set.specs.sf_script_scene.declared.step.Step.{Step}
use Rattle.sf_actor_set.specs.sf_script_scene.declared.step.Step.TheVariants as step
use Rattle.sf_slots.specs.declared.calls.Entry.{Entry}
use Rattle.sf_slots.specs.declared.calls.PlainReply.{PlainReply}
use Rattle.sf_actor_set.specs.sf_surface.declared.call.QCall.{QCall}
use Rattle.sf_actor_set.specs.sf_surface.declared.call.QReply.{QReply}
use Rattle.sf_actor_set.specs.sf_surface.declared.mark.QueueMark.{QueueMark}
use Rattle.sf_actor_set.specs.sf_surface.Histories.{Made, told_reply}
use Rattle.sf_actor_set.specs.sf_surface.Calls.{may_wait, write_token}
use Rattle.sf_base.specs.declared.status.QStatus.{QStatus}
use Rattle.sf_slots.specs.declared.calls.WriteToken.{WriteToken}
use Rattle.sf_base.specs.Fences.{Fence}
use Rattle.sf_base.specs.declared.ids.QueueId.{QueueId}
use Rattle.sf_actor_set.specs.sf_actor_steps.declared.asking.Asking.{Asking}
use Rattle.sf_actor_set.specs.sf_surface.Tokens.{WriteLeaseOf}
use Rattle.sf_actor_set.specs.sf_turns.Views.{SeatView}
use Rattle.sf_actor_set.specs.sf_actor.declared.done.Answered.{Answered}
use Rattle.sf_actor_set.specs.sf_actor.declared.done.Answered.TheVariants as answered
use Rattle.sf_actor_set.specs.sf_actor.declared.done.Done.{Done}
use Rattle.sf_actor_set.specs.sf_actor.declared.holding.Holding.{Holding}
use Rattle.sf_actor_set.specs.sf_actor.declared.holding.Holding.TheVariants as holding
use Rattle.sf_actor_set.specs.sf_actor.declared.tried.Reply.{Reply}
use Rattle.sf_actor_set.specs.sf_actor.declared.tried.Stepped.{Stepped}
use Rattle.sf_actor_set.specs.sf_actor.declared.tried.Stepped.TheVariants as stepped
use Rattle.sf_actor_set.specs.sf_actor.Asking.{Asked, call_of, queueing_of}
use Rattle.sf_actor_set.specs.sf_actor.Desks.{DeskHome, DeskView, known_of, mark_among}
use Rattle.sf_actor_set.specs.sf_actor.Known.{Call, call_after, own_calls, share_of, told_by}
use Rattle.sf_actor_set.specs.sf_actor.Names.{Holdings, Lent}
use Rattle.sf_actor_set.specs.sf_actor.Holdings.{HoldingsOf, drawn_picture, plain_of, token_of}
use Rattle.sf_actor_set.specs.sf_actor.Rights.{Turn}
use Rattle.sf_actor_set.specs.sf_actor.Steps.{used_by, was_done}
use Rattle.sf_actor_set.specs.sf_actor.Scripts.{fence_of}
use Rattle.sf_actor_set.specs.sf_actor.ScriptTraces.{IsMade, made_on, step_done}
use Rattle.sf_actor_set.specs.sf_actor.Tests.{refusal_of}
use Rattle.sf_actor_set.specs.sf_actor.Traces.{AnswersCall, AnswersTests, DoneAt, IsAnswered, MadeStep, Past, made_at, made_by, overtaken, own_call, past_after, places_of, source_in}
use Rattle.sf_actor_set.specs.sf_actor.Tries.{ActorOf, DoesStep, Keeps, Tries, ended_by, held_in, next_step, owed_turn}
use Rattle.sf_actor_set.specs.sf_actor.Written as written
use Rattle.sf_actor_set.specs.sf_actor_steps.declared.bindings.Bindings.{Bindings}
use Rattle.sf_actor_set.specs.sf_actor_steps.declared.tried.Tried.{Tried}
use Rattle.sf_actor_set.specs.sf_actor_steps.declared.tried.Tried.TheVariants as tried
use Rattle.sf_actor_set.specs.sf_actor_steps.Actors.{parts_of}
use Rattle.sf_actor_set.specs.sf_actor_steps.Doing.{MakesCall}
use Rattle.sf_actor_set.specs.sf_actor_steps.Drawing.{Draws, DrawsHolding, WaitsToDraw}
use Rattle.sf_actor_set.specs.sf_actor_steps.Bindings.{holdings_of}
use Rattle.sf_actor_set.proofs.sf_actor_steps_lemmas.HoldingLemmas.{name_in-held}
use Rattle.law_rights.specs.States.{CallsOnce, State}
use Rattle.law_rights.specs.Tries.{WritesTry}
use Rattle.law_rights.proofs.Draws.{draw_waits, draw_writes}
use Rattle.law_rights.proofs.StepMoves.{at_end, places_with, written_with}

-- what is said step by step
each_with : {A : Type 0} (f : DoneAt → List A) (trace : List Done) (done : Done) → flat_map f (places_of (trace ++ done ∷ [])) ≡ flat_map f (places_of trace) ++ f (at_end trace done)
each_with f trace done =
    ap (flat_map f) (places_with trace done)
    ∙ flat_map-append f (places_of trace) (at_end trace done ∷ [])
    ∙ ap (λ (rest : List _). flat_map f (places_of trace) ++ rest) (append-nil (f (at_end trace done)))

-- the last of all has what all have
last_has : {X : Type 0} (P : X → Type 0) (xs : List X) (x : X) → All P (xs ++ x ∷ []) → P x
last_has P [] x all = All-head P x [] all
last_has P (y ∷ ys) x all = last_has P ys x (All-tail P y (ys ++ x ∷ []) all)

-- a step behind the first ones of a script is the next one of it
pub step_is_next : (trace : List Done) (done : Done) (steps : List Step) → map step_done (trace ++ done ∷ []) ≡ take (length (trace ++ done ∷ [])) steps → slice_get steps (length trace) ≡ Some done.step
step_is_next [] done [] e = absurd (cc e)
step_is_next [] done (s ∷ steps) e = (let same : s ≡ done.step = cc in ap (λ (x : Step). Some x) same)
step_is_next (d ∷ trace) done [] e = absurd (cc e)
step_is_next (d ∷ trace) done (s ∷ steps) e = step_is_next trace done steps (let rest : map step_done (trace ++ done ∷ []) ≡ take (length (trace ++ done ∷ [])) steps = cc in rest)

-- partners behind partners
zip_later : {X Y : Type 0} (R : X → Y → Type 0) (xs us : List X) (ys vs : List Y) → AllZip R xs ys → AllZip R (xs ++ us) (ys ++ vs) → AllZip R us vs
zip_later R [] us [] vs zip all = all
zip_later R [] us (y ∷ ys) vs zip all = absurd zip
zip_later R (x ∷ xs) us [] vs zip all = absurd zip
zip_later R (x ∷ xs) us (y ∷ ys) vs zip all = zip_later R xs us ys vs zip.1 all.1

own_newest : {B : Type 0} (by : ℕ) (mark : QueueMark) (asked : ℕ × QCall B) (reply : QReply B) (earlier : List (Made B)) → own_calls by mark (entry by asked reply ∷ earlier) ≡ own_calls by mark earlier ++ call_after mark earlier (entry by asked reply) ∷ []
own_newest by mark asked reply earlier = rw (eq-eqb by by refl) refl

same_some : {A : Type 0} (x y : A) → Some x ≡ Some y → x ≡ y
same_some x y same = cc

pub not_none : {A : Type 0} (x : A) → Some x ≡ None → ⊥
not_none x same = absurd (cc same)

longer : {A : Type 0} (x : A) (xs : List A) → x ∷ xs ≡ xs → ⊥
longer x xs same = let e = ap length same in omega (arith, e)

ends_longer : {A : Type 0} (x : A) (xs : List A) → xs ++ x ∷ [] ≡ xs → ⊥
ends_longer x [] same = absurd (cc same)
ends_longer x (y ∷ xs) same = ends_longer x xs (let rest : xs ++ x ∷ [] ≡ xs = cc in rest)

-- one call that a step made is the newest one, where it is on this queue
the_made : (queue : ℕ) (made : MadeStep) (last : Entry) → AllZip IsMade (made_on queue (made ∷ [])) (last ∷ []) → IsMade made last
the_made queue made last zip = elim (cases_Bool (made.asked.0.0 == queue)) [
  | inl met ↦ (rw met at zip).0
  | inr unmet ↦ absurd (rw unmet at zip)
]

none_overtaken : (place : ℕ) (holdings : Holdings) (name p : ℕ) (time : Option ℕ) (crop : Option (ℕ × ℕ × ℕ × ℕ)) (points : List (ℕ × ℕ)) (answer : Answered) → overtaken place holdings (record { step = step.Queue name p time crop points; answered = answer }) ≡ []
none_overtaken place holdings name p time crop points answer = elim (cases_Bool (was_done answer)) [
  | inl met ↦ rw met refl
  | inr unmet ↦ rw unmet refl
]

module _ {B : Type 0} (pictures : ℕ → Picture) (home : DeskHome) (was is : ActorOf B) (next : Step) (before after : Bindings B) (old new : State B) where
  -- what is known of a try, as its actor's trace tells
  pub record Traced : Type 0 where
    pub keeps_was : Keeps pictures home was old.view
    pub keeps_is : Keeps pictures home is new.view
    pub next_is : next_step was ≡ Some next
    pub parts : was.parts ≡ parts_of before
    pub by : was.script.number ≡ before.by.0
    pub exact : home.is_exact ≡ true

  abbrev number : ℕ
  number = length was.trace + 1

  abbrev held : Holdings
  held = holdings_of before

  abbrev writes : Answered → List written.FrameNumber
  writes answer = written.written_by held next answer

  abbrev so_far : List Done → List written.FrameNumber
  so_far trace = written.written_in trace

  module _ (traced : Traced) where
    past_is : (past_after was.trace).holdings ≡ held
    past_is = sym traced.keeps_was.kept.has ∙ ap plain_of traced.parts

    module _ (reply : Reply) (does : DoesStep pictures home was old.view is new.view reply) where
      step_is : does.done.step ≡ next
      step_is =
          let script : is.script ≡ was.script = ap (λ (a : ActorOf B). a.script) does.same in
          let is_next = step_is_next was.trace does.done is.script.steps (subst (λ (t : List Done). map step_done t ≡ take (length t) is.script.steps) does.trace traced.keeps_is.kept.kept.is.first) in
          same_some does.done.step next (sym is_next ∙ ap (λ (s : ActorScript). slice_get s.steps (length was.trace)) script ∙ traced.next_is)

      done_is : does.done ≡ record { step = next; answered = does.done.answered }
      done_is = λ i. record { step = step_is i; answered = does.done.answered }

      does_write : so_far is.trace ≡ so_far was.trace ++ writes does.done.answered
      does_write =
          ap written.written_in does.trace
          ∙ written_with was.trace does.done
          ∙ ap (λ (h : Holdings). so_far was.trace ++ written.written_by h does.done.step does.done.answered) past_is
          ∙ ap (λ (s : Step). so_far was.trace ++ written.written_by held s does.done.answered) step_is

      abbrev reached : Seen
      reached = (share_of is.script.number (known_of home new.view)).values

      answers : AnswersTests pictures reached (past_after was.trace) next does.done.answered (refusal_of pictures held next)
      answers =
          let all = subst (λ (t : List Done). All (IsAnswered pictures reached) (places_of t)) does.trace traced.keeps_is.kept.kept.is.answered in
          let last = last_has (IsAnswered pictures reached) (places_of was.trace) (at_end was.trace does.done)
          (subst (λ (ps : List DoneAt). All (IsAnswered pictures reached) ps) (places_with was.trace does.done) all) in
          let step = subst (λ (d : Done). IsAnswered pictures reached (at_end was.trace d)) done_is last in
          subst (λ (h : Holdings). AnswersTests pictures reached (past_after was.trace) next does.done.answered (refusal_of pictures h next)) past_is step

    -- a trace that did not go on
    same_writes : is ≡ was → so_far is.trace ≡ so_far was.trace
    same_writes same = ap (λ (a : ActorOf B). so_far a.trace) same

    abbrev Goal : Tried → Type 0
    Goal came = WritesTry home before.by.0 number next held old new was.trace is.trace came

    -- a step that writes nothing, whatever it is answered
    pub silent : ((answer : Answered) → writes answer ≡ []) → (st : Stepped) → Tries pictures home was old.view is new.view st → (came : Tried) → Goal came
    silent none st tries came = by_came came
      where
        same : (st : Stepped) → Tries pictures home was old.view is new.view st → so_far is.trace ≡ so_far was.trace
        same stepped.Done tries = does_write tries.0 tries.1 ∙ ap (λ xs. so_far was.trace ++ xs) (none tries.1.done.answered) ∙ append-nil (so_far was.trace)
        same stepped.NotYet tries = same_writes tries.same
        same stepped.Ended tries = same_writes tries.0

        more : (answer : Answered) → so_far is.trace ≡ so_far was.trace ++ writes answer
        more answer = same st tries ∙ sym (ap (λ xs. so_far was.trace ++ xs) (none answer) ∙ append-nil (so_far was.trace))

        by_came : (came : Tried) → Goal came
        by_came tried.NotYet = same st tries
        by_came (tried.Own status) = (answered.Own status, more (answered.Own status), refl)
        by_came (tried.Sent n) = (answered.Sent n, more (answered.Sent n), refl)
        by_came (tried.Called status values) = (answered.Own 0, more (answered.Own 0), λ queue asked reply once. none (answered.Own 0) ∙ sym (none (answered.Called (told_reply (mark_among home.marks queue) (old.view.calls queue) before.by.0 asked))))

    -- a step that a test of its own refuses
    pub refused : (status : ℕ) → refusal_of pictures held next ≡ Some status → (st : Stepped) → Tries pictures home was old.view is new.view st → (came : Tried) → came ≡ tried.Own status → Goal came
    refused status met stepped.Done tries came own = subst Goal (sym own) (
      answered.Own status,
      does_write tries.0 tries.1 ∙ ap (λ (a : Answered). so_far was.trace ++ writes a)
          (subst (λ (o : Option ℕ). AnswersTests pictures (reached tries.0 tries.1) (past_after was.trace) next tries.1.done.answered o) met (answers tries.0 tries.1)),
      refl,
    )
    refused status met stepped.NotYet tries came own =
        let same : tries.next ≡ next = same_some tries.next next (sym tries.step ∙ traced.next_is) in
        absurd (not_none status (sym met ∙ sym (ap (λ (h : Holdings). refusal_of pictures h tries.next) past_is ∙ ap (refusal_of pictures held) same) ∙ tries.unrefused))
    refused status met stepped.Ended tries came own = absurd (not_none next (sym traced.next_is ∙ tries.2))

    -- where no test refuses
    pub unrefused : (reply : Reply) (does : DoesStep pictures home was old.view is new.view reply) → refusal_of pictures held next ≡ None → AnswersTests pictures (reached reply does) (past_after was.trace) next does.done.answered None
    unrefused reply does none = subst (λ (o : Option ℕ). AnswersTests pictures (reached reply does) (past_after was.trace) next does.done.answered o) none (answers reply does)

module _ {B : Type 0} (pictures : ℕ → Picture) (home : DeskHome) (was is : ActorOf B) (name p : ℕ) (before after : Bindings B) (old new : State B) (traced : Traced pictures home was is (step.Draw name p) before after old new) where
  abbrev DrawGoal : Tried → Type 0
  DrawGoal came = WritesTry home before.by.0 (length was.trace + 1) (step.Draw name p) (holdings_of before) old new was.trace is.trace came

  -- a draw that is done is answered with 0
  drawn : (reply : Reply) (does : DoesStep pictures home was old.view is new.view reply) → refusal_of pictures (holdings_of before) (step.Draw name p) ≡ None
      → (does.done.answered ≡ answered.Own 0) × (written.written_in is.trace ≡ written.written_in was.trace ++ written.written_by (holdings_of before) (step.Draw name p) (answered.Own 0))
  drawn reply does none =
      let told = (unrefused pictures home was is (step.Draw name p) before after old new traced reply does none).1 in
      (told, does_write pictures home was is (step.Draw name p) before after old new traced reply does ∙ ap (λ (a : Answered). written.written_in was.trace ++ written.written_by (holdings_of before) (step.Draw name p) a) told)

  -- what left with it
  drawn_left : (held : Holding B) (reply : Reply) (does : DoesStep pictures home was old.view is new.view reply) → refusal_of pictures (holdings_of before) (step.Draw name p) ≡ None
      → get_or before.names name None ≡ Some held → new.view.turns.leaves ≡ old.view.turns.leaves ++ owed_turn (Some held)
  drawn_left held reply does none there =
      let told = (drawn reply does none).0 in
      let done : does.done ≡ record { step = step.Draw name p; answered = answered.Own 0 } =
      done_is pictures home was is (step.Draw name p) before after old new traced reply does ∙ ap (λ (a : Answered). record { step = step.Draw name p; answered = a }) told in
      does.ended ∙ ap (λ (d : Done). old.view.turns.leaves ++ ended_by was.parts d) done
      ∙ ap (λ (o : Option (Holding B)). old.view.turns.leaves ++ owed_turn o) (ap (λ (parts : HoldingsOf B). held_in parts name) traced.parts ∙ there)

  lease_writes : (lease : WriteLeaseOf) → get_or before.names name None ≡ Some (holding.Lends lease) → written.written_by (holdings_of before) (step.Draw name p) (answered.Own 0) ≡ []
  lease_writes lease there = draw_writes before name p (holding.Lends lease) there

  -- it waits, but it was done
  waited : (held : Holding B) (reply : Reply) (does : DoesStep pictures home was old.view is new.view reply) → refusal_of pictures (holdings_of before) (step.Draw name p) ≡ None
      → get_or before.names name None ≡ Some held → new.view.turns.leaves ≡ old.view.turns.leaves → (seen : Seen) (from : SeatView) → WaitsToDraw (pictures p) seen held from new.view.turns
      → written.written_in is.trace ≡ written.written_in was.trace
  waited (holding.Lends lease) reply does none there same seen from waits =
      (drawn reply does none).1 ∙ ap (λ xs. written.written_in was.trace ++ xs) (lease_writes lease there) ∙ append-nil (written.written_in was.trace)
  waited (holding.Owes owing held) reply does none there same seen from waits =
      absurd (ends_longer (owing.turn.buffer, owing.turn.number) old.view.turns.leaves (sym (drawn_left (holding.Owes owing held) reply does none there) ∙ same))
  waited (holding.Reads lease) reply does none there same seen from waits = absurd waits
  waited (holding.Frees queue loose) reply does none there same seen from waits = absurd waits

  -- it drew, but it was not done
  undone : (held : Holding B) (left : Option (Holding B)) → get_or before.names name None ≡ Some held → new.view.turns.leaves ≡ old.view.turns.leaves → (seen : Seen) (from : SeatView) → from.leaves ≡ old.view.turns.leaves
      → DrawsHolding (pictures p) seen held left from new.view.turns → written.written_by (holdings_of before) (step.Draw name p) (answered.Own 0) ≡ []
  undone (holding.Lends lease) left there same seen from looked draws = lease_writes lease there
  undone (holding.Owes owing held) left there same seen from looked draws =
      let passes = draws.0.2 in
      let entered : passes.0.leaves ≡ from.leaves = ap (λ (v : SeatView). v.leaves) passes.1.1.0 in
      let ended : new.view.turns.leaves ≡ passes.0.leaves ++ (owing.turn.buffer, owing.turn.number) ∷ [] = ap (λ (v : SeatView). v.leaves) passes.2.1 in
      absurd (ends_longer (owing.turn.buffer, owing.turn.number) old.view.turns.leaves
      (sym (ended ∙ ap (λ (xs : List Turn). xs ++ (owing.turn.buffer, owing.turn.number) ∷ []) (entered ∙ looked)) ∙ same))
  undone (holding.Reads lease) left there same seen from looked draws = absurd draws
  undone (holding.Frees queue loose) left there same seen from looked draws = absurd draws

  pub draw_traced : (came : Tried) (st : Stepped) → Tries pictures home was old.view is new.view st → refusal_of pictures (holdings_of before) (step.Draw name p) ≡ None → Draws home name (pictures p) before after old.view new.view came → DrawGoal came
  draw_traced (tried.Called status values) st tries none draws = absurd draws.tries
  draw_traced (tried.Sent number) st tries none draws = absurd draws.tries
  draw_traced came stepped.Ended tries none draws = absurd (not_none (step.Draw name p) (sym traced.next_is ∙ tries.2))
  draw_traced (tried.Own status) stepped.Done tries none draws =
      subst (λ (n : ℕ). DrawGoal (tried.Own n)) (sym draws.tries.0) (answered.Own 0, (drawn tries.0 tries.1 none).1, refl)
  draw_traced (tried.Own status) stepped.NotYet tries none draws =
      let nothing = undone draws.held draws.tries.1 draws.there tries.left draws.seen draws.looked.turns (ap (λ (view : DeskView B). view.turns.leaves) draws.times) draws.tries.2 in
      subst (λ (n : ℕ). DrawGoal (tried.Own n)) (sym draws.tries.0)
      (answered.Own 0, same_writes pictures home was is (step.Draw name p) before after old new traced tries.same ∙ sym (ap (λ xs. written.written_in was.trace ++ xs) nothing ∙ append-nil (written.written_in was.trace)), refl)
  draw_traced tried.NotYet stepped.NotYet tries none draws = same_writes pictures home was is (step.Draw name p) before after old new traced tries.same
  draw_traced tried.NotYet stepped.Done tries none draws =
      waited draws.held tries.0 tries.1 none draws.there
      (draw_waits (pictures p) draws.seen draws.held draws.looked.turns new.view.turns draws.tries.0 ∙ ap (λ (view : DeskView B). view.turns.leaves) draws.times)
      draws.seen draws.looked.turns draws.tries.0

called_as : (o : Option Asked) (asked : Asked) (answer : Answered) → o ≡ Some asked → AnswersCall o None answer → (told : PlainReply) × (answer ≡ answered.Called told)
called_as (Some other) asked answer same answers = (answers.0, answers.1)
called_as None asked answer same answers = absurd (not_none asked (sym same))

lent_call : (picture : Picture) (time : Option ℕ) (part : Option (ℕ × ℕ × ℕ × ℕ)) (fence : Fence) (queue : QueueId) (token : WriteToken) (drawn : Option ℕ) → (asked : Asked) × (queueing_of picture time part fence (Some (Lent queue token drawn)) ≡ Some asked)
lent_call picture time part fence queue token drawn = (_, refl)

module _ {B : Type 0} (pictures : ℕ → Picture) (home : DeskHome) (was is : ActorOf B) (name p : ℕ) (time : Option ℕ) (part : Option (ℕ × ℕ × ℕ × ℕ)) (points : List (ℕ × ℕ)) (before after : Bindings B) (old new : State B)
    (traced : Traced pictures home was is (step.Queue name p time part points) before after old new) where
  abbrev asks : Step
  asks = step.Queue name p time part points

  abbrev QueueGoal : Tried → Type 0
  QueueGoal came = WritesTry home before.by.0 (length was.trace + 1) asks (holdings_of before) old new was.trace is.trace came

  module _ (reply : Reply) (does : DoesStep pictures home was old.view is new.view reply) (lease : WriteLeaseOf) (there : get_or before.names name None ≡ Some (holding.Lends lease)) (none : refusal_of pictures (holdings_of before) asks ≡ None) where
    abbrev past : Past
    past = past_after was.trace

    asked : (asked : Asked) × (call_of pictures past.holdings asks ≡ Some asked)
    asked =
        let call = lent_call (pictures p) time part (fence_of points) lease.queue (write_token lease.queue lease) (drawn_picture lease.work) in (
          call.0,
          ap (λ (h : Holdings). call_of pictures h asks) (past_is pictures home was is asks before after old new traced)
              ∙ ap (queueing_of (pictures p) time part (fence_of points)) (name_in-held before name ∙ ap (option_map token_of) there) ∙ call.1,
        )

    told : (told : PlainReply) × (does.done.answered ≡ answered.Called told)
    told = called_as (call_of pictures past.holdings asks) asked.0 does.done.answered asked.1 (unrefused pictures home was is asks before after old new traced reply does none).1

    abbrev made : MadeStep
    made = record { step = length was.trace + 1; asked = asked.0; told = Some told.0; brings = source_in past.since (used_by asks) }

    made_is : made_at pictures (at_end was.trace does.done) ≡ made ∷ []
    made_is =
        let done : Done = record { step = asks; answered = answered.Called told.0 } in
        ap (λ (d : Done). made_at pictures (at_end was.trace d)) (done_is pictures home was is asks before after old new traced reply does ∙ ap (λ (a : Answered). record { step = asks; answered = a }) told.1)
        ∙ ap (λ (o : Option Asked). own_call (length was.trace + 1) o (answered.Called told.0) (source_in past.since (used_by asks)) ++ overtaken (length was.trace + 1) past.holdings done) asked.1
        ∙ ap (λ (xs : List MadeStep). made ∷ xs) (none_overtaken (length was.trace + 1) past.holdings name p time part points (answered.Called told.0))

    same_told : (queue : ℕ) (asking : QCall B) (answer : QReply B) → CallsOnce home.marks old.view.calls new.view.calls before.by.0 queue (length was.trace + 1) asking answer → told.0 ≡ told_reply (mark_among home.marks queue) (old.view.calls queue) before.by.0 asking
    same_told queue asking answer once = (the_made queue made (told_by last) last_made).reply
      where
        last : Call B
        last = call_after (mark_among home.marks queue) (old.view.calls queue) (entry before.by.0 (length was.trace + 1, asking) answer)

        same_number : is.script.number ≡ before.by.0
        same_number = ap (λ (a : ActorOf B). a.script.number) does.same ∙ traced.by

        own_old : AllZip IsMade (made_on queue (made_by pictures was.trace)) (map told_by (own_calls before.by.0 (mark_among home.marks queue) (old.view.calls queue)))
        own_old = subst (λ (n : ℕ). AllZip IsMade (made_on queue (made_by pictures was.trace)) (map told_by (own_calls n (mark_among home.marks queue) (old.view.calls queue)))) traced.by (traced.keeps_was.kept.kept.is.made queue)

        own_new : AllZip IsMade (made_on queue (made_by pictures is.trace)) (map told_by (own_calls before.by.0 (mark_among home.marks queue) (new.view.calls queue)))
        own_new = subst (λ (n : ℕ). AllZip IsMade (made_on queue (made_by pictures is.trace)) (map told_by (own_calls n (mark_among home.marks queue) (new.view.calls queue)))) same_number (traced.keeps_is.kept.kept.is.made queue)

        calls_are : map told_by (own_calls before.by.0 (mark_among home.marks queue) (new.view.calls queue)) ≡ map told_by (own_calls before.by.0 (mark_among home.marks queue) (old.view.calls queue)) ++ told_by last ∷ []
        calls_are =
            ap (λ (calls : List (Made B)). map told_by (own_calls before.by.0 (mark_among home.marks queue) calls)) once.newest
            ∙ ap (map told_by) (own_newest before.by.0 (mark_among home.marks queue) (length was.trace + 1, asking) answer (old.view.calls queue))
            ∙ map-append told_by (own_calls before.by.0 (mark_among home.marks queue) (old.view.calls queue)) (last ∷ [])

        steps_are : made_on queue (made_by pictures is.trace) ≡ made_on queue (made_by pictures was.trace) ++ made_on queue (made ∷ [])
        steps_are =
            ap (λ (t : List Done). made_on queue (made_by pictures t)) does.trace
            ∙ ap (made_on queue) (each_with (made_at pictures) was.trace does.done)
            ∙ filter-append (λ (m : MadeStep). m.asked.0.0 == queue) (made_by pictures was.trace) (made_at pictures (at_end was.trace does.done))
            ∙ ap (λ (xs : List MadeStep). made_on queue (made_by pictures was.trace) ++ made_on queue xs) made_is

        last_made : AllZip IsMade (made_on queue (made ∷ [])) (told_by last ∷ [])
        last_made = zip_later IsMade (made_on queue (made_by pictures was.trace)) (made_on queue (made ∷ [])) (map told_by (own_calls before.by.0 (mark_among home.marks queue) (old.view.calls queue))) (told_by last ∷ []) own_old
            (subst (λ (ms : List MadeStep). AllZip IsMade ms (map told_by (own_calls before.by.0 (mark_among home.marks queue) (old.view.calls queue)) ++ told_by last ∷ [])) steps_are
            (subst (λ (es : List Entry). AllZip IsMade (made_on queue (made_by pictures is.trace)) es) calls_are own_new))

    called : (status : QStatus) (values : List ℕ) → QueueGoal (tried.Called status values)
    called status values = (
      answered.Called told.0,
      does_write pictures home was is asks before after old new traced reply does ∙ ap (λ (a : Answered). written.written_in was.trace ++ written.written_by (holdings_of before) asks a) told.1,
      λ queue asking answer once. ap (λ (t : PlainReply). written.written_by (holdings_of before) asks (answered.Called t)) (same_told queue asking answer once),
    )

  pub queue_traced : (came : Tried) (st : Stepped) → Tries pictures home was old.view is new.view st → refusal_of pictures (holdings_of before) asks ≡ None
      → MakesCall pictures home before.by.0 (length was.trace + 1) asks before after old.view new.view came → QueueGoal came
  queue_traced (tried.Own status) st tries none makes = absurd makes.tries
  queue_traced (tried.Sent n) st tries none makes = absurd makes.tries
  queue_traced came stepped.Ended tries none makes = absurd (not_none asks (sym traced.next_is ∙ tries.2))
  queue_traced tried.NotYet st tries none makes = absurd (false≢true (sym (ap (λ (a : Asking B). may_wait a.call) makes.forms.2) ∙ makes.tries.waits.not_yet.0))
  queue_traced (tried.Called status values) stepped.NotYet tries none makes = (
    answered.Own 0,
    same_writes pictures home was is asks before after old new traced tries.same ∙ sym (append-nil (written.written_in was.trace)),
    λ queue asking answer once. absurd (longer (entry before.by.0 (length was.trace + 1, asking) answer) (old.view.calls queue) (sym once.newest ∙ tries.calls traced.exact queue)),
  )
  queue_traced (tried.Called status values) stepped.Done tries none makes = called tries.0 tries.1 makes.forms.0 makes.forms.1.held_there none status values

-- What a try wrote that made a call, as its actor's trace tells.
use Rattle.std.proofs.Common.{◌≡◌, ℕ, ◌+◌, ◌==◌, List, [], ◌∷◌, ◌++◌, arith, ap, ◌∙◌, sym, refl, inl, inr, subst, length, map, get_or, Option, Some, None}
use Rattle.std.specs.Prelude.{All, slice_get, take}
use Rattle.std.specs.List.{AllZip, flat_map}
use Rattle.std.specs.Option.{option_map}
use Rattle.std.proofs.lemmas.Bool.{cases_Bool, cases_eq, eq-eqb}
use Rattle.std.proofs.lemmas.List.{append-nil, map-append}
use Rattle.std.proofs.lemmas.List.Concat.{flat_map-append}
use Rattle.std.proofs.lemmas.List.Elements.{All-head, All-tail, filter-append}
use Rattle.sf_base.specs.declared.fences.Seen.{Seen}
use Rattle.law_draws.specs.sf_calls.Histories.{GoesOnWithout, entry}
use Rattle.sf_script_scene.specs.sf_picture.declared.picture.Picture.{Picture}
use Rattle.sf_script_scene.specs.declared.step.ActorScript.{ActorScript}
use Rattle.sf_script_scene.specs.declared.step.Step.{Step}
use Rattle.sf_script_scene.specs.declared.step.Step.TheVariants as step
use Rattle.law_draws.specs.sf_slots.declared.calls.Entry.{Entry}
use Rattle.law_draws.specs.sf_slots.declared.calls.PlainReply.{PlainReply}
use Rattle.law_draws.specs.sf_surface.declared.call.QCall.{QCall}
use Rattle.law_draws.specs.sf_surface.declared.call.QReply.{QReply}
use Rattle.law_draws.specs.sf_surface.declared.mark.QueueMark.{QueueMark}
use Rattle.law_draws.specs.sf_surface.Histories.{Made, told_reply}
use Rattle.law_draws.specs.sf_surface.Calls.{write_token}
use Rattle.sf_base.specs.declared.status.QStatus.{QStatus}
use Rattle.law_draws.specs.sf_slots.declared.calls.WriteToken.{WriteToken}
use Rattle.sf_base.specs.Fences.{Fence}
use Rattle.sf_base.specs.declared.ids.QueueId.{QueueId}
use Rattle.law_draws.specs.sf_surface.Tokens.{WriteLeaseOf}
use Rattle.law_draws.specs.sf_actor.declared.done.Answered.{Answered}
use Rattle.law_draws.specs.sf_actor.declared.done.Answered.TheVariants as answered
use Rattle.law_draws.specs.sf_actor.declared.done.Done.{Done}
use Rattle.law_draws.specs.sf_actor.declared.holding.Holding.TheVariants as holding
use Rattle.law_draws.specs.sf_actor.Asking.{Asked, call_of, queueing_of}
use Rattle.law_draws.specs.sf_actor.Desks.{DeskHome, DeskView, known_of, mark_among}
use Rattle.law_draws.specs.sf_actor.Known.{Call, call_after, own_calls, share_of, told_by}
use Rattle.law_draws.specs.sf_actor.Names.{Holdings, Lent}
use Rattle.law_draws.specs.sf_actor.Holdings.{drawn_picture, plain_of, token_of}
use Rattle.law_draws.specs.sf_actor.Steps.{used_by, was_done}
use Rattle.law_draws.specs.sf_actor.Scripts.{fence_of}
use Rattle.law_draws.specs.sf_actor.ScriptTraces.{IsMade, made_on, step_done}
use Rattle.law_draws.specs.sf_actor.Tests.{refusal_of}
use Rattle.law_draws.specs.sf_actor.Traces.{AnswersCall, AnswersTests, DoneAt, IsAnswered, MadeStep, Past, made_at, made_by, overtaken, own_call, past_after, places_of, source_in}
use Rattle.law_draws.specs.sf_actor.Tries.{ActorOf}
use Rattle.law_draws.specs.sf_actor.Written as written
use Rattle.law_draws.specs.sf_actor_steps.declared.bindings.Bindings.{Bindings}
use Rattle.law_draws.specs.sf_actor_steps.declared.tried.Tried.{Tried}
use Rattle.law_draws.specs.sf_actor_steps.declared.tried.Tried.TheVariants as tried
use Rattle.law_draws.specs.sf_actor_steps.Bindings.{holdings_of}
use Rattle.law_draws.proofs.sf_actor_steps_lemmas.HoldingLemmas.{name_in-held}
use Rattle.law_draws.specs.law_rights.States.{CallsOnce, State}
use Rattle.law_draws.specs.law_rights.Tries.{WritesTry}
use Rattle.law_threads.specs.Tries.{DoesTry}
use Rattle.law_draws.proofs.sf_actor_lemmas.GoingOn.{own_same}
use Rattle.law_draws.proofs.law_rights_lemmas.StepMoves.{at_end, places_with, written_with}

-- what is said step by step
each_with : {A : Type 0} (f : DoneAt → List A) (trace : List Done) (done : Done) → flat_map f (places_of (trace ++ done ∷ [])) ≡ flat_map f (places_of trace) ++ f (at_end trace done)
each_with f trace done =
    ap (flat_map f) (places_with trace done)
    ∙ flat_map-append f (places_of trace) (at_end trace done ∷ [])
    ∙ ap (λ (rest : List _). flat_map f (places_of trace) ++ rest) (append-nil (f (at_end trace done)))

-- the last of all has what all have
last_has : {X : Type 0} (P : X → Type 0) (xs : List X) (x : X) → All P (xs ++ x ∷ []) → P x
last_has P [] x all = All-head P x [] all
last_has P (y ∷ ys) x all = last_has P ys x (All-tail P y (ys ++ x ∷ []) all)

-- a step behind the first ones of a script is the next one of it
pub step_is_next : (trace : List Done) (done : Done) (steps : List Step) → map step_done (trace ++ done ∷ []) ≡ take (length (trace ++ done ∷ [])) steps → slice_get steps (length trace) ≡ Some done.step
step_is_next [] done [] e = absurd (cc e)
step_is_next [] done (s ∷ steps) e = (let same : s ≡ done.step = cc in ap (λ (x : Step). Some x) same)
step_is_next (d ∷ trace) done [] e = absurd (cc e)
step_is_next (d ∷ trace) done (s ∷ steps) e = step_is_next trace done steps (let rest : map step_done (trace ++ done ∷ []) ≡ take (length (trace ++ done ∷ [])) steps = cc in rest)

-- partners behind partners
zip_later : {X Y : Type 0} (R : X → Y → Type 0) (xs us : List X) (ys vs : List Y) → AllZip R xs ys → AllZip R (xs ++ us) (ys ++ vs) → AllZip R us vs
zip_later R [] us [] vs zip all = all
zip_later R [] us (y ∷ ys) vs zip all = absurd zip
zip_later R (x ∷ xs) us [] vs zip all = absurd zip
zip_later R (x ∷ xs) us (y ∷ ys) vs zip all = zip_later R xs us ys vs zip.1 all.1

own_newest : {B : Type 0} (by : ℕ) (mark : QueueMark) (asked : ℕ × QCall B) (reply : QReply B) (earlier : List (Made B)) → own_calls by mark (entry by asked reply ∷ earlier) ≡ own_calls by mark earlier ++ call_after mark earlier (entry by asked reply) ∷ []
own_newest by mark asked reply earlier = rw (eq-eqb by by refl) refl

same_some : {A : Type 0} (x y : A) → Some x ≡ Some y → x ≡ y
same_some x y same = cc

pub not_none : {A : Type 0} (x : A) → Some x ≡ None → ⊥
not_none x same = absurd (cc same)

longer : {A : Type 0} (x : A) (xs : List A) → x ∷ xs ≡ xs → ⊥
longer x xs same = let e = ap length same in omega (arith, e)

ends_longer : {A : Type 0} (x : A) (xs : List A) → xs ++ x ∷ [] ≡ xs → ⊥
ends_longer x [] same = absurd (cc same)
ends_longer x (y ∷ xs) same = ends_longer x xs (let rest : xs ++ x ∷ [] ≡ xs = cc in rest)

-- one call that a step made is the newest one, where it is on this queue
the_made : (queue : ℕ) (made : MadeStep) (last : Entry) → AllZip IsMade (made_on queue (made ∷ [])) (last ∷ []) → IsMade made last
the_made queue made last zip = elim (cases_Bool (made.asked.0.0 == queue)) [
  | inl met ↦ (rw met at zip).0
  | inr unmet ↦ absurd (rw unmet at zip)
]

none_overtaken : (place : ℕ) (holdings : Holdings) (name p : ℕ) (time : Option ℕ) (crop : Option (ℕ × ℕ × ℕ × ℕ)) (points : List (ℕ × ℕ)) (answer : Answered) → overtaken place holdings (record { step = step.Queue name p time crop points; answered = answer }) ≡ []
none_overtaken place holdings name p time crop points answer = elim (cases_Bool (was_done answer)) [
  | inl met ↦ rw met refl
  | inr unmet ↦ rw unmet refl
]

called_as : (o : Option Asked) (asked : Asked) (answer : Answered) → o ≡ Some asked → AnswersCall o None answer → (told : PlainReply) × (answer ≡ answered.Called told)
called_as (Some other) asked answer same answers = (answers.0, answers.1)
called_as None asked answer same answers = absurd (not_none asked (sym same))

lent_call : (picture : Picture) (time : Option ℕ) (part : Option (ℕ × ℕ × ℕ × ℕ)) (fence : Fence) (queue : QueueId) (token : WriteToken) (drawn : Option ℕ) → (asked : Asked) × (queueing_of picture time part fence (Some (Lent queue token drawn)) ≡ Some asked)
lent_call picture time part fence queue token drawn = (_, refl)

module _ {B : Type 0} (pictures : ℕ → Picture) (home : DeskHome) (was is : ActorOf B) (next : Step) (before after : Bindings B) (old new : DeskView B) (came_to : Tried)
    (tries : DoesTry pictures home was is next before after old new came_to) where
  abbrev number : ℕ
  number = length was.trace + 1

  abbrev held : Holdings
  held = holdings_of before

  abbrev writes : Answered → List written.FrameNumber
  writes answer = written.written_by held next answer

  abbrev so_far : List Done → List written.FrameNumber
  so_far trace = written.written_in trace

  past_is : (past_after was.trace).holdings ≡ held
  past_is = sym tries.keeps_was.kept.has ∙ ap plain_of tries.parts_was

  step_is : tries.does.done.step ≡ next
  step_is =
      let script : is.script ≡ was.script = ap (λ (a : ActorOf B). a.script) tries.does.same in
      let is_next = step_is_next was.trace tries.does.done is.script.steps (subst (λ (t : List Done). map step_done t ≡ take (length t) is.script.steps) tries.does.trace tries.keeps_is.kept.kept.is.first) in
      same_some tries.does.done.step next (sym is_next ∙ ap (λ (s : ActorScript). slice_get s.steps (length was.trace)) script ∙ tries.is_next)

  pub done_is : tries.does.done ≡ record { step = next; answered = tries.does.done.answered }
  done_is = λ i. record { step = step_is i; answered = tries.does.done.answered }

  pub does_write : so_far is.trace ≡ so_far was.trace ++ writes tries.does.done.answered
  does_write =
      ap written.written_in tries.does.trace
      ∙ written_with was.trace tries.does.done
      ∙ ap (λ (h : Holdings). so_far was.trace ++ written.written_by h tries.does.done.step tries.does.done.answered) past_is
      ∙ ap (λ (s : Step). so_far was.trace ++ written.written_by held s tries.does.done.answered) step_is

  abbrev reached : Seen
  reached = (share_of is.script.number (known_of home new)).values

  answers : AnswersTests pictures reached (past_after was.trace) next tries.does.done.answered (refusal_of pictures held next)
  answers =
      let all = subst (λ (t : List Done). All (IsAnswered pictures reached) (places_of t)) tries.does.trace tries.keeps_is.kept.kept.is.answered in
      let last = last_has (IsAnswered pictures reached) (places_of was.trace) (at_end was.trace tries.does.done)
      (subst (λ (ps : List DoneAt). All (IsAnswered pictures reached) ps) (places_with was.trace tries.does.done) all) in
      let step = subst (λ (d : Done). IsAnswered pictures reached (at_end was.trace d)) done_is last in
      subst (λ (h : Holdings). AnswersTests pictures reached (past_after was.trace) next tries.does.done.answered (refusal_of pictures h next)) past_is step

  -- where no test refuses
  pub unrefused : refusal_of pictures held next ≡ None → AnswersTests pictures reached (past_after was.trace) next tries.does.done.answered None
  unrefused none = subst (λ (o : Option ℕ). AnswersTests pictures reached (past_after was.trace) next tries.does.done.answered o) none answers

  -- a test of its own refuses it
  pub refused : (status : ℕ) → refusal_of pictures held next ≡ Some status → tries.does.done.answered ≡ answered.Own status
  refused status met = subst (λ (o : Option ℕ). AnswersTests pictures reached (past_after was.trace) next tries.does.done.answered o) met answers

  -- a step that writes nothing, whatever it is answered
  pub nothing_written : ((answer : Answered) → writes answer ≡ []) → so_far is.trace ≡ so_far was.trace
  nothing_written none = does_write ∙ ap (λ xs. so_far was.trace ++ xs) (none tries.does.done.answered) ∙ append-nil (so_far was.trace)

  module _ (before_state after_state : State B) where
    pub silent : ((answer : Answered) → writes answer ≡ []) → (status : QStatus) (values : List ℕ) → WritesTry home before.by.0 number next held before_state after_state was.trace is.trace (tried.Called status values)
    silent none status values = (
      answered.Own 0,
      nothing_written none ∙ sym (ap (λ xs. so_far was.trace ++ xs) (none (answered.Own 0)) ∙ append-nil (so_far was.trace)),
      λ queue asked reply once. none (answered.Own 0) ∙ sym (none (answered.Called (told_reply (mark_among home.marks queue) (before_state.view.calls queue) before.by.0 asked))),
    )

-- the calls of the one queue that a step called: after the call they are those that its actor knew then, and before it they go on from
-- those that it knew, without one of the actor
pub record CallsHere {B : Type 0} (by queue : ℕ) (old new : DeskView B) (before after : ℕ → List (Made B)) : Type 0 where
  pub new_is : after queue ≡ new.calls queue
  pub goes_on : GoesOnWithout by (old.calls queue) (before queue)
  pub others : (other : ℕ) → (other ≡ queue → ⊥) → after other ≡ before other

module _ {B : Type 0} (pictures : ℕ → Picture) (home : DeskHome) (was is : ActorOf B) (name p : ℕ) (time : Option ℕ) (part : Option (ℕ × ℕ × ℕ × ℕ)) (points : List (ℕ × ℕ)) (before after : Bindings B) (old new : DeskView B) (came_to : Tried)
    (tries : DoesTry pictures home was is (step.Queue name p time part points) before after old new came_to) (before_state after_state : State B) (place : ℕ)
    (here : CallsHere before.by.0 place old new before_state.view.calls after_state.view.calls) where
  abbrev asks : Step
  asks = step.Queue name p time part points

  module _ (lease : WriteLeaseOf) (there : get_or before.names name None ≡ Some (holding.Lends lease)) (none : refusal_of pictures (holdings_of before) asks ≡ None) where
    abbrev past : Past
    past = past_after was.trace

    asked : (asked : Asked) × (call_of pictures past.holdings asks ≡ Some asked)
    asked =
        let call = lent_call (pictures p) time part (fence_of points) lease.queue (write_token lease.queue lease) (drawn_picture lease.work) in (
          call.0,
          ap (λ (h : Holdings). call_of pictures h asks) (past_is pictures home was is asks before after old new came_to tries)
              ∙ ap (queueing_of (pictures p) time part (fence_of points)) (name_in-held before name ∙ ap (option_map token_of) there) ∙ call.1,
        )

    told : (told : PlainReply) × (tries.does.done.answered ≡ answered.Called told)
    told = called_as (call_of pictures past.holdings asks) asked.0 tries.does.done.answered asked.1 (unrefused pictures home was is asks before after old new came_to tries none).1

    abbrev made : MadeStep
    made = record { step = length was.trace + 1; asked = asked.0; told = Some told.0; brings = source_in past.since (used_by asks) }

    made_is : made_at pictures (at_end was.trace tries.does.done) ≡ made ∷ []
    made_is =
        let done : Done = record { step = asks; answered = answered.Called told.0 } in
        ap (λ (d : Done). made_at pictures (at_end was.trace d)) (done_is pictures home was is asks before after old new came_to tries ∙ ap (λ (a : Answered). record { step = asks; answered = a }) told.1)
        ∙ ap (λ (o : Option Asked). own_call (length was.trace + 1) o (answered.Called told.0) (source_in past.since (used_by asks)) ++ overtaken (length was.trace + 1) past.holdings done) asked.1
        ∙ ap (λ (xs : List MadeStep). made ∷ xs) (none_overtaken (length was.trace + 1) past.holdings name p time part points (answered.Called told.0))

    same_told : (queue : ℕ) (asking : QCall B) (answer : QReply B) → CallsOnce home.marks before_state.view.calls after_state.view.calls before.by.0 queue (length was.trace + 1) asking answer
        → told.0 ≡ told_reply (mark_among home.marks queue) (before_state.view.calls queue) before.by.0 asking
    same_told queue asking answer once = (the_made queue made (told_by last) last_made).reply
      where
        is_here : queue ≡ place
        is_here = elim (cases_eq queue place) [
          | inl same ↦ same
          | inr apart ↦ absurd (longer (entry before.by.0 (length was.trace + 1, asking) answer) (before_state.view.calls queue) (sym once.newest ∙ here.others queue apart))
        ]

        last : Call B
        last = call_after (mark_among home.marks queue) (before_state.view.calls queue) (entry before.by.0 (length was.trace + 1, asking) answer)

        same_number : is.script.number ≡ before.by.0
        same_number = ap (λ (a : ActorOf B). a.script.number) tries.does.same ∙ tries.by_it

        old_calls : own_calls before.by.0 (mark_among home.marks queue) (old.calls queue) ≡ own_calls before.by.0 (mark_among home.marks queue) (before_state.view.calls queue)
        old_calls = sym (own_same before.by.0 (mark_among home.marks queue) (old.calls queue) (before_state.view.calls queue)
            (subst (λ (q : ℕ). GoesOnWithout before.by.0 (old.calls q) (before_state.view.calls q)) (sym is_here) here.goes_on))

        new_calls : new.calls queue ≡ entry before.by.0 (length was.trace + 1, asking) answer ∷ before_state.view.calls queue
        new_calls = sym (subst (λ (q : ℕ). after_state.view.calls q ≡ new.calls q) (sym is_here) here.new_is) ∙ once.newest

        own_old : AllZip IsMade (made_on queue (made_by pictures was.trace)) (map told_by (own_calls before.by.0 (mark_among home.marks queue) (before_state.view.calls queue)))
        own_old = subst (λ (cs : List (Call B)). AllZip IsMade (made_on queue (made_by pictures was.trace)) (map told_by cs)) old_calls
            (subst (λ (n : ℕ). AllZip IsMade (made_on queue (made_by pictures was.trace)) (map told_by (own_calls n (mark_among home.marks queue) (old.calls queue)))) tries.by_it (tries.keeps_was.kept.kept.is.made queue))

        own_new : AllZip IsMade (made_on queue (made_by pictures is.trace)) (map told_by (own_calls before.by.0 (mark_among home.marks queue) (new.calls queue)))
        own_new = subst (λ (n : ℕ). AllZip IsMade (made_on queue (made_by pictures is.trace)) (map told_by (own_calls n (mark_among home.marks queue) (new.calls queue)))) same_number (tries.keeps_is.kept.kept.is.made queue)

        calls_are : map told_by (own_calls before.by.0 (mark_among home.marks queue) (new.calls queue)) ≡ map told_by (own_calls before.by.0 (mark_among home.marks queue) (before_state.view.calls queue)) ++ told_by last ∷ []
        calls_are =
            ap (λ (calls : List (Made B)). map told_by (own_calls before.by.0 (mark_among home.marks queue) calls)) new_calls
            ∙ ap (map told_by) (own_newest before.by.0 (mark_among home.marks queue) (length was.trace + 1, asking) answer (before_state.view.calls queue))
            ∙ map-append told_by (own_calls before.by.0 (mark_among home.marks queue) (before_state.view.calls queue)) (last ∷ [])

        steps_are : made_on queue (made_by pictures is.trace) ≡ made_on queue (made_by pictures was.trace) ++ made_on queue (made ∷ [])
        steps_are =
            ap (λ (t : List Done). made_on queue (made_by pictures t)) tries.does.trace
            ∙ ap (made_on queue) (each_with (made_at pictures) was.trace tries.does.done)
            ∙ filter-append (λ (m : MadeStep). m.asked.0.0 == queue) (made_by pictures was.trace) (made_at pictures (at_end was.trace tries.does.done))
            ∙ ap (λ (xs : List MadeStep). made_on queue (made_by pictures was.trace) ++ made_on queue xs) made_is

        last_made : AllZip IsMade (made_on queue (made ∷ [])) (told_by last ∷ [])
        last_made = zip_later IsMade (made_on queue (made_by pictures was.trace)) (made_on queue (made ∷ [])) (map told_by (own_calls before.by.0 (mark_among home.marks queue) (before_state.view.calls queue))) (told_by last ∷ []) own_old
            (subst (λ (ms : List MadeStep). AllZip IsMade ms (map told_by (own_calls before.by.0 (mark_among home.marks queue) (before_state.view.calls queue)) ++ told_by last ∷ [])) steps_are
            (subst (λ (es : List Entry). AllZip IsMade (made_on queue (made_by pictures is.trace)) es) calls_are own_new))

    pub queued : (status : QStatus) (values : List ℕ) → WritesTry home before.by.0 (length was.trace + 1) asks (holdings_of before) before_state after_state was.trace is.trace (tried.Called status values)
    queued status values = (
      answered.Called told.0,
      does_write pictures home was is asks before after old new came_to tries ∙ ap (λ (a : Answered). written.written_in was.trace ++ written.written_by (holdings_of before) asks a) told.1,
      λ queue asking answer once. ap (λ (t : PlainReply). written.written_by (holdings_of before) asks (answered.Called t)) (same_told queue asking answer once),
    )

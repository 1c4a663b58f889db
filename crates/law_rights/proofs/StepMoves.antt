-- What a step's call writes, and which permit it uses, are as its move says.
use Rattle.std.proofs.Common.{◌≡◌, ℕ, ◌+◌, Bool, true, false, List, [], ◌∷◌, ◌++◌, arith, ap, ◌∙◌, sym, refl, subst, length, get_or, Option, Some, None}
use Rattle.std.specs.Prelude.{Contains, unwrap_or}
use Rattle.std.specs.Option.{option_map}
use Rattle.std.specs.List.{flat_map}
use Rattle.std.proofs.lemmas.List.{append-nil}
use Rattle.std.proofs.lemmas.List.Concat.{flat_map-append}
use Rattle.sf_base.specs.declared.ids.QueueId.{QueueId}
use Rattle.sf_base.specs.Fences.{Fence}
use Rattle.sf_base.specs.declared.geometry.Rect.{Rect}
use Rattle.sf_actor_set.specs.sf_picture.declared.picture.Picture.{Picture}
use Rattle.sf_actor_set.specs.sf_script_scene.declared.step.Step.{Step}
use Rattle.sf_actor_set.specs.sf_script_scene.declared.step.Step.TheVariants as step
use Rattle.sf_slots.specs.declared.calls.PlainReply.{PlainReply}
use Rattle.sf_slots.specs.declared.calls.PlainReply.TheVariants as plain
use Rattle.sf_actor_set.specs.sf_surface.declared.call.QCall.TheVariants as call
use Rattle.sf_actor_set.specs.sf_surface.declared.work.Work.{Work}
use Rattle.sf_actor_set.specs.sf_surface.declared.work.Work.TheVariants as work
use Rattle.sf_actor_set.specs.sf_surface.Calls.{write_token}
use Rattle.sf_actor_set.specs.sf_surface.Tokens.{WriteLeaseOf, turn_of}
use Rattle.sf_actor_set.specs.sf_turns.Views.{PermitView}
use Rattle.sf_actor_set.specs.sf_actor.declared.done.Answered.TheVariants as answered
use Rattle.sf_actor_set.specs.sf_actor.declared.done.Done.{Done}
use Rattle.sf_actor_set.specs.sf_actor.declared.holding.Holding.TheVariants as holding
use Rattle.sf_actor_set.specs.sf_actor.Names.{Lent, Token}
use Rattle.sf_actor_set.specs.sf_actor.Holdings.{drawn_picture, token_of}
use Rattle.sf_actor_set.specs.sf_actor.Rights.{turn_by}
use Rattle.sf_actor_set.specs.sf_actor.Scripts.{crop_of, fence_of}
use Rattle.sf_actor_set.specs.sf_actor.Traces.{DoneAt, Past, next, no_past, past_after, past_from, places_from, places_of}
use Rattle.sf_actor_set.specs.sf_actor.Written as written
use Rattle.sf_actor_set.specs.sf_actor_steps.declared.asking.Asking.{Asking}
use Rattle.sf_actor_set.specs.sf_actor_steps.declared.bindings.Bindings.{Bindings}
use Rattle.sf_actor_set.specs.sf_actor_steps.Forming.{FormsCall, cancel_fence, permits_of}
use Rattle.sf_actor_set.specs.sf_actor_steps.Bindings.{holdings_of}
use Rattle.sf_actor_set.proofs.sf_actor_steps_lemmas.HoldingLemmas.{name_in-held}
use Rattle.law_rights.specs.Calls.{ending, made_of, move_of, queueing}
use Rattle.law_rights.specs.Moves.{made_by, written_by}
use Rattle.law_rights.proofs.CallEffects.{move_makes}
use Rattle.law_rights.proofs.TurnCounts.{first, none_in, the_only}

-- a trace with one more step
places-append : (place n : ℕ) (past : Past) (trace : List Done) (done : Done) → n ≡ place + length trace → places_from place past (trace ++ done ∷ []) ≡ places_from place past trace ++ record { place = n; past = past_from place past trace; done = done } ∷ []
unfolding places_from past_from
places-append place n past [] done e = ap (λ (m : ℕ). let at : DoneAt = record { place = m; past = past; done = done } in at ∷ []) (omega (arith, e))
places-append place n past (head ∷ trace) done e =
    let at : DoneAt = record { place = place; past = past; done = head } in
    ap (λ (rest : List DoneAt). at ∷ rest) (places-append (place + 1) n (next place past head) trace done (omega (arith, e)))

-- a step behind a trace
abbrev pub at_end : List Done → Done → DoneAt
at_end trace done = record { place = length trace + 1; past = past_after trace; done = done }

pub places_with : (trace : List Done) (done : Done) → places_of (trace ++ done ∷ []) ≡ places_of trace ++ at_end trace done ∷ []
places_with trace done = places-append 1 (length trace + 1) no_past trace done (omega arith)

pub written_with : (trace : List Done) (done : Done) → written.written_in (trace ++ done ∷ []) ≡ written.written_in trace ++ written.written_by (past_after trace).holdings done.step done.answered
written_with trace done =
    ap (flat_map written.written_at) (places-append 1 (length trace + 1) no_past trace done (omega arith))
    ∙ flat_map-append written.written_at (places_of trace) (record { place = length trace + 1; past = past_after trace; done = done } ∷ [])
    ∙ ap (λ (rest : List written.FrameNumber). written.written_in trace ++ rest) (append-nil (written.written_by (past_after trace).holdings done.step done.answered))

ending_writes_none : (done : Work) → written_by (ending done) ≡ []
ending_writes_none (work.Fresh turn) = refl
ending_writes_none (work.Drawn inside pixels) = refl

dequeue_writes : (B : Type 0) (queue : QueueId) (wide high : ℕ) (wait : Bool) (permit : PermitView) (given : PlainReply) → written_by (move_of {B = B} queue (call.Dequeue wide high wait permit) given) ≡ []
dequeue_writes B queue wide high wait permit (plain.Dequeued slot held requested true fence) = refl
dequeue_writes B queue wide high wait permit given = refl

cancel_writes : (B : Type 0) (queue : QueueId) (lease : WriteLeaseOf) (fence : Fence) (given : PlainReply) → written_by (move_of {B = B} queue (call.Cancel lease fence) given) ≡ []
cancel_writes B queue lease fence plain.Done = ending_writes_none lease.work
cancel_writes B queue lease fence given = refl

detach_writes : (B : Type 0) (queue : QueueId) (lease : WriteLeaseOf) (given : PlainReply) → written_by (move_of {B = B} queue (call.Detach lease) given) ≡ []
detach_writes B queue lease plain.Done = ending_writes_none lease.work
detach_writes B queue lease given = refl

-- a frame that is queued is written where its lease was drawn
drawn_writes : (queue : QueueId) (lease : WriteLeaseOf) (done : Work) (frame : ℕ) → queue ≡ lease.queue
    → written.drawn_frame (Some (Lent lease.queue (write_token lease.queue lease) (drawn_picture done))) frame ≡ written_by (queueing done (record { turn = turn_by (turn_of done); frame = (queue, frame) }))
drawn_writes queue lease (work.Fresh turn) frame same = refl
drawn_writes queue lease (work.Drawn inside pixels) frame same = ap (λ (q : QueueId). (q, frame) ∷ []) (sym same)

dequeue_makes : (B : Type 0) (wide high : ℕ) (wait : Bool) (permit : PermitView) (given : PlainReply) (buffer : ℕ) → Contains (made_of {B = B} (call.Dequeue wide high wait permit) given) buffer → permit.buffer ≡ buffer
dequeue_makes B wide high wait permit (plain.Dequeued slot held requested true fence) buffer there = the_only permit.buffer buffer there
dequeue_makes B wide high wait permit given buffer there = absurd (none_in buffer there)

module _ {B : Type 0} where
  abbrev writes : QueueId → PlainReply → Asking B → List written.FrameNumber
  writes queue given asking = written_by (move_of queue asking.call given)

  queue_writes : (before : Bindings B) (queue : QueueId) (name p : ℕ) (stepped : Option ℕ) (part : Option (ℕ × ℕ × ℕ × ℕ)) (points : List (ℕ × ℕ)) (lease : WriteLeaseOf) (picture : Picture) (time : Option ℕ) (crop : Rect) (fence : Fence) (given : PlainReply)
      → get_or before.names name None ≡ Some (holding.Lends lease) → queue ≡ lease.queue
      → written.written_by (holdings_of before) (step.Queue name p stepped part points) (answered.Called given) ≡ written_by (move_of {B = B} queue (call.Queue lease picture time crop fence) given)
  queue_writes before queue name p stepped part points lease picture time crop fence (plain.Queued frame) there same =
      ap (λ (t : Option Token). written.drawn_frame t frame) (name_in-held before name ∙ ap (option_map token_of) there)
      ∙ drawn_writes queue lease lease.work frame same
  queue_writes before queue name p stepped part points lease picture time crop fence given there same = refl

  pub calls_write : (pictures : ℕ → Picture) (s : Step) (before taken : Bindings B) (asking : Asking B) (queue : QueueId) (given : PlainReply) → FormsCall pictures s before taken asking → queue ≡ asking.queue
      → written.written_by (holdings_of before) s (answered.Called given) ≡ written_by (move_of queue asking.call given)
  calls_write pictures (step.Connect q) before taken asking queue given forms same = sym (ap (writes queue given) forms.1)
  calls_write pictures (step.Disconnect q) before taken asking queue given forms same = sym (ap (writes queue given) forms.1)
  calls_write pictures (step.MaxDequeued q n) before taken asking queue given forms same = sym (ap (writes queue given) forms.1)
  calls_write pictures (step.Async q on) before taken asking queue given forms same = sym (ap (writes queue given) forms.1)
  calls_write pictures (step.MaxAcquired q n) before taken asking queue given forms same = sym (ap (writes queue given) forms.1)
  calls_write pictures (step.Abandon q) before taken asking queue given forms same = sym (ap (writes queue given) forms.1)
  calls_write pictures (step.Acquire q i at) before taken asking queue given forms same = sym (ap (writes queue given) forms.1)
  calls_write pictures (step.Dequeue q s size) before taken asking queue given forms same = sym (ap (writes queue given) forms.2 ∙ dequeue_writes B queue (unwrap_or size (0, 0)).0 (unwrap_or size (0, 0)).1 false forms.0 given)
  calls_write pictures (step.DequeueWait q s size) before taken asking queue given forms same = sym (ap (writes queue given) forms.2 ∙ dequeue_writes B queue (unwrap_or size (0, 0)).0 (unwrap_or size (0, 0)).1 true forms.0 given)
  calls_write pictures (step.Request s) before taken asking queue given forms same = sym (ap (writes queue given) forms.2)
  calls_write pictures (step.Queue s p time crop points) before taken asking queue given forms same =
      queue_writes before queue s p time crop points forms.0 (pictures p) time (crop_of forms.0.held crop) (fence_of points) given forms.1.held_there (same ∙ ap (λ (x : Asking B). x.queue) forms.2) ∙ sym (ap (writes queue given) forms.2)
  calls_write pictures (step.Cancel s points) before taken asking queue given forms same = sym (ap (writes queue given) forms.2 ∙ cancel_writes B queue forms.0 (cancel_fence forms.0.work (fence_of points) forms.0.fence) given)
  calls_write pictures (step.PDetach s b) before taken asking queue given forms same = sym (ap (writes queue given) forms.2 ∙ detach_writes B queue forms.0 given)
  calls_write pictures (step.Release i points) before taken asking queue given forms same = sym (ap (writes queue given) forms.2)
  calls_write pictures (step.CDetach i b) before taken asking queue given forms same = sym (ap (writes queue given) forms.2)
  calls_write pictures (step.PAttach q b s) before taken asking queue given forms same = sym (ap (writes queue given) forms.3)
  calls_write pictures (step.CAttach q b i) before taken asking queue given forms same = sym (ap (writes queue given) forms.3)
  calls_write pictures other before taken asking queue given forms same = absurd forms

  -- the buffer that a call makes is that of a permit
  abbrev makes : PlainReply → Asking B → List ℕ
  makes given asking = made_of asking.call given

  none_made : (given : PlainReply) (asking exact : Asking B) (buffer : ℕ) {P : Type 0} → asking ≡ exact → makes given exact ≡ [] → Contains (makes given asking) buffer → P
  none_made given asking exact buffer same none there = absurd (none_in buffer (subst (λ (xs : List ℕ). Contains xs buffer) (ap (makes given) same ∙ none) there))

  forms_make : (pictures : ℕ → Picture) (s : Step) (before taken : Bindings B) (asking : Asking B) (given : PlainReply) (buffer : ℕ) → FormsCall pictures s before taken asking → Contains (makes given asking) buffer → Contains (permits_of before) buffer
  forms_make pictures (step.Connect q) before taken asking given buffer forms there = none_made given asking _ buffer forms.1 refl there
  forms_make pictures (step.Disconnect q) before taken asking given buffer forms there = none_made given asking _ buffer forms.1 refl there
  forms_make pictures (step.MaxDequeued q n) before taken asking given buffer forms there = none_made given asking _ buffer forms.1 refl there
  forms_make pictures (step.Async q on) before taken asking given buffer forms there = none_made given asking _ buffer forms.1 refl there
  forms_make pictures (step.MaxAcquired q n) before taken asking given buffer forms there = none_made given asking _ buffer forms.1 refl there
  forms_make pictures (step.Abandon q) before taken asking given buffer forms there = none_made given asking _ buffer forms.1 refl there
  forms_make pictures (step.Acquire q i at) before taken asking given buffer forms there = none_made given asking _ buffer forms.1 refl there
  forms_make pictures (step.Dequeue q s size) before taken asking given buffer forms there =
      let same = dequeue_makes B (unwrap_or size (0, 0)).0 (unwrap_or size (0, 0)).1 false forms.0 given buffer (subst (λ (xs : List ℕ). Contains xs buffer) (ap (makes given) forms.2) there) in
      subst (λ (xs : List ℕ). Contains xs buffer) (sym forms.1.one) (subst (λ (b : ℕ). Contains (forms.0.buffer ∷ permits_of taken) b) same (first forms.0.buffer (permits_of taken)))
  forms_make pictures (step.DequeueWait q s size) before taken asking given buffer forms there =
      let same = dequeue_makes B (unwrap_or size (0, 0)).0 (unwrap_or size (0, 0)).1 true forms.0 given buffer (subst (λ (xs : List ℕ). Contains xs buffer) (ap (makes given) forms.2) there) in
      subst (λ (xs : List ℕ). Contains xs buffer) (sym forms.1.one) (subst (λ (b : ℕ). Contains (forms.0.buffer ∷ permits_of taken) b) same (first forms.0.buffer (permits_of taken)))
  forms_make pictures (step.Request s) before taken asking given buffer forms there = none_made given asking _ buffer forms.2 refl there
  forms_make pictures (step.Queue s p time crop points) before taken asking given buffer forms there = none_made given asking _ buffer forms.2 refl there
  forms_make pictures (step.Cancel s points) before taken asking given buffer forms there = none_made given asking _ buffer forms.2 refl there
  forms_make pictures (step.PDetach s b) before taken asking given buffer forms there = none_made given asking _ buffer forms.2 refl there
  forms_make pictures (step.Release i points) before taken asking given buffer forms there = none_made given asking _ buffer forms.2 refl there
  forms_make pictures (step.CDetach i b) before taken asking given buffer forms there = none_made given asking _ buffer forms.2 refl there
  forms_make pictures (step.PAttach q b s) before taken asking given buffer forms there = none_made given asking _ buffer forms.3 refl there
  forms_make pictures (step.CAttach q b i) before taken asking given buffer forms there = none_made given asking _ buffer forms.3 refl there
  forms_make pictures other before taken asking given buffer forms there = absurd forms

  pub calls_make : (pictures : ℕ → Picture) (s : Step) (before taken : Bindings B) (asking : Asking B) (queue : QueueId) (given : PlainReply) (buffer : ℕ) → FormsCall pictures s before taken asking → Contains (made_by (move_of queue asking.call given)) buffer → Contains (permits_of before) buffer
  calls_make pictures s before taken asking queue given buffer forms there =
      forms_make pictures s before taken asking given buffer forms (subst (λ (xs : List ℕ). Contains xs buffer) (move_makes queue asking.call given) there)

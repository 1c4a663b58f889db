-- A call that queues a frame is that of a queueing step, with the step's picture and crop.
use Rattle.std.proofs.Common.{◌≡◌, ℕ, suc, ◌+◌, ◌-◌, zero, Bool, true, false, List, [], ◌∷◌, length, map, take, Option, Some, None, refl, sym, ap, ◌∙◌, subst, inl, inr, arith}
use Rattle.std.specs.Prelude.{Contains, slice_get}
use Rattle.std.specs.Option.{option_map}
use Rattle.std.proofs.lemmas.Bool.{cases_Bool, false≢true}
use Rattle.std.proofs.lemmas.List.Elements.{Contains-append_cases}
use Rattle.std.proofs.lemmas.Option.{slice_get-map}
use Rattle.sf_base.specs.Fences.{Fence}
use Rattle.sf_base.specs.declared.geometry.Rect.{Rect}
use Rattle.sf_script_scene.specs.sf_picture.declared.picture.Picture.{Picture}
use Rattle.sf_actor.specs.sf_slots.declared.calls.PlainCall.{PlainCall}
use Rattle.sf_actor.specs.sf_slots.declared.calls.PlainCall.TheVariants as call
use Rattle.sf_actor.specs.sf_slots.declared.calls.WriteToken.{WriteToken}
use Rattle.sf_script_scene.specs.declared.step.ActorScript.{ActorScript}
use Rattle.sf_script_scene.specs.declared.step.Step.{Step}
use Rattle.sf_script_scene.specs.declared.step.Step.TheVariants as step
use Rattle.sf_actor.specs.declared.done.Answered.{Answered}
use Rattle.sf_actor.specs.declared.done.Answered.TheVariants as answered
use Rattle.sf_actor.specs.declared.done.Done.{Done}
use Rattle.sf_actor.specs.Asking.{Asked, attach_of, attach_read_of, call_of, cancel_of, detach_of, detach_read_of, overtaken_by, queueing_of, releasing_of, request_of}
use Rattle.sf_actor.specs.Names.{Apart, Frame, FrameOf, Holdings, Lent, Token, name_in}
use Rattle.sf_actor.specs.Scripts.{crop_of, fence_of}
use Rattle.sf_actor.specs.ScriptTraces.{step_done}
use Rattle.sf_actor.specs.Traces.{DoneAt, MadeStep, Past, Source, made_at, made_by, next, no_past, overtaken, own_call, places_from, places_of, release_at, source_in}
use Rattle.sf_actor.specs.Steps.{used_by, was_done}
use Rattle.law_played.proofs.Members.{has_cases, has_none, joined_has, map_has}

-- a call that queues a frame
abbrev is_queueing : PlainCall → Bool
is_queueing (call.Queue lease picture width height time crop fence) = true
is_queueing other = false

abbrev asks_queueing : Option Asked → Bool
asks_queueing None = false
asks_queueing (Some asked) = is_queueing asked.1

-- the step that makes such a call
pub record IsQueueStep (pictures : ℕ → Picture) (s : Step) (lease : WriteToken) (number width height : ℕ) (crop : Rect) : Type 0 where
  pub name : ℕ
  pub picture : ℕ
  pub time : Option ℕ
  pub part : Option (ℕ × ℕ × ℕ × ℕ)
  pub points : List (ℕ × ℕ)
  pub is : s ≡ step.Queue name picture time part points
  pub numbered : number ≡ (pictures picture).number
  pub wide : width ≡ (pictures picture).width
  pub high : height ≡ (pictures picture).height
  pub cropped : crop ≡ crop_of lease.held part

-- no other step asks for one
no_request : (token : Option Token) → asks_queueing (request_of token) ≡ false
no_request (Some (Lent queue token drawn)) = refl
no_request other = refl

no_cancel : (fence : Fence) (token : Option Token) → asks_queueing (cancel_of fence token) ≡ false
no_cancel fence (Some (Lent queue token None)) = refl
no_cancel fence (Some (Lent queue token (Some drawn))) = refl
no_cancel fence other = refl

no_detach : (token : Option Token) → asks_queueing (detach_of token) ≡ false
no_detach (Some (Lent queue token drawn)) = refl
no_detach other = refl

no_attach : (queue : ℕ) (token : Option Token) → asks_queueing (attach_of queue token) ≡ false
no_attach queue (Some (Apart of held)) = refl
no_attach queue other = refl

no_release : (fence : Fence) (token : Option Token) → asks_queueing (releasing_of fence token) ≡ false
no_release fence (Some (Frame queue token)) = refl
no_release fence other = refl

no_detach_read : (token : Option Token) → asks_queueing (detach_read_of token) ≡ false
no_detach_read (Some (Frame queue token)) = refl
no_detach_read other = refl

no_attach_read : (queue : ℕ) (token : Option Token) → asks_queueing (attach_read_of queue token) ≡ false
no_attach_read queue (Some (Apart of held)) = refl
no_attach_read queue other = refl

module _ (pictures : ℕ → Picture) (asked : Asked) (lease : WriteToken) (number width height : ℕ) (time : Option ℕ) (crop : Rect) (fence : Fence)
    (queues : asked.1 ≡ call.Queue lease number width height time crop fence) where
  other : {P : Type 0} (made : Option Asked) → asks_queueing made ≡ false → made ≡ Some asked → P
  other made none e = absurd (false≢true (sym none ∙ ap asks_queueing e ∙ ap is_queueing queues))

  queue_step : (s p : ℕ) (wanted : Option ℕ) (part : Option (ℕ × ℕ × ℕ × ℕ)) (points : List (ℕ × ℕ)) (token : Option Token)
      → queueing_of (pictures p) wanted part (fence_of points) token ≡ Some asked → IsQueueStep pictures (step.Queue s p wanted part points) lease number width height crop
  queue_step s p wanted part points (Some (Lent queue token drawn)) e =
      let same : call.Queue token (pictures p).number (pictures p).width (pictures p).height wanted (crop_of token.held part) (fence_of points) ≡ call.Queue lease number width height time crop fence =
      (let a : (queue, call.Queue token (pictures p).number (pictures p).width (pictures p).height wanted (crop_of token.held part) (fence_of points)) ≡ asked = cc in ap (λ (x : Asked). x.1) a ∙ queues) in
      let leased : token ≡ lease = cc in
      record {
        name = s;
        picture = p;
        time = wanted;
        part = part;
        points = points;
        is = refl;
        numbered = (let n : number ≡ (pictures p).number = cc in n);
        wide = (let n : width ≡ (pictures p).width = cc in n);
        high = (let n : height ≡ (pictures p).height = cc in n);
        cropped = (let n : crop ≡ crop_of token.held part = cc in n) ∙ ap (λ (t : WriteToken). crop_of t.held part) leased;
      }
  queue_step s p wanted part points token e = other (queueing_of (pictures p) wanted part (fence_of points) token) refl e

  step_of : (holdings : Holdings) (s : Step) → call_of pictures holdings s ≡ Some asked → IsQueueStep pictures s lease number width height crop
  step_of holdings (step.Connect q) e = other (call_of pictures holdings (step.Connect q)) refl e
  step_of holdings (step.Disconnect q) e = other (call_of pictures holdings (step.Disconnect q)) refl e
  step_of holdings (step.MaxDequeued q n) e = other (call_of pictures holdings (step.MaxDequeued q n)) refl e
  step_of holdings (step.Async q on) e = other (call_of pictures holdings (step.Async q on)) refl e
  step_of holdings (step.Dequeue q s size) e = other (call_of pictures holdings (step.Dequeue q s size)) refl e
  step_of holdings (step.DequeueWait q s size) e = other (call_of pictures holdings (step.DequeueWait q s size)) refl e
  step_of holdings (step.Request s) e = other (request_of (name_in holdings s)) (no_request (name_in holdings s)) e
  step_of holdings (step.Queue s p wanted part points) e = queue_step s p wanted part points (name_in holdings s) e
  step_of holdings (step.Cancel s points) e = other (cancel_of (fence_of points) (name_in holdings s)) (no_cancel (fence_of points) (name_in holdings s)) e
  step_of holdings (step.PDetach s b) e = other (detach_of (name_in holdings s)) (no_detach (name_in holdings s)) e
  step_of holdings (step.PAttach q b s) e = other (attach_of q (name_in holdings b)) (no_attach q (name_in holdings b)) e
  step_of holdings (step.MaxAcquired q n) e = other (call_of pictures holdings (step.MaxAcquired q n)) refl e
  step_of holdings (step.Abandon q) e = other (call_of pictures holdings (step.Abandon q)) refl e
  step_of holdings (step.Acquire q i at) e = other (call_of pictures holdings (step.Acquire q i at)) refl e
  step_of holdings (step.Release i points) e = other (releasing_of (fence_of points) (name_in holdings i)) (no_release (fence_of points) (name_in holdings i)) e
  step_of holdings (step.CDetach i b) e = other (detach_read_of (name_in holdings i)) (no_detach_read (name_in holdings i)) e
  step_of holdings (step.CAttach q b i) e = other (attach_read_of q (name_in holdings b)) (no_attach_read q (name_in holdings b)) e
  step_of holdings s e = other None refl e

  -- of the calls of a step, its own queues a frame
  own_made : (place : ℕ) (o : Option Asked) (a : Answered) (source : Source) (made : MadeStep) → made.asked ≡ asked → Contains (own_call place o a source) made → (o ≡ Some asked) × (made.step ≡ place)
  own_made place (Some own) (answered.Called replied) source made is there = elim (has_cases (record { step = place; asked = own; told = Some replied; brings = source }) made [] there) [
    | inl same ↦ (ap (λ (m : MadeStep). Some m.asked) same ∙ ap (λ (x : Asked). Some x) is, ap (λ (m : MadeStep). m.step) (sym same))
    | inr none ↦ has_none made none
  ]
  own_made place o a source made is there = has_none made there

  released : (place : ℕ) (frames : List FrameOf) (made : MadeStep) → made.asked ≡ asked → Contains (map (release_at place) frames) made → ⊥
  released place frames made is there =
      let found = map_has (release_at place) frames made there in
      false≢true (ap (λ (m : MadeStep). is_queueing m.asked.1) found.2 ∙ ap (λ (x : Asked). is_queueing x.1) is ∙ ap is_queueing queues)

  overtakes : (place : ℕ) (holdings : Holdings) (done : Done) (made : MadeStep) → made.asked ≡ asked → Contains (overtaken place holdings done) made → ⊥
  overtakes place holdings done made is there = elim (cases_Bool (was_done done.answered)) [
    | inl met ↦ released place (overtaken_by holdings done.step) made is (rw met at there)
    | inr unmet ↦ has_none made (rw unmet at there)
  ]

  made_so : (at : DoneAt) (made : MadeStep) → made.asked ≡ asked → Contains (made_at pictures at) made → IsQueueStep pictures at.done.step lease number width height crop × (made.step ≡ at.place)
  made_so at made is there =
      let own = own_call at.place (call_of pictures at.past.holdings at.done.step) at.done.answered (source_in at.past.since (used_by at.done.step)) in
      elim (Contains-append_cases own (overtaken at.place at.past.holdings at.done) made there) [
        | inl c ↦
            let it = own_made at.place (call_of pictures at.past.holdings at.done.step) at.done.answered (source_in at.past.since (used_by at.done.step)) made is c in
            (step_of at.past.holdings at.done.step it.0, it.1)
        | inr c ↦ absurd (overtakes at.place at.past.holdings at.done made is c)
      ]

-- a step of a trace is at its place
at_place : (place : ℕ) (past : Past) (trace : List Done) (at : DoneAt) → Contains (places_from place past trace) at → (k : ℕ) × (at.place ≡ place + k) × (slice_get trace k ≡ Some at.done)
unfolding places_from
at_place place past [] at there = has_none at there
at_place place past (done ∷ later) at there = elim (has_cases (record { place = place; past = past; done = done }) at (places_from (place + 1) (next place past done) later) there) [
  | inl same ↦ (0, ap (λ (a : DoneAt). a.place) (sym same) ∙ (let e : place ≡ place + 0 = omega arith in e), ap (λ (a : DoneAt). Some a.done) same)
  | inr c ↦ let rest = at_place (place + 1) (next place past done) later at c in (suc rest.0, rest.1 ∙ (let e : place + 1 + rest.0 ≡ place + suc rest.0 = omega arith in e), rest.2)
]

pub in_front : {X : Type 0} (n : ℕ) (xs : List X) (k : ℕ) (x : X) → slice_get (take n xs) k ≡ Some x → slice_get xs k ≡ Some x
in_front zero xs k x e = absurd (cc (e))
in_front (suc n) [] k x e = e
in_front (suc n) (y ∷ xs) zero x e = e
in_front (suc n) (y ∷ xs) (suc k) x e = in_front n xs k x e

-- a call that a trace made and that queues a frame is that of the script's step at its place
pub record IsOfScript (pictures : ℕ → Picture) (script : ActorScript) (place : ℕ) (lease : WriteToken) (number width height : ℕ) (crop : Rect) : Type 0 where
  pub next : Step
  pub there : slice_get script.steps (place - 1) ≡ Some next
  pub queues : IsQueueStep pictures next lease number width height crop

pub of_script : (pictures : ℕ → Picture) (script : ActorScript) (trace : List Done) (made : MadeStep) (lease : WriteToken) (number width height : ℕ) (time : Option ℕ) (crop : Rect) (fence : Fence)
    → map step_done trace ≡ take (length trace) script.steps → Contains (made_by pictures trace) made → made.asked.1 ≡ call.Queue lease number width height time crop fence
    → IsOfScript pictures script made.step lease number width height crop
of_script pictures script trace made lease number width height time crop fence first there queues =
    let at = joined_has (made_at pictures) (places_of trace) made there in
    let so = made_so pictures made.asked lease number width height time crop fence queues at.0 made refl at.2 in
    let placed = at_place 1 no_past trace at.0 at.1 in
    let done = sym (ap (λ (xs : List Step). slice_get xs placed.0) first) ∙ slice_get-map step_done trace placed.0 ∙ ap (option_map step_done) placed.2 in
    let there : slice_get script.steps placed.0 ≡ Some at.0.done.step = in_front (length trace) script.steps placed.0 at.0.done.step done in
    let place : placed.0 ≡ made.step - 1 = omega (arith, placed.1, so.1) in
    record { next = at.0.done.step; there = subst (λ (k : ℕ). slice_get script.steps k ≡ Some at.0.done.step) place there; queues = so.0 }

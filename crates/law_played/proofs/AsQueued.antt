-- The buffers of commits show what the steps queued that queued their frames.
use Rattle.std.proofs.Common.{◌≡◌, ℕ, ◌-◌, ◌==◌, Bool, true, List, [], ◌∷◌, Option, Some, None, refl, sym, ap, ◌∙◌, subst, inl, inr}
use Rattle.std.specs.Prelude.{All, Contains, find, reverse, slice_get}
use Rattle.std.specs.List.{list_any}
use Rattle.std.proofs.lemmas.Bool.{cases_Bool, eq-eqb, eqb-true, false≢true, or_cases}
use Rattle.std.proofs.lemmas.List.Elements.{All-contains}
use Rattle.std.proofs.lemmas.Option.{get_or_from_slice_get, slice_get_within}
use Rattle.sf_base.specs.declared.geometry.Rect.{Rect}
use Rattle.sf_script_scene.specs.sf_picture.declared.picture.Picture.{Picture}
use Rattle.sf_actor.specs.sf_slots.declared.calls.Entry.{Entry}
use Rattle.sf_actor.specs.sf_slots.declared.slot.Held.{Held}
use Rattle.sf_actor.specs.sf_slots.Tells.{AreReplies}
use Rattle.sf_commit.specs.sf_token.Pending.{Arrival}
use Rattle.sf_compose.specs.sf_view.Contents.{unsigned}
use Rattle.sf_script_scene.specs.Limits.{EachStep}
use Rattle.sf_script_scene.specs.Named.{KnowsPicture}
use Rattle.sf_script_scene.specs.Scene.{SceneValue, has_actor, has_picture}
use Rattle.sf_script_scene.specs.declared.declarations.QueueDecl.{QueueDecl}
use Rattle.sf_script_scene.specs.declared.step.ActorScript.{ActorScript}
use Rattle.sf_script_scene.specs.declared.step.Step.{Step}
use Rattle.sf_script_scene.specs.declared.step.Step.TheVariants as step
use Rattle.sf_actor.specs.Makers.{Run}
use Rattle.sf_actor.specs.Names.{FrameOf}
use Rattle.sf_actor.specs.Scripts.{crop_of, picture_at}
use Rattle.sf_actor.specs.ScriptTraces.{IsMade, made_on}
use Rattle.sf_actor.specs.Traces.{MadeStep, made_by}
use Rattle.sf_record.specs.declared.record.CommittedBuffer.{CommittedBuffer}
use Rattle.law_played.specs.Buffers.{HasOfStep, crop_in, crop_shown, step_in, step_of_entry}
use Rattle.law_played.specs.Histories.{entry_shown}
use Rattle.law_played.specs.Runs.{AreTraced, IsTraced, calls_of}
use Rattle.law_played.proofs.QueueCalls.{of_script}
use Rattle.law_played.proofs.Members.{filter_has, has_filter, has_found, has_here, has_later, has_reverse, zip_has}
use Rattle.law_played.proofs.QueuedFrames.{IsQueued}
use Rattle.law_played.proofs.HistoryRecords.{was_accepted}

-- the picture of a number that is there has this number
numbered : (pictures : List Picture) (number : ℕ) → has_picture pictures number ≡ true → (picture_at pictures number).number ≡ number
unfolding picture_at
numbered [] number e = absurd (false≢true e)
numbered (p ∷ ps) number e = elim (cases_Bool (p.number == number)) [
  | inl met ↦ rw met (eqb-true p.number number met)
  | inr unmet ↦ let f = rw unmet at e in rw unmet (numbered ps number f)
]

-- one of these passes
pub one_passes : {X : Type 0} (p : X → Bool) (xs : List X) → list_any p xs ≡ true → (x : X) × Contains xs x × (p x ≡ true)
one_passes p [] e = absurd (false≢true e)
one_passes p (x ∷ xs) e = elim (or_cases (p x) (list_any p xs) e) [
  | inl met ↦ (x, has_here x xs, met)
  | inr later ↦ let rest = one_passes p xs later in (rest.0, has_later x rest.0 xs rest.1, rest.2)
]

-- the corner and the size of a crop
abbrev pub corners : Rect → ℕ × ℕ × ℕ × ℕ
corners crop = (unsigned crop.x, unsigned crop.y, crop.width, crop.height)

same_crop : (picture : Picture) (held : Held) (part : Option (ℕ × ℕ × ℕ × ℕ)) → picture.width ≡ held.width → picture.height ≡ held.height → corners (crop_of held part) ≡ crop_in picture part
same_crop picture held None wide high = λ i. (0, 0, sym wide i, sym high i)
same_crop picture held (Some part) wide high = refl

-- what a buffer shows that has this picture and crop
pub record ShowsSo (buffer : CommittedBuffer) (number : ℕ) (crop : Rect) : Type 0 where
  pub picture : buffer.picture ≡ number
  pub crop_is : crop_shown buffer ≡ corners crop

known_picture : (scene : SceneValue) (script : ActorScript) (place name picture : ℕ) (time : Option ℕ) (part : Option (ℕ × ℕ × ℕ × ℕ)) (points : List (ℕ × ℕ))
    → All (EachStep (KnowsPicture scene.pictures)) scene.actors → Contains scene.actors script → slice_get script.steps place ≡ Some (step.Queue name picture time part points)
    → (picture_at scene.pictures picture).number ≡ picture
known_picture scene script place name picture time part points known there at =
    let queueing : Step = step.Queue name picture time part points in
    let inside : Contains script.steps queueing = (place, slice_get_within script.steps place queueing at, get_or_from_slice_get script.steps place queueing queueing at) in
    let each = All-contains (EachStep (KnowsPicture scene.pictures)) scene.actors script known there in
    numbered scene.pictures picture (All-contains (KnowsPicture scene.pictures) script.steps queueing each inside)

-- of an entry of a caller of the scene, the step that made its call
step_found : (scene : SceneValue) (entry : Entry) (script : ActorScript) → find (λ (script : ActorScript). script.number == entry.caller.0) scene.actors ≡ Some script
    → step_of_entry scene (Some (entry_shown entry)) ≡ slice_get script.steps (entry.step - 1)
unfolding entry_shown
step_found scene entry script found = ap (λ (o : Option ActorScript). step_in o entry.step) found

pub has_of_step : (tells : Bool) (scene : SceneValue) (run : Run) (arrivals : List (Arrival FrameOf)) (queue : QueueDecl) (entry : Entry) (frame number : ℕ) (crop : Rect) (buffer : CommittedBuffer)
    → All (EachStep (KnowsPicture scene.pictures)) scene.actors → AreTraced tells scene run arrivals → AreReplies queue.width queue.height (run.calls queue.number)
    → Contains (run.calls queue.number) entry → IsQueued entry frame number crop → has_actor scene.actors entry.caller.0 ≡ true → ShowsSo buffer number crop
    → HasOfStep (picture_at scene.pictures) buffer (step_of_entry scene (Some (entry_shown entry)))
has_of_step tells scene run arrivals queue entry frame number crop buffer known traced legal called queued calls shows =
    let pictures = picture_at scene.pictures in
    let is_caller : ActorScript → Bool = λ script. script.number == entry.caller.0 in
    let some = one_passes is_caller scene.actors calls in
    let found = has_found is_caller scene.actors some.0 some.1 some.2 in
    let script = found.one in
    let trace = run.trace script.number in
    let same : script.number ≡ entry.caller.0 = eqb-true script.number entry.caller.0 found.passes in
    let is = All-contains (IsTraced tells scene run arrivals) scene.actors script traced found.there in
    let own = has_filter (λ (e : Entry). e.caller.0 == script.number) (reverse (run.calls queue.number)) entry (eq-eqb entry.caller.0 script.number (sym same))
    (has_reverse (run.calls queue.number) entry called) in
    let made = zip_has IsMade (made_on queue.number (made_by pictures trace)) (calls_of script.number (run.calls queue.number)) entry (is.made queue.number) own in
    let inside = filter_has (λ (m : MadeStep). m.asked.0.0 == queue.number) (made_by pictures trace) made.0 made.1 in
    let so = of_script pictures script trace made.0 queued.lease number queued.width queued.height queued.time crop queued.fence is.first inside.0 (sym made.2.call ∙ queued.call) in
    let accepted = was_accepted queue.width queue.height (run.calls queue.number) entry frame number crop legal called queued in
    let there : slice_get script.steps (made.0.step - 1) ≡ Some (step.Queue so.queues.name so.queues.picture so.queues.time so.queues.part so.queues.points) =
    so.there ∙ ap (λ (s : Step). Some s) so.queues.is in
    let numbers = known_picture scene script (made.0.step - 1) so.queues.name so.queues.picture so.queues.time so.queues.part so.queues.points known found.there there in
    let stepped = step_found scene entry script found.found ∙ ap (λ (k : ℕ). slice_get script.steps (k - 1)) made.2.step ∙ there in
    subst (HasOfStep pictures buffer) (sym stepped) (
      shows.picture ∙ so.queues.numbered ∙ numbers,
      shows.crop_is ∙ ap corners so.queues.cropped
          ∙ same_crop (pictures so.queues.picture) queued.lease.held so.queues.part (sym so.queues.wide ∙ accepted.wide) (sym so.queues.high ∙ accepted.high),
    )

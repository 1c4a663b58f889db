-- A frame is queued by one step of one actor.
use Rattle.std.proofs.Common.{◌≡◌, ℕ, ◌==◌, ◌⊎◌, true, List, [], ◌∷◌, ap, ◌∙◌, sym, refl, inl, inr, subst, reverse, Some}
use Rattle.std.specs.Prelude.{Contains}
use Rattle.std.specs.List.{AllZip}
use Rattle.std.proofs.lemmas.Bool.{eq-eqb, eqb-true}
use Rattle.std.proofs.lemmas.List.Elements.{Contains-append_left}
use Rattle.sf_base.specs.declared.geometry.Rect.{Rect}
use Rattle.sf_base.specs.declared.ids.QueueId.{QueueId}
use Rattle.sf_actor_set.specs.sf_picture.declared.picture.Picture.{Picture}
use Rattle.sf_actor_set.specs.sf_script_scene.declared.step.Step.{Step}
use Rattle.sf_actor_set.specs.sf_script_scene.declared.step.Step.TheVariants as step
use Rattle.sf_slots.specs.declared.calls.Entry.{Entry}
use Rattle.sf_slots.specs.declared.calls.PlainCall.TheVariants as call
use Rattle.sf_slots.specs.declared.calls.PlainReply.TheVariants as reply
use Rattle.sf_slots.specs.declared.calls.WriteToken.{WriteToken}
use Rattle.sf_actor_set.specs.sf_surface.Histories.{told}
use Rattle.sf_actor_set.specs.sf_actor.declared.done.Answered.TheVariants as answered
use Rattle.sf_actor_set.specs.sf_actor.declared.done.Done.{Done}
use Rattle.sf_actor_set.specs.sf_actor.Asking.{Asked, call_of, queueing_of}
use Rattle.sf_actor_set.specs.sf_actor.Desks.{DeskHome, DeskView, mark_among}
use Rattle.sf_actor_set.specs.sf_actor.Scripts.{crop_of, fence_of}
use Rattle.sf_actor_set.specs.sf_actor.Steps.{used_by}
use Rattle.sf_actor_set.specs.sf_actor.ScriptTraces.{IsMade, made_on}
use Rattle.sf_actor_set.specs.sf_actor.Traces.{DoneAt, MadeStep, made_at, made_by, overtaken, own_call, places_of, source_in}
use Rattle.sf_actor_set.specs.sf_actor.Tries.{ActorOf, Keeps}
use Rattle.law_played.specs.Runs.{calls_of}
use Rattle.law_played.proofs.Members.{filter_has, has_filter, has_joined, reverse_has}
use Rattle.law_played.proofs.QueuedFrames.{IsQueued, queued_once}
use Rattle.law_played.proofs.RunTraces.{own_told, told_legal}
use Rattle.law_rights.specs.Queuing.{QueuesFrame}
use Rattle.law_rights.proofs.TurnCounts.{first, in_front, later, none_in}

zip_partner : {X Y : Type 0} (R : X → Y → Type 0) (xs : List X) (ys : List Y) (x : X) → AllZip R xs ys → Contains xs x → (y : Y) × Contains ys y × R x y
zip_partner R [] ys x all there = absurd (none_in x there)
zip_partner R (a ∷ xs) [] x all there = absurd all
zip_partner {X} {Y} R (a ∷ xs) (b ∷ ys) x all there = by_place (in_front a x xs there) (zip_partner R xs ys x all.1)
  where
    by_place : (a ≡ x) ⊎ Contains xs x → (Contains xs x → (y : Y) × Contains ys y × R x y) → (y : Y) × Contains (b ∷ ys) y × R x y
    by_place (inl same) further = (b, first b ys, subst (λ (z : X). R z b) same all.0)
    by_place (inr rest) further = let found = further rest in (found.0, later b found.0 ys found.1, found.2)

-- the entry of a step that queued a frame
pub record EntryOf (log : List Entry) (actor frame place : ℕ) (token : WriteToken) : Type 0 where
  pub entry : Entry
  pub there : Contains log entry
  pub caller : entry.caller.0 ≡ actor
  pub step : entry.step ≡ place
  pub picture : ℕ
  pub crop : Rect
  pub queued : IsQueued entry frame picture crop
  pub lease : queued.lease ≡ token

pub entry_of : (pictures : ℕ → Picture) (trace : List Done) (actor : ℕ) (log : List Entry) (queue : QueueId) (frame : ℕ) (at : DoneAt) (queues : QueuesFrame trace queue frame at)
    → AllZip IsMade (made_on queue.0 (made_by pictures trace)) (calls_of actor log) → EntryOf log actor frame at.place queues.token
entry_of pictures trace actor log queue frame at queues made = record {
  entry = partner.0;
  there = reverse_has log partner.0 own.0;
  caller = eqb-true partner.0.caller.0 actor own.1;
  step = partner.2.step;
  picture = (pictures queues.picture).number;
  crop = crop_of queues.token.held queues.part;
  queued = record {
    lease = queues.token;
    width = (pictures queues.picture).width;
    height = (pictures queues.picture).height;
    time = queues.time;
    fence = fence_of queues.points;
    call = partner.2.call;
    reply = sym partner.2.reply;
  };
  lease = refl;
}
  where
    asked : Asked
    asked = (queue, call.Queue queues.token (pictures queues.picture).number (pictures queues.picture).width (pictures queues.picture).height queues.time (crop_of queues.token.held queues.part) (fence_of queues.points))

    asks : Step
    asks = step.Queue queues.name queues.picture queues.time queues.part queues.points

    step_made : MadeStep
    step_made = record {
      step = at.place;
      asked = (queue, call.Queue queues.token (pictures queues.picture).number (pictures queues.picture).width (pictures queues.picture).height queues.time (crop_of queues.token.held queues.part) (fence_of queues.points));
      told = Some (reply.Queued frame);
      brings = source_in at.past.since (used_by (step.Queue queues.name queues.picture queues.time queues.part queues.points));
    }

    own_is : own_call at.place (call_of pictures at.past.holdings at.done.step) at.done.answered (source_in at.past.since (used_by at.done.step)) ≡ step_made ∷ []
    own_is =
        ap (λ (d : Done). own_call at.place (call_of pictures at.past.holdings d.step) d.answered (source_in at.past.since (used_by d.step))) queues.done
        ∙ ap (λ o. own_call at.place (queueing_of (pictures queues.picture) queues.time queues.part (fence_of queues.points) o) (answered.Called (reply.Queued frame)) (source_in at.past.since (used_by asks))) queues.lent

    made_there : Contains (made_by pictures trace) step_made
    made_there = has_joined (made_at pictures) (places_of trace) at step_made queues.there
        (Contains-append_left (own_call at.place (call_of pictures at.past.holdings at.done.step) at.done.answered (source_in at.past.since (used_by at.done.step))) (overtaken at.place at.past.holdings at.done) step_made
        (subst (λ (xs : List MadeStep). Contains xs step_made) (sym own_is) (first step_made [])))

    partner : (entry : Entry) × Contains (calls_of actor log) entry × IsMade step_made entry
    partner = zip_partner IsMade (made_on queue.0 (made_by pictures trace)) (calls_of actor log) step_made made
        (has_filter (λ (m : MadeStep). m.asked.0.0 == queue.0) (made_by pictures trace) step_made (eq-eqb queue.0 queue.0 refl) made_there)

    own : Contains (reverse log) partner.0 × ((partner.0.caller.0 == actor) ≡ true)
    own = filter_has (λ (entry : Entry). entry.caller.0 == actor) (reverse log) partner.0 partner.1

module _ {B : Type 0} where
  pub queued_by_one : (pictures : ℕ → Picture) (home : DeskHome) (view : DeskView B) (of other : ActorOf B) → Keeps pictures home of view → Keeps pictures home other view
      → (queue : QueueId) (frame : ℕ) (at too : DoneAt) → QueuesFrame of.trace queue frame at → QueuesFrame other.trace queue frame too → (of.script.number ≡ other.script.number) × (at.place ≡ too.place)
  queued_by_one pictures home view of other keeps others queue frame at too queues again =
      let mark = mark_among home.marks queue.0 in
      let log : List Entry = told mark (view.calls queue.0) in
      let made : (o : ActorOf B) → Keeps pictures home o view → AllZip IsMade (made_on queue.0 (made_by pictures o.trace)) (calls_of o.script.number log) =
      λ o kept. subst (λ (es : List Entry). AllZip IsMade (made_on queue.0 (made_by pictures o.trace)) es) (sym (own_told o.script.number mark (view.calls queue.0))) (kept.kept.kept.is.made queue.0) in
      let one = entry_of pictures of.trace of.script.number log queue frame at queues (made of keeps) in
      let two = entry_of pictures other.trace other.script.number log queue frame too again (made other others) in
      let same = queued_once mark.width mark.height log one.entry two.entry frame one.picture two.picture one.crop two.crop (told_legal mark (view.calls queue.0)) one.there two.there one.queued two.queued in
      (sym one.caller ∙ ap (λ (e : Entry). e.caller.0) same ∙ two.caller, sym one.step ∙ ap (λ (e : Entry). e.step) same ∙ two.step)

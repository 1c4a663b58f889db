-- What a step comes to that disconnects from a queue: where it is done, the buffers that the queue lent are dropped.
use Rattle.std.proofs.Common.{◌≡◌, ℕ, ◌+◌, ◌==◌, Bool, true, false, List, [], ◌∷◌, length, map, inl, inr, ap, ◌∙◌, sym, refl, Option, Some, None}
use Rattle.std.specs.Prelude.{if◌then◌else◌}
use Rattle.std.proofs.lemmas.Bool.{cases_Bool}
use Rattle.std.proofs.Math.ListN.{get_or-map}
use Rattle.sf_base.specs.Statuses.{number_of}
use Rattle.sf_actor.specs.sf_picture.declared.picture.Picture.{Picture}
use Rattle.sf_actor.specs.sf_script_scene.declared.step.Step.{Step}
use Rattle.sf_actor.specs.sf_script_scene.declared.step.Step.TheVariants as step
use Rattle.sf_actor.specs.sf_surface.declared.call.QCall.{QCall}
use Rattle.sf_actor.specs.sf_surface.declared.call.QCall.TheVariants as call
use Rattle.sf_actor.specs.sf_surface.declared.call.QReply.{QReply}
use Rattle.sf_actor.specs.declared.holding.Holding.{Holding}
use Rattle.sf_actor.specs.declared.holding.Holding.TheVariants as holding
use Rattle.sf_actor.specs.Desks.{DeskHome, DeskView, mark_among}
use Rattle.sf_actor.specs.Holdings.{HoldingsOf}
use Rattle.sf_actor.specs.Scripts.{queue_of}
use Rattle.sf_actor.specs.Tests.{refusal_of}
use Rattle.sf_actor.specs.Tries.{ActorOf, AreThere, held_in, past_of}
use Rattle.sf_actor.proofs.DisconnectStep.{disconnect_keeps}
use Rattle.sf_actor.proofs.DisconnectStep.{let_go_of as let_go_held, without_lent as parts_without}
use Rattle.sf_actor.proofs.ReplyRecords.{disconnect_tells}
use Rattle.sf_actor_steps.specs.Acting.{Acts}
use Rattle.sf_actor_steps.specs.Actors.{parts_of}
use Rattle.sf_actor_steps.specs.Calling.{received}
use Rattle.sf_actor_steps.specs.inner.Coming.{Comes, IsReady}
use Rattle.sf_actor_steps.specs.Forming.{named}
use Rattle.sf_actor_steps.specs.Leaving.{let_go_of, was_ok, without_lent}
use Rattle.sf_actor_steps.specs.declared.asking.Asking.{Asking}
use Rattle.sf_actor_steps.specs.declared.bindings.Bindings.{Bindings}
use Rattle.sf_actor_steps.specs.declared.tried.Tried.{Tried}
use Rattle.sf_actor_steps.proofs.CallComings.{call_comes, formed, kept_came, unlooked}

module _ {B : Type 0} where
  -- the bindings drop what the actor drops
  same_let_go : (queue : ℕ) (held : Option (Holding B)) → let_go_of queue held ≡ let_go_held queue held
  same_let_go queue None = refl
  same_let_go queue (Some (holding.Lends lease)) = refl
  same_let_go queue (Some (holding.Owes owing held)) = refl
  same_let_go queue (Some (holding.Reads lease)) = refl
  same_let_go queue (Some (holding.Frees last loose)) = refl

  all_let_go : (queue : ℕ) (names : List (Option (Holding B))) → map (let_go_of queue) names ≡ map (let_go_held queue) names
  all_let_go queue [] = refl
  all_let_go queue (held ∷ names) = λ i. same_let_go queue held i ∷ all_let_go queue names i

  dropped : (queue : ℕ) (bindings : Bindings B) → parts_of (without_lent queue bindings) ≡ parts_without (parts_of bindings) queue
  dropped queue bindings = ap (λ (names : List (Option (Holding B))). parts_of (record bindings { names = names })) (all_let_go queue bindings.names)

  -- what is still there was there
  was_there : (queue : ℕ) (held : Option (Holding B)) (now : Holding B) → let_go_held queue held ≡ Some now → held ≡ Some now
  was_there queue None now e = e
  was_there queue (Some (holding.Lends lease)) now e = elim (cases_Bool (lease.queue.0 == queue)) [
    | inl met ↦ let none : None ≡ Some now = rw met at e in cc
    | inr unmet ↦ rw unmet at e
  ]
  was_there queue (Some (holding.Owes owing held)) now e = e
  was_there queue (Some (holding.Reads lease)) now e = e
  was_there queue (Some (holding.Frees last loose)) now e = e

  there_without : (home : DeskHome) (parts : HoldingsOf B) (queue : ℕ) → AreThere home parts → AreThere home (parts_without parts queue)
  there_without home parts queue there = record {
    names = λ name now holds. there.names name now (was_there queue (held_in parts name) now (sym (get_or-map (let_go_held queue) parts.names name None) ∙ holds));
    frames = there.frames;
  }

  pub disconnect_comes : (pictures : ℕ → Picture) (home : DeskHome) (actor : ActorOf B) (before after : Bindings B) (old new : DeskView B) (q : ℕ) (came_to : Tried) → IsReady pictures home actor before old (step.Disconnect q) → refusal_of pictures (past_of actor).holdings (step.Disconnect q) ≡ None → Acts pictures home actor.script.number (length actor.trace + 1) (step.Disconnect q) before after old new came_to → Comes pictures home actor after old new came_to
  disconnect_comes pictures home actor before after old new q came_to ready unrefused acts =
      let s : Step = step.Disconnect q in
      let makes = acts.makes in
      let asked : QCall B = call.Disconnect in
      let asking : Asking B = named (queue_of q) 0 asked in
      let queue = (mark_among home.marks q).queue in
      let left : Bool → Bindings B = λ ok. if ok then without_lent q acts.called else acts.called in
      call_comes pictures home actor s before acts.called after old old new asking came_to refl refl (unlooked home old)
      (formed home actor.script.number (length actor.trace + 1) makes.asking asking makes.taken before acts.called old new came_to makes.forms.0 makes.forms.1 makes.tries)
      (λ reply called_view was made ends bindings.
      elim (disconnect_keeps pictures actor q home old called_view reply ready.is_next ready.keeps.kept made) [
        | inl given ↦
            let ok : was_ok came_to ≡ true = ap was_ok was ∙ ap (λ (r : QReply B). number_of r.status == 0) given.0 in
            kept_came pictures home actor s after called_view new queue asked reply (parts_without actor.parts q)
            (λ told is. disconnect_tells queue q (past_of actor).holdings told reply is)
            refl (ap (λ (r : QReply B). r.ends) given.0) ends given.1
            (ap (λ (h : Bindings B). parts_of h) (acts.drops ∙ ap left ok ∙ ap (without_lent q) (bindings ∙ ap (received asking.homes before) given.0))
            ∙ dropped q before ∙ ap (λ (p : HoldingsOf B). parts_without p q) (sym ready.parts))
            (there_without home actor.parts q ready.keeps.there)
        | inr refused ↦
            let not_ok : was_ok came_to ≡ false = ap was_ok was ∙ ap (λ (r : QReply B). number_of r.status == 0) refused.0 in
            kept_came pictures home actor s after called_view new queue asked reply actor.parts
            (λ told is. disconnect_tells queue q (past_of actor).holdings told reply is)
            refl (ap (λ (r : QReply B). r.ends) refused.0) ends refused.1
            (ap (λ (h : Bindings B). parts_of h) (acts.drops ∙ ap left not_ok ∙ bindings ∙ ap (received asking.homes before) refused.0) ∙ sym ready.parts)
            ready.keeps.there
      ])

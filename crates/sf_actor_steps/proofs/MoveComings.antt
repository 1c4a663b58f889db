-- What a step comes to that moves a buffer between a queue and its actor's own bindings: an attach, and a detach, which may be refused
-- by the fence of the buffer without a call.
use Rattle.std.proofs.Common.{◌≡◌, ℕ, ◌+◌, ◌<◌, true, List, [], ◌++◌, length, inl, inr, arith, ap, ◌∙◌, sym, refl, subst, Option, Some, None}
use Rattle.std.proofs.lemmas.List.{append-nil}
use Rattle.sf_base.specs.Fences.{Fence, IsSignalled}
use Rattle.sf_base.specs.declared.ids.QueueId.{QueueId}
use Rattle.sf_actor.specs.sf_picture.declared.picture.Picture.{Picture}
use Rattle.sf_actor.specs.sf_script_scene.declared.step.Step.{Step}
use Rattle.sf_actor.specs.sf_script_scene.declared.step.Step.TheVariants as step
use Rattle.sf_actor.specs.sf_slots.declared.calls.PlainReply.{PlainReply}
use Rattle.sf_actor.specs.sf_slots.declared.calls.PlainReply.TheVariants as plain
use Rattle.sf_actor.specs.sf_surface.declared.call.QCall.{QCall}
use Rattle.sf_actor.specs.sf_surface.declared.call.QCall.TheVariants as call
use Rattle.sf_actor.specs.sf_surface.declared.call.QReply.{QReply}
use Rattle.sf_actor.specs.sf_surface.Hands.{IsReply, attached_lease, own_lease}
use Rattle.sf_actor.specs.sf_surface.Tokens.{WriteLeaseOf}
use Rattle.sf_actor.specs.declared.done.Answered.TheVariants as answered
use Rattle.sf_actor.specs.declared.done.Done.{Done}
use Rattle.sf_actor.specs.declared.holding.Holding.{Holding}
use Rattle.sf_actor.specs.declared.holding.Holding.TheVariants as holding
use Rattle.sf_actor.specs.declared.tried.Reply.{Reply}
use Rattle.sf_actor.specs.Desks.{DeskHome, DeskView, has_queue, known_of, mark_among}
use Rattle.sf_actor.specs.Known.{share_of}
use Rattle.sf_actor.specs.Names.{Holdings, name_in}
use Rattle.sf_actor.specs.Holdings.{HoldingsOf, plain_of}
use Rattle.sf_actor.specs.Points.{detached_fence, frame_fence, or_none, requested_fence}
use Rattle.sf_actor.specs.Scripts.{queue_of}
use Rattle.sf_actor.specs.Tests.{bad_value, refusal_of}
use Rattle.sf_actor.specs.Tries.{ActorKept, ActorOf, SeesOpen, drawn_turn, ended_by, held_in, past_of}
use Rattle.sf_actor.proofs.TraceGrowth.{at_end}
use Rattle.sf_actor.proofs.AttachStep.{attach_keeps, attach_read_keeps}
use Rattle.sf_actor.proofs.DetachStep.{detach_keeps, detach_read_keeps, loose_of, loose_read}
use Rattle.sf_actor.proofs.FilledNames.{moved_held}
use Rattle.sf_actor.proofs.Forms.{IsQuiet}
use Rattle.sf_actor.proofs.LookStep.{look_keeps, open_keeps, seen_reached}
use Rattle.sf_actor.proofs.QueueMarks.{marked}
use Rattle.sf_actor.proofs.SignalledFences.{none_reached}
use Rattle.sf_actor.proofs.ReplyRecords.{attach_read_tells, attach_tells, detach_read_tells, detach_tells}
use Rattle.sf_actor_steps.specs.Acting.{Acts}
use Rattle.sf_actor_steps.specs.Actors.{parts_of}
use Rattle.sf_actor_steps.specs.Calling.{received, with_held}
use Rattle.sf_actor_steps.specs.inner.Coming.{Comes, IsReady, reply_with}
use Rattle.sf_actor_steps.specs.Doing.{MakesCall}
use Rattle.sf_actor_steps.specs.Forming.{joining, moving}
use Rattle.sf_actor_steps.specs.Bindings.{holdings_of}
use Rattle.sf_actor_steps.specs.Leaving.{FindsOpen, LooksFor}
use Rattle.sf_actor_steps.specs.declared.asking.Asking.{Asking}
use Rattle.sf_actor_steps.specs.declared.bindings.Bindings.{Bindings}
use Rattle.sf_actor_steps.specs.declared.tried.Tried.{Tried}
use Rattle.sf_actor_steps.specs.declared.tried.Tried.TheVariants as tried
use Rattle.sf_actor_steps.proofs.CallComings.{after_back, call_comes, called, ended_turn, ending_came, ends_left, ends_on, formed, held_there, kept_came, looks_looked, names_there, see_looked, there_moved, unlooked}
use Rattle.sf_actor_steps.proofs.HoldComings.{drawn_goes}
use Rattle.sf_actor_steps.proofs.OwnComings.{own_done}

-- an own answer of a step that its fence refuses is not that it was done
not_done : answered.Own bad_value ≡ answered.Own 0 → ⊥
not_done e = cc

module _ {B : Type 0} where
  pub attach_comes : (pictures : ℕ → Picture) (home : DeskHome) (actor : ActorOf B) (before after : Bindings B) (old new : DeskView B) (q from to : ℕ) (came_to : Tried) → IsReady pictures home actor before old (step.PAttach q from to) → refusal_of pictures (past_of actor).holdings (step.PAttach q from to) ≡ None → Acts pictures home actor.script.number (length actor.trace + 1) (step.PAttach q from to) before after old new came_to → Comes pictures home actor after old new came_to
  attach_comes pictures home actor before after old new q from to came_to ready unrefused makes =
      let s : Step = step.PAttach q from to in
      let last = makes.forms.0 in
      let loose = makes.forms.1 in
      let takes = makes.forms.2 in
      let asked : QCall B = call.Attach loose in
      let asking : Asking B = joining (queue_of q) from to last asked in
      let held = held_there pictures home actor before old s from (holding.Frees last loose) ready takes.held_there in
      let has = ready.playable.queue in
      let size = names_there pictures home actor before old s ready in
      let from_below = ready.playable.ranges.0.below in
      let to_below = ready.playable.ranges.1.below in
      let low_from : from < length actor.parts.names = omega (arith, size, from_below) in
      let low_to : to < length actor.parts.names = omega (arith, size, to_below) in
      let queue = (mark_among home.marks q).queue in
      let marking = marked home q has in
      call_comes pictures home actor s (with_held before from None) after after old old new asking came_to refl refl (unlooked home old)
      (formed home actor.script.number (length actor.trace + 1) makes.asking asking makes.taken (with_held before from None) after old new came_to takes.rest makes.forms.3 makes.tries)
      (λ reply called_view was made ends bindings.
      elim (attach_keeps pictures actor q from to last loose home old called_view reply ready.is_next ready.keeps.kept unrefused held low_from low_to to_below marking made) [
        | inl given ↦
            let now = holding.Lends (attached_lease queue given.0 given.1 loose) in
            kept_came pictures home actor s after called_view new queue asked reply (moved_held actor.parts from to now)
            (λ told is. attach_tells queue q from to loose (past_of actor).holdings told reply is)
            refl (ap (λ (r : QReply B). r.ends) given.2) ends given.3
            (ap (λ (h : Bindings B). parts_of h) (bindings ∙ ap (received asking.homes (with_held before from None)) given.2) ∙ ap (λ (p : HoldingsOf B). moved_held p from to now) (sym ready.parts))
            (there_moved home actor.parts from to now low_from low_to ready.keeps.there (subst (λ (of : QueueId). has_queue home of.0 ≡ true) (sym marking) has))
        | inr refused ↦
            kept_came pictures home actor s after called_view new queue asked reply actor.parts
            (λ told is. attach_tells queue q from to loose (past_of actor).holdings told reply is)
            refl (ap (λ (r : QReply B). r.ends) refused.1) ends refused.2
            (ap (λ (h : Bindings B). parts_of h) (bindings ∙ ap (received asking.homes (with_held before from None)) refused.1) ∙ after_back actor before from (holding.Frees last loose) ready.parts takes.held_there)
            ready.keeps.there
      ])

  pub attach_read_comes : (pictures : ℕ → Picture) (home : DeskHome) (actor : ActorOf B) (before after : Bindings B) (old new : DeskView B) (q from to : ℕ) (came_to : Tried) → IsReady pictures home actor before old (step.CAttach q from to) → refusal_of pictures (past_of actor).holdings (step.CAttach q from to) ≡ None → Acts pictures home actor.script.number (length actor.trace + 1) (step.CAttach q from to) before after old new came_to → Comes pictures home actor after old new came_to
  attach_read_comes pictures home actor before after old new q from to came_to ready unrefused makes =
      let s : Step = step.CAttach q from to in
      let last = makes.forms.0 in
      let loose = makes.forms.1 in
      let takes = makes.forms.2 in
      let asked : QCall B = call.AttachRead loose in
      let asking : Asking B = joining (queue_of q) from to last asked in
      let held = held_there pictures home actor before old s from (holding.Frees last loose) ready takes.held_there in
      let has = ready.playable.queue in
      let size = names_there pictures home actor before old s ready in
      let from_below = ready.playable.ranges.0.below in
      let to_below = ready.playable.ranges.1.below in
      let low_from : from < length actor.parts.names = omega (arith, size, from_below) in
      let low_to : to < length actor.parts.names = omega (arith, size, to_below) in
      let queue = (mark_among home.marks q).queue in
      let marking = marked home q has in
      call_comes pictures home actor s (with_held before from None) after after old old new asking came_to refl refl (unlooked home old)
      (formed home actor.script.number (length actor.trace + 1) makes.asking asking makes.taken (with_held before from None) after old new came_to takes.rest makes.forms.3 makes.tries)
      (λ reply called_view was made ends bindings.
      elim (attach_read_keeps pictures actor q from to last loose home old called_view reply ready.is_next ready.keeps.kept unrefused held low_from low_to to_below marking made) [
        | inl given ↦
            let now = holding.Reads (own_lease queue given.0 given.1 loose) in
            kept_came pictures home actor s after called_view new queue asked reply (moved_held actor.parts from to now)
            (λ told is. attach_read_tells queue q from to loose (past_of actor).holdings told reply is)
            refl (ap (λ (r : QReply B). r.ends) given.2) ends given.3
            (ap (λ (h : Bindings B). parts_of h) (bindings ∙ ap (received asking.homes (with_held before from None)) given.2) ∙ ap (λ (p : HoldingsOf B). moved_held p from to now) (sym ready.parts))
            (there_moved home actor.parts from to now low_from low_to ready.keeps.there (subst (λ (of : QueueId). has_queue home of.0 ≡ true) (sym marking) has))
        | inr refused ↦
            kept_came pictures home actor s after called_view new queue asked reply actor.parts
            (λ told is. attach_read_tells queue q from to loose (past_of actor).holdings told reply is)
            refl (ap (λ (r : QReply B). r.ends) refused.1) ends refused.2
            (ap (λ (h : Bindings B). parts_of h) (bindings ∙ ap (received asking.homes (with_held before from None)) refused.1) ∙ after_back actor before from (holding.Frees last loose) ready.parts takes.held_there)
            ready.keeps.there
      ])

  -- the bindings hold what the trace tells
  pub bindings_told : (pictures : ℕ → Picture) (home : DeskHome) (actor : ActorOf B) (before : Bindings B) (old : DeskView B) (s : Step) → IsReady pictures home actor before old s → holdings_of before ≡ (past_of actor).holdings
  bindings_told pictures home actor before old s ready = ap (λ (p : HoldingsOf B). plain_of p) (sym ready.parts) ∙ ready.keeps.kept.has

  -- a look before a detach leaves what the actor keeps, and shows that the fence is reached
  looks_keep : (pictures : ℕ → Picture) (home : DeskHome) (actor : ActorOf B) (fence : Option Fence) (old looked : DeskView B) → LooksFor home fence old looked → ActorKept pictures actor (share_of actor.script.number (known_of home old)) → ActorKept pictures actor (share_of actor.script.number (known_of home looked))
  looks_keep pictures home actor None old looked same is = subst (λ (view : DeskView B). ActorKept pictures actor (share_of actor.script.number (known_of home view))) (sym same) is
  looks_keep pictures home actor (Some fence) old looked (seen, sees, signalled, changes) is = look_keeps pictures actor home old looked seen changes sees is

  looks_reach : (home : DeskHome) (fence : Option Fence) (old looked : DeskView B) → LooksFor home fence old looked → IsSignalled (or_none fence) (known_of home looked).values
  looks_reach home None old looked same = none_reached (known_of home looked).values
  looks_reach home (Some fence) old looked (seen, sees, signalled, changes) = seen_reached home old looked seen fence sees signalled

  -- what is the same where a look shows that the fence is open
  record IsDetach (pictures : ℕ → Picture) (actor : ActorOf B) (s : Step) : Type 0 where
    pub quiet : IsQuiet (at_end actor.trace (record { step = s; answered = answered.Own bad_value }))
    pub unrefused : refusal_of pictures (past_of actor).holdings s ≡ None

  open_comes : (pictures : ℕ → Picture) (home : DeskHome) (actor : ActorOf B) (before after : Bindings B) (old new : DeskView B) (s : Step) (fence : Option Fence) (status : ℕ) → IsReady pictures home actor before old s → IsDetach pictures actor s → detached_fence (past_of actor).holdings s ≡ fence → status ≡ 11 → after ≡ before → FindsOpen home fence old new → Comes pictures home actor after old new (tried.Own status)
  open_comes pictures home actor before after old new s None status ready form fenced is same finds = absurd finds
  open_comes pictures home actor before after old new s (Some fence) status ready form fenced is same (seen, sees, unmet, changes) =
      let by = actor.script.number in
      let step_number : ℕ = length actor.trace + 1 in
      let done : Done = record { step = s; answered = answered.Own bad_value } in
      let shown : Reply = reply_with by step_number bad_value [] in
      let looked = see_looked home old new seen sees changes in
      subst (λ (number : ℕ). Comes pictures home actor after old new (tried.Own number)) (sym is)
      (own_done pictures home actor after old new done actor.parts shown refl
      (record {
        signals = looked.signals ∙ sym (append-nil old.times.signals) ∙ ap (λ (points : List (ℕ × ℕ)). old.times.signals ++ points) (sym form.quiet.signals);
        ended = looked.leaves ∙ sym (append-nil old.turns.leaves);
        entered = λ name picture drawn own. absurd (not_done own);
        refused = λ other others unrefused own. subst (λ (f : Fence). SeesOpen home old new f) (one other (sym fenced ∙ others)) (seen, sees, unmet);
        alone = λ exact other apart. looked.goes other;
        has = ap (λ (h : Bindings B). parts_of h) same ∙ sym ready.parts;
        kept = open_keeps pictures actor s fence home old new seen ready.is_next ready.keeps.kept form.unrefused fenced form.quiet changes sees unmet;
        there = ready.keeps.there;
      }))
    where
      one : (other : Fence) → Some fence ≡ Some other → fence ≡ other
      one other e = cc

  detach_ended : (queue : QueueId) (parts : HoldingsOf B) (from to : ℕ) (lease : WriteLeaseOf) (told : PlainReply) (reply : QReply B) → held_in parts from ≡ Some (holding.Lends lease) → IsReply queue (call.Detach lease) told reply → ended_turn reply.ends ≡ ended_by parts (called (step.PDetach from to) told)
  detach_ended queue parts from to lease (plain.Refused cause) reply held is = ap (λ (r : QReply B). ended_turn r.ends) is
  detach_ended queue parts from to lease plain.Done reply held is = ap (λ (r : QReply B). ended_turn r.ends) is ∙ drawn_goes B lease lease.work ∙ ap drawn_turn (sym held)
  detach_ended queue parts from to lease (plain.Dequeued slot buffer requested reallocated other) reply held is = absurd is
  detach_ended queue parts from to lease (plain.Requested buffer) reply held is = absurd is
  detach_ended queue parts from to lease (plain.Queued frame) reply held is = absurd is
  detach_ended queue parts from to lease (plain.Attached slot buffer) reply held is = absurd is
  detach_ended queue parts from to lease (plain.Acquired item dropped) reply held is = absurd is

  -- a detach whose fence was reached makes its call
  detach_called : (pictures : ℕ → Picture) (home : DeskHome) (actor : ActorOf B) (before after : Bindings B) (old looked new : DeskView B) (from to : ℕ) (fence : Option Fence) (came_to : Tried) → IsReady pictures home actor before old (step.PDetach from to) → refusal_of pictures (past_of actor).holdings (step.PDetach from to) ≡ None → fence ≡ requested_fence (name_in (past_of actor).holdings from) → LooksFor home fence old looked → MakesCall pictures home actor.script.number (length actor.trace + 1) (step.PDetach from to) before after looked new came_to → Comes pictures home actor after old new came_to
  detach_called pictures home actor before after old looked new from to fence came_to ready unrefused fenced look makes =
      let by = actor.script.number in
      let s : Step = step.PDetach from to in
      let lease = makes.forms.0 in
      let takes = makes.forms.1 in
      let asked : QCall B = call.Detach lease in
      let asking : Asking B = moving lease.queue from to lease.held asked in
      let held = held_there pictures home actor before old s from (holding.Lends lease) ready takes.held_there in
      let there = ready.keeps.there.names from (holding.Lends lease) held in
      let size = names_there pictures home actor before old s ready in
      let from_below = ready.playable.ranges.0.below in
      let to_below = ready.playable.ranges.1.below in
      let low_from : from < length actor.parts.names = omega (arith, size, from_below) in
      let low_to : to < length actor.parts.names = omega (arith, size, to_below) in
      let queue = (mark_among home.marks lease.queue.0).queue in
      let kept = looks_keep pictures home actor fence old looked look ready.keeps.kept in
      let reached = subst (λ (f : Option Fence). IsSignalled (or_none f) (known_of home looked).values) fenced (looks_reach home fence old looked look) in
      call_comes pictures home actor s (with_held before from None) after after old looked new asking came_to refl refl (looks_looked home fence old looked look)
      (formed home by (length actor.trace + 1) makes.asking asking makes.taken (with_held before from None) after looked new came_to takes.rest makes.forms.2 makes.tries)
      (λ reply called_view was made ends bindings.
      elim (detach_keeps pictures actor from to lease home looked called_view reply (share_of by (known_of home new)) ready.is_next kept unrefused reached held low_from low_to to_below (marked home lease.queue.0 there) made (ends_on by home reply.ends called_view new ends) (ends_left reply.ends called_view new ends)) [
        | inl given ↦
            let now : Holding B = holding.Frees lease.queue (loose_of lease) in
            ending_came pictures home actor s after new queue asked reply (moved_held actor.parts from to now)
            (λ told is. detach_tells queue from to lease (past_of actor).holdings told reply is)
            (λ told is. detach_ended queue actor.parts from to lease told reply held is)
            given.1
            (ap (λ (h : Bindings B). parts_of h) (bindings ∙ ap (received asking.homes (with_held before from None)) given.0) ∙ ap (λ (p : HoldingsOf B). moved_held p from to now) (sym ready.parts))
            (there_moved home actor.parts from to now low_from low_to ready.keeps.there there)
        | inr refused ↦
            ending_came pictures home actor s after new queue asked reply actor.parts
            (λ told is. detach_tells queue from to lease (past_of actor).holdings told reply is)
            (λ told is. detach_ended queue actor.parts from to lease told reply held is)
            refused.2
            (ap (λ (h : Bindings B). parts_of h) (bindings ∙ ap (received asking.homes (with_held before from None)) refused.1) ∙ after_back actor before from (holding.Lends lease) ready.parts takes.held_there)
            ready.keeps.there
      ])

  pub detach_comes : (pictures : ℕ → Picture) (home : DeskHome) (actor : ActorOf B) (before after : Bindings B) (old new : DeskView B) (from to : ℕ) (came_to : Tried) → IsReady pictures home actor before old (step.PDetach from to) → refusal_of pictures (past_of actor).holdings (step.PDetach from to) ≡ None → Acts pictures home actor.script.number (length actor.trace + 1) (step.PDetach from to) before after old new came_to → Comes pictures home actor after old new came_to
  detach_comes pictures home actor before after old new from to (tried.Own status) ready unrefused acts =
      let s : Step = step.PDetach from to in
      let fenced = ap (λ (holdings : Holdings). requested_fence (name_in holdings from)) (bindings_told pictures home actor before old s ready) in
      open_comes pictures home actor before after old new s (requested_fence (name_in (holdings_of before) from)) status ready
      (record { quiet = record { signals = refl; pays = refl; enters = refl; shows = refl }; unrefused = unrefused }) (sym fenced) acts.0 acts.1 acts.2
  detach_comes pictures home actor before after old new from to (tried.Called status values) ready unrefused acts =
      detach_called pictures home actor before after old acts.0 new from to (requested_fence (name_in (holdings_of before) from)) (tried.Called status values) ready unrefused
      (ap (λ (holdings : Holdings). requested_fence (name_in holdings from)) (bindings_told pictures home actor before old (step.PDetach from to) ready)) acts.1 acts.2
  detach_comes pictures home actor before after old new from to (tried.Sent number) ready unrefused acts =
      detach_called pictures home actor before after old acts.0 new from to (requested_fence (name_in (holdings_of before) from)) (tried.Sent number) ready unrefused
      (ap (λ (holdings : Holdings). requested_fence (name_in holdings from)) (bindings_told pictures home actor before old (step.PDetach from to) ready)) acts.1 acts.2
  detach_comes pictures home actor before after old new from to tried.NotYet ready unrefused acts =
      detach_called pictures home actor before after old acts.0 new from to (requested_fence (name_in (holdings_of before) from)) tried.NotYet ready unrefused
      (ap (λ (holdings : Holdings). requested_fence (name_in holdings from)) (bindings_told pictures home actor before old (step.PDetach from to) ready)) acts.1 acts.2

  -- and so does a detach of a frame
  detach_read_called : (pictures : ℕ → Picture) (home : DeskHome) (actor : ActorOf B) (before after : Bindings B) (old looked new : DeskView B) (from to : ℕ) (fence : Option Fence) (came_to : Tried) → IsReady pictures home actor before old (step.CDetach from to) → refusal_of pictures (past_of actor).holdings (step.CDetach from to) ≡ None → fence ≡ frame_fence (name_in (past_of actor).holdings from) → LooksFor home fence old looked → MakesCall pictures home actor.script.number (length actor.trace + 1) (step.CDetach from to) before after looked new came_to → Comes pictures home actor after old new came_to
  detach_read_called pictures home actor before after old looked new from to fence came_to ready unrefused fenced look makes =
      let by = actor.script.number in
      let s : Step = step.CDetach from to in
      let lease = makes.forms.0 in
      let takes = makes.forms.1 in
      let asked : QCall B = call.DetachRead lease in
      let asking : Asking B = moving lease.queue from to lease.held asked in
      let held = held_there pictures home actor before old s from (holding.Reads lease) ready takes.held_there in
      let there = ready.keeps.there.names from (holding.Reads lease) held in
      let size = names_there pictures home actor before old s ready in
      let from_below = ready.playable.ranges.0.below in
      let to_below = ready.playable.ranges.1.below in
      let low_from : from < length actor.parts.names = omega (arith, size, from_below) in
      let low_to : to < length actor.parts.names = omega (arith, size, to_below) in
      let queue = (mark_among home.marks lease.queue.0).queue in
      let kept = looks_keep pictures home actor fence old looked look ready.keeps.kept in
      let reached = subst (λ (f : Option Fence). IsSignalled (or_none f) (known_of home looked).values) fenced (looks_reach home fence old looked look) in
      call_comes pictures home actor s (with_held before from None) after after old looked new asking came_to refl refl (looks_looked home fence old looked look)
      (formed home by (length actor.trace + 1) makes.asking asking makes.taken (with_held before from None) after looked new came_to takes.rest makes.forms.2 makes.tries)
      (λ reply called_view was made ends bindings.
      elim (detach_read_keeps pictures actor from to lease home looked called_view reply ready.is_next kept unrefused reached held low_from low_to to_below (marked home lease.queue.0 there) made) [
        | inl given ↦
            let now : Holding B = holding.Frees lease.queue (loose_read lease) in
            kept_came pictures home actor s after called_view new queue asked reply (moved_held actor.parts from to now)
            (λ told is. detach_read_tells queue from to lease (past_of actor).holdings told reply is)
            refl (ap (λ (r : QReply B). r.ends) given.0) ends given.1
            (ap (λ (h : Bindings B). parts_of h) (bindings ∙ ap (received asking.homes (with_held before from None)) given.0) ∙ ap (λ (p : HoldingsOf B). moved_held p from to now) (sym ready.parts))
            (there_moved home actor.parts from to now low_from low_to ready.keeps.there there)
        | inr refused ↦
            kept_came pictures home actor s after called_view new queue asked reply actor.parts
            (λ told is. detach_read_tells queue from to lease (past_of actor).holdings told reply is)
            refl (ap (λ (r : QReply B). r.ends) refused.1) ends refused.2
            (ap (λ (h : Bindings B). parts_of h) (bindings ∙ ap (received asking.homes (with_held before from None)) refused.1) ∙ after_back actor before from (holding.Reads lease) ready.parts takes.held_there)
            ready.keeps.there
      ])

  pub detach_read_comes : (pictures : ℕ → Picture) (home : DeskHome) (actor : ActorOf B) (before after : Bindings B) (old new : DeskView B) (from to : ℕ) (came_to : Tried) → IsReady pictures home actor before old (step.CDetach from to) → refusal_of pictures (past_of actor).holdings (step.CDetach from to) ≡ None → Acts pictures home actor.script.number (length actor.trace + 1) (step.CDetach from to) before after old new came_to → Comes pictures home actor after old new came_to
  detach_read_comes pictures home actor before after old new from to (tried.Own status) ready unrefused acts =
      let s : Step = step.CDetach from to in
      let fenced = ap (λ (holdings : Holdings). frame_fence (name_in holdings from)) (bindings_told pictures home actor before old s ready) in
      open_comes pictures home actor before after old new s (frame_fence (name_in (holdings_of before) from)) status ready
      (record { quiet = record { signals = refl; pays = refl; enters = refl; shows = refl }; unrefused = unrefused }) (sym fenced) acts.0 acts.1 acts.2
  detach_read_comes pictures home actor before after old new from to (tried.Called status values) ready unrefused acts =
      detach_read_called pictures home actor before after old acts.0 new from to (frame_fence (name_in (holdings_of before) from)) (tried.Called status values) ready unrefused
      (ap (λ (holdings : Holdings). frame_fence (name_in holdings from)) (bindings_told pictures home actor before old (step.CDetach from to) ready)) acts.1 acts.2
  detach_read_comes pictures home actor before after old new from to (tried.Sent number) ready unrefused acts =
      detach_read_called pictures home actor before after old acts.0 new from to (frame_fence (name_in (holdings_of before) from)) (tried.Sent number) ready unrefused
      (ap (λ (holdings : Holdings). frame_fence (name_in holdings from)) (bindings_told pictures home actor before old (step.CDetach from to) ready)) acts.1 acts.2
  detach_read_comes pictures home actor before after old new from to tried.NotYet ready unrefused acts =
      detach_read_called pictures home actor before after old acts.0 new from to (frame_fence (name_in (holdings_of before) from)) tried.NotYet ready unrefused
      (ap (λ (holdings : Holdings). frame_fence (name_in holdings from)) (bindings_told pictures home actor before old (step.CDetach from to) ready)) acts.1 acts.2

-- What a step comes to whose call brings what a name holds, and that leaves something under the same name or nothing: a request,
-- a queueing, a cancel and a release.
use Rattle.std.proofs.Common.{◌≡◌, ℕ, ◌+◌, ◌<◌, true, List, length, inl, inr, arith, ap, ◌∙◌, sym, refl, subst, Option, Some, None}
use Rattle.std.specs.Option.{option_map}
use Rattle.sf_base.specs.Fences.{Fence, merged}
use Rattle.sf_base.specs.declared.geometry.Rect.{Rect}
use Rattle.sf_base.specs.declared.ids.QueueId.{QueueId}
use Rattle.sf_actor.specs.sf_picture.declared.picture.Picture.{Picture}
use Rattle.sf_actor.specs.sf_script_scene.declared.step.Step.{Step}
use Rattle.sf_actor.specs.sf_script_scene.declared.step.Step.TheVariants as step
use Rattle.sf_actor.specs.sf_slots.declared.calls.PlainReply.{PlainReply}
use Rattle.sf_actor.specs.sf_slots.declared.calls.PlainReply.TheVariants as plain
use Rattle.sf_actor.specs.sf_slots.declared.slot.Held.{Held}
use Rattle.sf_actor.specs.sf_surface.declared.call.QCall.{QCall}
use Rattle.sf_actor.specs.sf_surface.declared.call.QCall.TheVariants as call
use Rattle.sf_actor.specs.sf_surface.declared.call.QReply.{QReply}
use Rattle.sf_actor.specs.sf_surface.declared.work.Work.{Work}
use Rattle.sf_actor.specs.sf_surface.declared.work.Work.TheVariants as work
use Rattle.sf_actor.specs.sf_surface.Hands.{IsReply, owes, owing_of, requested_lease}
use Rattle.sf_actor.specs.sf_surface.Tokens.{WriteLeaseOf, ending_drawn, ending_of}
use Rattle.sf_actor.specs.declared.holding.Holding.{Holding}
use Rattle.sf_actor.specs.declared.holding.Holding.TheVariants as holding
use Rattle.sf_actor.specs.Desks.{DeskHome, DeskView, has_queue, known_of, mark_among}
use Rattle.sf_actor.specs.Known.{share_of}
use Rattle.sf_actor.specs.Holdings.{HoldingsOf, drawn_picture, queue_held, token_of}
use Rattle.sf_actor.specs.Scripts.{crop_of, fence_of}
use Rattle.sf_actor.specs.Tests.{refusal_of}
use Rattle.sf_actor.specs.Tries.{ActorOf, drawn_turn, ended_by, held_in, past_of}
use Rattle.sf_actor.proofs.BroughtTokens.{names_told}
use Rattle.sf_actor.proofs.CancelStep.{cancel_keeps}
use Rattle.sf_actor.proofs.CancelStep.{cancel_fence as fence_of_cancel}
use Rattle.sf_actor.proofs.QueueMarks.{marked}
use Rattle.sf_actor.proofs.NameChanges.{with_held as parts_with}
use Rattle.sf_actor.proofs.QueueStep.{left_owed, queue_call, queue_keeps}
use Rattle.sf_actor.proofs.ReleaseStep.{release_keeps}
use Rattle.sf_actor.proofs.RequestStep.{request_keeps}
use Rattle.sf_actor.proofs.ReplyRecords.{cancel_tells, queue_tells, release_tells, request_tells}
use Rattle.sf_actor_steps.specs.Acting.{Acts}
use Rattle.sf_actor_steps.specs.Actors.{parts_of}
use Rattle.sf_actor_steps.specs.Calling.{placed, received, with_held}
use Rattle.sf_actor_steps.specs.inner.Coming.{Comes, IsReady}
use Rattle.sf_actor_steps.specs.Forming.{cancel_fence, moving}
use Rattle.sf_actor_steps.specs.declared.asking.Asking.{Asking}
use Rattle.sf_actor_steps.specs.declared.asking.Homes.{Homes}
use Rattle.sf_actor_steps.specs.declared.bindings.Bindings.{Bindings}
use Rattle.sf_actor_steps.specs.declared.tried.Tried.{Tried}
use Rattle.sf_actor_steps.proofs.CallComings.{after_again, after_back, call_comes, called, ended_turn, ending_came, ends_left, ends_on, formed, held_there, kept_came, names_there, parts_again, there_filled, there_with, unlooked}

-- the turn of a drawn lease is the one that ends
drawn_leaves : (B : Type 0) (lease : WriteLeaseOf) (picture : Picture) (w : Work) → ended_turn (ending_of w picture) ≡ drawn_turn {B = B} (Some (holding.Lends (record lease { work = w })))
drawn_leaves B lease picture (work.Fresh turn) = refl
drawn_leaves B lease picture (work.Drawn inside pixels) = refl

pub drawn_goes : (B : Type 0) (lease : WriteLeaseOf) (w : Work) → ended_turn (ending_drawn w) ≡ drawn_turn {B = B} (Some (holding.Lends (record lease { work = w })))
drawn_goes B lease (work.Fresh turn) = refl
drawn_goes B lease (work.Drawn inside pixels) = refl

-- the fence of a cancel
same_fence : (w : Work) (points fence : Fence) → cancel_fence w points fence ≡ fence_of_cancel points fence w
same_fence (work.Fresh turn) points fence = refl
same_fence (work.Drawn inside pixels) points fence = refl

module _ {B : Type 0} where
  pub request_comes : (pictures : ℕ → Picture) (home : DeskHome) (actor : ActorOf B) (before after : Bindings B) (old new : DeskView B) (name : ℕ) (came_to : Tried) → IsReady pictures home actor before old (step.Request name) → refusal_of pictures (past_of actor).holdings (step.Request name) ≡ None → Acts pictures home actor.script.number (length actor.trace + 1) (step.Request name) before after old new came_to → Comes pictures home actor after old new came_to
  request_comes pictures home actor before after old new name came_to ready unrefused makes =
      let s : Step = step.Request name in
      let lease = makes.forms.0 in
      let takes = makes.forms.1 in
      let asked : QCall B = call.Request lease in
      let asking : Asking B = moving lease.queue name name lease.held asked in
      let held = held_there pictures home actor before old s name (holding.Lends lease) ready takes.held_there in
      let there = ready.keeps.there.names name (holding.Lends lease) held in
      let size = names_there pictures home actor before old s ready in
      let below = ready.playable.ranges.below in
      let low : name < length actor.parts.names = omega (arith, size, below) in
      let queue = (mark_among home.marks lease.queue.0).queue in
      let named = names_told pictures actor _ name ready.keeps.kept ∙ ap (λ (h : Option (Holding B)). option_map token_of h) held in
      call_comes pictures home actor s (with_held before name None) after after old old new asking came_to refl refl (unlooked home old)
      (formed home actor.script.number (length actor.trace + 1) makes.asking asking makes.taken (with_held before name None) after old new came_to takes.rest makes.forms.2 makes.tries)
      (λ reply called_view was made ends bindings.
      elim (request_keeps pictures actor name lease home old called_view reply ready.is_next ready.keeps.kept unrefused held low below (marked home lease.queue.0 there) made) [
        | inl given ↦
            kept_came pictures home actor s after called_view new queue asked reply (parts_with actor.parts name (Some (holding.Lends (requested_lease lease))) actor.parts.stock)
            (λ told is. request_tells queue name lease (drawn_picture lease.work) (past_of actor).holdings told reply named is)
            refl (ap (λ (r : QReply B). r.ends) given.1) ends given.2
            (ap (λ (h : Bindings B). parts_of h) (bindings ∙ ap (received asking.homes (with_held before name None)) given.1) ∙ after_again actor before name (Some (holding.Lends (requested_lease lease))) ready.parts)
            (there_filled home actor.parts name (holding.Lends (requested_lease lease)) actor.parts.stock low ready.keeps.there there)
        | inr refused ↦
            kept_came pictures home actor s after called_view new queue asked reply actor.parts
            (λ told is. request_tells queue name lease (drawn_picture lease.work) (past_of actor).holdings told reply named is)
            refl (ap (λ (r : QReply B). r.ends) refused.1) ends refused.2
            (ap (λ (h : Bindings B). parts_of h) (bindings ∙ ap (received asking.homes (with_held before name None)) refused.1) ∙ after_back actor before name (holding.Lends lease) ready.parts takes.held_there)
            ready.keeps.there
      ])

  none_some : {P : Type 0} (now : Holding B) → None ≡ Some now → P
  none_some now e = absurd (apart e)
    where
      apart : None ≡ Some now → ⊥
      apart e = cc

  pub release_comes : (pictures : ℕ → Picture) (home : DeskHome) (actor : ActorOf B) (before after : Bindings B) (old new : DeskView B) (name : ℕ) (points : List (ℕ × ℕ)) (came_to : Tried) → IsReady pictures home actor before old (step.Release name points) → refusal_of pictures (past_of actor).holdings (step.Release name points) ≡ None → Acts pictures home actor.script.number (length actor.trace + 1) (step.Release name points) before after old new came_to → Comes pictures home actor after old new came_to
  release_comes pictures home actor before after old new name points came_to ready unrefused makes =
      let s : Step = step.Release name points in
      let lease = makes.forms.0 in
      let takes = makes.forms.1 in
      let fence = merged (fence_of points) lease.fence in
      let asked : QCall B = call.Release lease fence in
      let asking : Asking B = moving lease.queue name name lease.held asked in
      let held = held_there pictures home actor before old s name (holding.Reads lease) ready takes.held_there in
      let there = ready.keeps.there.names name (holding.Reads lease) held in
      let size = names_there pictures home actor before old s ready in
      let below = ready.playable.ranges.below in
      let low : name < length actor.parts.names = omega (arith, size, below) in
      let queue = (mark_among home.marks lease.queue.0).queue in
      call_comes pictures home actor s (with_held before name None) after after old old new asking came_to refl refl (unlooked home old)
      (formed home actor.script.number (length actor.trace + 1) makes.asking asking makes.taken (with_held before name None) after old new came_to takes.rest makes.forms.2 makes.tries)
      (λ reply called_view was made ends bindings.
      elim (release_keeps pictures actor name points lease home old called_view reply ready.is_next ready.keeps.kept held low (marked home lease.queue.0 there) made) [
        | inl given ↦
            kept_came pictures home actor s after called_view new queue asked reply (parts_with actor.parts name None actor.parts.stock)
            (λ told is. release_tells queue name points lease fence (past_of actor).holdings told reply is)
            refl (ap (λ (r : QReply B). r.ends) given.0) ends given.1
            (ap (λ (h : Bindings B). parts_of h) (bindings ∙ ap (received asking.homes (with_held before name None)) given.0) ∙ ap (λ (p : HoldingsOf B). parts_with p name None p.stock) (sym ready.parts))
            (there_with home actor.parts name None actor.parts.stock low ready.keeps.there (λ now e. none_some now e))
        | inr refused ↦
            kept_came pictures home actor s after called_view new queue asked reply actor.parts
            (λ told is. release_tells queue name points lease fence (past_of actor).holdings told reply is)
            refl (ap (λ (r : QReply B). r.ends) refused.1) ends refused.2
            (ap (λ (h : Bindings B). parts_of h) (bindings ∙ ap (received asking.homes (with_held before name None)) refused.1) ∙ after_back actor before name (holding.Reads lease) ready.parts takes.held_there)
            ready.keeps.there
      ])

  -- the turn that ends is the one that the name held
  queue_ended : (queue : QueueId) (parts : HoldingsOf B) (name p : ℕ) (time : Option ℕ) (crop : Option (ℕ × ℕ × ℕ × ℕ)) (points : List (ℕ × ℕ)) (lease : WriteLeaseOf) (picture : Picture) (shown : Rect) (fence : Fence) (told : PlainReply) (reply : QReply B) → held_in parts name ≡ Some (holding.Lends lease) → IsReply queue (call.Queue lease picture time shown fence) told reply → ended_turn reply.ends ≡ ended_by parts (called (step.Queue name p time crop points) told)
  queue_ended queue parts name p time crop points lease picture shown fence (plain.Refused cause) reply held is = ap (λ (r : QReply B). ended_turn r.ends) is
  queue_ended queue parts name p time crop points lease picture shown fence plain.Done reply held is = absurd is
  queue_ended queue parts name p time crop points lease picture shown fence (plain.Dequeued slot buffer requested reallocated other) reply held is = absurd is
  queue_ended queue parts name p time crop points lease picture shown fence (plain.Requested buffer) reply held is = absurd is
  queue_ended queue parts name p time crop points lease picture shown fence (plain.Queued frame) reply held is =
      ap (λ (r : QReply B). ended_turn r.ends) is ∙ drawn_leaves B lease picture lease.work ∙ ap drawn_turn (sym held)
  queue_ended queue parts name p time crop points lease picture shown fence (plain.Attached slot buffer) reply held is = absurd is
  queue_ended queue parts name p time crop points lease picture shown fence (plain.Acquired item dropped) reply held is = absurd is

  -- what the bindings hold of a lease that was queued
  queued_parts : (before : Bindings B) (homes : Homes) (name frame : ℕ) (queue : QueueId) (lease : WriteLeaseOf) (picture : Picture) (w : Work) → homes.lent ≡ name → homes.held ≡ lease.held → parts_of (placed homes (with_held before name None) (owes queue lease frame picture w)) ≡ parts_with (parts_of before) name (left_owed queue lease frame picture w) (parts_of before).stock
  queued_parts before homes name frame queue lease picture (work.Fresh turn) same buffer =
      ap (λ (n : ℕ). parts_of (with_held (with_held before name None) n (Some (holding.Owes (owing_of queue lease frame turn picture) homes.held)))) same
      ∙ ap (λ (h : Held). parts_of (with_held (with_held before name None) name (Some (holding.Owes (owing_of queue lease frame turn picture) h)))) buffer
      ∙ parts_again before name (Some (holding.Owes (owing_of queue lease frame turn picture) lease.held))
  queued_parts before homes name frame queue lease picture (work.Drawn inside pixels) same buffer = refl

  owed_queue : (home : DeskHome) (queue : QueueId) (lease : WriteLeaseOf) (frame : ℕ) (picture : Picture) (w : Work) (now : Holding B) → has_queue home queue.0 ≡ true → left_owed queue lease frame picture w ≡ Some now → has_queue home (queue_held now).0 ≡ true
  owed_queue home queue lease frame picture (work.Fresh turn) now there e = subst (λ (h : Holding B). has_queue home (queue_held h).0 ≡ true) (one e) there
    where
      one : Some (holding.Owes (owing_of queue lease frame turn picture) lease.held) ≡ Some now → holding.Owes (owing_of queue lease frame turn picture) lease.held ≡ now
      one e = cc
  owed_queue home queue lease frame picture (work.Drawn inside pixels) now there e = none_some now e

  pub queue_comes : (pictures : ℕ → Picture) (home : DeskHome) (actor : ActorOf B) (before after : Bindings B) (old new : DeskView B) (name p : ℕ) (time : Option ℕ) (crop : Option (ℕ × ℕ × ℕ × ℕ)) (points : List (ℕ × ℕ)) (came_to : Tried) → IsReady pictures home actor before old (step.Queue name p time crop points) → refusal_of pictures (past_of actor).holdings (step.Queue name p time crop points) ≡ None → Acts pictures home actor.script.number (length actor.trace + 1) (step.Queue name p time crop points) before after old new came_to → Comes pictures home actor after old new came_to
  queue_comes pictures home actor before after old new name p time crop points came_to ready unrefused makes =
      let by = actor.script.number in
      let s : Step = step.Queue name p time crop points in
      let lease = makes.forms.0 in
      let takes = makes.forms.1 in
      let asked : QCall B = queue_call lease (pictures p) time crop points in
      let asking : Asking B = moving lease.queue name name lease.held asked in
      let held = held_there pictures home actor before old s name (holding.Lends lease) ready takes.held_there in
      let there = ready.keeps.there.names name (holding.Lends lease) held in
      let size = names_there pictures home actor before old s ready in
      let below = ready.playable.ranges.0.below in
      let low : name < length actor.parts.names = omega (arith, size, below) in
      let queue = (mark_among home.marks lease.queue.0).queue in
      let marking = marked home lease.queue.0 there in
      let named = names_told pictures actor _ name ready.keeps.kept ∙ ap (λ (h : Option (Holding B)). option_map token_of h) held in
      call_comes pictures home actor s (with_held before name None) after after old old new asking came_to refl refl (unlooked home old)
      (formed home by (length actor.trace + 1) makes.asking asking makes.taken (with_held before name None) after old new came_to takes.rest makes.forms.2 makes.tries)
      (λ reply called_view was made ends bindings.
      elim (queue_keeps pictures actor name p time crop points lease home old called_view reply (share_of by (known_of home new)) ready.is_next ready.keeps.kept unrefused ready.pictured held low below marking made (ends_on by home reply.ends called_view new ends) (ends_left reply.ends called_view new ends)) [
        | inl given ↦
            let left : Option (Holding B) = left_owed queue lease given.0 (pictures p) lease.work in
            ending_came pictures home actor s after new queue asked reply (parts_with actor.parts name left actor.parts.stock)
            (λ told is. queue_tells queue name p time crop points lease (drawn_picture lease.work) (pictures p) (crop_of lease.held crop) (fence_of points) (past_of actor).holdings told reply named is)
            (λ told is. queue_ended queue actor.parts name p time crop points lease (pictures p) (crop_of lease.held crop) (fence_of points) told reply held is)
            given.2
            (ap (λ (h : Bindings B). parts_of h) (bindings ∙ ap (received asking.homes (with_held before name None)) given.1)
            ∙ queued_parts before asking.homes name given.0 queue lease (pictures p) lease.work refl refl
            ∙ ap (λ (parts : HoldingsOf B). parts_with parts name left parts.stock) (sym ready.parts))
            (there_with home actor.parts name left actor.parts.stock low ready.keeps.there
            (λ now e. owed_queue home queue lease given.0 (pictures p) lease.work now (subst (λ (of : QueueId). has_queue home of.0 ≡ true) (sym marking) there) e))
        | inr refused ↦
            ending_came pictures home actor s after new queue asked reply actor.parts
            (λ told is. queue_tells queue name p time crop points lease (drawn_picture lease.work) (pictures p) (crop_of lease.held crop) (fence_of points) (past_of actor).holdings told reply named is)
            (λ told is. queue_ended queue actor.parts name p time crop points lease (pictures p) (crop_of lease.held crop) (fence_of points) told reply held is)
            refused.2
            (ap (λ (h : Bindings B). parts_of h) (bindings ∙ ap (received asking.homes (with_held before name None)) refused.1) ∙ after_back actor before name (holding.Lends lease) ready.parts takes.held_there)
            ready.keeps.there
      ])

  cancel_ended : (queue : QueueId) (parts : HoldingsOf B) (name : ℕ) (points : List (ℕ × ℕ)) (lease : WriteLeaseOf) (fence : Fence) (told : PlainReply) (reply : QReply B) → held_in parts name ≡ Some (holding.Lends lease) → IsReply queue (call.Cancel lease fence) told reply → ended_turn reply.ends ≡ ended_by parts (called (step.Cancel name points) told)
  cancel_ended queue parts name points lease fence (plain.Refused cause) reply held is = ap (λ (r : QReply B). ended_turn r.ends) is
  cancel_ended queue parts name points lease fence plain.Done reply held is = ap (λ (r : QReply B). ended_turn r.ends) is ∙ drawn_goes B lease lease.work ∙ ap drawn_turn (sym held)
  cancel_ended queue parts name points lease fence (plain.Dequeued slot buffer requested reallocated other) reply held is = absurd is
  cancel_ended queue parts name points lease fence (plain.Requested buffer) reply held is = absurd is
  cancel_ended queue parts name points lease fence (plain.Queued frame) reply held is = absurd is
  cancel_ended queue parts name points lease fence (plain.Attached slot buffer) reply held is = absurd is
  cancel_ended queue parts name points lease fence (plain.Acquired item dropped) reply held is = absurd is

  pub cancel_comes : (pictures : ℕ → Picture) (home : DeskHome) (actor : ActorOf B) (before after : Bindings B) (old new : DeskView B) (name : ℕ) (points : List (ℕ × ℕ)) (came_to : Tried) → IsReady pictures home actor before old (step.Cancel name points) → refusal_of pictures (past_of actor).holdings (step.Cancel name points) ≡ None → Acts pictures home actor.script.number (length actor.trace + 1) (step.Cancel name points) before after old new came_to → Comes pictures home actor after old new came_to
  cancel_comes pictures home actor before after old new name points came_to ready unrefused makes =
      let by = actor.script.number in
      let s : Step = step.Cancel name points in
      let lease = makes.forms.0 in
      let takes = makes.forms.1 in
      let fence = fence_of_cancel (fence_of points) lease.fence lease.work in
      let asked : QCall B = call.Cancel lease fence in
      let asking : Asking B = moving lease.queue name name lease.held asked in
      let held = held_there pictures home actor before old s name (holding.Lends lease) ready takes.held_there in
      let there = ready.keeps.there.names name (holding.Lends lease) held in
      let size = names_there pictures home actor before old s ready in
      let below = ready.playable.ranges.below in
      let low : name < length actor.parts.names = omega (arith, size, below) in
      let queue = (mark_among home.marks lease.queue.0).queue in
      let forms : makes.asking ≡ asking = makes.forms.2 ∙ ap (λ (f : Fence). moving lease.queue name name lease.held (call.Cancel lease f)) (same_fence lease.work (fence_of points) lease.fence) in
      call_comes pictures home actor s (with_held before name None) after after old old new asking came_to refl refl (unlooked home old)
      (formed home by (length actor.trace + 1) makes.asking asking makes.taken (with_held before name None) after old new came_to takes.rest forms makes.tries)
      (λ reply called_view was made ends bindings.
      elim (cancel_keeps pictures actor name points lease home old called_view reply (share_of by (known_of home new)) ready.is_next ready.keeps.kept held low (marked home lease.queue.0 there) made (ends_on by home reply.ends called_view new ends) (ends_left reply.ends called_view new ends)) [
        | inl given ↦
            ending_came pictures home actor s after new queue asked reply (parts_with actor.parts name None actor.parts.stock)
            (λ told is. cancel_tells queue name points lease fence (past_of actor).holdings told reply is)
            (λ told is. cancel_ended queue actor.parts name points lease fence told reply held is)
            given.1
            (ap (λ (h : Bindings B). parts_of h) (bindings ∙ ap (received asking.homes (with_held before name None)) given.0) ∙ ap (λ (p : HoldingsOf B). parts_with p name None p.stock) (sym ready.parts))
            (there_with home actor.parts name None actor.parts.stock low ready.keeps.there (λ now e. none_some now e))
        | inr refused ↦
            ending_came pictures home actor s after new queue asked reply actor.parts
            (λ told is. cancel_tells queue name points lease fence (past_of actor).holdings told reply is)
            (λ told is. cancel_ended queue actor.parts name points lease fence told reply held is)
            refused.2
            (ap (λ (h : Bindings B). parts_of h) (bindings ∙ ap (received asking.homes (with_held before name None)) refused.1) ∙ after_back actor before name (holding.Lends lease) ready.parts takes.held_there)
            ready.keeps.there
      ])

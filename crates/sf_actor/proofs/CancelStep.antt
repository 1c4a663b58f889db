-- What an actor keeps where it cancels a lease that a name holds: the drawing of a drawn one ends after the call.
use Rattle.std.proofs.Common.{◌≡◌, ℕ, ◌+◌, ◌<◌, ◌⊎◌, inl, inr, List, [], length, ap, ◌∙◌, sym, refl, subst, Option, Some, None}
use Rattle.std.specs.Option.{option_map}
use Rattle.std.proofs.lemmas.Bool.{false≢true}
use Rattle.sf_base.specs.Fences.{Fence, IsSignalled, merged, no_points}
use Rattle.sf_base.specs.declared.ids.QueueId.{QueueId}
use Rattle.sf_base.specs.declared.status.QStatus.{QStatus}
use Rattle.sf_script_scene.specs.sf_picture.declared.picture.Picture.{Picture}
use Rattle.sf_script_scene.specs.declared.step.Step.{Step}
use Rattle.sf_script_scene.specs.declared.step.Step.TheVariants as step
use Rattle.sf_surface.specs.sf_slots.declared.calls.PlainCall.TheVariants as plain_call
use Rattle.sf_surface.specs.sf_slots.declared.calls.PlainReply.{PlainReply}
use Rattle.sf_surface.specs.sf_slots.declared.calls.PlainReply.TheVariants as plain
use Rattle.sf_surface.specs.sf_slots.declared.calls.WriteToken.{WriteToken}
use Rattle.sf_surface.specs.declared.call.Gives.TheVariants as gives
use Rattle.sf_surface.specs.declared.call.QCall.{QCall}
use Rattle.sf_surface.specs.declared.call.QCall.TheVariants as call
use Rattle.sf_surface.specs.declared.call.QReply.{QReply}
use Rattle.sf_surface.specs.declared.work.Work.{Work}
use Rattle.sf_surface.specs.declared.work.Work.TheVariants as work
use Rattle.sf_surface.specs.Calls.{write_token}
use Rattle.sf_surface.specs.Hands.{IsReply, done_reply, refused_reply}
use Rattle.sf_surface.specs.Tokens.{WriteLeaseOf, ending_drawn}
use Rattle.sf_surface.specs.sf_turns.Views.{PermitView}
use Rattle.sf_actor.specs.declared.done.Answered.TheVariants as answered
use Rattle.sf_actor.specs.declared.done.Done.{Done}
use Rattle.sf_actor.specs.declared.holding.Holding.{Holding}
use Rattle.sf_actor.specs.declared.holding.Holding.TheVariants as holding
use Rattle.sf_actor.specs.Asking.{Asked, call_of, cancel_of}
use Rattle.sf_actor.specs.Desks.{DeskHome, DeskView, MadeCall, known_of, mark_among}
use Rattle.sf_actor.specs.Known.{Share, ShareGoesOn, share_of}
use Rattle.sf_actor.specs.Names.{Holdings, Lent, name_in, with_name}
use Rattle.sf_actor.specs.Holdings.{drawn_picture, token_of}
use Rattle.sf_actor.specs.Points.{shown_next}
use Rattle.sf_actor.specs.Rights.{EndsIn, MadeWith}
use Rattle.sf_actor.specs.Scripts.{fence_of}
use Rattle.sf_actor.specs.Steps.{holdings_next}
use Rattle.sf_actor.specs.Tests.{refusal_of}
use Rattle.sf_actor.specs.Tries.{ActorKept, ActorOf, held_in, next_step, past_of}
use Rattle.sf_actor.proofs.TraceGrowth.{at_end}
use Rattle.sf_actor.proofs.BroughtTokens.{brings_held, names_told, refused_call_keeps}
use Rattle.sf_actor.proofs.FilledNames.{KeepsWith}
use Rattle.sf_actor.proofs.Forms.{answered_by_call}
use Rattle.sf_actor.proofs.GoingOn.{signalled_on}
use Rattle.sf_actor.proofs.CallShare.{CallsOnce, OneMore, answer_told, call_adds, joined, made_call, one_more, only, only_one, then_goes}
use Rattle.sf_actor.proofs.StepKeepsActor.{actor_with, permits_stay}
use Rattle.sf_actor.proofs.NameChanges.{name_moves, with_held}
use Rattle.sf_actor.proofs.SignalledFences.{merged_reached, none_reached}

-- the fence that is handed in: with that of the dequeue where nothing was drawn
abbrev pub cancel_fence : Fence → Fence → Work → Fence
cancel_fence points fence (work.Fresh turn) = merged points fence
cancel_fence points fence (work.Drawn inside pixels) = points

cancel_asks : (points : Fence) (queue : QueueId) (token : WriteToken) (w : Work) → cancel_of points (Some (Lent queue token (drawn_picture w))) ≡ Some (queue, plain_call.Cancel token (cancel_fence points token.fence w))
cancel_asks points queue token (work.Fresh turn) = refl
cancel_asks points queue token (work.Drawn inside pixels) = refl

no_test : (pictures : ℕ → Picture) (holdings : Holdings) (name : ℕ) (points : List (ℕ × ℕ)) (queue : QueueId) (token : WriteToken) (drawn : Option ℕ) → name_in holdings name ≡ Some (Lent queue token drawn) → refusal_of pictures holdings (step.Cancel name points) ≡ None
unfolding refusal_of
no_test pictures holdings name points queue token drawn named = rw named refl

emptied : (holdings : Holdings) (name : ℕ) (points : List (ℕ × ℕ)) (told : PlainReply) → told ≡ plain.Done → holdings_next holdings (record { step = step.Cancel name points; answered = answered.Called told }) ≡ with_name holdings name None
unfolding holdings_next
emptied holdings name points told done = rw done refl

-- the step with the answer of its call
abbrev pub cancelling : ℕ → List (ℕ × ℕ) → PlainReply → Done
cancelling name points told = record { step = step.Cancel name points; answered = answered.Called told }

-- the call of the step
abbrev pub cancel_asked : List (ℕ × ℕ) → WriteLeaseOf → Asked
cancel_asked points lease = (lease.queue, plain_call.Cancel (write_token lease.queue lease) (cancel_fence (fence_of points) lease.fence lease.work))

module _ {B : Type 0} where
  -- the same with its tokens
  abbrev pub cancel_call : List (ℕ × ℕ) → WriteLeaseOf → QCall B
  cancel_call points lease = call.Cancel lease (cancel_fence (fence_of points) lease.fence lease.work)

  -- a cancel is done, or refused with the lease back
  told_cases : (queue : QueueId) (lease : WriteLeaseOf) (fence : Fence) (told : PlainReply) (reply : QReply B) → IsReply queue (call.Cancel lease fence) told reply → ((told ≡ plain.Done) × (reply ≡ done_reply [] gives.Nothing (ending_drawn lease.work) None)) ⊎ ((cause : QStatus) × (told ≡ plain.Refused cause) × (reply ≡ refused_reply cause (call.Cancel lease fence)))
  told_cases queue lease fence (plain.Refused cause) reply is = inr (cause, refl, is)
  told_cases queue lease fence plain.Done reply is = inl (refl, is)
  told_cases queue lease fence (plain.Dequeued slot held requested reallocated points) reply is = absurd is
  told_cases queue lease fence (plain.Requested held) reply is = absurd is
  told_cases queue lease fence (plain.Queued frame) reply is = absurd is
  told_cases queue lease fence (plain.Attached slot held) reply is = absurd is
  told_cases queue lease fence (plain.Acquired item dropped) reply is = absurd is

  pub cancel_calls : (pictures : ℕ → Picture) (actor : ActorOf B) (name : ℕ) (points : List (ℕ × ℕ)) (lease : WriteLeaseOf) (home : DeskHome) (old new : DeskView B) (reply : QReply B) (after : Share B) → ActorKept pictures actor (share_of actor.script.number (known_of home old)) → held_in actor.parts name ≡ Some (holding.Lends lease) → (mark_among home.marks lease.queue.0).queue ≡ lease.queue → (made : MadeCall home old new actor.script.number lease.queue.0 (length actor.trace + 1, cancel_call points lease) reply) → EndsIn after.left reply.ends →
      (let c = made_call home old new actor.script.number lease.queue.0 (length actor.trace + 1, cancel_call points lease) reply made in CallsOnce pictures actor.stock (at_end actor.trace (cancelling name points c.told.reply)) (cancel_asked points lease) c (share_of actor.script.number (known_of home old)) after)
  cancel_calls pictures actor name points lease home old new reply after is holds marked made ends =
      let fence = cancel_fence (fence_of points) lease.fence lease.work in
      let c = made_call home old new actor.script.number lease.queue.0 (length actor.trace + 1, cancel_call points lease) reply made in
      let s : Step = step.Cancel name points in
      let at = at_end actor.trace (cancelling name points c.told.reply) in
      let share = share_of actor.script.number (known_of home old) in
      let token = write_token lease.queue lease in
      let named : name_in (past_of actor).holdings name ≡ Some (Lent lease.queue token (drawn_picture lease.work)) = names_told pictures actor share name is ∙ ap (option_map token_of) holds in
      let asks : call_of pictures (past_of actor).holdings s ≡ Some (cancel_asked points lease) = ap (cancel_of (fence_of points)) named ∙ cancel_asks (fence_of points) lease.queue token lease.work in
      record {
        asks = asks;
        replied = refl;
        answered = answered_by_call pictures after.values at (cancel_asked points lease) c.told.reply (no_test pictures (past_of actor).holdings name points lease.queue token (drawn_picture lease.work) named) refl refl asks refl refl;
        overtakes = refl;
        signals = refl;
        pays = refl;
        enters = refl;
        step = refl;
        call = ap (λ (queue : QueueId). plain_call.Cancel (write_token queue lease) fence) marked;
        shows = tt;
        brings = brings_held pictures actor share s name (holding.Lends lease) (cancel_call points lease) is refl holds refl;
        permits = λ permit brings. absurd (some_none permit brings);
        new_one = λ number other earlier there mine theirs. absurd (false≢true mine);
        ends = ends;
      }
    where
      some_none : (permit : PermitView) → None ≡ Some permit → ⊥
      some_none permit e = cc

  -- A cancel that is done leaves the name empty; one that the queue refuses hands the lease back, and moves nothing.
  pub cancel_keeps : (pictures : ℕ → Picture) (actor : ActorOf B) (name : ℕ) (points : List (ℕ × ℕ)) (lease : WriteLeaseOf) (home : DeskHome) (old new : DeskView B) (reply : QReply B) (after : Share B) → next_step actor ≡ Some (step.Cancel name points) → ActorKept pictures actor (share_of actor.script.number (known_of home old)) → held_in actor.parts name ≡ Some (holding.Lends lease) → name < length actor.parts.names → (mark_among home.marks lease.queue.0).queue ≡ lease.queue → MadeCall home old new actor.script.number lease.queue.0 (length actor.trace + 1, cancel_call points lease) reply → ShareGoesOn (share_of actor.script.number (known_of home new)) after → EndsIn after.left reply.ends →
      ((reply ≡ done_reply [] gives.Nothing (ending_drawn lease.work) None) × KeepsWith pictures actor (step.Cancel name points) (mark_among home.marks lease.queue.0).queue (cancel_call points lease) reply (with_held actor.parts name None actor.parts.stock) after)
      ⊎ ((cause : QStatus) × (reply ≡ refused_reply cause (cancel_call points lease)) × KeepsWith pictures actor (step.Cancel name points) (mark_among home.marks lease.queue.0).queue (cancel_call points lease) reply actor.parts after)
  cancel_keeps pictures actor name points lease home old new reply after is_next is holds low marked made goes ends =
      let by = actor.script.number in
      let fence = cancel_fence (fence_of points) lease.fence lease.work in
      let asking : ℕ × QCall B = (length actor.trace + 1, cancel_call points lease) in
      let c = made_call home old new by lease.queue.0 asking reply made in
      let done = cancelling name points c.told.reply in
      let before = share_of by (known_of home old) in
      let asked = cancel_asked points lease in
      let more : OneMore lease.queue.0 c before after = then_goes lease.queue.0 c before (share_of by (known_of home new)) after (one_more home old new by lease.queue.0 asking reply made) goes in
      let calls = cancel_calls pictures actor name points lease home old new reply after is holds marked made ends in
      let reached : IsSignalled (shown_next (past_of actor).holdings (past_of actor).shown done) after.values =
      merged_reached (past_of actor).shown no_points after.values (signalled_on (past_of actor).shown before.values after.values more.values is.reached) (none_reached after.values) in
      let replies = answer_told home old new by lease.queue.0 asking reply made in
      elim (told_cases (mark_among home.marks lease.queue.0).queue lease fence c.told.reply reply replies) [
        | inl told ↦
            inl (
              told.1,
              record {
                told = c.told.reply;
                replies = replies;
                keeps = actor_with pictures actor done (with_held actor.parts name None actor.parts.stock) before after is_next is
                    (call_adds pictures actor.stock actor.trace (at_end actor.trace done) asked c before after calls more)
                    (name_moves pictures actor done name None actor.parts.stock before after (only asked c) is (record {
                      calls = joined asked c before after more;
                      low = low;
                      holdings = emptied (past_of actor).holdings name points c.told.reply told.0;
                      since = λ other apart. rw told.0 refl;
                      given = λ now e. absurd (none_some now e);
                      of_call = λ now e. absurd (none_some now e);
                      shows = λ now e. absurd (none_some now e);
                      reached = reached;
                      permits = permits_stay pictures actor done (with_held actor.parts name None actor.parts.stock) before after (only asked c) is refl (joined asked c before after more)
                          (λ number queue other there makes. false≢true (subst (MadeWith number) (sym (only_one asked c other queue there).0) makes));
                    }));
              },
            )
        | inr refused ↦ inr (refused.0, refused.2, record { told = c.told.reply; replies = replies; keeps = refused_call_keeps pictures actor (step.Cancel name points) asked c refused.0 before after is_next is calls more refused.1 (λ number makes. false≢true makes) reached })
      ]
    where
      none_some : (now : Holding B) → None ≡ Some now → ⊥
      none_some now e = cc

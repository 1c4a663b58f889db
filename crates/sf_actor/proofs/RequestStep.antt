-- What an actor keeps where it requests the buffer that a name holds: the lease stands there as a requested one.
use Rattle.std.proofs.Common.{◌≡◌, ℕ, ◌+◌, ◌<◌, ◌⊎◌, inl, inr, List, [], ◌∷◌, length, ap, ◌∙◌, refl, sym, subst, Option, Some, None}
use Rattle.std.specs.Option.{option_map}
use Rattle.std.proofs.lemmas.Bool.{false≢true}
use Rattle.sf_base.specs.declared.ids.QueueId.{QueueId}
use Rattle.sf_base.specs.declared.status.QStatus.{QStatus}
use Rattle.sf_script_scene.specs.sf_picture.declared.picture.Picture.{Picture}
use Rattle.sf_script_scene.specs.declared.step.Step.{Step}
use Rattle.sf_script_scene.specs.declared.step.Step.TheVariants as step
use Rattle.sf_surface.specs.sf_slots.declared.calls.PlainCall.TheVariants as plain_call
use Rattle.sf_surface.specs.sf_slots.declared.calls.PlainReply.{PlainReply}
use Rattle.sf_surface.specs.sf_slots.declared.calls.PlainReply.TheVariants as plain
use Rattle.sf_surface.specs.sf_slots.declared.slot.Held.{Held}
use Rattle.sf_surface.specs.declared.call.Gives.TheVariants as gives
use Rattle.sf_surface.specs.declared.call.QCall.{QCall}
use Rattle.sf_surface.specs.declared.call.QCall.TheVariants as call
use Rattle.sf_surface.specs.declared.call.QReply.{QReply}
use Rattle.sf_surface.specs.Calls.{write_token}
use Rattle.sf_surface.specs.Hands.{IsReply, done_reply, refused_reply, requested_lease}
use Rattle.sf_surface.specs.Tokens.{EndingOf, WriteLeaseOf, turn_of}
use Rattle.sf_surface.specs.sf_turns.Views.{PermitView}
use Rattle.sf_actor.specs.declared.done.Answered.TheVariants as answered
use Rattle.sf_actor.specs.declared.done.Done.{Done}
use Rattle.sf_actor.specs.declared.holding.Holding.TheVariants as holding
use Rattle.sf_actor.specs.Asking.{Asked, call_of, request_of}
use Rattle.sf_actor.specs.Desks.{DeskHome, DeskView, MadeCall, known_of, mark_among}
use Rattle.sf_actor.specs.Known.{share_of}
use Rattle.sf_actor.specs.Names.{Holdings, Lent, name_in, with_name}
use Rattle.sf_actor.specs.Holdings.{drawn_picture, token_of}
use Rattle.sf_actor.specs.Rights.{EndsIn, MadeWith, given_turn, turn_by}
use Rattle.sf_actor.specs.Steps.{holdings_next, is_refusal}
use Rattle.sf_actor.specs.Tests.{refusal_of}
use Rattle.sf_actor.specs.Tries.{ActorKept, ActorOf, held_in, next_step, past_of}
use Rattle.sf_actor.proofs.TraceGrowth.{at_end}
use Rattle.sf_actor.proofs.BroughtTokens.{brings_held, names_told, refused_call_keeps}
use Rattle.sf_actor.proofs.FilledNames.{KeepsWith, given_now, still_reached, token_fills}
use Rattle.sf_actor.proofs.Forms.{answered_by_call}
use Rattle.sf_actor.proofs.CallShare.{CallsOnce, OneMore, answer_told, call_adds, joined, made_call, one_more, only, only_one}
use Rattle.sf_actor.proofs.StepKeepsActor.{actor_with, permits_stay}
use Rattle.sf_actor.proofs.NameChanges.{with_held}

-- the name holds the requested lease once the request is done
known : (holdings : Holdings) (s : ℕ) (lease : WriteLeaseOf) (held : Held) (told : PlainReply) → told ≡ plain.Requested held → name_in holdings s ≡ Some (Lent lease.queue (write_token lease.queue lease) (drawn_picture lease.work)) → holdings_next holdings (record { step = step.Request s; answered = answered.Called told }) ≡ with_name holdings s (Some (Lent lease.queue (write_token lease.queue (requested_lease lease)) (drawn_picture lease.work)))
unfolding holdings_next
known holdings s lease held told done named = rw (done, named) refl

-- the call of the step
abbrev pub request_asked : WriteLeaseOf → Asked
request_asked lease = (lease.queue, plain_call.Request (write_token lease.queue lease))

module _ {B : Type 0} where
  -- a request is done, or refused with the lease back
  told_cases : (queue : QueueId) (lease : WriteLeaseOf) (told : PlainReply) (reply : QReply B) → IsReply queue (call.Request lease) told reply → ((held : Held) × (told ≡ plain.Requested held) × (reply ≡ done_reply (lease.slot.0 ∷ held.number ∷ held.width ∷ held.height ∷ []) (gives.Write (requested_lease lease)) None None)) ⊎ ((cause : QStatus) × (told ≡ plain.Refused cause) × (reply ≡ refused_reply cause (call.Request lease)))
  told_cases queue lease (plain.Refused cause) reply is = inr (cause, refl, is)
  told_cases queue lease plain.Done reply is = absurd is
  told_cases queue lease (plain.Dequeued slot held requested reallocated points) reply is = absurd is
  told_cases queue lease (plain.Requested held) reply is = inl (held, refl, is)
  told_cases queue lease (plain.Queued frame) reply is = absurd is
  told_cases queue lease (plain.Attached slot held) reply is = absurd is
  told_cases queue lease (plain.Acquired item dropped) reply is = absurd is

  request_calls : (pictures : ℕ → Picture) (actor : ActorOf B) (name : ℕ) (lease : WriteLeaseOf) (home : DeskHome) (old new : DeskView B) (reply : QReply B) → ActorKept pictures actor (share_of actor.script.number (known_of home old)) → refusal_of pictures (past_of actor).holdings (step.Request name) ≡ None → held_in actor.parts name ≡ Some (holding.Lends lease) → (mark_among home.marks lease.queue.0).queue ≡ lease.queue → (made : MadeCall home old new actor.script.number lease.queue.0 (length actor.trace + 1, call.Request lease) reply) → reply.ends ≡ None →
      (let c = made_call home old new actor.script.number lease.queue.0 (length actor.trace + 1, call.Request lease) reply made in
      CallsOnce pictures actor.stock (at_end actor.trace (record { step = step.Request name; answered = answered.Called c.told.reply })) (request_asked lease) c (share_of actor.script.number (known_of home old)) (share_of actor.script.number (known_of home new)))
  request_calls pictures actor name lease home old new reply is unrefused holds marked made no_end =
      let c = made_call home old new actor.script.number lease.queue.0 (length actor.trace + 1, call.Request lease) reply made in
      let s : Step = step.Request name in
      let done : Done = record { step = s; answered = answered.Called c.told.reply } in
      let at = at_end actor.trace done in
      let before = share_of actor.script.number (known_of home old) in
      let after = share_of actor.script.number (known_of home new) in
      let asks : call_of pictures (past_of actor).holdings s ≡ Some (request_asked lease) = ap request_of (names_told pictures actor before name is ∙ ap (option_map token_of) holds) in
      record {
        asks = asks;
        replied = refl;
        answered = answered_by_call pictures after.values at (request_asked lease) c.told.reply unrefused refl refl asks refl refl;
        overtakes = refl;
        signals = refl;
        pays = refl;
        enters = refl;
        step = refl;
        call = ap (λ (queue : QueueId). plain_call.Request (write_token queue lease)) marked;
        shows = tt;
        brings = brings_held pictures actor before s name (holding.Lends lease) (call.Request lease) is refl holds refl;
        permits = λ permit brings. absurd (some_none permit brings);
        new_one = λ number other earlier there mine theirs. absurd (false≢true mine);
        ends = subst (λ (ending : Option EndingOf). EndsIn after.left ending) (sym no_end) tt;
      }
    where
      some_none : (permit : PermitView) → None ≡ Some permit → ⊥
      some_none permit e = cc

  -- A request that is done gives the lease as a requested one; one that the queue refuses hands the lease back.
  pub request_keeps : (pictures : ℕ → Picture) (actor : ActorOf B) (name : ℕ) (lease : WriteLeaseOf) (home : DeskHome) (old new : DeskView B) (reply : QReply B) → next_step actor ≡ Some (step.Request name) → ActorKept pictures actor (share_of actor.script.number (known_of home old)) → refusal_of pictures (past_of actor).holdings (step.Request name) ≡ None → held_in actor.parts name ≡ Some (holding.Lends lease) → name < length actor.parts.names → name < 32 → (mark_among home.marks lease.queue.0).queue ≡ lease.queue → (made : MadeCall home old new actor.script.number lease.queue.0 (length actor.trace + 1, call.Request lease) reply) →
      (let after = share_of actor.script.number (known_of home new) in
      let queue = (mark_among home.marks lease.queue.0).queue in
      let asked : QCall B = call.Request lease in
      ((values : List ℕ) × (reply ≡ done_reply values (gives.Write (requested_lease lease)) None None) × KeepsWith pictures actor (step.Request name) queue asked reply (with_held actor.parts name (Some (holding.Lends (requested_lease lease))) actor.parts.stock) after)
      ⊎ ((cause : QStatus) × (reply ≡ refused_reply cause asked) × KeepsWith pictures actor (step.Request name) queue asked reply actor.parts after))
  request_keeps pictures actor name lease home old new reply is_next is unrefused holds low there marked made =
      let by = actor.script.number in
      let asking : ℕ × QCall B = (length actor.trace + 1, call.Request lease) in
      let c = made_call home old new by lease.queue.0 asking reply made in
      let s : Step = step.Request name in
      let done : Done = record { step = s; answered = answered.Called c.told.reply } in
      let before = share_of by (known_of home old) in
      let after = share_of by (known_of home new) in
      let asked = request_asked lease in
      let more : OneMore lease.queue.0 c before after = one_more home old new by lease.queue.0 asking reply made in
      let replies = answer_told home old new by lease.queue.0 asking reply made in
      let reached = still_reached actor before after more.values is.reached in
      let named = names_told pictures actor before name is ∙ ap (option_map token_of) holds in
      elim (told_cases (mark_among home.marks lease.queue.0).queue lease c.told.reply reply replies) [
        | inl told ↦
            let calls = request_calls pictures actor name lease home old new reply is unrefused holds marked made (ap (λ (r : QReply B). r.ends) told.2) in
            let parts = with_held actor.parts name (Some (holding.Lends (requested_lease lease))) actor.parts.stock in
            inl (
              lease.slot.0 ∷ told.0.number ∷ told.0.width ∷ told.0.height ∷ [],
              told.2,
              record {
                told = c.told.reply;
                replies = replies;
                keeps = actor_with pictures actor done parts before after is_next is
                    (call_adds pictures actor.stock actor.trace (at_end actor.trace done) asked c before after calls more)
                    (token_fills pictures actor s c.told.reply name (holding.Lends (requested_lease lease)) actor.parts.stock before after (only asked c) is (record {
                      calls = joined asked c before after more;
                      low = low;
                      there = there;
                      done = ap is_refusal told.1;
                      fills = refl;
                      holdings = known (past_of actor).holdings name lease told.0 c.told.reply told.1 named;
                      given = given_now lease.queue.0 (length actor.trace + 1) (Some (turn_by (turn_of lease.work))) c before after more refl (ap (λ (r : QReply B). given_turn r.gives) told.2);
                      of_call = tt;
                      shows = is.shows name (holding.Lends lease) holds;
                      reached = reached;
                      permits = permits_stay pictures actor done parts before after (only asked c) is refl (joined asked c before after more)
                          (λ number queue other there makes. false≢true (subst (MadeWith number) (sym (only_one asked c other queue there).0) makes));
                    }));
              },
            )
        | inr refused ↦
            let calls = request_calls pictures actor name lease home old new reply is unrefused holds marked made (ap (λ (r : QReply B). r.ends) refused.2) in
            inr (
              refused.0,
              refused.2,
              record {
                told = c.told.reply;
                replies = replies;
                keeps = refused_call_keeps pictures actor s asked c refused.0 before after is_next is calls more refused.1 (λ number makes. false≢true makes) reached;
              },
            )
      ]

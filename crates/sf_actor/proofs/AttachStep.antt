-- What an actor keeps where it puts a loose buffer into a queue: a lease or a frame of it stands under another name.
use Rattle.std.proofs.Common.{◌≡◌, ℕ, ◌+◌, ◌<◌, ◌==◌, ◌⊎◌, inl, inr, true, [], ◌∷◌, length, ap, ◌∙◌, sym, refl, subst, Option, Some, None}
use Rattle.std.specs.Option.{option_map}
use Rattle.std.proofs.lemmas.Bool.{eq-eqb, false≢true}
use Rattle.sf_base.specs.declared.ids.QueueId.{QueueId}
use Rattle.sf_base.specs.declared.ids.SlotId.{SlotId}
use Rattle.sf_base.specs.declared.status.QStatus.{QStatus}
use Rattle.sf_script_scene.specs.sf_picture.declared.picture.Picture.{Picture}
use Rattle.sf_script_scene.specs.declared.step.Step.{Step}
use Rattle.sf_script_scene.specs.declared.step.Step.TheVariants as step
use Rattle.sf_surface.specs.sf_slots.declared.calls.PlainCall.TheVariants as plain_call
use Rattle.sf_surface.specs.sf_slots.declared.calls.PlainReply.{PlainReply}
use Rattle.sf_surface.specs.sf_slots.declared.calls.PlainReply.TheVariants as plain
use Rattle.sf_surface.specs.sf_slots.declared.slot.Held.{Held}
use Rattle.sf_surface.specs.declared.call.Gives.TheVariants as gives
use Rattle.sf_surface.specs.declared.call.QCall.{QCall}
use Rattle.sf_surface.specs.declared.call.QCall.TheVariants as call
use Rattle.sf_surface.specs.declared.call.QReply.{QReply}
use Rattle.sf_surface.specs.Calls.{write_token}
use Rattle.sf_surface.specs.Hands.{IsReply, attached_lease, done_reply, own_lease, refused_reply}
use Rattle.sf_surface.specs.Tokens.{EndingOf, LooseOf}
use Rattle.sf_surface.specs.sf_turns.Views.{PermitView}
use Rattle.sf_actor.specs.declared.done.Answered.TheVariants as answered
use Rattle.sf_actor.specs.declared.done.Done.{Done}
use Rattle.sf_actor.specs.declared.holding.Holding.{Holding}
use Rattle.sf_actor.specs.declared.holding.Holding.TheVariants as holding
use Rattle.sf_actor.specs.Asking.{Asked, attach_of, attach_read_of, call_of}
use Rattle.sf_actor.specs.Desks.{DeskHome, DeskView, MadeCall, known_of, mark_among}
use Rattle.sf_actor.specs.Known.{frame_of, share_of}
use Rattle.sf_actor.specs.Names.{Frame, Holdings, Lent, moved}
use Rattle.sf_actor.specs.Holdings.{token_of}
use Rattle.sf_actor.specs.Rights.{EndsIn, MadeWith, given_turn, turn_by}
use Rattle.sf_actor.specs.Scripts.{queue_of}
use Rattle.sf_actor.specs.Steps.{holdings_next, is_refusal}
use Rattle.sf_actor.specs.Tests.{refusal_of}
use Rattle.sf_actor.specs.Tries.{ActorKept, ActorOf, held_in, next_step, past_of}
use Rattle.sf_actor.proofs.TraceGrowth.{at_end}
use Rattle.sf_actor.proofs.BroughtTokens.{brings_held, names_told, refused_call_keeps}
use Rattle.sf_actor.proofs.FilledNames.{KeepsWith, given_now, moved_held, still_reached, token_moves}
use Rattle.sf_actor.proofs.Forms.{answered_by_call}
use Rattle.sf_actor.proofs.CallShare.{CallsOnce, OneMore, answer_told, call_adds, joined, made_call, one_more, only, only_one}
use Rattle.sf_actor.proofs.StepKeepsActor.{actor_with, permits_stay}

-- a lease, or a frame, of the buffer stands under the other name once the call is done
joined_queue : (holdings : Holdings) (q from to : ℕ) (queue : QueueId) (slot : SlotId) (held : Held) (loose : LooseOf) (told : PlainReply) → told ≡ plain.Attached slot held → queue ≡ queue_of q → holdings_next holdings (record { step = step.PAttach q from to; answered = answered.Called told }) ≡ moved holdings from to (Lent queue (write_token queue (attached_lease queue slot held loose)) None)
unfolding holdings_next
joined_queue holdings q from to queue slot held loose told done same = let met : (q == q) ≡ true = eq-eqb q q refl in rw (done, same, met) refl

joined_read : (holdings : Holdings) (q from to : ℕ) (queue : QueueId) (slot : SlotId) (held : Held) (loose : LooseOf) (told : PlainReply) → told ≡ plain.Attached slot held → queue ≡ queue_of q → holdings_next holdings (record { step = step.CAttach q from to; answered = answered.Called told }) ≡ moved holdings from to (Frame queue (frame_of (own_lease queue slot held loose)).1)
unfolding holdings_next
joined_read holdings q from to queue slot held loose told done same = rw (done, same) refl

module _ {B : Type 0} where
  -- an attach is done, or refused with the buffer back
  told_cases : (queue : QueueId) (loose : LooseOf) (told : PlainReply) (reply : QReply B) → IsReply queue (call.Attach loose) told reply → ((slot : SlotId) × (held : Held) × (told ≡ plain.Attached slot held) × (reply ≡ done_reply (slot.0 ∷ held.number ∷ []) (gives.Write (attached_lease queue slot held loose)) None None)) ⊎ ((cause : QStatus) × (told ≡ plain.Refused cause) × (reply ≡ refused_reply cause (call.Attach loose)))
  told_cases queue loose (plain.Refused cause) reply is = inr (cause, refl, is)
  told_cases queue loose plain.Done reply is = absurd is
  told_cases queue loose (plain.Dequeued slot held requested reallocated points) reply is = absurd is
  told_cases queue loose (plain.Requested held) reply is = absurd is
  told_cases queue loose (plain.Queued frame) reply is = absurd is
  told_cases queue loose (plain.Attached slot held) reply is = inl (slot, held, refl, is)
  told_cases queue loose (plain.Acquired item dropped) reply is = absurd is

  read_cases : (queue : QueueId) (loose : LooseOf) (told : PlainReply) (reply : QReply B) → IsReply queue (call.AttachRead loose) told reply → ((slot : SlotId) × (held : Held) × (told ≡ plain.Attached slot held) × (reply ≡ done_reply (slot.0 ∷ []) (gives.Read (own_lease queue slot held loose)) None None)) ⊎ ((cause : QStatus) × (told ≡ plain.Refused cause) × (reply ≡ refused_reply cause (call.AttachRead loose)))
  read_cases queue loose (plain.Refused cause) reply is = inr (cause, refl, is)
  read_cases queue loose plain.Done reply is = absurd is
  read_cases queue loose (plain.Dequeued slot held requested reallocated points) reply is = absurd is
  read_cases queue loose (plain.Requested held) reply is = absurd is
  read_cases queue loose (plain.Queued frame) reply is = absurd is
  read_cases queue loose (plain.Attached slot held) reply is = inl (slot, held, refl, is)
  read_cases queue loose (plain.Acquired item dropped) reply is = absurd is

  attach_calls : (pictures : ℕ → Picture) (actor : ActorOf B) (q from to : ℕ) (last : QueueId) (loose : LooseOf) (home : DeskHome) (old new : DeskView B) (reply : QReply B) → ActorKept pictures actor (share_of actor.script.number (known_of home old)) → refusal_of pictures (past_of actor).holdings (step.PAttach q from to) ≡ None → held_in actor.parts from ≡ Some (holding.Frees last loose) → (made : MadeCall home old new actor.script.number q (length actor.trace + 1, call.Attach loose) reply) → reply.ends ≡ None →
      (let c = made_call home old new actor.script.number q (length actor.trace + 1, call.Attach loose) reply made in
      CallsOnce pictures actor.stock (at_end actor.trace (record { step = step.PAttach q from to; answered = answered.Called c.told.reply })) (queue_of q, plain_call.Attach loose.held) c (share_of actor.script.number (known_of home old)) (share_of actor.script.number (known_of home new)))
  attach_calls pictures actor q from to last loose home old new reply is unrefused holds made no_end =
      let c = made_call home old new actor.script.number q (length actor.trace + 1, call.Attach loose) reply made in
      let s : Step = step.PAttach q from to in
      let at = at_end actor.trace (record { step = s; answered = answered.Called c.told.reply }) in
      let before = share_of actor.script.number (known_of home old) in
      let after = share_of actor.script.number (known_of home new) in
      let asked : Asked = (queue_of q, plain_call.Attach loose.held) in
      let asks : call_of pictures (past_of actor).holdings s ≡ Some asked = ap (attach_of q) (names_told pictures actor before from is ∙ ap (option_map token_of) holds) in
      record {
        asks = asks;
        replied = refl;
        answered = answered_by_call pictures after.values at asked c.told.reply unrefused refl refl asks refl refl;
        overtakes = refl;
        signals = refl;
        pays = refl;
        enters = refl;
        step = refl;
        call = refl;
        shows = tt;
        brings = brings_held pictures actor before s from (holding.Frees last loose) (call.Attach loose) is refl holds refl;
        permits = λ permit brings. absurd (some_none permit brings);
        new_one = λ number other earlier there mine theirs. absurd (false≢true mine);
        ends = subst (λ (ending : Option EndingOf). EndsIn after.left ending) (sym no_end) tt;
      }
    where
      some_none : (permit : PermitView) → None ≡ Some permit → ⊥
      some_none permit e = cc

  -- An attach that is done gives a lease under the other name; one that the queue refuses hands the buffer back.
  pub attach_keeps : (pictures : ℕ → Picture) (actor : ActorOf B) (q from to : ℕ) (last : QueueId) (loose : LooseOf) (home : DeskHome) (old new : DeskView B) (reply : QReply B) → next_step actor ≡ Some (step.PAttach q from to) → ActorKept pictures actor (share_of actor.script.number (known_of home old)) → refusal_of pictures (past_of actor).holdings (step.PAttach q from to) ≡ None → held_in actor.parts from ≡ Some (holding.Frees last loose) → from < length actor.parts.names → to < length actor.parts.names → to < 32 → (mark_among home.marks q).queue ≡ queue_of q → MadeCall home old new actor.script.number q (length actor.trace + 1, call.Attach loose) reply →
      (let after = share_of actor.script.number (known_of home new) in
      let queue = (mark_among home.marks q).queue in
      let asked : QCall B = call.Attach loose in
      ((slot : SlotId) × (held : Held) × (reply ≡ done_reply (slot.0 ∷ held.number ∷ []) (gives.Write (attached_lease queue slot held loose)) None None) × KeepsWith pictures actor (step.PAttach q from to) queue asked reply (moved_held actor.parts from to (holding.Lends (attached_lease queue slot held loose))) after)
      ⊎ ((cause : QStatus) × (reply ≡ refused_reply cause asked) × KeepsWith pictures actor (step.PAttach q from to) queue asked reply actor.parts after))
  attach_keeps pictures actor q from to last loose home old new reply is_next is unrefused holds low_from low_to there marked made =
      let by = actor.script.number in
      let asking : ℕ × QCall B = (length actor.trace + 1, call.Attach loose) in
      let c = made_call home old new by q asking reply made in
      let s : Step = step.PAttach q from to in
      let done : Done = record { step = s; answered = answered.Called c.told.reply } in
      let before = share_of by (known_of home old) in
      let after = share_of by (known_of home new) in
      let asked : Asked = (queue_of q, plain_call.Attach loose.held) in
      let queue = (mark_among home.marks q).queue in
      let more : OneMore q c before after = one_more home old new by q asking reply made in
      let replies = answer_told home old new by q asking reply made in
      let reached = still_reached actor before after more.values is.reached in
      elim (told_cases queue loose c.told.reply reply replies) [
        | inl told ↦
            let calls = attach_calls pictures actor q from to last loose home old new reply is unrefused holds made (ap (λ (r : QReply B). r.ends) told.3) in
            let now : Holding B = holding.Lends (attached_lease queue told.0 told.1 loose) in
            let parts = moved_held actor.parts from to now in
            inl (
              told.0,
              told.1,
              told.3,
              record {
                told = c.told.reply;
                replies = replies;
                keeps = actor_with pictures actor done parts before after is_next is
                    (call_adds pictures actor.stock actor.trace (at_end actor.trace done) asked c before after calls more)
                    (token_moves pictures actor s c.told.reply from to now before after (only asked c) is (record {
                      calls = joined asked c before after more;
                      low_from = low_from;
                      low_to = low_to;
                      there = there;
                      done = ap is_refusal told.2;
                      fills = refl;
                      holdings = joined_queue (past_of actor).holdings q from to queue told.0 told.1 loose c.told.reply told.2 marked;
                      given = given_now q (length actor.trace + 1) (Some (turn_by loose.turn)) c before after more refl (ap (λ (r : QReply B). given_turn r.gives) told.3);
                      of_call = tt;
                      shows = tt;
                      reached = reached;
                      permits = permits_stay pictures actor done parts before after (only asked c) is refl (joined asked c before after more)
                          (λ number queue other there makes. false≢true (subst (MadeWith number) (sym (only_one asked c other queue there).0) makes));
                    }));
              },
            )
        | inr refused ↦
            let calls = attach_calls pictures actor q from to last loose home old new reply is unrefused holds made (ap (λ (r : QReply B). r.ends) refused.2) in
            inr (
              refused.0,
              refused.2,
              record {
                told = c.told.reply;
                replies = replies;
                keeps = refused_call_keeps pictures actor s asked c refused.0 before after is_next is calls more refused.1 (λ number makes. false≢true makes) reached;
              },
            )
      ]

  attach_read_calls : (pictures : ℕ → Picture) (actor : ActorOf B) (q from to : ℕ) (last : QueueId) (loose : LooseOf) (home : DeskHome) (old new : DeskView B) (reply : QReply B) → ActorKept pictures actor (share_of actor.script.number (known_of home old)) → refusal_of pictures (past_of actor).holdings (step.CAttach q from to) ≡ None → held_in actor.parts from ≡ Some (holding.Frees last loose) → (made : MadeCall home old new actor.script.number q (length actor.trace + 1, call.AttachRead loose) reply) → reply.ends ≡ None →
      (let c = made_call home old new actor.script.number q (length actor.trace + 1, call.AttachRead loose) reply made in
      CallsOnce pictures actor.stock (at_end actor.trace (record { step = step.CAttach q from to; answered = answered.Called c.told.reply })) (queue_of q, plain_call.AttachRead loose.held) c (share_of actor.script.number (known_of home old)) (share_of actor.script.number (known_of home new)))
  attach_read_calls pictures actor q from to last loose home old new reply is unrefused holds made no_end =
      let c = made_call home old new actor.script.number q (length actor.trace + 1, call.AttachRead loose) reply made in
      let s : Step = step.CAttach q from to in
      let at = at_end actor.trace (record { step = s; answered = answered.Called c.told.reply }) in
      let before = share_of actor.script.number (known_of home old) in
      let after = share_of actor.script.number (known_of home new) in
      let asked : Asked = (queue_of q, plain_call.AttachRead loose.held) in
      let asks : call_of pictures (past_of actor).holdings s ≡ Some asked = ap (attach_read_of q) (names_told pictures actor before from is ∙ ap (option_map token_of) holds) in
      record {
        asks = asks;
        replied = refl;
        answered = answered_by_call pictures after.values at asked c.told.reply unrefused refl refl asks refl refl;
        overtakes = refl;
        signals = refl;
        pays = refl;
        enters = refl;
        step = refl;
        call = refl;
        shows = tt;
        brings = brings_held pictures actor before s from (holding.Frees last loose) (call.AttachRead loose) is refl holds refl;
        permits = λ permit brings. absurd (some_none permit brings);
        new_one = λ number other earlier there mine theirs. absurd (false≢true mine);
        ends = subst (λ (ending : Option EndingOf). EndsIn after.left ending) (sym no_end) tt;
      }
    where
      some_none : (permit : PermitView) → None ≡ Some permit → ⊥
      some_none permit e = cc

  -- The same for a consumer, with a lease of a buffer of its own.
  pub attach_read_keeps : (pictures : ℕ → Picture) (actor : ActorOf B) (q from to : ℕ) (last : QueueId) (loose : LooseOf) (home : DeskHome) (old new : DeskView B) (reply : QReply B) → next_step actor ≡ Some (step.CAttach q from to) → ActorKept pictures actor (share_of actor.script.number (known_of home old)) → refusal_of pictures (past_of actor).holdings (step.CAttach q from to) ≡ None → held_in actor.parts from ≡ Some (holding.Frees last loose) → from < length actor.parts.names → to < length actor.parts.names → to < 32 → (mark_among home.marks q).queue ≡ queue_of q → MadeCall home old new actor.script.number q (length actor.trace + 1, call.AttachRead loose) reply →
      (let after = share_of actor.script.number (known_of home new) in
      let queue = (mark_among home.marks q).queue in
      let asked : QCall B = call.AttachRead loose in
      ((slot : SlotId) × (held : Held) × (reply ≡ done_reply (slot.0 ∷ []) (gives.Read (own_lease queue slot held loose)) None None) × KeepsWith pictures actor (step.CAttach q from to) queue asked reply (moved_held actor.parts from to (holding.Reads (own_lease queue slot held loose))) after)
      ⊎ ((cause : QStatus) × (reply ≡ refused_reply cause asked) × KeepsWith pictures actor (step.CAttach q from to) queue asked reply actor.parts after))
  attach_read_keeps pictures actor q from to last loose home old new reply is_next is unrefused holds low_from low_to there marked made =
      let by = actor.script.number in
      let asking : ℕ × QCall B = (length actor.trace + 1, call.AttachRead loose) in
      let c = made_call home old new by q asking reply made in
      let s : Step = step.CAttach q from to in
      let done : Done = record { step = s; answered = answered.Called c.told.reply } in
      let before = share_of by (known_of home old) in
      let after = share_of by (known_of home new) in
      let asked : Asked = (queue_of q, plain_call.AttachRead loose.held) in
      let queue = (mark_among home.marks q).queue in
      let more : OneMore q c before after = one_more home old new by q asking reply made in
      let replies = answer_told home old new by q asking reply made in
      let reached = still_reached actor before after more.values is.reached in
      elim (read_cases queue loose c.told.reply reply replies) [
        | inl told ↦
            let calls = attach_read_calls pictures actor q from to last loose home old new reply is unrefused holds made (ap (λ (r : QReply B). r.ends) told.3) in
            let now : Holding B = holding.Reads (own_lease queue told.0 told.1 loose) in
            let parts = moved_held actor.parts from to now in
            inl (
              told.0,
              told.1,
              told.3,
              record {
                told = c.told.reply;
                replies = replies;
                keeps = actor_with pictures actor done parts before after is_next is
                    (call_adds pictures actor.stock actor.trace (at_end actor.trace done) asked c before after calls more)
                    (token_moves pictures actor s c.told.reply from to now before after (only asked c) is (record {
                      calls = joined asked c before after more;
                      low_from = low_from;
                      low_to = low_to;
                      there = there;
                      done = ap is_refusal told.2;
                      fills = refl;
                      holdings = joined_read (past_of actor).holdings q from to queue told.0 told.1 loose c.told.reply told.2 marked;
                      given = given_now q (length actor.trace + 1) (Some (turn_by loose.turn)) c before after more refl (ap (λ (r : QReply B). given_turn r.gives) told.3);
                      of_call = λ numbered. absurd (numbered refl);
                      shows = tt;
                      reached = reached;
                      permits = permits_stay pictures actor done parts before after (only asked c) is refl (joined asked c before after more)
                          (λ number queue other there makes. false≢true (subst (MadeWith number) (sym (only_one asked c other queue there).0) makes));
                    }));
              },
            )
        | inr refused ↦
            let calls = attach_read_calls pictures actor q from to last loose home old new reply is unrefused holds made (ap (λ (r : QReply B). r.ends) refused.2) in
            inr (
              refused.0,
              refused.2,
              record {
                told = c.told.reply;
                replies = replies;
                keeps = refused_call_keeps pictures actor s asked c refused.0 before after is_next is calls more refused.1 (λ number makes. false≢true makes) reached;
              },
            )
      ]

-- What an actor keeps where it takes a lent buffer or a frame out of its queue: the buffer is loose then, under another name.
use Rattle.std.proofs.Common.{◌≡◌, ℕ, ◌+◌, ◌<◌, ◌⊎◌, inl, inr, [], length, ap, ◌∙◌, sym, refl, subst, Option, Some, None}
use Rattle.std.specs.Option.{option_map}
use Rattle.std.proofs.lemmas.Bool.{eq-eqb, false≢true}
use Rattle.sf_base.specs.Fences.{Fence, IsSignalled}
use Rattle.sf_base.specs.declared.fences.Seen.{Seen}
use Rattle.sf_base.specs.declared.ids.QueueId.{QueueId}
use Rattle.sf_base.specs.declared.status.QStatus.{QStatus}
use Rattle.sf_script_scene.specs.sf_picture.declared.picture.Picture.{Picture}
use Rattle.sf_script_scene.specs.declared.step.Step.{Step}
use Rattle.sf_script_scene.specs.declared.step.Step.TheVariants as step
use Rattle.sf_surface.specs.sf_slots.declared.calls.PlainCall.TheVariants as plain_call
use Rattle.sf_surface.specs.sf_slots.declared.calls.PlainReply.{PlainReply}
use Rattle.sf_surface.specs.sf_slots.declared.calls.PlainReply.TheVariants as plain
use Rattle.sf_surface.specs.sf_slots.declared.calls.ReadToken.{ReadToken}
use Rattle.sf_surface.specs.sf_slots.declared.calls.WriteToken.{WriteToken}
use Rattle.sf_surface.specs.declared.call.Gives.TheVariants as gives
use Rattle.sf_surface.specs.declared.call.QCall.{QCall}
use Rattle.sf_surface.specs.declared.call.QCall.TheVariants as call
use Rattle.sf_surface.specs.declared.call.QReply.{QReply}
use Rattle.sf_surface.specs.Calls.{read_token, write_token}
use Rattle.sf_surface.specs.Hands.{IsReply, done_reply, refused_reply}
use Rattle.sf_surface.specs.Tokens.{EndingOf, LooseOf, ReadLeaseOf, WriteLeaseOf, ending_drawn, turn_after}
use Rattle.sf_surface.specs.sf_turns.Views.{PermitView}
use Rattle.sf_actor.specs.declared.done.Answered.TheVariants as answered
use Rattle.sf_actor.specs.declared.done.Done.{Done}
use Rattle.sf_actor.specs.declared.holding.Holding.TheVariants as holding
use Rattle.sf_actor.specs.Asking.{Asked, call_of, detach_of, detach_read_of}
use Rattle.sf_actor.specs.Desks.{DeskHome, DeskView, MadeCall, known_of, mark_among}
use Rattle.sf_actor.specs.Known.{Share, ShareGoesOn, frame_of, share_of}
use Rattle.sf_actor.specs.Names.{Apart, Frame, Holdings, Lent, moved, name_in}
use Rattle.sf_actor.specs.Holdings.{drawn_picture, token_of}
use Rattle.sf_actor.specs.Points.{detached_fence, frame_fence, or_none, requested_fence, shown_next, waited_fence}
use Rattle.sf_actor.specs.Rights.{EndsIn, MadeWith, given_turn, turn_by}
use Rattle.sf_actor.specs.Steps.{holdings_next, is_refusal, sent_by}
use Rattle.sf_actor.specs.Tests.{refusal_of}
use Rattle.sf_actor.specs.Traces.{AnswersCall, AnswersTests, DoneAt, HasNotWaited, IsAnswered, IsPassed}
use Rattle.sf_actor.specs.Tries.{ActorKept, ActorOf, held_in, next_step, past_of}
use Rattle.sf_actor.proofs.TraceGrowth.{at_end}
use Rattle.sf_actor.proofs.BroughtTokens.{brings_held, names_told, refused_call_keeps}
use Rattle.sf_actor.proofs.FilledNames.{KeepsWith, given_now, moved_held, token_moves}
use Rattle.sf_actor.proofs.GoingOn.{signalled_on}
use Rattle.sf_actor.proofs.LookStep.{passes}
use Rattle.sf_actor.proofs.CallShare.{CallsOnce, OneMore, answer_told, call_adds, joined, made_call, one_more, only, only_one, then_goes}
use Rattle.sf_actor.proofs.StepKeepsActor.{actor_with, permits_stay}
use Rattle.sf_actor.proofs.SignalledFences.{merged_reached}

-- a step behind a fence that is signalled is answered by its call
answered_behind : (pictures : ℕ → Picture) (values : Seen) (at : DoneAt) (asked : Asked) (told : PlainReply) → refusal_of pictures at.past.holdings at.done.step ≡ None → IsSignalled (or_none (detached_fence at.past.holdings at.done.step)) values → waited_fence at.past.holdings at.done.step ≡ None → call_of pictures at.past.holdings at.done.step ≡ Some asked → at.done.answered ≡ answered.Called told → HasNotWaited asked told → IsAnswered pictures values at
answered_behind pictures values at asked told test signalled waits asks replied unwaited =
    let past = at.past in
    let s = at.done.step in
    let answer = at.done.answered in
    subst (λ (refusal : Option ℕ). AnswersTests pictures values past s answer refusal) (sym test)
    (passes (detached_fence past.holdings s) values past.shown answer (IsPassed (waited_fence past.holdings s) values × AnswersCall (call_of pictures past.holdings s) (sent_by past.holdings s) answer) signalled
    (subst (λ (f : Option Fence). IsPassed f values) (sym waits) tt, subst (λ (asking : Option Asked). AnswersCall asking (sent_by past.holdings s) answer) (sym asks) (told, replied, unwaited)))

-- the buffer is loose once the call is done
loosened : (holdings : Holdings) (from to : ℕ) (queue : QueueId) (token : WriteToken) (drawn : Option ℕ) (told : PlainReply) → told ≡ plain.Done → name_in holdings from ≡ Some (Lent queue token drawn) → holdings_next holdings (record { step = step.PDetach from to; answered = answered.Called told }) ≡ moved holdings from to (Apart queue token.held)
unfolding holdings_next
loosened holdings from to queue token drawn told done named = rw (done, named) refl

read_loosened : (holdings : Holdings) (from to : ℕ) (queue : QueueId) (token : ReadToken) (told : PlainReply) → told ≡ plain.Done → name_in holdings from ≡ Some (Frame queue token) → holdings_next holdings (record { step = step.CDetach from to; answered = answered.Called told }) ≡ moved holdings from to (Apart queue token.held)
unfolding holdings_next
read_loosened holdings from to queue token told done named = rw (done, named) refl

-- the frame's token, as the queue is told of it
told_frame : (queue : QueueId) (lease : ReadLeaseOf) → queue ≡ lease.queue → read_token queue lease ≡ (frame_of lease).1
told_frame queue lease same = let met = eq-eqb lease.queue.0 lease.queue.0 refl in rw (same, met) refl

-- the loose buffers
abbrev pub loose_of : WriteLeaseOf → LooseOf
loose_of lease = record { held = lease.held; turn = turn_after lease.work }

abbrev pub loose_read : ReadLeaseOf → LooseOf
loose_read lease = record { held = lease.held; turn = lease.turn }

-- the calls of the steps
abbrev pub detach_asked : WriteLeaseOf → Asked
detach_asked lease = (lease.queue, plain_call.Detach (write_token lease.queue lease))

abbrev pub detach_read_asked : ReadLeaseOf → Asked
detach_read_asked lease = (lease.queue, plain_call.DetachRead (frame_of lease).1)

module _ {B : Type 0} where
  -- a detach is done, or refused with the lease back
  told_cases : (queue : QueueId) (lease : WriteLeaseOf) (told : PlainReply) (reply : QReply B) → IsReply queue (call.Detach lease) told reply → ((told ≡ plain.Done) × (reply ≡ done_reply [] (gives.Free (loose_of lease)) (ending_drawn lease.work) None)) ⊎ ((cause : QStatus) × (told ≡ plain.Refused cause) × (reply ≡ refused_reply cause (call.Detach lease)))
  told_cases queue lease (plain.Refused cause) reply is = inr (cause, refl, is)
  told_cases queue lease plain.Done reply is = inl (refl, is)
  told_cases queue lease (plain.Dequeued slot held requested reallocated points) reply is = absurd is
  told_cases queue lease (plain.Requested held) reply is = absurd is
  told_cases queue lease (plain.Queued frame) reply is = absurd is
  told_cases queue lease (plain.Attached slot held) reply is = absurd is
  told_cases queue lease (plain.Acquired item dropped) reply is = absurd is

  read_cases : (queue : QueueId) (lease : ReadLeaseOf) (told : PlainReply) (reply : QReply B) → IsReply queue (call.DetachRead lease) told reply → ((told ≡ plain.Done) × (reply ≡ done_reply [] (gives.Free (loose_read lease)) None None)) ⊎ ((cause : QStatus) × (told ≡ plain.Refused cause) × (reply ≡ refused_reply cause (call.DetachRead lease)))
  read_cases queue lease (plain.Refused cause) reply is = inr (cause, refl, is)
  read_cases queue lease plain.Done reply is = inl (refl, is)
  read_cases queue lease (plain.Dequeued slot held requested reallocated points) reply is = absurd is
  read_cases queue lease (plain.Requested held) reply is = absurd is
  read_cases queue lease (plain.Queued frame) reply is = absurd is
  read_cases queue lease (plain.Attached slot held) reply is = absurd is
  read_cases queue lease (plain.Acquired item dropped) reply is = absurd is

  detach_calls : (pictures : ℕ → Picture) (actor : ActorOf B) (from to : ℕ) (lease : WriteLeaseOf) (home : DeskHome) (old new : DeskView B) (reply : QReply B) (after : Share B) → ActorKept pictures actor (share_of actor.script.number (known_of home old)) → refusal_of pictures (past_of actor).holdings (step.PDetach from to) ≡ None → IsSignalled (or_none (requested_fence (name_in (past_of actor).holdings from))) after.values → held_in actor.parts from ≡ Some (holding.Lends lease) → (mark_among home.marks lease.queue.0).queue ≡ lease.queue → (made : MadeCall home old new actor.script.number lease.queue.0 (length actor.trace + 1, call.Detach lease) reply) → EndsIn after.left reply.ends →
      (let c = made_call home old new actor.script.number lease.queue.0 (length actor.trace + 1, call.Detach lease) reply made in
      CallsOnce pictures actor.stock (at_end actor.trace (record { step = step.PDetach from to; answered = answered.Called c.told.reply })) (detach_asked lease) c (share_of actor.script.number (known_of home old)) after)
  detach_calls pictures actor from to lease home old new reply after is unrefused signalled holds marked made ends =
      let c = made_call home old new actor.script.number lease.queue.0 (length actor.trace + 1, call.Detach lease) reply made in
      let s : Step = step.PDetach from to in
      let at = at_end actor.trace (record { step = s; answered = answered.Called c.told.reply }) in
      let before = share_of actor.script.number (known_of home old) in
      let named = names_told pictures actor before from is ∙ ap (option_map token_of) holds in
      let asks : call_of pictures (past_of actor).holdings s ≡ Some (detach_asked lease) = ap detach_of named in
      record {
        asks = asks;
        replied = refl;
        answered = answered_behind pictures after.values at (detach_asked lease) c.told.reply unrefused signalled refl asks refl refl;
        overtakes = refl;
        signals = refl;
        pays = refl;
        enters = refl;
        step = refl;
        call = ap (λ (queue : QueueId). plain_call.Detach (write_token queue lease)) marked;
        shows = tt;
        brings = brings_held pictures actor before s from (holding.Lends lease) (call.Detach lease) is refl holds refl;
        permits = λ permit brings. absurd (some_none permit brings);
        new_one = λ number other earlier there mine theirs. absurd (false≢true mine);
        ends = ends;
      }
    where
      some_none : (permit : PermitView) → None ≡ Some permit → ⊥
      some_none permit e = cc

  -- A detach that is done leaves the buffer loose under the other name; one that the queue refuses hands the lease back. The
  -- fence of a requested lease is signalled before the call.
  pub detach_keeps : (pictures : ℕ → Picture) (actor : ActorOf B) (from to : ℕ) (lease : WriteLeaseOf) (home : DeskHome) (old new : DeskView B) (reply : QReply B) (after : Share B) → next_step actor ≡ Some (step.PDetach from to) → ActorKept pictures actor (share_of actor.script.number (known_of home old)) → refusal_of pictures (past_of actor).holdings (step.PDetach from to) ≡ None → IsSignalled (or_none (requested_fence (name_in (past_of actor).holdings from))) (known_of home old).values → held_in actor.parts from ≡ Some (holding.Lends lease) → from < length actor.parts.names → to < length actor.parts.names → to < 32 → (mark_among home.marks lease.queue.0).queue ≡ lease.queue → MadeCall home old new actor.script.number lease.queue.0 (length actor.trace + 1, call.Detach lease) reply → ShareGoesOn (share_of actor.script.number (known_of home new)) after → EndsIn after.left reply.ends →
      (let queue = (mark_among home.marks lease.queue.0).queue in
      let asked : QCall B = call.Detach lease in
      ((reply ≡ done_reply [] (gives.Free (loose_of lease)) (ending_drawn lease.work) None) × KeepsWith pictures actor (step.PDetach from to) queue asked reply (moved_held actor.parts from to (holding.Frees lease.queue (loose_of lease))) after)
      ⊎ ((cause : QStatus) × (reply ≡ refused_reply cause asked) × KeepsWith pictures actor (step.PDetach from to) queue asked reply actor.parts after))
  detach_keeps pictures actor from to lease home old new reply after is_next is unrefused passed holds low_from low_to there marked made goes ends =
      let by = actor.script.number in
      let asking : ℕ × QCall B = (length actor.trace + 1, call.Detach lease) in
      let c = made_call home old new by lease.queue.0 asking reply made in
      let s : Step = step.PDetach from to in
      let done : Done = record { step = s; answered = answered.Called c.told.reply } in
      let before = share_of by (known_of home old) in
      let asked = detach_asked lease in
      let more : OneMore lease.queue.0 c before after = then_goes lease.queue.0 c before (share_of by (known_of home new)) after (one_more home old new by lease.queue.0 asking reply made) goes in
      let replies = answer_told home old new by lease.queue.0 asking reply made in
      let fence = or_none (requested_fence (name_in (past_of actor).holdings from)) in
      let signalled : IsSignalled fence after.values = signalled_on fence before.values after.values more.values passed in
      let calls = detach_calls pictures actor from to lease home old new reply after is unrefused signalled holds marked made ends in
      let reached : IsSignalled (shown_next (past_of actor).holdings (past_of actor).shown done) after.values =
      merged_reached (past_of actor).shown fence after.values (signalled_on (past_of actor).shown before.values after.values more.values is.reached) signalled in
      let named = names_told pictures actor before from is ∙ ap (option_map token_of) holds in
      let now = holding.Frees lease.queue (loose_of lease) in
      elim (told_cases (mark_among home.marks lease.queue.0).queue lease c.told.reply reply replies) [
        | inl told ↦
            let parts = moved_held actor.parts from to now in
            inl (
              told.1,
              record {
                told = c.told.reply;
                replies = replies;
                keeps = actor_with pictures actor done parts before after is_next is
                    (call_adds pictures actor.stock actor.trace (at_end actor.trace done) asked c before after calls more)
                    (token_moves pictures actor s c.told.reply from to now before after (only asked c) is (record {
                      calls = joined asked c before after more;
                      low_from = low_from;
                      low_to = low_to;
                      there = there;
                      done = ap is_refusal told.0;
                      fills = refl;
                      holdings = loosened (past_of actor).holdings from to lease.queue (write_token lease.queue lease) (drawn_picture lease.work) c.told.reply told.0 named;
                      given = given_now lease.queue.0 (length actor.trace + 1) (Some (turn_by (turn_after lease.work))) c before after more refl (ap (λ (r : QReply B). given_turn r.gives) told.1);
                      of_call = tt;
                      shows = tt;
                      reached = reached;
                      permits = permits_stay pictures actor done parts before after (only asked c) is refl (joined asked c before after more)
                          (λ number queue other there makes. false≢true (subst (MadeWith number) (sym (only_one asked c other queue there).0) makes));
                    }));
              },
            )
        | inr refused ↦
            inr (
              refused.0,
              refused.2,
              record {
                told = c.told.reply;
                replies = replies;
                keeps = refused_call_keeps pictures actor s asked c refused.0 before after is_next is calls more refused.1 (λ number makes. false≢true makes) reached;
              },
            )
      ]

  detach_read_calls : (pictures : ℕ → Picture) (actor : ActorOf B) (from to : ℕ) (lease : ReadLeaseOf) (home : DeskHome) (old new : DeskView B) (reply : QReply B) (after : Share B) → ActorKept pictures actor (share_of actor.script.number (known_of home old)) → refusal_of pictures (past_of actor).holdings (step.CDetach from to) ≡ None → IsSignalled (or_none (frame_fence (name_in (past_of actor).holdings from))) after.values → held_in actor.parts from ≡ Some (holding.Reads lease) → (mark_among home.marks lease.queue.0).queue ≡ lease.queue → (made : MadeCall home old new actor.script.number lease.queue.0 (length actor.trace + 1, call.DetachRead lease) reply) → reply.ends ≡ None →
      (let c = made_call home old new actor.script.number lease.queue.0 (length actor.trace + 1, call.DetachRead lease) reply made in
      CallsOnce pictures actor.stock (at_end actor.trace (record { step = step.CDetach from to; answered = answered.Called c.told.reply })) (detach_read_asked lease) c (share_of actor.script.number (known_of home old)) after)
  detach_read_calls pictures actor from to lease home old new reply after is unrefused signalled holds marked made no_end =
      let c = made_call home old new actor.script.number lease.queue.0 (length actor.trace + 1, call.DetachRead lease) reply made in
      let s : Step = step.CDetach from to in
      let at = at_end actor.trace (record { step = s; answered = answered.Called c.told.reply }) in
      let before = share_of actor.script.number (known_of home old) in
      let named = names_told pictures actor before from is ∙ ap (option_map token_of) holds in
      let asks : call_of pictures (past_of actor).holdings s ≡ Some (detach_read_asked lease) = ap detach_read_of named in
      record {
        asks = asks;
        replied = refl;
        answered = answered_behind pictures after.values at (detach_read_asked lease) c.told.reply unrefused signalled refl asks refl refl;
        overtakes = refl;
        signals = refl;
        pays = refl;
        enters = refl;
        step = refl;
        call = ap plain_call.DetachRead (told_frame (mark_among home.marks lease.queue.0).queue lease marked);
        shows = tt;
        brings = brings_held pictures actor before s from (holding.Reads lease) (call.DetachRead lease) is refl holds refl;
        permits = λ permit brings. absurd (some_none permit brings);
        new_one = λ number other earlier there mine theirs. absurd (false≢true mine);
        ends = subst (λ (ending : Option EndingOf). EndsIn after.left ending) (sym no_end) tt;
      }
    where
      some_none : (permit : PermitView) → None ≡ Some permit → ⊥
      some_none permit e = cc

  -- The same of a frame.
  pub detach_read_keeps : (pictures : ℕ → Picture) (actor : ActorOf B) (from to : ℕ) (lease : ReadLeaseOf) (home : DeskHome) (old new : DeskView B) (reply : QReply B) → next_step actor ≡ Some (step.CDetach from to) → ActorKept pictures actor (share_of actor.script.number (known_of home old)) → refusal_of pictures (past_of actor).holdings (step.CDetach from to) ≡ None → IsSignalled (or_none (frame_fence (name_in (past_of actor).holdings from))) (known_of home old).values → held_in actor.parts from ≡ Some (holding.Reads lease) → from < length actor.parts.names → to < length actor.parts.names → to < 32 → (mark_among home.marks lease.queue.0).queue ≡ lease.queue → MadeCall home old new actor.script.number lease.queue.0 (length actor.trace + 1, call.DetachRead lease) reply →
      (let after = share_of actor.script.number (known_of home new) in
      let queue = (mark_among home.marks lease.queue.0).queue in
      let asked : QCall B = call.DetachRead lease in
      ((reply ≡ done_reply [] (gives.Free (loose_read lease)) None None) × KeepsWith pictures actor (step.CDetach from to) queue asked reply (moved_held actor.parts from to (holding.Frees lease.queue (loose_read lease))) after)
      ⊎ ((cause : QStatus) × (reply ≡ refused_reply cause asked) × KeepsWith pictures actor (step.CDetach from to) queue asked reply actor.parts after))
  detach_read_keeps pictures actor from to lease home old new reply is_next is unrefused passed holds low_from low_to there marked made =
      let by = actor.script.number in
      let asking : ℕ × QCall B = (length actor.trace + 1, call.DetachRead lease) in
      let c = made_call home old new by lease.queue.0 asking reply made in
      let s : Step = step.CDetach from to in
      let done : Done = record { step = s; answered = answered.Called c.told.reply } in
      let before = share_of by (known_of home old) in
      let after = share_of by (known_of home new) in
      let asked = detach_read_asked lease in
      let more : OneMore lease.queue.0 c before after = one_more home old new by lease.queue.0 asking reply made in
      let replies = answer_told home old new by lease.queue.0 asking reply made in
      let fence = or_none (frame_fence (name_in (past_of actor).holdings from)) in
      let signalled : IsSignalled fence after.values = signalled_on fence before.values after.values more.values passed in
      let reached : IsSignalled (shown_next (past_of actor).holdings (past_of actor).shown done) after.values =
      merged_reached (past_of actor).shown fence after.values (signalled_on (past_of actor).shown before.values after.values more.values is.reached) signalled in
      let named = names_told pictures actor before from is ∙ ap (option_map token_of) holds in
      let now = holding.Frees lease.queue (loose_read lease) in
      elim (read_cases (mark_among home.marks lease.queue.0).queue lease c.told.reply reply replies) [
        | inl told ↦
            let calls = detach_read_calls pictures actor from to lease home old new reply after is unrefused signalled holds marked made (ap (λ (r : QReply B). r.ends) told.1) in
            let parts = moved_held actor.parts from to now in
            inl (
              told.1,
              record {
                told = c.told.reply;
                replies = replies;
                keeps = actor_with pictures actor done parts before after is_next is
                    (call_adds pictures actor.stock actor.trace (at_end actor.trace done) asked c before after calls more)
                    (token_moves pictures actor s c.told.reply from to now before after (only asked c) is (record {
                      calls = joined asked c before after more;
                      low_from = low_from;
                      low_to = low_to;
                      there = there;
                      done = ap is_refusal told.0;
                      fills = refl;
                      holdings = read_loosened (past_of actor).holdings from to lease.queue (frame_of lease).1 c.told.reply told.0 named;
                      given = given_now lease.queue.0 (length actor.trace + 1) (Some (turn_by lease.turn)) c before after more refl (ap (λ (r : QReply B). given_turn r.gives) told.1);
                      of_call = tt;
                      shows = tt;
                      reached = reached;
                      permits = permits_stay pictures actor done parts before after (only asked c) is refl (joined asked c before after more)
                          (λ number queue other there makes. false≢true (subst (MadeWith number) (sym (only_one asked c other queue there).0) makes));
                    }));
              },
            )
        | inr refused ↦
            let calls = detach_read_calls pictures actor from to lease home old new reply after is unrefused signalled holds marked made (ap (λ (r : QReply B). r.ends) refused.2) in
            inr (
              refused.0,
              refused.2,
              record {
                told = c.told.reply;
                replies = replies;
                keeps = refused_call_keeps pictures actor s asked c refused.0 before after is_next is calls more refused.1 (λ number makes. false≢true makes) reached;
              },
            )
      ]

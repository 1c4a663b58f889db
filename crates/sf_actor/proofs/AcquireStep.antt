-- What an actor keeps where it acquires a frame, which its name holds then.
use Rattle.std.proofs.Common.{◌≡◌, ℕ, ◌+◌, ◌<◌, ◌⊎◌, inl, inr, List, ◌∷◌, length, ap, refl, sym, subst, Option, Some, None}
use Rattle.std.specs.Prelude.{Contains, unwrap_or}
use Rattle.std.proofs.lemmas.Bool.{false≢true}
use Rattle.sf_base.specs.declared.ids.QueueId.{QueueId}
use Rattle.sf_base.specs.declared.status.QStatus.{QStatus}
use Rattle.sf_script_scene.specs.sf_picture.declared.picture.Picture.{Picture}
use Rattle.sf_script_scene.specs.declared.step.Step.{Step}
use Rattle.sf_script_scene.specs.declared.step.Step.TheVariants as step
use Rattle.sf_surface.specs.sf_slots.declared.calls.PlainCall.TheVariants as plain_call
use Rattle.sf_surface.specs.sf_slots.declared.calls.PlainReply.{PlainReply}
use Rattle.sf_surface.specs.sf_slots.declared.calls.PlainReply.TheVariants as plain
use Rattle.sf_surface.specs.sf_slots.declared.item.PlainItem.{PlainItem}
use Rattle.sf_surface.specs.declared.call.Gives.{Gives}
use Rattle.sf_surface.specs.declared.call.Gives.TheVariants as gives
use Rattle.sf_surface.specs.declared.call.QCall.{QCall}
use Rattle.sf_surface.specs.declared.call.QCall.TheVariants as call
use Rattle.sf_surface.specs.declared.call.QReply.{QReply}
use Rattle.sf_surface.specs.Hands.{IsReply, done_reply, points_of, refused_reply, taken_lease}
use Rattle.sf_surface.specs.Tokens.{EndingOf, ReadLeaseOf, Right}
use Rattle.sf_surface.specs.sf_turns.Views.{PermitView}
use Rattle.sf_actor.specs.declared.done.Answered.TheVariants as answered
use Rattle.sf_actor.specs.declared.done.Done.{Done}
use Rattle.sf_actor.specs.declared.holding.Holding.TheVariants as holding
use Rattle.sf_actor.specs.Asking.{Asked}
use Rattle.sf_actor.specs.Desks.{DeskHome, DeskView, MadeCall, known_of, mark_among}
use Rattle.sf_actor.specs.Known.{Call, Share, frame_of, share_of}
use Rattle.sf_actor.specs.Names.{Frame, Holdings, with_name}
use Rattle.sf_actor.specs.Rights.{EndsIn, MadeWith, Takes, WasTaken, given_turn, turn_by}
use Rattle.sf_actor.specs.Scripts.{queue_of}
use Rattle.sf_actor.specs.Steps.{holdings_next, is_refusal}
use Rattle.sf_actor.specs.Tests.{refusal_of}
use Rattle.sf_actor.specs.Tries.{ActorKept, ActorOf, next_step, past_of}
use Rattle.sf_actor.proofs.TraceGrowth.{at_end}
use Rattle.sf_actor.proofs.BroughtTokens.{refused_call_keeps}
use Rattle.sf_actor.proofs.FilledNames.{KeepsWith, given_now, is_made, still_reached, token_fills}
use Rattle.sf_actor.proofs.Forms.{answered_by_call}
use Rattle.sf_actor.proofs.CallShare.{CallsOnce, OneMore, answer_told, call_adds, joined, made_call, one_more, only, only_one}
use Rattle.sf_actor.proofs.StepKeepsActor.{actor_with, permits_stay}
use Rattle.sf_actor.proofs.NameChanges.{with_held}

-- the name holds the frame once the acquire is done
taken : (holdings : Holdings) (q i : ℕ) (expected : Option ℕ) (queue : QueueId) (item : PlainItem) (dropped : ℕ) (turn : Right) (told : PlainReply) → told ≡ plain.Acquired item dropped → queue ≡ queue_of q → holdings_next holdings (record { step = step.Acquire q i expected; answered = answered.Called told }) ≡ with_name holdings i (Some (Frame queue (frame_of (taken_lease queue item turn)).1))
unfolding holdings_next
taken holdings q i expected queue item dropped turn told done same = rw (done, same) refl

module _ {B : Type 0} where
  -- an acquire is done, or refused
  told_cases : (queue : QueueId) (expected : ℕ) (told : PlainReply) (reply : QReply B) → IsReply queue (call.Acquire expected) told reply → ((item : PlainItem) × (dropped : ℕ) × (turn : Right) × (told ≡ plain.Acquired item dropped) × (reply ≡ done_reply (item.slot.0 ∷ item.frame ∷ item.picture ∷ dropped ∷ points_of item.fence) (gives.Read (taken_lease queue item turn)) None None)) ⊎ ((cause : QStatus) × (told ≡ plain.Refused cause) × (reply ≡ refused_reply cause (call.Acquire expected)))
  told_cases queue expected (plain.Refused cause) reply is = inr (cause, refl, is)
  told_cases queue expected plain.Done reply is = absurd is
  told_cases queue expected (plain.Dequeued slot held requested reallocated points) reply is = absurd is
  told_cases queue expected (plain.Requested held) reply is = absurd is
  told_cases queue expected (plain.Queued frame) reply is = absurd is
  told_cases queue expected (plain.Attached slot held) reply is = absurd is
  told_cases queue expected (plain.Acquired item dropped) reply is = inl (item, dropped, is.0, refl, is.1)

  acquire_calls : (pictures : ℕ → Picture) (actor : ActorOf B) (q i : ℕ) (expected : Option ℕ) (home : DeskHome) (old new : DeskView B) (reply : QReply B) → ActorKept pictures actor (share_of actor.script.number (known_of home old)) → refusal_of pictures (past_of actor).holdings (step.Acquire q i expected) ≡ None → (made : MadeCall home old new actor.script.number q (length actor.trace + 1, call.Acquire (unwrap_or expected 0)) reply) → reply.ends ≡ None →
      (let c = made_call home old new actor.script.number q (length actor.trace + 1, call.Acquire (unwrap_or expected 0)) reply made in
      CallsOnce pictures actor.stock (at_end actor.trace (record { step = step.Acquire q i expected; answered = answered.Called c.told.reply })) (queue_of q, plain_call.Acquire (unwrap_or expected 0)) c (share_of actor.script.number (known_of home old)) (share_of actor.script.number (known_of home new)))
  acquire_calls pictures actor q i expected home old new reply is unrefused made no_end =
      let c = made_call home old new actor.script.number q (length actor.trace + 1, call.Acquire (unwrap_or expected 0)) reply made in
      let s : Step = step.Acquire q i expected in
      let done : Done = record { step = s; answered = answered.Called c.told.reply } in
      let at = at_end actor.trace done in
      let after = share_of actor.script.number (known_of home new) in
      let asked : Asked = (queue_of q, plain_call.Acquire (unwrap_or expected 0)) in
      record {
        asks = refl;
        replied = refl;
        answered = answered_by_call pictures after.values at asked c.told.reply unrefused refl refl refl refl refl;
        overtakes = refl;
        signals = refl;
        pays = refl;
        enters = refl;
        step = refl;
        call = refl;
        shows = tt;
        brings = refl;
        permits = λ permit brings. absurd (some_none permit brings);
        new_one = λ number other earlier there mine theirs. absurd (false≢true mine);
        ends = subst (λ (ending : Option EndingOf). EndsIn after.left ending) (sym no_end) tt;
      }
    where
      some_none : (permit : PermitView) → None ≡ Some permit → ⊥
      some_none permit e = cc

  -- the newest call acquired the frame
  acquired_now : (q expected : ℕ) (lease : ReadLeaseOf) (made : Call B) (old new : Share B) → OneMore q made old new → lease.queue.0 ≡ q → made.made.call.1 ≡ call.Acquire expected → made.made.reply.gives ≡ gives.Read lease → WasTaken new.calls lease
  acquired_now q expected lease made old new more at called gave = (
    made,
    subst (λ (queue : ℕ). Contains (new.calls queue) made) (sym at) (is_made q made old new more),
    subst (λ (asked : QCall B). Takes lease asked made.made.reply.gives) (sym called)
        (subst (λ (given : Gives B). Takes lease (call.Acquire expected) given) (sym gave) refl),
  )

  -- An acquire that is done gives the frame; one that the queue refuses moves nothing.
  pub acquire_keeps : (pictures : ℕ → Picture) (actor : ActorOf B) (q i : ℕ) (expected : Option ℕ) (home : DeskHome) (old new : DeskView B) (reply : QReply B) → next_step actor ≡ Some (step.Acquire q i expected) → ActorKept pictures actor (share_of actor.script.number (known_of home old)) → refusal_of pictures (past_of actor).holdings (step.Acquire q i expected) ≡ None → i < length actor.parts.names → i < 32 → (mark_among home.marks q).queue ≡ queue_of q → (made : MadeCall home old new actor.script.number q (length actor.trace + 1, call.Acquire (unwrap_or expected 0)) reply) →
      (let after = share_of actor.script.number (known_of home new) in
      let queue = (mark_among home.marks q).queue in
      let asked : QCall B = call.Acquire (unwrap_or expected 0) in
      ((lease : ReadLeaseOf) × (values : List ℕ) × (reply ≡ done_reply values (gives.Read lease) None None) × KeepsWith pictures actor (step.Acquire q i expected) queue asked reply (with_held actor.parts i (Some (holding.Reads lease)) actor.parts.stock) after)
      ⊎ ((cause : QStatus) × (reply ≡ refused_reply cause asked) × KeepsWith pictures actor (step.Acquire q i expected) queue asked reply actor.parts after))
  acquire_keeps pictures actor q i expected home old new reply is_next is unrefused low there marked made =
      let by = actor.script.number in
      let asking : ℕ × QCall B = (length actor.trace + 1, call.Acquire (unwrap_or expected 0)) in
      let c = made_call home old new by q asking reply made in
      let s : Step = step.Acquire q i expected in
      let done : Done = record { step = s; answered = answered.Called c.told.reply } in
      let before = share_of by (known_of home old) in
      let after = share_of by (known_of home new) in
      let asked : Asked = (queue_of q, plain_call.Acquire (unwrap_or expected 0)) in
      let more : OneMore q c before after = one_more home old new by q asking reply made in
      let replies = answer_told home old new by q asking reply made in
      let reached = still_reached actor before after more.values is.reached in
      elim (told_cases (mark_among home.marks q).queue (unwrap_or expected 0) c.told.reply reply replies) [
        | inl told ↦
            let lease = taken_lease (mark_among home.marks q).queue told.0 told.2 in
            let calls = acquire_calls pictures actor q i expected home old new reply is unrefused made (ap (λ (r : QReply B). r.ends) told.4) in
            let parts = with_held actor.parts i (Some (holding.Reads lease)) actor.parts.stock in
            inl (
              lease,
              told.0.slot.0 ∷ told.0.frame ∷ told.0.picture ∷ told.1 ∷ points_of told.0.fence,
              told.4,
              record {
                told = c.told.reply;
                replies = replies;
                keeps = actor_with pictures actor done parts before after is_next is
                    (call_adds pictures actor.stock actor.trace (at_end actor.trace done) asked c before after calls more)
                    (token_fills pictures actor s c.told.reply i (holding.Reads lease) actor.parts.stock before after (only asked c) is (record {
                      calls = joined asked c before after more;
                      low = low;
                      there = there;
                      done = ap is_refusal told.3;
                      fills = refl;
                      holdings = taken (past_of actor).holdings q i expected (mark_among home.marks q).queue told.0 told.1 told.2 c.told.reply told.3 marked;
                      given = given_now q (length actor.trace + 1) (Some (turn_by told.2)) c before after more refl (ap (λ (r : QReply B). given_turn r.gives) told.4);
                      of_call = λ numbered. acquired_now q (unwrap_or expected 0) lease c before after more (ap (λ (of : QueueId). of.0) marked) refl (ap (λ (r : QReply B). r.gives) told.4);
                      shows = tt;
                      reached = reached;
                      permits = permits_stay pictures actor done parts before after (only asked c) is refl (joined asked c before after more)
                          (λ number queue other there makes. false≢true (subst (MadeWith number) (sym (only_one asked c other queue there).0) makes));
                    }));
              },
            )
        | inr refused ↦
            let calls = acquire_calls pictures actor q i expected home old new reply is unrefused made (ap (λ (r : QReply B). r.ends) refused.2) in
            inr (
              refused.0,
              refused.2,
              record {
                told = c.told.reply;
                replies = replies;
                keeps = refused_call_keeps pictures actor s asked c refused.0 before after is_next is calls more refused.1 (λ number makes. false≢true makes) reached;
              },
            )
      ]

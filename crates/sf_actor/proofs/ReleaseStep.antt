-- What an actor keeps where it releases a frame that a name holds.
use Rattle.std.proofs.Common.{◌≡◌, ℕ, ◌+◌, ◌<◌, ◌==◌, ◌⊎◌, inl, inr, true, List, [], length, ap, ◌∙◌, sym, refl, subst, Option, Some, None}
use Rattle.std.specs.Option.{option_map}
use Rattle.std.proofs.lemmas.Bool.{eq-eqb, false≢true}
use Rattle.sf_base.specs.Fences.{Fence, IsSignalled, merged, no_points}
use Rattle.sf_base.specs.declared.ids.QueueId.{QueueId}
use Rattle.sf_base.specs.declared.status.QStatus.{QStatus}
use Rattle.sf_script_scene.specs.sf_picture.declared.picture.Picture.{Picture}
use Rattle.sf_script_scene.specs.declared.step.Step.{Step}
use Rattle.sf_script_scene.specs.declared.step.Step.TheVariants as step
use Rattle.sf_surface.specs.sf_slots.declared.calls.PlainCall.TheVariants as plain_call
use Rattle.sf_surface.specs.sf_slots.declared.calls.PlainReply.{PlainReply}
use Rattle.sf_surface.specs.sf_slots.declared.calls.PlainReply.TheVariants as plain
use Rattle.sf_surface.specs.sf_slots.declared.calls.ReadToken.{ReadToken}
use Rattle.sf_surface.specs.declared.call.Gives.TheVariants as gives
use Rattle.sf_surface.specs.declared.call.QCall.{QCall}
use Rattle.sf_surface.specs.declared.call.QCall.TheVariants as call
use Rattle.sf_surface.specs.declared.call.QReply.{QReply}
use Rattle.sf_surface.specs.Calls.{read_token}
use Rattle.sf_surface.specs.Hands.{IsReply, done_reply, refused_reply}
use Rattle.sf_surface.specs.Tokens.{EndingOf, ReadLeaseOf}
use Rattle.sf_surface.specs.sf_turns.Views.{PermitView}
use Rattle.sf_actor.specs.declared.done.Answered.TheVariants as answered
use Rattle.sf_actor.specs.declared.done.Done.{Done}
use Rattle.sf_actor.specs.declared.holding.Holding.{Holding}
use Rattle.sf_actor.specs.declared.holding.Holding.TheVariants as holding
use Rattle.sf_actor.specs.Asking.{Asked, call_of, releasing_of}
use Rattle.sf_actor.specs.Desks.{DeskHome, DeskView, MadeCall, known_of, mark_among}
use Rattle.sf_actor.specs.Known.{share_of}
use Rattle.sf_actor.specs.Names.{Frame, Holdings, name_in, with_name}
use Rattle.sf_actor.specs.Holdings.{token_of}
use Rattle.sf_actor.specs.Points.{shown_next}
use Rattle.sf_actor.specs.Rights.{EndsIn, MadeWith}
use Rattle.sf_actor.specs.Scripts.{fence_of}
use Rattle.sf_actor.specs.Steps.{holdings_next}
use Rattle.sf_actor.specs.Tests.{refusal_of}
use Rattle.sf_actor.specs.Tries.{ActorKept, ActorOf, held_in, next_step, past_of}
use Rattle.sf_actor.proofs.TraceGrowth.{at_end}
use Rattle.sf_actor.proofs.BroughtTokens.{brings_held, names_told, refused_call_keeps}
use Rattle.sf_actor.proofs.FilledNames.{KeepsWith}
use Rattle.sf_actor.proofs.Forms.{answered_by_call}
use Rattle.sf_actor.proofs.GoingOn.{signalled_on}
use Rattle.sf_actor.proofs.CallShare.{CallsOnce, OneMore, answer_told, call_adds, joined, made_call, one_more, only, only_one}
use Rattle.sf_actor.proofs.StepKeepsActor.{actor_with, permits_stay}
use Rattle.sf_actor.proofs.NameChanges.{name_moves, with_held}
use Rattle.sf_actor.proofs.SignalledFences.{merged_reached, none_reached}

no_test : (pictures : ℕ → Picture) (holdings : Holdings) (name : ℕ) (points : List (ℕ × ℕ)) (queue : QueueId) (token : ReadToken) → name_in holdings name ≡ Some (Frame queue token) → refusal_of pictures holdings (step.Release name points) ≡ None
unfolding refusal_of
no_test pictures holdings name points queue token named = rw named refl

-- the name is empty once the release is done
emptied : (holdings : Holdings) (name : ℕ) (points : List (ℕ × ℕ)) (told : PlainReply) → told ≡ plain.Done → holdings_next holdings (record { step = step.Release name points; answered = answered.Called told }) ≡ with_name holdings name None
unfolding holdings_next
emptied holdings name points told done = rw done refl

-- the frame's token, as the queue is told of it
told_token : (queue : QueueId) (lease : ReadLeaseOf) → queue ≡ lease.queue → read_token queue lease ≡ record { slot = lease.slot; frame = lease.frame; held = lease.held; picture = lease.picture; crop = lease.crop; fence = lease.fence }
told_token queue lease same =
    let met : (lease.queue.0 == queue.0) ≡ true = eq-eqb lease.queue.0 queue.0 (ap (λ (q : QueueId). q.0) (sym same)) in
    rw met refl

-- the step with the answer of its call
abbrev pub releasing : ℕ → List (ℕ × ℕ) → PlainReply → Done
releasing name points told = record { step = step.Release name points; answered = answered.Called told }

module _ {B : Type 0} where
  -- a release is done, or refused with the lease back
  told_cases : (queue : QueueId) (lease : ReadLeaseOf) (fence : Fence) (told : PlainReply) (reply : QReply B) → IsReply queue (call.Release lease fence) told reply → ((told ≡ plain.Done) × (reply ≡ done_reply [] gives.Nothing None None)) ⊎ ((cause : QStatus) × (told ≡ plain.Refused cause) × (reply ≡ refused_reply cause (call.Release lease fence)))
  told_cases queue lease fence (plain.Refused cause) reply is = inr (cause, refl, is)
  told_cases queue lease fence plain.Done reply is = inl (refl, is)
  told_cases queue lease fence (plain.Dequeued slot held requested reallocated points) reply is = absurd is
  told_cases queue lease fence (plain.Requested held) reply is = absurd is
  told_cases queue lease fence (plain.Queued frame) reply is = absurd is
  told_cases queue lease fence (plain.Attached slot held) reply is = absurd is
  told_cases queue lease fence (plain.Acquired item dropped) reply is = absurd is

  pub release_calls : (pictures : ℕ → Picture) (actor : ActorOf B) (name : ℕ) (points : List (ℕ × ℕ)) (lease : ReadLeaseOf) (home : DeskHome) (old new : DeskView B) (reply : QReply B) → ActorKept pictures actor (share_of actor.script.number (known_of home old)) → held_in actor.parts name ≡ Some (holding.Reads lease) → (mark_among home.marks lease.queue.0).queue ≡ lease.queue → (made : MadeCall home old new actor.script.number lease.queue.0 (length actor.trace + 1, call.Release lease (merged (fence_of points) lease.fence)) reply) → reply.ends ≡ None →
      CallsOnce pictures actor.stock (at_end actor.trace (releasing name points (made_call home old new actor.script.number lease.queue.0 (length actor.trace + 1, call.Release lease (merged (fence_of points) lease.fence)) reply made).told.reply)) (lease.queue, plain_call.Release (record { slot = lease.slot; frame = lease.frame; held = lease.held; picture = lease.picture; crop = lease.crop; fence = lease.fence }) (merged (fence_of points) lease.fence)) (made_call home old new actor.script.number lease.queue.0 (length actor.trace + 1, call.Release lease (merged (fence_of points) lease.fence)) reply made) (share_of actor.script.number (known_of home old)) (share_of actor.script.number (known_of home new))
  release_calls pictures actor name points lease home old new reply is holds marked made no_end =
      let fence = merged (fence_of points) lease.fence in
      let c = made_call home old new actor.script.number lease.queue.0 (length actor.trace + 1, call.Release lease fence) reply made in
      let s : Step = step.Release name points in
      let done = releasing name points c.told.reply in
      let at = at_end actor.trace done in
      let share = share_of actor.script.number (known_of home old) in
      let after = share_of actor.script.number (known_of home new) in
      let token : ReadToken = record { slot = lease.slot; frame = lease.frame; held = lease.held; picture = lease.picture; crop = lease.crop; fence = lease.fence } in
      let asked : Asked = (lease.queue, plain_call.Release token fence) in
      let named : name_in (past_of actor).holdings name ≡ Some (Frame lease.queue token) = names_told pictures actor share name is ∙ ap (option_map token_of) holds in
      let asks : call_of pictures (past_of actor).holdings s ≡ Some asked = ap (releasing_of (fence_of points)) named in
      record {
        asks = asks;
        replied = refl;
        answered = answered_by_call pictures after.values at asked c.told.reply (no_test pictures (past_of actor).holdings name points lease.queue token named) refl refl asks refl refl;
        overtakes = refl;
        signals = refl;
        pays = refl;
        enters = refl;
        step = refl;
        call = ap (λ (t : ReadToken). plain_call.Release t fence) (told_token (mark_among home.marks lease.queue.0).queue lease marked);
        shows = tt;
        brings = brings_held pictures actor share s name (holding.Reads lease) (call.Release lease fence) is refl holds refl;
        permits = λ permit brings. absurd (some_none permit brings);
        new_one = λ number other earlier there mine theirs. absurd (false≢true mine);
        ends = subst (λ (ending : Option EndingOf). EndsIn after.left ending) (sym no_end) tt;
      }
    where
      some_none : (permit : PermitView) → None ≡ Some permit → ⊥
      some_none permit e = cc

  -- A release that is done leaves the name empty; one that the queue refuses hands the lease back, and moves nothing.
  pub release_keeps : (pictures : ℕ → Picture) (actor : ActorOf B) (name : ℕ) (points : List (ℕ × ℕ)) (lease : ReadLeaseOf) (home : DeskHome) (old new : DeskView B) (reply : QReply B) → next_step actor ≡ Some (step.Release name points) → ActorKept pictures actor (share_of actor.script.number (known_of home old)) → held_in actor.parts name ≡ Some (holding.Reads lease) → name < length actor.parts.names → (mark_among home.marks lease.queue.0).queue ≡ lease.queue → (made : MadeCall home old new actor.script.number lease.queue.0 (length actor.trace + 1, call.Release lease (merged (fence_of points) lease.fence)) reply) →
      ((reply ≡ done_reply [] gives.Nothing None None) × KeepsWith pictures actor (step.Release name points) (mark_among home.marks lease.queue.0).queue (call.Release lease (merged (fence_of points) lease.fence)) reply (with_held actor.parts name None actor.parts.stock) (share_of actor.script.number (known_of home new)))
      ⊎ ((cause : QStatus) × (reply ≡ refused_reply cause (call.Release lease (merged (fence_of points) lease.fence))) × KeepsWith pictures actor (step.Release name points) (mark_among home.marks lease.queue.0).queue (call.Release lease (merged (fence_of points) lease.fence)) reply actor.parts (share_of actor.script.number (known_of home new)))
  release_keeps pictures actor name points lease home old new reply is_next is holds low marked made =
      let by = actor.script.number in
      let fence = merged (fence_of points) lease.fence in
      let asking : ℕ × QCall B = (length actor.trace + 1, call.Release lease fence) in
      let c = made_call home old new by lease.queue.0 asking reply made in
      let done = releasing name points c.told.reply in
      let before = share_of by (known_of home old) in
      let after = share_of by (known_of home new) in
      let asked : Asked = (lease.queue, plain_call.Release (record { slot = lease.slot; frame = lease.frame; held = lease.held; picture = lease.picture; crop = lease.crop; fence = lease.fence }) fence) in
      let more : OneMore lease.queue.0 c before after = one_more home old new by lease.queue.0 asking reply made in
      let reached : IsSignalled (shown_next (past_of actor).holdings (past_of actor).shown done) after.values =
      merged_reached (past_of actor).shown no_points after.values (signalled_on (past_of actor).shown before.values after.values more.values is.reached) (none_reached after.values) in
      let replies = answer_told home old new by lease.queue.0 asking reply made in
      elim (told_cases (mark_among home.marks lease.queue.0).queue lease fence c.told.reply reply replies) [
        | inl told ↦
            let calls = release_calls pictures actor name points lease home old new reply is holds marked made (ap (λ (r : QReply B). r.ends) told.1) in
            inl (
              told.1,
              record {
                told = c.told.reply;
                replies = replies;
                keeps = actor_with pictures actor done (with_held actor.parts name None actor.parts.stock) before after is_next is
                    (call_adds pictures actor.stock actor.trace (at_end actor.trace done) asked c before after calls more)
                    (name_moves pictures actor done name None actor.parts.stock before after (only asked c) is (record {
                      calls = joined asked c before after more;
                      low = low;
                      holdings = emptied (past_of actor).holdings name points c.told.reply told.0;
                      since = λ other apart. rw told.0 refl;
                      given = λ now e. absurd (none_some now e);
                      of_call = λ now e. absurd (none_some now e);
                      shows = λ now e. absurd (none_some now e);
                      reached = reached;
                      permits = permits_stay pictures actor done (with_held actor.parts name None actor.parts.stock) before after (only asked c) is refl (joined asked c before after more)
                          (λ number queue other there makes. false≢true (subst (MadeWith number) (sym (only_one asked c other queue there).0) makes));
                    }));
              },
            )
        | inr refused ↦
            let calls = release_calls pictures actor name points lease home old new reply is holds marked made (ap (λ (r : QReply B). r.ends) refused.2) in
            inr (refused.0, refused.2, record { told = c.told.reply; replies = replies; keeps = refused_call_keeps pictures actor (step.Release name points) asked c refused.0 before after is_next is calls more refused.1 (λ number makes. false≢true makes) reached })
      ]
    where
      none_some : (now : Holding B) → None ≡ Some now → ⊥
      none_some now e = cc

-- What an actor keeps where it disconnects from a queue: the leases that the queue lent are gone.
use Rattle.std.proofs.Common.{◌≡◌, ℕ, ◌+◌, ◌==◌, ◌⊎◌, inl, inr, List, [], ◌∷◌, length, ap, ◌∙◌, refl, sym, subst, Option, Some, None}
use Rattle.std.specs.Prelude.{get_or, if◌then◌else◌, map}
use Rattle.std.specs.Option.{option_map}
use Rattle.std.proofs.lemmas.Bool.{cases_Bool, false≢true}
use Rattle.std.proofs.Math.ListN.{get_or-map}
use Rattle.sf_base.specs.declared.ids.ActorId.{ActorId}
use Rattle.sf_base.specs.declared.ids.QueueId.{QueueId}
use Rattle.sf_base.specs.declared.status.QStatus.{QStatus}
use Rattle.sf_base.specs.declared.status.QStatus.TheVariants as status
use Rattle.sf_script_scene.specs.sf_picture.declared.picture.Picture.{Picture}
use Rattle.sf_script_scene.specs.declared.step.Step.{Step}
use Rattle.sf_script_scene.specs.declared.step.Step.TheVariants as step
use Rattle.sf_surface.specs.sf_slots.declared.calls.PlainCall.TheVariants as plain_call
use Rattle.sf_surface.specs.sf_slots.declared.calls.PlainReply.{PlainReply}
use Rattle.sf_surface.specs.sf_slots.declared.calls.PlainReply.TheVariants as plain
use Rattle.sf_surface.specs.sf_slots.Replies.{is_producer, reply_told}
use Rattle.sf_surface.specs.sf_slots.Told.{Told}
use Rattle.sf_surface.specs.sf_slots.History.{told_by}
use Rattle.sf_surface.specs.declared.call.Gives.TheVariants as gives
use Rattle.sf_surface.specs.declared.call.QCall.{QCall}
use Rattle.sf_surface.specs.declared.call.QCall.TheVariants as call
use Rattle.sf_surface.specs.declared.call.QReply.{QReply}
use Rattle.sf_surface.specs.Hands.{IsReply, done_reply, refused_reply}
use Rattle.sf_surface.specs.Histories.{told}
use Rattle.sf_surface.specs.Tokens.{EndingOf}
use Rattle.sf_surface.specs.sf_turns.Views.{PermitView}
use Rattle.sf_actor.specs.declared.done.Answered.TheVariants as answered
use Rattle.sf_actor.specs.declared.done.Done.{Done}
use Rattle.sf_actor.specs.declared.holding.Holding.{Holding}
use Rattle.sf_actor.specs.declared.holding.Holding.TheVariants as holding
use Rattle.sf_actor.specs.Asking.{Asked}
use Rattle.sf_actor.specs.Desks.{DeskHome, DeskView, MadeCall, known_of, mark_among}
use Rattle.sf_actor.specs.Known.{share_of}
use Rattle.sf_actor.specs.Names.{Holdings, Token, dropped_of, without_leases}
use Rattle.sf_actor.specs.Holdings.{HoldingsOf, plain_of, token_of}
use Rattle.sf_actor.specs.Rights.{EndsIn, MadeWith}
use Rattle.sf_actor.specs.Scripts.{queue_of}
use Rattle.sf_actor.specs.Steps.{holdings_next}
use Rattle.sf_actor.specs.Tests.{refusal_of}
use Rattle.sf_actor.specs.Tries.{ActorKept, ActorOf, held_in, next_step, past_of}
use Rattle.sf_actor.proofs.TraceGrowth.{at_end}
use Rattle.sf_actor.proofs.BroughtTokens.{refused_call_keeps}
use Rattle.sf_actor.proofs.FilledNames.{KeepsWith, changes_move, still_reached}
use Rattle.sf_actor.proofs.Forms.{answered_by_call, plain_since}
use Rattle.sf_actor.proofs.CallShare.{CallsOnce, OneMore, answer_told, call_adds, joined, made_call, one_more, only, only_one}
use Rattle.sf_actor.proofs.StepKeepsActor.{actor_with, permits_stay}

-- it has no test of its own
no_test : (pictures : ℕ → Picture) (holdings : Holdings) (q : ℕ) → refusal_of pictures holdings (step.Disconnect q) ≡ None
unfolding refusal_of
no_test pictures holdings q = refl

-- the leases are gone once it is done
let_go : (holdings : Holdings) (q : ℕ) (told : PlainReply) → told ≡ plain.Done → holdings_next holdings (record { step = step.Disconnect q; answered = answered.Called told }) ≡ without_leases holdings q
unfolding holdings_next
let_go holdings q told done = rw done refl

-- a queue refuses it with one status only
refused_for : (told : Told) (caller : ActorId) (cause : QStatus) → reply_told told caller plain_call.Disconnect ≡ plain.Refused cause → cause ≡ status.NoInit
refused_for told caller cause e = elim (cases_Bool told.settings.abandoned) [
  | inl met ↦ let same : plain.Refused status.NoInit ≡ plain.Refused cause = rw met at e in cc
  | inr unmet ↦ elim (cases_Bool (is_producer told.settings.connected caller)) [
    | inl own ↦ let same : plain.Done ≡ plain.Refused cause = rw (unmet, own) at e in cc
    | inr other ↦ let same : plain.Refused status.NoInit ≡ plain.Refused cause = rw (unmet, other) at e in cc
  ]
]

module _ {B : Type 0} where
  -- a name without the lease of this queue, if it holds one
  abbrev pub unless_lent : ℕ → Holding B → Option (Holding B)
  unless_lent queue (holding.Lends lease) = if lease.queue.0 == queue then None else Some (holding.Lends lease)
  unless_lent queue held = Some held

  abbrev pub let_go_of : ℕ → Option (Holding B) → Option (Holding B)
  let_go_of queue None = None
  let_go_of queue (Some held) = unless_lent queue held

  -- the leases of a queue are dropped
  abbrev pub without_lent : HoldingsOf B → ℕ → HoldingsOf B
  without_lent parts queue = record parts { names = map (let_go_of queue) parts.names }

  told_without : (queue : ℕ) (held : Option (Holding B)) → option_map token_of (let_go_of queue held) ≡ dropped_of queue (option_map token_of held)
  told_without queue None = refl
  told_without queue (Some (holding.Lends lease)) = elim (cases_Bool (lease.queue.0 == queue)) [
    | inl met ↦ rw met refl
    | inr unmet ↦ rw unmet refl
  ]
  told_without queue (Some (holding.Owes owing held)) = refl
  told_without queue (Some (holding.Reads lease)) = refl
  told_without queue (Some (holding.Frees last loose)) = refl

  all_without : (queue : ℕ) (names : List (Option (Holding B))) → map (option_map token_of) (map (let_go_of queue) names) ≡ map (dropped_of queue) (map (option_map token_of) names)
  all_without queue [] = refl
  all_without queue (held ∷ names) = λ i. told_without queue held i ∷ all_without queue names i

  -- what is still there was there
  was_there : (queue : ℕ) (held : Option (Holding B)) (now : Holding B) → let_go_of queue held ≡ Some now → held ≡ Some now
  was_there queue None now e = e
  was_there queue (Some (holding.Lends lease)) now e = elim (cases_Bool (lease.queue.0 == queue)) [
    | inl met ↦ let none : None ≡ Some now = rw met at e in cc
    | inr unmet ↦ rw unmet at e
  ]
  was_there queue (Some (holding.Owes owing held)) now e = e
  was_there queue (Some (holding.Reads lease)) now e = e
  was_there queue (Some (holding.Frees last loose)) now e = e

  told_cases : (queue : QueueId) (told : PlainReply) (reply : QReply B) → IsReply queue call.Disconnect told reply → ((told ≡ plain.Done) × (reply ≡ done_reply [] gives.Nothing None None)) ⊎ ((cause : QStatus) × (told ≡ plain.Refused cause) × (reply ≡ refused_reply cause call.Disconnect))
  told_cases queue (plain.Refused cause) reply is = inr (cause, refl, is)
  told_cases queue plain.Done reply is = inl (refl, is)
  told_cases queue (plain.Dequeued slot held requested reallocated points) reply is = absurd is
  told_cases queue (plain.Requested held) reply is = absurd is
  told_cases queue (plain.Queued frame) reply is = absurd is
  told_cases queue (plain.Attached slot held) reply is = absurd is
  told_cases queue (plain.Acquired item dropped) reply is = absurd is

  disconnect_calls : (pictures : ℕ → Picture) (actor : ActorOf B) (q : ℕ) (home : DeskHome) (old new : DeskView B) (reply : QReply B) → (made : MadeCall home old new actor.script.number q (length actor.trace + 1, call.Disconnect) reply) → reply.ends ≡ None →
      (let c = made_call home old new actor.script.number q (length actor.trace + 1, call.Disconnect) reply made in
      CallsOnce pictures actor.stock (at_end actor.trace (record { step = step.Disconnect q; answered = answered.Called c.told.reply })) (queue_of q, plain_call.Disconnect) c (share_of actor.script.number (known_of home old)) (share_of actor.script.number (known_of home new)))
  disconnect_calls pictures actor q home old new reply made no_end =
      let c = made_call home old new actor.script.number q (length actor.trace + 1, call.Disconnect) reply made in
      let s : Step = step.Disconnect q in
      let at = at_end actor.trace (record { step = s; answered = answered.Called c.told.reply }) in
      let after = share_of actor.script.number (known_of home new) in
      let asked : Asked = (queue_of q, plain_call.Disconnect) in
      record {
        asks = refl;
        replied = refl;
        answered = answered_by_call pictures after.values at asked c.told.reply (no_test pictures (past_of actor).holdings q) refl refl refl refl refl;
        overtakes = refl;
        signals = refl;
        pays = refl;
        enters = refl;
        step = refl;
        call = refl;
        shows = tt;
        brings = refl;
        permits = λ permit brings. absurd (some_none permit brings);
        new_one = λ number other earlier there mine theirs. absurd (false≢true mine);
        ends = subst (λ (ending : Option EndingOf). EndsIn after.left ending) (sym no_end) tt;
      }
    where
      some_none : (permit : PermitView) → None ≡ Some permit → ⊥
      some_none permit e = cc

  -- A disconnect that is done drops the leases of the queue; one that the queue refuses, with one status only, moves nothing.
  pub disconnect_keeps : (pictures : ℕ → Picture) (actor : ActorOf B) (q : ℕ) (home : DeskHome) (old new : DeskView B) (reply : QReply B) → next_step actor ≡ Some (step.Disconnect q) → ActorKept pictures actor (share_of actor.script.number (known_of home old)) → MadeCall home old new actor.script.number q (length actor.trace + 1, call.Disconnect) reply →
      (let after = share_of actor.script.number (known_of home new) in
      let queue = (mark_among home.marks q).queue in
      let asked : QCall B = call.Disconnect in
      ((reply ≡ done_reply [] gives.Nothing None None) × KeepsWith pictures actor (step.Disconnect q) queue asked reply (without_lent actor.parts q) after)
      ⊎ ((reply ≡ refused_reply status.NoInit asked) × KeepsWith pictures actor (step.Disconnect q) queue asked reply actor.parts after))
  disconnect_keeps pictures actor q home old new reply is_next is made =
      let by = actor.script.number in
      let asking : ℕ × QCall B = (length actor.trace + 1, call.Disconnect) in
      let c = made_call home old new by q asking reply made in
      let s : Step = step.Disconnect q in
      let done : Done = record { step = s; answered = answered.Called c.told.reply } in
      let before = share_of by (known_of home old) in
      let after = share_of by (known_of home new) in
      let asked : Asked = (queue_of q, plain_call.Disconnect) in
      let mark = mark_among home.marks q in
      let more : OneMore q c before after = one_more home old new by q asking reply made in
      let replies = answer_told home old new by q asking reply made in
      let reached = still_reached actor before after more.values is.reached in
      elim (told_cases mark.queue c.told.reply reply replies) [
        | inl told ↦
            let calls = disconnect_calls pictures actor q home old new reply made (ap (λ (r : QReply B). r.ends) told.1) in
            let parts = without_lent actor.parts q in
            inl (
              told.1,
              record {
                told = c.told.reply;
                replies = replies;
                keeps = actor_with pictures actor done parts before after is_next is
                    (call_adds pictures actor.stock actor.trace (at_end actor.trace done) asked c before after calls more)
                    (changes_move pictures actor done parts before after (only asked c) is (record {
                      calls = joined asked c before after more;
                      has =
                          ap (λ (names : List (Option Token)). record { names = names; transactions = (plain_of actor.parts).transactions }) (all_without q actor.parts.names)
                          ∙ ap (λ (holdings : Holdings). without_leases holdings q) is.has
                          ∙ sym (let_go (past_of actor).holdings q c.told.reply told.0);
                      held = λ name now there. inl (
                        was_there q (held_in actor.parts name) now (sym (get_or-map (let_go_of q) actor.parts.names name None) ∙ there),
                        ap (λ (since : List ℕ). get_or since name 0) (plain_since (past_of actor).since (length actor.trace + 1) done refl),
                      );
                      contents = λ number txn there. inl there;
                      reached = reached;
                      permits = permits_stay pictures actor done parts before after (only asked c) is refl (joined asked c before after more)
                          (λ number queue other there makes. false≢true (subst (MadeWith number) (sym (only_one asked c other queue there).0) makes));
                    }));
              },
            )
        | inr refused ↦
            let calls = disconnect_calls pictures actor q home old new reply made (ap (λ (r : QReply B). r.ends) refused.2) in
            let cause = refused_for (told_by mark.width mark.height (told mark made.earlier)) (record { 0 = by }) refused.0 refused.1 in
            inr (
              refused.2 ∙ ap (λ (status : QStatus). refused_reply status call.Disconnect) cause,
              record {
                told = c.told.reply;
                replies = replies;
                keeps = refused_call_keeps pictures actor s asked c refused.0 before after is_next is calls more refused.1 (λ number makes. false≢true makes) reached;
              },
            )
      ]

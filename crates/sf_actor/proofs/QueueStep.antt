-- What an actor keeps where it queues the buffer that a name holds: a drawn one leaves its name, and an undrawn one leaves its
-- drawing owed there.
use Rattle.std.proofs.Common.{◌≡◌, ℕ, ◌+◌, ◌<◌, ◌==◌, ◌⊎◌, inl, inr, true, false, List, [], ◌∷◌, length, arith, ap, ◌∙◌, refl, sym, subst, Option, Some, None}
use Rattle.std.specs.Prelude.{Contains}
use Rattle.std.specs.Option.{option_map}
use Rattle.std.proofs.lemmas.Bool.{cases_Bool, eq-eqb, eqb-true, false≢true}
use Rattle.sf_base.specs.declared.ids.QueueId.{QueueId}
use Rattle.sf_base.specs.declared.status.QStatus.{QStatus}
use Rattle.sf_script_scene.specs.sf_picture.declared.picture.Picture.{Picture}
use Rattle.sf_script_scene.specs.declared.step.Step.{Step}
use Rattle.sf_script_scene.specs.declared.step.Step.TheVariants as step
use Rattle.sf_surface.specs.sf_slots.declared.calls.PlainCall.TheVariants as plain_call
use Rattle.sf_surface.specs.sf_slots.declared.calls.PlainReply.{PlainReply}
use Rattle.sf_surface.specs.sf_slots.declared.calls.PlainReply.TheVariants as plain
use Rattle.sf_surface.specs.sf_slots.declared.calls.WriteToken.{WriteToken}
use Rattle.sf_surface.specs.declared.call.QCall.{QCall}
use Rattle.sf_surface.specs.declared.call.QCall.TheVariants as call
use Rattle.sf_surface.specs.declared.call.QReply.{QReply}
use Rattle.sf_surface.specs.declared.work.Work.{Work}
use Rattle.sf_surface.specs.declared.work.Work.TheVariants as work
use Rattle.sf_surface.specs.Calls.{queued_token, shows_other, write_token}
use Rattle.sf_surface.specs.Hands.{IsReply, done_reply, owes, owing_of, refused_reply}
use Rattle.sf_surface.specs.Pictures.{same_picture}
use Rattle.sf_surface.specs.Tokens.{WriteLeaseOf, ending_of}
use Rattle.sf_surface.proofs.SamePictures.{other_picture}
use Rattle.sf_surface.specs.sf_turns.Views.{PermitView}
use Rattle.sf_actor.specs.declared.done.Answered.TheVariants as answered
use Rattle.sf_actor.specs.declared.done.Done.{Done}
use Rattle.sf_actor.specs.declared.holding.Holding.{Holding}
use Rattle.sf_actor.specs.declared.holding.Holding.TheVariants as holding
use Rattle.sf_actor.specs.Asking.{Asked, call_of, queueing_of}
use Rattle.sf_actor.specs.Desks.{DeskHome, DeskView, MadeCall, known_of, mark_among}
use Rattle.sf_actor.specs.Known.{Call, Share, ShareGoesOn, share_of}
use Rattle.sf_actor.specs.Names.{Holdings, Lent, name_in, with_name}
use Rattle.sf_actor.specs.Holdings.{ShowsPictures, drawn_picture, token_of, turn_held}
use Rattle.sf_actor.specs.Rights.{EndsIn, IsOfCall, MadeWith, WasGivenAt, given_turn}
use Rattle.sf_actor.specs.Scripts.{crop_of, fence_of}
use Rattle.sf_actor.specs.Steps.{holdings_next, is_refusal}
use Rattle.sf_actor.specs.Tests.{bad_value, refusal_of}
use Rattle.sf_actor.specs.Tries.{ActorKept, ActorOf, held_in, next_step, past_of}
use Rattle.sf_actor.proofs.TraceGrowth.{at_end}
use Rattle.sf_actor.proofs.BroughtTokens.{brings_held, names_told, refused_call_keeps}
use Rattle.sf_actor.proofs.FilledNames.{KeepsWith, filled_here, filled_other, given_now, is_made, since_length, still_reached}
use Rattle.sf_actor.proofs.Forms.{answered_by_call}
use Rattle.sf_actor.proofs.CallShare.{CallsOnce, OneMore, answer_told, call_adds, joined, made_call, one_more, only, only_one, then_goes}
use Rattle.sf_actor.proofs.StepKeepsActor.{actor_with, permits_stay}
use Rattle.sf_actor.proofs.NameChanges.{name_moves, with_held}

-- no other picture was drawn in a lease that the step's test lets pass
drawn_same : (pictures : ℕ → Picture) (holdings : Holdings) (name p : ℕ) (time : Option ℕ) (crop : Option (ℕ × ℕ × ℕ × ℕ)) (points : List (ℕ × ℕ)) (queue : QueueId) (token : WriteToken) (drawn : ℕ) → name_in holdings name ≡ Some (Lent queue token (Some drawn)) → refusal_of pictures holdings (step.Queue name p time crop points) ≡ None → drawn ≡ p
unfolding refusal_of
drawn_same pictures holdings name p time crop points queue token drawn named unrefused = elim (cases_Bool (drawn == p)) [
  | inl met ↦ eqb-true drawn p met
  | inr unmet ↦ let refused : Some bad_value ≡ None = rw (named, unmet) at unrefused in cc
]

-- the token of the call is the lease's
told_token : (queue : QueueId) (lease : WriteLeaseOf) (picture : Picture) → queue ≡ lease.queue → shows_other lease.work picture ≡ false → queued_token queue lease picture ≡ write_token lease.queue lease
told_token queue lease picture same none = rw (same, none) refl

-- the call of the step
abbrev pub queue_asked : WriteLeaseOf → Picture → Option ℕ → Option (ℕ × ℕ × ℕ × ℕ) → List (ℕ × ℕ) → Asked
queue_asked lease picture time crop points =
    (lease.queue, plain_call.Queue (write_token lease.queue lease) picture.number picture.width picture.height time (crop_of lease.held crop) (fence_of points))

module _ {B : Type 0} where
  -- the same with its tokens
  abbrev pub queue_call : WriteLeaseOf → Picture → Option ℕ → Option (ℕ × ℕ × ℕ × ℕ) → List (ℕ × ℕ) → QCall B
  queue_call lease picture time crop points = call.Queue lease picture time (crop_of lease.held crop) (fence_of points)

  -- what is left under the name: the drawing of an undrawn lease
  abbrev pub left_owed : QueueId → WriteLeaseOf → ℕ → Picture → Work → Option (Holding B)
  left_owed queue lease frame picture (work.Fresh turn) = Some (holding.Owes (owing_of queue lease frame turn picture) lease.held)
  left_owed queue lease frame picture (work.Drawn inside pixels) = None

-- the picture of a drawn lease is the one that is queued
shows_none : (B : Type 0) (pictures : ℕ → Picture) (lease : WriteLeaseOf) (w : Work) (p : ℕ) → ShowsPictures {B = B} pictures (holding.Lends (record lease { work = w })) → ((drawn : ℕ) → drawn_picture w ≡ Some drawn → drawn ≡ p) → shows_other w (pictures p) ≡ false
shows_none B pictures lease (work.Fresh turn) p shows same = refl
shows_none B pictures lease (work.Drawn inside pixels) p shows same = elim (cases_Bool (same_picture pixels (pictures p))) [
  | inl met ↦ rw met refl
  | inr unmet ↦ absurd (other_picture pixels (pictures p) unmet (shows ∙ ap pictures (same pixels.number refl)))
]

-- what the name holds once the queue is done
queued_holds : (B : Type 0) (holdings : Holdings) (name p : ℕ) (time : Option ℕ) (crop : Option (ℕ × ℕ × ℕ × ℕ)) (points : List (ℕ × ℕ)) (queue : QueueId) (lease : WriteLeaseOf) (w : Work) (frame : ℕ) (picture : Picture) (told : PlainReply) → told ≡ plain.Queued frame → name_in holdings name ≡ Some (Lent lease.queue (write_token lease.queue lease) (drawn_picture w)) → queue ≡ lease.queue → picture.number ≡ p → holdings_next holdings (record { step = step.Queue name p time crop points; answered = answered.Called told }) ≡ with_name holdings name (option_map token_of (left_owed {B = B} queue lease frame picture w))
unfolding holdings_next
queued_holds B holdings name p time crop points queue lease (work.Fresh turn) frame picture told done named same number =
    let met : (lease.queue.0 == lease.queue.0) ≡ true = eq-eqb lease.queue.0 lease.queue.0 refl in
    rw (done, named, same, number, met) refl
queued_holds B holdings name p time crop points queue lease (work.Drawn inside pixels) frame picture told done named same number = rw (done, named) refl

module _ {B : Type 0} where
  -- a queue is done, or refused with the lease back
  told_cases : (queue : QueueId) (lease : WriteLeaseOf) (picture : Picture) (time : Option ℕ) (crop : Option (ℕ × ℕ × ℕ × ℕ)) (points : List (ℕ × ℕ)) (told : PlainReply) (reply : QReply B) → IsReply queue (queue_call lease picture time crop points) told reply → ((frame : ℕ) × (told ≡ plain.Queued frame) × (reply ≡ done_reply (lease.slot.0 ∷ frame ∷ []) (owes queue lease frame picture lease.work) (ending_of lease.work picture) None)) ⊎ ((cause : QStatus) × (told ≡ plain.Refused cause) × (reply ≡ refused_reply cause (queue_call lease picture time crop points)))
  told_cases queue lease picture time crop points (plain.Refused cause) reply is = inr (cause, refl, is)
  told_cases queue lease picture time crop points plain.Done reply is = absurd is
  told_cases queue lease picture time crop points (plain.Dequeued slot held requested reallocated fence) reply is = absurd is
  told_cases queue lease picture time crop points (plain.Requested held) reply is = absurd is
  told_cases queue lease picture time crop points (plain.Queued frame) reply is = inl (frame, refl, is)
  told_cases queue lease picture time crop points (plain.Attached slot held) reply is = absurd is
  told_cases queue lease picture time crop points (plain.Acquired item dropped) reply is = absurd is

  -- its turn is the one that the reply gives, and it promises the scene's picture
  owed_turn : (queue : QueueId) (lease : WriteLeaseOf) (frame : ℕ) (picture : Picture) (w : Work) (now : Holding B) → left_owed queue lease frame picture w ≡ Some now → given_turn {B = B} (owes queue lease frame picture w) ≡ Some (turn_held now)
  owed_turn queue lease frame picture (work.Fresh turn) now e = ap (λ (h : Holding B). Some (turn_held h)) (one (holding.Owes (owing_of queue lease frame turn picture) lease.held) e)
    where
      one : (h : Holding B) → Some h ≡ Some now → h ≡ now
      one h same = cc
  owed_turn queue lease frame picture (work.Drawn inside pixels) now e = absurd (none_some e)
    where
      none_some : None ≡ Some now → ⊥
      none_some same = cc

  owed_shows : (pictures : ℕ → Picture) (queue : QueueId) (lease : WriteLeaseOf) (frame : ℕ) (picture : Picture) (w : Work) (now : Holding B) → picture ≡ pictures picture.number → left_owed queue lease frame picture w ≡ Some now → ShowsPictures pictures now
  owed_shows pictures queue lease frame picture (work.Fresh turn) now known e = subst (λ (h : Holding B). ShowsPictures pictures h) (one (holding.Owes (owing_of queue lease frame turn picture) lease.held) e) known
    where
      one : (h : Holding B) → Some h ≡ Some now → h ≡ now
      one h same = cc
  owed_shows pictures queue lease frame picture (work.Drawn inside pixels) now known e = absurd (none_some e)
    where
      none_some : None ≡ Some now → ⊥
      none_some same = cc

  -- it is just what the call gave
  owed_of_call : (calls : ℕ → List (Call B)) (q : ℕ) (made : Call B) (queue : QueueId) (lease : WriteLeaseOf) (frame : ℕ) (picture : Picture) (w : Work) (now : Holding B) → Contains (calls q) made → made.made.reply.gives ≡ owes queue lease frame picture w → left_owed queue lease frame picture w ≡ Some now → IsOfCall calls now
  owed_of_call calls q made queue lease frame picture (work.Fresh turn) now there gave e =
      subst (λ (h : Holding B). IsOfCall calls h) (one (holding.Owes (owing_of queue lease frame turn picture) lease.held) e) (q, made, there, gave)
    where
      one : (h : Holding B) → Some h ≡ Some now → h ≡ now
      one h same = cc
  owed_of_call calls q made queue lease frame picture (work.Drawn inside pixels) now there gave e = absurd (none_some e)
    where
      none_some : None ≡ Some now → ⊥
      none_some same = cc

  queue_calls : (pictures : ℕ → Picture) (actor : ActorOf B) (name p : ℕ) (time : Option ℕ) (crop : Option (ℕ × ℕ × ℕ × ℕ)) (points : List (ℕ × ℕ)) (lease : WriteLeaseOf) (home : DeskHome) (old new : DeskView B) (reply : QReply B) (after : Share B) → ActorKept pictures actor (share_of actor.script.number (known_of home old)) → refusal_of pictures (past_of actor).holdings (step.Queue name p time crop points) ≡ None → (pictures p).number ≡ p → held_in actor.parts name ≡ Some (holding.Lends lease) → (mark_among home.marks lease.queue.0).queue ≡ lease.queue → (made : MadeCall home old new actor.script.number lease.queue.0 (length actor.trace + 1, queue_call lease (pictures p) time crop points) reply) → EndsIn after.left reply.ends →
      (let c = made_call home old new actor.script.number lease.queue.0 (length actor.trace + 1, queue_call lease (pictures p) time crop points) reply made in
      CallsOnce pictures actor.stock (at_end actor.trace (record { step = step.Queue name p time crop points; answered = answered.Called c.told.reply })) (queue_asked lease (pictures p) time crop points) c (share_of actor.script.number (known_of home old)) after)
  queue_calls pictures actor name p time crop points lease home old new reply after is unrefused number holds marked made ends =
      let asked = queue_asked lease (pictures p) time crop points in
      let c = made_call home old new actor.script.number lease.queue.0 (length actor.trace + 1, queue_call lease (pictures p) time crop points) reply made in
      let s : Step = step.Queue name p time crop points in
      let at = at_end actor.trace (record { step = s; answered = answered.Called c.told.reply }) in
      let before = share_of actor.script.number (known_of home old) in
      let named : name_in (past_of actor).holdings name ≡ Some (Lent lease.queue (write_token lease.queue lease) (drawn_picture lease.work)) = names_told pictures actor before name is ∙ ap (option_map token_of) holds in
      let asks : call_of pictures (past_of actor).holdings s ≡ Some asked = ap (queueing_of (pictures p) time crop (fence_of points)) named in
      let none : shows_other lease.work (pictures p) ≡ false = shows_none B pictures lease lease.work p (is.shows name (holding.Lends lease) holds)
      (λ drawn e. drawn_same pictures (past_of actor).holdings name p time crop points lease.queue (write_token lease.queue lease) drawn (named ∙ ap (λ (d : Option ℕ). Some (Lent lease.queue (write_token lease.queue lease) d)) e) unrefused) in
      record {
        asks = asks;
        replied = refl;
        answered = answered_by_call pictures after.values at asked c.told.reply unrefused refl refl asks refl refl;
        overtakes = refl;
        signals = refl;
        pays = refl;
        enters = refl;
        step = refl;
        call = ap (λ (token : WriteToken). plain_call.Queue token (pictures p).number (pictures p).width (pictures p).height time (crop_of lease.held crop) (fence_of points))
            (told_token (mark_among home.marks lease.queue.0).queue lease (pictures p) marked none);
        shows = ap pictures (sym number);
        brings = brings_held pictures actor before s name (holding.Lends lease) (queue_call lease (pictures p) time crop points) is refl holds refl;
        permits = λ permit brings. absurd (some_none permit brings);
        new_one = λ number other earlier there mine theirs. absurd (false≢true mine);
        ends = ends;
      }
    where
      some_none : (permit : PermitView) → None ≡ Some permit → ⊥
      some_none permit e = cc

  -- A queue that is done leaves the name empty, or the drawing owed there; one that the queue refuses hands the lease back.
  pub queue_keeps : (pictures : ℕ → Picture) (actor : ActorOf B) (name p : ℕ) (time : Option ℕ) (crop : Option (ℕ × ℕ × ℕ × ℕ)) (points : List (ℕ × ℕ)) (lease : WriteLeaseOf) (home : DeskHome) (old new : DeskView B) (reply : QReply B) (after : Share B) → next_step actor ≡ Some (step.Queue name p time crop points) → ActorKept pictures actor (share_of actor.script.number (known_of home old)) → refusal_of pictures (past_of actor).holdings (step.Queue name p time crop points) ≡ None → (pictures p).number ≡ p → held_in actor.parts name ≡ Some (holding.Lends lease) → name < length actor.parts.names → name < 32 → (mark_among home.marks lease.queue.0).queue ≡ lease.queue → MadeCall home old new actor.script.number lease.queue.0 (length actor.trace + 1, queue_call lease (pictures p) time crop points) reply → ShareGoesOn (share_of actor.script.number (known_of home new)) after → EndsIn after.left reply.ends →
      (let queue = (mark_among home.marks lease.queue.0).queue in
      let asked : QCall B = queue_call lease (pictures p) time crop points in
      let s : Step = step.Queue name p time crop points in
      ((frame : ℕ) × (reply ≡ done_reply (lease.slot.0 ∷ frame ∷ []) (owes queue lease frame (pictures p) lease.work) (ending_of lease.work (pictures p)) None) × KeepsWith pictures actor s queue asked reply (with_held actor.parts name (left_owed queue lease frame (pictures p) lease.work) actor.parts.stock) after)
      ⊎ ((cause : QStatus) × (reply ≡ refused_reply cause asked) × KeepsWith pictures actor s queue asked reply actor.parts after))
  queue_keeps pictures actor name p time crop points lease home old new reply after is_next is unrefused number holds low there marked made goes ends =
      let by = actor.script.number in
      let asking : ℕ × QCall B = (length actor.trace + 1, queue_call lease (pictures p) time crop points) in
      let c = made_call home old new by lease.queue.0 asking reply made in
      let s : Step = step.Queue name p time crop points in
      let done : Done = record { step = s; answered = answered.Called c.told.reply } in
      let before = share_of by (known_of home old) in
      let asked = queue_asked lease (pictures p) time crop points in
      let queue = (mark_among home.marks lease.queue.0).queue in
      let more : OneMore lease.queue.0 c before after = then_goes lease.queue.0 c before (share_of by (known_of home new)) after (one_more home old new by lease.queue.0 asking reply made) goes in
      let replies = answer_told home old new by lease.queue.0 asking reply made in
      let calls = queue_calls pictures actor name p time crop points lease home old new reply after is unrefused number holds marked made ends in
      let reached = still_reached actor before after more.values is.reached in
      let named : name_in (past_of actor).holdings name ≡ Some (Lent lease.queue (write_token lease.queue lease) (drawn_picture lease.work)) = names_told pictures actor before name is ∙ ap (option_map token_of) holds in
      let since = (past_of actor).since in
      elim (told_cases queue lease (pictures p) time crop points c.told.reply reply replies) [
        | inl told ↦
            let held = left_owed queue lease told.0 (pictures p) lease.work in
            let parts = with_held actor.parts name held actor.parts.stock in
            let low_since : name < length since = omega (arith, since_length actor.trace, there) in
            inl (
              told.0,
              told.2,
              record {
                told = c.told.reply;
                replies = replies;
                keeps = actor_with pictures actor done parts before after is_next is
                    (call_adds pictures actor.stock actor.trace (at_end actor.trace done) asked c before after calls more)
                    (name_moves pictures actor done name held actor.parts.stock before after (only asked c) is (record {
                      calls = joined asked c before after more;
                      low = low;
                      holdings = queued_holds B (past_of actor).holdings name p time crop points queue lease lease.work told.0 (pictures p) c.told.reply told.1 named marked number;
                      since = λ other apart. filled_other since (length actor.trace + 1) s c.told.reply name other (ap is_refusal told.1) refl apart;
                      given = λ now e.
                          subst (λ (place : ℕ). WasGivenAt after.calls place (Some (turn_held now))) (sym (filled_here since (length actor.trace + 1) s c.told.reply name (ap is_refusal told.1) refl low_since))
                          (given_now lease.queue.0 (length actor.trace + 1) (Some (turn_held now)) c before after more refl
                          (ap (λ (r : QReply B). given_turn r.gives) told.2 ∙ owed_turn queue lease told.0 (pictures p) lease.work now e));
                      of_call = λ now e. owed_of_call after.calls lease.queue.0 c queue lease told.0 (pictures p) lease.work now (is_made lease.queue.0 c before after more) (ap (λ (r : QReply B). r.gives) told.2) e;
                      shows = λ now e. owed_shows pictures queue lease told.0 (pictures p) lease.work now (ap pictures (sym number)) e;
                      reached = reached;
                      permits = permits_stay pictures actor done parts before after (only asked c) is refl (joined asked c before after more)
                          (λ number queue other there makes. false≢true (subst (MadeWith number) (sym (only_one asked c other queue there).0) makes));
                    }));
              },
            )
        | inr refused ↦
            inr (
              refused.0,
              refused.2,
              record {
                told = c.told.reply;
                replies = replies;
                keeps = refused_call_keeps pictures actor s asked c refused.0 before after is_next is calls more refused.1 (λ number makes. false≢true makes) reached;
              },
            )
      ]

-- What an actor keeps where it dequeues a buffer, which its name holds then: where the queue made a new one, the permit is gone.
use Rattle.std.proofs.Common.{◌≡◌, ℕ, ◌+◌, ◌<◌, ◌≤◌, ◌==◌, ◌⊎◌, inl, inr, Bool, true, false, suc, zero, List, [], ◌∷◌, ◌++◌, length, arith, ap, ◌∙◌, refl, sym, subst, Option, Some, None}
use Rattle.std.specs.Prelude.{Contains, drop, slice_get, unwrap_or}
use Rattle.std.proofs.lemmas.Bool.{eq-eqb, eqb-true, false≢true}
use Rattle.std.proofs.lemmas.List.{length-append}
use Rattle.std.proofs.lemmas.List.Elements.{Contains-append_cases}
use Rattle.sf_base.specs.Fences.{Fence, IsSignalled, merged}
use Rattle.sf_base.specs.declared.ids.QueueId.{QueueId}
use Rattle.sf_base.specs.declared.ids.SlotId.{SlotId}
use Rattle.sf_base.specs.declared.status.QStatus.{QStatus}
use Rattle.sf_token.specs.sf_calls.Histories.{IsLegal, entry}
use Rattle.sf_script_scene.specs.sf_picture.declared.picture.Picture.{Picture}
use Rattle.sf_script_scene.specs.declared.step.Step.{Step}
use Rattle.sf_script_scene.specs.declared.step.Step.TheVariants as step
use Rattle.sf_surface.specs.sf_slots.declared.calls.PlainReply.{PlainReply}
use Rattle.sf_surface.specs.sf_slots.declared.calls.PlainReply.TheVariants as plain
use Rattle.sf_surface.specs.sf_slots.declared.slot.Held.{Held}
use Rattle.sf_surface.specs.declared.call.Gives.TheVariants as gives
use Rattle.sf_surface.specs.declared.call.QCall.{QCall}
use Rattle.sf_surface.specs.declared.call.QCall.TheVariants as call
use Rattle.sf_surface.specs.declared.call.QReply.{QReply}
use Rattle.sf_surface.specs.Calls.{told_call, write_token}
use Rattle.sf_surface.specs.Hands.{IsReply, done_reply, lent_lease, new_turn, points_of, refused_reply}
use Rattle.sf_surface.specs.Histories.{Answers, Made}
use Rattle.sf_surface.specs.Tokens.{EndingOf, Right}
use Rattle.sf_surface.specs.sf_turns.Counts.{same, stock_at}
use Rattle.sf_surface.specs.sf_turns.Views.{PermitView}
use Rattle.sf_actor.specs.declared.done.Answered.TheVariants as answered
use Rattle.sf_actor.specs.declared.done.Done.{Done}
use Rattle.sf_actor.specs.declared.holding.Holding.TheVariants as holding
use Rattle.sf_actor.specs.Asking.{Asked, call_of, dequeue_of, overtaken_by}
use Rattle.sf_actor.specs.Desks.{DeskHome, DeskView, MadeCall, known_of, mark_among}
use Rattle.sf_actor.specs.Known.{Call, Share, share_of}
use Rattle.sf_actor.specs.Names.{Holdings, Lent, with_name}
use Rattle.sf_actor.specs.Holdings.{HoldingsOf}
use Rattle.sf_actor.specs.Points.{detached_fence, shown_next, waited_fence}
use Rattle.sf_actor.specs.Rights.{EndsIn, IsFrom, MadeWith, given_turn, made_with, turn_by}
use Rattle.sf_actor.specs.Scripts.{queue_of}
use Rattle.sf_actor.specs.Steps.{filled_by, holdings_next, is_refusal, used_by}
use Rattle.sf_actor.specs.Tests.{refusal_of}
use Rattle.sf_actor.specs.Traces.{HasNotWaited, source_in}
use Rattle.sf_actor.specs.Tries.{ActorKept, ActorOf, ArePermits, dequeues_in, is_dequeue, next_step, past_of}
use Rattle.sf_actor.proofs.TraceGrowth.{at_end}
use Rattle.sf_actor.proofs.BroughtTokens.{refused_call_keeps}
use Rattle.sf_actor.proofs.FilledNames.{KeepsWith, given_now, still_reached, token_fills}
use Rattle.sf_actor.proofs.Forms.{IsQuiet, answered_by_call}
use Rattle.sf_actor.proofs.CallShare.{CallsOnce, OneMore, answer_told, call_adds, joined, made_call, one_more, only, only_one}
use Rattle.sf_actor.proofs.StepKeepsActor.{actor_with, permits_stay, stepped}
use Rattle.sf_actor.proofs.NameChanges.{with_held}
use Rattle.sf_actor.proofs.WaitingCalls.{unwaited_by}

-- a dequeue, which may ask to wait
abbrev pub dequeuing : Bool → ℕ → ℕ → Option (ℕ × ℕ) → Step
dequeuing true q name size = step.DequeueWait q name size
dequeuing false q name size = step.Dequeue q name size

-- what both forms have in common
record IsDequeue (pictures : ℕ → Picture) (holdings : Holdings) (s : Step) (wait : Bool) (q name : ℕ) (size : Option (ℕ × ℕ)) : Type 0 where
  pub asks : call_of pictures holdings s ≡ Some (dequeue_of q size wait)
  pub fence : detached_fence holdings s ≡ None
  pub waits : waited_fence holdings s ≡ None
  pub overtakes : overtaken_by holdings s ≡ []
  pub uses : used_by s ≡ None
  pub fills : filled_by s ≡ Some name
  pub dequeues : is_dequeue s ≡ true

both_dequeue : (pictures : ℕ → Picture) (holdings : Holdings) (wait : Bool) (q name : ℕ) (size : Option (ℕ × ℕ)) → IsDequeue pictures holdings (dequeuing wait q name size) wait q name size
both_dequeue pictures holdings true q name size = record { asks = refl; fence = refl; waits = refl; overtakes = refl; uses = refl; fills = refl; dequeues = refl }
both_dequeue pictures holdings false q name size = record { asks = refl; fence = refl; waits = refl; overtakes = refl; uses = refl; fills = refl; dequeues = refl }

both_quiet : (wait : Bool) (q name : ℕ) (size : Option (ℕ × ℕ)) (trace : List Done) (told : PlainReply) → IsQuiet (at_end trace (record { step = dequeuing wait q name size; answered = answered.Called told }))
both_quiet true q name size trace told = record { signals = refl; pays = refl; enters = refl; shows = refl }
both_quiet false q name size trace told = record { signals = refl; pays = refl; enters = refl; shows = refl }

-- the name holds the lease once the dequeue is done
lent : (holdings : Holdings) (wait : Bool) (q name : ℕ) (size : Option (ℕ × ℕ)) (queue : QueueId) (slot : SlotId) (held : Held) (requested reallocated : Bool) (fence : Fence) (turn : Right) (told : PlainReply) → told ≡ plain.Dequeued slot held requested reallocated fence → queue ≡ queue_of q → holdings_next holdings (record { step = dequeuing wait q name size; answered = answered.Called told }) ≡ with_name holdings name (Some (Lent queue (write_token queue (lent_lease queue slot held requested fence turn)) None))
unfolding holdings_next
lent holdings true q name size queue slot held requested reallocated fence turn told done is = let met : (q == q) ≡ true = eq-eqb q q refl in rw (done, is, met) refl
lent holdings false q name size queue slot held requested reallocated fence turn told done is = let met : (q == q) ≡ true = eq-eqb q q refl in rw (done, is, met) refl

-- one dequeue less is to come
one_less : (steps : List Step) (n : ℕ) (s : Step) → slice_get steps n ≡ Some s → is_dequeue s ≡ true → dequeues_in (drop n steps) ≡ suc (dequeues_in (drop (suc n) steps))
one_less [] n s e is = cc
one_less (x ∷ xs) zero s e is = let first : x ≡ s = cc in let met : is_dequeue x ≡ true = ap is_dequeue first ∙ is in rw met refl
one_less (x ∷ xs) (suc n) s e is = one_less xs n s e is

-- what is in a stock is counted there
counted : (xs : List ℕ) (number : ℕ) → Contains xs number → 1 ≤ stock_at number xs
counted [] number there = absurd (omega (arith, there.1))
counted (x ∷ xs) number (zero, low, is) = let met : (number == x) ≡ true = eq-eqb number x (sym is) in rw met (omega arith)
counted (x ∷ xs) number (suc k, low, is) = let rest = counted xs number (k, omega (arith, low), is) in omega (arith, rest)

-- a call that made a buffer made it with its permit
made_is : (permit : PermitView) (spare : Option PermitView) (number : ℕ) → made_with (Some permit) spare number ≡ true → permit.buffer ≡ number
made_is permit None number made = eqb-true permit.buffer number made
made_is permit (Some back) number made = absurd (false≢true made)

-- the stock once the permit was taken: it is there again where the reply hands it back
abbrev pub stock_after : List ℕ → PermitView → Option PermitView → List ℕ
stock_after rest permit None = rest
stock_after rest permit (Some back) = permit.buffer ∷ rest

module _ {B : Type 0} where
  -- the call of the step
  abbrev pub dequeue_call : Option (ℕ × ℕ) → Bool → PermitView → QCall B
  dequeue_call size wait permit = call.Dequeue (unwrap_or size (0, 0)).0 (unwrap_or size (0, 0)).1 wait permit

  -- a dequeue that is done lends a buffer, a new one or another with the permit back
  pub record IsLentBy (queue : QueueId) (permit : PermitView) (told : PlainReply) (reply : QReply B) : Type 0 where
    pub slot : SlotId
    pub held : Held
    pub requested : Bool
    pub reallocated : Bool
    pub fence : Fence
    pub turn : Right
    pub values : List ℕ
    pub spare : Option PermitView
    pub told_so : told ≡ plain.Dequeued slot held requested reallocated fence
    pub replied : reply ≡ done_reply values (gives.Write (lent_lease queue slot held requested fence turn)) None spare
    pub back : (spare ≡ None) ⊎ (spare ≡ Some permit)

  told_cases : (queue : QueueId) (size : Option (ℕ × ℕ)) (wait : Bool) (permit : PermitView) (told : PlainReply) (reply : QReply B) → IsReply queue (dequeue_call size wait permit) told reply → IsLentBy queue permit told reply ⊎ ((cause : QStatus) × (told ≡ plain.Refused cause) × (reply ≡ refused_reply cause (dequeue_call size wait permit)))
  told_cases queue size wait permit (plain.Refused cause) reply is = inr (cause, refl, is)
  told_cases queue size wait permit plain.Done reply is = absurd is
  told_cases queue size wait permit (plain.Dequeued slot held requested true fence) reply is =
      inl (record { slot = slot; held = held; requested = requested; reallocated = true; fence = fence; turn = new_turn permit held; values = slot.0 ∷ held.number ∷ 1 ∷ points_of fence; spare = None; told_so = refl; replied = is; back = inl refl })
  told_cases queue size wait permit (plain.Dequeued slot held requested false fence) reply is =
      inl (record { slot = slot; held = held; requested = requested; reallocated = false; fence = fence; turn = is.0; values = slot.0 ∷ held.number ∷ 0 ∷ points_of fence; spare = Some permit; told_so = refl; replied = is.1; back = inr refl })
  told_cases queue size wait permit (plain.Requested held) reply is = absurd is
  told_cases queue size wait permit (plain.Queued frame) reply is = absurd is
  told_cases queue size wait permit (plain.Attached slot held) reply is = absurd is
  told_cases queue size wait permit (plain.Acquired item dropped) reply is = absurd is

  -- a call that may wait and was made was not refused for want of a free slot
  not_waited : (home : DeskHome) (old new : DeskView B) (by queue : ℕ) (asked : ℕ × QCall B) (reply : QReply B) → (made : MadeCall home old new by queue asked reply) → HasNotWaited ((mark_among home.marks queue).queue, told_call (mark_among home.marks queue).queue asked.1) (made_call home old new by queue asked reply made).told.reply
  not_waited home old new by queue asked reply made =
      let legal : IsLegal (Answers (mark_among home.marks queue)) (entry by asked reply ∷ made.earlier) = subst (λ (xs : List (Made B)). IsLegal (Answers (mark_among home.marks queue)) xs) made.newest made.legal in
      unwaited_by (mark_among home.marks queue) made.earlier by asked.1 reply legal.0

  -- the permits that are left where the call made a buffer
  permits_used : (pictures : ℕ → Picture) (actor : ActorOf B) (done : Done) (parts : HoldingsOf B) (rest : List ℕ) (permit : PermitView) (asked : Asked) (made : Call B) (old new : Share B) → next_step actor ≡ Some done.step → is_dequeue done.step ≡ true → ActorKept pictures actor old → actor.parts.stock ≡ permit.buffer ∷ rest → parts.stock ≡ rest → ((queue : ℕ) → new.calls queue ≡ old.calls queue ++ only asked made queue) → ((number : ℕ) → MadeWith number made → permit.buffer ≡ number) → ArePermits (stepped actor done parts) new
  permits_used pictures actor done parts rest permit asked made old new is_next dequeues is before after calls makes = record {
    own = λ number there. is.permits.own number (was number (subst (λ (stock : List ℕ). Contains stock number) after there));
    once = λ number.
        let one : stock_at number (permit.buffer ∷ rest) ≤ 1 = subst (λ (stock : List ℕ). stock_at number stock ≤ 1) before (is.permits.once number) in
        subst (λ (stock : List ℕ). stock_at number stock ≤ 1) (sym after) (omega (arith, one));
    unused = λ number queue other there called made_it.
        let now : Contains rest number = subst (λ (stock : List ℕ). Contains stock number) after there in
        elim (Contains-append_cases (old.calls queue) (only asked made queue) other (subst (λ (xs : List (Call B)). Contains xs other) (calls queue) called)) [
          | inl c ↦ is.permits.unused number queue other (was number now) c made_it
          | inr c ↦
              let same_one : permit.buffer ≡ number = makes number (subst (MadeWith number) (sym (only_one asked made other queue c).0) made_it) in
              let met : (number == permit.buffer) ≡ true = eq-eqb number permit.buffer (sym same_one) in
              let one : stock_at number (permit.buffer ∷ rest) ≤ 1 = subst (λ (stock : List ℕ). stock_at number stock ≤ 1) before (is.permits.once number) in
              let here : same number permit.buffer ≡ 1 = rw met refl in
              let more = counted rest number now in
              omega (arith, one, here, more)
        ];
    enough =
        let less = one_less actor.script.steps (length actor.trace) done.step is_next dequeues in
        let enough = is.permits.enough in
        let sized = ap (λ (stock : List ℕ). length stock) before in
        let left = ap (λ (stock : List ℕ). length stock) after in
        subst (λ (n : ℕ). dequeues_in (drop n actor.script.steps) ≤ length parts.stock) (longer (length-append actor.trace (done ∷ []))) (omega (arith, less, enough, sized, left));
  }
    where
      was : (number : ℕ) → Contains rest number → Contains actor.parts.stock number
      was number there = subst (λ (stock : List ℕ). Contains stock number) (sym before) (suc there.0, omega (arith, there.1), there.2)

      longer : length (actor.trace ++ done ∷ []) ≡ length actor.trace + 1 → suc (length actor.trace) ≡ length (actor.trace ++ done ∷ [])
      longer e = omega (arith, e)

  -- the permits that are left once a buffer is lent
  permits_left : (pictures : ℕ → Picture) (actor : ActorOf B) (done : Done) (parts : HoldingsOf B) (rest : List ℕ) (permit : PermitView) (spare : Option PermitView) (asked : Asked) (made : Call B) (old new : Share B) → next_step actor ≡ Some done.step → is_dequeue done.step ≡ true → ActorKept pictures actor old → actor.parts.stock ≡ permit.buffer ∷ rest → parts.stock ≡ stock_after rest permit spare → ((queue : ℕ) → new.calls queue ≡ old.calls queue ++ only asked made queue) → ((number : ℕ) → MadeWith number made → made_with (Some permit) spare number ≡ true) → ArePermits (stepped actor done parts) new
  permits_left pictures actor done parts rest permit None asked made old new is_next dequeues is before after calls makes =
      permits_used pictures actor done parts rest permit asked made old new is_next dequeues is before after calls (λ number it. made_is permit None number (makes number it))
  permits_left pictures actor done parts rest permit (Some back) asked made old new is_next dequeues is before after calls makes =
      permits_stay pictures actor done parts old new (only asked made) is (after ∙ sym before) calls
      (λ number queue other there it. false≢true (makes number (subst (MadeWith number) (sym (only_one asked made other queue there).0) it)))

  dequeue_calls : (pictures : ℕ → Picture) (actor : ActorOf B) (wait : Bool) (q name : ℕ) (size : Option (ℕ × ℕ)) (permit : PermitView) (rest : List ℕ) (home : DeskHome) (old new : DeskView B) (reply : QReply B) → ActorKept pictures actor (share_of actor.script.number (known_of home old)) → refusal_of pictures (past_of actor).holdings (dequeuing wait q name size) ≡ None → actor.parts.stock ≡ permit.buffer ∷ rest → (made : MadeCall home old new actor.script.number q (length actor.trace + 1, dequeue_call size wait permit) reply) → reply.ends ≡ None →
      (let c = made_call home old new actor.script.number q (length actor.trace + 1, dequeue_call size wait permit) reply made in
      CallsOnce pictures actor.stock (at_end actor.trace (record { step = dequeuing wait q name size; answered = answered.Called c.told.reply })) (dequeue_of q size wait) c (share_of actor.script.number (known_of home old)) (share_of actor.script.number (known_of home new)))
  dequeue_calls pictures actor wait q name size permit rest home old new reply is unrefused stock made no_end =
      let asking : ℕ × QCall B = (length actor.trace + 1, dequeue_call size wait permit) in
      let c = made_call home old new actor.script.number q asking reply made in
      let s : Step = dequeuing wait q name size in
      let at = at_end actor.trace (record { step = s; answered = answered.Called c.told.reply }) in
      let before = share_of actor.script.number (known_of home old) in
      let after = share_of actor.script.number (known_of home new) in
      let form = both_dequeue pictures (past_of actor).holdings wait q name size in
      let quiet = both_quiet wait q name size actor.trace c.told.reply in
      let has : Contains actor.parts.stock permit.buffer = subst (λ (xs : List ℕ). Contains xs permit.buffer) (sym stock) (zero, omega arith, refl) in
      record {
        asks = form.asks;
        replied = refl;
        answered = answered_by_call pictures after.values at (dequeue_of q size wait) c.told.reply unrefused form.fence form.waits form.asks refl (not_waited home old new actor.script.number q asking reply made);
        overtakes = form.overtakes;
        signals = quiet.signals;
        pays = quiet.pays;
        enters = quiet.enters;
        step = refl;
        call = refl;
        shows = tt;
        brings = subst (λ (used : Option ℕ). IsFrom before.calls (source_in at.past.since used) None) (sym form.uses) refl;
        permits = λ other brings. subst (λ (p : PermitView). Contains actor.stock p.buffer) (one other brings) (is.permits.own permit.buffer has);
        new_one = λ number other earlier there mine theirs.
            is.permits.unused number other earlier (subst (Contains actor.parts.stock) (made_is permit reply.spare number mine) has) there theirs;
        ends = subst (λ (ending : Option EndingOf). EndsIn after.left ending) (sym no_end) tt;
      }
    where
      one : (other : PermitView) → Some permit ≡ Some other → permit ≡ other
      one other e = cc

  -- A dequeue that is done lends a buffer; one that the queue refuses hands the permit back.
  pub dequeue_keeps : (pictures : ℕ → Picture) (actor : ActorOf B) (wait : Bool) (q name : ℕ) (size : Option (ℕ × ℕ)) (permit : PermitView) (rest : List ℕ) (home : DeskHome) (old new : DeskView B) (reply : QReply B) → next_step actor ≡ Some (dequeuing wait q name size) → ActorKept pictures actor (share_of actor.script.number (known_of home old)) → refusal_of pictures (past_of actor).holdings (dequeuing wait q name size) ≡ None → actor.parts.stock ≡ permit.buffer ∷ rest → name < length actor.parts.names → name < 32 → (mark_among home.marks q).queue ≡ queue_of q → MadeCall home old new actor.script.number q (length actor.trace + 1, dequeue_call size wait permit) reply →
      (let after = share_of actor.script.number (known_of home new) in
      let queue = (mark_among home.marks q).queue in
      let asked : QCall B = dequeue_call size wait permit in
      ((told : PlainReply) × (lends : IsLentBy queue permit told reply) × KeepsWith pictures actor (dequeuing wait q name size) queue asked reply (with_held actor.parts name (Some (holding.Lends (lent_lease queue lends.slot lends.held lends.requested lends.fence lends.turn))) (stock_after rest permit lends.spare)) after)
      ⊎ ((cause : QStatus) × (reply ≡ refused_reply cause asked) × KeepsWith pictures actor (dequeuing wait q name size) queue asked reply actor.parts after))
  dequeue_keeps pictures actor wait q name size permit rest home old new reply is_next is unrefused stock low there marked made =
      let by = actor.script.number in
      let asking : ℕ × QCall B = (length actor.trace + 1, dequeue_call size wait permit) in
      let c = made_call home old new by q asking reply made in
      let s : Step = dequeuing wait q name size in
      let done : Done = record { step = s; answered = answered.Called c.told.reply } in
      let before = share_of by (known_of home old) in
      let after = share_of by (known_of home new) in
      let asked = dequeue_of q size wait in
      let queue = (mark_among home.marks q).queue in
      let form = both_dequeue pictures (past_of actor).holdings wait q name size in
      let quiet = both_quiet wait q name size actor.trace c.told.reply in
      let more : OneMore q c before after = one_more home old new by q asking reply made in
      let replies = answer_told home old new by q asking reply made in
      let reached : IsSignalled (shown_next (past_of actor).holdings (past_of actor).shown done) after.values =
      subst (λ (f : Fence). IsSignalled (merged (past_of actor).shown f) after.values) (sym quiet.shows) (still_reached actor before after more.values is.reached) in
      elim (told_cases queue size wait permit c.told.reply reply replies) [
        | inl lends ↦
            let calls = dequeue_calls pictures actor wait q name size permit rest home old new reply is unrefused stock made (ap (λ (r : QReply B). r.ends) lends.replied) in
            let now = holding.Lends (lent_lease queue lends.slot lends.held lends.requested lends.fence lends.turn) in
            let parts = with_held actor.parts name (Some now) (stock_after rest permit lends.spare) in
            inl (
              c.told.reply,
              lends,
              record {
                told = c.told.reply;
                replies = replies;
                keeps = actor_with pictures actor done parts before after is_next is
                    (call_adds pictures actor.stock actor.trace (at_end actor.trace done) asked c before after calls more)
                    (token_fills pictures actor s c.told.reply name now (stock_after rest permit lends.spare) before after (only asked c) is (record {
                      calls = joined asked c before after more;
                      low = low;
                      there = there;
                      done = ap is_refusal lends.told_so;
                      fills = form.fills;
                      holdings = lent (past_of actor).holdings wait q name size queue lends.slot lends.held lends.requested lends.reallocated lends.fence lends.turn c.told.reply lends.told_so marked;
                      given = given_now q (length actor.trace + 1) (Some (turn_by lends.turn)) c before after more refl (ap (λ (r : QReply B). given_turn r.gives) lends.replied);
                      of_call = tt;
                      shows = tt;
                      reached = reached;
                      permits = permits_left pictures actor done parts rest permit lends.spare asked c before after is_next form.dequeues is stock refl (joined asked c before after more)
                          (λ number it. subst (λ (spare : Option PermitView). made_with (Some permit) spare number ≡ true) (ap (λ (r : QReply B). r.spare) lends.replied) it);
                    }));
              },
            )
        | inr refused ↦
            let calls = dequeue_calls pictures actor wait q name size permit rest home old new reply is unrefused stock made (ap (λ (r : QReply B). r.ends) refused.2) in
            inr (
              refused.0,
              refused.2,
              record {
                told = c.told.reply;
                replies = replies;
                keeps = refused_call_keeps pictures actor s asked c refused.0 before after is_next is calls more refused.1
                    (λ number it. false≢true (subst (λ (spare : Option PermitView). made_with (Some permit) spare number ≡ true) (ap (λ (r : QReply B). r.spare) refused.2) it)) reached;
              },
            )
      ]

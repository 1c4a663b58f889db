-- What an actor keeps where it draws: in a lent buffer, or what it owes.
use Rattle.std.proofs.Common.{◌≡◌, ℕ, ◌+◌, ◌<◌, ◌≤◌, suc, zero, List, [], ◌∷◌, ◌++◌, length, arith, ap, ◌∙◌, sym, refl, subst, Option, Some, None}
use Rattle.std.specs.Prelude.{Contains, get_or}
use Rattle.std.specs.List.{All}
use Rattle.std.specs.Option.{option_map}
use Rattle.std.proofs.lemmas.List.{append-nil}
use Rattle.std.proofs.lemmas.List.Elements.{All-weaker, Contains-append_right}
use Rattle.sf_base.specs.Fences.{Fence, IsSignalled}
use Rattle.sf_base.specs.Points.{greatest}
use Rattle.sf_base.proofs.PointLemmas.{greatest-append, has_le}
use Rattle.sf_base.specs.declared.fences.Seen.{Seen}
use Rattle.sf_base.specs.declared.ids.QueueId.{QueueId}
use Rattle.sf_script_scene.specs.sf_picture.declared.picture.Picture.{Picture}
use Rattle.sf_script_scene.specs.declared.step.Step.{Step}
use Rattle.sf_script_scene.specs.declared.step.Step.TheVariants as step
use Rattle.sf_surface.specs.sf_slots.declared.calls.WriteToken.{WriteToken}
use Rattle.sf_surface.specs.sf_slots.declared.slot.Held.{Held}
use Rattle.sf_surface.specs.declared.work.Work.{Work}
use Rattle.sf_surface.specs.declared.work.Work.TheVariants as work
use Rattle.sf_surface.specs.Calls.{write_token}
use Rattle.sf_surface.specs.Drawing.{Enters, MayEnter, Passes, drawn_with}
use Rattle.sf_surface.specs.Tokens.{OwingOf, WriteLeaseOf, turn_of}
use Rattle.sf_surface.specs.sf_turns.Views.{Leaves, SeatView}
use Rattle.sf_actor.specs.declared.done.Answered.TheVariants as answered
use Rattle.sf_actor.specs.declared.done.Done.{Done}
use Rattle.sf_actor.specs.declared.holding.Holding.{Holding}
use Rattle.sf_actor.specs.declared.holding.Holding.TheVariants as holding
use Rattle.sf_actor.specs.Desks.{ChangesTurns, DeskHome, DeskView, known_of}
use Rattle.sf_actor.specs.Draws.{EntersCounted, IsInOrder, entered_at, entered_in}
use Rattle.sf_actor.specs.Known.{Call, GoesOn, Share, ShareGoesOn, share_of}
use Rattle.sf_actor.specs.Names.{Holdings, Lent, Owing, OwedFrame, Token, name_in, with_name}
use Rattle.sf_actor.specs.Holdings.{ShowsPictures, drawn_picture, token_of, turn_held}
use Rattle.sf_actor.specs.Points.{or_none, undrawn_fence, waited_fence}
use Rattle.sf_actor.specs.Rights.{IsOfCall, Turn, WasGivenAt, WasPaid, turn_by}
use Rattle.sf_actor.specs.Steps.{holdings_next}
use Rattle.sf_actor.specs.Tests.{refusal_of}
use Rattle.sf_actor.specs.Traces.{AnswersTests, IsPassed}
use Rattle.sf_actor.specs.Tries.{ActorKept, ActorOf, held_in, next_step, past_of}
use Rattle.sf_actor.specs.Written.{FrameNumber, paid_at}
use Rattle.sf_actor.proofs.TraceGrowth.{at_end, given_still}
use Rattle.sf_actor.proofs.BroughtTokens.{names_told}
use Rattle.sf_actor.proofs.Forms.{plain_since}
use Rattle.sf_actor.proofs.GoingOn.{share_on, signalled_on}
use Rattle.sf_actor.proofs.CallGrowth.{end_goes, goes_same, goes_twice, look_goes}
use Rattle.sf_actor.proofs.StepKeepsActor.{CallsNone, actor_with, none_adds, permits_stay, stepped}
use Rattle.sf_actor.proofs.NameChanges.{name_moves, with_held}
use Rattle.sf_actor.proofs.SignalledFences.{merged_reached, none_reached}

-- what the name holds once the draw is done
drawn_then : (holdings : Holdings) (name p : ℕ) (lease : WriteLeaseOf) (picture : Picture) → name_in holdings name ≡ Some (Lent lease.queue (write_token lease.queue lease) (drawn_picture lease.work)) → picture.number ≡ p → holdings_next holdings (record { step = step.Draw name p; answered = answered.Own 0 }) ≡ with_name holdings name (Some (Lent lease.queue (write_token lease.queue (drawn_with lease picture)) (Some picture.number)))
unfolding holdings_next
drawn_then holdings name p lease picture named number = rw (named, number) refl

paid_then : (holdings : Holdings) (name p : ℕ) (queue : QueueId) (owed : OwedFrame) → name_in holdings name ≡ Some (Owing queue owed) → holdings_next holdings (record { step = step.Draw name p; answered = answered.Own 0 }) ≡ with_name holdings name None
unfolding holdings_next
paid_then holdings name p queue owed named = rw named refl

-- only an undrawn lease has a fence to wait for, which a look showed signalled
lent_passed : (queue : QueueId) (token : WriteToken) (w : Work) (seen values : Seen) (seats later : SeatView) (holdings : Holdings) (name p : ℕ) → name_in holdings name ≡ Some (Lent queue token (drawn_picture w)) → Enters w token.fence seen seats later → (IsSignalled token.fence seen → IsSignalled token.fence values) → IsPassed (waited_fence holdings (step.Draw name p)) values
lent_passed queue token (work.Fresh turn) seen values seats later holdings name p named enters reached = rw named (reached enters.0)
lent_passed queue token (work.Drawn inside pixels) seen values seats later holdings name p named enters reached = rw named tt

lent_shown : (queue : QueueId) (token : WriteToken) (w : Work) (seen values : Seen) (seats later : SeatView) (holdings : Holdings) (name : ℕ) → name_in holdings name ≡ Some (Lent queue token (drawn_picture w)) → Enters w token.fence seen seats later → (IsSignalled token.fence seen → IsSignalled token.fence values) → IsSignalled (or_none (undrawn_fence (name_in holdings name))) values
lent_shown queue token (work.Fresh turn) seen values seats later holdings name named enters reached = rw named (reached enters.0)
lent_shown queue token (work.Drawn inside pixels) seen values seats later holdings name named enters reached = rw named (none_reached values)

-- so many turns were seen to have left as let a turn enter
seen_count : (old new : SeatView) (buffer number : ℕ) → MayEnter buffer number old new → number ≤ greatest buffer new.seen
seen_count old new buffer number enters =
    let there : Contains new.seen (buffer, enters.0) =
    subst (λ (xs : List (ℕ × ℕ)). Contains xs (buffer, enters.0)) (sym (ap (λ (turns : SeatView). turns.seen) enters.1.0))
    (Contains-append_right old.seen ((buffer, enters.0) ∷ []) (buffer, enters.0) (zero, omega arith, refl)) in
    let least = has_le buffer enters.0 new.seen there in
    let just = enters.2 in
    omega (arith, least, just)

module _ {B : Type 0} where
  -- a draw that is done, of what a name holds: what it leaves there, and what it shows
  record IsDraw (pictures : ℕ → Picture) (actor : ActorOf B) (name p : ℕ) (held : Holding B) (left : Option (Holding B)) (old new : Share B) : Type 0 where
    pub test : refusal_of pictures (past_of actor).holdings (step.Draw name p) ≡ None
    pub there : held_in actor.parts name ≡ Some held
    pub low : name < length actor.parts.names
    pub goes : ShareGoesOn old new
    pub waits : IsPassed (waited_fence (past_of actor).holdings (step.Draw name p)) new.values
    pub shown : IsSignalled (or_none (undrawn_fence (name_in (past_of actor).holdings name))) new.values
    pub holdings : holdings_next (past_of actor).holdings (record { step = step.Draw name p; answered = answered.Own 0 }) ≡ with_name (past_of actor).holdings name (option_map token_of left)
    pub of_call : (now : Holding B) → left ≡ Some now → IsOfCall new.calls now
    pub same_turn : (now : Holding B) → left ≡ Some now → turn_held held ≡ turn_held now
    pub shows : (now : Holding B) → left ≡ Some now → ShowsPictures pictures now
    pub pays : (frame : FrameNumber) → Contains (paid_at (at_end actor.trace (record { step = step.Draw name p; answered = answered.Own 0 }))) frame → WasPaid new.left new.calls frame
    pub counted : (place : ℕ) → entered_at (at_end actor.trace (record { step = step.Draw name p; answered = answered.Own 0 })) ≡ Some place → EntersCounted new place
    pub order : (place : ℕ) → entered_at (at_end actor.trace (record { step = step.Draw name p; answered = answered.Own 0 })) ≡ Some place → All (λ earlier. IsInOrder new.calls earlier place) (entered_in actor.trace)

  draw_keeps : (pictures : ℕ → Picture) (actor : ActorOf B) (name p : ℕ) (held : Holding B) (left : Option (Holding B)) (old new : Share B) → next_step actor ≡ Some (step.Draw name p) → ActorKept pictures actor old → IsDraw pictures actor name p held left old new → ActorKept pictures (stepped actor (record { step = step.Draw name p; answered = answered.Own 0 }) (with_held actor.parts name left actor.parts.stock)) new
  draw_keeps pictures actor name p held left old new is_next is draw =
      let s : Step = step.Draw name p in
      let done : Done = record { step = s; answered = answered.Own 0 } in
      let at = at_end actor.trace done in
      let past = past_of actor in
      let goes = draw.goes in
      let parts = with_held actor.parts name left actor.parts.stock in
      let calls : (queue : ℕ) → new.calls queue ≡ old.calls queue ++ [] = λ queue. goes.calls queue ∙ sym (append-nil (old.calls queue)) in
      let since = plain_since past.since (length actor.trace + 1) done refl in
      let none : CallsNone pictures actor.trace at [] old new = record {
        unmade = refl;
        overtakes = refl;
        answered = subst (λ (test : Option ℕ). AnswersTests pictures new.values past s (answered.Own 0) test) (sym draw.test) (draw.waits, refl);
        calls = goes.calls;
        arrivals = goes.arrivals ∙ sym (append-nil old.arrivals);
        sent = refl;
        sends = λ k d below. absurd (omega (arith, below));
        values = goes.values;
        signals = goes.signals;
        signalled = λ point below. absurd (omega (arith, below.1));
        left = goes.left;
        counts = goes.counts;
        pays = draw.pays;
        counted = draw.counted;
        order = draw.order;
      } in
      actor_with pictures actor done parts old new is_next is (none_adds pictures actor.stock actor.trace at [] old new none)
      (name_moves pictures actor done name left actor.parts.stock old new (λ queue. []) is (record {
        calls = calls;
        low = draw.low;
        holdings = draw.holdings;
        since = λ other apart. ap (λ (places : List ℕ). get_or places other 0) since;
        given = λ now e.
            subst (λ (places : List ℕ). WasGivenAt new.calls (get_or places name 0) (Some (turn_held now))) (sym since)
            (subst (λ (turn : Turn). WasGivenAt new.calls (get_or past.since name 0) (Some turn)) (draw.same_turn now e)
            (given_still old.calls new.calls (λ queue. []) calls (get_or past.since name 0) (Some (turn_held held)) (is.given name held draw.there)));
        of_call = draw.of_call;
        shows = draw.shows;
        reached = merged_reached past.shown (or_none (undrawn_fence (name_in past.holdings name))) new.values (signalled_on past.shown old.values new.values goes.values is.reached) draw.shown;
        permits = permits_stay pictures actor done parts old new (λ queue. []) is refl calls (λ number queue made below makes. omega (arith, below.1));
      }))

  -- what a name holds was given with its turn, which a load let enter
  enters_counted : (pictures : ℕ → Picture) (actor : ActorOf B) (name : ℕ) (held : Holding B) (old new : Share B) → ActorKept pictures actor old → held_in actor.parts name ≡ Some held → ShareGoesOn old new → (turn_held held).1 ≤ greatest (turn_held held).0 new.counts → EntersCounted new (get_or (past_of actor).since name 0)
  enters_counted pictures actor name held old new is there goes enough =
      let calls : (queue : ℕ) → new.calls queue ≡ old.calls queue ++ [] = λ queue. goes.calls queue ∙ sym (append-nil (old.calls queue)) in
      (turn_held held, given_still old.calls new.calls (λ queue. []) calls (get_or (past_of actor).since name 0) (Some (turn_held held)) (is.given name held there), enough)

  -- What entered before had no later turn: as many turns at the buffer as its number were seen to have left then, and now just
  -- as many as this turn's number.
  in_turn : (old new : Share B) (place n : ℕ) (turn : Turn) → ShareGoesOn old new → WasGivenAt new.calls place (Some turn) → greatest turn.0 old.counts ≤ n → n ≡ turn.1 → (earlier : ℕ) → EntersCounted old earlier → IsInOrder new.calls earlier place
  in_turn old new place n turn goes given above just earlier was =
      let calls : (queue : ℕ) → new.calls queue ≡ old.calls queue ++ [] = λ queue. goes.calls queue ∙ sym (append-nil (old.calls queue)) in
      let before = was.2 in (
        was.0,
        turn,
        given_still old.calls new.calls (λ queue. []) calls earlier (Some was.0) was.1,
        given,
        λ same. let at = ap (λ (b : ℕ). greatest b old.counts) same in omega (arith, before, at, above, just),
      )

  enters_in_turn : (pictures : ℕ → Picture) (actor : ActorOf B) (name : ℕ) (held : Holding B) (old new : Share B) (count : ℕ) → ActorKept pictures actor old → held_in actor.parts name ≡ Some held → ShareGoesOn old new → greatest (turn_held held).0 old.counts ≤ count → count ≡ (turn_held held).1 → All (λ earlier. IsInOrder new.calls earlier (get_or (past_of actor).since name 0)) (entered_in actor.trace)
  enters_in_turn pictures actor name held old new count is there goes above just =
      let calls : (queue : ℕ) → new.calls queue ≡ old.calls queue ++ [] = λ queue. goes.calls queue ∙ sym (append-nil (old.calls queue)) in
      let place = get_or (past_of actor).since name 0 in
      let given = given_still old.calls new.calls (λ queue. []) calls place (Some (turn_held held)) (is.given name held there) in
      All-weaker (EntersCounted old) (λ earlier. IsInOrder new.calls earlier place) (λ earlier. in_turn old new place count (turn_held held) goes given above just earlier) (entered_in actor.trace) is.kept.turns.counted

  -- a seat that entered has seen the count
  pub enters_goes : (actor : ℕ) (home : DeskHome) (old new : DeskView B) (w : Work) (fence : Fence) (seen : Seen) → ChangesTurns old new → Enters w fence seen old.turns new.turns → GoesOn actor (known_of home old) (known_of home new)
  enters_goes actor home old new (work.Fresh turn) fence seen changes enters = look_goes actor home old new turn.buffer enters.1.0 changes enters.1.1
  enters_goes actor home old new (work.Drawn inside pixels) fence seen changes enters =
      subst (λ (view : DeskView B). GoesOn actor (known_of home old) (known_of home view)) (sym (changes ∙ ap (λ (turns : SeatView). record old { turns = turns }) enters)) (goes_same actor (known_of home old))

  -- what a draw in a lease enters: an undrawn one
  lease_counted : (pictures : ℕ → Picture) (actor : ActorOf B) (name p : ℕ) (queue : QueueId) (token : WriteToken) (w : Work) (old new : Share B) (seats later : SeatView) (fence : Fence) (seen : Seen) (held : Holding B) → ActorKept pictures actor old → held_in actor.parts name ≡ Some held → turn_held held ≡ turn_by (turn_of w) → name_in (past_of actor).holdings name ≡ Some (Lent queue token (drawn_picture w)) → ShareGoesOn old new → new.counts ≡ later.seen → Enters w fence seen seats later → (place : ℕ) → entered_at (at_end actor.trace (record { step = step.Draw name p; answered = answered.Own 0 })) ≡ Some place → EntersCounted new place
  lease_counted pictures actor name p queue token (work.Fresh turn) old new seats later fence seen held is there same named goes counts enters place entered =
      let here : Some (get_or (past_of actor).since name 0) ≡ Some place = rw named at entered in
      subst (EntersCounted new) (one (get_or (past_of actor).since name 0) place here)
      (enters_counted pictures actor name held old new is there goes
      (subst (λ (t : Turn). t.1 ≤ greatest t.0 new.counts) (sym same) (subst (λ (xs : List (ℕ × ℕ)). turn.number ≤ greatest turn.buffer xs) (sym counts) (seen_count seats later turn.buffer turn.number enters.1))))
    where
      one : (a b : ℕ) → Some a ≡ Some b → a ≡ b
      one a b e = cc
  lease_counted pictures actor name p queue token (work.Drawn inside pixels) old new seats later fence seen held is there same named goes counts enters place entered =
      let none : None ≡ Some place = rw named at entered in absurd (none_some none)
    where
      none_some : None ≡ Some place → ⊥
      none_some e = cc

  -- what was entered before had no later turn
  lease_in_turn : (pictures : ℕ → Picture) (actor : ActorOf B) (name p : ℕ) (queue : QueueId) (token : WriteToken) (w : Work) (old new : Share B) (seats later : SeatView) (fence : Fence) (seen : Seen) (held : Holding B) → ActorKept pictures actor old → held_in actor.parts name ≡ Some held → turn_held held ≡ turn_by (turn_of w) → name_in (past_of actor).holdings name ≡ Some (Lent queue token (drawn_picture w)) → ShareGoesOn old new → old.counts ≡ seats.seen → Enters w fence seen seats later → (place : ℕ) → entered_at (at_end actor.trace (record { step = step.Draw name p; answered = answered.Own 0 })) ≡ Some place → All (λ earlier. IsInOrder new.calls earlier place) (entered_in actor.trace)
  lease_in_turn pictures actor name p queue token (work.Fresh turn) old new seats later fence seen held is there same named goes counts enters place entered =
      let here : Some (get_or (past_of actor).since name 0) ≡ Some place = rw named at entered in
      subst (λ (to : ℕ). All (λ earlier. IsInOrder new.calls earlier to) (entered_in actor.trace)) (one (get_or (past_of actor).since name 0) place here)
      (enters_in_turn pictures actor name held old new enters.1.0 is there goes
      (subst (λ (t : Turn). greatest t.0 old.counts ≤ enters.1.0) (sym same) (subst (λ (xs : List (ℕ × ℕ)). greatest turn.buffer xs ≤ enters.1.0) (sym counts) enters.1.1.1))
      (subst (λ (t : Turn). enters.1.0 ≡ t.1) (sym same) enters.1.2))
    where
      one : (a b : ℕ) → Some a ≡ Some b → a ≡ b
      one a b e = cc
  lease_in_turn pictures actor name p queue token (work.Drawn inside pixels) old new seats later fence seen held is there same named goes counts enters place entered =
      let none : None ≡ Some place = rw named at entered in absurd (none_some none)
    where
      none_some : None ≡ Some place → ⊥
      none_some e = cc

  -- A draw in a lease, after a look.
  pub draw_lease_keeps : (pictures : ℕ → Picture) (actor : ActorOf B) (name p : ℕ) (lease : WriteLeaseOf) (home : DeskHome) (old new : DeskView B) (seen : Seen) → next_step actor ≡ Some (step.Draw name p) → ActorKept pictures actor (share_of actor.script.number (known_of home old)) → refusal_of pictures (past_of actor).holdings (step.Draw name p) ≡ None → (pictures p).number ≡ p → held_in actor.parts name ≡ Some (holding.Lends lease) → name < length actor.parts.names → (IsSignalled lease.fence seen → IsSignalled lease.fence (known_of home old).values) → ChangesTurns old new → Enters lease.work lease.fence seen old.turns new.turns → ActorKept pictures (stepped actor (record { step = step.Draw name p; answered = answered.Own 0 }) (with_held actor.parts name (Some (holding.Lends (drawn_with lease (pictures p)))) actor.parts.stock)) (share_of actor.script.number (known_of home new))
  draw_lease_keeps pictures actor name p lease home old new seen is_next is unrefused number there low signalled changes enters =
      let by = actor.script.number in
      let before = share_of by (known_of home old) in
      let after = share_of by (known_of home new) in
      let goes = share_on by (known_of home old) (known_of home new) (enters_goes by home old new lease.work lease.fence seen changes enters) in
      let token = write_token lease.queue lease in
      let named : name_in (past_of actor).holdings name ≡ Some (Lent lease.queue token (drawn_picture lease.work)) = names_told pictures actor before name is ∙ ap (option_map token_of) there in
      let reached : IsSignalled lease.fence seen → IsSignalled lease.fence after.values = λ shown. signalled_on lease.fence before.values after.values goes.values (signalled shown) in
      let now : Holding B = holding.Lends (drawn_with lease (pictures p)) in
      draw_keeps pictures actor name p (holding.Lends lease) (Some now) before after is_next is
      (record {
        test = unrefused;
        there = there;
        low = low;
        goes = goes;
        waits = lent_passed lease.queue token lease.work seen after.values old.turns new.turns (past_of actor).holdings name p named enters reached;
        shown = lent_shown lease.queue token lease.work seen after.values old.turns new.turns (past_of actor).holdings name named enters reached;
        holdings = drawn_then (past_of actor).holdings name p lease (pictures p) named number;
        of_call = λ other e. subst (λ (h : Holding B). IsOfCall after.calls h) (one other e) tt;
        same_turn = λ other e. ap turn_held (one other e);
        shows = λ other e. subst (λ (h : Holding B). ShowsPictures pictures h) (one other e) (ap pictures (sym number));
        pays = λ frame paid. absurd (unpaid frame named paid);
        counted = lease_counted pictures actor name p lease.queue token lease.work before after old.turns new.turns lease.fence seen (holding.Lends lease) is there refl named goes refl enters;
        order = lease_in_turn pictures actor name p lease.queue token lease.work before after old.turns new.turns lease.fence seen (holding.Lends lease) is there refl named goes refl enters;
      })
    where
      one : (other : Holding B) → Some (holding.Lends (drawn_with lease (pictures p))) ≡ Some other → holding.Lends (drawn_with lease (pictures p)) ≡ other
      one other e = cc

      unpaid : (frame : FrameNumber) → name_in (past_of actor).holdings name ≡ Some (Lent lease.queue (write_token lease.queue lease) (drawn_picture lease.work)) → Contains (paid_at (at_end actor.trace (record { step = step.Draw name p; answered = answered.Own 0 }))) frame → ⊥
      unpaid frame named paid = let none : Contains [] frame = rw named at paid in omega (arith, none.1)

  -- A draw of what is owed: it enters and leaves.
  pub draw_owing_keeps : (pictures : ℕ → Picture) (actor : ActorOf B) (name p : ℕ) (owing : OwingOf) (held : Held) (home : DeskHome) (old new : DeskView B) → next_step actor ≡ Some (step.Draw name p) → ActorKept pictures actor (share_of actor.script.number (known_of home old)) → refusal_of pictures (past_of actor).holdings (step.Draw name p) ≡ None → held_in actor.parts name ≡ Some (holding.Owes owing held) → name < length actor.parts.names → IsSignalled owing.fence (known_of home old).values → ChangesTurns old new → Passes owing.turn.buffer owing.turn.number old.turns new.turns → ActorKept pictures (stepped actor (record { step = step.Draw name p; answered = answered.Own 0 }) (with_held actor.parts name None actor.parts.stock)) (share_of actor.script.number (known_of home new))
  draw_owing_keeps pictures actor name p owing held home old new is_next is unrefused there low signalled changes passes =
      let by = actor.script.number in
      let gave = is.of_call name (holding.Owes owing held) there in
      let inside : DeskView B = record old { turns = passes.0 } in
      let before = share_of by (known_of home old) in
      let after = share_of by (known_of home new) in
      let leaves : Leaves passes.0 owing.turn.buffer owing.turn.number new.turns = passes.2 in
      let goes = share_on by (known_of home old) (known_of home new)
      (goes_twice by (known_of home old) (known_of home inside) (known_of home new)
      (look_goes by home old inside owing.turn.buffer passes.1.0 refl passes.1.1)
      (end_goes by home inside new owing.turn.buffer owing.turn.number changes leaves)) in
      let owed : OwedFrame = record { slot = owing.slot; frame = owing.frame; fence = owing.fence; held = held; picture = owing.turn.promises.number } in
      let named : name_in (past_of actor).holdings name ≡ Some (Owing owing.queue owed) = names_told pictures actor before name is ∙ ap (option_map token_of) there in
      let reached : IsSignalled owing.fence after.values = signalled_on owing.fence before.values after.values goes.values signalled in
      let inner = seen_count old.turns passes.0 owing.turn.buffer owing.turn.number passes.1 in
      let longer = ap (λ (turns : SeatView). greatest owing.turn.buffer turns.seen) leaves.1 in
      let told = greatest-append owing.turn.buffer passes.0.seen leaves.0 in
      let last = greatest-append owing.turn.buffer (passes.0.seen ++ leaves.0) ((owing.turn.buffer, owing.turn.number + 1) ∷ []) in
      let left : Contains new.turns.leaves (owing.turn.buffer, owing.turn.number) =
      subst (λ (xs : List (ℕ × ℕ)). Contains xs (owing.turn.buffer, owing.turn.number)) (sym (ap (λ (turns : SeatView). turns.leaves) leaves.1))
      (Contains-append_right passes.0.leaves ((owing.turn.buffer, owing.turn.number) ∷ []) (owing.turn.buffer, owing.turn.number) (zero, omega arith, refl)) in
      draw_keeps pictures actor name p (holding.Owes owing held) None before after is_next is
      (record {
        test = unrefused;
        there = there;
        low = low;
        goes = goes;
        waits = subst (λ (t : Option Token). IsPassed (undrawn_fence t) after.values) (sym named) reached;
        shown = subst (λ (t : Option Token). IsSignalled (or_none (undrawn_fence t)) after.values) (sym named) reached;
        of_call = λ other e. absurd (none_some other e);
        holdings = paid_then (past_of actor).holdings name p owing.queue owed named;
        same_turn = λ other e. absurd (none_some other e);
        shows = λ other e. absurd (none_some other e);
        pays = λ frame paid. (gave.0, gave.1, owing, subst (λ (xs : List (Call B)). Contains xs gave.1) (sym (goes.calls gave.0)) gave.2, gave.3, only_frame frame (rw named at paid), left);
        counted = λ place entered.
            let here : Some (get_or (past_of actor).since name 0) ≡ Some place = rw named at entered in
            subst (EntersCounted after) (same_place (get_or (past_of actor).since name 0) place here)
            (enters_counted pictures actor name (holding.Owes owing held) before after is there goes (omega (arith, inner, longer, told, last)));
        order = λ place entered.
            let here : Some (get_or (past_of actor).since name 0) ≡ Some place = rw named at entered in
            subst (λ (to : ℕ). All (λ earlier. IsInOrder after.calls earlier to) (entered_in actor.trace)) (same_place (get_or (past_of actor).since name 0) place here)
            (enters_in_turn pictures actor name (holding.Owes owing held) before after passes.1.0 is there goes passes.1.1.1 passes.1.2);
      })
    where
      none_some : (other : Holding B) → None ≡ Some other → ⊥
      none_some other e = cc

      same_place : (a b : ℕ) → Some a ≡ Some b → a ≡ b
      same_place a b e = cc

      only_frame : (frame : FrameNumber) → Contains ((owing.queue, owing.frame) ∷ []) frame → (owing.queue, owing.frame) ≡ frame
      only_frame frame (zero, below, same) = same
      only_frame frame (suc n, below, same) = absurd (omega (arith, below))

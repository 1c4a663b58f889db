-- What a step comes to that begins, changes, merges or sends a transaction.
use Rattle.std.proofs.Common.{◌≡◌, ◌≢◌, ℕ, ◌+◌, ◌<◌, ◌≤◌, true, false, List, [], ◌∷◌, ◌++◌, length, set, inl, inr, arith, ap, ◌∙◌, sym, refl, subst, Option, Some, None}
use Rattle.std.specs.Prelude.{get_or, is_none, map, option_to_list}
use Rattle.std.specs.List.{All}
use Rattle.std.specs.Option.{option_map}
use Rattle.std.proofs.lemmas.Bool.{cases_Bool, eq-eqb}
use Rattle.std.proofs.lemmas.List.{append-nil, get_or-set_other, length-set, set-set, set_comm}
use Rattle.sf_base.specs.Fences.{no_points, merged as with_points_of}
use Rattle.sf_base.specs.declared.ids.QueueId.{QueueId}
use Rattle.sf_actor.specs.sf_picture.declared.picture.Picture.{Picture}
use Rattle.sf_actor.specs.sf_script_scene.declared.change.Change.{Change}
use Rattle.sf_actor.specs.sf_script_scene.declared.step.Step.{Step}
use Rattle.sf_actor.specs.sf_script_scene.declared.step.Step.TheVariants as step
use Rattle.sf_actor.specs.sf_slots.declared.calls.ReadToken.{ReadToken}
use Rattle.sf_actor.specs.sf_surface.declared.call.QCall.{QCall}
use Rattle.sf_actor.specs.sf_surface.declared.call.QCall.TheVariants as call
use Rattle.sf_actor.specs.sf_surface.Tokens.{EndingOf, ReadLeaseOf}
use Rattle.sf_actor.specs.sf_times.declared.protocol.Knows.{Knows}
use Rattle.sf_actor.specs.sf_turns.Views.{SeatView}
use Rattle.sf_actor.specs.sf_txn.Buffers.{Buffer}
use Rattle.sf_actor.specs.sf_txn.Transactions.{Contents, all_replaced, empty, merged, replaced_by, set_buffer, set as with_op}
use Rattle.sf_actor.specs.declared.done.Answered.TheVariants as answered
use Rattle.sf_actor.specs.declared.done.Done.{Done}
use Rattle.sf_actor.specs.declared.holding.Holding.{Holding}
use Rattle.sf_actor.specs.declared.holding.Holding.TheVariants as holding
use Rattle.sf_actor.specs.Desks.{DeskHome, DeskView, MadeCall, has_queue, known_of, mark_among}
use Rattle.sf_actor.specs.Known.{GoesOn, frame_of, plain_txn, share_of}
use Rattle.sf_actor.specs.Names.{Frame, Holdings, name_in, transaction_in}
use Rattle.sf_actor.specs.Holdings.{HoldingsOf, token_of}
use Rattle.sf_actor.specs.Scripts.{layer_of, op_of}
use Rattle.sf_actor.specs.Tests.{refusal_of}
use Rattle.sf_actor.specs.Tries.{ActorKept, ActorOf, AreThere, contents_in, held_in, past_of}
use Rattle.sf_actor.proofs.BroughtTokens.{names_told}
use Rattle.sf_actor.proofs.EditSteps.{barrier_keeps, begin_keeps, desire_keeps, set_keeps}
use Rattle.sf_actor.proofs.CallGrowth.{call_alone, goes_same, goes_twice, send_alone}
use Rattle.sf_actor.proofs.CallShare.{answer_told, made_call}
use Rattle.sf_actor.proofs.QueueMarks.{marked}
use Rattle.sf_actor.proofs.StepKeepsActor.{stepped}
use Rattle.sf_actor.proofs.NameChanges.{with_held as parts_with}
use Rattle.sf_actor.proofs.NumberChanges.{contents_case, transactions_told, with_contents}
use Rattle.sf_actor.proofs.TransactionsAlike.{all_with_all, right_of, with_all}
use Rattle.sf_actor.proofs.ApplyStep.{send_keeps}
use Rattle.sf_actor.proofs.BufferAndMergeSteps.{merge_keeps, show_keeps}
use Rattle.sf_actor.proofs.OvertakenReleases.{GivesBack, IsMarked, no_end}
use Rattle.sf_actor_steps.specs.Acting.{Changes}
use Rattle.sf_actor_steps.specs.Actors.{parts_of}
use Rattle.sf_actor_steps.specs.Calling.{Ends}
use Rattle.sf_actor_steps.specs.inner.Coming.{Comes, IsReady, reply_with}
use Rattle.sf_actor_steps.specs.Editing.{Edits, Merges, Releases, ReleasesAll, Shows, TriesSend, buffer_with, with_txn}
use Rattle.sf_actor_steps.specs.declared.bindings.Bindings.{Bindings}
use Rattle.sf_actor_steps.specs.declared.tried.Tried.{Tried}
use Rattle.sf_actor_steps.specs.declared.tried.Tried.TheVariants as tried
use Rattle.sf_actor_steps.proofs.DrawComings.{there_with}
use Rattle.sf_actor_steps.proofs.OwnComings.{is_draw, no_draw, no_fence, own_done}
use Rattle.sf_actor.specs.Points.{detached_fence}
use Rattle.sf_actor.specs.Tries.{turn_ended}
use Rattle.sf_actor.specs.Written.{signal_of}

some_none : {A : Type 0} {x : A} → Some x ≡ None → ⊥
some_none e = cc

-- a frame that goes into a transaction has a number
numbered : (pictures : ℕ → Picture) (holdings : Holdings) (n layer i : ℕ) (queue : QueueId) (token : ReadToken) → name_in holdings i ≡ Some (Frame queue token) → refusal_of pictures holdings (step.Buffer n layer i) ≡ None → token.frame ≢ 0
unfolding refusal_of
numbered pictures holdings n layer i queue token named unrefused zero_frame = elim (cases_Bool (is_none (transaction_in holdings n))) [
  | inl none ↦ some_none (let e : Some 15 ≡ None = rw (named, none) at unrefused in e)
  | inr some ↦ some_none (let e : Some 11 ≡ None = rw (named, some, eq-eqb token.frame 0 zero_frame) at unrefused in e)
]

-- a transaction is not merged into itself
apart : (pictures : ℕ → Picture) (holdings : Holdings) (n m : ℕ) → is_none (transaction_in holdings n) ≡ false → is_none (transaction_in holdings m) ≡ false → refusal_of pictures holdings (step.Merge n m) ≡ None → n ≢ m
unfolding refusal_of
apart pictures holdings n m one other unrefused same = some_none (let e : Some 11 ≡ None = rw (one, other, eq-eqb n m same) at unrefused in e)

-- nor an empty number
other_there : (pictures : ℕ → Picture) (holdings : Holdings) (n m : ℕ) → is_none (transaction_in holdings n) ≡ false → refusal_of pictures holdings (step.Merge n m) ≡ None → is_none (transaction_in holdings m) ≡ false
unfolding refusal_of
other_there pictures holdings n m one unrefused = elim (cases_Bool (is_none (transaction_in holdings m))) [
  | inl none ↦ absurd (some_none (let e : Some 15 ≡ None = rw (one, none) at unrefused in e))
  | inr some ↦ some
]

-- the queue of a buffer's frame is there
abbrev IsHere : DeskHome → Buffer ReadLeaseOf → Type 0
IsHere home buffer = has_queue home buffer.lease.queue.0 ≡ true

marked_all : (home : DeskHome) (buffers : List (Buffer ReadLeaseOf)) → All (IsHere home) buffers → All (λ (buffer : Buffer ReadLeaseOf). IsMarked home buffer.lease) buffers
marked_all home buffers all k d low = marked home _ (all k d low)

module _ {B : Type 0} where
  there_with_contents : (home : DeskHome) (parts : HoldingsOf B) (number : ℕ) (txn : Option (Contents ReadLeaseOf)) → number < length parts.transactions → AreThere home parts → ((now : Contents ReadLeaseOf) → txn ≡ Some now → All (IsHere home) now.buffers) → AreThere home (with_contents parts number txn)
  there_with_contents home parts number txn low there fits = record {
    names = there.names;
    frames = λ other now is_there. contents_case parts number txn other now low is_there (λ here. fits now here) (λ was. there.frames other now was);
  }

  -- a number is in the table
  number_low : (pictures : ℕ → Picture) (home : DeskHome) (actor : ActorOf B) (bindings : Bindings B) (view : DeskView B) (s : Step) (n : ℕ) → IsReady pictures home actor bindings view s → n ≤ 64 → n < length actor.parts.transactions
  number_low pictures home actor bindings view s n ready high =
      let numbers = ready.numbers in
      let same = ap (λ (parts : HoldingsOf B). length parts.transactions) ready.parts in
      omega (arith, high, numbers, same)

  there_in : (actor : ActorOf B) (bindings : Bindings B) (n : ℕ) (txn : Contents ReadLeaseOf) → actor.parts ≡ parts_of bindings → get_or bindings.transactions n None ≡ Some txn → contents_in actor.parts n ≡ Some txn
  there_in actor bindings n txn same there = ap (λ (parts : HoldingsOf B). contents_in parts n) same ∙ there

  -- the parts once a transaction was taken, changed and put back
  edited_parts : (before after : Bindings B) (n : ℕ) (change : Contents ReadLeaseOf → Contents ReadLeaseOf) → (edits : Edits before after n change) → parts_of after ≡ with_contents (parts_of before) n (Some (change edits.edited))
  edited_parts before after n change edits =
      ap parts_of (edits.put_back ∙ ap (λ (bindings : Bindings B). with_txn bindings n (Some (change edits.edited))) edits.takes.txn_rest)
      ∙ ap (λ (transactions : List (Option (Contents ReadLeaseOf))). record (parts_of before) { transactions = transactions }) (set-set before.transactions n None (Some (change edits.edited)))

  -- a step that is done by its actor alone, and changes what a number holds
  edit_comes : (pictures : ℕ → Picture) (home : DeskHome) (actor : ActorOf B) (before after : Bindings B) (old new : DeskView B) (s : Step) (n : ℕ) (now : Contents ReadLeaseOf) (came_to : Tried) → IsReady pictures home actor before old s → is_draw s ≡ false → signal_of s ≡ [] → turn_ended actor.parts s ≡ [] → detached_fence (past_of actor).holdings s ≡ None → came_to ≡ tried.Own 0 → new ≡ old → n ≤ 64 → parts_of after ≡ with_contents (parts_of before) n (Some now) → All (IsHere home) now.buffers → ActorKept pictures (stepped actor (record { step = s; answered = answered.Own 0 }) (with_contents actor.parts n (Some now))) (share_of actor.script.number (known_of home old)) → Comes pictures home actor after old new came_to
  edit_comes pictures home actor before after old new s n now came_to ready not quiet ends unfenced came same high has here kept =
      let done : Done = record { step = s; answered = answered.Own 0 } in
      let parts = with_contents actor.parts n (Some now) in
      subst (λ (c : Tried). Comes pictures home actor after old new c) (sym came)
      (subst (λ (view : DeskView B). Comes pictures home actor after old view (tried.Own 0)) (sym same)
      (own_done pictures home actor after old old done parts (reply_with actor.script.number (length actor.trace + 1) 0 []) refl
      (record {
        signals = sym (append-nil old.times.signals) ∙ ap (λ (xs : List (ℕ × ℕ)). old.times.signals ++ xs) (sym quiet);
        ended = sym (append-nil old.turns.leaves) ∙ ap (λ (xs : List (ℕ × ℕ)). old.turns.leaves ++ xs) (sym ends);
        entered = no_draw home actor old old done not;
        refused = no_fence pictures home actor old old done unfenced;
        alone = λ exact other apart. goes_same other (known_of home old);
        has = has ∙ ap (λ (of : HoldingsOf B). with_contents of n (Some now)) (sym ready.parts);
        kept = kept;
        there = there_with_contents home actor.parts n (Some now) (number_low pictures home actor before old s n ready high) ready.keeps.there
            (λ other e. subst (λ (txn : Contents ReadLeaseOf). All (IsHere home) txn.buffers) (one other e) here);
      })))
    where
      one : (other : Contents ReadLeaseOf) → Some now ≡ Some other → now ≡ other
      one other e = cc

  pub begin_comes : (pictures : ℕ → Picture) (home : DeskHome) (actor : ActorOf B) (before after : Bindings B) (old new : DeskView B) (n : ℕ) (came_to : Tried) → IsReady pictures home actor before old (step.Tx n) → refusal_of pictures (past_of actor).holdings (step.Tx n) ≡ None → Changes (after ≡ with_txn before n (Some empty)) old new came_to → Comes pictures home actor after old new came_to
  begin_comes pictures home actor before after old new n came_to ready unrefused changes =
      let high = ready.playable.ranges.high in
      edit_comes pictures home actor before after old new (step.Tx n) n empty came_to ready refl refl refl refl changes.own changes.desk high (ap parts_of changes.changed) (λ k d low. absurd (omega (arith, low)))
      (begin_keeps pictures actor n (share_of actor.script.number (known_of home old)) ready.is_next ready.keeps.kept unrefused (number_low pictures home actor before old (step.Tx n) n ready high))

  pub desire_comes : (pictures : ℕ → Picture) (home : DeskHome) (actor : ActorOf B) (before after : Bindings B) (old new : DeskView B) (n time : ℕ) (came_to : Tried) → IsReady pictures home actor before old (step.Desire n time) → refusal_of pictures (past_of actor).holdings (step.Desire n time) ≡ None → Changes (Edits before after n (λ txn. record txn { desired = Some time })) old new came_to → Comes pictures home actor after old new came_to
  desire_comes pictures home actor before after old new n time came_to ready unrefused changes =
      let high = ready.playable.ranges.0.high in
      let edits = changes.changed in
      let there = there_in actor before n edits.edited ready.parts edits.takes.txn_there in
      edit_comes pictures home actor before after old new (step.Desire n time) n (record edits.edited { desired = Some time }) came_to ready refl refl refl refl changes.own changes.desk high
      (edited_parts before after n (λ txn. record txn { desired = Some time }) edits) (ready.keeps.there.frames n edits.edited there)
      (desire_keeps pictures actor n time edits.edited (share_of actor.script.number (known_of home old)) ready.is_next ready.keeps.kept unrefused (number_low pictures home actor before old (step.Desire n time) n ready high) there)

  pub barrier_comes : (pictures : ℕ → Picture) (home : DeskHome) (actor : ActorOf B) (before after : Bindings B) (old new : DeskView B) (n layer frame : ℕ) (came_to : Tried) → IsReady pictures home actor before old (step.Barrier n layer frame) → refusal_of pictures (past_of actor).holdings (step.Barrier n layer frame) ≡ None → Changes (Edits before after n (λ txn. record txn { barriers = txn.barriers ++ (layer_of layer, frame) ∷ [] })) old new came_to → Comes pictures home actor after old new came_to
  barrier_comes pictures home actor before after old new n layer frame came_to ready unrefused changes =
      let high = ready.playable.ranges.0.high in
      let edits = changes.changed in
      let there = there_in actor before n edits.edited ready.parts edits.takes.txn_there in
      edit_comes pictures home actor before after old new (step.Barrier n layer frame) n (record edits.edited { barriers = edits.edited.barriers ++ (layer_of layer, frame) ∷ [] }) came_to ready refl refl refl refl changes.own changes.desk high
      (edited_parts before after n (λ txn. record txn { barriers = txn.barriers ++ (layer_of layer, frame) ∷ [] }) edits) (ready.keeps.there.frames n edits.edited there)
      (barrier_keeps pictures actor n layer frame edits.edited (share_of actor.script.number (known_of home old)) ready.is_next ready.keeps.kept unrefused (number_low pictures home actor before old (step.Barrier n layer frame) n ready high) there)

  pub set_comes : (pictures : ℕ → Picture) (home : DeskHome) (actor : ActorOf B) (before after : Bindings B) (old new : DeskView B) (n layer : ℕ) (change : Change) (came_to : Tried) → IsReady pictures home actor before old (step.Set n layer change) → refusal_of pictures (past_of actor).holdings (step.Set n layer change) ≡ None → Changes (Edits before after n (λ txn. with_op txn (layer_of layer, op_of change))) old new came_to → Comes pictures home actor after old new came_to
  set_comes pictures home actor before after old new n layer change came_to ready unrefused changes =
      let high = ready.playable.ranges.0.high in
      let edits = changes.changed in
      let there = there_in actor before n edits.edited ready.parts edits.takes.txn_there in
      edit_comes pictures home actor before after old new (step.Set n layer change) n (with_op edits.edited (layer_of layer, op_of change)) came_to ready refl refl refl refl changes.own changes.desk high
      (edited_parts before after n (λ txn. with_op txn (layer_of layer, op_of change)) edits) (ready.keeps.there.frames n edits.edited there)
      (set_keeps pictures actor n layer change edits.edited (share_of actor.script.number (known_of home old)) ready.is_next ready.keeps.kept unrefused (number_low pictures home actor before old (step.Set n layer change) n ready high) there)

  -- a transaction that is sent
  pub send_comes : (pictures : ℕ → Picture) (home : DeskHome) (actor : ActorOf B) (before after : Bindings B) (old new : DeskView B) (n token : ℕ) (came_to : Tried) → IsReady pictures home actor before old (step.Apply n token) → refusal_of pictures (past_of actor).holdings (step.Apply n token) ≡ None → TriesSend home actor.script.number (length actor.trace + 1) n token before after old new came_to → Comes pictures home actor after old new came_to
  send_comes pictures home actor before after old new n token (tried.Sent arrival) ready unrefused sends =
      let by = actor.script.number in
      let s : Step = step.Apply n token in
      let done : Done = record { step = s; answered = answered.Sent arrival } in
      let parts = with_contents actor.parts n None in
      let low = number_low pictures home actor before old s n ready ready.playable.ranges.0.high in
      let there = there_in actor before n sends.sent ready.parts sends.takes.txn_there in
      let same = sends.made.same in
      own_done pictures home actor after old new done parts (reply_with by (length actor.trace + 1) 0 (arrival ∷ [])) refl
      (record {
        signals = ap (λ (view : DeskView B). view.times.signals) same ∙ sym (append-nil old.times.signals);
        ended = ap (λ (view : DeskView B). view.turns.leaves) same ∙ sym (append-nil old.turns.leaves);
        entered = no_draw home actor old new done refl;
        refused = no_fence pictures home actor old new done refl;
        alone = λ exact other apart. send_alone other home old new by (length actor.trace + 1) _ arrival exact (λ e. apart (sym e)) sends.made;
        has = ap parts_of sends.takes.txn_rest ∙ ap (λ (of : HoldingsOf B). with_contents of n None) (sym ready.parts);
        kept = send_keeps pictures actor n token arrival sends.sent home old new ready.is_next ready.keeps.kept unrefused low there sends.made;
        there = there_with_contents home actor.parts n None low ready.keeps.there (λ now e. absurd (none_some now e));
      })
    where
      none_some : (now : Contents ReadLeaseOf) → None ≡ Some now → ⊥
      none_some now e = cc
  send_comes pictures home actor before after old new n token (tried.Own status) ready unrefused sends = absurd sends
  send_comes pictures home actor before after old new n token (tried.Called status values) ready unrefused sends = absurd sends
  send_comes pictures home actor before after old new n token tried.NotYet ready unrefused sends = absurd sends

  -- frames that are given back
  release_back : (home : DeskHome) (by step_number : ℕ) (lease : ReadLeaseOf) (old new : DeskView B) → (release : Releases home by step_number lease old new) → MadeCall home old new by lease.queue.0 (step_number, call.Release lease (with_points_of no_points lease.fence)) release.reply
  release_back home by step_number lease old new release =
      let asking : ℕ × QCall B = (step_number, call.Release lease (with_points_of no_points lease.fence)) in
      let c = made_call home old release.released by lease.queue.0 asking release.reply release.made in
      let none = no_end (mark_among home.marks lease.queue.0).queue lease (with_points_of no_points lease.fence) c.told.reply release.reply (answer_told home old release.released by lease.queue.0 asking release.reply release.made) in
      let ended : new ≡ release.released = subst (λ (ends : Option EndingOf). Ends ends release.released new) none release.ends in
      subst (λ (view : DeskView B). MadeCall home old view by lease.queue.0 asking release.reply) (sym ended) release.made

  all_back : (home : DeskHome) (by step_number : ℕ) (buffers : List (Buffer ReadLeaseOf)) (old new : DeskView B) → ReleasesAll home by step_number buffers old new → GivesBack home by step_number (map right_of buffers) old new
  all_back home by step_number [] old new releases = releases
  all_back home by step_number (buffer ∷ later) old new releases =
      let release = releases.1 in
      (release.reply, releases.0, release_back home by step_number buffer.lease old releases.0 release, all_back home by step_number later releases.0 new releases.2)

  back_same : (home : DeskHome) (by step_number : ℕ) (leases : List ReadLeaseOf) (old new : DeskView B) → GivesBack home by step_number leases old new → (new.times ≡ old.times) × (new.turns ≡ old.turns)
  back_same home by step_number [] old new gives = (ap (λ (view : DeskView B). view.times) gives, ap (λ (view : DeskView B). view.turns) gives)
  back_same home by step_number (lease ∷ later) old new gives =
      let rest = back_same home by step_number later gives.1 new gives.3 in
      let same = gives.2.changes.same in
      (rest.0 ∙ ap (λ (view : DeskView B). view.times) same, rest.1 ∙ ap (λ (view : DeskView B). view.turns) same)

  back_alone : (other : ℕ) (home : DeskHome) (by step_number : ℕ) (leases : List ReadLeaseOf) (old new : DeskView B) → home.is_exact ≡ true → by ≢ other → GivesBack home by step_number leases old new → GoesOn other (known_of home old) (known_of home new)
  back_alone other home by step_number [] old new exact apart gives = subst (λ (view : DeskView B). GoesOn other (known_of home old) (known_of home view)) (sym gives) (goes_same other (known_of home old))
  back_alone other home by step_number (lease ∷ later) old new exact apart gives =
      goes_twice other (known_of home old) (known_of home gives.1) (known_of home new)
      (call_alone other home old gives.1 by lease.queue.0 (step_number, call.Release lease (with_points_of no_points lease.fence)) gives.0 exact apart gives.2)
      (back_alone other home by step_number later gives.1 new exact apart gives.3)

  -- a frame that goes into a transaction
  pub show_comes : (pictures : ℕ → Picture) (home : DeskHome) (actor : ActorOf B) (before after : Bindings B) (old new : DeskView B) (n layer i : ℕ) (came_to : Tried) → IsReady pictures home actor before old (step.Buffer n layer i) → refusal_of pictures (past_of actor).holdings (step.Buffer n layer i) ≡ None → (came_to ≡ tried.Own 0) × Shows home actor.script.number (length actor.trace + 1) n layer i before after old new → Comes pictures home actor after old new came_to
  show_comes pictures home actor before after old new n layer i came_to ready unrefused acts =
      let by = actor.script.number in
      let s : Step = step.Buffer n layer i in
      let done : Done = record { step = s; answered = answered.Own 0 } in
      let shows = acts.1 in
      let lease = shows.lease in
      let edits = shows.edits in
      let txn = edits.edited in
      let buffer = buffer_with layer lease in
      let now = set_buffer txn buffer in
      let high = ready.playable.ranges.0.high in
      let low = number_low pictures home actor before old s n ready high in
      let low_name : i < length actor.parts.names = let below = ready.playable.ranges.2.below in let names = ready.names in let same = ap (λ (parts : HoldingsOf B). length parts.names) ready.parts in omega (arith, below, names, same) in
      let held : held_in actor.parts i ≡ Some (holding.Reads lease) = ap (λ (parts : HoldingsOf B). held_in parts i) ready.parts ∙ shows.takes.held_there in
      let there : contents_in actor.parts n ≡ Some txn =
      ap (λ (parts : HoldingsOf B). contents_in parts n) ready.parts
      ∙ ap (λ (bindings : Bindings B). get_or bindings.transactions n None) (sym shows.takes.rest)
      ∙ edits.takes.txn_there in
      let named = names_told pictures actor (share_of by (known_of home old)) i ready.keeps.kept ∙ ap (option_map token_of) held in
      let acquired = ready.keeps.kept.of_call i (holding.Reads lease) held (numbered pictures (past_of actor).holdings n layer i lease.queue (frame_of lease).1 named unrefused) in
      let gives = all_back home by (length actor.trace + 1) (option_to_list (replaced_by txn.buffers buffer)) old new shows.releases in
      let same = back_same home by (length actor.trace + 1) (map right_of (option_to_list (replaced_by txn.buffers buffer))) old new gives in
      let frames = ready.keeps.there.frames n txn there in
      let parts = parts_with (with_contents actor.parts n (Some now)) i None actor.parts.stock in
      subst (λ (c : Tried). Comes pictures home actor after old new c) (sym acts.0)
      (own_done pictures home actor after old new done parts (reply_with by (length actor.trace + 1) 0 []) refl
      (record {
        signals = ap (λ (times : Knows). times.signals) same.0 ∙ sym (append-nil old.times.signals);
        ended = ap (λ (turns : SeatView). turns.leaves) same.1 ∙ sym (append-nil old.turns.leaves);
        entered = no_draw home actor old new done refl;
        refused = no_fence pictures home actor old new done refl;
        alone = λ exact other apart. back_alone other home by (length actor.trace + 1) (map right_of (option_to_list (replaced_by txn.buffers buffer))) old new exact (λ e. apart (sym e)) gives;
        has =
            edited_parts shows.without_frame after n (λ t. set_buffer t (buffer_with layer lease)) edits
            ∙ ap (λ (bindings : Bindings B). with_contents (parts_of bindings) n (Some now)) shows.takes.rest
            ∙ ap (λ (of : HoldingsOf B). parts_with (with_contents of n (Some now)) i None of.stock) (sym ready.parts);
        kept = show_keeps pictures actor n layer i lease txn home old new ready.is_next ready.keeps.kept unrefused there held acquired low low_name (marked_all home txn.buffers frames) gives;
        there = there_with home (with_contents actor.parts n (Some now)) i None actor.parts.stock low_name
            (there_with_contents home actor.parts n (Some now) low ready.keeps.there
            (λ other e. subst (λ (t : Contents ReadLeaseOf). All (IsHere home) t.buffers) (one now other e)
            (with_all (IsHere home) txn.buffers buffer frames (ready.keeps.there.names i (holding.Reads lease) held))))
            (λ other e. absurd (none_some other e));
      }))
    where
      none_some : (now : Holding B) → None ≡ Some now → ⊥
      none_some now e = cc

      one : (a b : Contents ReadLeaseOf) → Some a ≡ Some b → a ≡ b
      one a b e = cc

  -- a transaction that is merged into another
  pub merge_comes : (pictures : ℕ → Picture) (home : DeskHome) (actor : ActorOf B) (before after : Bindings B) (old new : DeskView B) (n m : ℕ) (came_to : Tried) → IsReady pictures home actor before old (step.Merge n m) → refusal_of pictures (past_of actor).holdings (step.Merge n m) ≡ None → (came_to ≡ tried.Own 0) × Merges home actor.script.number (length actor.trace + 1) n m before after old new → Comes pictures home actor after old new came_to
  merge_comes pictures home actor before after old new n m came_to ready unrefused acts =
      let by = actor.script.number in
      let s : Step = step.Merge n m in
      let done : Done = record { step = s; answered = answered.Own 0 } in
      let merges = acts.1 in
      let into = merges.into in
      let from = merges.from in
      let now = merged into from in
      let low = number_low pictures home actor before old s n ready ready.playable.ranges.0.high in
      let low_other = number_low pictures home actor before old s m ready ready.playable.ranges.1.high in
      let share = share_of by (known_of home old) in
      let there = there_in actor before n into ready.parts merges.takes_into.txn_there in
      let told = transactions_told pictures actor share n ready.keeps.kept ∙ ap (option_map plain_txn) there in
      let some : (k : ℕ) (t : Contents ReadLeaseOf) → transaction_in (past_of actor).holdings k ≡ Some (plain_txn t) → is_none (transaction_in (past_of actor).holdings k) ≡ false = λ k t e. rw e refl in
      let other_told : is_none (transaction_in (past_of actor).holdings m) ≡ false = other_there pictures (past_of actor).holdings n m (some n into told) unrefused in
      let away = apart pictures (past_of actor).holdings n m (some n into told) other_told unrefused in
      let too : contents_in actor.parts m ≡ Some from =
      ap (λ (parts : HoldingsOf B). contents_in parts m) ready.parts
      ∙ sym (get_or-set_other before.transactions n m None None (λ e. away (sym e)))
      ∙ ap (λ (bindings : Bindings B). get_or bindings.transactions m None) (sym merges.takes_into.txn_rest)
      ∙ merges.takes_from.txn_there in
      let gives = all_back home by (length actor.trace + 1) (all_replaced into.buffers from.buffers) old new merges.releases in
      let same = back_same home by (length actor.trace + 1) (map right_of (all_replaced into.buffers from.buffers)) old new gives in
      let frames = ready.keeps.there.frames n into there in
      let frames_too = ready.keeps.there.frames m from too in
      let parts = with_contents (with_contents actor.parts n (Some now)) m (Some empty) in
      let longer : m < length (set actor.parts.transactions n (Some now)) = omega (arith, length-set actor.parts.transactions n (Some now), low_other) in
      subst (λ (c : Tried). Comes pictures home actor after old new c) (sym acts.0)
      (own_done pictures home actor after old new done parts (reply_with by (length actor.trace + 1) 0 []) refl
      (record {
        signals = ap (λ (times : Knows). times.signals) same.0 ∙ sym (append-nil old.times.signals);
        ended = ap (λ (turns : SeatView). turns.leaves) same.1 ∙ sym (append-nil old.turns.leaves);
        entered = no_draw home actor old new done refl;
        refused = no_fence pictures home actor old new done refl;
        alone = λ exact other is_other. back_alone other home by (length actor.trace + 1) (map right_of (all_replaced into.buffers from.buffers)) old new exact (λ e. is_other (sym e)) gives;
        has =
            ap parts_of (merges.put_back ∙ ap (λ (bindings : Bindings B). with_txn (with_txn bindings n (Some now)) m (Some empty)) (merges.takes_from.txn_rest ∙ ap (λ (bindings : Bindings B). with_txn bindings m None) merges.takes_into.txn_rest))
            ∙ ap (λ (transactions : List (Option (Contents ReadLeaseOf))). record (parts_of before) { transactions = transactions }) (both before.transactions n m (Some now) (Some empty) away)
            ∙ ap (λ (of : HoldingsOf B). with_contents (with_contents of n (Some now)) m (Some empty)) (sym ready.parts);
        kept = merge_keeps pictures actor n m into from home old new ready.is_next ready.keeps.kept unrefused there too low low_other (marked_all home into.buffers frames) (marked_all home from.buffers frames_too) gives;
        there = there_with_contents home (with_contents actor.parts n (Some now)) m (Some empty) longer
            (there_with_contents home actor.parts n (Some now) low ready.keeps.there
            (λ other e. subst (λ (t : Contents ReadLeaseOf). All (IsHere home) t.buffers) (one now other e) (all_with_all (IsHere home) into.buffers from.buffers frames frames_too)))
            (λ other e. subst (λ (t : Contents ReadLeaseOf). All (IsHere home) t.buffers) (one empty other e) (λ k d below. absurd (omega (arith, below))));
      }))
    where
      one : (a b : Contents ReadLeaseOf) → Some a ≡ Some b → a ≡ b
      one a b e = cc

      -- both are taken out and put back
      both : (xs : List (Option (Contents ReadLeaseOf))) (j k : ℕ) (x y : Option (Contents ReadLeaseOf)) → j ≢ k → set (set (set (set xs j None) k None) j x) k y ≡ set (set xs j x) k y
      both xs j k x y differ =
          ap (λ (zs : List (Option (Contents ReadLeaseOf))). set zs k y) (set_comm (set xs j None) k j None x (λ e. differ (sym e)))
          ∙ set-set (set (set xs j None) j x) k None y
          ∙ ap (λ (zs : List (Option (Contents ReadLeaseOf))). set zs k y) (set-set xs j None x)

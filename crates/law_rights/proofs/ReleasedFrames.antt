-- Frames that go back to their queues, one after another, and the steps that release frames.
use Rattle.std.proofs.Common.{◌≡◌, ◌≢◌, ℕ, ◌+◌, ◌≤◌, ◌⊎◌, ◌==◌, Bool, true, false, List, [], ◌∷◌, ◌++◌, arith, ap, ◌∙◌, sym, refl, inl, inr, subst, length, map, Option, Some, None}
use Rattle.std.specs.Prelude.{find, option_to_list}
use Rattle.std.specs.List.{flat_map, list_any, sum_by}
use Rattle.std.proofs.lemmas.Bool.{cases_Bool, eqb-true, eq-eqb, false≢true}
use Rattle.std.proofs.lemmas.List.Sums.{sum_by-append, sum_by-cons}
use Rattle.sf_base.specs.Fences.{no_points, merged as with_points_of}
use Rattle.sf_actor_set.specs.sf_calls.Histories.{IsLegal, entry}
use Rattle.sf_actor_set.specs.sf_picture.declared.picture.Picture.{Picture}
use Rattle.sf_actor_set.specs.sf_script_scene.declared.step.Step.{Step}
use Rattle.sf_actor_set.specs.sf_surface.declared.call.QCall.{QCall}
use Rattle.sf_actor_set.specs.sf_surface.declared.call.QCall.TheVariants as call
use Rattle.sf_actor_set.specs.sf_surface.declared.mark.QueueMark.{QueueMark}
use Rattle.sf_actor_set.specs.sf_surface.Histories.{Answers, Made, told_reply}
use Rattle.sf_actor_set.specs.sf_surface.Tokens.{ReadLeaseOf}
use Rattle.sf_actor_set.specs.sf_token.Pending.{Arrival}
use Rattle.sf_actor_set.specs.sf_txn.Buffers.{Buffer}
use Rattle.sf_actor_set.specs.sf_txn.Transactions.{all_replaced, empty, is_for, merged, replaced_by, set_buffer, with_buffer, with_buffers, without_first}
use Rattle.sf_actor_set.specs.sf_actor.declared.done.Answered.{Answered}
use Rattle.sf_actor_set.specs.sf_actor.declared.holding.Holding.{Holding}
use Rattle.sf_actor_set.specs.sf_actor.declared.holding.Holding.TheVariants as holding
use Rattle.sf_actor_set.specs.sf_actor.Desks.{DeskHome, DeskView, has_queue, mark_among}
use Rattle.sf_actor_set.specs.sf_actor.Makers.{BufferOf}
use Rattle.sf_actor_set.specs.sf_actor.Rights.{Turn}
use Rattle.sf_actor_set.specs.sf_actor.Tries.{ActorOf}
use Rattle.sf_actor_set.specs.sf_actor.Written as written
use Rattle.sf_actor_set.specs.sf_actor_steps.declared.bindings.Bindings.{Bindings}
use Rattle.sf_actor_set.specs.sf_actor_steps.declared.tried.Tried.{Tried}
use Rattle.sf_actor_set.specs.sf_actor_steps.Actors.{parts_of}
use Rattle.sf_actor_set.specs.sf_actor_steps.Calling.{with_held}
use Rattle.sf_actor_set.specs.sf_actor_steps.Editing.{Merges, Releases, ReleasesAll, Shows, buffer_with, with_txn}
use Rattle.sf_actor_set.specs.sf_actor_steps.Forming.{Takes}
use Rattle.sf_actor_set.specs.sf_actor_steps.Bindings.{holdings_of}
use Rattle.law_rights.specs.Ledgers.{IsLedger}
use Rattle.law_rights.specs.Makers.{RightAt, place_of, place_owed, places_arrived, places_held, places_of, places_out, right_read, right_shown}
use Rattle.law_rights.specs.MakerSteps.{PlaceStep}
use Rattle.law_rights.specs.Moves.{Gets, HasAtMost}
use Rattle.law_rights.specs.PlaceTries.{ReturnAll}
use Rattle.law_rights.specs.States.{AreApart, CallsOnce, State, is_queue, ledger_of}
use Rattle.law_rights.specs.Steps.{QuietStep}
use Rattle.law_rights.specs.Tries.{TriesIn}
use Rattle.law_rights.proofs.ActorChanges.{held_sum, none_sent, owed_get, written_get}
use Rattle.law_rights.proofs.OwedAfterCall.{ending_left, ends_are, turns_of}
use Rattle.law_rights.proofs.FreeNames.{takes_owes}
use Rattle.law_rights.proofs.Forms.{edits_names, edits_sum, put_txn, take_txn}
use Rattle.law_rights.proofs.BindingChanges.{set_none, weight_is}
use Rattle.law_rights.proofs.OwedDrawings.{gets_same, bindings_owe}
use Rattle.law_rights.proofs.PlaceChanges.{Went, most_rests, owed_gets, rest_turns}
use Rattle.law_rights.proofs.Quiet.{nothing_written}
use Rattle.law_rights.proofs.SilentSteps.{quiet_keeps}
use Rattle.law_rights.proofs.ReturnedFrames.{back_places}
use Rattle.law_rights.proofs.CallKeepsState.{call_keeps}
use Rattle.law_rights.proofs.CallTryLedger.{bindings_weight}

abbrev pub lease_of : Buffer ReadLeaseOf → ReadLeaseOf
lease_of buffer = buffer.lease

module _ {B : Type 0} (home : DeskHome) (by place : ℕ) (exact : home.is_exact ≡ true) (apart : AreApart home.marks) where
  -- the calls after a release are one more
  abbrev asked_of : ReadLeaseOf → QCall B
  asked_of lease = call.Release lease (with_points_of no_points lease.fence)

  module _ (lease : ReadLeaseOf) (from next : DeskView B) (releases : Releases home by place lease from next) where
    ended : Gets releases.released.turns.leaves (turns_of releases.reply.ends) next.turns.leaves × (next.calls ≡ releases.released.calls) × (next.arrivals ≡ releases.released.arrivals)
    ended = ending_left releases.reply.ends releases.released next releases.ends

    newest : next.calls lease.queue.0 ≡ entry by (place, asked_of lease) releases.reply ∷ from.calls lease.queue.0
    newest =
        ap (λ (calls : ℕ → List (Made B)). calls lease.queue.0) ended.1 ∙ releases.made.newest
        ∙ ap (λ (calls : List (Made B)). entry by (place, asked_of lease) releases.reply ∷ calls) (releases.made.alone exact)

    others : (other : ℕ) → other ≢ lease.queue.0 → next.calls other ≡ from.calls other
    others other unlike = ap (λ (calls : ℕ → List (Made B)). calls other) ended.1 ∙ releases.made.changes.others other unlike

    pub release_arrivals : next.arrivals ≡ from.arrivals
    release_arrivals = ended.2 ∙ ap (λ (view : DeskView B). view.arrivals) releases.made.changes.same

    -- a queue that has no calls had none
    pub release_empty : (queue : ℕ) → next.calls queue ≡ [] → from.calls queue ≡ []
    release_empty queue none = elim (cases_Bool (queue == lease.queue.0)) [
      | inl met ↦ absurd (full (sym newest ∙ subst (λ (q : ℕ). next.calls q ≡ []) (eqb-true queue lease.queue.0 met) none))
      | inr unmet ↦ sym (others queue (λ e. false≢true (sym unmet ∙ eq-eqb queue lease.queue.0 e))) ∙ none
    ]
      where
        full : entry by (place, asked_of lease) releases.reply ∷ from.calls lease.queue.0 ≡ [] → ⊥
        full none = cc

    pub release_once : ((queue : ℕ) → has_queue home queue ≡ false → next.calls queue ≡ []) → CallsOnce home.marks from.calls next.calls by lease.queue.0 place (asked_of lease) releases.reply
    release_once not_called = record { apart = apart; there = is_there; newest = newest; others = others; replied = legal.0 }
      where
        full : entry by (place, asked_of lease) releases.reply ∷ from.calls lease.queue.0 ≡ [] → ⊥
        full none = cc

        is_there : list_any (is_queue lease.queue.0) home.marks ≡ true
        is_there = elim (cases_Bool (has_queue home lease.queue.0)) [
          | inl met ↦ met
          | inr unmet ↦ absurd (full (sym newest ∙ not_called lease.queue.0 unmet))
        ]

        legal : IsLegal (Answers (mark_among home.marks lease.queue.0)) (entry by (place, asked_of lease) releases.reply ∷ from.calls lease.queue.0)
        legal = subst (IsLegal (Answers (mark_among home.marks lease.queue.0)))
            (releases.made.newest ∙ ap (λ (calls : List (Made B)). entry by (place, asked_of lease) releases.reply ∷ calls) (releases.made.alone exact)) releases.made.legal

    -- a frame that is held goes back to its queue
    pub release_places : (st : State B) (on : List ReadLeaseOf) → st.marks ≡ home.marks → ((queue : ℕ) → has_queue home queue ≡ false → next.calls queue ≡ []) → (was : BufferOf)
        → PlaceStep (record st { view = from; on = lease ∷ on }) (record st { view = next; on = on }) by lease.queue.0 place (asked_of lease) releases.reply was
    release_places st on marks not_called was = back_places (record st { view = from }) on lease (with_points_of no_points lease.fence) by lease.queue.0 place releases.reply next once left was
      where
        once : CallsOnce st.marks from.calls next.calls by lease.queue.0 place (asked_of lease) releases.reply
        once = subst (λ (ms : List QueueMark). CallsOnce ms from.calls next.calls by lease.queue.0 place (asked_of lease) releases.reply) (sym marks) (release_once not_called)

        none_ended : turns_of releases.reply.ends ≡ []
        none_ended = ends_are (mark_among st.marks lease.queue.0).queue (asked_of lease) (told_reply (mark_among st.marks lease.queue.0) (from.calls lease.queue.0) by (asked_of lease)) releases.reply once.replied.answer

        left : Gets from.turns.leaves [] next.turns.leaves
        left = subst (λ (xs : List Turn). Gets xs [] next.turns.leaves) (ap (λ (view : DeskView B). view.turns.leaves) releases.made.changes.same)
            (subst (λ (xs : List Turn). Gets releases.released.turns.leaves xs next.turns.leaves) none_ended ended.0)

  pub releases_arrivals : (buffers : List (Buffer ReadLeaseOf)) (from to : DeskView B) → ReleasesAll home by place buffers from to → to.arrivals ≡ from.arrivals
  releases_arrivals [] from to same = ap (λ (view : DeskView B). view.arrivals) same
  releases_arrivals (buffer ∷ buffers) from to all = releases_arrivals buffers all.0 to all.2 ∙ release_arrivals buffer.lease from all.0 all.1

  releases_empty : (buffers : List (Buffer ReadLeaseOf)) (from to : DeskView B) → ReleasesAll home by place buffers from to → (queue : ℕ) → to.calls queue ≡ [] → from.calls queue ≡ []
  releases_empty [] from to same queue none = sym (ap (λ (view : DeskView B). view.calls queue) same) ∙ none
  releases_empty (buffer ∷ buffers) from to all queue none = release_empty buffer.lease from all.0 all.1 queue (releases_empty buffers all.0 to all.2 queue none)

  -- so do those of several buffers, one after another
  pub releases_return : (st : State B) (buffers : List (Buffer ReadLeaseOf)) (on : List ReadLeaseOf) (from to : DeskView B) → st.marks ≡ home.marks → ((queue : ℕ) → has_queue home queue ≡ false → to.calls queue ≡ []) → ReleasesAll home by place buffers from to
      → ReturnAll by place (map lease_of buffers) (record st { view = from; on = map lease_of buffers ++ on }) (record st { view = to; on = on })
  releases_return st [] on from to marks not_called same = ap (λ (view : DeskView B). record st { view = view; on = on }) same
  releases_return st (buffer ∷ buffers) on from to marks not_called all = (
    record st { view = all.0; on = map lease_of buffers ++ on },
    record {
      queue = buffer.lease.queue.0;
      fence = with_points_of no_points buffer.lease.fence;
      reply = all.1.reply;
      made = λ was. release_places buffer.lease from all.0 all.1 st (map lease_of buffers ++ on) marks (λ queue absent. releases_empty buffers all.0 to all.2 queue (not_called queue absent)) was;
    },
    releases_return st buffers on all.0 to marks not_called all.2,
  )

-- frames that go back one after another leave the ledger one
pub returned_keeps : {B : Type 0} (by place : ℕ) (leases : List ReadLeaseOf) (old new : State B) → ReturnAll by place leases old new → IsLedger (ledger_of old) → IsLedger (ledger_of new)
returned_keeps {B} by place [] old new same is = subst (λ (st : State B). IsLedger (ledger_of st)) (sym same) is
returned_keeps by place (lease ∷ later) old new returns is =
    let one = returns.1 in
    returned_keeps by place later returns.0 new returns.2
    (call_keeps old returns.0 by one.queue place (call.Release lease one.fence) one.reply (one.made (record { queue = 0; number = 0 })).call is)

-- what is counted of buffers, where one takes another's place
module _ (w : RightAt → ℕ) where
  abbrev pub buffers_weight : List (Buffer ReadLeaseOf) → ℕ
  buffers_weight buffers = sum_by w (map right_shown buffers)

  without_sum : (test : Buffer ReadLeaseOf → Bool) (buffers : List (Buffer ReadLeaseOf)) → buffers_weight (without_first test buffers) + buffers_weight (option_to_list (find test buffers)) ≡ buffers_weight buffers
  without_sum test [] = refl
  without_sum test (b ∷ buffers) = by_test (cases_Bool (test b)) (without_sum test buffers)
    where
      by_test : (test b ≡ true) ⊎ (test b ≡ false) → buffers_weight (without_first test buffers) + buffers_weight (option_to_list (find test buffers)) ≡ buffers_weight buffers
          → buffers_weight (without_first test (b ∷ buffers)) + buffers_weight (option_to_list (find test (b ∷ buffers))) ≡ buffers_weight (b ∷ buffers)
      by_test (inl met) rest = rw met (single)
        where
          single : buffers_weight buffers + buffers_weight (b ∷ []) ≡ buffers_weight (b ∷ buffers)
          single = let a = sum_by-cons w (right_shown b) (map right_shown buffers) in let c = sum_by-cons w (right_shown b) [] in omega (arith, a, c)
      by_test (inr unmet) rest = rw unmet (more)
        where
          more : buffers_weight (b ∷ without_first test buffers) + buffers_weight (option_to_list (find test buffers)) ≡ buffers_weight (b ∷ buffers)
          more =
              let a = sum_by-cons w (right_shown b) (map right_shown buffers) in
              let c = sum_by-cons w (right_shown b) (map right_shown (without_first test buffers)) in
              omega (arith, a, c, rest)

  push_sum : (buffers : List (Buffer ReadLeaseOf)) (b : Buffer ReadLeaseOf) → buffers_weight (buffers ++ b ∷ []) ≡ buffers_weight buffers + w (right_shown b)
  push_sum [] b = let a = sum_by-cons w (right_shown b) [] in omega (arith, a)
  push_sum (c ∷ buffers) b =
      let rest = push_sum buffers b in
      let a = sum_by-cons w (right_shown c) (map right_shown buffers) in
      let d = sum_by-cons w (right_shown c) (map right_shown (buffers ++ b ∷ [])) in
      omega (arith, rest, a, d)

  join_sum : (xs ys : List (Buffer ReadLeaseOf)) → buffers_weight (xs ++ ys) ≡ buffers_weight xs + buffers_weight ys
  join_sum [] ys = omega arith
  join_sum (x ∷ xs) ys =
      let rest = join_sum xs ys in
      let a = sum_by-cons w (right_shown x) (map right_shown xs) in
      let b = sum_by-cons w (right_shown x) (map right_shown (xs ++ ys)) in
      omega (arith, rest, a, b)

  pub with_sum : (buffers : List (Buffer ReadLeaseOf)) (b : Buffer ReadLeaseOf) → buffers_weight (with_buffer buffers b) + buffers_weight (option_to_list (replaced_by buffers b)) ≡ buffers_weight buffers + w (right_shown b)
  with_sum buffers b =
      let a = without_sum (is_for b.layer) buffers in
      let c = push_sum (without_first (is_for b.layer) buffers) b in
      omega (arith, a, c)

  pub withs_sum : (buffers others : List (Buffer ReadLeaseOf)) → buffers_weight (with_buffers buffers others) + buffers_weight (all_replaced buffers others) ≡ buffers_weight buffers + buffers_weight others
  withs_sum buffers [] = omega arith
  withs_sum buffers (b ∷ others) =
      let rest = withs_sum (with_buffer buffers b) others in
      let here = with_sum buffers b in
      let joined = join_sum (option_to_list (replaced_by buffers b)) (all_replaced (with_buffer buffers b) others) in
      let a = sum_by-cons w (right_shown b) (map right_shown others) in
      omega (arith, rest, here, joined, a)

  leases_sum : (buffers : List (Buffer ReadLeaseOf)) → sum_by w (map right_read (map lease_of buffers)) ≡ buffers_weight buffers
  leases_sum [] = refl
  leases_sum (b ∷ buffers) =
      let rest = leases_sum buffers in
      let a = sum_by-cons w (right_shown b) (map right_shown buffers) in
      let c = sum_by-cons w (right_read b.lease) (map right_read (map lease_of buffers)) in
      omega (arith, rest, a, c)

  pub on_sum : (buffers : List (Buffer ReadLeaseOf)) (on : List ReadLeaseOf) → sum_by w (map right_read (map lease_of buffers ++ on)) ≡ buffers_weight buffers + sum_by w (map right_read on)
  on_sum [] on = omega arith
  on_sum (b ∷ buffers) on =
      let rest = on_sum buffers on in
      let a = sum_by-cons w (right_shown b) (map right_shown buffers) in
      let c = sum_by-cons w (right_read b.lease) (map right_read (map lease_of buffers ++ on)) in
      omega (arith, rest, a, c)

module _ {B : Type 0} where
  takes_sum : (w : RightAt → ℕ) (before taken : Bindings B) (name : ℕ) (held : Holding B) → Takes before taken name held → sum_by w (places_held (parts_of taken)) + sum_by w (place_of (Some held)) ≡ sum_by w (places_held (parts_of before))
  takes_sum w before taken name held takes =
      let none = set_none (λ (h : Option (Holding B)). sum_by w (place_of h)) before.names name held takes.held_there in
      let a = weight_is w before in
      let b = weight_is w (with_held before name None) in
      let c = bindings_weight w before in
      let d = bindings_weight w (with_held before name None) in
      let e = ap (λ (bindings : Bindings B). sum_by w (places_held (parts_of bindings))) takes.rest in
      omega (arith, none, a, b, c, d, e)

module _ {B : Type 0} (pictures : ℕ → Picture) (home : DeskHome) (place : ℕ) (s : Step) (came_to : Tried) (before after : Bindings B) (old new : State B) (tries : TriesIn pictures home place s came_to before after old new) where
  -- frames come into a transaction, and those whose places they take go back
  overtakes_keep : (replaced : List (Buffer ReadLeaseOf)) → ((w : RightAt → ℕ) → sum_by w (places_held (parts_of after)) + buffers_weight w replaced ≤ sum_by w (places_held (parts_of before))) → Gets (bindings_owe before) [] (bindings_owe after)
      → ((answer : Answered) → written.written_by (holdings_of before) s answer ≡ []) → ReleasesAll home before.by.0 (length tries.was.trace + 1) replaced old.view new.view → IsLedger (ledger_of old) → Went s before (length tries.was.trace + 1) old new
  overtakes_keep replaced less owes nothing releases is = record {
    ledger = returned_keeps before.by.0 (length tries.was.trace + 1) (map lease_of replaced) between new returns rested;
    places = inr (record {
      mid = between;
      rests = record { marks = marks; calls = refl; places = most_rests old between marks refl held owed.no_others; ledger = rested };
      leases = map lease_of replaced;
      returns = returns;
    });
  }
    where
      between : State B
      between = record new { view = old.view; on = map lease_of replaced ++ new.on }

      marks : new.marks ≡ old.marks
      marks = tries.marks_new ∙ sym tries.marks_old

      returns : ReturnAll before.by.0 (length tries.was.trace + 1) (map lease_of replaced) between new
      returns = releases_return home before.by.0 (length tries.was.trace + 1) tries.exact tries.apart new replaced new.on old.view new.view tries.marks_new tries.not_called releases

      none : tries.sends ≡ []
      none = none_sent pictures home place s came_to before after old new tries (releases_arrivals home before.by.0 (length tries.was.trace + 1) tries.exact tries.apart replaced old.view new.view releases)

      held : HasAtMost (places_out old) [] [] (places_out between)
      held w =
          let all = held_sum pictures home place s came_to before after old new tries w in
          let nothing = ap (λ (xs : List (Arrival ReadLeaseOf)). sum_by w (flat_map places_arrived xs)) none in
          let bindings = less w in
          let a = sum_by-append w (flat_map (λ (x : ActorOf B). places_held x.parts) new.actors ++ flat_map places_arrived new.waiting) (map right_read (map lease_of replaced ++ new.on)) in
          let b = sum_by-append w (flat_map (λ (x : ActorOf B). places_held x.parts) new.actors ++ flat_map places_arrived new.waiting) (map right_read new.on) in
          let c = on_sum w replaced new.on in
          omega (arith, all, nothing, bindings, a, b, c)

      owed : Gets (places_of old).owed [] (places_of between).owed
      owed = owed_get pictures home place s came_to before after old new tries [] owes

      step : QuietStep old between
      step = record {
        marks = marks;
        calls = refl;
        held = rest_turns old between held;
        owed = owed_gets old between [] owed;
        left = gets_same old.view.turns.leaves;
        written = written_get pictures home place s came_to before after old new tries []
            (subst (λ (xs : List written.FrameNumber). Gets (written.written_in tries.was.trace) [] xs) (sym (nothing_written pictures home place s came_to before after old new tries (λ answer told. nothing answer))) (gets_same (written.written_in tries.was.trace)));
      }

      rested : IsLedger (ledger_of between)
      rested = quiet_keeps old between step is

  pub shows_keep : (number layer name : ℕ) → ((answer : Answered) → written.written_by (holdings_of before) s answer ≡ []) → Shows home before.by.0 (length tries.was.trace + 1) number layer name before after old.view new.view → IsLedger (ledger_of old) → Went s before (length tries.was.trace + 1) old new
  shows_keep number layer name nothing shows is =
      overtakes_keep (option_to_list (replaced_by shows.edits.edited.buffers (buffer_with layer shows.lease))) less owes nothing shows.releases is
    where
      less : (w : RightAt → ℕ) → sum_by w (places_held (parts_of after)) + buffers_weight w (option_to_list (replaced_by shows.edits.edited.buffers (buffer_with layer shows.lease))) ≤ sum_by w (places_held (parts_of before))
      less w =
          let take = takes_sum w before shows.without_frame name (holding.Reads shows.lease) shows.takes in
          let edit = edits_sum w shows.without_frame after number (λ txn. set_buffer txn (buffer_with layer shows.lease)) shows.edits in
          let put = with_sum w shows.edits.edited.buffers (buffer_with layer shows.lease) in
          let single = sum_by-cons w (right_read shows.lease) [] in
          omega (arith, take, edit, put, single)

      owes : Gets (bindings_owe before) [] (bindings_owe after)
      owes = subst (λ (names : List (Option (Holding B))). Gets (bindings_owe before) [] (flat_map place_owed names)) (sym (edits_names shows.without_frame after number (λ txn. set_buffer txn (buffer_with layer shows.lease)) shows.edits))
          (takes_owes before shows.without_frame name (holding.Reads shows.lease) shows.takes refl)

  pub merges_keep : (number other : ℕ) → ((answer : Answered) → written.written_by (holdings_of before) s answer ≡ []) → Merges home before.by.0 (length tries.was.trace + 1) number other before after old.view new.view → IsLedger (ledger_of old) → Went s before (length tries.was.trace + 1) old new
  merges_keep number other nothing merges is = overtakes_keep (all_replaced merges.into.buffers merges.from.buffers) less owes nothing merges.releases is
    where
      less : (w : RightAt → ℕ) → sum_by w (places_held (parts_of after)) + buffers_weight w (all_replaced merges.into.buffers merges.from.buffers) ≤ sum_by w (places_held (parts_of before))
      less w =
          let a = take_txn w before merges.without_into number merges.into merges.takes_into in
          let b = take_txn w merges.without_into merges.without_both other merges.from merges.takes_from in
          let c = put_txn w merges.without_both number (merged merges.into merges.from) in
          let d = put_txn w (with_txn merges.without_both number (Some (merged merges.into merges.from))) other empty in
          let e = ap (λ (bindings : Bindings B). sum_by w (places_held (parts_of bindings))) merges.put_back in
          let f = withs_sum w merges.into.buffers merges.from.buffers in
          omega (arith, a, b, c, d, e, f)

      same : after.names ≡ before.names
      same = ap (λ (bindings : Bindings B). bindings.names) merges.put_back ∙ ap (λ (bindings : Bindings B). bindings.names) merges.takes_from.txn_rest ∙ ap (λ (bindings : Bindings B). bindings.names) merges.takes_into.txn_rest

      owes : Gets (bindings_owe before) [] (bindings_owe after)
      owes = subst (λ (names : List (Option (Holding B))). Gets (bindings_owe before) [] (flat_map place_owed names)) (sym same) (gets_same (bindings_owe before))

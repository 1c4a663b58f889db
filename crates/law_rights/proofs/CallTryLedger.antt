-- A try of a step that makes a call keeps the ledger.
use Rattle.std.proofs.Common.{◌≡◌, ◌≢◌, ℕ, ◌+◌, ◌≤◌, ◌⊎◌, true, List, [], ◌∷◌, ◌++◌, arith, ap, ◌∙◌, sym, inl, inr, subst, length, Option, None}
use Rattle.std.specs.Prelude.{Contains}
use Rattle.std.specs.List.{flat_map, list_any, sum_by}
use Rattle.std.proofs.lemmas.Bool.{cases_Bool}
use Rattle.std.proofs.lemmas.List.Elements.{Contains-append_cases, Contains-append_left, Contains-append_right}
use Rattle.std.proofs.lemmas.List.Sums.{sum_by-append}
use Rattle.sf_actor_set.specs.sf_calls.Histories.{IsLegal, entry}
use Rattle.sf_actor_set.specs.sf_picture.declared.picture.Picture.{Picture}
use Rattle.sf_actor_set.specs.sf_script_scene.declared.step.Step.{Step}
use Rattle.sf_slots.specs.declared.calls.PlainReply.{PlainReply}
use Rattle.sf_actor_set.specs.sf_surface.declared.call.Gives.{Gives}
use Rattle.sf_actor_set.specs.sf_surface.declared.call.QCall.{QCall}
use Rattle.sf_actor_set.specs.sf_surface.declared.call.QReply.{QReply}
use Rattle.sf_actor_set.specs.sf_surface.declared.mark.QueueMark.{QueueMark}
use Rattle.sf_actor_set.specs.sf_surface.Histories.{Answers, Made, Replied, told_reply}
use Rattle.sf_actor_set.specs.sf_turns.Views.{PermitView}
use Rattle.sf_actor_set.specs.sf_token.Pending.{Arrival}
use Rattle.sf_actor_set.specs.sf_surface.Tokens.{ReadLeaseOf}
use Rattle.sf_actor_set.specs.sf_actor.declared.done.Answered.{Answered}
use Rattle.sf_actor_set.specs.sf_actor.declared.done.Answered.TheVariants as answered
use Rattle.sf_actor_set.specs.sf_actor.Desks.{DeskHome, DeskView, has_queue, mark_among}
use Rattle.sf_actor_set.specs.sf_actor.Rights.{Turn}
use Rattle.sf_actor_set.specs.sf_actor.Tests.{refusal_of}
use Rattle.sf_actor_set.specs.sf_actor.Written as written
use Rattle.sf_actor_set.specs.sf_actor_steps.declared.asking.Asking.{Asking}
use Rattle.sf_actor_set.specs.sf_actor_steps.declared.bindings.Bindings.{Bindings}
use Rattle.sf_actor_set.specs.sf_actor_steps.declared.tried.Tried.{Tried}
use Rattle.sf_actor_set.specs.sf_actor_steps.Actors.{parts_of}
use Rattle.sf_actor_set.specs.sf_actor_steps.Calling.{Calls, placed, with_spare}
use Rattle.sf_actor_set.specs.sf_actor_steps.Forming.{FormsCall}
use Rattle.sf_actor_set.specs.sf_actor_steps.Bindings.{holdings_of}
use Rattle.law_rights.specs.Calls.{move_of}
use Rattle.law_rights.specs.Ledgers.{IsLedger, Write}
use Rattle.law_rights.specs.MakerCalls.{given_at}
use Rattle.law_rights.specs.Makers.{RightAt, WriteAt, place_of, place_written, places_arrived, places_held, places_in, places_of, places_out}
use Rattle.law_rights.specs.Moves.{AreIn, Gets, HasAtMost, ended_by, owed_by, written_by}
use Rattle.law_rights.specs.States.{CallsOnce, State, all_owed, all_written, is_queue, ledger_of, move_on}
use Rattle.law_rights.specs.Steps.{CallStep}
use Rattle.law_rights.specs.Tries.{TriesIn}
use Rattle.law_rights.proofs.ActorChanges.{held_sum, held_there, none_sent, owed_get, written_get}
use Rattle.law_rights.proofs.OwedAfterCall.{ending_left, ends_are, owes_are, turns_of}
use Rattle.law_rights.proofs.ReplyFits.{Fits, attaches, fits_reply, forms_lease}
use Rattle.law_rights.proofs.FreeNames.{forms_free, forms_owe}
use Rattle.law_rights.proofs.BindingChanges.{FitsLoose, brings, forms_sum, from_of, given_most, given_transactions, names_weight}
use Rattle.law_rights.proofs.MakersStepping.{counted_at, found_right, is_right}
use Rattle.law_rights.proofs.QueueCounts.{mark_there}
use Rattle.law_rights.proofs.OwedDrawings.{gets_end, gets_more, given_owes, bindings_owe, nothing_owes, owes_at, owes_writes}
use Rattle.law_rights.proofs.PlaceChanges.{Went, brought_held, held_turns, owed_gets}
use Rattle.law_rights.proofs.CallKeepsState.{call_keeps}
use Rattle.law_rights.proofs.StepMoves.{calls_make, calls_write}

cons_apart : {A : Type 0} (x : A) (xs : List A) → x ∷ xs ≡ [] → ⊥
cons_apart x xs same = cc

module _ {B : Type 0} where
  -- what is counted of the rights in bindings
  pub bindings_weight : (w : RightAt → ℕ) (bindings : Bindings B) → sum_by w (places_held (parts_of bindings)) ≡ names_weight w bindings + sum_by w (flat_map places_in bindings.transactions)
  bindings_weight w bindings = sum_by-append w (flat_map place_of bindings.names) (flat_map places_in bindings.transactions)

  -- what a call brings was in the bindings
  forms_brought : (pictures : ℕ → Picture) (s : Step) (before taken : Bindings B) (asking : Asking B) → FormsCall pictures s before taken asking → AreIn (brings asking) (places_held (parts_of before))
  forms_brought pictures s before taken asking forms right there =
      let counts = counted_at right (brings asking) there in
      let sum = (forms_sum (is_right right) pictures s before taken asking forms).names in
      Contains-append_left (flat_map place_of before.names) (flat_map places_in before.transactions) right
      (found_right right (flat_map place_of before.names) (omega (arith, counts, sum)))

  -- what bindings hold after a call's tokens were taken out and others put in
  pub forms_then : (w : RightAt → ℕ) (pictures : ℕ → Picture) (s : Step) (before taken after : Bindings B) (asking : Asking B) (given : Gives B) (spare : Option PermitView) → FormsCall pictures s before taken asking
      → FitsLoose asking.homes (from_of asking) asking.call given → after ≡ with_spare (placed asking.homes taken given) spare
      → sum_by w (places_held (parts_of after)) + sum_by w (brings asking) ≤ sum_by w (places_held (parts_of before)) + sum_by w (given_at (from_of asking) asking.call given)
  forms_then w pictures s before taken after asking given spare forms fits same =
      let sum = forms_sum w pictures s before taken asking forms in
      let names = sum.names in
      let most = given_most w asking.homes taken (from_of asking) asking.call given spare fits in
      let a = bindings_weight w before in
      let b = bindings_weight w after in
      let c = ap (names_weight w) same in
      let d = ap (λ (bindings : Bindings B). sum_by w (flat_map places_in bindings.transactions)) same in
      let e = ap (λ xs. sum_by w (flat_map places_in xs)) (given_transactions asking.homes taken given spare) in
      let f = ap (λ xs. sum_by w (flat_map places_in xs)) sum.transactions in
      omega (arith, names, most, a, b, c, d, e, f)

module _ {B : Type 0} (pictures : ℕ → Picture) (home : DeskHome) (place : ℕ) (s : Step) (came_to : Tried) (before after : Bindings B) (old new : State B) (tries : TriesIn pictures home place s came_to before after old new) where
  abbrev pub by : ℕ
  by = before.by.0

  abbrev pub number : ℕ
  number = length tries.was.trace + 1

  -- from this view on, which knows the calls, the turns and the arrivals of the old state, a call was made
  pub record FromHere (from : DeskView B) : Type 0 where
    pub calls : from.calls ≡ old.view.calls
    pub leaves : from.turns.leaves ≡ old.view.turns.leaves
    pub arrivals : from.arrivals ≡ old.view.arrivals

  calls_once : (from : DeskView B) (asking : Asking B) (reply : QReply B) (taken called : Bindings B) → FromHere from → Calls home by number asking taken called from new.view reply → CallsOnce home.marks old.view.calls new.view.calls by asking.queue.0 number asking.call reply
  calls_once from asking reply taken called here made = record {
    apart = tries.apart;
    there = is_there;
    newest = newest;
    others = others;
    replied = replied;
  }
    where
      queue : ℕ
      queue = asking.queue.0

      ended : new.view.calls ≡ made.made_view.calls
      ended = (ending_left reply.ends made.made_view new.view made.ends).1

      earlier : made.made.earlier ≡ old.view.calls queue
      earlier = made.made.alone tries.exact ∙ ap (λ (calls : ℕ → List (Made B)). calls queue) here.calls

      newest : new.view.calls queue ≡ entry by (number, asking.call) reply ∷ old.view.calls queue
      newest = ap (λ (calls : ℕ → List (Made B)). calls queue) ended ∙ made.made.newest ∙ ap (λ (calls : List (Made B)). entry by (number, asking.call) reply ∷ calls) earlier

      others : (other : ℕ) → other ≢ queue → new.view.calls other ≡ old.view.calls other
      others other apart = ap (λ (calls : ℕ → List (Made B)). calls other) ended ∙ made.made.changes.others other apart ∙ ap (λ (calls : ℕ → List (Made B)). calls other) here.calls

      legal : IsLegal (Answers (mark_among home.marks queue)) (entry by (number, asking.call) reply ∷ old.view.calls queue)
      legal = subst (IsLegal (Answers (mark_among home.marks queue))) (made.made.newest ∙ ap (λ (calls : List (Made B)). entry by (number, asking.call) reply ∷ calls) earlier) made.made.legal

      replied : Replied (mark_among home.marks queue) (old.view.calls queue) by asking.call reply
      replied = legal.0

      is_there : list_any (is_queue queue) home.marks ≡ true
      is_there = elim (cases_Bool (has_queue home queue)) [
        | inl met ↦ met
        | inr unmet ↦ absurd (cons_apart (entry by (number, asking.call) reply) (old.view.calls queue) (sym newest ∙ tries.not_called queue unmet))
      ]

  -- what is told of a call that was made
  abbrev pub TellsCall : Type 0
  TellsCall = (queue : ℕ) (asked : QCall B) (reply : QReply B) → CallsOnce home.marks old.view.calls new.view.calls by queue number asked reply
      → (answer : Answered) × (written.written_in tries.is.trace ≡ written.written_in tries.was.trace ++ written.written_by (holdings_of before) s answer)
      × (written.written_by (holdings_of before) s answer ≡ written.written_by (holdings_of before) s (answered.Called (told_reply (mark_among home.marks queue) (old.view.calls queue) by asked)))

  -- a call was made, with tokens out of the bindings, and what the reply gave came into them; something more may be dropped behind it
  pub record CallsFrom (from : DeskView B) (taken called : Bindings B) (asking : Asking B) (reply : QReply B) : Type 0 where
    pub here : FromHere from
    pub forms : FormsCall pictures s before taken asking
    pub unrefused : refusal_of pictures (holdings_of before) s ≡ None
    pub calls : Calls home by number asking taken called from new.view reply
    pub dropped : (w : RightAt → ℕ) → sum_by w (places_held (parts_of after)) ≤ sum_by w (places_held (parts_of called))
    pub owed : Gets (bindings_owe called) [] (bindings_owe after)
    pub tells : TellsCall

  pub call_done : (from : DeskView B) (taken called : Bindings B) (asking : Asking B) (reply : QReply B) → CallsFrom from taken called asking reply → IsLedger (ledger_of old) → Went s before number old new
  call_done from taken called asking reply made is = record {
    ledger = call_keeps old new by asking.queue.0 number asking.call reply step is;
    places = inl (record {
      queue = asking.queue.0;
      asked = asking.call;
      reply = reply;
      from = from_of asking;
      made = record {
        call = step;
        brought = brought;
        held = held;
        owed = λ write there. written_first write (Contains-append_cases (owes_at asking.homes reply.gives) (places_of old).owed write (owes.no_others write there));
      };
      attached = λ stay attached. attaches pictures s before taken asking made.forms (fits.attach attached) stay;
    });
  }
    where
      once : CallsOnce home.marks old.view.calls new.view.calls by asking.queue.0 number asking.call reply
      once = calls_once from asking reply taken called made.here made.calls

      once_old : CallsOnce old.marks old.view.calls new.view.calls by asking.queue.0 number asking.call reply
      once_old = subst (λ (marks : List QueueMark). CallsOnce marks old.view.calls new.view.calls by asking.queue.0 number asking.call reply) (sym tries.marks_old) once

      mark : QueueMark
      mark = mark_among old.marks asking.queue.0

      told : PlainReply
      told = told_reply mark (old.view.calls asking.queue.0) by asking.call

      same_mark : mark_among home.marks asking.queue.0 ≡ mark
      same_mark = ap (λ (marks : List QueueMark). mark_among marks asking.queue.0) (sym tries.marks_old)

      same_queue : mark.queue ≡ asking.queue
      same_queue = let e = (mark_there old.marks asking.queue.0 once_old.there).1 in λ i. record { 0 = e i }

      ended : Gets made.calls.made_view.turns.leaves (turns_of reply.ends) new.view.turns.leaves × (new.view.calls ≡ made.calls.made_view.calls) × (new.view.arrivals ≡ made.calls.made_view.arrivals)
      ended = ending_left reply.ends made.calls.made_view new.view made.calls.ends

      none : tries.sends ≡ []
      none = none_sent pictures home place s came_to before after old new tries
          (ended.2 ∙ ap (λ (view : DeskView B). view.arrivals) made.calls.made.changes.same ∙ made.here.arrivals)

      fits : Fits asking.homes mark.queue asking.call told reply.gives
      fits = fits_reply asking.homes mark.queue asking.call told reply once_old.replied.answer (forms_lease pictures s before taken asking made.forms)

      brought : AreIn (brings asking) (places_out old)
      brought right there = held_there pictures home place s came_to before after old new tries right (forms_brought pictures s before taken asking made.forms right there)

      held : HasAtMost (places_out old ++ given_at (from_of asking) asking.call reply.gives) (brings asking) [] (places_out new)
      held w =
          let all = held_sum pictures home place s came_to before after old new tries w in
          let nothing = ap (λ (xs : List (Arrival ReadLeaseOf)). sum_by w (flat_map places_arrived xs)) none in
          let bindings = forms_then w pictures s before taken called asking reply.gives reply.spare made.forms fits.loose made.calls.bindings in
          let less = made.dropped w in
          let joined = sum_by-append w (places_out old) (given_at (from_of asking) asking.call reply.gives) in
          omega (arith, all, nothing, bindings, less, joined)

      called_owes : Gets (bindings_owe taken) (owes_at asking.homes reply.gives) (bindings_owe called)
      called_owes = subst (λ (bindings : Bindings B). Gets (bindings_owe taken) (owes_at asking.homes reply.gives) (bindings_owe bindings)) (sym made.calls.bindings)
          (elim (forms_free pictures s before taken asking made.forms made.unrefused tries.ranges tries.wide) [
            | inl quiet ↦ nothing_owes asking.homes taken reply.gives reply.spare (quiet.0 mark.queue told reply once_old.replied.answer)
            | inr free ↦ given_owes asking.homes taken reply.gives reply.spare free
          ])

      after_called : (more : List WriteAt) → Gets (bindings_owe taken) more (bindings_owe called) → Gets (bindings_owe taken) more (bindings_owe after)
      after_called more gets = record {
        no_others = λ x there. gets.no_others x (made.owed.no_others x there);
        all = λ x there. made.owed.all x (gets.all x there);
      }

      owes : Gets (places_of old).owed (owes_at asking.homes reply.gives) (places_of new).owed
      owes = owed_get pictures home place s came_to before after old new tries (owes_at asking.homes reply.gives)
          (gets_more (bindings_owe before) (owes_at asking.homes reply.gives) (bindings_owe taken) (bindings_owe after) (forms_owe pictures s before taken asking made.forms) (after_called (owes_at asking.homes reply.gives) called_owes))

      owed : Gets (all_owed old) (owed_by (move_on old.marks old.view.calls by asking.queue.0 asking.call)) (all_owed new)
      owed = subst (λ (more : List Write). Gets (all_owed old) more (all_owed new)) (owes_writes asking.homes reply.gives ∙ owes_are mark.queue asking.call told reply once_old.replied.answer)
          (owed_gets old new (owes_at asking.homes reply.gives) owes)

      written_first : (write : WriteAt) → Contains (owes_at asking.homes reply.gives) write ⊎ Contains (places_of old).owed write → Contains (place_written mark.queue asking.call told ++ (places_of old).owed) write
      written_first write (inl now) = Contains-append_left (place_written mark.queue asking.call told) (places_of old).owed write (fits.owed write now)
      written_first write (inr was) = Contains-append_right (place_written mark.queue asking.call told) (places_of old).owed write was

      left : Gets old.view.turns.leaves (ended_by (move_on old.marks old.view.calls by asking.queue.0 asking.call)) new.view.turns.leaves
      left = subst (λ (xs : List Turn). Gets xs (ended_by (move_on old.marks old.view.calls by asking.queue.0 asking.call)) new.view.turns.leaves)
          (ap (λ (view : DeskView B). view.turns.leaves) made.calls.made.changes.same ∙ made.here.leaves)
          (subst (λ (xs : List Turn). Gets made.calls.made_view.turns.leaves xs new.view.turns.leaves) (ends_are mark.queue asking.call told reply once_old.replied.answer) ended.0)

      tells : (answer : Answered) × (written.written_in tries.is.trace ≡ written.written_in tries.was.trace ++ written.written_by (holdings_of before) s answer)
          × (written.written_by (holdings_of before) s answer ≡ written.written_by (holdings_of before) s (answered.Called (told_reply (mark_among home.marks asking.queue.0) (old.view.calls asking.queue.0) by asking.call)))
      tells = made.tells asking.queue.0 asking.call reply once

      writes : written.written_in tries.is.trace ≡ written.written_in tries.was.trace ++ written_by (move_of mark.queue asking.call told)
      writes =
          tells.1
          ∙ ap (λ (xs : List written.FrameNumber). written.written_in tries.was.trace ++ xs)
          (tells.2 ∙ ap (λ (m : QueueMark). written.written_by (holdings_of before) s (answered.Called (told_reply m (old.view.calls asking.queue.0) by asking.call))) same_mark)
          ∙ ap (λ (xs : List written.FrameNumber). written.written_in tries.was.trace ++ xs) (calls_write pictures s before taken asking mark.queue told made.forms same_queue)

      wrote : Gets (all_written old) (written_by (move_on old.marks old.view.calls by asking.queue.0 asking.call)) (all_written new)
      wrote = written_get pictures home place s came_to before after old new tries (written_by (move_of mark.queue asking.call told))
          (subst (λ (xs : List written.FrameNumber). Gets (written.written_in tries.was.trace) (written_by (move_of mark.queue asking.call told)) xs) (sym writes)
          (gets_end (written.written_in tries.was.trace) (written_by (move_of mark.queue asking.call told))))

      step : CallStep old new by asking.queue.0 number asking.call reply
      step = record {
        marks = tries.marks_new ∙ sym tries.marks_old;
        once = once_old;
        brought = brought_held old (from_of asking) asking.call brought;
        held = held_turns old new (from_of asking) asking.call reply.gives held;
        owed = owed;
        left = left;
        written = wrote;
        unmade = λ buffer there. tries.unmade buffer (calls_make pictures s before taken asking mark.queue told buffer made.forms there);
      }

-- An actor that came back, as a caller of the whole run, tied to it by the stamps of its calls.
use Rattle.std.proofs.Common.{◌≡◌, ℕ, zero, suc, ◌<◌, ◌≤◌, ◌==◌, false, List, [], ◌∷◌, ◌++◌, arith, ap, ◌∙◌, sym, refl, inl, inr, subst, length, map}
use Rattle.std.specs.Prelude.{Contains}
use Rattle.std.specs.List.{AllByRecursion, list_any}
use Rattle.std.proofs.lemmas.Bool.{cases_Bool}
use Rattle.std.proofs.lemmas.List.{append-nil}
use Rattle.std.proofs.lemmas.List.Elements.{Contains-append_left}
use Rattle.atomic_table.specs.Seated.{TableId}
use Rattle.law_draws.specs.sf_calls.declared.object.Entry.{Entry}
use Rattle.law_draws.specs.sf_calls.Histories.{IsLegal, calls_by}
use Rattle.sf_script_scene.specs.sf_picture.declared.picture.Picture.{Picture}
use Rattle.sf_script_scene.specs.Ranges.{IsStep}
use Rattle.sf_script_scene.specs.declared.step.Step.{Step}
use Rattle.sf_live_compositor.specs.sf_calls_stamped.Stamps.{stamp_of, unstamped}
use Rattle.law_draws.specs.sf_surface.declared.mark.QueueMark.{QueueMark}
use Rattle.law_draws.specs.sf_surface.Histories.{Answers, Made}
use Rattle.law_draws.specs.sf_surface.Tokens.{ReadLeaseOf}
use Rattle.law_draws.specs.sf_token.declared.arrivals.ArriveCall.TheVariants as arrive
use Rattle.law_draws.specs.sf_token.Pending.{Arrival}
use Rattle.law_draws.specs.sf_txn.Transactions.{Contents}
use Rattle.law_draws.specs.sf_actor.Desks.{DeskHome, DeskView, mark_among}
use Rattle.law_draws.specs.sf_actor.Plain.{PlainOf, home_of as plain_home, view_of as plain_view}
use Rattle.law_draws.specs.sf_actor.Tries.{ActorOf}
use Rattle.law_draws.specs.sf_actor_steps.declared.bindings.Bindings.{Bindings}
use Rattle.law_draws.specs.sf_actor_steps.declared.tried.Tried.{Tried}
use Rattle.sf_live_compositor.specs.sf_live_seats.declared.first.FirstSeats.{FirstSeats}
use Rattle.sf_live_compositor.specs.sf_live_seats.declared.locks.Locks.{Locks}
use Rattle.sf_live_compositor.specs.sf_live_seats.declared.seats.Seats.{Seats}
use Rattle.sf_live_compositor.specs.sf_live_seats.Arriving.{ArrivalCalls, ArrivalEntry, Arrived, Arriving}
use Rattle.sf_live_compositor.specs.sf_live_seats.Closing.{Closes, IsOrdered}
use Rattle.sf_live_compositor.specs.sf_live_seats.First.{KnowsNothing}
use Rattle.sf_live_compositor.specs.sf_live_seats.Reuniting.{SendsAfter}
use Rattle.sf_live_compositor.proofs.sf_live_seats_lemmas.IntakeHands.{none_arrived}
use Rattle.sf_live_compositor.specs.sf_live_seats.Seats.{AreSeats, QueuePass, calls_known, calls_made, is_at, marks_of, moment, moments_of, post_moment, posts_of, sent_in, takes_in, view_of}
use Rattle.sf_live_compositor.specs.sf_live_threads.Walks.{IsSound, Moment, Walk}
use Rattle.law_draws.specs.law_rights.States.{AreApart, State}
use Rattle.law_threads.specs.Cuts.{HasLedger, MakesAt, many_of}
use Rattle.law_threads.specs.Lifts.{Comes, local_of}
use Rattle.law_threads.specs.Orders.{Spot}
use Rattle.law_threads.specs.Orders as orders
use Rattle.law_threads.specs.Tries.{DoesTry}
use Rattle.law_threads.proofs.Arrivals.{NoTakes, firsts, mine_firsts, own_many, sent_own}
use Rattle.law_threads.proofs.ArrivalEvents.{goes_forward}
use Rattle.law_threads.proofs.AllCallers.{IsMember, Member, rest_member}
use Rattle.law_threads.proofs.LedgerViews.{RestsKept, ledger_gives, ledger_goes}
use Rattle.law_threads.proofs.TryOutcomes.{comes}
use Rattle.law_threads.proofs.CallCounts.{IsAt, mine_without}
use Rattle.law_threads.proofs.FirstAndLastStates.{not_called}
use Rattle.law_threads.proofs.Pieces.{SendsArrive, known_in, post_of}
use Rattle.law_threads.proofs.ReturnedSeats.{AtJoin, all_send}
use Rattle.law_threads.proofs.CallStamps.{IsStampedAt, by_there, known_seen, made_there, no_takes, seen_rise, stamp_there, stamped_at, stamps_rise, unstamped_length}
use Rattle.law_threads.proofs.WalkPieces.{IsBehind, walked}
use Rattle.law_threads.proofs.WalkBlocks.{Front}
use Rattle.law_threads.specs.Members.{stamps, mine, seen_at, stamp_in, total_in, whole_of}

-- a call that sends is of one step
one_step : (asked : Arriving) (n m : ℕ) (one other : Contents ReadLeaseOf) → asked ≡ arrive.Send n one → asked ≡ arrive.Send m other → n ≡ m
one_step asked n m one other is is_other = cc

module _ {B : Type 0} where
  -- no call of a queue is known where none is
  pub none_known : (queue : ℕ) (passes : List (QueuePass B)) → AllByRecursion (λ (pass : QueuePass B). pass.seen ≡ []) passes → calls_known passes queue ≡ []
  none_known queue [] none = refl
  none_known queue (pass ∷ passes) none = elim (cases_Bool (is_at queue pass)) [
    | inl met ↦ rw met (ap unstamped none.0)
    | inr unmet ↦ rw unmet (none_known queue passes none.1)
  ]

  -- nor is any call of the caller
  pub nothing_known : (desk : PlainOf B) (by : ℕ) (seats : Seats B) → KnowsNothing seats → (lock place : ℕ) → known_in (whole_of desk) by (view_of seats) lock place ≡ 0
  nothing_known desk by seats nothing zero place =
      ap (λ (arrivals : List (Arrival ReadLeaseOf)). mine by place (firsts by (length (sent_own by arrivals)) desk.arrivals)) (none_arrived seats nothing)
      ∙ ap (λ (calls : ArrivalCalls). mine by place (firsts by 0 calls)) (sym (append-nil desk.arrivals)) ∙ mine_firsts by place desk.arrivals []
  nothing_known desk by seats nothing (suc queue) place = ap (mine by place) (none_known queue seats.queues.items nothing.queues)

module _ {B : Type 0} (table : TableId) (locks : Locks B) (first : FirstSeats B) (desk : PlainOf B) (closes : Closes locks first desk) (ordered : IsOrdered first) (own_first : AreSeats table locks first.seats) where
  abbrev stamps_here : Spot → ℕ
  stamps_here = stamps first

  pub calls_are : (queue : ℕ) → (plain_view desk).calls queue ≡ unstamped (seen_at queue first.seats.queues.items)
  calls_are queue = closes.calls queue ∙ known_seen queue first.seats.queues.items

  pub all_rise : orders.StampsRise stamps_here (many_of (whole_of desk))
  all_rise zero early late less low =
      let many = ap (λ es. length es) closes.arrived ∙ unstamped_length first.seats.arrivals.seen in
      stamps_rise first.seats.arrivals.seen ordered.arrivals early late less (omega (arith, low, many))
  all_rise (suc queue) early late less low =
      let many = ap (λ (es : List (Made B)). length es) (calls_are queue) ∙ unstamped_length (seen_at queue first.seats.queues.items) in
      stamps_rise (seen_at queue first.seats.queues.items) (seen_rise queue first.seats.queues.items ordered.queues) early late less (omega (arith, low, many))

  -- a caller whose seats were taken in made its calls in order
  module _ (seats : Seats B) (own : AreSeats table locks seats) (join : AtJoin locks first desk seats) where
    abbrev pub MadeAt : Spot → ℕ → Type 0
    MadeAt here n = Contains (moments_of seats) (n, stamps_here here)

    pub in_order : (here there : Spot) (n m : ℕ) → MadeAt here n → MadeAt there m → n < m → stamps_here here ≤ stamps_here there
    in_order here there n m one other less = let rise = own.in_order.rise (n, stamps_here here) (m, stamps_here there) one other less in omega (arith, rise)

    pub told : (queue : ℕ) (made : Made B) (earlier : List (Made B)) → IsAt ((plain_view desk).calls queue) (length earlier) made earlier → made.by ≡ seats.by → MadeAt (suc queue, length earlier) made.call.0
    told queue made earlier at by_it =
        subst (λ (m : ℕ × ℕ). Contains (moments_of seats) m) same
        (Contains-append_left (calls_made seats.by seats.queues.items) (sent_in (calls_by seats.by seats.arrivals.seen) ++ map post_moment (posts_of seats.intake)) (moment found.e)
        (made_there queue seats.by first.seats.by locks.queues.items first.seats.queues.items seats.queues.items own_first.queues own.queues join.queues_on found.more found.e found.before found.is (ap (λ (m : Made B). m.by) found.without ∙ by_it)))
      where
        found : IsStampedAt (seen_at queue first.seats.queues.items) made earlier
        found = stamped_at (seen_at queue first.seats.queues.items) at.more made earlier (sym (calls_are queue) ∙ at.is)

        stamp_is : stamp_of found.e ≡ stamp_in (length earlier) (seen_at queue first.seats.queues.items)
        stamp_is = sym (stamp_there found.more found.e found.before) ∙ ap (λ (n : ℕ). stamp_in n (found.more ++ found.e ∷ found.before)) found.height ∙ ap (stamp_in (length earlier)) (sym found.is)

        same : moment found.e ≡ (made.call.0, stamp_in (length earlier) (seen_at queue first.seats.queues.items))
        same = λ i. ((ap (λ (m : Made B). m.call.0) found.without) i, stamp_is i)

    -- those on the arrivals send, above its calls of the steps before
    sent_above : (more history : ArrivalCalls) (e : Entry Arriving Arrived) → desk.arrivals ≡ more ++ e ∷ history → e.by ≡ seats.by → (step : ℕ) (txn : Contents ReadLeaseOf) → e.call ≡ arrive.Send step txn
        → (there : Spot) (n : ℕ) → MadeAt there n → n < step → stamps_here there ≤ stamps_here (0, length history)
    sent_above more history e is by_it step txn sends spot n at less =
        let above = after.above (n, stamps_here spot) at (subst (λ (m : ℕ). n < m) same_step less) in
        let same = stamp_is in
        omega (arith, above, same)
      where
        found : IsStampedAt first.seats.arrivals.seen e history
        found = stamped_at first.seats.arrivals.seen more e history (sym closes.arrived ∙ is)

        there : Contains (calls_by seats.by join.reunited.arrivals.seen) found.e
        there = subst (λ (es : List ArrivalEntry). Contains es found.e) join.arrivals_on.calls
            (subst (λ (es : List ArrivalEntry). Contains (calls_by seats.by es) found.e) (sym found.is) (by_there seats.by found.more found.e found.before (ap (λ e. e.by) found.without ∙ by_it)))

        after : SendsAfter seats found.e
        after = join.reunites.sends join.other found.e there

        same_step : step ≡ after.step
        same_step = one_step e.call step after.step txn after.txn sends (sym (ap (λ e. e.call) found.without) ∙ after.sends)

        stamp_is : stamp_of found.e ≡ stamp_in (length history) first.seats.arrivals.seen
        stamp_is = sym (stamp_there found.more found.e found.before) ∙ ap (λ (m : ℕ). stamp_in m (found.more ++ found.e ∷ found.before)) found.height ∙ ap (stamp_in (length history)) (sym found.is)

    -- it takes nothing
    pub none_taken : NoTakes seats.by desk.arrivals
    none_taken = subst (NoTakes seats.by) (sym closes.arrived)
        (no_takes seats.by first.seats.arrivals.seen (ap (λ (es : List ArrivalEntry). takes_in es) join.arrivals_on.calls
        ∙ all_send (calls_by seats.by join.reunited.arrivals.seen) (λ e there. let after = join.reunites.sends join.other e there in (after.step, after.txn, after.sends))))

    -- what it sent is put among the arrivals by its calls there
    pub arrive_all : (Holds : State B → Type 0) → RestsKept (whole_of desk) Holds → SendsArrive (whole_of desk) Holds seats.by stamps_here MadeAt
    arrive_all Holds rests = record {
      none_taken = none_taken;
      forward = λ more history e is step txn sends. goes_forward (whole_of desk) Holds rests more history e is step txn sends;
      rise = λ early late less low. all_rise 0 early late less low;
      above = sent_above;
    }

    -- what its seats knew of its calls is all
    pub known_all : (lock place : ℕ) → known_in (whole_of desk) seats.by (view_of seats) lock place ≡ total_in (whole_of desk) seats.by lock place
    known_all zero place =
        ap (λ (n : ℕ). mine seats.by place (firsts seats.by n desk.arrivals)) (ap (λ (xs : List (Arrival ReadLeaseOf)). length xs) (sym join.sent_on) ∙ own_many seats.by desk.arrivals none_taken)
        ∙ mine_firsts seats.by place [] desk.arrivals
    known_all (suc queue) place = sym (mine_without seats.by place ((view_of seats).calls queue) ((plain_view desk).calls queue) (join.calls_on queue))

  module _ (apart : AreApart (marks_of locks)) (legal : (queue : ℕ) → IsLegal (Answers (mark_among (marks_of locks) queue)) ((plain_view desk).calls queue)) (pictures : ℕ → Picture) where
    marks_are : (plain_home desk).marks ≡ marks_of locks
    marks_are = closes.marks

    pub absent : (queue : ℕ) → list_any (λ (mark : QueueMark). mark.queue.0 == queue) (marks_of locks) ≡ false → (plain_view desk).calls queue ≡ []
    absent queue none = not_called desk.queues queue (ap (λ (ms : List QueueMark). list_any (λ (mark : QueueMark). mark.queue.0 == queue) ms) closes.marks ∙ none)

    -- each try that is done, of whichever actor, is lifted
    abbrev pub LiftsAll : (State B → Type 0) → Type 0
    LiftsAll Holds =
        (home : DeskHome) → home.marks ≡ marks_of locks → (was is : ActorOf B) (before after : Bindings B) (old new : DeskView B) → ((queue : ℕ) → Front (new.calls queue) ((plain_view desk).calls queue))
        → (s : Step) (came_to : Tried) → DoesTry pictures home was is s before after old new came_to → Comes (whole_of desk) Holds before.by.0 was is old new

    module _ (home : DeskHome) (same : home.marks ≡ marks_of locks) where
      pub marks_home : (plain_home desk).marks ≡ home.marks
      marks_home = closes.marks ∙ sym same

      pub apart_home : AreApart home.marks
      apart_home = subst AreApart (sym same) apart

      pub absent_home : (queue : ℕ) → list_any (λ (mark : QueueMark). mark.queue.0 == queue) home.marks ≡ false → (plain_view desk).calls queue ≡ []
      absent_home queue none = absent queue (ap (λ (ms : List QueueMark). list_any (λ (mark : QueueMark). mark.queue.0 == queue) ms) (sym same) ∙ none)

      pub legal_home : (queue : ℕ) → IsLegal (Answers (mark_among home.marks queue)) ((plain_view desk).calls queue)
      legal_home queue = subst (λ (ms : List QueueMark). IsLegal (Answers (mark_among ms queue)) ((plain_view desk).calls queue)) (sym same) (legal queue)

    pub ledger_lifted : LiftsAll HasLedger
    ledger_lifted home same was is before after old new begins s came_to tries =
        comes (whole_of desk) pictures home (marks_home home same) (apart_home home same) (absent_home home same) (legal_home home same) was is before after old new begins HasLedger
        (λ next to does. ledger_goes (whole_of desk) was is next before) (ledger_gives (whole_of desk)) s came_to tries

    -- an actor that came back, as a caller of the whole run
    module _ (Holds : State B → Type 0) (lifted : LiftsAll Holds) (rests : RestsKept (whole_of desk) Holds) (start end : Moment B) (walk : Walk table pictures locks start end) (sound : IsSound table pictures locks start) (own : AreSeats table locks end.seats) (served : end.seats.by ≡ start.of.script.number)
        (ranges : (s : Step) → Contains start.of.script.steps s → IsStep s) (nothing : KnowsNothing start.seats)
        (join : AtJoin locks first desk end.seats)
        (owner : (number queue place : ℕ) → Contains start.of.stock number → (makes : MakesAt (whole_of desk) number queue place) → makes.made.by ≡ end.seats.by) where
      pub behind : IsBehind (whole_of desk) table pictures locks closes.marks apart absent legal Holds lifted end.seats.by start.of.stock start.of.script (sym served) ranges owner stamps_here
          (MadeAt end.seats own join) (in_order end.seats own join) (told end.seats own join) (arrive_all end.seats own join Holds rests) start (local_of end.of [] (view_of end.seats).turns.leaves)
      behind = walked (whole_of desk) table pictures locks closes.marks apart absent legal Holds lifted end.seats.by start.of.stock start.of.script (sym served) ranges owner stamps_here
          (MadeAt end.seats own join) (in_order end.seats own join) (told end.seats own join) (arrive_all end.seats own join Holds rests) start end walk sound
          (record { script_is = refl; stock_is = refl })
          (record {
            calls = λ queue. (join.calls_on queue).begins;
            later = [];
            arrives = join.sent_on ∙ sym (append-nil (sent_own end.seats.by (view_of end.seats).arrivals));
          })
          (known_all end.seats own join)

      abbrev pub member : Member B
      member = record { by = end.seats.by; rest = behind.rest; first = local_of start.of [] (view_of start.seats).turns.leaves; last = local_of end.of [] (view_of end.seats).turns.leaves }

      pub is_member : IsMember (whole_of desk) Holds stamps_here member
      is_member = rest_member (whole_of desk) Holds stamps_here (MadeAt end.seats own join) (in_order end.seats own join) end.seats.by
          (post_of (whole_of desk) end.seats.by start.of (view_of start.seats)) behind.rest (local_of end.of [] (view_of end.seats).turns.leaves)
          (λ here. nothing_known desk end.seats.by start.seats nothing here.0 here.1) behind.behind

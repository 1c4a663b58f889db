-- A transaction that is sent through one pass.
use Rattle.std.proofs.Common.{◌≡◌, ℕ, ◌+◌, ◌≤◌, List, [], ◌∷◌, ◌++◌, length, arith, ap, ◌∙◌, sym, refl, subst, Some}
use Rattle.std.specs.Prelude.{Err, IfErr, IfOk, None, Ok, Result, is_none, map}
use Rattle.atomic_table.specs.Seated.{TableId}
use Rattle.std.proofs.Math.Nat.{le-max_left}
use Rattle.std.proofs.lemmas.Bool.{false≢true}
use Rattle.sf_calls.specs.Calling.{Made as Does}
use Rattle.sf_calls.specs.Histories.{Begins, IsLegal, calls_by, entry}
use Rattle.sf_calls.specs.Passes.{HasMark}
use Rattle.sf_calls_stamped.specs.Stamps.{AnswersStamped, newest_stamp, unstamped}
use Rattle.sf_actor.specs.sf_surface.Tokens.{ReadLeaseOf}
use Rattle.sf_intake.specs.sf_token.Arrivals.{AnswersCall, sent}
use Rattle.sf_intake.specs.sf_token.declared.arrivals.ArriveCall.TheVariants as arrive
use Rattle.sf_intake.specs.sf_token.declared.arrivals.ArriveReply.TheVariants as reply
use Rattle.sf_intake.specs.sf_txn.Transactions.{Contents}
use Rattle.sf_intake.specs.sf_token.Pending.{Arrival}
use Rattle.sf_actor.specs.Desks.{IsAsBefore, MadeSend}
use Rattle.sf_actor.specs.Known.{ArriveWithout, number_told}
use Rattle.sf_live_seats.specs.declared.at_intake.AtIntake.TheVariants as at
use Rattle.sf_live_seats.specs.declared.clock.Clock.{Clock}
use Rattle.sf_live_seats.specs.declared.locks.Locks.{Locks}
use Rattle.sf_live_seats.specs.declared.seats.Seats.{Seats}
use Rattle.sf_live_seats.specs.Arriving.{ArrivalEntry, ArrivalsPass, Arrived, Arriving}
use Rattle.sf_live_seats.specs.Calls.{IsMade, SentOne, Ticks}
use Rattle.sf_live_seats.specs.Moves.{ChangesArrivals}
use Rattle.sf_live_seats.specs.Seats.{AreSeats, IsAtIntake, arrivals_known, calls_made, home_of, pass_at, post_moment, posts_of, sent_in, takes_in, view_of}
use Rattle.sf_live_seats.proofs.IntakeHands.{none_there}
use Rattle.sf_live_seats.proofs.CallOrder.{later_sent, order_sent, stamp_rises, ticks_with}
use Rattle.sf_live_seats.proofs.CallsOfOthers.{before_newest, goes_unstamped, sent_goes}

abbrev Sends : ArrivalsPass → ArrivalsPass → ℕ × Arriving → ℕ × Arrived → Type 0
Sends v w asked given = (m : Unit {0}) → HasMark v m → Does (λ m. AnswersStamped AnswersCall) m v asked given w × Unit {0}

pub sent_one : (v w : ArrivalsPass) (brought given step : ℕ) (txn : Contents ReadLeaseOf) (answer : Arrived) (number : ℕ) → v.mark ≡ Some tt → answer ≡ reply.Number number → Sends v w (brought, arrive.Send step txn) (given, answer) → SentOne v w step txn number
sent_one v w brought given step txn answer number marked is sends =
    let made = (subst (λ (a : Arrived). Sends v w (brought, arrive.Send step txn) (given, a)) is sends tt marked).0 in
    let before = made.newest.0 in
    let legal = subst (λ (log : List ArrivalEntry). IsLegal (AnswersStamped AnswersCall) log) made.newest.1 made.legal in
    let place : number ≡ length (sent (unstamped before)) + 1 = legal.0.1 in
    record {
      earlier = sent (unstamped before);
      last = ap (λ (log : List ArrivalEntry). sent (unstamped log)) made.newest.1;
      place = place;
      goes_on =
          sent_goes v.by (unstamped v.seen) (unstamped before)
          (goes_unstamped v.by v.seen before
          (before_newest v.by v.seen w.seen before (entry v.by (brought, arrive.Send step txn) (given, reply.Number number)) refl made.newest.1 made.begins made.own));
    }

-- it has a stamp above that of its caller's last call, and takes nothing
pub made_sent : (v w : ArrivalsPass) (before : Clock) (given step : ℕ) (txn : Contents ReadLeaseOf) (answer : Arrived) → v.mark ≡ Some tt → before.step ≤ step → Sends v w (before.stamp, arrive.Send step txn) (given, answer)
    → IsMade before (record { step = step; stamp = given }) (sent_in (calls_by v.by v.seen)) (sent_in (calls_by v.by w.seen))
made_sent v w before given step txn answer marked later sends =
    let made = (sends tt marked).0 in
    let legal = subst (λ (log : List ArrivalEntry). IsLegal (AnswersStamped AnswersCall) log) made.newest.1 made.legal in
    let above = legal.0.0 in
    let up = le-max_left before.stamp (newest_stamp made.newest.0) in
    record { step = later; stamp = omega (arith, above, up); moments = ap sent_in made.own }

pub none_taken : (v w : ArrivalsPass) (brought given step : ℕ) (txn : Contents ReadLeaseOf) (answer : Arrived) → v.mark ≡ Some tt → Sends v w (brought, arrive.Send step txn) (given, answer)
    → takes_in (calls_by v.by w.seen) ≡ takes_in (calls_by v.by v.seen)
none_taken v w brought given step txn answer marked sends = ap takes_in (sends tt marked).0.own

-- a desk of a caller's seats, under locks without an intake, sent what its pass sent
pub made_send : {B X : Type 0} (seats : Seats B) (new shown : ArrivalsPass) (last : Clock) (locks : Locks B) (step : ℕ) (txn : Contents ReadLeaseOf) (result : Result ℕ X) → shown ≡ new → seats.arrivals.by ≡ seats.by → locks.intake ≡ None → seats.intake ≡ at.Nothing
    → seats.arrivals.turns ≤ new.turns → IfOk result (SentOne seats.arrivals new step txn)
    → IfOk result (MadeSend (home_of locks seats) (view_of seats) (view_of (record seats { arrivals = shown; pass = Some new; last = last })) seats.by step txn)
made_send seats new shown last locks step txn (Err x) is number none nothing turns made = tt
made_send seats new shown last locks step txn (Ok place) is number none nothing turns made =
    let known : (seen : List ArrivalEntry) → arrivals_known seats.intake seen ≡ sent (unstamped seen) = λ seen. ap (λ at_intake. arrivals_known at_intake seen) nothing in
    subst (λ (p : ArrivalsPass). MadeSend (home_of locks seats) (view_of seats) (view_of (record seats { arrivals = p; pass = Some new; last = last })) seats.by step txn place) (sym is) (record {
      same = refl;
      earlier = made.earlier;
      last = known new.seen ∙ made.last ∙ ap (λ (b : ℕ). made.earlier ++ record { number = length made.earlier + 1; actor = record { 0 = b }; step = step; txn = txn } ∷ []) number;
      told = made.place ∙ ap (λ z. number_told (is_none z) (length made.earlier + 1)) (sym none);
      untold = λ untold. absurd (false≢true (sym untold ∙ ap is_none none));
      goes_on = subst (λ (list : List (Arrival ReadLeaseOf)). ArriveWithout seats.by list made.earlier) (sym (known seats.arrivals.seen))
          (subst (λ (b : ℕ). ArriveWithout b (sent (unstamped seats.arrivals.seen)) made.earlier) number made.goes_on);
      alone = λ exact. absurd (false≢true exact);
      locked = omega (arith, turns);
    })

-- a refusal leaves what is known
pub not_sent : {B X : Type 0} (seats : Seats B) (new shown : ArrivalsPass) (last : Clock) (step : ℕ) (txn : Contents ReadLeaseOf) (result : Result ℕ (X × Contents ReadLeaseOf)) → shown ≡ new
    → IfErr result (λ back. (back.1 ≡ txn) × (new ≡ seats.arrivals))
    → IfErr result (λ back. (back.1 ≡ txn) × IsAsBefore (view_of seats) (view_of (record seats { arrivals = shown; pass = Some new; last = last })))
not_sent seats new shown last step txn (Ok place) is back = tt
not_sent seats new shown last step txn (Err x) is back = (
  back.0,
  subst (λ (p : ArrivalsPass). IsAsBefore (view_of seats) (view_of (record seats { arrivals = p; pass = Some new; last = last }))) (sym (is ∙ back.1)) refl,
)

-- what a call through a pass at the arrivals tells that sends, or is refused
pub record PassSends (old new : ArrivalsPass) (before after : Clock) : Type 0 where
  pub same : new ≡ record old { seen = new.seen; turns = new.turns }
  pub turns : old.turns ≤ new.turns
  pub begins : Begins old.seen new.seen
  pub ticks : Ticks before after (sent_in (calls_by old.by old.seen)) (sent_in (calls_by old.by new.seen))
  pub takes : takes_in (calls_by old.by new.seen) ≡ takes_in (calls_by old.by old.seen)

module _ {B : Type 0} (buffers : TableId) (locks : Locks B) (seats : Seats B) (new shown : ArrivalsPass) (last : Clock) (own : AreSeats buffers locks seats) (none : locks.intake ≡ None) (sends : PassSends seats.arrivals new seats.last last) (is : shown ≡ new) where
  abbrev sent_seats : ArrivalsPass → Seats B
  sent_seats p = record seats { arrivals = p; pass = Some new; last = last }

  nothing : seats.intake ≡ at.Nothing
  nothing = none_there locks seats.by seats.arrivals.gave seats.last seats.intake none own.way

  abbrev calls : List (ℕ × ℕ)
  calls = calls_made seats.by seats.queues.items

  abbrev posts : List (ℕ × ℕ)
  posts = map post_moment (posts_of seats.intake)

  ticks : Ticks seats.last last (sent_in (calls_by seats.by seats.arrivals.seen) ++ posts) (sent_in (calls_by seats.by new.seen) ++ posts)
  ticks = ticks_with seats.last last (sent_in (calls_by seats.by seats.arrivals.seen)) (sent_in (calls_by seats.by new.seen)) posts
      (subst (λ (b : ℕ). Ticks seats.last last (sent_in (calls_by b seats.arrivals.seen)) (sent_in (calls_by b new.seen))) own.number sends.ticks)

  pub locked_own : AreSeats buffers locks (sent_seats shown)
  locked_own = subst (λ (p : ArrivalsPass). AreSeats buffers locks (sent_seats p)) (sym is) (record {
    queues = own.queues;
    own_arrivals = ap (λ (p : ArrivalsPass). p.table) sends.same ∙ own.own_arrivals;
    marked = ap (λ (p : ArrivalsPass). p.mark) sends.same ∙ own.marked;
    number = ap (λ (p : ArrivalsPass). p.by) sends.same ∙ own.number;
    own_times = own.own_times;
    own_turns = own.own_turns;
    in_order = order_sent seats.last last calls (sent_in (calls_by seats.by seats.arrivals.seen) ++ posts) (sent_in (calls_by seats.by new.seen) ++ posts) own.in_order ticks;
    takes = λ other. subst (λ (b : ℕ). takes_in (calls_by b new.seen) ≡ takes_in (calls_by b seats.arrivals.seen)) own.number sends.takes ∙ own.takes other;
    pass = sym (ap (λ at_intake. pass_at at_intake new) nothing);
    way = subst (λ at_intake. IsAtIntake locks seats.by new.gave last at_intake) (sym nothing) none;
  })

  pub locked_changes : ChangesArrivals seats (sent_seats shown)
  locked_changes = subst (λ (p : ArrivalsPass). ChangesArrivals seats (sent_seats p)) (sym is) (record {
    same = refl;
    pass = sends.same;
    begins = sends.begins;
    last = stamp_rises seats.last last _ _ ticks;
    later = later_sent seats.last last calls (sent_in (calls_by seats.by seats.arrivals.seen) ++ posts) (sent_in (calls_by seats.by new.seen) ++ posts) ticks;
  })

-- the pass that is there
pub there_locked : {B : Type 0} (buffers : TableId) (locks : Locks B) (seats : Seats B) → AreSeats buffers locks seats → locks.intake ≡ None → seats.pass ≡ Some seats.arrivals
there_locked buffers locks seats own none = own.pass ∙ ap (λ at_intake. pass_at at_intake seats.arrivals) (none_there locks seats.by seats.arrivals.gave seats.last seats.intake none own.way)

-- A call of a step through one pass at a queue's lock.
use Rattle.std.proofs.Common.{◌≡◌, ℕ, ◌<◌, ◌≤◌, List, [], ◌∷◌, inl, inr, arith, ap, ◌∙◌, sym, refl, subst}
use Rattle.std.specs.Prelude.{Err, map}
use Rattle.std.proofs.Math.Nat.{le-max_left}
use Rattle.sf_calls.specs.Calling.{IfFaultNoMemory, IfFaultNotYet, Made as Does, Waited}
use Rattle.sf_calls.specs.declared.fault.CallFault.{CallFault}
use Rattle.sf_calls.specs.declared.fault.CallFault.TheVariants as fault
use Rattle.sf_calls.specs.Histories.{GoesOnWithout, IsLegal, calls_by, entry, waits}
use Rattle.sf_calls.specs.Passes.{HasMark}
use Rattle.sf_calls_stamped.specs.Stamps.{AnswersStamped, newest_stamp, unstamped}
use Rattle.sf_calls_stamped.proofs.StampLemmas.{legal_without}
use Rattle.sf_actor.specs.sf_surface.declared.call.QCall.{QCall}
use Rattle.sf_actor.specs.sf_surface.declared.call.QReply.{QReply}
use Rattle.sf_actor.specs.sf_surface.declared.mark.QueueMark.{QueueMark}
use Rattle.sf_actor.specs.sf_surface.Histories.{Answers, Made}
use Rattle.sf_live_seats.specs.declared.clock.Clock.{Clock}
use Rattle.sf_live_seats.specs.declared.locks.QueueLock.{QueueLock}
use Rattle.sf_live_seats.specs.Calls.{Ticks}
use Rattle.sf_live_seats.specs.Moves.{MovesPass}
use Rattle.sf_live_seats.specs.Seats.{IsPassOf, QueueEntry, QueuePass, lock_mark, moment}
use Rattle.sf_live_seats.proofs.CallsOfOthers.{before_newest, goes_unstamped}

module _ {B : Type 0} where
  -- a call was made: it is the newest that is known, and the calls before it go on without one of the caller
  pub record MadeOne (mark : QueueMark) (old new : QueuePass B) (asked : ℕ × QCall B) (reply : QReply B) : Type 0 where
    pub legal : IsLegal (Answers mark) (unstamped new.seen)
    pub earlier : List (Made B)
    pub newest : unstamped new.seen ≡ entry old.by asked reply ∷ earlier
    pub goes_on : GoesOnWithout old.by (unstamped old.seen) earlier

  -- a call was not made: it is not time for it after the calls that are known, which go on without one of the caller
  pub record WaitsOne (mark : QueueMark) (old new : QueuePass B) (asked : ℕ × QCall B) : Type 0 where
    pub legal : IsLegal (Answers mark) (unstamped new.seen)
    pub goes_on : GoesOnWithout old.by (unstamped old.seen) (unstamped new.seen)
    pub not_yet : Answers mark (unstamped new.seen) old.by asked waits
    pub looked : old.turns < new.turns

  -- what a call, made or not, leaves of the pass and of its caller's clock
  pub record IsPassed (lock : QueueLock B) (one next : QueuePass B) (before after : Clock) : Type 0 where
    pub still : IsPassOf one.by lock next
    pub moves : MovesPass one next
    pub turns : one.turns ≤ next.turns
    pub ticks : Ticks before after (map moment (calls_by one.by one.seen)) (map moment (calls_by one.by next.seen))

  pub made_one : (mark : QueueMark) (v w : QueuePass B) (brought given : ℕ) (asked : ℕ × QCall B) (reply : QReply B) → Does (λ m. AnswersStamped (Answers m)) mark v (brought, asked) (given, reply) w → MadeOne mark v w asked reply
  made_one mark v w brought given asked reply made = record {
    legal = (legal_without (Answers mark) w.seen made.legal).0;
    earlier = unstamped made.newest.0;
    newest = ap unstamped made.newest.1;
    goes_on = goes_unstamped v.by v.seen made.newest.0 (before_newest v.by v.seen w.seen made.newest.0 (entry v.by (brought, asked) (given, reply)) refl made.newest.1 made.begins made.own);
  }

  pub waits_one : (mark : QueueMark) (v w : QueuePass B) (brought : ℕ) (asked : ℕ × QCall B) → Waited (λ m. AnswersStamped (Answers m)) mark v (brought, asked) w → WaitsOne mark v w asked
  waits_one mark v w brought asked waited = record {
    legal = (legal_without (Answers mark) w.seen waited.legal).0;
    goes_on = goes_unstamped v.by v.seen w.seen (record { begins = waited.begins; calls = waited.own });
    not_yet = waited.not_yet;
    looked = (let t = waited.turn in omega (arith, t));
  }

  still_of : (lock : QueueLock B) (one next : QueuePass B) → IsPassOf one.by lock one → next ≡ record one { seen = next.seen; turns = next.turns } → IsPassOf one.by lock next
  still_of lock one next own same = record {
    own = ap (λ (p : QueuePass B). p.table) same ∙ own.own;
    number = ap (λ (p : QueuePass B). p.by) same;
    marked = ap (λ (p : QueuePass B). p.mark) same ∙ own.marked;
    numbered = own.numbered;
  }

  -- a call that was made has a stamp above that of its caller's last one
  pub made_passed : (lock : QueueLock B) (one next : QueuePass B) (before : Clock) (step given : ℕ) (call : QCall B) (reply : QReply B) → IsPassOf one.by lock one → next ≡ record one { seen = next.seen; turns = next.turns } → before.step ≤ step
      → Does (λ m. AnswersStamped (Answers m)) (lock_mark lock) one (before.stamp, (step, call)) (given, reply) next → IsPassed lock one next before (record { step = step; stamp = given })
  made_passed lock one next before step given call reply own same later made =
      let legal = subst (λ (log : List (QueueEntry B)). IsLegal (AnswersStamped (Answers (lock_mark lock))) log) made.newest.1 made.legal in
      let above = legal.0.0 in
      let up = le-max_left before.stamp (newest_stamp made.newest.0) in
      record {
        still = still_of lock one next own same;
        moves = record { same = same; begins = made.begins };
        turns = (let t = made.turn in omega (arith, t));
        ticks = inl (record { step = later; stamp = omega (arith, above, up); moments = ap (map moment) made.own });
      }

  pub waits_passed : (lock : QueueLock B) (one next : QueuePass B) (last : Clock) (asked : ℕ × QCall B) → IsPassOf one.by lock one → next ≡ record one { seen = next.seen; turns = next.turns }
      → Waited (λ m. AnswersStamped (Answers m)) (lock_mark lock) one (last.stamp, asked) next → IsPassed lock one next last last
  waits_passed lock one next last asked own same waited = record {
    still = still_of lock one next own same;
    moves = record { same = same; begins = waited.begins };
    turns = (let t = waited.turn in omega (arith, t));
    ticks = inr (record { last = refl; moments = ap (map moment) waited.own });
  }

  -- a call that found no memory leaves the pass as it was
  pub same_passed : (lock : QueueLock B) (one next : QueuePass B) (last : Clock) → IsPassOf one.by lock one → next ≡ one → IsPassed lock one next last last
  same_passed lock one next last own same = subst (λ (p : QueuePass B). IsPassed lock one p last last) (sym same) (record {
    still = own;
    moves = record { same = refl; begins = ([], refl) };
    turns = omega arith;
    ticks = inr (record { last = refl; moments = refl });
  })

  -- what a call tells that was not made
  abbrev Tells : QueuePass B → QueuePass B → ℕ × (ℕ × QCall B) → ℕ × (ℕ × QCall B) → Type 0
  Tells v w asked back = (back ≡ asked) × ((m : QueueMark) → HasMark v m → Waited (λ m. AnswersStamped (Answers m)) m v asked w)

  pub told : (v w : QueuePass B) (asked back : ℕ × (ℕ × QCall B)) (reason : CallFault (ℕ × (ℕ × QCall B))) → reason ≡ fault.NotYet back → IfFaultNotYet {R = ℕ × QReply B} (Err reason) (Tells v w asked) → Tells v w asked back
  told v w asked back reason is tells = subst (λ (f : CallFault (ℕ × (ℕ × QCall B))). IfFaultNotYet {R = ℕ × QReply B} (Err f) (Tells v w asked)) is tells

  pub refused : (v w : QueuePass B) (asked back : ℕ × (ℕ × QCall B)) (reason : CallFault (ℕ × (ℕ × QCall B))) → reason ≡ fault.NoMemory back
      → IfFaultNoMemory {R = ℕ × QReply B} (Err reason) (λ back. (back ≡ asked) × (w ≡ v)) → w ≡ v
  refused v w asked back reason is same = (subst (λ (f : CallFault (ℕ × (ℕ × QCall B))). IfFaultNoMemory {R = ℕ × QReply B} (Err f) (λ back. (back ≡ asked) × (w ≡ v))) is same).1

-- What a compositor takes through one pass.
use Rattle.std.proofs.Common.{◌≡◌, ℕ, ◌<◌, ◌≤◌, List, [], ◌++◌, inl, inr, Some, ap, ◌∙◌, sym, refl, subst, arith}
use Rattle.std.specs.Prelude.{Contains, Err, IfErr, IfOk, Ok, Result, is_none, map}
use Rattle.std.proofs.Math.Nat.{le-max_left}
use Rattle.std.proofs.lemmas.List.{append-nil, append_assoc}
use Rattle.sf_calls.specs.Calling.{Made as Does}
use Rattle.sf_calls.specs.Histories.{Begins, IsLegal, calls_by, entry}
use Rattle.atomic_table.specs.Seated.{TableId}
use Rattle.sf_calls.specs.Passes.{HasMark}
use Rattle.sf_calls_stamped.specs.Stamps.{AnswersStamped, newest_stamp, unstamped}
use Rattle.sf_calls_stamped.proofs.StampLemmas.{legal_without}
use Rattle.sf_actor.specs.sf_surface.Tokens.{ReadLeaseOf}
use Rattle.sf_intake.specs.sf_token.Arrivals.{AnswersCall, sent}
use Rattle.sf_intake.specs.sf_token.Pending.{Arrival}
use Rattle.sf_intake.specs.sf_token.declared.arrivals.ArriveCall.TheVariants as arrive
use Rattle.sf_intake.specs.sf_token.declared.arrivals.ArriveReply.TheVariants as reply
use Rattle.sf_actor.specs.Desks.{DeskView, IsAsBefore}
use Rattle.sf_actor.specs.Known.{ArriveWithout}
use Rattle.sf_live_seats.specs.declared.clock.Clock.{Clock}
use Rattle.sf_live_seats.specs.declared.seats.Seats.{Seats}
use Rattle.sf_live_seats.specs.Arriving.{ArrivalCalls, ArrivalEntry, ArrivalsPass, Arrived, Arriving}
use Rattle.sf_live_seats.specs.Calls.{TookOne}
use Rattle.sf_live_seats.specs.Moves.{BringsIn, ChangesArrivals, HasBrought, Takes}
use Rattle.sf_live_seats.specs.declared.at_intake.AtIntake.{AtIntake}
use Rattle.sf_live_seats.specs.declared.at_intake.AtIntake.TheVariants as at
use Rattle.sf_live_seats.specs.declared.inbox.Inbox.{Inbox}
use Rattle.sf_live_seats.specs.declared.locks.Locks.{Locks}
use Rattle.sf_live_seats.specs.Inboxes.{HasCouriers, IsInbox, IsLater}
use Rattle.sf_live_seats.specs.Seats.{AreSeats, HasTaker, IsAtIntake, IsInOrder, arrivals_known, calls_made, moments_of, pass_at, post_moment, posts_of, sent_in, view_of}
use Rattle.sf_live_seats.proofs.IntakeArrivals.{below_more}
use Rattle.sf_live_seats.proofs.IntakeHands.{first_known, first_pass_at, way_later}
use Rattle.sf_live_seats.proofs.CallOrder.{later_same}
use Rattle.sf_live_seats.proofs.CallsOfOthers.{before_newest, goes_unstamped, sent_goes}

abbrev Sends : ArrivalsPass → ArrivalsPass → ℕ × Arriving → ℕ × Arrived → Type 0
Sends v w asked given = (m : Unit {0}) → HasMark v m → Does (λ m. AnswersStamped AnswersCall) m v asked given w × Unit {0}

pub took_one : (v w : ArrivalsPass) (brought given : ℕ) (answer : Arrived) (list : List (Arrival ReadLeaseOf)) → v.mark ≡ Some tt → answer ≡ reply.Batch list → Sends v w (brought, arrive.Take) (given, answer) → TookOne v w list
took_one v w brought given answer list marked is sends =
    let made = (subst (λ (a : Arrived). Sends v w (brought, arrive.Take) (given, a)) is sends tt marked).0 in
    let before = made.newest.0 in
    let legal = subst (λ (log : List ArrivalEntry). IsLegal (AnswersStamped AnswersCall) log) made.newest.1 made.legal in
    record {
      earlier = unstamped before;
      newest = ap (λ (log : List ArrivalEntry). unstamped log) made.newest.1;
      waits = legal.0.1;
      legal = (legal_without AnswersCall w.seen made.legal).0;
      goes_on =
          goes_unstamped v.by v.seen before
          (before_newest v.by v.seen w.seen before (entry v.by (brought, arrive.Take) (given, reply.Batch list)) refl made.newest.1 made.begins made.own);
    }

-- the take has the newest stamp, above the one that was brought
pub newest_took : (v w : ArrivalsPass) (brought given : ℕ) (answer : Arrived) → v.mark ≡ Some tt → Sends v w (brought, arrive.Take) (given, answer) → newest_stamp w.seen ≡ given
newest_took v w brought given answer marked sends = ap (λ (log : List ArrivalEntry). newest_stamp log) (sends tt marked).0.newest.1

pub rose_took : (v w : ArrivalsPass) (brought given : ℕ) (answer : Arrived) → v.mark ≡ Some tt → Sends v w (brought, arrive.Take) (given, answer) → brought < given
rose_took v w brought given answer marked sends =
    let made = (sends tt marked).0 in
    let legal = subst (λ (log : List ArrivalEntry). IsLegal (AnswersStamped AnswersCall) log) made.newest.1 made.legal in
    let next = legal.0.0 in
    let up = le-max_left brought (newest_stamp made.newest.0) in
    omega (arith, next, up)

-- it sends nothing
pub none_sent : (v w : ArrivalsPass) (brought given : ℕ) (answer : Arrived) → v.mark ≡ Some tt → Sends v w (brought, arrive.Take) (given, answer) → sent_in (calls_by v.by w.seen) ≡ sent_in (calls_by v.by v.seen)
none_sent v w brought given answer marked sends = ap sent_in (sends tt marked).0.own

pub took_goes : (v w : ArrivalsPass) (list : List (Arrival ReadLeaseOf)) → TookOne v w list → ArriveWithout v.by (sent (unstamped v.seen)) (sent (unstamped w.seen))
took_goes v w list took =
    let all : sent (unstamped w.seen) ≡ sent took.earlier = ap (λ (log : ArrivalCalls). sent log) took.newest ∙ append-nil (sent took.earlier) in
    subst (λ (xs : List (Arrival ReadLeaseOf)). ArriveWithout v.by (sent (unstamped v.seen)) xs) (sym all) (sent_goes v.by (unstamped v.seen) took.earlier took.goes_on)

pub order_later : (before after : Clock) (moments later : List (ℕ × ℕ)) → IsInOrder before moments → after.step ≡ before.step → before.stamp ≤ after.stamp → later ≡ moments → IsInOrder after later
order_later before after moments later order step stamp same = subst (λ (xs : List (ℕ × ℕ)). IsInOrder after xs) (sym same) (record {
  step = λ m there. (let a = order.step m there in omega (arith, a, step));
  stamp = λ m there. (let a = order.stamp m there in omega (arith, a, stamp));
  rise = order.rise;
})

pub if_both : {X Y : Type 0} (P Q S : X → Type 0) (result : Result X Y) → ((x : X) → P x → Q x → S x) → IfOk result P → IfOk result Q → IfOk result S
if_both P Q S (Ok x) each one other = each x one other
if_both P Q S (Err y) each one other = tt

pub if_not : {X Y : Type 0} (P Q : Y → Type 0) (result : Result X Y) → ((y : Y) → P y → Q y) → IfErr result P → IfErr result Q
if_not P Q (Ok x) each one = tt
if_not P Q (Err y) each one = each y one

pub if_refused : {X Y : Type 0} {P : Type 0} (result : Result X Y) → P → IfErr result (λ y. P)
if_refused (Ok x) p = tt
if_refused (Err y) p = p

module _ {B : Type 0} where
  -- what was sent through the intake was put among the arrivals
  pub brings_change : (old new : Seats B) → BringsIn old new → ChangesArrivals old new
  brings_change old new brings = record {
    same =
        brings.same
        ∙ (λ i. record old { arrivals = ap (λ (s : Seats B). s.arrivals) (sym brings.same) i; pass = ap (λ (s : Seats B). s.pass) (sym brings.same) i; intake = new.intake; last = new.last });
    pass = (let same = ap (λ (s : Seats B). s.arrivals) brings.same in subst (λ (p : ArrivalsPass). p ≡ record old.arrivals { seen = p.seen; turns = p.turns }) (sym same) refl);
    begins = ([], ap (λ (s : Seats B). s.arrivals.seen) brings.same);
    last = brings.last.stamp;
    later = later_same old.last.stamp (moments_of old) (moments_of new)
        (ap moments_of brings.same
        ∙ ap (λ posts. calls_made old.by old.queues.items ++ (sent_in (calls_by old.by old.arrivals.seen) ++ map post_moment posts)) brings.posts);
  }

  known_same : (old new : Seats B) → BringsIn old new → view_of new ≡ view_of old
  known_same old new brings = ap view_of brings.same ∙ ap (λ (list : List (Arrival ReadLeaseOf)). record (view_of old) { arrivals = list }) (brings.known old.arrivals.seen)

  pub brings_as_before : (old new : Seats B) → BringsIn old new → IsAsBefore (view_of old) (view_of new)
  brings_as_before old new brings = known_same old new brings

  pub as_before_on : (old mid new : Seats B) → BringsIn old mid → IsAsBefore (view_of mid) (view_of new) → IsAsBefore (view_of old) (view_of new)
  as_before_on old mid new brings stays = subst (λ (v : DeskView B). IsAsBefore v (view_of new)) (known_same old mid brings) stays

  pub takes_on : (old mid new : Seats B) (list : List (Arrival ReadLeaseOf)) → BringsIn old mid → Takes mid new list → Takes old new list
  takes_on old mid new list brings takes = record {
    took = subst (λ (p : ArrivalsPass). TookOne p new.arrivals list) (ap (λ (s : Seats B). s.arrivals) brings.same) takes.took;
    goes_on =
        subst (λ (v : DeskView B). ArriveWithout old.by v.arrivals (view_of new).arrivals) (known_same old mid brings)
        (subst (λ (n : ℕ). ArriveWithout n (view_of mid).arrivals (view_of new).arrivals) (ap (λ (s : Seats B). s.by) brings.same) takes.goes_on);
    stamp = takes.stamp;
    rose = (let a = brings.last.stamp in let b = takes.rose in omega (arith, a, b));
    step = takes.step ∙ brings.last.step;
  }

  pub changes_on : (old mid new : Seats B) → ChangesArrivals old mid → ChangesArrivals mid new → ChangesArrivals old new
  changes_on old mid new one two = record {
    same = two.same ∙ ap (λ (s : Seats B). record s { arrivals = new.arrivals; pass = new.pass; intake = new.intake; last = new.last }) one.same;
    pass = two.pass ∙ ap (λ (p : ArrivalsPass). record p { seen = new.arrivals.seen; turns = new.arrivals.turns }) one.pass;
    begins = (two.begins.0 ++ one.begins.0, two.begins.1 ∙ ap (λ xs. two.begins.0 ++ xs) one.begins.1 ∙ sym (append_assoc two.begins.0 one.begins.0 old.arrivals.seen));
    last = (let a = one.last in let b = two.last in omega (arith, a, b));
    later = λ m there. elim (two.later m there) [
      | inl before ↦ one.later m before
      | inr now ↦ inr (let a = one.last in omega (arith, a, now))
    ];
  }

-- what a call through a pass at the arrivals tells that takes, or is refused
pub record PassTakes (old new : ArrivalsPass) (before after : Clock) : Type 0 where
  pub same : new ≡ record old { seen = new.seen; turns = new.turns }
  pub turns : old.turns ≤ new.turns
  pub begins : Begins old.seen new.seen
  pub step : after.step ≡ before.step
  pub stamp : before.stamp ≤ after.stamp
  pub sends : sent_in (calls_by old.by new.seen) ≡ sent_in (calls_by old.by old.seen)

module _ {B : Type 0} (buffers : TableId) (locks : Locks B) (seats : Seats B) (new shown : ArrivalsPass) (last : Clock) (own : AreSeats buffers locks seats) (first : seats.by ≡ 0) (takes : PassTakes seats.arrivals new seats.last last) (is : shown ≡ new) where
  abbrev took_seats : ArrivalsPass → Seats B
  took_seats p = record seats { arrivals = p; pass = Some new; last = last }

  sends : sent_in (calls_by seats.by new.seen) ≡ sent_in (calls_by seats.by seats.arrivals.seen)
  sends = subst (λ (b : ℕ). sent_in (calls_by b new.seen) ≡ sent_in (calls_by b seats.arrivals.seen)) own.number takes.sends

  moments_same : moments_of (took_seats new) ≡ moments_of seats
  moments_same = ap (λ (xs : List (ℕ × ℕ)). calls_made seats.by seats.queues.items ++ (xs ++ map post_moment (posts_of seats.intake))) sends

  pub waiting_own : AreSeats buffers locks (took_seats shown)
  waiting_own = subst (λ (p : ArrivalsPass). AreSeats buffers locks (took_seats p)) (sym is) (record {
    queues = own.queues;
    own_arrivals = ap (λ (p : ArrivalsPass). p.table) takes.same ∙ own.own_arrivals;
    marked = ap (λ (p : ArrivalsPass). p.mark) takes.same ∙ own.marked;
    number = ap (λ (p : ArrivalsPass). p.by) takes.same ∙ own.number;
    own_times = own.own_times;
    own_turns = own.own_turns;
    in_order = order_later seats.last last (moments_of seats) (moments_of (took_seats new)) own.in_order takes.step takes.stamp moments_same;
    takes = λ other. absurd (other first);
    pass = sym (first_pass_at locks seats.by seats.arrivals.gave seats.last seats.intake new first own.way);
    way = subst (λ (bs : List ℕ). IsAtIntake locks seats.by bs last seats.intake) (sym (ap (λ (p : ArrivalsPass). p.gave) takes.same))
        (way_later locks seats.by seats.arrivals.gave seats.last last seats.intake takes.stamp own.way);
  })

  pub waiting_changes : ChangesArrivals seats (took_seats shown)
  waiting_changes = subst (λ (p : ArrivalsPass). ChangesArrivals seats (took_seats p)) (sym is) (record {
    same = refl;
    pass = takes.same;
    begins = takes.begins;
    last = takes.stamp;
    later = later_same seats.last.stamp (moments_of seats) (moments_of (took_seats new)) moments_same;
  })

  known : (seen : List ArrivalEntry) → arrivals_known seats.intake seen ≡ sent (unstamped seen)
  known seen = first_known locks seats.by seats.arrivals.gave seats.last seats.intake seen first own.way

  pub waiting_took : (list : List (Arrival ReadLeaseOf)) → TookOne seats.arrivals new list → (newest_stamp new.seen ≡ last.stamp) × (seats.last.stamp < last.stamp) → Takes seats (took_seats shown) list
  waiting_took list took newest = subst (λ (p : ArrivalsPass). Takes seats (took_seats p) list) (sym is) (record {
    took = took;
    goes_on =
        subst (λ (xs : List (Arrival ReadLeaseOf)). ArriveWithout seats.by xs (arrivals_known seats.intake new.seen)) (sym (known seats.arrivals.seen))
        (subst (λ (xs : List (Arrival ReadLeaseOf)). ArriveWithout seats.by (sent (unstamped seats.arrivals.seen)) xs) (sym (known new.seen))
        (subst (λ (b : ℕ). ArriveWithout b (sent (unstamped seats.arrivals.seen)) (sent (unstamped new.seen))) own.number (took_goes seats.arrivals new list took)));
    stamp = newest.0;
    rose = newest.1;
    step = takes.step;
  })

  pub waiting_stays : new ≡ seats.arrivals → IsAsBefore (view_of seats) (view_of (took_seats shown))
  waiting_stays same = subst (λ (p : ArrivalsPass). IsAsBefore (view_of seats) (view_of (took_seats p))) (sym (is ∙ same)) refl

-- the first caller's pass is there
pub there_first : {B : Type 0} (buffers : TableId) (locks : Locks B) (seats : Seats B) → AreSeats buffers locks seats → seats.by ≡ 0 → seats.pass ≡ Some seats.arrivals
there_first buffers locks seats own first = own.pass ∙ first_pass_at locks seats.by seats.arrivals.gave seats.last seats.intake seats.arrivals first own.way

-- what was sent through the intake was brought in, through the first caller's inbox
module _ {B : Type 0} (buffers : TableId) (locks : Locks B) (seats : Seats B) (old new : Inbox B) (last : Clock) (is : seats.intake ≡ at.Takes old) (own : AreSeats buffers locks seats) where
  abbrev brought_seats : Seats B
  brought_seats = record seats { intake = at.Takes new; last = last }

  pub taker_there : HasTaker locks seats.by seats.arrivals.gave seats.last old
  taker_there = subst (λ at_intake. IsAtIntake locks seats.by seats.arrivals.gave seats.last at_intake) is own.way

  pub brought_own : IsInbox locks.arrivals new → HasCouriers last new → new.taker.intake ≡ old.taker.intake → new.taker.made ≡ old.taker.made → IsLater seats.last last → AreSeats buffers locks brought_seats
  brought_own inbox couriers intake made later = record {
    queues = own.queues;
    own_arrivals = own.own_arrivals;
    marked = own.marked;
    number = own.number;
    own_times = own.own_times;
    own_turns = own.own_turns;
    in_order = order_later seats.last last (moments_of seats) (moments_of brought_seats) own.in_order later.step later.stamp
        (sym (ap (λ at_intake. calls_made seats.by seats.queues.items ++ (sent_in (calls_by seats.by seats.arrivals.seen) ++ map post_moment (posts_of at_intake))) is));
    takes = own.takes;
    pass = own.pass ∙ ap (λ at_intake. pass_at at_intake seats.arrivals) is;
    way = record {
      intake = taker_there.intake ∙ ap (λ z. Some z) (sym intake);
      number = taker_there.number;
      gave = λ by there. taker_there.gave by (subst (λ (ns : List ℕ). Contains ns by) made there);
      own = inbox;
      couriers = couriers;
    };
  }

  pub brought : IsLater seats.last last → BringsIn seats brought_seats
  brought later = record {
    same = refl;
    last = later;
    posts = sym (ap posts_of is);
    known = λ seen. sym (ap (λ at_intake. arrivals_known at_intake seen) is);
  }

-- all that was sent through the intake is among the arrivals, and nothing is taken from it any more
module _ {B : Type 0} (buffers : TableId) (locks : Locks B) (seats : Seats B) (old : Inbox B) (last : Clock) (is : seats.intake ≡ at.Takes old) (own : AreSeats buffers locks seats) where
  abbrev finished_seats : Seats B
  finished_seats = record seats { intake = at.Finished; last = last }

  pub finished_own : IsLater seats.last last → AreSeats buffers locks finished_seats
  finished_own later =
      let taker : HasTaker locks seats.by seats.arrivals.gave seats.last old = subst (λ at_intake. IsAtIntake locks seats.by seats.arrivals.gave seats.last at_intake) is own.way in
      record {
        queues = own.queues;
        own_arrivals = own.own_arrivals;
        marked = own.marked;
        number = own.number;
        own_times = own.own_times;
        own_turns = own.own_turns;
        in_order = order_later seats.last last (moments_of seats) (moments_of finished_seats) own.in_order later.step later.stamp
            (sym (ap (λ at_intake. calls_made seats.by seats.queues.items ++ (sent_in (calls_by seats.by seats.arrivals.seen) ++ map post_moment (posts_of at_intake))) is));
        takes = own.takes;
        pass = own.pass ∙ ap (λ at_intake. pass_at at_intake seats.arrivals) is;
        way = (taker.number, ap is_none taker.intake);
      }

  pub finished : IsLater seats.last last → BringsIn seats finished_seats
  finished later = record {
    same = refl;
    last = later;
    posts = sym (ap posts_of is);
    known = λ seen. sym (ap (λ at_intake. arrivals_known at_intake seen) is);
  }

-- what is below a stamp is below a greater one
pub brought_below : {B : Type 0} (bound more : ℕ) (old new : AtIntake B) → bound ≤ more → HasBrought bound old new → HasBrought more old new
brought_below bound more at.Nothing new up brought = tt
brought_below bound more (at.Sends outbox) new up brought = tt
brought_below bound more (at.Takes inbox) new up brought =
    let all = brought.2 in (brought.0, brought.1, record { more = all.more; none = all.none; below = below_more bound more brought.0.couriers.items up all.below })
brought_below bound more at.Finished new up brought = tt

pub brings_none : {B : Type 0} (seats : Seats B) → BringsIn seats seats
brings_none seats = record { same = refl; last = record { step = refl; stamp = omega arith }; posts = refl; known = λ seen. refl }

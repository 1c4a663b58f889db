-- A call through one of a caller's passes, on the queue of a number.
use Rattle.std.proofs.Common.{◌≡◌, ◌≢◌, ℕ, zero, suc, ◌+◌, ◌<◌, ◌≤◌, ◌==◌, Bool, true, false, List, [], ◌∷◌, inl, inr, length, get_or, set, Option, Some, None, ◌||◌, arith, ap, ap₂, ◌∙◌, sym, refl, subst}
use Rattle.std.specs.Prelude.{map, nat_lt}
use Rattle.std.specs.List.{AllZip, list_any, position, position_or_len}
use Rattle.std.proofs.lemmas.List.{set-get_or}
use Rattle.std.proofs.lemmas.List.Sums.{sum_by-set}
use Rattle.std.proofs.lemmas.Bool.{cases_Bool, eqb-true, false≢true, ne_eqb}
use Rattle.std.proofs.lemmas.Bool.Decides.{nat_tests}
use Rattle.std.proofs.lemmas.Option.{cond_some}
use borrow.Author.Tests.{ltb-true}
use Rattle.sf_base.specs.declared.ids.QueueId.{QueueId}
use Rattle.sf_calls.specs.Histories.{GoesOnWithout, IsLegal, waits as pending}
use Rattle.sf_calls_stamped.specs.Stamps.{unstamped}
use Rattle.sf_actor.specs.sf_surface.declared.call.QCall.{QCall}
use Rattle.sf_actor.specs.sf_surface.declared.call.QReply.{QReply}
use Rattle.sf_actor.specs.sf_surface.declared.mark.QueueMark.{QueueMark}
use Rattle.sf_actor.specs.sf_surface.Histories.{Answers, Made}
use Rattle.sf_actor.specs.sf_surface.Tokens.{ReadLeaseOf}
use Rattle.sf_times.specs.declared.protocol.Knows.{Knows}
use Rattle.sf_intake.specs.sf_token.Pending.{Arrival}
use Rattle.sf_turns.specs.Views.{SeatView}
use Rattle.sf_actor.specs.Desks.{ChangesQueue, DeskHome, DeskView, IsAsBefore, MadeCall, WaitsForCall, has_queue, mark_among}
use Rattle.sf_live_seats.specs.declared.locks.QueueLock.{QueueLock}
use Rattle.sf_live_seats.specs.Moves.{MovesPass}
use Rattle.sf_live_seats.specs.Seats.{IsPassOf, QueuePass, calls_known, is_at, is_lock, lock_mark, mark_in, turns_had}
use Rattle.sf_live_seats.proofs.PassCall.{MadeOne, WaitsOne}

-- what the first place is where a test passes
pub place_is : {X : Type 0} (test : X → Bool) (xs : List X) (place : ℕ) → position test xs ≡ Some place → (position_or_len test xs ≡ place) × (place < length xs)
place_is test xs place e =
    let known = cond_some (nat_lt (position_or_len test xs) (length xs)) (position_or_len test xs) place e in
    let below : position_or_len test xs < length xs = ltb-true (position_or_len test xs) (length xs) known.0 in
    (known.1, subst (λ (n : ℕ). n < length xs) known.1 below)

pub no_place : {X : Type 0} (test : X → Bool) (xs : List X) → position test xs ≡ None → length xs ≤ position_or_len test xs
no_place test xs e = elim (cases_Bool (nat_lt (position_or_len test xs) (length xs))) [
  | inl met ↦ let f : Some (position_or_len test xs) ≡ None = rw met at e in cc
  | inr unmet ↦ grind (arith, nat_tests, unmet)
]

pub as_long : {X Y : Type 0} (R : X → Y → Type 0) (xs : List X) (ys : List Y) → AllZip R xs ys → length ys ≡ length xs
as_long R [] [] all = refl
as_long R [] (y ∷ ys) all = absurd all
as_long R (x ∷ xs) [] all = absurd all
as_long R (x ∷ xs) (y ∷ ys) all = let rest = as_long R xs ys all.1 in omega (arith, rest)

pub zip_at : {X Y : Type 0} (R : X → Y → Type 0) (xs : List X) (ys : List Y) (place : ℕ) (x : X) (y : Y) → AllZip R xs ys → place < length xs → R (get_or xs place x) (get_or ys place y)
zip_at R [] [] place x y all low = absurd (omega (arith, low))
zip_at R [] (z ∷ ys) place x y all low = absurd all
zip_at R (w ∷ xs) [] place x y all low = absurd all
zip_at R (w ∷ xs) (z ∷ ys) zero x y all low = all.0
zip_at R (w ∷ xs) (z ∷ ys) (suc place) x y all low = zip_at R xs ys place x y all.1 (omega (arith, low))

pub zip_set : {X Y : Type 0} (R : X → Y → Type 0) (xs : List X) (ys : List Y) (place : ℕ) (x : X) (y : Y) → AllZip R xs ys → place < length xs → R (get_or xs place x) y → AllZip R xs (set ys place y)
zip_set R [] [] place x y all low new = tt
zip_set R [] (z ∷ ys) place x y all low new = absurd all
zip_set R (w ∷ xs) [] place x y all low new = absurd all
zip_set R (w ∷ xs) (z ∷ ys) zero x y all low new = (new, all.1)
zip_set R (w ∷ xs) (z ∷ ys) (suc place) x y all low new = (all.0, zip_set R xs ys place x y all.1 (omega (arith, low)) new)

-- a list beside itself with one element changed
pub zip_self : {X : Type 0} (R : X → X → Type 0) (xs : List X) (place : ℕ) (x y : X) → ((z : X) → R z z) → place < length xs → R (get_or xs place x) y → AllZip R xs (set xs place y)
zip_self R [] place x y same low new = tt
zip_self R (z ∷ xs) zero x y same low new = (new, all_same xs)
  where
    all_same : (zs : List _) → AllZip R zs zs
    all_same [] = tt
    all_same (w ∷ zs) = (same w, all_same zs)
zip_self R (z ∷ xs) (suc place) x y same low new = (same z, zip_self R xs place x y same (omega (arith, low)) new)

module _ {B : Type 0} where
  at_lock : (by queue : ℕ) (lock : QueueLock B) (pass : QueuePass B) → IsPassOf by lock pass → is_at queue pass ≡ is_lock queue lock
  at_lock by queue lock pass own =
      ap (λ (m : Option QueueMark). (mark_in m).queue.0 == queue) own.marked ∙ sym (ap (λ (n : QueueId). n.0 == queue) own.numbered)

  mark_at : (by queue : ℕ) (lock : QueueLock B) (pass : QueuePass B) → IsPassOf by lock pass → ((lock_mark lock).queue.0 == queue) ≡ is_lock queue lock
  mark_at by queue lock pass own = sym (ap (λ (n : QueueId). n.0 == queue) own.numbered)

  not_other : (queue other : ℕ) (lock : QueueLock B) → is_lock queue lock ≡ true → other ≢ queue → is_lock other lock ≡ false
  not_other queue other lock met apart =
      let is = eqb-true lock.number.0 queue met in
      ne_eqb lock.number.0 other (λ same. apart (sym same ∙ is))

  -- one pass of a list, at the queue of this number, is another after a call
  pub record IsCalled (locks : List (QueueLock B)) (old new : List (QueuePass B)) (queue : ℕ) (lock : QueueLock B) (one next : QueuePass B) : Type 0 where
    pub before : calls_known old queue ≡ unstamped one.seen
    pub after : calls_known new queue ≡ unstamped next.seen
    pub others : (other : ℕ) → other ≢ queue → calls_known new other ≡ calls_known old other
    pub mark : mark_among (map lock_mark locks) queue ≡ lock_mark lock

  pub called_at : (by : ℕ) (locks : List (QueueLock B)) (passes : List (QueuePass B)) (queue place : ℕ) (lock : QueueLock B) (one next : QueuePass B) → AllZip (IsPassOf by) locks passes → position_or_len (is_lock queue) locks ≡ place → place < length locks → IsPassOf by (get_or locks place lock) next → IsCalled locks passes (set passes place next) queue (get_or locks place lock) (get_or passes place one) next
  called_at by [] [] queue place lock one next own e low still = absurd (omega (arith, low))
  called_at by [] (p ∷ passes) queue place lock one next own e low still = absurd own
  called_at by (l ∷ locks) [] queue place lock one next own e low still = absurd own
  called_at by (l ∷ locks) (p ∷ passes) queue zero lock one next own e low still = elim (cases_Bool (is_lock queue l)) [
    | inl met ↦
        let old : is_at queue p ≡ true = at_lock by queue l p own.0 ∙ met in
        let new : is_at queue next ≡ true = at_lock by queue l next still ∙ met in
        record {
          before = rw old refl;
          after = rw new refl;
          others = λ other apart. rw (at_lock by other l p own.0 ∙ not_other queue other l met apart, at_lock by other l next still ∙ not_other queue other l met apart) refl;
          mark = rw (mark_at by queue l p own.0 ∙ met) refl;
        }
    | inr unmet ↦ (let f = rw unmet at e in absurd (omega (arith, f)))
  ]
  called_at by (l ∷ locks) (p ∷ passes) queue (suc place) lock one next own e low still = elim (cases_Bool (is_lock queue l)) [
    | inl met ↦ (let f = rw met at e in absurd (omega (arith, f)))
    | inr unmet ↦ (
        let f = rw unmet at e in
        let rest = called_at by locks passes queue place lock one next own.1 (omega (arith, f)) (omega (arith, low)) still in
        let passed : is_at queue p ≡ false = at_lock by queue l p own.0 ∙ unmet in
        record {
          before = rw passed rest.before;
          after = rw passed rest.after;
          others = λ other apart. elim (cases_Bool (is_at other p)) [
            | inl this ↦ rw this refl
            | inr that ↦ rw that (rest.others other apart)
          ];
          mark = rw (mark_at by queue l p own.0 ∙ unmet) rest.mark;
        })
  ]

  none_there : (by : ℕ) (locks : List (QueueLock B)) (passes : List (QueuePass B)) (queue : ℕ) → AllZip (IsPassOf by) locks passes → length locks ≤ position_or_len (is_lock queue) locks → list_any (λ (mark : QueueMark). mark.queue.0 == queue) (map lock_mark locks) ≡ false
  none_there by [] passes queue own h = refl
  none_there by (l ∷ locks) [] queue own h = absurd own
  none_there by (l ∷ locks) (p ∷ passes) queue own h = elim (cases_Bool (is_lock queue l)) [
    | inl met ↦ (let f = rw met at h in absurd (omega (arith, f)))
    | inr unmet ↦ (let f = rw unmet at h in rw (mark_at by queue l p own.0 ∙ unmet) (none_there by locks passes queue own.1 (omega (arith, f))))
  ]

  -- a desk has the queues that are under locks
  pub has_as : (by queue : ℕ) (locks : List (QueueLock B)) (passes : List (QueuePass B)) → AllZip (IsPassOf by) locks passes → list_any (λ (mark : QueueMark). mark.queue.0 == queue) (map lock_mark locks) ≡ list_any (is_lock queue) locks
  has_as by queue [] passes own = refl
  has_as by queue (l ∷ locks) [] own = absurd own
  has_as by queue (l ∷ locks) (p ∷ passes) own =
      ap₂ (λ (a b : Bool). a || b) (ap (λ (q : QueueId). q.0 == queue) (sym own.0.numbered)) (has_as by queue locks passes own.1)

  -- a desk without the queue does not have it
  pub no_queue : (by queue : ℕ) (locks : List (QueueLock B)) (passes : List (QueuePass B)) (home : DeskHome) → AllZip (IsPassOf by) locks passes → home.marks ≡ map lock_mark locks → position (is_lock queue) locks ≡ None → has_queue home queue ≡ true → ⊥
  no_queue by queue locks passes home own marks is has =
      let none = none_there by locks passes queue own (no_place (is_lock queue) locks is) in
      false≢true (sym none ∙ ap (list_any (λ (mark : QueueMark). mark.queue.0 == queue)) (sym marks) ∙ has)

  pub low_place : (by queue place : ℕ) (locks : List (QueueLock B)) (passes : List (QueuePass B)) → AllZip (IsPassOf by) locks passes → position (is_lock queue) locks ≡ Some place → place < length passes
  low_place by queue place locks passes own first =
      let low = (place_is (is_lock queue) locks place first).1 in
      let long = as_long (IsPassOf by) locks passes own in
      omega (arith, low, long)

  -- the pass at the place of a lock is one of it
  pub was_at : (by queue place : ℕ) (locks : List (QueueLock B)) (passes : List (QueuePass B)) (lock : QueueLock B) (one : QueuePass B) → AllZip (IsPassOf by) locks passes → position (is_lock queue) locks ≡ Some place → lock ≡ get_or locks place lock → one ≡ get_or passes place one → IsPassOf by lock one
  was_at by queue place locks passes lock one own first lock_there there =
      subst (λ (l : QueueLock B). IsPassOf by l one) (sym lock_there)
      (subst (λ (p : QueuePass B). IsPassOf by (get_or locks place lock) p) (sym there)
      (zip_at (IsPassOf by) locks passes place lock one own (place_is (is_lock queue) locks place first).1))

  pub of_own : (by : ℕ) (lock : QueueLock B) (one next : QueuePass B) → IsPassOf by lock one → IsPassOf one.by lock next → IsPassOf by lock next
  of_own by lock one next was own = subst (λ (b : ℕ). IsPassOf b lock next) was.number own

  -- what is known after a call through the pass at a place
  pub record IsAfter (by : ℕ) (locks : List (QueueLock B)) (passes : List (QueuePass B)) (queue place : ℕ) (lock : QueueLock B) (one next : QueuePass B) : Type 0 where
    pub own : AllZip (IsPassOf by) locks passes
    pub first : position (is_lock queue) locks ≡ Some place
    pub lock_there : lock ≡ get_or locks place lock
    pub there : one ≡ get_or passes place one
    pub still : IsPassOf by lock next
    pub turns : one.turns ≤ next.turns

  module _ (by : ℕ) (locks : List (QueueLock B)) (passes : List (QueuePass B)) (queue place : ℕ) (lock : QueueLock B) (one next : QueuePass B) (h : IsAfter by locks passes queue place lock one next) where
    low : place < length locks
    low = (place_is (is_lock queue) locks place h.first).1

    low_pass : place < length passes
    low_pass = (let a = as_long (IsPassOf by) locks passes h.own in let b = low in omega (arith, a, b))

    still_there : IsPassOf by (get_or locks place lock) next
    still_there = subst (λ (l : QueueLock B). IsPassOf by l next) h.lock_there h.still

    is_called : IsCalled locks passes (set passes place next) queue lock one next
    is_called =
        let here = place_is (is_lock queue) locks place h.first in
        let called = called_at by locks passes queue place lock one next h.own here.0 here.1 still_there in
        subst (λ (l : QueueLock B). IsCalled locks passes (set passes place next) queue l one next) (sym h.lock_there)
        (subst (λ (p : QueuePass B). IsCalled locks passes (set passes place next) queue (get_or locks place lock) p next) (sym h.there) called)

    was_there : IsPassOf by lock one
    was_there = was_at by queue place locks passes lock one h.own h.first h.lock_there h.there

    pub own_after : AllZip (IsPassOf by) locks (set passes place next)
    own_after = zip_set (IsPassOf by) locks passes place lock next h.own low still_there

    pub moves : MovesPass one next → AllZip MovesPass passes (set passes place next)
    moves moved = zip_self MovesPass passes place one next (λ z. record { same = refl; begins = ([], refl) }) low_pass (subst (λ (p : QueuePass B). MovesPass p next) h.there moved)

    turns_rise : turns_had passes + next.turns ≡ turns_had (set passes place next) + one.turns
    turns_rise =
        let sum = sum_by-set (λ (p : QueuePass B). p.turns) passes place next one low_pass in
        sym (ap (λ (n : ℕ). turns_had (set passes place next) + n) (ap (λ (p : QueuePass B). p.turns) h.there) ∙ sum)

    module _ (home : DeskHome) (marks : home.marks ≡ map lock_mark locks) (exact : home.is_exact ≡ false) (arrivals : List (Arrival ReadLeaseOf)) (times : Knows) (turns : SeatView) (at : ℕ) where
      abbrev view_with : List (QueuePass B) → DeskView B
      view_with all = record { calls = calls_known all; arrivals = arrivals; times = times; turns = turns; locked = at + turns_had all }

      now_legal : IsLegal (Answers (lock_mark lock)) (unstamped next.seen) → IsLegal (Answers (mark_among home.marks queue)) (calls_known (set passes place next) queue)
      now_legal legal =
          subst (λ (m : QueueMark). IsLegal (Answers m) (calls_known (set passes place next) queue)) (sym is_called.mark ∙ ap (λ (ms : List QueueMark). mark_among ms queue) (sym marks))
          (subst (λ (xs : List (Made B)). IsLegal (Answers (lock_mark lock)) xs) (sym is_called.after) legal)

      changes : ChangesQueue (view_with passes) (view_with (set passes place next)) queue
      changes = record {
        same = refl;
        others = is_called.others;
        locked = (let a = turns_rise in let b = h.turns in omega (arith, a, b));
      }

      pub made_after : (asked : ℕ × QCall B) (reply : QReply B) → MadeOne (lock_mark lock) one next asked reply → MadeCall home (view_with passes) (view_with (set passes place next)) by queue asked reply
      made_after asked reply made = subst (λ (b : ℕ). MadeCall home (view_with passes) (view_with (set passes place next)) b queue asked reply) was_there.number (record {
        changes = changes;
        legal = now_legal made.legal;
        earlier = made.earlier;
        newest = is_called.after ∙ made.newest;
        goes_on = subst (λ (xs : List (Made B)). GoesOnWithout one.by xs made.earlier) (sym is_called.before) made.goes_on;
        alone = λ is. absurd (false≢true (sym exact ∙ is));
      })

      pub waits_after : (asked : ℕ × QCall B) → WaitsOne (lock_mark lock) one next asked → WaitsForCall home (view_with passes) (view_with (set passes place next)) by queue asked
      waits_after asked waited = subst (λ (b : ℕ). WaitsForCall home (view_with passes) (view_with (set passes place next)) b queue asked) was_there.number (record {
        changes = changes;
        legal = now_legal waited.legal;
        goes_on =
            subst (λ (xs : List (Made B)). GoesOnWithout one.by xs (calls_known (set passes place next) queue)) (sym is_called.before)
            (subst (λ (xs : List (Made B)). GoesOnWithout one.by (unstamped one.seen) xs) (sym is_called.after) waited.goes_on);
        not_yet =
            subst (λ (m : QueueMark). Answers m (calls_known (set passes place next) queue) one.by asked pending) (sym is_called.mark ∙ ap (λ (ms : List QueueMark). mark_among ms queue) (sym marks))
            (subst (λ (xs : List (Made B)). Answers (lock_mark lock) xs one.by asked pending) (sym is_called.after) waited.not_yet);
        alone = λ is. absurd (false≢true (sym exact ∙ is));
        looked = λ inexact. (let a = turns_rise in let b = waited.looked in omega (arith, a, b));
      })

      pub same_after : next ≡ one → IsAsBefore (view_with passes) (view_with (set passes place next))
      same_after same =
          let all : set passes place next ≡ passes = ap (λ (p : QueuePass B). set passes place p) (same ∙ h.there) ∙ set-get_or passes place one in
          ap view_with all

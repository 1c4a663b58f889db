-- A call on the queue of a number, among the queues of a plain desk.
use Rattle.std.proofs.Common.{◌≡◌, ◌≢◌, ℕ, zero, suc, ◌<◌, ◌≤◌, Bool, true, false, List, [], ◌∷◌, length, get_or, set, map, Option, Some, None, refl, ap, ◌∙◌, sym, subst, inl, inr, arith, ◌==◌}
use Rattle.std.specs.List.{list_any, position, position_or_len}
use Rattle.std.specs.Prelude.{nat_lt, IfOk, Result, Ok, Err}
use Rattle.std.proofs.lemmas.List.{set-get_or}
use Rattle.std.proofs.lemmas.Bool.{cases_Bool, eqb-true, false≢true, ne_eqb}
use Rattle.std.proofs.lemmas.Bool.Decides.{nat_tests}
use Rattle.std.proofs.lemmas.Option.{cond_some}
use borrow.Author.Tests.{ltb-true}
use Rattle.sf_token.specs.sf_calls.Calling.{IfFaultNoMemory, IfFaultNotYet}
use Rattle.sf_token.specs.sf_calls.declared.fault.CallFault.{CallFault}
use Rattle.sf_token.specs.sf_calls.declared.fault.CallFault.TheVariants as fault
use Rattle.sf_token.specs.sf_calls.Histories.{IsLegal, calls_by, entry, waits as pending}
use Rattle.sf_surface.specs.declared.call.QCall.{QCall}
use Rattle.sf_surface.specs.declared.call.QReply.{QReply}
use Rattle.sf_surface.specs.declared.mark.QueueMark.{QueueMark}
use Rattle.sf_surface.specs.Histories.{Answers, Made}
use Rattle.sf_surface.specs.Objects.{ObjectOf, mark_of}
use Rattle.sf_actor.specs.Desks.{IsAsBefore, MadeCall, WaitsForCall, has_queue, mark_among}
use Rattle.sf_actor.specs.Plain.{PlainOf, WaitsOn, calls_among, home_of, is_queue, taken_in, view_of}

-- what the first place is where a test passes
place_is : {X : Type 0} (test : X → Bool) (xs : List X) (place : ℕ) → position test xs ≡ Some place → (position_or_len test xs ≡ place) × (place < length xs)
place_is test xs place e =
    let known = cond_some (nat_lt (position_or_len test xs) (length xs)) (position_or_len test xs) place e in
    let below : position_or_len test xs < length xs = ltb-true (position_or_len test xs) (length xs) known.0 in
    (known.1, subst (λ (n : ℕ). n < length xs) known.1 below)

no_place : {X : Type 0} (test : X → Bool) (xs : List X) → position test xs ≡ None → length xs ≤ position_or_len test xs
no_place test xs e = elim (cases_Bool (nat_lt (position_or_len test xs) (length xs))) [
  | inl met ↦ let f : Some (position_or_len test xs) ≡ None = rw met at e in cc
  | inr unmet ↦ grind (arith, nat_tests, unmet)
]

module _ {B : Type 0} where
  -- one queue of a list, of this number, is another after a call, with the same mark
  pub record IsCalled (old new : List (ObjectOf B)) (queue : ℕ) (one next : ObjectOf B) : Type 0 where
    pub before : calls_among old queue ≡ one.calls
    pub after : calls_among new queue ≡ next.calls
    pub others : (other : ℕ) → other ≢ queue → calls_among new other ≡ calls_among old other
    pub mark : mark_among (map mark_of old) queue ≡ mark_of one
    pub marks : map mark_of new ≡ map mark_of old

  same_number : (queue : ℕ) (one next : ObjectOf B) → mark_of next ≡ mark_of one → is_queue queue next ≡ is_queue queue one
  same_number queue one next same = ap (λ (mark : QueueMark). mark.queue.0 == queue) same

  not_other : (queue other : ℕ) (object : ObjectOf B) → is_queue queue object ≡ true → other ≢ queue → is_queue other object ≡ false
  not_other queue other object met apart =
      let is = eqb-true object.queue.number.0 queue met in
      ne_eqb object.queue.number.0 other (λ same. apart (sym same ∙ is))

  pub called_at : (objects : List (ObjectOf B)) (queue place : ℕ) (d next : ObjectOf B) → position_or_len (is_queue queue) objects ≡ place → place < length objects → mark_of next ≡ mark_of (get_or objects place d) → IsCalled objects (set objects place next) queue (get_or objects place d) next
  called_at [] queue place d next e low same = absurd (omega (arith, low))
  called_at (object ∷ objects) queue zero d next e low same = elim (cases_Bool (is_queue queue object)) [
    | inl met ↦
        let new : is_queue queue next ≡ true = same_number queue object next same ∙ met in
        record {
          before = rw met refl;
          after = rw new refl;
          others = λ other apart. rw (not_other queue other object met apart, not_other queue other next new apart) refl;
          mark = rw met refl;
          marks = ap (λ (mark : QueueMark). mark ∷ map mark_of objects) same;
        }
    | inr unmet ↦ let f = rw unmet at e in absurd (omega (arith, f))
  ]
  called_at (object ∷ objects) queue (suc place) d next e low same = elim (cases_Bool (is_queue queue object)) [
    | inl met ↦ let f = rw met at e in absurd (omega (arith, f))
    | inr unmet ↦
        let f = rw unmet at e in
        let rest = called_at objects queue place d next (omega (arith, f)) (omega (arith, low)) same in
        record {
          before = rw unmet rest.before;
          after = rw unmet rest.after;
          others = λ other apart. elim (cases_Bool (is_queue other object)) [
            | inl this ↦ rw this refl
            | inr that ↦ rw that (rest.others other apart)
          ];
          mark = rw unmet rest.mark;
          marks = ap (λ (marks : List QueueMark). mark_of object ∷ marks) rest.marks;
        }
  ]

  none_there : (objects : List (ObjectOf B)) (queue : ℕ) → length objects ≤ position_or_len (is_queue queue) objects → list_any (λ (mark : QueueMark). mark.queue.0 == queue) (map mark_of objects) ≡ false
  none_there [] queue h = refl
  none_there (object ∷ objects) queue h = elim (cases_Bool (is_queue queue object)) [
    | inl met ↦ let f = rw met at h in absurd (omega (arith, f))
    | inr unmet ↦ let f = rw unmet at h in rw unmet (none_there objects queue (omega (arith, f)))
  ]

  -- a desk without the queue does not have it
  pub no_queue : (desk : PlainOf B) (queue : ℕ) (objects : List (ObjectOf B)) (found : Option ℕ) → objects ≡ desk.queues → found ≡ position (is_queue queue) objects → found ≡ None → has_queue (home_of desk) queue ≡ true → ⊥
  no_queue desk queue objects found same looked is has =
      let none = ap (position (is_queue queue)) (sym same) ∙ sym looked ∙ is in
      false≢true (sym (none_there desk.queues queue (no_place (is_queue queue) desk.queues none)) ∙ has)

  -- a queue of a desk is another after a call on it
  pub record IsAfterCall (desk : PlainOf B) (queue place : ℕ) (one next : ObjectOf B) : Type 0 where
    pub first : position (is_queue queue) desk.queues ≡ Some place
    pub there : one ≡ get_or desk.queues place one
    pub mark : mark_of next ≡ mark_of one
    pub legal : IsLegal (Answers (mark_of next)) next.calls

  pub after_call : (desk : PlainOf B) (queue place : ℕ) (objects : List (ObjectOf B)) (found : Option ℕ) (one next : ObjectOf B) → objects ≡ desk.queues → found ≡ position (is_queue queue) objects → found ≡ Some place → one ≡ get_or desk.queues place one → mark_of next ≡ mark_of one → IsLegal (Answers (mark_of next)) next.calls → IsAfterCall desk queue place one next
  after_call desk queue place objects found one next same looked is there mark legal =
      record { first = ap (position (is_queue queue)) (sym same) ∙ sym looked ∙ is; there = there; mark = mark; legal = legal }

  abbrev pub with_queue : PlainOf B → ℕ → ObjectOf B → PlainOf B
  with_queue desk place next = record desk { queues = set desk.queues place next }

  is_called : (desk : PlainOf B) (queue place : ℕ) (one next : ObjectOf B) → IsAfterCall desk queue place one next → IsCalled desk.queues (set desk.queues place next) queue one next
  is_called desk queue place one next h =
      let here = place_is (is_queue queue) desk.queues place h.first in
      subst (λ (o : ObjectOf B). IsCalled desk.queues (set desk.queues place next) queue o next) (sym h.there)
      (called_at desk.queues queue place one next here.0 here.1 (h.mark ∙ ap mark_of h.there))

  now_legal : (desk : PlainOf B) (queue place : ℕ) (one next : ObjectOf B) → IsAfterCall desk queue place one next → IsLegal (Answers (mark_among (map mark_of desk.queues) queue)) (calls_among (set desk.queues place next) queue)
  now_legal desk queue place one next h =
      let c = is_called desk queue place one next h in
      subst (λ (m : QueueMark). IsLegal (Answers m) (calls_among (set desk.queues place next) queue)) (h.mark ∙ sym c.mark)
      (subst (λ (xs : List (Made B)). IsLegal (Answers (mark_of next)) xs) (sym c.after) h.legal)

  -- a call that one of the queues made is one that the desk made
  pub desk_made : (desk : PlainOf B) (by queue place : ℕ) (asked : ℕ × QCall B) (reply : QReply B) (one next : ObjectOf B) → IsAfterCall desk queue place one next → next.calls ≡ entry by asked reply ∷ one.calls → MadeCall (home_of desk) (view_of desk) (view_of (with_queue desk place next)) by queue asked reply
  desk_made desk by queue place asked reply one next h made =
      let c = is_called desk queue place one next h in
      record {
        changes = record { same = refl; others = c.others; locked = omega arith };
        legal = now_legal desk queue place one next h;
        earlier = one.calls;
        newest = c.after ∙ made;
        goes_on = record { begins = ([], sym c.before); calls = ap (λ (xs : List (Made B)). calls_by by xs) (sym c.before) };
        alone = λ exact. sym c.before;
      }

  -- where one of the queues made a call wait, so did the desk
  pub desk_waits : (desk : PlainOf B) (by queue place : ℕ) (asked : ℕ × QCall B) (one next : ObjectOf B) → IsAfterCall desk queue place one next → WaitsOn one next by asked → WaitsForCall (home_of desk) (view_of desk) (view_of (with_queue desk place next)) by queue asked
  desk_waits desk by queue place asked one next h waits =
      let c = is_called desk queue place one next h in
      let same : calls_among (set desk.queues place next) queue ≡ calls_among desk.queues queue = c.after ∙ ap (λ (o : ObjectOf B). o.calls) waits.same ∙ sym c.before in
      record {
        changes = record { same = refl; others = c.others; locked = omega arith };
        legal = now_legal desk queue place one next h;
        goes_on = record { begins = ([], same); calls = ap (λ (xs : List (Made B)). calls_by by xs) same };
        not_yet =
            subst (λ (m : QueueMark). Answers m (calls_among (set desk.queues place next) queue) by asked pending) (sym c.mark)
            (subst (λ (xs : List (Made B)). Answers (mark_of one) xs by asked pending) (sym (same ∙ c.before)) waits.not_yet);
        alone = λ exact. same;
        looked = λ inexact. absurd (false≢true (sym inexact));
      }

  -- a queue that is as it was leaves the desk so
  pub desk_same : (desk : PlainOf B) (queue place : ℕ) (one next : ObjectOf B) → IsAfterCall desk queue place one next → next ≡ one → IsAsBefore (view_of desk) (view_of (with_queue desk place next))
  desk_same desk queue place one next h same =
      let queues : set desk.queues place next ≡ desk.queues = ap (λ (o : ObjectOf B). set desk.queues place o) (same ∙ h.there) ∙ set-get_or desk.queues place one in
      ap (λ (objects : List (ObjectOf B)). view_of (record desk { queues = objects })) queues

  -- what no call changes stays
  pub home_stays : (desk : PlainOf B) (queue place : ℕ) (one next : ObjectOf B) → IsAfterCall desk queue place one next → home_of (with_queue desk place next) ≡ home_of desk
  home_stays desk queue place one next h =
      ap (λ (marks : List QueueMark). record { marks = marks; is_exact = true; tells = desk.tells; tables = desk.times.table ∷ []; serves = λ by. true; intake = None; taken = taken_in desk.arrivals }) (is_called desk queue place one next h).marks

  -- the same of whatever a call answers
  pub if_made : (desk : PlainOf B) (by queue place : ℕ) (asked : ℕ × QCall B) (result : Result (QReply B) (CallFault (QCall B))) (one next : ObjectOf B) → IsAfterCall desk queue place one next → IfOk result (λ reply. next.calls ≡ entry by asked reply ∷ one.calls) → IfOk result (MadeCall (home_of desk) (view_of desk) (view_of (with_queue desk place next)) by queue asked)
  if_made desk by queue place asked (Ok reply) one next h made = desk_made desk by queue place asked reply one next h made
  if_made desk by queue place asked (Err fault) one next h made = tt

  pub if_waits : (desk : PlainOf B) (by queue place : ℕ) (asked : ℕ × QCall B) (result : Result (QReply B) (CallFault (QCall B))) (one next : ObjectOf B) → IsAfterCall desk queue place one next → IfFaultNotYet result (λ back. (back ≡ asked.1) × WaitsOn one next by asked) → IfFaultNotYet result (λ back. (back ≡ asked.1) × WaitsForCall (home_of desk) (view_of desk) (view_of (with_queue desk place next)) by queue asked)
  if_waits desk by queue place asked (Ok reply) one next h waits = tt
  if_waits desk by queue place asked (Err (fault.NotYet back)) one next h waits = (waits.0, desk_waits desk by queue place asked one next h waits.1)
  if_waits desk by queue place asked (Err (fault.NoMemory back)) one next h waits = tt

  pub if_no_memory : (desk : PlainOf B) (queue place : ℕ) (call : QCall B) (result : Result (QReply B) (CallFault (QCall B))) (one next : ObjectOf B) → IsAfterCall desk queue place one next → IfFaultNoMemory result (λ back. (back ≡ call) × (next ≡ one)) → IfFaultNoMemory result (λ back. (back ≡ call) × IsAsBefore (view_of desk) (view_of (with_queue desk place next)))
  if_no_memory desk queue place call (Ok reply) one next h same = tt
  if_no_memory desk queue place call (Err (fault.NotYet back)) one next h same = tt
  if_no_memory desk queue place call (Err (fault.NoMemory back)) one next h same = (same.0, desk_same desk queue place one next h same.1)

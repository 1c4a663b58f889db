-- A desk of one thread: its queues have their marks, what was called was called on them, and arrivals are numbered.
use Rattle.std.proofs.Common.{◌≡◌, ℕ, zero, suc, ◌+◌, ◌==◌, true, false, List, [], ◌∷◌, ◌++◌, length, map, refl, sym, ap, ◌∙◌, subst, inl, inr, arith}
use Rattle.std.specs.Prelude.{All, Contains}
use Rattle.std.specs.List.{list_any, range_with_len}
use Rattle.std.specs.List.Sorted.{IsPermutation, IsStrictlyIncreasing}
use Rattle.std.proofs.lemmas.Bool.{cases_Bool, eq-eqb, ne_eqb, or_left, or_right}
use Rattle.std.proofs.lemmas.List.{append-nil, length-append, map-append}
use Rattle.std.proofs.lemmas.List.Elements.{All-head, All-tail}
use Rattle.std.proofs.lemmas.List.Sorted.{Contains-permutation, IsPermutation-sym}
use Rattle.sf_commit.specs.sf_calls.Histories.{IsLegal}
use Rattle.sf_actor.specs.sf_surface.Histories.{Answers, Made}
use Rattle.sf_actor.specs.sf_surface.Objects.{ObjectOf, mark_of}
use Rattle.sf_actor.specs.sf_surface.Tokens.{Issued, ReadLeaseOf}
use Rattle.sf_actor.specs.sf_surface.declared.mark.QueueMark.{QueueMark}
use Rattle.sf_commit.specs.sf_token.Arrivals.{Calls, arrival, sent}
use Rattle.sf_commit.specs.sf_token.Pending.{Arrival}
use Rattle.sf_commit.specs.sf_token.declared.arrivals.ArriveCall.{ArriveCall}
use Rattle.sf_commit.specs.sf_token.declared.arrivals.ArriveCall.TheVariants as call
use Rattle.sf_commit.specs.sf_token.declared.arrivals.ArriveReply.{ArriveReply}
use Rattle.sf_actor.specs.sf_turns.Views.{SeatView}
use Rattle.sf_script_scene.specs.Scene.{SceneValue, has_queue as declares}
use Rattle.sf_script_scene.specs.declared.declarations.QueueDecl.{QueueDecl}
use Rattle.sf_actor.specs.Desks.{has_queue, mark_among}
use Rattle.sf_actor.specs.Plain.{PlainOf, calls_among, home_of, is_queue, view_of}
use Rattle.law_played.specs.Actors.{mark_declared}
use Rattle.law_played.specs.Histories.{queue_number}
use Rattle.law_played.specs.Telling.{AreNumbered, place_of}
use Rattle.law_played.proofs.AsQueued.{one_passes}
use Rattle.law_played.proofs.ArrivedFrames.{any_passes}
use Rattle.law_played.proofs.StepKeepsTold.{of_all}
use Rattle.law_played.proofs.Members.{has_cases, has_none, map_has}
use Rattle.law_played.proofs.RisingNumbers.{above, later_rises}

module _ {B : Type 0} where
  -- each queue's calls are legal by its mark, where each object's are
  pub legal_among : (objects : List (ObjectOf B)) (queue : ℕ) → All (λ (object : ObjectOf B). IsLegal (Answers (mark_of object)) object.calls) objects
      → IsLegal (Answers (mark_among (map mark_of objects) queue)) (calls_among objects queue)
  legal_among [] queue legal = tt
  legal_among (object ∷ objects) queue legal = elim (cases_Bool (is_queue queue object)) [
    | inl met ↦ rw met (All-head (λ (object : ObjectOf B). IsLegal (Answers (mark_of object)) object.calls) object objects legal)
    | inr unmet ↦ rw unmet (legal_among objects queue (All-tail (λ (object : ObjectOf B). IsLegal (Answers (mark_of object)) object.calls) object objects legal))
  ]

  pub desk_legal : (desk : PlainOf B) → All (λ (object : ObjectOf B). IsLegal (Answers (mark_of object)) object.calls) desk.queues
      → (queue : ℕ) → IsLegal (Answers (mark_among (home_of desk).marks queue)) ((view_of desk).calls queue)
  desk_legal desk legal queue = legal_among desk.queues queue legal

  -- what was called is a queue of the desk
  called_among : (objects : List (ObjectOf B)) (queue : ℕ) (made : Made B) → Contains (calls_among objects queue) made → list_any (λ (mark : QueueMark). mark.queue.0 == queue) (map mark_of objects) ≡ true
  called_among [] queue made there = has_none made there
  called_among (object ∷ objects) queue made there = elim (cases_Bool (is_queue queue object)) [
    | inl met ↦ or_left (is_queue queue object) (list_any (λ (mark : QueueMark). mark.queue.0 == queue) (map mark_of objects)) met
    | inr unmet ↦ or_right (is_queue queue object) (list_any (λ (mark : QueueMark). mark.queue.0 == queue) (map mark_of objects)) (called_among objects queue made (rw unmet at there))
  ]

  pub desk_called : (desk : PlainOf B) (queue : ℕ) (made : Made B) → Contains ((view_of desk).calls queue) made → has_queue (home_of desk) queue ≡ true
  desk_called desk queue made there = called_among desk.queues queue made there

-- a range with one number more
range_more : (a n : ℕ) → range_with_len a (suc n) ≡ range_with_len a n ++ (a + n) ∷ []
range_more a zero = (let e : a ≡ a + zero = omega arith in ap (λ (m : ℕ). m ∷ []) e)
range_more a (suc n) = (let e : a + 1 + n ≡ a + suc n = omega arith in ap (λ (ms : List ℕ). a ∷ ms) (range_more (a + 1) n ∙ ap (λ (m : ℕ). range_with_len (a + 1) n ++ m ∷ []) e))

-- arrivals are numbered as they were sent
numbered_more : (earlier : List (Arrival ReadLeaseOf)) (by : ℕ) (asked : ArriveCall ReadLeaseOf SeatView ReadLeaseOf Issued) (given : ArriveReply ReadLeaseOf SeatView ReadLeaseOf Issued)
    → AreNumbered earlier → AreNumbered (earlier ++ arrival (length earlier + 1) (record { by = by; call = asked; reply = given }))
numbered_more earlier by (call.Send step txn) given numbered =
    let last : Arrival ReadLeaseOf = record { number = length earlier + 1; actor = record { 0 = by }; step = step; txn = txn } in
    let many = length-append earlier (last ∷ []) in
    let longer : suc (length earlier) ≡ length (earlier ++ last ∷ []) = omega (arith, many) in
    let place : 1 + length earlier ≡ length earlier + 1 = omega arith in
    map-append place_of earlier (last ∷ [])
    ∙ ap (λ (ns : List ℕ). ns ++ (length earlier + 1) ∷ []) numbered
    ∙ ap (λ (n : ℕ). range_with_len 1 (length earlier) ++ n ∷ []) (sym place)
    ∙ sym (range_more 1 (length earlier))
    ∙ ap (λ (n : ℕ). range_with_len 1 n) longer
numbered_more earlier by call.Take given numbered = subst AreNumbered (sym (append-nil earlier)) numbered

pub sent_numbered : (calls : Calls ReadLeaseOf SeatView ReadLeaseOf Issued) → AreNumbered (sent calls)
sent_numbered [] = refl
sent_numbered (made ∷ earlier) = numbered_more (sent earlier) made.by made.call made.reply (sent_numbered earlier)

-- the mark of a declared queue
mark_is : (declared : List QueueDecl) (queue : QueueDecl) → IsStrictlyIncreasing (map queue_number declared) → Contains declared queue → mark_among (map mark_declared declared) queue.number ≡ mark_declared queue
mark_is [] queue up there = has_none queue there
mark_is (one ∷ declared) queue up there = elim (has_cases one queue declared there) [
  | inl is ↦ let met : (one.number == queue.number) ≡ true = eq-eqb one.number queue.number (ap queue_number is) in rw met (ap mark_declared is)
  | inr c ↦
      let below = above queue_number one queue declared up c in
      let unmet : (one.number == queue.number) ≡ false = ne_eqb one.number queue.number (λ e. omega (arith, below, e)) in
      rw unmet (mark_is declared queue (later_rises queue_number one declared up) c)
]

-- the marks of declared queues, in any order
pub marks_of_declared : (scene : SceneValue) (declared : List QueueDecl) → IsPermutation scene.queues declared → IsStrictlyIncreasing (map queue_number declared)
    → All (λ (queue : QueueDecl). mark_among (map mark_declared declared) queue.number ≡ mark_declared queue) scene.queues
marks_of_declared scene declared same up =
    of_all (λ (queue : QueueDecl). mark_among (map mark_declared declared) queue.number ≡ mark_declared queue) scene.queues (λ queue there.
    mark_is declared queue up (Contains-permutation scene.queues declared queue same there))

-- a queue of a desk is declared
pub has_declared : (scene : SceneValue) (declared : List QueueDecl) (queue : ℕ) → IsPermutation scene.queues declared
    → list_any (λ (mark : QueueMark). mark.queue.0 == queue) (map mark_declared declared) ≡ true → declares scene.queues queue ≡ true
has_declared scene declared queue same has =
    let mark = one_passes (λ (mark : QueueMark). mark.queue.0 == queue) (map mark_declared declared) has in
    let one = map_has mark_declared declared mark.0 mark.1 in
    any_passes (λ (q : QueueDecl). q.number == queue) scene.queues one.0
    (Contains-permutation declared scene.queues one.0 (IsPermutation-sym scene.queues declared same) one.1)
    (ap (λ (m : QueueMark). m.queue.0 == queue) one.2 ∙ mark.2)

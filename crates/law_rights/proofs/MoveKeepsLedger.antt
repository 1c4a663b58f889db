-- A move keeps a ledger.
use Rattle.std.proofs.Common.{◌≡◌, ℕ, ◌≤◌, ◌==◌, List, [], ◌∷◌, inl, inr, ap, sym, subst, refl, ◌∙◌, arith, ◌⊎◌}
use Rattle.std.specs.Prelude.{Contains}
use Rattle.std.specs.List.{sum_by}
use Rattle.std.proofs.lemmas.Bool.{cases_Bool, cases_lt, eqb-true}
use Rattle.std.proofs.lemmas.List.Elements.{Contains-append_cases, Contains-append_left, Contains-append_right}
use Rattle.std.proofs.lemmas.List.Sums.{sum_by-cons}
use Rattle.sf_actor_set.specs.sf_turns.Counts.{leaves_of}
use Rattle.sf_actor_set.specs.sf_actor.Rights.{Turn}
use Rattle.sf_actor_set.specs.sf_actor.Written.{FrameNumber}
use Rattle.law_rights.specs.Ledgers.{ComesBefore, HasLeftOrIsOwed, IsLedger, IsSettled, Ledger, Write}
use Rattle.law_rights.specs.Moves.{HasAtMost, MayMove, Move, Moves, ended_by, given_by, made_by, owed_by, paid_by, queued_by, turn_after, used_by, written_by}
use Rattle.law_rights.specs.Moves.{Goes, Makes, Ends, QueuesDrawn, QueuesOwed, Pays}
use Rattle.law_rights.proofs.TurnCounts.{at_buffer, count_at, counted, first, found, found_at, is_at, is_turn, is_itself, none_in, only_one, the_only}

-- where a right comes from that lies somewhere after a move
pub data Source (move : Move) (old : Ledger) (turn : Turn) : Type 0 where
  Was : Contains old.live turn → ((used : Turn) → Contains (used_by move) used → used.0 ≡ turn.0 → ⊥) → Source move old turn
  Next : (used : Turn) → Contains old.live used → used_by move ≡ used ∷ [] → turn ≡ turn_after used → Source move old turn
  New : (buffer : ℕ) → (Contains old.made buffer → ⊥) → Contains (made_by move) buffer → turn ≡ (buffer, 0) → used_by move ≡ [] → Source move old turn

-- what is left where nothing was used up
none_used : (old given new : List Turn) (turn : Turn) → HasAtMost old [] given new → Contains new turn → Contains old turn ⊎ Contains given turn
none_used old given new turn most there =
    let counts = counted turn new there in
    let bound = most (is_turn turn) in
    elim (cases_lt 0 (sum_by (is_turn turn) old)) [
      | inl some ↦ inl (found turn old (omega (arith, some)))
      | inr none ↦ inr (found turn given (omega (arith, none, counts, bound)))
    ]

-- and where the next turn took the place of one
one_used : (old new : List Turn) (used turn : Turn) → sum_by (is_at used.0) old ≤ 1 → Contains old used → HasAtMost old (used ∷ []) (turn_after used ∷ []) new → Contains new turn
    → (turn ≡ turn_after used) ⊎ (Contains old turn × (used.0 ≡ turn.0 → ⊥))
one_used old new used turn one there most here =
    let counts = counted turn new here in
    let bound = most (is_turn turn) in
    let a = sum_by-cons (is_turn turn) used [] in
    let b = sum_by-cons (is_turn turn) (turn_after used) [] in
    elim (cases_lt 0 (sum_by (is_turn turn) (turn_after used ∷ []))) [
      | inl next ↦ inl (sym (the_only (turn_after used) turn (found turn (turn_after used ∷ []) (omega (arith, next)))))
      | inr not_next ↦
          let was = found turn old (omega (arith, counts, bound, not_next)) in
          inr (was, λ same. twice same (only_one used.0 old used turn one there was refl (sym same)) not_next)
    ]
  where
    twice : used.0 ≡ turn.0 → used ≡ turn → sum_by (is_turn turn) (turn_after used ∷ []) ≤ 0 → ⊥
    twice same equal not_next =
        let counts = counted turn new here in
        let bound = most (is_turn turn) in
        let a = sum_by-cons (is_turn turn) used [] in
        let itself : is_turn turn used ≡ 1 = subst (λ (t : Turn). is_turn turn t ≡ 1) (sym equal) (is_itself turn) in
        let few = at_buffer turn old in
        let only : sum_by (is_at turn.0) old ≤ 1 = subst (λ (b : ℕ). sum_by (is_at b) old ≤ 1) same one in
        omega (arith, counts, bound, a, itself, few, only, not_next)

few_at : (l : Ledger) → IsLedger l → (buffer : ℕ) → sum_by (is_at buffer) l.live ≤ 1
few_at l is buffer = subst (λ (n : ℕ). n ≤ 1) (count_at buffer l.live) (is.one buffer)

from_used : (used : Turn) (move : Move) (old new : Ledger) → IsLedger old → Contains old.live used → used_by move ≡ used ∷ [] → HasAtMost old.live (used ∷ []) (turn_after used ∷ []) new.live
    → (turn : Turn) → Contains new.live turn → Source move old turn
from_used used move old new is there same most turn here = elim (one_used old.live new.live used turn (few_at old is used.0) there most here) [
  | inl next ↦ Next used there same next
  | inr was ↦ Was was.0 (λ other among equal. was.1 (ap (λ (t : Turn). t.0) (the_only used other (subst (λ (ts : List Turn). Contains ts other) same among)) ∙ equal))
]

pub source : (move : Move) (old new : Ledger) → IsLedger old → MayMove move old → HasAtMost old.live (used_by move) (given_by move) new.live → (turn : Turn) → Contains new.live turn → Source move old turn
source Goes old new is may most turn there = elim (none_used old.live [] new.live turn most there) [
  | inl was ↦ Was was (λ used none same. none_in used none)
  | inr none ↦ absurd (none_in turn none)
]
source (Makes buffer) old new is may most turn there = elim (none_used old.live ((buffer, 0) ∷ []) new.live turn most there) [
  | inl was ↦ Was was (λ used none same. none_in used none)
  | inr one ↦ New buffer may (first buffer []) (sym (the_only (buffer, 0) turn one)) refl
]
source (Ends turn') old new is may most turn there = from_used turn' (Ends turn') old new is may refl most turn there
source (QueuesDrawn write) old new is may most turn there = from_used write.turn (QueuesDrawn write) old new is may.0 refl most turn there
source (QueuesOwed write) old new is may most turn there = from_used write.turn (QueuesOwed write) old new is may.0 refl most turn there
source (Pays write) old new is may most turn there = elim (none_used old.live [] new.live turn most there) [
  | inl was ↦ Was was (λ used none same. none_in used none)
  | inr none ↦ absurd (none_in turn none)
]

-- what is known of the items that a move adds
made_is : (move : Move) (buffer : ℕ) → Contains (made_by move) buffer → Contains (made_by move) buffer
made_is move buffer there = there

ended_is : (move : Move) (old : Ledger) → MayMove move old → (turn : Turn) → Contains (ended_by move) turn → Contains (used_by move) turn ⊎ ((write : Write) × Contains old.owed write × (write.turn ≡ turn))
ended_is Goes old may turn there = absurd (none_in turn there)
ended_is (Makes buffer) old may turn there = absurd (none_in turn there)
ended_is (Ends used) old may turn there = inl there
ended_is (QueuesDrawn write) old may turn there = inl there
ended_is (QueuesOwed write) old may turn there = absurd (none_in turn there)
ended_is (Pays write) old may turn there = inr (write, may, the_only write.turn turn there)

-- what a move uses up lay somewhere
used_lay : (move : Move) (old : Ledger) → MayMove move old → (turn : Turn) → Contains (used_by move) turn → Contains old.live turn
used_lay Goes old may turn there = absurd (none_in turn there)
used_lay (Makes buffer) old may turn there = absurd (none_in turn there)
used_lay (Ends used) old may turn there = subst (λ (t : Turn). Contains old.live t) (the_only used turn there) may
used_lay (QueuesDrawn write) old may turn there = subst (λ (t : Turn). Contains old.live t) (the_only write.turn turn there) may.0
used_lay (QueuesOwed write) old may turn there = subst (λ (t : Turn). Contains old.live t) (the_only write.turn turn there) may.0
used_lay (Pays write) old may turn there = absurd (none_in turn there)

-- it has ended then, or its drawing is owed
used_goes : (move : Move) (turn : Turn) → Contains (used_by move) turn → Contains (ended_by move) turn ⊎ ((write : Write) × Contains (owed_by move) write × (write.turn ≡ turn))
used_goes Goes turn there = absurd (none_in turn there)
used_goes (Makes buffer) turn there = absurd (none_in turn there)
used_goes (Ends used) turn there = inl there
used_goes (QueuesDrawn write) turn there = inl there
used_goes (QueuesOwed write) turn there = inr (write, first write [], the_only write.turn turn there)
used_goes (Pays write) turn there = absurd (none_in turn there)

-- a frame that is queued is new, and is written in the turn that is used up
queued_used : (move : Move) (write : Write) → Contains (queued_by move) write → Contains (used_by move) write.turn
queued_used Goes write there = absurd (none_in write there)
queued_used (Makes buffer) write there = absurd (none_in write there)
queued_used (Ends used) write there = absurd (none_in write there)
queued_used (QueuesDrawn queued) write there = subst (λ (w : Write). Contains (queued.turn ∷ []) w.turn) (the_only queued write there) (first queued.turn [])
queued_used (QueuesOwed queued) write there = subst (λ (w : Write). Contains (queued.turn ∷ []) w.turn) (the_only queued write there) (first queued.turn [])
queued_used (Pays paid) write there = absurd (none_in write there)

queued_new : (move : Move) (old : Ledger) → MayMove move old → (write other : Write) → Contains (queued_by move) write → Contains old.queued other → other.frame ≡ write.frame → ⊥
queued_new Goes old may write other there here = absurd (none_in write there)
queued_new (Makes buffer) old may write other there here = absurd (none_in write there)
queued_new (Ends used) old may write other there here = absurd (none_in write there)
queued_new (QueuesDrawn queued) old may write other there here = λ same. may.1 other here (same ∙ sym (ap (λ (w : Write). w.frame) (the_only queued write there)))
queued_new (QueuesOwed queued) old may write other there here = λ same. may.1 other here (same ∙ sym (ap (λ (w : Write). w.frame) (the_only queued write there)))
queued_new (Pays paid) old may write other there here = absurd (none_in write there)

queued_one : (move : Move) (write other : Write) → Contains (queued_by move) write → Contains (queued_by move) other → write ≡ other
queued_one Goes write other there here = absurd (none_in write there)
queued_one (Makes buffer) write other there here = absurd (none_in write there)
queued_one (Ends used) write other there here = absurd (none_in write there)
queued_one (QueuesDrawn queued) write other there here = sym (the_only queued write there) ∙ the_only queued other here
queued_one (QueuesOwed queued) write other there here = sym (the_only queued write there) ∙ the_only queued other here
queued_one (Pays paid) write other there here = absurd (none_in write there)

owed_is : (move : Move) (write : Write) → Contains (owed_by move) write → Contains (queued_by move) write
owed_is Goes write there = there
owed_is (Makes buffer) write there = there
owed_is (Ends used) write there = there
owed_is (QueuesDrawn queued) write there = absurd (none_in write there)
owed_is (QueuesOwed queued) write there = there
owed_is (Pays paid) write there = absurd (none_in write there)

-- what is paid has left
paid_ends : (move : Move) (write : Write) → Contains (paid_by move) write → Contains (ended_by move) write.turn
paid_ends Goes write there = absurd (none_in write there)
paid_ends (Makes buffer) write there = absurd (none_in write there)
paid_ends (Ends used) write there = absurd (none_in write there)
paid_ends (QueuesDrawn queued) write there = absurd (none_in write there)
paid_ends (QueuesOwed queued) write there = absurd (none_in write there)
paid_ends (Pays paid) write there = subst (λ (w : Write). Contains (paid.turn ∷ []) w.turn) (the_only paid write there) (first paid.turn [])

-- a frame that is written was queued, now or before, and its turn leaves
written_is : (move : Move) (old : Ledger) → MayMove move old → (frame : FrameNumber) → Contains (written_by move) frame
    → (write : Write) × (Contains (queued_by move) write ⊎ Contains old.owed write) × Contains (ended_by move) write.turn × (write.frame ≡ frame)
written_is Goes old may frame there = absurd (none_in frame there)
written_is (Makes buffer) old may frame there = absurd (none_in frame there)
written_is (Ends used) old may frame there = absurd (none_in frame there)
written_is (QueuesDrawn queued) old may frame there = (queued, inl (first queued []), first queued.turn [], the_only queued.frame frame there)
written_is (QueuesOwed queued) old may frame there = absurd (none_in frame there)
written_is (Pays paid) old may frame there = (paid, inr may, first paid.turn [], the_only paid.frame frame there)

-- where a turn leaves, its frame is written; or nothing was queued in it
ended_writes : (move : Move) (old : Ledger) → MayMove move old → (turn : Turn) → Contains (ended_by move) turn
    → ((write : Write) × (Contains (queued_by move) write ⊎ Contains old.owed write) × (write.turn ≡ turn) × Contains (written_by move) write.frame) ⊎ (Contains (used_by move) turn × (queued_by move ≡ []))
ended_writes Goes old may turn there = absurd (none_in turn there)
ended_writes (Makes buffer) old may turn there = absurd (none_in turn there)
ended_writes (Ends used) old may turn there = inr (there, refl)
ended_writes (QueuesDrawn queued) old may turn there = inl (queued, inl (first queued []), the_only queued.turn turn there, first queued.frame [])
ended_writes (QueuesOwed queued) old may turn there = absurd (none_in turn there)
ended_writes (Pays paid) old may turn there = inl (paid, inr may, the_only paid.turn turn there, first paid.frame [])

-- the right after a used one comes after it, and after all that came before
goes_on : (used turn later : Turn) → later ≡ turn_after used → (turn.0 ≡ used.0 → turn.1 ≤ used.1) → ComesBefore turn later
goes_on used turn later next before same =
    let number = ap (λ (t : Turn). t.1) next in
    let buffer = ap (λ (t : Turn). t.0) next in
    let low = before (same ∙ buffer) in
    omega (arith, number, low)

-- of each buffer still one right lies somewhere at most
module _ (move : Move) (old new : Ledger) (is : IsLedger old) (may : MayMove move old) (moves : Moves move old new) where
  -- a turn that came before all that lay comes before all that lies: it left before, or its frame was queued before
  still_before : (turn : Turn) → Contains old.made turn.0 → ((lay : Turn) → Contains old.live lay → ComesBefore turn lay) → (later : Turn) → Contains new.live later → ComesBefore turn later
  still_before turn made before later there = by_source (source move old new is may moves.live later there)
    where
      by_source : Source move old later → ComesBefore turn later
      by_source (Was was apart) = before later was
      by_source (Next used lay only next) = goes_on used turn later next (λ same. let low = before used lay same in omega (arith, low))
      by_source (New buffer unmade among is_new none) = λ same. absurd (unmade (subst (λ (b : ℕ). Contains old.made b) (same ∙ ap (λ (t : Turn). t.0) is_new) made))

  -- and so does the turn that is used up
  used_before : (turn : Turn) → Contains (used_by move) turn → (later : Turn) → Contains new.live later → ComesBefore turn later
  used_before turn among later there = by_source (source move old new is may moves.live later there)
    where
      by_source : Source move old later → ComesBefore turn later
      by_source (Was was apart) = λ same. absurd (apart turn among same)
      by_source (Next used lay only next) = goes_on used turn later next (λ same. let one = ap (λ (t : Turn). t.1) (the_only used turn (subst (λ (ts : List Turn). Contains ts turn) only among)) in omega (arith, one))
      by_source (New buffer unmade fresh is_new none) = absurd (none_in turn (subst (λ (ts : List Turn). Contains ts turn) none among))

  is_made : (buffer : ℕ) → Contains old.made buffer → Contains new.made buffer
  is_made buffer there = moves.made.all buffer (Contains-append_right (made_by move) old.made buffer there)

  used_made : (turn : Turn) → Contains (used_by move) turn → Contains old.made turn.0
  used_made turn among = is.live_made turn (used_lay move old may turn among)

  -- a turn that left or was owed has left or is owed
  still_settled : (turn : Turn) → HasLeftOrIsOwed old turn → HasLeftOrIsOwed new turn
  still_settled turn (inl left) = inl (moves.left.all turn (Contains-append_right (ended_by move) old.left turn left))
  still_settled turn (inr owes) = elim (Contains-append_cases (paid_by move) new.owed owes.0 (moves.unpaid owes.0 owes.1)) [
    | inl paid ↦ inl (moves.left.all turn (Contains-append_left (ended_by move) old.left turn (subst (λ (t : Turn). Contains (ended_by move) t) owes.2 (paid_ends move owes.0 paid))))
    | inr unpaid ↦ inr (owes.0, unpaid, owes.2)
  ]

  used_settled : (turn : Turn) → Contains (used_by move) turn → HasLeftOrIsOwed new turn
  used_settled turn among = elim (used_goes move turn among) [
    | inl ended ↦ inl (moves.left.all turn (Contains-append_left (ended_by move) old.left turn ended))
    | inr owes ↦ inr (owes.0, moves.owes owes.0 owes.1, owes.2)
  ]

  -- what is told of a frame that is queued now or was before
  queued_then : (write : Write) → Contains new.queued write → Contains (queued_by move) write ⊎ Contains old.queued write
  queued_then write there = Contains-append_cases (queued_by move) old.queued write (moves.queued.no_others write there)

  -- a turn that is used up is not that of a frame that was queued
  used_unqueued : (turn : Turn) (write : Write) → Contains (used_by move) turn → Contains old.queued write → write.turn ≡ turn → ⊥
  used_unqueued turn write among there same =
      let before = is.after_queued turn write (used_lay move old may turn among) there (ap (λ (t : Turn). t.0) same) in
      let equal = ap (λ (t : Turn). t.1) same in
      omega (arith, before, equal)

  one_still : (buffer : ℕ) → leaves_of buffer new.live ≤ 1
  one_still buffer = subst (λ (n : ℕ). n ≤ 1) (sym (count_at buffer new.live)) (by_move move may moves.live)
    where
      few : sum_by (is_at buffer) old.live ≤ 1
      few = subst (λ (n : ℕ). n ≤ 1) (count_at buffer old.live) (is.one buffer)

      nothing : HasAtMost old.live [] [] new.live → sum_by (is_at buffer) new.live ≤ 1
      nothing most = let bound = most (is_at buffer) in omega (arith, bound, few)

      next : (used : Turn) → HasAtMost old.live (used ∷ []) (turn_after used ∷ []) new.live → sum_by (is_at buffer) new.live ≤ 1
      next used most =
          let bound = most (is_at buffer) in
          let a = sum_by-cons (is_at buffer) used [] in
          let b = sum_by-cons (is_at buffer) (turn_after used) [] in
          omega (arith, bound, few, a, b)

      first_right : (made : ℕ) → (Contains old.made made → ⊥) → HasAtMost old.live [] ((made, 0) ∷ []) new.live → sum_by (is_at buffer) new.live ≤ 1
      first_right made unmade most =
          let bound = most (is_at buffer) in
          let b = sum_by-cons (is_at buffer) (made, 0) [] in
          elim (cases_lt 0 (sum_by (is_at buffer) old.live)) [
            | inl some ↦
                let lay = found_at buffer old.live (omega (arith, some)) in
                elim (cases_Bool (buffer == made)) [
                  | inl met ↦ absurd (unmade (subst (λ (b : ℕ). Contains old.made b) (lay.2 ∙ eqb-true buffer made met) (is.live_made lay.0 lay.1)))
                  | inr unmet ↦ let other : is_at buffer (made, 0) ≡ 0 = grind (arith, unmet) in omega (arith, bound, few, b, other)
                ]
            | inr none ↦ let single : is_at buffer (made, 0) ≤ 1 = grind arith in omega (arith, bound, none, b, single)
          ]

      by_move : (move : Move) → MayMove move old → HasAtMost old.live (used_by move) (given_by move) new.live → sum_by (is_at buffer) new.live ≤ 1
      by_move Goes may most = nothing most
      by_move (Makes made) may most = first_right made may most
      by_move (Ends used) may most = next used most
      by_move (QueuesDrawn write) may most = next write.turn most
      by_move (QueuesOwed write) may most = next write.turn most
      by_move (Pays write) may most = nothing most

  after_left_still : (turn left : Turn) → Contains new.live turn → Contains new.left left → ComesBefore left turn
  after_left_still turn left there gone = elim (Contains-append_cases (ended_by move) old.left left (moves.left.no_others left gone)) [
    | inl ended ↦ elim (ended_is move old may left ended) [
      | inl used ↦ used_before left used turn there
      | inr owes ↦
          let queued = is.owed_queued owes.0 owes.1 in
          subst (λ (t : Turn). ComesBefore t turn) owes.2
          (still_before owes.0.turn (is.queued_made owes.0 queued) (λ lay was. is.after_queued lay owes.0 was queued) turn there)
    ]
    | inr earlier ↦ still_before left (is.left_made left earlier) (λ lay was. is.after_left lay left was earlier) turn there
  ]

  after_queued_still : (turn : Turn) (write : Write) → Contains new.live turn → Contains new.queued write → ComesBefore write.turn turn
  after_queued_still turn write there queued = elim (queued_then write queued) [
    | inl now ↦ used_before write.turn (queued_used move write now) turn there
    | inr earlier ↦ still_before write.turn (is.queued_made write earlier) (λ lay was. is.after_queued lay write was earlier) turn there
  ]

  live_made_still : (turn : Turn) → Contains new.live turn → Contains new.made turn.0
  live_made_still turn there = by_source (source move old new is may moves.live turn there)
    where
      by_source : Source move old turn → Contains new.made turn.0
      by_source (Was was apart) = is_made turn.0 (is.live_made turn was)
      by_source (Next used lay only next) = subst (λ (b : ℕ). Contains new.made b) (sym (ap (λ (t : Turn). t.0) next)) (is_made used.0 (is.live_made used lay))
      by_source (New buffer unmade among is_new none) =
          subst (λ (b : ℕ). Contains new.made b) (sym (ap (λ (t : Turn). t.0) is_new)) (moves.made.all buffer (Contains-append_left (made_by move) old.made buffer among))

  queued_made_still : (write : Write) → Contains new.queued write → Contains new.made write.turn.0
  queued_made_still write there = elim (queued_then write there) [
    | inl now ↦ is_made write.turn.0 (used_made write.turn (queued_used move write now))
    | inr earlier ↦ is_made write.turn.0 (is.queued_made write earlier)
  ]

  left_made_still : (turn : Turn) → Contains new.left turn → Contains new.made turn.0
  left_made_still turn there = elim (Contains-append_cases (ended_by move) old.left turn (moves.left.no_others turn there)) [
    | inl ended ↦ elim (ended_is move old may turn ended) [
      | inl used ↦ is_made turn.0 (used_made turn used)
      | inr owes ↦ subst (λ (t : Turn). Contains new.made t.0) owes.2 (is_made owes.0.turn.0 (is.queued_made owes.0 (is.owed_queued owes.0 owes.1)))
    ]
    | inr earlier ↦ is_made turn.0 (is.left_made turn earlier)
  ]

  one_frame_still : (write other : Write) → Contains new.queued write → Contains new.queued other → write.turn ≡ other.turn → write.frame ≡ other.frame
  one_frame_still write other there here same = elim (queued_then write there) [
    | inl now ↦ elim (queued_then other here) [
      | inl also ↦ ap (λ (w : Write). w.frame) (queued_one move write other now also)
      | inr earlier ↦ absurd (used_unqueued write.turn other (queued_used move write now) earlier (sym same))
    ]
    | inr before ↦ elim (queued_then other here) [
      | inl also ↦ absurd (used_unqueued other.turn write (queued_used move other also) before same)
      | inr earlier ↦ is.one_frame write other before earlier same
    ]
  ]

  one_turn_still : (write other : Write) → Contains new.queued write → Contains new.queued other → write.frame ≡ other.frame → write.turn ≡ other.turn
  one_turn_still write other there here same = elim (queued_then write there) [
    | inl now ↦ elim (queued_then other here) [
      | inl also ↦ ap (λ (w : Write). w.turn) (queued_one move write other now also)
      | inr earlier ↦ absurd (queued_new move old may write other now earlier (sym same))
    ]
    | inr before ↦ elim (queued_then other here) [
      | inl also ↦ absurd (queued_new move old may other write also before same)
      | inr earlier ↦ is.one_turn write other before earlier same
    ]
  ]

  queued_now : (write : Write) → Contains (queued_by move) write ⊎ Contains old.owed write → Contains new.queued write
  queued_now write (inl now) = moves.queued.all write (Contains-append_left (queued_by move) old.queued write now)
  queued_now write (inr owes) = moves.queued.all write (Contains-append_right (queued_by move) old.queued write (is.owed_queued write owes))

  owed_queued_still : (write : Write) → Contains new.owed write → Contains new.queued write
  owed_queued_still write there = elim (Contains-append_cases (owed_by move) old.owed write (moves.owed write there)) [
    | inl now ↦ queued_now write (inl (owed_is move write now))
    | inr earlier ↦ queued_now write (inr earlier)
  ]

  written_queued_still : (frame : FrameNumber) → Contains new.written frame → (write : Write) × Contains new.queued write × (write.frame ≡ frame)
  written_queued_still frame there = elim (Contains-append_cases (written_by move) old.written frame (moves.written.no_others frame there)) [
    | inl now ↦ let told = written_is move old may frame now in (told.0, queued_now told.0 told.1, told.3)
    | inr earlier ↦
        let told = is.written_queued frame earlier in
        (told.0, moves.queued.all told.0 (Contains-append_right (queued_by move) old.queued told.0 told.1), told.2)
  ]

  written_left_still : (write : Write) → Contains new.queued write → Contains new.written write.frame → Contains new.left write.turn
  written_left_still write there written = elim (Contains-append_cases (written_by move) old.written write.frame (moves.written.no_others write.frame written)) [
    | inl now ↦
        let told = written_is move old may write.frame now in
        moves.left.all write.turn (Contains-append_left (ended_by move) old.left write.turn
        (subst (λ (t : Turn). Contains (ended_by move) t) (one_turn_still told.0 write (queued_now told.0 told.1) there told.3) told.2))
    | inr before ↦ elim (queued_then write there) [
      | inl now ↦ let told = is.written_queued write.frame before in absurd (queued_new move old may write told.0 now told.1 told.2)
      | inr earlier ↦ moves.left.all write.turn (Contains-append_right (ended_by move) old.left write.turn (is.written_left write earlier before))
    ]
  ]

  left_written_still : (write : Write) → Contains new.queued write → Contains new.left write.turn → Contains new.written write.frame
  left_written_still write there gone = elim (Contains-append_cases (ended_by move) old.left write.turn (moves.left.no_others write.turn gone)) [
    | inl ended ↦ elim (ended_writes move old may write.turn ended) [
      | inl told ↦
          moves.written.all write.frame (Contains-append_left (written_by move) old.written write.frame
          (subst (λ (f : FrameNumber). Contains (written_by move) f) (one_frame_still told.0 write (queued_now told.0 told.1) there told.2) told.3))
      | inr unqueued ↦ elim (queued_then write there) [
        | inl now ↦ absurd (none_in write (subst (λ (ws : List Write). Contains ws write) unqueued.1 now))
        | inr earlier ↦ absurd (used_unqueued write.turn write unqueued.0 earlier refl)
      ]
    ]
    | inr before ↦ elim (queued_then write there) [
      | inl now ↦
          let low = is.after_left write.turn write.turn (used_lay move old may write.turn (queued_used move write now)) before refl in
          absurd (omega (arith, low))
      | inr earlier ↦ moves.written.all write.frame (Contains-append_right (written_by move) old.written write.frame (is.left_written write earlier before))
    ]
  ]

  live_settled_still : (turn : Turn) → Contains new.live turn → IsSettled new turn
  live_settled_still turn there = by_source (source move old new is may moves.live turn there)
    where
      at_next : (used : Turn) → Contains old.live used → Contains (used_by move) used → turn ≡ turn_after used → IsSettled new turn
      at_next used lay among next k low =
          let number = ap (λ (t : Turn). t.1) next in
          let buffer = ap (λ (t : Turn). t.0) next in
          subst (λ (b : ℕ). HasLeftOrIsOwed new (b, k)) (sym buffer) (elim (cases_lt k used.1) [
            | inl less ↦ still_settled (used.0, k) (is.live_settled used lay k less)
            | inr most ↦
                let equal : used.1 ≡ k = omega (arith, number, low, most) in
                subst (λ (n : ℕ). HasLeftOrIsOwed new (used.0, n)) equal (used_settled used among)
          ])

      by_source : Source move old turn → IsSettled new turn
      by_source (Was was apart) = λ k low. still_settled (turn.0, k) (is.live_settled turn was k low)
      by_source (Next used lay only next) = at_next used lay (subst (λ (ts : List Turn). Contains ts used) (sym only) (first used [])) next
      by_source (New buffer unmade among is_new none) = λ k low. let number = ap (λ (t : Turn). t.1) is_new in absurd (omega (arith, number, low))

  owed_settled_still : (write : Write) → Contains new.owed write → IsSettled new write.turn
  owed_settled_still write there k low = elim (Contains-append_cases (owed_by move) old.owed write (moves.owed write there)) [
    | inl now ↦ still_settled (write.turn.0, k) (is.live_settled write.turn (used_lay move old may write.turn (queued_used move write (owed_is move write now))) k low)
    | inr earlier ↦ still_settled (write.turn.0, k) (is.owed_settled write earlier k low)
  ]

  keeps : IsLedger new
  keeps = record {
    one = one_still;
    after_left = after_left_still;
    after_queued = after_queued_still;
    live_made = live_made_still;
    left_made = left_made_still;
    queued_made = queued_made_still;
    one_frame = one_frame_still;
    one_turn = one_turn_still;
    owed_queued = owed_queued_still;
    written_queued = written_queued_still;
    written_left = written_left_still;
    left_written = left_written_still;
    live_settled = live_settled_still;
    owed_settled = owed_settled_still;
  }

pub move_keeps : (move : Move) (old new : Ledger) → IsLedger old → MayMove move old → Moves move old new → IsLedger new
move_keeps move old new is may moves = keeps move old new is may moves

-- A look at a frame tells whether it was written.
use Rattle.std.proofs.Common.{◌≡◌, ℕ, ◌+◌, ◌≤◌, ◌<◌, ◌==◌, ◌&&◌, Bool, true, false, List, [], ◌∷◌, inl, inr, ap, sym, subst, refl, ◌∙◌, arith, ◌⊎◌}
use Rattle.std.specs.Prelude.{Contains, nat_le}
use Rattle.std.specs.List.{list_any, sum_by}
use Rattle.std.proofs.lemmas.Bool.{cases_Bool, cases_lt, eqb-true, eq-eqb, false≢true}
use Rattle.std.proofs.lemmas.Bool.Decides.{nat_tests}
use Rattle.std.proofs.lemmas.List.Recursion.{is_sum_by}
use Rattle.sf_actor_set.specs.sf_turns.Counts.{IsExact, leaf_at, leaves_of}
use Rattle.sf_actor_set.specs.sf_surface.Reading.{has_left}
use Rattle.sf_actor_set.specs.sf_surface.Tokens.{ReadLeaseOf}
use Rattle.sf_actor_set.specs.sf_actor.Known.{frame_of}
use Rattle.sf_actor_set.specs.sf_actor.Rights.{Turn, turn_by}
use Rattle.sf_actor_set.specs.sf_actor.Written.{FrameNumber}
use Rattle.law_rights.specs.Ledgers.{IsLedger, Ledger}
use Rattle.law_rights.specs.Loads.{IsQueuedFrame, is_written}
use Rattle.law_rights.proofs.TurnCounts.{counted, first, found, in_front, is_turn, later, none_in}

count_turn : (turn : Turn) (xs : List Turn) → leaf_at turn.0 turn.1 xs ≡ sum_by (is_turn turn) xs
count_turn turn xs = is_sum_by (leaf_at turn.0 turn.1) (is_turn turn) refl (λ x xs. refl) xs

-- where all leaves are known, a turn has left exactly where it is below their count
pub left_below : (buffers : ℕ) (left seen : List (ℕ × ℕ)) (turn : Turn) → IsExact buffers left seen → turn.0 < buffers → Contains left turn → turn.1 < leaves_of turn.0 left
left_below buffers left seen turn exact low there = elim (cases_lt turn.1 (leaves_of turn.0 left)) [
  | inl below ↦ below
  | inr past ↦
      let never = exact.never turn.0 turn.1 low past in
      let counts = counted turn left there in
      let same = count_turn turn left in
      absurd (omega (arith, never, counts, same))
]

pub below_left : (buffers : ℕ) (left seen : List (ℕ × ℕ)) (turn : Turn) → IsExact buffers left seen → turn.0 < buffers → turn.1 < leaves_of turn.0 left → Contains left turn
below_left buffers left seen turn exact low below =
    let once = exact.once turn.0 turn.1 low below in
    let same = count_turn turn left in
    found turn left (omega (arith, once, same))

-- whether a frame is among those
abbrev is_it : FrameNumber → FrameNumber → Bool
is_it frame w = (w.0.0 == frame.0.0) && (w.1 == frame.1)

both : (a b : Bool) → (a && b) ≡ true → (a ≡ true) × (b ≡ true)
both true b met = (refl, met)
both false b met = absurd (false≢true met)

found_frame : (frame : FrameNumber) (written : List FrameNumber) → list_any (is_it frame) written ≡ true → Contains written frame
found_frame frame [] none = absurd (false≢true none)
found_frame frame (w ∷ written) some = by_test (cases_Bool (is_it frame w)) (found_frame frame written)
  where
    same : is_it frame w ≡ true → w ≡ frame
    same met =
        let parts = both (w.0.0 == frame.0.0) (w.1 == frame.1) met in
        let queue = eqb-true w.0.0 frame.0.0 parts.0 in
        let number = eqb-true w.1 frame.1 parts.1 in
        λ i. (record { 0 = queue i }, number i)

    by_test : (is_it frame w ≡ true) ⊎ (is_it frame w ≡ false) → (list_any (is_it frame) written ≡ true → Contains written frame) → Contains (w ∷ written) frame
    by_test (inl met) further = subst (λ (f : FrameNumber). Contains (w ∷ written) f) (same met) (first w written)
    by_test (inr unmet) further = later w frame written (further (rw unmet at some))

has_frame : (frame : FrameNumber) (written : List FrameNumber) → Contains written frame → list_any (is_it frame) written ≡ true
has_frame frame [] there = absurd (none_in frame there)
has_frame frame (w ∷ written) there = by_place (in_front w frame written there) (has_frame frame written)
  where
    itself : is_it frame frame ≡ true
    itself = rw (eq-eqb frame.0.0 frame.0.0 refl, eq-eqb frame.1 frame.1 refl) refl

    by_place : (w ≡ frame) ⊎ Contains written frame → (Contains written frame → list_any (is_it frame) written ≡ true) → list_any (is_it frame) (w ∷ written) ≡ true
    by_place (inl same) further = rw (subst (λ (f : FrameNumber). is_it frame f ≡ true) (sym same) itself) refl
    by_place (inr rest) further = elim (cases_Bool (is_it frame w)) [
      | inl met ↦ rw met refl
      | inr unmet ↦ rw unmet (further rest)
    ]

pub look_tells : (buffers : ℕ) (seen : List (ℕ × ℕ)) (l : Ledger) (lease : ReadLeaseOf) → IsLedger l → IsExact buffers l.left seen → lease.turn.buffer < buffers → IsQueuedFrame l lease
    → has_left l.left (turn_by lease.turn) ≡ is_written l.written (frame_of lease)
look_tells buffers seen l lease is exact low queued = by_written (cases_Bool (is_written l.written (frame_of lease)))
  where
    buffer : lease.turn.buffer ≡ queued.write.turn.0
    buffer = ap (λ (t : Turn). t.0) queued.follows

    number : lease.turn.number ≡ queued.write.turn.1 + 1
    number = ap (λ (t : Turn). t.1) queued.follows

    within : queued.write.turn.0 < buffers
    within = subst (λ (b : ℕ). b < buffers) buffer low

    same_frame : is_written l.written (frame_of lease) ≡ list_any (is_it queued.write.frame) l.written
    same_frame = ap (λ (f : FrameNumber). list_any (is_it f) l.written) (sym queued.frame)

    count : leaves_of lease.turn.buffer l.left ≡ leaves_of queued.write.turn.0 l.left
    count = ap (λ (b : ℕ). leaves_of b l.left) buffer

    reached : queued.write.turn.1 < leaves_of queued.write.turn.0 l.left → nat_le lease.turn.number (leaves_of lease.turn.buffer l.left) ≡ true
    reached below = grind (arith, nat_tests, below, number, count)

    short : leaves_of queued.write.turn.0 l.left ≤ queued.write.turn.1 → nat_le lease.turn.number (leaves_of lease.turn.buffer l.left) ≡ false
    short past = grind (arith, nat_tests, past, number, count)

    by_written : (is_written l.written (frame_of lease) ≡ true) ⊎ (is_written l.written (frame_of lease) ≡ false) → has_left l.left (turn_by lease.turn) ≡ is_written l.written (frame_of lease)
    by_written (inl met) =
        let written = found_frame queued.write.frame l.written (sym same_frame ∙ met) in
        let gone = is.written_left queued.write queued.queued written in
        reached (left_below buffers l.left seen queued.write.turn exact within gone) ∙ sym met
    by_written (inr unmet) = elim (cases_lt queued.write.turn.1 (leaves_of queued.write.turn.0 l.left)) [
      | inl below ↦
          let gone = below_left buffers l.left seen queued.write.turn exact within below in
          let written = is.left_written queued.write queued.queued gone in
          absurd (false≢true (sym unmet ∙ same_frame ∙ has_frame queued.write.frame l.written written))
      | inr past ↦ short past ∙ sym unmet
    ]

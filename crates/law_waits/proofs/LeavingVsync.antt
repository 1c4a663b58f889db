-- A vsync leaves nobody behind it: it goes on until none of what waits is ready.
use Rattle.std.proofs.Common.{◌≡◌, ℕ, ◌==◌, ◌&&◌, Bool, true, false, List, [], ◌∷◌, filter, map, Option, Some, None, refl, ap, sym, subst, ◌∙◌, true≢false}
use Rattle.std.specs.Prelude.{All, cond, is_none, nat_lt}
use Rattle.std.specs.List.{find}
use Rattle.std.specs.Option.{option_map_or, option_or}
use Rattle.std.proofs.lemmas.Bool.{eqb-true}
use Rattle.std.proofs.lemmas.List.Elements.{All-cons, All-head, All-nil, All-tail}
use Rattle.std.proofs.lemmas.Option.{none-some}
use Rattle.sf_commit.specs.inner.Deciding.{DecidesSame}
use Rattle.sf_commit.proofs.DecideLemmas.{hold_same}
use Rattle.law_played.specs.sf_actor.Names.{FrameOf}
use Rattle.law_played.specs.sf_commit.Rounds.{IsNext, Round, facts_of}
use Rattle.law_played.specs.sf_commit_next.Heads.{head_hold}
use Rattle.law_played.specs.sf_ready.Facts.{FactsOf}
use Rattle.law_played.specs.sf_ready.Holds.{barrier_hold, fence_hold, hold_of, pressure_hold, time_hold, undrawn_hold}
use Rattle.law_played.specs.sf_ready.declared.hold.Hold.{Hold}
use Rattle.law_played.specs.sf_ready.declared.hold.Hold.TheVariants as hold
use Rattle.law_played.specs.sf_record.declared.record.CommitRecord.{CommitRecord}
use Rattle.law_played.specs.sf_token.Pending.{Arrival, IsRisingFrom, has_number, head_of, is_of}
use Rattle.law_played.specs.sf_txn.Buffers.{Buffer}
use Rattle.law_played.specs.sf_txn.Transactions.{Contents}
use Rattle.law_played.proofs.EndLemmas.{head_framed}
use Rattle.law_played.proofs.HoldLemmas.{hold_framed}
use Rattle.law_played.proofs.OrderLemmas.{found_all, found_has, rising_filter, rising_unframed}
use Rattle.law_played.proofs.PathLemmas.{not_ready}
use Rattle.law_played.specs.Commits.{seen_by}
use Rattle.law_played.specs.Framing.{framed_arrival, framed_buffer, framed_txn}
use Rattle.law_played.specs.Holds.{is_head, is_uncommitted, uncommitted}
use Rattle.law_played.specs.Stages.{VsyncAt}
use Rattle.law_waits.specs.Leaving.{LeavesNoneAt, WaitsAtEnd, greatest_arrival, is_behind, none_ended}

-- what holds of all that a test lets through, where it holds of each of which that is so
passes_all : {X Y : Type 0} (f : X → Y) (test : Y → Bool) (P : Y → Type 0) (xs : List X) → All (λ (x : X). test (f x) ≡ true → P (f x)) xs → All P (filter test (map f xs))
passes_all f test P [] all = All-nil P
passes_all {X} f test P (x ∷ xs) all = by_test (passes_all f test P xs (All-tail (λ (x : X). test (f x) ≡ true → P (f x)) x xs all)) (test (f x)) refl
  where
    by_test : All P (filter test (map f xs)) → (b : Bool) → test (f x) ≡ b → All P (cond b (f x ∷ filter test (map f xs)) (filter test (map f xs)))
    by_test rest true e = All-cons P (f x) (filter test (map f xs)) (All-head (λ (x : X). test (f x) ≡ true → P (f x)) x xs all e) rest
    by_test rest false e = rest

first_of_and : (b c : Bool) → (b && c) ≡ true → b ≡ true
first_of_and true c e = refl
first_of_and false c e = absurd (true≢false (sym e))

-- what nothing holds where no write has ended is held by nothing, whichever writes have ended
free_parts : {L : Type 0} (time fence : Option Hold) (buffers : List (Buffer L)) (drawn : List Bool) (rest : Option Hold)
    → option_or time (option_or fence (option_or (undrawn_hold buffers (map (λ (b : Buffer L). false) buffers)) rest)) ≡ None
    → option_or time (option_or fence (option_or (undrawn_hold buffers drawn) rest)) ≡ None
free_parts (Some h) fence buffers drawn rest free = free
free_parts None (Some h) buffers drawn rest free = free
free_parts None None [] drawn rest free = free
free_parts None None (b ∷ buffers) drawn rest free = absurd (none-some (hold.Undrawn b.shown.queue b.shown.frame) (sym free))

free_then : {L : Type 0} (txn : Contents L) (drawn : List Bool) (facts : FactsOf) (seen : _) (expected : ℕ)
    → hold_of txn (map (λ (b : Buffer L). false) txn.buffers) facts seen expected ≡ None → hold_of txn drawn facts seen expected ≡ None
unfolding hold_of
free_then txn drawn facts seen expected =
    free_parts (time_hold txn.desired expected) (fence_hold txn.buffers seen) txn.buffers drawn
    (option_or (barrier_hold txn.barriers facts.frames) (pressure_hold txn.desired txn.buffers facts.fresh facts.pressed))

-- none of these counts as written
none_framed : {L : Type 0} (frame : L → FrameOf) (buffers : List (Buffer L)) → map (λ (b : Buffer FrameOf). none_ended b.lease) (map (framed_buffer frame) buffers) ≡ map (λ (b : Buffer L). false) buffers
none_framed frame [] = refl
none_framed frame (b ∷ buffers) = ap (λ rest. false ∷ rest) (none_framed frame buffers)

module _ {L : Type 0} (frame : L → FrameOf) (drawn : L → Bool) (arrivals : List (Arrival FrameOf)) (last : ℕ) (commits : List CommitRecord) (told : VsyncAt) (end : Round L)
    (facts : DecidesSame (facts_of told.round) (facts_of end)) (rising : IsRisingFrom 0 arrivals last) (waits : map (framed_arrival frame) end.pending ≡ uncommitted arrivals commits)
    (rests : IsNext drawn (seen_by told.vsync) told.vsync.expected end None) where
  -- of what waits at the end, each is found by its number
  found_then : All (λ (x : Arrival L). find (has_number x.number) end.pending ≡ Some x) end.pending
  found_then = found_all 0 end.pending last (rising_unframed frame 0 end.pending last
      (subst (λ (xs : List (Arrival FrameOf)). IsRisingFrom 0 xs last) (sym waits) (rising_filter (is_uncommitted commits) 0 arrivals last rising)))

  -- what nothing holds by what is told, nothing held as the vsync ended
  free_at_end : (a : Arrival L) → head_hold none_ended (seen_by told.vsync) told.vsync.expected (facts_of told.round) (framed_arrival frame a) ≡ None
      → head_hold drawn (seen_by told.vsync) told.vsync.expected (facts_of end) a ≡ None
  free_at_end a none =
      free_then a.txn (map (λ (b : Buffer L). drawn b.lease) a.txn.buffers) (facts_of end) (seen_by told.vsync) told.vsync.expected
      (sym (hold_same a.txn (map (λ (b : Buffer L). false) a.txn.buffers) (facts_of told.round) (facts_of end) (seen_by told.vsync) told.vsync.expected facts)
      ∙ (sym (hold_framed frame a.txn (map (λ (b : Buffer L). false) a.txn.buffers) (facts_of told.round) (seen_by told.vsync) told.vsync.expected)
      ∙ (ap (λ flags. hold_of (framed_txn frame a.txn) flags (facts_of told.round) (seen_by told.vsync) told.vsync.expected) (sym (none_framed frame a.txn.buffers)) ∙ none)))

  first_is : (a : Arrival L) → find (has_number a.number) end.pending ≡ Some a → (o : Option (Arrival L)) → head_of a.txn.token end.pending ≡ o
      → option_map_or (λ (first : Arrival L). first.number == a.number) o false ≡ true → head_of a.txn.token end.pending ≡ Some a
  first_is a its None e t = absurd (true≢false (sym t))
  first_is a its (Some b) e t =
      let same = found_has (λ (x : Arrival L). find (has_number x.number) end.pending ≡ Some x) (is_of a.txn.token) end.pending b found_then e in
      e ∙ (sym same ∙ (ap (λ n. find (has_number n) end.pending) (eqb-true b.number a.number t) ∙ its))

  waits_held : (a : Arrival L) → find (has_number a.number) end.pending ≡ Some a → is_behind (map (framed_arrival frame) end.pending) commits (framed_arrival frame a) ≡ true
      → WaitsAtEnd told (framed_arrival frame a)
  waits_held a its behind none =
      let heads = first_of_and (is_head (map (framed_arrival frame) end.pending) (framed_arrival frame a)) (nat_lt a.number (greatest_arrival commits)) behind in
      let first = first_is a its (head_of a.txn.token end.pending) refl (sym (head_framed frame a.txn.token end.pending a.number) ∙ heads) in
      let held = not_ready drawn (seen_by told.vsync) told.vsync.expected (facts_of end) end.pending a (rests a.txn.token) first in
      true≢false (sym (ap (λ o. is_none o) (free_at_end a none)) ∙ held)

  -- so a vsync that rests leaves nobody behind
  pub leaves_none : LeavesNoneAt arrivals commits told
  leaves_none = subst (λ (xs : List (Arrival FrameOf)). All (WaitsAtEnd told) (filter (is_behind xs commits) xs)) waits
      (passes_all (framed_arrival frame) (is_behind (map (framed_arrival frame) end.pending) commits) (WaitsAtEnd told) end.pending (λ k d within. waits_held _ (found_then k d within)))

-- How the writing of records goes on: what one call wrote, and then the next one.
use Rattle.std.proofs.Common.{◌≡◌, ℕ, ◌+◌, ◌<◌, ◌≤◌, List, [], ◌∷◌, ◌++◌, length, get_or, take, map, Option, Result, Ok, Err, arith}
use Rattle.sf_play.specs.sf_record.declared.encode.RunFault.{RunFault}
use Rattle.sf_play.specs.sf_record.declared.record.Record.{Record}
use Rattle.sf_io.specs.Causes.{Rose}
use Rattle.sf_play_write.specs.Writing.{Wrote}
use Rattle.sf_play_write.proofs.WritingLemmas.{each_more, each_part, last_cut, last_written, part_front, shown_more, shown_part, still_later, writes_none}

-- a count that rose since then rose since any time before
pub rose_since : (first before now : ℕ) → first ≤ before → Rose before now → Rose first now
rose_since first before now later rose = omega (arith, later, rose)

module _ {S : Type 0} (taken : S → Option (List ℕ)) (faults : S → ℕ) where
  -- nothing was to be written
  pub wrote_none : (s : S) → Wrote {A = Unit {0}} taken faults s s (Ok tt) []
  wrote_none s = record { ok = writes_none (taken s); err = tt; later = omega arith; failed = λ fails. absurd (cc fails) }

  -- a fault among the first records
  pub wrote_cut : (a b : S) (fault : RunFault) (rs ss : List Record) → Wrote {A = Unit {0}} taken faults a b (Err fault) rs → Wrote {A = Unit {0}} taken faults a b (Err fault) (rs ++ ss)
  wrote_cut a b fault rs ss wrote = record { ok = tt; err = part_front (taken a) (taken b) rs ss wrote.err; later = wrote.later; failed = wrote.failed }

  -- the first records were written, and then the others
  pub wrote_then : (a b c : S) (result : Result (Unit {0}) RunFault) (rs ss : List Record)
      → Wrote {A = Unit {0}} taken faults a b (Ok tt) rs → Wrote taken faults b c result ss → Wrote taken faults a c result (rs ++ ss)
  wrote_then a b c result rs ss first last = record {
    ok = last_written result (taken a) (taken b) (taken c) rs ss first.ok last.ok;
    err = last_cut result (taken a) (taken b) (taken c) rs ss first.ok last.err;
    later = still_later (faults a) (faults b) (faults c) first.later last.later;
    failed = λ fails. rose_since (faults a) (faults b) (faults c) first.later (last.failed fails);
  }

  -- one more record of what is made of a list, and a fault at it
  module _ {X Y : Type 0} (f : X → Y) (r : Y → Record) (a b c : S) (xs : List X) (i : ℕ) (x : X) (below : i < length xs) (is : x ≡ get_or xs i x)
      (before : Wrote {A = Unit {0}} taken faults a b (Ok tt) (map r (map f (take i xs)))) where
    pub wrote_each : Wrote {A = Unit {0}} taken faults b c (Ok tt) (r (f x) ∷ []) → Wrote {A = Unit {0}} taken faults a c (Ok tt) (map r (map f (take (i + 1) xs)))
    wrote_each now = record {
      ok = each_more f r (taken a) (taken b) (taken c) xs i x below is before.ok now.ok;
      err = tt;
      later = still_later (faults a) (faults b) (faults c) before.later now.later;
      failed = λ fails. absurd (cc fails);
    }

    pub wrote_each_cut : (fault : RunFault) → Wrote {A = Unit {0}} taken faults b c (Err fault) (r (f x) ∷ []) → Wrote {A = Unit {0}} taken faults a c (Err fault) (map r (map f xs))
    wrote_each_cut fault now = record {
      ok = tt;
      err = each_part f r (taken a) (taken b) (taken c) xs i x below is before.ok now.err;
      later = still_later (faults a) (faults b) (faults c) before.later now.later;
      failed = λ fails. rose_since (faults a) (faults b) (faults c) before.later (now.failed fails);
    }

  -- records of items that are handed out one after another: one more, and a fault at it
  module _ {X : Type 0} (f : X → Record) (a b c : S) (given : List X) (x : X) (before : Wrote {A = Unit {0}} taken faults a b (Ok tt) (map f given)) where
    pub wrote_shown : Wrote {A = Unit {0}} taken faults b c (Ok tt) (f x ∷ []) → Wrote {A = Unit {0}} taken faults a c (Ok tt) (map f (given ++ x ∷ []))
    wrote_shown now = record {
      ok = shown_more f (taken a) (taken b) (taken c) given x before.ok now.ok;
      err = tt;
      later = still_later (faults a) (faults b) (faults c) before.later now.later;
      failed = λ fails. absurd (cc fails);
    }

    pub wrote_shown_cut : (all : List X) (fault : RunFault) → given ≡ take (length given) all → length given < length all → x ≡ get_or all (length given) x
        → Wrote {A = Unit {0}} taken faults b c (Err fault) (f x ∷ []) → Wrote {A = Unit {0}} taken faults a c (Err fault) (map f all)
    wrote_shown_cut all fault so_far below is now = record {
      ok = tt;
      err = shown_part f (taken a) (taken b) (taken c) all given x so_far below is before.ok now.err;
      later = still_later (faults a) (faults b) (faults c) before.later now.later;
      failed = λ fails. rose_since (faults a) (faults b) (faults c) before.later (now.failed fails);
    }

-- What contracts see of a pass.
use Rattle.std.specs.Prelude.{ℕ, Bool, List, Option}
use Rattle.atomic_table.specs.Seated.{TableId}
use Rattle.sf_calls.specs.declared.object.Entry.{Entry}
use Rattle.sf_calls.specs.declared.protocol.Knows.{Knows}

-- The lock's table, whether it is the first pass, the caller's number, the object's mark, the
-- history at `open`, the numbers of the passes that it gave, the last one first, those of the
-- passes that it took in, each with the history that that pass knew, the history that it knows,
-- and its number of turns under the lock.
pub record PassView (C R M : Type 0) : Type 0 where
  pub table : TableId
  pub is_first : Bool
  pub by : ℕ
  pub mark : Option M
  pub start : List (Entry C R)
  pub gave : List ℕ
  pub took : List (ℕ × List (Entry C R))
  pub seen : List (Entry C R)
  pub turns : ℕ

-- the view of a pass that is in no call
abbrev pub pass_view : {C R M : Type 0} → TableId → Knows C R M → PassView C R M
pass_view table v = record {
  table = table;
  is_first = v.is_first;
  by = v.by;
  mark = v.mark;
  start = v.start;
  gave = v.gave;
  took = v.took;
  seen = v.seen;
  turns = v.turns;
}

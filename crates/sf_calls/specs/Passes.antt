-- What a pass knows after `open`, `split` and `meet`.
use Rattle.std.specs.Prelude.{◌≡◌, ℕ, true, false, Some, List, [], ◌∷◌, map, Contains}
use Rattle.atomic_table.specs.Seated.{TableId}
use Rattle.sf_calls.specs.declared.object.Entry.{Entry}
use Rattle.sf_calls.specs.Histories.{longer}
use Rattle.sf_calls.specs.Views.{PassView}

module _ {C R M : Type 0} where
  -- the first pass, as `open` gives it
  abbrev pub first_pass : TableId → ℕ → M → List (Entry C R) → PassView C R M
  first_pass table by mark history = record {
    table = table;
    is_first = true;
    by = by;
    mark = Some mark;
    start = history;
    gave = [];
    took = [];
    seen = history;
    turns = 0;
  }

  -- the first pass, after it gave one to the caller
  abbrev pub giving : ℕ → PassView C R M → PassView C R M
  giving by v = record v { gave = by ∷ v.gave }

  -- the pass that was given
  abbrev pub given : ℕ → PassView C R M → PassView C R M
  given by v = record v { is_first = false; by = by; gave = []; took = []; turns = 0 }

  -- the first pass, after it took another in
  abbrev pub met : PassView C R M → PassView C R M → PassView C R M
  met v w = record v { took = (w.by, w.seen) ∷ v.took; seen = longer v.seen w.seen }

  -- the object of the pass's lock has the mark
  abbrev pub HasMark : PassView C R M → M → Type 0
  HasMark v m = v.mark ≡ Some m

  -- the tokens of the call are ones of the object's mark
  abbrev pub Fits : {D : Type 0} → (M → D → Type 0) → PassView C R M → D → Type 0
  Fits fits v call = (m : M) × HasMark v m × fits m call

-- every number that was given was taken in
abbrev pub TookAll : {X : Type 0} → List ℕ → List (ℕ × X) → Type 0
TookAll {X} gave took = (b : ℕ) → Contains gave b → Contains (map (λ (p : ℕ × X). p.0) took) b

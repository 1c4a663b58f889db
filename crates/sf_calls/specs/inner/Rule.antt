-- What holds between any two atomic steps at a lock, and what each kind of step shows. The word 0
-- is the next ticket, the word 1 the ticket that is served, and the slot has the object.
use Rattle.std.specs.Prelude.{◌≡◌, ℕ, ◌+◌, ◌<◌, ◌≤◌, ◌^◌, ◌==◌, true, false, Option, Some, None}
use Rattle.std.specs.Prelude.{List, [], ◌∷◌, ◌⊎◌, length, slice_index, Contains, sum_by, if◌then◌else◌, ◌≢◌}
use mathlib.Core.Option.{some, none}
use lib.ListN.{get_elem?}
use Rattle.atomic_table.specs.Table.{State, Me, Step}
use Rattle.sf_calls.specs.declared.protocol.Knows.{Knows}
use Rattle.sf_calls.specs.declared.object.Entry.{Entry}
use Rattle.sf_calls.specs.declared.object.Answer.{Answer}
use Rattle.sf_calls.specs.Histories.{IsLegal, Begins, calls_by, longer}

-- 1 where it is the ticket k, else 0
abbrev pub ticket_at : ℕ → Option ℕ → ℕ
ticket_at k None = 0
ticket_at k (Some n) = if k == n then 1 else 0

-- 1 where a live pass has the number b, else 0
abbrev pub number_at : ℕ → ℕ → ℕ → ℕ
number_at b live by = if b == by then live else 0

module _ {O C R M : Type 0} (history : O → List (Entry C R)) (mark : O → M)
    (answers : M → List (Entry C R) → ℕ → C → Answer R → Type 0) (key : O) where
  -- What holds of the pass j, where `log` is the object's history and `cast` the numbers of the first
  -- pass and of those that it gave: it knows a beginning of the history, with all calls of its own
  -- number; a ticket that it holds was drawn and not served yet; and the one that has the object holds
  -- the ticket that is served and found the whole history.
  pub record Fits (serving next : ℕ) (home : mathlib.Core.Option.Option (mathlib.Core.Option.Option (Option O)))
      (log : List (Entry C R)) (cast : List ℕ) (j : ℕ) (v : Knows C R M) : Type 0 where
    pub marked : v.live ≡ 1 → v.mark ≡ Some (mark key)
    pub begins : Begins v.seen log
    pub own : v.live ≡ 1 → calls_by v.by log ≡ calls_by v.by v.seen
    pub ticket : (k : ℕ) → v.ticket ≡ Some k → (serving ≤ k) × (k < next)
    pub inside : v.inside ≡ true → (v.ticket ≡ Some serving) × (home ≡ some none) × (v.found ≡ log)
    pub number : v.live ≡ 1 → Contains cast v.by
    -- outside, what was found last begins what was seen, with the same calls of its own
    pub idle : v.inside ≡ false → Begins v.found v.seen × (v.live ≡ 1 → calls_by v.by v.seen ≡ calls_by v.by v.found)
    pub one : v.live ≤ 1
    pub start : v.is_first ≡ true → v.start ≡ history key
    pub first : v.is_first ≡ true → (j ≡ 0) × (v.live ≡ 1) × (cast ≡ v.by ∷ v.gave)
        × ((p : ℕ × List (Entry C R)) → Contains v.took p → Contains cast p.0
        × (calls_by p.0 log ≡ calls_by p.0 p.1) × Begins p.1 v.seen) × Begins (history key) v.seen

  -- The rule: the history is legal and goes on from that at `open`; the object is home with this
  -- history, or one pass has it; no two passes hold one ticket or one number; a number that was taken
  -- in is no live pass's.
  pub record Kept (s : State (Option O) (Knows C R M)) : Type 0 where
    pub wide : length s.words ≡ 3
    pub one_home : length s.homes ≡ 1
    pub log : List (Entry C R)
    pub cast : List ℕ
    pub legal : IsLegal (answers (mark key)) log
    pub since : Begins (history key) log
    -- past the history at the start it has no calls but those of the numbers that were given
    pub callers : (b : ℕ) → (Contains cast b → ⊥) → calls_by b log ≡ calls_by b (history key)
    pub order : slice_index s.words 1 ≤ slice_index s.words 0
    pub short : slice_index s.words 0 < 2 ^ 64
    -- the object is home, or some pass has it
    pub home : ((o : O) × (get_elem? s.homes 0 ≡ some (some (Some o))) × (history o ≡ log) × (mark o ≡ mark key))
        ⊎ ((get_elem? s.homes 0 ≡ some none) × ((j : ℕ) × (v : Knows C R M) × (get_elem? s.views j ≡ some v) × (v.inside ≡ true) × (v.live ≡ 1)))
    pub single : (k : ℕ) → sum_by (λ (v : Knows C R M). ticket_at k v.ticket) s.views ≤ 1
    pub apart : (b : ℕ) → sum_by (λ (v : Knows C R M). number_at b v.live v.by) s.views ≤ 1
    pub gone : (j : ℕ) (v : Knows C R M) (p : ℕ × List (Entry C R)) → get_elem? s.views j ≡ some v
        → v.is_first ≡ true → Contains v.took p → sum_by (λ (v : Knows C R M). number_at p.0 v.live v.by) s.views ≡ 0
    pub each : (j : ℕ) (v : Knows C R M) → get_elem? s.views j ≡ some v
        → Fits (slice_index s.words 1) (slice_index s.words 0) (get_elem? s.homes 0) log cast j v

module _ {C R M : Type 0} where
  -- the first pass, as it is opened
  abbrev pub opened : ℕ → M → List (Entry C R) → Knows C R M
  opened by m log = record {
    is_first = true;
    live = 1;
    by = by;
    mark = Some m;
    start = log;
    gave = [];
    took = [];
    seen = log;
    turns = 0;
    ticket = None;
    inside = false;
    found = log;
    asked = 0;
  }

  -- what is left of a pass that was taken in
  abbrev pub spent : Knows C R M
  spent = record {
    is_first = false;
    live = 0;
    by = 0;
    mark = None;
    start = [];
    gave = [];
    took = [];
    seen = [];
    turns = 0;
    ticket = None;
    inside = false;
    found = [];
    asked = 0;
  }

  -- the first pass, after it gave one to the caller that its last step named
  abbrev pub giving : Knows C R M → Knows C R M
  giving v = record v { gave = v.asked ∷ v.gave }

  -- the pass, after it gave the object back with this history, in one more turn
  abbrev pub passed_on : List (Entry C R) → Knows C R M → Knows C R M
  passed_on history v = record v { seen = history; turns = v.turns + 1; ticket = None; inside = false; found = history }

  -- the pass that was given, which knows what the first one knows
  abbrev pub given : Knows C R M → Knows C R M
  given v = record {
    is_first = false;
    live = 1;
    by = v.asked;
    mark = v.mark;
    start = v.start;
    gave = [];
    took = [];
    seen = v.seen;
    turns = 0;
    ticket = None;
    inside = false;
    found = v.seen;
    asked = 0;
  }

  -- the first pass, after it took another in: it knows the longer of both histories
  abbrev pub met : Knows C R M → Knows C R M → Knows C R M
  met v w = record v { took = (w.by, w.seen) ∷ v.took; seen = longer v.seen w.seen; found = v.seen }

  module _ {O : Type 0} where
    -- a ticket was drawn where the word was as expected
    abbrev pub Draws : Step (Option O) → Me (Option O) (Knows C R M) → ℕ → Me (Option O) (Knows C R M) → Type 0
    Draws st m n m' = (n ≡ st.first → m' ≡ (record m.0 { ticket = Some n }, m.1)) × (n ≢ st.first → m' ≡ m)

    -- the number of a caller was named
    abbrev pub Asks : Step (Option O) → Me (Option O) (Knows C R M) → ℕ → Me (Option O) (Knows C R M) → Type 0
    Asks st m n m' = m' ≡ (record m.0 { asked = st.first }, m.1)

    -- the pass whose ticket is served has the object, and finds the history
    abbrev pub Finds : (O → List (Entry C R)) → (O → M) → (M → List (Entry C R) → ℕ → C → Answer R → Type 0)
        → Step (Option O) → Me (Option O) (Knows C R M) → ℕ → Me (Option O) (Knows C R M) → Type 0
    Finds history mark answers st m n m' =
        (m.0.ticket ≡ Some n → (o : O) × (m' ≡ (
          record m.0 {
            inside = true;
            found = history o;
          },
          (0, Some o) ∷ m.1,
        )) × IsLegal (answers (mark o)) (history o)
        × Begins m.0.seen (history o) × (calls_by m.0.by (history o) ≡ calls_by m.0.by m.0.seen)
        × (m.0.mark ≡ Some (mark o)))
        × (m.0.ticket ≢ Some n → m' ≡ m)

    -- the object is home, and the next ticket is served
    abbrev pub PassesOn : (O → List (Entry C R)) → Step (Option O) → Me (Option O) (Knows C R M) → ℕ → Me (Option O) (Knows C R M) → Type 0
    PassesOn history st m n m' = (o : O) → m.1 ≡ (0, Some o) ∷ []
        → m' ≡ (
          record m.0 {
            seen = history o;
            turns = m.0.turns + 1;
            ticket = None;
            inside = false;
            found = history o;
          },
          [],
        )

    -- the object is home unchanged, and the next ticket is served; the pass had no turn
    abbrev pub GivesUp : Step (Option O) → Me (Option O) (Knows C R M) → ℕ → Me (Option O) (Knows C R M) → Type 0
    GivesUp st m n m' = m' ≡ (record m.0 { ticket = None; inside = false; found = m.0.seen }, [])

    -- a load that changes nothing, and shows the first pass: the history that it knew before it took
    -- the last pass in, and all histories that were taken in, begin the one that it knows, which has
    -- no further calls of those numbers
    abbrev pub Recalls : Step (Option O) → Me (Option O) (Knows C R M) → ℕ → Me (Option O) (Knows C R M) → Type 0
    Recalls st m n m' =
        (m' ≡ m) × Begins m.0.found m.0.seen × (calls_by m.0.by m.0.seen ≡ calls_by m.0.by m.0.found)
        × ((p : ℕ × List (Entry C R)) → Contains m.0.took p → Begins p.1 m.0.seen × (calls_by p.0 m.0.seen ≡ calls_by p.0 p.1))

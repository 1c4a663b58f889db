-- What holds between any two atomic steps on the table of turns, and what each kind of step shows.
-- Per buffer the table has a word, which counts the turns that left, and a slot, the home of the
-- pixels. The last word counts nothing.
use Rattle.std.specs.Prelude.{◌≡◌, ℕ, ◌+◌, ◌-◌, ◌<◌, ◌≤◌, ◌^◌, true, false, Option, Some, None, List}
use Rattle.std.specs.Prelude.{[], ◌∷◌, ◌++◌, ◌⊎◌, length, take, drop, slice_index, slice_index_or, sum_by, ◌≢◌}
use mathlib.Core.Option.{some, none}
use lib.ListN.{get_elem?}
use Rattle.atomic_table.specs.Table.{State, Me, Step}
use Rattle.atomic_table.specs.declared.shared.Seat.{Seat}
use Rattle.sf_turns.specs.declared.protocol.Knows.{Knows}
use Rattle.sf_turns.specs.declared.protocol.Token.{Token}
use Rattle.sf_turns.specs.declared.protocol.Home.{Home}
use Rattle.sf_turns.specs.declared.protocol.Home.TheVariants.{Vacant, Full, Said}
use Rattle.sf_turns.specs.declared.protocol.Stage.{Stage}
use Rattle.sf_turns.specs.declared.protocol.Stage.TheVariants.{Away, Inside, Done}
use Rattle.sf_turns.specs.Counts.{leaf_at, leaves_of, stock_at, token_at, range, IsExact}
use Rattle.sf_base.specs.Points.{greatest}

-- 1 for a thread's seat
abbrev pub live_of : {T : Type 0} → Knows T → ℕ
live_of v = v.live

-- an option as the logic's lists read it
abbrev Place : Type 0 → Type 0 → Type 0
Place P T = mathlib.Core.Option.Option (mathlib.Core.Option.Option (Home P T))

module _ {P T : Type 0} (stamp_of : P → T) where
  -- the slot is home and holds a value of this stamp
  abbrev pub IsHome : Place P T → T → Type 0
  IsHome home x = (p : P) × (home ≡ some (some (Full p))) × (stamp_of p ≡ x)

  -- where the pixels of a buffer are, as one of its tokens has it: `left` turns have left
  abbrev pub Lies : ℕ → Place P T → ℕ → T → Option T → Stage → Type 0
  Lies left home number expects promise Away = number ≡ left → IsHome home expects
  Lies left home number expects promise Inside = (number ≡ left) × (home ≡ some none)
  Lies left home number expects promise Done = (number ≡ left) × ((x : T) × (promise ≡ Some x) × IsHome home x)

  -- what the chain of promises says of the turn after this one
  abbrev pub Promises : List T → ℕ → Option T → Type 0
  Promises chain number None = number + 1 ≡ length chain
  Promises chain number (Some x) = get_elem? chain (number + 1) ≡ some x

  -- the token of a turn, where `left` turns of its buffer have left and this is the chain of promises
  pub record TokenFits (left : ℕ) (home : Place P T) (chain : List T) (t : Token T) : Type 0 where
    pub from : left ≤ t.number
    pub expects : get_elem? chain t.number ≡ some t.expects
    pub promises : Promises chain t.number t.promise
    pub lies : Lies left home t.number t.expects t.promise t.stage

  -- a buffer that may still be opened
  pub record StockFits (left : ℕ) (home : Place P T) (chain : List T) (b : ℕ) (opens : Rattle.std.specs.Prelude.Bool) (stock : List ℕ) : Type 0 where
    pub fresh : left ≡ 0
    pub empty : chain ≡ []
    pub closed : opens ≡ false → home ≡ some (some Vacant)
    pub open_here : opens ≡ true → (home ≡ some none) × (stock ≡ b ∷ [])

  -- what holds of the seat j: it has seen no more than the words, its token and its stock fit, and no
  -- more than `out` of the first seat's are in use besides the first (`total` counts all)
  pub record Fits (buffers : ℕ) (words : List ℕ) (homes : List (mathlib.Core.Option.Option (Home P T)))
      (chains : List (List T)) (total : ℕ) (j : ℕ) (v : Knows T) : Type 0 where
    pub seen : (b : ℕ) → b < buffers → greatest b v.seen ≤ slice_index words b
    pub token : (t : Token T) → v.token ≡ Some t → (t.buffer < buffers)
        × TokenFits (slice_index words t.buffer) (get_elem? homes t.buffer) (slice_index_or chains t.buffer []) t
    pub stock : (b : ℕ) → 0 < stock_at b v.stock → (b < buffers)
        × StockFits (slice_index words b) (get_elem? homes b) (slice_index_or chains b []) b v.opens v.stock
    pub one : v.live ≤ 1
    pub apart : v.live ≡ 0 → v.leaves ≡ []
    pub first : v.is_first ≡ true → (j ≡ 0) × (v.live ≡ 1) × (total ≤ 1 + v.out)

  -- the rule
  pub record Kept (buffers : ℕ) (s : State (Home P T) (Knows T)) : Type 0 where
    pub wide : length s.words ≡ buffers + 1
    pub homes_wide : length s.homes ≡ buffers
    pub chains : List (List T)
    pub chains_wide : length chains ≡ buffers
    -- the turns of a buffer that have not left are those from the word on, up to the end of its chain, and each has one token
    pub ahead : (b : ℕ) → b < buffers → 0 < length (slice_index_or chains b []) → slice_index s.words b < length (slice_index_or chains b [])
    pub short : (b : ℕ) → b < buffers → length (slice_index_or chains b []) ≤ 2 ^ 64
    pub single : (b k : ℕ) → b < buffers → sum_by (λ (v : Knows T). token_at b k v.token) s.views ≤ 1
    pub there : (b k : ℕ) → b < buffers → slice_index s.words b ≤ k → k < length (slice_index_or chains b [])
        → 1 ≤ sum_by (λ (v : Knows T). token_at b k v.token) s.views
    -- the leaves of all seats are the turns below the word, each once
    pub counted : (b : ℕ) → b < buffers → sum_by (λ (v : Knows T). leaves_of b v.leaves) s.views ≡ slice_index s.words b
    pub left : (b k : ℕ) → b < buffers → k < slice_index s.words b → sum_by (λ (v : Knows T). leaf_at b k v.leaves) s.views ≡ 1
    pub unleft : (b k : ℕ) → b < buffers → slice_index s.words b ≤ k → sum_by (λ (v : Knows T). leaf_at b k v.leaves) s.views ≡ 0
    -- a buffer is in one stock at most
    pub stocked : (b : ℕ) → sum_by (λ (v : Knows T). stock_at b v.stock) s.views ≤ 1
    pub each : (j : ℕ) (v : Knows T) → get_elem? s.views j ≡ some v → Fits buffers s.words s.homes chains (sum_by live_of s.views) j v

module _ {T : Type 0} where
  -- the first seat, with the whole stock
  abbrev pub opened : ℕ → Knows T
  opened n = record { is_first = true; live = 1; out = 0; leaves = []; seen = []; stock = range 0 n; opens = false; token = None; asked = 0; said = None }

  -- what is left of a seat that was joined into another
  abbrev pub spent : Knows T
  spent = record { is_first = false; live = 0; out = 0; leaves = []; seen = []; stock = []; opens = false; token = None; asked = 0; said = None }

  -- the first seat, while no other is out
  abbrev pub IsAlone : Knows T → Type 0
  IsAlone v = (v.is_first ≡ true) × (v.out ≡ 0)

-- a token at another stage
abbrev pub at_stage : {T : Type 0} → Stage → Option (Token T) → Option (Token T)
at_stage g None = None
at_stage g (Some t) = Some record t { stage = g }

-- the token, with the promise that was announced
abbrev pub promised : {T : Type 0} → Option (Token T) → Option T → Option (Token T)
promised (Some t) (Some x) = Some record t { promise = Some x }
promised t x = t

-- the token of a turn that has not entered and promises nothing yet
abbrev pub token_away : {T : Type 0} → ℕ → ℕ → T → Token T
token_away buffer number expects = record { buffer = buffer; number = number; stage = Away; expects = expects; promise = None }

-- the token of the turn after it, which expects what was announced
abbrev pub heir_of : {T : Type 0} → Option (Token T) → Option T → Option (Token T)
heir_of (Some t) (Some x) = Some (token_away t.buffer (t.number + 1) x)
heir_of t x = None

-- the promise that a step announces
abbrev pub said_of : {P T : Type 0} → mathlib.Core.Option.Option (Home P T) → Option T
said_of (some (Said x)) = Some x
said_of _ = None

module _ {T : Type 0} where
  -- after a load that showed the count
  abbrev pub loaded : Knows T → ℕ × ℕ → Knows T
  loaded v p = record v { seen = v.seen ++ p ∷ [] }

  -- what a note has: what the seat has seen
  abbrev pub note : Knows T → Knows T
  note v = record { is_first = false; live = 0; out = 0; leaves = []; seen = v.seen; stock = []; opens = false; token = None; asked = 0; said = None }

  -- a token, after it took a note in
  abbrev pub told : Knows T → Knows T → Knows T
  told v w = record v { seen = v.seen ++ w.seen }

  -- the token of a turn, after it took a note in and entered
  abbrev pub entering : Knows T → Knows T → Knows T
  entering v w = record (told v w) { token = at_stage Inside v.token }

  -- the stock of one buffer, after its pixels came home: the token of its turn 0
  abbrev pub begun : Knows T → ℕ → T → Knows T
  begun v buffer expects = record v { stock = []; opens = false; token = Some (token_away buffer 0 expects) }

  -- the token of a turn, once the next was issued
  abbrev pub issuing : Knows T → Knows T
  issuing v = record v { token = promised v.token v.said }

  -- the token of the next turn
  abbrev pub heir : Knows T → Knows T
  heir v = record {
    is_first = false;
    live = 0;
    out = 0;
    leaves = [];
    seen = v.seen;
    stock = [];
    opens = false;
    token = heir_of v.token v.said;
    asked = 0;
    said = None;
  }

  -- the first seat, after its stock was split off
  abbrev pub endowing : Knows T → Knows T
  endowing v = record v { stock = [] }

  -- the whole stock
  abbrev pub endowed : Knows T → Knows T
  endowed v = record { is_first = false; live = 0; out = 0; leaves = []; seen = []; stock = v.stock; opens = false; token = None; asked = 0; said = None }

  -- a stock, after the first buffers were cut off
  abbrev pub cutting : Knows T → Knows T
  cutting v = record v { stock = drop v.asked v.stock }

  -- the stock of these
  abbrev pub cut_off : Knows T → Knows T
  cut_off v = record {
    is_first = false;
    live = 0;
    out = 0;
    leaves = [];
    seen = [];
    stock = take v.asked v.stock;
    opens = false;
    token = None;
    asked = 0;
    said = None;
  }

  -- the first seat, after another was split off
  abbrev pub lending : Knows T → Knows T
  lending v = record v { out = v.out + 1 }

  -- the seat that was split off
  abbrev pub lent : Knows T → Knows T
  lent v = record { is_first = false; live = 1; out = 0; leaves = []; seen = v.seen; stock = []; opens = false; token = None; asked = 0; said = None }

  -- the first seat, after it took another in
  abbrev pub absorbed : Knows T → Knows T → Knows T
  absorbed v w = record v { out = v.out - 1; leaves = v.leaves ++ w.leaves; seen = v.seen ++ w.seen }

  -- a seat with the token of a turn that leaves through it
  abbrev pub handed : Knows T → Knows T → Knows T
  handed v w = record v { token = w.token; seen = v.seen ++ w.seen }

  -- a seat, after the token's turn left
  abbrev pub departed_with : Knows T → Option (Token T) → Knows T
  departed_with v None = v
  departed_with v (Some t) = record v { token = None; leaves = v.leaves ++ (t.buffer, t.number) ∷ []; seen = v.seen ++ (t.buffer, t.number + 1) ∷ [] }

  module _ {P : Type 0} where
    -- a load shows at least what the seat has seen and made, and exactly its own leaves where it is alone
    abbrev pub Loads : Step (Home P T) → Me (Home P T) (Knows T) → ℕ → Me (Home P T) (Knows T) → Type 0
    Loads st m n m' =
        (m' ≡ (loaded m.0 (st.word, n), m.1))
        × (greatest st.word m.0.seen ≤ n)
        × (leaves_of st.word m.0.leaves ≤ n)
        × (IsAlone m.0 → (n ≡ leaves_of st.word m.0.leaves) × IsExact st.slots m'.0.leaves m'.0.seen)

    -- a load that changes nothing, and shows the first seat, alone, that its leaves are all
    abbrev pub Audits : Step (Home P T) → Me (Home P T) (Knows T) → ℕ → Me (Home P T) (Knows T) → Type 0
    Audits st m n m' = (m' ≡ m) × (IsAlone m.0 → IsExact st.slots m.0.leaves m.0.seen)

    -- the promise is announced
    abbrev pub Says : Step (Home P T) → Me (Home P T) (Knows T) → ℕ → Me (Home P T) (Knows T) → Type 0
    Says st m n m' = m' ≡ (record m.0 { said = said_of st.said }, m.1)

    -- a number of buffers is asked for
    abbrev pub Asks : Step (Home P T) → Me (Home P T) (Knows T) → ℕ → Me (Home P T) (Knows T) → Type 0
    Asks st m n m' = m' ≡ (record m.0 { asked = st.first }, m.1)

    -- the turn enters, and finds what it expects; nobody saw more turns leave than those before it
    abbrev pub Takes : (P → T) → Step (Home P T) → Me (Home P T) (Knows T) → ℕ → Me (Home P T) (Knows T) → Type 0
    Takes stamp_of st m n m' = (p : P) × (m' ≡ (record m.0 { token = at_stage Inside m.0.token }, (st.word, Full p) ∷ m.1))
        × ((t : Token T) → m.0.token ≡ Some t → (stamp_of p ≡ t.expects) × (greatest st.word m.0.seen ≤ t.number))

    -- where it is the token's turn, the pixels are taken
    abbrev pub Reaches : Step (Home P T) → Me (Home P T) (Knows T) → ℕ → Me (Home P T) (Knows T) → Type 0
    Reaches st m n m' = (t : Token T) → m.0.token ≡ Some t
        → (n ≡ t.number → (p : P) × (m' ≡ (record m.0 { token = at_stage Inside m.0.token }, (st.word, Full p) ∷ m.1))) × (n ≢ t.number → m' ≡ m)

    -- the pixels come home
    abbrev pub Returns : Stage → Step (Home P T) → Me (Home P T) (Knows T) → ℕ → Me (Home P T) (Knows T) → Type 0
    Returns g st m n m' = m' ≡ (record m.0 { token = at_stage g m.0.token }, [])

    -- the empty slot is taken
    abbrev pub Clears : Step (Home P T) → Me (Home P T) (Knows T) → ℕ → Me (Home P T) (Knows T) → Type 0
    Clears st m n m' = m' ≡ (record m.0 { opens = true }, (st.word, Vacant) ∷ m.1)

    -- the pixels of a new buffer come home, and it has its turn 0
    abbrev pub Begins : (P → T) → Step (Home P T) → Me (Home P T) (Knows T) → ℕ → Me (Home P T) (Knows T) → Type 0
    Begins stamp_of st m n m' = (p : P) → m.1 ≡ (st.word, Full p) ∷ []
        → m' ≡ (begun m.0 st.word (stamp_of p), [])

    -- the token's turn leaves
    abbrev pub Leaves : Step (Home P T) → Me (Home P T) (Knows T) → ℕ → Me (Home P T) (Knows T) → Type 0
    Leaves st m n m' = (m' ≡ (departed_with m.0 m.0.token, m.1)) × (IsAlone m.0 → IsExact st.slots m'.0.leaves m'.0.seen)

-- what a load through a seat shows
abbrev pub HasSeen : {T : Type 0} → Knows T → ℕ → ℕ → Type 0
HasSeen v b n = (greatest b v.seen ≤ n) × (leaves_of b v.leaves ≤ n) × (IsAlone v → n ≡ leaves_of b v.leaves)

-- it is the same seat
abbrev pub Stays : {P T : Type 0} → Seat (Home P T) (Knows T) → Seat (Home P T) (Knows T) → Type 0
Stays s w = (w.table_id ≡ s.table_id) × (w.id ≡ s.id)

-- a seat at the table that is no thread's
abbrev pub IsAside : {P T : Type 0} → Me (Home P T) (Knows T) → Type 0
IsAside m = (m.0.is_first ≡ false) × (m.0.live ≡ 0) × (m.0.leaves ≡ [])

-- what a note has: what was seen
abbrev pub seen_note : {T : Type 0} → List (ℕ × ℕ) → Knows T
seen_note seen = record { is_first = false; live = 0; out = 0; leaves = []; seen = seen; stock = []; opens = false; token = None; asked = 0; said = None }

-- What a transaction holds, and how operations, buffers and other transactions are set into it.
use Rattle.std.specs.Prelude.{◌≡◌, ℕ, ◌≤◌, ◌==◌, nat_le, if◌then◌else◌, Bool, true, false, not}
use Rattle.std.specs.Prelude.{◌&&◌, List, [], ◌∷◌, ◌++◌, length, map, find, option_to_list, Option, Some, None}
use Rattle.std.specs.List.{All, AllPairs}
use Rattle.sf_base.specs.declared.ids.LayerId.{LayerId}
use Rattle.sf_base.specs.declared.ids.TokenId.{TokenId}
use Rattle.sf_layer.specs.Kinds.{kind_of}
use Rattle.sf_layer.specs.Ranges.{IsOperation}
use Rattle.sf_layer.specs.declared.op.Op.{Op}
use Rattle.sf_layer.specs.declared.op.Op.TheVariants as op
use Rattle.sf_layer.specs.declared.shown.Shown.{Shown}
use Rattle.sf_txn.specs.Buffers.{Buffer}

-- the apply token, the desired present time or None where it is automatic, the operations in order, the buffers that
-- they show, and the barriers: a layer and the least frame that has to be committed for it first
pub record Contents (L : Type 0) : Type 0 where
  pub token : TokenId
  pub desired : Option ℕ
  pub ops : List (LayerId × Op)
  pub buffers : List (Buffer L)
  pub barriers : List (LayerId × ℕ)

-- a transaction in which nothing was set
abbrev pub empty : {L : Type 0} → Contents L
empty = record { token = record { 0 = 0 }; desired = None; ops = []; buffers = []; barriers = [] }

-- a list without its first item that passes a test
abbrev pub without_first : {X : Type 0} → (X → Bool) → List X → List X
without_first test [] = []
without_first test (x ∷ xs) = if test x then xs else x ∷ without_first test xs

-- create and destroy never take an earlier one's place
abbrev pub is_cumulative : Op → Bool
is_cumulative (op.Create _ _) = true
is_cumulative op.Destroy = true
is_cumulative _ = false

-- an operation takes an earlier one's place: both are for one layer and of one kind
abbrev pub replaces : LayerId × Op → LayerId × Op → Bool
replaces later earlier = not (is_cumulative later.1) && (earlier.0.0 == later.0.0 && kind_of earlier.1 == kind_of later.1)

-- an earlier operation stays beside a later one
abbrev pub Stays : LayerId × Op → LayerId × Op → Type 0
Stays earlier later = replaces later earlier ≡ false

-- operations with one more, which goes last, without the one whose place it takes
abbrev pub with_op : List (LayerId × Op) → LayerId × Op → List (LayerId × Op)
with_op ops operation = without_first (replaces operation) ops ++ operation ∷ []

-- the buffer is for the layer
abbrev pub is_for : {L : Type 0} → LayerId → Buffer L → Bool
is_for layer buffer = buffer.layer.0 == layer.0

-- buffers with one more, which goes last, without the one of its layer
abbrev pub with_buffer : {L : Type 0} → List (Buffer L) → Buffer L → List (Buffer L)
with_buffer buffers buffer = without_first (is_for buffer.layer) buffers ++ buffer ∷ []

-- the buffer whose place another takes
abbrev pub replaced_by : {L : Type 0} → List (Buffer L) → Buffer L → Option (Buffer L)
replaced_by buffers buffer = find (is_for buffer.layer) buffers

-- the operation that shows a buffer
abbrev pub show_op : {L : Type 0} → Buffer L → LayerId × Op
show_op buffer = (buffer.layer, op.Show buffer.shown)

-- a transaction with one more operation, or one more buffer
abbrev pub set : {L : Type 0} → Contents L → LayerId × Op → Contents L
set txn operation = record txn { ops = with_op txn.ops operation }

-- a transaction that shows one more buffer
abbrev pub set_buffer : {L : Type 0} → Contents L → Buffer L → Contents L
set_buffer txn buffer = record txn { ops = with_op txn.ops (show_op buffer); buffers = with_buffer txn.buffers buffer }

-- operations with more operations, in their order
abbrev pub with_ops : List (LayerId × Op) → List (LayerId × Op) → List (LayerId × Op)
with_ops ops [] = ops
with_ops ops (operation ∷ later) = with_ops (with_op ops operation) later

-- buffers with more buffers, in their order
abbrev pub with_buffers : {L : Type 0} → List (Buffer L) → List (Buffer L) → List (Buffer L)
with_buffers buffers [] = buffers
with_buffers buffers (buffer ∷ later) = with_buffers (with_buffer buffers buffer) later

-- the buffers whose places these take, in order
abbrev pub all_replaced : {L : Type 0} → List (Buffer L) → List (Buffer L) → List (Buffer L)
all_replaced buffers [] = []
all_replaced buffers (buffer ∷ later) = option_to_list (replaced_by buffers buffer) ++ all_replaced (with_buffer buffers buffer) later

-- the greater of the explicit times; automatic where both are
abbrev pub later_time : Option ℕ → Option ℕ → Option ℕ
later_time None time = time
later_time (Some time) None = Some time
later_time (Some time) (Some other) = Some (if nat_le time other then other else time)

-- a transaction with another set into it: its operations in their order, its barriers at the end
abbrev pub merged : {L : Type 0} → Contents L → Contents L → Contents L
merged txn other = record txn {
  desired = later_time txn.desired other.desired;
  ops = with_ops txn.ops other.ops;
  buffers = with_buffers txn.buffers other.buffers;
  barriers = txn.barriers ++ other.barriers;
}

-- the buffers that are shown, by their layers
abbrev pub shows_of : Op → LayerId → List (LayerId × Shown)
shows_of (op.Show shown) layer = (layer, shown) ∷ []
shows_of _ layer = []

abbrev pub shows : List (LayerId × Op) → List (LayerId × Shown)
shows [] = []
shows (operation ∷ ops) = shows_of operation.1 operation.0 ++ shows ops

-- a buffer as its layer shows it
abbrev pub shown_by : {L : Type 0} → Buffer L → LayerId × Shown
shown_by buffer = (buffer.layer, buffer.shown)

-- what every transaction keeps: the operations that show buffers are its buffers, in order, and no operation takes
-- another's place
pub record IsTransaction {L : Type 0} (txn : Contents L) : Type 0 where
  pub few : length txn.ops ≤ 4294967295
  pub in_range : All IsOperation txn.ops
  pub apart : AllPairs Stays txn.ops
  pub shown : shows txn.ops ≡ map shown_by txn.buffers

-- Where the operations of a transaction are, kept by layer and kind once they are many.
use Rattle.std.specs.BTreeMap.{BTreeMap, get, is_at}
use Rattle.std.specs.List.{AllPairs, position_from}
use Rattle.std.specs.Ordering.{nat_cmp}
use Rattle.std.specs.Prelude.{◌≡◌, ⊤, ℕ, zero, suc, ◌+◌, ◌*◌, ◌<◌, ◌==◌, ◌&&◌, if◌then◌else◌, Bool, false, not}
use Rattle.std.specs.Prelude.{List, [], ◌∷◌, ◌++◌, filter, Box, Option, None, Some, IfSome}
use Rattle.sf_base.specs.declared.ids.LayerId.{LayerId}
use Rattle.sf_layer.specs.Kinds.{kind_of}
use Rattle.sf_layer.specs.declared.op.Op.{Op}
use Rattle.sf_layer.specs.declared.op.Op.TheVariants as op
use Rattle.sf_txn.specs.Buffers.{Buffer}
use Rattle.sf_txn.specs.Transactions.{Stays, is_cumulative, is_for, replaces, with_ops}
use Rattle.sf_txn.specs.declared.index.Index.{Index}

-- what stands where an operation was taken out: no layer has number 0
abbrev pub taken : LayerId × Op
taken = (record { 0 = 0 }, op.Destroy)

abbrev pub is_kept : LayerId × Op → Bool
is_kept operation = not (operation.0.0 == 0)

-- the operations that were not taken out
abbrev pub kept : List (LayerId × Op) → List (LayerId × Op)
kept ops = filter is_kept ops

-- operations with an empty place where one was that this one replaces
abbrev pub emptied : LayerId × Op → List (LayerId × Op) → List (LayerId × Op)
emptied later [] = []
emptied later (x ∷ xs) = if replaces later x then taken ∷ xs else x ∷ emptied later xs

-- the number of an operation's layer and kind
abbrev pub key_of : LayerId × Op → ℕ
key_of operation = operation.0.0 * 16 + kind_of operation.1

-- a map has for each operation the place of the one that it replaces
abbrev pub HasPlaces : List (LayerId × Op) → BTreeMap ℕ ℕ → Type 0
HasPlaces ops places =
    (later : LayerId × Op) → 0 < later.0.0 → get nat_cmp places (key_of later) ≡ position_from (replaces later) 0 ops

-- a map after the place of an operation was noted, which create and destroy have none of
abbrev pub IsNoted : LayerId × Op → ℕ → BTreeMap ℕ ℕ → BTreeMap ℕ ℕ → Type 0
IsNoted later place old new =
    (key : ℕ) → get nat_cmp new key ≡ (if not (is_cumulative later.1) && is_at (nat_cmp (key_of later)) key then Some place else get nat_cmp old key)

-- an operation was put before others, unless one of them replaces it: what came earlier and these make what they, it
-- and the others make
abbrev pub IsPutFirst : LayerId × Op → List (LayerId × Op) → List (LayerId × Op) → Type 0
IsPutFirst operation old new = (earlier : List (LayerId × Op)) → AllPairs Stays (earlier ++ operation ∷ [])
    → with_ops (kept earlier) (kept new) ≡ with_ops (kept (earlier ++ operation ∷ [])) (kept old)

-- so many of the first places are empty
abbrev pub HasFront : ℕ → List (LayerId × Op) → Type 0
HasFront zero ops = ⊤
HasFront (suc n) [] = ◌≡◌ {A = ℕ} 0 1
HasFront (suc n) (x ∷ xs) = (x.0.0 ≡ 0) × HasFront n xs

-- no operation replaces another, the map, if there is one, has their places, and there is room in front
pub record IsIndexed (ops : List (LayerId × Op)) (index : Index) : Type 0 where
  pub apart : AllPairs Stays ops
  pub found : IfSome index.places (HasPlaces ops)
  pub front : HasFront index.front ops

-- no operation replaces another, an index, if there is one, has their places, and without one no place is empty
pub record IsListed {Z : Type 0} (ops : List (LayerId × Op)) (index : Option (Box Index Z)) : Type 0 where
  pub apart : AllPairs Stays ops
  pub indexed : IfSome index (λ held. IsIndexed ops held.value)
  pub whole : index ≡ None → kept ops ≡ ops

-- for how many operations there is room in front
abbrev pub front_of : {Z : Type 0} → Option (Box Index Z) → ℕ
front_of None = 0
front_of (Some held) = held.value.front

-- operations in order, for how many more there is room, and for how many before them
pub record Listed : Type 0 where
  pub list : List (LayerId × Op)
  pub room : ℕ
  pub front : ℕ

-- two buffers are for different layers
abbrev pub AreApart : {L : Type 0} → Buffer L → Buffer L → Type 0
AreApart earlier later = is_for later.layer earlier ≡ false

-- Reads that go on while their pixels are lent.
use Rattle.std.specs.Prelude.{◌≡◌, ℕ, ◌≤◌, ◌==◌, Bool, false, List, [], ◌++◌, map, get_or, Option, Some, None, filter, IfSome}
use Rattle.std.specs.List.{All, count_by}
use Rattle.std.specs.Option.{option_map_or}
use Rattle.sf_view.specs.sf_picture.declared.picture.Picture.{Picture}
use Rattle.sf_commit_next.specs.sf_txn.declared.lease.Lease.{Ghosts}
use Rattle.sf_commit.specs.OnLayers.{OnLayer}

-- a read whose lease was handed on before it ended: the lease that was opened, and the place of its pixels among those
-- that are lent, if they are
pub record KeptRead (L : Type 0) : Type 0 where
  pub lease : L
  pub place : Option ℕ

-- where something is lent, reads are kept, and else they are left
abbrev pub kept_if : {A B : Type 0} → Option A → List B → List B
kept_if None reads = []
kept_if (Some _) reads = reads

abbrev pub left_if : {A B : Type 0} → Option A → List B → List B
left_if None reads = reads
left_if (Some _) reads = []

module _ {L : Type 0} where
  abbrev pub read_of : OnLayer L → KeptRead L
  read_of on = record { lease = on.lease; place = on.place }

  -- the reads of buffers, of those that are read
  abbrev pub reads_of : List (OnLayer L) → List (KeptRead L)
  reads_of on = map read_of (filter (λ (one : OnLayer L). one.is_read) on)

  -- the leases of the reads that are kept
  abbrev pub AllKept : (L → Type 0) → List (KeptRead L) → Type 0
  AllKept P reads = All (λ (read : KeptRead L). P read.lease) reads

  -- the pixels of a read are lent at this place
  abbrev pub is_at : ℕ → KeptRead L → Bool
  is_at place read = option_map_or (λ lent. lent == place) read.place false

  -- of the buffers that go some were handed back, and their reads are kept behind the earlier ones
  pub record KeepsSome (old new : List (KeptRead L)) (gone : List (OnLayer L)) : Type 0 where
    pub handed : List (OnLayer L)
    pub left : List (OnLayer L)
    pub all : handed ++ left ≡ gone
    pub kept : new ≡ old ++ reads_of handed

module _ {L E R C : Type 0} (lease : Ghosts L E R C) where
  -- the ends that reads make, in their order
  abbrev pub ends_of : List (KeptRead L) → List (ℕ × ℕ)
  ends_of reads = map (λ (read : KeptRead L). lease.end read.lease) reads

  -- the pixels of a read, if they are lent, stand at its place
  abbrev pub IsThere : List (Option Picture) → KeptRead L → Type 0
  IsThere pixels read = IfSome read.place (λ place. get_or pixels place None ≡ Some (lease.picture read.lease))

  -- so do those of several, each at a place of its own
  pub record AreThere (pixels : List (Option Picture)) (reads : List (KeptRead L)) : Type 0 where
    pub there : All (IsThere pixels) reads
    pub once : (place : ℕ) → count_by (is_at place) reads ≤ 1

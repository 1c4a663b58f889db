-- What looks, reads and releases make of leases.
use Rattle.std.specs.Prelude.{◌≡◌, ℕ, Bool, true, false, List, [], ◌∷◌, ◌++◌, map, Option, Some, None}
use Rattle.std.specs.List.{All}
use Rattle.sf_view.specs.sf_picture.declared.picture.Picture.{Picture}
use Rattle.sf_commit_next.specs.sf_txn.Buffers.{Shows}
use Rattle.sf_commit_next.specs.sf_txn.declared.lease.Lease.{Ghosts}
use Rattle.sf_commit.specs.OnLayers.{OnLayer}
use Rattle.sf_commit.specs.Releases.{ReleaseOf}

-- the leases of the buffers on layers
abbrev pub AllOn : {L : Type 0} → (L → Type 0) → List (OnLayer L) → Type 0
AllOn P on = All (λ one. P one.lease) on

-- the picture of a read where its pixels are at hand, and none where they are lent at a place
abbrev pub here_if : Option ℕ → Picture → List Picture
here_if None picture = picture ∷ []
here_if (Some _) picture = []

module _ {L E R C : Type 0} (lease : Ghosts L E R C) where
  -- the pictures of the buffers on layers, in order
  abbrev pub pictures : List (OnLayer L) → List Picture
  pictures on = map (λ one. lease.picture one.lease) on

  -- the pictures of the buffers on layers whose pixels are at hand, in order
  abbrev pub pictures_here : List (OnLayer L) → List Picture
  pictures_here [] = []
  pictures_here (one ∷ on) = here_if one.place (lease.picture one.lease) ++ pictures_here on

  -- what is shown of a buffer lies in the picture that its lease expects
  abbrev pub ShowsLease : OnLayer L → Type 0
  ShowsLease one = Shows one.shown (lease.picture one.lease)

  -- what was not read yet is known to be written
  pub record IsKnownOn (eye : E) (one : OnLayer L) : Type 0 where
    pub known : one.is_read ≡ false → lease.knows eye one.lease

  -- a buffer goes back to its queue: an unread one with the lease and the fence with which it came, one that was read
  -- with a lease that was handed on, and no points
  abbrev pub HandsBack : Bool → L → L → Type 0
  HandsBack true l back = (lease.plain back ≡ lease.plain l) × (lease.picture back ≡ lease.picture l) × (lease.end back ≡ lease.next_end l)
  HandsBack false l back = back ≡ l

  pub record IsReleaseOf (on : OnLayer L) (release : ReleaseOf L) : Type 0 where
    pub queue : release.queue ≡ on.shown.queue
    pub frame : release.frame ≡ on.shown.frame
    pub fence : release.fence ≡ on.fence
    pub handed : HandsBack on.is_read on.lease release.lease

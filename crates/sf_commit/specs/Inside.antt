-- How a buffer on a layer lies in memory: its pixels taken out, or still behind the lease that a transaction brought; and
-- the room for pixels that come back.
use Rattle.std.specs.Prelude.{◌≡◌, ℕ, ◌≤◌, Bool, true, false, List, [], ◌∷◌, ◌++◌, get_or, map, set, vec_capacity, vec_len}
use Rattle.std.specs.Prelude.{Option, Some, None, Result, Ok, Err}
use Rattle.sf_base.specs.Fences.{no_points}
use Rattle.sf_base.specs.declared.ids.LayerId.{LayerId}
use Rattle.sf_view.specs.sf_layer.declared.layer.Layer.{Layer}
use Rattle.sf_view.specs.sf_layer.declared.op.Op.{Op}
use Rattle.sf_view.specs.sf_layer.declared.shown.Shown.{Shown}
use Rattle.sf_commit_next.specs.sf_ready.Facts.{FactsOf, HasSame, TellsSame}
use Rattle.sf_view.specs.sf_tree.Changes.{Rejection, after, changed}
use Rattle.sf_view.specs.sf_tree.Trees.{TreeOf}
use Rattle.sf_commit_next.specs.sf_txn.Buffers.{Buffer, Shows}
use Rattle.sf_commit_next.specs.sf_txn.Transactions.{shown_by}
use Rattle.sf_commit_next.specs.sf_txn.declared.lease.Lease.{Ghosts}
use Rattle.sf_view.specs.sf_picture.declared.picture.Picture.{Picture}
use Rattle.sf_commit.specs.Leases.{here_if}
use Rattle.sf_commit.specs.OnLayers.{OnLayer}
use Rattle.sf_commit.specs.Rounds.{StageOf, accepted, frames_in, layers_in, pressed_in, rejected}
use Rattle.sf_commit.specs.declared.lending.Room.{Room}
use Rattle.sf_commit.specs.declared.on.TakenPixels.{TakenPixels}
use Rattle.sf_commit.specs.declared.on.TakenPixels.TheVariants as taken_pixels
use Rattle.sf_commit.specs.declared.on.Pixels.{Pixels}
use Rattle.sf_commit.specs.declared.on.Pixels.TheVariants as pixels

-- the place where pixels are lent, if they are, and the picture that they show at hand
abbrev pub place_of : TakenPixels → Option ℕ
place_of (taken_pixels.Here painted) = None
place_of (taken_pixels.Lent place) = Some place

abbrev pub here_of : TakenPixels → List Picture
here_of (taken_pixels.Here painted) = painted ∷ []
here_of (taken_pixels.Lent place) = []

-- the pixels of a read: those at hand, or those that stand at its place; and what stands at places without them
abbrev pub taken_from : List (Option Picture) → TakenPixels → Option Picture
taken_from slots (taken_pixels.Here painted) = Some painted
taken_from slots (taken_pixels.Lent place) = get_or slots place None

abbrev pub cleared : List (Option Picture) → Option ℕ → List (Option Picture)
cleared slots None = slots
cleared slots (Some place) = set slots place None

-- pixels at hand show a picture
abbrev pub ShowsHere : TakenPixels → Picture → Type 0
ShowsHere taken picture = here_of taken ≡ here_if (place_of taken) picture

-- room for pixels that come back: a slot for each of those that are lent, and for each buffer on a layer, which may be
-- lent next; and, once a vsync has changed what is shown, a list that takes the pixels of all buffers on layers
pub record HasRoom (lent on : ℕ) (has_changed : Bool) (slots contents : ℕ × ℕ) : Type 0 where
  pub no_slots : slots.0 ≡ 0
  pub lent_slots : lent ≤ slots.1
  pub next_slots : on ≤ slots.1
  pub no_contents : contents.0 ≡ 0
  pub all_contents : has_changed ≡ true → on ≤ contents.1

-- the same of the lists that are kept for them
abbrev pub HasRoomIn : Room → ℕ → ℕ → Bool → Type 0
HasRoomIn room lent on has_changed =
    HasRoom lent on has_changed (vec_len room.slots, vec_capacity room.slots) (vec_len room.contents, vec_capacity room.contents)

module _ {L E R C : Type 0} (lease : Ghosts L E R C) where
  abbrev pub on_of : LayerId → Shown → Pixels L E R C → OnLayer L
  on_of layer shown (pixels.Read reading taken) =
      record { layer = layer; shown = shown; fence = no_points; lease = lease.opened reading; is_read = true; place = place_of taken }
  on_of layer shown (pixels.Brought fence l) =
      record { layer = layer; shown = shown; fence = fence; lease = l; is_read = false; place = None }

  -- what is shown lies in the picture that the lease expects, which the pixels show where they were taken out
  -- and are at hand
  abbrev pub IsOn : Shown → Pixels L E R C → Type 0
  IsOn shown (pixels.Read reading taken) = Shows shown (lease.picture (lease.opened reading)) × ShowsHere taken (lease.picture (lease.opened reading))
  IsOn shown (pixels.Brought fence l) = Shows shown (lease.picture l)

  -- what has yet to be done to leave a read, and the pixels that have to come back for it
  pub record IsKeptRead (l : L) (closing : C) (taken : TakenPixels) : Type 0 where
    pub end : lease.closing_end closing ≡ lease.end l
    pub picture : lease.closing_picture closing ≡ lease.picture l
    pub fits : (m : lease.Mark) → lease.fits m l → lease.closing_fits m closing
    pub here : ShowsHere taken (lease.picture l)

-- what is decided from after these buffers were shown, and with these layers
pub record Notes (old new : FactsOf) (shown : List (LayerId × Shown)) (layers : List Layer) : Type 0 where
  pub frames : TellsSame new.frames (frames_in shown ++ old.frames)
  pub fresh : HasSame new.fresh (layers_in shown ++ old.fresh)
  pub pressed : HasSame new.pressed (pressed_in layers)

-- which layers have backpressure before and after an operation that was applied to its layer
abbrev pub PressedByOp : LayerId → Op → List ℕ → List ℕ → Type 0
PressedByOp layer op old new =
    (most : ℕ) (layers next : List Layer) → changed most layers layer op ≡ Ok next → HasSame old (pressed_in layers) → HasSame new (pressed_in next)

-- the same of operations, in their order
abbrev pub PressedByOps : List (LayerId × Op) → List ℕ → List ℕ → Type 0
PressedByOps ops old new = (tree next : TreeOf) → after tree ops ≡ Ok next → HasSame old (pressed_in tree.layers) → HasSame new (pressed_in next.layers)

-- what is decided from before and after these buffers were shown, by operations that were applied
abbrev pub NotesOps : List (LayerId × Op) → List (LayerId × Shown) → FactsOf → FactsOf → Type 0
NotesOps ops shown old new = (tree next : TreeOf) → after tree ops ≡ Ok next → HasSame old.pressed (pressed_in tree.layers) → Notes old new shown next.layers

module _ {L : Type 0} where
  -- what operations and their buffers make of the stage and of what is decided from, by what the tree answered, and what
  -- is reported of it: the cause and the place of a rejection, or zeros
  abbrev pub Follows : StageOf L → StageOf L → FactsOf → FactsOf → List (LayerId × Op) → List (Buffer L) → ℕ × ℕ → Result TreeOf Rejection → Type 0
  Follows old new facts later ops buffers told (Ok tree) =
      (new ≡ accepted (record old { tree = tree }) ops buffers) × (told ≡ (0, 0)) × Notes facts later (map shown_by buffers) tree.layers
  Follows old new facts later ops buffers told (Err rejection) =
      (new ≡ rejected old buffers) × (told ≡ (rejection.cause, rejection.op)) × Notes facts later [] old.tree.layers

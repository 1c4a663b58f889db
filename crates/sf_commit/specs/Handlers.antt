-- What the compositor holds between two vsyncs, and what a vsync makes of it.
use Rattle.std.specs.Prelude.{◌≡◌, ◌⊎◌, ℕ, ◌≤◌, Bool, true, false, List, [], ◌∷◌, ◌++◌, length, map, Option, Some, None, IfSome}
use Rattle.std.specs.List.{All, AllZip, find, position}
use Rattle.std.specs.Option.{option_map, unwrap_or}
use Rattle.sf_base.specs.declared.fences.Seen.{Seen}
use Rattle.sf_view.specs.sf_layer.declared.layer.Layer.{Layer}
use Rattle.sf_view.specs.sf_picture.declared.picture.Picture.{Picture}
use Rattle.sf_commit_next.specs.sf_txn.Leases.{IsEyeAfter, IsShownTo}
use Rattle.sf_commit_next.specs.sf_txn.declared.lease.Lease.{Ghosts}
use Rattle.sf_view.specs.sf_tree.Trees.{TreeOf}
use Rattle.sf_commit_next.specs.sf_ready.Facts.{TellsSame}
use Rattle.sf_commit_next.specs.sf_token.Loads.{AllLeases, IsLookedArrival}
use Rattle.sf_commit_next.specs.sf_token.Pending.{Arrival, IsRisingFrom}
use Rattle.sf_view.specs.Views.{IsDisplay}
use Rattle.sf_view.specs.declared.drawn.Drawn.{Drawn}
use Rattle.sf_commit.specs.OnLayers.{OnLayer, is_on, shown_on}
use Rattle.sf_commit.specs.Rounds.{Decided, Round, held}
use Rattle.sf_commit.specs.Leases.{AllOn, IsReleaseOf, ShowsLease, pictures, pictures_here}
use Rattle.sf_commit.specs.Lending.{AllKept, AreThere, KeptRead, ends_of, kept_if, left_if, read_of, reads_of}
use Rattle.sf_commit.specs.Releases.{CommittedOf}
use Rattle.sf_commit.specs.Standing.{Stands}

-- what decides in a vsync: the size of the display, the tree, what is pending, the frames that were committed, the
-- buffers on layers, the greatest arrival number, and whether memory ran out; and beside it the pictures that are
-- lent, if buffers are, and the reads that are kept until these come back
pub record HandlerOf (L : Type 0) : Type 0 where
  pub width : ℕ
  pub height : ℕ
  pub tree : TreeOf
  pub pending : List (Arrival L)
  pub frames : List (ℕ × ℕ)
  pub on : List (OnLayer L)
  pub last : ℕ
  pub is_spent : Bool
  pub lent : Option (List Picture)
  pub kept : List (KeptRead L)

-- the pixels of what is lent, each at its place
abbrev pub lent_pixels : Option (List Picture) → List (Option Picture)
lent_pixels None = []
lent_pixels (Some lent) = map (λ picture. Some picture) lent

module _ {L : Type 0} where
  -- a compositor to which nothing was sent, for so many layers
  abbrev pub new_handler : ℕ → ℕ → ℕ → HandlerOf L
  new_handler width height most = record {
    width = width;
    height = height;
    tree = record { layers = []; most = most };
    pending = [];
    frames = [];
    on = [];
    last = 0;
    is_spent = false;
    lent = None;
    kept = [];
  }

  -- a vsync begins with all that arrived
  abbrev pub begun : HandlerOf L → List (Arrival L) → Round L
  begun handler pending =
      record { stage = record { tree = handler.tree; on = handler.on; commits = []; gone = [] }; pending = pending; frames = handler.frames; fresh = [] }

  -- the place of the buffer of a drawn layer among those on layers, and 0 for a colour
  abbrev pub source_of : List (OnLayer L) → Drawn → ℕ
  source_of on drawn = unwrap_or (position (is_on drawn.layer) on) 0

  -- the greatest number that arrived
  abbrev pub last_of : ℕ → List (Arrival L) → ℕ
  last_of last [] = last
  last_of last (arrived ∷ later) = last_of arrived.number later

  -- each layer shows the buffer that stands for it
  pub record IsOnLayer (on : List (OnLayer L)) (layer : Layer) : Type 0 where
    pub same : layer.shown ≡ option_map (λ (one : OnLayer L). one.shown) (find (is_on layer.number) on)

module _ {L E R C : Type 0} (lease : Ghosts L E R C) where
  -- all leases fit the eye
  pub record FitsHandler (eye : E) (handler : HandlerOf L) : Type 0 where
    pub pending : AllLeases (lease.fits (lease.mark eye)) handler.pending
    pub on : AllOn (lease.fits (lease.mark eye)) handler.on
    pub kept : AllKept (lease.fits (lease.mark eye)) handler.kept

  -- what a handler keeps between two vsyncs: each layer shows the one buffer that stands for it, whose crop lies in its
  -- picture, all of them are read, and the numbers of what is pending rise
  pub record IsHandler (handler : HandlerOf L) : Type 0 where
    pub display : IsDisplay handler.width handler.height
    pub stands : Stands handler.tree.layers handler.on
    pub read : All (λ (one : OnLayer L). one.is_read ≡ true) handler.on
    pub crops : All (ShowsLease lease) handler.on
    pub rising : IsRisingFrom 0 handler.pending handler.last

  -- what a handler keeps inside: the pixels at hand are those of the buffers on layers that are not lent, in order, and
  -- 32 bits can count them all; those of the reads that go on are lent at places of their own, and no read is kept where
  -- nothing is lent; what was lent is what is shown while no vsync has changed it; the rest holds until it is spent
  pub record IsKept (handler : HandlerOf L) (contents : List Picture) (has_changed : Bool) : Type 0 where
    pub same : contents ≡ pictures_here lease handler.on
    pub few : length handler.on ≤ 4294967295
    pub lends : AreThere lease (lent_pixels handler.lent) (handler.kept ++ map read_of handler.on)
    pub unlent : handler.lent ≡ None → handler.kept ≡ []
    pub unchanged : IfSome handler.lent (λ lent. has_changed ≡ false → (lent ≡ pictures lease handler.on) × (handler.kept ≡ []))
    pub keeps : handler.is_spent ≡ false → IsHandler handler

  -- how a vsync ends, once all is decided: the buffers that go are handed back, and those that are newly shown are
  -- read. The reads of what goes are left, or kept while buffers are lent
  pub record Settles (old : HandlerOf L) (eye : E) (arrived : List (Arrival L)) (end : Round L) (seen : Seen) (expected : ℕ) (told : CommittedOf L)
      (new : HandlerOf L) (eye' : E) : Type 0 where
    pub commits : told.commits ≡ end.stage.commits
    pub held : told.held ≡ held lease.shown seen expected end
    pub releases : AllZip (IsReleaseOf lease) end.stage.gone told.releases
    pub frames : TellsSame new.frames end.frames
    pub state : new ≡ record old {
      tree = end.stage.tree;
      on = map shown_on end.stage.on;
      pending = end.pending;
      frames = new.frames;
      last = last_of old.last arrived;
      kept = new.kept;
    }
    pub kept : new.kept ≡ old.kept ++ kept_if old.lent (reads_of end.stage.gone)
    pub reads : IsEyeAfter lease eye eye' (ends_of lease (left_if old.lent (reads_of end.stage.gone)))
    pub fits : FitsHandler eye old → AllLeases (lease.fits (lease.mark eye)) arrived → FitsHandler eye' new

  -- a vsync looks once at each lease of what is pending, in the order of arrival, and then decides by what the looks
  -- showed
  pub record Decides (old : HandlerOf L) (eye : E) (arrived : List (Arrival L)) (seen : Seen) (expected : ℕ) (told : CommittedOf L) (new : HandlerOf L) (eye' : E) : Type 0 where
    pub alive : old.is_spent ≡ false
    pub looked : List (Arrival L)
    pub looks : AllZip (IsLookedArrival lease) (old.pending ++ arrived) looked
    pub shown : AllLeases (IsShownTo lease eye eye') looked
    pub end : Round L
    pub decided : Decided lease.shown seen expected (begun old looked) end
    pub settled : Settles old eye arrived end seen expected told new eye'

  -- buffers that go, or the first of them, once a vsync has looked at all that is pending and has decided
  pub record AreToGo (old : HandlerOf L) (eye : E) (arrived : List (Arrival L)) (seen : Seen) (expected : ℕ) (eye' : E) (handed : List (OnLayer L)) : Type 0 where
    pub looked : List (Arrival L)
    pub looks : AllZip (IsLookedArrival lease) (old.pending ++ arrived) looked
    pub shown : AllLeases (IsShownTo lease eye eye') looked
    pub end : Round L
    pub decided : Decided lease.shown seen expected (begun old looked) end
    pub left : List (OnLayer L)
    pub all : handed ++ left ≡ end.stage.gone

  -- What a vsync leaves that runs out of memory: what was lent is lent still. It handed back nothing, or some of the buffers that
  -- go once all is decided, whose reads are left, or kept while buffers are lent.
  pub record Stops (old : HandlerOf L) (eye : E) (arrived : List (Arrival L)) (seen : Seen) (expected : ℕ) (new : HandlerOf L) (eye' : E) : Type 0 where
    pub spent : new.is_spent ≡ true
    pub lent : new.lent ≡ old.lent
    pub handed : List (OnLayer L)
    pub gone : (handed ≡ []) ⊎ AreToGo old eye arrived seen expected eye' handed
    pub kept : new.kept ≡ old.kept ++ kept_if old.lent (reads_of handed)
    pub reads : IsEyeAfter lease eye eye' (ends_of lease (left_if old.lent (reads_of handed)))
    pub fits : AllKept (lease.fits (lease.mark eye)) old.kept → AllKept (lease.fits (lease.mark eye)) new.kept

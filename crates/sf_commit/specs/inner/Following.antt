-- What deciding and settling make, as one vsync puts them together.
use Rattle.std.specs.Prelude.{◌≡◌, ℕ, ◌≤◌, List, [], ◌++◌, length, map}
use Rattle.std.specs.List.{All, AllZip}
use Rattle.std.specs.declared.vec.Vec.{Vec}
use Rattle.sf_base.specs.declared.fences.Seen.{Seen}
use Rattle.sf_commit_next.specs.sf_ready.Facts.{FactsOf, HasSame, TellsSame}
use Rattle.sf_commit_next.specs.sf_ready.declared.hold.Hold.{Hold}
use Rattle.sf_commit_next.specs.sf_token.Loads.{AllLeases, IsLookedArrival}
use Rattle.sf_commit_next.specs.sf_token.Pending.{Arrival, QueuesOf}
use Rattle.sf_view.specs.sf_tree.Trees.{TreeOf}
use Rattle.sf_commit_next.specs.sf_txn.Leases.{IsEyeAfter, IsShownTo}
use Rattle.sf_commit_next.specs.sf_txn.declared.lease.Lease.{Ghosts}
use Rattle.sf_view.specs.sf_picture.declared.picture.Picture.{Picture}
use Rattle.sf_commit.specs.inner.Deciding.{ShowsIts}
use Rattle.sf_commit.specs.Handlers.{last_of}
use Rattle.sf_commit.specs.Leases.{IsReleaseOf, ShowsLease, pictures_here}
use Rattle.sf_commit.specs.Lending.{KeptRead, reads_of}
use Rattle.sf_commit.specs.OnLayers.{OnLayer, shown_on}
use Rattle.sf_commit.specs.Releases.{ReleaseOf}
use Rattle.sf_commit.specs.Rounds.{Decided, Round, StageOf, held, pressed_in}

-- a vsync begins with these layers and buffers, and with what is pending
abbrev pub begun_with : {L : Type 0} → TreeOf → List (OnLayer L) → List (ℕ × ℕ) → List (Arrival L) → Round L
begun_with tree on frames pending =
    record { stage = record { tree = tree; on = on; commits = []; gone = [] }; pending = pending; frames = frames; fresh = [] }

module _ {L E R C : Type 0} (lease : Ghosts L E R C) where
  -- what arrived was taken, looked at and decided
  pub record DecidesAll (tree : TreeOf) (on : List (OnLayer L)) (facts : FactsOf) (old : QueuesOf L) (eye : E) (arrived : List (Arrival L))
      (seen : Seen) (expected : ℕ) (stage : StageOf L) (waits : List (ℕ × Hold)) (new : QueuesOf L) (noted : FactsOf) (eye' : E) : Type 0 where
    pub looked : List (Arrival L)
    pub looks : AllZip (IsLookedArrival lease) (old.pending ++ arrived) looked
    pub shown : AllLeases (IsShownTo lease eye eye') looked
    pub end : Round L
    pub decided : Decided lease.shown seen expected (begun_with tree on facts.frames looked) end
    pub shows : All ShowsIts decided.taken
    pub stage_is : stage ≡ end.stage
    pub queues : new ≡ record { pending = end.pending; last = last_of old.last arrived }
    pub frames : TellsSame noted.frames end.frames
    pub pressed : HasSame noted.pressed (pressed_in stage.tree.layers)
    pub holds : waits ≡ held lease.shown seen expected end
    pub eye_is : IsEyeAfter lease eye eye' []

  -- the same from a stage on; what is made is the stage that is then, and what waits
  abbrev pub DecidesFrom : {Z : Type 0} → StageOf L → FactsOf → QueuesOf L → E → List (Arrival L) → Seen → ℕ → QueuesOf L → FactsOf → E
      → StageOf L × Vec (ℕ × Hold) Z → Type 0
  DecidesFrom stage facts old eye arrived seen expected new noted eye' made =
      DecidesAll stage.tree stage.on facts old eye arrived seen expected made.0 made.1.items new noted eye'

  -- what goes was handed back and its reads are kept, and what is new is read
  pub record SettlesAll (on gone : List (OnLayer L)) (kept : List (KeptRead L)) (readings : List (OnLayer L)) (contents : List Picture)
      (releases : List (ReleaseOf L)) (kept' : List (KeptRead L)) : Type 0 where
    pub on_is : readings ≡ map shown_on on
    pub contents_are : contents ≡ pictures_here lease on
    pub crops : All (ShowsLease lease) readings
    pub few : length readings ≤ 4294967295
    pub released : AllZip (IsReleaseOf lease) gone releases
    pub kept_are : kept' ≡ kept ++ reads_of gone

-- What a vsync decides: which pending transactions it commits, in which order, and why the others wait.
use Rattle.std.specs.Prelude.{◌≡◌, ℕ, ◌<◌, ◌==◌, Bool, false, if◌then◌else◌, List, [], ◌∷◌}
use Rattle.std.specs.Prelude.{◌++◌, map, filter, filter_map, Option, Some, None, Result, Ok, Err}
use Rattle.std.specs.Option.{option_map, option_map_or}
use Rattle.sf_base.specs.declared.fences.Seen.{Seen}
use Rattle.sf_base.specs.declared.ids.LayerId.{LayerId}
use Rattle.sf_base.specs.declared.ids.TokenId.{TokenId}
use Rattle.sf_view.specs.sf_layer.declared.layer.Layer.{Layer}
use Rattle.sf_view.specs.sf_layer.declared.op.Op.{Op}
use Rattle.sf_view.specs.sf_layer.declared.shown.Shown.{Shown}
use Rattle.sf_view.specs.sf_tree.Changes.{Rejection, after}
use Rattle.sf_view.specs.sf_tree.Trees.{TreeOf}
use Rattle.sf_commit_next.specs.sf_txn.Buffers.{Buffer}
use Rattle.sf_commit_next.specs.sf_txn.Transactions.{shown_by, without_first}
use Rattle.sf_commit_next.specs.sf_ready.Facts.{FactsOf}
use Rattle.sf_commit_next.specs.sf_ready.declared.hold.Hold.{Hold}
use Rattle.sf_commit_next.specs.sf_ready.declared.hold.Hold.TheVariants as hold
use Rattle.sf_commit_next.specs.sf_token.Pending.{Arrival, head_of, is_of}
use Rattle.sf_commit_next.specs.Heads.{head_hold, ready_of}
use Rattle.sf_commit.specs.OnLayers.{OnLayer, brought, gone_with, on_after}
use Rattle.sf_commit.specs.declared.vsync.Commit.{Commit}

-- the tree with the buffers that its layers show, and what a vsync made so far: its commits and the buffers that go
pub record StageOf (L : Type 0) : Type 0 where
  pub tree : TreeOf
  pub on : List (OnLayer L)
  pub commits : List Commit
  pub gone : List (OnLayer L)

-- how far a vsync has come: what it made, what is pending, the frames that were ever committed, and the layers that got
-- a buffer in this vsync
pub record Round (L : Type 0) : Type 0 where
  pub stage : StageOf L
  pub pending : List (Arrival L)
  pub frames : List (ℕ × ℕ)
  pub fresh : List ℕ

-- the layers that have backpressure
abbrev pub pressed_in : List Layer → List ℕ
pressed_in layers = map (λ (layer : Layer). layer.number.0) (filter (λ (layer : Layer). layer.backpressure) layers)

-- the frames of shown buffers, each with its layer's number, and the numbers of their layers
abbrev pub frames_in : List (LayerId × Shown) → List (ℕ × ℕ)
frames_in shown = map (λ (one : LayerId × Shown). (one.0.0, one.1.frame)) shown

-- the layers of shown buffers
abbrev pub layers_in : List (LayerId × Shown) → List ℕ
layers_in shown = map (λ (one : LayerId × Shown). one.0.0) shown

module _ {L : Type 0} where
  -- what is reported of a commit
  abbrev pub commit_of : Arrival L → ℕ → ℕ → Commit
  commit_of arrived cause op =
      record { token = arrived.txn.token; number = arrived.number; cause = cause; op = op; buffers = map shown_by arrived.txn.buffers }

  -- operations that were applied show these buffers
  abbrev pub accepted : StageOf L → List (LayerId × Op) → List (Buffer L) → StageOf L
  accepted stage ops buffers =
      record stage { on = on_after stage.on ops buffers; gone = stage.gone ++ gone_with stage.on ops buffers }

  -- a rejected transaction changes nothing, and all its buffers go
  abbrev pub rejected : StageOf L → List (Buffer L) → StageOf L
  rejected stage buffers = record stage { gone = stage.gone ++ map brought buffers }

  -- the stage with one more commit noted
  abbrev pub told_of : StageOf L → Commit → StageOf L
  told_of stage commit = record stage { commits = stage.commits ++ commit ∷ [] }

  -- a transaction is committed, or rejected as a whole
  abbrev pub stage_with : StageOf L → Arrival L → Result TreeOf Rejection → StageOf L
  stage_with stage arrived (Ok tree) =
      told_of (accepted (record stage { tree = tree }) arrived.txn.ops arrived.txn.buffers) (commit_of arrived 0 0)
  stage_with stage arrived (Err rejection) =
      told_of (rejected stage arrived.txn.buffers) (commit_of arrived rejection.cause rejection.op)

  -- the stage after a transaction
  abbrev pub stage_after : StageOf L → Arrival L → StageOf L
  stage_after stage arrived = stage_with stage arrived (after stage.tree arrived.txn.ops)

  -- the buffers that a transaction shows: none where it is rejected
  abbrev pub shown_if : Result TreeOf Rejection → List (Buffer L) → List (LayerId × Shown)
  shown_if (Ok _) buffers = map shown_by buffers
  shown_if (Err _) buffers = []

  -- a vsync after one more transaction
  abbrev pub committed : Round L → Arrival L → Round L
  committed r arrived =
      let shown = shown_if (after r.stage.tree arrived.txn.ops) arrived.txn.buffers in
      record {
        stage = stage_after r.stage arrived;
        pending = without_first (is_of arrived.txn.token) r.pending;
        frames = frames_in shown ++ r.frames;
        fresh = layers_in shown ++ r.fresh;
      }

  -- what decides of a transaction that is first of its token
  abbrev pub facts_of : Round L → FactsOf
  facts_of r = record { frames = r.frames; fresh = r.fresh; pressed = pressed_in r.stage.tree.layers }

  module _ (drawn : L → Bool) (seen : Seen) (expected : ℕ) where
    -- the next transaction to commit: what is first of its token and not held, while those of lower tokens are held
    abbrev pub IsNext : Round L → Option (Arrival L) → Type 0
    IsNext r None = (token : TokenId) → ready_of drawn seen expected (facts_of r) r.pending token ≡ None
    IsNext r (Some next) =
        (ready_of drawn seen expected (facts_of r) r.pending next.txn.token ≡ Some next)
        × ((token : TokenId) → token.0 < next.txn.token.0 → ready_of drawn seen expected (facts_of r) r.pending token ≡ None)

    -- these are committed, each when it is the next
    abbrev pub Leads : Round L → List (Arrival L) → Round L → Type 0
    Leads r [] end = end ≡ r
    Leads r (next ∷ later) end = IsNext r (Some next) × Leads (committed r next) later end

    -- transactions are committed, one after another, until none is left to commit
    pub record Decided (begun end : Round L) : Type 0 where
      pub taken : List (Arrival L)
      pub leads : Leads begun taken end
      pub rests : IsNext end None

    -- why a pending transaction waits: what is not first of its token is behind that
    abbrev pub hold_at : Round L → Arrival L → Option Hold
    hold_at r arrived =
        if option_map_or (λ (first : Arrival L). first.number == arrived.number) (head_of arrived.txn.token r.pending) false
        then head_hold drawn seen expected (facts_of r) arrived else Some hold.Behind

    -- what is pending, each with why it waits
    abbrev pub held : Round L → List (ℕ × Hold)
    held r = filter_map (λ (arrived : Arrival L). option_map (λ h. (arrived.number, h)) (hold_at r arrived)) r.pending

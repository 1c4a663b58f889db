-- A transaction that was followed is committed, or rejected.
use Rattle.std.proofs.Common.{◌≡◌, ℕ, List, [], map, Result, Ok, Err, refl, sym, subst}
use Rattle.sf_base.specs.declared.ids.LayerId.{LayerId}
use Rattle.sf_view.specs.sf_layer.declared.shown.Shown.{Shown}
use Rattle.sf_view.specs.sf_layer.declared.op.Op.{Op}
use Rattle.sf_commit_next.specs.sf_ready.Facts.{FactsOf, HasSame}
use Rattle.sf_commit_next.specs.sf_token.Pending.{Arrival}
use Rattle.sf_view.specs.sf_tree.Changes.{Rejection, after}
use Rattle.sf_view.specs.sf_tree.Trees.{TreeOf}
use Rattle.sf_commit_next.specs.sf_txn.Buffers.{Buffer}
use Rattle.sf_commit_next.specs.sf_txn.Transactions.{shown_by}
use Rattle.sf_commit.specs.Inside.{Follows, Notes, NotesOps}
use Rattle.sf_commit.specs.Rounds.{StageOf, accepted, pressed_in, shown_if, stage_with, told_of}

module _ {L : Type 0} where
  pub tells : (old new : StageOf L) (facts later : FactsOf) (a : Arrival L) (buffers : List (LayerId × Shown)) (cause op : ℕ) (r : Result TreeOf Rejection)
      → Follows old new facts later a.txn.ops a.txn.buffers (cause, op) r → buffers ≡ map shown_by a.txn.buffers
      → told_of new (record { token = a.txn.token; number = a.number; cause = cause; op = op; buffers = buffers }) ≡ stage_with old a r
  tells old new facts later a buffers cause op (Ok tree) (same, told, notes) e =
      λ i. told_of (same i) (record { token = a.txn.token; number = a.number; cause = (told i).0; op = (told i).1; buffers = e i })
  tells old new facts later a buffers cause op (Err rejection) (same, told, notes) e =
      λ i. told_of (same i) (record { token = a.txn.token; number = a.number; cause = (told i).0; op = (told i).1; buffers = e i })

  pub notes : (old new : StageOf L) (facts later : FactsOf) (a : Arrival L) (told : ℕ × ℕ) (r : Result TreeOf Rejection)
      → Follows old new facts later a.txn.ops a.txn.buffers told r → Notes facts later (shown_if r a.txn.buffers) new.tree.layers
  notes old new facts later a told (Ok tree) (same, _, noted) =
      subst (λ (s : StageOf L). Notes facts later (map shown_by a.txn.buffers) s.tree.layers) (sym same) noted
  notes old new facts later a told (Err rejection) (same, _, noted) =
      subst (λ (s : StageOf L). Notes facts later [] s.tree.layers) (sym same) noted

  -- operations that were applied are followed
  pub applied : (old new : StageOf L) (facts later : FactsOf) (ops : List (LayerId × Op)) (buffers : List (Buffer L)) (shown : List (LayerId × Shown)) (next : TreeOf)
      → after old.tree ops ≡ Ok next → new ≡ accepted (record old { tree = next }) ops buffers → shown ≡ map shown_by buffers
      → NotesOps ops shown facts later → HasSame facts.pressed (pressed_in old.tree.layers) → Follows old new facts later ops buffers (0, 0) (after old.tree ops)
  applied old new facts later ops buffers shown next made same of noted pressed =
      subst (λ (r : Result TreeOf Rejection). Follows old new facts later ops buffers (0, 0) r) (sym made)
      (same, refl, subst (λ (s : List (LayerId × Shown)). Notes facts later s next.layers) of (noted old.tree next made pressed))

-- What contracts see of a handler and of a stage in memory, by names, so that a proof need not write it out.
use Rattle.std.proofs.Common.{◌≡◌, List, false, subst, sym}
use Rattle.std.specs.Option.{option_map}
use Rattle.sf_commit_next.specs.sf_token.Pending.{Arrival, IsRisingFrom}
use Rattle.sf_commit_next.specs.sf_txn.declared.lease.Lease.{Ghosts}
use Rattle.sf_commit.specs.Handlers.{FitsHandler, HandlerOf, last_of}
use Rattle.sf_commit.specs.Rounds.{StageOf}
use Rattle.sf_commit.specs.declared.commit.Stage.TheInside.{Inside as StageInside}
use Rattle.sf_commit.specs.declared.handler.Handler.TheInside.{Inside as HandlerInside}

module _ {L E R C : Type 0} where
  abbrev pub value_of : HandlerInside L E R C → HandlerOf L
  value_of inside = record {
    width = inside.width;
    height = inside.height;
    tree = inside.tree;
    pending = inside.queues.pending;
    frames = inside.facts.frames;
    on = inside.on.items;
    last = inside.queues.last;
    is_spent = inside.is_spent;
    lent = option_map (λ lent. lent.value) inside.lent;
    kept = inside.kept.items;
  }

  abbrev pub stage_of : StageInside L E R C → StageOf L
  stage_of stage = record { tree = stage.tree; on = stage.on.items; commits = stage.commits.items; gone = stage.gone.items }

-- what holds of the value that contracts see holds of the one that is in memory
pub fits_inside : {L E R C : Type 0} (lease : Ghosts L E R C) (eye : E) (inside now : HandlerOf L) → inside ≡ now → (now.is_spent ≡ false → FitsHandler lease eye now)
    → inside.is_spent ≡ false → FitsHandler lease eye inside
fits_inside lease eye inside now is fits = subst (λ x. x.is_spent ≡ false → FitsHandler lease eye x) (sym is) fits

pub rising_inside : {L : Type 0} (inside now : HandlerOf L) (arrived : List (Arrival L)) → inside ≡ now → (now.is_spent ≡ false → IsRisingFrom now.last arrived (last_of now.last arrived))
    → inside.is_spent ≡ false → IsRisingFrom inside.last arrived (last_of inside.last arrived)
rising_inside inside now arrived is rising = subst (λ x. x.is_spent ≡ false → IsRisingFrom x.last arrived (last_of x.last arrived)) (sym is) rising

-- Operations that need no buffer and no range.
use Rattle.std.specs.Prelude.{◌≡◌, []}
use Rattle.sf_base.specs.declared.ids.LayerId.{LayerId}
use Rattle.sf_layer.specs.Ranges.{IsInRange}
use Rattle.sf_layer.specs.declared.op.Op.{Op}
use Rattle.sf_txn.specs.Transactions.{shows_of}

-- an operation shows no buffer, and what it brings is in its range
pub record IsPlain (op : Op) : Type 0 where
  pub shows : (layer : LayerId) → shows_of op layer ≡ []
  pub in_range : IsInRange op

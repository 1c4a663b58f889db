-- The buffers that layers show, and what a transaction's operations do to them.
use Rattle.std.specs.Prelude.{◌≡◌, ◌≢◌, ℕ, ◌+◌, ◌<◌, ◌==◌, Bool, true, false, List, [], ◌∷◌, ◌++◌, length, get_or, take, Option, Some, None}
use Rattle.std.specs.List.{All, find}
use Rattle.std.specs.Option.{option_to_list}
use Rattle.sf_base.specs.Fences.{Fence, no_points}
use Rattle.sf_base.specs.declared.ids.LayerId.{LayerId}
use Rattle.sf_view.specs.sf_layer.declared.op.Op.{Op}
use Rattle.sf_view.specs.sf_layer.declared.op.Op.TheVariants as op
use Rattle.sf_view.specs.sf_layer.declared.shown.Shown.{Shown}
use Rattle.sf_commit_next.specs.sf_txn.Buffers.{Buffer}
use Rattle.sf_commit_next.specs.sf_txn.Transactions.{without_first}

-- a buffer that a layer shows, with the lease of its pixels and the fence with which it goes back unread. It is read
-- where a layer showed it at the end of an earlier vsync; it has no fence then. Where its pixels are lent, it has their
-- place among all that are
pub record OnLayer (L : Type 0) : Type 0 where
  pub layer : LayerId
  pub shown : Shown
  pub fence : Fence
  pub lease : L
  pub is_read : Bool
  pub place : Option ℕ

module _ {L : Type 0} where
  -- a buffer as a transaction brings it
  abbrev pub brought : Buffer L → OnLayer L
  brought buffer = record { layer = buffer.layer; shown = buffer.shown; fence = buffer.fence; lease = buffer.lease; is_read = false; place = None }

  -- a buffer that is shown at the end of a vsync
  abbrev pub shown_on : OnLayer L → OnLayer L
  shown_on on = record on { fence = no_points; is_read = true }

  -- a buffer whose pixels are at hand
  abbrev pub at_hand : OnLayer L → OnLayer L
  at_hand on = record on { place = None }

  -- buffers whose pixels are lent in their order, from this place on
  abbrev pub lent_from : ℕ → List (OnLayer L) → List (OnLayer L)
  lent_from place [] = []
  lent_from place (one ∷ on) = record one { place = Some place } ∷ lent_from (place + 1) on

  -- the buffer is on this layer
  abbrev pub is_on : LayerId → OnLayer L → Bool
  is_on layer on = on.layer.0 == layer.0

  -- no layer shows just this: the frame of a queue with its picture and its crop
  abbrev pub AreOthers : Shown → List (OnLayer L) → Type 0
  AreOthers shown on = All (λ (one : OnLayer L). one.shown ≢ shown) on

  -- the place of the first buffer on a layer that is just this one, and none exactly where no layer shows it
  abbrev pub IsPlaceOf : Shown → List (OnLayer L) → Option ℕ → Type 0
  IsPlaceOf shown on None = AreOthers shown on
  IsPlaceOf shown on (Some place) = (place < length on) × ((d : OnLayer L) → (get_or on place d).shown ≡ shown) × AreOthers shown (take place on)

  -- nothing is shown on the layer any more: at most one buffer was
  abbrev pub without : LayerId → List (OnLayer L) → List (OnLayer L)
  without layer on = without_first (is_on layer) on

  -- what operations make of the buffers on layers, where each that shows a buffer shows the next of these: it takes the
  -- place of the layer's older one, and a destroyed layer shows none
  abbrev pub on_after : List (OnLayer L) → List (LayerId × Op) → List (Buffer L) → List (OnLayer L)
  on_after on [] buffers = on
  on_after on ((layer, op.Show _) ∷ ops) [] = on_after on ops []
  on_after on ((layer, op.Show _) ∷ ops) (buffer ∷ buffers) = on_after (without layer on ++ brought buffer ∷ []) ops buffers
  on_after on ((layer, op.Destroy) ∷ ops) buffers = on_after (without layer on) ops buffers
  on_after on ((layer, _) ∷ ops) buffers = on_after on ops buffers

  -- what goes with operations, in their order: the buffer that a newer one replaces, and that of a destroyed layer
  abbrev pub gone_with : List (OnLayer L) → List (LayerId × Op) → List (Buffer L) → List (OnLayer L)
  gone_with on [] buffers = []
  gone_with on ((layer, op.Show _) ∷ ops) [] = gone_with on ops []
  gone_with on ((layer, op.Show _) ∷ ops) (buffer ∷ buffers) =
      option_to_list (find (is_on layer) on) ++ gone_with (without layer on ++ brought buffer ∷ []) ops buffers
  gone_with on ((layer, op.Destroy) ∷ ops) buffers = option_to_list (find (is_on layer) on) ++ gone_with (without layer on) ops buffers
  gone_with on ((layer, _) ∷ ops) buffers = gone_with on ops buffers

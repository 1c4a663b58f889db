-- What holds of all buffers on layers, and of those that transactions bring, holds of those that stay and of those that go.
use Rattle.std.proofs.Common.{List, [], ◌∷◌, ◌++◌, map, Option, Some, None}
use Rattle.std.specs.List.{All, find}
use Rattle.std.specs.Option.{IfSome, option_to_list}
use Rattle.std.proofs.lemmas.List.Elements.{All-append, All-cons, All-head, All-nil, All-tail}
use Rattle.sf_base.specs.declared.ids.LayerId.{LayerId}
use Rattle.sf_view.specs.sf_layer.declared.op.Op.{Op}
use Rattle.sf_view.specs.sf_layer.declared.op.Op.TheVariants as op
use Rattle.sf_commit_next.specs.sf_txn.Buffers.{Buffer}
use Rattle.sf_commit.proofs.DecideLemmas.{all_left}
use Rattle.sf_commit_next.proofs.NextLemmas.{found_holds}
use Rattle.sf_commit.specs.OnLayers.{OnLayer, brought, gone_with, is_on, on_after, without}

listed : {X : Type 0} (P : X → Type 0) (o : Option X) → IfSome o P → All P (option_to_list o)
listed P None h = All-nil P
listed P (Some x) h = All-cons P x [] h (All-nil P)

module _ {L : Type 0} (P : OnLayer L → Type 0) where
  -- one more buffer on a layer
  shown_all : (layer : LayerId) (on : List (OnLayer L)) (b : Buffer L) (bs : List (Buffer L)) → All P on → All P (map brought (b ∷ bs)) → All P (without layer on ++ brought b ∷ [])
  shown_all layer on b bs h k =
      All-append P (without layer on) (brought b ∷ []) (all_left P (is_on layer) on h) (All-cons P (brought b) [] (All-head P (brought b) (map brought bs) k) (All-nil P))

  left_by : (layer : LayerId) (on : List (OnLayer L)) → All P on → All P (option_to_list (find (is_on layer) on))
  left_by layer on h = listed P (find (is_on layer) on) (found_holds P (is_on layer) on h)

  pub after_all : (on : List (OnLayer L)) (ops : List (LayerId × Op)) (buffers : List (Buffer L)) → All P on → All P (map brought buffers) → All P (on_after on ops buffers)
  after_all on [] buffers h k = h
  after_all on ((layer, op.Show shown) ∷ ops) [] h k = after_all on ops [] h k
  after_all on ((layer, op.Show shown) ∷ ops) (b ∷ bs) h k =
      after_all (without layer on ++ brought b ∷ []) ops bs (shown_all layer on b bs h k) (All-tail P (brought b) (map brought bs) k)
  after_all on ((layer, op.Destroy) ∷ ops) buffers h k = after_all (without layer on) ops buffers (all_left P (is_on layer) on h) k
  after_all on ((layer, (op.Create kind parent)) ∷ ops) buffers h k = after_all on ops buffers h k
  after_all on ((layer, (op.Reparent parent)) ∷ ops) buffers h k = after_all on ops buffers h k
  after_all on ((layer, (op.Z z)) ∷ ops) buffers h k = after_all on ops buffers h k
  after_all on ((layer, (op.Relative other z)) ∷ ops) buffers h k = after_all on ops buffers h k
  after_all on ((layer, (op.Position x y)) ∷ ops) buffers h k = after_all on ops buffers h k
  after_all on ((layer, (op.Crop crop)) ∷ ops) buffers h k = after_all on ops buffers h k
  after_all on ((layer, (op.Alpha alpha)) ∷ ops) buffers h k = after_all on ops buffers h k
  after_all on ((layer, (op.Hidden hidden)) ∷ ops) buffers h k = after_all on ops buffers h k
  after_all on ((layer, (op.Opaque opaque)) ∷ ops) buffers h k = after_all on ops buffers h k
  after_all on ((layer, (op.Colour colour)) ∷ ops) buffers h k = after_all on ops buffers h k
  after_all on ((layer, (op.Backpressure backpressure)) ∷ ops) buffers h k = after_all on ops buffers h k
  after_all on ((layer, (op.Orient orient)) ∷ ops) buffers h k = after_all on ops buffers h k

  pub gone_all : (on : List (OnLayer L)) (ops : List (LayerId × Op)) (buffers : List (Buffer L)) → All P on → All P (map brought buffers) → All P (gone_with on ops buffers)
  gone_all on [] buffers h k = All-nil P
  gone_all on ((layer, op.Show shown) ∷ ops) [] h k = gone_all on ops [] h k
  gone_all on ((layer, op.Show shown) ∷ ops) (b ∷ bs) h k =
      All-append P (option_to_list (find (is_on layer) on)) (gone_with (without layer on ++ brought b ∷ []) ops bs) (left_by layer on h)
      (gone_all (without layer on ++ brought b ∷ []) ops bs (shown_all layer on b bs h k) (All-tail P (brought b) (map brought bs) k))
  gone_all on ((layer, op.Destroy) ∷ ops) buffers h k =
      All-append P (option_to_list (find (is_on layer) on)) (gone_with (without layer on) ops buffers) (left_by layer on h)
      (gone_all (without layer on) ops buffers (all_left P (is_on layer) on h) k)
  gone_all on ((layer, (op.Create kind parent)) ∷ ops) buffers h k = gone_all on ops buffers h k
  gone_all on ((layer, (op.Reparent parent)) ∷ ops) buffers h k = gone_all on ops buffers h k
  gone_all on ((layer, (op.Z z)) ∷ ops) buffers h k = gone_all on ops buffers h k
  gone_all on ((layer, (op.Relative other z)) ∷ ops) buffers h k = gone_all on ops buffers h k
  gone_all on ((layer, (op.Position x y)) ∷ ops) buffers h k = gone_all on ops buffers h k
  gone_all on ((layer, (op.Crop crop)) ∷ ops) buffers h k = gone_all on ops buffers h k
  gone_all on ((layer, (op.Alpha alpha)) ∷ ops) buffers h k = gone_all on ops buffers h k
  gone_all on ((layer, (op.Hidden hidden)) ∷ ops) buffers h k = gone_all on ops buffers h k
  gone_all on ((layer, (op.Opaque opaque)) ∷ ops) buffers h k = gone_all on ops buffers h k
  gone_all on ((layer, (op.Colour colour)) ∷ ops) buffers h k = gone_all on ops buffers h k
  gone_all on ((layer, (op.Backpressure backpressure)) ∷ ops) buffers h k = gone_all on ops buffers h k
  gone_all on ((layer, (op.Orient orient)) ∷ ops) buffers h k = gone_all on ops buffers h k

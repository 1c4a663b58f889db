-- What every transaction keeps, through each change.
use Rattle.std.proofs.Common.{◌≡◌, ℕ, ◌+◌, ◌≤◌, Bool, true, false, List, [], ◌∷◌, length, map, refl, ap, ◌∙◌, arith, length-append}
use Rattle.std.specs.List.{All}
use Rattle.std.specs.Prelude.{ℤ}
use Rattle.std.proofs.lemmas.Int.{ints}
use Rattle.std.proofs.lemmas.List.Elements.{All-head, All-push, All-tail}
use Rattle.sf_base.specs.declared.ids.LayerId.{LayerId}
use Rattle.sf_layer.specs.Ranges.{IsOperation}
use Rattle.sf_base.specs.Geometry.{IsWithin, LiesWithin}
use Rattle.sf_base.specs.declared.geometry.Rect.{Rect}
use Rattle.sf_picture.specs.Pixels.{HasSize}
use Rattle.sf_picture.specs.declared.picture.Picture.{Picture}
use Rattle.sf_layer.specs.declared.op.Op.{Op}
use Rattle.sf_layer.specs.declared.op.Op.TheVariants as op
use Rattle.sf_layer.specs.declared.shown.Shown.{Shown}
use Rattle.sf_txn.specs.Buffers.{Buffer}
use Rattle.sf_txn.specs.Transactions.{Contents, IsTransaction, merged, replaces, set, set_buffer, show_op, shown_by, shows, shows_of, with_buffer, with_buffers, with_op, with_ops, without_first}
use Rattle.sf_txn.proofs.Apart.{stay-with_op, stay-with_ops}
use Rattle.sf_txn.proofs.Firsts.{All-without_first, length-without_first}
use Rattle.sf_txn.proofs.ShownBuffers.{is_plain, plain_from_none, shows_none, shows_one, shows-with-plain, shows-with-show}

-- a picture is not larger than the greatest buffer
within_more : (start : ℤ) (extent size more : ℕ) → IsWithin start extent size → size ≤ more → IsWithin start extent more
within_more start extent size more h few = record { low = h.low; high = omega (arith, ints, h.high, few) }

pub within_greatest : (crop : Rect) (picture : Picture) → LiesWithin crop picture.width picture.height → HasSize picture → LiesWithin crop 512 512
within_greatest crop picture h size = record {
  across = within_more _ _ _ 512 h.across size.narrow;
  down = within_more _ _ _ 512 h.down size.low;
}

pub length-with_op : (ops : List (LayerId × Op)) (operation : LayerId × Op) → length (with_op ops operation) ≤ length ops + 1
length-with_op ops operation = omega (arith, length-append {A = LayerId × Op}, length-without_first (replaces operation) ops)

pub All-with_op : (ops : List (LayerId × Op)) (operation : LayerId × Op) → All IsOperation ops → IsOperation operation → All IsOperation (with_op ops operation)
All-with_op ops operation h one = All-push IsOperation (without_first (replaces operation) ops) operation (All-without_first IsOperation (replaces operation) ops h) one

pub IsTransaction-set : {L : Type 0} (txn : Contents L) (operation : LayerId × Op) → IsTransaction txn → length txn.ops + 1 ≤ 4294967295 → IsOperation operation → shows_of operation.1 operation.0 ≡ [] → IsTransaction (set txn operation)
IsTransaction-set txn operation h few one plain = record {
  few = omega (arith, few, length-with_op txn.ops operation);
  in_range = All-with_op txn.ops operation h.in_range one;
  apart = stay-with_op txn.ops operation h.apart;
  shown = shows-with-plain txn.ops operation (plain_from_none operation.1 operation.0 plain) ∙ h.shown;
}

pub IsTransaction-set_buffer : {L : Type 0} (txn : Contents L) (buffer : Buffer L) → IsTransaction txn → length txn.ops + 1 ≤ 4294967295 → IsOperation (show_op buffer) → IsTransaction (set_buffer txn buffer)
IsTransaction-set_buffer txn buffer h few one = record {
  few = omega (arith, few, length-with_op txn.ops (show_op buffer));
  in_range = All-with_op txn.ops (show_op buffer) h.in_range one;
  apart = stay-with_op txn.ops (show_op buffer) h.apart;
  shown = shows-with-show txn.ops txn.buffers buffer h.shown;
}

length-with_ops : (ops more : List (LayerId × Op)) → length (with_ops ops more) ≤ length ops + length more
length-with_ops ops [] = omega arith
length-with_ops ops (operation ∷ more) = omega (arith, length-with_op ops operation, length-with_ops (with_op ops operation) more)

All-with_ops : (ops more : List (LayerId × Op)) → All IsOperation ops → All IsOperation more → All IsOperation (with_ops ops more)
All-with_ops ops [] h m = h
All-with_ops ops (operation ∷ more) h m = All-with_ops (with_op ops operation) more (All-with_op ops operation h (All-head IsOperation operation more m)) (All-tail IsOperation operation more m)

-- operations and the buffers that they show go into a transaction alike
abbrev GoAlike : Type 0 → List (LayerId × Op) → Type 0
GoAlike L more = (ops : List (LayerId × Op)) (buffers later : List (Buffer L)) → shows ops ≡ map shown_by buffers → shows more ≡ map shown_by later → shows (with_ops ops more) ≡ map shown_by (with_buffers buffers later)

none_alike : {L : Type 0} → GoAlike L []
none_alike ops buffers [] h m = h
none_alike ops buffers (buffer ∷ later) h m = cc

show_alike : {L : Type 0} (operation : LayerId × Op) (more : List (LayerId × Op)) (shown : Shown) → operation.1 ≡ op.Show shown → GoAlike L more → GoAlike L (operation ∷ more)
show_alike operation more shown e rest ops buffers [] h m =
    let clash : ((operation.0, shown) ∷ shows more) ≡ [] = rw e at m in cc
show_alike operation more shown e rest ops buffers (buffer ∷ later) h m =
    let both : ((operation.0, shown) ∷ shows more) ≡ (shown_by buffer ∷ map shown_by later) = rw e at m in
    let first : (operation.0, shown) ≡ shown_by buffer = cc in
    let others : shows more ≡ map shown_by later = cc in
    let same : operation ≡ show_op buffer = ap (λ o. (operation.0, o)) e ∙ ap (λ pair. (pair.0, op.Show pair.1)) first in
    rest (with_op ops operation) (with_buffer buffers buffer) later (rw same (shows-with-show ops buffers buffer h)) others

plain_alike : {L : Type 0} (operation : LayerId × Op) (more : List (LayerId × Op)) → is_plain operation.1 ≡ true → GoAlike L more → GoAlike L (operation ∷ more)
plain_alike operation more p rest ops buffers later h m =
    rest (with_op ops operation) buffers later (shows-with-plain ops operation p ∙ h) (rw (shows_none operation.1 operation.0 p) at m)

one_alike : {L : Type 0} (operation : LayerId × Op) (more : List (LayerId × Op)) → GoAlike L more → GoAlike L (operation ∷ more)
one_alike {L} operation more rest = by_kind (is_plain operation.1) refl
  where
    by_kind : (b : Bool) → is_plain operation.1 ≡ b → GoAlike L (operation ∷ more)
    by_kind true p = plain_alike operation more p rest
    by_kind false p = let one : (shown : Shown) × (operation.1 ≡ op.Show shown) = shows_one operation.1 p in show_alike operation more one.0 one.1 rest

all_alike : {L : Type 0} (more : List (LayerId × Op)) → GoAlike L more
all_alike [] = none_alike
all_alike (operation ∷ more) = one_alike operation more (all_alike more)

pub IsTransaction-merged : {L : Type 0} (txn other : Contents L) → IsTransaction txn → IsTransaction other → length txn.ops + length other.ops ≤ 4294967295 → IsTransaction (merged txn other)
IsTransaction-merged txn other h o few = record {
  few = omega (arith, few, length-with_ops txn.ops other.ops);
  in_range = All-with_ops txn.ops other.ops h.in_range o.in_range;
  apart = stay-with_ops txn.ops other.ops h.apart;
  shown = all_alike other.ops txn.ops txn.buffers other.buffers h.shown o.shown;
}

-- Operations of which none is rejected for too many layers come to the same in a tree for more layers.
use Rattle.std.proofs.Common.{◌≡◌, ◌≢◌, ℕ, ◌+◌, ◌≤◌, Bool, true, false, not, if◌then◌else◌, List, [], ◌∷◌, ◌++◌, length, Result, Ok, Err, refl, ap, ◌∙◌, sym, subst, arith, nat_le}
use Rattle.std.proofs.lemmas.Bool.Decides.{nat_tests}
use Rattle.sf_base.specs.declared.ids.LayerId.{LayerId}
use Rattle.sf_layer.specs.declared.kind.Kind.{Kind}
use Rattle.sf_layer.specs.declared.layer.Layer.{Layer}
use Rattle.sf_layer.specs.declared.op.Op.{Op}
use Rattle.sf_layer.specs.declared.op.Op.TheVariants as op
use Rattle.sf_layer.specs.declared.parent.Parent.{Parent}
use Rattle.sf_tree.specs.Changes.{Rejection, after, after_from, changed, created, new_layer, then_after, with_layers}
use Rattle.sf_tree.specs.Layers.{has_layer, has_parent}
use Rattle.sf_tree.specs.Rejects.{number_of}
use Rattle.sf_tree.specs.Trees.{TreeOf}
use Rattle.sf_tree.specs.declared.reject.Reject.{Reject}
use Rattle.sf_tree.specs.declared.reject.Reject.TheVariants as reject

-- operations were done, or rejected for another cause than too many layers
abbrev pub HasRoom : {X : Type 0} → Result X Rejection → Type 0
HasRoom (Ok _) = Unit {0}
HasRoom (Err rejection) = rejection.cause ≢ 5

-- the same layers in a tree for more of them
abbrev pub with_most : ℕ → TreeOf → TreeOf
with_most most tree = record tree { most = most }

-- what operations come to in a tree for more layers
abbrev pub in_more : {E : Type 0} → ℕ → Result TreeOf E → Result TreeOf E
in_more most (Ok tree) = Ok (with_most most tree)
in_more most (Err e) = Err e

-- the same of one operation
abbrev HasRoomOne : Result (List Layer) Reject → Type 0
HasRoomOne (Ok _) = Unit {0}
HasRoomOne (Err cause) = number_of cause ≢ 5

still_room : (one other n : ℕ) → one ≤ other → nat_le one n ≡ false → nat_le other n ≡ false
still_room one other n more h = grind (arith, nat_tests)

created_more : (one other : ℕ) → one ≤ other → (layers : List Layer) (id : LayerId) (kind : Kind) (parent : Parent) → HasRoomOne (created one layers id kind parent)
    → created other layers id kind parent ≡ created one layers id kind parent
unfolding created
created_more one other more layers id kind parent room = by_tests (has_parent layers parent) (has_layer layers id) (nat_le one (length layers)) refl room
  where
    made : ℕ → Bool → Bool → Bool → Result (List Layer) Reject
    made most p h full = if not p then Err reject.UnknownLayer else if h then Err reject.LayerExists else if full then Err reject.TooManyLayers else Ok (layers ++ new_layer id kind parent ∷ [])

    by_tests : (p h full : Bool) → nat_le one (length layers) ≡ full → HasRoomOne (made one p h full) → made other p h (nat_le other (length layers)) ≡ made one p h full
    by_tests false h full t room = refl
    by_tests true true full t room = refl
    by_tests true false true t room = absurd (room refl)
    by_tests true false false t room = rw (still_room one other (length layers) more t) refl

changed_more : (one other : ℕ) → one ≤ other → (layers : List Layer) (id : LayerId) (operation : Op) → HasRoomOne (changed one layers id operation)
    → changed other layers id operation ≡ changed one layers id operation
changed_more one other more layers id (op.Create kind parent) room = created_more one other more layers id kind parent room
changed_more one other more layers id op.Destroy room = refl
changed_more one other more layers id (op.Reparent parent) room = refl
changed_more one other more layers id (op.Relative to z) room = refl
changed_more one other more layers id (op.Z z) room = refl
changed_more one other more layers id (op.Position x y) room = refl
changed_more one other more layers id (op.Crop crop) room = refl
changed_more one other more layers id (op.Alpha alpha) room = refl
changed_more one other more layers id (op.Hidden hidden) room = refl
changed_more one other more layers id (op.Opaque opaque) room = refl
changed_more one other more layers id (op.Colour colour) room = refl
changed_more one other more layers id (op.Backpressure on) room = refl
changed_more one other more layers id (op.Show shown) room = refl
changed_more one other more layers id (op.Orient orient) room = refl

from_more : (one other : ℕ) → one ≤ other → (number : ℕ) (layers : List Layer) (operations : List (LayerId × Op)) → HasRoom (after_from one number layers operations)
    → after_from other number layers operations ≡ after_from one number layers operations
from_more one other more number layers [] room = refl
from_more one other more number layers (operation ∷ operations) room = by_result (λ next. from_more one other more (number + 1) next operations) (changed one layers operation.0 operation.1) refl room
  where
    by_result : ((next : List Layer) → HasRoom (after_from one (number + 1) next operations) → after_from other (number + 1) next operations ≡ after_from one (number + 1) next operations)
        → (r : Result (List Layer) Reject) → changed one layers operation.0 operation.1 ≡ r → HasRoom (then_after number r (λ next. after_from one (number + 1) next operations))
        → then_after number (changed other layers operation.0 operation.1) (λ next. after_from other (number + 1) next operations)
        ≡ then_after number (changed one layers operation.0 operation.1) (λ next. after_from one (number + 1) next operations)
    by_result later (Ok next) e room =
        let same : changed other layers operation.0 operation.1 ≡ Ok next = changed_more one other more layers operation.0 operation.1 (subst HasRoomOne (sym e) tt) ∙ e in
        rw (same, e) (later next room)
    by_result later (Err cause) e room =
        let same : changed other layers operation.0 operation.1 ≡ Err cause = changed_more one other more layers operation.0 operation.1 (subst HasRoomOne (sym e) room) ∙ e in
        rw (same, e) refl

layers_room : (tree : TreeOf) (r : Result (List Layer) Rejection) → HasRoom (with_layers tree r) → HasRoom r
layers_room tree (Ok layers) room = tt
layers_room tree (Err rejection) room = room

layers_more : (tree : TreeOf) (most : ℕ) (r : Result (List Layer) Rejection) → with_layers (with_most most tree) r ≡ in_more most (with_layers tree r)
layers_more tree most (Ok layers) = refl
layers_more tree most (Err rejection) = refl

pub after_more : (tree : TreeOf) (most : ℕ) (operations : List (LayerId × Op)) → tree.most ≤ most → HasRoom (after tree operations)
    → after (with_most most tree) operations ≡ in_more most (after tree operations)
after_more tree most operations more room =
    ap (with_layers (with_most most tree)) (from_more tree.most most more 1 tree.layers operations (layers_room tree _ room)) ∙ layers_more tree most _

-- Which buffers the operations of a list show.
use Rattle.std.proofs.Common.{◌≡◌, Bool, true, false, not, List, [], ◌∷◌, ◌++◌, map, refl, ap, ◌∙◌, sym, arith, true≢false}
use Rattle.std.specs.Prelude.{◌==◌, ◌&&◌}
use Rattle.std.proofs.lemmas.Grind.{common_steps}
use Rattle.sf_base.specs.declared.ids.LayerId.{LayerId}
use Rattle.sf_layer.specs.Kinds.{kind_of}
use Rattle.sf_layer.specs.declared.op.Op.{Op}
use Rattle.sf_layer.specs.declared.op.Op.TheVariants as op
use Rattle.sf_layer.specs.declared.shown.Shown.{Shown}
use Rattle.sf_txn.specs.Buffers.{Buffer}
use Rattle.sf_txn.specs.Transactions.{is_for, replaces, show_op, shown_by, shows, shows_of, with_buffer, with_op, without_first}
use Rattle.sf_txn.proofs.Firsts.{map-without_first}

-- an operation shows no buffer, or it shows one
abbrev pub is_plain : Op → Bool
is_plain (op.Show _) = false
is_plain _ = true

pub shows_none : (o : Op) (layer : LayerId) → is_plain o ≡ true → shows_of o layer ≡ []
shows_none (op.Create _ _) layer h = refl
shows_none op.Destroy layer h = refl
shows_none (op.Reparent _) layer h = refl
shows_none (op.Z _) layer h = refl
shows_none (op.Relative _ _) layer h = refl
shows_none (op.Position _ _) layer h = refl
shows_none (op.Crop _) layer h = refl
shows_none (op.Alpha _) layer h = refl
shows_none (op.Hidden _) layer h = refl
shows_none (op.Opaque _) layer h = refl
shows_none (op.Colour _) layer h = refl
shows_none (op.Backpressure _) layer h = refl
shows_none (op.Show _) layer h = cc
shows_none (op.Orient _) layer h = refl

pub plain_from_none : (o : Op) (layer : LayerId) → shows_of o layer ≡ [] → is_plain o ≡ true
plain_from_none (op.Create _ _) layer h = refl
plain_from_none op.Destroy layer h = refl
plain_from_none (op.Reparent _) layer h = refl
plain_from_none (op.Z _) layer h = refl
plain_from_none (op.Relative _ _) layer h = refl
plain_from_none (op.Position _ _) layer h = refl
plain_from_none (op.Crop _) layer h = refl
plain_from_none (op.Alpha _) layer h = refl
plain_from_none (op.Hidden _) layer h = refl
plain_from_none (op.Opaque _) layer h = refl
plain_from_none (op.Colour _) layer h = refl
plain_from_none (op.Backpressure _) layer h = refl
plain_from_none (op.Show _) layer h = cc
plain_from_none (op.Orient _) layer h = refl

pub shows_one : (o : Op) → is_plain o ≡ false → (shown : Shown) × (o ≡ op.Show shown)
shows_one (op.Show shown) h = (shown, refl)
shows_one (op.Create _ _) h = absurd (true≢false h)
shows_one op.Destroy h = absurd (true≢false h)
shows_one (op.Reparent _) h = absurd (true≢false h)
shows_one (op.Z _) h = absurd (true≢false h)
shows_one (op.Relative _ _) h = absurd (true≢false h)
shows_one (op.Position _ _) h = absurd (true≢false h)
shows_one (op.Crop _) h = absurd (true≢false h)
shows_one (op.Alpha _) h = absurd (true≢false h)
shows_one (op.Hidden _) h = absurd (true≢false h)
shows_one (op.Opaque _) h = absurd (true≢false h)
shows_one (op.Colour _) h = absurd (true≢false h)
shows_one (op.Backpressure _) h = absurd (true≢false h)
shows_one (op.Orient _) h = absurd (true≢false h)

-- by its kind
pub plain_by_kind : (o : Op) → is_plain o ≡ not (kind_of o == 11)
plain_by_kind (op.Create _ _) = refl
plain_by_kind op.Destroy = refl
plain_by_kind (op.Reparent _) = refl
plain_by_kind (op.Z _) = refl
plain_by_kind (op.Relative _ _) = refl
plain_by_kind (op.Position _ _) = refl
plain_by_kind (op.Crop _) = refl
plain_by_kind (op.Alpha _) = refl
plain_by_kind (op.Hidden _) = refl
plain_by_kind (op.Opaque _) = refl
plain_by_kind (op.Colour _) = refl
plain_by_kind (op.Backpressure _) = refl
plain_by_kind (op.Show _) = refl
plain_by_kind (op.Orient _) = refl

pub shows-append : (xs ys : List (LayerId × Op)) → shows (xs ++ ys) ≡ shows xs ++ shows ys
shows-append [] ys = refl
shows-append (x ∷ xs) ys = grind (arith, common_steps, shows-append xs ys)

same_kind : (later earlier : LayerId × Op) → replaces later earlier ≡ true → kind_of earlier.1 ≡ kind_of later.1
same_kind later earlier h = grind (arith, common_steps)

-- what takes no buffer's place leaves all buffers
pub shows-without-plain : (later : LayerId × Op) (ops : List (LayerId × Op)) → is_plain later.1 ≡ true → shows (without_first (replaces later) ops) ≡ shows ops
shows-without-plain later [] h = refl
shows-without-plain later (x ∷ xs) h = by_test (replaces later x) refl (shows-without-plain later xs h)
  where
    by_test : (b : Bool) → replaces later x ≡ b → shows (without_first (replaces later) xs) ≡ shows xs → shows (without_first (replaces later) (x ∷ xs)) ≡ shows (x ∷ xs)
    by_test true e rest =
        let plain : is_plain x.1 ≡ true = plain_by_kind x.1 ∙ (ap (λ k. not (k == 11)) (same_kind later x e) ∙ (sym (plain_by_kind later.1) ∙ h)) in
        rw (e, shows_none x.1 x.0 plain) refl
    by_test false e rest = rw e (ap (λ zs. shows_of x.1 x.0 ++ zs) rest)

-- the buffer of a layer
abbrev pub is_of : LayerId → LayerId × Shown → Bool
is_of layer pair = pair.0.0 == layer.0

and_false : (b : Bool) → (b && false) ≡ false
and_false true = refl
and_false false = refl

and_true : (b : Bool) → (b && true) ≡ b
and_true true = refl
and_true false = refl

show_replaces : (layer : LayerId) (shown : Shown) (x : LayerId × Op) → replaces (layer, op.Show shown) x ≡ (x.0.0 == layer.0 && not (is_plain x.1))
show_replaces layer shown x = rw (plain_by_kind x.1) (by_kind (kind_of x.1 == 11))
  where
    by_kind : (b : Bool) → (x.0.0 == layer.0 && b) ≡ (x.0.0 == layer.0 && not (not b))
    by_kind true = refl
    by_kind false = refl

-- what takes a buffer's place leaves the others
pub shows-without-show : (layer : LayerId) (shown : Shown) (ops : List (LayerId × Op)) → shows (without_first (replaces (layer, op.Show shown)) ops) ≡ without_first (is_of layer) (shows ops)
shows-without-show layer shown [] = refl
shows-without-show layer shown (x ∷ xs) = by_kind (is_plain x.1) refl (shows-without-show layer shown xs)
  where
    by_layer : (b : Bool) (t : Shown) → (x.0.0 == layer.0) ≡ b → x.1 ≡ op.Show t → is_plain x.1 ≡ false → shows (without_first (replaces (layer, op.Show shown)) xs) ≡ without_first (is_of layer) (shows xs) → shows (without_first (replaces (layer, op.Show shown)) (x ∷ xs)) ≡ without_first (is_of layer) (shows (x ∷ xs))
    by_layer true t n e p rest = rw (show_replaces layer shown x, p, e, n) refl
    by_layer false t n e p rest = rw (show_replaces layer shown x, p, e, n) (ap (λ zs. (x.0, t) ∷ zs) rest)

    by_kind : (b : Bool) → is_plain x.1 ≡ b → shows (without_first (replaces (layer, op.Show shown)) xs) ≡ without_first (is_of layer) (shows xs) → shows (without_first (replaces (layer, op.Show shown)) (x ∷ xs)) ≡ without_first (is_of layer) (shows (x ∷ xs))
    by_kind true p rest = rw (show_replaces layer shown x, p, and_false (x.0.0 == layer.0), shows_none x.1 x.0 p) rest
    by_kind false p rest = let one : (t : Shown) × (x.1 ≡ op.Show t) = shows_one x.1 p in by_layer (x.0.0 == layer.0) one.0 refl one.1 p rest

append_nil : {X : Type 0} (xs : List X) → (xs ++ []) ≡ xs
append_nil [] = refl
append_nil (x ∷ xs) = ap (λ ys. x ∷ ys) (append_nil xs)

map_append : {X Y : Type 0} (f : X → Y) (xs ys : List X) → map f (xs ++ ys) ≡ map f xs ++ map f ys
map_append f [] ys = refl
map_append f (x ∷ xs) ys = ap (λ zs. f x ∷ zs) (map_append f xs ys)

-- an operation that shows none changes no buffer
pub shows-with-plain : (ops : List (LayerId × Op)) (later : LayerId × Op) → is_plain later.1 ≡ true → shows (with_op ops later) ≡ shows ops
shows-with-plain ops later h =
    shows-append (without_first (replaces later) ops) (later ∷ []) ∙ (rw (shows_none later.1 later.0 h, shows-without-plain later ops h) (append_nil (shows ops)))

-- a buffer is shown as it is put
pub shows-with-show : {L : Type 0} (ops : List (LayerId × Op)) (buffers : List (Buffer L)) (buffer : Buffer L) → shows ops ≡ map shown_by buffers → shows (with_op ops (show_op buffer)) ≡ map shown_by (with_buffer buffers buffer)
shows-with-show ops buffers buffer h =
    shows-append (without_first (replaces (show_op buffer)) ops) (show_op buffer ∷ [])
    ∙ (rw (shows-without-show buffer.layer buffer.shown ops, h, sym (map-without_first (is_of buffer.layer) shown_by buffers)) (sym (map_append shown_by (without_first (is_for buffer.layer) buffers) (buffer ∷ []))))

-- An edit of a layer in place: what it makes of the list, and that it can be taken back.
use Rattle.std.proofs.Common.{◌≡◌, ℕ, ◌<◌, true, List, length, get_or, Some, refl, ap, ◌∙◌, sym, subst, length-set, Ok, Err, Result, Option, None, Bool, false, ◌&&◌, ℤ}
use Rattle.std.specs.Prelude.{if◌then◌else◌, IfOk}
use Rattle.std.specs.List.{slice_get, slice_set}
use Rattle.std.proofs.lemmas.List.{get_or-set_same, set-set, set-get_or}
use Rattle.std.proofs.lemmas.Option.{get_or_from_slice_get}
use Rattle.sf_base.specs.declared.ids.LayerId.{LayerId}
use Rattle.sf_layer.specs.declared.layer.Layer.{Layer}
use Rattle.sf_layer.specs.declared.op.Op.{Op}
use Rattle.sf_layer.specs.declared.op.Op.TheVariants as op
use Rattle.sf_tree.specs.Changes.{with_layer, edited, edited_layer, fits_kind, made_relative, reparented}
use Rattle.sf_tree.specs.inner.ChangeAnswers.{draw_cause, IsChange, parent_cause, Settles}
use Rattle.sf_tree.specs.Kept.{IsDistinct}
use Rattle.sf_tree.specs.Layers.{index_of, layer_of, has_layer, has_parent}
use Rattle.sf_tree.specs.Steps.{parent_steps, all_steps, reaches_itself}
use Rattle.sf_tree.specs.declared.reject.Reject.{Reject}
use Rattle.sf_tree.specs.declared.reject.Reject.TheVariants as reject
use Rattle.sf_tree.specs.declared.changes.ChangeFault.{ChangeFault}
use Rattle.sf_tree.specs.declared.journal.Undo.{Undo}
use Rattle.sf_base.specs.declared.memory.NoMemory.{NoMemory}
use Rattle.sf_layer.specs.declared.parent.Parent.{Parent}
use Rattle.sf_tree.proofs.Lookups.{with_layer-place, layer_of-place, layer_of-none}
use Rattle.sf_tree.proofs.Places.{index_of_inside}

-- what follows where a layer found by its number gets another state in place
pub record IsEdit (xs : List Layer) (id : LayerId) (f : Layer → Layer) (place : ℕ) (layer next : Layer) : Type 0 where
  pub found : layer_of xs id ≡ Some layer
  pub is : with_layer id f xs ≡ slice_set xs place next
  pub before : (get_or xs place next).number ≡ next.number
  pub inside : place < length (slice_set xs place next)
  pub number : (get_or (slice_set xs place next) place layer).number ≡ layer.number
  pub back : slice_set (slice_set xs place next) place layer ≡ xs

pub edit_at : (xs : List Layer) (id : LayerId) (f : Layer → Layer) (place : ℕ) (layer next : Layer) → IsDistinct xs → Some place ≡ index_of xs id → slice_get xs place ≡ Some layer → next ≡ f layer → next.number ≡ layer.number → IsEdit xs id f place layer next
edit_at xs id f place layer next distinct e at is kept = record {
  found = layer_of-place xs id place (sym e) ∙ at;
  is = rw is (with_layer-place xs id f place layer distinct (sym e) at);
  before = ap (λ (l : Layer). l.number) (get_or_from_slice_get xs place layer next at) ∙ sym kept;
  inside = rw (length-set xs place next) inside;
  number = rw (get_or-set_same xs place next layer inside) kept;
  back = set-set xs place next layer ∙ subst (λ (l : Layer). slice_set xs place l ≡ xs) (get_or_from_slice_get xs place layer layer at) (set-get_or xs place layer);
}
  where
    inside : place < length xs
    inside = index_of_inside xs id place (sym e)

-- an edit keeps the number
pub edited_number : (operation : Op) (layer : Layer) → (edited operation layer).number ≡ layer.number
edited_number (op.Create _ _) layer = refl
edited_number op.Destroy layer = refl
edited_number (op.Reparent _) layer = refl
edited_number (op.Z _) layer = refl
edited_number (op.Relative _ _) layer = refl
edited_number (op.Position _ _) layer = refl
edited_number (op.Crop _) layer = refl
edited_number (op.Alpha _) layer = refl
edited_number (op.Hidden _) layer = refl
edited_number (op.Opaque _) layer = refl
edited_number (op.Colour _) layer = refl
edited_number (op.Backpressure _) layer = refl
edited_number (op.Show _) layer = refl
edited_number (op.Orient _) layer = refl

pub edited_layer-fits : (xs : List Layer) (id : LayerId) (operation : Op) (place : ℕ) (layer next : Layer) → IsEdit xs id (edited operation) place layer next → fits_kind operation layer.kind ≡ true → edited_layer xs id operation (layer_of xs id) ≡ Ok (slice_set xs place next)
edited_layer-fits xs id operation place layer next e fits = rw (e.found, fits) (ap Ok e.is)

-- what follows for a change that was settled
abbrev answer : Option Reject → List Layer → Result (List Layer) Reject
answer None next = Ok next
answer (Some cause) next = Err cause

settled : (xs ys zs : List Layer) (id : LayerId) (f : Layer → Layer) (place : ℕ) (layer next : Layer) (change : Result (List Layer) Reject) (cause : Option Reject) (sought : Result (Option Reject) NoMemory) (result : Result Undo ChangeFault) → IsEdit xs id f place layer next → ys ≡ slice_set xs place next → change ≡ answer cause ys → IfOk sought (λ found. found ≡ cause) → Settles sought result ys zs place layer → IsChange result xs zs change
settled xs ys zs id f place layer next change cause (Ok None) result e is asked sought s =
    rw (s.0, s.1, asked, sym sought, is) (refl, (e.inside, e.number), e.back)
settled xs ys zs id f place layer next change cause (Ok (Some found)) result e is asked sought s =
    rw (s.0, s.1, asked, sym sought, is) (refl, e.back)
settled xs ys zs id f place layer next change cause (Err _) result e is asked sought s =
    rw (s.0, s.1, is) e.back

by_parents : (p d : Bool) (ys : List Layer) → (if p then Err reject.ParentCycle else if d then Err reject.DrawCycle else Ok ys) ≡ answer (if p then Some reject.ParentCycle else if d then Some reject.DrawCycle else None) ys
by_parents true d ys = refl
by_parents false true ys = refl
by_parents false false ys = refl

by_draw : (d : Bool) (ys : List Layer) → (if d then Err reject.DrawCycle else Ok ys) ≡ answer (if d then Some reject.DrawCycle else None) ys
by_draw true ys = refl
by_draw false ys = refl

known : (xs : List Layer) (id : LayerId) (layer : Layer) → layer_of xs id ≡ Some layer → has_layer xs id ≡ true
known xs id layer e = rw e refl

pub reparented-settled : (xs ys zs : List Layer) (id : LayerId) (parent : Parent) (place : ℕ) (layer next : Layer) (sought : Result (Option Reject) NoMemory) (result : Result Undo ChangeFault) → IsEdit xs id (λ l. record l { parent = parent }) place layer next → ys ≡ slice_set xs place next → has_parent xs parent ≡ true → IfOk sought (λ found. found ≡ parent_cause ys id) → Settles sought result ys zs place layer → IsChange result xs zs (reparented xs id parent)
unfolding reparented
reparented-settled xs ys zs id parent place layer next sought result e is there found s =
    settled xs ys zs id _ place layer next _ (parent_cause ys id) sought result e is (rw (known xs id layer e.found, there, e.is, sym is) (by_parents (reaches_itself parent_steps ys id) (reaches_itself all_steps ys id) ys)) found s

pub made_relative-settled : (xs ys zs : List Layer) (id other : LayerId) (z : ℤ) (place : ℕ) (layer next : Layer) (sought : Result (Option Reject) NoMemory) (result : Result Undo ChangeFault) → IsEdit xs id (λ l. record l { relative = Some other; z = z }) place layer next → ys ≡ slice_set xs place next → has_layer xs other ≡ true → IfOk sought (λ found. found ≡ draw_cause ys id) → Settles sought result ys zs place layer → IsChange result xs zs (made_relative xs id other z)
unfolding made_relative
made_relative-settled xs ys zs id other z place layer next sought result e is there found s =
    settled xs ys zs id _ place layer next _ (draw_cause ys id) sought result e is (rw (known xs id layer e.found, there, e.is, sym is) (by_draw (reaches_itself all_steps ys id) ys)) found s

pub reparented-unknown : (xs : List Layer) (id : LayerId) (parent : Parent) → (has_layer xs id && has_parent xs parent) ≡ false → reparented xs id parent ≡ Err reject.UnknownLayer
unfolding reparented
reparented-unknown xs id parent e = rw e refl

pub made_relative-unknown : (xs : List Layer) (id other : LayerId) (z : ℤ) → (has_layer xs id && has_layer xs other) ≡ false → made_relative xs id other z ≡ Err reject.UnknownLayer
unfolding made_relative
made_relative-unknown xs id other z e = rw e refl

pub has_layer-absent : (xs : List Layer) (id : LayerId) → index_of xs id ≡ None → has_layer xs id ≡ false
has_layer-absent xs id e = rw (layer_of-none xs id e) refl

-- A log of changes with one more at its end.
use Rattle.std.proofs.Common.{◌≡◌, false, List, [], ◌∷◌, ◌++◌, Option, Some, None, is_some, unwrap_or, refl, ap, ◌∙◌, ℕ, ◌+◌, ◌<◌, length, get_or, drop, drop-cons, suc, sym, subst, arith, Ok}
use Rattle.sf_base.specs.declared.ids.LayerId.{LayerId}
use Rattle.sf_layer.specs.declared.op.Op.{Op}
use Rattle.sf_tree.specs.Changes.{after_from, changed}
use Rattle.sf_layer.specs.declared.layer.Layer.{Layer}
use Rattle.sf_tree.specs.declared.journal.Undo.{Undo}
use Rattle.sf_tree.specs.inner.Journal.{back, CanGoBack, CanUndo, undone}

pub back-push : (log : List Undo) (last : Undo) (layers : List Layer) → back (log ++ last ∷ []) layers ≡ back log (undone last layers)
back-push [] last layers = refl
back-push (change ∷ log) last layers = ap (undone change) (back-push log last layers)

pub CanGoBack-push : (log : List Undo) (last : Undo) (layers : List Layer) → CanGoBack log (undone last layers) → CanUndo last layers → CanGoBack (log ++ last ∷ []) layers
CanGoBack-push [] last layers can one = (tt, one)
CanGoBack-push (change ∷ log) last layers can one = (CanGoBack-push log last layers can.0 one, now)
  where
    now : CanUndo change (back (log ++ last ∷ []) layers)
    now = rw (back-push log last layers) can.1

pub CanGoBack-pop : (log : List Undo) (last : Undo) (layers : List Layer) → CanGoBack (log ++ last ∷ []) layers → CanGoBack log (undone last layers) × CanUndo last layers
CanGoBack-pop [] last layers can = (tt, can.1)
CanGoBack-pop (change ∷ log) last layers can =
    let rest : CanGoBack log (undone last layers) × CanUndo last layers = CanGoBack-pop log last layers can.0 in
    ((rest.0, rw (back-push log last layers) at can.1), rest.1)

-- one more change is noted while all layers need not be put back
pub CanGoBack-noted : (changes next : List Undo) (undo : Undo) (before : Option (List Layer)) (layers first : List Layer) → is_some before ≡ false → next ≡ changes ++ undo ∷ [] → CanUndo undo layers → CanGoBack changes (unwrap_or before (undone undo layers)) → back changes (unwrap_or before (undone undo layers)) ≡ first → CanGoBack next (unwrap_or before layers) × (back next (unwrap_or before layers) ≡ first)
CanGoBack-noted changes next undo None layers first none is one can same =
    rw is (CanGoBack-push changes undo layers can one, back-push changes undo layers ∙ same)
CanGoBack-noted changes next undo (Some before) layers first none is one can same = cc

-- one more operation was done
pub after_from-step : (most i : ℕ) (operations : List (LayerId × Op)) (d : LayerId × Op) (xs next : List Layer) → i < length operations → changed most xs (get_or operations i d).0 (get_or operations i d).1 ≡ Ok next → after_from most (i + 1 + 1) next (drop (i + 1) operations) ≡ after_from most (i + 1) xs (drop i operations)
after_from-step most i operations d xs next h e =
    let one : i + 1 ≡ suc i = omega arith in
    let whole : after_from most (i + 1) xs (drop i operations) ≡ after_from most (i + 1 + 1) next (drop (suc i) operations) = rw (drop-cons operations i d h, e) refl in
    subst (λ (k : ℕ). after_from most (i + 1 + 1) next (drop k operations) ≡ after_from most (i + 1) xs (drop i operations)) (sym one) (sym whole)

-- The drawn layers of a tree, one more at a time.
use Rattle.std.proofs.Common.{◌≡◌, ℕ, ◌+◌, ◌<◌, List, [], ◌∷◌, ◌++◌, length, get_or, take, Some, None, refl, ap, ◌∙◌, sym, append-nil}
use Rattle.std.specs.List.{filter, filter_map}
use Rattle.std.proofs.lemmas.List.{take_more}
use Rattle.std.proofs.lemmas.List.Elements.{filter_map-append, filter-append}
use Rattle.sf_base.specs.declared.ids.LayerId.{LayerId}
use Rattle.sf_tree.specs.sf_layer.declared.layer.Layer.{Layer}
use Rattle.sf_tree.specs.Layers.{layer_of}
use Rattle.sf_view.specs.declared.content.Content.{Content}
use Rattle.sf_view.specs.Contents.{content_of, has_content}

-- the layers of these numbers that have content
abbrev pub with_content : List Layer → List LayerId → List Layer
with_content tree ids = filter has_content (filter_map (layer_of tree) ids)

one_more : (tree : List Layer) (ids : List LayerId) (id : LayerId) → with_content tree (ids ++ id ∷ []) ≡ with_content tree ids ++ with_content tree (id ∷ [])
one_more tree ids id = ap (filter has_content) (filter_map-append (layer_of tree) ids (id ∷ [])) ∙ filter-append has_content (filter_map (layer_of tree) ids) (filter_map (layer_of tree) (id ∷ []))

pub with_content-yes : (tree : List Layer) (order : List LayerId) (i : ℕ) (d : LayerId) (layer : Layer) (shows : Content) → i < length order → layer_of tree (get_or order i d) ≡ Some layer → Some shows ≡ content_of layer → with_content tree (take (i + 1) order) ≡ with_content tree (take i order) ++ layer ∷ []
with_content-yes tree order i d layer shows inside found has =
    ap (with_content tree) (take_more order i d inside) ∙ (one_more tree (take i order) (get_or order i d) ∙ ap (λ xs. with_content tree (take i order) ++ xs) (rw (found, sym has) refl))

pub with_content-no : (tree : List Layer) (order : List LayerId) (i : ℕ) (d : LayerId) (layer : Layer) → i < length order → layer_of tree (get_or order i d) ≡ Some layer → None ≡ content_of layer → with_content tree (take (i + 1) order) ≡ with_content tree (take i order)
with_content-no tree order i d layer inside found has =
    ap (with_content tree) (take_more order i d inside) ∙ (one_more tree (take i order) (get_or order i d) ∙ (ap (λ xs. with_content tree (take i order) ++ xs) (rw (found, sym has) refl) ∙ append-nil (with_content tree (take i order))))

pub with_content-none : (tree : List Layer) (order : List LayerId) (i : ℕ) (d : LayerId) → i < length order → layer_of tree (get_or order i d) ≡ None → with_content tree (take (i + 1) order) ≡ with_content tree (take i order)
with_content-none tree order i d inside found =
    ap (with_content tree) (take_more order i d inside) ∙ (one_more tree (take i order) (get_or order i d) ∙ (ap (λ xs. with_content tree (take i order) ++ xs) (rw found refl) ∙ append-nil (with_content tree (take i order))))

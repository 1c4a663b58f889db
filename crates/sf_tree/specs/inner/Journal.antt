-- Taking changes back.
use Rattle.std.specs.Prelude.{◌≡◌, ◌-◌, ◌<◌, List, [], ◌∷◌, length, take, slice_set, slice_index_or, unwrap_or}
use Rattle.sf_layer.specs.declared.layer.Layer.{Layer}
use Rattle.sf_tree.specs.declared.journal.Journal.{Journal}
use Rattle.sf_tree.specs.declared.journal.Undo.{Undo}
use Rattle.sf_tree.specs.declared.journal.Undo.TheVariants as undo

-- the layers before a change
abbrev pub undone : Undo → List Layer → List Layer
undone undo.Created layers = take (length layers - 1) layers
undone (undo.Edited place layer) layers = slice_set layers place layer

-- the change can be taken back
abbrev pub CanUndo : Undo → List Layer → Type 0
CanUndo (undo.Edited place layer) layers = (place < length layers) × ((slice_index_or layers place layer).number ≡ layer.number)
CanUndo undo.Created layers = Unit {0}

-- the layers before changes of which the last is taken back first
abbrev pub back : List Undo → List Layer → List Layer
back [] layers = layers
back (change ∷ changes) layers = undone change (back changes layers)

abbrev pub CanGoBack : List Undo → List Layer → Type 0
CanGoBack [] layers = Unit {0}
CanGoBack (change ∷ changes) layers = CanGoBack changes layers × CanUndo change (back changes layers)

-- the journal takes these layers back to the first ones
pub record GoesBack (journal : Journal) (layers first : List Layer) : Type 0 where
  pub can : CanGoBack journal.changes.items (unwrap_or journal.before layers)
  pub is : back journal.changes.items (unwrap_or journal.before layers) ≡ first

-- What a change of layers in place answers.
use Rattle.std.specs.Prelude.{◌≡◌, ℕ, if◌then◌else◌, List, Option, Some, None, Result, Ok, Err, slice_set}
use Rattle.sf_base.specs.declared.ids.LayerId.{LayerId}
use Rattle.sf_base.specs.declared.memory.NoMemory.{NoMemory}
use Rattle.sf_layer.specs.declared.layer.Layer.{Layer}
use Rattle.sf_tree.specs.declared.reject.Reject.{Reject}
use Rattle.sf_tree.specs.declared.reject.Reject.TheVariants as reject
use Rattle.sf_tree.specs.declared.changes.ChangeFault.{ChangeFault}
use Rattle.sf_tree.specs.declared.changes.ChangeFault.TheVariants as fault
use Rattle.sf_tree.specs.declared.journal.Undo.{Undo}
use Rattle.sf_tree.specs.declared.journal.Undo.TheVariants as undo
use Rattle.sf_tree.specs.inner.Journal.{undone, CanUndo}
use Rattle.sf_tree.specs.Steps.{parent_steps, all_steps, reaches_itself}

-- the change was made and can be taken back, or it has this cause; after a fault the layers are as they were
abbrev pub IsChange : Result Undo ChangeFault → List Layer → List Layer → Result (List Layer) Reject → Type 0
IsChange (Ok undo) old new change = (change ≡ Ok new) × CanUndo undo new × (undone undo new ≡ old)
IsChange (Err (fault.Rejected cause)) old new change = (change ≡ Err cause) × (new ≡ old)
IsChange (Err fault.NoMemory) old new change = new ≡ old

-- all of the change was made, or it has this cause
abbrev pub IsDone : Result (Unit {0}) ChangeFault → List Layer → Result (List Layer) Reject → Type 0
IsDone (Ok _) new change = change ≡ Ok new
IsDone (Err (fault.Rejected cause)) new change = change ≡ Err cause
IsDone (Err fault.NoMemory) new change = Unit {0}

-- why a layer cannot hang where it hangs, if it cannot
abbrev pub draw_cause : List Layer → LayerId → Option Reject
draw_cause tree id = if reaches_itself all_steps tree id then Some reject.DrawCycle else None

abbrev pub parent_cause : List Layer → LayerId → Option Reject
parent_cause tree id = if reaches_itself parent_steps tree id then Some reject.ParentCycle else draw_cause tree id

-- the layer at a place stays as it is, or is as before where a cause was found or none could be sought
abbrev pub Settles : Result (Option Reject) NoMemory → Result Undo ChangeFault → List Layer → List Layer → ℕ → Layer → Type 0
Settles (Ok None) result old new place before = (result ≡ Ok (undo.Edited place before)) × (new ≡ old)
Settles (Ok (Some cause)) result old new place before = (result ≡ Err (fault.Rejected cause)) × (new ≡ slice_set old place before)
Settles (Err _) result old new place before = (result ≡ Err fault.NoMemory) × (new ≡ slice_set old place before)

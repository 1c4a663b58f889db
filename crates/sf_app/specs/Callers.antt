-- Who calls a queue in a played run, by its records alone.
use Rattle.std.specs.Prelude.{Bool, ◌≡◌, ◌==◌, ◌||◌, true, List, [], ◌∷◌, All}
use Rattle.std.specs.List.{flat_map}
use Rattle.sf_script_scene.specs.Scene.{SceneValue, has_actor}
use Rattle.sf_record_sums.specs.sf_record.declared.record.HistoryEntry.{HistoryEntry}
use Rattle.sf_record_sums.specs.sf_record.declared.record.QueueHistory.{QueueHistory}
use Rattle.sf_record_sums.specs.sf_record.declared.record.Record.{Record}
use Rattle.sf_record_sums.specs.sf_record.declared.record.Record.TheVariants as rec
use Rattle.sf_live.specs.law_played.Played.{PlayedWhere}

-- the histories among records
abbrev pub history_in : Record → List QueueHistory
history_in (rec.Hist history) = history ∷ []
history_in _ = []

unfoldable pub histories_in : List Record → List QueueHistory
histories_in records = flat_map history_in records

-- the compositor called, which is 0, or an actor of the scene
abbrev pub IsKnown : SceneValue → HistoryEntry → Type 0
IsKnown scene called = (called.caller == 0 || has_actor scene.actors called.caller) ≡ true

-- the histories of a played run have calls of the compositor and of the scene's actors alone, also where the scene has no actor and where no sender learns a place
abbrev pub CallersAreKnown : Type 0
CallersAreKnown = (tells : Bool) (scene : SceneValue) (records : List Record) → PlayedWhere tells scene records
    → All (λ (history : QueueHistory). All (IsKnown scene) history.entries) (histories_in records)

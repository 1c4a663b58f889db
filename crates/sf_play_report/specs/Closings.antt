-- What is recorded at the end of a run.
use Rattle.std.specs.Prelude.{map}
use Rattle.law_played.specs.sf_record.declared.record.QueueHistory.{QueueHistory}
use Rattle.law_played.specs.sf_surface.Histories.{told}
use Rattle.law_played.specs.sf_surface.Objects.{ObjectOf, mark_of}
use Rattle.law_played.specs.sf_surface.Shown.{entries_of}
use Rattle.law_played.specs.Telling.{call_recorded}

-- the calls on a queue
abbrev pub history_of : {B : Type 0} → ObjectOf B → QueueHistory
history_of object = record { queue = object.queue.number.0; entries = map call_recorded (entries_of (told (mark_of object) object.calls)) }

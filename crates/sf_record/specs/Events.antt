-- The records of what a run shows, in order.
use Rattle.std.specs.Prelude.{ℕ, List, [], ◌∷◌, ◌++◌, map}
use Rattle.std.specs.List.{flat_map}
use Rattle.sf_output.specs.declared.image.ImageId.{ImageId}
use Rattle.sf_output.specs.declared.image.ImageId.TheVariants as id
use Rattle.sf_output.specs.declared.output.Output.{Output}
use Rattle.sf_output.specs.declared.output.Output.TheVariants as out
use Rattle.sf_record.specs.declared.event.Event.{Event}
use Rattle.sf_record.specs.declared.event.Event.TheVariants as event
use Rattle.sf_record.specs.declared.event.VsyncRecords.{VsyncRecords}
use Rattle.sf_record.specs.declared.record.ArrivalEntry.{ArrivalEntry}
use Rattle.sf_record.specs.declared.record.HeldEntry.{HeldEntry}
use Rattle.sf_record.specs.declared.record.QueueHistory.{QueueHistory}
use Rattle.sf_record.specs.declared.record.Record.{Record}
use Rattle.sf_record.specs.declared.record.Record.TheVariants as rec
use Rattle.sf_record.specs.declared.record.StuckEntry.{StuckEntry}

-- the record of an image with these pixels in the vsync of this number
abbrev pub image_record : ImageId → ℕ → List ℕ → Record
image_record id.Frame number pixels = rec.Fram (record { number = number; pixels = pixels })
image_record (id.Display output) number pixels = rec.Frad (record { output = output; number = number; pixels = pixels })
image_record (id.Capture output) number pixels = rec.Capt (record { output = output; number = number; pixels = pixels })

-- the record of what a vsync of this number shows
abbrev pub output_record : ℕ → Output (List ℕ) → Record
output_record number (out.Image image) = image_record image.of number image.shows
output_record number (out.Hit output layer) = rec.Hits (record { output = output; number = number; layer = layer })

-- the records of a vsync: its own, those of its commits, and those of what it shows
abbrev pub vsync_records : VsyncRecords → List Record
vsync_records v =
    rec.Vsyn (record { number = v.number; expected = v.expected; timelines = v.timelines })
    ∷ (map rec.Comm v.commits ++ map (output_record v.number) v.shown)

-- the records that an event comes to
abbrev pub event_records : Event → List Record
event_records (event.Reply reply) = rec.Repl reply ∷ []
event_records (event.Vsync report) = vsync_records report

-- the records of replies and vsyncs as they come
unfoldable pub events_records : List Event → List Record
events_records events = flat_map event_records events

-- the records that end a run: the arrivals, the history of each queue, what is held and who is stuck
abbrev pub closing : List ArrivalEntry → List QueueHistory → List HeldEntry → List StuckEntry → List Record
closing arrivals histories held stuck = rec.Arrv arrivals ∷ (map rec.Hist histories ++ (rec.Hold held ∷ rec.Stuk stuck ∷ rec.Done ∷ []))

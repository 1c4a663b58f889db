-- The bytes of records. All numbers are written with their highest byte first.
use Rattle.std.specs.Prelude.{ℕ, ◌≡◌, ◌≤◌, List, [], ◌++◌, Option, length, codes, drop, take}
use Rattle.std.specs.Io.KnownBytes.{Appends}
use Rattle.std.specs.List.{flat_map}
use Rattle.byteorder.specs.Endian.{big_bytes}
use Rattle.sf_io.specs.Streams.{framed}
use Rattle.sf_output.specs.declared.image.ImageId.{ImageId}
use Rattle.sf_output.specs.declared.image.ImageId.TheVariants as id
use Rattle.sf_record.specs.declared.record.ArrivalEntry.{ArrivalEntry}
use Rattle.sf_record.specs.declared.record.CommitRecord.{CommitRecord}
use Rattle.sf_record.specs.declared.record.CommittedBuffer.{CommittedBuffer}
use Rattle.sf_record.specs.declared.record.HeldEntry.{HeldEntry}
use Rattle.sf_record.specs.declared.record.HistoryEntry.{HistoryEntry}
use Rattle.sf_record.specs.declared.record.Hit.{Hit}
use Rattle.sf_record.specs.declared.record.NumberedFrame.{NumberedFrame}
use Rattle.sf_record.specs.declared.record.Record.{Record}
use Rattle.sf_record.specs.declared.record.Record.TheVariants as rec
use Rattle.sf_record.specs.declared.record.ReplyRecord.{ReplyRecord}
use Rattle.sf_record.specs.declared.record.SceneHeader.{SceneHeader}
use Rattle.sf_record.specs.declared.record.StuckEntry.{StuckEntry}
use Rattle.sf_record.specs.declared.record.Summary.{Summary}
use Rattle.sf_record.specs.declared.record.TimelineValue.{TimelineValue}
use Rattle.sf_record.specs.declared.record.VsyncHeader.{VsyncHeader}

-- a number in four bytes, the highest first
unfoldable pub u32_bytes : ℕ → List ℕ
u32_bytes n = big_bytes 4 n

-- a number in eight bytes, the highest first
unfoldable pub u64_bytes : ℕ → List ℕ
u64_bytes n = big_bytes 8 n

-- the bytes of a list: how many items it has, and the bytes of each
unfoldable pub list_bytes : {X : Type 0} → (X → List ℕ) → List X → List ℕ
list_bytes item_bytes items = u32_bytes (length items) ++ flat_map item_bytes items

-- the bytes of a timeline's value
abbrev pub timeline_bytes : TimelineValue → List ℕ
timeline_bytes t = u32_bytes t.timeline ++ u64_bytes t.value

-- the bytes of a committed buffer
abbrev pub buffer_bytes : CommittedBuffer → List ℕ
buffer_bytes b =
    u32_bytes b.layer ++ u32_bytes b.queue ++ u64_bytes b.frame ++ u32_bytes b.picture ++ u32_bytes b.x ++ u32_bytes b.y ++ u32_bytes b.width ++ u32_bytes b.height

-- the bytes of an arrival
abbrev pub arrival_bytes : ArrivalEntry → List ℕ
arrival_bytes a = u32_bytes a.actor ++ u32_bytes a.step ++ u32_bytes a.token

-- the bytes of a call in a history
abbrev pub history_entry_bytes : HistoryEntry → List ℕ
history_entry_bytes e = u32_bytes e.caller ++ u32_bytes e.step ++ u32_bytes e.kind ++ u32_bytes e.status ++ u32_bytes e.slot ++ u64_bytes e.frame

-- the bytes of a held transaction
abbrev pub held_bytes : HeldEntry → List ℕ
held_bytes h = u32_bytes h.arrival ++ u32_bytes h.hold ++ u64_bytes h.a ++ u64_bytes h.b

-- the bytes of a stuck actor
abbrev pub stuck_bytes : StuckEntry → List ℕ
stuck_bytes s = u32_bytes s.actor ++ u32_bytes s.step

-- the tag of a record
abbrev pub tag_of : Record → List ℕ
tag_of (rec.Scen _) = codes "SCEN"
tag_of (rec.Repl _) = codes "REPL"
tag_of (rec.Vsyn _) = codes "VSYN"
tag_of (rec.Comm _) = codes "COMM"
tag_of (rec.Fram _) = codes "FRAM"
tag_of (rec.Frad _) = codes "FRAD"
tag_of (rec.Capt _) = codes "CAPT"
tag_of (rec.Hits _) = codes "HITS"
tag_of (rec.Arrv _) = codes "ARRV"
tag_of (rec.Hist _) = codes "HIST"
tag_of (rec.Hold _) = codes "HOLD"
tag_of (rec.Stuk _) = codes "STUK"
tag_of rec.Done = codes "DONE"
tag_of (rec.Sflt _) = codes "SFLT"
tag_of (rec.Summ _) = codes "SUMM"

-- the bodies of records with several fields: each field as it stands in the record, one after the other
abbrev pub scene_bytes : SceneHeader → List ℕ
scene_bytes s = u32_bytes s.version ++ u32_bytes s.width ++ u32_bytes s.height ++ u64_bytes s.period

-- the bytes of a reply's body
abbrev pub reply_bytes : ReplyRecord → List ℕ
reply_bytes r = u32_bytes r.actor ++ u32_bytes r.step ++ u32_bytes r.status ++ list_bytes u64_bytes r.values

-- the bytes of a vsync's body
abbrev pub vsync_bytes : VsyncHeader → List ℕ
vsync_bytes v = u32_bytes v.number ++ u64_bytes v.expected ++ list_bytes timeline_bytes v.timelines

-- the bytes of a commit's body
abbrev pub commit_bytes : CommitRecord → List ℕ
commit_bytes c =
    u32_bytes c.token ++ u32_bytes c.arrival ++ u32_bytes c.result ++ u32_bytes c.operation ++ list_bytes buffer_bytes c.buffers

-- the bytes of the body of a further display's frame, or of a capture
abbrev pub numbered_bytes : NumberedFrame → List ℕ
numbered_bytes f = u32_bytes f.output ++ u32_bytes f.number ++ f.pixels

-- the bytes of a hit test's body
abbrev pub hit_bytes : Hit → List ℕ
hit_bytes h = u32_bytes h.output ++ u32_bytes h.number ++ u32_bytes h.layer

-- the bytes of the body of the sums
abbrev pub summary_bytes : Summary → List ℕ
summary_bytes s =
    u64_bytes s.replies ++ u64_bytes s.vsyncs ++ u64_bytes s.commits ++ u64_bytes s.rejected ++ u64_bytes s.frames ++ u64_bytes s.pixel_sum ++ u64_bytes s.held ++ u64_bytes s.stuck

-- the body of a record
unfoldable pub body_of : Record → List ℕ
body_of (rec.Scen s) = scene_bytes s
body_of (rec.Repl r) = reply_bytes r
body_of (rec.Vsyn v) = vsync_bytes v
body_of (rec.Comm c) = commit_bytes c
body_of (rec.Fram f) = u32_bytes f.number ++ f.pixels
body_of (rec.Frad f) = numbered_bytes f
body_of (rec.Capt f) = numbered_bytes f
body_of (rec.Hits h) = hit_bytes h
body_of (rec.Arrv arrivals) = list_bytes arrival_bytes arrivals
body_of (rec.Hist history) = u32_bytes history.queue ++ list_bytes history_entry_bytes history.entries
body_of (rec.Hold held) = list_bytes held_bytes held
body_of (rec.Stuk stuck) = list_bytes stuck_bytes stuck
body_of rec.Done = []
body_of (rec.Sflt f) = u32_bytes f.line ++ u32_bytes f.word ++ u32_bytes f.cause
body_of (rec.Summ summary) = summary_bytes summary

-- the bytes of a record: its tag, the length of its body, and the body
unfoldable pub record_bytes : Record → List ℕ
record_bytes r = framed (tag_of r) (body_of r)

-- the record of an image by its body
abbrev pub image_in : ImageId → ℕ → List ℕ → Record
image_in id.Frame number body = rec.Fram (record { number = number; pixels = drop 4 body })
image_in (id.Display output) number body = rec.Frad (record { output = output; number = number; pixels = drop 8 body })
image_in (id.Capture output) number body = rec.Capt (record { output = output; number = number; pixels = drop 8 body })

-- the body of an image begins with the number of its display or capture, if it has one, and that of its vsync
abbrev pub BeginsImage : ImageId → ℕ → List ℕ → Type 0
BeginsImage id.Frame number body = take 4 body ≡ u32_bytes number
BeginsImage (id.Display output) number body = take 8 body ≡ u32_bytes output ++ u32_bytes number
BeginsImage (id.Capture output) number body = take 8 body ≡ u32_bytes output ++ u32_bytes number

-- the bytes of records, one after another
unfoldable pub bytes_of : List Record → List ℕ
bytes_of records = flat_map record_bytes records

-- a sink took the first of these records, whole
abbrev pub AppendsFirst : Option (List ℕ) → Option (List ℕ) → List Record → Type 0
AppendsFirst old new records = (n : ℕ) × (n ≤ length records) × Appends old new (bytes_of (take n records))

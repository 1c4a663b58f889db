-- Reading records back from their bytes.
use Rattle.std.specs.Prelude.{◌≡◌, ℕ, zero, suc, ◌+◌, ◌-◌, ◌*◌, ◌^◌, if◌then◌else◌, List, [], ◌∷◌, All, codes, drop, length, take}
use Rattle.std.specs.Str.{bytes_eq}
use Rattle.sf_script.specs.declared.fault.ScriptFault.{ScriptFault}
use Rattle.sf_record.specs.declared.record.ArrivalEntry.{ArrivalEntry}
use Rattle.sf_record.specs.declared.record.CommitRecord.{CommitRecord}
use Rattle.sf_record.specs.declared.record.CommittedBuffer.{CommittedBuffer}
use Rattle.sf_record.specs.declared.record.HeldEntry.{HeldEntry}
use Rattle.sf_record.specs.declared.record.Hit.{Hit}
use Rattle.sf_record.specs.declared.record.NumberedFrame.{NumberedFrame}
use Rattle.sf_record.specs.declared.record.HistoryEntry.{HistoryEntry}
use Rattle.sf_record.specs.declared.record.QueueHistory.{QueueHistory}
use Rattle.sf_record.specs.declared.record.Record.{Record}
use Rattle.sf_record.specs.declared.record.Record.TheVariants as rec
use Rattle.sf_record.specs.declared.record.ReplyRecord.{ReplyRecord}
use Rattle.sf_record.specs.declared.record.SceneHeader.{SceneHeader}
use Rattle.sf_record.specs.declared.record.StuckEntry.{StuckEntry}
use Rattle.sf_record.specs.declared.record.Summary.{Summary}
use Rattle.sf_record.specs.declared.record.TimelineValue.{TimelineValue}
use Rattle.sf_record.specs.declared.record.VsyncHeader.{VsyncHeader}
use Rattle.sf_record.specs.Fitting.{RecordFits}
use Rattle.sf_record.specs.Records.{bytes_of}

-- reads a value from the front of bytes: the value, and the bytes behind it
abbrev pub Reader : Type 0 → Type 0
Reader A = List ℕ → A × List ℕ

-- the number in the first k bytes, the highest first
unfoldable pub read_number : ℕ → Reader ℕ
read_number zero bytes = (0, bytes)
read_number (suc k) [] = (0, [])
read_number (suc k) (b ∷ bytes) = let later = read_number k bytes in (b * 256 ^ k + later.0, later.1)

abbrev pub u32 : Reader ℕ
u32 = read_number 4

abbrev pub u64 : Reader ℕ
u64 = read_number 8

-- a value made of the one that is read
infixl 20 ◌of◌
unfoldable pub ◌of◌ : {A B : Type 0} → (A → B) → Reader A → Reader B
(make of reads) bytes = let read = reads bytes in (make read.0, read.1)

-- and of the next one
infixl 20 ◌and◌
unfoldable pub ◌and◌ : {A B : Type 0} → Reader (A → B) → Reader A → Reader B
(makes and reads) bytes = let made = makes bytes in let read = reads made.1 in (made.0 read.0, read.1)

-- so many items, one after another
unfoldable pub read_items : {A : Type 0} → ℕ → Reader A → Reader (List A)
read_items zero item bytes = ([], bytes)
read_items (suc n) item bytes = let first = item bytes in let later = read_items n item first.1 in (first.0 ∷ later.0, later.1)

-- a list behind the number of its items
unfoldable pub list_of : {A : Type 0} → Reader A → Reader (List A)
list_of item bytes = let count = u32 bytes in read_items count.0 item count.1

-- so many bytes
unfoldable pub so_many : ℕ → Reader (List ℕ)
so_many n bytes = (take n bytes, drop n bytes)

unfoldable pub read_scene : Reader SceneHeader
read_scene = ((((λ v w h p. record { version = v; width = w; height = h; period = p }) of u32) and u32) and u32) and u64

unfoldable pub read_reply : Reader ReplyRecord
read_reply = ((((λ a s t v. record { actor = a; step = s; status = t; values = v }) of u32) and u32) and u32) and list_of u64

unfoldable pub read_timeline : Reader TimelineValue
read_timeline = ((λ t v. record { timeline = t; value = v }) of u32) and u64

unfoldable pub read_vsync : Reader VsyncHeader
read_vsync = (((λ n e t. record { number = n; expected = e; timelines = t }) of u32) and u64) and list_of read_timeline

unfoldable pub read_buffer : Reader CommittedBuffer
read_buffer =
    ((((((((λ l q f p x y w h.
    record { layer = l; queue = q; frame = f; picture = p; x = x; y = y; width = w; height = h })
    of u32) and u32) and u64) and u32) and u32) and u32) and u32) and u32

unfoldable pub read_commit : Reader CommitRecord
read_commit =
    (((((λ t a r o b. record { token = t; arrival = a; result = r; operation = o; buffers = b })
    of u32) and u32) and u32) and u32) and list_of read_buffer

unfoldable pub read_arrival : Reader ArrivalEntry
read_arrival = (((λ a s t. record { actor = a; step = s; token = t }) of u32) and u32) and u32

unfoldable pub read_call : Reader HistoryEntry
read_call = ((((((λ c s k t l f. record { caller = c; step = s; kind = k; status = t; slot = l; frame = f }) of u32) and u32) and u32) and u32) and u32) and u64

unfoldable pub read_history : Reader QueueHistory
read_history = ((λ q e. record { queue = q; entries = e }) of u32) and list_of read_call

unfoldable pub read_held : Reader HeldEntry
read_held = ((((λ r h a b. record { arrival = r; hold = h; a = a; b = b }) of u32) and u32) and u64) and u64

unfoldable pub read_stuck : Reader StuckEntry
read_stuck = ((λ a s. record { actor = a; step = s }) of u32) and u32

unfoldable pub read_numbered : ℕ → Reader NumberedFrame
read_numbered n = (((λ c k p. record { output = c; number = k; pixels = p }) of u32) and u32) and so_many (n - 8)

unfoldable pub read_hit : Reader Hit
read_hit = (((λ h k l. record { output = h; number = k; layer = l }) of u32) and u32) and u32

unfoldable pub read_fault : Reader ScriptFault
read_fault = (((λ l w c. record { line = l; word = w; cause = c }) of u32) and u32) and u32

unfoldable pub read_summary : Reader Summary
read_summary =
    ((((((((λ r v c x f p h s.
    record { replies = r; vsyncs = v; commits = c; rejected = x; frames = f; pixel_sum = p; held = h; stuck = s })
    of u64) and u64) and u64) and u64) and u64) and u64) and u64) and u64

-- the body of a record with this tag and of this length; what has no other tag is the end of a run
unfoldable pub read_body : List ℕ → ℕ → Reader Record
read_body tag n =
    if bytes_eq tag (codes "SCEN") then rec.Scen of read_scene else
    if bytes_eq tag (codes "REPL") then rec.Repl of read_reply else
    if bytes_eq tag (codes "VSYN") then rec.Vsyn of read_vsync else
    if bytes_eq tag (codes "COMM") then rec.Comm of read_commit else
    if bytes_eq tag (codes "FRAM") then ((λ k p. rec.Fram (record { number = k; pixels = p })) of u32) and so_many (n - 4) else
    if bytes_eq tag (codes "FRAD") then rec.Frad of read_numbered n else
    if bytes_eq tag (codes "CAPT") then rec.Capt of read_numbered n else
    if bytes_eq tag (codes "HITS") then rec.Hits of read_hit else
    if bytes_eq tag (codes "ARRV") then rec.Arrv of list_of read_arrival else
    if bytes_eq tag (codes "HIST") then rec.Hist of read_history else
    if bytes_eq tag (codes "HOLD") then rec.Hold of list_of read_held else
    if bytes_eq tag (codes "STUK") then rec.Stuk of list_of read_stuck else
    if bytes_eq tag (codes "SFLT") then rec.Sflt of read_fault else
    if bytes_eq tag (codes "SUMM") then rec.Summ of read_summary else (λ bytes. (rec.Done, bytes))

-- a record: its tag, the length of its body, and the body
unfoldable pub read_record : Reader Record
read_record bytes = let n = u32 (drop 4 bytes) in read_body (take 4 bytes) n.0 n.1

-- the records in bytes, at most so many
unfoldable pub read_up_to : ℕ → List ℕ → List Record
read_up_to zero bytes = []
read_up_to (suc most) [] = []
read_up_to (suc most) (b ∷ bytes) = let first = read_record (b ∷ bytes) in first.0 ∷ read_up_to most first.1

-- all records in bytes, which are no more than the bytes
unfoldable pub records_in : List ℕ → List Record
records_in bytes = read_up_to (length bytes) bytes

-- the bytes of records that fit are read back as these records
abbrev pub AreReadBack : Type 0
AreReadBack = (records : List Record) → All RecordFits records → records_in (bytes_of records) ≡ records

-- records that fit are determined by their bytes
abbrev pub AreDetermined : Type 0
AreDetermined = (first second : List Record) → All RecordFits first → All RecordFits second → bytes_of first ≡ bytes_of second → first ≡ second

-- Each number of a record fits its field, and the length of its body the head: what is written of it can be read back.
use Rattle.std.specs.Prelude.{ℕ, ◌<◌, ◌^◌, List, All, length}
use Rattle.sf_script.specs.declared.fault.ScriptFault.{ScriptFault}
use Rattle.sf_record.specs.declared.record.ArrivalEntry.{ArrivalEntry}
use Rattle.sf_record.specs.declared.record.CommitRecord.{CommitRecord}
use Rattle.sf_record.specs.declared.record.CommittedBuffer.{CommittedBuffer}
use Rattle.sf_record.specs.declared.record.Frame.{Frame}
use Rattle.sf_record.specs.declared.record.HeldEntry.{HeldEntry}
use Rattle.sf_record.specs.declared.record.Hit.{Hit}
use Rattle.sf_record.specs.declared.record.NumberedFrame.{NumberedFrame}
use Rattle.sf_record.specs.declared.record.HistoryEntry.{HistoryEntry}
use Rattle.sf_record.specs.declared.record.QueueHistory.{QueueHistory}
use Rattle.sf_record.specs.declared.record.Record.{Record}
use Rattle.sf_record.specs.declared.record.Record.TheVariants as rec
use Rattle.sf_record.specs.declared.record.ReplyRecord.{ReplyRecord}
use Rattle.sf_record.specs.declared.record.SceneHeader.{SceneHeader}
use Rattle.sf_record.specs.declared.record.StuckEntry.{StuckEntry}
use Rattle.sf_record.specs.declared.record.Summary.{Summary}
use Rattle.sf_record.specs.declared.record.TimelineValue.{TimelineValue}
use Rattle.sf_record.specs.declared.record.VsyncHeader.{VsyncHeader}
use Rattle.sf_record.specs.Records.{body_of}

-- a number fits four bytes, or eight
abbrev pub Fits32 : ℕ → Type 0
Fits32 n = n < 2 ^ 32

-- a number fits eight bytes
abbrev pub Fits64 : ℕ → Type 0
Fits64 n = n < 2 ^ 64

-- the number of items fits four bytes, and each item fits
pub record ListFits {X : Type 0} (ItemFits : X → Type 0) (items : List X) : Type 0 where
  pub count : Fits32 (length items)
  pub each : All ItemFits items

-- the numbers of a scene's record fit
pub record SceneFits (s : SceneHeader) : Type 0 where
  pub version : Fits32 s.version
  pub width : Fits32 s.width
  pub height : Fits32 s.height
  pub period : Fits64 s.period

-- the numbers of a reply fit
pub record ReplyFits (r : ReplyRecord) : Type 0 where
  pub actor : Fits32 r.actor
  pub step : Fits32 r.step
  pub status : Fits32 r.status
  pub values : ListFits Fits64 r.values

-- the numbers of a timeline's value fit
pub record TimelineFits (t : TimelineValue) : Type 0 where
  pub timeline : Fits32 t.timeline
  pub value : Fits64 t.value

-- the numbers of a vsync's head fit
pub record VsyncFits (v : VsyncHeader) : Type 0 where
  pub number : Fits32 v.number
  pub expected : Fits64 v.expected
  pub timelines : ListFits TimelineFits v.timelines

-- the numbers of a committed buffer fit
pub record BufferFits (b : CommittedBuffer) : Type 0 where
  pub layer : Fits32 b.layer
  pub queue : Fits32 b.queue
  pub frame : Fits64 b.frame
  pub picture : Fits32 b.picture
  pub x : Fits32 b.x
  pub y : Fits32 b.y
  pub width : Fits32 b.width
  pub height : Fits32 b.height

-- the numbers of a commit fit
pub record CommitFits (c : CommitRecord) : Type 0 where
  pub token : Fits32 c.token
  pub arrival : Fits32 c.arrival
  pub result : Fits32 c.result
  pub operation : Fits32 c.operation
  pub buffers : ListFits BufferFits c.buffers

-- the number of a frame fits
abbrev pub FrameFits : Frame → Type 0
FrameFits f = Fits32 f.number

-- the numbers of a further display's frame, or of a capture, fit
pub record NumberedFits (f : NumberedFrame) : Type 0 where
  pub output : Fits32 f.output
  pub number : Fits32 f.number

-- the numbers of a hit test fit
pub record HitFits (h : Hit) : Type 0 where
  pub output : Fits32 h.output
  pub number : Fits32 h.number
  pub layer : Fits32 h.layer

-- the numbers of an arrival fit
pub record ArrivalFits (a : ArrivalEntry) : Type 0 where
  pub actor : Fits32 a.actor
  pub step : Fits32 a.step
  pub token : Fits32 a.token

-- the numbers of a call in a history fit
pub record CallFits (e : HistoryEntry) : Type 0 where
  pub caller : Fits32 e.caller
  pub step : Fits32 e.step
  pub kind : Fits32 e.kind
  pub status : Fits32 e.status
  pub slot : Fits32 e.slot
  pub frame : Fits64 e.frame

-- the numbers of a history fit
pub record HistoryFits (h : QueueHistory) : Type 0 where
  pub queue : Fits32 h.queue
  pub entries : ListFits CallFits h.entries

-- the numbers of a held transaction fit
pub record HeldFits (h : HeldEntry) : Type 0 where
  pub arrival : Fits32 h.arrival
  pub hold : Fits32 h.hold
  pub a : Fits64 h.a
  pub b : Fits64 h.b

-- the numbers of a stuck actor fit
pub record StuckFits (s : StuckEntry) : Type 0 where
  pub actor : Fits32 s.actor
  pub step : Fits32 s.step

-- the numbers of a script's fault fit
pub record FaultFits (f : ScriptFault) : Type 0 where
  pub line : Fits32 f.line
  pub word : Fits32 f.word
  pub cause : Fits32 f.cause

-- the sums fit
pub record SummaryFits (s : Summary) : Type 0 where
  pub replies : Fits64 s.replies
  pub vsyncs : Fits64 s.vsyncs
  pub commits : Fits64 s.commits
  pub rejected : Fits64 s.rejected
  pub frames : Fits64 s.frames
  pub pixel_sum : Fits64 s.pixel_sum
  pub held : Fits64 s.held
  pub stuck : Fits64 s.stuck

-- the numbers of a record fit their fields
abbrev pub FieldsFit : Record → Type 0
FieldsFit (rec.Scen s) = SceneFits s
FieldsFit (rec.Repl r) = ReplyFits r
FieldsFit (rec.Vsyn v) = VsyncFits v
FieldsFit (rec.Comm c) = CommitFits c
FieldsFit (rec.Fram f) = FrameFits f
FieldsFit (rec.Frad f) = NumberedFits f
FieldsFit (rec.Capt f) = NumberedFits f
FieldsFit (rec.Hits h) = HitFits h
FieldsFit (rec.Arrv arrivals) = ListFits ArrivalFits arrivals
FieldsFit (rec.Hist history) = HistoryFits history
FieldsFit (rec.Hold held) = ListFits HeldFits held
FieldsFit (rec.Stuk stuck) = ListFits StuckFits stuck
FieldsFit rec.Done = Unit {0}
FieldsFit (rec.Sflt fault) = FaultFits fault
FieldsFit (rec.Summ summary) = SummaryFits summary

-- the numbers of a record fit their fields, and the length of its body fits four bytes
pub record RecordFits (r : Record) : Type 0 where
  pub fields : FieldsFit r
  pub body : Fits32 (length (body_of r))

-- The ranges of what a scene declares and of the numbers in its steps.
use Rattle.std.specs.Prelude.{ℕ, ◌<◌, ◌≤◌, ℤ, pos, negsuc, ◌≤ℤ◌, length, All, IfSome}
use Rattle.sf_picture.specs.Pixels.{HasSize}
use Rattle.sf_picture.specs.declared.fill.Fill.{Fill}
use Rattle.sf_picture.specs.declared.picture.Picture.{Picture}
use Rattle.sf_script_scene.specs.declared.change.Change.{Change}
use Rattle.sf_script_scene.specs.declared.change.Change.TheVariants as change
use Rattle.sf_script_scene.specs.declared.declarations.CaptureDecl.{CaptureDecl}
use Rattle.sf_script_scene.specs.declared.declarations.DisplayDecl.{DisplayDecl}
use Rattle.sf_script_scene.specs.declared.declarations.HitDecl.{HitDecl}
use Rattle.sf_script_scene.specs.declared.declarations.QueueDecl.{QueueDecl}
use Rattle.sf_script_scene.specs.declared.step.Step.{Step}
use Rattle.sf_script_scene.specs.declared.step.Step.TheVariants as step

-- the number of a timeline
pub record IsTimeline (n : ℕ) : Type 0 where
  pub low : 1 ≤ n
  pub high : n ≤ 64

-- the number of a transaction of an actor
pub record IsTransactionNumber (n : ℕ) : Type 0 where
  pub low : 1 ≤ n
  pub high : n ≤ 64

-- a number of 32 bits that is not 0, as of a layer or a token
pub record IsNumber (n : ℕ) : Type 0 where
  pub low : 1 ≤ n
  pub high : n ≤ 4294967295

-- the place of a name among an actor's names, of which there are at most 32
pub record IsName (name : ℕ) : Type 0 where
  pub below : name < 32

-- a size that is asked of a dequeue, in which 0 stands for the queue's own
pub record IsAskedSize (size : ℕ × ℕ) : Type 0 where
  pub width : size.0 ≤ 4294967295
  pub height : size.1 ≤ 4294967295

-- a time in nanoseconds
pub record IsTime (time : ℕ) : Type 0 where
  pub high : time ≤ 9223372036854775807

-- a coordinate of a layer, in pixels
pub record IsPlace (x : ℤ) : Type 0 where
  pub low : negsuc 16383 ≤ℤ x
  pub high : x ≤ℤ pos 16384

-- the width or height of a layer's crop
pub record IsExtent (n : ℕ) : Type 0 where
  pub high : n ≤ 16384

-- the corner and the size of a part of a buffer, as left, top, width and height
pub record IsPart (part : ℕ × ℕ × ℕ × ℕ) : Type 0 where
  pub left : part.0 ≤ 511
  pub top : part.1 ≤ 511
  pub low_width : 1 ≤ part.2
  pub high_width : part.2 ≤ 512
  pub low_height : 1 ≤ part.3
  pub high_height : part.3 ≤ 512

-- a queue's number is in its range, and the size of its buffers is
pub record IsQueue (queue : QueueDecl) : Type 0 where
  pub low : 1 ≤ queue.number
  pub high : queue.number ≤ 16
  pub low_width : 1 ≤ queue.width
  pub high_width : queue.width ≤ 512
  pub low_height : 1 ≤ queue.height
  pub high_height : queue.height ≤ 512

-- the corner and the size of a fill are in their ranges; it may reach out of its picture
pub record IsFill (fill : Fill) : Type 0 where
  pub low_x : pos 0 ≤ℤ fill.rect.x
  pub high_x : fill.rect.x ≤ℤ pos 511
  pub low_y : pos 0 ≤ℤ fill.rect.y
  pub high_y : fill.rect.y ≤ℤ pos 511
  pub low_width : 1 ≤ fill.rect.width
  pub high_width : fill.rect.width ≤ 512
  pub low_height : 1 ≤ fill.rect.height
  pub high_height : fill.rect.height ≤ 512

-- a picture's number and size are in their ranges, its fills are, and there are not too many
pub record IsPicture (picture : Picture) : Type 0 where
  pub low : 1 ≤ picture.number
  pub high : picture.number ≤ 256
  pub size : HasSize picture
  pub few_fills : length picture.fills ≤ 1024
  pub fills : All IsFill picture.fills

-- a further display's number and size are in their ranges
pub record IsDisplay (display : DisplayDecl) : Type 0 where
  pub low : 2 ≤ display.number
  pub high : display.number ≤ 8
  pub low_width : 1 ≤ display.width
  pub high_width : display.width ≤ 1024
  pub low_height : 1 ≤ display.height
  pub high_height : display.height ≤ 1024

-- a stack is declared for a layer with a right number
pub record IsStack (pair : ℕ × ℕ) : Type 0 where
  pub layer : IsNumber pair.0

-- a capture's numbers and size are in their ranges
pub record IsCapture (capture : CaptureDecl) : Type 0 where
  pub low : 1 ≤ capture.number
  pub high : capture.number ≤ 8
  pub layer : IsNumber capture.layer
  pub low_width : 1 ≤ capture.width
  pub high_width : capture.width ≤ 1024
  pub low_height : 1 ≤ capture.height
  pub high_height : capture.height ≤ 1024

-- a hit test's number and point are in their ranges
pub record IsHit (hit : HitDecl) : Type 0 where
  pub low : 1 ≤ hit.number
  pub high : hit.number ≤ 64
  pub x : IsPlace hit.x
  pub y : IsPlace hit.y

-- a mirror's layers have right numbers
pub record IsMirror (pair : ℕ × ℕ) : Type 0 where
  pub layer : IsNumber pair.0
  pub mirrored : IsNumber pair.1

-- the numbers of a change are in their ranges
abbrev pub IsChange : Change → Type 0
IsChange (change.CreateContainer parent) = Unit {0}
IsChange (change.CreateColour parent) = Unit {0}
IsChange (change.CreateBuffer parent) = Unit {0}
IsChange change.Destroy = Unit {0}
IsChange (change.Reparent parent) = Unit {0}
IsChange (change.Z z) = Unit {0}
IsChange (change.Relative layer z) = IsNumber layer
IsChange (change.Position x y) = IsPlace x × IsPlace y
IsChange (change.Crop x y width height) = IsPlace x × IsPlace y × IsExtent width × IsExtent height
IsChange change.CropNone = Unit {0}
IsChange (change.Alpha alpha) = Unit {0}
IsChange (change.Hidden flag) = Unit {0}
IsChange (change.Opaque flag) = Unit {0}
IsChange (change.Colour colour) = Unit {0}
IsChange (change.Backpressure flag) = Unit {0}
IsChange (change.Orient orientation) = orientation ≤ 7

-- the names and numbers of a step are in their ranges; those of what it names are where that is declared
abbrev pub IsStep : Step → Type 0
IsStep (step.Connect queue) = Unit {0}
IsStep (step.Disconnect queue) = Unit {0}
IsStep (step.MaxDequeued queue count) = Unit {0}
IsStep (step.Async queue flag) = Unit {0}
IsStep (step.Dequeue queue name size) = IsName name × IfSome size IsAskedSize
IsStep (step.DequeueWait queue name size) = IsName name × IfSome size IsAskedSize
IsStep (step.Request name) = IsName name
IsStep (step.Draw name picture) = IsName name
IsStep (step.Queue name picture time part points) = IsName name × IfSome time IsTime × IfSome part IsPart
IsStep (step.Cancel name points) = IsName name
IsStep (step.PDetach name loose) = IsName name × IsName loose
IsStep (step.PAttach queue loose name) = IsName loose × IsName name
IsStep (step.MaxAcquired queue count) = Unit {0}
IsStep (step.Abandon queue) = Unit {0}
IsStep (step.Acquire queue name time) = IsName name × IfSome time IsTime
IsStep (step.Release name points) = IsName name
IsStep (step.CDetach name loose) = IsName name × IsName loose
IsStep (step.CAttach queue loose name) = IsName loose × IsName name
IsStep (step.Signal timeline value) = Unit {0}
IsStep (step.Wait timeline value) = Unit {0}
IsStep (step.Tx number) = IsTransactionNumber number
IsStep (step.Desire number time) = IsTransactionNumber number × IsTime time
IsStep (step.Buffer number layer name) = IsTransactionNumber number × IsNumber layer × IsName name
IsStep (step.Barrier number layer frame) = IsTransactionNumber number × IsNumber layer
IsStep (step.Merge number other) = IsTransactionNumber number × IsTransactionNumber other
IsStep (step.Apply number token) = IsTransactionNumber number × IsNumber token
IsStep (step.Set number layer changed) = IsTransactionNumber number × IsNumber layer × IsChange changed

-- The form that a word begins.
use Rattle.std.specs.Prelude.{◌&&◌, not, if◌then◌else◌, Bool, true, false, Option, None, Some, codes, option_map}
use Rattle.std.specs.Str.{bytes_eq}
use Rattle.sf_script_words.specs.Text.{Text}
use Rattle.sf_script.specs.declared.line.ChangeForm.{ChangeForm}
use Rattle.sf_script.specs.declared.line.ChangeForm.TheVariants as change
use Rattle.sf_script.specs.declared.line.Keyword.{Keyword}
use Rattle.sf_script.specs.declared.line.Keyword.TheVariants as key
use Rattle.sf_script.specs.declared.line.PointForm.TheVariants as point
use Rattle.sf_script.specs.declared.line.QueueForm.TheVariants as queue
use Rattle.sf_script.specs.declared.line.Side.TheVariants as side
use Rattle.sf_script.specs.declared.line.StepForm.{StepForm}
use Rattle.sf_script.specs.declared.line.StepForm.TheVariants as form

-- the first of two that is there
abbrev pub or_else : {X : Type 0} → Option X → Option X → Option X
or_else (Some x) _ = Some x
or_else None other = other

-- the form of a producer's step
unfoldable pub producer_form_of : Text → Option StepForm
producer_form_of word =
    if bytes_eq word (codes "connect") then Some (form.OnQueue queue.Connect) else
    if bytes_eq word (codes "disconnect") then Some (form.OnQueue queue.Disconnect) else
    if bytes_eq word (codes "maxdequeued") then Some (form.Most side.Producer) else
    if bytes_eq word (codes "async") then Some form.Async else
    if bytes_eq word (codes "dequeue") then Some (form.Dequeue false) else
    if bytes_eq word (codes "dequeuewait") then Some (form.Dequeue true) else
    if bytes_eq word (codes "request") then Some form.Request else
    if bytes_eq word (codes "draw") then Some form.Draw else
    if bytes_eq word (codes "queue") then Some form.Queue else
    if bytes_eq word (codes "cancel") then Some (form.Return side.Producer) else
    if bytes_eq word (codes "pdetach") then Some (form.Detach side.Producer) else
    if bytes_eq word (codes "pattach") then Some (form.Attach side.Producer) else None

-- the form of a consumer's step, or of one on a timeline
unfoldable pub consumer_form_of : Text → Option StepForm
consumer_form_of word =
    if bytes_eq word (codes "maxacquired") then Some (form.Most side.Consumer) else
    if bytes_eq word (codes "abandon") then Some (form.OnQueue queue.Abandon) else
    if bytes_eq word (codes "acquire") then Some form.Acquire else
    if bytes_eq word (codes "release") then Some (form.Return side.Consumer) else
    if bytes_eq word (codes "cdetach") then Some (form.Detach side.Consumer) else
    if bytes_eq word (codes "cattach") then Some (form.Attach side.Consumer) else
    if bytes_eq word (codes "signal") then Some (form.OnPoint point.Signal) else
    if bytes_eq word (codes "wait") then Some (form.OnPoint point.Wait) else None

-- the form of a step on a transaction
unfoldable pub transaction_form_of : Text → Option StepForm
transaction_form_of word =
    if bytes_eq word (codes "tx") then Some form.Tx else
    if bytes_eq word (codes "desire") then Some form.Desire else
    if bytes_eq word (codes "buffer") then Some form.Buffer else
    if bytes_eq word (codes "barrier") then Some form.Barrier else
    if bytes_eq word (codes "merge") then Some form.Merge else
    if bytes_eq word (codes "apply") then Some form.Apply else
    if bytes_eq word (codes "set") then Some form.Set else None

-- the form of a step
abbrev pub step_form_of : Text → Option StepForm
step_form_of word = or_else (producer_form_of word) (or_else (consumer_form_of word) (transaction_form_of word))

-- the form of a line that is no step; `queue` begins a declaration where no actor was declared
unfoldable pub plain_keyword_of : Bool → Text → Option Keyword
plain_keyword_of has_actor word =
    if bytes_eq word (codes "scene") then Some key.Scene else
    if bytes_eq word (codes "timeline") then Some key.Timeline else
    if not has_actor && bytes_eq word (codes "queue") then Some key.Queue else
    if bytes_eq word (codes "picture") then Some key.Picture else
    if bytes_eq word (codes "fill") then Some key.Fill else
    if bytes_eq word (codes "actor") then Some key.Actor else
    if bytes_eq word (codes "order") then Some key.Order else
    if bytes_eq word (codes "end") then Some key.End else None

-- the form of a line that version 2 has, and version 1 has not
unfoldable pub second_keyword_of : Text → Option Keyword
second_keyword_of word =
    if bytes_eq word (codes "display") then Some key.Display else
    if bytes_eq word (codes "stack") then Some key.Stack else
    if bytes_eq word (codes "capture") then Some key.Capture else
    if bytes_eq word (codes "hit") then Some key.Hit else
    if bytes_eq word (codes "mirror") then Some key.Mirror else None

-- the same in this version
abbrev pub versioned_keyword_of : Bool → Text → Option Keyword
versioned_keyword_of true word = second_keyword_of word
versioned_keyword_of false word = None

-- the form of a line, in version 2 or not, where some actor was declared or none
abbrev pub keyword_of : Bool → Bool → Text → Option Keyword
keyword_of is_second has_actor word =
    or_else (plain_keyword_of has_actor word) (or_else (versioned_keyword_of is_second word) (option_map key.Step (step_form_of word)))

-- what a word behind `set N LAYER` changes
unfoldable pub change_form_of : Text → Option ChangeForm
change_form_of word =
    if bytes_eq word (codes "create") then Some change.Create else
    if bytes_eq word (codes "destroy") then Some change.Destroy else
    if bytes_eq word (codes "reparent") then Some change.Reparent else
    if bytes_eq word (codes "z") then Some change.Z else
    if bytes_eq word (codes "relative") then Some change.Relative else
    if bytes_eq word (codes "position") then Some change.Position else
    if bytes_eq word (codes "crop") then Some change.Crop else
    if bytes_eq word (codes "alpha") then Some change.Alpha else
    if bytes_eq word (codes "hidden") then Some change.Hidden else
    if bytes_eq word (codes "opaque") then Some change.Opaque else
    if bytes_eq word (codes "colour") then Some change.Colour else
    if bytes_eq word (codes "backpressure") then Some change.Backpressure else
    if bytes_eq word (codes "orient") then Some change.Orient else None

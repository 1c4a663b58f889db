-- The forms of steps, behind their first words.
use Rattle.std.specs.Prelude.{ℕ, Bool, true, false, List, [], Option, None, Result, Ok, Err, codes}
use Rattle.sf_script_words.specs.Text.{Text}
use Rattle.sf_script_words.specs.Reading.{Read, ◌>>=◌, end_at, fixed_at, flag_at, number_at}
use Rattle.sf_script_words.specs.declared.fault.WordFault.{WordFault}
use Rattle.sf_script_scene.specs.Scene.{SceneValue}
use Rattle.sf_script_scene.specs.declared.step.Step.{Step}
use Rattle.sf_script_scene.specs.declared.step.Step.TheVariants as step
use Rattle.sf_script.specs.Draft.{DraftValue}
use Rattle.sf_script.specs.Mentions.{bound_name_at, declared_picture_at, declared_queue_at, declared_timeline_at, used_name_at}
use Rattle.sf_script.specs.Parts.{asked_size_at, expected_at, fences_at, part_at, time_at, value_at}
use Rattle.sf_script.specs.Transactions.{apply_at, barrier_at, buffer_at, desire_at, merge_at, set_at, tx_at}
use Rattle.sf_script.specs.declared.line.BoundName.{BoundName}
use Rattle.sf_script.specs.declared.line.NamedStep.{NamedStep}
use Rattle.sf_script.specs.declared.line.PointForm.{PointForm}
use Rattle.sf_script.specs.declared.line.PointForm.TheVariants as point
use Rattle.sf_script.specs.declared.line.QueueForm.{QueueForm}
use Rattle.sf_script.specs.declared.line.QueueForm.TheVariants as queue
use Rattle.sf_script.specs.declared.line.Side.{Side}
use Rattle.sf_script.specs.declared.line.Side.TheVariants as side
use Rattle.sf_script.specs.declared.line.StepForm.{StepForm}
use Rattle.sf_script.specs.declared.line.StepForm.TheVariants as form

-- a step that names a queue and nothing else
abbrev pub step_on_queue : QueueForm → ℕ → Step
step_on_queue queue.Connect number = step.Connect number
step_on_queue queue.Disconnect number = step.Disconnect number
step_on_queue queue.Abandon number = step.Abandon number

-- `connect Q`, `disconnect Q`, `abandon Q`
unfoldable pub on_queue_at : SceneValue → QueueForm → List Text → Result Step WordFault
on_queue_at scene kind words = do
  number ← declared_queue_at scene words
  _ ← end_at number.1
  Ok (step_on_queue kind number.0)

-- how many buffers this side of a queue may hold
abbrev pub step_of_most : Side → ℕ → ℕ → Step
step_of_most side.Producer number count = step.MaxDequeued number count
step_of_most side.Consumer number count = step.MaxAcquired number count

-- `maxdequeued Q COUNT`, `maxacquired Q COUNT`
unfoldable pub most_at : SceneValue → Side → List Text → Result Step WordFault
most_at scene of words = do
  number ← declared_queue_at scene words
  count ← number_at 0 4294967295 number.1
  _ ← end_at count.1
  Ok (step_of_most of number.0 count.0)

-- `async Q FLAG`
unfoldable pub async_at : SceneValue → List Text → Result Step WordFault
async_at scene words = do
  number ← declared_queue_at scene words
  flag ← flag_at number.1
  _ ← end_at flag.1
  Ok (step.Async number.0 flag.0)

-- a dequeue, which waits or does not
abbrev pub step_of_dequeue : Bool → ℕ → ℕ → Option (ℕ × ℕ) → Step
step_of_dequeue true number name size = step.DequeueWait number name size
step_of_dequeue false number name size = step.Dequeue number name size

-- `as NAME`
unfoldable pub as_name_at : DraftValue → List Text → Read BoundName
as_name_at d words = do
  rest ← fixed_at (codes "as") words
  bound_name_at d.names rest.1

-- `dequeue Q as S [size DW DH]`, `dequeuewait Q as S [size DW DH]`
unfoldable pub dequeue_at : DraftValue → Bool → List Text → Result NamedStep WordFault
dequeue_at d waits words = do
  number ← declared_queue_at d.scene words
  name ← as_name_at d number.1
  size ← asked_size_at name.1
  Ok (record { step = step_of_dequeue waits number.0 name.0.place size; new_name = name.0.new_name })

-- `request S`
unfoldable pub request_at : DraftValue → List Text → Result Step WordFault
request_at d words = do
  name ← used_name_at d.names words
  _ ← end_at name.1
  Ok (step.Request name.0)

-- `draw S P`
unfoldable pub draw_at : DraftValue → List Text → Result Step WordFault
draw_at d words = do
  name ← used_name_at d.names words
  picture ← declared_picture_at d.scene name.1
  _ ← end_at picture.1
  Ok (step.Draw name.0 picture.0)

-- `queue S P [time TIME] [crop FX FY FW FH] [fence T V]*`
unfoldable pub queue_at : DraftValue → List Text → Result Step WordFault
queue_at d words = do
  name ← used_name_at d.names words
  picture ← declared_picture_at d.scene name.1
  time ← time_at picture.1
  part ← part_at time.1
  points ← fences_at d.scene [] part.1
  Ok (step.Queue name.0 picture.0 time.0 part.0 points)

-- a buffer that goes back, from this side of its queue
abbrev pub step_of_return : Side → ℕ → List (ℕ × ℕ) → Step
step_of_return side.Producer name points = step.Cancel name points
step_of_return side.Consumer name points = step.Release name points

-- `cancel S [fence T V]*`, `release I [fence T V]*`
unfoldable pub return_at : DraftValue → Side → List Text → Result Step WordFault
return_at d of words = do
  name ← used_name_at d.names words
  points ← fences_at d.scene [] name.1
  Ok (step_of_return of name.0 points)

-- a buffer that leaves its queue, from this side of it
abbrev pub step_of_detach : Side → ℕ → ℕ → Step
step_of_detach side.Producer name loose = step.PDetach name loose
step_of_detach side.Consumer name loose = step.CDetach name loose

-- `pdetach S as B`, `cdetach I as B`
unfoldable pub detach_at : DraftValue → Side → List Text → Result NamedStep WordFault
detach_at d of words = do
  name ← used_name_at d.names words
  loose ← as_name_at d name.1
  _ ← end_at loose.1
  Ok (record { step = step_of_detach of name.0 loose.0.place; new_name = loose.0.new_name })

-- a loose buffer that joins a queue, on this side of it
abbrev pub step_of_attach : Side → ℕ → ℕ → ℕ → Step
step_of_attach side.Producer number loose name = step.PAttach number loose name
step_of_attach side.Consumer number loose name = step.CAttach number loose name

-- `pattach Q B as S`, `cattach Q B as I`
unfoldable pub attach_at : DraftValue → Side → List Text → Result NamedStep WordFault
attach_at d of words = do
  number ← declared_queue_at d.scene words
  loose ← used_name_at d.names number.1
  name ← as_name_at d loose.1
  _ ← end_at name.1
  Ok (record { step = step_of_attach of number.0 loose.0 name.0.place; new_name = name.0.new_name })

-- `acquire Q as I [at TIME]`
unfoldable pub acquire_at : DraftValue → List Text → Result NamedStep WordFault
acquire_at d words = do
  number ← declared_queue_at d.scene words
  name ← as_name_at d number.1
  time ← expected_at name.1
  Ok (record { step = step.Acquire number.0 name.0.place time; new_name = name.0.new_name })

-- a step on a timeline
abbrev pub step_on_point : PointForm → ℕ → ℕ → Step
step_on_point point.Signal timeline value = step.Signal timeline value
step_on_point point.Wait timeline value = step.Wait timeline value

-- `signal T V`, `wait T V`
unfoldable pub on_point_at : SceneValue → PointForm → List Text → Result Step WordFault
on_point_at scene kind words = do
  timeline ← declared_timeline_at scene words
  value ← value_at timeline.1
  _ ← end_at value.1
  Ok (step_on_point kind timeline.0 value.0)

-- a step that binds no new name
abbrev pub plain : Step → NamedStep
plain s = record { step = s; new_name = None }

-- the step that was read, as one that binds no new name
abbrev pub unnamed : Result Step WordFault → Result NamedStep WordFault
unnamed (Ok s) = Ok (plain s)
unnamed (Err fault) = Err fault

-- the step behind its first word
unfoldable pub step_at : DraftValue → StepForm → List Text → Result NamedStep WordFault
step_at d (form.OnQueue kind) words = unnamed (on_queue_at d.scene kind words)
step_at d (form.Most of) words = unnamed (most_at d.scene of words)
step_at d form.Async words = unnamed (async_at d.scene words)
step_at d (form.Dequeue waits) words = dequeue_at d waits words
step_at d form.Request words = unnamed (request_at d words)
step_at d form.Draw words = unnamed (draw_at d words)
step_at d form.Queue words = unnamed (queue_at d words)
step_at d (form.Return of) words = unnamed (return_at d of words)
step_at d (form.Detach of) words = detach_at d of words
step_at d (form.Attach of) words = attach_at d of words
step_at d form.Acquire words = acquire_at d words
step_at d (form.OnPoint kind) words = unnamed (on_point_at d.scene kind words)
step_at d form.Tx words = unnamed (tx_at words)
step_at d form.Desire words = unnamed (desire_at words)
step_at d form.Buffer words = unnamed (buffer_at d.names words)
step_at d form.Barrier words = unnamed (barrier_at words)
step_at d form.Merge words = unnamed (merge_at words)
step_at d form.Apply words = unnamed (apply_at words)
step_at d form.Set words = unnamed (set_at words)

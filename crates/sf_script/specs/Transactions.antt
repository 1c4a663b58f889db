-- The forms of steps on transactions, behind their first words.
use Rattle.std.specs.Prelude.{ℕ, List, Result, Ok, codes}
use Rattle.sf_script_words.specs.Text.{Text}
use Rattle.sf_script_words.specs.Reading.{Read, ◌>>=◌, end_at, fixed_at, number_at}
use Rattle.sf_script_words.specs.declared.fault.WordFault.{WordFault}
use Rattle.sf_script_scene.specs.declared.step.Step.{Step}
use Rattle.sf_script_scene.specs.declared.step.Step.TheVariants as step
use Rattle.sf_script.specs.Changes.{change_at}
use Rattle.sf_script.specs.Mentions.{used_name_at}
use Rattle.sf_script.specs.Parts.{moment_at, value_at}

-- the number of a transaction
abbrev pub transaction_at : List Text → Read ℕ
transaction_at words = number_at 1 64 words

-- the number of a layer, or a token
abbrev pub layer_at : List Text → Read ℕ
layer_at words = number_at 1 4294967295 words

-- `tx N`
unfoldable pub tx_at : List Text → Result Step WordFault
tx_at words = do
  number ← transaction_at words
  _ ← end_at number.1
  Ok (step.Tx number.0)

-- `desire N TIME`
unfoldable pub desire_at : List Text → Result Step WordFault
desire_at words = do
  number ← transaction_at words
  time ← moment_at number.1
  _ ← end_at time.1
  Ok (step.Desire number.0 time.0)

-- `buffer N LAYER I`
unfoldable pub buffer_at : List Text → List Text → Result Step WordFault
buffer_at names words = do
  number ← transaction_at words
  layer ← layer_at number.1
  name ← used_name_at names layer.1
  _ ← end_at name.1
  Ok (step.Buffer number.0 layer.0 name.0)

-- `barrier N LAYER FRAME`
unfoldable pub barrier_at : List Text → Result Step WordFault
barrier_at words = do
  number ← transaction_at words
  layer ← layer_at number.1
  frame ← value_at layer.1
  _ ← end_at frame.1
  Ok (step.Barrier number.0 layer.0 frame.0)

-- `merge N M`
unfoldable pub merge_at : List Text → Result Step WordFault
merge_at words = do
  number ← transaction_at words
  other ← transaction_at number.1
  _ ← end_at other.1
  Ok (step.Merge number.0 other.0)

-- `apply N token TOKEN`
unfoldable pub apply_at : List Text → Result Step WordFault
apply_at words = do
  number ← transaction_at words
  rest ← fixed_at (codes "token") number.1
  token ← layer_at rest.1
  _ ← end_at token.1
  Ok (step.Apply number.0 token.0)

-- `set N LAYER ..`
unfoldable pub set_at : List Text → Result Step WordFault
set_at words = do
  number ← transaction_at words
  layer ← layer_at number.1
  changed ← change_at layer.1
  _ ← end_at changed.1
  Ok (step.Set number.0 layer.0 changed.0)

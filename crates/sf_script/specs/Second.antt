-- The forms of declarations that version 2 has, behind their first words.
use Rattle.std.specs.Prelude.{ℕ, List, Result, Ok}
use Rattle.sf_script_words.specs.Text.{Text}
use Rattle.sf_script_words.specs.Reading.{◌>>=◌, end_at, number_at, signed_at}
use Rattle.sf_script_words.specs.declared.fault.WordFault.{WordFault}
use Rattle.sf_script_scene.specs.Scene.{SceneValue, has_capture, has_display, has_hit, has_layer}
use Rattle.sf_script_scene.specs.declared.declarations.CaptureDecl.{CaptureDecl}
use Rattle.sf_script_scene.specs.declared.declarations.DisplayDecl.{DisplayDecl}
use Rattle.sf_script_scene.specs.declared.declarations.HitDecl.{HitDecl}
use Rattle.sf_script.specs.Declarations.{new_number_at}

-- `display D W H STACK`
unfoldable pub new_display_at : SceneValue → List Text → Result DisplayDecl WordFault
new_display_at scene words = do
  number ← new_number_at (has_display scene.displays) 2 8 words
  width ← number_at 1 1024 number.1
  height ← number_at 1 1024 width.1
  stack ← number_at 0 4294967295 height.1
  _ ← end_at stack.1
  Ok (record { number = number.0; width = width.0; height = height.0; stack = stack.0 })

-- `stack LAYER STACK`
unfoldable pub new_stack_at : SceneValue → List Text → Result (ℕ × ℕ) WordFault
new_stack_at scene words = do
  layer ← new_number_at (has_layer scene.stacks) 1 4294967295 words
  stack ← number_at 0 4294967295 layer.1
  _ ← end_at stack.1
  Ok (layer.0, stack.0)

-- `capture C LAYER W H`
unfoldable pub new_capture_at : SceneValue → List Text → Result CaptureDecl WordFault
new_capture_at scene words = do
  number ← new_number_at (has_capture scene.captures) 1 8 words
  layer ← number_at 1 4294967295 number.1
  width ← number_at 1 1024 layer.1
  height ← number_at 1 1024 width.1
  _ ← end_at height.1
  Ok (record { number = number.0; layer = layer.0; width = width.0; height = height.0 })

-- `hit H X Y`
unfoldable pub new_hit_at : SceneValue → List Text → Result HitDecl WordFault
new_hit_at scene words = do
  number ← new_number_at (has_hit scene.hits) 1 64 words
  x ← signed_at 16384 16384 number.1
  y ← signed_at 16384 16384 x.1
  _ ← end_at y.1
  Ok (record { number = number.0; x = x.0; y = y.0 })

-- `mirror LAYER LAYER`
unfoldable pub new_mirror_at : SceneValue → List Text → Result (ℕ × ℕ) WordFault
new_mirror_at scene words = do
  layer ← new_number_at (has_layer scene.mirrors) 1 4294967295 words
  mirrored ← number_at 1 4294967295 layer.1
  _ ← end_at mirrored.1
  Ok (layer.0, mirrored.0)

-- What a run showed last.
use Rattle.std.specs.Prelude.{◌≡◌, if◌then◌else◌, Bool, true, false, List, [], ◌∷◌, Option, Some, None}
use Rattle.std.specs.Option.{option_or}
use Rattle.law_played.specs.sf_layer.declared.layer.Layer.{Layer}
use Rattle.law_played.specs.sf_actor.Scripts.{picture_at}
use Rattle.law_played.specs.sf_record.declared.event.VsyncRecords.{VsyncRecords}
use Rattle.law_played.specs.sf_script_scene.Scene.{SceneValue}
use Rattle.law_played.specs.Frames.{plan_of, shown_due}

-- some of these are there
abbrev pub is_any : {X : Type 0} → List X → Bool
is_any [] = false
is_any (x ∷ xs) = true

-- the last of these vsyncs that shows something
abbrev pub last_shown : List VsyncRecords → Option VsyncRecords
last_shown [] = None
last_shown (vsync ∷ later) = option_or (last_shown later) (if is_any vsync.shown then Some vsync else None)

-- what was shown last are the outputs due of these layers; where nothing was shown there are none
abbrev pub ShowsLast : SceneValue → List Layer → Option VsyncRecords → Type 0
ShowsLast scene layers None = layers ≡ []
ShowsLast scene layers (Some vsync) = vsync.shown ≡ shown_due (picture_at scene.pictures) (plan_of scene) layers

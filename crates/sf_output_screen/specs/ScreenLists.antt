-- What several displays show: a screen for each image that was shown.
use Rattle.std.specs.Prelude.{ℕ, ◌==◌, Bool, true, false, List, None, [], find}
use Rattle.std.specs.List.{All}
use Rattle.std.specs.Option.{option_map_or}
use Rattle.sf_output.specs.declared.image.ImageId.{ImageId}
use Rattle.sf_output.specs.declared.image.ImageId.TheVariants as id
use Rattle.sf_compose.specs.sf_picture.declared.picture.Picture.{Picture}
use Rattle.sf_output_screen.specs.Screens.{IsShown, ScreenOf}
use Rattle.sf_output_screen.specs.declared.screens.OutputScreen.{OutputScreen}

-- each frame is the image of the view that was shown last there
abbrev pub AreShown : (ℕ → Picture) → List OutputScreen → Type 0
AreShown pictures screens = All (λ (one : OutputScreen). IsShown pictures one.screen) screens

-- the same image
abbrev pub is_same : ImageId → ImageId → Bool
is_same id.Frame id.Frame = true
is_same (id.Display output) (id.Display other) = output == other
is_same (id.Capture output) (id.Capture other) = output == other
is_same _ _ = false

-- a screen is of this image
abbrev pub is_of : ImageId → OutputScreen → Bool
is_of of one = is_same one.of of

-- a screen that showed nothing yet
abbrev pub bare_screen : ScreenOf
bare_screen = record { view = None; numbers = []; frame = [] }

-- the screen of an image, which showed nothing yet where there is none
abbrev pub screen_of : List OutputScreen → ImageId → ScreenOf
screen_of screens of = option_map_or (λ (one : OutputScreen). one.screen) (find (is_of of) screens) bare_screen

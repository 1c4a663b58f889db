-- What a display shows.
use Rattle.std.specs.Prelude.{◌≡◌, ℕ, ◌+◌, ◌*◌, List, ◌++◌, drop, length, pos, Option, IfSome}
use Rattle.byteorder.specs.Endian.{big_bytes}
use Rattle.sf_output.specs.declared.image.ImageId.{ImageId}
use Rattle.sf_output.specs.declared.image.ImageId.TheVariants as id
use Rattle.sf_compose.specs.sf_picture.declared.picture.Picture.{Picture}
use Rattle.sf_compose.specs.sf_view.Stacks.{view_image}
use Rattle.sf_compose.specs.sf_view.Views.{ViewOf}
use Rattle.sf_compose.specs.Again.{ShowsView}
use Rattle.sf_compose.specs.Frames.{frame_bytes}
use Rattle.sf_compose.specs.Sources.{HasSources}

-- the view that was shown last, if one was, the numbers in front of its frame, and the frame
pub record ScreenOf : Type 0 where
  pub view : Option ViewOf
  pub numbers : List ℕ
  pub frame : List ℕ

-- the bytes of a view's image, for the pictures that numbers stand for
unfoldable pub image_bytes : (ℕ → Picture) → ViewOf → List ℕ
image_bytes picture view = frame_bytes (λ x y. view_image picture view (pos x) (pos y)) view.width view.height

-- the frame has four bytes for each pixel
abbrev pub IsWhole : ViewOf → List ℕ → Type 0
IsWhole view frame = length frame ≡ 4 * (view.width * view.height)

-- what is kept of a frame has room for two numbers in front, once a view was shown, and the frame whole
abbrev pub HasRoom : Option ViewOf → List ℕ → Type 0
HasRoom view body = IfSome view (λ view. length body ≡ 8 + 4 * (view.width * view.height))

-- the frame is the image of the view
abbrev pub IsShown : (ℕ → Picture) → ScreenOf → Type 0
IsShown picture screen = IfSome screen.view (λ view. ShowsView picture view screen.frame)

-- the frame is the image of a view whose sources are found
abbrev pub ShowsFirst : List Picture → List ℕ → ViewOf → List ℕ → Type 0
ShowsFirst contents sources view frame = (picture : ℕ → Picture) → HasSources picture view contents sources → ShowsView picture view frame

-- so it is where it was the image of an older view before
abbrev pub ShowsOver : List Picture → List ℕ → ViewOf → ViewOf → List ℕ → List ℕ → Type 0
ShowsOver contents sources old view before after =
    (picture : ℕ → Picture) → HasSources picture view contents sources → ShowsView picture old before → ShowsView picture view after

-- a new view has the size of the last one, whose frame is there whole
pub record IsSameSize (frame : List ℕ) (new old : ViewOf) : Type 0 where
  pub wide : old.width ≡ new.width
  pub high : old.height ≡ new.height
  pub whole : IsWhole new frame

-- the number of a further display or of a capture, 0 for the frame of the scene's own display
abbrev pub output_of : ImageId → ℕ
output_of id.Frame = 0
output_of (id.Display output) = output
output_of (id.Capture output) = output

-- the record's body begins at the last of the numbers for the frame of the scene's own display, and else at the first
abbrev pub begin_of : ImageId → ℕ
begin_of id.Frame = 4
begin_of (id.Display output) = 0
begin_of (id.Capture output) = 0

-- the numbers in front of an image: of its display or capture, and of its vsync
abbrev pub numbers_of : ImageId → ℕ → List ℕ
numbers_of of number = big_bytes 4 (output_of of) ++ big_bytes 4 number

-- the numbers with which the body of an image's record begins
abbrev pub head_of : ImageId → ℕ → List ℕ
head_of of number = drop (begin_of of) (numbers_of of number)

-- What shows of drawn layers, found from the front.
use Rattle.std.specs.Prelude.{◌≡◌, ℤ, Bool, true, List, ◌∷◌, reverse}
use Rattle.std.specs.List.{All, list_any}
use Rattle.sf_base.specs.declared.geometry.Rect.{Rect}
use Rattle.sf_region.specs.Points.{IsInBounds, has}
use Rattle.sf_view.specs.declared.drawn.Drawn.{Drawn}
use Rattle.sf_damage.specs.Visible.{AreVisibleAt, AreWithin, hides_at}

-- at the points that pass a test these rectangles hide what the layers hide
abbrev pub HideAt : (ℤ → ℤ → Bool) → List Rect → List Drawn → Type 0
HideAt test hidden layers = (x y : ℤ) → test x y ≡ true → has hidden x y ≡ list_any (hides_at x y) layers

-- what shows of some layers at the points that pass a test, that of the last one first, and what hides what is below them
pub record IsShown (test : ℤ → ℤ → Bool) (layers : List Drawn) (shown : List (List Rect)) (hidden : List Rect) : Type 0 where
  pub visible : AreVisibleAt test layers (reverse shown)
  pub within : AreWithin layers (reverse shown)
  pub hides : HideAt test hidden layers
  pub near : All IsInBounds hidden

-- a layer more, below those that are done: what was said of them holds with it
abbrev pub ShowsOneMore : (ℤ → ℤ → Bool) → Drawn → List (List Rect) → List Rect → List (List Rect) → List Rect → Type 0
ShowsOneMore test drawn shown hidden next_shown next_hidden = (above : List Drawn) → IsShown test above shown hidden → IsShown test (drawn ∷ above) next_shown next_hidden

-- What is asked of drawn layers that are painted, and of the regions that say where they show.
use Rattle.std.specs.Prelude.{◌≡◌, ◌≤◌, ℕ, Bool, true, List, [], ◌∷◌, Option, None, Some, pos}
use Rattle.std.specs.List.{All}
use denote.Ref.{Bor}
use Rattle.sf_base.specs.declared.geometry.Rect.{Rect}
use Rattle.sf_damage.specs.Visible.{shows_at}
use Rattle.sf_damage.specs.sf_region.Points.{has}
use Rattle.sf_damage.specs.sf_view.Contents.{is_in_content}
use Rattle.sf_damage.specs.sf_view.Views.{is_in_clip}
use Rattle.sf_damage.specs.sf_view.declared.drawn.Drawn.{Drawn}

-- a drawn layer has one of eight orientations, and its clip lies in its content
pub record IsPaintable (drawn : Drawn) : Type 0 where
  pub oriented : drawn.orient ≤ 7
  pub inside : (x y : ℕ) → is_in_clip drawn (pos x) (pos y) ≡ true → is_in_content drawn.content drawn.orient drawn.place (pos x) (pos y) ≡ true

abbrev pub ArePaintable : List Drawn → Type 0
ArePaintable layers = All IsPaintable layers

-- for each drawn layer, from the back, a region that has, of the points of a display that pass a test, those that show of it
abbrev pub AreSeenAt : (ℕ → ℕ → Bool) → List Drawn → List (List Rect) → Type 0
AreSeenAt test [] regions = regions ≡ []
AreSeenAt test (drawn ∷ above) [] = ⊥
AreSeenAt test (drawn ∷ above) (region ∷ regions) =
    ((x y : ℕ) → test x y ≡ true → has region (pos x) (pos y) ≡ shows_at drawn above (pos x) (pos y)) × AreSeenAt test above regions

-- the same, where such regions are given
abbrev pub AreGivenAt : (ℕ → ℕ → Bool) → List Drawn → Option (Bor (List (List Rect))) → Type 0
AreGivenAt test layers None = Unit {0}
AreGivenAt test layers (Some shows) = AreSeenAt test layers shows.now

-- What a transaction shows of a buffer.
use Rattle.std.specs.Prelude.{◌≡◌}
use Rattle.sf_base.specs.Geometry.{LiesWithin}
use Rattle.sf_base.specs.Fences.{Fence}
use Rattle.sf_base.specs.declared.ids.LayerId.{LayerId}
use Rattle.sf_layer.specs.declared.shown.Shown.{Shown}
use Rattle.sf_picture.specs.declared.picture.Picture.{Picture}
use Rattle.sf_picture.specs.Pixels.{HasSize}

-- a buffer that a transaction shows on a layer, with its acquire fence and the lease of its pixels
pub record Buffer (L : Type 0) : Type 0 where
  pub layer : LayerId
  pub shown : Shown
  pub fence : Fence
  pub lease : L

-- what is shown names the picture, and its crop lies inside
pub record Shows (shown : Shown) (picture : Picture) : Type 0 where
  pub number : shown.picture ≡ picture.number
  pub crop : LiesWithin shown.crop picture.width picture.height
  pub size : HasSize picture

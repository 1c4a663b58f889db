use Rattle.sf_view.specs.Image.{opaque_black}
use Rattle.law_images.proofs.TransparentLayers.{black_pixel, clear, shown_alone, unpainted}
use Rattle.law_images.proofs.laws.what_is_transparent_changes_nothing.Goals as goal

pub returns-clause-alpha : goal.returns-clause-alpha
returns-clause-alpha c = unpainted

pub returns-clause-clear : goal.returns-clause-clear
returns-clause-clear c = clear

pub returns-clause-layers : goal.returns-clause-layers
returns-clause-layers c = λ pictures tree layers x y. shown_alone pictures tree x y layers opaque_black black_pixel

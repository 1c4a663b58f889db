use Rattle.law_images.proofs.OpaqueImages.{image_opaque}
use Rattle.law_images.proofs.laws.every_image_is_opaque.Goals as goal

pub returns : goal.returns
returns c = image_opaque

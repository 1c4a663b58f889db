use Rattle.law_play_order.proofs.ShownPlays.{play_happened}
use Rattle.law_play_order.proofs.what_shows_a_play_happened_in_order.Goals as goal

pub returns : goal.returns
returns c = λ shown. play_happened shown.scene shown.shows shown.state shown.limits shown.is shown.fit shown.fits

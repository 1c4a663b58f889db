use Rattle.law_played.proofs.AcquiredFrames.{shows_picture}
use Rattle.law_played.proofs.actors.acquired_frames_show_pictures.Goals as goal

pub returns : goal.returns
returns g c = λ actors queue taken calls. shows_picture actors.scene actors.ofs actors.home actors.view queue taken.made taken.lease actors.are calls taken.there taken.takes

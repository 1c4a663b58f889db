use Rattle.law_rights.proofs.BufferOrigins.{followed_back}
use Rattle.law_rights.proofs.laws.a_buffer_is_followed_to_its_maker.Goals as goal

pub returns : goal.returns
returns c = followed_back

use Rattle.law_buffers.proofs.OnePlace.{one_place, some_place}
use Rattle.law_buffers.proofs.a_buffer_is_in_one_place.Goals as goal

pub returns-clause-one : goal.returns-clause-one
returns-clause-one c = λ so. one_place so.width so.height so.calls so.replies

pub returns-clause-some : goal.returns-clause-some
returns-clause-some c = λ so slot held. some_place so.width so.height so.calls slot held so.replies

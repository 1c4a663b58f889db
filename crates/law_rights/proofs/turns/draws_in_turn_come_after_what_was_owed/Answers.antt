use Rattle.law_rights.proofs.InTurnEnd.{draw_after_owed}
use Rattle.law_rights.proofs.turns.draws_in_turn_come_after_what_was_owed.Goals as goal

pub returns : goal.returns
returns g c = λ scene now limits actors there draws. draw_after_owed scene now.ofs now.home now.view now.handler limits actors there draws

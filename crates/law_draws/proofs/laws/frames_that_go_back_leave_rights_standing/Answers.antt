use Rattle.law_draws.proofs.RightsAtRest.{return_keeps, returns_keep}
use Rattle.law_draws.proofs.laws.frames_that_go_back_leave_rights_standing.Goals as goal

pub returns-clause-all : goal.returns-clause-all
returns-clause-all g c = λ back by step returns. returns_keep back.scene back.calls by step back.old back.new back.declared returns back.same_actors back.stand

pub returns-clause-one : goal.returns-clause-one
returns-clause-one g c = λ back by step lease returns. return_keeps back.scene back.calls by step back.old back.new back.declared lease returns back.same_actors back.stand

use Rattle.law_script.proofs.SameLines.{second_too}
use Rattle.law_script.proofs.a_script_may_be_of_version_2.Goals as goal

pub returns : goal.returns
returns c = second_too

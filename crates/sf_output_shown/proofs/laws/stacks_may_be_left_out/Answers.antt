use Rattle.sf_output_shown.proofs.StackLemmas.{no_stacks}
use Rattle.sf_output_shown.proofs.laws.stacks_may_be_left_out.Goals as goal

pub returns : goal.returns
returns c = no_stacks

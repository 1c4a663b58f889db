use Rattle.sf_slots.proofs.Chains.{told_through}
use Rattle.sf_slots.proofs.laws.calls_are_told_by_their_history.Goals as goal

pub returns : goal.returns
returns g c = λ width height history after came. told_through came.0 width height history after came.1

use Rattle.sf_turns.proofs.Steps.{opens_table}
use Rattle.sf_turns.proofs.turn_table.TurnTable.open.Goals as goal

pub new-requires : goal.new-requires
new-requires g c = opens_table g.P.Stamped.stamp_of _ _ _ c.requires.words c.requires.homes

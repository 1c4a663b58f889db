use Rattle.law_played.proofs.Examples.{history_is, legal, replies_are, written_are}
use Rattle.law_played.proofs.laws.a_queue_is_told.Goals as goal

pub returns-clause-replies : goal.returns-clause-replies
returns-clause-replies c = replies_are

pub returns-clause-history : goal.returns-clause-history
returns-clause-history c = history_is

pub returns-clause-legal : goal.returns-clause-legal
returns-clause-legal c = legal

pub returns-clause-written : goal.returns-clause-written
returns-clause-written c = written_are

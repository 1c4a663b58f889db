use Rattle.law_rights.proofs.MakersMoving.{moved_to}
use Rattle.law_rights.proofs.makers.the_right_of_a_buffer_moves.Goals as goal

pub returns : goal.returns
returns g c = λ moved.
    let call = moved.call in
    moved_to call.old call.new call.by call.queue call.step call.asked call.reply call.from call.is moved.ledger moved.right moved.was moved.now moved.brings moved.gives moved.same moved.no_slot moved.there

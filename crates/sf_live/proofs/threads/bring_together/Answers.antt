use Rattle.sf_live.proofs.Together.{actor_set_there, together}
use Rattle.sf_live.proofs.threads.bring_together.Goals as goal

pub resume-requires : goal.resume-requires
resume-requires g c =
    let left = c.in_ok-desk.ensures in
    actor_set_there _ g.B.TableName.table c.requires.ran.0 c.args.locks c.args.pictures c.args.all_returned c.requires.ran.1 c.in_ok-desk.desk
    (record { closes = left.closed; ordered = left.ordered; goes_on = left.goes_on; nobody = left.nobody }) c.tell.ensures.knows c.tell.ensures.legal c.in_ok-actors.actors.items c.in_ok-actors.ensures.actors

pub returns : goal.returns
returns g c =
    let left = c.in_ok-desk.ensures in
    record {
      together = λ run h. together _ g.B.TableName.table run c.args.locks c.args.pictures c.args.all_returned h c.in_ok-desk.desk
          (record { closes = left.closed; ordered = left.ordered; goes_on = left.goes_on; nobody = left.nobody }) c.tell.ensures.knows c.tell.ensures.legal c.in_ok-actors.actors.items c.in_ok-actors.ensures.actors
          (record { actor_set = c.resume.result; gates = c.in_ok-actors.gates }) c.resume.ensures c.in_ok-actors.ensures.gates;
    }

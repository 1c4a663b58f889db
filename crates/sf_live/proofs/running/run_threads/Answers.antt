use Rattle.sf_live_compositor.proofs.sf_live_threads_lemmas.AttendLemmas.{of_ok}
use Rattle.sf_live_compositor.specs.sf_record.declared.encode.RunFault.TheVariants.{NoMemory}
use Rattle.sf_live.proofs.RunLemmas.{came_returned, came_together, cut_ended, cut_returned, cut_threads, kept, kept_first, no_write_fault, of_err, ran}
use Rattle.sf_live.proofs.running.run_threads.Goals as goal

pub run_actors-compositor-requires-clause-kept : goal.run_actors-compositor-requires-clause-kept
run_actors-compositor-requires-clause-kept g c κs within = λ after_seating first gives. (
  record { shared = c.type_bounds.sync-R.shared },
  kept_first g.K.Sink.taken g.K.Sink.faults _ g.B.TableName.table c.requires.starts.0 c.args.opened c.args.compositor c.requires.starts.1 c.requires.starts.2 c.requires.may.unused after_seating gives,
)

pub settle-requires-clause-kept : goal.settle-requires-clause-kept
settle-requires-clause-kept g c κs within =
    let s = c.requires.starts in
    let now = c.run_actors-compositor.result.0 in
    let first = of_ok _ c.run_actors-compositor.result.1 c.in-Ok.all_returned c.in-Ok.is c.run_actors-compositor.ensures.first in
    let all = of_ok _ c.run_actors-compositor.result.1 c.in-Ok.all_returned c.in-Ok.is c.run_actors-compositor.ensures.all in
    let returned = of_ok _ c.run_actors-compositor.result.1 c.in-Ok.all_returned c.in-Ok.is c.run_actors-compositor.ensures.returns in
    (c.args.compositor, c.args.opened.locks, _, kept g.K.Sink.taken g.K.Sink.faults _ g.B.TableName.table s.0 c.args.opened c.args.compositor s.1 s.2 c.requires.may.unused _ now c.in-Ok.all_returned first all c.as_slice.result.now c.as_slice.ensures returned)

pub bring_together-requires-clause-ran : goal.bring_together-requires-clause-ran
bring_together-requires-clause-ran g c =
    let s = c.requires.starts in
    let now = c.run_actors-compositor.result.0 in
    let first = of_ok _ c.run_actors-compositor.result.1 c.in-Ok.all_returned c.in-Ok.is c.run_actors-compositor.ensures.first in
    let all = of_ok _ c.run_actors-compositor.result.1 c.in-Ok.all_returned c.in-Ok.is c.run_actors-compositor.ensures.all in
    let returned = of_ok _ c.run_actors-compositor.result.1 c.in-Ok.all_returned c.in-Ok.is c.run_actors-compositor.ensures.returns in
    let was = kept g.K.Sink.taken g.K.Sink.faults _ g.B.TableName.table s.0 c.args.opened c.args.compositor s.1 s.2 c.requires.may.unused _ now c.in-Ok.all_returned first all c.as_slice.result.now c.as_slice.ensures returned in
    let still = c.in-Ok-settle.ensures.kept c.args.compositor c.args.opened.locks _ was in
    (ran g.K.Sink.taken g.K.Sink.faults _ g.B.TableName.table s.0 c.args.opened c.args.compositor s.1 s.2 c.requires.may.unused _ now c.in-Ok.all_returned first all c.as_slice.result.now c.as_slice.ensures returned c.settle.new.self still.0 still.1, came_returned g.K.Sink.taken g.K.Sink.faults _ g.B.TableName.table s.0 c.args.opened c.args.compositor s.1 s.2 c.requires.may.unused _ now c.in-Ok.all_returned first all c.as_slice.result.now c.as_slice.ensures returned c.settle.new.self still.0 still.1)

pub returns-in-Ok-bring_together-clause-together : goal.returns-in-Ok-bring_together-clause-together
returns-in-Ok-bring_together-clause-together g c = λ scene opens starts.
    let s = c.requires.starts in
    let now = c.run_actors-compositor.result.0 in
    let first = of_ok _ c.run_actors-compositor.result.1 c.in-Ok.all_returned c.in-Ok.is c.run_actors-compositor.ensures.first in
    let all = of_ok _ c.run_actors-compositor.result.1 c.in-Ok.all_returned c.in-Ok.is c.run_actors-compositor.ensures.all in
    let returned = of_ok _ c.run_actors-compositor.result.1 c.in-Ok.all_returned c.in-Ok.is c.run_actors-compositor.ensures.returns in
    let was = kept g.K.Sink.taken g.K.Sink.faults _ g.B.TableName.table scene c.args.opened c.args.compositor opens starts c.requires.may.unused _ now c.in-Ok.all_returned first all c.as_slice.result.now c.as_slice.ensures returned in
    let still = c.in-Ok-settle.ensures.kept c.args.compositor c.args.opened.locks _ was in
    came_together g.K.Sink.taken g.K.Sink.faults _ g.B.TableName.table scene c.args.opened c.args.compositor opens starts c.requires.may.unused _ now c.in-Ok.all_returned first all c.as_slice.result.now c.as_slice.ensures returned c.settle.new.self still.0 still.1 c.in-Ok-bring_together.joined
    (c.in-Ok-bring_together.ensures.together (ran g.K.Sink.taken g.K.Sink.faults _ g.B.TableName.table scene c.args.opened c.args.compositor opens starts c.requires.may.unused _ now c.in-Ok.all_returned first all c.as_slice.result.now c.as_slice.ensures returned c.settle.new.self still.0 still.1) (came_returned g.K.Sink.taken g.K.Sink.faults _ g.B.TableName.table scene c.args.opened c.args.compositor opens starts c.requires.may.unused _ now c.in-Ok.all_returned first all c.as_slice.result.now c.as_slice.ensures returned c.settle.new.self still.0 still.1))

pub returns-in-Ok-clause-cut : goal.returns-in-Ok-clause-cut
returns-in-Ok-clause-cut g c =
    let s = c.requires.starts in
    let now = c.run_actors-compositor.result.0 in
    let first = of_ok _ c.run_actors-compositor.result.1 c.in-Ok.all_returned c.in-Ok.is c.run_actors-compositor.ensures.first in
    let all = of_ok _ c.run_actors-compositor.result.1 c.in-Ok.all_returned c.in-Ok.is c.run_actors-compositor.ensures.all in
    let returned = of_ok _ c.run_actors-compositor.result.1 c.in-Ok.all_returned c.in-Ok.is c.run_actors-compositor.ensures.returns in
    let was = kept g.K.Sink.taken g.K.Sink.faults _ g.B.TableName.table s.0 c.args.opened c.args.compositor s.1 s.2 c.requires.may.unused _ now c.in-Ok.all_returned first all c.as_slice.result.now c.as_slice.ensures returned in
    let still = c.in-Ok-settle.ensures.kept c.args.compositor c.args.opened.locks _ was in
    cut_returned g.K.Sink.taken g.K.Sink.faults _ g.B.TableName.table s.0 c.args.opened c.args.compositor s.1 s.2 c.requires.may.unused _ now c.in-Ok.all_returned first all c.as_slice.result.now c.as_slice.ensures returned c.settle.new.self still.0 still.1 NoMemory no_write_fault

pub returns-in-Err-settle-clause-cut : goal.returns-in-Err-settle-clause-cut
returns-in-Err-settle-clause-cut g c =
    let s = c.requires.starts in
    let now = c.run_actors-compositor.result.0 in
    let first = of_ok _ c.run_actors-compositor.result.1 c.in-Ok.all_returned c.in-Ok.is c.run_actors-compositor.ensures.first in
    let all = of_ok _ c.run_actors-compositor.result.1 c.in-Ok.all_returned c.in-Ok.is c.run_actors-compositor.ensures.all in
    let returned = of_ok _ c.run_actors-compositor.result.1 c.in-Ok.all_returned c.in-Ok.is c.run_actors-compositor.ensures.returns in
    let was = kept g.K.Sink.taken g.K.Sink.faults _ g.B.TableName.table s.0 c.args.opened c.args.compositor s.1 s.2 c.requires.may.unused _ now c.in-Ok.all_returned first all c.as_slice.result.now c.as_slice.ensures returned in
    cut_ended g.K.Sink.taken g.K.Sink.faults _ g.B.TableName.table c.args.compositor c.settle.new.self c.fault_of-fault.result (λ is. (c.fault_of-fault.ensures is).1)
    (c.in-Err-settle.ensures.ended c.args.compositor c.args.opened.locks _ was)

pub returns-clause-cut : goal.returns-clause-cut
returns-clause-cut g c =
    let s = c.requires.starts in
    cut_threads g.K.Sink.taken g.K.Sink.faults _ g.B.TableName.table s.0 c.args.opened c.args.compositor s.1 s.2 c.requires.may.unused _ c.args.opened.locks c.run_actors-compositor.result.0 c.in-Err.why c.fault_of-fault-in-Err.result
    c.fault_of-fault-in-Err.ensures (of_err _ c.run_actors-compositor.result.1 c.in-Err.why c.in-Err.is c.run_actors-compositor.ensures.left)

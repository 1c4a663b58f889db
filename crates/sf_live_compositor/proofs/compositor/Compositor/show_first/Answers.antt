use Rattle.std.proofs.Common.{◌≡◌, false, ap, ◌∙◌}
use Rattle.sf_live_threads.specs.sf_commit.Handlers.{HandlerOf}
use Rattle.sf_live_threads.specs.sf_surface.Tokens.{ReadLeaseOf}
use Rattle.sf_live_compositor.specs.Sitting.{MakesVsync}
use Rattle.sf_live_compositor.specs.Vsyncs.{Sitting}
use Rattle.sf_live_compositor.proofs.Shown.{if_ok, is_stage, may_make, on_ok, sits_on}
use Rattle.sf_live_compositor.proofs.compositor.Compositor.show_first.Goals as goal

pub make_behind-images-requires-clause-next : goal.make_behind-images-requires-clause-next
make_behind-images-requires-clause-next g c κs within = may_make _ _ _ _ _ c.requires.next

pub make_behind-images-requires-clause-all : goal.make_behind-images-requires-clause-all
make_behind-images-requires-clause-all g c κs within = c.requires.next.may.all

pub returns-in-Ok-clause-stage : goal.returns-in-Ok-clause-stage
returns-in-Ok-clause-stage g c =
    let self = c.args.self.now in
    let made = c.make_behind-images in
    let old : Sitting g.row.B.Denot = record { handler = self.decider.handler; seats = c.args.seats.now; number = self.vsyncs } in
    let new : Sitting g.row.B.Denot = record { handler = made.new.self.decider.handler; seats = made.new.seats; number = made.new.self.vsyncs } in
    let makes = if_ok made.result.1 c.in-Ok.made (λ made. MakesVsync _ g.B.TableName.table c.args.locks.now self.period old new made.report) c.in-Ok.is made.ensures.makes in
    let alive : new.handler.is_spent ≡ false = ap (λ (h : HandlerOf ReadLeaseOf). h.is_spent) makes.vsync.decides.settled.state ∙ c.requires.next.may.alive in
    is_stage _ g.B.TableName.table c.args.locks.now self.period self.shows.plan old new c.in-Ok.made.report makes c.requires.next.set.planned c.requires.next.may made.ensures.few (made.ensures.buffers alive)

pub returns-in-Ok-clause-may : goal.returns-in-Ok-clause-may
returns-in-Ok-clause-may g c =
    let self = c.args.self.now in
    let made = c.make_behind-images in
    let old : Sitting g.row.B.Denot = record { handler = self.decider.handler; seats = c.args.seats.now; number = self.vsyncs } in
    let new : Sitting g.row.B.Denot = record { handler = made.new.self.decider.handler; seats = made.new.seats; number = made.new.self.vsyncs } in
    let makes = if_ok made.result.1 c.in-Ok.made (λ made. MakesVsync _ g.B.TableName.table c.args.locks.now self.period old new made.report) c.in-Ok.is made.ensures.makes in
    sits_on _ g.B.TableName.table c.args.locks.now self.period self.shows.plan old new c.in-Ok.made.report makes c.requires.next.may made.ensures.all (on_ok made.result.1 c.in-Ok.made c.in-Ok.is made.ensures.known) (on_ok made.result.1 c.in-Ok.made c.in-Ok.is made.ensures.early)

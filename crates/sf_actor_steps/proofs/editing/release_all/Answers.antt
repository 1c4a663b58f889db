use Rattle.std.proofs.Common.{◌∙◌, List, subst}
use Rattle.sf_actor.specs.sf_surface.Tokens.{ReadLeaseOf}
use Rattle.sf_actor.specs.sf_txn.Buffers.{Buffer}
use Rattle.sf_actor.specs.Desks.{DeskHome}
use Rattle.sf_actor_steps.specs.Editing.{Releases}
use Rattle.sf_actor_steps.proofs.EditingLemmas.{ReleasesRest, released_one}
use Rattle.sf_actor_steps.proofs.editing.release_all.Goals as goal

pub loop-buffer-preserved : goal.loop-buffer-preserved
loop-buffer-preserved g c =
    let home = g.D.Desk.home c.args.desk.now in
    let old = g.D.Desk.view c.args.desk.now in
    let now = g.D.Desk.view c.loop-buffer.desk in
    let next = g.D.Desk.view c.release_overtaken.new.desk in
    let by = c.args.by.0 in
    let all = c.args.replaced.items in
    let so = subst (λ (rest : List (Buffer ReadLeaseOf)). ReleasesRest home by c.args.step_number all rest old now) c.in-Some.ensures.steps.0 c.loop-buffer.invariant.1 in
    let given_back = subst (λ (h : DeskHome). Releases h by c.args.step_number c.buffer.inside.lease now next) c.loop-buffer.invariant.0 c.in_ok-release_overtaken.ensures.releases in
    let released = subst (λ (b : Buffer ReadLeaseOf). Releases home by c.args.step_number b.lease now next) c.buffer.view_is given_back in
    (c.release_overtaken.ensures.home ∙ c.loop-buffer.invariant.0, released_one home by c.args.step_number all c.next.new.self.rest.items c.in-Some.buffer old now next so released)

pub loop-buffer-preserved-in_ok-release_overtaken : goal.loop-buffer-preserved-in_ok-release_overtaken
loop-buffer-preserved-in_ok-release_overtaken g c =
    let home = g.D.Desk.home c.args.desk.now in
    let old = g.D.Desk.view c.args.desk.now in
    let now = g.D.Desk.view c.loop-buffer.desk in
    let next = g.D.Desk.view c.release_overtaken.new.desk in
    let by = c.args.by.0 in
    let all = c.args.replaced.items in
    let so = subst (λ (rest : List (Buffer ReadLeaseOf)). ReleasesRest home by c.args.step_number all rest old now) c.in-Some.ensures.steps.0 c.loop-buffer.invariant.1 in
    let given_back = subst (λ (h : DeskHome). Releases h by c.args.step_number c.buffer.inside.lease now next) c.loop-buffer.invariant.0 c.in_ok-release_overtaken.ensures.releases in
    let released = subst (λ (b : Buffer ReadLeaseOf). Releases home by c.args.step_number b.lease now next) c.buffer.view_is given_back in
    (c.release_overtaken.ensures.home ∙ c.loop-buffer.invariant.0, released_one home by c.args.step_number all c.next.new.self.rest.items c.in-Some.buffer old now next so released)

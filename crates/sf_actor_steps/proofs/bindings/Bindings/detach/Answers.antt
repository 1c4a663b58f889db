use Rattle.std.proofs.Common.{ℕ, ap, subst, Option}
use Rattle.std.specs.Option.{option_copied}
use Rattle.sf_base.specs.Fences.{Fence}
use Rattle.sf_base.specs.declared.ids.ActorId.{ActorId}
use Rattle.sf_actor.specs.sf_picture.declared.picture.Picture.{Picture}
use Rattle.sf_actor.specs.Desks.{DeskHome}
use Rattle.sf_actor.specs.Names.{name_in}
use Rattle.sf_actor_steps.specs.Calling.{TriesCall}
use Rattle.sf_actor_steps.specs.Bindings.{holdings_of}
use Rattle.sf_actor_steps.specs.Forming.{detach_step}
use Rattle.sf_actor_steps.specs.Leaving.{LooksFor, Looks, leaving_fence}
use Rattle.sf_actor_steps.specs.declared.tried.Tried.{Tried}
use Rattle.sf_actor_steps.proofs.LeavingLemmas.{leaves, ok-map}
use Rattle.sf_actor_steps.proofs.bindings.Bindings.detach.Goals as goal

pub returns-clause-tries : goal.returns-clause-tries
returns-clause-tries g c =
    let home = g.D.Desk.home c.args.desk.now in
    let home_same = c.is_open.ensures.home in
    let by = c.args.self.now.by.0 in
    let old = g.D.Desk.view c.args.desk.now in
    let looked = g.D.Desk.view c.is_open.new.desk in
    let new = g.D.Desk.view c.ask.new.desk in
    let fence = leaving_fence c.args.reads (name_in (holdings_of c.args.self.now) c.args.names.from) in
    let s = detach_step c.args.reads c.args.names.from c.args.names.to in
    let taken = c.leaving_call-asking.new.self in
    let asking = c.leaving_call-asking.result in
    let passed : LooksFor home fence old looked =
    subst (λ (f : Option Fence). LooksFor home f old looked) c.leaving_fence.ensures (subst (Looks home (option_copied c.leaving_fence.result) old looked) c.if-is_open.false c.is_open.ensures.looks) in
    ok-map _ _ c.ask.result
    (λ (came_to : Tried) tries (pictures : ℕ → Picture). leaves pictures home by c.args.step_number s fence c.args.self.now c.ask.new.self old looked new came_to passed (record {
      taken = taken;
      asking = asking;
      forms = c.leaving_call-asking.ensures.forms pictures;
      tries =
          subst (λ (h : DeskHome). TriesCall h by c.args.step_number asking taken c.ask.new.self looked new came_to) home_same
          (subst (λ (b : ℕ). TriesCall (g.D.Desk.home c.is_open.new.desk) b c.args.step_number asking taken c.ask.new.self looked new came_to) (ap (λ (a : ActorId). a.0) c.leaving_call-asking.ensures.by) tries);
    }))
    c.ask.ensures.tries

use Rattle.std.proofs.Common.{◌∙◌, ap, refl, true≢false}
use Rattle.sf_commit.proofs.ValueLemmas.{value_of}
use Rattle.sf_commit.proofs.VsyncLemmas.{kept_at_once, stops_unseen}
use Rattle.sf_commit.specs.Handlers.{HandlerOf}
use Rattle.sf_commit.proofs.handler.Handler.vsync.Goals as goal

pub show-requires : goal.show-requires
show-requires g c = ap (λ (h : HandlerOf g.row.L.Denot). h.is_spent) c.in_ok-commits.ensures.decides.settled.state ∙ c.in_ok-commits.ensures.decides.alive

pub returns-in_default-clause-stops : goal.returns-in_default-clause-stops
returns-in_default-clause-stops g c =
    let d = c.in_ok-commits.ensures.decides in
    stops_unseen g.L.Lease c.args.self.now c.commit.new.self _ c.args.eye.now c.commit.new.eye c.args.arrived.items c.args.seen.now c.args.expected _ d (c.requires.fits d.alive) c.requires.brought
    refl (ap (λ (h : HandlerOf g.row.L.Denot). h.lent) c.self.view_is) (ap (λ (h : HandlerOf g.row.L.Denot). h.kept) c.self.view_is)

pub invariant_of-self : goal.invariant_of-self
invariant_of-self g c =
    let inside = c.self.inside in
    (kept_at_once g.L.Lease (value_of inside) _ inside.contents.items inside.has_changed c.self.invariant.0 refl refl refl refl, c.self.invariant.1, λ alive. absurd (true≢false alive))

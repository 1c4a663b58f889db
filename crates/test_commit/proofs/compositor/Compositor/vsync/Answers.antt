use Rattle.std.proofs.Common.{◌∙◌, ap}
use Rattle.sf_commit.specs.Handlers.{last_of}
use Rattle.test_commit.proofs.RunLemmas.{rising_last, rising_none}
use Rattle.test_commit.proofs.compositor.Compositor.vsync.Goals as goal

pub step-requires : goal.step-requires
step-requires c =
    λ alive. rw (c.replace-arrived.ensures.value) (rising_last c.self.inside.handler.last c.self.inside.last c.self.inside.arrived.items (c.self.invariant.1 alive))

pub invariant_of-self : goal.invariant_of-self
invariant_of-self c = (
  c.step.ensures.lent ∙ c.self.invariant.0,
  λ alive. rising_none c.self.inside.handler.last c.self.inside.last c.step.new.handler.last c.self.inside.arrived.items _ (c.self.invariant.1 (c.step.ensures.alive alive))
      (c.step.ensures.last alive ∙ ap (λ v. last_of c.self.inside.handler.last v.items) c.replace-arrived.ensures.value)
      (ap (λ v. v.items) c.replace-arrived.ensures.after ∙ c.new.ensures.items),
)

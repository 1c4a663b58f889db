use Rattle.std.proofs.Common.{cond, None, Some, ◌∙◌, ap, sym}
use Rattle.std.specs.Prelude.{◌==◌}
use Rattle.std.proofs.lemmas.Option.{MatchOption-at_none}
use Rattle.sf_actor.specs.sf_surface.Tokens.{ReadLeaseOf}
use Rattle.sf_actor_steps.specs.Bindings.{holdings_of}
use Rattle.sf_actor_steps.proofs.RefusalLemmas.{buffer_frame, buffer_no_frame, buffer_no_number}
use Rattle.sf_actor_steps.proofs.bindings.Bindings.buffer_refusal.Goals as goal

pub returns-in-Some : goal.returns-in-Some
returns-in-Some g c = λ pictures layer.
    let lease = c.in-Some.lease.now in
    c.refused_if.ensures ∙ (ap (λ (l : ReadLeaseOf). cond (l.frame == 0) (Some 11) None) c.lease.view_is
    ∙ sym (buffer_frame pictures (holdings_of c.args.self.now) c.args.number layer c.args.name lease (sym c.fills.ensures ∙ c.if-fills.true) c.in-Some.ensures))

pub returns-in_default : goal.returns-in_default
returns-in_default g c = λ pictures layer. sym (buffer_no_number pictures (holdings_of c.args.self.now) c.args.number layer c.args.name (sym c.fills.ensures ∙ c.if-fills.false))

pub returns-in_default-2 : goal.returns-in_default-2
returns-in_default-2 g c = λ pictures layer. sym (buffer_no_frame pictures (holdings_of c.args.self.now) c.args.number layer c.args.name (MatchOption-at_none _ _ c.in_default.is c.frame.ensures))

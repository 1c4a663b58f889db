use Rattle.std.proofs.Common.{◌∙◌, ap, sym}
use Rattle.sf_actor.specs.Scripts.{picture_at}
use Rattle.sf_actor.specs.Tests.{refusal_of}
use Rattle.sf_actor_steps.specs.Bindings.{holdings_of}
use Rattle.sf_actor_steps.proofs.RefusalLemmas.{merge_of}
use Rattle.sf_actor_steps.proofs.bindings.Bindings.refusal.Goals as goal

pub returns-in-Buffer : goal.returns-in-Buffer
returns-in-Buffer g c = c.buffer_refusal.ensures (picture_at c.args.pictures.now) c.in-Buffer.field-1 ∙ ap (refusal_of (picture_at c.args.pictures.now) (holdings_of c.args.self.now)) (sym c.in-Buffer.is)

pub returns-in-Merge : goal.returns-in-Merge
returns-in-Merge g c =
    c.merge_refusal.ensures ∙ merge_of (picture_at c.args.pictures.now) (holdings_of c.args.self.now) c.in-Merge.number c.in-Merge.other
    ∙ ap (refusal_of (picture_at c.args.pictures.now) (holdings_of c.args.self.now)) (sym c.in-Merge.is)

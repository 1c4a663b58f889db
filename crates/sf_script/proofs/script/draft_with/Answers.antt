use Rattle.std.proofs.Common.{ap, arith, length}
use Rattle.sf_script.specs.Draft.{DraftValue}
use Rattle.sf_script.proofs.DraftLemmas.{few_picks}
use Rattle.sf_script.proofs.script.draft_with.Goals as goal

pub returns-in-Ok-with-clause-few : goal.returns-in-Ok-with-clause-few
returns-in-Ok-with-clause-few c =
    omega (arith, ap (λ (d : DraftValue). length d.scene.order) c.in-Ok-with.ensures, few_picks c.args.draft.scene c.in-Ok.next, c.in-Ok.ensures.few)

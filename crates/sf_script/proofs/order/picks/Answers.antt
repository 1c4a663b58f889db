use Rattle.std.proofs.Common.{arith, length, length-append, ap, List}
use Rattle.std.proofs.lemmas.Grind.{common_steps}
use Rattle.std.proofs.lemmas.List.Elements.{All-push}
use Rattle.sf_script_words.specs.Text.{Text}
use Rattle.sf_script_scene.specs.Limits.{IsPick}
use Rattle.sf_script_scene.specs.declared.declarations.Pick.{Pick}
use Rattle.sf_script.specs.Order.{picks_at}
use Rattle.sf_script.proofs.order.picks.Goals as goal

pub loop-word-preserved : goal.loop-word-preserved
unfolding picks_at
loop-word-preserved c = record {
  given = grind (arith, common_steps);
  fits = rw c.in_ok-push.ensures.items (All-push (IsPick c.args.scene.now.actors) _ _ c.loop-word.invariant.fits c.in_ok-declared_pick.ensures.fits);
  few = rw c.in_ok-push.ensures.items (omega (arith, length-append {A = Pick}, ap (λ (l : List Text). length l) c.in-Some.ensures.words, c.loop-word.invariant.few));
}

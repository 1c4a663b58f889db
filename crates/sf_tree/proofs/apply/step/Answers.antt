use Rattle.std.proofs.Common.{◌≡◌, ◌∙◌, ap, sym, subst, List}
use Rattle.sf_layer.specs.declared.layer.Layer.{Layer}
use Rattle.sf_tree.specs.inner.Journal.{GoesBack, undone}
use Rattle.sf_tree.proofs.apply.step.Goals as goal

pub returns-in-Ok : goal.returns-in-Ok
returns-in-Ok c = record {
  done = c.in_ok-undo.ensures.0;
  back = λ first old. c.in-Ok.ensures.ok c.change.new.layers first c.in_ok-undo.ensures.1 (subst (λ (layers : List Layer). GoesBack c.args.journal.now layers first) (sym c.in_ok-undo.ensures.2) old);
}

pub returns-in-Err : goal.returns-in-Err
returns-in-Err c =
    let same : c.take_back.new.layers ≡ c.args.layers.now = c.take_back.ensures ∙ (ap (λ u. undone u c.change.new.layers) c.in-Err.ensures.same ∙ c.in_ok-undo.ensures.2) in
    record {
      done = tt;
      back = λ first old. subst (λ (layers : List Layer). GoesBack c.remember.new.self layers first) (sym same) (c.in-Err.ensures.err c.args.layers.now first old);
    }

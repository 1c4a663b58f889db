use Rattle.std.proofs.Common.{◌≡◌, Ok, refl, subst}
use Rattle.std.proofs.lemmas.Result.{on_ok_weaker}
use Rattle.sf_view.specs.sf_layer.declared.op.Op.{Op}
use Rattle.sf_view.specs.sf_tree.Changes.{changed}
use Rattle.sf_commit.proofs.PressedLemmas.{gone_by_op, kept_by_op, kept_same, set_by_op, set_same}
use Rattle.sf_commit.proofs.note.note_op.Goals as goal

pub returns-in-Backpressure-clause-pressed : goal.returns-in-Backpressure-clause-pressed
returns-in-Backpressure-clause-pressed c =
    on_ok_weaker c.set_pressed.result
    (λ told. λ most layers next made same.
    set_same c.args.facts.now.pressed c.set_pressed.new.facts.pressed c.args.layer c.in-Backpressure.has layers next told
    (set_by_op most layers c.args.layer next c.in-Backpressure.has (subst (λ (o : Op). changed most layers c.args.layer o ≡ Ok next) c.in-Backpressure.is made)) same)
    c.set_pressed.ensures.pressed

pub returns-in-Destroy-clause-pressed : goal.returns-in-Destroy-clause-pressed
returns-in-Destroy-clause-pressed c =
    on_ok_weaker c.set_pressed-in-Destroy.result
    (λ told. λ most layers next made same.
    set_same c.args.facts.now.pressed c.set_pressed-in-Destroy.new.facts.pressed c.args.layer _ layers next told
    (gone_by_op most layers c.args.layer next (subst (λ (o : Op). changed most layers c.args.layer o ≡ Ok next) c.in-Destroy.is made)) same)
    c.set_pressed-in-Destroy.ensures.pressed

pub returns-in_default : goal.returns-in_default
returns-in_default c = record {
  rest = refl;
  pressed = λ most layers next made same.
      kept_same c.args.facts.now.pressed layers next
      (kept_by_op most layers c.args.layer next c.args.op.now c.in_default.not-Backpressure c.in_default.not-Destroy made) same;
}

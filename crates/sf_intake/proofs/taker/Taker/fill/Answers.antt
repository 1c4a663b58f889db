use Rattle.std.proofs.Common.{◌+◌, ℕ, length, rules, sym, ap, ◌∙◌, arith}
use Rattle.sf_intake.specs.Views.{TakerView}
use Rattle.sf_intake.proofs.TakerLemmas.{popped_on, popped_none, found_later}
use Rattle.sf_intake.proofs.taker.Taker.fill.Goals as goal

pub loop-i-init : goal.loop-i-init
loop-i-init g c = record {
  popped = popped_none c.args.self.now;
  count = ap (λ (t : TakerView g.row.L.Denot). length t.waiting) (sym c.self.view_is) ∙ (sym c.self.inside.waiting.ok.0 ∙ sym c.len-i.ensures);
}

pub pull-requires : goal.pull-requires
pull-requires g c = record { own = c.loop-i.invariant.popped.same.intake ∙ c.requires.own }

pub returns-in_err-pull-clause-popped : goal.returns-in_err-pull-clause-popped
returns-in_err-pull-clause-popped g c = popped_on c.args.self.now c.loop-i.self c.pull.new.self c.loop-i.invariant.popped c.pull.ensures.popped

pub returns-then-not-branch-clause-popped : goal.returns-then-not-branch-clause-popped
returns-then-not-branch-clause-popped g c = popped_on c.args.self.now c.loop-i.self c.pull.new.self c.loop-i.invariant.popped c.pull.ensures.popped

pub returns-then-not-branch-clause-dry : goal.returns-then-not-branch-clause-dry
returns-then-not-branch-clause-dry g c = λ few. found_later c.args.self.now c.loop-i.self c.pull.new.self c.loop-i.invariant.popped (c.in_ok-pull.ensures.dry (search rules))

pub loop-i-preserved : goal.loop-i-preserved
loop-i-preserved g c = record {
  popped = popped_on c.args.self.now c.loop-i.self c.pull.new.self c.loop-i.invariant.popped c.pull.ensures.popped;
  count = c.in_ok-pull.ensures.one (search rules) ∙ ap (λ (n : ℕ). n + 1) c.loop-i.invariant.count;
}

pub returns-clause-popped : goal.returns-clause-popped
returns-clause-popped g c = c.loop-i.invariant.popped

pub returns-clause-dry : goal.returns-clause-dry
returns-clause-dry g c = λ few. let n = c.loop-i.invariant.count in let t = c.loop-i-test.false in absurd (omega arith)

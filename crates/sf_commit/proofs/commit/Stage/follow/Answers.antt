use Rattle.std.proofs.Common.{◌≡◌, ◌≤◌, ◌∙◌, List, Ok, ap, length, sym, subst}
use Rattle.std.specs.List.{All}
use Rattle.sf_base.specs.declared.ids.LayerId.{LayerId}
use Rattle.sf_view.specs.sf_layer.declared.op.Op.{Op}
use Rattle.sf_view.specs.sf_layer.Ranges.{IsOperation}
use Rattle.sf_view.specs.sf_tree.Changes.{after}
use Rattle.sf_commit.proofs.CommitLemmas.{applied}
use Rattle.sf_commit.specs.Rounds.{StageOf, accepted}
use Rattle.sf_commit.proofs.commit.Stage.follow.Goals as goal

pub returns-in_ok-accept-in-Ok : goal.returns-in_ok-accept-in-Ok
returns-in_ok-accept-in-Ok g c =
    let tree = sym (ap (λ (s : StageOf g.row.L.Denot). s.tree) c.self.view_is) in
    let on = ap (λ (s : StageOf g.row.L.Denot). s.on) c.self.view_is in
    let commits = ap (λ (s : StageOf g.row.L.Denot). s.commits) c.self.view_is in
    let gone = ap (λ (s : StageOf g.row.L.Denot). s.gone) c.self.view_is in
    let ops = sym c.as_slice.ensures in
    applied c.args.self.now c.accept.new.self c.args.facts.now c.note.new.facts c.args.parts.ops c.args.parts.buffers c.args.shown.now c.apply.new.self
    ((λ i. after (tree i) (ops i)) ∙ c.in-Ok.ensures.ok)
    (c.in_ok-accept-in-Ok.ensures ∙ (λ i. accepted (record { tree = c.apply.new.self; on = on i; commits = commits i; gone = gone i }) c.args.parts.ops c.args.parts.buffers))
    c.requires.shown
    (λ before to made same. c.in_ok-note-in-Ok.ensures before to (subst (λ (l : List (LayerId × Op)). after before l ≡ Ok to) (sym c.as_slice-in-Ok.ensures) made) same)
    c.requires.pressed

pub apply-requires-clause-few : goal.apply-requires-clause-few
apply-requires-clause-few g c = subst (λ (ops : List (LayerId × Op)). length ops ≤ 4294967295) (sym c.as_slice.ensures) c.requires.few

pub apply-requires-clause-in_range : goal.apply-requires-clause-in_range
apply-requires-clause-in_range g c = subst (λ (ops : List (LayerId × Op)). All IsOperation ops) (sym c.as_slice.ensures) c.requires.in_range

use Rattle.std.proofs.Common.{◌≡◌, ◌≤◌, ◌∙◌, List, ap, length, subst, sym, map}
use Rattle.std.specs.List.{All}
use Rattle.std.specs.Result.{OnOk}
use Rattle.std.proofs.lemmas.Result.{on_ok_weaker}
use Rattle.sf_base.specs.declared.ids.LayerId.{LayerId}
use Rattle.sf_base.specs.declared.ids.TokenId.{TokenId}
use Rattle.sf_commit_next.specs.sf_token.Pending.{Arrival}
use Rattle.sf_view.specs.sf_layer.Ranges.{IsOperation}
use Rattle.sf_view.specs.sf_layer.declared.op.Op.{Op}
use Rattle.sf_view.specs.sf_tree.Changes.{after}
use Rattle.sf_commit_next.specs.sf_txn.Transactions.{shown_by}
use Rattle.sf_commit.proofs.CommitLemmas.{notes, tells}
use Rattle.sf_commit.specs.Inside.{Notes}
use Rattle.sf_commit.specs.Rounds.{StageOf, shown_if, stage_after, told_of}
use Rattle.sf_commit.proofs.commit.Stage.commit.Goals as goal

pub returns-clause-facts : goal.returns-clause-facts
returns-clause-facts g c =
    let a : Arrival g.row.L.Denot = record { number = c.arrived.inside.number; actor = c.arrived.inside.actor; step = c.arrived.inside.step; txn = c.arrived.inside.txn } in
    let followed = rw (c.into_parts-parts.ensures.ops, c.into_parts-parts.ensures.buffers) at c.in_ok-cause.ensures in
    let noted = notes c.args.self.now c.follow.new.self c.args.facts.now c.follow.new.facts a (c.in_ok-cause.cause, c.in_ok-cause.op) (after c.args.self.now.tree a.txn.ops) followed in
    let here = subst (λ (b : Arrival g.row.L.Denot). Notes c.args.facts.now c.follow.new.facts (shown_if (after c.args.self.now.tree b.txn.ops) b.txn.buffers) c.follow.new.self.tree.layers) c.arrived.view_is noted in
    on_ok_weaker c.tell.result
    (λ same. subst (λ (s : StageOf g.row.L.Denot). Notes c.args.facts.now c.follow.new.facts (shown_if (after c.args.self.now.tree c.args.arrived.txn.ops) c.args.arrived.txn.buffers) s.tree.layers) (sym same) here)
    c.tell.ensures

pub returns-clause-stage : goal.returns-clause-stage
returns-clause-stage g c =
    let a : Arrival g.row.L.Denot = record { number = c.arrived.inside.number; actor = c.arrived.inside.actor; step = c.arrived.inside.step; txn = c.arrived.inside.txn } in
    let followed = rw (c.into_parts-parts.ensures.ops, c.into_parts-parts.ensures.buffers) at c.in_ok-cause.ensures in
    let told = tells c.args.self.now c.follow.new.self c.args.facts.now c.follow.new.facts a c.in_ok-buffers.buffers c.in_ok-cause.cause c.in_ok-cause.op (after c.args.self.now.tree a.txn.ops) followed (c.in_ok-buffers.ensures ∙ ap (map shown_by) c.buffers.ensures.value) in
    let token = ap (λ (t : TokenId). told_of c.follow.new.self (record { token = t; number = c.arrived.inside.number; cause = c.in_ok-cause.cause; op = c.in_ok-cause.op; buffers = c.in_ok-buffers.buffers })) c.token-token.ensures in
    subst (λ (s : StageOf g.row.L.Denot). OnOk c.tell.result (c.tell.new.self ≡ s)) (token ∙ (told ∙ ap (stage_after c.args.self.now) c.arrived.view_is)) c.tell.ensures

pub follow-requires-clause-few : goal.follow-requires-clause-few
follow-requires-clause-few g c = subst (λ (ops : List (LayerId × Op)). length ops ≤ 4294967295) (sym c.into_parts-parts.ensures.ops) c.into_parts-parts.ensures.kept.few

pub follow-requires-clause-in_range : goal.follow-requires-clause-in_range
follow-requires-clause-in_range g c = subst (λ (ops : List (LayerId × Op)). All IsOperation ops) (sym c.into_parts-parts.ensures.ops) c.into_parts-parts.ensures.kept.in_range

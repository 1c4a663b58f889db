use Rattle.std.proofs.Common.{ap, ◌∙◌, map}
use Rattle.std.proofs.lemmas.List.{take_all}
use Rattle.sf_commit_next.specs.sf_txn.Transactions.{shown_by}
use Rattle.sf_commit.proofs.ListLemmas.{map_more}
use Rattle.sf_commit.proofs.commit.shown_of.Goals as goal

pub loop-buffer-preserved : goal.loop-buffer-preserved
loop-buffer-preserved g c =
    c.in_ok-push.ensures.items
    ∙ map_more shown_by c.args.buffers.now c.loop-buffer.shown.items c.loop-buffer.buffer-index c.buffer-item.result (c.buffer.inside.layer, c.buffer.inside.shown) c.loop-buffer-test.true c.loop-buffer.invariant (ap shown_by (c.buffer.view_is ∙ c.buffer-item.is))

pub returns : goal.returns
returns g c = c.new.ensures ∙ (c.loop-buffer.invariant ∙ ap (map shown_by) (take_all c.loop-buffer.buffer-index c.args.buffers.now c.loop-buffer-test.false))

use Rattle.std.proofs.Common.{sym, ◌∙◌}
use Rattle.sf_tree.proofs.JournalLemmas.{back-push, CanGoBack-pop}
use Rattle.sf_tree.proofs.journal.take_all_back.Goals as goal

pub take_back-requires : goal.take_back-requires
take_back-requires c = (CanGoBack-pop c.pop.new.self.items c.in-Some.undo c.loop-undo.layers (rw c.in-Some.ensures.items at c.loop-undo.invariant.0)).1

pub loop-undo-preserved : goal.loop-undo-preserved
loop-undo-preserved c =
    rw c.take_back.ensures ((CanGoBack-pop c.pop.new.self.items c.in-Some.undo c.loop-undo.layers (rw c.in-Some.ensures.items at c.loop-undo.invariant.0)).0, sym (back-push c.pop.new.self.items c.in-Some.undo c.loop-undo.layers) ∙ (rw c.in-Some.ensures.items at c.loop-undo.invariant.1))

use Rattle.std.proofs.Common.{sym, ◌∙◌}
use Rattle.sf_tree.proofs.JournalLemmas.{CanGoBack-noted}
use Rattle.sf_tree.proofs.journal.Journal.remember.Goals as goal

pub returns-in-Ok : goal.returns-in-Ok
returns-in-Ok c = record {
  ok = λ layers first one old.
      let both = CanGoBack-noted c.args.self.now.changes.items c.push.new.self.items c.args.undo c.args.self.now.before layers first (sym c.has_all.ensures ∙ c.if-has_all.false) c.in-Ok.ensures.items one old.can old.is in
      record { can = both.0; is = both.1 };
  same = tt;
  err = tt;
}

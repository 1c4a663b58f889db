use Rattle.std.proofs.Common.{◌≡◌, ◌∙◌, ap, arith, ℕ, zero, List, map, sym, subst}
use Rattle.std.specs.List.{Contains}
use Rattle.sf_calls.specs.declared.object.Entry.{Entry}
use Rattle.sf_calls.specs.Views.{PassView}
use Rattle.sf_surface.specs.declared.call.QCall.{QCall}
use Rattle.sf_surface.specs.declared.call.QReply.{QReply}
use Rattle.sf_surface.specs.declared.mark.QueueMark.{QueueMark}
use Rattle.test_queue.proofs.PassLemmas.{only_second}
use Rattle.test_queue.proofs.desk.Desk.close.Goals as goal

pub meet-requires-clause-own : goal.meet-requires-clause-own
meet-requires-clause-own g c = c.args.self.own

pub meet-requires-clause-theirs : goal.meet-requires-clause-theirs
meet-requires-clause-theirs g c = c.args.self.other

pub meet-requires-clause-first : goal.meet-requires-clause-first
meet-requires-clause-first g c = c.args.self.leads

pub close-requires-clause-own : goal.close-requires-clause-own
close-requires-clause-own g c = ap (λ (p : PassView (ℕ × QCall g.row.B.Denot) (QReply g.row.B.Denot) QueueMark). p.table) c.meet.ensures.both ∙ c.args.self.own

pub close-requires-clause-first : goal.close-requires-clause-first
close-requires-clause-first g c = ap (λ (p : PassView (ℕ × QCall g.row.B.Denot) (QReply g.row.B.Denot) QueueMark). p.is_first) c.meet.ensures.both ∙ c.args.self.leads

pub close-requires-clause-took_all : goal.close-requires-clause-took_all
close-requires-clause-took_all g c = λ b there.
    let gave = ap (λ (p : PassView (ℕ × QCall g.row.B.Denot) (QReply g.row.B.Denot) QueueMark). p.gave) c.meet.ensures.both ∙ c.args.self.gave in
    let is : b ≡ 2 = only_second b (subst (λ (xs : List ℕ). Contains xs b) gave there) in
    subst (λ (p : PassView (ℕ × QCall g.row.B.Denot) (QReply g.row.B.Denot) QueueMark). Contains (map (λ (t : ℕ × List (Entry (ℕ × QCall g.row.B.Denot) (QReply g.row.B.Denot))). t.0) p.took) b) (sym c.meet.ensures.both)
    (zero, omega arith, c.args.self.named ∙ sym is)

use Rattle.std.proofs.Common.{◌∙◌, ap, ℕ, ◌∷◌, Some, subst}
use Rattle.std.specs.List.{Contains}
use Rattle.sf_calls.specs.Passes.{giving, given}
use Rattle.sf_calls.specs.Views.{PassView}
use Rattle.sf_surface.specs.declared.call.QCall.{QCall}
use Rattle.sf_surface.specs.declared.call.QReply.{QReply}
use Rattle.sf_surface.specs.declared.mark.QueueMark.{QueueMark}
use Rattle.sf_surface.specs.Objects.{ObjectOf, mark_of}
use Rattle.test_queue.proofs.PassLemmas.{not_second}
use Rattle.test_queue.proofs.desk.Desk.open.Goals as goal

pub new-requires-clause-wide : goal.new-requires-clause-wide
new-requires-clause-wide g c = c.requires.wide

pub new-requires-clause-narrow : goal.new-requires-clause-narrow
new-requires-clause-narrow g c = c.requires.narrow

pub new-requires-clause-high : goal.new-requires-clause-high
new-requires-clause-high g c = c.requires.high

pub new-requires-clause-low : goal.new-requires-clause-low
new-requires-clause-low g c = c.requires.low

pub split-second-requires-clause-own : goal.split-second-requires-clause-own
split-second-requires-clause-own g c = ap (λ (p : PassView (ℕ × QCall g.row.B.Denot) (QReply g.row.B.Denot) QueueMark). p.table) c.in-Ok.ensures.ok

pub split-second-requires-clause-first : goal.split-second-requires-clause-first
split-second-requires-clause-first g c = ap (λ (p : PassView (ℕ × QCall g.row.B.Denot) (QReply g.row.B.Denot) QueueMark). p.is_first) c.in-Ok.ensures.ok

pub split-second-requires-clause-fresh : goal.split-second-requires-clause-fresh
split-second-requires-clause-fresh g c = λ there.
    not_second (subst (λ (p : PassView (ℕ × QCall g.row.B.Denot) (QReply g.row.B.Denot) QueueMark). Contains (p.by ∷ p.gave) 2) c.in-Ok.ensures.ok there)

pub invariant_of-result : goal.invariant_of-result
invariant_of-result g c =
    let kept = c.split-second.ensures.kept ∙ ap (λ (p : PassView (ℕ × QCall g.row.B.Denot) (QReply g.row.B.Denot) QueueMark). giving 2 p) c.in-Ok.ensures.ok in
    let made = c.split-second.ensures.given ∙ ap (λ (p : PassView (ℕ × QCall g.row.B.Denot) (QReply g.row.B.Denot) QueueMark). given 2 p) c.in-Ok.ensures.ok in
    let mark = ap (λ (o : ObjectOf g.row.B.Denot). Some (mark_of o)) c.in_ok-object.ensures in
    record {
      own = ap (λ (p : PassView (ℕ × QCall g.row.B.Denot) (QReply g.row.B.Denot) QueueMark). p.table) kept;
      leads = ap (λ (p : PassView (ℕ × QCall g.row.B.Denot) (QReply g.row.B.Denot) QueueMark). p.is_first) kept;
      gave = ap (λ (p : PassView (ℕ × QCall g.row.B.Denot) (QReply g.row.B.Denot) QueueMark). p.gave) kept;
      took = ap (λ (p : PassView (ℕ × QCall g.row.B.Denot) (QReply g.row.B.Denot) QueueMark). p.took) kept;
      marked = ap (λ (p : PassView (ℕ × QCall g.row.B.Denot) (QReply g.row.B.Denot) QueueMark). p.mark) kept ∙ mark;
      other = ap (λ (p : PassView (ℕ × QCall g.row.B.Denot) (QReply g.row.B.Denot) QueueMark). p.table) made;
      named = ap (λ (p : PassView (ℕ × QCall g.row.B.Denot) (QReply g.row.B.Denot) QueueMark). p.by) made;
      same = ap (λ (p : PassView (ℕ × QCall g.row.B.Denot) (QReply g.row.B.Denot) QueueMark). p.mark) made ∙ mark;
    }

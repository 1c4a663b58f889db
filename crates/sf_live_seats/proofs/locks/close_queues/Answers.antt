use Rattle.std.proofs.Common.{◌≡◌, ◌∷◌, List, subst, rules}
use Rattle.std.proofs.lemmas.List.{nil_from_length}
use Rattle.std.specs.Vec.Iter.{into_iter_items}
use Rattle.std.specs.List.{AllZip}
use Rattle.sf_live_seats.specs.declared.locks.QueueLock.{QueueLock}
use Rattle.sf_live_seats.specs.Closing.{IsLast}
use Rattle.sf_live_seats.specs.Seats.{QueuePass}
use Rattle.sf_live_seats.proofs.OpenedLocks.{CloseSoFar, close_ends, close_goes_on, close_starts, has_pass}
use Rattle.sf_live_seats.proofs.locks.close_queues.Goals as goal

pub loop-lock-init : goal.loop-lock-init
loop-lock-init g c =
    let gives = c.into_iter-lock-iterator.ensures.into_iter_gives in
    close_starts c.args.locks.items _ c.args.passes.items _ _ gives.0 c.into_iter-passes.ensures.rest c.new-objects.ensures.items c.requires

pub unreachable-requires : goal.unreachable-requires
unreachable-requires g c =
    let at = c.loop-lock in
    let steps : into_iter_items at.lock-iterator ≡ c.in-Some.lock ∷ into_iter_items c.next.new.self = c.in-Some.ensures.steps.0 in
    let none = nil_from_length (into_iter_items at.passes) (let cases = c.in_default.ensures.cases in search rules) in
    has_pass (into_iter_items c.next.new.self) (into_iter_items at.passes) c.in-Some.lock
    (subst (λ (ls : List (QueueLock g.row.B.Denot)). AllZip IsLast ls (into_iter_items at.passes)) steps at.invariant.last) none

pub close-requires : goal.close-requires
close-requires g c =
    let at = c.loop-lock in
    let steps : into_iter_items at.lock-iterator ≡ c.in-Some.lock ∷ into_iter_items c.next.new.self = c.in-Some.ensures.steps.0 in
    let last =
    subst (λ (ps : List (QueuePass g.row.B.Denot)). AllZip IsLast (c.in-Some.lock ∷ into_iter_items c.next.new.self) ps) c.in-Some-next.ensures.items
    (subst (λ (ls : List (QueueLock g.row.B.Denot)). AllZip IsLast ls (into_iter_items at.passes)) steps at.invariant.last) in
    record { own = last.0 }

pub loop-lock-preserved : goal.loop-lock-preserved
loop-lock-preserved g c =
    let at = c.loop-lock in
    let steps : into_iter_items at.lock-iterator ≡ c.in-Some.lock ∷ into_iter_items c.next.new.self = c.in-Some.ensures.steps.0 in
    let so =
    subst (λ (ps : List (QueuePass g.row.B.Denot)). CloseSoFar c.args.locks.items (c.in-Some.lock ∷ into_iter_items c.next.new.self) c.args.passes.items ps at.objects.items) c.in-Some-next.ensures.items
    (subst (λ (ls : List (QueueLock g.row.B.Denot)). CloseSoFar c.args.locks.items ls c.args.passes.items (into_iter_items at.passes) at.objects.items) steps at.invariant) in
    close_goes_on c.args.locks.items (into_iter_items c.next.new.self) c.args.passes.items (into_iter_items c.next-in-loop-lock.new.self) at.objects.items c.push.new.self.items c.in-Some.lock
    c.in-Some-next.pass c.close.result so c.close.ensures c.in_ok-push.ensures.items

pub returns : goal.returns
returns g c =
    let at = c.loop-lock in
    let none = nil_from_length (into_iter_items at.lock-iterator) (let steps = c.in-None.ensures.steps in search rules) in
    close_ends c.args.locks.items (into_iter_items at.lock-iterator) c.args.passes.items (into_iter_items at.passes) at.objects.items at.invariant none

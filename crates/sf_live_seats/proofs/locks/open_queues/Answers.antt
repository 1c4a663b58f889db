use Rattle.std.proofs.Common.{◌≡◌, ◌∷◌, List, subst, rules}
use Rattle.std.proofs.lemmas.List.{nil_from_length}
use Rattle.std.specs.Vec.Iter.{into_iter_items}
use Rattle.sf_actor.specs.sf_surface.Objects.{ObjectOf}
use Rattle.sf_live_seats.proofs.OpenedLocks.{OpenSoFar, open_ends, open_goes_on, open_starts}
use Rattle.sf_live_seats.proofs.locks.open_queues.Goals as goal

pub loop-object-init : goal.loop-object-init
loop-object-init g c =
    let gives = c.into_iter-object-iterator.ensures.into_iter_gives in
    open_starts c.args.objects.items _ _ _ c.new-locks.ensures.items c.new-passes.ensures.items gives.0 c.requires

pub open_queue-requires : goal.open_queue-requires
open_queue-requires g c =
    let at = c.loop-object in
    let steps : into_iter_items at.object-iterator ≡ c.in-Some.object ∷ into_iter_items c.next.new.self = c.in-Some.ensures.steps.0 in
    (subst (λ (os : List (ObjectOf g.row.B.Denot)). OpenSoFar c.args.objects.items os at.locks.items at.passes.items) steps at.invariant).none.0

pub loop-object-preserved : goal.loop-object-preserved
loop-object-preserved g c =
    let at = c.loop-object in
    let steps : into_iter_items at.object-iterator ≡ c.in-Some.object ∷ into_iter_items c.next.new.self = c.in-Some.ensures.steps.0 in
    let so = subst (λ (os : List (ObjectOf g.row.B.Denot)). OpenSoFar c.args.objects.items os at.locks.items at.passes.items) steps at.invariant in
    open_goes_on c.args.objects.items (into_iter_items c.next.new.self) at.locks.items c.push.new.self.items at.passes.items c.push-in-loop-object.new.self.items c.in-Some.object c.in_ok-lock.lock
    c.in_ok-lock.pass so c.in_ok-lock.ensures c.in_ok-push.ensures.items c.in_ok-push-2.ensures.items

pub returns : goal.returns
returns g c =
    let at = c.loop-object in
    let none = nil_from_length (into_iter_items at.object-iterator) (let steps = c.in-None.ensures.steps in search rules) in
    open_ends c.args.objects.items (into_iter_items at.object-iterator) at.locks.items at.passes.items at.invariant none

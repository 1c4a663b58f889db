use Rattle.std.proofs.Common.{◌≡◌, true, false, slice_get, arith, sym, ◌∙◌, add-one, length-drop}
use Rattle.sf_slots.specs.Queue.{dropping}
use Rattle.sf_consume.specs.Acquiring.{goes_first, second_time}
use Rattle.sf_consume.proofs.AcquireLemmas.{has_two, count-goes, count-stays}
use Rattle.sf_consume.proofs.acquiring.drop_late.Goals as goal

pub loop-q-smaller : goal.loop-q-smaller
loop-q-smaller g c =
    let met : goes_first c.args.expected (slice_get c.loop-q.q.items 0) (second_time c.loop-q.q.items) ≡ true = sym c.drops_front.ensures ∙ c.loop-q-test.true in
    let two = has_two c.args.expected c.loop-q.q.items met in
    let after : c.drop_front.new.self ≡ dropping c.loop-q.q two.front = c.drop_front.ensures two.front two.there in
    rw after (omega (arith, two.more, length-drop 1 c.loop-q.q.items))

pub loop-q-preserved : goal.loop-q-preserved
loop-q-preserved g c =
    let met : goes_first c.args.expected (slice_get c.loop-q.q.items 0) (second_time c.loop-q.q.items) ≡ true = sym c.drops_front.ensures ∙ c.loop-q-test.true in
    let two = has_two c.args.expected c.loop-q.q.items met in
    let after : c.drop_front.new.self ≡ dropping c.loop-q.q two.front = c.drop_front.ensures two.front two.there in
    record {
      after = rw (add-one, ← c.loop-q.invariant.after, two.there) after;
      count = rw after (omega (arith, c.loop-q.invariant.count, count-goes c.args.expected c.loop-q.q.items met));
      few = rw after (omega (arith, c.loop-q.invariant.few, two.more, length-drop 1 c.loop-q.q.items));
      left = λ some. rw after two.more;
    }

pub returns : goal.returns
returns g c =
    let unmet : goes_first c.args.expected (slice_get c.loop-q.q.items 0) (second_time c.loop-q.q.items) ≡ false = sym c.drops_front.ensures ∙ c.loop-q-test.false in
    record {
      all = omega (arith, c.loop-q.invariant.count, count-stays c.args.expected c.loop-q.q.items unmet);
      after = c.loop-q.invariant.after;
      left = c.loop-q.invariant.left;
    }

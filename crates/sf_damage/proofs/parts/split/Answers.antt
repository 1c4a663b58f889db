use Rattle.sf_damage.proofs.MeetingLemmas.{apart_points, whole_points}
use Rattle.sf_damage.proofs.parts.split.Goals as goal

pub returns-then-not-touches-clause-inside : goal.returns-then-not-touches-clause-inside
returns-then-not-touches-clause-inside c = λ x y. rw c.empty.ensures (apart_points c.args.region c.args.rect c.touches.result c.touches.ensures c.if-not-touches.true x y).0

pub returns-then-not-touches-clause-outside : goal.returns-then-not-touches-clause-outside
returns-then-not-touches-clause-outside c = λ x y. (apart_points c.args.region c.args.rect c.touches.result c.touches.ensures c.if-not-touches.true x y).1

pub returns-then-has_all-clause-inside : goal.returns-then-has_all-clause-inside
returns-then-has_all-clause-inside c = λ x y. (whole_points c.args.region c.args.rect c.has_all.result c.has_all.ensures c.if-has_all.true x y).0

pub returns-then-has_all-clause-outside : goal.returns-then-has_all-clause-outside
returns-then-has_all-clause-outside c = λ x y. rw c.empty-then-has_all.ensures (whole_points c.args.region c.args.rect c.has_all.result c.has_all.ensures c.if-has_all.true x y).1

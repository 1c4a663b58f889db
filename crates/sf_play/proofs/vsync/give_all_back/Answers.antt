use Rattle.std.proofs.Common.{length, refl, rules}
use Rattle.std.proofs.lemmas.Iterator.Adapters.{YieldsList-from_vec}
use Rattle.std.proofs.lemmas.Iterator.Consumers.{YieldsList-end, YieldsList-turn}
use Rattle.sf_play.proofs.InTurn.{in_turn_all, in_turn_more, next_holds}
use Rattle.sf_play.proofs.vsync.give_all_back.Goals as goal

pub loop-release-init : goal.loop-release-init
loop-release-init g c = record { can_next = search rules; is_finite = search rules; stands = c.requires.stands; others = λ other may. may; gives = refl }

pub give_back-requires : goal.give_back-requires
give_back-requires g c =
    let t = YieldsList-turn (YieldsList-from_vec c.args.releases.items (search rules) (search rules)) c.loop-release.yielded _ c.loop-release.yielded_by c.next.result c.next.new.self c.in-Some.release c.in-Some.is c.next.ensures.steps in
    record {
      stands = c.loop-release.invariant.stands;
      may = c.loop-release.invariant.others c.in-Some.release
          (next_holds (g.D.CompositorDesk.may_give c.args.desk.now) c.args.releases.items (length c.loop-release.yielded) c.in-Some.release c.requires.may t);
    }

pub loop-release-preserved : goal.loop-release-preserved
loop-release-preserved g c = record {
  can_next = search rules;
  is_finite = search rules;
  stands = c.give_back.ensures.stands;
  others = λ other may. c.give_back.ensures.others other (c.loop-release.invariant.others other may);
  gives =
      in_turn_more (g.D.CompositorDesk.gives c.args.with.now c.args.number) c.loop-release.yielded c.in-Some.release c.args.desk.now c.loop-release.desk c.give_back.new.self
      c.loop-release.invariant.gives c.in_ok-give_back.ensures.gives;
}

pub returns : goal.returns
returns g c =
    let all = YieldsList-end (YieldsList-from_vec c.args.releases.items (search rules) (search rules)) c.loop-release.yielded _ c.loop-release.yielded_by c.next.result c.next.new.self c.in-None.is c.next.ensures.steps in
    record {
      stands = c.loop-release.invariant.stands;
      gives =
          in_turn_all (g.D.CompositorDesk.gives c.args.with.now c.args.number) c.args.releases.items c.loop-release.yielded c.args.desk.now c.loop-release.desk all.0
          c.loop-release.invariant.gives;
    }

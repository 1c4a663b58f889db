use Rattle.std.proofs.Common.{List, ◌∙◌, ap, sym, subst}
use Rattle.std.specs.Prelude.{All}
use Rattle.sf_play_report.specs.sf_commit.Releases.{CommittedOf, ReleaseOf}
use Rattle.sf_play_report.specs.sf_surface.Tokens.{ReadLeaseOf}
use Rattle.sf_play.specs.VsyncOver.{InTurn, reported}
use Rattle.sf_play.proofs.vsync.vsync_over.Goals as goal

pub decide-requires : goal.decide-requires
decide-requires g c = record {
  stands = c.see-seen.ensures.stands;
  rising = λ took arrived takes. c.requires.rising c.see-seen.new.self c.see-seen.result c.see-seen.ensures.sees took arrived takes;
}

pub give_all_back-requires : goal.give_all_back-requires
give_all_back-requires g c = record {
  stands = c.decide.ensures.stands;
  may =
      subst (All (g.D.CompositorDesk.may_give c.decide.new.self)) (sym (c.into_vec.ensures ∙ ap (λ (v : CommittedOf ReadLeaseOf). v.releases) c.committed.view_is))
      (c.requires.may c.see-seen.result c.in_ok-taken.committed c.decide.new.handler c.decide.new.self (record {
        looked = c.see-seen.new.self;
        sees = c.see-seen.ensures.sees;
        by = c.in_ok-taken.ensures.decides;
      }));
}

pub returns-clause-makes : goal.returns-clause-makes
returns-clause-makes g c = record {
  told = c.in_ok-taken.committed;
  mid = c.decide.new.self;
  decided = record {
    looked = c.see-seen.new.self;
    sees = c.see-seen.ensures.sees;
    by = c.in_ok-taken.ensures.decides;
  };
  gives =
      subst (λ (rs : List (ReleaseOf ReadLeaseOf)). InTurn (g.D.CompositorDesk.gives c.args.with.now c.args.number) rs c.decide.new.self c.give_all_back.new.desk)
      (c.into_vec.ensures ∙ ap (λ (v : CommittedOf ReadLeaseOf). v.releases) c.committed.view_is) c.in_ok-give_all_back.ensures.gives;
  report = ap (reported c.args.number c.args.expected c.see-seen.result) c.committed.view_is;
  held = ap (λ (v : CommittedOf ReadLeaseOf). v.held) c.committed.view_is;
}

use Rattle.std.proofs.Common.{◌≡◌, ap, refl, subst, sym, ◌∙◌, ◌+◌, ◌*◌, ℕ}
use Rattle.sf_play_report.specs.declared.report.VsyncReport.{VsyncReport}
use Rattle.sf_play_report.specs.sf_actor.Desks.{DeskHome}
use Rattle.sf_play_report.specs.sf_actor.Plain.{home_of, taken_in}
use Rattle.sf_play.specs.Players.{PlayOf, PlayerOf, Stands}
use Rattle.sf_play.proofs.VsyncParts.{gave_all, queues_there, rises_then}
use Rattle.sf_play.proofs.player.Player.vsync.Goals as goal

pub vsync_over-requires : goal.vsync_over-requires
vsync_over-requires g c =
    let play : PlayOf g.row.B.Denot = record { period = c.self.inside.period; order = c.self.inside.order; actor_set = c.self.inside.actor_set; handler = c.self.inside.handler; vsyncs = c.self.inside.vsyncs } in
    let scene = c.requires.may.scene in
    let so = c.requires.may.so in
    let stands = subst (λ (p : PlayerOf g.row.B.Denot). Stands g.B.TableName.table scene so p.play) (sym c.self.view_is) c.requires.may.stands in
    record {
      stands = tt;
      rising = λ looked seen sees took arrived takes. rises_then _ scene so play stands looked sees.times arrived took.desk.arrivals takes.takes;
      may = λ seen told after new d.
          let taken = taken_in d.by.took.desk.arrivals in
          let home : home_of new.desk ≡ record (home_of c.self.inside.actor_set.desk) { taken = taken } =
          d.by.same.only.home ∙ ap (λ (h : DeskHome). record h { taken = taken }) (d.by.takes.only.home ∙ ap (λ (h : DeskHome). record h { taken = taken }) d.sees.only.home) in
          queues_there _ scene so play stands d.looked d.sees.times d.by.arrived d.by.took.desk.arrivals d.by.takes.takes _ after d.by.took.desk.turns new.desk.turns seen (c.from.result * c.self.inside.period) told d.by.decides
          (record { plain = λ a b e. e; picture = λ a b e. e; number = λ a b e. ap (λ (p : ℕ × ℕ). p.1) e }) taken (home_of new.desk) home;
    }

pub returns-clause-makes : goal.returns-clause-makes
returns-clause-makes g c =
    let number = c.from.ensures in
    let made = c.in_ok-report.ensures.makes in
    let decided = made.decided in
    let by = decided.by in
    let gave = gave_all g.B.TableName.table (c.self.inside.vsyncs + 1) made.told.releases made.mid c.vsync_over.new.desk made.gives in
    rw (← c.self.view_is) (record {
      told = made.told;
      makes = record {
        looked = decided.looked;
        sees = decided.sees.sees;
        times = decided.sees.times;
        only_looks = decided.sees.only;
        took = by.took;
        arrived = by.arrived;
        takes = by.takes.takes;
        arrivals = by.takes.arrivals;
        only_takes = by.takes.only;
        decided = made.mid;
        decides = rw (← number) by.decides;
        turns = by.same.turns;
        only_decides = by.same.only;
        gives = gave.gives;
        only_gives = gave.only;
        rest = refl;
      };
      number = ap (λ (r : VsyncReport). r.number) made.report;
      expected = ap (λ (r : VsyncReport). r.expected) made.report ∙ ap (λ (n : ℕ). n * c.self.inside.period) number;
      commits = ap (λ (r : VsyncReport). r.commits) made.report;
      held = made.held;
    })

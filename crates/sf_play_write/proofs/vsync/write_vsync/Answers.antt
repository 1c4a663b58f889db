use Rattle.std.proofs.Common.{List, [], ◌∷◌, ◌++◌, ◌∙◌, Ok, Err, ap, map, subst, sym}
use Rattle.sf_play.specs.sf_commit.declared.vsync.Commit.{Commit}
use Rattle.sf_play.specs.sf_record.declared.record.Record.TheVariants as rec
use Rattle.sf_play.specs.sf_play_report.Reports.{has_commits}
use Rattle.sf_play.specs.law_played.Commits.{commit_shown}
use Rattle.sf_play_write.specs.Vsyncs.{pixels_in, shown_record, told_by}
use Rattle.sf_play_write.specs.Writing.{Wrote}
use Rattle.sf_play_write.proofs.VsyncLemmas.{all_records, head_by, no_records}
use Rattle.sf_play_write.proofs.WroteLemmas.{wrote_cut, wrote_none, wrote_then}
use Rattle.sf_play_write.proofs.vsync.write_vsync.Goals as goal

pub returns-then-not-has_commits-clause-wrote : goal.returns-then-not-has_commits-clause-wrote
returns-then-not-has_commits-clause-wrote g c =
    subst (Wrote {A = Unit {0}} g.K.Sink.taken g.K.Sink.faults c.args.sink.now c.args.sink.now (Ok tt))
    (no_records c.args.report.commits (told_by c.args.timelines.now c.args.report (pixels_in c.args.images.items)) (sym (c.has_commits.ensures ∙ ap has_commits c.as_slice.ensures) ∙ c.if-not-has_commits.true))
    (wrote_none g.K.Sink.taken g.K.Sink.faults c.args.sink.now)

pub returns-in-Err-clause-wrote : goal.returns-in-Err-clause-wrote
returns-in-Err-clause-wrote g c =
    let report = c.args.report in
    let head = head_by c.args.timelines.now report in
    let images = map (shown_record report.number) c.args.images.items in
    subst (Wrote {A = Unit {0}} g.K.Sink.taken g.K.Sink.faults c.args.sink.now c.write_made.new.sink (Err c.in-Err.fault))
    (all_records c.args.timelines.now report c.args.images.items (sym (c.has_commits.ensures ∙ ap has_commits c.as_slice.ensures) ∙ c.if-not-has_commits.false))
    (wrote_cut g.K.Sink.taken g.K.Sink.faults _ _ c.in-Err.fault (head ∷ []) (map rec.Comm (map commit_shown report.commits) ++ images) (c.in-Err.ensures.wrote head c.vsync_record-head.ensures))

pub returns-in-Err-write_commits-clause-wrote : goal.returns-in-Err-write_commits-clause-wrote
returns-in-Err-write_commits-clause-wrote g c =
    let report = c.args.report in
    let head = head_by c.args.timelines.now report in
    let commits = map rec.Comm (map commit_shown report.commits) in
    let images = map (shown_record report.number) c.args.images.items in
    subst (Wrote {A = Unit {0}} g.K.Sink.taken g.K.Sink.faults c.args.sink.now c.write_commits.new.sink (Err c.in-Err-write_commits.fault))
    (all_records c.args.timelines.now report c.args.images.items (sym (c.has_commits.ensures ∙ ap has_commits c.as_slice.ensures) ∙ c.if-not-has_commits.false))
    (wrote_then g.K.Sink.taken g.K.Sink.faults _ _ _ _ (head ∷ []) (commits ++ images) (c.in-Ok.ensures.wrote head c.vsync_record-head.ensures)
    (wrote_cut g.K.Sink.taken g.K.Sink.faults _ _ c.in-Err-write_commits.fault commits images
    (subst (λ (l : List Commit). Wrote {A = Unit {0}} g.K.Sink.taken g.K.Sink.faults c.write_made.new.sink c.write_commits.new.sink (Err c.in-Err-write_commits.fault) (map rec.Comm (map commit_shown l))) c.as_slice-2.ensures
    c.in-Err-write_commits.ensures)))

pub returns-clause-wrote : goal.returns-clause-wrote
returns-clause-wrote g c =
    let report = c.args.report in
    let head = head_by c.args.timelines.now report in
    let commits = map rec.Comm (map commit_shown report.commits) in
    let images = map (shown_record report.number) c.args.images.items in
    subst (Wrote g.K.Sink.taken g.K.Sink.faults c.args.sink.now c.write_outputs.new.sink c.write_outputs.result)
    (all_records c.args.timelines.now report c.args.images.items (sym (c.has_commits.ensures ∙ ap has_commits c.as_slice.ensures) ∙ c.if-not-has_commits.false))
    (wrote_then g.K.Sink.taken g.K.Sink.faults _ _ _ _ (head ∷ []) (commits ++ images) (c.in-Ok.ensures.wrote head c.vsync_record-head.ensures)
    (wrote_then g.K.Sink.taken g.K.Sink.faults _ _ _ _ commits images
    (subst (λ (l : List Commit). Wrote {A = Unit {0}} g.K.Sink.taken g.K.Sink.faults c.write_made.new.sink c.write_commits.new.sink (Ok tt) (map rec.Comm (map commit_shown l))) c.as_slice-2.ensures
    c.in-Ok-write_commits.ensures) c.write_outputs.ensures.wrote))

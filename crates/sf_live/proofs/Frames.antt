-- What was written of vsyncs among threads are the records of those that the run shows.
use Rattle.std.proofs.Common.{◌≡◌, ℕ, if◌then◌else◌, List, [], ◌∷◌, ◌++◌, map, ap, ap₂, ◌∙◌, refl, sym}
use Rattle.std.proofs.lemmas.List.{append-nil, map-append}
use Rattle.std.proofs.lemmas.List.Concat.{flat_map-append}
use Rattle.std.proofs.lemmas.List.Elements.{All-nil, All-push}
use Rattle.atomic_table.specs.Seated.{TableId}
use Rattle.sf_live_compositor.specs.sf_surface.Tokens.{Issued, ReadLeaseOf}
use Rattle.sf_turns.specs.Views.{SeatView}
use Rattle.sf_live_compositor.specs.sf_txn.declared.lease.Lease.{Ghosts}
use Rattle.sf_live_compositor.specs.sf_commit.declared.vsync.Commit.{Commit}
use Rattle.sf_script_scene.specs.Scene.{SceneValue}
use Rattle.sf_live_compositor.specs.sf_actor.Scripts.{picture_at}
use Rattle.sf_live_compositor.specs.sf_record.Events.{events_records, vsync_records}
use Rattle.sf_live_compositor.specs.sf_record.declared.event.Event.TheVariants as event
use Rattle.sf_live_compositor.specs.sf_record.declared.event.VsyncRecords.{VsyncRecords}
use Rattle.sf_live_compositor.specs.sf_record.declared.record.Record.{Record}
use Rattle.sf_live_compositor.specs.sf_play_report.Reports.{has_commits}
use Rattle.sf_live_compositor.specs.sf_play_report.Stages.{AreExpected}
use Rattle.sf_live_compositor.specs.law_played.Frames.{plan_of}
use Rattle.sf_live_compositor.specs.law_played.Vsyncs.{rising_timelines}
use Rattle.sf_live_compositor.specs.sf_play.Playing.{expected_by}
use Rattle.sf_live_compositor.specs.sf_play.Showing.{vsync_shown as play_shown}
use Rattle.sf_live_compositor.specs.sf_play_write.Vsyncs.{records_if, told_with, vsync_shown}
use Rattle.sf_live_compositor.specs.sf_live_seats.declared.locks.Locks.{Locks}
use Rattle.sf_live_compositor.specs.Sitting.{AreFound, Showing, records_shown, showing_of, showings_of}
use Rattle.sf_live_compositor.specs.Vsyncs.{Begin, IsVsync, More, Sitting, Vsyncs}
use Rattle.law_live_order.specs.law_joins.Frames.{AllFind}
use Rattle.law_live_order.specs.law_joins.Logs.{reports_of, shown_of}
use Rattle.sf_live.proofs.RoundLemmas.{records_more}
use Rattle.sf_live.proofs.VsyncReports.{told_is}

-- a vsync that commits nothing has no records
pub records_told : (commits : List Commit) (told shown : VsyncRecords) → shown ≡ told → records_if commits told ≡ events_records (map event.Vsync (if has_commits commits then shown ∷ [] else []))
unfolding events_records
records_told [] told shown same = refl
records_told (commit ∷ commits) told shown same = ap vsync_records (sym same) ∙ sym (append-nil (vsync_records shown))

module _ {B : Type 0} (lease : Ghosts ReadLeaseOf SeatView ReadLeaseOf Issued) (table : TableId) (locks : Locks B) (period : ℕ) (scene : SceneValue) where
  abbrev Log : Sitting B → Sitting B → Type 0
  Log start last = Vsyncs lease table locks period start last

  -- after each vsync of a log the buffers on layers have their pictures
  pub all_found : (start last : Sitting B) (log : Log start last) → AllFind lease table locks period (picture_at scene.pictures) log → AreFound (picture_at scene.pictures) (showings_of lease table locks period log)
  all_found start last Begin find = All-nil (λ (showing : Showing). AreExpected expected_by (picture_at scene.pictures) showing.handler)
  all_found start last (More {before} {after} log v) find =
      All-push (λ (showing : Showing). AreExpected expected_by (picture_at scene.pictures) showing.handler) (showings_of lease table locks period log) (showing_of lease table locks period v)
      (all_found start before log find.0) find.1

  module _ (timelines : List ℕ) (rising : timelines ≡ rising_timelines scene) where
    vsync_records_are : (before after : Sitting B) (v : IsVsync lease table locks period before after)
        → vsync_shown (picture_at scene.pictures) (plan_of scene) timelines (showing_of lease table locks period v).report after.handler.tree.layers
        ≡ events_records (map event.Vsync (shown_of lease table locks period scene v))
    vsync_records_are before after v =
        let report = (showing_of lease table locks period v).report in
        records_told v.told.commits (told_with (picture_at scene.pictures) (plan_of scene) timelines report after.handler.tree.layers)
        (play_shown scene after.number v.expected v.seen v.told.commits after.handler.tree) (told_is scene timelines report after.handler.tree rising)

    abbrev one_shown : Showing → List Record
    one_shown one = vsync_shown (picture_at scene.pictures) (plan_of scene) timelines one.report one.handler.tree.layers

    pub log_records_are : (start last : Sitting B) (log : Log start last)
        → records_shown (picture_at scene.pictures) (plan_of scene) timelines (showings_of lease table locks period log) ≡ events_records (map event.Vsync (reports_of lease table locks period scene log))
    unfolding events_records
    log_records_are start last Begin = refl
    log_records_are start last (More {before} {after} log v) =
        let showings = showings_of lease table locks period log in
        let one = showing_of lease table locks period v in
        let reports = reports_of lease table locks period scene log in
        flat_map-append one_shown showings (one ∷ [])
        ∙ ap (λ (rs : List Record). records_shown (picture_at scene.pictures) (plan_of scene) timelines showings ++ rs) (append-nil (one_shown one))
        ∙ ap₂ (λ (xs ys : List Record). xs ++ ys) (log_records_are start before log) (vsync_records_are before after v)
        ∙ sym (records_more (map event.Vsync reports) (map event.Vsync (shown_of lease table locks period scene v)))
        ∙ ap events_records (sym (map-append event.Vsync reports (shown_of lease table locks period scene v)))

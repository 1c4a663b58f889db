-- How far a run has come whose vsyncs a compositor made among threads.
use Rattle.std.proofs.Common.{◌≡◌, ℕ, if◌then◌else◌, Bool, true, false, List, [], ◌∷◌, ◌++◌, map, refl, ap, sym, ◌∙◌, subst}
use Rattle.std.specs.List.{All, AllZip}
use Rattle.std.proofs.lemmas.List.{append-nil, map-append}
use Rattle.std.proofs.lemmas.List.Elements.{All-nil, All-weaker}
use Rattle.atomic_table.specs.Seated.{TableId}
use Rattle.law_threads.specs.sf_calls_stamped.Stamps.{unstamped}
use Rattle.law_threads.specs.sf_surface.Histories.{Made}
use Rattle.law_threads.specs.sf_surface.declared.mark.QueueMark.{QueueMark}
use Rattle.law_threads.specs.sf_surface.Tokens.{Issued, ReadLeaseOf}
use Rattle.law_threads.specs.sf_token.Pending.{Arrival, IsRisingFrom}
use Rattle.law_threads.specs.sf_turns.Views.{SeatView}
use Rattle.law_threads.specs.sf_txn.Buffers.{Buffer}
use Rattle.law_threads.specs.sf_txn.declared.lease.Lease.{Ghosts}
use Rattle.law_threads.specs.sf_commit.Handlers.{last_of}
use Rattle.law_threads.specs.sf_commit.Leases.{IsReleaseOf}
use Rattle.law_threads.specs.sf_commit.OnLayers.{OnLayer}
use Rattle.law_threads.specs.sf_commit.Releases.{ReleaseOf}
use Rattle.law_threads.specs.sf_commit.declared.vsync.Commit.{Commit}
use Rattle.law_threads.specs.sf_script_scene.Scene.{SceneValue}
use Rattle.law_threads.specs.sf_script_scene.declared.declarations.QueueDecl.{QueueDecl}
use Rattle.law_threads.specs.sf_actor.Desks.{DeskView, mark_among}
use Rattle.law_threads.specs.sf_actor.Known.{CountsRise, frame_of, plain_arrival}
use Rattle.law_threads.specs.sf_actor.Names.{FrameOf}
use Rattle.law_threads.specs.sf_actor.Written.{FrameNumber}
use Rattle.law_threads.specs.sf_record.declared.event.VsyncRecords.{VsyncRecords}
use Rattle.law_threads.proofs.law_played_lemmas.LeaseLemmas.{images_go_on, looks_tell, plain_frame, releases_go_on}
use Rattle.law_threads.proofs.law_played_lemmas.ProgressLemmas.{goes_further, goes_on_by, goes_silently, releases_nothing, tells_no_more}
use Rattle.law_threads.specs.law_played.Actors.{IsRelease, mark_declared}
use Rattle.law_threads.specs.law_played.Commits.{is_written}
use Rattle.law_threads.specs.law_played.Frames.{ShowImages, ShowsImage}
use Rattle.law_threads.specs.law_played.Framing.{framed_on}
use Rattle.law_threads.specs.law_played.Histories.{IsReleased, Released, released_in}
use Rattle.law_threads.specs.law_played.Progress.{GoesOnBy, HasPlayed, SaysVsync, WroteWhatShows}
use Rattle.law_threads.specs.law_played.Stages.{told_from, told_of}
use Rattle.law_threads.specs.sf_play_report.Reports.{has_commits}
use Rattle.law_threads.specs.sf_live_seats.declared.locks.Locks.{Locks}
use Rattle.law_threads.specs.sf_live_seats.Arriving.{ArrivalCalls}
use Rattle.law_threads.specs.sf_live_seats.Seats.{home_of, view_of}
use Rattle.law_threads.specs.sf_play.Showing.{vsync_shown}
use Rattle.law_threads.specs.sf_play.Players.{IsBufferLent}
use Rattle.law_threads.proofs.sf_play_lemmas.HandlerLeases.{IsArrivedLent, OfFrames}
use Rattle.law_joins.specs.Calls.{AreReleasesOn, IsGivenOn, entries_of}
use Rattle.law_joins.specs.Logs.{HasPlayedSo, HasTaken, HoldsLent, IsKnown, KnowsSteps, KnowsWritten, OnlyFirstTakes, reports_of, taken_of, told_in}
use Rattle.law_joins.proofs.Fronts.{calls_took, known_before, turns_after}
use Rattle.law_joins.proofs.Gives.{all_given, all_releases, told_back}
use Rattle.law_joins.proofs.Lends.{back_all, front_all, goes_lent, log_lent, looked_lent}
use Rattle.law_joins.proofs.Sights.{says_seen}
use Rattle.law_joins.proofs.Takes.{log_takes, takes_rise, vsync_takes}
use Rattle.law_threads.specs.sf_live_compositor.Vsyncs.{Begin, IsVsync, More, Sitting, Vsyncs}

pub no_commits : (commits : List Commit) → has_commits commits ≡ false → commits ≡ []
no_commits [] none = refl
no_commits (commit ∷ commits) none = absurd (cc)

module _ {B : Type 0} (lease : Ghosts ReadLeaseOf SeatView ReadLeaseOf Issued) (frames : OfFrames lease) (table : TableId) (locks : Locks B) (period : ℕ) (scene : SceneValue) (same_period : period ≡ scene.period)
    (joined : DeskView B) (arriving : ArrivalCalls) (only : OnlyFirstTakes arriving) (made : List (ℕ × ℕ)) (knows : KnowsSteps scene joined.times made)
    (written : List FrameNumber) (wrote : KnowsWritten lease joined written) where
  plain : (a b : ReadLeaseOf) → lease.plain a ≡ lease.plain b → frame_of a ≡ frame_of b
  plain a b same = plain_frame a b (frames.plain a b same)

  -- a vsync that follows what was played so far
  module _ (before after : Sitting B) (v : IsVsync lease table locks period before after) (known : IsKnown joined arriving after.seats) (first : after.seats.by ≡ 0)
      (taken : List (Arrival ReadLeaseOf)) (has : HasTaken before.handler (unstamped before.seats.arrivals.seen) taken) (lent : HoldsLent joined before.handler) (came : All (IsArrivedLent joined) v.arrived)
      (reports : List VsyncRecords) (played : HasPlayed frame_of scene written (map plain_arrival taken) reports before.handler) where
    rises : IsRisingFrom before.handler.last v.arrived (last_of before.handler.last v.arrived)
    rises = subst (λ (n : ℕ). IsRisingFrom n v.arrived (last_of n v.arrived)) (sym has.last)
        (takes_rise (unstamped before.seats.arrivals.seen) v.arrived (unstamped after.seats.arrivals.seen)
        (vsync_takes lease table locks period arriving only before after v first known.arrivals))

    abbrev pub report : VsyncRecords
    report = vsync_shown scene after.number v.expected v.seen v.told.commits after.handler.tree

    says : SaysVsync report v.told v.seen v.expected
    says = record { commits = refl; due = refl; saw = says_seen lease table locks period scene same_period joined.times made knows before after v known.shown }

    counts : CountsRise v.turns.seen joined.turns.seen
    counts = subst (λ (seat : SeatView). CountsRise seat.seen joined.turns.seen) (turns_after lease table locks period before after v) known.counts

    wrote_looked : WroteWhatShows frame_of lease.shown written v.decides.looked
    wrote_looked = looks_tell lease frame_of written before.handler after.handler v.took.turns v.turns v.arrived v.seen v.expected v.told v.decides
        (All-weaker (IsArrivedLent joined) (λ (a : Arrival ReadLeaseOf). All (λ (b : Buffer ReadLeaseOf). lease.knows v.turns b.lease → is_written written (frame_of b.lease) ≡ true) a.txn.buffers)
        (λ (a : Arrival ReadLeaseOf). All-weaker (λ (b : Buffer ReadLeaseOf). IsBufferLent joined b.shown b.lease) (λ (b : Buffer ReadLeaseOf). lease.knows v.turns b.lease → is_written written (frame_of b.lease) ≡ true)
        (λ (b : Buffer ReadLeaseOf) is knows_it. wrote.known v.turns b.lease counts is.lent knows_it) a.txn.buffers) v.decides.looked (looked_lent lease frames table locks period joined before after v lent came))

    abbrev all : List (Arrival FrameOf)
    all = map plain_arrival taken ++ map plain_arrival v.arrived

    pub goes_on : GoesOnBy (told_of scene (map plain_arrival taken) reports) (told_of scene all (reports ++ report ∷ [])) report after.handler.tree (map (framed_on frame_of) v.decides.end.stage.gone)
    goes_on = goes_on_by lease frame_of plain scene written (map plain_arrival taken) reports before.handler after.handler v.took.turns v.turns v.arrived v.seen v.expected v.told played v.decides rises report says

    pub played_shown : HasPlayed frame_of scene written all (reports ++ report ∷ []) after.handler
    played_shown = goes_further lease frame_of plain scene written (map plain_arrival taken) reports before.handler after.handler v.took.turns v.turns v.arrived v.seen v.expected v.told played v.decides rises report says wrote_looked

    pub images_shown : ShowImages scene (told_of scene (map plain_arrival taken) reports) → ShowImages scene (told_of scene all (reports ++ report ∷ []))
    images_shown images = images_go_on scene (told_of scene (map plain_arrival taken) reports) (told_of scene all (reports ++ report ∷ [])) report after.handler.tree (map (framed_on frame_of) v.decides.end.stage.gone) goes_on images refl

    module _ (none : v.told.commits ≡ []) where
      pub played_silently : HasPlayed frame_of scene written all reports after.handler
      played_silently = goes_silently lease frame_of plain scene written (map plain_arrival taken) reports before.handler after.handler v.took.turns v.turns v.arrived v.seen v.expected v.told played v.decides rises none

      pub told_silently : told_of scene all reports ≡ told_of scene (map plain_arrival taken) reports
      told_silently = tells_no_more lease frame_of plain scene written (map plain_arrival taken) reports before.handler after.handler v.took.turns v.turns v.arrived v.seen v.expected v.told played v.decides rises none

      pub releases_silently : v.told.releases ≡ []
      releases_silently = releases_nothing lease frame_of plain scene written (map plain_arrival taken) reports before.handler after.handler v.took.turns v.turns v.arrived v.seen v.expected v.told played v.decides rises none

    -- whether it is shown or not
    abbrev shown : Bool → List VsyncRecords
    shown b = if b then report ∷ [] else []

    played_by : (b : Bool) → has_commits v.told.commits ≡ b → HasPlayed frame_of scene written all (reports ++ shown b) after.handler
    played_by true some = played_shown
    played_by false none = subst (λ (rs : List VsyncRecords). HasPlayed frame_of scene written all rs after.handler) (sym (append-nil reports)) (played_silently (no_commits v.told.commits none))

    images_by : (b : Bool) → has_commits v.told.commits ≡ b → ShowImages scene (told_of scene (map plain_arrival taken) reports) → ShowImages scene (told_of scene all (reports ++ shown b))
    images_by true some images = images_shown images
    images_by false none images = subst (λ (rs : List VsyncRecords). ShowImages scene (told_of scene all rs)) (sym (append-nil reports)) (subst (ShowImages scene) (sym (told_silently (no_commits v.told.commits none))) images)

    pub played_after : HasPlayed frame_of scene written (map plain_arrival (taken ++ v.arrived)) (reports ++ shown (has_commits v.told.commits)) after.handler
    played_after = subst (λ (xs : List (Arrival FrameOf)). HasPlayed frame_of scene written xs (reports ++ shown (has_commits v.told.commits)) after.handler)
        (sym (map-append plain_arrival taken v.arrived)) (played_by (has_commits v.told.commits) refl)

    pub images_after : ShowImages scene (told_of scene (map plain_arrival taken) reports) → ShowImages scene (told_of scene (map plain_arrival (taken ++ v.arrived)) (reports ++ shown (has_commits v.told.commits)))
    images_after images = subst (λ (xs : List (Arrival FrameOf)). ShowImages scene (told_of scene xs (reports ++ shown (has_commits v.told.commits))))
        (sym (map-append plain_arrival taken v.arrived)) (images_by (has_commits v.told.commits) refl images)

    -- what is told as released goes on by the frames that go
    none_goes : v.told.commits ≡ [] → v.decides.end.stage.gone ≡ []
    none_goes none = by_releases v.decides.end.stage.gone v.told.releases v.decides.settled.releases (releases_silently none)
      where
        by_releases : (ones : List (OnLayer ReadLeaseOf)) (releases : List (ReleaseOf ReadLeaseOf)) → AllZip (IsReleaseOf lease) ones releases → releases ≡ [] → ones ≡ []
        by_releases [] releases zip e = refl
        by_releases (one ∷ ones) [] zip e = absurd zip
        by_releases (one ∷ ones) (release ∷ releases) zip e = absurd (cc)

    abbrev before_released : List Released
    before_released = released_in (told_of scene (map plain_arrival taken) reports)

    released_by : (b : Bool) → has_commits v.told.commits ≡ b → released_in (told_of scene all (reports ++ shown b)) ≡ before_released ++ told_back after.number v.decides.end.stage.gone
    released_by true some = releases_go_on (told_of scene (map plain_arrival taken) reports) (told_of scene all (reports ++ report ∷ [])) report after.handler.tree (map (framed_on frame_of) v.decides.end.stage.gone) goes_on
    released_by false none =
        let silent = no_commits v.told.commits none in
        ap (λ (rs : List VsyncRecords). released_in (told_of scene all rs)) (append-nil reports) ∙ ap released_in (told_silently silent) ∙ sym (append-nil before_released)
        ∙ ap (λ (gone : List (OnLayer ReadLeaseOf)). before_released ++ told_back after.number gone) (sym (none_goes silent))

    pub released_after : released_in (told_of scene (map plain_arrival (taken ++ v.arrived)) (reports ++ shown (has_commits v.told.commits))) ≡ before_released ++ told_back after.number v.decides.end.stage.gone
    released_after = ap (λ (xs : List (Arrival FrameOf)). released_in (told_of scene xs (reports ++ shown (has_commits v.told.commits)))) (map-append plain_arrival taken v.arrived) ∙ released_by (has_commits v.told.commits) refl

  no_images : ShowImages scene (told_of scene [] [])
  unfolding told_from
  no_images = All-nil (ShowsImage scene)

  -- what was played all along a log
  pub log_plays : (start last : Sitting B) (log : Vsyncs lease table locks period start last) → HasPlayed frame_of scene written [] [] start.handler → start.handler.pending ≡ [] → start.handler.on ≡ [] → start.handler.last ≡ 0
      → start.seats.arrivals.seen ≡ [] → last.seats.by ≡ 0 → IsKnown joined arriving last.seats → All (IsArrivedLent joined) (taken_of lease table locks period log)
      → HasPlayedSo lease table locks period scene written log
  log_plays start last Begin begins pending on none nothing first known came = record { played = begins; frames = no_images }
  log_plays start last (More {before} {after} log v) begins pending on none nothing first known came =
      let taken = taken_of lease table locks period log in
      let known_then = known_before lease table locks period before after v joined arriving known in
      let first_then = sym v.caller ∙ first in
      let came_then = front_all (IsArrivedLent joined) taken v.arrived came in
      let came_now = back_all (IsArrivedLent joined) taken v.arrived came in
      let was = log_plays start before log begins pending on none nothing first_then known_then came_then in
      let has = log_takes lease table locks period arriving only start before log none nothing first_then known_then.arrivals in
      let lent = log_lent lease frames table locks period joined start before log pending on came_then in
      record {
        played = played_after before after v known first taken has lent came_now (reports_of lease table locks period scene log) was.played;
        frames = images_after before after v known first taken has lent came_now (reports_of lease table locks period scene log) was.played was.frames;
      }

  -- and the calls of the compositor are what it gave back
  module _ (marks : List QueueMark) (declared : QueueDecl) (marked : mark_among marks declared.number ≡ mark_declared declared) where
    gives_nothing : (calls : ℕ → List (Made B)) → calls declared.number ≡ [] → IsGivenOn marks calls (released_in (told_of scene [] [])) declared
    unfolding told_from released_in
    gives_nothing calls none = subst (λ (cs : List (Made B)). AllZip IsReleased [] (entries_of (mark_among marks declared.number) cs)) (sym none) tt

    pub log_gives : (start last : Sitting B) (log : Vsyncs lease table locks period start last) → HasPlayed frame_of scene written [] [] start.handler → start.handler.pending ≡ [] → start.handler.on ≡ [] → start.handler.last ≡ 0
        → start.seats.arrivals.seen ≡ [] → (view_of start.seats).calls declared.number ≡ [] → last.seats.by ≡ 0 → IsKnown joined arriving last.seats → All (IsArrivedLent joined) (taken_of lease table locks period log)
        → IsGivenOn marks (view_of last.seats).calls (released_in (told_in lease table locks period scene log)) declared
    log_gives start last Begin begins pending on none nothing uncalled first known came = gives_nothing (view_of start.seats).calls uncalled
    log_gives start last (More {before} {after} log v) begins pending on none nothing uncalled first known came =
        let taken = taken_of lease table locks period log in
        let reports = reports_of lease table locks period scene log in
        let told_then = released_in (told_in lease table locks period scene log) in
        let known_then = known_before lease table locks period before after v joined arriving known in
        let first_then = sym v.caller ∙ first in
        let came_then = front_all (IsArrivedLent joined) taken v.arrived came in
        let came_now = back_all (IsArrivedLent joined) taken v.arrived came in
        let was = log_plays start before log begins pending on none nothing first_then known_then came_then in
        let has = log_takes lease table locks period arriving only start before log none nothing first_then known_then.arrivals in
        let lent = log_lent lease frames table locks period joined start before log pending on came_then in
        let goes = goes_lent lease frames table locks period joined before after v lent came_now in
        let zip = log_gives start before log begins pending on none nothing uncalled first_then known_then came_then in
        subst (λ (rs : List Released). IsGivenOn marks (view_of after.seats).calls rs declared)
        (sym (released_after before after v known first taken has lent came_now reports was.played))
        (all_given marks declared marked (home_of locks v.took) after.number lease frames joined v.decides.end.stage.gone v.told.releases (view_of (record v.took { turns = v.turns })) (view_of after.seats)
        told_then v.decides.settled.releases goes v.gives
        (subst (λ (cs : ℕ → List (Made B)). IsGivenOn marks cs told_then declared) (sym (calls_took lease table locks period before after v)) zip))

module _ {B : Type 0} (lease : Ghosts ReadLeaseOf SeatView ReadLeaseOf Issued) (table : TableId) (locks : Locks B) (period : ℕ) where
  -- each call of the compositor is a release
  pub log_releases : (start last : Sitting B) (log : Vsyncs lease table locks period start last) (queue : ℕ) → (view_of start.seats).calls queue ≡ [] → AreReleasesOn ((view_of last.seats).calls queue)
  log_releases start last Begin queue uncalled = subst AreReleasesOn (sym uncalled) (All-nil (λ (made : Made B). IsRelease made.call.1))
  log_releases start last (More {before} {after} log v) queue uncalled =
      all_releases (home_of locks v.took) after.number v.told.releases (view_of (record v.took { turns = v.turns })) (view_of after.seats) v.gives queue
      (subst (λ (cs : ℕ → List (Made B)). AreReleasesOn (cs queue)) (sym (calls_took lease table locks period before after v)) (log_releases start before log queue uncalled))

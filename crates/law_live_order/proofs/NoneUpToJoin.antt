-- No vsync of a run in threads passes over an arrival.
use Rattle.std.proofs.Common.{◌≡◌, ℕ, if◌then◌else◌, Bool, true, false, List, [], ◌∷◌, ◌++◌, map, refl, sym, ◌∙◌, subst}
use Rattle.std.specs.List.{All}
use Rattle.std.proofs.lemmas.List.{append-nil, map-append}
use Rattle.atomic_table.specs.Seated.{TableId}
use Rattle.law_rounds.specs.law_waits.Leaving.{LeavesNone}
use Rattle.law_rounds.proofs.LeavingOn.{leaves_on, still_none}
use Rattle.law_threads.specs.sf_calls_stamped.Stamps.{unstamped}
use Rattle.law_threads.specs.sf_surface.Tokens.{Issued, ReadLeaseOf}
use Rattle.law_threads.specs.sf_token.Pending.{Arrival, IsRisingFrom}
use Rattle.law_threads.specs.sf_turns.Views.{SeatView}
use Rattle.law_threads.specs.sf_txn.declared.lease.Lease.{Ghosts}
use Rattle.law_threads.specs.sf_commit.Handlers.{last_of}
use Rattle.law_threads.specs.sf_script_scene.Scene.{SceneValue}
use Rattle.law_threads.specs.sf_actor.Desks.{DeskView}
use Rattle.law_threads.specs.sf_actor.Known.{frame_of, plain_arrival}
use Rattle.law_threads.specs.sf_actor.Names.{FrameOf}
use Rattle.law_threads.specs.sf_actor.Plain.{PlainOf, home_of as plain_home, view_of as plain_view}
use Rattle.law_threads.specs.sf_actor.Written.{FrameNumber}
use Rattle.law_threads.specs.sf_record.declared.event.VsyncRecords.{VsyncRecords}
use Rattle.law_threads.proofs.law_played_lemmas.LeaseLemmas.{plain_frame}
use Rattle.law_threads.specs.law_played.Progress.{HasPlayed, SaysVsync}
use Rattle.law_threads.specs.law_played.Runs.{written_in}
use Rattle.law_threads.specs.law_played.Stages.{told_from, told_of}
use Rattle.law_threads.specs.law_rights.Standing.{LedgerStands}
use Rattle.law_threads.specs.Joining.{of_at}
use Rattle.law_threads.specs.sf_play_report.Reports.{has_commits}
use Rattle.law_threads.specs.sf_live_seats.declared.locks.Locks.{Locks}
use Rattle.law_threads.specs.sf_live_seats.Arriving.{ArrivalCalls}
use Rattle.law_threads.specs.sf_live_threads.Walks.{Moment}
use Rattle.law_threads.specs.sf_live_compositor.Vsyncs.{Begin, IsVsync, More, Sitting, Vsyncs}
use Rattle.law_threads.specs.sf_play.Players.{PlayOf, run_so, taken_at, told_at}
use Rattle.law_threads.specs.sf_play.Showing.{vsync_shown}
use Rattle.law_threads.proofs.sf_play_lemmas.HandlerLeases.{IsArrivedLent, OfFrames}
use Rattle.law_joins.specs.Joined.{IsJoined, player_joined, so_joined}
use Rattle.law_joins.specs.Logs.{HasTaken, IsKnown, KnowsSteps, KnowsWritten, OnlyFirstTakes, came_in, reports_of, taken_of, told_in}
use Rattle.law_joins.proofs.Fronts.{known_before}
use Rattle.law_joins.proofs.Lends.{front_all}
use Rattle.law_joins.proofs.PlayerAtJoin.{begins_played, came, first_by, known, none_last, none_on, none_pending, only, steps, taken_are, told_are, wrote}
use Rattle.law_joins.proofs.Plays.{log_plays}
use Rattle.law_joins.proofs.Sights.{says_seen}
use Rattle.law_joins.proofs.Takes.{log_takes, takes_rise, vsync_takes}
use Rattle.law_joins.proofs.WritesAtJoin.{KnowsByCounts}

module _ {B : Type 0} (lease : Ghosts ReadLeaseOf SeatView ReadLeaseOf Issued) (frames : OfFrames lease) (table : TableId) (locks : Locks B) (period : ℕ) (scene : SceneValue) (same_period : period ≡ scene.period)
    (joined : DeskView B) (arriving : ArrivalCalls) (only_first : OnlyFirstTakes arriving) (made : List (ℕ × ℕ)) (knows : KnowsSteps scene joined.times made)
    (written : List FrameNumber) (knows_written : KnowsWritten lease joined written) where
  plain : (a b : ReadLeaseOf) → lease.plain a ≡ lease.plain b → frame_of a ≡ frame_of b
  plain a b same = plain_frame a b (frames.plain a b same)

  -- a vsync that follows what was played so far
  module _ (before after : Sitting B) (v : IsVsync lease table locks period before after) (knew : IsKnown joined arriving after.seats) (first : after.seats.by ≡ 0)
      (taken : List (Arrival ReadLeaseOf)) (has : HasTaken before.handler (unstamped before.seats.arrivals.seen) taken)
      (reports : List VsyncRecords) (played : HasPlayed frame_of scene written (map plain_arrival taken) reports before.handler) (none : LeavesNone (map plain_arrival taken) (told_of scene (map plain_arrival taken) reports)) where
    rises : IsRisingFrom before.handler.last v.arrived (last_of before.handler.last v.arrived)
    rises = subst (λ (n : ℕ). IsRisingFrom n v.arrived (last_of n v.arrived)) (sym has.last)
        (takes_rise (unstamped before.seats.arrivals.seen) v.arrived (unstamped after.seats.arrivals.seen)
        (vsync_takes lease table locks period arriving only_first before after v first knew.arrivals))

    abbrev report : VsyncRecords
    report = vsync_shown scene after.number v.expected v.seen v.told.commits after.handler.tree

    says : SaysVsync report v.told v.seen v.expected
    says = record { commits = refl; due = refl; saw = says_seen lease table locks period scene same_period joined.times made knows before after v knew.shown }

    abbrev all : List (Arrival FrameOf)
    all = map plain_arrival taken ++ map plain_arrival v.arrived

    abbrev shown : Bool → List VsyncRecords
    shown b = if b then report ∷ [] else []

    by_shown : (b : Bool) → LeavesNone all (told_of scene all (reports ++ shown b))
    by_shown true = leaves_on lease frame_of plain scene written (map plain_arrival taken) reports before.handler after.handler v.took.turns v.turns v.arrived v.seen v.expected v.told played v.decides rises none report says
    by_shown false = subst (λ (rs : List VsyncRecords). LeavesNone all (told_of scene all rs)) (sym (append-nil reports))
        (still_none lease frame_of plain scene written (map plain_arrival taken) reports before.handler after.handler v.took.turns v.turns v.arrived v.seen v.expected v.told played v.decides rises none)

    none_after : LeavesNone (map plain_arrival (taken ++ v.arrived)) (told_of scene (map plain_arrival (taken ++ v.arrived)) (reports ++ shown (has_commits v.told.commits)))
    none_after = subst (λ (xs : List (Arrival FrameOf)). LeavesNone xs (told_of scene xs (reports ++ shown (has_commits v.told.commits)))) (sym (map-append plain_arrival taken v.arrived)) (by_shown (has_commits v.told.commits))

  none_made : LeavesNone [] (told_of scene [] [])
  unfolding told_from
  none_made = tt

  -- all along a log
  pub log_leaves_none : (start last : Sitting B) (log : Vsyncs lease table locks period start last) → HasPlayed frame_of scene written [] [] start.handler → start.handler.pending ≡ [] → start.handler.on ≡ [] → start.handler.last ≡ 0
      → start.seats.arrivals.seen ≡ [] → last.seats.by ≡ 0 → IsKnown joined arriving last.seats → All (IsArrivedLent joined) (taken_of lease table locks period log)
      → LeavesNone (came_in lease table locks period scene log) (told_in lease table locks period scene log)
  log_leaves_none start last Begin begins pending on none nothing first knew lent = none_made
  log_leaves_none start last (More {before} {after} log v) begins pending on none nothing first knew lent =
      let taken = taken_of lease table locks period log in
      let knew_then = known_before lease table locks period before after v joined arriving knew in
      let first_then = sym v.caller ∙ first in
      let lent_then = front_all (IsArrivedLent joined) taken v.arrived lent in
      let was = log_plays lease frames table locks period scene same_period joined arriving only_first made knows written knows_written start before log begins pending on none nothing first_then knew_then lent_then in
      let has = log_takes lease table locks period arriving only_first start before log none nothing first_then knew_then.arrivals in
      none_after before after v knew first taken has (reports_of lease table locks period scene log) was.played
      (log_leaves_none start before log begins pending on none nothing first_then knew_then lent_then)

module _ {B : Type 0} (lease : Ghosts ReadLeaseOf SeatView ReadLeaseOf Issued) (scene : SceneValue) (table : TableId) (period most : ℕ) (locks : Locks B) (last : Sitting B) (ends : List (Moment B)) (desk : PlainOf B)
    (is : IsJoined lease scene table period most locks last ends desk) (frames : OfFrames lease) (by_counts : KnowsByCounts lease) (ledger : LedgerStands table.slots (plain_home desk) (plain_view desk) (map of_at ends) last.handler) where
  abbrev play : PlayOf B
  play = (player_joined scene ends desk last).play

  -- up to where a player goes on
  pub none_up_to_join : LeavesNone (taken_at play) (told_at scene (so_joined lease scene table period most locks last ends desk is) play)
  none_up_to_join =
      let run = run_so (so_joined lease scene table period most locks last ends desk is) play in
      subst (λ (xs : List (Arrival FrameOf)). LeavesNone xs (told_at scene (so_joined lease scene table period most locks last ends desk is) play)) (sym (taken_are lease scene table period most locks last ends desk is))
      (subst (LeavesNone (came_in lease table locks period scene is.joins.log)) (sym (told_are lease scene table period most locks last ends desk is))
      (log_leaves_none lease frames table locks period scene is.same_period (plain_view desk) desk.arrivals (only lease scene table period most locks last ends desk is) _ (steps lease scene table period most locks last ends desk is)
      (written_in scene run) (wrote lease scene table period most locks last ends desk is frames by_counts ledger) is.joins.begins last is.joins.log
      (begins_played lease scene table period most locks last ends desk is frames by_counts ledger) (none_pending lease scene table period most locks last ends desk is) (none_on lease scene table period most locks last ends desk is)
      (none_last lease scene table period most locks last ends desk is) is.joins.nothing.arrivals (first_by lease scene table period most locks last ends desk is) (known lease scene table period most locks last ends desk is)
      (came lease scene table period most locks last ends desk is)))

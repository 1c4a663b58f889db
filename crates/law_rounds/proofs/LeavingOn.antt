-- A vsync that a handler makes leaves nobody behind, nor did those before it, once more has arrived.
use Rattle.std.proofs.Common.{◌≡◌, ℕ, List, [], ◌∷◌, ◌++◌, map, None, refl, ap, sym, ◌∙◌, subst}
use Rattle.std.proofs.lemmas.List.{map-append}
use Rattle.std.proofs.lemmas.List.Elements.{All-nil}
use Rattle.sf_base.specs.declared.fences.Seen.{Seen}
use Rattle.sf_play.specs.sf_commit.Handlers.{Decides, HandlerOf, begun as begun_by, last_of}
use Rattle.sf_play.specs.sf_commit.Releases.{CommittedOf}
use Rattle.sf_play.specs.sf_commit.Rounds.{IsNext, Round}
use Rattle.sf_play.specs.sf_actor.Names.{FrameOf}
use Rattle.sf_play.specs.sf_actor.Written.{FrameNumber}
use Rattle.sf_play.specs.sf_record.declared.event.VsyncRecords.{VsyncRecords}
use Rattle.sf_play.specs.sf_record.declared.record.CommitRecord.{CommitRecord}
use Rattle.sf_play.specs.sf_script_scene.Scene.{SceneValue}
use Rattle.sf_play.specs.sf_token.Pending.{Arrival, IsRisingFrom}
use Rattle.sf_play.specs.sf_play_report.sf_txn.declared.lease.Lease.{Ghosts}
use Rattle.sf_play.proofs.law_played_lemmas.FramingLemmas.{arrivals_looked}
use Rattle.sf_play.proofs.law_played_lemmas.HoldLemmas.{decides_same}
use Rattle.sf_play.proofs.law_played_lemmas.OrderLemmas.{all_left, order_more, rising_framed, waiting_found}
use Rattle.sf_play.proofs.law_played_lemmas.PathLemmas.{WaitsAfter, commits_along, round_along, told_along, waits_along}
use Rattle.sf_play.proofs.law_played_lemmas.StageLemmas.{commits_more, told_stays, vsync_at}
use Rattle.sf_play.specs.law_played.Commits.{commit_shown, seen_by}
use Rattle.sf_play.specs.law_played.Framing.{IsRoundOf, framed_arrival}
use Rattle.sf_play.specs.law_played.Holds.{uncommitted}
use Rattle.sf_play.specs.law_played.Progress.{AreInOrder, HasPlayed, SaysVsync}
use Rattle.sf_play.specs.law_played.Stages.{VsyncAt, bare_round, begun, round_after, round_at_end, told_of}
use Rattle.sf_play.specs.law_played.Vsyncs.{commits_in}
use Rattle.law_waits.specs.Leaving.{LeavesNone, LeavesNoneAt}
use Rattle.law_waits.proofs.LeavingLemmas.{IsUpTo, commits_low, none_arrived, none_more}
use Rattle.law_waits.proofs.LeavingVsync.{leaves_none}

-- More that arrives later leaves nobody of what was there behind.
module _ (scene : SceneValue) (arrivals more : List (Arrival FrameOf)) (vsyncs : List VsyncRecords) (last later : ℕ) (order : AreInOrder arrivals last (commits_in vsyncs)) (rises : IsRisingFrom last more later) where
  pub told_same : told_of scene (arrivals ++ more) vsyncs ≡ told_of scene arrivals vsyncs
  told_same = told_stays arrivals more (bare_round scene) vsyncs order.of_arrivals

  pub none_with_more : LeavesNone arrivals (told_of scene arrivals vsyncs) → LeavesNone (arrivals ++ more) (told_of scene (arrivals ++ more) vsyncs)
  none_with_more none = subst (LeavesNone (arrivals ++ more)) (sym told_same)
      (none_arrived arrivals more last later rises (bare_round scene) [] vsyncs (All-nil (IsUpTo last)) (commits_low arrivals last (commits_in vsyncs) order.rising order.of_arrivals) none)

module _ {L E R C : Type 0} (lease : Ghosts L E R C) (frame : L → FrameOf) (plain : (a b : L) → lease.plain a ≡ lease.plain b → frame a ≡ frame b)
    (scene : SceneValue) (written : List FrameNumber) (arrivals : List (Arrival FrameOf)) (vsyncs : List VsyncRecords) (old new : HandlerOf L) (eye later : E)
    (arrived : List (Arrival L)) (seen : Seen) (expected : ℕ) (told : CommittedOf L)
    (played : HasPlayed frame scene written arrivals vsyncs old) (d : Decides lease old eye arrived seen expected told new later)
    (rises : IsRisingFrom old.last arrived (last_of old.last arrived)) (none : LeavesNone arrivals (told_of scene arrivals vsyncs)) where
  abbrev more : List (Arrival FrameOf)
  more = map (framed_arrival frame) arrived

  abbrev all : List (Arrival FrameOf)
  all = arrivals ++ more

  abbrev last : ℕ
  last = last_of old.last arrived

  abbrev commits : List CommitRecord
  commits = commits_in vsyncs

  abbrev before : Round FrameOf
  before = round_at_end (bare_round scene) (told_of scene arrivals vsyncs)

  abbrev start : Round L
  start = begun_by old d.looked

  abbrev made : List CommitRecord
  made = map commit_shown (told_along start d.decided.taken)

  more_rise : IsRisingFrom old.last more last
  more_rise = rising_framed frame old.last arrived last rises

  order : AreInOrder all last commits
  order = order_more arrivals more old.last last commits played.order more_rise

  waits : map (framed_arrival frame) d.looked ≡ uncommitted all commits
  waits =
      arrivals_looked lease frame plain (old.pending ++ arrived) d.looked d.looks
      ∙ (map-append (framed_arrival frame) old.pending arrived
      ∙ (ap (λ xs. xs ++ more) played.waits
      ∙ sym (all_left arrivals more old.last last commits played.order more_rise)))

  starts : IsRoundOf frame (begun before) start
  starts = record {
    stage = λ i. record { tree = played.round.tree i; on = played.round.on i; commits = []; gone = [] };
    frames = played.round.frames;
    fresh = refl;
  }

  waits_then : WaitsAfter frame lease.shown seen expected all last (commits ++ made) d.end.pending
  waits_then = waits_along frame lease.shown seen expected all last start d.end d.decided.taken commits d.decided.leads (record { order = order; waits = waits })

  stays : told_of scene all vsyncs ≡ told_of scene arrivals vsyncs
  stays = told_same scene arrivals more vsyncs old.last last played.order more_rise

  -- those before it leave nobody behind of all that has arrived
  pub still_none : LeavesNone all (told_of scene all vsyncs)
  still_none = none_with_more scene arrivals more vsyncs old.last last played.order more_rise none

  -- nor does it, if it is told
  module _ (report : VsyncRecords) (says : SaysVsync report told seen expected) where
    abbrev at : VsyncAt
    at = vsync_at all before report

    report_is : report.commits ≡ made
    report_is = says.commits ∙ ap (map commit_shown) (d.settled.commits ∙ commits_along lease.shown seen expected start d.end d.decided.taken d.decided.leads)

    ends_at : IsRoundOf frame (round_after all (begun before) report.commits) d.end
    ends_at = subst (λ cs. IsRoundOf frame (round_after all (begun before) cs) d.end) (sym report_is)
        (round_along frame all lease.shown seen expected (begun before) start d.end d.decided.taken starts (waiting_found frame all last commits d.looked order.rising waits) d.decided.leads)

    rests : IsNext lease.shown (seen_by report) report.expected d.end None
    rests = subst (λ s. IsNext lease.shown s report.expected d.end None) (sym says.saw) (subst (λ e. IsNext lease.shown seen e d.end None) (sym says.due) d.decided.rests)

    none_at : LeavesNoneAt all (commits ++ made) at
    none_at = leaves_none frame lease.shown all last (commits ++ made) at d.end (decides_same frame (round_after all (begun before) report.commits) d.end ends_at) order.rising waits_then.waits rests

    pub leaves_on : LeavesNone all (told_of scene all (vsyncs ++ report ∷ []))
    leaves_on =
        none_more all (bare_round scene) [] vsyncs report still_none
        (subst (λ (cs : List CommitRecord). LeavesNoneAt all cs (vsync_at all (round_at_end (bare_round scene) (told_of scene all vsyncs)) report)) (sym (commits_more vsyncs report ∙ ap (λ cs. commits ++ cs) report_is))
        (subst (λ (ts : List VsyncAt). LeavesNoneAt all (commits ++ made) (vsync_at all (round_at_end (bare_round scene) ts) report)) (sym stays) none_at))

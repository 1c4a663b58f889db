-- One vsync of a handler more: a run has come further.
use Rattle.std.proofs.Common.{◌≡◌, ℕ, ◌+◌, ◌*◌, false, List, [], ◌∷◌, ◌++◌, map, None, refl, ap, sym, ◌∙◌, subst}
use Rattle.std.specs.List.{All, AllZip}
use Rattle.std.proofs.lemmas.List.{append-nil, map-append}
use Rattle.std.proofs.lemmas.List.Elements.{All-append, All-cons, All-nil}
use Rattle.sf_base.specs.declared.fences.Seen.{Seen}
use Rattle.sf_commit.specs.sf_ready.Facts.{is_met}
use Rattle.sf_commit.specs.sf_ready.declared.hold.Hold.{Hold}
use Rattle.sf_commit.specs.sf_token.Pending.{Arrival, IsRisingFrom}
use Rattle.sf_commit.specs.sf_txn.declared.lease.Lease.{Ghosts}
use Rattle.sf_commit.specs.Handlers.{Decides, HandlerOf, begun as begun_by, last_of}
use Rattle.sf_commit.specs.Leases.{IsReleaseOf}
use Rattle.sf_commit.specs.OnLayers.{shown_on}
use Rattle.sf_commit.specs.Releases.{ReleaseOf, CommittedOf}
use Rattle.sf_commit.specs.Rounds.{IsNext, Leads, Round, held}
use Rattle.sf_script_scene.specs.Scene.{SceneValue}
use Rattle.sf_actor.specs.Makers.{Run}
use Rattle.sf_actor.specs.Names.{FrameOf}
use Rattle.sf_actor.specs.Written.{FrameNumber}
use Rattle.sf_record.specs.declared.event.VsyncRecords.{VsyncRecords}
use Rattle.sf_record.specs.declared.record.CommitRecord.{CommitRecord}
use Rattle.law_played.proofs.DecidingLemmas.{IsWhole, LeadsTo, held_whole, leads_whole}
use Rattle.law_played.proofs.EndLemmas.{end_held}
use Rattle.law_played.proofs.FramingLemmas.{arrivals_looked, read_framed, read_twice}
use Rattle.law_played.proofs.OrderLemmas.{all_left, order_more, rising_filter, rising_framed, rising_unframed, waiting_found}
use Rattle.law_played.proofs.PathLemmas.{IsFound, WaitsAfter, commits_along, ready_told, round_along, told_along, waits_along}
use Rattle.law_played.proofs.StageLemmas.{commits_more, end_more, told_more, told_stays, vsync_at}
use Rattle.law_played.specs.Commits.{CommitsReady, SaysResults, commit_shown, is_written}
use Rattle.law_played.specs.Framing.{IsKeptBy, IsRoundOf, framed_arrival, framed_on}
use Rattle.law_played.specs.Holds.{AreHeld, is_uncommitted, uncommitted}
use Rattle.law_played.specs.Progress.{AreInOrder, GoesOnBy, HasPlayed, SaysVsync, ShowsWhatIsWritten, WroteWhatShows, held_shown, is_time}
use Rattle.law_played.specs.Stages.{VsyncAt, bare_round, begun, ended, round_after, round_at_end, told_of}
use Rattle.law_played.specs.Runs.{final_values, written_in}
use Rattle.law_played.specs.Vsyncs.{commits_in}
use Rattle.law_played.specs.RunStates.{IsPlaysVsync, round_now}

module _ {L E R C : Type 0} (lease : Ghosts L E R C) (frame : L → FrameOf) (plain : (a b : L) → lease.plain a ≡ lease.plain b → frame a ≡ frame b)
    (scene : SceneValue) (written : List FrameNumber) (arrivals : List (Arrival FrameOf)) (vsyncs : List VsyncRecords) (old new : HandlerOf L) (eye later : E)
    (arrived : List (Arrival L)) (seen : Seen) (expected : ℕ) (told : CommittedOf L)
    (played : HasPlayed frame scene written arrivals vsyncs old) (d : Decides lease old eye arrived seen expected told new later)
    (rises : IsRisingFrom old.last arrived (last_of old.last arrived)) where
  -- all that arrived, and the commits before
  abbrev all : List (Arrival FrameOf)
  all = arrivals ++ map (framed_arrival frame) arrived

  abbrev last : ℕ
  last = last_of old.last arrived

  abbrev commits : List CommitRecord
  commits = commits_in vsyncs

  -- the round before, of the records and of the handler, and what this vsync committed
  abbrev before : Round FrameOf
  before = round_at_end (bare_round scene) (told_of scene arrivals vsyncs)

  abbrev start : Round L
  start = begun_by old d.looked

  abbrev made : List CommitRecord
  made = map commit_shown (told_along start d.decided.taken)

  order : AreInOrder all last commits
  order = order_more arrivals (map (framed_arrival frame) arrived) old.last last commits played.order (rising_framed frame old.last arrived last rises)

  waits : map (framed_arrival frame) d.looked ≡ uncommitted all commits
  waits =
      arrivals_looked lease frame plain (old.pending ++ arrived) d.looked d.looks
      ∙ (map-append (framed_arrival frame) old.pending arrived
      ∙ (ap (λ xs. xs ++ map (framed_arrival frame) arrived) played.waits
      ∙ sym (all_left arrivals (map (framed_arrival frame) arrived) old.last last commits played.order (rising_framed frame old.last arrived last rises))))

  found : All (IsFound frame all) d.looked
  found = waiting_found frame all last commits d.looked order.rising waits

  starts : IsRoundOf frame (begun before) start
  starts = record {
    stage = λ i. record { tree = played.round.tree i; on = played.round.on i; commits = []; gone = [] };
    frames = played.round.frames;
    fresh = refl;
  }

  -- the records of its commits
  ends_with : d.end.stage.commits ≡ told_along start d.decided.taken
  ends_with = commits_along lease.shown seen expected start d.end d.decided.taken d.decided.leads

  made_is : map commit_shown told.commits ≡ made
  made_is = ap (map commit_shown) (d.settled.commits ∙ ends_with)

  ends : IsRoundOf frame (round_after all (begun before) made) d.end
  ends = round_along frame all lease.shown seen expected (begun before) start d.end d.decided.taken starts found d.decided.leads

  waits_then : WaitsAfter frame lease.shown seen expected all last (commits ++ made) d.end.pending
  waits_then = waits_along frame lease.shown seen expected all last start d.end d.decided.taken commits d.decided.leads (record { order = order; waits = waits })

  new_order : AreInOrder all new.last (commits ++ made)
  new_order = subst (λ n. AreInOrder all n (commits ++ made)) (sym (ap (λ (h : HandlerOf L). h.last) d.settled.state)) waits_then.order

  new_waits : map (framed_arrival frame) new.pending ≡ uncommitted all (commits ++ made)
  new_waits = ap (λ (h : HandlerOf L). map (framed_arrival frame) h.pending) d.settled.state ∙ waits_then.waits

  -- what a vsync ends with is what the handler keeps
  keeps : (round : Round FrameOf) → IsRoundOf frame round d.end → IsKeptBy frame (ended round) new
  keeps round is = record {
    tree = ap (λ s. s.tree) is.stage ∙ sym (ap (λ (h : HandlerOf L). h.tree) d.settled.state);
    on = ap (λ s. map shown_on s.on) is.stage ∙ (read_framed frame d.end.stage.on ∙ sym (ap (λ (h : HandlerOf L). map (framed_on frame) h.on) d.settled.state));
    read = read_twice round.stage.on;
    frames = λ barrier. is.frames barrier ∙ sym (d.settled.frames barrier);
  }

  stays : told_of scene all vsyncs ≡ told_of scene arrivals vsyncs
  stays = told_stays arrivals (map (framed_arrival frame) arrived) (bare_round scene) vsyncs played.order.of_arrivals

  -- it is the next one of a play, where its looks showed what is written
  module _ (shows : ShowsWhatIsWritten frame lease.shown written d.looked) where
    abbrev play_start : Round FrameOf
    play_start = record (begun (round_at_end (bare_round scene) (told_of scene all vsyncs))) { pending = uncommitted all commits }

    starts_whole : IsWhole frame lease.shown written seen expected play_start start
    starts_whole = record {
      is = subst (λ (ts : List VsyncAt). IsRoundOf frame (record (begun (round_at_end (bare_round scene) ts)) { pending = uncommitted all commits }) start) (sym stays)
          (record { stage = starts.stage; frames = starts.frames; fresh = starts.fresh });
      waits = sym waits;
    }

    pub leads_play : LeadsTo frame lease.shown written seen expected play_start d.end
    leads_play = leads_whole frame lease.shown written seen expected play_start start d.end d.decided.taken starts_whole shows d.decided.leads d.decided.rests

    pub leaves_play : leads_play.to.stage.tree ≡ new.tree
    leaves_play = ap (λ s. s.tree) leads_play.whole.is.stage ∙ sym (ap (λ (h : HandlerOf L). h.tree) d.settled.state)

    pub commits_play : leads_play.to.stage.commits ≡ told.commits
    commits_play = ap (λ s. s.commits) leads_play.whole.is.stage ∙ sym d.settled.commits

    pub holds_play : held (is_written written) seen expected leads_play.to ≡ told.held
    holds_play = held_whole frame lease.shown written seen expected leads_play.to d.end leads_play.whole leads_play.shows ∙ sym d.settled.held

  -- a vsync whose record is told
  module _ (report : VsyncRecords) (says : SaysVsync report told seen expected) where
    abbrev at : VsyncAt
    at = vsync_at all before report

    pub told_is : told_of scene all (vsyncs ++ report ∷ []) ≡ told_of scene arrivals vsyncs ++ at ∷ []
    told_is =
        told_more all (bare_round scene) vsyncs report ∙ ap (λ (ts : List VsyncAt). ts ++ vsync_at all (round_at_end (bare_round scene) ts) report ∷ []) stays

    report_is : report.commits ≡ made
    report_is = says.commits ∙ made_is

    ends_at : IsRoundOf frame (round_after all (begun before) report.commits) d.end
    ends_at = subst (λ cs. IsRoundOf frame (round_after all (begun before) cs) d.end) (sym report_is) ends

    commits_then : commits_in (vsyncs ++ report ∷ []) ≡ commits ++ made
    commits_then = commits_more vsyncs report ∙ ap (λ cs. commits ++ cs) report_is

    says_results : SaysResults at
    says_results = says.commits ∙ ap (map commit_shown) (d.settled.commits ∙ sym (ap (λ s. s.commits) ends_at.stage))

    were_ready : WroteWhatShows frame lease.shown written d.looked → CommitsReady written at
    were_ready wrote =
        ready_told frame all lease.shown report written (begun before) start d.end d.decided.taken report.commits (record { is = starts; found = found; wrote = wrote })
        (subst (λ s. Leads lease.shown s report.expected start d.decided.taken d.end) (sym says.saw)
        (subst (λ e. Leads lease.shown seen e start d.decided.taken d.end) (sym says.due) d.decided.leads))
        report_is at.round

    pub goes_further : WroteWhatShows frame lease.shown written d.looked → HasPlayed frame scene written all (vsyncs ++ report ∷ []) new
    goes_further wrote = record {
      order = subst (AreInOrder all new.last) (sym commits_then) new_order;
      waits = new_waits ∙ ap (uncommitted all) (sym commits_then);
      round = subst (λ ts. IsKeptBy frame (round_at_end (bare_round scene) ts) new) (sym told_is)
          (subst (λ r. IsKeptBy frame r new) (sym (end_more (bare_round scene) (told_of scene arrivals vsyncs) at)) (keeps (round_after all (begun before) report.commits) ends_at));
      results = subst (All SaysResults) (sym told_is)
          (All-append SaysResults (told_of scene arrivals vsyncs) (at ∷ []) played.results (All-cons SaysResults at [] says_results (All-nil SaysResults)));
      ready = subst (All (CommitsReady written)) (sym told_is)
          (All-append (CommitsReady written) (told_of scene arrivals vsyncs) (at ∷ []) played.ready (All-cons (CommitsReady written) at [] (were_ready wrote) (All-nil (CommitsReady written))));
    }

    pub goes_on_by : GoesOnBy (told_of scene arrivals vsyncs) (told_of scene all (vsyncs ++ report ∷ [])) report new.tree (map (framed_on frame) d.end.stage.gone)
    goes_on_by = record {
      at = at;
      joined = told_is;
      report = refl;
      leaves = (keeps (round_after all (begun before) report.commits) ends_at).tree;
      goes = ap (λ s. s.gone) ends_at.stage;
    }

  -- a vsync that commits nothing has no record
  module _ (silent : told.commits ≡ []) where
    made_nothing : made ≡ []
    made_nothing = sym made_is ∙ ap (map commit_shown) silent

    commits_stay : commits ++ made ≡ commits
    commits_stay = ap (λ cs. commits ++ cs) made_nothing ∙ append-nil commits

    unfolded : round_after all (begun before) [] ≡ begun before
    unfolding round_after
    unfolded = refl

    ends_there : IsRoundOf frame (begun before) d.end
    ends_there = subst (λ r. IsRoundOf frame r d.end) (ap (round_after all (begun before)) made_nothing ∙ unfolded) ends

    pub goes_silently : HasPlayed frame scene written all vsyncs new
    goes_silently =
        let kept = keeps (begun before) ends_there in
        record {
          order = subst (AreInOrder all new.last) commits_stay new_order;
          waits = new_waits ∙ ap (uncommitted all) commits_stay;
          round = subst (λ ts. IsKeptBy frame (round_at_end (bare_round scene) ts) new) (sym stays) (record {
            tree = kept.tree;
            on = sym played.round.read ∙ kept.on;
            read = played.round.read;
            frames = kept.frames;
          });
          results = subst (All SaysResults) (sym stays) played.results;
          ready = subst (All (CommitsReady written)) (sym stays) played.ready;
        }

    ends_as : d.end ≡ start
    ends_as = by_taken d.decided.taken (sym (d.settled.commits ∙ ends_with) ∙ silent) d.decided.leads
      where
        by_taken : (taken : List (Arrival L)) → told_along start taken ≡ [] → Leads lease.shown seen expected start taken d.end → d.end ≡ start
        by_taken [] none leads = leads
        by_taken (a ∷ later) none leads = absurd (cons_is_not_nil none)
          where
            cons_is_not_nil : told_along start (a ∷ later) ≡ [] → ⊥
            cons_is_not_nil e = cc

    pub releases_nothing : told.releases ≡ []
    releases_nothing = by_gone told.releases (subst (λ (r : Round L). AllZip (IsReleaseOf lease) r.stage.gone told.releases) ends_as d.settled.releases)
      where
        by_gone : (releases : List (ReleaseOf L)) → AllZip (IsReleaseOf lease) [] releases → releases ≡ []
        by_gone [] zip = refl
        by_gone (r ∷ rs) zip = absurd zip

    pub tells_no_more : told_of scene all vsyncs ≡ told_of scene arrivals vsyncs
    tells_no_more = stays

    -- where no time holds anything, and looks showed what is written, what it told as held is held at the end
    pub end_is_held : All (λ (h : ℕ × Hold). is_time h.1 ≡ false) told.held → ShowsWhatIsWritten frame lease.shown written d.looked
        → AreHeld (record { written = written; frames = (round_at_end (bare_round scene) (told_of scene all vsyncs)).frames; values = seen }) (uncommitted all commits) (map held_shown told.held)
    end_is_held no_time shows =
        let told_is : told.held ≡ held lease.shown seen expected start = d.settled.held ∙ ap (held lease.shown seen expected) ends_as in
        let frames = (round_at_end (bare_round scene) (told_of scene all vsyncs)).frames in
        let rises_on = rising_unframed frame 0 d.looked last (subst (λ xs. IsRisingFrom 0 xs last) (sym waits) (rising_filter (is_uncommitted commits) 0 all last order.rising)) in
        subst (λ left. AreHeld (record { written = written; frames = frames; values = seen }) left (map held_shown told.held)) waits
        (subst (λ hs. AreHeld (record { written = written; frames = frames; values = seen }) (map (framed_arrival frame) d.looked) (map held_shown hs)) (sym told_is)
        (end_held frame lease.shown seen expected written frames start
        (subst (λ r. IsNext lease.shown seen expected r None) ends_as d.decided.rests) refl
        (λ barrier. ap (λ ts. is_met (round_at_end (bare_round scene) ts).frames barrier) stays ∙ played.round.frames barrier)
        last rises_on shows (subst (All (λ (h : ℕ × Hold). is_time h.1 ≡ false)) told_is no_time)))

-- what is told stays where more arrives
pub still_told : {L : Type 0} (frame : L → FrameOf) (scene : SceneValue) (written : List FrameNumber) (arrivals : List (Arrival FrameOf)) (vsyncs : List VsyncRecords) (handler : HandlerOf L)
    → HasPlayed frame scene written arrivals vsyncs handler → (more : List (Arrival FrameOf)) → told_of scene (arrivals ++ more) vsyncs ≡ told_of scene arrivals vsyncs
still_told frame scene written arrivals vsyncs handler played more = told_stays arrivals more (bare_round scene) vsyncs played.order.of_arrivals

-- the next vsync of a play
module _ {L E R C : Type 0} (lease : Ghosts L E R C) (frame : L → FrameOf) (plain : (a b : L) → lease.plain a ≡ lease.plain b → frame a ≡ frame b) where
  pub vsync_of_play : (scene : SceneValue) (run : Run) (number : ℕ) (arrivals : List (Arrival FrameOf)) (vsyncs : List VsyncRecords) (old new : HandlerOf L) (eye later : E)
      (arrived : List (Arrival L)) (told : CommittedOf L) → HasPlayed frame scene (written_in scene run) arrivals vsyncs old
      → (d : Decides lease old eye arrived (final_values scene run) ((number + 1) * scene.period) told new later) → IsRisingFrom old.last arrived (last_of old.last arrived)
      → ShowsWhatIsWritten frame lease.shown (written_in scene run) d.looked
      → IsPlaysVsync scene (record { run = run; arrivals = arrivals ++ map (framed_arrival frame) arrived; reports = vsyncs; vsyncs = number })
      told.commits new.tree (map (framed_on frame) d.end.stage.gone) told.held
  unfolding round_now
  vsync_of_play scene run number arrivals vsyncs old new eye later arrived told played d rises shows =
      let written = written_in scene run in
      let seen = final_values scene run in
      let expected = (number + 1) * scene.period in
      let leads = leads_play lease frame plain scene written arrivals vsyncs old new eye later arrived seen expected told played d rises shows in
      record {
        end = leads.to;
        decides = leads.decided;
        commits_are = commits_play lease frame plain scene written arrivals vsyncs old new eye later arrived seen expected told played d rises shows;
        leaves = leaves_play lease frame plain scene written arrivals vsyncs old new eye later arrived seen expected told played d rises shows;
        goes = ap (λ s. s.gone) leads.whole.is.stage;
        holds_are = holds_play lease frame plain scene written arrivals vsyncs old new eye later arrived seen expected told played d rises shows;
      }

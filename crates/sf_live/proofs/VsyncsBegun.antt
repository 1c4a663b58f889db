-- What a log of a compositor's vsyncs says of their records by itself, whether or not the threads are ever joined: a live run begins so.
use Rattle.std.proofs.Common.{◌≡◌, ℕ, zero, suc, ◌+◌, ◌*◌, ◌<◌, ◌≤◌, ◌==◌, ◌&&◌, ◌||◌, if◌then◌else◌, Bool, true, false, List, [], ◌∷◌, ◌++◌, map, Option, arith, refl, ap, sym, ◌∙◌, subst, inl, inr, ◌⊎◌, true≢false}
use Rattle.std.specs.Prelude.{pos}
use Rattle.std.specs.List.{All, AllZip, list_any, range_with_len}
use Rattle.std.proofs.lemmas.Bool.{cases_Bool, cases_eq, eq-eqb, ne_eqb}
use Rattle.std.proofs.lemmas.List.{append-nil, map-append}
use Rattle.std.proofs.lemmas.List.Elements.{All-cons, All-head, All-nil, All-tail, Contains-append_right}
use Rattle.std.proofs.lemmas.List.Folds.{list_any-append}
use Rattle.atomic_table.specs.Seated.{TableId}
use Rattle.law_live_order.proofs.law_joins_lemmas.Fronts.{arrivals_looked, times_after}
use Rattle.law_live_order.proofs.law_joins_lemmas.Plays.{no_commits}
use Rattle.law_live_order.proofs.law_joins_lemmas.Sights.{commits_shown, point_has}
use Rattle.sf_base.proofs.PointLemmas.{greatest-append, has_le}
use Rattle.sf_base.specs.Fences.{no_points, value_of}
use Rattle.sf_base.specs.Points.{greatest, points_from}
use Rattle.sf_base.specs.declared.fences.Seen.{Seen}
use Rattle.sf_live_compositor.specs.sf_actor.Names.{FrameOf}
use Rattle.sf_live_compositor.specs.sf_actor.Plain.{taken_in}
use Rattle.sf_live_compositor.specs.sf_actor.Scripts.{picture_at}
use Rattle.sf_live_compositor.specs.sf_actor.Written.{FrameNumber}
use Rattle.sf_live_compositor.specs.sf_calls_stamped.Stamps.{unstamped}
use Rattle.sf_live_compositor.specs.sf_commit.Handlers.{HandlerOf, last_of, new_handler}
use Rattle.sf_live_compositor.specs.sf_commit.Rounds.{Round}
use Rattle.sf_live_compositor.specs.sf_commit.declared.vsync.Commit.{Commit}
use Rattle.sf_live_compositor.specs.sf_live_seats.Arriving.{ArrivalsPass}
use Rattle.sf_live_compositor.specs.sf_live_seats.declared.locks.Locks.{Locks}
use Rattle.sf_live_compositor.specs.sf_output_plan.declared.plan.Plan.{Plan}
use Rattle.sf_live_compositor.specs.sf_output_plan.Due.{outputs_due}
use Rattle.sf_live_compositor.specs.sf_record.Events.{events_records}
use Rattle.sf_live_compositor.specs.sf_record.declared.event.Event.TheVariants as event
use Rattle.sf_live_compositor.specs.sf_record.declared.event.VsyncRecords.{VsyncRecords}
use Rattle.sf_live_compositor.specs.sf_record.declared.record.CommitRecord.{CommitRecord}
use Rattle.sf_live_compositor.specs.sf_record.declared.record.Record.{Record}
use Rattle.sf_live_compositor.specs.sf_surface.Tokens.{Issued, ReadLeaseOf}
use Rattle.sf_live_compositor.specs.sf_token.Pending.{Arrival}
use Rattle.sf_live_compositor.specs.sf_txn.Buffers.{Buffer}
use Rattle.sf_live_compositor.specs.sf_txn.declared.lease.Lease.{Ghosts}
use Rattle.law_live_order.specs.law_joins.law_threads.sf_times.declared.protocol.Knows.{Knows}
use Rattle.sf_live_compositor.specs.sf_record.sf_output.declared.output.Output.{Output}
use Rattle.sf_turns.specs.Views.{SeatView}
use Rattle.sf_picture.specs.declared.picture.Picture.{Picture}
use Rattle.sf_script_scene.specs.Limits.{most_layers}
use Rattle.sf_script_scene.specs.Scene.{SceneValue}
use Rattle.sf_live_compositor.specs.sf_play_report.Reports.{has_commits}
use Rattle.sf_live_compositor.specs.sf_play_report.Stages.{shows_frame}
use Rattle.sf_live_compositor.specs.sf_play.Showing.{vsync_shown}
use Rattle.sf_live_compositor.specs.sf_play_write.Vsyncs.{AreOutputsDue, AreSameOutputs, records_by, told_by, without_image}
use Rattle.sf_live_compositor.specs.sf_play_write.Writing.{Writes, WritesPart}
use Rattle.sf_live_compositor.proofs.sf_play_write_lemmas.VsyncLemmas.{other_images, zip_push}
use Rattle.sf_live_compositor.proofs.sf_play_write_lemmas.WritingLemmas.{part_more, part_none, writes_more, writes_none}
use Rattle.sf_live_compositor.specs.law_played.Commits.{SaysResults, commit_shown, is_written}
use Rattle.sf_live_compositor.specs.law_played.Frames.{ShowImages, ShowsImage, frame_of, is_done, plan_of, shown_after, shown_due}
use Rattle.sf_live_compositor.specs.law_played.Framing.{framed_arrival, framed_on}
use Rattle.sf_live_compositor.specs.law_played.Progress.{AreInOrder, HasPlayed, SaysVsync, WroteWhatShows}
use Rattle.sf_live_compositor.specs.law_played.Seeing.{HasSeen, TellsTime, value_shown}
use Rattle.sf_live_compositor.specs.law_played.Stages.{VsyncAt, bare_round, begun, commits_from, ended, round_after, told_from, told_of}
use Rattle.sf_live_compositor.specs.law_played.Vsyncs.{WasSignalled, commits_in, rising_timelines}
use Rattle.sf_live_compositor.proofs.law_played_lemmas.KeepingLemmas.{none_played}
use Rattle.sf_live_compositor.proofs.law_played_lemmas.LeaseLemmas.{images_go_on}
use Rattle.sf_live_compositor.proofs.law_played_lemmas.ProgressLemmas.{goes_further, goes_on_by, goes_silently, tells_no_more}
use Rattle.sf_live_compositor.proofs.law_played_lemmas.SeenLemmas.{seen_is}
use Rattle.sf_live_compositor.proofs.law_played_lemmas.VsyncLemmas.{none_seen, seen_more, seen_silently, seen_too}
use Rattle.sf_live_compositor.specs.Sitting.{CutsLog, IsFresh, WritesLog, showing_of}
use Rattle.sf_live_compositor.specs.Vsyncs.{Begin, IsVsync, More, Sitting, Vsyncs}
use Rattle.sf_live_compositor.proofs.TakenNumbers.{TakesRising, take_rises}
use Rattle.sf_live.specs.Runs.{BeginsLive, ShowsOutputs}
use Rattle.sf_live.proofs.Frames.{records_told}
use Rattle.sf_live.proofs.RoundLemmas.{records_more}
use Rattle.sf_live.proofs.VsyncReports.{shown_done}

-- One frame stands for that of each lease: of these nothing is said here. It counts as written.
abbrev any_frame : FrameOf
any_frame = (
  record { 0 = 0 },
  record {
    slot = record { 0 = 0 };
    frame = 0;
    held = record { number = 0; width = 0; height = 0 };
    picture = 0;
    crop = record { x = pos 0; y = pos 0; width = 0; height = 0 };
    fence = no_points;
  },
)

abbrev frame : ReadLeaseOf → FrameOf
frame lease = any_frame

abbrev all_written : List FrameNumber
all_written = (any_frame.0, any_frame.1.frame) ∷ []

all_of : {X : Type 0} (P : X → Type 0) (xs : List X) → ((x : X) → P x) → All P xs
all_of P [] each = All-nil P
all_of P (x ∷ xs) each = All-cons P x xs (each x) (all_of P xs each)

wrote_all : (shown : ReadLeaseOf → Bool) (looked : List (Arrival ReadLeaseOf)) → WroteWhatShows frame shown all_written looked
wrote_all shown looked =
    all_of (λ (a : Arrival ReadLeaseOf). All (λ (b : Buffer ReadLeaseOf). shown b.lease ≡ true → is_written all_written (frame b.lease) ≡ true) a.txn.buffers) looked
    (λ a. all_of (λ (b : Buffer ReadLeaseOf). shown b.lease ≡ true → is_written all_written (frame b.lease) ≡ true) a.txn.buffers (λ b is. refl))

-- a scene with all timelines, so that a vsync's record tells all that it saw
abbrev with_all : SceneValue → SceneValue
with_all scene = record scene { timelines = range_with_len 1 64 }

in_range : (a n t : ℕ) → a ≤ t → t < a + n → list_any (λ k. k == t) (range_with_len a n) ≡ true
in_range a zero t least most = absurd (omega (arith, least, most))
in_range a (suc n) t least most = by_place (in_range (a + 1) n t) (cases_eq a t)
  where
    by_place : (a + 1 ≤ t → t < a + 1 + n → list_any (λ k. k == t) (range_with_len (a + 1) n) ≡ true) → (a ≡ t) ⊎ (a ≡ t → ⊥)
        → ((a == t) || list_any (λ k. k == t) (range_with_len (a + 1) n)) ≡ true
    by_place rest (inl same) = rw (eq-eqb a t same) refl
    by_place rest (inr apart) = rw (ne_eqb a t apart) (rest (omega (arith, least, apart)) (omega (arith, most)))

-- the point of each timeline stands among those of all timelines
abbrev points_of : (ℕ → ℕ) → ℕ → ℕ → List (ℕ × ℕ)
points_of value a n = map (λ k. (k, value k)) (range_with_len a n)

in_points : (value : ℕ → ℕ) (a n t : ℕ) → a ≤ t → t < a + n → list_any (λ (s : ℕ × ℕ). (s.0 == t) && (s.1 == value t)) (points_of value a n) ≡ true
in_points value a zero t least most = absurd (omega (arith, least, most))
in_points value a (suc n) t least most = by_place (in_points value (a + 1) n t) (cases_eq a t)
  where
    by_place : (a + 1 ≤ t → t < a + 1 + n → list_any (λ (s : ℕ × ℕ). (s.0 == t) && (s.1 == value t)) (points_of value (a + 1) n) ≡ true) → (a ≡ t) ⊎ (a ≡ t → ⊥)
        → (((a == t) && (value a == value t)) || list_any (λ (s : ℕ × ℕ). (s.0 == t) && (s.1 == value t)) (points_of value (a + 1) n)) ≡ true
    by_place rest (inl same) = rw (eq-eqb a t same) (rw (eq-eqb (value a) (value t) (ap value same)) refl)
    by_place rest (inr apart) = rw (ne_eqb a t apart) (rest (omega (arith, least, apart)) (omega (arith, most)))

-- what was seen stands among signals that have it
seen_there : (signals : List (ℕ × ℕ)) (seen : Seen) (t : ℕ) → 1 ≤ t → t ≤ 64 → WasSignalled (points_of (value_of seen.values) 1 64 ++ signals) (value_shown seen t)
seen_there signals seen t low high =
    let here = in_points (value_of seen.values) 1 64 t low (omega (arith, high)) in
    let any : list_any (λ (s : ℕ × ℕ). (s.0 == t) && (s.1 == value_of seen.values t)) (points_of (value_of seen.values) 1 64 ++ signals) ≡ true =
    list_any-append (λ (s : ℕ × ℕ). (s.0 == t) && (s.1 == value_of seen.values t)) (points_of (value_of seen.values) 1 64) signals
    ∙ ap (λ (b : Bool). b || list_any (λ (s : ℕ × ℕ). (s.0 == t) && (s.1 == value_of seen.values t)) signals) here in
    elim (cases_Bool (value_of seen.values t == 0)) [
      | inl met ↦ rw met refl
      | inr unmet ↦ rw unmet any
    ]

-- the plan of a scene asks for no timeline
plan_same : (scene : SceneValue) → plan_of (with_all scene) ≡ plan_of scene
unfolding plan_of
plan_same scene = refl

due_shown : (pictures : ℕ → Picture) (plan : Plan) (commits : List Commit) (after : HandlerOf ReadLeaseOf)
    → AreSameOutputs (if shows_frame commits then shown_due pictures plan after.tree.layers else []) (if shows_frame commits then outputs_due plan after.tree.layers else [])
unfolding shown_due
due_shown pictures plan commits after = by_shows (shows_frame commits)
  where
    by_shows : (b : Bool) → AreSameOutputs (if b then shown_due pictures plan after.tree.layers else []) (if b then outputs_due plan after.tree.layers else [])
    by_shows true = other_images (frame_of pictures) (outputs_due plan after.tree.layers)
    by_shows false = refl

-- two vsyncs with the same commits that show the same outputs
record Like (told vsync : VsyncRecords) : Type 0 where
  commits : told.commits ≡ vsync.commits
  outputs : AreSameOutputs told.shown vsync.shown

same_commits : (told vsyncs : List VsyncRecords) → AllZip Like told vsyncs → commits_in told ≡ commits_in vsyncs
unfolding commits_in
same_commits [] [] like = refl
same_commits [] (v ∷ vs) like = absurd like
same_commits (t ∷ ts) [] like = absurd like
same_commits (t ∷ ts) (v ∷ vs) like = (λ i. like.0.commits i ++ same_commits ts vs like.1 i)

-- commits have the same results in both, and what is shown of one is shown of the other, whichever its pixels
module _ (scene : SceneValue) (arrivals : List (Arrival FrameOf)) where
  abbrev end_of : Round FrameOf → List CommitRecord → Round FrameOf
  end_of round commits = ended (round_after arrivals (begun round) commits)

  abbrev at : Round FrameOf → VsyncRecords → VsyncAt
  at round vsync = record { vsync = vsync; commits = commits_from arrivals (begun round) vsync.commits; round = end_of round vsync.commits }

  abbrev SaysAll : Round FrameOf → List VsyncRecords → Type 0
  SaysAll round vsyncs = All SaysResults (told_from arrivals round vsyncs)

  abbrev ShowsAll : Round FrameOf → List VsyncRecords → Type 0
  ShowsAll round vsyncs = All (ShowsImage (with_all scene)) (told_from arrivals round vsyncs)

  shows_outputs : (round : Round FrameOf) (t v : VsyncRecords) → Like t v → ShowsImage (with_all scene) (at round t) → ShowsOutputs scene (at round v)
  shows_outputs round t v like shows =
      let tree = (end_of round t.commits).stage.tree in
      let is : t.shown ≡ shown_after scene t.commits tree =
      shows ∙ ap (λ (plan : Plan). if list_any is_done t.commits then shown_due (picture_at scene.pictures) plan tree.layers else []) (plan_same scene) in
      subst (λ (commits : List CommitRecord). AreSameOutputs (shown_after scene commits (end_of round commits).stage.tree) v.shown) like.commits
      (sym (ap (map without_image) is) ∙ like.outputs)

  likewise : (told vsyncs : List VsyncRecords) (round : Round FrameOf) → AllZip Like told vsyncs → SaysAll round told → ShowsAll round told
      → SaysAll round vsyncs × All (ShowsOutputs scene) (told_from arrivals round vsyncs)
  unfolding told_from
  likewise [] [] round like results shows = (All-nil SaysResults, All-nil (ShowsOutputs scene))
  likewise [] (v ∷ vs) round like results shows = absurd like
  likewise (t ∷ ts) [] round like results shows = absurd like
  likewise (t ∷ ts) (v ∷ vs) round like results shows =
      let end = end_of round t.commits in
      let same = ap (end_of round) like.0.commits in
      let rest = likewise ts vs (end_of round v.commits) like.1
      (subst (λ (r : Round FrameOf). SaysAll r ts) same (All-tail SaysResults (at round t) (told_from arrivals end ts) results))
      (subst (λ (r : Round FrameOf). ShowsAll r ts) same (All-tail (ShowsImage (with_all scene)) (at round t) (told_from arrivals end ts) shows)) in (
        All-cons SaysResults (at round v) (told_from arrivals (end_of round v.commits) vs)
            (subst (λ (commits : List CommitRecord). commits ≡ map commit_shown (end_of round commits).stage.commits) like.0.commits
            (All-head SaysResults (at round t) (told_from arrivals end ts) results))
            rest.0,
        All-cons (ShowsOutputs scene) (at round v) (told_from arrivals (end_of round v.commits) vs)
            (shows_outputs round t v like.0 (All-head (ShowsImage (with_all scene)) (at round t) (told_from arrivals end ts) shows))
            rest.1,
      )

no_images : (scene : SceneValue) → ShowImages scene (told_of scene [] [])
unfolding told_from
no_images scene = All-nil (ShowsImage scene)

-- no vsync has no records
pub no_records : events_records (map event.Vsync []) ≡ []
unfolding events_records
no_records = refl

module _ {B : Type 0} (lease : Ghosts ReadLeaseOf SeatView ReadLeaseOf Issued) (table : TableId) (locks : Locks B) (period : ℕ) (scene : SceneValue) where
  abbrev Vsync : Sitting B → Sitting B → Type 0
  Vsync before after = IsVsync lease table locks period before after

  -- what is so of a compositor of which these vsyncs were told
  record Begun (last : Sitting B) (vsyncs : List VsyncRecords) : Type 0 where
    signals : List (ℕ × ℕ)
    seen : Seen
    has : HasSeen scene signals vsyncs last.number seen
    within : (t : ℕ) → 1 ≤ t → t ≤ 64 → value_of seen.values t ≤ greatest t last.seats.times.knows.known
    known : last.handler.last ≤ taken_in (unstamped last.seats.arrivals.seen)
    arrivals : List (Arrival FrameOf)
    told : List VsyncRecords
    played : HasPlayed frame (with_all scene) all_written arrivals told last.handler
    images : ShowImages (with_all scene) (told_of (with_all scene) arrivals told)
    like : AllZip Like told vsyncs

  begins_live : (last : Sitting B) (vsyncs : List VsyncRecords) → Begun last vsyncs → BeginsLive scene vsyncs
  begins_live last vsyncs b =
      let both = likewise scene b.arrivals b.told vsyncs (bare_round scene) b.like b.played.results b.images in
      record {
        signals = b.signals;
        are = b.has.are;
        arrivals = b.arrivals;
        last = last.handler.last;
        order = subst (AreInOrder b.arrivals last.handler.last) (same_commits b.told vsyncs b.like) b.played.order;
        results = both.0;
        outputs = both.1;
      }

  nothing_begun : (start : Sitting B) (width height : ℕ) → start.handler ≡ new_handler width height (most_layers scene.version) → Begun start []
  nothing_begun start width height new = record {
    signals = [];
    seen = record { values = [] };
    has = none_seen scene [] start.number (record { values = [] });
    within = λ t low high. omega arith;
    known = (let none = ap (λ (h : HandlerOf ReadLeaseOf). h.last) new in let low : 0 ≤ taken_in (unstamped start.seats.arrivals.seen) = omega arith in omega (arith, none, low));
    arrivals = [];
    told = [];
    played = subst (HasPlayed frame (with_all scene) all_written [] []) (sym new) (none_played frame (with_all scene) all_written width height);
    images = no_images (with_all scene);
    like = tt;
  }

  module _ (same_period : period ≡ scene.period) (before after : Sitting B) (v : Vsync before after) (vsyncs : List VsyncRecords) (b : Begun before vsyncs) (shown : List (Output (List ℕ)))
      (due : AreOutputsDue (plan_of scene) after.handler.tree.layers v.told.commits shown) where
    -- its record, and the one that tells all that it saw
    abbrev vsync : VsyncRecords
    vsync = told_by (rising_timelines scene) (showing_of lease table locks period v).report shown

    abbrev whole : VsyncRecords
    whole = vsync_shown (with_all scene) after.number v.expected v.seen v.told.commits after.handler.tree

    says : SaysVsync whole v.told v.seen v.expected
    says = record {
      commits = refl;
      due = refl;
      saw = seen_is (with_all scene) v.seen whole v.sees.all refl (λ t low high none. absurd (true≢false (sym (in_range 1 64 t low (omega (arith, high))) ∙ none)));
    }

    like : Like whole vsync
    like = record {
      commits = refl;
      outputs =
          (λ i. map without_image (if shown_done v.told.commits i then shown_due (picture_at scene.pictures) (plan_same scene i) after.handler.tree.layers else []))
          ∙ due_shown (picture_at scene.pictures) (plan_of scene) v.told.commits after.handler
          ∙ due;
    }

    took : TakesRising before.handler.last v.took.arrivals v.arrived
    took = take_rises before.handler.last v.looked.arrivals v.took.arrivals v.arrived v.takes.took
        (subst (λ (a : ArrivalsPass). before.handler.last ≤ taken_in (unstamped a.seen)) (sym (arrivals_looked lease table locks period before after v)) b.known)

    known_after : after.handler.last ≤ taken_in (unstamped after.seats.arrivals.seen)
    known_after =
        subst (λ (n : ℕ). n ≤ taken_in (unstamped after.seats.arrivals.seen)) (sym (ap (λ (h : HandlerOf ReadLeaseOf). h.last) v.decides.settled.state))
        (subst (λ (a : ArrivalsPass). last_of before.handler.last v.arrived ≤ taken_in (unstamped a.seen)) (sym v.arrivals) took.known)

    -- what was seen
    within : (t : ℕ) → 1 ≤ t → t ≤ 64 → value_of v.seen.values t ≤ greatest t after.seats.times.knows.known
    within t low high =
        let has = has_le t (value_of v.seen.values t) (points_from 1 v.seen.values) (point_has v.seen t v.sees.all low high) in
        let joined = greatest-append t before.seats.times.knows.known (points_from 1 v.seen.values) in
        let same = ap (λ (k : Knows). greatest t k.known) (times_after lease table locks period before after v ∙ v.sees.shown) in
        omega (arith, has, joined, same)

    rises : (t : ℕ) → 1 ≤ t → t ≤ 64 → value_of b.seen.values t ≤ value_of v.seen.values t
    rises t low high = let one = b.within t low high in let two = v.sees.known t low high in omega (arith, one, two)

    abbrev signals : List (ℕ × ℕ)
    signals = points_of (value_of v.seen.values) 1 64 ++ b.signals

    still_seen : HasSeen scene signals vsyncs before.number b.seen
    still_seen = seen_too scene b.signals signals vsyncs before.number b.seen b.has (λ p there. Contains-append_right (points_of (value_of v.seen.values) 1 64) b.signals p there)

    next : after.number ≡ before.number + 1 → before.number < after.number
    next counted = omega (arith, counted)

    later : after.number ≡ before.number + 1 → before.number ≤ after.number
    later counted = omega (arith, counted)

    from_1 : after.number ≡ before.number + 1 → 0 < after.number
    from_1 counted = omega (arith, counted)

    tells : has_commits v.told.commits ≡ true → TellsTime scene signals vsync v.seen
    tells some = record {
      from_1 = from_1 v.counted;
      due = v.due ∙ ap (λ (n : ℕ). after.number * n) same_period;
      commit = commits_shown v.told.commits some;
      shows = refl;
      signalled = seen_there b.signals v.seen;
    }

    -- what was played
    abbrev all : List (Arrival FrameOf)
    all = b.arrivals ++ map (framed_arrival frame) v.arrived

    played_shown : HasPlayed frame (with_all scene) all_written all (b.told ++ whole ∷ []) after.handler
    played_shown = goes_further lease frame (λ x y same. refl) (with_all scene) all_written b.arrivals b.told before.handler after.handler v.took.turns v.turns v.arrived v.seen v.expected v.told b.played v.decides took.rising whole says
        (wrote_all lease.shown v.decides.looked)

    images_shown : ShowImages (with_all scene) (told_of (with_all scene) all (b.told ++ whole ∷ []))
    images_shown =
        images_go_on (with_all scene) (told_of (with_all scene) b.arrivals b.told) (told_of (with_all scene) all (b.told ++ whole ∷ [])) whole after.handler.tree (map (framed_on frame) v.decides.end.stage.gone)
        (goes_on_by lease frame (λ x y same. refl) (with_all scene) all_written b.arrivals b.told before.handler after.handler v.took.turns v.turns v.arrived v.seen v.expected v.told b.played v.decides took.rising whole says)
        b.images refl

    abbrev more : Bool → List VsyncRecords
    more some = if some then vsync ∷ [] else []

    -- one vsync more, which has a record where it commits something
    by_commits : (some : Bool) → has_commits v.told.commits ≡ some → Begun after (vsyncs ++ more some)
    by_commits true some = record {
      signals = signals;
      seen = v.seen;
      has = seen_more scene signals vsyncs before.number b.seen v.seen vsync still_seen (next v.counted) rises (tells some);
      within = within;
      known = known_after;
      arrivals = all;
      told = b.told ++ whole ∷ [];
      played = played_shown;
      images = images_shown;
      like = zip_push Like b.told vsyncs whole vsync b.like like;
    }
    by_commits false none =
        let silent = no_commits v.told.commits none in
        subst (Begun after) (sym (append-nil vsyncs)) (record {
          signals = signals;
          seen = v.seen;
          has = seen_silently scene signals vsyncs before.number after.number b.seen v.seen still_seen (later v.counted) rises;
          within = within;
          known = known_after;
          arrivals = all;
          told = b.told;
          played = goes_silently lease frame (λ x y same. refl) (with_all scene) all_written b.arrivals b.told before.handler after.handler v.took.turns v.turns v.arrived v.seen v.expected v.told b.played v.decides took.rising silent;
          images = subst (ShowImages (with_all scene)) (sym (tells_no_more lease frame (λ x y same. refl) (with_all scene) all_written b.arrivals b.told before.handler after.handler v.took.turns v.turns v.arrived v.seen v.expected v.told b.played v.decides took.rising silent)) b.images;
          like = b.like;
        })

    vsync_begun : Begun after (vsyncs ++ more (has_commits v.told.commits))
    vsync_begun = by_commits (has_commits v.told.commits) refl

    -- its records behind those before
    records_then : events_records (map event.Vsync vsyncs) ++ records_by (rising_timelines scene) (showing_of lease table locks period v).report shown
        ≡ events_records (map event.Vsync (vsyncs ++ more (has_commits v.told.commits)))
    records_then =
        ap (λ (rs : List Record). events_records (map event.Vsync vsyncs) ++ rs) (records_told v.told.commits vsync vsync refl)
        ∙ sym (records_more (map event.Vsync vsyncs) (map event.Vsync (more (has_commits v.told.commits))))
        ∙ ap events_records (sym (map-append event.Vsync vsyncs (more (has_commits v.told.commits))))

  -- what was told of a log, and written, or a prefix of it
  record HasTold (last : Sitting B) (before now : Option (List ℕ)) : Type 0 where
    vsyncs : List VsyncRecords
    begun : Begun last vsyncs
    written : Writes before now (events_records (map event.Vsync vsyncs))

  pub record HasCut (before now : Option (List ℕ)) : Type 0 where
    pub vsyncs : List VsyncRecords
    pub begins : BeginsLive scene vsyncs
    pub written : WritesPart before now (events_records (map event.Vsync vsyncs))

  module _ (same_period : period ≡ scene.period) (most : ℕ) (same_most : most ≡ most_layers scene.version) (prior : Option (List ℕ)) where
    abbrev Fresh : Sitting B → Type 0
    Fresh start = IsFresh lease table locks period (plan_of scene) most start

    first : (start : Sitting B) → Fresh start → Begun start []
    first start fresh = nothing_begun start (plan_of scene).width (plan_of scene).height (fresh.handler ∙ ap (λ (n : ℕ). new_handler (plan_of scene).width (plan_of scene).height n) same_most)

    log_told : (start last : Sitting B) (log : Vsyncs lease table locks period start last) (now : Option (List ℕ)) → Fresh start → WritesLog lease table locks period (plan_of scene) (rising_timelines scene) log prior now
        → HasTold last prior now
    log_told start last Begin now fresh told =
        record { vsyncs = []; begun = first start fresh; written = subst (Writes prior now) (sym no_records) (subst (λ (n : Option (List ℕ)). Writes prior n []) (sym told) (writes_none prior)) }
    log_told start last (More {before} {after} log v) now fresh (between, told, wrote) =
        let was = log_told start before log between fresh told in
        record {
          vsyncs = _;
          begun = vsync_begun same_period before after v was.vsyncs was.begun wrote.shown wrote.due;
          written = subst (Writes prior now) (records_then same_period before after v was.vsyncs was.begun wrote.shown wrote.due) (writes_more prior between now _ _ was.written wrote.written);
        }

    pub log_cut : (start last : Sitting B) (log : Vsyncs lease table locks period start last) (now : Option (List ℕ)) → Fresh start → CutsLog lease table locks period (plan_of scene) (rising_timelines scene) log prior now
        → HasCut prior now
    log_cut start last Begin now fresh told =
        record { vsyncs = []; begins = begins_live start [] (first start fresh); written = subst (λ (n : Option (List ℕ)). WritesPart prior n (events_records (map event.Vsync []))) (sym told) (part_none prior _) }
    log_cut start last (More {before} {after} log v) now fresh (between, told, cut) =
        let was = log_told start before log between fresh told in
        record {
          vsyncs = _;
          begins = begins_live after _ (vsync_begun same_period before after v was.vsyncs was.begun cut.shown cut.due);
          written = subst (WritesPart prior now) (records_then same_period before after v was.vsyncs was.begun cut.shown cut.due) (part_more prior between now _ _ was.written cut.written);
        }

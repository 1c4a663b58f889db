-- At the join of a run in threads a player's invariant holds.
use Rattle.std.proofs.Common.{◌≡◌, ◌≢◌, ℕ, suc, ◌≤◌, ◌==◌, true, List, [], ◌∷◌, ◌++◌, length, map, filter, take, drop, refl, ap, sym, ◌∙◌, subst, inl, inr, arith}
use Rattle.std.specs.Prelude.{All, Contains}
use Rattle.std.specs.List.{AllByRecursion, AllPairs, AllZip, list_any, range_with_len}
use Rattle.std.proofs.lemmas.Bool.{cases_Bool, eq-eqb, eqb-true, false≢true}
use Rattle.std.proofs.lemmas.List.{length-map, take-append-drop, take-map}
use Rattle.std.proofs.lemmas.List.Elements.{All-contains, All-map, All-nil}
use Rattle.std.proofs.lemmas.List.Folds.{list_any-append}
use Rattle.atomic_table.specs.Seated.{TableId}
use Rattle.sf_base.specs.Points.{greatest, points_from}
use Rattle.sf_base.specs.Fences.{value_of}
use Rattle.sf_base.specs.declared.fences.Seen.{Seen}
use Rattle.law_threads.specs.sf_calls.Histories.{GoesOnWithout, calls_by}
use Rattle.law_threads.specs.sf_calls_stamped.Stamps.{unstamped}
use Rattle.law_threads.specs.sf_surface.declared.mark.QueueMark.{QueueMark}
use Rattle.law_threads.specs.sf_surface.Histories.{Made}
use Rattle.law_threads.specs.sf_surface.Objects.{ObjectOf, mark_of}
use Rattle.law_threads.specs.sf_surface.Tokens.{Issued, ReadLeaseOf}
use Rattle.law_threads.specs.sf_times.Seats.{all_loaded}
use Rattle.law_threads.specs.sf_times.Views.{SeatView as TimesView}
use Rattle.law_threads.specs.sf_token.Arrivals.{sent}
use Rattle.law_threads.specs.sf_token.Pending.{Arrival}
use Rattle.law_threads.specs.sf_turns.Counts.{IsExact}
use Rattle.law_threads.specs.sf_turns.Views.{SeatView}
use Rattle.law_threads.specs.sf_txn.declared.lease.Lease.{Ghosts}
use Rattle.law_threads.specs.sf_commit.Handlers.{HandlerOf, new_handler}
use Rattle.law_threads.specs.sf_script_scene.Limits.{IsWithinLimits}
use Rattle.law_threads.specs.sf_script_scene.Ranges.{IsQueue}
use Rattle.law_threads.specs.sf_script_scene.Scene.{SceneValue, has_queue, has_timeline}
use Rattle.law_threads.specs.sf_script_scene.declared.declarations.QueueDecl.{QueueDecl}
use Rattle.law_threads.specs.sf_actor.Desks.{DeskHome, DeskView, known_of, mark_among, values_of}
use Rattle.law_threads.specs.sf_actor.Known.{AreAmong, CountsRise, ShareGoesOn, frame_of, is_sent_by, plain_arrival, share_of}
use Rattle.law_threads.specs.sf_actor.Names.{FrameOf}
use Rattle.law_threads.specs.sf_actor.Plain.{PlainOf, calls_among, home_of as plain_home, taken_in, view_of as plain_view}
use Rattle.law_threads.specs.sf_actor.Scripts.{picture_at}
use Rattle.law_threads.specs.sf_actor.Tries.{ActorOf, Sees}
use Rattle.law_threads.specs.sf_actor.Written.{FrameNumber, signals_of}
use Rattle.law_threads.proofs.sf_actor_lemmas.CallGrowth.{value-values}
use Rattle.law_threads.specs.sf_actor.declared.done.Done.{Done}
use Rattle.law_threads.specs.sf_actor.Makers.{Run}
use Rattle.law_threads.specs.sf_actor_set.ActorSets.{KeepAs}
use Rattle.law_threads.specs.sf_script_scene.declared.step.ActorScript.{ActorScript}
use Rattle.law_threads.specs.law_played.Frames.{ShowImages}
use Rattle.law_threads.specs.sf_record.declared.event.VsyncRecords.{VsyncRecords}
use Rattle.law_threads.proofs.law_played_lemmas.StepKeepsTold.{of_all}
use Rattle.law_threads.proofs.law_played_lemmas.KeepingLemmas.{none_played}
use Rattle.law_threads.proofs.law_played_lemmas.Members.{filter_has, has_cases, has_filter, has_here, has_joined, has_later, has_map, has_none, in_range, joined_has, map_has, zip_has}
use Rattle.law_threads.proofs.law_played_lemmas.RisingNumbers.{rising_actors_are}
use Rattle.law_threads.proofs.law_played_lemmas.RunTraces.{trace_here}
use Rattle.law_threads.specs.law_played.Actors.{AreActors, AreArrivals, IsCallBy, IsRelease, mark_declared, number_of, run_of, script_of, told_on, trace_among}
use Rattle.law_threads.specs.law_played.Histories.{IsReleased, queue_number, released_in, released_on, rising_queues}
use Rattle.law_threads.specs.law_played.Progress.{HasPlayed}
use Rattle.law_threads.specs.law_played.Runs.{calls_of, rising_actors, signals_in, written_in}
use Rattle.law_threads.specs.law_played.Stages.{told_of}
use Rattle.law_threads.specs.law_played.Telling.{AreReleases}
use Rattle.law_threads.specs.law_played.Vsyncs.{AreVsyncs, vsyncs_in}
use Rattle.law_threads.specs.law_rights.Actors.{AreOver}
use Rattle.law_threads.specs.law_rights.InTurn.{DrawsStand}
use Rattle.law_threads.specs.law_rights.MakerRuns.{MakersPlay}
use Rattle.law_threads.specs.law_rights.Standing.{LedgerStands, state_of}
use Rattle.law_threads.specs.law_rights.States.{is_queue}
use Rattle.law_threads.specs.sf_live_seats.declared.locks.Locks.{Locks}
use Rattle.law_threads.specs.sf_live_seats.declared.seats.Seats.{Seats}
use Rattle.law_threads.specs.sf_live_seats.Arriving.{ArrivalCalls}
use Rattle.law_threads.specs.sf_live_seats.First.{gave_of, took_of}
use Rattle.law_threads.specs.sf_live_seats.Reuniting.{Reunites}
use Rattle.law_threads.specs.sf_live_seats.Seats.{QueuePass, calls_known, home_of, is_at, view_of}
use Rattle.law_threads.proofs.sf_live_seats_lemmas.CallsOfOthers.{goes_unstamped, sent_goes}
use Rattle.law_threads.specs.sf_live_threads.Walks.{Moment}
use Rattle.law_threads.proofs.sf_play_lemmas.ArrivedFrames.{arrivals_lent}
use Rattle.law_threads.proofs.sf_play_lemmas.PlayLedger.{none_absent}
use Rattle.law_threads.proofs.sf_play_lemmas.HandlerLeases.{IsArrivedLent, OfFrames}
use Rattle.law_threads.proofs.sf_play_lemmas.VsyncNumbers.{rounds_numbered}
use Rattle.law_threads.proofs.sf_play_lemmas.SeenTimelines.{any_has, sees_signals}
use Rattle.law_threads.specs.sf_play.Ending.{Rests}
use Rattle.law_threads.specs.sf_play.Happening.{StandsAt}
use Rattle.law_threads.specs.sf_play.Players.{DeskStands, IsOfScene, PlayOf, SoFar, Stands, run_so, taken_at, told_at}
use Rattle.law_threads.specs.sf_play.Playing.{KeepsRights}
use Rattle.law_threads.specs.sf_play.Standing.{IsStanding, StandsInRun}
use Rattle.law_threads.specs.law_draws.Placed.{calls_of as calls_over}
use Rattle.law_threads.specs.law_draws.Standing.{RightsStand}
use Rattle.law_threads.proofs.law_draws_lemmas.JoinedDraws.{draws_stand}
use Rattle.law_joins.specs.Joined.{IsJoined, player_joined, so_joined}
use Rattle.law_joins.specs.Logs.{HasPlayedSo, HasSeenSo, HasTaken, HoldsLent, IsKnown, KnowsSteps, KnowsWritten, OnlyFirstTakes, reports_of, taken_of, told_in}
use Rattle.law_joins.proofs.Callers.{NoStrangers, are_callers, are_senders, log_known, log_sends, log_signals, only_first}
use Rattle.law_joins.proofs.Ends.{HasNoTrace, IsBack, all_as, all_back, all_play, are_actors, no_traces}
use Rattle.law_joins.proofs.Gives.{given_on}
use Rattle.law_joins.proofs.Lends.{front_all, log_lent}
use Rattle.law_joins.proofs.SeatsTakenIn.{meets_arrivals, meets_calls, meets_counts, meets_number, meets_shown, meets_signals, meets_took}
use Rattle.law_joins.proofs.Plays.{log_gives, log_plays, log_releases}
use Rattle.law_joins.proofs.Replies.{tell_replies, vsyncs_are}
use Rattle.law_joins.proofs.Sights.{log_sees}
use Rattle.law_joins.proofs.Takes.{joins_taken, log_takes, taken_low}
use Rattle.law_joins.proofs.WritesAtJoin.{KnowsByCounts, knows_written}
use Rattle.law_threads.specs.Joining.{Joins, actor_at, of_at, seats_at}
use Rattle.law_threads.specs.Members.{number_at}
use Rattle.law_threads.proofs.ReturnedSeats.{reunited_at, reunited_numbers, share_goes_on}
use Rattle.law_threads.specs.sf_live_compositor.Vsyncs.{Begin, More, Sitting, Vsyncs}

-- of two that are in a list whose numbers differ, those of one number are one
module _ {X : Type 0} (number : X → ℕ) where
  abbrev Differ : List X → Type 0
  Differ xs = AllPairs (λ x y. number x ≢ number y) xs

  differ_first : (x y : X) (xs : List X) → Differ (x ∷ xs) → Contains xs y → number x ≢ number y
  differ_first x y xs differ there = (let apart = differ 0 (suc there.0) y (omega arith) (omega (arith, there.1)) in subst (λ (z : X). number x ≢ number z) there.2 apart)

  same_there : (xs : List X) → Differ xs → (x y : X) → Contains xs x → Contains xs y → number x ≡ number y → x ≡ y
  same_there [] differ x y one two same = has_none x one
  same_there (z ∷ xs) differ x y one two same = elim (has_cases z x xs one) [
    | inl first ↦ elim (has_cases z y xs two) [
      | inl second ↦ sym first ∙ second
      | inr later ↦ absurd (differ_first z y xs differ later (ap number first ∙ same))
    ]
    | inr later ↦ elim (has_cases z y xs two) [
      | inl second ↦ absurd (differ_first z x xs differ later (ap number second ∙ sym same))
      | inr others ↦ same_there xs (λ i k d before below. differ (suc i) (suc k) d (omega (arith, before)) (omega (arith, below))) x y later others same
    ]
  ]

-- the marks of declared queues
mark_there : (all qs : List QueueDecl) → AllPairs (λ x y. queue_number x ≢ queue_number y) all → ((q : QueueDecl) → Contains qs q → Contains all q) → (queue : QueueDecl) → Contains qs queue
    → mark_among (map mark_declared qs) queue.number ≡ mark_declared queue
mark_there all [] differ among queue there = has_none queue there
mark_there all (first ∷ qs) differ among queue there = elim (cases_Bool (first.number == queue.number)) [
  | inl met ↦ rw met (ap mark_declared (same_there queue_number all differ first queue (among first (has_here first qs)) (among queue there) (eqb-true first.number queue.number met)))
  | inr unmet ↦ elim (has_cases first queue qs there) [
    | inl same ↦ absurd (false≢true (sym unmet ∙ eq-eqb first.number queue.number (ap queue_number same)))
    | inr later ↦ rw unmet (mark_there all qs differ (λ q c. among q (has_later first q qs c)) queue later)
  ]
]

module _ (scene : SceneValue) (limits : IsWithinLimits scene) where
  -- the declared queues by rising number are those that are declared
  rising_has : (queue : QueueDecl) → Contains scene.queues queue → Contains (rising_queues scene) queue
  unfolding rising_queues
  rising_has queue there =
      let is = All-contains IsQueue scene.queues queue limits.queues.each there in
      has_joined (λ (n : ℕ). filter (λ (item : QueueDecl). queue_number item == n) scene.queues) (range_with_len 1 16) queue.number queue
      (in_range 16 queue.number is.low is.high)
      (has_filter (λ (item : QueueDecl). queue_number item == queue.number) scene.queues queue (eq-eqb queue.number queue.number refl) there)

  rising_in : (queue : QueueDecl) → Contains (rising_queues scene) queue → Contains scene.queues queue
  unfolding rising_queues
  rising_in queue there =
      let at = joined_has (λ (n : ℕ). filter (λ (item : QueueDecl). queue_number item == n) scene.queues) (range_with_len 1 16) queue there in
      (filter_has (λ (item : QueueDecl). queue_number item == at.0) scene.queues queue at.2).0

  pub marks_are : (marks : List QueueMark) → marks ≡ map mark_declared (rising_queues scene) → All (λ (queue : QueueDecl). mark_among marks queue.number ≡ mark_declared queue) scene.queues
  marks_are marks are = of_all (λ (queue : QueueDecl). mark_among marks queue.number ≡ mark_declared queue) scene.queues (λ queue there.
      ap (λ (ms : List QueueMark). mark_among ms queue.number) are
      ∙ mark_there scene.queues (rising_queues scene) limits.queues.differ rising_in queue (rising_has queue there))

  pub marks_declared : (marks : List QueueMark) → marks ≡ map mark_declared (rising_queues scene) → All (λ (mark : QueueMark). has_queue scene.queues mark.queue.0 ≡ true) marks
  marks_declared marks are = subst (All (λ (mark : QueueMark). has_queue scene.queues mark.queue.0 ≡ true)) (sym are)
      (All-map (λ (mark : QueueMark). has_queue scene.queues mark.queue.0 ≡ true) mark_declared (rising_queues scene)
      (of_all (λ (queue : QueueDecl). has_queue scene.queues queue.number ≡ true) (rising_queues scene) (λ queue there.
      any_has (λ (x : QueueDecl). x.number == queue.number) scene.queues queue (rising_in queue there) (eq-eqb queue.number queue.number refl))))

-- what no vsync changes of a handler
pub record IsSameHandler (old new : HandlerOf ReadLeaseOf) : Type 0 where
  pub width : new.width ≡ old.width
  pub height : new.height ≡ old.height
  pub lent : new.lent ≡ old.lent
  pub spent : new.is_spent ≡ old.is_spent

module _ {B : Type 0} where
  knows_none : (passes : List (QueuePass B)) → AllByRecursion (λ (pass : QueuePass B). pass.seen ≡ []) passes → (queue : ℕ) → calls_known passes queue ≡ []
  knows_none [] none queue = refl
  knows_none (pass ∷ passes) none queue = elim (cases_Bool (is_at queue pass)) [
    | inl met ↦ rw met (ap unstamped none.0)
    | inr unmet ↦ rw unmet (knows_none passes none.1 queue)
  ]

  pub called_there : (objects : List (ObjectOf B)) (queue : ℕ) (made : Made B) → Contains (calls_among objects queue) made → list_any (is_queue queue) (map mark_of objects) ≡ true
  called_there objects queue made there = elim (cases_Bool (list_any (is_queue queue) (map mark_of objects))) [
    | inl met ↦ met
    | inr unmet ↦ absurd (has_none made (subst (λ (calls : List (Made B)). Contains calls made) (none_absent objects queue unmet) there))
  ]

  log_handler : (lease : Ghosts ReadLeaseOf SeatView ReadLeaseOf Issued) (table : TableId) (locks : Locks B) (period : ℕ) (start last : Sitting B) → Vsyncs lease table locks period start last → IsSameHandler start.handler last.handler
  log_handler lease table locks period start last Begin = record { width = refl; height = refl; lent = refl; spent = refl }
  log_handler lease table locks period start last (More {before} {after} log v) =
      let was = log_handler lease table locks period start before log in
      record {
        width = ap (λ (h : HandlerOf ReadLeaseOf). h.width) v.decides.settled.state ∙ was.width;
        height = ap (λ (h : HandlerOf ReadLeaseOf). h.height) v.decides.settled.state ∙ was.height;
        lent = ap (λ (h : HandlerOf ReadLeaseOf). h.lent) v.decides.settled.state ∙ was.lent;
        spent = ap (λ (h : HandlerOf ReadLeaseOf). h.is_spent) v.decides.settled.state ∙ was.spent;
      }

module _ {B : Type 0} (lease : Ghosts ReadLeaseOf SeatView ReadLeaseOf Issued) (scene : SceneValue) (table : TableId) (period most : ℕ) (locks : Locks B) (last : Sitting B) (ends : List (Moment B)) (desk : PlainOf B)
    (is : IsJoined lease scene table period most locks last ends desk) where
  abbrev j : Joins lease scene table period most locks last ends desk
  j = is.joins

  abbrev home : DeskHome
  home = plain_home desk

  abbrev joined : DeskView B
  joined = plain_view desk

  abbrev ofs : List (ActorOf B)
  ofs = map of_at ends

  abbrev run : Run
  run = run_of ofs home joined

  abbrev made : List (ℕ × ℕ)
  made = signals_in scene run

  abbrev all_seats : List (Seats B)
  all_seats = j.reunited

  abbrev taken : List (Arrival ReadLeaseOf)
  taken = taken_of lease table locks period j.log

  abbrev reports : List VsyncRecords
  reports = reports_of lease table locks period scene j.log

  pub home_marks : home.marks ≡ map mark_declared (rising_queues scene)
  home_marks = j.closes.marks ∙ j.marks

  -- the actors
  pub back : All (IsBack scene table locks) ends
  back = all_back scene table locks j.starts ends (subst (All HasNoTrace) (sym j.new) (no_traces j.declared j.stock)) j.new_seats j.came

  pub took : took_of j.first ≡ all_seats
  took = meets_took j.attended all_seats j.first j.met ∙ ap (λ (list : List (Seats B)). list ++ all_seats) j.none_taken

  abbrev GoOn : Moment B → Type 0
  GoOn end = ShareGoesOn (share_of end.seats.by (known_of (home_of locks end.seats) (view_of end.seats))) (share_of end.seats.by (known_of home joined))

  go : All GoOn ends
  go = of_all GoOn ends (λ end there.
      let taken = reunited_at locks ends j.reunited j.reunites end there in
      share_goes_on locks (known_of home joined) end.seats taken.reunited taken.reunites
      (j.goes_on taken.reunited (subst (λ (list : List (Seats B)). Contains list taken.reunited) (sym took) taken.there)))

  pub actors : AreActors scene ofs home joined
  actors = are_actors scene table locks home joined j.closes.marks j.limits j.starts ends j.declared j.stock j.sorted j.new j.came back go

  pub kept_as : KeepAs table (picture_at scene.pictures) home joined (map actor_at ends) ofs
  kept_as = all_as scene table locks home joined j.closes.marks j.starts ends j.came back go

  -- who had seats
  abbrev by_of : Seats B → ℕ
  by_of seats = seats.by

  numbers_seated : (by : ℕ) → Contains (map by_of (took_of j.first)) by → Contains (map number_of ofs) by
  numbers_seated by there =
      let end = map_has number_at ends by (subst (λ (numbers : List ℕ). Contains numbers by) (ap (map by_of) took ∙ reunited_numbers locks ends j.reunited j.reunites) there) in
      let served = (All-contains (IsBack scene table locks) ends end.0 back end.1).served in
      subst (Contains (map number_of ofs)) (sym served ∙ end.2) (has_map number_of ofs end.0.of (has_map of_at ends end.0 end.1))

  stranger : (by : ℕ) → (by ≡ 0 → ⊥) → (Contains (map by_of (took_of j.first)) by → ⊥) → Contains (j.first.seats.by ∷ gave_of j.first) by → ⊥
  stranger by some apart there = elim (has_cases j.first.seats.by by (gave_of j.first) there) [
    | inl same ↦ some (sym same ∙ j.is_first.number)
    | inr gave ↦ apart (j.has_all.all by gave)
  ]

  no_strangers : NoStrangers ofs joined
  no_strangers by some apart = j.nobody by (stranger by some (λ there. apart (numbers_seated by there)))

  -- what arrived
  pub first_by : last.seats.by ≡ 0
  first_by = ap by_of (sym j.at_last) ∙ sym (meets_number j.attended all_seats j.first j.met) ∙ j.is_first.number

  pub arrivals_go : GoesOnWithout 0 (unstamped last.seats.arrivals.seen) desk.arrivals
  arrivals_go =
      subst (λ (calls : ArrivalCalls). GoesOnWithout 0 (unstamped last.seats.arrivals.seen) calls) (sym j.closes.arrived)
      (goes_unstamped 0 last.seats.arrivals.seen j.first.seats.arrivals.seen
      (subst (λ (seats : Seats B). GoesOnWithout 0 seats.arrivals.seen j.first.seats.arrivals.seen) j.at_last
      (meets_arrivals 0 j.attended all_seats j.first (ap by_of j.at_last ∙ first_by) j.met)))

  pub called : (queue : ℕ) → GoesOnWithout 0 ((view_of last.seats).calls queue) (joined.calls queue)
  called queue =
      subst (λ (calls : List (Made B)). GoesOnWithout 0 ((view_of last.seats).calls queue) calls) (sym (j.closes.calls queue))
      (subst (λ (seats : Seats B). GoesOnWithout 0 ((view_of seats).calls queue) ((view_of j.first.seats).calls queue)) j.at_last
      (meets_calls 0 queue j.attended all_seats j.first (ap by_of j.at_last ∙ first_by) j.met))

  pub known : IsKnown joined desk.arrivals last.seats
  known = record {
    calls = λ queue. (called queue).begins;
    arrivals = arrivals_go.begins;
    shown = λ p there. subst (λ (times : TimesView). Contains times.knows.shown p) (sym j.closes.times)
        (meets_shown j.attended all_seats j.first j.met p (subst (λ (seats : Seats B). Contains seats.times.knows.shown p) (sym j.at_last) there));
    counts = subst (λ (turns : SeatView). CountsRise last.seats.turns.seen turns.seen) (sym j.closes.turns)
        (subst (λ (seats : Seats B). CountsRise seats.turns.seen j.first.seats.turns.seen) j.at_last (meets_counts j.attended all_seats j.first j.met));
  }

  pub only : OnlyFirstTakes desk.arrivals
  only = subst OnlyFirstTakes (sym j.closes.arrived)
      (only_first table locks j.first j.is_first j.ordered (λ by some apart. ap (calls_by by) (sym j.closes.arrived) ∙ j.closes.strangers by (stranger by some apart)))

  pub none_last : j.begins.handler.last ≡ 0
  none_last = ap (λ (h : HandlerOf ReadLeaseOf). h.last) j.handler

  pub none_pending : j.begins.handler.pending ≡ []
  none_pending = ap (λ (h : HandlerOf ReadLeaseOf). h.pending) j.handler

  pub none_on : j.begins.handler.on ≡ []
  none_on = ap (λ (h : HandlerOf ReadLeaseOf). h.on) j.handler

  has : HasTaken last.handler desk.arrivals taken
  has = joins_taken desk.arrivals only last.handler (unstamped last.seats.arrivals.seen) taken
      (log_takes lease table locks period desk.arrivals only j.begins last j.log none_last j.nothing.arrivals first_by arrivals_go.begins) arrivals_go

  -- who called and sent
  pub uncalled : (queue : ℕ) → (view_of j.begins.seats).calls queue ≡ []
  uncalled queue = knows_none j.begins.seats.queues.items j.nothing.queues queue

  pub callers : (queue : ℕ) → All (IsCallBy ofs) (joined.calls queue)
  callers queue = are_callers ofs joined no_strangers queue
      (subst (All (λ (m : Made B). IsRelease m.call.1)) (sym (called queue).calls) (log_releases lease table locks period j.begins last j.log queue (uncalled queue)))

  pub senders : AreArrivals ofs joined
  senders =
      let goes = sent_goes 0 (unstamped last.seats.arrivals.seen) desk.arrivals arrivals_go in
      let known = log_known lease table locks period j.begins last j.log j.nothing first_by in
      let none = log_sends lease table locks period j.begins last j.log j.nothing first_by in
      are_senders ofs joined no_strangers
      (ap (list_any (is_sent_by 0)) (goes.joined ∙ ap (λ (list : List (Arrival ReadLeaseOf)). list ++ goes.later) (sym known)) ∙ list_any-append (is_sent_by 0) (view_of last.seats).arrivals goes.later ∙ (rw (none, goes.none) refl))

  -- what was signalled
  by_end : (end : Moment B) → Contains ends end → (p : ℕ × ℕ) → Contains end.seats.times.knows.signals p → Contains made p
  by_end end there p signalled =
      let of_there = has_map of_at ends end there in
      let traced = subst (λ (list : List (ℕ × ℕ)). Contains list p) (All-contains (IsBack scene table locks) ends end back there).signals signalled in
      has_joined (λ (script : ActorScript). signals_of (trace_among ofs script.number)) (rising_actors scene) end.of.script p
      (subst (λ (list : List ActorScript). Contains list end.of.script) (sym (rising_actors_are scene ofs home joined j.limits actors)) (has_map script_of ofs end.of of_there))
      (subst (λ (trace : List Done). Contains (signals_of trace) p) (sym (trace_here ofs end.of actors.apart of_there)) traced)

  pub signals : AreAmong joined.times.signals made
  signals p there = elim (meets_signals j.attended all_seats j.first j.met p (subst (λ (times : TimesView). Contains times.knows.signals p) j.closes.times there)) [
    | inl own ↦ has_none p (subst (λ (list : List (ℕ × ℕ)). Contains list p) (ap (λ (seats : Seats B). seats.times.knows.signals) j.at_last ∙ log_signals lease table locks period j.begins last j.log ∙ j.no_signals) own)
    | inr met ↦
        let seats = zip_has (Reunites locks) (map seats_at ends) j.reunited met.seats j.reunites met.there in
        let end = map_has seats_at ends seats.0 seats.1 in
        by_end end.0 end.1 p (subst (λ (seats : Seats B). Contains seats.times.knows.signals p) (sym end.2)
        (subst (λ (seats : Seats B). Contains seats.times.knows.signals p) seats.2.same met.signalled))
  ]

  declared : (p : ℕ × ℕ) → Contains joined.times.signals p → has_timeline scene.timelines p.0 ≡ true
  declared = (sees_signals scene j.limits ofs home joined actors (record joined { times = all_loaded joined.times (points_from 1 seen.values) }) seen signals refl sees).declared
    where
      seen : Seen
      seen = values_of joined.times.signals

      at_most : (t : ℕ) → 1 ≤ t → t ≤ 64 → value_of (values_of joined.times.signals).values t ≡ greatest t joined.times.signals → greatest t joined.times.known ≤ greatest t joined.times.signals → greatest t joined.times.known ≤ value_of (values_of joined.times.signals).values t
      at_most t low high same most_known = omega (arith, same, most_known)

      sees : Sees home joined (record joined { times = all_loaded joined.times (points_from 1 (values_of joined.times.signals).values) }) (values_of joined.times.signals)
      sees = record {
        all = length-map (range_with_len 1 64) (λ (t : ℕ). greatest t joined.times.signals);
        shown = refl;
        known = λ t low high. at_most t low high (value-values joined.times.signals t low high) (is.knows.signals.known t low high);
        exact = λ exact t low high. value-values joined.times.signals t low high;
      }

  pub steps : KnowsSteps scene joined.times made
  steps = record { only = is.knows.signals; by_steps = signals; declared = declared }

  -- what was taken shows frames that calls gave
  pub came : All (IsArrivedLent joined) taken
  came = subst (All (IsArrivedLent joined)) has.front
      (front_all (IsArrivedLent joined) (take (taken_in desk.arrivals) (sent desk.arrivals)) (drop (taken_in desk.arrivals) (sent desk.arrivals))
      (subst (All (IsArrivedLent joined)) (sym (take-append-drop (taken_in desk.arrivals) (sent desk.arrivals))) (arrivals_lent scene ofs home joined actors senders)))

  pub seen_so : HasSeenSo scene made reports last.number last.seats.times.knows
  seen_so = log_sees lease table locks period scene is.same_period joined.times made steps j.begins last j.log known.shown

  abbrev play : PlayOf B
  play = (player_joined scene ends desk last).play

  abbrev so : SoFar B
  so = so_joined lease scene table period most locks last ends desk is

  pub reports_are : vsyncs_in so.events ≡ reports
  reports_are = vsyncs_are reports ofs

  pub taken_are : taken_at play ≡ map plain_arrival taken
  taken_are = take-map plain_arrival (taken_in desk.arrivals) (sent desk.arrivals) ∙ ap (map plain_arrival) has.front

  pub told_are : told_at scene so play ≡ told_in lease table locks period scene j.log
  told_are = λ i. told_of scene (taken_are i) (reports_are i)

  same_handler : IsSameHandler (new_handler scene.width scene.height most) last.handler
  same_handler = subst (λ (h : HandlerOf ReadLeaseOf). IsSameHandler h last.handler) j.handler (log_handler lease table locks period j.begins last j.log)

  of_scene : IsOfScene scene play
  of_scene = record {
    limits = j.limits;
    period = refl;
    order = refl;
    pictures = refl;
    width = same_handler.width;
    height = same_handler.height;
    unlent = same_handler.lent;
    decides = same_handler.spent;
    acts = refl;
  }

  desk_stands : DeskStands scene play
  desk_stands = record {
    marks = marks_are scene j.limits home.marks home_marks;
    declared = marks_declared scene j.limits home.marks home_marks;
    taken = low (length-map (sent desk.arrivals) plain_arrival) (taken_low desk.arrivals);
  }
    where
      low : length (map plain_arrival (sent desk.arrivals)) ≡ length (sent desk.arrivals) → taken_in desk.arrivals ≤ length (sent desk.arrivals) → taken_in desk.arrivals ≤ length (map plain_arrival (sent desk.arrivals))
      low same most_taken = omega (arith, same, most_taken)

  own : joined.turns.table ≡ table
  own = ap (λ (turns : SeatView). turns.table) j.closes.turns ∙ j.is_first.own.own_turns

  pub exact : IsExact table.slots joined.turns.leaves joined.turns.seen
  exact = subst (λ (t : TableId). IsExact t.slots joined.turns.leaves joined.turns.seen) own is.knows.leaves

  pub over : LedgerStands table.slots home joined ofs last.handler → AreOver (picture_at scene.pictures) home joined ofs
  over ledger = record { keep = actors.keep; apart = ledger.apart; legal = is.legal; callers = callers }

  module _ (frames : OfFrames lease) (by_counts : KnowsByCounts lease) (ledger : LedgerStands table.slots home joined ofs last.handler) where
    written : List FrameNumber
    written = written_in scene run

    -- draws that are placed are in turn
    pub draws_placed : RightsStand scene (calls_over home joined) (state_of home joined ofs last.handler) → DrawsStand scene home joined ofs last.handler
    draws_placed rights = draws_stand scene ofs home joined j.limits actors (picture_at scene.pictures) table.slots last.handler ledger (over ledger) exact rights.placed

    pub wrote : KnowsWritten lease joined (written_in scene run)
    wrote = knows_written scene table.slots home joined ofs last.handler j.limits actors ledger (over ledger) exact (called_there desk.queues) lease by_counts

    pub begins_played : HasPlayed frame_of scene (written_in scene run) [] [] j.begins.handler
    begins_played = subst (HasPlayed frame_of scene (written_in scene run) [] []) (sym (j.handler ∙ ap (λ (n : ℕ). new_handler scene.width scene.height n) is.same_most))
        (none_played frame_of scene (written_in scene run) scene.width scene.height)

    played : HasPlayedSo lease table locks period scene (written_in scene run) j.log
    played = log_plays lease frames table locks period scene is.same_period joined desk.arrivals only made steps (written_in scene run) wrote j.begins last j.log begins_played none_pending none_on none_last
        j.nothing.arrivals first_by known came

    releases : AreReleases scene ofs home joined (released_in (told_in lease table locks period scene j.log))
    releases = of_all (λ (queue : QueueDecl). AllZip IsReleased (released_on queue.number (released_in (told_in lease table locks period scene j.log))) (calls_of 0 (told_on home joined queue.number))) scene.queues (λ queue there.
        given_on home.marks (view_of last.seats).calls joined.calls (released_in (told_in lease table locks period scene j.log)) queue (called queue.number)
        (log_gives lease frames table locks period scene is.same_period joined desk.arrivals only made steps (written_in scene run) wrote home.marks queue
        (All-contains (λ (q : QueueDecl). mark_among home.marks q.number ≡ mark_declared q) scene.queues queue (marks_are scene j.limits home.marks home_marks) there)
        j.begins last j.log begins_played none_pending none_on none_last j.nothing.arrivals (uncalled queue.number) first_by known came))

    lent : HoldsLent joined last.handler
    lent = log_lent lease frames table locks period joined j.begins last j.log none_pending none_on came

    pub stands : Stands table scene so play
    stands = record {
      of_scene = of_scene;
      keep = kept_as;
      tell = record {
        actors = actors;
        signals = signals;
        callers = callers;
        senders = senders;
        replies = tell_replies scene ofs home joined actors reports;
        releases = subst (AreReleases scene ofs home joined) (sym (ap released_in told_are)) releases;
      };
      desk = desk_stands;
      vsyncs = record {
        vsyncs = subst (AreVsyncs scene made) (sym reports_are) seen_so.has.are;
        numbers = subst (All (λ (vsync : VsyncRecords). vsync.number ≤ last.number)) (sym reports_are) seen_so.has.numbers;
        last = has.last;
        played = subst (λ (xs : List (Arrival FrameOf)). HasPlayed frame_of scene (written_in scene run) xs (vsyncs_in so.events) last.handler) (sym taken_are)
            (subst (λ (rs : List VsyncRecords). HasPlayed frame_of scene (written_in scene run) (map plain_arrival taken) rs last.handler) (sym reports_are) played.played);
        frames = subst (ShowImages scene) (sym told_are) played.frames;
      };
      leases = record { pending = lent.pending; on = lent.on };
    }

    module _ (few : last.number ≤ 2147483648) where
      pub stands_at : StandsAt table scene so (player_joined scene ends desk last)
      stands_at = record {
        stands = stands;
        rests = All-nil (Rests scene (run_so so play));
        early = rounds_numbered table scene so play stands few;
      }

      -- with the makers and the draws of the run all rights are kept
      keeps_rights : MakersPlay scene home joined ofs last.handler → DrawsStand scene home joined ofs last.handler → KeepsRights table scene so play
      keeps_rights makers draws = record {
        ledger = ledger;
        makers = makers;
        draws = draws;
        plays = all_play scene table locks home joined j.closes.marks (λ by. refl) j.starts ends j.new_seats j.came;
      }

      pub stands_in_run : MakersPlay scene home joined ofs last.handler → DrawsStand scene home joined ofs last.handler → StandsInRun table scene so (player_joined scene ends desk last)
      stands_in_run makers draws = record { stands = stands_at; rights = keeps_rights makers draws; marks = home_marks }

      pub is_standing : MakersPlay scene home joined ofs last.handler → DrawsStand scene home joined ofs last.handler → IsStanding table (player_joined scene ends desk last)
      is_standing makers draws = record { scene = scene; so = so; stands = stands_in_run makers draws }

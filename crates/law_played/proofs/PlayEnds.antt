-- Each play comes to its end, since each round but the last lessens the work that is left.
use Rattle.std.proofs.Common.{◌≡◌, ℕ, zero, suc, ◌+◌, ◌≤◌, Bool, true, false, List, [], ◌∷◌, ◌++◌, map, Option, Some, None, refl, sym, ap, ◌∙◌, subst, inl, inr, arith, true≢false}
use Rattle.std.specs.Prelude.{◌⊎◌}
use Rattle.std.proofs.lemmas.List.{append-nil, append_assoc}
use Rattle.std.proofs.lemmas.List.Concat.{flat_map-append}
use Rattle.sf_script_scene.specs.Limits.{IsWithinLimits}
use Rattle.sf_script_scene.specs.Scene.{SceneValue}
use Rattle.sf_record.specs.Events.{closing, event_records, events_records}
use Rattle.sf_record.specs.declared.event.Event.{Event}
use Rattle.sf_record.specs.declared.record.Record.{Record}
use Rattle.law_played.proofs.GoingOn.{transition_taken}
use Rattle.law_played.proofs.PlayLemmas.{one_line, one_play, over_stays}
use Rattle.law_played.proofs.WorkLeft.{HasGone, gone_not, gone_on, gone_transition, is_quiet_then, time_less, work}
use Rattle.law_played.specs.Commits.{IsPrefix}
use Rattle.law_played.specs.Ends.{ArePlayRecords, Ends, records_so_far, shows_of}
use Rattle.law_played.specs.Plays.{Comes, GoesOnTo, GoesOnWith, IsBegun, IsOver, Playing, TakesTransition, first_playing, goes, is_quiet, stays, waits_for_time, with_round}
use Rattle.law_played.specs.Played.{Shows, opening, records_of}
use Rattle.law_played.specs.Runs.{actor_number, rising_actors}
use Rattle.law_played.specs.RunStates.{Transition, RunState}

-- one way behind another
pub comes_both : (scene : SceneValue) (playing next end : Playing) → Comes scene playing next → Comes scene next end → Comes scene playing end
comes_both scene playing _ end stays more = more
comes_both scene playing next end (goes {next = n} on later) more = goes on (comes_both scene n next end later more)

-- some picks were taken, and these are left
record Taken (scene : SceneValue) (playing : Playing) (rest : List ℕ) : Type 0 where
  end : Playing
  comes : Comes scene playing end
  left : end.left ≡ rest
  before : end.before ≡ playing.before
  gone : HasGone scene playing.state end.state

-- a round was played
record PlaysRound (scene : SceneValue) (playing : Playing) : Type 0 where
  end : Playing
  comes : Comes scene playing end
  left : end.left ≡ []
  before : end.before ≡ playing.before
  gone : HasGone scene playing.state end.state
  time : waits_for_time scene end.state ≡ true → work scene end.state + 1 ≤ work scene playing.state

module _ (scene : SceneValue) where
  -- a pick is taken where it is the next
  pick_taken : (pick : ℕ) (left : List ℕ) (playing : Playing) → playing.left ≡ pick ∷ left → (transition : Transition) → TakesTransition scene pick playing.state transition
      → GoesOnTo scene playing (record playing { events = playing.events ++ transition.events; state = transition.state; left = left })
  pick_taken pick left playing e transition takes =
      subst (λ (l : List ℕ). GoesOnWith scene playing l playing.before (record playing { events = playing.events ++ transition.events; state = transition.state; left = left })) (sym e)
      (record { transition = transition; takes = takes; is = refl })

  takes_all : (picks rest : List ℕ) (playing : Playing) → playing.left ≡ picks ++ rest → Taken scene playing rest
  takes_all [] rest playing e = record { end = playing; comes = stays; left = e; before = refl; gone = gone_not scene playing.state }
  takes_all (pick ∷ picks) rest playing e =
      let taken = transition_taken scene pick playing.state in
      let next : Playing = record playing { events = playing.events ++ taken.0.events; state = taken.0.state; left = picks ++ rest } in
      let later = takes_all picks rest next refl in
      record {
        end = later.end;
        comes = goes (pick_taken pick (picks ++ rest) playing e taken.0 taken.1) later.comes;
        left = later.left;
        before = later.before;
        gone = gone_on scene playing.state taken.0.state later.end.state (gone_transition scene pick playing.state taken.0 taken.1) later.gone;
      }

  module _ (low : 1000000 ≤ scene.period) (high : scene.period ≤ 1000000000) where
    -- the picks of a round end with a vsync
    plays_round : (picks : List ℕ) (playing : Playing) → playing.left ≡ picks ++ 0 ∷ [] → PlaysRound scene playing
    plays_round picks playing e =
        let taken = takes_all picks (0 ∷ []) playing e in
        let last = transition_taken scene 0 taken.end.state in
        let end : Playing = record taken.end { events = taken.end.events ++ last.0.events; state = last.0.state; left = [] } in
        let gone = gone_on scene playing.state taken.end.state last.0.state taken.gone (gone_transition scene 0 taken.end.state last.0 last.1) in
        record {
          end = end;
          comes = comes_both scene playing taken.end end taken.comes (goes (pick_taken 0 [] taken.end taken.left last.0 last.1) stays);
          left = refl;
          before = taken.before;
          gone = gone;
          time = λ waits. by_gone taken.end.state taken.gone last.0.state (less_by taken.end.state last.0 last.1 waits);
        }
      where
        less_by : (state : RunState) (transition : Transition) → TakesTransition scene 0 state transition → waits_for_time scene transition.state ≡ true → work scene transition.state + 1 ≤ work scene state
        less_by state transition v waits =
            subst (λ (t : Transition). work scene t.state + 1 ≤ work scene state) (sym v.is)
            (time_less scene state transition v low high (subst (λ (t : Transition). waits_for_time scene t.state ≡ true) v.is waits))

        by_gone : (state : RunState) → HasGone scene playing.state state → (end : RunState) → work scene end + 1 ≤ work scene state → work scene end + 1 ≤ work scene playing.state
        by_gone state (inl more) end less = omega (arith, more, less)
        by_gone state (inr kept) end less = (let more = kept.0 in omega (arith, more, less))

    round_from : (playing : Playing) → PlaysRound scene (with_round scene playing)
    round_from playing = plays_round (map actor_number (rising_actors scene)) (with_round scene playing) refl

    -- a round that was not quiet lessened the work
    busy_less : (playing : Playing) (r : PlaysRound scene (with_round scene playing)) → is_quiet scene playing.state r.end.state ≡ false → work scene r.end.state + 1 ≤ work scene playing.state
    busy_less playing r busy = by_gone r.gone
      where
        by_gone : HasGone scene playing.state r.end.state → work scene r.end.state + 1 ≤ work scene playing.state
        by_gone (inl less) = less
        by_gone (inr kept) = by_waits (waits_for_time scene r.end.state) refl
          where
            by_waits : (waits : Bool) → waits_for_time scene r.end.state ≡ waits → work scene r.end.state + 1 ≤ work scene playing.state
            by_waits true e = r.time e
            by_waits false e = absurd (true≢false (sym (is_quiet_then scene playing.state r.end.state kept.1 e) ∙ busy))

    -- another round may begin
    begins : (playing : Playing) (before : RunState) → playing.left ≡ [] → playing.before ≡ Some before → is_quiet scene before playing.state ≡ false → GoesOnTo scene playing (with_round scene playing)
    begins playing before e b busy =
        subst (λ (l : List ℕ). GoesOnWith scene playing l playing.before (with_round scene playing)) (sym e)
        (subst (λ (o : Option RunState). GoesOnWith scene playing [] o (with_round scene playing)) (sym b) (busy, refl))

    over_then : (playing : Playing) → GoesOnTo scene playing (with_round scene playing) → (r : PlaysRound scene (with_round scene playing)) → is_quiet scene playing.state r.end.state ≡ true
        → Ends scene playing
    over_then playing on r quiet = record { end = r.end; comes = goes on r.comes; over = record { none_left = r.left; before = playing.state; round = r.before; quiet = quiet } }

    -- the end is behind so many rounds at most
    ends_by : (n : ℕ) (playing : Playing) → GoesOnTo scene playing (with_round scene playing) → work scene playing.state ≤ n → Ends scene playing
    ends_by zero playing on few = by_quiet (is_quiet scene playing.state (round_from playing).end.state) refl
      where
        by_quiet : (quiet : Bool) → is_quiet scene playing.state (round_from playing).end.state ≡ quiet → Ends scene playing
        by_quiet true e = over_then playing on (round_from playing) e
        by_quiet false e = (let less = busy_less playing (round_from playing) e in absurd (omega (arith, few, less)))
    ends_by (suc m) playing on few = by_quiet (ends_by m (round_from playing).end) (is_quiet scene playing.state (round_from playing).end.state) refl
      where
        by_quiet : (GoesOnTo scene (round_from playing).end (with_round scene (round_from playing).end) → work scene (round_from playing).end.state ≤ m → Ends scene (round_from playing).end)
            → (quiet : Bool) → is_quiet scene playing.state (round_from playing).end.state ≡ quiet → Ends scene playing
        by_quiet later true e = over_then playing on (round_from playing) e
        by_quiet later false e =
            let r = round_from playing in
            let less = busy_less playing r e in
            let rest = later (begins r.end playing.state r.left r.before e) (omega (arith, few, less)) in
            record { end = rest.end; comes = goes on (comes_both scene (with_round scene playing) r.end rest.end r.comes rest.comes); over = rest.over }

    -- where no pick is left
    ends_from : (playing : Playing) → playing.left ≡ [] → Ends scene playing
    ends_from playing e = by_before playing.before refl
      where
        by_before : (before : Option RunState) → playing.before ≡ before → Ends scene playing
        by_before None b =
            ends_by (work scene playing.state) playing (subst (λ (l : List ℕ). GoesOnWith scene playing l playing.before (with_round scene playing)) (sym e)
            (subst (λ (o : Option RunState). GoesOnWith scene playing [] o (with_round scene playing)) (sym b) refl)) (omega arith)
        by_before (Some before) b = by_quiet (is_quiet scene before playing.state) refl
          where
            by_quiet : (quiet : Bool) → is_quiet scene before playing.state ≡ quiet → Ends scene playing
            by_quiet true q = record { end = playing; comes = stays; over = record { none_left = e; before = before; round = b; quiet = q } }
            by_quiet false q = ends_by (work scene playing.state) playing (begins playing before e b q) (omega arith)

-- each play comes to its end, whose vsyncs are not too close and not too far apart
timed_ends : (scene : SceneValue) (playing : Playing) → 1000000 ≤ scene.period → scene.period ≤ 1000000000 → Ends scene playing
timed_ends scene playing low high =
    let taken = takes_all scene playing.left [] playing (sym (append-nil playing.left)) in
    let rest = ends_from scene low high taken.end taken.left in
    record { end = rest.end; comes = comes_both scene playing taken.end rest.end taken.comes rest.comes; over = rest.over }

pub play_ends : (scene : SceneValue) (playing : Playing) → IsWithinLimits scene → Ends scene playing
play_ends scene playing limits = timed_ends scene playing limits.header.low_period limits.header.high_period

events_more : (events more : List Event) → events_records (events ++ more) ≡ events_records events ++ events_records more
unfolding events_records
events_more events more = flat_map-append event_records events more

before_more : {X : Type 0} (front later : List X) → IsPrefix front (front ++ later)
before_more front later = record { rest = later; joined = refl }

before_both : {X : Type 0} (front whole all : List X) → IsPrefix front whole → IsPrefix whole all → IsPrefix front all
before_both {X} front whole all some more =
    record { rest = some.rest ++ more.rest; joined = sym (append_assoc front some.rest more.rest) ∙ (ap (λ (xs : List X). xs ++ more.rest) some.joined ∙ more.joined) }

module _ (scene : SceneValue) where
  -- what was shown stays, and more stands behind it
  shows_on : (playing next : Playing) (left : List ℕ) (before : Option RunState) → GoesOnWith scene playing left before next → IsPrefix (records_so_far scene playing.events) (records_so_far scene next.events)
  shows_on playing next (pick ∷ left) before on =
      let more = ap (λ (p : Playing). p.events) on.is in
      record {
        rest = events_records on.transition.events;
        joined = ap (λ (rs : List Record). opening scene ∷ rs) (sym (events_more playing.events on.transition.events)) ∙ ap (records_so_far scene) (sym more);
      }
  shows_on playing next [] None on = record { rest = []; joined = append-nil (records_so_far scene playing.events) ∙ ap (λ (p : Playing). records_so_far scene p.events) (sym on) }
  shows_on playing next [] (Some before) on = record { rest = []; joined = append-nil (records_so_far scene playing.events) ∙ ap (λ (p : Playing). records_so_far scene p.events) (sym on.1) }

  pub records_on : (playing next : Playing) → Comes scene playing next → IsPrefix (records_so_far scene playing.events) (records_so_far scene next.events)
  records_on playing _ stays = record { rest = []; joined = append-nil (records_so_far scene playing.events) }
  records_on playing end (goes {next = n} on later) =
      before_both (records_so_far scene playing.events) (records_so_far scene n.events) (records_so_far scene end.events) (shows_on playing n playing.left playing.before on) (records_on n end later)

  -- a play that has begun has records
  ended_records : (playing : Playing) → Ends scene playing → IsBegun scene playing → (records : List Record) × ArePlayRecords scene records × IsPrefix (records_so_far scene playing.events) records
  ended_records playing ends begun =
      let shows = shows_of scene ends.end.events ends.end.state in
      let records = records_of scene shows in (
        records,
        record {
          events = ends.end.events;
          state = ends.end.state;
          is_play = record { playing = ends.end; begun = comes_both scene (first_playing scene) playing ends.end begun ends.comes; over = ends.over; shows = refl; ends = refl };
          are = refl;
        },
        before_both (records_so_far scene playing.events) (records_so_far scene ends.end.events) records (records_on playing ends.end ends.comes)
            (before_more (records_so_far scene ends.end.events) (closing shows.arrived shows.histories shows.held shows.stuck)),
      )

  pub has_records : (playing : Playing) → IsWithinLimits scene → IsBegun scene playing → (records : List Record) × ArePlayRecords scene records × IsPrefix (records_so_far scene playing.events) records
  has_records playing limits begun = ended_records playing (play_ends scene playing limits) begun

  -- the period alone makes a scene have a play
  pub timed_records : 1000000 ≤ scene.period → scene.period ≤ 1000000000 → (records : List Record) × ArePlayRecords scene records
  timed_records low high = let all = ended_records (first_playing scene) (timed_ends scene (first_playing scene) low high) stays in (all.0, all.1)

  -- and no other ones
  pub one_records : (records others : List Record) → ArePlayRecords scene records → ArePlayRecords scene others → records ≡ others
  one_records records others are also =
      let same = one_play scene are.events also.events are.state also.state are.is_play also.is_play in
      are.are ∙ ((λ i. records_of scene (shows_of scene (same.0 i) (same.1 i))) ∙ sym also.are)

  ended : (end playing : Playing) → IsOver scene end → Comes scene end playing → IsPrefix (records_so_far scene playing.events) (records_so_far scene end.events)
  ended end _ over stays = record { rest = []; joined = append-nil (records_so_far scene end.events) }
  ended end playing over (goes {next = n} on later) = absurd (over_stays scene end n over on)

  -- which begin with what any begun play of the scene showed so far
  pub begin_so : (playing : Playing) (records : List Record) → IsBegun scene playing → ArePlayRecords scene records → IsPrefix (records_so_far scene playing.events) records
  begin_so playing records begun are = by_line (one_line scene (first_playing scene) playing end begun are.is_play.begun)
    where
      end : Playing
      end = are.is_play.playing

      shows : Shows
      shows = shows_of scene are.events are.state

      to_end : IsPrefix (records_so_far scene playing.events) (records_so_far scene end.events) → IsPrefix (records_so_far scene playing.events) records
      to_end first =
          subst (λ (rs : List Record). IsPrefix (records_so_far scene playing.events) rs)
          (ap (λ (events : List Event). records_so_far scene events ++ closing shows.arrived shows.histories shows.held shows.stuck) are.is_play.shows ∙ sym are.are)
          (before_both (records_so_far scene playing.events) (records_so_far scene end.events) (records_so_far scene end.events ++ closing shows.arrived shows.histories shows.held shows.stuck) first
          (before_more (records_so_far scene end.events) (closing shows.arrived shows.histories shows.held shows.stuck)))

      by_line : Comes scene playing end ⊎ Comes scene end playing → IsPrefix (records_so_far scene playing.events) records
      by_line (inl comes) = to_end (records_on playing end comes)
      by_line (inr comes) = to_end (ended end playing are.is_play.over comes)

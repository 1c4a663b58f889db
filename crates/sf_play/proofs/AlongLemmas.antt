-- A player's place and the play of its scene go on together.
use Rattle.std.proofs.Common.{◌≡◌, ℕ, zero, suc, ◌+◌, ◌-◌, ◌<◌, ◌≤◌, Bool, true, false, not, ◌&&◌, ◌||◌, List, [], ◌∷◌, ◌++◌, drop, length, map, replicate, Option, Some, None, refl, ap, sym, ◌∙◌, subst, inl, inr, arith}
use Rattle.std.specs.Prelude.{◌==◌, if◌then◌else◌, nat_lt, slice_get, Contains}
use Rattle.std.specs.List.{flat_map, list_all, list_any}
use Rattle.std.proofs.lemmas.Bool.{eq-eqb, ltb-false, ne_eqb}
use Rattle.std.proofs.lemmas.List.{append-nil}
use Rattle.sf_play_report.specs.sf_ready.declared.hold.Hold.{Hold}
use Rattle.sf_play_report.specs.sf_tree.Trees.{TreeOf}
use Rattle.sf_play_report.specs.sf_commit.OnLayers.{OnLayer}
use Rattle.sf_play_report.specs.sf_commit.declared.vsync.Commit.{Commit}
use Rattle.sf_script_scene.specs.Scene.{SceneValue}
use Rattle.sf_script_scene.specs.declared.declarations.Pick.{Pick}
use Rattle.sf_script_scene.specs.declared.step.ActorScript.{ActorScript}
use Rattle.sf_play_report.specs.sf_record.declared.event.Event.{Event}
use Rattle.sf_play_report.specs.sf_actor.Names.{FrameOf}
use Rattle.sf_play_report.proofs.law_played_lemmas.Members.{has_cases, has_none}
use Rattle.sf_play_report.proofs.law_played_lemmas.PlayLemmas.{comes_on}
use Rattle.sf_play_report.proofs.law_played_lemmas.RoundEnd.{quiet_bare, quiet_some}
use Rattle.sf_play_report.specs.law_played.Progress.{is_time}
use Rattle.sf_play_report.specs.law_played.Plays.{Comes, GoesOnTo, GoesOnWith, IsBegun, Playing, TakesTransition, first_playing, is_quiet, picks_of, with_round}
use Rattle.sf_play_report.specs.law_played.Runs.{actor_number, rising_actors}
use Rattle.sf_play_report.specs.law_played.RunStates.{IsPlaysVsync, Transition, RunState, after_vsync, first_state, idle}
use Rattle.sf_play.specs.Alongs.{IsInRound, PlaysTo, behind_round, left_in, left_of_round, none_stepped}
use Rattle.sf_play.specs.Places.{behind, settled, settled_at}
use Rattle.sf_play.specs.declared.place.Place.{Place}
use Rattle.sf_play.specs.declared.place.Place.TheVariants as at

-- nothing done of the first pick
left_whole : (picks : List Pick) → left_in picks 0 ≡ flat_map picks_of picks
left_whole [] = refl
left_whole (pick ∷ later) = (let same : pick.times - 0 ≡ pick.times = omega arith in ap (λ n. replicate n pick.actor ++ flat_map picks_of later) same)

-- the picks from a place on
from_there : {X : Type 0} (xs : List X) (place : ℕ) (x : X) → slice_get xs place ≡ Some x → drop place xs ≡ x ∷ drop (suc place) xs
from_there [] place x e = absurd (cc (e))
from_there (y ∷ ys) zero x e = (let same : y ≡ x = cc in ap (λ z. z ∷ ys) same)
from_there (y ∷ ys) (suc place) x e = from_there ys place x e

from_place : {X : Type 0} (xs : List X) (place : ℕ) (x : X) → slice_get xs place ≡ Some x → drop place xs ≡ x ∷ drop (place + 1) xs
from_place xs place x e = (let next : suc place ≡ place + 1 = omega arith in from_there xs place x e ∙ ap (λ n. x ∷ drop n xs) next)

no_place : {X : Type 0} (xs : List X) (place : ℕ) → slice_get xs place ≡ None → drop place xs ≡ []
no_place [] zero e = refl
no_place [] (suc place) e = refl
no_place (y ∷ ys) zero e = absurd (cc (e))
no_place (y ∷ ys) (suc place) e = no_place ys place e

past_end : {X : Type 0} (xs : List X) (place : ℕ) → length xs ≤ place → drop place xs ≡ []
past_end [] zero less = refl
past_end [] (suc place) less = refl
past_end (y ∷ ys) zero less = absurd (omega (arith, less))
past_end (y ∷ ys) (suc place) less = past_end ys place (omega (arith, less))

same_all : (scene : SceneValue) (state : RunState) → none_stepped scene state state ≡ true
same_all scene state = all scene.actors
  where
    all : (scripts : List ActorScript) → list_all (λ (script : ActorScript). length (state.run.trace script.number) == length (state.run.trace script.number)) scripts ≡ true
    all [] = refl
    all (s ∷ ss) = rw (eq-eqb (length (state.run.trace s.number)) (length (state.run.trace s.number)) refl) (all ss)

module _ (scene : SceneValue) where
  -- a play begins before the first pick
  pub plays_first : PlaysTo scene [] first_state (at.Order 0 0)
  plays_first = record {
    playing = first_playing scene;
    begun = Comes.stays;
    shows = refl;
    comes = refl;
    at_place = (refl, sym (left_whole scene.order));
  }

  -- where no pick is left, a round begins
  opens : (playing : Playing) → playing.left ≡ [] → playing.before ≡ None → GoesOnTo scene playing (with_round scene playing)
  opens playing none before =
      subst (λ left. GoesOnWith scene playing left playing.before (with_round scene playing)) (sym none)
      (subst (λ o. GoesOnWith scene playing [] o (with_round scene playing)) (sym before) refl)

  round_begun : (playing : Playing) → IsInRound scene (with_round scene playing) 0 false
  round_begun playing = record {
    before = playing.state;
    round = refl;
    left = refl;
    reports = refl;
    grows = λ actor. omega arith;
    did = same_all scene playing.state;
  }

  opened : (events : List Event) (state : RunState) (playing : Playing) → IsBegun scene playing → playing.events ≡ events → playing.state ≡ state → playing.left ≡ [] → playing.before ≡ None
      → PlaysTo scene events state (at.Round 0 false)
  opened events state playing begun shows comes none before = record {
    playing = with_round scene playing;
    begun = comes_on scene (first_playing scene) playing (with_round scene playing) begun (opens playing none before);
    shows = shows;
    comes = comes;
    at_place = round_begun playing;
  }

  -- the next place at which a transition is taken
  pub plays_settled : (events : List Event) (state : RunState) (place : Place) → PlaysTo scene events state place → PlaysTo scene events state (settled scene.order place)
  plays_settled events state (at.Order place done) plays = by_pick (slice_get scene.order place) refl
    where
      by_rest : (pick : Pick) → slice_get scene.order place ≡ Some pick → pick.times ≤ done → plays.playing.left ≡ flat_map picks_of (drop (place + 1) scene.order)
      by_rest pick e most =
          let none : pick.times - done ≡ 0 = omega (arith, most) in
          plays.at_place.1 ∙ (ap (λ picks. left_in picks done) (from_place scene.order place pick e) ∙ ap (λ n. replicate n pick.actor ++ flat_map picks_of (drop (place + 1) scene.order)) none)

      by_behind : (pick : Pick) → slice_get scene.order place ≡ Some pick → pick.times ≤ done → (b : Bool) → nat_lt (place + 1) (length scene.order) ≡ b
          → PlaysTo scene events state (if b then at.Order (place + 1) 0 else at.Round 0 false)
      by_behind pick e most true less = record {
        playing = plays.playing;
        begun = plays.begun;
        shows = plays.shows;
        comes = plays.comes;
        at_place = (plays.at_place.0, by_rest pick e most ∙ sym (left_whole (drop (place + 1) scene.order)));
      }
      by_behind pick e most false less =
          opened events state plays.playing plays.begun plays.shows plays.comes
          (by_rest pick e most ∙ ap (flat_map picks_of) (past_end scene.order (place + 1) (ltb-false (place + 1) (length scene.order) less))) plays.at_place.0

      by_actions : (pick : Pick) → slice_get scene.order place ≡ Some pick → (b : Bool) → nat_lt done pick.times ≡ b → PlaysTo scene events state (if b then at.Order place done else behind scene.order place)
      by_actions pick e true less = plays
      by_actions pick e false less = by_behind pick e (ltb-false done pick.times less) (nat_lt (place + 1) (length scene.order)) refl

      by_pick : (o : Option Pick) → slice_get scene.order place ≡ o → PlaysTo scene events state (settled_at scene.order place done (slice_get scene.order place))
      by_pick None e =
          subst (λ o. PlaysTo scene events state (settled_at scene.order place done o)) (sym e)
          (opened events state plays.playing plays.begun plays.shows plays.comes (plays.at_place.1 ∙ ap (λ picks. left_in picks done) (no_place scene.order place e)) plays.at_place.0)
      by_pick (Some pick) e = subst (λ o. PlaysTo scene events state (settled_at scene.order place done o)) (sym e) (by_actions pick e (nat_lt done pick.times) refl)
  plays_settled events state (at.Round place stepped) plays = plays
  plays_settled events state at.End plays = plays

  -- a transition of a pick of the order
  takes : (playing : Playing) (pick : ℕ) (left : List ℕ) (transition : Transition) → playing.left ≡ pick ∷ left → TakesTransition scene pick playing.state transition
      → GoesOnTo scene playing (record playing { events = playing.events ++ transition.events; state = transition.state; left = left })
  takes playing pick left transition e takes' =
      subst (λ l. GoesOnWith scene playing l playing.before (record playing { events = playing.events ++ transition.events; state = transition.state; left = left })) (sym e)
      (record { transition = transition; takes = takes'; is = refl })

  pub plays_pick : (events : List Event) (state : RunState) (place done : ℕ) (pick : Pick) (transition : Transition) → PlaysTo scene events state (at.Order place done)
      → slice_get scene.order place ≡ Some pick → done < pick.times → TakesTransition scene pick.actor state transition
      → PlaysTo scene (events ++ transition.events) transition.state (at.Order place (done + 1))
  plays_pick events state place done pick transition plays e less takes' =
      let rest = replicate (pick.times - (done + 1)) pick.actor ++ flat_map picks_of (drop (place + 1) scene.order) in
      let count : pick.times - done ≡ suc (pick.times - (done + 1)) = omega (arith, less) in
      let here : plays.playing.left ≡ pick.actor ∷ rest =
      plays.at_place.1 ∙ (ap (λ picks. left_in picks done) (from_place scene.order place pick e) ∙ ap (λ n. replicate n pick.actor ++ flat_map picks_of (drop (place + 1) scene.order)) count) in
      record {
        playing = record plays.playing { events = plays.playing.events ++ transition.events; state = transition.state; left = rest };
        begun = comes_on scene (first_playing scene) plays.playing (record plays.playing { events = plays.playing.events ++ transition.events; state = transition.state; left = rest }) plays.begun
            (takes plays.playing pick.actor rest transition here (subst (λ w. TakesTransition scene pick.actor w transition) (sym plays.comes) takes'));
        shows = ap (λ es. es ++ transition.events) plays.shows;
        comes = refl;
        at_place = (plays.at_place.0, sym (ap (λ picks. left_in picks (done + 1)) (from_place scene.order place pick e)));
      }

  -- a transition of an actor in a round: it did nothing, or a step
  pub plays_idle : (events : List Event) (state : RunState) (place : ℕ) (stepped : Bool) (script : ActorScript) (transition : Transition) → PlaysTo scene events state (at.Round place stepped)
      → slice_get (rising_actors scene) place ≡ Some script → TakesTransition scene script.number state transition → transition ≡ idle state → PlaysTo scene events state (at.Round (place + 1) stepped)
  plays_idle events state place stepped script transition plays e takes' nothing =
      let rest = left_of_round scene (place + 1) in
      let here : plays.playing.left ≡ script.number ∷ rest = plays.at_place.left ∙ ap (λ scripts. map actor_number scripts ++ 0 ∷ []) (from_place (rising_actors scene) place script e) in
      let next : Playing = record plays.playing { events = plays.playing.events ++ transition.events; state = transition.state; left = rest } in
      let same : transition.state ≡ plays.playing.state = ap (λ (t : Transition). t.state) nothing ∙ sym plays.comes in
      record {
        playing = next;
        begun = comes_on scene (first_playing scene) plays.playing next plays.begun
            (takes plays.playing script.number rest transition here (subst (λ w. TakesTransition scene script.number w transition) (sym plays.comes) takes'));
        shows = ap (λ (t : Transition). plays.playing.events ++ t.events) nothing ∙ (append-nil plays.playing.events ∙ plays.shows);
        comes = ap (λ (t : Transition). t.state) nothing;
        at_place = record {
          before = plays.at_place.before;
          round = plays.at_place.round;
          left = refl;
          reports = ap (λ (w : RunState). w.reports) same ∙ plays.at_place.reports;
          grows = λ actor. subst (λ (w : RunState). length (plays.at_place.before.run.trace actor) ≤ length (w.run.trace actor)) (sym same) (plays.at_place.grows actor);
          did = ap (none_stepped scene plays.at_place.before) same ∙ plays.at_place.did;
        };
      }

  -- one that did more is not as it was
  one_did : (before now : RunState) (script : ActorScript) (scripts : List ActorScript) → Contains scripts script → length (before.run.trace script.number) < length (now.run.trace script.number)
      → list_all (λ (s : ActorScript). length (now.run.trace s.number) == length (before.run.trace s.number)) scripts ≡ false
  one_did before now script [] there more = has_none script there
  one_did before now script (s ∷ ss) there more = elim (has_cases s script ss there) [
    | inl same ↦
        let apart : (length (now.run.trace s.number) == length (before.run.trace s.number)) ≡ false =
        subst (λ (x : ActorScript). (length (now.run.trace x.number) == length (before.run.trace x.number)) ≡ false) (sym same)
        (ne_eqb (length (now.run.trace script.number)) (length (before.run.trace script.number)) (λ e. omega (arith, more, e))) in
        rw apart refl
    | inr later ↦ by_first (length (now.run.trace s.number) == length (before.run.trace s.number)) (one_did before now script ss later more)
  ]
    where
      by_first : (b : Bool) → list_all (λ (s : ActorScript). length (now.run.trace s.number) == length (before.run.trace s.number)) ss ≡ false
          → (b && list_all (λ (s : ActorScript). length (now.run.trace s.number) == length (before.run.trace s.number)) ss) ≡ false
      by_first true rest = rest
      by_first false rest = refl

  pub plays_step : (events : List Event) (state : RunState) (place : ℕ) (stepped : Bool) (script : ActorScript) (transition : Transition) → PlaysTo scene events state (at.Round place stepped)
      → slice_get (rising_actors scene) place ≡ Some script → Contains scene.actors script → TakesTransition scene script.number state transition → transition.state.reports ≡ state.reports
      → ((actor : ℕ) → length (state.run.trace actor) ≤ length (transition.state.run.trace actor)) → length (state.run.trace script.number) < length (transition.state.run.trace script.number)
      → PlaysTo scene (events ++ transition.events) transition.state (at.Round (place + 1) true)
  plays_step events state place stepped script transition plays e inside takes' reports grows more =
      let rest = left_of_round scene (place + 1) in
      let here : plays.playing.left ≡ script.number ∷ rest = plays.at_place.left ∙ ap (λ scripts. map actor_number scripts ++ 0 ∷ []) (from_place (rising_actors scene) place script e) in
      let next : Playing = record plays.playing { events = plays.playing.events ++ transition.events; state = transition.state; left = rest } in
      let was = plays.at_place.before in
      let grown = λ (actor : ℕ). subst (λ (w : RunState). length (was.run.trace actor) ≤ length (w.run.trace actor)) plays.comes (plays.at_place.grows actor) in
      record {
        playing = next;
        begun = comes_on scene (first_playing scene) plays.playing next plays.begun
            (takes plays.playing script.number rest transition here (subst (λ w. TakesTransition scene script.number w transition) (sym plays.comes) takes'));
        shows = ap (λ es. es ++ transition.events) plays.shows;
        comes = refl;
        at_place = record {
          before = was;
          round = plays.at_place.round;
          left = refl;
          reports = reports ∙ (ap (λ (w : RunState). w.reports) (sym plays.comes) ∙ plays.at_place.reports);
          grows = λ actor. (let a = grown actor in let b = grows actor in omega (arith, a, b));
          did = one_did was transition.state script scene.actors inside (let a = grown script.number in omega (arith, a, more));
        };
      }

  -- the vsync of a round: another one follows, or the play is over
  module _ (events : List Event) (state : RunState) (place : ℕ) (stepped : Bool) (plays : PlaysTo scene events state (at.Round place stepped)) (all_had : length (rising_actors scene) ≤ place)
      (commits : List Commit) (tree : TreeOf) (gone : List (OnLayer FrameOf)) (holds : List (ℕ × Hold)) (v : IsPlaysVsync scene state commits tree gone holds) where
    abbrev transition : Transition
    transition = after_vsync scene state v.end

    abbrev next : Playing
    next = record plays.playing { events = plays.playing.events ++ transition.events; state = transition.state; left = [] }

    abbrev was : RunState
    was = plays.at_place.before

    abbrev none_did : Bool
    none_did = none_stepped scene was state

    did_is : none_did ≡ not stepped
    did_is = ap (none_stepped scene was) (sym plays.comes) ∙ plays.at_place.did

    reports_are : state.reports ≡ was.reports
    reports_are = ap (λ (w : RunState). w.reports) (sym plays.comes) ∙ plays.at_place.reports

    begun_next : IsBegun scene next
    begun_next =
        let here : plays.playing.left ≡ 0 ∷ [] = plays.at_place.left ∙ ap (λ scripts. map actor_number scripts ++ 0 ∷ []) (past_end (rising_actors scene) place all_had) in
        comes_on scene (first_playing scene) plays.playing next plays.begun
        (takes plays.playing 0 [] transition here (subst (λ w. TakesTransition scene 0 w transition) (sym plays.comes) (record { end = v.end; decides = v.decides; is = refl })))

    again : is_quiet scene was transition.state ≡ false → PlaysTo scene (events ++ transition.events) transition.state (at.Round 0 false)
    again busy = record {
      playing = with_round scene next;
      begun = comes_on scene (first_playing scene) next (with_round scene next) begun_next
          (subst (λ o. GoesOnWith scene next [] o (with_round scene next)) (sym plays.at_place.round) (busy, refl));
      shows = ap (λ es. es ++ transition.events) plays.shows;
      comes = refl;
      at_place = round_begun next;
    }

    over : is_quiet scene was transition.state ≡ true → PlaysTo scene (events ++ transition.events) transition.state at.End
    over quiet = record {
      playing = next;
      begun = begun_next;
      shows = ap (λ es. es ++ transition.events) plays.shows;
      comes = refl;
      at_place = record { none_left = refl; before = was; round = plays.at_place.round; quiet = quiet };
    }

    pub plays_round : PlaysTo scene (events ++ transition.events) transition.state (behind_round stepped commits holds)
    plays_round = by_commits commits refl
      where
        waits : Bool
        waits = list_any (λ (h : ℕ × Hold). is_time h.1) holds

        by_none : (b w : Bool) → stepped ≡ b → waits ≡ w → commits ≡ [] → PlaysTo scene (events ++ transition.events) transition.state (if b || w then at.Round 0 false else at.End)
        by_none true w s e none = again (quiet_bare scene state commits tree gone holds v was reports_are none ∙ (λ i. (did_is ∙ ap not s) i && not (e i)))
        by_none false true s e none = again (quiet_bare scene state commits tree gone holds v was reports_are none ∙ (λ i. (did_is ∙ ap not s) i && not (e i)))
        by_none false false s e none = over (quiet_bare scene state commits tree gone holds v was reports_are none ∙ (λ i. (did_is ∙ ap not s) i && not (e i)))

        by_some : (b : Bool) → is_quiet scene was transition.state ≡ false → PlaysTo scene (events ++ transition.events) transition.state (if b || true then at.Round 0 false else at.End)
        by_some true busy = again busy
        by_some false busy = again busy

        by_commits : (cs : List Commit) → commits ≡ cs → PlaysTo scene (events ++ transition.events) transition.state (behind_round stepped cs holds)
        by_commits [] e = by_none stepped waits refl refl e
        by_commits (c ∷ cs) e = by_some stepped (quiet_some scene state commits tree gone holds v was reports_are c cs e)

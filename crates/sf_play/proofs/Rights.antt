-- A player that did nothing yet stands along with the play of its scene.
use Rattle.std.proofs.Common.{◌≡◌, ℕ, ◌≤◌, ◌<◌, true, false, List, [], ◌∷◌, map, refl, ap, sym, ◌∙◌, subst, arith}
use Rattle.std.specs.Prelude.{Contains}
use Rattle.std.specs.List.{All, AllZip, flat_map}
use Rattle.std.proofs.lemmas.List.Sorted.{All-permutation}
use Rattle.atomic_table.specs.Seated.{TableId}
use Rattle.sf_picture.specs.declared.picture.Picture.{Picture}
use Rattle.sf_play_report.specs.sf_surface.Objects.{ObjectOf, mark_of}
use Rattle.sf_play_report.specs.sf_surface.Tokens.{ReadLeaseOf}
use Rattle.sf_play_report.specs.sf_turns.Counts.{range, stock_at}
use Rattle.sf_play_report.specs.sf_turns.Views.{SeatView}
use Rattle.sf_play_report.specs.sf_ready.declared.hold.Hold.{Hold}
use Rattle.sf_play_report.specs.sf_commit.Handlers.{HandlerOf, new_handler}
use Rattle.sf_script_scene.specs.Limits.{IsWithinLimits, most_layers}
use Rattle.sf_script_scene.specs.Scene.{SceneValue, has_queue as has_declared}
use Rattle.sf_script_scene.specs.declared.declarations.QueueDecl.{QueueDecl}
use Rattle.sf_script_scene.specs.declared.step.ActorScript.{ActorScript}
use Rattle.sf_play_report.specs.sf_actor.Desks.{DeskHome, DeskView, has_queue}
use Rattle.sf_play_report.specs.sf_actor.Plain.{home_of}
use Rattle.sf_play_report.specs.sf_actor.Scripts.{picture_at}
use Rattle.sf_play_report.specs.sf_actor.Tries.{ActorOf}
use Rattle.law_rights.specs.sf_actor_steps.Actors.{IsActor}
use Rattle.law_rights.specs.sf_actor_steps.Playable.{MayPlay}
use Rattle.law_rights.specs.sf_actor_steps.declared.actor.Actor.{Actor}
use Rattle.law_rights.proofs.sf_actor_set_lemmas.OpeningLemmas.{news_scripts}
use Rattle.law_rights.proofs.sf_actor_set_lemmas.PlayingLemmas.{has_opened, may_play}
use Rattle.law_rights.proofs.sf_actor_set_lemmas.RisingLemmas.{rising_differ, sorted_rises}
use Rattle.law_rights.specs.sf_actor_set.ActorSets.{ActorSetOf, KeepAs, Opens}
use Rattle.law_rights.specs.sf_actor_set.Opening.{new_actors, new_queue}
use Rattle.law_rights.specs.sf_actor_set.Scripts.{permits_of}
use Rattle.sf_play_report.proofs.law_played_lemmas.Parts.{map_twice}
use Rattle.sf_play_report.proofs.law_played_lemmas.RisingNumbers.{rising_queues_are}
use Rattle.sf_play_report.specs.law_played.Actors.{mark_declared}
use Rattle.sf_play_report.specs.law_played.Histories.{queue_number, rising_queues}
use Rattle.sf_play_report.specs.law_played.Turns.{calls_in}
use Rattle.law_rights.proofs.InTurnBeginning.{draws_begin}
use Rattle.law_rights.proofs.MakersBeginning.{makers_begin}
use Rattle.law_rights.proofs.EmptyLedger.{begins_standing}
use Rattle.law_rights.specs.Standing.{stock_of}
use Rattle.law_rights.specs.Standing.{Begins as RightsBegin}
use Rattle.law_rights.specs.States.{AreApart}
use Rattle.sf_play.proofs.AlongEnds.{begins_along}
use Rattle.sf_play.proofs.BeforeFirstAction.{arrivals_none, calls_none, nothing, stands_at_first}
use Rattle.sf_play.proofs.ActionKeepsPlayer.{begins_stand}
use Rattle.sf_play.proofs.Stocks.{all_fresh, dealt_below, dealt_once, marks_apart}
use Rattle.sf_play.specs.Alongs.{PlaysSo}
use Rattle.sf_play.specs.Players.{PlayOf, PlayerOf, SoFar, home_in, run_so, view_in}
use Rattle.sf_play.specs.Playing.{KeepsRights}
use Rattle.sf_play.specs.Standing.{Begins, HoldsAt, IsPlayer, StandsAlong}
use Rattle.sf_play.specs.declared.place.Place.{Place}
use Rattle.sf_play.specs.declared.place.Place.TheVariants as at

-- before the first action
module _ {B : Type 0} (table : TableId) (scene : SceneValue) (limits : IsWithinLimits scene) (seat : SeatView) (stock : List ℕ) (play : PlayOf B) (opens : Opens table scene.queues scene.pictures scene.actors seat stock play.actor_set)
    (period : play.period ≡ scene.period) (order : play.order ≡ scene.order) (handler : play.handler ≡ new_handler scene.width scene.height (most_layers scene.version)) (none : play.vsyncs ≡ 0) where
  opened_are : (home : DeskHome) (view : DeskView B) (pictures : ℕ → Picture) (actors : List (Actor B)) (ofs : List (ActorOf B)) → KeepAs table pictures home view actors ofs → AllZip (IsActor table) actors ofs
  opened_are home view pictures [] [] keep = tt
  opened_are home view pictures [] (of ∷ ofs) keep = absurd keep
  opened_are home view pictures (actor ∷ actors) [] keep = absurd keep
  opened_are home view pictures (actor ∷ actors) (of ∷ ofs) keep = (keep.0.is, opened_are home view pictures actors ofs keep.1)

  marks_opened : (home_of play.actor_set.desk).marks ≡ map mark_of (map (new_queue {B = B}) opens.queues_opened.declared)
  marks_opened = ap (map mark_of) opens.queues_opened.opened

  module _ (fresh : seat.leaves ≡ []) (whole : stock ≡ range 0 (permits_of scene.actors)) (sized : permits_of scene.actors ≤ table.slots) where
    -- nothing has happened
    begins_bare : RightsBegin table.slots (home_in play) (view_in play) (new_actors opens.declared stock) play.handler
    begins_bare = record {
      fresh = all_fresh opens.declared stock;
      calls = calls_none table scene limits seat stock play opens period order handler none;
      arrivals = arrivals_none table scene limits seat stock play opens period order handler none;
      leaves = ap (λ (s : SeatView). s.leaves) opens.same_seat ∙ fresh;
      pending = ap (λ (h : HandlerOf ReadLeaseOf). h.pending) handler;
      on = ap (λ (h : HandlerOf ReadLeaseOf). h.on) handler;
      exact = refl;
      apart = subst AreApart (sym marks_opened)
          (marks_apart B opens.queues_opened.declared (rising_differ (map queue_number opens.queues_opened.declared) (sorted_rises queue_number scene.queues opens.queues_opened.declared limits.queues.differ opens.queues_opened.sorted)));
      once = λ number. subst (λ (s : List ℕ). stock_at number (flat_map stock_of (new_actors {B = B} opens.declared s)) ≤ 1) (sym whole) (dealt_once B number (permits_of scene.actors) opens.declared);
      below = λ number there. low number (dealt_below B number (permits_of scene.actors) opens.declared (subst (λ (s : List ℕ). Contains (flat_map stock_of (new_actors {B = B} opens.declared s)) number) whole there));
    }
      where
        low : (number : ℕ) → number < permits_of scene.actors → number < table.slots
        low number less = omega (arith, less, sized)

    abbrev so : SoFar B
    so = nothing table scene limits seat stock play opens period order handler none

    pub rights_first : KeepsRights table scene so play
    rights_first = record {
      ledger = begins_standing table.slots (home_in play) (view_in play) (new_actors opens.declared stock) play.handler begins_bare;
      makers = makers_begin table.slots (home_in play) (view_in play) (new_actors opens.declared stock) play.handler begins_bare (run_so so play) (calls_in scene (run_so so play));
      draws = draws_begin scene table.slots (home_in play) (view_in play) (new_actors opens.declared stock) play.handler begins_bare;
      plays = subst (λ (ss : List ActorScript). All (MayPlay (home_in play) scene.pictures) ss)
          (sym (news_scripts table play.actor_set.actors opens.declared stock (opened_are (home_in play) (view_in play) (picture_at play.actor_set.pictures) play.actor_set.actors (new_actors opens.declared stock) opens.keep)))
          (All-permutation (MayPlay (home_in play) scene.pictures) scene.actors opens.declared opens.sorted.permutation (may_play scene (home_in play) limits has (λ n. refl)));
    }
      where
        has : (n : ℕ) → has_declared scene.queues n ≡ true → has_queue (home_in play) n ≡ true
        has n known = subst (λ (os : List (ObjectOf B)). has_queue (home_of (record play.actor_set.desk { queues = os })) n ≡ true) (sym opens.queues_opened.opened) (has_opened B scene.queues opens.queues_opened.declared n opens.queues_opened.sorted.permutation known)

    -- its queues are by rising number
    marks_first : (home_in play).marks ≡ map mark_declared (rising_queues scene)
    marks_first =
        marks_opened
        ∙ map_twice (new_queue {B = B}) mark_of opens.queues_opened.declared
        ∙ ap (map mark_declared) (sym (rising_queues_are scene opens.queues_opened.declared limits opens.queues_opened.sorted.permutation
        (sorted_rises queue_number scene.queues opens.queues_opened.declared limits.queues.differ opens.queues_opened.sorted)))

    -- a player that did nothing yet stands along
    pub along_first : (place : Place) (held : List (ℕ × Hold)) → place ≡ at.Order 0 0 → StandsAlong table scene so (record { play = play; place = place; held = held; is_spent = false })
    along_first place held first =
        let player : PlayerOf B = record { play = play; place = place; held = held; is_spent = false } in
        let stands = stands_at_first table scene limits seat stock play opens period order handler none in
        record {
          in_run = record {
            stands = begins_stand table scene so player stands first none (ap (λ (h : HandlerOf ReadLeaseOf). h.pending) handler) opens.none_arrived;
            rights = rights_first;
            marks = marks_first;
          };
          along = subst (PlaysSo scene so play) (sym first) (begins_along table scene seat stock play opens none);
          holds = subst (HoldsAt scene so player) (sym first) tt;
          told = opens.told;
        }

-- a player that did nothing yet
module _ {B : Type 0} (table : TableId) (scene : SceneValue) (limits : IsWithinLimits scene) (seat : SeatView) (stock : List ℕ) (actor_set : ActorSetOf B) (handler : HandlerOf ReadLeaseOf)
    (held : List (ℕ × Hold)) (queues : List QueueDecl) (same : queues ≡ scene.queues) (opens : Opens table queues scene.pictures scene.actors seat stock actor_set) (is_new : handler ≡ new_handler scene.width scene.height (most_layers scene.version))
    (none : held ≡ []) (fresh : seat.leaves ≡ []) (whole : stock ≡ range 0 (permits_of scene.actors)) (sized : permits_of scene.actors ≤ table.slots) where
  abbrev pub player : PlayerOf B
  player = record { play = record { period = scene.period; order = scene.order; actor_set = actor_set; handler = handler; vsyncs = 0 }; place = at.Order 0 0; held = held; is_spent = false }

  pub begins : Begins table scene player
  begins =
      let opened = subst (λ (qs : List QueueDecl). Opens table qs scene.pictures scene.actors seat stock actor_set) same opens in
      record {
        so = nothing table scene limits seat stock player.play opened refl refl is_new refl;
        nothing = refl;
        stands = along_first table scene limits seat stock player.play opened refl refl is_new refl fresh whole sized (at.Order 0 0) held refl;
        first = refl;
        none_made = refl;
        none_held = none;
        unspent = refl;
      }

  pub begins_player : IsPlayer table player
  begins_player = record { unlent = begins.stands.in_run.stands.stands.of_scene.unlent; stands = λ unspent. record { scene = scene; so = begins.so; stands = begins.stands.in_run } }

-- Nobody is passed over of all that has arrived, taken or not.
use Rattle.std.proofs.Common.{◌≡◌, ℕ, List, ◌++◌, map, take, ap, sym, ◌∙◌, subst}
use Rattle.std.proofs.lemmas.List.{map-append, take-map}
use Rattle.atomic_table.specs.Seated.{TableId}
use Rattle.law_waits.specs.Leaving.{LeavesNone}
use Rattle.law_rounds.proofs.LeavingOn.{none_with_more}
use Rattle.sf_play.specs.sf_actor.Known.{frame_of, plain_arrival}
use Rattle.sf_play.specs.sf_actor.Names.{FrameOf}
use Rattle.sf_play.specs.sf_actor.Plain.{taken_in}
use Rattle.sf_play.specs.sf_commit.Handlers.{last_of}
use Rattle.sf_play.specs.sf_script_scene.Scene.{SceneValue}
use Rattle.sf_play.specs.sf_token.Arrivals.{sent, waiting}
use Rattle.sf_play.specs.sf_token.Pending.{Arrival, IsRisingFrom}
use Rattle.sf_play.proofs.law_played_lemmas.OrderLemmas.{rising_framed}
use Rattle.sf_play.specs.law_played.Stages.{told_of}
use Rattle.sf_play.specs.law_played.Vsyncs.{vsyncs_in}
use Rattle.sf_play.proofs.sf_actor_set_lemmas.ArrivalLemmas.{ArrivalCalls, sent_is, waiting_rises}
use Rattle.sf_play.specs.Players.{PlayOf, SoFar, Stands, arrived_at, taken_at, told_at}

module _ {B : Type 0} (table : TableId) (scene : SceneValue) (so : SoFar B) (play : PlayOf B) (stands : Stands table scene so play) where
  abbrev calls : ArrivalCalls
  calls = play.actor_set.desk.arrivals

  abbrev waits : List (Arrival FrameOf)
  waits = map plain_arrival (waiting calls)

  arrived_is : arrived_at play ≡ taken_at play ++ waits
  arrived_is =
      ap (map plain_arrival) (sent_is calls)
      ∙ map-append plain_arrival (take (taken_in calls) (sent calls)) (waiting calls)
      ∙ ap (λ (xs : List (Arrival FrameOf)). xs ++ waits) (sym (take-map plain_arrival (taken_in calls) (sent calls)))

  rises : IsRisingFrom play.handler.last waits (last_of (taken_in calls) (waiting calls))
  rises = subst (λ (n : ℕ). IsRisingFrom n waits (last_of (taken_in calls) (waiting calls))) (sym stands.vsyncs.last)
      (rising_framed frame_of (taken_in calls) (waiting calls) (last_of (taken_in calls) (waiting calls)) (waiting_rises calls))

  pub none_of_all : LeavesNone (taken_at play) (told_at scene so play) → LeavesNone (arrived_at play) (told_of scene (arrived_at play) (vsyncs_in so.events))
  none_of_all none = subst (λ (xs : List (Arrival FrameOf)). LeavesNone xs (told_of scene xs (vsyncs_in so.events))) (sym arrived_is)
      (none_with_more scene (taken_at play) waits (vsyncs_in so.events) play.handler.last _ stands.vsyncs.played.order rises none)

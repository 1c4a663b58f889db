-- How far a run has come: where it begins, what it stands through, and what of the commits follows from it.
use Rattle.std.proofs.Common.{◌≡◌, ◌≢◌, ℕ, ◌+◌, true, false, List, [], ◌∷◌, get_or, map, Option, Some, None, refl, ap, sym, ◌∙◌, arith}
use Rattle.std.specs.Prelude.{is_none}
use Rattle.std.specs.List.{All}
use Rattle.std.proofs.lemmas.List.Elements.{All-head, All-nil, All-tail, All-weaker}
use Rattle.sf_script_scene.specs.sf_picture.declared.picture.Picture.{Picture}
use Rattle.sf_commit.specs.sf_token.Pending.{Arrival}
use Rattle.sf_commit.specs.sf_txn.Buffers.{Buffer}
use Rattle.sf_commit.specs.Handlers.{HandlerOf, new_handler}
use Rattle.sf_commit.specs.Lending.{KeptRead}
use Rattle.sf_commit.specs.OnLayers.{OnLayer, at_hand, lent_from}
use Rattle.sf_commit.specs.Rounds.{facts_of}
use Rattle.sf_script_scene.specs.Scene.{SceneValue}
use Rattle.sf_actor.specs.Names.{FrameOf}
use Rattle.sf_actor.specs.Written.{FrameNumber}
use Rattle.sf_record.specs.declared.event.VsyncRecords.{VsyncRecords}
use Rattle.law_played.proofs.HoldLemmas.{held_too, ready_too}
use Rattle.law_played.specs.Commits.{CommitInOrder, CommitsReady, OvertakesHeld, SaysResults, WasReady, arrived_of, hold_at, is_written, seen_by}
use Rattle.law_played.specs.Framing.{framed_on}
use Rattle.law_played.specs.Holds.{uncommitted}
use Rattle.law_played.specs.Progress.{AreWrittenToo, HasPlayed, IsOfArrival}
use Rattle.law_played.specs.Stages.{CommitAt, VsyncAt, round_at_end, told_from, told_of}
use Rattle.sf_script_scene.specs.Limits.{most_layers}
use Rattle.law_played.specs.Vsyncs.{AllNext, AllNextTo, commits_in}

-- more is written
module _ (written others : List FrameNumber) (too : AreWrittenToo written others) (vsync : VsyncRecords) where
  all_written : (buffers : List (Buffer FrameOf)) → All (λ (b : Buffer FrameOf). is_written written b.lease ≡ true → is_written others b.lease ≡ true) buffers
  all_written buffers k d in' e = too (get_or buffers k d).lease e

  still_ready : (at : CommitAt) → WasReady written vsync at → WasReady others vsync at
  still_ready at was =
      ready_too (is_written written) (is_written others) at.arrived.txn (facts_of at.round) (seen_by vsync) vsync.expected (all_written at.arrived.txn.buffers) (ap is_none was)

  is_held : {X : Type 0} (o : Option X) → o ≢ None → is_none o ≡ false
  is_held None some = absurd (some refl)
  is_held (Some x) some = refl

  still_held : (at next : CommitAt) → WasReady written vsync next → OvertakesHeld written vsync at next → OvertakesHeld others vsync at next
  still_held at next was held less =
      held_too (is_written written) (is_written others) next.arrived.txn (facts_of at.round) (facts_of next.round) (seen_by vsync) vsync.expected (all_written next.arrived.txn.buffers)
      (ap is_none was) (is_held (hold_at written vsync at next.arrived) (held less))

  next_to_held : (at : CommitAt) (commits : List CommitAt) → All (WasReady written vsync) commits → AllNextTo (OvertakesHeld written vsync) at commits → AllNextTo (OvertakesHeld others vsync) at commits
  next_to_held at [] was held = tt
  next_to_held at (next ∷ later) was held = (
    still_held at next (All-head (WasReady written vsync) next later was) held.0,
    next_to_held next later (All-tail (WasReady written vsync) next later was) held.1,
  )

  next_held : (commits : List CommitAt) → All (WasReady written vsync) commits → AllNext (OvertakesHeld written vsync) commits → AllNext (OvertakesHeld others vsync) commits
  next_held [] was held = tt
  next_held (at ∷ later) was held = next_to_held at later (All-tail (WasReady written vsync) at later was) held

pub commits_ready_too : (written others : List FrameNumber) → AreWrittenToo written others → (told : VsyncAt) → CommitsReady written told → CommitsReady others told
commits_ready_too written others too told is = record {
  ready = All-weaker (WasReady written told.vsync) (WasReady others told.vsync) (λ at was. still_ready written others too told.vsync at was) told.commits is.ready;
  lowest = next_held written others too told.vsync told.commits is.ready is.lowest;
}

module _ {L : Type 0} (frame : L → FrameOf) (scene : SceneValue) where
  pub played_too : (written others : List FrameNumber) (arrivals : List (Arrival FrameOf)) (vsyncs : List VsyncRecords) (handler : HandlerOf L) → AreWrittenToo written others
      → HasPlayed frame scene written arrivals vsyncs handler → HasPlayed frame scene others arrivals vsyncs handler
  played_too written others arrivals vsyncs handler too played = record {
    order = played.order;
    waits = played.waits;
    round = played.round;
    results = played.results;
    ready = All-weaker (CommitsReady written) (CommitsReady others) (λ told is. commits_ready_too written others too told is) (told_of scene arrivals vsyncs) played.ready;
  }

  -- nothing was played yet
  pub none_played : (written : List FrameNumber) (width height : ℕ) → HasPlayed frame scene written [] [] (new_handler width height (most_layers scene.version))
  unfolding told_from round_at_end commits_in
  none_played written width height = record {
    order = record { rising = omega arith; of_arrivals = All-nil (IsOfArrival []); of_each_token = λ token. refl };
    waits = refl;
    round = record { tree = refl; on = refl; read = refl; frames = λ barrier. refl };
    results = All-nil SaysResults;
    ready = All-nil (CommitsReady written);
  }

  module _ (written : List FrameNumber) (arrivals : List (Arrival FrameOf)) (vsyncs : List VsyncRecords) (handler : HandlerOf L) (played : HasPlayed frame scene written arrivals vsyncs handler) where
    pub in_order : CommitInOrder arrivals written (commits_in vsyncs) (told_of scene arrivals vsyncs)
    in_order = record {
      of_each_token = λ token. record { rest = arrived_of token (uncommitted arrivals (commits_in vsyncs)); joined = played.order.of_each_token token };
      results = played.results;
      ready = played.ready;
    }

    -- other places of the same buffers
    replaced : (on : List (OnLayer L)) (lent : Option (List Picture)) (kept : List (KeptRead L)) → map (framed_on frame) on ≡ map (framed_on frame) handler.on
        → HasPlayed frame scene written arrivals vsyncs (record handler { on = on; lent = lent; kept = kept })
    replaced on lent kept same = record {
      order = played.order;
      waits = played.waits;
      round = record { tree = played.round.tree; on = played.round.on ∙ sym same; read = played.round.read; frames = played.round.frames };
      results = played.results;
      ready = played.ready;
    }

    lent_alike : (place : ℕ) (on : List (OnLayer L)) → map (framed_on frame) (lent_from place on) ≡ map (framed_on frame) on
    lent_alike place [] = refl
    lent_alike place (one ∷ on) = ap (λ rest. framed_on frame one ∷ rest) (lent_alike (place + 1) on)

    hand_alike : (on : List (OnLayer L)) → map (framed_on frame) (map at_hand on) ≡ map (framed_on frame) on
    hand_alike [] = refl
    hand_alike (one ∷ on) = ap (λ rest. framed_on frame one ∷ rest) (hand_alike on)

    pub lending : (lent : Option (List Picture)) → HasPlayed frame scene written arrivals vsyncs (record handler { on = lent_from 0 handler.on; lent = lent })
    lending lent = replaced (lent_from 0 handler.on) lent handler.kept (lent_alike 0 handler.on)

    pub giving_back : (lent : Option (List Picture)) (kept : List (KeptRead L)) → HasPlayed frame scene written arrivals vsyncs (record handler { on = map at_hand handler.on; lent = lent; kept = kept })
    giving_back lent kept = replaced (map at_hand handler.on) lent kept (hand_alike handler.on)

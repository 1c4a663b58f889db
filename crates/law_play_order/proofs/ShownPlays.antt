-- What shows a play happened in order.
use Rattle.std.proofs.Common.{true, List, map, refl, sym, subst}
use Rattle.std.specs.Prelude.{All}
use Rattle.law_order.specs.Order.{InOneOrder}
use Rattle.law_played.specs.sf_record.Fitting.{RecordFits}
use Rattle.law_played.specs.sf_record.declared.record.ArrivalEntry.{ArrivalEntry}
use Rattle.law_played.specs.sf_record.declared.record.QueueHistory.{QueueHistory}
use Rattle.law_played.specs.sf_script_scene.Limits.{IsWithinLimits}
use Rattle.law_played.specs.sf_script_scene.Scene.{SceneValue}
use Rattle.law_played.specs.Arrivals.{entry_of}
use Rattle.law_played.specs.Played.{Fits, Shows, records_of}
use Rattle.law_played.specs.Plays.{IsPlay}
use Rattle.law_played.specs.RunStates.{RunState}
use Rattle.law_played.specs.Vsyncs.{vsyncs_in}
use Rattle.law_play_order.specs.Happening.{HappenedInOrder}
use Rattle.law_play_order.proofs.NoneLeft.{play_leaves_none}
use Rattle.law_play_order.proofs.PlayOrder.{play_in_order}

pub play_happened : (scene : SceneValue) (shows : Shows) (state : RunState) → IsWithinLimits scene → IsPlay scene shows.events state → All RecordFits (records_of scene shows)
    → Fits scene shows state.run state.arrivals → HappenedInOrder true scene (records_of scene shows)
play_happened scene shows state limits play fit fits = record {
  played = record { shows = shows; order = refl; fit = fit; run = state.run; arrivals = state.arrivals; fits = fits };
  order = subst (λ (arrived : List ArrivalEntry). InOneOrder true (record { histories = shows.histories; arrived = arrived; vsyncs = vsyncs_in shows.events })) (sym fits.arrive.shown)
      (subst (λ (histories : List QueueHistory). InOneOrder true (record { histories = histories; arrived = map entry_of state.arrivals; vsyncs = vsyncs_in shows.events })) (sym fits.calls.shown)
      (play_in_order scene shows.events state play));
  none = play_leaves_none scene shows.events state limits play;
}

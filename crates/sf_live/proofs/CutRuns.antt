-- What a run in threads wrote that came to no end.
use Rattle.std.proofs.Common.{◌≡◌, ℕ, Bool, List, [], ◌∷◌, map, Option, sym, subst}
use Rattle.std.specs.List.{All}
use Rattle.std.proofs.lemmas.List.Elements.{All-nil}
use Rattle.atomic_table.specs.Seated.{TableId}
use Rattle.sf_live_compositor.specs.sf_actor.Known.{frame_of}
use Rattle.sf_live_compositor.specs.sf_output_plan.declared.plan.Plan.{Plan}
use Rattle.sf_live_compositor.specs.sf_record.Events.{events_records}
use Rattle.sf_live_compositor.specs.sf_record.declared.event.Event.TheVariants as event
use Rattle.sf_live_compositor.specs.sf_record.declared.record.Record.{Record}
use Rattle.sf_live_compositor.specs.sf_surface.Tokens.{Issued, ReadLeaseOf}
use Rattle.sf_live_compositor.specs.sf_txn.declared.lease.Lease.{Ghosts}
use Rattle.sf_turns.specs.Views.{SeatView}
use Rattle.sf_script_scene.specs.Limits.{most_layers}
use Rattle.sf_script_scene.specs.Scene.{SceneValue}
use Rattle.sf_live_compositor.specs.sf_play_write.Writing.{Writes, WritesPart}
use Rattle.sf_live_compositor.proofs.sf_play_write_lemmas.WritingLemmas.{part_more, part_none, part_whole}
use Rattle.sf_live_compositor.specs.law_played.Frames.{plan_of}
use Rattle.sf_live_compositor.specs.law_played.Played.{opening}
use Rattle.sf_live_compositor.specs.law_played.Stages.{told_from, told_of}
use Rattle.sf_live_compositor.specs.law_played.Vsyncs.{rising_timelines}
use Rattle.sf_live_compositor.proofs.law_played_lemmas.KeepingLemmas.{none_played}
use Rattle.sf_live_compositor.proofs.law_played_lemmas.VsyncLemmas.{none_seen}
use Rattle.sf_live_compositor.specs.Sitting.{CutVsyncs}
use Rattle.sf_live.specs.Runs.{BeginsLive, CutLive, ShowsOutputs, WroteLive, in_rest, in_vsyncs}
use Rattle.sf_live.proofs.VsyncsBegun.{log_cut, no_records}

no_outputs : (scene : SceneValue) → All (ShowsOutputs scene) (told_of scene [] [])
unfolding told_from
no_outputs scene = All-nil (ShowsOutputs scene)

-- a run without a vsync
none_begun : (scene : SceneValue) → BeginsLive scene []
none_begun scene =
    let played = none_played frame_of scene [] 0 0 in
    record {
      signals = [];
      are = (none_seen scene [] 0 (record { values = [] })).are;
      arrivals = [];
      last = 0;
      order = played.order;
      results = played.results;
      outputs = no_outputs scene;
    }

module _ (tells : Bool) (scene : SceneValue) (start now : Option (List ℕ)) where
  -- no vsync was written
  pub cut_unmade : WritesPart start now (opening scene ∷ []) → CutLive tells scene start now
  cut_unmade part = in_vsyncs [] (none_begun scene) (subst (λ (rs : List Record). WritesPart start now (opening scene ∷ rs)) (sym no_records) part)

  -- a prefix of the vsyncs that a compositor made was written behind the scene's record
  pub cut_made : {B : Type 0} (lease : Ghosts ReadLeaseOf SeatView ReadLeaseOf Issued) (table : TableId) (period : ℕ) (plan : Plan) (most : ℕ) (timelines : List ℕ) (before : Option (List ℕ)) → period ≡ scene.period → plan ≡ plan_of scene
      → most ≡ most_layers scene.version → timelines ≡ rising_timelines scene → Writes start before (opening scene ∷ []) → CutVsyncs B lease table period plan most timelines before now → CutLive tells scene start now
  cut_made {B} lease table period plan most timelines before same_period planned same_most rising begun cut =
      let those = subst (λ (p : Plan). CutVsyncs B lease table period p most (rising_timelines scene) before now) planned
      (subst (λ (ts : List ℕ). CutVsyncs B lease table period plan most ts before now) rising cut) in
      let told = log_cut lease table those.locks period scene same_period most same_most before those.start those.last those.log now those.fresh those.told in
      in_vsyncs told.vsyncs told.begins (part_more start before now (opening scene ∷ []) (events_records (map event.Vsync told.vsyncs)) begun told.written)

  -- the records of a whole run are those of one that ended so
  pub cut_all : WroteLive tells scene start now → CutLive tells scene start now
  cut_all wrote =
      let live = wrote.means.live in
      in_rest live.played.shows
      (record { run = live.played.run; arrivals = live.played.arrivals; fits = live.played.fits; late = live.late; order = wrote.means.order; none = wrote.means.none })
      (subst (WritesPart start now) live.played.order (part_whole start now wrote.records wrote.written))

  -- nothing was written
  pub cut_nothing : (same : now ≡ start) → CutLive tells scene start now
  cut_nothing same = cut_unmade (subst (λ (n : Option (List ℕ)). WritesPart start n (opening scene ∷ [])) (sym same) (part_none start (opening scene ∷ [])))

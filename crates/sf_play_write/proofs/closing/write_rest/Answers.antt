use Rattle.std.proofs.Common.{[], ◌∷◌, map, refl}
use Rattle.sf_play.specs.sf_record.declared.record.Record.TheVariants as rec
use Rattle.sf_play.specs.law_played.Progress.{held_shown}
use Rattle.sf_play_write.specs.Closings.{stuck_at}
use Rattle.sf_play_write.proofs.WroteLemmas.{wrote_cut, wrote_then}
use Rattle.sf_play_write.proofs.closing.write_rest.Goals as goal

pub returns-in-Err : goal.returns-in-Err
returns-in-Err g c =
    wrote_cut g.K.Sink.taken g.K.Sink.faults _ _ c.in-Err.fault (rec.Hold (map held_shown c.args.held.now) ∷ []) (rec.Stuk (stuck_at c.args.actors.now) ∷ rec.Done ∷ [])
    (c.in-Err.ensures.wrote (rec.Hold (map held_shown c.args.held.now)) c.held_record.ensures)

pub returns-in-Err-write_made : goal.returns-in-Err-write_made
returns-in-Err-write_made g c =
    wrote_then g.K.Sink.taken g.K.Sink.faults _ _ _ _ (rec.Hold (map held_shown c.args.held.now) ∷ []) (rec.Stuk (stuck_at c.args.actors.now) ∷ rec.Done ∷ [])
    (c.in-Ok.ensures.wrote (rec.Hold (map held_shown c.args.held.now)) c.held_record.ensures)
    (wrote_cut g.K.Sink.taken g.K.Sink.faults _ _ c.in-Err-write_made.fault (rec.Stuk (stuck_at c.args.actors.now) ∷ []) (rec.Done ∷ [])
    (c.in-Err-write_made.ensures.wrote (rec.Stuk (stuck_at c.args.actors.now)) c.stuck_record.ensures))

pub returns : goal.returns
returns g c =
    wrote_then g.K.Sink.taken g.K.Sink.faults _ _ _ _ (rec.Hold (map held_shown c.args.held.now) ∷ []) (rec.Stuk (stuck_at c.args.actors.now) ∷ rec.Done ∷ [])
    (c.in-Ok.ensures.wrote (rec.Hold (map held_shown c.args.held.now)) c.held_record.ensures)
    (wrote_then g.K.Sink.taken g.K.Sink.faults _ _ _ _ (rec.Stuk (stuck_at c.args.actors.now) ∷ []) (rec.Done ∷ [])
    (c.in-Ok-write_made.ensures.wrote (rec.Stuk (stuck_at c.args.actors.now)) c.stuck_record.ensures) (c.write_made-3.ensures.wrote rec.Done refl))

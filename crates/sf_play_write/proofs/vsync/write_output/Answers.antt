use Rattle.std.proofs.Common.{refl, subst, sym, [], ◌∷◌}
use Rattle.sf_output.specs.declared.output.Output.{Output}
use Rattle.sf_play.specs.sf_record.declared.record.Record.TheVariants as rec
use Rattle.sf_output_screen.specs.Screens.{ScreenOf}
use Rattle.sf_play_write.specs.Vsyncs.{shown_record}
use Rattle.sf_play_write.specs.Writing.{Wrote}
use Rattle.sf_play_write.proofs.vsync.write_output.Goals as goal

pub returns-in-Hit-clause-wrote : goal.returns-in-Hit-clause-wrote
returns-in-Hit-clause-wrote g c =
    subst (λ (o : Output ScreenOf). Wrote g.K.Sink.taken g.K.Sink.faults c.args.sink.now c.write_made.new.sink c.write_made.result (shown_record c.args.number o ∷ [])) (sym c.in-Hit.is)
    (c.write_made.ensures.wrote (rec.Hits (record { output = c.in-Hit.output; number = c.args.number; layer = c.in-Hit.layer })) refl)

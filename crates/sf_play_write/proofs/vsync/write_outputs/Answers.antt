use Rattle.std.proofs.Common.{List, Ok, length, map, rules, subst, sym, ◌∙◌}
use Rattle.std.proofs.lemmas.Iterator.Adapters.{YieldsList-from_vec}
use Rattle.std.proofs.lemmas.Iterator.Consumers.{YieldsList-end, YieldsList-so_far, YieldsList-turn}
use Rattle.std.proofs.lemmas.List.{map-id}
use Rattle.sf_output.specs.Outputs.{OfImage}
use Rattle.sf_output.specs.declared.output.Output.{Output}
use Rattle.sf_output_screen.specs.Screens.{IsShown, ScreenOf}
use Rattle.sf_play_write.specs.Vsyncs.{HasView, shown_record}
use Rattle.sf_play_write.specs.Writing.{Wrote}
use Rattle.sf_play_write.proofs.WroteLemmas.{wrote_none, wrote_shown, wrote_shown_cut}
use Rattle.sf_play_write.proofs.vsync.write_outputs.Goals as goal

pub loop-image-init : goal.loop-image-init
loop-image-init g c = record {
  can_next = search rules;
  is_finite = search rules;
  written = wrote_none g.K.Sink.taken g.K.Sink.faults c.args.sink.now;
  shown = λ pictures are was. was;
}

pub write_output-requires : goal.write_output-requires
write_output-requires g c =
    let t = YieldsList-turn (YieldsList-from_vec c.args.images.items (search rules) (search rules)) c.loop-image.yielded _ c.loop-image.yielded_by c.next.result c.next.new.self c.in-Some.image c.in-Some.is c.next.ensures.steps in
    record { shows = subst (OfImage HasView) (sym t.1) (c.requires.shows (length c.loop-image.yielded) c.in-Some.image t.0) }

pub returns-in-Err-clause-wrote : goal.returns-in-Err-clause-wrote
returns-in-Err-clause-wrote g c =
    let t = YieldsList-turn (YieldsList-from_vec c.args.images.items (search rules) (search rules)) c.loop-image.yielded _ c.loop-image.yielded_by c.next.result c.next.new.self c.in-Some.image c.in-Some.is c.next.ensures.steps in
    let so_far = sym (map-id c.loop-image.yielded) ∙ YieldsList-so_far (YieldsList-from_vec c.args.images.items (search rules) (search rules)) c.loop-image.yielded _ c.loop-image.yielded_by in
    wrote_shown_cut g.K.Sink.taken g.K.Sink.faults (shown_record c.args.number) _ _ _ c.loop-image.yielded c.in-Some.image c.loop-image.invariant.written c.args.images.items c.in-Err.fault
    so_far t.0 t.1 c.in-Err.ensures.wrote

pub loop-image-preserved : goal.loop-image-preserved
loop-image-preserved g c =
    let t = YieldsList-turn (YieldsList-from_vec c.args.images.items (search rules) (search rules)) c.loop-image.yielded _ c.loop-image.yielded_by c.next.result c.next.new.self c.in-Some.image c.in-Some.is c.next.ensures.steps in
    record {
      can_next = search rules;
      is_finite = search rules;
      written = wrote_shown g.K.Sink.taken g.K.Sink.faults (shown_record c.args.number) _ _ _ c.loop-image.yielded c.in-Some.image c.loop-image.invariant.written c.in-Ok.ensures.wrote;
      shown = λ pictures are was.
          c.in-Ok.ensures.shown pictures (subst (OfImage (IsShown pictures)) (sym t.1) (are (length c.loop-image.yielded) c.in-Some.image t.0)) (c.loop-image.invariant.shown pictures are was);
    }

pub returns-clause-wrote : goal.returns-clause-wrote
returns-clause-wrote g c =
    let all = YieldsList-end (YieldsList-from_vec c.args.images.items (search rules) (search rules)) c.loop-image.yielded _ c.loop-image.yielded_by c.next.result c.next.new.self c.in-None.is c.next.ensures.steps in
    subst (λ (images : List (Output ScreenOf)). Wrote {A = Unit {0}} g.K.Sink.taken g.K.Sink.faults c.args.sink.now c.loop-image.sink (Ok tt) (map (shown_record c.args.number) images)) (sym (map-id c.loop-image.yielded) ∙ all.0) c.loop-image.invariant.written

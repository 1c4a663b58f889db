use Rattle.std.proofs.Common.{List, [], ◌∷◌, ◌++◌, length, rules, subst, sym, ◌∙◌}
use Rattle.std.specs.List.{AllZip}
use Rattle.std.proofs.lemmas.Iterator.Adapters.{YieldsList-from_vec}
use Rattle.std.proofs.lemmas.Iterator.Consumers.{YieldsList-end, YieldsList-turn}
use Rattle.std.proofs.lemmas.List.{map-id}
use Rattle.std.proofs.lemmas.Slice.Zip.{all_zipped_more}
use Rattle.law_played.specs.sf_output.Outputs.{IsOutput, OfImage}
use Rattle.law_played.specs.sf_output.declared.output.Output.{Output}
use Rattle.law_played.specs.sf_view.Views.{ViewOf}
use Rattle.sf_play_report.specs.Stages.{AllShowOn, IsSourcedBy}
use Rattle.sf_play_report.specs.declared.sourced.SourcedView.{SourcedView}
use Rattle.sf_play_report.proofs.sourcing.sourced_outputs.Goals as goal

pub sourced_output-requires : goal.sourced_output-requires
sourced_output-requires g c =
    let t = YieldsList-turn (YieldsList-from_vec c.args.outputs.items (search rules) (search rules)) c.loop-output.yielded _ c.loop-output.yielded_by c.next.result c.next.new.self c.in-Some.output c.in-Some.is c.next.ensures.steps in
    subst (OfImage (λ (view : ViewOf). AllShowOn c.args.handler.now.on view.drawn)) (sym t.1) (c.requires (length c.loop-output.yielded) c.in-Some.output t.0)

pub loop-output-preserved : goal.loop-output-preserved
loop-output-preserved g c = record {
  can_next = search rules;
  is_finite = search rules;
  sourced = subst (λ (views : List (Output SourcedView)). AllZip (IsOutput (IsSourcedBy c.args.handler.now.on)) (c.loop-output.yielded ++ c.in-Some.output ∷ []) views) (sym c.in_ok-push.ensures.items)
      (all_zipped_more (IsOutput (IsSourcedBy c.args.handler.now.on)) c.loop-output.yielded c.loop-output.views.items c.in-Some.output c.in_ok-sourced_output.field-0 c.loop-output.invariant.sourced c.in_ok-sourced_output.ensures);
}

pub returns : goal.returns
returns g c =
    let all = YieldsList-end (YieldsList-from_vec c.args.outputs.items (search rules) (search rules)) c.loop-output.yielded _ c.loop-output.yielded_by c.next.result c.next.new.self c.in-None.is c.next.ensures.steps in
    subst (λ (outputs : List (Output ViewOf)). AllZip (IsOutput (IsSourcedBy c.args.handler.now.on)) outputs c.loop-output.views.items) (sym (map-id c.loop-output.yielded) ∙ all.0) c.loop-output.invariant.sourced

use Rattle.std.proofs.Common.{List, [], All, ap, length, map, rules, subst, sym, ◌∙◌}
use Rattle.std.specs.Prelude.{is_some}
use Rattle.std.proofs.lemmas.Iterator.Adapters.{YieldsList-from_vec}
use Rattle.std.proofs.lemmas.Iterator.Consumers.{YieldsList-end, YieldsList-turn}
use Rattle.std.proofs.lemmas.List.{map-id}
use Rattle.std.proofs.lemmas.List.Elements.{All-nil}
use Rattle.sf_output.specs.Outputs.{OfImage}
use Rattle.sf_output.specs.declared.output.Output.{Output}
use Rattle.sf_output.specs.declared.output.Output.TheVariants as out
use Rattle.sf_output_screen.specs.sf_compose.Readings.{AreReadable}
use Rattle.sf_output_screen.specs.sf_compose.Sources.{HasSources}
use Rattle.sf_play.specs.sf_play_report.Stages.{FindsPictures, IsReadableView}
use Rattle.sf_play.specs.sf_play_report.declared.sourced.SourcedView.{SourcedView}
use Rattle.sf_play_write.specs.Vsyncs.{AreComposed, HasView, without_image}
use Rattle.sf_play_write.proofs.VsyncLemmas.{composed_more, hit_composed, image_composed, outputs_more, showed_more}
use Rattle.sf_play_write.proofs.composing.compose_views.Goals as goal

pub loop-output-init : goal.loop-output-init
loop-output-init g c = record {
  can_next = search rules;
  is_finite = search rules;
  outputs = ap (map without_image) (sym c.new-images.ensures.items);
  showed = subst (All (OfImage HasView)) (sym c.new-images.ensures.items) (All-nil (OfImage HasView));
  composed = λ pictures finds was. subst (AreComposed pictures []) (sym c.new-images.ensures.items) tt;
  shown = λ pictures was. was;
}

pub show-requires-clause-readable : goal.show-requires-clause-readable
show-requires-clause-readable g c = λ lives outlives.
    let t = YieldsList-turn (YieldsList-from_vec c.args.views.items (search rules) (search rules)) c.loop-output.yielded _ c.loop-output.yielded_by c.next.result c.next.new.self c.in-Some.output c.in-Some.is c.next.ensures.steps in
    let contents = map g.C.Pixels.picture c.args.contents.now in
    let readable = subst (OfImage (IsReadableView contents)) (sym t.1) (c.requires.readable (length c.loop-output.yielded) c.in-Some.output t.0) in
    subst (AreReadable contents c.in-Image.field-0.shows.view.drawn) (sym c.as_slice.ensures) (subst (OfImage (IsReadableView contents)) c.in-Image.is readable)

pub loop-output-preserved-in-Image : goal.loop-output-preserved-in-Image
loop-output-preserved-in-Image g c =
    let t = YieldsList-turn (YieldsList-from_vec c.args.views.items (search rules) (search rules)) c.loop-output.yielded _ c.loop-output.yielded_by c.next.result c.next.new.self c.in-Some.output c.in-Some.is c.next.ensures.steps in
    let contents = map g.C.Pixels.picture c.args.contents.now in
    let of = c.in-Image.field-0.of in
    let shows = c.in-Image.field-0.shows in
    record {
      can_next = search rules;
      is_finite = search rules;
      outputs = outputs_more c.loop-output.yielded c.loop-output.images.items c.push.new.self.items c.in-Some.output (out.Image (record { of = of; shows = c.show.new.self })) c.in_ok-push-in-Image.ensures.items c.loop-output.invariant.outputs (ap without_image c.in-Image.is);
      showed = showed_more c.loop-output.yielded c.loop-output.images.items c.push.new.self.items c.in-Some.output (out.Image (record { of = of; shows = c.show.new.self })) c.in_ok-push-in-Image.ensures.items c.loop-output.invariant.showed (ap is_some c.in_ok-show-in-Image.ensures.view);
      composed = λ pictures finds was.
          let found = subst (OfImage (FindsPictures pictures contents)) c.in-Image.is
          (subst (OfImage (FindsPictures pictures contents)) (sym t.1) (finds (length c.loop-output.yielded) c.in-Some.output t.0)) in
          let now = c.in_ok-show-in-Image.ensures.shown pictures (subst (HasSources pictures shows.view contents) (sym c.as_slice.ensures) found) (c.take-screen.ensures.shown pictures (c.loop-output.invariant.shown pictures was)) in
          composed_more c.loop-output.yielded c.loop-output.images.items c.push.new.self.items c.in-Some.output (out.Image (record { of = of; shows = c.show.new.self })) c.in_ok-push-in-Image.ensures.items pictures (c.loop-output.invariant.composed pictures finds was)
          (image_composed pictures c.in-Some.output of shows c.show.new.self c.in-Image.is c.in_ok-show-in-Image.ensures.view c.in_ok-show-in-Image.ensures.whole now);
      shown = λ pictures was. c.take-screen.ensures.others pictures (c.loop-output.invariant.shown pictures was);
    }

pub loop-output-preserved : goal.loop-output-preserved
loop-output-preserved g c =
    record {
      can_next = search rules;
      is_finite = search rules;
      outputs = outputs_more c.loop-output.yielded c.loop-output.images.items c.push-in-Hit.new.self.items c.in-Some.output (out.Hit c.in-Hit.number c.in-Hit.layer) c.in_ok-push-in-Hit.ensures.items c.loop-output.invariant.outputs (ap without_image c.in-Hit.is);
      showed = showed_more c.loop-output.yielded c.loop-output.images.items c.push-in-Hit.new.self.items c.in-Some.output (out.Hit c.in-Hit.number c.in-Hit.layer) c.in_ok-push-in-Hit.ensures.items c.loop-output.invariant.showed tt;
      composed = λ pictures finds was.
          composed_more c.loop-output.yielded c.loop-output.images.items c.push-in-Hit.new.self.items c.in-Some.output (out.Hit c.in-Hit.number c.in-Hit.layer) c.in_ok-push-in-Hit.ensures.items pictures (c.loop-output.invariant.composed pictures finds was)
          (hit_composed pictures c.in-Some.output c.in-Hit.number c.in-Hit.layer c.in-Hit.is);
      shown = c.loop-output.invariant.shown;
    }

pub returns-clause-images : goal.returns-clause-images
returns-clause-images g c =
    let all = YieldsList-end (YieldsList-from_vec c.args.views.items (search rules) (search rules)) c.loop-output.yielded _ c.loop-output.yielded_by c.next.result c.next.new.self c.in-None.is c.next.ensures.steps in
    record {
      outputs = ap (map without_image) (sym (sym (map-id c.loop-output.yielded) ∙ all.0)) ∙ c.loop-output.invariant.outputs;
      showed = c.loop-output.invariant.showed;
      composed = λ pictures finds was.
          subst (λ (views : List (Output SourcedView)). AreComposed pictures views c.loop-output.images.items) (sym (map-id c.loop-output.yielded) ∙ all.0) (c.loop-output.invariant.composed pictures finds was);
    }

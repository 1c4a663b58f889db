use Rattle.std.proofs.Common.{◌+◌, List, map, ◌∙◌, sym, subst}
use Rattle.std.specs.Prelude.{IfOk}
use Rattle.std.proofs.lemmas.List.{map-id}
use Rattle.sf_live_threads.specs.sf_picture.declared.picture.Picture.{Picture}
use Rattle.sf_play_write.specs.sf_play.Playing.{expected_by}
use Rattle.sf_play_write.specs.Vsyncs.{AreImagesOf, AreReadableViews}
use Rattle.sf_live_compositor.specs.Vsyncs.{Sitting}
use Rattle.sf_live_compositor.proofs.GivenBack.{all_at_hand, all_given}
use Rattle.sf_live_compositor.proofs.behind.make_beside.Goals as goal

pub compose_and_make-both-requires-clause-readable : goal.compose_and_make-both-requires-clause-readable
compose_and_make-both-requires-clause-readable g c κs within =
    subst (λ (contents : List Picture). AreReadableViews contents c.args.views.items)
    (sym (map-id c.as_slice.result.now ∙ c.as_slice.ensures.value ∙ c.contents.view_is ∙ c.lend-contents.ensures.pictures)) c.requires.readable

pub give_back-requires-clause-own : goal.give_back-requires-clause-own
give_back-requires-clause-own g c = c.compose_and_make-both.ensures.table ∙ c.requires.next.own.own_turns

pub returns-clause-images : goal.returns-clause-images
returns-clause-images g c =
    subst (λ (contents : List Picture). IfOk c.compose_and_make-both.result.0 (λ images. AreImagesOf contents c.args.views.items c.args.screens.now images.items))
    (map-id c.as_slice.result.now ∙ c.as_slice.ensures.value ∙ c.contents.view_is ∙ c.lend-contents.ensures.pictures) c.compose_and_make-both.ensures.images

pub returns-clause-makes : goal.returns-clause-makes
returns-clause-makes g c =
    let handler = c.args.handler.now in
    let visit = c.args.visit.now in
    let old : Sitting g.row.B.Denot = record { handler = handler; seats = c.args.seats.now; number = visit.before } in
    let mid : Sitting g.row.B.Denot = record { handler = c.compose_and_make-both.new.handler; seats = c.compose_and_make-both.new.seats; number = visit.before + 1 } in
    all_given _ g.B.TableName.table visit.locks.now visit.period c.compose_and_make-both.result.1 old mid c.give_back.new.handler c.give_back.new.self
    (c.compose_and_make-both.ensures.makes.makes handler (record { all = c.requires.all; pixels = map expected_by handler.on; lent = c.lend-contents.ensures.lent }))
    c.give_back.ensures.goes c.give_back.ensures.reads c.give_back.ensures.back c.give_back.ensures.same

pub returns-clause-all : goal.returns-clause-all
returns-clause-all g c = all_at_hand c.compose_and_make-both.new.handler c.give_back.new.handler c.give_back.ensures.back

use Rattle.std.proofs.Common.{map, ◌≡◌, ◌<◌, List, pos, refl, subst, take, length, get_or}
use Rattle.std.proofs.lemmas.List.{take_all}
use Rattle.std.proofs.lemmas.List.Folds.{list_any_more}
use Rattle.sf_base.specs.declared.geometry.Rect.{Rect}
use Rattle.sf_base.specs.Geometry.{covers}
use Rattle.sf_damage.specs.sf_region.Points.{has}
use Rattle.sf_compose.specs.Frames.{Repaints}
use Rattle.sf_compose.specs.Readings.{read_image}
use Rattle.sf_compose.proofs.BegunLemmas.{AreShownAt-within}
use Rattle.sf_compose.proofs.FrameLemmas.{Repaints-none, Repaints-then}
use Rattle.sf_compose.proofs.SeenLemmas.{has_at}
use Rattle.sf_compose.proofs.seen.compose_band.Goals as goal

abbrev nowhere : Rect
nowhere = record { x = pos 0; y = pos 0; width = 0; height = 0 }

pub compose_rect-requires-clause-visible : goal.compose_rect-requires-clause-visible
compose_rect-requires-clause-visible g c =
    let rects : c.rects-rect-items.result.now ≡ c.args.part.now = c.rects-rect-items.ensures.same in
    let within : c.loop-rect.rect-index < length c.args.part.now = rw rects at c.loop-rect-test.true in
    rw rects (AreShownAt-within (has c.args.part.now) (covers (get_or c.args.part.now c.loop-rect.rect-index nowhere)) c.args.composition.now.view.now.drawn c.args.composition.now.shows
    (λ x y t. has_at c.args.part.now c.loop-rect.rect-index nowhere x y within t) c.requires.visible)

pub loop-rect-init : goal.loop-rect-init
loop-rect-init g c = Repaints-none _ _ _ _ _ _ (λ x y. refl)

pub loop-rect-preserved : goal.loop-rect-preserved
loop-rect-preserved g c =
    let rects : c.rects-rect-items.result.now ≡ c.args.part.now = c.rects-rect-items.ensures.same in
    let within : c.loop-rect.rect-index < length c.args.part.now = rw rects at c.loop-rect-test.true in
    Repaints-then _ _ _ (λ x y. has (take c.loop-rect.rect-index c.args.part.now) (pos x) (pos y)) (λ x y. covers (get_or c.args.part.now c.loop-rect.rect-index nowhere) (pos x) (pos y)) _ _ _ _ _ c.loop-rect.invariant
    (subst (λ (part : List Rect). Repaints c.args.band.width c.args.band.top c.args.band.bottom (λ x y. covers (get_or part c.loop-rect.rect-index nowhere) (pos x) (pos y)) (read_image (map g.C.Pixels.picture c.args.composition.now.contents.now) c.args.composition.now.view.now c.args.composition.now.sources.now) c.loop-rect.frame c.compose_rect.new.frame) rects c.compose_rect.ensures)
    (λ x y. list_any_more (λ rect. covers rect (pos x) (pos y)) c.args.part.now c.loop-rect.rect-index nowhere within)

pub returns : goal.returns
returns g c =
    let done = take_all c.loop-rect.rect-index c.args.part.now (rw c.rects-rect-items.ensures.same at c.loop-rect-test.false) in
    subst (λ (part : List Rect). Repaints c.args.band.width c.args.band.top c.args.band.bottom (λ x y. has part (pos x) (pos y)) (read_image (map g.C.Pixels.picture c.args.composition.now.contents.now) c.args.composition.now.view.now c.args.composition.now.sources.now) c.args.frame.now c.loop-rect.frame) done c.loop-rect.invariant

pub compose_scattered-requires-clause-visible : goal.compose_scattered-requires-clause-visible
compose_scattered-requires-clause-visible g c = rw c.in-Some.is at c.requires.visible

use Rattle.std.proofs.Common.{◌≡◌, ◌∙◌, sym, subst, ap}
use Rattle.std.specs.Prelude.{map, slice_index_or}
use Rattle.std.specs.List.{All}
use Rattle.std.proofs.lemmas.Int.{to_z-of_z}
use mir.Syntax.{w32}
use mir.Val.{to_z, of_z}
use Rattle.sf_region.specs.Points.{has, moved, IsInBounds, StaysInBounds}
use Rattle.sf_region.proofs.MovedLemmas.{canonical_moved, has_moved, stays_near, all_from}
use Rattle.sf_region.proofs.region.Region.translate.Goals as goal

pub invariant_of-result : goal.invariant_of-result
invariant_of-result c =
    let dx = c.args.dx in
    let dy = c.args.dy in
    let is : c.in_ok-rects.rects.items ≡ map (moved dx dy) c.self.inside.rects.items =
    c.in_ok-rects.ensures ∙ (ap (λ z. map (moved z (to_z w32 (of_z w32 dy))) c.deref.result.now) (to_z-of_z w32 dx c.ranges.dx)
    ∙ (ap (λ z. map (moved dx z) c.deref.result.now) (to_z-of_z w32 dy c.ranges.dy) ∙ ap (map (moved dx dy)) c.deref.ensures.value)) in
    rw is (canonical_moved dx dy c.self.inside.rects.items c.self.invariant (stays_near dx dy c.self.inside.rects.items c.self.invariant.banded (subst (StaysInBounds dx dy) (sym c.self.view_is) c.requires)))

pub returns-clause-points : goal.returns-clause-points
returns-clause-points c = λ x y.
    let dx = c.args.dx in
    let dy = c.args.dy in
    let is : c.in_ok-rects.rects.items ≡ map (moved dx dy) c.self.inside.rects.items =
    c.in_ok-rects.ensures ∙ (ap (λ z. map (moved z (to_z w32 (of_z w32 dy))) c.deref.result.now) (to_z-of_z w32 dx c.ranges.dx)
    ∙ (ap (λ z. map (moved dx z) c.deref.result.now) (to_z-of_z w32 dy c.ranges.dy) ∙ ap (map (moved dx dy)) c.deref.ensures.value)) in
    rw is (has_moved dx dy c.self.inside.rects.items x y) ∙ ap (λ z. has z x y) c.self.view_is

pub moved_rects-requires : goal.moved_rects-requires
moved_rects-requires c = λ k d h.
    let dx = c.args.dx in
    let dy = c.args.dy in
    let stays = stays_near dx dy c.self.inside.rects.items c.self.invariant.banded (subst (StaysInBounds dx dy) (sym c.self.view_is) c.requires) in
    let near : All (λ r. IsInBounds (moved dx dy r)) c.deref.result.now =
    subst (λ z. All (λ r. IsInBounds (moved dx dy r)) z) (sym c.deref.ensures.value) (all_from dx dy c.self.inside.rects.items stays) in
    subst (λ z. IsInBounds (moved z (to_z w32 (of_z w32 dy)) (slice_index_or c.deref.result.now k d))) (sym (to_z-of_z w32 dx c.ranges.dx))
    (subst (λ z. IsInBounds (moved dx z (slice_index_or c.deref.result.now k d))) (sym (to_z-of_z w32 dy c.ranges.dy)) (near k d h))

use Rattle.std.proofs.Common.{◌≡◌, ◌<◌, ◌∙◌, ◌*◌, ℕ, map, ap, arith, length, pos, subst, sym, true}
use Rattle.sf_base.specs.Geometry.{covers}
use Rattle.sf_damage.specs.sf_view.Stacks.{view_image}
use Rattle.sf_damage.specs.sf_view.Views.{ViewOf}
use Rattle.sf_compose.proofs.FrameLemmas.{covers_display, whole_frame}
use Rattle.sf_compose.proofs.ReadingLemmas.{read_image-same}
use Rattle.sf_compose.proofs.RowLemmas.{frame-from, written}
use Rattle.sf_compose.proofs.whole.compose_frame.Goals as goal

pub returns : goal.returns
returns g c = λ picture has.
    let width : c.view.inside.width ≡ c.args.view.now.width = ap (λ (v : ViewOf). v.width) c.view.view_is in
    let height : c.view.inside.height ≡ c.args.view.now.height = ap (λ (v : ViewOf). v.height) c.view.view_is in
    let size = c.compose_rect.ensures.size in
    let room : length c.compose_rect.new.frame ≡ 4 * (c.view.inside.width * c.view.inside.height) = omega (arith, size, c.deref_mut.ensures.len, c.in_ok-bytes.ensures.len) in
    let all : length c.compose_rect.new.frame ≡ 4 * (c.args.view.now.width * c.args.view.now.height) = rw (width, height) at room in
    written c.compose_rect.new.frame _ _ (omega (arith, size, c.deref_mut.ensures.len))
    ∙ frame-from c.compose_rect.new.frame (λ x y. view_image picture c.args.view.now (pos x) (pos y)) c.args.view.now.width c.args.view.now.height all
    (λ x y wide high.
    let covered : covers (record { x = pos 0; y = pos 0; width = c.view.inside.width; height = c.view.inside.height }) (pos x) (pos y) ≡ true = covers_display c.view.inside.width c.view.inside.height x y (subst (λ (w : ℕ). x < w) (sym width) wide) (subst (λ (h : ℕ). y < h) (sym height) high) in
    (rw covered at (whole_frame _ _ _ c.args.view.now.width c.args.view.now.height _ _ _ _ c.compose_rect.ensures c.all_rows.ensures.width c.all_rows.ensures.top c.all_rows.ensures.bottom x y wide high))
    ∙ read_image-same picture c.args.view.now (map g.C.Pixels.picture c.args.contents.now) c.args.sources.now x y has)

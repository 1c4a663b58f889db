use Rattle.std.proofs.Common.{◌-◌, ◌++◌, ◌∙◌, List, ap, drop, length, map, sym, subst, take}
use Rattle.std.specs.List.{All}
use Rattle.sf_base.specs.declared.geometry.Rect.{Rect}
use Rattle.sf_region.specs.Points.{IsInBounds}
use Rattle.sf_damage.specs.Damage.{IsSameBeside, clip_of}
use Rattle.sf_damage.proofs.GatheredLemmas.{gone-behind, near-all}
use Rattle.sf_damage.proofs.changes.left_over.Goals as goal

pub returns-clause-near : goal.returns-clause-near
returns-clause-near c =
    let i = c.loop-old_at.old_at in
    let j = c.loop-old_at.new_at in
    subst (λ (l : List Rect). All IsInBounds l) (sym (c.in_ok-push_clips-2.ensures ∙ ap (λ (l : List Rect). l ++ map clip_of (take (length c.args.news.now - j) (drop j c.args.news.now))) c.in_ok-push_clips.ensures))
    (near-all c.args.olds.now c.args.news.now i j (length c.args.olds.now - i) (length c.args.news.now - j) c.loop-old_at.clips.items c.requires.olds c.requires.news c.loop-old_at.invariant.near)

pub returns-clause-same : goal.returns-clause-same
returns-clause-same c =
    let j = c.loop-old_at.new_at in
    subst (λ (l : List Rect). IsSameBeside c.args.olds.now c.args.news.now l) (sym (c.in_ok-push_clips-2.ensures ∙ ap (λ (l : List Rect). l ++ map clip_of (take (length c.args.news.now - j) (drop j c.args.news.now))) c.in_ok-push_clips.ensures))
    (gone-behind c.args.olds.now c.args.news.now c.loop-old_at.old_at j c.loop-old_at.clips.items c.loop-old_at.invariant.gone)

use Rattle.std.proofs.Common.{◌≡◌, ◌∙◌, ◌-◌, ℕ, List, length, take, drop, subst}
use Rattle.std.specs.List.{filter}
use Rattle.std.proofs.lemmas.Result.{IfOk-weaker}
use Rattle.sf_view.specs.declared.drawn.Drawn.{Drawn}
use Rattle.sf_damage.specs.Damage.{DiffersWithin, meets_clip}
use Rattle.sf_damage.proofs.GatheredLemmas.{all_behind}
use Rattle.sf_damage.proofs.WindowLemmas.{Within-ends, Within-window}
use Rattle.sf_damage.proofs.windows.+windows.Goals as goal

pub differing_between-returns : goal.differing_between-returns
differing_between-returns t c =
    let front : ℕ = c.shared_front-front.result in
    let back : ℕ = c.shared_back-back.result in
    let olds : List Drawn = take (length c.args.olds.now - front) (drop front c.args.olds.now) in
    let news : List Drawn = take (length c.args.news.now - front) (drop front c.args.news.now) in
    IfOk-weaker c.differing_here.result (λ rects. DiffersWithin (take (length olds - back) olds) (take (length news - back) news) c.args.window rects.items) (λ rects. DiffersWithin c.args.olds.now c.args.news.now c.args.window rects.items)
    (λ rects d.
    Within-ends c.args.olds.now c.args.news.now olds news front (length olds - back) (length news - back) c.args.window rects.items (all_behind c.args.olds.now front) (all_behind c.args.news.now front)
    c.shared_front-front.ensures.same c.shared_back-back.ensures.same d)
    c.differing_here.ensures

pub differing_in-returns : goal.differing_in-returns
differing_in-returns t c =
    let kept = λ (l : List Drawn). filter (meets_clip c.args.window) l in
    let olds : c.deref.result.now ≡ kept c.args.olds.now = c.deref.ensures.value ∙ c.in_ok-olds.ensures.value in
    let news : c.deref-2.result.now ≡ kept c.args.news.now = c.deref-2.ensures.value ∙ c.in_ok-news.ensures.value in
    IfOk-weaker c.differing_between.result (λ rects. DiffersWithin c.deref.result.now c.deref-2.result.now c.args.window rects.items) (λ rects. DiffersWithin c.args.olds.now c.args.news.now c.args.window rects.items)
    (λ rects d.
    Within-window c.args.window c.args.olds.now c.args.news.now rects.items
    (subst (λ (l : List Drawn). DiffersWithin (kept c.args.olds.now) l c.args.window rects.items) news (subst (λ (l : List Drawn). DiffersWithin l c.deref-2.result.now c.args.window rects.items) olds d)))
    c.differing_between.ensures

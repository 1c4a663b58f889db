use Rattle.std.proofs.Common.{◌≡◌, ◌+◌, ◌∷◌, ◌||◌, List, drop, get_or, subst, add-one}
use Rattle.std.proofs.Math.Seq.{drop-cons}
use Rattle.std.proofs.lemmas.Result.{on_ok_weaker}
use Rattle.sf_region.specs.Points.{has}
use Rattle.sf_view.specs.declared.drawn.Drawn.{Drawn}
use Rattle.sf_damage.proofs.ComparingLemmas.{AreLeft, left_both, left_inside, left_old, told_pushed, told_split, told_swapped}
use Rattle.sf_damage.proofs.DiffersLemmas.{IsSplit}
use Rattle.sf_damage.proofs.ListLemmas.{no_layer}
use Rattle.sf_damage.proofs.differing.compare_layer.Goals as goal

pub returns-then-is_same : goal.returns-then-is_same
returns-then-is_same c =
    on_ok_weaker c.push_piece.result
    (λ pushed k olds others left told.
    let from = c.args.piece.from in
    let cut : drop from c.args.news.now ≡ get_or c.args.news.now from no_layer ∷ drop (from + 1) c.args.news.now = rw (add-one from) (drop-cons c.args.news.now from no_layer c.if-from-news.true) in
    told_pushed k olds c.args.news.now others c.args.above.now.items c.push_piece.new.pieces.items c.args.found.now.items c.args.piece.part (from + 1)
    (left_both k c.args.old.now (get_or c.args.news.now from no_layer) olds (drop (from + 1) c.args.news.now) c.args.piece.part (c.is_same.ensures.0 c.if-is_same.true)
    (subst (λ (ns : List Drawn). AreLeft k (c.args.old.now ∷ olds) ns c.args.piece.part) cut left)) pushed told)
    c.push_piece.ensures

pub returns : goal.returns
returns c =
    let parts : IsSplit c.args.old.now.clip c.args.piece.part c.in_ok-inside.field-0.inside c.in_ok-inside.field-0.outside = record { inside = c.in_ok-inside.ensures.inside; outside = c.in_ok-inside.ensures.outside } in
    let news = c.args.news.now in
    let from = c.args.piece.from in
    on_ok_weaker c.compare_clip.result
    (λ clip k olds others left told.
    clip k olds others (left_inside k c.args.old.now.clip (c.args.old.now ∷ olds) (drop from news) c.args.piece.part c.in_ok-inside.field-0.inside c.in_ok-inside.field-0.outside parts left)
    (told_pushed k olds news (λ x y. has c.in_ok-inside.field-0.inside x y || others x y) c.args.above.now.items c.push_piece-2.new.pieces.items c.args.found.now.items c.in_ok-inside.field-0.outside from
    (left_old k c.args.old.now olds (drop from news) c.args.piece.part c.in_ok-inside.field-0.inside c.in_ok-inside.field-0.outside parts left) c.in_ok-push_piece.ensures
    (told_swapped k olds news others c.args.above.now.items c.args.found.now.items c.in_ok-inside.field-0.inside c.in_ok-inside.field-0.outside
    (told_split k olds news others c.args.above.now.items c.args.found.now.items c.args.old.now.clip c.args.piece.part c.in_ok-inside.field-0.inside c.in_ok-inside.field-0.outside parts told))))
    c.compare_clip.ensures

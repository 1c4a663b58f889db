use Rattle.std.proofs.Common.{◌≡◌, ◌+◌, ◌∷◌, ◌++◌, List, [], add-one, drop, get_or, subst}
use Rattle.std.proofs.Math.Seq.{drop-cons}
use Rattle.sf_view.specs.declared.drawn.Drawn.{Drawn}
use Rattle.sf_damage.specs.inner.Comparing.{Comparison, IsOpen, has_piece}
use Rattle.sf_damage.proofs.ComparingLemmas.{all_before, told_taken}
use Rattle.sf_damage.proofs.ListLemmas.{no_layer}
use Rattle.sf_damage.proofs.differing.differing.Goals as goal

pub loop-piece-preserved : goal.loop-piece-preserved
loop-piece-preserved c =
    let k : Comparison = record { olds = c.args.olds.now; news = c.args.news.now; part = c.args.part } in
    let at = c.loop-at.at in
    let olds = c.args.olds.now in
    let news = c.args.news.now in
    let rest = c.pop.new.self.items in
    let piece = c.in-Some.piece in
    let popped : c.loop-piece.pieces.items ≡ rest ++ piece ∷ [] = c.in-Some.ensures.items in
    let cut : drop at olds ≡ get_or olds at no_layer ∷ drop (at + 1) olds = rw (add-one at) (drop-cons olds at no_layer c.loop-piece.invariant.inside) in
    let all = all_before (IsOpen k (drop at olds) news) c.loop-piece.pieces.items rest piece popped c.loop-piece.invariant.are_open in
    record {
      inside = c.loop-piece.invariant.inside;
      are_open = all.0;
      told = c.in_ok-compare_layer.ensures k (drop (at + 1) olds) (has_piece rest) (subst (λ (os : List Drawn). IsOpen k os news piece) cut all.1)
          (told_taken k (drop (at + 1) olds) news c.loop-piece.pieces.items rest c.loop-piece.above.items piece c.loop-piece.found.items popped c.loop-piece.invariant.told);
    }

pub loop-piece-2-preserved : goal.loop-piece-2-preserved
loop-piece-2-preserved c =
    let k : Comparison = record { olds = c.args.olds.now; news = c.args.news.now; part = c.args.part } in
    let news = c.args.news.now in
    let rest = c.pop-in-loop-piece-2.new.self.items in
    let piece = c.in-Some-pop.piece in
    let popped : c.loop-piece-2.pieces.items ≡ rest ++ piece ∷ [] = c.in-Some-pop.ensures.items in
    let all = all_before (IsOpen k [] news) c.loop-piece-2.pieces.items rest piece popped c.loop-piece-2.invariant.are_open in
    record {
      are_open = all.0;
      told = c.in_ok-compare_rest.ensures k (has_piece rest) all.1
          (told_taken k [] news c.loop-piece-2.pieces.items rest [] piece c.loop-piece-2.found.items popped c.loop-piece-2.invariant.told);
    }

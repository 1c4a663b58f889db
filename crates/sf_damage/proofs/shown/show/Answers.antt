use Rattle.std.proofs.Common.{◌≡◌, ◌∷◌, ◌-◌, List, drop, get_or, reverse, suc, subst, sym, arith}
use Rattle.std.proofs.Math.Seq.{drop-cons, drop-length}
use Rattle.sf_base.specs.Geometry.{covers}
use Rattle.sf_view.specs.declared.drawn.Drawn.{Drawn}
use Rattle.sf_damage.specs.inner.Showing.{IsShown}
use Rattle.sf_damage.specs.Visible.{AreVisibleAt, AreWithin}
use Rattle.sf_damage.proofs.ListLemmas.{no_layer}
use Rattle.sf_damage.proofs.ShowingLemmas.{shown_none}
use Rattle.sf_damage.proofs.shown.show.Goals as goal

pub loop-at-init : goal.loop-at-init
loop-at-init c = record { inside = omega arith; shows = rw (drop-length c.args.layers.now, c.new-shown.ensures.items, c.new-hidden.ensures.items) (shown_none (covers c.args.window.now)) }

pub loop-at-preserved : goal.loop-at-preserved
loop-at-preserved c =
    let layers = c.args.layers.now in
    let at = c.loop-at.at in
    let below = at - 1 in
    let next : suc below ≡ at = omega (arith, c.loop-at-test.true) in
    let cut : drop below layers ≡ get_or layers below no_layer ∷ drop at layers = subst (λ n. drop below layers ≡ get_or layers below no_layer ∷ drop n layers) next (drop-cons layers below no_layer (omega (arith, next, c.loop-at.invariant.inside))) in
    record {
      inside = omega (arith, next, c.loop-at.invariant.inside);
      shows = subst (λ (ls : List Drawn). IsShown (covers c.args.window.now) ls c.show_one.new.shown.items c.show_one.new.hidden.items) (sym cut) (c.in_ok-show_one.ensures (drop at layers) c.loop-at.invariant.shows);
    }

pub returns-clause-visible : goal.returns-clause-visible
returns-clause-visible c =
    let none : c.loop-at.at ≡ 0 = omega (arith, c.loop-at-test.false) in
    subst (λ n. AreVisibleAt (covers c.args.window.now) (drop n c.args.layers.now) (reverse c.loop-at.shown.items)) none c.loop-at.invariant.shows.visible

pub returns-clause-within : goal.returns-clause-within
returns-clause-within c =
    let none : c.loop-at.at ≡ 0 = omega (arith, c.loop-at-test.false) in
    subst (λ n. AreWithin (drop n c.args.layers.now) (reverse c.loop-at.shown.items)) none c.loop-at.invariant.shows.within

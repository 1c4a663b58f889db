use Rattle.std.proofs.Common.{◌≡◌, ◌∙◌, Bool, true, false, not, refl, sym}
use Rattle.std.proofs.lemmas.Bool.{false≢true}
use Rattle.sf_base.specs.Geometry.{covers}
use Rattle.sf_damage.specs.Visible.{hides_all}
use Rattle.sf_damage.proofs.ShowingLemmas.{left_by, shown_clear, shown_empty, shown_hides}
use Rattle.sf_damage.proofs.shown.show_one.Goals as goal
use Rattle.sf_damage.proofs.shown.show_one.Goals.{then-hides_all, else-hides_all}

not_false : (b : Bool) → not b ≡ false → b ≡ true
not_false true e = refl
not_false false e = absurd (false≢true (sym e))

pub returns-in_ok-push-2 : goal.returns-in_ok-push-2
returns-in_ok-push-2 c = λ above before.
    let solid : hides_all c.args.drawn.now ≡ true = elim c.if-hides_all.branch [
      | then-hides_all w ↦ sym c.hides_all.ensures ∙ w.if-hides_all.true
      | else-hides_all w ↦ absurd (false≢true (sym w.if-hides_all.false ∙ (sym w.adds-is ∙ c.if-adds.true)))
    ] in
    shown_hides (covers c.args.window.now) c.args.drawn.now above c.args.shown.now.items c.push.new.self.items c.args.hidden.now.items c.push-then-adds.new.self.items c.in_ok-region.region
    solid c.requires.near (left_by (covers c.args.window.now) c.args.drawn.now.clip c.in_ok-region.region c.deref.result.now c.args.hidden.now.items c.deref.ensures.value c.in_ok-region.ensures.points) c.in_ok-region.ensures.within
    c.in_ok-push.ensures.items c.in_ok-push-2.ensures.items before

pub returns-else-adds : goal.returns-else-adds
returns-else-adds c = λ above before.
    let points = left_by (covers c.args.window.now) c.args.drawn.now.clip c.in_ok-region.region c.deref.result.now c.args.hidden.now.items c.deref.ensures.value c.in_ok-region.ensures.points in
    elim c.if-hides_all.branch [
      | then-hides_all w ↦
          shown_empty (covers c.args.window.now) c.args.drawn.now above c.args.shown.now.items c.push.new.self.items c.args.hidden.now.items c.in_ok-region.region
          (sym c.hides_all.ensures ∙ w.if-hides_all.true) (w.is_empty.ensures.0 (not_false w.is_empty.result (sym w.adds-is ∙ c.if-adds.false))) points c.in_ok-region.ensures.within c.in_ok-push.ensures.items before
      | else-hides_all w ↦
          shown_clear (covers c.args.window.now) c.args.drawn.now above c.args.shown.now.items c.push.new.self.items c.args.hidden.now.items c.in_ok-region.region
          (sym c.hides_all.ensures ∙ w.if-hides_all.false) points c.in_ok-region.ensures.within c.in_ok-push.ensures.items before
    ]

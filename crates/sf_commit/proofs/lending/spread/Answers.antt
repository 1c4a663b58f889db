use Rattle.std.proofs.Common.{◌∙◌, ◌++◌, ◌∷◌, [], List, Option, Some, ap, append_assoc, length, map, sym, arith}
use Rattle.sf_view.specs.sf_picture.declared.picture.Picture.{Picture}
use Rattle.sf_commit.proofs.lending.spread.Goals as goal

pub loop-painted-preserved : goal.loop-painted-preserved
loop-painted-preserved c =
    let slots = c.loop-painted.slots.items in
    let later = c.next.new.self.rest.items in
    let some : List Picture → List (Option Picture) = map (λ (picture : Picture). Some picture) in
    let steps = c.in-Some.ensures.steps.0 in
    let fewer = ap (λ (xs : List Picture). length xs) steps in
    let room = c.loop-painted.invariant.room in
    record {
      made = ap (λ (xs : List (Option Picture)). xs ++ some later) c.push_reserved.ensures.items
          ∙ (append_assoc slots (Some c.in-Some.painted ∷ []) (some later) ∙ (ap (λ (xs : List Picture). slots ++ some xs) (sym steps) ∙ c.loop-painted.invariant.made));
      room = omega (arith, room, fewer, c.push_reserved.ensures.len, c.push_reserved.ensures.capacity);
      slots = c.push_reserved.ensures.capacity ∙ c.loop-painted.invariant.slots;
    }

-- Rectangles that are put together, and layers that are left over.
use Rattle.std.proofs.Common.{◌≡◌, ℕ, suc, ◌+◌, ◌-◌, ◌<◌, ◌≤◌, ℤ, Bool, true, false, ◌||◌, List, [], ◌∷◌, ◌++◌, length, get_or, take, drop, map, refl, ap, ◌∙◌, sym, arith, add-one, length-drop}
use Rattle.std.specs.List.{All}
use Rattle.std.proofs.Math.Seq.{drop-cons}
use Rattle.std.proofs.lemmas.Bool.{or_parts}
use Rattle.std.proofs.lemmas.List.{take-append-drop, take_all}
use Rattle.std.proofs.lemmas.List.Elements.{All-append, All-drop, All-map, All-take}
use Rattle.std.proofs.lemmas.List.Folds.{list_any-append}
use Rattle.sf_base.specs.Geometry.{covers}
use Rattle.sf_base.specs.declared.geometry.Rect.{Rect}
use Rattle.sf_region.specs.Points.{IsInBounds, has}
use Rattle.sf_view.specs.declared.drawn.Drawn.{Drawn}
use Rattle.sf_damage.specs.Damage.{AreNear, IsSameBeside, clip_of, stack_in}
use Rattle.sf_damage.proofs.StackLemmas.{stack-both, stack-out}

pub has-append : (rs qs : List Rect) (x y : ℤ) → has (rs ++ qs) x y ≡ (has rs x y || has qs x y)
has-append rs qs x y = list_any-append (λ r. covers r x y) rs qs

twice : (c : Bool) → c ≡ (c || (c || false))
twice true = refl
twice false = refl

-- the points of a rectangle that is there twice
pub pair-points : (rects : List Rect) (d e : Rect) (region : List Rect) → 2 ≤ length rects → length rects < 3 → get_or rects 0 d ≡ get_or rects 1 e
    → ((x y : ℤ) → has region x y ≡ covers (get_or rects 0 d) x y) → (x y : ℤ) → has region x y ≡ has rects x y
pair-points [] d e region two few same points x y = absurd (omega arith)
pair-points (a ∷ []) d e region two few same points x y = absurd (omega arith)
pair-points (a ∷ b ∷ []) d e region two few same points x y =
    points x y ∙ (twice (covers a x y) ∙ ap (λ (r : Rect). covers a x y || (covers r x y || false)) same)
pair-points (a ∷ b ∷ r ∷ rs) d e region two few same points x y = absurd (omega arith)

-- the points of two halves
pub halves-points : (rects one other region : List Rect) (n : ℕ) → ((x y : ℤ) → has one x y ≡ has (take n rects) x y) → ((x y : ℤ) → has other x y ≡ has (drop n rects) x y)
    → ((x y : ℤ) → has region x y ≡ (has one x y || has other x y)) → (x y : ℤ) → has region x y ≡ has rects x y
halves-points rects one other region n low high joined x y =
    joined x y ∙ ((rw (low x y, high x y) (sym (has-append (take n rects) (drop n rects) x y))) ∙ ap (λ (l : List Rect). has l x y) (take-append-drop n rects))

-- beside the clips of layers none of these is
pub no-clips : (layers : List Drawn) (x y : ℤ) → has (map clip_of layers) x y ≡ false → stack_in layers x y ≡ []
no-clips [] x y out = refl
no-clips (d ∷ ds) x y out =
    let parts = or_parts (covers d.clip x y) (has (map clip_of ds) x y) out in
    stack-out d ds x y parts.0 ∙ no-clips ds x y parts.1

-- two lists are gone through up to two places, and these clips are left over
pub record IsGoneThrough (olds news : List Drawn) (i j : ℕ) (clips : List Rect) : Type 0 where
  pub stacks : (x y : ℤ) → has clips x y ≡ false → stack_in (drop i olds) x y ≡ stack_in (drop j news) x y → stack_in olds x y ≡ stack_in news x y

pub gone-first : (olds news : List Drawn) → IsGoneThrough olds news 0 0 []
gone-first olds news = record { stacks = λ x y out e. e }

pub gone-both : (olds news : List Drawn) (i j : ℕ) (d : Drawn) (clips : List Rect) → i < length olds → j < length news → get_or olds i d ≡ get_or news j d → IsGoneThrough olds news i j clips → IsGoneThrough olds news (i + 1) (j + 1) clips
gone-both olds news i j d clips old new same gone = record {
  stacks = λ x y out e.
      (let later : stack_in (drop (suc i) olds) x y ≡ stack_in (drop (suc j) news) x y = rw (add-one i, add-one j) at e in
      let both = stack-both (get_or olds i d) (drop (suc i) olds) (drop (suc j) news) x y later in
      gone.stacks x y out
      (ap (λ (l : List Drawn). stack_in l x y) (drop-cons olds i d old)
      ∙ (both ∙ (ap (λ (o : Drawn). stack_in (o ∷ drop (suc j) news) x y) same ∙ ap (λ (l : List Drawn). stack_in l x y) (sym (drop-cons news j d new))))));
}

pub gone-new : (olds news : List Drawn) (i j : ℕ) (d : Drawn) (clips : List Rect) → j < length news → IsGoneThrough olds news i j clips → IsGoneThrough olds news i (j + 1) (clips ++ (get_or news j d).clip ∷ [])
gone-new olds news i j d clips new gone = record {
  stacks = λ x y out e.
      (let parts = or_parts (has clips x y) (has ((get_or news j d).clip ∷ []) x y) (sym (has-append clips ((get_or news j d).clip ∷ []) x y) ∙ out) in
      let here = or_parts (covers (get_or news j d).clip x y) false parts.1 in
      let later : stack_in (drop i olds) x y ≡ stack_in (drop (suc j) news) x y = rw (add-one j) at e in
      gone.stacks x y parts.0 (later ∙ (sym (stack-out (get_or news j d) (drop (suc j) news) x y here.0) ∙ ap (λ (l : List Drawn). stack_in l x y) (sym (drop-cons news j d new)))));
}

pub gone-old : (olds news : List Drawn) (i j : ℕ) (d : Drawn) (clips : List Rect) → i < length olds → IsGoneThrough olds news i j clips → IsGoneThrough olds news (i + 1) j (clips ++ (get_or olds i d).clip ∷ [])
gone-old olds news i j d clips old gone = record {
  stacks = λ x y out e.
      (let parts = or_parts (has clips x y) (has ((get_or olds i d).clip ∷ []) x y) (sym (has-append clips ((get_or olds i d).clip ∷ []) x y) ∙ out) in
      let here = or_parts (covers (get_or olds i d).clip x y) false parts.1 in
      let later : stack_in (drop (suc i) olds) x y ≡ stack_in (drop j news) x y = rw (add-one i) at e in
      gone.stacks x y parts.0 (ap (λ (l : List Drawn). stack_in l x y) (drop-cons olds i d old) ∙ (stack-out (get_or olds i d) (drop (suc i) olds) x y here.0 ∙ later)));
}

pub gone-all : (olds news : List Drawn) (i j : ℕ) (clips : List Rect) → IsGoneThrough olds news i j clips → IsSameBeside olds news ((clips ++ map clip_of (drop i olds)) ++ map clip_of (drop j news))
gone-all olds news i j clips gone = record {
  stacks = λ x y out.
      (let parts = or_parts (has (clips ++ map clip_of (drop i olds)) x y) (has (map clip_of (drop j news)) x y) (sym (has-append (clips ++ map clip_of (drop i olds)) (map clip_of (drop j news)) x y) ∙ out) in
      let inner = or_parts (has clips x y) (has (map clip_of (drop i olds)) x y) (sym (has-append clips (map clip_of (drop i olds)) x y) ∙ parts.0) in
      gone.stacks x y inner.0 (no-clips (drop i olds) x y inner.1 ∙ sym (no-clips (drop j news) x y parts.1)));
}

-- a part that goes to the end of a list is all that is behind its beginning
pub all_behind : (xs : List Drawn) (i : ℕ) → take (length xs - i) (drop i xs) ≡ drop i xs
all_behind xs i = take_all (length xs - i) (drop i xs) (omega (arith, length-drop i xs))

near_clips : (layers : List Drawn) (n i : ℕ) → AreNear layers → All IsInBounds (map clip_of (take n (drop i layers)))
near_clips layers n i near =
    All-map IsInBounds clip_of (take n (drop i layers)) (All-take (λ (d : Drawn). IsInBounds d.clip) n (drop i layers) (All-drop (λ (d : Drawn). IsInBounds d.clip) i layers near))

pub near-all : (olds news : List Drawn) (i j m n : ℕ) (clips : List Rect) → AreNear olds → AreNear news → All IsInBounds clips → All IsInBounds ((clips ++ map clip_of (take m (drop i olds))) ++ map clip_of (take n (drop j news)))
near-all olds news i j m n clips old new near =
    All-append IsInBounds (clips ++ map clip_of (take m (drop i olds))) (map clip_of (take n (drop j news)))
    (All-append IsInBounds clips (map clip_of (take m (drop i olds))) near (near_clips olds m i old)) (near_clips news n j new)

pub gone-behind : (olds news : List Drawn) (i j : ℕ) (clips : List Rect) → IsGoneThrough olds news i j clips
    → IsSameBeside olds news ((clips ++ map clip_of (take (length olds - i) (drop i olds))) ++ map clip_of (take (length news - j) (drop j news)))
gone-behind olds news i j clips gone = rw (all_behind olds i, all_behind news j) (gone-all olds news i j clips gone)

rects_behind : (rects : List Rect) (n : ℕ) → take (length rects - n) (drop n rects) ≡ drop n rects
rects_behind rects n = take_all (length rects - n) (drop n rects) (omega (arith, length-drop n rects))

pub halves-behind : (rects one other region : List Rect) (n : ℕ) → ((x y : ℤ) → has one x y ≡ has (take n rects) x y) → ((x y : ℤ) → has other x y ≡ has (take (length rects - n) (drop n rects)) x y)
    → ((x y : ℤ) → has region x y ≡ (has one x y || has other x y)) → (x y : ℤ) → has region x y ≡ has rects x y
halves-behind rects one other region n low high joined =
    halves-points rects one other region n low (λ x y. high x y ∙ ap (λ (l : List Rect). has l x y) (rects_behind rects n)) joined

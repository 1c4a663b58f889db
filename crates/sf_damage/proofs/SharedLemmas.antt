-- Lists that begin or end alike.
use Rattle.std.proofs.Common.{◌≡◌, ◌↔◌, ℕ, suc, ◌+◌, ◌-◌, ◌<◌, ℤ, Bool, true, false, cond, List, [], ◌∷◌, ◌++◌, length, get_or, take, drop, refl, ap, ◌∙◌, sym, subst, arith}
use Rattle.std.specs.List.{filter}
use Rattle.std.specs.Prelude.{map}
use Rattle.std.proofs.Math.Seq.{drop-cons}
use Rattle.std.proofs.lemmas.List.{append_cancel_left, append_cancel_right, take-append-drop, take_more}
use Rattle.sf_base.specs.declared.geometry.Rect.{Rect}
use Rattle.sf_view.specs.Stacks.{Sheet, sheet_of, stack}
use Rattle.sf_view.specs.Views.{ViewOf, is_in_clip}
use Rattle.sf_view.specs.declared.drawn.Drawn.{Drawn}
use Rattle.sf_damage.specs.Damage.{Damages, DamagesLists, stack_in}

-- one more layer is alike
pub front-more : (olds news : List Drawn) (i : ℕ) (d : Drawn) → i < length olds → i < length news → take i olds ≡ take i news → get_or olds i d ≡ get_or news i d → take (i + 1) olds ≡ take (i + 1) news
front-more olds news i d old new same one =
    take_more olds i d old ∙ (ap (λ (l : List Drawn). l ++ get_or olds i d ∷ []) same ∙ (ap (λ (x : Drawn). take i news ++ x ∷ []) one ∙ sym (take_more news i d new)))

from_back : (xs : List Drawn) (i : ℕ) (d : Drawn) → i < length xs → drop (length xs - (i + 1)) xs ≡ get_or xs (length xs - i - 1) d ∷ drop (length xs - i) xs
from_back xs i d inside =
    let at : length xs - (i + 1) ≡ length xs - i - 1 = omega arith in
    let next : suc (length xs - i - 1) ≡ length xs - i = omega arith in
    ap (λ (k : ℕ). drop k xs) at ∙ (drop-cons xs (length xs - i - 1) d (omega arith) ∙ ap (λ (k : ℕ). get_or xs (length xs - i - 1) d ∷ drop k xs) next)

pub back-more : (olds news : List Drawn) (i : ℕ) (d : Drawn) → i < length olds → i < length news → drop (length olds - i) olds ≡ drop (length news - i) news
    → get_or olds (length olds - i - 1) d ≡ get_or news (length news - i - 1) d → drop (length olds - (i + 1)) olds ≡ drop (length news - (i + 1)) news
back-more olds news i d old new same one =
    from_back olds i d old ∙ (ap (λ (x : Drawn). x ∷ drop (length olds - i) olds) one ∙ (ap (λ (l : List Drawn). get_or news (length news - i - 1) d ∷ l) same ∙ sym (from_back news i d new)))

-- the stack of two lists one behind the other
pub stack_in-append : (xs ys : List Drawn) (x y : ℤ) → stack_in (xs ++ ys) x y ≡ stack_in xs x y ++ stack_in ys x y
stack_in-append [] ys x y = refl
stack_in-append (d ∷ ds) ys x y = by_test (is_in_clip d x y) (stack_in-append ds ys x y)
  where
    here : List Drawn → Bool → List Drawn
    here l b = cond b (d ∷ filter (λ e. is_in_clip e x y) l) (filter (λ e. is_in_clip e x y) l)

    by_test : (b : Bool) → stack_in (ds ++ ys) x y ≡ stack_in ds x y ++ stack_in ys x y → map sheet_of (here (ds ++ ys) b) ≡ map sheet_of (here ds b) ++ stack_in ys x y
    by_test true e = ap (λ (s : List Sheet). sheet_of d ∷ s) e
    by_test false e = e

-- what two lists share at the front tells no difference
same-front : (olds news : List Drawn) (i : ℕ) (x y : ℤ) → take i olds ≡ take i news → (stack_in (drop i olds) x y ≡ stack_in (drop i news) x y) ↔ (stack_in olds x y ≡ stack_in news x y)
same-front olds news i x y same =
    let old : stack_in olds x y ≡ stack_in (take i olds) x y ++ stack_in (drop i olds) x y = ap (λ (l : List Drawn). stack_in l x y) (sym (take-append-drop i olds)) ∙ stack_in-append (take i olds) (drop i olds) x y in
    let new : stack_in news x y ≡ stack_in (take i olds) x y ++ stack_in (drop i news) x y =
    ap (λ (l : List Drawn). stack_in l x y) (sym (take-append-drop i news)) ∙ (stack_in-append (take i news) (drop i news) x y ∙ ap (λ (l : List Drawn). stack_in l x y ++ stack_in (drop i news) x y) (sym same)) in
    ((λ e. old ∙ (ap (λ (s : List Sheet). stack_in (take i olds) x y ++ s) e ∙ sym new)), (λ e. append_cancel_left (stack_in (take i olds) x y) _ _ (sym old ∙ (e ∙ new))))

-- nor what they share at the back
same-back : (olds news : List Drawn) (i j : ℕ) (x y : ℤ) → drop i olds ≡ drop j news → (stack_in (take i olds) x y ≡ stack_in (take j news) x y) ↔ (stack_in olds x y ≡ stack_in news x y)
same-back olds news i j x y same =
    let old : stack_in olds x y ≡ stack_in (take i olds) x y ++ stack_in (drop i olds) x y = ap (λ (l : List Drawn). stack_in l x y) (sym (take-append-drop i olds)) ∙ stack_in-append (take i olds) (drop i olds) x y in
    let new : stack_in news x y ≡ stack_in (take j news) x y ++ stack_in (drop i olds) x y =
    ap (λ (l : List Drawn). stack_in l x y) (sym (take-append-drop j news)) ∙ (stack_in-append (take j news) (drop j news) x y ∙ ap (λ (l : List Drawn). stack_in (take j news) x y ++ stack_in l x y) (sym same)) in
    ((λ e. old ∙ (ap (λ (s : List Sheet). s ++ stack_in (drop i olds) x y) e ∙ sym new)), (λ e. append_cancel_right _ _ (stack_in (drop i olds) x y) (sym old ∙ (e ∙ new))))

pub same-ends : (olds news old_rest new_rest : List Drawn) (i j k : ℕ) (x y : ℤ) → old_rest ≡ drop i olds → new_rest ≡ drop i news → take i olds ≡ take i news → drop j old_rest ≡ drop k new_rest
    → (stack_in (take j old_rest) x y ≡ stack_in (take k new_rest) x y) ↔ (stack_in olds x y ≡ stack_in news x y)
same-ends olds news old_rest new_rest i j k x y old new front back =
    let inner = same-back old_rest new_rest j k x y back in
    let outer = same-front olds news i x y front in
    let one = ap (λ (l : List Drawn). stack_in l x y) old in
    let other = ap (λ (l : List Drawn). stack_in l x y) new in
    ((λ e. outer.0 (sym one ∙ (inner.0 e ∙ other))), (λ e. inner.1 (one ∙ (outer.1 e ∙ sym other))))

-- views are compared by their layers
pub Damages-views : (old new : ViewOf) (olds news : List Drawn) (region : List Rect) → olds ≡ old.drawn → news ≡ new.drawn → DamagesLists olds news region → Damages old new region
unfolding stack
Damages-views old new olds news region e f d =
    let all : DamagesLists old.drawn new.drawn region = subst (λ (l : List Drawn). DamagesLists old.drawn l region) f (subst (λ (l : List Drawn). DamagesLists l news region) e d) in
    record { points = all.points }

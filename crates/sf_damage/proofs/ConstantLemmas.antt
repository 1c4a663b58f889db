-- Stacks that are the same, or others, at each point of a window.
use Rattle.std.proofs.Common.{◌≡◌, ◌≢◌, ◌↔◌, ℕ, ◌+◌, ◌<◌, ℤ, Bool, true, false, List, [], ◌∷◌, length, get_or, drop, map, refl, ap, ◌∙◌, sym, subst, add-one}
use Rattle.std.specs.List.{All, list_all}
use Rattle.std.proofs.Math.Seq.{drop-cons, drop-length}
use Rattle.std.proofs.lemmas.Bool.{and_parts}
use Rattle.sf_base.specs.Geometry.{covers}
use Rattle.sf_base.specs.declared.geometry.Rect.{Rect}
use Rattle.sf_view.specs.Stacks.{Sheet, sheet_of}
use Rattle.sf_view.specs.Views.{is_in_clip}
use Rattle.sf_view.specs.declared.drawn.Drawn.{Drawn}
use Rattle.sf_damage.specs.Damage.{stack_in}
use Rattle.sf_damage.specs.inner.Meeting.{rect_has}
use Rattle.sf_damage.proofs.ListLemmas.{all-cons, all-first, all-none, all-rest}
use Rattle.sf_damage.proofs.MeetingLemmas.{rect_more}
use Rattle.sf_damage.proofs.StackLemmas.{sheets-head, sheets-tail, stack-in, stack-out}

-- one layer and those behind it
cut : (layers : List Drawn) (i : ℕ) (d : Drawn) → i < length layers → drop i layers ≡ get_or layers i d ∷ drop (i + 1) layers
cut layers i d h = rw (add-one i) (drop-cons layers i d h)

-- layers that each have a window are all drawn at its points
pub sheets-window : (window : Rect) (layers : List Drawn) (x y : ℤ) → list_all (λ drawn. rect_has drawn.clip window) layers ≡ true → covers window x y ≡ true → stack_in layers x y ≡ map sheet_of layers
sheets-window window [] x y all inside = refl
sheets-window window (d ∷ ds) x y all inside =
    let parts = and_parts (rect_has d.clip window) _ all in
    stack-in d ds x y (rect_more d.clip window x y parts.0 inside) ∙ ap (λ (s : List Sheet). sheet_of d ∷ s) (sheets-window window ds x y parts.1 inside)

-- what is left of two lists has the same sheets exactly where they do
abbrev pub HaveSameRest : List Drawn → List Drawn → ℕ → Type 0
HaveSameRest olds news i = (map sheet_of (drop i olds) ≡ map sheet_of (drop i news)) ↔ (map sheet_of olds ≡ map sheet_of news)

pub sheets-more : (olds news : List Drawn) (i : ℕ) (d e : Drawn) → i < length olds → i < length news → sheet_of (get_or olds i d) ≡ sheet_of (get_or news i e) → HaveSameRest olds news i → HaveSameRest olds news (i + 1)
sheets-more olds news i d e old new same rest =
    let one : map sheet_of (drop i olds) ≡ sheet_of (get_or olds i d) ∷ map sheet_of (drop (i + 1) olds) = ap (λ (l : List Drawn). map sheet_of l) (cut olds i d old) in
    let other : map sheet_of (drop i news) ≡ sheet_of (get_or news i e) ∷ map sheet_of (drop (i + 1) news) = ap (λ (l : List Drawn). map sheet_of l) (cut news i e new) in (
      (λ h. rest.0 (one ∙ (ap (λ (s : Sheet). s ∷ map sheet_of (drop (i + 1) olds)) same ∙ (ap (λ (l : List Sheet). sheet_of (get_or news i e) ∷ l) h ∙ sym other)))),
      (λ h. sheets-tail _ _ _ _ (sym one ∙ (rest.1 h ∙ other))),
    )

pub sheets-other : (olds news : List Drawn) (i : ℕ) (d e : Drawn) → i < length olds → i < length news → (sheet_of (get_or olds i d) ≡ sheet_of (get_or news i e) → ⊥) → HaveSameRest olds news i → map sheet_of olds ≡ map sheet_of news → ⊥
sheets-other olds news i d e old new apart rest h =
    let one : map sheet_of (drop i olds) ≡ sheet_of (get_or olds i d) ∷ map sheet_of (drop (i + 1) olds) = ap (λ (l : List Drawn). map sheet_of l) (cut olds i d old) in
    let other : map sheet_of (drop i news) ≡ sheet_of (get_or news i e) ∷ map sheet_of (drop (i + 1) news) = ap (λ (l : List Drawn). map sheet_of l) (cut news i e new) in
    apart (sheets-head _ _ _ _ (sym one ∙ (rest.1 h ∙ other)))

pub sheets-ended : (olds news : List Drawn) (i : ℕ) → i ≡ length olds → length olds ≡ length news → HaveSameRest olds news i → map sheet_of olds ≡ map sheet_of news
sheets-ended olds news i end same rest =
    let one : drop i olds ≡ [] = rw end (drop-length olds) in
    let other : drop i news ≡ [] = rw (end ∙ same) (drop-length news) in
    rest.0 (ap (λ (l : List Drawn). map sheet_of l) (one ∙ sym other))

-- none of these sheets is this one
abbrev pub IsOther : Sheet → Sheet → Type 0
IsOther sheet other = other ≢ sheet

abbrev pub Lack : Sheet → List Sheet → Type 0
Lack sheet sheets = All (IsOther sheet) sheets

-- none of these layers has this sheet
abbrev pub HasOther : Sheet → Drawn → Type 0
HasOther sheet drawn = sheet_of drawn ≢ sheet

lack-stack : (sheet : Sheet) (layers : List Drawn) (x y : ℤ) → All (HasOther sheet) layers → Lack sheet (stack_in layers x y)
lack-stack sheet [] x y all = all-none (IsOther sheet)
lack-stack sheet (d ∷ ds) x y all = by_test (is_in_clip d x y) refl (lack-stack sheet ds x y (all-rest (HasOther sheet) d ds all))
  where
    by_test : (b : Bool) → is_in_clip d x y ≡ b → Lack sheet (stack_in ds x y) → Lack sheet (stack_in (d ∷ ds) x y)
    by_test true t rest = subst (Lack sheet) (sym (stack-in d ds x y t)) (all-cons (IsOther sheet) (sheet_of d) (stack_in ds x y) (all-first (HasOther sheet) d ds all) rest)
    by_test false t rest = subst (Lack sheet) (sym (stack-out d ds x y t)) rest

lack-rest : (sheet : Sheet) (d : Drawn) (ds : List Drawn) (x y : ℤ) → Lack sheet (stack_in (d ∷ ds) x y) → Lack sheet (stack_in ds x y)
lack-rest sheet d ds x y all = by_test (is_in_clip d x y) refl
  where
    by_test : (b : Bool) → is_in_clip d x y ≡ b → Lack sheet (stack_in ds x y)
    by_test true t = all-rest (IsOther sheet) (sheet_of d) (stack_in ds x y) (subst (Lack sheet) (stack-in d ds x y t) all)
    by_test false t = subst (Lack sheet) (stack-out d ds x y t) all

-- the sheets of what is left of layers are sheets of theirs
abbrev pub IsRest : List Drawn → List Drawn → Type 0
IsRest layers rest = (sheet : Sheet) (x y : ℤ) → Lack sheet (stack_in layers x y) → Lack sheet (stack_in rest x y)

pub rest-more : (layers : List Drawn) (i : ℕ) (d : Drawn) → i < length layers → IsRest layers (drop i layers) → IsRest layers (drop (i + 1) layers)
rest-more layers i d h rest = λ sheet x y all.
    lack-rest sheet (get_or layers i d) (drop (i + 1) layers) x y (subst (λ (l : List Drawn). Lack sheet (stack_in l x y)) (cut layers i d h) (rest sheet x y all))

-- where a layer has a point and others have no layer like it, the stacks are others
pub rest-apart : (window : Rect) (layers others : List Drawn) (i : ℕ) (d : Drawn) → i < length layers → IsRest layers (drop i layers) → rect_has (get_or layers i d).clip window ≡ true → All (HasOther (sheet_of (get_or layers i d))) others
    → (x y : ℤ) → covers window x y ≡ true → stack_in layers x y ≢ stack_in others x y
rest-apart window layers others i d h rest whole lacks x y inside = λ e.
    let drawn = get_or layers i d in
    let lack : Lack (sheet_of drawn) (stack_in layers x y) = subst (Lack (sheet_of drawn)) (sym e) (lack-stack (sheet_of drawn) others x y lacks) in
    let here : Lack (sheet_of drawn) (stack_in (drawn ∷ drop (i + 1) layers) x y) = subst (λ (l : List Drawn). Lack (sheet_of drawn) (stack_in l x y)) (cut layers i d h) (rest (sheet_of drawn) x y lack) in
    let first = subst (Lack (sheet_of drawn)) (stack-in drawn (drop (i + 1) layers) x y (rect_more drawn.clip window x y whole inside)) here in
    all-first (IsOther (sheet_of drawn)) (sheet_of drawn) (stack_in (drop (i + 1) layers) x y) first refl

-- A text that grows line by line.
use Rattle.std.proofs.Common.{◌≡◌, ◌++◌, [], ◌∷◌, List, refl, sym, ◌∙◌, ap}
use Rattle.std.specs.List.{concat}
use Rattle.std.proofs.lemmas.List.{append_assoc, append-nil}
use Rattle.sf_script_generate.specs.Lines.{GrowsBy, Text}

concat-append : (xs ys : List Text) → concat (xs ++ ys) ≡ concat xs ++ concat ys
concat-append [] ys = refl
concat-append (x ∷ xs) ys = ap (λ t. x ++ t) (concat-append xs ys) ∙ sym (append_assoc x (concat xs) (concat ys))

-- some lines behind others
pub both : (xs ys : List Text) {a b c : Text} → GrowsBy xs a b → GrowsBy ys b c → GrowsBy (xs ++ ys) a c
both xs ys {a} {b} {c} first second = record {
  grown = second.grown ∙ ap (λ t. t ++ concat ys) first.grown ∙ append_assoc a (concat xs) (concat ys) ∙ ap (λ t. a ++ t) (sym (concat-append xs ys));
}

-- some lines behind one
pub and_then : {line : Text} {lines : List Text} {a b c : Text} → GrowsBy (line ∷ []) a b → GrowsBy lines b c → GrowsBy (line ∷ lines) a c
and_then {line} {lines} first second = both (line ∷ []) lines first second

-- one line
pub one : {line a b : Text} → b ≡ a ++ line → GrowsBy (line ∷ []) a b
one {line} {a} {b} e = record { grown = e ∙ ap (λ t. a ++ t) (sym (append-nil line)) }

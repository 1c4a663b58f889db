-- Words that are written out, and numbers among them.
use Rattle.std.proofs.Common.{◌≡◌, ℕ, ◌<◌, ◌≤◌, ◌^◌, ◌++◌, Bool, true, false, List, [], ◌∷◌, length, refl, ap, ◌∙◌, arith}
use Rattle.std.specs.Prelude.{codes, ◌&&◌, nat_le, nat_lt, not}
use Rattle.std.specs.Fmt.{decimal}
use Rattle.std.proofs.lemmas.Fmt.{decimal_nonempty}
use Rattle.std.proofs.lemmas.List.{append_assoc, append-nil}
use Rattle.std.proofs.lemmas.Bool.Decides.{nat_tests}
use Rattle.sf_script_words.specs.Text.{Text, is_blank, words_of}
use Rattle.law_generated.specs.inner.Plain.{IsPlain, IsSolid}
use Rattle.law_generated.proofs.TextLemmas.{decimal_plain, decimal_solid, last_word, next_word, plain_append}

-- tests of texts that are written out
abbrev pub is_solid : Text → Bool
is_solid [] = true
is_solid (b ∷ bs) = not (is_blank b) && is_solid bs

abbrev pub is_plain : Text → Bool
is_plain [] = true
is_plain (b ∷ bs) = (nat_le 32 b && nat_lt b 127) && is_plain bs

abbrev pub is_word : Text → Bool
is_word [] = false
is_word (b ∷ bs) = is_solid (b ∷ bs)

both_true : (a b : Bool) → (a && b) ≡ true → (a ≡ true) × (b ≡ true)
both_true true b e = (refl, e)
both_true false b e = absurd (cc)

not_true : (b : Bool) → not b ≡ true → b ≡ false
not_true false e = refl
not_true true e = absurd (cc)

le_true : (a b : ℕ) → nat_le a b ≡ true → a ≤ b
le_true a b e = grind (arith, nat_tests)

lt_true : (a b : ℕ) → nat_lt a b ≡ true → a < b
lt_true a b e = grind (arith, nat_tests)

pub solid_so : (w : Text) → is_solid w ≡ true → IsSolid w
solid_so [] e = tt
solid_so (b ∷ bs) e = let h = both_true (not (is_blank b)) (is_solid bs) e in (not_true (is_blank b) h.0, solid_so bs h.1)

pub plain_so : (w : Text) → is_plain w ≡ true → IsPlain w
plain_so [] e = tt
plain_so (b ∷ bs) e =
    let h = both_true (nat_le 32 b && nat_lt b 127) (is_plain bs) e in
    let k = both_true (nat_le 32 b) (nat_lt b 127) h.0 in
    ((le_true 32 b k.0, lt_true b 127 k.1), plain_so bs h.1)

pub false_not : false ≡ true → ⊥
false_not e = absurd (cc)

word_some : (w : Text) → is_word w ≡ true → 0 < length w
word_some [] e = absurd (false_not e)
word_some (b ∷ bs) e = omega arith

word_solid : (w : Text) → is_word w ≡ true → IsSolid w
word_solid [] e = absurd (false_not e)
word_solid (b ∷ bs) e = solid_so (b ∷ bs) e

pub first : (w rest : Text) {words : List Text} → is_word w ≡ true → words_of rest ≡ words → words_of (w ++ 32 ∷ rest) ≡ w ∷ words
first w rest e f = next_word w rest (word_some w e) (word_solid w e) ∙ ap (λ ws. w ∷ ws) f

pub last : (w : Text) → is_word w ≡ true → words_of w ≡ w ∷ []
last w e = last_word w (word_some w e) (word_solid w e)

pub number_first : (n : ℕ) (rest : Text) {words : List Text} → n < 2 ^ 64 → words_of rest ≡ words → words_of (decimal n ++ 32 ∷ rest) ≡ decimal n ∷ words
number_first n rest h f = next_word (decimal n) rest (decimal_nonempty n h) (decimal_solid n h) ∙ ap (λ ws. decimal n ∷ ws) f

pub number_last : (n : ℕ) → n < 2 ^ 64 → words_of (decimal n) ≡ decimal n ∷ []
number_last n h = last_word (decimal n) (decimal_nonempty n h) (decimal_solid n h)

pub number_end : (n : ℕ) → n < 2 ^ 64 → words_of (decimal n ++ []) ≡ decimal n ∷ []
number_end n h = ap words_of (append-nil (decimal n)) ∙ number_last n h

pub numbered_plain : (before : Text) (n : ℕ) (behind : Text) → n < 2 ^ 64 → is_plain before ≡ true → is_plain behind ≡ true → IsPlain ((before ++ decimal n) ++ behind)
numbered_plain before n behind h e f = plain_append (before ++ decimal n) behind (plain_append before (decimal n) (plain_so before e) (decimal_plain n h)) (plain_so behind f)

pub pair_plain : (before : Text) (n : ℕ) (between : Text) (m : ℕ) → n < 2 ^ 64 → m < 2 ^ 64 → is_plain before ≡ true → is_plain between ≡ true → IsPlain (((before ++ decimal n) ++ between) ++ decimal m)
pair_plain before n between m h k e f = plain_append ((before ++ decimal n) ++ between) (decimal m) (numbered_plain before n between h e f) (decimal_plain m k)

-- a number, text, and what comes behind both
pub number_then : (n : ℕ) (mid rest : Text) {words : List Text} → n < 2 ^ 64 → words_of (mid ++ rest) ≡ words → words_of ((decimal n ++ 32 ∷ mid) ++ rest) ≡ decimal n ∷ words
number_then n mid rest h f = ap words_of (append_assoc (decimal n) (32 ∷ mid) rest) ∙ number_first n (mid ++ rest) h f

regrouped : (a b c d e : Text) → (((a ++ b) ++ c) ++ d) ++ e ≡ a ++ (b ++ (c ++ (d ++ e)))
regrouped a b c d e = simp append_assoc

pub position_words : (a x y : ℕ) → a < 2 ^ 64 → x < 2 ^ 64 → y < 2 ^ 64 →
    words_of ((((decimal a ++ codes " position ") ++ decimal x) ++ codes " ") ++ decimal y) ≡ decimal a ∷ codes "position" ∷ decimal x ∷ decimal y ∷ []
position_words a x y ha hx hy =
    ap words_of (regrouped (decimal a) (codes " position ") (decimal x) (codes " ") (decimal y))
    ∙ number_first a (codes "position " ++ (decimal x ++ (codes " " ++ decimal y))) ha (first (codes "position") (decimal x ++ (codes " " ++ decimal y)) refl (number_first x (decimal y) hx (number_last y hy)))

pub position_plain : (a x y : ℕ) → a < 2 ^ 64 → x < 2 ^ 64 → y < 2 ^ 64 → IsPlain (((((codes "set 1 " ++ decimal a) ++ codes " position ") ++ decimal x) ++ codes " ") ++ decimal y)
position_plain a x y ha hx hy =
    plain_append ((((codes "set 1 " ++ decimal a) ++ codes " position ") ++ decimal x) ++ codes " ") (decimal y)
    (plain_append (((codes "set 1 " ++ decimal a) ++ codes " position ") ++ decimal x) (codes " ") (pair_plain (codes "set 1 ") a (codes " position ") x ha hx refl refl) (plain_so (codes " ") refl)) (decimal_plain y hy)

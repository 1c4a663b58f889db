-- Lines and words of a text, cut.
use Rattle.std.proofs.Common.{◌≡◌, ◌≢◌, ℕ, ◌+◌, ◌-◌, ◌%◌, ◌^◌, ◌<◌, true, false, [], ◌∷◌, ◌++◌, zero, suc, length, get_or, take, refl, ap, ◌∙◌, arith}
use Rattle.std.specs.Prelude.{if◌then◌else◌, ◌==◌}
use Rattle.std.specs.Fmt.{decimal}
use Rattle.std.specs.Str.{IsAscii, is_utf8}
use Rattle.std.proofs.lemmas.Str.{IsUtf8-from_ascii, is_utf8-from_IsUtf8}
use Rattle.std.proofs.lemmas.Str.Ascii.{IsAscii-cons, IsAscii-nil}
use Rattle.std.proofs.lemmas.Fmt.{decimal_by_steps}
use Rattle.std.proofs.lemmas.Bool.Decides.{nat_tests}
use Rattle.sf_script_words.specs.Text.{Text, is_blank, lines_of, onto, trimmed, words_of}
use Rattle.law_generated.proofs.DecimalLemmas.{if_not}
use Rattle.law_generated.specs.inner.Plain.{IsPlain, IsSolid}

-- a line of plain text
pub plain_line_cut : (t rest : Text) → IsPlain t → lines_of (t ++ 10 ∷ rest) ≡ t ∷ lines_of rest
unfolding lines_of
plain_line_cut [] rest h = refl
plain_line_cut (b ∷ t) rest h =
    let other : (b == 10) ≡ false = grind (arith, nat_tests) in
    rw (other) (ap (onto b) (plain_line_cut t rest h.1))

-- a byte that is inside a word
inside : (b c : ℕ) (bs : Text) → is_blank b ≡ false → is_blank c ≡ false → words_of (b ∷ c ∷ bs) ≡ onto b (words_of (c ∷ bs))
unfolding words_of
inside b c bs h h' =
    if_not (is_blank b) (words_of (c ∷ bs)) (if is_blank c then (b ∷ []) ∷ words_of (c ∷ bs) else onto b (words_of (c ∷ bs))) h
    ∙ if_not (is_blank c) ((b ∷ []) ∷ words_of (c ∷ bs)) (onto b (words_of (c ∷ bs))) h'

-- a byte at the end of a word
at_end : (b : ℕ) (rest : Text) → is_blank b ≡ false → words_of (b ∷ 32 ∷ rest) ≡ (b ∷ []) ∷ words_of rest
unfolding words_of
at_end b rest h = if_not (is_blank b) (words_of rest) ((b ∷ []) ∷ words_of rest) h

at_last : (b : ℕ) → is_blank b ≡ false → words_of (b ∷ []) ≡ (b ∷ []) ∷ []
unfolding words_of
at_last b h = if_not (is_blank b) [] ((b ∷ []) ∷ []) h

-- a word, and what is behind it
word_cut : (b : ℕ) (w rest : Text) → IsSolid (b ∷ w) → words_of (b ∷ w ++ 32 ∷ rest) ≡ (b ∷ w) ∷ words_of rest
word_cut b [] rest h = at_end b rest h.0
word_cut b (c ∷ w) rest h = inside b c (w ++ 32 ∷ rest) h.0 h.1.0 ∙ ap (onto b) (word_cut c w rest h.1)

-- a last word
last_cut : (b : ℕ) (w : Text) → IsSolid (b ∷ w) → words_of (b ∷ w) ≡ (b ∷ w) ∷ []
last_cut b [] h = at_last b h.0
last_cut b (c ∷ w) h = inside b c w h.0 h.1.0 ∙ ap (onto b) (last_cut c w h.1)

-- the same of a word that is some word
pub next_word : (w rest : Text) → 0 < length w → IsSolid w → words_of (w ++ 32 ∷ rest) ≡ w ∷ words_of rest
next_word [] rest some h = absurd (omega arith)
next_word (b ∷ w) rest some h = word_cut b w rest h

pub last_word : (w : Text) → 0 < length w → IsSolid w → words_of w ≡ w ∷ []
last_word [] some h = absurd (omega arith)
last_word (b ∷ w) some h = last_cut b w h

-- plain text is ASCII, and so it is UTF-8
plain_ascii : (t : Text) → IsPlain t → IsAscii t
plain_ascii [] h = IsAscii-nil
plain_ascii (b ∷ t) h = IsAscii-cons b t (omega arith) (plain_ascii t h.1)

pub plain_utf8 : (t : Text) → IsPlain t → is_utf8 t ≡ true
plain_utf8 t h = is_utf8-from_IsUtf8 t (IsUtf8-from_ascii t (plain_ascii t h))

-- no byte of it is a return
plain_at : (t : Text) (i : ℕ) → IsPlain t → get_or t i 0 ≢ 13
plain_at [] i h = λ e. absurd (omega arith)
plain_at (b ∷ t) zero h = λ e. absurd (omega arith)
plain_at (b ∷ t) (suc i) h = plain_at t i h.1

no_return : (b : ℕ) → b ≢ 13 → (b == 13) ≡ false
no_return b h = grind (arith, nat_tests)

-- nothing is trimmed of it
pub plain_trimmed : (t : Text) → IsPlain t → trimmed t ≡ t
unfolding trimmed
plain_trimmed t h = if_not (get_or t (length t - 1) 0 == 13) (take (length t - 1) t) t (no_return (get_or t (length t - 1) 0) (plain_at t (length t - 1) h))

-- plain text, piece by piece
pub plain_append : (s t : Text) → IsPlain s → IsPlain t → IsPlain (s ++ t)
plain_append [] t h k = k
plain_append (b ∷ s) t h k = (h.0, plain_append s t h.1 k)

pub solid_append : (s t : Text) → IsSolid s → IsSolid t → IsSolid (s ++ t)
solid_append [] t h k = k
solid_append (b ∷ s) t h k = (h.0, solid_append s t h.1 k)

-- decimal digits
digit_solid : (d : ℕ) → d < 10 → is_blank (48 + d) ≡ false
digit_solid d h = grind (arith, nat_tests)

pub decimal_plain : (n : ℕ) → n < 2 ^ 64 → IsPlain (decimal n)
decimal_plain n h =
    decimal_by_steps (λ n ds. IsPlain ds) (λ n k. ((omega arith, omega arith), tt)) (λ n ds k before. plain_append ds ((48 + n % 10) ∷ []) before ((omega arith, omega arith), tt)) n h

pub decimal_solid : (n : ℕ) → n < 2 ^ 64 → IsSolid (decimal n)
decimal_solid n h =
    decimal_by_steps (λ n ds. IsSolid ds) (λ n k. (digit_solid n k, tt)) (λ n ds k before. solid_append ds ((48 + n % 10) ∷ []) before (digit_solid (n % 10) (omega arith), tt)) n h

-- The first word and the first line of a text.
use Rattle.std.proofs.Common.{◌≡◌, ℕ, ◌+◌, suc, Bool, true, false, not, List, [], ◌∷◌, take, drop, refl, sym, ap, ◌∙◌, ◌⊎◌, inl, inr, arith, eqb, length, ◌≤◌}
use Rattle.std.proofs.lemmas.Bool.{cases_Bool, cond-true, cond-false}
use Rattle.std.proofs.lemmas.List.{drop-drop}
use Rattle.std.specs.List.{prefix_len}
use Rattle.sf_script_words.specs.Text.{Text, is_blank, onto, ends_word, lines_of, words_of}

one-add : (n : ℕ) → 1 + n ≡ suc n
one-add n = omega arith

prefix_len-yes : (p : ℕ → Bool) (b : ℕ) (bs : List ℕ) → p b ≡ true → prefix_len p (b ∷ bs) ≡ suc (prefix_len p bs)
prefix_len-yes p b bs h = cond-true (p b) _ _ h ∙ one-add (prefix_len p bs)

prefix_len-no : (p : ℕ → Bool) (b : ℕ) (bs : List ℕ) → p b ≡ false → prefix_len p (b ∷ bs) ≡ 0
prefix_len-no p b bs h = cond-false (p b) _ _ h

words_of-blank : (b : ℕ) (bs : Text) → is_blank b ≡ true → words_of (b ∷ bs) ≡ words_of bs
unfolding words_of
words_of-blank b bs h = cond-true (is_blank b) _ _ h

words_of-last : (b : ℕ) (bs : Text) → is_blank b ≡ false → ends_word bs ≡ true → words_of (b ∷ bs) ≡ (b ∷ []) ∷ words_of bs
unfolding words_of
words_of-last b bs h e = cond-false (is_blank b) _ _ h ∙ cond-true (ends_word bs) _ _ e

words_of-more : (b : ℕ) (bs : Text) → is_blank b ≡ false → ends_word bs ≡ false → words_of (b ∷ bs) ≡ onto b (words_of bs)
unfolding words_of
words_of-more b bs h e = cond-false (is_blank b) _ _ h ∙ cond-false (ends_word bs) _ _ e

-- blanks in front make no word
pub words_of-skip : (s : Text) → words_of s ≡ words_of (drop (prefix_len is_blank s) s)
words_of-skip [] = refl
words_of-skip (b ∷ bs) = elim (cases_Bool (is_blank b)) [
  | inl blank ↦ words_of-blank b bs blank ∙ words_of-skip bs ∙ ap (λ (n : ℕ). words_of (drop n (b ∷ bs))) (sym (prefix_len-yes is_blank b bs blank))
  | inr inked ↦ ap (λ (n : ℕ). words_of (drop n (b ∷ bs))) (sym (prefix_len-no is_blank b bs inked))
]

-- behind the blanks stands nothing, or a word
pub after_blanks : (s : Text) → (drop (prefix_len is_blank s) s ≡ []) ⊎ (ends_word (drop (prefix_len is_blank s) s) ≡ false)
after_blanks [] = inl refl
after_blanks (b ∷ bs) = elim (cases_Bool (is_blank b)) [
  | inl blank ↦ rw (prefix_len-yes is_blank b bs blank) (after_blanks bs)
  | inr inked ↦ inr (rw (prefix_len-no is_blank b bs inked) inked)
]

-- what no word is
abbrev pub is_inked : ℕ → Bool
is_inked b = not (is_blank b)

one_inked : (b : ℕ) (bs : Text) → is_blank b ≡ false → ends_word bs ≡ true → prefix_len is_inked (b ∷ bs) ≡ 1
one_inked b [] h e = prefix_len-yes is_inked b [] (ap not h)
one_inked b (c ∷ cs) h e = prefix_len-yes is_inked b (c ∷ cs) (ap not h) ∙ ap suc (prefix_len-no is_inked c cs (ap not e))

abbrev pub FrontWord : Text → Type 0
FrontWord s = words_of s ≡ take (prefix_len is_inked s) s ∷ words_of (drop (prefix_len is_inked s) s)

front_word : (b : ℕ) (bs : Text) → is_blank b ≡ false → (ends_word bs ≡ true) ⊎ (ends_word bs ≡ false) → (ends_word bs ≡ false → FrontWord bs) → FrontWord (b ∷ bs)
front_word b bs h (inl e) rest = rw (words_of-last b bs h e, one_inked b bs h e) refl
front_word b bs h (inr e) rest = rw (words_of-more b bs h e, prefix_len-yes is_inked b bs (ap not h), rest e) refl

-- the first word reaches up to a blank
pub words_of-front : (s : Text) → ends_word s ≡ false → FrontWord s
words_of-front [] h = cc
words_of-front (b ∷ bs) h = front_word b bs h (cases_Bool (ends_word bs)) (words_of-front bs)

abbrev pub is_inside : ℕ → Bool
is_inside b = not (eqb b 10)

lines_of-end : (b : ℕ) (bs : Text) → eqb b 10 ≡ true → lines_of (b ∷ bs) ≡ [] ∷ lines_of bs
unfolding lines_of
lines_of-end b bs h = cond-true (eqb b 10) _ _ h

lines_of-more : (b : ℕ) (bs : Text) → eqb b 10 ≡ false → lines_of (b ∷ bs) ≡ onto b (lines_of bs)
unfolding lines_of
lines_of-more b bs h = cond-false (eqb b 10) _ _ h

inside_line : (b : ℕ) (bs : Text) → onto b (lines_of bs) ≡ (b ∷ take (prefix_len is_inside bs) bs) ∷ lines_of (drop (suc (prefix_len is_inside bs)) bs) → eqb b 10 ≡ false
    → lines_of (b ∷ bs) ≡ take (prefix_len is_inside (b ∷ bs)) (b ∷ bs) ∷ lines_of (drop (suc (prefix_len is_inside (b ∷ bs))) (b ∷ bs))
inside_line b bs h inside = rw (lines_of-more b bs inside, prefix_len-yes is_inside b bs (ap not inside)) h

-- the first line reaches up to a byte 10
pub lines_of-front : (b : ℕ) (bs : Text) → lines_of (b ∷ bs) ≡ take (prefix_len is_inside (b ∷ bs)) (b ∷ bs) ∷ lines_of (drop (suc (prefix_len is_inside (b ∷ bs))) (b ∷ bs))
unfolding lines_of
lines_of-front b [] = elim (cases_Bool (eqb b 10)) [
  | inl end ↦ rw (lines_of-end b [] end, prefix_len-no is_inside b [] (ap not end)) refl
  | inr inside ↦ inside_line b [] refl inside
]
lines_of-front b (c ∷ cs) = elim (cases_Bool (eqb b 10)) [
  | inl end ↦ rw (lines_of-end b (c ∷ cs) end, prefix_len-no is_inside b (c ∷ cs) (ap not end)) refl
  | inr inside ↦ inside_line b (c ∷ cs) (ap (onto b) (lines_of-front c cs)) inside
]

-- a text of blanks has no word
pub no_word : (s t : Text) (n : ℕ) → n ≡ prefix_len is_blank s → t ≡ drop n s → length t ≡ 0 → words_of s ≡ []
unfolding words_of
no_word s [] n e d h = words_of-skip s ∙ ap (λ (k : ℕ). words_of (drop k s)) (sym e) ∙ ap words_of (sym d)
no_word s (x ∷ xs) n e d h = absurd (omega arith)

-- any other text has a first word
pub first_word : (s t : Text) (n m : ℕ) → n ≡ prefix_len is_blank s → t ≡ drop n s → (length t ≡ 0 → ⊥) → m ≡ prefix_len is_inked t → words_of s ≡ take m t ∷ words_of (drop m t)
first_word s t n m e d h f =
    let t_is : drop (prefix_len is_blank s) s ≡ t = ap (λ (k : ℕ). drop k s) (sym e) ∙ sym d in
    let inked : ends_word t ≡ false = elim (after_blanks s) [
      | inl none ↦ absurd (h (ap length (sym t_is ∙ none)))
      | inr inked ↦ sym (ap ends_word t_is) ∙ inked
    ] in
    words_of-skip s ∙ ap words_of t_is ∙ words_of-front t inked ∙ ap (λ (k : ℕ). take k t ∷ words_of (drop k t)) (sym f)

-- a text without bytes has no lines
pub no_line : (s : Text) → length s ≡ 0 → lines_of s ≡ []
unfolding lines_of
no_line [] h = refl
no_line (x ∷ xs) h = absurd (omega arith)

-- any other text has a first line
pub first_line : (s rest : Text) (n : ℕ) → (length s ≡ 0 → ⊥) → n ≡ prefix_len is_inside s → rest ≡ drop n s → lines_of s ≡ take n s ∷ lines_of (drop 1 rest)
first_line [] rest n h e d = absurd (h refl)
first_line (b ∷ bs) rest n h e d =
    let plus : n + 1 ≡ suc n = omega arith in
    rw (d, drop-drop 1 n (b ∷ bs), plus, e) (lines_of-front b bs)

-- a text has no more words than bytes
pub length-words_of : (s : Text) → length (words_of s) ≤ length s
unfolding words_of
length-words_of [] = omega arith
length-words_of (b ∷ bs) = more b bs (words_of bs) (cases_Bool (is_blank b)) (cases_Bool (ends_word bs)) refl (length-words_of bs)
  where
    onto_length : (b : ℕ) (ws : List Text) → length (onto b ws) ≤ length ws + 1
    onto_length b [] = omega arith
    onto_length b (w ∷ ws) = omega arith

    more : (b : ℕ) (bs : Text) (ws : List Text) → (is_blank b ≡ true) ⊎ (is_blank b ≡ false) → (ends_word bs ≡ true) ⊎ (ends_word bs ≡ false) → ws ≡ words_of bs → length ws ≤ length bs → length (words_of (b ∷ bs)) ≤ length (b ∷ bs)
    more b bs ws (inl e) q w h = rw (words_of-blank b bs e, ← w) (omega arith)
    more b bs ws (inr e) (inl f) w h = rw (words_of-last b bs e f, ← w) (omega arith)
    more b bs ws (inr e) (inr f) w h = rw (words_of-more b bs e f, ← w) (omega (arith, onto_length b ws))

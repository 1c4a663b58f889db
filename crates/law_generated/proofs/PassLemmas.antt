-- Lines that pass, one by one.
use Rattle.std.proofs.Common.{◌≡◌, ℕ, ◌+◌, ◌++◌, ◌==◌, true, false, List, [], ◌∷◌, Some, Ok, length, refl, sym, ap, ◌∙◌, arith}
use Rattle.std.specs.List.{concat}
use Rattle.std.proofs.lemmas.List.{append_assoc, append-nil, length-append}
use Rattle.sf_script_words.specs.Text.{Text, lines_of, words_of}
use Rattle.sf_script_words.specs.Reading.{word_at}
use Rattle.sf_script.specs.Draft.{DraftValue, draft_after, has_room, is_any, may_follow}
use Rattle.sf_script.specs.Keywords.{keyword_of}
use Rattle.sf_script.specs.Script.{draft_at, form_at, is_skipped, line_at, lines_at, words_at}
use Rattle.sf_script.specs.declared.line.Keyword.{Keyword}
use Rattle.sf_script.specs.declared.line.Line.{Line}
use Rattle.law_generated.specs.inner.Passes.{Passes}
use Rattle.law_generated.specs.inner.Plain.{IsPlain}
use Rattle.law_generated.proofs.TextLemmas.{plain_line_cut, plain_trimmed, plain_utf8}

-- what a line needs to be read as l, behind its first word
pub record Reads (d : DraftValue) (t word : Text) (words : List Text) (keyword : Keyword) (l : Line) : Type 0 where
  pub plain : IsPlain t
  pub cut : words_of t ≡ word ∷ words
  pub begins : is_skipped (word ∷ words) ≡ false
  pub known : keyword_of (d.scene.version == 2) (is_any d.scene.actors) word ≡ Some keyword
  pub follows : may_follow d keyword ≡ true
  pub fits : has_room d.scene keyword ≡ true
  pub formed : form_at d keyword words ≡ Ok l

line_read : (d : DraftValue) (t word : Text) (words : List Text) (keyword : Keyword) (l : Line) → Reads d t word words keyword l → line_at d t ≡ Ok l
unfolding line_at words_at word_at
line_read d t word words keyword l r = rw (plain_utf8 t r.plain, r.cut, r.known, r.follows, r.fits) r.formed

draft_read : (number : ℕ) (d : DraftValue) (t word : Text) (words : List Text) (keyword : Keyword) (l : Line) → Reads d t word words keyword l → draft_at number d t ≡ Ok (draft_after d l)
unfolding draft_at
draft_read number d t word words keyword l r =
    let skipped : is_skipped (words_of t) ≡ false = ap is_skipped r.cut ∙ r.begins in
    rw (skipped, line_read d t word words keyword l r) refl

one_on : (d e : DraftValue) (t : Text) → IsPlain t → ((number : ℕ) → draft_at number d t ≡ Ok e) → (number : ℕ) (rest : Text) → lines_at number d (lines_of (t ++ 10 ∷ rest)) ≡ lines_at (number + 1) e (lines_of rest)
unfolding lines_at
one_on d e t p h number rest = rw (plain_line_cut t rest p, plain_trimmed t p, h number) refl

-- a line that is read passes
pub line_passes : (d : DraftValue) (t word : Text) (words : List Text) (keyword : Keyword) (l : Line) → Reads d t word words keyword l → Passes ((t ++ 10 ∷ []) ∷ []) d (draft_after d l)
line_passes d t word words keyword l r = record {
  on = λ number rest.
      let same : concat ((t ++ 10 ∷ []) ∷ []) ++ rest ≡ t ++ 10 ∷ rest = ap (λ x. x ++ rest) (append-nil (t ++ 10 ∷ [])) ∙ append_assoc t (10 ∷ []) rest in
      ap (λ x. lines_at number d (lines_of x)) same ∙ one_on d (draft_after d l) t r.plain (λ n. draft_read n d t word words keyword l r) number rest;
}

pub concat-append : (xs ys : List Text) → concat (xs ++ ys) ≡ concat xs ++ concat ys
concat-append [] ys = refl
concat-append (x ∷ xs) ys = ap (λ t. x ++ t) (concat-append xs ys) ∙ sym (append_assoc x (concat xs) (concat ys))

-- lines behind lines
pub both_pass : (xs ys : List Text) (d e f : DraftValue) → Passes xs d e → Passes ys e f → Passes (xs ++ ys) d f
both_pass xs ys d e f first second = record {
  on = λ number rest.
      let split : concat (xs ++ ys) ++ rest ≡ concat xs ++ (concat ys ++ rest) = ap (λ t. t ++ rest) (concat-append xs ys) ∙ append_assoc (concat xs) (concat ys) rest in
      let count : number + length xs + length ys ≡ number + length (xs ++ ys) = omega (arith, length-append xs ys) in
      ap (λ t. lines_at number d (lines_of t)) split ∙ first.on number (concat ys ++ rest) ∙ second.on (number + length xs) rest ∙ ap (λ n. lines_at n f (lines_of rest)) count;
}

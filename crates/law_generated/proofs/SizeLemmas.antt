-- How long a generated text is.
use Rattle.std.proofs.Common.{◌≡◌, ℕ, ◌+◌, ◌*◌, ◌<◌, ◌≤◌, ◌++◌, List, [], ◌∷◌, zero, suc, length, refl, ap, subst, arith}
use Rattle.std.specs.Prelude.{codes}
use Rattle.std.specs.List.{concat}
use Rattle.std.specs.Fmt.{decimal}
use Rattle.std.proofs.lemmas.Fmt.{length-decimal-le}
use Rattle.std.proofs.lemmas.List.{append-nil, length-append}
use Rattle.sf_script_words.specs.Text.{Text}
use Rattle.sf_script_generate.specs.Lines.{fill_line, glass_line, hex, numbered_line, pair_line, plain_line, position_line}
use Rattle.sf_script_generate.specs.Generator.{actor_lines, after_draws, draw, first_lines, frame_lines, frames_of, lines_of, parts_from, picture_lines, pictures_from, producer_lines, producers_from}
use Rattle.law_generated.specs.inner.Sizes.{IsWithin}
use Rattle.law_generated.proofs.PassLemmas.{concat-append}

short : (n : ℕ) → n < 1000 → length (decimal n) ≤ 3
short n h = length-decimal-le 3 n (omega arith) (omega arith) (omega arith)

none : IsWithin [] 0
none = record { bytes = omega arith }

one : (line : Text) → length line ≤ 69 → IsWithin (line ∷ []) 1
one line h = record { bytes = omega (arith, ap length (append-nil line)) }

both : (xs ys : List Text) (n m : ℕ) → IsWithin xs n → IsWithin ys m → IsWithin (xs ++ ys) (n + m)
both xs ys n m a b = record { bytes = omega (arith, ap length (concat-append xs ys), length-append (concat xs) (concat ys), a.bytes, b.bytes) }

more : (line : Text) (lines : List Text) (n : ℕ) → length line ≤ 69 → IsWithin lines n → IsWithin (line ∷ lines) (suc n)
more line lines n h a = record { bytes = omega (arith, length-append line (concat lines), a.bytes) }

plain_short : (words : Text) → length words ≤ 60 → length (plain_line words) ≤ 69
unfolding plain_line
plain_short words h = omega (arith, length-append words (10 ∷ []))

numbered_short : (before : Text) (n : ℕ) (behind : Text) → n < 1000 → length before ≤ 30 → length behind ≤ 30 → length (numbered_line before n behind) ≤ 69
unfolding numbered_line
numbered_short before n behind h e f =
    omega (arith, short n h, length-append ((before ++ decimal n) ++ behind) (10 ∷ []), length-append (before ++ decimal n) behind, length-append before (decimal n))

pair_short : (before : Text) (n : ℕ) (between : Text) (m : ℕ) → n < 1000 → m < 1000 → length before ≤ 30 → length between ≤ 30 → length (pair_line before n between m) ≤ 69
unfolding pair_line
pair_short before n between m h k e f =
    omega (arith, short n h, short m k, length-append (((before ++ decimal n) ++ between) ++ decimal m) (10 ∷ []), length-append ((before ++ decimal n) ++ between) (decimal m), length-append (before ++ decimal n) between, length-append before (decimal n))

position_short : (a x y : ℕ) → a < 1000 → x < 1000 → y < 1000 → length (position_line a x y) ≤ 69
unfolding position_line
position_short a x y ha hx hy =
    let p = codes "set 1 " ++ decimal a in
    let q = (p ++ codes " position ") ++ decimal x in
    omega (
      arith,
      short a ha,
      short x hx,
      short y hy,
      length-append ((q ++ codes " ") ++ decimal y) (10 ∷ []),
      length-append (q ++ codes " ") (decimal y),
      length-append q (codes " "),
      length-append (p ++ codes " position ") (decimal x),
      length-append p (codes " position "),
      length-append (codes "set 1 ") (decimal a),
    )

fill_short : (r g b : ℕ) → length (fill_line r g b) ≤ 69
unfolding fill_line hex
fill_short r g b = omega arith

two : (n : ℕ) → length (hex n) ≡ 2
unfolding hex
two n = refl

glass_short : (x y r g b a : ℕ) → x < 1000 → y < 1000 → length (glass_line x y r g b a) ≤ 69
unfolding glass_line
glass_short x y r g b a hx hy =
    let p = codes "fill " ++ decimal x in
    let q = ((p ++ codes " ") ++ decimal y) ++ codes " 16 16 " in
    omega (
      arith,
      short x hx,
      short y hy,
      length-append ((((q ++ hex r) ++ hex g) ++ hex b) ++ hex a) (10 ∷ []),
      length-append (((q ++ hex r) ++ hex g) ++ hex b) (hex a),
      length-append ((q ++ hex r) ++ hex g) (hex b),
      length-append (q ++ hex r) (hex g),
      length-append q (hex r),
      length-append ((p ++ codes " ") ++ decimal y) (codes " 16 16 "),
      length-append (p ++ codes " ") (decimal y),
      length-append p (codes " "),
      length-append (codes "fill ") (decimal x),
      two r,
      two g,
      two b,
      two a,
    )

frame_within : (s a : ℕ) → a ≤ 4 → IsWithin (frame_lines s a) 9
frame_within s a h =
    let p = 1 + draw s 0 8 in
    more _ _ 8 (numbered_short (codes "dequeuewait ") a (codes " as s") (omega arith) (omega arith) (omega arith))
    (more _ _ 7 (plain_short (codes "request s") (omega arith))
    (more _ _ 6 (numbered_short (codes "draw s ") p [] (omega arith) (omega arith) (omega arith))
    (more _ _ 5 (numbered_short (codes "queue s ") p [] (omega arith) (omega arith) (omega arith))
    (more _ _ 4 (numbered_short (codes "acquire ") a (codes " as i") (omega arith) (omega arith) (omega arith))
    (more _ _ 3 (plain_short (codes "tx 1") (omega arith))
    (more _ _ 2 (numbered_short (codes "buffer 1 ") a (codes " i") (omega arith) (omega arith) (omega arith))
    (more _ _ 1 (position_short a (draw s 1 129) (draw s 2 89) (omega arith) (omega arith) (omega arith))
    (one _ (numbered_short (codes "apply 1 token ") a [] (omega arith) (omega arith) (omega arith))))))))))

frames_within : (n s a j : ℕ) → a ≤ 4 → IsWithin (parts_from (λ y i. frame_lines y a) 3 s j n) (9 * n)
unfolding parts_from
frames_within zero s a j h = record { bytes = omega arith }
frames_within (suc n) s a j h =
    let same : 9 + 9 * n ≡ 9 * suc n = omega arith in
    subst (λ (c : ℕ). IsWithin (frame_lines s a ++ parts_from (λ y i. frame_lines y a) 3 (after_draws s 3) (j + 1) n) c) same
    (both (frame_lines s a) (parts_from (λ y i. frame_lines y a) 3 (after_draws s 3) (j + 1) n) 9 (9 * n) (frame_within s a h) (frames_within n (after_draws s 3) a (j + 1) h))

actor_within : (x a : ℕ) → a ≤ 4 → IsWithin (actor_lines x a) 10
actor_within x a h =
    more _ _ 9 (numbered_short (codes "actor ") a [] (omega arith) (omega arith) (omega arith))
    (more _ _ 8 (numbered_short (codes "connect ") a [] (omega arith) (omega arith) (omega arith))
    (more _ _ 7 (numbered_short (codes "maxdequeued ") a (codes " 2") (omega arith) (omega arith) (omega arith))
    (more _ _ 6 (pair_short (codes "async ") a (codes " ") (draw x 0 2) (omega arith) (omega arith) (omega arith) (omega arith))
    (more _ _ 5 (plain_short (codes "tx 1") (omega arith))
    (more _ _ 4 (numbered_short (codes "set 1 ") a (codes " create buffer 0") (omega arith) (omega arith) (omega arith))
    (more _ _ 3 (position_short a (draw x 1 129) (draw x 2 89) (omega arith) (omega arith) (omega arith))
    (more _ _ 2 (pair_short (codes "set 1 ") a (codes " z ") (draw x 3 5) (omega arith) (omega arith) (omega arith) (omega arith))
    (more _ _ 1 (pair_short (codes "set 1 ") a (codes " alpha ") (draw x 4 256) (omega arith) (omega arith) (omega arith) (omega arith))
    (one _ (numbered_short (codes "apply 1 token ") a [] (omega arith) (omega arith) (omega arith)))))))))))

producer_within : (f x a : ℕ) → a ≤ 4 → IsWithin (producer_lines f x a) (10 + 9 * f)
producer_within f x a h = both (actor_lines x a) (parts_from (λ y i. frame_lines y a) 3 (after_draws x 5) 0 f) 10 (9 * f) (actor_within x a h) (frames_within f (after_draws x 5) a 0 h)

picture_within : (x p : ℕ) → p ≤ 8 → IsWithin (picture_lines x p) 3
picture_within x p h =
    let a = draw x 5 256 in
    more _ _ 2 (numbered_short (codes "picture ") p (codes " 32 32") (omega arith) (omega arith) (omega arith))
    (more _ _ 1 (fill_short (draw x 0 256) (draw x 1 256) (draw x 2 256))
    (one _ (glass_short (draw x 3 17) (draw x 4 17) (draw x 6 (a + 1)) (draw x 7 (a + 1)) (draw x 8 (a + 1)) a (omega arith) (omega arith))))

-- parts that have so many lines each, of which the last has a number at most
parts_within : (part : ℕ → ℕ → List Text) (w c most : ℕ) → ((x k : ℕ) → k ≤ most → IsWithin (part x k) c) → (n x k : ℕ) → k + n ≤ most + 1 → IsWithin (parts_from part w x k n) (c * n)
unfolding parts_from
parts_within part w c most each zero x k h = record { bytes = omega arith }
parts_within part w c most each (suc n) x k h =
    let same : c + c * n ≡ c * suc n = omega arith in
    subst (λ (m : ℕ). IsWithin (part x k ++ parts_from part w (after_draws x w) (k + 1) n) m) same
    (both (part x k) (parts_from part w (after_draws x w) (k + 1) n) c (c * n) (each x k (omega arith)) (parts_within part w c most each n (after_draws x w) (k + 1) (omega arith)))

first_within : IsWithin first_lines 6
first_within =
    more _ _ 5 (plain_short (codes "scene 1 160 120 16666667") (omega arith))
    (more _ _ 4 (plain_short (codes "timeline 1") (omega arith))
    (more _ _ 3 (numbered_short (codes "queue ") 1 (codes " 32 32") (omega arith) (omega arith) (omega arith))
    (more _ _ 2 (numbered_short (codes "queue ") 2 (codes " 32 32") (omega arith) (omega arith) (omega arith))
    (more _ _ 1 (numbered_short (codes "queue ") 3 (codes " 32 32") (omega arith) (omega arith) (omega arith))
    (one _ (numbered_short (codes "queue ") 4 (codes " 32 32") (omega arith) (omega arith) (omega arith)))))))

pub text_within : (number : ℕ) → length (concat (lines_of number)) ≤ 1048576
unfolding lines_of
text_within number =
    let f = frames_of number in
    let all = both ((first_lines ++ pictures_from number) ++ producers_from (after_draws number 72) f) (plain_line (codes "end") ∷ []) (6 + 3 * 8 + (10 + 9 * f) * 4) 1
    (both (first_lines ++ pictures_from number) (producers_from (after_draws number 72) f) (6 + 3 * 8) ((10 + 9 * f) * 4)
    (both first_lines (pictures_from number) 6 (3 * 8) first_within (parts_within picture_lines 9 3 8 picture_within 8 number 1 (omega arith)))
    (parts_within (producer_lines f) (5 + 3 * f) (10 + 9 * f) 4 (producer_within f) 4 (after_draws number 72) 1 (omega arith)))
    (one (plain_line (codes "end")) (plain_short (codes "end") (omega arith))) in
    omega (arith, all.bytes)

-- The lines of a generated picture.
use Rattle.std.proofs.Common.{◌≡◌, ℕ, ◌+◌, ◌/◌, ◌<◌, ◌≤◌, ◌%◌, ◌++◌, ◌==◌, true, false, List, [], ◌∷◌, suc, Option, Some, None, Ok, pos, length, refl, sym, ap, subst, ◌∙◌, arith}
use Rattle.std.specs.Prelude.{codes, ◌||◌, nat_lt}
use Rattle.std.specs.List.{list_any}
use Rattle.std.specs.Fmt.{decimal, digit_glyph}
use Rattle.std.proofs.lemmas.Bool.Decides.{nat_tests}
use Rattle.std.proofs.lemmas.List.{append_assoc, length-append}
use Rattle.sf_base.specs.declared.format.Format.TheVariants as format
use Rattle.sf_script.specs.sf_picture.declared.fill.Fill.{Fill}
use Rattle.sf_script.specs.sf_picture.declared.picture.Picture.{Picture}
use Rattle.sf_script_words.specs.Text.{Text, is_blank, words_of}
use Rattle.sf_script_words.specs.Numbers.{decimal_of, digits_after}
use Rattle.sf_script_words.specs.Reading.{end_at, number_at, word_at}
use Rattle.sf_script.specs.sf_script_scene.Scene.{fills_so_far, has_picture, last_of, with_fill}
use Rattle.sf_script.specs.Declarations.{fill_at, new_picture_at}
use Rattle.sf_script.specs.Draft.{DraftValue, draft_after, is_any, may_follow_rank}
use Rattle.sf_script.specs.Keywords.{keyword_of, plain_keyword_of}
use Rattle.sf_script.specs.Script.{form_at, is_skipped}
use Rattle.sf_script.specs.declared.line.Keyword.TheVariants as key
use Rattle.sf_script.specs.declared.line.Line.TheVariants as line
use Rattle.sf_script_generate.specs.Lines.{fill_line, glass_line, hex, numbered_line}
use Rattle.sf_script_generate.specs.Generator.{after_draws, draw, parts_from, picture_lines}
use Rattle.law_generated.specs.inner.Painting.{Painting, Paints, picture_numbers}
use Rattle.law_generated.specs.inner.Plain.{IsPlain, IsSolid}
use Rattle.law_generated.proofs.FrameLemmas.{no_lines_pass}
use Rattle.law_generated.proofs.PassLemmas.{both_pass, line_passes}
use Rattle.law_generated.proofs.ReadLemmas.{colour_read, number_read}
use Rattle.law_generated.proofs.TextLemmas.{last_word, plain_append, solid_append}
use Rattle.law_generated.proofs.WordLemmas.{false_not, first, last, number_first, numbered_plain, pair_plain, plain_so}

pub has_in : (pictures : List Picture) (n : ℕ) → has_picture pictures n ≡ list_any (λ m. m == n) (picture_numbers pictures)
has_in [] n = refl
has_in (x ∷ xs) n = ap (λ b. (x.number == n) || b) (has_in xs n)

last_more : {X : Type 0} (xs : List X) (x : X) → last_of (xs ++ x ∷ []) ≡ Some x
last_more [] x = refl
last_more (y ∷ []) x = refl
last_more (y ∷ z ∷ zs) x = last_more (z ∷ zs) x

numbers_more : (pictures : List Picture) (p : Picture) → picture_numbers (pictures ++ p ∷ []) ≡ picture_numbers pictures ++ p.number ∷ []
numbers_more [] p = refl
numbers_more (x ∷ xs) p = ap (λ ns. x.number ∷ ns) (numbers_more xs p)

numbers_fill : (pictures : List Picture) (f : Fill) → picture_numbers (with_fill pictures f) ≡ picture_numbers pictures
numbers_fill [] f = refl
numbers_fill (x ∷ []) f = refl
numbers_fill (x ∷ y ∷ ys) f = ap (λ ns. x.number ∷ ns) (numbers_fill (y ∷ ys) f)

any_numbers : (pictures : List Picture) (n : ℕ) (ns : List ℕ) → picture_numbers pictures ≡ n ∷ ns → is_any pictures ≡ true
any_numbers [] n ns e = cc
any_numbers (x ∷ xs) n ns e = refl

pub thirty_two : (words : List Text) → number_at 1 512 (codes "32" ∷ words) ≡ Ok (32, words)
unfolding number_at word_at decimal_of digits_after
thirty_two words = refl

picture_formed : (d : DraftValue) (numbers : List ℕ) (k p : ℕ) → Painting d numbers k → 1 ≤ p → p ≤ 8 → list_any (λ m. m == p) numbers ≡ false →
    form_at d key.Picture (decimal p ∷ codes "32" ∷ codes "32" ∷ []) ≡ Ok (line.Picture (record { number = p; width = 32; height = 32; fills = []; format = format.Rgba }))
unfolding form_at new_picture_at end_at
picture_formed d numbers k p b l h fresh =
    let lacks : has_picture d.scene.pictures p ≡ false = has_in d.scene.pictures p ∙ ap (list_any (λ m. m == p)) b.pictures ∙ fresh in
    rw (number_read 1 256 p (codes "32" ∷ codes "32" ∷ []) l (omega arith) (omega arith), lacks, thirty_two (codes "32" ∷ []), thirty_two [], b.version) refl

picture_known : keyword_of false false (codes "picture") ≡ Some key.Picture
unfolding plain_keyword_of
picture_known = refl

fill_known : keyword_of false false (codes "fill") ≡ Some key.Fill
unfolding plain_keyword_of
fill_known = refl

picture_paints : (d : DraftValue) (numbers : List ℕ) (k p : ℕ) → Painting d numbers k → 1 ≤ p → p ≤ 8 → list_any (λ m. m == p) numbers ≡ false → Paints (numbered_line (codes "picture ") p (codes " 32 32") ∷ []) d (numbers ++ p ∷ []) 0
unfolding numbered_line is_skipped
picture_paints d numbers k p b l h fresh =
    let made : Picture = record { number = p; width = 32; height = 32; fills = []; format = format.Rgba } in
    record {
      after = draft_after d (line.Picture made);
      pass = line_passes d ((codes "picture " ++ decimal p) ++ codes " 32 32") (codes "picture") (decimal p ∷ codes "32" ∷ codes "32" ∷ []) key.Picture (line.Picture made) (record {
        plain = numbered_plain (codes "picture ") p (codes " 32 32") (omega arith) refl refl;
        cut = first (codes "picture") (decimal p ++ codes " 32 32") refl (number_first p (codes "32 32") (omega arith) (first (codes "32") (codes "32") refl (last (codes "32") refl)));
        begins = refl;
        known = rw (b.version, b.actors) picture_known;
        follows = rw (b.follows) refl;
        fits = refl;
        formed = picture_formed d numbers k p b l h fresh;
      });
      painting = record {
        version = b.version;
        queues = b.queues;
        pictures = numbers_more d.scene.pictures made ∙ ap (λ ns. ns ++ p ∷ []) b.pictures;
        actors = b.actors;
        filled = ap fills_so_far (last_more d.scene.pictures made);
        follows = refl;
      };
    }

-- hexadecimal digits
glyph_solid : (n : ℕ) → n < 16 → is_blank (digit_glyph false n) ≡ false
glyph_solid n h = grind (arith, nat_tests)

glyph_low : (n : ℕ) → n < 16 → 32 ≤ digit_glyph false n
glyph_low n h = grind (arith, nat_tests)

glyph_high : (n : ℕ) → n < 16 → digit_glyph false n < 127
glyph_high n h = grind (arith, nat_tests)

hex_solid : (n : ℕ) → n < 256 → IsSolid (hex n)
unfolding hex
hex_solid n h = (glyph_solid (n / 16) (omega arith), (glyph_solid (n % 16) (omega arith), tt))

hex_plain : (n : ℕ) → n < 256 → IsPlain (hex n)
unfolding hex
hex_plain n h =
    ((glyph_low (n / 16) (omega arith), glyph_high (n / 16) (omega arith)), ((glyph_low (n % 16) (omega arith), glyph_high (n % 16) (omega arith)), tt))

abbrev colour_text : ℕ → ℕ → ℕ → ℕ → Text
colour_text r g b a = ((hex r ++ hex g) ++ hex b) ++ hex a

colour_solid : (r g b a : ℕ) → r < 256 → g < 256 → b < 256 → a < 256 → IsSolid (colour_text r g b a)
colour_solid r g b a hr hg hb ha = solid_append ((hex r ++ hex g) ++ hex b) (hex a) (solid_append (hex r ++ hex g) (hex b) (solid_append (hex r) (hex g) (hex_solid r hr) (hex_solid g hg)) (hex_solid b hb)) (hex_solid a ha)

colour_some : (r g b a : ℕ) → 0 < length (colour_text r g b a)
unfolding hex
colour_some r g b a = omega arith

with_colour : (before : Text) (r g b a : ℕ) → IsPlain before → r < 256 → g < 256 → b < 256 → a < 256 → IsPlain ((((before ++ hex r) ++ hex g) ++ hex b) ++ hex a)
with_colour before r g b a p hr hg hb ha =
    plain_append (((before ++ hex r) ++ hex g) ++ hex b) (hex a)
    (plain_append ((before ++ hex r) ++ hex g) (hex b) (plain_append (before ++ hex r) (hex g) (plain_append before (hex r) p (hex_plain r hr)) (hex_plain g hg)) (hex_plain b hb)) (hex_plain a ha)

colour_words : (r g b a : ℕ) → r < 256 → g < 256 → b < 256 → a < 256 → words_of (colour_text r g b a) ≡ colour_text r g b a ∷ []
colour_words r g b a hr hg hb ha = last_word (colour_text r g b a) (colour_some r g b a) (colour_solid r g b a hr hg hb ha)

none_there : (words : List Text) → number_at 0 511 (codes "0" ∷ words) ≡ Ok (0, words)
unfolding number_at word_at decimal_of digits_after
none_there words = refl

sixteen : (words : List Text) → number_at 1 512 (codes "16" ∷ words) ≡ Ok (16, words)
unfolding number_at word_at decimal_of digits_after
sixteen words = refl

-- some picture is there
any_from : (pictures : List Picture) (numbers : List ℕ) (p : ℕ) → picture_numbers pictures ≡ numbers ++ p ∷ [] → is_any pictures ≡ true
any_from (x ∷ xs) numbers p e = refl
any_from [] [] p e = cc
any_from [] (n ∷ ns) p e = cc

any_on : (f : Fill) (x : Picture) (xs : List Picture) → is_any (with_fill (x ∷ xs) f) ≡ true
any_on f x [] = refl
any_on f x (y ∷ ys) = refl

last_behind : (x : Picture) (xs : List Picture) → is_any xs ≡ true → last_of (x ∷ xs) ≡ last_of xs
last_behind x [] e = absurd (false_not e)
last_behind x (y ∷ ys) e = refl

counted_fill : (pictures : List Picture) (f : Fill) → is_any pictures ≡ true → fills_so_far (last_of (with_fill pictures f)) ≡ suc (fills_so_far (last_of pictures))
counted_fill [] f e = absurd (false_not e)
counted_fill (x ∷ []) f e = omega (arith, length-append x.fills (f ∷ []))
counted_fill (x ∷ y ∷ ys) f e = ap fills_so_far (last_behind x (with_fill (y ∷ ys) f) (any_on f y ys)) ∙ counted_fill (y ∷ ys) f refl

room : (n k : ℕ) → n ≡ k → k < 1024 → nat_lt n 1024 ≡ true
room n k e h = grind (arith, nat_tests)

-- a fill of the last picture
fill_paints : (d : DraftValue) (numbers : List ℕ) (k p : ℕ) (t : Text) (words : List Text) (f : Fill) → Painting d (numbers ++ p ∷ []) k → k < 1024 → IsPlain t → words_of t ≡ codes "fill" ∷ words → fill_at words ≡ Ok f →
    Paints ((t ++ 10 ∷ []) ∷ []) d (numbers ++ p ∷ []) (suc k)
unfolding form_at is_skipped
fill_paints d numbers k p t words f b h plain cut formed =
    let any = any_from d.scene.pictures numbers p b.pictures in
    record {
      after = draft_after d (line.Fill f);
      pass = line_passes d t (codes "fill") words key.Fill (line.Fill f) (record {
        plain = plain;
        cut = cut;
        begins = refl;
        known = rw (b.version, b.actors) fill_known;
        follows = rw (fill_follows d.rank b.follows, any) refl;
        fits = room (fills_so_far (last_of d.scene.pictures)) k b.filled h;
        formed = rw (formed) refl;
      });
      painting = record {
        version = b.version;
        queues = b.queues;
        pictures = numbers_fill d.scene.pictures f ∙ b.pictures;
        actors = b.actors;
        filled = counted_fill d.scene.pictures f any ∙ ap suc b.filled;
        follows = refl;
      };
    }
  where
    fill_follows : (rank : Option ℕ) → may_follow_rank rank key.Picture ≡ true → may_follow_rank rank key.Fill ≡ true
    fill_follows None e = e
    fill_follows (Some rank) e = e

fill_read : (r g b : ℕ) → r < 256 → g < 256 → b < 256 → fill_at (codes "0" ∷ codes "0" ∷ codes "32" ∷ codes "32" ∷ colour_text r g b 255 ∷ []) ≡
    Ok (record { rect = record { x = pos 0; y = pos 0; width = 32; height = 32 }; colour = record { r = r; g = g; b = b; a = 255 } })
unfolding fill_at end_at
fill_read r g b hr hg hb =
    let c = colour_text r g b 255 in
    rw (none_there (codes "0" ∷ codes "32" ∷ codes "32" ∷ c ∷ []), none_there (codes "32" ∷ codes "32" ∷ c ∷ []), thirty_two (codes "32" ∷ c ∷ []), thirty_two (c ∷ []), colour_read r g b 255 [] hr hg hb (omega arith)) refl

glass_read : (x y r g b a : ℕ) → x < 17 → y < 17 → r < 256 → g < 256 → b < 256 → a < 256 → fill_at (decimal x ∷ decimal y ∷ codes "16" ∷ codes "16" ∷ colour_text r g b a ∷ []) ≡
    Ok (record { rect = record { x = pos x; y = pos y; width = 16; height = 16 }; colour = record { r = r; g = g; b = b; a = a } })
unfolding fill_at end_at
glass_read x y r g b a hx hy hr hg hb ha =
    let c = colour_text r g b a in
    rw (
      number_read 0 511 x (decimal y ∷ codes "16" ∷ codes "16" ∷ c ∷ []) (omega arith) (omega arith) (omega arith),
      number_read 0 511 y (codes "16" ∷ codes "16" ∷ c ∷ []) (omega arith) (omega arith) (omega arith),
      sixteen (codes "16" ∷ c ∷ []),
      sixteen (c ∷ []),
      colour_read r g b a [] hr hg hb ha,
    ) refl

fill_same : (r g b : ℕ) → fill_line r g b ≡ ((((codes "fill 0 0 32 32 " ++ hex r) ++ hex g) ++ hex b) ++ hex 255) ++ 10 ∷ []
unfolding fill_line hex
fill_same r g b = refl

fill_line_paints : (d : DraftValue) (numbers : List ℕ) (k p r g b : ℕ) → Painting d (numbers ++ p ∷ []) k → k < 1024 → r < 256 → g < 256 → b < 256 → Paints (fill_line r g b ∷ []) d (numbers ++ p ∷ []) (suc k)
fill_line_paints d numbers k p r g b h m hr hg hb =
    let c = colour_text r g b 255 in
    subst (λ (l : Text). Paints (l ∷ []) d (numbers ++ p ∷ []) (suc k)) (sym (fill_same r g b))
    (fill_paints d numbers k p ((((codes "fill 0 0 32 32 " ++ hex r) ++ hex g) ++ hex b) ++ hex 255) (codes "0" ∷ codes "0" ∷ codes "32" ∷ codes "32" ∷ c ∷ [])
    (record { rect = record { x = pos 0; y = pos 0; width = 32; height = 32 }; colour = record { r = r; g = g; b = b; a = 255 } }) h m
    (with_colour (codes "fill 0 0 32 32 ") r g b 255 (plain_so (codes "fill 0 0 32 32 ") refl) hr hg hb (omega arith))
    (first (codes "fill") (codes "0 0 32 32 " ++ c) refl (first (codes "0") (codes "0 32 32 " ++ c) refl (first (codes "0") (codes "32 32 " ++ c) refl (first (codes "32") (codes "32 " ++ c) refl (first (codes "32") c refl (colour_words r g b 255 hr hg hb (omega arith)))))))
    (fill_read r g b hr hg hb))

glass_grouped : (p x s y m r g b a : Text) → ((((((((p ++ x) ++ s) ++ y) ++ m) ++ r) ++ g) ++ b) ++ a) ≡ p ++ (x ++ (s ++ (y ++ (m ++ (((r ++ g) ++ b) ++ a)))))
glass_grouped p x s y m r g b a = simp append_assoc

glass_line_paints : (d : DraftValue) (numbers : List ℕ) (k p x y r g b a : ℕ) → Painting d (numbers ++ p ∷ []) k → k < 1024 → x < 17 → y < 17 → r < 256 → g < 256 → b < 256 → a < 256 → Paints (glass_line x y r g b a ∷ []) d (numbers ++ p ∷ []) (suc k)
unfolding glass_line
glass_line_paints d numbers k p x y r g b a h m hx hy hr hg hb ha =
    let c = colour_text r g b a in
    let t = ((((((((codes "fill " ++ decimal x) ++ codes " ") ++ decimal y) ++ codes " 16 16 ") ++ hex r) ++ hex g) ++ hex b) ++ hex a) in
    let grouped = glass_grouped (codes "fill ") (decimal x) (codes " ") (decimal y) (codes " 16 16 ") (hex r) (hex g) (hex b) (hex a) in
    fill_paints d numbers k p t (decimal x ∷ decimal y ∷ codes "16" ∷ codes "16" ∷ c ∷ [])
    (record { rect = record { x = pos x; y = pos y; width = 16; height = 16 }; colour = record { r = r; g = g; b = b; a = a } }) h m
    (with_colour ((((codes "fill " ++ decimal x) ++ codes " ") ++ decimal y) ++ codes " 16 16 ") r g b a
    (plain_append (((codes "fill " ++ decimal x) ++ codes " ") ++ decimal y) (codes " 16 16 ") (pair_plain (codes "fill ") x (codes " ") y (omega arith) (omega arith) refl refl) (plain_so (codes " 16 16 ") refl)) hr hg hb ha)
    (ap words_of grouped ∙ first (codes "fill") (decimal x ++ (codes " " ++ (decimal y ++ (codes " 16 16 " ++ c)))) refl
    (number_first x (decimal y ++ (codes " 16 16 " ++ c)) (omega arith) (number_first y (codes "16 16 " ++ c) (omega arith) (first (codes "16") (codes "16 " ++ c) refl (first (codes "16") c refl (colour_words r g b a hr hg hb ha))))))
    (glass_read x y r g b a hx hy hr hg hb ha)

pub paints_then : (xs ys : List Text) (d : DraftValue) (n m : List ℕ) (k l : ℕ) → Paints xs d n k → ((e : DraftValue) → Painting e n k → Paints ys e m l) → Paints (xs ++ ys) d m l
paints_then xs ys d n m k l first next =
    let second = next first.after first.painting in
    record { after = second.after; pass = both_pass xs ys d first.after second.after first.pass second.pass; painting = second.painting }

-- a picture with its fills
picture_lines_paint : (d : DraftValue) (numbers : List ℕ) (k p s : ℕ) → Painting d numbers k → 1 ≤ p → p ≤ 8 → list_any (λ m. m == p) numbers ≡ false → Paints (picture_lines s p) d (numbers ++ p ∷ []) 2
picture_lines_paint d numbers k p s b l h fresh =
    let a = draw s 5 256 in
    paints_then (numbered_line (codes "picture ") p (codes " 32 32") ∷ []) _ d (numbers ++ p ∷ []) _ 0 2 (picture_paints d numbers k p b l h fresh) (λ e b1.
    paints_then (fill_line (draw s 0 256) (draw s 1 256) (draw s 2 256) ∷ []) _ e (numbers ++ p ∷ []) _ 1 2 (fill_line_paints e numbers 0 p (draw s 0 256) (draw s 1 256) (draw s 2 256) b1 (omega arith) (omega arith) (omega arith) (omega arith)) (λ f b2.
    glass_line_paints f numbers 1 p (draw s 3 17) (draw s 4 17) (draw s 6 (a + 1)) (draw s 7 (a + 1)) (draw s 8 (a + 1)) a b2 (omega arith) (omega arith) (omega arith)
    (under s 6) (under s 7) (under s 8) (omega arith)))
  where
    under : (s n : ℕ) → draw s n (draw s 5 256 + 1) < 256
    under s n =
        let a : draw s 5 256 < 256 = omega arith in
        let b : draw s n (draw s 5 256 + 1) < draw s 5 256 + 1 = omega arith in
        omega arith

no_more : (d : DraftValue) (numbers : List ℕ) (k : ℕ) → Painting d numbers k → Paints [] d numbers k
no_more d numbers k b = record { after = d; pass = no_lines_pass d; painting = b }

-- all pictures
pub pictures_paint : (d : DraftValue) (x : ℕ) → Painting d [] 0 → Paints (parts_from picture_lines 9 x 1 8) d (1 ∷ 2 ∷ 3 ∷ 4 ∷ 5 ∷ 6 ∷ 7 ∷ 8 ∷ []) 2
unfolding parts_from
pictures_paint d x b0 =
    let x2 = after_draws x 9 in
    let x3 = after_draws x2 9 in
    let x4 = after_draws x3 9 in
    let x5 = after_draws x4 9 in
    let x6 = after_draws x5 9 in
    let x7 = after_draws x6 9 in
    let x8 = after_draws x7 9 in
    paints_then _ _ d (1 ∷ []) _ 2 2 (picture_lines_paint d [] 0 1 x b0 (omega arith) (omega arith) refl) (λ e1 b1.
    paints_then _ _ e1 (1 ∷ 2 ∷ []) _ 2 2 (picture_lines_paint e1 (1 ∷ []) 2 2 x2 b1 (omega arith) (omega arith) refl) (λ e2 b2.
    paints_then _ _ e2 (1 ∷ 2 ∷ 3 ∷ []) _ 2 2 (picture_lines_paint e2 (1 ∷ 2 ∷ []) 2 3 x3 b2 (omega arith) (omega arith) refl) (λ e3 b3.
    paints_then _ _ e3 (1 ∷ 2 ∷ 3 ∷ 4 ∷ []) _ 2 2 (picture_lines_paint e3 (1 ∷ 2 ∷ 3 ∷ []) 2 4 x4 b3 (omega arith) (omega arith) refl) (λ e4 b4.
    paints_then _ _ e4 (1 ∷ 2 ∷ 3 ∷ 4 ∷ 5 ∷ []) _ 2 2 (picture_lines_paint e4 (1 ∷ 2 ∷ 3 ∷ 4 ∷ []) 2 5 x5 b4 (omega arith) (omega arith) refl) (λ e5 b5.
    paints_then _ _ e5 (1 ∷ 2 ∷ 3 ∷ 4 ∷ 5 ∷ 6 ∷ []) _ 2 2 (picture_lines_paint e5 (1 ∷ 2 ∷ 3 ∷ 4 ∷ 5 ∷ []) 2 6 x6 b5 (omega arith) (omega arith) refl) (λ e6 b6.
    paints_then _ _ e6 (1 ∷ 2 ∷ 3 ∷ 4 ∷ 5 ∷ 6 ∷ 7 ∷ []) _ 2 2 (picture_lines_paint e6 (1 ∷ 2 ∷ 3 ∷ 4 ∷ 5 ∷ 6 ∷ []) 2 7 x7 b6 (omega arith) (omega arith) refl) (λ e7 b7.
    paints_then _ _ e7 (1 ∷ 2 ∷ 3 ∷ 4 ∷ 5 ∷ 6 ∷ 7 ∷ 8 ∷ []) _ 2 2 (picture_lines_paint e7 (1 ∷ 2 ∷ 3 ∷ 4 ∷ 5 ∷ 6 ∷ 7 ∷ []) 2 8 x8 b7 (omega arith) (omega arith) refl) (λ e8 b8. no_more e8 (1 ∷ 2 ∷ 3 ∷ 4 ∷ 5 ∷ 6 ∷ 7 ∷ 8 ∷ []) 2 b8))))))))

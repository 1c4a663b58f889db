-- The period of a scene that a script spells is in its range, since only the line of the display gives it.
use Rattle.std.proofs.Common.{◌≡◌, ℕ, ◌+◌, ◌≤◌, ◌==◌, Bool, true, false, List, [], ◌∷◌, length, Option, None, Some, Result, Ok, Err, refl, ap, subst, arith}
use Rattle.std.specs.Prelude.{nat_lt}
use Rattle.std.specs.Str.{is_utf8}
use Rattle.sf_app_options.specs.sf_script_words.Numbers.{decimal_of, in_range}
use Rattle.sf_app_options.specs.sf_script_words.Reading.{◌>>=◌, demand, end_at, good, number_at, some_or, word_at}
use Rattle.sf_app_options.specs.sf_script_words.Text.{Text, lines_of, trimmed, words_of}
use Rattle.sf_app_options.specs.sf_script_words.declared.fault.WordFault.{WordFault}
use Rattle.sf_app_options.specs.sf_script_words.declared.fault.Cause.TheVariants.{Limit, NotUtf8, OutOfOrder, UnknownWord}
use Rattle.sf_script_scene.specs.Scene.{SceneValue}
use Rattle.law_generated.specs.sf_script.Declarations.{header_at, version_at}
use Rattle.law_generated.specs.sf_script.Draft.{DraftValue, draft_after, has_room, is_any, is_ended, may_follow, no_lines, scene_after}
use Rattle.law_generated.specs.sf_script.Keywords.{keyword_of}
use Rattle.law_generated.specs.sf_script.Parse.{parsed_of}
use Rattle.law_generated.specs.sf_script.Script.{after_line, draft_at, form_at, is_skipped, line_at, lined, lines_at, scene_at, script_of, words_at}
use Rattle.law_generated.specs.sf_script.declared.fault.ScriptFault.{ScriptFault}
use Rattle.law_generated.specs.sf_script.declared.line.Header.{Header}
use Rattle.law_generated.specs.sf_script.declared.line.Keyword.{Keyword}
use Rattle.law_generated.specs.sf_script.declared.line.Keyword.TheVariants as key
use Rattle.law_generated.specs.sf_script.declared.line.Line.{Line}
use Rattle.law_generated.specs.sf_script.declared.line.Line.TheVariants as line

-- a period in its range
pub record IsPeriod (period : ℕ) : Type 0 where
  pub low : 1000000 ≤ period
  pub high : period ≤ 1000000000

-- a line gives no other period
abbrev IsTimed : Line → Type 0
IsTimed (line.Scene h) = IsPeriod h.period
IsTimed _ = Unit {0}

ok_same : {A B : Type 0} (r : Result A B) (x y : A) → r ≡ Ok x → r ≡ Ok y → x ≡ y
ok_same r x y e f = cc

no_ok : {A B C : Type 0} (r : Result A B) (fault : B) (y : A) → r ≡ Err fault → r ≡ Ok y → C
no_ok r fault y e f = absurd (let no : ⊥ = cc in no)

-- what was read on to its end began with a value
bound : {A B : Type 0} (r : Result A WordFault) (f : A → Result B WordFault) (y : B) → (r >>= f) ≡ Ok y → (x : A) × (r ≡ Ok x) × (f x ≡ Ok y)
bound (Ok x) f y e = (x, refl, e)
bound (Err fault) f y e = no_ok _ fault y refl e

good_is : {A : Type 0} (left : ℕ) (value : Option A) (x : A) → good left value ≡ Ok x → value ≡ Some x
good_is left None x e = no_ok _ _ x refl e
good_is left (Some y) x e = ap Some (ok_same _ y x refl e)

ranged : (low high : ℕ) (value : Option ℕ) (n : ℕ) → in_range low high value ≡ Some n → (low ≤ n) × (n ≤ high)
ranged low high None n e = absurd (let no : ⊥ = cc in no)
ranged low high (Some m) n e = grind arith

-- a number that was read is in its range
read_ranged : (low high : ℕ) (words : List Text) (n : ℕ × List Text) → number_at low high words ≡ Ok n → (low ≤ n.0) × (n.0 ≤ high)
unfolding number_at
read_ranged low high words n e =
    let word = bound (word_at words) _ n e in
    let value = bound (good (length words) (in_range low high (decimal_of word.0.0))) _ n word.2 in
    let is = good_is (length words) (in_range low high (decimal_of word.0.0)) value.0 value.1 in
    let range = ranged low high (decimal_of word.0.0) value.0 is in
    let same = ok_same _ (value.0, word.0.1) n refl value.2 in
    subst (λ (m : ℕ × List Text). (low ≤ m.0) × (m.0 ≤ high)) same range

-- the line of the display gives a period in its range
header_timed : (words : List Text) (h : Header) → header_at words ≡ Ok h → IsPeriod h.period
unfolding header_at
header_timed words h e =
    let version = bound (version_at words) _ h e in
    let width = bound (number_at 1 1024 version.0.1) _ h version.2 in
    let height = bound (number_at 1 1024 width.0.1) _ h width.2 in
    let period = bound (number_at 1000000 1000000000 height.0.1) _ h height.2 in
    let last = bound (end_at period.0.1) _ h period.2 in
    let range = read_ranged 1000000 1000000000 height.0.1 period.0 period.1 in
    let same = ok_same _ _ h refl last.2 in
    let period_is = ap (λ (a : Header). a.period) same in
    record { low = subst (λ (n : ℕ). 1000000 ≤ n) period_is range.0; high = subst (λ (n : ℕ). n ≤ 1000000000) period_is range.1 }

-- a line was made of what was read
made : {A : Type 0} (make : A → Line) (r : Result A WordFault) (l : Line) → lined make r ≡ Ok l → (x : A) × (r ≡ Ok x) × (make x ≡ l)
made make (Ok x) l e = (x, refl, ok_same _ (make x) l refl e)
made make (Err fault) l e = no_ok _ fault l refl e

-- a line of another form gives no period
made_other : {A : Type 0} (make : A → Line) → ((x : A) → IsTimed (make x)) → (r : Result A WordFault) (l : Line) → lined make r ≡ Ok l → IsTimed l
made_other make timed r l e = let m = made make r l e in subst IsTimed m.2 (timed m.0)

form_timed : (d : DraftValue) (keyword : Keyword) (words : List Text) (l : Line) → form_at d keyword words ≡ Ok l → IsTimed l
unfolding form_at
form_timed d key.Scene words l e =
    let m = made line.Scene (header_at words) l e in
    subst IsTimed m.2 (header_timed words m.0 m.1)
form_timed d key.Timeline words l e = made_other _ (λ x. tt) _ l e
form_timed d key.Display words l e = made_other _ (λ x. tt) _ l e
form_timed d key.Stack words l e = made_other _ (λ x. tt) _ l e
form_timed d key.Capture words l e = made_other _ (λ x. tt) _ l e
form_timed d key.Hit words l e = made_other _ (λ x. tt) _ l e
form_timed d key.Mirror words l e = made_other _ (λ x. tt) _ l e
form_timed d key.Queue words l e = made_other _ (λ x. tt) _ l e
form_timed d key.Picture words l e = made_other _ (λ x. tt) _ l e
form_timed d key.Fill words l e = made_other _ (λ x. tt) _ l e
form_timed d key.Actor words l e = made_other _ (λ x. tt) _ l e
form_timed d (key.Step form) words l e = made_other _ (λ x. tt) _ l e
form_timed d key.Order words l e = made_other _ (λ x. tt) _ l e
form_timed d key.End words l e = made_other _ (λ x. tt) _ l e

line_timed : (d : DraftValue) (text : Text) (l : Line) → line_at d text ≡ Ok l → IsTimed l
unfolding line_at words_at
line_timed d text l e =
    let words = words_of text in
    let utf8 = bound (demand (is_utf8 text) (length words + 1) NotUtf8) _ l e in
    let word = bound (word_at words) _ l utf8.2 in
    let keyword = bound (some_or (length words) UnknownWord (keyword_of (d.scene.version == 2) (is_any d.scene.actors) word.0.0)) _ l word.2 in
    let follows = bound (demand (may_follow d keyword.0) (length words) OutOfOrder) _ l keyword.2 in
    let room = bound (demand (has_room d.scene keyword.0) (length words) Limit) _ l follows.2 in
    form_timed d keyword.0 word.0.1 l room.2

-- the scene after a line has the period of the line of the display
after_timed : (scene : SceneValue) (l : Line) → IsPeriod scene.period → IsTimed l → IsPeriod (scene_after scene l).period
after_timed scene (line.Scene h) timed new = new
after_timed scene (line.Timeline timeline) timed new = timed
after_timed scene (line.Display display) timed new = timed
after_timed scene (line.Stack layer stack) timed new = timed
after_timed scene (line.Capture capture) timed new = timed
after_timed scene (line.Hit hit) timed new = timed
after_timed scene (line.Mirror layer mirrored) timed new = timed
after_timed scene (line.Queue queue) timed new = timed
after_timed scene (line.Picture picture) timed new = timed
after_timed scene (line.Fill fill) timed new = timed
after_timed scene (line.Actor number) timed new = timed
after_timed scene (line.Step named) timed new = timed
after_timed scene (line.Order picks) timed new = timed
after_timed scene line.End timed new = timed

draft_timed : (number : ℕ) (d : DraftValue) (text : Text) (next : DraftValue) → IsPeriod d.scene.period → draft_at number d text ≡ Ok next → IsPeriod next.scene.period
unfolding draft_at
draft_timed number d text next timed e = by_skipped (is_skipped (words_of text)) refl
  where
    by_line : (r : Result Line WordFault) → line_at d text ≡ r → after_line number d text r ≡ Ok next → IsPeriod next.scene.period
    by_line (Ok l) is same =
        subst (λ (draft : DraftValue). IsPeriod draft.scene.period) (ok_same _ (draft_after d l) next refl same) (after_timed d.scene l timed (line_timed d text l is))
    by_line (Err fault) is same = no_ok _ _ next refl same

    by_skipped : (skipped : Bool) → is_skipped (words_of text) ≡ skipped → IsPeriod next.scene.period
    by_skipped true s = subst (λ (draft : DraftValue). IsPeriod draft.scene.period) (ok_same _ d next refl (rw s at e)) timed
    by_skipped false s = by_line (line_at d text) refl (rw s at e)

scene_timed : (number : ℕ) (d : DraftValue) (scene : SceneValue) → IsPeriod d.scene.period → scene_at number d ≡ Ok scene → IsPeriod scene.period
unfolding scene_at
scene_timed number d scene timed e = by_end (is_ended d.rank) refl
  where
    by_end : (ended : Bool) → is_ended d.rank ≡ ended → IsPeriod scene.period
    by_end true s = subst (λ (x : SceneValue). IsPeriod x.period) (ok_same _ d.scene scene refl (rw s at e)) timed
    by_end false s = no_ok _ _ scene refl (rw s at e)

lines_timed : (number : ℕ) (d : DraftValue) (texts : List Text) (scene : SceneValue) → IsPeriod d.scene.period → lines_at number d texts ≡ Ok scene → IsPeriod scene.period
unfolding lines_at
lines_timed number d [] scene timed e = scene_timed number d scene timed e
lines_timed number d (text ∷ texts) scene timed e = by_draft (λ next. lines_timed (number + 1) next texts scene) (draft_at number d (trimmed text)) refl
  where
    by_draft : ((next : DraftValue) → IsPeriod next.scene.period → lines_at (number + 1) next texts ≡ Ok scene → IsPeriod scene.period)
        → (r : Result DraftValue ScriptFault) → draft_at number d (trimmed text) ≡ r → IsPeriod scene.period
    by_draft later (Ok next) s = later next (draft_timed number d (trimmed text) next timed s) (rw s at e)
    by_draft later (Err fault) s = no_ok _ fault scene refl (rw s at e)

-- a scene that is spelled has a period in its range
pub parsed_timed : (bytes : List ℕ) (scene : SceneValue) → parsed_of bytes ≡ Ok scene → IsPeriod scene.period
unfolding parsed_of script_of
parsed_timed bytes scene e = by_length (nat_lt 1048576 (length bytes)) refl
  where
    by_length : (long : Bool) → nat_lt 1048576 (length bytes) ≡ long → IsPeriod scene.period
    by_length true s = no_ok _ _ scene refl (rw s at e)
    by_length false s = lines_timed 1 no_lines (lines_of bytes) scene (record { low = omega arith; high = omega arith }) (rw s at e)

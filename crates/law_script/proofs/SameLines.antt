-- A whole script of version 1 is read in version 2 as it is in version 1.
use Rattle.std.proofs.Common.{◌≡◌, ℕ, ◌+◌, Bool, true, false, ◌==◌, List, [], ◌∷◌, ◌++◌, length, Option, Some, None, Result, Ok, Err, refl, sym, ap, subst, ◌∙◌, arith}
use Rattle.std.proofs.lemmas.List.Elements.{All-head, All-tail}
use Rattle.std.proofs.lemmas.Slice.Eq.{bytes_eq-Decides}
use Rattle.std.specs.Prelude.{All, if◌then◌else◌, codes, option_map}
use Rattle.std.specs.Str.{bytes_eq, is_utf8}
use Rattle.sf_script_words.specs.Text.{Text, trimmed, words_of}
use Rattle.sf_script_words.specs.Numbers.{decimal_of, digits_after}
use Rattle.sf_script_words.specs.Reading.{◌>>=◌, demand, some_or, word_at, end_at, number_at}
use Rattle.sf_script_words.specs.Causes.{number_of}
use Rattle.sf_script_words.specs.declared.fault.Cause.TheVariants.{Limit, NotUtf8, OutOfOrder, Unended, UnknownWord}
use Rattle.sf_script_words.specs.declared.fault.WordFault.{WordFault}
use Rattle.sf_script_scene.specs.Scene.{SceneValue}
use Rattle.sf_script.specs.Declarations.{fill_at, header_at, new_actor_at, new_picture_at, new_queue_at, new_timeline_at, version_at}
use Rattle.sf_script.specs.Draft.{DraftValue, draft_after, has_room, is_any, is_ended, is_led, may_follow, no_lines}
use Rattle.sf_script.specs.Keywords.{consumer_form_of, keyword_of, or_else, plain_keyword_of, producer_form_of, second_keyword_of, step_form_of, transaction_form_of}
use Rattle.sf_script.specs.Order.{order_at}
use Rattle.sf_script.specs.Steps.{step_at}
use Rattle.sf_script.specs.Script.{after_line, draft_at, placed, form_at, is_skipped, line_at, lined, lines_at, scene_at, script_of, words_at}
use Rattle.sf_script.specs.Second.{new_capture_at, new_display_at, new_hit_at, new_mirror_at, new_stack_at}
use Rattle.sf_script.specs.declared.fault.ScriptFault.{ScriptFault}
use Rattle.sf_script.specs.declared.line.Header.{Header}
use Rattle.sf_script.specs.declared.line.Keyword.{Keyword}
use Rattle.sf_script.specs.declared.line.Keyword.TheVariants as key
use Rattle.sf_script.specs.declared.line.Line.{Line}
use Rattle.sf_script.specs.declared.line.Line.TheVariants as line
use Rattle.sf_script.specs.declared.line.StepForm.{StepForm}
use Rattle.law_script.specs.Second.{DifferInVersion, in_version_2}
use Rattle.law_script.proofs.SameForms.{has_read, same_step, second, second_actor, second_order, second_picture}

-- a line that is not the first
abbrev pub IsLater : Line → Type 0
IsLater (line.Scene header) = ⊥
IsLater _ = Unit {0}

-- a line that is read in version 2, too
pub record ReadsToo (reads : Result Line WordFault) (l : Line) : Type 0 where
  pub read : reads ≡ Ok l
  pub later : IsLater l

value_in : {X E : Type 0} → X → Result X E → X
value_in x (Ok y) = y
value_in x (Err fault) = x

abbrev pub as_ok : {X : Type 0} (E : Type 0) → X → Result X E
as_ok E x = Ok x

pub the_value : {X E : Type 0} (x y : X) → as_ok E x ≡ as_ok E y → x ≡ y
unfolding value_in
the_value x y e = ap (value_in x) e

lined_too : {A : Type 0} (make : A → Line) (one two : Result A WordFault) (l : Line) → ((x : A) → IsLater (make x)) → ((x : A) → one ≡ Ok x → two ≡ Ok x) → lined make one ≡ Ok l → ReadsToo (lined make two) l
lined_too make (Ok x) two l later same e = record { read = rw (same x refl) e; later = subst IsLater (the_value (make x) l e) (later x) }
lined_too make (Err fault) two l later same e = absurd (cc (e))

same_room : (scene : SceneValue) (keyword : Keyword) → has_room (in_version_2 scene) keyword ≡ has_room scene keyword
same_room scene (key.Step form) = refl
same_room scene key.Fill = refl
same_room scene key.Mirror = refl
same_room scene key.Scene = refl
same_room scene key.Timeline = refl
same_room scene key.Display = refl
same_room scene key.Stack = refl
same_room scene key.Capture = refl
same_room scene key.Hit = refl
same_room scene key.Queue = refl
same_room scene key.Picture = refl
same_room scene key.Actor = refl
same_room scene key.Order = refl
same_room scene key.End = refl

same_led : (scene : SceneValue) (keyword : Keyword) → is_led (in_version_2 scene) keyword ≡ is_led scene keyword
same_led scene (key.Step form) = refl
same_led scene key.Fill = refl
same_led scene key.Mirror = refl
same_led scene key.Scene = refl
same_led scene key.Timeline = refl
same_led scene key.Display = refl
same_led scene key.Stack = refl
same_led scene key.Capture = refl
same_led scene key.Hit = refl
same_led scene key.Queue = refl
same_led scene key.Picture = refl
same_led scene key.Actor = refl
same_led scene key.Order = refl
same_led scene key.End = refl

-- a draft that had a first line of version 1
pub record IsFirstVersion (d : DraftValue) : Type 0 where
  pub version : d.scene.version ≡ 1
  pub rank : ℕ
  pub has : d.rank ≡ Some rank

same_timeline : (scene : SceneValue) (words : List Text) → new_timeline_at (in_version_2 scene) words ≡ new_timeline_at scene words
unfolding new_timeline_at
same_timeline scene words = refl

same_display : (scene : SceneValue) (words : List Text) → new_display_at (in_version_2 scene) words ≡ new_display_at scene words
unfolding new_display_at
same_display scene words = refl

same_stack : (scene : SceneValue) (words : List Text) → new_stack_at (in_version_2 scene) words ≡ new_stack_at scene words
unfolding new_stack_at
same_stack scene words = refl

same_capture : (scene : SceneValue) (words : List Text) → new_capture_at (in_version_2 scene) words ≡ new_capture_at scene words
unfolding new_capture_at
same_capture scene words = refl

same_hit : (scene : SceneValue) (words : List Text) → new_hit_at (in_version_2 scene) words ≡ new_hit_at scene words
unfolding new_hit_at
same_hit scene words = refl

same_mirror : (scene : SceneValue) (words : List Text) → new_mirror_at (in_version_2 scene) words ≡ new_mirror_at scene words
unfolding new_mirror_at
same_mirror scene words = refl

same_queue : (scene : SceneValue) (words : List Text) → new_queue_at (in_version_2 scene) words ≡ new_queue_at scene words
unfolding new_queue_at
same_queue scene words = refl

-- the forms of version 1
form_too : (d : DraftValue) → IsFirstVersion d → (keyword : Keyword) (words : List Text) (l : Line) → may_follow d keyword ≡ true → form_at d keyword words ≡ Ok l → ReadsToo (form_at (second d) keyword words) l
unfolding form_at
form_too d first key.Scene words l may e = absurd (no (ap (λ (rank : Option ℕ). may_follow (record d { rank = rank }) key.Scene) (sym first.has) ∙ may))
  where
    no : false ≡ true → ⊥
    no e = cc (e)
form_too d first key.Timeline words l may e = lined_too line.Timeline (new_timeline_at d.scene words) (new_timeline_at (in_version_2 d.scene) words) l (λ x. tt) (λ x r. same_timeline d.scene words ∙ r) e
form_too d first key.Display words l may e = lined_too line.Display (new_display_at d.scene words) (new_display_at (in_version_2 d.scene) words) l (λ x. tt) (λ x r. same_display d.scene words ∙ r) e
form_too d first key.Stack words l may e = lined_too (λ s. line.Stack s.0 s.1) (new_stack_at d.scene words) (new_stack_at (in_version_2 d.scene) words) l (λ x. tt) (λ x r. same_stack d.scene words ∙ r) e
form_too d first key.Capture words l may e = lined_too line.Capture (new_capture_at d.scene words) (new_capture_at (in_version_2 d.scene) words) l (λ x. tt) (λ x r. same_capture d.scene words ∙ r) e
form_too d first key.Hit words l may e = lined_too line.Hit (new_hit_at d.scene words) (new_hit_at (in_version_2 d.scene) words) l (λ x. tt) (λ x r. same_hit d.scene words ∙ r) e
form_too d first key.Mirror words l may e = lined_too (λ m. line.Mirror m.0 m.1) (new_mirror_at d.scene words) (new_mirror_at (in_version_2 d.scene) words) l (λ x. tt) (λ x r. same_mirror d.scene words ∙ r) e
form_too d first key.Queue words l may e = lined_too line.Queue (new_queue_at d.scene words) (new_queue_at (in_version_2 d.scene) words) l (λ x. tt) (λ x r. same_queue d.scene words ∙ r) e
form_too d first key.Picture words l may e = lined_too line.Picture (new_picture_at d.scene words) (new_picture_at (in_version_2 d.scene) words) l (λ x. tt) (λ x r. second_picture d.scene words x first.version r) e
form_too d first key.Fill words l may e = lined_too line.Fill (fill_at words) (fill_at words) l (λ x. tt) (λ x r. r) e
form_too d first key.Actor words l may e = lined_too line.Actor (new_actor_at d.scene words) (new_actor_at (in_version_2 d.scene) words) l (λ x. tt) (λ x r. second_actor d.scene words x first.version r) e
form_too d first (key.Step form) words l may e = lined_too line.Step (step_at d form words) (step_at (second d) form words) l (λ x. tt) (λ x r. same_step d form words ∙ r) e
form_too d first key.Order words l may e = lined_too line.Order (order_at d.scene words) (order_at (in_version_2 d.scene) words) l (λ x. tt) (λ x r. second_order d.scene words x first.version r) e
form_too d first key.End words l may e = lined_too (λ u. line.End) (end_at words) (end_at words) l (λ x. tt) (λ x r. r) e

-- a word that begins a form of version 2 begins no step
apart : (name word : Text) (form : StepForm) → step_form_of name ≡ None → bytes_eq word name ≡ true → step_form_of word ≡ Some form → ⊥
apart name word form none same some = let e : word ≡ name = (bytes_eq-Decides word name).0 same in cc (ap step_form_of (sym e) ∙ some, none)

no_step : (word : Text) (form : StepForm) → step_form_of word ≡ Some form → second_keyword_of word ≡ None
unfolding second_keyword_of producer_form_of consumer_form_of transaction_form_of
no_step word form some =
    by5 (bytes_eq word (codes "display")) (bytes_eq word (codes "stack")) (bytes_eq word (codes "capture")) (bytes_eq word (codes "hit")) (bytes_eq word (codes "mirror"))
    (λ e. apart (codes "display") word form refl e some) (λ e. apart (codes "stack") word form refl e some) (λ e. apart (codes "capture") word form refl e some)
    (λ e. apart (codes "hit") word form refl e some) (λ e. apart (codes "mirror") word form refl e some)
  where
    by5 : (a b c d e : Bool) → (a ≡ true → ⊥) → (b ≡ true → ⊥) → (c ≡ true → ⊥) → (d ≡ true → ⊥) → (e ≡ true → ⊥)
        → (if a then Some key.Display else if b then Some key.Stack else if c then Some key.Capture else if d then Some key.Hit else if e then Some key.Mirror else None) ≡ None
    by5 true b c d e na nb nc nd ne = absurd (na refl)
    by5 false true c d e na nb nc nd ne = absurd (nb refl)
    by5 false false true d e na nb nc nd ne = absurd (nc refl)
    by5 false false false true e na nb nc nd ne = absurd (nd refl)
    by5 false false false false true na nb nc nd ne = absurd (ne refl)
    by5 false false false false false na nb nc nd ne = refl

keyword_too : (has_actor : Bool) (word : Text) (keyword : Keyword) → keyword_of false has_actor word ≡ Some keyword → keyword_of true has_actor word ≡ Some keyword
keyword_too has_actor word keyword e = by (plain_keyword_of has_actor word) (step_form_of word) (no_step word) e
  where
    by : (plain : Option Keyword) (step : Option StepForm) → ((form : StepForm) → step ≡ Some form → second_keyword_of word ≡ None) → or_else plain (or_else None (option_map key.Step step)) ≡ Some keyword
        → or_else plain (or_else (second_keyword_of word) (option_map key.Step step)) ≡ Some keyword
    by (Some k) step none e = e
    by None None none e = absurd (cc (e))
    by None (Some form) none e = rw (none form refl) e

chosen : {X : Type 0} (left : ℕ) (o : Option X) (x : X) → some_or left UnknownWord o ≡ Ok x → o ≡ Some x
chosen left None x e = absurd (cc (e))
chosen left (Some y) x e = cc (e)

demanded : (holds : Bool) (left : ℕ) → demand holds left OutOfOrder ≡ Ok tt → holds ≡ true
demanded true left e = refl
demanded false left e = absurd (cc (e))

words_too : (d : DraftValue) → IsFirstVersion d → (words : List Text) (l : Line) → words_at d words ≡ Ok l → ReadsToo (words_at (second d) words) l
unfolding words_at word_at
words_too d first [] l e = absurd (cc (e))
words_too d first (word ∷ words) l e =
    let k = has_read (some_or (length (word ∷ words)) UnknownWord (keyword_of (d.scene.version == 2) (is_any d.scene.actors) word))
    (λ keyword. demand (may_follow d keyword) (length (word ∷ words)) OutOfOrder >>= λ _. demand (has_room d.scene keyword) (length (word ∷ words)) Limit >>= λ _. form_at d keyword words) l e in
    let m = has_read (demand (may_follow d k.value) (length (word ∷ words)) OutOfOrder) (λ _. demand (has_room d.scene k.value) (length (word ∷ words)) Limit >>= λ _. form_at d k.value words) l k.goes in
    let r = has_read (demand (has_room d.scene k.value) (length (word ∷ words)) Limit) (λ _. form_at d k.value words) l m.goes in
    let may = demanded (may_follow d k.value) (length (word ∷ words)) m.read in
    let form = form_too d first k.value words l may r.goes in
    let keyword : keyword_of false (is_any d.scene.actors) word ≡ Some k.value =
    subst (λ version. keyword_of (version == 2) (is_any d.scene.actors) word ≡ Some k.value) first.version
    (chosen (length (word ∷ words)) (keyword_of (d.scene.version == 2) (is_any d.scene.actors) word) k.value k.read) in
    record {
      read = rw (keyword_too (is_any d.scene.actors) word k.value keyword, same_led d.scene k.value, same_room d.scene k.value) (rw (m.read, r.read) form.read);
      later = form.later;
    }

line_too : (d : DraftValue) → IsFirstVersion d → (text : Text) (l : Line) → line_at d text ≡ Ok l → ReadsToo (line_at (second d) text) l
unfolding line_at
line_too d first text l e =
    let r = has_read (demand (is_utf8 text) (length (words_of text) + 1) NotUtf8) (λ _. words_at d (words_of text)) l e in
    let w = words_too d first (words_of text) l r.goes in
    record { read = rw r.read w.read; later = w.later }

-- a draft goes on in version 2 as in version 1
after_too : (d : DraftValue) (l : Line) → IsLater l → draft_after (second d) l ≡ second (draft_after d l)
after_too d (line.Scene header) later = absurd later
after_too d (line.Timeline t) later = refl
after_too d (line.Display t) later = refl
after_too d (line.Stack t s) later = refl
after_too d (line.Capture t) later = refl
after_too d (line.Hit t) later = refl
after_too d (line.Mirror t s) later = refl
after_too d (line.Queue t) later = refl
after_too d (line.Picture t) later = refl
after_too d (line.Fill t) later = refl
after_too d (line.Actor t) later = refl
after_too d (line.Step t) later = refl
after_too d (line.Order t) later = refl
after_too d line.End later = refl

first_after : (d : DraftValue) (l : Line) → IsFirstVersion d → IsLater l → IsFirstVersion (draft_after d l)
first_after d (line.Scene header) first later = absurd later
first_after d (line.Timeline t) first later = record { version = first.version; rank = _; has = refl }
first_after d (line.Display t) first later = record { version = first.version; rank = _; has = refl }
first_after d (line.Stack t s) first later = record { version = first.version; rank = _; has = refl }
first_after d (line.Capture t) first later = record { version = first.version; rank = _; has = refl }
first_after d (line.Hit t) first later = record { version = first.version; rank = _; has = refl }
first_after d (line.Mirror t s) first later = record { version = first.version; rank = _; has = refl }
first_after d (line.Queue t) first later = record { version = first.version; rank = _; has = refl }
first_after d (line.Picture t) first later = record { version = first.version; rank = _; has = refl }
first_after d (line.Fill t) first later = record { version = first.version; rank = _; has = refl }
first_after d (line.Actor t) first later = record { version = first.version; rank = _; has = refl }
first_after d (line.Step t) first later = record { version = first.version; rank = _; has = refl }
first_after d (line.Order t) first later = record { version = first.version; rank = _; has = refl }
first_after d line.End first later = record { version = first.version; rank = _; has = refl }

-- what a line spells, in version 2 too
pub record SpellsToo (number : ℕ) (d next : DraftValue) (text : Text) : Type 0 where
  pub spells : draft_at number (second d) text ≡ Ok (second next)
  pub first : IsFirstVersion next

draft_too : (number : ℕ) (d next : DraftValue) (text : Text) → IsFirstVersion d → draft_at number d text ≡ Ok next → SpellsToo number d next text
unfolding draft_at
draft_too number d next text first e = by (is_skipped (words_of text)) refl e
  where
    read : (r : Result Line WordFault) → line_at d text ≡ r → (if is_skipped (words_of text) then Ok d else after_line number d text r) ≡ Ok next → is_skipped (words_of text) ≡ false → SpellsToo number d next text
    read (Err fault) r e f = absurd (cc (sym (ap (λ (b : Bool). if b then Ok d else Err (placed number text fault)) f) ∙ e))
    read (Ok l) r e f =
        let too = line_too d first text l r in
        let is : draft_after d l ≡ next = the_value (draft_after d l) next (sym (ap (λ (b : Bool). if b then Ok d else Ok (draft_after d l)) f) ∙ e) in
        record { spells = rw (f, too.read) (ap Ok (after_too d l too.later ∙ ap second is)); first = subst IsFirstVersion is (first_after d l first too.later) }

    by : (b : Bool) → is_skipped (words_of text) ≡ b → (if is_skipped (words_of text) then Ok d else after_line number d text (line_at d text)) ≡ Ok next → SpellsToo number d next text
    by true f e =
        let is : d ≡ next = the_value d next (sym (ap (λ (b : Bool). if b then Ok d else after_line number d text (line_at d text)) f) ∙ e) in
        record { spells = rw f (ap (λ (x : DraftValue). Ok (second x)) is); first = subst IsFirstVersion is first }
    by false f e = read (line_at d text) refl e f

scene_too : (number : ℕ) (d : DraftValue) (scene : SceneValue) → scene_at number d ≡ Ok scene → scene_at number (second d) ≡ Ok (in_version_2 scene)
unfolding scene_at
scene_too number d scene e = by (is_ended d.rank) e
  where
    fault : Result SceneValue ScriptFault
    fault = Err (record { line = number; word = 0; cause = number_of Unended })

    by : (b : Bool) → (if b then Ok d.scene else fault) ≡ Ok scene → (if b then Ok (in_version_2 d.scene) else fault) ≡ Ok (in_version_2 scene)
    by true e = ap (λ (x : SceneValue). Ok (in_version_2 x)) (the_value d.scene scene e)
    by false e = absurd (cc (e))

lines_too : (number : ℕ) (d : DraftValue) (texts : List Text) (scene : SceneValue) → IsFirstVersion d → lines_at number d texts ≡ Ok scene → lines_at number (second d) texts ≡ Ok (in_version_2 scene)
unfolding lines_at
lines_too number d [] scene first e = scene_too number d scene e
lines_too number d (text ∷ texts) scene first e =
    by (draft_at number d (trimmed text)) refl (λ next. lines_too (number + 1) next texts scene)
  where
    by : (r : Result DraftValue ScriptFault) → draft_at number d (trimmed text) ≡ r
        → ((next : DraftValue) → IsFirstVersion next → lines_at (number + 1) next texts ≡ Ok scene → lines_at (number + 1) (second next) texts ≡ Ok (in_version_2 scene))
        → lines_at number (second d) (text ∷ texts) ≡ Ok (in_version_2 scene)
    by (Err fault) r rest = absurd (cc (rw r at e))
    by (Ok next) r rest =
        let too = draft_too number d next (trimmed text) first r in
        rw too.spells (rest next too.first (rw r at e))

-- the first line, behind its version
pub header_from : ℕ → List Text → Result Header WordFault
header_from version words =
    number_at 1 1024 words >>= λ width. number_at 1 1024 width.1 >>= λ height. number_at 1000000 1000000000 height.1 >>= λ period. end_at period.1 >>= λ _.
    Ok (record { version = version; width = width.0; height = height.0; period = period.0 })

one_header : (words : List Text) → header_at (codes "1" ∷ words) ≡ header_from 1 words
unfolding header_from header_at version_at number_at word_at decimal_of digits_after
one_header words = refl

two_header : (words : List Text) → header_at (codes "2" ∷ words) ≡ header_from 2 words
unfolding header_from header_at version_at number_at word_at decimal_of digits_after
two_header words = refl

-- the header of a first line, with a version of 2
pub record IsHeader (words : List Text) (header : Header) : Type 0 where
  pub version : header.version ≡ 1
  pub too : header_from 2 words ≡ Ok (record header { version = 2 })

header_too : (words : List Text) (header : Header) → header_from 1 words ≡ Ok header → IsHeader words header
unfolding header_from
header_too words header e =
    let w = has_read (number_at 1 1024 words)
    (λ width. number_at 1 1024 width.1 >>= λ height. number_at 1000000 1000000000 height.1 >>= λ period. end_at period.1 >>= λ _.
    Ok (record { version = 1; width = width.0; height = height.0; period = period.0 })) header e in
    let h = has_read (number_at 1 1024 w.value.1)
    (λ height. number_at 1000000 1000000000 height.1 >>= λ period. end_at period.1 >>= λ _. Ok (record { version = 1; width = w.value.0; height = height.0; period = period.0 })) header w.goes in
    let p = has_read (number_at 1000000 1000000000 h.value.1)
    (λ period. end_at period.1 >>= λ _. Ok (record { version = 1; width = w.value.0; height = h.value.0; period = period.0 })) header h.goes in
    let l = has_read (end_at p.value.1) (λ _. Ok (record { version = 1; width = w.value.0; height = h.value.0; period = p.value.0 })) header p.goes in
    let is : record { version = 1; width = w.value.0; height = h.value.0; period = p.value.0 } ≡ header = the_value {E = WordFault} (record { version = 1; width = w.value.0; height = h.value.0; period = p.value.0 }) header l.goes in
    record {
      version = sym (ap (λ (x : Header). x.version) is);
      too = rw (w.read, h.read, p.read, l.read) (ap (λ (x : Header). Ok (record x { version = 2 })) is);
    }

-- a first line
first_words : (words : List Text) → words_at no_lines (codes "scene" ∷ words) ≡ lined line.Scene (header_at words)
unfolding words_at word_at plain_keyword_of form_at
first_words words = refl

first_draft : (number : ℕ) (text : Text) (words : List Text) → words_of text ≡ codes "scene" ∷ words → is_utf8 text ≡ true → draft_at number no_lines text ≡ after_line number no_lines text (lined line.Scene (header_at words))
unfolding draft_at line_at is_skipped
first_draft number text words begins utf8 =
    let skipped : is_skipped (words_of text) ≡ false = ap is_skipped begins in
    rw (skipped, utf8) (ap (λ (w : List Text). after_line number no_lines text (words_at no_lines w)) begins ∙ ap (after_line number no_lines text) (first_words words))

head_too : (number : ℕ) (one two : Text) (rest later : List Text) (scene : SceneValue) → words_of (trimmed one) ≡ codes "scene" ∷ codes "1" ∷ rest → is_utf8 (trimmed one) ≡ true
    → words_of (trimmed two) ≡ codes "scene" ∷ codes "2" ∷ rest → is_utf8 (trimmed two) ≡ true
    → lines_at number no_lines (one ∷ later) ≡ Ok scene → lines_at number no_lines (two ∷ later) ≡ Ok (in_version_2 scene)
unfolding lines_at
head_too number one two rest later scene begins utf8 begins-two utf8-two e = by (header_from 1 rest) refl
  where
    reads : (r : Result Header WordFault) → header_from 1 rest ≡ r → draft_at number no_lines (trimmed one) ≡ after_line number no_lines (trimmed one) (lined line.Scene r)
    reads r is = first_draft number (trimmed one) (codes "1" ∷ rest) begins utf8 ∙ ap (λ (r : Result Header WordFault). after_line number no_lines (trimmed one) (lined line.Scene r)) (one_header rest ∙ is)

    by : (r : Result Header WordFault) → header_from 1 rest ≡ r → lines_at number no_lines (two ∷ later) ≡ Ok (in_version_2 scene)
    by (Err fault) is = absurd (cc (rw (reads (Err fault) is) at e))
    by (Ok header) is =
        let h = header_too rest header is in
        let read-two : draft_at number no_lines (trimmed two) ≡ Ok (draft_after no_lines (line.Scene (record header { version = 2 }))) =
        first_draft number (trimmed two) (codes "2" ∷ rest) begins-two utf8-two
        ∙ ap (λ (r : Result Header WordFault). after_line number no_lines (trimmed two) (lined line.Scene r)) (two_header rest ∙ h.too) in
        rw read-two (lines_too (number + 1) (draft_after no_lines (line.Scene header)) later scene (record { version = h.version; rank = 0; has = refl }) (rw (reads (Ok header) is) at e))

-- lines that are skipped
skip : (number : ℕ) (skipped texts : List Text) → All (λ line. is_skipped (words_of (trimmed line)) ≡ true) skipped → lines_at number no_lines (skipped ++ texts) ≡ lines_at (number + length skipped) no_lines texts
unfolding lines_at draft_at
skip number [] texts skips = ap (λ n. lines_at n no_lines texts) (omega arith)
skip number (line ∷ skipped) texts skips =
    let first = All-head (λ line. is_skipped (words_of (trimmed line)) ≡ true) line skipped skips in
    let rest = skip (number + 1) skipped texts (All-tail (λ line. is_skipped (words_of (trimmed line)) ≡ true) line skipped skips) in
    rw first (rest ∙ ap (λ n. lines_at n no_lines texts) (omega arith))

pub second_too : (one two : Text) (scene : SceneValue) → DifferInVersion one two → script_of one ≡ Ok scene → script_of two ≡ Ok (in_version_2 scene)
unfolding script_of
second_too one two scene differ e =
    let a = differ.first in
    let b = differ.second in
    let number = 1 + length differ.skipped in
    let first : lines_at number no_lines (a.first ∷ differ.later) ≡ Ok scene =
    sym (skip 1 differ.skipped (a.first ∷ differ.later) a.skips) ∙ sym (ap (lines_at 1 no_lines) a.lines) ∙ e in
    ap (lines_at 1 no_lines) b.lines ∙ skip 1 differ.skipped (b.first ∷ differ.later) b.skips
    ∙ head_too number a.first b.first differ.rest differ.later scene a.words a.text b.words b.text first

-- The forms of version 1 are read in version 2 as they are in version 1.
use Rattle.std.proofs.Common.{◌≡◌, ℕ, ◌≤◌, Bool, true, false, not, ◌==◌, ◌&&◌, ◌||◌, List, [], ◌∷◌, ◌++◌, length, Option, Some, None, Result, Ok, Err, refl, ap, subst, arith}
use Rattle.std.proofs.lemmas.Bool.Decides.{nat_tests}
use Rattle.std.specs.Prelude.{if◌then◌else◌, nat_le, codes, take, drop}
use Rattle.std.specs.List.{prefix_len}
use Rattle.std.specs.Str.{bytes_eq}
use Rattle.sf_base.specs.declared.format.Format.{Format}
use Rattle.sf_base.specs.declared.format.Format.TheVariants as format
use Rattle.sf_script_words.specs.Text.{Text}
use Rattle.sf_script_words.specs.Numbers.{decimal_of, in_range}
use Rattle.sf_script_words.specs.Reading.{◌>>=◌, demand, end_at, good, number_at, word_at, wrong}
use Rattle.sf_script_words.specs.declared.fault.Cause.TheVariants.{Twice, Undefined, UnknownWord}
use Rattle.sf_script_words.specs.declared.fault.WordFault.{WordFault}
use Rattle.sf_script_scene.specs.sf_picture.declared.picture.Picture.{Picture}
use Rattle.sf_script_scene.specs.Limits.{most_actors}
use Rattle.sf_script_scene.specs.Scene.{SceneValue, has_actor, has_picture}
use Rattle.sf_script_scene.specs.declared.declarations.Pick.{Pick}
use Rattle.sf_script_scene.specs.declared.step.Step.TheVariants as step
use Rattle.sf_script.specs.Declarations.{format_at, new_actor_at, new_number_at, new_picture_at, versioned_format_at}
use Rattle.sf_script.specs.Draft.{DraftValue}
use Rattle.sf_script.specs.Mentions.{declared_picture_at, declared_queue_at, declared_timeline_at, timeline_of, used_name_at}
use Rattle.sf_script.specs.Order.{order_at, pick_at, pick_from, pick_of, picked_of, picks_at, times_of}
use Rattle.sf_script.specs.Parts.{fences_at, point_of, cut_point, part_at, time_at}
use Rattle.sf_script.specs.Steps.{acquire_at, as_name_at, async_at, attach_at, dequeue_at, detach_at, draw_at, most_at, on_point_at, on_queue_at, queue_at, request_at, return_at, step_at, step_of_return, unnamed}
use Rattle.sf_script.specs.declared.line.Side.{Side}
use Rattle.sf_script.specs.declared.line.StepForm.{StepForm}
use Rattle.sf_script.specs.declared.line.StepForm.TheVariants as form
use Rattle.law_script.specs.Second.{in_version_2}

-- what was read on from equal readings, in equal ways
pub bind_same : {A B : Type 0} (r : Result A WordFault) (f g : A → Result B WordFault) → ((x : A) → f x ≡ g x) → (r >>= f) ≡ (r >>= g)
bind_same (Ok x) f g same = same x
bind_same (Err e) f g same = refl

-- what was read where reading on gave something
pub record HasRead {A B : Type 0} (r : Result A WordFault) (f : A → Result B WordFault) (y : B) : Type 0 where
  pub value : A
  pub read : r ≡ Ok value
  pub goes : f value ≡ Ok y

pub has_read : {A B : Type 0} (r : Result A WordFault) (f : A → Result B WordFault) (y : B) → (r >>= f) ≡ Ok y → HasRead r f y
has_read (Ok x) f y e = record { value = x; read = refl; goes = e }
has_read (Err fault) f y e = absurd (cc (e))

pub reads_on : {A B : Type 0} (r : Result A WordFault) (f : A → Result B WordFault) (x : A) (y : B) → r ≡ Ok x → f x ≡ Ok y → (r >>= f) ≡ Ok y
reads_on r f x y e t = rw e t

-- a draft, in version 2
abbrev pub second : DraftValue → DraftValue
second d = record d { scene = in_version_2 d.scene }

either_way : {X : Type 0} (b : Bool) (one two other : X) → one ≡ two → (if b then one else other) ≡ (if b then two else other)
either_way true one two other e = e
either_way false one two other e = refl

same_points : (scene : SceneValue) (points : List (ℕ × ℕ)) (words : List Text) → fences_at (in_version_2 scene) points words ≡ fences_at scene points words
unfolding fences_at point_of cut_point timeline_of
same_points scene points [] = refl
same_points scene points (word ∷ []) = refl
same_points scene points (word ∷ t ∷ []) = refl
same_points scene points (word ∷ t ∷ v ∷ rest) =
    either_way (bytes_eq word (codes "fence"))
    (point_of scene (length (t ∷ v ∷ rest)) (length (v ∷ rest)) t v >>= λ point. fences_at (in_version_2 scene) (points ++ point ∷ []) rest)
    (point_of scene (length (t ∷ v ∷ rest)) (length (v ∷ rest)) t v >>= λ point. fences_at scene (points ++ point ∷ []) rest)
    (wrong (length (word ∷ t ∷ v ∷ rest)) UnknownWord)
    (bind_same (point_of scene (length (t ∷ v ∷ rest)) (length (v ∷ rest)) t v) (λ point. fences_at (in_version_2 scene) (points ++ point ∷ []) rest) (λ point. fences_at scene (points ++ point ∷ []) rest)
    (λ point. same_points scene (points ++ point ∷ []) rest))

same_queue_step : (d : DraftValue) (words : List Text) → queue_at (second d) words ≡ queue_at d words
unfolding queue_at declared_picture_at
same_queue_step d words =
    bind_same (used_name_at d.names words) _ _ (λ name. bind_same (declared_picture_at d.scene name.1) _ _ (λ picture. bind_same (time_at picture.1) _ _ (λ time. bind_same (part_at time.1) _ _
    (λ part. ap (λ (points : Result (List (ℕ × ℕ)) WordFault). points >>= λ points. Ok (step.Queue name.0 picture.0 time.0 part.0 points)) (same_points d.scene [] part.1)))))

same_return : (d : DraftValue) (of : Side) (words : List Text) → return_at (second d) of words ≡ return_at d of words
unfolding return_at
same_return d of words =
    bind_same (used_name_at d.names words) _ _
    (λ name. ap (λ (points : Result (List (ℕ × ℕ)) WordFault). points >>= λ points. Ok (step_of_return of name.0 points)) (same_points d.scene [] name.1))

pub same_step : (d : DraftValue) (kind : StepForm) (words : List Text) → step_at (second d) kind words ≡ step_at d kind words
unfolding step_at on_queue_at most_at async_at dequeue_at as_name_at request_at draw_at detach_at attach_at acquire_at on_point_at declared_queue_at declared_picture_at declared_timeline_at timeline_of queue_at return_at
same_step d (form.OnQueue kind) words = refl
same_step d (form.Most of) words = refl
same_step d form.Async words = refl
same_step d (form.Dequeue waits) words = refl
same_step d form.Request words = refl
same_step d form.Draw words = refl
same_step d form.Queue words = ap unnamed (same_queue_step d words)
same_step d (form.Return of) words = ap unnamed (same_return d of words)
same_step d (form.Detach of) words = refl
same_step d (form.Attach of) words = refl
same_step d form.Acquire words = refl
same_step d (form.OnPoint kind) words = refl
same_step d form.Tx words = refl
same_step d form.Desire words = refl
same_step d form.Buffer words = refl
same_step d form.Barrier words = refl
same_step d form.Merge words = refl
same_step d form.Apply words = refl
same_step d form.Set words = refl

-- a wider range
in_wider : (low high wider n : ℕ) (o : Option ℕ) → high ≤ wider → in_range low high o ≡ Some n → in_range low wider o ≡ Some n
in_wider low high wider n None h e = e
in_wider low high wider n (Some m) h e = by (nat_le low m && nat_le m high) refl e
  where
    by : (b : Bool) → (nat_le low m && nat_le m high) ≡ b → (if b then Some m else None) ≡ Some n → (if nat_le low m && nat_le m wider then Some m else None) ≡ Some n
    by true met e = let wide : (nat_le low m && nat_le m wider) ≡ true = grind (arith, nat_tests, met, h) in rw wide e
    by false met e = absurd (cc (e))

good_value : (left : ℕ) (o : Option ℕ) (n : ℕ) → good left o ≡ Ok n → o ≡ Some n
good_value left None n e = absurd (cc (e))
good_value left (Some m) n e = cc (e)

number_wider : (low high wider : ℕ) (words : List Text) (read : ℕ × List Text) → high ≤ wider → number_at low high words ≡ Ok read → number_at low wider words ≡ Ok read
unfolding number_at word_at
number_wider low high wider [] read h e = e
number_wider low high wider (word ∷ words) read h e =
    let r = has_read (good (length (word ∷ words)) (in_range low high (decimal_of word))) (λ n. Ok (n, words)) read e in
    let in-range = good_value (length (word ∷ words)) (in_range low high (decimal_of word)) r.value r.read in
    rw (in_wider low high wider r.value (decimal_of word) h in-range) r.goes

-- a new actor's number
pub second_actor : (scene : SceneValue) (words : List Text) (number : ℕ) → scene.version ≡ 1 → new_actor_at scene words ≡ Ok number → new_actor_at (in_version_2 scene) words ≡ Ok number
unfolding new_actor_at
second_actor scene words number one e =
    let r = has_read (new_number_at (has_actor scene.actors) 1 (most_actors scene.version) words) (λ number. end_at number.1 >>= λ _. Ok number.0) number e in
    let n = has_read (number_at 1 (most_actors scene.version) words) (λ number. demand (not (has_actor scene.actors number.0)) (length words) Twice >>= λ _. Ok number) r.value r.read in
    let low : most_actors scene.version ≤ 64 = rw one (omega arith) in
    reads_on (new_number_at (has_actor scene.actors) 1 64 words) (λ number. end_at number.1 >>= λ _. Ok number.0) r.value number
    (reads_on (number_at 1 64 words) (λ number. demand (not (has_actor scene.actors number.0)) (length words) Twice >>= λ _. Ok number) n.value r.value
    (number_wider 1 (most_actors scene.version) 64 words n.value low n.read) n.goes)
    r.goes

-- a picture of version 1 has no word for its format
no_format : (words : List Text) (chosen : Format) → (end_at words >>= λ _. Ok format.Rgba) ≡ Ok chosen → format_at words ≡ Ok chosen
unfolding end_at format_at
no_format [] chosen e = e
no_format (word ∷ words) chosen e = absurd (cc (e))

pub second_picture : (scene : SceneValue) (words : List Text) (picture : Picture) → scene.version ≡ 1 → new_picture_at scene words ≡ Ok picture → new_picture_at (in_version_2 scene) words ≡ Ok picture
unfolding new_picture_at
second_picture scene words picture one e =
    let n = has_read (new_number_at (has_picture scene.pictures) 1 256 words)
    (λ number. number_at 1 512 number.1 >>= λ width. number_at 1 512 width.1 >>= λ height. versioned_format_at scene.version height.1 >>= λ chosen.
    Ok (record { number = number.0; width = width.0; height = height.0; fills = []; format = chosen })) picture e in
    let w = has_read (number_at 1 512 n.value.1)
    (λ width. number_at 1 512 width.1 >>= λ height. versioned_format_at scene.version height.1 >>= λ chosen.
    Ok (record { number = n.value.0; width = width.0; height = height.0; fills = []; format = chosen })) picture n.goes in
    let h = has_read (number_at 1 512 w.value.1)
    (λ height. versioned_format_at scene.version height.1 >>= λ chosen.
    Ok (record { number = n.value.0; width = w.value.0; height = height.0; fills = []; format = chosen })) picture w.goes in
    let c = has_read (versioned_format_at scene.version h.value.1)
    (λ chosen. Ok (record { number = n.value.0; width = w.value.0; height = h.value.0; fills = []; format = chosen })) picture h.goes in
    let first : versioned_format_at 1 h.value.1 ≡ Ok c.value = subst (λ version. versioned_format_at version h.value.1 ≡ Ok c.value) one c.read in
    let in-second : format_at h.value.1 ≡ Ok c.value = no_format h.value.1 c.value first in
    rw n.read (rw w.read (rw h.read (rw in-second c.goes)))

-- the picks of an order
picked_wider : (most wider n : ℕ) (word : Text) → most ≤ wider → picked_of most word ≡ Some n → picked_of wider word ≡ Some n
unfolding picked_of
picked_wider most wider n word h e = by (bytes_eq word (codes "v")) e
  where
    by : (b : Bool) → (if b then Some 0 else in_range 1 most (decimal_of word)) ≡ Some n → (if b then Some 0 else in_range 1 wider (decimal_of word)) ≡ Some n
    by true e = e
    by false e = in_wider 1 most wider n (decimal_of word) h e

pick_wider : (one two : Option ℕ) (times : Option ℕ) (pick : Pick) → ((n : ℕ) → one ≡ Some n → two ≡ Some n) → pick_from one times ≡ Some pick → pick_from two times ≡ Some pick
pick_wider None two times pick same e = absurd (cc (e))
pick_wider (Some n) two times pick same e = rw (same n refl) e

good_pick : (left : ℕ) (o : Option Pick) (pick : Pick) → good left o ≡ Ok pick → o ≡ Some pick
good_pick left None pick e = absurd (cc (e))
good_pick left (Some m) pick e = cc (e)

second_pick : (scene : SceneValue) (left : ℕ) (word : Text) (pick : Pick) → scene.version ≡ 1 → pick_at scene left word ≡ Ok pick → pick_at (in_version_2 scene) left word ≡ Ok pick
unfolding pick_at pick_of
second_pick scene left word pick one e =
    let r = has_read (good left (pick_of (most_actors scene.version) word)) (λ pick. demand (pick.actor == 0 || has_actor scene.actors pick.actor) left Undefined >>= λ _. Ok pick) pick e in
    let p = good_pick left (pick_of (most_actors scene.version) word) r.value r.read in
    let low : most_actors scene.version ≤ 64 = rw one (omega arith) in
    let who = prefix_len (λ b. not (b == 42)) word in
    let wide : pick_of 64 word ≡ Some r.value = pick_wider (picked_of (most_actors scene.version) (take who word)) (picked_of 64 (take who word)) (times_of (drop who word)) r.value
    (λ n. picked_wider (most_actors scene.version) 64 n (take who word) low) p in
    reads_on (good left (pick_of 64 word)) (λ pick. demand (pick.actor == 0 || has_actor scene.actors pick.actor) left Undefined >>= λ _. Ok pick) r.value pick (ap (good left) wide) r.goes

second_picks : (scene : SceneValue) (picks : List Pick) (words : List Text) (all : List Pick) → scene.version ≡ 1 → picks_at scene picks words ≡ Ok all → picks_at (in_version_2 scene) picks words ≡ Ok all
unfolding picks_at
second_picks scene picks [] all one e = e
second_picks scene picks (word ∷ words) all one e =
    let r = has_read (pick_at scene (length (word ∷ words)) word) (λ pick. picks_at scene (picks ++ pick ∷ []) words) all e in
    reads_on (pick_at (in_version_2 scene) (length (word ∷ words)) word) (λ pick. picks_at (in_version_2 scene) (picks ++ pick ∷ []) words) r.value all
    (second_pick scene (length (word ∷ words)) word r.value one r.read)
    (second_picks scene (picks ++ r.value ∷ []) words all one r.goes)

pub second_order : (scene : SceneValue) (words : List Text) (picks : List Pick) → scene.version ≡ 1 → order_at scene words ≡ Ok picks → order_at (in_version_2 scene) words ≡ Ok picks
unfolding order_at word_at
second_order scene [] picks one e = e
second_order scene (word ∷ words) picks one e = second_picks scene [] (word ∷ words) picks one e

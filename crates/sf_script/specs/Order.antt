-- The picks of an `order` line.
use Rattle.std.specs.Prelude.{ℕ, ◌==◌, not, ◌||◌, if◌then◌else◌, List, [], ◌∷◌, ◌++◌, length, take, drop, Option, None, Some, Result, Ok, codes}
use Rattle.std.specs.Str.{bytes_eq}
use Rattle.std.specs.List.{prefix_len}
use Rattle.sf_script_words.specs.Text.{Text}
use Rattle.sf_script_words.specs.Numbers.{decimal_of}
use Rattle.sf_script_words.specs.Reading.{◌>>=◌, demand, good, in_range, word_at}
use Rattle.sf_script_words.specs.declared.fault.Cause.TheVariants.{Undefined}
use Rattle.sf_script_words.specs.declared.fault.WordFault.{WordFault}
use Rattle.sf_script_scene.specs.Limits.{most_actors}
use Rattle.sf_script_scene.specs.Scene.{SceneValue, has_actor}
use Rattle.sf_script_scene.specs.declared.declarations.Pick.{Pick}

-- who is picked, of so many: `v` is the vsync, which is 0, and a number is an actor
unfoldable pub picked_of : ℕ → Text → Option ℕ
picked_of most who = if bytes_eq who (codes "v") then Some 0 else in_range 1 most (decimal_of who)

-- how often: once, or the number behind the `*`
unfoldable pub times_of : Text → Option ℕ
times_of [] = Some 1
times_of (star ∷ times) = in_range 1 256 (decimal_of times)

-- a pick of whom and how often, if both are given
abbrev pub pick_from : Option ℕ → Option ℕ → Option Pick
pick_from (Some actor) (Some times) = Some (record { actor = actor; times = times })
pick_from _ _ = None

-- a pick, with a `*` and a number, or without
unfoldable pub pick_of : ℕ → Text → Option Pick
pick_of most word =
    let who = prefix_len (λ b. not (b == 42)) word in
    pick_from (picked_of most (take who word)) (times_of (drop who word))

-- a pick of the vsync or of a declared actor
unfoldable pub pick_at : SceneValue → ℕ → Text → Result Pick WordFault
pick_at scene left word = do
  pick ← good left (pick_of (most_actors scene.version) word)
  _ ← demand (pick.actor == 0 || has_actor scene.actors pick.actor) left Undefined
  Ok pick

-- the picks so far, and those of the words that are left
unfoldable pub picks_at : SceneValue → List Pick → List Text → Result (List Pick) WordFault
picks_at scene picks [] = Ok picks
picks_at scene picks (word ∷ words) = do
  pick ← pick_at scene (length (word ∷ words)) word
  picks_at scene (picks ++ pick ∷ []) words

-- `order PICK ..`, with one pick or more
unfoldable pub order_at : SceneValue → List Text → Result (List Pick) WordFault
order_at scene words = do
  first ← word_at words
  picks_at scene [] words

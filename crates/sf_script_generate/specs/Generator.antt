-- The scene that a number generates: four producers, each with a queue and a layer of its own, that show picture after
-- picture. What varies is drawn from one sequence, which begins with the number.
use Rattle.std.specs.Prelude.{ℕ, ◌+◌, ◌*◌, ◌/◌, ◌%◌, ◌^◌, zero, suc, List, [], ◌∷◌, ◌++◌, codes, map}
use Rattle.std.specs.List.{range_with_len}
use Rattle.sf_script_generate.specs.Lines.{Text, plain_line, numbered_line, fill_line, glass_line, position_line, pair_line}

-- the next number of the sequence
unfoldable pub next : ℕ → ℕ
next x = (x * 6364136223846793005 + 1442695040888963407) % 2 ^ 64

-- what stands in the sequence from x on after so many draws
unfoldable pub after_draws : ℕ → ℕ → ℕ
after_draws x zero = x
after_draws x (suc n) = after_draws (next x) n

-- the draw behind so many others, from x on: a number below k
abbrev pub draw : ℕ → ℕ → ℕ → ℕ
draw x n k = (after_draws x (n + 1) / 2 ^ 33) % k

-- the display, a timeline, and a queue for each producer
abbrev pub queue_line : ℕ → Text
queue_line q = numbered_line (codes "queue ") q (codes " 32 32")

-- the lines before the pictures: display, timeline and queues
abbrev pub first_lines : List Text
first_lines = plain_line (codes "scene 1 160 120 16666667") ∷ plain_line (codes "timeline 1") ∷ map queue_line (range_with_len 1 4)

-- a picture of one colour under a square of another, whose channels are at most its alpha: nine draws
abbrev pub picture_lines : ℕ → ℕ → List Text
picture_lines x p =
    let alpha = draw x 5 256 in
    numbered_line (codes "picture ") p (codes " 32 32")
    ∷ fill_line (draw x 0 256) (draw x 1 256) (draw x 2 256)
    ∷ glass_line (draw x 3 17) (draw x 4 17) (draw x 6 (alpha + 1)) (draw x 7 (alpha + 1)) (draw x 8 (alpha + 1)) alpha
    ∷ []

-- how a producer begins: five draws
abbrev pub actor_lines : ℕ → ℕ → List Text
actor_lines x a =
    numbered_line (codes "actor ") a []
    ∷ numbered_line (codes "connect ") a []
    ∷ numbered_line (codes "maxdequeued ") a (codes " 2")
    ∷ pair_line (codes "async ") a (codes " ") (draw x 0 2)
    ∷ plain_line (codes "tx 1")
    ∷ numbered_line (codes "set 1 ") a (codes " create buffer 0")
    ∷ position_line a (draw x 1 129) (draw x 2 89)
    ∷ pair_line (codes "set 1 ") a (codes " z ") (draw x 3 5)
    ∷ pair_line (codes "set 1 ") a (codes " alpha ") (draw x 4 256)
    ∷ numbered_line (codes "apply 1 token ") a []
    ∷ []

-- one frame of a producer: three draws
abbrev pub frame_lines : ℕ → ℕ → List Text
frame_lines x a =
    let picture = 1 + draw x 0 8 in
    numbered_line (codes "dequeuewait ") a (codes " as s")
    ∷ plain_line (codes "request s")
    ∷ numbered_line (codes "draw s ") picture []
    ∷ numbered_line (codes "queue s ") picture []
    ∷ numbered_line (codes "acquire ") a (codes " as i")
    ∷ plain_line (codes "tx 1")
    ∷ numbered_line (codes "buffer 1 ") a (codes " i")
    ∷ position_line a (draw x 1 129) (draw x 2 89)
    ∷ numbered_line (codes "apply 1 token ") a []
    ∷ []

-- how many frames each producer shows
abbrev pub frames_of : ℕ → ℕ
frames_of number = 20 + number % 400

-- so many parts, numbered from k on, each of which takes so many draws and stands behind those before it
unfoldable pub parts_from : (ℕ → ℕ → List Text) → ℕ → ℕ → ℕ → ℕ → List Text
parts_from part draws x k zero = []
parts_from part draws x k (suc n) = part x k ++ parts_from part draws (after_draws x draws) (k + 1) n

-- the lines of all pictures
abbrev pub pictures_from : ℕ → List Text
pictures_from x = parts_from picture_lines 9 x 1 8

-- so many frames of a producer
abbrev pub frames_from : ℕ → ℕ → ℕ → List Text
frames_from x a frames = parts_from (λ y k. frame_lines y a) 3 x 0 frames

-- a producer with so many frames
abbrev pub producer_lines : ℕ → ℕ → ℕ → List Text
producer_lines frames x a = actor_lines x a ++ frames_from (after_draws x 5) a frames

-- the lines of all producers, with so many frames each
abbrev pub producers_from : ℕ → ℕ → List Text
producers_from x frames = parts_from (producer_lines frames) (5 + 3 * frames) x 1 4

-- the lines of the scene of a number
unfoldable pub lines_of : ℕ → List Text
lines_of number =
    ((first_lines ++ pictures_from number) ++ producers_from (after_draws number 72) (frames_of number)) ++ plain_line (codes "end") ∷ []

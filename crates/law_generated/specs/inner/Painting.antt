-- A draft behind which a picture may stand.
use Rattle.std.specs.Prelude.{◌≡◌, ℕ, ◌≤◌, true, List, [], map}
use Rattle.sf_script.specs.sf_picture.declared.picture.Picture.{Picture}
use Rattle.sf_script.specs.sf_script_scene.Scene.{fills_so_far, has_queue, last_of}
use Rattle.sf_script.specs.Draft.{DraftValue, may_follow_rank}
use Rattle.sf_script.specs.declared.line.Keyword.TheVariants as key
use Rattle.sf_script_words.specs.Text.{Text}
use Rattle.law_generated.specs.inner.Passes.{Passes}

-- the numbers of pictures
abbrev pub picture_numbers : List Picture → List ℕ
picture_numbers pictures = map (λ p. p.number) pictures

-- what is declared so far, the numbers of pictures, and how many fills the last one has
pub record Painting (d : DraftValue) (numbers : List ℕ) (fills : ℕ) : Type 0 where
  pub version : d.scene.version ≡ 1
  pub queues : (q : ℕ) → 1 ≤ q → q ≤ 4 → has_queue d.scene.queues q ≡ true
  pub pictures : picture_numbers d.scene.pictures ≡ numbers
  pub actors : d.scene.actors ≡ []
  pub filled : fills_so_far (last_of d.scene.pictures) ≡ fills
  pub follows : may_follow_rank d.rank key.Picture ≡ true

-- lines that lead from d to such a draft
pub record Paints (lines : List Text) (d : DraftValue) (numbers : List ℕ) (fills : ℕ) : Type 0 where
  pub after : DraftValue
  pub pass : Passes lines d after
  pub painting : Painting after numbers fills

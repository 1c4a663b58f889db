-- A script of version 1, and the same script with a 2 in its first line.
use Rattle.std.specs.Prelude.{◌≡◌, true, List, ◌∷◌, ◌++◌, All, codes}
use Rattle.std.specs.Str.{is_utf8}
use Rattle.sf_script_words.specs.Text.{Text, lines_of, trimmed, words_of}
use Rattle.sf_script_scene.specs.Scene.{SceneValue}
use Rattle.sf_script.specs.Script.{is_skipped}

-- a script whose first line that is not skipped begins with `scene` and this word; what is left of it, and the lines in front of it and behind it
pub record BeginsWith (version : Text) (script : Text) (skipped rest later : List Text) : Type 0 where
  pub first : Text
  pub lines : lines_of script ≡ skipped ++ first ∷ later
  pub skips : All (λ line. is_skipped (words_of (trimmed line)) ≡ true) skipped
  pub text : is_utf8 (trimmed first) ≡ true
  pub words : words_of (trimmed first) ≡ codes "scene" ∷ version ∷ rest

-- two scripts that are the same but for the version in their first lines, which is 1 in one and 2 in the other
pub record DifferInVersion (one two : Text) : Type 0 where
  pub skipped : List Text
  pub rest : List Text
  pub later : List Text
  pub first : BeginsWith (codes "1") one skipped rest later
  pub second : BeginsWith (codes "2") two skipped rest later

-- the same scene, in version 2
abbrev pub in_version_2 : SceneValue → SceneValue
in_version_2 scene = record scene { version = 2 }

-- What the lines before a line spell, and which lines may follow them.
use Rattle.std.specs.Prelude.{◌≡◌, ℕ, ◌≤◌, ◌==◌, nat_le, nat_lt, not, ◌&&◌, Bool, true, false}
use Rattle.std.specs.Prelude.{List, [], ◌∷◌, ◌++◌, length, position, option_to_list, Option, None, Some}
use Rattle.std.specs.BTreeSet.{BTreeSet, contains}
use Rattle.std.specs.Ordering.{nat_cmp}
use Rattle.std.specs.Str.{bytes_eq}
use Rattle.sf_script_words.specs.Text.{Text}
use Rattle.sf_script_scene.specs.Scene.{SceneValue, bare_scene, fills_so_far, has_layer, last_of, steps_so_far, with_fill, with_step}
use Rattle.sf_script_scene.specs.declared.declarations.Pick.{Pick}
use Rattle.sf_script.specs.declared.line.Keyword.{Keyword}
use Rattle.sf_script.specs.declared.line.Keyword.TheVariants as key
use Rattle.sf_script.specs.declared.line.Line.{Line}
use Rattle.sf_script.specs.declared.line.Line.TheVariants as line

-- what the lines so far spell: their scene, the rank of the last one, and the names of the last actor in the order of their first use
pub record DraftValue : Type 0 where
  pub scene : SceneValue
  pub rank : Option ℕ
  pub names : List Text

-- a set has the layers for which these stacks are declared
abbrev pub TellsLayers : BTreeSet ℕ → List (ℕ × ℕ) → Type 0
TellsLayers layers stacks = (layer : ℕ) → contains nat_cmp layers layer ≡ has_layer stacks layer

-- what a draft keeps: the last actor has at most 32 names, and the layers with a stack stand in a set
pub record IsDraft (scene : SceneValue) (names : List Text) (layers : BTreeSet ℕ) : Type 0 where
  pub few_names : length names ≤ 32
  pub stacked : TellsLayers layers scene.stacks

-- no lines; the numbers of this scene are none that anyone sees, since the first line gives them
abbrev pub no_lines : DraftValue
no_lines = record { scene = bare_scene 1 1 1 1000000; rank = None; names = [] }

-- the place of a form in the order of a script
abbrev pub rank_of_keyword : Keyword → ℕ
rank_of_keyword key.Scene = 0
rank_of_keyword key.Timeline = 1
rank_of_keyword key.Display = 1
rank_of_keyword key.Stack = 1
rank_of_keyword key.Capture = 1
rank_of_keyword key.Hit = 1
rank_of_keyword key.Mirror = 1
rank_of_keyword key.Queue = 2
rank_of_keyword key.Picture = 3
rank_of_keyword key.Fill = 3
rank_of_keyword key.Actor = 4
rank_of_keyword (key.Step _) = 4
rank_of_keyword key.Order = 5
rank_of_keyword key.End = 6

-- the first word is `scene`
abbrev pub is_scene_keyword : Keyword → Bool
is_scene_keyword key.Scene = true
is_scene_keyword _ = false

-- some of these are there
abbrev pub is_any : {X : Type 0} → List X → Bool
is_any [] = false
is_any (x ∷ xs) = true

-- a step stands behind some actor, and a fill behind some picture
abbrev pub is_led : SceneValue → Keyword → Bool
is_led scene (key.Step _) = is_any scene.actors
is_led scene key.Fill = is_any scene.pictures
is_led _ _ = true

-- a line with this first word may follow a line of this rank, or none
abbrev pub may_follow_rank : Option ℕ → Keyword → Bool
may_follow_rank None keyword = is_scene_keyword keyword
may_follow_rank (Some rank) keyword = not (is_scene_keyword keyword) && nat_le rank (rank_of_keyword keyword) && not (rank == 6)

-- a line with this first word may follow
abbrev pub may_follow : DraftValue → Keyword → Bool
may_follow d keyword = may_follow_rank d.rank keyword && is_led d.scene keyword

-- the last line is `end`
abbrev pub is_ended : Option ℕ → Bool
is_ended (Some rank) = rank == 6
is_ended None = false

-- there is room for one more step, fill or mirror, if this is one
abbrev pub has_room : SceneValue → Keyword → Bool
has_room scene (key.Step _) = nat_lt (steps_so_far (last_of scene.actors)) 4096
has_room scene key.Fill = nat_lt (fills_so_far (last_of scene.pictures)) 1024
has_room scene key.Mirror = nat_lt (length scene.mirrors) 8
has_room _ _ = true

-- a form is one of version 2, or both versions have it
abbrev pub is_of : Bool → Keyword → Bool
is_of is_second key.Display = is_second
is_of is_second key.Stack = is_second
is_of is_second key.Capture = is_second
is_of is_second key.Hit = is_second
is_of is_second key.Mirror = is_second
is_of _ _ = true

-- the place of a name among these, from 0, if it is there
abbrev pub place_of : Text → List Text → Option ℕ
place_of name names = position (λ n. bytes_eq n name) names

-- the place of a line in the order of a script
abbrev pub rank_of_line : Line → ℕ
rank_of_line (line.Scene _) = 0
rank_of_line (line.Timeline _) = 1
rank_of_line (line.Display _) = 1
rank_of_line (line.Stack _ _) = 1
rank_of_line (line.Capture _) = 1
rank_of_line (line.Hit _) = 1
rank_of_line (line.Mirror _ _) = 1
rank_of_line (line.Queue _) = 2
rank_of_line (line.Picture _) = 3
rank_of_line (line.Fill _) = 3
rank_of_line (line.Actor _) = 4
rank_of_line (line.Step _) = 4
rank_of_line (line.Order _) = 5
rank_of_line line.End = 6

-- the names of the last actor after one more line
abbrev pub names_after : List Text → Line → List Text
names_after names (line.Actor _) = []
names_after names (line.Step s) = names ++ option_to_list s.new_name
names_after names _ = names

-- the scene after one more line
abbrev pub scene_after : SceneValue → Line → SceneValue
scene_after s (line.Scene h) = bare_scene h.version h.width h.height h.period
scene_after s (line.Timeline timeline) = record s { timelines = s.timelines ++ timeline ∷ [] }
scene_after s (line.Display display) = record s { displays = s.displays ++ display ∷ [] }
scene_after s (line.Stack layer stack) = record s { stacks = s.stacks ++ (layer, stack) ∷ [] }
scene_after s (line.Capture capture) = record s { captures = s.captures ++ capture ∷ [] }
scene_after s (line.Hit hit) = record s { hits = s.hits ++ hit ∷ [] }
scene_after s (line.Mirror layer mirrored) = record s { mirrors = s.mirrors ++ (layer, mirrored) ∷ [] }
scene_after s (line.Queue queue) = record s { queues = s.queues ++ queue ∷ [] }
scene_after s (line.Picture picture) = record s { pictures = s.pictures ++ picture ∷ [] }
scene_after s (line.Fill fill) = record s { pictures = with_fill s.pictures fill }
scene_after s (line.Actor number) = record s { actors = s.actors ++ record { number = number; steps = [] } ∷ [] }
scene_after s (line.Step named) = record s { actors = with_step s.actors named.step }
scene_after s (line.Order picks) = record s { order = s.order ++ picks }
scene_after s line.End = s

-- what is spelled after one more line
abbrev pub draft_after : DraftValue → Line → DraftValue
draft_after d l = record { scene = scene_after d.scene l; rank = Some (rank_of_line l); names = names_after d.names l }

-- the picks of a line
abbrev pub picks_of : Line → List Pick
picks_of (line.Order picks) = picks
picks_of _ = []

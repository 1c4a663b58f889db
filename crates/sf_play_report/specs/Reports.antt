-- What a vsync did.
use Rattle.std.specs.Prelude.{Bool, true, false, List, []}
use Rattle.law_played.specs.sf_commit.declared.vsync.Commit.{Commit}

-- something was committed, or rejected as a whole
abbrev pub has_commits : List Commit → Bool
has_commits [] = false
has_commits commits = true

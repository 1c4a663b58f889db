-- What goes back to a queue.
use Rattle.std.specs.Prelude.{ℕ, List}
use Rattle.sf_base.specs.Fences.{Fence}
use Rattle.sf_base.specs.declared.ids.QueueId.{QueueId}
use Rattle.sf_commit_next.specs.sf_ready.declared.hold.Hold.{Hold}
use Rattle.sf_view.specs.Views.{ViewOf}
use Rattle.sf_commit.specs.declared.vsync.Commit.{Commit}

-- a frame of a queue that no layer shows any more, with the fence that its next user has to wait for, and its lease
pub record ReleaseOf (L : Type 0) : Type 0 where
  pub queue : QueueId
  pub frame : ℕ
  pub fence : Fence
  pub lease : L

-- what a vsync reports
pub record CommittedOf (L : Type 0) : Type 0 where
  pub commits : List Commit
  pub releases : List (ReleaseOf L)
  pub held : List (ℕ × Hold)

-- what a vsync reports that is asked for its view
pub record VsyncOf (L : Type 0) : Type 0 where
  pub commits : List Commit
  pub view : ViewOf
  pub sources : List ℕ
  pub releases : List (ReleaseOf L)
  pub held : List (ℕ × Hold)

-- the same without the view
abbrev pub committed_in : {L : Type 0} → VsyncOf L → CommittedOf L
committed_in told = record { commits = told.commits; releases = told.releases; held = told.held }

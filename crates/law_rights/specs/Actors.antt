-- The actors of a run over their desk, as far as its ledger needs them.
use Rattle.std.specs.Prelude.{ℕ, List, All}
use Rattle.sf_actor_set.specs.sf_calls.Histories.{IsLegal}
use Rattle.sf_actor_set.specs.sf_picture.declared.picture.Picture.{Picture}
use Rattle.sf_actor_set.specs.sf_surface.Histories.{Answers}
use Rattle.sf_actor_set.specs.sf_actor.Desks.{DeskHome, DeskView, mark_among}
use Rattle.sf_actor_set.specs.sf_actor.Tries.{ActorOf, Keeps}
use Rattle.law_played.specs.Actors.{IsCallBy}
use Rattle.law_rights.specs.States.{AreApart}

-- Each actor keeps what it keeps; each reply is what the calls before it say; and each call is an actor's, or a release by the compositor.
pub record AreOver {B : Type 0} (pictures : ℕ → Picture) (home : DeskHome) (view : DeskView B) (ofs : List (ActorOf B)) : Type 0 where
  pub keep : All (λ (of : ActorOf B). Keeps pictures home of view) ofs
  pub apart : AreApart home.marks
  pub legal : (queue : ℕ) → IsLegal (Answers (mark_among home.marks queue)) (view.calls queue)
  pub callers : (queue : ℕ) → All (IsCallBy ofs) (view.calls queue)

-- What a compositor's vsync does, over actors of a play or over seats among threads.
use Rattle.std.specs.Prelude.{◌≡◌, ℕ, List, [], ◌∷◌, All}
use Rattle.sf_base.specs.declared.fences.Seen.{Seen}
use Rattle.sf_play_report.specs.declared.report.VsyncReport.{VsyncReport}
use Rattle.sf_play_report.specs.sf_commit.Handlers.{HandlerOf}
use Rattle.sf_play_report.specs.sf_commit.Releases.{CommittedOf, ReleaseOf}
use Rattle.sf_play_report.specs.sf_surface.Tokens.{ReadLeaseOf}
use Rattle.sf_play_report.specs.sf_turns.Views.{SeatView}
use Rattle.sf_play_report.specs.sf_txn.declared.lease.Lease.{Ghosts as LeaseIn}
use Rattle.sf_play.specs.Deciding.{DecidesBy, NextRises}
use Rattle.sf_play.specs.declared.desk.CompositorDesk.{Ghosts as DeskIn}
use Rattle.sf_play.specs.declared.outcome.VsyncOutcome.{VsyncOutcome}

-- one thing after the other is done to a state
abbrev pub InTurn : {A S : Type 0} → (A → S → S → Type 0) → List A → S → S → Type 0
InTurn does [] old new = new ≡ old
InTurn {S = S} does (one ∷ later) old new = (mid : S) × does one old mid × InTurn does later mid new

-- the report of a vsync of this number, with the time at which its frame was expected, what it saw, and what it committed
abbrev pub reported : ℕ → ℕ → Seen → CommittedOf ReadLeaseOf → VsyncReport
reported number expected seen told = record { number = number; expected = expected; seen = seen; commits = told.commits }

module _ {S W B : Type 0} (desk : DeskIn S W B (ReleaseOf ReadLeaseOf)) (with : W) where
  -- what is taken next, after a look at the timelines, rises above all that the handler took before
  abbrev pub TakesRising : S → HandlerOf ReadLeaseOf → Type 0
  TakesRising old handler = (looked : S) (seen : Seen) → desk.sees with old seen looked → NextRises (desk.takes with) looked handler

  module _ {R C : Type 0} (lease : LeaseIn ReadLeaseOf SeatView R C) (expected : ℕ) where
    -- a compositor has looked at the timelines, taken what arrived, and decided
    pub record Decided (old : S) (before : HandlerOf ReadLeaseOf) (seen : Seen) (told : CommittedOf ReadLeaseOf) (after : HandlerOf ReadLeaseOf) (new : S) : Type 0 where
      pub looked : S
      pub sees : desk.sees with old seen looked
      pub by : DecidesBy (desk.takes with) desk.eye desk.decides lease expected looked before seen told after new

    -- each frame that a decision lets go may go back
    abbrev pub MayGiveAll : S → HandlerOf ReadLeaseOf → Type 0
    MayGiveAll old before =
        (seen : Seen) (told : CommittedOf ReadLeaseOf) (after : HandlerOf ReadLeaseOf) (new : S) → Decided old before seen told after new
        → All (desk.may_give new) told.releases

    -- A vsync of this number was made: the compositor has decided, and the frames that go went back, one after the other.
    pub record MakesOver (number : ℕ) (old : S) (before : HandlerOf ReadLeaseOf) (made : VsyncOutcome) (after : HandlerOf ReadLeaseOf) (new : S) : Type 0 where
      pub told : CommittedOf ReadLeaseOf
      pub mid : S
      pub decided : Decided old before made.report.seen told after mid
      pub gives : InTurn (desk.gives with number) told.releases mid new
      pub report : made.report ≡ reported number expected made.report.seen told
      pub held : made.held ≡ told.held

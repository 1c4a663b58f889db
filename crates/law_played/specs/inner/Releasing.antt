-- The frames that the compositor releases, as calls on a desk and as they are reported.
use Rattle.std.specs.Prelude.{◌≡◌, ℕ, List, [], ◌∷◌, map}
use Rattle.sf_commit.specs.OnLayers.{OnLayer}
use Rattle.sf_actor.specs.sf_surface.Tokens.{ReadLeaseOf}
use Rattle.sf_actor.specs.sf_surface.declared.call.QCall.TheVariants as call
use Rattle.sf_actor.specs.sf_surface.declared.call.QReply.{QReply}
use Rattle.sf_actor.specs.Desks.{DeskHome, DeskView, MadeCall}
use Rattle.sf_actor.specs.Known.{frame_of}
use Rattle.law_played.specs.Framing.{framed_on}
use Rattle.law_played.specs.Histories.{Released}

-- the frames that a vsync releases, as they are reported
abbrev pub released_with : ℕ → List (OnLayer ReadLeaseOf) → List Released
released_with vsync gone = map (λ (one : OnLayer ReadLeaseOf). record { vsync = vsync; on = framed_on frame_of one }) gone

module _ {B : Type 0} where
  -- the compositor, who is 0, releases them at the vsync, one after another
  abbrev pub ReleaseAll : DeskHome → DeskView B → List (OnLayer ReadLeaseOf) → ℕ → DeskView B → Type 0
  ReleaseAll home before [] vsync after = after ≡ before
  ReleaseAll home before (one ∷ gone) vsync after =
      (mid : DeskView B) × (reply : QReply B) × MadeCall home before mid 0 one.lease.queue.0 (vsync, call.Release one.lease one.fence) reply
      × ReleaseAll home mid gone vsync after

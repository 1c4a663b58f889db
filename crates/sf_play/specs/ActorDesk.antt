-- What the calls of a compositor do to the actors of a play. Each changes their desk alone.
use Rattle.std.specs.Prelude.{◌≡◌, ℕ, List, true}
use Rattle.atomic_table.specs.Seated.{TableId}
use Rattle.sf_base.specs.declared.fences.Seen.{Seen}
use Rattle.sf_play_report.specs.sf_commit.Releases.{ReleaseOf}
use Rattle.sf_play_report.specs.sf_surface.Tokens.{ReadLeaseOf}
use Rattle.sf_play_report.specs.sf_token.Pending.{Arrival}
use Rattle.sf_play_report.specs.sf_actor.Desks.{has_queue}
use Rattle.sf_play_report.specs.sf_actor.Plain.{home_of, taken_in, view_of}
use Rattle.sf_play_report.specs.sf_actor.Tries.{Sees}
use Rattle.law_rights.specs.sf_actor_set.ActorSets.{ActorSetOf}
use Rattle.law_rights.specs.sf_actor_set.Compositing.{OnlyDesk, Takes}
use Rattle.law_rights.specs.Standing.{GivesOne}

module _ {B : Type 0} where
  -- the desk has the queue that a frame goes back to
  abbrev pub HasItsQueue : ActorSetOf B → ReleaseOf ReadLeaseOf → Type 0
  HasItsQueue actor_set release = has_queue (home_of actor_set.desk) release.queue.0 ≡ true

  module _ (table : TableId) where
    -- a look at the timelines
    pub record Looks (old : ActorSetOf B) (seen : Seen) (new : ActorSetOf B) : Type 0 where
      pub sees : Sees (home_of old.desk) (view_of old.desk) (view_of new.desk) seen
      pub times : new.desk ≡ record old.desk { times = new.desk.times }
      pub only : OnlyDesk table (taken_in old.desk.arrivals) old new

    -- what arrived is taken
    pub record TakesIn (old : ActorSetOf B) (arrived : List (Arrival ReadLeaseOf)) (new : ActorSetOf B) : Type 0 where
      pub takes : Takes old.desk.arrivals new.desk.arrivals arrived
      pub arrivals : new.desk ≡ record old.desk { arrivals = new.desk.arrivals }
      pub only : OnlyDesk table (taken_in new.desk.arrivals) old new

    -- the compositor decides
    pub record Observes (old new : ActorSetOf B) : Type 0 where
      pub turns : new.desk ≡ record old.desk { turns = new.desk.turns }
      pub only : OnlyDesk table (taken_in old.desk.arrivals) old new

    -- a frame goes back
    pub record GivesBack (number : ℕ) (release : ReleaseOf ReadLeaseOf) (old new : ActorSetOf B) : Type 0 where
      pub gives : GivesOne (home_of old.desk) number release (view_of old.desk) (view_of new.desk)
      pub only : OnlyDesk table (taken_in old.desk.arrivals) old new

-- What a vsync does to a play.
use Rattle.std.specs.Prelude.{◌≡◌, ◌+◌, ◌*◌, List}
use Rattle.atomic_table.specs.Seated.{TableId}
use Rattle.sf_base.specs.declared.fences.Seen.{Seen}
use Rattle.sf_play_report.specs.sf_commit.Handlers.{Decides}
use Rattle.sf_play_report.specs.sf_commit.Releases.{CommittedOf}
use Rattle.sf_play_report.specs.sf_surface.Tokens.{ReadLeaseOf}
use Rattle.sf_play_report.specs.sf_token.Pending.{Arrival}
use Rattle.sf_play_report.specs.sf_turns.Views.{SeatView}
use Rattle.sf_play_report.specs.sf_txn.declared.lease.Lease.{Ghosts}
use Rattle.sf_play_report.specs.sf_actor.Plain.{home_of, taken_in, view_of}
use Rattle.sf_play_report.specs.sf_actor.Tries.{Sees}
use Rattle.law_rights.specs.sf_actor_set.ActorSets.{ActorSetOf}
use Rattle.law_rights.specs.sf_actor_set.Compositing.{OnlyDesk, Takes}
use Rattle.law_rights.specs.Standing.{GiveAll}
use Rattle.sf_play.specs.Players.{PlayOf}

-- It looks at the timelines, takes what arrived, decides, and gives back the frames that go. Each part changes the desk alone.
module _ {B : Type 0} {R C : Type 0} (lease : Ghosts ReadLeaseOf SeatView R C) where
  pub record MakesVsync (table : TableId) (old : PlayOf B) (seen : Seen) (told : CommittedOf ReadLeaseOf) (new : PlayOf B) : Type 0 where
    pub looked : ActorSetOf B
    pub sees : Sees (home_of old.actor_set.desk) (view_of old.actor_set.desk) (view_of looked.desk) seen
    pub times : looked.desk ≡ record old.actor_set.desk { times = looked.desk.times }
    pub only_looks : OnlyDesk table (taken_in old.actor_set.desk.arrivals) old.actor_set looked
    pub took : ActorSetOf B
    pub arrived : List (Arrival ReadLeaseOf)
    pub takes : Takes looked.desk.arrivals took.desk.arrivals arrived
    pub arrivals : took.desk ≡ record looked.desk { arrivals = took.desk.arrivals }
    pub only_takes : OnlyDesk table (taken_in took.desk.arrivals) looked took
    pub decided : ActorSetOf B
    pub decides : Decides lease old.handler took.desk.turns arrived seen ((old.vsyncs + 1) * old.period) told new.handler decided.desk.turns
    pub turns : decided.desk ≡ record took.desk { turns = decided.desk.turns }
    pub only_decides : OnlyDesk table (taken_in took.desk.arrivals) took decided
    pub gives : GiveAll (home_of decided.desk) (old.vsyncs + 1) told.releases (view_of decided.desk) (view_of new.actor_set.desk)
    pub only_gives : OnlyDesk table (taken_in decided.desk.arrivals) decided new.actor_set
    pub rest : new ≡ record old { actor_set = new.actor_set; handler = new.handler; vsyncs = old.vsyncs + 1 }

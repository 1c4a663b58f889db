-- One caller's desk among threads: its seats, over locks that all share.
use Rattle.std.specs.Prelude.{◌≡◌, map}
use Rattle.sf_actor.specs.sf_surface.declared.mark.QueueMark.{QueueMark}
use Rattle.sf_actor.specs.Desks.{DeskHome, DeskView}
use Rattle.sf_live_seats.specs.declared.locks.Locks.{Locks}
use Rattle.sf_live_seats.specs.declared.seats.Seats.{Seats}
use Rattle.sf_live_seats.specs.Seats as seated

pub record SharedOf (B : Type 0) : Type 0 where
  pub locks : Locks B
  pub seats : Seats B

module _ {B : Type 0} where
  abbrev pub home_of : SharedOf B → DeskHome
  home_of desk = seated.home_of desk.locks desk.seats

  abbrev pub view_of : SharedOf B → DeskView B
  view_of desk = seated.view_of desk.seats

  -- the home of a desk over these locks
  pub record IsHome (locks : Locks B) (home : DeskHome) : Type 0 where
    pub marks : home.marks ≡ seated.marks_of locks
    pub intake : home.intake ≡ locks.intake
    pub tables : home.tables ≡ seated.tables_of locks
    pub numbered : seated.numbers_of locks ≡ map (λ (mark : QueueMark). mark.queue) (seated.marks_of locks)

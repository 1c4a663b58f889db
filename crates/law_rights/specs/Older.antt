-- What makers determine of the turns at buffers.
use Rattle.std.specs.Prelude.{◌≡◌, ◌<◌, true, List, Contains, Some}
use Rattle.sf_actor_set.specs.sf_actor.declared.holding.Holding.{Holding}
use Rattle.sf_actor_set.specs.sf_actor.Makers.{BufferOf, Maker, buffer_in, is_before, same_maker}
use Rattle.sf_actor_set.specs.sf_actor.Names.{is_owing}
use Rattle.sf_actor_set.specs.sf_actor.Holdings.{token_of, turn_held}
use Rattle.sf_actor_set.specs.sf_actor.Tries.{ActorOf}
use Rattle.law_played.specs.Turns.{owed_frame}
use Rattle.law_rights.specs.Owed.{MayDraw}

module _ {B : Type 0} where
  -- a name of one of the actors holds this
  pub record IsHeld (ofs : List (ActorOf B)) (held : Holding B) : Type 0 where
    pub of : ActorOf B
    pub there : Contains ofs of
    pub named : Contains of.parts.names (Some held)

  -- an owed draw and what may be drawn at the same pixels are in a buffer of one maker, and the age and frame of owed draws rise with their turns
  pub record MakersTell (maker : BufferOf → Maker) (ofs : List (ActorOf B)) : Type 0 where
    pub same : (one other : Holding B) → IsHeld ofs one → IsHeld ofs other
        → is_owing (Some (token_of one)) ≡ true → MayDraw other → (turn_held one).0 ≡ (turn_held other).0
        → same_maker (maker (buffer_in (token_of one))) (maker (buffer_in (token_of other))) ≡ true
    pub order : (one other : Holding B) → IsHeld ofs one → IsHeld ofs other → is_owing (Some (token_of one)) ≡ true → is_owing (Some (token_of other)) ≡ true
        → (turn_held one).0 ≡ (turn_held other).0
        → (turn_held one).1 < (turn_held other).1
        → is_before (maker (buffer_in (token_of one))).age (owed_frame (token_of one)) (maker (buffer_in (token_of other))).age (owed_frame (token_of other)) ≡ true

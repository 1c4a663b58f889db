-- The record of arrivals shows what arrived; which transactions arrive is said with the traces that send them.
use Rattle.std.specs.Prelude.{◌≡◌, ℕ, true, List, length, map}
use Rattle.std.specs.List.{All, range_with_len}
use Rattle.sf_commit.specs.sf_token.Pending.{Arrival}
use Rattle.sf_script_scene.specs.Scene.{SceneValue, has_actor}
use Rattle.sf_actor.specs.Names.{FrameOf}
use Rattle.sf_record.specs.declared.record.ArrivalEntry.{ArrivalEntry}

-- the number of an arrival
abbrev pub number_of : Arrival FrameOf → ℕ
number_of arrived = arrived.number

-- what the record of arrivals shows of one
abbrev pub entry_of : Arrival FrameOf → ArrivalEntry
entry_of arrived = record { actor = arrived.actor.0; step = arrived.step; token = arrived.txn.token.0 }

-- Arrivals. They are numbered from 1 on in their order, each is shown with its actor, its step and its token, and nobody
-- but an actor of the scene has one.
pub record ArriveInOrder (scene : SceneValue) (arrivals : List (Arrival FrameOf)) (arrived : List ArrivalEntry) : Type 0 where
  pub numbered : map number_of arrivals ≡ range_with_len 1 (length arrivals)
  pub shown : arrived ≡ map entry_of arrivals
  pub of_none_else : All (λ entry. has_actor scene.actors entry.actor ≡ true) arrived

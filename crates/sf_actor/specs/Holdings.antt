-- What an actor has: what its names and transaction numbers hold, with the rights, and the buffers that it may still open.
use Rattle.std.specs.Prelude.{◌≡◌, ℕ, List, map, Option, Some, None}
use Rattle.std.specs.Option.{option_map}
use Rattle.sf_base.specs.declared.ids.QueueId.{QueueId}
use Rattle.sf_script_scene.specs.sf_picture.declared.picture.Picture.{Picture}
use Rattle.sf_surface.specs.declared.work.Work.{Work}
use Rattle.sf_surface.specs.declared.work.Work.TheVariants as work
use Rattle.sf_surface.specs.Calls.{write_token}
use Rattle.sf_surface.specs.Tokens.{ReadLeaseOf, turn_of}
use Rattle.sf_token.specs.sf_txn.Transactions.{Contents}
use Rattle.sf_actor.specs.declared.holding.Holding.{Holding}
use Rattle.sf_actor.specs.declared.holding.Holding.TheVariants as holding
use Rattle.sf_actor.specs.Known.{frame_of, plain_txn}
use Rattle.sf_actor.specs.Names.{Apart, Frame, Holdings, Lent, Owing, Token}
use Rattle.sf_actor.specs.Rights.{Turn, issued_turn, turn_by}

-- by names and transaction numbers; the stock with the permit that a call handed back
pub record HoldingsOf (B : Type 0) : Type 0 where
  pub names : List (Option (Holding B))
  pub transactions : List (Option (Contents ReadLeaseOf))
  pub stock : List ℕ

-- the number of the picture that was drawn
abbrev pub drawn_picture : Work → Option ℕ
drawn_picture (work.Fresh turn) = None
drawn_picture (work.Drawn inside pixels) = Some pixels.number

module _ {B : Type 0} where
  -- what a name holds, without its right
  abbrev pub token_of : Holding B → Token
  token_of (holding.Lends lease) = Lent lease.queue (write_token lease.queue lease) (drawn_picture lease.work)
  token_of (holding.Owes owing held) = Owing owing.queue (record { slot = owing.slot; frame = owing.frame; fence = owing.fence; held = held; picture = owing.turn.promises.number })
  token_of (holding.Reads lease) = Frame lease.queue (frame_of lease).1
  token_of (holding.Frees queue loose) = Apart queue loose.held

  -- what names and transaction numbers hold, as a trace says
  abbrev pub plain_of : HoldingsOf B → Holdings
  plain_of parts = record { names = map (option_map token_of) parts.names; transactions = map (option_map plain_txn) parts.transactions }

  -- the turn that a name holds
  abbrev pub turn_held : Holding B → Turn
  turn_held (holding.Lends lease) = turn_by (turn_of lease.work)
  turn_held (holding.Owes owing held) = issued_turn owing.turn
  turn_held (holding.Reads lease) = turn_by lease.turn
  turn_held (holding.Frees queue loose) = turn_by loose.turn

  -- the queue of what a name holds: for a buffer in no queue, the one in which it was last
  abbrev pub queue_held : Holding B → QueueId
  queue_held (holding.Lends lease) = lease.queue
  queue_held (holding.Owes owing held) = owing.queue
  queue_held (holding.Reads lease) = lease.queue
  queue_held (holding.Frees queue loose) = queue

  -- what was drawn or promised is the scene's picture of its number
  abbrev pub ShowsPictures : (ℕ → Picture) → Holding B → Type 0
  ShowsPictures pictures (holding.Lends lease) = IsDrawnWith pictures lease.work
    where
      IsDrawnWith : (ℕ → Picture) → Work → Type 0
      IsDrawnWith pictures (work.Fresh turn) = Unit {0}
      IsDrawnWith pictures (work.Drawn inside pixels) = pixels ≡ pictures pixels.number
  ShowsPictures pictures (holding.Owes owing held) = owing.turn.promises ≡ pictures owing.turn.promises.number
  ShowsPictures pictures (holding.Reads lease) = Unit {0}
  ShowsPictures pictures (holding.Frees queue loose) = Unit {0}

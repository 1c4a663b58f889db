-- What a handler keeps over leases, said of plain frames: each lease stands for its frame, and where its pixels are lent is
-- not said.
use Rattle.std.specs.Prelude.{◌≡◌, map, None}
use Rattle.sf_commit.specs.sf_ready.Facts.{TellsSame}
use Rattle.sf_commit.specs.sf_token.Pending.{Arrival}
use Rattle.sf_commit.specs.sf_txn.Buffers.{Buffer}
use Rattle.sf_commit.specs.sf_txn.Transactions.{Contents}
use Rattle.sf_commit.specs.Handlers.{HandlerOf}
use Rattle.sf_commit.specs.OnLayers.{OnLayer, shown_on}
use Rattle.sf_commit.specs.Rounds.{Round, StageOf}

module _ {L M : Type 0} (frame : L → M) where
  abbrev pub framed_buffer : Buffer L → Buffer M
  framed_buffer buffer = record { layer = buffer.layer; shown = buffer.shown; fence = buffer.fence; lease = frame buffer.lease }

  abbrev pub framed_txn : Contents L → Contents M
  framed_txn txn = record { token = txn.token; desired = txn.desired; ops = txn.ops; buffers = map framed_buffer txn.buffers; barriers = txn.barriers }

  abbrev pub framed_arrival : Arrival L → Arrival M
  framed_arrival arrived = record { number = arrived.number; actor = arrived.actor; step = arrived.step; txn = framed_txn arrived.txn }

  abbrev pub framed_on : OnLayer L → OnLayer M
  framed_on on = record { layer = on.layer; shown = on.shown; fence = on.fence; lease = frame on.lease; is_read = on.is_read; place = None }

  abbrev pub framed_stage : StageOf L → StageOf M
  framed_stage stage = record { tree = stage.tree; on = map framed_on stage.on; commits = stage.commits; gone = map framed_on stage.gone }

  -- a round of plain frames is a round over leases: it made the same, the same barriers are met, and the same layers got a
  -- buffer. What is pending is not said.
  pub record IsRoundOf (round : Round M) (r : Round L) : Type 0 where
    pub stage : round.stage ≡ framed_stage r.stage
    pub frames : TellsSame round.frames r.frames
    pub fresh : round.fresh ≡ r.fresh

  -- between two vsyncs it has the handler's layers and the buffers on them, all of which are read, and the same barriers are met
  pub record IsKeptBy (round : Round M) (handler : HandlerOf L) : Type 0 where
    pub tree : round.stage.tree ≡ handler.tree
    pub on : round.stage.on ≡ map framed_on handler.on
    pub read : map shown_on round.stage.on ≡ round.stage.on
    pub frames : TellsSame round.frames handler.frames

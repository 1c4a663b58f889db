-- What the records of a run show of the actors over a desk: replies, arrivals and histories.
use Rattle.std.specs.Prelude.{◌≡◌, ℕ, List, All, Contains, length, map}
use Rattle.std.specs.List.{AllZip, range_with_len}
use Rattle.sf_actor.specs.sf_surface.declared.entry.HistEntry.{HistEntry}
use Rattle.sf_actor.specs.sf_surface.Tokens.{ReadLeaseOf}
use Rattle.sf_commit.specs.sf_token.Pending.{Arrival}
use Rattle.sf_commit.specs.sf_token.declared.arrivals.ArrvEntry.{ArrvEntry}
use Rattle.sf_script_scene.specs.Scene.{SceneValue}
use Rattle.sf_script_scene.specs.declared.declarations.QueueDecl.{QueueDecl}
use Rattle.sf_actor.specs.Desks.{DeskHome, DeskView}
use Rattle.sf_actor.specs.Known.{AreAmong}
use Rattle.sf_actor.specs.Tries.{ActorOf}
use Rattle.sf_record.specs.declared.event.Event.{Event}
use Rattle.sf_record.specs.declared.record.ArrivalEntry.{ArrivalEntry}
use Rattle.sf_record.specs.declared.record.HistoryEntry.{HistoryEntry}
use Rattle.law_played.specs.Actors.{AreActors, AreArrivals, IsCallBy, arrivals_of, number_of, run_of}
use Rattle.law_played.specs.Arrivals.{entry_of}
use Rattle.law_played.specs.Histories.{IsReleased, Released, history_shown, released_in, released_on, rising_queues}
use Rattle.law_played.specs.Played.{Shows, vsyncs_told}
use Rattle.law_played.specs.Replies.{replies_in, replies_to, reply_shown}
use Rattle.law_played.specs.Runs.{calls_of, signals_in}

-- an entry of a queue's history, and one of the arrivals, as records show them
abbrev pub call_recorded : HistEntry → HistoryEntry
call_recorded entry = record { caller = entry.caller; step = entry.step; kind = entry.kind; status = entry.status; slot = entry.slot; frame = entry.frame }

abbrev pub arrival_recorded : ArrvEntry → ArrivalEntry
arrival_recorded entry = record { actor = entry.actor.0; step = entry.step; token = entry.token.0 }

-- the number of a transaction that arrived
abbrev pub place_of : Arrival ReadLeaseOf → ℕ
place_of arrived = arrived.number

-- arrivals are numbered from 1 on
abbrev pub AreNumbered : List (Arrival ReadLeaseOf) → Type 0
AreNumbered arrivals = map place_of arrivals ≡ range_with_len 1 (length arrivals)

module _ {B : Type 0} where
  -- the replies among events are those of the actors, to each all of its own in order
  pub record TellReplies (ofs : List (ActorOf B)) (events : List Event) : Type 0 where
    pub of_each : All (λ of. replies_to of.script.number events ≡ map reply_shown of.replies) ofs
    pub of_none_else : All (λ reply. Contains (map number_of ofs) reply.actor) (replies_in events)

  -- the calls of the compositor, who is 0, are the releases of frames by vsyncs
  abbrev pub AreReleases : SceneValue → List (ActorOf B) → DeskHome → DeskView B → List Released → Type 0
  AreReleases scene ofs home view released =
      All (λ (queue : QueueDecl). AllZip IsReleased (released_on queue.number released) (calls_of 0 ((run_of ofs home view).calls queue.number))) scene.queues

  -- What stays true of actors over a desk while they step and the compositor releases frames: they keep what they keep, each
  -- signal is a step's, the calls and the arrivals are theirs, and so are the replies; and the compositor released these frames.
  pub record TellRun (scene : SceneValue) (ofs : List (ActorOf B)) (home : DeskHome) (view : DeskView B) (events : List Event) (released : List Released) : Type 0 where
    pub actors : AreActors scene ofs home view
    pub signals : AreAmong view.times.signals (signals_in scene (run_of ofs home view))
    pub callers : (queue : ℕ) → All (IsCallBy ofs) (view.calls queue)
    pub senders : AreArrivals ofs view
    pub replies : TellReplies ofs events
    pub releases : AreReleases scene ofs home view released

  -- The records at the end of a run: replies, arrivals and histories are those of the actors and their desk, and the frames
  -- that the vsyncs released are those that the compositor released.
  pub record TellShows (scene : SceneValue) (ofs : List (ActorOf B)) (home : DeskHome) (view : DeskView B) (shows : Shows) : Type 0 where
    pub replies : TellReplies ofs shows.events
    pub arrived : shows.arrived ≡ map entry_of (arrivals_of view)
    pub numbered : AreNumbered view.arrivals
    pub histories : shows.histories ≡ map (history_shown (run_of ofs home view)) (rising_queues scene)
    pub releases : AreReleases scene ofs home view (released_in (vsyncs_told scene (arrivals_of view) shows.events))

-- The calls of a compositor leave what each actor keeps.
use Rattle.std.proofs.Common.{◌≡◌, ℕ, ◌≤◌, Bool, false, List, [], ◌∷◌, ◌++◌, map, inl, inr, Result, Ok, Err, refl, ap, sym, subst, arith}
use Rattle.std.specs.Prelude.{Contains, is_ok, IfErr, IfOk, None, OnErr}
use Rattle.std.specs.List.{All}
use Rattle.std.proofs.lemmas.Bool.{cases_Bool, false≢true}
use Rattle.std.proofs.lemmas.List.Elements.{All-head, All-tail, All-weaker, Contains-append_left}
use Rattle.atomic_table.specs.Seated.{TableId}
use Rattle.sf_base.specs.Points.{greatest}
use Rattle.sf_base.specs.Fences.{Fence}
use Rattle.sf_base.specs.declared.fences.Seen.{Seen}
use Rattle.sf_base.specs.declared.ids.QueueId.{QueueId}
use Rattle.sf_base.specs.declared.memory.NoMemory.{NoMemory}
use Rattle.sf_commit.specs.sf_calls.declared.fault.CallFault.{CallFault}
use Rattle.sf_commit.specs.sf_calls.declared.fault.CallFault.TheVariants as fault
use Rattle.sf_commit.specs.sf_calls.Calling.{IfFaultNoMemory, IfFaultNotYet}
use Rattle.sf_commit.specs.sf_calls.Histories.{IsLegal}
use Rattle.sf_commit.specs.Handlers.{Decides, HandlerOf, Stops}
use Rattle.sf_commit.specs.Releases.{CommittedOf}
use Rattle.sf_commit.specs.sf_picture.declared.picture.Picture.{Picture}
use Rattle.sf_actor_steps.specs.sf_script_scene.declared.step.ActorScript.{ActorScript}
use Rattle.sf_actor_steps.specs.sf_slots.declared.calls.PlainReply.{PlainReply}
use Rattle.sf_actor_steps.specs.sf_slots.declared.calls.PlainReply.TheVariants as plain
use Rattle.sf_actor_steps.specs.sf_slots.declared.slot.Held.{Held}
use Rattle.sf_actor_steps.specs.sf_surface.declared.call.QCall.{QCall}
use Rattle.sf_actor_steps.specs.sf_surface.declared.call.QCall.TheVariants as call
use Rattle.sf_actor_steps.specs.sf_surface.declared.call.QReply.{QReply}
use Rattle.sf_actor_steps.specs.sf_surface.Hands.{IsReply, blank_of, own_lease}
use Rattle.sf_actor_steps.specs.sf_surface.Histories.{Answers, Made}
use Rattle.sf_actor_steps.specs.sf_surface.Objects.{ObjectOf, mark_of}
use Rattle.sf_actor_steps.specs.sf_surface.Reading.{eye_mark}
use Rattle.sf_actor_steps.specs.sf_surface.Tokens.{Issued, ReadLeaseOf}
use Rattle.sf_actor_steps.specs.sf_times.Seats.{all_loaded}
use Rattle.sf_actor_steps.specs.sf_times.Views.{SeatView as TimesView}
use Rattle.sf_commit.specs.sf_token.Arrivals.{Calls, sent}
use Rattle.sf_commit.specs.sf_token.Pending.{Arrival}
use Rattle.sf_actor_steps.specs.sf_turns.Views.{SeatView}
use Rattle.sf_commit.specs.sf_txn.declared.lease.Lease.{Ghosts}
use Rattle.sf_actor_steps.specs.sf_actor.Desks.{DeskHome, DeskView, IsAsBefore, MadeCall, WaitsForCall, known_of, mark_among}
use Rattle.sf_actor_steps.specs.sf_actor.Known.{GoesOn}
use Rattle.sf_actor_steps.specs.sf_actor.Plain.{PlainOf, calls_among, home_of, is_queue, taken_in, view_of}
use Rattle.sf_actor_steps.specs.sf_actor.Scripts.{picture_at}
use Rattle.sf_actor_steps.specs.sf_actor.Tries.{ActorOf}
use Rattle.sf_actor_steps.proofs.sf_actor_lemmas.CallGrowth.{call_alone, goes_same, memory_goes, see_goes}
use Rattle.sf_actor_steps.specs.Playable.{MayPlay}
use Rattle.sf_actor_steps.specs.declared.actor.Actor.{Actor}
use Rattle.sf_actor_set.specs.ActorSets.{ActorSetOf, IsActorSet, KeepAs, scripts_of}
use Rattle.sf_actor_set.specs.Compositing.{GoesOnDesk, OnlyDesk, SeatGoesOn, WithoutActors}
use Rattle.sf_actor_set.proofs.SteppingLemmas.{gathered, keeps_after, kept_as}

-- a lease of a buffer with a turn of this number
lease_at : TableId → ℕ → ℕ → ReadLeaseOf
lease_at table buffer number =
    let held : Held = record { number = 0; width = 0; height = 0 } in
    own_lease (record { 0 = 0 }) (record { 0 = 0 }) held (record { held = held; turn = record { table = table; buffer = buffer; number = number; expects = blank_of held; loads = 0; shown = false } })

-- An eye that knows what it knew has seen of each buffer no fewer turns: the lease of that buffer whose number is the greatest
-- that was seen is known still.
pub seat_goes_on : (old new : SeatView) (made : List (ℕ × ℕ)) → eye_mark new ≡ eye_mark old → new.leaves ≡ old.leaves ++ made
    → ((l : ReadLeaseOf) → l.turn.number ≤ greatest l.turn.buffer old.seen → l.turn.number ≤ greatest l.turn.buffer new.seen) → SeatGoesOn old new
unfolding lease_at
seat_goes_on old new made mark leaves keeps = record {
  mark = mark;
  left = λ p there. subst (λ (xs : List (ℕ × ℕ)). Contains xs p) (sym leaves) (Contains-append_left old.leaves made p there);
  counts = λ buffer. keeps (lease_at old.table buffer (greatest buffer old.seen)) (still buffer);
}
  where
    still : (buffer : ℕ) → greatest buffer old.seen ≤ greatest buffer old.seen
    still buffer = omega arith

-- the ends that a vsync makes, whether it found memory or not
pub vsync_ends : {R C : Type 0} (lease : Ghosts ReadLeaseOf SeatView R C) (old new : HandlerOf ReadLeaseOf) (eye after : SeatView) (arrived : List (Arrival ReadLeaseOf)) (seen : Seen) (expected : ℕ) (result : Result (CommittedOf ReadLeaseOf) NoMemory)
    → IfOk result (λ told. Decides lease old eye arrived seen expected told new after) → OnErr result (Stops lease old eye arrived seen expected new after) → (made : List (ℕ × ℕ)) × (lease.ends after ≡ lease.ends eye ++ made)
vsync_ends lease old new eye after arrived seen expected (Ok told) decides stops = (_, decides.settled.reads.ends)
vsync_ends lease old new eye after arrived seen expected (Err e) decides stops = (_, stops.reads.ends)

-- how many of the arrivals were taken tells nothing of what may be played
pub taken_plays : (home : DeskHome) (taken : ℕ) (pictures : List Picture) (script : ActorScript) → MayPlay home pictures script → MayPlay (record home { taken = taken }) pictures script
taken_plays home taken pictures script may = record {
  served = may.served;
  playable = λ k d below. let is = may.playable k d below in record { ranges = is.ranges; taken = is.taken; queue = is.queue; timelines = is.timelines };
  pictured = may.pictured;
  few = may.few;
}

module _ {B : Type 0} where
  -- after looks at the timelines
  pub looks_on : (desk : PlainOf B) (times : TimesView) (points : List (ℕ × ℕ)) → times ≡ record desk.times { knows = all_loaded desk.times.knows points } → GoesOnDesk (taken_in desk.arrivals) desk (record desk { times = times })
  looks_on desk times points same = record {
    home = ap (λ (t : TimesView). home_of (record desk { times = t })) same;
    goes = λ actor apart. see_goes actor (home_of desk) (view_of desk) (view_of (record desk { times = times })) points refl (ap (λ (t : TimesView). t.knows) same);
  }

  -- after what arrived was taken
  pub takes_on : (desk : PlainOf B) (arrivals : Calls ReadLeaseOf SeatView ReadLeaseOf Issued) → sent arrivals ≡ sent desk.arrivals → GoesOnDesk (taken_in arrivals) desk (record desk { arrivals = arrivals })
  takes_on desk arrivals same = record {
    home = refl;
    goes = λ actor apart. subst (λ (xs : List (Arrival ReadLeaseOf)). GoesOn actor (known_of (home_of desk) (view_of desk)) (known_of (home_of desk) (record (view_of desk) { arrivals = xs })))
        (sym same) (goes_same actor (known_of (home_of desk) (view_of desk)));
  }

  -- after a handler looked and left through the seat at the turns
  pub turns_on : (desk : PlainOf B) (turns : SeatView) → SeatGoesOn desk.turns turns → GoesOnDesk (taken_in desk.arrivals) desk (record desk { turns = turns })
  turns_on desk turns goes_on = record {
    home = refl;
    goes = λ actor apart.
        let same = goes_same actor (known_of (home_of desk) (view_of desk)) in
        record { marks = same.marks; tells = same.tells; calls = same.calls; arrivals = same.arrivals; values = same.values; signals = same.signals; left = goes_on.left; counts = goes_on.counts };
  }

  -- a reply to a release ends no drawing
  release_ends : (queue : QueueId) (lease : ReadLeaseOf) (fence : Fence) (answered : PlainReply) (reply : QReply B) → IsReply queue (call.Release lease fence) answered reply → reply.ends ≡ None
  release_ends queue lease fence (plain.Refused cause) reply is = ap (λ (r : QReply B). r.ends) is
  release_ends queue lease fence plain.Done reply is = ap (λ (r : QReply B). r.ends) is
  release_ends queue lease fence (plain.Dequeued slot held requested reallocated points) reply is = absurd is
  release_ends queue lease fence (plain.Requested held) reply is = absurd is
  release_ends queue lease fence (plain.Queued frame) reply is = absurd is
  release_ends queue lease fence (plain.Attached slot held) reply is = absurd is
  release_ends queue lease fence (plain.Acquired item dropped) reply is = absurd is

  pub ends_none : (home : DeskHome) (old new : DeskView B) (queue step : ℕ) (lease : ReadLeaseOf) (fence : Fence) (reply : QReply B) → MadeCall home old new 0 queue (step, call.Release lease fence) reply → reply.ends ≡ None
  ends_none home old new queue step lease fence reply made =
      let legal = subst (λ (calls : List (Made B)). IsLegal (Answers (mark_among home.marks queue)) calls) made.newest made.legal in
      release_ends (mark_among home.marks queue).queue lease fence _ reply legal.0.answer

  -- a release does not wait
  pub never_waits : (home : DeskHome) (old new : DeskView B) (queue step : ℕ) (lease : ReadLeaseOf) (fence : Fence) → WaitsForCall home old new 0 queue (step, call.Release lease fence) → ⊥
  never_waits home old new queue step lease fence waits = false≢true waits.not_yet.0

  -- after a call of the compositor, and where memory was wanting
  pub call_goes_on : (desk new : PlainOf B) (queue : ℕ) (asked : ℕ × QCall B) (reply : QReply B) → home_of new ≡ home_of desk → MadeCall (home_of desk) (view_of desk) (view_of new) 0 queue asked reply → GoesOnDesk (taken_in desk.arrivals) desk new
  call_goes_on desk new queue asked reply home made = record {
    home = home;
    goes = λ actor apart. call_alone actor (home_of desk) (view_of desk) (view_of new) 0 queue asked reply refl (λ same. apart (sym same)) made;
  }

  pub memory_goes_on : (desk new : PlainOf B) → home_of new ≡ home_of desk → IsAsBefore (view_of desk) (view_of new) → GoesOnDesk (taken_in desk.arrivals) desk new
  memory_goes_on desk new home before = record {
    home = home;
    goes = λ actor apart. memory_goes actor (home_of desk) (view_of desk) (view_of new) before;
  }

  module _ (desk new : PlainOf B) (queue step : ℕ) (lease : ReadLeaseOf) (fence : Fence) where
    abbrev pub Released : QReply B → Type 0
    Released reply = MadeCall (home_of desk) (view_of desk) (view_of new) 0 queue (step, call.Release lease fence) reply

    abbrev pub Waits : QCall B → Type 0
    Waits back = (back ≡ call.Release lease fence) × WaitsForCall (home_of desk) (view_of desk) (view_of new) 0 queue (step, call.Release lease fence)

    abbrev pub StaysWith : QCall B → Type 0
    StaysWith back = (back ≡ call.Release lease fence) × IsAsBefore (view_of desk) (view_of new)

    pub outcome_ends : (outcome : Result (QReply B) (CallFault (QCall B))) → IfOk outcome Released → IfOk outcome (λ (reply : QReply B). reply.ends ≡ None)
    outcome_ends (Ok reply) made = ends_none (home_of desk) (view_of desk) (view_of new) queue step lease fence reply made
    outcome_ends (Err e) made = tt

    pub outcome_never : (outcome : Result (QReply B) (CallFault (QCall B))) → IfFaultNotYet outcome Waits → IfFaultNotYet outcome (λ (back : QCall B). ⊥)
    outcome_never (Ok reply) waits = tt
    outcome_never (Err (fault.NotYet back)) waits = never_waits (home_of desk) (view_of desk) (view_of new) queue step lease fence waits.1
    outcome_never (Err (fault.NoMemory back)) waits = tt

    pub outcome_goes : (outcome : Result (QReply B) (CallFault (QCall B))) → home_of new ≡ home_of desk → IfOk outcome Released → IfFaultNotYet outcome Waits → IfFaultNoMemory outcome StaysWith → GoesOnDesk (taken_in desk.arrivals) desk new
    outcome_goes (Ok reply) home made waits stays = call_goes_on desk new queue (step, call.Release lease fence) reply home made
    outcome_goes (Err (fault.NotYet back)) home made waits stays = absurd (never_waits (home_of desk) (view_of desk) (view_of new) queue step lease fence waits.1)
    outcome_goes (Err (fault.NoMemory back)) home made waits stays = memory_goes_on desk new home stays.1

    pub outcome_released : (outcome : Result (QReply B) (CallFault (QCall B))) (result : Result (Unit {0}) NoMemory) → is_ok result ≡ is_ok outcome → IfOk outcome Released → IfOk result (λ done. (reply : QReply B) × Released reply)
    outcome_released (Ok reply) (Ok done) same made = (reply, made)
    outcome_released outcome (Err e) same made = tt
    outcome_released (Err e) (Ok done) same made = absurd (false≢true (sym same))

    pub outcome_stays : (outcome : Result (QReply B) (CallFault (QCall B))) (result : Result (Unit {0}) NoMemory) → is_ok result ≡ is_ok outcome → IfFaultNotYet outcome Waits → IfFaultNoMemory outcome StaysWith → IfErr result (λ e. IsAsBefore (view_of desk) (view_of new))
    outcome_stays outcome (Ok done) same waits stays = tt
    outcome_stays (Ok reply) (Err e) same waits stays = absurd (false≢true same)
    outcome_stays (Err (fault.NotYet back)) (Err e) same waits stays = absurd (never_waits (home_of desk) (view_of desk) (view_of new) queue step lease fence waits.1)
    outcome_stays (Err (fault.NoMemory back)) (Err e) same waits stays = stays.1

  -- each actor keeps what it kept
  all_keep_on : (table : TableId) (pictures : ℕ → Picture) (before after : PlainOf B) → WithoutActors (home_of before) (view_of before) (view_of after) → (actors : List (Actor B)) (ofs : List (ActorOf B))
      → All (λ (script : ActorScript). 1 ≤ script.number) (scripts_of actors) → KeepAs table pictures (home_of before) (view_of before) actors ofs → KeepAs table pictures (home_of before) (view_of after) actors ofs
  all_keep_on table pictures before after goes [] [] numbered keep = tt
  all_keep_on table pictures before after goes [] (of ∷ ofs) numbered keep = keep
  all_keep_on table pictures before after goes (actor ∷ actors) [] numbered keep = keep
  all_keep_on table pictures before after goes (actor ∷ actors) (of ∷ ofs) numbered keep =
      let same = ap (λ (script : ActorScript). script.number) keep.0.is.script in
      let low = All-head (λ (script : ActorScript). 1 ≤ script.number) actor.script (scripts_of actors) numbered in (
        record { is = keep.0.is; keeps = keeps_after pictures (home_of before) of (view_of before) (view_of after) (goes of.script.number (λ none. absurd (omega (arith, none, same, low)))) keep.0.keeps },
        all_keep_on table pictures before after goes actors ofs (All-tail (λ (script : ActorScript). 1 ≤ script.number) actor.script (scripts_of actors) numbered) keep.1,
      )

  -- how many of the arrivals were taken tells nothing of what actors keep
  taken_keep : (table : TableId) (pictures : ℕ → Picture) (home : DeskHome) (taken : ℕ) (view : DeskView B) (actors : List (Actor B)) (ofs : List (ActorOf B)) → KeepAs table pictures home view actors ofs → KeepAs table pictures (record home { taken = taken }) view actors ofs
  taken_keep table pictures home taken view [] [] keep = tt
  taken_keep table pictures home taken view [] (of ∷ ofs) keep = keep
  taken_keep table pictures home taken view (actor ∷ actors) [] keep = keep
  taken_keep table pictures home taken view (actor ∷ actors) (of ∷ ofs) keep = (
    record { is = keep.0.is; keeps = record { kept = keep.0.keeps.kept; there = record { names = keep.0.keeps.there.names; frames = keep.0.keeps.there.frames } } },
    taken_keep table pictures home taken view actors ofs keep.1,
  )

  pub still_keep : (table : TableId) (pictures : ℕ → Picture) (taken : ℕ) (before after : PlainOf B) → GoesOnDesk taken before after → (actors : List (Actor B)) (ofs : List (ActorOf B))
      → All (λ (script : ActorScript). 1 ≤ script.number) (scripts_of actors) → KeepAs table pictures (home_of before) (view_of before) actors ofs → KeepAs table pictures (home_of after) (view_of after) actors ofs
  still_keep table pictures taken before after goes_on actors ofs numbered keep =
      subst (λ (home : DeskHome). KeepAs table pictures home (view_of after) actors ofs) (sym goes_on.home)
      (taken_keep table pictures (home_of before) taken (view_of after) actors ofs (all_keep_on table pictures before after goes_on.goes actors ofs numbered keep))

  -- an actor set is one after a call of the compositor
  pub actor_set_goes_on : (table : TableId) (pictures : List Picture) (actors : List (Actor B)) (taken : ℕ) (before after : PlainOf B) (is_spent : Bool) → GoesOnDesk taken before after
      → IsActorSet table (record { pictures = pictures; actors = actors; desk = before; is_spent = is_spent }) → IsActorSet table (record { pictures = pictures; actors = actors; desk = after; is_spent = is_spent })
  actor_set_goes_on table pictures actors taken before after is_spent goes_on is = record {
    rising = is.rising;
    numbered = is.numbered;
    plays = subst (λ (home : DeskHome). All (MayPlay home pictures) (scripts_of actors)) (sym goes_on.home)
        (All-weaker (MayPlay (home_of before) pictures) (MayPlay (record (home_of before) { taken = taken }) pictures) (taken_plays (home_of before) taken pictures) (scripts_of actors) is.plays);
    kept = λ unspent.
        let all = gathered table (picture_at pictures) (home_of before) (view_of before) (view_of after) actors (is.kept unspent) in
        kept_as table (picture_at pictures) (home_of after) (view_of after) (view_of after) actors all.0 (still_keep table (picture_at pictures) taken before after goes_on actors all.0 is.numbered all.1);
  }

  pub only_desk : (table : TableId) (old : ActorSetOf B) (pictures : List Picture) (actors : List (Actor B)) (taken : PlainOf B → ℕ) (before after : PlainOf B) (is_spent : Bool)
      → record { pictures = pictures; actors = actors; desk = before; is_spent = is_spent } ≡ old → GoesOnDesk (taken before) before after
      → IsActorSet table (record { pictures = pictures; actors = actors; desk = before; is_spent = is_spent }) → OnlyDesk table (taken old.desk) old (record { pictures = pictures; actors = actors; desk = after; is_spent = is_spent })
  only_desk table old pictures actors taken before after is_spent seen_as goes_on is =
      subst (λ (x : ActorSetOf B). OnlyDesk table (taken x.desk) x (record { pictures = pictures; actors = actors; desk = after; is_spent = is_spent })) seen_as
      (record { same = refl; home = goes_on.home; keep = λ ofs keep. still_keep table (picture_at pictures) (taken before) before after goes_on actors ofs is.numbered keep })

  -- each queue's calls are legal by its mark, where each object's are
  pub legal_among : (objects : List (ObjectOf B)) (queue : ℕ) → All (λ (object : ObjectOf B). IsLegal (Answers (mark_of object)) object.calls) objects
      → IsLegal (Answers (mark_among (map mark_of objects) queue)) (calls_among objects queue)
  legal_among [] queue legal = tt
  legal_among (object ∷ objects) queue legal = elim (cases_Bool (is_queue queue object)) [
    | inl met ↦ rw met (All-head (λ (object : ObjectOf B). IsLegal (Answers (mark_of object)) object.calls) object objects legal)
    | inr unmet ↦ rw unmet (legal_among objects queue (All-tail (λ (object : ObjectOf B). IsLegal (Answers (mark_of object)) object.calls) object objects legal))
  ]

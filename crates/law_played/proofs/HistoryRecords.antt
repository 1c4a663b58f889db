-- The records of histories show of a queued frame the call that queued it.
use Rattle.std.proofs.Common.{◌≡◌, ℕ, ◌+◌, ◌≤◌, ◌==◌, Bool, true, not, ◌&&◌, List, [], ◌∷◌, map, filter, Option, Some, None, refl, sym, ap, ◌∙◌, subst, inl, inr, arith}
use Rattle.std.specs.Prelude.{Contains, reverse}
use Rattle.std.specs.List.{range_with_len}
use Rattle.std.proofs.lemmas.Bool.{and_from, and_parts, eq-eqb, eqb-true, false≢true, not-false}
use Rattle.sf_base.specs.Fences.{Fence}
use Rattle.sf_base.specs.declared.geometry.Rect.{Rect}
use Rattle.sf_base.specs.declared.status.QStatus.{QStatus}
use Rattle.sf_base.specs.declared.status.QStatus.TheVariants as status
use Rattle.sf_actor.specs.sf_slots.declared.calls.Entry.{Entry}
use Rattle.sf_actor.specs.sf_slots.declared.calls.PlainCall.{PlainCall}
use Rattle.sf_actor.specs.sf_slots.declared.calls.PlainCall.TheVariants as call
use Rattle.sf_actor.specs.sf_slots.declared.calls.PlainReply.{PlainReply}
use Rattle.sf_actor.specs.sf_slots.declared.calls.PlainReply.TheVariants as reply
use Rattle.sf_actor.specs.sf_slots.declared.calls.WriteToken.{WriteToken}
use Rattle.sf_actor.specs.sf_slots.Events.{frames_queued}
use Rattle.sf_actor.specs.sf_slots.History.{events, told_by}
use Rattle.sf_actor.specs.sf_slots.Replies.{Refusal, is_crop_of, is_lent, refusal_of, refused_or, reply_after}
use Rattle.sf_actor.specs.sf_slots.Shown.{frame_shown, kind_number, status_shown}
use Rattle.sf_actor.specs.sf_slots.Tells.{AreReplies}
use Rattle.sf_actor.specs.sf_slots.Told.{slot_at}
use Rattle.sf_actor.proofs.sf_slots_lemmas.HistoryGoesOn.{own_unmet, unmet}
use Rattle.sf_script_scene.specs.Scene.{SceneValue}
use Rattle.sf_script_scene.specs.declared.declarations.QueueDecl.{QueueDecl}
use Rattle.sf_actor.specs.Makers.{Run}
use Rattle.sf_record.specs.declared.record.HistoryEntry.{HistoryEntry}
use Rattle.sf_record.specs.declared.record.QueueHistory.{QueueHistory}
use Rattle.law_played.specs.Buffers.{entries_on, is_queueing, queueing_of}
use Rattle.law_played.specs.Histories.{entry_shown, history_shown, queue_number, rising_queues}
use Rattle.law_played.proofs.Members.{filter_has, has_cases, has_filter, has_found, has_joined, has_map, has_none, has_reverse, in_range, joined_has, map_has, reverse_has}
use Rattle.law_played.proofs.QueuedFrames.{IsQueued, queued_once}

-- a call of a legal history is answered as those before it say
legal_at : (width height : ℕ) (history : List Entry) (entry : Entry) → AreReplies width height history → Contains history entry
    → (earlier : List Entry) × (entry.reply ≡ reply_after width height earlier entry.caller entry.call)
legal_at width height [] entry legal there = has_none entry there
legal_at width height (e ∷ earlier) entry legal there = elim (has_cases e entry earlier there) [
  | inl same ↦ (earlier, subst (λ (x : Entry). x.reply ≡ reply_after width height earlier x.caller x.call) same legal.0)
  | inr c ↦ legal_at width height earlier entry legal.1 c
]

-- a queueing call, by its kind
record IsQueueCall (asked : PlainCall) : Type 0 where
  lease : WriteToken
  picture : ℕ
  width : ℕ
  height : ℕ
  time : Option ℕ
  crop : Rect
  fence : Fence
  is : asked ≡ call.Queue lease picture width height time crop fence

by_kind : (asked : PlainCall) → (kind_number asked == 7) ≡ true → IsQueueCall asked
by_kind (call.Queue lease picture width height time crop fence) e =
    record { lease = lease; picture = picture; width = width; height = height; time = time; crop = crop; fence = fence; is = refl }
by_kind other e = absurd (false≢true e)

-- the number that is shown of a queueing call is that of its frame, unless it is 0
by_frame : (asked : PlainCall) (queues : IsQueueCall asked) (refusal : Option QStatus) (next frame : ℕ) → 1 ≤ frame
    → frame_shown (call.Queue queues.lease queues.picture queues.width queues.height queues.time queues.crop queues.fence) (refused_or refusal (reply.Queued next)) ≡ frame
    → refused_or refusal (reply.Queued next) ≡ reply.Queued frame
by_frame asked queues None next frame low e = ap (λ (n : ℕ). reply.Queued n) e
by_frame asked queues (Some cause) next frame low e = absurd (omega (arith, e, low))

-- an entry that shows that a frame was queued is that of a call that queued it
pub record ShowsQueued (entry : Entry) (frame : ℕ) : Type 0 where
  pub picture : ℕ
  pub crop : Rect
  pub queued : IsQueued entry frame picture crop

shows_queued : (width height : ℕ) (history : List Entry) (entry : Entry) (frame : ℕ) → AreReplies width height history → Contains history entry → 1 ≤ frame
    → is_queueing frame (entry_shown entry) ≡ true → ShowsQueued entry frame
unfolding entry_shown
shows_queued width height history entry frame legal there low shown =
    let kind = and_parts (kind_number entry.call == 7) ((status_shown entry.reply == 0) && (frame_shown entry.call entry.reply == frame)) shown in
    let rest = and_parts (status_shown entry.reply == 0) (frame_shown entry.call entry.reply == frame) kind.1 in
    let queues = by_kind entry.call kind.0 in
    let asked : PlainCall = call.Queue queues.lease queues.picture queues.width queues.height queues.time queues.crop queues.fence in
    let at = legal_at width height history entry legal there in
    let refusal = refusal_of (told_by width height at.0) entry.caller asked in
    let next : ℕ = frames_queued (events at.0) + 1 in
    let given : entry.reply ≡ refused_or refusal (reply.Queued next) = at.1 ∙ ap (reply_after width height at.0 entry.caller) queues.is in
    let number : frame_shown asked (refused_or refusal (reply.Queued next)) ≡ frame =
    ap (frame_shown asked) (sym given) ∙ ap (λ (c : PlainCall). frame_shown c entry.reply) (sym queues.is) ∙ eqb-true (frame_shown entry.call entry.reply) frame rest.1 in
    record {
      picture = queues.picture;
      crop = queues.crop;
      queued = record {
        lease = queues.lease;
        width = queues.width;
        height = queues.height;
        time = queues.time;
        fence = queues.fence;
        call = queues.is;
        reply = given ∙ by_frame entry.call queues refusal next frame low number;
      };
    }

-- and a call that queued a frame shows so
queued_shows : (entry : Entry) (frame picture : ℕ) (crop : Rect) → IsQueued entry frame picture crop → is_queueing frame (entry_shown entry) ≡ true
unfolding entry_shown
queued_shows entry frame picture crop queued =
    let asked : PlainCall = call.Queue queued.lease picture queued.width queued.height queued.time crop queued.fence in
    let number : frame_shown entry.call entry.reply ≡ frame = ap (λ (c : PlainCall). frame_shown c entry.reply) queued.call ∙ ap (frame_shown asked) queued.reply in
    and_from (kind_number entry.call == 7) ((status_shown entry.reply == 0) && (frame_shown entry.call entry.reply == frame))
    (ap (λ (c : PlainCall). kind_number c == 7) queued.call)
    (and_from (status_shown entry.reply == 0) (frame_shown entry.call entry.reply == frame) (ap (λ (r : PlainReply). status_shown r == 0) queued.reply)
    (eq-eqb (frame_shown entry.call entry.reply) frame number))

-- a frame that was queued has a number, and the size of its picture is that of its buffer
pub record WasAccepted (entry : Entry) (frame picture : ℕ) (crop : Rect) (queued : IsQueued entry frame picture crop) : Type 0 where
  pub low : 1 ≤ frame
  pub wide : queued.width ≡ queued.lease.held.width
  pub high : queued.height ≡ queued.lease.held.height

accepted : (refusal : Option QStatus) (frame next : ℕ) → reply.Queued frame ≡ refused_or refusal (reply.Queued next) → (refusal ≡ None) × (frame ≡ next)
accepted None frame next e = (refl, (let n : frame ≡ next = cc in n))
accepted (Some cause) frame next e = absurd (cc (e))

pub was_accepted : (width height : ℕ) (history : List Entry) (entry : Entry) (frame picture : ℕ) (crop : Rect) → AreReplies width height history → Contains history entry
    → (queued : IsQueued entry frame picture crop) → WasAccepted entry frame picture crop queued
was_accepted width height history entry frame picture crop legal there queued =
    let asked : PlainCall = call.Queue queued.lease picture queued.width queued.height queued.time crop queued.fence in
    let at = legal_at width height history entry legal there in
    let told = told_by width height at.0 in
    let next : ℕ = frames_queued (events at.0) + 1 in
    let given : reply.Queued frame ≡ refused_or (refusal_of told entry.caller asked) (reply.Queued next) =
    sym queued.reply ∙ at.1 ∙ ap (reply_after width height at.0 entry.caller) queued.call in
    let is = accepted (refusal_of told entry.caller asked) frame next given in
    let sized : Bool = (queued.width == queued.lease.held.width) && (queued.height == queued.lease.held.height) in
    let last : List Refusal = (not (is_crop_of queued.lease.held crop), status.BadValue) ∷ [] in
    let later : List Refusal = (not sized, status.BadValue) ∷ last in
    let requested : Bool = (slot_at told queued.lease.slot.0).requested in
    let lent : Bool = is_lent told queued.lease.slot queued.lease.held in
    let first = unmet (not lent) status.BadValue ((not requested, status.BadValue) ∷ later) (own_unmet told entry.caller asked is.0) in
    let second = unmet (not requested) status.BadValue later first.1 in
    let third = unmet (not sized) status.BadValue last second.1 in
    let sizes = and_parts (queued.width == queued.lease.held.width) (queued.height == queued.lease.held.height) (not-false sized third.0) in
    record { low = omega (arith, is.1); wide = eqb-true queued.width queued.lease.held.width sizes.0; high = eqb-true queued.height queued.lease.held.height sizes.1 }

-- a declared queue is among those by rising number
is_rising : (scene : SceneValue) (queue : QueueDecl) → 1 ≤ queue.number → queue.number ≤ 16 → Contains scene.queues queue → Contains (rising_queues scene) queue
unfolding rising_queues
is_rising scene queue low high there =
    has_joined (λ (n : ℕ). filter (λ (item : QueueDecl). queue_number item == n) scene.queues) (range_with_len 1 16) queue.number queue (in_range 16 queue.number low high)
    (has_filter (λ (item : QueueDecl). queue_number item == queue.number) scene.queues queue (eq-eqb queue.number queue.number refl) there)

abbrev entries_in : QueueHistory → List HistoryEntry
entries_in history = history.entries

-- what is found of a queued frame is the entry of the call that queued it
pub queueing_found : (scene : SceneValue) (run : Run) (queue : QueueDecl) (entry : Entry) (frame picture : ℕ) (crop : Rect) → 1 ≤ queue.number → queue.number ≤ 16 → Contains scene.queues queue
    → AreReplies queue.width queue.height (run.calls queue.number) → Contains (run.calls queue.number) entry → IsQueued entry frame picture crop
    → queueing_of (map (history_shown run) (rising_queues scene)) queue.number frame ≡ Some (entry_shown entry)
queueing_found scene run queue entry frame picture crop low high there legal called queued =
    let histories : List QueueHistory = map (history_shown run) (rising_queues scene) in
    let is_of : QueueHistory → Bool = λ history. history.queue == queue.number in
    let own = has_filter is_of histories (history_shown run queue) (eq-eqb queue.number queue.number refl)
    (has_map (history_shown run) (rising_queues scene) queue (is_rising scene queue low high there)) in
    let shown = has_joined entries_in (filter is_of histories) (history_shown run queue) (entry_shown entry) own
    (has_map entry_shown (reverse (run.calls queue.number)) entry (has_reverse (run.calls queue.number) entry called)) in
    let found = has_found (is_queueing frame) (entries_on queue.number histories) (entry_shown entry) shown (queued_shows entry frame picture crop queued) in
    let at = joined_has entries_in (filter is_of histories) found.one found.there in
    let of = filter_has is_of histories at.0 at.1 in
    let declared = map_has (history_shown run) (rising_queues scene) at.0 of.0 in
    let same : declared.0.number ≡ queue.number = ap (λ (history : QueueHistory). history.queue) declared.2 ∙ eqb-true at.0.queue queue.number of.1 in
    let inside = subst (λ (history : QueueHistory). Contains history.entries found.one) (sym declared.2) at.2 in
    let other = map_has entry_shown (reverse (run.calls declared.0.number)) found.one inside in
    let among = subst (λ (n : ℕ). Contains (run.calls n) other.0) same (reverse_has (run.calls declared.0.number) other.0 other.1) in
    let number = (was_accepted queue.width queue.height (run.calls queue.number) entry frame picture crop legal called queued).low in
    let shows = shows_queued queue.width queue.height (run.calls queue.number) other.0 frame legal among number (ap (is_queueing frame) other.2 ∙ found.passes) in
    let once = queued_once queue.width queue.height (run.calls queue.number) other.0 entry frame shows.picture picture shows.crop crop legal among called shows.queued queued in
    found.found ∙ ap (λ (e : HistoryEntry). Some e) (sym other.2) ∙ ap (λ (e : Entry). Some (entry_shown e)) once

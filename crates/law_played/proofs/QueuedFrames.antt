-- Frames of a queue: each that is acquired was queued by a call, and no two calls queued frames of one number.
use Rattle.std.proofs.Common.{◌≡◌, ℕ, ◌+◌, ◌≤◌, Bool, true, false, List, [], ◌∷◌, ◌++◌, map, filter_map, Option, Some, None, refl, sym, ap, ◌∙◌, subst, inl, inr, arith}
use Rattle.std.specs.Prelude.{◌⊎◌, Contains, slice_get}
use Rattle.std.proofs.lemmas.List.Elements.{Contains-append_cases}
use Rattle.std.proofs.lemmas.Option.{get_or_from_slice_get, slice_get_within}
use Rattle.sf_base.specs.Fences.{Fence}
use Rattle.sf_base.specs.declared.geometry.Rect.{Rect}
use Rattle.sf_base.specs.declared.ids.ActorId.{ActorId}
use Rattle.sf_base.specs.declared.status.QStatus.{QStatus}
use Rattle.sf_actor.specs.sf_slots.declared.calls.Entry.{Entry}
use Rattle.sf_actor.specs.sf_slots.declared.calls.PlainCall.{PlainCall}
use Rattle.sf_actor.specs.sf_slots.declared.calls.PlainCall.TheVariants as call
use Rattle.sf_actor.specs.sf_slots.declared.calls.PlainReply.{PlainReply}
use Rattle.sf_actor.specs.sf_slots.declared.calls.PlainReply.TheVariants as reply
use Rattle.sf_actor.specs.sf_slots.declared.calls.WriteToken.{WriteToken}
use Rattle.sf_actor.specs.sf_slots.declared.item.PlainItem.{PlainItem}
use Rattle.sf_actor.specs.sf_slots.Events.{Back, Consumer, Dequeuing, Elsewhere, Event, Gone, Hand, Last, Lend, Make, Mark, Producer, Returned, Take, Unmark, Waiting}
use Rattle.sf_actor.specs.sf_slots.Events.{apart_from, frames_queued, items_after, last_of_each, waiting_item}
use Rattle.sf_actor.specs.sf_slots.History.{all_slots, asynchronous, back_if, events, events_of, happening, kept_back, told_by}
use Rattle.sf_actor.specs.sf_slots.Replies.{acquired_item, dropped_count, front_after_drops, refusal_of, refused_or, reply_after}
use Rattle.sf_actor.specs.sf_slots.Tells.{AreReplies}
use Rattle.sf_actor.specs.sf_slots.Told.{replaced_slot}
use Rattle.law_played.proofs.Members.{filter_has, has_cases, has_here, has_later, has_none, map_has}

-- a call that was done queued this frame, with this picture and crop, out of a buffer of this size
pub record IsQueued (entry : Entry) (frame picture : ℕ) (crop : Rect) : Type 0 where
  pub lease : WriteToken
  pub width : ℕ
  pub height : ℕ
  pub time : Option ℕ
  pub fence : Fence
  pub call : entry.call ≡ call.Queue lease picture width height time crop fence
  pub reply : entry.reply ≡ reply.Queued frame

-- a member of a list of what is given for the members of another
given_has : {X Y : Type 0} (h : X → Option Y) (xs : List X) (y : Y) → Contains (filter_map h xs) y → (x : X) × Contains xs x × (h x ≡ Some y)
given_has h [] y there = has_none y there
given_has {X} {Y} h (x ∷ xs) y there = by_given (given_has h xs y) (h x) refl there
  where
    by_given : (Contains (filter_map h xs) y → (z : X) × Contains xs z × (h z ≡ Some y)) → (o : Option Y) → h x ≡ o → Contains (filter_map h (x ∷ xs)) y
        → (z : X) × Contains (x ∷ xs) z × (h z ≡ Some y)
    by_given earlier None e there = let rest = earlier (rw e at there) in (rest.0, has_later x rest.0 xs rest.1, rest.2)
    by_given earlier (Some a) e there = elim (has_cases a y (filter_map h xs) (rw e at there)) [
      | inl same ↦ (x, has_here x xs, e ∙ ap (λ (b : Y). Some b) same)
      | inr c ↦ let rest = earlier c in (rest.0, has_later x rest.0 xs rest.1, rest.2)
    ]

waits_as : (last : Last) (item : PlainItem) → waiting_item last ≡ Some item → last ≡ Waiting item
waits_as (Returned s) item e = absurd (cc (e))
waits_as (Waiting other) item e = cc
waits_as (Elsewhere s) item e = absurd (cc (e))

-- an item that is known last of its slot was handed in
module _ (item : PlainItem) where
  abbrev WasHanded : List Event → Type 0
  WasHanded es = Contains es (Hand item)

  -- the last of a slot is another, or this item
  behind : (event : Event) (es : List Event) (s : ℕ) (last : Last) → (Contains (last_of_each es) (Waiting item) → WasHanded es) → (last ≡ Waiting item → event ≡ Hand item)
      → Contains (apart_from s (last_of_each es) ++ last ∷ []) (Waiting item) → WasHanded (event ∷ es)
  behind event es s last earlier this there = elim (Contains-append_cases (apart_from s (last_of_each es)) (last ∷ []) (Waiting item) there) [
    | inl c ↦ has_later event (Hand item) es (earlier (filter_has _ (last_of_each es) (Waiting item) c).0)
    | inr c ↦ elim (has_cases last (Waiting item) [] c) [
      | inl e ↦ subst (λ (z : Event). Contains (event ∷ es) z) (this e) (has_here event es)
      | inr none ↦ has_none (Waiting item) none
    ]
  ]

  was_handed : (es : List Event) → Contains (last_of_each es) (Waiting item) → WasHanded es
  was_handed [] there = has_none (Waiting item) there
  was_handed (Make t width height maker ∷ es) there = has_later (Make t width height maker) (Hand item) es (was_handed es there)
  was_handed (Lend t ∷ es) there = behind (Lend t) es t (Elsewhere t) (was_handed es) (λ e. absurd (cc (e))) there
  was_handed (Hand other ∷ es) there = behind (Hand other) es other.slot.0 (Waiting other) (was_handed es) (λ e. cc (e)) there
  was_handed (Take t ∷ es) there = behind (Take t) es t (Elsewhere t) (was_handed es) (λ e. absurd (cc (e))) there
  was_handed (Back t fence ∷ es) there = behind (Back t fence) es t (Returned t) (was_handed es) (λ e. absurd (cc (e))) there
  was_handed (Gone t ∷ es) there = behind (Gone t) es t (Elsewhere t) (was_handed es) (λ e. absurd (cc (e))) there
  was_handed (Mark t ∷ es) there = has_later (Mark t) (Hand item) es (was_handed es there)
  was_handed (Unmark ∷ es) there = has_later Unmark (Hand item) es (was_handed es there)

  handed_in : (es : List Event) → Contains (items_after es) item → WasHanded es
  handed_in es there =
      let last = given_has waiting_item (last_of_each es) item there in
      was_handed es (subst (λ (l : Last). Contains (last_of_each es) l) (waits_as last.0 item last.2) last.1)

  -- no other event hands one in
  none_gone : (slots : List ℕ) → Contains (map Gone slots) (Hand item) → ⊥
  none_gone slots there = let it = map_has Gone slots (Hand item) there in cc (it.2)

  none_kept : (items : List PlainItem) → Contains (map kept_back items) (Hand item) → ⊥
  none_kept items there = let it = map_has kept_back items (Hand item) there in cc (it.2)

  none_more : (events : List Event) (last : Event) → (Contains events (Hand item) → ⊥) → (last ≡ Hand item → ⊥) → Contains (events ++ last ∷ []) (Hand item) → ⊥
  none_more events last none other there = elim (Contains-append_cases events (last ∷ []) (Hand item) there) [
    | inl c ↦ none c
    | inr c ↦ elim (has_cases last (Hand item) [] c) [ inl e ↦ other e | inr past ↦ has_none (Hand item) past ]
  ]

  none_first : (event : Event) (events : List Event) → (event ≡ Hand item → ⊥) → (Contains events (Hand item) → ⊥) → Contains (event ∷ events) (Hand item) → ⊥
  none_first event events other none there = elim (has_cases event (Hand item) events there) [ inl e ↦ other e | inr c ↦ none c ]

  none_one : (event : Event) → (event ≡ Hand item → ⊥) → Contains (event ∷ []) (Hand item) → ⊥
  none_one event other there = none_first event [] other (λ past. has_none (Hand item) past) there

  none_back : (slot : Option ℕ) → Contains (back_if slot) (Hand item) → ⊥
  none_back None there = has_none (Hand item) there
  none_back (Some s) there = none_one (Back s None) (λ e. cc (e)) there

-- the call hands in an item: it queues its frame
pub record QueuesItem (asked : PlainCall) (given : PlainReply) (item : PlainItem) : Type 0 where
  pub lease : WriteToken
  pub width : ℕ
  pub height : ℕ
  pub time : Option ℕ
  pub fence : Fence
  pub call : asked ≡ call.Queue lease item.picture width height time item.crop fence
  pub reply : given ≡ reply.Queued item.frame

-- an item that is handed in is that of its call
handed_with : (lease : WriteToken) (frame picture width height : ℕ) (time : Option ℕ) (droppable : Bool) (crop : Rect) (fence : Fence) (item : PlainItem)
    → Hand (record { slot = lease.slot; held = lease.held; frame = frame; picture = picture; time = time; droppable = droppable; fence = fence; crop = crop }) ≡ Hand item
    → QueuesItem (call.Queue lease picture width height time crop fence) (reply.Queued frame) item
handed_with lease frame picture width height time droppable crop fence item e =
    let same : record { slot = lease.slot; held = lease.held; frame = frame; picture = picture; time = time; droppable = droppable; fence = fence; crop = crop } ≡ item = cc (e) in
    record {
      lease = lease;
      width = width;
      height = height;
      time = time;
      fence = fence;
      call = λ i. call.Queue lease (same i).picture width height time (same i).crop fence;
      reply = λ i. reply.Queued (same i).frame;
    }

-- a call of another kind, or that was refused, hands in none
handing : (before : List Event) (earlier : List Entry) (asked : PlainCall) (given : PlainReply) (item : PlainItem) → Contains (events_of before earlier asked given) (Hand item)
    → QueuesItem asked given item
handing before earlier call.Connect given item there = has_none (Hand item) there
handing before earlier call.Disconnect reply.Done item there = absurd (none_more item _ Unmark (none_gone item _) (λ e. cc (e)) there)
handing before earlier (call.MaxDequeued n) reply.Done item there = absurd (none_gone item _ there)
handing before earlier (call.Async on) reply.Done item there = absurd (none_gone item _ there)
handing before earlier (call.MaxAcquired n) reply.Done item there = absurd (none_gone item _ there)
handing before earlier (call.Dequeue width height wait) (reply.Dequeued slot held requested true fence) item there =
    absurd (none_first item (Make slot.0 held.width held.height Dequeuing) (Lend slot.0 ∷ []) (λ e. cc (e)) (none_one item (Lend slot.0) (λ e. cc (e))) there)
handing before earlier (call.Dequeue width height wait) (reply.Dequeued slot held requested false fence) item there = absurd (none_one item (Lend slot.0) (λ e. cc (e)) there)
handing before earlier (call.Request lease) (reply.Requested held) item there = absurd (none_one item (Mark lease.slot.0) (λ e. cc (e)) there)
handing before earlier (call.Queue lease picture width height time crop fence) (reply.Queued frame) item there = elim (has_cases _ (Hand item) _ there) [
  | inl e ↦ handed_with lease frame picture width height time (asynchronous earlier) crop fence item e
  | inr c ↦ absurd (none_back item _ c)
]
handing before earlier (call.Cancel lease fence) reply.Done item there = absurd (none_one item (Back lease.slot.0 (Some fence)) (λ e. cc (e)) there)
handing before earlier (call.Detach lease) reply.Done item there = absurd (none_one item (Gone lease.slot.0) (λ e. cc (e)) there)
handing before earlier (call.Attach held) (reply.Attached slot new) item there =
    absurd (none_first item (Make slot.0 new.width new.height Producer) (Lend slot.0 ∷ []) (λ e. cc (e)) (none_one item (Lend slot.0) (λ e. cc (e))) there)
handing before earlier call.Abandon reply.Done item there = absurd (none_gone item all_slots there)
handing before earlier (call.Acquire expected) (reply.Acquired taken dropped) item there = absurd (none_more item _ (Take taken.slot.0) (none_kept item _) (λ e. cc (e)) there)
handing before earlier (call.Release lease fence) reply.Done item there = absurd (none_one item (Back lease.slot.0 (Some fence)) (λ e. cc (e)) there)
handing before earlier (call.DetachRead lease) reply.Done item there = absurd (none_one item (Gone lease.slot.0) (λ e. cc (e)) there)
handing before earlier (call.AttachRead held) (reply.Attached slot new) item there =
    absurd (none_first item (Make slot.0 new.width new.height Consumer) (Take slot.0 ∷ []) (λ e. cc (e)) (none_one item (Take slot.0) (λ e. cc (e))) there)
handing before earlier _ _ item there = has_none (Hand item) there

-- what happens after other events is there, beside them
happened : (new before : List Event) (event : Event) → Contains (happening new before) event → Contains new event ⊎ Contains before event
happened [] before event there = inr there
happened (e ∷ new) before event there = elim (happened new (e ∷ before) event there) [
  | inl c ↦ inl (has_later e event new c)
  | inr c ↦ elim (has_cases e event before c) [ inl same ↦ inl (subst (λ (z : Event). Contains (e ∷ new) z) same (has_here e new)) | inr c ↦ inr c ]
]

-- an item that was handed in was queued by a call
pub record WasQueuedBy (history : List Entry) (item : PlainItem) : Type 0 where
  pub entry : Entry
  pub there : Contains history entry
  pub queued : IsQueued entry item.frame item.picture item.crop

queued_by : (history : List Entry) (item : PlainItem) → Contains (events history) (Hand item) → WasQueuedBy history item
queued_by [] item there = has_none (Hand item) there
queued_by (entry ∷ earlier) item there = elim (happened (events_of (events earlier) earlier entry.call entry.reply) (events earlier) (Hand item) there) [
  | inl c ↦
      let it = handing (events earlier) earlier entry.call entry.reply item c in
      record {
        entry = entry;
        there = has_here entry earlier;
        queued = record { lease = it.lease; width = it.width; height = it.height; time = it.time; fence = it.fence; call = it.call; reply = it.reply };
      }
  | inr c ↦ let it = queued_by earlier item c in record { entry = it.entry; there = has_later entry it.entry earlier it.there; queued = it.queued }
]

-- what an acquire gives is the item in front
in_front : (refusal : Option QStatus) (count dropped : ℕ) (front : Option PlainItem) (item : PlainItem) → reply.Acquired item dropped ≡ refused_or refusal (acquired_item count front) → front ≡ Some item
in_front (Some cause) count dropped front item e = absurd (cc (e))
in_front None count dropped None item e = absurd (cc (e))
in_front None count dropped (Some other) item e = cc

has_got : {X : Type 0} (xs : List X) (k : ℕ) (x : X) → slice_get xs k ≡ Some x → Contains xs x
has_got xs k x e = (k, slice_get_within xs k x e, get_or_from_slice_get xs k x x e)

-- an item that was acquired was queued by an earlier call
pub acquired_was_queued : (width height : ℕ) (earlier : List Entry) (caller : ActorId) (expected dropped : ℕ) (item : PlainItem)
    → reply.Acquired item dropped ≡ reply_after width height earlier caller (call.Acquire expected) → WasQueuedBy earlier item
acquired_was_queued width height earlier caller expected dropped item e =
    let told = told_by width height earlier in
    let front : front_after_drops expected told ≡ Some item = in_front (refusal_of told caller (call.Acquire expected)) (dropped_count expected told.items) dropped (front_after_drops expected told) item e in
    queued_by earlier item (handed_in item (events earlier) (has_got told.items (dropped_count expected told.items) item front))

-- no event takes back a frame number
frame_more : (event : Event) (before : List Event) → frames_queued before ≤ frames_queued (event ∷ before)
frame_more (Make t width height maker) before = omega arith
frame_more (Lend t) before = omega arith
frame_more (Hand item) before = omega arith
frame_more (Take t) before = omega arith
frame_more (Back t fence) before = omega arith
frame_more (Gone t) before = omega arith
frame_more (Mark t) before = omega arith
frame_more Unmark before = omega arith

frames_more : (new before : List Event) → frames_queued before ≤ frames_queued (happening new before)
frames_more [] before = omega arith
frames_more (event ∷ new) before =
    let one = frame_more event before in
    let rest = frames_more new (event ∷ before) in
    omega (arith, one, rest)

queued_frame : (refusal : Option QStatus) (frame next : ℕ) → reply.Queued frame ≡ refused_or refusal (reply.Queued next) → frame ≡ next
queued_frame None frame next e = cc
queued_frame (Some cause) frame next e = absurd (cc (e))

-- a call that queues a frame gives it the next number
next_frame : (width height : ℕ) (earlier : List Entry) (entry : Entry) (frame picture : ℕ) (crop : Rect) → entry.reply ≡ reply_after width height earlier entry.caller entry.call
    → IsQueued entry frame picture crop → frame ≡ frames_queued (events earlier) + 1
next_frame width height earlier entry frame picture crop legal queued =
    let asked = call.Queue queued.lease picture queued.width queued.height queued.time crop queued.fence in
    queued_frame (refusal_of (told_by width height earlier) entry.caller asked) frame (frames_queued (events earlier) + 1)
    (sym queued.reply ∙ legal ∙ ap (reply_after width height earlier entry.caller) queued.call)

-- and adds one to those that were queued
one_more : (earlier : List Entry) (entry : Entry) (frame picture : ℕ) (crop : Rect) → IsQueued entry frame picture crop
    → frames_queued (events earlier) + 1 ≤ frames_queued (events (entry ∷ earlier))
one_more earlier entry frame picture crop queued =
    let before = events earlier in
    let asked = call.Queue queued.lease picture queued.width queued.height queued.time crop queued.fence in
    let item : PlainItem = record {
      slot = queued.lease.slot;
      held = queued.lease.held;
      frame = frame;
      picture = picture;
      time = queued.time;
      droppable = asynchronous earlier;
      fence = queued.fence;
      crop = crop;
    } in
    let counted : frames_queued before + 1 ≤ frames_queued (happening (events_of before earlier asked (reply.Queued frame)) before) =
    frames_more (back_if (replaced_slot (items_after before))) (Hand item ∷ before) in
    subst (λ (given : PlainReply). frames_queued before + 1 ≤ frames_queued (happening (events_of before earlier entry.call given) before)) (sym queued.reply)
    (subst (λ (c : PlainCall). frames_queued before + 1 ≤ frames_queued (happening (events_of before earlier c (reply.Queued frame)) before)) (sym queued.call) counted)

-- no frame that was queued has a greater number than there are frames
below_count : (width height : ℕ) (history : List Entry) (entry : Entry) (frame picture : ℕ) (crop : Rect) → AreReplies width height history → Contains history entry → IsQueued entry frame picture crop
    → frame ≤ frames_queued (events history)
below_count width height [] entry frame picture crop legal there queued = has_none entry there
below_count width height (e ∷ earlier) entry frame picture crop legal there queued = elim (has_cases e entry earlier there) [
  | inl same ↦
      let here = subst (λ (x : Entry). IsQueued x frame picture crop) (sym same) queued in
      let is = next_frame width height earlier e frame picture crop legal.0 here in
      let more = one_more earlier e frame picture crop here in
      omega (arith, is, more)
  | inr c ↦
      let before = below_count width height earlier entry frame picture crop legal.1 c queued in
      let more = frames_more (events_of (events earlier) earlier e.call e.reply) (events earlier) in
      omega (arith, before, more)
]

-- no two calls queued frames of one number
pub queued_once : (width height : ℕ) (history : List Entry) (one other : Entry) (frame picture others : ℕ) (crop cut : Rect) → AreReplies width height history
    → Contains history one → Contains history other → IsQueued one frame picture crop → IsQueued other frame others cut → one ≡ other
queued_once width height [] one other frame picture others crop cut legal there too first second = has_none one there
queued_once width height (e ∷ earlier) one other frame picture others crop cut legal there too first second = elim (has_cases e one earlier there) [
  | inl same ↦ elim (has_cases e other earlier too) [
    | inl also ↦ sym same ∙ also
    | inr c ↦
        let is = next_frame width height earlier e frame picture crop legal.0 (subst (λ (x : Entry). IsQueued x frame picture crop) (sym same) first) in
        let below = below_count width height earlier other frame others cut legal.1 c second in
        absurd (omega (arith, is, below))
  ]
  | inr c ↦ elim (has_cases e other earlier too) [
    | inl also ↦
        let is = next_frame width height earlier e frame others cut legal.0 (subst (λ (x : Entry). IsQueued x frame others cut) (sym also) second) in
        let below = below_count width height earlier one frame picture crop legal.1 c first in
        absurd (omega (arith, is, below))
    | inr d ↦ queued_once width height earlier one other frame picture others crop cut legal.1 c d first second
  ]
]

-- A history goes on with queueing a frame, and with acquiring one.
use Rattle.std.proofs.Common.{◌≡◌, ℕ, ◌+◌, ◌-◌, suc, zero, true, not, ◌==◌, ◌&&◌, List, [], ◌∷◌, ◌++◌, length, ap, ap₂, ◌∙◌, sym, refl, map, take, drop, slice_get, Option, Some, None, inl, inr}
use Rattle.std.specs.Option.{option_map}
use Rattle.std.proofs.lemmas.Bool.{cases_Bool}
use Rattle.std.proofs.lemmas.List.{map-append}
use Rattle.std.proofs.lemmas.Option.{slice_get-map}
use Rattle.std.specs.Prelude.{if◌then◌else◌}
use Rattle.sf_base.specs.declared.ids.ActorId.{ActorId}
use Rattle.sf_slots.specs.declared.calls.PlainCall.{PlainCall}
use Rattle.sf_slots.specs.declared.calls.PlainCall.TheVariants as call
use Rattle.sf_slots.specs.declared.calls.PlainReply.TheVariants as reply
use Rattle.sf_slots.specs.declared.calls.WriteToken.{WriteToken}
use Rattle.sf_slots.specs.declared.item.Item.{Item}
use Rattle.sf_slots.specs.declared.item.PlainItem.{PlainItem}
use Rattle.sf_slots.specs.declared.settings.Settings.{Settings}
use Rattle.sf_base.specs.declared.status.QStatus.TheVariants as status
use Rattle.sf_slots.specs.declared.slot.SlotState.TheVariants.{Dequeued}
use Rattle.sf_slots.specs.Told.{Told, slot_at, last_item, slot_if_droppable, replaced_slot}
use Rattle.sf_slots.specs.Events.{Event, Hand, Back, Take, frames_queued, buffers_made, items_after}
use Rattle.sf_slots.specs.History.{events, happening, back_if, settings_after}
use Rattle.sf_slots.specs.History as history_of
use Rattle.sf_slots.specs.Queue.{Queue, IsSound, told_of, slot_in, plain_item, last_in, kept_back, replacing, appended, enqueued, handed_over}
use Rattle.sf_slots.specs.Effects.{dropping_if, dropped_first}
use Rattle.sf_slots.specs.Replies.{Refusal, refusal_of, dropped_count, front_after_drops, acquired_item, is_crop_of, given_by}
use Rattle.sf_slots.specs.Tells.{Continues}
use Rattle.sf_slots.proofs.Lists.{length-mapped}
use Rattle.sf_slots.proofs.Sound.{first_alone, last_alone, first_is, IsSound-kept_back}
use Rattle.sf_slots.proofs.Tells.{Tells}
use Rattle.sf_slots.proofs.TellsGone.{Tells-along, happening-append}
use Rattle.sf_slots.proofs.TellsItems.{Tells-kept_back, Tells-handed_over, Tells-appended, Tells-replaced, others_first, others_last}
use Rattle.sf_slots.proofs.HistoryGoesOn.{told_tells, go_on, not_refused, own_unmet, lent_there}

last_plain : {R : Type 0} (items : List (Item R)) → last_item (map plain_item items) ≡ option_map plain_item (last_in items)
last_plain {R} items =
    ap (λ n. slice_get (map plain_item items) (n - 1)) (length-mapped plain_item items) ∙ slice_get-map plain_item items (length items - 1)

-- an item is queued, behind the others or in the place of the last
queued_after : {R : Type 0} (q : Queue R) (es : List Event) (item : Item R) → IsSound q → Tells q es → (slot_in q item.slot.0).state ≡ Dequeued → (found : Option (Item R)) → last_in q.items ≡ found → Tells (appended (replacing q found) item) (happening (back_if (slot_if_droppable (option_map plain_item found))) (Hand (plain_item item) ∷ es))
queued_after {R} q es item sound tells out None last = Tells-appended es sound tells item out
queued_after {R} q es item sound tells out (Some found) last =
    let front : List (Item R) = take (length q.items - 1) q.items in
    let alone = last_alone q found sound last in
    let handed : List Event = Hand (plain_item item) ∷ es in
    elim (cases_Bool found.droppable) [
      | inl met ↦ Tells-along _ _
          (ap (λ droppable. appended (if droppable then kept_back (record q { items = front }) found else q) item) met)
          (ap (λ droppable. happening (back_if (if droppable then Some found.slot.0 else None)) handed) met)
          (Tells-replaced es sound tells item found front out alone (others_last q found alone last))
      | inr unmet ↦ Tells-along _ _
          (ap (λ droppable. appended (if droppable then kept_back (record q { items = front }) found else q) item) unmet)
          (ap (λ droppable. happening (back_if (if droppable then Some found.slot.0 else None)) handed) unmet)
          (Tells-appended es sound tells item out)
    ]

Tells-enqueued : {R : Type 0} (q : Queue R) (es : List Event) (item : Item R) → IsSound q → Tells q es → (slot_in q item.slot.0).state ≡ Dequeued → Tells (enqueued q item) (happening (back_if (replaced_slot (items_after es))) (Hand (plain_item item) ∷ es))
Tells-enqueued {R} q es item sound tells out =
    Tells-along _ _ refl (ap (λ last. happening (back_if (slot_if_droppable last)) (Hand (plain_item item) ∷ es)) (ap last_item (sym tells.items) ∙ last_plain q.items)) (queued_after q es item sound tells out (last_in q.items) refl)

settings-replacing : {R : Type 0} (q : Queue R) (found : Option (Item R)) → (replacing q found).settings ≡ q.settings
settings-replacing q None = refl
settings-replacing q (Some last) = elim (cases_Bool last.droppable) [ inl met ↦ rw met refl | inr unmet ↦ rw unmet refl ]

-- a slot that comes back counts for nothing
back_counts : (settings : Settings) (slot : Option ℕ) (es : List Event) → record settings { frames = frames_queued es; buffers = buffers_made es } ≡ record settings { frames = frames_queued (happening (back_if slot) es); buffers = buffers_made (happening (back_if slot) es) }
back_counts settings None es = refl
back_counts settings (Some s) es = refl

-- the call that queues an item from a lease
abbrev pub queueing : WriteToken → ℕ → ℕ → PlainItem → PlainCall
queueing lease width height item = call.Queue lease item.picture width height item.time item.crop item.fence

pub Continues-Queue : {R : Type 0} (q : Queue R) (caller : ActorId) (lease : WriteToken) (width height : ℕ) (item : Item R) → IsSound q → refusal_of (told_of q) caller (queueing lease width height (plain_item item)) ≡ None → item.slot ≡ lease.slot → item.held ≡ lease.held → item.frame ≡ q.settings.frames + 1 → item.droppable ≡ q.settings.asynchronous → Continues q (enqueued q item) caller (queueing lease width height (plain_item item)) (reply.Queued (q.settings.frames + 1))
Continues-Queue {R} q caller lease width height item sound none slot held frame droppable =
    let asked : PlainCall = queueing lease width height (plain_item item) in
    let marks : List Refusal = (not (slot_at (told_of q) lease.slot.0).requested, status.BadValue) ∷ (not ((width == lease.held.width) && (height == lease.held.height)), status.BadValue) ∷ (not (is_crop_of lease.held item.crop), status.BadValue) ∷ [] in
    let there : (slot_in q lease.slot.0).state ≡ Dequeued = lent_there (told_of q) lease.slot lease.held marks (own_unmet (told_of q) caller asked none) in
    let out : (slot_in q item.slot.0).state ≡ Dequeued = ap (λ at. (slot_in q at.0).state) slot ∙ there in
    go_on q (enqueued q item) caller asked (reply.Queued (q.settings.frames + 1)) (not_refused (told_of q) caller asked (reply.Queued (q.settings.frames + 1)) none refl) (λ w h step history told.
    let es : List Event = events history in
    let tells = told_tells w h history told in
    let alike : record { slot = lease.slot; held = lease.held; frame = q.settings.frames + 1; picture = item.picture; time = item.time; droppable = history_of.asynchronous history; fence = item.fence; crop = item.crop } ≡ plain_item item =
    λ i. record { slot = sym slot i; held = sym held i; frame = sym frame i; picture = item.picture; time = item.time; droppable = (sym (ap (λ (t : Told). t.settings.asynchronous) told) ∙ sym droppable) i; fence = item.fence; crop = item.crop } in
    record {
      tells = Tells-along _ _ refl (ap (λ (handed : PlainItem). happening (back_if (replaced_slot (items_after es))) (Hand handed ∷ es)) alike) (Tells-enqueued q es item sound tells out);
      settings = ap (λ (settings : Settings). record settings { queued = true; frames = settings.frames + 1 }) (settings-replacing q (last_in q.items) ∙ ap (λ (t : Told). t.settings) told)
          ∙ back_counts (record (settings_after w h history) { queued = true }) (replaced_slot (items_after es)) (Hand (record { slot = lease.slot; held = lease.held; frame = q.settings.frames + 1; picture = item.picture; time = item.time; droppable = history_of.asynchronous history; fence = item.fence; crop = item.crop }) ∷ es);
    })

take_next : {A : Type 0} (n : ℕ) (xs : List A) → take (suc n) xs ≡ take n xs ++ take 1 (drop n xs)
take_next zero xs = refl
take_next (suc n) [] = refl
take_next (suc n) (x ∷ xs) = ap (λ ys. x ∷ ys) (take_next n xs)

drop_next : {A : Type 0} (n : ℕ) (xs : List A) → drop 1 (drop n xs) ≡ drop (suc n) xs
drop_next zero xs = refl
drop_next (suc n) [] = refl
drop_next (suc n) (x ∷ xs) = drop_next n xs

first_left : {A : Type 0} (n : ℕ) (xs : List A) → slice_get (drop n xs) 0 ≡ slice_get xs n
first_left zero xs = refl
first_left (suc n) [] = refl
first_left (suc n) (x ∷ xs) = first_left n xs

map_left : {A B : Type 0} (f : A → B) (n : ℕ) (xs : List A) → drop n (map f xs) ≡ map f (drop n xs)
map_left f zero xs = refl
map_left f (suc n) [] = refl
map_left f (suc n) (x ∷ xs) = map_left f n xs

no_first : {A : Type 0} (xs : List A) → slice_get xs 0 ≡ None → xs ≡ []
no_first [] none = refl
no_first (x ∷ xs) none = absurd (cc (none))

-- a queue whose first items were dropped
record IsDropped {R : Type 0} (q p : Queue R) (n : ℕ) (es : List Event) : Type 0 where
  tells : Tells p (happening (map history_of.kept_back (take n (map plain_item q.items))) es)
  sound : IsSound p
  items : p.items ≡ drop n q.items
  settings : p.settings ≡ q.settings

dropped_one : {R : Type 0} (q : Queue R) (es : List Event) → IsSound q → Tells q es → (found : Option (Item R)) → slice_get q.items 0 ≡ found → IsDropped q (dropping_if q found) 1 es
dropped_one {R} q es sound tells None first =
    let none = no_first q.items first in
    record {
      tells = Tells-along _ _ refl (ap (λ (items : List (Item R)). happening (map history_of.kept_back (take 1 (map plain_item items))) es) none) tells;
      sound = sound;
      items = none ∙ sym (ap (drop 1) none);
      settings = refl;
    }
dropped_one {R} q es sound tells (Some item) first =
    let alone = first_alone q item sound first in
    record {
      tells = Tells-along _ _ refl (ap (λ (items : List (Item R)). happening (map history_of.kept_back (take 1 (map plain_item items))) es) (first_is q.items item first)) (Tells-kept_back es sound tells item (drop 1 q.items) alone (others_first q item alone first));
      sound = IsSound-kept_back q item (drop 1 q.items) sound alone;
      items = refl;
      settings = refl;
    }

dropped_all : {R : Type 0} (n : ℕ) (q : Queue R) (es : List Event) → IsSound q → Tells q es → IsDropped q (dropped_first n q) n es
dropped_all {R} zero q es sound tells = record { tells = tells; sound = sound; items = refl; settings = refl }
dropped_all {R} (suc n) q es sound tells =
    let plain : List PlainItem = map plain_item q.items in
    let p : Queue R = dropped_first n q in
    let before = dropped_all n q es sound tells in
    let es_before : List Event = happening (map history_of.kept_back (take n plain)) es in
    let one = dropped_one p es_before before.sound before.tells (slice_get p.items 0) refl in
    let left : drop n plain ≡ map plain_item p.items = map_left plain_item n q.items ∙ ap (map plain_item) (sym before.items) in
    record {
      tells = Tells-along _ _ refl
          (ap (λ items. happening (map history_of.kept_back items) es) (take_next n plain)
          ∙ ap (λ happened. happening happened es) (map-append history_of.kept_back (take n plain) (take 1 (drop n plain)))
          ∙ happening-append (map history_of.kept_back (take n plain)) (map history_of.kept_back (take 1 (drop n plain))) es
          ∙ ap (λ items. happening (map history_of.kept_back (take 1 items)) es_before) left) one.tells;
      sound = one.sound;
      items = one.items ∙ ap (drop 1) before.items ∙ drop_next n q.items;
      settings = one.settings ∙ before.settings;
    }

kept_counts : (settings : Settings) (items : List PlainItem) (s : ℕ) (es : List Event) → record settings { frames = frames_queued es; buffers = buffers_made es } ≡ record settings { frames = frames_queued (happening (map history_of.kept_back items ++ Take s ∷ []) es); buffers = buffers_made (happening (map history_of.kept_back items ++ Take s ∷ []) es) }
kept_counts settings [] s es = refl
kept_counts settings (item ∷ items) s es = kept_counts settings items s (Back item.slot.0 None ∷ es)

pub Continues-Acquire : {R : Type 0} (q : Queue R) (caller : ActorId) (expected : ℕ) (item : Item R) (dropped : ℕ) → IsSound q → refusal_of (told_of q) caller (call.Acquire expected) ≡ None → dropped ≡ dropped_count expected (told_of q).items → slice_get (dropped_first dropped q).items 0 ≡ Some item → Continues q (handed_over (dropped_first dropped q) item) caller (call.Acquire expected) (reply.Acquired (plain_item item) dropped)
Continues-Acquire {R} q caller expected item dropped sound none counted first =
    let p : Queue R = dropped_first dropped q in
    let plain : List PlainItem = map plain_item q.items in
    let got : (es : List Event) → Tells q es → slice_get plain dropped ≡ Some (plain_item item) = (λ es tells.
    slice_get-map plain_item q.items dropped ∙ ap (option_map plain_item) (sym (first_left dropped q.items) ∙ ap (λ (items : List (Item R)). slice_get items 0) (sym (dropped_all dropped q es sound tells).items) ∙ first)) in
    λ width height step history told.
    let es : List Event = events history in
    let tells = told_tells width height history told in
    let left = dropped_all dropped q es sound tells in
    let front : front_after_drops expected (told_of q) ≡ Some (plain_item item) = ap (slice_get plain) (sym counted) ∙ got es tells in
    let given : given_by (told_of q) (call.Acquire expected) ≡ reply.Acquired (plain_item item) dropped = ap₂ acquired_item (sym counted) front in
    go_on q (handed_over p item) caller (call.Acquire expected) (reply.Acquired (plain_item item) dropped) (not_refused (told_of q) caller (call.Acquire expected) (reply.Acquired (plain_item item) dropped) none given) (λ w h later past known.
    let es_past : List Event = events past in
    let known_tells = told_tells w h past known in
    let after = dropped_all dropped q es_past sound known_tells in
    let kept : List Event = map history_of.kept_back (take dropped plain) in
    record {
      tells = Tells-along _ _ refl
          (ap (λ (items : List PlainItem). happening (map history_of.kept_back (take dropped items) ++ Take item.slot.0 ∷ []) es_past) (sym known_tells.items) ∙ happening-append kept (Take item.slot.0 ∷ []) es_past)
          (Tells-handed_over (happening kept es_past) after.sound after.tells item (first_alone p item after.sound first) first);
      settings = after.settings ∙ ap (λ (t : Told). t.settings) known ∙ kept_counts (settings_after w h past) (take dropped (items_after es_past)) item.slot.0 es_past;
    }) width height step history told

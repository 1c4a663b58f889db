-- Each buffer that comes to a queue has a number of its own.
use Rattle.std.proofs.Common.{◌≡◌, ℕ, ◌+◌, ◌≤◌, ◌⊎◌, Bool, true, false, is_some, List, [], ◌∷◌, arith, ap, ◌∙◌, sym, refl, inl, inr, subst, Option, Some, None}
use Rattle.std.specs.Prelude.{unwrap_or, if◌then◌else◌}
use Rattle.std.proofs.lemmas.Bool.{cases_Bool, eq-eqb, eqb-true, false≢true}
use Rattle.sf_base.specs.declared.ids.ActorId.{ActorId}
use Rattle.sf_base.specs.declared.ids.QueueId.{QueueId}
use Rattle.sf_base.specs.declared.ids.SlotId.{SlotId}
use Rattle.sf_base.specs.Fences.{Fence}
use Rattle.sf_slots.specs.declared.calls.Entry.{Entry}
use Rattle.sf_slots.specs.declared.calls.PlainCall.{PlainCall}
use Rattle.sf_slots.specs.declared.calls.PlainCall.TheVariants as call
use Rattle.sf_slots.specs.declared.calls.PlainReply.{PlainReply}
use Rattle.sf_slots.specs.declared.calls.PlainReply.TheVariants as reply
use Rattle.sf_slots.specs.declared.item.PlainItem.{PlainItem}
use Rattle.sf_slots.specs.declared.slot.Held.{Held}
use Rattle.sf_slots.specs.Events.{Event, Make, Lend, Hand, Take, Back, Gone, Mark, Unmark, buffers_made}
use Rattle.sf_slots.specs.History.{events, events_of, happening, told_by}
use Rattle.sf_slots.specs.Replies.{acquired_item, dequeued_from, dropped_count, front_after_drops, has_size, reply_after, size_asked}
use Rattle.sf_slots.specs.Told.{Told, slot_at, slot_for}
use Rattle.sf_actor_set.specs.sf_surface.declared.call.QCall.{QCall}
use Rattle.sf_actor_set.specs.sf_surface.declared.call.QCall.TheVariants as asks
use Rattle.sf_actor_set.specs.sf_surface.declared.mark.QueueMark.{QueueMark}
use Rattle.sf_actor_set.specs.sf_surface.Calls.{told_call}
use Rattle.sf_actor_set.specs.sf_surface.Histories.{Made, caller, told, told_entry, told_reply}
use Rattle.sf_actor_set.specs.sf_actor.Makers.{making_of, makes}
use Rattle.law_rights.specs.MakerCalls.{IsNewAt}
use Rattle.law_rights.specs.Makers.{RightAt}
use Rattle.law_rights.proofs.SlotAnswers.{given_then}
use Rattle.law_rights.proofs.SlotRights.{events_more}

-- events make no buffer fewer
buffers_grow : (happens es : List Event) → buffers_made es ≤ buffers_made (happening happens es)
buffers_grow [] es = omega arith
buffers_grow (Make t width height maker ∷ happens) es = let rest = buffers_grow happens (Make t width height maker ∷ es) in omega (arith, rest)
buffers_grow (Hand item ∷ happens) es = buffers_grow happens (Hand item ∷ es)
buffers_grow (Lend t ∷ happens) es = buffers_grow happens (Lend t ∷ es)
buffers_grow (Take t ∷ happens) es = buffers_grow happens (Take t ∷ es)
buffers_grow (Back t fence ∷ happens) es = buffers_grow happens (Back t fence ∷ es)
buffers_grow (Gone t ∷ happens) es = buffers_grow happens (Gone t ∷ es)
buffers_grow (Mark t ∷ happens) es = buffers_grow happens (Mark t ∷ es)
buffers_grow (Unmark ∷ happens) es = buffers_grow happens (Unmark ∷ es)

-- what is acquired is an item that waited
not_attached : (dropped : ℕ) (front : Option PlainItem) (slot : SlotId) (held : Held) → acquired_item dropped front ≡ reply.Attached slot held → ⊥
not_attached dropped None slot held e = absurd (cc (e))
not_attached dropped (Some item) slot held e = absurd (cc (e))

not_dequeued : (dropped : ℕ) (front : Option PlainItem) (slot : SlotId) (held : Held) (requested made : Bool) (fence : Fence) → acquired_item dropped front ≡ reply.Dequeued slot held requested made fence → ⊥
not_dequeued dropped None slot held requested made fence e = absurd (cc (e))
not_dequeued dropped (Some item) slot held requested made fence e = absurd (cc (e))

-- the buffer that a dequeue makes is the next one
dequeued_next : (told : Told) (s : ℕ) (size : ℕ × ℕ) (slot : SlotId) (held : Held) (requested : Bool) (fence : Fence) → dequeued_from told s size ≡ reply.Dequeued slot held requested true fence
    → held.number ≡ told.settings.buffers + 1
dequeued_next told s size slot held requested fence is = by_size (has_size (slot_at told s).held size) refl
  where
    by_size : (has : Bool) → has_size (slot_at told s).held size ≡ has → held.number ≡ told.settings.buffers + 1
    by_size true met = absurd (cc (rw met at is))
    by_size false unmet = cc (rw unmet at is)

dequeued_else : (told : Told) (s : ℕ) (size : ℕ × ℕ) (slot : SlotId) (held : Held) → dequeued_from told s size ≡ reply.Attached slot held → ⊥
dequeued_else told s size slot held is = by_size (has_size (slot_at told s).held size) refl
  where
    by_size : (has : Bool) → has_size (slot_at told s).held size ≡ has → ⊥
    by_size true met = absurd (cc (rw met at is))
    by_size false unmet = absurd (cc (rw unmet at is))

-- the buffer that a reply makes is the next one, and then so many were made
record IsNext (history : List Entry) (asked : PlainCall) (given : PlainReply) (number : ℕ) : Type 0 where
  next : number ≡ buffers_made (events history) + 1
  counts : number ≤ buffers_made (happening (events_of (events history) history asked given) (events history))

makes_next : (width height : ℕ) (history : List Entry) (caller : ActorId) (asked : PlainCall) (given : PlainReply) (number : ℕ) → reply_after width height history caller asked ≡ given → makes number given ≡ true
    → IsNext history asked given number
makes_next width height history caller (call.Dequeue wide high wait) (reply.Dequeued slot held requested true fence) number is made =
    let told = told_by width height history in
    let given = given_then told caller (call.Dequeue wide high wait) (reply.Dequeued slot held requested true fence) is tt in
    let next = dequeued_next told (unwrap_or (slot_for true told) 0) (size_asked told.settings wide high) slot held requested fence given.1 in
    let same = eqb-true held.number number made in
    record { next = omega (arith, next, same); counts = omega (arith, next, same) }
makes_next width height history caller (call.Attach loose) (reply.Attached slot held) number is made =
    let given = given_then (told_by width height history) caller (call.Attach loose) (reply.Attached slot held) is tt in
    let next : held.number ≡ buffers_made (events history) + 1 = cc (given.1) in
    let same = eqb-true held.number number made in
    record { next = omega (arith, next, same); counts = omega (arith, next, same) }
makes_next width height history caller (call.AttachRead loose) (reply.Attached slot held) number is made =
    let given = given_then (told_by width height history) caller (call.AttachRead loose) (reply.Attached slot held) is tt in
    let next : held.number ≡ buffers_made (events history) + 1 = cc (given.1) in
    let same = eqb-true held.number number made in
    record { next = omega (arith, next, same); counts = omega (arith, next, same) }
makes_next width height history caller (call.Dequeue wide high wait) (reply.Attached slot held) number is made =
    let told = told_by width height history in
    let given = given_then told caller (call.Dequeue wide high wait) (reply.Attached slot held) is tt in
    absurd (dequeued_else told (unwrap_or (slot_for true told) 0) (size_asked told.settings wide high) slot held given.1)
makes_next width height history caller (call.Acquire expected) (reply.Attached slot held) number is made =
    let told = told_by width height history in
    let given = given_then told caller (call.Acquire expected) (reply.Attached slot held) is tt in
    absurd (not_attached (dropped_count expected told.items) (front_after_drops expected told) slot held given.1)
makes_next width height history caller (call.Acquire expected) (reply.Dequeued slot held requested true fence) number is made =
    let told = told_by width height history in
    let given = given_then told caller (call.Acquire expected) (reply.Dequeued slot held requested true fence) is tt in
    absurd (not_dequeued (dropped_count expected told.items) (front_after_drops expected told) slot held requested true fence given.1)
makes_next width height history caller asked (reply.Attached slot held) number is made =
    let given = given_then (told_by width height history) caller asked (reply.Attached slot held) is tt in
    absurd (cc (given.1))
makes_next width height history caller asked (reply.Dequeued slot held requested true fence) number is made =
    let given = given_then (told_by width height history) caller asked (reply.Dequeued slot held requested true fence) is tt in
    absurd (cc (given.1))
makes_next width height history caller asked (reply.Dequeued slot held requested false fence) number is made = absurd (false≢true made)
makes_next width height history caller asked given number is made = absurd (false≢true made)

module _ {B : Type 0} (mark : QueueMark) where
  -- so many buffers were made
  abbrev pub buffers_of : List (Made B) → ℕ
  buffers_of calls = buffers_made (events (told mark calls))

  -- the newest call is the one that made a buffer, or an earlier one is
  pub making_more : (made : Made B) (earlier : List (Made B)) (number : ℕ)
      → making_of (told mark (made ∷ earlier)) number ≡ (if makes number (told_reply mark earlier made.by made.call.1) then Some (told_entry mark (told mark earlier) made) else making_of (told mark earlier) number)
  unfolding told
  making_more made earlier number = refl

  buffers_more : (made : Made B) (earlier : List (Made B)) → buffers_of earlier ≤ buffers_of (made ∷ earlier)
  buffers_more made earlier = subst (λ (new : List Event). buffers_of earlier ≤ buffers_made new) (sym (events_more mark made earlier))
      (buffers_grow (events_of (events (told mark earlier)) (told mark earlier) (told_call mark.queue made.call.1) (told_reply mark earlier made.by made.call.1)) (events (told mark earlier)))

  -- the number of a buffer that was made is that of one of so many
  pub made_below : (calls : List (Made B)) (number : ℕ) → is_some (making_of (told mark calls) number) ≡ true → number ≤ buffers_of calls
  unfolding told
  made_below [] number there = absurd (false≢true there)
  made_below (made ∷ earlier) number there = by_reply (cases_Bool (makes number (told_reply mark earlier made.by made.call.1))) (made_below earlier number)
    where
      by_reply : (makes number (told_reply mark earlier made.by made.call.1) ≡ true) ⊎ (makes number (told_reply mark earlier made.by made.call.1) ≡ false)
          → (is_some (making_of (told mark earlier) number) ≡ true → number ≤ buffers_of earlier) → number ≤ buffers_of (made ∷ earlier)
      by_reply (inl met) further =
          let next = makes_next mark.width mark.height (told mark earlier) (caller made.by) (told_call mark.queue made.call.1) (told_reply mark earlier made.by made.call.1) number refl met in
          let counts = next.counts in
          let more = ap (λ (es : List Event). buffers_made es) (events_more mark made earlier) in
          omega (arith, counts, more)
      by_reply (inr unmet) further =
          let low = further (rw unmet at there) in
          let more = buffers_more made earlier in
          omega (arith, low, more)

  -- what a new call makes was not made before
  pub newly_made : (made : Made B) (earlier : List (Made B)) (number : ℕ) → makes number (told_reply mark earlier made.by made.call.1) ≡ true → is_some (making_of (told mark earlier) number) ≡ true → ⊥
  newly_made made earlier number met there =
      let next = makes_next mark.width mark.height (told mark earlier) (caller made.by) (told_call mark.queue made.call.1) (told_reply mark earlier made.by made.call.1) number refl met in
      let number_is = next.next in
      let low = made_below earlier number there in
      omega (arith, number_is, low)

  -- what was made before was made by the same call
  pub making_same : (made : Made B) (earlier : List (Made B)) (number : ℕ) → is_some (making_of (told mark earlier) number) ≡ true → making_of (told mark (made ∷ earlier)) number ≡ making_of (told mark earlier) number
  making_same made earlier number there = by_reply (cases_Bool (makes number (told_reply mark earlier made.by made.call.1)))
    where
      by_reply : (makes number (told_reply mark earlier made.by made.call.1) ≡ true) ⊎ (makes number (told_reply mark earlier made.by made.call.1) ≡ false) → making_of (told mark (made ∷ earlier)) number ≡ making_of (told mark earlier) number
      by_reply (inl met) = absurd (newly_made made earlier number met there)
      by_reply (inr unmet) = making_more made earlier number ∙ ap (λ (b : Bool). if b then Some (told_entry mark (told mark earlier) made) else making_of (told mark earlier) number) unmet

-- a buffer that comes to the queue has the number that the reply makes
pub new_makes : {B : Type 0} (queue : QueueId) (asked : QCall B) (answered : PlainReply) (right : RightAt) → IsNewAt queue asked answered right → (makes right.at.number answered ≡ true) × (right.at.queue ≡ queue.0)
new_makes queue (asks.Dequeue wide high wait permit) (reply.Dequeued slot held requested true fence) right is =
    let same = ap (λ (r : RightAt). r.at.number) is in (eq-eqb held.number right.at.number (sym same), ap (λ (r : RightAt). r.at.queue) is)
new_makes queue (asks.Attach loose) (reply.Attached slot held) right is =
    let same = ap (λ (r : RightAt). r.at.number) is in (eq-eqb held.number right.at.number (sym same), ap (λ (r : RightAt). r.at.queue) is)
new_makes queue (asks.AttachRead loose) (reply.Attached slot held) right is =
    let same = ap (λ (r : RightAt). r.at.number) is in (eq-eqb held.number right.at.number (sym same), ap (λ (r : RightAt). r.at.queue) is)
new_makes queue asked answered right is = absurd is

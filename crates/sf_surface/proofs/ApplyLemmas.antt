-- What a queue with its history keeps, over a call.
use Rattle.std.proofs.Common.{◌≡◌, ℕ, ◌<◌, ◌-◌, ◌^◌, suc, zero, List, [], ◌∷◌, ◌++◌, Option, None, Some, length, get_or, map, replicate, reverse, arith, ap, ◌∙◌, sym, refl, subst, true}
use Rattle.std.proofs.lemmas.List.{length-map, length-reverse, map-append, reverse-append}
use Rattle.std.proofs.lemmas.List.Elements.{All-nil}
use Rattle.atomic_table.specs.Seated.{TableId}
use Rattle.sf_base.specs.declared.ids.QueueId.{QueueId}
use Rattle.sf_base.specs.declared.status.QStatus.TheVariants.{WouldBlock}
use Rattle.sf_calls.specs.Histories.{IsLegal, entry}
use Rattle.sf_slots.specs.declared.calls.Entry.{Entry as PlainEntry}
use Rattle.sf_slots.specs.declared.calls.PlainReply.{PlainReply}
use Rattle.sf_slots.specs.declared.calls.PlainReply.TheVariants as plain
use Rattle.sf_slots.specs.declared.item.Item.{Item}
use Rattle.sf_slots.specs.declared.slot.Held.{Held}
use Rattle.sf_slots.specs.Queue.{Queue, empty_queue, told_of}
use Rattle.sf_slots.specs.Replies.{given_by, refusal_of, refused_or, reply_told}
use Rattle.sf_slots.specs.Tells.{IsNext, IsToldBy}
use Rattle.sf_slots.specs.Told.{Told}
use Rattle.sf_surface.specs.declared.call.QCall.{QCall}
use Rattle.sf_surface.specs.declared.call.QReply.{QReply}
use Rattle.sf_surface.specs.declared.entry.HistEntry.{HistEntry}
use Rattle.sf_surface.specs.declared.mark.QueueMark.{QueueMark}
use Rattle.sf_surface.specs.Calls.{may_wait, told_call}
use Rattle.sf_surface.specs.Hands.{IsReply}
use Rattle.sf_surface.specs.Histories.{Answers, HasNotWaited, Made, Replied, Stored, caller, told, told_entry, told_reply}
use Rattle.sf_surface.specs.Inside.{HasDefaultSize}
use Rattle.sf_surface.specs.Marks.{PermitFits, SpareFits}
use Rattle.sf_surface.specs.Named.{named_of, shown_with}
use Rattle.sf_surface.specs.Objects.{AreAll, Does, IsFitItem, IsFrameOf, IsKept, IsObject, IsSeated, ObjectOf, mark_of}
use Rattle.sf_surface.specs.Shown.{entries_of, shown_call}
use Rattle.sf_surface.specs.Tokens.{IsRightOf, Right}
use Rattle.sf_surface.proofs.CountLemmas.{history_few}
use Rattle.sf_surface.proofs.ShownLemmas.{tells}

-- the entries of calls, with one call more
entries_with : (call : PlainEntry) (calls : List PlainEntry) → entries_of (call ∷ calls) ≡ entries_of calls ++ shown_call call ∷ []
entries_with call calls = ap (λ (xs : List PlainEntry). map shown_call xs) (reverse-append (call ∷ []) calls) ∙ map-append shown_call (reverse calls) (call ∷ [])

no_right : Option Right
no_right = None

none_in : (n s : ℕ) → get_or (replicate n no_right) s None ≡ None
unfolding no_right
none_in zero s = refl
none_in (suc n) zero = refl
none_in (suc n) (suc s) = none_in n s

rights_empty : (P : ℕ → Held → Right → Type 0) (F : Item Right → Type 0) (number : QueueId) (width height : ℕ) → AreAll P F (empty_queue number width height)
unfolding no_right
rights_empty P F number width height = record {
  slots = λ s below buffer turn here right. absurd (cc (right, none_in 64 s));
  items = All-nil F;
  seats = All-nil (IsSeated (empty_queue number width height));
}

module _ {B : Type 0} (table : TableId) where
  -- a new queue
  pub kept_new : (number : QueueId) (width height : ℕ) → HasDefaultSize (empty_queue {R = Right} number width height).settings → IsToldBy {R = Right} (empty_queue number width height) width height [] → IsKept {B = B} table number [] (record { queue = empty_queue number width height; calls = [] })
  unfolding told
  kept_new number width height sized is_told = record {
    numbered = refl;
    shows = refl;
    keeps = record {
      sized = sized;
      told = is_told;
      legal = tt;
      rights = rights_empty (λ s held right. IsRightOf table held right) (IsFitItem table) number width height;
      stored = rights_empty (Stored {B = B} []) (IsFrameOf []) number width height;
    };
  }

  -- the counters stay below their ends, since each rise has its call
  pub counters_low : (number : QueueId) (shown : List HistEntry) (object : ObjectOf B) → IsKept table number shown object → length shown < 2 ^ 63 → (object.queue.settings.buffers < 2 ^ 64 - 1) × (object.queue.settings.frames < 2 ^ 64 - 1)
  counters_low number shown object kept short =
      let calls : List PlainEntry = told (mark_of object) object.calls in
      let few = history_few calls in
      let long : length shown ≡ length calls = ap (λ (xs : List HistEntry). length xs) kept.shows ∙ length-map (reverse calls) shown_call ∙ length-reverse calls in
      let buffers = ap (λ (t : Told). t.settings.buffers) kept.keeps.told in
      let frames = ap (λ (t : Told). t.settings.frames) kept.keeps.told in
      (omega (arith, few.0, long, buffers, short), omega (arith, few.1, long, frames, short))

  module _ (old : ObjectOf B) (after : Queue Right) (by step : ℕ) (asked : QCall B) (reply : QReply B) where
    -- the object after the call
    new_object : ObjectOf B
    new_object = record { queue = after; calls = entry by (step, asked) reply ∷ old.calls }

    told_here : PlainEntry
    told_here = told_entry (mark_of old) (told (mark_of old) old.calls) (entry by (step, asked) reply)

    mark_kept : Does table old.queue after (caller by) asked reply → mark_of old ≡ mark_of new_object
    unfolding new_object
    mark_kept does = λ i. record { queue = sym does.number i; width = sym does.width i; height = sym does.height i }

    goes_on : (does : Does table old.queue after (caller by) asked reply) → IsObject table old → IsNext after old.queue.settings.width old.queue.settings.height (told (mark_of old) old.calls) (record { caller = caller by; step = step; call = told_call old.queue.number asked; reply = does.answered })
    goes_on does kept = does.continues old.queue.settings.width old.queue.settings.height step (told (mark_of old) old.calls) kept.told

    replied : Does table old.queue after (caller by) asked reply → HasNotWaited asked reply → IsObject table old → Replied (mark_of old) old.calls by asked reply
    replied does waited kept = record {
      answer = subst (λ (r : PlainReply). IsReply old.queue.number asked r reply) (goes_on does kept).reply does.hands;
      from = does.from old.calls kept.stored;
      waited = waited;
    }

    -- the call's reply, and its permit
    pub answers_call : Does table old.queue after (caller by) asked reply → HasNotWaited asked reply → IsObject table old → PermitFits table asked → Replied (mark_of old) old.calls by asked reply × SpareFits table reply
    answers_call does waited kept fits = (replied does waited kept, (tells table old.queue.number by step asked does.answered reply does.hands).spare fits)

    told_after : Does table old.queue after (caller by) asked reply → IsObject table old → IsToldBy after old.queue.settings.width old.queue.settings.height (told_here ∷ told (mark_of old) old.calls)
    unfolding told_here
    told_after does kept =
        let next = goes_on does kept in
        subst (λ (r : PlainReply). IsToldBy after old.queue.settings.width old.queue.settings.height ((let call : PlainEntry = record { caller = caller by; step = step; call = told_call old.queue.number asked; reply = r } in call) ∷ told (mark_of old) old.calls)) next.reply next.told

    -- a call keeps what the queue with its history keeps
    keeps_call : Does table old.queue after (caller by) asked reply → HasNotWaited asked reply → IsObject table old → IsObject table new_object
    unfolding new_object told told_here
    keeps_call does waited kept =
        let log : List (Made B) = entry by (step, asked) reply ∷ old.calls in
        let tells_wide = subst (λ (m : QueueMark). IsToldBy after m.width m.height (told m log)) (mark_kept does) (told_after does kept) in
        record {
          sized = record {
            wide = omega (arith, kept.sized.wide, does.width);
            narrow = omega (arith, kept.sized.narrow, does.width);
            high = omega (arith, kept.sized.high, does.height);
            low = omega (arith, kept.sized.low, does.height);
          };
          told = tells_wide;
          legal = subst (λ (m : QueueMark). IsLegal (Answers m) log) (mark_kept does) (replied does waited kept, kept.legal);
          rights = does.rights kept.rights;
          stored = does.stored old.calls step kept.stored;
        }

    -- and what its parts say of each other
    pub kept_call : (number : QueueId) (shown : List HistEntry) → Does table old.queue after (caller by) asked reply → HasNotWaited asked reply → IsKept table number shown old → IsKept table number (shown ++ shown_with by step (named_of number asked) reply ∷ []) (record { queue = after; calls = entry by (step, asked) reply ∷ old.calls })
    unfolding new_object told told_here
    kept_call number shown does waited kept =
        let calls : List PlainEntry = told (mark_of old) old.calls in
        let log : List (Made B) = entry by (step, asked) reply ∷ old.calls in
        let next = goes_on does kept.keeps in
        let named = ap (λ (n : QueueId). shown_with by step (named_of n asked) reply) kept.numbered in
        let here : shown_with by step (named_of old.queue.number asked) reply ≡ shown_call told_here = (tells table old.queue.number by step asked does.answered reply does.hands).shown ∙ ap (λ (r : PlainReply). shown_call (record { caller = caller by; step = step; call = told_call old.queue.number asked; reply = r })) next.reply in
        let last = ap (λ (e : HistEntry). shown ++ e ∷ []) (named ∙ here) ∙ ap (λ (es : List HistEntry). es ++ shown_call told_here ∷ []) kept.shows ∙ sym (entries_with told_here calls) in
        record {
          numbered = kept.numbered ∙ sym does.number;
          shows = last ∙ ap (λ (m : QueueMark). entries_of (told m log)) (mark_kept does);
          keeps = keeps_call does waited kept.keeps;
        }

  -- a call that waits
  pub waits_call : (object : ObjectOf B) (by : ℕ) (asked : QCall B) → IsObject table object → may_wait asked ≡ true → refusal_of (told_of object.queue) (caller by) (told_call object.queue.number asked) ≡ Some WouldBlock → (may_wait asked ≡ true) × (told_reply (mark_of object) object.calls by asked ≡ plain.Refused WouldBlock)
  waits_call object by asked kept waits blocked =
      let asks = told_call object.queue.number asked in
      (waits, sym (ap (λ (t : Told). reply_told t (caller by) asks) kept.told) ∙ ap (λ refusal. refused_or refusal (given_by (told_of object.queue) asks)) blocked)

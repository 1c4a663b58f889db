-- Each frame that a queue gets has a number of its own.
use Rattle.std.proofs.Common.{◌≡◌, ℕ, ◌+◌, ◌≤◌, ◌⊎◌, List, [], ◌∷◌, arith, ap, ◌∙◌, sym, refl, inl, inr, subst}
use Rattle.std.specs.Prelude.{Contains}
use Rattle.std.proofs.lemmas.List.Elements.{Contains-append_cases}
use Rattle.sf_slots.specs.declared.calls.PlainReply.{PlainReply}
use Rattle.sf_slots.specs.declared.calls.PlainReply.TheVariants as plain
use Rattle.sf_slots.specs.declared.item.PlainItem.{PlainItem}
use Rattle.sf_slots.specs.Events.{Event, Make, Lend, Hand, Take, Back, Gone, Mark, Unmark, frames_queued, items_after}
use Rattle.sf_slots.specs.History.{back_if, events, events_of, happening}
use Rattle.sf_slots.specs.Told.{replaced_slot}
use Rattle.sf_actor_set.specs.sf_surface.declared.call.QCall.{QCall}
use Rattle.sf_actor_set.specs.sf_surface.declared.call.QCall.TheVariants as call
use Rattle.sf_actor_set.specs.sf_surface.declared.mark.QueueMark.{QueueMark}
use Rattle.sf_actor_set.specs.sf_surface.Calls.{queued_token, told_call}
use Rattle.sf_actor_set.specs.sf_surface.Histories.{Made, caller, told, told_reply}
use Rattle.law_rights.specs.Calls.{write_of, writes_in}
use Rattle.law_rights.specs.Ledgers.{Write}
use Rattle.law_rights.proofs.SlotAnswers.{queued_below}
use Rattle.law_rights.proofs.TurnCounts.{none_in, the_only}
use Rattle.law_rights.proofs.SlotRights.{events_more}

-- events make no frame fewer
frames_grow : (happens es : List Event) → frames_queued es ≤ frames_queued (happening happens es)
frames_grow [] es = omega arith
frames_grow (Hand item ∷ happens) es = let rest = frames_grow happens (Hand item ∷ es) in omega (arith, rest)
frames_grow (Make t width height maker ∷ happens) es = frames_grow happens (Make t width height maker ∷ es)
frames_grow (Lend t ∷ happens) es = frames_grow happens (Lend t ∷ es)
frames_grow (Take t ∷ happens) es = frames_grow happens (Take t ∷ es)
frames_grow (Back t fence ∷ happens) es = frames_grow happens (Back t fence ∷ es)
frames_grow (Gone t ∷ happens) es = frames_grow happens (Gone t ∷ es)
frames_grow (Mark t ∷ happens) es = frames_grow happens (Mark t ∷ es)
frames_grow (Unmark ∷ happens) es = frames_grow happens (Unmark ∷ es)

hand_counts : (item : PlainItem) (happens es : List Event) → frames_queued es + 1 ≤ frames_queued (happening (Hand item ∷ happens) es)
hand_counts item happens es = frames_grow happens (Hand item ∷ es)

module _ {B : Type 0} where
  -- so many frames were queued
  abbrev pub frames_in : QueueMark → List (Made B) → ℕ
  frames_in mark calls = frames_queued (events (told mark calls))

  pub frames_more : (mark : QueueMark) (made : Made B) (earlier : List (Made B)) → frames_in mark earlier ≤ frames_in mark (made ∷ earlier)
  frames_more mark made earlier = subst (λ (new : List Event). frames_in mark earlier ≤ frames_queued new) (sym (events_more mark made earlier))
      (frames_grow (events_of (events (told mark earlier)) (told mark earlier) (told_call mark.queue made.call.1) (told_reply mark earlier made.by made.call.1)) (events (told mark earlier)))

  -- a frame that is queued is the next one
  pub frame_is_next : (mark : QueueMark) (earlier : List (Made B)) (by : ℕ) (asked : QCall B) (answered : PlainReply) (write : Write) → told_reply mark earlier by asked ≡ answered → Contains (write_of mark.queue asked answered) write
      → (write.frame.0 ≡ mark.queue) × (write.frame.1 ≡ frames_in mark earlier + 1)
  frame_is_next mark earlier by (call.Queue lease picture time crop fence) (plain.Queued frame) write is there =
      let one = the_only _ write there in
      let next = queued_below mark.width mark.height (told mark earlier) (caller by) (queued_token mark.queue lease picture) picture.number picture.width picture.height time crop fence frame is in
      (ap (λ (w : Write). w.frame.0) (sym one), ap (λ (w : Write). w.frame.1) (sym one) ∙ next.1)
  frame_is_next mark earlier by asked answered write is there = absurd (none_in write there)

  -- and then so many were queued at least
  pub frame_counts : (mark : QueueMark) (earlier : List (Made B)) (by : ℕ) (asked : QCall B) (answered : PlainReply) (write : Write) → Contains (write_of mark.queue asked answered) write
      → frames_in mark earlier + 1 ≤ frames_queued (happening (events_of (events (told mark earlier)) (told mark earlier) (told_call mark.queue asked) answered) (events (told mark earlier)))
  frame_counts mark earlier by (call.Queue lease picture time crop fence) (plain.Queued frame) write there =
      hand_counts _ (back_if (replaced_slot (items_after (events (told mark earlier))))) (events (told mark earlier))
  frame_counts mark earlier by asked answered write there = absurd (none_in write there)

  pub frames_below : (mark : QueueMark) (calls : List (Made B)) (write : Write) → Contains (writes_in mark calls) write → (write.frame.0 ≡ mark.queue) × (write.frame.1 ≤ frames_in mark calls)
  frames_below mark [] write there = absurd (none_in write there)
  frames_below mark (made ∷ earlier) write there = by_place (Contains-append_cases (write_of mark.queue made.call.1 (told_reply mark earlier made.by made.call.1)) (writes_in mark earlier) write there) (frames_below mark earlier write)
    where
      by_place : Contains (write_of mark.queue made.call.1 (told_reply mark earlier made.by made.call.1)) write ⊎ Contains (writes_in mark earlier) write
          → (Contains (writes_in mark earlier) write → (write.frame.0 ≡ mark.queue) × (write.frame.1 ≤ frames_in mark earlier)) → (write.frame.0 ≡ mark.queue) × (write.frame.1 ≤ frames_in mark (made ∷ earlier))
      by_place (inl now) before =
          let next = frame_is_next mark earlier made.by made.call.1 (told_reply mark earlier made.by made.call.1) write refl now in
          let counts = frame_counts mark earlier made.by made.call.1 (told_reply mark earlier made.by made.call.1) write now in
          let more = ap (λ (es : List Event). frames_queued es) (events_more mark made earlier) in
          let number = next.1 in
          (next.0, omega (arith, number, counts, more))
      by_place (inr earlier_on) before =
          let was = before earlier_on in
          let low = was.1 in
          let more = frames_more mark made earlier in
          (was.0, omega (arith, low, more))

-- What each move leaves is what its event tells.
use Rattle.std.proofs.Common.{◌≡◌, ℕ, ◌+◌, true, false, ◌==◌, List, [], ◌∷◌, ◌++◌, get_or, set, arith, ap, ◌∙◌, sym, refl, map, Some, inl, inr}
use Rattle.std.proofs.lemmas.Bool.{cases_Bool}
use Rattle.std.specs.Prelude.{if◌then◌else◌}
use Rattle.sf_base.specs.Fences.{Fence, no_points}
use Rattle.sf_slots.specs.declared.slot.Slot.{Slot}
use Rattle.sf_slots.specs.declared.slot.SlotState.TheVariants.{Free, Dequeued, Queued, Acquired}
use Rattle.sf_slots.specs.Told.{unused}
use Rattle.sf_slots.specs.Events.{Event, Make, Lend, Take, Back, Gone, Mark, Unmark, Maker, Consumer, Returned, Elsewhere, freed_after, items_after, buffers_made, frames_queued, frame_after, is_known_to}
use Rattle.sf_slots.specs.History.{slot_after, all_slots}
use Rattle.sf_slots.specs.Queue.{Queue, IsSound, IsOut, without, plain_item, slot_in, lent, taken, seated, next_held, marked, returned, cleared, emptied, unmarked, without_marks}
use Rattle.sf_slots.proofs.Lists.{absent_from}
use Rattle.sf_slots.proofs.Places.{set_at, map_each}
use Rattle.sf_slots.proofs.Lasts.{other_items, freed-last, items-last, append_none, without_absent, others_absent}

-- the events tell of the queue's slots, freed list, items and counters
pub record Tells {R : Type 0} (q : Queue R) (es : List Event) : Type 0 where
  pub slots : q.slots ≡ map (slot_after es) all_slots
  pub freed : q.freed ≡ freed_after es
  pub items : map plain_item q.items ≡ items_after es
  pub frames : q.settings.frames ≡ frames_queued es
  pub buffers : q.settings.buffers ≡ buffers_made es

-- one slot changes as its event says
pub slot_set : {slots : List Slot} (f g : ℕ → Slot) (change : Slot → Slot) (s : ℕ) → slots ≡ map f all_slots → ((u : ℕ) → g u ≡ (if s == u then change (f u) else f u)) → set slots s (change (get_or slots s unused)) ≡ map g all_slots
slot_set {slots} f g change s told each =
    ap (λ xs. set xs s (change (get_or xs s unused))) told ∙ set_at f g change unused s s 0 64 (omega arith) each

-- a slot leaves the freed list
pub freed_less : {R : Type 0} {q : Queue R} (es : List Event) → Tells q es → (s : ℕ) → without s q.freed ≡ without s (freed_after es) ++ []
freed_less {R} {q} es tells s = ap (without s) tells.freed ∙ sym (append_none (without s (freed_after es)))

-- a slot in another state joins the freed list
pub freed_more : {R : Type 0} {q : Queue R} (es : List Event) → IsSound q → Tells q es → (s : ℕ) → ((slot_in q s).state ≡ Free → ⊥) → q.freed ++ s ∷ [] ≡ without s (freed_after es) ++ s ∷ []
freed_more {R} {q} es sound tells s other =
    ap (λ xs. xs ++ s ∷ []) (sym (without_absent q.freed s (absent_from sound.freed s other)) ∙ ap (without s) tells.freed)

-- a slot without an item changes
pub items_same : {R : Type 0} {q : Queue R} (es : List Event) → IsSound q → Tells q es → (s : ℕ) → ((slot_in q s).state ≡ Queued → ⊥) → map plain_item q.items ≡ other_items s (items_after es) ++ []
items_same {R} {q} es sound tells s other =
    sym (others_absent q.items s (absent_from sound.items s other)) ∙ ap (other_items s) tells.items ∙ sym (append_none (other_items s (items_after es)))

pub Tells-lent : {R : Type 0} {q : Queue R} (es : List Event) → IsSound q → Tells q es → (s : ℕ) → (slot_in q s).state ≡ Free → Tells (lent q s) (Lend s ∷ es)
Tells-lent {R} {q} es sound tells s free = record {
  slots = slot_set (slot_after es) (slot_after (Lend s ∷ es)) (λ slot. record slot { state = Dequeued; fence = no_points }) s tells.slots (λ u. elim (cases_Bool (s == u)) [ inl met ↦ rw met refl | inr unmet ↦ rw unmet refl ]);
  freed = freed_less es tells s ∙ sym (freed-last es s (Elsewhere s));
  items = items_same es sound tells s (λ e. cc (free, e)) ∙ sym (items-last es s (Elsewhere s));
  frames = tells.frames;
  buffers = tells.buffers;
}

-- a new buffer is made for a slot that is lent; no frame number goes by it
pub Tells-lent_new : {R : Type 0} {q : Queue R} (es : List Event) → IsSound q → Tells q es → (s width height : ℕ) (maker : Maker) → (slot_in q s).state ≡ Free → ((u : ℕ) → frame_after (Make s width height maker ∷ es) u ≡ frame_after es u) → Tells (seated (lent q s) s width height (is_known_to maker)) (Lend s ∷ Make s width height maker ∷ es)
Tells-lent_new {R} {q} es sound tells s width height maker free same =
    let lending : Slot → Slot = λ slot. record slot { state = Dequeued; fence = no_points } in
    let lent_at : ℕ → Slot = λ u. if s == u then lending (slot_after es u) else slot_after es u in
    let lent_slots : (lent q s).slots ≡ map lent_at all_slots = slot_set (slot_after es) lent_at lending s tells.slots (λ u. refl) in
    record {
      slots = slot_set lent_at (slot_after (Lend s ∷ Make s width height maker ∷ es)) (λ slot. record slot { held = Some (next_held q width height); requested = is_known_to maker }) s lent_slots (λ u. elim (cases_Bool (s == u)) [ inl met ↦ rw (same u, tells.buffers, met) refl | inr unmet ↦ rw (same u, unmet) refl ]);
      freed = freed_less es tells s ∙ sym (freed-last es s (Elsewhere s));
      items = items_same es sound tells s (λ e. cc (free, e)) ∙ sym (items-last es s (Elsewhere s));
      frames = tells.frames;
      buffers = ap (λ n. n + 1) tells.buffers;
    }

-- the consumer attaches a new buffer
pub Tells-taken_new : {R : Type 0} {q : Queue R} (es : List Event) → IsSound q → Tells q es → (s width height : ℕ) → (slot_in q s).state ≡ Free → Tells (seated (taken q s) s width height false) (Take s ∷ Make s width height Consumer ∷ es)
Tells-taken_new {R} {q} es sound tells s width height free =
    let taking : Slot → Slot = λ slot. record slot { state = Acquired; frame = 0; fence = no_points } in
    let taken_at : ℕ → Slot = λ u. if s == u then taking (slot_after es u) else slot_after es u in
    let taken_slots : (taken q s).slots ≡ map taken_at all_slots = slot_set (slot_after es) taken_at taking s tells.slots (λ u. refl) in
    record {
      slots = slot_set taken_at (slot_after (Take s ∷ Make s width height Consumer ∷ es)) (λ slot. record slot { held = Some (next_held q width height); requested = false }) s taken_slots (λ u. elim (cases_Bool (s == u)) [ inl met ↦ rw (tells.buffers, met) refl | inr unmet ↦ rw unmet refl ]);
      freed = freed_less es tells s ∙ sym (freed-last es s (Elsewhere s));
      items = items_same es sound tells s (λ e. cc (free, e)) ∙ sym (items-last es s (Elsewhere s));
      frames = tells.frames;
      buffers = ap (λ n. n + 1) tells.buffers;
    }

pub Tells-marked : {R : Type 0} {q : Queue R} (es : List Event) → Tells q es → (s : ℕ) → Tells (marked q s) (Mark s ∷ es)
Tells-marked {R} {q} es tells s = record {
  slots = slot_set (slot_after es) (slot_after (Mark s ∷ es)) (λ slot. record slot { requested = true }) s tells.slots (λ u. elim (cases_Bool (s == u)) [ inl met ↦ rw met refl | inr unmet ↦ rw unmet refl ]);
  freed = tells.freed;
  items = tells.items;
  frames = tells.frames;
  buffers = tells.buffers;
}

pub Tells-returned : {R : Type 0} {q : Queue R} (es : List Event) → IsSound q → Tells q es → (s : ℕ) (right : R) (fence : Fence) → IsOut (slot_in q s).state → Tells (returned q s right fence) (Back s (Some fence) ∷ es)
Tells-returned {R} {q} es sound tells s right fence out = record {
  slots = slot_set (slot_after es) (slot_after (Back s (Some fence) ∷ es)) (λ slot. record slot { state = Free; fence = fence }) s tells.slots (λ u. elim (cases_Bool (s == u)) [ inl met ↦ rw met refl | inr unmet ↦ rw unmet refl ]);
  freed = freed_more es sound tells s out.not_free ∙ sym (freed-last es s (Returned s));
  items = items_same es sound tells s out.not_queued ∙ sym (items-last es s (Returned s));
  frames = tells.frames;
  buffers = tells.buffers;
}

pub Tells-cleared : {R : Type 0} {q : Queue R} (es : List Event) → IsSound q → Tells q es → (s : ℕ) → ((slot_in q s).state ≡ Queued → ⊥) → Tells (cleared q s) (Gone s ∷ es)
Tells-cleared {R} {q} es sound tells s other = record {
  slots = slot_set (slot_after es) (slot_after (Gone s ∷ es)) emptied s tells.slots (λ u. elim (cases_Bool (s == u)) [ inl met ↦ rw met refl | inr unmet ↦ rw unmet refl ]);
  freed = freed_less es tells s ∙ sym (freed-last es s (Elsewhere s));
  items = items_same es sound tells s other ∙ sym (items-last es s (Elsewhere s));
  frames = tells.frames;
  buffers = tells.buffers;
}

pub Tells-without_marks : {R : Type 0} {q : Queue R} (es : List Event) → Tells q es → Tells (without_marks q) (Unmark ∷ es)
Tells-without_marks {R} {q} es tells = record {
  slots = ap (map unmarked) tells.slots ∙ map_each (slot_after es) (slot_after (Unmark ∷ es)) unmarked all_slots (λ u. refl);
  freed = tells.freed;
  items = tells.items;
  frames = tells.frames;
  buffers = tells.buffers;
}

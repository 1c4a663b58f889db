-- The numbers of buffers: no two slots have one, and none is beyond the count of those that were made. And the items that wait: no
-- two are of one slot, and each queued slot has one.
use Rattle.std.proofs.Common.{◌≡◌, ℕ, ◌+◌, ◌≤◌, Bool, true, false, not, ◌==◌, List, [], ◌∷◌, ◌++◌, Option, Some, None, filter_map, refl, sym, ap, subst, ◌∙◌, inl, inr, arith}
use Rattle.std.proofs.lemmas.Bool.Decides.{nat_tests}
use Rattle.std.specs.Prelude.{◌⊎◌, if◌then◌else◌}
use Rattle.sf_slots.specs.declared.item.PlainItem.{PlainItem}
use Rattle.sf_slots.specs.declared.slot.Held.{Held}
use Rattle.sf_slots.specs.declared.slot.SlotState.{SlotState}
use Rattle.sf_slots.specs.declared.slot.SlotState.TheVariants.{Free, Dequeued, Queued, Acquired}
use Rattle.sf_slots.specs.Events.{Event, Make, Lend, Hand, Take, Back, Gone, Mark, Unmark, Last, Returned, Waiting, Elsewhere, apart_from, last_of_each, state_after, buffer_after, buffers_made, waiting_item, items_after}
use Rattle.sf_slots.proofs.Lasts.{append_none, items-last, other_items}
use Rattle.law_buffers.proofs.SlotFits.{Among}

abbrev pub number_of : Option Held → ℕ
number_of None = 0
number_of (Some x) = x.number

made_by : (n : ℕ) (t s w h : ℕ) (old : Option Held) (held : Held) (b : Bool) → (t == s) ≡ b → (old ≡ Some held → held.number ≤ n)
    → (if b then Some (record { number = n + 1; width = w; height = h }) else old) ≡ Some held → held.number ≤ n + 1
made_by n t s w h old held true e below is = let same : (n + 1) ≡ held.number = ap number_of is in omega (arith, same)
made_by n t s w h old held false e below is = let low = below is in omega (arith, low)

gone_by : (n : ℕ) (old : Option Held) (held : Held) (b : Bool) → (old ≡ Some held → held.number ≤ n) → (if b then None else old) ≡ Some held → held.number ≤ n
gone_by n old held true below is = absurd (cc (is))
gone_by n old held false below is = below is

pub number_below : (es : List Event) (s : ℕ) (held : Held) → buffer_after es s ≡ Some held → held.number ≤ buffers_made es
number_below [] s held e = absurd (cc (e))
number_below (Make t w h maker ∷ es) s held e = made_by (buffers_made es) t s w h (buffer_after es s) held (t == s) refl (number_below es s held) e
number_below (Gone t ∷ es) s held e = gone_by (buffers_made es) (buffer_after es s) held (t == s) (number_below es s held) e
number_below (Lend t ∷ es) s held e = number_below es s held e
number_below (Hand item ∷ es) s held e = number_below es s held e
number_below (Take t ∷ es) s held e = number_below es s held e
number_below (Back t fence ∷ es) s held e = number_below es s held e
number_below (Mark t ∷ es) s held e = number_below es s held e
number_below (Unmark ∷ es) s held e = number_below es s held e

-- a buffer in each of two slots, where a new one may have come into one of them
made_apart : (n t s u w h : ℕ) (here there : Option Held) (one other : Held) (a b : Bool) → (t == s) ≡ a → (t == u) ≡ b
    → ((held : Held) → here ≡ Some held → held.number ≤ n) → ((held : Held) → there ≡ Some held → held.number ≤ n) → (here ≡ Some one → there ≡ Some other → s ≡ u)
    → (if a then Some (record { number = n + 1; width = w; height = h }) else here) ≡ Some one
    → (if b then Some (record { number = n + 1; width = w; height = h }) else there) ≡ Some other → one.number ≡ other.number → s ≡ u
made_apart n t s u w h here there one other true true e f low high rest is also same = grind (arith, nat_tests, e, f)
made_apart n t s u w h here there one other true false e f low high rest is also same =
    let new : (n + 1) ≡ one.number = ap number_of is in
    let old = high other also in
    absurd (omega (arith, new, old, same))
made_apart n t s u w h here there one other false true e f low high rest is also same =
    let new : (n + 1) ≡ other.number = ap number_of also in
    let old = low one is in
    absurd (omega (arith, new, old, same))
made_apart n t s u w h here there one other false false e f low high rest is also same = rest is also

gone_apart : (s u : ℕ) (here there : Option Held) (one other : Held) (a b : Bool) → (here ≡ Some one → there ≡ Some other → s ≡ u)
    → (if a then None else here) ≡ Some one → (if b then None else there) ≡ Some other → s ≡ u
gone_apart s u here there one other true b rest is also = absurd (cc (is))
gone_apart s u here there one other false true rest is also = absurd (cc (also))
gone_apart s u here there one other false false rest is also = rest is also

-- no two slots have a buffer of one number
pub numbers_apart : (es : List Event) (s u : ℕ) (one other : Held) → buffer_after es s ≡ Some one → buffer_after es u ≡ Some other → one.number ≡ other.number → s ≡ u
numbers_apart [] s u one other is also same = absurd (cc (is))
numbers_apart (Make t w h maker ∷ es) s u one other is also same =
    made_apart (buffers_made es) t s u w h (buffer_after es s) (buffer_after es u) one other (t == s) (t == u) refl refl
    (number_below es s) (number_below es u) (λ here there. numbers_apart es s u one other here there same) is also same
numbers_apart (Gone t ∷ es) s u one other is also same =
    gone_apart s u (buffer_after es s) (buffer_after es u) one other (t == s) (t == u) (λ here there. numbers_apart es s u one other here there same) is also
numbers_apart (Lend t ∷ es) s u one other is also same = numbers_apart es s u one other is also same
numbers_apart (Hand item ∷ es) s u one other is also same = numbers_apart es s u one other is also same
numbers_apart (Take t ∷ es) s u one other is also same = numbers_apart es s u one other is also same
numbers_apart (Back t fence ∷ es) s u one other is also same = numbers_apart es s u one other is also same
numbers_apart (Mark t ∷ es) s u one other is also same = numbers_apart es s u one other is also same
numbers_apart (Unmark ∷ es) s u one other is also same = numbers_apart es s u one other is also same

-- an item of another slot
pub record IsOther (t : ℕ) (item : PlainItem) (items : List PlainItem) : Type 0 where
  pub among : Among item items
  pub slot : (item.slot.0 == t) ≡ false

one_other : (t : ℕ) (x item : PlainItem) (items : List PlainItem) (b : Bool) → (x.slot.0 == t) ≡ b → (Among item (other_items t items) → IsOther t item items)
    → Among item (if not b then x ∷ other_items t items else other_items t items) → IsOther t item (x ∷ items)
one_other t x item items true e rest among = let r = rest among in record { among = inr r.among; slot = r.slot }
one_other t x item items false e rest (inl same) = record { among = inl same; slot = subst (λ (y : PlainItem). (y.slot.0 == t) ≡ false) same e }
one_other t x item items false e rest (inr among) = let r = rest among in record { among = inr r.among; slot = r.slot }

others : (t : ℕ) (items : List PlainItem) (item : PlainItem) → Among item (other_items t items) → IsOther t item items
others t [] item among = absurd among
others t (x ∷ items) item among = one_other t x item items (x.slot.0 == t) refl (others t items item) among

-- the last of a list or an earlier one
last_or : (items : List PlainItem) (last item : PlainItem) → Among item (items ++ last ∷ []) → Among item items ⊎ (last ≡ item)
last_or [] last item (inl e) = inr e
last_or [] last item (inr among) = absurd among
last_or (x ∷ items) last item (inl e) = inl (inl e)
last_or (x ∷ items) last item (inr among) = elim (last_or items last item among) [ inl there ↦ inl (inr there) | inr e ↦ inr e ]

-- no two items are of one slot
abbrev pub AreApart : List PlainItem → Type 0
AreApart items = (one other : PlainItem) → Among one items → Among other items → one.slot.0 ≡ other.slot.0 → one ≡ other

fewer : (t : ℕ) (items : List PlainItem) → AreApart items → AreApart (other_items t items)
fewer t items apart one other a b same = apart one other (others t items one a).among (others t items other b).among same

with_last : (items : List PlainItem) (last : PlainItem) → AreApart items → AreApart (other_items last.slot.0 items ++ last ∷ [])
with_last items last apart one other a b same =
    elim (last_or (other_items last.slot.0 items) last one a) [
      | inl c ↦ elim (last_or (other_items last.slot.0 items) last other b) [
        | inl d ↦ fewer last.slot.0 items apart one other c d same
        | inr f ↦ absurd (clash one (others last.slot.0 items one c).slot (same ∙ sym (ap (λ (x : PlainItem). x.slot.0) f)))
      ]
      | inr e ↦ elim (last_or (other_items last.slot.0 items) last other b) [
        | inl d ↦ absurd (clash other (others last.slot.0 items other d).slot (sym same ∙ sym (ap (λ (x : PlainItem). x.slot.0) e)))
        | inr f ↦ sym e ∙ f
      ]
    ]
  where
    clash : (x : PlainItem) → (x.slot.0 == last.slot.0) ≡ false → x.slot.0 ≡ last.slot.0 → ⊥
    clash x unlike like = grind (arith, nat_tests, unlike, like)

-- the items after one more event
items_without : (es : List Event) (t : ℕ) (last : Last) → waiting_item last ≡ None → filter_map waiting_item (apart_from t (last_of_each es) ++ last ∷ []) ≡ other_items t (items_after es)
items_without es t last none = items-last es t last ∙ rw none (append_none (other_items t (items_after es)))

pub items_apart : (es : List Event) → AreApart (items_after es)
items_apart [] one other a b same = absurd a
items_apart (Lend t ∷ es) one other a b same = (subst AreApart (sym (items_without es t (Elsewhere t) refl)) (fewer t (items_after es) (items_apart es))) one other a b same
items_apart (Take t ∷ es) one other a b same = (subst AreApart (sym (items_without es t (Elsewhere t) refl)) (fewer t (items_after es) (items_apart es))) one other a b same
items_apart (Gone t ∷ es) one other a b same = (subst AreApart (sym (items_without es t (Elsewhere t) refl)) (fewer t (items_after es) (items_apart es))) one other a b same
items_apart (Back t fence ∷ es) one other a b same = (subst AreApart (sym (items_without es t (Returned t) refl)) (fewer t (items_after es) (items_apart es))) one other a b same
items_apart (Hand item ∷ es) one other a b same = (subst AreApart (sym (items-last es item.slot.0 (Waiting item))) (with_last (items_after es) item (items_apart es))) one other a b same
items_apart (Make t w h maker ∷ es) one other a b same = items_apart es one other a b same
items_apart (Mark t ∷ es) one other a b same = items_apart es one other a b same
items_apart (Unmark ∷ es) one other a b same = items_apart es one other a b same

-- a slot has an item
pub record HasItem (items : List PlainItem) (s : ℕ) : Type 0 where
  pub item : PlainItem
  pub among : Among item items
  pub slot : item.slot.0 ≡ s

kept_by : (t : ℕ) (x item : PlainItem) (items : List PlainItem) (b : Bool) → (x.slot.0 == t) ≡ b → (item.slot.0 == t) ≡ false → (Among item items → Among item (other_items t items))
    → Among item (x ∷ items) → Among item (if not b then x ∷ other_items t items else other_items t items)
kept_by t x item items true e f rest (inl same) = absurd (cc (e, f, ap (λ (y : PlainItem). y.slot.0 == t) same))
kept_by t x item items true e f rest (inr among) = rest among
kept_by t x item items false e f rest (inl same) = inl same
kept_by t x item items false e f rest (inr among) = inr (rest among)

kept_among : (t : ℕ) (items : List PlainItem) (item : PlainItem) → (item.slot.0 == t) ≡ false → Among item items → Among item (other_items t items)
kept_among t [] item f among = among
kept_among t (x ∷ items) item f among = kept_by t x item items (x.slot.0 == t) refl f (kept_among t items item f) among

in_front : (items more : List PlainItem) (item : PlainItem) → Among item items → Among item (items ++ more)
in_front [] more item among = absurd among
in_front (x ∷ items) more item (inl e) = inl e
in_front (x ∷ items) more item (inr among) = inr (in_front items more item among)

behind : (items : List PlainItem) (last : PlainItem) → Among last (items ++ last ∷ [])
behind [] last = inl refl
behind (x ∷ items) last = inr (behind items last)

still : (es : List Event) (t s : ℕ) (more : List PlainItem) (b : Bool) → (t == s) ≡ b → (b ≡ false → HasItem (items_after es) s) → b ≡ false → HasItem (other_items t (items_after es) ++ more) s
still es t s more b e has unlike =
    let h = has unlike in
    let apart : (h.item.slot.0 == t) ≡ false = rw h.slot (grind (arith, nat_tests, e, unlike)) in
    record { item = h.item; among = in_front (other_items t (items_after es)) more h.item (kept_among t (items_after es) h.item apart h.among); slot = h.slot }

not_queued : (b : Bool) (now old : SlotState) → (now ≡ Queued → ⊥) → (if b then now else old) ≡ Queued → (b ≡ false) × (old ≡ Queued)
not_queued true now old other e = absurd (other e)
not_queued false now old other e = (refl, e)

-- where a slot is queued, an item of it waits
left_waiting : (es : List Event) (t s : ℕ) (now : SlotState) (last : Last) → (now ≡ Queued → ⊥) → waiting_item last ≡ None → (state_after es s ≡ Queued → HasItem (items_after es) s)
    → (if t == s then now else state_after es s) ≡ Queued → HasItem (filter_map waiting_item (apart_from t (last_of_each es) ++ last ∷ [])) s
left_waiting es t s now last other none has e =
    let q = not_queued (t == s) now (state_after es s) other e in
    subst (λ items. HasItem items s) (sym (items-last es t last)) (still es t s (filter_map waiting_item (last ∷ [])) (t == s) refl (λ u. has q.1) q.0)

new_waiting : (es : List Event) (item : PlainItem) (s : ℕ) (b : Bool) → (item.slot.0 == s) ≡ b → (b ≡ false → HasItem (items_after es) s) → HasItem (other_items item.slot.0 (items_after es) ++ item ∷ []) s
new_waiting es item s true e has = record { item = item; among = behind (other_items item.slot.0 (items_after es)) item; slot = grind (arith, nat_tests, e) }
new_waiting es item s false e has = still es item.slot.0 s (item ∷ []) false e has refl

queued_before : (b : Bool) (old : SlotState) → (if b then Queued else old) ≡ Queued → b ≡ false → old ≡ Queued
queued_before true old e f = absurd (cc (f))
queued_before false old e f = e

pub queued_waits : (es : List Event) (s : ℕ) → state_after es s ≡ Queued → HasItem (items_after es) s
queued_waits [] s e = absurd (cc (e))
queued_waits (Lend t ∷ es) s e = left_waiting es t s Dequeued (Elsewhere t) (λ d. cc (d)) refl (queued_waits es s) e
queued_waits (Take t ∷ es) s e = left_waiting es t s Acquired (Elsewhere t) (λ d. cc (d)) refl (queued_waits es s) e
queued_waits (Back t fence ∷ es) s e = left_waiting es t s Free (Returned t) (λ d. cc (d)) refl (queued_waits es s) e
queued_waits (Gone t ∷ es) s e = left_waiting es t s Free (Elsewhere t) (λ d. cc (d)) refl (queued_waits es s) e
queued_waits (Hand item ∷ es) s e =
    subst (λ items. HasItem items s) (sym (items-last es item.slot.0 (Waiting item)))
    (new_waiting es item s (item.slot.0 == s) refl (λ f. queued_waits es s (queued_before (item.slot.0 == s) (state_after es s) e f)))
queued_waits (Make t w h maker ∷ es) s e = queued_waits es s e
queued_waits (Mark t ∷ es) s e = queued_waits es s e
queued_waits (Unmark ∷ es) s e = queued_waits es s e

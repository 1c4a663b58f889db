-- What the consumer's calls do to the queue.
use Rattle.std.proofs.Common.{◌≡◌, ℕ, ◌<◌, Bool, true, false, not, ◌==◌, ◌&&◌, nat_le, suc, zero, List, [], ◌∷◌, get_or, slice_get, arith, ap, ◌∙◌, sym, refl, subst, Option, Some, None}
use Rattle.std.specs.Prelude.{if◌then◌else◌}
use Rattle.std.specs.List.{All}
use Rattle.std.proofs.lemmas.Bool.Decides.{nat_tests}
use Rattle.std.proofs.lemmas.List.Elements.{All-drop}
use Rattle.atomic_table.specs.Seated.{TableId}
use Rattle.sf_base.specs.Fences.{Fence, no_points}
use Rattle.sf_base.specs.declared.ids.ActorId.{ActorId}
use Rattle.sf_base.specs.declared.status.QStatus.{QStatus}
use Rattle.sf_base.specs.declared.status.QStatus.TheVariants.{NoInit, BadValue, Stale}
use Rattle.sf_slots.specs.declared.calls.PlainCall.TheVariants as plain
use Rattle.sf_slots.specs.declared.calls.PlainReply.TheVariants as reply
use Rattle.sf_slots.specs.declared.calls.ReadToken.{ReadToken}
use Rattle.sf_slots.specs.declared.item.Item.{Item}
use Rattle.sf_slots.specs.declared.settings.Settings.{Settings}
use Rattle.sf_slots.specs.declared.slot.Held.{Held}
use Rattle.sf_slots.specs.declared.slot.Slot.{Slot}
use Rattle.sf_slots.specs.Told.{slot_for, unused}
use Rattle.sf_slots.specs.Effects.{dropping_if, dropped_first, nobody}
use Rattle.sf_slots.specs.Queue.{IsOut, Queue, IsSound, told_of, plain_item, slot_in, returned, cleared, taken, seated, next_held, handed_over}
use Rattle.sf_slots.specs.Replies.{Refusal, first_met, refusal_of, is_taken, is_buffer}
use Rattle.sf_slots.specs.Tells.{Continues}
use Rattle.sf_slots.proofs.HistoryGoesOn.{Continues-refused, unmet, own_unmet, taken_there, taken_is_out}
use Rattle.sf_base.specs.declared.ids.SlotId.{SlotId}
use Rattle.sf_consume.specs.declared.acquiring.Acquired.{Acquired as Taken}
use Rattle.sf_consume.specs.Acquiring.{IsAcquired}
use Rattle.sf_consume.specs.Reads as read
use Rattle.sf_surface.specs.declared.call.Gives.TheVariants as gives
use Rattle.sf_surface.specs.declared.call.QCall.TheVariants as call
use Rattle.sf_surface.specs.declared.call.QReply.{QReply}
use Rattle.sf_surface.specs.Calls.{read_token}
use Rattle.sf_surface.specs.Hands.{IsRoomFor, done_reply, own_lease, points_of, refused_reply, taken_lease}
use Rattle.sf_surface.specs.Histories.{FromLog, Left, Stored, left_by}
use Rattle.sf_surface.specs.Inside.{untaken_refusal}
use Rattle.sf_surface.specs.Objects.{AreAll, AreRights, Does, IsFitItem, IsFrameOf}
use Rattle.sf_surface.specs.Tokens.{IsRightOf, LooseOf, ReadLeaseOf, Right}
use Rattle.sf_surface.proofs.DoesLemmas.{moves, moves_only, refuses}
use Rattle.sf_surface.proofs.FitLemmas.{AreQueued, IsFit-returned, IsFit-dropped_first, IsFit-handed_over, all-read, cleared_keeps, gone-other, sound_queued}
use Rattle.sf_calls.specs.Histories.{entry}
use Rattle.sf_surface.specs.declared.call.QCall.{QCall}
use Rattle.sf_surface.proofs.StoredLemmas.{named_itself, puts_back}
use Rattle.std.proofs.lemmas.List.{get_or-set_other}
use Rattle.sf_slots.specs.declared.slot.SlotState.TheVariants.{Free, Acquired}
use Rattle.sf_surface.proofs.FreeLemmas.{next_free}

neither : (a b : Bool) → b ≡ false → (a && b) ≡ false
neither true b none = none
neither false b none = refl

first_untaken : (abandoned beyond same taken : Bool) → (beyond ≡ false → taken ≡ false) → first_met ((abandoned, NoInit) ∷ (false, NoInit) ∷ (beyond, BadValue) ∷ (not same, Stale) ∷ (not taken, BadValue) ∷ []) ≡ Some (if abandoned then NoInit else if beyond then BadValue else if same then BadValue else Stale)
first_untaken true beyond same taken untaken = refl
first_untaken false true same taken untaken = refl
first_untaken false false false taken untaken = refl
first_untaken false false true false untaken = refl
first_untaken false false true true untaken = absurd (cc (untaken refl))

pub reads : (q : Queue Right) (said : ReadToken) → (slot_in q said.slot.0).held ≡ Some said.held → read.IsLeaseOf (told_of q) said.slot said.frame said
reads q said there = record {
  slot = refl;
  frame = refl;
  whole = λ held state here same. let both : Some said.held ≡ Some held = sym there ∙ here in cc (both);
}

-- dropped items change neither the number nor the settings
dropping_same : (q : Queue Right) (found : Option (Item Right)) → ((dropping_if q found).number ≡ q.number) × ((dropping_if q found).settings ≡ q.settings)
dropping_same q None = (refl, refl)
dropping_same q (Some item) = (refl, refl)

dropped_same : (n : ℕ) (q : Queue Right) → ((dropped_first n q).number ≡ q.number) × ((dropped_first n q).settings ≡ q.settings)
dropped_same zero q = (refl, refl)
dropped_same (suc n) q =
    let before = dropped_same n q in
    let next = dropping_same (dropped_first n q) (slice_get (dropped_first n q).items 0) in
    (next.0 ∙ before.0, next.1 ∙ before.1)

-- a frame that is acquired is fit
pub acquired_fit : (table : TableId) (q after : Queue Right) (expected : ℕ) (given : Taken Right) → AreRights table q → IsAcquired q after expected given → IsFitItem table given.item
acquired_fit table q after expected given fit is = all-read (IsFitItem table) (dropped_first given.dropped q).items 0 given.item is.item (IsFit-dropped_first (λ s held right. IsRightOf table held right) (IsFitItem table) (λ item fits. fits.right) given.dropped q fit).items

-- what holds of each frame holds of those that are left
items_left : (P : Item Right → Type 0) (q : Queue Right) (found : Option (Item Right)) → All P q.items → All P (dropping_if q found).items
items_left P q None all = all
items_left P q (Some item) all = All-drop P 1 q.items all

items_kept : (P : Item Right → Type 0) (n : ℕ) (q : Queue Right) → All P q.items → All P (dropped_first n q).items
items_kept P zero q all = all
items_kept P (suc n) q all = items_left P (dropped_first n q) (slice_get (dropped_first n q).items 0) (items_kept P n q all)

-- there is room for the points of a frame that is acquired
pub acquired_room : (q after : Queue Right) (expected capacity : ℕ) (given : Taken Right) → All (λ item. IsRoomFor item.fence capacity) q.items → IsAcquired q after expected given → IsRoomFor given.item.fence capacity
acquired_room q after expected capacity given all is =
    all-read (λ item. IsRoomFor item.fence capacity) (dropped_first given.dropped q).items 0 given.item is.item (items_kept (λ item. IsRoomFor item.fence capacity) given.dropped q all)

-- a frame's slot does not have the lease's buffer
untaken_met : (q : Queue Right) (said : ReadToken) (cause : QStatus) → (said.slot.0 < 64 → is_buffer (slot_in q said.slot.0).held said.held ≡ false) → cause ≡ untaken_refusal q said.slot.0 said.frame
    → first_met ((q.settings.abandoned, NoInit) ∷ (false, NoInit) ∷ (nat_le 64 said.slot.0, BadValue) ∷ (not ((slot_in q said.slot.0).frame == said.frame), Stale) ∷ (not (is_taken (told_of q) said.slot said.held), BadValue) ∷ []) ≡ Some cause
untaken_met q said cause other causes =
    let untaken : nat_le 64 said.slot.0 ≡ false → is_taken (told_of q) said.slot said.held ≡ false = λ below. neither _ (is_buffer (slot_in q said.slot.0).held said.held) (other (grind (arith, nat_tests, below))) in
    first_untaken q.settings.abandoned (nat_le 64 said.slot.0) ((slot_in q said.slot.0).frame == said.frame) (is_taken (told_of q) said.slot said.held) untaken ∙ ap (λ (c : QStatus). Some c) (sym causes)

-- a slot that a read lease may leave is out: a detach of the lease has the tests of its release
taken_out : (q : Queue Right) (lease : ReadToken) → None ≡ refusal_of (told_of q) nobody (plain.DetachRead lease) → IsOut (slot_in q lease.slot.0).state
taken_out q lease none =
    let last : List Refusal = (not (is_taken (told_of q) lease.slot lease.held), BadValue) ∷ [] in
    let stale : List Refusal = (not ((slot_in q lease.slot.0).frame == lease.frame), Stale) ∷ last in
    let second = (unmet (nat_le 64 lease.slot.0) BadValue stale (own_unmet (told_of q) nobody (plain.DetachRead lease) (sym none))).1 in
    let third = (unmet (not ((slot_in q lease.slot.0).frame == lease.frame)) Stale last second).1 in
    taken_is_out (slot_in q lease.slot.0).state (taken_there (told_of q) lease.slot lease.held [] third)

-- a free slot goes to the consumer with a buffer of its own
taken_seated_keeps : (P : ℕ → Held → Right → Type 0) (F : Item Right → Type 0) (q : Queue Right) (s width height : ℕ) → IsSound q → (slot_in q s).state ≡ Free → AreAll P F q → AreAll P F (seated (taken q s) s width height false)
unfolding AreQueued
taken_seated_keeps P F q s width height sound free fit =
    let after : Queue Right = seated (taken q s) s width height false in
    let others : (t : ℕ) → ((t ≡ s) → ⊥) → (slot_in after t).held ≡ (slot_in q t).held = λ t other.
    ap (λ (slot : Slot). slot.held) (get_or-set_other (taken q s).slots s t (record (slot_in (taken q s) s) { held = Some (next_held (taken q s) width height); requested = false }) unused other ∙ get_or-set_other q.slots s t (record (slot_in q s) { state = Acquired; frame = 0; fence = no_points }) unused other) in
    record {
      slots = λ t below buffer turn here right.
          let apart = gone-other q.rights s t turn right in
          fit.slots t below buffer turn (sym (others t apart.0) ∙ here) apart.1;
      items = fit.items;
      seats = λ k d low. others (get_or q.items k d).slot.0 (λ same. cc (sound_queued q sound k d low, free, ap (λ (n : ℕ). (slot_in q n).state) same)) ∙ fit.seats k d low;
    }

module _ {B : Type 0} (table : TableId) where
  pub acquires : (q after : Queue Right) (by : ActorId) (expected : ℕ) (given : Taken Right) (answer : QReply B) → IsAcquired q after expected given → Continues q after by (plain.Acquire expected) (reply.Acquired (plain_item given.item) given.dropped) → answer ≡ done_reply (given.item.slot.0 ∷ given.item.frame ∷ given.item.picture ∷ given.dropped ∷ points_of given.item.fence) (gives.Read (taken_lease q.number (plain_item given.item) given.item.right)) None None → Does table q after by (call.Acquire expected) answer
  acquires q after by expected given answer is goes answers =
      let left : Queue Right = dropped_first given.dropped q in
      let same = dropped_same given.dropped q in
      let asked : QCall B = call.Acquire expected in
      moves_only table q after (handed_over left given.item) by asked (reply.Acquired (plain_item given.item) given.dropped) answer is.after
      (record { number = same.0; width = ap (λ (s : Settings). s.width) same.1; height = ap (λ (s : Settings). s.height) same.1 })
      (λ P F of_item rights. IsFit-handed_over P F left given.item (IsFit-dropped_first P F of_item given.dropped q rights))
      goes
      (given.item.right, answers)
      (λ log stored.
      let frame = all-read (IsFrameOf log) left.items 0 given.item is.item (IsFit-dropped_first (Stored log) (IsFrameOf log) (λ item f. f.stored) given.dropped q stored).items in
      subst (FromLog log asked) (sym answers) (frame.queued, frame.stored))
      (ap (λ (r : QReply B). left_by asked r.gives) answers)

  -- a release that the slot's buffer refuses
  pub release_untaken : (q : Queue Right) (by : ActorId) (lease : ReadLeaseOf) (fence : Fence) (said : ReadToken) (cause : QStatus) (answer : QReply B) → said ≡ read_token q.number lease → (said.slot.0 < 64 → is_buffer (slot_in q said.slot.0).held said.held ≡ false) → cause ≡ untaken_refusal q said.slot.0 said.frame → answer ≡ refused_reply cause (call.Release lease fence) → Does table q q by (call.Release lease fence) answer
  release_untaken q by lease fence said cause answer same other causes is =
      refuses table q q by (call.Release lease fence) cause answer refl
      (subst (λ (t : ReadToken). Continues q q by (plain.Release t fence) (reply.Refused cause)) same (Continues-refused q by (plain.Release said fence) cause (untaken_met q said cause other causes))) is

  pub releases : (q after : Queue Right) (by : ActorId) (lease : ReadLeaseOf) (fence : Fence) (said : ReadToken) (answer : QReply B) → said ≡ read_token q.number lease → IsSound q → (slot_in q said.slot.0).held ≡ Some said.held → IsRightOf table lease.held lease.turn → None ≡ refusal_of (told_of q) nobody (plain.Release (read.lease_of (told_of q) said.slot said.frame) fence) → after ≡ returned q said.slot.0 lease.turn fence → Continues q after by (plain.Release said fence) reply.Done → answer ≡ done_reply [] gives.Nothing None None → Does table q after by (call.Release lease fence) answer
  releases q after by lease fence said answer same sound there right none left goes is =
      let held_from : said.held ≡ lease.held = ap (λ (t : ReadToken). t.held) same in
      let fits : (buffer : Held) → (slot_in q said.slot.0).held ≡ Some buffer → IsRightOf table buffer lease.turn = λ buffer here.
      let both : Some said.held ≡ Some buffer = sym there ∙ here in
      subst (λ (h : Held). IsRightOf table h lease.turn) (sym held_from ∙ cc (both)) right in
      let named : said.slot ≡ lease.slot = named_itself q lease.queue lease.slot said.slot said.held sound (ap (λ (t : ReadToken). t.slot) same) there in
      let own : Left = record { slot = lease.slot.0; held = lease.held; turn = lease.turn } in
      moves table q after (returned q said.slot.0 lease.turn fence) by (call.Release lease fence) reply.Done answer left
      (record { number = refl; width = refl; height = refl })
      (IsFit-returned (λ s held right. IsRightOf table held right) (IsFitItem table) q said.slot.0 lease.turn fence fits)
      (subst (λ (t : ReadToken). Continues q after by (plain.Release t fence) reply.Done) same goes)
      is (λ log stored. tt)
      (λ log step stored. puts_back q log (entry by.0 (step, call.Release lease fence) answer) own said.slot.0 said.held fence sound there (ap (λ (s : SlotId). s.0) named) held_from
      (taken_out q (read.lease_of (told_of q) said.slot said.frame) none) (ap (λ (r : QReply B). left_by (call.Release lease fence) r.gives) is) stored)

  -- a frame's buffer is taken out
  pub detach_untaken : (q : Queue Right) (by : ActorId) (lease : ReadLeaseOf) (said : ReadToken) (cause : QStatus) (answer : QReply B) → said ≡ read_token q.number lease → (said.slot.0 < 64 → is_buffer (slot_in q said.slot.0).held said.held ≡ false) → cause ≡ untaken_refusal q said.slot.0 said.frame → answer ≡ refused_reply cause (call.DetachRead lease) → Does table q q by (call.DetachRead lease) answer
  detach_untaken q by lease said cause answer same other causes is =
      refuses table q q by (call.DetachRead lease) cause answer refl
      (subst (λ (t : ReadToken). Continues q q by (plain.DetachRead t) (reply.Refused cause)) same (Continues-refused q by (plain.DetachRead said) cause (untaken_met q said cause other causes))) is

  pub detaches_read : (q after : Queue Right) (by : ActorId) (lease : ReadLeaseOf) (said : ReadToken) (answer : QReply B) → IsSound q → said ≡ read_token q.number lease → None ≡ refusal_of (told_of q) nobody (plain.DetachRead (read.lease_of (told_of q) said.slot said.frame)) → after ≡ cleared q said.slot.0 → Continues q after by (plain.DetachRead said) reply.Done → answer ≡ done_reply [] (gives.Free (record { held = lease.held; turn = lease.turn })) None None → Does table q after by (call.DetachRead lease) answer
  detaches_read q after by lease said answer sound same none left goes is =
      let out = taken_out q (read.lease_of (told_of q) said.slot said.frame) none in
      moves_only table q after (cleared q said.slot.0) by (call.DetachRead lease) reply.Done answer left
      (record { number = refl; width = refl; height = refl })
      (λ P F of_item rights. (cleared_keeps P F q said.slot.0 out.not_queued (sound_queued q sound) rights).1)
      (subst (λ (t : ReadToken). Continues q after by (plain.DetachRead t) reply.Done) same goes)
      is (λ log stored. tt) (ap (λ (r : QReply B). left_by (call.DetachRead lease) r.gives) is)

  -- a loose buffer comes in, held by the consumer
  pub attaches_read : (q after : Queue Right) (by : ActorId) (loose : LooseOf) (slot : SlotId) (held : Held) (answer : QReply B) → IsSound q → slot_for false (told_of q) ≡ Some slot.0 → after ≡ seated (taken q slot.0) slot.0 loose.held.width loose.held.height false → Continues q after by (plain.AttachRead loose.held) (reply.Attached slot held) → answer ≡ done_reply (slot.0 ∷ []) (gives.Read (own_lease q.number slot held loose)) None None → Does table q after by (call.AttachRead loose) answer
  attaches_read q after by loose slot held answer sound found left goes is =
      moves_only table q after (seated (taken q slot.0) slot.0 loose.held.width loose.held.height false) by (call.AttachRead loose) (reply.Attached slot held) answer left
      (record { number = refl; width = refl; height = refl })
      (λ P F of_item rights. taken_seated_keeps P F q slot.0 loose.held.width loose.held.height sound (next_free q sound false slot.0 found) rights)
      goes is (λ log stored. tt) (ap (λ (r : QReply B). left_by (call.AttachRead loose) r.gives) is)

-- Where the rights of a queue are after a call on it, as its histories tell.
use Rattle.std.proofs.Common.{◌≡◌, ℕ, zero, suc, ◌+◌, ◌<◌, ◌≤◌, ◌⊎◌, ◌==◌, Bool, true, false, List, [], ◌∷◌, ◌++◌, arith, ap, ◌∙◌, sym, refl, inl, inr, subst, Option, Some, None}
use Rattle.std.specs.Prelude.{Contains, if◌then◌else◌}
use Rattle.std.specs.List.{range_with_len}
use Rattle.std.proofs.lemmas.Bool.{cases_Bool, cases_lt, eq-eqb, eqb-true, false≢true}
use Rattle.std.proofs.lemmas.List.Elements.{Contains-append_left, Contains-append_right}
use Rattle.sf_base.specs.declared.ids.QueueId.{QueueId}
use Rattle.sf_base.specs.declared.ids.SlotId.{SlotId}
use Rattle.sf_base.specs.Fences.{Fence}
use Rattle.sf_base.specs.declared.geometry.Rect.{Rect}
use Rattle.sf_base.specs.declared.status.QStatus.{QStatus}
use Rattle.sf_actor_set.specs.sf_calls.Histories.{entry}
use Rattle.sf_actor_set.specs.sf_picture.declared.picture.Picture.{Picture}
use Rattle.sf_slots.specs.declared.calls.PlainCall.{PlainCall}
use Rattle.sf_slots.specs.declared.calls.PlainCall.TheVariants as said
use Rattle.sf_slots.specs.declared.calls.PlainReply.{PlainReply}
use Rattle.sf_slots.specs.declared.calls.PlainReply.TheVariants as plain
use Rattle.sf_slots.specs.History.{events, slot_after}
use Rattle.sf_actor_set.specs.sf_surface.declared.call.Gives.TheVariants as gives
use Rattle.sf_actor_set.specs.sf_surface.declared.call.QCall.{QCall}
use Rattle.sf_actor_set.specs.sf_surface.declared.call.QCall.TheVariants as call
use Rattle.sf_actor_set.specs.sf_surface.declared.call.QReply.{QReply}
use Rattle.sf_actor_set.specs.sf_surface.declared.mark.QueueMark.{QueueMark}
use Rattle.sf_actor_set.specs.sf_surface.declared.work.Work.{Work}
use Rattle.sf_actor_set.specs.sf_surface.declared.work.Work.TheVariants as work
use Rattle.sf_actor_set.specs.sf_surface.Calls.{no_slot, queued_token, read_token, shows_other, told_call, write_token}
use Rattle.sf_actor_set.specs.sf_surface.Hands.{IsReply, brought, done_reply, lent_lease, owes, points_of, refused_reply, taken_lease}
use Rattle.sf_actor_set.specs.sf_surface.Histories.{FromLog, Left, Made, caller, last_left, left_after, left_by, Replied, told, told_reply}
use Rattle.sf_actor_set.specs.sf_surface.Tokens.{WriteLeaseOf, ending_drawn, ending_of, turn_after, turn_of}
use Rattle.sf_actor_set.specs.sf_turns.Views.{heir_expecting}
use Rattle.sf_actor_set.specs.sf_actor.Makers.{BufferOf}
use Rattle.sf_actor_set.specs.sf_actor.Rights.{turn_by}
use Rattle.law_rights.specs.MakerCalls.{IsNewAt, WasIn, brought_at, given_at, right_written}
use Rattle.law_rights.specs.Makers.{RightAt, place_left, place_lying, places_lying, right_read}
use Rattle.law_rights.specs.Slots.{is_home_after}
use Rattle.law_rights.proofs.SlotAnswers.{acquired_waits, lent_again_home, lent_below, queued_below, released_below}
use Rattle.law_rights.proofs.CallBalance.{all_below, homes}
use Rattle.law_rights.proofs.TurnCounts.{first, later, none_in, the_only}
use Rattle.law_rights.proofs.Homes.{ComeHome, StayHome, queued_home}
use Rattle.law_rights.proofs.RightPlaces.{HomesAfter, slot_filled}
use Rattle.law_rights.proofs.QueueCounts.{in_all, in_some}

in_range : (from many s : ℕ) → from ≤ s → s < from + many → Contains (range_with_len from many) s
in_range from zero s low high = absurd (omega (arith, low, high))
in_range from (suc many) s low high = by_place (cases_lt from s) (in_range (from + 1) many s)
  where
    by_place : (from < s) ⊎ (s ≤ from) → (from + 1 ≤ s → s < from + 1 + many → Contains (range_with_len (from + 1) many) s) → Contains (range_with_len from (suc many)) s
    by_place (inl less) further = later from s (range_with_len (from + 1) many) (further (omega (arith, less)) (omega (arith, high)))
    by_place (inr least) further =
        let same : from ≡ s = omega (arith, low, least) in
        subst (Contains (range_with_len from (suc many))) same (first from (range_with_len (from + 1) many))

module _ {B : Type 0} where
  -- a right lies in a slot
  pub record LiesAt (mark : QueueMark) (calls : List (Made B)) (right : RightAt) : Type 0 where
    pub slot : ℕ
    pub home : is_home_after (events (told mark calls)) slot ≡ true
    pub left : Contains (place_left mark (last_left calls slot)) right

  lying_at : (mark : QueueMark) (calls : List (Made B)) (s : ℕ) (right : RightAt) (home : Bool) → is_home_after (events (told mark calls)) s ≡ home
      → Contains (if home then place_left mark (last_left calls s) else []) right → LiesAt mark calls right
  lying_at mark calls s right true is there = record { slot = s; home = is; left = there }
  lying_at mark calls s right false is there = absurd (none_in right there)

  pub lies_at : (mark : QueueMark) (calls : List (Made B)) (right : RightAt) → Contains (places_lying mark calls) right → LiesAt mark calls right
  unfolding places_lying
  lies_at mark calls right there =
      let found = in_some (place_lying mark calls) (range_with_len 0 64) right there in
      lying_at mark calls found.0 right (is_home_after (events (told mark calls)) found.0) refl found.2

  pub lies_in : (mark : QueueMark) (calls : List (Made B)) (right : RightAt) → LiesAt mark calls right → Contains (places_lying mark calls) right
  unfolding places_lying
  lies_in mark calls right lies =
      in_all (place_lying mark calls) (range_with_len 0 64) lies.slot right (in_range 0 64 lies.slot (omega arith) (all_below mark calls lies.slot lies.home))
      (subst (λ (home : Bool). Contains (if home then place_left mark (last_left calls lies.slot) else []) right) (sym lies.home) lies.left)

  left_more : (made : Made B) (earlier : List (Made B)) (s : ℕ) → last_left (made ∷ earlier) s ≡ left_after (left_by made.call.1 made.reply.gives) (last_left earlier s) s
  unfolding last_left
  left_more made earlier s = refl

  module _ (mark : QueueMark) (made : Made B) (earlier : List (Made B)) (right : RightAt) where
    -- a call that leaves no right in a slot
    pub lies_still : left_by made.call.1 made.reply.gives ≡ None → StayHome (events (told mark earlier)) (events (told mark (made ∷ earlier))) → LiesAt mark (made ∷ earlier) right → LiesAt mark earlier right
    lies_still none stay lies = record {
      slot = lies.slot;
      home = stay.stays lies.slot lies.home;
      left = subst (λ (o : Option Left). Contains (place_left mark o) right) (left_more made earlier lies.slot ∙ ap (λ (o : Option Left). left_after o (last_left earlier lies.slot) lies.slot) none) lies.left;
    }

    -- and one that leaves one
    pub lies_filled : (left : Left) → left_by made.call.1 made.reply.gives ≡ Some left → ComeHome (events (told mark earlier)) (events (told mark (made ∷ earlier))) left.slot → LiesAt mark (made ∷ earlier) right
        → Contains (place_left mark (Some left)) right ⊎ LiesAt mark earlier right
    lies_filled left some come lies = by_slot (cases_Bool (left.slot == lies.slot))
      where
        now : last_left (made ∷ earlier) lies.slot ≡ (if left.slot == lies.slot then Some left else last_left earlier lies.slot)
        now = left_more made earlier lies.slot ∙ ap (λ (o : Option Left). left_after o (last_left earlier lies.slot) lies.slot) some

        by_slot : ((left.slot == lies.slot) ≡ true) ⊎ ((left.slot == lies.slot) ≡ false) → Contains (place_left mark (Some left)) right ⊎ LiesAt mark earlier right
        by_slot (inl met) = inl (subst (λ (o : Option Left). Contains (place_left mark o) right) (now ∙ ap (λ (b : Bool). if b then Some left else last_left earlier lies.slot) met) lies.left)
        by_slot (inr unmet) = inr (record {
          slot = lies.slot;
          home = elim (come.stays lies.slot lies.home) [
            | inl same ↦ absurd (false≢true (sym unmet ∙ eq-eqb left.slot lies.slot (sym same)))
            | inr was ↦ was
          ];
          left = subst (λ (o : Option Left). Contains (place_left mark o) right) (now ∙ ap (λ (b : Bool). if b then Some left else last_left earlier lies.slot) unmet) lies.left;
        })

-- a token that names one of the 64 slots is of the queue
own_named : (b : Bool) (slot : SlotId) → (if b then slot else no_slot).0 < 64 → b ≡ true
own_named true slot low = refl
own_named false slot low = absurd (omega (arith, low))

pub own_queued : (other b : Bool) (slot : SlotId) → (if other then no_slot else (if b then slot else no_slot)).0 < 64 → b ≡ true
own_queued true b slot low = absurd (omega (arith, low))
own_queued false b slot low = own_named b slot low

own_slot : (other b : Bool) (slot : SlotId) → (if other then no_slot else (if b then slot else no_slot)).0 < 64 → (if other then no_slot else (if b then slot else no_slot)).0 ≡ slot.0
own_slot true b slot low = absurd (omega (arith, low))
own_slot false true slot low = refl
own_slot false false slot low = absurd (omega (arith, low))

-- nothing happens to the slots where a call is refused
refused_slot : (asked : PlainCall) (cause : QStatus) → slot_filled asked (plain.Refused cause) ≡ None
refused_slot said.Connect cause = refl
refused_slot asked cause = refl

after_same : (done : Work) → (turn_by (turn_of done)).0 ≡ (turn_by (turn_after done)).0
after_same (work.Fresh turn) = refl
after_same (work.Drawn inside pixels) = refl

module _ {B : Type 0} where
  refused_left : (asked : QCall B) → left_by asked (brought asked) ≡ None
  refused_left call.Connect = refl
  refused_left asked = refl

  refused_at : (from : BufferOf) (asked : QCall B) → given_at from asked (brought asked) ≡ brought_at from asked
  refused_at from call.Connect = refl
  refused_at from asked = refl

queue_leaves : (B : Type 0) (queue : QueueId) (lease : WriteLeaseOf) (picture : Picture) (time : Option ℕ) (crop : Rect) (fence : Fence) (frame : ℕ) (done : Work)
    → left_by (call.Queue lease picture time crop fence) (owes {B = B} queue lease frame picture done) ≡ Some (record { slot = lease.slot.0; held = lease.held; turn = heir_expecting (turn_of lease.work) picture })
queue_leaves B queue lease picture time crop fence frame (work.Fresh turn) = refl
queue_leaves B queue lease picture time crop fence frame (work.Drawn inside pixels) = refl

owes_none : (B : Type 0) (from : BufferOf) (asked : QCall B) (queue : QueueId) (lease : WriteLeaseOf) (picture : Picture) (frame : ℕ) (done : Work) → given_at from asked (owes {B = B} queue lease frame picture done) ≡ []
owes_none B from asked queue lease picture frame (work.Fresh turn) = refl
owes_none B from asked queue lease picture frame (work.Drawn inside pixels) = refl

module _ {B : Type 0} (mark : QueueMark) (earlier : List (Made B)) (by step : ℕ) (from : BufferOf) (right : RightAt) where
  abbrev more : QCall B → QReply B → List (Made B)
  more asked reply = entry by (step, asked) reply ∷ earlier

  -- it lies in the queue after the call, or the reply gives it
  abbrev IsAfter : QCall B → QReply B → Type 0
  IsAfter asked reply = Contains (places_lying mark (more asked reply)) right ⊎ Contains (given_at from asked reply.gives) right

  abbrev ComesFromCall : QCall B → PlainReply → Type 0
  ComesFromCall asked answered = WasIn (places_lying mark earlier ++ brought_at from asked) right ⊎ IsNewAt mark.queue asked answered right

  lay : (asked : QCall B) (answered : PlainReply) → LiesAt mark earlier right → ComesFromCall asked answered
  lay asked answered lies = inl (right, Contains-append_left (places_lying mark earlier) (brought_at from asked) right (lies_in mark earlier right lies), refl, refl)

  -- the right that the call brought, or the next one
  brings : (asked : QCall B) (answered : PlainReply) (was : RightAt) → Contains (brought_at from asked) was → was.turn.0 ≡ right.turn.0 → was.at ≡ right.at → ComesFromCall asked answered
  brings asked answered was there turn at = inl (was, Contains-append_right (places_lying mark earlier) (brought_at from asked) was there, turn, at)

  -- one that the reply gives or the call leaves, as this one
  is_next : (asked : QCall B) (answered : PlainReply) (was now : RightAt) → Contains (brought_at from asked) was → was.turn.0 ≡ now.turn.0 → was.at ≡ now.at → Contains (now ∷ []) right → ComesFromCall asked answered
  is_next asked answered was now there turn at is =
      let same = the_only now right is in
      brings asked answered was there (turn ∙ ap (λ (r : RightAt). r.turn.0) same) (at ∙ ap (λ (r : RightAt). r.at) same)

  quiet : (asked : QCall B) (answered : PlainReply) (reply exact : QReply B) → reply ≡ exact → left_by asked exact.gives ≡ None → StayHome (events (told mark earlier)) (events (told mark (more asked exact)))
      → (Contains (given_at from asked exact.gives) right → ComesFromCall asked answered) → IsAfter asked reply → ComesFromCall asked answered
  quiet asked answered reply exact same none stay given after = by_place (subst (IsAfter asked) same after)
    where
      by_place : IsAfter asked exact → ComesFromCall asked answered
      by_place (inl lies) = lay asked answered (lies_still mark (entry by (step, asked) exact) earlier right none stay (lies_at mark (more asked exact) right lies))
      by_place (inr gives) = given gives

  filling : (asked : QCall B) (answered : PlainReply) (reply exact : QReply B) (left : Left) → reply ≡ exact → left_by asked exact.gives ≡ Some left → ComeHome (events (told mark earlier)) (events (told mark (more asked exact))) left.slot
      → (Contains (place_left mark (Some left)) right → ComesFromCall asked answered) → given_at from asked exact.gives ≡ [] → IsAfter asked reply → ComesFromCall asked answered
  filling asked answered reply exact left same some come lies_here none after = by_place (subst (IsAfter asked) same after)
    where
      by_place : IsAfter asked exact → ComesFromCall asked answered
      by_place (inl lies) = elim (lies_filled mark (entry by (step, asked) exact) earlier right left some come (lies_at mark (more asked exact) right lies)) [
        | inl here ↦ lies_here here
        | inr was ↦ lay asked answered was
      ]
      by_place (inr gives) = absurd (none_in right (subst (λ (xs : List RightAt). Contains xs right) none gives))

  pub comes_from : (asked : QCall B) (answered : PlainReply) (reply : QReply B) → told_reply mark earlier by asked ≡ answered → IsReply mark.queue asked answered reply → FromLog earlier asked reply → IsAfter asked reply → ComesFromCall asked answered
  comes_from asked (plain.Refused cause) reply is same log =
      quiet asked (plain.Refused cause) reply (refused_reply cause asked) same (refused_left asked)
      (subst (λ (slot : Option ℕ). HomesAfter slot (events (told mark earlier)) (events (told mark (more asked (refused_reply cause asked))))) (refused_slot (told_call mark.queue asked) cause)
      (homes mark earlier by step asked (plain.Refused cause) (refused_reply cause asked) is))
      (λ there. brings asked (plain.Refused cause) right (subst (λ (xs : List RightAt). Contains xs right) (refused_at from asked) there) refl refl)
  comes_from call.Connect plain.Done reply is same log = quiet call.Connect plain.Done reply _ same refl (homes mark earlier by step call.Connect plain.Done _ is) (λ none. absurd (none_in right none))
  comes_from call.Disconnect plain.Done reply is same log = quiet call.Disconnect plain.Done reply _ same refl (homes mark earlier by step call.Disconnect plain.Done _ is) (λ none. absurd (none_in right none))
  comes_from (call.MaxDequeued n) plain.Done reply is same log = quiet (call.MaxDequeued n) plain.Done reply _ same refl (homes mark earlier by step (call.MaxDequeued n) plain.Done _ is) (λ none. absurd (none_in right none))
  comes_from (call.Async on) plain.Done reply is same log = quiet (call.Async on) plain.Done reply _ same refl (homes mark earlier by step (call.Async on) plain.Done _ is) (λ none. absurd (none_in right none))
  comes_from (call.MaxAcquired n) plain.Done reply is same log = quiet (call.MaxAcquired n) plain.Done reply _ same refl (homes mark earlier by step (call.MaxAcquired n) plain.Done _ is) (λ none. absurd (none_in right none))
  comes_from call.Abandon plain.Done reply is same log = quiet call.Abandon plain.Done reply _ same refl (homes mark earlier by step call.Abandon plain.Done _ is) (λ none. absurd (none_in right none))
  comes_from (call.Dequeue wide high wait permit) (plain.Dequeued slot held requested true fence) reply is same log =
      quiet (call.Dequeue wide high wait permit) (plain.Dequeued slot held requested true fence) reply _ same refl (homes mark earlier by step (call.Dequeue wide high wait permit) (plain.Dequeued slot held requested true fence) _ is)
      (λ there. inr (sym (the_only _ right there)))
  comes_from (call.Dequeue wide high wait permit) (plain.Dequeued slot held requested false fence) reply is same log =
      let asked = call.Dequeue wide high wait permit in
      let answered = plain.Dequeued slot held requested false fence in
      let exact : QReply B = done_reply (slot.0 ∷ held.number ∷ 0 ∷ points_of fence) (gives.Write (lent_lease mark.queue slot held requested fence same.0)) None (Some permit) in
      let home = lent_again_home mark.width mark.height (told mark earlier) (caller by) wide high wait slot held requested fence is in
      let stored : FromLog earlier asked exact = subst (FromLog earlier asked) same.1 log in
      quiet asked answered reply exact same.1 refl (homes mark earlier by step asked answered exact is)
      (λ there. lay asked answered (record { slot = slot.0; home = home.1; left = subst (λ (o : Option Left). Contains (place_left mark o) right) (sym stored) there }))
  comes_from (call.Request lease) (plain.Requested held) reply is same log =
      quiet (call.Request lease) (plain.Requested held) reply _ same refl (homes mark earlier by step (call.Request lease) (plain.Requested held) _ is)
      (λ there. brings (call.Request lease) (plain.Requested held) right there refl refl)
  comes_from (call.Queue lease picture time crop fence) (plain.Queued frame) reply is same log =
      let asked = call.Queue lease picture time crop fence in
      let exact : QReply B = done_reply (lease.slot.0 ∷ frame ∷ []) (owes mark.queue lease frame picture lease.work) (ending_of lease.work picture) None in
      let below = queued_below mark.width mark.height (told mark earlier) (caller by) (queued_token mark.queue lease picture) picture.number picture.width picture.height time crop fence frame is in
      let own = eqb-true lease.queue.0 mark.queue.0 (own_queued (shows_other lease.work picture) (lease.queue.0 == mark.queue.0) lease.slot below.0) in
      filling asked (plain.Queued frame) reply exact (record { slot = lease.slot.0; held = lease.held; turn = heir_expecting (turn_of lease.work) picture }) same
      (queue_leaves B mark.queue lease picture time crop fence frame lease.work)
      (subst (ComeHome (events (told mark earlier)) (events (told mark (more asked exact)))) (own_slot (shows_other lease.work picture) (lease.queue.0 == mark.queue.0) lease.slot below.0)
      (homes mark earlier by step asked (plain.Queued frame) exact is))
      (is_next asked (plain.Queued frame) (right_written lease) _ (first (right_written lease) []) refl (λ i. record { queue = own i; number = lease.held.number }))
      (owes_none B from asked mark.queue lease picture frame lease.work)
  comes_from (call.Cancel lease fence) plain.Done reply is same log =
      let asked = call.Cancel lease fence in
      let exact : QReply B = done_reply [] gives.Nothing (ending_drawn lease.work) None in
      let low = lent_below mark.width mark.height (told mark earlier) (caller by) (write_token mark.queue lease) fence is in
      let own = eqb-true lease.queue.0 mark.queue.0 (own_named (lease.queue.0 == mark.queue.0) lease.slot low) in
      filling asked plain.Done reply exact (record { slot = lease.slot.0; held = lease.held; turn = turn_after lease.work }) same refl
      (subst (ComeHome (events (told mark earlier)) (events (told mark (more asked exact)))) (own_slot false (lease.queue.0 == mark.queue.0) lease.slot low)
      (homes mark earlier by step asked plain.Done exact is))
      (is_next asked plain.Done (right_written lease) _ (first (right_written lease) []) (after_same lease.work) (λ i. record { queue = own i; number = lease.held.number }))
      refl
  comes_from (call.Detach lease) plain.Done reply is same log =
      quiet (call.Detach lease) plain.Done reply _ same refl (homes mark earlier by step (call.Detach lease) plain.Done _ is)
      (is_next (call.Detach lease) plain.Done (right_written lease) _ (first (right_written lease) []) (after_same lease.work) refl)
  comes_from (call.Attach loose) (plain.Attached slot held) reply is same log =
      quiet (call.Attach loose) (plain.Attached slot held) reply _ same refl (homes mark earlier by step (call.Attach loose) (plain.Attached slot held) _ is)
      (λ there. inr (sym (the_only _ right there)))
  comes_from (call.Acquire expected) (plain.Acquired item dropped) reply is same log =
      let asked = call.Acquire expected in
      let answered = plain.Acquired item dropped in
      let exact : QReply B = done_reply (item.slot.0 ∷ item.frame ∷ item.picture ∷ dropped ∷ points_of item.fence) (gives.Read (taken_lease mark.queue item same.0)) None None in
      let home = queued_home (slot_after (events (told mark earlier)) item.slot.0) (acquired_waits mark.width mark.height (told mark earlier) (caller by) expected item dropped is) in
      let stored : FromLog earlier asked exact = subst (FromLog earlier asked) same.1 log in
      quiet asked answered reply exact same.1 refl (homes mark earlier by step asked answered exact is)
      (λ there. lay asked answered (record { slot = item.slot.0; home = home; left = subst (λ (o : Option Left). Contains (place_left mark o) right) (sym stored.1) there }))
  comes_from (call.Release lease fence) plain.Done reply is same log =
      let asked = call.Release lease fence in
      let exact : QReply B = done_reply [] gives.Nothing None None in
      let low = released_below mark.width mark.height (told mark earlier) (caller by) (read_token mark.queue lease) fence is in
      let own = eqb-true lease.queue.0 mark.queue.0 (own_named (lease.queue.0 == mark.queue.0) lease.slot low) in
      filling asked plain.Done reply exact (record { slot = lease.slot.0; held = lease.held; turn = lease.turn }) same refl
      (subst (ComeHome (events (told mark earlier)) (events (told mark (more asked exact)))) (own_slot false (lease.queue.0 == mark.queue.0) lease.slot low)
      (homes mark earlier by step asked plain.Done exact is))
      (is_next asked plain.Done (right_read lease) _ (first (right_read lease) []) refl (λ i. record { queue = own i; number = lease.held.number }))
      refl
  comes_from (call.DetachRead lease) plain.Done reply is same log =
      quiet (call.DetachRead lease) plain.Done reply _ same refl (homes mark earlier by step (call.DetachRead lease) plain.Done _ is)
      (is_next (call.DetachRead lease) plain.Done (right_read lease) _ (first (right_read lease) []) refl refl)
  comes_from (call.AttachRead loose) (plain.Attached slot held) reply is same log =
      quiet (call.AttachRead loose) (plain.Attached slot held) reply _ same refl (homes mark earlier by step (call.AttachRead loose) (plain.Attached slot held) _ is)
      (λ there. inr (sym (the_only _ right there)))
  comes_from asked answered reply is same log = absurd same

-- each right in the queue after a call, and each that its reply gives, lay there, was brought, or is that of a buffer that came
pub call_places : {B : Type 0} (mark : QueueMark) (earlier : List (Made B)) (by step : ℕ) (asked : QCall B) (reply : QReply B) → Replied mark earlier by asked reply → (from : BufferOf) (right : RightAt)
    → Contains (places_lying mark (entry by (step, asked) reply ∷ earlier)) right ⊎ Contains (given_at from asked reply.gives) right
    → WasIn (places_lying mark earlier ++ brought_at from asked) right ⊎ IsNewAt mark.queue asked (told_reply mark earlier by asked) right
call_places mark earlier by step asked reply replied from right after =
    comes_from mark earlier by step from right asked (told_reply mark earlier by asked) reply refl replied.answer replied.from after

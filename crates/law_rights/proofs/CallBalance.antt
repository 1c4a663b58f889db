-- A call on a queue uses up and gives rights as its move says: what lies in the queue and what the reply gives is no more than what lay
-- there and what the call brought.
use Rattle.std.proofs.Common.{◌≡◌, ℕ, ◌+◌, ◌<◌, ◌≤◌, Bool, true, false, ◌==◌, List, [], ◌∷◌, arith, ap, ◌∙◌, sym, refl, inl, inr, subst, map, ◌++◌, Option, Some, None, take}
use Rattle.std.specs.Prelude.{if◌then◌else◌}
use Rattle.std.specs.List.{sum_by}
use Rattle.std.proofs.lemmas.Bool.{eq-eqb}
use Rattle.std.proofs.lemmas.List.Sums.{sum_by-append, sum_by-cons}
use Rattle.sf_base.specs.declared.ids.QueueId.{QueueId}
use Rattle.sf_base.specs.declared.ids.SlotId.{SlotId}
use Rattle.sf_base.specs.Fences.{Fence}
use Rattle.sf_base.specs.declared.geometry.Rect.{Rect}
use Rattle.sf_base.specs.declared.status.QStatus.{QStatus}
use Rattle.sf_actor_set.specs.sf_calls.Histories.{entry}
use Rattle.sf_actor_set.specs.sf_picture.declared.picture.Picture.{Picture}
use Rattle.sf_slots.specs.declared.calls.PlainCall.{PlainCall}
use Rattle.sf_slots.specs.declared.calls.PlainCall.TheVariants as said
use Rattle.sf_slots.specs.declared.calls.PlainReply.{PlainReply}
use Rattle.sf_slots.specs.declared.calls.PlainReply.TheVariants as plain
use Rattle.sf_slots.specs.Events.{Event, Lend, Take, items_after}
use Rattle.sf_slots.specs.History.{events, events_of, happening, kept_back, slot_after}
use Rattle.sf_slots.proofs.TellsGone.{happening-append}
use Rattle.sf_actor_set.specs.sf_surface.declared.call.Gives.TheVariants as gives
use Rattle.sf_actor_set.specs.sf_surface.declared.call.QCall.{QCall}
use Rattle.sf_actor_set.specs.sf_surface.declared.call.QCall.TheVariants as call
use Rattle.sf_actor_set.specs.sf_surface.declared.call.QReply.{QReply}
use Rattle.sf_actor_set.specs.sf_surface.declared.mark.QueueMark.{QueueMark}
use Rattle.sf_actor_set.specs.sf_surface.declared.work.Work.{Work}
use Rattle.sf_actor_set.specs.sf_surface.declared.work.Work.TheVariants as work
use Rattle.sf_actor_set.specs.sf_surface.Calls.{named_slot, no_slot, queued_slot, shows_other, told_call, write_token, queued_token, read_token}
use Rattle.sf_actor_set.specs.sf_surface.Hands.{IsReply, brought, done_reply, lent_lease, owes, points_of, refused_reply, taken_lease}
use Rattle.sf_actor_set.specs.sf_surface.Tokens.{WriteLeaseOf, ending_drawn, ending_of, turn_after, turn_of}
use Rattle.sf_actor_set.specs.sf_surface.Histories.{FromLog, Left, Made, caller, last_left, left_by, Replied, told, told_reply}
use Rattle.sf_actor_set.specs.sf_turns.Views.{heir_expecting}
use Rattle.sf_actor_set.specs.sf_actor.Rights.{Turn, turn_by}
use Rattle.law_rights.specs.Calls.{MovesRights, brought_rights, ending, given_rights, move_of, queueing}
use Rattle.law_rights.specs.Moves.{Move, Goes, given_by, used_by}
use Rattle.law_rights.specs.Slots.{is_home_after, lying, turn_left}
use Rattle.law_rights.proofs.SlotAnswers.{acquired_waits, lent_again_home, lent_below, queued_below, released_below}
use Rattle.law_rights.proofs.Homes.{ComeHome, StayHome, queued_home}
use Rattle.law_rights.proofs.RightPlaces.{HomesAfter, homes_after, slot_filled}
use Rattle.law_rights.proofs.SlotRights.{events_more, lying_filled, lying_kept, lying_taken}

-- a slot that a token names among the 64 is the token's own
named_below : (b : Bool) (slot : SlotId) → (if b then slot else no_slot).0 < 64 → (if b then slot else no_slot).0 ≡ slot.0
named_below true slot low = refl
named_below false slot low = absurd (omega (arith, low))

queued_named : (other b : Bool) (slot : SlotId) → (if other then no_slot else (if b then slot else no_slot)).0 < 64 → (if other then no_slot else (if b then slot else no_slot)).0 ≡ slot.0
queued_named true b slot low = absurd (omega (arith, low))
queued_named false b slot low = named_below b slot low

-- nothing happens to the slots where a call is refused
refused_slot : (asked : PlainCall) (cause : QStatus) → slot_filled asked (plain.Refused cause) ≡ None
refused_slot said.Connect cause = refl
refused_slot asked cause = refl

module _ {B : Type 0} where
  refused_left : (asked : QCall B) → left_by asked (brought asked) ≡ None
  refused_left call.Connect = refl
  refused_left asked = refl

  pub refused_goes : (queue : QueueId) (asked : QCall B) (cause : QStatus) → move_of queue asked (plain.Refused cause) ≡ Goes
  refused_goes queue call.Connect cause = refl
  refused_goes queue asked cause = refl

  pub refused_same : (asked : QCall B) → given_rights (brought asked) ≡ brought_rights asked
  refused_same call.Connect = refl
  refused_same asked = refl

queue_leaves : (B : Type 0) (queue : QueueId) (lease : WriteLeaseOf) (picture : Picture) (time : Option ℕ) (crop : Rect) (fence : Fence) (frame : ℕ) (done : Work)
    → left_by (call.Queue lease picture time crop fence) (owes {B = B} queue lease frame picture done) ≡ Some (record { slot = lease.slot.0; held = lease.held; turn = heir_expecting (turn_of lease.work) picture })
queue_leaves B queue lease picture time crop fence frame (work.Fresh turn) = refl
queue_leaves B queue lease picture time crop fence frame (work.Drawn inside pixels) = refl

owes_none : (B : Type 0) (queue : QueueId) (lease : WriteLeaseOf) (picture : Picture) (frame : ℕ) (done : Work) → given_rights (owes {B = B} queue lease frame picture done) ≡ []
owes_none B queue lease picture frame (work.Fresh turn) = refl
owes_none B queue lease picture frame (work.Drawn inside pixels) = refl

-- no right lies in a slot that is given away
lent_gone : (s : ℕ) (es : List Event) → is_home_after (Lend s ∷ es) s ≡ false
lent_gone s es = rw (eq-eqb s s refl) refl

taken_gone : (before : List Event) (s : ℕ) (es : List Event) → is_home_after (happening (before ++ Take s ∷ []) es) s ≡ false
taken_gone before s es = ap (λ (new : List Event). is_home_after new s) (happening-append before (Take s ∷ []) es) ∙ at_once (happening before es)
  where
    at_once : (es : List Event) → is_home_after (Take s ∷ es) s ≡ false
    at_once es = rw (eq-eqb s s refl) refl

module _ (w : Turn → ℕ) where
  single : (turn : Turn) → sum_by w (turn ∷ []) ≡ w turn
  single turn = let cons = sum_by-cons w turn [] in omega (arith, cons)

  again_sum : (turn : Turn) → sum_by w (turn ∷ []) + 0 ≤ (w turn + 0) + 0
  again_sum turn = let a = single turn in omega (arith, a)

  -- what goes back or away with a lease is its right, or the next one where the right was used
  ending_sum : (done : Work) → w (turn_by (turn_after done)) + sum_by w (used_by (ending done)) ≤ w (turn_by (turn_of done)) + sum_by w (given_by (ending done))
  ending_sum (work.Fresh turn) = omega arith
  ending_sum (work.Drawn inside pixels) =
      let a = single (turn_by inside) in
      let b = single (inside.buffer, inside.number + 1) in
      omega (arith, a, b)

  queueing_sum : (done : Work) (frame : QueueId × ℕ) (picture : Picture)
      → w (turn_by (heir_expecting (turn_of done) picture)) + sum_by w (used_by (queueing done (record { turn = turn_by (turn_of done); frame = frame })))
      ≤ w (turn_by (turn_of done)) + sum_by w (given_by (queueing done (record { turn = turn_by (turn_of done); frame = frame })))
  queueing_sum (work.Fresh turn) frame picture =
      let a = single (turn_by turn) in
      let b = single (turn.buffer, turn.number + 1) in
      omega (arith, a, b)
  queueing_sum (work.Drawn inside pixels) frame picture =
      let a = single (turn_by inside) in
      let b = single (inside.buffer, inside.number + 1) in
      omega (arith, a, b)

module _ {B : Type 0} (mark : QueueMark) (earlier : List (Made B)) (by step : ℕ) where
  abbrev more : QCall B → QReply B → List (Made B)
  more asked reply = entry by (step, asked) reply ∷ earlier

  -- where rights lie in the slots after a call
  pub homes : (asked : QCall B) (answered : PlainReply) (reply : QReply B) → told_reply mark earlier by asked ≡ answered
      → HomesAfter (slot_filled (told_call mark.queue asked) answered) (events (told mark earlier)) (events (told mark (more asked reply)))
  homes asked answered reply is =
      subst (λ (new : List Event). HomesAfter (slot_filled (told_call mark.queue asked) answered) (events (told mark earlier)) new)
      (sym (events_more mark (entry by (step, asked) reply) earlier
      ∙ ap (λ (given : PlainReply). happening (events_of (events (told mark earlier)) (told mark earlier) (told_call mark.queue asked) given) (events (told mark earlier))) is))
      (homes_after (told mark earlier) (told_call mark.queue asked) answered)

  happened : (asked : QCall B) (answered : PlainReply) (reply : QReply B) → told_reply mark earlier by asked ≡ answered
      → events (told mark (more asked reply)) ≡ happening (events_of (events (told mark earlier)) (told mark earlier) (told_call mark.queue asked) answered) (events (told mark earlier))
  happened asked answered reply is =
      events_more mark (entry by (step, asked) reply) earlier
      ∙ ap (λ (given : PlainReply). happening (events_of (events (told mark earlier)) (told mark earlier) (told_call mark.queue asked) given) (events (told mark earlier))) is

  -- the slot into which a right comes is one of the 64
  filled_below : (asked : QCall B) (answered : PlainReply) → told_reply mark earlier by asked ≡ answered → (s : ℕ) → slot_filled (told_call mark.queue asked) answered ≡ Some s → s < 64
  filled_below (call.Queue lease picture time crop fence) (plain.Queued frame) is s some =
      let low = queued_below mark.width mark.height (told mark earlier) (caller by) (queued_token mark.queue lease picture) picture.number picture.width picture.height time crop fence frame is in
      subst (λ (t : ℕ). t < 64) (cc (some)) low.0
  filled_below (call.Cancel lease fence) plain.Done is s some = subst (λ (t : ℕ). t < 64) (cc (some)) (lent_below mark.width mark.height (told mark earlier) (caller by) (write_token mark.queue lease) fence is)
  filled_below (call.Release lease fence) plain.Done is s some = subst (λ (t : ℕ). t < 64) (cc (some)) (released_below mark.width mark.height (told mark earlier) (caller by) (read_token mark.queue lease) fence is)
  filled_below asked answered is s some = absurd (cc (some))

-- rights lie only in the 64 slots
pub all_below : {B : Type 0} (mark : QueueMark) (calls : List (Made B)) (s : ℕ) → is_home_after (events (told mark calls)) s ≡ true → s < 64
unfolding told
all_below mark [] s home = absurd (cc (home))
all_below {B} mark (made ∷ earlier) s home = by_slot (slot_filled (told_call mark.queue made.call.1) (told_reply mark earlier made.by made.call.1)) refl (homes mark earlier made.by made.call.0 made.call.1 (told_reply mark earlier made.by made.call.1) made.reply refl) (all_below mark earlier s)
  where
    by_slot : (slot : Option ℕ) → slot_filled (told_call mark.queue made.call.1) (told_reply mark earlier made.by made.call.1) ≡ slot
        → HomesAfter (slot_filled (told_call mark.queue made.call.1) (told_reply mark earlier made.by made.call.1)) (events (told mark earlier)) (events (told mark (made ∷ earlier)))
        → (is_home_after (events (told mark earlier)) s ≡ true → s < 64) → s < 64
    by_slot None none after before =
        let stay : StayHome (events (told mark earlier)) (events (told mark (made ∷ earlier))) = subst (λ (o : Option ℕ). HomesAfter o (events (told mark earlier)) (events (told mark (made ∷ earlier)))) none after in
        before (stay.stays s home)
    by_slot (Some slot) some after before =
        let come : ComeHome (events (told mark earlier)) (events (told mark (made ∷ earlier))) slot = subst (λ (o : Option ℕ). HomesAfter o (events (told mark earlier)) (events (told mark (made ∷ earlier)))) some after in
        elim (come.stays s home) [
          | inl same ↦ subst (λ (t : ℕ). t < 64) (sym same) (filled_below mark earlier made.by made.call.0 made.call.1 (told_reply mark earlier made.by made.call.1) refl slot some)
          | inr was ↦ before was
        ]

module _ {B : Type 0} (mark : QueueMark) (earlier : List (Made B)) (by step : ℕ) where
  module _ (w : Turn → ℕ) where
    -- what lies in the queue and what a reply gives is no more than what lay there and what the call brought
    abbrev pub Balances : QCall B → PlainReply → QReply B → Type 0
    Balances asked answered reply =
        (sum_by w (lying mark (more mark earlier by step asked reply)) + sum_by w (given_rights reply.gives)) + sum_by w (used_by (move_of mark.queue asked answered))
        ≤ (sum_by w (lying mark earlier) + sum_by w (brought_rights asked)) + sum_by w (given_by (move_of mark.queue asked answered))

    -- a call that leaves no right in a slot
    quiet : (asked : QCall B) (answered : PlainReply) (reply : QReply B) → left_by asked reply.gives ≡ None → StayHome (events (told mark earlier)) (events (told mark (more mark earlier by step asked reply)))
        → sum_by w (given_rights reply.gives) + sum_by w (used_by (move_of mark.queue asked answered)) ≤ sum_by w (brought_rights asked) + sum_by w (given_by (move_of mark.queue asked answered))
        → Balances asked answered reply
    quiet asked answered reply none stay same =
        let kept = lying_kept w mark (entry by (step, asked) reply) earlier none stay in
        omega (arith, kept, same)

    -- one that leaves a right there
    filling : (asked : QCall B) (answered : PlainReply) (reply : QReply B) (left : Left) → left_by asked reply.gives ≡ Some left → ComeHome (events (told mark earlier)) (events (told mark (more mark earlier by step asked reply))) left.slot
        → (w (turn_by left.turn) + sum_by w (given_rights reply.gives)) + sum_by w (used_by (move_of mark.queue asked answered)) ≤ sum_by w (brought_rights asked) + sum_by w (given_by (move_of mark.queue asked answered))
        → Balances asked answered reply
    filling asked answered reply left some come same =
        let filled = lying_filled w mark (entry by (step, asked) reply) earlier left some come in
        omega (arith, filled, same)

    -- one that gives a right away that lay there
    giving : (asked : QCall B) (answered : PlainReply) (reply : QReply B) (slot : ℕ) (turn : Turn) → slot < 64 → left_by asked reply.gives ≡ None → StayHome (events (told mark earlier)) (events (told mark (more mark earlier by step asked reply)))
        → is_home_after (events (told mark earlier)) slot ≡ true → is_home_after (events (told mark (more mark earlier by step asked reply))) slot ≡ false → turn_left (last_left earlier slot) ≡ turn ∷ []
        → sum_by w (given_rights reply.gives) + sum_by w (used_by (move_of mark.queue asked answered)) ≤ (w turn + sum_by w (brought_rights asked)) + sum_by w (given_by (move_of mark.queue asked answered))
        → Balances asked answered reply
    giving asked answered reply slot turn low none stay was gone is same =
        let taken = lying_taken w mark (entry by (step, asked) reply) earlier slot turn low none stay was gone is in
        omega (arith, taken, same)

    refused : (asked : QCall B) (cause : QStatus) (reply : QReply B) → told_reply mark earlier by asked ≡ plain.Refused cause → reply ≡ refused_reply cause asked → Balances asked (plain.Refused cause) reply
    refused asked cause reply is same = subst (Balances asked (plain.Refused cause)) (sym same)
        (quiet asked (plain.Refused cause) (refused_reply cause asked) (refused_left asked)
        (subst (λ (slot : Option ℕ). HomesAfter slot (events (told mark earlier)) (events (told mark (more mark earlier by step asked (refused_reply cause asked))))) (refused_slot (told_call mark.queue asked) cause)
        (homes mark earlier by step asked (plain.Refused cause) (refused_reply cause asked) is))
        equal)
      where
        equal : sum_by w (given_rights (brought asked)) + sum_by w (used_by (move_of mark.queue asked (plain.Refused cause))) ≤ sum_by w (brought_rights asked) + sum_by w (given_by (move_of mark.queue asked (plain.Refused cause)))
        equal =
            let a = ap (sum_by w) (refused_same asked) in
            let b = ap (λ (m : Move). sum_by w (used_by m)) (refused_goes mark.queue asked cause) in
            omega (arith, a, b)

    -- a call that leaves no right, by what it is told and what it replies
    plainly : (asked : QCall B) (answered : PlainReply) (reply exact : QReply B) → reply ≡ exact → left_by asked exact.gives ≡ None → StayHome (events (told mark earlier)) (events (told mark (more mark earlier by step asked exact)))
        → sum_by w (given_rights exact.gives) + sum_by w (used_by (move_of mark.queue asked answered)) ≤ sum_by w (brought_rights asked) + sum_by w (given_by (move_of mark.queue asked answered))
        → Balances asked answered reply
    plainly asked answered reply exact same none stay equal = subst (Balances asked answered) (sym same) (quiet asked answered exact none stay equal)

    pub balance : (asked : QCall B) (answered : PlainReply) (reply : QReply B) → told_reply mark earlier by asked ≡ answered → IsReply mark.queue asked answered reply → FromLog earlier asked reply → Balances asked answered reply
    balance asked (plain.Refused cause) reply is same from = refused asked cause reply is same
    balance call.Connect plain.Done reply is same from = plainly call.Connect plain.Done reply _ same refl (homes mark earlier by step call.Connect plain.Done _ is) (omega arith)
    balance call.Disconnect plain.Done reply is same from = plainly call.Disconnect plain.Done reply _ same refl (homes mark earlier by step call.Disconnect plain.Done _ is) (omega arith)
    balance (call.MaxDequeued n) plain.Done reply is same from = plainly (call.MaxDequeued n) plain.Done reply _ same refl (homes mark earlier by step (call.MaxDequeued n) plain.Done _ is) (omega arith)
    balance (call.Async on) plain.Done reply is same from = plainly (call.Async on) plain.Done reply _ same refl (homes mark earlier by step (call.Async on) plain.Done _ is) (omega arith)
    balance (call.MaxAcquired n) plain.Done reply is same from = plainly (call.MaxAcquired n) plain.Done reply _ same refl (homes mark earlier by step (call.MaxAcquired n) plain.Done _ is) (omega arith)
    balance call.Abandon plain.Done reply is same from = plainly call.Abandon plain.Done reply _ same refl (homes mark earlier by step call.Abandon plain.Done _ is) (omega arith)
    balance (call.Dequeue wide high wait permit) (plain.Dequeued slot held requested true fence) reply is same from =
        plainly (call.Dequeue wide high wait permit) (plain.Dequeued slot held requested true fence) reply _ same refl (homes mark earlier by step (call.Dequeue wide high wait permit) (plain.Dequeued slot held requested true fence) _ is) (omega arith)
    balance (call.Dequeue wide high wait permit) (plain.Dequeued slot held requested false fence) reply is same from =
        let asked = call.Dequeue wide high wait permit in
        let answered = plain.Dequeued slot held requested false fence in
        let exact : QReply B = done_reply (slot.0 ∷ held.number ∷ 0 ∷ points_of fence) (gives.Write (lent_lease mark.queue slot held requested fence same.0)) None (Some permit) in
        let home = lent_again_home mark.width mark.height (told mark earlier) (caller by) wide high wait slot held requested fence is in
        let stored : FromLog earlier asked exact = subst (FromLog earlier asked) same.1 from in
        subst (Balances asked answered) (sym same.1)
        (giving asked answered exact slot.0 (turn_by same.0) home.0 refl (homes mark earlier by step asked answered exact is) home.1
        (ap (λ (es : List Event). is_home_after es slot.0) (happened mark earlier by step asked answered exact is) ∙ lent_gone slot.0 (events (told mark earlier)))
        (ap turn_left stored) (again_sum w (turn_by same.0)))
    balance (call.Request lease) (plain.Requested held) reply is same from =
        plainly (call.Request lease) (plain.Requested held) reply _ same refl (homes mark earlier by step (call.Request lease) (plain.Requested held) _ is) (omega arith)
    balance (call.Queue lease picture time crop fence) (plain.Queued frame) reply is same from =
        let asked = call.Queue lease picture time crop fence in
        let exact : QReply B = done_reply (lease.slot.0 ∷ frame ∷ []) (owes mark.queue lease frame picture lease.work) (ending_of lease.work picture) None in
        let low = filled_below mark earlier by step asked (plain.Queued frame) is (queued_slot mark.queue lease picture).0 refl in
        let sums = queueing_sum w lease.work (mark.queue, frame) picture in
        let a = single w (turn_by (turn_of lease.work)) in
        let b = ap (sum_by w) (owes_none B mark.queue lease picture frame lease.work) in
        subst (Balances asked (plain.Queued frame)) (sym same)
        (filling asked (plain.Queued frame) exact (record { slot = lease.slot.0; held = lease.held; turn = heir_expecting (turn_of lease.work) picture })
        (queue_leaves B mark.queue lease picture time crop fence frame lease.work)
        (subst (ComeHome (events (told mark earlier)) (events (told mark (more mark earlier by step asked exact)))) (queued_named (shows_other lease.work picture) (lease.queue.0 == mark.queue.0) lease.slot low)
        (homes mark earlier by step asked (plain.Queued frame) exact is))
        (omega (arith, sums, a, b)))
    balance (call.Cancel lease fence) plain.Done reply is same from =
        let asked = call.Cancel lease fence in
        let exact : QReply B = done_reply [] gives.Nothing (ending_drawn lease.work) None in
        let low = filled_below mark earlier by step asked plain.Done is (named_slot mark.queue lease.queue lease.slot).0 refl in
        let sums = ending_sum w lease.work in
        let a = single w (turn_by (turn_of lease.work)) in
        subst (Balances asked plain.Done) (sym same)
        (filling asked plain.Done exact (record { slot = lease.slot.0; held = lease.held; turn = turn_after lease.work }) refl
        (subst (ComeHome (events (told mark earlier)) (events (told mark (more mark earlier by step asked exact)))) (named_below (lease.queue.0 == mark.queue.0) lease.slot low)
        (homes mark earlier by step asked plain.Done exact is))
        (omega (arith, sums, a)))
    balance (call.Detach lease) plain.Done reply is same from =
        let sums = ending_sum w lease.work in
        let a = single w (turn_by (turn_after lease.work)) in
        let b = single w (turn_by (turn_of lease.work)) in
        plainly (call.Detach lease) plain.Done reply _ same refl (homes mark earlier by step (call.Detach lease) plain.Done _ is) (omega (arith, sums, a, b))
    balance (call.Attach loose) (plain.Attached slot held) reply is same from =
        plainly (call.Attach loose) (plain.Attached slot held) reply _ same refl (homes mark earlier by step (call.Attach loose) (plain.Attached slot held) _ is) (omega arith)
    balance (call.Acquire expected) (plain.Acquired item dropped) reply is same from =
        let asked = call.Acquire expected in
        let answered = plain.Acquired item dropped in
        let exact : QReply B = done_reply (item.slot.0 ∷ item.frame ∷ item.picture ∷ dropped ∷ points_of item.fence) (gives.Read (taken_lease mark.queue item same.0)) None None in
        let home = queued_home (slot_after (events (told mark earlier)) item.slot.0) (acquired_waits mark.width mark.height (told mark earlier) (caller by) expected item dropped is) in
        let stored : FromLog earlier asked exact = subst (FromLog earlier asked) same.1 from in
        subst (Balances asked answered) (sym same.1)
        (giving asked answered exact item.slot.0 (turn_by same.0) (all_below mark earlier item.slot.0 home) refl (homes mark earlier by step asked answered exact is) home
        (ap (λ (es : List Event). is_home_after es item.slot.0) (happened mark earlier by step asked answered exact is) ∙ taken_gone (map kept_back (take dropped (items_after (events (told mark earlier))))) item.slot.0 (events (told mark earlier)))
        (ap turn_left stored.1) (again_sum w (turn_by same.0)))
    balance (call.Release lease fence) plain.Done reply is same from =
        let asked = call.Release lease fence in
        let exact : QReply B = done_reply [] gives.Nothing None None in
        let low = filled_below mark earlier by step asked plain.Done is (named_slot mark.queue lease.queue lease.slot).0 refl in
        let a = single w (turn_by lease.turn) in
        subst (Balances asked plain.Done) (sym same)
        (filling asked plain.Done exact (record { slot = lease.slot.0; held = lease.held; turn = lease.turn }) refl
        (subst (ComeHome (events (told mark earlier)) (events (told mark (more mark earlier by step asked exact)))) (named_below (lease.queue.0 == mark.queue.0) lease.slot low)
        (homes mark earlier by step asked plain.Done exact is))
        (omega (arith, a)))
    balance (call.DetachRead lease) plain.Done reply is same from =
        plainly (call.DetachRead lease) plain.Done reply _ same refl (homes mark earlier by step (call.DetachRead lease) plain.Done _ is) (omega arith)
    balance (call.AttachRead loose) (plain.Attached slot held) reply is same from =
        plainly (call.AttachRead loose) (plain.Attached slot held) reply _ same refl (homes mark earlier by step (call.AttachRead loose) (plain.Attached slot held) _ is) (omega arith)
    balance asked answered reply is same from = absurd same

-- a call moves rights as its move says
pub call_moves : {B : Type 0} (mark : QueueMark) (earlier : List (Made B)) (by step : ℕ) (asked : QCall B) (reply : QReply B) → Replied mark earlier by asked reply → MovesRights mark earlier by step asked reply
call_moves {B} mark earlier by step asked reply replied w =
    let bound = balance mark earlier by step w asked (told_reply mark earlier by asked) reply refl replied.answer replied.from in
    let a = sum_by-append w (lying mark (entry by (step, asked) reply ∷ earlier)) (given_rights reply.gives) in
    let b = sum_by-append w (lying mark earlier) (brought_rights asked) in
    omega (arith, bound, a, b)

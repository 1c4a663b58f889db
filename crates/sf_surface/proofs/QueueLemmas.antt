-- What queueing a frame does to the queue.
use Rattle.std.proofs.Common.{◌≡◌, ℕ, ◌+◌, ◌<◌, Bool, true, false, not, ◌==◌, ◌&&◌, List, [], ◌∷◌, inl, inr, arith, ap, ◌∙◌, sym, refl, subst, Option, Some, None}
use Rattle.std.specs.Prelude.{if◌then◌else◌}
use Rattle.std.proofs.lemmas.Bool.{cases_Bool}
use Rattle.std.proofs.lemmas.Bool.Decides.{nat_tests}
use Rattle.atomic_table.specs.Seated.{TableId}
use Rattle.sf_base.specs.Fences.{Fence, no_points}
use Rattle.sf_base.specs.declared.geometry.Rect.{Rect}
use Rattle.sf_base.specs.declared.ids.ActorId.{ActorId}
use Rattle.sf_base.specs.declared.ids.QueueId.{QueueId}
use Rattle.sf_base.specs.declared.status.QStatus.{QStatus}
use Rattle.sf_base.specs.declared.status.QStatus.TheVariants.{BadValue}
use Rattle.sf_calls.specs.Histories.{entry}
use Rattle.sf_turns.specs.sf_picture.Pixels.{HasSize}
use Rattle.sf_turns.specs.sf_picture.declared.picture.Picture.{Picture}
use Rattle.sf_slots.specs.declared.calls.PlainCall.TheVariants as plain
use Rattle.sf_slots.specs.declared.calls.PlainReply.TheVariants as reply
use Rattle.sf_slots.specs.declared.calls.WriteToken.{WriteToken}
use Rattle.sf_slots.specs.declared.item.Item.{Item}
use Rattle.sf_slots.specs.declared.settings.Settings.{Settings}
use Rattle.sf_slots.specs.declared.slot.Held.{Held}
use Rattle.sf_slots.specs.declared.slot.Slot.{Slot}
use Rattle.sf_slots.specs.declared.slot.SlotState.TheVariants.{Dequeued}
use Rattle.sf_slots.specs.Told.{Told, slot_at}
use Rattle.sf_slots.specs.Queue.{IsOut, Queue, IsSound, told_of, slot_in, last_in, replacing, enqueued}
use Rattle.sf_slots.specs.Replies.{Refusal, refusal_of, is_producer, is_lent, is_buffer, is_crop_of}
use Rattle.sf_slots.specs.Tells.{Continues}
use Rattle.sf_slots.proofs.HistoryGoesOn.{Continues-refused, lent_is_out, lent_there, own_unmet, unmet}
use Rattle.sf_queue.specs.declared.queueing.QueueOrder.{QueueOrder}
use Rattle.sf_queue.specs.Leases as write
use Rattle.sf_queue.specs.Orders.{call_of, item_of, order_call, queue_call}
use Rattle.sf_base.specs.declared.ids.SlotId.{SlotId}
use Rattle.sf_turns.specs.Views.{heir_expecting, issued_with}
use Rattle.sf_surface.specs.inner.Rights.{owed_of}
use Rattle.sf_surface.specs.declared.call.Gives.{Gives}
use Rattle.sf_surface.specs.declared.call.Gives.TheVariants as gives
use Rattle.sf_surface.specs.declared.call.QCall.{QCall}
use Rattle.sf_surface.specs.declared.call.QCall.TheVariants as call
use Rattle.sf_surface.specs.declared.call.QReply.{QReply}
use Rattle.sf_surface.specs.declared.work.Work.{Work}
use Rattle.sf_surface.specs.declared.work.Work.TheVariants as work
use Rattle.sf_surface.specs.Calls.{named_slot, no_slot, queued_token, shows_other}
use Rattle.sf_surface.specs.Hands.{done_reply, owes, refused_reply}
use Rattle.sf_surface.specs.Histories.{Left, Made, Stored, left_by}
use Rattle.sf_surface.specs.Inside.{order_from, unlent_refusal}
use Rattle.sf_surface.specs.Objects.{Does, IsFitItem, IsFrameOf, IsSeated}
use Rattle.sf_surface.specs.Tokens.{Issued, IsPictureOf, IsRightOf, Right, WriteLeaseOf, ending_of, is_size_of, turn_of}
use Rattle.sf_surface.proofs.DoesLemmas.{moves, refuses}
use Rattle.sf_surface.proofs.FitLemmas.{IsFit-enqueued}
use Rattle.sf_surface.proofs.LeaseLemmas.{first_unlent, meant_is, says, unlent}
use Rattle.sf_surface.proofs.StoredLemmas.{below_64, more_left, named_itself, newest, stored_now}

-- the tests of a queue call behind that of its lease
later_tests : Told → WriteToken → ℕ → ℕ → Rect → List Refusal
later_tests told said width height crop =
    (not (slot_at told said.slot.0).requested, BadValue) ∷ (not ((width == said.held.width) && (height == said.held.height)), BadValue) ∷ (not (is_crop_of said.held crop), BadValue) ∷ []

not_false : (b : Bool) → not b ≡ false → b ≡ true
not_false true same = refl
not_false false same = absurd (cc (same))

-- a frame that is queued comes from a lent slot, has a picture of the buffer's size, and its crop lies in the buffer
pub record IsAllowed (slot : Slot) (held : Held) (width height : ℕ) (crop : Rect) : Type 0 where
  pub lent : slot.state ≡ Dequeued
  pub sized : ((width == held.width) && (height == held.height)) ≡ true
  pub inside : is_crop_of held crop ≡ true

allowed : (told : Told) (by : ActorId) (said : WriteToken) (number width height : ℕ) (time : Option ℕ) (crop : Rect) (fence : Fence) → refusal_of told by (plain.Queue said number width height time crop fence) ≡ None → IsAllowed (slot_at told said.slot.0) said.held width height crop
allowed told by said number width height time crop fence none =
    let fourth : List Refusal = (not (is_crop_of said.held crop), BadValue) ∷ [] in
    let third : List Refusal = (not ((width == said.held.width) && (height == said.held.height)), BadValue) ∷ fourth in
    let second : List Refusal = (not (slot_at told said.slot.0).requested, BadValue) ∷ third in
    let own = own_unmet told by (plain.Queue said number width height time crop fence) none in
    let a = unmet (not (is_lent told said.slot said.held)) BadValue second own in
    let b = unmet (not (slot_at told said.slot.0).requested) BadValue third a.1 in
    let c = unmet (not ((width == said.held.width) && (height == said.held.height))) BadValue fourth b.1 in
    record {
      lent = lent_there told said.slot said.held second own;
      sized = not_false ((width == said.held.width) && (height == said.held.height)) c.0;
      inside = not_false (is_crop_of said.held crop) (unmet (not (is_crop_of said.held crop)) BadValue [] c.1).0;
    }

-- a picture of a buffer's size has a size that pictures have, where another of it has
sized_like : (held : Held) (picture other : Picture) → is_size_of picture held ≡ true → IsPictureOf held other → IsPictureOf held picture
sized_like held picture other size like =
    let size_too = like.size in
    record {
      size = size;
      fits = record {
        wide = grind (arith, nat_tests, size, size_too, like.fits.wide);
        narrow = grind (arith, nat_tests, size, size_too, like.fits.narrow);
        high = grind (arith, nat_tests, size, size_too, like.fits.high);
        low = grind (arith, nat_tests, size, size_too, like.fits.low);
      };
    }

-- a replaced item changes neither the number nor the settings
replacing_same : (q : Queue Right) (found : Option (Item Right)) → ((replacing q found).number ≡ q.number) × ((replacing q found).settings ≡ q.settings)
replacing_same q None = (refl, refl)
replacing_same q (Some last) = elim (cases_Bool last.droppable) [
  | inl met ↦ rw met (refl, refl)
  | inr kept ↦ rw kept (refl, refl)
]

-- a lease in which another picture was drawn names no slot
slot_met : (b : Bool) (s : SlotId) → (if b then no_slot else s).0 < 64 → b ≡ false
slot_met true s low = absurd (omega (arith, low))
slot_met false s low = refl

pub shows_queued : (queue : QueueId) (lease : WriteLeaseOf) (picture : Picture) (said : WriteToken) → said ≡ queued_token queue lease picture → said.slot.0 < 64 → shows_other lease.work picture ≡ false
shows_queued queue lease picture said same low = slot_met (shows_other lease.work picture) (named_slot queue lease.queue lease.slot) (subst (λ (t : WriteToken). t.slot.0 < 64) same low)

-- a lease whose buffer is there names its own slot
queued_itself : (q : Queue Right) (lease : WriteLeaseOf) (picture : Picture) (said : WriteToken) → IsSound q → said ≡ queued_token q.number lease picture → (slot_in q said.slot.0).held ≡ Some said.held → said.slot ≡ lease.slot
queued_itself q lease picture said sound same there =
    let shows = shows_queued q.number lease picture said same (below_64 q said.slot.0 said.held sound there) in
    let named : said.slot ≡ named_slot q.number lease.queue lease.slot =
    ap (λ (t : WriteToken). t.slot) same ∙ ap (λ (b : Bool). if b then no_slot else named_slot q.number lease.queue lease.slot) shows in
    named_itself q lease.queue lease.slot said.slot said.held sound named there

-- the refusal of a queue call, by what is asked of the queue before
pub queue_met : (q : Queue Right) (by : ActorId) (said : WriteToken) (number width height : ℕ) (time : Option ℕ) (crop : Rect) (fence : Fence) (cause : QStatus) → (slot_in q said.slot.0).held ≡ Some said.held → Some cause ≡ refusal_of (told_of q) by (queue_call (write.lease_of (told_of q) said.slot said.held.number) width height crop) → refusal_of (told_of q) by (plain.Queue said number width height time crop fence) ≡ Some cause
queue_met q by said number width height time crop fence cause there met =
    ap (λ (h : Held). refusal_of (told_of q) by (plain.Queue (record { slot = said.slot; held = h; requested = false; fence = no_points; drawn = false }) 0 width height None crop no_points)) (sym (meant_is q said there)) ∙ sym met

-- a lease that is queued leaves the right to read it
owes_leaves : (B : Type 0) (queue : QueueId) (lease : WriteLeaseOf) (frame : ℕ) (picture : Picture) (time : Option ℕ) (crop : Rect) (fence : Fence) (found : Work) → left_by {B = B} (call.Queue lease picture time crop fence) (owes queue lease frame picture found) ≡ Some (record { slot = lease.slot.0; held = lease.held; turn = heir_expecting (turn_of lease.work) picture })
owes_leaves B queue lease frame picture time crop fence (work.Fresh turn) = refl
owes_leaves B queue lease frame picture time crop fence (work.Drawn inside pixels) = refl

module _ {B : Type 0} (table : TableId) where
  pub queue_unlent : (q : Queue Right) (by : ActorId) (lease : WriteLeaseOf) (picture : Picture) (time : Option ℕ) (crop : Rect) (fence : Fence) (said : WriteToken) (cause : QStatus) (answer : QReply B) → said ≡ queued_token q.number lease picture → IsSound q → (said.slot.0 < 64 → is_buffer (slot_in q said.slot.0).held said.held ≡ false) → cause ≡ unlent_refusal q.settings by → answer ≡ refused_reply cause (call.Queue lease picture time crop fence) → Does table q q by (call.Queue lease picture time crop fence) answer
  unfolding later_tests
  queue_unlent q by lease picture time crop fence said cause answer same sound other causes is =
      let met : refusal_of (told_of q) by (plain.Queue said picture.number picture.width picture.height time crop fence) ≡ Some cause =
      first_unlent q.settings.abandoned (is_producer q.settings.connected by) (is_lent (told_of q) said.slot said.held) (later_tests (told_of q) said picture.width picture.height crop) (unlent q said sound other) ∙ ap (λ (c : QStatus). Some c) (sym causes) in
      refuses table q q by (call.Queue lease picture time crop fence) cause answer refl
      (subst (λ (t : WriteToken). Continues q q by (plain.Queue t picture.number picture.width picture.height time crop fence) (reply.Refused cause)) same (Continues-refused q by (plain.Queue said picture.number picture.width picture.height time crop fence) cause met)) is

  -- a queue call that the queue itself refuses
  pub queue_refused : (q : Queue Right) (by : ActorId) (lease : WriteLeaseOf) (picture : Picture) (time : Option ℕ) (crop : Rect) (fence : Fence) (said : WriteToken) (cause : QStatus) (answer : QReply B) → said ≡ queued_token q.number lease picture → refusal_of (told_of q) by (plain.Queue said picture.number picture.width picture.height time crop fence) ≡ Some cause → answer ≡ refused_reply cause (call.Queue lease picture time crop fence) → Does table q q by (call.Queue lease picture time crop fence) answer
  queue_refused q by lease picture time crop fence said cause answer same met is =
      refuses table q q by (call.Queue lease picture time crop fence) cause answer refl
      (subst (λ (t : WriteToken). Continues q q by (plain.Queue t picture.number picture.width picture.height time crop fence) (reply.Refused cause)) same (Continues-refused q by (plain.Queue said picture.number picture.width picture.height time crop fence) cause met)) is

  -- a frame is queued
  queues_from : (q after : Queue Right) (by : ActorId) (lease : WriteLeaseOf) (picture : Picture) (time : Option ℕ) (crop : Rect) (fence : Fence) (said : WriteToken) (answer : QReply B) → said ≡ queued_token q.number lease picture → IsSound q → (slot_in q said.slot.0).held ≡ Some said.held → IsRightOf table lease.held (turn_of lease.work) → refusal_of (told_of q) by (order_call (told_of q) (order_from said picture time crop fence (heir_expecting (turn_of lease.work) picture))) ≡ None → after ≡ enqueued q (item_of q (order_from said picture time crop fence (heir_expecting (turn_of lease.work) picture))) → Continues q after by (call_of (order_from said picture time crop fence (heir_expecting (turn_of lease.work) picture)) said) (reply.Queued (q.settings.frames + 1)) → answer ≡ done_reply (lease.slot.0 ∷ (q.settings.frames + 1) ∷ []) (owes q.number lease (q.settings.frames + 1) picture lease.work) (ending_of lease.work picture) None → Does table q after by (call.Queue lease picture time crop fence) answer
  queues_from q after by lease picture time crop fence said answer same sound there right none left goes is =
      let turn : Right = turn_of lease.work in
      let heir : Right = heir_expecting turn picture in
      let item : Item Right = item_of q (order_from said picture time crop fence heir) in
      let held_is : item.held ≡ said.held = meant_is q said there in
      let held_from : item.held ≡ lease.held = held_is ∙ ap (λ (t : WriteToken). t.held) same in
      let may = allowed (told_of q) by (write.lease_of (told_of q) said.slot said.held.number) picture.number picture.width picture.height time crop fence none in
      let sized : is_size_of picture lease.held ≡ true = subst (λ (h : Held). is_size_of picture h ≡ true) held_from may.sized in
      let shows : IsPictureOf lease.held picture = sized_like lease.held picture turn.expects sized right.expects in
      let fit_item : IsFitItem table item = record {
        right = record { of_table = right.of_table; expects = subst (λ (h : Held). IsPictureOf h picture) (sym held_from) shows };
        shows = record { number = refl; inside = may.inside };
      } in
      let seated_item : IsSeated q item = there ∙ ap (λ (h : Held). Some h) (sym held_is) in
      let named : said.slot.0 ≡ lease.slot.0 = ap (λ (s : SlotId). s.0) (queued_itself q lease picture said sound same there) in
      let out : IsOut (slot_in q lease.slot.0).state = subst (λ (n : ℕ). IsOut (slot_in q n).state) named (lent_is_out (slot_in q said.slot.0).state may.lent) in
      let own : Left = record { slot = lease.slot.0; held = lease.held; turn = heir } in
      let asked : QCall B = call.Queue lease picture time crop fence in
      let leaves : left_by asked answer.gives ≡ Some own =
      ap (λ (r : QReply B). left_by asked r.gives) is ∙ owes_leaves B q.number lease (q.settings.frames + 1) picture time crop fence lease.work in
      let same_rest = replacing_same q (last_in q.items) in
      moves table q after (enqueued q item) by asked (reply.Queued (q.settings.frames + 1)) answer left
      (record { number = same_rest.0; width = ap (λ (s : Settings). s.width) same_rest.1; height = ap (λ (s : Settings). s.height) same_rest.1 })
      (IsFit-enqueued (λ s held right. IsRightOf table held right) (IsFitItem table) (λ item fits. fits.right) q item fit_item seated_item)
      (subst (λ (t : WriteToken). Continues q after by (plain.Queue t picture.number picture.width picture.height time crop fence) (reply.Queued (q.settings.frames + 1))) same goes)
      is
      (λ log stored. tt)
      (λ log step stored.
      let made : Made B = entry by.0 (step, asked) answer in
      let now : Stored (made ∷ log) lease.slot.0 lease.held heir = stored_now log made own leaves in
      let frame : IsFrameOf (made ∷ log) item = record {
        queued = (made, newest made log, record { step = step; lease = lease; picture = picture; time = time; crop = crop; fence = fence; queue = q.number; call = refl; reply = is; follows = refl });
        stored = subst (λ (n : ℕ). Stored (made ∷ log) n item.held heir) (sym named) (subst (λ (h : Held). Stored (made ∷ log) lease.slot.0 h heir) (sym held_from) now);
      } in
      IsFit-enqueued (Stored (made ∷ log)) (IsFrameOf (made ∷ log)) (λ item is. is.stored) q item frame seated_item (more_left q log made own sound leaves out stored))

  pub queues : (q after : Queue Right) (by : ActorId) (lease : WriteLeaseOf) (picture : Picture) (time : Option ℕ) (crop : Rect) (fence : Fence) (said : WriteToken) (order : QueueOrder Right) (answer : QReply B) → said ≡ queued_token q.number lease picture → order ≡ order_from said picture time crop fence (heir_expecting (turn_of lease.work) picture) → IsSound q → (slot_in q said.slot.0).held ≡ Some said.held → IsRightOf table lease.held (turn_of lease.work) → refusal_of (told_of q) by (order_call (told_of q) order) ≡ None → after ≡ enqueued q (item_of q order) → ((lease : WriteToken) → write.IsLeaseOf (told_of q) order.slot order.buffer lease → Continues q after by (call_of order lease) (reply.Queued (q.settings.frames + 1))) → answer ≡ done_reply (lease.slot.0 ∷ (q.settings.frames + 1) ∷ []) (owes q.number lease (q.settings.frames + 1) picture lease.work) (ending_of lease.work picture) None → Does table q after by (call.Queue lease picture time crop fence) answer
  queues q after by lease picture time crop fence said order answer same ordered sound there right none left goes is =
      let from : QueueOrder Right = order_from said picture time crop fence (heir_expecting (turn_of lease.work) picture) in
      let says_order : write.IsLeaseOf (told_of q) order.slot order.buffer said = subst (λ (o : QueueOrder Right). write.IsLeaseOf (told_of q) o.slot o.buffer said) (sym ordered) (says q said there) in
      queues_from q after by lease picture time crop fence said answer same sound there right
      (subst (λ (o : QueueOrder Right). refusal_of (told_of q) by (order_call (told_of q) o) ≡ None) ordered none)
      (subst (λ (o : QueueOrder Right). after ≡ enqueued q (item_of q o)) ordered left)
      (subst (λ (o : QueueOrder Right). Continues q after by (call_of o said) (reply.Queued (q.settings.frames + 1))) ordered (goes said says_order)) is

-- an owing's right, where a picture of the buffer's size is promised
pub owing_fit : (table : TableId) (held : Held) (found : Work) (picture : Picture) (turn : Issued) → IsRightOf table held (turn_of found) → IsPictureOf held picture → owed_of found picture ≡ Some turn → (turn.table ≡ table) × (turn.expects.width ≡ turn.promises.width) × (turn.expects.height ≡ turn.promises.height) × HasSize turn.promises
owing_fit table held (work.Drawn inside pixels) picture turn right shows owed = absurd (cc (owed))
owing_fit table held (work.Fresh fresh) picture turn right shows owed =
    let is : issued_with fresh picture ≡ turn = cc (owed) in
    let before : (fresh.table ≡ table) × (fresh.expects.width ≡ picture.width) × (fresh.expects.height ≡ picture.height) × HasSize picture =
    (right.of_table, grind (arith, nat_tests, shows.size, right.expects.size), grind (arith, nat_tests, shows.size, right.expects.size), shows.fits) in
    subst (λ (t : Issued). (t.table ≡ table) × (t.expects.width ≡ t.promises.width) × (t.expects.height ≡ t.promises.height) × HasSize t.promises) is before

-- a picture that may be queued is one of the buffer
pub queue_shows : (q : Queue Right) (by : ActorId) (said : WriteToken) (lease : WriteLeaseOf) (picture : Picture) (crop : Rect) → said.held ≡ lease.held → (slot_in q said.slot.0).held ≡ Some said.held → IsPictureOf lease.held (turn_of lease.work).expects → None ≡ refusal_of (told_of q) by (queue_call (write.lease_of (told_of q) said.slot said.held.number) picture.width picture.height crop) → IsPictureOf lease.held picture
queue_shows q by said lease picture crop same there expects none =
    let may = allowed (told_of q) by (write.lease_of (told_of q) said.slot said.held.number) 0 picture.width picture.height None crop no_points (sym none) in
    let sized : is_size_of picture lease.held ≡ true = subst (λ (h : Held). is_size_of picture h ≡ true) (meant_is q said there ∙ same) may.sized in
    sized_like lease.held picture (turn_of lease.work).expects sized expects

-- what a queue call gives, by what is owed
pub gives_owed : {B : Type 0} (queue : QueueId) (lease : WriteLeaseOf) (frame : ℕ) (picture : Picture) (found : Work) (turn : Issued) → owed_of found picture ≡ Some turn → (let given : Gives B = gives.Owes (record { queue = queue; slot = lease.slot; frame = frame; fence = lease.fence; turn = turn }) in given) ≡ owes queue lease frame picture found
gives_owed queue lease frame picture (work.Drawn inside pixels) turn owed = absurd (cc (owed))
gives_owed {B} queue lease frame picture (work.Fresh fresh) turn owed =
    let is : turn ≡ issued_with fresh picture = cc (owed) in
    ap (λ (t : Issued). let given : Gives B = gives.Owes (record { queue = queue; slot = lease.slot; frame = frame; fence = lease.fence; turn = t }) in given) is

pub gives_none : {B : Type 0} (queue : QueueId) (lease : WriteLeaseOf) (frame : ℕ) (picture : Picture) (found : Work) → owed_of found picture ≡ None → (let given : Gives B = gives.Nothing in given) ≡ owes queue lease frame picture found
gives_none queue lease frame picture (work.Drawn inside pixels) none = refl
gives_none queue lease frame picture (work.Fresh fresh) none = absurd (cc (none))

-- What no step changes of the bindings: whose they are, how many names and numbers they have, and of which table their permits are.
use Rattle.std.proofs.Common.{◌≡◌, ℕ, Bool, true, false, ◌∷◌, length, Option, Some, None, refl, ap, ◌∙◌, sym, subst}
use Rattle.std.specs.Prelude.{if◌then◌else◌}
use Rattle.std.proofs.lemmas.List.{length-map, length-set}
use Rattle.atomic_table.specs.Seated.{TableId}
use Rattle.sf_base.specs.Fences.{Fence}
use Rattle.sf_base.specs.declared.fences.Seen.{Seen}
use Rattle.sf_base.specs.declared.ids.QueueId.{QueueId}
use Rattle.sf_actor.specs.sf_calls.Histories.{IsLegal, entry}
use Rattle.sf_actor.specs.sf_picture.declared.picture.Picture.{Picture}
use Rattle.sf_actor.specs.sf_script_scene.declared.step.Step.{Step}
use Rattle.sf_actor.specs.sf_script_scene.declared.step.Step.TheVariants as step
use Rattle.sf_actor.specs.sf_slots.declared.calls.PlainReply.{PlainReply}
use Rattle.sf_actor.specs.sf_slots.declared.calls.PlainReply.TheVariants as plain
use Rattle.sf_actor.specs.sf_surface.declared.call.Gives.{Gives}
use Rattle.sf_actor.specs.sf_surface.declared.call.Gives.TheVariants as gives
use Rattle.sf_actor.specs.sf_surface.declared.call.QCall.{QCall}
use Rattle.sf_actor.specs.sf_surface.declared.call.QCall.TheVariants as call
use Rattle.sf_actor.specs.sf_surface.declared.call.QReply.{QReply}
use Rattle.sf_actor.specs.sf_surface.Hands.{IsReply, IsReplyDone, brought, permit_of}
use Rattle.sf_actor.specs.sf_surface.Histories.{Answers, Replied}
use Rattle.sf_actor.specs.sf_surface.Tokens.{ReadLeaseOf}
use Rattle.sf_actor.specs.sf_turns.Views.{PermitView}
use Rattle.sf_actor.specs.sf_txn.Transactions.{Contents, empty, merged}
use Rattle.sf_actor.specs.declared.holding.Holding.{Holding}
use Rattle.sf_actor.specs.declared.holding.Holding.TheVariants as holding
use Rattle.sf_actor.specs.Desks.{DeskHome, DeskView, mark_among}
use Rattle.sf_actor_steps.specs.Acting.{Acts, Attempts}
use Rattle.sf_actor_steps.specs.Calling.{TriesCall, placed, received, taken_back, with_held, with_spare}
use Rattle.sf_actor_steps.specs.Doing.{MakesCall}
use Rattle.sf_actor_steps.specs.Drawing.{TriesDraw, filled}
use Rattle.sf_actor_steps.specs.Editing.{Edits, Merges, TakesTxn, TriesSend, with_txn}
use Rattle.sf_actor_steps.specs.Forming.{AreOfTable, FormsCall, IsOfTable, Takes, TakesPermit}
use Rattle.sf_actor_steps.specs.Leaving.{TriesToLeave, let_go_of, was_ok, without_lent}
use Rattle.sf_actor_steps.specs.declared.asking.Asking.{Asking}
use Rattle.sf_actor_steps.specs.declared.asking.Homes.{Homes}
use Rattle.sf_actor_steps.specs.declared.bindings.Bindings.{Bindings}
use Rattle.sf_actor_steps.specs.declared.tried.Tried.{Tried}
use Rattle.sf_actor_steps.specs.declared.tried.Tried.TheVariants as tried

pub record Stays {B : Type 0} (table : TableId) (before after : Bindings B) : Type 0 where
  pub by : after.by ≡ before.by
  pub names : length after.names ≡ length before.names
  pub numbers : length after.transactions ≡ length before.transactions
  pub of_table : AreOfTable table before → AreOfTable table after

module _ {B : Type 0} (table : TableId) where
  as_before : (before after : Bindings B) → after ≡ before → Stays table before after
  as_before before after same = subst (λ (bindings : Bindings B). Stays table before bindings) (sym same) (record { by = refl; names = refl; numbers = refl; of_table = λ of. of })

  then_stays : (before mid after : Bindings B) → Stays table before mid → Stays table mid after → Stays table before after
  then_stays before mid after first second = record {
    by = second.by ∙ first.by;
    names = second.names ∙ first.names;
    numbers = second.numbers ∙ first.numbers;
    of_table = λ of. second.of_table (first.of_table of);
  }

  held_stays : (bindings : Bindings B) (name : ℕ) (held : Option (Holding B)) → Stays table bindings (with_held bindings name held)
  held_stays bindings name held = record { by = refl; names = length-set bindings.names name held; numbers = refl; of_table = λ of. of }

  txn_stays : (bindings : Bindings B) (number : ℕ) (held : Option (Contents ReadLeaseOf)) → Stays table bindings (with_txn bindings number held)
  txn_stays bindings number held = record { by = refl; names = refl; numbers = length-set bindings.transactions number held; of_table = λ of. of }

  takes_stay : (before taken : Bindings B) (name : ℕ) (held : Holding B) → Takes before taken name held → Stays table before taken
  takes_stay before taken name held takes = subst (λ (bindings : Bindings B). Stays table before bindings) (sym takes.rest) (held_stays before name None)

  takes_txn_stay : (before taken : Bindings B) (number : ℕ) (txn : Contents ReadLeaseOf) → TakesTxn before taken number txn → Stays table before taken
  takes_txn_stay before taken number txn takes = subst (λ (bindings : Bindings B). Stays table before bindings) (sym takes.txn_rest) (txn_stays before number None)

  edits_stay : (before after : Bindings B) (number : ℕ) (change : Contents ReadLeaseOf → Contents ReadLeaseOf) → Edits before after number change → Stays table before after
  edits_stay before after number change edits =
      then_stays before edits.without after (takes_txn_stay before edits.without number edits.edited edits.takes)
      (subst (λ (bindings : Bindings B). Stays table edits.without bindings) (sym edits.put_back) (txn_stays edits.without number (Some (change edits.edited))))

  placed_stays : (homes : Homes) (bindings : Bindings B) (given : Gives B) → Stays table bindings (placed homes bindings given)
  placed_stays homes bindings gives.Nothing = as_before bindings bindings refl
  placed_stays homes bindings (gives.Write lease) = held_stays bindings homes.lent (Some (holding.Lends lease))
  placed_stays homes bindings (gives.Owes owing) = held_stays bindings homes.lent (Some (holding.Owes owing homes.held))
  placed_stays homes bindings (gives.Read lease) = held_stays bindings homes.frame (Some (holding.Reads lease))
  placed_stays homes bindings (gives.Free loose) = held_stays bindings homes.free (Some (holding.Frees homes.last loose))

  spare_stays : (bindings : Bindings B) (permit : Option PermitView) → IsOfTable table permit → Stays table bindings (with_spare bindings permit)
  spare_stays bindings None of = as_before bindings bindings refl
  spare_stays bindings (Some permit) of = record { by = refl; names = refl; numbers = refl; of_table = λ before. (before.0, of) }

  -- a reply hands back no permit, or the one that its call brought
  spare_none : (asked : QCall B) (reply : QReply B) → reply.spare ≡ None → IsOfTable table reply.spare
  spare_none asked reply none = subst (IsOfTable table) (sym none) tt

  spare_done : (queue : QueueId) (asked : QCall B) (told : PlainReply) (reply : QReply B) → IsOfTable table (permit_of asked) → IsReplyDone queue asked told reply → IsOfTable table reply.spare
  spare_done queue (call.Dequeue width height wait permit) (plain.Dequeued slot held requested true fence) reply of is = spare_none (call.Dequeue width height wait permit) reply (ap (λ (r : QReply B). r.spare) is)
  spare_done queue (call.Dequeue width height wait permit) (plain.Dequeued slot held requested false fence) reply of is = subst (IsOfTable table) (sym (ap (λ (r : QReply B). r.spare) is.1)) of
  spare_done queue (call.Request lease) (plain.Requested held) reply of is = spare_none (call.Request lease) reply (ap (λ (r : QReply B). r.spare) is)
  spare_done queue (call.Queue lease picture time crop fence) (plain.Queued frame) reply of is = spare_none (call.Queue lease picture time crop fence) reply (ap (λ (r : QReply B). r.spare) is)
  spare_done queue (call.Cancel lease fence) plain.Done reply of is = spare_none (call.Cancel lease fence) reply (ap (λ (r : QReply B). r.spare) is)
  spare_done queue (call.Detach lease) plain.Done reply of is = spare_none (call.Detach lease) reply (ap (λ (r : QReply B). r.spare) is)
  spare_done queue (call.Attach loose) (plain.Attached slot held) reply of is = spare_none (call.Attach loose) reply (ap (λ (r : QReply B). r.spare) is)
  spare_done queue (call.Acquire expected) (plain.Acquired item dropped) reply of is = spare_none (call.Acquire expected) reply (ap (λ (r : QReply B). r.spare) is.1)
  spare_done queue (call.DetachRead lease) plain.Done reply of is = spare_none (call.DetachRead lease) reply (ap (λ (r : QReply B). r.spare) is)
  spare_done queue (call.AttachRead loose) (plain.Attached slot held) reply of is = spare_none (call.AttachRead loose) reply (ap (λ (r : QReply B). r.spare) is)
  spare_done queue call.Connect plain.Done reply of is = spare_none call.Connect reply (ap (λ (r : QReply B). r.spare) is)
  spare_done queue call.Disconnect plain.Done reply of is = spare_none call.Disconnect reply (ap (λ (r : QReply B). r.spare) is)
  spare_done queue (call.MaxDequeued n) plain.Done reply of is = spare_none (call.MaxDequeued n) reply (ap (λ (r : QReply B). r.spare) is)
  spare_done queue (call.Async on) plain.Done reply of is = spare_none (call.Async on) reply (ap (λ (r : QReply B). r.spare) is)
  spare_done queue (call.MaxAcquired n) plain.Done reply of is = spare_none (call.MaxAcquired n) reply (ap (λ (r : QReply B). r.spare) is)
  spare_done queue call.Abandon plain.Done reply of is = spare_none call.Abandon reply (ap (λ (r : QReply B). r.spare) is)
  spare_done queue (call.Release lease fence) plain.Done reply of is = spare_none (call.Release lease fence) reply (ap (λ (r : QReply B). r.spare) is)
  spare_done queue asked told reply of is = absurd is

  spare_told : (queue : QueueId) (asked : QCall B) (told : PlainReply) (reply : QReply B) → IsOfTable table (permit_of asked) → IsReply queue asked told reply → IsOfTable table reply.spare
  spare_told queue asked (plain.Refused cause) reply of is = subst (IsOfTable table) (sym (ap (λ (r : QReply B). r.spare) is)) of
  spare_told queue asked plain.Done reply of is = spare_done queue asked plain.Done reply of is
  spare_told queue asked (plain.Dequeued slot held requested reallocated fence) reply of is = spare_done queue asked (plain.Dequeued slot held requested reallocated fence) reply of is
  spare_told queue asked (plain.Requested held) reply of is = spare_done queue asked (plain.Requested held) reply of is
  spare_told queue asked (plain.Queued frame) reply of is = spare_done queue asked (plain.Queued frame) reply of is
  spare_told queue asked (plain.Attached slot held) reply of is = spare_done queue asked (plain.Attached slot held) reply of is
  spare_told queue asked (plain.Acquired item dropped) reply of is = spare_done queue asked (plain.Acquired item dropped) reply of is

  tries_call_stays : (home : DeskHome) (by step_number : ℕ) (asking : Asking B) (before after : Bindings B) (old new : DeskView B) (came_to : Tried) → IsOfTable table (permit_of asking.call) → TriesCall home by step_number asking before after old new came_to → Stays table before after
  tries_call_stays home by step_number asking before after old new (tried.Own status) of is = absurd is
  tries_call_stays home by step_number asking before after old new (tried.Sent number) of is = absurd is
  tries_call_stays home by step_number asking before after old new tried.NotYet of is =
      subst (λ (bindings : Bindings B). Stays table before bindings) (sym is.bindings)
      (then_stays before (placed asking.homes before (brought asking.call)) (taken_back asking.homes before asking.call)
      (placed_stays asking.homes before (brought asking.call)) (spare_stays (placed asking.homes before (brought asking.call)) (permit_of asking.call) of))
  tries_call_stays home by step_number asking before after old new (tried.Called status values) of is =
      let calls = is.3 in
      let reply = is.0 in
      let mark = mark_among home.marks asking.queue.0 in
      let legal : IsLegal (Answers mark) (entry by (step_number, asking.call) reply ∷ calls.made.earlier) = subst (IsLegal (Answers mark)) calls.made.newest calls.made.legal in
      let replied : Replied mark calls.made.earlier by asking.call reply = legal.0 in
      subst (λ (bindings : Bindings B). Stays table before bindings) (sym calls.bindings)
      (then_stays before (placed asking.homes before reply.gives) (received asking.homes before reply)
      (placed_stays asking.homes before reply.gives)
      (spare_stays (placed asking.homes before reply.gives) reply.spare (spare_told mark.queue asking.call _ reply of replied.answer)))

  -- what the call of a step takes out of the bindings
  record FormsStay (before taken : Bindings B) (asking : Asking B) : Type 0 where
    pub stays : Stays table before taken
    pub permit : IsOfTable table (permit_of asking.call)

  taken_none : (before taken : Bindings B) (asking formed : Asking B) → taken ≡ before → asking ≡ formed → IsOfTable table (permit_of formed.call) → FormsStay before taken asking
  taken_none before taken asking formed same is of = record { stays = as_before before taken same; permit = subst (λ (a : Asking B). IsOfTable table (permit_of a.call)) (sym is) of }

  taken_held : (before taken : Bindings B) (name : ℕ) (held : Holding B) (asking formed : Asking B) → Takes before taken name held → asking ≡ formed → IsOfTable table (permit_of formed.call) → FormsStay before taken asking
  taken_held before taken name held asking formed takes is of = record { stays = takes_stay before taken name held takes; permit = subst (λ (a : Asking B). IsOfTable table (permit_of a.call)) (sym is) of }

  taken_permit : (before taken : Bindings B) (permit : PermitView) (asking formed : Asking B) → AreOfTable table before → TakesPermit before taken permit → asking ≡ formed → IsOfTable table (permit_of formed.call) → FormsStay before taken asking
  taken_permit before taken permit asking formed of takes is fits = record {
    stays = record {
      by = ap (λ (bindings : Bindings B). bindings.by) takes.same;
      names = ap (λ (bindings : Bindings B). length bindings.names) takes.same;
      numbers = ap (λ (bindings : Bindings B). length bindings.transactions) takes.same;
      of_table = λ own. (takes.table table own).1;
    };
    permit = subst (λ (a : Asking B). IsOfTable table (permit_of a.call)) (sym is) fits;
  }

  forms_stay : (pictures : ℕ → Picture) (s : Step) (before taken : Bindings B) (asking : Asking B) → AreOfTable table before → FormsCall pictures s before taken asking → FormsStay before taken asking
  forms_stay pictures (step.Connect q) before taken asking of forms = taken_none before taken asking _ forms.0 forms.1 tt
  forms_stay pictures (step.Disconnect q) before taken asking of forms = taken_none before taken asking _ forms.0 forms.1 tt
  forms_stay pictures (step.MaxDequeued q n) before taken asking of forms = taken_none before taken asking _ forms.0 forms.1 tt
  forms_stay pictures (step.Async q on) before taken asking of forms = taken_none before taken asking _ forms.0 forms.1 tt
  forms_stay pictures (step.MaxAcquired q n) before taken asking of forms = taken_none before taken asking _ forms.0 forms.1 tt
  forms_stay pictures (step.Abandon q) before taken asking of forms = taken_none before taken asking _ forms.0 forms.1 tt
  forms_stay pictures (step.Acquire q i at) before taken asking of forms = taken_none before taken asking _ forms.0 forms.1 tt
  forms_stay pictures (step.Dequeue q s size) before taken asking of forms = taken_permit before taken forms.0 asking _ of forms.1 forms.2 (forms.1.table table of).0
  forms_stay pictures (step.DequeueWait q s size) before taken asking of forms = taken_permit before taken forms.0 asking _ of forms.1 forms.2 (forms.1.table table of).0
  forms_stay pictures (step.Request s) before taken asking of forms = taken_held before taken s (holding.Lends forms.0) asking _ forms.1 forms.2 tt
  forms_stay pictures (step.Queue s p time crop points) before taken asking of forms = taken_held before taken s (holding.Lends forms.0) asking _ forms.1 forms.2 tt
  forms_stay pictures (step.Cancel s points) before taken asking of forms = taken_held before taken s (holding.Lends forms.0) asking _ forms.1 forms.2 tt
  forms_stay pictures (step.PDetach s b) before taken asking of forms = taken_held before taken s (holding.Lends forms.0) asking _ forms.1 forms.2 tt
  forms_stay pictures (step.Release i points) before taken asking of forms = taken_held before taken i (holding.Reads forms.0) asking _ forms.1 forms.2 tt
  forms_stay pictures (step.CDetach i b) before taken asking of forms = taken_held before taken i (holding.Reads forms.0) asking _ forms.1 forms.2 tt
  forms_stay pictures (step.PAttach q b s) before taken asking of forms = taken_held before taken b (holding.Frees forms.0 forms.1) asking _ forms.2 forms.3 tt
  forms_stay pictures (step.CAttach q b i) before taken asking of forms = taken_held before taken b (holding.Frees forms.0 forms.1) asking _ forms.2 forms.3 tt
  forms_stay pictures (step.Draw s p) before taken asking of forms = absurd forms
  forms_stay pictures (step.Signal t v) before taken asking of forms = absurd forms
  forms_stay pictures (step.Wait t v) before taken asking of forms = absurd forms
  forms_stay pictures (step.Tx n) before taken asking of forms = absurd forms
  forms_stay pictures (step.Desire n time) before taken asking of forms = absurd forms
  forms_stay pictures (step.Buffer n layer i) before taken asking of forms = absurd forms
  forms_stay pictures (step.Barrier n layer frame) before taken asking of forms = absurd forms
  forms_stay pictures (step.Merge n m) before taken asking of forms = absurd forms
  forms_stay pictures (step.Apply n token) before taken asking of forms = absurd forms
  forms_stay pictures (step.Set n layer change) before taken asking of forms = absurd forms

  makes_stay : (pictures : ℕ → Picture) (home : DeskHome) (by step_number : ℕ) (s : Step) (before after : Bindings B) (old new : DeskView B) (came_to : Tried) → AreOfTable table before → MakesCall pictures home by step_number s before after old new came_to → Stays table before after
  makes_stay pictures home by step_number s before after old new came_to of makes =
      let forms = forms_stay pictures s before makes.taken makes.asking of makes.forms in
      then_stays before makes.taken after forms.stays (tries_call_stays home by step_number makes.asking makes.taken after old new came_to forms.permit makes.tries)

  leaves_stay : (pictures : ℕ → Picture) (home : DeskHome) (by step_number : ℕ) (s : Step) (fence : Option Fence) (before after : Bindings B) (old new : DeskView B) (came_to : Tried) → AreOfTable table before → TriesToLeave pictures home by step_number s fence before after old new came_to → Stays table before after
  leaves_stay pictures home by step_number s fence before after old new (tried.Own status) of tries = as_before before after tries.1
  leaves_stay pictures home by step_number s fence before after old new (tried.Called status values) of tries = makes_stay pictures home by step_number s before after tries.0 new (tried.Called status values) of tries.2
  leaves_stay pictures home by step_number s fence before after old new (tried.Sent number) of tries = makes_stay pictures home by step_number s before after tries.0 new (tried.Sent number) of tries.2
  leaves_stay pictures home by step_number s fence before after old new tried.NotYet of tries = makes_stay pictures home by step_number s before after tries.0 new tried.NotYet of tries.2

  dropped_stay : (queue : ℕ) (ok : Bool) (bindings : Bindings B) → Stays table bindings (if ok then without_lent queue bindings else bindings)
  dropped_stay queue true bindings = record { by = refl; names = length-map bindings.names (let_go_of queue); numbers = refl; of_table = λ of. of }
  dropped_stay queue false bindings = as_before bindings bindings refl

  filled_stay : (taken : Bindings B) (name : ℕ) (left : Option (Holding B)) → Stays table taken (filled taken name left)
  filled_stay taken name None = as_before taken taken refl
  filled_stay taken name (Some held) = held_stays taken name (Some held)

  draw_stays : (name : ℕ) (picture : Picture) (seen : Seen) (held : Holding B) (taken after : Bindings B) (old new : DeskView B) (came_to : Tried) → TriesDraw name picture seen held taken after old new came_to → Stays table taken after
  draw_stays name picture seen held taken after old new (tried.Own status) tries = subst (λ (bindings : Bindings B). Stays table taken bindings) (sym tries.3) (filled_stay taken name tries.1)
  draw_stays name picture seen held taken after old new tried.NotYet tries = subst (λ (bindings : Bindings B). Stays table taken bindings) (sym tries.1) (filled_stay taken name (Some held))
  draw_stays name picture seen held taken after old new (tried.Called status values) tries = absurd tries
  draw_stays name picture seen held taken after old new (tried.Sent number) tries = absurd tries

  send_stays : (home : DeskHome) (by step_number number token : ℕ) (before after : Bindings B) (old new : DeskView B) (came_to : Tried) → TriesSend home by step_number number token before after old new came_to → Stays table before after
  send_stays home by step_number number token before after old new (tried.Sent arrival) tries = takes_txn_stay before after number tries.sent tries.takes
  send_stays home by step_number number token before after old new (tried.Own status) tries = absurd tries
  send_stays home by step_number number token before after old new (tried.Called status values) tries = absurd tries
  send_stays home by step_number number token before after old new tried.NotYet tries = absurd tries

  merge_stays : (home : DeskHome) (by step_number number other : ℕ) (before after : Bindings B) (old new : DeskView B) → Merges home by step_number number other before after old new → Stays table before after
  merge_stays home by step_number number other before after old new merges =
      let put = with_txn merges.without_both number (Some (merged merges.into merges.from)) in
      then_stays before merges.without_into after (takes_txn_stay before merges.without_into number merges.into merges.takes_into)
      (then_stays merges.without_into merges.without_both after (takes_txn_stay merges.without_into merges.without_both other merges.from merges.takes_from)
      (subst (λ (bindings : Bindings B). Stays table merges.without_both bindings) (sym merges.put_back)
      (then_stays merges.without_both put (with_txn put other (Some empty)) (txn_stays merges.without_both number (Some (merged merges.into merges.from))) (txn_stays put other (Some empty)))))

  acts_stay : (pictures : ℕ → Picture) (home : DeskHome) (by step_number : ℕ) (s : Step) (before after : Bindings B) (old new : DeskView B) (came_to : Tried) → AreOfTable table before → Acts pictures home by step_number s before after old new came_to → Stays table before after
  acts_stay pictures home by step_number (step.Connect q) before after old new came_to of acts = makes_stay pictures home by step_number (step.Connect q) before after old new came_to of acts
  acts_stay pictures home by step_number (step.MaxDequeued q n) before after old new came_to of acts = makes_stay pictures home by step_number (step.MaxDequeued q n) before after old new came_to of acts
  acts_stay pictures home by step_number (step.Async q on) before after old new came_to of acts = makes_stay pictures home by step_number (step.Async q on) before after old new came_to of acts
  acts_stay pictures home by step_number (step.Dequeue q s size) before after old new came_to of acts = makes_stay pictures home by step_number (step.Dequeue q s size) before after old new came_to of acts
  acts_stay pictures home by step_number (step.DequeueWait q s size) before after old new came_to of acts = makes_stay pictures home by step_number (step.DequeueWait q s size) before after old new came_to of acts
  acts_stay pictures home by step_number (step.Request s) before after old new came_to of acts = makes_stay pictures home by step_number (step.Request s) before after old new came_to of acts
  acts_stay pictures home by step_number (step.Queue s p time crop points) before after old new came_to of acts = makes_stay pictures home by step_number (step.Queue s p time crop points) before after old new came_to of acts
  acts_stay pictures home by step_number (step.Cancel s points) before after old new came_to of acts = makes_stay pictures home by step_number (step.Cancel s points) before after old new came_to of acts
  acts_stay pictures home by step_number (step.PAttach q b s) before after old new came_to of acts = makes_stay pictures home by step_number (step.PAttach q b s) before after old new came_to of acts
  acts_stay pictures home by step_number (step.MaxAcquired q n) before after old new came_to of acts = makes_stay pictures home by step_number (step.MaxAcquired q n) before after old new came_to of acts
  acts_stay pictures home by step_number (step.Abandon q) before after old new came_to of acts = makes_stay pictures home by step_number (step.Abandon q) before after old new came_to of acts
  acts_stay pictures home by step_number (step.Acquire q i at) before after old new came_to of acts = makes_stay pictures home by step_number (step.Acquire q i at) before after old new came_to of acts
  acts_stay pictures home by step_number (step.Release i points) before after old new came_to of acts = makes_stay pictures home by step_number (step.Release i points) before after old new came_to of acts
  acts_stay pictures home by step_number (step.CAttach q b i) before after old new came_to of acts = makes_stay pictures home by step_number (step.CAttach q b i) before after old new came_to of acts
  acts_stay pictures home by step_number (step.Disconnect q) before after old new came_to of acts = then_stays before acts.called after (makes_stay pictures home by step_number (step.Disconnect q) before acts.called old new came_to of acts.makes)
      (subst (λ (bindings : Bindings B). Stays table acts.called bindings) (sym acts.drops) (dropped_stay q (was_ok came_to) acts.called))
  acts_stay pictures home by step_number (step.PDetach s b) before after old new came_to of acts = leaves_stay pictures home by step_number (step.PDetach s b) _ before after old new came_to of acts
  acts_stay pictures home by step_number (step.CDetach s b) before after old new came_to of acts = leaves_stay pictures home by step_number (step.CDetach s b) _ before after old new came_to of acts
  acts_stay pictures home by step_number (step.Draw s p) before after old new came_to of acts = then_stays before (with_held before s None) after (held_stays before s None) (draw_stays s (pictures p) acts.seen acts.held (with_held before s None) after acts.looked new came_to acts.tries)
  acts_stay pictures home by step_number (step.Signal t v) before after old new came_to of acts = as_before before after acts.bindings
  acts_stay pictures home by step_number (step.Wait t v) before after old new came_to of acts = as_before before after acts.bindings
  acts_stay pictures home by step_number (step.Tx n) before after old new came_to of acts = subst (λ (bindings : Bindings B). Stays table before bindings) (sym acts.changed) (txn_stays before n (Some empty))
  acts_stay pictures home by step_number (step.Desire n time) before after old new came_to of acts = edits_stay before after n _ acts.changed
  acts_stay pictures home by step_number (step.Barrier n layer frame) before after old new came_to of acts = edits_stay before after n _ acts.changed
  acts_stay pictures home by step_number (step.Set n layer change) before after old new came_to of acts = edits_stay before after n _ acts.changed
  acts_stay pictures home by step_number (step.Buffer n layer i) before after old new came_to of acts = then_stays before acts.1.without_frame after (takes_stay before acts.1.without_frame i (holding.Reads acts.1.lease) acts.1.takes) (edits_stay acts.1.without_frame after n _ acts.1.edits)
  acts_stay pictures home by step_number (step.Merge n m) before after old new came_to of acts = merge_stays home by step_number n m before after old new acts.1
  acts_stay pictures home by step_number (step.Apply n token) before after old new came_to of acts = send_stays home by step_number n token before after old new came_to acts

  pub attempt_stays : (refusal : Option ℕ) (pictures : ℕ → Picture) (home : DeskHome) (by step_number : ℕ) (s : Step) (before after : Bindings B) (old new : DeskView B) (came_to : Tried) → AreOfTable table before → Attempts refusal pictures home by step_number s before after old new came_to → Stays table before after
  attempt_stays (Some status) pictures home by step_number s before after old new came_to of attempts = as_before before after attempts.1
  attempt_stays None pictures home by step_number s before after old new came_to of attempts = acts_stay pictures home by step_number s before after old new came_to of attempts

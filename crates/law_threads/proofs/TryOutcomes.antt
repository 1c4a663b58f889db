-- What any done try comes to, as an event of its actor.
use Rattle.std.proofs.Common.{◌≡◌, ℕ, ◌+◌, ◌-◌, ◌≤◌, ◌==◌, ◌⊎◌, Bool, true, false, List, [], ◌∷◌, ◌++◌, arith, ap, ◌∙◌, sym, refl, inl, inr, subst, length, map, option_to_list, Option, Some, None}
use Rattle.std.specs.Prelude.{if◌then◌else◌, nat_lt, slice_index}
use Rattle.std.specs.List.{list_any, sum_by}
use Rattle.std.proofs.lemmas.Bool.{cases_eq, false≢true}
use Rattle.std.proofs.lemmas.List.{append-nil, append_assoc}
use Rattle.sf_base.specs.Fences.{no_points, merged as with_points_of}
use Rattle.law_draws.specs.sf_calls.Histories.{IsLegal, entry}
use Rattle.sf_script_scene.specs.sf_picture.declared.picture.Picture.{Picture}
use Rattle.sf_script_scene.specs.declared.step.Step.{Step}
use Rattle.sf_script_scene.specs.declared.step.Step.TheVariants as step
use Rattle.law_draws.specs.sf_surface.Calls.{may_wait}
use Rattle.law_draws.specs.sf_surface.declared.call.QCall.TheVariants as call
use Rattle.law_draws.specs.sf_surface.declared.mark.QueueMark.{QueueMark}
use Rattle.law_draws.specs.sf_surface.Histories.{Answers, Made, told_reply}
use Rattle.law_draws.specs.sf_surface.Tokens.{ReadLeaseOf}
use Rattle.law_draws.specs.sf_token.Pending.{Arrival}
use Rattle.law_draws.specs.sf_txn.Buffers.{Buffer}
use Rattle.law_draws.specs.sf_txn.Transactions.{Contents, all_replaced, replaced_by}
use Rattle.law_draws.specs.sf_actor.declared.done.Answered.{Answered}
use Rattle.law_draws.specs.sf_actor.declared.done.Answered.TheVariants as answered
use Rattle.law_draws.specs.sf_actor.Desks.{DeskHome, DeskView, has_queue, mark_among}
use Rattle.law_draws.specs.sf_actor.Names.{Holdings, name_in}
use Rattle.law_draws.specs.sf_actor.Holdings.{HoldingsOf}
use Rattle.law_draws.specs.sf_actor.Points.{frame_fence, requested_fence}
use Rattle.law_draws.specs.sf_actor.Rights.{Turn}
use Rattle.law_draws.specs.sf_actor.Tests.{bad_value, first_met, refusal_of}
use Rattle.law_draws.specs.sf_actor.Tests as tests
use Rattle.law_draws.specs.sf_actor.Tries.{ActorOf}
use Rattle.law_draws.specs.sf_actor.Written as written
use Rattle.law_draws.specs.sf_actor_steps.declared.asking.Asking.{Asking}
use Rattle.law_draws.specs.sf_actor_steps.declared.bindings.Bindings.{Bindings}
use Rattle.law_draws.specs.sf_actor_steps.declared.tried.Tried.{Tried}
use Rattle.law_draws.specs.sf_actor_steps.declared.tried.Tried.TheVariants as tried
use Rattle.law_draws.specs.sf_actor_steps.Acting.{Acts, Attempts}
use Rattle.law_draws.specs.sf_actor_steps.Doing.{MakesCall}
use Rattle.law_draws.specs.sf_actor_steps.Editing.{Releases, ReleasesAll, Sends, buffer_with}
use Rattle.law_draws.specs.sf_actor_steps.Bindings.{holdings_of}
use Rattle.law_draws.specs.law_rights.Makers.{RightAt, places_arrived, places_held, places_owed, places_sent}
use Rattle.law_draws.specs.law_rights.Moves.{Gets}
use Rattle.law_draws.specs.law_rights.States.{AreApart, is_queue}
use Rattle.law_draws.proofs.law_rights_lemmas.OwedAfterCall.{ending_left, ends_are, turns_of}
use Rattle.law_draws.proofs.law_rights_lemmas.Forms.{names_owe, take_txn}
use Rattle.law_draws.proofs.law_rights_lemmas.OwedDrawings.{gets_more, gets_same, bindings_owe}
use Rattle.law_draws.proofs.law_rights_lemmas.ReleasedFrames.{lease_of}
use Rattle.law_threads.specs.Cuts.{Lifts, Whole}
use Rattle.law_threads.specs.Lifts.{AllGiven, Comes, Given, GivesAll, GivesOne, LiftsSend, given_lease, local_of}
use Rattle.law_threads.specs.Lifts.Comes.{Calling, Giving, Sending}
use Rattle.law_threads.specs.Tries.{DoesTry}
use Rattle.law_threads.proofs.ReturnedFrames.{back_lifts}
use Rattle.law_draws.specs.law_rights.States.{State}
use Rattle.law_threads.proofs.LedgerViews.{GivesKept, GoesKept}
use Rattle.law_threads.proofs.TryEvents.{draws_comes, edits_comes, finds_times, looked_calls, owes_after, owes_before, rest_lifts, rests, same_view, same_writes, times_comes, waits_comes}
use Rattle.law_threads.proofs.CallLift.{lifts_call}
use Rattle.law_threads.proofs.Quiets.{BindingsRest, begins_rest, edits_rest, merges_rest, same_rest, shows_rest}
use Rattle.law_threads.proofs.SendLift.{send_goes}
use Rattle.law_threads.proofs.TryWrites.{does_write, refused}

-- a test that refuses a draw has a status that is not 0
not_zero : (first second : Bool) (status : ℕ) → first_met ((first, tests.empty) ∷ (second, bad_value) ∷ []) ≡ Some status → (status == 0) ≡ false
not_zero true second status met = let same : 15 ≡ status = cc (met) in subst (λ (n : ℕ). (n == 0) ≡ false) same refl
not_zero false true status met = let same : 11 ≡ status = cc (met) in subst (λ (n : ℕ). (n == 0) ≡ false) same refl
not_zero false false status met = absurd (cc (met))

-- a step that an own test refuses writes nothing
refused_writes : (pictures : ℕ → Picture) (holdings : Holdings) (s : Step) (status : ℕ) → refusal_of pictures holdings s ≡ Some status → written.written_by holdings s (answered.Own status) ≡ []
unfolding refusal_of
refused_writes pictures holdings (step.Draw name p) status met = rw (not_zero _ _ status met) refl
refused_writes pictures holdings s status met = refl

not_own : (came : Tried) (status : ℕ) → (came ≡ tried.NotYet) ⊎ ((n : ℕ) × (came ≡ tried.Sent n)) → came ≡ tried.Own status → ⊥
not_own came status (inl waits) own = absurd (cc (waits, own))
not_own came status (inr sent) own = let is = sent.1 in absurd (cc (is, own))

waits_not : (test : Bool) (n : ℕ) → tried.Sent n ≡ (if test then tried.NotYet else tried.Own 0) → ⊥
waits_not true n same = absurd (cc same)
waits_not false n same = absurd (cc same)

module _ {B : Type 0} (by number : ℕ) where
  -- what was called before a release is called after it
  pub gives_begins : (given : Given B) (old new : DeskView B) → GivesOne by number given old new → (queue : ℕ) → (more : List (Made B)) × (new.calls queue ≡ more ++ old.calls queue)
  gives_begins given old new gives queue = elim (cases_eq queue given.queue) [
    | inl same ↦ subst (λ (q : ℕ). (more : List (Made B)) × (new.calls q ≡ more ++ old.calls q)) (sym same)
        (given.made ∷ gives.goes_on.begins.0, gives.newest ∙ ap (λ (xs : List (Made B)). given.made ∷ xs) gives.goes_on.begins.1)
    | inr apart ↦ ([], gives.others queue apart)
  ]

  pub all_begin : (gives : List (Given B)) (old new : DeskView B) → GivesAll by number gives old new → (queue : ℕ) → (more : List (Made B)) × (new.calls queue ≡ more ++ old.calls queue)
  all_begin [] old new all queue = ([], ap (λ (cs : ℕ → List (Made B)). cs queue) all.0)
  all_begin (given ∷ later) old new all queue =
      let rest = all_begin later all.0 new all.2 queue in
      let one = gives_begins given old all.0 all.1 queue in
      (rest.0 ++ one.0, rest.1 ∙ ap (λ (xs : List (Made B)). rest.0 ++ xs) one.1 ∙ sym (append_assoc rest.0 one.0 (old.calls queue)))

module _ {B : Type 0} (home : DeskHome) (by number : ℕ) where
  -- a release ends no turn
  release_ends : (lease : ReadLeaseOf) (old new : DeskView B) (releases : Releases home by number lease old new) → turns_of releases.reply.ends ≡ []
  release_ends lease old new releases =
      let mark : QueueMark = mark_among home.marks lease.queue.0 in
      let legal = subst (IsLegal (Answers (mark_among home.marks lease.queue.0))) releases.made.newest releases.made.legal in
      ends_are (mark_among home.marks lease.queue.0).queue (call.Release lease (with_points_of no_points lease.fence))
      (told_reply (mark_among home.marks lease.queue.0) releases.made.earlier by (call.Release lease (with_points_of no_points lease.fence))) releases.reply legal.0.answer

  abbrev given_of : (lease : ReadLeaseOf) (old new : DeskView B) → Releases home by number lease old new → Given B
  given_of lease old new releases = record {
    lease = lease;
    queue = lease.queue.0;
    made = entry by (number, call.Release lease (with_points_of no_points lease.fence)) releases.reply;
    earlier = releases.made.earlier;
  }

  release_gives : (lease : ReadLeaseOf) (old new : DeskView B) (releases : Releases home by number lease old new) → GivesOne by number (given_of lease old new releases) old new
  release_gives lease old new releases =
      let ended = ending_left releases.reply.ends releases.released new releases.ends in
      record {
        newest = ap (λ (cs : ℕ → List (Made B)). cs lease.queue.0) ended.1 ∙ releases.made.newest;
        by_it = refl;
        step = refl;
        goes_on = releases.made.goes_on;
        others = λ other apart. ap (λ (cs : ℕ → List (Made B)). cs other) ended.1 ∙ releases.made.changes.others other apart;
        arrivals = ended.2 ∙ ap (λ (view : DeskView B). view.arrivals) releases.made.changes.same;
      }

  -- the frames of buffers that are given back, one after another
  record GivesEach (buffers : List (Buffer ReadLeaseOf)) (old new : DeskView B) : Type 0 where
    gives : List (Given B)
    leases : map given_lease gives ≡ map lease_of buffers
    all : GivesAll by number gives old new
    left : Gets old.turns.leaves [] new.turns.leaves

  releases_give : (buffers : List (Buffer ReadLeaseOf)) (old new : DeskView B) → ReleasesAll home by number buffers old new → GivesEach buffers old new
  releases_give [] old new same = record {
    gives = [];
    leases = refl;
    all = (ap (λ (view : DeskView B). view.calls) same, ap (λ (view : DeskView B). view.arrivals) same);
    left = subst (λ (view : DeskView B). Gets old.turns.leaves [] view.turns.leaves) (sym same) (gets_same old.turns.leaves);
  }
  releases_give (buffer ∷ buffers) old new all =
      let rest = releases_give buffers all.0 new all.2 in
      let one = all.1 in
      let ended = ending_left one.reply.ends one.released all.0 one.ends in
      record {
        gives = given_of buffer.lease old all.0 one ∷ rest.gives;
        leases = ap (λ (xs : List ReadLeaseOf). buffer.lease ∷ xs) rest.leases;
        all = (all.0, release_gives buffer.lease old all.0 one, rest.all);
        left = gets_more old.turns.leaves [] all.0.turns.leaves new.turns.leaves
            (subst (λ (xs : List Turn). Gets xs [] all.0.turns.leaves) (ap (λ (view : DeskView B). view.turns.leaves) one.made.changes.same)
            (subst (λ (xs : List Turn). Gets one.released.turns.leaves xs all.0.turns.leaves) (release_ends buffer.lease old all.0 one) ended.0)) rest.left;
      }

module _ {B : Type 0} (whole : Whole B) (pictures : ℕ → Picture) (home : DeskHome) (marks : whole.marks ≡ home.marks) (apart : AreApart home.marks)
    (absent : (queue : ℕ) → has_queue home queue ≡ false → whole.view.calls queue ≡ [])
    (legal : (queue : ℕ) → IsLegal (Answers (mark_among home.marks queue)) (whole.view.calls queue))
    (was is : ActorOf B) (before after : Bindings B) (old new : DeskView B)
    (begins : (queue : ℕ) → (more : List (Made B)) × (whole.view.calls queue ≡ more ++ new.calls queue)) (Holds : State B → Type 0)
    (kept : (s : Step) (came_to : Tried) → DoesTry pictures home was is s before after old new came_to → GoesKept whole Holds was is s before) (gives : GivesKept whole Holds) where
  abbrev by : ℕ
  by = before.by.0

  abbrev number : ℕ
  number = length was.trace + 1

  -- each frame that was given back goes back
  all_given : (buffers : List (Buffer ReadLeaseOf)) (from : DeskView B) (all : ReleasesAll home by number buffers from new) → AllGiven whole Holds (releases_give home by number buffers from new all).gives
  unfolding releases_give
  all_given [] from same = tt
  all_given (buffer ∷ buffers) from all = (
    back_lifts whole (subst AreApart (sym marks) apart) (λ queue none. absent queue (ap (λ ms. list_any (is_queue queue) ms) (sym marks) ∙ none))
        (λ queue. subst (λ ms. IsLegal (Answers (mark_among ms queue)) (whole.view.calls queue)) (sym marks) (legal queue))
        Holds gives by number buffer.lease.queue.0 buffer.lease (with_points_of no_points buffer.lease.fence) all.1.reply (more.0 ++ later.0) all.1.made.earlier
        (more.1 ∙ ap (λ (xs : List (Made B)). more.0 ++ xs) (later.1 ∙ ap (λ (xs : List (Made B)). later.0 ++ xs) (release_gives home by number buffer.lease from all.0 all.1).newest)
        ∙ sym (append_assoc more.0 later.0 (entry by (number, call.Release buffer.lease (with_points_of no_points buffer.lease.fence)) all.1.reply ∷ all.1.made.earlier))),
    all_given buffers all.0 all.2,
  )
    where
      more : (more : List (Made B)) × (whole.view.calls buffer.lease.queue.0 ≡ more ++ new.calls buffer.lease.queue.0)
      more = begins buffer.lease.queue.0

      later : (later : List (Made B)) × (new.calls buffer.lease.queue.0 ≡ later ++ all.0.calls buffer.lease.queue.0)
      later = all_begin by number (releases_give home by number buffers all.0 new all.2).gives all.0 new (releases_give home by number buffers all.0 new all.2).all buffer.lease.queue.0

  gives_comes : (s : Step) (came_to : Tried) (tries : DoesTry pictures home was is s before after old new came_to) → ((answer : Answered) → written.written_by (holdings_of before) s answer ≡ [])
      → (buffers : List (Buffer ReadLeaseOf)) → BindingsRest before after (map lease_of buffers) → ReleasesAll home by number buffers old new → Comes whole Holds by was is old new
  gives_comes s came_to tries none buffers rest all =
      let each = releases_give home by number buffers old new all in
      Giving each.gives each.all (all_given buffers old all)
      (subst (λ (on : List ReadLeaseOf). Lifts whole Holds (local_of was [] old.turns.leaves) None (local_of is on new.turns.leaves)) (sym each.leases)
      (rest_lifts whole pictures home was is s before after old new came_to tries Holds (kept s came_to tries) (map lease_of buffers) rest (same_writes whole pictures home was is s before after old new came_to tries Holds (kept s came_to tries) none) each.left))

  -- a transaction is sent
  sends_comes : (s : Step) (txn token arrival : ℕ) (tries : DoesTry pictures home was is s before after old new (tried.Sent arrival)) → ((answer : Answered) → written.written_by (holdings_of before) s answer ≡ [])
      → Sends home by number txn token before after old new arrival → LiftsSend whole Holds by was is old new
  sends_comes s txn token arrival tries none sends = record {
    number = length sends.made.earlier + 1;
    txn = record sends.sent { token = record { 0 = token } };
    earlier = sends.made.earlier;
    last = sends.made.last;
    goes_on = sends.made.goes_on;
    calls = ap (λ (view : DeskView B). view.calls) sends.made.same;
    lifts = λ arrived is_txn others later heights next unused holds.
        kept s (tried.Sent arrival) tries others later [] [] old.turns.leaves new.turns.leaves (arrived ∷ []) heights heights (send_goes whole s before number was is [] old.turns.leaves new.turns.leaves arrived (less_with arrived is_txn)
        others later heights owed (same_writes whole pictures home was is s before after old new (tried.Sent arrival) tries Holds (kept s (tried.Sent arrival) tries) none)
        (subst (λ (view : DeskView B). Gets old.turns.leaves [] view.turns.leaves) (sym sends.made.same) (gets_same old.turns.leaves))) holds;
  }
    where
      less : (w : RightAt → ℕ) → sum_by w (places_held is.parts) + sum_by w (places_sent sends.sent) ≤ sum_by w (places_held was.parts)
      less w =
          let take = take_txn w before after txn sends.sent sends.takes in
          let a = ap (λ (parts : HoldingsOf B). sum_by w (places_held parts)) tries.parts_was in
          let b = ap (λ (parts : HoldingsOf B). sum_by w (places_held parts)) tries.parts_is in
          omega (arith, take, a, b)

      less_with : (arrived : Arrival ReadLeaseOf) → arrived.txn ≡ record sends.sent { token = record { 0 = token } } → (w : RightAt → ℕ) → sum_by w (places_held is.parts) + sum_by w (places_arrived arrived) ≤ sum_by w (places_held was.parts)
      less_with arrived is_txn w = let fewer = less w in let same = ap (λ (txn : Contents ReadLeaseOf). sum_by w (places_sent txn)) is_txn in omega (arith, fewer, same)

      owed : Gets (places_owed was.parts) [] (places_owed is.parts)
      owed = subst (λ xs. Gets xs [] (places_owed is.parts)) (owes_before whole pictures home was is s before after old new (tried.Sent arrival) tries Holds (kept s (tried.Sent arrival) tries))
          (subst (λ xs. Gets (bindings_owe before) [] xs) (owes_after whole pictures home was is s before after old new (tried.Sent arrival) tries Holds (kept s (tried.Sent arrival) tries)) (names_owe before after (ap (λ (bindings : Bindings B). bindings.names) sends.takes.txn_rest)))

  -- the actor answered itself
  own_comes : (s : Step) (status : ℕ) (tries : DoesTry pictures home was is s before after old new (tried.Own status)) → refusal_of pictures (holdings_of before) s ≡ None
      → Acts pictures home by number s before after old new (tried.Own status) → Comes whole Holds by was is old new
  own_comes (step.Disconnect q) status tries none acts = absurd acts.makes.tries
  own_comes (step.PDetach from to) status tries none acts =
      times_comes whole pictures home was is (step.PDetach from to) before after old new (tried.Own status) tries Holds (kept (step.PDetach from to) (tried.Own status) tries) (λ answer. refl) acts.1
      (finds_times whole pictures home was is (step.PDetach from to) before after old new (tried.Own status) tries Holds (kept (step.PDetach from to) (tried.Own status) tries) (requested_fence (name_in (holdings_of before) from)) acts.2)
  own_comes (step.CDetach from to) status tries none acts =
      times_comes whole pictures home was is (step.CDetach from to) before after old new (tried.Own status) tries Holds (kept (step.CDetach from to) (tried.Own status) tries) (λ answer. refl) acts.1
      (finds_times whole pictures home was is (step.CDetach from to) before after old new (tried.Own status) tries Holds (kept (step.CDetach from to) (tried.Own status) tries) (frame_fence (name_in (holdings_of before) from)) acts.2)
  own_comes (step.Draw name p) status tries none acts = draws_comes whole pictures home was is before after old new Holds kept name p (tried.Own status) tries none acts
  own_comes (step.Signal t v) status tries none acts = times_comes whole pictures home was is (step.Signal t v) before after old new (tried.Own status) tries Holds (kept (step.Signal t v) (tried.Own status) tries) (λ answer. refl) acts.bindings acts.times
  own_comes (step.Wait t v) status tries none acts = times_comes whole pictures home was is (step.Wait t v) before after old new (tried.Own status) tries Holds (kept (step.Wait t v) (tried.Own status) tries) (λ answer. refl) acts.bindings acts.times
  own_comes (step.Tx n) status tries none acts = edits_comes whole pictures home was is (step.Tx n) before after old new (tried.Own status) tries Holds (kept (step.Tx n) (tried.Own status) tries) (λ answer. refl) (begins_rest before after n acts.changed) acts.desk
  own_comes (step.Desire n time) status tries none acts =
      edits_comes whole pictures home was is (step.Desire n time) before after old new (tried.Own status) tries Holds (kept (step.Desire n time) (tried.Own status) tries) (λ answer. refl) (edits_rest before after n _ (λ txn. refl) acts.changed) acts.desk
  own_comes (step.Barrier n layer frame) status tries none acts =
      edits_comes whole pictures home was is (step.Barrier n layer frame) before after old new (tried.Own status) tries Holds (kept (step.Barrier n layer frame) (tried.Own status) tries) (λ answer. refl) (edits_rest before after n _ (λ txn. refl) acts.changed) acts.desk
  own_comes (step.Set n layer change) status tries none acts =
      edits_comes whole pictures home was is (step.Set n layer change) before after old new (tried.Own status) tries Holds (kept (step.Set n layer change) (tried.Own status) tries) (λ answer. refl) (edits_rest before after n _ (λ txn. refl) acts.changed) acts.desk
  own_comes (step.Buffer n layer name) status tries none acts =
      gives_comes (step.Buffer n layer name) (tried.Own status) tries (λ answer. refl) (option_to_list (replaced_by acts.1.edits.edited.buffers (buffer_with layer acts.1.lease)))
      (shows_rest home by number n before after old new layer name acts.1) acts.1.releases
  own_comes (step.Merge n other) status tries none acts =
      gives_comes (step.Merge n other) (tried.Own status) tries (λ answer. refl) (all_replaced acts.1.into.buffers acts.1.from.buffers) (merges_rest home by number n before after old new other acts.1) acts.1.releases
  own_comes (step.Apply n token) status tries none acts = absurd acts
  own_comes s status tries none acts = absurd acts.tries

  -- it had to wait
  not_yet_comes : (s : Step) (tries : DoesTry pictures home was is s before after old new tried.NotYet) → refusal_of pictures (holdings_of before) s ≡ None
      → Acts pictures home by number s before after old new tried.NotYet → Comes whole Holds by was is old new
  not_yet_comes (step.Disconnect q) tries none acts =
      waits_comes whole pictures home was is (step.Disconnect q) before after old new tried.NotYet tries Holds (kept (step.Disconnect q) tried.NotYet tries) (λ answer. refl) none old refl refl refl
      (subst (λ (bindings : Bindings B). MakesCall pictures home by number (step.Disconnect q) before bindings old new tried.NotYet) (sym acts.drops) acts.makes)
  not_yet_comes (step.PDetach from to) tries none acts =
      let same = looked_calls whole pictures home was is (step.PDetach from to) before after old new tried.NotYet tries Holds (kept (step.PDetach from to) tried.NotYet tries) acts.0 (requested_fence (name_in (holdings_of before) from)) acts.1 in
      waits_comes whole pictures home was is (step.PDetach from to) before after old new tried.NotYet tries Holds (kept (step.PDetach from to) tried.NotYet tries) (λ answer. refl) none acts.0 same.0 same.1 same.2 acts.2
  not_yet_comes (step.CDetach from to) tries none acts =
      let same = looked_calls whole pictures home was is (step.CDetach from to) before after old new tried.NotYet tries Holds (kept (step.CDetach from to) tried.NotYet tries) acts.0 (frame_fence (name_in (holdings_of before) from)) acts.1 in
      waits_comes whole pictures home was is (step.CDetach from to) before after old new tried.NotYet tries Holds (kept (step.CDetach from to) tried.NotYet tries) (λ answer. refl) none acts.0 same.0 same.1 same.2 acts.2
  not_yet_comes (step.Draw name p) tries none acts = draws_comes whole pictures home was is before after old new Holds kept name p tried.NotYet tries none acts
  not_yet_comes (step.Signal t v) tries none acts = absurd (not_own tried.NotYet 0 (inl refl) acts.own)
  not_yet_comes (step.Wait t v) tries none acts = times_comes whole pictures home was is (step.Wait t v) before after old new tried.NotYet tries Holds (kept (step.Wait t v) tried.NotYet tries) (λ answer. refl) acts.bindings acts.times
  not_yet_comes (step.Tx n) tries none acts = absurd (not_own tried.NotYet 0 (inl refl) acts.own)
  not_yet_comes (step.Desire n time) tries none acts = absurd (not_own tried.NotYet 0 (inl refl) acts.own)
  not_yet_comes (step.Barrier n layer frame) tries none acts = absurd (not_own tried.NotYet 0 (inl refl) acts.own)
  not_yet_comes (step.Set n layer change) tries none acts = absurd (not_own tried.NotYet 0 (inl refl) acts.own)
  not_yet_comes (step.Buffer n layer name) tries none acts = absurd (not_own tried.NotYet 0 (inl refl) acts.0)
  not_yet_comes (step.Merge n other) tries none acts = absurd (not_own tried.NotYet 0 (inl refl) acts.0)
  not_yet_comes (step.Apply n token) tries none acts = absurd acts
  not_yet_comes (step.Queue name p time part points) tries none acts =
      absurd (false≢true (sym (ap (λ (a : Asking B). may_wait a.call) acts.forms.2) ∙ acts.tries.waits.not_yet.0))
  not_yet_comes s tries none acts = waits_comes whole pictures home was is s before after old new tried.NotYet tries Holds (kept s tried.NotYet tries) (λ answer. refl) none old refl refl refl acts

  -- a transaction was sent
  sent_comes : (s : Step) (arrival : ℕ) (tries : DoesTry pictures home was is s before after old new (tried.Sent arrival)) → Acts pictures home by number s before after old new (tried.Sent arrival)
      → Comes whole Holds by was is old new
  sent_comes (step.Disconnect q) arrival tries acts = absurd acts.makes.tries
  sent_comes (step.PDetach from to) arrival tries acts = absurd acts.2.tries
  sent_comes (step.CDetach from to) arrival tries acts = absurd acts.2.tries
  sent_comes (step.Draw name p) arrival tries acts = absurd acts.tries
  sent_comes (step.Signal t v) arrival tries acts = absurd (not_own (tried.Sent arrival) 0 (inr (arrival, refl)) acts.own)
  sent_comes (step.Wait t v) arrival tries acts = absurd (waits_not (nat_lt (slice_index acts.seen.values (t - 1)) v) arrival acts.answers)
  sent_comes (step.Tx n) arrival tries acts = absurd (not_own (tried.Sent arrival) 0 (inr (arrival, refl)) acts.own)
  sent_comes (step.Desire n time) arrival tries acts = absurd (not_own (tried.Sent arrival) 0 (inr (arrival, refl)) acts.own)
  sent_comes (step.Barrier n layer frame) arrival tries acts = absurd (not_own (tried.Sent arrival) 0 (inr (arrival, refl)) acts.own)
  sent_comes (step.Set n layer change) arrival tries acts = absurd (not_own (tried.Sent arrival) 0 (inr (arrival, refl)) acts.own)
  sent_comes (step.Buffer n layer name) arrival tries acts = absurd (not_own (tried.Sent arrival) 0 (inr (arrival, refl)) acts.0)
  sent_comes (step.Merge n other) arrival tries acts = absurd (not_own (tried.Sent arrival) 0 (inr (arrival, refl)) acts.0)
  sent_comes (step.Apply n token) arrival tries acts = Sending (sends_comes (step.Apply n token) n token arrival tries (λ answer. refl) acts)
  sent_comes s arrival tries acts = absurd acts.tries

  -- a test of its own refused it
  refused_comes : (s : Step) (came_to : Tried) (tries : DoesTry pictures home was is s before after old new came_to) (status : ℕ) → refusal_of pictures (holdings_of before) s ≡ Some status → after ≡ before → new ≡ old
      → Comes whole Holds by was is old new
  refused_comes s came_to tries status met same view =
      rests whole pictures home was is s before after old new came_to tries Holds (kept s came_to tries) (same_rest before after same)
      (subst (λ xs. Gets (written.written_in was.trace) [] xs) (sym writes) (gets_same (written.written_in was.trace)))
      (ap (λ (v : DeskView B). v.turns.leaves) view) (same_view whole pictures home was is s before after old new came_to tries Holds (kept s came_to tries) view)
    where
      writes : written.written_in is.trace ≡ written.written_in was.trace
      writes =
          does_write pictures home was is s before after old new came_to tries
          ∙ ap (λ (a : Answered). written.written_in was.trace ++ written.written_by (holdings_of before) s a) (refused pictures home was is s before after old new came_to tries status met)
          ∙ ap (λ xs. written.written_in was.trace ++ xs) (refused_writes pictures (holdings_of before) s status met) ∙ append-nil (written.written_in was.trace)

  acts_come : (s : Step) (came_to : Tried) (tries : DoesTry pictures home was is s before after old new came_to) → refusal_of pictures (holdings_of before) s ≡ None
      → Acts pictures home by number s before after old new came_to → Comes whole Holds by was is old new
  acts_come s (tried.Called status values) tries none acts = Calling (lifts_call whole pictures home marks apart absent was is s before after old new status values tries Holds (kept s (tried.Called status values) tries) [] begins)
  acts_come s (tried.Own status) tries none acts = own_comes s status tries none acts
  acts_come s (tried.Sent arrival) tries none acts = sent_comes s arrival tries acts
  acts_come s tried.NotYet tries none acts = not_yet_comes s tries none acts

  attempts_come : (s : Step) (came_to : Tried) (tries : DoesTry pictures home was is s before after old new came_to) (refusal : Option ℕ) → refusal_of pictures (holdings_of before) s ≡ refusal
      → Attempts refusal pictures home by number s before after old new came_to → Comes whole Holds by was is old new
  attempts_come s came_to tries None none acts = acts_come s came_to tries none acts
  attempts_come s came_to tries (Some status) met attempts = refused_comes s came_to tries status met attempts.1 attempts.2

  -- what a done try comes to
  pub comes : (s : Step) (came_to : Tried) → DoesTry pictures home was is s before after old new came_to → Comes whole Holds by was is old new
  comes s came_to tries = attempts_come s came_to tries (refusal_of pictures (holdings_of before) s) refl tries.attempts

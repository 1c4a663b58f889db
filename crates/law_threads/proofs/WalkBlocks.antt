-- The walk of an actor, as blocks of events that it has yet to do.
use Rattle.std.proofs.Common.{◌≡◌, ℕ, suc, ◌+◌, ◌≤◌, ◌==◌, true, List, [], ◌∷◌, ◌++◌, arith, ap, ◌∙◌, sym, refl, inl, inr, subst, length, map, Option, Some, None}
use Rattle.std.specs.Prelude.{Contains, if◌then◌else◌}
use Rattle.std.proofs.lemmas.Bool.{cases_Bool, cases_eq, eq-eqb}
use Rattle.std.proofs.lemmas.List.{append-nil, append_assoc, length-append, length-map}
use Rattle.std.proofs.lemmas.List.Elements.{Contains-append_left, Contains-append_right}
use Rattle.sf_base.specs.Fences.{Fence, merged as with_points_of, no_points}
use Rattle.law_draws.specs.sf_calls.Histories.{GoesOnWithout, calls_by, entry}
use Rattle.sf_script_scene.specs.sf_picture.declared.picture.Picture.{Picture}
use Rattle.sf_script_scene.specs.declared.step.Step.{Step}
use Rattle.sf_script_scene.specs.declared.step.Step.TheVariants as step
use Rattle.law_draws.specs.sf_slots.declared.calls.PlainReply.{PlainReply}
use Rattle.law_draws.specs.sf_slots.declared.calls.PlainReply.TheVariants as plain
use Rattle.sf_base.specs.declared.ids.QueueId.{QueueId}
use Rattle.law_draws.specs.sf_surface.declared.call.QCall.{QCall}
use Rattle.law_draws.specs.sf_surface.declared.call.QCall.TheVariants as call
use Rattle.law_draws.specs.sf_surface.declared.call.QReply.{QReply}
use Rattle.law_draws.specs.sf_surface.declared.mark.QueueMark.{QueueMark}
use Rattle.law_draws.specs.sf_surface.Hands.{IsReply, permit_of}
use Rattle.law_draws.specs.sf_surface.Histories.{Made}
use Rattle.law_draws.specs.sf_token.Pending.{Arrival}
use Rattle.sf_turns.specs.Views.{PermitView}
use Rattle.law_draws.specs.sf_actor.Desks.{DeskHome, DeskView, mark_among}
use Rattle.law_draws.specs.sf_actor.Known.{call_after, own_calls, told_by}
use Rattle.law_draws.specs.sf_actor.Names.{name_in}
use Rattle.law_draws.specs.sf_actor.Points.{frame_fence, requested_fence}
use Rattle.law_draws.specs.sf_actor.Rights.{made_with}
use Rattle.law_draws.specs.sf_actor.ScriptTraces.{IsMade, made_on}
use Rattle.law_draws.specs.sf_actor.Traces.{made_by}
use Rattle.law_draws.specs.sf_actor.Tries.{ActorOf, Keeps}
use Rattle.law_draws.specs.sf_actor_steps.declared.bindings.Bindings.{Bindings}
use Rattle.law_draws.specs.sf_actor_steps.declared.tried.Tried.{Tried}
use Rattle.law_draws.specs.sf_actor_steps.declared.tried.Tried.TheVariants as tried
use Rattle.law_draws.specs.sf_actor_steps.Acting.{Acts as StepActs, Attempts}
use Rattle.law_draws.specs.sf_actor_steps.Doing.{MakesCall}
use Rattle.law_draws.specs.sf_actor_steps.Editing.{ReleasesAll, TriesSend}
use Rattle.law_draws.specs.sf_actor_steps.Bindings.{holdings_of}
use Rattle.law_draws.specs.sf_actor_steps.Leaving.{FindsOpen, LooksFor, TriesToLeave}
use Rattle.sf_live_compositor.proofs.sf_live_seats_lemmas.QueuePass.{as_long}
use Rattle.law_draws.specs.law_rights.Calls.{made_of}
use Rattle.law_draws.specs.law_rights.States.{State}
use Rattle.law_draws.proofs.law_rights_lemmas.TurnCounts.{first, none_in, the_only}
use Rattle.law_draws.proofs.law_rights_lemmas.OwedAfterCall.{ending_left}
use Rattle.law_threads.specs.Cuts.{Whole}
use Rattle.law_threads.specs.Lifts.{Comes, GivesAll, Given, LearnsOnly}
use Rattle.law_threads.specs.Lifts.Comes.{Calling, Giving, Quietly, Sending}
use Rattle.law_threads.proofs.TryOutcomes.{all_begin}
use Rattle.law_threads.proofs.CallCounts.{none_more}

-- a part of a history
abbrev pub Front : {A : Type 0} → List A → List A → Type 0
Front {A} old new = (more : List A) × (new ≡ more ++ old)

pub front_on : {A : Type 0} (xs ys zs : List A) → Front xs ys → Front ys zs → Front xs zs
front_on xs ys zs one two = (two.0 ++ one.0, two.1 ∙ ap (λ rest. two.0 ++ rest) one.1 ∙ sym (append_assoc two.0 one.0 xs))

pub front_same : {A : Type 0} (xs ys : List A) → ys ≡ xs → Front xs ys
front_same xs ys same = ([], same)

module _ {B : Type 0} where
  -- what was called stays called
  makes_front : (pictures : ℕ → Picture) (home : DeskHome) (by n : ℕ) (s : Step) (before after : Bindings B) (from new : DeskView B) (came_to : Tried) → MakesCall pictures home by n s before after from new came_to
      → (queue : ℕ) → Front (from.calls queue) (new.calls queue)
  makes_front pictures home by n s before after from new (tried.Own status) makes queue = absurd makes.tries
  makes_front pictures home by n s before after from new (tried.Sent number) makes queue = absurd makes.tries
  makes_front pictures home by n s before after from new (tried.Called status values) makes queue =
      let calls = makes.tries.3 in
      let ended = (ending_left makes.tries.0.ends calls.made_view new calls.ends).1 in
      elim (cases_eq queue makes.asking.queue.0) [
        | inl same ↦ subst (λ (q : ℕ). Front (from.calls q) (new.calls q)) (sym same) (
          entry by (n, makes.asking.call) makes.tries.0 ∷ calls.made.goes_on.begins.0,
          ap (λ (cs : ℕ → List (Made B)). cs makes.asking.queue.0) ended ∙ calls.made.newest ∙ ap (λ (xs : List (Made B)). entry by (n, makes.asking.call) makes.tries.0 ∷ xs) calls.made.goes_on.begins.1,
        )
        | inr apart ↦ front_same (from.calls queue) (new.calls queue) (ap (λ (cs : ℕ → List (Made B)). cs queue) ended ∙ calls.made.changes.others queue apart)
      ]
  makes_front pictures home by n s before after from new tried.NotYet makes queue = elim (cases_eq queue makes.asking.queue.0) [
    | inl same ↦ subst (λ (q : ℕ). Front (from.calls q) (new.calls q)) (sym same) makes.tries.waits.goes_on.begins
    | inr apart ↦ front_same (from.calls queue) (new.calls queue) (makes.tries.waits.changes.others queue apart)
  ]

  view_front : (old new : DeskView B) → new.calls ≡ old.calls → (queue : ℕ) → Front (old.calls queue) (new.calls queue)
  view_front old new same queue = front_same (old.calls queue) (new.calls queue) (ap (λ (cs : ℕ → List (Made B)). cs queue) same)

  looks_front : (home : DeskHome) (fence : Option Fence) (old looked : DeskView B) → LooksFor home fence old looked → looked.calls ≡ old.calls
  looks_front home None old looked same = ap (λ (view : DeskView B). view.calls) same
  looks_front home (Some fence) old looked looks = ap (λ (view : DeskView B). view.calls) looks.3

  finds_front : (home : DeskHome) (fence : Option Fence) (old new : DeskView B) → FindsOpen home fence old new → new.calls ≡ old.calls
  finds_front home None old new none = absurd none
  finds_front home (Some fence) old new finds = ap (λ (view : DeskView B). view.calls) finds.3

  leaves_front : (pictures : ℕ → Picture) (home : DeskHome) (by n : ℕ) (s : Step) (fence : Option Fence) (before after : Bindings B) (old new : DeskView B) (came_to : Tried)
      → TriesToLeave pictures home by n s fence before after old new came_to → (queue : ℕ) → Front (old.calls queue) (new.calls queue)
  leaves_front pictures home by n s fence before after old new (tried.Own status) leaves queue = view_front old new (finds_front home fence old new leaves.2) queue
  leaves_front pictures home by n s fence before after old new (tried.Called status values) leaves queue =
      front_on (old.calls queue) (leaves.0.calls queue) (new.calls queue) (view_front old leaves.0 (looks_front home fence old leaves.0 leaves.1) queue) (makes_front pictures home by n s before after leaves.0 new (tried.Called status values) leaves.2 queue)
  leaves_front pictures home by n s fence before after old new (tried.Sent number) leaves queue = absurd leaves.2.tries
  leaves_front pictures home by n s fence before after old new tried.NotYet leaves queue =
      front_on (old.calls queue) (leaves.0.calls queue) (new.calls queue) (view_front old leaves.0 (looks_front home fence old leaves.0 leaves.1) queue) (makes_front pictures home by n s before after leaves.0 new tried.NotYet leaves.2 queue)

  releases_front : (home : DeskHome) (by n : ℕ) (buffers : List _) (old new : DeskView B) → ReleasesAll home by n buffers old new → (queue : ℕ) → Front (old.calls queue) (new.calls queue)
  releases_front home by n [] old new same queue = view_front old new (ap (λ (view : DeskView B). view.calls) same) queue
  releases_front home by n (buffer ∷ buffers) old new all queue = front_on (old.calls queue) (all.0.calls queue) (new.calls queue) one (releases_front home by n buffers all.0 new all.2 queue)
    where
      ended : all.0.calls ≡ all.1.released.calls
      ended = (ending_left all.1.reply.ends all.1.released all.0 all.1.ends).1

      one : Front (old.calls queue) (all.0.calls queue)
      one = elim (cases_eq queue buffer.lease.queue.0) [
        | inl same ↦ subst (λ (q : ℕ). Front (old.calls q) (all.0.calls q)) (sym same) (
          entry by (n, call.Release buffer.lease (with_points_of no_points buffer.lease.fence)) all.1.reply ∷ all.1.made.goes_on.begins.0,
          ap (λ (cs : ℕ → List (Made B)). cs buffer.lease.queue.0) ended ∙ all.1.made.newest
              ∙ ap (λ (xs : List (Made B)). entry by (n, call.Release buffer.lease (with_points_of no_points buffer.lease.fence)) all.1.reply ∷ xs) all.1.made.goes_on.begins.1,
        )
        | inr apart ↦ front_same (old.calls queue) (all.0.calls queue) (ap (λ (cs : ℕ → List (Made B)). cs queue) ended ∙ all.1.made.changes.others queue apart)
      ]

  sends_front : (home : DeskHome) (by n txn token : ℕ) (before after : Bindings B) (old new : DeskView B) (came_to : Tried)
      → TriesSend home by n txn token before after old new came_to → (queue : ℕ) → Front (old.calls queue) (new.calls queue)
  sends_front home by n txn token before after old new (tried.Sent number) sends queue = view_front old new (ap (λ (view : DeskView B). view.calls) sends.made.same) queue
  sends_front home by n txn token before after old new (tried.Own status) sends queue = absurd sends
  sends_front home by n txn token before after old new (tried.Called status values) sends queue = absurd sends
  sends_front home by n txn token before after old new tried.NotYet sends queue = absurd sends

  acts_front : (pictures : ℕ → Picture) (home : DeskHome) (by n : ℕ) (s : Step) (before after : Bindings B) (old new : DeskView B) (came_to : Tried) → StepActs pictures home by n s before after old new came_to
      → (queue : ℕ) → Front (old.calls queue) (new.calls queue)
  acts_front pictures home by n (step.Disconnect q) before after old new came_to acts queue = makes_front pictures home by n (step.Disconnect q) before acts.called old new came_to acts.makes queue
  acts_front pictures home by n (step.PDetach from to) before after old new came_to acts queue =
      leaves_front pictures home by n (step.PDetach from to) (requested_fence (name_in (holdings_of before) from)) before after old new came_to acts queue
  acts_front pictures home by n (step.CDetach from to) before after old new came_to acts queue =
      leaves_front pictures home by n (step.CDetach from to) (frame_fence (name_in (holdings_of before) from)) before after old new came_to acts queue
  acts_front pictures home by n (step.Draw name p) before after old new came_to acts queue =
      view_front old new (ap (λ (view : DeskView B). view.calls) acts.turns ∙ ap (λ (view : DeskView B). view.calls) acts.times) queue
  acts_front pictures home by n (step.Signal t v) before after old new came_to acts queue = view_front old new (ap (λ (view : DeskView B). view.calls) acts.times) queue
  acts_front pictures home by n (step.Wait t v) before after old new came_to acts queue = view_front old new (ap (λ (view : DeskView B). view.calls) acts.times) queue
  acts_front pictures home by n (step.Tx txn) before after old new came_to acts queue = view_front old new (ap (λ (view : DeskView B). view.calls) acts.desk) queue
  acts_front pictures home by n (step.Desire txn time) before after old new came_to acts queue = view_front old new (ap (λ (view : DeskView B). view.calls) acts.desk) queue
  acts_front pictures home by n (step.Barrier txn layer frame) before after old new came_to acts queue = view_front old new (ap (λ (view : DeskView B). view.calls) acts.desk) queue
  acts_front pictures home by n (step.Set txn layer change) before after old new came_to acts queue = view_front old new (ap (λ (view : DeskView B). view.calls) acts.desk) queue
  acts_front pictures home by n (step.Buffer txn layer name) before after old new came_to acts queue = releases_front home by n _ old new acts.1.releases queue
  acts_front pictures home by n (step.Merge txn other) before after old new came_to acts queue = releases_front home by n _ old new acts.1.releases queue
  acts_front pictures home by n (step.Apply txn token) before after old new came_to acts queue = sends_front home by n txn token before after old new came_to acts queue
  acts_front pictures home by n s before after old new came_to acts queue = makes_front pictures home by n s before after old new came_to acts queue

  pub attempts_front : (refusal : Option ℕ) (pictures : ℕ → Picture) (home : DeskHome) (by n : ℕ) (s : Step) (before after : Bindings B) (old new : DeskView B) (came_to : Tried)
      → Attempts refusal pictures home by n s before after old new came_to → (queue : ℕ) → Front (old.calls queue) (new.calls queue)
  attempts_front None pictures home by n s before after old new came_to acts queue = acts_front pictures home by n s before after old new came_to acts queue
  attempts_front (Some status) pictures home by n s before after old new came_to attempts queue = view_front old new (ap (λ (view : DeskView B). view.calls) attempts.2) queue

  -- as many calls of an actor's own as its steps made
  own_length : (by : ℕ) (mark : QueueMark) (calls : List (Made B)) → length (own_calls by mark calls) ≡ length (calls_by by calls)
  own_length by mark [] = refl
  own_length by mark (made ∷ earlier) = by_caller (own_length by mark earlier)
    where
      by_caller : length (own_calls by mark earlier) ≡ length (calls_by by earlier) → length (own_calls by mark (made ∷ earlier)) ≡ length (calls_by by (made ∷ earlier))
      by_caller rest = elim (cases_Bool (made.by == by)) [
        | inl met ↦ rw met (let joined = length-append (own_calls by mark earlier) (call_after mark earlier made ∷ []) in omega (arith, joined, rest))
        | inr unmet ↦ rw unmet (let joined = length-append (own_calls by mark earlier) [] in omega (arith, joined, rest))
      ]

  others_same : (by : ℕ) (more xs : List (Made B)) → length (calls_by by (more ++ xs)) ≤ length (calls_by by xs) → calls_by by (more ++ xs) ≡ calls_by by xs
  others_same by [] xs few = refl
  others_same by (e ∷ more) xs few = by_caller (others_same by more xs)
    where
      by_caller : (length (calls_by by (more ++ xs)) ≤ length (calls_by by xs) → calls_by by (more ++ xs) ≡ calls_by by xs) → calls_by by (e ∷ more ++ xs) ≡ calls_by by xs
      by_caller rest = elim (cases_Bool (e.by == by)) [
        | inl met ↦
            let few_here : suc (length (calls_by by (more ++ xs))) ≤ length (calls_by by xs) = rw met at few in
            let least = none_more by more xs in
            absurd (omega (arith, few_here, least))
        | inr unmet ↦ rw unmet (rest (let few_here : length (calls_by by (more ++ xs)) ≤ length (calls_by by xs) = rw unmet at few in few_here))
      ]

  -- an actor that did no further step called nothing
  pub same_learns : (pictures : ℕ → Picture) (home : DeskHome) (of : ActorOf B) (old new : DeskView B) → Keeps pictures home of old → Keeps pictures home of new → ((queue : ℕ) → Front (old.calls queue) (new.calls queue)) → new.arrivals ≡ old.arrivals
      → LearnsOnly of.script.number old new
  same_learns pictures home of old new was is fronts arrivals = record { calls = goes; arrivals = arrivals }
    where
      by : ℕ
      by = of.script.number

      many : (view : DeskView B) → Keeps pictures home of view → (queue : ℕ) → length (made_on queue (made_by pictures of.trace)) ≡ length (calls_by of.script.number (view.calls queue))
      many view keeps queue =
          let zip = as_long IsMade (made_on queue (made_by pictures of.trace)) (map told_by (own_calls of.script.number (mark_among home.marks queue) (view.calls queue))) (keeps.kept.kept.is.made queue) in
          let mapped = length-map (own_calls of.script.number (mark_among home.marks queue) (view.calls queue)) told_by in
          let own = own_length of.script.number (mark_among home.marks queue) (view.calls queue) in
          omega (arith, zip, mapped, own)

      goes : (queue : ℕ) → GoesOnWithout of.script.number (old.calls queue) (new.calls queue)
      goes queue =
          let a = many old was queue in
          let b = many new is queue in
          let c = ap (λ (es : List (Made B)). length (calls_by of.script.number es)) (fronts queue).1 in
          record {
            begins = fronts queue;
            calls = ap (calls_by of.script.number) (fronts queue).1 ∙ others_same of.script.number (fronts queue).0 (old.calls queue) (omega (arith, a, b, c));
          }

  -- what a done try came to leaves what was called as it is, and what was sent
  pub comes_front : (whole : Whole B) (Holds : State B → Type 0) (by : ℕ) (was is : ActorOf B) (old new : DeskView B) → Comes whole Holds by was is old new → (queue : ℕ) → Front (old.calls queue) (new.calls queue)
  comes_front whole Holds by was is old new (Quietly lifts learns) queue = (learns.calls queue).begins
  comes_front whole Holds by was is old new (Calling call) queue = elim (cases_eq queue call.queue) [
    | inl same ↦ subst (λ (q : ℕ). Front (old.calls q) (new.calls q)) (sym same) (call.made ∷ call.goes_on.begins.0, call.newest ∙ ap (λ (xs : List (Made B)). call.made ∷ xs) call.goes_on.begins.1)
    | inr apart ↦ front_same (old.calls queue) (new.calls queue) (call.others queue apart)
  ]
  comes_front whole Holds by was is old new (Sending sends) queue = view_front old new sends.calls queue
  comes_front whole Holds by was is old new (Giving gives all given lifts) queue = all_begin by (length was.trace + 1) gives old new all queue

  gives_arrivals : (by n : ℕ) (gives : List (Given B)) (old new : DeskView B) → GivesAll by n gives old new → new.arrivals ≡ old.arrivals
  gives_arrivals by n [] old new all = all.1
  gives_arrivals by n (given ∷ later) old new all = gives_arrivals by n later all.0 new all.2 ∙ all.1.arrivals

  pub comes_arrivals : (whole : Whole B) (Holds : State B → Type 0) (by : ℕ) (was is : ActorOf B) (old new : DeskView B) → Comes whole Holds by was is old new → (more : List (Arrival _)) × (new.arrivals ≡ old.arrivals ++ more)
  comes_arrivals whole Holds by was is old new (Quietly lifts learns) = ([], learns.arrivals ∙ sym (append-nil old.arrivals))
  comes_arrivals whole Holds by was is old new (Calling call) = ([], call.arrivals ∙ sym (append-nil old.arrivals))
  comes_arrivals whole Holds by was is old new (Sending sends) = (
    sends.goes_on.later ++ record { number = sends.number; actor = record { 0 = by }; step = length was.trace + 1; txn = sends.txn } ∷ [],
    sends.last ∙ ap (λ xs. xs ++ record { number = sends.number; actor = record { 0 = by }; step = length was.trace + 1; txn = sends.txn } ∷ []) sends.goes_on.joined ∙ append_assoc old.arrivals sends.goes_on.later _,
  )
  comes_arrivals whole Holds by was is old new (Giving gives all given lifts) = ([], gives_arrivals by (length was.trace + 1) gives old new all ∙ sym (append-nil old.arrivals))

  -- a call that made a buffer brought its permit, and gave none back
  pub made_it : (queue : QueueId) (asked : QCall B) (given : PlainReply) (reply : QReply B) (number : ℕ) → IsReply queue asked given reply → Contains (made_of asked given) number → made_with (permit_of asked) reply.spare number ≡ true
  made_it queue (call.Dequeue width height wait permit) (plain.Dequeued slot held requested true fence) reply number is there =
      let none : reply.spare ≡ None = ap (λ (r : QReply B). r.spare) is in
      subst (λ (spare : Option PermitView). made_with (Some permit) spare number ≡ true) (sym none) (eq-eqb permit.buffer number (the_only permit.buffer number there))
  made_it queue asked given reply number is there = absurd (none_in number there)

  pub own_there : (by : ℕ) (mark : QueueMark) (more earlier : List (Made B)) (made : Made B) → made.by ≡ by → Contains (own_calls by mark (more ++ made ∷ earlier)) (call_after mark earlier made)
  own_there by mark [] earlier made own = rw (eq-eqb made.by by own) (Contains-append_right (own_calls by mark earlier) (call_after mark earlier made ∷ []) (call_after mark earlier made) (first (call_after mark earlier made) []))
  own_there by mark (m ∷ more) earlier made own =
      Contains-append_left (own_calls by mark (more ++ made ∷ earlier)) (if m.by == by then call_after mark (more ++ made ∷ earlier) m ∷ [] else []) (call_after mark earlier made) (own_there by mark more earlier made own)

-- Each action lessens what is left of a play.
use Rattle.std.proofs.Common.{◌≡◌, ◌≢◌, ℕ, zero, suc, ◌+◌, ◌-◌, ◌*◌, ◌≤◌, Bool, true, false, List, [], ◌∷◌, ◌++◌, length, drop, filter, map, set, take, Option, Some, None, refl, sym, ap, ◌∙◌, subst, inl, inr, arith}
use Rattle.std.specs.Prelude.{Contains, slice_get}
use Rattle.std.specs.List.{flat_map, sum_by}
use Rattle.std.proofs.lemmas.Bool.{cases_eq, eq-eqb, false≢true}
use Rattle.std.proofs.lemmas.List.{append-nil, length-append, length-map, length-set}
use Rattle.std.proofs.lemmas.List.Concat.{flat_map-append}
use Rattle.std.proofs.lemmas.List.Elements.{filter-append}
use Rattle.std.proofs.lemmas.List.Sums.{sum_by-append, sum_by-cons}
use Rattle.atomic_table.specs.Seated.{TableId}
use Rattle.sf_picture.specs.declared.picture.Picture.{Picture}
use Rattle.sf_play_report.specs.sf_surface.Tokens.{ReadLeaseOf}
use Rattle.sf_play_report.specs.sf_token.Pending.{Arrival}
use Rattle.sf_play_report.specs.sf_txn.Transactions.{Contents}
use Rattle.sf_script_scene.specs.declared.step.ActorScript.{ActorScript}
use Rattle.sf_script_scene.specs.declared.step.Step.{Step}
use Rattle.sf_play_report.specs.sf_actor.declared.done.Answered.{Answered}
use Rattle.sf_play_report.specs.sf_actor.declared.done.Answered.TheVariants as answered
use Rattle.sf_play_report.specs.sf_actor.declared.done.Done.{Done}
use Rattle.sf_play_report.specs.sf_actor.declared.tried.Stepped.TheVariants as stepped
use Rattle.sf_play_report.specs.sf_actor.Desks.{DeskHome, DeskView, known_of}
use Rattle.sf_play_report.specs.sf_actor.Known.{GoesOn, arrivals_told, is_sent_by, plain_arrival}
use Rattle.sf_play_report.specs.sf_actor.Names.{FrameOf}
use Rattle.sf_play_report.specs.sf_actor.Steps.{sent_by}
use Rattle.sf_play_report.specs.sf_actor.ScriptTraces.{sent_as, step_done}
use Rattle.sf_play_report.specs.sf_actor.Traces.{DoneAt, Past, SentStep, next, no_past, places_from, places_of, sends_of, sent_at, sent_with}
use Rattle.sf_play_report.specs.sf_actor.Tries.{ActorOf, Keeps}
use Rattle.law_rights.specs.sf_actor_steps.declared.actor.Actor.{Actor}
use Rattle.law_rights.specs.sf_actor_set.ActorSets.{KeepAs, StepsAt}
use Rattle.sf_play_report.proofs.law_played_lemmas.Members.{has_first, has_later}
use Rattle.sf_play_report.proofs.law_played_lemmas.ArrivedFrames.{any_passes}
use Rattle.sf_play.specs.Fuel.{now_in, steps_left, to_commit, untaken, wait_left, work_left}
use Rattle.sf_play.specs.Players.{PlayOf, home_in, view_in}

-- the last step of a trace, behind the others
places_last : (place : ℕ) (past : Past) (trace : List Done) (done : Done) → (at : DoneAt) × (places_from place past (trace ++ done ∷ []) ≡ places_from place past trace ++ at ∷ [])
unfolding places_from
places_last place past [] done = (record { place = place; past = past; done = done }, refl)
places_last place past (d ∷ later) done =
    let rest = places_last (place + 1) (next place past d) later done in
    (rest.0, ap (λ (ats : List DoneAt). record { place = place; past = past; done = d } ∷ ats) rest.1)

pub one_sent : (place : ℕ) (answer : Answered) (sent : Option (Contents FrameOf)) → length (sent_with place answer sent) ≤ 1
one_sent place (answered.Sent number) (Some txn) = omega arith
one_sent place answer sent = omega arith

-- a step sends one transaction at most
sends_more : (trace : List Done) (done : Done) → length (sends_of (trace ++ done ∷ [])) ≤ length (sends_of trace) + 1
sends_more trace done =
    let last = places_last 1 no_past trace done in
    let all = ap (flat_map sent_at) last.1 ∙ flat_map-append sent_at (places_of trace) (last.0 ∷ []) in
    let many = ap (λ (xs : List SentStep). length xs) all in
    let both = length-append (sends_of trace) (flat_map sent_at (last.0 ∷ [])) in
    let end = ap (λ (xs : List SentStep). length xs) (append-nil (sent_at last.0)) in
    let one = one_sent last.0.place last.0.done.answered (sent_by last.0.past.holdings last.0.done.step) in
    omega (arith, many, both, end, one)

-- the same front leaves the same rest
pub same_rest : {X : Type 0} (xs ys zs : List X) → xs ++ ys ≡ xs ++ zs → ys ≡ zs
same_rest [] ys zs e = e
same_rest {X} (x ∷ xs) ys zs e = same_rest xs ys zs (let same : xs ++ ys ≡ xs ++ zs = cc in same)

all_pass : {X : Type 0} (p : X → Bool) (xs : List X) → ((x : X) → Contains xs x → p x ≡ true) → filter p xs ≡ xs
all_pass p [] all = refl
all_pass {X} p (x ∷ xs) all =
    let met = all x (has_first x x xs refl) in
    rw met (ap (λ (ys : List X). x ∷ ys) (all_pass p xs (λ y there. all y (has_later x y xs there))))

-- behind so many of a front
drop_front : {X : Type 0} (n : ℕ) (xs ys : List X) → n ≤ length xs → drop n (xs ++ ys) ≡ drop n xs ++ ys
drop_front zero xs ys low = refl
drop_front (suc n) [] ys low = absurd (omega (arith, low))
drop_front (suc n) (x ∷ xs) ys low = drop_front n xs ys (omega (arith, low))

pub few_weigh : (now : ℕ) (arrivals : List (Arrival ReadLeaseOf)) → to_commit now arrivals ≤ 2001 * length arrivals
few_weigh now [] = omega arith
few_weigh now (arrived ∷ later) =
    let rest = few_weigh now later in
    let sum = sum_by-cons (λ (a : Arrival ReadLeaseOf). 1 + wait_left now a.txn.desired) arrived later in
    let least : wait_left now arrived.txn.desired ≤ 2000 = short now arrived.txn.desired in
    omega (arith, rest, sum, least)
  where
    short : (now : ℕ) (desired : Option ℕ) → wait_left now desired ≤ 2000
    short now None = omega arith
    short now (Some desired) = omega arith

-- senders are told of as many arrivals as there are
told_length : (tells : Bool) (arrivals : List (Arrival ReadLeaseOf)) → length (arrivals_told tells arrivals) ≡ length arrivals
told_length true arrivals = refl
told_length false arrivals = length-map arrivals (λ (a : Arrival ReadLeaseOf). record a { number = 0 })

module _ {B : Type 0} where
  -- what an actor sent is as many as its trace sends
  pub sent_many : (pictures : ℕ → Picture) (home : DeskHome) (view : DeskView B) (of : ActorOf B) → Keeps pictures home of view
      → length (filter (is_sent_by of.script.number) view.arrivals) ≡ length (sends_of of.trace)
  sent_many pictures home view of keeps =
      let own = arrivals_told home.tells (filter (is_sent_by of.script.number) view.arrivals) in
      sym (told_length home.tells (filter (is_sent_by of.script.number) view.arrivals)) ∙ sym (length-map own plain_arrival) ∙ sym (length-map (map plain_arrival own) sent_as) ∙ ap (λ (xs : List SentStep). length xs) keeps.kept.kept.is.sent

  -- one arrival more, at most
  pub record OneMore (before after : DeskView B) : Type 0 where
    pub later : List (Arrival ReadLeaseOf)
    pub joined : after.arrivals ≡ before.arrivals ++ later
    pub one : length later ≤ 1

  arrivals_more : (pictures : ℕ → Picture) (home : DeskHome) (before after : DeskView B) (old new : ActorOf B) (done : Done) → Keeps pictures home old before → Keeps pictures home new after
      → new.script ≡ old.script → new.trace ≡ old.trace ++ done ∷ [] → ((other : ℕ) → other ≢ old.script.number → GoesOn other (known_of home before) (known_of home after)) → OneMore before after
  arrivals_more pictures home before after old new done kept keeps script trace alone =
      let number : ℕ = old.script.number in
      let goes = (alone (number + 1) (λ e. omega (arith, e))).arrivals in
      let own : (a : Arrival ReadLeaseOf) → Contains goes.later a → is_sent_by number a ≡ true = λ a there. elim (cases_eq a.actor.0 number) [
        | inl same ↦ eq-eqb a.actor.0 number same
        | inr apart ↦
            let without = (alone a.actor.0 apart).arrivals in
            let same = same_rest before.arrivals goes.later without.later (sym goes.joined ∙ without.joined) in
            absurd (false≢true (sym without.none ∙ any_passes (is_sent_by a.actor.0) without.later a (subst (λ (xs : List (Arrival ReadLeaseOf)). Contains xs a) same there) (eq-eqb a.actor.0 a.actor.0 refl)))
      ] in
      let all = ap (λ (xs : List (Arrival ReadLeaseOf)). length xs) (all_pass (is_sent_by number) goes.later own) in
      let joined = ap (λ (xs : List (Arrival ReadLeaseOf)). length (filter (is_sent_by number) xs)) goes.joined in
      let split = ap (λ (xs : List (Arrival ReadLeaseOf)). length xs) (filter-append (is_sent_by number) before.arrivals goes.later) in
      let both = length-append (filter (is_sent_by number) before.arrivals) (filter (is_sent_by number) goes.later) in
      let was = sent_many pictures home before old kept in
      let is = ap (λ (s : ActorScript). length (filter (is_sent_by s.number) after.arrivals)) (sym script) ∙ sent_many pictures home after new keeps in
      let sends = sends_more old.trace done in
      let traced = ap (λ (t : List Done). length (sends_of t)) trace in
      record { later = goes.later; joined = goes.joined; one = omega (arith, all, joined, split, both, was, is, sends, traced) }

  -- the steps that are left, of actors as contracts see them
  abbrev left_of : ActorOf B → ℕ
  left_of of = length of.script.steps - length of.trace

  abbrev left_in : Actor B → ℕ
  left_in actor = length actor.script.steps - length actor.replies.items

  steps_same : (table : TableId) (pictures : ℕ → Picture) (home : DeskHome) (view : DeskView B) (actors : List (Actor B)) (ofs : List (ActorOf B)) → KeepAs table pictures home view actors ofs
      → steps_left actors ≡ sum_by left_of ofs
  steps_same table pictures home view [] [] keep = refl
  steps_same table pictures home view [] (of ∷ ofs) keep = absurd keep
  steps_same table pictures home view (actor ∷ actors) [] keep = absurd keep
  steps_same table pictures home view (actor ∷ actors) (of ∷ ofs) keep =
      let rest = steps_same table pictures home view actors ofs keep.1 in
      let script = ap (λ (s : ActorScript). length s.steps) keep.0.is.script in
      let trace = keep.0.is.trace in
      let one = sum_by-cons left_in actor actors in
      let other = sum_by-cons left_of of ofs in
      omega (arith, rest, script, trace, one, other)

  steps_less : (ofs : List (ActorOf B)) (place : ℕ) (old new : ActorOf B) → slice_get ofs place ≡ Some old → left_of new + 1 ≡ left_of old → sum_by left_of (set ofs place new) + 1 ≡ sum_by left_of ofs
  steps_less [] place old new here less = absurd (cc (here))
  steps_less (of ∷ ofs) zero old new here less =
      let same : of ≡ old = cc in
      let one = sum_by-cons left_of new ofs in
      let other = sum_by-cons left_of of ofs in
      let left = ap left_of same in
      omega (arith, one, other, left, less)
  steps_less (of ∷ ofs) (suc place) old new here less =
      let rest = steps_less ofs place old new here less in
      let one = sum_by-cons left_of of (set ofs place new) in
      let other = sum_by-cons left_of of ofs in
      omega (arith, rest, one, other)

  steps_as : (ofs : List (ActorOf B)) (place : ℕ) (old new : ActorOf B) → slice_get ofs place ≡ Some old → new ≡ old → sum_by left_of (set ofs place new) ≡ sum_by left_of ofs
  steps_as [] place old new here same = refl
  steps_as (of ∷ ofs) zero old new here same = (let is : of ≡ old = cc in ap (λ (o : ActorOf B). sum_by left_of (o ∷ ofs)) (same ∙ sym is))
  steps_as (of ∷ ofs) (suc place) old new here same =
      let rest = steps_as ofs place old new here same in
      let one = sum_by-cons left_of of (set ofs place new) in
      let other = sum_by-cons left_of of ofs in
      omega (arith, rest, one, other)

  -- a trace is no longer than its script
  short_trace : (pictures : ℕ → Picture) (home : DeskHome) (view : DeskView B) (of : ActorOf B) → Keeps pictures home of view → length of.trace ≤ length of.script.steps
  short_trace pictures home view of keeps =
      let same = ap (λ (xs : List Step). length xs) keeps.kept.kept.is.first in
      let many = length-map of.trace step_done in
      let front = short_front (length of.trace) of.script.steps in
      omega (arith, same, many, front)
    where
      short_front : {X : Type 0} (n : ℕ) (xs : List X) → length (take n xs) ≤ length xs
      short_front zero xs = omega arith
      short_front (suc n) [] = omega arith
      short_front (suc n) (x ∷ xs) = let rest = short_front n xs in omega (arith, rest)

  keeps_at : (table : TableId) (pictures : ℕ → Picture) (home : DeskHome) (view : DeskView B) (actors : List (Actor B)) (ofs : List (ActorOf B)) (place : ℕ) (of : ActorOf B)
      → KeepAs table pictures home view actors ofs → slice_get ofs place ≡ Some of → Keeps pictures home of view
  keeps_at table pictures home view [] [] place of keep here = absurd (cc (here))
  keeps_at table pictures home view [] (o ∷ ofs) place of keep here = absurd keep
  keeps_at table pictures home view (actor ∷ actors) [] place of keep here = absurd keep
  keeps_at table pictures home view (actor ∷ actors) (o ∷ ofs) zero of keep here = (let same : o ≡ of = cc in subst (λ (x : ActorOf B). Keeps pictures home x view) same keep.0.keeps)
  keeps_at table pictures home view (actor ∷ actors) (o ∷ ofs) (suc place) of keep here = keeps_at table pictures home view actors ofs place of keep.1 here

  set_here : (ofs : List (ActorOf B)) (place : ℕ) (old new : ActorOf B) → slice_get ofs place ≡ Some old → slice_get (set ofs place new) place ≡ Some new
  set_here [] place old new here = absurd (cc (here))
  set_here (of ∷ ofs) zero old new here = refl
  set_here (of ∷ ofs) (suc place) old new here = set_here ofs place old new here

  same_length : (table : TableId) (pictures : ℕ → Picture) (home : DeskHome) (view : DeskView B) (actors : List (Actor B)) (ofs : List (ActorOf B)) → KeepAs table pictures home view actors ofs
      → length actors ≡ length ofs
  same_length table pictures home view [] [] keep = refl
  same_length table pictures home view [] (of ∷ ofs) keep = absurd keep
  same_length table pictures home view (actor ∷ actors) [] keep = absurd keep
  same_length table pictures home view (actor ∷ actors) (of ∷ ofs) keep = (let rest = same_length table pictures home view actors ofs keep.1 in omega (arith, rest))

  -- a play whose actor set alone changed by a try
  pub record TriesIn (table : TableId) (pictures : ℕ → Picture) (place : ℕ) (ofs : List (ActorOf B)) (old new : PlayOf B) : Type 0 where
    pub same : new ≡ record old { actor_set = new.actor_set }
    pub home : home_in new ≡ home_in old
    pub exact : (home_in old).is_exact ≡ true
    pub taken : (home_in old).taken ≤ length (view_in old).arrivals
    pub keep : KeepAs table pictures (home_in old) (view_in old) old.actor_set.actors ofs

  now_same : (old new : PlayOf B) → new ≡ record old { actor_set = new.actor_set } → now_in new ≡ now_in old
  now_same old new same = ap now_in same

  -- a step that is done lessens the work that is left by more than the round that it was done in adds
  pub work_less : (table : TableId) (pictures : ℕ → Picture) (place : ℕ) (ofs : List (ActorOf B)) (old new : PlayOf B) → TriesIn table pictures place ofs old new
      → StepsAt table pictures place old.actor_set.actors ofs old.actor_set.desk new.actor_set.actors new.actor_set.desk stepped.Done → work_left new + 2 ≤ work_left old
  work_less table pictures place ofs old new tries steps =
      let does = steps.tries.1 in
      let before = keeps_at table pictures (home_in old) (view_in old) old.actor_set.actors ofs place steps.old tries.keep steps.here in
      let after = keeps_at table pictures (home_in new) (view_in new) new.actor_set.actors (set ofs place steps.new) place steps.new steps.keep (set_here ofs place steps.old steps.new steps.here) in
      let keeps = subst (λ (home : DeskHome). Keeps pictures home steps.new (view_in new)) tries.home after in
      let script = ap (λ (of : ActorOf B). of.script) does.same in
      let more = arrivals_more pictures (home_in old) (view_in old) (view_in new) steps.old steps.new does.done before keeps script does.trace (does.alone tries.exact) in
      let was = steps_same table pictures (home_in old) (view_in old) old.actor_set.actors ofs tries.keep in
      let is = steps_same table pictures (home_in new) (view_in new) new.actor_set.actors (set ofs place steps.new) steps.keep in
      let long = short_trace pictures (home_in new) (view_in new) steps.new after in
      let traced = ap (λ (t : List Done). length t) does.trace in
      let one = length-append steps.old.trace (does.done ∷ []) in
      let scripted = ap (λ (s : ActorScript). length s.steps) script in
      let less : left_of steps.new + 1 ≡ left_of steps.old = omega (arith, long, traced, one, scripted) in
      let steps_now = steps_less ofs place steps.old steps.new steps.here less in
      let handler = ap (λ (p : PlayOf B). p.handler) tries.same in
      let now = now_same old new tries.same in
      let pending : to_commit (now_in new) new.handler.pending ≡ to_commit (now_in old) old.handler.pending = (λ i. to_commit (now i) (handler i).pending) in
      let taken = ap (λ (h : DeskHome). h.taken) tries.home in
      let waits : untaken new ≡ untaken old ++ more.later = (λ i. drop (taken i) (more.joined i)) ∙ drop_front (home_in old).taken (view_in old).arrivals more.later tries.taken in
      let weighs : to_commit (now_in new) (untaken new) ≡ to_commit (now_in old) (untaken old ++ more.later) = (λ i. to_commit (now i) (waits i)) in
      let split = sum_by-append (λ (a : Arrival ReadLeaseOf). 1 + wait_left (now_in old) a.txn.desired) (untaken old) more.later in
      let few = few_weigh (now_in old) more.later in
      let single = more.one in
      omega (arith, was, is, steps_now, pending, weighs, split, few, single)

  -- a try that does nothing leaves the work
  pub work_stays : (table : TableId) (pictures : ℕ → Picture) (place : ℕ) (ofs : List (ActorOf B)) (old new : PlayOf B) → TriesIn table pictures place ofs old new
      → (one next : ActorOf B) → slice_get ofs place ≡ Some one → next ≡ one → KeepAs table pictures (home_in new) (view_in new) new.actor_set.actors (set ofs place next)
      → (view_in new).arrivals ≡ (view_in old).arrivals → work_left new ≡ work_left old
  work_stays table pictures place ofs old new tries one next here same keep arrivals =
      let was = steps_same table pictures (home_in old) (view_in old) old.actor_set.actors ofs tries.keep in
      let is = steps_same table pictures (home_in new) (view_in new) new.actor_set.actors (set ofs place next) keep in
      let steps_now = steps_as ofs place one next here same in
      let handler = ap (λ (p : PlayOf B). p.handler) tries.same in
      let now = now_same old new tries.same in
      let taken = ap (λ (h : DeskHome). h.taken) tries.home in
      let pending : to_commit (now_in new) new.handler.pending ≡ to_commit (now_in old) old.handler.pending = (λ i. to_commit (now i) (handler i).pending) in
      let weighs : to_commit (now_in new) (untaken new) ≡ to_commit (now_in old) (untaken old) = (λ i. to_commit (now i) (drop (taken i) (arrivals i))) in
      omega (arith, was, is, steps_now, pending, weighs)

  -- there are as many actors as before
  pub actors_same : (table : TableId) (pictures : ℕ → Picture) (place : ℕ) (ofs : List (ActorOf B)) (old new : PlayOf B) → TriesIn table pictures place ofs old new
      → (next : ActorOf B) → KeepAs table pictures (home_in new) (view_in new) new.actor_set.actors (set ofs place next) → length new.actor_set.actors ≡ length old.actor_set.actors
  actors_same table pictures place ofs old new tries next keep =
      let was = same_length table pictures (home_in old) (view_in old) old.actor_set.actors ofs tries.keep in
      let is = same_length table pictures (home_in new) (view_in new) new.actor_set.actors (set ofs place next) keep in
      let sets = length-set ofs place next in
      omega (arith, was, is, sets)

-- How far each has come in a run in which a player stands: so what is in one order is so with numbers below a bound.
use Rattle.std.proofs.Common.{◌≡◌, ℕ, zero, suc, pred, ◌+◌, ◌≤◌, ◌==◌, Bool, true, false, List, [], ◌∷◌, length, filter, map, reverse, Option, Some, None, slice_get, Contains, inl, inr, refl, ap, sym, ◌∙◌, subst, arith}
use Rattle.std.specs.Prelude.{option_map}
use Rattle.std.specs.List.{All, AllZip, range_with_len}
use Rattle.std.specs.List.Sorted.{IsStrictlyIncreasing}
use Rattle.std.proofs.lemmas.List.Sorted.{Contains-permutation, IsPermutation-sym}
use Rattle.std.proofs.lemmas.Bool.{eq-eqb, ne_eqb}
use Rattle.std.proofs.lemmas.List.{length-map}
use Rattle.std.proofs.lemmas.List.Elements.{All-contains, All-cons, All-head, All-nil, All-tail, Contains-get_or}
use Rattle.std.proofs.lemmas.Option.{get_or_from_slice_get, slice_get-map, slice_get_within}
use Rattle.atomic_table.specs.Seated.{TableId}
use Rattle.law_order.specs.Order.{ArrivalAt, CallAt, InOneOrder, IsArrival, IsCall}
use Rattle.law_rounds.specs.OrderSoFar.{IsOrderedSoFar}
use Rattle.law_rounds.specs.Rounds.{come_so, happened_so}
use Rattle.law_rounds.proofs.ActorsInOrder.{replied, replies_are}
use Rattle.law_rounds.proofs.OrderSoFar.{ordered_so_far}
use Rattle.law_rounds.proofs.StepInOrder.{call_shown, made_there}
use Rattle.sf_play.specs.sf_actor_set.ActorSets.{KeepAs}
use Rattle.sf_play.specs.sf_actor_set.sf_actor_steps.declared.actor.Actor.{Actor}
use Rattle.sf_play.specs.sf_actor.Desks.{DeskHome, DeskView, mark_among}
use Rattle.sf_play.specs.sf_actor.Known.{arrivals_told, is_sent_by, plain_arrival}
use Rattle.sf_play.specs.sf_actor.Names.{FrameOf}
use Rattle.sf_play.specs.sf_actor.ScriptTraces.{IsMade, made_on, sent_as}
use Rattle.sf_play.specs.sf_actor.Scripts.{picture_at}
use Rattle.sf_play.specs.sf_actor.Traces.{DoneAt, MadeStep, Past, SentStep, made_at, made_by, next, no_past, places_from, places_of, sends_of, sent_at, sent_with}
use Rattle.sf_play.specs.sf_actor.Tries.{ActorOf, Keeps}
use Rattle.sf_play.specs.sf_actor.declared.done.Answered.{Answered}
use Rattle.sf_play.specs.sf_actor.declared.done.Answered.TheVariants as answered
use Rattle.sf_play.specs.sf_actor.declared.done.Done.{Done}
use Rattle.sf_play.specs.sf_actor.declared.tried.Reply.{Reply}
use Rattle.sf_play.specs.sf_actor.sf_slots.declared.calls.Entry.{Entry}
use Rattle.sf_play.specs.sf_actor.sf_surface.Histories.{Made, told, told_entry}
use Rattle.sf_play.specs.sf_actor.sf_surface.Tokens.{ReadLeaseOf}
use Rattle.sf_play.specs.sf_actor.sf_surface.declared.mark.QueueMark.{QueueMark}
use Rattle.sf_play.specs.sf_commit.OnLayers.{OnLayer}
use Rattle.sf_play.specs.sf_commit.Rounds.{Round}
use Rattle.sf_play.specs.sf_record.declared.event.VsyncRecords.{VsyncRecords}
use Rattle.sf_play.specs.sf_record.declared.record.ArrivalEntry.{ArrivalEntry}
use Rattle.sf_play.specs.sf_record.declared.record.CommitRecord.{CommitRecord}
use Rattle.sf_play.specs.sf_record.declared.record.HistoryEntry.{HistoryEntry}
use Rattle.sf_play.specs.sf_script_scene.Limits.{IsActor, most_actors}
use Rattle.sf_play.specs.sf_script_scene.Scene.{SceneValue}
use Rattle.sf_play.specs.sf_script_scene.declared.declarations.QueueDecl.{QueueDecl}
use Rattle.sf_play.specs.sf_script_scene.sf_picture.declared.picture.Picture.{Picture}
use Rattle.sf_play.specs.sf_token.Pending.{Arrival}
use Rattle.sf_play.specs.sf_play_report.sf_txn.Transactions.{Contents}
use Rattle.sf_play.proofs.law_played_lemmas.Members.{filter_has, has_cases, has_filter, has_here, has_joined, has_later, has_map, has_none, joined_has, map_has, reverse_has, zip_has}
use Rattle.sf_play.proofs.law_played_lemmas.RunTraces.{head_apart, own_told, rising_later}
use Rattle.sf_play.specs.law_played.Actors.{IsCallBy, arrivals_of, number_of, script_of, told_on}
use Rattle.sf_play.specs.law_played.Arrivals.{entry_of}
use Rattle.sf_play.specs.law_played.Histories.{IsReleased, Released, entry_shown, queue_number, released_at, released_in, released_on, rising_queues}
use Rattle.sf_play.specs.law_played.Runs.{calls_of}
use Rattle.sf_play.specs.law_played.Stages.{VsyncAt, bare_round, begun, ended, round_after, told_from}
use Rattle.sf_play.specs.law_played.Vsyncs.{commits_in, commits_of_vsync, vsyncs_in}
use Rattle.law_waits.proofs.LeavingLemmas.{IsUpTo, commits_low}
use Rattle.sf_play.specs.Players.{PlayOf, PlayerOf, SoFar, home_in, run_so, taken_at, told_at, view_in}
use Rattle.sf_play.specs.Standing.{StandsInRun}

some_is : {X : Type 0} (x y : X) → Some x ≡ Some y → x ≡ y
some_is x y e = cc (e)

-- what stands at a place of a list that was made of another
record IsMapped {X Y : Type 0} (f : X → Y) (xs : List X) (y : Y) : Type 0 where
  from : X
  there : Contains xs from
  is : f from ≡ y

mapped_at : {X Y : Type 0} (f : X → Y) (xs : List X) (i : ℕ) (y : Y) → slice_get (map f xs) i ≡ Some y → IsMapped f xs y
mapped_at {X} f xs i y got = by_got (slice_get xs i) refl
  where
    by_got : (o : Option X) → slice_get xs i ≡ o → IsMapped f xs y
    by_got None e = absurd (cc (sym got ∙ slice_get-map f xs i ∙ ap (option_map f) e))
    by_got (Some x) e = record {
      from = x;
      there = subst (Contains xs) (get_or_from_slice_get xs i x x e) (Contains-get_or xs i x (slice_get_within xs i x e));
      is = some_is (f x) y (sym (slice_get-map f xs i ∙ ap (option_map f) e) ∙ got);
    }

-- the places of a trace's steps are up to its length
places_low : (place most : ℕ) (past : Past) (trace : List Done) → place + length trace ≤ suc most → All (λ (at : DoneAt). at.place ≤ most) (places_from place past trace)
unfolding places_from
places_low place most past [] low = All-nil (λ (at : DoneAt). at.place ≤ most)
places_low place most past (done ∷ later) low =
    All-cons (λ (at : DoneAt). at.place ≤ most) (record { place = place; past = past; done = done }) (places_from (place + 1) (next place past done) later) (omega (arith, low))
    (places_low (place + 1) most (next place past done) later (omega (arith, low)))

low_step : (trace : List Done) (at : DoneAt) → Contains (places_of trace) at → at.place ≤ length trace
low_step trace at there = All-contains (λ (at : DoneAt). at.place ≤ length trace) (places_of trace) at (places_low 1 (length trace) no_past trace (omega arith)) there

made_low : (pictures : ℕ → Picture) (trace : List Done) (m : MadeStep) → Contains (made_by pictures trace) m → m.step ≤ length trace
made_low pictures trace m there =
    let at = joined_has (made_at pictures) (places_of trace) m there in
    let step = All-contains (λ (m : MadeStep). m.step ≡ at.0.place) (made_at pictures at.0) m (made_there pictures at.0) at.2 in
    let low = low_step trace at.0 at.1 in
    omega (arith, step, low)

sent_at_place : (place : ℕ) (answer : Answered) (txn : Option (Contents FrameOf)) (s : SentStep) → Contains (sent_with place answer txn) s → s.step ≡ place
sent_at_place place (answered.Own status) txn s there = has_none s there
sent_at_place place (answered.Called reply) txn s there = has_none s there
sent_at_place place (answered.Sent n) None s there = has_none s there
sent_at_place place (answered.Sent n) (Some txn) s there = elim (has_cases (record { step = place; number = n; txn = txn }) s [] there) [
  | inl same ↦ ap (λ (s : SentStep). s.step) (sym same)
  | inr later ↦ has_none s later
]

sent_low : (trace : List Done) (s : SentStep) → Contains (sends_of trace) s → s.step ≤ length trace
sent_low trace s there =
    let at = joined_has sent_at (places_of trace) s there in
    let step = sent_at_place at.0.place at.0.done.answered _ s at.2 in
    let low = low_step trace at.0 at.1 in
    omega (arith, step, low)

-- an arrival is sent as its step told it
told_there : (tells : Bool) (xs : List (Arrival ReadLeaseOf)) (a : Arrival ReadLeaseOf) → Contains xs a → (s : SentStep) × Contains (map sent_as (map plain_arrival (arrivals_told tells xs))) s × (s.step ≡ a.step)
told_there true xs a there = (sent_as (plain_arrival a), has_map sent_as (map plain_arrival xs) (plain_arrival a) (has_map plain_arrival xs a there), refl)
told_there false xs a there =
    let unnumbered : Arrival ReadLeaseOf = record a { number = 0 } in (
      sent_as (plain_arrival unnumbered),
      has_map sent_as (map plain_arrival (arrivals_told false xs)) (plain_arrival unnumbered)
          (has_map plain_arrival (arrivals_told false xs) unnumbered (has_map (λ (arrived : Arrival ReadLeaseOf). record arrived { number = 0 }) xs a there)),
      refl,
    )

-- what vsyncs released is of vsyncs up to the last
told_low : (most : ℕ) (arrivals : List (Arrival FrameOf)) (round : Round FrameOf) (vsyncs : List VsyncRecords) → All (λ (v : VsyncRecords). v.number ≤ most) vsyncs
    → All (λ (t : VsyncAt). t.vsync.number ≤ most) (told_from arrivals round vsyncs)
unfolding told_from
told_low most arrivals round [] low = All-nil (λ (t : VsyncAt). t.vsync.number ≤ most)
told_low most arrivals round (v ∷ later) low =
    All-cons (λ (t : VsyncAt). t.vsync.number ≤ most) _ _ (All-head (λ (v : VsyncRecords). v.number ≤ most) v later low)
    (told_low most arrivals (ended (round_after arrivals (begun round) v.commits)) later (All-tail (λ (v : VsyncRecords). v.number ≤ most) v later low))

module _ {B : Type 0} where
  -- a told entry tells of a call
  record IsToldOf (calls : List (Made B)) (e : Entry) : Type 0 where
    made : Made B
    there : Contains calls made
    caller : e.caller.0 ≡ made.by

  told_of_call : (mark : QueueMark) (calls : List (Made B)) (e : Entry) → Contains (told mark calls) e → IsToldOf calls e
  unfolding told
  told_of_call mark [] e there = has_none e there
  told_of_call mark (m ∷ calls) e there = elim (has_cases (told_entry mark (told mark calls) m) e (told mark calls) there) [
    | inl same ↦ record { made = m; there = has_here m calls; caller = ap (λ (e : Entry). e.caller.0) (sym same) }
    | inr later ↦ let of = told_of_call mark calls e later in record { made = of.made; there = has_later m of.made calls of.there; caller = of.caller }
  ]

  -- of actors of rising numbers each has as many replies as are told of its number
  replied_by : (ofs : List (ActorOf B)) (of : ActorOf B) → IsStrictlyIncreasing (map number_of ofs) → Contains ofs of → replied ofs of.script.number ≡ length of.replies
  replied_by [] of rising there = has_none of there
  replied_by (first ∷ ofs) of rising there = elim (has_cases first of ofs there) [
    | inl same ↦ rw (eq-eqb first.script.number of.script.number (ap (λ (o : ActorOf B). o.script.number) same)) (ap (λ (o : ActorOf B). length o.replies) same)
    | inr later ↦
        let below = head_apart first of ofs rising later in
        rw (ne_eqb first.script.number of.script.number (λ e. omega (arith, below, e))) (replied_by ofs of (rising_later first ofs rising) later)
  ]

  -- as many as it did steps
  kept_steps : (table : TableId) (pictures : ℕ → Picture) (home : DeskHome) (view : DeskView B) (actors : List (Actor B)) (ofs : List (ActorOf B)) → KeepAs table pictures home view actors ofs → (of : ActorOf B) → Contains ofs of
      → (length of.trace ≡ length of.replies) × Keeps pictures home of view
  kept_steps table pictures home view [] [] keep of there = has_none of there
  kept_steps table pictures home view [] (first ∷ ofs) keep of there = absurd keep
  kept_steps table pictures home view (actor ∷ actors) [] keep of there = absurd keep
  kept_steps table pictures home view (actor ∷ actors) (first ∷ ofs) keep of there = elim (has_cases first of ofs there) [
    | inl same ↦ subst (λ (o : ActorOf B). (length o.trace ≡ length o.replies) × Keeps pictures home o view) same (keep.0.is.trace ∙ sym (ap (λ (rs : List Reply). length rs) keep.0.is.replies), keep.0.keeps)
    | inr later ↦ kept_steps table pictures home view actors ofs keep.1 of later
  ]

  module _ (table : TableId) (scene : SceneValue) (so : SoFar B) (player : PlayerOf B) (stands : StandsInRun table scene so player) where
    abbrev play : PlayOf B
    play = player.play

    abbrev home : DeskHome
    home = home_in play

    abbrev view : DeskView B
    view = view_in play

    abbrev all_told : List VsyncAt
    all_told = told_at scene so play

    numbered : (of : ActorOf B) → Contains so.actors of → 1 ≤ of.script.number
    numbered of there =
        let standing = stands.stands.stands in
        let declared = Contains-permutation (map script_of so.actors) scene.actors of.script (IsPermutation-sym scene.actors (map script_of so.actors) standing.tell.actors.scripts) (has_map script_of so.actors of there) in
        (All-contains (IsActor (most_actors scene.version)) scene.actors of.script standing.of_scene.limits.actors.each declared).low

    -- an actor of this number, with as many replies as done steps
    record IsOf (number : ℕ) : Type 0 where
      of : ActorOf B
      is : of.script.number ≡ number
      keeps : Keeps (picture_at scene.pictures) home of view
      come : length of.trace ≤ come_so play number

    come_of : (number : ℕ) (of : ActorOf B) → of.script.number ≡ number → Contains so.actors of → length of.trace ≡ length of.replies → length of.trace ≤ come_so play number
    come_of zero of is there steps = let some = numbered of there in absurd (omega (arith, is, some))
    come_of (suc n) of is there steps =
        let standing = stands.stands.stands in
        let replies = replies_are table (picture_at scene.pictures) home view play.actor_set.actors so.actors standing.keep (suc n) in
        let its = subst (λ (k : ℕ). replied so.actors k ≡ length of.replies) is (replied_by so.actors of standing.tell.actors.apart there) in
        omega (arith, replies, its, steps)

    actor_of : (number : ℕ) → Contains (map number_of so.actors) number → IsOf number
    actor_of number there =
        let of = map_has number_of so.actors number there in
        let kept = kept_steps table (picture_at scene.pictures) home view play.actor_set.actors so.actors stands.stands.stands.keep of.0 of.1 in
        record { of = of.0; is = of.2; keeps = kept.1; come = come_of number of.0 of.2 of.1 kept.0 }

    -- what was released is of a vsync that was made
    all_low : (r : Released) → Contains (released_in all_told) r → r.vsync ≤ play.vsyncs
    unfolding released_in
    all_low r there =
        let at = joined_has released_at all_told r there in
        let made = map_has (λ (on : OnLayer FrameOf). record { vsync = at.0.vsync.number; on = on }) at.0.round.stage.gone r at.2 in
        let number = All-contains (λ (t : VsyncAt). t.vsync.number ≤ play.vsyncs) all_told at.0 (told_low play.vsyncs (taken_at play) (bare_round scene) (vsyncs_in so.events) stands.stands.stands.vsyncs.numbers) at.1 in
        let same = ap (λ (r : Released). r.vsync) made.2 in
        omega (arith, number, same)

    released_low : (declared : QueueDecl) → Contains scene.queues declared → (e : Entry) → Contains (reverse (told_on home view declared.number)) e → e.caller.0 ≡ 0 → e.step ≤ play.vsyncs
    released_low declared there e has compositor =
        let zip = All-contains (λ (q : QueueDecl). AllZip IsReleased (released_on q.number (released_in all_told)) (calls_of 0 (told_on home view q.number))) scene.queues declared stands.stands.stands.tell.releases there in
        let own = has_filter (λ (e : Entry). e.caller.0 == 0) (reverse (told_on home view declared.number)) e (eq-eqb e.caller.0 0 compositor) has in
        let released = zip_has IsReleased (released_on declared.number (released_in all_told)) (calls_of 0 (told_on home view declared.number)) e zip own in
        let step = released.2.step in
        let low = all_low released.0 (filter_has (λ (one : Released). one.on.lease.0.0 == declared.number) (released_in all_told) released.0 released.1).0 in
        omega (arith, step, low)

    -- an actor's call is of a step that it did
    own_low : (queue number : ℕ) (of : IsOf number) (e : Entry) → Contains (reverse (told_on home view queue)) e → e.caller.0 ≡ number → e.step ≤ come_so play number
    own_low queue number of e has caller =
        let by = of.of.script.number in
        let own = has_filter (λ (e : Entry). e.caller.0 == by) (reverse (told_on home view queue)) e (eq-eqb e.caller.0 by (caller ∙ sym of.is)) has in
        let zip = subst (λ (es : List Entry). AllZip IsMade (made_on queue (made_by (picture_at scene.pictures) of.of.trace)) es) (sym (own_told by (mark_among home.marks queue) (view.calls queue))) (of.keeps.kept.kept.is.made queue) in
        let made = zip_has IsMade (made_on queue (made_by (picture_at scene.pictures) of.of.trace)) (calls_of by (told_on home view queue)) e zip own in
        let low = made_low (picture_at scene.pictures) of.of.trace made.0 (filter_has (λ (m : MadeStep). m.asked.0.0 == queue) (made_by (picture_at scene.pictures) of.of.trace) made.0 made.1).0 in
        let step = made.2.step in
        let come = of.come in
        omega (arith, low, step, come)

    rising_in : (queue : QueueDecl) → Contains (rising_queues scene) queue → Contains scene.queues queue
    unfolding rising_queues
    rising_in queue there =
        let at = joined_has (λ (n : ℕ). filter (λ (item : QueueDecl). queue_number item == n) scene.queues) (range_with_len 1 16) queue there in
        (filter_has (λ (item : QueueDecl). queue_number item == at.0) scene.queues queue at.2).0

    called : (one : CallAt) → IsCall (happened_so scene so play) one → one.entry.step ≤ come_so play one.entry.caller
    unfolding entry_shown
    called one is =
        let shown = call_shown scene (run_so so play) (arrivals_of view) (vsyncs_in so.events) one is in
        let e = mapped_at entry_shown (reverse (told_on home view one.queue)) one.place one.entry shown.at in
        let told_one = told_of_call (mark_among home.marks one.queue) (view.calls one.queue) e.from (reverse_has (told_on home view one.queue) e.from e.there) in
        let caller : e.from.caller.0 ≡ one.entry.caller = ap (λ (h : HistoryEntry). h.caller) e.is in
        let step : e.from.step ≡ one.entry.step = ap (λ (h : HistoryEntry). h.step) e.is in
        elim (All-contains (IsCallBy so.actors) (view.calls one.queue) told_one.made (stands.stands.stands.tell.callers one.queue) told_one.there) [
          | inl compositor ↦
              let zero_by : e.from.caller.0 ≡ 0 = told_one.caller ∙ compositor.0 in
              let low = released_low shown.declared (rising_in shown.declared shown.there) e.from (subst (λ (q : ℕ). Contains (reverse (told_on home view q)) e.from) (sym shown.number) e.there) zero_by in
              subst (λ (n : ℕ). one.entry.step ≤ come_so play n) (sym zero_by ∙ caller) (omega (arith, low, step))
          | inr actor ↦
              let low = own_low one.queue told_one.made.by (actor_of told_one.made.by actor) e.from e.there told_one.caller in
              subst (λ (n : ℕ). one.entry.step ≤ come_so play n) (sym told_one.caller ∙ caller) (omega (arith, low, step))
        ]

    sent_so : (s : ArrivalAt) → IsArrival (happened_so scene so play) s → s.entry.step ≤ come_so play s.entry.actor
    sent_so s is =
        let at = mapped_at entry_of (arrivals_of view) (pred s.number) s.entry is.at in
        let from = map_has plain_arrival view.arrivals at.from at.there in
        let a = from.0 in
        let named = All-contains (λ (arrived : Arrival ReadLeaseOf). Contains (map number_of so.actors) arrived.actor.0) view.arrivals a stands.stands.stands.tell.senders from.1 in
        let of = actor_of a.actor.0 named in
        let by = of.of.script.number in
        let own = has_filter (is_sent_by by) view.arrivals a (eq-eqb a.actor.0 by (sym of.is)) from.1 in
        let told_one = told_there home.tells (filter (is_sent_by by) view.arrivals) a own in
        let low = sent_low of.of.trace told_one.0 (subst (λ (xs : List SentStep). Contains xs told_one.0) of.keeps.kept.kept.is.sent told_one.1) in
        let step_told = told_one.2 in
        let come = of.come in
        let actor : a.actor.0 ≡ s.entry.actor = ap (λ (p : Arrival FrameOf). p.actor.0) from.2 ∙ ap (λ (e : ArrivalEntry). e.actor) at.is in
        let step : a.step ≡ s.entry.step = ap (λ (p : Arrival FrameOf). p.step) from.2 ∙ ap (λ (e : ArrivalEntry). e.step) at.is in
        subst (λ (n : ℕ). s.entry.step ≤ come_so play n) actor (omega (arith, low, step_told, come, step))

    committed : (at : VsyncRecords) (commit : CommitRecord) → Contains (vsyncs_in so.events) at → Contains at.commits commit → commit.arrival ≤ length (map entry_of (arrivals_of view))
    unfolding commits_in
    committed at commit there has =
        let standing = stands.stands.stands in
        let order = standing.vsyncs.played.order in
        let all = commits_low (taken_at play) play.handler.last (commits_in (vsyncs_in so.events)) order.rising order.of_arrivals in
        let low = All-contains (IsUpTo play.handler.last) (commits_in (vsyncs_in so.events)) commit all (has_joined commits_of_vsync (vsyncs_in so.events) at commit there has) in
        let last = standing.vsyncs.last in
        let taken = standing.desk.taken in
        let long = length-map (arrivals_of view) entry_of in
        omega (arith, low, last, taken, long)

    -- what a player that stands in a run has shown: where it is in one order, it is so with numbers below a bound
    pub so_far : (tells : Bool) → InOneOrder tells (happened_so scene so play) → IsOrderedSoFar tells (come_so play) (happened_so scene so play)
    so_far tells order = ordered_so_far tells (come_so play) (happened_so scene so play) order called sent_so
        (λ at there. All-contains (λ (v : VsyncRecords). v.number ≤ play.vsyncs) (vsyncs_in so.events) at stands.stands.stands.vsyncs.numbers there) committed

-- Calls leave the makers of a state standing, over the run that its calls tell, with traces that stay.
use Rattle.std.proofs.Common.{◌≡◌, ℕ, ◌+◌, ◌<◌, ◌≤◌, ◌==◌, ◌⊎◌, true, List, [], ◌∷◌, arith, ap, ◌∙◌, sym, refl, inl, inr, subst, length}
use Rattle.std.specs.Prelude.{Contains}
use Rattle.std.specs.List.{flat_map}
use Rattle.std.proofs.lemmas.Bool.{cases_eq, eqb-true}
use Rattle.std.proofs.lemmas.List.{length-append}
use Rattle.std.proofs.lemmas.List.Elements.{All-contains}
use Rattle.sf_base.specs.Fences.{Fence}
use Rattle.sf_base.specs.declared.ids.QueueId.{QueueId}
use Rattle.sf_actor_set.specs.sf_calls.Histories.{entry}
use Rattle.sf_actor_set.specs.sf_script_scene.Scene.{SceneValue, has_queue}
use Rattle.sf_actor_set.specs.sf_script_scene.declared.declarations.QueueDecl.{QueueDecl}
use Rattle.sf_slots.specs.declared.calls.Entry.{Entry}
use Rattle.sf_slots.specs.declared.calls.PlainReply.{PlainReply}
use Rattle.sf_slots.specs.declared.calls.PlainReply.TheVariants as plain
use Rattle.sf_actor_set.specs.sf_surface.declared.call.QCall.{QCall}
use Rattle.sf_actor_set.specs.sf_surface.declared.call.QCall.TheVariants as call
use Rattle.sf_actor_set.specs.sf_surface.declared.call.QReply.{QReply}
use Rattle.sf_actor_set.specs.sf_surface.declared.mark.QueueMark.{QueueMark}
use Rattle.sf_actor_set.specs.sf_surface.Hands.{IsReply}
use Rattle.sf_actor_set.specs.sf_surface.Histories.{Made, told, told_entry, told_reply}
use Rattle.sf_actor_set.specs.sf_surface.Tokens.{ReadLeaseOf}
use Rattle.sf_actor_set.specs.sf_actor.declared.done.Done.{Done}
use Rattle.sf_actor_set.specs.sf_actor.Desks.{mark_among}
use Rattle.sf_actor_set.specs.sf_actor.Makers.{BufferOf, Run, attached_from, is_attached}
use Rattle.law_played.specs.Turns.{calls_in}
use Rattle.law_played.proofs.AsQueued.{one_passes}
use Rattle.law_rights.specs.Ledgers.{IsLedger}
use Rattle.law_rights.specs.MakerRuns.{AreDeclared, run_in}
use Rattle.law_rights.specs.Makers.{MakersStand}
use Rattle.law_rights.specs.MakerSteps.{PlaceStep, RunGets}
use Rattle.law_rights.specs.PlaceTries.{RestsIn, ReturnAll, ReturnsIn}
use Rattle.law_rights.specs.States.{State, ledger_of}
use Rattle.law_rights.proofs.TurnCounts.{in_front}
use Rattle.law_rights.proofs.MakersKeeping.{rest_keeps}
use Rattle.law_rights.proofs.MakersStanding.{makers_stand}
use Rattle.law_rights.proofs.QueueCounts.{mark_there}
use Rattle.law_rights.proofs.CallKeepsState.{call_keeps}

-- lists joined of others that are no shorter, one of which is longer
module _ {X Y : Type 0} (f g : X → List Y) (grows : (x : X) → length (f x) ≤ length (g x)) where
  joined_grows : (xs : List X) → length (flat_map f xs) ≤ length (flat_map g xs)
  joined_grows [] = omega arith
  joined_grows (x ∷ xs) =
      let here = grows x in
      let rest = joined_grows xs in
      let a = length-append (f x) (flat_map f xs) in
      let b = length-append (g x) (flat_map g xs) in
      omega (arith, here, rest, a, b)

  joined_longer : (xs : List X) (x : X) → Contains xs x → length (f x) < length (g x) → length (flat_map f xs) < length (flat_map g xs)
  joined_longer [] x there more = absurd (omega (arith, there.1))
  joined_longer (y ∷ xs) x there more = by_place (in_front y x xs there) (joined_longer xs x)
    where
      a : length (flat_map f (y ∷ xs)) ≡ length (f y) + length (flat_map f xs)
      a = length-append (f y) (flat_map f xs)

      b : length (flat_map g (y ∷ xs)) ≡ length (g y) + length (flat_map g xs)
      b = length-append (g y) (flat_map g xs)

      by_place : (y ≡ x) ⊎ Contains xs x → (Contains xs x → length (f x) < length (g x) → length (flat_map f xs) < length (flat_map g xs)) → length (flat_map f (y ∷ xs)) < length (flat_map g (y ∷ xs))
      by_place (inl same) further =
          let here : length (f y) < length (g y) = subst (λ (z : X). length (f z) < length (g z)) (sym same) more in
          let rest = joined_grows xs in
          omega (arith, here, rest, a, b)
      by_place (inr among) further =
          let here = grows y in
          let rest = further among more in
          omega (arith, here, rest, a, b)

-- a release attaches nothing
pub release_attaches : {B : Type 0} (queue : QueueId) (lease : ReadLeaseOf) (fence : Fence) (given : PlainReply) (reply : QReply B) → IsReply queue (call.Release lease fence) given reply → is_attached given ≡ true → ⊥
release_attaches queue lease fence (plain.Attached slot held) reply is attaches = is
release_attaches queue lease fence given reply is attaches = absurd (cc (attaches))

module _ {B : Type 0} (trace : ℕ → List Done) where
  -- what a call tells of a run
  module _ (old new : State B) (by queue step : ℕ) (asked : QCall B) (reply : QReply B) (from : BufferOf) (made : PlaceStep old new by queue step asked reply from) where
    abbrev mark : QueueMark
    mark = mark_among old.marks queue

    abbrev one : Made B
    one = entry by (step, asked) reply

    abbrev earlier : List (Made B)
    earlier = old.view.calls queue

    on_queue : mark.queue.0 ≡ queue
    on_queue = (mark_there old.marks queue made.call.once.there).1

    abbrev calls_before : ℕ → List Entry
    calls_before = (run_in trace old).calls

    abbrev calls_after : ℕ → List Entry
    calls_after = (run_in trace new).calls

    new_calls : calls_after queue ≡ told mark (one ∷ earlier)
    new_calls = λ i. told (mark_among (made.call.marks i) queue) (made.call.once.newest i)

    other_calls : (other : ℕ) → (other ≡ queue → ⊥) → calls_after other ≡ calls_before other
    other_calls other apart = λ i. told (mark_among (made.call.marks i) other) (made.call.once.others other apart i)

    pub run_gets : ((stay : BufferOf) → is_attached (told_reply mark earlier by asked) ≡ true → attached_from (run_in trace new) (told_entry mark (told mark earlier) one) stay ≡ from)
        → RunGets mark one earlier from (run_in trace old) (run_in trace new)
    run_gets attached = record {
      old = ap calls_before on_queue;
      new = ap calls_after on_queue ∙ new_calls;
      others = λ other apart. other_calls other (λ same. apart (same ∙ sym on_queue));
      traced = λ stay was. refl;
      attached = attached;
    }

    -- one call more on a queue of the scene
    told_longer : length (told mark (one ∷ earlier)) ≡ length (told mark earlier) + 1
    unfolding told
    told_longer = omega arith

    calls_grow : (number : ℕ) → length (calls_before number) ≤ length (calls_after number)
    calls_grow number = by_queue (cases_eq number queue)
      where
        by_queue : (number ≡ queue) ⊎ (number ≡ queue → ⊥) → length (calls_before number) ≤ length (calls_after number)
        by_queue (inl same) =
            let a = ap (λ (n : ℕ). length (calls_before n)) same in
            let b = ap (λ (n : ℕ). length (calls_after n)) same in
            let c = ap (λ (es : List Entry). length es) new_calls in
            let d = told_longer in
            omega (arith, a, b, c, d)
        by_queue (inr apart) = let e = ap (λ (es : List Entry). length es) (other_calls number apart) in omega (arith, e)

    pub calls_more : (scene : SceneValue) → AreDeclared scene old.marks → calls_in scene (run_in trace old) < calls_in scene (run_in trace new)
    calls_more scene declared =
        let known = All-contains (λ (m : QueueMark). has_queue scene.queues m.queue.0 ≡ true) old.marks mark declared (mark_there old.marks queue made.call.once.there).0 in
        let some = one_passes (λ (o : QueueDecl). o.number == mark.queue.0) scene.queues known in
        let number : some.0.number ≡ queue = eqb-true some.0.number mark.queue.0 some.2 ∙ on_queue in
        joined_longer (λ (o : QueueDecl). calls_before o.number) (λ (o : QueueDecl). calls_after o.number) (λ (o : QueueDecl). calls_grow o.number) scene.queues some.0 some.1
        (let a = ap (λ (n : ℕ). length (calls_before n)) number in
        let b = ap (λ (n : ℕ). length (calls_after n)) number in
        let c = ap (λ (es : List Entry). length es) new_calls in
        let d = told_longer in
        omega (arith, a, b, c, d))

    pub call_stands : (scene : SceneValue) → AreDeclared scene old.marks → IsLedger (ledger_of old)
        → ((stay : BufferOf) → is_attached (told_reply mark earlier by asked) ≡ true → attached_from (run_in trace new) (told_entry mark (told mark earlier) one) stay ≡ from)
        → MakersStand (run_in trace old) (calls_in scene (run_in trace old)) old → MakersStand (run_in trace new) (calls_in scene (run_in trace new)) new
    call_stands scene declared is attached stands =
        makers_stand old new by queue step asked reply from (run_in trace old) (run_in trace new) (calls_in scene (run_in trace old)) (calls_in scene (run_in trace new)) made is (run_gets attached) (calls_more scene declared) stands

  -- where nothing was called, and rights rest
  pub rests_stand : (scene : SceneValue) (old new : State B) → RestsIn old new → MakersStand (run_in trace old) (calls_in scene (run_in trace old)) old → MakersStand (run_in trace new) (calls_in scene (run_in trace new)) new
  rests_stand scene old new rests stands =
      subst (λ (run : Run). MakersStand run (calls_in scene run) new) same
      (record { stays = stands.stays; are = rest_keeps (run_in trace old) (calls_in scene (run_in trace old)) stands.stays _ _ stands.are rests.places })
    where
      same : run_in trace old ≡ run_in trace new
      same = sym (λ i. record { trace = trace; calls = λ queue. told (mark_among (rests.marks i) queue) (rests.calls i queue) })

  module _ (scene : SceneValue) (by step : ℕ) where
    -- frames go back in calls
    returned_stand : (leases : List ReadLeaseOf) (old new : State B) → AreDeclared scene old.marks → ReturnAll by step leases old new → IsLedger (ledger_of old)
        → MakersStand (run_in trace old) (calls_in scene (run_in trace old)) old → MakersStand (run_in trace new) (calls_in scene (run_in trace new)) new
    returned_stand [] old new declared same is stands = subst (λ (state : State B). MakersStand (run_in trace state) (calls_in scene (run_in trace state)) state) (sym same) stands
    returned_stand (lease ∷ later) old new declared returns is stands =
        returned_stand later mid new (subst (AreDeclared scene) (sym made.call.marks) declared) returns.2
        (call_keeps old mid by returns.1.queue step (call.Release lease returns.1.fence) returns.1.reply made.call is)
        (call_stands old mid by returns.1.queue step (call.Release lease returns.1.fence) returns.1.reply nowhere made scene declared is
        (λ stay attaches. absurd (release_attaches (mark_among old.marks returns.1.queue).queue lease returns.1.fence (told_reply (mark_among old.marks returns.1.queue) (old.view.calls returns.1.queue) by (call.Release lease returns.1.fence))
        returns.1.reply made.call.once.replied.answer attaches))
        stands)
      where
        mid : State B
        mid = returns.0

        nowhere : BufferOf
        nowhere = record { queue = 0; number = 0 }

        made : PlaceStep old mid by returns.1.queue step (call.Release lease returns.1.fence) returns.1.reply nowhere
        made = returns.1.made nowhere

    pub returns_stand : (old new : State B) → AreDeclared scene old.marks → ReturnsIn by step old new → MakersStand (run_in trace old) (calls_in scene (run_in trace old)) old → MakersStand (run_in trace new) (calls_in scene (run_in trace new)) new
    returns_stand old new declared returns stands =
        returned_stand returns.leases returns.mid new (subst (AreDeclared scene) (sym returns.rests.marks) declared) returns.returns returns.rests.ledger (rests_stand scene old returns.mid returns.rests stands)

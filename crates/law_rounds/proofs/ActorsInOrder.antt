-- What a try of an actor's next step leaves in one order.
use Rattle.std.proofs.Common.{◌≡◌, ℕ, zero, suc, ◌+◌, ◌≤◌, ◌==◌, Bool, true, false, List, [], ◌∷◌, ◌++◌, length, map, set, slice_get, Some, refl, ap, sym, ◌∙◌, subst, arith}
use Rattle.std.specs.Prelude.{if◌then◌else◌}
use Rattle.std.specs.List.Sorted.{IsStrictlyIncreasing}
use Rattle.std.proofs.lemmas.Bool.{eq-eqb, ne_eqb}
use Rattle.std.proofs.lemmas.List.{append-nil, length-append}
use Rattle.std.proofs.lemmas.List.Elements.{All-nil}
use Rattle.atomic_table.specs.Seated.{TableId}
use Rattle.law_order.specs.Order.{Happened}
use Rattle.law_rounds.specs.OrderSoFar.{ComesTo, DoesMore, IsOrderedSoFar}
use Rattle.law_rounds.specs.Shown.{come_to, replies_among, shown_of}
use Rattle.law_rounds.proofs.CallInOrder.{adds_none}
use Rattle.law_rounds.proofs.DoneInOrder.{done_in_order}
use Rattle.law_rounds.proofs.OrderSoFar.{still_ordered}
use Rattle.law_rounds.proofs.StepInOrder.{AddsCalls, does_more}
use Rattle.sf_play.specs.sf_actor_set.ActorSets.{KeepAs, KeepsAs, StepsAt}
use Rattle.sf_play.specs.sf_actor_set.sf_actor_steps.declared.actor.Actor.{Actor}
use Rattle.sf_play.specs.sf_actor.Desks.{DeskHome, DeskView, mark_among}
use Rattle.sf_play.specs.sf_actor.Names.{FrameOf}
use Rattle.sf_play.specs.sf_actor.Plain.{PlainOf, home_of, view_of}
use Rattle.sf_play.specs.sf_actor.Tries.{ActorOf, DoesStep, Keeps, Tries}
use Rattle.sf_play.specs.sf_actor.declared.tried.Reply.{Reply}
use Rattle.sf_play.specs.sf_actor.declared.tried.Stepped.TheVariants as stepped
use Rattle.sf_play.specs.sf_actor.declared.tried.Stepped.{Stepped}
use Rattle.sf_play.specs.sf_actor.sf_surface.Histories.{told}
use Rattle.sf_play.specs.sf_record.declared.event.VsyncRecords.{VsyncRecords}
use Rattle.sf_play.specs.sf_script_scene.Scene.{SceneValue}
use Rattle.sf_play.specs.sf_script_scene.declared.step.ActorScript.{ActorScript}
use Rattle.sf_play.specs.sf_script_scene.sf_picture.declared.picture.Picture.{Picture}
use Rattle.sf_play.specs.sf_token.Pending.{Arrival}
use Rattle.sf_play.specs.sf_actor.Known.{plain_arrival}
use Rattle.sf_play.proofs.law_played_lemmas.RunTraces.{head_apart, rising_later}
use Rattle.sf_play.proofs.law_played_lemmas.StepKeepsTold.{got_has}
use Rattle.sf_play.specs.law_played.Actors.{arrivals_of, number_of as number_in, run_of}

module _ {B : Type 0} where
  abbrev pub replied : List (ActorOf B) → ℕ → ℕ
  replied [] number = 0
  replied (of ∷ ofs) number = if of.script.number == number then length of.replies else replied ofs number

  pub replies_are : (table : TableId) (pictures : ℕ → Picture) (home : DeskHome) (view : DeskView B) (actors : List (Actor B)) (ofs : List (ActorOf B)) → KeepAs table pictures home view actors ofs
      → (number : ℕ) → replies_among actors number ≡ replied ofs number
  replies_are table pictures home view [] [] keep number = refl
  replies_are table pictures home view [] (of ∷ ofs) keep number = absurd keep
  replies_are table pictures home view (actor ∷ actors) [] keep number = absurd keep
  replies_are table pictures home view (actor ∷ actors) (of ∷ ofs) keep number =
      λ i. if (sym (ap (λ (s : ActorScript). s.number) keep.0.is.script) i) == number then length (sym keep.0.is.replies i) else replies_are table pictures home view actors ofs keep.1 number i

  -- nobody has fewer replies where one has more
  replied_more : (ofs : List (ActorOf B)) (place : ℕ) (old new : ActorOf B) (number : ℕ) → slice_get ofs place ≡ Some old → new.script ≡ old.script → length old.replies ≤ length new.replies
      → replied ofs number ≤ replied (set ofs place new) number
  replied_more [] place old new number here same more = absurd (cc (here))
  replied_more (of ∷ ofs) zero old new number here same more =
      let is : of ≡ old = cc in
      subst (λ (a : ActorOf B). replied (a ∷ ofs) number ≤ replied (new ∷ ofs) number) (sym is) (by_number (old.script.number == number) refl)
    where
      by_number : (b : Bool) → (old.script.number == number) ≡ b → replied (old ∷ ofs) number ≤ replied (new ∷ ofs) number
      by_number true met = let met_too : (new.script.number == number) ≡ true = ap (λ (s : ActorScript). s.number == number) same ∙ met in rw (met, met_too) more
      by_number false unmet = let unmet_too : (new.script.number == number) ≡ false = ap (λ (s : ActorScript). s.number == number) same ∙ unmet in rw (unmet, unmet_too) (omega arith)
  replied_more (of ∷ ofs) (suc place) old new number here same more = by_number (of.script.number == number) (replied_more ofs place old new number here same more)
    where
      by_number : (b : Bool) → replied ofs number ≤ replied (set ofs place new) number → (if b then length of.replies else replied ofs number) ≤ (if b then length of.replies else replied (set ofs place new) number)
      by_number true rest = omega arith
      by_number false rest = rest

  -- the one that has more has so many
  replied_here : (ofs : List (ActorOf B)) (place : ℕ) (old new : ActorOf B) → slice_get ofs place ≡ Some old → IsStrictlyIncreasing (map number_in ofs) → new.script ≡ old.script
      → replied (set ofs place new) old.script.number ≡ length new.replies
  replied_here [] place old new here rising same = absurd (cc (here))
  replied_here (of ∷ ofs) zero old new here rising same = rw (eq-eqb new.script.number old.script.number (ap (λ (s : ActorScript). s.number) same)) refl
  replied_here (of ∷ ofs) (suc place) old new here rising same =
      let below = head_apart of old ofs rising (got_has ofs place old here) in
      rw (ne_eqb of.script.number old.script.number (λ e. omega (arith, below, e))) (replied_here ofs place old new here (rising_later of ofs rising) same)

  -- an actor among those that keep what they keep
  record KeptAs (table : TableId) (pictures : ℕ → Picture) (home : DeskHome) (view : DeskView B) (of : ActorOf B) : Type 0 where
    actor : Actor B
    keeps : KeepsAs table pictures home view actor of

  kept_at : (table : TableId) (pictures : ℕ → Picture) (home : DeskHome) (view : DeskView B) (actors : List (Actor B)) (ofs : List (ActorOf B)) (place : ℕ) (of : ActorOf B) → KeepAs table pictures home view actors ofs
      → slice_get ofs place ≡ Some of → KeptAs table pictures home view of
  kept_at table pictures home view actors [] place of keep here = absurd (cc (here))
  kept_at table pictures home view [] (first ∷ ofs) place of keep here = absurd keep
  kept_at table pictures home view (actor ∷ actors) (first ∷ ofs) zero of keep here =
      let is : first ≡ of = cc in
      subst (λ (a : ActorOf B). KeptAs table pictures home view a) is (record { actor = actor; keeps = keep.0 })
  kept_at table pictures home view (actor ∷ actors) (first ∷ ofs) (suc place) of keep here = kept_at table pictures home view actors ofs place of keep.1 here

  set_at : (ofs : List (ActorOf B)) (place : ℕ) (old new : ActorOf B) → slice_get ofs place ≡ Some old → slice_get (set ofs place new) place ≡ Some new
  set_at [] place old new here = absurd (cc (here))
  set_at (of ∷ ofs) zero old new here = refl
  set_at (of ∷ ofs) (suc place) old new here = set_at ofs place old new here

  module _ (table : TableId) (scene : SceneValue) (pictures : ℕ → Picture) (place : ℕ) (was actors : List (Actor B)) (olds : List (ActorOf B)) (before after : PlainOf B) (outcome : Stepped)
      (keep : KeepAs table pictures (home_of before) (view_of before) was olds) (rising : IsStrictlyIncreasing (map number_in olds)) (steps : StepsAt table pictures place was olds before actors after outcome)
      (home : home_of after ≡ home_of before) (vsyncs : ℕ) (reports : List VsyncRecords) where
    kept_then : KeptAs table pictures (home_of before) (view_of before) steps.old
    kept_then = kept_at table pictures (home_of before) (view_of before) was olds place steps.old keep steps.here

    kept_now : KeptAs table pictures (home_of after) (view_of after) steps.new
    kept_now = kept_at table pictures (home_of after) (view_of after) actors (set olds place steps.new) place steps.new steps.keep (set_at olds place steps.old steps.new steps.here)

    keeps_now : Keeps pictures (home_of before) steps.new (view_of after)
    keeps_now = subst (λ (h : DeskHome). Keeps pictures h steps.new (view_of after)) home kept_now.keeps.keeps

    -- the actor whose step it is has as many replies as done steps
    steps_then : length steps.old.trace ≡ length steps.old.replies
    steps_then = kept_then.keeps.is.trace ∙ sym (ap (λ (rs : List Reply). length rs) kept_then.keeps.is.replies)

    abbrev number : ℕ
    number = steps.old.script.number

    come_is : (of : ℕ) → replies_among actors of ≡ replied (set olds place steps.new) of
    come_is of = replies_are table pictures (home_of after) (view_of after) actors (set olds place steps.new) steps.keep of

    come_was : (of : ℕ) → replies_among was of ≡ replied olds of
    come_was of = replies_are table pictures (home_of before) (view_of before) was olds keep of

    comes : (by step : ℕ) → number ≡ suc by → steps.new.script ≡ steps.old.script → length steps.old.replies ≤ length steps.new.replies → step ≡ length steps.new.replies
        → ComesTo number step (come_to vsyncs was) (come_to vsyncs actors)
    comes by step some same more is = record {
      now = subst (λ (n : ℕ). come_to vsyncs actors n ≡ step) (sym some)
          (come_is (suc by) ∙ ap (replied (set olds place steps.new)) (sym some) ∙ replied_here olds place steps.old steps.new steps.here rising same ∙ sym is);
      rises = rises_then;
      vsyncs = refl;
    }
      where
        rises_then : (of : ℕ) → come_to vsyncs was of ≤ come_to vsyncs actors of
        rises_then zero = omega arith
        rises_then (suc of) =
            let one = come_was (suc of) in
            let two = come_is (suc of) in
            let up = replied_more olds place steps.old steps.new (suc of) steps.here same more in
            omega (arith, one, two, up)

    abbrev shown_then : Happened
    shown_then = shown_of scene (run_of olds (home_of before) (view_of before)) (arrivals_of (view_of before)) reports

    abbrev shown_now : List (ActorOf B) → DeskHome → Happened
    shown_now now h = shown_of scene (run_of now h (view_of after)) (arrivals_of (view_of after)) reports

    did : (tells : Bool) (by : ℕ) (now : List (ActorOf B)) (reply : Reply) → number ≡ suc by → DoesStep pictures (home_of before) steps.old (view_of before) steps.new (view_of after) reply
        → IsOrderedSoFar tells (come_to vsyncs was) shown_then → IsOrderedSoFar tells (come_to vsyncs actors) (shown_now now (home_of before))
    did tells by now reply some does so =
        let more = done_in_order pictures (home_of before) (view_of before) (view_of after) steps.old steps.new reply refl does kept_then.keeps.keeps keeps_now scene olds now reports in
        let longer = ap (λ (rs : List Reply). length rs) does.replies in
        let one = length-append steps.old.replies (reply ∷ []) in
        let many = steps_then in
        still_ordered tells number (length steps.old.trace + 1) (come_to vsyncs was) (come_to vsyncs actors) shown_then (shown_now now (home_of before)) so more
        (comes by (length steps.old.trace + 1) some (ap (λ (of : ActorOf B). of.script) does.same) (omega (arith, longer, one)) (omega (arith, longer, one, many)))

    -- nothing was called or sent
    nothing : (tells : Bool) (by : ℕ) (now : List (ActorOf B)) → number ≡ suc by → steps.new ≡ steps.old → ((queue : ℕ) → (view_of after).calls queue ≡ (view_of before).calls queue)
        → (view_of after).arrivals ≡ (view_of before).arrivals → IsOrderedSoFar tells (come_to vsyncs was) shown_then → IsOrderedSoFar tells (come_to vsyncs actors) (shown_now now (home_of before))
    nothing tells by now some same calls arrivals so =
        let none : AddsCalls number (length steps.old.replies) (run_of olds (home_of before) (view_of before)) (run_of now (home_of before) (view_of after)) =
        adds_none number (length steps.old.replies) (run_of olds (home_of before) (view_of before)) (run_of now (home_of before) (view_of after))
        (λ queue. ap (told (mark_among (home_of before).marks queue)) (calls queue)) in
        let more : DoesMore number (length steps.old.replies) shown_then (shown_of scene (run_of now (home_of before) (view_of after)) (arrivals_of (view_of before) ++ []) reports) =
        does_more scene number (length steps.old.replies) (run_of olds (home_of before) (view_of before)) (run_of now (home_of before) (view_of after)) (arrivals_of (view_of before)) [] reports none (All-nil _) in
        let same_replies = ap (λ (of : ActorOf B). length of.replies) same in
        subst (λ (arrivals : List (Arrival FrameOf)). IsOrderedSoFar tells (come_to vsyncs actors) (shown_of scene (run_of now (home_of before) (view_of after)) arrivals reports))
        (append-nil (arrivals_of (view_of before)) ∙ sym (ap (map plain_arrival) arrivals))
        (still_ordered tells number (length steps.old.replies) (come_to vsyncs was) (come_to vsyncs actors) shown_then
        (shown_of scene (run_of now (home_of before) (view_of after)) (arrivals_of (view_of before) ++ []) reports) so more
        (comes by (length steps.old.replies) some (ap (λ (of : ActorOf B). of.script) same) (omega (arith, same_replies)) (sym same_replies)))

    -- what was in one order is so after the try
    pub tried_in_order : (tells : Bool) (by : ℕ) (now : List (ActorOf B)) → number ≡ suc by → IsOrderedSoFar tells (come_to vsyncs was) shown_then → IsOrderedSoFar tells (come_to vsyncs actors) (shown_now now (home_of after))
    tried_in_order tells by now some so =
        subst (λ (h : DeskHome). IsOrderedSoFar tells (come_to vsyncs actors) (shown_now now h)) (sym home) (by_outcome outcome steps.tries)
      where
        by_outcome : (to : Stepped) → Tries pictures (home_of before) steps.old (view_of before) steps.new (view_of after) to → IsOrderedSoFar tells (come_to vsyncs actors) (shown_now now (home_of before))
        by_outcome stepped.Done tries = did tells by now tries.0 some tries.1 so
        by_outcome stepped.NotYet tries = nothing tells by now some tries.same (tries.calls refl) tries.arrivals so
        by_outcome stepped.Ended tries =
            nothing tells by now some tries.0 (λ queue. ap (λ (v : DeskView B). v.calls queue) tries.1) (ap (λ (v : DeskView B). v.arrivals) tries.1) so

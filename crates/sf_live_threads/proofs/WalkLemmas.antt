-- A seated actor's walk, try by try.
use Rattle.std.proofs.Common.{◌≡◌, ◌==◌, ℕ, ◌+◌, ◌≤◌, List, [], ◌∷◌, length, sym, refl, ap, ◌∙◌, subst, arith, Ok, Err, Result}
use Rattle.std.specs.Prelude.{IfOk}
use Rattle.std.proofs.lemmas.Bool.{eq-eqb, eqb-true}
use Rattle.std.proofs.lemmas.List.{length-append, length-map, length-take}
use Rattle.atomic_table.specs.Seated.{TableId}
use Rattle.sf_picture.specs.declared.picture.Picture.{Picture}
use Rattle.sf_actor_steps.specs.sf_script_scene.declared.step.ActorScript.{ActorScript}
use Rattle.sf_actor_steps.specs.sf_actor.declared.tried.Stepped.{Stepped}
use Rattle.sf_actor_steps.specs.sf_actor.declared.tried.Stepped.TheVariants as stepped
use Rattle.sf_actor_steps.specs.sf_actor.Desks.{DeskHome, DeskView}
use Rattle.sf_actor_steps.specs.sf_actor.Scripts.{picture_at}
use Rattle.sf_actor_steps.specs.sf_actor.ScriptTraces.{step_done}
use Rattle.sf_actor_steps.specs.sf_actor.Tries.{ActorOf, Keeps, Tries}
use Rattle.sf_actor_steps.specs.Actors.{IsActor, Steps}
use Rattle.sf_actor_steps.specs.Playable.{MayPlay}
use Rattle.sf_actor_steps.specs.declared.actor.Actor.{Actor}
use Rattle.sf_live_seats.specs.declared.locks.Locks.{Locks}
use Rattle.sf_live_seats.specs.declared.seats.Seats.{Seats}
use Rattle.sf_live_seats.specs.Seats.{AreSeats, home_of, view_of}
use Rattle.sf_live_seats.specs.Shared.{IsHome, SharedOf}
use Rattle.sf_live_seats.specs.Shared as shared
use Rattle.sf_live_threads.specs.declared.seated_actor.SeatedActor.{SeatedActor}
use Rattle.sf_live_threads.specs.declared.gates.Gates.{Gates}
use Rattle.sf_live_threads.specs.SeatedActors.{MayTryNext, Came, TriesNext, Walks}
use Rattle.sf_live_threads.specs.Gates.{HasPassed, IsReady}
use Rattle.sf_live_threads.specs.Walks.{Begin, More}

module _ {B : Type 0} where
  -- the same caller's desk has the same home
  pub same_home : (locks : Locks B) (old new : Seats B) → new.by ≡ old.by → home_of locks new ≡ home_of locks old
  same_home locks old new same = ap (λ (n : ℕ). record (home_of locks old) { serves = λ by. by == n }) same

  -- a home that serves one caller alone tells which
  pub same_caller : (locks others : Locks B) (old new : Seats B) → home_of others new ≡ home_of locks old → new.by ≡ old.by
  same_caller locks others old new same =
      let serves : (new.by == new.by) ≡ (new.by == old.by) = ap (λ (h : DeskHome). h.serves new.by) same in
      eqb-true new.by old.by (sym serves ∙ eq-eqb new.by new.by refl)

module _ {B : Type 0} (table : TableId) (locks : Locks B) (pictures : List Picture) where
  pub came_none : (seated_actor : SeatedActor B) → MayTryNext table locks pictures seated_actor → Came table locks pictures seated_actor seated_actor
  came_none seated_actor may_try_next = record {
    may_try_next = may_try_next;
    script = refl;
    caller = refl;
    walks = λ of sound. record { new = of; sound = sound; walk = Begin };
  }

  pub came_more : (sent was now : SeatedActor B) (stepped : Stepped) → Came table locks pictures sent was → TriesNext table locks pictures was now stepped → Came table locks pictures sent now
  came_more sent was now stepped came did = record {
    may_try_next = did.may_try_next;
    script = did.script ∙ came.script;
    caller = did.caller ∙ came.caller;
    walks = λ of sound. further of (came.walks of sound);
  }
    where
      further : (of : ActorOf B) → Walks table locks pictures sent of was → Walks table locks pictures sent of now
      further of w =
          let s = did.steps w.new w.sound.is w.sound.keeps in record {
            new = s.new;
            sound = record {
              is = s.is;
              keeps = subst (λ (h : DeskHome). Keeps (picture_at pictures) h s.new (view_of now.seats)) (sym (same_home locks was.seats now.seats did.caller)) s.keeps;
            };
            walk = More w.walk record { own = did.may_try_next.own; caller = did.caller; stepped = stepped; steps = s; is = refl };
          }

module _ {B : Type 0} (table : TableId) (locks : Locks B) (pictures : List Picture) where
  pub came_ok : {E : Type 0} (sent was now : SeatedActor B) (tried : Result Stepped E) (stepped : Stepped) → tried ≡ Ok stepped → IfOk tried (TriesNext table locks pictures was now)
      → Came table locks pictures sent was → Came table locks pictures sent now
  came_ok {E} sent was now tried stepped is did came =
      came_more table locks pictures sent was now stepped came (subst (λ (r : Result Stepped E). IfOk r (TriesNext table locks pictures was now)) is did)

-- what a try leaves of an actor: no more steps than its script has, and as many replies as before or one more
module _ {B : Type 0} where
  pub within : (pictures : ℕ → Picture) (home : DeskHome) (of : ActorOf B) (view : DeskView B) → Keeps pictures home of view → length of.trace ≤ length of.script.steps
  within pictures home of view keeps =
      let first = keeps.kept.kept.is.first in
      let long = sym (length-map of.trace step_done) ∙ (ap length first ∙ length-take (length of.trace) of.script.steps) in
      omega arith

  pub unspent_still : (pictures : ℕ → Picture) (home : DeskHome) (old new : ActorOf B) (before after : DeskView B) (stepped : Stepped)
      → Tries pictures home old before new after stepped → new.spent ≡ old.spent
  unspent_still pictures home old new before after stepped.Done tries = ap (λ (a : ActorOf B). a.spent) tries.1.same
  unspent_still pictures home old new before after stepped.NotYet tries = ap (λ (a : ActorOf B). a.spent) tries.same
  unspent_still pictures home old new before after stepped.Ended tries = ap (λ (a : ActorOf B). a.spent) tries.0

  pub traces_on : (pictures : ℕ → Picture) (home : DeskHome) (old new : ActorOf B) (before after : DeskView B) (stepped : Stepped)
      → Tries pictures home old before new after stepped → (length old.trace ≤ length new.trace) × (length new.trace ≤ length old.trace + 1)
  traces_on pictures home old new before after stepped.Done tries =
      let long = ap length tries.1.trace in let more = length-append old.trace (tries.1.done ∷ []) in (omega arith, omega arith)
  traces_on pictures home old new before after stepped.NotYet tries = let same = ap (λ (a : ActorOf B). length a.trace) tries.same in (omega arith, omega arith)
  traces_on pictures home old new before after stepped.Ended tries = let same = ap (λ (a : ActorOf B). length a.trace) tries.0 in (omega arith, omega arith)

-- the gates that were passed before a try are still those of the steps that were tried
module _ {B : Type 0} where
  pub gates_kept : (table : TableId) (pictures : ℕ → Picture) (home : DeskHome) (was now : Actor B) (of : ActorOf B) (before after : DeskView B) (stepped : Stepped) (gates : Gates)
      → IsActor table was of → now.script ≡ was.script → IsReady was gates
      → Steps table pictures home was.bindings of before now after stepped → HasPassed now gates
  gates_kept table pictures home was now of before after stepped gates is script ready steps =
      let t = traces_on pictures home of steps.new before after stepped steps.tries in
      let w = within pictures home steps.new after steps.keeps in
      let a = is.trace in let b = steps.is.trace in
      let c = ap (λ (s : ActorScript). length s.steps) script in
      let d = ap (λ (s : ActorScript). length s.steps) steps.is.script in
      record {
        done = omega (arith, t.0, t.1);
        once = omega (arith, t.0, t.1);
        there = omega arith;
      }

module _ {B : Type 0} (table : TableId) (locks : Locks B) (pictures : List Picture) where
  -- a try over a desk of a seated actor's seats is one of the seated actor
  pub tries_next : (was now : SeatedActor B) (others : Locks B) (stepped : Stepped) → MayTryNext table locks pictures was
      → AreSeats table locks now.seats → home_of others now.seats ≡ home_of locks was.seats
      → now.actor.script ≡ was.actor.script → IsReady was.actor now.gates
      → ((of : ActorOf B) → IsActor table was.actor of → Keeps (picture_at pictures) (home_of locks was.seats) of (view_of was.seats)
      → Steps table (picture_at pictures) (home_of locks was.seats) was.actor.bindings of (view_of was.seats) now.actor (view_of now.seats) stepped)
      → TriesNext table locks pictures was now stepped
  tries_next was now others stepped may_try_next own home script ready steps =
      let caller : now.seats.by ≡ was.seats.by = same_caller locks others was.seats now.seats home in
      let homes : home_of locks was.seats ≡ home_of locks now.seats = sym (same_home locks was.seats now.seats caller) in
      let k = may_try_next.kept in
      let s = steps k.of k.is k.keeps in record {
        may_try_next = record {
          own = own;
          apart = λ zero. may_try_next.apart (sym caller ∙ zero);
          served = caller ∙ (may_try_next.served ∙ ap (λ (x : ActorScript). x.number) (sym script));
          plays = subst (λ (z : DeskHome × ActorScript). MayPlay z.0 pictures z.1) (λ i. (homes i, sym script i)) may_try_next.plays;
          kept = record { of = s.new; is = s.is; keeps = subst (λ (h : DeskHome). Keeps (picture_at pictures) h s.new (view_of now.seats)) homes s.keeps };
          unspent = sym s.is.spent ∙ (unspent_still (picture_at pictures) (home_of locks was.seats) k.of s.new (view_of was.seats) (view_of now.seats) stepped s.tries ∙ (k.is.spent ∙ may_try_next.unspent));
          gates = gates_kept table (picture_at pictures) (home_of locks was.seats) was.actor now.actor k.of (view_of was.seats) (view_of now.seats) stepped now.gates k.is script ready s;
        };
        script = script;
        caller = caller;
        steps = steps;
      }

  -- the same, of what a try over such a desk answered
  pub tried_ok : {E : Type 0} (was now : SeatedActor B) (old new : SharedOf B) (tried : Result Stepped E) → MayTryNext table locks pictures was
      → old ≡ record { locks = locks; seats = was.seats } → IsHome locks (shared.home_of old) → shared.home_of new ≡ shared.home_of old → now.seats ≡ new.seats
      → ((others : Locks B) → IsHome others (shared.home_of new) → AreSeats table others now.seats) → now.actor.script ≡ was.actor.script → IsReady was.actor now.gates
      → ((of : ActorOf B) → IsActor table was.actor of → Keeps (picture_at pictures) (shared.home_of old) of (shared.view_of old)
      → IfOk tried (Steps table (picture_at pictures) (shared.home_of old) was.actor.bindings of (shared.view_of old) now.actor (shared.view_of new)))
      → IfOk tried (TriesNext table locks pictures was now)
  tried_ok was now old new (Err e) may_try_next is home same seats own script ready steps = tt
  tried_ok was now old new (Ok stepped) may_try_next is home same seats own script ready steps =
      let homes : home_of locks was.seats ≡ shared.home_of old = ap (λ (d : SharedOf B). shared.home_of d) (sym is) in
      tries_next was now new.locks stepped may_try_next (own locks (subst (IsHome locks) (sym same) home))
      (ap (λ (s : Seats B). home_of new.locks s) seats ∙ (same ∙ sym homes)) script ready
      (λ of isa keeps. back of (steps of isa (forth of keeps)))
    where
      forth : (of : ActorOf B) → Keeps (picture_at pictures) (home_of locks was.seats) of (view_of was.seats) → Keeps (picture_at pictures) (shared.home_of old) of (shared.view_of old)
      forth of keeps = subst (λ (d : SharedOf B). Keeps (picture_at pictures) (shared.home_of d) of (shared.view_of d)) (sym is) keeps

      back : (of : ActorOf B) → Steps table (picture_at pictures) (shared.home_of old) was.actor.bindings of (shared.view_of old) now.actor (shared.view_of new) stepped
          → Steps table (picture_at pictures) (home_of locks was.seats) was.actor.bindings of (view_of was.seats) now.actor (view_of now.seats) stepped
      back of steps = subst (λ (s : Seats B). Steps table (picture_at pictures) (home_of locks was.seats) was.actor.bindings of (view_of was.seats) now.actor (view_of s) stepped) (sym seats)
          (subst (λ (d : SharedOf B). Steps table (picture_at pictures) (shared.home_of d) was.actor.bindings of (shared.view_of d) now.actor (shared.view_of new) stepped) is steps)

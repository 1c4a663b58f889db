-- The actors of a run in threads are together again over the desk that is left.
use Rattle.std.proofs.Common.{◌≡◌, ℕ, false, List, map, ap, ◌∙◌, refl, sym, subst}
use Rattle.atomic_table.specs.Seated.{TableId}
use Rattle.sf_picture.specs.declared.picture.Picture.{Picture}
use Rattle.sf_calls.specs.Histories.{IsLegal}
use Rattle.sf_live_compositor.specs.sf_surface.Histories.{Answers}
use Rattle.sf_live_compositor.specs.sf_surface.Tokens.{Issued, ReadLeaseOf}
use Rattle.sf_turns.specs.Views.{SeatView}
use Rattle.sf_live_compositor.specs.sf_txn.declared.lease.Lease.{Ghosts}
use Rattle.sf_live_compositor.specs.sf_actor.Desks.{KnowsAll, mark_among}
use Rattle.sf_live_compositor.specs.sf_actor.Plain.{PlainOf, home_of as plain_home, view_of as plain_view}
use Rattle.sf_live_compositor.specs.sf_actor_steps.declared.actor.Actor.{Actor}
use Rattle.sf_live_compositor.specs.sf_actor_set.ActorSets.{ActorSetOf, IsActorSet}
use Rattle.sf_script_scene.specs.Limits.{most_layers}
use Rattle.sf_live_compositor.specs.sf_live_seats.declared.locks.Locks.{Locks}
use Rattle.sf_live_compositor.specs.sf_live_threads.declared.all_returned.AllReturned.{AllReturned}
use Rattle.law_live_order.specs.law_joins.Joined.{IsJoined, actor_set_joined}
use Rattle.sf_live.specs.declared.threads.Joined.{Joined}
use Rattle.sf_live_compositor.specs.sf_live_threads.declared.gates.Gates.{Gates}
use Rattle.sf_live_compositor.specs.sf_live_threads.Gates.{HavePassed}
use Rattle.sf_live.specs.inner.Threads.{AreClosedTo, HasRun, IsTogether, RunOf, returned_actor, returned_gates}
use Rattle.sf_live.proofs.GateLemmas.{apart}
use Rattle.sf_live.proofs.ActorSetLemmas.{is_actor_set}

module _ {B : Type 0} (lease : Ghosts ReadLeaseOf SeatView ReadLeaseOf Issued) (table : TableId) (run : RunOf B) (locks : Locks B) (pictures : List Picture) (all_returned : AllReturned B)
    (h : HasRun lease table run locks pictures all_returned) (desk : PlainOf B) (closed : AreClosedTo locks all_returned.first desk) (knows : KnowsAll (plain_view desk))
    (legal : (queue : ℕ) → IsLegal (Answers (mark_among (plain_home desk).marks queue)) ((plain_view desk).calls queue)) (actors : List (Actor B)) (are : actors ≡ map returned_actor all_returned.returned.items) where
  abbrev actor_set : ActorSetOf B
  actor_set = record { pictures = pictures; actors = actors; desk = desk; is_spent = false }

  abbrev joined_is : IsJoined lease run.scene table run.scene.period (most_layers run.scene.version) locks run.last h.ends desk
  joined_is = record { joins = h.joins desk closed; knows = knows; legal = legal; same_period = refl; same_most = refl }

  actor_set_is : actor_set ≡ actor_set_joined run.scene h.ends desk
  actor_set_is = λ i. record { pictures = h.pictured i; actors = (are ∙ sym h.actors) i; desk = desk; is_spent = false }

  -- they are an actor set
  pub actor_set_there : IsActorSet table actor_set
  actor_set_there = subst (IsActorSet table) (sym actor_set_is) (is_actor_set lease run.scene table run.scene.period (most_layers run.scene.version) locks run.last h.ends desk joined_is)

  pub together : (joined : Joined B) → joined.actor_set ≡ actor_set → joined.gates.items ≡ map returned_gates all_returned.returned.items → IsTogether lease table run locks joined
  together joined is passed = record {
    few = h.few;
    ends = h.ends;
    desk = desk;
    is = joined_is;
    shows = h.shows desk closed;
    actor_set = is ∙ actor_set_is;
    gates = subst (λ (p : List (Actor B) × List Gates). HavePassed p.0 p.1) (λ i. ((sym are ∙ sym (ap (λ (s : ActorSetOf B). s.actors) is)) i, sym passed i)) (apart all_returned.returned.items h.gates);
  }

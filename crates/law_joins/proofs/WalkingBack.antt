-- Seated actors that came back of threads walked from where they were given seats.
use Rattle.std.proofs.Common.{◌≡◌, ℕ, List, [], ◌∷◌, take, drop, filter, refl, ap, sym, ◌∙◌, subst}
use Rattle.std.specs.List.{AllByRecursion, AllZip}
use Rattle.std.proofs.lemmas.List.Elements.{All-cons, All-nil}
use Rattle.atomic_table.specs.Seated.{TableId}
use Rattle.law_threads.specs.sf_surface.Histories.{Made}
use Rattle.law_threads.specs.sf_surface.Tokens.{ReadLeaseOf}
use Rattle.law_threads.specs.sf_token.Pending.{Arrival}
use Rattle.law_threads.specs.sf_script_scene.Scene.{SceneValue}
use Rattle.law_threads.specs.sf_script_scene.declared.step.ActorScript.{ActorScript}
use Rattle.law_threads.specs.sf_actor.Desks.{DeskHome, mark_among}
use Rattle.law_threads.specs.sf_actor.Known.{arrivals_told, is_sent_by, own_calls}
use Rattle.law_threads.specs.sf_actor.Holdings.{HoldingsOf}
use Rattle.law_threads.specs.sf_actor.Scripts.{picture_at}
use Rattle.law_threads.specs.sf_actor.Tries.{ActorOf, Keeps, dequeues_in}
use Rattle.law_threads.specs.sf_actor_set.Opening.{new_actors}
use Rattle.law_threads.proofs.sf_actor_steps_lemmas.NewLemmas.{new_keeps}
use Rattle.law_threads.specs.sf_actor_steps.Actors.{IsActor, IsNew, new_actor}
use Rattle.law_threads.specs.sf_actor_steps.Playable.{MayPlay}
use Rattle.law_threads.specs.sf_actor_steps.declared.actor.Actor.{Actor}
use Rattle.law_threads.specs.sf_live_seats.declared.locks.Locks.{Locks}
use Rattle.law_threads.specs.sf_live_seats.declared.seats.Seats.{Seats}
use Rattle.law_threads.specs.sf_live_seats.Seats.{home_of, marks_of, tells_of, view_of}
use Rattle.law_threads.specs.sf_live_threads.declared.seated_actor.SeatedActor.{SeatedActor}
use Rattle.law_threads.specs.sf_live_threads.Seating.{GetsSeats, IsNewcomer, home_for}
use Rattle.law_threads.specs.sf_live_threads.SeatedActors.{Came, moment_of}
use Rattle.law_threads.specs.sf_live_threads.Walks.{IsSound}
use Rattle.law_joins.specs.SeatedActors.{IsUnused, WalkedBack}
use Rattle.law_threads.specs.Joining.{HasNewSeats}

module _ {B : Type 0} (scene : SceneValue) (table : TableId) (locks : Locks B) (known : Seats B) where
  -- one that was given seats, whose actor had done nothing
  module _ (script : ActorScript) (stock : List ℕ) (actor : Actor B) (sent : SeatedActor B) (is : IsActor table actor (new_actor script stock)) (newcomer : IsNewcomer table locks scene.pictures known actor)
      (gets_seats : GetsSeats table locks known actor sent) (unused : IsUnused sent) where
    abbrev of : ActorOf B
    of = new_actor script stock

    same_actor : of ≡ new_actor actor.script newcomer.stock
    same_actor = λ i. new_actor {B = B} (is.script i) ((ap (λ (parts : HoldingsOf B). parts.stock) (is.parts ∙ sym newcomer.is.parts)) i)

    same_home : home_of locks sent.seats ≡ home_for locks actor.script.number
    same_home = ap (home_for locks) gets_seats.fresh.caller

    is_new : IsNew (home_of locks sent.seats) (view_of sent.seats) actor.script newcomer.stock
    is_new = record {
      no_calls = λ queue. subst (λ (calls : List (Made B)). own_calls actor.script.number (mark_among (marks_of locks) queue) calls ≡ []) (sym (gets_seats.fresh.knows.calls queue)) (newcomer.new.no_calls queue);
      no_arrivals = subst (λ (arrivals : List (Arrival ReadLeaseOf)). arrivals_told (tells_of locks) (filter (is_sent_by actor.script.number) arrivals) ≡ []) (sym gets_seats.fresh.knows.arrivals) newcomer.new.no_arrivals;
      once = newcomer.new.once;
      enough = newcomer.new.enough;
    }

    sound : IsSound table (picture_at scene.pictures) locks (moment_of sent of)
    sound = record {
      is = subst (λ (a : Actor B). IsActor table a of) (sym gets_seats.actor_is) is;
      keeps = subst (λ (o : ActorOf B). Keeps (picture_at scene.pictures) (home_of locks sent.seats) o (view_of sent.seats)) (sym same_actor)
          (new_keeps (picture_at scene.pictures) (home_of locks sent.seats) (view_of sent.seats) actor.script newcomer.stock is_new);
    }

    one_has_new_seats : HasNewSeats scene table locks (moment_of sent of)
    one_has_new_seats = record {
      sound = sound;
      own = gets_seats.own;
      served = gets_seats.fresh.caller ∙ sym (ap (λ (s : ActorScript). s.number) is.script);
      plays = subst (λ (home : DeskHome). MayPlay home scene.pictures script) (sym same_home) (subst (MayPlay (home_for locks actor.script.number) scene.pictures) (sym is.script) newcomer.plays);
      nothing = unused;
      signals = gets_seats.fresh.no_signals;
      leaves = gets_seats.fresh.no_leaves;
    }

  pub all_walked : (declared : List ActorScript) (stock : List ℕ) (actors : List (Actor B)) (sent back : List (SeatedActor B)) → AllZip (IsActor table) actors (new_actors declared stock)
      → AllByRecursion (IsNewcomer table locks scene.pictures known) actors → AllZip (GetsSeats table locks known) actors sent → AllByRecursion IsUnused sent → AllZip (Came table locks scene.pictures) sent back
      → WalkedBack scene table locks (new_actors declared stock) back
  all_walked [] stock [] [] [] are newcomers gets_seats unused came = record { starts = []; ends = []; new = refl; new_seats = All-nil (HasNewSeats scene table locks); came = tt; seats = refl; actors = refl }
  all_walked [] stock [] [] (b ∷ back) are newcomers gets_seats unused came = absurd came
  all_walked [] stock [] (s ∷ sent) back are newcomers gets_seats unused came = absurd gets_seats
  all_walked [] stock (a ∷ actors) sent back are newcomers gets_seats unused came = absurd are
  all_walked (script ∷ declared) stock [] sent back are newcomers gets_seats unused came = absurd are
  all_walked (script ∷ declared) stock (a ∷ actors) [] back are newcomers gets_seats unused came = absurd gets_seats
  all_walked (script ∷ declared) stock (a ∷ actors) (s ∷ sent) [] are newcomers gets_seats unused came = absurd came
  all_walked (script ∷ declared) stock (a ∷ actors) (s ∷ sent) (b ∷ back) are newcomers gets_seats unused came =
      let rest = all_walked declared (drop (dequeues_in script.steps) stock) actors sent back are.1 newcomers.1 gets_seats.1 unused.1 came.1 in
      let permits = take (dequeues_in script.steps) stock in
      let start = moment_of s (new_actor script permits) in
      let walks = came.0.walks (new_actor script permits) (sound script permits a s are.0 newcomers.0 gets_seats.0 unused.0) in
      record {
        starts = start ∷ rest.starts;
        ends = moment_of b walks.new ∷ rest.ends;
        new = ap (λ (ofs : List (ActorOf B)). new_actor script permits ∷ ofs) rest.new;
        new_seats = All-cons (HasNewSeats scene table locks) start rest.starts (one_has_new_seats script permits a s are.0 newcomers.0 gets_seats.0 unused.0) rest.new_seats;
        came = (record { sound = walks.sound; own = came.0.may_try_next.own; walk = walks.walk }, rest.came);
        seats = ap (λ (list : List (Seats B)). b.seats ∷ list) rest.seats;
        actors = ap (λ (list : List (Actor B)). b.actor ∷ list) rest.actors;
      }

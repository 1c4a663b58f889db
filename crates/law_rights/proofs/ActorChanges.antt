-- What an actor's try changes of a state, by what it changes of its actor.
use Rattle.std.proofs.Common.{◌≡◌, ℕ, ◌+◌, ◌<◌, List, [], ◌++◌, arith, ap, ◌∙◌, sym, subst, length, get_or, map}
use Rattle.std.specs.Prelude.{Contains}
use Rattle.std.specs.List.{flat_map, sum_by}
use Rattle.std.proofs.lemmas.List.{length-append, nil_from_length}
use Rattle.std.proofs.lemmas.List.Concat.{flat_map-append}
use Rattle.std.proofs.lemmas.List.Elements.{Contains-append_left}
use Rattle.std.proofs.lemmas.List.Sums.{sum_by-append, sum_by-set}
use Rattle.std.proofs.lemmas.Option.{get_or_from_slice_get, slice_get_within}
use Rattle.sf_actor_set.specs.sf_picture.declared.picture.Picture.{Picture}
use Rattle.sf_actor_set.specs.sf_script_scene.declared.step.Step.{Step}
use Rattle.sf_actor_set.specs.sf_surface.Tokens.{ReadLeaseOf}
use Rattle.sf_actor_set.specs.sf_token.Pending.{Arrival}
use Rattle.sf_actor_set.specs.sf_actor.Desks.{DeskHome}
use Rattle.sf_actor_set.specs.sf_actor.Holdings.{HoldingsOf}
use Rattle.sf_actor_set.specs.sf_actor.Tries.{ActorOf}
use Rattle.sf_actor_set.specs.sf_actor.Written as written
use Rattle.sf_actor_set.specs.sf_actor_steps.declared.bindings.Bindings.{Bindings}
use Rattle.sf_actor_set.specs.sf_actor_steps.declared.tried.Tried.{Tried}
use Rattle.sf_actor_set.specs.sf_actor_steps.Actors.{parts_of}
use Rattle.law_rights.specs.Makers.{RightAt, WriteAt, places_arrived, places_held, places_of, places_out, places_owed, right_read}
use Rattle.law_rights.specs.Moves.{AreIn, Gets}
use Rattle.law_rights.specs.States.{State, all_written}
use Rattle.law_rights.specs.Tries.{TriesIn}
use Rattle.law_rights.proofs.QueueCounts.{in_all}
use Rattle.law_rights.proofs.OwedDrawings.{gets_set, got_there, loses_set}
use Rattle.law_rights.proofs.ListSums.{sum-flat_map}

module _ {B : Type 0} (pictures : ℕ → Picture) (home : DeskHome) (place : ℕ) (s : Step) (came_to : Tried) (before after : Bindings B) (old new : State B) (tries : TriesIn pictures home place s came_to before after old new) where
  low : place < length old.actors
  low = slice_get_within old.actors place tries.was tries.here

  was_here : get_or old.actors place tries.was ≡ tries.was
  was_here = get_or_from_slice_get old.actors place tries.was tries.was tries.here

  -- what is counted of the rights of all actors
  actors_sum : (w : RightAt → ℕ) → sum_by w (flat_map (λ (a : ActorOf B). places_held a.parts) new.actors) + sum_by w (places_held (parts_of before)) ≡ sum_by w (flat_map (λ (a : ActorOf B). places_held a.parts) old.actors) + sum_by w (places_held (parts_of after))
  actors_sum w =
      let f = λ (a : ActorOf B). sum_by w (places_held a.parts) in
      let a = sum-flat_map w (λ (x : ActorOf B). places_held x.parts) new.actors in
      let b = sum-flat_map w (λ (x : ActorOf B). places_held x.parts) old.actors in
      let c = sum_by-set f old.actors place tries.is tries.was low in
      let d = ap (sum_by f) tries.actors in
      let e = ap f was_here in
      let p = ap (λ (parts : HoldingsOf B). sum_by w (places_held parts)) tries.parts_was in
      let q = ap (λ (parts : HoldingsOf B). sum_by w (places_held parts)) tries.parts_is in
      omega (arith, a, b, c, d, e, p, q)

  -- and of all that are held
  pub held_sum : (w : RightAt → ℕ) → sum_by w (places_out new) + sum_by w (places_held (parts_of before)) ≡ (sum_by w (places_out old) + sum_by w (places_held (parts_of after))) + sum_by w (flat_map places_arrived tries.sends)
  held_sum w =
      let actors = actors_sum w in
      let waits = ap (λ (xs : List (Arrival ReadLeaseOf)). sum_by w (flat_map places_arrived xs)) tries.waiting ∙ ap (sum_by w) (flat_map-append places_arrived old.waiting tries.sends) in
      let joined = sum_by-append w (flat_map places_arrived old.waiting) (flat_map places_arrived tries.sends) in
      let on = ap (λ (xs : List ReadLeaseOf). sum_by w (map right_read xs)) tries.on in
      let a = sum_by-append w (flat_map (λ (x : ActorOf B). places_held x.parts) new.actors ++ flat_map places_arrived new.waiting) (map right_read new.on) in
      let b = sum_by-append w (flat_map (λ (x : ActorOf B). places_held x.parts) new.actors) (flat_map places_arrived new.waiting) in
      let c = sum_by-append w (flat_map (λ (x : ActorOf B). places_held x.parts) old.actors ++ flat_map places_arrived old.waiting) (map right_read old.on) in
      let d = sum_by-append w (flat_map (λ (x : ActorOf B). places_held x.parts) old.actors) (flat_map places_arrived old.waiting) in
      omega (arith, actors, waits, joined, on, a, b, c, d)

  -- nothing is sent where nothing arrived
  pub none_sent : new.view.arrivals ≡ old.view.arrivals → tries.sends ≡ []
  none_sent same =
      let sum = length-append old.view.arrivals tries.sends in
      let more = ap (λ (xs : List (Arrival ReadLeaseOf)). length xs) (sym tries.sent ∙ same) in
      nil_from_length tries.sends (omega (arith, sum, more))

  actors_get : {A : Type 0} (f : ActorOf B → List A) (more : List A) → Gets (f tries.was) more (f tries.is) → Gets (flat_map f old.actors) more (flat_map f new.actors)
  actors_get {A} f more gets = subst (λ (xs : List (ActorOf B)). Gets (flat_map f old.actors) more (flat_map f xs)) (sym tries.actors)
      (gets_set f more old.actors place tries.was tries.is low (subst (λ (a : ActorOf B). Gets (f a) more (f tries.is)) (sym was_here) gets))

  pub owed_get : (more : List WriteAt) → Gets (places_owed (parts_of before)) more (places_owed (parts_of after)) → Gets (places_of old).owed more (places_of new).owed
  owed_get more gets = actors_get (λ (a : ActorOf B). places_owed a.parts) more
      (subst (λ (parts : HoldingsOf B). Gets (places_owed parts) more (places_owed tries.is.parts)) (sym tries.parts_was) (subst (λ (parts : HoldingsOf B). Gets (places_owed (parts_of before)) more (places_owed parts)) (sym tries.parts_is) gets))

  pub owed_lose : (less : List WriteAt) → AreIn (places_owed (parts_of after)) (places_owed (parts_of before)) → AreIn (places_owed (parts_of before)) (less ++ places_owed (parts_of after)) → AreIn (places_of new).owed (places_of old).owed × AreIn (places_of old).owed (less ++ (places_of new).owed)
  owed_lose less fewer lost = subst (λ (xs : List (ActorOf B)). AreIn (flat_map f xs) (places_of old).owed × AreIn (places_of old).owed (less ++ flat_map f xs)) (sym tries.actors)
      (loses_set f less old.actors place tries.was tries.is low
      (subst (λ (xs : List WriteAt). AreIn (f tries.is) xs) (sym was_owes) (subst (λ (xs : List WriteAt). AreIn xs (places_owed (parts_of before))) (sym is_owes) fewer))
      (subst (λ (xs : List WriteAt). AreIn xs (less ++ f tries.is)) (sym was_owes) (subst (λ (xs : List WriteAt). AreIn (places_owed (parts_of before)) (less ++ xs)) (sym is_owes) lost)))
    where
      f : ActorOf B → List WriteAt
      f a = places_owed a.parts

      was_owes : f (get_or old.actors place tries.was) ≡ places_owed (parts_of before)
      was_owes = ap (λ (a : ActorOf B). places_owed a.parts) was_here ∙ ap places_owed tries.parts_was

      is_owes : f tries.is ≡ places_owed (parts_of after)
      is_owes = ap places_owed tries.parts_is

  pub written_get : (more : List written.FrameNumber) → Gets (written.written_in tries.was.trace) more (written.written_in tries.is.trace) → Gets (all_written old) more (all_written new)
  written_get more gets = actors_get (λ (a : ActorOf B). written.written_in a.trace) more gets

  -- what the actor held is held
  pub held_there : (turn : RightAt) → Contains (places_held (parts_of before)) turn → Contains (places_out old) turn
  held_there turn there = Contains-append_left (flat_map (λ (a : ActorOf B). places_held a.parts) old.actors ++ flat_map places_arrived old.waiting) (map right_read old.on) turn
      (Contains-append_left (flat_map (λ (a : ActorOf B). places_held a.parts) old.actors) (flat_map places_arrived old.waiting) turn
      (in_all (λ (a : ActorOf B). places_held a.parts) old.actors tries.was turn
      (subst (Contains old.actors) was_here (got_there old.actors place tries.was low))
      (subst (λ (parts : HoldingsOf B). Contains (places_held parts) turn) (sym tries.parts_was) there)))

  pub owed_there : (write : WriteAt) → Contains (places_owed (parts_of before)) write → Contains (places_of old).owed write
  owed_there write there = in_all (λ (a : ActorOf B). places_owed a.parts) old.actors tries.was write
      (subst (Contains old.actors) was_here (got_there old.actors place tries.was low))
      (subst (λ (parts : HoldingsOf B). Contains (places_owed parts) write) (sym tries.parts_was) there)

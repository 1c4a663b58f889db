-- What holds of the places of rights and writes holds of the rights and writes; and what no call changed rests.
use Rattle.std.proofs.Common.{◌≡◌, ℕ, List, [], ◌∷◌, ◌++◌, map, arith, ap, ◌∙◌, sym, refl, inl, inr, subst, Option, Some, None}
use Rattle.std.specs.Prelude.{Contains}
use Rattle.std.specs.List.{flat_map, sum_by}
use Rattle.std.proofs.lemmas.List.Elements.{Contains-append_cases, Contains-append_left, Contains-append_right}
use Rattle.std.proofs.lemmas.List.Sums.{sum_by-append, sum_by-cons}
use Rattle.sf_actor_set.specs.sf_script_scene.declared.step.Step.{Step}
use Rattle.sf_actor_set.specs.sf_surface.declared.call.Gives.{Gives}
use Rattle.sf_actor_set.specs.sf_surface.declared.call.Gives.TheVariants as gives
use Rattle.sf_actor_set.specs.sf_surface.declared.call.QCall.{QCall}
use Rattle.sf_actor_set.specs.sf_surface.declared.call.QCall.TheVariants as call
use Rattle.sf_actor_set.specs.sf_surface.declared.mark.QueueMark.{QueueMark}
use Rattle.sf_actor_set.specs.sf_surface.Histories.{Made}
use Rattle.sf_actor_set.specs.sf_actor.declared.holding.Holding.{Holding}
use Rattle.sf_actor_set.specs.sf_actor.declared.holding.Holding.TheVariants as holding
use Rattle.sf_actor_set.specs.sf_actor.Makers.{BufferOf}
use Rattle.sf_actor_set.specs.sf_actor.Rights.{Turn}
use Rattle.sf_actor_set.specs.sf_actor.Tries.{ActorOf}
use Rattle.sf_actor_set.specs.sf_actor_steps.declared.bindings.Bindings.{Bindings}
use Rattle.sf_actor_set.specs.sf_actor_steps.Bindings.{holdings_of}
use Rattle.law_played.proofs.Members.{has_map, map_has}
use Rattle.law_rights.specs.Calls.{brought_rights, given_rights}
use Rattle.law_rights.specs.Ledgers.{IsLedger, Write}
use Rattle.law_rights.specs.MakerCalls.{brought_at, given_at}
use Rattle.law_rights.specs.Makers.{RightAt, WriteAt, place_owed, places_lying, places_of, places_out, places_owed, places_written}
use Rattle.law_rights.specs.Moves.{AreIn, Gets, HasAtMost}
use Rattle.law_rights.specs.Places.{RestsAt, WasAt}
use Rattle.law_rights.specs.PlaceTries.{PlacesGo}
use Rattle.law_rights.specs.States.{State, all_buffers, all_owed, ledger_of, owed_of, rights_held, write_owed}
use Rattle.law_rights.proofs.MakersStepping.{counted_at, found_right, is_right}
use Rattle.law_rights.proofs.MakersTurns.{all_joined, joined, turn_at, turns_out, write_at}

-- what is counted of items that are read off others
pub sum_read : {A C : Type 0} (g : A → C) (w : C → ℕ) (xs : List A) → sum_by w (map g xs) ≡ sum_by (λ (x : A). w (g x)) xs
sum_read g w [] = refl
sum_read {A} g w (x ∷ xs) =
    let rest = sum_read g w xs in
    let a = sum_by-cons w (g x) (map g xs) in
    let b = sum_by-cons (λ (y : A). w (g y)) x xs in
    omega (arith, rest, a, b)

-- and which of them there are
pub in_read : {A C : Type 0} (g : A → C) (xs ys : List A) → AreIn xs ys → AreIn (map g xs) (map g ys)
in_read {A} {C} g xs ys are y there =
    let found = map_has g xs y there in
    subst (λ (z : C). Contains (map g ys) z) found.2 (has_map g ys found.0 (are found.0 found.1))

pub gets_read : {A C : Type 0} (g : A → C) (xs more ys : List A) → Gets xs more ys → Gets (map g xs) (map g more) (map g ys)
gets_read {A} {C} g xs more ys gets = record {
  no_others = λ y there. subst (λ (zs : List C). Contains zs y) (joined g more xs) (in_read g ys (more ++ xs) gets.no_others y there);
  all = λ y there. in_read g (more ++ xs) ys gets.all y (subst (λ (zs : List C). Contains zs y) (sym (joined g more xs)) there);
}

module _ {B : Type 0} where
  -- the rights that a call brings and that a reply gives
  pub brought_turns : (from : BufferOf) (asked : QCall B) → map turn_at (brought_at from asked) ≡ brought_rights asked
  brought_turns from call.Connect = refl
  brought_turns from asked = refl

  pub given_turns : (from : BufferOf) (asked : QCall B) (given : Gives B) → map turn_at (given_at from asked given) ≡ given_rights given
  given_turns from asked (gives.Write lease) = refl
  given_turns from asked (gives.Read lease) = refl
  given_turns from asked (gives.Free loose) = refl
  given_turns from asked given = refl

  -- what is counted of all rights out of queues, and of those that a call brings and a reply gives
  pub out_sum : (w : Turn → ℕ) (st : State B) → sum_by w (rights_held st) ≡ sum_by (λ (right : RightAt). w right.turn) (places_out st)
  out_sum w st = ap (sum_by w) (sym (turns_out st)) ∙ sum_read turn_at w (places_out st)

  pub held_turns : (old new : State B) (from : BufferOf) (asked : QCall B) (given : Gives B) → HasAtMost (places_out old ++ given_at from asked given) (brought_at from asked) [] (places_out new)
      → HasAtMost (rights_held old ++ given_rights given) (brought_rights asked) [] (rights_held new)
  held_turns old new from asked given most w =
      let v : RightAt → ℕ = λ (right : RightAt). w right.turn in
      let places = most v in
      let a = out_sum w old in
      let b = out_sum w new in
      let c = sum_by-append w (rights_held old) (given_rights given) in
      let d = sum_by-append v (places_out old) (given_at from asked given) in
      let e = ap (sum_by w) (sym (given_turns from asked given)) ∙ sum_read turn_at w (given_at from asked given) in
      let f = ap (sum_by w) (sym (brought_turns from asked)) ∙ sum_read turn_at w (brought_at from asked) in
      omega (arith, places, a, b, c, d, e, f)

  pub rest_turns : (old new : State B) → HasAtMost (places_out old) [] [] (places_out new) → HasAtMost (rights_held old) [] [] (rights_held new)
  rest_turns old new most w =
      let places = most (λ (right : RightAt). w right.turn) in
      let a = out_sum w old in
      let b = out_sum w new in
      omega (arith, places, a, b)

  pub brought_held : (st : State B) (from : BufferOf) (asked : QCall B) → AreIn (brought_at from asked) (places_out st) → AreIn (brought_rights asked) (rights_held st)
  brought_held st from asked are turn there =
      subst (λ (xs : List Turn). Contains xs turn) (turns_out st)
      (in_read turn_at (brought_at from asked) (places_out st) are turn (subst (λ (xs : List Turn). Contains xs turn) (sym (brought_turns from asked)) there))

  -- the writes that are owed
  owed_name : (held : Option (Holding B)) → map write_at (place_owed held) ≡ write_owed held
  owed_name None = refl
  owed_name (Some (holding.Lends lease)) = refl
  owed_name (Some (holding.Owes owing held)) = refl
  owed_name (Some (holding.Reads lease)) = refl
  owed_name (Some (holding.Frees queue loose)) = refl

  pub owed_writes : (st : State B) → map write_at (places_of st).owed ≡ all_owed st
  owed_writes st = all_joined write_at (λ (actor : ActorOf B). places_owed actor.parts) (λ (actor : ActorOf B). owed_of actor.parts) (λ (actor : ActorOf B). all_joined write_at place_owed write_owed owed_name actor.parts.names) st.actors

  pub owed_gets : (old new : State B) (more : List WriteAt) → Gets (places_of old).owed more (places_of new).owed → Gets (all_owed old) (map write_at more) (all_owed new)
  owed_gets old new more gets =
      subst (λ (xs : List Write). Gets xs (map write_at more) (all_owed new)) (owed_writes old)
      (subst (λ (xs : List Write). Gets (map write_at (places_of old).owed) (map write_at more) xs) (owed_writes new) (gets_read write_at (places_of old).owed more (places_of new).owed gets))

  pub owed_in : (old new : State B) (more : List WriteAt) → AreIn (places_of new).owed (more ++ (places_of old).owed) → AreIn (all_owed new) (map write_at more ++ all_owed old)
  owed_in old new more are =
      subst (λ (xs : List Write). AreIn (all_owed new) xs) (joined write_at more (places_of old).owed ∙ ap (λ (xs : List Write). map write_at more ++ xs) (owed_writes old))
      (subst (λ (xs : List Write). AreIn xs (map write_at (more ++ (places_of old).owed))) (owed_writes new) (in_read write_at (places_of new).owed (more ++ (places_of old).owed) are))

  -- what the calls on all queues tell of, where they are the same
  same_told : {A : Type 0} (tells : QueueMark → List (Made B) → List A) (old new : State B) → new.marks ≡ old.marks → new.view.calls ≡ old.view.calls
      → flat_map (λ (m : QueueMark). tells m (new.view.calls m.queue.0)) new.marks ≡ flat_map (λ (m : QueueMark). tells m (old.view.calls m.queue.0)) old.marks
  same_told tells old new marks calls = λ i. flat_map (λ (m : QueueMark). tells m (calls i m.queue.0)) (marks i)

  -- no call was made, and what lies elsewhere lay there
  pub rests_at : (old new : State B) → new.marks ≡ old.marks → new.view.calls ≡ old.view.calls → ((right : RightAt) → Contains (places_out new) right → (was : RightAt) × Contains (places_out old) was × (was.turn.0 ≡ right.turn.0) × (was.at ≡ right.at))
      → AreIn (places_of new).owed (places_of old).owed → RestsAt (places_of old) (places_of new)
  rests_at old new marks calls out owed = record {
    live = live;
    owed = owed;
    queued = subst (λ (xs : List WriteAt). Gets (places_of old).queued [] xs) (sym (same_told places_written old new marks calls)) (record { no_others = λ x there. there; all = λ x there. there });
    made = subst (λ (xs : List ℕ). AreIn xs (places_of old).made) (sym made) (λ x there. there);
  }
    where
      made : (places_of new).made ≡ (places_of old).made
      made = λ i. all_buffers (marks i) (calls i)

      lies_old : List RightAt
      lies_old = flat_map (λ (m : QueueMark). places_lying m (old.view.calls m.queue.0)) old.marks

      live : (right : RightAt) → Contains (places_of new).live right → WasAt (places_of old) right
      live right there = elim (Contains-append_cases (flat_map (λ (m : QueueMark). places_lying m (new.view.calls m.queue.0)) new.marks) (places_out new) right there) [
        | inl lies ↦ (right, Contains-append_left lies_old (places_out old) right (subst (λ (xs : List RightAt). Contains xs right) (same_told places_lying old new marks calls) lies), refl, refl)
        | inr held ↦
            let was = out right held in
            (was.0, Contains-append_right lies_old (places_out old) was.0 was.1, was.2, was.3)
      ]

  pub most_there : (old new : State B) → HasAtMost (places_out old) [] [] (places_out new) → (right : RightAt) → Contains (places_out new) right → Contains (places_out old) right
  most_there old new most right there =
      let count = counted_at right (places_out new) there in
      let sums = most (is_right right) in
      found_right right (places_out old) (omega (arith, count, sums))

  pub most_rests : (old new : State B) → new.marks ≡ old.marks → new.view.calls ≡ old.view.calls → HasAtMost (places_out old) [] [] (places_out new) → AreIn (places_of new).owed (places_of old).owed
      → RestsAt (places_of old) (places_of new)
  most_rests old new marks calls most owed = rests_at old new marks calls (λ right there. (right, most_there old new most right there, refl, refl)) owed

  -- a try did this: the ledger stays one, and rights go where it is told
  pub record Went (s : Step) (before : Bindings B) (number : ℕ) (old new : State B) : Type 0 where
    pub ledger : IsLedger (ledger_of new)
    pub places : PlacesGo (holdings_of before) s before.by.0 number old new

  pub rests_went : (s : Step) (before : Bindings B) (number : ℕ) (old new : State B) → new.marks ≡ old.marks → new.view.calls ≡ old.view.calls → HasAtMost (places_out old) [] [] (places_out new)
      → AreIn (places_of new).owed (places_of old).owed → IsLedger (ledger_of new) → Went s before number old new
  rests_went s before number old new marks calls most owed is = record {
    ledger = is;
    places = inr (record {
      mid = new;
      rests = record { marks = marks; calls = calls; places = most_rests old new marks calls most owed; ledger = is };
      leases = [];
      returns = refl;
    });
  }

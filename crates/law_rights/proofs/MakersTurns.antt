-- The places of a state are those of the rights and writes of its ledger.
use Rattle.std.proofs.Common.{◌≡◌, Bool, true, false, List, [], ◌∷◌, ◌++◌, map, ap, ◌∙◌, refl, Option, Some, None}
use Rattle.std.specs.Prelude.{if◌then◌else◌}
use Rattle.std.specs.List.{flat_map, range_with_len}
use Rattle.sf_base.specs.declared.ids.QueueId.{QueueId}
use Rattle.sf_slots.specs.declared.calls.PlainReply.{PlainReply}
use Rattle.sf_slots.specs.declared.calls.PlainReply.TheVariants as plain
use Rattle.sf_slots.specs.History.{events}
use Rattle.sf_actor_set.specs.sf_surface.declared.call.QCall.{QCall}
use Rattle.sf_actor_set.specs.sf_surface.declared.call.QCall.TheVariants as call
use Rattle.sf_actor_set.specs.sf_surface.declared.mark.QueueMark.{QueueMark}
use Rattle.sf_actor_set.specs.sf_surface.Histories.{Left, Made, last_left, told, told_reply}
use Rattle.sf_actor_set.specs.sf_surface.Tokens.{ReadLeaseOf}
use Rattle.sf_actor_set.specs.sf_token.Pending.{Arrival}
use Rattle.sf_actor_set.specs.sf_txn.Buffers.{Buffer}
use Rattle.sf_actor_set.specs.sf_txn.Transactions.{Contents}
use Rattle.sf_actor_set.specs.sf_actor.declared.holding.Holding.{Holding}
use Rattle.sf_actor_set.specs.sf_actor.declared.holding.Holding.TheVariants as holding
use Rattle.sf_actor_set.specs.sf_actor.Holdings.{HoldingsOf}
use Rattle.sf_actor_set.specs.sf_actor.Rights.{Turn}
use Rattle.sf_actor_set.specs.sf_actor.Tries.{ActorOf}
use Rattle.law_rights.specs.Calls.{write_of, writes_in}
use Rattle.law_rights.specs.Ledgers.{Write}
use Rattle.law_rights.specs.Makers.{RightAt, WriteAt, place_left, place_lying, place_of, place_written, places_arrived, places_held, places_in, places_lying, places_of, places_out, places_sent, places_written, right_read, right_shown}
use Rattle.law_rights.specs.Slots.{is_home_after, lying, lying_in, turn_left}
use Rattle.law_rights.specs.States.{State, buffer_turn, ledger_of, lease_turn, right_of, rights_arrived, rights_held, rights_in, rights_of, rights_sent}

-- what is read off each item of two lists, and of lists of items
pub joined : {A C : Type 0} (g : A → C) (xs ys : List A) → map g (xs ++ ys) ≡ map g xs ++ map g ys
joined g [] ys = refl
joined {A} {C} g (x ∷ xs) ys = ap (λ (zs : List C). g x ∷ zs) (joined g xs ys)

pub all_joined : {X A C : Type 0} (g : A → C) (f : X → List A) (h : X → List C) → ((x : X) → map g (f x) ≡ h x) → (xs : List X) → map g (flat_map f xs) ≡ flat_map h xs
all_joined g f h each [] = refl
all_joined {X} {A} {C} g f h each (x ∷ xs) =
    joined g (f x) (flat_map f xs) ∙ ap (λ (zs : List C). zs ++ map g (flat_map f xs)) (each x) ∙ ap (λ (zs : List C). h x ++ zs) (all_joined g f h each xs)

each_read : {X A C : Type 0} (g : A → C) (f : X → A) (h : X → C) → ((x : X) → g (f x) ≡ h x) → (xs : List X) → map g (map f xs) ≡ map h xs
each_read g f h each [] = refl
each_read {X} {A} {C} g f h each (x ∷ xs) = ap (λ (c : C). c ∷ map g (map f xs)) (each x) ∙ ap (λ (zs : List C). h x ∷ zs) (each_read g f h each xs)

two_joined : {C : Type 0} (a b c d : List C) → a ≡ c → b ≡ d → a ++ b ≡ c ++ d
two_joined {C} a b c d e f = ap (λ (xs : List C). xs ++ b) e ∙ ap (λ (xs : List C). c ++ xs) f

abbrev pub turn_at : RightAt → Turn
turn_at right = right.turn

abbrev pub write_at : WriteAt → Write
write_at write = write.write

turns_left : (mark : QueueMark) (home : Bool) (left : Option Left) → map turn_at (if home then place_left mark left else []) ≡ (if home then turn_left left else [])
turns_left mark false left = refl
turns_left mark true None = refl
turns_left mark true (Some left) = refl

turns_sent : (txn : Contents ReadLeaseOf) → map turn_at (places_sent txn) ≡ rights_sent txn
turns_sent txn = each_read turn_at right_shown buffer_turn (λ (buffer : Buffer ReadLeaseOf). refl) txn.buffers

turns_in : (txn : Option (Contents ReadLeaseOf)) → map turn_at (places_in txn) ≡ rights_in txn
turns_in None = refl
turns_in (Some txn) = turns_sent txn

module _ {B : Type 0} where
  turns_lying : (mark : QueueMark) (calls : List (Made B)) → map turn_at (places_lying mark calls) ≡ lying mark calls
  unfolding places_lying lying
  turns_lying mark calls = all_joined turn_at (place_lying mark calls) (lying_in mark calls) (λ s. turns_left mark (is_home_after (events (told mark calls)) s) (last_left calls s)) (range_with_len 0 64)

  turn_of_name : (held : Option (Holding B)) → map turn_at (place_of held) ≡ right_of held
  turn_of_name None = refl
  turn_of_name (Some (holding.Lends lease)) = refl
  turn_of_name (Some (holding.Owes owing held)) = refl
  turn_of_name (Some (holding.Reads lease)) = refl
  turn_of_name (Some (holding.Frees queue loose)) = refl

  turns_held : (parts : HoldingsOf B) → map turn_at (places_held parts) ≡ rights_of parts
  turns_held parts =
      joined turn_at (flat_map place_of parts.names) (flat_map places_in parts.transactions)
      ∙ two_joined _ _ _ _ (all_joined turn_at place_of right_of turn_of_name parts.names) (all_joined turn_at places_in rights_in turns_in parts.transactions)

  pub turns_out : (state : State B) → map turn_at (places_out state) ≡ rights_held state
  turns_out state =
      let actors = flat_map (λ (actor : ActorOf B). places_held actor.parts) state.actors in
      let waiting = flat_map places_arrived state.waiting in
      joined turn_at (actors ++ waiting) (map right_read state.on)
      ∙ two_joined _ _ _ _
      (joined turn_at actors waiting
      ∙ two_joined _ _ _ _ (all_joined turn_at (λ (actor : ActorOf B). places_held actor.parts) (λ (actor : ActorOf B). rights_of actor.parts) (λ (actor : ActorOf B). turns_held actor.parts) state.actors)
      (all_joined turn_at places_arrived rights_arrived (λ (arrived : Arrival ReadLeaseOf). turns_sent arrived.txn) state.waiting))
      (each_read turn_at right_read lease_turn (λ (lease : ReadLeaseOf). refl) state.on)

  pub turns_of : (state : State B) → map turn_at (places_of state).live ≡ (ledger_of state).live
  turns_of state =
      joined turn_at (flat_map (λ (mark : QueueMark). places_lying mark (state.view.calls mark.queue.0)) state.marks) (places_out state)
      ∙ two_joined _ _ _ _
      (all_joined turn_at (λ (mark : QueueMark). places_lying mark (state.view.calls mark.queue.0)) (λ (mark : QueueMark). lying mark (state.view.calls mark.queue.0)) (λ (mark : QueueMark). turns_lying mark (state.view.calls mark.queue.0)) state.marks)
      (turns_out state)

  pub write_told : (queue : QueueId) (asked : QCall B) (answered : PlainReply) → map write_at (place_written queue asked answered) ≡ write_of queue asked answered
  write_told queue (call.Queue lease picture time crop fence) (plain.Queued frame) = refl
  write_told queue asked answered = refl

  writes_told : (mark : QueueMark) (calls : List (Made B)) → map write_at (places_written mark calls) ≡ writes_in mark calls
  writes_told mark [] = refl
  writes_told mark (made ∷ earlier) =
      joined write_at (place_written mark.queue made.call.1 (told_reply mark earlier made.by made.call.1)) (places_written mark earlier)
      ∙ two_joined _ _ _ _ (write_told mark.queue made.call.1 (told_reply mark earlier made.by made.call.1)) (writes_told mark earlier)

  pub writes_of : (state : State B) → map write_at (places_of state).queued ≡ (ledger_of state).queued
  writes_of state =
      all_joined write_at (λ (mark : QueueMark). places_written mark (state.view.calls mark.queue.0)) (λ (mark : QueueMark). writes_in mark (state.view.calls mark.queue.0)) (λ (mark : QueueMark). writes_told mark (state.view.calls mark.queue.0)) state.marks

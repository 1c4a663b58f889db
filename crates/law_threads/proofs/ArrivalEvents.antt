-- What an actor sent is put among the arrivals: it was on its way, and waits now.
use Rattle.std.proofs.Common.{◌≡◌, ℕ, suc, ◌+◌, List, [], ◌∷◌, ◌++◌, arith, ap, ◌∙◌, sym, refl, subst, length, map}
use Rattle.std.specs.List.{flat_map, sum_by}
use Rattle.std.proofs.lemmas.List.Sums.{sum_by-append}
use Rattle.law_draws.specs.sf_calls.declared.object.Entry.{Entry}
use Rattle.law_draws.specs.sf_surface.Tokens.{Issued, ReadLeaseOf}
use Rattle.law_draws.specs.sf_token.Arrivals.{sent, waiting}
use Rattle.law_draws.specs.sf_token.declared.arrivals.ArriveCall.{ArriveCall}
use Rattle.law_draws.specs.sf_token.declared.arrivals.ArriveCall.TheVariants as arrive
use Rattle.law_draws.specs.sf_token.declared.arrivals.ArriveReply.{ArriveReply}
use Rattle.law_draws.specs.sf_token.Pending.{Arrival}
use Rattle.sf_turns.specs.Views.{SeatView}
use Rattle.law_draws.specs.sf_txn.Transactions.{Contents}
use Rattle.law_draws.specs.sf_actor.Tries.{ActorOf}
use Rattle.law_draws.specs.law_rights.Ledgers.{IsLedger}
use Rattle.law_draws.specs.law_rights.Makers.{RightAt, places_arrived, places_held, places_out, places_owed, right_read}
use Rattle.law_draws.specs.law_rights.Moves.{AreIn, Gets, HasAtMost}
use Rattle.law_draws.specs.law_rights.PlaceTries.{RestsIn}
use Rattle.law_draws.specs.law_rights.States.{State, all_owed, all_written, ledger_of}
use Rattle.law_draws.proofs.law_rights_lemmas.OwedDrawings.{gets_same}
use Rattle.law_draws.proofs.law_rights_lemmas.PlaceChanges.{most_rests, rest_turns}
use Rattle.law_draws.proofs.law_rights_lemmas.SilentSteps.{quiet_keeps}
use Rattle.law_threads.specs.Cuts.{GoesForward, Local, Whole, front, state_at}
use Rattle.law_threads.specs.Orders.{raised}
use Rattle.law_threads.proofs.CallLift.{front_after, front_before}
use Rattle.law_threads.proofs.Locals.{parted, same_at}
use Rattle.law_threads.proofs.SendLift.{arrivals_sum, suc_apart}

abbrev ArriveEntry : Type 0
ArriveEntry = Entry (ArriveCall ReadLeaseOf SeatView ReadLeaseOf Issued) (ArriveReply ReadLeaseOf SeatView ReadLeaseOf Issued)

-- each transaction that is sent goes forward from its way to the arrivals
abbrev pub SendsGoForward : {B : Type 0} → Whole B → (State B → Type 0) → Type 0
SendsGoForward whole Holds =
    (more history : List ArriveEntry) (e : ArriveEntry) → whole.arriving ≡ more ++ e ∷ history → (step : ℕ) (txn : Contents ReadLeaseOf) → e.call ≡ arrive.Send step txn
    → GoesForward whole Holds (record { number = length (sent history) + 1; actor = record { 0 = e.by }; step = step; txn = txn }) (0, length history)

module _ {B : Type 0} (whole : Whole B) (Holds : State B → Type 0)
    (rests : (old new : State B) → old.marks ≡ whole.marks → new.actors ≡ old.actors → (IsLedger (ledger_of old) → RestsIn old new) → Holds old → Holds new)
    (more history : List ArriveEntry) (e : ArriveEntry) (whole_is : whole.arriving ≡ more ++ e ∷ history) (step : ℕ) (txn : Contents ReadLeaseOf) (sends : e.call ≡ arrive.Send step txn) where
  -- the arrival that the call makes of it
  abbrev pub one : Arrival ReadLeaseOf
  one = record { number = length (sent history) + 1; actor = record { 0 = e.by }; step = step; txn = txn }

  module _ (others later : List (Local B)) (local : Local B) (earlier rest : List (Arrival ReadLeaseOf)) (heights : ℕ → ℕ) (next : length history ≡ heights 0) where
    abbrev was : Local B
    was = record local { pending = earlier ++ one ∷ rest }

    abbrev is : Local B
    is = record local { pending = earlier ++ rest }

    abbrev old : State B
    old = state_at whole heights (others ++ was ∷ later)

    abbrev new : State B
    new = state_at whole (raised heights 0) (others ++ is ∷ later)

    same_calls : new.view.calls ≡ old.view.calls
    same_calls = λ i queue. front (stays queue i) (whole.view.calls queue)
      where
        stays : (queue : ℕ) → raised heights 0 (suc queue) ≡ heights (suc queue)
        stays queue = rw (suc_apart queue) refl

    same_actors : new.actors ≡ old.actors
    same_actors = same_at (λ (l : Local B). l.actors) others later was is refl

    same_on : new.on ≡ old.on
    same_on = same_at (λ (l : Local B). l.on) others later was is refl

    same_left : new.view.turns.leaves ≡ old.view.turns.leaves
    same_left = same_at (λ (l : Local B). l.leaves) others later was is refl

    waits_was : old.waiting ≡ (flat_map (λ (l : Local B). l.pending) others ++ ((earlier ++ one ∷ rest) ++ flat_map (λ (l : Local B). l.pending) later)) ++ waiting history
    waits_was = λ i. parted (λ (l : Local B). l.pending) others later was i ++ waiting (front_before heights 0 whole.arriving more history e whole_is next i)

    waits_is : new.waiting ≡ (flat_map (λ (l : Local B). l.pending) others ++ ((earlier ++ rest) ++ flat_map (λ (l : Local B). l.pending) later)) ++ (waiting history ++ one ∷ [])
    waits_is =
        (λ i. parted (λ (l : Local B). l.pending) others later is i ++ waiting (front_after heights 0 whole.arriving more history e whole_is next i))
        ∙ ap (λ (xs : List (Arrival ReadLeaseOf)). (flat_map (λ (l : Local B). l.pending) others ++ ((earlier ++ rest) ++ flat_map (λ (l : Local B). l.pending) later)) ++ xs)
        (λ i. waiting (record { by = e.by; call = sends i; reply = e.reply } ∷ history))

    waits_sum : (w : RightAt → ℕ) → sum_by w (flat_map places_arrived new.waiting) ≡ sum_by w (flat_map places_arrived old.waiting)
    waits_sum w =
        let p = flat_map (λ (l : Local B). l.pending) others in
        let q = flat_map (λ (l : Local B). l.pending) later in
        let a = ap (λ (xs : List (Arrival ReadLeaseOf)). sum_by w (flat_map places_arrived xs)) waits_was in
        let b = ap (λ (xs : List (Arrival ReadLeaseOf)). sum_by w (flat_map places_arrived xs)) waits_is in
        let c = arrivals_sum w (flat_map (λ (l : Local B). l.pending) others ++ ((earlier ++ one ∷ rest) ++ flat_map (λ (l : Local B). l.pending) later)) (waiting history) in
        let d = arrivals_sum w (flat_map (λ (l : Local B). l.pending) others ++ ((earlier ++ rest) ++ flat_map (λ (l : Local B). l.pending) later)) (waiting history ++ one ∷ []) in
        let f = arrivals_sum w (flat_map (λ (l : Local B). l.pending) others) ((earlier ++ one ∷ rest) ++ flat_map (λ (l : Local B). l.pending) later) in
        let g = arrivals_sum w (flat_map (λ (l : Local B). l.pending) others) ((earlier ++ rest) ++ flat_map (λ (l : Local B). l.pending) later) in
        let h = arrivals_sum w (earlier ++ one ∷ rest) (flat_map (λ (l : Local B). l.pending) later) in
        let i = arrivals_sum w (earlier ++ rest) (flat_map (λ (l : Local B). l.pending) later) in
        let j = arrivals_sum w earlier (one ∷ rest) in
        let k = arrivals_sum w earlier rest in
        let l = arrivals_sum w (one ∷ []) rest in
        let m = arrivals_sum w (waiting history) (one ∷ []) in
        omega (arith, a, b, c, d, f, g, h, i, j, k, l, m)

    held : HasAtMost (places_out old) [] [] (places_out new)
    held w =
        let a = waits_sum w in
        let b = ap (λ (xs : List (ActorOf B)). sum_by w (flat_map (λ (actor : ActorOf B). places_held actor.parts) xs)) same_actors in
        let c = ap (λ (xs : List ReadLeaseOf). sum_by w (map right_read xs)) same_on in
        let d = sum_by-append w (flat_map (λ (actor : ActorOf B). places_held actor.parts) old.actors ++ flat_map places_arrived old.waiting) (map right_read old.on) in
        let f = sum_by-append w (flat_map (λ (actor : ActorOf B). places_held actor.parts) old.actors) (flat_map places_arrived old.waiting) in
        let g = sum_by-append w (flat_map (λ (actor : ActorOf B). places_held actor.parts) new.actors ++ flat_map places_arrived new.waiting) (map right_read new.on) in
        let h = sum_by-append w (flat_map (λ (actor : ActorOf B). places_held actor.parts) new.actors) (flat_map places_arrived new.waiting) in
        omega (arith, a, b, c, d, f, g, h)

    rest_in : IsLedger (ledger_of old) → RestsIn old new
    rest_in ledger = record {
      marks = refl;
      calls = same_calls;
      places = most_rests old new refl same_calls held (subst (λ (ofs : List (ActorOf B)). AreIn (flat_map (λ (actor : ActorOf B). places_owed actor.parts) ofs) (flat_map (λ (actor : ActorOf B). places_owed actor.parts) old.actors)) (sym same_actors) (λ write there. there));
      ledger = quiet_keeps old new (record {
        marks = refl;
        calls = same_calls;
        held = rest_turns old new held;
        owed = subst (λ (ofs : List (ActorOf B)). Gets (all_owed old) [] (all_owed (record new { actors = ofs }))) (sym same_actors) (gets_same (all_owed old));
        left = subst (λ xs. Gets old.view.turns.leaves [] xs) (sym same_left) (gets_same old.view.turns.leaves);
        written = subst (λ (ofs : List (ActorOf B)). Gets (all_written old) [] (all_written (record new { actors = ofs }))) (sym same_actors) (gets_same (all_written old));
      }) ledger;
    }

  pub goes_forward : GoesForward whole Holds one (0, length history)
  goes_forward others later local earlier rest heights next holds =
      rests (old others later local earlier rest heights next) (new others later local earlier rest heights next) refl (same_actors others later local earlier rest heights next)
      (rest_in others later local earlier rest heights next) holds

-- What a done try comes to, as a piece of what its actor did, maybe one that sends.
use Rattle.std.proofs.Common.{◌≡◌, ℕ, zero, suc, ◌+◌, ◌<◌, ◌≤◌, ◌==◌, Bool, true, List, [], ◌∷◌, ◌++◌, arith, ap, ◌∙◌, sym, refl, inl, inr, subst, length, map, Some, None}
use Rattle.std.specs.Prelude.{◌&&◌, slice_get}
use Rattle.std.proofs.lemmas.Bool.{cases_Bool, cases_eq, cases_lt, eq-eqb, eqb-true}
use Rattle.std.proofs.lemmas.List.{append-nil, append_assoc, length-append}
use Rattle.law_draws.specs.sf_calls.declared.object.Entry.{Entry}
use Rattle.law_draws.specs.sf_calls.Histories.{GoesOnWithout}
use Rattle.law_draws.specs.sf_surface.Histories.{Made}
use Rattle.law_draws.specs.sf_surface.Tokens.{ReadLeaseOf}
use Rattle.law_draws.specs.sf_token.Arrivals.{sent}
use Rattle.law_draws.specs.sf_token.declared.arrivals.ArriveCall.TheVariants as arrive
use Rattle.law_draws.specs.sf_token.Pending.{Arrival}
use Rattle.law_draws.specs.sf_txn.Transactions.{Contents}
use Rattle.law_draws.specs.sf_actor.Desks.{DeskView}
use Rattle.law_draws.specs.sf_actor.Tries.{ActorOf}
use Rattle.sf_live_compositor.specs.sf_live_seats.Arriving.{ArrivalCalls, Arrived, Arriving}
use Rattle.law_draws.specs.law_rights.States.{State}
use Rattle.law_threads.specs.Cuts.{Lifts, Whole}
use Rattle.law_threads.specs.Lifts.{AllGiven, Comes, Given, GivesAll, LearnsOnly, LiftsCall, LiftsSend, given_lease, local_of}
use Rattle.law_threads.specs.Lifts.Comes.{Calling, Giving, Quietly, Sending}
use Rattle.law_threads.specs.Orders.{Spot}
use Rattle.law_threads.proofs.Arrivals.{IsOwn, NoTakes, find_own, firsts, own_first, own_known, own_more, own_without, sent_own}
use Rattle.law_threads.proofs.ArrivalEvents.{SendsGoForward}
use Rattle.law_threads.proofs.TryOutcomes.{all_begin}
use Rattle.law_threads.proofs.CallCounts.{IsAt, mine_beyond, mine_more, mine_without}
use Rattle.law_threads.proofs.Lines.{AllAt, AllBack, AnyPiece, Back, Piece, Post, SendPiece, backs_at, leases_of, spot_at}
use Rattle.law_threads.proofs.Locals.{got_at}
use Rattle.law_threads.specs.Members.{bit, mine, total_in}

-- whether a call on a queue is the one at a spot
same_suc : (q queue : ℕ) → q ≡ queue → (suc queue == suc q) ≡ true
same_suc q queue same = eq-eqb (suc queue) (suc q) (ap suc (sym same))

pub at_zero : (queue place k : ℕ) → spot_at (0, k) (Some (suc queue, place)) ≡ 0
at_zero queue place k = elim (cases_Bool (suc queue == 0)) [
  | inl met ↦ let same = eqb-true (suc queue) 0 met in absurd (omega (arith, same))
  | inr unmet ↦ rw unmet refl
]

at_same : (q queue place k : ℕ) → q ≡ queue → spot_at (suc q, k) (Some (suc queue, place)) ≡ bit (place == k)
at_same q queue place k same =
    let here : spot_at (suc q, k) (Some (suc queue, place)) ≡ bit ((suc queue == suc q) && (place == k)) + 0 = refl in
    let all : bit ((suc queue == suc q) && (place == k)) ≡ bit (place == k) = ap (λ (b : Bool). bit (b && (place == k))) (same_suc q queue same) in
    omega (arith, here, all)

at_other : (q queue place k : ℕ) → (q ≡ queue → ⊥) → spot_at (suc q, k) (Some (suc queue, place)) ≡ 0
at_other q queue place k apart = elim (cases_Bool (suc queue == suc q)) [
  | inl met ↦ let same = eqb-true (suc queue) (suc q) met in absurd (apart (omega (arith, same)))
  | inr unmet ↦ rw unmet refl
]

pub at_arrivals : (place k : ℕ) → spot_at (0, k) (Some (0, place)) ≡ bit (place == k)
at_arrivals place k =
    let all : bit ((0 == 0) && (place == k)) ≡ bit (place == k) = ap (λ (b : Bool). bit (b && (place == k))) (eq-eqb 0 0 refl) in
    let here : spot_at (0, k) (Some (0, place)) ≡ bit ((0 == 0) && (place == k)) + 0 = refl in
    omega (arith, here, all)

pub at_queue : (q place k : ℕ) → spot_at (suc q, k) (Some (0, place)) ≡ 0
at_queue q place k = elim (cases_Bool (0 == suc q)) [
  | inl met ↦ let same = eqb-true 0 (suc q) met in absurd (omega (arith, same))
  | inr unmet ↦ rw unmet refl
]

module _ {B : Type 0} where
  -- how many of a caller's calls at a place are known; of those on the arrivals the first ones, as many as it sent
  abbrev pub known_in : Whole B → ℕ → DeskView B → ℕ → ℕ → ℕ
  known_in whole by view zero place = mine by place (firsts by (length (sent_own by view.arrivals)) whole.arriving)
  known_in whole by view (suc queue) place = mine by place (view.calls queue)

  abbrev pub post_of : Whole B → ℕ → ActorOf B → DeskView B → Post B
  post_of whole by of view = record { local = local_of of [] view.turns.leaves; known = λ here. known_in whole by view here.0 here.1; step = length of.trace }

  abbrev pub back_of : Given B → Back
  back_of given = (given.lease, (suc given.queue, length given.earlier))

-- What a caller sent is put among the arrivals by its calls there, each of which sends: none has a stamp below that of a call of the
-- steps before.
pub record SendsArrive {B : Type 0} (whole : Whole B) (Holds : State B → Type 0) (by : ℕ) (stamp : Spot → ℕ) (At : Spot → ℕ → Type 0) : Type 0 where
  pub none_taken : NoTakes by whole.arriving
  pub forward : SendsGoForward whole Holds
  pub rise : (early late : ℕ) → early < late → late < length whole.arriving → stamp (0, early) < stamp (0, late)
  pub above : (more history : ArrivalCalls) (e : Entry Arriving Arrived) → whole.arriving ≡ more ++ e ∷ history → e.by ≡ by → (step : ℕ) (txn : Contents ReadLeaseOf) → e.call ≡ arrive.Send step txn
      → (there : Spot) (n : ℕ) → At there n → n < step → stamp there ≤ stamp (0, length history)

module _ {B : Type 0} (whole : Whole B) (Holds : State B → Type 0) (by : ℕ) where
  pub given_leases : (gives : List (Given B)) → leases_of (map back_of gives) ≡ map given_lease gives
  given_leases [] = refl
  given_leases (given ∷ later) = ap (λ (xs : List ReadLeaseOf). given.lease ∷ xs) (given_leases later)

  pub all_backs : (gives : List (Given B)) → AllGiven whole Holds gives → AllBack whole Holds (map back_of gives)
  all_backs [] all = tt
  all_backs (given ∷ later) all = (all.0, all_backs later all.1)

  -- what is known more after a call
  called_known : (old new : DeskView B) (queue : ℕ) (made : Made B) (earlier : List (Made B)) → new.calls queue ≡ made ∷ earlier → made.by ≡ by
      → GoesOnWithout by (old.calls queue) earlier → ((other : ℕ) → (other ≡ queue → ⊥) → new.calls other ≡ old.calls other) → new.arrivals ≡ old.arrivals
      → (lock place : ℕ) → known_in whole by new lock place ≡ known_in whole by old lock place + spot_at (lock, place) (Some (suc queue, length earlier))
  called_known old new queue made earlier newest own goes others arrivals zero place =
      let same = ap (λ (xs : List (Arrival ReadLeaseOf)). mine by place (firsts by (length (sent_own by xs)) whole.arriving)) arrivals in
      let none = at_zero queue (length earlier) place in
      omega (arith, same, none)
  called_known old new queue made earlier newest own goes others arrivals (suc q) place = elim (cases_eq q queue) [
    | inl same ↦
        let here = ap (λ (n : ℕ). mine by place (new.calls n)) same ∙ ap (mine by place) newest ∙ mine_more by place made earlier own in
        let was = mine_without by place (old.calls queue) earlier goes ∙ ap (λ (n : ℕ). mine by place (old.calls n)) (sym same) in
        let one = at_same q queue (length earlier) place same in
        omega (arith, here, was, one)
    | inr apart ↦
        let here = ap (mine by place) (others q apart) in
        let none = at_other q queue (length earlier) place apart in
        omega (arith, here, none)
  ]

  pub gives_known : (number : ℕ) (gives : List (Given B)) (old new : DeskView B) → GivesAll by number gives old new → (lock place : ℕ)
      → known_in whole by new lock place ≡ known_in whole by old lock place + backs_at (lock, place) (map back_of gives)
  gives_known number [] old new all lock place = same lock ∙ omega arith
    where
      same : (lock : ℕ) → known_in whole by new lock place ≡ known_in whole by old lock place
      same zero = ap (λ (xs : List (Arrival ReadLeaseOf)). mine by place (firsts by (length (sent_own by xs)) whole.arriving)) all.1
      same (suc q) = ap (λ (cs : ℕ → List (Made B)). mine by place (cs q)) all.0
  gives_known number (given ∷ later) old new all lock place =
      let rest = gives_known number later all.0 new all.2 lock place in
      let one = called_known old all.0 given.queue given.made given.earlier all.1.newest all.1.by_it all.1.goes_on all.1.others all.1.arrivals lock place in
      omega (arith, rest, one)

  pub learns_known : (old new : DeskView B) → LearnsOnly by old new → (lock place : ℕ) → known_in whole by new lock place ≡ known_in whole by old lock place
  learns_known old new learns zero place = ap (λ (xs : List (Arrival ReadLeaseOf)). mine by place (firsts by (length (sent_own by xs)) whole.arriving)) learns.arrivals
  learns_known old new learns (suc q) place = mine_without by place (old.calls q) (new.calls q) (learns.calls q)

  module _ (stamp : Spot → ℕ) (At : Spot → ℕ → Type 0) (order : (here there : Spot) (n m : ℕ) → At here n → At there m → n < m → stamp here ≤ stamp there)
      (told : (queue : ℕ) (made : Made B) (earlier : List (Made B)) → IsAt (whole.view.calls queue) (length earlier) made earlier → made.by ≡ by → At (suc queue, length earlier) made.call.0)
      (arrive_all : SendsArrive whole Holds by stamp At) where
    all_at : (number : ℕ) (gives : List (Given B)) (old new : DeskView B) → GivesAll by number gives old new → ((queue : ℕ) → (more : List (Made B)) × (whole.view.calls queue ≡ more ++ new.calls queue))
        → AllAt whole Holds (λ here. total_in whole by here.0 here.1) stamp At order number (map back_of gives)
    all_at number [] old new all begins = tt
    all_at number (given ∷ later) old new all begins = (
      subst (At (suc given.queue, length given.earlier)) all.1.step (told given.queue given.made given.earlier (record {
        more = (begins given.queue).0 ++ (all_begin by number later all.0 new all.2 given.queue).0;
        is = (begins given.queue).1
            ∙ ap (λ (xs : List (Made B)). (begins given.queue).0 ++ xs) ((all_begin by number later all.0 new all.2 given.queue).1
            ∙ ap (λ (xs : List (Made B)). (all_begin by number later all.0 new all.2 given.queue).0 ++ xs) all.1.newest)
            ∙ sym (append_assoc (begins given.queue).0 (all_begin by number later all.0 new all.2 given.queue).0 (given.made ∷ given.earlier));
        height = refl;
      }) all.1.by_it),
      all_at number later all.0 new all.2 begins,
    )

    module _ (was is : ActorOf B) (old new : DeskView B) (grows : length is.trace ≡ length was.trace + 1)
        (begins : (queue : ℕ) → (more : List (Made B)) × (whole.view.calls queue ≡ more ++ new.calls queue)) (later : List (Arrival ReadLeaseOf)) (arrives : sent_own by (sent whole.arriving) ≡ sent_own by new.arrivals ++ later) where
      abbrev Done : Type 0
      Done = Piece whole Holds (λ here. total_in whole by here.0 here.1) stamp At order (post_of whole by was old) (post_of whole by is new)

      call_piece : LiftsCall whole Holds by was is [] old new → Done
      call_piece call = record {
        spot = Some (suc call.queue, length call.earlier);
        backs = [];
        lifts = call.lifts;
        back = tt;
        known = λ here.
            let known = called_known old new call.queue call.made call.earlier call.newest call.by_it call.goes_on call.others call.arrivals here.0 here.1 in
            omega (arith, known);
        rose = omega (arith, grows);
        at = λ here is_here. subst (λ (s : Spot). At s (length is.trace)) (some_is (suc call.queue, length call.earlier) here is_here)
            (subst (At (suc call.queue, length call.earlier)) (call.step ∙ sym grows) (told call.queue call.made call.earlier (record {
              more = (begins call.queue).0;
              is = (begins call.queue).1 ∙ ap (λ (xs : List (Made B)). (begins call.queue).0 ++ xs) call.newest;
              height = refl;
            }) call.by_it));
        all_at = tt;
        first = λ here is_here. tt;
      }
        where
          some_is : (x y : Spot) → Some x ≡ Some y → x ≡ y
          some_is x y same = cc

      quiet_piece : Lifts whole Holds (local_of was [] old.turns.leaves) None (local_of is [] new.turns.leaves) → LearnsOnly by old new → Done
      quiet_piece lifts learns = record {
        spot = None;
        backs = [];
        lifts = lifts;
        back = tt;
        known = λ here. let known = learns_known old new learns here.0 here.1 in omega (arith, known);
        rose = omega (arith, grows);
        at = λ here is_here. absurd (none_is here is_here);
        all_at = tt;
        first = λ here is_here. tt;
      }
        where
          none_is : (x : Spot) → None ≡ Some x → ⊥
          none_is x same = absurd (cc same)

      giving_piece : (gives : List (Given B)) → GivesAll by (length was.trace + 1) gives old new → AllGiven whole Holds gives
          → Lifts whole Holds (local_of was [] old.turns.leaves) None (local_of is (map given_lease gives) new.turns.leaves) → Done
      giving_piece gives all given lifts = record {
        spot = None;
        backs = map back_of gives;
        lifts = subst (λ (on : List ReadLeaseOf). Lifts whole Holds (local_of was [] old.turns.leaves) None (local_of is on new.turns.leaves))
            (sym (given_leases gives) ∙ sym (append-nil (leases_of (map back_of gives)))) lifts;
        back = all_backs gives given;
        known = λ here. let known = gives_known (length was.trace + 1) gives old new all here.0 here.1 in omega (arith, known);
        rose = omega (arith, grows);
        at = λ here is_here. absurd (none_is here is_here);
        all_at = subst (λ (n : ℕ). AllAt whole Holds (λ here. total_in whole by here.0 here.1) stamp At order n (map back_of gives)) (sym grows) (all_at (length was.trace + 1) gives old new all begins);
        first = λ here is_here. absurd (none_is here is_here);
      }
        where
          none_is : (x : Spot) → None ≡ Some x → ⊥
          none_is x same = absurd (cc same)

      send_piece : LiftsSend whole Holds by was is old new → SendPiece whole Holds (λ here. total_in whole by here.0 here.1) stamp At order (post_of whole by was old) (post_of whole by is new)
      send_piece sends = record {
        one = record { number = length (sent found.history) + 1; actor = record { 0 = found.e.by }; step = length was.trace + 1; txn = sends.txn };
        place = length found.history;
        lifts = sends.lifts (record { number = length (sent found.history) + 1; actor = record { 0 = found.e.by }; step = length was.trace + 1; txn = sends.txn }) refl;
        forward = arrive_all.forward found.more found.history found.e found.is (length was.trace + 1) sends.txn found.sends;
        known = λ here. known here.0 here.1;
        rose = omega (arith, grows);
        above = λ there n at low. arrive_all.above found.more found.history found.e found.is found.own (length was.trace + 1) sends.txn found.sends there n at (omega (arith, grows, low));
        first = λ other fewer. arrive_all.rise (length found.history) other (own_first by many whole.arriving one found other (known_more other fewer)) (in_reach other fewer);
      }
        where
          -- what is known of it wherever it arrives
          one : Arrival ReadLeaseOf
          one = record { number = 0; actor = record { 0 = by }; step = length was.trace + 1; txn = sends.txn }

          many : ℕ
          many = length (sent_own by old.arrivals)

          sent_is : sent_own by new.arrivals ≡ sent_own by old.arrivals ++ one ∷ []
          sent_is =
              ap (sent_own by) sends.last
              ∙ own_more by sends.earlier (record { number = sends.number; actor = record { 0 = by }; step = length was.trace + 1; txn = sends.txn }) refl
              ∙ ap (λ (xs : List (Arrival ReadLeaseOf)). xs ++ one ∷ []) (own_without by old.arrivals sends.earlier sends.goes_on)

          all_is : sent_own by (sent whole.arriving) ≡ sent_own by old.arrivals ++ one ∷ later
          all_is = arrives ∙ ap (λ (xs : List (Arrival ReadLeaseOf)). xs ++ later) sent_is ∙ append_assoc (sent_own by old.arrivals) (one ∷ []) later

          found : IsOwn by many whole.arriving one
          found = find_own by many whole.arriving one arrive_all.none_taken (ap (λ (xs : List (Arrival ReadLeaseOf)). slice_get xs many) all_is ∙ got_at (sent_own by old.arrivals) later one)

          many_new : length (sent_own by new.arrivals) ≡ many + 1
          many_new = let joined = ap (λ (xs : List (Arrival ReadLeaseOf)). length xs) sent_is ∙ length-append (sent_own by old.arrivals) (one ∷ []) in omega (arith, joined)

          new_is : (place : ℕ) → known_in whole by new 0 place ≡ mine by place (firsts by (many + 1) whole.arriving)
          new_is place = ap (λ (n : ℕ). mine by place (firsts by n whole.arriving)) many_new

          known : (lock place : ℕ) → known_in whole by new lock place ≡ known_in whole by old lock place + spot_at (lock, place) (Some (0, length found.history))
          known zero place =
              let is_new = new_is place in
              let more = own_known by many whole.arriving one found place in
              let here = at_arrivals (length found.history) place in
              omega (arith, is_new, more, here)
          known (suc q) place =
              let same = ap (λ (cs : ℕ → List (Made B)). mine by place (cs q)) sends.calls in
              let none = at_queue q (length found.history) place in
              omega (arith, same, none)

          known_more : (other : ℕ) → known_in whole by new 0 other < total_in whole by 0 other → mine by other (firsts by (many + 1) whole.arriving) < mine by other whole.arriving
          known_more other fewer = let is_new = new_is other in omega (arith, fewer, is_new)

          in_reach : (other : ℕ) → known_in whole by new 0 other < total_in whole by 0 other → other < length whole.arriving
          in_reach other fewer = elim (cases_lt other (length whole.arriving)) [
            | inl less ↦ less
            | inr over ↦ let none = mine_beyond by other whole.arriving over in absurd (omega (arith, fewer, none))
          ]

      pub piece_of : Comes whole Holds by was is old new → AnyPiece whole Holds (λ here. total_in whole by here.0 here.1) stamp At order (post_of whole by was old) (post_of whole by is new)
      piece_of (Quietly lifts learns) = inl (quiet_piece lifts learns)
      piece_of (Calling call) = inl (call_piece call)
      piece_of (Sending sends) = inr (send_piece sends)
      piece_of (Giving gives all given lifts) = inl (giving_piece gives all given lifts)

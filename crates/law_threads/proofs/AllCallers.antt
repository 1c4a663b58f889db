-- All callers together, from the beginning of a run to its end.
use Rattle.std.proofs.Common.{◌≡◌, ℕ, zero, suc, ◌<◌, ◌≤◌, List, [], ◌∷◌, arith, ap, ◌∙◌, sym, refl, subst, map}
use Rattle.law_draws.specs.law_rights.States.{State}
use Rattle.law_threads.specs.Cuts.{AreParts, Event, IsPart, Local, Whole, all_now, many_of, now, spot_of, state_at}
use Rattle.law_threads.specs.Orders.{AreInTurn, IsCut, IsInTurn, Spot, StampsRise, all_events, events_in, times_at}
use Rattle.law_threads.proofs.EventLaws.{carried}
use Rattle.law_threads.proofs.CallCounts.{all_mine, all_none, all_one}
use Rattle.law_threads.proofs.Lines.{Post, Rest}
use Rattle.law_threads.proofs.LeastStamp.{ordered, times_joined}
use Rattle.law_threads.specs.Members.{AllOnce, total_in}

-- a caller of a run: its number, what it has to do, and what it holds at first and at last
pub record Member (B : Type 0) : Type 0 where
  pub by : ℕ
  pub rest : List (List (Event B))
  pub first : Local B
  pub last : Local B

module _ {B : Type 0} where
  abbrev pub by_of : Member B → ℕ
  by_of member = member.by

  abbrev pub rest_of : Member B → List (List (Event B))
  rest_of member = member.rest

  abbrev pub first_of : Member B → Local B
  first_of member = member.first

  abbrev pub last_of : Member B → Local B
  last_of member = member.last

module _ {B : Type 0} (whole : Whole B) (Holds : State B → Type 0) (stamp : Spot → ℕ) where
  -- it has just its own calls to do, in turn
  pub record IsMember (member : Member B) : Type 0 where
    pub holds : now member.rest member.last ≡ member.first
    pub part : IsPart whole Holds member.rest member.last
    pub counts : (lock place : ℕ) → times_at spot_of (lock, place) (events_in spot_of member.rest) ≡ total_in whole member.by lock place
    pub turn : IsInTurn spot_of stamp member.rest

module _ {B : Type 0} (whole : Whole B) (Holds : State B → Type 0) (stamp : Spot → ℕ) where
  abbrev pub AreMembers : List (Member B) → Type 0
  AreMembers [] = Unit {0}
  AreMembers (member ∷ members) = IsMember whole Holds stamp member × AreMembers members

  pub rest_member : (At : Spot → ℕ → Type 0) (order : (here there : Spot) (n m : ℕ) → At here n → At there m → n < m → stamp here ≤ stamp there) (by : ℕ) (post : Post B) (rest : List (List (Event B))) (last : Local B)
      → ((here : Spot) → post.known here ≡ 0) → Rest whole Holds (λ here. total_in whole by here.0 here.1) stamp At order post rest last
      → IsMember whole Holds stamp (record { by = by; rest = rest; first = post.local; last = last })
  rest_member At order by post rest last none behind = record {
    holds = behind.holds;
    part = behind.part;
    counts = λ lock place. let counts = behind.counts (lock, place) in let known = none (lock, place) in omega (arith, counts, known);
    turn = behind.turn;
  }

  all_parts : (members : List (Member B)) → AreMembers members → AreParts whole Holds (map rest_of members) (map last_of members)
  all_parts [] all = tt
  all_parts (member ∷ members) all = (all.0.part, all_parts members all.1)

  all_turns : (members : List (Member B)) → AreMembers members → AreInTurn spot_of stamp (map rest_of members)
  all_turns [] all = tt
  all_turns (member ∷ members) all = (all.0.turn, all_turns members all.1)

  all_first : (members : List (Member B)) → AreMembers members → all_now (map rest_of members) (map last_of members) ≡ map first_of members
  all_first [] all = refl
  all_first (member ∷ members) all =
      ap (λ (local : Local B). local ∷ all_now (map rest_of members) (map last_of members)) all.0.holds ∙ ap (λ (locals : List (Local B)). member.first ∷ locals) (all_first members all.1)

  -- the calls of all on a lock
  all_calls : (members : List (Member B)) → AreMembers members → (queue place : ℕ) → times_at spot_of (suc queue, place) (all_events spot_of (map rest_of members)) ≡ all_mine (map by_of members) place (whole.view.calls queue)
  all_calls [] all queue place = refl
  all_calls (member ∷ members) all queue place =
      let joined = times_joined spot_of (suc queue, place) (events_in spot_of member.rest) (all_events spot_of (map rest_of members)) in
      let rest = all_calls members all.1 queue place in
      let here = all.0.counts (suc queue) place in
      omega (arith, joined, rest, here)

  all_arrivals : (members : List (Member B)) → AreMembers members → (place : ℕ) → times_at spot_of (0, place) (all_events spot_of (map rest_of members)) ≡ all_mine (map by_of members) place whole.arriving
  all_arrivals [] all place = refl
  all_arrivals (member ∷ members) all place =
      let joined = times_joined spot_of (0, place) (events_in spot_of member.rest) (all_events spot_of (map rest_of members)) in
      let rest = all_arrivals members all.1 place in
      let here = all.0.counts 0 place in
      omega (arith, joined, rest, here)

  abbrev at_none : ℕ → ℕ
  at_none = λ lock. 0

  cut : (members : List (Member B)) → AreMembers members → ((queue : ℕ) → AllOnce (map by_of members) (whole.view.calls queue)) → AllOnce (map by_of members) whole.arriving → IsCut spot_of (many_of whole) (λ lock. 0) (map rest_of members)
  cut members all once once_sent = record {
    below = λ lock. omega arith;
    to_come = λ here reached low. to_come here.0 here.1 low;
    done = λ here under. absurd (omega (arith, under));
    beyond = λ here over. beyond here.0 here.1 over;
  }
    where
      to_come : (lock place : ℕ) → place < many_of whole lock → times_at spot_of (lock, place) (all_events spot_of (map rest_of members)) ≡ 1
      to_come zero place low = all_arrivals members all place ∙ all_one (map by_of members) place whole.arriving once_sent low
      to_come (suc queue) place low = all_calls members all queue place ∙ all_one (map by_of members) place (whole.view.calls queue) (once queue) low

      beyond : (lock place : ℕ) → many_of whole lock ≤ place → times_at spot_of (lock, place) (all_events spot_of (map rest_of members)) ≡ 0
      beyond zero place over = all_arrivals members all place ∙ all_none (map by_of members) place whole.arriving over
      beyond (suc queue) place over = all_calls members all queue place ∙ all_none (map by_of members) place (whole.view.calls queue) over

  -- what holds at the beginning holds at the end
  pub assembled : (members : List (Member B)) → AreMembers members → ((queue : ℕ) → AllOnce (map by_of members) (whole.view.calls queue)) → AllOnce (map by_of members) whole.arriving → StampsRise stamp (many_of whole)
      → Holds (state_at whole (λ lock. 0) (map first_of members)) → Holds (state_at whole (many_of whole) (map last_of members))
  assembled members all once once_sent rise holds =
      let start = cut members all once once_sent in
      carried whole Holds (λ lock. 0) (map rest_of members) (ordered spot_of (many_of whole) stamp rise (λ lock. 0) (map rest_of members) start (all_turns members all)) (map last_of members) start
      (all_parts members all) (subst (λ (locals : List (Local B)). Holds (state_at whole (λ lock. 0) locals)) (sym (all_first members all)) holds)

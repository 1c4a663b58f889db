-- What calls on the arrivals sent and took.
use Rattle.std.specs.Prelude.{ℕ, List, [], ◌∷◌, ◌++◌}
use Rattle.sf_calls_stamped.specs.Stamps.{stamp_of}
use Rattle.sf_intake.specs.sf_token.declared.arrivals.ArriveCall.TheVariants as arrive
use Rattle.sf_live_seats.specs.Arriving.{ArrivalEntry, Arriving}

-- the steps and stamps of those of these calls that sent
abbrev pub sent_in : List ArrivalEntry → List (ℕ × ℕ)
sent_in [] = []
sent_in (call ∷ earlier) = at (call.call.1) ++ sent_in earlier
  where
    at : Arriving → List (ℕ × ℕ)
    at (arrive.Send step txn) = (step, stamp_of call) ∷ []
    at arrive.Take = []

-- the stamps of those of these calls that took what waited
abbrev pub takes_in : List ArrivalEntry → List ℕ
takes_in [] = []
takes_in (call ∷ earlier) = at (call.call.1) ++ takes_in earlier
  where
    at : Arriving → List ℕ
    at (arrive.Send step txn) = []
    at arrive.Take = stamp_of call ∷ []

-- Where a buffer has been: it goes from queue to queue by attach calls.
use Rattle.std.specs.Prelude.{◌≡◌, List, [], ◌∷◌, length, Some, None}
use Rattle.sf_actor_set.specs.sf_actor.Makers.{BufferOf, Maker, Run, before_attach, making_of}

-- the buffer of a queue before the attach that put it there, if an attach did
abbrev pub IsBefore : Run → BufferOf → BufferOf → Type 0
IsBefore run stay before = before_attach run stay (making_of (run.calls stay.queue) stay.number) ≡ Some before

abbrev pub IsFirst : Run → BufferOf → Type 0
IsFirst run stay = before_attach run stay (making_of (run.calls stay.queue) stay.number) ≡ None

-- a stay and those before it, the latest first: each was attached out of the next, and the last was made by a dequeue
abbrev pub AreStays : Run → BufferOf → List BufferOf → Type 0
AreStays run stay [] = IsFirst run stay
AreStays run stay (before ∷ earlier) = IsBefore run stay before × AreStays run before earlier

-- who made it: the first of them, and it was attached as often as there are others
abbrev pub first_stay : BufferOf → List BufferOf → BufferOf
first_stay stay [] = stay
first_stay stay (before ∷ earlier) = first_stay before earlier

abbrev pub maker_of : BufferOf → List BufferOf → Maker
maker_of stay earlier = record { made = first_stay stay earlier; age = length earlier }

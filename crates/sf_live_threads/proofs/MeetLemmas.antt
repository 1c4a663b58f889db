-- The first seats take in those of one seated actor after the other.
use Rattle.std.proofs.Common.{◌≡◌, ℕ, zero, suc, ◌+◌, ◌<◌, ◌≤◌, List, [], ◌∷◌, ◌++◌, ◌⊎◌, inl, inr, length, map, Contains, sym, refl, ap, ◌∙◌, subst, arith, append_assoc}
use Rattle.std.specs.List.{AllByRecursion, AllZip}
use Rattle.std.specs.declared.snapshot.Snapshot.{Snapshot}
use Rattle.std.proofs.lemmas.Fn.{FoldsTo-push}
use Rattle.std.proofs.lemmas.List.{append-nil, map-append, length-append, length-map}
use Rattle.std.proofs.lemmas.List.Elements.{Contains-append_right}
use Rattle.atomic_table.specs.Seated.{TableId}
use Rattle.sf_picture.specs.declared.picture.Picture.{Picture}
use Rattle.sf_actor_steps.specs.declared.actor.Actor.{Actor}
use Rattle.sf_live_seats.specs.declared.first.FirstSeats.{FirstSeats}
use Rattle.sf_live_seats.specs.declared.locks.Locks.{Locks}
use Rattle.sf_live_seats.specs.declared.seats.Seats.{Seats}
use Rattle.sf_live_seats.specs.First.{HasAll, IsFirst, Meets, gave_of, took_of}
use Rattle.sf_live_seats.specs.Reuniting.{Finishes, Reunites}
use Rattle.sf_live_seats.specs.Seats.{MaySend}
use Rattle.sf_live_threads.specs.declared.seated_actor.SeatedActor.{SeatedActor}
use Rattle.sf_live_threads.specs.Seating.{GetsSeats, GivesEach, number_of}
use Rattle.sf_live_threads.specs.Backs.{AllCame}
use Rattle.sf_live_threads.specs.Meeting.{MeetsEach, caller_of, seats_of}
use Rattle.sf_live_threads.specs.Visits.{LeavesGiven}
use Rattle.sf_live_threads.proofs.Zips.{zip_long}

-- a list of what is made of others grows with them
pub map_more : {X Y : Type 0} (f : X → Y) (xs : List X) (x : X) (ys more : List Y) → ys ≡ map f xs → more ≡ ys ++ f x ∷ [] → more ≡ map f (xs ++ x ∷ [])
map_more f xs x ys more are pushed = pushed ∙ (λ i. are i ++ f x ∷ []) ∙ sym (map-append f xs (x ∷ []))

module _ {B : Type 0} where
  took_long : (first : FirstSeats B) → length (took_of first) ≡ length first.took.items
  took_long first = length-map first.took.items (λ (seats : Snapshot (Seats B)). seats.value)

  given_long : (start : FirstSeats B) (callers : List ℕ) (new : FirstSeats B) → GivesEach start callers new → length (gave_of new) ≡ length (gave_of start) + length callers
  given_long start [] new gives = let e = ap (λ (f : FirstSeats B). length (gave_of f)) gives in omega arith
  given_long start (caller ∷ callers) new gives = let rest = given_long gives.0 callers new gives.2 in let more = ap length gives.1.gave in omega arith

  given_took : (start : FirstSeats B) (callers : List ℕ) (new : FirstSeats B) → GivesEach start callers new → took_of new ≡ took_of start
  given_took start [] new gives = ap (λ (f : FirstSeats B). took_of f) (sym gives)
  given_took start (caller ∷ callers) new gives = given_took gives.0 callers new gives.2 ∙ gives.1.took

  -- each caller that has seats now was among these, or had some before
  given_among : (start : FirstSeats B) (callers : List ℕ) (new : FirstSeats B) → GivesEach start callers new → (b : ℕ) → Contains (gave_of new) b → Contains callers b ⊎ Contains (gave_of start) b
  given_among start [] new gives b has = inr (subst (λ (f : FirstSeats B). Contains (gave_of f) b) (sym gives) has)
  given_among start (caller ∷ callers) new gives b has = later (given_among gives.0 callers new gives.2 b has)
    where
      earlier : Contains (caller ∷ gave_of start) b → Contains (caller ∷ callers) b ⊎ Contains (gave_of start) b
      earlier (zero, low, is) = inl (0, omega arith, is)
      earlier (suc k, low, is) = inr (k, omega arith, is)

      later : Contains callers b ⊎ Contains (gave_of gives.0) b → Contains (caller ∷ callers) b ⊎ Contains (gave_of start) b
      later (inl (k, low, is)) = inl (suc k, omega arith, is)
      later (inr old) = earlier (subst (λ (l : List ℕ). Contains l b) gives.1.gave old)

  meets_took : (start : FirstSeats B) (met : List (Seats B)) (new : FirstSeats B) → MeetsEach start met new → took_of new ≡ took_of start ++ met
  meets_took start [] new meets = ap (λ (f : FirstSeats B). took_of f) (sym meets) ∙ sym (append-nil (took_of start))
  meets_took start (seats ∷ met) new meets =
      meets_took meets.0 met new meets.2 ∙ (ap (λ (l : List (Seats B)). l ++ met) meets.1.took ∙ append_assoc (took_of start) (seats ∷ []) met)

  meets_gave : (start : FirstSeats B) (met : List (Seats B)) (new : FirstSeats B) → MeetsEach start met new → gave_of new ≡ gave_of start
  meets_gave start [] new meets = ap (λ (f : FirstSeats B). gave_of f) (sym meets)
  meets_gave start (seats ∷ met) new meets = meets_gave meets.0 met new meets.2 ∙ meets.1.gave

  -- What is known while seats are taken in.
  pub record Gathering (table : TableId) (locks : Locks B) (start : FirstSeats B) (seats : List (Seats B)) (first : FirstSeats B) : Type 0 where
    pub is : IsFirst table locks first
    pub met : MeetsEach start seats first

  pub gathering_none : (table : TableId) (locks : Locks B) (start : FirstSeats B) → IsFirst table locks start → Gathering table locks start [] start
  gathering_none table locks start is = record { is = is; met = refl }

  pub gathering_more : (table : TableId) (locks : Locks B) (start old new : FirstSeats B) (before : List (Seats B)) (seats : Seats B) → Gathering table locks start before old → IsFirst table locks new → Meets seats old new
      → Gathering table locks start (before ++ seats ∷ []) new
  gathering_more table locks start old new before seats g is meets =
      record { is = is; met = FoldsTo-push (λ (o : FirstSeats B) (seats : Seats B) (n : FirstSeats B). Meets seats o n) start before old seats new g.met meets }

  -- one is still out
  pub still_out : (table : TableId) (locks : Locks B) (start first : FirstSeats B) (all before : List (Seats B)) → length start.took.items + length all ≤ length (gave_of start) → length before < length all
      → Gathering table locks start before first → length first.took.items < length (gave_of first)
  still_out table locks start first all before out low g =
      let took = ap length (meets_took start before first g.met) in
      let both = length-append (took_of start) before in
      let a = took_long start in let b = took_long first in
      let gave = ap length (meets_gave start before first g.met) in
      omega arith

  -- the callers of seats stay where their passes come back
  pub same_callers : (locks : Locks B) (ends reunited : List (Seats B)) → AllZip (Reunites locks) ends reunited → map caller_of reunited ≡ map caller_of ends
  same_callers locks [] [] zip = refl
  same_callers locks [] (r ∷ reunited) zip = absurd zip
  same_callers locks (e ∷ ends) [] zip = absurd zip
  same_callers locks (e ∷ ends) (r ∷ reunited) zip = λ i. (ap caller_of zip.0.same) i ∷ same_callers locks ends reunited zip.1 i

  -- what was left of what was sent changes nothing of what was given and taken in
  pub finished_took : (old new : FirstSeats B) → Finishes old new → took_of new ≡ took_of old
  finished_took old new finishes = λ i. map (λ (seats : Snapshot (Seats B)). seats.value) (finishes.took i).items

  pub finished_given : (after_seating attended finished : FirstSeats B) → LeavesGiven after_seating attended → Finishes attended finished → LeavesGiven after_seating finished
  finished_given after_seating attended finished given finishes =
      record {
        gave = ap (λ (seats : Seats B). seats.arrivals.gave) finishes.same ∙ given.gave;
        took = finished_took attended finished finishes ∙ given.took;
        caller = ap caller_of finishes.same ∙ given.caller;
      }

  -- then those that are still out are as many as before
  pub still_room : (locks : Locks B) (start finished : FirstSeats B) (ends reunited : List (Seats B)) → Finishes start finished → AllZip (Reunites locks) ends reunited
      → length start.took.items + length ends ≤ length (gave_of start) → length finished.took.items + length reunited ≤ length (gave_of finished)
  still_room locks start finished ends reunited finishes reunites room =
      let many = zip_long (Reunites locks) ends reunited reunites in
      let took = ap length (finished_took start finished finishes) in
      let a = took_long start in let b = took_long finished in
      let gave = ap (λ (seats : Seats B). length seats.arrivals.gave) finishes.same in
      omega arith

  -- where no seats were given before, those of all who got some were taken in
  pub all_back : (table : TableId) (locks : Locks B) (first after_seating attended new : FirstSeats B) (callers : List ℕ) (met : List (Seats B))
      → IsFirst table locks first → gave_of first ≡ [] → GivesEach first callers after_seating → LeavesGiven after_seating attended → MeetsEach attended met new → map caller_of met ≡ callers → HasAll new
  all_back table locks first after_seating attended new callers met is none gives given meets numbers = record {
    all = λ by has. subst (λ (l : List (Seats B)). Contains (map caller_of l) by) (sym took) (subst (λ (l : List ℕ). Contains l by) (sym (map-append caller_of (took_of attended) met))
        (Contains-append_right (map caller_of (took_of attended)) (map caller_of met) by (subst (λ (l : List ℕ). Contains l by) (sym numbers) (among by (given_among first callers after_seating gives by (subst (λ (l : List ℕ). Contains l by) gave has))))));
    many =
        let a = took_long new in let b = took_long attended in let c = took_long after_seating in let d = took_long first in
        let e = ap length took in let f = length-append (took_of attended) met in
        let g = ap length given.took in let h = ap length (given_took first callers after_seating gives) in
        let i = is.times_out in let j = ap length none in let k = ap length gave in let l = given_long first callers after_seating gives in
        let m = ap length numbers in let n = length-map met caller_of in
        omega arith;
  }
    where
      took : took_of new ≡ took_of attended ++ met
      took = meets_took attended met new meets

      gave : gave_of new ≡ gave_of after_seating
      gave = meets_gave attended met new meets ∙ given.gave

      among : (by : ℕ) → Contains callers by ⊎ Contains (gave_of first) by → Contains callers by
      among by (inl has) = has
      among by (inr old) = let h : Contains [] by = subst (λ (l : List ℕ). Contains l by) none old in absurd (omega (arith, h.1))

  -- there is room for the seats of all actors
  pub room_for_all : (table : TableId) (locks : Locks B) (first after_seating attended : FirstSeats B) (callers : List ℕ) (seated_actors : List (SeatedActor B))
      → IsFirst table locks first → gave_of first ≡ [] → GivesEach first callers after_seating → LeavesGiven after_seating attended → length seated_actors ≡ length callers → length attended.took.items + length seated_actors ≤ length (gave_of attended)
  room_for_all table locks first after_seating attended callers seated_actors is none gives given many =
      let b = took_long attended in let c = took_long after_seating in let d = took_long first in
      let g = ap length given.took in let h = ap length (given_took first callers after_seating gives) in
      let i = is.times_out in let j = ap length none in let k = ap length given.gave in let l = given_long first callers after_seating gives in
      omega arith

  -- the callers of the seats that came back are the actors, in their order
  pub callers_back : (table : TableId) (locks : Locks B) (pictures : List Picture) (known : Seats B) (actors : List (Actor B)) (sent back : List (SeatedActor B))
      → AllZip (GetsSeats table locks known) actors sent → AllCame table locks pictures sent back → map caller_of (map seats_of back) ≡ map number_of actors
  callers_back table locks pictures known [] [] [] gets_seats came = refl
  callers_back table locks pictures known [] [] (b ∷ back) gets_seats came = absurd came
  callers_back table locks pictures known [] (s ∷ sent) back gets_seats came = absurd gets_seats
  callers_back table locks pictures known (a ∷ actors) [] back gets_seats came = absurd gets_seats
  callers_back table locks pictures known (a ∷ actors) (s ∷ sent) [] gets_seats came = absurd came
  callers_back table locks pictures known (a ∷ actors) (s ∷ sent) (b ∷ back) gets_seats came =
      λ i. (came.0.caller ∙ gets_seats.0.fresh.caller) i ∷ callers_back table locks pictures known actors sent back gets_seats.1 came.1 i

  pub came_own : (table : TableId) (locks : Locks B) (pictures : List Picture) (sent back : List (SeatedActor B)) → AllCame table locks pictures sent back → AllByRecursion (MaySend table locks) (map seats_of back)
  came_own table locks pictures [] [] came = tt
  came_own table locks pictures [] (b ∷ back) came = absurd came
  came_own table locks pictures (s ∷ sent) [] came = absurd came
  came_own table locks pictures (s ∷ sent) (b ∷ back) came = (record { own = came.0.may_try_next.own; apart = came.0.may_try_next.apart }, came_own table locks pictures sent back came.1)

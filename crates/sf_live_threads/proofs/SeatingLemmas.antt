-- The first seats give seats to one actor after the other.
use Rattle.std.proofs.Common.{◌≡◌, ℕ, zero, suc, ◌+◌, ◌<◌, ◌≤◌, List, [], ◌∷◌, ◌++◌, length, map, get_or, slice_index, Contains, sym, refl, ap, ◌∙◌, subst, arith, filter}
use Rattle.std.specs.List.{AllZip}
use Rattle.std.specs.List.Sorted.{IsStrictlyIncreasing}
use Rattle.std.proofs.lemmas.Fn.{FoldsTo-push}
use Rattle.std.proofs.lemmas.List.{map-append, length-append, length-map}
use Rattle.atomic_table.specs.Seated.{TableId}
use Rattle.sf_picture.specs.declared.picture.Picture.{Picture}
use Rattle.sf_actor_steps.specs.sf_surface.Histories.{Made}
use Rattle.sf_actor_steps.specs.sf_surface.Tokens.{ReadLeaseOf}
use Rattle.sf_actor_steps.specs.sf_token.Pending.{Arrival}
use Rattle.sf_actor_steps.specs.sf_actor.Desks.{DeskHome, mark_among}
use Rattle.sf_actor_steps.specs.sf_actor.Known.{arrivals_told, is_sent_by, own_calls}
use Rattle.sf_actor_steps.specs.sf_actor.Scripts.{picture_at}
use Rattle.sf_actor_steps.specs.sf_actor.Tries.{Keeps}
use Rattle.sf_actor_steps.specs.Actors.{IsActor, IsNew, new_actor}
use Rattle.sf_actor_steps.specs.Playable.{MayPlay}
use Rattle.sf_actor_steps.specs.declared.actor.Actor.{Actor}
use Rattle.sf_actor_steps.proofs.NewLemmas.{new_keeps}
use Rattle.sf_actor_steps.specs.sf_times.Views.{SeatView as TimesView}
use Rattle.sf_turns.specs.Views.{SeatView}
use Rattle.sf_live_seats.specs.declared.first.FirstSeats.{FirstSeats}
use Rattle.sf_live_seats.specs.declared.locks.Locks.{Locks}
use Rattle.sf_live_seats.specs.declared.seats.Seats.{Seats}
use Rattle.sf_live_seats.specs.First.{Gives, IsFirst, IsGiven, KnowsNothing, KnowsSame, gave_of}
use Rattle.sf_live_seats.specs.Seats.{AreSeats, home_of, tells_of, view_of}
use Rattle.sf_live_threads.specs.declared.seated_actor.SeatedActor.{SeatedActor}
use Rattle.sf_live_threads.specs.Seating.{GetsSeats, GivesEach, IsFresh, IsNewcomer, home_for, number_of}
use Rattle.sf_live_threads.specs.SeatedActors.{MayTryNext}
use Rattle.sf_live_threads.proofs.Zips.{zip_push}

module _ {B : Type 0} where
  numbered : (all : List (Actor B)) (n : ℕ) (x : Actor B) → n < length all → x ≡ get_or all n x → slice_index (map number_of all) n ≡ x.script.number
  numbered [] n x low is = absurd (omega arith)
  numbered (a ∷ all) zero x low is = ap (λ (z : Actor B). z.script.number) (sym is)
  numbered (a ∷ all) (suc n) x low is = numbered all n x (omega arith) is

  -- the next actor has a greater number than those before it
  pub next_above : (start : ℕ) (all : List (Actor B)) (n : ℕ) (x : Actor B) → IsStrictlyIncreasing (start ∷ map number_of all) → (n < length all) × (x ≡ get_or all n x)
      → (slice_index (start ∷ map number_of all) n < x.script.number) × (slice_index (start ∷ map number_of all) (n + 1) ≡ x.script.number)
  next_above start all n x rising at =
      let long = length-map all number_of in
      let later : slice_index (start ∷ map number_of all) (suc n) ≡ x.script.number = numbered all n x at.0 at.1 in
      let next : n + 1 ≡ suc n = omega arith in
      let is : slice_index (start ∷ map number_of all) (n + 1) ≡ x.script.number = ap (λ (i : ℕ). slice_index (start ∷ map number_of all) i) next ∙ later in
      let low : n + 1 < length (start ∷ map number_of all) = omega (arith, at.0) in
      let above : slice_index (start ∷ map number_of all) n < slice_index (start ∷ map number_of all) (n + 1) = rising n low in (
        subst (λ (m : ℕ). slice_index (start ∷ map number_of all) n < m) is above,
        is,
      )

module _ {B : Type 0} where
  pub same_known : (a b c : Seats B) → KnowsSame a b → KnowsSame b c → KnowsSame a c
  same_known a b c p q = record { calls = λ queue. q.calls queue ∙ p.calls queue; arrivals = q.arrivals ∙ p.arrivals }

  -- What is known while seats are given to actors: the first seats still know nothing more than at the start, and gave seats to the
  -- callers that have theirs.
  pub record Seating (table : TableId) (locks : Locks B) (start : FirstSeats B) (all actors : List (Actor B)) (first : FirstSeats B) (seated_actors : List (SeatedActor B)) : Type 0 where
    pub is : IsFirst table locks first
    pub gives : GivesEach start (map number_of actors) first
    pub gets_seats : AllZip (GetsSeats table locks start.seats) actors seated_actors
    pub nothing : KnowsNothing first.seats
    pub same : KnowsSame start.seats first.seats
    pub caller : first.seats.by ≡ start.seats.by
    pub below : (b : ℕ) → Contains (gave_of first) b → b ≤ slice_index (start.seats.by ∷ map number_of all) (length actors)
    pub least : start.seats.by ≤ slice_index (start.seats.by ∷ map number_of all) (length actors)

  pub seating_none : (table : TableId) (locks : Locks B) (start : FirstSeats B) (all : List (Actor B)) (seated_actors : List (SeatedActor B)) → seated_actors ≡ [] → IsFirst table locks start → gave_of start ≡ [] → KnowsNothing start.seats
      → Seating table locks start all [] start seated_actors
  seating_none table locks start all seated_actors none is gave nothing = record {
    is = is;
    gives = refl;
    gets_seats = subst (λ (c : List (SeatedActor B)). AllZip (GetsSeats table locks start.seats) [] c) (sym none) tt;
    nothing = nothing;
    same = record { calls = λ queue. refl; arrivals = refl };
    caller = refl;
    below = λ b has. let h : Contains [] b = subst (λ (l : List ℕ). Contains l b) gave has in absurd (omega (arith, h.1));
    least = omega arith;
  }

  fresh_seats : (number : ℕ) (start first : FirstSeats B) (seats : Seats B) → KnowsSame start.seats first.seats → IsGiven number first.seats seats → IsFresh number start.seats seats
  fresh_seats number start first seats same given = record {
    caller = given.number;
    apart = given.apart;
    knows = same_known start.seats first.seats seats same given.knows;
    nothing = given.nothing;
    no_signals = ap (λ (t : TimesView). t.knows.signals) given.times;
    no_leaves = ap (λ (t : SeatView). t.leaves) given.turns;
  }

  pub fresh : (table : TableId) (locks : Locks B) (start : FirstSeats B) (all actors : List (Actor B)) (first : FirstSeats B) (seated_actors : List (SeatedActor B)) (x : Actor B)
      → IsStrictlyIncreasing (start.seats.by ∷ map number_of all) → (length actors < length all) × (x ≡ get_or all (length actors) x)
      → Seating table locks start all actors first seated_actors → Contains (first.seats.by ∷ gave_of first) x.script.number → ⊥
  fresh table locks start all actors first seated_actors x rising at b (zero, low, is) =
      let n = next_above start.seats.by all (length actors) x rising at in
      let e : first.seats.by ≡ x.script.number = is in let c = b.caller in let l = b.least in
      absurd (omega (arith, n.0))
  fresh table locks start all actors first seated_actors x rising at b (suc k, low, is) =
      let n = next_above start.seats.by all (length actors) x rising at in
      let l = b.below x.script.number (k, omega arith, is) in
      absurd (omega (arith, n.0))

  pub seating_more : (table : TableId) (locks : Locks B) (start old new : FirstSeats B) (all actors : List (Actor B)) (seated_actors : List (SeatedActor B)) (actor : Actor B) (seated_actor : SeatedActor B)
      → IsStrictlyIncreasing (start.seats.by ∷ map number_of all) → (length actors < length all) × (actor ≡ get_or all (length actors) actor)
      → Seating table locks start all actors old seated_actors → IsFirst table locks new → Gives actor.script.number old new → AreSeats table locks seated_actor.seats → IsGiven actor.script.number old.seats seated_actor.seats
      → seated_actor.actor ≡ actor → seated_actor.gates.passed ≡ 0 → Seating table locks start all (actors ++ actor ∷ []) new (seated_actors ++ seated_actor ∷ [])
  seating_more table locks start old new all actors seated_actors actor seated_actor rising at b is gives own given same none =
      let numbers : map number_of (actors ++ actor ∷ []) ≡ map number_of actors ++ actor.script.number ∷ [] = map-append number_of actors (actor ∷ []) in
      let n = next_above start.seats.by all (length actors) actor rising at in
      let long : length (actors ++ actor ∷ []) ≡ length actors + 1 = omega (arith, length-append actors (actor ∷ [])) in
      let last : slice_index (start.seats.by ∷ map number_of all) (length (actors ++ actor ∷ [])) ≡ actor.script.number =
      ap (λ (i : ℕ). slice_index (start.seats.by ∷ map number_of all) i) long ∙ n.1 in
      let l = b.least in record {
        is = is;
        gives = subst (λ (l : List ℕ). GivesEach start l new) (sym numbers)
            (FoldsTo-push (λ (o : FirstSeats B) (by : ℕ) (n : FirstSeats B). Gives by o n) start (map number_of actors) old actor.script.number new b.gives gives);
        gets_seats = zip_push (GetsSeats table locks start.seats) actors seated_actors actor seated_actor b.gets_seats record { actor_is = same; own = own; fresh = fresh_seats actor.script.number start old seated_actor.seats b.same given; gates = none };
        nothing = gives.nothing;
        same = same_known start.seats old.seats new.seats b.same gives.knows;
        caller = gives.number ∙ b.caller;
        below = λ x has. let h = later x (subst (λ (l : List ℕ). Contains l x) gives.gave has) n.0 in omega arith;
        least = omega (arith, n.0);
      }
    where
      later : (x : ℕ) → Contains (actor.script.number ∷ gave_of old) x → slice_index (start.seats.by ∷ map number_of all) (length actors) < actor.script.number → x ≤ actor.script.number
      later x (zero, low, is') above = let e : actor.script.number ≡ x = is' in omega arith
      later x (suc i, low, is') above = let h = b.below x (i, omega arith, is') in omega arith

  -- a newcomer with seats of its own may try its next step
  pub newcomer_may_try_next : (table : TableId) (locks : Locks B) (pictures : List Picture) (known : Seats B) (actor : Actor B) (seated_actor : SeatedActor B)
      → IsNewcomer table locks pictures known actor → GetsSeats table locks known actor seated_actor → MayTryNext table locks pictures seated_actor
  newcomer_may_try_next table locks pictures known actor seated_actor new gets_seats =
      let by : actor.script.number ≡ seated_actor.seats.by = sym gets_seats.fresh.caller in
      let homes : home_for locks actor.script.number ≡ home_of locks seated_actor.seats = ap (home_for locks) by in
      let is : IsActor table seated_actor.actor (new_actor actor.script new.stock) = subst (λ (a : Actor B). IsActor table a (new_actor actor.script new.stock)) (sym gets_seats.actor_is) new.is in
      let replies = is.trace in record {
        own = gets_seats.own;
        apart = gets_seats.fresh.apart;
        served = gets_seats.fresh.caller ∙ ap (λ (a : Actor B). a.script.number) (sym gets_seats.actor_is);
        plays = subst (λ (z : DeskHome × Actor B). MayPlay z.0 pictures z.1.script) (λ i. (homes i, sym gets_seats.actor_is i)) new.plays;
        kept = record {
          of = new_actor actor.script new.stock;
          is = is;
          keeps = subst (λ (h : DeskHome). Keeps (picture_at pictures) h (new_actor actor.script new.stock) (view_of seated_actor.seats)) homes
              (new_keeps (picture_at pictures) (home_for locks actor.script.number) (view_of seated_actor.seats) actor.script new.stock (still_new new.new));
        };
        unspent = sym is.spent;
        gates = let none = gets_seats.gates in record { done = omega arith; once = omega arith; there = omega arith };
      }
    where
      still_new : IsNew (home_for locks actor.script.number) (view_of known) actor.script new.stock → IsNew (home_for locks actor.script.number) (view_of seated_actor.seats) actor.script new.stock
      still_new was = record {
        no_calls = λ queue. ap (λ (calls : List (Made B)). own_calls actor.script.number (mark_among (home_for locks actor.script.number).marks queue) calls) (gets_seats.fresh.knows.calls queue) ∙ was.no_calls queue;
        no_arrivals = ap (λ (arrivals : List (Arrival ReadLeaseOf)). arrivals_told (tells_of locks) (filter (is_sent_by actor.script.number) arrivals)) gets_seats.fresh.knows.arrivals ∙ was.no_arrivals;
        once = was.once;
        enough = was.enough;
      }

  -- where all have their seats
  pub after_seating : (table : TableId) (locks : Locks B) (start first : FirstSeats B) (all actors : List (Actor B)) (seated_actors : List (SeatedActor B)) → actors ≡ all → Seating table locks start all actors first seated_actors
      → IsFirst table locks first × GivesEach start (map number_of all) first × AllZip (GetsSeats table locks start.seats) all seated_actors
  after_seating table locks start first all actors seated_actors whole b = (
    b.is,
    subst (λ (l : List (Actor B)). GivesEach start (map number_of l) first) whole b.gives,
    subst (λ (l : List (Actor B)). AllZip (GetsSeats table locks start.seats) l seated_actors) whole b.gets_seats,
  )

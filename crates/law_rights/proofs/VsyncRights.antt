-- What a vsync decides leaves rights where they were, or hands them on there.
use Rattle.std.proofs.Common.{◌≡◌, ℕ, ◌+◌, ◌≤◌, ◌⊎◌, Bool, true, false, List, [], ◌∷◌, ◌++◌, map, arith, ap, ◌∙◌, sym, refl, inl, inr, subst}
use Rattle.std.specs.Prelude.{Contains}
use Rattle.std.specs.List.{AllZip, flat_map, sum_by}
use Rattle.std.proofs.lemmas.List.Elements.{Contains-append_cases, Contains-append_left, Contains-append_right}
use Rattle.std.proofs.lemmas.List.Sums.{sum_by-append}
use Rattle.sf_actor_set.specs.sf_surface.Tokens.{Issued, ReadLeaseOf}
use Rattle.sf_actor_set.specs.sf_token.Pending.{Arrival}
use Rattle.sf_actor_set.specs.sf_turns.Views.{SeatView}
use Rattle.sf_actor_set.specs.sf_txn.Leases.{IsLooked}
use Rattle.sf_actor_set.specs.sf_txn.declared.lease.Lease.{Ghosts}
use Rattle.sf_actor_set.specs.sf_commit.Handlers.{HandlerOf}
use Rattle.sf_actor_set.specs.sf_commit.Leases.{HandsBack, IsReleaseOf}
use Rattle.sf_actor_set.specs.sf_commit.OnLayers.{OnLayer, shown_on}
use Rattle.sf_actor_set.specs.sf_commit.Releases.{ReleaseOf}
use Rattle.sf_actor_set.specs.sf_commit.Rounds.{Round}
use Rattle.sf_actor_set.specs.sf_actor.Rights.{Turn}
use Rattle.sf_actor_set.specs.sf_actor.Tries.{ActorOf}
use Rattle.law_played.proofs.Members.{has_map, map_has}
use Rattle.law_rights.specs.Makers.{RightAt, places_arrived, places_held, places_of, places_out, places_owed, right_read}
use Rattle.law_rights.specs.Places.{RestsAt}
use Rattle.law_rights.specs.PlaceTries.{TellsPlaces}
use Rattle.law_rights.specs.States.{State}
use Rattle.law_rights.specs.Vsyncs.{DecidesIn, IsOfTurns, lease_back, lease_on}
use Rattle.law_rights.proofs.CommitLeases.{leads_sum, looked_arrivals, on_weight, read_on, waiting_weight}
use Rattle.law_rights.proofs.TurnCounts.{first, in_front, later, none_in}
use Rattle.law_rights.proofs.MakersStepping.{counted_at, found_right, is_right}
use Rattle.law_rights.proofs.PlaceChanges.{rests_at}
use Rattle.law_rights.proofs.ReadLeases.{looked_turn}

-- what goes with an item along two lists
zip_with : {X Y : Type 0} (R : X → Y → Type 0) (xs : List X) (ys : List Y) (y : Y) → AllZip R xs ys → Contains ys y → (x : X) × Contains xs x × R x y
zip_with R [] [] y zip there = absurd (none_in y there)
zip_with R [] (b ∷ ys) y zip there = absurd zip
zip_with R (a ∷ xs) [] y zip there = absurd zip
zip_with {X} {Y} R (a ∷ xs) (b ∷ ys) y zip there = by_place (in_front b y ys there) (zip_with R xs ys y zip.1)
  where
    by_place : (b ≡ y) ⊎ Contains ys y → (Contains ys y → (x : X) × Contains xs x × R x y) → (x : X) × Contains (a ∷ xs) x × R x y
    by_place (inl same) further = (a, first a xs, subst (R a) same zip.0)
    by_place (inr rest) further = let found = further rest in (found.0, later a found.0 xs found.1, found.2)

module _ (lease : Ghosts ReadLeaseOf SeatView ReadLeaseOf Issued) (turns : IsOfTurns lease) (tells : TellsPlaces lease) where
  -- a looked lease has the right that it had, at the same place
  looked_right : (old new : ReadLeaseOf) → IsLooked lease old new → right_read new ≡ right_read old
  looked_right old new looked = let turn = looked_turn lease turns old new looked in let at = tells new old looked.plain in λ i. record { turn = turn i; at = at i }

  -- one that goes back is of the same buffer, at the same place
  handed_right : (read : Bool) (held back : ReadLeaseOf) → HandsBack lease read held back → ((right_read held).turn.0 ≡ (right_read back).turn.0) × ((right_read held).at ≡ (right_read back).at)
  handed_right true held back handed =
      let turn = sym (turns.end back) ∙ handed.2 ∙ turns.next_end held in (
        ap (λ (t : Turn). t.0) (sym turn),
        sym (tells back held handed.0),
      )
  handed_right false held back same = (ap (λ (l : ReadLeaseOf). (right_read l).turn.0) (sym same), ap (λ (l : ReadLeaseOf). (right_read l).at) (sym same))

module _ {B : Type 0} (lease : Ghosts ReadLeaseOf SeatView ReadLeaseOf Issued) (tells : TellsPlaces lease) (old new : State B) (vsync : DecidesIn lease old new) where
  abbrev end : Round ReadLeaseOf
  end = vsync.decides.end

  -- of a right that was decided on nothing is made
  decided_sum : (w : RightAt → ℕ) → waiting_weight right_read w end.pending + (on_weight right_read w end.stage.on + on_weight right_read w end.stage.gone)
      ≤ sum_by w (flat_map places_arrived old.waiting) + sum_by w (map right_read old.on)
  decided_sum w =
      let commits = leads_sum right_read w lease.shown vsync.seen vsync.expected _ vsync.decides.decided.taken end vsync.decides.decided.leads in
      let looks = ap (sum_by w) (looked_arrivals right_read lease (looked_right lease vsync.of_turns tells) (vsync.handler.pending ++ vsync.arrived) vsync.decides.looked vsync.decides.looks) in
      let waits = ap (λ (xs : List (Arrival ReadLeaseOf)). sum_by w (flat_map places_arrived xs)) vsync.waiting_old in
      let on = ap (λ (xs : List ReadLeaseOf). sum_by w (map right_read xs)) vsync.on_old in
      let plain = on_plain w vsync.handler.on in
      omega (arith, commits, looks, waits, on, plain)
    where
      on_plain : (w : RightAt → ℕ) (on : List (OnLayer ReadLeaseOf)) → sum_by w (map right_read (map lease_on on)) ≡ on_weight right_read w on
      on_plain w on = ap (sum_by w) (each on)
        where
          each : (on : List (OnLayer ReadLeaseOf)) → map right_read (map lease_on on) ≡ map (read_on right_read) on
          each [] = refl
          each (one ∷ on) = ap (λ (rs : List RightAt). right_read one.lease ∷ rs) (each on)

  abbrev Was : RightAt → Type 0
  Was right = (was : RightAt) × Contains (places_out old) was × (was.turn.0 ≡ right.turn.0) × (was.at ≡ right.at)

  abbrev actors_hold : List RightAt
  actors_hold = flat_map (λ (actor : ActorOf B). places_held actor.parts) old.actors

  -- what counts now lay there
  counts_there : (right : RightAt) → 1 ≤ waiting_weight right_read (is_right right) end.pending + (on_weight right_read (is_right right) end.stage.on + on_weight right_read (is_right right) end.stage.gone)
      → Contains (places_out old) right
  counts_there right counts = by_place (Contains-append_cases (flat_map places_arrived old.waiting) (map right_read old.on) right (found_right right (flat_map places_arrived old.waiting ++ map right_read old.on) many))
    where
      many : 1 ≤ sum_by (is_right right) (flat_map places_arrived old.waiting ++ map right_read old.on)
      many =
          let sums = decided_sum (is_right right) in
          let joined = sum_by-append (is_right right) (flat_map places_arrived old.waiting) (map right_read old.on) in
          omega (arith, counts, sums, joined)

      by_place : Contains (flat_map places_arrived old.waiting) right ⊎ Contains (map right_read old.on) right → Contains (places_out old) right
      by_place (inl waits) = Contains-append_left (actors_hold ++ flat_map places_arrived old.waiting) (map right_read old.on) right (Contains-append_right actors_hold (flat_map places_arrived old.waiting) right waits)
      by_place (inr on) = Contains-append_right (actors_hold ++ flat_map places_arrived old.waiting) (map right_read old.on) right on

  itself : (right : RightAt) → Contains (places_out old) right → Was right
  itself right there = (right, there, refl, refl)

  waits_there : (right : RightAt) → Contains (flat_map places_arrived end.pending) right → Was right
  waits_there right there = itself right (counts_there right (let counts = counted_at right (flat_map places_arrived end.pending) there in omega (arith, counts)))

  on_there : (one : OnLayer ReadLeaseOf) → Contains end.stage.on one → Was (right_read one.lease)
  on_there one there =
      let right = right_read one.lease in
      itself right (counts_there right (let counts = counted_at right (map (read_on right_read) end.stage.on) (has_map (read_on right_read) end.stage.on one there) in omega (arith, counts)))

  gone_there : (one : OnLayer ReadLeaseOf) → Contains end.stage.gone one → Contains (places_out old) (right_read one.lease)
  gone_there one there =
      let right = right_read one.lease in
      counts_there right (let counts = counted_at right (map (read_on right_read) end.stage.gone) (has_map (read_on right_read) end.stage.gone one there) in omega (arith, counts))

  back_there : (release : ReleaseOf ReadLeaseOf) → Contains vsync.told.releases release → Was (right_read release.lease)
  back_there release there =
      let gone = zip_with (IsReleaseOf lease) end.stage.gone vsync.told.releases release vsync.decides.settled.releases there in
      let same = handed_right lease vsync.of_turns tells gone.0.is_read gone.0.lease release.lease gone.2.handed in
      (right_read gone.0.lease, gone_there gone.0 gone.1, same.0, same.1)

  shown_there : (l : ReadLeaseOf) → Contains (map lease_on vsync.after.on) l → Was (right_read l)
  shown_there l there =
      let on = ap (λ (h : HandlerOf ReadLeaseOf). h.on) vsync.decides.settled.state in
      let found = map_has lease_on (map shown_on end.stage.on) l (subst (λ (xs : List (OnLayer ReadLeaseOf)). Contains (map lease_on xs) l) on there) in
      let one = map_has shown_on end.stage.on found.0 found.1 in
      subst (λ (k : ReadLeaseOf). Was (right_read k)) (ap lease_on one.2 ∙ found.2) (on_there one.0 one.1)

  held_there : (l : ReadLeaseOf) → Contains (map lease_back vsync.told.releases) l → Was (right_read l)
  held_there l there =
      let found = map_has lease_back vsync.told.releases l there in
      subst (λ (k : ReadLeaseOf). Was (right_read k)) found.2 (back_there found.0 found.1)

  out : (right : RightAt) → Contains (places_out new) right → Was right
  out right there = elim (Contains-append_cases (flat_map (λ (actor : ActorOf B). places_held actor.parts) new.actors ++ flat_map places_arrived new.waiting) (map right_read new.on) right there) [
    | inl front ↦ elim (Contains-append_cases (flat_map (λ (actor : ActorOf B). places_held actor.parts) new.actors) (flat_map places_arrived new.waiting) right front) [
      | inl held ↦ itself right (Contains-append_left (actors_hold ++ flat_map places_arrived old.waiting) (map right_read old.on) right (Contains-append_left actors_hold (flat_map places_arrived old.waiting) right
          (subst (λ (ofs : List (ActorOf B)). Contains (flat_map (λ (actor : ActorOf B). places_held actor.parts) ofs) right) (ap (λ (st : State B). st.actors) vsync.same) held)))
      | inr waits ↦ waits_there right (subst (λ (xs : List (Arrival ReadLeaseOf)). Contains (flat_map places_arrived xs) right) (vsync.waiting_new ∙ ap (λ (h : HandlerOf ReadLeaseOf). h.pending) vsync.decides.settled.state) waits)
    ]
    | inr on ↦ on_now (map_has right_read new.on right on)
  ]
    where
      on_now : (l : ReadLeaseOf) × Contains new.on l × (right_read l ≡ right) → Was right
      on_now found = subst Was found.2 (elim (Contains-append_cases (map lease_back vsync.told.releases) (map lease_on vsync.after.on) found.0 (subst (λ (xs : List ReadLeaseOf). Contains xs found.0) vsync.on_new found.1)) [
        | inl back ↦ held_there found.0 back
        | inr shown ↦ shown_there found.0 shown
      ])

  pub decides_rests : RestsAt (places_of old) (places_of new)
  decides_rests = rests_at old new (ap (λ (st : State B). st.marks) vsync.same) vsync.calls out
      (λ write there. subst (λ (ofs : List (ActorOf B)). Contains (flat_map (λ (actor : ActorOf B). places_owed actor.parts) ofs) write) (ap (λ (st : State B). st.actors) vsync.same) there)

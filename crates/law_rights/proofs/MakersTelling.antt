-- Makers that are followed tell of the turns at buffers.
use Rattle.std.proofs.Common.{◌≡◌, ℕ, ◌<◌, ◌⊎◌, ◌==◌, ◌&&◌, ◌||◌, Bool, true, false, nat_lt, [], ◌++◌, map, Some, arith, refl, ap, sym, ◌∙◌, subst, inl, inr}
use Rattle.std.specs.Prelude.{Contains}
use Rattle.std.specs.List.{flat_map}
use Rattle.std.proofs.lemmas.Bool.{eq-eqb, false≢true}
use Rattle.std.proofs.lemmas.List.Elements.{Contains-append_left, Contains-append_right}
use Rattle.sf_actor_set.specs.sf_surface.declared.mark.QueueMark.{QueueMark}
use Rattle.sf_actor_set.specs.sf_actor.declared.holding.Holding.{Holding}
use Rattle.sf_actor_set.specs.sf_actor.declared.holding.Holding.TheVariants as holding
use Rattle.sf_actor_set.specs.sf_actor.Makers.{BufferOf, Maker, Run, buffer_in, followed, is_before, same_maker}
use Rattle.sf_actor_set.specs.sf_actor.Names.{is_owing}
use Rattle.sf_actor_set.specs.sf_actor.Holdings.{token_of, turn_held}
use Rattle.sf_actor_set.specs.sf_actor.Rights.{Turn}
use Rattle.sf_actor_set.specs.sf_actor.Tries.{ActorOf}
use Rattle.law_played.specs.Turns.{owed_frame}
use Rattle.law_played.proofs.Members.{has_here, has_joined}
use Rattle.law_rights.specs.Ledgers.{IsLedger}
use Rattle.law_rights.specs.Makers.{IsTraced, MakersStand, RightAt, Stays, WriteAt, maker_in, place_of, place_owed, places_arrived, places_held, places_in, places_lying, places_of, places_out, places_owed, right_read}
use Rattle.law_rights.specs.Older.{IsHeld, MakersTell}
use Rattle.law_rights.specs.Owed.{MayDraw}
use Rattle.law_rights.specs.States.{State, all_lying, lease_turn, ledger_of, right_of, rights_arrived, rights_held, rights_in, rights_of}
use Rattle.law_rights.proofs.BufferOrigins.{followed_back}

-- what is traced is followed to its maker
pub traced_back : (run : Run) (most : ℕ) (stays : Stays) (stay : BufferOf) → IsTraced run most stays stay → followed most run stay ≡ maker_in stays stay
traced_back run most stays stay traced = followed_back run most stay (stays.before stay) traced.follows traced.few

pub one_made : (one other : Maker) → one.made ≡ other.made → same_maker one other ≡ true
one_made one other same = rw (same, eq-eqb other.made.queue other.made.queue refl, eq-eqb other.made.number other.made.number refl) refl

is_less : (a b : ℕ) → a < b → nat_lt a b ≡ true
is_less a b less = grind (arith, less)

rising : (age frame other later : ℕ) → (age < other) ⊎ ((age ≡ other) × frame < later) → is_before age frame other later ≡ true
rising age frame other later (inl less) = rw (is_less age other less) refl
rising age frame other later (inr same) = by_age (nat_lt age other)
  where
    by_age : (b : Bool) → (b || ((age == other) && nat_lt frame later)) ≡ true
    by_age true = refl
    by_age false = rw (eq-eqb age other same.0, is_less frame later same.1) refl

module _ {B : Type 0} (run : Run) (most : ℕ) (state : State B) (stands : IsLedger (ledger_of state)) (makers : MakersStand run most state) where
  abbrev stays : Stays
  stays = makers.stays

  pub right_there : (held : Holding B) (right : RightAt) → IsHeld state.actors held → Contains (place_of (Some held)) right → Contains (places_of state).live right
  right_there held right is there =
      let named = has_joined place_of is.of.parts.names (Some held) right is.named there in
      let own : Contains (places_held is.of.parts) right = Contains-append_left (flat_map place_of is.of.parts.names) (flat_map places_in is.of.parts.transactions) right named in
      Contains-append_right (flat_map (λ (mark : QueueMark). places_lying mark (state.view.calls mark.queue.0)) state.marks) (places_out state) right
      (Contains-append_left (flat_map (λ (actor : ActorOf B). places_held actor.parts) state.actors ++ flat_map places_arrived state.waiting) (map right_read state.on) right
      (Contains-append_left (flat_map (λ (actor : ActorOf B). places_held actor.parts) state.actors) (flat_map places_arrived state.waiting) right (has_joined (λ (actor : ActorOf B). places_held actor.parts) state.actors is.of right is.there own)))

  pub write_there : (held : Holding B) (write : WriteAt) → IsHeld state.actors held → Contains (place_owed (Some held)) write → Contains (places_of state).queued write
  write_there held write is there =
      makers.are.owed write (has_joined (λ (actor : ActorOf B). places_owed actor.parts) state.actors is.of write is.there (has_joined place_owed is.of.parts.names (Some held) write is.named there))

  pub turn_there : (held : Holding B) (turn : Turn) → IsHeld state.actors held → Contains (right_of (Some held)) turn → Contains (ledger_of state).live turn
  turn_there held turn is there =
      let named = has_joined right_of is.of.parts.names (Some held) turn is.named there in
      let own : Contains (rights_of is.of.parts) turn = Contains-append_left (flat_map right_of is.of.parts.names) (flat_map rights_in is.of.parts.transactions) turn named in
      Contains-append_right (all_lying state.marks state.view.calls) (rights_held state) turn
      (Contains-append_left (flat_map (λ (actor : ActorOf B). rights_of actor.parts) state.actors ++ flat_map rights_arrived state.waiting) (map lease_turn state.on) turn
      (Contains-append_left (flat_map (λ (actor : ActorOf B). rights_of actor.parts) state.actors) (flat_map rights_arrived state.waiting) turn (has_joined (λ (actor : ActorOf B). rights_of actor.parts) state.actors is.of turn is.there own)))

  -- what a name holds is followed to the maker of its buffer
  pub record IsTold (held : Holding B) : Type 0 where
    pub follows : followed most run (buffer_in (token_of held)) ≡ maker_in stays (buffer_in (token_of held))
    pub one_maker : (maker_in stays (buffer_in (token_of held))).made ≡ (maker_in stays (stays.last (turn_held held).0)).made

  pub held_told : (held : Holding B) → IsHeld state.actors held → MayDraw held → IsTold held
  held_told (holding.Lends lease) is may =
      let at = makers.are.live _ (right_there (holding.Lends lease) _ is (has_here _ [])) in
      let traced = makers.are.made _ (stands.live_made _ (turn_there (holding.Lends lease) _ is (has_here _ []))) in
      record {
        follows = traced_back run most stays _ (subst (IsTraced run most stays) (sym at) traced);
        one_maker = ap (λ (stay : BufferOf). (maker_in stays stay).made) at;
      }
  held_told (holding.Owes owing held) is may =
      let stay = makers.are.queued _ (write_there (holding.Owes owing held) _ is (has_here _ [])) in
      record { follows = traced_back run most stays _ stay.traced; one_maker = stay.one_maker }
  held_told (holding.Reads lease) is may = absurd may
  held_told (holding.Frees queue loose) is may = absurd may

  owes_draw : (held : Holding B) → is_owing (Some (token_of held)) ≡ true → MayDraw held
  owes_draw (holding.Owes owing held) owes = tt
  owes_draw (holding.Lends lease) owes = tt
  owes_draw (holding.Reads lease) owes = absurd (false≢true owes)
  owes_draw (holding.Frees queue loose) owes = absurd (false≢true owes)

  same_told : (one other : Holding B) → IsTold one → IsTold other → (turn_held one).0 ≡ (turn_held other).0
      → same_maker (followed most run (buffer_in (token_of one))) (followed most run (buffer_in (token_of other))) ≡ true
  same_told one other is too buffer = one_made (followed most run (buffer_in (token_of one))) (followed most run (buffer_in (token_of other)))
      (ap (λ (m : Maker). m.made) is.follows ∙ is.one_maker ∙ ap (λ (b : ℕ). (maker_in stays (stays.last b)).made) buffer ∙ sym too.one_maker ∙ ap (λ (m : Maker). m.made) (sym too.follows))

  order_told : (one other : Holding B) → IsHeld state.actors one → IsHeld state.actors other → is_owing (Some (token_of one)) ≡ true → is_owing (Some (token_of other)) ≡ true
      → (turn_held one).0 ≡ (turn_held other).0 → (turn_held one).1 < (turn_held other).1
      → is_before (followed most run (buffer_in (token_of one))).age (owed_frame (token_of one)) (followed most run (buffer_in (token_of other))).age (owed_frame (token_of other)) ≡ true
  order_told (holding.Owes owing held) (holding.Owes second kept) is too owes owe buffer less =
      let mine = held_told (holding.Owes owing held) is tt in
      let theirs = held_told (holding.Owes second kept) too tt in
      rw (mine.follows, theirs.follows) (rising _ _ _ _
      (makers.are.rises _ _ (write_there (holding.Owes owing held) _ is (has_here _ [])) (write_there (holding.Owes second kept) _ too (has_here _ [])) buffer less))
  order_told (holding.Owes owing held) (holding.Lends lease) is too owes owe buffer less = absurd (false≢true owe)
  order_told (holding.Owes owing held) (holding.Reads lease) is too owes owe buffer less = absurd (false≢true owe)
  order_told (holding.Owes owing held) (holding.Frees queue loose) is too owes owe buffer less = absurd (false≢true owe)
  order_told (holding.Lends lease) other is too owes owe buffer less = absurd (false≢true owes)
  order_told (holding.Reads lease) other is too owes owe buffer less = absurd (false≢true owes)
  order_told (holding.Frees queue loose) other is too owes owe buffer less = absurd (false≢true owes)

  pub makers_tell : MakersTell (followed most run) state.actors
  makers_tell = record {
    same = λ one other is too owes may buffer. same_told one other (held_told one is (owes_draw one owes)) (held_told other too may) buffer;
    order = λ one other is too owes owe buffer less. order_told one other is too owes owe buffer less;
  }

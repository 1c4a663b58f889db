-- Where a look shows that all earlier turns at pixels have left, no older draw is owed.
use Rattle.std.proofs.Common.{◌≡◌, ℕ, ◌<◌, ◌⊎◌, ◌==◌, ◌&&◌, Bool, true, false, nat_lt, List, [], map, Option, Some, None, ◌≤◌, arith, refl, ap, sym, ◌∙◌, subst, inl, inr}
use Rattle.std.specs.Prelude.{Contains, option_to_list}
use Rattle.std.specs.List.{flat_map}
use Rattle.std.specs.Option.{option_map}
use Rattle.std.proofs.lemmas.Bool.{cases_Bool, cases_lt, eqb-true, false≢true}
use Rattle.sf_actor_set.specs.sf_commit.Handlers.{HandlerOf}
use Rattle.sf_actor_set.specs.sf_picture.declared.picture.Picture.{Picture}
use Rattle.sf_actor_set.specs.sf_script_scene.Scene.{SceneValue}
use Rattle.sf_actor_set.specs.sf_script_scene.declared.step.ActorScript.{ActorScript}
use Rattle.sf_slots.specs.declared.slot.Held.{Held}
use Rattle.sf_actor_set.specs.sf_surface.Drawing.{MayEnter}
use Rattle.sf_actor_set.specs.sf_surface.Tokens.{OwingOf, ReadLeaseOf, turn_of}
use Rattle.sf_actor_set.specs.sf_turns.Counts.{IsExact, leaves_of}
use Rattle.sf_actor_set.specs.sf_turns.Views.{SeatView}
use Rattle.sf_actor_set.specs.sf_actor.declared.done.Done.{Done}
use Rattle.sf_actor_set.specs.sf_actor.declared.holding.Holding.{Holding}
use Rattle.sf_actor_set.specs.sf_actor.declared.holding.Holding.TheVariants as holding
use Rattle.sf_actor_set.specs.sf_actor.Desks.{DeskHome, DeskView}
use Rattle.sf_actor_set.specs.sf_actor.Makers.{BufferOf, Maker, Run, buffer_in, followed, is_before, is_older, same_maker}
use Rattle.sf_actor_set.specs.sf_actor.Names.{Holdings, Token, is_owing}
use Rattle.sf_actor_set.specs.sf_actor.Holdings.{token_of, turn_held}
use Rattle.sf_actor_set.specs.sf_actor.Rights.{issued_turn, turn_by}
use Rattle.sf_actor_set.specs.sf_actor.Scripts.{picture_at}
use Rattle.sf_actor_set.specs.sf_actor.Traces.{past_after}
use Rattle.sf_actor_set.specs.sf_actor.Tries.{ActorOf}
use Rattle.law_played.specs.Actors.{AreActors, run_of}
use Rattle.law_played.specs.Stepping.{TellsFirst}
use Rattle.law_played.specs.Stuck.{has_older, holdings_at_end, owings_left, owings_of}
use Rattle.law_played.specs.Turns.{calls_in, maker_at}
use Rattle.law_played.proofs.AsQueued.{one_passes}
use Rattle.law_played.proofs.Members.{filter_has, has_here, has_joined, map_has}
use Rattle.law_played.proofs.RunTraces.{played_by, trace_here}
use Rattle.law_rights.specs.Actors.{AreOver}
use Rattle.law_rights.specs.Ledgers.{IsLedger, Write}
use Rattle.law_rights.specs.Makers.{MakersStand, WriteAt, buffer_of, maker_in, places_of}
use Rattle.law_rights.specs.Older.{IsHeld}
use Rattle.law_rights.specs.Owed.{MayDraw}
use Rattle.law_rights.specs.Standing.{LedgerStands, state_of}
use Rattle.law_rights.specs.States.{State, ledger_of, owed_of, write_owed}
use Rattle.law_rights.proofs.TurnCounts.{none_in, the_only}
use Rattle.law_rights.proofs.LookResults.{below_left}
use Rattle.law_rights.proofs.MakersTelling.{held_told, traced_back, turn_there, write_there}
use Rattle.law_rights.proofs.QueueCounts.{in_some}
use Rattle.law_rights.proofs.OlderLemmas.{get_there}
use Rattle.law_rights.proofs.OwedTraces.{owed_unwritten}
use Rattle.law_rights.proofs.PermitStock.{made_in_stocks}

pub both_met : (a b : Bool) → (a && b) ≡ true → (a ≡ true) × (b ≡ true)
both_met true b e = (refl, e)
both_met false b e = absurd (false≢true e)

pub one_maker_is : (one other : Maker) → same_maker one other ≡ true → one.made ≡ other.made
one_maker_is one other same =
    let parts = both_met (one.made.queue == other.made.queue) (one.made.number == other.made.number) same in
    let queue = eqb-true one.made.queue other.made.queue parts.0 in
    let number = eqb-true one.made.number other.made.number parts.1 in
    λ i. record { queue = queue i; number = number i }

less_met : (a b : ℕ) → nat_lt a b ≡ true → a < b
less_met a b met = grind (arith, met)

pub before_means : (age frame other later : ℕ) → is_before age frame other later ≡ true → (age < other) ⊎ ((age ≡ other) × frame < later)
before_means age frame other later met = elim (cases_Bool (nat_lt age other)) [
  | inl less ↦ inl (less_met age other less)
  | inr unmet ↦
      let rest : ((age == other) && nat_lt frame later) ≡ true = rw unmet at met in
      let parts = both_met (age == other) (nat_lt frame later) rest in
      inr (eqb-true age other parts.0, less_met frame later parts.1)
]

pub the_some : {X : Type 0} (o : Option X) (x : X) → Contains (option_to_list o) x → o ≡ Some x
the_some None x there = absurd (none_in x there)
the_some (Some y) x there = ap (λ z. Some z) (the_only y x there)

module _ {B : Type 0} where
  abbrev owed_held : OwingOf → Held → Holding B
  owed_held owing size = holding.Owes owing size

  record IsOwing (held : Holding B) : Type 0 where
    owing : OwingOf
    size : Held
    is : held ≡ holding.Owes owing size

  owes_it : (held : Holding B) → is_owing (Some (token_of held)) ≡ true → IsOwing held
  owes_it (holding.Owes owing size) met = record { owing = owing; size = size; is = refl }
  owes_it (holding.Lends lease) met = absurd (false≢true met)
  owes_it (holding.Reads lease) met = absurd (false≢true met)
  owes_it (holding.Frees queue loose) met = absurd (false≢true met)

  token_held : (held : Option (Holding B)) (token : Token) → option_map token_of held ≡ Some token → (is : Holding B) × (held ≡ Some is) × (token_of is ≡ token)
  token_held None token same = absurd (cc (same))
  token_held (Some held) token same = (held, refl, let one : token_of held ≡ token = cc in one)

  -- an owing is older than what may be drawn alone
  older_may : (maker : BufferOf → Maker) (owing : OwingOf) (size : Held) (held : Holding B) → is_older maker (token_of (owed_held owing size)) (token_of held) ≡ true → MayDraw held
  older_may maker owing size (holding.Lends lease) met = tt
  older_may maker owing size (holding.Owes other kept) met = tt
  older_may maker owing size (holding.Reads lease) met = absurd (false≢true met)
  older_may maker owing size (holding.Frees queue loose) met = absurd (false≢true met)

  older_one : (maker : BufferOf → Maker) (owing : OwingOf) (size : Held) (held : Holding B) → is_older maker (token_of (owed_held owing size)) (token_of held) ≡ true
      → same_maker (maker (buffer_in (token_of (owed_held owing size)))) (maker (buffer_in (token_of held))) ≡ true
  older_one maker owing size (holding.Lends lease) met = met
  older_one maker owing size (holding.Owes other kept) met = (both_met _ _ met).0
  older_one maker owing size (holding.Reads lease) met = absurd (false≢true met)
  older_one maker owing size (holding.Frees queue loose) met = absurd (false≢true met)

  module _ (run : Run) (most : ℕ) (state : State B) (stands : IsLedger (ledger_of state)) (makers : MakersStand run most state) where
    owed_there : (owing : OwingOf) (size : Held) → IsHeld state.actors (holding.Owes owing size) → Contains (ledger_of state).owed (record { turn = issued_turn owing.turn; frame = (owing.queue, owing.frame) })
    owed_there owing size is =
        has_joined (λ (actor : ActorOf B). owed_of actor.parts) state.actors is.of _ is.there (has_joined write_owed is.of.parts.names (Some (holding.Owes owing size)) _ is.named (has_here _ []))

    -- the buffer of what may be drawn was made
    pub made_there : (held : Holding B) → IsHeld state.actors held → MayDraw held → Contains (ledger_of state).made (turn_held held).0
    made_there (holding.Lends lease) is may = stands.live_made _ (turn_there run most state stands makers (holding.Lends lease) _ is (has_here _ []))
    made_there (holding.Owes owing size) is may = stands.queued_made _ (stands.owed_queued _ (owed_there owing size is))
    made_there (holding.Reads lease) is may = absurd may
    made_there (holding.Frees queue loose) is may = absurd may

    -- of one maker, so of one buffer
    pub same_buffer : (one other : Holding B) → IsHeld state.actors one → IsHeld state.actors other → MayDraw one → MayDraw other
        → same_maker (followed most run (buffer_in (token_of one))) (followed most run (buffer_in (token_of other))) ≡ true → (turn_held one).0 ≡ (turn_held other).0
    same_buffer one other is too may can same =
        let mine = held_told run most state stands makers one is may in
        let theirs = held_told run most state stands makers other too can in
        let made = one_maker_is (followed most run (buffer_in (token_of one))) (followed most run (buffer_in (token_of other))) same in
        makers.are.apart (turn_held one).0 (turn_held other).0 (made_there one is may) (made_there other too can)
        (sym mine.one_maker ∙ sym (ap (λ (m : Maker). m.made) mine.follows) ∙ made ∙ ap (λ (m : Maker). m.made) theirs.follows ∙ theirs.one_maker)

    -- of what is queued in one buffer, the turn of an earlier write comes before
    pub queued_first : (one other : WriteAt) → Contains (places_of state).queued one → Contains (places_of state).queued other → one.write.turn.0 ≡ other.write.turn.0
        → is_before (followed most run (buffer_of one)).age one.write.frame.1 (followed most run (buffer_of other)).age other.write.frame.1 ≡ true → one.write.turn.1 < other.write.turn.1
    queued_first one other one_there other_there buffer met = by_order (cases_lt one.write.turn.1 other.write.turn.1) (cases_lt other.write.turn.1 one.write.turn.1)
      where
        age : ℕ
        age = (maker_in makers.stays (buffer_of one)).age

        older : ℕ
        older = (maker_in makers.stays (buffer_of other)).age

        before : (age < older) ⊎ ((age ≡ older) × one.write.frame.1 < other.write.frame.1)
        before = before_means age one.write.frame.1 older other.write.frame.1
            (subst (λ (a : Maker). is_before a.age one.write.frame.1 older other.write.frame.1 ≡ true) (traced_back run most makers.stays (buffer_of one) ((makers.are.queued one one_there).traced))
            (subst (λ (b : Maker). is_before (followed most run (buffer_of one)).age one.write.frame.1 b.age other.write.frame.1 ≡ true)
            (traced_back run most makers.stays (buffer_of other) ((makers.are.queued other other_there).traced)) met))

        not_after : (older < age) ⊎ ((older ≡ age) × other.write.frame.1 < one.write.frame.1) → (age < older) ⊎ ((age ≡ older) × one.write.frame.1 < other.write.frame.1) → ⊥
        not_after (inl more) (inl less) = omega (arith, more, less)
        not_after (inl more) (inr less) = let same = less.0 in omega (arith, more, same)
        not_after (inr more) (inl less) = let same = more.0 in omega (arith, same, less)
        not_after (inr more) (inr less) = let one_less = less.1 in let one_more = more.1 in omega (arith, one_less, one_more)

        not_same : one ≡ other → (age < older) ⊎ ((age ≡ older) × one.write.frame.1 < other.write.frame.1) → ⊥
        not_same same (inl less) = let ages = ap (λ (w : WriteAt). (maker_in makers.stays (buffer_of w)).age) same in omega (arith, ages, less)
        not_same same (inr less) = let frames = ap (λ (w : WriteAt). w.write.frame.1) same in let fewer = less.1 in omega (arith, frames, fewer)

        by_order : (one.write.turn.1 < other.write.turn.1) ⊎ (other.write.turn.1 ≤ one.write.turn.1) → (other.write.turn.1 < one.write.turn.1) ⊎ (one.write.turn.1 ≤ other.write.turn.1)
            → one.write.turn.1 < other.write.turn.1
        by_order (inl less) other_way = less
        by_order (inr past) (inl more) = absurd (not_after (makers.are.rises other one other_there one_there (sym buffer) more) before)
        by_order (inr past) (inr back) =
            let number : one.write.turn.1 ≡ other.write.turn.1 = omega (arith, past, back) in
            absurd (not_same (makers.are.once one other one_there other_there (λ i. (buffer i, number i))) before)

    -- the turn of an older draw comes before
    owed_first : (owing second : OwingOf) (size kept : Held) → IsHeld state.actors (holding.Owes owing size) → IsHeld state.actors (holding.Owes second kept) → (issued_turn owing.turn).0 ≡ (issued_turn second.turn).0
        → is_before (followed most run (buffer_in (token_of (owed_held owing size)))).age owing.frame (followed most run (buffer_in (token_of (owed_held second kept)))).age second.frame ≡ true
        → (issued_turn owing.turn).1 < (issued_turn second.turn).1
    owed_first owing second size kept is too buffer met =
        let one : WriteAt = record { write = record { turn = issued_turn owing.turn; frame = (owing.queue, owing.frame) }; number = size.number } in
        let other : WriteAt = record { write = record { turn = issued_turn second.turn; frame = (second.queue, second.frame) }; number = kept.number } in
        queued_first one other (write_there run most state stands makers (holding.Owes owing size) one is (has_here one []))
        (write_there run most state stands makers (holding.Owes second kept) other too (has_here other [])) buffer met

    -- and so does the turn of what is owed before a lease
    pub older_first : (owing : OwingOf) (size : Held) (held : Holding B) → IsHeld state.actors (holding.Owes owing size) → IsHeld state.actors held → (issued_turn owing.turn).0 ≡ (turn_held held).0
        → is_older (followed most run) (token_of (owed_held owing size)) (token_of held) ≡ true → (issued_turn owing.turn).1 < (turn_held held).1
    older_first owing size (holding.Lends lease) is too buffer met =
        stands.after_queued (turn_by (turn_of lease.work)) (record { turn = issued_turn owing.turn; frame = (owing.queue, owing.frame) })
        (turn_there run most state stands makers (holding.Lends lease) _ too (has_here _ [])) (stands.owed_queued _ (owed_there owing size is)) buffer
    older_first owing size (holding.Owes second kept) is too buffer met = owed_first owing second size kept is too buffer (both_met _ _ met).1
    older_first owing size (holding.Reads lease) is too buffer met = absurd (false≢true met)
    older_first owing size (holding.Frees queue loose) is too buffer met = absurd (false≢true met)

  module _ (scene : SceneValue) (ofs : List (ActorOf B)) (home : DeskHome) (view : DeskView B) (actors : AreActors scene ofs home view) where
    abbrev run : Run
    run = run_of ofs home view

    -- what is owed at the end is owed by a name
    record IsOwedBy (token : Token) : Type 0 where
      held : Holding B
      is : IsHeld ofs held
      same : token_of held ≡ token
      owes : is_owing (Some (token_of held)) ≡ true

    owed_by : (token : Token) → Contains (owings_left scene run) token → IsOwedBy token
    owed_by token there =
        let found = in_some (owings_of run) scene.actors token there in
        let played = played_by scene ofs home view found.0 actors found.1 in
        let traced : run.trace found.0.number ≡ played.of.trace = ap (λ (s : ActorScript). run.trace s.number) (sym played.is) ∙ trace_here ofs played.of actors.apart played.there in
        let passed = filter_has (λ token. is_owing (Some token)) (flat_map option_to_list (holdings_at_end run found.0).names) token found.2 in
        let at = in_some option_to_list (holdings_at_end run found.0).names token passed.0 in
        let names : (holdings_at_end run found.0).names ≡ map (option_map token_of) played.of.parts.names =
        ap (λ (t : List Done). (past_after t).holdings.names) traced ∙ ap (λ (h : Holdings). h.names) (sym played.keeps.kept.has) in
        let name = map_has (option_map token_of) played.of.parts.names at.0 (subst (λ (xs : List (Option Token)). Contains xs at.0) names at.1) in
        let held = token_held name.0 token (name.2 ∙ the_some at.0 token at.2) in
        record {
          held = held.0;
          is = record { of = played.of; there = played.there; named = subst (λ (o : Option (Holding B)). Contains played.of.parts.names o) held.1 name.1 };
          same = held.2;
          owes = ap (λ (t : Token). is_owing (Some t)) held.2 ∙ passed.1;
        }

    module _ (pictures : ℕ → Picture) (buffers : ℕ) (handler : HandlerOf ReadLeaseOf) (stands : LedgerStands buffers home view ofs handler) (over : AreOver pictures home view ofs)
        (exact : IsExact buffers view.turns.leaves view.turns.seen) (makers : MakersStand run (calls_in scene run) (state_of home view ofs handler)) where
      abbrev state : State B
      state = state_of home view ofs handler

      -- a turn before the count that is looked at is not owed
      not_owed_below : (owing : OwingOf) (size : Held) → IsHeld ofs (holding.Owes owing size) → (issued_turn owing.turn).1 < leaves_of (issued_turn owing.turn).0 view.turns.leaves → ⊥
      not_owed_below owing size is below =
          let write : Write = record { turn = issued_turn owing.turn; frame = (owing.queue, owing.frame) } in
          let queued = stands.ledger.owed_queued write (owed_there run (calls_in scene run) state stands.ledger makers owing size is) in
          let low = stands.below write.turn.0 (made_in_stocks pictures home view ofs over write.turn.0 (stands.ledger.queued_made write queued)) in
          let left = below_left buffers view.turns.leaves view.turns.seen write.turn exact low below in
          owed_unwritten (picture_at scene.pictures) home view ofs actors.keep actors.apart is.of is.there owing size is.named (stands.ledger.left_written write queued left)

      none_older : (held : Holding B) → IsHeld ofs held → view.turns.is_first ≡ true → view.turns.out ≡ 0 → (now : SeatView) → MayEnter (turn_held held).0 (turn_held held).1 view.turns now
          → (token : Token) → Contains (owings_left scene run) token → is_older (maker_at scene run) token (token_of held) ≡ true → ⊥
      none_older held there first alone now enters token left met = by_owed (owed_by token left)
        where
          by_owed : IsOwedBy token → ⊥
          by_owed by =
              let owes = owes_it by.held by.owes in
              let one : Holding B = holding.Owes owes.owing owes.size in
              let is : IsHeld ofs one = subst (IsHeld ofs) owes.is by.is in
              let older : is_older (maker_at scene run) (token_of one) (token_of held) ≡ true =
              subst (λ (t : Token). is_older (maker_at scene run) t (token_of held) ≡ true) (sym (ap token_of (sym owes.is) ∙ by.same)) met in
              let may = older_may (maker_at scene run) owes.owing owes.size held older in
              let buffer = same_buffer run (calls_in scene run) state stands.ledger makers one held is there tt may (older_one (maker_at scene run) owes.owing owes.size held older) in
              let less = older_first run (calls_in scene run) state stands.ledger makers owes.owing owes.size held is there buffer older in
              let count = enters.1.3 first alone in
              let number = enters.2 in
              let same = ap (λ (b : ℕ). leaves_of b view.turns.leaves) buffer in
              not_owed_below owes.owing owes.size is (omega (arith, less, count, number, same))

      pub tells_first : view.turns.is_first ≡ true → view.turns.out ≡ 0 → (of : ActorOf B) → Contains ofs of → TellsFirst scene run of view
      tells_first first alone of there = record {
        none = λ name held now here enters.
            let is : IsHeld ofs held = record { of = of; there = there; named = get_there of.parts.names name held here } in
            elim (cases_Bool (has_older scene run (token_of held))) [
              | inl met ↦
                  let found = one_passes (λ owing. is_older (maker_at scene run) owing (token_of held)) (owings_left scene run) met in
                  absurd (none_older held is first alone now enters found.0 found.1 found.2)
              | inr unmet ↦ unmet
            ];
      }

-- The reads of what goes end one after another, and a vsync keeps the ledger.
use Rattle.std.proofs.Common.{◌≡◌, ℕ, ◌+◌, ◌≤◌, Bool, true, false, List, [], ◌∷◌, ◌++◌, arith, ap, ◌∙◌, sym, refl, subst, map, append_assoc}
use Rattle.std.specs.List.{AllZip, flat_map, sum_by}
use Rattle.std.proofs.lemmas.List.{append-nil}
use Rattle.std.proofs.lemmas.List.Elements.{Contains-append_right}
use Rattle.std.proofs.lemmas.List.Sums.{sum_by-append, sum_by-cons}
use Rattle.sf_actor_set.specs.sf_surface.Tokens.{Issued, ReadLeaseOf}
use Rattle.sf_actor_set.specs.sf_token.Pending.{Arrival}
use Rattle.sf_actor_set.specs.sf_turns.Views.{SeatView}
use Rattle.sf_actor_set.specs.sf_txn.Leases.{IsLooked}
use Rattle.sf_actor_set.specs.sf_txn.declared.lease.Lease.{Ghosts}
use Rattle.sf_actor_set.specs.sf_commit.Handlers.{HandlerOf}
use Rattle.sf_actor_set.specs.sf_commit.Leases.{HandsBack, IsReleaseOf}
use Rattle.sf_actor_set.specs.sf_commit.Lending.{ends_of, left_if, reads_of}
use Rattle.sf_actor_set.specs.sf_commit.OnLayers.{OnLayer, shown_on}
use Rattle.sf_actor_set.specs.sf_commit.Releases.{ReleaseOf}
use Rattle.sf_actor_set.specs.sf_commit.Rounds.{Round}
use Rattle.sf_actor_set.specs.sf_actor.Desks.{DeskView}
use Rattle.sf_actor_set.specs.sf_actor.Rights.{Turn, turn_by}
use Rattle.sf_actor_set.specs.sf_actor.Tries.{ActorOf}
use Rattle.law_rights.specs.Ledgers.{IsLedger}
use Rattle.law_rights.specs.Moves.{Gets, HasAtMost, turn_after}
use Rattle.law_rights.specs.States.{State, all_owed, all_written, lease_turn, ledger_of, rights_arrived, rights_held, rights_of}
use Rattle.law_rights.specs.Vsyncs.{DecidesIn, IsOfTurns, lease_back, lease_on}
use Rattle.law_rights.proofs.CommitLeases.{leads_sum, looked_arrivals, on_weight, waiting_weight}
use Rattle.law_rights.proofs.TurnCounts.{first}
use Rattle.law_rights.proofs.OwedDrawings.{gets_push, gets_same}
use Rattle.law_rights.proofs.SilentSteps.{end_keeps, quiet_keeps}

abbrev on_turn : OnLayer ReadLeaseOf → Turn
on_turn one = lease_turn one.lease

-- a looked lease has the turn that it had
pub looked_turn : (lease : Ghosts ReadLeaseOf SeatView ReadLeaseOf Issued) → IsOfTurns lease → (old new : ReadLeaseOf) → IsLooked lease old new → lease_turn new ≡ lease_turn old
looked_turn lease turns old new looked = sym (turns.end new) ∙ looked.end ∙ turns.end old

abbrev ends : Ghosts ReadLeaseOf SeatView ReadLeaseOf Issued → List (OnLayer ReadLeaseOf) → List Turn
ends lease gone = ends_of lease (reads_of gone)

middle : (w : Turn → ℕ) (gone : List (OnLayer ReadLeaseOf)) (back : ReadLeaseOf) (base : List ReadLeaseOf) → sum_by w (map lease_turn (map lease_on gone ++ back ∷ base)) ≡ w (turn_by back.turn) + sum_by w (map lease_turn (map lease_on gone ++ base))
middle w [] back base = sum_by-cons w (turn_by back.turn) (map lease_turn base)
middle w (g ∷ gone) back base =
    let rest = middle w gone back base in
    let a = sum_by-cons w (on_turn g) (map lease_turn (map lease_on gone ++ back ∷ base)) in
    let b = sum_by-cons w (on_turn g) (map lease_turn (map lease_on gone ++ base)) in
    omega (arith, rest, a, b)

turned : (w : Turn → ℕ) (releases : List (ReleaseOf ReadLeaseOf)) (back : ReadLeaseOf) (base : List ReadLeaseOf) → sum_by w (map lease_turn (back ∷ map lease_back releases ++ base)) ≤ sum_by w (map lease_turn (map lease_back releases ++ back ∷ base))
turned w [] back base = omega arith
turned w (r ∷ releases) back base =
    let rest = turned w releases back base in
    let a = sum_by-cons w (turn_by r.lease.turn) (map lease_turn (map lease_back releases ++ back ∷ base)) in
    let b = sum_by-cons w (turn_by back.turn) (map lease_turn (map lease_back (r ∷ releases) ++ base)) in
    let c = sum_by-cons w (turn_by r.lease.turn) (map lease_turn (map lease_back releases ++ base)) in
    let d = sum_by-cons w (turn_by back.turn) (map lease_turn (map lease_back releases ++ base)) in
    omega (arith, rest, a, b, c, d)

shown_same : (w : Turn → ℕ) (on : List (OnLayer ReadLeaseOf)) → sum_by w (map lease_turn (map lease_on (map shown_on on))) ≡ on_weight lease_turn w on
shown_same w [] = refl
shown_same w (one ∷ on) =
    let rest = shown_same w on in
    let a = sum_by-cons w (on_turn one) (map lease_turn (map lease_on (map shown_on on))) in
    let b = sum_by-cons w (on_turn one) (map on_turn on) in
    omega (arith, rest, a, b)

on_same : (w : Turn → ℕ) (on : List (OnLayer ReadLeaseOf)) (base : List ReadLeaseOf) → sum_by w (map lease_turn (map lease_on on ++ base)) ≡ on_weight lease_turn w on + sum_by w (map lease_turn base)
on_same w [] base = omega arith
on_same w (one ∷ on) base =
    let rest = on_same w on base in
    let a = sum_by-cons w (on_turn one) (map lease_turn (map lease_on on ++ base)) in
    let b = sum_by-cons w (on_turn one) (map on_turn on) in
    omega (arith, rest, a, b)

plain_same : (w : Turn → ℕ) (on : List (OnLayer ReadLeaseOf)) → sum_by w (map lease_turn (map lease_on on)) ≡ on_weight lease_turn w on
plain_same w [] = refl
plain_same w (one ∷ on) =
    let rest = plain_same w on in
    let a = sum_by-cons w (on_turn one) (map lease_turn (map lease_on on)) in
    let b = sum_by-cons w (on_turn one) (map on_turn on) in
    omega (arith, rest, a, b)

module _ {B : Type 0} where
  -- a view with these turns left
  abbrev leaving : DeskView B → List Turn → DeskView B
  leaving view leaves = record view { turns = record view.turns { leaves = leaves } }

  -- a state with these turns left, and these leases held beside what waits and what actors hold
  abbrev holding : State B → List Turn → List ReadLeaseOf → State B
  holding st leaves on = record st { view = leaving st.view leaves; on = on }

  -- what does not change between two such states
  pub front : State B → List Turn
  front st = flat_map (λ (a : ActorOf B). rights_of a.parts) st.actors ++ flat_map rights_arrived st.waiting

  pub held_on : (w : Turn → ℕ) (st : State B) (leaves : List Turn) (on : List ReadLeaseOf) → sum_by w (rights_held (holding st leaves on)) ≡ sum_by w (front st) + sum_by w (map lease_turn on)
  unfolding front
  held_on w st leaves on = sum_by-append w (flat_map (λ (a : ActorOf B). rights_of a.parts) st.actors ++ flat_map rights_arrived st.waiting) (map lease_turn on)

  -- leases in another order
  pub orders : (st : State B) (leaves others : List Turn) (on now : List ReadLeaseOf) → leaves ≡ others → ((w : Turn → ℕ) → sum_by w (map lease_turn now) ≤ sum_by w (map lease_turn on)) → IsLedger (ledger_of (holding st leaves on)) → IsLedger (ledger_of (holding st others now))
  orders st leaves others on now same less is = quiet_keeps (holding st leaves on) (holding st others now) (record {
    marks = refl;
    calls = refl;
    held = λ w. let a = held_on w st leaves on in let b = held_on w st others now in let c = less w in omega (arith, a, b, c);
    owed = gets_same (all_owed st);
    left = subst (λ (xs : List Turn). Gets leaves [] xs) same (gets_same leaves);
    written = gets_same (all_written st);
  }) is

  -- a read ends, and its lease is handed on
  ends_one : (st : State B) (leaves : List Turn) (lease back : ReadLeaseOf) (on now : List ReadLeaseOf) → turn_by back.turn ≡ turn_after (turn_by lease.turn) → ((w : Turn → ℕ) → sum_by w (map lease_turn now) ≡ w (turn_by back.turn) + sum_by w (map lease_turn on))
      → IsLedger (ledger_of (holding st leaves (lease ∷ on))) → IsLedger (ledger_of (holding st (leaves ++ turn_by lease.turn ∷ []) now))
  ends_one st leaves lease back on now next sums is = end_keeps (holding st leaves (lease ∷ on)) (holding st (leaves ++ turn_by lease.turn ∷ []) now) (turn_by lease.turn) (record {
    marks = refl;
    calls = refl;
    there = Contains-append_right (flat_map (λ (a : ActorOf B). rights_of a.parts) st.actors ++ flat_map rights_arrived st.waiting) (lease_turn lease ∷ map lease_turn on) (turn_by lease.turn) (first (turn_by lease.turn) (map lease_turn on));
    held = λ w.
        let a = held_on w st leaves (lease ∷ on) in
        let b = held_on w st (leaves ++ turn_by lease.turn ∷ []) now in
        let c = sums w in
        let d = sum_by-cons w (turn_by lease.turn) (map lease_turn on) in
        let e = sum_by-cons w (turn_by lease.turn) [] in
        let f = sum_by-cons w (turn_after (turn_by lease.turn)) [] in
        let g = ap w next in
        omega (arith, a, b, c, d, e, f, g);
    owed = gets_same (all_owed st);
    left = gets_push leaves (turn_by lease.turn);
    written = gets_same (all_written st);
  }) is

module _ {B : Type 0} (lease : Ghosts ReadLeaseOf SeatView ReadLeaseOf Issued) (turns : IsOfTurns lease) where
  -- the reads of what goes end, and each lease is handed on or goes back as it is
  pub reads_keep : (st : State B) (gone : List (OnLayer ReadLeaseOf)) (releases : List (ReleaseOf ReadLeaseOf)) (leaves : List Turn) (base : List ReadLeaseOf) → AllZip (IsReleaseOf lease) gone releases
      → IsLedger (ledger_of (holding st leaves (map lease_on gone ++ base))) → IsLedger (ledger_of (holding st (leaves ++ ends lease gone) (map lease_back releases ++ base)))
  reads_keep st [] [] leaves base zip is = orders st leaves (leaves ++ []) base base (sym (append-nil leaves)) (λ w. omega arith) is
  reads_keep st [] (r ∷ releases) leaves base zip is = absurd zip
  reads_keep st (g ∷ gone) [] leaves base zip is = absurd zip
  reads_keep st (g ∷ gone) (r ∷ releases) leaves base zip is = by_read g.is_read refl zip.0.handed (λ others on. reads_keep st gone releases others on zip.1)
    where
      by_read : (read : Bool) → g.is_read ≡ read → HandsBack lease g.is_read g.lease r.lease
          → ((others : List Turn) (on : List ReadLeaseOf) → IsLedger (ledger_of (holding st others (map lease_on gone ++ on))) → IsLedger (ledger_of (holding st (others ++ ends lease gone) (map lease_back releases ++ on))))
          → IsLedger (ledger_of (holding st (leaves ++ ends lease (g ∷ gone)) (map lease_back (r ∷ releases) ++ base)))
      by_read true met handed rest =
          let back = subst (λ (b : Bool). HandsBack lease b g.lease r.lease) met handed in
          let next : turn_by r.lease.turn ≡ turn_after (turn_by g.lease.turn) = sym (turns.end r.lease) ∙ back.2 ∙ turns.next_end g.lease in
          let one = ends_one st leaves g.lease r.lease (map lease_on gone ++ base) (map lease_on gone ++ r.lease ∷ base) next (λ w. middle w gone r.lease base) is in
          let all = rest (leaves ++ turn_by g.lease.turn ∷ []) (r.lease ∷ base) one in
          orders st ((leaves ++ turn_by g.lease.turn ∷ []) ++ ends lease gone) (leaves ++ ends lease (g ∷ gone)) (map lease_back releases ++ r.lease ∷ base) (r.lease ∷ map lease_back releases ++ base)
          (append_assoc leaves (turn_by g.lease.turn ∷ []) (ends lease gone) ∙ ap (λ (xs : List Turn). leaves ++ xs) (sym (first_ends met))) (λ w. turned w releases r.lease base) all
        where
          first_ends : g.is_read ≡ true → ends lease (g ∷ gone) ≡ turn_by g.lease.turn ∷ ends lease gone
          first_ends met = rw met (ap (λ (t : Turn). t ∷ ends lease gone) (turns.end g.lease))
      by_read false unmet handed rest =
          let back : r.lease ≡ g.lease = subst (λ (b : Bool). HandsBack lease b g.lease r.lease) unmet handed in
          let same : IsLedger (ledger_of (holding st leaves (r.lease ∷ map lease_on gone ++ base))) = subst (λ (l : ReadLeaseOf). IsLedger (ledger_of (holding st leaves (l ∷ map lease_on gone ++ base)))) (sym back) is in
          let moved = orders st leaves leaves (r.lease ∷ map lease_on gone ++ base) (map lease_on gone ++ r.lease ∷ base) refl
          (λ w. let a = middle w gone r.lease base in let b = sum_by-cons w (turn_by r.lease.turn) (map lease_turn (map lease_on gone ++ base)) in omega (arith, a, b)) same in
          let all = rest leaves (r.lease ∷ base) moved in
          orders st (leaves ++ ends lease gone) (leaves ++ ends lease (g ∷ gone)) (map lease_back releases ++ r.lease ∷ base) (r.lease ∷ map lease_back releases ++ base)
          (ap (λ (xs : List Turn). leaves ++ xs) (sym (same_ends unmet))) (λ w. turned w releases r.lease base) all
        where
          same_ends : g.is_read ≡ false → ends lease (g ∷ gone) ≡ ends lease gone
          same_ends unmet = rw unmet refl

module _ {B : Type 0} (lease : Ghosts ReadLeaseOf SeatView ReadLeaseOf Issued) where
  pub vsync_keeps : (old new : State B) → DecidesIn lease old new → IsLedger (ledger_of old) → IsLedger (ledger_of new)
  vsync_keeps old new vsync is = last
    where
      end : Round ReadLeaseOf
      end = vsync.decides.end

      base : List ReadLeaseOf
      base = map lease_on (map shown_on end.stage.on)

      leaves : List Turn
      leaves = old.view.turns.leaves

      -- what was decided: what goes is held yet
      decided : State B
      decided = record old { waiting = end.pending; on = map lease_on end.stage.gone ++ base }

      pending_is : vsync.after.pending ≡ end.pending
      pending_is = ap (λ (h : HandlerOf ReadLeaseOf). h.pending) vsync.decides.settled.state

      on_is : vsync.after.on ≡ map shown_on end.stage.on
      on_is = ap (λ (h : HandlerOf ReadLeaseOf). h.on) vsync.decides.settled.state

      decided_held : HasAtMost (rights_held old) [] [] (rights_held decided)
      decided_held w =
          let commits = leads_sum lease_turn w lease.shown vsync.seen vsync.expected _ vsync.decides.decided.taken end vsync.decides.decided.leads in
          let looks = ap (sum_by w) (looked_arrivals lease_turn lease (looked_turn lease vsync.of_turns) (vsync.handler.pending ++ vsync.arrived) vsync.decides.looked vsync.decides.looks) in
          let waits = ap (λ (xs : List (Arrival ReadLeaseOf)). waiting_weight lease_turn w xs) vsync.waiting_old in
          let on = ap (λ (xs : List ReadLeaseOf). sum_by w (map lease_turn xs)) vsync.on_old in
          let plain = plain_same w vsync.handler.on in
          let a = sum_by-append w (flat_map (λ (x : ActorOf B). rights_of x.parts) old.actors ++ flat_map rights_arrived old.waiting) (map lease_turn old.on) in
          let b = sum_by-append w (flat_map (λ (x : ActorOf B). rights_of x.parts) old.actors) (flat_map rights_arrived old.waiting) in
          let c = sum_by-append w (flat_map (λ (x : ActorOf B). rights_of x.parts) old.actors ++ flat_map rights_arrived end.pending) (map lease_turn (map lease_on end.stage.gone ++ base)) in
          let d = sum_by-append w (flat_map (λ (x : ActorOf B). rights_of x.parts) old.actors) (flat_map rights_arrived end.pending) in
          let e = on_same w end.stage.gone base in
          let f = shown_same w end.stage.on in
          omega (arith, commits, looks, waits, on, plain, a, b, c, d, e, f)

      was_decided : IsLedger (ledger_of decided)
      was_decided = quiet_keeps old decided (record {
        marks = refl;
        calls = refl;
        held = decided_held;
        owed = gets_same (all_owed old);
        left = gets_same leaves;
        written = gets_same (all_written old);
      }) is

      was_read : IsLedger (ledger_of (holding decided (leaves ++ ends_of lease (reads_of end.stage.gone)) (map lease_back vsync.told.releases ++ base)))
      was_read = reads_keep lease vsync.of_turns decided end.stage.gone vsync.told.releases leaves base vsync.decides.settled.releases was_decided

      all_left : new.view.turns.leaves ≡ leaves ++ ends_of lease (reads_of end.stage.gone)
      all_left = vsync.leaves ∙ ap (λ lent. leaves ++ ends_of lease (left_if lent (reads_of end.stage.gone))) vsync.unlent

      finished : State B
      finished = record old { view = new.view; waiting = end.pending; on = map lease_back vsync.told.releases ++ base }

      was_finished : IsLedger (ledger_of finished)
      was_finished = quiet_keeps (holding decided (leaves ++ ends_of lease (reads_of end.stage.gone)) (map lease_back vsync.told.releases ++ base)) finished (record {
        marks = refl;
        calls = vsync.calls;
        held = λ w. omega arith;
        owed = gets_same (all_owed old);
        left = subst (λ (xs : List Turn). Gets (leaves ++ ends_of lease (reads_of end.stage.gone)) [] xs) (sym all_left) (gets_same (leaves ++ ends_of lease (reads_of end.stage.gone)));
        written = gets_same (all_written old);
      }) was_read

      same_new : finished ≡ new
      same_new =
          ap (λ (pending : List (Arrival ReadLeaseOf)). record old { view = new.view; waiting = pending; on = map lease_back vsync.told.releases ++ base }) (sym (vsync.waiting_new ∙ pending_is))
          ∙ ap (λ (on : List ReadLeaseOf). record old { view = new.view; waiting = new.waiting; on = on }) (sym (vsync.on_new ∙ ap (λ xs. map lease_back vsync.told.releases ++ map lease_on xs) on_is))
          ∙ sym vsync.same

      last : IsLedger (ledger_of new)
      last = subst (λ (st : State B). IsLedger (ledger_of st)) same_new was_finished

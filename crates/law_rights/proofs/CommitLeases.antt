-- What a vsync decides moves leases, and makes none.
use Rattle.std.proofs.Common.{◌≡◌, ℕ, ◌+◌, ◌≤◌, Bool, true, false, List, [], ◌∷◌, ◌++◌, arith, ap, ◌∙◌, refl, inl, inr, map, ◌⊎◌, Option, Some, None, Result, Ok, Err}
use Rattle.std.specs.Prelude.{find, is_none, option_to_list}
use Rattle.std.specs.List.{AllZip, flat_map, sum_by}
use Rattle.std.proofs.lemmas.Bool.{cases_Bool}
use Rattle.std.proofs.lemmas.List.Sums.{sum_by-append, sum_by-cons}
use Rattle.sf_base.specs.declared.fences.Seen.{Seen}
use Rattle.sf_base.specs.declared.ids.LayerId.{LayerId}
use Rattle.sf_actor_set.specs.sf_layer.declared.op.Op.{Op}
use Rattle.sf_actor_set.specs.sf_layer.declared.op.Op.TheVariants as op
use Rattle.sf_actor_set.specs.sf_surface.Tokens.{Issued, ReadLeaseOf}
use Rattle.sf_actor_set.specs.sf_token.Loads.{IsLookedArrival}
use Rattle.sf_actor_set.specs.sf_token.Pending.{Arrival, head_of, is_of}
use Rattle.sf_actor_set.specs.sf_tree.Changes.{Rejection, after}
use Rattle.sf_actor_set.specs.sf_tree.Trees.{TreeOf}
use Rattle.sf_actor_set.specs.sf_turns.Views.{SeatView}
use Rattle.sf_actor_set.specs.sf_txn.Buffers.{Buffer}
use Rattle.sf_actor_set.specs.sf_txn.Leases.{IsLooked, IsLookedBuffer}
use Rattle.sf_actor_set.specs.sf_txn.Transactions.{without_first}
use Rattle.sf_actor_set.specs.sf_txn.declared.lease.Lease.{Ghosts}
use Rattle.sf_actor_set.specs.sf_commit.OnLayers.{OnLayer, brought, gone_with, is_on, on_after, without}
use Rattle.sf_actor_set.specs.sf_commit.Rounds.{Leads, Round, StageOf, committed, facts_of, stage_after, stage_with}
use Rattle.sf_actor_set.specs.sf_commit_next.Heads.{ready_if}

module _ {R : Type 0} (read : ReadLeaseOf → R) where
  -- what is read off leases on layers, and off those of transactions
  abbrev pub read_on : OnLayer ReadLeaseOf → R
  read_on one = read one.lease

  abbrev read_buffer : Buffer ReadLeaseOf → R
  read_buffer buffer = read buffer.lease

  abbrev pub read_arrived : Arrival ReadLeaseOf → List R
  read_arrived arrived = map read_buffer arrived.txn.buffers

  -- a looked lease tells what it told
  module _ (lease : Ghosts ReadLeaseOf SeatView ReadLeaseOf Issued) (same : (old new : ReadLeaseOf) → IsLooked lease old new → read new ≡ read old) where
    looked_buffers : (olds news : List (Buffer ReadLeaseOf)) → AllZip (IsLookedBuffer lease) olds news → map read_buffer news ≡ map read_buffer olds
    looked_buffers [] [] looks = refl
    looked_buffers [] (n ∷ news) looks = absurd looks
    looked_buffers (o ∷ olds) [] looks = absurd looks
    looked_buffers (o ∷ olds) (n ∷ news) looks =
        ap (λ (r : R). r ∷ map read_buffer news) (same o.lease n.lease looks.0.looked) ∙ ap (λ (rs : List R). read_buffer o ∷ rs) (looked_buffers olds news looks.1)

    pub looked_arrivals : (olds news : List (Arrival ReadLeaseOf)) → AllZip (IsLookedArrival lease) olds news → flat_map read_arrived news ≡ flat_map read_arrived olds
    looked_arrivals [] [] looks = refl
    looked_arrivals [] (n ∷ news) looks = absurd looks
    looked_arrivals (o ∷ olds) [] looks = absurd looks
    looked_arrivals (o ∷ olds) (n ∷ news) looks =
        ap (λ (rs : List R). rs ++ flat_map read_arrived news) (looked_buffers o.txn.buffers n.txn.buffers looks.0.buffers) ∙ ap (λ (rs : List R). read_arrived o ++ rs) (looked_arrivals olds news looks.1)

  module _ (w : R → ℕ) where
    abbrev pub on_weight : List (OnLayer ReadLeaseOf) → ℕ
    on_weight on = sum_by w (map read_on on)

    abbrev buffers_weight : List (Buffer ReadLeaseOf) → ℕ
    buffers_weight buffers = sum_by w (map read_buffer buffers)

    on_cons : (one : OnLayer ReadLeaseOf) (on : List (OnLayer ReadLeaseOf)) → on_weight (one ∷ on) ≡ w (read_on one) + on_weight on
    on_cons one on = sum_by-cons w (read_on one) (map read_on on)

    pub on_append : (xs ys : List (OnLayer ReadLeaseOf)) → on_weight (xs ++ ys) ≡ on_weight xs + on_weight ys
    on_append [] ys = omega arith
    on_append (x ∷ xs) ys =
        let rest = on_append xs ys in
        let a = on_cons x xs in
        let b = on_cons x (xs ++ ys) in
        omega (arith, rest, a, b)

    -- what shows on a layer is taken off
    off_sum : (test : OnLayer ReadLeaseOf → Bool) (on : List (OnLayer ReadLeaseOf)) → on_weight (without_first test on) + on_weight (option_to_list (find test on)) ≡ on_weight on
    off_sum test [] = refl
    off_sum test (one ∷ on) = by_test (cases_Bool (test one)) (off_sum test on)
      where
        by_test : (test one ≡ true) ⊎ (test one ≡ false) → on_weight (without_first test on) + on_weight (option_to_list (find test on)) ≡ on_weight on
            → on_weight (without_first test (one ∷ on)) + on_weight (option_to_list (find test (one ∷ on))) ≡ on_weight (one ∷ on)
        by_test (inl met) rest = rw met (single)
          where
            single : on_weight on + on_weight (one ∷ []) ≡ on_weight (one ∷ on)
            single = let a = on_cons one on in let b = on_cons one [] in omega (arith, a, b)
        by_test (inr unmet) rest = rw unmet (more)
          where
            more : on_weight (one ∷ without_first test on) + on_weight (option_to_list (find test on)) ≡ on_weight (one ∷ on)
            more = let a = on_cons one on in let b = on_cons one (without_first test on) in omega (arith, rest, a, b)

    -- what operations make of the buffers on layers
    ops_sum : (on : List (OnLayer ReadLeaseOf)) (ops : List (LayerId × Op)) (buffers : List (Buffer ReadLeaseOf)) → on_weight (on_after on ops buffers) + on_weight (gone_with on ops buffers) ≤ on_weight on + buffers_weight buffers
    ops_sum on [] buffers = omega arith
    ops_sum on ((layer, op.Show shown) ∷ ops) [] = ops_sum on ops []
    ops_sum on ((layer, op.Show shown) ∷ ops) (buffer ∷ buffers) =
        let rest = ops_sum (without layer on ++ brought buffer ∷ []) ops buffers in
        let a = off_sum (is_on layer) on in
        let b = on_append (without layer on) (brought buffer ∷ []) in
        let c = on_cons (brought buffer) [] in
        let d = on_append (option_to_list (find (is_on layer) on)) (gone_with (without layer on ++ brought buffer ∷ []) ops buffers) in
        let e = sum_by-cons w (read_buffer buffer) (map read_buffer buffers) in
        omega (arith, rest, a, b, c, d, e)
    ops_sum on ((layer, op.Destroy) ∷ ops) buffers =
        let rest = ops_sum (without layer on) ops buffers in
        let a = off_sum (is_on layer) on in
        let d = on_append (option_to_list (find (is_on layer) on)) (gone_with (without layer on) ops buffers) in
        omega (arith, rest, a, d)
    ops_sum on ((layer, other) ∷ ops) buffers = ops_sum on ops buffers

    brought_sum : (buffers : List (Buffer ReadLeaseOf)) → on_weight (map brought buffers) ≡ buffers_weight buffers
    brought_sum [] = refl
    brought_sum (b ∷ buffers) =
        let rest = brought_sum buffers in
        let a = on_cons (brought b) (map brought buffers) in
        let c = sum_by-cons w (read_buffer b) (map read_buffer buffers) in
        omega (arith, rest, a, c)

    stage_sum : (stage : StageOf ReadLeaseOf) (arrived : Arrival ReadLeaseOf) (result : Result TreeOf Rejection)
        → on_weight (stage_with stage arrived result).on + on_weight (stage_with stage arrived result).gone ≤ (on_weight stage.on + on_weight stage.gone) + buffers_weight arrived.txn.buffers
    stage_sum stage arrived (Ok tree) =
        let ops = ops_sum stage.on arrived.txn.ops arrived.txn.buffers in
        let a = on_append stage.gone (gone_with stage.on arrived.txn.ops arrived.txn.buffers) in
        omega (arith, ops, a)
    stage_sum stage arrived (Err rejection) =
        let a = on_append stage.gone (map brought arrived.txn.buffers) in
        let b = brought_sum arrived.txn.buffers in
        omega (arith, a, b)

    abbrev pub waiting_weight : List (Arrival ReadLeaseOf) → ℕ
    waiting_weight pending = sum_by w (flat_map read_arrived pending)

    -- one transaction is taken out of those that wait
    taken_sum : (test : Arrival ReadLeaseOf → Bool) (pending : List (Arrival ReadLeaseOf)) (next : Arrival ReadLeaseOf) → find test pending ≡ Some next → waiting_weight (without_first test pending) + buffers_weight next.txn.buffers ≡ waiting_weight pending
    taken_sum test [] next is = absurd (cc (is))
    taken_sum test (a ∷ pending) next is = by_test (cases_Bool (test a)) (λ further. taken_sum test pending next further)
      where
        by_test : (test a ≡ true) ⊎ (test a ≡ false) → (find test pending ≡ Some next → waiting_weight (without_first test pending) + buffers_weight next.txn.buffers ≡ waiting_weight pending)
            → waiting_weight (without_first test (a ∷ pending)) + buffers_weight next.txn.buffers ≡ waiting_weight (a ∷ pending)
        by_test (inl met) rest = rw met (here (cc (rw met at is)))
          where
            here : a ≡ next → waiting_weight pending + buffers_weight next.txn.buffers ≡ waiting_weight (a ∷ pending)
            here same =
                let joined = sum_by-append w (read_arrived a) (flat_map read_arrived pending) in
                let e = ap (λ (x : Arrival ReadLeaseOf). buffers_weight x.txn.buffers) same in
                omega (arith, joined, e)
        by_test (inr unmet) rest = rw unmet (there (rest (rw unmet at is)))
          where
            there : waiting_weight (without_first test pending) + buffers_weight next.txn.buffers ≡ waiting_weight pending → waiting_weight (a ∷ without_first test pending) + buffers_weight next.txn.buffers ≡ waiting_weight (a ∷ pending)
            there before =
                let x = sum_by-append w (read_arrived a) (flat_map read_arrived pending) in
                let y = sum_by-append w (read_arrived a) (flat_map read_arrived (without_first test pending)) in
                omega (arith, before, x, y)

    abbrev pub round_weight : Round ReadLeaseOf → ℕ
    round_weight r = waiting_weight r.pending + (on_weight r.stage.on + on_weight r.stage.gone)

    -- commits move leases
    pub leads_sum : (drawn : ReadLeaseOf → Bool) (seen : Seen) (expected : ℕ) (r : Round ReadLeaseOf) (taken : List (Arrival ReadLeaseOf)) (end : Round ReadLeaseOf) → Leads drawn seen expected r taken end → round_weight end ≤ round_weight r
    leads_sum drawn seen expected r [] end same = let e = ap round_weight same in omega (arith, e)
    leads_sum drawn seen expected r (next ∷ later) end leads =
        let rest = leads_sum drawn seen expected (committed r next) later end leads.1 in
        let head = first_is (head_of next.txn.token r.pending) leads.0.0 in
        let out = taken_sum (is_of next.txn.token) r.pending next head in
        let stage = stage_sum r.stage next (after r.stage.tree next.txn.ops) in
        omega (arith, rest, out, stage)
      where
        first_is : (head : Option (Arrival ReadLeaseOf)) → ready_if drawn seen expected (facts_of r) head ≡ Some next → head ≡ Some next
        first_is None is = is
        first_is (Some a) is = elim (cases_Bool (is_none (Rattle.sf_actor_set.specs.sf_commit_next.Heads.head_hold drawn seen expected (facts_of r) a))) [
          | inl met ↦ rw met at is
          | inr unmet ↦ absurd (cc (rw unmet at is))
        ]

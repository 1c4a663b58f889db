-- No two operations of a transaction are of one kind for one layer, but for create and destroy.
use Rattle.std.proofs.Common.{◌≡◌, suc, Bool, true, false, not, ◌&&◌, List, [], ◌∷◌, get_or, refl, ap, ◌∙◌, sym, arith, true≢false}
use Rattle.std.specs.Prelude.{◌==◌, nat_le}
use Rattle.std.specs.List.{All, AllPairs}
use Rattle.std.proofs.lemmas.Grind.{common_steps}
use Rattle.std.proofs.lemmas.List.Elements.{All-cons}
use Rattle.std.proofs.lemmas.List.Kept.{AllPairs-cons}
use Rattle.std.proofs.lemmas.List.Quantifiers.{all_pairs_push}
use Rattle.sf_base.specs.declared.ids.LayerId.{LayerId}
use Rattle.sf_layer.specs.Kinds.{kind_of}
use Rattle.sf_layer.specs.declared.op.Op.{Op}
use Rattle.sf_layer.specs.declared.op.Op.TheVariants as op
use Rattle.sf_txn.specs.Transactions.{is_cumulative, Stays, replaces, with_op, with_ops, without_first}
use Rattle.sf_txn.proofs.Firsts.{All-without_first}

pub cumulative_by_kind : (o : Op) → is_cumulative o ≡ nat_le (kind_of o) 1
cumulative_by_kind (op.Create _ _) = refl
cumulative_by_kind op.Destroy = refl
cumulative_by_kind (op.Reparent _) = refl
cumulative_by_kind (op.Z _) = refl
cumulative_by_kind (op.Relative _ _) = refl
cumulative_by_kind (op.Position _ _) = refl
cumulative_by_kind (op.Crop _) = refl
cumulative_by_kind (op.Alpha _) = refl
cumulative_by_kind (op.Hidden _) = refl
cumulative_by_kind (op.Opaque _) = refl
cumulative_by_kind (op.Colour _) = refl
cumulative_by_kind (op.Backpressure _) = refl
cumulative_by_kind (op.Show _) = refl
cumulative_by_kind (op.Orient _) = refl

pub by_numbers : (c l k : Bool) → (not c && (l && k)) ≡ true → (c ≡ false) × (l ≡ true) × (k ≡ true)
by_numbers false true true h = (refl, refl, refl)
by_numbers true l k h = absurd (true≢false (sym h))
by_numbers false false k h = absurd (true≢false (sym h))
by_numbers false true false h = absurd (true≢false (sym h))

-- two operations whose places a third takes: the later of them takes the earlier one's place
pub between : (later other earlier : LayerId × Op) → replaces later earlier ≡ true → replaces later other ≡ true → replaces other earlier ≡ true
between later other earlier h o =
    let a : (is_cumulative later.1 ≡ false) × ((earlier.0.0 == later.0.0) ≡ true) × ((kind_of earlier.1 == kind_of later.1) ≡ true) = by_numbers _ _ _ h in
    let b : (is_cumulative later.1 ≡ false) × ((other.0.0 == later.0.0) ≡ true) × ((kind_of other.1 == kind_of later.1) ≡ true) = by_numbers _ _ _ o in
    let kinds : kind_of other.1 ≡ kind_of later.1 = grind (arith, common_steps, b.2) in
    let plain : is_cumulative other.1 ≡ false = cumulative_by_kind other.1 ∙ (ap (λ k. nat_le k 1) kinds ∙ (sym (cumulative_by_kind later.1) ∙ a.0)) in
    let layer : (earlier.0.0 == other.0.0) ≡ true = grind (arith, common_steps, a.1, b.1) in
    let kind : (kind_of earlier.1 == kind_of other.1) ≡ true = grind (arith, common_steps, a.2, b.2) in
    rw (plain, layer, kind) refl

pub pairs-head : {X : Type 0} (R : X → X → Type 0) (x : X) (xs : List X) → AllPairs R (x ∷ xs) → All (R x) xs
pairs-head R x xs h = λ j d inside. h 0 (suc j) d (omega arith) (omega arith)

pub pairs-tail : {X : Type 0} (R : X → X → Type 0) (x : X) (xs : List X) → AllPairs R (x ∷ xs) → AllPairs R xs
pairs-tail R x xs h = λ i j d before inside. h (suc i) (suc j) d (omega arith) (omega arith)

pairs-without_first : {X : Type 0} (R : X → X → Type 0) (test : X → Bool) (xs : List X) → AllPairs R xs → AllPairs R (without_first test xs)
pairs-without_first R test [] h = h
pairs-without_first R test (x ∷ xs) h = by_test (test x) refl (pairs-without_first R test xs (pairs-tail R x xs h))
  where
    by_test : (b : Bool) → test x ≡ b → AllPairs R (without_first test xs) → AllPairs R (without_first test (x ∷ xs))
    by_test true e rest = rw e (pairs-tail R x xs h)
    by_test false e rest = rw e (AllPairs-cons R x (without_first test xs) (All-without_first (R x) test xs (pairs-head R x xs h)) rest)

-- of operations that stay, a later one takes the place of one at most
pub none_left : (later : LayerId × Op) (ops : List (LayerId × Op)) → AllPairs Stays ops → All (λ earlier. Stays earlier later) (without_first (replaces later) ops)
none_left later [] h = λ k d inside. absurd (omega (arith, inside))
none_left later (x ∷ xs) h = by_test (replaces later x) refl (none_left later xs (pairs-tail Stays x xs h))
  where
    others : replaces later x ≡ true → All (λ earlier. Stays earlier later) xs
    others e k d inside = by_other (replaces later (get_or xs k d)) refl
      where
        by_other : (b : Bool) → replaces later (get_or xs k d) ≡ b → replaces later (get_or xs k d) ≡ false
        by_other false t = t
        by_other true t = absurd (true≢false (sym (between later (get_or xs k d) x e t) ∙ pairs-head Stays x xs h k d inside))

    by_test : (b : Bool) → replaces later x ≡ b → All (λ earlier. Stays earlier later) (without_first (replaces later) xs) → All (λ earlier. Stays earlier later) (without_first (replaces later) (x ∷ xs))
    by_test true e rest = rw e (others e)
    by_test false e rest = rw e (All-cons (λ earlier. Stays earlier later) x (without_first (replaces later) xs) e rest)

pub stay-with_op : (ops : List (LayerId × Op)) (operation : LayerId × Op) → AllPairs Stays ops → AllPairs Stays (with_op ops operation)
stay-with_op ops operation h =
    all_pairs_push Stays (without_first (replaces operation) ops) operation (pairs-without_first Stays (replaces operation) ops h) (none_left operation ops h)

pub stay-with_ops : (ops more : List (LayerId × Op)) → AllPairs Stays ops → AllPairs Stays (with_ops ops more)
stay-with_ops ops [] h = h
stay-with_ops ops (operation ∷ more) h = stay-with_ops (with_op ops operation) more (stay-with_op ops operation h)

-- How many copies mirrors add, and where they stand.
use Rattle.std.proofs.Common.{◌≡◌, ℕ, suc, ◌≤◌, ◌+◌, ◌*◌, Bool, true, false, if◌then◌else◌, List, [], ◌∷◌, ◌++◌, length, map, filter, refl, sym, ap, ◌∙◌, arith}
use Rattle.std.proofs.lemmas.List.{append_assoc, append-nil, length-append, length-map}
use Rattle.sf_base.specs.declared.ids.LayerId.{LayerId}
use Rattle.sf_layer.specs.declared.layer.Layer.{Layer}
use Rattle.sf_output_shown.specs.Copies.{copies, copied, mirrors, named, number_of, with_copies, written, written_from}
use Rattle.sf_output_shown.specs.Cuts.{is_under, under}

pub none_written : (tree : List Layer) → written tree [] ≡ tree
unfolding written
none_written tree = refl

one_more : {X : Type 0} (passes : Bool) (x : X) (xs : List X) (n : ℕ) → length xs ≤ n → length (if passes then x ∷ xs else xs) ≤ suc n
one_more true x xs n h = omega (arith, h)
one_more false x xs n h = omega (arith, h)

fewer : {X : Type 0} (p : X → Bool) (xs : List X) → length (filter p xs) ≤ length xs
fewer p [] = omega arith
fewer p (x ∷ xs) = one_more (p x) x (filter p xs) (length xs) (fewer p xs)

few_copies : (tree so_far : List Layer) (mirror id : LayerId) → length (copies tree so_far mirror id) ≤ length tree
few_copies tree so_far mirror id =
    let e = length-map (under tree id) (copied mirror id (named (map number_of so_far) (under tree id))) in
    let h = fewer (is_under tree id) tree in
    omega (arith, e, h)

-- behind these layers, with at most so many for each mirror
pub record Adds (tree so_far pairs-done : List Layer) (count : ℕ) : Type 0 where
  pub more : List Layer
  pub is : pairs-done ≡ so_far ++ more
  pub few : length more ≤ length tree * count

one_mirror : (tree so_far : List Layer) (pair : ℕ × ℕ) → Adds tree so_far (with_copies tree so_far pair) 1
one_mirror tree so_far pair = by (mirrors tree pair)
  where
    add : List Layer
    add = copies tree so_far (record { 0 = pair.0 }) (record { 0 = pair.1 })

    by : (there : Bool) → Adds tree so_far (if there then so_far ++ add else so_far) 1
    by true = let h = few_copies tree so_far (record { 0 = pair.0 }) (record { 0 = pair.1 }) in record { more = add; is = refl; few = omega (arith, h) }
    by false = record { more = []; is = sym (append-nil so_far); few = omega arith }

pub all_mirrors : (tree so_far : List Layer) (pairs : List (ℕ × ℕ)) → Adds tree so_far (written_from tree so_far pairs) (length pairs)
all_mirrors tree so_far [] = record { more = []; is = sym (append-nil so_far); few = omega arith }
all_mirrors tree so_far (pair ∷ pairs) =
    let one = one_mirror tree so_far pair in
    let rest = all_mirrors tree (with_copies tree so_far pair) pairs in
    let long = length-append one.more rest.more in
    let few-one = one.few in
    let few-rest = rest.few in
    record {
      more = one.more ++ rest.more;
      is = rest.is ∙ ap (λ l. l ++ rest.more) one.is ∙ append_assoc so_far one.more rest.more;
      few = sums (length tree) (length pairs) (length one.more) (length rest.more) (length (one.more ++ rest.more)) long few-one few-rest;
    }
  where
    sums : (n k a b c : ℕ) → c ≡ a + b → a ≤ n * 1 → b ≤ n * k → c ≤ n * suc k
    sums n k a b c e f g = grind arith

pub added : (tree : List Layer) (pairs : List (ℕ × ℕ)) → Adds tree tree (written tree pairs) (length pairs)
unfolding written
added tree pairs = all_mirrors tree tree pairs

pub added_length : (tree : List Layer) (pairs : List (ℕ × ℕ)) → length (written tree pairs) ≤ length tree * (length pairs + 1)
added_length tree pairs =
    let a = added tree pairs in
    let e : length (written tree pairs) ≡ length tree + length a.more = ap length a.is ∙ length-append tree a.more in
    sums (length tree) (length pairs) (length a.more) (length (written tree pairs)) e a.few
  where
    sums : (n k m c : ℕ) → c ≡ n + m → m ≤ n * k → c ≤ n * (k + 1)
    sums n k m c e f = grind arith

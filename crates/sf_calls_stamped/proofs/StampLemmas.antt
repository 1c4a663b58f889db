-- Histories with stamps, and the object that keeps them.
use Rattle.std.proofs.Common.{◌≡◌, ℕ, ◌+◌, ◌<◌, List, [], ◌∷◌, ◌++◌, length, map, reverse, refl, ap, ◌∙◌, arith}
use Rattle.std.specs.Prelude.{max}
use Rattle.std.proofs.Math.Nat.{le-max_left, le-max_right}
use Rattle.std.proofs.lemmas.List.{map-append, reverse-append}
use Rattle.sf_calls.specs.declared.object.Answer.{Answer}
use Rattle.sf_calls.specs.declared.object.Entry.{Entry}
use Rattle.sf_calls.specs.Histories.{IsLegal}
use Rattle.sf_calls_stamped.specs.declared.stamped.Pair.{Pair}
use Rattle.sf_calls_stamped.specs.Objects.{pair_of, with_stamps}
use Rattle.sf_calls_stamped.specs.Stamps.{AnswersStamped, AreStamped, StampsRise, newest_stamp, unstamped}

above : (brought newest given : ℕ) → given ≡ max brought newest + 1 → (brought < given) × (newest < given)
above brought newest given is =
    let left = le-max_left brought newest in
    let right = le-max_right brought newest in
    (omega (arith, is, left), omega (arith, is, right))

last-first : (pairs : List Pair) (pair : Pair) → reverse (map pair_of (pairs ++ pair ∷ [])) ≡ pair_of pair ∷ reverse (map pair_of pairs)
last-first pairs pair = ap (λ ys. reverse ys) (map-append pair_of pairs (pair ∷ [])) ∙ reverse-append (map pair_of pairs) (pair_of pair ∷ [])

-- stamps that were put last come first
pub pushed-first : (items room pushed : List Pair) (pair : Pair) (brought given : ℕ) → pushed ≡ room ++ pair ∷ [] → room ≡ items → pair_of pair ≡ (brought, given) → reverse (map pair_of pushed) ≡ (brought, given) ∷ reverse (map pair_of items)
pushed-first items room pushed pair brought given push same is =
    ap (λ (xs : List Pair). reverse (map pair_of xs)) (push ∙ ap (λ (xs : List Pair). xs ++ pair ∷ []) same) ∙ last-first items pair ∙ ap (λ (p : ℕ × ℕ). p ∷ reverse (map pair_of items)) is

module _ {C R : Type 0} where
  pub rises : (log : List (Entry (ℕ × C) (ℕ × R))) → AreStamped log → StampsRise log
  rises [] are = tt
  rises (e ∷ earlier) are =
      let up = above e.call.0 (newest_stamp earlier) e.reply.0 are.0 in
      (up.0, up.1, rises earlier are.1)

  module _ (answers : List (Entry C R) → ℕ → C → Answer R → Type 0) where
    pub legal_without : (log : List (Entry (ℕ × C) (ℕ × R))) → IsLegal (AnswersStamped answers) log → IsLegal answers (unstamped log) × AreStamped log
    legal_without [] legal = (tt, tt)
    legal_without (e ∷ earlier) legal =
        let rest = legal_without earlier legal.1 in
        ((legal.0.1, rest.0), (legal.0.0, rest.1))

    pub legal_with : (log : List (Entry (ℕ × C) (ℕ × R))) → IsLegal answers (unstamped log) → AreStamped log → IsLegal (AnswersStamped answers) log
    legal_with [] legal are = tt
    legal_with (e ∷ earlier) legal are = ((are.0, legal.0), legal_with earlier legal.1 are.1)

  -- calls with stamps are those calls
  pub without_stamps : (stamps : List (ℕ × ℕ)) (calls : List (Entry C R)) → length stamps ≡ length calls → unstamped (with_stamps stamps calls) ≡ calls
  without_stamps [] [] many = refl
  without_stamps [] (e ∷ earlier) many = absurd (omega (arith, many))
  without_stamps (stamp ∷ stamps) [] many = absurd (omega (arith, many))
  without_stamps (stamp ∷ stamps) (e ∷ earlier) many = ap (λ (calls : List (Entry C R)). e ∷ calls) (without_stamps stamps earlier (omega (arith, many)))

-- The first notes of layers, from the last note to the first.
use Rattle.std.proofs.Common.{◌≡◌, ℕ, zero, suc, ◌<◌, ◌≤◌, Bool, true, false, cond, List, [], length, get_or, drop, Option, Some, refl, ap, ◌∙◌, sym, subst, arith}
use Rattle.std.specs.Prelude.{eqb, find}
use Rattle.std.specs.Option.{option_map}
use Rattle.std.specs.Ordering.{nat_cmp}
use Rattle.std.specs.BTreeMap.{BTreeMap, get, is_at}
use Rattle.std.proofs.Math.Seq.{drop-cons}
use Rattle.std.proofs.lemmas.List.{drop_all}
use Rattle.std.proofs.lemmas.Grind.{common_steps}
use Rattle.sf_base.specs.declared.ids.LayerId.{LayerId}
use Rattle.sf_output_shown.specs.ByLayer.{IsIndex, first_for, is_for}

is_at_number : (a b : ℕ) → is_at (nat_cmp a) b ≡ eqb a b
is_at_number a b = grind (arith, common_steps)

module _ {T : Type 0} where
  one_more : (b : Bool) (note : LayerId × T) (later : Option (LayerId × T)) → cond b (Some note.1) (option_map (λ (n : LayerId × T). n.1) later) ≡ option_map (λ (n : LayerId × T). n.1) (cond b (Some note) later)
  one_more true note later = refl
  one_more false note later = refl

  pub IsIndex-more : (notes : List (LayerId × T)) (i j : ℕ) (d : LayerId × T) (m n : BTreeMap ℕ T) → j ≡ suc i → i < length notes → IsIndex (drop j notes) m
      → ((q : ℕ) → get nat_cmp n q ≡ cond (is_at (nat_cmp (get_or notes i d).0.0) q) (Some (get_or notes i d).1) (get nat_cmp m q)) → IsIndex (drop i notes) n
  IsIndex-more notes i j d m n next inside old put = λ q.
      let note : LayerId × T = get_or notes i d in
      let id : LayerId = record { 0 = q } in
      let later : get nat_cmp m q ≡ first_for (drop (suc i) notes) id = subst (λ (k : ℕ). get nat_cmp m q ≡ first_for (drop k notes) id) next (old q) in
      put q
      ∙ ((rw (is_at_number note.0.0 q, later) (one_more (eqb note.0.0 q) note (find (is_for id) (drop (suc i) notes))))
      ∙ ap (λ (l : List (LayerId × T)). first_for l id) (sym (drop-cons notes i d inside)))

  pub IsIndex-none : (notes : List (LayerId × T)) (m : BTreeMap ℕ T) → m.entries ≡ [] → IsIndex (drop (length notes) notes) m
  IsIndex-none notes m empty = λ q. rw (empty, drop_all (length notes) notes (omega arith)) refl

  pub IsIndex-all : (notes : List (LayerId × T)) (i : ℕ) (m : BTreeMap ℕ T) → i ≤ 0 → IsIndex (drop i notes) m → IsIndex notes m
  IsIndex-all notes zero m h found = found
  IsIndex-all notes (suc i) m h found = absurd (omega arith)

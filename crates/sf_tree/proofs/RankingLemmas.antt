-- Ranks that are noted by place, on the way to those of all layers.
use Rattle.std.proofs.Common.{◌≡◌, ℕ, zero, suc, ◌+◌, ◌<◌, ◌≤◌, ◌≢◌, Bool, true, false, List, length, get_or, Option, Some, None, refl, ◌∙◌, sym, subst, arith, replicate}
use Rattle.std.specs.List.{All, slice_get, slice_set}
use Rattle.std.specs.Prelude.{eqb}
use Rattle.std.proofs.lemmas.Bool.{eqb-true, eq-eqb}
use Rattle.std.proofs.lemmas.List.{get_or-set_same, get_or-set_other, get_or-replicate}
use Rattle.std.proofs.lemmas.Option.{get_or_from_slice_get}
use Rattle.sf_base.specs.declared.ids.LayerId.{LayerId}
use Rattle.sf_layer.specs.declared.layer.Layer.{Layer}
use Rattle.sf_layer.specs.declared.parent.Parent.TheVariants as parent
use Rattle.sf_tree.specs.Kept.{IsDistinct, IsTied}
use Rattle.sf_tree.specs.inner.Known.{IsBounded}
use Rattle.sf_tree.specs.Layers.{index_of, layer_of}
use Rattle.sf_tree.specs.inner.Ranking.{rank_at, rank_by, HasLower, LeadsLower, KeepsRanks, IsSound, IsFound, IsFoundBelow}
use Rattle.sf_tree.proofs.TreeKept.{found_itself}
use Rattle.sf_tree.proofs.Ranks.{layer_of-number}
use Rattle.sf_tree.proofs.ShowLemmas.{at_found, inside_from_slice_get}

-- what is so of all layers is so of the one at a place
pub All-at : (P : Layer → Type 0) (layers : List Layer) (place : ℕ) (layer : Layer) → All P layers → slice_get layers place ≡ Some layer → P layer
All-at P layers place layer all at = subst P (get_or_from_slice_get layers place layer layer at) (all place layer (inside_from_slice_get layers place layer at))

pub rank_by-kept : (layers : List Layer) (old new : List ℕ) (n : ℕ) → KeepsRanks old new → 0 < rank_by layers old n → rank_by layers new n ≡ rank_by layers old n
rank_by-kept layers old new n kept h = by_place (index_of layers (record { 0 = n })) h
  where
    by_place : (o : Option ℕ) → 0 < rank_at old o → rank_at new o ≡ rank_at old o
    by_place None h = refl
    by_place (Some place) h = kept place h

-- what led to lower ranks leads to them on, also from a higher rank
pub HasLower-kept : (layers : List Layer) (old new : List ℕ) (rank more : ℕ) (id : LayerId) → KeepsRanks old new → rank ≤ more → HasLower layers old rank id → HasLower layers new more id
HasLower-kept layers old new rank more id kept le h =
    let same : rank_by layers new id.0 ≡ rank_by layers old id.0 = rank_by-kept layers old new id.0 kept h.noted in
    record { noted = rw same h.noted; low = rw same (omega (arith, h.low, le)) }

pub LeadsLower-kept : (layers : List Layer) (old new : List ℕ) (rank : ℕ) (layer : Layer) → KeepsRanks old new → LeadsLower layers old rank layer → LeadsLower layers new rank layer
LeadsLower-kept layers old new rank layer kept h = record {
  parent = λ id e. HasLower-kept layers old new rank rank id kept (omega arith) (h.parent id e);
  relative = λ id e. HasLower-kept layers old new rank rank id kept (omega arith) (h.relative id e);
}

-- a rank that is noted where there was none
pub KeepsRanks-set : (ranks : List ℕ) (place rank : ℕ) → get_or ranks place 0 ≡ 0 → KeepsRanks ranks (slice_set ranks place rank)
KeepsRanks-set ranks place rank none p h = get_or-set_other ranks place p rank 0 (λ same. absurd (omega (arith, subst (λ (q : ℕ). 0 < get_or ranks q 0) same h, none)))

pub IsSound-set : (layers : List Layer) (ranking : ℕ → ℕ) (ranks : List ℕ) (place : ℕ) (layer : Layer) (rank : ℕ) → length ranks ≡ length layers → slice_get layers place ≡ Some layer → get_or ranks place 0 ≡ 0
    → rank ≤ ranking layer.number.0 + 1 → LeadsLower layers ranks rank layer → IsSound layers ranking ranks → IsSound layers ranking (slice_set ranks place rank)
IsSound-set layers ranking ranks place layer rank size at none le leads s = record {
  bounded = s.bounded;
  tied = s.tied;
  most = λ p l e. most p l e (eqb p place) refl;
  lower = λ p l e h. LeadsLower-kept layers ranks (slice_set ranks place rank) _ l kept (lower p l e h (eqb p place) refl);
}
  where
    kept : KeepsRanks ranks (slice_set ranks place rank)
    kept = KeepsRanks-set ranks place rank none

    here : get_or (slice_set ranks place rank) place 0 ≡ rank
    here = get_or-set_same ranks place rank 0 (omega (arith, inside_from_slice_get layers place layer at, size))

    one : (p : ℕ) (l : Layer) → slice_get layers p ≡ Some l → p ≡ place → layer ≡ l
    one p l e same = let both : Some layer ≡ Some l = sym at ∙ subst (λ (q : ℕ). slice_get layers q ≡ Some l) same e in cc

    other : (p : ℕ) → eqb p place ≡ false → get_or (slice_set ranks place rank) p 0 ≡ get_or ranks p 0
    other p t = get_or-set_other ranks place p rank 0 (λ q. let clash : true ≡ false = sym (eq-eqb p place q) ∙ t in cc)

    most : (p : ℕ) (l : Layer) → slice_get layers p ≡ Some l → (b : Bool) → eqb p place ≡ b → get_or (slice_set ranks place rank) p 0 ≤ ranking l.number.0 + 1
    most p l e true t =
        let same : p ≡ place = eqb-true p place t in
        rw (same, here) (subst (λ (m : Layer). rank ≤ ranking m.number.0 + 1) (one p l e same) le)
    most p l e false t = rw (other p t) (s.most p l e)

    lower : (p : ℕ) (l : Layer) → slice_get layers p ≡ Some l → 0 < get_or (slice_set ranks place rank) p 0 → (b : Bool) → eqb p place ≡ b → LeadsLower layers ranks (get_or (slice_set ranks place rank) p 0) l
    lower p l e h true t =
        let same : p ≡ place = eqb-true p place t in
        rw (same, here) (subst (λ (m : Layer). LeadsLower layers ranks rank m) (one p l e same) leads)
    lower p l e h false t = rw (other p t) (s.lower p l e (rw (other p t) at h))

-- no rank is noted yet
IsSound-none : (layers : List Layer) (ranking : ℕ → ℕ) (n : ℕ) → IsBounded layers ranking → All (IsTied layers) layers → n ≡ length layers → IsSound layers ranking (replicate n 0)
IsSound-none layers ranking n bounded tied size = record {
  bounded = bounded;
  tied = tied;
  most = λ p l e. omega (arith, none p l e);
  lower = λ p l e h. absurd (omega (arith, none p l e, h));
}
  where
    zeros : List ℕ
    zeros = replicate n 0

    none : (p : ℕ) (l : Layer) → slice_get layers p ≡ Some l → get_or zeros p 0 ≡ 0
    none p l e = get_or-replicate n p 0 0 (omega (arith, inside_from_slice_get layers p l e, size))

-- the rank of a layer that was found below is noted, unless one was
pub found_at : (layers : List Layer) (ranking : ℕ → ℕ) (old new : List ℕ) (place : ℕ) (layer : Layer) (below : ℕ) → length old ≡ length layers → slice_get layers place ≡ Some layer → IsFoundBelow layers ranking old layer below
    → (0 < get_or old place 0 → new ≡ old) → (get_or old place 0 ≡ 0 → new ≡ slice_set old place (below + 1)) → IsFound layers ranking new (get_or new place 0)
found_at layers ranking old new place layer below size at found kept noted = by_rank (get_or old place 0) refl
  where
    by_rank : (rank : ℕ) → get_or old place 0 ≡ rank → IsFound layers ranking new (get_or new place 0)
    by_rank zero e = rw (noted e) record {
      sound = IsSound-set layers ranking old place layer (below + 1) size at e (omega (arith, found.low)) found.lower found.sound;
      noted = rw (get_or-set_same old place (below + 1) 0 (omega (arith, inside_from_slice_get layers place layer at, size))) (omega arith);
    }
    by_rank (suc rank) e = rw (kept (omega (arith, e))) record { sound = found.sound; noted = omega (arith, e) }

-- ranks by number are not higher than the ranking by more than 1
pub rank_by-most : (layers : List Layer) (ranking : ℕ → ℕ) (ranks : List ℕ) (id : LayerId) → IsSound layers ranking ranks → rank_by layers ranks id.0 ≤ ranking id.0 + 1
rank_by-most layers ranking ranks id s = by_place (index_of layers id) refl
  where
    by_place : (o : Option ℕ) → index_of layers id ≡ o → rank_at ranks o ≤ ranking id.0 + 1
    by_place None e = omega arith
    by_place (Some place) e =
        let at = at_found layers id place (sym e) in
        subst (λ (n : ℕ). get_or ranks place 0 ≤ ranking n + 1) (layer_of-number layers id at.0 at.1) (s.most place at.0 at.2)

-- of one of the steps of a layer, where it leads to was found
pub record IsStepFound (layers : List Layer) (ranking : ℕ → ℕ) (ranks : List ℕ) (layer : Layer) (step : LayerId → Type 0) (rank : ℕ) : Type 0 where
  pub sound : IsSound layers ranking ranks
  pub low : rank ≤ ranking layer.number.0
  pub lower : (id : LayerId) → step id → HasLower layers ranks (rank + 1) id

pub no_step : (layers : List Layer) (ranking : ℕ → ℕ) (ranks : List ℕ) (layer : Layer) (step : LayerId → Type 0) → IsSound layers ranking ranks → ((id : LayerId) → step id → ⊥) → IsStepFound layers ranking ranks layer step 0
no_step layers ranking ranks layer step s none = record { sound = s; low = omega arith; lower = λ id e. absurd (none id e) }

pub one_step : (layers : List Layer) (ranking : ℕ → ℕ) (ranks : List ℕ) (layer : Layer) (step : LayerId → Type 0) (id : LayerId) (rank : ℕ) → IsFound layers ranking ranks rank → rank ≡ rank_by layers ranks id.0
    → ranking id.0 < ranking layer.number.0 → ((other : LayerId) → step other → id ≡ other) → IsStepFound layers ranking ranks layer step rank
one_step layers ranking ranks layer step id rank found is less alone = record {
  sound = found.sound;
  low = omega (arith, rank_by-most layers ranking ranks id found.sound, is, less);
  lower = λ other e. subst (HasLower layers ranks (rank + 1)) (alone other e) (record { noted = omega (arith, is, found.noted); low = omega (arith, is) });
}

-- both steps of a layer
pub both_steps : (layers : List Layer) (ranking : ℕ → ℕ) (old new : List ℕ) (layer : Layer) (a b rank : ℕ) → IsStepFound layers ranking old layer (λ id. layer.parent ≡ parent.Layer id) a → KeepsRanks old new
    → IsStepFound layers ranking new layer (λ id. layer.relative ≡ Some id) b → a ≤ rank → b ≤ rank → rank ≤ ranking layer.number.0 → IsFoundBelow layers ranking new layer rank
both_steps layers ranking old new layer a b rank first kept second above_a above_b low = record {
  sound = second.sound;
  low = low;
  lower = record {
    parent = λ id e. HasLower-kept layers old new (a + 1) (rank + 1) id kept (omega arith) (first.lower id e);
    relative = λ id e. HasLower-kept layers new new (b + 1) (rank + 1) id (λ p h. refl) (omega arith) (second.lower id e);
  };
}

-- the layer at a place is the one that is found by its number
pub found_at_place : (layers : List Layer) → IsDistinct layers → (place : ℕ) (layer : Layer) → slice_get layers place ≡ Some layer → layer_of layers layer.number ≡ Some layer
found_at_place layers distinct place layer at =
    subst (λ (l : Layer). layer_of layers l.number ≡ Some l) (get_or_from_slice_get layers place layer layer at) (found_itself layers distinct place layer (inside_from_slice_get layers place layer at))

-- the ranks of the first layers were found
pub record IsFoundUpTo (layers : List Layer) (ranking : ℕ → ℕ) (ranks : List ℕ) (end : ℕ) : Type 0 where
  pub sound : IsSound layers ranking ranks
  pub noted : (place : ℕ) → place < end → 0 < get_or ranks place 0

pub none_found : (layers : List Layer) (ranking : ℕ → ℕ) (n : ℕ) → IsBounded layers ranking → All (IsTied layers) layers → n ≡ length layers → IsFoundUpTo layers ranking (replicate n 0) 0
none_found layers ranking n bounded tied size = record { sound = IsSound-none layers ranking n bounded tied size; noted = λ p h. absurd (omega arith) }

pub found_more : (layers : List Layer) (ranking : ℕ → ℕ) (old new : List ℕ) (end rank : ℕ) → IsFoundUpTo layers ranking old end → KeepsRanks old new → IsFound layers ranking new rank → rank ≡ get_or new end 0 → IsFoundUpTo layers ranking new (end + 1)
found_more layers ranking old new end rank up kept found is = record {
  sound = found.sound;
  noted = λ p h. by_place p h (eqb p end) refl;
}
  where
    by_place : (p : ℕ) → p < end + 1 → (b : Bool) → eqb p end ≡ b → 0 < get_or new p 0
    by_place p h true t = rw (eqb-true p end t, sym is) found.noted
    by_place p h false t =
        let apart : p ≢ end = λ q. let clash : true ≡ false = sym (eq-eqb p end q) ∙ t in cc in
        let old_is : 0 < get_or old p 0 = up.noted p (omega (arith, h, apart)) in
        rw (kept p old_is) old_is

-- What a hold is decided from besides the transaction.
use Rattle.std.specs.Prelude.{◌≡◌, ℕ, ◌==◌, nat_le, Bool, ◌&&◌, List, [], ◌∷◌}
use Rattle.std.specs.List.{list_any}
use Rattle.sf_base.specs.declared.ids.LayerId.{LayerId}

-- the buffers that were committed, each as its layer's number and its frame number, of which the greatest of a layer
-- is enough; the layers that got a buffer in this vsync; and the layers that have backpressure
pub record FactsOf : Type 0 where
  pub frames : List (ℕ × ℕ)
  pub fresh : List ℕ
  pub pressed : List ℕ

abbrev pub no_facts : FactsOf
no_facts = record { frames = []; fresh = []; pressed = [] }

-- a buffer with at least the barrier's frame number was committed for its layer
abbrev pub meets : LayerId × ℕ → ℕ × ℕ → Bool
meets barrier committed = (committed.0 == barrier.0.0) && nat_le barrier.1 committed.1

-- one of these frames meets the barrier
abbrev pub is_met : List (ℕ × ℕ) → LayerId × ℕ → Bool
is_met frames barrier = list_any (meets barrier) frames

-- the layer is one of these
abbrev pub has_layer : List ℕ → LayerId → Bool
has_layer layers layer = list_any (λ number. number == layer.0) layers

-- the same barriers are met by both, as far as buffers show
abbrev pub TellsSame : List (ℕ × ℕ) → List (ℕ × ℕ) → Type 0
TellsSame frames others = (barrier : LayerId × ℕ) → is_met frames barrier ≡ is_met others barrier

-- the facts after one buffer more
abbrev pub TellsOneMore : List (ℕ × ℕ) → List (ℕ × ℕ) → ℕ × ℕ → Type 0
TellsOneMore old new committed = TellsSame new (committed ∷ old)

-- the same layers are in both
abbrev pub HasSame : List ℕ → List ℕ → Type 0
HasSame layers others = (layer : LayerId) → has_layer layers layer ≡ has_layer others layer

abbrev pub HasOneMore : List ℕ → List ℕ → LayerId → Type 0
HasOneMore old new layer = HasSame new (layer.0 ∷ old)

-- Transactions without rights: what takes a place in one takes it in the other.
use Rattle.std.proofs.Common.{◌≡◌, ◌==◌, suc, zero, List, [], ◌∷◌, ◌++◌, inl, inr, arith, ap, ◌∙◌, sym, refl, Option, Some, None}
use Rattle.std.specs.Prelude.{find, map, option_to_list}
use Rattle.std.specs.List.{All}
use Rattle.std.specs.Option.{option_map}
use Rattle.std.proofs.lemmas.Bool.{cases_Bool}
use Rattle.std.proofs.lemmas.List.{map-append}
use Rattle.std.proofs.lemmas.List.Elements.{All-append, All-push}
use Rattle.sf_base.specs.declared.ids.LayerId.{LayerId}
use Rattle.sf_surface.specs.Tokens.{ReadLeaseOf}
use Rattle.sf_token.specs.sf_txn.Buffers.{Buffer}
use Rattle.sf_token.specs.sf_txn.Transactions.{Contents, all_replaced, is_for, merged, replaced_by, set_buffer, with_buffer, with_buffers, without_first}
use Rattle.sf_actor.specs.Asking.{lease_of}
use Rattle.sf_actor.specs.Known.{frame_of, plain_buffer, plain_txn}
use Rattle.sf_actor.specs.Names.{FrameOf}

-- the frame of a buffer, with its right
abbrev pub right_of : Buffer ReadLeaseOf → ReadLeaseOf
right_of buffer = buffer.lease

found_plain : (layer : LayerId) (buffers : List (Buffer ReadLeaseOf)) → find (is_for layer) (map plain_buffer buffers) ≡ option_map plain_buffer (find (is_for layer) buffers)
found_plain layer [] = refl
found_plain layer (buffer ∷ buffers) = elim (cases_Bool (buffer.layer.0 == layer.0)) [
  | inl met ↦ rw met refl
  | inr unmet ↦ rw unmet (found_plain layer buffers)
]

without_plain : (layer : LayerId) (buffers : List (Buffer ReadLeaseOf)) → without_first (is_for layer) (map plain_buffer buffers) ≡ map plain_buffer (without_first (is_for layer) buffers)
without_plain layer [] = refl
without_plain layer (buffer ∷ buffers) = elim (cases_Bool (buffer.layer.0 == layer.0)) [
  | inl met ↦ rw met refl
  | inr unmet ↦ rw unmet (ap (λ (rest : List (Buffer FrameOf)). plain_buffer buffer ∷ rest) (without_plain layer buffers))
]

with_plain : (buffers : List (Buffer ReadLeaseOf)) (buffer : Buffer ReadLeaseOf) → with_buffer (map plain_buffer buffers) (plain_buffer buffer) ≡ map plain_buffer (with_buffer buffers buffer)
with_plain buffers buffer =
    ap (λ (rest : List (Buffer FrameOf)). rest ++ plain_buffer buffer ∷ []) (without_plain buffer.layer buffers)
    ∙ sym (map-append plain_buffer (without_first (is_for buffer.layer) buffers) (buffer ∷ []))

all_with_plain : (buffers more : List (Buffer ReadLeaseOf)) → with_buffers (map plain_buffer buffers) (map plain_buffer more) ≡ map plain_buffer (with_buffers buffers more)
all_with_plain buffers [] = refl
all_with_plain buffers (buffer ∷ more) =
    ap (λ (rest : List (Buffer FrameOf)). with_buffers rest (map plain_buffer more)) (with_plain buffers buffer) ∙ all_with_plain (with_buffer buffers buffer) more

-- a transaction that shows one more frame, and two that are merged
pub shown_plain : (txn : Contents ReadLeaseOf) (buffer : Buffer ReadLeaseOf) → set_buffer (plain_txn txn) (plain_buffer buffer) ≡ plain_txn (set_buffer txn buffer)
shown_plain txn buffer = ap (λ (buffers : List (Buffer FrameOf)). record (set_buffer (plain_txn txn) (plain_buffer buffer)) { buffers = buffers }) (with_plain txn.buffers buffer)

pub merged_plain : (txn other : Contents ReadLeaseOf) → merged (plain_txn txn) (plain_txn other) ≡ plain_txn (merged txn other)
merged_plain txn other = ap (λ (buffers : List (Buffer FrameOf)). record (merged (plain_txn txn) (plain_txn other)) { buffers = buffers }) (all_with_plain txn.buffers other.buffers)

-- the frames whose places are taken
one_frame : (found : Option (Buffer ReadLeaseOf)) → map lease_of (option_to_list (option_map plain_buffer found)) ≡ map frame_of (map right_of (option_to_list found))
one_frame None = refl
one_frame (Some buffer) = refl

pub replaced_plain : (buffers : List (Buffer ReadLeaseOf)) (buffer : Buffer ReadLeaseOf) → map lease_of (option_to_list (replaced_by (map plain_buffer buffers) (plain_buffer buffer))) ≡ map frame_of (map right_of (option_to_list (replaced_by buffers buffer)))
replaced_plain buffers buffer =
    ap (λ (found : Option (Buffer FrameOf)). map lease_of (option_to_list found)) (found_plain buffer.layer buffers) ∙ one_frame (replaced_by buffers buffer)

pub all_replaced_plain : (buffers more : List (Buffer ReadLeaseOf)) → map lease_of (all_replaced (map plain_buffer buffers) (map plain_buffer more)) ≡ map frame_of (map right_of (all_replaced buffers more))
all_replaced_plain buffers [] = refl
all_replaced_plain buffers (buffer ∷ more) =
    let rest : map lease_of (all_replaced (with_buffer (map plain_buffer buffers) (plain_buffer buffer)) (map plain_buffer more)) ≡ map frame_of (map right_of (all_replaced (with_buffer buffers buffer) more)) =
    ap (λ (now : List (Buffer FrameOf)). map lease_of (all_replaced now (map plain_buffer more))) (with_plain buffers buffer) ∙ all_replaced_plain (with_buffer buffers buffer) more in
    map-append lease_of (option_to_list (replaced_by (map plain_buffer buffers) (plain_buffer buffer))) (all_replaced (with_buffer (map plain_buffer buffers) (plain_buffer buffer)) (map plain_buffer more))
    ∙ (λ i. replaced_plain buffers buffer i ++ rest i)
    ∙ sym (map-append frame_of (map right_of (option_to_list (replaced_by buffers buffer))) (map right_of (all_replaced (with_buffer buffers buffer) more)))
    ∙ ap (map frame_of) (sym (map-append right_of (option_to_list (replaced_by buffers buffer)) (all_replaced (with_buffer buffers buffer) more)))

-- what holds of all buffers of a transaction, and of one that it shows, holds of all then
module _ (P : Buffer ReadLeaseOf → Type 0) where
  without_all : (layer : LayerId) (buffers : List (Buffer ReadLeaseOf)) → All P buffers → All P (without_first (is_for layer) buffers)
  without_all layer [] all = all
  without_all layer (buffer ∷ buffers) all = elim (cases_Bool (buffer.layer.0 == layer.0)) [
    | inl met ↦ rw met (tail all)
    | inr unmet ↦ rw unmet (joined (without_all layer buffers (tail all)))
  ]
    where
      tail : All P (buffer ∷ buffers) → All P buffers
      tail every k d low = every (suc k) d (omega (arith, low))

      joined : All P (without_first (is_for layer) buffers) → All P (buffer ∷ without_first (is_for layer) buffers)
      joined every zero d low = all 0 d (omega arith)
      joined every (suc k) d low = every k d (omega (arith, low))

  pub with_all : (buffers : List (Buffer ReadLeaseOf)) (buffer : Buffer ReadLeaseOf) → All P buffers → P buffer → All P (with_buffer buffers buffer)
  with_all buffers buffer all one = All-push P (without_first (is_for buffer.layer) buffers) buffer (without_all buffer.layer buffers all) one

  pub all_with_all : (buffers more : List (Buffer ReadLeaseOf)) → All P buffers → All P more → All P (with_buffers buffers more)
  all_with_all buffers [] all others = all
  all_with_all buffers (buffer ∷ more) all others =
      all_with_all (with_buffer buffers buffer) more (with_all buffers buffer all (others 0 buffer (omega arith))) (λ k d low. others (suc k) d (omega (arith, low)))

  -- and of those whose places are taken
  pub replaced_all : (layer : LayerId) (buffers : List (Buffer ReadLeaseOf)) → All P buffers → All P (option_to_list (find (is_for layer) buffers))
  replaced_all layer [] all = all
  replaced_all layer (buffer ∷ buffers) all = elim (cases_Bool (buffer.layer.0 == layer.0)) [
    | inl met ↦ rw met (All-push P [] buffer none (all 0 buffer (omega arith)))
    | inr unmet ↦ rw unmet (replaced_all layer buffers (λ k d low. all (suc k) d (omega (arith, low))))
  ]
    where
      none : All P []
      none k d low = absurd (omega (arith, low))

  pub all_replaced_all : (buffers more : List (Buffer ReadLeaseOf)) → All P buffers → All P more → All P (all_replaced buffers more)
  all_replaced_all buffers [] all others = others
  all_replaced_all buffers (buffer ∷ more) all others =
      All-append P (option_to_list (replaced_by buffers buffer)) (all_replaced (with_buffer buffers buffer) more) (replaced_all buffer.layer buffers all)
      (all_replaced_all (with_buffer buffers buffer) more (with_all buffers buffer all (others 0 buffer (omega arith))) (λ k d low. others (suc k) d (omega (arith, low))))

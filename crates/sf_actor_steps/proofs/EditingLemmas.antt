-- Operations of changes, and frames that are given back one after another.
use Rattle.std.proofs.Common.{◌≡◌, ℕ, Bool, true, false, List, [], ◌∷◌, Option, Some, refl}
use Rattle.std.specs.Prelude.{find, option_to_list, if◌then◌else◌}
use Rattle.std.specs.List.{All}
use Rattle.std.proofs.lemmas.List.Elements.{All-append, All-cons, All-head, All-nil, All-push, All-tail}
use Rattle.sf_actor.specs.sf_script_scene.declared.change.Change.{Change}
use Rattle.sf_actor.specs.sf_script_scene.declared.change.Change.TheVariants as change
use Rattle.sf_base.specs.declared.ids.LayerId.{LayerId}
use Rattle.sf_actor.specs.sf_surface.Tokens.{ReadLeaseOf}
use Rattle.sf_actor.specs.sf_txn.Buffers.{Buffer}
use Rattle.sf_actor.specs.sf_txn.Transactions.{all_replaced, is_for, replaced_by, shows_of, with_buffer, without_first}
use Rattle.sf_actor.specs.Desks.{DeskHome, DeskView}
use Rattle.sf_actor.specs.Scripts.{op_of}
use Rattle.sf_actor_steps.specs.Editing.{IsThere, Releases, ReleasesAll}

-- the operation of a change shows no buffer
pub shows_none : (changed : Change) (layer : LayerId) → shows_of (op_of changed) layer ≡ []
shows_none (change.CreateContainer above) layer = refl
shows_none (change.CreateColour above) layer = refl
shows_none (change.CreateBuffer above) layer = refl
shows_none change.Destroy layer = refl
shows_none (change.Reparent above) layer = refl
shows_none (change.Z z) layer = refl
shows_none (change.Relative of z) layer = refl
shows_none (change.Position x y) layer = refl
shows_none (change.Crop x y width height) layer = refl
shows_none change.CropNone layer = refl
shows_none (change.Alpha alpha) layer = refl
shows_none (change.Hidden on) layer = refl
shows_none (change.Opaque on) layer = refl
shows_none (change.Colour colour) layer = refl
shows_none (change.Backpressure on) layer = refl
shows_none (change.Orient orient) layer = refl

module _ {X : Type 0} (P : X → Type 0) where
  -- what holds of each item holds of those that are left, and of the one that is found
  without_by : (met : Bool) (x : X) (xs rest : List X) → P x → All P xs → All P rest → All P (if met then xs else x ∷ rest)
  without_by true x xs rest one all left = all
  without_by false x xs rest one all left = All-cons P x rest one left

  pub All-without_first : (test : X → Bool) (xs : List X) → All P xs → All P (without_first test xs)
  All-without_first test [] all = all
  All-without_first test (x ∷ xs) all =
      without_by (test x) x xs (without_first test xs) (All-head P x xs all) (All-tail P x xs all) (All-without_first test xs (All-tail P x xs all))

  found_by : (met : Bool) (x : X) (found : Option X) → P x → All P (option_to_list found) → All P (option_to_list (if met then Some x else found))
  found_by true x found one all = All-cons P x [] one (All-nil P)
  found_by false x found one all = all

  pub All-find : (test : X → Bool) (xs : List X) → All P xs → All P (option_to_list (find test xs))
  All-find test [] all = All-nil P
  All-find test (x ∷ xs) all = found_by (test x) x (find test xs) (All-head P x xs all) (All-find test xs (All-tail P x xs all))

pub All-replaced : {L : Type 0} (P : Buffer L → Type 0) (buffers later : List (Buffer L)) → All P buffers → All P later → All P (all_replaced buffers later)
All-replaced P buffers [] all all_later = All-nil P
All-replaced P buffers (buffer ∷ later) all all_later =
    All-append P (option_to_list (replaced_by buffers buffer)) (all_replaced (with_buffer buffers buffer) later) (All-find P (is_for buffer.layer) buffers all)
    (All-replaced P (with_buffer buffers buffer) later
    (All-push P (without_first (is_for buffer.layer) buffers) buffer (All-without_first P (is_for buffer.layer) buffers all) (All-head P buffer later all_later))
    (All-tail P buffer later all_later))

module _ {B : Type 0} where
  -- the rest of the frames is given back after the first ones were
  pub record ReleasesRest (home : DeskHome) (by step_number : ℕ) (all rest : List (Buffer ReadLeaseOf)) (old now : DeskView B) : Type 0 where
    pub there : All (IsThere home) rest
    pub goes_on : (new : DeskView B) → ReleasesAll home by step_number rest now new → ReleasesAll home by step_number all old new

  pub released_none : (home : DeskHome) (by step_number : ℕ) (all : List (Buffer ReadLeaseOf)) (old : DeskView B) → All (IsThere home) all → ReleasesRest home by step_number all all old old
  released_none home by step_number all old there = record { there = there; goes_on = λ new released. released }

  pub released_one : (home : DeskHome) (by step_number : ℕ) (all rest : List (Buffer ReadLeaseOf)) (buffer : Buffer ReadLeaseOf) (old now next : DeskView B) → ReleasesRest home by step_number all (buffer ∷ rest) old now → Releases home by step_number buffer.lease now next → ReleasesRest home by step_number all rest old next
  released_one home by step_number all rest buffer old now next is released = record {
    there = All-tail (IsThere home) buffer rest is.there;
    goes_on = λ new later. is.goes_on new (next, released, later);
  }

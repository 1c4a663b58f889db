-- A vsync keeps that each layer shows the buffer that stands for it.
use Rattle.std.proofs.Common.{◌≡◌, ℕ, ◌+◌, ℤ, Bool, true, false, not, List, [], ◌∷◌, ◌++◌, length, get_or, map, Option, Some, None, Result, Ok, Err, refl, ap, ◌∙◌, sym, subst}
use Rattle.std.specs.List.{All, filter}
use Rattle.std.specs.Prelude.{if◌then◌else◌, ◌&&◌, nat_le}
use Rattle.std.proofs.lemmas.List.Elements.{All-head, All-tail}
use Rattle.sf_base.specs.declared.fences.Seen.{Seen}
use Rattle.sf_base.specs.declared.ids.LayerId.{LayerId}
use Rattle.sf_view.specs.sf_layer.declared.kind.Kind.{Kind}
use Rattle.sf_view.specs.sf_layer.declared.layer.Layer.{Layer}
use Rattle.sf_view.specs.sf_layer.declared.op.Op.{Op}
use Rattle.sf_view.specs.sf_layer.declared.op.Op.TheVariants as op
use Rattle.sf_view.specs.sf_layer.declared.parent.Parent.{Parent}
use Rattle.sf_view.specs.sf_layer.declared.shown.Shown.{Shown}
use Rattle.sf_commit_next.specs.sf_token.Pending.{Arrival}
use Rattle.sf_view.specs.sf_tree.declared.reject.Reject.{Reject}
use Rattle.sf_view.specs.sf_tree.declared.reject.Reject.TheVariants as reject
use Rattle.sf_view.specs.sf_tree.Changes.{Rejection, after, after_from, created, destroyed, edited, edited_layer, fits_kind, made_relative, new_layer, reparented, then_after, with_layer, with_layers, without_steps_to}
use Rattle.sf_view.specs.sf_tree.Kept.{IsDistinct}
use Rattle.sf_view.specs.sf_tree.Layers.{has_layer, has_parent, is_numbered, layer_of}
use Rattle.sf_view.specs.sf_tree.Steps.{all_steps, parent_steps, reaches_itself}
use Rattle.sf_view.specs.sf_tree.Trees.{TreeOf}
use Rattle.sf_view.proofs.sf_tree_lemmas.TreeKept.{found_itself}
use Rattle.sf_commit_next.specs.sf_txn.Buffers.{Buffer}
use Rattle.sf_commit_next.specs.sf_txn.Transactions.{shown_by, shows}
use Rattle.sf_commit.proofs.StandingLemmas.{stands_edited, stands_last, stands_read, stands_shown, stands_without}
use Rattle.sf_commit.specs.inner.Deciding.{ShowsIts}
use Rattle.sf_commit.specs.Standing.{Stands, shown_at}
use Rattle.sf_commit.specs.Handlers.{IsOnLayer}
use Rattle.sf_commit.specs.OnLayers.{OnLayer, brought, on_after, shown_on, without}
use Rattle.sf_commit.specs.Rounds.{Decided, Leads, Round, StageOf, committed, stage_with}

-- a change that could be made has no cause
pub no_cause : {A : Type 0} (b : Bool) (cause : Reject) (rest : Result A Reject) (x : A) → (if b then Err cause else rest) ≡ Ok x → rest ≡ Ok x
no_cause true cause rest x h = cc
no_cause false cause rest x h = h

pub same_layers : (a b : List Layer) → ◌≡◌ {A = Result (List Layer) Reject} (Ok a) (Ok b) → a ≡ b
same_layers a b h = cc

module _ {L : Type 0} (layers : List Layer) (on : List (OnLayer L)) (id : LayerId) (next : List Layer) where
  stands_created : (most : ℕ) (kind : Kind) (parent : Parent) → created most layers id kind parent ≡ Ok next → Stands layers on → Stands next on
  unfolding created
  stands_created most kind parent h stands =
      let to = layers ++ new_layer id kind parent ∷ [] in
      let many = if nat_le most (length layers) then Err reject.TooManyLayers else Ok to in
      let there = if has_layer layers id then Err reject.LayerExists else many in
      let one = no_cause (not (has_parent layers parent)) reject.UnknownLayer there next h in
      let two = no_cause (has_layer layers id) reject.LayerExists many next one in
      let three = no_cause (nat_le most (length layers)) reject.TooManyLayers (Ok to) next two in
      subst (λ (l : List Layer). Stands l on) (same_layers _ _ three) (stands_last (new_layer id kind parent) refl layers on stands)

  stands_destroyed : destroyed layers id ≡ Ok next → Stands layers on → Stands next (without id on)
  unfolding destroyed
  stands_destroyed h stands = by_test (has_layer layers id) h
    where
      rest : List Layer
      rest = map (without_steps_to id) (filter (λ layer. not (is_numbered id layer)) layers)

      by_test : (b : Bool) → (if b then Ok rest else Err reject.UnknownLayer) ≡ Ok next → Stands next (without id on)
      by_test true k = subst (λ (l : List Layer). Stands l (without id on)) (same_layers _ _ k) (stands_without id layers on stands)
      by_test false k = cc

  stands_reparented : (parent : Parent) → reparented layers id parent ≡ Ok next → Stands layers on → Stands next on
  unfolding reparented
  stands_reparented parent h stands =
      let to = with_layer id (λ layer. record layer { parent = parent }) layers in
      let drawn = if reaches_itself all_steps to id then Err reject.DrawCycle else Ok to in
      let hung = if reaches_itself parent_steps to id then Err reject.ParentCycle else drawn in
      let one = no_cause (not (has_layer layers id && has_parent layers parent)) reject.UnknownLayer hung next h in
      let two = no_cause (reaches_itself parent_steps to id) reject.ParentCycle drawn next one in
      let three = no_cause (reaches_itself all_steps to id) reject.DrawCycle (Ok to) next two in
      subst (λ (l : List Layer). Stands l on) (same_layers _ _ three)
      (stands_edited id (λ layer. record layer { parent = parent }) (λ layer. refl) (λ layer. refl) layers on stands)

  stands_relative : (other : LayerId) (z : ℤ) → made_relative layers id other z ≡ Ok next → Stands layers on → Stands next on
  unfolding made_relative
  stands_relative other z h stands =
      let to = with_layer id (λ layer. record layer { relative = Some other; z = z }) layers in
      let drawn = if reaches_itself all_steps to id then Err reject.DrawCycle else Ok to in
      let one = no_cause (not (has_layer layers id && has_layer layers other)) reject.UnknownLayer drawn next h in
      let two = no_cause (reaches_itself all_steps to id) reject.DrawCycle (Ok to) next one in
      subst (λ (l : List Layer). Stands l on) (same_layers _ _ two)
      (stands_edited id (λ layer. record layer { relative = Some other; z = z }) (λ layer. refl) (λ layer. refl) layers on stands)

  stands_plain : (o : Op) → ((layer : Layer) → (edited o layer).number ≡ layer.number) → ((layer : Layer) → (edited o layer).shown ≡ layer.shown)
      → (found : Option Layer) → edited_layer layers id o found ≡ Ok next → Stands layers on → Stands next on
  stands_plain o number shown None h stands = cc
  stands_plain o number shown (Some layer) h stands = by_kind (fits_kind o layer.kind) h
    where
      by_kind : (b : Bool) → (if b then Ok (with_layer id (edited o) layers) else Err reject.WrongKind) ≡ Ok next → Stands next on
      by_kind true k = subst (λ (l : List Layer). Stands l on) (same_layers _ _ k) (stands_edited id (edited o) number shown layers on stands)
      by_kind false k = cc

  stands_showing : (shown : Shown) (b : Buffer L) → shown_by b ≡ (id, shown) → (found : Option Layer) → layer_of layers id ≡ found
      → edited_layer layers id (op.Show shown) found ≡ Ok next → Stands layers on → Stands next (without id on ++ brought b ∷ [])
  stands_showing shown b is None e h stands = cc
  stands_showing shown b is (Some layer) e h stands = by_kind (fits_kind (op.Show shown) layer.kind) h
    where
      to : List (OnLayer L)
      to = without id on ++ brought b ∷ []

      shows_it : (l : Layer) → (edited (op.Show shown) l).shown ≡ Some b.shown
      shows_it l = ap (λ (p : LayerId × Shown). Some p.1) (sym is)

      by_kind : (t : Bool) → (if t then Ok (with_layer id (edited (op.Show shown)) layers) else Err reject.WrongKind) ≡ Ok next → Stands next to
      by_kind true k =
          let for_it = ap (λ (p : LayerId × Shown). p.0) is in
          subst (λ (l : List Layer). Stands l to) (same_layers _ _ k)
          (stands_shown id (edited (op.Show shown)) (brought b) layer (λ _. refl) shows_it for_it layers on e stands)
      by_kind false k = cc

module _ {L : Type 0} where
  -- a change that was made leads on
  goes : (number : ℕ) (change : Result (List Layer) Reject) (rest : List Layer → Result (List Layer) Rejection) (on later : List (OnLayer L))
      → (next : List Layer) → ((mid : List Layer) → change ≡ Ok mid → Stands mid on)
      → ((mid : List Layer) → Stands mid on → rest mid ≡ Ok next → Stands next later)
      → then_after number change rest ≡ Ok next → Stands next later
  goes number (Ok mid) rest on later next made leads h = leads mid (made mid refl) h
  goes number (Err cause) rest on later next made leads h = cc

  edits : (number : ℕ) (layers : List Layer) (on later : List (OnLayer L)) (id : LayerId) (o : Op)
      → (rest : List Layer → Result (List Layer) Rejection) (next : List Layer)
      → ((layer : Layer) → (edited o layer).number ≡ layer.number) → ((layer : Layer) → (edited o layer).shown ≡ layer.shown) → Stands layers on
      → ((mid : List Layer) → Stands mid on → rest mid ≡ Ok next → Stands next later)
      → then_after number (edited_layer layers id o (layer_of layers id)) rest ≡ Ok next → Stands next later
  edits number layers on later id o rest next same_number same_shown stands leads h =
      goes number (edited_layer layers id o (layer_of layers id)) rest on later next
      (λ mid k. stands_plain layers on id mid o same_number same_shown (layer_of layers id) k stands) leads h

  stands_from : (most number : ℕ) (ops : List (LayerId × Op)) (buffers : List (Buffer L)) (layers : List Layer) (on : List (OnLayer L)) (next : List Layer)
      → shows ops ≡ map shown_by buffers → Stands layers on → after_from most number layers ops ≡ Ok next → Stands next (on_after on ops buffers)
  stands_from most number [] buffers layers on next e stands h = subst (λ (l : List Layer). Stands l on) (let same : layers ≡ next = cc in same) stands
  stands_from most number ((id, op.Show shown) ∷ ops) [] layers on next e stands h = cc
  stands_from most number ((id, op.Show shown) ∷ ops) (b ∷ bs) layers on next e stands h =
      let is : shown_by b ≡ (id, shown) = cc in
      let others : shows ops ≡ map shown_by bs = cc in
      let to = without id on ++ brought b ∷ [] in
      goes number (edited_layer layers id (op.Show shown) (layer_of layers id)) (λ mid. after_from most (number + 1) mid ops) to (on_after to ops bs) next
      (λ mid k. stands_showing layers on id mid shown b is (layer_of layers id) refl k stands)
      (λ mid. stands_from most (number + 1) ops bs mid to next others) h
  stands_from most number ((id, op.Destroy) ∷ ops) buffers layers on next e stands h =
      goes number (destroyed layers id) (λ mid. after_from most (number + 1) mid ops) (without id on) (on_after (without id on) ops buffers) next
      (λ mid k. stands_destroyed layers on id mid k stands) (λ mid. stands_from most (number + 1) ops buffers mid (without id on) next e) h
  stands_from most number ((id, op.Create kind parent) ∷ ops) buffers layers on next e stands h =
      goes number (created most layers id kind parent) (λ mid. after_from most (number + 1) mid ops) on (on_after on ops buffers) next
      (λ mid k. stands_created layers on id mid most kind parent k stands) (λ mid. stands_from most (number + 1) ops buffers mid on next e) h
  stands_from most number ((id, op.Reparent parent) ∷ ops) buffers layers on next e stands h =
      goes number (reparented layers id parent) (λ mid. after_from most (number + 1) mid ops) on (on_after on ops buffers) next
      (λ mid k. stands_reparented layers on id mid parent k stands) (λ mid. stands_from most (number + 1) ops buffers mid on next e) h
  stands_from most number ((id, op.Relative other z) ∷ ops) buffers layers on next e stands h =
      goes number (made_relative layers id other z) (λ mid. after_from most (number + 1) mid ops) on (on_after on ops buffers) next
      (λ mid k. stands_relative layers on id mid other z k stands) (λ mid. stands_from most (number + 1) ops buffers mid on next e) h
  stands_from most number ((id, op.Z z) ∷ ops) buffers layers on next e stands h =
      edits number layers on (on_after on ops buffers) id (op.Z z) (λ mid. after_from most (number + 1) mid ops) next
      (λ _. refl) (λ _. refl) stands (λ mid. stands_from most (number + 1) ops buffers mid on next e) h
  stands_from most number ((id, op.Position x y) ∷ ops) buffers layers on next e stands h =
      edits number layers on (on_after on ops buffers) id (op.Position x y) (λ mid. after_from most (number + 1) mid ops) next
      (λ _. refl) (λ _. refl) stands (λ mid. stands_from most (number + 1) ops buffers mid on next e) h
  stands_from most number ((id, op.Crop crop) ∷ ops) buffers layers on next e stands h =
      edits number layers on (on_after on ops buffers) id (op.Crop crop) (λ mid. after_from most (number + 1) mid ops) next
      (λ _. refl) (λ _. refl) stands (λ mid. stands_from most (number + 1) ops buffers mid on next e) h
  stands_from most number ((id, op.Alpha alpha) ∷ ops) buffers layers on next e stands h =
      edits number layers on (on_after on ops buffers) id (op.Alpha alpha) (λ mid. after_from most (number + 1) mid ops) next
      (λ _. refl) (λ _. refl) stands (λ mid. stands_from most (number + 1) ops buffers mid on next e) h
  stands_from most number ((id, op.Hidden hidden) ∷ ops) buffers layers on next e stands h =
      edits number layers on (on_after on ops buffers) id (op.Hidden hidden) (λ mid. after_from most (number + 1) mid ops) next
      (λ _. refl) (λ _. refl) stands (λ mid. stands_from most (number + 1) ops buffers mid on next e) h
  stands_from most number ((id, op.Opaque opaque) ∷ ops) buffers layers on next e stands h =
      edits number layers on (on_after on ops buffers) id (op.Opaque opaque) (λ mid. after_from most (number + 1) mid ops) next
      (λ _. refl) (λ _. refl) stands (λ mid. stands_from most (number + 1) ops buffers mid on next e) h
  stands_from most number ((id, op.Colour colour) ∷ ops) buffers layers on next e stands h =
      edits number layers on (on_after on ops buffers) id (op.Colour colour) (λ mid. after_from most (number + 1) mid ops) next
      (λ _. refl) (λ _. refl) stands (λ mid. stands_from most (number + 1) ops buffers mid on next e) h
  stands_from most number ((id, op.Backpressure backpressure) ∷ ops) buffers layers on next e stands h =
      edits number layers on (on_after on ops buffers) id (op.Backpressure backpressure) (λ mid. after_from most (number + 1) mid ops) next
      (λ _. refl) (λ _. refl) stands (λ mid. stands_from most (number + 1) ops buffers mid on next e) h
  stands_from most number ((id, op.Orient orient) ∷ ops) buffers layers on next e stands h =
      edits number layers on (on_after on ops buffers) id (op.Orient orient) (λ mid. after_from most (number + 1) mid ops) next
      (λ _. refl) (λ _. refl) stands (λ mid. stands_from most (number + 1) ops buffers mid on next e) h

  -- after a transaction
  pub stands_after : (tree next : TreeOf) (ops : List (LayerId × Op)) (buffers : List (Buffer L)) (on : List (OnLayer L))
      → shows ops ≡ map shown_by buffers → after tree ops ≡ Ok next → Stands tree.layers on → Stands next.layers (on_after on ops buffers)
  stands_after tree next ops buffers on e h stands = by_answer (after_from tree.most 1 tree.layers ops) refl h
    where
      by_answer : (answer : Result (List Layer) Rejection) → after_from tree.most 1 tree.layers ops ≡ answer → with_layers tree answer ≡ Ok next
          → Stands next.layers (on_after on ops buffers)
      by_answer (Ok layers) made k =
          let same : record tree { layers = layers } ≡ next = cc in
          subst (λ (t : TreeOf). Stands t.layers (on_after on ops buffers)) same (stands_from tree.most 1 ops buffers tree.layers on layers e stands made)
      by_answer (Err rejection) made k = cc

  -- and after one that may be rejected
  pub stands_with : (stage : StageOf L) (a : Arrival L) (answer : Result TreeOf Rejection) → after stage.tree a.txn.ops ≡ answer
      → shows a.txn.ops ≡ map shown_by a.txn.buffers → Stands stage.tree.layers stage.on
      → Stands (stage_with stage a answer).tree.layers (stage_with stage a answer).on
  stands_with stage a (Ok tree) h e stands = stands_after stage.tree tree a.txn.ops a.txn.buffers stage.on e h stands
  stands_with stage a (Err rejection) h e stands = stands

  module _ (drawn : L → Bool) (seen : Seen) (expected : ℕ) where
    pub stands_along : (r end : Round L) (taken : List (Arrival L)) → Leads drawn seen expected r taken end → All ShowsIts taken
        → Stands r.stage.tree.layers r.stage.on → Stands end.stage.tree.layers end.stage.on
    stands_along r end [] leads all stands = subst (λ (x : Round L). Stands x.stage.tree.layers x.stage.on) (sym leads) stands
    stands_along r end (a ∷ later) leads all stands =
        stands_along (committed r a) end later leads.1 (All-tail ShowsIts a later all)
        (stands_with r.stage a (after r.stage.tree a.txn.ops) refl (All-head ShowsIts a later all) stands)

    -- and at the end of a vsync, when the buffers on layers are read
    pub stands_decided : (r end : Round L) → (decided : Decided drawn seen expected r end) → All ShowsIts decided.taken → Stands r.stage.tree.layers r.stage.on
        → Stands end.stage.tree.layers (map shown_on end.stage.on)
    stands_decided r end decided all stands = stands_read end.stage.tree.layers end.stage.on (stands_along r end decided.taken decided.leads all stands)

  -- so each layer shows its buffer, where no two have one number
  pub stands_on : (layers : List Layer) (on : List (OnLayer L)) → IsDistinct layers → Stands layers on → All (IsOnLayer on) layers
  stands_on layers on distinct stands k d h =
      record { same = ap shown_at (sym (found_itself layers distinct k d h)) ∙ stands.same (get_or layers k d).number }

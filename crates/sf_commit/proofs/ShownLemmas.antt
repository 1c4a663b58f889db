-- What operations make of the buffers on layers, one operation after another.
use Rattle.std.proofs.Common.{◌≡◌, ℕ, ◌+◌, ◌<◌, ◌≤◌, List, [], ◌∷◌, ◌++◌, length, get_or, drop, refl, ap, sym, ◌∙◌, subst, append_assoc}
use Rattle.std.specs.List.{find}
use Rattle.std.specs.Option.{option_to_list}
use Rattle.std.proofs.lemmas.List.{append-nil, drop_all, drop_more}
use Rattle.sf_base.specs.declared.ids.LayerId.{LayerId}
use Rattle.sf_view.specs.sf_layer.declared.op.Op.{Op}
use Rattle.sf_view.specs.sf_layer.declared.op.Op.TheVariants as op
use Rattle.sf_view.specs.sf_layer.declared.shown.Shown.{Shown}
use Rattle.sf_commit_next.specs.sf_txn.Buffers.{Buffer}
use Rattle.sf_commit.specs.OnLayers.{OnLayer, brought, gone_with, is_on, on_after, without}

module _ {L : Type 0} where
  -- with the operations and the buffers that are left, what is on layers and what went come to what all comes to
  pub record ShowsRest (stays goes : List (OnLayer L)) (rest : List (LayerId × Op)) (waiting : List (Buffer L)) (on gone : List (OnLayer L)) : Type 0 where
    pub on_is : on_after on rest waiting ≡ stays
    pub gone_is : gone ++ gone_with on rest waiting ≡ goes

  -- an operation that neither shows a buffer nor destroys a layer
  passed : (layer : LayerId) (o : Op) (rest : List (LayerId × Op)) (waiting : List (Buffer L)) (on : List (OnLayer L)) → ((shown : Shown) → o ≡ op.Show shown → ⊥) → (o ≡ op.Destroy → ⊥)
      → (on_after on ((layer, o) ∷ rest) waiting ≡ on_after on rest waiting) × (gone_with on ((layer, o) ∷ rest) waiting ≡ gone_with on rest waiting)
  passed layer (op.Create kind parent) rest waiting on a b = (refl, refl)
  passed layer op.Destroy rest waiting on a b = absurd (b refl)
  passed layer (op.Reparent parent) rest waiting on a b = (refl, refl)
  passed layer (op.Z z) rest waiting on a b = (refl, refl)
  passed layer (op.Relative other z) rest waiting on a b = (refl, refl)
  passed layer (op.Position x y) rest waiting on a b = (refl, refl)
  passed layer (op.Crop crop) rest waiting on a b = (refl, refl)
  passed layer (op.Alpha alpha) rest waiting on a b = (refl, refl)
  passed layer (op.Hidden hidden) rest waiting on a b = (refl, refl)
  passed layer (op.Opaque opaque) rest waiting on a b = (refl, refl)
  passed layer (op.Colour colour) rest waiting on a b = (refl, refl)
  passed layer (op.Backpressure has) rest waiting on a b = (refl, refl)
  passed layer (op.Show shown) rest waiting on a b = absurd (a shown refl)
  passed layer (op.Orient orient) rest waiting on a b = (refl, refl)

  pub rest_first : (ops : List (LayerId × Op)) (buffers waiting : List (Buffer L)) (on gone : List (OnLayer L)) → waiting ≡ buffers
      → ShowsRest (on_after on ops buffers) (gone ++ gone_with on ops buffers) ops waiting on gone
  rest_first ops buffers waiting on gone same = record { on_is = ap (λ (bs : List (Buffer L)). on_after on ops bs) same; gone_is = ap (λ (bs : List (Buffer L)). gone ++ gone_with on ops bs) same }

  rest_same : (stays goes : List (OnLayer L)) (rest : List (LayerId × Op)) (waiting later : List (Buffer L)) (on on' gone gone' : List (OnLayer L)) → later ≡ waiting → on' ≡ on → gone' ≡ gone
      → ShowsRest stays goes rest waiting on gone → ShowsRest stays goes rest later on' gone'
  rest_same stays goes rest waiting later on on' gone gone' left on_same gone_same so = record {
    on_is = (λ j. on_after (on_same j) rest (left j)) ∙ so.on_is;
    gone_is = (λ j. gone_same j ++ gone_with (on_same j) rest (left j)) ∙ so.gone_is;
  }

  module _ (stays goes : List (OnLayer L)) (ops : List (LayerId × Op)) (i : ℕ) (d : LayerId × Op) where
    -- the operation at a place is the first of those that are left
    at_place : (o : Op) (waiting : List (Buffer L)) (on gone : List (OnLayer L)) → i < length ops → (get_or ops i d).1 ≡ o → ShowsRest stays goes (drop i ops) waiting on gone
        → ShowsRest stays goes (((get_or ops i d).0, o) ∷ drop (i + 1) ops) waiting on gone
    at_place o waiting on gone inside is so =
        let same : get_or ops i d ≡ ((get_or ops i d).0, o) = λ j. ((get_or ops i d).0, is j) in
        subst (λ (x : LayerId × Op). ShowsRest stays goes (x ∷ drop (i + 1) ops) waiting on gone) same
        (subst (λ (rest : List (LayerId × Op)). ShowsRest stays goes rest waiting on gone) (drop_more ops i d inside) so)

    -- it shows a buffer
    pub rest_shown : (shown : Shown) (buffer : Buffer L) (waiting later : List (Buffer L)) (on on' gone gone' : List (OnLayer L)) → i < length ops → (get_or ops i d).1 ≡ op.Show shown
        → waiting ≡ buffer ∷ later → on' ≡ without (get_or ops i d).0 on ++ brought buffer ∷ [] → gone' ≡ gone ++ option_to_list (find (is_on (get_or ops i d).0) on)
        → ShowsRest stays goes (drop i ops) waiting on gone → ShowsRest stays goes (drop (i + 1) ops) later on' gone'
    rest_shown shown buffer waiting later on on' gone gone' inside is taken on_same gone_same so =
        let layer = (get_or ops i d).0 in
        let rest = drop (i + 1) ops in
        let next : ShowsRest stays goes ((layer, op.Show shown) ∷ rest) (buffer ∷ later) on gone =
        at_place (op.Show shown) (buffer ∷ later) on gone inside is (subst (λ (bs : List (Buffer L)). ShowsRest stays goes (drop i ops) bs on gone) taken so) in
        let found = option_to_list (find (is_on layer) on) in
        let shows = without layer on ++ brought buffer ∷ [] in
        rest_same stays goes rest later later shows on' (gone ++ found) gone' refl on_same gone_same
        (record { on_is = next.on_is; gone_is = append_assoc gone found (gone_with shows rest later) ∙ next.gone_is })

    -- it would show one, and none is left
    pub rest_none : (shown : Shown) (waiting later : List (Buffer L)) (on on' gone gone' : List (OnLayer L)) → i < length ops → (get_or ops i d).1 ≡ op.Show shown → waiting ≡ []
        → later ≡ [] → on' ≡ on → gone' ≡ gone → ShowsRest stays goes (drop i ops) waiting on gone → ShowsRest stays goes (drop (i + 1) ops) later on' gone'
    rest_none shown waiting later on on' gone gone' inside is none left on_same gone_same so =
        let rest = drop (i + 1) ops in
        let next : ShowsRest stays goes (((get_or ops i d).0, op.Show shown) ∷ rest) [] on gone =
        at_place (op.Show shown) [] on gone inside is (subst (λ (bs : List (Buffer L)). ShowsRest stays goes (drop i ops) bs on gone) none so) in
        rest_same stays goes rest [] later on on' gone gone' left on_same gone_same (record { on_is = next.on_is; gone_is = next.gone_is })

    -- it destroys its layer
    pub rest_destroyed : (waiting later : List (Buffer L)) (on on' gone gone' : List (OnLayer L)) → i < length ops → (get_or ops i d).1 ≡ op.Destroy → later ≡ waiting
        → on' ≡ without (get_or ops i d).0 on → gone' ≡ gone ++ option_to_list (find (is_on (get_or ops i d).0) on)
        → ShowsRest stays goes (drop i ops) waiting on gone → ShowsRest stays goes (drop (i + 1) ops) later on' gone'
    rest_destroyed waiting later on on' gone gone' inside is left on_same gone_same so =
        let layer = (get_or ops i d).0 in
        let rest = drop (i + 1) ops in
        let next : ShowsRest stays goes ((layer, op.Destroy) ∷ rest) waiting on gone = at_place op.Destroy waiting on gone inside is so in
        let found = option_to_list (find (is_on layer) on) in
        rest_same stays goes rest waiting later (without layer on) on' (gone ++ found) gone' left on_same gone_same
        (record { on_is = next.on_is; gone_is = append_assoc gone found (gone_with (without layer on) rest waiting) ∙ next.gone_is })

    -- it does neither
    pub rest_passed : (waiting later : List (Buffer L)) (on on' gone gone' : List (OnLayer L)) → i < length ops → ((shown : Shown) → (get_or ops i d).1 ≡ op.Show shown → ⊥)
        → ((get_or ops i d).1 ≡ op.Destroy → ⊥) → later ≡ waiting → on' ≡ on → gone' ≡ gone
        → ShowsRest stays goes (drop i ops) waiting on gone → ShowsRest stays goes (drop (i + 1) ops) later on' gone'
    rest_passed waiting later on on' gone gone' inside a b left on_same gone_same so =
        let o = (get_or ops i d).1 in
        let rest = drop (i + 1) ops in
        let next : ShowsRest stays goes (((get_or ops i d).0, o) ∷ rest) waiting on gone = at_place o waiting on gone inside refl so in
        let (stay, go) = passed (get_or ops i d).0 o rest waiting on a b in
        rest_same stays goes rest waiting later on on' gone gone' left on_same gone_same
        (record { on_is = sym stay ∙ next.on_is; gone_is = ap (λ (xs : List (OnLayer L)). gone ++ xs) (sym go) ∙ next.gone_is })

  -- none is left
  pub rest_all : (stays goes : List (OnLayer L)) (ops : List (LayerId × Op)) (i : ℕ) (waiting : List (Buffer L)) (on gone : List (OnLayer L)) → length ops ≤ i
      → ShowsRest stays goes (drop i ops) waiting on gone → (on ≡ stays) × (gone ≡ goes)
  rest_all stays goes ops i waiting on gone past so =
      let end : ShowsRest stays goes [] waiting on gone = subst (λ (rest : List (LayerId × Op)). ShowsRest stays goes rest waiting on gone) (drop_all i ops past) so in
      (end.on_is, sym (append-nil gone) ∙ end.gone_is)

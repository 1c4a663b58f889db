-- Each layer shows the buffer that stands for it, before and after a transaction.
use Rattle.std.proofs.Common.{◌≡◌, ℕ, Bool, true, false, not, cond, List, [], ◌∷◌, ◌++◌, map, Option, Some, None, refl, ap, ◌∙◌, sym, subst, true≢false, arith}
use Rattle.std.specs.List.{filter, find}
use Rattle.std.specs.Option.{option_map}
use Rattle.std.specs.Prelude.{◌==◌, eqb, if◌then◌else◌}
use Rattle.std.proofs.lemmas.Bool.{eqb-true, eq-eqb}
use Rattle.std.proofs.lemmas.Bool.Decides.{nat_tests}
use Rattle.std.proofs.lemmas.Option.{none-some}
use Rattle.sf_base.specs.declared.ids.LayerId.{LayerId}
use Rattle.sf_view.specs.sf_layer.declared.layer.Layer.{Layer}
use Rattle.sf_view.specs.sf_tree.Changes.{with_layer, without_steps_to}
use Rattle.sf_view.specs.sf_tree.Layers.{is_numbered, layer_of}
use Rattle.sf_commit.specs.OnLayers.{OnLayer, is_on, shown_on, without}
use Rattle.sf_commit.specs.Standing.{IsOnce, Stands, shown_at, shown_for}

other_way : (a b : ℕ) → eqb a b ≡ false → eqb b a ≡ false
other_way a b h = grind (arith, nat_tests)

-- numbers that are equal are unequal to the same ones
other_too : (a b c : ℕ) → eqb a b ≡ true → eqb b c ≡ false → eqb a c ≡ false
other_too a b c h k = grind (arith, nat_tests)

-- equal numbers name the same layer
same_id : (a b : LayerId) → eqb a.0 b.0 ≡ true → a ≡ b
same_id a b e = λ i. record { 0 = eqb-true a.0 b.0 e i }

-- the last of a list is found where no other is, and changes nothing for other tests
find_last : {X : Type 0} (p : X → Bool) (xs : List X) (y : X) → find p xs ≡ None → find p (xs ++ y ∷ []) ≡ find p (y ∷ [])
find_last p [] y h = refl
find_last p (x ∷ xs) y h = by_test (find_last p xs y) (p x) refl h
  where
    by_test : (find p xs ≡ None → find p (xs ++ y ∷ []) ≡ find p (y ∷ [])) → (b : Bool) → p x ≡ b
        → find p (x ∷ xs) ≡ None → find p (x ∷ (xs ++ y ∷ [])) ≡ find p (y ∷ [])
    by_test later true e k = absurd (none-some x (sym (rw e at k)))
    by_test later false e k = rw e (later (rw e at k))

find_last_other : {X : Type 0} (p : X → Bool) (xs : List X) (y : X) → p y ≡ false → find p (xs ++ y ∷ []) ≡ find p xs
find_last_other p [] y h = rw h refl
find_last_other p (x ∷ xs) y h = ap (cond (p x) (Some x)) (find_last_other p xs y h)

module _ {L : Type 0} where
  find_gone : (id : LayerId) (xs : List (OnLayer L)) → IsOnce xs → find (is_on id) (without id xs) ≡ None
  find_gone id [] once = refl
  find_gone id (x ∷ xs) once = by_test (find_gone id xs once.1) (is_on id x) refl
    where
      by_test : find (is_on id) (without id xs) ≡ None → (b : Bool) → is_on id x ≡ b → find (is_on id) (without id (x ∷ xs)) ≡ None
      by_test later true e = rw e (ap (λ (i : LayerId). find (is_on i) xs) (sym (same_id x.layer id e)) ∙ once.0)
      by_test later false e = rw (e, e) later

  find_left : (id layer : LayerId) (xs : List (OnLayer L)) → eqb layer.0 id.0 ≡ false → find (is_on id) (without layer xs) ≡ find (is_on id) xs
  find_left id layer [] h = refl
  find_left id layer (x ∷ xs) h = by_test (find_left id layer xs h) (is_on layer x) refl
    where
      by_test : find (is_on id) (without layer xs) ≡ find (is_on id) xs → (b : Bool) → is_on layer x ≡ b
          → find (is_on id) (without layer (x ∷ xs)) ≡ find (is_on id) (x ∷ xs)
      by_test later true e = rw (e, other_too x.layer.0 layer.0 id.0 e h) refl
      by_test later false e = rw e (ap (cond (is_on id x) (Some x)) later)

  once_left : (layer : LayerId) (xs : List (OnLayer L)) → IsOnce xs → IsOnce (without layer xs)
  once_left layer [] once = tt
  once_left layer (x ∷ xs) once = by_test (once_left layer xs once.1) (is_on layer x) refl
    where
      by_test : IsOnce (without layer xs) → (b : Bool) → is_on layer x ≡ b → IsOnce (without layer (x ∷ xs))
      by_test later true e = rw e once.1
      by_test later false e = rw e (find_left x.layer layer xs (other_way x.layer.0 layer.0 e) ∙ once.0, later)

  once_last : (y : OnLayer L) (xs : List (OnLayer L)) → IsOnce xs → find (is_on y.layer) xs ≡ None → IsOnce (xs ++ y ∷ [])
  once_last y [] once none = (refl, tt)
  once_last y (x ∷ xs) once none = by_test (once_last y xs once.1) (is_on y.layer x) refl none
    where
      by_test : (find (is_on y.layer) xs ≡ None → IsOnce (xs ++ y ∷ [])) → (b : Bool) → is_on y.layer x ≡ b
          → find (is_on y.layer) (x ∷ xs) ≡ None → IsOnce (x ∷ (xs ++ y ∷ []))
      by_test later true e k = absurd (none-some x (sym (rw e at k)))
      by_test later false e k = (find_last_other (is_on x.layer) xs y (other_way x.layer.0 y.layer.0 e) ∙ once.0, later (rw e at k))

-- a change that keeps numbers, and what the layers of this number show
shown_changed : (g : Layer → Layer) → ((layer : Layer) → (g layer).number ≡ layer.number) → (id : LayerId)
    → ((layer : Layer) → is_numbered id layer ≡ true → (g layer).shown ≡ layer.shown)
    → (xs : List Layer) → shown_at (layer_of (map g xs) id) ≡ shown_at (layer_of xs id)
shown_changed g number id shows [] = refl
shown_changed g number id shows (x ∷ xs) = by_test (shown_changed g number id shows xs) (is_numbered id x) refl
  where
    by_test : shown_at (layer_of (map g xs) id) ≡ shown_at (layer_of xs id) → (b : Bool) → is_numbered id x ≡ b
        → shown_at (layer_of (map g (x ∷ xs)) id) ≡ shown_at (layer_of (x ∷ xs) id)
    by_test later true e = let there : is_numbered id (g x) ≡ true = ap (λ (n : LayerId). n.0 == id.0) (number x) ∙ e in rw (there, e) (shows x e)
    by_test later false e = let absent : is_numbered id (g x) ≡ false = ap (λ (n : LayerId). n.0 == id.0) (number x) ∙ e in rw (absent, e) later

-- a layer that shows nothing changes nothing at the end
shown_last : (id : LayerId) (xs : List Layer) (y : Layer) → y.shown ≡ None → shown_at (layer_of (xs ++ y ∷ []) id) ≡ shown_at (layer_of xs id)
shown_last id [] y none = by_test (is_numbered id y) refl
  where
    by_test : (b : Bool) → is_numbered id y ≡ b → shown_at (layer_of (y ∷ []) id) ≡ None
    by_test true e = rw e none
    by_test false e = rw e refl
shown_last id (x ∷ xs) y none = by_test (shown_last id xs y none) (is_numbered id x) refl
  where
    by_test : shown_at (layer_of (xs ++ y ∷ []) id) ≡ shown_at (layer_of xs id) → (b : Bool) → is_numbered id x ≡ b
        → shown_at (layer_of (x ∷ (xs ++ y ∷ [])) id) ≡ shown_at (layer_of (x ∷ xs) id)
    by_test later true e = rw e refl
    by_test later false e = rw e later

-- the layers without those of a number
found_left : (id other : LayerId) (xs : List Layer) → eqb id.0 other.0 ≡ false
    → layer_of (filter (λ layer. not (is_numbered id layer)) xs) other ≡ layer_of xs other
found_left id other [] h = refl
found_left id other (x ∷ xs) h = by_test (found_left id other xs h) (is_numbered id x) refl
  where
    by_test : layer_of (filter (λ layer. not (is_numbered id layer)) xs) other ≡ layer_of xs other → (b : Bool) → is_numbered id x ≡ b
        → layer_of (filter (λ layer. not (is_numbered id layer)) (x ∷ xs)) other ≡ layer_of (x ∷ xs) other
    by_test later true e = rw (e, other_too x.number.0 id.0 other.0 e h) later
    by_test later false e = rw e (ap (cond (is_numbered other x) (Some x)) later)

found_gone : (id : LayerId) (xs : List Layer) → layer_of (filter (λ layer. not (is_numbered id layer)) xs) id ≡ None
found_gone id [] = refl
found_gone id (x ∷ xs) = by_test (found_gone id xs) (is_numbered id x) refl
  where
    by_test : layer_of (filter (λ layer. not (is_numbered id layer)) xs) id ≡ None → (b : Bool) → is_numbered id x ≡ b
        → layer_of (filter (λ layer. not (is_numbered id layer)) (x ∷ xs)) id ≡ None
    by_test later true e = rw e later
    by_test later false e = rw (e, e) later

-- the layer that was found, after its edit
shown_edited : (id : LayerId) (edit : Layer → Layer) → ((layer : Layer) → (edit layer).number ≡ layer.number)
    → (xs : List Layer) (there : Layer) → layer_of xs id ≡ Some there → shown_at (layer_of (with_layer id edit xs) id) ≡ (edit there).shown
shown_edited id edit number [] there found = absurd (none-some there found)
shown_edited id edit number (x ∷ xs) there found = by_test (shown_edited id edit number xs there) (is_numbered id x) refl found
  where
    by_test : (layer_of xs id ≡ Some there → shown_at (layer_of (with_layer id edit xs) id) ≡ (edit there).shown) → (b : Bool)
        → is_numbered id x ≡ b → layer_of (x ∷ xs) id ≡ Some there → shown_at (layer_of (with_layer id edit (x ∷ xs)) id) ≡ (edit there).shown
    by_test later true e k =
        let there_too : is_numbered id (edit x) ≡ true = ap (λ (n : LayerId). n.0 == id.0) (number x) ∙ e in
        let one : Some x ≡ Some there = rw e at k in
        let same : x ≡ there = cc in
        rw (e, there_too) (ap (λ (l : Layer). (edit l).shown) same)
    by_test later false e k = rw (e, e) (later (rw e at k))

module _ {L : Type 0} where
  -- a change that keeps numbers and what layers show
  pub stands_changed : (g : Layer → Layer) → ((layer : Layer) → (g layer).number ≡ layer.number) → ((layer : Layer) → (g layer).shown ≡ layer.shown)
      → (layers : List Layer) (on : List (OnLayer L)) → Stands layers on → Stands (map g layers) on
  stands_changed g number shows layers on stands = record {
    same = λ id. shown_changed g number id (λ layer _. shows layer) layers ∙ stands.same id;
    once = stands.once;
  }

  -- the same for the layer of one number
  pub stands_edited : (id : LayerId) (edit : Layer → Layer) → ((layer : Layer) → (edit layer).number ≡ layer.number)
      → ((layer : Layer) → (edit layer).shown ≡ layer.shown) → (layers : List Layer) (on : List (OnLayer L)) → Stands layers on
      → Stands (with_layer id edit layers) on
  stands_edited id edit number shows layers on stands =
      stands_changed change (λ layer. numbers layer (is_numbered id layer)) (λ layer. shown layer (is_numbered id layer)) layers on stands
    where
      change : Layer → Layer
      change layer = if is_numbered id layer then edit layer else layer

      numbers : (layer : Layer) (b : Bool) → (if b then edit layer else layer).number ≡ layer.number
      numbers layer true = number layer
      numbers layer false = refl

      shown : (layer : Layer) (b : Bool) → (if b then edit layer else layer).shown ≡ layer.shown
      shown layer true = shows layer
      shown layer false = refl

  -- a new layer shows nothing
  pub stands_last : (y : Layer) → y.shown ≡ None → (layers : List Layer) (on : List (OnLayer L)) → Stands layers on → Stands (layers ++ y ∷ []) on
  stands_last y none layers on stands = record { same = λ id. shown_last id layers y none ∙ stands.same id; once = stands.once }

  -- a destroyed layer is gone, with its buffer
  pub stands_without : (id : LayerId) (layers : List Layer) (on : List (OnLayer L)) → Stands layers on
      → Stands (map (without_steps_to id) (filter (λ layer. not (is_numbered id layer)) layers)) (without id on)
  stands_without id layers on stands =
      stands_changed (without_steps_to id) (λ layer. refl) (λ layer. refl) rest (without id on) (record {
        same = λ other. by_number other (eqb id.0 other.0) refl;
        once = once_left id on stands.once;
      })
    where
      rest : List Layer
      rest = filter (λ layer. not (is_numbered id layer)) layers

      by_number : (other : LayerId) (b : Bool) → eqb id.0 other.0 ≡ b → shown_at (layer_of rest other) ≡ shown_for (without id on) other
      by_number other true e =
          subst (λ (i : LayerId). shown_at (layer_of rest i) ≡ shown_for (without id on) i) (same_id id other e)
          (ap shown_at (found_gone id layers) ∙ ap (option_map (λ (one : OnLayer L). one.shown)) (sym (find_gone id on stands.once)))
      by_number other false e =
          ap shown_at (found_left id other layers e) ∙ (stands.same other ∙ ap (option_map (λ (one : OnLayer L). one.shown)) (sym (find_left other id on e)))

  -- a buffer is shown on a layer that is there
  pub stands_shown : (id : LayerId) (edit : Layer → Layer) (new : OnLayer L) (there : Layer)
      → ((layer : Layer) → (edit layer).number ≡ layer.number) → ((layer : Layer) → (edit layer).shown ≡ Some new.shown) → new.layer ≡ id
      → (layers : List Layer) (on : List (OnLayer L)) → layer_of layers id ≡ Some there → Stands layers on
      → Stands (with_layer id edit layers) (without id on ++ new ∷ [])
  stands_shown id edit new there number shows is layers on found stands = record {
    same = λ other. by_number other (eqb id.0 other.0) refl;
    once = once_last new (without id on) (once_left id on stands.once) (ap (λ (i : LayerId). find (is_on i) (without id on)) is ∙ find_gone id on stands.once);
  }
    where
      change : Layer → Layer
      change layer = if is_numbered id layer then edit layer else layer

      numbers : (layer : Layer) (b : Bool) → (if b then edit layer else layer).number ≡ layer.number
      numbers layer true = number layer
      numbers layer false = refl

      here : find (is_on id) (new ∷ []) ≡ Some new
      here = rw (eq-eqb new.layer.0 id.0 (ap (λ (i : LayerId). i.0) is)) refl

      elsewhere : (other : LayerId) → eqb id.0 other.0 ≡ false → is_on other new ≡ false
      elsewhere other e = ap (λ (i : LayerId). eqb i.0 other.0) is ∙ e

      left : (other : LayerId) → eqb id.0 other.0 ≡ false → find (is_on other) (without id on ++ new ∷ []) ≡ find (is_on other) on
      left other e = find_last_other (is_on other) (without id on) new (elsewhere other e) ∙ find_left other id on e

      stays : (other : LayerId) → eqb id.0 other.0 ≡ false → (layer : Layer) → is_numbered other layer ≡ true → (b : Bool)
          → is_numbered id layer ≡ b → (if b then edit layer else layer).shown ≡ layer.shown
      stays other e layer h true k =
          let same = sym (eqb-true layer.number.0 id.0 k) ∙ eqb-true layer.number.0 other.0 h in
          absurd (true≢false (sym (eq-eqb id.0 other.0 same) ∙ e))
      stays other e layer h false k = refl

      by_number : (other : LayerId) (b : Bool) → eqb id.0 other.0 ≡ b
          → shown_at (layer_of (with_layer id edit layers) other) ≡ shown_for (without id on ++ new ∷ []) other
      by_number other true e =
          subst (λ (i : LayerId). shown_at (layer_of (with_layer id edit layers) i) ≡ shown_for (without id on ++ new ∷ []) i) (same_id id other e)
          (shown_edited id edit number layers there found ∙ (shows there
          ∙ ap (option_map (λ (one : OnLayer L). one.shown)) (sym (find_last (is_on id) (without id on) new (find_gone id on stands.once) ∙ here))))
      by_number other false e =
          shown_changed change (λ layer. numbers layer (is_numbered id layer)) other (λ layer h. stays other e layer h (is_numbered id layer) refl) layers
          ∙ (stands.same other ∙ ap (option_map (λ (one : OnLayer L). one.shown)) (sym (left other e)))

  -- at the end of a vsync the buffers on layers are read, and show the same
  found_shown : (id : LayerId) (on : List (OnLayer L)) → find (is_on id) (map shown_on on) ≡ option_map shown_on (find (is_on id) on)
  found_shown id [] = refl
  found_shown id (x ∷ xs) = by_test (found_shown id xs) (is_on id x) refl
    where
      by_test : find (is_on id) (map shown_on xs) ≡ option_map shown_on (find (is_on id) xs) → (b : Bool) → is_on id x ≡ b
          → find (is_on id) (map shown_on (x ∷ xs)) ≡ option_map shown_on (find (is_on id) (x ∷ xs))
      by_test later true e = rw e refl
      by_test later false e = rw e later

  once_shown : (on : List (OnLayer L)) → IsOnce on → IsOnce (map shown_on on)
  once_shown [] once = tt
  once_shown (x ∷ xs) once = (found_shown x.layer xs ∙ ap (option_map shown_on) once.0, once_shown xs once.1)

  shows_same : (o : Option (OnLayer L)) → option_map (λ (one : OnLayer L). one.shown) (option_map shown_on o) ≡ option_map (λ (one : OnLayer L). one.shown) o
  shows_same None = refl
  shows_same (Some one) = refl

  pub stands_read : (layers : List Layer) (on : List (OnLayer L)) → Stands layers on → Stands layers (map shown_on on)
  stands_read layers on stands = record {
    same = λ id. stands.same id ∙ (sym (shows_same (find (is_on id) on)) ∙ ap (option_map (λ (one : OnLayer L). one.shown)) (sym (found_shown id on)));
    once = once_shown on stands.once;
  }

  pub stands_nil : Stands {L = L} [] []
  stands_nil = record { same = λ id. refl; once = tt }

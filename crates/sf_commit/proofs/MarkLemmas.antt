-- Lending pixels, and taking them back, changes nothing of what layers show.
use Rattle.std.proofs.Common.{◌≡◌, ℕ, ◌+◌, ◌≤◌, Bool, true, false, List, [], ◌∷◌, ◌++◌, length, map, Option, Some, None, refl, ap, sym, ◌∙◌, subst, true≢false, arith}
use Rattle.std.specs.Prelude.{◌==◌, IfSome, is_some}
use Rattle.std.specs.List.{All, AllZip, find}
use Rattle.std.specs.Option.{option_map}
use Rattle.std.proofs.lemmas.List.{length-map}
use Rattle.std.proofs.lemmas.List.Elements.{All-cons, All-head, All-nil, All-tail}
use Rattle.sf_base.specs.declared.ids.LayerId.{LayerId}
use Rattle.sf_view.specs.sf_layer.declared.layer.Layer.{Layer}
use Rattle.sf_view.specs.sf_layer.declared.shown.Shown.{Shown}
use Rattle.sf_view.specs.sf_picture.declared.picture.Picture.{Picture}
use Rattle.sf_commit_next.specs.sf_txn.declared.lease.Lease.{Ghosts}
use Rattle.sf_commit.proofs.LendLemmas.{here_all, here_lent, length_lent, pictures_lent, pictures_unlent, there_at_hand, there_lent}
use Rattle.sf_commit.specs.Handlers.{FitsHandler, HandlerOf, IsHandler, IsKept, lent_pixels}
use Rattle.sf_commit.specs.Inside.{HasRoom}
use Rattle.sf_commit.specs.Leases.{ShowsLease, pictures, pictures_here}
use Rattle.sf_commit.specs.Lending.{AreThere, KeptRead, read_of}
use Rattle.sf_commit.specs.OnLayers.{OnLayer, at_hand, is_on, lent_from}
use Rattle.sf_commit.specs.Standing.{IsOnce, Stands, shown_for}

module _ {L : Type 0} where
  -- two buffers on layers that differ in no more than where their pixels are
  pub record IsAlike (one other : OnLayer L) : Type 0 where
    pub layer : other.layer ≡ one.layer
    pub shown : other.shown ≡ one.shown

  find_alike : (id : LayerId) (xs ys : List (OnLayer L)) → AllZip IsAlike xs ys → shown_for ys id ≡ shown_for xs id
  find_alike id [] [] zip = refl
  find_alike id [] (y ∷ ys) zip = absurd zip
  find_alike id (x ∷ xs) [] zip = absurd zip
  find_alike id (x ∷ xs) (y ∷ ys) zip = by_test (find_alike id xs ys zip.1) (is_on id x) refl
    where
      by_test : shown_for ys id ≡ shown_for xs id → (b : Bool) → is_on id x ≡ b → shown_for (y ∷ ys) id ≡ shown_for (x ∷ xs) id
      by_test rest true e =
          let here : is_on id y ≡ true = ap (λ (i : LayerId). i.0 == id.0) zip.0.layer ∙ e in
          rw (e, here) (ap (λ (s : Shown). Some s) zip.0.shown)
      by_test rest false e =
          let here : is_on id y ≡ false = ap (λ (i : LayerId). i.0 == id.0) zip.0.layer ∙ e in
          rw (e, here) rest

  none_shown : (o : Option (OnLayer L)) → option_map (λ (one : OnLayer L). one.shown) o ≡ None → o ≡ None
  none_shown None e = refl
  none_shown (Some one) e = cc

  none_alike : (id : LayerId) (xs ys : List (OnLayer L)) → AllZip IsAlike xs ys → find (is_on id) xs ≡ None → find (is_on id) ys ≡ None
  none_alike id xs ys zip none = none_shown (find (is_on id) ys) (find_alike id xs ys zip ∙ ap (option_map (λ (one : OnLayer L). one.shown)) none)

  once_alike : (xs ys : List (OnLayer L)) → AllZip IsAlike xs ys → IsOnce xs → IsOnce ys
  once_alike [] [] zip once = tt
  once_alike [] (y ∷ ys) zip once = absurd zip
  once_alike (x ∷ xs) [] zip once = absurd zip
  once_alike (x ∷ xs) (y ∷ ys) zip once = (
    subst (λ (id : LayerId). find (is_on id) ys ≡ None) (sym zip.0.layer) (none_alike x.layer xs ys zip.1 once.0),
    once_alike xs ys zip.1 once.1,
  )

  stands_alike : (layers : List Layer) (xs ys : List (OnLayer L)) → AllZip IsAlike xs ys → Stands layers xs → Stands layers ys
  stands_alike layers xs ys zip stands = record {
    same = λ id. stands.same id ∙ sym (find_alike id xs ys zip);
    once = once_alike xs ys zip stands.once;
  }

  alike_lent : (place : ℕ) (on : List (OnLayer L)) → AllZip IsAlike on (lent_from place on)
  alike_lent place [] = tt
  alike_lent place (x ∷ xs) = (record { layer = refl; shown = refl }, alike_lent (place + 1) xs)

  alike_at_hand : (on : List (OnLayer L)) → AllZip IsAlike on (map at_hand on)
  alike_at_hand [] = tt
  alike_at_hand (x ∷ xs) = (record { layer = refl; shown = refl }, alike_at_hand xs)

  -- what holds wherever the pixels are
  pub all_lent : (P : OnLayer L → Type 0) → ((x : OnLayer L) (o : Option ℕ) → P x → P (record x { place = o })) → (place : ℕ) (on : List (OnLayer L)) → All P on → All P (lent_from place on)
  all_lent P same place [] all = All-nil P
  all_lent P same place (x ∷ xs) all =
      All-cons P (record x { place = Some place }) (lent_from (place + 1) xs) (same x (Some place) (All-head P x xs all)) (all_lent P same (place + 1) xs (All-tail P x xs all))

  pub all_at_hand : (P : OnLayer L → Type 0) → ((x : OnLayer L) (o : Option ℕ) → P x → P (record x { place = o })) → (on : List (OnLayer L)) → All P on → All P (map at_hand on)
  all_at_hand P same [] all = All-nil P
  all_at_hand P same (x ∷ xs) all = All-cons P (at_hand x) (map at_hand xs) (same x None (All-head P x xs all)) (all_at_hand P same xs (All-tail P x xs all))

module _ {L E R C : Type 0} (lease : Ghosts L E R C) where
  -- the eyes that fit a handler fit it when its pixels are lent, and when they are back
  pub fits_lent : (eye : E) (h : HandlerOf L) → FitsHandler lease eye h → FitsHandler lease eye (record h { on = lent_from 0 h.on; lent = Some (pictures lease h.on) })
  fits_lent eye h fits = record {
    pending = fits.pending;
    on = all_lent (λ (one : OnLayer L). lease.fits (lease.mark eye) one.lease) (λ x o fit. fit) 0 h.on fits.on;
    kept = fits.kept;
  }

  pub fits_back : (eye : E) (h : HandlerOf L) → FitsHandler lease eye h → FitsHandler lease eye (record h { on = map at_hand h.on; lent = None; kept = [] })
  fits_back eye h fits = record {
    pending = fits.pending;
    on = all_at_hand (λ (one : OnLayer L). lease.fits (lease.mark eye) one.lease) (λ x o fit. fit) h.on fits.on;
    kept = All-nil (λ (read : KeptRead L). lease.fits (lease.mark eye) read.lease);
  }

  lent_handler : (h : HandlerOf L) → IsHandler lease h → IsHandler lease (record h { on = lent_from 0 h.on; lent = Some (pictures lease h.on) })
  lent_handler h is = record {
    display = is.display;
    stands = stands_alike h.tree.layers h.on (lent_from 0 h.on) (alike_lent 0 h.on) is.stands;
    read = all_lent (λ (one : OnLayer L). one.is_read ≡ true) (λ x o read. read) 0 h.on is.read;
    crops = all_lent (ShowsLease lease) (λ x o shows. shows) 0 h.on is.crops;
    rising = is.rising;
  }

  back_handler : (h : HandlerOf L) → IsHandler lease h → IsHandler lease (record h { on = map at_hand h.on; lent = None; kept = [] })
  back_handler h is = record {
    display = is.display;
    stands = stands_alike h.tree.layers h.on (map at_hand h.on) (alike_at_hand h.on) is.stands;
    read = all_at_hand (λ (one : OnLayer L). one.is_read ≡ true) (λ x o read. read) h.on is.read;
    crops = all_at_hand (ShowsLease lease) (λ x o shows. shows) h.on is.crops;
    rising = is.rising;
  }

  pub lent_kept : (h : HandlerOf L) (contents : List Picture) (b : Bool) → h.lent ≡ None → IsKept lease h contents b
      → IsKept lease (record h { on = lent_from 0 h.on; lent = Some (pictures lease h.on) }) [] false
  lent_kept h contents b none kept = record {
    same = sym (here_lent lease 0 h.on);
    few = let few = kept.few in subst (λ (n : ℕ). n ≤ 4294967295) (sym (length_lent lease 0 h.on)) few;
    lends = subst (λ (reads : List (KeptRead L)). AreThere lease (map (λ (picture : Picture). Some picture) (pictures lease h.on)) (reads ++ map read_of (lent_from 0 h.on))) (sym (kept.unlent none)) (there_lent lease h.on);
    unlent = λ e. kept.unlent none;
    unchanged = λ e. (sym (pictures_lent lease 0 h.on), kept.unlent none);
    keeps = λ alive. lent_handler h (kept.keeps alive);
  }

  pub back_kept : (h : HandlerOf L) (contents : List Picture) (b : Bool) → IsKept lease h contents b → IsKept lease (record h { on = map at_hand h.on; lent = None; kept = [] }) (pictures lease h.on) false
  back_kept h contents b kept = record {
    same = sym (here_all lease h.on);
    few = let few = kept.few in subst (λ (n : ℕ). n ≤ 4294967295) (sym (length-map h.on at_hand)) few;
    lends = there_at_hand lease h.on;
    unlent = λ e. refl;
    unchanged = tt;
    keeps = λ alive. back_handler h (kept.keeps alive);
  }

  -- where nothing is lent, the pixels at hand are all that are shown
  pub pictures_kept : (h : HandlerOf L) (contents : List Picture) (b : Bool) → h.lent ≡ None → IsKept lease h contents b → contents ≡ pictures lease h.on
  pictures_kept h contents b none kept =
      kept.same ∙ pictures_unlent lease h.kept h.on (subst (λ (lent : Option (List Picture)). AreThere lease (lent_pixels lent) (h.kept ++ map read_of h.on)) none kept.lends)

  -- a handler that shows nothing
  pub new_kept : (h : HandlerOf L) (contents : List Picture) (b : Bool) → h.on ≡ [] → h.kept ≡ [] → h.lent ≡ None → contents ≡ [] → (h.is_spent ≡ false → IsHandler lease h) → IsKept lease h contents b
  new_kept h contents b on kept lent none is = record {
    same = none ∙ ap (pictures_here lease) (sym on);
    few = subst (λ (xs : List (OnLayer L)). length xs ≤ 4294967295) (sym on) (omega arith);
    lends = subst (λ (x : Option (List Picture) × List (KeptRead L) × List (OnLayer L)). AreThere lease (lent_pixels x.0) (x.1 ++ map read_of x.2)) (λ i. (sym lent i, sym kept i, sym on i)) (there_at_hand lease []);
    unlent = λ e. kept;
    unchanged = subst (λ (o : Option (List Picture)). IfSome o (λ given. b ≡ false → (given ≡ pictures lease h.on) × (h.kept ≡ []))) (sym lent) tt;
    keeps = is;
  }

  -- the same said of what lies in memory
  pub lent_made : (h new : HandlerOf L) (contents later : List Picture) (b : Bool) → h.lent ≡ None → IsKept lease h contents b
      → new ≡ record h { on = lent_from 0 h.on; lent = Some (pictures lease h.on) } → later ≡ [] → IsKept lease new later false
  lent_made h new contents later b none kept same empty =
      subst (λ (x : HandlerOf L). IsKept lease x later false) (sym same)
      (subst (λ (ps : List Picture). IsKept lease (record h { on = lent_from 0 h.on; lent = Some (pictures lease h.on) }) ps false) (sym empty) (lent_kept h contents b none kept))

  pub back_made : (h new : HandlerOf L) (contents later : List Picture) (b : Bool) → IsKept lease h contents b
      → new ≡ record h { on = map at_hand h.on; lent = None; kept = [] } → later ≡ pictures lease h.on → IsKept lease new later false
  back_made h new contents later b kept same all =
      subst (λ (x : HandlerOf L). IsKept lease x later false) (sym same)
      (subst (λ (ps : List Picture). IsKept lease (record h { on = map at_hand h.on; lent = None; kept = [] }) ps false) (sym all) (back_kept h contents b kept))

  -- what a handler keeps while these are lent
  pub lends_these : (h : HandlerOf L) (contents lent : List Picture) (b : Bool) → h.lent ≡ Some lent → IsKept lease h contents b
      → AreThere lease (map (λ (picture : Picture). Some picture) lent) (h.kept ++ map read_of h.on)
  lends_these h contents lent b same kept =
      subst (λ (o : Option (List Picture)). AreThere lease (lent_pixels o) (h.kept ++ map read_of h.on)) same kept.lends

  pub unchanged_these : (h : HandlerOf L) (contents lent : List Picture) (b : Bool) → h.lent ≡ Some lent → IsKept lease h contents b
      → b ≡ false → (lent ≡ pictures lease h.on) × (h.kept ≡ [])
  unchanged_these h contents lent b same kept =
      subst (λ (o : Option (List Picture)). IfSome o (λ pictures_lent. b ≡ false → (pictures_lent ≡ pictures lease h.on) × (h.kept ≡ []))) same kept.unchanged

  pub lent_length : (on : List (OnLayer L)) (lent : List Picture) → lent ≡ pictures lease on → length (lent_pixels (Some lent)) ≤ length on
  lent_length on lent same =
      let one = length-map lent (λ (picture : Picture). Some picture) in
      let two = ap (λ (ps : List Picture). length ps) same in
      let three = length-map on (λ (x : OnLayer L). lease.picture x.lease) in
      omega (arith, one, two, three)

pub some_map : {A B : Type 0} (f : A → B) (o : Option A) → is_some (option_map f o) ≡ is_some o
some_map f None = refl
some_map f (Some x) = refl

-- room is room for less, and for what is lent next
pub room_lent : (lent on lent' on' : ℕ) (b : Bool) (slots contents : ℕ × ℕ) → HasRoom lent on b slots contents → lent' ≤ on → on' ≤ on → HasRoom lent' on' false slots contents
room_lent lent on lent' on' b slots contents room less same =
    let next = room.next_slots in
    record {
      no_slots = room.no_slots;
      lent_slots = omega (arith, next, less);
      next_slots = omega (arith, next, same);
      no_contents = room.no_contents;
      all_contents = λ e. absurd (true≢false (sym e));
    }

pub room_these : {L : Type 0} (lent : Option (List Picture)) (given : List Picture) (many : ℕ) (on same : List (OnLayer L)) (b : Bool) (slots contents : ℕ × ℕ) → lent ≡ Some given → many ≡ length given → same ≡ on
    → HasRoom (length (lent_pixels lent)) (length on) b slots contents → HasRoom many (length same) b slots contents
room_these {L} lent given many on same b slots contents is e at room =
    let all = ap (λ (o : Option (List Picture)). length (lent_pixels o)) is ∙ (length-map given (λ (picture : Picture). Some picture) ∙ sym e) in
    subst (λ (xs : List (OnLayer L)). HasRoom many (length xs) b slots contents) (sym at) (subst (λ (n : ℕ). HasRoom n (length on) b slots contents) all room)

pub room_back : (lent on many : ℕ) (b : Bool) (slots contents later : ℕ × ℕ) (after : ℕ × ℕ) → HasRoom lent on b slots contents → many ≤ on → later.0 ≡ 0 → slots.1 ≤ later.1 → after.0 ≡ 0
    → HasRoom 0 many false later after
room_back lent on many b slots contents later after room less no_slots same no_contents =
    let next = room.next_slots in
    record {
      no_slots = no_slots;
      lent_slots = omega arith;
      next_slots = omega (arith, next, less, same);
      no_contents = no_contents;
      all_contents = λ e. absurd (true≢false (sym e));
    }

-- room that a vsync made
pub room_made : (lent on many : ℕ) (b is_lent : Bool) (slots contents slots' contents' : ℕ × ℕ) → HasRoom lent on b slots contents → slots'.0 ≡ slots.0 → contents'.0 ≡ contents.0
    → slots.1 ≤ slots'.1 → slots'.0 + many ≤ slots'.1 → (is_lent ≡ true → contents'.0 + many ≤ contents'.1) → HasRoom lent many is_lent slots' contents'
room_made lent on many b is_lent slots contents slots' contents' room s t more made all =
    let before = room.lent_slots in
    let none = room.no_slots in
    let empty = room.no_contents in
    record {
      no_slots = s ∙ none;
      lent_slots = omega (arith, before, more);
      next_slots = omega (arith, made);
      no_contents = t ∙ empty;
      all_contents = λ e. let enough = all e in omega (arith, enough);
    }

-- room where a vsync failed
pub room_failed : {L : Type 0} (xs : List (OnLayer L)) (lent on : ℕ) (b c : Bool) (slots contents slots' contents' : ℕ × ℕ) → xs ≡ [] → HasRoom lent on b slots contents → slots'.0 ≡ slots.0
    → contents'.0 ≡ contents.0 → slots.1 ≤ slots'.1 → HasRoom lent (length xs) c slots' contents'
room_failed {L} xs lent on b c slots contents slots' contents' none room s t more =
    let before = room.lent_slots in
    let empty = room.no_slots in
    let nothing = room.no_contents in
    subst (λ (ys : List (OnLayer L)). HasRoom lent (length ys) c slots' contents') (sym none) (record {
      no_slots = s ∙ empty;
      lent_slots = omega (arith, before, more);
      next_slots = omega arith;
      no_contents = t ∙ nothing;
      all_contents = λ e. omega arith;
    })

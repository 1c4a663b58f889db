-- The drawings that are owed, where a call takes tokens out of an actor's bindings and puts others into them.
use Rattle.std.proofs.Common.{◌≡◌, ℕ, ◌<◌, ◌⊎◌, List, [], ◌∷◌, ◌++◌, suc, zero, arith, sym, refl, inl, inr, subst, get_or, length, map, set, Option, Some, None}
use Rattle.std.specs.Prelude.{Contains}
use Rattle.std.specs.List.{flat_map}
use Rattle.std.proofs.lemmas.List.Elements.{Contains-append_cases, Contains-append_left, Contains-append_right}
use Rattle.sf_actor_set.specs.sf_surface.declared.call.Gives.{Gives}
use Rattle.sf_actor_set.specs.sf_surface.declared.call.Gives.TheVariants as gives
use Rattle.sf_actor_set.specs.sf_turns.Views.{PermitView}
use Rattle.sf_actor_set.specs.sf_actor.declared.holding.Holding.{Holding}
use Rattle.sf_actor_set.specs.sf_actor.declared.holding.Holding.TheVariants as holding
use Rattle.sf_actor_set.specs.sf_actor.Rights.{issued_turn}
use Rattle.sf_actor_set.specs.sf_actor_steps.declared.asking.Homes.{Homes}
use Rattle.sf_actor_set.specs.sf_actor_steps.declared.bindings.Bindings.{Bindings}
use Rattle.sf_actor_set.specs.sf_actor_steps.Calling.{placed, with_held, with_spare}
use Rattle.law_rights.specs.Ledgers.{Write}
use Rattle.law_rights.specs.Moves.{AreIn, Gets}
use Rattle.law_rights.specs.Makers.{WriteAt, place_owed}
use Rattle.law_rights.proofs.TurnCounts.{first, in_front, later, none_in}
use Rattle.law_rights.proofs.MakersTurns.{write_at}
use Rattle.law_rights.proofs.QueueCounts.{in_all, in_some}

module _ {A : Type 0} where
  pub gets_same : (xs : List A) → Gets xs [] xs
  gets_same xs = record { no_others = λ x there. there; all = λ x there. there }

  pub gets_more : (xs more ys zs : List A) → Gets xs [] ys → Gets ys more zs → Gets xs more zs
  gets_more xs more ys zs a b = record {
    no_others = λ x there. elim (Contains-append_cases more ys x (b.no_others x there)) [
      | inl fresh ↦ Contains-append_left more xs x fresh
      | inr was ↦ Contains-append_right more xs x (a.no_others x was)
    ];
    all = λ x there. elim (Contains-append_cases more xs x there) [
      | inl fresh ↦ b.all x (Contains-append_left more ys x fresh)
      | inr was ↦ b.all x (Contains-append_right more ys x (a.all x was))
    ];
  }

  pub gets_push : (xs : List A) (y : A) → Gets xs (y ∷ []) (xs ++ y ∷ [])
  gets_push xs y = record {
    no_others = λ x there. elim (Contains-append_cases xs (y ∷ []) x there) [
      | inl was ↦ Contains-append_right (y ∷ []) xs x was
      | inr now ↦ Contains-append_left (y ∷ []) xs x now
    ];
    all = λ x there. elim (Contains-append_cases (y ∷ []) xs x there) [
      | inl now ↦ Contains-append_right xs (y ∷ []) x now
      | inr was ↦ Contains-append_left xs (y ∷ []) x was
    ];
  }

  pub gets_end : (xs more : List A) → Gets xs more (xs ++ more)
  gets_end xs more = record {
    no_others = λ x there. elim (Contains-append_cases xs more x there) [
      | inl was ↦ Contains-append_right more xs x was
      | inr now ↦ Contains-append_left more xs x now
    ];
    all = λ x there. elim (Contains-append_cases more xs x there) [
      | inl now ↦ Contains-append_right xs more x now
      | inr was ↦ Contains-append_left xs more x was
    ];
  }

  -- an item in another place of a list
  pub in_set : (xs : List A) (i : ℕ) (y x : A) → Contains (set xs i y) x → (x ≡ y) ⊎ Contains xs x
  in_set [] i y x there = absurd (none_in x there)
  in_set (z ∷ xs) zero y x there = elim (in_front y x xs there) [
    | inl same ↦ inl (sym same)
    | inr rest ↦ inr (later z x xs rest)
  ]
  in_set (z ∷ xs) (suc i) y x there = by_place (in_front z x (set xs i y) there) (in_set xs i y x)
    where
      by_place : (z ≡ x) ⊎ Contains (set xs i y) x → (Contains (set xs i y) x → (x ≡ y) ⊎ Contains xs x) → (x ≡ y) ⊎ Contains (z ∷ xs) x
      by_place (inl same) further = inr (subst (λ (t : A). Contains (z ∷ xs) t) same (first z xs))
      by_place (inr rest) further = elim (further rest) [
        | inl same ↦ inl same
        | inr was ↦ inr (later z x xs was)
      ]

  pub set_has : (xs : List A) (i : ℕ) (y : A) → i < length xs → Contains (set xs i y) y
  set_has [] i y low = absurd (omega (arith, low))
  set_has (z ∷ xs) zero y low = first y xs
  set_has (z ∷ xs) (suc i) y low = later z y (set xs i y) (set_has xs i y (omega (arith, low)))

  pub set_keeps : (xs : List A) (i : ℕ) (y x d : A) → Contains xs x → (x ≡ get_or xs i d) ⊎ Contains (set xs i y) x
  set_keeps [] i y x d there = absurd (none_in x there)
  set_keeps (z ∷ xs) zero y x d there = elim (in_front z x xs there) [
    | inl same ↦ inl (sym same)
    | inr rest ↦ inr (later y x xs rest)
  ]
  set_keeps (z ∷ xs) (suc i) y x d there = by_place (in_front z x xs there) (set_keeps xs i y x d)
    where
      by_place : (z ≡ x) ⊎ Contains xs x → (Contains xs x → (x ≡ get_or xs i d) ⊎ Contains (set xs i y) x) → (x ≡ get_or xs i d) ⊎ Contains (z ∷ set xs i y) x
      by_place (inl same) further = inr (subst (λ (t : A). Contains (z ∷ set xs i y) t) same (first z (set xs i y)))
      by_place (inr rest) further = elim (further rest) [
        | inl same ↦ inl same
        | inr was ↦ inr (later z x (set xs i y) was)
      ]

  pub got_there : (xs : List A) (i : ℕ) (d : A) → i < length xs → Contains xs (get_or xs i d)
  got_there [] i d low = absurd (omega (arith, low))
  got_there (z ∷ xs) zero d low = first z xs
  got_there (z ∷ xs) (suc i) d low = later z (get_or xs i d) xs (got_there xs i d (omega (arith, low)))

-- where one item tells more, all tell that more
pub gets_set : {X A : Type 0} (f : X → List A) (more : List A) (xs : List X) (i : ℕ) (d y : X) → i < length xs → Gets (f (get_or xs i d)) more (f y) → Gets (flat_map f xs) more (flat_map f (set xs i y))
gets_set {X} {A} f more xs i d y low gets = record { no_others = no_others; all = all }
  where
    no_others : (x : A) → Contains (flat_map f (set xs i y)) x → Contains (more ++ flat_map f xs) x
    no_others x there =
        let found = in_some f (set xs i y) x there in
        elim (in_set xs i y found.0 found.1) [
          | inl same ↦ elim (Contains-append_cases more (f (get_or xs i d)) x (gets.no_others x (subst (λ (z : X). Contains (f z) x) same found.2))) [
            | inl fresh ↦ Contains-append_left more (flat_map f xs) x fresh
            | inr was ↦ Contains-append_right more (flat_map f xs) x (in_all f xs (get_or xs i d) x (got_there xs i d low) was)
          ]
          | inr was ↦ Contains-append_right more (flat_map f xs) x (in_all f xs found.0 x was found.2)
        ]

    all : (x : A) → Contains (more ++ flat_map f xs) x → Contains (flat_map f (set xs i y)) x
    all x there = elim (Contains-append_cases more (flat_map f xs) x there) [
      | inl fresh ↦ in_all f (set xs i y) y x (set_has xs i y low) (gets.all x (Contains-append_left more (f (get_or xs i d)) x fresh))
      | inr was ↦
          let found = in_some f xs x was in
          elim (set_keeps xs i y found.0 d found.1) [
            | inl same ↦ in_all f (set xs i y) y x (set_has xs i y low) (gets.all x (Contains-append_right more (f (get_or xs i d)) x (subst (λ (z : X). Contains (f z) x) same found.2)))
            | inr still ↦ in_all f (set xs i y) found.0 x still found.2
          ]
    ]

-- where one item tells less, all tell that less
pub loses_set : {X A : Type 0} (f : X → List A) (less : List A) (xs : List X) (i : ℕ) (d y : X) → i < length xs → AreIn (f y) (f (get_or xs i d)) → AreIn (f (get_or xs i d)) (less ++ f y)
    → AreIn (flat_map f (set xs i y)) (flat_map f xs) × AreIn (flat_map f xs) (less ++ flat_map f (set xs i y))
loses_set {X} {A} f less xs i d y low fewer lost = (now, then)
  where
    now : (x : A) → Contains (flat_map f (set xs i y)) x → Contains (flat_map f xs) x
    now x there =
        let found = in_some f (set xs i y) x there in
        elim (in_set xs i y found.0 found.1) [
          | inl same ↦ in_all f xs (get_or xs i d) x (got_there xs i d low) (fewer x (subst (λ (z : X). Contains (f z) x) same found.2))
          | inr was ↦ in_all f xs found.0 x was found.2
        ]

    then : (x : A) → Contains (flat_map f xs) x → Contains (less ++ flat_map f (set xs i y)) x
    then x there =
        let found = in_some f xs x there in
        elim (set_keeps xs i y found.0 d found.1) [
          | inl same ↦ elim (Contains-append_cases less (f y) x (lost x (subst (λ (z : X). Contains (f z) x) same found.2))) [
            | inl gone ↦ Contains-append_left less (flat_map f (set xs i y)) x gone
            | inr still ↦ Contains-append_right less (flat_map f (set xs i y)) x (in_all f (set xs i y) y x (set_has xs i y low) still)
          ]
          | inr still ↦ Contains-append_right less (flat_map f (set xs i y)) x (in_all f (set xs i y) found.0 x still found.2)
        ]

module _ {B : Type 0} where
  -- the writes that bindings owe, and the one that a reply leaves owed
  abbrev pub bindings_owe : Bindings B → List WriteAt
  bindings_owe bindings = flat_map place_owed bindings.names

  abbrev pub owes_by : Gives B → List Write
  owes_by (gives.Owes owing) = record { turn = issued_turn owing.turn; frame = (owing.queue, owing.frame) } ∷ []
  owes_by given = []

  abbrev pub owes_at : Homes → Gives B → List WriteAt
  owes_at homes (gives.Owes owing) = record { write = record { turn = issued_turn owing.turn; frame = (owing.queue, owing.frame) }; number = homes.held.number } ∷ []
  owes_at homes given = []

  pub owes_writes : (homes : Homes) (given : Gives B) → map write_at (owes_at homes given) ≡ owes_by given
  owes_writes homes (gives.Owes owing) = refl
  owes_writes homes given = refl

  -- a name of the bindings owes nothing
  pub record IsFreeAt (bindings : Bindings B) (name : ℕ) : Type 0 where
    pub free : place_owed (get_or bindings.names name None) ≡ []
    pub low : name < length bindings.names

  pub record AreFree (bindings : Bindings B) (homes : Homes) : Type 0 where
    pub lent : IsFreeAt bindings homes.lent
    pub frame : IsFreeAt bindings homes.frame
    pub free : IsFreeAt bindings homes.free

  put_at : (bindings : Bindings B) (name : ℕ) (held : Option (Holding B)) → IsFreeAt bindings name → Gets (bindings_owe bindings) (place_owed held) (bindings_owe (with_held bindings name held))
  put_at bindings name held at = gets_set place_owed (place_owed held) bindings.names name None held at.low
      (subst (λ (xs : List WriteAt). Gets xs (place_owed held) (place_owed held)) (sym at.free) (record { no_others = λ x there. Contains-append_left (place_owed held) [] x there; all = λ x there. only x (Contains-append_cases (place_owed held) [] x there) }))
    where
      only : (x : WriteAt) → Contains (place_owed held) x ⊎ Contains [] x → Contains (place_owed held) x
      only x (inl there) = there
      only x (inr none) = absurd (none_in x none)

  placed_owes : (homes : Homes) (bindings : Bindings B) (given : Gives B) → AreFree bindings homes → Gets (bindings_owe bindings) (owes_at homes given) (bindings_owe (placed homes bindings given))
  placed_owes homes bindings gives.Nothing free = gets_same (bindings_owe bindings)
  placed_owes homes bindings (gives.Write lease) free = put_at bindings homes.lent (Some (holding.Lends lease)) free.lent
  placed_owes homes bindings (gives.Owes owing) free = put_at bindings homes.lent (Some (holding.Owes owing homes.held)) free.lent
  placed_owes homes bindings (gives.Read lease) free = put_at bindings homes.frame (Some (holding.Reads lease)) free.frame
  placed_owes homes bindings (gives.Free loose) free = put_at bindings homes.free (Some (holding.Frees homes.last loose)) free.free

  spare_owes : (bindings : Bindings B) (spare : Option PermitView) → bindings_owe (with_spare bindings spare) ≡ bindings_owe bindings
  spare_owes bindings None = refl
  spare_owes bindings (Some permit) = refl

  pub given_owes : (homes : Homes) (bindings : Bindings B) (given : Gives B) (spare : Option PermitView) → AreFree bindings homes → Gets (bindings_owe bindings) (owes_at homes given) (bindings_owe (with_spare (placed homes bindings given) spare))
  given_owes homes bindings given spare free = subst (λ (xs : List WriteAt). Gets (bindings_owe bindings) (owes_at homes given) xs) (sym (spare_owes (placed homes bindings given) spare)) (placed_owes homes bindings given free)

  pub nothing_owes : (homes : Homes) (bindings : Bindings B) (given : Gives B) (spare : Option PermitView) → given ≡ gives.Nothing → Gets (bindings_owe bindings) (owes_at homes given) (bindings_owe (with_spare (placed homes bindings given) spare))
  nothing_owes homes bindings given spare none =
      subst (λ (g : Gives B). Gets (bindings_owe bindings) (owes_at homes g) (bindings_owe (with_spare (placed homes bindings g) spare))) (sym none)
      (subst (λ (xs : List WriteAt). Gets (bindings_owe bindings) [] xs) (sym (spare_owes bindings spare)) (gets_same (bindings_owe bindings)))

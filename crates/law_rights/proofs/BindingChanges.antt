-- What a call takes out of an actor's bindings and puts into them.
use Rattle.std.proofs.Common.{◌≡◌, ℕ, ◌+◌, ◌≤◌, List, [], ◌∷◌, suc, zero, arith, ap, ◌∙◌, refl, get_or, set, Option, Some, None}
use Rattle.std.specs.List.{flat_map, sum_by}
use Rattle.std.proofs.lemmas.List.Sums.{sum_by-cons}
use Rattle.sf_actor_set.specs.sf_picture.declared.picture.Picture.{Picture}
use Rattle.sf_actor_set.specs.sf_script_scene.declared.step.Step.{Step}
use Rattle.sf_actor_set.specs.sf_script_scene.declared.step.Step.TheVariants as step
use Rattle.sf_base.specs.declared.ids.QueueId.{QueueId}
use Rattle.sf_actor_set.specs.sf_surface.declared.call.Gives.{Gives}
use Rattle.sf_actor_set.specs.sf_surface.declared.call.Gives.TheVariants as gives
use Rattle.sf_actor_set.specs.sf_surface.declared.call.QCall.{QCall}
use Rattle.sf_actor_set.specs.sf_surface.declared.call.QCall.TheVariants as call
use Rattle.sf_actor_set.specs.sf_turns.Views.{PermitView}
use Rattle.sf_actor_set.specs.sf_actor.declared.holding.Holding.{Holding}
use Rattle.sf_actor_set.specs.sf_actor.declared.holding.Holding.TheVariants as holding
use Rattle.sf_actor_set.specs.sf_actor.Makers.{BufferOf}
use Rattle.sf_actor_set.specs.sf_actor.Rights.{turn_by}
use Rattle.sf_actor_set.specs.sf_actor_steps.declared.asking.Asking.{Asking}
use Rattle.sf_actor_set.specs.sf_actor_steps.declared.asking.Homes.{Homes}
use Rattle.sf_actor_set.specs.sf_actor_steps.declared.bindings.Bindings.{Bindings}
use Rattle.sf_actor_set.specs.sf_actor_steps.Calling.{placed, with_held, with_spare}
use Rattle.sf_actor_set.specs.sf_actor_steps.Forming.{FormsCall, Takes}
use Rattle.law_rights.specs.MakerCalls.{brought_at, given_at, loose_from}
use Rattle.law_rights.specs.Makers.{RightAt, place_of}
use Rattle.law_rights.proofs.ListSums.{sum-flat_map}

module _ {A : Type 0} (f : A → ℕ) where
  -- another item in a place
  pub set_most : (xs : List A) (i : ℕ) (y : A) → sum_by f (set xs i y) ≤ sum_by f xs + f y
  set_most [] i y = omega arith
  set_most (x ∷ xs) zero y =
      let a = sum_by-cons f x xs in
      let b = sum_by-cons f y xs in
      omega (arith, a, b)
  set_most (x ∷ xs) (suc i) y =
      let rest = set_most xs i y in
      let a = sum_by-cons f x xs in
      let b = sum_by-cons f x (set xs i y) in
      omega (arith, rest, a, b)

module _ {A : Type 0} (f : Option A → ℕ) where
  -- an item is taken out of its place
  pub set_none : (xs : List (Option A)) (i : ℕ) (y : A) → get_or xs i None ≡ Some y → sum_by f (set xs i None) + f (Some y) ≡ sum_by f xs + f None
  set_none [] i y there = absurd (cc (there))
  set_none (x ∷ xs) zero y there =
      let a = sum_by-cons f x xs in
      let b = sum_by-cons f None xs in
      let c = ap f there in
      omega (arith, a, b, c)
  set_none (x ∷ xs) (suc i) y there =
      let rest = set_none xs i y there in
      let a = sum_by-cons f x xs in
      let b = sum_by-cons f x (set xs i None) in
      omega (arith, rest, a, b)

module _ {B : Type 0} where
  -- where a loose buffer was last that a call brings, by the name that held it
  abbrev pub loose_in : QueueId → QCall B → BufferOf
  loose_in last (call.Attach loose) = record { queue = last.0; number = loose.held.number }
  loose_in last (call.AttachRead loose) = record { queue = last.0; number = loose.held.number }
  loose_in last asked = record { queue = last.0; number = 0 }

  abbrev pub from_of : Asking B → BufferOf
  from_of asking = loose_in asking.homes.last asking.call

  abbrev pub brings : Asking B → List RightAt
  brings asking = brought_at (from_of asking) asking.call

  -- a loose buffer that a reply gives is where its name tells
  abbrev pub FitsLoose : Homes → BufferOf → QCall B → Gives B → Type 0
  FitsLoose homes from asked (gives.Free loose) = record { queue = homes.last.0; number = loose.held.number } ≡ loose_from from asked
  FitsLoose homes from asked given = Unit {0}

module _ {B : Type 0} (w : RightAt → ℕ) where
  abbrev held_weight : Option (Holding B) → ℕ
  held_weight held = sum_by w (place_of held)

  -- what is counted of the rights that names hold
  abbrev pub names_weight : Bindings B → ℕ
  names_weight bindings = sum_by w (flat_map place_of bindings.names)

  pub weight_is : (bindings : Bindings B) → names_weight bindings ≡ sum_by held_weight bindings.names
  weight_is bindings = sum-flat_map w place_of bindings.names

  -- what a call brings was taken out of the bindings
  pub record FormsSum (before taken : Bindings B) (asking : Asking B) : Type 0 where
    pub names : names_weight taken + sum_by w (brings asking) ≡ names_weight before
    pub transactions : taken.transactions ≡ before.transactions

  brings_nothing : (before taken : Bindings B) (asking exact : Asking B) → taken.names ≡ before.names → taken.transactions ≡ before.transactions → asking ≡ exact → sum_by w (brings exact) ≡ 0 → FormsSum before taken asking
  brings_nothing before taken asking exact names transactions same none = record {
    names =
        let a = ap (λ (x : Asking B). sum_by w (brings x)) same in
        let b = ap (λ (xs : List (Option (Holding B))). sum_by w (flat_map place_of xs)) names in
        omega (arith, a, b, none);
    transactions = transactions;
  }

  brings_held : (before taken : Bindings B) (asking exact : Asking B) (name : ℕ) (held : Holding B) → Takes before taken name held → asking ≡ exact → sum_by w (brings exact) ≡ held_weight (Some held) → FormsSum before taken asking
  brings_held before taken asking exact name held takes same equal = record {
    names =
        let a = ap (λ (x : Asking B). sum_by w (brings x)) same in
        let b = ap (λ (bindings : Bindings B). names_weight bindings) takes.rest in
        let c = weight_is (with_held before name None) in
        let d = weight_is before in
        let e = set_none held_weight before.names name held takes.held_there in
        omega (arith, a, b, c, d, e, equal);
    transactions = ap (λ (bindings : Bindings B). bindings.transactions) takes.rest;
  }

  pub forms_sum : (pictures : ℕ → Picture) (s : Step) (before taken : Bindings B) (asking : Asking B) → FormsCall pictures s before taken asking → FormsSum before taken asking
  forms_sum pictures (step.Connect q) before taken asking forms = brings_nothing before taken asking _ (ap (λ (bindings : Bindings B). bindings.names) forms.0) (ap (λ (bindings : Bindings B). bindings.transactions) forms.0) forms.1 refl
  forms_sum pictures (step.Disconnect q) before taken asking forms = brings_nothing before taken asking _ (ap (λ (bindings : Bindings B). bindings.names) forms.0) (ap (λ (bindings : Bindings B). bindings.transactions) forms.0) forms.1 refl
  forms_sum pictures (step.MaxDequeued q n) before taken asking forms = brings_nothing before taken asking _ (ap (λ (bindings : Bindings B). bindings.names) forms.0) (ap (λ (bindings : Bindings B). bindings.transactions) forms.0) forms.1 refl
  forms_sum pictures (step.Async q on) before taken asking forms = brings_nothing before taken asking _ (ap (λ (bindings : Bindings B). bindings.names) forms.0) (ap (λ (bindings : Bindings B). bindings.transactions) forms.0) forms.1 refl
  forms_sum pictures (step.MaxAcquired q n) before taken asking forms = brings_nothing before taken asking _ (ap (λ (bindings : Bindings B). bindings.names) forms.0) (ap (λ (bindings : Bindings B). bindings.transactions) forms.0) forms.1 refl
  forms_sum pictures (step.Abandon q) before taken asking forms = brings_nothing before taken asking _ (ap (λ (bindings : Bindings B). bindings.names) forms.0) (ap (λ (bindings : Bindings B). bindings.transactions) forms.0) forms.1 refl
  forms_sum pictures (step.Acquire q i at) before taken asking forms = brings_nothing before taken asking _ (ap (λ (bindings : Bindings B). bindings.names) forms.0) (ap (λ (bindings : Bindings B). bindings.transactions) forms.0) forms.1 refl
  forms_sum pictures (step.Dequeue q s size) before taken asking forms =
      brings_nothing before taken asking _ (ap (λ (bindings : Bindings B). bindings.names) forms.1.same) (ap (λ (bindings : Bindings B). bindings.transactions) forms.1.same) forms.2 refl
  forms_sum pictures (step.DequeueWait q s size) before taken asking forms =
      brings_nothing before taken asking _ (ap (λ (bindings : Bindings B). bindings.names) forms.1.same) (ap (λ (bindings : Bindings B). bindings.transactions) forms.1.same) forms.2 refl
  forms_sum pictures (step.Request s) before taken asking forms = brings_held before taken asking _ s (holding.Lends forms.0) forms.1 forms.2 refl
  forms_sum pictures (step.Queue s p time crop points) before taken asking forms = brings_held before taken asking _ s (holding.Lends forms.0) forms.1 forms.2 refl
  forms_sum pictures (step.Cancel s points) before taken asking forms = brings_held before taken asking _ s (holding.Lends forms.0) forms.1 forms.2 refl
  forms_sum pictures (step.PDetach s b) before taken asking forms = brings_held before taken asking _ s (holding.Lends forms.0) forms.1 forms.2 refl
  forms_sum pictures (step.Release i points) before taken asking forms = brings_held before taken asking _ i (holding.Reads forms.0) forms.1 forms.2 refl
  forms_sum pictures (step.CDetach i b) before taken asking forms = brings_held before taken asking _ i (holding.Reads forms.0) forms.1 forms.2 refl
  forms_sum pictures (step.PAttach q b s) before taken asking forms = brings_held before taken asking _ b (holding.Frees forms.0 forms.1) forms.2 forms.3 refl
  forms_sum pictures (step.CAttach q b i) before taken asking forms = brings_held before taken asking _ b (holding.Frees forms.0 forms.1) forms.2 forms.3 refl
  forms_sum pictures other before taken asking forms = absurd forms

  -- what a reply gives goes into the bindings
  held_most : (bindings : Bindings B) (name : ℕ) (held : Holding B) → names_weight (with_held bindings name (Some held)) ≤ names_weight bindings + held_weight (Some held)
  held_most bindings name held =
      let a = weight_is (with_held bindings name (Some held)) in
      let b = weight_is bindings in
      let c = set_most held_weight bindings.names name (Some held) in
      omega (arith, a, b, c)

  placed_most : (homes : Homes) (bindings : Bindings B) (from : BufferOf) (asked : QCall B) (given : Gives B) → FitsLoose homes from asked given
      → names_weight (placed homes bindings given) ≤ names_weight bindings + sum_by w (given_at from asked given)
  placed_most homes bindings from asked gives.Nothing fits = omega arith
  placed_most homes bindings from asked (gives.Write lease) fits = held_most bindings homes.lent (holding.Lends lease)
  placed_most homes bindings from asked (gives.Owes owing) fits = held_most bindings homes.lent (holding.Owes owing homes.held)
  placed_most homes bindings from asked (gives.Read lease) fits = held_most bindings homes.frame (holding.Reads lease)
  placed_most homes bindings from asked (gives.Free loose) fits =
      let most = held_most bindings homes.free (holding.Frees homes.last loose) in
      let same = ap (λ (at : BufferOf). sum_by w (record { turn = turn_by loose.turn; at = at } ∷ [])) fits in
      omega (arith, most, same)

  spare_same : (bindings : Bindings B) (spare : Option PermitView) → (with_spare bindings spare).names ≡ bindings.names
  spare_same bindings None = refl
  spare_same bindings (Some permit) = refl

  pub given_most : (homes : Homes) (bindings : Bindings B) (from : BufferOf) (asked : QCall B) (given : Gives B) (spare : Option PermitView) → FitsLoose homes from asked given
      → names_weight (with_spare (placed homes bindings given) spare) ≤ names_weight bindings + sum_by w (given_at from asked given)
  given_most homes bindings from asked given spare fits =
      let a = placed_most homes bindings from asked given fits in
      let b = ap (λ (xs : List (Option (Holding B))). sum_by w (flat_map place_of xs)) (spare_same (placed homes bindings given) spare) in
      omega (arith, a, b)

module _ {B : Type 0} where
  placed_transactions : (homes : Homes) (bindings : Bindings B) (given : Gives B) → (placed homes bindings given).transactions ≡ bindings.transactions
  placed_transactions homes bindings gives.Nothing = refl
  placed_transactions homes bindings (gives.Write lease) = refl
  placed_transactions homes bindings (gives.Owes owing) = refl
  placed_transactions homes bindings (gives.Read lease) = refl
  placed_transactions homes bindings (gives.Free loose) = refl

  spare_transactions : (bindings : Bindings B) (spare : Option PermitView) → (with_spare bindings spare).transactions ≡ bindings.transactions
  spare_transactions bindings None = refl
  spare_transactions bindings (Some permit) = refl

  pub given_transactions : (homes : Homes) (bindings : Bindings B) (given : Gives B) (spare : Option PermitView) → (with_spare (placed homes bindings given) spare).transactions ≡ bindings.transactions
  given_transactions homes bindings given spare = spare_transactions (placed homes bindings given) spare ∙ placed_transactions homes bindings given

-- What names and numbers hold, without rights.
use Rattle.std.proofs.Common.{◌≡◌, ℕ, zero, suc, List, [], ◌∷◌, get_or, map, Option, None, refl}
use Rattle.std.specs.Option.{option_map}
use Rattle.sf_actor.specs.Known.{plain_txn}
use Rattle.sf_actor.specs.Holdings.{token_of}
use Rattle.sf_actor.specs.Names.{name_in, transaction_in}
use Rattle.sf_actor_steps.specs.declared.bindings.Bindings.{Bindings}
use Rattle.sf_actor_steps.specs.Bindings.{holdings_of}

-- what a number holds, seen through a view
pub get_or-seen : {A C : Type 0} (f : A → C) (xs : List (Option A)) (i : ℕ) → get_or (map (option_map f) xs) i None ≡ option_map f (get_or xs i None)
get_or-seen f [] i = refl
get_or-seen f (x ∷ xs) zero = refl
get_or-seen f (x ∷ xs) (suc i) = get_or-seen f xs i

pub name_in-held : {B : Type 0} (bindings : Bindings B) (name : ℕ) → name_in (holdings_of bindings) name ≡ option_map token_of (get_or bindings.names name None)
name_in-held bindings name = get_or-seen token_of bindings.names name

pub transaction_in-held : {B : Type 0} (bindings : Bindings B) (number : ℕ) → transaction_in (holdings_of bindings) number ≡ option_map plain_txn (get_or bindings.transactions number None)
transaction_in-held bindings number = get_or-seen plain_txn bindings.transactions number

pub ruleset held = (name_in-held, transaction_in-held)

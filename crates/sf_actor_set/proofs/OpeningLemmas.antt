-- Actors that have done nothing keep what they keep, each with its share of a stock.
use Rattle.std.proofs.Common.{◌≡◌, ℕ, zero, suc, ◌+◌, ◌<◌, ◌≤◌, Bool, true, false, List, [], ◌∷◌, ◌++◌, length, take, drop, filter, map, cond, refl, ap, ◌∙◌, sym, subst, arith, append_assoc, get_or}
use Rattle.std.specs.Prelude.{◌==◌}
use Rattle.std.specs.List.{AllZip}
use Rattle.std.proofs.lemmas.List.{append-nil, drop_more, length-take-le, map-append, take-append-drop, take_more}
use Rattle.std.proofs.lemmas.List.Sums.{count_by-le-length, length-filter, sum_by-cons}
use Rattle.atomic_table.specs.Seated.{TableId}
use Rattle.sf_commit.specs.sf_picture.declared.picture.Picture.{Picture}
use Rattle.sf_actor_steps.specs.sf_script_scene.declared.declarations.QueueDecl.{QueueDecl}
use Rattle.sf_actor_steps.specs.sf_script_scene.declared.step.ActorScript.{ActorScript}
use Rattle.sf_actor_steps.specs.sf_script_scene.declared.step.Step.{Step}
use Rattle.sf_actor_steps.specs.sf_surface.Histories.{Made}
use Rattle.sf_actor_steps.specs.sf_surface.Tokens.{ReadLeaseOf}
use Rattle.sf_commit.specs.sf_token.Pending.{Arrival}
use Rattle.sf_actor_steps.specs.sf_turns.Counts.{stock_at}
use Rattle.sf_actor_steps.proofs.sf_turns_lemmas.Tallies.{stock_at-append}
use Rattle.sf_actor_steps.specs.sf_actor.Desks.{DeskHome, DeskView, mark_among}
use Rattle.sf_actor_steps.specs.sf_actor.Known.{arrivals_told, is_sent_by, own_calls}
use Rattle.sf_actor_steps.specs.sf_actor.Plain.{calls_among}
use Rattle.sf_actor_steps.specs.sf_actor.Tries.{dequeues_in, is_dequeue}
use Rattle.sf_actor_steps.specs.Actors.{IsActor, IsNew, new_actor}
use Rattle.sf_actor_steps.specs.declared.actor.Actor.{Actor}
use Rattle.sf_actor_steps.proofs.NewLemmas.{new_keeps}
use Rattle.sf_actor_set.specs.ActorSets.{KeepAs, scripts_of}
use Rattle.sf_actor_set.specs.Opening.{new_actors, new_queue}
use Rattle.sf_actor_set.specs.Scripts.{permits_of}

drop_all : (scripts : List ActorScript) → drop (length scripts) scripts ≡ []
drop_all [] = refl
drop_all (s ∷ ss) = drop_all ss

pub dequeues_few : (steps : List Step) → dequeues_in steps ≤ length steps
dequeues_few steps = let counted = length-filter is_dequeue steps in let most = count_by-le-length is_dequeue steps in omega arith

abbrev needs : ActorScript → ℕ
needs script = dequeues_in script.steps

pub permits_cons : (script : ActorScript) (scripts : List ActorScript) → permits_of (script ∷ scripts) ≡ needs script + permits_of scripts
permits_cons script scripts = sum_by-cons needs script scripts

none_told : (tells : Bool) → arrivals_told {L = ReadLeaseOf} tells [] ≡ []
none_told true = refl
none_told false = refl

-- a part of a stock has each number at most as often
halves : (b n : ℕ) (stock : List ℕ) → stock_at b (take n stock) + stock_at b (drop n stock) ≡ stock_at b stock
halves b n stock = sym (stock_at-append b (take n stock) (drop n stock)) ∙ ap (stock_at b) (take-append-drop n stock)

abbrev IsOnce : List ℕ → Type 0
IsOnce stock = (b : ℕ) → stock_at b stock ≤ 1

first_once : (n : ℕ) (stock : List ℕ) → IsOnce stock → IsOnce (take n stock)
first_once n stock once = λ b. let whole = halves b n stock in let one = once b in omega arith

rest_once : (n : ℕ) (stock : List ℕ) → IsOnce stock → IsOnce (drop n stock)
rest_once n stock once = λ b. let whole = halves b n stock in let one = once b in omega arith

pub rest_length : (n : ℕ) (stock : List ℕ) → n ≤ length stock → n + length (drop n stock) ≡ length stock
rest_length zero stock l = omega arith
rest_length (suc n) [] l = absurd (omega arith)
rest_length (suc n) (b ∷ stock) l = let h = rest_length n stock (omega arith) in omega arith

pub next_left : (scripts : List ActorScript) (done : ℕ) (script : ActorScript) → (done < length scripts) × (script ≡ get_or scripts done script) → drop done scripts ≡ script ∷ drop (done + 1) scripts
next_left scripts done script h = drop_more scripts done script h.0 ∙ ap (λ (s : ActorScript). s ∷ drop (done + 1) scripts) (sym h.1)

pub map_more : {A C : Type 0} (f : A → C) (xs : List A) (made : List C) (i : ℕ) (d : A) (b : C) → i < length xs → made ≡ map f (take i xs) → b ≡ f (get_or xs i d) → made ++ b ∷ [] ≡ map f (take (i + 1) xs)
map_more {A} {C} f xs made i d b below same is =
    ap (λ (m : List C). m ++ b ∷ []) same ∙ ap (λ (x : C). map f (take i xs) ++ x ∷ []) is ∙ sym (map-append f (take i xs) (get_or xs i d ∷ [])) ∙ sym (ap (map f) (take_more xs i d below))

module _ {B : Type 0} where
  -- a desk that knows no call and no arrival
  pub record KnowsNone (view : DeskView B) : Type 0 where
    pub calls : (queue : ℕ) → view.calls queue ≡ []
    pub arrivals : view.arrivals ≡ []

  new_known : (home : DeskHome) (view : DeskView B) (script : ActorScript) (stock : List ℕ) → KnowsNone view → IsOnce stock → dequeues_in script.steps ≤ length stock → IsNew home view script stock
  new_known home view script stock none once enough = record {
    no_calls = λ queue. ap (λ (calls : List (Made B)). own_calls script.number (mark_among home.marks queue) calls) (none.calls queue);
    no_arrivals = ap (λ (arrivals : List (Arrival ReadLeaseOf)). arrivals_told home.tells (filter (is_sent_by script.number) arrivals)) none.arrivals ∙ none_told home.tells;
    once = once;
    enough = enough;
  }

  pub news_keep : (table : TableId) (pictures : ℕ → Picture) (home : DeskHome) (view : DeskView B) (actors : List (Actor B)) (scripts : List ActorScript) (stock : List ℕ) → KnowsNone view
      → ((b : ℕ) → stock_at b stock ≤ 1) → permits_of scripts ≤ length stock → AllZip (IsActor table) actors (new_actors scripts stock) → KeepAs table pictures home view actors (new_actors scripts stock)
  news_keep table pictures home view [] [] stock none once enough new = tt
  news_keep table pictures home view [] (script ∷ scripts) stock none once enough new = absurd new
  news_keep table pictures home view (actor ∷ actors) [] stock none once enough new = absurd new
  news_keep table pictures home view (actor ∷ actors) (script ∷ scripts) stock none once enough new =
      let n = dequeues_in script.steps in
      let all = permits_cons script scripts in
      let fits : n ≤ length stock = omega (arith, all, enough) in
      let share = length-take-le n stock fits in
      let rest = rest_length n stock fits in (
        record { is = new.0; keeps = new_keeps pictures home view script (take n stock) (new_known home view script (take n stock) none (first_once n stock once) (omega (arith, share))) },
        news_keep table pictures home view actors scripts (drop n stock) none (rest_once n stock once) (omega (arith, all, enough, rest)) new.1,
      )

  -- the actors have the scripts
  pub news_scripts : (table : TableId) (actors : List (Actor B)) (scripts : List ActorScript) (stock : List ℕ) → AllZip (IsActor table) actors (new_actors scripts stock) → scripts_of actors ≡ scripts
  news_scripts table [] [] stock new = refl
  news_scripts table [] (script ∷ scripts) stock new = absurd new
  news_scripts table (actor ∷ actors) [] stock new = absurd new
  news_scripts table (actor ∷ actors) (script ∷ scripts) stock new =
      ap (λ (s : ActorScript). s ∷ scripts_of actors) (sym new.0.script) ∙ ap (λ (ss : List ActorScript). script ∷ ss) (news_scripts table actors scripts (drop (dequeues_in script.steps) stock) new.1)

  -- queues without calls
  pub none_called : (queues : List QueueDecl) (queue : ℕ) → calls_among (map (new_queue {B = B}) queues) queue ≡ []
  none_called [] queue = refl
  none_called (first ∷ queues) queue = no_more (first.number == queue) (none_called queues queue)
    where
      no_more : (b : Bool) → calls_among (map (new_queue {B = B}) queues) queue ≡ [] → cond b [] (calls_among (map (new_queue {B = B}) queues) queue) ≡ []
      no_more true rest = refl
      no_more false rest = rest

  -- the actors so far, with those to come, are the new ones
  abbrev pub Fills : TableId → List ActorScript → List ℕ → List (Actor B) → List ActorScript → List ℕ → Type 0
  Fills table scripts stock actors left rest = (more : List (Actor B)) → AllZip (IsActor table) more (new_actors left rest) → AllZip (IsActor table) (actors ++ more) (new_actors scripts stock)

  pub fills_more : (table : TableId) (scripts : List ActorScript) (stock : List ℕ) (actors : List (Actor B)) (actor : Actor B) (script : ActorScript) (left : List ActorScript) (rest : List ℕ)
      → IsActor table actor (new_actor script (take (dequeues_in script.steps) rest)) → Fills table scripts stock actors (script ∷ left) rest
      → Fills table scripts stock (actors ++ actor ∷ []) left (drop (dequeues_in script.steps) rest)
  fills_more table scripts stock actors actor script left rest is fills =
      λ more new. subst (λ (all : List (Actor B)). AllZip (IsActor table) all (new_actors scripts stock)) (sym (append_assoc actors (actor ∷ []) more)) (fills (actor ∷ more) (is, new))

  -- so many actors are opened, out of what the stock had
  pub record IsOpening (table : TableId) (scripts : List ActorScript) (stock : List ℕ) (done : ℕ) (actors : List (Actor B)) (rest : List ℕ) : Type 0 where
    pub enough : permits_of (drop done scripts) ≤ length rest
    pub fills : Fills table scripts stock actors (drop done scripts) rest

  pub next_enough : (table : TableId) (scripts : List ActorScript) (stock : List ℕ) (done : ℕ) (actors : List (Actor B)) (rest : List ℕ) (script : ActorScript) → (done < length scripts) × (script ≡ get_or scripts done script)
      → IsOpening table scripts stock done actors rest → dequeues_in script.steps ≤ length rest
  next_enough table scripts stock done actors rest script h is =
      let left = ap permits_of (next_left scripts done script h) in
      let all = permits_cons script (drop (done + 1) scripts) in
      let enough = is.enough in
      omega (arith, left, all, enough)

  pub opening_more : (table : TableId) (scripts : List ActorScript) (stock : List ℕ) (done : ℕ) (actors news : List (Actor B)) (rest after : List ℕ) (actor : Actor B) (script : ActorScript) → (done < length scripts) × (script ≡ get_or scripts done script)
      → IsActor table actor (new_actor script (take (dequeues_in script.steps) rest)) → news ≡ actors ++ actor ∷ [] → after ≡ drop (dequeues_in script.steps) rest
      → IsOpening table scripts stock done actors rest → IsOpening table scripts stock (done + 1) news after
  opening_more table scripts stock done actors news rest after actor script h is pushed cut so_far =
      let left = ap permits_of (next_left scripts done script h) in
      let all = permits_cons script (drop (done + 1) scripts) in
      let enough = so_far.enough in
      let fits = next_enough table scripts stock done actors rest script h so_far in
      let shorter = rest_length (dequeues_in script.steps) rest fits in
      let same = ap length cut in
      let fills : Fills table scripts stock actors (script ∷ drop (done + 1) scripts) rest = subst (λ (ss : List ActorScript). Fills table scripts stock actors ss rest) (next_left scripts done script h) so_far.fills in
      let more : Fills table scripts stock (actors ++ actor ∷ []) (drop (done + 1) scripts) after =
      subst (λ (r : List ℕ). Fills table scripts stock (actors ++ actor ∷ []) (drop (done + 1) scripts) r) (sym cut) (fills_more table scripts stock actors actor script (drop (done + 1) scripts) rest is fills) in
      record {
        enough = omega (arith, left, all, enough, shorter, same);
        fills = subst (λ (as' : List (Actor B)). Fills table scripts stock as' (drop (done + 1) scripts) after) (sym pushed) more;
      }

  pub opening_last : (table : TableId) (scripts : List ActorScript) (stock : List ℕ) (done : ℕ) (actors : List (Actor B)) (rest : List ℕ) → done ≡ length scripts → IsOpening table scripts stock done actors rest → AllZip (IsActor table) actors (new_actors scripts stock)
  opening_last table scripts stock done actors rest whole is =
      let none : drop done scripts ≡ [] = ap (λ n. drop n scripts) whole ∙ drop_all scripts in
      let fills : Fills table scripts stock actors [] rest = subst (λ (ss : List ActorScript). Fills table scripts stock actors ss rest) none is.fills in
      subst (λ (as' : List (Actor B)). AllZip (IsActor table) as' (new_actors scripts stock)) (append-nil actors) (fills [] tt)

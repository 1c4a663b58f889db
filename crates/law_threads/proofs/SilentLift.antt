-- What an actor does without a call, lifted to the state of all callers.
use Rattle.std.proofs.Common.{◌≡◌, ℕ, ◌+◌, ◌≤◌, List, [], ◌∷◌, ◌++◌, arith, ap, ◌∙◌, sym, refl, subst, map}
use Rattle.std.specs.Prelude.{Contains}
use Rattle.std.specs.List.{flat_map, sum_by}
use Rattle.std.proofs.lemmas.List.{append-nil}
use Rattle.std.proofs.lemmas.List.Concat.{flat_map-append}
use Rattle.std.proofs.lemmas.List.Sums.{sum_by-append}
use Rattle.sf_script_scene.specs.declared.step.Step.{Step}
use Rattle.law_draws.specs.sf_surface.Tokens.{ReadLeaseOf}
use Rattle.law_draws.specs.sf_token.Arrivals.{waiting}
use Rattle.law_draws.specs.sf_token.Pending.{Arrival}
use Rattle.law_draws.specs.sf_actor.Rights.{Turn}
use Rattle.law_draws.specs.sf_actor.Tries.{ActorOf}
use Rattle.law_draws.specs.sf_actor.Written as written
use Rattle.law_draws.specs.sf_actor_steps.declared.bindings.Bindings.{Bindings}
use Rattle.law_draws.specs.law_rights.Ledgers.{Write}
use Rattle.law_draws.specs.law_rights.Makers.{RightAt, WriteAt, places_arrived, places_held, places_of, places_out, places_owed, right_read}
use Rattle.law_draws.specs.law_rights.Moves.{AreIn, Gets, HasAtMost}
use Rattle.law_draws.specs.law_rights.States.{State}
use Rattle.law_draws.proofs.law_rights_lemmas.MakersTurns.{write_at}
use Rattle.law_draws.proofs.law_rights_lemmas.PlaceChanges.{owed_gets, owed_in, owed_writes, rest_turns, rests_went, sum_read}
use Rattle.law_draws.proofs.law_rights_lemmas.SilentSteps.{pay_keeps, quiet_keeps}
use Rattle.law_draws.proofs.law_rights_lemmas.ListSums.{sum-flat_map}
use Rattle.law_draws.proofs.law_played_lemmas.Members.{has_map}
use Rattle.law_threads.specs.Cuts.{Local, Whole, front, state_at}
use Rattle.law_threads.specs.Lifts.{local_of}
use Rattle.law_threads.proofs.LedgerViews.{GoesTo}
use Rattle.law_threads.proofs.Locals.{gets_at, here_at, in_at, in_more_at, same_at, sum_at}

flat_flat : {X Y Z : Type 0} (f : Y → List Z) (g : X → List Y) (xs : List X) → flat_map f (flat_map g xs) ≡ flat_map (λ (x : X). flat_map f (g x)) xs
flat_flat f g [] = refl
flat_flat {X} {Y} {Z} f g (x ∷ xs) =
    flat_map-append f (g x) (flat_map g xs) ∙ ap (λ (zs : List Z). flat_map f (g x) ++ zs) (flat_flat f g xs)

module _ {B : Type 0} where
  -- what is counted of the rights of all actors, where one is another
  pub actors_sum : (w : RightAt → ℕ) (others later : List (Local B)) (of : ActorOf B) (on : List ReadLeaseOf) (leaves : List Turn)
      → sum_by w (flat_map (λ (a : ActorOf B). places_held a.parts) (flat_map (λ (local : Local B). local.actors) (others ++ local_of of on leaves ∷ later)))
      ≡ sum_by w (flat_map (λ (a : ActorOf B). places_held a.parts) (flat_map (λ (local : Local B). local.actors) others))
      + (sum_by w (places_held of.parts) + sum_by w (flat_map (λ (a : ActorOf B). places_held a.parts) (flat_map (λ (local : Local B). local.actors) later)))
  actors_sum w others later of on leaves =
      let v = λ (a : ActorOf B). sum_by w (places_held a.parts) in
      let a = sum-flat_map w (λ (x : ActorOf B). places_held x.parts) (flat_map (λ (local : Local B). local.actors) (others ++ local_of of on leaves ∷ later)) in
      let b = sum_at (λ (local : Local B). local.actors) others later v (local_of of on leaves) in
      let c = sum-flat_map w (λ (x : ActorOf B). places_held x.parts) (flat_map (λ (local : Local B). local.actors) others) in
      let d = sum-flat_map w (λ (x : ActorOf B). places_held x.parts) (flat_map (λ (local : Local B). local.actors) later) in
      let e = sum-flat_map w (λ (x : ActorOf B). places_held x.parts) (of ∷ []) in
      let f = sum_by-append w (places_held of.parts) [] in
      omega (arith, a, b, c, d, e, f)

  pub on_sum : (w : RightAt → ℕ) (others later : List (Local B)) (of : ActorOf B) (on : List ReadLeaseOf) (leaves : List Turn)
      → sum_by w (map right_read (flat_map (λ (local : Local B). local.on) (others ++ local_of of on leaves ∷ later)))
      ≡ sum_by w (map right_read (flat_map (λ (local : Local B). local.on) others)) + (sum_by w (map right_read on) + sum_by w (map right_read (flat_map (λ (local : Local B). local.on) later)))
  on_sum w others later of on leaves =
      let v = λ (lease : ReadLeaseOf). w (right_read lease) in
      let a = sum_read right_read w (flat_map (λ (local : Local B). local.on) (others ++ local_of of on leaves ∷ later)) in
      let b = sum_at (λ (local : Local B). local.on) others later v (local_of of on leaves) in
      let c = sum_read right_read w (flat_map (λ (local : Local B). local.on) others) in
      let d = sum_read right_read w on in
      let e = sum_read right_read w (flat_map (λ (local : Local B). local.on) later) in
      omega (arith, a, b, c, d, e)

  alone : {A : Type 0} (f : ActorOf B → List A) (of : ActorOf B) → flat_map f (of ∷ []) ≡ f of
  alone f of = append-nil (f of)

  module _ {A : Type 0} (f : ActorOf B → List A) (others later : List (Local B)) (was is : ActorOf B) (on then : List ReadLeaseOf) (leaves left : List Turn) where
    -- what is read off all actors
    pub read_gets : (more : List A) → Gets (f was) more (f is)
        → Gets (flat_map f (flat_map (λ (local : Local B). local.actors) (others ++ local_of was on leaves ∷ later))) more (flat_map f (flat_map (λ (local : Local B). local.actors) (others ++ local_of is then left ∷ later)))
    read_gets more gets =
        subst (λ (xs : List A). Gets xs more (flat_map f (flat_map (λ (local : Local B). local.actors) (others ++ local_of is then left ∷ later)))) (sym (flat_flat f (λ (local : Local B). local.actors) (others ++ local_of was on leaves ∷ later)))
        (subst (λ (xs : List A). Gets (flat_map (λ (local : Local B). flat_map f local.actors) (others ++ local_of was on leaves ∷ later)) more xs) (sym (flat_flat f (λ (local : Local B). local.actors) (others ++ local_of is then left ∷ later)))
        (gets_at (λ (local : Local B). flat_map f local.actors) others later (local_of was on leaves) (local_of is then left) more
        (subst (λ (xs : List A). Gets xs more (flat_map f (is ∷ []))) (sym (alone f was)) (subst (λ (xs : List A). Gets (f was) more xs) (sym (alone f is)) gets))))

    read_in : AreIn (f is) (f was)
        → AreIn (flat_map f (flat_map (λ (local : Local B). local.actors) (others ++ local_of is then left ∷ later))) (flat_map f (flat_map (λ (local : Local B). local.actors) (others ++ local_of was on leaves ∷ later)))
    read_in are =
        subst (λ (xs : List A). AreIn (flat_map f (flat_map (λ (local : Local B). local.actors) (others ++ local_of is then left ∷ later))) xs) (sym (flat_flat f (λ (local : Local B). local.actors) (others ++ local_of was on leaves ∷ later)))
        (subst (λ (xs : List A). AreIn xs (flat_map (λ (local : Local B). flat_map f local.actors) (others ++ local_of was on leaves ∷ later))) (sym (flat_flat f (λ (local : Local B). local.actors) (others ++ local_of is then left ∷ later)))
        (in_at (λ (local : Local B). flat_map f local.actors) others later (local_of was on leaves) (local_of is then left)
        (subst (λ (xs : List A). AreIn (flat_map f (is ∷ [])) xs) (sym (alone f was)) (subst (λ (xs : List A). AreIn xs (f was)) (sym (alone f is)) are))))

    read_more : (more : List A) → AreIn (f was) (more ++ f is)
        → AreIn (flat_map f (flat_map (λ (local : Local B). local.actors) (others ++ local_of was on leaves ∷ later))) (more ++ flat_map f (flat_map (λ (local : Local B). local.actors) (others ++ local_of is then left ∷ later)))
    read_more more are =
        subst (λ (xs : List A). AreIn xs (more ++ flat_map f (flat_map (λ (local : Local B). local.actors) (others ++ local_of is then left ∷ later)))) (sym (flat_flat f (λ (local : Local B). local.actors) (others ++ local_of was on leaves ∷ later)))
        (subst (λ (xs : List A). AreIn (flat_map (λ (local : Local B). flat_map f local.actors) (others ++ local_of was on leaves ∷ later)) (more ++ xs)) (sym (flat_flat f (λ (local : Local B). local.actors) (others ++ local_of is then left ∷ later)))
        (in_more_at (λ (local : Local B). flat_map f local.actors) others later (local_of is then left) (local_of was on leaves) more
        (subst (λ (xs : List A). AreIn (flat_map f (was ∷ [])) (more ++ xs)) (sym (alone f is)) (subst (λ (xs : List A). AreIn xs (more ++ f is)) (sym (alone f was)) are))))

    read_there : (x : A) → Contains (f was) x → Contains (flat_map f (flat_map (λ (local : Local B). local.actors) (others ++ local_of was on leaves ∷ later))) x
    read_there x there = subst (λ (xs : List A). Contains xs x) (sym (flat_flat f (λ (local : Local B). local.actors) (others ++ local_of was on leaves ∷ later)))
        (here_at (λ (local : Local B). flat_map f local.actors) others later (local_of was on leaves) x (subst (λ (xs : List A). Contains xs x) (sym (alone f was)) there))

  module _ (whole : Whole B) (s : Step) (bindings : Bindings B) (number : ℕ) (was is : ActorOf B) (on more : List ReadLeaseOf) (leaves left : List Turn)
      (less : (w : RightAt → ℕ) → sum_by w (places_held is.parts) + sum_by w (map right_read more) ≤ sum_by w (places_held was.parts))
      (others later : List (Local B)) (heights : ℕ → ℕ) where
    abbrev old : State B
    old = state_at whole heights (others ++ local_of was on leaves ∷ later)

    abbrev new : State B
    new = state_at whole heights (others ++ local_of is (more ++ on) left ∷ later)

    same_waiting : new.waiting ≡ old.waiting
    same_waiting = ap (λ (xs : List (Arrival ReadLeaseOf)). xs ++ waiting (front (heights 0) whole.arriving))
        (same_at (λ (local : Local B). local.pending) others later (local_of was on leaves) (local_of is (more ++ on) left) refl)

    held : HasAtMost (places_out old) [] [] (places_out new)
    held w =
        let fewer = less w in
        let a = actors_sum w others later was on leaves in
        let b = actors_sum w others later is (more ++ on) left in
        let c = on_sum w others later was on leaves in
        let d = on_sum w others later is (more ++ on) left in
        let e = ap (λ (xs : List (Arrival ReadLeaseOf)). sum_by w (flat_map places_arrived xs)) same_waiting in
        let f = sum_by-append w (flat_map (λ (x : ActorOf B). places_held x.parts) old.actors ++ flat_map places_arrived old.waiting) (map right_read old.on) in
        let g = sum_by-append w (flat_map (λ (x : ActorOf B). places_held x.parts) old.actors) (flat_map places_arrived old.waiting) in
        let h = sum_by-append w (flat_map (λ (x : ActorOf B). places_held x.parts) new.actors ++ flat_map places_arrived new.waiting) (map right_read new.on) in
        let i = sum_by-append w (flat_map (λ (x : ActorOf B). places_held x.parts) new.actors) (flat_map places_arrived new.waiting) in
        let j = sum_read right_read w (more ++ on) in
        let k = sum_by-append (λ (lease : ReadLeaseOf). w (right_read lease)) more on in
        let l = sum_read right_read w more in
        let m = sum_read right_read w on in
        omega (arith, fewer, a, b, c, d, e, f, g, h, i, j, k, l, m)

    -- rights go to other bindings, or are let go
    pub quiet_goes : Gets (places_owed was.parts) [] (places_owed is.parts) → Gets (written.written_in was.trace) [] (written.written_in is.trace) → Gets leaves [] left → GoesTo s bindings number old new
    quiet_goes owed writes ended = record {
      from = old;
      to = new;
      close_from = record { marks = refl; calls = refl; actors = refl; waiting = refl; on = λ count. refl; left = λ turn there. there; all_left = λ turn there. there };
      close_to = record { marks = refl; calls = refl; actors = refl; waiting = refl; on = λ count. refl; left = λ turn there. there; all_left = λ turn there. there };
      went = λ ledger. rests_went s bindings number old new refl refl held all_owed.no_others (quiet_keeps old new (record {
        marks = refl;
        calls = refl;
        held = rest_turns old new held;
        owed = owed_gets old new [] all_owed;
        left = gets_at (λ (local : Local B). local.leaves) others later (local_of was on leaves) (local_of is (more ++ on) left) [] ended;
        written = read_gets (λ (a : ActorOf B). written.written_in a.trace) others later was is on (more ++ on) leaves left [] writes;
      }) ledger);
    }
      where
        all_owed : Gets (places_of old).owed [] (places_of new).owed
        all_owed = read_gets (λ (a : ActorOf B). places_owed a.parts) others later was is on (more ++ on) leaves left [] owed

    -- what was owed is drawn
    pub pay_goes : (write : WriteAt) → Contains (places_owed was.parts) write → AreIn (places_owed is.parts) (places_owed was.parts) → AreIn (places_owed was.parts) ((write ∷ []) ++ places_owed is.parts)
        → Gets (written.written_in was.trace) (write.write.frame ∷ []) (written.written_in is.trace) → Gets leaves (write.write.turn ∷ []) left → GoesTo s bindings number old new
    pay_goes write was_owed fewer unpaid writes ended = record {
      from = old;
      to = new;
      close_from = record { marks = refl; calls = refl; actors = refl; waiting = refl; on = λ count. refl; left = λ turn there. there; all_left = λ turn there. there };
      close_to = record { marks = refl; calls = refl; actors = refl; waiting = refl; on = λ count. refl; left = λ turn there. there; all_left = λ turn there. there };
      went = λ ledger. rests_went s bindings number old new refl refl held all_fewer (pay_keeps old new write.write (record {
        marks = refl;
        calls = refl;
        held = rest_turns old new held;
        was_owed = subst (λ (xs : List Write). Contains xs write.write) (owed_writes old)
            (has_map write_at (places_of old).owed write (read_there (λ (a : ActorOf B). places_owed a.parts) others later was is on (more ++ on) leaves left write was_owed));
        owed = owed_in old new [] all_fewer;
        unpaid = owed_in new old (write ∷ []) (read_more (λ (a : ActorOf B). places_owed a.parts) others later was is on (more ++ on) leaves left (write ∷ []) unpaid);
        left = gets_at (λ (local : Local B). local.leaves) others later (local_of was on leaves) (local_of is (more ++ on) left) (write.write.turn ∷ []) ended;
        written = read_gets (λ (a : ActorOf B). written.written_in a.trace) others later was is on (more ++ on) leaves left (write.write.frame ∷ []) writes;
      }) ledger);
    }
      where
        all_fewer : AreIn (places_of new).owed (places_of old).owed
        all_fewer = read_in (λ (a : ActorOf B). places_owed a.parts) others later was is on (more ++ on) leaves left fewer

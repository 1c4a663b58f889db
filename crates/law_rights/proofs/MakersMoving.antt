-- Where a buffer came to a queue, each right of it is there.
use Rattle.std.proofs.Common.{◌≡◌, ℕ, ◌+◌, ◌≤◌, ◌⊎◌, Bool, true, false, List, [], ◌∷◌, map, arith, ap, ◌∙◌, sym, refl, inl, inr, subst, None}
use Rattle.std.specs.Prelude.{Contains, if◌then◌else◌}
use Rattle.std.specs.List.{flat_map, sum_by}
use Rattle.std.proofs.lemmas.Bool.{cases_Bool, false≢true}
use Rattle.std.proofs.lemmas.List.Elements.{Contains-append_cases}
use Rattle.std.proofs.lemmas.List.Sums.{sum_by-append, sum_by-cons}
use Rattle.sf_actor_set.specs.sf_calls.Histories.{entry}
use Rattle.sf_actor_set.specs.sf_surface.declared.call.Gives.{Gives}
use Rattle.sf_actor_set.specs.sf_surface.declared.call.Gives.TheVariants as gives
use Rattle.sf_actor_set.specs.sf_surface.declared.call.QCall.{QCall}
use Rattle.sf_actor_set.specs.sf_surface.declared.call.QCall.TheVariants as call
use Rattle.sf_actor_set.specs.sf_surface.declared.call.QReply.{QReply}
use Rattle.sf_actor_set.specs.sf_surface.declared.mark.QueueMark.{QueueMark}
use Rattle.sf_actor_set.specs.sf_surface.Histories.{left_by}
use Rattle.sf_actor_set.specs.sf_surface.Tokens.{LooseOf}
use Rattle.sf_actor_set.specs.sf_actor.Desks.{mark_among}
use Rattle.sf_actor_set.specs.sf_actor.Makers.{BufferOf}
use Rattle.sf_actor_set.specs.sf_actor.Rights.{Turn}
use Rattle.law_rights.specs.Ledgers.{IsLedger}
use Rattle.law_rights.specs.MakerCalls.{brought_at, given_at}
use Rattle.law_rights.specs.Makers.{RightAt, places_lying, places_of, places_out}
use Rattle.law_rights.specs.MakerSteps.{PlaceStep}
use Rattle.law_rights.specs.States.{State, ledger_of}
use Rattle.law_rights.proofs.TurnCounts.{at_least, count_at, first, is_at}
use Rattle.law_rights.proofs.MakersStepping.{counted_at, is_right, is_same, same_right, told_before, told_or_new}
use Rattle.law_rights.proofs.MakersTurns.{turn_at, turns_of}

abbrev of_buffer : ℕ → RightAt → ℕ
of_buffer buffer right = is_at buffer right.turn

sum_turns : (w : Turn → ℕ) (xs : List RightAt) → sum_by w (map turn_at xs) ≡ sum_by (λ (right : RightAt). w right.turn) xs
sum_turns w [] = refl
sum_turns w (x ∷ xs) =
    let a = sum_by-cons w x.turn (map turn_at xs) in
    let b = sum_by-cons (λ (right : RightAt). w right.turn) x xs in
    let rest = sum_turns w xs in
    omega (arith, a, b, rest)

-- no right is counted more often than its buffer
right_at_buffer : (right : RightAt) (xs : List RightAt) → sum_by (is_right right) xs ≤ sum_by (of_buffer right.turn.0) xs
right_at_buffer right [] = omega arith
right_at_buffer right (x ∷ xs) =
    let here = one (cases_Bool (is_same right x)) in
    let a = sum_by-cons (is_right right) x xs in
    let b = sum_by-cons (of_buffer right.turn.0) x xs in
    let rest = right_at_buffer right xs in
    omega (arith, here, a, b, rest)
  where
    one : (is_same right x ≡ true) ⊎ (is_same right x ≡ false) → is_right right x ≤ of_buffer right.turn.0 x
    one (inl met) =
        let counts : is_right right x ≡ 1 = ap (λ (b : Bool). if b then 1 else 0) met in
        let itself = at_least right.turn.0 x.turn (ap (λ (r : RightAt). r.turn.0) (sym (same_right right x met))) in
        omega (arith, counts, itself)
    one (inr unmet) = let none : is_right right x ≡ 0 = ap (λ (b : Bool). if b then 1 else 0) unmet in omega (arith, none)

-- and two rights of a buffer are not
two_at_buffer : (right other : RightAt) → is_same right other ≡ false → right.turn.0 ≡ other.turn.0 → (xs : List RightAt) → sum_by (is_right right) xs + sum_by (is_right other) xs ≤ sum_by (of_buffer right.turn.0) xs
two_at_buffer right other apart buffer [] = omega arith
two_at_buffer right other apart buffer (x ∷ xs) =
    let here = one (cases_Bool (is_same right x)) (cases_Bool (is_same other x)) in
    let a = sum_by-cons (is_right right) x xs in
    let b = sum_by-cons (of_buffer right.turn.0) x xs in
    let c = sum_by-cons (is_right other) x xs in
    let rest = two_at_buffer right other apart buffer xs in
    omega (arith, here, a, b, c, rest)
  where
    none : (r : RightAt) → is_same r x ≡ false → is_right r x ≡ 0
    none r unmet = ap (λ (b : Bool). if b then 1 else 0) unmet

    once : (r : RightAt) → is_same r x ≡ true → is_right r x ≡ 1
    once r met = ap (λ (b : Bool). if b then 1 else 0) met

    one : (is_same right x ≡ true) ⊎ (is_same right x ≡ false) → (is_same other x ≡ true) ⊎ (is_same other x ≡ false) → is_right right x + is_right other x ≤ of_buffer right.turn.0 x
    one (inl met) (inl also) = absurd (false≢true (sym apart ∙ ap (is_same right) (same_right other x also) ∙ met))
    one (inl met) (inr unmet) =
        let a = once right met in
        let b = none other unmet in
        let itself = at_least right.turn.0 x.turn (ap (λ (r : RightAt). r.turn.0) (sym (same_right right x met))) in
        omega (arith, a, b, itself)
    one (inr unmet) (inl also) =
        let a = none right unmet in
        let b = once other also in
        let itself = at_least right.turn.0 x.turn (ap (λ (r : RightAt). r.turn.0) (sym (same_right other x also)) ∙ sym buffer) in
        omega (arith, a, b, itself)
    one (inr unmet) (inr nor) = let a = none right unmet in let b = none other nor in omega (arith, a, b)

module _ {B : Type 0} where
  pub attach_leaves : (loose : LooseOf) (given : Gives B) → left_by (call.Attach loose) given ≡ None
  attach_leaves loose (gives.Write lease) = refl
  attach_leaves loose (gives.Read lease) = refl
  attach_leaves loose given = refl

  pub attach_read_leaves : (loose : LooseOf) (given : Gives B) → left_by (call.AttachRead loose) given ≡ None
  attach_read_leaves loose (gives.Write lease) = refl
  attach_read_leaves loose (gives.Read lease) = refl
  attach_read_leaves loose given = refl

module _ {B : Type 0} (old new : State B) (by queue step : ℕ) (asked : QCall B) (reply : QReply B) (from : BufferOf) (made : PlaceStep old new by queue step asked reply from) (is : IsLedger (ledger_of old)) where
  abbrev mark : QueueMark
  mark = mark_among old.marks queue

  abbrev lies_old : List RightAt
  lies_old = flat_map (λ (m : QueueMark). places_lying m (old.view.calls m.queue.0)) old.marks

  -- of each buffer one right lies somewhere at most
  few : (buffer : ℕ) → sum_by (of_buffer buffer) lies_old + sum_by (of_buffer buffer) (places_out old) ≤ 1
  few buffer =
      let one = is.one buffer in
      let a = count_at buffer (ledger_of old).live in
      let b = ap (λ (turns : List Turn). sum_by (is_at buffer) turns) (turns_of old) in
      let c = sum_turns (is_at buffer) (places_of old).live in
      let d = sum_by-append (of_buffer buffer) lies_old (places_out old) in
      omega (arith, one, a, b, c, d)

  module _ (right was now : RightAt) (brings : brought_at from asked ≡ was ∷ []) (gives_it : given_at from asked reply.gives ≡ now ∷ []) (buffer : right.turn.0 ≡ was.turn.0) where
    was_out : Contains (places_out old) was
    was_out = made.brought was (subst (λ (xs : List RightAt). Contains xs was) (sym brings) (first was []))

    -- it lay in no queue
    not_lying : Contains lies_old right → ⊥
    not_lying lies =
        let a = counted_at right lies_old lies in
        let b = right_at_buffer right lies_old in
        let c = counted_at was (places_out old) was_out in
        let d = right_at_buffer was (places_out old) in
        let e = few right.turn.0 in
        let f = ap (λ (n : ℕ). sum_by (of_buffer n) (places_out old)) buffer in
        omega (arith, a, b, c, d, e, f)

    out_is : Contains (places_out new) right → right ≡ now
    out_is there = by_same (cases_Bool (is_same right now)) (cases_Bool (is_same right was))
      where
        more : 1 + sum_by (is_right right) (was ∷ []) ≤ sum_by (is_right right) (places_out old) + sum_by (is_right right) (now ∷ [])
        more =
            let a = counted_at right (places_out new) there in
            let b = made.held (is_right right) in
            let c = sum_by-append (is_right right) (places_out old) (given_at from asked reply.gives) in
            let d = ap (λ (xs : List RightAt). sum_by (is_right right) xs) gives_it in
            let e = ap (λ (xs : List RightAt). sum_by (is_right right) xs) brings in
            omega (arith, a, b, c, d, e)

        least : sum_by (of_buffer right.turn.0) (places_out old) ≤ 1
        least = let e = few right.turn.0 in omega (arith, e)

        by_same : (is_same right now ≡ true) ⊎ (is_same right now ≡ false) → (is_same right was ≡ true) ⊎ (is_same right was ≡ false) → right ≡ now
        by_same (inl met) other = same_right right now met
        by_same (inr unmet) (inl also) =
            let none : is_right right now ≡ 0 = ap (λ (b : Bool). if b then 1 else 0) unmet in
            let one : is_right right was ≡ 1 = ap (λ (b : Bool). if b then 1 else 0) also in
            let a = sum_by-cons (is_right right) now [] in
            let b = sum_by-cons (is_right right) was [] in
            let c = right_at_buffer right (places_out old) in
            absurd (omega (arith, none, one, a, b, c, more, least))
        by_same (inr unmet) (inr differ) =
            let none : is_right right now ≡ 0 = ap (λ (b : Bool). if b then 1 else 0) unmet in
            let a = sum_by-cons (is_right right) now [] in
            let b = counted_at was (places_out old) was_out in
            let c = two_at_buffer right was differ buffer (places_out old) in
            absurd (omega (arith, none, a, b, c, more, least))

    -- where nothing comes to lie in the queue, it is the right that is given
    pub moved_to : (Contains (places_lying mark (entry by (step, asked) reply ∷ old.view.calls queue)) right → Contains (places_lying mark (old.view.calls queue)) right) → Contains (places_of new).live right → right ≡ now
    moved_to keeps there = by_place (Contains-append_cases (flat_map (λ (m : QueueMark). places_lying m (new.view.calls m.queue.0)) new.marks) (places_out new) right there)
      where
        lay : Contains lies_old right ⊎ Contains (places_lying mark (entry by (step, asked) reply ∷ old.view.calls queue)) right → right ≡ now
        lay (inl lies) = absurd (not_lying lies)
        lay (inr lies) = absurd (not_lying (told_before old.marks old.view.calls new.view.calls by queue step asked reply made.call.once places_lying right (keeps lies)))

        by_place : Contains (flat_map (λ (m : QueueMark). places_lying m (new.view.calls m.queue.0)) new.marks) right ⊎ Contains (places_out new) right → right ≡ now
        by_place (inl lies) = lay (told_or_new old.marks old.view.calls new.view.calls by queue step asked reply made.call.once places_lying right
            (subst (λ (ms : List QueueMark). Contains (flat_map (λ (m : QueueMark). places_lying m (new.view.calls m.queue.0)) ms) right) made.call.marks lies))
        by_place (inr out) = out_is out

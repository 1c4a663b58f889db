-- A frame that is given back in a call, lifted to the state of all callers, wherever that call is the next one on its queue.
use Rattle.std.proofs.Common.{◌≡◌, ℕ, suc, ◌+◌, true, false, List, [], ◌∷◌, ◌++◌, arith, ap, ◌∙◌, sym, refl, inl, inr, subst, length}
use Rattle.std.specs.List.{flat_map, list_any, sum_by}
use Rattle.std.proofs.lemmas.Bool.{cases_Bool}
use Rattle.std.proofs.lemmas.List.Sums.{sum_by-append, sum_by-cons}
use Rattle.sf_base.specs.Fences.{Fence}
use Rattle.law_draws.specs.sf_calls.declared.object.Answer.{Answer}
use Rattle.law_draws.specs.sf_calls.declared.object.Entry.{Entry}
use Rattle.law_draws.specs.sf_calls.Histories.{IsLegal, entry}
use Rattle.law_draws.specs.sf_surface.declared.call.QCall.{QCall}
use Rattle.law_draws.specs.sf_surface.declared.call.QCall.TheVariants as call
use Rattle.law_draws.specs.sf_surface.declared.call.QReply.{QReply}
use Rattle.law_draws.specs.sf_surface.Histories.{Answers, Made}
use Rattle.law_draws.specs.sf_surface.Tokens.{ReadLeaseOf}
use Rattle.law_draws.specs.sf_token.Arrivals.{waiting}
use Rattle.law_draws.specs.sf_token.Pending.{Arrival}
use Rattle.law_draws.specs.sf_actor.Desks.{mark_among}
use Rattle.law_draws.specs.sf_actor.Rights.{Turn}
use Rattle.law_draws.specs.law_rights.Moves.{Gets}
use Rattle.law_draws.specs.law_rights.States.{AreApart, CallsOnce, State, is_queue}
use Rattle.law_draws.proofs.law_rights_lemmas.OwedDrawings.{gets_same}
use Rattle.law_draws.proofs.law_rights_lemmas.ReturnedFrames.{back_places}
use Rattle.law_threads.specs.Cuts.{GoesBack, Local, Whole, calls_at, front, state_at}
use Rattle.law_threads.specs.Orders.{raised}
use Rattle.law_threads.proofs.LedgerViews.{GivesKept, GivesTo}
use Rattle.law_threads.proofs.CallLift.{apart_suc, front_after, front_before, zero_apart}
use Rattle.law_threads.proofs.Locals.{parted, same_at}

module _ {C R : Type 0} where
  -- the calls that a legal history began with are legal
  pub legal_front : (answers : List (Entry C R) → ℕ → C → Answer R → Type 0) (more calls : List (Entry C R))
      → IsLegal answers (more ++ calls) → IsLegal answers calls
  legal_front answers [] calls legal = legal
  legal_front answers (e ∷ more) calls legal = legal_front answers more calls legal.1

-- one item in the middle, or at the head
counted_first : {A : Type 0} (w : A → ℕ) (earlier rest : List A) (x : A) → sum_by w (earlier ++ x ∷ rest) ≡ w x + sum_by w (earlier ++ rest)
counted_first w earlier rest x =
    let a = sum_by-append w earlier (x ∷ rest) in
    let b = sum_by-append w earlier rest in
    let c = sum_by-cons w x rest in
    omega (arith, a, b, c)

module _ {B : Type 0} (whole : Whole B) (apart : AreApart whole.marks) (absent : (queue : ℕ) → list_any (is_queue queue) whole.marks ≡ false → whole.view.calls queue ≡ [])
    (legal : (queue : ℕ) → IsLegal (Answers (mark_among whole.marks queue)) (whole.view.calls queue)) (Holds : State B → Type 0) (gives : GivesKept whole Holds)
    (by number queue : ℕ) (lease : ReadLeaseOf) (fence : Fence) (reply : QReply B) (more history : List (Made B))
    (is : whole.view.calls queue ≡ more ++ entry by (number, call.Release lease fence) reply ∷ history) where
  abbrev asked : QCall B
  asked = call.Release lease fence

  abbrev made : Made B
  made = entry by (number, asked) reply

  module _ (others later : List (Local B)) (local : Local B) (earlier rest : List ReadLeaseOf) (heights : ℕ → ℕ) (next : length history ≡ heights (suc queue)) where
    abbrev then : ℕ → ℕ
    then = raised heights (suc queue)

    abbrev was : Local B
    was = record local { on = earlier ++ lease ∷ rest }

    abbrev left : Local B
    left = record local { on = earlier ++ rest }

    abbrev old : State B
    old = state_at whole heights (others ++ was ∷ later)

    abbrev new : State B
    new = state_at whole then (others ++ left ∷ later)

    abbrev from_state : State B
    from_state = record old { on = lease ∷ new.on }

    abbrev to_state : State B
    to_state = record old { view = new.view; on = new.on }

    before_is : calls_at whole heights queue ≡ history
    before_is = front_before heights (suc queue) (whole.view.calls queue) more history made is next

    after_is : calls_at whole then queue ≡ made ∷ history
    after_is = front_after heights (suc queue) (whole.view.calls queue) more history made is next

    once : CallsOnce old.marks old.view.calls new.view.calls by queue number asked reply
    once = record {
      apart = apart;
      there = is_there;
      newest = after_is ∙ ap (λ (xs : List (Made B)). made ∷ xs) (sym before_is);
      others = λ other apart. ap (λ (n : ℕ). front n (whole.view.calls other)) (rw (apart_suc other queue apart) refl);
      replied = (subst (IsLegal (Answers (mark_among whole.marks queue))) (ap (λ (xs : List (Made B)). made ∷ xs) (sym before_is))
          (legal_front (Answers (mark_among whole.marks queue)) more (made ∷ history) (subst (IsLegal (Answers (mark_among whole.marks queue))) is (legal queue)))).0;
    }
      where
        cons_more : (xs : List (Made B)) → xs ++ made ∷ history ≡ [] → ⊥
        cons_more [] same = absurd (cc same)
        cons_more (x ∷ xs) same = absurd (cc same)

        is_there : list_any (is_queue queue) whole.marks ≡ true
        is_there = elim (cases_Bool (list_any (is_queue queue) whole.marks)) [
          | inl met ↦ met
          | inr unmet ↦ absurd (cons_more more (sym is ∙ absent queue unmet))
        ]

    leaves_stay : new.view.turns.leaves ≡ old.view.turns.leaves
    leaves_stay = same_at (λ (l : Local B). l.leaves) others later was left refl

    pub back_goes : GivesTo by number lease old new
    back_goes = record {
      from = from_state;
      to = to_state;
      close_from = record { marks = refl; calls = refl; actors = refl; waiting = refl; on = counts; left = λ turn there. there; all_left = λ turn there. there };
      close_to = record {
        marks = refl;
        calls = refl;
        actors = same_at (λ (l : Local B). l.actors) others later was left refl;
        waiting =
            ap (λ (n : ℕ). flat_map (λ (l : Local B). l.pending) (others ++ left ∷ later) ++ waiting (front n whole.arriving)) same_arrivals
            ∙ ap (λ (xs : List (Arrival ReadLeaseOf)). xs ++ waiting (front (heights 0) whole.arriving)) (same_at (λ (l : Local B). l.pending) others later was left refl);
        on = λ count. refl;
        left = λ turn there. there;
        all_left = λ turn there. there;
      };
      gives = record {
        queue = queue;
        fence = fence;
        reply = reply;
        made = λ buffer. back_places old new.on lease fence by queue number reply new.view once (subst (λ (xs : List Turn). Gets old.view.turns.leaves [] xs) (sym leaves_stay) (gets_same old.view.turns.leaves)) buffer;
      };
    }
      where
        same_arrivals : then 0 ≡ heights 0
        same_arrivals = rw (zero_apart queue) refl

        counts : (count : ReadLeaseOf → ℕ) → sum_by count (lease ∷ new.on) ≡ sum_by count old.on
        counts count =
            let a = ap (sum_by count) (parted (λ (l : Local B). l.on) others later was) in
            let b = ap (sum_by count) (parted (λ (l : Local B). l.on) others later left) in
            let c = sum_by-append count (flat_map (λ (l : Local B). l.on) others) ((earlier ++ lease ∷ rest) ++ flat_map (λ (l : Local B). l.on) later) in
            let d = sum_by-append count (flat_map (λ (l : Local B). l.on) others) ((earlier ++ rest) ++ flat_map (λ (l : Local B). l.on) later) in
            let e = sum_by-append count (earlier ++ lease ∷ rest) (flat_map (λ (l : Local B). l.on) later) in
            let f = sum_by-append count (earlier ++ rest) (flat_map (λ (l : Local B). l.on) later) in
            let g = counted_first count earlier rest lease in
            let h = sum_by-cons count lease new.on in
            omega (arith, a, b, c, d, e, f, g, h)

  -- so it keeps what each frame that is given back keeps
  pub back_lifts : GoesBack whole Holds lease (suc queue, length history)
  back_lifts others later local earlier rest heights next holds =
      gives by number lease _ _ refl (same_at (λ (l : Local B). l.actors) others later (record local { on = earlier ++ lease ∷ rest }) (record local { on = earlier ++ rest }) refl)
      (back_goes others later local earlier rest heights next) holds

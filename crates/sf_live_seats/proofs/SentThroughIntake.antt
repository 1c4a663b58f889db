-- What a caller sends through its sender.
use Rattle.std.proofs.Common.{◌≡◌, ℕ, ◌+◌, ◌≤◌, ◌<◌, List, [], ◌∷◌, ◌++◌, inl, inr, length, Some, arith, ap, ◌∙◌, sym, refl, subst}
use Rattle.std.specs.Prelude.{◌⊎◌, Err, IfErr, IfOk, Ok, Result, Contains, is_none, map}
use Rattle.std.proofs.lemmas.Bool.{false≢true}
use Rattle.std.proofs.lemmas.List.{append-nil, map-append}
use Rattle.sf_base.specs.declared.ids.ActorId.{ActorId}
use Rattle.sf_calls.specs.Histories.{calls_by}
use Rattle.sf_intake.specs.Posts.{Post, arrivals, numbered}
use Rattle.sf_actor.specs.sf_surface.Tokens.{ReadLeaseOf}
use Rattle.sf_intake.specs.sf_token.Pending.{Arrival}
use Rattle.sf_intake.specs.sf_txn.Transactions.{Contents}
use Rattle.sf_actor.specs.Desks.{IsAsBefore, MadeSend}
use Rattle.sf_actor.specs.Known.{number_told}
use Rattle.atomic_table.specs.Seated.{TableId}
use Rattle.sf_live_seats.specs.declared.at_intake.AtIntake.TheVariants as at
use Rattle.sf_live_seats.specs.declared.clock.Clock.{Clock}
use Rattle.sf_live_seats.specs.declared.locks.Locks.{Locks}
use Rattle.sf_live_seats.specs.declared.outbox.Outbox.{Outbox}
use Rattle.sf_live_seats.specs.declared.seats.Seats.{Seats}
use Rattle.sf_live_seats.specs.Moves.{ChangesArrivals, MadeLater}
use Rattle.sf_live_seats.specs.Outboxes.{IsReady, Posts, SendsStill}
use Rattle.sf_live_seats.specs.Seats.{AreSeats, HasSender, IsAtIntake, IsInOrder, arrivals_known, calls_made, home_of, moments_of, pass_at, post_moment, posts_of, sent_in, view_of}
use Rattle.sf_live_seats.proofs.CallOrder.{AddsOne, adds_last, adds_right, later_made, later_same, order_made, order_same}

arrivals_snoc : (n : ℕ) (posts : List (Post ReadLeaseOf)) (post : Post ReadLeaseOf) → arrivals n (posts ++ post ∷ []) ≡ arrivals n posts ++ numbered (length (arrivals n posts) + n) post ∷ []
arrivals_snoc n [] post = (let same : n ≡ 0 + n = omega arith in ap (λ (k : ℕ). numbered k post ∷ []) same)
arrivals_snoc n (p ∷ posts) post =
    let rest = arrivals_snoc (n + 1) posts post in
    let at : length (arrivals (n + 1) posts) + (n + 1) ≡ length (numbered n p ∷ arrivals (n + 1) posts) + n = omega arith in
    ap (λ (list : List (Arrival ReadLeaseOf)). numbered n p ∷ list) (rest ∙ ap (λ (k : ℕ). arrivals (n + 1) posts ++ numbered k post ∷ []) at)

module _ {B : Type 0} where
  -- one more was sent, or nothing
  abbrev pub Tries : Outbox B → Outbox B → Clock → Clock → Type 0
  Tries old new before after = ((step : ℕ) × (txn : Contents ReadLeaseOf) × Posts old new before after step txn) ⊎ ((new.sender.sent ≡ old.sender.sent) × (after ≡ before))

  pub tries : {X : Type 0} (old new : Outbox B) (before after : Clock) (step : ℕ) (txn : Contents ReadLeaseOf) (result : Result ℕ (X × Contents ReadLeaseOf)) → IfOk result (λ number. (number ≡ 0) × Posts old new before after step txn)
      → IfErr result (λ back. (back.1 ≡ txn) × (new.sender.sent ≡ old.sender.sent) × (after ≡ before)) → Tries old new before after
  tries old new before after step txn (Ok number) ok err = inl (step, txn, ok.1)
  tries old new before after step txn (Err back) ok err = inr (err.1, err.2)

  module _ (buffers : TableId) (locks : Locks B) (seats : Seats B) (old new : Outbox B) (after : Clock) (is : seats.intake ≡ at.Sends old) (own : AreSeats buffers locks seats) (ready : IsReady after new) (still : SendsStill old new) where
    abbrev sends : Seats B
    sends = record seats { intake = at.Sends new; last = after }

    sender : HasSender locks seats.by seats.last old
    sender = subst (λ at_intake. IsAtIntake locks seats.by seats.arrivals.gave seats.last at_intake) is own.way

    abbrev calls : List (ℕ × ℕ)
    calls = calls_made seats.by seats.queues.items

    abbrev called : List (ℕ × ℕ)
    called = sent_in (calls_by seats.by seats.arrivals.seen)

    was : moments_of seats ≡ calls ++ (called ++ map post_moment old.sender.sent)
    was = ap (λ at_intake. calls ++ (called ++ map post_moment (posts_of at_intake))) is

    order : IsInOrder seats.last (calls ++ (called ++ map post_moment old.sender.sent))
    order = subst (λ (ms : List (ℕ × ℕ)). IsInOrder seats.last ms) was own.in_order

    adds : (step : ℕ) (txn : Contents ReadLeaseOf) → Posts old new seats.last after step txn → AddsOne (after.step, after.stamp) (calls ++ (called ++ map post_moment old.sender.sent)) (calls ++ (called ++ map post_moment new.sender.sent))
    adds step txn posts =
        adds_right (after.step, after.stamp) calls (called ++ map post_moment old.sender.sent) (called ++ map post_moment new.sender.sent)
        (adds_right (after.step, after.stamp) called (map post_moment old.sender.sent) (map post_moment new.sender.sent)
        (adds_last (after.step, after.stamp) (map post_moment old.sender.sent) (map post_moment new.sender.sent)
        (ap (map post_moment) posts.sent ∙ map-append post_moment old.sender.sent (_ ∷ []) ∙ ap (λ (c : Clock). map post_moment old.sender.sent ++ (c.step, c.stamp) ∷ []) (sym posts.last))))

    in_order : Tries old new seats.last after → IsInOrder after (calls ++ (called ++ map post_moment new.sender.sent))
    in_order (inl made) =
        let step = ap (λ (c : Clock). c.step) made.2.last in
        let stamp = ap (λ (c : Clock). c.stamp) made.2.last in
        let up = made.2.in_order in
        order_made seats.last after _ _ order (omega (arith, step, up)) (omega (arith, stamp)) (adds made.0 made.1 made.2)
    in_order (inr none) = order_same seats.last after _ _ order none.1 (ap (λ posts. calls ++ (called ++ map post_moment posts)) none.0)

    pub sends_own : Tries old new seats.last after → AreSeats buffers locks sends
    sends_own done = record {
      queues = own.queues;
      own_arrivals = own.own_arrivals;
      marked = own.marked;
      number = own.number;
      own_times = own.own_times;
      own_turns = own.own_turns;
      in_order = in_order done;
      takes = own.takes;
      pass = own.pass ∙ ap (λ at_intake. pass_at at_intake seats.arrivals) is;
      way = record { intake = sender.intake ∙ ap (λ z. Some z) (sym still.intake); number = ap (λ (id : ActorId). id.0) still.by ∙ sender.number; apart = sender.apart; ready = ready };
    }

    later : Tries old new seats.last after → MadeLater seats sends
    later done = subst (λ (ms : List (ℕ × ℕ)). (m : ℕ × ℕ) → Contains (moments_of sends) m → Contains ms m ⊎ (seats.last.stamp < m.1)) (sym was) (by_case done)
      where
        by_case : Tries old new seats.last after → (m : ℕ × ℕ) → Contains (moments_of sends) m → Contains (calls ++ (called ++ map post_moment old.sender.sent)) m ⊎ (seats.last.stamp < m.1)
        by_case (inl made) = later_made seats.last after _ _ (let stamp = ap (λ (c : Clock). c.stamp) made.2.last in omega (arith, stamp)) (adds made.0 made.1 made.2)
        by_case (inr none) = later_same seats.last.stamp _ _ (ap (λ posts. calls ++ (called ++ map post_moment posts)) none.0)

    rose : Tries old new seats.last after → seats.last.stamp ≤ after.stamp
    rose (inl made) = (let stamp = ap (λ (c : Clock). c.stamp) made.2.last in omega (arith, stamp))
    rose (inr none) = (let stamp = ap (λ (c : Clock). c.stamp) none.1 in omega (arith, stamp))

    pub sends_change : Tries old new seats.last after → ChangesArrivals seats sends
    sends_change done = record { same = refl; pass = refl; begins = ([], refl); last = rose done; later = later done }

    pub sends_made : {X : Type 0} (step : ℕ) (txn : Contents ReadLeaseOf) (result : Result ℕ X) → IfOk result (λ number. (number ≡ 0) × Posts old new seats.last after step txn)
        → IfOk result (MadeSend (home_of locks seats) (view_of seats) (view_of sends) seats.by step txn)
    sends_made step txn (Err x) made = tt
    sends_made step txn (Ok number) made = subst (λ (v : List (Arrival ReadLeaseOf)). MadeSend (home_of locks seats) (record (view_of seats) { arrivals = v }) (view_of sends) seats.by step txn number) (sym known) (record {
      same = refl;
      earlier = arrivals 1 old.sender.sent;
      last =
          ap (λ posts. arrivals 1 posts) made.1.sent ∙ arrivals_snoc 1 old.sender.sent _
          ∙ ap (λ (b : ℕ). arrivals 1 old.sender.sent ++ record { number = length (arrivals 1 old.sender.sent) + 1; actor = record { 0 = b }; step = step; txn = txn } ∷ []) sender.number;
      told = made.0 ∙ ap (λ z. number_told (is_none z) (length (arrivals 1 old.sender.sent) + 1)) (sym sender.intake);
      untold = λ untold. refl;
      goes_on = record { later = []; joined = sym (append-nil (arrivals 1 old.sender.sent)); none = refl };
      alone = λ exact. absurd (false≢true exact);
      locked = omega arith;
    })
      where
        known : (view_of seats).arrivals ≡ arrivals 1 old.sender.sent
        known = ap (λ at_intake. arrivals_known at_intake seats.arrivals.seen) is

    pub sends_back : {X : Type 0} (step : ℕ) (txn : Contents ReadLeaseOf) (result : Result ℕ (X × Contents ReadLeaseOf)) → IfErr result (λ back. (back.1 ≡ txn) × (new.sender.sent ≡ old.sender.sent) × (after ≡ seats.last))
        → IfErr result (λ back. (back.1 ≡ txn) × IsAsBefore (view_of seats) (view_of sends))
    sends_back step txn (Ok number) back = tt
    sends_back step txn (Err x) back = (
      back.0,
      ap (λ (list : List (Arrival ReadLeaseOf)). record (view_of seats) { arrivals = list }) (ap (λ posts. arrivals 1 posts) back.1 ∙ sym (ap (λ at_intake. arrivals_known at_intake seats.arrivals.seen) is)),
    )

-- What one caller did, piece by piece, as blocks of events that it has yet to do; and what it sent, on its way until it arrives.
use Rattle.std.proofs.Common.{◌≡◌, ℕ, suc, ◌+◌, ◌<◌, ◌≤◌, ◌⊎◌, List, [], ◌∷◌, ◌++◌, arith, ap, ◌∙◌, sym, refl, inl, inr, subst, Option, Some, None}
use Rattle.std.specs.Prelude.{Contains, if◌then◌else◌}
use Rattle.std.proofs.lemmas.List.Elements.{Contains-append_cases}
use Rattle.law_draws.specs.sf_surface.Tokens.{ReadLeaseOf}
use Rattle.law_draws.specs.sf_token.Pending.{Arrival}
use Rattle.law_draws.specs.law_rights.States.{State}
use Rattle.law_draws.proofs.law_rights_lemmas.TurnCounts.{in_front, none_in, the_only}
use Rattle.law_threads.specs.Cuts.{AllGoBack, AreUnspent, Event, Forwards, GoesBack, GoesForward, IsPart, Lifts, Local, MakesAt, Moves, Returns, Whole, before, now, spot_of, stock_in, with_sent}
use Rattle.law_threads.specs.Delays.{delayed}
use Rattle.law_threads.specs.Orders.{ComesFirst, IsInTurn, Spot, events_in, is_spot, times_at}
use Rattle.law_threads.specs.Sends.{meanwhile}
use Rattle.law_threads.proofs.EventLaws.{back_block, unspent}
use Rattle.law_threads.proofs.DelayedCalls.{Was, in_delayed, spot_was, times_delayed, times_there, turn_delayed}
use Rattle.law_threads.proofs.SentOnTheirWay.{forward_was, part_put, same_spot}
use Rattle.law_threads.proofs.LeastStamp.{times_joined}

same_some : {A : Type 0} (x y : A) → Some x ≡ Some y → x ≡ y
same_some x y same = cc

none_some : {A : Type 0} (x : A) → None ≡ Some x → ⊥
none_some x same = absurd (cc same)

-- a caller between two pieces of what it did: what it holds, how many calls of its own at a spot were known then, and the step that it did last
pub record Post (B : Type 0) : Type 0 where
  pub local : Local B
  pub known : Spot → ℕ
  pub step : ℕ

-- a frame that goes back, and where
abbrev pub Back : Type 0
Back = ReadLeaseOf × Spot

abbrev pub returns : {B : Type 0} → List Back → List (Event B)
returns [] = []
returns (back ∷ backs) = Returns back.0 back.1 ∷ returns backs

abbrev pub leases_of : List Back → List ReadLeaseOf
leases_of [] = []
leases_of (back ∷ backs) = back.0 ∷ leases_of backs

-- how many of these go back at a spot
abbrev pub backs_at : Spot → List Back → ℕ
backs_at here [] = 0
backs_at here (back ∷ backs) = (if is_spot here (Some back.1) then 1 else 0) + backs_at here backs

abbrev pub spot_at : Spot → Option Spot → ℕ
spot_at here spot = (if is_spot here spot then 1 else 0) + 0

module _ {B : Type 0} (whole : Whole B) (Holds : State B → Type 0) where
  -- each of these goes back
  abbrev pub AllBack : List Back → Type 0
  AllBack [] = Unit {0}
  AllBack (back ∷ backs) = GoesBack whole Holds back.0 back.1 × AllBack backs

module _ {B : Type 0} (whole : Whole B) (Holds : State B → Type 0) (total : Spot → ℕ) (stamp : Spot → ℕ) (At : Spot → ℕ → Type 0)
    (order : (here there : Spot) (n m : ℕ) → At here n → At there m → n < m → stamp here ≤ stamp there) where
  -- a stamp is above none of theirs
  abbrev pub AllAfter : Spot → List Back → Type 0
  AllAfter first [] = Unit {0}
  AllAfter first (back ∷ backs) = (stamp first ≤ stamp back.1) × AllAfter first backs

  abbrev pub AllAt : ℕ → List Back → Type 0
  AllAt n [] = Unit {0}
  AllAt n (back ∷ backs) = At back.1 n × AllAt n backs

  -- none of the permits that it has left made a buffer in a call that was known; those that make one are its own
  pub record IsFresh (post : Post B) : Type 0 where
    pub unused : (number queue place : ℕ) → Contains (stock_in post.local) number → MakesAt whole number queue place → post.known (suc queue, place) ≡ 0
    pub own : (number queue place : ℕ) → Contains (stock_in post.local) number → MakesAt whole number queue place → 1 ≤ total (suc queue, place)

  -- A piece: an event, maybe a call, and then frames go back; all in one step, the event's call first.
  pub record Piece (was is : Post B) : Type 0 where
    pub spot : Option Spot
    pub backs : List Back
    pub lifts : Lifts whole Holds was.local spot (record is.local { on = leases_of backs ++ is.local.on })
    pub back : AllBack whole Holds backs
    pub known : (here : Spot) → is.known here ≡ was.known here + (spot_at here spot + backs_at here backs)
    pub rose : was.step < is.step
    pub at : (here : Spot) → spot ≡ Some here → At here is.step
    pub all_at : AllAt is.step backs
    pub first : (here : Spot) → spot ≡ Some here → AllAfter here backs

  -- A piece that sends: that is on its way until a call on the arrivals, which another may make. The call has no stamp below those of the
  -- steps before, and one below those of the calls for what is sent later.
  pub record SendPiece (was is : Post B) : Type 0 where
    pub one : Arrival ReadLeaseOf
    pub place : ℕ
    pub lifts : Lifts whole Holds was.local None (with_sent one is.local)
    pub forward : GoesForward whole Holds one (0, place)
    pub known : (here : Spot) → is.known here ≡ was.known here + spot_at here (Some (0, place))
    pub rose : was.step < is.step
    pub above : (there : Spot) (n : ℕ) → At there n → n < is.step → stamp there ≤ stamp (0, place)
    pub first : (other : ℕ) → is.known (0, other) < total (0, other) → stamp (0, place) < stamp (0, other)

  -- what a caller has yet to do behind a piece: none of its calls is below one of the steps so far
  pub record Rest (post : Post B) (rest : List (List (Event B))) (last : Local B) : Type 0 where
    pub holds : now rest last ≡ post.local
    pub part : IsPart whole Holds rest last
    pub counts : (here : Spot) → times_at spot_of here (events_in spot_of rest) + post.known here ≡ total here
    pub turn : IsInTurn spot_of stamp rest
    pub later : (event : Event B) → Contains (events_in spot_of rest) event → (here : Spot) → spot_of event ≡ Some here → (there : Spot) (n : ℕ) → At there n → n ≤ post.step → stamp there ≤ stamp here
    pub forwards : (arrived : Arrival ReadLeaseOf) (here : Spot) → Contains (events_in spot_of rest) (Forwards arrived here) → here.0 ≡ 0

  -- of the frames that go back
  back_at : (n : ℕ) (backs : List Back) → AllAt n backs → (event : Event B) → Contains (returns {B = B} backs) event → (here : Spot) → spot_of event ≡ Some here → At here n
  back_at n [] all event there here is = absurd (none_in event there)
  back_at n (back ∷ backs) all event there here is = by_place (in_front (Returns back.0 back.1) event (returns backs) there) (back_at n backs all.1 event)
    where
      by_place : (Returns back.0 back.1 ≡ event) ⊎ Contains (returns backs) event → (Contains (returns backs) event → (here : Spot) → spot_of event ≡ Some here → At here n) → At here n
      by_place (inl same) further = subst (λ (s : Spot). At s n) (same_some back.1 here (ap spot_of same ∙ is)) all.0
      by_place (inr rest) further = further rest here is

  back_after : (first : Spot) (backs : List Back) → AllAfter first backs → (event : Event B) → Contains (returns {B = B} backs) event → (here : Spot) → spot_of event ≡ Some here → stamp first ≤ stamp here
  back_after first [] all event there here is = absurd (none_in event there)
  back_after first (back ∷ backs) all event there here is = by_place (in_front (Returns back.0 back.1) event (returns backs) there) (back_after first backs all.1 event)
    where
      by_place : (Returns back.0 back.1 ≡ event) ⊎ Contains (returns backs) event → (Contains (returns backs) event → (here : Spot) → spot_of event ≡ Some here → stamp first ≤ stamp here) → stamp first ≤ stamp here
      by_place (inl same) further = subst (λ (s : Spot). stamp first ≤ stamp s) (same_some back.1 here (ap spot_of same ∙ is)) all.0
      by_place (inr rest) further = further rest here is

  returned_at : (here : Spot) (backs : List Back) → times_at spot_of here (returns {B = B} backs) ≡ backs_at here backs
  returned_at here [] = refl
  returned_at here (back ∷ backs) = ap (λ (n : ℕ). (if is_spot here (Some back.1) then 1 else 0) + n) (returned_at here backs)

  before_returns : (backs : List Back) (next : Local B) → before (returns {B = B} backs) next ≡ record next { on = leases_of backs ++ next.on }
  before_returns [] next = refl
  before_returns (back ∷ backs) next = ap (λ (local : Local B). record local { on = back.0 ∷ local.on }) (before_returns backs next)

  no_forward : (backs : List Back) (arrived : Arrival ReadLeaseOf) (here : Spot) → Contains (returns {B = B} backs) (Forwards arrived here) → ⊥
  no_forward [] arrived here there = none_in (Forwards arrived here) there
  no_forward (back ∷ backs) arrived here there = elim (in_front (Returns back.0 back.1) (Forwards arrived here) (returns backs) there) [
    | inl same ↦ absurd (cc same)
    | inr further ↦ no_forward backs arrived here further
  ]

  all_back : (backs : List Back) → AllBack whole Holds backs → AllGoBack whole Holds (returns {B = B} backs)
  all_back [] all = tt
  all_back (back ∷ backs) all = (all.0, all_back backs all.1)

  module _ (was is : Post B) (piece : Piece was is) (fresh : IsFresh was) (rest : List (List (Event B))) (last : Local B) (behind : Rest is rest last) where
    abbrev pub with_piece : List (List (Event B))
    with_piece = (Moves was.local piece.spot ∷ []) ∷ returns {B = B} piece.backs ∷ rest

    counted : (here : Spot) → times_at spot_of here (events_in spot_of with_piece) ≡ spot_at here piece.spot + (backs_at here piece.backs + times_at spot_of here (events_in spot_of rest))
    counted here =
        let a = times_joined spot_of here (Moves was.local piece.spot ∷ []) (returns {B = B} piece.backs ++ events_in spot_of rest) in
        let b = times_joined spot_of here (returns {B = B} piece.backs) (events_in spot_of rest) in
        let c = returned_at here piece.backs in
        omega (arith, a, b, c)

    counts : (here : Spot) → times_at spot_of here (events_in spot_of with_piece) + was.known here ≡ total here
    counts here =
        let all = counted here in
        let one = piece.known here in
        let later = behind.counts here in
        omega (arith, all, one, later)

    unspent_was : AreUnspent whole Holds with_piece last
    unspent_was number queue place left makes =
        let own = fresh.own number queue place left makes in
        let none = fresh.unused number queue place left makes in
        let all = counts (suc queue, place) in
        omega (arith, own, none, all)

    stock_same : stock_in (now (returns {B = B} piece.backs ∷ rest) last) ≡ stock_in (now rest last)
    stock_same = ap stock_in (before_returns piece.backs (now rest last))

    unspent_backs : AreUnspent whole Holds (returns {B = B} piece.backs ∷ rest) last
    unspent_backs number queue place left makes =
        let some = unspent whole Holds rest last behind.part number queue place (subst (λ (stock : List ℕ). Contains stock number) stock_same left) makes in
        let joined = times_joined spot_of (suc queue, place) (returns {B = B} piece.backs) (events_in spot_of rest) in
        omega (arith, some, joined)

    lifts_here : Lifts whole Holds was.local piece.spot (now (returns {B = B} piece.backs ∷ rest) last)
    lifts_here = subst (λ (local : Local B). Lifts whole Holds was.local piece.spot local)
        (sym (before_returns piece.backs (now rest last) ∙ ap (λ (local : Local B). record local { on = leases_of piece.backs ++ local.on }) behind.holds)) piece.lifts

    first_turn : (event other : Event B) → Contains (Moves was.local piece.spot ∷ []) event → Contains (events_in spot_of (returns {B = B} piece.backs ∷ rest)) other → ComesFirst spot_of stamp event other
    first_turn event other there further here next is_event is_other =
        by_place (Contains-append_cases (returns {B = B} piece.backs) (events_in spot_of rest) other further)
      where
        at_here : piece.spot ≡ Some here
        at_here = ap spot_of (the_only (Moves was.local piece.spot) event there) ∙ is_event

        by_place : Contains (returns {B = B} piece.backs) other ⊎ Contains (events_in spot_of rest) other → stamp here ≤ stamp next
        by_place (inl backs) = back_after here piece.backs (piece.first here at_here) other backs next is_other
        by_place (inr behind_it) = behind.later other behind_it next is_other here is.step (piece.at here at_here) (omega arith)

    back_turn : (event other : Event B) → Contains (returns {B = B} piece.backs) event → Contains (events_in spot_of rest) other → ComesFirst spot_of stamp event other
    back_turn event other there further here next is_event is_other = behind.later other further next is_other here is.step (back_at is.step piece.backs piece.all_at event there here is_event) (omega arith)

    -- a call of the piece is above those of the steps before
    own_later : (here : Spot) → At here is.step → (there : Spot) (n : ℕ) → At there n → n ≤ was.step → stamp there ≤ stamp here
    own_later here own there n at low = let rose = piece.rose in order there here n is.step at own (omega (arith, rose, low))

    later_was : (event : Event B) → Contains (events_in spot_of with_piece) event → (here : Spot) → spot_of event ≡ Some here → (there : Spot) (n : ℕ) → At there n → n ≤ was.step → stamp there ≤ stamp here
    later_was event inside here is_here there n at low = elim (in_front (Moves was.local piece.spot) event (returns {B = B} piece.backs ++ events_in spot_of rest) inside) [
      | inl same ↦ own_later here (piece.at here (ap spot_of same ∙ is_here)) there n at low
      | inr further ↦ elim (Contains-append_cases (returns {B = B} piece.backs) (events_in spot_of rest) event further) [
        | inl backs ↦ own_later here (back_at is.step piece.backs piece.all_at event backs here is_here) there n at low
        | inr behind_it ↦ let rose = piece.rose in behind.later event behind_it here is_here there n at (omega (arith, rose, low))
      ]
    ]

    forwards_was : (arrived : Arrival ReadLeaseOf) (here : Spot) → Contains (events_in spot_of with_piece) (Forwards arrived here) → here.0 ≡ 0
    forwards_was arrived here inside = elim (in_front (Moves was.local piece.spot) (Forwards arrived here) (returns {B = B} piece.backs ++ events_in spot_of rest) inside) [
      | inl same ↦ absurd (cc same)
      | inr further ↦ elim (Contains-append_cases (returns {B = B} piece.backs) (events_in spot_of rest) (Forwards arrived here) further) [
        | inl backs ↦ absurd (no_forward piece.backs arrived here backs)
        | inr behind_it ↦ behind.forwards arrived here behind_it
      ]
    ]

    pub piece_rest : Rest was with_piece last
    piece_rest = record {
      holds = refl;
      part = (lifts_here, unspent_was, (back_block whole Holds (returns {B = B} piece.backs) (now rest last) (all_back piece.backs piece.back), unspent_backs, behind.part));
      counts = counts;
      turn = (first_turn, (back_turn, behind.turn));
      later = later_was;
      forwards = forwards_was;
    }

  -- behind a piece that sends, the call for it comes by its stamp
  module _ (was is : Post B) (piece : SendPiece was is) (fresh : IsFresh was) (rest : List (List (Event B))) (last : Local B) (behind : Rest is rest last) where
    abbrev at : Spot
    at = (0, piece.place)

    abbrev put : List (List (Event B))
    put = delayed spot_of stamp (meanwhile piece.one) (Forwards piece.one (0, piece.place)) (stamp (0, piece.place)) rest

    abbrev pub with_send : List (List (Event B))
    with_send = (Moves was.local None ∷ []) ∷ put

    -- what is sent later arrives later
    behind_it : (other : Arrival ReadLeaseOf) (here : Spot) → Contains (events_in spot_of rest) (Forwards other here) → stamp at < stamp here
    behind_it other here inside =
        let some = times_there spot_of here (Forwards other here) (events_in spot_of rest) inside refl in
        let all = behind.counts here in
        on_lock here.0 here.1 (behind.forwards other here inside) (omega (arith, some, all))
      where
        on_lock : (lock place : ℕ) → lock ≡ 0 → is.known (lock, place) < total (lock, place) → stamp at < stamp (lock, place)
        on_lock lock place same = subst (λ (l : ℕ). is.known (l, place) < total (l, place) → stamp at < stamp (l, place)) (sym same) (piece.first place)

    stands : (now put last ≡ with_sent piece.one (now rest last)) × IsPart whole Holds put last
    stands = part_put whole Holds piece.one stamp at piece.forward rest last behind_it behind.part

    send_counts : (here : Spot) → times_at spot_of here (events_in spot_of with_send) + was.known here ≡ total here
    send_counts here =
        let more = times_delayed spot_of stamp (meanwhile piece.one) (same_spot piece.one) (Forwards piece.one at) (stamp at) rest here in
        let one = piece.known here in
        let later = behind.counts here in
        omega (arith, more, one, later)

    send_unspent : AreUnspent whole Holds with_send last
    send_unspent number queue place left makes =
        let own = fresh.own number queue place left makes in
        let none = fresh.unused number queue place left makes in
        let all = send_counts (suc queue, place) in
        omega (arith, own, none, all)

    lifts_send : Lifts whole Holds was.local None (now put last)
    lifts_send = subst (λ (local : Local B). Lifts whole Holds was.local None local) (sym (stands.0 ∙ ap (with_sent piece.one) behind.holds)) piece.lifts

    in_put : (e : Event B) → Contains (events_in spot_of put) e → Was spot_of stamp (meanwhile piece.one) (same_spot piece.one) (Forwards piece.one at) e rest
    in_put e inside = in_delayed spot_of stamp (meanwhile piece.one) (same_spot piece.one) (Forwards piece.one at) (stamp at) rest e inside

    send_turn : (event other : Event B) → Contains (Moves was.local None ∷ []) event → Contains (events_in spot_of put) other → ComesFirst spot_of stamp event other
    send_turn event other there further here next is_event is_other = absurd (none_some here (ap spot_of (the_only (Moves was.local None) event there) ∙ is_event))

    send_later : (event : Event B) → Contains (events_in spot_of with_send) event → (here : Spot) → spot_of event ≡ Some here → (there : Spot) (n : ℕ) → At there n → n ≤ was.step → stamp there ≤ stamp here
    send_later event inside here is_here there n at_there low = elim (in_front (Moves was.local None) event (events_in spot_of put) inside) [
      | inl same ↦ absurd (none_some here (ap spot_of same ∙ is_here))
      | inr further ↦ elim (in_put event further) [
        | inl it ↦
            let rose = piece.rose in
            subst (λ (s : Spot). stamp there ≤ stamp s) (same_some at here (sym (ap spot_of it) ∙ is_here)) (piece.above there n at_there (omega (arith, rose, low)))
        | inr was_there ↦
            let rose = piece.rose in
            behind.later was_there.0 was_there.1 here (sym (spot_was spot_of stamp (meanwhile piece.one) (same_spot piece.one) was_there.0 event was_there.2) ∙ is_here) there n at_there (omega (arith, rose, low))
      ]
    ]

    send_forwards : (arrived : Arrival ReadLeaseOf) (here : Spot) → Contains (events_in spot_of with_send) (Forwards arrived here) → here.0 ≡ 0
    send_forwards arrived here inside = elim (in_front (Moves was.local None) (Forwards arrived here) (events_in spot_of put) inside) [
      | inl same ↦ absurd (cc same)
      | inr further ↦ elim (in_put (Forwards arrived here) further) [
        | inl it ↦ ap (λ (s : Spot). s.0) (same_some here at (ap spot_of it))
        | inr was_there ↦ behind.forwards arrived here (subst (λ (e : Event B). Contains (events_in spot_of rest) e) (forward_was piece.one was_there.0 arrived here was_there.2) was_there.1)
      ]
    ]

    pub send_rest : Rest was with_send last
    send_rest = record {
      holds = refl;
      part = (lifts_send, send_unspent, stands.1);
      counts = send_counts;
      turn = (send_turn, turn_delayed spot_of stamp (meanwhile piece.one) (same_spot piece.one) (Forwards piece.one at) at rest refl behind.turn);
      later = send_later;
      forwards = send_forwards;
    }

  -- one piece or the other, and what is behind it
  abbrev pub AnyPiece : Post B → Post B → Type 0
  AnyPiece was is = Piece was is ⊎ SendPiece was is

  pub with_any : (was is : Post B) → AnyPiece was is → IsFresh was → (rest : List (List (Event B))) (last : Local B) → Rest is rest last → (more : List (List (Event B))) × Rest was more last
  with_any was is (inl piece) fresh rest last behind = (with_piece was is piece fresh rest last behind, piece_rest was is piece fresh rest last behind)
  with_any was is (inr piece) fresh rest last behind = (with_send was is piece fresh rest last behind, send_rest was is piece fresh rest last behind)

  -- where nothing was done
  pub same_rest : (was is : Post B) → was.local ≡ is.local → ((here : Spot) → is.known here ≡ was.known here) → was.step ≤ is.step → (rest : List (List (Event B))) (last : Local B) → Rest is rest last → Rest was rest last
  same_rest was is local known step rest last behind = record {
    holds = behind.holds ∙ sym local;
    part = behind.part;
    counts = λ here. let same = known here in let counts = behind.counts here in omega (arith, same, counts);
    turn = behind.turn;
    later = λ event inside here is_here there n at low. behind.later event inside here is_here there n at (omega (arith, step, low));
    forwards = behind.forwards;
  }

  pub end_rest : (post : Post B) → IsFresh post → ((here : Spot) → post.known here ≡ total here) → Rest post [] post.local
  end_rest post fresh known = record {
    holds = refl;
    part = λ number queue place left makes.
        let own = fresh.own number queue place left makes in
        let none = fresh.unused number queue place left makes in
        let all = known (suc queue, place) in
        absurd (omega (arith, own, none, all));
    counts = λ here. let all = known here in omega (arith, all);
    turn = tt;
    later = λ event there. absurd (none_in event there);
    forwards = λ arrived here there. absurd (none_in (Forwards arrived here) there);
  }

-- What each event keeps, wherever it is next, holds after all of them.
use Rattle.std.proofs.Common.{◌≡◌, ℕ, suc, ◌≤◌, ◌⊎◌, List, [], ◌∷◌, ◌++◌, arith, ap, ◌∙◌, sym, refl, inl, inr, subst, length, Option, Some, None}
use Rattle.std.specs.Prelude.{Contains}
use Rattle.std.proofs.lemmas.List.{append_assoc, length-append}
use Rattle.std.proofs.lemmas.List.Elements.{Contains-append_cases}
use Rattle.law_draws.specs.sf_surface.declared.mark.QueueMark.{QueueMark}
use Rattle.law_draws.specs.sf_surface.Histories.{Made, told_reply}
use Rattle.law_draws.specs.sf_surface.Tokens.{ReadLeaseOf}
use Rattle.law_draws.specs.sf_token.Pending.{Arrival}
use Rattle.law_draws.specs.law_rights.Calls.{buffers_in, made_of}
use Rattle.law_draws.specs.law_rights.States.{State}
use Rattle.law_threads.specs.Cuts.{AllGoBack, AreParts, AreUnspent, AreUnused, Event, Forwards, GoesBack, GoesForward, IsBlock, IsPart, Lifts, Local, Moves, Returns, Whole, all_now, before, calls_at, heights_after, IsNext, many_of, now, spot_of, state_at, stock_in, with_back, with_sent}
use Rattle.law_threads.specs.Orders.{AreDone, Does, IsCut, Order, Passes, Spot, all_events, events_in, raised, times_at}
use Rattle.law_threads.specs.Orders.Order.{Call, End, Pass, Still}
use Rattle.law_threads.proofs.Fronts.{front_begins, front_length}
use Rattle.law_threads.proofs.LeastStamp.{all_joined, cut_called, cut_passed, cut_still, times_joined}

none_some : {A : Type 0} (x : A) → Some x ≡ None → ⊥
none_some x same = absurd (cc same)

same_some : {A : Type 0} (x y : A) → Some x ≡ Some y → x ≡ y
same_some x y same = cc

-- a buffer that calls made was made by one of them
record MadeAmong {B : Type 0} (mark : QueueMark) (calls : List (Made B)) (number : ℕ) : Type 0 where
  later : List (Made B)
  made : Made B
  earlier : List (Made B)
  is : calls ≡ later ++ made ∷ earlier
  makes : Contains (made_of made.call.1 (told_reply mark earlier made.by made.call.1)) number

made_among : {B : Type 0} (mark : QueueMark) (calls : List (Made B)) (number : ℕ) → Contains (buffers_in mark calls) number → MadeAmong mark calls number
made_among mark [] number there = absurd (omega (arith, there.1))
made_among {B} mark (made ∷ earlier) number there =
    by_place (Contains-append_cases (made_of made.call.1 (told_reply mark earlier made.by made.call.1)) (buffers_in mark earlier) number there) (made_among mark earlier number)
  where
    by_place : Contains (made_of made.call.1 (told_reply mark earlier made.by made.call.1)) number ⊎ Contains (buffers_in mark earlier) number
        → (Contains (buffers_in mark earlier) number → MadeAmong mark earlier number) → MadeAmong mark (made ∷ earlier) number
    by_place (inl here) further = record { later = []; made = made; earlier = earlier; is = refl; makes = here }
    by_place (inr rest) further =
        let found = further rest in
        record { later = made ∷ found.later; made = found.made; earlier = found.earlier; is = ap (λ (xs : List (Made B)). made ∷ xs) found.is; makes = found.makes }

module _ {B : Type 0} (whole : Whole B) (Holds : State B → Type 0) where
  -- a block with an event that is no return is this event
  record IsAlone (earlier later : List (Event B)) (local : Local B) (spot : Option Spot) (next : Local B) : Type 0 where
    none_before : earlier ≡ []
    none_behind : later ≡ []
    lifts : Lifts whole Holds local spot next

  not_among : (earlier later : List (Event B)) (local : Local B) (spot : Option Spot) → AllGoBack whole Holds (earlier ++ Moves local spot ∷ later) → ⊥
  not_among [] later local spot all = all
  not_among (Moves other there ∷ earlier) later local spot all = all
  not_among (Returns lease there ∷ earlier) later local spot all = not_among earlier later local spot all.1
  not_among (Forwards arrived there ∷ earlier) later local spot all = not_among earlier later local spot all.1

  alone : (earlier later : List (Event B)) (local : Local B) (spot : Option Spot) (next : Local B) → IsBlock whole Holds (earlier ++ Moves local spot ∷ later) next → IsAlone earlier later local spot next
  alone [] [] local spot next block = record { none_before = refl; none_behind = refl; lifts = block }
  alone [] (other ∷ later) local spot next block = absurd block
  alone (Moves other there ∷ []) later local spot next block = absurd block
  alone (Moves other there ∷ event ∷ earlier) later local spot next block = absurd block
  alone (Returns lease there ∷ earlier) later local spot next block = absurd (not_among earlier later local spot block.1)
  alone (Forwards arrived there ∷ earlier) later local spot next block = absurd (not_among earlier later local spot block.1)

  -- a block with a return is one of returns
  all_back : (earlier later : List (Event B)) (lease : ReadLeaseOf) (spot : Spot) (next : Local B) → IsBlock whole Holds (earlier ++ Returns lease spot ∷ later) next → AllGoBack whole Holds (earlier ++ Returns lease spot ∷ later)
  all_back [] later lease spot next block = block
  all_back (Moves other there ∷ []) later lease spot next block = absurd block
  all_back (Moves other there ∷ event ∷ earlier) later lease spot next block = absurd block
  all_back (Returns other there ∷ earlier) later lease spot next block = block
  all_back (Forwards other there ∷ earlier) later lease spot next block = block

  all_forward : (earlier later : List (Event B)) (arrived : Arrival ReadLeaseOf) (spot : Spot) (next : Local B) → IsBlock whole Holds (earlier ++ Forwards arrived spot ∷ later) next → AllGoBack whole Holds (earlier ++ Forwards arrived spot ∷ later)
  all_forward [] later arrived spot next block = block
  all_forward (Moves other there ∷ []) later arrived spot next block = absurd block
  all_forward (Moves other there ∷ event ∷ earlier) later arrived spot next block = absurd block
  all_forward (Returns other there ∷ earlier) later arrived spot next block = block
  all_forward (Forwards other there ∷ earlier) later arrived spot next block = block

  pub back_block : (events : List (Event B)) (next : Local B) → AllGoBack whole Holds events → IsBlock whole Holds events next
  back_block [] next all = tt
  back_block (Moves local spot ∷ later) next all = absurd all
  back_block (Returns lease spot ∷ later) next all = all
  back_block (Forwards arrived spot ∷ later) next all = all

  back_without : (earlier later : List (Event B)) (lease : ReadLeaseOf) (spot : Spot) → AllGoBack whole Holds (earlier ++ Returns lease spot ∷ later) → AllGoBack whole Holds (earlier ++ later)
  back_without [] later lease spot all = all.1
  back_without (Moves local there ∷ earlier) later lease spot all = absurd all
  back_without (Returns other there ∷ earlier) later lease spot all = (all.0, back_without earlier later lease spot all.1)
  back_without (Forwards other there ∷ earlier) later lease spot all = (all.0, back_without earlier later lease spot all.1)

  forward_without : (earlier later : List (Event B)) (arrived : Arrival ReadLeaseOf) (spot : Spot) → AllGoBack whole Holds (earlier ++ Forwards arrived spot ∷ later) → AllGoBack whole Holds (earlier ++ later)
  forward_without [] later arrived spot all = all.1
  forward_without (Moves local there ∷ earlier) later arrived spot all = absurd all
  forward_without (Returns other there ∷ earlier) later arrived spot all = (all.0, forward_without earlier later arrived spot all.1)
  forward_without (Forwards other there ∷ earlier) later arrived spot all = (all.0, forward_without earlier later arrived spot all.1)

  back_here : (earlier later : List (Event B)) (lease : ReadLeaseOf) (spot : Spot) → AllGoBack whole Holds (earlier ++ Returns lease spot ∷ later) → GoesBack whole Holds lease spot
  back_here [] later lease spot all = all.0
  back_here (Moves local there ∷ earlier) later lease spot all = absurd all
  back_here (Returns other there ∷ earlier) later lease spot all = back_here earlier later lease spot all.1
  back_here (Forwards other there ∷ earlier) later lease spot all = back_here earlier later lease spot all.1

  forward_here : (earlier later : List (Event B)) (arrived : Arrival ReadLeaseOf) (spot : Spot) → AllGoBack whole Holds (earlier ++ Forwards arrived spot ∷ later) → GoesForward whole Holds arrived spot
  forward_here [] later arrived spot all = all.0
  forward_here (Moves local there ∷ earlier) later arrived spot all = absurd all
  forward_here (Returns other there ∷ earlier) later arrived spot all = forward_here earlier later arrived spot all.1
  forward_here (Forwards other there ∷ earlier) later arrived spot all = forward_here earlier later arrived spot all.1

  -- the frames that a block gives back
  leases_in : List (Event B) → List ReadLeaseOf
  leases_in [] = []
  leases_in (Moves local spot ∷ later) = leases_in later
  leases_in (Returns lease spot ∷ later) = lease ∷ leases_in later
  leases_in (Forwards arrived spot ∷ later) = leases_in later

  -- the transactions that a block puts among the arrivals
  sends_in : List (Event B) → List (Arrival ReadLeaseOf)
  sends_in [] = []
  sends_in (Moves local spot ∷ later) = sends_in later
  sends_in (Returns lease spot ∷ later) = sends_in later
  sends_in (Forwards arrived spot ∷ later) = arrived ∷ sends_in later

  before_back : (events : List (Event B)) (next : Local B) → AllGoBack whole Holds events → before events next ≡ record next { pending = sends_in events ++ next.pending; on = leases_in events ++ next.on }
  unfolding leases_in sends_in
  before_back [] next all = refl
  before_back (Moves local spot ∷ later) next all = absurd all
  before_back (Returns lease spot ∷ later) next all = ap (with_back lease) (before_back later next all.1)
  before_back (Forwards arrived spot ∷ later) next all = ap (with_sent arrived) (before_back later next all.1)

  leases_joined : (earlier later : List (Event B)) → leases_in (earlier ++ later) ≡ leases_in earlier ++ leases_in later
  unfolding leases_in
  leases_joined [] later = refl
  leases_joined (Moves local spot ∷ earlier) later = leases_joined earlier later
  leases_joined (Returns lease spot ∷ earlier) later = ap (λ (xs : List ReadLeaseOf). lease ∷ xs) (leases_joined earlier later)
  leases_joined (Forwards arrived spot ∷ earlier) later = leases_joined earlier later

  sends_joined : (earlier later : List (Event B)) → sends_in (earlier ++ later) ≡ sends_in earlier ++ sends_in later
  unfolding sends_in
  sends_joined [] later = refl
  sends_joined (Moves local spot ∷ earlier) later = sends_joined earlier later
  sends_joined (Returns lease spot ∷ earlier) later = sends_joined earlier later
  sends_joined (Forwards arrived spot ∷ earlier) later = ap (λ (xs : List (Arrival ReadLeaseOf)). arrived ∷ xs) (sends_joined earlier later)

  before_split : (earlier later : List (Event B)) (next : Local B) → AllGoBack whole Holds (earlier ++ later)
      → before (earlier ++ later) next ≡ record next { pending = sends_in earlier ++ (sends_in later ++ next.pending); on = leases_in earlier ++ (leases_in later ++ next.on) }
  before_split earlier later next all =
      before_back (earlier ++ later) next all ∙ (λ i. record next { pending = sends i; on = leases i })
    where
      sends : sends_in (earlier ++ later) ++ next.pending ≡ sends_in earlier ++ (sends_in later ++ next.pending)
      sends = ap (λ (xs : List (Arrival ReadLeaseOf)). xs ++ next.pending) (sends_joined earlier later) ∙ append_assoc (sends_in earlier) (sends_in later) next.pending

      leases : leases_in (earlier ++ later) ++ next.on ≡ leases_in earlier ++ (leases_in later ++ next.on)
      leases = ap (λ (xs : List ReadLeaseOf). xs ++ next.on) (leases_joined earlier later) ∙ append_assoc (leases_in earlier) (leases_in later) next.on

  stock_back : (events : List (Event B)) (next : Local B) → AllGoBack whole Holds events → stock_in (before events next) ≡ stock_in next
  stock_back events next all = ap stock_in (before_back events next all)

  pub unspent : (blocks : List (List (Event B))) (last : Local B) → IsPart whole Holds blocks last → AreUnspent whole Holds blocks last
  unspent [] last part = part
  unspent (block ∷ later) last part = part.1

  -- where a caller stands among all
  record IsAmong (callers : List (List (List (Event B)))) (caller : List (List (Event B))) (others : List (List (List (Event B)))) (lasts : List (Local B)) : Type 0 where
    last : Local B
    earlier : List (Local B)
    later : List (Local B)
    part : IsPart whole Holds caller last
    replaced : (other : List (List (Event B))) → IsPart whole Holds other last → AreParts whole Holds (callers ++ other ∷ others) lasts
    nows : (other : List (List (Event B))) → all_now (callers ++ other ∷ others) lasts ≡ earlier ++ now other last ∷ later

  among : (callers : List (List (List (Event B)))) (caller : List (List (Event B))) (others : List (List (List (Event B)))) (lasts : List (Local B))
      → AreParts whole Holds (callers ++ caller ∷ others) lasts → IsAmong callers caller others lasts
  among [] caller others [] parts = absurd parts
  among [] caller others (last ∷ lasts) parts = record {
    last = last;
    earlier = [];
    later = all_now others lasts;
    part = parts.0;
    replaced = λ other part. (part, parts.1);
    nows = λ other. refl;
  }
  among (c ∷ callers) caller others [] parts = absurd parts
  among (c ∷ callers) caller others (last ∷ lasts) parts =
      let rest = among callers caller others lasts parts.1 in
      record {
        last = rest.last;
        earlier = now c last ∷ rest.earlier;
        later = rest.later;
        part = rest.part;
        replaced = λ other part. (parts.0, rest.replaced other part);
        nows = λ other. ap (λ (ls : List (Local B)). now c last ∷ ls) (rest.nows other);
      }

  done_now : (rest : List (List (List (Event B)))) (lasts : List (Local B)) → AreDone spot_of rest → AreParts whole Holds rest lasts → all_now rest lasts ≡ lasts
  done_now [] lasts done parts = refl
  done_now (caller ∷ callers) [] done parts = absurd parts
  done_now (caller ∷ callers) (last ∷ lasts) done parts =
      ap (λ (c : List (List (Event B))). now c last ∷ all_now callers lasts) done.0 ∙ ap (λ (ls : List (Local B)). last ∷ ls) (done_now callers lasts done.1 parts.1)

  -- what a caller has yet to do is among what all have
  times_among : (here : Spot) (callers : List (List (List (Event B)))) (caller : List (List (Event B))) (others : List (List (List (Event B))))
      → times_at spot_of here (events_in spot_of caller) ≤ times_at spot_of here (all_events spot_of (callers ++ caller ∷ others))
  times_among here callers caller others =
      let a = all_joined spot_of here callers (caller ∷ others) in
      let b = times_joined spot_of here (events_in spot_of caller) (all_events spot_of others) in
      omega (arith, a, b)

  -- the permits that a caller has left made nothing so far
  unused : (heights : ℕ → ℕ) (callers : List (List (List (Event B)))) (caller : List (List (Event B))) (others : List (List (List (Event B)))) (last : Local B)
      → IsCut spot_of (many_of whole) heights (callers ++ caller ∷ others) → AreUnspent whole Holds caller last → AreUnused whole heights (now caller last)
  unused heights callers caller others last cut unspent number mark left marked there =
      let begins = front_begins (heights (suc mark.queue.0)) (whole.view.calls mark.queue.0) in
      let found = made_among mark (calls_at whole heights mark.queue.0) number there in
      let short = front_length (heights (suc mark.queue.0)) (whole.view.calls mark.queue.0) in
      let length_is = ap length found.is ∙ length-append found.later (found.made ∷ found.earlier) in
      let many = unspent number mark.queue.0 (length found.earlier) left (record {
        mark = mark;
        marked = marked;
        on_it = refl;
        later = begins.0 ++ found.later;
        made = found.made;
        earlier = found.earlier;
        is = begins.1 ∙ ap (λ (xs : List (Made B)). begins.0 ++ xs) found.is ∙ sym (append_assoc begins.0 found.later (found.made ∷ found.earlier));
        at = refl;
        makes = found.makes;
      }) in
      let none = cut.done (suc mark.queue.0, length found.earlier) (omega (arith, short, length_is)) in
      let among = times_among (suc mark.queue.0, length found.earlier) callers caller others in
      absurd (omega (arith, many, none, among))

  module _ (heights : ℕ → ℕ) (rest left : List (List (List (Event B)))) (does : Does spot_of rest left) (lasts : List (Local B))
      (cut : IsCut spot_of (many_of whole) heights rest) (parts : AreParts whole Holds rest lasts) (holds : Holds (state_at whole heights (all_now rest lasts))) where
    here : IsAmong does.callers ((does.earlier ++ does.event ∷ does.later) ∷ does.blocks) does.others lasts
    here = among does.callers ((does.earlier ++ does.event ∷ does.later) ∷ does.blocks) does.others lasts (subst (λ (r : List (List (List (Event B)))). AreParts whole Holds r lasts) does.was parts)

    cut_here : IsCut spot_of (many_of whole) heights (does.callers ++ ((does.earlier ++ does.event ∷ does.later) ∷ does.blocks) ∷ does.others)
    cut_here = subst (IsCut spot_of (many_of whole) heights) does.was cut

    next : Local B
    next = now does.blocks here.last

    -- what holds once the event is done
    record IsDone (spot : Option Spot) : Type 0 where
      all_left : AreParts whole Holds left lasts
      then : Holds (state_at whole (heights_after spot heights) (all_now left lasts))

    rest_now : all_now rest lasts ≡ here.earlier ++ before (does.earlier ++ does.event ∷ does.later) next ∷ here.later
    unfolding next
    rest_now = ap (λ (r : List (List (List (Event B)))). all_now r lasts) does.was ∙ here.nows ((does.earlier ++ does.event ∷ does.later) ∷ does.blocks)

    left_now : all_now left lasts ≡ here.earlier ++ before (does.earlier ++ does.later) next ∷ here.later
    unfolding next
    left_now = ap (λ (r : List (List (List (Event B)))). all_now r lasts) does.is ∙ here.nows ((does.earlier ++ does.later) ∷ does.blocks)

    left_parts : IsPart whole Holds ((does.earlier ++ does.later) ∷ does.blocks) here.last → AreParts whole Holds left lasts
    left_parts part = subst (λ (r : List (List (List (Event B)))). AreParts whole Holds r lasts) (sym does.is) (here.replaced ((does.earlier ++ does.later) ∷ does.blocks) part)

    moved : (local : Local B) (spot : Option Spot) → does.event ≡ Moves local spot → IsNext spot heights → IsDone spot
    unfolding next
    moved local spot is next_is = record {
      all_left = left_parts (subst (λ (b : List (Event B)). IsPart whole Holds (b ∷ does.blocks) here.last) (sym none) (tt, unspent does.blocks here.last here.part.2, here.part.2));
      then = subst (λ (ls : List (Local B)). Holds (state_at whole (heights_after spot heights) ls)) (sym (left_now ∙ ap (λ (b : List (Event B)). here.earlier ++ before b next ∷ here.later) none))
          (single.lifts here.earlier here.later heights next_is
          (subst (AreUnused whole heights) local_is (unused heights does.callers ((does.earlier ++ does.event ∷ does.later) ∷ does.blocks) does.others here.last cut_here here.part.1))
          (subst (λ (ls : List (Local B)). Holds (state_at whole heights ls)) (rest_now ∙ ap (λ (l : Local B). here.earlier ++ l ∷ here.later) local_is) holds));
    }
      where
        single : IsAlone does.earlier does.later local spot next
        single = alone does.earlier does.later local spot next (subst (λ (e : Event B). IsBlock whole Holds (does.earlier ++ e ∷ does.later) next) is here.part.0)

        none : does.earlier ++ does.later ≡ []
        none = ap (λ (b : List (Event B)). b ++ does.later) single.none_before ∙ single.none_behind

        local_is : before (does.earlier ++ does.event ∷ does.later) next ≡ local
        local_is =
            ap (λ (b : List (Event B)). before (b ++ does.event ∷ does.later) next) single.none_before
            ∙ ap (λ (e : Event B). before (e ∷ does.later) next) is

    left_unspent : AllGoBack whole Holds (does.earlier ++ does.later) → AreUnspent whole Holds ((does.earlier ++ does.later) ∷ does.blocks) here.last
    unfolding next
    left_unspent all number queue place left_there makes =
        let some = unspent does.blocks here.last here.part.2 number queue place
        (subst (λ (stock : List ℕ). Contains stock number) (stock_back (does.earlier ++ does.later) next all) left_there) makes in
        let joined = times_joined spot_of (suc queue, place) (does.earlier ++ does.later) (events_in spot_of does.blocks) in
        omega (arith, some, joined)

    returned : (lease : ReadLeaseOf) (spot : Spot) → does.event ≡ Returns lease spot → spot.1 ≡ heights spot.0 → IsDone (Some spot)
    unfolding next leases_in sends_in
    returned lease spot is next_is = record {
      all_left = left_parts (back_block (does.earlier ++ does.later) next all_without, left_unspent all_without, here.part.2);
      then = subst (λ (ls : List (Local B)). Holds (state_at whole (raised heights spot.0) ls)) (sym (left_now ∙ ap (λ (l : Local B). here.earlier ++ l ∷ here.later) (before_split does.earlier does.later next all_without)))
          (back_here does.earlier does.later lease spot all here.earlier here.later (record next { pending = sends_in does.earlier ++ (sends_in does.later ++ next.pending) })
          (leases_in does.earlier) (leases_in does.later ++ next.on) heights next_is
          (subst (λ (ls : List (Local B)). Holds (state_at whole heights ls)) (rest_now ∙ ap (λ (l : Local B). here.earlier ++ l ∷ here.later)
          (ap (λ (e : Event B). before (does.earlier ++ e ∷ does.later) next) is ∙ before_split does.earlier (Returns lease spot ∷ does.later) next all)) holds));
    }
      where
        all : AllGoBack whole Holds (does.earlier ++ Returns lease spot ∷ does.later)
        all = all_back does.earlier does.later lease spot next (subst (λ (e : Event B). IsBlock whole Holds (does.earlier ++ e ∷ does.later) next) is here.part.0)

        all_without : AllGoBack whole Holds (does.earlier ++ does.later)
        all_without = back_without does.earlier does.later lease spot all

    forwarded : (arrived : Arrival ReadLeaseOf) (spot : Spot) → does.event ≡ Forwards arrived spot → spot.1 ≡ heights spot.0 → IsDone (Some spot)
    unfolding next leases_in sends_in
    forwarded arrived spot is next_is = record {
      all_left = left_parts (back_block (does.earlier ++ does.later) next all_without, left_unspent all_without, here.part.2);
      then = subst (λ (ls : List (Local B)). Holds (state_at whole (raised heights spot.0) ls)) (sym (left_now ∙ ap (λ (l : Local B). here.earlier ++ l ∷ here.later) (before_split does.earlier does.later next all_without)))
          (forward_here does.earlier does.later arrived spot all here.earlier here.later (record next { on = leases_in does.earlier ++ (leases_in does.later ++ next.on) })
          (sends_in does.earlier) (sends_in does.later ++ next.pending) heights next_is
          (subst (λ (ls : List (Local B)). Holds (state_at whole heights ls)) (rest_now ∙ ap (λ (l : Local B). here.earlier ++ l ∷ here.later)
          (ap (λ (e : Event B). before (does.earlier ++ e ∷ does.later) next) is ∙ before_split does.earlier (Forwards arrived spot ∷ does.later) next all)) holds));
    }
      where
        all : AllGoBack whole Holds (does.earlier ++ Forwards arrived spot ∷ does.later)
        all = all_forward does.earlier does.later arrived spot next (subst (λ (e : Event B). IsBlock whole Holds (does.earlier ++ e ∷ does.later) next) is here.part.0)

        all_without : AllGoBack whole Holds (does.earlier ++ does.later)
        all_without = forward_without does.earlier does.later arrived spot all

    still : (event : Event B) → does.event ≡ event → spot_of event ≡ None → IsDone None
    still (Moves local spot) is none = subst IsDone none (moved local spot is (subst (λ (o : Option Spot). IsNext o heights) (sym none) tt))
    still (Returns lease spot) is none = absurd (none_some spot none)
    still (Forwards arrived spot) is none = absurd (none_some spot none)

    called : (event : Event B) (at : Spot) → does.event ≡ event → spot_of event ≡ Some at → at.1 ≡ heights at.0 → IsDone (Some at)
    called (Moves local spot) at is some next_is = subst IsDone some (moved local spot is (subst (λ (o : Option Spot). IsNext o heights) (sym some) next_is))
    called (Returns lease spot) at is some next_is =
        let same = same_some spot at some in
        subst (λ (s : Spot). IsDone (Some s)) same (returned lease spot is (subst (λ (s : Spot). s.1 ≡ heights s.0) (sym same) next_is))
    called (Forwards arrived spot) at is some next_is =
        let same = same_some spot at some in
        subst (λ (s : Spot). IsDone (Some s)) same (forwarded arrived spot is (subst (λ (s : Spot). s.1 ≡ heights s.0) (sym same) next_is))

  passed : (heights : ℕ → ℕ) (rest left : List (List (List (Event B)))) → Passes spot_of rest left → (lasts : List (Local B)) → AreParts whole Holds rest lasts
      → AreParts whole Holds left lasts × (all_now left lasts ≡ all_now rest lasts)
  passed heights rest left passes lasts parts =
      let here = among passes.callers ([] ∷ passes.blocks) passes.others lasts (subst (λ (r : List (List (List (Event B)))). AreParts whole Holds r lasts) passes.was parts) in (
        subst (λ (r : List (List (List (Event B)))). AreParts whole Holds r lasts) (sym passes.is) (here.replaced passes.blocks here.part.2),
        ap (λ (r : List (List (List (Event B)))). all_now r lasts) passes.is ∙ here.nows passes.blocks ∙ sym (here.nows ([] ∷ passes.blocks))
            ∙ sym (ap (λ (r : List (List (List (Event B)))). all_now r lasts) passes.was),
      )

  -- what holds before all that is yet to come holds after it
  pub carried : (heights : ℕ → ℕ) (rest : List (List (List (Event B)))) → Order spot_of (many_of whole) heights rest → (lasts : List (Local B)) → IsCut spot_of (many_of whole) heights rest
      → AreParts whole Holds rest lasts → Holds (state_at whole heights (all_now rest lasts)) → Holds (state_at whole (many_of whole) lasts)
  carried heights rest (End done all) lasts cut parts holds =
      subst (λ (hs : ℕ → ℕ). Holds (state_at whole hs lasts)) (λ i lock. all lock i) (subst (λ (ls : List (Local B)). Holds (state_at whole heights ls)) (done_now rest lasts done parts) holds)
  carried heights rest (Pass {left} passes order) lasts cut parts holds =
      let then = passed heights rest left passes lasts parts in
      carried heights left order lasts (cut_passed spot_of (many_of whole) heights rest left passes cut) then.0
      (subst (λ (ls : List (Local B)). Holds (state_at whole heights ls)) (sym then.1) holds)
  carried heights rest (Still {left} does none order) lasts cut parts holds =
      let then = still heights rest left does lasts cut parts holds does.event refl none in
      carried heights left order lasts (cut_still spot_of (many_of whole) heights rest left does none cut) then.all_left then.then
  carried heights rest (Call {left} does at is next_is order) lasts cut parts holds =
      let then = called heights rest left does lasts cut parts holds does.event at refl is next_is in
      carried (raised heights at.0) left order lasts (cut_called spot_of (many_of whole) heights rest left does at is next_is cut) then.all_left then.then

-- What was taken from an intake is put among the arrivals.
use Rattle.std.proofs.Common.{◌≡◌, ℕ, zero, suc, ◌+◌, ◌<◌, ◌≤◌, ◌==◌, true, false, List, [], ◌∷◌, ◌++◌, inl, inr, length, get_or, set, None, Some, arith, ap, ap₂, ◌∙◌, sym, refl, subst}
use Rattle.std.specs.Prelude.{Option, map, option_to_list, Contains}
use Rattle.std.specs.Vec.Iter.{into_iter_items}
use Rattle.std.specs.List.{All, AllByRecursion, list_any, position, position_or_len}
use Rattle.std.proofs.Math.Nat.{le-max_left, le-max_right}
use Rattle.std.proofs.lemmas.Bool.{cases_Bool, eqb-true, eq-eqb, false≢true}
use Rattle.std.proofs.lemmas.Bool.Decides.{nat_tests}
use Rattle.std.proofs.lemmas.List.{append-nil, append_assoc, length-append}
use Rattle.std.proofs.lemmas.List.Elements.{Contains-append_cases, Contains-append_left, Contains-append_right}
use Rattle.atomic_table.specs.Seated.{TableId}
use Rattle.sf_calls.specs.Histories.{calls_by}
use Rattle.sf_intake.specs.Posts.{Begins, Post, arrivals, newest_of, numbered}
use Rattle.sf_intake.specs.Views.{HasPopped, HasTaken, SenderView, TakerView, hearing_of}
use Rattle.sf_calls_stamped.specs.Stamps.{unstamped}
use Rattle.sf_actor.specs.sf_surface.Tokens.{ReadLeaseOf}
use Rattle.sf_intake.specs.sf_token.Arrivals.{sent}
use Rattle.sf_intake.specs.sf_token.Pending.{Arrival}
use Rattle.sf_intake.specs.sf_txn.Transactions.{Contents}
use Rattle.sf_actor.specs.Known.{is_sent_by}
use Rattle.sf_live_seats.specs.declared.clock.Clock.{Clock}
use Rattle.sf_live_seats.specs.declared.inbox.Courier.{Courier}
use Rattle.sf_live_seats.specs.declared.inbox.Inbox.{Inbox}
use Rattle.sf_live_seats.specs.Arriving.{ArrivalsPass}
use Rattle.sf_live_seats.specs.Calls.{IsMade, SentOne}
use Rattle.sf_live_seats.specs.Inboxes.{AreCouriers, Carries, GaveMore, HasAll, HasPasses, Hears, IsAbleTo, IsBehind, IsBelow, IsCourier, IsInbox, IsLater, IsOneOf, IsSameInbox, is_courier, left_of, number_of, sent_by}
use Rattle.sf_live_seats.specs.Sent.{sent_in, takes_in}
use Rattle.sf_live_seats.proofs.CallOrder.{contains_cons}
use Rattle.sf_live_seats.proofs.QueuePass.{no_place, place_is}

pub has_here : {X : Type 0} (x : X) (xs : List X) → Contains (x ∷ xs) x
has_here x xs = (0, omega arith, refl)

pub has_later : {X : Type 0} (x : X) (xs : List X) (y : X) → Contains xs y → Contains (x ∷ xs) y
has_later x xs y there = Contains-append_right (x ∷ []) xs y there

pub has_none : {X : Type 0} (x : X) → Contains [] x → ⊥
has_none x there = (let low = there.1 in omega (arith, low))

-- a transaction as its sender is told of it
abbrev pub untold : ℕ → ℕ → Contents ReadLeaseOf → Arrival ReadLeaseOf
untold by step txn = record { number = 0; actor = record { 0 = by }; step = step; txn = txn }

pub sent_by_append : (by : ℕ) (xs ys : List (Arrival ReadLeaseOf)) → sent_by by (xs ++ ys) ≡ sent_by by xs ++ sent_by by ys
sent_by_append by [] ys = refl
sent_by_append by (a ∷ xs) ys = elim (cases_Bool (a.actor.0 == by)) [
  | inl met ↦ rw met (ap (λ (list : List (Arrival ReadLeaseOf)). record a { number = 0 } ∷ list) (sent_by_append by xs ys))
  | inr unmet ↦ rw unmet (sent_by_append by xs ys)
]

sent_by_none : (by : ℕ) (list : List (Arrival ReadLeaseOf)) → list_any (is_sent_by by) list ≡ false → sent_by by list ≡ []
sent_by_none by [] none = refl
sent_by_none by (a ∷ list) none = elim (cases_Bool (a.actor.0 == by)) [
  | inl met ↦ (let some : true ≡ false = rw met at none in absurd (false≢true (sym some)))
  | inr unmet ↦ rw unmet (sent_by_none by list (rw unmet at none))
]

pub sent_by_own : (by : ℕ) (a : Arrival ReadLeaseOf) → a.actor.0 ≡ by → sent_by by (a ∷ []) ≡ untold by a.step a.txn ∷ []
sent_by_own by a is = rw (eq-eqb a.actor.0 by is) (ap (λ (b : ℕ). untold b a.step a.txn ∷ []) is)

pub sent_by_other : (by : ℕ) (a : Arrival ReadLeaseOf) → (a.actor.0 ≡ by → ⊥) → sent_by by (a ∷ []) ≡ []
sent_by_other by a other = elim (cases_Bool (a.actor.0 == by)) [
  | inl met ↦ absurd (other (eqb-true a.actor.0 by met))
  | inr unmet ↦ rw unmet refl
]

-- what holds of all of a list holds of each
all_at : {X : Type 0} (P : X → Type 0) (xs : List X) (x : X) → All P xs → Contains xs x → P x
all_at P xs x all there = subst P there.2 (all there.0 x there.1)

-- a pass that sent one sent what it had, and that
pub sent_one_more : (old new : ArrivalsPass) (step : ℕ) (txn : Contents ReadLeaseOf) (number : ℕ) → SentOne old new step txn number
    → sent_by old.by (sent (unstamped new.seen)) ≡ sent_by old.by (sent (unstamped old.seen)) ++ untold old.by step txn ∷ []
sent_one_more old new step txn number one =
    let before : sent_by old.by one.earlier ≡ sent_by old.by (sent (unstamped old.seen)) =
    ap (sent_by old.by) one.goes_on.joined ∙ sent_by_append old.by (sent (unstamped old.seen)) one.goes_on.later
    ∙ (ap (λ (list : List (Arrival ReadLeaseOf)). sent_by old.by (sent (unstamped old.seen)) ++ list) (sent_by_none old.by one.goes_on.later one.goes_on.none) ∙ append-nil _) in
    let last : Arrival ReadLeaseOf = record { number = length one.earlier + 1; actor = record { 0 = old.by }; step = step; txn = txn } in
    ap (sent_by old.by) one.last ∙ sent_by_append old.by one.earlier (last ∷ []) ∙ ap₂ (λ (xs ys : List (Arrival ReadLeaseOf)). xs ++ ys) before (sent_by_own old.by last refl)

-- no post has a stamp beyond the newest
pub within_newest : (posts : List (Post ReadLeaseOf)) (post : Post ReadLeaseOf) → Contains posts post → post.stamp ≤ newest_of posts
within_newest [] post there = absurd (has_none post there)
within_newest (p ∷ posts) post there = elim (contains_cons p posts post there) [
  | inl same ↦ (let a = ap (λ (q : Post ReadLeaseOf). q.stamp) same in let b = le-max_left p.stamp (newest_of posts) in omega (arith, a, b))
  | inr later ↦ (let a = within_newest posts post later in let b = le-max_right p.stamp (newest_of posts) in omega (arith, a, b))
]

module _ {B : Type 0} where
  -- a courier that is put in the place of one of the same number
  same_numbers : (couriers : List (Courier B)) (place : ℕ) (old new : Courier B) → new.by ≡ (get_or couriers place old).by → map number_of (set couriers place new) ≡ map number_of couriers
  same_numbers [] place old new same = refl
  same_numbers (c ∷ couriers) zero old new same = ap (λ (n : ℕ). n ∷ map number_of couriers) same
  same_numbers (c ∷ couriers) (suc place) old new same = ap (λ (ns : List ℕ). c.by ∷ ns) (same_numbers couriers place old new same)

  -- the courier of a number that is there has a place
  has_place : (couriers : List (Courier B)) (by : ℕ) → Contains (map number_of couriers) by → position_or_len (is_courier by) couriers < length couriers
  has_place [] by there = absurd (has_none by there)
  has_place (c ∷ couriers) by there = elim (cases_Bool (is_courier by c)) [
    | inl met ↦ rw met (omega arith)
    | inr unmet ↦ (elim (contains_cons c.by (map number_of couriers) by there) [
      | inl same ↦ absurd (false≢true (sym unmet ∙ eq-eqb c.by by (sym same)))
      | inr later ↦ rw unmet (let low = has_place couriers by later in omega (arith, low))
    ])
  ]

module _ {B : Type 0} (table : TableId) (taken : List (Post ReadLeaseOf)) (forwarded : List (Arrival ReadLeaseOf)) (a : Arrival ReadLeaseOf) where
  -- one more of another sender was forwarded
  other_forwarded : (courier : Courier B) → (a.actor.0 ≡ courier.by → ⊥) → IsCourier table taken forwarded courier → IsCourier table taken (forwarded ++ a ∷ []) courier
  other_forwarded courier other is = record {
    able = is.able;
    takes = is.takes;
    sends = is.sends ∙ sym (sent_by_append courier.by forwarded (a ∷ []) ∙ ap (λ (list : List (Arrival ReadLeaseOf)). sent_by courier.by forwarded ++ list) (sent_by_other courier.by a other) ∙ append-nil _);
    behind = is.behind;
  }

  others_forwarded : (couriers : List (Courier B)) → (Contains (map number_of couriers) a.actor.0 → ⊥) → AreCouriers table taken forwarded couriers → AreCouriers table taken (forwarded ++ a ∷ []) couriers
  others_forwarded [] none are = tt
  others_forwarded (c ∷ couriers) none are = (
    other_forwarded c (λ same. none (subst (λ (n : ℕ). Contains (c.by ∷ map number_of couriers) n) (sym same) (has_here c.by (map number_of couriers)))) are.0,
    are.1,
    others_forwarded couriers (λ there. none (has_later c.by (map number_of couriers) a.actor.0 there)) are.2,
  )

  -- one more was forwarded through this courier
  own_forwarded : (old new : Courier B) (stamp given : ℕ) → old.by ≡ a.actor.0 → IsCourier table taken forwarded old → Carries old new stamp given a.step a.txn → IsOneOf taken a → newest_of taken ≤ stamp
      → IsCourier table taken (forwarded ++ a ∷ []) new
  own_forwarded old new stamp given by is carries one newest = record {
    able = record {
      own = ap (λ (p : ArrivalsPass). p.table) carries.same ∙ is.able.own;
      marked = ap (λ (p : ArrivalsPass). p.mark) carries.same ∙ is.able.marked;
      number = ap (λ (p : ArrivalsPass). p.by) carries.same ∙ is.able.number ∙ sym carries.by;
    };
    takes = subst (λ (n : ℕ). takes_in (calls_by n new.pass.seen) ≡ []) (sym carries.by) (carries.takes ∙ is.takes);
    sends = subst (λ (n : ℕ). sent_by n (sent (unstamped new.pass.seen)) ≡ sent_by n (forwarded ++ a ∷ [])) (sym carries.by)
        (carries.sends
        ∙ ap₂ (λ (xs ys : List (Arrival ReadLeaseOf)). xs ++ ys) is.sends (sym (sent_by_own old.by a (sym by)))
        ∙ sym (sent_by_append old.by forwarded (a ∷ [])));
    behind = subst (λ (n : ℕ). (m : ℕ × ℕ) → Contains (sent_in (calls_by n new.pass.seen)) m → IsBehind taken n m) (sym carries.by) now_behind;
  }
    where
      now_behind : (m : ℕ × ℕ) → Contains (sent_in (calls_by old.by new.pass.seen)) m → IsBehind taken old.by m
      now_behind m there = elim (contains_cons (a.step, given) (sent_in (calls_by old.by old.pass.seen)) m (subst (λ (ms : List (ℕ × ℕ)). Contains ms m) carries.moments there)) [
        | inl same ↦ subst (λ (n : ℕ × ℕ). IsBehind taken old.by n) (sym same) (record {
          post = one.post;
          there = one.there;
          theirs = sym (by ∙ ap (λ (x : Arrival ReadLeaseOf). x.actor.0) one.is);
          step = sym (ap (λ (x : Arrival ReadLeaseOf). x.step) one.is);
          above = (let up = within_newest taken one.post one.there in let rose = carries.above in omega (arith, up, rose, newest));
        })
        | inr before ↦ is.behind m before
      ]

  forwarded_at : (couriers : List (Courier B)) (place : ℕ) (old new : Courier B) (stamp given : ℕ) → position_or_len (is_courier a.actor.0) couriers ≡ place → place < length couriers
      → AreCouriers table taken forwarded couriers → Carries (get_or couriers place old) new stamp given a.step a.txn → IsOneOf taken a → newest_of taken ≤ stamp
      → AreCouriers table taken (forwarded ++ a ∷ []) (set couriers place new)
  forwarded_at [] place old new stamp given e low are carries one newest = absurd (omega (arith, low))
  forwarded_at (c ∷ couriers) zero old new stamp given e low are carries one newest = elim (cases_Bool (is_courier a.actor.0 c)) [
    | inl met ↦ (let is = eqb-true c.by a.actor.0 met in (
      own_forwarded c new stamp given is are.0 carries one newest,
      subst (λ (n : ℕ). Contains (map number_of couriers) n → ⊥) (sym carries.by) are.1,
      others_forwarded couriers (subst (λ (n : ℕ). Contains (map number_of couriers) n → ⊥) is are.1) are.2,
    ))
    | inr unmet ↦ (let f = rw unmet at e in absurd (omega (arith, f)))
  ]
  forwarded_at (c ∷ couriers) (suc place) old new stamp given e low are carries one newest = elim (cases_Bool (is_courier a.actor.0 c)) [
    | inl met ↦ (let f = rw met at e in absurd (omega (arith, f)))
    | inr unmet ↦ (let f = rw unmet at e in (
      other_forwarded c (λ same. false≢true (sym unmet ∙ eq-eqb c.by a.actor.0 (sym same))) are.0,
      subst (λ (ns : List ℕ). Contains ns c.by → ⊥) (sym (same_numbers couriers place old new carries.by)) are.1,
      forwarded_at couriers place old new stamp given (omega (arith, f)) (omega (arith, low)) are.2 carries one newest,
    ))
  ]

one_more : (old new : List (Post ReadLeaseOf)) (a : Arrival ReadLeaseOf) → Begins old new → IsOneOf old a → IsOneOf new a
one_more old new a begins one =
    record { post = one.post; there = subst (λ (posts : List (Post ReadLeaseOf)). Contains posts one.post) (sym begins.1) (Contains-append_left old begins.0 one.post one.there); is = one.is }

-- each of what is numbered is one of the posts
pub numbered_of : (n : ℕ) (posts : List (Post ReadLeaseOf)) (a : Arrival ReadLeaseOf) → Contains (arrivals n posts) a → IsOneOf posts a
numbered_of n [] a there = absurd (has_none a there)
numbered_of n (p ∷ posts) a there = elim (contains_cons (numbered n p) (arrivals (n + 1) posts) a there) [
  | inl same ↦ record { post = p; there = has_here p posts; is = same ∙ ap (λ (k : ℕ). numbered k p) (sym (ap (λ (x : Arrival ReadLeaseOf). x.number) same)) }
  | inr later ↦ (let rest = numbered_of (n + 1) posts a later in record { post = rest.post; there = has_later p posts rest.post rest.there; is = rest.is })
]

module _ {B : Type 0} where
  pub able_at : (table : TableId) (taken : List (Post ReadLeaseOf)) (forwarded : List (Arrival ReadLeaseOf)) (couriers : List (Courier B)) (place : ℕ) (d : Courier B) → AreCouriers table taken forwarded couriers → place < length couriers
      → IsCourier table taken forwarded (get_or couriers place d)
  able_at table taken forwarded [] place d are low = absurd (omega (arith, low))
  able_at table taken forwarded (c ∷ couriers) zero d are low = are.0
  able_at table taken forwarded (c ∷ couriers) (suc place) d are low = able_at table taken forwarded couriers place d are.2 (omega (arith, low))

  pub courier_low : (couriers : List (Courier B)) (by place : ℕ) → position (is_courier by) couriers ≡ Some place → place < length couriers
  courier_low couriers by place is = (place_is (is_courier by) couriers place is).1

  pub courier_able : (table : TableId) (inbox : Inbox B) (place : ℕ) (d : Courier B) → IsInbox table inbox → place < length inbox.couriers.items → IsAbleTo table (get_or inbox.couriers.items place d)
  courier_able table inbox place d own low = (able_at table inbox.taker.taken own.forwarded inbox.couriers.items place d own.couriers low).able

  -- the oldest of what was left was forwarded
  pub forwards : (table : TableId) (old new : Inbox B) (oldest : Arrival ReadLeaseOf) (place : ℕ) (one next : Courier B) (stamp given : ℕ) → IsInbox table old → position (is_courier oldest.actor.0) old.couriers.items ≡ Some place
      → one ≡ get_or old.couriers.items place one → left_of old ≡ oldest ∷ left_of new → new.taker ≡ old.taker → new.senders ≡ old.senders → new.couriers.items ≡ set old.couriers.items place next
      → Carries one next stamp given oldest.step oldest.txn → newest_of old.taker.taken ≤ stamp → IsInbox table new
  forwards table old new oldest place one next stamp given own first there left taker senders couriers carries newest =
      let at = place_is (is_courier oldest.actor.0) old.couriers.items place first in
      let cut : (own.forwarded ++ oldest ∷ []) ++ left_of new ≡ old.taker.given = append_assoc own.forwarded (oldest ∷ []) (left_of new) ∙ ap (λ (list : List (Arrival ReadLeaseOf)). own.forwarded ++ list) (sym left) ∙ own.whole in
      let in_given : Contains old.taker.given oldest = subst (λ (list : List (Arrival ReadLeaseOf)). Contains list oldest) (ap (λ (list : List (Arrival ReadLeaseOf)). own.forwarded ++ list) (sym left) ∙ own.whole)
      (Contains-append_right own.forwarded (oldest ∷ left_of new) oldest (has_here oldest (left_of new))) in
      let carries_there = subst (λ (c : Courier B). Carries c next stamp given oldest.step oldest.txn) there carries in
      let kept = same_numbers old.couriers.items place one next carries_there.by in
      subst (λ (t : TakerView ReadLeaseOf). IsInbox table (record { taker = t; senders = new.senders; couriers = new.couriers; held = new.held; rest = new.rest })) (sym taker) (record {
        forwarded = own.forwarded ++ oldest ∷ [];
        whole = cut;
        each = own.each;
        theirs = own.theirs;
        couriers = subst (λ (cs : List (Courier B)). AreCouriers table old.taker.taken (own.forwarded ++ oldest ∷ []) cs) (sym couriers)
            (forwarded_at table old.taker.taken own.forwarded oldest old.couriers.items place one next stamp given at.0 at.1 own.couriers carries_there (own.each oldest in_given) newest);
        made = λ by there. own.made by (subst (λ (ns : List ℕ). Contains ns by) (ap (map number_of) couriers ∙ kept) there);
        count = senders ∙ own.count;
      })

  -- what is left was sent by one whose courier is here
  pub left_courier : (table : TableId) (inbox : Inbox B) (oldest : Arrival ReadLeaseOf) (more : List (Arrival ReadLeaseOf)) → IsInbox table inbox → ((by : ℕ) → Contains inbox.taker.made by → Contains (map number_of inbox.couriers.items) by) → left_of inbox ≡ oldest ∷ more
      → position (is_courier oldest.actor.0) inbox.couriers.items ≡ None → ⊥
  left_courier table inbox oldest more own all left none =
      let given : Contains inbox.taker.given oldest = subst (λ (list : List (Arrival ReadLeaseOf)). Contains list oldest) (ap (λ (list : List (Arrival ReadLeaseOf)). own.forwarded ++ list) (sym left) ∙ own.whole)
      (Contains-append_right own.forwarded (oldest ∷ more) oldest (has_here oldest more)) in
      let low = has_place inbox.couriers.items oldest.actor.0 (all oldest.actor.0 (own.theirs oldest given)) in
      let high = no_place (is_courier oldest.actor.0) inbox.couriers.items none in
      omega (arith, low, high)

  -- stamps below a number are below a greater one
  pub below_more : (bound more : ℕ) (couriers : List (Courier B)) → bound ≤ more → AllByRecursion (IsBelow bound) couriers → AllByRecursion (IsBelow more) couriers
  below_more bound more [] up below = tt
  below_more bound more (c ∷ couriers) up below = ((λ m there. let a = below.0 m there in omega (arith, a, up)), below_more bound more couriers up below.1)

  below_set : (bound more : ℕ) (couriers : List (Courier B)) (place : ℕ) (old new : Courier B) → bound ≤ more → (IsBelow bound (get_or couriers place old) → IsBelow more new)
      → AllByRecursion (IsBelow bound) couriers → AllByRecursion (IsBelow more) (set couriers place new)
  below_set bound more [] place old new up put below = tt
  below_set bound more (c ∷ couriers) zero old new up put below = (put below.0, below_more bound more couriers up below.1)
  below_set bound more (c ∷ couriers) (suc place) old new up put below = ((λ m there. let a = below.0 m there in omega (arith, a, up)), below_set bound more couriers place old new up put below.1)

  pub passes_later : (bound more : ℕ) (made : List ℕ) (couriers : List (Courier B)) → bound ≤ more → HasPasses bound made couriers → HasPasses more made couriers
  passes_later bound more made couriers up has = record { there = has.there; below = below_more bound more couriers up has.below }

  -- where the same senders were made, and the same couriers are here
  pub same_passes : (bound : ℕ) (made after : List ℕ) (couriers now : List (Courier B)) → HasPasses bound made couriers → after ≡ made → now ≡ couriers → HasPasses bound after now
  same_passes bound made after couriers now has made_same same = subst (λ (ns : List ℕ). HasPasses bound ns now) (sym made_same) (subst (λ (cs : List (Courier B)). HasPasses bound made cs) (sym same) has)

  -- after a courier carried, or was refused
  pub put_courier : (bound more : ℕ) (made : List ℕ) (couriers : List (Courier B)) (place : ℕ) (one next : Courier B) → HasPasses bound made couriers → one ≡ get_or couriers place one → next.by ≡ one.by → bound ≤ more
      → (IsBelow bound one → IsBelow more next) → HasPasses more made (set couriers place next)
  put_courier bound more made couriers place one next has there by up put = record {
    there = λ n made_there. subst (λ (ns : List ℕ). Contains ns n) (sym (same_numbers couriers place one next (by ∙ ap number_of there))) (has.there n made_there);
    below = below_set bound more couriers place one next up (subst (λ (c : Courier B). IsBelow bound c → IsBelow more next) there put) has.below;
  }

  -- what a courier carried has the stamp that was given, above those before
  pub carries_below : (bound : ℕ) (old new : Courier B) (stamp given step : ℕ) (txn : Contents ReadLeaseOf) → Carries old new stamp given step txn → bound ≤ stamp + 1 → IsBelow bound old → IsBelow (given + 1) new
  carries_below bound old new stamp given step txn carries up below = λ m there.
      elim (contains_cons (step, given) (sent_in (calls_by old.by old.pass.seen)) m
      (subst (λ (ms : List (ℕ × ℕ)). Contains ms m) carries.moments (subst (λ (n : ℕ). Contains (sent_in (calls_by n new.pass.seen)) m) carries.by there))) [
        | inl same ↦ (let a = ap (λ (n : ℕ × ℕ). n.1) same in omega (arith, a))
        | inr before ↦ (let a = below m before in let b = carries.above in omega (arith, a, b, up))
      ]

  -- a refusal, and nothing, leaves the inbox as it was
  pub stays_inbox : (table : TableId) (old new : Inbox B) → IsInbox table old → left_of new ≡ left_of old → new.taker ≡ old.taker → new.senders ≡ old.senders → new.couriers.items ≡ old.couriers.items → IsInbox table new
  stays_inbox table old new own left taker senders couriers =
      subst (λ (t : TakerView ReadLeaseOf). IsInbox table (record { taker = t; senders = new.senders; couriers = new.couriers; held = new.held; rest = new.rest })) (sym taker) (record {
        forwarded = own.forwarded;
        whole = ap (λ (list : List (Arrival ReadLeaseOf)). own.forwarded ++ list) left ∙ own.whole;
        each = own.each;
        theirs = own.theirs;
        couriers = subst (λ (cs : List (Courier B)). AreCouriers table old.taker.taken own.forwarded cs) (sym couriers) own.couriers;
        made = λ by there. own.made by (subst (λ (cs : List (Courier B)). Contains (map number_of cs) by) couriers there);
        count = senders ∙ own.count;
      })

  -- more was taken, and stands behind what is left
  courier_more : (table : TableId) (old new : List (Post ReadLeaseOf)) (forwarded : List (Arrival ReadLeaseOf)) (courier : Courier B) → Begins old new → IsCourier table old forwarded courier → IsCourier table new forwarded courier
  courier_more table old new forwarded courier begins is = record {
    able = is.able;
    takes = is.takes;
    sends = is.sends;
    behind = λ m there. let b = is.behind m there in
        record { post = b.post; there = subst (λ (posts : List (Post ReadLeaseOf)). Contains posts b.post) (sym begins.1) (Contains-append_left old begins.0 b.post b.there); theirs = b.theirs; step = b.step; above = b.above };
  }

  couriers_more : (table : TableId) (old new : List (Post ReadLeaseOf)) (forwarded : List (Arrival ReadLeaseOf)) (couriers : List (Courier B)) → Begins old new → AreCouriers table old forwarded couriers → AreCouriers table new forwarded couriers
  couriers_more table old new forwarded [] begins are = tt
  couriers_more table old new forwarded (c ∷ couriers) begins are = (courier_more table old new forwarded c begins are.0, are.1, couriers_more table old new forwarded couriers begins are.2)

  -- a take that was refused
  pub popped_inbox : (table : TableId) (old new : Inbox B) → IsInbox table old → HasPopped old.taker new.taker → left_of new ≡ left_of old → new.senders ≡ old.senders → new.couriers.items ≡ old.couriers.items → IsInbox table new
  popped_inbox table old new own popped left senders couriers = record {
    forwarded = own.forwarded;
    whole = ap (λ (list : List (Arrival ReadLeaseOf)). own.forwarded ++ list) left ∙ own.whole ∙ sym popped.same.given;
    each = λ a there. one_more old.taker.taken new.taker.taken a popped.taken (own.each a (subst (λ (list : List (Arrival ReadLeaseOf)). Contains list a) popped.same.given there));
    theirs = λ a there. subst (λ (ns : List ℕ). Contains ns a.actor.0) (sym popped.same.made) (own.theirs a (subst (λ (list : List (Arrival ReadLeaseOf)). Contains list a) popped.same.given there));
    couriers = subst (λ (cs : List (Courier B)). AreCouriers table new.taker.taken own.forwarded cs) (sym couriers) (couriers_more table old.taker.taken new.taker.taken own.forwarded old.couriers.items popped.taken own.couriers);
    made = λ by there. subst (λ (ns : List ℕ). Contains ns by) (sym popped.same.made) (own.made by (subst (λ (cs : List (Courier B)). Contains (map number_of cs) by) couriers there));
    count = senders ∙ own.count ∙ ap (λ (ns : List ℕ). length ns) (sym popped.same.made);
  }

  -- a take that gave a list, which is left then
  pub taken_inbox : (table : TableId) (holds : ReadLeaseOf → Type 0) (old new : Inbox B) (list : List (Arrival ReadLeaseOf)) → IsInbox table old → left_of old ≡ [] → HasTaken holds old.taker new.taker list → left_of new ≡ list
      → new.senders ≡ old.senders → new.couriers.items ≡ old.couriers.items → IsInbox table new
  taken_inbox table holds old new list own none taken left senders couriers =
      let all : own.forwarded ≡ old.taker.given = sym (append-nil own.forwarded) ∙ ap (λ (xs : List (Arrival ReadLeaseOf)). own.forwarded ++ xs) (sym none) ∙ own.whole in
      record {
        forwarded = own.forwarded;
        whole = ap₂ (λ (xs ys : List (Arrival ReadLeaseOf)). xs ++ ys) all left ∙ sym taken.given;
        each = λ a there. numbered_of 1 new.taker.taken a (subst (λ (xs : List (Arrival ReadLeaseOf)). Contains xs a) taken.whole (Contains-append_left new.taker.given new.taker.waiting a there));
        theirs = λ a there. subst (λ (ns : List ℕ). Contains ns a.actor.0) (sym taken.made)
            (elim (Contains-append_cases old.taker.given list a (subst (λ (xs : List (Arrival ReadLeaseOf)). Contains xs a) taken.given there)) [
              | inl before ↦ own.theirs a before
              | inr now ↦ all_at (λ (x : Arrival ReadLeaseOf). Contains old.taker.made x.actor.0) list a taken.each.theirs now
            ]);
        couriers = subst (λ (cs : List (Courier B)). AreCouriers table new.taker.taken own.forwarded cs) (sym couriers) (couriers_more table old.taker.taken new.taker.taken own.forwarded old.couriers.items taken.taken own.couriers);
        made = λ by there. subst (λ (ns : List ℕ). Contains ns by) (sym taken.made) (own.made by (subst (λ (cs : List (Courier B)). Contains (map number_of cs) by) couriers there));
        count = senders ∙ own.count ∙ ap (λ (ns : List ℕ). length ns) (sym taken.made);
      }

  -- a courier's pass sent one
  pub carried : (old : Courier B) (pass : ArrivalsPass) (stamp step number : ℕ) (txn : Contents ReadLeaseOf) (after : Clock) → old.pass.by ≡ old.by → pass ≡ record old.pass { seen = pass.seen; turns = pass.turns } → SentOne old.pass pass step txn number → after.step ≡ step
      → IsMade (record { step = step; stamp = stamp }) after (sent_in (calls_by old.pass.by old.pass.seen)) (sent_in (calls_by old.pass.by pass.seen)) → takes_in (calls_by old.pass.by pass.seen) ≡ takes_in (calls_by old.pass.by old.pass.seen)
      → Carries old (record { by = old.by; pass = pass }) stamp after.stamp step txn
  carried old pass stamp step number txn after of_by same one at made takes = record {
    by = refl;
    same = same;
    sends = subst (λ (n : ℕ). sent_by n (sent (unstamped pass.seen)) ≡ sent_by n (sent (unstamped old.pass.seen)) ++ untold n step txn ∷ []) of_by (sent_one_more old.pass pass step txn number one);
    moments = subst (λ (n : ℕ). sent_in (calls_by n pass.seen) ≡ (step, after.stamp) ∷ sent_in (calls_by n old.pass.seen)) of_by
        (made.moments ∙ ap (λ (s : ℕ). (s, after.stamp) ∷ sent_in (calls_by old.pass.by old.pass.seen)) at);
    takes = subst (λ (n : ℕ). takes_in (calls_by n pass.seen) ≡ takes_in (calls_by n old.pass.seen)) of_by takes;
    above = made.stamp;
  }

-- what is left, after the oldest of it was looked for
pub left_gone : {X : Type 0} (held held' result : Option X) (items items' : List X) → option_to_list held ++ items ≡ option_to_list result ++ items' → held' ≡ None → result ≡ None → option_to_list held' ++ items' ≡ option_to_list held ++ items
left_gone held held' result items items' e h r = ap (λ o. option_to_list o ++ items') h ∙ sym (e ∙ ap (λ o. option_to_list o ++ items') r)

pub left_one : {X : Type 0} (held held' result : Option X) (items items' : List X) (x : X) → option_to_list held ++ items ≡ option_to_list result ++ items' → held' ≡ None → result ≡ Some x → option_to_list held ++ items ≡ x ∷ (option_to_list held' ++ items')
left_one held held' result items items' x e h r = e ∙ ap (λ o. option_to_list o ++ items') r ∙ sym (ap (λ o. x ∷ (option_to_list o ++ items')) h)

pub later_on : (a b c : Clock) → IsLater a b → IsLater b c → IsLater a c
later_on a b c one two = record { step = two.step ∙ one.step; stamp = (let x = one.stamp in let y = two.stamp in omega (arith, x, y)) }

pub later_none : (a : Clock) → IsLater a a
later_none a = record { step = refl; stamp = omega arith }

-- what comes next where nothing was left
pub left_new : {X : Type 0} (held : Option X) (items list : List X) → option_to_list held ++ items ≡ [] → option_to_list held ++ list ≡ list
left_new None items list none = refl
left_new (Some x) items list none = absurd (let long = ap (λ xs. length xs) none in omega (arith, long))

-- a short list is all that was taken
pub has_all : (holds : ReadLeaseOf → Type 0) (old new : TakerView ReadLeaseOf) (list : List (Arrival ReadLeaseOf)) → HasTaken holds old new list → length list < 4096 → new.waiting ≡ [] → HasAll new
has_all holds old new list taken short none = record {
  given = sym (append-nil new.given) ∙ ap (λ (xs : List (Arrival ReadLeaseOf)). new.given ++ xs) (sym none) ∙ taken.whole;
  heard = (taken.dry short).heard;
}

-- a list that is not short is as long as one can be
pub gave_more : (holds : ReadLeaseOf → Type 0) (old new : TakerView ReadLeaseOf) (list : List (Arrival ReadLeaseOf)) → HasTaken holds old new list → (length list < 4096 → new.waiting ≡ []) → GaveMore old new
gave_more holds old new list taken short = elim (cases_Bool (length list == 4096)) [
  | inl met ↦ inr (let full = eqb-true (length list) 4096 met in let long = ap (λ (xs : List (Arrival ReadLeaseOf)). length xs) taken.given ∙ length-append old.given list in omega (arith, full, long))
  | inr unmet ↦ inl (
      let few = taken.few in
      let low : length list < 4096 = grind (arith, nat_tests, few, unmet) in
      record { counted = (taken.dry low).counted; all = has_all holds old new list taken low (short low) })
]

module _ {B : Type 0} where
  pub same_inbox : (old new : Inbox B) → new.taker ≡ old.taker → IsSameInbox old new
  same_inbox old new is = record { intake = ap (λ t. t.intake) is; made = ap (λ t. t.made) is; heard = ap (λ t. t.heard) is }

  pub same_on : (a b c : Inbox B) → IsSameInbox a b → IsSameInbox b c → IsSameInbox a c
  same_on a b c one two = record { intake = two.intake ∙ one.intake; made = two.made ∙ one.made; heard = two.heard ∙ one.heard }

  pub same_popped : (old new : Inbox B) → HasPopped old.taker new.taker → IsSameInbox old new
  same_popped old new popped = record { intake = popped.same.intake; made = popped.same.made; heard = popped.heard }

  pub same_taken : (holds : ReadLeaseOf → Type 0) (old new : Inbox B) (list : List (Arrival ReadLeaseOf)) → HasTaken holds old.taker new.taker list → IsSameInbox old new
  same_taken holds old new list taken = record { intake = taken.intake; made = taken.made; heard = taken.heard }

  -- the taker heard one sender more
  pub hears_one : (old : Inbox B) (taker : TakerView ReadLeaseOf) (s : SenderView ReadLeaseOf) → taker ≡ hearing_of s old.taker → Hears old (record { taker = taker; senders = old.senders; couriers = old.couriers; held = old.held; rest = old.rest })
  hears_one old taker s is = record {
    taker = is ∙ ap (λ h. record old.taker { heard = h }) (sym (ap (λ t. t.heard) is));
    heard = λ p there. subst (λ t. Contains t.heard p) (sym is) (has_later (s.by.0, s.sent) old.taker.heard p there);
    senders = refl;
    couriers = refl;
    held = refl;
    rest = refl;
  }

  pub hears_none : (old : Inbox B) → Hears old old
  hears_none old = record { taker = refl; heard = λ p there. there; senders = refl; couriers = refl; held = refl; rest = refl }

  pub hears_on : (a b c : Inbox B) → Hears a b → Hears b c → Hears a c
  hears_on a b c one two = record {
    taker = two.taker ∙ ap (λ (t : TakerView ReadLeaseOf). record t { heard = c.taker.heard }) one.taker;
    heard = λ p there. two.heard p (one.heard p there);
    senders = two.senders ∙ one.senders;
    couriers = two.couriers ∙ one.couriers;
    held = two.held ∙ one.held;
    rest = two.rest ∙ one.rest;
  }

  pub hears_inbox : (table : TableId) (old new : Inbox B) → IsInbox table old → Hears old new → IsInbox table new
  hears_inbox table old new own hears =
      subst (λ t. IsInbox table (record { taker = t; senders = new.senders; couriers = new.couriers; held = new.held; rest = new.rest })) (sym hears.taker) (record {
        forwarded = own.forwarded;
        whole = ap₂ (λ held rest. own.forwarded ++ (option_to_list held ++ into_iter_items rest)) hears.held hears.rest ∙ own.whole;
        each = own.each;
        theirs = own.theirs;
        couriers = subst (λ cs. AreCouriers table old.taker.taken own.forwarded cs.items) (sym hears.couriers) own.couriers;
        made = λ by there. own.made by (subst (λ cs. Contains (map number_of cs.items) by) hears.couriers there);
        count = hears.senders ∙ own.count;
      })

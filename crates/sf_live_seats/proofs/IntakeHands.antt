-- What callers have at an intake.
use Rattle.std.proofs.Common.{◌≡◌, ℕ, ◌+◌, ◌≤◌, ◌==◌, false, true, List, [], ◌∷◌, ◌++◌, inl, inr, length, None, Some, arith, ap, ap₂, ◌∙◌, sym, refl, subst}
use Rattle.std.specs.Prelude.{Bool, Option, is_none, map, Contains}
use Rattle.std.specs.List.{AllByRecursion}
use Rattle.std.proofs.lemmas.Bool.{cases_Bool, eqb-true, false≢true}
use Rattle.std.proofs.lemmas.List.{length-append, map-append}
use Rattle.std.proofs.lemmas.List.Elements.{Contains-append_cases, Contains-append_left, Contains-append_right}
use Rattle.atomic_table.specs.Seated.{TableId}
use Rattle.sf_calls.specs.Histories.{calls_by}
use Rattle.sf_intake.specs.Posts.{Post, arrivals}
use Rattle.sf_intake.specs.Views.{first_taker}
use Rattle.sf_calls_stamped.specs.Stamps.{unstamped}
use Rattle.sf_actor.specs.sf_surface.Tokens.{ReadLeaseOf}
use Rattle.sf_intake.specs.sf_token.Arrivals.{sent}
use Rattle.sf_intake.specs.sf_token.Pending.{Arrival}
use Rattle.sf_live_seats.specs.declared.at_intake.AtIntake.{AtIntake}
use Rattle.sf_live_seats.specs.declared.at_intake.AtIntake.TheVariants as at
use Rattle.sf_live_seats.specs.declared.clock.Clock.{Clock}
use Rattle.sf_live_seats.specs.declared.inbox.Courier.{Courier}
use Rattle.sf_live_seats.specs.declared.inbox.Inbox.{Inbox}
use Rattle.sf_live_seats.specs.declared.locks.Locks.{Locks}
use Rattle.sf_live_seats.specs.declared.seats.Seats.{Seats}
use Rattle.sf_live_seats.specs.Arriving.{ArrivalEntry, ArrivalsPass}
use Rattle.sf_live_seats.specs.Closing.{OpensIntake}
use Rattle.sf_live_seats.specs.First.{HandsOut, KnowsNothing, MayHandOut}
use Rattle.sf_live_seats.specs.Inboxes.{Admits, AreCouriers, HasPasses, IsBelow, IsCourier, IsEmpty, IsInbox, IsOneOf, left_of, number_of, sent_by}
use Rattle.sf_live_seats.specs.Seats.{IsAtIntake, arrivals_known, is_finished, pass_at, posts_of, tells_of, view_of}
use Rattle.sf_live_seats.specs.Sent.{sent_in, takes_in}
use Rattle.sf_live_seats.proofs.IntakeArrivals.{has_here, has_later, has_none, passes_later}
use Rattle.sf_live_seats.proofs.CallOrder.{contains_cons}

-- nobody sent what is of others
sent_by_absent : (by : ℕ) (list : List (Arrival ReadLeaseOf)) → ((a : Arrival ReadLeaseOf) → Contains list a → a.actor.0 ≡ by → ⊥) → sent_by by list ≡ []
sent_by_absent by [] absent = refl
sent_by_absent by (a ∷ list) absent = elim (cases_Bool (a.actor.0 == by)) [
  | inl met ↦ absurd (absent a (has_here a list) (eqb-true a.actor.0 by met))
  | inr unmet ↦ rw unmet (sent_by_absent by list (λ x there. absent x (has_later a list x there)))
]

module _ {B : Type 0} where
  -- at locks of the same intake and arrivals
  pub way_there : (was locks : Locks B) (by : ℕ) (gave : List ℕ) (last : Clock) (at_intake : AtIntake B) → was.intake ≡ locks.intake → was.arrivals ≡ locks.arrivals → IsAtIntake was by gave last at_intake → IsAtIntake locks by gave last at_intake
  way_there was locks by gave last at.Nothing intake table way = sym intake ∙ way
  way_there was locks by gave last (at.Sends outbox) intake table way = record { intake = sym intake ∙ way.intake; number = way.number; apart = way.apart; ready = way.ready }
  way_there was locks by gave last (at.Takes inbox) intake table way =
      record { intake = sym intake ∙ way.intake; number = way.number; gave = way.gave; own = subst (λ (t : TableId). IsInbox t inbox) table way.own; couriers = way.couriers }
  way_there was locks by gave last at.Finished intake table way = (way.0, sym (ap is_none intake) ∙ way.1)

  -- after later calls
  pub way_later : (locks : Locks B) (by : ℕ) (gave : List ℕ) (before after : Clock) (at_intake : AtIntake B) → before.stamp ≤ after.stamp → IsAtIntake locks by gave before at_intake → IsAtIntake locks by gave after at_intake
  way_later locks by gave before after at.Nothing rose way = way
  way_later locks by gave before after (at.Sends outbox) rose way =
      record { intake = way.intake; number = way.number; apart = way.apart; ready = record { count = way.ready.count; stamp = (let a = way.ready.stamp in omega (arith, a, rose)) } }
  way_later locks by gave before after (at.Takes inbox) rose way = record {
    intake = way.intake;
    number = way.number;
    gave = way.gave;
    own = way.own;
    couriers = passes_later (before.stamp + 1) (after.stamp + 1) inbox.taker.made inbox.couriers.items (omega (arith, rose)) way.couriers;
  }
  way_later locks by gave before after at.Finished rose way = way

  -- where there is no intake, nobody has anything there
  pub none_there : (locks : Locks B) (by : ℕ) (gave : List ℕ) (last : Clock) (at_intake : AtIntake B) → locks.intake ≡ None → IsAtIntake locks by gave last at_intake → at_intake ≡ at.Nothing
  none_there locks by gave last at.Nothing none way = refl
  none_there locks by gave last (at.Sends outbox) none way = (let f = sym none ∙ way.intake in cc)
  none_there locks by gave last (at.Takes inbox) none way = (let f = sym none ∙ way.intake in cc)
  none_there locks by gave last at.Finished none way = absurd (false≢true (sym way.1 ∙ ap is_none none))

  -- the first caller has no sender
  pub first_pass_at : (locks : Locks B) (by : ℕ) (gave : List ℕ) (last : Clock) (at_intake : AtIntake B) (pass : ArrivalsPass) → by ≡ 0 → IsAtIntake locks by gave last at_intake → pass_at at_intake pass ≡ Some pass
  first_pass_at locks by gave last at.Nothing pass first way = refl
  first_pass_at locks by gave last (at.Sends outbox) pass first way = absurd (way.apart first)
  first_pass_at locks by gave last (at.Takes inbox) pass first way = refl
  first_pass_at locks by gave last at.Finished pass first way = refl

  pub first_known : (locks : Locks B) (by : ℕ) (gave : List ℕ) (last : Clock) (at_intake : AtIntake B) (seen : List ArrivalEntry) → by ≡ 0 → IsAtIntake locks by gave last at_intake → arrivals_known at_intake seen ≡ sent (unstamped seen)
  first_known locks by gave last at.Nothing seen first way = refl
  first_known locks by gave last (at.Sends outbox) seen first way = absurd (way.apart first)
  first_known locks by gave last (at.Takes inbox) seen first way = refl
  first_known locks by gave last at.Finished seen first way = refl

  known_none : (at_intake : AtIntake B) → posts_of at_intake ≡ [] → arrivals_known at_intake [] ≡ []
  known_none at.Nothing none = refl
  known_none (at.Sends outbox) none = ap (λ posts. arrivals 1 posts) none
  known_none (at.Takes inbox) none = refl
  known_none at.Finished none = refl

  -- where nothing is known, no arrival is
  pub none_arrived : (seats : Seats B) → KnowsNothing seats → (view_of seats).arrivals ≡ []
  none_arrived seats nothing = ap (arrivals_known seats.intake) nothing.arrivals ∙ known_none seats.intake nothing.posts

  couriers_snoc : (table : TableId) (taken : List (Post ReadLeaseOf)) (forwarded : List (Arrival ReadLeaseOf)) (couriers : List (Courier B)) (new : Courier B) → AreCouriers table taken forwarded couriers → IsCourier table taken forwarded new
      → (Contains (map number_of couriers) new.by → ⊥) → AreCouriers table taken forwarded (couriers ++ new ∷ [])
  couriers_snoc table taken forwarded [] new are is fresh = (is, has_none new.by, tt)
  couriers_snoc table taken forwarded (c ∷ couriers) new are is fresh = (
    are.0,
    (λ there. elim (Contains-append_cases (map number_of couriers) (new.by ∷ []) c.by (subst (λ (ns : List ℕ). Contains ns c.by) (map-append number_of couriers (new ∷ [])) there)) [
      | inl before ↦ are.1 before
      | inr last ↦ (elim (contains_cons new.by [] c.by last) [
        | inl same ↦ fresh (subst (λ (n : ℕ). Contains (c.by ∷ map number_of couriers) n) same (has_here c.by (map number_of couriers)))
        | inr none ↦ absurd (has_none c.by none)
      ])
    ]),
    couriers_snoc table taken forwarded couriers new are.2 is (λ there. fresh (has_later c.by (map number_of couriers) new.by there)),
  )

  -- a caller's pass stays in the inbox
  pub admitted : (table : TableId) (by : ℕ) (pass : ArrivalsPass) (old new : Inbox B) → IsInbox table old → Admits by pass old new → (Contains old.taker.made by → ⊥) → pass.table ≡ table → pass.mark ≡ Some tt → pass.by ≡ by → pass.seen ≡ [] → IsInbox table new
  admitted table by pass old new own admits fresh at_table marked number nothing =
      let courier : Courier B = record { by = by; pass = pass } in
      let given = ap (λ t. t.given) admits.taker in
      let taken = ap (λ t. t.taken) admits.taker in
      let made = ap (λ t. t.made) admits.taker in
      let same_left : left_of new ≡ left_of old = ap₂ (λ held rest. left_of (record { taker = old.taker; senders = old.senders; couriers = old.couriers; held = held; rest = rest })) admits.held admits.rest in
      let absent : sent_by by own.forwarded ≡ [] = sent_by_absent by own.forwarded (λ a there is. fresh (subst (λ (n : ℕ). Contains old.taker.made n) is
      (own.theirs a (subst (λ (xs : List (Arrival ReadLeaseOf)). Contains xs a) own.whole (Contains-append_left own.forwarded (left_of old) a there))))) in
      let is : IsCourier table old.taker.taken own.forwarded courier = record {
        able = record { own = at_table; marked = marked; number = number };
        takes = ap (λ seen. takes_in (calls_by by seen)) nothing;
        sends = ap (λ seen. sent_by by (sent (unstamped seen))) nothing ∙ sym absent;
        behind = λ m there. absurd (has_none m (subst (λ seen. Contains (sent_in (calls_by by seen)) m) nothing there));
      } in
      record {
        forwarded = own.forwarded;
        whole = ap (λ (xs : List (Arrival ReadLeaseOf)). own.forwarded ++ xs) same_left ∙ own.whole ∙ sym given;
        each = λ a there. subst (λ (posts : List (Post ReadLeaseOf)). IsOneOf posts a) (sym taken) (own.each a (subst (λ (xs : List (Arrival ReadLeaseOf)). Contains xs a) given there));
        theirs = λ a there. subst (λ (ns : List ℕ). Contains ns a.actor.0) (sym made)
            (Contains-append_left old.taker.made (by ∷ []) a.actor.0 (own.theirs a (subst (λ (xs : List (Arrival ReadLeaseOf)). Contains xs a) given there)));
        couriers = subst (λ (posts : List (Post ReadLeaseOf)). AreCouriers table posts own.forwarded new.couriers.items) (sym taken)
            (subst (λ (cs : List (Courier B)). AreCouriers table old.taker.taken own.forwarded cs) (sym admits.couriers)
            (couriers_snoc table old.taker.taken own.forwarded old.couriers.items courier own.couriers is (λ there. fresh (own.made by there))));
        made = λ n there. subst (λ (ns : List ℕ). Contains ns n) (sym made)
            (elim (Contains-append_cases (map number_of old.couriers.items) (by ∷ []) n
            (subst (λ (ns : List ℕ). Contains ns n) (ap (map number_of) admits.couriers ∙ map-append number_of old.couriers.items (courier ∷ [])) there)) [
              | inl before ↦ Contains-append_left old.taker.made (by ∷ []) n (own.made n before)
              | inr last ↦ Contains-append_right old.taker.made (by ∷ []) n last
            ]);
        count = (let a = admits.senders in let b = own.count in let d = ap (λ (ns : List ℕ). length ns) made ∙ length-append old.taker.made (by ∷ []) in omega (arith, a, b, d));
      }

  below_snoc : (bound : ℕ) (couriers : List (Courier B)) (new : Courier B) → AllByRecursion (IsBelow bound) couriers → IsBelow bound new → AllByRecursion (IsBelow bound) (couriers ++ new ∷ [])
  below_snoc bound [] new below is = (is, tt)
  below_snoc bound (c ∷ couriers) new below is = (below.0, below_snoc bound couriers new below.1 is)

  admitted_passes : (bound by : ℕ) (pass : ArrivalsPass) (old new : Inbox B) → HasPasses bound old.taker.made old.couriers.items → Admits by pass old new → pass.seen ≡ [] → HasPasses bound new.taker.made new.couriers.items
  admitted_passes bound by pass old new has admits nothing =
      let courier : Courier B = record { by = by; pass = pass } in
      record {
        there = λ n there. subst (λ (ns : List ℕ). Contains ns n) (sym (ap (map number_of) admits.couriers ∙ map-append number_of old.couriers.items (courier ∷ [])))
            (elim (Contains-append_cases old.taker.made (by ∷ []) n (subst (λ (ns : List ℕ). Contains ns n) (ap (λ t. t.made) admits.taker) there)) [
              | inl before ↦ Contains-append_left (map number_of old.couriers.items) (by ∷ []) n (has.there n before)
              | inr last ↦ Contains-append_right (map number_of old.couriers.items) (by ∷ []) n last
            ]);
        below = subst (λ (cs : List (Courier B)). AllByRecursion (IsBelow bound) cs) (sym admits.couriers)
            (below_snoc bound old.couriers.items courier has.below (λ m there. absurd (has_none m (subst (λ seen. Contains (sent_in (calls_by by seen)) m) nothing there))));
      }

  -- what the first caller has there, after it gave a caller something, and what that caller has
  pub record GivesAt (locks : Locks B) (by : ℕ) (pass : ArrivalsPass) (gave : List ℕ) (last : Clock) (old new : AtIntake B) (given_pass : Option ArrivalsPass) (given : AtIntake B) : Type 0 where
    pub way : (n : ℕ) → n ≡ 0 → IsAtIntake locks n (by ∷ gave) last new
    pub unfinished : is_finished new ≡ false
    pub same_pass : (p : ArrivalsPass) → pass_at new p ≡ Some p
    pub known : (seen : List ArrivalEntry) → arrivals_known new seen ≡ arrivals_known old seen
    pub known_is : (seen : List ArrivalEntry) → arrivals_known old seen ≡ sent (unstamped seen)
    pub posts : posts_of new ≡ posts_of old
    pub given_way : (after : Clock) (gave : List ℕ) → IsAtIntake locks by gave after given
    pub given_there : given_pass ≡ pass_at given pass
    pub given_known : (seen : List ArrivalEntry) → seen ≡ [] → arrivals_known given seen ≡ []
    pub given_posts : posts_of given ≡ []
    pub given_unfinished : is_finished given ≡ false

  pub gives_at : (locks : Locks B) (number by : ℕ) (pass : ArrivalsPass) (gave : List ℕ) (last : Clock) (old new : AtIntake B) (given_pass : Option ArrivalsPass) (given : AtIntake B) → number ≡ 0 → (Contains (number ∷ gave) by → ⊥)
      → pass.table ≡ locks.arrivals → pass.mark ≡ Some tt → pass.by ≡ by → pass.seen ≡ [] → IsAtIntake locks number gave last old → HandsOut by pass old new given_pass given → GivesAt locks by pass gave last old new given_pass given
  gives_at locks number by pass gave last at.Nothing new given_pass given first fresh at_table marked of_by nothing way hands =
      subst (λ (n : AtIntake B). GivesAt locks by pass gave last at.Nothing n given_pass given) (sym hands.2)
      (subst (λ (n : AtIntake B). GivesAt locks by pass gave last at.Nothing at.Nothing given_pass n) (sym hands.1) (record {
        way = λ n zero. way;
        unfinished = refl;
        same_pass = λ p. refl;
        known = λ seen. refl;
        known_is = λ seen. refl;
        posts = refl;
        given_way = λ after given_gave. way;
        given_there = hands.0;
        given_known = λ seen none. ap (λ xs. sent (unstamped xs)) none;
        given_posts = refl;
        given_unfinished = refl;
      }))
  gives_at locks number by pass gave last (at.Sends outbox) new given_pass given first fresh at_table marked of_by nothing way hands = absurd (way.apart first)
  gives_at locks number by pass gave last (at.Takes inbox) new given_pass given first fresh at_table marked of_by nothing way hands =
      subst (λ (n : AtIntake B). GivesAt locks by pass gave last (at.Takes inbox) n given_pass given) (sym hands.takes)
      (subst (λ (n : AtIntake B). GivesAt locks by pass gave last (at.Takes inbox) (at.Takes hands.after) given_pass n) (sym hands.sends) (record {
        way = λ n zero. record {
          intake = way.intake ∙ ap (λ z. Some z) (sym (ap (λ t. t.intake) hands.admits.taker));
          number = zero;
          gave = λ b there. (elim (Contains-append_cases inbox.taker.made (by ∷ []) b (subst (λ (ns : List ℕ). Contains ns b) (ap (λ t. t.made) hands.admits.taker) there)) [
            | inl before ↦ has_later by gave b (way.gave b before)
            | inr last ↦ (elim (contains_cons by [] b last) [
              | inl same ↦ subst (λ (n : ℕ). Contains (by ∷ gave) n) (sym same) (has_here by gave)
              | inr none ↦ absurd (has_none b none)
            ])
          ]);
          own = admitted locks.arrivals by pass inbox hands.after way.own hands.admits (λ there. fresh (has_later number gave by (way.gave by there))) at_table marked of_by nothing;
          couriers = admitted_passes (last.stamp + 1) by pass inbox hands.after way.couriers hands.admits nothing;
        };
        unfinished = refl;
        same_pass = λ p. refl;
        known = λ seen. refl;
        known_is = λ seen. refl;
        posts = refl;
        given_way = λ after given_gave. record {
          intake = way.intake;
          number = refl;
          apart = λ is. fresh (subst (λ (n : ℕ). Contains (number ∷ gave) n) (first ∙ sym is) (has_here number gave));
          ready = record { count = refl; stamp = omega arith };
        };
        given_there = hands.none;
        given_known = λ seen none. refl;
        given_posts = refl;
        given_unfinished = refl;
      }))
  gives_at locks number by pass gave last at.Finished new given_pass given first fresh at_table marked of_by nothing way hands = absurd hands

  -- as it is opened
  pub record OpensAt (tells : Bool) (locks : Locks B) (first : AtIntake B) : Type 0 where
    pub way : (n : ℕ) (gave : List ℕ) (last : Clock) → n ≡ 0 → IsAtIntake locks n gave last first
    pub unfinished : is_finished first ≡ false
    pub same_pass : (p : ArrivalsPass) → pass_at first p ≡ Some p
    pub known_is : (seen : List ArrivalEntry) → arrivals_known first seen ≡ sent (unstamped seen)
    pub posts : posts_of first ≡ []
    pub tells_is : tells_of locks ≡ tells

  -- an inbox where nothing was taken
  empty_inbox : (table : TableId) (web : ℕ × ℕ) (inbox : Inbox B) → inbox.taker ≡ first_taker web → IsEmpty inbox → IsInbox table inbox
  empty_inbox table web inbox first empty = record {
    forwarded = [];
    whole = empty.left ∙ sym (ap (λ t. t.given) first);
    each = λ a there. absurd (has_none a (subst (λ xs. Contains xs a) (ap (λ t. t.given) first) there));
    theirs = λ a there. absurd (has_none a (subst (λ xs. Contains xs a) (ap (λ t. t.given) first) there));
    couriers = subst (λ (cs : List (Courier B)). AreCouriers table inbox.taker.taken [] cs) (sym empty.couriers) tt;
    made = λ n there. absurd (has_none n (subst (λ (cs : List (Courier B)). Contains (map number_of cs) n) empty.couriers there));
    count = empty.senders ∙ ap (λ (ns : List ℕ). length ns) (sym (ap (λ t. t.made) first));
  }

  pub opens_at : (tells : Bool) (locks : Locks B) (first : AtIntake B) → OpensIntake tells locks.intake first → OpensAt tells locks first
  opens_at true locks first opens = subst (λ (a : AtIntake B). OpensAt true locks a) (sym opens.1) (record {
    way = λ n gave last zero. opens.0;
    unfinished = refl;
    same_pass = λ p. refl;
    known_is = λ seen. refl;
    posts = refl;
    tells_is = ap is_none opens.0;
  })
  opens_at false locks first opens = subst (λ (a : AtIntake B). OpensAt false locks a) (sym opens.takes) (record {
    way = λ n gave last zero. record {
      intake = opens.intake_is;
      number = zero;
      gave = λ b there. absurd (has_none b (subst (λ (ns : List ℕ). Contains ns b) (ap (λ t. t.made) opens.taker) there));
      own = empty_inbox locks.arrivals opens.inbox.taker.intake opens.inbox opens.taker opens.empty;
      couriers = record {
        there = λ b there. absurd (has_none b (subst (λ (ns : List ℕ). Contains ns b) (ap (λ t. t.made) opens.taker) there));
        below = subst (λ (cs : List (Courier B)). AllByRecursion (IsBelow (last.stamp + 1)) cs) (sym opens.empty.couriers) tt;
      };
    };
    unfinished = refl;
    same_pass = λ p. refl;
    known_is = λ seen. refl;
    posts = refl;
    tells_is = ap is_none opens.intake_is;
  })

module _ {B : Type 0} where
  pub may_hand : (locks : Locks B) (number by : ℕ) (gave : List ℕ) (last : Clock) (at_intake : AtIntake B) → number ≡ 0 → is_finished at_intake ≡ false → (Contains (number ∷ gave) by → ⊥) → IsAtIntake locks number gave last at_intake
      → MayHandOut locks by at_intake
  may_hand locks number by gave last at.Nothing first unfinished fresh way = tt
  may_hand locks number by gave last (at.Sends outbox) first unfinished fresh way = absurd (way.apart first)
  may_hand locks number by gave last (at.Takes inbox) first unfinished fresh way = (way.intake, (λ there. fresh (has_later number gave by (way.gave by there))), way.own.count)
  may_hand locks number by gave last at.Finished first unfinished fresh way = absurd (false≢true (sym unfinished))

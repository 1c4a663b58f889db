-- A caller's seats with their pass at the arrivals again.
use Rattle.std.proofs.Common.{◌≡◌, ℕ, zero, suc, ◌+◌, ◌<◌, ◌==◌, Bool, true, false, List, [], ◌∷◌, ◌++◌, inl, inr, length, get_or, set, filter, None, Some, arith, ap, ap₂, ◌∙◌, sym, refl, subst}
use Rattle.std.specs.Prelude.{◌≤◌, Option, is_none, map, Contains}
use Rattle.std.specs.List.{AllByRecursion, AllZip, position, position_or_len, remove}
use Rattle.std.proofs.lemmas.Bool.{cases_Bool, eqb-true, eq-eqb}
use Rattle.std.proofs.lemmas.List.{append-nil, get_or_default, get_or-set_other, get_or-set_same, length-append, length-set, nil_from_length}
use Rattle.std.proofs.lemmas.List.Elements.{Contains-append_left, Contains-append_right}
use Rattle.atomic_table.specs.Seated.{TableId}
use Rattle.sf_calls.specs.Histories.{calls_by}
use Rattle.sf_intake.specs.Posts.{Begins, Post, arrivals, posts_by}
use Rattle.sf_intake.specs.Views.{IsBeginningOf, TakerView}
use Rattle.sf_calls_stamped.specs.Stamps.{stamp_of, unstamped}
use Rattle.sf_actor.specs.sf_surface.Tokens.{ReadLeaseOf}
use Rattle.sf_intake.specs.sf_token.Arrivals.{sent}
use Rattle.sf_intake.specs.sf_token.declared.arrivals.ArriveCall.TheVariants as arrive
use Rattle.sf_intake.specs.sf_token.Pending.{Arrival}
use Rattle.sf_intake.specs.sf_txn.Transactions.{Contents}
use Rattle.sf_actor.specs.Known.{arrivals_told, is_sent_by}
use Rattle.sf_live_seats.specs.declared.at_intake.AtIntake.{AtIntake}
use Rattle.sf_live_seats.specs.declared.at_intake.AtIntake.TheVariants as at
use Rattle.sf_live_seats.specs.declared.clock.Clock.{Clock}
use Rattle.sf_live_seats.specs.declared.inbox.Courier.{Courier}
use Rattle.sf_live_seats.specs.declared.inbox.Inbox.{Inbox}
use Rattle.sf_live_seats.specs.declared.locks.Locks.{Locks}
use Rattle.sf_live_seats.specs.declared.outbox.Outbox.{Outbox}
use Rattle.sf_live_seats.specs.declared.seats.Seats.{Seats}
use Rattle.sf_live_seats.specs.Arriving.{ArrivalEntry, Arriving}
use Rattle.sf_live_seats.specs.Inboxes.{AreCouriers, HasAll, IsCourier, IsInbox, is_courier, left_of, number_of, sent_by}
use Rattle.sf_live_seats.specs.Reuniting.{MayReunite, Reunites}
use Rattle.sf_live_seats.specs.Seats.{AreSeats, AreWhole, HasSender, IsAtIntake, IsHeard, MaySend, SendsTo, arrivals_known, calls_made, moments_of, pass_at, post_moment, posts_of, sent_in, takes_in}
use Rattle.sf_live_seats.proofs.IntakeArrivals.{able_at, has_here, has_later, has_none}
use Rattle.sf_live_seats.proofs.IntakeHands.{none_there}
use Rattle.sf_live_seats.proofs.CallOrder.{contains_cons}
use Rattle.sf_live_seats.proofs.PlaceSearch.{below_next}
use Rattle.sf_live_seats.proofs.QueuePass.{place_is}

abbrev asking : ArrivalEntry → Arriving → ArrivalEntry
asking e asked = record { by = e.by; call = (e.call.0, asked); reply = e.reply }

-- the moment of a call that sends is among those of what was sent
sent_there : (calls : List ArrivalEntry) (e : ArrivalEntry) (step : ℕ) (txn : Contents ReadLeaseOf) → Contains calls e → e.call.1 ≡ arrive.Send step txn → Contains (sent_in calls) (step, stamp_of e)
sent_there [] e step txn there sends = absurd (has_none e there)
sent_there (c ∷ calls) e step txn there sends = elim (contains_cons c calls e there) [
  | inl same ↦ subst (λ (x : ArrivalEntry). Contains (sent_in (x ∷ calls)) (step, stamp_of e)) same
      (subst (λ (asked : Arriving). Contains (sent_in (asking e asked ∷ calls)) (step, stamp_of e)) (sym sends) (has_here (step, stamp_of e) (sent_in calls)))
  | inr later ↦ behind c.call.1 refl (sent_there calls e step txn later sends)
]
  where
    behind : (asked : Arriving) → c.call.1 ≡ asked → Contains (sent_in calls) (step, stamp_of e) → Contains (sent_in (c ∷ calls)) (step, stamp_of e)
    behind (arrive.Send s t) is rest = subst (λ (asked : Arriving). Contains (sent_in (asking c asked ∷ calls)) (step, stamp_of e)) (sym is) (has_later (s, stamp_of c) (sent_in calls) (step, stamp_of e) rest)
    behind arrive.Take is rest = subst (λ (asked : Arriving). Contains (sent_in (asking c asked ∷ calls)) (step, stamp_of e)) (sym is) rest

cons_not : {X : Type 0} (x : X) (xs : List X) → x ∷ xs ≡ [] → ⊥
cons_not x xs is = (let long = ap (λ ys. length ys) is in omega (arith, long))

-- where nothing is taken, each call sends
none_takes : (calls : List ArrivalEntry) → takes_in calls ≡ [] → (e : ArrivalEntry) → Contains calls e → (step : ℕ) × (txn : Contents ReadLeaseOf) × (e.call.1 ≡ arrive.Send step txn)
none_takes [] none e there = absurd (has_none e there)
none_takes (c ∷ calls) none e there = by_asked c.call.1 refl (none_takes calls)
  where
    by_asked : (asked : Arriving) → c.call.1 ≡ asked → (takes_in calls ≡ [] → (e : ArrivalEntry) → Contains calls e → (step : ℕ) × (txn : Contents ReadLeaseOf) × (e.call.1 ≡ arrive.Send step txn))
        → (step : ℕ) × (txn : Contents ReadLeaseOf) × (e.call.1 ≡ arrive.Send step txn)
    by_asked (arrive.Send step txn) is further = elim (contains_cons c calls e there) [
      | inl same ↦ (step, txn, ap (λ (x : ArrivalEntry). x.call.1) same ∙ is)
      | inr later ↦ further (subst (λ (asked : Arriving). takes_in (asking c asked ∷ calls) ≡ []) is none) e later
    ]
    by_asked arrive.Take is further = absurd (cons_not (stamp_of c) (takes_in calls) (subst (λ (asked : Arriving). takes_in (asking c asked ∷ calls) ≡ []) is none))

in_map : {X Y : Type 0} (f : X → Y) (xs : List X) (x : X) → Contains xs x → Contains (map f xs) (f x)
in_map f [] x there = absurd (has_none x there)
in_map f (y ∷ xs) x there = elim (contains_cons y xs x there) [
  | inl same ↦ subst (λ z. Contains (z ∷ map f xs) (f x)) (ap f same) (has_here (f x) (map f xs))
  | inr later ↦ has_later (f y) (map f xs) (f x) (in_map f xs x later)
]

-- a sender's posts are among its own
in_own : (by : ℕ) (posts : List (Post ReadLeaseOf)) (post : Post ReadLeaseOf) → Contains posts post → post.actor.0 ≡ by → Contains (posts_by by posts) post
in_own by [] post there is = absurd (has_none post there)
in_own by (p ∷ posts) post there is = elim (cases_Bool (p.actor.0 == by)) [
  | inl met ↦ rw met (elim (contains_cons p posts post there) [
    | inl same ↦ subst (λ (q : Post ReadLeaseOf). Contains (q ∷ posts_by by posts) post) same (has_here post (posts_by by posts))
    | inr later ↦ has_later p (posts_by by posts) post (in_own by posts post later is)
  ])
  | inr unmet ↦ rw unmet (elim (contains_cons p posts post there) [
    | inl same ↦ absurd (let met = eq-eqb p.actor.0 by (ap (λ (q : Post ReadLeaseOf). q.actor.0) (sym same) ∙ is) in let f : true ≡ false = sym met ∙ unmet in cc)
    | inr later ↦ in_own by posts post later is
  ])
]

-- what a sender sent of all posts, and its own posts, are the same without their numbers
own_sent : (by n m : ℕ) (posts : List (Post ReadLeaseOf)) → sent_by by (arrivals n posts) ≡ sent_by by (arrivals m (posts_by by posts))
own_sent by n m [] = refl
own_sent by n m (p ∷ posts) = elim (cases_Bool (p.actor.0 == by)) [
  | inl met ↦ rw (met, met) (ap (λ (list : List (Arrival ReadLeaseOf)). record { number = 0; actor = p.actor; step = p.step; txn = p.txn } ∷ list) (own_sent by (n + 1) (m + 1) posts))
  | inr unmet ↦ rw unmet (own_sent by (n + 1) m posts)
]

begins_both : {A : Type 0} (xs ys : List A) → Begins xs ys → Begins ys xs → xs ≡ ys
begins_both xs ys one two =
    let a = ap (λ zs. length zs) one.1 ∙ length-append xs one.0 in
    let b = ap (λ zs. length zs) two.1 ∙ length-append ys two.0 in
    let none : one.0 ≡ [] = nil_from_length one.0 (omega (arith, a, b)) in
    sym (one.1 ∙ ap (λ zs. xs ++ zs) none ∙ append-nil xs)

pub some_same : {X : Type 0} {x y : X} → Some x ≡ Some y → x ≡ y
some_same {X} {x} {y} is = ap (λ o. value_or o x) is
  where
    value_or : Option X → X → X
    value_or None d = d
    value_or (Some z) d = z

module _ {B : Type 0} where
  -- seats that have their pass
  pub whole_own : (buffers : TableId) (locks : Locks B) (seats : Seats B) → AreSeats buffers locks seats → seats.intake ≡ at.Nothing → AreWhole buffers locks seats
  whole_own buffers locks seats own nothing = record {
    queues = own.queues;
    own_arrivals = own.own_arrivals;
    marked = own.marked;
    number = own.number;
    own_times = own.own_times;
    own_turns = own.own_turns;
    takes = own.takes;
    pass = own.pass ∙ ap (λ at_intake. pass_at at_intake seats.arrivals) nothing;
    nothing = nothing;
  }

  pub reunites_own : (buffers : TableId) (locks : Locks B) (seats : Seats B) → AreSeats buffers locks seats → Reunites locks seats seats
  reunites_own buffers locks seats own = record {
    same = refl;
    sent = refl;
    sends = λ apart e there.
        let sends = none_takes (calls_by seats.by seats.arrivals.seen) (own.takes apart) e there in
        record {
          step = sends.0;
          txn = sends.1;
          sends = sends.2;
          above = λ m at less. own.in_order.rise m (sends.0, stamp_of e) at
              (Contains-append_right (calls_made seats.by seats.queues.items) (sent_in (calls_by seats.by seats.arrivals.seen) ++ map post_moment (posts_of seats.intake)) (sends.0, stamp_of e)
              (Contains-append_left (sent_in (calls_by seats.by seats.arrivals.seen)) (map post_moment (posts_of seats.intake)) (sends.0, stamp_of e)
              (sent_there (calls_by seats.by seats.arrivals.seen) e sends.0 sends.1 there sends.2))) less;
        };
    kept = λ none. refl;
  }

  met_at : (by : ℕ) (couriers : List (Courier B)) (place : ℕ) (d : Courier B) → position_or_len (is_courier by) couriers ≡ place → place < length couriers → (get_or couriers place d).by ≡ by
  met_at by [] place d e low = absurd (omega (arith, low))
  met_at by (c ∷ couriers) zero d e low = elim (cases_Bool (is_courier by c)) [
    | inl met ↦ eqb-true c.by by met
    | inr unmet ↦ (let f = rw unmet at e in absurd (omega (arith, f)))
  ]
  met_at by (c ∷ couriers) (suc place) d e low = elim (cases_Bool (is_courier by c)) [
    | inl met ↦ (let f = rw met at e in absurd (omega (arith, f)))
    | inr unmet ↦ (let f = rw unmet at e in met_at by couriers place d (omega (arith, f)) (omega (arith, low)))
  ]

  removed_numbers : (couriers : List (Courier B)) (place n : ℕ) → Contains (map number_of (remove couriers place)) n → Contains (map number_of couriers) n
  removed_numbers [] zero n there = there
  removed_numbers [] (suc place) n there = there
  removed_numbers (c ∷ couriers) zero n there = has_later c.by (map number_of couriers) n there
  removed_numbers (c ∷ couriers) (suc place) n there = elim (contains_cons c.by (map number_of (remove couriers place)) n there) [
    | inl same ↦ subst (λ (k : ℕ). Contains (k ∷ map number_of couriers) n) same (has_here n (map number_of couriers))
    | inr later ↦ has_later c.by (map number_of couriers) n (removed_numbers couriers place n later)
  ]

  removed : (table : TableId) (taken : List (Post ReadLeaseOf)) (forwarded : List (Arrival ReadLeaseOf)) (couriers : List (Courier B)) (place : ℕ) → AreCouriers table taken forwarded couriers → AreCouriers table taken forwarded (remove couriers place)
  removed table taken forwarded [] zero are = tt
  removed table taken forwarded [] (suc place) are = tt
  removed table taken forwarded (c ∷ couriers) zero are = are.2
  removed table taken forwarded (c ∷ couriers) (suc place) are =
      (are.0, (λ there. are.1 (removed_numbers couriers place c.by there)), removed table taken forwarded couriers place are.2)

  -- an inbox without one of its couriers
  pub removed_inbox : (table : TableId) (old new : Inbox B) (place : ℕ) → IsInbox table old → new.taker ≡ old.taker → new.senders ≡ old.senders → left_of new ≡ left_of old → new.couriers.items ≡ remove old.couriers.items place → IsInbox table new
  removed_inbox table old new place own taker senders left couriers =
      subst (λ t. IsInbox table (record { taker = t; senders = new.senders; couriers = new.couriers; held = new.held; rest = new.rest })) (sym taker) (record {
        forwarded = own.forwarded;
        whole = ap (λ (list : List (Arrival ReadLeaseOf)). own.forwarded ++ list) left ∙ own.whole;
        each = own.each;
        theirs = own.theirs;
        couriers = subst (λ (cs : List (Courier B)). AreCouriers table old.taker.taken own.forwarded cs) (sym couriers) (removed table old.taker.taken own.forwarded old.couriers.items place own.couriers);
        made = λ n there. own.made n (removed_numbers old.couriers.items place n (subst (λ (cs : List (Courier B)). Contains (map number_of cs) n) couriers there));
        count = senders ∙ own.count;
      })

  module _ (buffers : TableId) (locks : Locks B) (inbox : Inbox B) (seats : Seats B) (outbox : Outbox B) (place : ℕ) (courier : Courier B) (own : IsInbox locks.arrivals inbox) (is : seats.intake ≡ at.Sends outbox) (are : AreSeats buffers locks seats)
      (none : left_of inbox ≡ []) (all : HasAll inbox.taker) (heard : Contains inbox.taker.heard (outbox.sender.by.0, outbox.sender.sent)) (begins : IsBeginningOf outbox.sender inbox.taker.taken)
      (first : position (is_courier seats.by) inbox.couriers.items ≡ Some place) (there : courier ≡ get_or inbox.couriers.items place courier) where
    abbrev reunited : Seats B
    reunited = record seats { arrivals = courier.pass; pass = Some courier.pass; intake = at.Nothing }

    sender : HasSender locks seats.by seats.last outbox
    sender = subst (λ at_intake. IsAtIntake locks seats.by seats.arrivals.gave seats.last at_intake) is are.way

    here : (position_or_len (is_courier seats.by) inbox.couriers.items ≡ place) × (place < length inbox.couriers.items)
    here = place_is (is_courier seats.by) inbox.couriers.items place first

    theirs : courier.by ≡ seats.by
    theirs = ap (λ (c : Courier B). c.by) there ∙ met_at seats.by inbox.couriers.items place courier here.0 here.1

    carried : IsCourier locks.arrivals inbox.taker.taken own.forwarded courier
    carried = subst (λ (c : Courier B). IsCourier locks.arrivals inbox.taker.taken own.forwarded c) (sym there)
        (able_at locks.arrivals inbox.taker.taken own.forwarded inbox.couriers.items place courier own.couriers here.1)

    pub whole_reunited : AreWhole buffers locks reunited
    whole_reunited = record {
      queues = are.queues;
      own_arrivals = carried.able.own;
      marked = carried.able.marked;
      number = carried.able.number ∙ theirs;
      own_times = are.own_times;
      own_turns = are.own_turns;
      takes = λ other. ap (λ (n : ℕ). takes_in (calls_by n courier.pass.seen)) (sym theirs) ∙ carried.takes;
      pass = refl;
      nothing = refl;
    }

    forwarded_all : own.forwarded ≡ arrivals 1 inbox.taker.taken
    forwarded_all = sym (append-nil own.forwarded) ∙ ap (λ (list : List (Arrival ReadLeaseOf)). own.forwarded ++ list) (sym none) ∙ own.whole ∙ all.given

    posts_all : posts_by seats.by inbox.taker.taken ≡ outbox.sender.sent
    posts_all = subst (λ (n : ℕ). posts_by n inbox.taker.taken ≡ outbox.sender.sent) sender.number (begins_both (posts_by outbox.sender.by.0 inbox.taker.taken) outbox.sender.sent begins (all.heard (outbox.sender.by.0, outbox.sender.sent) heard))

    sent_all : sent_by seats.by (sent (unstamped courier.pass.seen)) ≡ sent_by seats.by (arrivals 1 outbox.sender.sent)
    sent_all =
        subst (λ (n : ℕ). sent_by n (sent (unstamped courier.pass.seen)) ≡ sent_by n own.forwarded) theirs carried.sends
        ∙ ap (sent_by seats.by) forwarded_all
        ∙ own_sent seats.by 1 1 inbox.taker.taken
        ∙ ap (λ posts. sent_by seats.by (arrivals 1 posts)) posts_all

    untold : is_none locks.intake ≡ false
    untold = ap is_none sender.intake

    pub reunites_sent : Reunites locks seats reunited
    reunites_sent = record {
      same = refl;
      sent =
          ap (λ (tells : Bool). arrivals_told tells (filter (is_sent_by seats.by) (sent (unstamped courier.pass.seen)))) untold
          ∙ sent_all
          ∙ sym (ap₂ (λ (tells : Bool) at_intake. arrivals_told tells (filter (is_sent_by seats.by) (arrivals_known at_intake seats.arrivals.seen))) untold is);
      sends = λ apart e at.
          let own_there : Contains (calls_by courier.by courier.pass.seen) e = subst (λ (n : ℕ). Contains (calls_by n courier.pass.seen) e) (sym theirs) at in
          let sends = none_takes (calls_by courier.by courier.pass.seen) carried.takes e own_there in
          let behind = carried.behind (sends.0, stamp_of e) (sent_there (calls_by courier.by courier.pass.seen) e sends.0 sends.1 own_there sends.2) in
          let posted : Contains outbox.sender.sent behind.post = subst (λ (posts : List (Post ReadLeaseOf)). Contains posts behind.post) posts_all (in_own seats.by inbox.taker.taken behind.post behind.there (behind.theirs ∙ theirs)) in
          let moment : Contains (moments_of seats) (post_moment behind.post) = Contains-append_right (calls_made seats.by seats.queues.items) (sent_in (calls_by seats.by seats.arrivals.seen) ++ map post_moment (posts_of seats.intake)) (post_moment behind.post)
          (Contains-append_right (sent_in (calls_by seats.by seats.arrivals.seen)) (map post_moment (posts_of seats.intake)) (post_moment behind.post)
          (subst (λ at_intake. Contains (map post_moment (posts_of at_intake)) (post_moment behind.post)) (sym is) (in_map post_moment outbox.sender.sent behind.post posted))) in
          record {
            step = sends.0;
            txn = sends.1;
            sends = sends.2;
            above = λ m in_m less.
                let step = behind.step in
                let up = are.in_order.rise m (post_moment behind.post) in_m moment (omega (arith, less, step)) in
                let over = behind.above in
                omega (arith, up, over);
          };
      kept = λ none. absurd (let f : true ≡ false = sym (ap is_none none) ∙ untold in cc);
    }

pub all_places : {X : Type 0} (P : X → Type 0) (xs : List X) → ((k : ℕ) (d : X) → k < length xs → P (get_or xs k d)) → AllByRecursion P xs
all_places P [] each = tt
all_places P (x ∷ xs) each = (each 0 x (omega arith), all_places P xs (λ k d low. each (suc k) d (omega (arith, low))))

pub zip_places : {X Y : Type 0} (R : X → Y → Type 0) (xs : List X) (ys : List Y) → length ys ≡ length xs → ((k : ℕ) (x : X) (y : Y) → k < length xs → R (get_or xs k x) (get_or ys k y)) → AllZip R xs ys
zip_places R [] [] long each = tt
zip_places R [] (y ∷ ys) long each = absurd (omega (arith, long))
zip_places R (x ∷ xs) [] long each = absurd (omega (arith, long))
zip_places R (x ∷ xs) (y ∷ ys) long each = (each 0 x y (omega arith), zip_places R xs ys (omega (arith, long)) (λ k a b low. each (suc k) a b (omega (arith, low))))

module _ {B : Type 0} where
  heard_still : (old new : TakerView ReadLeaseOf) (at_intake : AtIntake B) → ((p : ℕ × List (Post ReadLeaseOf)) → Contains old.heard p → Contains new.heard p) → IsHeard old at_intake → IsHeard new at_intake
  heard_still old new at.Nothing more is = tt
  heard_still old new (at.Sends outbox) more is = more (outbox.sender.by.0, outbox.sender.sent) is
  heard_still old new (at.Takes inbox) more is = tt
  heard_still old new at.Finished more is = tt

  -- what was heard of those before this place
  abbrev pub AreHeard : TakerView ReadLeaseOf → List (Seats B) → ℕ → Type 0
  AreHeard taker ends place = (k : ℕ) (d : Seats B) → k < place → IsHeard taker (get_or ends k d).intake

  pub heard_next : (old new : TakerView ReadLeaseOf) (ends now : List (Seats B)) (place : ℕ) (r : Seats B) → now ≡ ends → place < length ends → ((p : ℕ × List (Post ReadLeaseOf)) → Contains old.heard p → Contains new.heard p)
      → IsHeard new (get_or now place r).intake → AreHeard old ends place → AreHeard new ends (place + 1)
  heard_next old new ends now place r same low more is before k d less = elim (below_next k place less) [
    | inl earlier ↦ heard_still old new (get_or ends k d).intake more (before k d earlier)
    | inr this ↦ subst (λ (s : Seats B). IsHeard new s.intake) (ap (λ (xs : List (Seats B)). get_or xs place r) same ∙ get_or_default ends place r d low ∙ ap (λ (n : ℕ). get_or ends n d) (sym this)) is
  ]

  -- those before this place have their passes again, and the others are as they were
  pub record AreReunited (buffers : TableId) (locks : Locks B) (ends now : List (Seats B)) (place : ℕ) : Type 0 where
    pub long : length now ≡ length ends
    pub whole : (k : ℕ) (d : Seats B) → k < place → AreWhole buffers locks (get_or now k d)
    pub reunites : (k : ℕ) (d e : Seats B) → k < place → Reunites locks (get_or ends k d) (get_or now k e)
    pub rest : (k : ℕ) (d : Seats B) → place ≤ k → get_or now k d ≡ get_or ends k d

  pub none_reunited : (buffers : TableId) (locks : Locks B) (ends : List (Seats B)) → AreReunited buffers locks ends ends 0
  none_reunited buffers locks ends = record { long = refl; whole = λ k d low. absurd (omega (arith, low)); reunites = λ k d e low. absurd (omega (arith, low)); rest = λ k d high. refl }

  pub one_reunited : (buffers : TableId) (locks : Locks B) (ends now : List (Seats B)) (place : ℕ) (r next : Seats B) → place < length ends → AreReunited buffers locks ends now place → AreWhole buffers locks next → Reunites locks (get_or now place r) next
      → AreReunited buffers locks ends (set now place next) (place + 1)
  one_reunited buffers locks ends now place r next low so whole reunites = record {
    long = length-set now place next ∙ so.long;
    whole = λ k d less. elim (below_next k place less) [
      | inl earlier ↦ subst (λ (s : Seats B). AreWhole buffers locks s) (sym (get_or-set_other now place k next d (λ same. apart k earlier same))) (so.whole k d earlier)
      | inr this ↦ subst (λ (s : Seats B). AreWhole buffers locks s) (sym (ap (λ (n : ℕ). get_or (set now place next) n d) this ∙ get_or-set_same now place next d here)) whole
    ];
    reunites = λ k d e less. elim (below_next k place less) [
      | inl earlier ↦ subst (λ (s : Seats B). Reunites locks (get_or ends k d) s) (sym (get_or-set_other now place k next e (λ same. apart k earlier same))) (so.reunites k d e earlier)
      | inr this ↦
          subst (λ (s : Seats B). Reunites locks (get_or ends k d) s) (sym (ap (λ (n : ℕ). get_or (set now place next) n e) this ∙ get_or-set_same now place next e here))
          (subst (λ (s : Seats B). Reunites locks s next) (so.rest place r (omega arith) ∙ get_or_default ends place r d low ∙ ap (λ (n : ℕ). get_or ends n d) (sym this)) reunites)
    ];
    rest = λ k d high. get_or-set_other now place k next d (λ same. above k high same) ∙ so.rest k d (omega (arith, high));
  }
    where
      here : place < length now
      here = (let long = so.long in omega (arith, low, long))

      apart : (k : ℕ) → k < place → k ≡ place → ⊥
      apart k earlier same = omega (arith, earlier, same)

      above : (k : ℕ) → place + 1 ≤ k → k ≡ place → ⊥
      above k high same = omega (arith, high, same)

module _ {B : Type 0} (buffers : TableId) (locks : Locks B) (none : locks.intake ≡ None) where
  -- where there is no intake, all have their passes
  pub whole_locked : (ends : List (Seats B)) → AllByRecursion (MaySend buffers locks) ends → AllByRecursion (AreWhole buffers locks) ends
  whole_locked [] may = tt
  whole_locked (s ∷ ends) may = (whole_own buffers locks s may.0.own (none_there locks s.by s.arrivals.gave s.last s.intake none may.0.own.way), whole_locked ends may.1)

  pub reunite_locked : (ends : List (Seats B)) → AllByRecursion (MaySend buffers locks) ends → AllZip (Reunites locks) ends ends
  reunite_locked [] may = tt
  reunite_locked (s ∷ ends) may = (reunites_own buffers locks s may.0.own, reunite_locked ends may.1)

module _ {B : Type 0} where
  sends_to : (locks : Locks B) (intake : ℕ × ℕ) (by : ℕ) (gave : List ℕ) (last : Clock) (at_intake : AtIntake B) → locks.intake ≡ Some intake → IsAtIntake locks by gave last at_intake → SendsTo intake at_intake
  sends_to locks intake by gave last at.Nothing is way = tt
  sends_to locks intake by gave last (at.Sends outbox) is way = some_same (sym way.intake ∙ is)
  sends_to locks intake by gave last (at.Takes inbox) is way = tt
  sends_to locks intake by gave last at.Finished is way = tt

  -- an inbox may still give passes back where it took nothing more
  pub still_reunites : (locks : Locks B) (intake : ℕ × ℕ) (old new : Inbox B) → MayReunite locks intake old → new.taker ≡ old.taker → left_of new ≡ left_of old → IsInbox locks.arrivals new → MayReunite locks intake new
  still_reunites locks intake old new may taker left own = record {
    own = own;
    same = ap (λ (t : TakerView ReadLeaseOf). t.intake) taker ∙ may.same;
    shared = may.shared;
    none = left ∙ may.none;
    all = subst (λ (t : TakerView ReadLeaseOf). HasAll t) (sym taker) may.all;
  }

  -- callers that may send have their senders at the intake that is shared
  pub all_send_to : (buffers : TableId) (locks : Locks B) (intake : ℕ × ℕ) (ends : List (Seats B)) → locks.intake ≡ Some intake → AllByRecursion (MaySend buffers locks) ends → AllByRecursion (λ (s : Seats B). SendsTo intake s.intake) ends
  all_send_to buffers locks intake [] is may = tt
  all_send_to buffers locks intake (s ∷ ends) is may = (sends_to locks intake s.by s.arrivals.gave s.last s.intake is may.0.own.way, all_send_to buffers locks intake ends is may.1)

  pub all_heard : (old new : TakerView ReadLeaseOf) (ends : List (Seats B)) → new.heard ≡ old.heard → AllByRecursion (λ (s : Seats B). IsHeard old s.intake) ends → AllByRecursion (λ (s : Seats B). IsHeard new s.intake) ends
  all_heard old new [] same heard = tt
  all_heard old new (s ∷ ends) same heard =
      (heard_still old new s.intake (λ p there. subst (λ (ps : List (ℕ × List (Post ReadLeaseOf))). Contains ps p) (sym same) there) heard.0, all_heard old new ends same heard.1)

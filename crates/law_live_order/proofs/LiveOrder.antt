-- What threads did is in one order: that of the stamps.
use Rattle.std.proofs.Common.{◌≡◌, ◌≢◌, ℕ, zero, suc, pred, ◌+◌, ◌*◌, ◌-◌, ◌<◌, ◌≤◌, true, List, [], ◌∷◌, ◌++◌, length, get_or, map, reverse, Option, Some, None, slice_get, refl, sym, ap, subst, ◌∙◌, inl, inr, true≢false, arith}
use Rattle.std.specs.Prelude.{Contains, ◌⊎◌, is_none, option_map}
use Rattle.std.specs.List.{AllZip}
use Rattle.std.proofs.lemmas.Bool.{cases_lt}
use Rattle.std.proofs.lemmas.List.{get_or-append_right, get_or_append_left, length-append, map-append, reverse-append}
use Rattle.std.proofs.lemmas.List.Elements.{All-contains, Contains-append_left, Contains-append_right, Contains-get_or}
use Rattle.std.proofs.lemmas.Option.{get_or_from_slice_get, slice_get-map, slice_get_read, slice_get_within}
use Rattle.atomic_table.specs.Seated.{TableId}
use Rattle.law_order.specs.Order.{ArrivalAt, CallAt, Happened, InOneOrder, IsArrival, IsCall, IsLaterStep, IsLaterThere}
use Rattle.law_threads.specs.sf_actor.Desks.{mark_among}
use Rattle.law_threads.specs.sf_actor.Known.{plain_arrival}
use Rattle.law_threads.specs.sf_actor.Plain.{PlainOf, home_of as plain_home, view_of as plain_view}
use Rattle.law_threads.specs.sf_calls.Histories.{Begins, calls_by}
use Rattle.law_threads.specs.sf_live_compositor.Vsyncs.{Begin, More, Sitting, Vsyncs}
use Rattle.law_threads.specs.sf_calls_stamped.Stamps.{stamp_of}
use Rattle.law_threads.specs.sf_live_seats.Arriving.{ArrivalEntry, ArrivalsPass, Arriving}
use Rattle.law_threads.specs.sf_live_seats.Reuniting.{SendsAfter}
use Rattle.law_threads.specs.sf_live_seats.Seats.{AreSeats, calls_made, moments_of, post_moment, posts_of, sent_in, tells_of, view_of}
use Rattle.law_threads.specs.sf_live_seats.declared.first.FirstSeats.{FirstSeats}
use Rattle.law_threads.specs.sf_live_seats.declared.locks.Locks.{Locks}
use Rattle.law_threads.specs.sf_live_seats.declared.seats.Seats.{Seats}
use Rattle.law_threads.specs.sf_live_threads.Walks.{Moment}
use Rattle.law_threads.specs.sf_play.Players.{PlayOf, SoFar, arrived_at, run_so}
use Rattle.law_threads.specs.sf_record.declared.event.VsyncRecords.{VsyncRecords}
use Rattle.law_threads.specs.sf_record.declared.record.ArrivalEntry.{ArrivalEntry as ArrivalRecord}
use Rattle.law_threads.specs.sf_record.declared.record.CommitRecord.{CommitRecord}
use Rattle.law_threads.specs.sf_record.declared.record.HistoryEntry.{HistoryEntry}
use Rattle.law_threads.specs.sf_record.declared.record.QueueHistory.{QueueHistory}
use Rattle.law_threads.specs.sf_script_scene.Scene.{SceneValue}
use Rattle.law_threads.specs.sf_surface.Histories.{Made, told, told_entry}
use Rattle.law_threads.specs.sf_surface.Tokens.{Issued, ReadLeaseOf}
use Rattle.law_threads.specs.sf_surface.declared.mark.QueueMark.{QueueMark}
use Rattle.law_threads.specs.sf_token.Arrivals.{sent}
use Rattle.law_threads.specs.sf_token.Pending.{Arrival}
use Rattle.law_threads.specs.sf_token.declared.arrivals.ArriveCall.TheVariants as arrive
use Rattle.law_threads.specs.sf_turns.Views.{SeatView}
use Rattle.law_threads.specs.sf_txn.Transactions.{Contents}
use Rattle.law_threads.specs.sf_txn.declared.lease.Lease.{Ghosts}
use Rattle.law_threads.specs.law_played.Actors.{IsCallBy, number_of}
use Rattle.law_threads.specs.law_played.Arrivals.{entry_of}
use Rattle.law_threads.specs.law_played.Histories.{entry_shown, history_shown, rising_queues}
use Rattle.law_threads.specs.law_played.Vsyncs.{vsyncs_in}
use Rattle.law_threads.specs.Joining.{CameBack, Joins, of_at}
use Rattle.law_threads.specs.Members.{stamps}
use Rattle.law_threads.specs.Stamped.{AreStamped}
use Rattle.law_threads.proofs.ActorAsCaller.{all_rise, told as told_of}
use Rattle.law_threads.proofs.CallCounts.{IsAt}
use Rattle.law_threads.proofs.CallStamps.{by_there, sent_there}
use Rattle.law_threads.proofs.ReturnedSeats.{AtJoin, at_join, reunited_at}
use Rattle.law_threads.proofs.law_played_lemmas.RunGrowth.{not_none}
use Rattle.law_threads.proofs.law_played_lemmas.Members.{has_cases, has_here, has_later, has_none, map_has}
use Rattle.law_joins.specs.Fronts.{AllFronts}
use Rattle.law_joins.specs.Joined.{IsJoined, player_joined, so_joined}
use Rattle.law_joins.proofs.Ends.{IsBack}
use Rattle.law_joins.proofs.PlayerAtJoin.{actors, arrivals_go, back, called, callers, first_by, none_last, none_pending, only, reports_are, senders, took, uncalled}
use Rattle.law_joins.proofs.SeatsTakenIn.{meets_arrivals}
use Rattle.law_joins.proofs.Stamps.{joined_fronts}
use Rattle.law_live_order.proofs.ArrivalStamps.{IsSentAt, arrival_stamp, sent_at, sent_rises, stamp_sent}
use Rattle.law_live_order.proofs.CommittedArrivals.{commits_timed}
use Rattle.law_live_order.proofs.CompositorCalls.{IsTimedCall, calls_timed, own_was}
use Rattle.law_live_order.proofs.VsyncStamps.{stamp_rises, vsync_stamp}

is_nothing : {X : Type 0} (o : Option X) → is_none o ≡ true → o ≡ None
is_nothing None none = refl
is_nothing (Some x) none = absurd (true≢false (sym none))

some_is : {X : Type 0} (x y : X) → Some x ≡ Some y → x ≡ y
some_is x y e = cc (e)

front_get : {X : Type 0} (ys zs : List X) (i : ℕ) (x : X) → i < length ys → slice_get (ys ++ zs) i ≡ Some x → slice_get ys i ≡ Some x
front_get ys zs i x low e = slice_get_read ys (length ys) i x refl low (sym (sym (get_or_append_left ys zs x i low) ∙ get_or_from_slice_get (ys ++ zs) i x x e))

last_get : {X : Type 0} (ys : List X) (y : X) (i : ℕ) (x : X) → length ys ≤ i → slice_get (ys ++ y ∷ []) i ≡ Some x → (y ≡ x) × (length ys ≡ i)
last_get ys y i x high e =
    let within = slice_get_within (ys ++ y ∷ []) i x e in
    let long = length-append ys (y ∷ []) in
    let here : i ≡ length ys = omega (arith, within, long, high) in
    let none : i - length ys ≡ 0 = omega (arith, here) in (
      sym (get_or-append_right ys (y ∷ []) (length ys) i x refl high ∙ ap (λ (k : ℕ). get_or (y ∷ []) k x) none) ∙ get_or_from_slice_get (ys ++ y ∷ []) i x x e,
      sym here,
    )

-- a call that sends is of one step
one_step : (asked : Arriving) (n m : ℕ) (one other : Contents ReadLeaseOf) → asked ≡ arrive.Send n one → asked ≡ arrive.Send m other → n ≡ m
one_step asked n m one other is is_other = cc

-- the call that an entry of a history shows
pub record IsMadeAt {B : Type 0} (calls : List (Made B)) (place : ℕ) (entry : HistoryEntry) : Type 0 where
  pub made : Made B
  pub earlier : List (Made B)
  pub at : IsAt calls place made earlier
  pub caller : entry.caller ≡ made.by
  pub step : entry.step ≡ made.call.0

module _ {B : Type 0} (mark : QueueMark) where
  abbrev shown_calls : List (Made B) → List HistoryEntry
  shown_calls calls = map entry_shown (reverse (told mark calls))

  shown_more : (m : Made B) (calls : List (Made B)) → shown_calls (m ∷ calls) ≡ shown_calls calls ++ entry_shown (told_entry mark (told mark calls) m) ∷ []
  unfolding told
  shown_more m calls =
      ap (map entry_shown) (reverse-append (told_entry mark (told mark calls) m ∷ []) (told mark calls)) ∙ map-append entry_shown (reverse (told mark calls)) (told_entry mark (told mark calls) m ∷ [])

  shown_long : (calls : List (Made B)) → length (shown_calls calls) ≡ length calls
  unfolding told
  shown_long [] = refl
  shown_long (m ∷ calls) =
      let more = ap (λ (es : List HistoryEntry). length es) (shown_more m calls) in
      let long = length-append (shown_calls calls) (entry_shown (told_entry mark (told mark calls) m) ∷ []) in
      let rest = shown_long calls in
      omega (arith, more, long, rest)

  made_at : (calls : List (Made B)) (place : ℕ) (entry : HistoryEntry) → slice_get (shown_calls calls) place ≡ Some entry → IsMadeAt calls place entry
  unfolding told entry_shown
  made_at [] place entry got = absurd (let within = slice_get_within (shown_calls []) place entry got in omega (arith, within))
  made_at (m ∷ calls) place entry got = by_place (made_at calls place entry) (cases_lt place (length (shown_calls calls)))
    where
      joined : slice_get (shown_calls calls ++ entry_shown (told_entry mark (told mark calls) m) ∷ []) place ≡ Some entry
      joined = ap (λ (es : List HistoryEntry). slice_get es place) (sym (shown_more m calls)) ∙ got

      older : IsMadeAt calls place entry → IsMadeAt (m ∷ calls) place entry
      older is = record {
        made = is.made;
        earlier = is.earlier;
        at = record { more = m ∷ is.at.more; is = ap (λ (ms : List (Made B)). m ∷ ms) is.at.is; height = is.at.height };
        caller = is.caller;
        step = is.step;
      }

      by_place : (slice_get (shown_calls calls) place ≡ Some entry → IsMadeAt calls place entry) → (place < length (shown_calls calls)) ⊎ (length (shown_calls calls) ≤ place) → IsMadeAt (m ∷ calls) place entry
      by_place rest (inl low) = older (rest (front_get (shown_calls calls) (entry_shown (told_entry mark (told mark calls) m) ∷ []) place entry low joined))
      by_place rest (inr high) =
          let last = last_get (shown_calls calls) (entry_shown (told_entry mark (told mark calls) m)) place entry high joined in
          record {
            made = m;
            earlier = calls;
            at = record { more = []; is = refl; height = sym (shown_long calls) ∙ last.1 };
            caller = ap (λ (e : HistoryEntry). e.caller) (sym last.0);
            step = ap (λ (e : HistoryEntry). e.step) (sym last.0);
          }

module _ {B : Type 0} (lease : Ghosts ReadLeaseOf SeatView ReadLeaseOf Issued) (table : TableId) (locks : Locks B) (period : ℕ) (first : FirstSeats B) where
  all_stamped : (start last : Sitting B) (log : Vsyncs lease table locks period start last) → AllFronts lease table locks period first log → AreStamped lease table locks period first log
  all_stamped start last Begin fronts = tt
  all_stamped start last (More {before} {after} log v) fronts = (all_stamped start before log fronts.0, record { queues = fronts.1.queues; arrivals = fronts.1.arrivals })

module _ {B : Type 0} (lease : Ghosts ReadLeaseOf SeatView ReadLeaseOf Issued) (scene : SceneValue) (table : TableId) (period most : ℕ) (locks : Locks B) (last : Sitting B) (ends : List (Moment B)) (desk : PlainOf B)
    (is : IsJoined lease scene table period most locks last ends desk) where
  abbrev j : Joins lease scene table period most locks last ends desk
  j = is.joins

  abbrev seen : List ArrivalEntry
  seen = j.first.seats.arrivals.seen

  abbrev so : SoFar B
  so = so_joined lease scene table period most locks last ends desk is

  abbrev play : PlayOf B
  play = (player_joined scene ends desk last).play

  -- what happened up to the join
  abbrev pub happened_here : Happened
  happened_here = record { histories = map (history_shown (run_so so play)) (rising_queues scene); arrived = map entry_of (arrived_at play); vsyncs = vsyncs_in so.events }

  abbrev stamp : ℕ → ℕ → ℕ
  stamp queue place = stamps j.first (suc queue, place)

  stamped : AreStamped lease table locks period j.first j.log
  stamped = all_stamped lease table locks period j.first j.begins last j.log (joined_fronts lease scene table period most locks last ends desk j)

  -- an actor that came back, of this number
  record IsActor (by : ℕ) : Type 0 where
    end : Moment B
    there : Contains ends end
    own : AreSeats table locks end.seats
    served : end.seats.by ≡ by
    join : AtJoin locks j.first desk end.seats

  own_at : (starts ends : List (Moment B)) → AllZip (CameBack scene table locks) starts ends → (end : Moment B) → Contains ends end → AreSeats table locks end.seats
  own_at [] [] came end there = has_none end there
  own_at [] (e ∷ ends) came end there = absurd came
  own_at (s ∷ starts) [] came end there = absurd came
  own_at (s ∷ starts) (e ∷ ends) came end there = elim (has_cases e end ends there) [
    | inl same ↦ subst (λ (m : Moment B). AreSeats table locks m.seats) same came.0.own
    | inr later ↦ own_at starts ends came.1 end later
  ]

  actor_of : (by : ℕ) → (by ≡ 0 → ⊥) → Contains (map number_of (map of_at ends)) by → IsActor by
  actor_of by some there =
      let of = map_has number_of (map of_at ends) by there in
      let end = map_has of_at ends of.0 of.1 in
      let is_back = All-contains (IsBack scene table locks) ends end.0 (back lease scene table period most locks last ends desk is) end.1 in
      let served : end.0.seats.by ≡ by = is_back.served ∙ ap (λ of. of.script.number) end.2 ∙ of.2 in
      let taken = reunited_at locks ends j.reunited j.reunites end.0 end.1 in
      record {
        end = end.0;
        there = end.1;
        own = own_at j.starts ends j.came end.0 end.1;
        served = served;
        join = at_join locks j.first desk j.ordered j.goes_on end.0.seats (λ none. some (sym served ∙ none)) (record {
          reunited = taken.reunited;
          there = subst (λ (list : List (Seats B)). Contains list taken.reunited) (sym (took lease scene table period most locks last ends desk is)) taken.there;
          reunites = taken.reunites;
        });
      }

  -- a call that the records show
  record IsCallMade (c : CallAt) : Type 0 where
    shown : IsMadeAt ((plain_view desk).calls c.queue) c.place c.entry
    has : Contains ((plain_view desk).calls c.queue) shown.made

  at_has : (calls : List (Made B)) (place : ℕ) (made : Made B) (earlier : List (Made B)) → IsAt calls place made earlier → Contains calls made
  at_has calls place made earlier at = subst (λ (ms : List (Made B)). Contains ms made) (sym at.is) (behind at.more)
    where
      behind : (more : List (Made B)) → Contains (more ++ made ∷ earlier) made
      behind [] = has_here made earlier
      behind (m ∷ more) = has_later m made (more ++ made ∷ earlier) (behind more)

  call_made : (c : CallAt) → IsCall happened_here c → IsCallMade c
  call_made c call =
      let h = map_has (history_shown (run_so so play)) (rising_queues scene) call.history call.there in
      let number : h.0.number ≡ c.queue = ap (λ (history : QueueHistory). history.queue) h.2 ∙ call.of_queue in
      let got : slice_get (shown_calls (mark_among (plain_home desk).marks h.0.number) ((plain_view desk).calls h.0.number)) c.place ≡ Some c.entry =
      ap (λ (history : QueueHistory). slice_get history.entries c.place) h.2 ∙ call.at in
      let there = made_at (mark_among (plain_home desk).marks h.0.number) ((plain_view desk).calls h.0.number) c.place c.entry got in
      let shown : IsMadeAt ((plain_view desk).calls c.queue) c.place c.entry = subst (λ (q : ℕ). IsMadeAt ((plain_view desk).calls q) c.place c.entry) number there in
      record { shown = shown; has = at_has ((plain_view desk).calls c.queue) c.place shown.made shown.earlier shown.at }

  -- an actor's call, with its stamp, among what it did
  by_actor : (c : CallAt) (m : IsCallMade c) → c.entry.caller ≢ 0 → IsActor c.entry.caller
  by_actor c m some = elim (All-contains (IsCallBy (map of_at ends)) ((plain_view desk).calls c.queue) m.shown.made (callers lease scene table period most locks last ends desk is c.queue) m.has) [
    | inl compositor ↦ absurd (some (m.shown.caller ∙ compositor.0))
    | inr actor ↦ actor_of c.entry.caller some (subst (λ (n : ℕ). Contains (map number_of (map of_at ends)) n) (sym m.shown.caller) actor)
  ]

  moment_of : (by : ℕ) (actor : IsActor by) (c : CallAt) (m : IsCallMade c) → c.entry.caller ≡ by → Contains (moments_of actor.end.seats) (c.entry.step, stamp c.queue c.place)
  moment_of by actor c m own =
      let at = m.shown.at in
      subst (λ (n : ℕ). Contains (moments_of actor.end.seats) (n, stamp c.queue c.place)) (sym m.shown.step)
      (subst (λ (p : ℕ). Contains (moments_of actor.end.seats) (m.shown.made.call.0, stamp c.queue p)) at.height
      (told_of table locks j.first desk j.closes j.ordered j.is_first.own actor.end.seats actor.own actor.join c.queue m.shown.made m.shown.earlier
      (record { more = at.more; is = at.is; height = refl }) (sym m.shown.caller ∙ own ∙ sym actor.served)))

  histories_rise : (one next : CallAt) → IsCall happened_here one → IsCall happened_here next → IsLaterThere one next → stamp one.queue one.place < stamp next.queue next.place
  histories_rise one next a b later =
      let n = call_made next b in
      let at = n.shown.at in
      let long = ap (λ (ms : List (Made B)). length ms) at.is in
      let many = length-append at.more (n.shown.made ∷ n.shown.earlier) in
      let height = at.height in
      let low : next.place < length ((plain_view desk).calls next.queue) = omega (arith, long, many, height) in
      subst (λ (q : ℕ). stamp q one.place < stamp next.queue next.place) (sym later.queue)
      (all_rise table locks j.first desk j.closes j.ordered j.is_first.own (suc next.queue) one.place next.place later.place low)

  steps_rise : (one next : CallAt) → IsCall happened_here one → IsCall happened_here next → IsLaterStep one next → stamp one.queue one.place < stamp next.queue next.place
  steps_rise one next a b later =
      let m = call_made one a in
      let n = call_made next b in
      let actor = by_actor one m later.of_actor in
      actor.own.in_order.rise (one.entry.step, stamp one.queue one.place) (next.entry.step, stamp next.queue next.place) (moment_of one.entry.caller actor one m refl)
      (moment_of one.entry.caller actor next n (sym later.caller)) later.step

  -- what arrived, with the call that sent it
  record IsArrived (s : ArrivalAt) : Type 0 where
    place : ℕ
    number : s.number ≡ suc place
    arrived : Arrival ReadLeaseOf
    there : Contains (sent desk.arrivals) arrived
    by : s.entry.actor ≡ arrived.actor.0
    step : s.entry.step ≡ arrived.step
    sent_by : IsSentAt seen place arrived

  arrived_at_number : (s : ArrivalAt) (n : ℕ) → s.number ≡ n → IsArrival happened_here s → IsArrived s
  arrived_at_number s zero e arrival = let low = arrival.from_1 in absurd (omega (arith, low, e))
  arrived_at_number s (suc place) e arrival = by_got (slice_get (sent desk.arrivals) place) refl
    where
      got : slice_get (map entry_of (map plain_arrival (sent desk.arrivals))) place ≡ Some s.entry
      got = ap (slice_get (map entry_of (map plain_arrival (sent desk.arrivals)))) (sym (ap pred e)) ∙ arrival.at

      both : slice_get (map entry_of (map plain_arrival (sent desk.arrivals))) place ≡ option_map entry_of (option_map plain_arrival (slice_get (sent desk.arrivals) place))
      both = slice_get-map entry_of (map plain_arrival (sent desk.arrivals)) place ∙ ap (option_map entry_of) (slice_get-map plain_arrival (sent desk.arrivals) place)

      by_got : (o : Option (Arrival ReadLeaseOf)) → slice_get (sent desk.arrivals) place ≡ o → IsArrived s
      by_got None none = absurd (cc (sym got ∙ both ∙ ap (λ (o : Option (Arrival ReadLeaseOf)). option_map entry_of (option_map plain_arrival o)) none))
      by_got (Some arrived) some =
          let entry : entry_of (plain_arrival arrived) ≡ s.entry =
          some_is (entry_of (plain_arrival arrived)) s.entry (sym (both ∙ ap (λ (o : Option (Arrival ReadLeaseOf)). option_map entry_of (option_map plain_arrival o)) some) ∙ got) in
          record {
            place = place;
            number = e;
            arrived = arrived;
            there = subst (Contains (sent desk.arrivals)) (get_or_from_slice_get (sent desk.arrivals) place arrived arrived some)
                (Contains-get_or (sent desk.arrivals) place arrived (slice_get_within (sent desk.arrivals) place arrived some));
            by = ap (λ (r : ArrivalRecord). r.actor) (sym entry);
            step = ap (λ (r : ArrivalRecord). r.step) (sym entry);
            sent_by = sent_at seen place arrived (ap (λ calls. slice_get (sent calls) place) (sym j.closes.arrived) ∙ some);
          }

  -- an actor sent it
  actor_sends : (s : ArrivalAt) (sent_it : IsArrived s) → sent_it.arrived.actor.0 ≡ 0 → ⊥
  actor_sends s sent_it none =
      let named = All-contains (λ (arrived : Arrival ReadLeaseOf). Contains (map number_of (map of_at ends)) arrived.actor.0) (sent desk.arrivals) sent_it.arrived (senders lease scene table period most locks last ends desk is) sent_it.there in
      not_none scene (map of_at ends) (plain_home desk) (plain_view desk) 0 j.limits (actors lease scene table period most locks last ends desk is)
      (subst (Contains (map number_of (map of_at ends))) none named) refl

  -- the call that sent it is one of this actor
  own_send : (by : ℕ) (actor : IsActor by) (s : ArrivalAt) (sent_it : IsArrived s) → by ≡ s.entry.actor → Contains (calls_by actor.end.seats.by actor.join.reunited.arrivals.seen) sent_it.sent_by.e
  own_send by actor s sent_it same =
      let e = sent_it.sent_by.e in
      let own : e.by ≡ actor.end.seats.by = sent_it.sent_by.by ∙ sym sent_it.by ∙ sym same ∙ sym actor.served in
      subst (λ (es : List ArrivalEntry). Contains es e) actor.join.arrivals_on.calls
      (subst (λ (es : List ArrivalEntry). Contains (calls_by actor.end.seats.by es) e) (sym sent_it.sent_by.is) (by_there actor.end.seats.by sent_it.sent_by.more e sent_it.sent_by.earlier own))

  sends_rise : (one : CallAt) (s : ArrivalAt) → IsCall happened_here one → IsArrival happened_here s → one.entry.caller ≡ s.entry.actor → one.entry.step < s.entry.step → stamp one.queue one.place < arrival_stamp seen s.number
  sends_rise one s a b same less =
      let m = call_made one a in
      let sent_it = arrived_at_number s s.number refl b in
      let e = sent_it.sent_by.e in
      let actor = by_actor one m (λ none. actor_sends s sent_it (sym sent_it.by ∙ sym same ∙ none)) in
      let after : SendsAfter actor.end.seats e = actor.join.reunites.sends actor.join.other e (own_send one.entry.caller actor s sent_it same) in
      let step : after.step ≡ s.entry.step = one_step e.call.1 after.step sent_it.arrived.step after.txn sent_it.sent_by.txn after.sends sent_it.sent_by.sends ∙ sym sent_it.step in
      let above = after.above (one.entry.step, stamp one.queue one.place) (moment_of one.entry.caller actor one m refl) (omega (arith, less, step)) in
      let stamp_is = stamp_sent seen sent_it.place sent_it.arrived sent_it.sent_by in
      let number = ap (arrival_stamp seen) sent_it.number in
      omega (arith, above, stamp_is, number)

  -- where there is no intake, the call that sent it is among what its actor did
  told_rise : tells_of locks ≡ true → (s : ArrivalAt) (next : CallAt) → IsArrival happened_here s → IsCall happened_here next → s.entry.actor ≡ next.entry.caller → s.entry.step < next.entry.step
      → arrival_stamp seen s.number < stamp next.queue next.place
  told_rise tells s next b a same less =
      let n = call_made next a in
      let sent_it = arrived_at_number s s.number refl b in
      let e = sent_it.sent_by.e in
      let actor = by_actor next n (λ none. actor_sends s sent_it (sym sent_it.by ∙ same ∙ none)) in
      let seats = actor.end.seats in
      let there : Contains (calls_by seats.by seats.arrivals.seen) e =
      subst (λ (pass : ArrivalsPass). Contains (calls_by seats.by pass.seen) e) (actor.join.reunites.kept (is_nothing locks.intake tells)) (own_send next.entry.caller actor s sent_it (sym same)) in
      let sends : Contains (moments_of seats) (sent_it.arrived.step, stamp_of e) =
      Contains-append_right (calls_made seats.by seats.queues.items) (sent_in (calls_by seats.by seats.arrivals.seen) ++ map post_moment (posts_of seats.intake)) (sent_it.arrived.step, stamp_of e)
      (Contains-append_left (sent_in (calls_by seats.by seats.arrivals.seen)) (map post_moment (posts_of seats.intake)) (sent_it.arrived.step, stamp_of e)
      (sent_there (calls_by seats.by seats.arrivals.seen) e sent_it.arrived.step sent_it.sent_by.txn there sent_it.sent_by.sends)) in
      let step = sent_it.step in
      let rise = actor.own.in_order.rise (sent_it.arrived.step, stamp_of e) (next.entry.step, stamp next.queue next.place) sends (moment_of next.entry.caller actor next n refl) (omega (arith, less, step)) in
      let stamp_is = stamp_sent seen sent_it.place sent_it.arrived sent_it.sent_by in
      let number = ap (arrival_stamp seen) sent_it.number in
      omega (arith, rise, stamp_is, number)

  -- the compositor's calls
  compositor_call : (c : CallAt) → IsCall happened_here c → c.entry.caller ≡ 0 → IsTimedCall lease table locks period j.first j.log c.entry.step (stamp c.queue c.place)
  compositor_call c call compositor =
      let m = call_made c call in
      let own : m.shown.made.by ≡ 0 = sym m.shown.caller ∙ compositor in
      let was = own_was 0 c.place ((view_of last.seats).calls c.queue) ((plain_view desk).calls c.queue) m.shown.made m.shown.earlier (called lease scene table period most locks last ends desk is c.queue) m.shown.at own in
      subst (λ (n : ℕ). IsTimedCall lease table locks period j.first j.log n (stamp c.queue c.place)) (sym m.shown.step)
      (calls_timed lease table locks period j.first j.begins last j.log j.number (uncalled lease scene table period most locks last ends desk is) (first_by lease scene table period most locks last ends desk is) stamped
      c.queue c.place m.shown.made m.shown.earlier was own)

  begins_all : Begins last.seats.arrivals.seen seen
  begins_all = subst (λ (seats : Seats B). Begins seats.arrivals.seen seen) j.at_last (meets_arrivals j.attended.seats.by j.attended j.reunited j.first refl j.met).begins

  commits_rise : (at : VsyncRecords) (commit : CommitRecord) → Contains (vsyncs_in so.events) at → Contains at.commits commit
      → arrival_stamp seen commit.arrival < vsync_stamp lease table locks period j.log at.number
  commits_rise at commit there has =
      (commits_timed lease table locks period scene desk.arrivals (only lease scene table period most locks last ends desk is) seen j.ordered.arrivals j.begins last j.log
      (none_last lease scene table period most locks last ends desk is) (none_pending lease scene table period most locks last ends desk is) j.nothing.arrivals
      (first_by lease scene table period most locks last ends desk is) (arrivals_go lease scene table period most locks last ends desk is).begins begins_all at commit
      (subst (λ (rs : List VsyncRecords). Contains rs at) (reports_are lease scene table period most locks last ends desk is) there) has).behind

  pub in_one_order : InOneOrder (tells_of locks) happened_here
  in_one_order = record {
    call = λ c. 2 * stamp c.queue c.place + 1;
    arrival = λ n. 2 * arrival_stamp seen n + 1;
    vsync = λ n. 2 * vsync_stamp lease table locks period j.log n;
    histories = λ one next a b later. let less = histories_rise one next a b later in omega (arith, less);
    arrivals = λ one next less. let rise = sent_rises seen j.ordered.arrivals one next less in omega (arith, rise);
    vsyncs = λ one next less. let rise = stamp_rises lease table locks period j.begins last j.log j.number one next less in omega (arith, rise);
    steps = λ one next a b later. let less = steps_rise one next a b later in omega (arith, less);
    sends = λ one s a b same less. let rise = sends_rise one s a b same less in omega (arith, rise);
    told = λ tells s next b a same less. let rise = told_rise tells s next b a same less in omega (arith, rise);
    commits = λ at commit there has. let less = commits_rise at commit there has in omega (arith, less);
    releases = λ one a compositor. let timed = compositor_call one a compositor in let behind = timed.behind in omega (arith, behind);
    ends = λ one next a compositor less. let timed = compositor_call one a compositor in let before = timed.before next less in omega (arith, before);
  }

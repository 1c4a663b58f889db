-- A log that tells of a state is an order of what the state's records show.
use Rattle.std.proofs.Common.{◌≡◌, ℕ, suc, zero, pred, ◌+◌, ◌<◌, ◌≤◌, Bool, true, List, ◌∷◌, length, map, reverse, Some, slice_get, refl, sym, ap, subst, ◌∙◌, inl, inr, arith, Contains}
use Rattle.std.proofs.lemmas.Bool.{cases_lt}
use Rattle.std.proofs.lemmas.List.{length-map}
use Rattle.std.proofs.lemmas.Option.{slice_get-map, slice_get_within}
use Rattle.std.specs.Prelude.{option_map}
use Rattle.law_order.specs.Order.{ArrivalAt, CallAt, InOneOrder, IsArrival, IsCall, IsLaterStep, IsLaterThere}
use Rattle.law_played.specs.sf_actor.Names.{FrameOf}
use Rattle.law_played.specs.sf_record.declared.event.VsyncRecords.{VsyncRecords}
use Rattle.law_played.specs.sf_record.declared.record.ArrivalEntry.{ArrivalEntry}
use Rattle.law_played.specs.sf_record.declared.record.CommitRecord.{CommitRecord}
use Rattle.law_played.specs.sf_record.declared.record.HistoryEntry.{HistoryEntry}
use Rattle.law_played.specs.sf_record.declared.record.QueueHistory.{QueueHistory}
use Rattle.law_played.specs.sf_script_scene.Scene.{SceneValue}
use Rattle.law_played.specs.sf_token.Pending.{Arrival}
use Rattle.law_played.specs.Arrivals.{entry_of}
use Rattle.law_played.specs.Histories.{entry_shown, history_shown, rising_queues}
use Rattle.law_played.specs.RunStates.{RunState}
use Rattle.law_play_order.proofs.Logs.{Arrived, Follows, IsEnd, IsNumber, Moment, Vsynced, arrival_in, count, is_arrival, is_on, is_vsync, items, number_of, on, owner, step_of}
use Rattle.law_play_order.proofs.Found.{Found, end_fewer, end_shorter, find_at, head_is, member, number_at, timely_at}
use Rattle.law_play_order.proofs.OrderOfTransitions.{IsWithin, Tells, arrival_is, before, by_places, by_steps, call_on, end_within, happened, inside, item_at, items_long, mapped, no_call, number_here, number_low, outside, some_is, total, total_rises, vsync_is}

-- a call that the records show, in the log
record CallIn (log : List Moment) (c : CallAt) : Type 0 where
  found : Found (is_on c.queue) c.place log
  of : owner found.at ≡ c.entry.caller
  step : step_of found.at ≡ c.entry.step

record ArrivalIn (log : List Moment) (s : ArrivalAt) : Type 0 where
  place : ℕ
  number : s.number ≡ suc place
  found : Found is_arrival place log
  low : place < count is_arrival log
  of : owner found.at ≡ s.entry.actor
  step : step_of found.at ≡ s.entry.step

module _ (scene : SceneValue) (state : RunState) (log : List Moment) (tells : Tells state log) where
  call_in : (c : CallAt) → IsCall (happened scene state) c → CallIn log c
  unfolding entry_shown
  call_in c is =
      let h = mapped (history_shown state.run) (rising_queues scene) is.history is.there in
      let number : h.from.number ≡ c.queue = ap (λ (history : QueueHistory). history.queue) h.is ∙ is.of_queue in
      let shown : map entry_shown (reverse (state.run.calls h.from.number)) ≡ is.history.entries = ap (λ (history : QueueHistory). history.entries) h.is in
      let told : map entry_shown (items (on c.queue) log) ≡ is.history.entries =
      ap (map entry_shown) (tells.calls c.queue ∙ ap (λ queue. reverse (state.run.calls queue)) (sym number)) ∙ shown in
      let got : slice_get (map entry_shown (items (on c.queue) log)) c.place ≡ Some c.entry = ap (λ (entries : List HistoryEntry). slice_get entries c.place) told ∙ is.at in
      let long = length-map (items (on c.queue) log) entry_shown in
      let many = items_long (on c.queue) log in
      let within = slice_get_within (map entry_shown (items (on c.queue) log)) c.place c.entry got in
      let low : c.place < count (is_on c.queue) log = omega (arith, within, long, many) in
      let f = find_at (is_on c.queue) c.place log low in
      let on-it = call_on c.queue f.at f.is in
      let item : slice_get (items (on c.queue) log) c.place ≡ Some on-it.entry =
      ap (slice_get (items (on c.queue) log)) (sym f.many) ∙ item_at (on c.queue) f.at f.older log on-it.entry f.end on-it.picked in
      let entry : entry_shown on-it.entry ≡ c.entry =
      some_is (entry_shown on-it.entry) c.entry (sym (slice_get-map entry_shown (items (on c.queue) log) c.place ∙ ap (option_map entry_shown) item) ∙ got) in
      record {
        found = f;
        of = ap owner on-it.is ∙ ap (λ (e : HistoryEntry). e.caller) entry;
        step = ap step_of on-it.is ∙ ap (λ (e : HistoryEntry). e.step) entry;
      }

  arrival_found : (s : ArrivalAt) (n : ℕ) → s.number ≡ n → IsArrival (happened scene state) s → ArrivalIn log s
  arrival_found s zero e is = let low = is.from_1 in absurd (omega (arith, low, e))
  arrival_found s (suc place) e is =
      let at : pred s.number ≡ place = ap pred e in
      let got : slice_get (map entry_of (items arrival_in log)) place ≡ Some s.entry =
      ap (λ (l : List (Arrival FrameOf)). slice_get (map entry_of l) place) tells.arrivals ∙ ap (slice_get (map entry_of state.arrivals)) (sym at) ∙ is.at in
      let long = length-map (items arrival_in log) entry_of in
      let many = items_long arrival_in log in
      let within = slice_get_within (map entry_of (items arrival_in log)) place s.entry got in
      let low : place < count is_arrival log = omega (arith, within, long, many) in
      let f = find_at is_arrival place log low in
      let in-it = arrival_is f.at f.is in
      let item : slice_get (items arrival_in log) place ≡ Some in-it.arrived =
      ap (slice_get (items arrival_in log)) (sym f.many) ∙ item_at arrival_in f.at f.older log in-it.arrived f.end in-it.picked in
      let entry : entry_of in-it.arrived ≡ s.entry =
      some_is (entry_of in-it.arrived) s.entry (sym (slice_get-map entry_of (items arrival_in log) place ∙ ap (option_map entry_of) item) ∙ got) in
      record {
        place = place;
        number = e;
        found = f;
        low = low;
        of = ap owner in-it.is ∙ ap (λ (e : ArrivalEntry). e.actor) entry;
        step = ap step_of in-it.is ∙ ap (λ (e : ArrivalEntry). e.step) entry;
      }

  arrival_number : (s : ArrivalAt) (a : ArrivalIn log s) → total is_arrival s.number log ≡ number_of is_arrival a.place log
  arrival_number s a = ap (λ n. total is_arrival n log) a.number ∙ inside is_arrival a.place log a.low

  call_number : CallAt → ℕ
  call_number c = number_of (is_on c.queue) c.place log

  histories_rise : (one next : CallAt) → IsCall (happened scene state) one → IsCall (happened scene state) next → IsLaterThere one next → call_number one < call_number next
  unfolding call_number
  histories_rise one next is also later =
      let f = call_in one is in
      let g = call_in next also in
      let same : Found (is_on one.queue) next.place log = subst (λ queue. Found (is_on queue) next.place log) (sym later.queue) g.found in
      let rise = by_places log tells.timely (is_on one.queue) one.place next.place f.found same later.place in
      subst (λ queue. number_of (is_on one.queue) one.place log < number_of (is_on queue) next.place log) later.queue rise

  steps_rise : (one next : CallAt) → IsCall (happened scene state) one → IsCall (happened scene state) next → IsLaterStep one next → call_number one < call_number next
  unfolding call_number
  steps_rise one next is also later =
      let f = call_in one is in
      let g = call_in next also in
      by_steps log tells.timely (is_on one.queue) (is_on next.queue) one.place next.place f.found g.found (f.of ∙ later.caller ∙ sym g.of)
      (let a = f.step in let b = g.step in let c = later.step in omega (arith, a, b, c))

  sends_rise : (one : CallAt) (sent : ArrivalAt) → IsCall (happened scene state) one → IsArrival (happened scene state) sent → one.entry.caller ≡ sent.entry.actor → one.entry.step < sent.entry.step
      → call_number one < total is_arrival sent.number log
  unfolding call_number
  sends_rise one sent is also by less =
      let f = call_in one is in
      let g = arrival_found sent sent.number refl also in
      let rise = by_steps log tells.timely (is_on one.queue) is_arrival one.place g.place f.found g.found (f.of ∙ by ∙ sym g.of) (let a = f.step in let b = g.step in omega (arith, a, b, less)) in
      subst (λ n. number_of (is_on one.queue) one.place log < n) (sym (arrival_number sent g)) rise

  told_rise : (sent : ArrivalAt) (next : CallAt) → IsArrival (happened scene state) sent → IsCall (happened scene state) next → sent.entry.actor ≡ next.entry.caller → sent.entry.step < next.entry.step
      → total is_arrival sent.number log < call_number next
  unfolding call_number
  told_rise sent next is also by less =
      let f = arrival_found sent sent.number refl is in
      let g = call_in next also in
      let rise = by_steps log tells.timely is_arrival (is_on next.queue) f.place next.place f.found g.found (f.of ∙ by ∙ sym g.of) (let a = f.step in let b = g.step in omega (arith, a, b, less)) in
      subst (λ n. n < number_of (is_on next.queue) next.place log) (sym (arrival_number sent f)) rise

  -- the number of what is numbered in the log
  total_here : (kind : Moment → Bool) (a : Moment) (xs : List Moment) (n : ℕ) → kind a ≡ true → IsEnd (a ∷ xs) log → n ≡ count kind xs + 1 → total kind n log ≡ length xs + 1
  total_here kind a xs n is end e =
      let next : count kind xs + 1 ≡ suc (count kind xs) = omega arith in
      let fewer = end_fewer kind a xs log is end in
      ap (λ n. total kind n log) (e ∙ next) ∙ inside kind (count kind xs) log (omega (arith, fewer)) ∙ number_here kind a xs log is end

  commits_rise : (at : VsyncRecords) (commit : CommitRecord) → Contains state.reports at → Contains at.commits commit → total is_arrival commit.arrival log < total is_vsync at.number log
  commits_rise at commit there has =
      let c = tells.commits at commit there has in
      let inner = end_within (Arrived c.arrival) (Vsynced at.number) c.before c.older log c.there c.end in
      let first = total_here is_arrival (Arrived c.arrival) c.before commit.arrival refl inner (sym c.numbered ∙ number_at (Arrived c.arrival) c.before log tells.numbered inner) in
      let second = total_here is_vsync (Vsynced at.number) c.older at.number refl c.end (number_at (Vsynced at.number) c.older log tells.numbered c.end) in
      let less = end_shorter (Arrived c.arrival) c.before c.older c.there in
      omega (arith, first, second, less)

  -- a vsync of the log, by its number
  vsync_step : (place : ℕ) (g : Found is_vsync place log) → (owner g.at ≡ 0) × (step_of g.at ≡ suc place)
  vsync_step place g =
      let v = vsync_is g.at g.is in
      let number : v.number ≡ count is_vsync g.older + 1 = subst (λ m. IsNumber m g.older) v.is (number_at g.at g.older log tells.numbered g.end) in
      let many = g.many in
      (ap owner v.is, ap step_of v.is ∙ omega (arith, number, many))

  within_at : (c : CallAt) (f : CallIn log c) → c.entry.caller ≡ 0 → (1 ≤ c.entry.step) × (c.entry.step ≤ state.vsyncs)
  within_at c f compositor =
      let called = call_on c.queue f.found.at f.found.is in
      let within = subst (IsWithin state.vsyncs) called.is (member (IsWithin state.vsyncs) f.found.at f.found.older log tells.within f.found.end) in
      let of : called.entry.caller.0 ≡ 0 = sym (ap owner called.is) ∙ f.of ∙ compositor in
      let step : called.entry.step ≡ c.entry.step = sym (ap step_of called.is) ∙ f.step in
      let w = within of in
      let low = w.0 in
      let high = w.1 in
      (omega (arith, low, step), omega (arith, high, step))

  apart : (queue place other : ℕ) (f : Found (is_on queue) place log) (g : Found is_vsync other log) → f.at ≡ g.at → ⊥
  apart queue place other f g same = no_call queue f.at f.is (ap is_vsync same ∙ g.is)

  release_behind : (one : CallAt) (n : ℕ) → one.entry.step ≡ n → IsCall (happened scene state) one → one.entry.caller ≡ 0 → total is_vsync n log < call_number one
  unfolding call_number
  release_behind one zero e is compositor = let w = (within_at one (call_in one is) compositor).0 in absurd (omega (arith, w, e))
  release_behind one (suc place) e is compositor =
      let f = call_in one is in
      let w = (within_at one f compositor).1 in
      let many = tells.many in
      let low : place < count is_vsync log = omega (arith, w, e, many) in
      let g = find_at is_vsync place log low in
      let v = vsync_step place g in
      let rise = before log tells.timely is_vsync (is_on one.queue) place one.place g f.found
      (λ h. let kind = vsync_is g.at g.is in
      let follows = subst (λ m. Follows m f.found.at) kind.is (member (Follows g.at) f.found.at f.found.older g.older (timely_at g.at g.older log tells.timely g.end) h) in
      let less = follows (f.of ∙ compositor) in
      let own = f.step in let its = v.1 in let same = ap step_of kind.is in omega (arith, less, own, its, same, e))
      (λ same. apart one.queue one.place place f.found g (sym (head_is g.at f.found.at g.older f.found.older same))) in
      subst (λ n. n < number_of (is_on one.queue) one.place log) (sym (inside is_vsync place log low)) rise

  release_first : (one : CallAt) (next : ℕ) → IsCall (happened scene state) one → one.entry.caller ≡ 0 → one.entry.step < next → call_number one < total is_vsync next log
  unfolding call_number
  release_first one zero is compositor less = absurd (omega (arith, less))
  release_first one (suc place) is compositor less = elim (cases_lt place (count is_vsync log)) [
    | inl low ↦
        let f = call_in one is in
        let g = find_at is_vsync place log low in
        let v = vsync_step place g in
        let own = f.step in
        let its = v.1 in
        let rise = by_steps log tells.timely (is_on one.queue) is_vsync one.place place f.found g (f.of ∙ compositor ∙ sym v.0) (omega (arith, own, its, less)) in
        subst (λ n. number_of (is_on one.queue) one.place log < n) (sym (inside is_vsync place log low)) rise
    | inr high ↦
        let f = call_in one is in
        let most = (number_low (is_on one.queue) one.place log f.found).1 in
        let beyond = outside is_vsync place log high in
        omega (arith, most, beyond)
  ]

  pub in_order : InOneOrder true (happened scene state)
  in_order = record {
    call = call_number;
    arrival = λ n. total is_arrival n log;
    vsync = λ n. total is_vsync n log;
    histories = histories_rise;
    arrivals = total_rises log tells.timely is_arrival;
    vsyncs = total_rises log tells.timely is_vsync;
    steps = steps_rise;
    sends = sends_rise;
    told = λ t. told_rise;
    commits = commits_rise;
    releases = λ one is compositor. release_behind one one.entry.step refl is compositor;
    ends = release_first;
  }

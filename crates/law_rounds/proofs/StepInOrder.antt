-- What an actor does in one step more leaves all that happened in one order.
use Rattle.std.proofs.Common.{◌≡◌, ℕ, suc, ◌+◌, ◌<◌, ◌≤◌, ◌==◌, Bool, true, false, List, [], ◌∷◌, ◌++◌, length, map, filter, Some, slice_get, get_or, ◌-◌, Contains, refl, ap, sym, ◌∙◌, subst, arith}
use Rattle.std.specs.Prelude.{Option, if◌then◌else◌, reverse}
use Rattle.std.specs.List.{All, AllZip}
use Rattle.std.proofs.lemmas.Bool.{eq-eqb}
use Rattle.std.proofs.lemmas.List.{get_or-append_right, get_or-reverse, get_or_append_left, length-append, length-map, length-reverse, map-append, reverse-append}
use Rattle.std.proofs.lemmas.List.Elements.{All-append, All-cons, All-filter, All-head, All-map, All-nil, All-tail, All-weaker, filter-append}
use Rattle.std.proofs.lemmas.Option.{get_or_from_slice_get, slice_get_read, slice_get_within}
use Rattle.law_order.specs.Order.{CallAt, IsCall}
use Rattle.law_rounds.specs.OrderSoFar.{DoesMore}
use Rattle.law_rounds.specs.Shown.{shown_of}
use Rattle.sf_play.specs.sf_actor.Asking.{Asked, call_of, overtaken_by}
use Rattle.sf_play.specs.sf_actor.Makers.{Run}
use Rattle.sf_play.specs.sf_actor.Names.{FrameOf, Holdings}
use Rattle.sf_play.specs.sf_actor.ScriptTraces.{IsMade, made_on}
use Rattle.sf_play.specs.sf_actor.Steps.{used_by, was_done}
use Rattle.sf_play.specs.sf_actor.Traces.{DoneAt, MadeStep, Source, made_at, made_by, overtaken, own_call, release_at, source_in}
use Rattle.sf_play.specs.sf_actor.declared.done.Answered.{Answered}
use Rattle.sf_play.specs.sf_actor.declared.done.Answered.TheVariants as answered
use Rattle.sf_play.specs.sf_actor.declared.done.Done.{Done}
use Rattle.sf_play.specs.sf_actor.sf_slots.declared.calls.Entry.{Entry}
use Rattle.sf_play.specs.sf_script_scene.sf_picture.declared.picture.Picture.{Picture}
use Rattle.sf_play.specs.sf_record.declared.event.VsyncRecords.{VsyncRecords}
use Rattle.sf_play.specs.sf_record.declared.record.ArrivalEntry.{ArrivalEntry}
use Rattle.sf_play.specs.sf_record.declared.record.HistoryEntry.{HistoryEntry}
use Rattle.sf_play.specs.sf_record.declared.record.QueueHistory.{QueueHistory}
use Rattle.sf_play.specs.sf_script_scene.Scene.{SceneValue}
use Rattle.sf_play.specs.sf_script_scene.declared.declarations.QueueDecl.{QueueDecl}
use Rattle.sf_play.specs.sf_token.Pending.{Arrival}
use Rattle.sf_play.proofs.law_played_lemmas.Members.{has_map, map_has}
use Rattle.sf_play.proofs.law_played_lemmas.OrderLemmas.{kept_whole}
use Rattle.sf_play.proofs.law_played_lemmas.StepLemmas.{at_end, each_with, zip_later}
use Rattle.sf_play.specs.law_played.Arrivals.{entry_of}
use Rattle.sf_play.specs.law_played.Histories.{entry_shown, history_shown, rising_queues}
use Rattle.sf_play.specs.law_played.Runs.{calls_of}
use Rattle.sf_play.specs.law_played.Stepping.{CallsMore}

abbrev pub entries : Run → ℕ → List HistoryEntry
entries run queue = map entry_shown (reverse (run.calls queue))

-- a call that is shown is one on a declared queue
pub record IsShown (scene : SceneValue) (run : Run) (one : CallAt) : Type 0 where
  pub declared : QueueDecl
  pub there : Contains (rising_queues scene) declared
  pub number : declared.number ≡ one.queue
  pub at : slice_get (entries run one.queue) one.place ≡ Some one.entry

pub call_shown : (scene : SceneValue) (run : Run) (arrivals : List (Arrival FrameOf)) (vsyncs : List VsyncRecords) (one : CallAt) → IsCall (shown_of scene run arrivals vsyncs) one → IsShown scene run one
call_shown scene run arrivals vsyncs one is =
    let h = map_has (history_shown run) (rising_queues scene) is.history is.there in
    let number : h.0.number ≡ one.queue = ap (λ (history : QueueHistory). history.queue) h.2 ∙ is.of_queue in
    record {
      declared = h.0;
      there = h.1;
      number = number;
      at = subst (λ (q : ℕ). slice_get (entries run q) one.place ≡ Some one.entry) number (ap (λ (history : QueueHistory). slice_get history.entries one.place) h.2 ∙ is.at);
    }

shown_call : (scene : SceneValue) (run : Run) (arrivals : List (Arrival FrameOf)) (vsyncs : List VsyncRecords) (one : CallAt) → IsShown scene run one → IsCall (shown_of scene run arrivals vsyncs) one
shown_call scene run arrivals vsyncs one is = record {
  history = history_shown run is.declared;
  there = has_map (history_shown run) (rising_queues scene) is.declared is.there;
  of_queue = is.number;
  at = subst (λ (q : ℕ). slice_get (entries run q) one.place ≡ Some one.entry) (sym is.number) is.at;
}

entries_long : (run : Run) (queue : ℕ) → length (entries run queue) ≡ length (run.calls queue)
entries_long run queue =
    let one = length-map (reverse (run.calls queue)) entry_shown in
    let two = length-reverse (run.calls queue) in
    omega (arith, one, two)

-- an element in front of a place is the front's, and one behind it the rest's
front_get : {X : Type 0} (xs ys : List X) (i : ℕ) (x : X) → i < length xs → slice_get (xs ++ ys) i ≡ Some x → slice_get xs i ≡ Some x
front_get xs ys i x low e = slice_get_read xs (length xs) i x refl low (sym (sym (get_or_append_left xs ys x i low) ∙ get_or_from_slice_get (xs ++ ys) i x x e))

rest_get : {X : Type 0} (P : X → Type 0) (xs ys : List X) (i : ℕ) (x : X) → length xs ≤ i → slice_get (xs ++ ys) i ≡ Some x → All P ys → P x
rest_get P xs ys i x high e all =
    let within = slice_get_within (xs ++ ys) i x e in
    let long = length-append xs ys in
    subst P (sym (get_or-append_right xs ys (length xs) i x refl high) ∙ get_or_from_slice_get (xs ++ ys) i x x e) (all (i - length xs) x (omega (arith, within, long, high)))

all_reverse : {X : Type 0} (P : X → Type 0) (xs : List X) → All P xs → All P (reverse xs)
all_reverse P xs all k d in' =
    let size = length-reverse xs in
    let inside : k < length xs = omega (arith, size, in') in
    subst P (sym (get_or-reverse xs k d inside)) (all (length xs - 1 - k) d (omega (arith, inside)))

-- calls that are all of one step of one caller
abbrev pub IsOf : ℕ → ℕ → Entry → Type 0
IsOf by place entry = (entry.caller.0 ≡ by) × (entry.step ≡ place)

abbrev IsShownOf : ℕ → ℕ → HistoryEntry → Type 0
IsShownOf by place entry = (entry.caller ≡ by) × (entry.step ≡ place)

shown_by_it : (by place : ℕ) (more : List Entry) → All (IsOf by place) more → All (IsShownOf by place) (map entry_shown (reverse more))
unfolding entry_shown
shown_by_it by place more all = All-map (IsShownOf by place) entry_shown (reverse more) (all_reverse (IsOf by place) more all)

-- more calls on each queue, at most so many, all of one step of one caller, and what it sent in that step
pub record AddsCalls (by place : ℕ) (before after : Run) : Type 0 where
  pub more : ℕ → List Entry
  pub joined : (queue : ℕ) → after.calls queue ≡ more queue ++ before.calls queue
  pub of_it : (queue : ℕ) → All (IsOf by place) (more queue)
  pub most : ℕ
  pub few : (queue : ℕ) → length (more queue) ≤ most

module _ (scene : SceneValue) (by place : ℕ) (before after : Run) (arrivals since : List (Arrival FrameOf)) (vsyncs : List VsyncRecords) (adds : AddsCalls by place before after)
    (sent : All (λ (a : Arrival FrameOf). (a.actor.0 ≡ by) × (a.step ≡ place)) since) where
  grown : (queue : ℕ) → entries after queue ≡ entries before queue ++ map entry_shown (reverse (adds.more queue))
  grown queue =
      ap (λ (es : List Entry). map entry_shown (reverse es)) (adds.joined queue) ∙ ap (map entry_shown) (reverse-append (adds.more queue) (before.calls queue))
      ∙ map-append entry_shown (reverse (before.calls queue)) (reverse (adds.more queue))

  more_long : (queue : ℕ) → length (map entry_shown (reverse (adds.more queue))) ≡ length (adds.more queue)
  more_long queue =
      let one = length-map (reverse (adds.more queue)) entry_shown in
      let two = length-reverse (adds.more queue) in
      omega (arith, one, two)

  all_at : (one : CallAt) → IsShown scene after one → slice_get (entries before one.queue ++ map entry_shown (reverse (adds.more one.queue))) one.place ≡ Some one.entry
  all_at one is = ap (λ (es : List HistoryEntry). slice_get es one.place) (sym (grown one.queue)) ∙ is.at

  older_call : (one : CallAt) → IsShown scene after one → one.place < length (before.calls one.queue) → IsShown scene before one
  older_call one is low =
      let long = entries_long before one.queue in
      record {
        declared = is.declared;
        there = is.there;
        number = is.number;
        at = front_get (entries before one.queue) (map entry_shown (reverse (adds.more one.queue))) one.place one.entry (omega (arith, low, long)) (all_at one is);
      }

  newer_call : (one : CallAt) → IsShown scene after one → length (before.calls one.queue) ≤ one.place
      → (one.place < length (before.calls one.queue) + adds.most) × (one.entry.caller ≡ by) × (one.entry.step ≡ place)
  newer_call one is high =
      let long = entries_long before one.queue in
      let more = more_long one.queue in
      let whole = length-append (entries before one.queue) (map entry_shown (reverse (adds.more one.queue))) in
      let within = slice_get_within (entries before one.queue ++ map entry_shown (reverse (adds.more one.queue))) one.place one.entry (all_at one is) in
      let few = adds.few one.queue in
      let of_it = rest_get (IsShownOf by place) (entries before one.queue) (map entry_shown (reverse (adds.more one.queue))) one.place one.entry (omega (arith, high, long)) (all_at one is)
      (shown_by_it by place (adds.more one.queue) (adds.of_it one.queue)) in
      (omega (arith, long, more, whole, within, few), of_it.0, of_it.1)

  pub does_more : DoesMore by place (shown_of scene before arrivals vsyncs) (shown_of scene after (arrivals ++ since) vsyncs)
  does_more = record {
    many = λ queue. length (before.calls queue);
    most = adds.most;
    older = λ one is low. shown_call scene before arrivals vsyncs one (older_call one (call_shown scene after (arrivals ++ since) vsyncs one is) low);
    newer = λ one is high. newer_call one (call_shown scene after (arrivals ++ since) vsyncs one is) high;
    sent = map entry_of since;
    arrived = map-append entry_of arrivals since;
    sent_by = All-map (λ (e : ArrivalEntry). (e.actor ≡ by) × (e.step ≡ place)) entry_of since sent;
    vsyncs = refl;
  }

-- all calls of a step are made at its place
own_at : (place : ℕ) (o : Option Asked) (a : Answered) (source : Source) → All (λ (m : MadeStep). m.step ≡ place) (own_call place o a source)
own_at place (Some asked) (answered.Called replied) source =
    All-cons (λ (m : MadeStep). m.step ≡ place) (record { step = place; asked = asked; told = Some replied; brings = source }) [] refl (All-nil (λ (m : MadeStep). m.step ≡ place))
own_at place o a source = All-nil (λ (m : MadeStep). m.step ≡ place)

released_at : (place : ℕ) (frames : List FrameOf) → All (λ (m : MadeStep). m.step ≡ place) (map (release_at place) frames)
released_at place [] = All-nil (λ (m : MadeStep). m.step ≡ place)
released_at place (f ∷ fs) = All-cons (λ (m : MadeStep). m.step ≡ place) (release_at place f) (map (release_at place) fs) refl (released_at place fs)

overtaken_at : (place : ℕ) (holdings : Holdings) (done : Done) → All (λ (m : MadeStep). m.step ≡ place) (overtaken place holdings done)
overtaken_at place holdings done = by_test (was_done done.answered)
  where
    by_test : (b : Bool) → All (λ (m : MadeStep). m.step ≡ place) (if b then map (release_at place) (overtaken_by holdings done.step) else [])
    by_test true = released_at place (overtaken_by holdings done.step)
    by_test false = All-nil (λ (m : MadeStep). m.step ≡ place)

pub made_there : (pictures : ℕ → Picture) (at : DoneAt) → All (λ (m : MadeStep). m.step ≡ at.place) (made_at pictures at)
made_there pictures at =
    All-append (λ (m : MadeStep). m.step ≡ at.place) (own_call at.place (call_of pictures at.past.holdings at.done.step) at.done.answered (source_in at.past.since (used_by at.done.step)))
    (overtaken at.place at.past.holdings at.done)
    (own_at at.place (call_of pictures at.past.holdings at.done.step) at.done.answered (source_in at.past.since (used_by at.done.step))) (overtaken_at at.place at.past.holdings at.done)

-- calls that are made by steps are of these steps
steps_made : (place : ℕ) (ms : List MadeStep) (es : List Entry) → AllZip IsMade ms es → All (λ (m : MadeStep). m.step ≡ place) ms → All (λ (e : Entry). e.step ≡ place) es
steps_made place [] [] zip all = All-nil (λ (e : Entry). e.step ≡ place)
steps_made place [] (e ∷ es) zip all = absurd zip
steps_made place (m ∷ ms) [] zip all = absurd zip
steps_made place (m ∷ ms) (e ∷ es) zip all =
    All-cons (λ (e : Entry). e.step ≡ place) e es (zip.0.step ∙ All-head (λ (m : MadeStep). m.step ≡ place) m ms all) (steps_made place ms es zip.1 (All-tail (λ (m : MadeStep). m.step ≡ place) m ms all))

as_many : (ms : List MadeStep) (es : List Entry) → AllZip IsMade ms es → length es ≡ length ms
as_many [] [] zip = refl
as_many [] (e ∷ es) zip = absurd zip
as_many (m ∷ ms) [] zip = absurd zip
as_many (m ∷ ms) (e ∷ es) zip = ap suc (as_many ms es zip.1)

filter_few : {X : Type 0} (p : X → Bool) (xs : List X) → length (filter p xs) ≤ length xs
filter_few p [] = omega arith
filter_few p (x ∷ xs) = by_test (filter_few p xs) (p x)
  where
    by_test : length (filter p xs) ≤ length xs → (b : Bool) → length (if b then x ∷ filter p xs else filter p xs) ≤ length (x ∷ xs)
    by_test rest true = omega (arith, rest)
    by_test rest false = omega (arith, rest)

back_reverse : {X : Type 0} (P : X → Type 0) (xs : List X) → All P (reverse xs) → All P xs
back_reverse P xs all k d in' =
    let size = length-reverse xs in
    let inside : length xs - 1 - k < length xs = omega (arith, in') in
    let twice : length xs - 1 - (length xs - 1 - k) ≡ k = omega (arith, in') in
    subst P (get_or-reverse xs (length xs - 1 - k) d inside ∙ ap (λ (i : ℕ). get_or xs i d) twice) (all (length xs - 1 - k) d (omega (arith, size, inside)))

-- an actor did one step more: the calls that are its own are those of its steps
module _ (pictures : ℕ → Picture) (by : ℕ) (trace : List Done) (done : Done) (before after : Run) (calls : (queue : ℕ) → CallsMore by (before.calls queue) (after.calls queue))
    (was : (queue : ℕ) → AllZip IsMade (made_on queue (made_by pictures trace)) (calls_of by (before.calls queue)))
    (is : (queue : ℕ) → AllZip IsMade (made_on queue (made_by pictures (trace ++ done ∷ []))) (calls_of by (after.calls queue))) where
  abbrev made : List MadeStep
  made = made_at pictures (at_end trace done)

  newer : ℕ → List Entry
  newer queue = reverse (calls queue).more

  own_calls : (queue : ℕ) → calls_of by (after.calls queue) ≡ calls_of by (before.calls queue) ++ newer queue
  unfolding newer
  own_calls queue =
      ap (λ (es : List Entry). calls_of by es) (calls queue).joined
      ∙ (ap (filter (λ (e : Entry). e.caller.0 == by)) (reverse-append (calls queue).more (before.calls queue))
      ∙ (filter-append (λ (e : Entry). e.caller.0 == by) (reverse (before.calls queue)) (reverse (calls queue).more)
      ∙ ap (λ (es : List Entry). calls_of by (before.calls queue) ++ es) (kept_whole (λ (e : Entry). e.caller.0 == by) (reverse (calls queue).more)
      (All-weaker (λ (e : Entry). e.caller.0 ≡ by) (λ (e : Entry). (e.caller.0 == by) ≡ true) (λ e own. eq-eqb e.caller.0 by own) (reverse (calls queue).more)
      (all_reverse (λ (e : Entry). e.caller.0 ≡ by) (calls queue).more (calls queue).own)))))

  made_newer : (queue : ℕ) → AllZip IsMade (made_on queue made) (newer queue)
  made_newer queue =
      zip_later IsMade (made_on queue (made_by pictures trace)) (made_on queue made) (calls_of by (before.calls queue)) (newer queue) (was queue)
      (subst (λ ms. AllZip IsMade ms (calls_of by (before.calls queue) ++ newer queue))
      (ap (made_on queue) (each_with (made_at pictures) trace done) ∙ filter-append (λ (m : MadeStep). m.asked.0.0 == queue) (made_by pictures trace) made)
      (subst (λ es. AllZip IsMade (made_on queue (made_by pictures (trace ++ done ∷ []))) es) (own_calls queue) (is queue)))

  pub adds_calls : AddsCalls by (length trace + 1) before after
  unfolding newer
  adds_calls = record {
    more = λ queue. (calls queue).more;
    joined = λ queue. (calls queue).joined;
    of_it = λ queue.
        let steps = back_reverse (λ (e : Entry). e.step ≡ length trace + 1) (calls queue).more
        (steps_made (length trace + 1) (made_on queue made) (reverse (calls queue).more) (made_newer queue)
        (All-filter (λ (m : MadeStep). m.asked.0.0 == queue) (λ (m : MadeStep). m.step ≡ length trace + 1) made (made_there pictures (at_end trace done)))) in
        λ k d low. ((calls queue).own k d low, steps k d low);
    most = length made;
    few = λ queue.
        let many = as_many (made_on queue made) (reverse (calls queue).more) (made_newer queue) in
        let few = filter_few (λ (m : MadeStep). m.asked.0.0 == queue) made in
        let size = length-reverse (calls queue).more in
        omega (arith, many, few, size);
  }

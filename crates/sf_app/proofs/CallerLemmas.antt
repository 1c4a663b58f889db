-- The histories of a played run have calls of the compositor and of the scene's actors alone.
use Rattle.std.proofs.Common.{◌≡◌, ℕ, ◌==◌, Bool, false, if◌then◌else◌, List, [], ◌∷◌, ◌++◌, true, All, map, reverse, refl, sym, ap, subst, ◌∙◌}
use mathlib.Core.List.{reverse-cons}
use Rattle.std.proofs.lemmas.List.{append-nil}
use Rattle.std.proofs.lemmas.List.Concat.{flat_map-append}
use Rattle.std.proofs.lemmas.List.Elements.{All-append, All-cons, All-head, All-nil, All-push, All-tail}
use Rattle.std.specs.List.{flat_map, range_with_len}
use Rattle.std.specs.Prelude.{filter}
use Rattle.sf_live.specs.sf_slots.declared.calls.Entry.{Entry}
use Rattle.sf_script_scene.specs.Scene.{SceneValue}
use Rattle.sf_script_scene.specs.declared.declarations.QueueDecl.{QueueDecl}
use Rattle.sf_record_sums.specs.sf_record.Events.{closing, event_records, events_records, image_record, output_record}
use Rattle.sf_record_sums.specs.sf_output.declared.image.ImageId.{ImageId}
use Rattle.sf_record_sums.specs.sf_output.declared.image.ImageId.TheVariants as id
use Rattle.sf_record_sums.specs.sf_output.declared.output.Output.{Output}
use Rattle.sf_record_sums.specs.sf_output.declared.output.Output.TheVariants as out
use Rattle.sf_record_sums.specs.sf_record.declared.event.Event.{Event}
use Rattle.sf_record_sums.specs.sf_record.declared.event.Event.TheVariants as event
use Rattle.sf_record_sums.specs.sf_record.declared.record.CommitRecord.{CommitRecord}
use Rattle.sf_record_sums.specs.sf_record.declared.record.HeldEntry.{HeldEntry}
use Rattle.sf_record_sums.specs.sf_record.declared.record.HistoryEntry.{HistoryEntry}
use Rattle.sf_record_sums.specs.sf_record.declared.record.QueueHistory.{QueueHistory}
use Rattle.sf_record_sums.specs.sf_record.declared.record.Record.{Record}
use Rattle.sf_record_sums.specs.sf_record.declared.record.Record.TheVariants as rec
use Rattle.sf_record_sums.specs.sf_record.declared.record.StuckEntry.{StuckEntry}
use Rattle.sf_live.specs.sf_actor.Makers.{Run}
use Rattle.sf_live.specs.law_played.Histories.{IsCaller, IsHistory, entry_shown, history_shown, queue_number, released_in, rising_queues}
use Rattle.sf_live.specs.law_played.Played.{Shows, opening, records_of, vsyncs_told}
use Rattle.sf_app.specs.Callers.{CallersAreKnown, IsKnown, histories_in, history_in}

histories_in-append : (rs ss : List Record) → histories_in (rs ++ ss) ≡ histories_in rs ++ histories_in ss
unfolding histories_in
histories_in-append rs ss = flat_map-append history_in rs ss

no_histories : (commits : List CommitRecord) → histories_in (map rec.Comm commits) ≡ []
unfolding histories_in
no_histories [] = refl
no_histories (c ∷ commits) = no_histories commits

all_histories : (histories : List QueueHistory) → histories_in (map rec.Hist histories) ≡ histories
unfolding histories_in
all_histories [] = refl
all_histories (h ∷ histories) = ap (λ (l : List QueueHistory). h ∷ l) (all_histories histories)

none_of_image : (of : ImageId) (number : ℕ) (pixels : List ℕ) → history_in (image_record of number pixels) ≡ []
none_of_image id.Frame number pixels = refl
none_of_image (id.Display output) number pixels = refl
none_of_image (id.Capture output) number pixels = refl

none_of_output : (number : ℕ) (output : Output (List ℕ)) → history_in (output_record number output) ≡ []
none_of_output number (out.Image image) = none_of_image image.of number image.shows
none_of_output number (out.Hit place layer) = refl

behind : (r : Record) (rs : List Record) → history_in r ≡ [] → histories_in (r ∷ rs) ≡ histories_in rs
unfolding histories_in
behind r rs none = ap (λ (l : List QueueHistory). l ++ histories_in rs) none

none_of_shown : (number : ℕ) (shown : List (Output (List ℕ))) → histories_in (map (output_record number) shown) ≡ []
unfolding histories_in
none_of_shown number [] = refl
none_of_shown number (output ∷ shown) = behind (output_record number output) (map (output_record number) shown) (none_of_output number output) ∙ none_of_shown number shown

none_of_event : (e : Event) → histories_in (event_records e) ≡ []
none_of_event (event.Reply reply) = behind (rec.Repl reply) [] refl ∙ no_histories []
none_of_event (event.Vsync v) =
    behind (rec.Vsyn (record { number = v.number; expected = v.expected; timelines = v.timelines })) (map rec.Comm v.commits ++ map (output_record v.number) v.shown) refl
    ∙ histories_in-append (map rec.Comm v.commits) (map (output_record v.number) v.shown)
    ∙ ap (λ (l : List QueueHistory). l ++ histories_in (map (output_record v.number) v.shown)) (no_histories v.commits) ∙ none_of_shown v.number v.shown

none_of_events : (events : List Event) → histories_in (events_records events) ≡ []
unfolding events_records
none_of_events [] = no_histories []
none_of_events (e ∷ events) = histories_in-append (event_records e) (events_records events) ∙ ap (λ (l : List QueueHistory). l ++ histories_in (events_records events)) (none_of_event e) ∙ none_of_events events

none_at_end : (holds : List HeldEntry) (stuck : List StuckEntry) → histories_in (rec.Hold holds ∷ rec.Stuk stuck ∷ rec.Done ∷ []) ≡ []
unfolding histories_in
none_at_end holds stuck = refl

histories_of_run : (scene : SceneValue) (shows : Shows) → histories_in (records_of scene shows) ≡ shows.histories
histories_of_run scene shows =
    let end : List Record = rec.Hold shows.held ∷ rec.Stuk shows.stuck ∷ rec.Done ∷ [] in
    let last = closing shows.arrived shows.histories shows.held shows.stuck in
    histories_in-append (opening scene ∷ events_records shows.events) last
    ∙ ap (λ (l : List QueueHistory). l ++ histories_in last) (behind (opening scene) (events_records shows.events) refl ∙ none_of_events shows.events)
    ∙ behind (rec.Arrv shows.arrived) (map rec.Hist shows.histories ++ end) refl ∙ histories_in-append (map rec.Hist shows.histories) end
    ∙ ap (λ (l : List QueueHistory). histories_in (map rec.Hist shows.histories) ++ l) (none_at_end shows.held shows.stuck)
    ∙ append-nil (histories_in (map rec.Hist shows.histories)) ∙ all_histories shows.histories

map-push : (es : List Entry) (e : Entry) → map entry_shown (es ++ e ∷ []) ≡ map entry_shown es ++ entry_shown e ∷ []
map-push [] e = refl
map-push (x ∷ es) e = ap (λ (l : List HistoryEntry). entry_shown x ∷ l) (map-push es e)

known_call : (scene : SceneValue) (e : Entry) → IsCaller scene e → IsKnown scene (entry_shown e)
unfolding entry_shown
known_call scene e h = h

known_calls : (scene : SceneValue) (es : List Entry) → All (IsCaller scene) es → All (IsKnown scene) (map entry_shown (reverse es))
known_calls scene [] h = All-nil (IsKnown scene)
known_calls scene (e ∷ es) h =
    subst (All (IsKnown scene)) (sym (ap (map entry_shown) (reverse-cons e es) ∙ map-push (reverse es) e))
    (All-push (IsKnown scene) (map entry_shown (reverse es)) (entry_shown e) (known_calls scene es (All-tail (IsCaller scene) e es h)) (known_call scene e (All-head (IsCaller scene) e es h)))

-- each call of a history is of the compositor or of an actor
abbrev AreKnown : SceneValue → QueueHistory → Type 0
AreKnown scene history = All (IsKnown scene) history.entries

-- what holds of all holds of those that are picked out
picked_one : {X : Type 0} (P : X → Type 0) (picked : Bool) (x : X) (xs : List X) → P x → All P xs → All P (if picked then x ∷ xs else xs)
picked_one P true x xs h all = All-cons P x xs h all
picked_one P false x xs h all = all

picked : {X : Type 0} (P : X → Type 0) (p : X → Bool) (xs : List X) → All P xs → All P (filter p xs)
picked P p [] all = all
picked P p (x ∷ xs) all = picked_one P (p x) x (filter p xs) (All-head P x xs all) (picked P p xs (All-tail P x xs all))

joined : {X : Type 0} (P : X → Type 0) (f : ℕ → List X) → ((n : ℕ) → All P (f n)) → (ns : List ℕ) → All P (flat_map f ns)
joined P f each [] = All-nil P
joined P f each (n ∷ ns) = All-append P (f n) (flat_map f ns) (each n) (joined P f each ns)

known_queues : (scene : SceneValue) (run : Run) (P : QueueDecl → Type 0) → ((queue : QueueDecl) → P queue → All (IsCaller scene) (run.calls queue.number)) → (queues : List QueueDecl) → All P queues
    → All (AreKnown scene) (map (history_shown run) queues)
known_queues scene run P each [] h = All-nil (AreKnown scene)
known_queues scene run P each (queue ∷ queues) h =
    All-cons (AreKnown scene) (history_shown run queue) (map (history_shown run) queues) (known_calls scene (run.calls queue.number) (each queue (All-head P queue queues h)))
    (known_queues scene run P each queues (All-tail P queue queues h))

pub callers_known : CallersAreKnown
unfolding rising_queues
callers_known tells scene records h =
    let IsOne : QueueDecl → Type 0 = IsHistory scene h.run (released_in (vsyncs_told scene h.arrivals h.shows.events)) in
    subst (All (AreKnown scene)) (sym (ap histories_in h.order ∙ histories_of_run scene h.shows ∙ h.fits.calls.shown))
    (known_queues scene h.run IsOne (λ queue one. one.by_none_else) (rising_queues scene)
    (joined IsOne (λ n. filter (λ queue. queue_number queue == n) scene.queues) (λ n. picked IsOne (λ queue. queue_number queue == n) scene.queues h.fits.calls.of_each) (range_with_len 1 16)))

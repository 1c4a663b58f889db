-- A history goes on with the calls that set the queue's producer, limits and mode, and with giving
-- it up.
use Rattle.std.proofs.Common.{◌≡◌, ℕ, ◌≤◌, Bool, true, List, [], ◌∷◌, ◌++◌, arith, ap, ap₂, ◌∙◌, sym, refl, map, filter, None}
use Rattle.std.specs.List.{range_with_len}
use Rattle.sf_base.specs.declared.ids.ActorId.{ActorId}
use Rattle.sf_slots.specs.declared.calls.Entry.{Entry}
use Rattle.sf_slots.specs.declared.calls.PlainCall.TheVariants as call
use Rattle.sf_slots.specs.declared.calls.PlainReply.TheVariants as reply
use Rattle.sf_slots.specs.declared.settings.Settings.{Settings}
use Rattle.sf_slots.specs.declared.slot.SlotState.TheVariants.{Free}
use Rattle.sf_slots.specs.Told.{Told, same_state, usable, usable_with}
use Rattle.sf_slots.specs.Events.{Event, Gone, Unmark, state_after, frames_queued, buffers_made}
use Rattle.sf_slots.specs.History.{events, happening, settings_after, max_acquired, max_dequeued, asynchronous, is_back_or_lent, all_slots, no_longer_usable}
use Rattle.sf_slots.specs.Queue.{Queue, IsSound, told_of, configured, without_marks, given_up}
use Rattle.sf_slots.specs.Effects.{disconnected, vacated_all, all_vacated}
use Rattle.sf_slots.specs.Replies.{refusal_of}
use Rattle.sf_slots.specs.Tells.{IsToldBy, Continues}
use Rattle.sf_slots.proofs.Tells.{Tells}
use Rattle.sf_slots.proofs.TellsGone.{frames-gone, buffers-gone, happening-append, Tells-along, Tells-configured, configured_same}
use Rattle.sf_slots.proofs.TellsGivenUp.{Tells-given_up, Tells-vacant, settings-vacated}
use Rattle.sf_slots.proofs.HistoryGoesOn.{told_tells, go_on, not_refused}

-- other settings with as many usable slots change nothing else
Tells-settings : {R : Type 0} (q : Queue R) (es : List Event) (settings : Settings) → Tells q es → usable settings ≡ usable q.settings → settings.frames ≡ q.settings.frames → settings.buffers ≡ q.settings.buffers → Tells (configured q settings) es
Tells-settings {R} q es settings tells same frames buffers =
    let plain : Tells (record q { settings = settings }) es = record {
      slots = tells.slots;
      freed = tells.freed;
      items = tells.items;
      frames = frames ∙ tells.frames;
      buffers = buffers ∙ tells.buffers;
    } in
    Tells-along es es (configured_same q settings same) refl plain

-- settings after events that take buffers away
kept_counts : (settings : Settings) (xs : List ℕ) (es : List Event) → record settings { frames = frames_queued es; buffers = buffers_made es } ≡ record settings { frames = frames_queued (happening (map Gone xs) es); buffers = buffers_made (happening (map Gone xs) es) }
kept_counts settings xs es = ap₂ (λ (frames buffers : ℕ). record settings { frames = frames; buffers = buffers }) (sym (frames-gone xs es)) (sym (buffers-gone xs es))

-- the free slots that are no longer usable, where so many are
abbrev left_free : List Entry → ℕ → List ℕ
left_free history count = filter (λ s. same_state (state_after (events history) s) Free) (no_longer_usable history count)

limits_told : {R : Type 0} (q : Queue R) (width height : ℕ) (history : List Entry) → IsToldBy q width height history → usable q.settings ≡ usable_with (max_acquired history) (max_dequeued history) (asynchronous history)
limits_told q width height history told = ap (λ (t : Told). usable t.settings) told

pub Continues-MaxDequeued : {R : Type 0} (q : Queue R) (caller : ActorId) (n : ℕ) → IsSound q → refusal_of (told_of q) caller (call.MaxDequeued n) ≡ None → Continues q (configured q (record q.settings { max_dequeued = n })) caller (call.MaxDequeued n) reply.Done
Continues-MaxDequeued {R} q caller n sound none =
    let settings : Settings = record q.settings { max_dequeued = n } in
    go_on q (configured q settings) caller (call.MaxDequeued n) reply.Done (not_refused (told_of q) caller (call.MaxDequeued n) reply.Done none refl) (λ width height step history told.
    let count : ℕ = usable_with (max_acquired history) n (asynchronous history) in
    record {
      tells = Tells-configured q (events history) settings count (usable_with (max_acquired history) (max_dequeued history) (asynchronous history)) sound (told_tells width height history told) (ap (λ (t : Told). usable_with t.settings.max_acquired n t.settings.asynchronous) told) (limits_told q width height history told) refl refl;
      settings = ap (λ (t : Told). record t.settings { max_dequeued = n }) told ∙ kept_counts (record (settings_after width height history) { max_dequeued = n }) (left_free history count) (events history);
    })

pub Continues-Async : {R : Type 0} (q : Queue R) (caller : ActorId) (on : Bool) → IsSound q → refusal_of (told_of q) caller (call.Async on) ≡ None → Continues q (configured q (record q.settings { asynchronous = on })) caller (call.Async on) reply.Done
Continues-Async {R} q caller on sound none =
    let settings : Settings = record q.settings { asynchronous = on } in
    go_on q (configured q settings) caller (call.Async on) reply.Done (not_refused (told_of q) caller (call.Async on) reply.Done none refl) (λ width height step history told.
    let count : ℕ = usable_with (max_acquired history) (max_dequeued history) on in
    record {
      tells = Tells-configured q (events history) settings count (usable_with (max_acquired history) (max_dequeued history) (asynchronous history)) sound (told_tells width height history told) (ap (λ (t : Told). usable_with t.settings.max_acquired t.settings.max_dequeued on) told) (limits_told q width height history told) refl refl;
      settings = ap (λ (t : Told). record t.settings { asynchronous = on }) told ∙ kept_counts (record (settings_after width height history) { asynchronous = on }) (left_free history count) (events history);
    })

pub Continues-MaxAcquired : {R : Type 0} (q : Queue R) (caller : ActorId) (n : ℕ) → IsSound q → refusal_of (told_of q) caller (call.MaxAcquired n) ≡ None → Continues q (configured q (record q.settings { max_acquired = n })) caller (call.MaxAcquired n) reply.Done
Continues-MaxAcquired {R} q caller n sound none =
    let settings : Settings = record q.settings { max_acquired = n } in
    go_on q (configured q settings) caller (call.MaxAcquired n) reply.Done (not_refused (told_of q) caller (call.MaxAcquired n) reply.Done none refl) (λ width height step history told.
    let count : ℕ = usable_with n (max_dequeued history) (asynchronous history) in
    record {
      tells = Tells-configured q (events history) settings count (usable_with (max_acquired history) (max_dequeued history) (asynchronous history)) sound (told_tells width height history told) (ap (λ (t : Told). usable_with n t.settings.max_dequeued t.settings.asynchronous) told) (limits_told q width height history told) refl refl;
      settings = ap (λ (t : Told). record t.settings { max_acquired = n }) told ∙ kept_counts (record (settings_after width height history) { max_acquired = n }) (left_free history count) (events history);
    })

pub Continues-Abandon : {R : Type 0} (q : Queue R) (caller : ActorId) → IsSound q → refusal_of (told_of q) caller call.Abandon ≡ None → Continues q (given_up q) caller call.Abandon reply.Done
Continues-Abandon {R} q caller sound none =
    go_on q (given_up q) caller call.Abandon reply.Done (not_refused (told_of q) caller call.Abandon reply.Done none refl) (λ width height step history told. record {
      tells = Tells-given_up q (events history) sound (told_tells width height history told);
      settings = ap (λ (t : Told). record t.settings { abandoned = true }) told ∙ kept_counts (record (settings_after width height history) { abandoned = true }) all_slots (events history);
    })

-- the slots that a disconnect empties, of the first ones
abbrev vacating : List Event → ℕ → List ℕ
vacating es n = filter (λ s. is_back_or_lent (state_after es s)) (range_with_len 0 n)

Tells-disconnecting : {R : Type 0} (q : Queue R) (es : List Event) (n : ℕ) → n ≤ 64 → IsSound q → Tells q es → Tells (configured (without_marks (vacated_all q (range_with_len 0 n))) (record (vacated_all q (range_with_len 0 n)).settings { connected = None })) (happening (map Gone (vacating es n) ++ Unmark ∷ []) es)
Tells-disconnecting {R} q es n within sound tells =
    let vacant : Queue R = without_marks (vacated_all q (range_with_len 0 n)) in
    Tells-settings vacant (happening (map Gone (vacating es n) ++ Unmark ∷ []) es) (record vacant.settings { connected = None }) (Tells-vacant q es n within sound tells) refl refl refl

vacant_counts : (settings : Settings) (xs : List ℕ) (es : List Event) → record settings { frames = frames_queued es; buffers = buffers_made es } ≡ record settings { frames = frames_queued (happening (map Gone xs ++ Unmark ∷ []) es); buffers = buffers_made (happening (map Gone xs ++ Unmark ∷ []) es) }
vacant_counts settings xs es =
    kept_counts settings xs es ∙ ap (λ (after : List Event). record settings { frames = frames_queued after; buffers = buffers_made after }) (sym (happening-append (map Gone xs) (Unmark ∷ []) es))

pub Continues-Disconnect : {R : Type 0} (q : Queue R) (caller : ActorId) → IsSound q → refusal_of (told_of q) caller call.Disconnect ≡ None → Continues q (disconnected q) caller call.Disconnect reply.Done
unfolding all_vacated
Continues-Disconnect {R} q caller sound none =
    go_on q (disconnected q) caller call.Disconnect reply.Done (not_refused (told_of q) caller call.Disconnect reply.Done none refl) (λ width height step history told. record {
      tells = Tells-disconnecting q (events history) 64 (omega arith) sound (told_tells width height history told);
      settings = ap (λ (settings : Settings). record settings { connected = None }) (settings-vacated q (range_with_len 0 64))
          ∙ ap (λ (t : Told). record t.settings { connected = None }) told
          ∙ vacant_counts (record (settings_after width height history) { connected = None }) (vacating (events history) 64) (events history);
    })

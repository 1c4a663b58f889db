-- A step of an actor is the next one of a play: its answer, its calls and its arrivals are those that the state gives.
use Rattle.std.proofs.Common.{◌≡◌, ℕ, ◌+◌, cond, List, [], ◌∷◌, ◌++◌, length, map, take, Some, refl, ap, sym, ◌∙◌, inl, inr, arith}
use Rattle.std.specs.Prelude.{◌==◌, ◌⊎◌, slice_get}
use Rattle.std.specs.List.{All, AllZip, find, flat_map}
use Rattle.std.specs.Option.{option_map_or}
use Rattle.std.proofs.lemmas.Bool.{cases_eq, eq-eqb, ne_eqb}
use Rattle.std.proofs.lemmas.List.{append-nil}
use Rattle.std.proofs.lemmas.List.Concat.{flat_map-append}
use Rattle.std.proofs.lemmas.List.Elements.{All-head, All-tail}
use Rattle.sf_actor.specs.sf_slots.Replies.{reply_after}
use Rattle.sf_actor.specs.sf_slots.Tells.{AreReplies}
use Rattle.sf_actor.specs.sf_slots.declared.calls.Entry.{Entry}
use Rattle.sf_actor.specs.sf_slots.declared.calls.PlainReply.TheVariants as reply
use Rattle.sf_script_scene.specs.Scene.{SceneValue}
use Rattle.sf_script_scene.specs.declared.declarations.QueueDecl.{QueueDecl}
use Rattle.sf_script_scene.specs.declared.step.Step.{Step}
use Rattle.sf_actor.specs.declared.done.Done.{Done}
use Rattle.sf_actor.specs.Asking.{Asked}
use Rattle.sf_actor.specs.Makers.{Run}
use Rattle.sf_actor.specs.ScriptTraces.{IsMade, made_on, step_done}
use Rattle.sf_actor.specs.Traces.{DoneAt, MadeStep, Past, next, no_past, past_after, past_from, places_from, places_of}
use Rattle.law_played.specs.RunStates.{asked_by, reply_now, reply_on, with_call, with_calls}

-- the places of a trace with one more step
places-append : (place n : ℕ) (past : Past) (trace : List Done) (done : Done) → n ≡ place + length trace
    → places_from place past (trace ++ done ∷ []) ≡ places_from place past trace ++ record { place = n; past = past_from place past trace; done = done } ∷ []
unfolding places_from past_from
places-append place n past [] done e = ap (λ (m : ℕ). let at : DoneAt = record { place = m; past = past; done = done } in at ∷ []) (omega (arith, e))
places-append place n past (head ∷ trace) done e =
    let at : DoneAt = record { place = place; past = past; done = head } in
    ap (λ (rest : List DoneAt). at ∷ rest) (places-append (place + 1) n (next place past head) trace done (omega (arith, e)))

-- a step behind a trace
abbrev pub at_end : List Done → Done → DoneAt
at_end trace done = record { place = length trace + 1; past = past_after trace; done = done }

pub places_with : (trace : List Done) (done : Done) → places_of (trace ++ done ∷ []) ≡ places_of trace ++ at_end trace done ∷ []
places_with trace done = places-append 1 (length trace + 1) no_past trace done (omega arith)

-- what is said step by step
pub each_with : {A : Type 0} (f : DoneAt → List A) (trace : List Done) (done : Done) → flat_map f (places_of (trace ++ done ∷ [])) ≡ flat_map f (places_of trace) ++ f (at_end trace done)
each_with f trace done =
    ap (flat_map f) (places_with trace done)
    ∙ flat_map-append f (places_of trace) (at_end trace done ∷ [])
    ∙ ap (λ (rest : List _). flat_map f (places_of trace) ++ rest) (append-nil (f (at_end trace done)))

-- the last of all has what all have
pub last_has : {X : Type 0} (P : X → Type 0) (xs : List X) (x : X) → All P (xs ++ x ∷ []) → P x
last_has P [] x all = All-head P x [] all
last_has P (y ∷ ys) x all = last_has P ys x (All-tail P y (ys ++ x ∷ []) all)

-- a step behind the first ones of a script is the next one of it
pub step_is_next : (trace : List Done) (done : Done) (steps : List Step) → map step_done (trace ++ done ∷ []) ≡ take (length (trace ++ done ∷ [])) steps → slice_get steps (length trace) ≡ Some done.step
step_is_next [] done [] e = absurd (cc (e))
step_is_next [] done (s ∷ steps) e = (let same : s ≡ done.step = cc in ap (λ (x : Step). Some x) same)
step_is_next (d ∷ trace) done [] e = absurd (cc (e))
step_is_next (d ∷ trace) done (s ∷ steps) e = step_is_next trace done steps (let rest : map step_done (trace ++ done ∷ []) ≡ take (length (trace ++ done ∷ [])) steps = cc in rest)

-- partners behind partners
pub zip_later : {X Y : Type 0} (R : X → Y → Type 0) (xs us : List X) (ys vs : List Y) → AllZip R xs ys → AllZip R (xs ++ us) (ys ++ vs) → AllZip R us vs
zip_later R [] us [] vs zip all = all
zip_later R [] us (y ∷ ys) vs zip all = absurd zip
zip_later R (x ∷ xs) us [] vs zip all = absurd zip
zip_later R (x ∷ xs) us (y ∷ ys) vs zip all = zip_later R xs us ys vs zip.1 all.1

-- nothing has no partner
pub zip_none : {X Y : Type 0} (R : X → Y → Type 0) (xs : List X) → AllZip R xs [] → xs ≡ []
zip_none R [] zip = refl
zip_none R (x ∷ xs) zip = absurd zip

-- calls that are made one after another on a queue of this size
abbrev pub made_next : ℕ → ℕ → ℕ → ℕ → List Entry → Asked → List Entry
made_next width height by place calls asked = record { caller = record { 0 = by }; step = place; call = asked.1; reply = reply_after width height calls (record { 0 = by }) asked.1 } ∷ calls

abbrev pub made_all : ℕ → ℕ → ℕ → ℕ → List Entry → List Asked → List Entry
made_all width height by place calls [] = calls
made_all width height by place calls (asked ∷ later) = made_all width height by place (made_next width height by place calls asked) later

-- entries that steps made are these calls
abbrev IsBy : ℕ → Entry → Type 0
IsBy by entry = entry.caller.0 ≡ by

-- the oldest is first
abbrev pub put_on : List Entry → List Entry → List Entry
put_on calls [] = calls
put_on calls (entry ∷ later) = put_on (entry ∷ calls) later

pub replies_front : (width height : ℕ) (calls entries : List Entry) → AreReplies width height (put_on calls entries) → AreReplies width height calls
replies_front width height calls [] replies = replies
replies_front width height calls (entry ∷ later) replies = (replies_front width height (entry ∷ calls) later replies).1

abbrev IsAt : ℕ → MadeStep → Type 0
IsAt place made = made.step ≡ place

pub made_so : (width height by place : ℕ) (calls : List Entry) (made : List MadeStep) (entries : List Entry) → AllZip IsMade made entries → All (IsAt place) made → All (IsBy by) entries
    → AreReplies width height (put_on calls entries) → put_on calls entries ≡ made_all width height by place calls (map asked_by made)
made_so width height by place calls [] [] zip at own replies = refl
made_so width height by place calls [] (entry ∷ later) zip at own replies = absurd zip
made_so width height by place calls (m ∷ ms) [] zip at own replies = absurd zip
made_so width height by place calls (m ∷ ms) (entry ∷ later) zip at own replies =
    let told = (replies_front width height (entry ∷ calls) later replies).0 in
    let caller : entry.caller ≡ record { 0 = by } = λ i. record { 0 = All-head (IsBy by) entry later own i } in
    let call = zip.0.call in
    let one : (entry ∷ calls) ≡ made_next width height by place calls m.asked =
    λ i. record {
      caller = caller i;
      step = (zip.0.step ∙ All-head (IsAt place) m ms at) i;
      call = call i;
      reply = (told ∙ (λ j. reply_after width height calls (caller j) (call j))) i;
    } ∷ calls in
    made_so width height by place (entry ∷ calls) ms later zip.1 (All-tail (IsAt place) m ms at) (All-tail (IsBy by) entry later own) replies
    ∙ ap (λ (cs : List Entry). made_all width height by place cs (map asked_by ms)) one

module _ (scene : SceneValue) (by place : ℕ) where
  -- calls on other queues change nothing of one
  pub other_calls : (queue : ℕ) (made : List MadeStep) (run : Run) → made_on queue made ≡ [] → (with_calls scene by place run (map asked_by made)).calls queue ≡ run.calls queue
  unfolding with_calls
  other_calls queue [] run none = refl
  other_calls queue (m ∷ ms) run none = by_queue (cases_eq m.asked.0.0 queue) none (other_calls queue ms (with_call scene by place run m.asked))
    where
      by_queue : (m.asked.0.0 ≡ queue) ⊎ (m.asked.0.0 ≡ queue → ⊥) → made_on queue (m ∷ ms) ≡ []
          → (made_on queue ms ≡ [] → (with_calls scene by place (with_call scene by place run m.asked) (map asked_by ms)).calls queue ≡ (with_call scene by place run m.asked).calls queue)
          → (with_calls scene by place (with_call scene by place run m.asked) (map asked_by ms)).calls queue ≡ run.calls queue
      by_queue (inl same) none rest = absurd (cons_is_some (rw (eq-eqb m.asked.0.0 queue same) at none))
        where
          cons_is_some : (m ∷ made_on queue ms) ≡ [] → ⊥
          cons_is_some e = cc
      by_queue (inr apart) none rest =
          rest (rw (ne_eqb m.asked.0.0 queue apart) at none)
          ∙ rw (ne_eqb queue m.asked.0.0 (λ e. apart (sym e))) refl

  -- the calls on one queue, of the declared size
  pub queue_calls : (queue : QueueDecl) (made : List MadeStep) (run : Run) → find (λ (q : QueueDecl). q.number == queue.number) scene.queues ≡ Some queue
      → (with_calls scene by place run (map asked_by made)).calls queue.number ≡ made_all queue.width queue.height by place (run.calls queue.number) (map asked_by (made_on queue.number made))
  unfolding with_calls
  queue_calls queue [] run found = refl
  queue_calls queue (m ∷ ms) run found = by_queue (cases_eq m.asked.0.0 queue.number) (queue_calls queue ms (with_call scene by place run m.asked) found)
    where
      by_queue : (m.asked.0.0 ≡ queue.number) ⊎ (m.asked.0.0 ≡ queue.number → ⊥)
          → (with_calls scene by place (with_call scene by place run m.asked) (map asked_by ms)).calls queue.number
          ≡ made_all queue.width queue.height by place ((with_call scene by place run m.asked).calls queue.number) (map asked_by (made_on queue.number ms))
          → (with_calls scene by place (with_call scene by place run m.asked) (map asked_by ms)).calls queue.number
          ≡ made_all queue.width queue.height by place (run.calls queue.number) (map asked_by (made_on queue.number (m ∷ ms)))
      by_queue (inl same) rest =
          let now : reply_now scene run by m.asked ≡ reply_after queue.width queue.height (run.calls queue.number) (record { 0 = by }) m.asked.1 =
          ap (λ o. option_map_or (reply_on run by m.asked) o reply.Done) (ap (λ n. find (λ (q : QueueDecl). q.number == n) scene.queues) same ∙ found) in
          let one : (with_call scene by place run m.asked).calls queue.number ≡ made_next queue.width queue.height by place (run.calls queue.number) m.asked =
          rw (eq-eqb queue.number m.asked.0.0 (sym same))
          (λ i. record { caller = record { 0 = by }; step = place; call = m.asked.1; reply = now i } ∷ run.calls (same i)) in
          rest ∙ (ap (λ cs. made_all queue.width queue.height by place cs (map asked_by (made_on queue.number ms))) one
          ∙ sym (ap (λ b. made_all queue.width queue.height by place (run.calls queue.number) (map asked_by (cond b (m ∷ made_on queue.number ms) (made_on queue.number ms)))) (eq-eqb m.asked.0.0 queue.number same)))
      by_queue (inr apart) rest =
          rest ∙ (ap (λ b. made_all queue.width queue.height by place (cond b (record { caller = record { 0 = by }; step = place; call = m.asked.1; reply = reply_now scene run by m.asked } ∷ run.calls m.asked.0.0)
          (run.calls queue.number)) (map asked_by (made_on queue.number ms))) (ne_eqb queue.number m.asked.0.0 (λ e. apart (sym e)))
          ∙ sym (ap (λ b. made_all queue.width queue.height by place (run.calls queue.number) (map asked_by (cond b (m ∷ made_on queue.number ms) (made_on queue.number ms)))) (ne_eqb m.asked.0.0 queue.number apart)))

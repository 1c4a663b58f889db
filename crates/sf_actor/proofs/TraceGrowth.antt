-- A trace keeps what it keeps where its actor does one more step.
use Rattle.std.proofs.Common.{◌≡◌, ℕ, ◌+◌, ◌==◌, suc, zero, List, [], ◌∷◌, ◌++◌, inl, inr, length, take, arith, ap, ◌∙◌, sym, refl, subst, Option, Some, None}
use Rattle.std.specs.Prelude.{Contains, map, option_to_list, slice_get, slice_index_or}
use Rattle.std.specs.List.{All, AllPairs, AllZip, flat_map}
use Rattle.std.proofs.lemmas.Grind.{flat_map-append}
use Rattle.std.proofs.lemmas.List.{append-nil, length-append, map-append}
use Rattle.std.proofs.lemmas.List.Elements.{All-append, All-push, All-weaker, Contains-append_cases, Contains-append_left, filter-append}
use Rattle.std.proofs.lemmas.List.Quantifiers.{all_pairs_push}
use Rattle.sf_script_scene.specs.sf_picture.declared.picture.Picture.{Picture}
use Rattle.sf_script_scene.specs.declared.step.ActorScript.{ActorScript}
use Rattle.sf_script_scene.specs.declared.step.Step.{Step}
use Rattle.sf_surface.specs.sf_slots.declared.calls.Entry.{Entry}
use Rattle.sf_surface.specs.Hands.{permit_of}
use Rattle.sf_surface.specs.Tokens.{ReadLeaseOf}
use Rattle.sf_token.specs.Pending.{Arrival}
use Rattle.sf_surface.specs.sf_turns.Views.{PermitView}
use Rattle.sf_token.specs.sf_txn.Buffers.{Buffer}
use Rattle.sf_actor.specs.declared.done.Done.{Done}
use Rattle.sf_actor.specs.declared.holding.Holding.{Holding}
use Rattle.sf_actor.specs.declared.holding.Holding.TheVariants as holding
use Rattle.sf_actor.specs.declared.tried.Reply.{Reply}
use Rattle.sf_actor.specs.Draws.{EntersCounted, IsInOrder, entered_at, entered_in}
use Rattle.sf_actor.specs.Keeping.{TraceKept}
use Rattle.sf_actor.specs.Known.{AreAmong, Call, CountsRise, Rise, Share, plain_arrival, told_by}
use Rattle.sf_actor.specs.Names.{FrameOf}
use Rattle.sf_actor.specs.Rights.{BringsGiven, EndsIn, HoldsAcquired, IsFrom, IsOfCall, MadeWith, QueuesPicture, SendsAcquired, Turn, WasAcquired, WasTaken, WasGivenAt, WasPaid, brought_turn}
use Rattle.sf_actor.specs.ScriptTraces.{IsMade, made_on, sent_as, step_done}
use Rattle.sf_actor.specs.Traces.{DoneAt, GivenAt, IsAnswered, MadeStep, NoToken, Past, Source, TakenFrame, made_at, made_by, next, no_past, past_after, past_from, places_from, places_of, sent_at}
use Rattle.sf_actor.specs.Values.{reply_at}
use Rattle.sf_actor.specs.Written.{FrameNumber, paid_at, paid_in, signal_of, signals_of}
use Rattle.sf_actor.proofs.GoingOn.{answered_on, ends_there}

AllZip-append : {A C : Type 0} (P : A → C → Type 0) (xs : List A) (us : List C) (ys : List A) (vs : List C) → AllZip P xs us → AllZip P ys vs → AllZip P (xs ++ ys) (us ++ vs)
AllZip-append P [] [] ys vs first second = second
AllZip-append P [] (u ∷ us) ys vs first second = absurd first
AllZip-append P (x ∷ xs) [] ys vs first second = absurd first
AllZip-append P (x ∷ xs) (u ∷ us) ys vs first second = (first.0, AllZip-append P xs us ys vs first.1 second)

AllZip-weaker : {A C : Type 0} (P Q : A → C → Type 0) → ((x : A) (u : C) → P x u → Q x u) → (xs : List A) (us : List C) → AllZip P xs us → AllZip Q xs us
AllZip-weaker P Q goes [] [] is = tt
AllZip-weaker P Q goes [] (u ∷ us) is = absurd is
AllZip-weaker P Q goes (x ∷ xs) [] is = absurd is
AllZip-weaker P Q goes (x ∷ xs) (u ∷ us) is = (goes x u is.0, AllZip-weaker P Q goes xs us is.1)

-- the elements up to one that is there
take-one : {A : Type 0} (xs : List A) (n : ℕ) (x : A) → slice_get xs n ≡ Some x → take (suc n) xs ≡ take n xs ++ x ∷ []
take-one [] n x e = cc
take-one (y ∷ ys) zero x e = cc
take-one (y ∷ ys) (suc n) x e = ap (λ (rest : List _). y ∷ rest) (take-one ys n x e)

-- the places of a trace with one more step
places-append : (place n : ℕ) (past : Past) (trace : List Done) (done : Done) → n ≡ place + length trace → places_from place past (trace ++ done ∷ []) ≡ places_from place past trace ++ record { place = n; past = past_from place past trace; done = done } ∷ []
unfolding places_from past_from
places-append place n past [] done e = ap (λ (m : ℕ). let at : DoneAt = record { place = m; past = past; done = done } in at ∷ []) (omega (arith, e))
places-append place n past (head ∷ trace) done e =
    let at : DoneAt = record { place = place; past = past; done = head } in
    ap (λ (rest : List DoneAt). at ∷ rest) (places-append (place + 1) n (next place past head) trace done (omega (arith, e)))

past-append : (place n : ℕ) (past : Past) (trace : List Done) (done : Done) → n ≡ place + length trace → past_from place past (trace ++ done ∷ []) ≡ next n (past_from place past trace) done
unfolding past_from
past-append place n past [] done e = ap (λ (m : ℕ). next m past done) (omega (arith, e))
past-append place n past (head ∷ trace) done e = past-append (place + 1) n (next place past head) trace done (omega (arith, e))

-- a step behind a trace
abbrev pub at_end : List Done → Done → DoneAt
at_end trace done = record { place = length trace + 1; past = past_after trace; done = done }

places_with : (trace : List Done) (done : Done) → places_of (trace ++ done ∷ []) ≡ places_of trace ++ at_end trace done ∷ []
places_with trace done = places-append 1 (length trace + 1) no_past trace done (omega arith)

pub past_with : (trace : List Done) (done : Done) → past_after (trace ++ done ∷ []) ≡ next (length trace + 1) (past_after trace) done
past_with trace done = past-append 1 (length trace + 1) no_past trace done (omega arith)

-- what is said step by step
each_with : {A : Type 0} (f : DoneAt → List A) (trace : List Done) (done : Done) → flat_map f (places_of (trace ++ done ∷ [])) ≡ flat_map f (places_of trace) ++ f (at_end trace done)
each_with f trace done =
    ap (flat_map f) (places_with trace done)
    ∙ flat_map-append f (places_of trace) (at_end trace done ∷ [])
    ∙ ap (λ (rest : List _). flat_map f (places_of trace) ++ rest) (append-nil (f (at_end trace done)))

signals_with : (trace : List Done) (done : Done) → signals_of (trace ++ done ∷ []) ≡ signals_of trace ++ signal_of done.step
signals_with trace done =
    flat_map-append (λ (d : Done). signal_of d.step) trace (done ∷ [])
    ∙ ap (λ (rest : List (ℕ × ℕ)). signals_of trace ++ rest) (append-nil (signal_of done.step))

module _ {B : Type 0} where
  -- what a step adds to the actor's share: its calls and its arrivals, each of them as the step made it
  pub record Adds (pictures : ℕ → Picture) (stock : List ℕ) (trace : List Done) (at : DoneAt) (old new : Share B) : Type 0 where
    pub added : ℕ → List (Call B)
    pub arrived : List (Arrival ReadLeaseOf)
    pub calls : (queue : ℕ) → new.calls queue ≡ old.calls queue ++ added queue
    pub arrivals : new.arrivals ≡ old.arrivals ++ arrived
    pub answered : IsAnswered pictures new.values at
    pub made : (queue : ℕ) → AllZip IsMade (made_on queue (made_at pictures at)) (map told_by (added queue))
    pub sent : map sent_as (map plain_arrival arrived) ≡ sent_at at
    pub values : Rise old.values new.values
    pub signals : AreAmong old.signals new.signals
    pub signalled : AreAmong (signal_of at.done.step) new.signals
    pub left : AreAmong old.left new.left
    pub counts : CountsRise old.counts new.counts
    pub shows : (queue : ℕ) (made : Call B) → Contains (added queue) made → QueuesPicture pictures made.made.call.1
    pub tokens : (queue : ℕ) → AllZip (BringsGiven old.calls) (made_on queue (made_at pictures at)) (added queue)
    pub sends : All (SendsAcquired old.calls) arrived
    pub permits : (queue : ℕ) (made : Call B) (permit : PermitView) → Contains (added queue) made → permit_of made.made.call.1 ≡ Some permit → Contains stock permit.buffer
    pub new_ones : (number queue other : ℕ) (made earlier : Call B) → Contains (added queue) made → Contains (old.calls other) earlier → MadeWith number made → MadeWith number earlier → ⊥
    pub once : (number queue other : ℕ) (made later : Call B) → Contains (added queue) made → Contains (added other) later → MadeWith number made → MadeWith number later → (queue ≡ other) × (made.made.call.0 ≡ later.made.call.0)
    pub ends : (queue : ℕ) (made : Call B) → Contains (added queue) made → EndsIn new.left made.made.reply.ends
    pub pays : (frame : FrameNumber) → Contains (paid_at at) frame → WasPaid new.left new.calls frame
    pub counted : (place : ℕ) → entered_at at ≡ Some place → EntersCounted new place
    pub order : (place : ℕ) → entered_at at ≡ Some place → All (λ earlier. IsInOrder new.calls earlier place) (entered_in trace)

  -- a call of a share that grew is one that was there, or one that was added
  either_call : {P : Type 0} (old new added : List (Call B)) (made : Call B) → new ≡ old ++ added → Contains new made → (Contains old made → P) → (Contains added made → P) → P
  either_call old new added made joined there before after =
      elim (Contains-append_cases old added made (subst (λ (xs : List (Call B)). Contains xs made) joined there)) [
        | inl c ↦ before c
        | inr c ↦ after c
      ]

  still : (old new added : List (Call B)) (made : Call B) → new ≡ old ++ added → Contains old made → Contains new made
  still old new added made joined there = subst (λ (xs : List (Call B)). Contains xs made) (sym joined) (Contains-append_left old added made there)

  module _ (old new added : ℕ → List (Call B)) (joined : (queue : ℕ) → new queue ≡ old queue ++ added queue) where
    pub given_still : (place : ℕ) (turn : Option Turn) → WasGivenAt old place turn → WasGivenAt new place turn
    given_still place turn was = (was.0, was.1, still (old was.0) (new was.0) (added was.0) was.1 (joined was.0) was.2, was.3, was.4)

    pub acquired_still : (frame : FrameOf) (turn : Option Turn) → WasAcquired old frame turn → WasAcquired new frame turn
    acquired_still frame turn was = (was.0, still (old frame.0.0) (new frame.0.0) (added frame.0.0) was.0 (joined frame.0.0) was.1, was.2)

    pub taken_still : (lease : ReadLeaseOf) → WasTaken old lease → WasTaken new lease
    taken_still lease was = (was.0, still (old lease.queue.0) (new lease.queue.0) (added lease.queue.0) was.0 (joined lease.queue.0) was.1, was.2)

    pub of_call_still : (held : Holding B) → IsOfCall old held → IsOfCall new held
    of_call_still (holding.Lends lease) is = tt
    of_call_still (holding.Owes owing held) is = (is.0, is.1, still (old is.0) (new is.0) (added is.0) is.1 (joined is.0) is.2, is.3)
    of_call_still (holding.Reads lease) is = λ numbered. taken_still lease (is numbered)
    of_call_still (holding.Frees queue loose) is = tt

    from_still : (source : Source) (turn : Option Turn) → IsFrom old source turn → IsFrom new source turn
    from_still NoToken turn is = is
    from_still (GivenAt place) turn is = given_still place turn is
    from_still (TakenFrame frame) turn is = acquired_still frame turn is

    sends_still : (arrived : Arrival ReadLeaseOf) → SendsAcquired old arrived → SendsAcquired new arrived
    sends_still arrived is =
        All-weaker (HoldsAcquired old) (HoldsAcquired new)
        (λ (buffer : Buffer ReadLeaseOf). taken_still buffer.lease)
        arrived.txn.buffers is

    order_still : (place later : ℕ) → IsInOrder old place later → IsInOrder new place later
    order_still place later is = (is.0, is.1, given_still place (Some is.0) is.2, given_still later (Some is.1) is.3, is.4)

    pairs_still : (xs : List ℕ) → AllPairs (IsInOrder old) xs → AllPairs (IsInOrder new) xs
    pairs_still xs is = λ i j d lower upper. order_still (slice_index_or xs i d) (slice_index_or xs j d) (is i j d lower upper)

  paid_still : (old new : Share B) (added : ℕ → List (Call B)) (frame : FrameNumber) → ((queue : ℕ) → new.calls queue ≡ old.calls queue ++ added queue) → AreAmong old.left new.left → WasPaid old.left old.calls frame → WasPaid new.left new.calls frame
  paid_still old new added frame joined left was =
      (was.0, was.1, was.2, still (old.calls was.0) (new.calls was.0) (added was.0) was.1 (joined was.0) was.3, was.4, was.5, left (was.2.turn.buffer, was.2.turn.number) was.6)

  counted_still : (old new : Share B) (added : ℕ → List (Call B)) (place : ℕ) → ((queue : ℕ) → new.calls queue ≡ old.calls queue ++ added queue) → CountsRise old.counts new.counts → EntersCounted old place → EntersCounted new place
  counted_still old new added place joined counts is =
      (is.0, given_still old.calls new.calls added joined place (Some is.0) is.1, (let rise = counts is.0.0 in let was = is.2 in omega (arith, rise, was)))

  counted_with : (old new : Share B) (entered : Option ℕ) (xs : List ℕ) → All (EntersCounted new) xs → ((place : ℕ) → entered ≡ Some place → EntersCounted new place) → All (EntersCounted new) (xs ++ option_to_list entered)
  counted_with old new None xs all adds = subst (All (EntersCounted new)) (sym (append-nil xs)) all
  counted_with old new (Some place) xs all adds = All-push (EntersCounted new) xs place all (adds place refl)

  order_with : (calls : ℕ → List (Call B)) (entered : Option ℕ) (xs : List ℕ) → AllPairs (IsInOrder calls) xs → ((place : ℕ) → entered ≡ Some place → All (λ earlier. IsInOrder calls earlier place) xs) → AllPairs (IsInOrder calls) (xs ++ option_to_list entered)
  order_with calls None xs all adds = subst (AllPairs (IsInOrder calls)) (sym (append-nil xs)) all
  order_with calls (Some place) xs all adds = all_pairs_push (IsInOrder calls) xs place all (adds place refl)

  -- so the trace with the step keeps what it keeps
  pub kept_with : (pictures : ℕ → Picture) (script : ActorScript) (stock : List ℕ) (trace : List Done) (replies : List Reply) (done : Done) (old new : Share B) → slice_get script.steps (length trace) ≡ Some done.step → TraceKept pictures script stock trace replies old → Adds pictures stock trace (at_end trace done) old new → TraceKept pictures script stock (trace ++ done ∷ []) (replies ++ reply_at script.number (at_end trace done) ∷ []) new
  kept_with pictures script stock trace replies done old new next_step kept adds =
      let at = at_end trace done in
      let joined = length-append trace (done ∷ []) in
      let longer : suc (length trace) ≡ length (trace ++ done ∷ []) = omega (arith, joined) in
      let made : (queue : ℕ) → made_on queue (made_by pictures (trace ++ done ∷ [])) ≡ made_on queue (made_by pictures trace) ++ made_on queue (made_at pictures at) = λ queue.
      ap (made_on queue) (each_with (made_at pictures) trace done) ∙ filter-append (λ (step : MadeStep). step.asked.0.0 == queue) (made_by pictures trace) (made_at pictures at) in
      record {
        is = record {
          first =
              map-append step_done trace (done ∷ [])
              ∙ ap (λ (xs : List Step). xs ++ done.step ∷ []) kept.is.first
              ∙ sym (take-one script.steps (length trace) done.step next_step)
              ∙ ap (λ (n : ℕ). take n script.steps) longer;
          answered = subst (All (IsAnswered pictures new.values)) (sym (places_with trace done))
              (All-push (IsAnswered pictures new.values) (places_of trace) at (answered_on pictures old.values new.values trace adds.values kept.is.answered) adds.answered);
          replied =
              ap (λ (xs : List Reply). xs ++ reply_at script.number at ∷ []) kept.is.replied
              ∙ sym (map-append (reply_at script.number) (places_of trace) (at ∷ []))
              ∙ ap (map (reply_at script.number)) (sym (places_with trace done));
          made = λ queue.
              subst (λ (xs : List (Call B)). AllZip IsMade (made_on queue (made_by pictures (trace ++ done ∷ []))) (map told_by xs)) (sym (adds.calls queue))
              (subst (λ (xs : List Entry). AllZip IsMade (made_on queue (made_by pictures (trace ++ done ∷ []))) xs) (sym (map-append told_by (old.calls queue) (adds.added queue)))
              (subst (λ (xs : List MadeStep). AllZip IsMade xs (map told_by (old.calls queue) ++ map told_by (adds.added queue))) (sym (made queue))
              (AllZip-append IsMade (made_on queue (made_by pictures trace)) (map told_by (old.calls queue)) (made_on queue (made_at pictures at)) (map told_by (adds.added queue)) (kept.is.made queue) (adds.made queue))));
          sent =
              ap (λ (xs : List (Arrival ReadLeaseOf)). map sent_as (map plain_arrival xs)) adds.arrivals
              ∙ ap (map sent_as) (map-append plain_arrival old.arrivals adds.arrived)
              ∙ map-append sent_as (map plain_arrival old.arrivals) (map plain_arrival adds.arrived)
              ∙ (λ i. kept.is.sent i ++ adds.sent i)
              ∙ sym (each_with sent_at trace done);
        };
        shows = λ queue made there.
            either_call (old.calls queue) (new.calls queue) (adds.added queue) made (adds.calls queue) there
            (λ c. kept.shows queue made c) (λ c. adds.shows queue made c);
        tokens = λ queue.
            subst (λ (xs : List (Call B)). AllZip (BringsGiven new.calls) (made_on queue (made_by pictures (trace ++ done ∷ []))) xs) (sym (adds.calls queue))
            (subst (λ (xs : List MadeStep). AllZip (BringsGiven new.calls) xs (old.calls queue ++ adds.added queue)) (sym (made queue))
            (AllZip-weaker (BringsGiven old.calls) (BringsGiven new.calls) (λ step call. from_still old.calls new.calls adds.added adds.calls step.brings (brought_turn call.made.call.1))
            (made_on queue (made_by pictures trace) ++ made_on queue (made_at pictures at)) (old.calls queue ++ adds.added queue)
            (AllZip-append (BringsGiven old.calls) (made_on queue (made_by pictures trace)) (old.calls queue) (made_on queue (made_at pictures at)) (adds.added queue) (kept.tokens queue) (adds.tokens queue))));
        sends =
            subst (All (SendsAcquired new.calls)) (sym adds.arrivals)
            (All-weaker (SendsAcquired old.calls) (SendsAcquired new.calls) (sends_still old.calls new.calls adds.added adds.calls) (old.arrivals ++ adds.arrived)
            (All-append (SendsAcquired old.calls) old.arrivals adds.arrived kept.sends adds.sends));
        permits = λ queue made permit there brings.
            either_call (old.calls queue) (new.calls queue) (adds.added queue) made (adds.calls queue) there
            (λ c. kept.permits queue made permit c brings) (λ c. adds.permits queue made permit c brings);
        once = λ number queue other made later there too mine theirs.
            either_call (old.calls queue) (new.calls queue) (adds.added queue) made (adds.calls queue) there
            (λ c. either_call (old.calls other) (new.calls other) (adds.added other) later (adds.calls other) too
            (λ d. kept.once number queue other made later c d mine theirs)
            (λ d. absurd (adds.new_ones number other queue later made d c theirs mine)))
            (λ c. either_call (old.calls other) (new.calls other) (adds.added other) later (adds.calls other) too
            (λ d. absurd (adds.new_ones number queue other made later c d mine theirs))
            (λ d. adds.once number queue other made later c d mine theirs));
        signals = λ p there.
            elim (Contains-append_cases (signals_of trace) (signal_of done.step) p (subst (λ (xs : List (ℕ × ℕ)). Contains xs p) (signals_with trace done) there)) [
              | inl c ↦ adds.signals p (kept.signals p c)
              | inr c ↦ adds.signalled p c
            ];
        ends = λ queue made there.
            either_call (old.calls queue) (new.calls queue) (adds.added queue) made (adds.calls queue) there
            (λ c. ends_there old.left new.left made.made.reply.ends adds.left (kept.ends queue made c)) (λ c. adds.ends queue made c);
        pays = λ frame there.
            elim (Contains-append_cases (paid_in trace) (paid_at at) frame (subst (λ (xs : List FrameNumber). Contains xs frame) (each_with paid_at trace done) there)) [
              | inl c ↦ paid_still old new adds.added frame adds.calls adds.left (kept.pays frame c)
              | inr c ↦ adds.pays frame c
            ];
        turns = record {
          counted = subst (All (EntersCounted new)) (sym (each_with (λ (place : DoneAt). option_to_list (entered_at place)) trace done))
              (counted_with old new (entered_at at) (entered_in trace)
              (All-weaker (EntersCounted old) (EntersCounted new) (λ (place : ℕ). counted_still old new adds.added place adds.calls adds.counts) (entered_in trace) kept.turns.counted) adds.counted);
          order = subst (AllPairs (IsInOrder new.calls)) (sym (each_with (λ (place : DoneAt). option_to_list (entered_at place)) trace done))
              (order_with new.calls (entered_at at) (entered_in trace) (pairs_still old.calls new.calls adds.added adds.calls (entered_in trace) kept.turns.order) adds.order);
        };
      }

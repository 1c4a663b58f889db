-- What a name owes was queued undrawn by a step of its actor, and no step has drawn it since: so it is not written.
use Rattle.std.proofs.Common.{◌≡◌, ℕ, zero, suc, ◌+◌, ◌<◌, ◌≤◌, ◌⊎◌, ◌==◌, true, false, List, [], ◌∷◌, map, replicate, set, get_or, Option, Some, None, arith, ap, ◌∙◌, sym, refl, inl, inr, subst}
use Rattle.std.specs.Prelude.{All, Contains}
use Rattle.std.specs.List.{flat_map}
use Rattle.std.specs.List.Sorted.{IsStrictlyIncreasing}
use Rattle.std.specs.Option.{option_map}
use Rattle.std.proofs.lemmas.Bool.{cases_Bool, false≢true}
use Rattle.std.proofs.lemmas.List.Elements.{All-contains}
use Rattle.sf_base.specs.declared.ids.QueueId.{QueueId}
use Rattle.sf_actor_set.specs.sf_picture.declared.picture.Picture.{Picture}
use Rattle.sf_actor_set.specs.sf_script_scene.declared.step.Step.{Step}
use Rattle.sf_actor_set.specs.sf_script_scene.declared.step.Step.TheVariants as step
use Rattle.sf_slots.specs.declared.calls.PlainReply.TheVariants as reply
use Rattle.sf_slots.specs.declared.calls.WriteToken.{WriteToken}
use Rattle.sf_slots.specs.declared.slot.Held.{Held}
use Rattle.sf_actor_set.specs.sf_surface.Tokens.{OwingOf}
use Rattle.sf_actor_set.specs.sf_actor.declared.done.Answered.{Answered}
use Rattle.sf_actor_set.specs.sf_actor.declared.done.Answered.TheVariants as answered
use Rattle.sf_actor_set.specs.sf_actor.declared.done.Done.{Done}
use Rattle.sf_actor_set.specs.sf_actor.declared.holding.Holding.TheVariants as holding
use Rattle.sf_actor_set.specs.sf_actor.Desks.{DeskHome, DeskView}
use Rattle.sf_actor_set.specs.sf_actor.Names.{Apart, Frame, Holdings, Lent, OwedFrame, Owing, Token, dropped_of, is_owing, moved, name_in, with_name}
use Rattle.sf_actor_set.specs.sf_actor.Holdings.{token_of}
use Rattle.sf_actor_set.specs.sf_actor.Steps.{attached, attached_read, detached, drawn_with, holdings_next, holdings_with, lent_by, owed_by, requested, shown_on, taken_by, was_done}
use Rattle.sf_actor_set.specs.sf_actor.Traces.{DoneAt, Past, next, no_past, past_after, past_from, places_from, places_of}
use Rattle.sf_actor_set.specs.sf_actor.Tries.{ActorOf, Keeps}
use Rattle.sf_actor_set.specs.sf_actor.Written.{FrameNumber, paid_by, paid_frame, written_in}
use Rattle.law_played.specs.Actors.{number_of, trace_among}
use Rattle.law_played.proofs.Members.{has_map}
use Rattle.law_played.proofs.RunTraces.{trace_here}
use Rattle.law_rights.specs.Queuing.{QueuesFrame}
use Rattle.law_rights.proofs.TurnCounts.{first, in_front, later, none_in, the_only}
use Rattle.law_rights.proofs.DrawOrder.{places_late}
use Rattle.law_rights.proofs.PaidDrawings.{name_queued, owed_was_paid, same_place}
use Rattle.law_rights.proofs.QueueSteps.{queued_by_one}

-- what is in a place after one was set
set_found : {X : Type 0} (xs : List (Option X)) (i j : ℕ) (y : Option X) (x : X) → get_or (set xs i y) j None ≡ Some x → ((j ≡ i) × (y ≡ Some x)) ⊎ (get_or xs j None ≡ Some x)
set_found [] i j y x e = inr e
set_found (z ∷ xs) zero zero y x e = inl (refl, e)
set_found (z ∷ xs) zero (suc j) y x e = inr e
set_found (z ∷ xs) (suc i) zero y x e = inr e
set_found (z ∷ xs) (suc i) (suc j) y x e = elim (set_found xs i j y x e) [
  | inl here ↦ inl (ap (λ n. suc n) here.0, here.1)
  | inr there ↦ inr there
]

emptied : {X : Type 0} (xs : List (Option X)) (i : ℕ) → get_or (set xs i None) i None ≡ None
emptied [] i = refl
emptied (z ∷ xs) zero = refl
emptied (z ∷ xs) (suc i) = emptied xs i

place_of : {X : Type 0} (xs : List (Option X)) (x : X) → Contains xs (Some x) → (n : ℕ) × (get_or xs n None ≡ Some x)
place_of [] x there = absurd (none_in (Some x) there)
place_of {X} (y ∷ xs) x there = by_place (in_front y (Some x) xs there) (place_of xs x)
  where
    by_place : (y ≡ Some x) ⊎ Contains xs (Some x) → (Contains xs (Some x) → (n : ℕ) × (get_or xs n None ≡ Some x)) → (n : ℕ) × (get_or (y ∷ xs) n None ≡ Some x)
    by_place (inl same) further = (0, same)
    by_place (inr rest) further = let found = further rest in (suc found.0, found.1)

none_held : {X : Type 0} (n i : ℕ) (x : X) → get_or (replicate n None) i None ≡ Some x → ⊥
none_held zero i x e = absurd (cc (e))
none_held (suc n) zero x e = absurd (cc (e))
none_held (suc n) (suc i) x e = none_held n i x e

-- a step queued a frame undrawn from a name
record LeavesOwed (holdings : Holdings) (done : Done) (name : ℕ) (queue : QueueId) (owed : OwedFrame) : Type 0 where
  picture : ℕ
  time : Option ℕ
  part : Option (ℕ × ℕ × ℕ × ℕ)
  points : List (ℕ × ℕ)
  is : done ≡ record { step = step.Queue name picture time part points; answered = answered.Called (reply.Queued owed.frame) }
  token : WriteToken
  lent : name_in holdings name ≡ Some (Lent queue token None)

abbrev frame_owed : Option Token → ℕ
frame_owed (Some (Owing queue owed)) = owed.frame
frame_owed other = 0

abbrev queue_owed : QueueId → Option Token → QueueId
queue_owed other (Some (Owing queue owed)) = queue
queue_owed other token = other

abbrev size_owed : Held → Option Token → Held
size_owed other (Some (Owing queue owed)) = owed.held
size_owed other token = other

module _ (name : ℕ) (queue : QueueId) (owed : OwedFrame) where
  abbrev Owes : Holdings → Type 0
  Owes holdings = name_in holdings name ≡ Some (Owing queue owed)

  not_owed : (token : Option Token) → is_owing token ≡ false → token ≡ Some (Owing queue owed) → ⊥
  not_owed token none is = false≢true (sym none ∙ ap is_owing is)

  -- a name holds something else, which is not owed
  with_other : (holdings : Holdings) (to : ℕ) (token : Option Token) → is_owing token ≡ false → Owes (with_name holdings to token) → Owes holdings
  with_other holdings to token none is = elim (set_found holdings.names to name token (Owing queue owed) is) [
    | inl here ↦ absurd (not_owed token none here.1)
    | inr there ↦ there
  ]

  moved_other : (holdings : Holdings) (from to : ℕ) (token : Token) → is_owing (Some token) ≡ false → Owes (moved holdings from to token) → Owes holdings
  moved_other holdings from to token none is = with_other holdings from None refl (with_other (with_name holdings from None) to (Some token) none is)

  dropped_is : (of : ℕ) (token : Option Token) → dropped_of of token ≡ Some (Owing queue owed) → token ≡ Some (Owing queue owed)
  dropped_is of None is = is
  dropped_is of (Some (Lent lent token drawn)) is = elim (cases_Bool (lent.0 == of)) [
    | inl met ↦ absurd (cc (rw met at is))
    | inr unmet ↦ rw unmet at is
  ]
  dropped_is of (Some (Owing other frame)) is = is
  dropped_is of (Some (Frame other token)) is = is
  dropped_is of (Some (Apart other held)) is = is

  dropped_owes : (of : ℕ) (names : List (Option Token)) (n : ℕ) → get_or (map (dropped_of of) names) n None ≡ Some (Owing queue owed) → get_or names n None ≡ Some (Owing queue owed)
  dropped_owes of [] n is = is
  dropped_owes of (token ∷ names) zero is = dropped_is of token is
  dropped_owes of (token ∷ names) (suc n) is = dropped_owes of names n is

  lent_owes : (holdings : Holdings) (q s : ℕ) (answer : Answered) → Owes (lent_by holdings q s answer) → Owes holdings
  lent_owes holdings q s (answered.Called (reply.Dequeued slot held asked reallocated fence)) is = with_other holdings s _ refl is
  lent_owes holdings q s answer is = is

  requested_is : (token : Option Token) → requested token ≡ Some (Owing queue owed) → token ≡ Some (Owing queue owed)
  requested_is (Some (Lent of token drawn)) is = absurd (not_owed (requested (Some (Lent of token drawn))) refl is)
  requested_is other is = is

  requested_owes : (holdings : Holdings) (s : ℕ) → Owes (with_name holdings s (requested (name_in holdings s))) → Owes holdings
  requested_owes holdings s is = elim (set_found holdings.names s name (requested (name_in holdings s)) (Owing queue owed) is) [
    | inl here ↦ ap (name_in holdings) here.0 ∙ requested_is (name_in holdings s) here.1
    | inr there ↦ there
  ]

  none_drawn : (picture : ℕ) (token : Option Token) → is_owing (drawn_with picture token) ≡ false
  none_drawn picture (Some (Lent of token drawn)) = refl
  none_drawn picture other = refl

  detached_owes : (holdings : Holdings) (from to : ℕ) (token : Option Token) → Owes (detached holdings from to token) → Owes holdings
  detached_owes holdings from to (Some (Lent of token drawn)) is = moved_other holdings from to (Apart of token.held) refl is
  detached_owes holdings from to (Some (Frame of token)) is = moved_other holdings from to (Apart of token.held) refl is
  detached_owes holdings from to other is = is

  attached_owes : (holdings : Holdings) (q from to : ℕ) (answer : Answered) → Owes (attached holdings q from to answer) → Owes holdings
  attached_owes holdings q from to (answered.Called (reply.Attached slot held)) is = moved_other holdings from to _ refl is
  attached_owes holdings q from to answer is = is

  read_owes : (holdings : Holdings) (q from to : ℕ) (answer : Answered) → Owes (attached_read holdings q from to answer) → Owes holdings
  read_owes holdings q from to (answered.Called (reply.Attached slot held)) is = moved_other holdings from to _ refl is
  read_owes holdings q from to answer is = is

  taken_owes : (holdings : Holdings) (q i : ℕ) (answer : Answered) → Owes (taken_by holdings q i answer) → Owes holdings
  taken_owes holdings q i (answered.Called (reply.Acquired item dropped)) is = with_other holdings i _ refl is
  taken_owes holdings q i answer is = is

  shown_owes : (holdings : Holdings) (n layer i : ℕ) (token : Option Token) → Owes (shown_on holdings n layer i token) → Owes holdings
  shown_owes holdings n layer i (Some (Frame of token)) is = with_other holdings i None refl is
  shown_owes holdings n layer i other is = is

  pub record OwedNow (picture : ℕ) (answer : Answered) (token : Option Token) : Type 0 where
    pub answers : answer ≡ answered.Called (reply.Queued owed.frame)
    pub write : WriteToken
    pub lent : token ≡ Some (Lent queue write None)
    pub size : owed.held ≡ write.held

  pub owed_now : (picture : ℕ) (answer : Answered) (token : Option Token) → owed_by picture answer token ≡ Some (Owing queue owed) → OwedNow picture answer token
  owed_now picture (answered.Called (reply.Queued frame)) (Some (Lent of token None)) is =
      let same : of ≡ queue = ap (queue_owed of) is in
      let number : frame ≡ owed.frame = ap frame_owed is in
      record {
        answers = ap (λ (n : ℕ). answered.Called (reply.Queued n)) number;
        write = token;
        lent = ap (λ (q : QueueId). Some (Lent q token None)) same;
        size = ap (size_owed owed.held) (sym is);
      }
  owed_now picture answer token is = absurd (cc (is))

  -- behind one step a name owes what it owed before, or the step left it owed
  with_owes : (holdings : Holdings) (s : Step) (answer : Answered) → Owes (holdings_with holdings s answer) → Owes holdings ⊎ LeavesOwed holdings (record { step = s; answered = answer }) name queue owed
  with_owes holdings (step.Disconnect q) answer is = inl (dropped_owes q holdings.names name is)
  with_owes holdings (step.Dequeue q s size) answer is = inl (lent_owes holdings q s answer is)
  with_owes holdings (step.DequeueWait q s size) answer is = inl (lent_owes holdings q s answer is)
  with_owes holdings (step.Request s) answer is = inl (requested_owes holdings s is)
  with_owes holdings (step.Draw s p) answer is = inl (with_other holdings s (drawn_with p (name_in holdings s)) (none_drawn p (name_in holdings s)) is)
  with_owes holdings (step.Queue s p time part points) answer is = elim (set_found holdings.names s name (owed_by p answer (name_in holdings s)) (Owing queue owed) is) [
    | inl here ↦
        let now = owed_now p answer (name_in holdings s) here.1 in
        inr (record {
          picture = p;
          time = time;
          part = part;
          points = points;
          is = λ i. record { step = step.Queue (sym here.0 i) p time part points; answered = now.answers i };
          token = now.write;
          lent = ap (name_in holdings) here.0 ∙ now.lent;
        })
    | inr there ↦ inl there
  ]
  with_owes holdings (step.Cancel s points) answer is = inl (with_other holdings s None refl is)
  with_owes holdings (step.PDetach s b) answer is = inl (detached_owes holdings s b (name_in holdings s) is)
  with_owes holdings (step.PAttach q b s) answer is = inl (attached_owes holdings q b s answer is)
  with_owes holdings (step.Acquire q i at) answer is = inl (taken_owes holdings q i answer is)
  with_owes holdings (step.Release i points) answer is = inl (with_other holdings i None refl is)
  with_owes holdings (step.CDetach i b) answer is = inl (detached_owes holdings i b (name_in holdings i) is)
  with_owes holdings (step.CAttach q b i) answer is = inl (read_owes holdings q b i answer is)
  with_owes holdings (step.Buffer n layer i) answer is = inl (shown_owes holdings n layer i (name_in holdings i) is)
  with_owes holdings s answer is = inl is

  one_owes : (holdings : Holdings) (done : Done) → Owes (holdings_next holdings done) → Owes holdings ⊎ LeavesOwed holdings done name queue owed
  unfolding holdings_next
  one_owes holdings done is = elim (cases_Bool (was_done done.answered)) [
    | inl met ↦ with_owes holdings done.step done.answered (rw met at is)
    | inr unmet ↦ inl (rw unmet at is)
  ]

  -- a step of these left it owed, and behind each step from then on it is owed
  record IsOwedSince (places : List DoneAt) : Type 0 where
    at : DoneAt
    there : Contains places at
    leaves : LeavesOwed at.past.holdings at.done name queue owed
    behind : (other : DoneAt) → Contains places other → at.place ≤ other.place → Owes (holdings_next other.past.holdings other.done)

  record WasOwedAlways (past : Past) (places : List DoneAt) : Type 0 where
    before : Owes past.holdings
    behind : (other : DoneAt) → Contains places other → Owes (holdings_next other.past.holdings other.done)

  owed_since : (place : ℕ) (past : Past) (trace : List Done) → Owes (past_from place past trace).holdings → WasOwedAlways past (places_from place past trace) ⊎ IsOwedSince (places_from place past trace)
  unfolding places_from past_from
  owed_since place past [] is = inl (record { before = is; behind = λ other there. absurd (none_in other there) })
  owed_since place past (done ∷ trace) is = by_rest (owed_since (place + 1) (next place past done) trace is)
    where
      at : DoneAt
      at = record { place = place; past = past; done = done }

      rest : List DoneAt
      rest = places_from (place + 1) (next place past done) trace

      all_behind : WasOwedAlways (next place past done) rest → (other : DoneAt) → (at ≡ other) ⊎ Contains rest other → Owes (holdings_next other.past.holdings other.done)
      all_behind always other (inl same) = subst (λ (o : DoneAt). Owes (holdings_next o.past.holdings o.done)) same always.before
      all_behind always other (inr there) = always.behind other there

      later_behind : (since : IsOwedSince rest) (other : DoneAt) → (at ≡ other) ⊎ Contains rest other → since.at.place ≤ other.place → Owes (holdings_next other.past.holdings other.done)
      later_behind since other (inl same) less =
          let late = places_late (place + 1) (next place past done) trace since.at since.there in
          let here = ap (λ (o : DoneAt). o.place) same in
          absurd (omega (arith, late, here, less))
      later_behind since other (inr there) less = since.behind other there less

      by_step : WasOwedAlways (next place past done) rest → Owes past.holdings ⊎ LeavesOwed past.holdings done name queue owed → WasOwedAlways past (at ∷ rest) ⊎ IsOwedSince (at ∷ rest)
      by_step always (inl before) = inl (record { before = before; behind = λ other there. all_behind always other (in_front at other rest there) })
      by_step always (inr leaves) = inr (record { at = at; there = first at rest; leaves = leaves; behind = λ other there less. all_behind always other (in_front at other rest there) })

      by_rest : WasOwedAlways (next place past done) rest ⊎ IsOwedSince rest → WasOwedAlways past (at ∷ rest) ⊎ IsOwedSince (at ∷ rest)
      by_rest (inl always) = by_step always (one_owes past.holdings done always.before)
      by_rest (inr since) =
          inr (record { at = since.at; there = later at since.at rest since.there; leaves = since.leaves; behind = λ other there less. later_behind since other (in_front at other rest there) less })

  -- where a name owes it before a step, a step before that one left it owed
  record WasOwedBy (places : List DoneAt) (now : DoneAt) : Type 0 where
    at : DoneAt
    there : Contains places at
    leaves : LeavesOwed at.past.holdings at.done name queue owed
    before : at.place < now.place

  owed_before : (place : ℕ) (past : Past) (trace : List Done) (now : DoneAt) → Contains (places_from place past trace) now → Owes now.past.holdings → Owes past.holdings ⊎ WasOwedBy (places_from place past trace) now
  unfolding places_from
  owed_before place past [] now there is = absurd (none_in now there)
  owed_before place past (done ∷ trace) now there is = by_place (in_front at now rest there) (owed_before (place + 1) (next place past done) trace now)
    where
      at : DoneAt
      at = record { place = place; past = past; done = done }

      rest : List DoneAt
      rest = places_from (place + 1) (next place past done) trace

      by_step : Contains rest now → Owes past.holdings ⊎ LeavesOwed past.holdings done name queue owed → Owes past.holdings ⊎ WasOwedBy (at ∷ rest) now
      by_step further (inl before) = inl before
      by_step further (inr leaves) =
          let late = places_late (place + 1) (next place past done) trace now further in
          inr (record { at = at; there = first at rest; leaves = leaves; before = omega (arith, late) })

      by_rest : Contains rest now → Owes (next place past done).holdings ⊎ WasOwedBy rest now → Owes past.holdings ⊎ WasOwedBy (at ∷ rest) now
      by_rest further (inl behind) = by_step further (one_owes past.holdings done behind)
      by_rest further (inr by) = inr (record { at = by.at; there = later at by.at rest by.there; leaves = by.leaves; before = by.before })

      by_place : (at ≡ now) ⊎ Contains rest now → (Contains rest now → Owes now.past.holdings → Owes (next place past done).holdings ⊎ WasOwedBy rest now) → Owes past.holdings ⊎ WasOwedBy (at ∷ rest) now
      by_place (inl same) further = inl (subst (λ (o : DoneAt). Owes o.past.holdings) (sym same) is)
      by_place (inr behind) further = by_rest behind (further behind is)

-- a draw of what is owed to a frame
record PaysFrame (holdings : Holdings) (done : Done) (queue : QueueId) (frame : ℕ) : Type 0 where
  name : ℕ
  picture : ℕ
  status : ℕ
  is : done ≡ record { step = step.Draw name picture; answered = answered.Own status }
  met : (status == 0) ≡ true
  owed : OwedFrame
  held : name_in holdings name ≡ Some (Owing queue owed)
  number : owed.frame ≡ frame

record OwesFrame (token : Option Token) (queue : QueueId) (frame : ℕ) : Type 0 where
  owed : OwedFrame
  held : token ≡ Some (Owing queue owed)
  number : owed.frame ≡ frame

owes_frame : (token : Option Token) (queue : QueueId) (frame : ℕ) → Contains (paid_frame token) (queue, frame) → OwesFrame token queue frame
owes_frame (Some (Owing of owed)) queue frame there =
    let same = the_only (of, owed.frame) (queue, frame) there in
    record { owed = owed; held = ap (λ (f : FrameNumber). Some (Owing f.0 owed)) same; number = ap (λ (f : FrameNumber). f.1) same }
owes_frame token queue frame there = absurd (none_in (queue, frame) there)

pays_frame : (holdings : Holdings) (s : Step) (answer : Answered) (queue : QueueId) (frame : ℕ) → Contains (paid_by holdings s answer) (queue, frame) → PaysFrame holdings (record { step = s; answered = answer }) queue frame
pays_frame holdings (step.Draw name picture) (answered.Own status) queue frame there = elim (cases_Bool (status == 0)) [
  | inl met ↦
      let owes = owes_frame (name_in holdings name) queue frame (rw met at there) in
      record { name = name; picture = picture; status = status; is = refl; met = met; owed = owes.owed; held = owes.held; number = owes.number }
  | inr unmet ↦ absurd (none_in (queue, frame) (rw unmet at there))
]
pays_frame holdings s answer queue frame there = absurd (none_in (queue, frame) there)

-- behind it the name holds nothing
drawn_none : (holdings : Holdings) (name picture status : ℕ) (queue : QueueId) (owed : OwedFrame) → (status == 0) ≡ true → name_in holdings name ≡ Some (Owing queue owed)
    → name_in (holdings_next holdings (record { step = step.Draw name picture; answered = answered.Own status })) name ≡ None
unfolding holdings_next
drawn_none holdings name picture status queue owed met held = rw (met, held) (emptied holdings.names name)

module _ {B : Type 0} (pictures : ℕ → Picture) (home : DeskHome) (view : DeskView B) (ofs : List (ActorOf B)) (keep : All (λ (o : ActorOf B). Keeps pictures home o view) ofs) (apart : IsStrictlyIncreasing (map number_of ofs)) where
  kept : (o : ActorOf B) → Contains ofs o → Keeps pictures home o view
  kept o among = All-contains (λ (o : ActorOf B). Keeps pictures home o view) ofs o keep among

  module _ (of : ActorOf B) (there : Contains ofs of) (name : ℕ) (queue : QueueId) (owed : OwedFrame) (since : IsOwedSince name queue owed (places_of of.trace)) where
    queues : QueuesFrame of.trace queue owed.frame since.at
    queues = record {
      there = since.there;
      name = name;
      picture = since.leaves.picture;
      time = since.leaves.time;
      part = since.leaves.part;
      points = since.leaves.points;
      done = since.leaves.is;
      token = since.leaves.token;
      drawn = None;
      lent = since.leaves.lent;
    }

    -- a step that drew it
    module _ (payer : ActorOf B) (among : Contains ofs payer) (at : DoneAt) (done : Contains (places_of payer.trace) at) (pays : PaysFrame at.past.holdings at.done queue owed.frame) where
      by : WasOwedBy pays.name queue pays.owed (places_of payer.trace) at → ⊥
      by was =
          let again : QueuesFrame payer.trace queue owed.frame was.at = record {
            there = was.there;
            name = pays.name;
            picture = was.leaves.picture;
            time = was.leaves.time;
            part = was.leaves.part;
            points = was.leaves.points;
            done = subst (λ (n : ℕ). was.at.done ≡ record { step = step.Queue pays.name was.leaves.picture was.leaves.time was.leaves.part was.leaves.points; answered = answered.Called (reply.Queued n) }) pays.number was.leaves.is;
            token = was.leaves.token;
            drawn = None;
            lent = was.leaves.lent;
          } in
          let same = queued_by_one pictures home view of payer (kept of there) (kept payer among) queue owed.frame since.at was.at queues again in
          let traces : payer.trace ≡ of.trace = sym (trace_here ofs payer apart among) ∙ ap (trace_among ofs) (sym same.0) ∙ trace_here ofs of apart there in
          let one : since.at ≡ was.at = same_place 1 no_past of.trace since.at was.at since.there (subst (λ (t : List Done). Contains (places_of t) was.at) traces was.there) same.1 in
          let names : name ≡ pays.name = ap (λ (d : Done). name_queued d.step) (sym since.leaves.is ∙ ap (λ (a : DoneAt). a.done) one ∙ was.leaves.is) in
          let place = same.1 in
          let before = was.before in
          let behind = since.behind at (subst (λ (t : List Done). Contains (places_of t) at) traces done) (omega (arith, place, before)) in
          let none = drawn_none at.past.holdings pays.name pays.picture pays.status queue pays.owed pays.met pays.held in
          let drew : name_in (holdings_next at.past.holdings at.done) name ≡ None =
          ap (λ (d : Done). name_in (holdings_next at.past.holdings d) name) pays.is
          ∙ ap (name_in (holdings_next at.past.holdings (record { step = step.Draw pays.name pays.picture; answered = answered.Own pays.status }))) names ∙ none in
          is_some_none (sym behind ∙ drew)
        where
          is_some_none : Some (Owing queue owed) ≡ None → ⊥
          is_some_none same = absurd (cc (same))

      undrawn : ⊥
      undrawn = elim (owed_before pays.name queue pays.owed 1 no_past payer.trace at done pays.held) [
        | inl none ↦ none_held 32 pays.name (Owing queue pays.owed) none
        | inr was ↦ by was
      ]

    unwritten : Contains (flat_map (λ (o : ActorOf B). written_in o.trace) ofs) (queue, owed.frame) → ⊥
    unfolding queues
    unwritten wrote =
        let paid = owed_was_paid pictures home view ofs keep apart of there queue owed.frame since.at queues refl wrote in
        undrawn paid.of paid.there paid.at paid.done (pays_frame paid.at.past.holdings paid.at.done.step paid.at.done.answered queue owed.frame paid.paid)

  -- what a name owes is not written
  pub owed_unwritten : (of : ActorOf B) → Contains ofs of → (owing : OwingOf) (held : Held) → Contains of.parts.names (Some (holding.Owes owing held))
      → Contains (flat_map (λ (o : ActorOf B). written_in o.trace) ofs) (owing.queue, owing.frame) → ⊥
  owed_unwritten of there owing held named wrote = elim (owed_since at.0 owing.queue owed 1 no_past of.trace at.1) [
    | inl always ↦ none_held 32 at.0 (Owing owing.queue owed) always.before
    | inr since ↦ unwritten of there at.0 owing.queue owed since wrote
  ]
    where
      owed : OwedFrame
      owed = record { slot = owing.slot; frame = owing.frame; fence = owing.fence; held = held; picture = owing.turn.promises.number }

      keeps : Keeps pictures home of view
      keeps = kept of there

      names : map (option_map token_of) of.parts.names ≡ (past_after of.trace).holdings.names
      names = ap (λ (h : Holdings). h.names) keeps.kept.has

      at : (n : ℕ) × (get_or (past_after of.trace).holdings.names n None ≡ Some (Owing owing.queue owed))
      at = place_of (past_after of.trace).holdings.names (Owing owing.queue owed)
          (subst (λ (xs : List (Option Token)). Contains xs (Some (Owing owing.queue owed))) names (has_map (option_map token_of) of.parts.names (Some (holding.Owes owing held)) named))

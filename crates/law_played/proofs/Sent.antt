-- The transactions that a trace sends show their frames: what is shown of a buffer is what its frame is.
use Rattle.std.proofs.Common.{◌≡◌, ℕ, ◌+◌, Bool, List, [], ◌∷◌, ◌++◌, length, Option, Some, None, refl, sym, subst, inl, inr}
use Rattle.std.specs.Prelude.{All, Contains, unwrap_or}
use Rattle.std.specs.Option.{option_map}
use Rattle.std.proofs.lemmas.Bool.{cases_Bool, cases_lt}
use Rattle.std.proofs.lemmas.List.{get_or_past}
use Rattle.std.proofs.lemmas.List.Elements.{All-append, All-cons, All-get_or, All-head, All-nil, All-replicate, All-set, All-tail}
use Rattle.sf_actor.specs.sf_slots.declared.calls.PlainReply.TheVariants as reply
use Rattle.sf_commit.specs.sf_txn.Buffers.{Buffer}
use Rattle.sf_commit.specs.sf_txn.Transactions.{Contents, empty, is_for, merged, set as put, set_buffer, with_buffer, with_buffers, without_first}
use Rattle.sf_script_scene.specs.declared.step.Step.{Step}
use Rattle.sf_script_scene.specs.declared.step.Step.TheVariants as step
use Rattle.sf_actor.specs.declared.done.Answered.{Answered}
use Rattle.sf_actor.specs.declared.done.Answered.TheVariants as answered
use Rattle.sf_actor.specs.declared.done.Done.{Done}
use Rattle.sf_actor.specs.Asking.{buffer_of, shown_of}
use Rattle.sf_actor.specs.Names.{Frame, FrameOf, Holdings, Lent, Token, name_in, transaction_in, with_transaction}
use Rattle.sf_actor.specs.Scripts.{layer_of, op_of}
use Rattle.sf_actor.specs.Steps.{addressed, attached, attached_read, detached, edited, holdings_next, holdings_with, lent_by, sent_by, shown_on, taken_by, was_done}
use Rattle.sf_actor.specs.Traces.{DoneAt, Past, SentStep, next, no_past, places_from, places_of, sends_of, sent_at, sent_with}
use Rattle.law_played.proofs.Members.{has_cases, has_none, joined_has}

abbrev pub IsShown : Buffer FrameOf → Type 0
IsShown buffer = buffer.shown ≡ shown_of buffer.lease

abbrev IsOfShown : Option (Contents FrameOf) → Type 0
IsOfShown None = Unit {0}
IsOfShown (Some txn) = All IsShown txn.buffers

record AreShown (holdings : Holdings) : Type 0 where
  all : All IsOfShown holdings.transactions

-- another buffer in a transaction
without_shown : (test : Buffer FrameOf → Bool) (buffers : List (Buffer FrameOf)) → All IsShown buffers → All IsShown (without_first test buffers)
without_shown test [] all = all
without_shown test (b ∷ buffers) all = elim (cases_Bool (test b)) [
  | inl met ↦ rw met (All-tail IsShown b buffers all)
  | inr unmet ↦ rw unmet (All-cons IsShown b (without_first test buffers) (All-head IsShown b buffers all) (without_shown test buffers (All-tail IsShown b buffers all)))
]

with_shown : (buffers : List (Buffer FrameOf)) (buffer : Buffer FrameOf) → All IsShown buffers → IsShown buffer → All IsShown (with_buffer buffers buffer)
with_shown buffers buffer all is =
    All-append IsShown (without_first (is_for buffer.layer) buffers) (buffer ∷ []) (without_shown (is_for buffer.layer) buffers all) (All-cons IsShown buffer [] is (All-nil IsShown))

all_with_shown : (buffers later : List (Buffer FrameOf)) → All IsShown buffers → All IsShown later → All IsShown (with_buffers buffers later)
all_with_shown buffers [] all more = all
all_with_shown buffers (b ∷ later) all more =
    all_with_shown (with_buffer buffers b) later (with_shown buffers b all (All-head IsShown b later more)) (All-tail IsShown b later more)

-- a transaction that a number holds
held_shown : (holdings : Holdings) (n : ℕ) → AreShown holdings → IsOfShown (transaction_in holdings n)
held_shown holdings n shown = elim (cases_lt n (length holdings.transactions)) [
  | inl low ↦ All-get_or IsOfShown holdings.transactions n None low shown.all
  | inr past ↦ subst IsOfShown (sym (get_or_past holdings.transactions n None past)) tt
]

or_none_shown : (held : Option (Contents FrameOf)) → IsOfShown held → All IsShown (unwrap_or held empty).buffers
or_none_shown None shown = All-nil IsShown
or_none_shown (Some txn) shown = shown

put_shown : (holdings : Holdings) (n : ℕ) (held : Option (Contents FrameOf)) → IsOfShown held → AreShown holdings → AreShown (with_transaction holdings n held)
put_shown holdings n held is shown = record { all = All-set IsOfShown holdings.transactions n held is shown.all }

edited_shown : (holdings : Holdings) (n : ℕ) (change : Contents FrameOf → Contents FrameOf) → ((txn : Contents FrameOf) → All IsShown txn.buffers → All IsShown (change txn).buffers) → AreShown holdings
    → AreShown (edited holdings n change)
edited_shown holdings n change keeps shown =
    put_shown holdings n (Some (change (unwrap_or (transaction_in holdings n) empty)))
    (keeps (unwrap_or (transaction_in holdings n) empty) (or_none_shown (transaction_in holdings n) (held_shown holdings n shown))) shown

-- a step that edits no transaction
as_before : (old new : Holdings) → new.transactions ≡ old.transactions → AreShown old → AreShown new
as_before old new same shown = record { all = subst (λ (ts : List (Option (Contents FrameOf))). All IsOfShown ts) (sym same) shown.all }

lent_keeps : (holdings : Holdings) (q s : ℕ) (a : Answered) → (lent_by holdings q s a).transactions ≡ holdings.transactions
lent_keeps holdings q s (answered.Called (reply.Dequeued slot held requested reallocated fence)) = refl
lent_keeps holdings q s other = refl

detached_keeps : (holdings : Holdings) (from to : ℕ) (token : Option Token) → (detached holdings from to token).transactions ≡ holdings.transactions
detached_keeps holdings from to (Some (Lent queue token drawn)) = refl
detached_keeps holdings from to (Some (Frame queue token)) = refl
detached_keeps holdings from to other = refl

attached_keeps : (holdings : Holdings) (q from to : ℕ) (a : Answered) → (attached holdings q from to a).transactions ≡ holdings.transactions
attached_keeps holdings q from to (answered.Called (reply.Attached slot held)) = refl
attached_keeps holdings q from to other = refl

taken_keeps : (holdings : Holdings) (q i : ℕ) (a : Answered) → (taken_by holdings q i a).transactions ≡ holdings.transactions
taken_keeps holdings q i (answered.Called (reply.Acquired item dropped)) = refl
taken_keeps holdings q i other = refl

read_keeps : (holdings : Holdings) (q from to : ℕ) (a : Answered) → (attached_read holdings q from to a).transactions ≡ holdings.transactions
read_keeps holdings q from to (answered.Called (reply.Attached slot held)) = refl
read_keeps holdings q from to other = refl

-- a frame that goes into a transaction is shown as it is
shown_keeps : (holdings : Holdings) (n layer i : ℕ) (token : Option Token) → AreShown holdings → AreShown (shown_on holdings n layer i token)
shown_keeps holdings n layer i (Some (Frame queue token)) shown =
    as_before (edited holdings n (λ txn. set_buffer txn (buffer_of layer (queue, token)))) (shown_on holdings n layer i (Some (Frame queue token))) refl
    (edited_shown holdings n (λ txn. set_buffer txn (buffer_of layer (queue, token))) (λ txn all. with_shown txn.buffers (buffer_of layer (queue, token)) all refl) shown)
shown_keeps holdings n layer i other shown = shown

-- what is held after a step that was done
shown_with : (holdings : Holdings) (s : Step) (a : Answered) → AreShown holdings → AreShown (holdings_with holdings s a)
shown_with holdings (step.Disconnect q) a shown = as_before holdings (holdings_with holdings (step.Disconnect q) a) refl shown
shown_with holdings (step.Dequeue q s size) a shown = as_before holdings (lent_by holdings q s a) (lent_keeps holdings q s a) shown
shown_with holdings (step.DequeueWait q s size) a shown = as_before holdings (lent_by holdings q s a) (lent_keeps holdings q s a) shown
shown_with holdings (step.Request s) a shown = as_before holdings (holdings_with holdings (step.Request s) a) refl shown
shown_with holdings (step.Draw s p) a shown = as_before holdings (holdings_with holdings (step.Draw s p) a) refl shown
shown_with holdings (step.Queue s p time crop points) a shown = as_before holdings (holdings_with holdings (step.Queue s p time crop points) a) refl shown
shown_with holdings (step.Cancel s points) a shown = as_before holdings (holdings_with holdings (step.Cancel s points) a) refl shown
shown_with holdings (step.PDetach s b) a shown = as_before holdings (detached holdings s b (name_in holdings s)) (detached_keeps holdings s b (name_in holdings s)) shown
shown_with holdings (step.PAttach q b s) a shown = as_before holdings (attached holdings q b s a) (attached_keeps holdings q b s a) shown
shown_with holdings (step.Acquire q i at) a shown = as_before holdings (taken_by holdings q i a) (taken_keeps holdings q i a) shown
shown_with holdings (step.Release i points) a shown = as_before holdings (holdings_with holdings (step.Release i points) a) refl shown
shown_with holdings (step.CDetach i b) a shown = as_before holdings (detached holdings i b (name_in holdings i)) (detached_keeps holdings i b (name_in holdings i)) shown
shown_with holdings (step.CAttach q b i) a shown = as_before holdings (attached_read holdings q b i a) (read_keeps holdings q b i a) shown
shown_with holdings (step.Tx n) a shown = put_shown holdings n (Some empty) (All-nil IsShown) shown
shown_with holdings (step.Desire n time) a shown = edited_shown holdings n (λ txn. record txn { desired = Some time }) (λ txn all. all) shown
shown_with holdings (step.Buffer n layer i) a shown = shown_keeps holdings n layer i (name_in holdings i) shown
shown_with holdings (step.Barrier n layer frame) a shown = edited_shown holdings n (λ txn. record txn { barriers = txn.barriers ++ (layer_of layer, frame) ∷ [] }) (λ txn all. all) shown
shown_with holdings (step.Merge n m) a shown =
    let other : Contents FrameOf = unwrap_or (transaction_in holdings m) empty in
    let there = or_none_shown (transaction_in holdings m) (held_shown holdings m shown) in
    put_shown (edited holdings n (λ txn. merged txn other)) m (Some empty) (All-nil IsShown)
    (edited_shown holdings n (λ txn. merged txn other) (λ txn all. all_with_shown txn.buffers other.buffers all there) shown)
shown_with holdings (step.Apply n token) a shown = put_shown holdings n None tt shown
shown_with holdings (step.Set n layer change) a shown = edited_shown holdings n (λ txn. put txn (layer_of layer, op_of change)) (λ txn all. all) shown
shown_with holdings s a shown = shown

shown_after : (holdings : Holdings) (done : Done) → AreShown holdings → AreShown (holdings_next holdings done)
unfolding holdings_next
shown_after holdings done shown = elim (cases_Bool (was_done done.answered)) [
  | inl met ↦ rw met (shown_with holdings done.step done.answered shown)
  | inr unmet ↦ rw unmet shown
]

-- before each step of a trace
shown_before : (place : ℕ) (past : Past) (trace : List Done) (at : DoneAt) → AreShown past.holdings → Contains (places_from place past trace) at → AreShown at.past.holdings
unfolding places_from
shown_before place past [] at shown there = has_none at there
shown_before place past (done ∷ later) at shown there = elim (has_cases _ at (places_from (place + 1) (next place past done) later) there) [
  | inl same ↦ subst (λ (a : DoneAt). AreShown a.past.holdings) same shown
  | inr c ↦ shown_before (place + 1) (next place past done) later at (shown_after past.holdings done shown) c
]

none_shown : AreShown no_past.holdings
none_shown = record { all = All-replicate IsOfShown 65 None tt }

-- a transaction that a step sends
addressed_shown : (token : ℕ) (held : Option (Contents FrameOf)) → IsOfShown held → IsOfShown (option_map (addressed token) held)
addressed_shown token None shown = tt
addressed_shown token (Some txn) shown = shown

sent_by_shown : (holdings : Holdings) (s : Step) → AreShown holdings → IsOfShown (sent_by holdings s)
sent_by_shown holdings (step.Apply n token) shown = addressed_shown token (transaction_in holdings n) (held_shown holdings n shown)
sent_by_shown holdings s shown = tt

sent_so : (place : ℕ) (a : Answered) (held : Option (Contents FrameOf)) (sent : SentStep) → IsOfShown held → Contains (sent_with place a held) sent → All IsShown sent.txn.buffers
sent_so place (answered.Sent number) (Some txn) sent shown there = elim (has_cases (record { step = place; number = number; txn = txn }) sent [] there) [
  | inl same ↦ subst (λ (s : SentStep). All IsShown s.txn.buffers) same shown
  | inr none ↦ has_none sent none
]
sent_so place a held sent shown there = has_none sent there

pub sent_shown : (trace : List Done) (sent : SentStep) → Contains (sends_of trace) sent → All IsShown sent.txn.buffers
sent_shown trace sent there =
    let at = joined_has sent_at (places_of trace) sent there in
    let shown = shown_before 1 no_past trace at.0 none_shown at.1 in
    sent_so at.0.place at.0.done.answered (sent_by at.0.past.holdings at.0.done.step) sent (sent_by_shown at.0.past.holdings at.0.done.step shown) at.2

-- Tries of the other forms of steps, apart from draws and from those that release frames.
use Rattle.std.proofs.Common.{◌≡◌, ℕ, ◌+◌, ◌≤◌, List, [], ◌∷◌, ◌++◌, arith, ap, ◌∙◌, sym, refl, subst, length, Option, Some, None}
use Rattle.std.specs.List.{flat_map, sum_by}
use Rattle.std.proofs.lemmas.List.Sums.{sum_by-append}
use Rattle.sf_base.specs.Fences.{Fence}
use Rattle.sf_actor_set.specs.sf_picture.declared.picture.Picture.{Picture}
use Rattle.sf_actor_set.specs.sf_script_scene.declared.step.Step.{Step}
use Rattle.sf_actor_set.specs.sf_surface.Tokens.{ReadLeaseOf}
use Rattle.sf_actor_set.specs.sf_token.Pending.{Arrival}
use Rattle.sf_actor_set.specs.sf_txn.Transactions.{Contents}
use Rattle.sf_actor_set.specs.sf_actor.declared.done.Answered.{Answered}
use Rattle.sf_actor_set.specs.sf_actor.Desks.{ChangesTimes, DeskHome, DeskView}
use Rattle.sf_actor_set.specs.sf_actor.Tests.{refusal_of}
use Rattle.sf_actor_set.specs.sf_actor.Written as written
use Rattle.sf_actor_set.specs.sf_actor_steps.declared.bindings.Bindings.{Bindings}
use Rattle.sf_actor_set.specs.sf_actor_steps.declared.tried.Tried.{Tried}
use Rattle.sf_actor_set.specs.sf_actor_steps.declared.tried.Tried.TheVariants as tried
use Rattle.sf_actor_set.specs.sf_actor_steps.Acting.{Changes}
use Rattle.sf_actor_set.specs.sf_actor_steps.Actors.{parts_of}
use Rattle.sf_actor_set.specs.sf_actor_steps.Editing.{Edits, TakesTxn, TriesSend, with_txn}
use Rattle.sf_actor_set.specs.sf_actor_steps.Bindings.{holdings_of}
use Rattle.sf_actor_set.specs.sf_actor_steps.Leaving.{Disconnects, FindsOpen, LooksFor, TriesToLeave, dropped_after}
use Rattle.law_rights.specs.Ledgers.{IsLedger}
use Rattle.law_rights.specs.Makers.{RightAt, place_owed, places_arrived, places_held, places_in, places_sent}
use Rattle.law_rights.specs.Moves.{Gets}
use Rattle.law_rights.specs.States.{State, ledger_of}
use Rattle.law_rights.specs.Tries.{AnswersAs, TriesIn}
use Rattle.law_rights.proofs.BindingChanges.{set_most, set_none}
use Rattle.law_rights.proofs.CallTries.{dropped_less, dropped_owes, makes_keep}
use Rattle.law_rights.proofs.OwedDrawings.{gets_same, bindings_owe}
use Rattle.law_rights.proofs.PlaceChanges.{Went}
use Rattle.law_rights.proofs.Quiet.{bindings_only, rests_keeps, same_bindings}
use Rattle.law_rights.proofs.ListSums.{sum-flat_map}
use Rattle.law_rights.proofs.CallTryLedger.{FromHere, bindings_weight}

-- what is counted of the rights in transactions
abbrev txn_weight : (RightAt → ℕ) → Option (Contents ReadLeaseOf) → ℕ
txn_weight w held = sum_by w (places_in held)

module _ {B : Type 0} where
  txns_sum : (w : RightAt → ℕ) (bindings : Bindings B) → sum_by w (flat_map places_in bindings.transactions) ≡ sum_by (txn_weight w) bindings.transactions
  txns_sum w bindings = sum-flat_map w places_in bindings.transactions

  pub put_txn : (w : RightAt → ℕ) (bindings : Bindings B) (number : ℕ) (txn : Contents ReadLeaseOf) → sum_by w (places_held (parts_of (with_txn bindings number (Some txn)))) ≤ sum_by w (places_held (parts_of bindings)) + sum_by w (places_sent txn)
  put_txn w bindings number txn =
      let most = set_most (txn_weight w) bindings.transactions number (Some txn) in
      let a = bindings_weight w bindings in
      let b = bindings_weight w (with_txn bindings number (Some txn)) in
      let c = txns_sum w bindings in
      let d = txns_sum w (with_txn bindings number (Some txn)) in
      omega (arith, most, a, b, c, d)

  pub take_txn : (w : RightAt → ℕ) (before taken : Bindings B) (number : ℕ) (txn : Contents ReadLeaseOf) → TakesTxn before taken number txn → sum_by w (places_held (parts_of taken)) + sum_by w (places_sent txn) ≡ sum_by w (places_held (parts_of before))
  take_txn w before taken number txn takes =
      let none = set_none (txn_weight w) before.transactions number txn takes.txn_there in
      let a = bindings_weight w before in
      let b = bindings_weight w (with_txn before number None) in
      let c = txns_sum w before in
      let d = txns_sum w (with_txn before number None) in
      let e = ap (λ (bindings : Bindings B). sum_by w (places_held (parts_of bindings))) takes.txn_rest in
      omega (arith, none, a, b, c, d, e)

  pub edits_sum : (w : RightAt → ℕ) (before after : Bindings B) (number : ℕ) (change : Contents ReadLeaseOf → Contents ReadLeaseOf) (edits : Edits before after number change)
      → sum_by w (places_held (parts_of after)) + sum_by w (places_sent edits.edited) ≤ sum_by w (places_held (parts_of before)) + sum_by w (places_sent (change edits.edited))
  edits_sum w before after number change edits =
      let take = take_txn w before edits.without number edits.edited edits.takes in
      let put = put_txn w edits.without number (change edits.edited) in
      let e = ap (λ (bindings : Bindings B). sum_by w (places_held (parts_of bindings))) edits.put_back in
      omega (arith, take, put, e)

  pub edits_names : (before after : Bindings B) (number : ℕ) (change : Contents ReadLeaseOf → Contents ReadLeaseOf) → Edits before after number change → after.names ≡ before.names
  edits_names before after number change edits = ap (λ (bindings : Bindings B). bindings.names) edits.put_back ∙ ap (λ (bindings : Bindings B). bindings.names) edits.takes.txn_rest

  pub names_owe : (before after : Bindings B) → after.names ≡ before.names → Gets (bindings_owe before) [] (bindings_owe after)
  names_owe before after same = subst (λ xs. Gets (bindings_owe before) [] (flat_map place_owed xs)) (sym same) (gets_same (bindings_owe before))

module _ {B : Type 0} (pictures : ℕ → Picture) (home : DeskHome) (place : ℕ) (s : Step) where
  -- what a look knows is what was known
  times_here : (came_to : Tried) (before after : Bindings B) (old new : State B) (tries : TriesIn pictures home place s came_to before after old new) (looked : DeskView B) → ChangesTimes old.view looked → FromHere pictures home place s came_to before after old new tries looked
  times_here came_to before after old new tries looked same = record {
    calls = ap (λ (view : DeskView B). view.calls) same;
    leaves = ap (λ (view : DeskView B). view.turns.leaves) same;
    arrivals = ap (λ (view : DeskView B). view.arrivals) same;
  }

  looks_here : (came_to : Tried) (before after : Bindings B) (old new : State B) (tries : TriesIn pictures home place s came_to before after old new) (looked : DeskView B) (fence : Option Fence) → LooksFor home fence old.view looked → FromHere pictures home place s came_to before after old new tries looked
  looks_here came_to before after old new tries looked None same = record {
    calls = ap (λ (view : DeskView B). view.calls) same;
    leaves = ap (λ (view : DeskView B). view.turns.leaves) same;
    arrivals = ap (λ (view : DeskView B). view.arrivals) same;
  }
  looks_here came_to before after old new tries looked (Some fence) looks = times_here came_to before after old new tries looked looks.3

  pub times_only : (came_to : Tried) (before after : Bindings B) (old new : State B) (tries : TriesIn pictures home place s came_to before after old new) → ChangesTimes old.view new.view → after ≡ before
      → ((answer : Answered) → AnswersAs home before.by.0 (length tries.was.trace + 1) s (holdings_of before) old new came_to answer → written.written_by (holdings_of before) s answer ≡ []) → IsLedger (ledger_of old) → Went s before (length tries.was.trace + 1) old new
  times_only came_to before after old new tries times same answers is =
      same_bindings pictures home place s came_to before after old new tries
      (ap (λ (view : DeskView B). view.calls) times) (ap (λ (view : DeskView B). view.turns.leaves) times) (ap (λ (view : DeskView B). view.arrivals) times) same answers is

  finds_times : (old new : DeskView B) (fence : Option Fence) → FindsOpen home fence old new → ChangesTimes old new
  finds_times old new None none = absurd none
  finds_times old new (Some fence) finds = finds.3

  -- a buffer leaves its queue behind its fence
  pub leaves_keep : (came_to : Tried) (before after : Bindings B) (old new : State B) (tries : TriesIn pictures home place s came_to before after old new) (fence : Option Fence) → refusal_of pictures (holdings_of before) s ≡ None
      → ((answer : Answered) → written.written_by (holdings_of before) s answer ≡ [])
      → TriesToLeave pictures home before.by.0 (length tries.was.trace + 1) s fence before after old.view new.view came_to → IsLedger (ledger_of old) → Went s before (length tries.was.trace + 1) old new
  leaves_keep (tried.Own status) before after old new tries fence unrefused nothing leaves is =
      times_only (tried.Own status) before after old new tries (finds_times old.view new.view fence leaves.2) leaves.1 (λ answer told. nothing answer) is
  leaves_keep (tried.Called status values) before after old new tries fence unrefused nothing leaves is =
      makes_keep pictures home place s (tried.Called status values) before after after old new tries leaves.0 (looks_here (tried.Called status values) before after old new tries leaves.0 fence leaves.1) unrefused leaves.2
      (λ w. omega arith) (gets_same (bindings_owe after)) (λ e. refl) is
  leaves_keep (tried.Sent number) before after old new tries fence unrefused nothing leaves is =
      makes_keep pictures home place s (tried.Sent number) before after after old new tries leaves.0 (looks_here (tried.Sent number) before after old new tries leaves.0 fence leaves.1) unrefused leaves.2
      (λ w. omega arith) (gets_same (bindings_owe after)) (λ e. refl) is
  leaves_keep tried.NotYet before after old new tries fence unrefused nothing leaves is =
      makes_keep pictures home place s tried.NotYet before after after old new tries leaves.0 (looks_here tried.NotYet before after old new tries leaves.0 fence leaves.1) unrefused leaves.2
      (λ w. omega arith) (gets_same (bindings_owe after)) (λ e. refl) is

  -- a disconnect
  pub disconnects_keep : (came_to : Tried) (before after : Bindings B) (old new : State B) (tries : TriesIn pictures home place s came_to before after old new) (queue : ℕ) → refusal_of pictures (holdings_of before) s ≡ None
      → Disconnects pictures home before.by.0 (length tries.was.trace + 1) s queue before after old.view new.view came_to → IsLedger (ledger_of old) → Went s before (length tries.was.trace + 1) old new
  disconnects_keep came_to before after old new tries queue unrefused cuts is =
      makes_keep pictures home place s came_to before after cuts.called old new tries old.view (record { calls = refl; leaves = refl; arrivals = refl }) unrefused cuts.makes
      (λ w. let less = dropped_less w queue came_to cuts.called in let e = ap (λ (bindings : Bindings B). sum_by w (places_held (parts_of bindings))) cuts.drops in omega (arith, less, e))
      (subst (λ (bindings : Bindings B). Gets (bindings_owe cuts.called) [] (bindings_owe bindings)) (sym cuts.drops) (dropped_owes queue came_to cuts.called))
      (λ waits. sym (cuts.drops ∙ ap (λ (came : Tried). dropped_after queue came cuts.called) waits)) is

  -- a transaction is changed
  pub changes_keep : (came_to : Tried) (before after : Bindings B) (old new : State B) (tries : TriesIn pictures home place s came_to before after old new) → new.view ≡ old.view → after.names ≡ before.names
      → ((w : RightAt → ℕ) → sum_by w (places_held (parts_of after)) ≤ sum_by w (places_held (parts_of before))) → ((answer : Answered) → written.written_by (holdings_of before) s answer ≡ []) → IsLedger (ledger_of old) → Went s before (length tries.was.trace + 1) old new
  changes_keep came_to before after old new tries same names less nothing is = rests_keeps pictures home place s came_to before after old new tries (record {
    calls = ap (λ (view : DeskView B). view.calls) same;
    leaves = ap (λ (view : DeskView B). view.turns.leaves) same;
    held = bindings_only pictures home place s came_to before after old new tries (ap (λ (view : DeskView B). view.arrivals) same) less;
    owed = names_owe before after names;
    answers = λ answer told. nothing answer;
  }) is

  pub edits_keep : (came_to : Tried) (before after : Bindings B) (old new : State B) (tries : TriesIn pictures home place s came_to before after old new) (number : ℕ) (change : Contents ReadLeaseOf → Contents ReadLeaseOf)
      → ((txn : Contents ReadLeaseOf) → places_sent (change txn) ≡ places_sent txn) → ((answer : Answered) → written.written_by (holdings_of before) s answer ≡ [])
      → Changes (Edits before after number change) old.view new.view came_to → IsLedger (ledger_of old) → Went s before (length tries.was.trace + 1) old new
  edits_keep came_to before after old new tries number change keeps nothing changes is =
      changes_keep came_to before after old new tries changes.desk (edits_names before after number change changes.changed)
      (λ w. let sum = edits_sum w before after number change changes.changed in let e = ap (sum_by w) (keeps changes.changed.edited) in omega (arith, sum, e)) nothing is

  -- a transaction is sent
  pub sends_keep : (came_to : Tried) (before after : Bindings B) (old new : State B) (tries : TriesIn pictures home place s came_to before after old new) (number token : ℕ) → ((answer : Answered) → written.written_by (holdings_of before) s answer ≡ [])
      → TriesSend home before.by.0 (length tries.was.trace + 1) number token before after old.view new.view came_to → IsLedger (ledger_of old) → Went s before (length tries.was.trace + 1) old new
  sends_keep (tried.Own status) before after old new tries number token nothing sends is = absurd sends
  sends_keep (tried.Called status values) before after old new tries number token nothing sends is = absurd sends
  sends_keep tried.NotYet before after old new tries number token nothing sends is = absurd sends
  sends_keep (tried.Sent arrival) before after old new tries number token nothing sends is = rests_keeps pictures home place s (tried.Sent arrival) before after old new tries (record {
    calls = ap (λ (view : DeskView B). view.calls) sends.made.same;
    leaves = ap (λ (view : DeskView B). view.turns.leaves) sends.made.same;
    held = λ w.
        let take = take_txn w before after number sends.sent sends.takes in
        let on_way = ap (λ (xs : List (Arrival ReadLeaseOf)). sum_by w (flat_map places_arrived xs)) added in
        let single = sum_by-append w (places_sent sends.sent) [] in
        omega (arith, take, on_way, single);
    owed = names_owe before after (ap (λ (bindings : Bindings B). bindings.names) sends.takes.txn_rest);
    answers = λ answer told. nothing answer;
  }) is
    where
      cancel : {A : Type 0} (xs ys zs : List A) → xs ++ ys ≡ xs ++ zs → ys ≡ zs
      cancel [] ys zs same = same
      cancel (x ∷ xs) ys zs same = cancel xs ys zs (cc)

      added : tries.sends ≡ record { number = length sends.made.earlier + 1; actor = record { 0 = before.by.0 }; step = length tries.was.trace + 1; txn = record sends.sent { token = record { 0 = token } } } ∷ []
      added = cancel old.view.arrivals tries.sends _ (sym tries.sent ∙ sends.made.last ∙ ap (λ (xs : List (Arrival ReadLeaseOf)). xs ++ record { number = length sends.made.earlier + 1; actor = record { 0 = before.by.0 }; step = length tries.was.trace + 1; txn = record sends.sent { token = record { 0 = token } } } ∷ []) (sends.made.alone tries.exact))

-- Rounds over a tree for more layers, where each commit had room.
use Rattle.std.proofs.Common.{◌≡◌, ◌≢◌, ℕ, ◌≤◌, Bool, List, [], ◌∷◌, ◌++◌, map, Some, Result, Ok, Err, refl, ap, ◌∙◌, sym, subst}
use Rattle.std.specs.List.{All, find}
use Rattle.std.specs.Option.{unwrap_or}
use Rattle.std.proofs.lemmas.List.Elements.{All-cons, All-head, All-nil, All-tail}
use Rattle.sf_base.specs.declared.fences.Seen.{Seen}
use Rattle.sf_layer.specs.declared.layer.Layer.{Layer}
use Rattle.sf_token.specs.Pending.{Arrival, has_number, is_of}
use Rattle.sf_tree.specs.Changes.{Rejection, after, after_from, with_layers}
use Rattle.sf_tree.specs.Trees.{TreeOf}
use Rattle.sf_txn.specs.Transactions.{without_first}
use Rattle.sf_commit.proofs.DecideLemmas.{all_left}
use Rattle.sf_commit.specs.Rounds.{Decided, Leads, Round, committed, facts_of, frames_in, layers_in, shown_if, stage_with}
use Rattle.sf_actor.specs.Names.{FrameOf}
use Rattle.sf_record.specs.declared.event.VsyncRecords.{VsyncRecords}
use Rattle.sf_record.specs.declared.record.CommitRecord.{CommitRecord}
use Rattle.law_versions.proofs.MoreRoom.{HasRoom, after_more, in_more, with_most}
use Rattle.law_played.proofs.OrderLemmas.{found_has}
use Rattle.law_played.proofs.PathLemmas.{cause_of, ready_next, told_along, told_at}
use Rattle.law_played.specs.Commits.{commit_shown}
use Rattle.law_played.specs.Stages.{CommitAt, VsyncAt, arrival_at, begun, commits_from, ended, no_arrival, round_after, round_at_end, told_from}

-- the same round, where there can be so many layers
abbrev pub wide : ℕ → Round FrameOf → Round FrameOf
wide most r = record r { stage = record r.stage { tree = with_most most r.stage.tree } }

-- the same round, with this pending
abbrev pub waiting : List (Arrival FrameOf) → Round FrameOf → Round FrameOf
waiting pending r = record r { pending = pending }

-- a transaction has room at a round, a commit had it, and each commit of a vsync
abbrev pub HasRoomAt : Round FrameOf → Arrival FrameOf → Type 0
HasRoomAt r arrived = HasRoom (after r.stage.tree arrived.txn.ops)

abbrev pub HadRoomAt : CommitAt → Type 0
HadRoomAt at = HasRoomAt at.round at.arrived

abbrev pub AllHadRoom : VsyncAt → Type 0
AllHadRoom told = All HadRoomAt told.commits

-- a round after a transaction whose operations came to this
abbrev with_result : Round FrameOf → Arrival FrameOf → Result TreeOf Rejection → Round FrameOf
with_result r arrived result =
    let shown = shown_if result arrived.txn.buffers in
    record {
      stage = stage_with r.stage arrived result;
      pending = without_first (is_of arrived.txn.token) r.pending;
      frames = frames_in shown ++ r.frames;
      fresh = layers_in shown ++ r.fresh;
    }

result_wide : (most : ℕ) (r : Round FrameOf) (arrived : Arrival FrameOf) (result : Result TreeOf Rejection) → with_result (wide most r) arrived (in_more most result) ≡ wide most (with_result r arrived result)
result_wide most r arrived (Ok tree) = refl
result_wide most r arrived (Err rejection) = refl

committed_wide : (most : ℕ) (r : Round FrameOf) (arrived : Arrival FrameOf) → r.stage.tree.most ≤ most → HasRoomAt r arrived → committed (wide most r) arrived ≡ wide most (committed r arrived)
committed_wide most r arrived more room =
    ap (with_result (wide most r) arrived) (after_more r.stage.tree most arrived.txn.ops more room) ∙ result_wide most r arrived (after r.stage.tree arrived.txn.ops)

-- a transaction leaves how many layers there can be
most_stays : (r : Round FrameOf) (arrived : Arrival FrameOf) (layers : Result (List Layer) Rejection) → (with_result r arrived (with_layers r.stage.tree layers)).stage.tree.most ≡ r.stage.tree.most
most_stays r arrived (Ok layers) = refl
most_stays r arrived (Err rejection) = refl

committed_most : (most : ℕ) (r : Round FrameOf) (arrived : Arrival FrameOf) → r.stage.tree.most ≤ most → (committed r arrived).stage.tree.most ≤ most
committed_most most r arrived more = subst (λ (n : ℕ). n ≤ most) (sym (most_stays r arrived (after_from r.stage.tree.most 1 r.stage.tree.layers arrived.txn.ops))) more

-- what comes of a round in a tree for more layers
record ComesWide (most : ℕ) (other one : Round FrameOf) : Type 0 where
  is : other ≡ wide most one
  more : one.stage.tree.most ≤ most

module _ (arrivals : List (Arrival FrameOf)) (most : ℕ) where
  after_wide : (r : Round FrameOf) (commits : List CommitRecord) → r.stage.tree.most ≤ most → All HadRoomAt (commits_from arrivals r commits)
      → ComesWide most (round_after arrivals (wide most r) commits) (round_after arrivals r commits)
  unfolding round_after commits_from
  after_wide r [] more room = record { is = refl; more = more }
  after_wide r (commit ∷ later) more room =
      let arrived = arrival_at arrivals commit.arrival in
      let next = committed r arrived in
      let here = All-head HadRoomAt (record { round = r; arrived = arrived; commit = commit }) (commits_from arrivals next later) room in
      let rest = after_wide next later (committed_most most r arrived more) (All-tail HadRoomAt (record { round = r; arrived = arrived; commit = commit }) (commits_from arrivals next later) room) in
      record { is = ap (λ (x : Round FrameOf). round_after arrivals x later) (committed_wide most r arrived more here) ∙ rest.is; more = rest.more }

  pub end_wide : (r : Round FrameOf) (vsyncs : List VsyncRecords) → r.stage.tree.most ≤ most → All AllHadRoom (told_from arrivals r vsyncs)
      → (round_at_end (wide most r) (told_from arrivals (wide most r) vsyncs) ≡ wide most (round_at_end r (told_from arrivals r vsyncs)))
      × ((round_at_end r (told_from arrivals r vsyncs)).stage.tree.most ≤ most)
  unfolding told_from round_at_end
  end_wide r [] more room = (refl, more)
  end_wide r (vsync ∷ later) more room =
      let end = ended (round_after arrivals (begun r) vsync.commits) in
      let at : VsyncAt = record { vsync = vsync; commits = commits_from arrivals (begun r) vsync.commits; round = end } in
      let here = after_wide (begun r) vsync.commits more (All-head AllHadRoom at (told_from arrivals end later) room) in
      let rest = end_wide end later here.more (All-tail AllHadRoom at (told_from arrivals end later) room) in
      (ap (λ (x : Round FrameOf). round_at_end (ended x) (told_from arrivals (ended x) later)) here.is ∙ rest.0, rest.1)

-- each of these transactions has room at its place
abbrev pub HaveRoom : Round FrameOf → List (Arrival FrameOf) → Type 0
HaveRoom r [] = Unit {0}
HaveRoom r (arrived ∷ later) = HasRoomAt r arrived × HaveRoom (committed r arrived) later

room_of : (result : Result TreeOf Rejection) → cause_of result ≢ 5 → HasRoom result
room_of (Ok tree) room = tt
room_of (Err rejection) room = room

-- as their records say
pub room_told : (r : Round FrameOf) (taken : List (Arrival FrameOf)) → All (λ (commit : CommitRecord). commit.result ≢ 5) (map commit_shown (told_along r taken)) → HaveRoom r taken
room_told r [] told = tt
room_told r (arrived ∷ later) told =
    let others = map commit_shown (told_along (committed r arrived) later) in (
      room_of (after r.stage.tree arrived.txn.ops) (All-head (λ (commit : CommitRecord). commit.result ≢ 5) (commit_shown (told_at r arrived)) others told),
      room_told (committed r arrived) later (All-tail (λ (commit : CommitRecord). commit.result ≢ 5) (commit_shown (told_at r arrived)) others told),
    )

module _ (drawn : FrameOf → Bool) (seen : Seen) (expected : ℕ) (most : ℕ) where
  leads_wide : (r end : Round FrameOf) (taken : List (Arrival FrameOf)) → r.stage.tree.most ≤ most → HaveRoom r taken → Leads drawn seen expected r taken end
      → Leads drawn seen expected (wide most r) taken (wide most end)
  leads_wide r end [] more room leads = ap (wide most) leads
  leads_wide r end (arrived ∷ later) more room leads = (
    leads.0,
    subst (λ (x : Round FrameOf). Leads drawn seen expected x later (wide most end)) (sym (committed_wide most r arrived more room.0))
        (leads_wide (committed r arrived) end later (committed_most most r arrived more) room.1 leads.1),
  )

  pub decided_wide : (r end : Round FrameOf) → r.stage.tree.most ≤ most → (d : Decided drawn seen expected r end) → HaveRoom r d.taken → Decided drawn seen expected (wide most r) (wide most end)
  decided_wide r end more d room = record { taken = d.taken; leads = leads_wide r end d.taken more room d.leads; rests = d.rests }

-- it is the arrival of its number
abbrev pub IsFound : List (Arrival FrameOf) → Arrival FrameOf → Type 0
IsFound arrivals arrived = find (has_number arrived.number) arrivals ≡ Some arrived

found_at : (arrivals : List (Arrival FrameOf)) (arrived : Arrival FrameOf) → IsFound arrivals arrived → arrival_at arrivals arrived.number ≡ arrived
unfolding arrival_at
found_at arrivals arrived found = ap (λ o. unwrap_or o no_arrival) found

module _ (arrivals : List (Arrival FrameOf)) (drawn : FrameOf → Bool) (seen : Seen) (expected : ℕ) where
  -- commits that are told of a vsync had the room that its transactions had
  pub commits_had_room : (pending : List (Arrival FrameOf)) (r end : Round FrameOf) (taken : List (Arrival FrameOf)) → All (IsFound arrivals) r.pending → HaveRoom r taken
      → Leads drawn seen expected r taken end → All HadRoomAt (commits_from arrivals (waiting pending r) (map commit_shown (told_along r taken)))
  unfolding commits_from
  commits_had_room pending r end [] found room leads = All-nil HadRoomAt
  commits_had_room pending r end (arrived ∷ later) found room leads =
      let next = ready_next drawn seen expected (facts_of r) r.pending arrived leads.0.0 in
      let at = found_at arrivals arrived (found_has (IsFound arrivals) (is_of arrived.txn.token) r.pending arrived found next.head) in
      let commit = commit_shown (told_at r arrived) in
      let others = map commit_shown (told_along (committed r arrived) later) in
      subst (λ (x : Arrival FrameOf). All HadRoomAt (record { round = waiting pending r; arrived = x; commit = commit } ∷ commits_from arrivals (committed (waiting pending r) x) others)) (sym at)
      (All-cons HadRoomAt (record { round = waiting pending r; arrived = arrived; commit = commit }) (commits_from arrivals (committed (waiting pending r) arrived) others) room.0
      (commits_had_room (without_first (is_of arrived.txn.token) pending) (committed r arrived) end later (all_left (IsFound arrivals) (is_of arrived.txn.token) r.pending found) room.1 leads.1))

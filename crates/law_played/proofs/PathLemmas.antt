-- The commits of one vsync: the records' rounds are those of the handler, each commit was ready, and none overtook what was not held.
use Rattle.std.proofs.Common.{◌≡◌, ℕ, ◌<◌, Bool, true, false, List, [], ◌∷◌, ◌++◌, map, Option, Some, None, Result, Ok, Err, refl, ap, sym, ◌∙◌, subst, arith}
use Rattle.std.specs.Prelude.{is_none}
use Rattle.std.specs.List.{All, find}
use Rattle.std.specs.Option.{unwrap_or}
use Rattle.std.proofs.lemmas.Bool.{ltb-true}
use Rattle.std.proofs.lemmas.List.{append-nil, append_assoc}
use Rattle.std.proofs.lemmas.List.Elements.{All-cons, All-nil}
use Rattle.std.proofs.lemmas.Option.{none-some, same_Some}
use Rattle.sf_base.specs.declared.fences.Seen.{Seen}
use Rattle.sf_commit.specs.sf_ready.Facts.{FactsOf}
use Rattle.sf_commit.specs.sf_ready.Holds.{hold_of}
use Rattle.sf_commit.specs.sf_token.Pending.{Arrival, has_number, head_of, is_of}
use Rattle.sf_compose.specs.sf_tree.Changes.{Rejection, after}
use Rattle.sf_compose.specs.sf_tree.Trees.{TreeOf}
use Rattle.sf_commit.specs.sf_txn.Buffers.{Buffer}
use Rattle.sf_commit.proofs.DecideLemmas.{all_left, hold_same}
use Rattle.sf_commit.specs.Rounds.{IsNext, Leads, Round, StageOf, commit_of, committed, facts_of, stage_with}
use Rattle.sf_commit.specs.sf_commit_next.Heads.{head_hold, ready_if, ready_of}
use Rattle.sf_commit.specs.declared.vsync.Commit.{Commit}
use Rattle.sf_actor.specs.Names.{FrameOf}
use Rattle.sf_actor.specs.Written.{FrameNumber}
use Rattle.sf_record.specs.declared.event.VsyncRecords.{VsyncRecords}
use Rattle.sf_record.specs.declared.record.CommitRecord.{CommitRecord}
use Rattle.law_played.proofs.FramingLemmas.{round_committed}
use Rattle.law_played.proofs.HoldLemmas.{decides_same, held_too, hold_framed, ready_too}
use Rattle.law_played.proofs.OrderLemmas.{IsCommitOf, found_has, head_before, order_after, waits_after}
use Rattle.law_played.specs.Commits.{CommitsReady, OvertakesHeld, WasReady, commit_shown, is_written, seen_by}
use Rattle.law_played.specs.Framing.{IsRoundOf, framed_arrival, framed_buffer, framed_txn}
use Rattle.law_played.specs.Holds.{uncommitted}
use Rattle.law_played.specs.Progress.{AreInOrder}
use Rattle.law_played.specs.Stages.{CommitAt, arrival_at, commits_from, no_arrival, round_after}
use Rattle.law_played.specs.Vsyncs.{AllNext, AllNextTo}

abbrev pub cause_of : Result TreeOf Rejection → ℕ
cause_of (Ok tree) = 0
cause_of (Err rejection) = rejection.cause

abbrev pub op_of : Result TreeOf Rejection → ℕ
op_of (Ok tree) = 0
op_of (Err rejection) = rejection.op

module _ {L : Type 0} where
  -- what is told of a transaction at its place
  abbrev pub told_at : Round L → Arrival L → Commit
  told_at r a = commit_of a (cause_of (after r.stage.tree a.txn.ops)) (op_of (after r.stage.tree a.txn.ops))

  abbrev pub told_along : Round L → List (Arrival L) → List Commit
  told_along r [] = []
  told_along r (a ∷ later) = told_at r a ∷ told_along (committed r a) later

  one_told : (stage : StageOf L) (a : Arrival L) (res : Result TreeOf Rejection) → (stage_with stage a res).commits ≡ stage.commits ++ commit_of a (cause_of res) (op_of res) ∷ []
  one_told stage a (Ok tree) = refl
  one_told stage a (Err rejection) = refl

  module _ (drawn : L → Bool) (seen : Seen) (expected : ℕ) where
    pub commits_along : (r end : Round L) (taken : List (Arrival L)) → Leads drawn seen expected r taken end → end.stage.commits ≡ r.stage.commits ++ told_along r taken
    commits_along r end [] leads = ap (λ (x : Round L). x.stage.commits) leads ∙ sym (append-nil r.stage.commits)
    commits_along r end (a ∷ later) leads =
        commits_along (committed r a) end later leads.1
        ∙ (ap (λ cs. cs ++ told_along (committed r a) later) (one_told r.stage a (after r.stage.tree a.txn.ops))
        ∙ append_assoc r.stage.commits (told_at r a ∷ []) (told_along (committed r a) later))

    -- what is next is the first of its token, and nothing holds it
    pub record IsReadyNext (facts : FactsOf) (pending : List (Arrival L)) (a : Arrival L) : Type 0 where
      pub head : head_of a.txn.token pending ≡ Some a
      pub free : is_none (head_hold drawn seen expected facts a) ≡ true

    pub ready_next : (facts : FactsOf) (pending : List (Arrival L)) (a : Arrival L) → ready_of drawn seen expected facts pending a.txn.token ≡ Some a → IsReadyNext facts pending a
    ready_next facts pending a e = by_head (head_of a.txn.token pending) refl
      where
        by_head : (o : Option (Arrival L)) → head_of a.txn.token pending ≡ o → IsReadyNext facts pending a
        by_head None h = absurd (none-some a (sym (ap (ready_if drawn seen expected facts) h) ∙ e))
        by_head (Some b) h = by_test (is_none (head_hold drawn seen expected facts b)) refl
          where
            said : ready_if drawn seen expected facts (Some b) ≡ Some a
            said = sym (ap (ready_if drawn seen expected facts) h) ∙ e

            by_test : (t : Bool) → is_none (head_hold drawn seen expected facts b) ≡ t → IsReadyNext facts pending a
            by_test true free =
                let same : b ≡ a = same_Some b a (rw free at said) in
                record { head = h ∙ ap (λ x. Some x) same; free = ap (λ x. is_none (head_hold drawn seen expected facts x)) (sym same) ∙ free }
            by_test false held = absurd (none-some a (rw held at said))

    -- where nothing of a token is ready, its first is held
    pub not_ready : (facts : FactsOf) (pending : List (Arrival L)) (a : Arrival L) → ready_of drawn seen expected facts pending a.txn.token ≡ None → head_of a.txn.token pending ≡ Some a
        → is_none (head_hold drawn seen expected facts a) ≡ false
    not_ready facts pending a none head = by_test (is_none (head_hold drawn seen expected facts a)) refl
      where
        said : ready_if drawn seen expected facts (Some a) ≡ None
        said = sym (ap (ready_if drawn seen expected facts) head) ∙ none

        by_test : (t : Bool) → is_none (head_hold drawn seen expected facts a) ≡ t → is_none (head_hold drawn seen expected facts a) ≡ false
        by_test true free = absurd (none-some a (sym (rw free at said)))
        by_test false held = held

module _ {L : Type 0} (frame : L → FrameOf) (arrivals : List (Arrival FrameOf)) where
  -- it is the arrival of its number
  abbrev pub IsFound : Arrival L → Type 0
  IsFound a = find (has_number a.number) arrivals ≡ Some (framed_arrival frame a)

  pub found_at : (a : Arrival L) → IsFound a → arrival_at arrivals a.number ≡ framed_arrival frame a
  unfolding arrival_at
  found_at a found = ap (λ o. unwrap_or o no_arrival) found

  module _ (drawn : L → Bool) (seen : Seen) (expected : ℕ) where
    pub round_along : (round : Round FrameOf) (r end : Round L) (taken : List (Arrival L)) → IsRoundOf frame round r → All IsFound r.pending → Leads drawn seen expected r taken end
        → IsRoundOf frame (round_after arrivals round (map commit_shown (told_along r taken))) end
    unfolding round_after
    round_along round r end [] is found leads = subst (IsRoundOf frame round) (sym leads) is
    round_along round r end (a ∷ later) is found leads =
        let next = ready_next drawn seen expected (facts_of r) r.pending a leads.0.0 in
        let at = found_at a (found_has IsFound (is_of a.txn.token) r.pending a found next.head) in
        round_along (committed round (arrival_at arrivals a.number)) (committed r a) end later
        (subst (λ x. IsRoundOf frame (committed round x) (committed r a)) (sym at) (round_committed frame round r a is))
        (all_left IsFound (is_of a.txn.token) r.pending found) leads.1

  module _ (drawn : L → Bool) (vsync : VsyncRecords) (written : List FrameNumber) where
    pub flags_framed : (buffers : List (Buffer L)) → map (λ (b : Buffer FrameOf). is_written written b.lease) (map (framed_buffer frame) buffers) ≡ map (λ (b : Buffer L). is_written written (frame b.lease)) buffers
    flags_framed [] = refl
    flags_framed (b ∷ bs) = ap (λ rest. is_written written (frame b.lease) ∷ rest) (flags_framed bs)

    -- what holds an arrival at a round, by what is written
    hold_written : (round : Round FrameOf) (r : Round L) (a : Arrival L) → IsRoundOf frame round r → IsFound a
        → head_hold (is_written written) (seen_by vsync) vsync.expected (facts_of round) (arrival_at arrivals a.number)
        ≡ hold_of a.txn (map (λ (b : Buffer L). is_written written (frame b.lease)) a.txn.buffers) (facts_of r) (seen_by vsync) vsync.expected
    hold_written round r a is found =
        ap (λ (x : Arrival FrameOf). head_hold (is_written written) (seen_by vsync) vsync.expected (facts_of round) x) (found_at a found)
        ∙ (ap (λ flags. hold_of (framed_txn frame a.txn) flags (facts_of round) (seen_by vsync) vsync.expected) (flags_framed a.txn.buffers)
        ∙ (hold_framed frame a.txn (map (λ (b : Buffer L). is_written written (frame b.lease)) a.txn.buffers) (facts_of round) (seen_by vsync) vsync.expected
        ∙ hold_same a.txn (map (λ (b : Buffer L). is_written written (frame b.lease)) a.txn.buffers) (facts_of round) (facts_of r) (seen_by vsync) vsync.expected (decides_same frame round r is)))

    -- what the looks showed of an arrival is written
    abbrev pub IsWrote : Arrival L → Type 0
    IsWrote a = All (λ (b : Buffer L). drawn b.lease ≡ true → is_written written (frame b.lease) ≡ true) a.txn.buffers

    pub record IsAt (round : Round FrameOf) (r : Round L) : Type 0 where
      pub is : IsRoundOf frame round r
      pub found : All IsFound r.pending
      pub wrote : All IsWrote r.pending

    abbrev commit_at : Round FrameOf → Round L → Arrival L → CommitAt
    commit_at round r a = record { round = round; arrived = arrival_at arrivals a.number; commit = commit_shown (told_at r a) }

    module _ (round : Round FrameOf) (r : Round L) (a : Arrival L) (at : IsAt round r) (is_next : IsNext drawn (seen_by vsync) vsync.expected r (Some a)) where
      next_is : IsReadyNext drawn (seen_by vsync) vsync.expected (facts_of r) r.pending a
      next_is = ready_next drawn (seen_by vsync) vsync.expected (facts_of r) r.pending a is_next.0

      pub goes_on : IsAt (committed round (arrival_at arrivals a.number)) (committed r a)
      goes_on = record {
        is = subst (λ x. IsRoundOf frame (committed round x) (committed r a)) (sym (found_at a (found_has IsFound (is_of a.txn.token) r.pending a at.found next_is.head)))
            (round_committed frame round r a at.is);
        found = all_left IsFound (is_of a.txn.token) r.pending at.found;
        wrote = all_left IsWrote (is_of a.txn.token) r.pending at.wrote;
      }

      pub was_ready : WasReady written vsync (commit_at round r a)
      was_ready =
          hold_written round r a at.is (found_has IsFound (is_of a.txn.token) r.pending a at.found next_is.head)
          ∙ ready_too drawn (λ l. is_written written (frame l)) a.txn (facts_of r) (seen_by vsync) vsync.expected
          (found_has IsWrote (is_of a.txn.token) r.pending a at.wrote next_is.head) next_is.free

      -- what commits after it and is of a lower token was held
      pub was_held : (b : Arrival L) → IsNext drawn (seen_by vsync) vsync.expected (committed r a) (Some b)
          → OvertakesHeld written vsync (commit_at round r a) (commit_at (committed round (arrival_at arrivals a.number)) (committed r a) b)
      was_held b later less none =
          let lower : b.txn.token.0 < a.txn.token.0 = ltb-true b.txn.token.0 a.txn.token.0 less in
          let then = ready_next drawn (seen_by vsync) vsync.expected (facts_of (committed r a)) (committed r a).pending b later.0 in
          let head : head_of b.txn.token r.pending ≡ Some b = sym (head_before b.txn.token a.txn.token r.pending (λ e. omega (arith, lower, e))) ∙ then.head in
          let held = not_ready drawn (seen_by vsync) vsync.expected (facts_of r) r.pending b (is_next.1 b.txn.token lower) head in
          held_too drawn (λ l. is_written written (frame l)) b.txn (facts_of r) (facts_of (committed r a)) (seen_by vsync) vsync.expected
          (found_has IsWrote (is_of b.txn.token) r.pending b at.wrote head) then.free held
          (sym (hold_written round r b at.is (found_has IsFound (is_of b.txn.token) r.pending b at.found head)) ∙ none)

    ready_along : (round : Round FrameOf) (r end : Round L) (taken : List (Arrival L)) → IsAt round r → Leads drawn (seen_by vsync) vsync.expected r taken end
        → All (WasReady written vsync) (commits_from arrivals round (map commit_shown (told_along r taken)))
    unfolding commits_from
    ready_along round r end [] at leads = All-nil (WasReady written vsync)
    ready_along round r end (a ∷ later) at leads =
        All-cons (WasReady written vsync) (commit_at round r a)
        (commits_from arrivals (committed round (arrival_at arrivals a.number)) (map commit_shown (told_along (committed r a) later)))
        (was_ready round r a at leads.0)
        (ready_along (committed round (arrival_at arrivals a.number)) (committed r a) end later (goes_on round r a at leads.0) leads.1)

    lowest_next : (round : Round FrameOf) (r end : Round L) (a : Arrival L) (taken : List (Arrival L)) → IsAt round r → IsNext drawn (seen_by vsync) vsync.expected r (Some a)
        → Leads drawn (seen_by vsync) vsync.expected (committed r a) taken end
        → AllNextTo (OvertakesHeld written vsync) (commit_at round r a)
        (commits_from arrivals (committed round (arrival_at arrivals a.number)) (map commit_shown (told_along (committed r a) taken)))
    unfolding commits_from
    lowest_next round r end a [] at is_next leads = tt
    lowest_next round r end a (b ∷ later) at is_next leads =
        (was_held round r a at is_next b leads.0, lowest_next (committed round (arrival_at arrivals a.number)) (committed r a) end b later (goes_on round r a at is_next) leads.0 leads.1)

    lowest_along : (round : Round FrameOf) (r end : Round L) (taken : List (Arrival L)) → IsAt round r → Leads drawn (seen_by vsync) vsync.expected r taken end
        → AllNext (OvertakesHeld written vsync) (commits_from arrivals round (map commit_shown (told_along r taken)))
    unfolding commits_from
    lowest_along round r end [] at leads = tt
    lowest_along round r end (a ∷ later) at leads = lowest_next round r end a later at leads.0 leads.1

    -- all commits of a vsync were ready
    pub ready_told : (round : Round FrameOf) (r end : Round L) (taken : List (Arrival L)) (commits : List CommitRecord) → IsAt round r → Leads drawn (seen_by vsync) vsync.expected r taken end
        → commits ≡ map commit_shown (told_along r taken)
        → (last : Round FrameOf) → CommitsReady written (record { vsync = vsync; commits = commits_from arrivals round commits; round = last })
    ready_told round r end taken commits at leads same last = record {
      ready = subst (λ cs. All (WasReady written vsync) (commits_from arrivals round cs)) (sym same) (ready_along round r end taken at leads);
      lowest = subst (λ cs. AllNext (OvertakesHeld written vsync) (commits_from arrivals round cs)) (sym same) (lowest_along round r end taken at leads);
    }

module _ {L : Type 0} (frame : L → FrameOf) (drawn : L → Bool) (seen : Seen) (expected : ℕ) (arrivals : List (Arrival FrameOf)) (last : ℕ) where
  -- what waits, and the order of each token, after these commits
  pub record WaitsAfter (commits : List CommitRecord) (pending : List (Arrival L)) : Type 0 where
    pub order : AreInOrder arrivals last commits
    pub waits : map (framed_arrival frame) pending ≡ uncommitted arrivals commits

  pub waits_along : (r end : Round L) (taken : List (Arrival L)) (commits : List CommitRecord) → Leads drawn seen expected r taken end → WaitsAfter commits r.pending
      → WaitsAfter (commits ++ map commit_shown (told_along r taken)) end.pending
  waits_along r end [] commits leads w =
      subst (λ (x : Round L). WaitsAfter (commits ++ []) x.pending) (sym leads) (subst (λ cs. WaitsAfter cs r.pending) (sym (append-nil commits)) w)
  waits_along r end (a ∷ later) commits leads w =
      let next = ready_next drawn seen expected (facts_of r) r.pending a leads.0.0 in
      let one = commit_shown (told_at r a) in
      let of : IsCommitOf one a = record { number = refl; token = refl } in
      subst (λ cs. WaitsAfter cs end.pending) (append_assoc commits (one ∷ []) (map commit_shown (told_along (committed r a) later)))
      (waits_along (committed r a) end later (commits ++ one ∷ []) leads.1 (record {
        order = order_after frame arrivals last commits r.pending a one w.order w.waits next.head of;
        waits = waits_after frame arrivals last commits r.pending a one w.order.rising w.waits next.head of;
      }))

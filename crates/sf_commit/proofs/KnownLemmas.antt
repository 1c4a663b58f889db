-- What is known of leases along a vsync: what is committed was looked at and is drawn.
use Rattle.std.proofs.Common.{◌≡◌, ℕ, Bool, true, false, List, [], ◌∷◌, map, Option, Some, None, Result, Ok, Err, refl, ap, sym, ◌∙◌, subst, true≢false}
use Rattle.std.specs.Prelude.{is_none}
use Rattle.std.specs.List.{All}
use Rattle.std.specs.Option.{IfSome, option_or, unwrap_or}
use Rattle.std.proofs.lemmas.List.Elements.{All-append, All-cons, All-head, All-nil, All-tail}
use Rattle.std.proofs.lemmas.Option.{none-some}
use Rattle.sf_base.specs.declared.fences.Seen.{Seen}
use Rattle.sf_commit_next.specs.sf_ready.Facts.{FactsOf}
use Rattle.sf_commit_next.specs.sf_ready.Holds.{barrier_hold, fence_hold, hold_of, pressure_hold, time_hold, undrawn_hold}
use Rattle.sf_commit_next.specs.sf_token.Pending.{Arrival, head_of, is_of}
use Rattle.sf_view.specs.sf_tree.Changes.{Rejection, after}
use Rattle.sf_view.specs.sf_tree.Trees.{TreeOf}
use Rattle.sf_commit_next.specs.sf_txn.Buffers.{Buffer}
use Rattle.sf_commit_next.specs.sf_txn.Transactions.{Contents}
use Rattle.sf_commit.proofs.DecideLemmas.{all_left}
use Rattle.sf_commit.proofs.LeadLemmas.{after_all, gone_all}
use Rattle.sf_commit_next.proofs.NextLemmas.{found_holds}
use Rattle.sf_commit.specs.OnLayers.{OnLayer, brought, gone_with}
use Rattle.sf_commit.specs.Rounds.{IsNext, Leads, Round, StageOf, committed, facts_of, stage_with}
use Rattle.sf_commit_next.specs.Heads.{head_hold, ready_if, ready_of}

module _ {L : Type 0} (drawn : L → Bool) where
  abbrev pub AreDrawn : List (Buffer L) → Type 0
  AreDrawn buffers = All (λ (b : Buffer L). drawn b.lease ≡ true) buffers

  -- what no write holds is drawn
  drawn_all : (buffers : List (Buffer L)) → is_none (undrawn_hold buffers (map (λ (b : Buffer L). drawn b.lease) buffers)) ≡ true → AreDrawn buffers
  drawn_all [] e = All-nil (λ (b : Buffer L). drawn b.lease ≡ true)
  drawn_all (b ∷ bs) e = by_test (drawn_all bs) (drawn b.lease) refl e
    where
      by_test : (is_none (undrawn_hold bs (map (λ (b : Buffer L). drawn b.lease) bs)) ≡ true → AreDrawn bs) → (d : Bool) → drawn b.lease ≡ d
          → is_none (undrawn_hold (b ∷ bs) (map (λ (b : Buffer L). drawn b.lease) (b ∷ bs))) ≡ true → AreDrawn (b ∷ bs)
      by_test rest true h none = All-cons (λ (b : Buffer L). drawn b.lease ≡ true) b bs h (rest (rw h at none))
      by_test rest false h none = absurd (true≢false (sym (rw h at none)))

  none_of_both : {X : Type 0} (x y : Option X) → is_none (option_or x y) ≡ true → (is_none x ≡ true) × (is_none y ≡ true)
  none_of_both None y e = (refl, e)
  none_of_both (Some x) y e = absurd (true≢false (sym e))

  -- what nothing holds is drawn
  free_is_drawn : (txn : Contents L) (facts : FactsOf) (seen : Seen) (expected : ℕ)
      → is_none (hold_of txn (map (λ (b : Buffer L). drawn b.lease) txn.buffers) facts seen expected) ≡ true → AreDrawn txn.buffers
  unfolding hold_of
  free_is_drawn txn facts seen expected e =
      let flags = map (λ (b : Buffer L). drawn b.lease) txn.buffers in
      let rest = option_or (barrier_hold txn.barriers facts.frames) (pressure_hold txn.desired txn.buffers facts.fresh facts.pressed) in
      let one = none_of_both (time_hold txn.desired expected) (option_or (fence_hold txn.buffers seen) (option_or (undrawn_hold txn.buffers flags) rest)) e in
      let two = none_of_both (fence_hold txn.buffers seen) (option_or (undrawn_hold txn.buffers flags) rest) one.1 in
      let three = none_of_both (undrawn_hold txn.buffers flags) rest two.1 in
      drawn_all txn.buffers three.0

  module _ (seen : Seen) (expected : ℕ) where
    -- what is ready is first of its token, and free
    pub record IsReady (facts : FactsOf) (pending : List (Arrival L)) (a : Arrival L) : Type 0 where
      pub head : head_of a.txn.token pending ≡ Some a
      pub free : is_none (head_hold drawn seen expected facts a) ≡ true

    is_ready : (facts : FactsOf) (pending : List (Arrival L)) (a : Arrival L) → ready_of drawn seen expected facts pending a.txn.token ≡ Some a → IsReady facts pending a
    is_ready facts pending a e = by_head (head_of a.txn.token pending) refl
      where
        by_head : (o : Option (Arrival L)) → head_of a.txn.token pending ≡ o → IsReady facts pending a
        by_head None h = absurd (none-some a (sym (ap (ready_if drawn seen expected facts) h) ∙ e))
        by_head (Some b) h = by_test (is_none (head_hold drawn seen expected facts b)) refl
          where
            said : ready_if drawn seen expected facts (Some b) ≡ Some a
            said = sym (ap (ready_if drawn seen expected facts) h) ∙ e

            by_test : (t : Bool) → is_none (head_hold drawn seen expected facts b) ≡ t → IsReady facts pending a
            by_test true free = let same : b ≡ a = ap (λ o. unwrap_or o b) (rw free at said) in record { head = h ∙ ap (λ x. Some x) same; free = ap (λ x. is_none (head_hold drawn seen expected facts x)) (sym same) ∙ free }
            by_test false held = absurd (none-some a (rw held at said))

    -- what holds of the buffers on layers, of those that go, and, once they are drawn, of those that wait
    pub record Holds (P : OnLayer L → Type 0) (r : Round L) : Type 0 where
      pub on : All P r.stage.on
      pub gone : All P r.stage.gone
      pub waits : All (λ (a : Arrival L). All (λ (b : Buffer L). drawn b.lease ≡ true → P (brought b)) a.txn.buffers) r.pending

    mapped : (P : OnLayer L → Type 0) (buffers : List (Buffer L)) → All (λ (b : Buffer L). drawn b.lease ≡ true → P (brought b)) buffers → AreDrawn buffers → All P (map brought buffers)
    mapped P [] h d = All-nil P
    mapped P (b ∷ bs) h d =
        All-cons P (brought b) (map brought bs) (All-head (λ (b : Buffer L). drawn b.lease ≡ true → P (brought b)) b bs h (All-head (λ (b : Buffer L). drawn b.lease ≡ true) b bs d))
        (mapped P bs (All-tail (λ (b : Buffer L). drawn b.lease ≡ true → P (brought b)) b bs h) (All-tail (λ (b : Buffer L). drawn b.lease ≡ true) b bs d))

    stage_holds : (P : OnLayer L → Type 0) (stage : StageOf L) (a : Arrival L) (res : Result TreeOf Rejection) → All P stage.on → All P stage.gone → All P (map brought a.txn.buffers)
        → All P (stage_with stage a res).on × All P (stage_with stage a res).gone
    stage_holds P stage a (Ok tree) on gone shown = (
      after_all P stage.on a.txn.ops a.txn.buffers on shown,
      All-append P stage.gone (gone_with stage.on a.txn.ops a.txn.buffers) gone (gone_all P stage.on a.txn.ops a.txn.buffers on shown),
    )
    stage_holds P stage a (Err rejection) on gone shown = (on, All-append P stage.gone (map brought a.txn.buffers) gone shown)

    holds_next : (P : OnLayer L → Type 0) (r : Round L) (a : Arrival L) → IsNext drawn seen expected r (Some a) → Holds P r → Holds P (committed r a)
    holds_next P r a next h =
        let ready = is_ready (facts_of r) r.pending a next.0 in
        let waits = subst (λ o. IfSome o (λ (x : Arrival L). All (λ (b : Buffer L). drawn b.lease ≡ true → P (brought b)) x.txn.buffers)) ready.head
        (found_holds (λ (x : Arrival L). All (λ (b : Buffer L). drawn b.lease ≡ true → P (brought b)) x.txn.buffers) (is_of a.txn.token) r.pending h.waits) in
        let shown = mapped P a.txn.buffers waits (free_is_drawn a.txn (facts_of r) seen expected ready.free) in
        let both = stage_holds P r.stage a (after r.stage.tree a.txn.ops) h.on h.gone shown in
        record {
          on = both.0;
          gone = both.1;
          waits = all_left (λ (x : Arrival L). All (λ (b : Buffer L). drawn b.lease ≡ true → P (brought b)) x.txn.buffers) (is_of a.txn.token) r.pending h.waits;
        }

    pub holds_along : (P : OnLayer L → Type 0) (r end : Round L) (taken : List (Arrival L)) → Leads drawn seen expected r taken end → Holds P r → Holds P end
    holds_along P r end [] leads h = subst (Holds P) (sym leads) h
    holds_along P r end (a ∷ later) leads h = holds_along P (committed r a) end later leads.1 (holds_next P r a leads.0 h)

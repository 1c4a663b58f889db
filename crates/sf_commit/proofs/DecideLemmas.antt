-- Each commit leads on, whatever lists the facts are kept in.
use Rattle.std.proofs.Common.{◌≡◌, ℕ, ◌<◌, Bool, true, false, not, ◌&&◌, ◌||◌, List, [], ◌∷◌, ◌++◌, length, map, Option, Some, None, refl, ap, sym, ◌∙◌, subst, true≢false, arith}
use Rattle.std.specs.Prelude.{◌==◌, if◌then◌else◌, is_none}
use Rattle.std.specs.List.{All, find, list_any}
use Rattle.std.specs.List.Sorted.{IsStrictlySortedBy}
use Rattle.std.specs.Ordering.{nat_cmp}
use Rattle.std.specs.Option.{IsSome, is_some, option_map, option_or, unwrap_or}
use Rattle.std.proofs.lemmas.Bool.{eqb-true}
use Rattle.std.proofs.lemmas.List.{append-nil, append_assoc, map-append}
use Rattle.std.proofs.lemmas.List.Elements.{All-append, All-cons, All-head, All-nil, All-tail}
use Rattle.std.proofs.lemmas.List.Folds.{list_any-append}
use Rattle.std.proofs.lemmas.Option.{none-some}
use Rattle.sf_base.specs.declared.fences.Seen.{Seen}
use Rattle.sf_base.specs.declared.ids.LayerId.{LayerId}
use Rattle.sf_base.specs.declared.ids.TokenId.{TokenId}
use Rattle.sf_commit_next.specs.sf_ready.Facts.{FactsOf, HasSame, TellsSame, has_layer, is_met, meets}
use Rattle.sf_commit_next.specs.sf_ready.Holds.{barrier_hold, fence_hold, hold_of, pressure_hold, time_hold, undrawn_hold}
use Rattle.sf_commit_next.specs.sf_ready.declared.hold.Hold.TheVariants as hold
use Rattle.sf_commit_next.specs.sf_token.Pending.{AreTokens, Arrival, head_of, is_of}
use Rattle.sf_commit_next.specs.sf_token.declared.looks.Looks.{Looks}
use Rattle.sf_view.specs.sf_tree.Changes.{after}
use Rattle.sf_commit_next.specs.sf_txn.Buffers.{Buffer}
use Rattle.sf_commit_next.specs.sf_txn.Transactions.{Contents, without_first}
use Rattle.sf_commit.specs.inner.Deciding.{Comes, CommitsOne, DecidesSame, Goes, IsState, ShowsIts, round_of}
use Rattle.sf_commit_next.proofs.AskingLemmas.{asks_all, rises_right}
use Rattle.sf_commit_next.specs.Asking.{has_token}
use Rattle.sf_commit_next.specs.Next.{IsLookedAt, IsNextToken}
use Rattle.sf_commit.specs.Rounds.{IsNext, Leads, Round, StageOf, committed, facts_of, frames_in, layers_in, pressed_in, shown_if, stage_after}
use Rattle.sf_commit_next.specs.Heads.{head_hold, ready_if, ready_of}

-- the numbers of tokens
abbrev numbers_of : List TokenId → List ℕ
numbers_of tokens = map (λ (token : TokenId). token.0) tokens

module _ {L : Type 0} (pending : List (Arrival L)) where
  -- the tokens with something pending are those that are left, and behind them those to be asked
  pub record AsksTokens (left : List TokenId) (asking : List ℕ) : Type 0 where
    pub all : List TokenId
    pub tokens : AreTokens pending all
    pub same : (numbers_of left ++ asking) ≡ numbers_of all

  pub asks_begun : (all : List TokenId) (asking : List ℕ) → AreTokens pending all → asking ≡ [] → AsksTokens all asking
  asks_begun all asking tokens none =
      record { all = all; tokens = tokens; same = ap (λ (ks : List ℕ). numbers_of all ++ ks) none ∙ append-nil (numbers_of all) }

  goes_over : (before left : List TokenId) (asking : List ℕ) (token : TokenId) → before ≡ left ++ token ∷ []
      → (numbers_of before ++ asking) ≡ (numbers_of left ++ token.0 ∷ asking)
  goes_over before left asking token pops =
      ap (λ (ts : List TokenId). numbers_of ts ++ asking) pops
      ∙ (ap (λ (ks : List ℕ). ks ++ asking) (map-append (λ (t : TokenId). t.0) left (token ∷ [])) ∙ append_assoc (numbers_of left) (token.0 ∷ []) asking)

  pub asks_rising : (before left : List TokenId) (asking : List ℕ) (token : TokenId) → AsksTokens before asking → before ≡ left ++ token ∷ []
      → IsStrictlySortedBy nat_cmp (token.0 ∷ asking)
  asks_rising before left asking token asks pops =
      rises_right (numbers_of left) (token.0 ∷ asking)
      (subst (IsStrictlySortedBy nat_cmp) (sym asks.same ∙ goes_over before left asking token pops) asks.tokens.rising)

  pub asks_more : (before left : List TokenId) (asking again : List ℕ) (token : TokenId) → AsksTokens before asking → before ≡ left ++ token ∷ [] → again ≡ token.0 ∷ asking
      → AsksTokens left again
  asks_more before left asking again token asks pops adds = record {
    all = asks.all;
    tokens = asks.tokens;
    same = ap (λ (ks : List ℕ). numbers_of left ++ ks) adds ∙ (sym (goes_over before left asking token pops) ∙ asks.same);
  }

  pub asked_all : (left : List TokenId) (asking : List ℕ) → AsksTokens left asking → left ≡ [] → (token : TokenId) → has_token asking token ≡ false → head_of token pending ≡ None
  asked_all left asking asks none =
      asks_all pending asks.all asking (sym (ap (λ (ts : List TokenId). numbers_of ts ++ asking) none) ∙ asks.same) asks.tokens.those

barriers_same : (barriers : List (LayerId × ℕ)) (fs gs : List (ℕ × ℕ)) → TellsSame fs gs → barrier_hold barriers fs ≡ barrier_hold barriers gs
barriers_same barriers fs gs same =
    λ i. option_map (λ (barrier : LayerId × ℕ). hold.Barrier barrier.0 barrier.1) (find (λ barrier. not (same barrier i)) barriers)

module _ {L : Type 0} where
  pressures_same : (desired : Option ℕ) (buffers : List (Buffer L)) (fresh other pressed others : List ℕ) → HasSame fresh other → HasSame pressed others
      → pressure_hold desired buffers fresh pressed ≡ pressure_hold desired buffers other others
  pressures_same (Some time) buffers fresh other pressed others f p = refl
  pressures_same None buffers fresh other pressed others f p =
      λ i. option_map (λ (buffer : Buffer L). hold.Pressure buffer.layer) (find (λ buffer. f buffer.layer i && p buffer.layer i) buffers)

  -- the same facts hold the same transactions
  pub hold_same : (txn : Contents L) (drawn : List Bool) (f g : FactsOf) (seen : Seen) (expected : ℕ) → DecidesSame f g → hold_of txn drawn f seen expected ≡ hold_of txn drawn g seen expected
  unfolding hold_of
  hold_same txn drawn f g seen expected same =
      λ i. option_or (time_hold txn.desired expected)
      (option_or (fence_hold txn.buffers seen)
      (option_or (undrawn_hold txn.buffers drawn)
      (option_or (barriers_same txn.barriers f.frames g.frames same.frames i)
      (pressures_same txn.desired txn.buffers f.fresh g.fresh f.pressed g.pressed same.fresh same.pressed i))))

  module _ (drawn : L → Bool) (seen : Seen) (expected : ℕ) where
    ready_same : (f g : FactsOf) → DecidesSame f g → (o : Option (Arrival L)) → ready_if drawn seen expected f o ≡ ready_if drawn seen expected g o
    ready_same f g same None = refl
    ready_same f g same (Some a) =
        λ i. if is_none (hold_same a.txn (map (λ (buffer : Buffer L). drawn buffer.lease) a.txn.buffers) f g seen expected same i) then Some a else None

    -- what is ready is what was found
    ready_is : (f : FactsOf) (o : Option (Arrival L)) → IsSome (ready_if drawn seen expected f o) → ready_if drawn seen expected f o ≡ o
    ready_is f None some = refl
    ready_is f (Some a) some = by_test (is_none (head_hold drawn seen expected f a)) refl some
      where
        by_test : (b : Bool) → is_none (head_hold drawn seen expected f a) ≡ b → IsSome (ready_if drawn seen expected f (Some a)) → ready_if drawn seen expected f (Some a) ≡ Some a
        by_test true e _ = rw e refl
        by_test false e h = absurd (true≢false (sym (rw e at h)))

    pub ready_alike : (f g : FactsOf) (pending : List (Arrival L)) → DecidesSame f g → (token : TokenId) → ready_of drawn seen expected f pending token ≡ ready_of drawn seen expected g pending token
    ready_alike f g pending same token = ready_same f g same (head_of token pending)

    -- a path leads on with the next
    leads_on : (r end : Round L) (taken : List (Arrival L)) (next : Arrival L) → Leads drawn seen expected r taken end → IsNext drawn seen expected end (Some next)
        → Leads drawn seen expected r (taken ++ next ∷ []) (committed end next)
    leads_on r end [] next leads is_next = (subst (λ (x : Round L). IsNext drawn seen expected x (Some next)) leads is_next, ap (λ (x : Round L). committed x next) leads)
    leads_on r end (a ∷ later) next leads is_next = (leads.0, leads_on (committed r a) end later next leads.1 is_next)

is_token : (t u : TokenId) → (t.0 == u.0) ≡ true → t ≡ u
is_token t u e = λ i. record { 0 = eqb-true t.0 u.0 e i }

any_append : {X : Type 0} (p : X → Bool) (xs fs gs : List X) → list_any p fs ≡ list_any p gs → list_any p (xs ++ fs) ≡ list_any p (xs ++ gs)
any_append p xs fs gs e = rw (list_any-append p xs fs, list_any-append p xs gs) (ap (λ b. list_any p xs || b) e)

-- what is found passes
found_passes : {X : Type 0} (p : X → Bool) (xs : List X) (x : X) → find p xs ≡ Some x → p x ≡ true
found_passes p [] x e = absurd (none-some x e)
found_passes p (y ∷ ys) x e = by_test (found_passes p ys x) (p y) refl e
  where
    by_test : (find p ys ≡ Some x → p x ≡ true) → (b : Bool) → p y ≡ b → find p (y ∷ ys) ≡ Some x → p x ≡ true
    by_test rest true h found = ap p (sym (ap (λ o. unwrap_or o y) (rw h at found))) ∙ h
    by_test rest false h found = rest (rw h at found)

found_less : {X : Type 0} (p : X → Bool) (xs : List X) (x : X) → find p xs ≡ Some x → length (without_first p xs) < length xs
found_less p [] x e = absurd (none-some x e)
found_less p (y ∷ ys) x e = by_test (found_less p ys x) (p y) refl e
  where
    by_test : (find p ys ≡ Some x → length (without_first p ys) < length ys) → (b : Bool) → p y ≡ b → find p (y ∷ ys) ≡ Some x → length (without_first p (y ∷ ys)) < length (y ∷ ys)
    by_test rest true h found = rw h (omega arith)
    by_test rest false h found = let less = rest (rw h at found) in rw h (omega (arith, less))

pub all_left : {X : Type 0} (P : X → Type 0) (p : X → Bool) (xs : List X) → All P xs → All P (without_first p xs)
all_left P p [] all = all
all_left P p (y ∷ ys) all = by_test (all_left P p ys (All-tail P y ys all)) (p y) refl
  where
    by_test : All P (without_first p ys) → (b : Bool) → p y ≡ b → All P (without_first p (y ∷ ys))
    by_test rest true h = rw h (All-tail P y ys all)
    by_test rest false h = rw h (All-cons P y (without_first p ys) (All-head P y ys all) rest)

module _ {L : Type 0} (drawn : L → Bool) (seen : Seen) (expected : ℕ) where
  -- the first transaction of the next token
  pub record NextHead (facts : FactsOf) (pending : List (Arrival L)) (token : TokenId) : Type 0 where
    pub first : Arrival L
    pub head : head_of token pending ≡ Some first
    pub ready : ready_of drawn seen expected facts pending token ≡ Some first
    pub token_is : first.txn.token ≡ token

  next_head : (facts : FactsOf) (pending : List (Arrival L)) (token : TokenId) → IsSome (ready_of drawn seen expected facts pending token) → NextHead facts pending token
  next_head facts pending token some = by_head (head_of token pending) refl
    where
      by_head : (o : Option (Arrival L)) → head_of token pending ≡ o → NextHead facts pending token
      by_head None e = absurd (true≢false (sym some ∙ ap (λ o. is_some o) (ap (ready_if drawn seen expected facts) e)))
      by_head (Some a) e = record {
        first = a;
        head = e;
        ready = ready_is drawn seen expected facts (head_of token pending) some ∙ e;
        token_is = is_token a.txn.token token (found_passes (is_of token) pending a e);
      }

  alike : (stage : StageOf L) (pending : List (Arrival L)) (facts : FactsOf) (r : Round L) → IsState stage pending facts r → (t : TokenId)
      → ready_of drawn seen expected facts pending t ≡ ready_of drawn seen expected (facts_of r) r.pending t
  alike stage pending facts r state t =
      ready_alike drawn seen expected facts (facts_of r) pending state.same t ∙ ap (λ (p : List (Arrival L)). ready_of drawn seen expected (facts_of r) p t) state.waits

  -- the round after one more commit
  state_after : (stage later : StageOf L) (pending : List (Arrival L)) (facts noted : FactsOf) (token : TokenId) (r : Round L) (a : Arrival L)
      → IsState stage pending facts r → a.txn.token ≡ token → CommitsOne stage later facts noted a
      → IsState later (without_first (is_of token) pending) noted (committed r a)
  state_after stage later pending facts noted token r a state token_is one =
      let made = one.stage ∙ ap (λ (s : StageOf L). stage_after s a) state.made in
      let shown = λ (s : StageOf L). shown_if (after s.tree a.txn.ops) a.txn.buffers in
      record {
        made = made;
        waits = λ i. without_first (is_of (sym token_is i)) (state.waits i);
        same = record {
          frames = λ barrier. one.noted.frames barrier ∙ (any_append (meets barrier) (frames_in (shown stage)) facts.frames r.frames (state.same.frames barrier)
              ∙ ap (λ (s : StageOf L). is_met (frames_in (shown s) ++ r.frames) barrier) state.made);
          fresh = λ layer. one.noted.fresh layer ∙ (any_append (λ (n : ℕ). n == layer.0) (layers_in (shown stage)) facts.fresh r.fresh (state.same.fresh layer)
              ∙ ap (λ (s : StageOf L). has_layer (layers_in (shown s) ++ r.fresh) layer) state.made);
          pressed = λ layer. one.noted.pressed layer ∙ ap (λ (s : StageOf L). has_layer (pressed_in s.tree.layers) layer) made;
        };
      }

  pub goes_on : (begun : Round L) (looks : List Looks) (stage later : StageOf L) (pending : List (Arrival L)) (facts noted : FactsOf) (token : TokenId)
      → Goes drawn seen expected begun looks stage pending facts → IsNextToken (ready_of drawn seen expected facts pending) (Some token)
      → ((a : Arrival L) → head_of token pending ≡ Some a → CommitsOne stage later facts noted a)
      → Goes drawn seen expected begun looks later (without_first (is_of token) pending) noted
  goes_on begun looks stage later pending facts noted token goes next commits =
      let h = next_head facts pending token next.0 in
      let r = goes.reached in
      let same = alike stage pending facts r goes.state in
      let is_next : IsNext drawn seen expected r (Some h.first) = (
        sym (same h.first.txn.token) ∙ (ap (ready_of drawn seen expected facts pending) h.token_is ∙ h.ready),
        λ t less. sym (same t) ∙ next.1 t (subst (λ (u : TokenId). t.0 < u.0) h.token_is less),
      ) in
      record {
        reached = committed r h.first;
        taken = goes.taken ++ h.first ∷ [];
        leads = leads_on drawn seen expected begun r goes.taken h.first goes.leads is_next;
        shows = All-append ShowsIts goes.taken (h.first ∷ []) goes.shows (All-cons ShowsIts h.first [] (commits h.first h.head).shows (All-nil ShowsIts));
        state = state_after stage later pending facts noted token r h.first goes.state h.token_is (commits h.first h.head);
        looked = all_left (IsLookedAt drawn looks) (is_of token) pending goes.looked;
      }

  pub shrinks : (facts : FactsOf) (pending : List (Arrival L)) (token : TokenId) → IsNextToken (ready_of drawn seen expected facts pending) (Some token)
      → length (without_first (is_of token) pending) < length pending
  shrinks facts pending token next = let h = next_head facts pending token next.0 in found_less (is_of token) pending h.first h.head

  pub begins : (looks : List Looks) (stage : StageOf L) (pending : List (Arrival L)) (facts : FactsOf) → All (IsLookedAt drawn looks) pending → HasSame facts.pressed (pressed_in stage.tree.layers)
      → Goes drawn seen expected (round_of stage pending facts) looks stage pending facts
  begins looks stage pending facts looked pressed = record {
    reached = round_of stage pending facts;
    taken = [];
    leads = refl;
    shows = All-nil ShowsIts;
    state = record { made = refl; waits = refl; same = record { frames = λ _. refl; fresh = λ _. refl; pressed = pressed } };
    looked = looked;
  }

  pub ends : (begun : Round L) (looks : List Looks) (stage : StageOf L) (pending : List (Arrival L)) (facts : FactsOf)
      → Goes drawn seen expected begun looks stage pending facts → IsNextToken (ready_of drawn seen expected facts pending) None
      → Comes drawn seen expected begun stage pending facts
  ends begun looks stage pending facts goes none = record {
    end = goes.reached;
    decided = record { taken = goes.taken; leads = goes.leads; rests = λ t. sym (alike stage pending facts goes.reached goes.state t) ∙ none t };
    shows = goes.shows;
    state = goes.state;
  }

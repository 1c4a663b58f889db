-- Which tokens a vsync has to ask yet.
use Rattle.std.proofs.Common.{◌≡◌, ℕ, ◌<◌, Bool, true, false, ◌||◌, List, [], ◌∷◌, ◌++◌, length, map, reverse, Option, Some, None, refl, ap, sym, ◌∙◌, subst, true≢false, arith}
use Rattle.std.specs.Prelude.{◌==◌, if◌then◌else◌, is_none}
use Rattle.std.specs.Cmp.{ranks}
use Rattle.std.specs.List.{All, AllByRecursion, find, list_any}
use Rattle.std.specs.List.Sorted.{IsStrictlySortedBy}
use Rattle.std.specs.Option.{IfSome, IsSome, is_some, option_map, option_map_or, option_or}
use Rattle.std.specs.Ordering.{MatchOrdering, nat_cmp}
use Rattle.std.specs.declared.cmp.Ordering.TheVariants.{Less}
use Rattle.std.proofs.lemmas.Bool.{eqb-true}
use Rattle.std.proofs.lemmas.List.{append_assoc, reverse-append}
use Rattle.std.proofs.lemmas.List.Elements.{All-from_recursion, All-head, All-tail}
use Rattle.sf_base.specs.declared.fences.Seen.{Seen}
use Rattle.sf_base.specs.declared.ids.LayerId.{LayerId}
use Rattle.sf_base.specs.declared.ids.TokenId.{TokenId}
use Rattle.sf_ready.specs.Facts.{FactsOf}
use Rattle.sf_ready.specs.Holds.{barrier_hold, fence_hold, hold_of, pressure_hold, time_hold, undrawn_hold}
use Rattle.sf_ready.specs.declared.hold.Hold.{Hold}
use Rattle.sf_ready.specs.declared.hold.Hold.TheVariants as hold
use Rattle.sf_token.specs.Pending.{Arrival, head_of, is_of}
use Rattle.sf_token.specs.sf_txn.Buffers.{Buffer}
use Rattle.sf_token.specs.sf_txn.Transactions.{without_first}
use Rattle.sf_commit_next.proofs.NextLemmas.{not_found}
use Rattle.sf_commit_next.specs.Asking.{AsksEnough, AsksRest, FindsNext, HasAlso, IsAnswer, IsOut, TakesLowest, answer_of, has_token, lasts}
use Rattle.sf_commit_next.specs.Heads.{head_hold, ready_if, ready_of}
use Rattle.sf_commit_next.specs.declared.next.Answer.TheVariants as answer

both_false : (a b : Bool) → (a || b) ≡ false → (a ≡ false) × (b ≡ false)
both_false true b e = absurd (true≢false e)
both_false false b e = (refl, e)

or_none : (a : Bool) → (a || false) ≡ a
or_none true = refl
or_none false = refl

or_true : (a : Bool) → (a || true) ≡ true
or_true true = refl
or_true false = refl

or_moves : (k a s : Bool) → ((k || a) || s) ≡ (a || (k || s))
or_moves true true s = refl
or_moves true false s = refl
or_moves false a s = refl

same_token : (k t : TokenId) → (k.0 == t.0) ≡ true → k ≡ t
same_token k t e = λ i. record { 0 = eqb-true k.0 t.0 e i }

or_swaps : (k a s : Bool) → (k || (a || s)) ≡ (a || (k || s))
or_swaps true true s = refl
or_swaps true false s = refl
or_swaps false a s = refl

-- who is in two lists is in one of them
pub has_both : (xs ys : List ℕ) (token : TokenId) → has_token (xs ++ ys) token ≡ (has_token ys token || has_token xs token)
has_both [] ys token = sym (or_none (has_token ys token))
has_both (x ∷ xs) ys token = ap (λ b. (x == token.0) || b) (has_both xs ys token) ∙ or_swaps (x == token.0) (has_token ys token) (has_token xs token)

-- with one more at its end a list has one token more
pub pushed_also : (old new : List ℕ) (token : TokenId) → new ≡ old ++ token.0 ∷ [] → HasAlso old new token
pushed_also old new token pushed other =
    ap (λ (ks : List ℕ). has_token ks other) pushed
    ∙ (has_both old (token.0 ∷ []) other ∙ ap (λ b. b || has_token old other) (or_none (token.0 == other.0)))

-- the last number is the first from behind
pub turned : (old new : List ℕ) (number : ℕ) → old ≡ new ++ number ∷ [] → reverse old ≡ number ∷ reverse new
turned old new number e = ap (λ (ks : List ℕ). reverse ks) e ∙ reverse-append new (number ∷ [])

-- a number moves from the begin of one list to the end of the one before it, and nothing changes in both together
pub moved : (before after asking left : List ℕ) (number : ℕ) → after ≡ before ++ number ∷ [] → asking ≡ number ∷ left → after ++ left ≡ before ++ asking
moved before after asking left number pushed taken =
    ap (λ (ks : List ℕ). ks ++ left) pushed ∙ (append_assoc before (number ∷ []) left ∙ ap (λ (ks : List ℕ). before ++ ks) (sym taken))

-- with the lowest taken out, they are fewer
pub shorter : (old new : List ℕ) (token : TokenId) → TakesLowest old new (Some token) → length new < length old
shorter old new token takes = rw (takes.0) (omega arith)

-- a token is itself
itself : (n : ℕ) → (n == n) ≡ true
itself n = grind arith

below : (x y : ℕ) → nat_cmp x y ≡ Less → x < y
below x y e = subst (λ r. MatchOrdering r (x < y) (x ≡ y) (y < x)) e (ranks x y)

-- no number above this one is a lower token's
pub none_below : (number : ℕ) (numbers : List ℕ) → All (λ n. nat_cmp number n ≡ Less) numbers → (other : TokenId) → other.0 < number → has_token numbers other ≡ false
none_below number [] all other h = refl
none_below number (x ∷ xs) all other h =
    by_test (none_below number xs (All-tail (λ n. nat_cmp number n ≡ Less) x xs all) other h) (below number x (All-head (λ n. nat_cmp number n ≡ Less) x xs all)) (x == other.0) refl
  where
    by_test : has_token xs other ≡ false → number < x → (b : Bool) → (x == other.0) ≡ b → has_token (x ∷ xs) other ≡ false
    by_test rest less true e = absurd (omega (arith, h, less, eqb-true x other.0 e))
    by_test rest less false e = rw e rest

-- numbers that rise
pub first_lowest : (number : ℕ) (numbers : List ℕ) → IsStrictlySortedBy nat_cmp (number ∷ numbers) → (other : TokenId) → other.0 < number → has_token numbers other ≡ false
unfolding IsStrictlySortedBy
first_lowest number numbers rising = none_below number numbers (All-from_recursion (λ n. nat_cmp number n ≡ Less) numbers rising.0)

pub rises_none : (numbers : List ℕ) → numbers ≡ [] → IsStrictlySortedBy nat_cmp numbers
unfolding IsStrictlySortedBy
rises_none numbers none = subst (IsStrictlySortedBy nat_cmp) (sym none) tt

pub rises_right : (xs ys : List ℕ) → IsStrictlySortedBy nat_cmp (xs ++ ys) → IsStrictlySortedBy nat_cmp ys
unfolding IsStrictlySortedBy
rises_right [] ys rising = rising
rises_right (x ∷ xs) ys rising = rises_right xs ys rising.1

all_without : (z : ℕ) (xs : List ℕ) (x : ℕ) (ys : List ℕ) → AllByRecursion (λ n. nat_cmp z n ≡ Less) (xs ++ x ∷ ys) → AllByRecursion (λ n. nat_cmp z n ≡ Less) (xs ++ ys)
all_without z [] x ys all = all.1
all_without z (w ∷ ws) x ys all = (all.0, all_without z ws x ys all.1)

pub rises_without : (xs : List ℕ) (x : ℕ) (ys : List ℕ) → IsStrictlySortedBy nat_cmp (xs ++ x ∷ ys) → IsStrictlySortedBy nat_cmp (xs ++ ys)
unfolding IsStrictlySortedBy
rises_without [] x ys rising = rising.1
rises_without (z ∷ zs) x ys rising = (all_without z zs x ys rising.0, rises_without zs x ys rising.1)

pub nothing_left : {A : Type 0} (xs : List A) → length xs ≡ 0 → xs ≡ []
nothing_left [] h = refl
nothing_left (x ∷ xs) h = absurd (omega (arith, h))

-- where the tokens to be asked are those with something pending, nothing is pending for another
pub asks_all : {L : Type 0} (pending : List (Arrival L)) (tokens : List TokenId) (numbers : List ℕ) → numbers ≡ map (λ (t : TokenId). t.0) tokens
    → ((t : TokenId) → list_any (λ (o : TokenId). o.0 == t.0) tokens ≡ list_any (is_of t) pending)
    → (t : TokenId) → has_token numbers t ≡ false → head_of t pending ≡ None
asks_all pending tokens numbers same those t none =
    not_found (is_of t) pending (sym (those t) ∙ (sym (listed tokens) ∙ (ap (λ (ks : List ℕ). has_token ks t) (sym same) ∙ none)))
  where
    listed : (ts : List TokenId) → has_token (map (λ (o : TokenId). o.0) ts) t ≡ list_any (λ (o : TokenId). o.0 == t.0) ts
    listed [] = refl
    listed (o ∷ os) = ap (λ b. (o.0 == t.0) || b) (listed os)

-- what lasts is no barrier, and no backpressure
or_lasting : (t f u x y : Option Hold) (h : Hold) → option_or t (option_or f (option_or u x)) ≡ Some h → (x ≡ Some h → ⊥) → option_or t (option_or f (option_or u y)) ≡ Some h
or_lasting (Some a) f u x y h e never = e
or_lasting None (Some a) u x y h e never = e
or_lasting None None (Some a) x y h e never = e
or_lasting None None None x y h e never = absurd (never e)

no_lasting : (o : Option Hold) (h g : Hold) → o ≡ Some g → lasts g ≡ false → lasts h ≡ true → o ≡ Some h → ⊥
no_lasting o h g e passes stays f = true≢false (sym stays ∙ (ap (λ x. option_map_or lasts x true) (sym f ∙ e) ∙ passes))

no_barrier : (o : Option (LayerId × ℕ)) (x : Option Hold) (h : Hold) → lasts h ≡ true → (x ≡ Some h → ⊥)
    → option_or (option_map (λ (barrier : LayerId × ℕ). hold.Barrier barrier.0 barrier.1) o) x ≡ Some h → ⊥
no_barrier None x h stays never e = never e
no_barrier (Some b) x h stays never e = no_lasting (Some (hold.Barrier b.0 b.1)) h (hold.Barrier b.0 b.1) refl refl stays e

no_none : (h : Hold) → None ≡ Some h → ⊥
no_none h e = true≢false (sym (ap (λ (o : Option Hold). is_some o) e))

module _ {L : Type 0} where
  no_pressure_of : (o : Option (Buffer L)) (h : Hold) → lasts h ≡ true → option_map (λ (buffer : Buffer L). hold.Pressure buffer.layer) o ≡ Some h → ⊥
  no_pressure_of None h stays e = no_none h e
  no_pressure_of (Some b) h stays e = no_lasting (Some (hold.Pressure b.layer)) h (hold.Pressure b.layer) refl refl stays e

  no_pressure : (desired : Option ℕ) (buffers : List (Buffer L)) (fresh pressed : List ℕ) (h : Hold) → lasts h ≡ true → pressure_hold desired buffers fresh pressed ≡ Some h → ⊥
  no_pressure (Some time) buffers fresh pressed h stays e = no_none h e
  no_pressure None buffers fresh pressed h stays e = no_pressure_of _ h stays e

  -- another token's first transaction stays first
  pub head_other : (k t : TokenId) (pending : List (Arrival L)) → (k.0 == t.0) ≡ false → head_of t (without_first (is_of k) pending) ≡ head_of t pending
  head_other k t [] apart = refl
  head_other k t (a ∷ later) apart = by_test (head_other k t later apart) (is_of k a) refl
    where
      by_other : head_of t (without_first (is_of k) later) ≡ head_of t later → (b : Bool) → is_of t a ≡ b → find (is_of t) (a ∷ without_first (is_of k) later) ≡ find (is_of t) (a ∷ later)
      by_other rest true e = rw e refl
      by_other rest false e = rw e rest

      by_test : head_of t (without_first (is_of k) later) ≡ head_of t later → (b : Bool) → is_of k a ≡ b → head_of t (without_first (is_of k) (a ∷ later)) ≡ head_of t (a ∷ later)
      by_test rest true e =
          let differs : is_of t a ≡ false = ap (λ (n : ℕ). n == t.0) (eqb-true a.txn.token.0 k.0 e) ∙ apart in
          rw (e, differs) refl
      by_test rest false e = rw e (by_other rest (is_of t a) refl)

  module _ (drawn : L → Bool) (seen : Seen) (expected : ℕ) where
    -- time, points and writes hold whatever was committed
    lasting : (f g : FactsOf) (a : Arrival L) (h : Hold) → lasts h ≡ true → head_hold drawn seen expected f a ≡ Some h → head_hold drawn seen expected g a ≡ Some h
    unfolding hold_of
    lasting f g a h stays e =
        or_lasting (time_hold a.txn.desired expected) (fence_hold a.txn.buffers seen) (undrawn_hold a.txn.buffers (map (λ (buffer : Buffer L). drawn buffer.lease) a.txn.buffers))
        (option_or (barrier_hold a.txn.barriers f.frames) (pressure_hold a.txn.desired a.txn.buffers f.fresh f.pressed))
        (option_or (barrier_hold a.txn.barriers g.frames) (pressure_hold a.txn.desired a.txn.buffers g.fresh g.pressed)) h e
        (no_barrier _ (pressure_hold a.txn.desired a.txn.buffers f.fresh f.pressed) h stays (no_pressure a.txn.desired a.txn.buffers f.fresh f.pressed h stays))

    holds_it : (f : FactsOf) (a : Arrival L) (h : Hold) → head_hold drawn seen expected f a ≡ Some h → ready_if drawn seen expected f (Some a) ≡ None
    holds_it f a h e = ap (λ (o : Option Hold). if is_none o then Some a else None) e

    pub out_none : (pending : List (Arrival L)) (token : TokenId) → head_of token pending ≡ None → IsOut drawn seen expected pending token
    out_none pending token none = λ f. ap (ready_if drawn seen expected f) none

    -- an answer says what is so
    pub answers : (f : FactsOf) (pending : List (Arrival L)) (token : TokenId) (a : Arrival L) (o : Option Hold) → head_of token pending ≡ Some a → o ≡ head_hold drawn seen expected f a
        → IsAnswer drawn seen expected f pending token (answer_of o)
    answers f pending token a None head e =
        ap (λ (x : Option (Arrival L)). is_some x) (ap (ready_if drawn seen expected f) head ∙ ap (λ (x : Option Hold). if is_none x then Some a else None) (sym e))
    answers f pending token a (Some h) head e = by_test (lasts h) refl
      where
        by_test : (b : Bool) → lasts h ≡ b → IsAnswer drawn seen expected f pending token (if b then answer.Out else answer.Stopped)
        by_test true stays = λ g. ap (ready_if drawn seen expected g) head ∙ holds_it g a h (lasting f g a h stays (sym e))
        by_test false _ = ap (ready_if drawn seen expected f) head ∙ holds_it f a h (sym e)

    -- what was asked so far is not ready, and what is asked no more is out
    pub record Asked (f : FactsOf) (pending : List (Arrival L)) (numbers stopped : List ℕ) : Type 0 where
      pub now : (token : TokenId) → has_token numbers token ≡ false → ready_of drawn seen expected f pending token ≡ None
      pub rest : AsksRest drawn seen expected numbers stopped pending

    pub asked_none : (f : FactsOf) (pending : List (Arrival L)) (numbers stopped : List ℕ) → AsksEnough drawn seen expected numbers pending → Asked f pending numbers stopped
    asked_none f pending numbers stopped asks = record { now = λ t e. asks t e f; rest = λ t e _. asks t e }

    module _ (f : FactsOf) (pending : List (Arrival L)) (numbers left stopped : List ℕ) (token : TokenId) (asked : Asked f pending numbers stopped) (takes : TakesLowest numbers left (Some token)) where
      before : (t : TokenId) → (token.0 == t.0) ≡ false → has_token left t ≡ false → has_token numbers t ≡ false
      before t apart e = ap (λ (ns : List ℕ). has_token ns t) takes.0 ∙ (ap (λ b. b || has_token left t) apart ∙ e)

      now_more : ready_of drawn seen expected f pending token ≡ None → (t : TokenId) → has_token left t ≡ false → ready_of drawn seen expected f pending t ≡ None
      now_more none t e = by_test (token.0 == t.0) refl
        where
          by_test : (b : Bool) → (token.0 == t.0) ≡ b → ready_of drawn seen expected f pending t ≡ None
          by_test true same = subst (λ (u : TokenId). ready_of drawn seen expected f pending u ≡ None) (same_token token t same) none
          by_test false apart = asked.now t (before t apart e)

      rest_stopped : (also : List ℕ) → HasAlso stopped also token → AsksRest drawn seen expected left also pending
      rest_stopped also has t e s =
          let parts = both_false (token.0 == t.0) (has_token stopped t) (sym (has t) ∙ s) in
          asked.rest t (before t parts.0 e) parts.1

      pub asked_stopped : (also : List ℕ) → HasAlso stopped also token → ready_of drawn seen expected f pending token ≡ None → Asked f pending left also
      asked_stopped also has none = record { now = now_more none; rest = rest_stopped also has }

      pub asked_out : IsOut drawn seen expected pending token → Asked f pending left stopped
      asked_out out = record {
        now = now_more (out f);
        rest = λ t e s. by_test t e s (token.0 == t.0) refl;
      }
        where
          by_test : (t : TokenId) → has_token left t ≡ false → has_token stopped t ≡ false → (b : Bool) → (token.0 == t.0) ≡ b → IsOut drawn seen expected pending t
          by_test t e s true same = subst (IsOut drawn seen expected pending) (same_token token t same) out
          by_test t e s false apart = asked.rest t (before t apart e) s

      pub finds : (also : List ℕ) → HasAlso stopped also token → IsSome (ready_of drawn seen expected f pending token) → FindsNext drawn seen expected f pending left also (Some token)
      finds also has ready = record {
        is_next = (ready, λ t less. asked.now t (before t (apart t less) (takes.1 t less)));
        rest = rest_stopped also has;
        among = has token ∙ ap (λ b. b || has_token stopped token) (itself token.0);
      }
        where
          apart : (t : TokenId) → t.0 < token.0 → (token.0 == t.0) ≡ false
          apart t less = by_test (token.0 == t.0) refl
            where
              by_test : (b : Bool) → (token.0 == t.0) ≡ b → (token.0 == t.0) ≡ false
              by_test true e = absurd (omega (arith, less, eqb-true token.0 t.0 e))
              by_test false e = e

    pub finds_none : (f : FactsOf) (pending : List (Arrival L)) (numbers left stopped : List ℕ) → Asked f pending numbers stopped → numbers ≡ []
        → FindsNext drawn seen expected f pending left stopped None
    finds_none f pending numbers left stopped asked none = record {
      is_next = λ t. asked.now t (ap (λ (ns : List ℕ). has_token ns t) none);
      rest = λ t _ s. asked.rest t (ap (λ (ns : List ℕ). has_token ns t) none) s;
      among = tt;
    }

    -- those that were stopped are asked again
    pub enough_again : (pending : List (Arrival L)) (numbers stopped again : List ℕ) → AsksRest drawn seen expected numbers stopped pending
        → ((t : TokenId) → has_token again t ≡ (has_token numbers t || has_token stopped t)) → AsksEnough drawn seen expected again pending
    enough_again pending numbers stopped again rest same t e =
        let parts = both_false (has_token numbers t) (has_token stopped t) (sym (same t) ∙ e) in
        rest t parts.0 parts.1

    pub among_again : (numbers stopped again : List ℕ) (next : Option TokenId) → IfSome next (λ token. has_token stopped token ≡ true)
        → ((t : TokenId) → has_token again t ≡ (has_token numbers t || has_token stopped t)) → IfSome next (λ token. has_token again token ≡ true)
    among_again numbers stopped again None among same = tt
    among_again numbers stopped again (Some token) among same = same token ∙ (ap (λ b. has_token numbers token || b) among ∙ or_true (has_token numbers token))

    -- a commit for one of them leaves the others out
    pub enough_after : (pending : List (Arrival L)) (numbers : List ℕ) (token : TokenId) → AsksEnough drawn seen expected numbers pending → has_token numbers token ≡ true
        → AsksEnough drawn seen expected numbers (without_first (is_of token) pending)
    enough_after pending numbers token enough among t e = by_test (token.0 == t.0) refl
      where
        by_test : (b : Bool) → (token.0 == t.0) ≡ b → IsOut drawn seen expected (without_first (is_of token) pending) t
        by_test true same = absurd (true≢false (sym among ∙ (ap (λ (u : TokenId). has_token numbers u) (same_token token t same) ∙ e)))
        by_test false apart = λ f. ap (ready_if drawn seen expected f) (head_other token t pending apart) ∙ enough t e f

-- What holds a transaction by its leases holds it by its frames, where what the looks showed is written.
use Rattle.std.proofs.Common.{◌≡◌, ◌≢◌, ℕ, Bool, true, false, ◌&&◌, List, [], ◌∷◌, map, Option, Some, None, refl, ap, sym, ◌∙◌, true≢false}
use Rattle.std.specs.Prelude.{if◌then◌else◌, is_none}
use Rattle.std.specs.List.{All, find}
use Rattle.std.specs.Option.{option_map, option_or}
use Rattle.std.proofs.lemmas.List.Elements.{All-head, All-tail}
use Rattle.sf_base.specs.Fences.{first_open_of}
use Rattle.sf_base.specs.declared.fences.Seen.{Seen}
use Rattle.sf_commit.specs.sf_ready.Facts.{FactsOf, has_layer}
use Rattle.sf_commit.specs.sf_ready.Holds.{barrier_hold, fence_hold, hold_of, point_hold, pressure_hold, time_hold, undrawn_hold}
use Rattle.sf_commit.specs.sf_ready.declared.hold.Hold.TheVariants as hold
use Rattle.sf_commit.specs.sf_txn.Buffers.{Buffer}
use Rattle.sf_commit.specs.sf_txn.Transactions.{Contents}
use Rattle.sf_commit.specs.inner.Deciding.{DecidesSame}
use Rattle.sf_commit.specs.Rounds.{Round, facts_of, pressed_in}
use Rattle.law_played.specs.Framing.{IsRoundOf, framed_buffer, framed_txn}

-- nothing of two is nothing of each
none_of_both : {X : Type 0} (x y : Option X) → is_none (option_or x y) ≡ true → (x ≡ None) × (is_none y ≡ true)
none_of_both None y e = (refl, e)
none_of_both (Some x) y e = absurd (true≢false (sym e))

is_nothing : {X : Type 0} (x : Option X) → is_none x ≡ true → x ≡ None
is_nothing None e = refl
is_nothing (Some x) e = absurd (true≢false (sym e))

module _ {L M : Type 0} (frame : L → M) where
  pub fences_framed : (buffers : List (Buffer L)) (seen : Seen) → fence_hold (map (framed_buffer frame) buffers) seen ≡ fence_hold buffers seen
  fences_framed [] seen = refl
  fences_framed (b ∷ bs) seen = ap (λ o. option_or (point_hold (first_open_of b.fence seen)) o) (fences_framed bs seen)

  pub undrawn_framed : (buffers : List (Buffer L)) (flags : List Bool) → undrawn_hold (map (framed_buffer frame) buffers) flags ≡ undrawn_hold buffers flags
  undrawn_framed [] flags = refl
  undrawn_framed (b ∷ bs) [] = refl
  undrawn_framed (b ∷ bs) (d ∷ ds) = ap (λ o. if d then o else Some (hold.Undrawn b.shown.queue b.shown.frame)) (undrawn_framed bs ds)

  pressing_framed : (buffers : List (Buffer L)) (fresh pressed : List ℕ)
      → option_map (λ (b : Buffer M). hold.Pressure b.layer) (find (λ (b : Buffer M). has_layer fresh b.layer && has_layer pressed b.layer) (map (framed_buffer frame) buffers))
      ≡ option_map (λ (b : Buffer L). hold.Pressure b.layer) (find (λ (b : Buffer L). has_layer fresh b.layer && has_layer pressed b.layer) buffers)
  pressing_framed [] fresh pressed = refl
  pressing_framed (b ∷ bs) fresh pressed = by_test (pressing_framed bs fresh pressed) (has_layer fresh b.layer && has_layer pressed b.layer)
    where
      by_test : option_map (λ (b : Buffer M). hold.Pressure b.layer) (find (λ (b : Buffer M). has_layer fresh b.layer && has_layer pressed b.layer) (map (framed_buffer frame) bs))
          ≡ option_map (λ (b : Buffer L). hold.Pressure b.layer) (find (λ (b : Buffer L). has_layer fresh b.layer && has_layer pressed b.layer) bs)
          → (t : Bool)
          → option_map (λ (b : Buffer M). hold.Pressure b.layer) (if t then Some (framed_buffer frame b) else find (λ (b : Buffer M). has_layer fresh b.layer && has_layer pressed b.layer) (map (framed_buffer frame) bs))
          ≡ option_map (λ (b : Buffer L). hold.Pressure b.layer) (if t then Some b else find (λ (b : Buffer L). has_layer fresh b.layer && has_layer pressed b.layer) bs)
      by_test rest true = refl
      by_test rest false = rest

  pressure_framed : (desired : Option ℕ) (buffers : List (Buffer L)) (fresh pressed : List ℕ) → pressure_hold desired (map (framed_buffer frame) buffers) fresh pressed ≡ pressure_hold desired buffers fresh pressed
  pressure_framed (Some time) buffers fresh pressed = refl
  pressure_framed None buffers fresh pressed = pressing_framed buffers fresh pressed

  -- a transaction is held alike where its frames stand for its leases
  pub hold_framed : (txn : Contents L) (flags : List Bool) (facts : FactsOf) (seen : Seen) (expected : ℕ)
      → hold_of (framed_txn frame txn) flags facts seen expected ≡ hold_of txn flags facts seen expected
  unfolding hold_of
  hold_framed txn flags facts seen expected =
      λ i. option_or (time_hold txn.desired expected)
      (option_or (fences_framed txn.buffers seen i)
      (option_or (undrawn_framed txn.buffers flags i)
      (option_or (barrier_hold txn.barriers facts.frames)
      (pressure_framed txn.desired txn.buffers facts.fresh facts.pressed i))))

  -- the same decides of both
  pub decides_same : (round : Round M) (r : Round L) → IsRoundOf frame round r → DecidesSame (facts_of round) (facts_of r)
  decides_same round r is = record {
    frames = is.frames;
    fresh = λ layer. ap (λ f. has_layer f layer) is.fresh;
    pressed = λ layer. ap (λ s. has_layer (pressed_in s.tree.layers) layer) is.stage;
  }

module _ {L : Type 0} where
  -- what nothing holds waits for no time, no fence and no write
  pub record IsFree (txn : Contents L) (flags : List Bool) (seen : Seen) (expected : ℕ) : Type 0 where
    pub no_time : time_hold txn.desired expected ≡ None
    pub no_fence : fence_hold txn.buffers seen ≡ None
    pub no_write : undrawn_hold txn.buffers flags ≡ None

  pub free_of : (txn : Contents L) (flags : List Bool) (facts : FactsOf) (seen : Seen) (expected : ℕ) → is_none (hold_of txn flags facts seen expected) ≡ true → IsFree txn flags seen expected
  unfolding hold_of
  free_of txn flags facts seen expected e =
      let rest = option_or (barrier_hold txn.barriers facts.frames) (pressure_hold txn.desired txn.buffers facts.fresh facts.pressed) in
      let one = none_of_both (time_hold txn.desired expected) (option_or (fence_hold txn.buffers seen) (option_or (undrawn_hold txn.buffers flags) rest)) e in
      let two = none_of_both (fence_hold txn.buffers seen) (option_or (undrawn_hold txn.buffers flags) rest) one.1 in
      let three = none_of_both (undrawn_hold txn.buffers flags) rest two.1 in
      record { no_time = one.0; no_fence = two.0; no_write = three.0 }

  -- it is held then by a barrier or by pressure, if it is, whatever is written besides
  pub free_hold : (txn : Contents L) (flags : List Bool) (facts : FactsOf) (seen : Seen) (expected : ℕ) → IsFree txn flags seen expected
      → hold_of txn flags facts seen expected ≡ option_or (barrier_hold txn.barriers facts.frames) (pressure_hold txn.desired txn.buffers facts.fresh facts.pressed)
  unfolding hold_of
  free_hold txn flags facts seen expected free =
      λ i. option_or (free.no_time i) (option_or (free.no_fence i) (option_or (free.no_write i)
      (option_or (barrier_hold txn.barriers facts.frames) (pressure_hold txn.desired txn.buffers facts.fresh facts.pressed))))

  module _ (shown written : L → Bool) where
    -- what the looks showed to be written is written
    pub written_too : (buffers : List (Buffer L)) → All (λ (b : Buffer L). shown b.lease ≡ true → written b.lease ≡ true) buffers
        → undrawn_hold buffers (map (λ (b : Buffer L). shown b.lease) buffers) ≡ None → undrawn_hold buffers (map (λ (b : Buffer L). written b.lease) buffers) ≡ None
    written_too [] all none = refl
    written_too (b ∷ bs) all none =
        by_test (written_too bs (All-tail (λ (b : Buffer L). shown b.lease ≡ true → written b.lease ≡ true) b bs all)) (All-head (λ (b : Buffer L). shown b.lease ≡ true → written b.lease ≡ true) b bs all) (shown b.lease) refl none
      where
        by_test : (undrawn_hold bs (map (λ (b : Buffer L). shown b.lease) bs) ≡ None → undrawn_hold bs (map (λ (b : Buffer L). written b.lease) bs) ≡ None)
            → (shown b.lease ≡ true → written b.lease ≡ true) → (t : Bool) → shown b.lease ≡ t
            → undrawn_hold (b ∷ bs) (map (λ (b : Buffer L). shown b.lease) (b ∷ bs)) ≡ None → undrawn_hold (b ∷ bs) (map (λ (b : Buffer L). written b.lease) (b ∷ bs)) ≡ None
        by_test rest here true e held = rw (here e) (rest (rw e at held))
        by_test rest here false e held = absurd (true≢false (sym (ap is_none (rw e at held))))

    -- so it is free by what is written, too
    pub free_too : (txn : Contents L) (seen : Seen) (expected : ℕ) → All (λ (b : Buffer L). shown b.lease ≡ true → written b.lease ≡ true) txn.buffers
        → IsFree txn (map (λ (b : Buffer L). shown b.lease) txn.buffers) seen expected → IsFree txn (map (λ (b : Buffer L). written b.lease) txn.buffers) seen expected
    free_too txn seen expected all free = record { no_time = free.no_time; no_fence = free.no_fence; no_write = written_too txn.buffers all free.no_write }

    -- what was not held is not held
    pub ready_too : (txn : Contents L) (facts : FactsOf) (seen : Seen) (expected : ℕ) → All (λ (b : Buffer L). shown b.lease ≡ true → written b.lease ≡ true) txn.buffers
        → is_none (hold_of txn (map (λ (b : Buffer L). shown b.lease) txn.buffers) facts seen expected) ≡ true
        → hold_of txn (map (λ (b : Buffer L). written b.lease) txn.buffers) facts seen expected ≡ None
    ready_too txn facts seen expected all none =
        let flags = map (λ (b : Buffer L). shown b.lease) txn.buffers in
        let free = free_of txn flags facts seen expected none in
        free_hold txn (map (λ (b : Buffer L). written b.lease) txn.buffers) facts seen expected (free_too txn seen expected all free)
        ∙ (sym (free_hold txn flags facts seen expected free) ∙ is_nothing (hold_of txn flags facts seen expected) none)

    -- what is ready with later facts, and was held with earlier ones, is held with those
    pub held_too : (txn : Contents L) (facts later : FactsOf) (seen : Seen) (expected : ℕ) → All (λ (b : Buffer L). shown b.lease ≡ true → written b.lease ≡ true) txn.buffers
        → is_none (hold_of txn (map (λ (b : Buffer L). shown b.lease) txn.buffers) later seen expected) ≡ true
        → is_none (hold_of txn (map (λ (b : Buffer L). shown b.lease) txn.buffers) facts seen expected) ≡ false
        → hold_of txn (map (λ (b : Buffer L). written b.lease) txn.buffers) facts seen expected ≢ None
    held_too txn facts later seen expected all ready held none =
        let flags = map (λ (b : Buffer L). shown b.lease) txn.buffers in
        let free = free_of txn flags later seen expected ready in
        let same = free_hold txn flags facts seen expected free
        ∙ sym (free_hold txn (map (λ (b : Buffer L). written b.lease) txn.buffers) facts seen expected (free_too txn seen expected all free)) in
        true≢false (sym (ap is_none (same ∙ none)) ∙ held)

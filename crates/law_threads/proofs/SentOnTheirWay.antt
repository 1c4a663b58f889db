-- What an actor sent, on its way to the arrivals while the actor goes on.
use Rattle.std.proofs.Common.{◌≡◌, ℕ, suc, ◌<◌, ◌⊎◌, ◌||◌, Bool, true, false, List, [], ◌∷◌, ◌++◌, arith, ap, ◌∙◌, sym, refl, inl, inr, subst, map, Option, Some, None}
use Rattle.std.specs.Prelude.{Contains}
use Rattle.std.specs.List.{flat_map}
use Rattle.std.proofs.lemmas.Bool.{cases_Bool, false≢true, ltb-true}
use Rattle.std.proofs.lemmas.List.{append_assoc}
use Rattle.std.proofs.lemmas.List.Elements.{Contains-append_left, Contains-append_right}
use Rattle.law_draws.specs.sf_surface.Tokens.{ReadLeaseOf}
use Rattle.law_draws.specs.sf_token.Arrivals.{sent, waiting}
use Rattle.law_draws.specs.sf_token.Pending.{Arrival}
use Rattle.law_draws.specs.law_rights.States.{State}
use Rattle.law_threads.specs.Cuts.{AllGoBack, AreUnspent, Event, Forwards, GoesForward, IsBlock, IsPart, Lifts, Local, Moves, Returns, Whole, before, calls_at, front, heights_after, now, spot_of, state_at, stock_in, with_back, with_sent}
use Rattle.law_threads.specs.Sends.{meanwhile}
use Rattle.law_threads.specs.Delays.{delayed, is_above, is_below, some_above, some_below}
use Rattle.law_threads.specs.Orders.{Spot, events_in}
use Rattle.law_threads.proofs.DelayedCalls.{behind, here_first, not_above, times_delayed}

-- a caller that holds it, and nothing else
abbrev holder : {B : Type 0} → Arrival ReadLeaseOf → Local B
holder sent = record { actors = []; pending = sent ∷ []; on = []; leaves = [] }

module _ {B : Type 0} where
  pub same_spot : (sent : Arrival ReadLeaseOf) (e : Event B) → spot_of (meanwhile sent e) ≡ spot_of e
  same_spot sent (Moves local spot) = refl
  same_spot sent (Returns lease spot) = refl
  same_spot sent (Forwards arrived spot) = refl

  -- what is put among the arrivals is so meanwhile too
  pub forward_was : (sent : Arrival ReadLeaseOf) (x : Event B) (arrived : Arrival ReadLeaseOf) (here : Spot) → (Forwards arrived here ≡ x) ⊎ (Forwards arrived here ≡ meanwhile sent x) → x ≡ Forwards arrived here
  forward_was sent x arrived here (inl it) = sym it
  forward_was sent (Moves local spot) arrived here (inr it) = absurd (cc it)
  forward_was sent (Returns lease spot) arrived here (inr it) = absurd (cc it)
  forward_was sent (Forwards other spot) arrived here (inr it) = sym it

  flat_at : {X : Type 0} (f : Local B → List X) (one first second : Local B) → ((rest : List X) → f one ++ rest ≡ f first ++ (f second ++ rest)) → (others later : List (Local B))
      → flat_map f (others ++ one ∷ later) ≡ flat_map f (others ++ first ∷ second ∷ later)
  flat_at f one first second same [] later = same (flat_map f later)
  flat_at {X} f one first second same (o ∷ others) later = ap (λ (xs : List X). f o ++ xs) (flat_at f one first second same others later)

  -- what is on its way of one caller may as well be another's
  beside_state : (whole : Whole B) (heights : ℕ → ℕ) (one : Arrival ReadLeaseOf) (others later : List (Local B)) (local : Local B)
      → state_at whole heights (others ++ with_sent one local ∷ later) ≡ state_at whole heights ((others ++ holder one ∷ []) ++ local ∷ later)
  beside_state whole heights one others later local =
      (λ i. record {
        marks = whole.marks;
        view = record whole.view { calls = calls_at whole heights; arrivals = sent (front (heights 0) whole.arriving); turns = record whole.view.turns { leaves = leaves i } };
        actors = actors i;
        waiting = pending i ++ waiting (front (heights 0) whole.arriving);
        on = on i;
      })
      ∙ ap (state_at whole heights) (sym (append_assoc others (holder one ∷ []) (local ∷ later)))
    where
      leaves : flat_map (λ (l : Local B). l.leaves) (others ++ with_sent one local ∷ later) ≡ flat_map (λ (l : Local B). l.leaves) (others ++ holder one ∷ local ∷ later)
      leaves = flat_at (λ (l : Local B). l.leaves) (with_sent one local) (holder one) local (λ rest. refl) others later

      actors : flat_map (λ (l : Local B). l.actors) (others ++ with_sent one local ∷ later) ≡ flat_map (λ (l : Local B). l.actors) (others ++ holder one ∷ local ∷ later)
      actors = flat_at (λ (l : Local B). l.actors) (with_sent one local) (holder one) local (λ rest. refl) others later

      pending : flat_map (λ (l : Local B). l.pending) (others ++ with_sent one local ∷ later) ≡ flat_map (λ (l : Local B). l.pending) (others ++ holder one ∷ local ∷ later)
      pending = flat_at (λ (l : Local B). l.pending) (with_sent one local) (holder one) local (λ rest. refl) others later

      on : flat_map (λ (l : Local B). l.on) (others ++ with_sent one local ∷ later) ≡ flat_map (λ (l : Local B). l.on) (others ++ holder one ∷ local ∷ later)
      on = flat_at (λ (l : Local B). l.on) (with_sent one local) (holder one) local (λ rest. refl) others later

module _ {B : Type 0} (whole : Whole B) (Holds : State B → Type 0) (one : Arrival ReadLeaseOf) where
  -- what an event keeps it keeps meanwhile
  pub beside : (local : Local B) (spot : Option Spot) (next : Local B) → Lifts whole Holds local spot next → Lifts whole Holds (with_sent one local) spot (with_sent one next)
  beside local spot next lifts others later heights is_next unused holds =
      subst Holds (sym (beside_state whole (heights_after spot heights) one others later next))
      (lifts (others ++ holder one ∷ []) later heights is_next unused (subst Holds (beside_state whole heights one others later local) holds))

  back_meanwhile : (events : List (Event B)) → AllGoBack whole Holds events → AllGoBack whole Holds (map (meanwhile one) events)
  back_meanwhile [] all = tt
  back_meanwhile (Moves local spot ∷ later) all = absurd all
  back_meanwhile (Returns lease spot ∷ later) all = (all.0, back_meanwhile later all.1)
  back_meanwhile (Forwards arrived spot ∷ later) all = (all.0, back_meanwhile later all.1)

  block_meanwhile : (block : List (Event B)) (next : Local B) → IsBlock whole Holds block next → IsBlock whole Holds (map (meanwhile one) block) (with_sent one next)
  block_meanwhile [] next is = tt
  block_meanwhile (Moves local spot ∷ []) next is = beside local spot next is
  block_meanwhile (Moves local spot ∷ other ∷ later) next is = absurd is
  block_meanwhile (Returns lease spot ∷ later) next is = back_meanwhile (Returns lease spot ∷ later) is
  block_meanwhile (Forwards arrived spot ∷ later) next is = back_meanwhile (Forwards arrived spot ∷ later) is

  before_meanwhile : (block : List (Event B)) (next : Local B) → ((other : Arrival ReadLeaseOf) (spot : Spot) → Contains block (Forwards other spot) → ⊥)
      → before (map (meanwhile one) block) (with_sent one next) ≡ with_sent one (before block next)
  before_meanwhile [] next none = refl
  before_meanwhile (Moves local spot ∷ later) next none = refl
  before_meanwhile (Returns lease spot ∷ later) next none =
      ap (with_back lease) (before_meanwhile later next (λ other at there. none other at (behind (Returns lease spot) (Forwards other at) later there)))
  before_meanwhile (Forwards arrived spot ∷ later) next none = absurd (none arrived spot (first (Forwards arrived spot) later))
    where
      first : (x : Event B) (xs : List (Event B)) → Contains (x ∷ xs) x
      first x xs = here_first x xs

  module _ (stamp : Spot → ℕ) (at : Spot) (forward : GoesForward whole Holds one at) where
    abbrev put : List (List (Event B)) → List (List (Event B))
    put rest = delayed spot_of stamp (meanwhile one) (Forwards one at) (stamp at) rest

    -- a block with calls above and below is no move
    mixed_back : (block : List (Event B)) (next : Local B) → IsBlock whole Holds block next → some_above spot_of stamp (meanwhile one) (stamp at) block ≡ true
        → some_below spot_of stamp (meanwhile one) (stamp at) block ≡ true → AllGoBack whole Holds block
    mixed_back [] next is above below = tt
    mixed_back (Moves local None ∷ []) next is above below = absurd (false≢true above)
    mixed_back (Moves local (Some spot) ∷ []) next is above below = absurd (apart (alone (is_above stamp (stamp at) (Some spot)) above) (alone (is_below stamp (stamp at) (Some spot)) below))
      where
        alone : (b : Bool) → (b || false) ≡ true → b ≡ true
        alone true met = refl
        alone false met = absurd (false≢true met)

        apart : is_above stamp (stamp at) (Some spot) ≡ true → is_below stamp (stamp at) (Some spot) ≡ true → ⊥
        apart above below =
            let more = ltb-true (stamp at) (stamp spot) above in
            let less = ltb-true (stamp spot) (stamp at) below in
            omega (arith, more, less)
    mixed_back (Moves local spot ∷ other ∷ later) next is above below = absurd is
    mixed_back (Returns lease spot ∷ later) next is above below = is
    mixed_back (Forwards arrived spot ∷ later) next is above below = is

    unspent_put : (rest : List (List (Event B))) (last : Local B) → now (put rest) last ≡ with_sent one (now rest last) → AreUnspent whole Holds rest last → AreUnspent whole Holds (put rest) last
    unspent_put rest last same unspent number queue place left makes =
        let some = unspent number queue place (subst (λ (stock : List ℕ). Contains stock number) (ap stock_in same) left) makes in
        let more = times_delayed spot_of stamp (meanwhile one) (same_spot one) (Forwards one at) (stamp at) rest (suc queue, place) in
        omega (arith, some, more)

    spent_of : (rest : List (List (Event B))) (last : Local B) → IsPart whole Holds rest last → AreUnspent whole Holds rest last
    spent_of [] last part = part
    spent_of (block ∷ later) last part = part.1

    abbrev Stands : List (List (Event B)) → Local B → List (List (Event B)) → Type 0
    Stands rest last blocks = (now blocks last ≡ with_sent one (now rest last)) × IsPart whole Holds blocks last

    -- What is on its way is among what a caller holds until its call; and that comes by its stamp, before those of what was sent later.
    pub part_put : (rest : List (List (Event B))) (last : Local B) → ((other : Arrival ReadLeaseOf) (spot : Spot) → Contains (events_in spot_of rest) (Forwards other spot) → stamp at < stamp spot)
        → IsPart whole Holds rest last → (now (put rest) last ≡ with_sent one (now rest last)) × IsPart whole Holds (put rest) last
    unfolding delayed
    part_put [] last behind_it part = (refl, ((forward, tt), unspent_put [] last refl part, part))
    part_put (block ∷ later) last behind_it part =
        by_above (cases_Bool (some_above spot_of stamp (meanwhile one) (stamp at) block))
        (part_put later last (λ other spot there. behind_it other spot (Contains-append_right block (events_in spot_of later) (Forwards other spot) there)) part.2)
      where
        spent : (now (put (block ∷ later)) last ≡ with_sent one (now (block ∷ later) last)) → AreUnspent whole Holds (put (block ∷ later)) last
        spent same = unspent_put (block ∷ later) last same part.1

        by_above : (some_above spot_of stamp (meanwhile one) (stamp at) block ≡ true) ⊎ (some_above spot_of stamp (meanwhile one) (stamp at) block ≡ false)
            → (now (put later) last ≡ with_sent one (now later last)) × IsPart whole Holds (put later) last → Stands (block ∷ later) last (put (block ∷ later))
        by_above (inl met) rest = elim (cases_Bool (some_below spot_of stamp (meanwhile one) (stamp at) block)) [
          | inl below ↦
              let is : put (block ∷ later) ≡ (Forwards one at ∷ block) ∷ later = rw (met, below) refl in
              subst (Stands (block ∷ later) last) (sym is) (refl, ((forward, mixed_back block (now later last) part.0 met below), subst (λ bs. AreUnspent whole Holds bs last) is (spent (ap (λ bs. now bs last) is)), part.2))
          | inr none ↦
              let is : put (block ∷ later) ≡ (Forwards one at ∷ []) ∷ block ∷ later = rw (met, none) refl in
              subst (Stands (block ∷ later) last) (sym is) (refl, ((forward, tt), subst (λ bs. AreUnspent whole Holds bs last) is (spent (ap (λ bs. now bs last) is)), part))
        ]
        by_above (inr unmet) rest =
            let is : put (block ∷ later) ≡ map (meanwhile one) block ∷ put later = rw unmet refl in
            let same : now (map (meanwhile one) block ∷ put later) last ≡ with_sent one (now (block ∷ later) last) =
            ap (before (map (meanwhile one) block)) rest.0
            ∙ before_meanwhile block (now later last) (λ other spot there.
            let low = not_above spot_of stamp (meanwhile one) (same_spot one) (stamp at) block unmet (Forwards other spot) there spot refl in
            let high = behind_it other spot (Contains-append_left block (events_in spot_of later) (Forwards other spot) there) in
            omega (arith, low, high)) in
            subst (Stands (block ∷ later) last) (sym is) (
              same,
              (
                subst (IsBlock whole Holds (map (meanwhile one) block)) (sym rest.0) (block_meanwhile block (now later last) part.0),
                subst (λ bs. AreUnspent whole Holds bs last) is (spent (ap (λ bs. now bs last) is ∙ same)),
                rest.1,
              ),
            )

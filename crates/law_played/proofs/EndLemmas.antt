-- What is held at the end of a run, told by the last vsync, which committed nothing.
use Rattle.std.proofs.Common.{◌≡◌, ℕ, Bool, true, false, not, ◌&&◌, List, [], ◌∷◌, map, Option, Some, None, refl, ap, sym, ◌∙◌, subst, true≢false}
use Rattle.std.specs.Prelude.{◌==◌, ◌+◌, if◌then◌else◌, is_none, nat_le, nat_lt}
use Rattle.std.specs.List.{All, cons_option, filter_map, find}
use Rattle.std.specs.Option.{IfSome, option_map, option_map_or, option_or}
use Rattle.std.proofs.lemmas.Bool.{eqb-true}
use Rattle.std.proofs.lemmas.List.Elements.{All-cons, All-head, All-nil, All-tail}
use Rattle.std.proofs.lemmas.Option.{same_Some}
use Rattle.sf_base.specs.declared.fences.Seen.{Seen}
use Rattle.sf_base.specs.declared.ids.LayerId.{LayerId}
use Rattle.sf_commit.specs.sf_ready.Facts.{FactsOf, TellsSame, has_layer}
use Rattle.sf_commit.specs.sf_ready.Holds.{barrier_hold, fence_hold, hold_of, pressure_hold, time_hold, undrawn_hold}
use Rattle.sf_commit.specs.sf_ready.declared.hold.Hold.{Hold}
use Rattle.sf_commit.specs.sf_ready.declared.hold.Hold.TheVariants as hold
use Rattle.sf_commit.specs.sf_token.Pending.{Arrival, IsRisingFrom, has_number, head_of, is_of}
use Rattle.sf_commit.specs.sf_txn.Buffers.{Buffer}
use Rattle.sf_commit.specs.sf_txn.Transactions.{Contents}
use Rattle.sf_commit.specs.Rounds.{IsNext, Round, facts_of, held, hold_at}
use Rattle.sf_commit.specs.sf_commit_next.Heads.{head_hold}
use Rattle.sf_actor.specs.Names.{FrameOf}
use Rattle.sf_actor.specs.Written.{FrameNumber}
use Rattle.sf_record.specs.declared.record.HeldEntry.{HeldEntry}
use Rattle.law_played.proofs.FramingLemmas.{find-map}
use Rattle.law_played.proofs.HoldLemmas.{fences_framed, undrawn_framed}
use Rattle.law_played.proofs.OrderLemmas.{found_all, found_has}
use Rattle.law_played.proofs.PathLemmas.{not_ready}
use Rattle.law_played.specs.Commits.{is_written}
use Rattle.law_played.specs.Framing.{framed_arrival, framed_buffer, framed_txn}
use Rattle.law_played.specs.Holds.{AreHeld, EndOf, entry_due, hold_at_end, hold_shown}
use Rattle.law_played.specs.Progress.{held_shown, is_time}

-- of each item something is told, and the same is due
pub record IsDue {X Y Z : Type 0} (told : X → Option Y) (entry : Y → Z) (due : X → Option Z) (x : X) : Type 0 where
  pub what : Y
  pub is_told : told x ≡ Some what
  pub is_due : due x ≡ Some (entry what)

all_due : {X Y Z : Type 0} (told : X → Option Y) (entry : Y → Z) (due : X → Option Z) (xs : List X) → All (IsDue told entry due) xs
    → map Some (map entry (filter_map told xs)) ≡ map due xs
all_due told entry due [] all = refl
all_due told entry due (x ∷ xs) all =
    let here = All-head (IsDue told entry due) x xs all in
    ap (λ o. map Some (map entry (cons_option o (filter_map told xs)))) here.is_told
    ∙ (λ i. sym here.is_due i ∷ all_due told entry due xs (All-tail (IsDue told entry due) x xs all) i)

-- what holds of all that is told holds of what is told of each
of_each : {X Y : Type 0} (told : X → Option Y) (P : Y → Type 0) (xs : List X) → All P (filter_map told xs) → All (λ x. IfSome (told x) P) xs
of_each told P [] all = All-nil (λ x. IfSome (told x) P)
of_each told P (x ∷ xs) all = by_told (of_each told P xs) (told x) refl all
  where
    by_told : (All P (filter_map told xs) → All (λ x. IfSome (told x) P) xs) → (o : Option _) → told x ≡ o → All P (cons_option o (filter_map told xs))
        → All (λ x. IfSome (told x) P) (x ∷ xs)
    by_told rest None e all = All-cons (λ x. IfSome (told x) P) x xs (subst (λ o. IfSome o P) (sym e) tt) (rest all)
    by_told rest (Some y) e all =
        All-cons (λ x. IfSome (told x) P) x xs (subst (λ o. IfSome o P) (sym e) (All-head P y (filter_map told xs) all)) (rest (All-tail P y (filter_map told xs) all))

time_is : (desired : Option ℕ) (expected : ℕ) → IfSome (time_hold desired expected) (λ h. is_time h ≡ true)
time_is None expected = tt
time_is (Some desired) expected = by_test (nat_lt expected desired && nat_le desired (expected + 1000000000))
  where
    by_test : (b : Bool) → IfSome (if b then Some (hold.Time desired) else None) (λ h. is_time h ≡ true)
    by_test true = refl
    by_test false = tt

or_none : {X : Type 0} (o : Option X) → option_or o None ≡ o
or_none None = refl
or_none (Some x) = refl

module _ {L : Type 0} where
  none_fresh : (desired : Option ℕ) (buffers : List (Buffer L)) (fresh pressed : List ℕ) → fresh ≡ [] → pressure_hold desired buffers fresh pressed ≡ None
  none_fresh (Some time) buffers fresh pressed e = refl
  none_fresh None buffers fresh pressed e =
      (λ i. option_map (λ (b : Buffer L). hold.Pressure b.layer) (find (λ (b : Buffer L). has_layer (e i) b.layer && has_layer pressed b.layer) buffers)) ∙ found_none buffers
    where
      found_none : (bs : List (Buffer L)) → option_map (λ (b : Buffer L). hold.Pressure b.layer) (find (λ (b : Buffer L). has_layer [] b.layer && has_layer pressed b.layer) bs) ≡ None
      found_none [] = refl
      found_none (b ∷ bs) = found_none bs

  -- what holds a transaction, where it is no time and no layer got a buffer
  at_end : (txn : Contents L) (flags : List Bool) (facts : FactsOf) (seen : Seen) (expected : ℕ) (h : Hold) → facts.fresh ≡ [] → hold_of txn flags facts seen expected ≡ Some h → is_time h ≡ false
      → option_or (fence_hold txn.buffers seen) (option_or (undrawn_hold txn.buffers flags) (barrier_hold txn.barriers facts.frames)) ≡ Some h
  unfolding hold_of
  at_end txn flags facts seen expected h fresh holds no_time = by_time (time_hold txn.desired expected) refl (time_is txn.desired expected) holds
    where
      rest : Option Hold
      rest = option_or (fence_hold txn.buffers seen) (option_or (undrawn_hold txn.buffers flags)
          (option_or (barrier_hold txn.barriers facts.frames) (pressure_hold txn.desired txn.buffers facts.fresh facts.pressed)))

      by_time : (o : Option Hold) → time_hold txn.desired expected ≡ o → IfSome o (λ h. is_time h ≡ true)
          → option_or o (option_or (fence_hold txn.buffers seen) (option_or (undrawn_hold txn.buffers flags)
          (option_or (barrier_hold txn.barriers facts.frames) (pressure_hold txn.desired txn.buffers facts.fresh facts.pressed)))) ≡ Some h
          → option_or (fence_hold txn.buffers seen) (option_or (undrawn_hold txn.buffers flags) (barrier_hold txn.barriers facts.frames)) ≡ Some h
      by_time None e is said =
          ap (λ o. option_or (fence_hold txn.buffers seen) (option_or (undrawn_hold txn.buffers flags) o))
          (sym (ap (option_or (barrier_hold txn.barriers facts.frames)) (none_fresh txn.desired txn.buffers facts.fresh facts.pressed fresh) ∙ or_none (barrier_hold txn.barriers facts.frames)))
          ∙ said
      by_time (Some t) e is said = absurd (true≢false (sym is ∙ (ap is_time (same_Some t h said) ∙ no_time)))

module _ {L : Type 0} (frame : L → FrameOf) where
  pub flags_shown : (shown : L → Bool) (written : List FrameNumber) (buffers : List (Buffer L)) → All (λ (b : Buffer L). shown b.lease ≡ is_written written (frame b.lease)) buffers
      → map (λ (b : Buffer FrameOf). is_written written b.lease) (map (framed_buffer frame) buffers) ≡ map (λ (b : Buffer L). shown b.lease) buffers
  flags_shown shown written [] all = refl
  flags_shown shown written (b ∷ bs) all =
      λ i. sym (All-head (λ (b : Buffer L). shown b.lease ≡ is_written written (frame b.lease)) b bs all) i
      ∷ flags_shown shown written bs (All-tail (λ (b : Buffer L). shown b.lease ≡ is_written written (frame b.lease)) b bs all) i

  pub head_framed : (token : _) (xs : List (Arrival L)) (number : ℕ)
      → option_map_or (λ (first : Arrival FrameOf). first.number == number) (head_of token (map (framed_arrival frame) xs)) false
      ≡ option_map_or (λ (first : Arrival L). first.number == number) (head_of token xs) false
  head_framed token xs number =
      ap (λ o. option_map_or (λ (first : Arrival FrameOf). first.number == number) o false) (find-map (framed_arrival frame) (is_of token) (is_of token) (λ x. refl) xs)
      ∙ by_found (head_of token xs)
    where
      by_found : (o : Option (Arrival L)) → option_map_or (λ (first : Arrival FrameOf). first.number == number) (option_map (framed_arrival frame) o) false
          ≡ option_map_or (λ (first : Arrival L). first.number == number) o false
      by_found None = refl
      by_found (Some a) = refl

  module _ (shown : L → Bool) (seen : Seen) (expected : ℕ) (written : List FrameNumber) (frames : List (ℕ × ℕ)) (r : Round L)
      (rests : IsNext shown seen expected r None) (fresh : r.fresh ≡ []) (tells : TellsSame frames r.frames) where
    abbrev end : EndOf
    end = record { written = written; frames = frames; values = seen }

    abbrev left : List (Arrival FrameOf)
    left = map (framed_arrival frame) r.pending

    abbrev Shows : Arrival L → Type 0
    Shows a = All (λ (b : Buffer L). shown b.lease ≡ is_written written (frame b.lease)) a.txn.buffers

    abbrev told : Arrival L → Option (ℕ × Hold)
    told a = option_map (λ h. (a.number, h)) (hold_at shown seen expected r a)

    abbrev due : Arrival L → Option HeldEntry
    due a = entry_due end left (framed_arrival frame a)

    barriers_same : (barriers : List (LayerId × ℕ)) → barrier_hold barriers frames ≡ barrier_hold barriers r.frames
    barriers_same barriers = λ i. option_map (λ (barrier : LayerId × ℕ). hold.Barrier barrier.0 barrier.1) (find (λ barrier. not (tells barrier i)) barriers)

    -- the first of its token is held at the end as it was
    held_at_end : (a : Arrival L) (h : Hold) → Shows a → head_hold shown seen expected (facts_of r) a ≡ Some h → is_time h ≡ false → hold_at_end end (framed_txn frame a.txn) ≡ Some h
    held_at_end a h shows holds no_time =
        (λ i. option_or (fences_framed frame a.txn.buffers seen i)
        (option_or (undrawn_hold (map (framed_buffer frame) a.txn.buffers) (flags_shown shown written a.txn.buffers shows i)) (barriers_same a.txn.barriers i)))
        ∙ (ap (λ o. option_or (fence_hold a.txn.buffers seen) (option_or o (barrier_hold a.txn.barriers r.frames)))
        (undrawn_framed frame a.txn.buffers (map (λ (b : Buffer L). shown b.lease) a.txn.buffers))
        ∙ at_end a.txn (map (λ (b : Buffer L). shown b.lease) a.txn.buffers) (facts_of r) seen expected h fresh holds no_time)

    one_due : (a : Arrival L) → All (λ (x : Arrival L). find (has_number x.number) r.pending ≡ Some x) r.pending → find (has_number a.number) r.pending ≡ Some a → Shows a
        → IfSome (told a) (λ h. is_time h.1 ≡ false) → IsDue told held_shown due a
    one_due a all found shows no_time = by_first (option_map_or (λ (first : Arrival L). first.number == a.number) (head_of a.txn.token r.pending) false) refl
      where
        first_is : (o : Option (Arrival L)) → head_of a.txn.token r.pending ≡ o → option_map_or (λ (first : Arrival L). first.number == a.number) o false ≡ true → head_of a.txn.token r.pending ≡ Some a
        first_is None e t = absurd (true≢false (sym t))
        first_is (Some b) e t =
            let same = found_has (λ (x : Arrival L). find (has_number x.number) r.pending ≡ Some x) (is_of a.txn.token) r.pending b all e in
            e ∙ (sym same ∙ (ap (λ n. find (has_number n) r.pending) (eqb-true b.number a.number t) ∙ found))

        by_hold : (o : Option Hold) → head_hold shown seen expected (facts_of r) a ≡ o → is_none o ≡ false
            → option_map_or (λ (first : Arrival L). first.number == a.number) (head_of a.txn.token r.pending) false ≡ true → IsDue told held_shown due a
        by_hold None e some t = absurd (true≢false some)
        by_hold (Some h) e some t =
            let is_told : told a ≡ Some (a.number, h) = rw t (ap (option_map (λ h. (a.number, h))) e) in
            let not_time : is_time h ≡ false = subst (λ o. IfSome o (λ (h : ℕ × Hold). is_time h.1 ≡ false)) is_told no_time in
            record {
              what = (a.number, h);
              is_told = is_told;
              is_due = ap (λ b. option_map (hold_shown a.number) (if b then hold_at_end end (framed_txn frame a.txn) else Some hold.Behind)) (head_framed a.txn.token r.pending a.number ∙ t)
                  ∙ ap (option_map (hold_shown a.number)) (held_at_end a h shows e not_time);
            }

        by_first : (t : Bool) → option_map_or (λ (first : Arrival L). first.number == a.number) (head_of a.txn.token r.pending) false ≡ t → IsDue told held_shown due a
        by_first true t =
            let head = first_is (head_of a.txn.token r.pending) refl t in
            by_hold (head_hold shown seen expected (facts_of r) a) refl (not_ready shown seen expected (facts_of r) r.pending a (rests a.txn.token) head) t
        by_first false t = record {
          what = (a.number, hold.Behind);
          is_told = rw t refl;
          is_due = ap (λ b. option_map (hold_shown a.number) (if b then hold_at_end end (framed_txn frame a.txn) else Some hold.Behind)) (head_framed a.txn.token r.pending a.number ∙ t);
        }

    pub end_held : (last : ℕ) → IsRisingFrom 0 r.pending last → All Shows r.pending → All (λ (h : ℕ × Hold). is_time h.1 ≡ false) (held shown seen expected r)
        → AreHeld end left (map held_shown (held shown seen expected r))
    end_held last rising shows no_time =
        let all = found_all 0 r.pending last rising in
        let each = of_each told (λ (h : ℕ × Hold). is_time h.1 ≡ false) r.pending no_time in
        all_due told held_shown due r.pending (λ k d in'. one_due _ all (all k d in') (shows k d in') (each k d in'))
        ∙ due_framed r.pending
      where
        due_framed : (xs : List (Arrival L)) → map due xs ≡ map (entry_due end left) (map (framed_arrival frame) xs)
        due_framed [] = refl
        due_framed (x ∷ xs) = ap (λ rest. due x ∷ rest) (due_framed xs)

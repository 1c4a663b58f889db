-- A vsync of a handler decides as a vsync of a play does, where its looks showed exactly what is written.
use Rattle.std.proofs.Common.{◌≡◌, ℕ, Bool, true, false, List, [], ◌∷◌, map, Option, Some, None, refl, ap, sym, ◌∙◌, subst}
use Rattle.std.specs.Prelude.{◌==◌, if◌then◌else◌, is_none}
use Rattle.std.specs.List.{All, cons_option, filter_map}
use Rattle.std.specs.Option.{option_map, option_map_or}
use Rattle.std.proofs.lemmas.List.Elements.{All-head, All-tail}
use Rattle.sf_base.specs.declared.fences.Seen.{Seen}
use Rattle.sf_base.specs.declared.ids.TokenId.{TokenId}
use Rattle.sf_commit.specs.sf_ready.Holds.{hold_of}
use Rattle.sf_commit.specs.sf_ready.declared.hold.Hold.{Hold}
use Rattle.sf_commit.specs.sf_ready.declared.hold.Hold.TheVariants as hold
use Rattle.sf_commit.specs.sf_token.Pending.{Arrival, head_of, is_of}
use Rattle.sf_commit.specs.sf_txn.Buffers.{Buffer}
use Rattle.sf_commit.specs.sf_txn.Transactions.{without_first}
use Rattle.sf_commit.proofs.DecideLemmas.{all_left, hold_same}
use Rattle.sf_commit.specs.Rounds.{Decided, IsNext, Leads, Round, committed, facts_of, held, hold_at}
use Rattle.sf_commit.specs.sf_commit_next.Heads.{head_hold, ready_if, ready_of}
use Rattle.sf_actor.specs.Names.{FrameOf}
use Rattle.sf_actor.specs.Written.{FrameNumber}
use Rattle.law_played.proofs.EndLemmas.{flags_shown, head_framed}
use Rattle.law_played.proofs.FramingLemmas.{find-map, left-map, round_committed}
use Rattle.law_played.proofs.HoldLemmas.{decides_same, hold_framed}
use Rattle.law_played.proofs.OrderLemmas.{found_has}
use Rattle.law_played.specs.Commits.{is_written}
use Rattle.law_played.specs.Framing.{IsRoundOf, framed_arrival, framed_txn}

module _ {L : Type 0} (frame : L → FrameOf) (shown : L → Bool) (written : List FrameNumber) (seen : Seen) (expected : ℕ) where
  -- a round is whole where what is pending is told, too
  pub record IsWhole (round : Round FrameOf) (r : Round L) : Type 0 where
    pub is : IsRoundOf frame round r
    pub waits : round.pending ≡ map (framed_arrival frame) r.pending

  abbrev pub Shows : Arrival L → Type 0
  Shows a = All (λ (b : Buffer L). shown b.lease ≡ is_written written (frame b.lease)) a.txn.buffers

  head_whole : (round : Round FrameOf) (r : Round L) (a : Arrival L) → IsRoundOf frame round r → Shows a
      → head_hold (is_written written) seen expected (facts_of round) (framed_arrival frame a) ≡ head_hold shown seen expected (facts_of r) a
  head_whole round r a is shows =
      ap (λ flags. hold_of (framed_txn frame a.txn) flags (facts_of round) seen expected) (flags_shown frame shown written a.txn.buffers shows)
      ∙ (hold_framed frame a.txn (map (λ (b : Buffer L). shown b.lease) a.txn.buffers) (facts_of round) seen expected
      ∙ hold_same a.txn (map (λ (b : Buffer L). shown b.lease) a.txn.buffers) (facts_of round) (facts_of r) seen expected (decides_same frame round r is))

  -- what is ready
  if_whole : (round : Round FrameOf) (r : Round L) (o : Option (Arrival L)) → IsRoundOf frame round r → ((a : Arrival L) → o ≡ Some a → Shows a)
      → ready_if (is_written written) seen expected (facts_of round) (option_map (framed_arrival frame) o) ≡ option_map (framed_arrival frame) (ready_if shown seen expected (facts_of r) o)
  if_whole round r None is shows = refl
  if_whole round r (Some a) is shows =
      ap (λ h. if is_none h then Some (framed_arrival frame a) else None) (head_whole round r a is (shows a refl)) ∙ by_test (is_none (head_hold shown seen expected (facts_of r) a))
    where
      by_test : (b : Bool) → (if b then Some (framed_arrival frame a) else None) ≡ option_map (framed_arrival frame) (if b then Some a else None)
      by_test true = refl
      by_test false = refl

  ready_whole : (round : Round FrameOf) (r : Round L) (token : TokenId) → IsWhole round r → All Shows r.pending
      → ready_of (is_written written) seen expected (facts_of round) round.pending token ≡ option_map (framed_arrival frame) (ready_of shown seen expected (facts_of r) r.pending token)
  ready_whole round r token whole shows =
      ap (λ (xs : List (Arrival FrameOf)). ready_of (is_written written) seen expected (facts_of round) xs token) whole.waits
      ∙ (ap (ready_if (is_written written) seen expected (facts_of round)) (find-map (framed_arrival frame) (is_of token) (is_of token) (λ x. refl) r.pending)
      ∙ if_whole round r (head_of token r.pending) whole.is (λ a e. found_has Shows (is_of token) r.pending a shows e))

  next_whole : (round : Round FrameOf) (r : Round L) (a : Arrival L) → IsWhole round r → All Shows r.pending → IsNext shown seen expected r (Some a)
      → IsNext (is_written written) seen expected round (Some (framed_arrival frame a))
  next_whole round r a whole shows next = (
    ready_whole round r a.txn.token whole shows ∙ ap (option_map (framed_arrival frame)) next.0,
    λ token less. ready_whole round r token whole shows ∙ ap (option_map (framed_arrival frame)) (next.1 token less),
  )

  none_whole : (round : Round FrameOf) (r : Round L) → IsWhole round r → All Shows r.pending → IsNext shown seen expected r None → IsNext (is_written written) seen expected round None
  none_whole round r whole shows rests token = ready_whole round r token whole shows ∙ ap (option_map (framed_arrival frame)) (rests token)

  committed_whole : (round : Round FrameOf) (r : Round L) (a : Arrival L) → IsWhole round r → IsWhole (committed round (framed_arrival frame a)) (committed r a)
  committed_whole round r a whole = record {
    is = round_committed frame round r a whole.is;
    waits = ap (without_first (is_of a.txn.token)) whole.waits ∙ left-map (framed_arrival frame) (is_of a.txn.token) (is_of a.txn.token) (λ x. refl) r.pending;
  }

  -- where it leads
  pub record LeadsTo (round : Round FrameOf) (end : Round L) : Type 0 where
    pub to : Round FrameOf
    pub decided : Decided (is_written written) seen expected round to
    pub whole : IsWhole to end
    pub shows : All Shows end.pending

  pub leads_whole : (round : Round FrameOf) (r end : Round L) (taken : List (Arrival L)) → IsWhole round r → All Shows r.pending → Leads shown seen expected r taken end
      → IsNext shown seen expected end None → LeadsTo round end
  leads_whole round r end [] whole shows leads rests =
      let there = subst (IsWhole round) (sym leads) whole in
      let shows_on = subst (λ (x : Round L). All Shows x.pending) (sym leads) shows in
      record { to = round; decided = record { taken = []; leads = refl; rests = none_whole round end there shows_on rests }; whole = there; shows = shows_on }
  leads_whole round r end (a ∷ later) whole shows leads rests =
      let on = leads_whole (committed round (framed_arrival frame a)) (committed r a) end later (committed_whole round r a whole) (all_left Shows (is_of a.txn.token) r.pending shows) leads.1 rests in
      record {
        to = on.to;
        decided = record { taken = framed_arrival frame a ∷ on.decided.taken; leads = (next_whole round r a whole shows leads.0, on.decided.leads); rests = on.decided.rests };
        whole = on.whole;
        shows = on.shows;
      }

  -- and what is held there
  held_at : (round : Round FrameOf) (r : Round L) (a : Arrival L) → IsWhole round r → Shows a
      → hold_at (is_written written) seen expected round (framed_arrival frame a) ≡ hold_at shown seen expected r a
  held_at round r a whole shows =
      ap (λ xs. if first_in xs then head_hold (is_written written) seen expected (facts_of round) (framed_arrival frame a) else Some hold.Behind) whole.waits
      ∙ (λ i. if head_framed frame a.txn.token r.pending a.number i then head_whole round r a whole.is shows i else Some hold.Behind)
    where
      first_in : List (Arrival FrameOf) → Bool
      first_in xs = option_map_or (λ (first : Arrival FrameOf). first.number == a.number) (head_of a.txn.token xs) false

  abbrev with_number : ℕ → Hold → ℕ × Hold
  with_number number h = (number, h)

  abbrev told_of_frames : Round FrameOf → Arrival FrameOf → Option (ℕ × Hold)
  told_of_frames round a = option_map (with_number a.number) (hold_at (is_written written) seen expected round a)

  abbrev told_of_leases : Round L → Arrival L → Option (ℕ × Hold)
  told_of_leases r a = option_map (with_number a.number) (hold_at shown seen expected r a)

  held_each : (round : Round FrameOf) (r : Round L) (xs : List (Arrival L)) → IsWhole round r → All Shows xs
      → filter_map (told_of_frames round) (map (framed_arrival frame) xs) ≡ filter_map (told_of_leases r) xs
  held_each round r [] whole all = refl
  held_each round r (a ∷ xs) whole all =
      λ i. cons_option (option_map (with_number a.number) (held_at round r a whole (All-head Shows a xs all) i)) (held_each round r xs whole (All-tail Shows a xs all) i)

  pub held_whole : (round : Round FrameOf) (r : Round L) → IsWhole round r → All Shows r.pending → held (is_written written) seen expected round ≡ held shown seen expected r
  held_whole round r whole shows = ap (filter_map (told_of_frames round)) whole.waits ∙ held_each round r r.pending whole shows

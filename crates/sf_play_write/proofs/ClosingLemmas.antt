-- The records that end a play: who is stuck, and the histories of the queues by rising number.
use Rattle.std.proofs.Common.{◌≡◌, ◌≢◌, ℕ, zero, suc, ◌+◌, ◌<◌, ◌≤◌, ◌==◌, nat_lt, Bool, true, false, List, [], ◌∷◌, ◌++◌, length, get_or, map, filter, take, Option, Some, None, refl, ap, ◌∙◌, sym, subst, inl, inr, arith}
use Rattle.std.specs.Prelude.{All, Contains, ◌⊎◌, if◌then◌else◌, option_to_list, reverse}
use Rattle.std.specs.List.{AllPairs, cons_option, flat_map, range_with_len}
use Rattle.std.proofs.lemmas.Bool.{cases_Bool, eq-eqb, eqb-true, ne_eqb}
use Rattle.std.proofs.lemmas.List.{map-append, take_more}
use Rattle.std.proofs.lemmas.List.Elements.{All-contains, filter_map-append}
use Rattle.atomic_table.specs.Seated.{TableId}
use Rattle.sf_output_screen.specs.sf_picture.declared.picture.Picture.{Picture}
use Rattle.sf_play.specs.sf_surface.Histories.{told}
use Rattle.sf_play.specs.sf_surface.Objects.{ObjectOf, mark_of}
use Rattle.sf_play.specs.sf_surface.declared.mark.QueueMark.{QueueMark}
use Rattle.sf_play.specs.sf_token.Arrivals.{entry_of, sent}
use Rattle.sf_play.specs.sf_script_scene.Limits.{IsWithinLimits}
use Rattle.sf_play.specs.sf_script_scene.Scene.{SceneValue}
use Rattle.sf_play.specs.sf_script_scene.declared.declarations.QueueDecl.{QueueDecl}
use Rattle.sf_play.specs.sf_script_scene.declared.step.ActorScript.{ActorScript}
use Rattle.sf_play.specs.sf_actor.Desks.{DeskHome, DeskView, mark_among}
use Rattle.sf_play.specs.sf_actor.Makers.{Run}
use Rattle.sf_play.specs.sf_actor.Plain.{calls_among}
use Rattle.sf_play.specs.sf_actor.Tries.{ActorOf}
use Rattle.sf_play.specs.sf_actor_steps.Playable.{MayPlay}
use Rattle.sf_play.specs.sf_actor_steps.declared.actor.Actor.{Actor}
use Rattle.sf_play.specs.sf_actor_set.ActorSets.{KeepAs, script_of, scripts_of}
use Rattle.sf_play.specs.sf_record.Events.{closing}
use Rattle.sf_play.specs.sf_record.declared.record.Record.{Record}
use Rattle.sf_play.specs.sf_record.declared.record.Record.TheVariants as rec
use Rattle.sf_play.specs.sf_record.declared.record.StuckEntry.{StuckEntry}
use Rattle.sf_play.proofs.law_played_lemmas.StepKeepsTold.{of_all}
use Rattle.sf_play.proofs.law_played_lemmas.Members.{filter_has, has_cases, has_first, has_later, has_map, has_none, joined_has, map_has}
use Rattle.sf_play.proofs.law_played_lemmas.Parts.{arrivals_recorded, calls_recorded, map_twice}
use Rattle.sf_play.specs.law_played.Actors.{mark_declared}
use Rattle.sf_play.specs.law_played.Histories.{entry_shown, history_shown, queue_number, rising_queues}
use Rattle.sf_play.specs.law_played.Progress.{held_shown}
use Rattle.sf_play.specs.law_played.Stopping.{stuck_among}
use Rattle.sf_play.specs.law_played.Telling.{arrival_recorded}
use Rattle.sf_play.specs.Ending.{shows_at_end}
use Rattle.sf_play.specs.Players.{PlayerOf, SoFar, home_in, run_so}
use Rattle.sf_play.specs.Standing.{StandsInRun}
use Rattle.sf_play.specs.sf_play_report.Closings.{history_of}
use Rattle.sf_play_write.specs.Closings.{closing_of, stuck_at, stuck_entry}

-- numbers each of which stands once
abbrev pub Apart : List ℕ → Type 0
Apart [] = Unit {0}
Apart (n ∷ ns) = ((m : ℕ) → Contains ns m → n ≢ m) × Apart ns

has_either : (ns ms : List ℕ) (m : ℕ) → Contains (ns ++ ms) m → Contains ns m ⊎ Contains ms m
has_either [] ms m there = inr there
has_either (n ∷ ns) ms m there = elim (has_cases n m (ns ++ ms) there) [
  | inl is ↦ inl (has_first n m ns is)
  | inr c ↦ elim (has_either ns ms m c) [ inl d ↦ inl (has_later n m ns d) | inr d ↦ inr d ]
]

apart_both : (ns ms : List ℕ) → Apart ns → Apart ms → ((n m : ℕ) → Contains ns n → Contains ms m → n ≢ m) → Apart (ns ++ ms)
apart_both [] ms first second differ = second
apart_both (n ∷ ns) ms first second differ = (
  λ m there. elim (has_either ns ms m there) [ inl d ↦ first.0 m d | inr d ↦ differ n m (has_first n n ns refl) d ],
  apart_both ns ms first.1 second (λ k m there. differ k m (has_later n k ns there)),
)

from_range : (a k n : ℕ) → Contains (range_with_len a k) n → a ≤ n
from_range a zero n there = has_none n there
from_range a (suc k) n there = elim (has_cases a n (range_with_len (a + 1) k) there) [
  | inl same ↦ omega (arith, same)
  | inr c ↦ let low = from_range (a + 1) k n c in omega (arith, low)
]

module _ {X : Type 0} (number : X → ℕ) where
  differ_apart : (xs : List X) → AllPairs (λ x y. number x ≢ number y) xs → Apart (map number xs)
  differ_apart [] pairs = tt
  differ_apart (x ∷ xs) pairs = (
    λ m there e.
        let it = map_has number xs m there in
        let apart = pairs 0 (suc it.1.0) it.0 (omega arith) (omega (arith, it.1.1)) in
        subst (λ (y : X). number x ≢ number y) it.1.2 apart (e ∙ sym it.2),
    differ_apart xs (λ i j d before below. pairs (suc i) (suc j) d (omega (arith, before)) (omega (arith, below))),
  )

  apart_passing : (p : X → Bool) (xs : List X) → Apart (map number xs) → Apart (map number (filter p xs))
  apart_passing p [] apart = tt
  apart_passing p (x ∷ xs) apart = elim (cases_Bool (p x)) [
    | inl met ↦ rw met (
      λ m there.
          let it = map_has number (filter p xs) m there in
          subst (λ (k : ℕ). number x ≢ k) it.2 (apart.0 (number it.0) (has_map number xs it.0 (filter_has p xs it.0 it.1).0)),
      apart_passing p xs apart.1,
    )
    | inr unmet ↦ rw unmet (apart_passing p xs apart.1)
  ]

  abbrev of_numbers : List X → List ℕ → List X
  of_numbers xs ns = flat_map (λ n. filter (λ x. number x == n) xs) ns

  numbered : (xs : List X) (n m : ℕ) → Contains (map number (filter (λ x. number x == n) xs)) m → m ≡ n
  numbered xs n m there =
      let it = map_has number (filter (λ x. number x == n) xs) m there in
      sym it.2 ∙ eqb-true (number it.0) n (filter_has (λ x. number x == n) xs it.0 it.1).1

  numbers_from : (xs : List X) (a k m : ℕ) → Contains (map number (of_numbers xs (range_with_len a k))) m → a ≤ m
  numbers_from xs a k m there =
      let it = map_has number (of_numbers xs (range_with_len a k)) m there in
      let at = joined_has (λ n. filter (λ x. number x == n) xs) (range_with_len a k) it.0 it.1 in
      let is = eqb-true (number it.0) at.0 (filter_has (λ x. number x == at.0) xs it.0 at.2).1 in
      let low = from_range a k at.0 at.1 in
      let same = it.2 in
      omega (arith, low, is, same)

  -- those by rising number stand once each, where no number stands twice
  rising_apart : (xs : List X) → Apart (map number xs) → (k a : ℕ) → Apart (map number (of_numbers xs (range_with_len a k)))
  rising_apart xs apart zero a = tt
  rising_apart xs apart (suc k) a =
      let first = filter (λ x. number x == a) xs in
      let later = of_numbers xs (range_with_len (a + 1) k) in
      subst Apart (sym (map-append number first later))
      (apart_both (map number first) (map number later) (apart_passing (λ x. number x == a) xs apart) (rising_apart xs apart k (a + 1)) (λ n m here there e.
      let is = numbered xs a n here in
      let low = numbers_from xs (a + 1) k m there in
      absurd (omega (arith, is, low, e))))

queues_apart : (scene : SceneValue) → IsWithinLimits scene → Apart (map queue_number (rising_queues scene))
unfolding rising_queues
queues_apart scene limits = rising_apart queue_number scene.queues (differ_apart queue_number scene.queues limits.queues.differ) 16 1

-- an entry, or none
one_entry : (o : Option StuckEntry) → cons_option o [] ≡ option_to_list o
one_entry None = refl
one_entry (Some entry) = refl

abbrev stuck_with : ActorScript → ℕ → List StuckEntry
stuck_with script done = if nat_lt done (length script.steps) then record { actor = script.number; step = done + 1 } ∷ [] else []

stuck_first : (script : ActorScript) (done : ℕ) (rest : List StuckEntry)
    → cons_option (if nat_lt done (length script.steps) then Some (record { actor = script.number; step = done + 1 }) else None) rest
    ≡ (if nat_lt done (length script.steps) then record { actor = script.number; step = done + 1 } ∷ [] else []) ++ rest
stuck_first script done rest = elim (cases_Bool (nat_lt done (length script.steps))) [
  | inl met ↦ rw met refl
  | inr unmet ↦ rw unmet refl
]

abbrev first_mark : QueueMark → List QueueMark → QueueMark
first_mark other [] = other
first_mark other (mark ∷ marks) = mark

abbrev later_marks : List QueueMark → List QueueMark
later_marks [] = []
later_marks (mark ∷ marks) = marks

module _ {B : Type 0} where
  -- the records of what arrived and of what follows the histories
  abbrev pub arrived_of : PlayerOf B → Record
  arrived_of player = rec.Arrv (map arrival_recorded (map entry_of (sent player.play.actor_set.desk.arrivals)))

  abbrev pub rest_of : PlayerOf B → List Record
  rest_of player = rec.Hold (map held_shown player.held) ∷ rec.Stuk (stuck_at player.play.actor_set.actors) ∷ rec.Done ∷ []

  -- one more actor
  pub stuck_more : (actors : List (Actor B)) (i : ℕ) (actor : Actor B) (list later : List StuckEntry) → i < length actors → actor ≡ get_or actors i actor
      → list ≡ stuck_at (take i actors) → later ≡ list ++ option_to_list (stuck_entry actor) → later ≡ stuck_at (take (i + 1) actors)
  stuck_more actors i actor list later below is so added =
      added
      ∙ ap (λ (l : List StuckEntry). l ++ option_to_list (stuck_entry actor)) so
      ∙ ap (λ (l : List StuckEntry). stuck_at (take i actors) ++ l) (sym (one_entry (stuck_entry actor)))
      ∙ sym (filter_map-append stuck_entry (take i actors) (actor ∷ []))
      ∙ ap (λ (x : Actor B). stuck_at (take i actors ++ x ∷ [])) is
      ∙ sym (ap stuck_at (take_more actors i actor below))

  -- who is stuck is told by what actors keep
  stuck_kept : (table : TableId) (pictures : ℕ → Picture) (home : DeskHome) (view : DeskView B) (actors : List (Actor B)) (ofs : List (ActorOf B))
      → KeepAs table pictures home view actors ofs → stuck_at actors ≡ stuck_among ofs
  stuck_kept table pictures home view [] [] keep = refl
  stuck_kept table pictures home view [] (of ∷ ofs) keep = absurd keep
  stuck_kept table pictures home view (actor ∷ actors) [] keep = absurd keep
  stuck_kept table pictures home view (actor ∷ actors) (of ∷ ofs) keep =
      let script = keep.0.is.script in
      let trace = keep.0.is.trace in
      let later = stuck_kept table pictures home view actors ofs keep.1 in
      stuck_first actor.script (length actor.replies.items) (stuck_at actors) ∙ (λ i. stuck_with (sym script i) (sym trace i) ++ later i)

  -- a script is short enough for the numbers of its steps
  pub few_steps : (table : TableId) (scene : SceneValue) (so : SoFar B) (player : PlayerOf B) → StandsInRun table scene so player
      → All (λ (actor : Actor B). length actor.script.steps ≤ 4294967295) player.play.actor_set.actors
  few_steps table scene so player stands =
      of_all (λ (actor : Actor B). length actor.script.steps ≤ 4294967295) player.play.actor_set.actors (λ actor there.
      (All-contains (MayPlay (home_in player.play) scene.pictures) (scripts_of player.play.actor_set.actors) actor.script stands.rights.plays (has_map script_of player.play.actor_set.actors actor there)).few)

  abbrev object_number : ObjectOf B → ℕ
  object_number object = object.queue.number.0

  -- an object is found by its number
  record IsFoundIn (objects : List (ObjectOf B)) (object : ObjectOf B) : Type 0 where
    calls : calls_among objects (object_number object) ≡ object.calls
    mark : mark_among (map mark_of objects) (object_number object) ≡ mark_of object

  is_found : (objects : List (ObjectOf B)) (object : ObjectOf B) → Apart (map object_number objects) → Contains objects object → IsFoundIn objects object
  is_found [] object apart there = has_none object there
  is_found (one ∷ objects) object apart there = elim (has_cases one object objects there) [
    | inl is ↦
        let met : (object_number one == object_number object) ≡ true = eq-eqb (object_number one) (object_number object) (ap object_number is) in
        record { calls = rw met (ap (λ (o : ObjectOf B). o.calls) is); mark = rw met (ap mark_of is) }
    | inr c ↦
        let unmet : (object_number one == object_number object) ≡ false = ne_eqb (object_number one) (object_number object) (apart.0 (object_number object) (has_map object_number objects object c)) in
        let later = is_found objects object apart.1 c in
        record { calls = rw unmet later.calls; mark = rw unmet later.mark }
  ]

  -- the histories of objects that are declared so
  histories_are : (run : Run) (objects : List (ObjectOf B)) (declared : List QueueDecl) → map mark_of objects ≡ map mark_declared declared
      → ((object : ObjectOf B) → Contains objects object → run.calls (object_number object) ≡ told (mark_of object) object.calls)
      → map history_of objects ≡ map (history_shown run) declared
  histories_are run [] [] same calls = refl
  histories_are run [] (queue ∷ declared) same calls = absurd cc
  histories_are run (object ∷ objects) [] same calls = absurd cc
  histories_are run (object ∷ objects) (queue ∷ declared) same calls =
      let here : mark_of object ≡ mark_declared queue = ap (first_mark (mark_of object)) same in
      let number : object_number object ≡ queue.number = ap (λ (m : QueueMark). m.queue.0) here in
      let called = calls object (has_first object object objects refl) in
      let entries = calls_recorded (told (mark_of object) object.calls) ∙ ap (λ es. map entry_shown (reverse es)) (sym called ∙ ap run.calls number) in
      let later = histories_are run objects declared (ap later_marks same) (λ other there. calls other (has_later object other objects there)) in
      (λ i. record { queue = number i; entries = entries i } ∷ later i)

  -- what is written at the end is what the player shows
  pub closing_is : (table : TableId) (scene : SceneValue) (so : SoFar B) (player : PlayerOf B) → StandsInRun table scene so player
      → let shows = shows_at_end scene so player in closing_of player ≡ closing shows.arrived shows.histories shows.held shows.stuck
  closing_is table scene so player stands =
      let desk = player.play.actor_set.desk in
      let run = run_so so player.play in
      let numbers : map object_number desk.queues ≡ map queue_number (rising_queues scene) =
      sym (map_twice mark_of (λ (m : QueueMark). m.queue.0) desk.queues)
      ∙ ap (map (λ (m : QueueMark). m.queue.0)) stands.marks
      ∙ map_twice mark_declared (λ (m : QueueMark). m.queue.0) (rising_queues scene) in
      let apart = subst Apart (sym numbers) (queues_apart scene stands.stands.stands.of_scene.limits) in
      let arrived = arrivals_recorded (sent desk.arrivals) in
      let histories = histories_are run desk.queues (rising_queues scene) stands.marks (λ object there.
      let found = is_found desk.queues object apart there in
      (λ i. told (found.mark i) (found.calls i))) in
      let stuck = stuck_kept table _ _ _ player.play.actor_set.actors so.actors stands.stands.stands.keep in
      (λ i. closing (arrived i) (histories i) (map held_shown player.held) (stuck i))

-- A step that an actor does, over a desk that knows all, adds calls and arrivals of this step alone.
use Rattle.std.proofs.Common.{◌≡◌, ◌≢◌, ℕ, ◌+◌, ◌≤◌, ◌==◌, Bool, true, false, List, [], ◌∷◌, ◌++◌, length, map, filter, Option, Some, None, refl, ap, sym, ◌∙◌, subst, true≢false, inl, inr, arith}
use Rattle.std.specs.Prelude.{◌⊎◌, if◌then◌else◌}
use Rattle.std.specs.List.{All, AllZip, list_any}
use Rattle.std.proofs.lemmas.Bool.{cases_eq, eq-eqb, ne_eqb, or_parts}
use Rattle.std.proofs.lemmas.List.{append_cancel_left, map-append}
use Rattle.std.proofs.lemmas.List.Elements.{All-cons, All-head, All-nil, All-tail, All-weaker, filter-append}
use Rattle.law_rounds.specs.OrderSoFar.{DoesMore}
use Rattle.law_rounds.specs.Shown.{shown_of}
use Rattle.law_rounds.proofs.StepInOrder.{adds_calls, does_more}
use Rattle.sf_play.specs.sf_actor.Desks.{DeskHome, DeskView, known_of, mark_among}
use Rattle.sf_play.specs.sf_actor.Known.{GoesOn, arrivals_told, is_sent_by, plain_arrival}
use Rattle.sf_play.specs.sf_actor.Names.{FrameOf}
use Rattle.sf_play.specs.sf_actor.ScriptTraces.{IsMade, made_on, sent_as}
use Rattle.sf_play.specs.sf_actor.Traces.{SentStep, made_by, sends_of, sent_at, sent_with}
use Rattle.sf_play.specs.sf_actor.Tries.{ActorOf, DoesStep, Keeps}
use Rattle.sf_play.specs.sf_actor.declared.done.Answered.{Answered}
use Rattle.sf_play.specs.sf_actor.declared.done.Answered.TheVariants as answered
use Rattle.sf_play.specs.sf_actor.declared.done.Done.{Done}
use Rattle.sf_play.specs.sf_actor.declared.tried.Reply.{Reply}
use Rattle.sf_play.specs.sf_actor.sf_slots.declared.calls.Entry.{Entry}
use Rattle.sf_play.specs.sf_actor.sf_surface.Histories.{Made, told, told_entry}
use Rattle.sf_play.specs.sf_actor.sf_surface.Tokens.{ReadLeaseOf}
use Rattle.sf_play.specs.sf_actor.sf_surface.declared.mark.QueueMark.{QueueMark}
use Rattle.sf_play.specs.sf_play_report.sf_calls.Histories.{calls_by}
use Rattle.sf_play.specs.sf_record.declared.event.VsyncRecords.{VsyncRecords}
use Rattle.sf_play.specs.sf_script_scene.Scene.{SceneValue}
use Rattle.sf_play.specs.sf_script_scene.sf_picture.declared.picture.Picture.{Picture}
use Rattle.sf_play.specs.sf_token.Pending.{Arrival}
use Rattle.sf_play.specs.sf_play_report.sf_txn.Transactions.{Contents}
use Rattle.sf_play.proofs.law_played_lemmas.OrderLemmas.{kept_whole}
use Rattle.sf_play.proofs.law_played_lemmas.RunTraces.{own_told}
use Rattle.sf_play.proofs.law_played_lemmas.StepLemmas.{at_end, each_with}
use Rattle.sf_play.specs.law_played.Actors.{arrivals_of, run_of, told_on}
use Rattle.sf_play.specs.law_played.Runs.{calls_of}
use Rattle.sf_play.specs.law_played.Stepping.{CallsMore}

module _ {B : Type 0} where
  fewer : (caller : ℕ) (more earlier : List (Made B)) → length (calls_by caller earlier) ≤ length (calls_by caller (more ++ earlier))
  fewer caller [] earlier = omega arith
  fewer caller (m ∷ more) earlier = by_test (m.by == caller) (fewer caller more earlier)
    where
      by_test : (b : Bool) → length (calls_by caller earlier) ≤ length (calls_by caller (more ++ earlier))
          → length (calls_by caller earlier) ≤ length (if b then m ∷ calls_by caller (more ++ earlier) else calls_by caller (more ++ earlier))
      by_test true rest = omega (arith, rest)
      by_test false rest = rest

  -- calls that are all of one caller, where the others made none
  all_by : (number : ℕ) (more earlier : List (Made B)) → ((other : ℕ) → other ≢ number → calls_by other (more ++ earlier) ≡ calls_by other earlier) → All (λ (m : Made B). m.by ≡ number) more
  all_by number [] earlier none = All-nil (λ (m : Made B). m.by ≡ number)
  all_by number (m ∷ more) earlier none = by_caller (cases_eq m.by number) (all_by number more earlier)
    where
      by_caller : (m.by ≡ number) ⊎ (m.by ≡ number → ⊥)
          → (((other : ℕ) → other ≢ number → calls_by other (more ++ earlier) ≡ calls_by other earlier) → All (λ (m : Made B). m.by ≡ number) more) → All (λ (m : Made B). m.by ≡ number) (m ∷ more)
      by_caller (inl same) rest =
          All-cons (λ (m : Made B). m.by ≡ number) m more same
          (rest (λ other apart. ap (λ b. if b then m ∷ calls_by other (more ++ earlier) else calls_by other (more ++ earlier)) (sym (ne_eqb m.by other (λ e. apart (sym e ∙ same)))) ∙ none other apart))
      by_caller (inr apart) rest =
          let own : (m ∷ calls_by m.by (more ++ earlier)) ≡ calls_by m.by earlier =
          ap (λ b. if b then m ∷ calls_by m.by (more ++ earlier) else calls_by m.by (more ++ earlier)) (sym (eq-eqb m.by m.by refl)) ∙ none m.by apart in
          let size = ap (λ (ms : List (Made B)). length ms) own in
          let less = fewer m.by more earlier in
          absurd (omega (arith, size, less))

  told_front : QueueMark → List (Made B) → List (Made B) → List Entry
  told_front mark [] earlier = []
  told_front mark (m ∷ more) earlier = told_entry mark (told mark (more ++ earlier)) m ∷ told_front mark more earlier

  told_more : (mark : QueueMark) (more earlier : List (Made B)) → told mark (more ++ earlier) ≡ told_front mark more earlier ++ told mark earlier
  unfolding told told_front
  told_more mark [] earlier = refl
  told_more mark (m ∷ more) earlier = ap (λ (rest : List Entry). told_entry mark (told mark (more ++ earlier)) m ∷ rest) (told_more mark more earlier)

  front_by : (mark : QueueMark) (number : ℕ) (more earlier : List (Made B)) → All (λ (m : Made B). m.by ≡ number) more → All (λ (e : Entry). e.caller.0 ≡ number) (told_front mark more earlier)
  unfolding told_front
  front_by mark number [] earlier all = All-nil (λ (e : Entry). e.caller.0 ≡ number)
  front_by mark number (m ∷ more) earlier all =
      All-cons (λ (e : Entry). e.caller.0 ≡ number) (told_entry mark (told mark (more ++ earlier)) m) (told_front mark more earlier) (All-head (λ (m : Made B). m.by ≡ number) m more all)
      (front_by mark number more earlier (All-tail (λ (m : Made B). m.by ≡ number) m more all))

-- what arrived is all of one sender, where the others sent nothing
all_sent : (number : ℕ) (xs : List (Arrival ReadLeaseOf)) → ((other : ℕ) → other ≢ number → list_any (is_sent_by other) xs ≡ false) → All (λ (a : Arrival ReadLeaseOf). a.actor.0 ≡ number) xs
all_sent number [] none = All-nil (λ (a : Arrival ReadLeaseOf). a.actor.0 ≡ number)
all_sent number (a ∷ xs) none = by_sender (cases_eq a.actor.0 number) (all_sent number xs (λ other apart. (or_parts (is_sent_by other a) (list_any (is_sent_by other) xs) (none other apart)).1))
  where
    by_sender : (a.actor.0 ≡ number) ⊎ (a.actor.0 ≡ number → ⊥) → All (λ (a : Arrival ReadLeaseOf). a.actor.0 ≡ number) xs → All (λ (a : Arrival ReadLeaseOf). a.actor.0 ≡ number) (a ∷ xs)
    by_sender (inl same) rest = All-cons (λ (a : Arrival ReadLeaseOf). a.actor.0 ≡ number) a xs same rest
    by_sender (inr apart) rest =
        absurd (true≢false (sym (eq-eqb a.actor.0 a.actor.0 refl) ∙ (or_parts (is_sent_by a.actor.0 a) (list_any (is_sent_by a.actor.0) xs) (none a.actor.0 apart)).0))

-- arrivals as their sender's steps told them
abbrev told_sent : Bool → List (Arrival ReadLeaseOf) → List SentStep
told_sent tells xs = map sent_as (map plain_arrival (arrivals_told tells xs))

told_append : (tells : Bool) (xs ys : List (Arrival ReadLeaseOf)) → told_sent tells (xs ++ ys) ≡ told_sent tells xs ++ told_sent tells ys
told_append true [] ys = refl
told_append true (x ∷ xs) ys = ap (λ (rest : List SentStep). sent_as (plain_arrival x) ∷ rest) (told_append true xs ys)
told_append false [] ys = refl
told_append false (x ∷ xs) ys = ap (λ (rest : List SentStep). sent_as (plain_arrival (record x { number = 0 })) ∷ rest) (told_append false xs ys)

-- all that a step sends is of this step
sent_there : (place : ℕ) (answer : Answered) (txn : Option (Contents FrameOf)) → All (λ (s : SentStep). s.step ≡ place) (sent_with place answer txn)
sent_there place (answered.Own status) txn = All-nil (λ (s : SentStep). s.step ≡ place)
sent_there place (answered.Called reply) txn = All-nil (λ (s : SentStep). s.step ≡ place)
sent_there place (answered.Sent n) None = All-nil (λ (s : SentStep). s.step ≡ place)
sent_there place (answered.Sent n) (Some txn) = All-cons (λ (s : SentStep). s.step ≡ place) (record { step = place; number = n; txn = txn }) [] refl (All-nil (λ (s : SentStep). s.step ≡ place))

-- arrivals of one step of one sender
abbrev IsSentIn : ℕ → ℕ → Arrival FrameOf → Type 0
IsSentIn by place a = (a.actor.0 ≡ by) × (a.step ≡ place)

sent_back : (tells : Bool) (by place : ℕ) (xs : List (Arrival ReadLeaseOf)) → All (λ (s : SentStep). s.step ≡ place) (told_sent tells xs) → All (λ (a : Arrival ReadLeaseOf). a.actor.0 ≡ by) xs
    → All (IsSentIn by place) (map plain_arrival xs)
sent_back tells by place [] steps own = All-nil (IsSentIn by place)
sent_back true by place (x ∷ xs) steps own =
    All-cons (IsSentIn by place) (plain_arrival x) (map plain_arrival xs)
    (All-head (λ (a : Arrival ReadLeaseOf). a.actor.0 ≡ by) x xs own, All-head (λ (s : SentStep). s.step ≡ place) (sent_as (plain_arrival x)) (told_sent true xs) steps)
    (sent_back true by place xs (All-tail (λ (s : SentStep). s.step ≡ place) (sent_as (plain_arrival x)) (told_sent true xs) steps) (All-tail (λ (a : Arrival ReadLeaseOf). a.actor.0 ≡ by) x xs own))
sent_back false by place (x ∷ xs) steps own =
    All-cons (IsSentIn by place) (plain_arrival x) (map plain_arrival xs)
    (All-head (λ (a : Arrival ReadLeaseOf). a.actor.0 ≡ by) x xs own, All-head (λ (s : SentStep). s.step ≡ place) (sent_as (plain_arrival (record x { number = 0 }))) (told_sent false xs) steps)
    (sent_back false by place xs (All-tail (λ (s : SentStep). s.step ≡ place) (sent_as (plain_arrival (record x { number = 0 }))) (told_sent false xs) steps) (All-tail (λ (a : Arrival ReadLeaseOf). a.actor.0 ≡ by) x xs own))

module _ {B : Type 0} (pictures : ℕ → Picture) (home : DeskHome) (before after : DeskView B) (old new : ActorOf B) (reply : Reply) (exact : home.is_exact ≡ true)
    (does : DoesStep pictures home old before new after reply) (was : Keeps pictures home old before) (is : Keeps pictures home new after) where
  abbrev number : ℕ
  number = old.script.number

  abbrev place : ℕ
  place = length old.trace + 1

  another : number + 1 ≢ number
  another e = omega (arith, e)

  abbrev goes : GoesOn (number + 1) (known_of home before) (known_of home after)
  goes = does.alone exact (number + 1) another

  same_number : new.script.number ≡ number
  same_number = ap (λ (of : ActorOf B). of.script.number) does.same

  calls_more : (queue : ℕ) → CallsMore number (told_on home before queue) (told_on home after queue)
  calls_more queue =
      let mark = mark_among home.marks queue in
      let begins = (goes.calls queue).begins in
      let by_others = λ (other : ℕ) (apart : other ≢ number).
      subst (λ (ms : List (Made B)). calls_by other ms ≡ calls_by other (before.calls queue)) begins.1 ((does.alone exact other apart).calls queue).calls in
      record {
        more = told_front mark begins.0 (before.calls queue);
        joined = ap (told mark) begins.1 ∙ told_more mark begins.0 (before.calls queue);
        own = front_by mark number begins.0 (before.calls queue) (all_by number begins.0 (before.calls queue) by_others);
      }

  made_was : (queue : ℕ) → AllZip IsMade (made_on queue (made_by pictures old.trace)) (calls_of number (told_on home before queue))
  made_was queue = subst (λ (es : List Entry). AllZip IsMade (made_on queue (made_by pictures old.trace)) es) (sym (own_told number (mark_among home.marks queue) (before.calls queue))) (was.kept.kept.is.made queue)

  made_is : (queue : ℕ) → AllZip IsMade (made_on queue (made_by pictures (old.trace ++ does.done ∷ []))) (calls_of number (told_on home after queue))
  made_is queue =
      subst (λ (trace : List Done). AllZip IsMade (made_on queue (made_by pictures trace)) (calls_of number (told_on home after queue))) does.trace
      (subst (λ (n : ℕ). AllZip IsMade (made_on queue (made_by pictures new.trace)) (calls_of n (told_on home after queue))) same_number
      (subst (λ (es : List Entry). AllZip IsMade (made_on queue (made_by pictures new.trace)) es) (sym (own_told new.script.number (mark_among home.marks queue) (after.calls queue))) (is.kept.kept.is.made queue)))

  -- what arrived since
  abbrev since : List (Arrival ReadLeaseOf)
  since = goes.arrivals.later

  none_of_others : (other : ℕ) → other ≢ number → list_any (is_sent_by other) since ≡ false
  none_of_others other apart =
      let theirs = (does.alone exact other apart).arrivals in
      let same = append_cancel_left before.arrivals goes.arrivals.later theirs.later (sym goes.arrivals.joined ∙ theirs.joined) in
      ap (list_any (is_sent_by other)) same ∙ theirs.none

  all_own : All (λ (a : Arrival ReadLeaseOf). a.actor.0 ≡ number) since
  all_own = all_sent number since none_of_others

  own_since : filter (is_sent_by number) since ≡ since
  own_since = kept_whole (is_sent_by number) since (All-weaker (λ (a : Arrival ReadLeaseOf). a.actor.0 ≡ number) (λ (a : Arrival ReadLeaseOf). is_sent_by number a ≡ true) (λ a own. eq-eqb a.actor.0 number own) since all_own)

  sent_is : told_sent home.tells since ≡ sent_at (at_end old.trace does.done)
  sent_is =
      append_cancel_left (sends_of old.trace) (told_sent home.tells since) (sent_at (at_end old.trace does.done))
      (ap (λ (xs : List SentStep). xs ++ told_sent home.tells since) (sym was.kept.kept.is.sent)
      ∙ (sym (told_append home.tells (filter (is_sent_by number) before.arrivals) since)
      ∙ (ap (λ (xs : List (Arrival ReadLeaseOf)). told_sent home.tells (filter (is_sent_by number) before.arrivals ++ xs)) (sym own_since)
      ∙ (ap (told_sent home.tells) (sym (filter-append (is_sent_by number) before.arrivals since))
      ∙ (ap (λ (xs : List (Arrival ReadLeaseOf)). told_sent home.tells (filter (is_sent_by number) xs)) (sym goes.arrivals.joined)
      ∙ (ap (λ (n : ℕ). told_sent home.tells (filter (is_sent_by n) after.arrivals)) (sym same_number)
      ∙ (is.kept.kept.is.sent ∙ ap sends_of does.trace ∙ each_with sent_at old.trace does.done)))))))

  sent_here : All (IsSentIn number place) (map plain_arrival since)
  sent_here = sent_back home.tells number place since (subst (All (λ (s : SentStep). s.step ≡ place)) (sym sent_is) (sent_there place does.done.answered _)) all_own

  arrivals_are : arrivals_of before ++ map plain_arrival since ≡ arrivals_of after
  arrivals_are = sym (map-append plain_arrival before.arrivals since) ∙ ap (map plain_arrival) (sym goes.arrivals.joined)

  pub done_in_order : (scene : SceneValue) (ofs now : List (ActorOf B)) (vsyncs : List VsyncRecords)
      → DoesMore number place (shown_of scene (run_of ofs home before) (arrivals_of before) vsyncs) (shown_of scene (run_of now home after) (arrivals_of after) vsyncs)
  done_in_order scene ofs now vsyncs =
      subst (λ (arrivals : List (Arrival FrameOf)). DoesMore number place (shown_of scene (run_of ofs home before) (arrivals_of before) vsyncs) (shown_of scene (run_of now home after) arrivals vsyncs)) arrivals_are
      (does_more scene number place (run_of ofs home before) (run_of now home after) (arrivals_of before) (map plain_arrival since) vsyncs
      (adds_calls pictures number old.trace does.done (run_of ofs home before) (run_of now home after) calls_more made_was made_is) sent_here)

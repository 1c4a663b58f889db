-- Calls of one step of one caller, one after another, over a desk that knows all.
use Rattle.std.proofs.Common.{◌≡◌, ℕ, ◌+◌, ◌≤◌, ◌==◌, Bool, true, false, List, [], ◌∷◌, ◌++◌, length, refl, ap, sym, ◌∙◌, subst, inl, inr, arith}
use Rattle.std.specs.Prelude.{if◌then◌else◌}
use Rattle.std.specs.List.{All}
use Rattle.std.proofs.lemmas.Bool.{cases_eq, eq-eqb, ne_eqb}
use Rattle.std.proofs.lemmas.List.{append_assoc, length-append}
use Rattle.std.proofs.lemmas.List.Elements.{All-append, All-cons, All-nil}
use Rattle.law_rounds.proofs.StepInOrder.{AddsCalls, IsOf}
use Rattle.sf_play.specs.sf_actor.Desks.{DeskHome, DeskView, MadeCall, mark_among}
use Rattle.sf_play.specs.sf_actor.Makers.{Run}
use Rattle.sf_play.specs.sf_actor.Tries.{ActorOf}
use Rattle.sf_play.specs.sf_actor.sf_slots.declared.calls.Entry.{Entry}
use Rattle.sf_play.specs.sf_actor.sf_surface.Histories.{Made, told, told_entry}
use Rattle.sf_play.specs.sf_actor.sf_surface.declared.call.QCall.{QCall}
use Rattle.sf_play.specs.sf_actor.sf_surface.declared.call.QReply.{QReply}
use Rattle.sf_play.specs.sf_play_report.sf_calls.Histories.{entry}
use Rattle.sf_play.specs.law_played.Actors.{run_of, told_on}

-- no call
pub adds_none : (by place : ℕ) (before after : Run) → ((queue : ℕ) → after.calls queue ≡ before.calls queue) → AddsCalls by place before after
adds_none by place before after same = record {
  more = λ queue. [];
  joined = same;
  of_it = λ queue. All-nil (IsOf by place);
  most = 0;
  few = λ queue. omega arith;
}

-- some calls and then some more
pub adds_both : (by place : ℕ) (before mid after : Run) → AddsCalls by place before mid → AddsCalls by place mid after → AddsCalls by place before after
adds_both by place before mid after one two = record {
  more = λ queue. two.more queue ++ one.more queue;
  joined = λ queue. two.joined queue ∙ ap (λ (es : List Entry). two.more queue ++ es) (one.joined queue) ∙ sym (append_assoc (two.more queue) (one.more queue) (before.calls queue));
  of_it = λ queue. All-append (IsOf by place) (two.more queue) (one.more queue) (two.of_it queue) (one.of_it queue);
  most = two.most + one.most;
  few = λ queue.
      let long = length-append (two.more queue) (one.more queue) in
      let few_then = two.few queue in
      let few = one.few queue in
      omega (arith, long, few_then, few);
}

-- one call
module _ {B : Type 0} (home : DeskHome) (old new : DeskView B) (by queue place : ℕ) (call : QCall B) (reply : QReply B) (exact : home.is_exact ≡ true) (made : MadeCall home old new by queue (place, call) reply)
    (ofs now : List (ActorOf B)) where
  told_last : Entry
  told_last = told_entry (mark_among home.marks queue) (told_on home old queue) (entry by (place, call) reply)

  here : told_on home new queue ≡ told_last ∷ told_on home old queue
  unfolding told_last told
  here = ap (told (mark_among home.marks queue)) (made.newest ∙ ap (λ (earlier : List (Made B)). entry by (place, call) reply ∷ earlier) (made.alone exact))

  more_on : ℕ → List Entry
  more_on other = if other == queue then told_last ∷ [] else []

  joined_on : (other : ℕ) → told_on home new other ≡ more_on other ++ told_on home old other
  unfolding more_on
  joined_on other = elim (cases_eq other queue) [
    | inl same ↦ rw (eq-eqb other queue same) (subst (λ (q : ℕ). told_on home new q ≡ told_last ∷ told_on home old q) (sym same) here)
    | inr apart ↦ rw (ne_eqb other queue apart) (ap (told (mark_among home.marks other)) (made.changes.others other apart))
  ]

  of_it_on : (other : ℕ) → All (λ (e : Entry). (e.caller.0 ≡ by) × (e.step ≡ place)) (more_on other)
  unfolding more_on told_last
  of_it_on other = by_queue (other == queue)
    where
      by_queue : (b : Bool) → All (λ (e : Entry). (e.caller.0 ≡ by) × (e.step ≡ place)) (if b then told_last ∷ [] else [])
      by_queue true = All-cons (λ (e : Entry). (e.caller.0 ≡ by) × (e.step ≡ place)) told_last [] (refl, refl) (All-nil (λ (e : Entry). (e.caller.0 ≡ by) × (e.step ≡ place)))
      by_queue false = All-nil (λ (e : Entry). (e.caller.0 ≡ by) × (e.step ≡ place))

  few_on : (other : ℕ) → length (more_on other) ≤ 1
  unfolding more_on
  few_on other = by_queue (other == queue)
    where
      by_queue : (b : Bool) → length (if b then told_last ∷ [] else []) ≤ 1
      by_queue true = omega arith
      by_queue false = omega arith

  pub adds_one : AddsCalls by place (run_of ofs home old) (run_of now home new)
  adds_one = record { more = more_on; joined = joined_on; of_it = of_it_on; most = 1; few = few_on }

-- A buffer that was made was made with a permit of the stock of the actor that called.
use Rattle.std.proofs.Common.{◌≡◌, ℕ, zero, suc, ◌+◌, ◌≤◌, ◌==◌, ◌⊎◌, true, List, [], ◌∷◌, ◌++◌, arith, ap, ◌∙◌, sym, refl, inl, inr, subst, Option, Some, None}
use Rattle.std.specs.Prelude.{Contains, if◌then◌else◌, slice_get}
use Rattle.std.specs.List.{flat_map}
use Rattle.std.proofs.lemmas.Bool.{cases_eq, eq-eqb, eqb-true, false≢true}
use Rattle.std.proofs.lemmas.List.Elements.{All-contains, Contains-append_cases, Contains-append_left, Contains-append_right}
use Rattle.sf_actor_set.specs.sf_calls.Histories.{IsLegal}
use Rattle.sf_actor_set.specs.sf_commit.Handlers.{HandlerOf}
use Rattle.sf_actor_set.specs.sf_picture.declared.picture.Picture.{Picture}
use Rattle.sf_slots.specs.declared.calls.PlainReply.{PlainReply}
use Rattle.sf_slots.specs.declared.calls.PlainReply.TheVariants as plain
use Rattle.sf_actor_set.specs.sf_surface.declared.call.QCall.{QCall}
use Rattle.sf_actor_set.specs.sf_surface.declared.call.QCall.TheVariants as call
use Rattle.sf_actor_set.specs.sf_surface.declared.call.QReply.{QReply}
use Rattle.sf_actor_set.specs.sf_surface.declared.mark.QueueMark.{QueueMark}
use Rattle.sf_actor_set.specs.sf_surface.Hands.{IsReply, permit_of}
use Rattle.sf_actor_set.specs.sf_surface.Histories.{Answers, Made, told_reply}
use Rattle.sf_actor_set.specs.sf_surface.Reading.{has_left}
use Rattle.sf_actor_set.specs.sf_surface.Tokens.{ReadLeaseOf}
use Rattle.sf_actor_set.specs.sf_turns.Counts.{IsExact, stock_at}
use Rattle.sf_actor_set.specs.sf_turns.Views.{PermitView}
use Rattle.sf_actor_set.specs.sf_actor.Desks.{DeskHome, DeskView, known_of, mark_among}
use Rattle.sf_actor_set.specs.sf_actor.Known.{Call, call_after, frame_of, own_calls, share_of}
use Rattle.sf_actor_set.specs.sf_actor.Rights.{MadeWith, Turn, made_with, turn_by}
use Rattle.sf_actor_set.specs.sf_actor.Tries.{ActorOf, Keeps}
use Rattle.law_played.specs.Actors.{IsCallBy, IsRelease, number_of}
use Rattle.law_played.proofs.Members.{has_joined, map_has}
use Rattle.law_rights.specs.Actors.{AreOver}
use Rattle.law_rights.specs.Calls.{buffers_in, made_of}
use Rattle.law_rights.specs.Loads.{WasAcquired, is_written}
use Rattle.law_rights.specs.Standing.{LedgerStands, state_of, stock_of}
use Rattle.law_rights.specs.States.{all_buffers, all_written, ledger_of}
use Rattle.law_rights.proofs.TurnCounts.{first, in_front, later, none_in, the_only}
use Rattle.law_rights.proofs.LookResults.{look_tells}
use Rattle.law_rights.proofs.QueueCounts.{in_some, mark_only}
use Rattle.law_rights.proofs.AcquiredRights.{acquired_queued}

in_stock : (number : ℕ) (stock : List ℕ) → Contains stock number → 1 ≤ stock_at number stock
in_stock number [] there = absurd (none_in number there)
in_stock number (x ∷ stock) there = by_place (in_front x number stock there) (in_stock number stock)
  where
    by_place : (x ≡ number) ⊎ Contains stock number → (Contains stock number → 1 ≤ stock_at number stock) → 1 ≤ stock_at number (x ∷ stock)
    by_place (inl it) further = rw (eq-eqb number x (sym it)) omega arith
    by_place (inr rest) further = let more = further rest in omega (arith, more)

stock_append : (number : ℕ) (xs ys : List ℕ) → stock_at number (xs ++ ys) ≡ stock_at number xs + stock_at number ys
stock_append number [] ys = omega arith
stock_append number (x ∷ xs) ys = let rest = stock_append number xs ys in omega (arith, rest)

the_permit : (permit spare : Option PermitView) (number : ℕ) → made_with permit spare number ≡ true → (one : PermitView) × (permit ≡ Some one) × (one.buffer ≡ number)
the_permit (Some permit) None number met = (permit, refl, eqb-true permit.buffer number met)
the_permit (Some permit) (Some spare) number met = absurd (false≢true met)
the_permit None spare number met = absurd (false≢true met)

module _ {B : Type 0} where
  -- a call that made a buffer brought its permit, and gave none back
  told_made : (mark : QueueMark) (asked : QCall B) (given : PlainReply) (reply : QReply B) (number : ℕ) → IsReply mark.queue asked given reply → Contains (made_of asked given) number → made_with (permit_of asked) reply.spare number ≡ true
  told_made mark (call.Dequeue width height wait permit) (plain.Dequeued slot held requested true fence) reply number is there =
      let none : reply.spare ≡ None = ap (λ (r : QReply B). r.spare) is in
      subst (λ (spare : Option PermitView). made_with (Some permit) spare number ≡ true) (sym none) (eq-eqb permit.buffer number (the_only permit.buffer number there))
  told_made mark asked given reply number is there = absurd (none_in number there)

  made_there : (mark : QueueMark) (calls : List (Made B)) (number : ℕ) → IsLegal (Answers mark) calls → Contains (buffers_in mark calls) number
      → (made : Made B) × Contains calls made × (made_with (permit_of made.call.1) made.reply.spare number ≡ true)
  made_there mark [] number legal there = absurd (none_in number there)
  made_there mark (made ∷ earlier) number legal there =
      by_place (Contains-append_cases (made_of made.call.1 (told_reply mark earlier made.by made.call.1)) (buffers_in mark earlier) number there) (made_there mark earlier number legal.1)
    where
      by_place : Contains (made_of made.call.1 (told_reply mark earlier made.by made.call.1)) number ⊎ Contains (buffers_in mark earlier) number
          → (Contains (buffers_in mark earlier) number → (other : Made B) × Contains earlier other × (made_with (permit_of other.call.1) other.reply.spare number ≡ true))
          → (other : Made B) × Contains (made ∷ earlier) other × (made_with (permit_of other.call.1) other.reply.spare number ≡ true)
      by_place (inl here) further = (made, first made earlier, told_made mark made.call.1 (told_reply mark earlier made.by made.call.1) made.reply number legal.0.answer here)
      by_place (inr rest) further = let found = further rest in (found.0, later made found.0 earlier found.1, found.2)

  own_there : (actor : ℕ) (mark : QueueMark) (calls : List (Made B)) (made : Made B) → made.by ≡ actor → Contains calls made → (one : Call B) × Contains (own_calls actor mark calls) one × (one.made ≡ made)
  own_there actor mark [] made by there = absurd (none_in made there)
  own_there actor mark (m ∷ earlier) made by there = by_place (in_front m made earlier there) (own_there actor mark earlier made by)
    where
      by_place : (m ≡ made) ⊎ Contains earlier made → (Contains earlier made → (one : Call B) × Contains (own_calls actor mark earlier) one × (one.made ≡ made))
          → (one : Call B) × Contains (own_calls actor mark (m ∷ earlier)) one × (one.made ≡ made)
      by_place (inl it) further =
          let met : (m.by == actor) ≡ true = eq-eqb m.by actor (ap (λ (x : Made B). x.by) it ∙ by) in
          rw met (call_after mark earlier m, Contains-append_right (own_calls actor mark earlier) (call_after mark earlier m ∷ []) (call_after mark earlier m) (first (call_after mark earlier m) []), it)
      by_place (inr rest) further =
          let found = further rest in (found.0, Contains-append_left (own_calls actor mark earlier) (if m.by == actor then call_after mark earlier m ∷ [] else []) found.0 found.1, found.2)

  no_release : (asked : QCall B) (spare : Option PermitView) (number : ℕ) → IsRelease asked → made_with (permit_of asked) spare number ≡ true → ⊥
  no_release (call.Release lease fence) spare number is made = false≢true made
  no_release asked spare number is made = is

  get_has : (ofs : List (ActorOf B)) (place : ℕ) (of : ActorOf B) → slice_get ofs place ≡ Some of → Contains ofs of
  get_has [] place of here = absurd (cc here)
  get_has (o ∷ ofs) zero of here = let same : o ≡ of = cc here in subst (λ (x : ActorOf B). Contains (o ∷ ofs) x) same (first o ofs)
  get_has (o ∷ ofs) (suc place) of here = later o of ofs (get_has ofs place of here)

  -- two actors have a number each: it is in the stocks twice
  two_stocks : (number : ℕ) (ofs : List (ActorOf B)) (place : ℕ) (was other : ActorOf B) → slice_get ofs place ≡ Some was → Contains ofs other → (other.script.number ≡ was.script.number → ⊥)
      → Contains was.stock number → Contains other.stock number → 2 ≤ stock_at number (flat_map stock_of ofs)
  two_stocks number [] place was other here there apart a b = absurd (none_in other there)
  two_stocks number (o ∷ ofs) place was other here there apart a b = by_place place here (in_front o other ofs there) (two_stocks number ofs)
    where
      joined : stock_at number (flat_map stock_of (o ∷ ofs)) ≡ stock_at number o.stock + stock_at number (flat_map stock_of ofs)
      joined = stock_append number o.stock (flat_map stock_of ofs)

      by_place : (place : ℕ) → slice_get (o ∷ ofs) place ≡ Some was → (o ≡ other) ⊎ Contains ofs other
          → ((place : ℕ) (was other : ActorOf B) → slice_get ofs place ≡ Some was → Contains ofs other → (other.script.number ≡ was.script.number → ⊥) → Contains was.stock number → Contains other.stock number → 2 ≤ stock_at number (flat_map stock_of ofs))
          → 2 ≤ stock_at number (flat_map stock_of (o ∷ ofs))
      by_place zero here (inl it) further = let same : o ≡ was = cc here in absurd (apart (ap (λ (x : ActorOf B). x.script.number) (sym it ∙ same)))
      by_place zero here (inr rest) further =
          let same : o ≡ was = cc here in
          let one = in_stock number o.stock (subst (λ (x : ActorOf B). Contains x.stock number) (sym same) a) in
          let two = in_stock number (flat_map stock_of ofs) (has_joined stock_of ofs other number rest b) in
          omega (arith, joined, one, two)
      by_place (suc place) here (inl it) further =
          let one = in_stock number o.stock (subst (λ (x : ActorOf B). Contains x.stock number) (sym it) b) in
          let two = in_stock number (flat_map stock_of ofs) (has_joined stock_of ofs was number (get_has ofs place was here) a) in
          omega (arith, joined, one, two)
      by_place (suc place) here (inr rest) further = let more = further place was other here rest apart a b in omega (arith, joined, more)

-- an actor made a buffer with a permit of its stock
pub record MadeBy {B : Type 0} (home : DeskHome) (view : DeskView B) (ofs : List (ActorOf B)) (number : ℕ) : Type 0 where
  pub of : ActorOf B
  pub there : Contains ofs of
  pub queue : ℕ
  pub one : Call B
  pub own : Contains ((share_of of.script.number (known_of home view)).calls queue) one
  pub made : MadeWith number one
  pub stock : Contains of.stock number

module _ {B : Type 0} (pictures : ℕ → Picture) (home : DeskHome) (view : DeskView B) (ofs : List (ActorOf B)) (over : AreOver pictures home view ofs) where
  by_caller : (queue number : ℕ) (made : Made B) → Contains (view.calls queue) made → made_with (permit_of made.call.1) made.reply.spare number ≡ true → IsCallBy ofs made → MadeBy home view ofs number
  by_caller queue number made there met (inl release) = absurd (no_release made.call.1 made.reply.spare number release.1 met)
  by_caller queue number made there met (inr called) =
      let found = map_has number_of ofs made.by called in
      let of = found.0 in
      let own = own_there of.script.number (mark_among home.marks queue) (view.calls queue) made (sym found.2) there in
      let made_it : MadeWith number own.0 = subst (λ (m : Made B). made_with (permit_of m.call.1) m.reply.spare number ≡ true) (sym own.2) met in
      let permit = the_permit (permit_of own.0.made.call.1) own.0.made.reply.spare number made_it in
      let keeps = All-contains (λ (o : ActorOf B). Keeps pictures home o view) ofs of over.keep found.1 in
      record {
        of = of;
        there = found.1;
        queue = queue;
        one = own.0;
        own = own.1;
        made = made_it;
        stock = subst (λ (n : ℕ). Contains of.stock n) permit.2 (keeps.kept.kept.permits queue own.0 permit.0 own.1 permit.1);
      }

  pub made_by_stock : (number : ℕ) → Contains (all_buffers home.marks view.calls) number → MadeBy home view ofs number
  made_by_stock number there =
      let at = in_some (λ (m : QueueMark). buffers_in m (view.calls m.queue.0)) home.marks number there in
      let legal : IsLegal (Answers at.0) (view.calls at.0.queue.0) =
      subst (λ (m : QueueMark). IsLegal (Answers m) (view.calls at.0.queue.0)) (sym (mark_only home.marks at.0 over.apart at.1)) (over.legal at.0.queue.0) in
      let found = made_there at.0 (view.calls at.0.queue.0) number legal at.2 in
      by_caller at.0.queue.0 number found.0 found.1 found.2 (All-contains (IsCallBy ofs) (view.calls at.0.queue.0) found.0 (over.callers at.0.queue.0) found.1)

  -- all buffers that were made are of the stocks
  pub made_in_stocks : (number : ℕ) → Contains (all_buffers home.marks view.calls) number → Contains (flat_map stock_of ofs) number
  made_in_stocks number there = let found = made_by_stock number there in has_joined stock_of ofs found.of number found.there found.stock

  -- the permits that an actor has left made nothing
  pub permits_unmade : (place number : ℕ) (was : ActorOf B) → slice_get ofs place ≡ Some was → ((n : ℕ) → stock_at n (flat_map stock_of ofs) ≤ 1) → Contains was.parts.stock number → Contains (all_buffers home.marks view.calls) number → ⊥
  permits_unmade place number was here once permit there =
      by_number (cases_eq found.of.script.number was.script.number)
    where
      found : MadeBy home view ofs number
      found = made_by_stock number there

      keeps : Keeps pictures home was view
      keeps = All-contains (λ (o : ActorOf B). Keeps pictures home o view) ofs was over.keep (get_has ofs place was here)

      by_number : (found.of.script.number ≡ was.script.number) ⊎ (found.of.script.number ≡ was.script.number → ⊥) → ⊥
      by_number (inl it) = keeps.kept.permits.unused number found.queue found.one permit (subst (λ (n : ℕ). Contains ((share_of n (known_of home view)).calls found.queue) found.one) it found.own) found.made
      by_number (inr apart) =
          let two = two_stocks number ofs place was found.of here found.there apart (keeps.kept.permits.own number permit) found.stock in
          let one = once number in
          omega (arith, two, one)

module _ {B : Type 0} where
  -- a look at an acquired frame tells whether it was written
  pub stands_look : (pictures : ℕ → Picture) (buffers : ℕ) (home : DeskHome) (view : DeskView B) (ofs : List (ActorOf B)) (handler : HandlerOf ReadLeaseOf) → LedgerStands buffers home view ofs handler → AreOver pictures home view ofs
      → IsExact buffers view.turns.leaves view.turns.seen → (lease : ReadLeaseOf) → WasAcquired home.marks view.calls lease
      → has_left view.turns.leaves (turn_by lease.turn) ≡ is_written (all_written (state_of home view ofs handler)) (frame_of lease)
  stands_look pictures buffers home view ofs handler stands over exact lease was =
      let queued = acquired_queued (state_of home view ofs handler) lease was in
      let made : Contains (all_buffers home.marks view.calls) lease.turn.buffer =
      subst (λ (b : ℕ). Contains (all_buffers home.marks view.calls) b) (sym (ap (λ (t : Turn). t.0) queued.follows)) (stands.ledger.queued_made queued.write queued.queued) in
      look_tells buffers view.turns.seen (ledger_of (state_of home view ofs handler)) lease stands.ledger exact
      (stands.below lease.turn.buffer (made_in_stocks pictures home view ofs over lease.turn.buffer made)) queued

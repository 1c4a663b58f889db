-- A frame that was queued undrawn and is written was drawn later, by a step that paid what was owed.
use Rattle.std.proofs.Common.{◌≡◌, ℕ, ◌+◌, ◌⊎◌, List, [], ◌∷◌, arith, ap, ◌∙◌, sym, inl, inr, subst, map, Option, Some, None}
use Rattle.std.specs.Prelude.{All, Contains}
use Rattle.std.specs.List.{flat_map}
use Rattle.std.specs.List.Sorted.{IsStrictlyIncreasing}
use Rattle.std.proofs.lemmas.List.Elements.{All-contains}
use Rattle.sf_base.specs.declared.ids.QueueId.{QueueId}
use Rattle.sf_actor_set.specs.sf_picture.declared.picture.Picture.{Picture}
use Rattle.sf_actor_set.specs.sf_script_scene.declared.step.Step.{Step}
use Rattle.sf_actor_set.specs.sf_script_scene.declared.step.Step.TheVariants as step
use Rattle.sf_slots.specs.declared.calls.PlainReply.TheVariants as reply
use Rattle.sf_slots.specs.declared.calls.WriteToken.{WriteToken}
use Rattle.sf_actor_set.specs.sf_actor.declared.done.Answered.{Answered}
use Rattle.sf_actor_set.specs.sf_actor.declared.done.Answered.TheVariants as answered
use Rattle.sf_actor_set.specs.sf_actor.declared.done.Done.{Done}
use Rattle.sf_actor_set.specs.sf_actor.Desks.{DeskHome, DeskView}
use Rattle.sf_actor_set.specs.sf_actor.Names.{Holdings, Lent, Token, name_in}
use Rattle.sf_actor_set.specs.sf_actor.Traces.{DoneAt, Past, next, no_past, places_from, places_of}
use Rattle.sf_actor_set.specs.sf_actor.Tries.{ActorOf, Keeps}
use Rattle.sf_actor_set.specs.sf_actor.Written.{FrameNumber, drawn_frame, paid_at, paid_by, written_at, written_by, written_in}
use Rattle.law_played.specs.Actors.{number_of, trace_among}
use Rattle.law_played.proofs.RunTraces.{trace_here}
use Rattle.law_rights.specs.Queuing.{QueuesFrame, WasPaidFor}
use Rattle.law_rights.proofs.TurnCounts.{in_front, none_in, the_only}
use Rattle.law_rights.proofs.QueueCounts.{in_some}
use Rattle.law_rights.proofs.DrawOrder.{places_late}
use Rattle.law_rights.proofs.QueueSteps.{queued_by_one}

-- of a trace's steps one is at a place
pub same_place : (place : ℕ) (past : Past) (trace : List Done) (one other : DoneAt) → Contains (places_from place past trace) one → Contains (places_from place past trace) other → one.place ≡ other.place → one ≡ other
unfolding places_from
same_place place past [] one other here there same = absurd (none_in one here)
same_place place past (done ∷ trace) one other here there same =
    by_place (in_front (record { place = place; past = past; done = done }) one (places_from (place + 1) (next place past done) trace) here)
    (in_front (record { place = place; past = past; done = done }) other (places_from (place + 1) (next place past done) trace) there) (λ a b. same_place (place + 1) (next place past done) trace one other a b same)
  where
    by_place : (record { place = place; past = past; done = done } ≡ one) ⊎ Contains (places_from (place + 1) (next place past done) trace) one
        → (record { place = place; past = past; done = done } ≡ other) ⊎ Contains (places_from (place + 1) (next place past done) trace) other
        → (Contains (places_from (place + 1) (next place past done) trace) one → Contains (places_from (place + 1) (next place past done) trace) other → one ≡ other) → one ≡ other
    by_place (inl first) (inl second) further = sym first ∙ second
    by_place (inl first) (inr later) further =
        let a = ap (λ (at : DoneAt). at.place) first in
        let b = places_late (place + 1) (next place past done) trace other later in
        absurd (omega (arith, a, b, same))
    by_place (inr later) (inl second) further =
        let a = ap (λ (at : DoneAt). at.place) second in
        let b = places_late (place + 1) (next place past done) trace one later in
        absurd (omega (arith, a, b, same))
    by_place (inr first) (inr second) further = further first second

-- a queued frame whose lease was drawn
record WroteDrawn (holdings : Holdings) (done : Done) (queue : QueueId) (frame : ℕ) : Type 0 where
  name : ℕ
  picture : ℕ
  time : Option ℕ
  part : Option (ℕ × ℕ × ℕ × ℕ)
  points : List (ℕ × ℕ)
  is : done ≡ record { step = step.Queue name picture time part points; answered = answered.Called (reply.Queued frame) }
  token : WriteToken
  drawn : ℕ
  lent : name_in holdings name ≡ Some (Lent queue token (Some drawn))

record IsDrawn (token : Option Token) (given : ℕ) (queue : QueueId) (frame : ℕ) : Type 0 where
  same : given ≡ frame
  write : WriteToken
  drawn : ℕ
  lent : token ≡ Some (Lent queue write (Some drawn))

is_drawn : (token : Option Token) (given : ℕ) (queue : QueueId) (frame : ℕ) → Contains (drawn_frame token given) (queue, frame) → IsDrawn token given queue frame
is_drawn (Some (Lent of write (Some drawn))) given queue frame there =
    let same = the_only (of, given) (queue, frame) there in
    record { same = ap (λ (f : FrameNumber). f.1) same; write = write; drawn = drawn; lent = ap (λ (q : QueueId). Some (Lent q write (Some drawn))) (ap (λ (f : FrameNumber). f.0) same) }
is_drawn token given queue frame there = absurd (none_in (queue, frame) there)

wrote_or_paid : (holdings : Holdings) (s : Step) (answer : Answered) (queue : QueueId) (frame : ℕ) → Contains (written_by holdings s answer) (queue, frame)
    → WroteDrawn holdings (record { step = s; answered = answer }) queue frame ⊎ Contains (paid_by holdings s answer) (queue, frame)
wrote_or_paid holdings (step.Queue name picture time part points) (answered.Called (reply.Queued given)) queue frame there =
    let is = is_drawn (name_in holdings name) given queue frame there in
    inl (record {
      name = name;
      picture = picture;
      time = time;
      part = part;
      points = points;
      is = ap (λ (n : ℕ). record { step = step.Queue name picture time part points; answered = answered.Called (reply.Queued n) }) is.same;
      token = is.write;
      drawn = is.drawn;
      lent = is.lent;
    })
wrote_or_paid holdings (step.Draw name picture) (answered.Own status) queue frame there = inr there
wrote_or_paid holdings s answer queue frame there = absurd (none_in (queue, frame) there)

abbrev pub name_queued : Step → ℕ
name_queued (step.Queue name picture time part points) = name
name_queued other = 0

no_drawn : (queue : QueueId) (one two : WriteToken) (drawn : ℕ) → Some (Lent queue one None) ≡ Some (Lent queue two (Some drawn)) → ⊥
no_drawn queue one two drawn same = absurd (cc same)

module _ {B : Type 0} (pictures : ℕ → Picture) (home : DeskHome) (view : DeskView B) (ofs : List (ActorOf B)) where
  -- what wrote a frame that was queued undrawn drew what was owed to it
  pub wrote_paid : All (λ (o : ActorOf B). Keeps pictures home o view) ofs → IsStrictlyIncreasing (map number_of ofs) → (of : ActorOf B) → Contains ofs of → (queue : QueueId) (frame : ℕ) (at : DoneAt)
      → (queues : QueuesFrame of.trace queue frame at) → queues.drawn ≡ None → (by : ActorOf B) → Contains ofs by → (too : DoneAt) → Contains (places_of by.trace) too → Contains (written_at too) (queue, frame)
      → Contains (paid_at too) (queue, frame)
  wrote_paid keep apart of there queue frame at queues undrawn by among too done wrote = by_way (wrote_or_paid too.past.holdings too.done.step too.done.answered queue frame wrote)
    where
      kept : (o : ActorOf B) → Contains ofs o → Keeps pictures home o view
      kept o is = All-contains (λ (o : ActorOf B). Keeps pictures home o view) ofs o keep is

      by_way : WroteDrawn too.past.holdings (record { step = too.done.step; answered = too.done.answered }) queue frame ⊎ Contains (paid_at too) (queue, frame) → Contains (paid_at too) (queue, frame)
      by_way (inr paid) = paid
      by_way (inl drew) =
          let again : QueuesFrame by.trace queue frame too = record {
            there = done;
            name = drew.name;
            picture = drew.picture;
            time = drew.time;
            part = drew.part;
            points = drew.points;
            done = drew.is;
            token = drew.token;
            drawn = Some drew.drawn;
            lent = drew.lent;
          } in
          let same = queued_by_one pictures home view of by (kept of there) (kept by among) queue frame at too queues again in
          let traces : of.trace ≡ by.trace = sym (trace_here ofs of apart there) ∙ ap (trace_among ofs) same.0 ∙ trace_here ofs by apart among in
          let one : at ≡ too = same_place 1 no_past by.trace at too (subst (λ (t : List Done). Contains (places_of t) at) traces queues.there) done same.1 in
          let names : queues.name ≡ drew.name = ap (λ (d : Done). name_queued d.step) (sym queues.done ∙ ap (λ (a : DoneAt). a.done) one ∙ drew.is) in
          absurd (no_drawn queue queues.token drew.token drew.drawn
          (sym (queues.lent ∙ ap (λ (d : Option ℕ). Some (Lent queue queues.token d)) undrawn) ∙ ap (λ (a : DoneAt). name_in a.past.holdings queues.name) one ∙ ap (name_in too.past.holdings) names ∙ drew.lent))

  pub owed_was_paid : All (λ (o : ActorOf B). Keeps pictures home o view) ofs → IsStrictlyIncreasing (map number_of ofs)
      → (of : ActorOf B) → Contains ofs of → (queue : QueueId) (frame : ℕ) (at : DoneAt) → (queues : QueuesFrame of.trace queue frame at) → queues.drawn ≡ None
      → Contains (flat_map (λ (o : ActorOf B). written_in o.trace) ofs) (queue, frame) → WasPaidFor ofs (queue, frame)
  owed_was_paid keep apart of there queue frame at queues undrawn wrote =
      let by = in_some (λ (o : ActorOf B). written_in o.trace) ofs (queue, frame) wrote in
      let too = in_some written_at (places_of by.0.trace) (queue, frame) by.2 in
      record { of = by.0; there = by.1; at = too.0; done = too.1; paid = wrote_paid keep apart of there queue frame at queues undrawn by.0 by.1 too.0 too.1 too.2 }

-- What a call on one queue does to the rights in all queues, to the writes of frames and to the buffers that were made.
use Rattle.std.proofs.Common.{◌≡◌, ℕ, ◌+◌, ◌≤◌, true, false, List, [], ◌∷◌, ◌++◌, arith, ap, ◌∙◌, sym, refl, inl, inr, subst}
use Rattle.std.specs.Prelude.{Contains}
use Rattle.std.specs.List.{flat_map, sum_by}
use Rattle.std.proofs.lemmas.Bool.{cases_Bool, eqb-true, eq-eqb, false≢true}
use Rattle.std.proofs.lemmas.List.Elements.{Contains-append_cases, Contains-append_left, Contains-append_right}
use Rattle.std.proofs.lemmas.List.Sums.{sum_by-append}
use Rattle.sf_base.specs.declared.ids.QueueId.{QueueId}
use Rattle.sf_actor_set.specs.sf_calls.Histories.{entry}
use Rattle.sf_slots.specs.declared.calls.PlainReply.{PlainReply}
use Rattle.sf_slots.specs.declared.calls.PlainReply.TheVariants as plain
use Rattle.sf_actor_set.specs.sf_surface.declared.call.QCall.{QCall}
use Rattle.sf_actor_set.specs.sf_surface.declared.call.QCall.TheVariants as call
use Rattle.sf_actor_set.specs.sf_surface.declared.call.QReply.{QReply}
use Rattle.sf_actor_set.specs.sf_surface.declared.mark.QueueMark.{QueueMark}
use Rattle.sf_actor_set.specs.sf_surface.declared.work.Work.{Work}
use Rattle.sf_actor_set.specs.sf_surface.declared.work.Work.TheVariants as work
use Rattle.sf_actor_set.specs.sf_surface.Histories.{Made, told_reply}
use Rattle.sf_actor_set.specs.sf_actor.Desks.{mark_among}
use Rattle.law_rights.specs.Calls.{brought_rights, buffers_in, ending, given_rights, made_of, move_of, queueing, write_of, writes_in}
use Rattle.law_rights.specs.Ledgers.{Write}
use Rattle.law_rights.specs.Moves.{Gets, HasAtMost, given_by, made_by, queued_by, used_by}
use Rattle.law_rights.specs.Slots.{lying}
use Rattle.law_rights.specs.States.{CallsOnce, all_buffers, all_lying, all_writes, is_queue, move_on}
use Rattle.law_rights.proofs.CallBalance.{call_moves}
use Rattle.law_rights.proofs.QueueCounts.{in_all, in_some, mark_only, mark_there, marks_moved}
use Rattle.law_rights.proofs.ListSums.{sum-flat_map}

queueing_writes : (done : Work) (write : Write) → queued_by (queueing done write) ≡ write ∷ []
queueing_writes (work.Fresh turn) write = refl
queueing_writes (work.Drawn inside pixels) write = refl

ending_writes : (done : Work) → queued_by (ending done) ≡ []
ending_writes (work.Fresh turn) = refl
ending_writes (work.Drawn inside pixels) = refl

queueing_makes : (done : Work) (write : Write) → made_by (queueing done write) ≡ []
queueing_makes (work.Fresh turn) write = refl
queueing_makes (work.Drawn inside pixels) write = refl

ending_makes : (done : Work) → made_by (ending done) ≡ []
ending_makes (work.Fresh turn) = refl
ending_makes (work.Drawn inside pixels) = refl

module _ {B : Type 0} where
  pub move_writes : (queue : QueueId) (asked : QCall B) (answered : PlainReply) → queued_by (move_of queue asked answered) ≡ write_of queue asked answered
  move_writes queue (call.Queue lease picture time crop fence) (plain.Queued frame) = queueing_writes lease.work _
  move_writes queue (call.Dequeue wide high wait permit) (plain.Dequeued slot held requested true fence) = refl
  move_writes queue (call.Cancel lease fence) plain.Done = ending_writes lease.work
  move_writes queue (call.Detach lease) plain.Done = ending_writes lease.work
  move_writes queue asked answered = refl

  pub move_makes : (queue : QueueId) (asked : QCall B) (answered : PlainReply) → made_by (move_of queue asked answered) ≡ made_of asked answered
  move_makes queue (call.Queue lease picture time crop fence) (plain.Queued frame) = queueing_makes lease.work _
  move_makes queue (call.Dequeue wide high wait permit) (plain.Dequeued slot held requested true fence) = refl
  move_makes queue (call.Cancel lease fence) plain.Done = ending_makes lease.work
  move_makes queue (call.Detach lease) plain.Done = ending_makes lease.work
  move_makes queue asked answered = refl

module _ {B : Type 0} (marks : List QueueMark) (old new : ℕ → List (Made B)) (by queue step : ℕ) (asked : QCall B) (reply : QReply B) (once : CallsOnce marks old new by queue step asked reply) where
  abbrev mark : QueueMark
  mark = mark_among marks queue

  same_number : mark.queue.0 ≡ queue
  same_number = (mark_there marks queue once.there).1

  here : new mark.queue.0 ≡ entry by (step, asked) reply ∷ old mark.queue.0
  here = subst (λ (q : ℕ). new q ≡ entry by (step, asked) reply ∷ old q) (sym same_number) once.newest

  elsewhere : (m : QueueMark) → is_queue queue m ≡ false → new m.queue.0 ≡ old m.queue.0
  elsewhere m unmet = once.others m.queue.0 (λ e. false≢true (sym unmet ∙ eq-eqb m.queue.0 queue e))

  -- the rights in all queues
  pub rights_move : HasAtMost (all_lying marks old ++ brought_rights asked) (used_by (move_on marks old by queue asked)) (given_by (move_on marks old by queue asked)) (all_lying marks new ++ given_rights reply.gives)
  rights_move w =
      let moved = marks_moved now before queue (sum_by w (brought_rights asked) + sum_by w (given_by (move_on marks old by queue asked))) (sum_by w (given_rights reply.gives) + sum_by w (used_by (move_on marks old by queue asked)))
      marks once.apart once.there kept one in
      let a = sum-flat_map w (λ (m : QueueMark). lying m (new m.queue.0)) marks in
      let b = sum-flat_map w (λ (m : QueueMark). lying m (old m.queue.0)) marks in
      let p = sum_by-append w (all_lying marks new) (given_rights reply.gives) in
      let q = sum_by-append w (all_lying marks old) (brought_rights asked) in
      omega (arith, moved, a, b, p, q)
    where
      now : QueueMark → ℕ
      now m = sum_by w (lying m (new m.queue.0))

      before : QueueMark → ℕ
      before m = sum_by w (lying m (old m.queue.0))

      kept : (m : QueueMark) → is_queue queue m ≡ false → now m ≤ before m
      kept m unmet = subst (λ (calls : List (Made B)). sum_by w (lying m calls) ≤ sum_by w (lying m (old m.queue.0))) (sym (elsewhere m unmet)) (omega arith)

      one : now mark + (sum_by w (given_rights reply.gives) + sum_by w (used_by (move_on marks old by queue asked))) ≤ before mark + (sum_by w (brought_rights asked) + sum_by w (given_by (move_on marks old by queue asked)))
      one =
          let bound = call_moves mark (old queue) by step asked reply once.replied w in
          let c = sum_by-append w (lying mark (entry by (step, asked) reply ∷ old queue)) (given_rights reply.gives) in
          let d = sum_by-append w (lying mark (old queue)) (brought_rights asked) in
          let x = ap (λ (calls : List (Made B)). sum_by w (lying mark calls)) here in
          let y = ap (λ (q : ℕ). sum_by w (lying mark (entry by (step, asked) reply ∷ old q))) same_number in
          let z = ap (λ (q : ℕ). sum_by w (lying mark (old q))) same_number in
          omega (arith, bound, c, d, x, y, z)

  -- what each queue's calls tell of is that and what the new call adds
  gets_all : {A : Type 0} (told : QueueMark → List (Made B) → List A) (more : List A) → told mark (entry by (step, asked) reply ∷ old mark.queue.0) ≡ more ++ told mark (old mark.queue.0)
      → Gets (flat_map (λ (m : QueueMark). told m (old m.queue.0)) marks) more (flat_map (λ (m : QueueMark). told m (new m.queue.0)) marks)
  gets_all {A} told more adds = record { no_others = no_others; all = all }
    where
      f : QueueMark → List A
      f m = told m (new m.queue.0)

      g : QueueMark → List A
      g m = told m (old m.queue.0)

      now : told mark (new mark.queue.0) ≡ more ++ told mark (old mark.queue.0)
      now = ap (told mark) here ∙ adds

      at_mark : (m : QueueMark) → Contains marks m → is_queue queue m ≡ true → m ≡ mark
      at_mark m there met = mark_only marks m once.apart there ∙ ap (mark_among marks) (eqb-true m.queue.0 queue met)

      no_others : (x : A) → Contains (flat_map (λ (m : QueueMark). told m (new m.queue.0)) marks) x → Contains (more ++ flat_map (λ (m : QueueMark). told m (old m.queue.0)) marks) x
      no_others x there =
          let found = in_some (λ (m : QueueMark). told m (new m.queue.0)) marks x there in
          elim (cases_Bool (is_queue queue found.0)) [
            | inl met ↦
                let same = at_mark found.0 found.1 met in
                let in_mark : Contains (told mark (new mark.queue.0)) x = subst (λ (m : QueueMark). Contains (told m (new m.queue.0)) x) same found.2 in
                elim (Contains-append_cases more (told mark (old mark.queue.0)) x (subst (λ (xs : List A). Contains xs x) now in_mark)) [
                  | inl fresh ↦ Contains-append_left more (flat_map (λ (m : QueueMark). told m (old m.queue.0)) marks) x fresh
                  | inr was ↦ Contains-append_right more (flat_map (λ (m : QueueMark). told m (old m.queue.0)) marks) x (in_all (λ (m : QueueMark). told m (old m.queue.0)) marks mark x (mark_there marks queue once.there).0 was)
                ]
            | inr unmet ↦
                Contains-append_right more (flat_map (λ (m : QueueMark). told m (old m.queue.0)) marks) x
                (in_all (λ (m : QueueMark). told m (old m.queue.0)) marks found.0 x found.1 (subst (λ (calls : List (Made B)). Contains (told found.0 calls) x) (elsewhere found.0 unmet) found.2))
          ]

      all : (x : A) → Contains (more ++ flat_map (λ (m : QueueMark). told m (old m.queue.0)) marks) x → Contains (flat_map (λ (m : QueueMark). told m (new m.queue.0)) marks) x
      all x there = elim (Contains-append_cases more (flat_map (λ (m : QueueMark). told m (old m.queue.0)) marks) x there) [
        | inl fresh ↦
            in_all (λ (m : QueueMark). told m (new m.queue.0)) marks mark x (mark_there marks queue once.there).0
            (subst (λ (xs : List A). Contains xs x) (sym now) (Contains-append_left more (told mark (old mark.queue.0)) x fresh))
        | inr was ↦
            let found = in_some (λ (m : QueueMark). told m (old m.queue.0)) marks x was in
            elim (cases_Bool (is_queue queue found.0)) [
              | inl met ↦
                  let same = at_mark found.0 found.1 met in
                  in_all (λ (m : QueueMark). told m (new m.queue.0)) marks mark x (mark_there marks queue once.there).0
                  (subst (λ (xs : List A). Contains xs x) (sym now) (Contains-append_right more (told mark (old mark.queue.0)) x (subst (λ (m : QueueMark). Contains (told m (old m.queue.0)) x) same found.2)))
              | inr unmet ↦
                  in_all (λ (m : QueueMark). told m (new m.queue.0)) marks found.0 x found.1 (subst (λ (calls : List (Made B)). Contains (told found.0 calls) x) (sym (elsewhere found.0 unmet)) found.2)
            ]
      ]

  at_queue : {A : Type 0} (f : QCall B → PlainReply → List A) → f asked (told_reply mark (old mark.queue.0) by asked) ≡ f asked (told_reply mark (old queue) by asked)
  at_queue f = ap (λ (q : ℕ). f asked (told_reply mark (old q) by asked)) same_number

  pub writes_move : Gets (all_writes marks old) (queued_by (move_on marks old by queue asked)) (all_writes marks new)
  writes_move = gets_all writes_in (queued_by (move_on marks old by queue asked))
      (ap (λ (ws : List Write). ws ++ writes_in mark (old mark.queue.0)) (at_queue (write_of mark.queue) ∙ sym (move_writes mark.queue asked (told_reply mark (old queue) by asked))))

  pub buffers_move : Gets (all_buffers marks old) (made_by (move_on marks old by queue asked)) (all_buffers marks new)
  buffers_move = gets_all buffers_in (made_by (move_on marks old by queue asked))
      (ap (λ (bs : List ℕ). bs ++ buffers_in mark (old mark.queue.0)) (at_queue made_of ∙ sym (move_makes mark.queue asked (told_reply mark (old queue) by asked))))

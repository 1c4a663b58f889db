-- What an actor's releases of frames add, whose places in a transaction others took.
use Rattle.std.proofs.Common.{◌≡◌, ℕ, ◌==◌, inl, inr, true, suc, List, [], ◌∷◌, ◌++◌, arith, ap, ◌∙◌, sym, refl, subst, Some, None}
use Rattle.std.specs.Prelude.{Contains, map}
use Rattle.std.specs.List.{All, AllZip}
use Rattle.std.proofs.lemmas.Bool.{cases_Bool, eq-eqb}
use Rattle.std.proofs.lemmas.List.{append-nil}
use Rattle.std.proofs.lemmas.List.Elements.{Contains-append_cases}
use Rattle.sf_base.specs.Fences.{Fence, merged, no_points}
use Rattle.sf_base.specs.declared.ids.QueueId.{QueueId}
use Rattle.sf_surface.specs.sf_slots.declared.calls.PlainCall.TheVariants as plain_call
use Rattle.sf_surface.specs.sf_slots.declared.calls.PlainReply.{PlainReply}
use Rattle.sf_surface.specs.sf_slots.declared.calls.PlainReply.TheVariants as plain
use Rattle.sf_surface.specs.sf_slots.declared.calls.ReadToken.{ReadToken}
use Rattle.sf_surface.specs.declared.call.Gives.{Gives}
use Rattle.sf_surface.specs.declared.call.Gives.TheVariants as gives
use Rattle.sf_surface.specs.declared.call.QCall.{QCall}
use Rattle.sf_surface.specs.declared.call.QCall.TheVariants as call
use Rattle.sf_surface.specs.declared.call.QReply.{QReply}
use Rattle.sf_surface.specs.Calls.{read_token}
use Rattle.sf_surface.specs.Hands.{IsReply}
use Rattle.sf_surface.specs.Tokens.{ReadLeaseOf}
use Rattle.sf_actor.specs.Asking.{Asked, release_of}
use Rattle.sf_actor.specs.Desks.{DeskHome, DeskView, MadeCall, known_of, mark_among}
use Rattle.sf_actor.specs.Known.{AreAmong, Call, CountsRise, Rise, Share, frame_of, share_of, told_by}
use Rattle.sf_actor.specs.Rights.{Acquires, BringsGiven, Takes, WasAcquired, WasTaken, turn_by}
use Rattle.sf_actor.specs.ScriptTraces.{IsMade, made_on}
use Rattle.sf_actor.specs.Traces.{release_at}
use Rattle.sf_actor.proofs.CallShare.{OneMore, answer_told, joined, made_call, one_more, only, only_one}

-- the frame's token, as the queue is told of it
told_frame : (queue : QueueId) (lease : ReadLeaseOf) → queue ≡ lease.queue → read_token queue lease ≡ (frame_of lease).1
told_frame queue lease same = let met : (lease.queue.0 == lease.queue.0) ≡ true = eq-eqb lease.queue.0 lease.queue.0 refl in rw (same, met) refl

-- the queue of a frame is one of the desk
abbrev pub IsMarked : DeskHome → ReadLeaseOf → Type 0
IsMarked home lease = (mark_among home.marks lease.queue.0).queue ≡ lease.queue

module _ {B : Type 0} where
  -- frames are given back one after another, each with its own fence
  abbrev pub GivesBack : DeskHome → ℕ → ℕ → List ReadLeaseOf → DeskView B → DeskView B → Type 0
  GivesBack home by place [] old new = new ≡ old
  GivesBack home by place (lease ∷ later) old new =
      (reply : QReply B) × (next : DeskView B) × MadeCall home old next by lease.queue.0 (place, call.Release lease (merged no_points lease.fence)) reply × GivesBack home by place later next new

  -- a call that releases a frame ends no drawing
  abbrev pub IsRelease : Call B → Type 0
  IsRelease made = (lease : ReadLeaseOf) × (fence : Fence) × (made.made.call.1 ≡ call.Release lease fence) × (made.made.reply.ends ≡ None)

  -- a call of an actor gave this lease
  abbrev pub IsAcquired : (ℕ → List (Call B)) → ReadLeaseOf → Type 0
  IsAcquired calls lease = WasTaken calls lease

  takes_frame : (lease : ReadLeaseOf) (asked : QCall B) (given : Gives B) → Takes lease asked given → Acquires (frame_of lease) (Some (turn_by lease.turn)) asked given
  takes_frame lease (call.Acquire expected) (gives.Read other) is = rw is (refl, refl)
  takes_frame lease (call.Acquire expected) (gives.Write other) is = absurd is
  takes_frame lease (call.Acquire expected) (gives.Owes other) is = absurd is
  takes_frame lease (call.Acquire expected) (gives.Free other) is = absurd is
  takes_frame lease (call.Acquire expected) gives.Nothing is = absurd is
  takes_frame lease call.Connect given is = absurd is
  takes_frame lease call.Disconnect given is = absurd is
  takes_frame lease (call.MaxDequeued _) given is = absurd is
  takes_frame lease (call.Async _) given is = absurd is
  takes_frame lease (call.Dequeue _ _ _ _) given is = absurd is
  takes_frame lease (call.Request _) given is = absurd is
  takes_frame lease (call.Queue _ _ _ _ _) given is = absurd is
  takes_frame lease (call.Cancel _ _) given is = absurd is
  takes_frame lease (call.Detach _) given is = absurd is
  takes_frame lease (call.Attach _) given is = absurd is
  takes_frame lease (call.MaxAcquired _) given is = absurd is
  takes_frame lease call.Abandon given is = absurd is
  takes_frame lease (call.Release _ _) given is = absurd is
  takes_frame lease (call.DetachRead _) given is = absurd is
  takes_frame lease (call.AttachRead _) given is = absurd is

  -- the lease of a frame has its turn
  pub taken_acquired : (calls : ℕ → List (Call B)) (lease : ReadLeaseOf) → WasTaken calls lease → WasAcquired calls (frame_of lease) (Some (turn_by lease.turn))
  taken_acquired calls lease was = (was.0, was.1, takes_frame lease was.0.made.call.1 was.0.made.reply.gives was.2)

  -- what the releases add to the actor's share
  pub record GaveBack (place : ℕ) (leases : List ReadLeaseOf) (old new : Share B) : Type 0 where
    pub added : ℕ → List (Call B)
    pub calls : (queue : ℕ) → new.calls queue ≡ old.calls queue ++ added queue
    pub arrivals : new.arrivals ≡ old.arrivals
    pub values : Rise old.values new.values
    pub signals : AreAmong old.signals new.signals
    pub left : AreAmong old.left new.left
    pub counts : CountsRise old.counts new.counts
    pub made : (queue : ℕ) → AllZip IsMade (made_on queue (map (release_at place) (map frame_of leases))) (map told_by (added queue))
    pub tokens : (known : ℕ → List (Call B)) → All (IsAcquired known) leases → (queue : ℕ) → AllZip (BringsGiven known) (made_on queue (map (release_at place) (map frame_of leases))) (added queue)
    pub releases : (queue : ℕ) (made : Call B) → Contains (added queue) made → IsRelease made

  pub no_end : (queue : QueueId) (lease : ReadLeaseOf) (fence : Fence) (told : PlainReply) (reply : QReply B) → IsReply queue (call.Release lease fence) told reply → reply.ends ≡ None
  no_end queue lease fence (plain.Refused cause) reply is = ap (λ (r : QReply B). r.ends) is
  no_end queue lease fence plain.Done reply is = ap (λ (r : QReply B). r.ends) is
  no_end queue lease fence (plain.Dequeued slot held requested reallocated points) reply is = absurd is
  no_end queue lease fence (plain.Requested held) reply is = absurd is
  no_end queue lease fence (plain.Queued frame) reply is = absurd is
  no_end queue lease fence (plain.Attached slot held) reply is = absurd is
  no_end queue lease fence (plain.Acquired item dropped) reply is = absurd is

  assoc : (xs ys zs : List (Call B)) → (xs ++ ys) ++ zs ≡ xs ++ (ys ++ zs)
  assoc [] ys zs = refl
  assoc (x ∷ xs) ys zs = ap (λ (rest : List (Call B)). x ∷ rest) (assoc xs ys zs)

  gave_none : (place : ℕ) (share : Share B) → GaveBack place [] share share
  gave_none place share = record {
    added = λ queue. [];
    calls = λ queue. sym (append-nil (share.calls queue));
    arrivals = refl;
    values = λ t low high. omega arith;
    signals = λ p there. there;
    left = λ p there. there;
    counts = λ b. omega arith;
    made = λ queue. tt;
    tokens = λ known all queue. tt;
    releases = λ queue made there. absurd (omega (arith, there.1));
  }

  gave_one : (place : ℕ) (lease : ReadLeaseOf) (later : List ReadLeaseOf) (asked : Asked) (made : Call B) (old mid new : Share B) → asked ≡ release_of no_points (frame_of lease) → made.made.call.1 ≡ call.Release lease (merged no_points lease.fence) → made.made.reply.ends ≡ None → made.told.step ≡ place → made.told.call ≡ asked.1 → OneMore asked.0.0 made old mid → GaveBack place later mid new → GaveBack place (lease ∷ later) old new
  gave_one place lease later asked made old mid new is calls ends at told more rest =
      let fence = merged no_points lease.fence in
      let queue_is : asked.0.0 ≡ lease.queue.0 = ap (λ (a : Asked). a.0.0) is in
      record {
        added = λ queue. only asked made queue ++ rest.added queue;
        calls = λ queue.
            rest.calls queue
            ∙ ap (λ (xs : List (Call B)). xs ++ rest.added queue) (joined asked made old mid more queue)
            ∙ assoc (old.calls queue) (only asked made queue) (rest.added queue);
        arrivals = rest.arrivals ∙ more.arrivals;
        values = λ t low high. let a = more.values t low high in let b = rest.values t low high in omega (arith, a, b);
        signals = λ p there. rest.signals p (more.signals p there);
        left = λ p there. rest.left p (more.left p there);
        counts = λ b. let one = more.counts b in let two = rest.counts b in omega (arith, one, two);
        made = λ queue. elim (cases_Bool (lease.queue.0 == queue)) [
          | inl met ↦ rw (queue_is, met) (record { step = at; call = told ∙ ap (λ (a : Asked). a.1) is; reply = tt }, rest.made queue)
          | inr unmet ↦ rw (queue_is, unmet) (rest.made queue)
        ];
        tokens = λ known all queue.
            let acquired : WasAcquired known (frame_of lease) (Some (turn_by lease.turn)) = taken_acquired known lease (all 0 lease (omega arith)) in
            let others : All (IsAcquired known) later = λ k d low. all (suc k) d (omega (arith, low)) in
            elim (cases_Bool (lease.queue.0 == queue)) [
              | inl met ↦ rw (queue_is, met) (rw calls acquired, rest.tokens known others queue)
              | inr unmet ↦ rw (queue_is, unmet) (rest.tokens known others queue)
            ];
        releases = λ queue other there. elim (Contains-append_cases (only asked made queue) (rest.added queue) other there) [
          | inl c ↦ subst IsRelease (only_one asked made other queue c).0 (lease, fence, calls, ends)
          | inr c ↦ rest.releases queue other c
        ];
      }

  pub gives_back : (home : DeskHome) (by place : ℕ) (leases : List ReadLeaseOf) (old new : DeskView B) → GivesBack home by place leases old new → All (IsMarked home) leases → GaveBack place leases (share_of by (known_of home old)) (share_of by (known_of home new))
  gives_back home by place [] old new gives marked =
      subst (λ (view : DeskView B). GaveBack place [] (share_of by (known_of home old)) (share_of by (known_of home view))) (sym gives) (gave_none place (share_of by (known_of home old)))
  gives_back home by place (lease ∷ later) old new gives marked =
      let reply = gives.0 in
      let next = gives.1 in
      let made = gives.2 in
      let asking : ℕ × QCall B = (place, call.Release lease (merged no_points lease.fence)) in
      let c = made_call home old next by lease.queue.0 asking reply made in
      let asked = release_of no_points (frame_of lease) in
      let mark = mark_among home.marks lease.queue.0 in
      gave_one place lease later asked c (share_of by (known_of home old)) (share_of by (known_of home next)) (share_of by (known_of home new)) refl refl
      (no_end mark.queue lease (merged no_points lease.fence) c.told.reply reply (answer_told home old next by lease.queue.0 asking reply made))
      refl
      (ap (λ (t : ReadToken). plain_call.Release t (merged no_points lease.fence)) (told_frame mark.queue lease (marked 0 lease (omega arith))))
      (one_more home old next by lease.queue.0 asking reply made)
      (gives_back home by place later next new gives.3 (λ k d low. marked (suc k) d (omega (arith, low))))

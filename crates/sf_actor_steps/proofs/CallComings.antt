-- What a step that makes a call on a queue comes to for its actor: what is the same for all of them.
use Rattle.std.proofs.Common.{◌≡◌, ℕ, ◌+◌, ◌<◌, zero, false, true, List, [], ◌∷◌, ◌++◌, length, get_or, inl, inr, arith, ap, ◌∙◌, sym, refl, subst, Option, Some, None}
use Rattle.std.specs.Prelude.{slice_set, Contains}
use Rattle.std.proofs.lemmas.Bool.{cases_Bool, false≢true}
use Rattle.std.proofs.lemmas.List.{append-nil, length-set, set-get_or, set-set}
use Rattle.std.proofs.lemmas.List.Elements.{Contains-append_right}
use Rattle.sf_base.specs.Points.{points_from}
use Rattle.sf_base.specs.Statuses.{number_of}
use Rattle.sf_base.specs.Fences.{Fence}
use Rattle.sf_base.specs.declared.fences.Seen.{Seen}
use Rattle.sf_base.specs.declared.ids.QueueId.{QueueId}
use Rattle.sf_actor.specs.sf_picture.declared.picture.Picture.{Picture}
use Rattle.sf_actor.specs.sf_script_scene.declared.step.Step.{Step}
use Rattle.sf_actor.specs.sf_slots.declared.calls.PlainReply.{PlainReply}
use Rattle.sf_actor.specs.sf_surface.declared.call.QCall.{QCall}
use Rattle.sf_actor.specs.sf_surface.declared.call.QReply.{QReply}
use Rattle.sf_actor.specs.sf_surface.Calls.{may_wait}
use Rattle.sf_actor.specs.sf_surface.Hands.{IsReply}
use Rattle.sf_actor.specs.sf_surface.Tokens.{EndingOf}
use Rattle.sf_actor.specs.declared.done.Answered.TheVariants as answered
use Rattle.sf_actor.specs.declared.done.Done.{Done}
use Rattle.sf_actor.specs.declared.holding.Holding.{Holding}
use Rattle.sf_actor.specs.declared.tried.Reply.{Reply}
use Rattle.sf_actor.specs.Desks.{ChangesTimes, DeskHome, DeskView, MadeCall, has_queue, known_of}
use Rattle.sf_actor.specs.Known.{GoesOn, ShareGoesOn, share_of}
use Rattle.sf_actor.specs.Holdings.{HoldingsOf, queue_held}
use Rattle.sf_actor.specs.Rights.{EndsIn, Turn, issued_turn}
use Rattle.sf_actor.specs.Steps.{was_done}
use Rattle.sf_actor.specs.Tests.{bad_value}
use Rattle.sf_actor.specs.Tries.{ActorKept, ActorOf, AreThere, Sees, ended_by, held_in, past_of, turn_ended}
use Rattle.sf_actor.specs.Values.{reply_at}
use Rattle.sf_actor.specs.Written.{signal_of}
use Rattle.sf_actor.proofs.TraceGrowth.{at_end}
use Rattle.sf_actor.proofs.FilledNames.{KeepsWith, moved_held}
use Rattle.sf_actor.proofs.GoingOn.{share_on}
use Rattle.sf_actor.proofs.CallGrowth.{call_alone, end_goes, goes_same, goes_twice, see_goes}
use Rattle.sf_actor.proofs.StepKeepsActor.{stepped}
use Rattle.sf_actor.proofs.NameChanges.{held_case}
use Rattle.sf_actor.proofs.NameChanges.{with_held as parts_with}
use Rattle.sf_actor.proofs.ReplyRecords.{Tells}
use Rattle.sf_actor_steps.specs.Actors.{parts_of}
use Rattle.sf_actor_steps.specs.Calling.{Ends, TriesCall, received, with_held}
use Rattle.sf_actor_steps.specs.inner.Coming.{Comes, IsReady, reply_with}
use Rattle.sf_actor_steps.specs.Leaving.{LooksFor}
use Rattle.sf_actor_steps.specs.declared.asking.Asking.{Asking}
use Rattle.sf_actor_steps.specs.declared.bindings.Bindings.{Bindings}
use Rattle.sf_actor_steps.specs.declared.tried.Tried.{Tried}
use Rattle.sf_actor_steps.specs.declared.tried.Tried.TheVariants as tried
use Rattle.sf_actor_steps.proofs.OwnComings.{look_left, look_signals, own_done}

-- the turn that leaves where a drawing ends
abbrev pub ended_turn : Option EndingOf → List Turn
ended_turn None = []
ended_turn (Some ending) = issued_turn ending.turn ∷ []

-- a step that is answered by its call
abbrev pub called : Step → PlainReply → Done
called s told = record { step = s; answered = answered.Called told }

not_own : (told : PlainReply) (status : ℕ) → answered.Called told ≡ answered.Own status → ⊥
not_own told status e = cc

-- what a name held is put back, and what it holds is changed twice
set_back : {A : Type 0} (names : List (Option A)) (name : ℕ) (held : A) → get_or names name None ≡ Some held → slice_set (slice_set names name None) name (Some held) ≡ names
set_back names name held there = set-set names name None (Some held) ∙ ap (λ (h : Option _). slice_set names name h) (sym there) ∙ set-get_or names name None

module _ {B : Type 0} where
  -- what bindings have after a token was put back
  parts_back : (bindings : Bindings B) (name : ℕ) (held : Holding B) → get_or bindings.names name None ≡ Some held → parts_of (with_held (with_held bindings name None) name (Some held)) ≡ parts_of bindings
  parts_back bindings name held there = ap (λ (names : List (Option (Holding B))). parts_of (record bindings { names = names })) (set_back bindings.names name held there)

  -- and after another token came in its place
  pub parts_again : (bindings : Bindings B) (name : ℕ) (held : Option (Holding B)) → parts_of (with_held (with_held bindings name None) name held) ≡ parts_with (parts_of bindings) name held (parts_of bindings).stock
  parts_again bindings name held = ap (λ (names : List (Option (Holding B))). parts_of (record bindings { names = names })) (set-set bindings.names name None held)

  -- the bindings hold what the actor has
  pub after_again : (actor : ActorOf B) (before : Bindings B) (name : ℕ) (held : Option (Holding B)) → actor.parts ≡ parts_of before → parts_of (with_held (with_held before name None) name held) ≡ parts_with actor.parts name held actor.parts.stock
  after_again actor before name held same = parts_again before name held ∙ ap (λ (p : HoldingsOf B). parts_with p name held p.stock) (sym same)

  pub after_back : (actor : ActorOf B) (before : Bindings B) (name : ℕ) (held : Holding B) → actor.parts ≡ parts_of before → get_or before.names name None ≡ Some held → parts_of (with_held (with_held before name None) name (Some held)) ≡ actor.parts
  after_back actor before name held same there = parts_back before name held there ∙ sym same

  -- a look before the call adds no signal and no turn
  pub record Looked (home : DeskHome) (old looked : DeskView B) : Type 0 where
    pub signals : looked.times.signals ≡ old.times.signals
    pub leaves : looked.turns.leaves ≡ old.turns.leaves
    pub goes : (actor : ℕ) → GoesOn actor (known_of home old) (known_of home looked)

  pub unlooked : (home : DeskHome) (view : DeskView B) → Looked home view view
  unlooked home view = record { signals = refl; leaves = refl; goes = λ actor. goes_same actor (known_of home view) }

  pub see_looked : (home : DeskHome) (old looked : DeskView B) (seen : Seen) → Sees home old looked seen → ChangesTimes old looked → Looked home old looked
  see_looked home old looked seen sees changes = record {
    signals = look_signals home old looked seen sees;
    leaves = look_left old looked changes;
    goes = λ actor. see_goes actor home old looked (points_from 1 seen.values) changes sees.shown;
  }

  pub looks_looked : (home : DeskHome) (fence : Option Fence) (old looked : DeskView B) → LooksFor home fence old looked → Looked home old looked
  looks_looked home None old looked same = subst (λ (view : DeskView B). Looked home old view) (sym same) (unlooked home old)
  looks_looked home (Some fence) old looked (seen, sees, signalled, changes) = see_looked home old looked seen sees changes

  -- an ending adds its turn alone
  ends_signals : (ends : Option EndingOf) (old new : DeskView B) → Ends ends old new → new.times.signals ≡ old.times.signals
  ends_signals None old new same = ap (λ (view : DeskView B). view.times.signals) same
  ends_signals (Some ending) old new (leaves, changes) = ap (λ (view : DeskView B). view.times.signals) changes

  ends_leaves : (ends : Option EndingOf) (old new : DeskView B) → Ends ends old new → new.turns.leaves ≡ old.turns.leaves ++ ended_turn ends
  ends_leaves None old new same = ap (λ (view : DeskView B). view.turns.leaves) same ∙ sym (append-nil old.turns.leaves)
  ends_leaves (Some ending) old new (leaves, changes) = ap (λ turns. turns.leaves) leaves.1

  pub ends_goes : (actor : ℕ) (home : DeskHome) (ends : Option EndingOf) (old new : DeskView B) → Ends ends old new → GoesOn actor (known_of home old) (known_of home new)
  ends_goes actor home None old new same = subst (λ (view : DeskView B). GoesOn actor (known_of home old) (known_of home view)) (sym same) (goes_same actor (known_of home old))
  ends_goes actor home (Some ending) old new (leaves, changes) = end_goes actor home old new ending.turn.buffer ending.turn.number changes leaves

  -- so the actor's share goes on, and what ended has left
  pub ends_on : (actor : ℕ) (home : DeskHome) (ends : Option EndingOf) (old new : DeskView B) → Ends ends old new → ShareGoesOn (share_of actor (known_of home old)) (share_of actor (known_of home new))
  ends_on actor home ends old new is = share_on actor (known_of home old) (known_of home new) (ends_goes actor home ends old new is)

  pub ends_left : (ends : Option EndingOf) (old new : DeskView B) → Ends ends old new → EndsIn new.turns.leaves ends
  ends_left None old new is = tt
  ends_left (Some ending) old new is =
      subst (λ (leaves : List Turn). Contains leaves (issued_turn ending.turn)) (sym (ends_leaves (Some ending) old new is))
      (Contains-append_right old.turns.leaves (issued_turn ending.turn ∷ []) (issued_turn ending.turn) (zero, omega arith, refl))

  -- a reply that ends nothing leaves the desk as the call did
  pub none_left : (reply : QReply B) (old new : DeskView B) → reply.ends ≡ None → Ends reply.ends old new → new ≡ old
  none_left reply old new none is = subst (λ (ends : Option EndingOf). Ends ends old new) none is

  -- a step that ends no turn
  pub none_ended : (parts : HoldingsOf B) (s : Step) (told : PlainReply) → turn_ended parts s ≡ [] → ended_by parts (called s told) ≡ []
  none_ended parts s told none = elim (cases_Bool (was_done (answered.Called told))) [
    | inl met ↦ rw met none
    | inr unmet ↦ rw unmet refl
  ]

  -- the queues of what the bindings have stay there where a name holds something else, whose queue is there
  pub there_with : (home : DeskHome) (parts : HoldingsOf B) (name : ℕ) (held : Option (Holding B)) (stock : List ℕ) → name < length parts.names → AreThere home parts → ((now : Holding B) → held ≡ Some now → has_queue home (queue_held now).0 ≡ true) → AreThere home (parts_with parts name held stock)
  there_with home parts name held stock low there new = record {
    names = λ other now holds. held_case parts name held stock other now low holds (λ same is. new now is) (λ apart was. there.names other now was);
    frames = there.frames;
  }

  pub there_filled : (home : DeskHome) (parts : HoldingsOf B) (name : ℕ) (now : Holding B) (stock : List ℕ) → name < length parts.names → AreThere home parts → has_queue home (queue_held now).0 ≡ true → AreThere home (parts_with parts name (Some now) stock)
  there_filled home parts name now stock low there new =
      there_with home parts name (Some now) stock low there (λ held is. subst (λ (h : Holding B). has_queue home (queue_held h).0 ≡ true) (same held is) new)
    where
      same : (held : Holding B) → Some now ≡ Some held → now ≡ held
      same held e = cc

  pub there_moved : (home : DeskHome) (parts : HoldingsOf B) (from to : ℕ) (now : Holding B) → from < length parts.names → to < length parts.names → AreThere home parts → has_queue home (queue_held now).0 ≡ true → AreThere home (moved_held parts from to now)
  there_moved home parts from to now low_from low_to there new =
      there_filled home (parts_with parts from None parts.stock) to now parts.stock (omega (arith, low_to, length-set parts.names from None))
      (there_with home parts from None parts.stock low_from there (λ held is. absurd (none_some held is))) new
    where
      none_some : (held : Holding B) → None ≡ Some held → ⊥
      none_some held e = cc

  -- what the call of a step came to: the queue answered so, the reply tells it and ends the turn of the step, and the actor
  -- keeps what it keeps with what is in the bindings
  pub record Came (pictures : ℕ → Picture) (home : DeskHome) (actor : ActorOf B) (s : Step) (after : Bindings B) (new : DeskView B) (reply : QReply B) : Type 0 where
    pub told : PlainReply
    pub tells : Tells (past_of actor).holdings s told reply
    pub ended : ended_turn reply.ends ≡ ended_by actor.parts (called s told)
    pub keeps : ActorKept pictures (stepped actor (called s told) (parts_of after)) (share_of actor.script.number (known_of home new))
    pub there : AreThere home (parts_of after)

  pub came_with : (pictures : ℕ → Picture) (home : DeskHome) (actor : ActorOf B) (s : Step) (after : Bindings B) (new : DeskView B) (reply : QReply B) (told : PlainReply) (parts : HoldingsOf B) → parts_of after ≡ parts → Tells (past_of actor).holdings s told reply → ended_turn reply.ends ≡ ended_by actor.parts (called s told) → ActorKept pictures (stepped actor (called s told) parts) (share_of actor.script.number (known_of home new)) → AreThere home parts → Came pictures home actor s after new reply
  came_with pictures home actor s after new reply told parts same tells ended keeps there = record {
    told = told;
    tells = tells;
    ended = ended;
    keeps = subst (λ (p : HoldingsOf B). ActorKept pictures (stepped actor (called s told) p) (share_of actor.script.number (known_of home new))) (sym same) keeps;
    there = subst (AreThere home) (sym same) there;
  }

  -- the same of what a lemma of the actor says of the call; the queue's answer tells whether the step ends a turn
  pub ending_came : (pictures : ℕ → Picture) (home : DeskHome) (actor : ActorOf B) (s : Step) (after : Bindings B) (new : DeskView B) (queue : QueueId) (asked : QCall B) (reply : QReply B) (parts : HoldingsOf B) → ((told : PlainReply) → IsReply queue asked told reply → Tells (past_of actor).holdings s told reply) → ((told : PlainReply) → IsReply queue asked told reply → ended_turn reply.ends ≡ ended_by actor.parts (called s told)) → KeepsWith pictures actor s queue asked reply parts (share_of actor.script.number (known_of home new)) → parts_of after ≡ parts → AreThere home parts → Came pictures home actor s after new reply
  ending_came pictures home actor s after new queue asked reply parts tells ended kept same there =
      came_with pictures home actor s after new reply kept.told parts same (tells kept.told kept.replies) (ended kept.told kept.replies) kept.keeps there

  -- and of a call whose reply ends nothing
  pub kept_came : (pictures : ℕ → Picture) (home : DeskHome) (actor : ActorOf B) (s : Step) (after : Bindings B) (called_view new : DeskView B) (queue : QueueId) (asked : QCall B) (reply : QReply B) (parts : HoldingsOf B) → ((told : PlainReply) → IsReply queue asked told reply → Tells (past_of actor).holdings s told reply) → turn_ended actor.parts s ≡ [] → reply.ends ≡ None → Ends reply.ends called_view new → KeepsWith pictures actor s queue asked reply parts (share_of actor.script.number (known_of home called_view)) → parts_of after ≡ parts → AreThere home parts → Came pictures home actor s after new reply
  kept_came pictures home actor s after called_view new queue asked reply parts tells unended none ends kept same there =
      ending_came pictures home actor s after new queue asked reply parts tells
      (λ told is. ap ended_turn none ∙ sym (none_ended actor.parts s told unended))
      (subst (λ (view : DeskView B). KeepsWith pictures actor s queue asked reply parts (share_of actor.script.number (known_of home view))) (sym (none_left reply called_view new none ends)) kept)
      same there

  -- the step of such a call is done
  pub call_done : (pictures : ℕ → Picture) (home : DeskHome) (actor : ActorOf B) (s : Step) (after : Bindings B) (old looked called_view new : DeskView B) (queue : ℕ) (asked : ℕ × QCall B) (reply : QReply B) → signal_of s ≡ [] → Looked home old looked → MadeCall home looked called_view actor.script.number queue asked reply → Ends reply.ends called_view new → Came pictures home actor s after new reply → Comes pictures home actor after old new (tried.Called reply.status reply.values)
  call_done pictures home actor s after old looked called_view new queue asked reply quiet look made ends came =
      let by = actor.script.number in
      let step_number : ℕ = length actor.trace + 1 in
      let done = called s came.told in
      let shown : Reply = reply_with by step_number (number_of reply.status) reply.values in
      let replied : shown ≡ reply_at by (at_end actor.trace done) = λ i. reply_with by step_number (came.tells.status i) (came.tells.values i) in
      own_done pictures home actor after old new done (parts_of after) shown replied
      (record {
        signals =
            ends_signals reply.ends called_view new ends ∙ ap (λ (view : DeskView B). view.times.signals) made.changes.same ∙ look.signals
            ∙ sym (append-nil old.times.signals) ∙ ap (λ (points : List (ℕ × ℕ)). old.times.signals ++ points) (sym quiet);
        ended =
            ends_leaves reply.ends called_view new ends
            ∙ ap (λ (turns : List Turn). turns ++ ended_turn reply.ends) (ap (λ (view : DeskView B). view.turns.leaves) made.changes.same ∙ look.leaves)
            ∙ ap (λ (turns : List Turn). old.turns.leaves ++ turns) came.ended;
        entered = λ name picture is own. absurd (not_own came.told 0 own);
        refused = λ fence fenced unrefused own. absurd (not_own came.told bad_value own);
        alone = λ exact other apart.
            goes_twice other (known_of home old) (known_of home looked) (known_of home new) (look.goes other)
            (goes_twice other (known_of home looked) (known_of home called_view) (known_of home new)
            (call_alone other home looked called_view by queue asked reply exact (λ same. apart (sym same)) made)
            (ends_goes other home reply.ends called_view new ends));
        has = refl;
        kept = came.keeps;
        there = came.there;
      })

  -- so a call that can't wait comes to this
  pub call_comes : (pictures : ℕ → Picture) (home : DeskHome) (actor : ActorOf B) (s : Step) (taken given after : Bindings B) (old looked new : DeskView B) (asking : Asking B) (came_to : Tried) → signal_of s ≡ [] → may_wait asking.call ≡ false → Looked home old looked → TriesCall home actor.script.number (length actor.trace + 1) asking taken given looked new came_to → ((reply : QReply B) (called_view : DeskView B) → came_to ≡ tried.Called reply.status reply.values → MadeCall home looked called_view actor.script.number asking.queue.0 (length actor.trace + 1, asking.call) reply → Ends reply.ends called_view new → given ≡ received asking.homes taken reply → Came pictures home actor s after new reply) → Comes pictures home actor after old new came_to
  call_comes pictures home actor s taken given after old looked new asking (tried.Own status) quiet unwaiting look tries form = absurd tries
  call_comes pictures home actor s taken given after old looked new asking (tried.Sent number) quiet unwaiting look tries form = absurd tries
  call_comes pictures home actor s taken given after old looked new asking tried.NotYet quiet unwaiting look tries form = absurd (false≢true (sym unwaiting ∙ tries.waits.not_yet.0))
  call_comes pictures home actor s taken given after old looked new asking (tried.Called status values) quiet unwaiting look (reply, same_status, same_values, calls) form =
      let was : tried.Called reply.status reply.values ≡ tried.Called status values = λ i. tried.Called (same_status i) (same_values i) in
      let came = form reply calls.made_view (sym was) calls.made calls.ends calls.bindings in
      subst (λ (t : Tried). Comes pictures home actor after old new t) was
      (call_done pictures home actor s after old looked calls.made_view new asking.queue.0 (length actor.trace + 1, asking.call) reply quiet look calls.made calls.ends came)

  -- the call of a step, as it was formed
  pub formed : (home : DeskHome) (by step_number : ℕ) (asking as_formed : Asking B) (taken as_taken after : Bindings B) (old new : DeskView B) (came_to : Tried) → taken ≡ as_taken → asking ≡ as_formed → TriesCall home by step_number asking taken after old new came_to → TriesCall home by step_number as_formed as_taken after old new came_to
  formed home by step_number asking as_formed taken as_taken after old new came_to same_bindings same_call tries =
      subst (λ (bindings : Bindings B). TriesCall home by step_number as_formed bindings after old new came_to) same_bindings
      (subst (λ (a : Asking B). TriesCall home by step_number a taken after old new came_to) same_call tries)

  -- a step has the names of its bindings
  pub names_there : (pictures : ℕ → Picture) (home : DeskHome) (actor : ActorOf B) (bindings : Bindings B) (view : DeskView B) (s : Step) → IsReady pictures home actor bindings view s → length actor.parts.names ≡ 32
  names_there pictures home actor bindings view s ready = ap (λ (parts : HoldingsOf B). length parts.names) ready.parts ∙ ready.names

  pub held_there : (pictures : ℕ → Picture) (home : DeskHome) (actor : ActorOf B) (bindings : Bindings B) (view : DeskView B) (s : Step) (name : ℕ) (held : Holding B) → IsReady pictures home actor bindings view s → get_or bindings.names name None ≡ Some held → held_in actor.parts name ≡ Some held
  held_there pictures home actor bindings view s name held ready there = ap (λ (parts : HoldingsOf B). held_in parts name) ready.parts ∙ there

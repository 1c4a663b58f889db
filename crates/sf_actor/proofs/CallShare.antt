-- What a call of a desk adds to its caller's share, and what a step adds that makes one call.
use Rattle.std.proofs.Common.{◌≡◌, ◌≢◌, ℕ, ◌==◌, suc, zero, false, List, [], ◌∷◌, ◌++◌, inl, inr, filter, arith, ap, ◌∙◌, sym, refl, subst, Option, Some, None}
use Rattle.std.specs.Prelude.{Contains, if◌then◌else◌, map}
use Rattle.std.specs.List.{AllZip}
use Rattle.std.proofs.lemmas.Bool.{cases_Bool, eq-eqb, eqb-true, false≢true}
use Rattle.std.proofs.lemmas.List.{append-nil}
use Rattle.sf_base.specs.declared.fences.Seen.{Seen}
use Rattle.sf_token.specs.sf_calls.Histories.{IsLegal, entry}
use Rattle.sf_script_scene.specs.sf_picture.declared.picture.Picture.{Picture}
use Rattle.sf_surface.specs.declared.call.QCall.{QCall}
use Rattle.sf_surface.specs.declared.call.QReply.{QReply}
use Rattle.sf_surface.specs.declared.mark.QueueMark.{QueueMark}
use Rattle.sf_surface.specs.Hands.{IsReply, permit_of}
use Rattle.sf_surface.specs.Histories.{Answers, Made}
use Rattle.sf_surface.specs.sf_turns.Views.{PermitView}
use Rattle.sf_actor.specs.declared.done.Answered.{Answered}
use Rattle.sf_actor.specs.declared.done.Answered.TheVariants as answered
use Rattle.sf_actor.specs.declared.done.Done.{Done}
use Rattle.sf_actor.specs.Asking.{Asked, call_of, overtaken_by}
use Rattle.sf_actor.specs.Desks.{DeskHome, DeskView, MadeCall, known_of, mark_among}
use Rattle.sf_actor.specs.Draws.{entered_at}
use Rattle.sf_actor.specs.Known.{AreAmong, Call, CountsRise, Rise, Share, ShareGoesOn, arrivals_told, call_after, is_sent_by, own_calls, share_of, told_by}
use Rattle.sf_actor.specs.Rights.{BringsGiven, EndsIn, IsFrom, MadeWith, QueuesPicture, brought_turn}
use Rattle.sf_actor.specs.Steps.{sent_by, used_by, was_done}
use Rattle.sf_actor.specs.ScriptTraces.{IsMade, made_on}
use Rattle.sf_actor.specs.Traces.{DoneAt, IsAnswered, MadeStep, made_at, overtaken, own_call, release_at, sent_with, source_in}
use Rattle.sf_actor.specs.Written.{FrameNumber, paid_at, signal_of}
use Rattle.sf_actor.proofs.TraceGrowth.{Adds}
use Rattle.sf_actor.proofs.GoingOn.{own_same}

rise_same : (old new : Seen) → new ≡ old → Rise old new
rise_same old new same = subst (λ (seen : Seen). Rise old seen) (sym same) (λ t low high. omega arith)

among_same : (old new : List (ℕ × ℕ)) → new ≡ old → AreAmong old new
among_same old new same = λ p there. subst (λ (xs : List (ℕ × ℕ)). Contains xs p) (sym same) there

pub counts_same : (old new : List (ℕ × ℕ)) → new ≡ old → CountsRise old new
counts_same old new same = subst (λ (counts : List (ℕ × ℕ)). CountsRise old counts) (sym same) (λ b. omega arith)

module _ {B : Type 0} where
  -- a share with one more call of the actor, on this queue
  pub record OneMore (queue : ℕ) (made : Call B) (old new : Share B) : Type 0 where
    pub here : new.calls queue ≡ old.calls queue ++ made ∷ []
    pub others : (other : ℕ) → other ≢ queue → new.calls other ≡ old.calls other
    pub arrivals : new.arrivals ≡ old.arrivals
    pub values : Rise old.values new.values
    pub signals : AreAmong old.signals new.signals
    pub left : AreAmong old.left new.left
    pub counts : CountsRise old.counts new.counts

  -- a call of a desk, with what it tells
  abbrev pub made_call : (home : DeskHome) (old new : DeskView B) (by queue : ℕ) (asked : ℕ × QCall B) (reply : QReply B) → MadeCall home old new by queue asked reply → Call B
  made_call home old new by queue asked reply made = call_after (mark_among home.marks queue) made.earlier (entry by asked reply)

  -- its reply is the one that the queue's answer tells
  pub answer_told : (home : DeskHome) (old new : DeskView B) (by queue : ℕ) (asked : ℕ × QCall B) (reply : QReply B) → (made : MadeCall home old new by queue asked reply) → IsReply (mark_among home.marks queue).queue asked.1 (made_call home old new by queue asked reply made).told.reply reply
  answer_told home old new by queue asked reply made =
      let legal : IsLegal (Answers (mark_among home.marks queue)) (entry by asked reply ∷ made.earlier) = subst (λ (xs : List (Made B)). IsLegal (Answers (mark_among home.marks queue)) xs) made.newest made.legal in
      legal.0.answer

  own_newest : (by : ℕ) (mark : QueueMark) (asked : ℕ × QCall B) (reply : QReply B) (earlier : List (Made B)) → own_calls by mark (entry by asked reply ∷ earlier) ≡ own_calls by mark earlier ++ call_after mark earlier (entry by asked reply) ∷ []
  own_newest by mark asked reply earlier = rw (eq-eqb by by refl) refl

  -- it is one more call of its caller
  pub one_more : (home : DeskHome) (old new : DeskView B) (by queue : ℕ) (asked : ℕ × QCall B) (reply : QReply B) → (made : MadeCall home old new by queue asked reply) → OneMore queue (made_call home old new by queue asked reply made) (share_of by (known_of home old)) (share_of by (known_of home new))
  one_more home old new by queue asked reply made =
      let mark = mark_among home.marks queue in
      let same = made.changes.same in
      record {
        here =
            ap (own_calls by mark) made.newest
            ∙ own_newest by mark asked reply made.earlier
            ∙ ap (λ (xs : List (Call B)). xs ++ call_after mark made.earlier (entry by asked reply) ∷ []) (own_same by mark (old.calls queue) made.earlier made.goes_on);
        others = λ other apart. ap (own_calls by (mark_among home.marks other)) (made.changes.others other apart);
        arrivals = ap (λ (view : DeskView B). arrivals_told home.tells (filter (is_sent_by by) view.arrivals)) same;
        values = rise_same (known_of home old).values (known_of home new).values (ap (λ (view : DeskView B). (known_of home view).values) same);
        signals = among_same old.times.signals new.times.signals (ap (λ (view : DeskView B). view.times.signals) same);
        left = among_same old.turns.leaves new.turns.leaves (ap (λ (view : DeskView B). view.turns.leaves) same);
        counts = counts_same old.turns.seen new.turns.seen (ap (λ (view : DeskView B). view.turns.seen) same);
      }

  pub then_goes : (queue : ℕ) (made : Call B) (old mid new : Share B) → OneMore queue made old mid → ShareGoesOn mid new → OneMore queue made old new
  then_goes queue made old mid new more goes = record {
    here = goes.calls queue ∙ more.here;
    others = λ other apart. goes.calls other ∙ more.others other apart;
    arrivals = goes.arrivals ∙ more.arrivals;
    values = λ t low high. let a = more.values t low high in let b = goes.values t low high in omega (arith, a, b);
    signals = λ p there. goes.signals p (more.signals p there);
    left = λ p there. goes.left p (more.left p there);
    counts = λ b. let one = more.counts b in let two = goes.counts b in omega (arith, one, two);
  }

  -- a step that makes this one call, and is answered by the reply
  pub record CallsOnce (pictures : ℕ → Picture) (stock : List ℕ) (at : DoneAt) (asked : Asked) (made : Call B) (old new : Share B) : Type 0 where
    pub asks : call_of pictures at.past.holdings at.done.step ≡ Some asked
    pub replied : at.done.answered ≡ answered.Called made.told.reply
    pub answered : IsAnswered pictures new.values at
    pub overtakes : overtaken_by at.past.holdings at.done.step ≡ []
    pub signals : signal_of at.done.step ≡ []
    pub pays : paid_at at ≡ []
    pub enters : entered_at at ≡ None
    pub step : made.told.step ≡ at.place
    pub call : made.told.call ≡ asked.1
    pub shows : QueuesPicture pictures made.made.call.1
    pub brings : IsFrom old.calls (source_in at.past.since (used_by at.done.step)) (brought_turn made.made.call.1)
    pub permits : (permit : PermitView) → permit_of made.made.call.1 ≡ Some permit → Contains stock permit.buffer
    pub new_one : (number other : ℕ) (earlier : Call B) → Contains (old.calls other) earlier → MadeWith number made → MadeWith number earlier → ⊥
    pub ends : EndsIn new.left made.made.reply.ends

  -- the call where it was made on this queue
  abbrev pub only : Asked → Call B → ℕ → List (Call B)
  only asked made queue = if asked.0.0 == queue then made ∷ [] else []

  pub only_one : (asked : Asked) (made other : Call B) (queue : ℕ) → Contains (only asked made queue) other → (made ≡ other) × (asked.0.0 ≡ queue)
  only_one asked made other queue there = elim (cases_Bool (asked.0.0 == queue)) [
    | inl met ↦ (first (rw met at there), eqb-true asked.0.0 queue met)
    | inr unmet ↦ let none : Contains [] other = rw unmet at there in absurd (omega (arith, none.1))
  ]
    where
      first : Contains (made ∷ []) other → made ≡ other
      first (zero, low, is) = is
      first (suc n, low, is) = absurd (omega (arith, low))

  -- the calls of the share with it
  pub joined : (asked : Asked) (made : Call B) (old new : Share B) → OneMore asked.0.0 made old new → (queue : ℕ) → new.calls queue ≡ old.calls queue ++ only asked made queue
  joined asked made old new more queue = elim (cases_Bool (asked.0.0 == queue)) [
    | inl met ↦ rw met (subst (λ (q : ℕ). new.calls q ≡ old.calls q ++ made ∷ []) (eqb-true asked.0.0 queue met) more.here)
    | inr unmet ↦ rw unmet (more.others queue (λ e. apart unmet e) ∙ sym (append-nil (old.calls queue)))
  ]
    where
      apart : (asked.0.0 == queue) ≡ false → queue ≡ asked.0.0 → ⊥
      apart unmet e = false≢true (sym unmet ∙ eq-eqb asked.0.0 queue (sym e))

  -- so the step adds this call
  pub call_adds : (pictures : ℕ → Picture) (stock : List ℕ) (trace : List Done) (at : DoneAt) (asked : Asked) (made : Call B) (old new : Share B) → CallsOnce pictures stock at asked made old new → OneMore asked.0.0 made old new → Adds pictures stock trace at old new
  call_adds pictures stock trace at asked made old new calls more =
      let source = source_in at.past.since (used_by at.done.step) in
      let one : MadeStep = record { step = at.place; asked = asked; told = Some made.told.reply; brings = source } in
      let same : made_at pictures at ≡ one ∷ [] =
      ap (λ (asking : Option Asked). own_call at.place asking at.done.answered source ++ overtaken at.place at.past.holdings at.done) calls.asks
      ∙ ap (λ (answer : Answered). own_call at.place (Some asked) answer source ++ overtaken at.place at.past.holdings at.done) calls.replied
      ∙ ap (λ (rest : List MadeStep). one ∷ rest) (none_overtaken calls.overtakes) in
      record {
        added = only asked made;
        arrived = [];
        calls = joined asked made old new more;
        arrivals = more.arrivals ∙ sym (append-nil old.arrivals);
        answered = calls.answered;
        made = λ queue. subst (λ (steps : List MadeStep). AllZip IsMade (made_on queue steps) (map told_by (only asked made queue))) (sym same)
            (elim (cases_Bool (asked.0.0 == queue)) [
              | inl met ↦ rw met (record { step = calls.step; call = calls.call; reply = refl }, tt)
              | inr unmet ↦ rw unmet tt
            ]);
        sent = sym (ap (λ (answer : Answered). sent_with at.place answer (sent_by at.past.holdings at.done.step)) calls.replied);
        values = more.values;
        signals = more.signals;
        signalled = λ p there. absurd (let none : Contains [] p = subst (λ (xs : List (ℕ × ℕ)). Contains xs p) calls.signals there in omega (arith, none.1));
        left = more.left;
        counts = more.counts;
        shows = λ queue other there. subst (λ (c : Call B). QueuesPicture pictures c.made.call.1) (only_one asked made other queue there).0 calls.shows;
        tokens = λ queue. subst (λ (steps : List MadeStep). AllZip (BringsGiven old.calls) (made_on queue steps) (only asked made queue)) (sym same)
            (elim (cases_Bool (asked.0.0 == queue)) [
              | inl met ↦ rw met (calls.brings, tt)
              | inr unmet ↦ rw unmet tt
            ]);
        sends = λ k d low. absurd (omega (arith, low));
        permits = λ queue other permit there brings. calls.permits permit (ap (λ (c : Call B). permit_of c.made.call.1) (only_one asked made other queue there).0 ∙ brings);
        new_ones = λ number queue other one earlier there before mine theirs.
            calls.new_one number other earlier before (subst (MadeWith number) (sym (only_one asked made one queue there).0) mine) theirs;
        once = λ number queue other one later there too mine theirs.
            let a = only_one asked made one queue there in
            let b = only_one asked made later other too in
            (sym a.1 ∙ b.1, ap (λ (c : Call B). c.made.call.0) (sym a.0 ∙ b.0));
        ends = λ queue other there. subst (λ (c : Call B). EndsIn new.left c.made.reply.ends) (only_one asked made other queue there).0 calls.ends;
        pays = λ frame there. absurd (let none : Contains [] frame = subst (λ (xs : List FrameNumber). Contains xs frame) calls.pays there in omega (arith, none.1));
        counted = λ place entered. absurd (no_place place (sym calls.enters ∙ entered));
        order = λ place entered. absurd (no_place place (sym calls.enters ∙ entered));
      }
    where
      none_overtaken : overtaken_by at.past.holdings at.done.step ≡ [] → overtaken at.place at.past.holdings at.done ≡ []
      none_overtaken none = elim (cases_Bool (was_done at.done.answered)) [
        | inl met ↦ rw met (ap (map (release_at at.place)) none)
        | inr unmet ↦ rw unmet refl
      ]

      no_place : (place : ℕ) → None ≡ Some place → ⊥
      no_place place e = cc

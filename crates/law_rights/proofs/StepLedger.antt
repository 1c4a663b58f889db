-- The ledger stands after an actor's step.
use Rattle.std.proofs.Common.{◌≡◌, ℕ, zero, suc, ◌+◌, ◌≤◌, ◌==◌, ◌⊎◌, true, false, List, [], ◌∷◌, ◌++◌, arith, ap, ◌∙◌, sym, refl, inl, inr, subst, length, map, drop, Option, Some, None}
use Rattle.std.specs.Prelude.{All, Contains, slice_get, slice_set, take}
use Rattle.std.specs.List.{AllZip, flat_map, list_any}
use Rattle.std.proofs.lemmas.Bool.{or_parts}
use Rattle.std.proofs.lemmas.List.{append-nil}
use Rattle.std.proofs.lemmas.List.Elements.{All-contains}
use Rattle.atomic_table.specs.Seated.{TableId}
use Rattle.sf_actor_set.specs.sf_commit.Handlers.{HandlerOf}
use Rattle.sf_actor_set.specs.sf_picture.declared.picture.Picture.{Picture}
use Rattle.sf_actor_set.specs.sf_script_scene.declared.step.ActorScript.{ActorScript}
use Rattle.sf_actor_set.specs.sf_script_scene.declared.step.Step.{Step}
use Rattle.sf_actor_set.specs.sf_script_scene.declared.step.Step.TheVariants as step
use Rattle.sf_actor_set.specs.sf_script_scene.Ranges.{IsStep}
use Rattle.sf_actor_set.specs.sf_surface.Objects.{ObjectOf, mark_of}
use Rattle.sf_actor_set.specs.sf_surface.Tokens.{ReadLeaseOf}
use Rattle.sf_actor_set.specs.sf_token.Pending.{Arrival}
use Rattle.sf_actor_set.specs.sf_turns.Counts.{stock_at}
use Rattle.sf_actor_set.specs.sf_actor.declared.done.Done.{Done}
use Rattle.sf_actor_set.specs.sf_actor.declared.tried.Reply.{Reply}
use Rattle.sf_actor_set.specs.sf_actor.declared.tried.Stepped.{Stepped}
use Rattle.sf_actor_set.specs.sf_actor.declared.tried.Stepped.TheVariants as stepped
use Rattle.sf_actor_set.specs.sf_actor.Desks.{DeskHome, DeskView, has_queue}
use Rattle.sf_actor_set.specs.sf_actor.Holdings.{HoldingsOf}
use Rattle.sf_actor_set.specs.sf_actor.Plain.{PlainOf, calls_among, home_of, is_queue, view_of}
use Rattle.sf_actor_set.specs.sf_actor.Scripts.{picture_at}
use Rattle.sf_actor_set.specs.sf_actor.ScriptTraces.{step_done}
use Rattle.sf_actor_set.specs.sf_actor.Tests.{refusal_of}
use Rattle.sf_actor_set.specs.sf_actor.Tries.{ActorOf, DoesStep, Keeps, Tries, next_step}
use Rattle.sf_actor_set.specs.sf_actor_steps.declared.actor.Actor.{Actor}
use Rattle.sf_actor_set.specs.sf_actor_steps.declared.bindings.Bindings.{Bindings}
use Rattle.sf_actor_set.specs.sf_actor_steps.declared.tried.Tried.{Tried}
use Rattle.sf_actor_set.specs.sf_actor_steps.Acting.{Acts as StepActs, Attempts}
use Rattle.sf_actor_set.specs.sf_actor_steps.Actors.{Acts}
use Rattle.sf_actor_set.specs.sf_actor_steps.Bindings.{holdings_of}
use Rattle.sf_actor_set.specs.sf_actor_steps.Playable.{IsPlayable, MayPlay}
use Rattle.sf_actor_set.specs.ActorSets.{KeepAs, KeepsAs, StepsAt, script_of, scripts_of}
use Rattle.sf_actor_set.proofs.ArrivalLemmas.{waiting_many}
use Rattle.law_played.proofs.Members.{has_map}
use Rattle.law_rights.specs.Actors.{AreOver}
use Rattle.law_rights.specs.Ledgers.{IsLedger}
use Rattle.law_rights.specs.PlaceTries.{PlacesGo}
use Rattle.law_rights.specs.Standing.{LedgerStands, state_of, stock_of}
use Rattle.law_rights.specs.States.{State, ledger_of}
use Rattle.law_rights.specs.Tries.{TriesIn, WritesTry}
use Rattle.law_rights.proofs.TryKeepsLedger.{try_keeps, try_places}
use Rattle.law_rights.proofs.TurnCounts.{first, later}
use Rattle.law_rights.proofs.PermitStock.{permits_unmade}
use Rattle.law_rights.proofs.TryTraces.{Traced, draw_traced, queue_traced, refused, silent, step_is_next}

module _ {A : Type 0} where
  pub got_has : (xs : List A) (i : ℕ) (x : A) → slice_get xs i ≡ Some x → Contains xs x
  got_has [] i x here = absurd (cc here)
  got_has (y ∷ xs) zero x here = let same : y ≡ x = cc in subst (λ (z : A). Contains (y ∷ xs) z) same (first y xs)
  got_has (y ∷ xs) (suc i) x here = later y x xs (got_has xs i x here)

  pub got_set : (xs : List A) (i : ℕ) (x y : A) → slice_get xs i ≡ Some x → slice_get (slice_set xs i y) i ≡ Some y
  got_set [] i x y here = absurd (cc here)
  got_set (z ∷ xs) zero x y here = refl
  got_set (z ∷ xs) (suc i) x y here = got_set xs i x y here

  pub set_same : (xs : List A) (i : ℕ) (x : A) → slice_get xs i ≡ Some x → slice_set xs i x ≡ xs
  set_same [] i x here = refl
  set_same (z ∷ xs) zero x here = let same : z ≡ x = cc in ap (λ (y : A). y ∷ xs) (sym same)
  set_same (z ∷ xs) (suc i) x here = ap (λ (ys : List A). z ∷ ys) (set_same xs i x here)

  drop_front : (n : ℕ) (xs ys : List A) → n ≤ length xs → drop n (xs ++ ys) ≡ drop n xs ++ ys
  drop_front zero xs ys few = refl
  drop_front (suc n) [] ys few = absurd (omega (arith, few))
  drop_front (suc n) (x ∷ xs) ys few = drop_front n xs ys (omega (arith, few))

joined_again : {A : Type 0} (xs ys zs : List A) → (xs ++ ys) ++ zs ≡ xs ++ (ys ++ zs)
joined_again [] ys zs = refl
joined_again (x ∷ xs) ys zs = ap (λ rest. x ∷ rest) (joined_again xs ys zs)

pub zip_at : {X Y : Type 0} (R : X → Y → Type 0) (xs : List X) (ys : List Y) (i : ℕ) (x : X) (y : Y) → AllZip R xs ys → slice_get xs i ≡ Some x → slice_get ys i ≡ Some y → R x y
zip_at R [] ys i x y all at here = absurd (cc at)
zip_at R (a ∷ xs) [] i x y all at here = absurd (cc here)
zip_at R (a ∷ xs) (b ∷ ys) zero x y all at here =
    let one : a ≡ x = cc in
    let two : b ≡ y = cc in
    subst (λ (z : _). R z y) one (subst (λ (z : _). R a z) two all.0)
zip_at R (a ∷ xs) (b ∷ ys) (suc i) x y all at here = zip_at R xs ys i x y all.1 at here

module _ {B : Type 0} where
  -- nothing was called on a queue that is not there
  not_called : (objects : List (ObjectOf B)) (queue : ℕ) → list_any (λ mark. mark.queue.0 == queue) (map mark_of objects) ≡ false → calls_among objects queue ≡ []
  not_called [] queue none = refl
  not_called (object ∷ objects) queue none =
      let parts = or_parts (is_queue queue object) (list_any (λ mark. mark.queue.0 == queue) (map mark_of objects)) none in
      rw parts.0 (not_called objects queue parts.1)

  stocks_stay : (ofs : List (ActorOf B)) (place : ℕ) (was is : ActorOf B) → slice_get ofs place ≡ Some was → is.stock ≡ was.stock → flat_map stock_of (slice_set ofs place is) ≡ flat_map stock_of ofs
  stocks_stay [] place was is here same = refl
  stocks_stay (of ∷ ofs) zero was is here same =
      let it : of ≡ was = cc in
      ap (λ (xs : List ℕ). xs ++ flat_map stock_of ofs) (same ∙ sym (ap stock_of it))
  stocks_stay (of ∷ ofs) (suc place) was is here same = ap (λ (xs : List ℕ). of.stock ++ xs) (stocks_stay ofs place was is here same)

  module _ (pictures : ℕ → Picture) (home : DeskHome) (was is : ActorOf B) where
    -- what a try wrote
    acts_write : (next : Step) (before after : Bindings B) (old new : State B) → Traced pictures home was is next before after old new → (came : Tried) (st : Stepped) → Tries pictures home was old.view is new.view st
        → refusal_of pictures (holdings_of before) next ≡ None → StepActs pictures home before.by.0 (length was.trace + 1) next before after old.view new.view came
        → WritesTry home before.by.0 (length was.trace + 1) next (holdings_of before) old new was.trace is.trace came
    acts_write (step.Draw name p) before after old new traced came st tries none acts = draw_traced pictures home was is name p before after old new traced came st tries none acts
    acts_write (step.Queue name p time part points) before after old new traced came st tries none acts = queue_traced pictures home was is name p time part points before after old new traced came st tries none acts
    acts_write next before after old new traced came st tries none acts = silent pictures home was is next before after old new traced (λ answer. refl) st tries came

    try_writes : (next : Step) (before after : Bindings B) (old new : State B) → Traced pictures home was is next before after old new → (came : Tried) (st : Stepped) → Tries pictures home was old.view is new.view st
        → (refusal : Option ℕ) → refusal_of pictures (holdings_of before) next ≡ refusal → Attempts refusal pictures home before.by.0 (length was.trace + 1) next before after old.view new.view came
        → WritesTry home before.by.0 (length was.trace + 1) next (holdings_of before) old new was.trace is.trace came
    try_writes next before after old new traced came st tries None none acts = acts_write next before after old new traced came st tries none acts
    try_writes next before after old new traced came st tries (Some status) met attempts = refused pictures home was is next before after old new traced status met st tries came attempts.0

    -- what was sent
    sends_more : (old new : DeskView B) (st : Stepped) → home.is_exact ≡ true → Tries pictures home was old is new st → (sends : List (Arrival ReadLeaseOf)) × (new.arrivals ≡ old.arrivals ++ sends)
    sends_more old new stepped.Done exact tries =
        let goes = tries.1.alone exact (was.script.number + 1) (λ same. omega (arith, same)) in
        (goes.arrivals.later, goes.arrivals.joined)
    sends_more old new stepped.NotYet exact tries = ([], tries.arrivals ∙ sym (append-nil old.arrivals))
    sends_more old new stepped.Ended exact tries = ([], ap (λ (view : DeskView B). view.arrivals) tries.1 ∙ sym (append-nil old.arrivals))

    same_stock : (old new : DeskView B) (st : Stepped) → Tries pictures home was old is new st → is.stock ≡ was.stock
    same_stock old new stepped.Done tries = ap (λ (a : ActorOf B). a.stock) tries.1.same
    same_stock old new stepped.NotYet tries = ap (λ (a : ActorOf B). a.stock) tries.same
    same_stock old new stepped.Ended tries = ap (λ (a : ActorOf B). a.stock) tries.0

    -- the step that was done was the next one
    pub next_done : (old new : DeskView B) (reply : Reply) → Keeps pictures home is new → (does : DoesStep pictures home was old is new reply) → next_step was ≡ Some does.done.step
    next_done old new reply keeps does =
        let script : is.script ≡ was.script = ap (λ (a : ActorOf B). a.script) does.same in
        let there = step_is_next was.trace does.done is.script.steps (subst (λ (t : List Done). map step_done t ≡ take (length t) is.script.steps) does.trace keeps.kept.kept.is.first) in
        sym (ap (λ (s : ActorScript). slice_get s.steps (length was.trace)) script) ∙ there

    -- the next step, unless all are done
    next_there : (old new : DeskView B) (st : Stepped) → Keeps pictures home is new → Tries pictures home was old is new st → (st ≡ stepped.Ended) ⊎ ((next : Step) × (next_step was ≡ Some next))
    next_there old new stepped.Done keeps tries = inr (tries.1.done.step, next_done old new tries.0 keeps tries.1)
    next_there old new stepped.NotYet keeps tries = inr (tries.next, tries.step)
    next_there old new stepped.Ended keeps tries = inl refl

  module _ (table : TableId) (buffers place : ℕ) (pictures : List Picture) (ofs : List (ActorOf B)) (actors nows : List (Actor B)) (before after : PlainOf B) (st : Stepped) (handler : HandlerOf ReadLeaseOf)
      (steps : StepsAt table (picture_at pictures) place actors ofs before nows after st) (keep : KeepAs table (picture_at pictures) (home_of before) (view_of before) actors ofs)
      (plays : All (MayPlay (home_of before) pictures) (scripts_of actors)) (same_home : home_of after ≡ home_of before)
      (over : AreOver (picture_at pictures) (home_of before) (view_of before) ofs) (stands : LedgerStands buffers (home_of before) (view_of before) ofs handler) where
    abbrev home : DeskHome
    home = home_of before

    abbrev was : ActorOf B
    was = steps.old

    abbrev is : ActorOf B
    is = steps.new

    abbrev pub old_state : State B
    old_state = state_of (home_of before) (view_of before) ofs handler

    abbrev pub new_state : State B
    new_state = state_of (home_of before) (view_of after) (slice_set ofs place steps.new) handler

    pub was_kept : KeepsAs table (picture_at pictures) (home_of before) (view_of before) steps.was_here steps.old
    was_kept = zip_at (KeepsAs table (picture_at pictures) (home_of before) (view_of before)) actors ofs place steps.was_here steps.old keep steps.was_at steps.here

    pub is_kept : KeepsAs table (picture_at pictures) (home_of before) (view_of after) steps.now_here steps.new
    is_kept = subst (λ (h : DeskHome). KeepsAs table (picture_at pictures) h (view_of after) steps.now_here steps.new) same_home
        (zip_at (KeepsAs table (picture_at pictures) (home_of after) (view_of after)) nows (slice_set ofs place steps.new) place steps.now_here steps.new steps.keep steps.now_at (got_set ofs place steps.old steps.new steps.here))

    sends : (sends : List (Arrival ReadLeaseOf)) × ((view_of after).arrivals ≡ (view_of before).arrivals ++ sends)
    sends = sends_more (picture_at pictures) (home_of before) steps.old steps.new (view_of before) (view_of after) st stands.exact steps.tries

    waits_more : handler.pending ++ drop (home_of before).taken (view_of after).arrivals ≡ (handler.pending ++ drop (home_of before).taken (view_of before).arrivals) ++ sends.0
    waits_more =
        let many = waiting_many before.arrivals in
        ap (λ (xs : List (Arrival ReadLeaseOf)). handler.pending ++ drop (home_of before).taken xs) sends.1
        ∙ ap (λ (xs : List (Arrival ReadLeaseOf)). handler.pending ++ xs) (drop_front (home_of before).taken (view_of before).arrivals sends.0 (omega (arith, many)))
        ∙ sym (joined_again handler.pending (drop (home_of before).taken (view_of before).arrivals) sends.0)

    -- the try, as a change of the state
    tried : (next : Step) (next_is : next_step steps.old ≡ Some next)
        → TriesIn (picture_at pictures) (home_of before) place next (steps.acts next next_is).came_to steps.was_here.bindings steps.now_here.bindings old_state new_state
    tried next next_is = record {
      was = steps.old;
      is = steps.new;
      here = steps.here;
      actors = refl;
      parts_was = was_kept.is.parts;
      parts_is = is_kept.is.parts;
      writes = try_writes (picture_at pictures) (home_of before) steps.old steps.new next steps.was_here.bindings steps.now_here.bindings old_state new_state traced acts.came_to st steps.tries
          (refusal_of (picture_at pictures) (holdings_of steps.was_here.bindings) next) refl acts.attempts;
      wide = was_kept.is.names;
      ranges = ranges;
      exact = stands.exact;
      apart = stands.apart;
      marks_old = refl;
      marks_new = refl;
      not_called = λ queue none. not_called after.queues queue (ap (λ (h : DeskHome). has_queue h queue) same_home ∙ none);
      sends = sends.0;
      sent = sends.1;
      waiting = waits_more;
      on = refl;
      unmade = λ number permit. permits_unmade (picture_at pictures) (home_of before) (view_of before) ofs over place number steps.old steps.here stands.once
          (subst (λ (parts : HoldingsOf B). Contains parts.stock number) (sym was_kept.is.parts) permit);
      attempts = acts.attempts;
    }
      where
        acts : Acts (picture_at pictures) (home_of before) next (length steps.old.trace + 1) steps.was_here.bindings (view_of before) steps.now_here.bindings (view_of after)
        acts = steps.acts next next_is

        traced : Traced (picture_at pictures) (home_of before) steps.old steps.new next steps.was_here.bindings steps.now_here.bindings old_state new_state
        traced = record {
          keeps_was = was_kept.keeps;
          keeps_is = is_kept.keeps;
          next_is = next_is;
          parts = was_kept.is.parts;
          by = ap (λ (s : ActorScript). s.number) was_kept.is.script ∙ sym was_kept.is.by_it;
          exact = stands.exact;
        }

        plays_here : MayPlay (home_of before) pictures steps.was_here.script
        plays_here = All-contains (MayPlay (home_of before) pictures) (scripts_of actors) steps.was_here.script plays (has_map script_of actors steps.was_here (got_has actors place steps.was_here steps.was_at))

        ranges : IsStep next
        ranges = (All-contains (IsPlayable (home_of before)) steps.was_here.script.steps next plays_here.playable
            (got_has steps.was_here.script.steps (length steps.old.trace) next (sym (ap (λ (s : ActorScript). slice_get s.steps (length steps.old.trace)) was_kept.is.script) ∙ next_is))).ranges

    tries_in : (next : Step) → next_step steps.old ≡ Some next → IsLedger (ledger_of new_state)
    tries_in next next_is =
        try_keeps (picture_at pictures) (home_of before) place next (steps.acts next next_is).came_to steps.was_here.bindings steps.now_here.bindings old_state new_state (tried next next_is) stands.ledger

    -- and what it does to places
    pub step_goes : (next : Step) → next_step steps.old ≡ Some next → PlacesGo (holdings_of steps.was_here.bindings) next steps.was_here.bindings.by.0 (length steps.old.trace + 1) old_state new_state
    unfolding tried
    step_goes next next_is =
        try_places (picture_at pictures) (home_of before) place next (steps.acts next next_is).came_to steps.was_here.bindings steps.now_here.bindings old_state new_state (tried next next_is) stands.ledger

    ended : st ≡ stepped.Ended → IsLedger (ledger_of new_state)
    ended same =
        let tries : Tries (picture_at pictures) (home_of before) steps.old (view_of before) steps.new (view_of after) stepped.Ended =
        subst (λ (s : Stepped). Tries (picture_at pictures) (home_of before) steps.old (view_of before) steps.new (view_of after) s) same steps.tries in
        let actors : ofs ≡ slice_set ofs place steps.new = sym (ap (slice_set ofs place) tries.0 ∙ set_same ofs place steps.old steps.here) in
        subst (λ (xs : List (ActorOf B)). IsLedger (ledger_of (state_of (home_of before) (view_of after) xs handler))) actors
        (subst (λ (view : DeskView B). IsLedger (ledger_of (state_of (home_of before) view ofs handler))) (sym tries.1) stands.ledger)

    pub step_stands : LedgerStands buffers (home_of after) (view_of after) (slice_set ofs place steps.new) handler
    step_stands = subst (λ (h : DeskHome). LedgerStands buffers h (view_of after) (slice_set ofs place steps.new) handler) (sym same_home) (record {
      ledger = elim (next_there (picture_at pictures) (home_of before) steps.old steps.new (view_of before) (view_of after) st is_kept.keeps steps.tries) [
        | inl none ↦ ended none
        | inr next ↦ tries_in next.0 next.1
      ];
      exact = stands.exact;
      apart = stands.apart;
      once = λ number. subst (λ (xs : List ℕ). stock_at number xs ≤ 1) (sym stocks) (stands.once number);
      below = λ number there. stands.below number (subst (λ (xs : List ℕ). Contains xs number) stocks there);
    })
      where
        stocks : flat_map stock_of (slice_set ofs place steps.new) ≡ flat_map stock_of ofs
        stocks = stocks_stay ofs place steps.old steps.new steps.here (same_stock (picture_at pictures) (home_of before) steps.old steps.new (view_of before) (view_of after) st steps.tries)

-- What a compositor keeps before the first vsync of a run in threads, and what stands at its joins.
use Rattle.std.proofs.Common.{◌≡◌, ℕ, ◌≤◌, Bool, List, [], ◌∷◌, map, Option, Some, None, Result, Ok, Err, inl, inr, ap, ◌∙◌, arith, refl, sym, subst}
use Rattle.std.specs.Prelude.{IfErr, is_some}
use Rattle.std.proofs.lemmas.Bool.{false≢true}
use Rattle.std.proofs.lemmas.List.Elements.{All-nil}
use Rattle.atomic_table.specs.Seated.{TableId}
use Rattle.sf_io.specs.Causes.{Rose}
use Rattle.sf_picture.specs.declared.picture.Picture.{Picture}
use Rattle.sf_live_compositor.specs.sf_record.declared.encode.RunFault.{RunFault}
use Rattle.sf_live_compositor.specs.sf_record.declared.encode.RunFault.TheVariants.{NoMemory, WriteFault}
use Rattle.sf_live_compositor.specs.sf_calls_stamped.Stamps.{unstamped}
use Rattle.sf_live_compositor.specs.sf_surface.Tokens.{Issued, ReadLeaseOf}
use Rattle.sf_turns.specs.Views.{SeatView}
use Rattle.sf_turns.specs.declared.naming.TableName.{Ghosts as Naming}
use Rattle.sf_live_compositor.specs.sf_txn.declared.lease.Lease.{Ghosts}
use Rattle.sf_live_compositor.specs.sf_commit.Handlers.{HandlerOf, new_handler}
use Rattle.sf_live_compositor.specs.sf_commit.OnLayers.{at_hand}
use Rattle.sf_live_compositor.specs.sf_actor.Plain.{taken_in}
use Rattle.sf_script_scene.specs.Limits.{most_layers}
use Rattle.sf_script_scene.specs.Scene.{SceneValue}
use Rattle.sf_live_compositor.specs.sf_output_plan.Due.{IsPlan}
use Rattle.sf_live_compositor.specs.sf_output_plan.declared.plan.Plan.{Plan}
use Rattle.sf_live_compositor.specs.sf_play_report.declared.report.VsyncReport.{VsyncReport}
use Rattle.sf_live_compositor.proofs.law_played_lemmas.FrameLemmas.{is_plan}
use Rattle.sf_live_compositor.proofs.law_played_lemmas.LimitLemmas.{few_layers}
use Rattle.sf_live_compositor.specs.law_played.Frames.{plan_of}
use Rattle.sf_live_compositor.specs.law_played.Played.{opening}
use Rattle.sf_live_compositor.specs.sf_output_screen.ScreenLists.{AreShown}
use Rattle.sf_live_compositor.specs.sf_output_screen.Screens.{IsShown}
use Rattle.sf_live_compositor.specs.sf_output_screen.declared.screens.OutputScreen.{OutputScreen}
use Rattle.sf_live_compositor.specs.sf_play_write.declared.shows.Shows.{Shows}
use Rattle.sf_live_compositor.specs.sf_play_write.Writing.{Writes, WritingEnded}
use Rattle.sf_live_compositor.proofs.sf_play_write_lemmas.ActionLemmas.{timelines_within}
use Rattle.sf_live_compositor.proofs.sf_play_write_lemmas.WritingLemmas.{part_whole, writes_none}
use Rattle.sf_live_compositor.specs.sf_live_seats.declared.first.FirstSeats.{FirstSeats}
use Rattle.sf_live_compositor.specs.sf_live_seats.declared.locks.Locks.{Locks}
use Rattle.sf_live_compositor.specs.sf_live_seats.First.{HasAll, IsFirst, KnowsNothing}
use Rattle.sf_live_compositor.specs.sf_live_threads.declared.all_returned.AllReturned.{AllReturned}
use Rattle.sf_live_compositor.specs.sf_live_threads.declared.run.Stopped.{Stopped}
use Rattle.sf_live_compositor.specs.sf_live_threads.declared.run.Stopped.TheVariants as stopped
use Rattle.sf_live_compositor.specs.sf_live_threads.Seating.{GivesEach, number_of}
use Rattle.sf_live_compositor.specs.sf_live_threads.Returns.{Returns}
use Rattle.sf_live_compositor.specs.sf_live_threads.Visits.{HasLeftOrIs}
use Rattle.sf_live_compositor.specs.declared.compositor.Compositor.{Compositor}
use Rattle.sf_live_compositor.specs.Keeping.{HasEnded, IsSame, Keeps, sitting_of}
use Rattle.sf_live_compositor.specs.Sitting.{CutVsyncs, Sits, SitsWith}
use Rattle.sf_live_compositor.specs.Vsyncs.{Begin}
use Rattle.sf_live_compositor.proofs.Due.{cut_kept, cut_so}
use Rattle.sf_live.specs.declared.opening.Opened.{Opened}
use Rattle.sf_live.specs.declared.scene.Setup.{Setup}
use Rattle.sf_live.specs.declared.threads.Joined.{Joined}
use Rattle.sf_live.specs.Openings.{IsOpen}
use Rattle.sf_live.specs.inner.Running.{CameTogether, MayRun, Starts, WasCut, run_by}
use Rattle.sf_live.specs.inner.Resuming.{GoesFrom, HasCome}
use Rattle.sf_live.specs.Runs.{CutLive, LiveEnded}
use Rattle.sf_live.specs.inner.Threads.{HasRun, IsTogether, RunOf}
use Rattle.sf_live.proofs.CutRuns.{cut_unmade}
use Rattle.sf_live.proofs.JoinedRun.{has_given, has_run}

pub of_err : {X E : Type 0} (P : E → Type 0) (rest : Result X E) (e : E) → rest ≡ Err e → IfErr rest P → P e
of_err P rest e is p = subst (λ r. IfErr r P) is p

no_writing : (pictures : ℕ → Picture) (a : Option (List ℕ)) (screens : List OutputScreen) → screens ≡ [] → Writes a a [] × AreShown pictures screens
no_writing pictures a screens none = (writes_none a, subst (AreShown pictures) (sym none) (All-nil (λ (one : OutputScreen). IsShown pictures one.screen)))

-- the plan of a scene has the size of its display
plan_wide : (scene : SceneValue) → (plan_of scene).width ≡ scene.width
unfolding plan_of
plan_wide scene = refl

plan_high : (scene : SceneValue) → (plan_of scene).height ≡ scene.height
unfolding plan_of
plan_high scene = refl

abbrev IsWant : RunFault → Type 0
IsWant NoMemory = Unit {0}
IsWant WriteFault = ⊥

pub no_write_fault : NoMemory ≡ WriteFault → ⊥
no_write_fault is = subst IsWant is tt

abbrev IsWanting : {A : Type 0} → Result A RunFault → Type 0
IsWanting (Ok x) = ⊥
IsWanting (Err e) = IsWant e

-- a call that ends for want of memory, with no fault of its sink
pub wanting : {A : Type 0} (done : A → Type 0) (cut : Type 0) (count : ℕ) → cut → WritingEnded {A = A} (Err NoMemory) count count done cut
wanting done cut count is_cut = record { ok = tt; err = is_cut; later = omega arith; failed = λ is. absurd (subst IsWanting is tt) }

-- a run that ends so
pub ended_wanting : {A : Type 0} (tells : Bool) (scene : SceneValue) (start now : Option (List ℕ)) (count : ℕ) → CutLive tells scene start now → LiveEnded {A = A} tells scene (Err NoMemory) start now count count
ended_wanting tells scene start now count cut = record { ok = tt; err = cut; later = omega arith; failed = λ is. absurd (subst IsWanting is tt) }

-- the same behind the record that begins it
pub ended_early : {A : Type 0} (tells : Bool) (scene : SceneValue) (start now : Option (List ℕ)) (count : ℕ) → Writes start now (opening scene ∷ []) → LiveEnded {A = A} tells scene (Err NoMemory) start now count count
ended_early tells scene start now count begun = ended_wanting tells scene start now count (cut_unmade tells scene start now (part_whole start now (opening scene ∷ []) begun))

abbrev IsMemory : Stopped → Type 0
IsMemory stopped.NoMemory = Unit {0}
IsMemory stopped.Ended = ⊥

module _ {K B : Type 0} {naming : Naming B} where
  pub same_self : (c : Compositor K B naming) → IsSame c c
  same_self c = record { workers = refl; shows = refl; period = refl; sink = refl }

  -- where the compositor ended the run
  pub cut_ended : (taken : K → Option (List ℕ)) (faults : K → ℕ) (lease : Ghosts ReadLeaseOf SeatView ReadLeaseOf Issued) (table : TableId) (c now : Compositor K B naming) (fault : RunFault)
      → (fault ≡ WriteFault → now.fault ≡ Some WriteFault) → HasEnded taken faults lease table c now → WasCut taken faults lease table c now fault
  cut_ended taken faults lease table c now fault caused ended = record {
    same = ended.same;
    cut = ended.cut;
    faults_rise = ended.faults_rise;
    failed = λ is. ended.failed (caused is);
  }

module _ {K B : Type 0} {naming : Naming B} (taken : K → Option (List ℕ)) (faults : K → ℕ) (lease : Ghosts ReadLeaseOf SeatView ReadLeaseOf Issued) (table : TableId) (scene : SceneValue) (opened : Opened B) (c : Compositor K B naming)
    (opens : IsOpen scene table opened) (starts : Starts scene c) (unused : KnowsNothing opened.first.seats) where
  -- before the first vsync
  kept_by : (callers : List ℕ) (after_seating : FirstSeats B) → GivesEach opened.first callers after_seating → Keeps taken faults lease table c c opened.locks after_seating
  kept_by callers after_seating gives =
      let given = has_given opened.first callers after_seating unused gives in
      let handler = starts.handler in
      let last = ap (λ (h : HandlerOf ReadLeaseOf). h.last) handler in
      let step = given.step in
      let opened_step = opens.step in
      let none = starts.none_made in
      let wide : c.shows.plan.width ≡ scene.width = ap (λ (p : Plan). p.width) starts.planned ∙ plan_wide scene in
      let high : c.shows.plan.height ≡ scene.height = ap (λ (p : Plan). p.height) starts.planned ∙ plan_high scene in
      let most : c.decider.handler.tree.most ≡ most_layers scene.version = ap (λ (h : HandlerOf ReadLeaseOf). h.tree.most) handler in
      let low = few_layers scene.version in
      record {
        same = same_self c;
        few = omega (arith, none);
        log = record {
          set = starts.set;
          sits = subst (λ (due : Option VsyncReport). SitsWith lease table opened.locks c.period due c.shows.plan c.decider.handler.tree.most c.shows.timelines.items (taken c.sink.now) (taken c.sink.now) c.screens (sitting_of after_seating c)) (sym starts.none_due) (record {
            start = sitting_of after_seating c;
            fresh = record {
              handler = handler ∙ (λ i. new_handler (sym wide i) (sym high i) (sym most i));
              nothing = given.nothing;
              no_signals = given.signals ∙ opens.no_signals;
              no_leaves = given.leaves ∙ opens.no_leaves;
              number = none;
            };
            log = Begin;
            written = λ pictures found. no_writing pictures (taken c.sink.now) c.screens starts.screens;
            told = refl;
          });
          may = record {
            alive = ap (λ (h : HandlerOf ReadLeaseOf). h.is_spent) handler;
            all = record {
              unlent = ap (λ (h : HandlerOf ReadLeaseOf). h.lent) handler;
              none_kept = ap (λ (h : HandlerOf ReadLeaseOf). h.kept) handler;
              here = ap (λ (h : HandlerOf ReadLeaseOf). map at_hand h.on) handler ∙ sym (ap (λ (h : HandlerOf ReadLeaseOf). h.on) handler);
            };
            wide = ap (λ (h : HandlerOf ReadLeaseOf). h.width) handler ∙ sym wide;
            high = ap (λ (h : HandlerOf ReadLeaseOf). h.height) handler ∙ sym high;
            few = omega (arith, most, low);
            known = (let low : 0 ≤ taken_in (unstamped after_seating.seats.arrivals.seen) = omega arith in omega (arith, last, low));
            early = omega (arith, step, opened_step);
          };
        };
        faults_rise = omega arith;
      }

  pub kept_first : (after_seating : FirstSeats B) → GivesEach opened.first (map number_of opened.actors.items) after_seating → Keeps taken faults lease table c c opened.locks after_seating
  kept_first after_seating gives = kept_by (map number_of opened.actors.items) after_seating gives

  -- a prefix of its vsyncs is written of one that keeps what it keeps
  cut_keeps : (locks : Locks B) (now : Compositor K B naming) (first : FirstSeats B) → Keeps taken faults lease table c now locks first
      → CutVsyncs B lease table c.period c.shows.plan c.decider.handler.tree.most c.shows.timelines.items (taken c.sink.now) (taken now.sink.now)
  cut_keeps locks now first keeps =
      cut_so now.period c.period now.shows.plan c.shows.plan c.decider.handler.tree.most now.shows.timelines.items c.shows.timelines.items keeps.same.period (ap (λ (s : Shows). s.plan) keeps.same.shows) (ap (λ (s : Shows). s.timelines.items) keeps.same.shows)
      (cut_kept lease table locks now.period now.shows.plan c.decider.handler.tree.most now.shows.timelines.items (taken c.sink.now) (taken now.sink.now) now.screens (sitting_of first now) now.due keeps.log.sits)

  -- what it keeps beside what lets it compose in threads
  module _ (S : Type 0) where
    abbrev KeepsSo : Compositor K B naming → Locks B → FirstSeats B → Type 0
    KeepsSo now locks first = S × Keeps taken faults lease table c now locks first

    module _ (now : Compositor K B naming) (all_returned : AllReturned B) (first : IsFirst table opened.locks all_returned.first) (all : HasAll all_returned.first)
        (pictures : List Picture) (pictured : pictures ≡ opened.pictures) (returned : Returns KeepsSo table opened.locks pictures opened.first opened.actors.items now all_returned) where
      abbrev returns : Returns KeepsSo table opened.locks opened.pictures opened.first opened.actors.items now all_returned
      returns = subst (λ (p : List Picture). Returns KeepsSo table opened.locks p opened.first opened.actors.items now all_returned) pictured returned

      pub kept : Keeps taken faults lease table c now opened.locks returns.attended
      kept = returns.attends.kept.1

      -- once what was due is written
      module _ (settled : Compositor K B naming) (still : Keeps taken faults lease table c settled opened.locks returns.attended) (none : settled.due ≡ None) where
        abbrev pub ran : RunOf B
        ran = run_by taken faults scene returns.attended.seats c settled

        all_sit : Sits lease table opened.locks settled.period settled.shows.plan c.decider.handler.tree.most settled.shows.timelines.items (taken c.sink.now) (taken settled.sink.now) settled.screens (sitting_of returns.attended settled)
        all_sit =
            subst (λ (due : Option VsyncReport). SitsWith lease table opened.locks settled.period due settled.shows.plan c.decider.handler.tree.most settled.shows.timelines.items (taken c.sink.now) (taken settled.sink.now) settled.screens (sitting_of returns.attended settled))
            none still.log.sits

        pub came_returned : HasRun lease table ran opened.locks opened.pictures all_returned
        came_returned =
            has_run lease table ran opened opens unused KeepsSo now all_returned first all returns refl
            (subst (λ (p : ℕ). Sits lease table opened.locks p (plan_of scene) (most_layers scene.version) settled.shows.timelines.items (taken c.sink.now) (taken settled.sink.now) settled.screens (sitting_of returns.attended settled)) (still.same.period ∙ starts.period)
            (subst (λ (p : Plan). Sits lease table opened.locks settled.period p (most_layers scene.version) settled.shows.timelines.items (taken c.sink.now) (taken settled.sink.now) settled.screens (sitting_of returns.attended settled)) (ap (λ (s : Shows). s.plan) still.same.shows ∙ starts.planned)
            (subst (λ (most : ℕ). Sits lease table opened.locks settled.period settled.shows.plan most settled.shows.timelines.items (taken c.sink.now) (taken settled.sink.now) settled.screens (sitting_of returns.attended settled)) (ap (λ (h : HandlerOf ReadLeaseOf). h.tree.most) starts.handler)
            all_sit)))
            still.few

        pub came_together : (joined : Joined B) → IsTogether lease table ran opened.locks joined → CameTogether taken faults lease table scene opened.locks c settled joined
        came_together joined together = record {
          same = still.same;
          seats = returns.attended.seats;
          together = together;
          faults_rise = still.faults_rise;
        }

        -- where there was no memory to bring the actors together
        pub cut_returned : (why : RunFault) → (why ≡ WriteFault → ⊥) → WasCut taken faults lease table c settled why
        cut_returned why other = record {
          same = still.same;
          cut = cut_keeps opened.locks settled returns.attended still;
          faults_rise = still.faults_rise;
          failed = λ is. absurd (other is);
        }

    -- where the threads came to no end
    pub cut_threads : (locks : Locks B) (now : Compositor K B naming) (why : Stopped) (fault : RunFault) → (fault ≡ WriteFault → (why ≡ stopped.Ended) × (now.fault ≡ Some WriteFault))
        → HasLeftOrIs KeepsSo (HasEnded taken faults lease table c) locks c now why → WasCut taken faults lease table c now fault
    cut_threads locks now why fault caused (inl same) =
        let failed : fault ≡ WriteFault → Rose (faults c.sink.now) (faults c.sink.now) =
        λ is. absurd (false≢true (ap is_some (sym starts.fine ∙ ap (λ (n : Compositor K B naming). n.fault) (sym same) ∙ (caused is).1))) in
        subst (λ (n : Compositor K B naming). WasCut taken faults lease table c n fault) (sym same) (record { same = same_self c; cut = cut_keeps opened.locks c opened.first (kept_by [] opened.first refl); faults_rise = omega arith; failed = failed })
    cut_threads locks now stopped.Ended fault caused (inr ended) = cut_ended taken faults lease table c now fault (λ is. (caused is).1) ended
    cut_threads locks now stopped.NoMemory fault caused (inr (first, left)) = record {
      same = left.1.same;
      cut = cut_keeps locks now first left.1;
      faults_rise = left.1.faults_rise;
      failed = λ is. absurd (subst IsMemory (caused is).0 tt);
    }

-- so a player goes on with the run, from its joins
module _ {K B : Type 0} {naming : Naming B} (taken : K → Option (List ℕ)) (faults : K → ℕ) (lease : Ghosts ReadLeaseOf SeatView ReadLeaseOf Issued) (table : TableId) (scene : SceneValue) (locks : Locks B) (start now : Compositor K B naming) (joined : Joined B)
    (came : CameTogether taken faults lease table scene locks start now joined) where
  abbrev pub run_came : RunOf B
  run_came = run_by taken faults scene came.seats start now

  pub goes_from : (before : Option (List ℕ)) (opened : Opened B) (setup : Setup B) (handler : HandlerOf ReadLeaseOf) (vsyncs : ℕ) → start.shows ≡ setup.shows → MayRun table scene before (taken start.sink.now) setup opened
      → handler ≡ now.decider.handler → vsyncs ≡ now.vsyncs → GoesFrom run_came before setup.period setup.order handler vsyncs
  goes_from before opened setup handler vsyncs shows may same_handler same_vsyncs = record {
    same_period = may.same_period;
    same_order = may.same_order;
    same_handler = same_handler;
    same_vsyncs = same_vsyncs;
    rising = ap (λ (s : Shows). s.timelines.items) (came.same.shows ∙ shows) ∙ may.asked.rising;
    begun = may.begun;
  }

  pub has_come : start.shows.plan ≡ plan_of scene → HasCome run_came now.shows.timelines.items now.shows.plan (taken now.sink.now) now.screens
  has_come planned = record { planned = ap (λ (s : Shows). s.plan) came.same.shows ∙ planned; same_timelines = refl; same_sink = refl; same_screens = refl }

-- a compositor of the scene that is opened may start
pub starts_here : {K B : Type 0} {naming : Naming B} {table : TableId} {before after : Option (List ℕ)} {setup : Setup B} {opened : Opened B} (c : Compositor K B naming) (scene : SceneValue)
    → MayRun table scene before after setup opened → c.shows ≡ setup.shows → c.decider.handler ≡ setup.handler → c.vsyncs ≡ 0 → c.due ≡ None → c.fault ≡ None → c.screens ≡ [] → c.period ≡ setup.period
    → Starts scene c
starts_here c scene may shows handler none none_due fine screens period =
    let planned : c.shows.plan ≡ plan_of scene = ap (λ (s : Shows). s.plan) shows ∙ may.asked.planned in
    record {
      handler = handler ∙ may.handler_is;
      none_made = none;
      none_due = none_due;
      fine = fine;
      planned = planned;
      screens = screens;
      period = period ∙ may.same_period;
      set = record {
        short = subst (λ (p : ℕ). p ≤ 1000000000) (sym (period ∙ may.same_period)) may.opens.limits.header.high_period;
        planned = subst IsPlan (sym planned) (is_plan scene may.opens.limits);
        ranges = timelines_within scene c.shows.timelines.items may.opens.limits (ap (λ (s : Shows). s.timelines.items) shows ∙ may.asked.rising);
      };
    }

-- The actors of a run as they came back: they keep what they keep over what is known at the join, and what their seats signalled is what
-- their steps signal.
use Rattle.std.proofs.Common.{◌≡◌, ℕ, ◌==◌, true, List, [], ◌∷◌, ◌++◌, map, drop, refl, ap, sym, ◌∙◌, subst}
use Rattle.std.specs.Prelude.{IfSome}
use Rattle.std.specs.List.{All, AllZip, list_any}
use Rattle.std.specs.List.Sorted.{IsPermutation, IsStrictlyIncreasing}
use Rattle.std.proofs.lemmas.List.Elements.{All-cons, All-head, All-nil, All-tail, All-weaker}
use Rattle.atomic_table.specs.Seated.{TableId}
use Rattle.law_threads.specs.sf_picture.declared.picture.Picture.{Picture}
use Rattle.law_threads.specs.sf_surface.declared.mark.QueueMark.{QueueMark}
use Rattle.law_threads.specs.sf_surface.Tokens.{ReadLeaseOf}
use Rattle.law_threads.specs.sf_txn.Buffers.{Buffer}
use Rattle.law_threads.specs.sf_script_scene.Limits.{IsWithinLimits}
use Rattle.law_threads.specs.sf_script_scene.Scene.{SceneValue}
use Rattle.law_threads.specs.sf_script_scene.Named.{queue_named}
use Rattle.law_threads.specs.sf_script_scene.declared.step.ActorScript.{ActorScript}
use Rattle.law_threads.specs.sf_script_scene.declared.step.Step.{Step}
use Rattle.law_threads.specs.sf_actor.declared.tried.Stepped.{Stepped}
use Rattle.law_threads.specs.sf_actor.declared.tried.Stepped.TheVariants as stepped
use Rattle.law_threads.specs.sf_actor.Desks.{DeskHome, DeskView, known_of}
use Rattle.law_threads.specs.sf_actor.Known.{ShareGoesOn, share_of}
use Rattle.law_threads.specs.sf_actor.Holdings.{queue_held}
use Rattle.law_threads.specs.sf_actor.Scripts.{picture_at}
use Rattle.law_threads.specs.sf_actor.Tries.{ActorOf, AreThere, Keeps, Tries, dequeues_in}
use Rattle.law_threads.specs.sf_actor.Written.{signals_of}
use Rattle.law_threads.proofs.sf_actor_lemmas.GoingOn.{actor_on}
use Rattle.law_threads.proofs.sf_actor_set_lemmas.RisingLemmas.{sorted_rises}
use Rattle.law_threads.specs.sf_actor_set.ActorSets.{KeepAs, scripts_of}
use Rattle.law_threads.specs.sf_actor_set.Opening.{IsSortedFrom, new_actors}
use Rattle.law_threads.specs.sf_actor_steps.Playable.{IsPlayable, MayPlay}
use Rattle.law_threads.specs.sf_live_threads.Walks.{Begin, Moment, More, Walk}
use Rattle.law_threads.proofs.sf_live_threads_lemmas.ActorWalk.{walk_signals}
use Rattle.law_threads.specs.law_played.Actors.{AreActors, number_of, script_of}
use Rattle.law_threads.specs.sf_live_seats.declared.locks.Locks.{Locks}
use Rattle.law_threads.specs.sf_live_seats.declared.seats.Seats.{Seats}
use Rattle.law_threads.specs.sf_live_seats.Seats.{home_of, marks_of, view_of}
use Rattle.law_threads.specs.Joining.{CameBack, HasNewSeats, actor_at, of_at}

scripts_new : (B : Type 0) (scripts : List ActorScript) (stock : List ℕ) → map script_of (new_actors {B = B} scripts stock) ≡ scripts
scripts_new B [] stock = refl
scripts_new B (script ∷ scripts) stock = ap (λ (ss : List ActorScript). script ∷ ss) (scripts_new B scripts (drop (dequeues_in script.steps) stock))

module _ {B : Type 0} where
  module _ (pictures : ℕ → Picture) (home : DeskHome) (old : ActorOf B) (before : DeskView B) (new : ActorOf B) (after : DeskView B) where
    -- a try leaves the script
    tries_script : (stepped : Stepped) → Tries pictures home old before new after stepped → new.script ≡ old.script
    tries_script stepped.Done tries = ap (λ (of : ActorOf B). of.script) tries.1.same
    tries_script stepped.NotYet tries = ap (λ (of : ActorOf B). of.script) tries.same
    tries_script stepped.Ended tries = ap (λ (of : ActorOf B). of.script) tries.0

  module _ (table : TableId) (pictures : ℕ → Picture) (locks : Locks B) (start : Moment B) where
    walk_script : (last : Moment B) → Walk table pictures locks start last → last.of.script ≡ start.of.script
    walk_script last Begin = refl
    walk_script last (More {before} {after} walk one) =
        ap (λ (of : ActorOf B). of.script) (sym one.is)
        ∙ tries_script pictures (home_of locks before.seats) before.of (view_of before.seats) one.steps.new (view_of after.seats) one.stepped one.steps.tries ∙ walk_script before walk

    walk_caller : (last : Moment B) → Walk table pictures locks start last → last.seats.by ≡ start.seats.by
    walk_caller last Begin = refl
    walk_caller last (More {before} {after} walk one) = one.caller ∙ walk_caller before walk

  -- An actor that came back: its seats are its own, and what they signalled is what its steps signal.
  pub record IsBack (scene : SceneValue) (table : TableId) (locks : Locks B) (end : Moment B) : Type 0 where
    pub keeps : Keeps (picture_at scene.pictures) (home_of locks end.seats) end.of (view_of end.seats)
    pub served : end.seats.by ≡ end.of.script.number
    pub signals : end.seats.times.knows.signals ≡ signals_of end.of.trace

  -- the traces of actors that have done nothing
  abbrev pub HasNoTrace : ActorOf B → Type 0
  HasNoTrace of = of.trace ≡ []

  pub no_traces : (scripts : List ActorScript) (stock : List ℕ) → All HasNoTrace (new_actors scripts stock)
  no_traces [] stock = All-nil HasNoTrace
  no_traces (script ∷ scripts) stock = All-cons HasNoTrace _ (new_actors scripts (drop (dequeues_in script.steps) stock)) refl (no_traces scripts (drop (dequeues_in script.steps) stock))

  module _ (scene : SceneValue) (table : TableId) (locks : Locks B) where
    one_back : (start end : Moment B) → HasNoTrace start.of → HasNewSeats scene table locks start → CameBack scene table locks start end → IsBack scene table locks end
    one_back start end fresh new_seats came =
        let walked = walk_signals table (picture_at scene.pictures) locks start end came.walk in
        record {
          keeps = came.sound.keeps;
          served = walk_caller table (picture_at scene.pictures) locks start end came.walk ∙ new_seats.served
              ∙ sym (ap (λ (s : ActorScript). s.number) (walk_script table (picture_at scene.pictures) locks start end came.walk));
          signals = walked.seated ∙ ap (λ (list : List (ℕ × ℕ)). list ++ walked.more) new_seats.signals ∙ sym (walked.traced ∙ ap (λ (list : List (ℕ × ℕ)). list ++ walked.more) (ap signals_of fresh));
        }

    pub all_back : (starts ends : List (Moment B)) → All HasNoTrace (map of_at starts) → All (HasNewSeats scene table locks) starts → AllZip (CameBack scene table locks) starts ends → All (IsBack scene table locks) ends
    all_back [] [] fresh new_seats came = All-nil (IsBack scene table locks)
    all_back [] (end ∷ ends) fresh new_seats came = absurd came
    all_back (start ∷ starts) [] fresh new_seats came = absurd came
    all_back (start ∷ starts) (end ∷ ends) fresh new_seats came =
        All-cons (IsBack scene table locks) end ends
        (one_back start end (All-head HasNoTrace start.of (map of_at starts) fresh) (All-head (HasNewSeats scene table locks) start starts new_seats) came.0)
        (all_back starts ends (All-tail HasNoTrace start.of (map of_at starts) fresh) (All-tail (HasNewSeats scene table locks) start starts new_seats) came.1)

    pub same_scripts : (starts ends : List (Moment B)) → AllZip (CameBack scene table locks) starts ends → map script_of (map of_at ends) ≡ map script_of (map of_at starts)
    same_scripts [] [] came = refl
    same_scripts [] (end ∷ ends) came = absurd came
    same_scripts (start ∷ starts) [] came = absurd came
    same_scripts (start ∷ starts) (end ∷ ends) came = λ i. walk_script table (picture_at scene.pictures) locks start end came.0.walk i ∷ same_scripts starts ends came.1 i

    -- what actors keep, they keep over what is known at the join
    module _ (home : DeskHome) (joined : DeskView B) (marks : home.marks ≡ marks_of locks) where
      there_now : (of : ActorOf B) (seats : Seats B) → AreThere (home_of locks seats) of.parts → AreThere home of.parts
      there_now of seats there = record {
        names = λ name held is. subst (λ (ms : List QueueMark). list_any (λ (mark : QueueMark). mark.queue.0 == (queue_held held).0) ms ≡ true) (sym marks) (there.names name held is);
        frames = λ number txn is. subst (λ (ms : List QueueMark). All (λ (buffer : Buffer ReadLeaseOf). list_any (λ (mark : QueueMark). mark.queue.0 == buffer.lease.queue.0) ms ≡ true) txn.buffers) (sym marks) (there.frames number txn is);
      }

      abbrev pub GoOn : Moment B → Type 0
      GoOn end = ShareGoesOn (share_of end.seats.by (known_of (home_of locks end.seats) (view_of end.seats))) (share_of end.seats.by (known_of home joined))

      keeps_joined : (end : Moment B) → IsBack scene table locks end → GoOn end → Keeps (picture_at scene.pictures) home end.of joined
      keeps_joined end is goes = record {
        kept = actor_on (picture_at scene.pictures) end.of (share_of end.of.script.number (known_of (home_of locks end.seats) (view_of end.seats))) (share_of end.of.script.number (known_of home joined))
            (subst (λ (n : ℕ). ShareGoesOn (share_of n (known_of (home_of locks end.seats) (view_of end.seats))) (share_of n (known_of home joined))) is.served goes) is.keeps.kept;
        there = there_now end.of end.seats is.keeps.there;
      }

      pub all_keep : (ends : List (Moment B)) → All (IsBack scene table locks) ends → All GoOn ends → All (λ (of : ActorOf B). Keeps (picture_at scene.pictures) home of joined) (map of_at ends)
      all_keep [] are go = All-nil (λ (of : ActorOf B). Keeps (picture_at scene.pictures) home of joined)
      all_keep (end ∷ ends) are go =
          All-cons (λ (of : ActorOf B). Keeps (picture_at scene.pictures) home of joined) end.of (map of_at ends)
          (keeps_joined end (All-head (IsBack scene table locks) end ends are) (All-head GoOn end ends go)) (all_keep ends (All-tail (IsBack scene table locks) end ends are) (All-tail GoOn end ends go))

      -- and each is what contracts see of its actor
      pub all_as : (starts ends : List (Moment B)) → AllZip (CameBack scene table locks) starts ends → All (IsBack scene table locks) ends → All GoOn ends
          → KeepAs table (picture_at scene.pictures) home joined (map actor_at ends) (map of_at ends)
      all_as [] [] came are go = tt
      all_as [] (end ∷ ends) came are go = absurd came
      all_as (start ∷ starts) [] came are go = absurd came
      all_as (start ∷ starts) (end ∷ ends) came are go = (
        record { is = came.0.sound.is; keeps = keeps_joined end (All-head (IsBack scene table locks) end ends are) (All-head GoOn end ends go) },
        all_as starts ends came.1 (All-tail (IsBack scene table locks) end ends are) (All-tail GoOn end ends go),
      )

      -- they are the actors of the scene
      pub are_actors : IsWithinLimits scene → (starts ends : List (Moment B)) (declared : List ActorScript) (stock : List ℕ) → IsSortedFrom (λ (script : ActorScript). script.number) scene.actors declared
          → map of_at starts ≡ new_actors declared stock → AllZip (CameBack scene table locks) starts ends → All (IsBack scene table locks) ends → All GoOn ends → AreActors scene (map of_at ends) home joined
      are_actors limits starts ends declared stock sorted new came are go =
          let scripts : map script_of (map of_at ends) ≡ declared = same_scripts starts ends came ∙ ap (map script_of) new ∙ scripts_new B declared stock in
          record {
            scripts = subst (IsPermutation scene.actors) (sym scripts) sorted.permutation;
            apart = subst IsStrictlyIncreasing (sym (numbers_are (map of_at ends)))
                (subst (λ (ss : List ActorScript). IsStrictlyIncreasing (map (λ (s : ActorScript). s.number) ss)) (sym scripts) (sorted_rises (λ (s : ActorScript). s.number) scene.actors declared limits.actors.differ sorted));
            keep = all_keep ends are go;
          }
        where
          numbers_are : (ofs : List (ActorOf B)) → map number_of ofs ≡ map (λ (s : ActorScript). s.number) (map script_of ofs)
          numbers_are [] = refl
          numbers_are (of ∷ ofs) = ap (λ (ns : List ℕ). of.script.number ∷ ns) (numbers_are ofs)

      -- each actor may play its script at this desk, too, which serves everybody
      step_playable : (seats : Seats B) (step : Step) → IsPlayable (home_of locks seats) step → IsPlayable home step
      step_playable seats step is = record {
        ranges = is.ranges;
        taken = is.taken;
        queue = subst (λ (ms : List QueueMark). IfSome (queue_named step) (λ (number : ℕ). list_any (λ (mark : QueueMark). mark.queue.0 == number) ms ≡ true)) (sym marks) is.queue;
        timelines = is.timelines;
      }

      may_play : (pictures : List Picture) (seats : Seats B) (script : ActorScript) → home.serves script.number ≡ true → MayPlay (home_of locks seats) pictures script → MayPlay home pictures script
      may_play pictures seats script served plays = record {
        served = served;
        playable = All-weaker (IsPlayable (home_of locks seats)) (IsPlayable home) (step_playable seats) script.steps plays.playable;
        pictured = plays.pictured;
        few = plays.few;
      }

      pub all_play : ((by : ℕ) → home.serves by ≡ true) → (starts ends : List (Moment B)) → All (HasNewSeats scene table locks) starts → AllZip (CameBack scene table locks) starts ends
          → All (MayPlay home scene.pictures) (scripts_of (map actor_at ends))
      all_play serves [] [] new_seats came = All-nil (MayPlay home scene.pictures)
      all_play serves [] (end ∷ ends) new_seats came = absurd came
      all_play serves (start ∷ starts) [] new_seats came = absurd came
      all_play serves (start ∷ starts) (end ∷ ends) new_seats came =
          let plays = may_play scene.pictures start.seats start.of.script (serves start.of.script.number) (All-head (HasNewSeats scene table locks) start starts new_seats).plays in
          let same : end.actor.script ≡ start.of.script = sym came.0.sound.is.script ∙ walk_script table (picture_at scene.pictures) locks start end came.0.walk in
          All-cons (MayPlay home scene.pictures) end.actor.script (scripts_of (map actor_at ends)) (subst (MayPlay home scene.pictures) (sym same) plays)
          (all_play serves starts ends (All-tail (HasNewSeats scene table locks) start starts new_seats) came.1)

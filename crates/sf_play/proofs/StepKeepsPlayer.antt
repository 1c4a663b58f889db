-- What a player keeps, where an actor's next step was tried.
use Rattle.std.proofs.Common.{◌≡◌, ℕ, zero, suc, ◌==◌, ◌≤◌, Bool, true, false, ◌||◌, ◌&&◌, inl, inr, List, [], ◌∷◌, ◌++◌, length, map, take, set, Some, refl, ap, ◌∙◌, sym, subst, arith, length-append}
use Rattle.std.specs.Prelude.{Contains, slice_get}
use Rattle.std.specs.List.{All, flat_map, list_any}
use Rattle.std.proofs.lemmas.Bool.{or_cases}
use Rattle.std.proofs.lemmas.List.{append-nil}
use Rattle.std.proofs.lemmas.List.Concat.{flat_map-append}
use Rattle.std.proofs.lemmas.List.Elements.{All-cons, All-nil, All-weaker, Contains-append_right}
use Rattle.atomic_table.specs.Seated.{TableId}
use Rattle.sf_picture.specs.declared.picture.Picture.{Picture}
use Rattle.sf_play_report.specs.sf_surface.declared.mark.QueueMark.{QueueMark}
use Rattle.sf_play_report.specs.sf_surface.Histories.{Made}
use Rattle.sf_play_report.specs.sf_surface.Tokens.{ReadLeaseOf}
use Rattle.sf_play_report.specs.sf_token.Pending.{Arrival}
use Rattle.sf_script_scene.specs.Scene.{SceneValue, has_queue}
use Rattle.sf_script_scene.specs.declared.declarations.QueueDecl.{QueueDecl}
use Rattle.sf_play_report.specs.sf_actor.declared.tried.Reply.{Reply}
use Rattle.sf_play_report.specs.sf_actor.declared.tried.Stepped.TheVariants as stepped
use Rattle.sf_play_report.specs.sf_actor.Desks.{DeskHome, DeskView, known_of, mark_among}
use Rattle.sf_play_report.specs.sf_actor.Known.{AreAmong, GoesOn, frame_of, plain_arrival}
use Rattle.sf_play_report.specs.sf_actor.Names.{FrameOf}
use Rattle.sf_play_report.specs.sf_actor.Plain.{home_of, view_of}
use Rattle.sf_play_report.specs.sf_actor.Scripts.{picture_at}
use Rattle.sf_play_report.specs.sf_actor.Tries.{ActorOf, DoesStep, Keeps, LeavesStep}
use Rattle.law_rights.specs.sf_actor_set.ActorSets.{ActorSetOf, IsSameActorSet, KeepAs, StepsAt}
use Rattle.law_rights.specs.sf_actor_steps.declared.actor.Actor.{Actor}
use Rattle.sf_play_report.specs.sf_record.declared.event.Event.{Event}
use Rattle.sf_play_report.specs.sf_record.declared.event.Event.TheVariants as event
use Rattle.sf_play_report.specs.sf_record.declared.event.VsyncRecords.{VsyncRecords}
use Rattle.sf_play_report.specs.sf_record.declared.record.TimelineValue.{TimelineValue}
use Rattle.sf_play_report.specs.law_played.Actors.{arrivals_of, mark_declared, number_of, run_of}
use Rattle.sf_play_report.specs.law_played.Frames.{ShowImages}
use Rattle.sf_play_report.specs.law_played.Histories.{released_in}
use Rattle.sf_play_report.specs.law_played.Progress.{AreWrittenToo, HasPlayed}
use Rattle.sf_play_report.specs.law_played.Replies.{reply_shown}
use Rattle.sf_play_report.specs.law_played.Runs.{signals_in}
use Rattle.sf_play_report.specs.law_played.Stages.{VsyncAt, told_of}
use Rattle.sf_play_report.specs.law_played.Telling.{TellRun}
use Rattle.sf_play_report.specs.law_played.Vsyncs.{AreVsyncs, WasSignalled, vsync_in, vsyncs_in}
use Rattle.sf_play_report.proofs.law_played_lemmas.RunGrowth.{does_step, leaves_step, not_none}
use Rattle.sf_play_report.proofs.law_played_lemmas.ToldGrowth.{written_kept}
use Rattle.sf_play_report.proofs.law_played_lemmas.StepKeepsTold.{Replaces, got_has, signals_more}
use Rattle.sf_play_report.proofs.law_played_lemmas.KeepingLemmas.{played_too}
use Rattle.sf_play_report.proofs.law_played_lemmas.Members.{has_map}
use Rattle.sf_play_report.proofs.law_played_lemmas.AsQueued.{one_passes}
use Rattle.sf_play_report.proofs.law_played_lemmas.ArrivedFrames.{any_passes}
use Rattle.sf_play.proofs.HandlerLeases.{arrived_lent_on, on_lent_on}
use Rattle.sf_play.specs.Players.{IsOfScene, PlayOf, SoFar, Stands, signals_so, taken_at, told_at, written_so}

-- the first ones stay where more follow
take_front : {X : Type 0} (xs ys : List X) (n : ℕ) → n ≤ length xs → take n (xs ++ ys) ≡ take n xs
take_front [] ys zero low = refl
take_front [] ys (suc n) low = absurd (omega arith)
take_front (x ∷ xs) ys zero low = refl
take_front {X} (x ∷ xs) ys (suc n) low = ap (λ (zs : List X). x ∷ zs) (take_front xs ys n (omega arith))

map_joined : {X Y : Type 0} (f : X → Y) (xs ys : List X) → map f (xs ++ ys) ≡ map f xs ++ map f ys
map_joined f [] ys = refl
map_joined {X} {Y} f (x ∷ xs) ys = ap (λ (zs : List Y). f x ∷ zs) (map_joined f xs ys)

-- a reply is no vsync
no_vsync : (events : List Event) (e : Event) → vsync_in e ≡ [] → vsyncs_in (events ++ e ∷ []) ≡ vsyncs_in events
unfolding vsyncs_in
no_vsync events e none = flat_map-append vsync_in events (e ∷ []) ∙ ap (λ (v : List VsyncRecords). flat_map vsync_in events ++ (v ++ [])) none ∙ append-nil (flat_map vsync_in events)

-- what was signalled stays signalled
still_signalled : (t : TimelineValue) (xs ys : List (ℕ × ℕ)) → AreAmong xs ys → WasSignalled xs t → WasSignalled ys t
still_signalled t xs ys more was = elim (or_cases (t.value == 0) (list_any (λ (s : ℕ × ℕ). (s.0 == t.timeline) && (s.1 == t.value)) xs) was) [
  | inl none ↦ rw none refl
  | inr made ↦
      let is_it : ℕ × ℕ → Bool = λ s. (s.0 == t.timeline) && (s.1 == t.value) in
      let found = one_passes is_it xs made in
      or_right (t.value == 0) (list_any is_it ys) (any_passes is_it ys found.0 (more found.0 found.1) found.2)
]
  where
    or_right : (a b : Bool) → b ≡ true → (a || b) ≡ true
    or_right true b e = refl
    or_right false b e = e

still_vsyncs : (scene : SceneValue) (xs ys : List (ℕ × ℕ)) (vsyncs : List VsyncRecords) → AreAmong xs ys → AreVsyncs scene xs vsyncs → AreVsyncs scene ys vsyncs
still_vsyncs scene xs ys vsyncs more are = record {
  from_1 = are.from_1;
  go_on = are.go_on;
  expected = are.expected;
  commit = are.commit;
  timelines = are.timelines;
  signalled = All-weaker (λ (v : VsyncRecords). All (WasSignalled xs) v.timelines) (λ (v : VsyncRecords). All (WasSignalled ys) v.timelines)
      (λ v. All-weaker (WasSignalled xs) (WasSignalled ys) (λ t. still_signalled t xs ys more) v.timelines) vsyncs are.signalled;
}

module _ {B : Type 0} where
  -- each actor of an actor set keeps what it keeps
  pub all_keep : (table : TableId) (pictures : ℕ → Picture) (home : DeskHome) (view : DeskView B) (actors : List (Actor B)) (ofs : List (ActorOf B))
      → KeepAs table pictures home view actors ofs → All (λ (of : ActorOf B). Keeps pictures home of view) ofs
  all_keep table pictures home view [] [] keep = All-nil (λ (of : ActorOf B). Keeps pictures home of view)
  all_keep table pictures home view [] (of ∷ ofs) keep = absurd keep
  all_keep table pictures home view (actor ∷ actors) [] keep = absurd keep
  all_keep table pictures home view (actor ∷ actors) (of ∷ ofs) keep =
      All-cons (λ (of : ActorOf B). Keeps pictures home of view) of ofs keep.0.keeps (all_keep table pictures home view actors ofs keep.1)

  -- what was taken is the same where more arrived
  taken_stays : (home : DeskHome) (old new : DeskView B) (later : List (Arrival ReadLeaseOf)) → home.taken ≤ length (arrivals_of old) → new.arrivals ≡ old.arrivals ++ later
      → take home.taken (arrivals_of new) ≡ take home.taken (arrivals_of old)
  taken_stays home old new later low joined =
      ap (λ (xs : List (Arrival ReadLeaseOf)). take home.taken (map plain_arrival xs)) joined
      ∙ ap (take home.taken) (map_joined plain_arrival old.arrivals later)
      ∙ take_front (map plain_arrival old.arrivals) (map plain_arrival later) home.taken low

  -- calls that go on without those of 0 forget none
  calls_last : (number : ℕ) (home : DeskHome) (old new : DeskView B) → GoesOn number (known_of home old) (known_of home new) → (queue : ℕ) (made : Made B) → Contains (old.calls queue) made → Contains (new.calls queue) made
  calls_last number home old new goes queue made there =
      let begins = (goes.calls queue).begins in
      subst (λ (xs : List (Made B)). Contains xs made) (sym begins.1) (Contains-append_right begins.0 (old.calls queue) made there)

  module _ (table : TableId) (scene : SceneValue) (so : SoFar B) (play : PlayOf B) (place : ℕ) (actor_set : ActorSetOf B) (stands : Stands table scene so play)
      (same : IsSameActorSet play.actor_set actor_set) (acts : actor_set.is_spent ≡ false) where
    abbrev later_play : PlayOf B
    later_play = record play { actor_set = actor_set }

    of_scene : IsOfScene scene later_play
    of_scene = record {
      limits = stands.of_scene.limits;
      period = stands.of_scene.period;
      order = stands.of_scene.order;
      pictures = same.pictures ∙ stands.of_scene.pictures;
      width = stands.of_scene.width;
      height = stands.of_scene.height;
      unlent = stands.of_scene.unlent;
      decides = stands.of_scene.decides;
      acts = acts;
    }

    -- the step is done
    module _ (s : StepsAt table (picture_at scene.pictures) place play.actor_set.actors so.actors play.actor_set.desk actor_set.actors actor_set.desk stepped.Done) where
      abbrev reply : Reply
      reply = s.tries.0

      abbrev pub later_so : SoFar B
      later_so = record { actors = set so.actors place s.new; events = so.events ++ event.Reply (reply_shown reply) ∷ [] }

      abbrev before : DeskView B
      before = view_of play.actor_set.desk

      abbrev after : DeskView B
      after = view_of actor_set.desk

      does : DoesStep (picture_at scene.pictures) (home_of play.actor_set.desk) s.old before s.new after reply
      does = s.tries.1

      by : Replaces so.actors place s.old s.new
      by = record { here = s.here; script = ap (λ (of : ActorOf B). of.script) does.same; more = does.done ∷ []; trace = does.trace }

      alone : GoesOn 0 (known_of (home_of play.actor_set.desk) before) (known_of (home_of play.actor_set.desk) after)
      alone = does.alone refl 0 (not_none scene so.actors (home_of play.actor_set.desk) before s.old.script.number stands.of_scene.limits stands.tell.actors (has_map number_of so.actors s.old (got_has so.actors place s.old s.here)))

      same_vsyncs : vsyncs_in later_so.events ≡ vsyncs_in so.events
      same_vsyncs = no_vsync so.events (event.Reply (reply_shown reply)) refl

      same_taken : taken_at later_play ≡ taken_at play
      same_taken =
          ap (λ (h : DeskHome). take h.taken (arrivals_of after)) same.home
          ∙ taken_stays (home_of play.actor_set.desk) before after alone.arrivals.later stands.desk.taken alone.arrivals.joined

      same_told : told_at scene later_so later_play ≡ told_at scene so play
      same_told = λ i. told_of scene (same_taken i) (same_vsyncs i)

      tells : TellRun scene later_so.actors (home_of play.actor_set.desk) after later_so.events (released_in (told_at scene so play))
      tells = does_step scene so.actors (home_of play.actor_set.desk) before after so.events (released_in (told_at scene so play)) place s.old s.new reply
          stands.of_scene.limits refl s.here does
          (subst (λ (h : DeskHome). All (λ (of : ActorOf B). Keeps (picture_at scene.pictures) h of after) (set so.actors place s.new)) same.home
          (all_keep table (picture_at scene.pictures) (home_of actor_set.desk) after actor_set.actors (set so.actors place s.new) s.keep))
          stands.tell

      signals : AreAmong (signals_so scene so play) (signals_so scene later_so later_play)
      signals = subst (λ (h : DeskHome). AreAmong (signals_so scene so play) (signals_in scene (run_of later_so.actors h after))) (sym same.home)
          (signals_more scene so.actors (home_of play.actor_set.desk) before after place s.old s.new by)

      written : AreWrittenToo (written_so scene so play) (written_so scene later_so later_play)
      written = written_kept scene so.actors (home_of play.actor_set.desk) (home_of actor_set.desk) before after place s.old s.new by

      still : (queue : ℕ) (made : Made B) → Contains (before.calls queue) made → Contains (after.calls queue) made
      still = calls_last 0 (home_of play.actor_set.desk) before after alone

      pub stands_done : Stands table scene later_so later_play
      stands_done = record {
        of_scene = of_scene;
        keep = s.keep;
        tell = subst (λ (h : DeskHome). TellRun scene later_so.actors h after later_so.events (released_in (told_at scene later_so later_play))) (sym same.home)
            (subst (λ (told : List VsyncAt). TellRun scene later_so.actors (home_of play.actor_set.desk) after later_so.events (released_in told)) (sym same_told) tells);
        desk = record {
          marks = subst (λ (h : DeskHome). All (λ (queue : QueueDecl). mark_among h.marks queue.number ≡ mark_declared queue) scene.queues) (sym same.home) stands.desk.marks;
          declared = subst (λ (h : DeskHome). All (λ (mark : QueueMark). has_queue scene.queues mark.queue.0 ≡ true) h.marks) (sym same.home) stands.desk.declared;
          taken =
              let more = ap (λ (xs : List (Arrival ReadLeaseOf)). length (map plain_arrival xs)) alone.arrivals.joined in
              let split = ap (λ (xs : List (Arrival FrameOf)). length xs) (map_joined plain_arrival before.arrivals alone.arrivals.later) in
              let long = length-append (map plain_arrival before.arrivals) (map plain_arrival alone.arrivals.later) in
              let held = ap (λ (h : DeskHome). h.taken) same.home in
              let low = stands.desk.taken in
              omega (arith, more, split, long, held, low);
        };
        vsyncs = record {
          vsyncs = subst (AreVsyncs scene (signals_so scene later_so later_play)) (sym same_vsyncs)
              (still_vsyncs scene (signals_so scene so play) (signals_so scene later_so later_play) (vsyncs_in so.events) signals stands.vsyncs.vsyncs);
          numbers = subst (All (λ (vsync : VsyncRecords). vsync.number ≤ play.vsyncs)) (sym same_vsyncs) stands.vsyncs.numbers;
          last = stands.vsyncs.last ∙ sym (ap (λ (h : DeskHome). h.taken) same.home);
          played = subst (λ (vs : List VsyncRecords). HasPlayed frame_of scene (written_so scene later_so later_play) (taken_at later_play) vs play.handler) (sym same_vsyncs)
              (subst (λ (taken : List (Arrival FrameOf)). HasPlayed frame_of scene (written_so scene later_so later_play) taken (vsyncs_in so.events) play.handler) (sym same_taken)
              (played_too frame_of scene (written_so scene so play) (written_so scene later_so later_play) (taken_at play) (vsyncs_in so.events) play.handler written stands.vsyncs.played));
          frames = subst (ShowImages scene) (sym same_told) stands.vsyncs.frames;
        };
        leases = record {
          pending = arrived_lent_on before after still play.handler.pending stands.leases.pending;
          on = on_lent_on before after still play.handler.on stands.leases.on;
        };
      }

    -- nothing was done: no call, no arrival and no signal is new
    module _ (tells : TellRun scene so.actors (home_of play.actor_set.desk) (view_of actor_set.desk) so.events (released_in (told_at scene so play)))
        (keep : KeepAs table (picture_at scene.pictures) (home_of actor_set.desk) (view_of actor_set.desk) actor_set.actors so.actors)
        (calls : (queue : ℕ) → (view_of actor_set.desk).calls queue ≡ (view_of play.actor_set.desk).calls queue) (arrivals : (view_of actor_set.desk).arrivals ≡ (view_of play.actor_set.desk).arrivals) where
      left_taken : taken_at later_play ≡ taken_at play
      left_taken =
          ap (λ (h : DeskHome). take h.taken (arrivals_of (view_of actor_set.desk))) same.home
          ∙ ap (λ (xs : List (Arrival ReadLeaseOf)). take (home_of play.actor_set.desk).taken (map plain_arrival xs)) arrivals

      left_told : told_at scene so later_play ≡ told_at scene so play
      left_told = ap (λ (taken : List (Arrival FrameOf)). told_of scene taken (vsyncs_in so.events)) left_taken

      left_calls : (queue : ℕ) (made : Made B) → Contains ((view_of play.actor_set.desk).calls queue) made → Contains ((view_of actor_set.desk).calls queue) made
      left_calls queue made there = subst (λ (xs : List (Made B)). Contains xs made) (sym (calls queue)) there

      pub stands_left : Stands table scene so later_play
      stands_left = record {
        of_scene = of_scene;
        keep = keep;
        tell = subst (λ (h : DeskHome). TellRun scene so.actors h (view_of actor_set.desk) so.events (released_in (told_at scene so later_play))) (sym same.home)
            (subst (λ (told : List VsyncAt). TellRun scene so.actors (home_of play.actor_set.desk) (view_of actor_set.desk) so.events (released_in told)) (sym left_told) tells);
        desk = record {
          marks = subst (λ (h : DeskHome). All (λ (queue : QueueDecl). mark_among h.marks queue.number ≡ mark_declared queue) scene.queues) (sym same.home) stands.desk.marks;
          declared = subst (λ (h : DeskHome). All (λ (mark : QueueMark). has_queue scene.queues mark.queue.0 ≡ true) h.marks) (sym same.home) stands.desk.declared;
          taken =
              let many = ap (λ (xs : List (Arrival ReadLeaseOf)). length (map plain_arrival xs)) arrivals in
              let held = ap (λ (h : DeskHome). h.taken) same.home in
              let low = stands.desk.taken in
              omega (arith, many, held, low);
        };
        vsyncs = record {
          vsyncs = stands.vsyncs.vsyncs;
          numbers = stands.vsyncs.numbers;
          last = stands.vsyncs.last ∙ sym (ap (λ (h : DeskHome). h.taken) same.home);
          played = subst (λ (taken : List (Arrival FrameOf)). HasPlayed frame_of scene (written_so scene so play) taken (vsyncs_in so.events) play.handler) (sym left_taken) stands.vsyncs.played;
          frames = subst (ShowImages scene) (sym left_told) stands.vsyncs.frames;
        };
        leases = record {
          pending = arrived_lent_on (view_of play.actor_set.desk) (view_of actor_set.desk) left_calls play.handler.pending stands.leases.pending;
          on = on_lent_on (view_of play.actor_set.desk) (view_of actor_set.desk) left_calls play.handler.on stands.leases.on;
        };
      }

    -- one in its own place
    in_place : (ofs : List (ActorOf B)) (n : ℕ) (old new : ActorOf B) → slice_get ofs n ≡ Some old → new ≡ old → set ofs n new ≡ ofs
    in_place [] n old new here is = refl
    in_place (of ∷ ofs) zero old new here is = ap (λ (o : ActorOf B). o ∷ ofs) (is ∙ sym (same_one of old here))
      where
        same_one : (a b : ActorOf B) → Some a ≡ Some b → a ≡ b
        same_one a b e = cc
    in_place (of ∷ ofs) (suc n) old new here is = ap (λ (rest : List (ActorOf B)). of ∷ rest) (in_place ofs n old new here is)

    -- the step is not done
    module _ (s : StepsAt table (picture_at scene.pictures) place play.actor_set.actors so.actors play.actor_set.desk actor_set.actors actor_set.desk stepped.NotYet) where
      leaves : LeavesStep (picture_at scene.pictures) (home_of play.actor_set.desk) s.old (view_of play.actor_set.desk) s.new (view_of actor_set.desk)
      leaves = s.tries

      pub same_left : set so.actors place s.new ≡ so.actors
      same_left = in_place so.actors place s.old s.new s.here leaves.same

      pub stands_waiting : Stands table scene so later_play
      stands_waiting =
          let keep = subst (KeepAs table (picture_at scene.pictures) (home_of actor_set.desk) (view_of actor_set.desk) actor_set.actors) same_left s.keep in
          let all = subst (λ (h : DeskHome). All (λ (of : ActorOf B). Keeps (picture_at scene.pictures) h of (view_of actor_set.desk)) (set so.actors place s.new)) same.home
          (all_keep table (picture_at scene.pictures) (home_of actor_set.desk) (view_of actor_set.desk) actor_set.actors (set so.actors place s.new) s.keep) in
          stands_left
          (subst (λ (ofs : List (ActorOf B)). TellRun scene ofs (home_of play.actor_set.desk) (view_of actor_set.desk) so.events (released_in (told_at scene so play))) same_left
          (leaves_step scene so.actors (home_of play.actor_set.desk) (view_of play.actor_set.desk) (view_of actor_set.desk) so.events (released_in (told_at scene so play)) place s.old s.new refl s.here leaves all stands.tell))
          keep (leaves.calls refl) leaves.arrivals

    -- no step is left
    module _ (s : StepsAt table (picture_at scene.pictures) place play.actor_set.actors so.actors play.actor_set.desk actor_set.actors actor_set.desk stepped.Ended) where
      pub same_ended : set so.actors place s.new ≡ so.actors
      same_ended = in_place so.actors place s.old s.new s.here s.tries.0

      pub stands_ended : Stands table scene so later_play
      stands_ended =
          let view : view_of actor_set.desk ≡ view_of play.actor_set.desk = s.tries.1 in
          stands_left
          (subst (λ (v : DeskView B). TellRun scene so.actors (home_of play.actor_set.desk) v so.events (released_in (told_at scene so play))) (sym view) stands.tell)
          (subst (KeepAs table (picture_at scene.pictures) (home_of actor_set.desk) (view_of actor_set.desk) actor_set.actors) same_ended s.keep)
          (λ queue. ap (λ (v : DeskView B). v.calls queue) view) (ap (λ (v : DeskView B). v.arrivals) view)

-- What a player keeps stands before its first action.
use Rattle.std.proofs.Common.{◌≡◌, ◌≢◌, ℕ, zero, suc, ◌*◌, ◌<◌, ◌≤◌, ◌==◌, true, false, List, [], ◌∷◌, length, map, take, drop, refl, ap, sym, ◌∙◌, subst, inl, inr, arith}
use Rattle.std.specs.Prelude.{Contains}
use Rattle.std.specs.List.{All, AllPairs, AllZip}
use Rattle.std.specs.List.Sorted.{IsPermutation, IsStrictlyIncreasing}
use Rattle.std.proofs.lemmas.Bool.{eq-eqb, ne_eqb}
use Rattle.std.proofs.lemmas.List.Elements.{All-cons, All-contains, All-head, All-nil, All-tail}
use Rattle.std.proofs.lemmas.List.Sorted.{All-permutation, Contains-permutation}
use Rattle.atomic_table.specs.Seated.{TableId}
use Rattle.sf_picture.specs.declared.picture.Picture.{Picture}
use Rattle.sf_play_report.specs.sf_surface.Histories.{Made, told}
use Rattle.sf_play_report.specs.sf_surface.Objects.{ObjectOf, mark_of}
use Rattle.sf_play_report.specs.sf_surface.Tokens.{ReadLeaseOf}
use Rattle.sf_play_report.specs.sf_surface.declared.mark.QueueMark.{QueueMark}
use Rattle.sf_play_report.specs.sf_times.declared.protocol.Knows.{Knows}
use Rattle.sf_play_report.specs.sf_token.Arrivals.{sent}
use Rattle.sf_play_report.specs.sf_token.Pending.{Arrival}
use Rattle.sf_play_report.specs.sf_turns.Views.{SeatView}
use Rattle.sf_play_report.specs.sf_txn.Buffers.{Buffer}
use Rattle.sf_play_report.specs.sf_commit.Handlers.{HandlerOf, new_handler}
use Rattle.sf_play_report.specs.sf_commit.OnLayers.{OnLayer}
use Rattle.sf_script_scene.specs.Limits.{IsWithinLimits, most_layers}
use Rattle.sf_script_scene.specs.Scene.{SceneValue, has_queue}
use Rattle.sf_script_scene.specs.declared.declarations.QueueDecl.{QueueDecl}
use Rattle.sf_script_scene.specs.declared.step.ActorScript.{ActorScript}
use Rattle.sf_play_report.specs.sf_actor.Desks.{mark_among}
use Rattle.sf_play_report.specs.sf_actor.Known.{frame_of, plain_arrival}
use Rattle.sf_play_report.specs.sf_actor.Names.{FrameOf}
use Rattle.sf_play_report.specs.sf_actor.Plain.{PlainOf, calls_among, home_of, taken_in, view_of}
use Rattle.sf_play_report.specs.sf_actor.Scripts.{picture_at}
use Rattle.sf_play_report.specs.sf_actor.Tries.{ActorOf, dequeues_in}
use Rattle.law_rights.proofs.sf_actor_set_lemmas.OpeningLemmas.{none_called}
use Rattle.law_rights.proofs.sf_actor_set_lemmas.RisingLemmas.{rising_differ, sorted_rises}
use Rattle.law_rights.specs.sf_actor_set.ActorSets.{KeepAs, Opens}
use Rattle.law_rights.specs.sf_actor_set.Opening.{new_actors, new_queue}
use Rattle.sf_play_report.specs.sf_record.declared.event.VsyncRecords.{VsyncRecords}
use Rattle.sf_play_report.specs.sf_record.declared.record.ReplyRecord.{ReplyRecord}
use Rattle.sf_play_report.proofs.law_played_lemmas.StepKeepsTold.{of_all}
use Rattle.sf_play_report.proofs.law_played_lemmas.KeepingLemmas.{none_played}
use Rattle.sf_play_report.proofs.law_played_lemmas.Members.{has_cases, has_map, has_none}
use Rattle.sf_play_report.specs.law_played.Actors.{IsCallBy, mark_declared, number_of, script_of, told_on}
use Rattle.sf_play_report.specs.law_played.Frames.{ShowsImage}
use Rattle.sf_play_report.specs.law_played.Histories.{IsReleased, Released, queue_number, released_in, released_on}
use Rattle.sf_play_report.specs.law_played.Progress.{HasPlayed}
use Rattle.sf_play_report.specs.law_played.Replies.{replies_in, replies_to, reply_shown}
use Rattle.sf_play_report.specs.law_played.Runs.{calls_of}
use Rattle.sf_play_report.specs.law_played.Stages.{told_from, told_of}
use Rattle.sf_play_report.specs.law_played.Vsyncs.{WasSignalled, rising_timelines, timeline_of, vsyncs_in}
use Rattle.sf_play.proofs.VsyncKeepsPlayer.{keeps_all}
use Rattle.sf_play.proofs.SeenTimelines.{any_has}
use Rattle.sf_play.specs.Players.{AreLent, IsBufferLent, PlayOf, SoFar, Stands, VsyncsStand, signals_so, taken_at, written_so}

-- the marks of queues of which each has a number of its own
mark_here : (B : Type 0) (queues : List QueueDecl) (queue : QueueDecl) → AllPairs (λ m n. m ≢ n) (map queue_number queues) → Contains queues queue
    → mark_among (map mark_of (map (new_queue {B = B}) queues)) queue.number ≡ mark_declared queue
mark_here B [] queue differ there = has_none queue there
mark_here B (first ∷ queues) queue differ there = elim (has_cases first queue queues there) [
  | inl same ↦
      let met : (first.number == queue.number) ≡ true = eq-eqb first.number queue.number (ap queue_number same) in
      rw met (ap mark_declared same)
  | inr later ↦
      let others : All (λ (n : ℕ). first.number ≢ n) (map queue_number queues) = λ k d below. differ zero (suc k) d (omega arith) (omega (arith, below)) in
      let apart = All-contains (λ (n : ℕ). first.number ≢ n) (map queue_number queues) queue.number others (has_map queue_number queues queue later) in
      let unmet : (first.number == queue.number) ≡ false = ne_eqb first.number queue.number apart in
      rw unmet (mark_here B queues queue (λ i j d up below. differ (suc i) (suc j) d (omega arith) (omega arith)) later)
]

marks_known : (B : Type 0) (known queues : List QueueDecl) → All (λ (q : QueueDecl). has_queue known q.number ≡ true) queues → All (λ (mark : QueueMark). has_queue known mark.queue.0 ≡ true) (map mark_of (map (new_queue {B = B}) queues))
marks_known B known [] all = All-nil (λ (mark : QueueMark). has_queue known mark.queue.0 ≡ true)
marks_known B known (q ∷ queues) all =
    All-cons (λ (mark : QueueMark). has_queue known mark.queue.0 ≡ true) (mark_declared q) (map mark_of (map (new_queue {B = B}) queues)) (All-head (λ (q : QueueDecl). has_queue known q.number ≡ true) q queues all)
    (marks_known B known queues (All-tail (λ (q : QueueDecl). has_queue known q.number ≡ true) q queues all))

module _ {B : Type 0} (table : TableId) (scene : SceneValue) (limits : IsWithinLimits scene) (seat : SeatView) (stock : List ℕ) (play : PlayOf B) (opens : Opens table scene.queues scene.pictures scene.actors seat stock play.actor_set)
    (period : play.period ≡ scene.period) (order : play.order ≡ scene.order) (handler : play.handler ≡ new_handler scene.width scene.height (most_layers scene.version)) (none : play.vsyncs ≡ 0) where
  abbrev desk : PlainOf B
  desk = play.actor_set.desk

  abbrev ofs : List (ActorOf B)
  ofs = new_actors opens.declared stock

  -- nothing happened
  abbrev pub nothing : SoFar B
  nothing = record { actors = ofs; events = [] }

  scripts_are : (scripts : List ActorScript) (stock : List ℕ) → map script_of (new_actors {B = B} scripts stock) ≡ scripts
  scripts_are [] stock = refl
  scripts_are (script ∷ scripts) stock = ap (λ (ss : List ActorScript). script ∷ ss) (scripts_are scripts (drop (dequeues_in script.steps) stock))

  numbers_are : (scripts : List ActorScript) (stock : List ℕ) → map number_of (new_actors {B = B} scripts stock) ≡ map (λ (s : ActorScript). s.number) scripts
  numbers_are [] stock = refl
  numbers_are (script ∷ scripts) stock = ap (λ (ns : List ℕ). script.number ∷ ns) (numbers_are scripts (drop (dequeues_in script.steps) stock))

  no_replies : (scripts : List ActorScript) (stock : List ℕ) → All (λ (of : ActorOf B). replies_to of.script.number [] ≡ map reply_shown of.replies) (new_actors scripts stock)
  unfolding replies_in
  no_replies [] stock = All-nil (λ (of : ActorOf B). replies_to of.script.number [] ≡ map reply_shown of.replies)
  no_replies (script ∷ scripts) stock =
      All-cons (λ (of : ActorOf B). replies_to of.script.number [] ≡ map reply_shown of.replies) _ (new_actors scripts (drop (dequeues_in script.steps) stock)) refl (no_replies scripts (drop (dequeues_in script.steps) stock))

  none_replied : All (λ (reply : ReplyRecord). Contains (map number_of ofs) reply.actor) (replies_in [])
  unfolding replies_in
  none_replied = All-nil (λ (reply : ReplyRecord). Contains (map number_of ofs) reply.actor)

  pub calls_none : (queue : ℕ) → (view_of desk).calls queue ≡ []
  calls_none queue = ap (λ (os : List (ObjectOf B)). calls_among os queue) opens.queues_opened.opened ∙ none_called opens.queues_opened.declared queue

  pub arrivals_none : (view_of desk).arrivals ≡ []
  arrivals_none = ap sent opens.none_arrived

  signals_none : (view_of desk).times.signals ≡ []
  signals_none = ap (λ (k : Knows). k.signals) opens.none_raised

  nothing_released : released_in (told_of scene (take (home_of desk).taken (map plain_arrival (view_of desk).arrivals)) (vsyncs_in [])) ≡ []
  unfolding released_in told_from vsyncs_in
  nothing_released = refl

  no_calls : (queue : ℕ) → calls_of 0 (told_on (home_of desk) (view_of desk) queue) ≡ []
  unfolding told
  no_calls queue = ap (λ (cs : List (Made B)). calls_of 0 (told (mark_among (home_of desk).marks queue) cs)) (calls_none queue)

  declared_all : All (λ (q : QueueDecl). has_queue scene.queues q.number ≡ true) opens.queues_opened.declared
  declared_all = All-permutation (λ (q : QueueDecl). has_queue scene.queues q.number ≡ true) scene.queues opens.queues_opened.declared opens.queues_opened.sorted.permutation
      (of_all (λ (q : QueueDecl). has_queue scene.queues q.number ≡ true) scene.queues (λ q there. any_has (λ (x : QueueDecl). x.number == q.number) scene.queues q there (eq-eqb q.number q.number refl)))

  marks_are : (home_of desk).marks ≡ map mark_of (map (new_queue {B = B}) opens.queues_opened.declared)
  marks_are = ap (map mark_of) opens.queues_opened.opened

  taken_none : (home_of desk).taken ≡ 0
  taken_none = ap taken_in opens.none_arrived

  none_taken : take (home_of desk).taken (map plain_arrival (view_of desk).arrivals) ≡ []
  none_taken = ap (λ (n : ℕ). take n (map plain_arrival (view_of desk).arrivals)) taken_none

  vsyncs_none : VsyncsStand scene nothing play
  unfolding vsyncs_in told_from
  vsyncs_none = record {
    vsyncs = record {
      from_1 = All-nil (λ (vsync : VsyncRecords). 0 < vsync.number);
      go_on = tt;
      expected = All-nil (λ (vsync : VsyncRecords). vsync.expected ≡ vsync.number * scene.period);
      commit = All-nil (λ (vsync : VsyncRecords). vsync.commits ≢ []);
      timelines = All-nil (λ (vsync : VsyncRecords). map timeline_of vsync.timelines ≡ rising_timelines scene);
      signalled = All-nil (λ (vsync : VsyncRecords). All (WasSignalled (signals_so scene nothing play)) vsync.timelines);
    };
    numbers = All-nil (λ (vsync : VsyncRecords). vsync.number ≤ play.vsyncs);
    last = ap (λ (h : HandlerOf ReadLeaseOf). h.last) handler ∙ sym taken_none;
    played = subst (λ (h : HandlerOf ReadLeaseOf). HasPlayed frame_of scene (written_so scene nothing play) (taken_at play) [] h) (sym handler)
        (subst (λ (xs : List (Arrival FrameOf)). HasPlayed frame_of scene (written_so scene nothing play) xs [] (new_handler scene.width scene.height (most_layers scene.version))) (sym none_taken)
        (none_played frame_of scene (written_so scene nothing play) scene.width scene.height));
    frames = All-nil (ShowsImage scene);
  }

  pub stands_at_first : Stands table scene nothing play
  stands_at_first = record {
    of_scene = record {
      limits = limits;
      period = period;
      order = order;
      pictures = opens.same_pictures;
      width = ap (λ (h : HandlerOf ReadLeaseOf). h.width) handler;
      height = ap (λ (h : HandlerOf ReadLeaseOf). h.height) handler;
      unlent = ap (λ (h : HandlerOf ReadLeaseOf). h.lent) handler;
      decides = ap (λ (h : HandlerOf ReadLeaseOf). h.is_spent) handler;
      acts = opens.unspent;
    };
    keep = keep_first;
    tell = record {
      actors = record {
        scripts = subst (IsPermutation scene.actors) (sym (scripts_are opens.declared stock)) opens.sorted.permutation;
        apart = subst IsStrictlyIncreasing (sym (numbers_are opens.declared stock)) (sorted_rises (λ (s : ActorScript). s.number) scene.actors opens.declared limits.actors.differ opens.sorted);
        keep = keeps_all table (picture_at scene.pictures) (home_of desk) (view_of desk) play.actor_set.actors ofs keep_first;
      };
      signals = λ p there. has_none p (subst (λ (xs : List (ℕ × ℕ)). Contains xs p) signals_none there);
      callers = λ queue. subst (All (IsCallBy ofs)) (sym (calls_none queue)) (All-nil (IsCallBy ofs));
      senders = subst (All (λ (arrived : Arrival ReadLeaseOf). Contains (map number_of ofs) arrived.actor.0)) (sym arrivals_none) (All-nil (λ (arrived : Arrival ReadLeaseOf). Contains (map number_of ofs) arrived.actor.0));
      replies = record { of_each = no_replies opens.declared stock; of_none_else = none_replied };
      releases = subst (λ (rs : List Released). All (λ (queue : QueueDecl). AllZip IsReleased (released_on queue.number rs) (calls_of 0 (told_on (home_of desk) (view_of desk) queue.number))) scene.queues) (sym nothing_released)
          (of_all (λ (queue : QueueDecl). AllZip IsReleased [] (calls_of 0 (told_on (home_of desk) (view_of desk) queue.number))) scene.queues (λ queue there. subst (AllZip IsReleased []) (sym (no_calls queue.number)) tt));
    };
    desk = record {
      marks = of_all (λ (queue : QueueDecl). mark_among (home_of desk).marks queue.number ≡ mark_declared queue) scene.queues (λ queue there.
          subst (λ (ms : List QueueMark). mark_among ms queue.number ≡ mark_declared queue) (sym marks_are)
          (mark_here B opens.queues_opened.declared queue (rising_differ (map queue_number opens.queues_opened.declared) (sorted_rises queue_number scene.queues opens.queues_opened.declared limits.queues.differ opens.queues_opened.sorted))
          (Contains-permutation scene.queues opens.queues_opened.declared queue opens.queues_opened.sorted.permutation there)));
      declared = subst (All (λ (mark : QueueMark). has_queue scene.queues mark.queue.0 ≡ true)) (sym marks_are) (marks_known B scene.queues opens.queues_opened.declared declared_all);
      taken = low taken_none;
    };
    vsyncs = vsyncs_none;
    leases = record {
      pending = subst (λ (h : HandlerOf ReadLeaseOf). AreLent (view_of desk) h.pending) (sym handler) (All-nil (λ (arrived : Arrival ReadLeaseOf). All (λ (buffer : Buffer ReadLeaseOf). IsBufferLent (view_of desk) buffer.shown buffer.lease) arrived.txn.buffers));
      on = subst (λ (h : HandlerOf ReadLeaseOf). All (λ (one : OnLayer ReadLeaseOf). IsBufferLent (view_of desk) one.shown one.lease) h.on) (sym handler) (All-nil (λ (one : OnLayer ReadLeaseOf). IsBufferLent (view_of desk) one.shown one.lease));
    };
  }
    where
      keep_first : KeepAs table (picture_at scene.pictures) (home_of desk) (view_of desk) play.actor_set.actors ofs
      keep_first = subst (λ (ps : List Picture). KeepAs table (picture_at ps) (home_of desk) (view_of desk) play.actor_set.actors ofs) opens.same_pictures opens.keep

      low : (home_of desk).taken ≡ 0 → (home_of desk).taken ≤ length (map plain_arrival (view_of desk).arrivals)
      low e = omega (arith, e)

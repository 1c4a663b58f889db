-- What a player keeps stands after a vsync.
use Rattle.std.proofs.Common.{◌≡◌, ◌≢◌, ℕ, ◌+◌, ◌*◌, ◌≤◌, true, List, [], ◌∷◌, ◌++◌, length, map, take, refl, ap, sym, ◌∙◌, subst, arith}
use Rattle.std.specs.Prelude.{Contains}
use Rattle.std.specs.List.{All, AllZip}
use Rattle.std.proofs.lemmas.List.{append-nil, length-map, map-append, take-map, take_all}
use Rattle.std.proofs.lemmas.List.Concat.{flat_map-append}
use Rattle.std.proofs.lemmas.List.Elements.{All-append, All-cons, All-nil, All-tail, All-weaker}
use Rattle.atomic_table.specs.Seated.{TableId}
use Rattle.sf_base.specs.declared.fences.Seen.{Seen}
use Rattle.sf_picture.specs.declared.picture.Picture.{Picture}
use Rattle.sf_play_report.specs.sf_surface.declared.mark.QueueMark.{QueueMark}
use Rattle.sf_play_report.specs.sf_surface.Histories.{Made}
use Rattle.sf_play_report.specs.sf_surface.Tokens.{Issued, ReadLeaseOf}
use Rattle.sf_play_report.specs.sf_times.declared.protocol.Knows.{Knows}
use Rattle.sf_play_report.specs.sf_token.Arrivals.{Calls, sent, waiting}
use Rattle.sf_play_report.specs.sf_token.Pending.{Arrival, IsRisingFrom}
use Rattle.sf_play_report.specs.sf_turns.Views.{SeatView}
use Rattle.sf_play_report.specs.sf_txn.declared.lease.Lease.{Ghosts}
use Rattle.sf_play_report.specs.sf_commit.Handlers.{HandlerOf, last_of}
use Rattle.sf_play_report.specs.sf_commit.OnLayers.{OnLayer}
use Rattle.sf_play_report.specs.sf_commit.Leases.{IsReleaseOf}
use Rattle.sf_play_report.specs.sf_commit.Releases.{ReleaseOf, CommittedOf}
use Rattle.sf_play_report.specs.sf_commit.declared.vsync.Commit.{Commit}
use Rattle.sf_script_scene.specs.Scene.{SceneValue, has_queue}
use Rattle.sf_script_scene.specs.declared.declarations.QueueDecl.{QueueDecl}
use Rattle.sf_play_report.specs.sf_actor.Desks.{DeskHome, DeskView, mark_among}
use Rattle.sf_play_report.specs.sf_actor.Known.{frame_of, plain_arrival}
use Rattle.sf_play_report.specs.sf_actor.Names.{FrameOf}
use Rattle.sf_play_report.specs.sf_actor.Plain.{PlainOf, calls_among, home_of, taken_in, view_of}
use Rattle.sf_play_report.specs.sf_actor.Scripts.{picture_at}
use Rattle.sf_play_report.specs.sf_actor.Tries.{ActorOf, Keeps}
use Rattle.law_rights.specs.sf_actor_steps.declared.actor.Actor.{Actor}
use Rattle.law_rights.proofs.sf_actor_set_lemmas.ArrivalLemmas.{sent_is, waiting_last, waiting_rises}
use Rattle.law_rights.specs.sf_actor_set.ActorSets.{ActorSetOf, KeepAs}
use Rattle.law_rights.specs.sf_actor_set.Compositing.{OnlyDesk}
use Rattle.sf_play_report.specs.sf_record.declared.event.Event.{Event}
use Rattle.sf_play_report.specs.sf_record.declared.event.Event.TheVariants as event
use Rattle.sf_play_report.specs.sf_record.declared.event.VsyncRecords.{VsyncRecords}
use Rattle.sf_play_report.proofs.law_played_lemmas.RunGrowth.{nothing_told, tells_vsync}
use Rattle.sf_play_report.proofs.law_played_lemmas.LeaseLemmas.{images_go_on, plain_arrivals, plain_frame, releases_go_on}
use Rattle.sf_play_report.proofs.law_played_lemmas.ProgressLemmas.{goes_further, goes_on_by, goes_silently, releases_nothing, tells_no_more}
use Rattle.sf_play_report.specs.law_played.Actors.{mark_declared}
use Rattle.sf_play_report.specs.law_played.Commits.{commit_shown}
use Rattle.sf_play_report.specs.law_played.Frames.{ShowImages}
use Rattle.sf_play_report.specs.law_played.Framing.{framed_arrival, framed_on}
use Rattle.sf_play_report.specs.law_played.Histories.{Released, released_in}
use Rattle.sf_play_report.specs.law_played.Progress.{GoesOnBy, HasPlayed, SaysVsync, WroteWhatShows}
use Rattle.sf_play_report.specs.law_played.Stages.{told_of}
use Rattle.sf_play_report.specs.law_played.Telling.{TellRun}
use Rattle.sf_play_report.specs.law_played.Vsyncs.{AreVsyncs, vsync_in, vsyncs_in}
use Rattle.sf_play.proofs.ArrivedFrames.{arrivals_lent}
use Rattle.sf_play.proofs.HandlerLeases.{IsArrivedLent, IsOnLent, OfFrames, arrived_lent_on, gone_lent, on_lent_on, stays_lent, waits_lent}
use Rattle.sf_play.proofs.CompositorReleases.{gives_grow, gives_same, gives_told}
use Rattle.sf_play.proofs.SeenTimelines.{SeesSignals, saw_is, sees_signals, vsyncs_more}
use Rattle.law_rights.specs.Standing.{GiveAll}
use Rattle.sf_play.specs.Players.{DeskStands, IsOfScene, LeasesStand, PlayOf, SoFar, Stands, arrived_at, signals_so, taken_at, told_at, written_so}
use Rattle.sf_play.specs.Showing.{vsync_shown}
use Rattle.sf_play.specs.Vsyncing.{MakesVsync}

pub vsyncs_in_more : (events : List Event) (report : VsyncRecords) → vsyncs_in (events ++ event.Vsync report ∷ []) ≡ vsyncs_in events ++ report ∷ []
unfolding vsyncs_in
vsyncs_in_more events report = flat_map-append vsync_in events (event.Vsync report ∷ [])

back_all : {X : Type 0} (P : X → Type 0) (xs ys : List X) → All P (xs ++ ys) → All P ys
back_all P [] ys all = all
back_all P (x ∷ xs) ys all = back_all P xs ys (All-tail P x (xs ++ ys) all)

module _ {B : Type 0} where
  -- two changes of the desk alone
  pub only_twice : (table : TableId) (one two : ℕ) (a b c : ActorSetOf B) → OnlyDesk table one a b → OnlyDesk table two b c → OnlyDesk table two a c
  only_twice table one two a b c first second = record {
    same = second.same ∙ ap (λ (x : ActorSetOf B). record x { desk = c.desk }) first.same;
    home = second.home ∙ ap (λ (h : DeskHome). record h { taken = two }) first.home;
    keep = λ ofs keep. second.keep ofs (first.keep ofs keep);
  }

  pub keeps_all : (table : TableId) (pictures : ℕ → Picture) (home : DeskHome) (view : DeskView B) (actors : List (Actor B)) (ofs : List (ActorOf B)) → KeepAs table pictures home view actors ofs → All (λ (of : ActorOf B). Keeps pictures home of view) ofs
  keeps_all table pictures home view [] [] keep = All-nil (λ (of : ActorOf B). Keeps pictures home of view)
  keeps_all table pictures home view [] (of ∷ ofs) keep = absurd keep
  keeps_all table pictures home view (actor ∷ actors) [] keep = absurd keep
  keeps_all table pictures home view (actor ∷ actors) (of ∷ ofs) keep = All-cons (λ (of : ActorOf B). Keeps pictures home of view) of ofs keep.0.keeps (keeps_all table pictures home view actors ofs keep.1)

  -- how many of the arrivals were taken tells nothing of a run
  tells_taken : (scene : SceneValue) (ofs : List (ActorOf B)) (home : DeskHome) (taken : ℕ) (view : DeskView B) (events : List Event) (released : List Released) → TellRun scene ofs home view events released → TellRun scene ofs (record home { taken = taken }) view events released
  tells_taken scene ofs home taken view events released tell = record {
    actors = record {
      scripts = tell.actors.scripts;
      apart = tell.actors.apart;
      keep = All-weaker (λ (of : ActorOf B). Keeps (picture_at scene.pictures) home of view) (λ (of : ActorOf B). Keeps (picture_at scene.pictures) (record home { taken = taken }) of view)
          (λ (of : ActorOf B) keeps. record { kept = keeps.kept; there = record { names = keeps.there.names; frames = keeps.there.frames } }) ofs tell.actors.keep;
    };
    signals = tell.signals;
    callers = tell.callers;
    senders = tell.senders;
    replies = tell.replies;
    releases = tell.releases;
  }

  -- what was taken of the arrivals: it rises behind what was taken before, and shows frames that calls gave
  module _ (table : TableId) (scene : SceneValue) (so : SoFar B) (play : PlayOf B) (stands : Stands table scene so play) (arrived : List (Arrival ReadLeaseOf)) (all : arrived ≡ waiting play.actor_set.desk.arrivals) where
    pub arrived_rises : IsRisingFrom play.handler.last arrived (last_of play.handler.last arrived)
    arrived_rises =
        subst (λ (n : ℕ). IsRisingFrom n arrived (last_of n arrived)) (sym stands.vsyncs.last)
        (subst (λ (xs : List (Arrival ReadLeaseOf)). IsRisingFrom (taken_in play.actor_set.desk.arrivals) xs (last_of (taken_in play.actor_set.desk.arrivals) xs)) (sym all) (waiting_rises play.actor_set.desk.arrivals))

    pub arrived_lent : All (IsArrivedLent (view_of play.actor_set.desk)) arrived
    arrived_lent = subst (All (IsArrivedLent (view_of play.actor_set.desk))) (sym all)
        (back_all (IsArrivedLent (view_of play.actor_set.desk)) (take (taken_in play.actor_set.desk.arrivals) (sent play.actor_set.desk.arrivals)) (waiting play.actor_set.desk.arrivals)
        (subst (All (IsArrivedLent (view_of play.actor_set.desk))) (sent_is play.actor_set.desk.arrivals)
        (arrivals_lent scene so.actors (home_of play.actor_set.desk) (view_of play.actor_set.desk) stands.tell.actors stands.tell.senders)))

  module _ {R C : Type 0} (lease : Ghosts ReadLeaseOf SeatView R C) (frames : OfFrames lease) (table : TableId) (scene : SceneValue) (so : SoFar B) (old new : PlayOf B) (seen : Seen) (told : CommittedOf ReadLeaseOf)
      (stands : Stands table scene so old) (v : MakesVsync lease table old seen told new) where
    abbrev number : ℕ
    number = old.vsyncs + 1

    abbrev before : PlainOf B
    before = old.actor_set.desk

    abbrev after : PlainOf B
    after = new.actor_set.desk

    abbrev middle : PlainOf B
    middle = v.decided.desk

    abbrev arrivals : Calls ReadLeaseOf SeatView ReadLeaseOf Issued
    arrivals = before.arrivals

    pub plain : (a b : ReadLeaseOf) → lease.plain a ≡ lease.plain b → frame_of a ≡ frame_of b
    plain a b same = plain_frame a b (frames.plain a b same)

    -- the desk before the releases
    arrivals_looked : v.looked.desk.arrivals ≡ arrivals
    arrivals_looked = ap (λ (d : PlainOf B). d.arrivals) v.times

    arrivals_decided : middle.arrivals ≡ v.took.desk.arrivals
    arrivals_decided = ap (λ (d : PlainOf B). d.arrivals) v.turns

    pub sent_same : sent middle.arrivals ≡ sent arrivals
    sent_same = ap (λ (a : Calls ReadLeaseOf SeatView ReadLeaseOf Issued). sent a) arrivals_decided ∙ (v.takes.stays ∙ ap (λ (a : Calls ReadLeaseOf SeatView ReadLeaseOf Issued). sent a) arrivals_looked)

    pub taken_all : taken_in v.took.desk.arrivals ≡ length (sent arrivals)
    taken_all = v.takes.taken ∙ ap (λ (a : Calls ReadLeaseOf SeatView ReadLeaseOf Issued). length (sent a)) arrivals_looked

    pub arrived_is : v.arrived ≡ waiting arrivals
    arrived_is = v.takes.all ∙ ap (λ (a : Calls ReadLeaseOf SeatView ReadLeaseOf Issued). waiting a) arrivals_looked

    pub calls_same : (view_of middle).calls ≡ (view_of before).calls
    calls_same = ap (λ (d : PlainOf B). calls_among d.queues) (v.turns ∙ (λ i. record (v.arrivals i) { turns = middle.turns }) ∙ (λ i. record (v.times i) { arrivals = v.took.desk.arrivals; turns = middle.turns }))

    signals_same : (view_of middle).times.signals ≡ (view_of before).times.signals
    signals_same =
        ap (λ (d : PlainOf B). d.times.knows.signals) (v.turns ∙ (λ i. record (v.arrivals i) { turns = middle.turns })) ∙ ap (λ (k : Knows). k.signals) v.sees.shown

    part : OnlyDesk table (taken_in v.took.desk.arrivals) old.actor_set v.decided
    part = only_twice table (taken_in v.took.desk.arrivals) (taken_in v.took.desk.arrivals) old.actor_set v.took v.decided
        (only_twice table (taken_in arrivals) (taken_in v.took.desk.arrivals) old.actor_set v.looked v.took v.only_looks v.only_takes) v.only_decides

    pub whole : OnlyDesk table (taken_in middle.arrivals) old.actor_set new.actor_set
    whole = only_twice table (taken_in v.took.desk.arrivals) (taken_in middle.arrivals) old.actor_set v.decided new.actor_set part v.only_gives

    abbrev home : DeskHome
    home = record (home_of before) { taken = taken_in v.took.desk.arrivals }

    pub home_now : home_of after ≡ home
    home_now = whole.home ∙ ap (λ (a : Calls ReadLeaseOf SeatView ReadLeaseOf Issued). record (home_of before) { taken = taken_in a }) arrivals_decided

    as_scene : (actor_set : ActorSetOf B) → actor_set.pictures ≡ old.actor_set.pictures → (home : DeskHome) (view : DeskView B) → KeepAs table (picture_at actor_set.pictures) home view actor_set.actors so.actors → KeepAs table (picture_at scene.pictures) home view actor_set.actors so.actors
    as_scene actor_set same home view = subst (λ (ps : List Picture). KeepAs table (picture_at ps) home view actor_set.actors so.actors) (same ∙ stands.of_scene.pictures)

    keep_before : KeepAs table (picture_at old.actor_set.pictures) (home_of before) (view_of before) old.actor_set.actors so.actors
    keep_before = subst (λ (ps : List Picture). KeepAs table (picture_at ps) (home_of before) (view_of before) old.actor_set.actors so.actors) (sym stands.of_scene.pictures) stands.keep

    keep_middle : All (λ (of : ActorOf B). Keeps (picture_at scene.pictures) home of (view_of middle)) so.actors
    keep_middle = subst (λ (h : DeskHome). All (λ (of : ActorOf B). Keeps (picture_at scene.pictures) h of (view_of middle)) so.actors) part.home
        (keeps_all table (picture_at scene.pictures) (home_of middle) (view_of middle) v.decided.actors so.actors
        (as_scene v.decided (ap (λ (c : ActorSetOf B). c.pictures) part.same) (home_of middle) (view_of middle) (part.keep so.actors keep_before)))

    keep_after : KeepAs table (picture_at scene.pictures) (home_of after) (view_of after) new.actor_set.actors so.actors
    keep_after = as_scene new.actor_set (ap (λ (c : ActorSetOf B). c.pictures) whole.same) (home_of after) (view_of after) (whole.keep so.actors keep_before)

    -- the frames that a vsync leaves and lets go
    abbrev lent : DeskView B
    lent = view_of before

    pub came : All (IsArrivedLent lent) v.arrived
    came = arrived_lent table scene so old stands v.arrived arrived_is

    abbrev gone : List (OnLayer ReadLeaseOf)
    gone = v.decides.end.stage.gone

    pub goes : All (IsOnLent lent) gone
    goes = gone_lent lease frames lent old.handler new.handler v.took.desk.turns middle.turns v.arrived seen (number * old.period) told v.decides stands.leases.pending came stands.leases.on

    pub gives_now : GiveAll home number told.releases (view_of middle) (view_of after)
    gives_now = subst (λ (h : DeskHome). GiveAll h number told.releases (view_of middle) (view_of after)) part.home v.gives

    grows : (queue : ℕ) (made : Made B) → Contains (lent.calls queue) made → Contains ((view_of after).calls queue) made
    grows queue made there = gives_grow home refl number told.releases (view_of middle) (view_of after) gives_now queue made (subst (λ (cs : ℕ → List (Made B)). Contains (cs queue) made) (sym calls_same) there)

    -- the run that is told
    abbrev released : List Released
    released = released_in (told_at scene so old)

    tell_now : TellRun scene so.actors home (view_of after) so.events (released ++ map (λ (on : OnLayer FrameOf). record { vsync = number; on = on }) (map (framed_on frame_of) gone))
    tell_now =
        gives_told home refl number lease frames lent scene so.actors so.events stands.of_scene.limits stands.desk.marks gone told.releases (view_of middle) (view_of after) released v.decides.settled.releases goes gives_now
        (nothing_told scene so.actors home (view_of before) (view_of middle) so.events released (λ queue. ap (λ (cs : ℕ → List (Made B)). cs queue) calls_same) sent_same signals_same keep_middle
        (tells_taken scene so.actors (home_of before) (taken_in v.took.desk.arrivals) (view_of before) so.events released stands.tell))

    -- what was taken
    pub arrivals_now : (view_of after).arrivals ≡ sent arrivals
    arrivals_now = ap (λ (w : DeskView B). w.arrivals) (gives_same home refl number told.releases (view_of middle) (view_of after) gives_now) ∙ sent_same

    pub taken_now : taken_at new ≡ taken_at old ++ map (framed_arrival frame_of) v.arrived
    taken_now =
        (λ i. take (home_now i).taken (map plain_arrival (arrivals_now i)))
        ∙ ap (λ (n : ℕ). take n (map plain_arrival (sent arrivals))) taken_all
        ∙ take_all (length (sent arrivals)) (map plain_arrival (sent arrivals)) (fits (length-map (sent arrivals) plain_arrival))
        ∙ ap (map plain_arrival) (sent_is arrivals)
        ∙ map-append plain_arrival (take (taken_in arrivals) (sent arrivals)) (waiting arrivals)
        ∙ (λ i. sym (take-map plain_arrival (taken_in arrivals) (sent arrivals)) i ++ map plain_arrival (sym arrived_is i))
        ∙ ap (λ (xs : List (Arrival FrameOf)). taken_at old ++ xs) (sym (plain_arrivals v.arrived))
      where
        fits : length (map plain_arrival (sent arrivals)) ≡ length (sent arrivals) → length (map plain_arrival (sent arrivals)) ≤ length (sent arrivals)
        fits same = omega (arith, same)

    pub rises : IsRisingFrom old.handler.last v.arrived (last_of old.handler.last v.arrived)
    rises = arrived_rises table scene so old stands v.arrived arrived_is

    last_now : new.handler.last ≡ taken_in v.took.desk.arrivals
    last_now =
        ap (λ (h : HandlerOf ReadLeaseOf). h.last) v.decides.settled.state
        ∙ (λ i. last_of (stands.vsyncs.last i) (arrived_is i))
        ∙ waiting_last arrivals ∙ sym taken_all

    -- what stays as it was: nothing that a vsync decides of a play changes the scene
    of_scene : IsOfScene scene new
    of_scene = record {
      limits = stands.of_scene.limits;
      period = ap (λ (p : PlayOf B). p.period) v.rest ∙ stands.of_scene.period;
      order = ap (λ (p : PlayOf B). p.order) v.rest ∙ stands.of_scene.order;
      pictures = ap (λ (c : ActorSetOf B). c.pictures) whole.same ∙ stands.of_scene.pictures;
      width = ap (λ (h : HandlerOf ReadLeaseOf). h.width) v.decides.settled.state ∙ stands.of_scene.width;
      height = ap (λ (h : HandlerOf ReadLeaseOf). h.height) v.decides.settled.state ∙ stands.of_scene.height;
      unlent = ap (λ (h : HandlerOf ReadLeaseOf). h.lent) v.decides.settled.state ∙ stands.of_scene.unlent;
      decides = ap (λ (h : HandlerOf ReadLeaseOf). h.is_spent) v.decides.settled.state ∙ stands.of_scene.decides;
      acts = ap (λ (c : ActorSetOf B). c.is_spent) whole.same ∙ stands.of_scene.acts;
    }

    desk_now : DeskStands scene new
    desk_now = record {
      marks = subst (λ (h : DeskHome). All (λ (queue : QueueDecl). mark_among h.marks queue.number ≡ mark_declared queue) scene.queues) (sym home_now) stands.desk.marks;
      declared = subst (λ (h : DeskHome). All (λ (mark : QueueMark). has_queue scene.queues mark.queue.0 ≡ true) h.marks) (sym home_now) stands.desk.declared;
      taken = at_most ((λ i. (home_now i).taken) ∙ taken_all) (ap (λ (xs : List (Arrival ReadLeaseOf)). length (map plain_arrival xs)) arrivals_now ∙ length-map (sent arrivals) plain_arrival);
    }
      where
        at_most : (home_of after).taken ≡ length (sent arrivals) → length (arrived_at new) ≡ length (sent arrivals) → (home_of after).taken ≤ length (arrived_at new)
        at_most taken all = omega (arith, taken, all)

    leases_now : LeasesStand new
    leases_now = record {
      pending = arrived_lent_on lent (view_of after) grows new.handler.pending
          (waits_lent lease frames lent old.handler new.handler v.took.desk.turns middle.turns v.arrived seen (number * old.period) told v.decides stands.leases.pending came stands.leases.on);
      on = on_lent_on lent (view_of after) grows new.handler.on
          (stays_lent lease frames lent old.handler new.handler v.took.desk.turns middle.turns v.arrived seen (number * old.period) told v.decides stands.leases.pending came stands.leases.on);
    }

    numbers_now : (vsyncs : List VsyncRecords) → All (λ (vsync : VsyncRecords). vsync.number ≤ old.vsyncs) vsyncs → All (λ (vsync : VsyncRecords). vsync.number ≤ new.vsyncs) vsyncs
    numbers_now = All-weaker (λ (vsync : VsyncRecords). vsync.number ≤ old.vsyncs) (λ (vsync : VsyncRecords). vsync.number ≤ new.vsyncs) (λ vsync low. later vsync.number low (ap (λ (p : PlayOf B). p.vsyncs) v.rest))
      where
        later : (n : ℕ) → n ≤ old.vsyncs → new.vsyncs ≡ old.vsyncs + 1 → n ≤ new.vsyncs
        later n low next = omega (arith, low, next)

    -- a vsync that commits something is shown
    module _ (some : told.commits ≢ []) (wrote : WroteWhatShows frame_of lease.shown (written_so scene so old) v.decides.looked) where
      abbrev report : VsyncRecords
      report = vsync_shown scene number (number * old.period) seen told.commits new.handler.tree

      abbrev pub shown : SoFar B
      shown = record so { events = so.events ++ event.Vsync report ∷ [] }

      sees : SeesSignals scene (signals_so scene so old) (view_of before).times.signals seen
      sees = sees_signals scene stands.of_scene.limits so.actors (home_of before) (view_of before) stands.tell.actors (view_of v.looked.desk) seen stands.tell.signals refl v.sees

      says : SaysVsync report told seen (number * old.period)
      says = record { commits = refl; due = refl; saw = saw_is scene stands.of_scene.limits (signals_so scene so old) (view_of before).times.signals seen sees report refl }

      goes_on : GoesOnBy (told_at scene so old) (told_of scene (taken_at old ++ map (framed_arrival frame_of) v.arrived) (vsyncs_in so.events ++ report ∷ [])) report new.handler.tree (map (framed_on frame_of) gone)
      goes_on = goes_on_by lease frame_of plain scene (written_so scene so old) (taken_at old) (vsyncs_in so.events) old.handler new.handler v.took.desk.turns middle.turns v.arrived seen (number * old.period) told
          stands.vsyncs.played v.decides rises report says

      told_is : told_at scene shown new ≡ told_of scene (taken_at old ++ map (framed_arrival frame_of) v.arrived) (vsyncs_in so.events ++ report ∷ [])
      told_is = λ i. told_of scene (taken_now i) (vsyncs_in_more so.events report i)

      released_now : released_in (told_at scene shown new) ≡ released ++ map (λ (on : OnLayer FrameOf). record { vsync = number; on = on }) (map (framed_on frame_of) gone)
      released_now = ap released_in told_is ∙ releases_go_on (told_at scene so old) _ report new.handler.tree (map (framed_on frame_of) gone) goes_on

      commits_are : report.commits ≢ []
      commits_are none = some (map_none told.commits none)
        where
          map_none : (commits : List Commit) → map commit_shown commits ≡ [] → commits ≡ []
          map_none [] e = refl
          map_none (c ∷ cs) e = cc

      pub stands_shown : Stands table scene shown new
      stands_shown = record {
        of_scene = of_scene;
        keep = keep_after;
        tell = subst (λ (rs : List Released). TellRun scene so.actors (home_of after) (view_of after) (so.events ++ event.Vsync report ∷ []) rs) (sym released_now)
            (subst (λ (h : DeskHome). TellRun scene so.actors h (view_of after) (so.events ++ event.Vsync report ∷ []) (released ++ map (λ (on : OnLayer FrameOf). record { vsync = number; on = on }) (map (framed_on frame_of) gone))) (sym home_now)
            (tells_vsync scene so.actors home (view_of after) so.events (released ++ map (λ (on : OnLayer FrameOf). record { vsync = number; on = on }) (map (framed_on frame_of) gone)) report tell_now));
        desk = desk_now;
        vsyncs = record {
          vsyncs = subst (AreVsyncs scene (signals_so scene so old)) (sym (vsyncs_in_more so.events report))
              (vsyncs_more scene (signals_so scene so old) (view_of before).times.signals seen (vsyncs_in so.events) report old.vsyncs stands.of_scene.limits sees stands.vsyncs.vsyncs stands.vsyncs.numbers refl
              (ap (λ (n : ℕ). number * n) stands.of_scene.period) refl commits_are);
          numbers = subst (All (λ (vsync : VsyncRecords). vsync.number ≤ new.vsyncs)) (sym (vsyncs_in_more so.events report))
              (All-append (λ (vsync : VsyncRecords). vsync.number ≤ new.vsyncs) (vsyncs_in so.events) (report ∷ []) (numbers_now (vsyncs_in so.events) stands.vsyncs.numbers)
              (All-cons (λ (vsync : VsyncRecords). vsync.number ≤ new.vsyncs) report [] (itself (ap (λ (p : PlayOf B). p.vsyncs) v.rest)) (All-nil (λ (vsync : VsyncRecords). vsync.number ≤ new.vsyncs))));
          last = last_now ∙ sym (ap (λ (h : DeskHome). h.taken) home_now);
          played = subst (λ (xs : List (Arrival FrameOf)). HasPlayed frame_of scene (written_so scene so old) xs (vsyncs_in (so.events ++ event.Vsync report ∷ [])) new.handler) (sym taken_now)
              (subst (λ (rs : List VsyncRecords). HasPlayed frame_of scene (written_so scene so old) (taken_at old ++ map (framed_arrival frame_of) v.arrived) rs new.handler) (sym (vsyncs_in_more so.events report))
              (goes_further lease frame_of plain scene (written_so scene so old) (taken_at old) (vsyncs_in so.events) old.handler new.handler v.took.desk.turns middle.turns v.arrived seen (number * old.period) told
              stands.vsyncs.played v.decides rises report says wrote));
          frames = subst (ShowImages scene) (sym told_is) (images_go_on scene (told_at scene so old) _ report new.handler.tree (map (framed_on frame_of) gone) goes_on stands.vsyncs.frames refl);
        };
        leases = leases_now;
      }
        where
          itself : new.vsyncs ≡ old.vsyncs + 1 → old.vsyncs + 1 ≤ new.vsyncs
          itself next = omega (arith, next)

    -- a vsync that commits nothing is not
    module _ (none : told.commits ≡ []) where
      no_more : told_at scene so new ≡ told_at scene so old
      no_more = (λ i. told_of scene (taken_now i) (vsyncs_in so.events))
          ∙ tells_no_more lease frame_of plain scene (written_so scene so old) (taken_at old) (vsyncs_in so.events) old.handler new.handler v.took.desk.turns middle.turns v.arrived seen (number * old.period) told
          stands.vsyncs.played v.decides rises none

      none_goes : gone ≡ []
      none_goes = by_releases gone told.releases v.decides.settled.releases
          (releases_nothing lease frame_of plain scene (written_so scene so old) (taken_at old) (vsyncs_in so.events) old.handler new.handler v.took.desk.turns middle.turns v.arrived seen (number * old.period) told
          stands.vsyncs.played v.decides rises none)
        where
          by_releases : (ones : List (OnLayer ReadLeaseOf)) (releases : List (ReleaseOf ReadLeaseOf)) → AllZip (IsReleaseOf lease) ones releases → releases ≡ [] → ones ≡ []
          by_releases [] releases zip e = refl
          by_releases (one ∷ ones) [] zip e = absurd zip
          by_releases (one ∷ ones) (release ∷ releases) zip e = cc

      pub stands_silent : Stands table scene so new
      stands_silent = record {
        of_scene = of_scene;
        keep = keep_after;
        tell = subst (λ (rs : List Released). TellRun scene so.actors (home_of after) (view_of after) so.events rs) (sym (ap released_in no_more))
            (subst (λ (h : DeskHome). TellRun scene so.actors h (view_of after) so.events released) (sym home_now)
            (subst (λ (rs : List Released). TellRun scene so.actors home (view_of after) so.events rs) (append-nil released)
            (subst (λ (ones : List (OnLayer ReadLeaseOf)). TellRun scene so.actors home (view_of after) so.events (released ++ map (λ (on : OnLayer FrameOf). record { vsync = number; on = on }) (map (framed_on frame_of) ones))) none_goes tell_now)));
        desk = desk_now;
        vsyncs = record {
          vsyncs = stands.vsyncs.vsyncs;
          numbers = numbers_now (vsyncs_in so.events) stands.vsyncs.numbers;
          last = last_now ∙ sym (ap (λ (h : DeskHome). h.taken) home_now);
          played = subst (λ (xs : List (Arrival FrameOf)). HasPlayed frame_of scene (written_so scene so old) xs (vsyncs_in so.events) new.handler) (sym taken_now)
              (goes_silently lease frame_of plain scene (written_so scene so old) (taken_at old) (vsyncs_in so.events) old.handler new.handler v.took.desk.turns middle.turns v.arrived seen (number * old.period) told
              stands.vsyncs.played v.decides rises none);
          frames = subst (ShowImages scene) (sym no_more) stands.vsyncs.frames;
        };
        leases = leases_now;
      }

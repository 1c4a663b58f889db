-- The run that is told of actors over a desk goes on: with steps of the actors, and with releases by the compositor.
use Rattle.std.proofs.Common.{◌≡◌, ◌≢◌, ℕ, zero, suc, ◌==◌, Bool, true, false, List, [], ◌∷◌, ◌++◌, set, map, filter, Some, refl, sym, ap, ◌∙◌, subst, inl, inr, arith}
use Rattle.std.specs.Prelude.{◌⊎◌, All, Contains, reverse, slice_get}
use Rattle.std.specs.List.{AllZip, flat_map}
use Rattle.std.specs.List.Sorted.{IsStrictlyIncreasing}
use Rattle.std.proofs.lemmas.Bool.{cases_eq, eq-eqb, ne_eqb}
use Rattle.std.proofs.lemmas.List.{append-nil, map-append, reverse-append}
use Rattle.std.proofs.lemmas.List.Concat.{flat_map-append}
use Rattle.std.proofs.lemmas.List.Elements.{All-append, All-cons, All-contains, All-head, All-nil, All-tail, All-weaker, Contains-append_left, Contains-append_right, filter-append}
use Rattle.sf_base.specs.Fences.{Fence}
use Rattle.sf_base.specs.declared.ids.QueueId.{QueueId}
use Rattle.sf_commit.specs.sf_calls.Histories.{GoesOnWithout, calls_by, entry}
use Rattle.sf_actor.specs.sf_slots.declared.calls.Entry.{Entry}
use Rattle.sf_actor.specs.sf_slots.declared.calls.PlainCall.TheVariants as plain
use Rattle.sf_actor.specs.sf_surface.Calls.{read_token}
use Rattle.sf_actor.specs.sf_surface.Histories.{Made, told, told_entry}
use Rattle.sf_actor.specs.sf_surface.Tokens.{ReadLeaseOf}
use Rattle.sf_actor.specs.sf_surface.declared.call.QCall.{QCall}
use Rattle.sf_actor.specs.sf_surface.declared.call.QCall.TheVariants as call
use Rattle.sf_actor.specs.sf_surface.declared.call.QReply.{QReply}
use Rattle.sf_actor.specs.sf_surface.declared.mark.QueueMark.{QueueMark}
use Rattle.sf_commit.specs.sf_token.Pending.{Arrival}
use Rattle.sf_script_scene.specs.Limits.{IsActor as IsScript, IsWithinLimits, most_actors}
use Rattle.sf_script_scene.specs.Scene.{SceneValue}
use Rattle.sf_script_scene.specs.declared.declarations.QueueDecl.{QueueDecl}
use Rattle.sf_script_scene.specs.declared.step.ActorScript.{ActorScript}
use Rattle.sf_actor.specs.declared.done.Done.{Done}
use Rattle.sf_actor.specs.declared.tried.Reply.{Reply}
use Rattle.sf_actor.specs.Desks.{DeskHome, DeskView, MadeCall, known_of, mark_among}
use Rattle.sf_actor.specs.Known.{Call, GoesOn, frame_of, told_by}
use Rattle.sf_actor.specs.Names.{FrameOf}
use Rattle.sf_actor.specs.Scripts.{picture_at}
use Rattle.sf_actor.specs.Tries.{ActorOf, DoesStep, Keeps, LeavesStep}
use Rattle.sf_actor.specs.Written.{signal_of, signals_of}
use Rattle.sf_actor.proofs.GoingOn.{keeps_on, own_same}
use Rattle.sf_actor.proofs.CallGrowth.{call_alone}
use Rattle.sf_record.specs.declared.event.Event.{Event}
use Rattle.sf_record.specs.declared.event.Event.TheVariants as event
use Rattle.sf_record.specs.declared.event.VsyncRecords.{VsyncRecords}
use Rattle.sf_record.specs.declared.record.ReplyRecord.{ReplyRecord}
use Rattle.law_played.specs.Actors.{AreActors, AreArrivals, IsCallBy, IsRelease, mark_declared, number_of, told_on}
use Rattle.law_played.specs.Histories.{IsReleased, Released, released_on}
use Rattle.law_played.specs.Replies.{replies_in, replies_to, reply_in, reply_shown}
use Rattle.law_played.specs.Runs.{calls_of}
use Rattle.law_played.specs.Telling.{AreReleases, TellReplies, TellRun}
use Rattle.law_played.proofs.ArrivedFrames.{is_numbered}
use Rattle.law_played.proofs.StepKeepsTold.{Replaces, actors_kept, callers_kept, got_has, of_all, same_numbers, senders_kept, signals_kept}
use Rattle.law_played.proofs.Members.{has_map}
use Rattle.law_played.proofs.RunTraces.{head_apart, own_told, rising_later}

-- replies among more events
pub replies_more : (events : List Event) (reply : ReplyRecord) → replies_in (events ++ event.Reply reply ∷ []) ≡ replies_in events ++ reply ∷ []
unfolding replies_in
replies_more events reply = flat_map-append reply_in events (event.Reply reply ∷ [])

pub replies_same : (events : List Event) (report : VsyncRecords) → replies_in (events ++ event.Vsync report ∷ []) ≡ replies_in events
unfolding replies_in
replies_same events report = flat_map-append reply_in events (event.Vsync report ∷ []) ∙ append-nil (flat_map reply_in events)

abbrev is_to : ℕ → ReplyRecord → Bool
is_to actor reply = reply.actor == actor

replies_own : (actor : ℕ) (events : List Event) (reply : ReplyRecord) → reply.actor ≡ actor → replies_to actor (events ++ event.Reply reply ∷ []) ≡ replies_to actor events ++ reply ∷ []
replies_own actor events reply same =
    let met : (reply.actor == actor) ≡ true = eq-eqb reply.actor actor same in
    ap (filter (is_to actor)) (replies_more events reply) ∙ filter-append (is_to actor) (replies_in events) (reply ∷ []) ∙ rw met refl

replies_other : (actor : ℕ) (events : List Event) (reply : ReplyRecord) → reply.actor ≢ actor → replies_to actor (events ++ event.Reply reply ∷ []) ≡ replies_to actor events
replies_other actor events reply apart =
    let unmet : (reply.actor == actor) ≡ false = ne_eqb reply.actor actor apart in
    ap (filter (is_to actor)) (replies_more events reply) ∙ filter-append (is_to actor) (replies_in events) (reply ∷ []) ∙ rw unmet (append-nil (replies_to actor events))

-- partners of two lists, with one more on each
zip_more : {X Y : Type 0} (R : X → Y → Type 0) (xs : List X) (ys : List Y) (x : X) (y : Y) → AllZip R xs ys → R x y → AllZip R (xs ++ x ∷ []) (ys ++ y ∷ [])
zip_more R [] [] x y zip is = (is, tt)
zip_more R [] (b ∷ ys) x y zip is = absurd zip
zip_more R (a ∷ xs) [] x y zip is = absurd zip
zip_more R (a ∷ xs) (b ∷ ys) x y zip is = (zip.0, zip_more R xs ys x y zip.1 is)

-- a release, as the queue understands it
pub released_token : (queue : QueueId) (lease : ReadLeaseOf) → lease.queue.0 ≡ queue.0 → read_token queue lease ≡ (frame_of lease).1
released_token queue lease same =
    let met : (lease.queue.0 == queue.0) ≡ true = eq-eqb lease.queue.0 queue.0 same in
    rw met refl

-- a frame that the compositor releases, at a vsync
pub record IsReleaseOf (released : Released) (vsync : ℕ) (lease : ReadLeaseOf) (fence : Fence) : Type 0 where
  pub at : released.vsync ≡ vsync
  pub leased : released.on.lease ≡ frame_of lease
  pub fenced : released.on.fence ≡ fence

module _ {B : Type 0} where
  -- what is true of each actor, where one is replaced and the others have other numbers
  each_set : (P Q : ActorOf B → Type 0) (ofs : List (ActorOf B)) (place : ℕ) (old new : ActorOf B) → IsStrictlyIncreasing (map number_of ofs) → slice_get ofs place ≡ Some old → All P ofs → Q new
      → ((of : ActorOf B) → number_of old ≢ number_of of → P of → Q of) → All Q (set ofs place new)
  each_set P Q [] place old new rising here all is others = absurd (cc (here))
  each_set P Q (of ∷ ofs) zero old new rising here all is others =
      let same : of ≡ old = cc in
      All-cons Q new ofs is (of_all Q ofs (λ other there.
      let below = head_apart of other ofs rising there in
      let number = ap number_of same in
      others other (λ e. omega (arith, below, number, e)) (All-contains P ofs other (All-tail P of ofs all) there)))
  each_set P Q (of ∷ ofs) (suc place) old new rising here all is others =
      let below = head_apart of old ofs rising (got_has ofs place old here) in
      All-cons Q of (set ofs place new) (others of (λ e. omega (arith, below, e)) (All-head P of ofs all))
      (each_set P Q ofs place old new (rising_later of ofs rising) here (All-tail P of ofs all) is others)

  -- the replies of a step that is done
  pub replies_kept : (ofs : List (ActorOf B)) (place : ℕ) (old new : ActorOf B) (reply : Reply) (events : List Event) → IsStrictlyIncreasing (map number_of ofs) → Replaces ofs place old new
      → new.replies ≡ old.replies ++ reply ∷ [] → reply.actor ≡ old.script.number → TellReplies ofs events → TellReplies (set ofs place new) (events ++ event.Reply (reply_shown reply) ∷ [])
  replies_kept ofs place old new reply events rising by more actor tell =
      let later : List Event = events ++ event.Reply (reply_shown reply) ∷ [] in
      let number : new.script.number ≡ old.script.number = ap (λ (script : ActorScript). script.number) by.script in
      let numbers = same_numbers ofs place old new by in
      let there = has_map number_of ofs old (got_has ofs place old by.here) in
      let told = All-contains (λ (of : ActorOf B). replies_to of.script.number events ≡ map reply_shown of.replies) ofs old tell.of_each (got_has ofs place old by.here) in
      record {
        of_each = each_set (λ (of : ActorOf B). replies_to of.script.number events ≡ map reply_shown of.replies) (λ (of : ActorOf B). replies_to of.script.number later ≡ map reply_shown of.replies)
            ofs place old new rising by.here tell.of_each
            (
            ap (λ (n : ℕ). replies_to n later) number
            ∙ replies_own old.script.number events (reply_shown reply) actor
            ∙ ap (λ (rs : List ReplyRecord). rs ++ reply_shown reply ∷ []) told
            ∙ sym (map-append reply_shown old.replies (reply ∷ []))
            ∙ ap (map reply_shown) (sym more)
            )
            (λ of apart is. replies_other of.script.number events (reply_shown reply) (λ e. apart (sym actor ∙ e)) ∙ is);
        of_none_else =
            subst (λ (rs : List ReplyRecord). All (λ (r : ReplyRecord). Contains (map number_of (set ofs place new)) r.actor) rs) (sym (replies_more events (reply_shown reply)))
            (subst (λ (ns : List ℕ). All (λ (r : ReplyRecord). Contains ns r.actor) (replies_in events ++ reply_shown reply ∷ [])) (sym numbers)
            (All-append (λ (r : ReplyRecord). Contains (map number_of ofs) r.actor) (replies_in events) (reply_shown reply ∷ []) tell.of_none_else
            (All-cons (λ (r : ReplyRecord). Contains (map number_of ofs) r.actor) (reply_shown reply) [] (subst (λ (n : ℕ). Contains (map number_of ofs) n) (sym actor) there)
            (All-nil (λ (r : ReplyRecord). Contains (map number_of ofs) r.actor)))));
      }

  -- a vsync adds no reply
  pub replies_stay : (ofs : List (ActorOf B)) (report : VsyncRecords) (events : List Event) → TellReplies ofs events → TellReplies ofs (events ++ event.Vsync report ∷ [])
  replies_stay ofs report events tell = record {
    of_each = All-weaker (λ (of : ActorOf B). replies_to of.script.number events ≡ map reply_shown of.replies)
        (λ (of : ActorOf B). replies_to of.script.number (events ++ event.Vsync report ∷ []) ≡ map reply_shown of.replies)
        (λ (of : ActorOf B) is. ap (filter (is_to of.script.number)) (replies_same events report) ∙ is) ofs tell.of_each;
    of_none_else = subst (λ (rs : List ReplyRecord). All (λ (r : ReplyRecord). Contains (map number_of ofs) r.actor) rs) (sym (replies_same events report)) tell.of_none_else;
  }

  -- the compositor's calls, where it made none
  own_stay : (number : ℕ) (home : DeskHome) (before after : DeskView B) (queue : ℕ) → GoesOnWithout number (before.calls queue) (after.calls queue)
      → calls_of number (told_on home after queue) ≡ calls_of number (told_on home before queue)
  own_stay number home before after queue goes =
      let mark = mark_among home.marks queue in
      own_told number mark (after.calls queue) ∙ ap (λ (calls : List (Call B)). map told_by calls) (own_same number mark (before.calls queue) (after.calls queue) goes)
      ∙ sym (own_told number mark (before.calls queue))

  pub releases_stay : (scene : SceneValue) (ofs others : List (ActorOf B)) (home : DeskHome) (before after : DeskView B) (released : List Released)
      → ((queue : ℕ) → GoesOnWithout 0 (before.calls queue) (after.calls queue)) → AreReleases scene ofs home before released → AreReleases scene others home after released
  releases_stay scene ofs others home before after released goes releases =
      All-weaker (λ (queue : QueueDecl). AllZip IsReleased (released_on queue.number released) (calls_of 0 (told_on home before queue.number)))
      (λ (queue : QueueDecl). AllZip IsReleased (released_on queue.number released) (calls_of 0 (told_on home after queue.number)))
      (λ (queue : QueueDecl). subst (λ (entries : List Entry). AllZip IsReleased (released_on queue.number released) entries) (sym (own_stay 0 home before after queue.number (goes queue.number))))
      scene.queues releases

  -- nobody of a scene has number 0
  pub not_none : (scene : SceneValue) (ofs : List (ActorOf B)) (home : DeskHome) (view : DeskView B) (number : ℕ) → IsWithinLimits scene → AreActors scene ofs home view
      → Contains (map number_of ofs) number → 0 ≢ number
  not_none scene ofs home view number limits actors there none =
      let it = is_numbered scene ofs home view number actors there in
      let is = All-contains (IsScript (most_actors scene.version)) scene.actors it.of.script limits.actors.each it.script in
      let low = is.low in
      let same = it.is in
      omega (arith, low, same, none)

  -- calls and arrivals of the actors, whoever of them is replaced
  pub callers_of : (ofs others : List (ActorOf B)) (calls : List (Made B)) → map number_of others ≡ map number_of ofs → All (IsCallBy ofs) calls → All (IsCallBy others) calls
  callers_of ofs others calls same callers =
      subst (λ (ns : List ℕ). All (λ (made : Made B). ((made.by ≡ 0) × IsRelease made.call.1) ⊎ Contains ns made.by) calls) (sym same) callers

  pub senders_of : (ofs others : List (ActorOf B)) (view : DeskView B) → map number_of others ≡ map number_of ofs → AreArrivals ofs view → AreArrivals others view
  senders_of ofs others view same senders =
      subst (λ (ns : List ℕ). All (λ (arrived : Arrival ReadLeaseOf). Contains ns arrived.actor.0) view.arrivals) (sym same) senders

  -- an actor does a step
  pub does_step : (scene : SceneValue) (ofs : List (ActorOf B)) (home : DeskHome) (before after : DeskView B) (events : List Event) (released : List Released) (place : ℕ) (old new : ActorOf B) (reply : Reply)
      → IsWithinLimits scene → home.is_exact ≡ true → slice_get ofs place ≡ Some old → DoesStep (picture_at scene.pictures) home old before new after reply
      → All (λ (of : ActorOf B). Keeps (picture_at scene.pictures) home of after) (set ofs place new) → TellRun scene ofs home before events released
      → TellRun scene (set ofs place new) home after (events ++ event.Reply (reply_shown reply) ∷ []) released
  does_step scene ofs home before after events released place old new reply limits exact here does keep tell =
      let script : new.script ≡ old.script = ap (λ (of : ActorOf B). of.script) does.same in
      let by : Replaces ofs place old new = record { here = here; script = script; more = does.done ∷ []; trace = does.trace } in
      let numbers = same_numbers ofs place old new by in
      let actors = actors_kept scene ofs home before after place old new by keep tell.actors in
      let own = has_map number_of ofs old (got_has ofs place old here) in
      let alone = does.alone exact in
      let traced = ap signals_of does.trace ∙ flat_map-append (λ (done : Done). signal_of done.step) old.trace (does.done ∷ []) in
      record {
        actors = actors;
        signals = signals_kept scene ofs home before after place old new (signal_of does.done.step) limits by actors
            (λ p there. subst (λ (xs : List (ℕ × ℕ)). Contains xs p) (sym traced) (Contains-append_right (signals_of old.trace) (signal_of does.done.step ++ []) p (Contains-append_left (signal_of does.done.step) [] p there)))
            does.signals tell.signals;
        callers = λ queue. callers_of ofs (set ofs place new) (after.calls queue) numbers
            (callers_kept ofs old.script.number (before.calls queue) (after.calls queue) own (λ other apart. (alone other apart).calls queue) (tell.callers queue));
        senders = senders_of ofs (set ofs place new) after numbers (senders_kept ofs old.script.number home before after own alone tell.senders);
        replies = replies_kept ofs place old new reply events tell.actors.apart by does.replies (ap (λ (r : Reply). r.actor) does.replied) tell.replies;
        releases = releases_stay scene ofs (set ofs place new) home before after released (alone 0 (not_none scene ofs home before old.script.number limits tell.actors own)).calls tell.releases;
      }

  -- nothing is called, sent or signalled, and each actor keeps what it keeps
  pub nothing_told : (scene : SceneValue) (ofs : List (ActorOf B)) (home : DeskHome) (before after : DeskView B) (events : List Event) (released : List Released)
      → ((queue : ℕ) → after.calls queue ≡ before.calls queue) → after.arrivals ≡ before.arrivals → after.times.signals ≡ before.times.signals
      → All (λ (of : ActorOf B). Keeps (picture_at scene.pictures) home of after) ofs → TellRun scene ofs home before events released → TellRun scene ofs home after events released
  nothing_told scene ofs home before after events released calls arrivals signals keep tell = record {
    actors = record { scripts = tell.actors.scripts; apart = tell.actors.apart; keep = keep };
    signals = λ p there. tell.signals p (subst (λ (xs : List (ℕ × ℕ)). Contains xs p) signals there);
    callers = λ queue. subst (All (IsCallBy ofs)) (sym (calls queue)) (tell.callers queue);
    senders = subst (All (λ (arrived : Arrival ReadLeaseOf). Contains (map number_of ofs) arrived.actor.0)) (sym arrivals) tell.senders;
    replies = tell.replies;
    releases = releases_stay scene ofs ofs home before after released (λ queue. record { begins = ([], calls queue); calls = ap (calls_by 0) (calls queue) }) tell.releases;
  }

  -- one in its own place
  set_itself : (ofs : List (ActorOf B)) (place : ℕ) (old : ActorOf B) → slice_get ofs place ≡ Some old → set ofs place old ≡ ofs
  set_itself [] place old here = refl
  set_itself (of ∷ ofs) zero old here = (let same : of ≡ old = cc in ap (λ (o : ActorOf B). o ∷ ofs) (sym same))
  set_itself (of ∷ ofs) (suc place) old here = ap (λ (rest : List (ActorOf B)). of ∷ rest) (set_itself ofs place old here)

  -- an actor's step is not done
  pub leaves_step : (scene : SceneValue) (ofs : List (ActorOf B)) (home : DeskHome) (before after : DeskView B) (events : List Event) (released : List Released) (place : ℕ) (old new : ActorOf B)
      → home.is_exact ≡ true → slice_get ofs place ≡ Some old → LeavesStep (picture_at scene.pictures) home old before new after
      → All (λ (of : ActorOf B). Keeps (picture_at scene.pictures) home of after) (set ofs place new) → TellRun scene ofs home before events released
      → TellRun scene (set ofs place new) home after events released
  leaves_step scene ofs home before after events released place old new exact here leaves keep tell =
      let same : set ofs place new ≡ ofs = ap (λ (of : ActorOf B). set ofs place of) leaves.same ∙ set_itself ofs place old here in
      subst (λ (actors : List (ActorOf B)). TellRun scene actors home after events released) (sym same)
      (nothing_told scene ofs home before after events released (leaves.calls exact) leaves.arrivals leaves.signals
      (subst (All (λ (of : ActorOf B). Keeps (picture_at scene.pictures) home of after)) same keep) tell)

  -- each actor keeps what it keeps where what is known goes on without it
  pub actors_on : (scene : SceneValue) (ofs : List (ActorOf B)) (home : DeskHome) (before after : DeskView B)
      → ((number : ℕ) → Contains (map number_of ofs) number → GoesOn number (known_of home before) (known_of home after))
      → All (λ (of : ActorOf B). Keeps (picture_at scene.pictures) home of before) ofs → All (λ (of : ActorOf B). Keeps (picture_at scene.pictures) home of after) ofs
  actors_on scene ofs home before after goes keep = of_all (λ (of : ActorOf B). Keeps (picture_at scene.pictures) home of after) ofs (λ of there.
      let keeps = All-contains (λ (of : ActorOf B). Keeps (picture_at scene.pictures) home of before) ofs of keep there in
      record {
        kept = keeps_on (picture_at scene.pictures) of (known_of home before) (known_of home after) (goes of.script.number (has_map number_of ofs of there)) keeps.kept;
        there = keeps.there;
      })

  -- a vsync is told
  pub tells_vsync : (scene : SceneValue) (ofs : List (ActorOf B)) (home : DeskHome) (view : DeskView B) (events : List Event) (released : List Released) (report : VsyncRecords)
      → TellRun scene ofs home view events released → TellRun scene ofs home view (events ++ event.Vsync report ∷ []) released
  tells_vsync scene ofs home view events released report tell = record {
    actors = tell.actors;
    signals = tell.signals;
    callers = tell.callers;
    senders = tell.senders;
    replies = replies_stay ofs report events tell.replies;
    releases = tell.releases;
  }

  is_released : (mark : QueueMark) (earlier : List Entry) (vsync : ℕ) (lease : ReadLeaseOf) (fence : Fence) (reply : QReply B) (one : Released) → lease.queue.0 ≡ mark.queue.0
      → IsReleaseOf one vsync lease fence → IsReleased one (told_entry mark earlier (entry 0 (vsync, call.Release lease fence) reply))
  is_released mark earlier vsync lease fence reply one same of = record {
    step = sym of.at;
    call = (λ i. plain.Release (released_token mark.queue lease same i) fence) ∙ (λ i. plain.Release (sym of.leased i).1 (sym of.fenced i));
  }

  -- the releases of a queue that was called once more, and of one that was not
  releases_on : (home : DeskHome) (before after : DeskView B) (queue vsync : ℕ) (lease : ReadLeaseOf) (fence : Fence) (reply : QReply B) (one : Released) (released : List Released)
      → home.is_exact ≡ true → lease.queue.0 ≡ queue → IsReleaseOf one vsync lease fence → MadeCall home before after 0 queue (vsync, call.Release lease fence) reply
      → (declared : QueueDecl) → mark_among home.marks declared.number ≡ mark_declared declared
      → AllZip IsReleased (released_on declared.number released) (calls_of 0 (told_on home before declared.number))
      → AllZip IsReleased (released_on declared.number (released ++ one ∷ [])) (calls_of 0 (told_on home after declared.number))
  unfolding told
  releases_on home before after queue vsync lease fence reply one released exact own of made declared marked zip =
      let is_on : Released → Bool = λ r. r.on.lease.0.0 == declared.number in
      let mark = mark_among home.marks declared.number in
      let numbered : mark.queue.0 ≡ declared.number = ap (λ (m : QueueMark). m.queue.0) marked in
      let leased : one.on.lease.0.0 ≡ queue = ap (λ (f : FrameOf). f.0.0) of.leased ∙ own in
      let split = filter-append is_on released (one ∷ []) in
      elim (cases_eq declared.number queue) [
        | inl same ↦
            let last : Entry = told_entry mark (told mark (before.calls declared.number)) (entry 0 (vsync, call.Release lease fence) reply) in
            let met : (one.on.lease.0.0 == declared.number) ≡ true = eq-eqb one.on.lease.0.0 declared.number (leased ∙ sym same) in
            let more : released_on declared.number (released ++ one ∷ []) ≡ released_on declared.number released ++ one ∷ [] = split ∙ rw met refl in
            let grown : after.calls declared.number ≡ entry 0 (vsync, call.Release lease fence) reply ∷ before.calls declared.number =
            subst (λ (q : ℕ). after.calls q ≡ entry 0 (vsync, call.Release lease fence) reply ∷ before.calls q) (sym same)
            (made.newest ∙ ap (λ (calls : List (Made B)). entry 0 (vsync, call.Release lease fence) reply ∷ calls) (made.alone exact)) in
            let calls : calls_of 0 (told_on home after declared.number) ≡ calls_of 0 (told_on home before declared.number) ++ last ∷ [] =
            ap (λ (log : List (Made B)). calls_of 0 (told mark log)) grown
            ∙ ap (filter (λ (e : Entry). e.caller.0 == 0)) (reverse-append (last ∷ []) (told mark (before.calls declared.number)))
            ∙ filter-append (λ (e : Entry). e.caller.0 == 0) (reverse (told mark (before.calls declared.number))) (last ∷ []) in
            subst (λ (rs : List Released). AllZip IsReleased rs (calls_of 0 (told_on home after declared.number))) (sym more)
            (subst (λ (es : List Entry). AllZip IsReleased (released_on declared.number released ++ one ∷ []) es) (sym calls)
            (zip_more IsReleased (released_on declared.number released) (calls_of 0 (told_on home before declared.number)) one last zip
            (is_released mark (told mark (before.calls declared.number)) vsync lease fence reply one (own ∙ sym same ∙ sym numbered) of)))
        | inr apart ↦
            let unmet : (one.on.lease.0.0 == declared.number) ≡ false = ne_eqb one.on.lease.0.0 declared.number (λ e. apart (sym e ∙ leased)) in
            let more : released_on declared.number (released ++ one ∷ []) ≡ released_on declared.number released = split ∙ rw unmet (append-nil (released_on declared.number released)) in
            let calls : calls_of 0 (told_on home after declared.number) ≡ calls_of 0 (told_on home before declared.number) =
            ap (λ (log : List (Made B)). calls_of 0 (told mark log)) (made.changes.others declared.number apart) in
            subst (λ (rs : List Released). AllZip IsReleased rs (calls_of 0 (told_on home after declared.number))) (sym more)
            (subst (λ (es : List Entry). AllZip IsReleased (released_on declared.number released) es) (sym calls) zip)
      ]

  -- the compositor releases a frame
  pub releases_frame : (scene : SceneValue) (ofs : List (ActorOf B)) (home : DeskHome) (before after : DeskView B) (events : List Event) (released : List Released) (queue vsync : ℕ) (lease : ReadLeaseOf)
      (fence : Fence) (reply : QReply B) (one : Released) → IsWithinLimits scene → home.is_exact ≡ true
      → All (λ (declared : QueueDecl). mark_among home.marks declared.number ≡ mark_declared declared) scene.queues → lease.queue.0 ≡ queue → IsReleaseOf one vsync lease fence
      → MadeCall home before after 0 queue (vsync, call.Release lease fence) reply → TellRun scene ofs home before events released
      → TellRun scene ofs home after events (released ++ one ∷ [])
  releases_frame scene ofs home before after events released queue vsync lease fence reply one limits exact marks own of made tell =
      let asked : ℕ × QCall B = (vsync, call.Release lease fence) in
      let goes : (number : ℕ) → Contains (map number_of ofs) number → GoesOn number (known_of home before) (known_of home after) =
      λ number there. call_alone number home before after 0 queue asked reply exact (not_none scene ofs home before number limits tell.actors there) made in
      let newest = made.newest ∙ ap (λ (calls : List (Made B)). entry 0 asked reply ∷ calls) (made.alone exact) in
      let arrivals : after.arrivals ≡ before.arrivals = ap (λ (v : DeskView B). v.arrivals) made.changes.same in
      let signals : after.times.signals ≡ before.times.signals = ap (λ (v : DeskView B). v.times.signals) made.changes.same in
      record {
        actors = record { scripts = tell.actors.scripts; apart = tell.actors.apart; keep = actors_on scene ofs home before after goes tell.actors.keep };
        signals = λ p there. tell.signals p (subst (λ (xs : List (ℕ × ℕ)). Contains xs p) signals there);
        callers = λ q. elim (cases_eq q queue) [
          | inl same ↦ subst (λ (n : ℕ). All (IsCallBy ofs) (after.calls n)) (sym same)
              (subst (All (IsCallBy ofs)) (sym newest) (All-cons (IsCallBy ofs) (entry 0 asked reply) (before.calls queue) (inl (refl, tt)) (tell.callers queue)))
          | inr apart ↦ subst (All (IsCallBy ofs)) (sym (made.changes.others q apart)) (tell.callers q)
        ];
        senders = subst (All (λ (arrived : Arrival ReadLeaseOf). Contains (map number_of ofs) arrived.actor.0)) (sym arrivals) tell.senders;
        replies = tell.replies;
        releases = of_all (λ (declared : QueueDecl). AllZip IsReleased (released_on declared.number (released ++ one ∷ [])) (calls_of 0 (told_on home after declared.number))) scene.queues (λ declared there.
            releases_on home before after queue vsync lease fence reply one released exact own of made declared
            (All-contains (λ (declared : QueueDecl). mark_among home.marks declared.number ≡ mark_declared declared) scene.queues declared marks there)
            (All-contains (λ (declared : QueueDecl). AllZip IsReleased (released_on declared.number released) (calls_of 0 (told_on home before declared.number))) scene.queues declared tell.releases there));
      }

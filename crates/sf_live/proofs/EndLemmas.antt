-- What is written at the end of a run: the replies to all steps, and the closing records.
use Rattle.std.proofs.Common.{◌≡◌, ℕ, ◌+◌, ◌<◌, List, [], ◌∷◌, ◌++◌, length, get_or, take, drop, map, Option, Result, Ok, Err, refl, ap, ◌∙◌, sym, subst, append_assoc, OnErr, OnOk}
use Rattle.std.specs.Prelude.{All, Contains}
use Rattle.std.specs.List.{flat_map}
use Rattle.std.proofs.lemmas.List.{append-nil, drop_more, take-append-drop, take_more}
use Rattle.std.proofs.lemmas.List.Concat.{flat_map-append}
use Rattle.atomic_table.specs.Seated.{TableId}
use Rattle.law_live_order.specs.law_rounds.law_order.Order.{InOneOrder}
use Rattle.law_live_order.specs.law_rounds.law_waits.Leaving.{LeavesNone}
use Rattle.law_live_order.proofs.law_rounds_lemmas.NoneAtEnd.{none_of_all}
use Rattle.law_live_order.specs.law_rounds.Rounds.{IsInOrder, happened_so}
use Rattle.sf_picture.specs.declared.picture.Picture.{Picture}
use Rattle.sf_script_scene.specs.Scene.{SceneValue}
use Rattle.sf_script_scene.specs.declared.step.ActorScript.{ActorScript}
use Rattle.sf_live_compositor.specs.sf_actor.Desks.{DeskHome, DeskView}
use Rattle.sf_live_compositor.specs.sf_actor.Makers.{Run}
use Rattle.sf_live_compositor.specs.sf_actor.Tries.{ActorOf}
use Rattle.sf_live_compositor.specs.sf_actor.Values.{replies_of}
use Rattle.sf_live_compositor.specs.sf_actor.declared.done.Done.{Done}
use Rattle.sf_live_compositor.specs.sf_actor_steps.declared.actor.Actor.{Actor}
use Rattle.sf_live_compositor.specs.sf_actor_set.ActorSets.{KeepAs}
use Rattle.sf_live_compositor.specs.sf_record.Events.{closing, event_records, events_records}
use Rattle.sf_live_compositor.specs.sf_record.Fitting.{RecordFits}
use Rattle.sf_live_compositor.specs.sf_record.declared.encode.RunFault.{RunFault}
use Rattle.sf_live_compositor.specs.sf_record.declared.event.Event.TheVariants as event
use Rattle.sf_live_compositor.specs.sf_record.declared.event.VsyncRecords.{VsyncRecords}
use Rattle.sf_live_compositor.specs.sf_record.declared.record.Record.{Record}
use Rattle.sf_live_compositor.specs.sf_record.declared.record.Record.TheVariants as rec
use Rattle.sf_live_compositor.specs.sf_record.declared.record.ReplyRecord.{ReplyRecord}
use Rattle.sf_live_compositor.proofs.law_played_lemmas.Members.{has_here, has_later}
use Rattle.sf_live_compositor.proofs.law_played_lemmas.RisingNumbers.{rising_actors_are}
use Rattle.sf_live_compositor.proofs.law_played_lemmas.RunTraces.{trace_here}
use Rattle.sf_live_compositor.specs.law_played.Actors.{script_of}
use Rattle.sf_live_compositor.specs.law_played.Played.{opening, records_of, reply_events}
use Rattle.sf_live_compositor.specs.law_played.Replies.{replies_due, reply_shown}
use Rattle.sf_live_compositor.specs.law_played.Runs.{rising_actors}
use Rattle.sf_live_compositor.specs.law_played.Stages.{told_of}
use Rattle.sf_live_compositor.proofs.sf_play_lemmas.Late.{fits_late, same_vsyncs}
use Rattle.sf_live_compositor.specs.sf_play.Ending.{shows_at_end, shows_late}
use Rattle.sf_live_compositor.specs.sf_play.Going.{EndsRun}
use Rattle.sf_live_compositor.specs.sf_play.Players.{PlayerOf, SoFar, arrived_at, home_in, run_so, view_in}
use Rattle.sf_live_compositor.specs.sf_play.Standing.{StandsInRun}
use Rattle.sf_live_compositor.specs.sf_play_write.Closings.{closing_of}
use Rattle.sf_live_compositor.specs.sf_play_write.Writing.{Writes, WritesPart, Wrote}
use Rattle.sf_live_compositor.proofs.sf_play_write_lemmas.ClosingLemmas.{closing_is}
use Rattle.sf_live_compositor.proofs.sf_play_write_lemmas.WritingLemmas.{part_more, writes_more}
use Rattle.sf_live_compositor.proofs.sf_play_write_lemmas.WroteLemmas.{wrote_cut, wrote_then}
use Rattle.sf_live.specs.inner.Rounds.{HasShownAll, all_reply_records, vsyncs_alone}
use Rattle.sf_live.specs.Runs.{CutLive, FitsLive, MeansLive, WroteLive, in_rest}
use Rattle.sf_live.proofs.RoundLemmas.{records_more}

-- the next piece of what is made of a list was written behind those before, or a fault cut it
module _ {S X : Type 0} (taken : S → Option (List ℕ)) (faults : S → ℕ) (f : X → List Record) (a b c : S) (xs : List X) (i : ℕ) (x : X) (below : i < length xs) (is : x ≡ get_or xs i x)
    (before : Wrote {A = Unit {0}} taken faults a b (Ok tt) (flat_map f (take i xs))) where
  pub pieces_more : Wrote {A = Unit {0}} taken faults b c (Ok tt) (f x) → Wrote {A = Unit {0}} taken faults a c (Ok tt) (flat_map f (take (i + 1) xs))
  pieces_more now =
      subst (Wrote {A = Unit {0}} taken faults a c (Ok tt))
      (ap (λ (y : X). flat_map f (take i xs) ++ f y) is
      ∙ ap (λ (rs : List Record). flat_map f (take i xs) ++ rs) (sym (append-nil (f (get_or xs i x))))
      ∙ sym (flat_map-append f (take i xs) (get_or xs i x ∷ []))
      ∙ ap (flat_map f) (sym (take_more xs i x below)))
      (wrote_then taken faults a b c (Ok tt) (flat_map f (take i xs)) (f x) before now)

  pub pieces_cut : (fault : RunFault) → Wrote {A = Unit {0}} taken faults b c (Err fault) (f x) → Wrote {A = Unit {0}} taken faults a c (Err fault) (flat_map f xs)
  pieces_cut fault now =
      subst (Wrote {A = Unit {0}} taken faults a c (Err fault))
      (ap (λ (y : X). flat_map f (take i xs) ++ (f y ++ flat_map f (drop (i + 1) xs))) is
      ∙ ap (λ (l : List X). flat_map f (take i xs) ++ flat_map f l) (sym (drop_more xs i x below))
      ∙ sym (flat_map-append f (take i xs) (drop i xs))
      ∙ ap (flat_map f) (take-append-drop i xs))
      (wrote_then taken faults a b c (Err fault) (flat_map f (take i xs)) (f x ++ flat_map f (drop (i + 1) xs)) before
      (wrote_cut taken faults b c fault (f x) (flat_map f (drop (i + 1) xs)) now))

replies_alone : (replies : List ReplyRecord) → flat_map event_records (map event.Reply replies) ≡ map rec.Repl replies
replies_alone [] = refl
replies_alone (reply ∷ replies) = ap (λ (rs : List Record). rec.Repl reply ∷ rs) (replies_alone replies)

events_more : (run : Run) (script : ActorScript) (scripts : List ActorScript)
    → events_records (flat_map (reply_events run) (script ∷ scripts)) ≡ map rec.Repl (replies_due run script.number) ++ events_records (flat_map (reply_events run) scripts)
unfolding events_records
events_more run script scripts =
    flat_map-append event_records (reply_events run script) (flat_map (reply_events run) scripts)
    ∙ ap (λ (rs : List Record). rs ++ flat_map event_records (flat_map (reply_events run) scripts)) (replies_alone (replies_due run script.number))

none_due : (run : Run) → events_records (flat_map (reply_events run) []) ≡ []
unfolding events_records
none_due run = refl

module _ {B : Type 0} where
  -- the replies that actors have are those to the steps of their traces
  replies_kept : (table : TableId) (pictures : ℕ → Picture) (home : DeskHome) (view : DeskView B) (run : Run) (actors : List (Actor B)) (ofs : List (ActorOf B)) → KeepAs table pictures home view actors ofs
      → ((of : ActorOf B) → Contains ofs of → run.trace of.script.number ≡ of.trace) → all_reply_records actors ≡ events_records (flat_map (reply_events run) (map script_of ofs))
  replies_kept table pictures home view run [] [] keep traced = sym (none_due run)
  replies_kept table pictures home view run [] (of ∷ ofs) keep traced = absurd keep
  replies_kept table pictures home view run (actor ∷ actors) [] keep traced = absurd keep
  replies_kept table pictures home view run (actor ∷ actors) (of ∷ ofs) keep traced =
      let trace = traced of (has_here of ofs) in
      let due : replies_due run of.script.number ≡ map reply_shown actor.replies.items =
      ap (λ (dones : List Done). map reply_shown (replies_of of.script.number dones)) trace
      ∙ ap (map reply_shown) (sym keep.0.keeps.kept.kept.is.replied ∙ keep.0.is.replies) in
      let later = replies_kept table pictures home view run actors ofs keep.1 (λ other there. traced other (has_later of other ofs there)) in
      (λ i. map rec.Repl (sym due i) ++ later i) ∙ sym (events_more run of.script (map script_of ofs))

  module _ (table : TableId) (scene : SceneValue) (so : SoFar B) (player : PlayerOf B) (stands : StandsInRun table scene so player) where
    replies_are : all_reply_records player.play.actor_set.actors ≡ events_records (flat_map (reply_events (run_so so player.play)) (rising_actors scene))
    replies_are =
        let standing = stands.stands.stands in
        let actors = standing.tell.actors in
        let home = home_in player.play in
        let view = view_in player.play in
        replies_kept table _ home view (run_so so player.play) player.play.actor_set.actors so.actors standing.keep (λ of there. trace_here so.actors of actors.apart there)
        ∙ ap (λ (scripts : List ActorScript). events_records (flat_map (reply_events (run_so so player.play)) scripts)) (sym (rising_actors_are scene so.actors home view standing.of_scene.limits actors))

    -- what is written at the end of a run is what is left of its records
    all_records : (opening scene ∷ events_records (vsyncs_alone so.events)) ++ (all_reply_records player.play.actor_set.actors ++ closing_of player) ≡ records_of scene (shows_late scene so player)
    all_records =
        let run = run_so so player.play in
        let shows = shows_at_end scene so player in
        let ends = closing shows.arrived shows.histories shows.held shows.stuck in
        (λ i. (opening scene ∷ events_records (vsyncs_alone so.events)) ++ (replies_are i ++ closing_is table scene so player stands i))
        ∙ sym (append_assoc (opening scene ∷ events_records (vsyncs_alone so.events)) (events_records (flat_map (reply_events run) (rising_actors scene))) ends)
        ∙ ap (λ (rs : List Record). (opening scene ∷ rs) ++ ends) (sym (records_more (vsyncs_alone so.events) (flat_map (reply_events run) (rising_actors scene))))

    -- they are those of a run in threads, in one order, with nobody passed over
    fits_live : EndsRun scene so player → IsInOrder (home_in player.play).tells scene so player.play → FitsLive (home_in player.play).tells scene (shows_late scene so player)
    fits_live ends in_order =
        let run = run_so so player.play in
        let same = same_vsyncs run scene so.events in
        record {
          run = run;
          arrivals = arrived_at player.play;
          fits = fits_late table scene so player stands ends;
          late = ap (λ (vs : List VsyncRecords). map event.Vsync vs ++ flat_map (reply_events run) (rising_actors scene)) (sym same);
          order = subst (λ (vs : List VsyncRecords). InOneOrder (home_in player.play).tells (record (happened_so scene so player.play) { vsyncs = vs })) (sym same) in_order.order.order;
          none = subst (λ (vs : List VsyncRecords). LeavesNone (arrived_at player.play) (told_of scene (arrived_at player.play) vs)) (sym same) (none_of_all table scene so player.play stands.stands.stands in_order.none);
        }

    -- where their numbers fit their fields, they mean what such a run means
    means_live : FitsLive (home_in player.play).tells scene (shows_late scene so player) → All RecordFits (records_of scene (shows_late scene so player)) → MeansLive (home_in player.play).tells scene (records_of scene (shows_late scene so player))
    means_live fits fit = record {
      live = record {
        played = record { shows = shows_late scene so player; order = refl; fit = fit; run = fits.run; arrivals = fits.arrivals; fits = fits.fits };
        late = fits.late;
      };
      order = fits.order;
      none = fits.none;
    }

  module _ (table : TableId) (scene : SceneValue) (a b c : Option (List ℕ)) (player : PlayerOf B) (has : HasShownAll table scene a b player) where
    -- the rest of the records was written behind all others, or a part of it
    pub live_written : (r : Result (Unit {0}) RunFault) → OnOk r (Writes b c (all_reply_records player.play.actor_set.actors ++ closing_of player)) → OnOk r (WroteLive (home_in player.play).tells scene a c)
    live_written (Ok u) rest =
        let written = subst (Writes a c) (all_records table scene has.so player has.stands)
        (writes_more a b c (opening scene ∷ events_records (vsyncs_alone has.so.events)) (all_reply_records player.play.actor_set.actors ++ closing_of player) has.written rest) in
        record { records = records_of scene (shows_late scene has.so player); means = means_live table scene has.so player has.stands (fits_live table scene has.so player has.stands has.ends has.in_order) written.fits; written = written }
    live_written (Err e) rest = tt

    pub live_cut : (r : Result (Unit {0}) RunFault) → OnErr r (WritesPart b c (all_reply_records player.play.actor_set.actors ++ closing_of player)) → OnErr r (CutLive (home_in player.play).tells scene a c)
    live_cut (Ok u) rest = tt
    live_cut (Err e) rest =
        in_rest (shows_late scene has.so player) (fits_live table scene has.so player has.stands has.ends has.in_order)
        (subst (WritesPart a c) (all_records table scene has.so player has.stands)
        (part_more a b c (opening scene ∷ events_records (vsyncs_alone has.so.events)) (all_reply_records player.play.actor_set.actors ++ closing_of player) has.written rest))

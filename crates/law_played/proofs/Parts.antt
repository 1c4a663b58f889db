-- Parts of what a played run means, of actors over a desk: replies, arrivals and histories.
use Rattle.std.proofs.Common.{◌≡◌, ℕ, ◌==◌, true, List, [], ◌∷◌, get_or, map, refl, sym, ap, ◌∙◌, subst, inl, inr}
use Rattle.std.specs.Prelude.{All, Contains, reverse}
use Rattle.std.specs.List.{AllZip, range_with_len}
use Rattle.std.proofs.lemmas.Bool.{eq-eqb, or_left, or_right}
use Rattle.std.proofs.lemmas.List.Elements.{All-cons, All-contains, All-head, All-map, All-nil, All-tail, All-weaker, Contains-get_or}
use Rattle.std.proofs.lemmas.List.{length-map}
use Rattle.sf_actor.specs.sf_slots.declared.calls.Entry.{Entry}
use Rattle.sf_actor.specs.sf_slots.Tells.{AreReplies}
use Rattle.sf_actor.specs.sf_surface.Histories.{Made, told}
use Rattle.sf_actor.specs.sf_surface.Shown.{entries_of, shown_call}
use Rattle.sf_actor.specs.sf_surface.Tokens.{ReadLeaseOf}
use Rattle.sf_actor.specs.sf_surface.declared.mark.QueueMark.{QueueMark}
use Rattle.sf_commit.specs.sf_token.Arrivals.{entry_of as token_entry}
use Rattle.sf_commit.specs.sf_token.Pending.{Arrival}
use Rattle.sf_script_scene.specs.Scene.{SceneValue, has_actor}
use Rattle.sf_script_scene.specs.declared.declarations.QueueDecl.{QueueDecl}
use Rattle.sf_script_scene.specs.declared.step.ActorScript.{ActorScript}
use Rattle.sf_actor.specs.declared.done.Done.{Done}
use Rattle.sf_actor.specs.declared.tried.Reply.{Reply}
use Rattle.sf_actor.specs.Desks.{DeskHome, DeskView, mark_among}
use Rattle.sf_actor.specs.Known.{plain_arrival}
use Rattle.sf_actor.specs.Names.{FrameOf}
use Rattle.sf_actor.specs.Tries.{ActorOf}
use Rattle.sf_actor.specs.Values.{replies_of}
use Rattle.sf_record.specs.declared.event.Event.{Event}
use Rattle.sf_record.specs.declared.record.ArrivalEntry.{ArrivalEntry}
use Rattle.sf_record.specs.declared.record.QueueHistory.{QueueHistory}
use Rattle.sf_record.specs.declared.record.ReplyRecord.{ReplyRecord}
use Rattle.law_played.specs.Actors.{AreActors, AreArrivals, AreCalls, IsCallBy, arrivals_of, mark_declared, number_of, run_of, told_on}
use Rattle.law_played.specs.Arrivals.{ArriveInOrder, entry_of, number_of as place_in}
use Rattle.law_played.specs.Histories.{AreHistories, IsCaller, IsHistory, IsReleased, Released, entry_shown, history_shown, released_on, rising_queues}
use Rattle.law_played.specs.Replies.{AnswerSteps, replies_due, replies_in, replies_to, reply_shown}
use Rattle.law_played.specs.Runs.{calls_of}
use Rattle.law_played.specs.Telling.{AreNumbered, AreReleases, TellReplies, arrival_recorded, call_recorded}
use Rattle.law_played.proofs.ArrivedFrames.{is_actor}
use Rattle.law_played.proofs.RunTraces.{played_by, told_legal, trace_here}

-- a map of a map
pub map_twice : {X Y Z : Type 0} (f : X → Y) (g : Y → Z) (xs : List X) → map g (map f xs) ≡ map (λ x. g (f x)) xs
map_twice f g [] = refl
map_twice f g (x ∷ xs) = ap (λ ys. g (f x) ∷ ys) (map_twice f g xs)

-- what a queue shows of its calls is what the record of its history shows
pub calls_recorded : (calls : List Entry) → map call_recorded (entries_of calls) ≡ map entry_shown (reverse calls)
unfolding entry_shown
calls_recorded calls = map_twice shown_call call_recorded (reverse calls)

-- what arrivals show of theirs is what the record of arrivals shows
pub arrivals_recorded : (arrivals : List (Arrival ReadLeaseOf)) → map arrival_recorded (map token_entry arrivals) ≡ map entry_of (map plain_arrival arrivals)
arrivals_recorded [] = refl
arrivals_recorded (arrived ∷ later) = ap (λ (entries : List ArrivalEntry). arrival_recorded (token_entry arrived) ∷ entries) (arrivals_recorded later)

module _ {B : Type 0} where
  -- replies
  due : (scene : SceneValue) (ofs : List (ActorOf B)) (home : DeskHome) (view : DeskView B) (events : List Event) (script : ActorScript) → AreActors scene ofs home view → TellReplies ofs events
      → Contains scene.actors script → replies_to script.number events ≡ replies_due (run_of ofs home view) script.number
  due scene ofs home view events script actors tell there =
      let by = played_by scene ofs home view script actors there in
      let number = by.of.script.number in
      let told = All-contains (λ (of : ActorOf B). replies_to of.script.number events ≡ map reply_shown of.replies) ofs by.of tell.of_each by.there in
      let replied = ap (λ (rs : List Reply). map reply_shown rs) by.keeps.kept.kept.is.replied in
      let traced = ap (λ (trace : List Done). map reply_shown (replies_of number trace)) (sym (trace_here ofs by.of actors.apart by.there)) in
      subst (λ (s : ActorScript). replies_to s.number events ≡ replies_due (run_of ofs home view) s.number) by.is (told ∙ replied ∙ traced)

  pub answer_steps : (scene : SceneValue) (ofs : List (ActorOf B)) (home : DeskHome) (view : DeskView B) (events : List Event) → AreActors scene ofs home view → TellReplies ofs events
      → AnswerSteps scene (run_of ofs home view) events
  answer_steps scene ofs home view events actors tell = record {
    of_each = λ k d low. due scene ofs home view events (get_or scene.actors k d) actors tell (Contains-get_or scene.actors k d low);
    of_none_else = All-weaker (λ (reply : ReplyRecord). Contains (map number_of ofs) reply.actor) (λ (reply : ReplyRecord). has_actor scene.actors reply.actor ≡ true)
        (λ (reply : ReplyRecord). is_actor scene ofs home view reply.actor actors) (replies_in events) tell.of_none_else;
  }

  -- arrivals
  pub arrive_in_order : (scene : SceneValue) (ofs : List (ActorOf B)) (home : DeskHome) (view : DeskView B) (arrived : List ArrivalEntry) → AreActors scene ofs home view → AreArrivals ofs view
      → AreNumbered view.arrivals → arrived ≡ map entry_of (arrivals_of view) → ArriveInOrder scene (arrivals_of view) arrived
  arrive_in_order scene ofs home view arrived actors senders numbered shown = record {
    numbered = map_twice plain_arrival place_in view.arrivals ∙ numbered ∙ ap (λ (n : ℕ). range_with_len 1 n) (sym (length-map view.arrivals plain_arrival));
    shown = shown;
    of_none_else =
        subst (All (λ (entry : ArrivalEntry). has_actor scene.actors entry.actor ≡ true)) (sym shown)
        (All-map (λ (entry : ArrivalEntry). has_actor scene.actors entry.actor ≡ true) entry_of (arrivals_of view)
        (All-map (λ (arrived : Arrival FrameOf). has_actor scene.actors arrived.actor.0 ≡ true) plain_arrival view.arrivals
        (All-weaker (λ (arrived : Arrival ReadLeaseOf). Contains (map number_of ofs) arrived.actor.0) (λ (arrived : Arrival ReadLeaseOf). has_actor scene.actors arrived.actor.0 ≡ true)
        (λ (arrived : Arrival ReadLeaseOf). is_actor scene ofs home view arrived.actor.0 actors) view.arrivals senders)));
  }

  -- histories: who called is of the scene, or the compositor
  told_callers : (scene : SceneValue) (ofs : List (ActorOf B)) (home : DeskHome) (view : DeskView B) (mark : QueueMark) (calls : List (Made B)) → AreActors scene ofs home view
      → All (IsCallBy ofs) calls → All (IsCaller scene) (told mark calls)
  unfolding told
  told_callers scene ofs home view mark [] actors callers = All-nil (IsCaller scene)
  told_callers scene ofs home view mark (made ∷ earlier) actors callers =
      All-cons (IsCaller scene) _ (told mark earlier)
      (elim (All-head (IsCallBy ofs) made earlier callers) [
        | inl release ↦ or_left (made.by == 0) (has_actor scene.actors made.by) (eq-eqb made.by 0 release.0)
        | inr by ↦ or_right (made.by == 0) (has_actor scene.actors made.by) (is_actor scene ofs home view made.by actors by)
      ])
      (told_callers scene ofs home view mark earlier actors (All-tail (IsCallBy ofs) made earlier callers))

  is_history : (scene : SceneValue) (ofs : List (ActorOf B)) (home : DeskHome) (view : DeskView B) (released : List Released) (queue : QueueDecl) → AreActors scene ofs home view
      → AreCalls scene ofs home view → AreReleases scene ofs home view released → Contains scene.queues queue → IsHistory scene (run_of ofs home view) released queue
  is_history scene ofs home view released queue actors calls releases there =
      let mark = mark_among home.marks queue.number in
      let declared = All-contains (λ (queue : QueueDecl). mark_among home.marks queue.number ≡ mark_declared queue) scene.queues queue calls.marks there in
      record {
        legal = subst (λ (m : QueueMark). AreReplies m.width m.height (told_on home view queue.number)) declared (told_legal mark (view.calls queue.number));
        by_compositor = All-contains (λ (queue : QueueDecl). AllZip IsReleased (released_on queue.number released) (calls_of 0 ((run_of ofs home view).calls queue.number))) scene.queues queue releases there;
        by_none_else = told_callers scene ofs home view mark (view.calls queue.number) actors (calls.callers queue.number);
      }

  pub are_histories : (scene : SceneValue) (ofs : List (ActorOf B)) (home : DeskHome) (view : DeskView B) (released : List Released) (histories : List QueueHistory) → AreActors scene ofs home view
      → AreCalls scene ofs home view → AreReleases scene ofs home view released → histories ≡ map (history_shown (run_of ofs home view)) (rising_queues scene)
      → AreHistories scene (run_of ofs home view) released histories
  are_histories scene ofs home view released histories actors calls releases shown = record {
    shown = shown;
    of_each = λ k d low. is_history scene ofs home view released (get_or scene.queues k d) actors calls releases (Contains-get_or scene.queues k d low);
  }

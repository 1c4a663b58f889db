-- The replies of the actors, one actor's behind the other's, tell all that each of them replied.
use Rattle.std.proofs.Common.{◌≡◌, ◌≢◌, ℕ, ◌==◌, Bool, List, [], ◌∷◌, ◌++◌, filter, map, refl, sym, ap, ◌∙◌, subst, inl, inr, arith}
use Rattle.std.specs.Prelude.{All, Contains}
use Rattle.std.specs.List.{flat_map}
use Rattle.std.specs.List.Sorted.{IsStrictlyIncreasing}
use Rattle.std.proofs.lemmas.Bool.{eq-eqb, ne_eqb}
use Rattle.std.proofs.lemmas.List.{append-nil}
use Rattle.std.proofs.lemmas.List.Concat.{flat_map-append}
use Rattle.std.proofs.lemmas.List.Elements.{All-append, All-contains, All-head, All-map, All-nil, All-tail, filter-append}
use Rattle.law_threads.specs.sf_script_scene.Scene.{SceneValue}
use Rattle.law_threads.specs.sf_actor.declared.tried.Reply.{Reply}
use Rattle.law_threads.specs.sf_actor.Desks.{DeskHome, DeskView}
use Rattle.law_threads.specs.sf_actor.Scripts.{picture_at}
use Rattle.law_threads.specs.sf_actor.Traces.{DoneAt, places_of}
use Rattle.law_threads.specs.sf_actor.Tries.{ActorOf, Keeps}
use Rattle.law_threads.specs.sf_actor.Values.{reply_at}
use Rattle.law_threads.specs.sf_record.declared.event.Event.TheVariants as event
use Rattle.law_threads.specs.sf_record.declared.event.VsyncRecords.{VsyncRecords}
use Rattle.law_threads.specs.sf_record.declared.record.ReplyRecord.{ReplyRecord}
use Rattle.law_threads.proofs.law_played_lemmas.StepKeepsTold.{of_all}
use Rattle.law_threads.proofs.law_played_lemmas.Members.{has_cases, has_here, has_later, has_map, has_none}
use Rattle.law_threads.proofs.law_played_lemmas.RunTraces.{head_apart, rising_later}
use Rattle.law_threads.specs.law_played.Actors.{AreActors, number_of}
use Rattle.law_threads.specs.law_played.Replies.{replies_in, replies_to, reply_in, reply_shown}
use Rattle.law_threads.specs.law_played.Telling.{TellReplies}
use Rattle.law_threads.specs.law_played.Vsyncs.{vsync_in, vsyncs_in}
use Rattle.law_joins.specs.Joined.{events_of, replies_told}

abbrev is_to : ℕ → ReplyRecord → Bool
is_to actor reply = reply.actor == actor

-- vsyncs and replies among events of one kind
vsyncs_alone : (reports : List VsyncRecords) → flat_map vsync_in (map event.Vsync reports) ≡ reports
vsyncs_alone [] = refl
vsyncs_alone (report ∷ reports) = ap (λ (rs : List VsyncRecords). report ∷ rs) (vsyncs_alone reports)

no_replies : (reports : List VsyncRecords) → flat_map reply_in (map event.Vsync reports) ≡ []
no_replies [] = refl
no_replies (report ∷ reports) = no_replies reports

no_vsyncs : (replies : List Reply) → flat_map vsync_in (map (λ (told : Reply). event.Reply (reply_shown told)) replies) ≡ []
no_vsyncs [] = refl
no_vsyncs (told ∷ replies) = no_vsyncs replies

replies_alone : (replies : List Reply) → flat_map reply_in (map (λ (told : Reply). event.Reply (reply_shown told)) replies) ≡ map reply_shown replies
replies_alone [] = refl
replies_alone (told ∷ replies) = ap (λ (rs : List ReplyRecord). reply_shown told ∷ rs) (replies_alone replies)

abbrev IsFrom : ℕ → Reply → Type 0
IsFrom n told = told.actor ≡ n

-- the replies to the steps of an actor are its own
own_replies : (n : ℕ) (replies : List Reply) → All (IsFrom n) replies → filter (is_to n) (map reply_shown replies) ≡ map reply_shown replies
own_replies n [] from = refl
own_replies n (told ∷ replies) from =
    rw (eq-eqb told.actor n (All-head (IsFrom n) told replies from)) (ap (λ (rs : List ReplyRecord). reply_shown told ∷ rs) (own_replies n replies (All-tail (IsFrom n) told replies from)))

others_replies : (n m : ℕ) (replies : List Reply) → n ≢ m → All (IsFrom n) replies → filter (is_to m) (map reply_shown replies) ≡ []
others_replies n m [] apart from = refl
others_replies n m (told ∷ replies) apart from =
    rw (ne_eqb told.actor m (λ e. apart (sym (All-head (IsFrom n) told replies from) ∙ e))) (others_replies n m replies apart (All-tail (IsFrom n) told replies from))

module _ {B : Type 0} where
  abbrev shown : ActorOf B → List ReplyRecord
  shown of = map reply_shown of.replies

  abbrev AreOwn : ActorOf B → Type 0
  AreOwn of = All (IsFrom of.script.number) of.replies

  late_vsyncs : (ofs : List (ActorOf B)) → flat_map vsync_in (flat_map replies_told ofs) ≡ []
  late_vsyncs [] = refl
  late_vsyncs (of ∷ ofs) = flat_map-append vsync_in (replies_told of) (flat_map replies_told ofs) ∙ (λ i. no_vsyncs of.replies i ++ late_vsyncs ofs i)

  late_replies : (ofs : List (ActorOf B)) → flat_map reply_in (flat_map replies_told ofs) ≡ flat_map shown ofs
  late_replies [] = refl
  late_replies (of ∷ ofs) = flat_map-append reply_in (replies_told of) (flat_map replies_told ofs) ∙ (λ i. replies_alone of.replies i ++ late_replies ofs i)

  pub vsyncs_are : (reports : List VsyncRecords) (ofs : List (ActorOf B)) → vsyncs_in (events_of reports ofs) ≡ reports
  unfolding vsyncs_in
  vsyncs_are reports ofs =
      flat_map-append vsync_in (map event.Vsync reports) (flat_map replies_told ofs) ∙ (λ i. vsyncs_alone reports i ++ late_vsyncs ofs i) ∙ append-nil reports

  replies_are : (reports : List VsyncRecords) (ofs : List (ActorOf B)) → replies_in (events_of reports ofs) ≡ flat_map shown ofs
  unfolding replies_in
  replies_are reports ofs =
      flat_map-append reply_in (map event.Vsync reports) (flat_map replies_told ofs) ∙ (λ i. no_replies reports i ++ late_replies ofs i)

  none_to : (n : ℕ) (ofs : List (ActorOf B)) → ((of : ActorOf B) → Contains ofs of → AreOwn of) → ((of : ActorOf B) → Contains ofs of → of.script.number ≢ n) → filter (is_to n) (flat_map shown ofs) ≡ []
  none_to n [] own apart = refl
  none_to n (of ∷ ofs) own apart =
      filter-append (is_to n) (shown of) (flat_map shown ofs)
      ∙ (λ i. others_replies of.script.number n of.replies (apart of (has_here of ofs)) (own of (has_here of ofs)) i
      ++ none_to n ofs (λ other there. own other (has_later of other ofs there)) (λ other there. apart other (has_later of other ofs there)) i)

  each_to : (ofs : List (ActorOf B)) → IsStrictlyIncreasing (map number_of ofs) → ((of : ActorOf B) → Contains ofs of → AreOwn of) → (of : ActorOf B) → Contains ofs of
      → filter (is_to of.script.number) (flat_map shown ofs) ≡ shown of
  each_to [] up own of there = has_none of there
  each_to (first ∷ ofs) up own of there = filter-append (is_to of.script.number) (shown first) (flat_map shown ofs) ∙ elim (has_cases first of ofs there) [
    | inl same ↦ subst (λ (o : ActorOf B). filter (is_to o.script.number) (shown first) ++ filter (is_to o.script.number) (flat_map shown ofs) ≡ shown o) same
        ((λ i. own_replies first.script.number first.replies (own first (has_here first ofs)) i
        ++ none_to first.script.number ofs (λ other c. own other (has_later first other ofs c)) (λ other c e. let more = head_apart first other ofs up c in omega (arith, more, e)) i)
        ∙ append-nil (shown first))
    | inr c ↦ let more = head_apart first of ofs up c in (λ i.
        others_replies first.script.number of.script.number first.replies (λ e. omega (arith, more, e)) (own first (has_here first ofs)) i
        ++ each_to ofs (rising_later first ofs up) (λ other d. own other (has_later first other ofs d)) of c i)
  ]

  all_to : (P : ReplyRecord → Type 0) (ofs : List (ActorOf B)) → ((of : ActorOf B) → Contains ofs of → All (λ (told : Reply). P (reply_shown told)) of.replies) → All P (flat_map shown ofs)
  all_to P [] each = All-nil P
  all_to P (of ∷ ofs) each =
      All-append P (shown of) (flat_map shown ofs) (All-map P reply_shown of.replies (each of (has_here of ofs))) (all_to P ofs (λ other there. each other (has_later of other ofs there)))

  module _ (scene : SceneValue) (ofs : List (ActorOf B)) (home : DeskHome) (view : DeskView B) (actors : AreActors scene ofs home view) where
    are_own : (of : ActorOf B) → Contains ofs of → AreOwn of
    are_own of there =
        let keeps = All-contains (λ (o : ActorOf B). Keeps (picture_at scene.pictures) home o view) ofs of actors.keep there in
        subst (All (IsFrom of.script.number)) (sym keeps.kept.kept.is.replied)
        (All-map (IsFrom of.script.number) (reply_at of.script.number) (places_of of.trace) (of_all (λ (at : DoneAt). of.script.number ≡ of.script.number) (places_of of.trace) (λ at c. refl)))

    pub tell_replies : (reports : List VsyncRecords) → TellReplies ofs (events_of reports ofs)
    tell_replies reports = record {
      of_each = of_all (λ (of : ActorOf B). replies_to of.script.number (events_of reports ofs) ≡ map reply_shown of.replies) ofs (λ of there.
          ap (filter (is_to of.script.number)) (replies_are reports ofs) ∙ each_to ofs actors.apart are_own of there);
      of_none_else = subst (All (λ (reply : ReplyRecord). Contains (map number_of ofs) reply.actor)) (sym (replies_are reports ofs))
          (all_to (λ (reply : ReplyRecord). Contains (map number_of ofs) reply.actor) ofs (λ of there.
          of_all (λ (told : Reply). Contains (map number_of ofs) told.actor) of.replies (λ told c.
          subst (Contains (map number_of ofs)) (sym (All-contains (IsFrom of.script.number) of.replies told (are_own of there) c)) (has_map number_of ofs of there))));
    }

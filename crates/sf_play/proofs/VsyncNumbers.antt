-- The vsyncs of the rounds behind a run can all be numbered: each arrival is of a step that is done.
use Rattle.std.proofs.Common.{◌≡◌, ℕ, ◌+◌, ◌-◌, ◌*◌, ◌<◌, ◌≤◌, ◌==◌, true, false, List, [], ◌∷◌, length, filter, map, sym, ap, inl, inr, arith}
use Rattle.std.specs.Prelude.{All, Contains}
use Rattle.std.specs.List.{flat_map, sum_by}
use Rattle.std.proofs.lemmas.Bool.{cases_Bool, eq-eqb}
use Rattle.std.proofs.lemmas.List.{length-append, length-drop, length-map, length-take}
use Rattle.std.proofs.lemmas.List.Elements.{All-contains, All-head, All-tail}
use Rattle.std.proofs.lemmas.List.Sorted.{Contains-permutation, IsPermutation-sym}
use Rattle.std.proofs.lemmas.List.Sums.{count_by-le-length, length-filter, sum_by-cons}
use Rattle.atomic_table.specs.Seated.{TableId}
use Rattle.sf_picture.specs.declared.picture.Picture.{Picture}
use Rattle.sf_play_report.specs.sf_surface.Tokens.{ReadLeaseOf}
use Rattle.sf_play_report.specs.sf_token.Pending.{Arrival}
use Rattle.sf_script_scene.specs.Limits.{IsActor, most_actors}
use Rattle.sf_script_scene.specs.Scene.{SceneValue}
use Rattle.sf_script_scene.specs.declared.step.ActorScript.{ActorScript}
use Rattle.sf_script_scene.specs.declared.step.Step.{Step}
use Rattle.law_rights.specs.sf_actor_steps.declared.actor.Actor.{Actor}
use Rattle.sf_play_report.specs.sf_actor.declared.done.Done.{Done}
use Rattle.sf_play_report.specs.sf_actor.Desks.{DeskHome, DeskView}
use Rattle.sf_play_report.specs.sf_actor.Known.{frame_of, is_sent_by, plain_arrival}
use Rattle.sf_play_report.specs.sf_actor.Names.{FrameOf}
use Rattle.sf_play_report.specs.sf_actor.Scripts.{picture_at}
use Rattle.sf_play_report.specs.sf_actor.Steps.{sent_by}
use Rattle.sf_play_report.specs.sf_actor.ScriptTraces.{step_done}
use Rattle.sf_play_report.specs.sf_actor.Traces.{Past, next, no_past, places_from, sent_at}
use Rattle.sf_play_report.specs.sf_actor.Tries.{ActorOf, Keeps}
use Rattle.law_rights.specs.sf_actor_set.ActorSets.{KeepAs}
use Rattle.sf_play_report.proofs.law_played_lemmas.StepKeepsTold.{of_all}
use Rattle.sf_play_report.proofs.law_played_lemmas.Members.{has_cases, has_map, has_none, map_has}
use Rattle.sf_play_report.specs.law_played.Actors.{number_of, script_of}
use Rattle.sf_play_report.specs.law_played.Framing.{framed_arrival}
use Rattle.sf_play_report.specs.law_played.Holds.{is_uncommitted}
use Rattle.sf_play_report.specs.law_played.Vsyncs.{commits_in, vsyncs_in}
use Rattle.sf_play.proofs.ActionFuel.{few_weigh, one_sent, sent_many}
use Rattle.sf_play.proofs.PlayFuel.{few_actors, many_below}
use Rattle.sf_play.specs.Fuel.{now_in, steps_left, untaken, vsyncs_left}
use Rattle.sf_play.specs.Players.{PlayOf, SoFar, Stands, arrived_at, home_in, taken_at, view_in}
use Rattle.sf_play.specs.declared.place.Place.TheVariants as at

-- the steps of a trace send no more transactions than they are
sends_from : (place : ℕ) (past : Past) (trace : List Done) → length (flat_map sent_at (places_from place past trace)) ≤ length trace
unfolding places_from
sends_from place past [] = omega arith
sends_from place past (done ∷ later) =
    let rest = sends_from (place + 1) (next place past done) later in
    let here = one_sent place done.answered (sent_by past.holdings done.step) in
    let both = length-append (sent_at (record { place = place; past = past; done = done })) (flat_map sent_at (places_from (place + 1) (next place past done) later)) in
    omega (arith, rest, here, both)

module _ {B : Type 0} where
  -- how many of these arrivals each actor sent, together
  abbrev sent_in_all : List (ActorOf B) → List (Arrival ReadLeaseOf) → ℕ
  sent_in_all ofs arrivals = sum_by (λ (of : ActorOf B). length (filter (is_sent_by of.script.number) arrivals)) ofs

  abbrev done_in_all : List (ActorOf B) → ℕ
  done_in_all ofs = sum_by (λ (of : ActorOf B). length of.trace) ofs

  first_or_more : (of : ActorOf B) (a : Arrival ReadLeaseOf) (later : List (Arrival ReadLeaseOf))
      → length (filter (is_sent_by of.script.number) later) ≤ length (filter (is_sent_by of.script.number) (a ∷ later))
  first_or_more of a later = elim (cases_Bool (is_sent_by of.script.number a)) [
    | inl met ↦ rw met (omega arith)
    | inr unmet ↦ rw unmet (omega arith)
  ]

  no_fewer : (ofs : List (ActorOf B)) (a : Arrival ReadLeaseOf) (later : List (Arrival ReadLeaseOf)) → sent_in_all ofs later ≤ sent_in_all ofs (a ∷ later)
  no_fewer [] a later = omega arith
  no_fewer (of ∷ ofs) a later =
      let rest = no_fewer ofs a later in
      let here = first_or_more of a later in
      let was = sum_by-cons (λ (o : ActorOf B). length (filter (is_sent_by o.script.number) later)) of ofs in
      let now = sum_by-cons (λ (o : ActorOf B). length (filter (is_sent_by o.script.number) (a ∷ later))) of ofs in
      omega (arith, rest, here, was, now)

  one_more : (ofs : List (ActorOf B)) (a : Arrival ReadLeaseOf) (later : List (Arrival ReadLeaseOf)) → Contains (map number_of ofs) a.actor.0 → sent_in_all ofs later + 1 ≤ sent_in_all ofs (a ∷ later)
  one_more [] a later there = has_none a.actor.0 there
  one_more (of ∷ ofs) a later there =
      let was = sum_by-cons (λ (o : ActorOf B). length (filter (is_sent_by o.script.number) later)) of ofs in
      let now = sum_by-cons (λ (o : ActorOf B). length (filter (is_sent_by o.script.number) (a ∷ later))) of ofs in
      elim (has_cases (number_of of) a.actor.0 (map number_of ofs) there) [
        | inl same ↦
            let met : (a.actor.0 == of.script.number) ≡ true = eq-eqb a.actor.0 of.script.number (sym same) in
            let here : length (filter (is_sent_by of.script.number) (a ∷ later)) ≡ length (filter (is_sent_by of.script.number) later) + 1 = rw met (omega arith) in
            let rest = no_fewer ofs a later in
            omega (arith, here, rest, was, now)
        | inr more ↦
            let here = first_or_more of a later in
            let rest = one_more ofs a later more in
            omega (arith, here, rest, was, now)
      ]

  all_counted : (ofs : List (ActorOf B)) (arrivals : List (Arrival ReadLeaseOf)) → All (λ (a : Arrival ReadLeaseOf). Contains (map number_of ofs) a.actor.0) arrivals
      → length arrivals ≤ sent_in_all ofs arrivals
  all_counted ofs [] all = omega arith
  all_counted ofs (a ∷ later) all =
      let rest = all_counted ofs later (All-tail (λ (x : Arrival ReadLeaseOf). Contains (map number_of ofs) x.actor.0) a later all) in
      let more = one_more ofs a later (All-head (λ (x : Arrival ReadLeaseOf). Contains (map number_of ofs) x.actor.0) a later all) in
      omega (arith, rest, more)

  all_traced : (pictures : ℕ → Picture) (home : DeskHome) (view : DeskView B) (ofs : List (ActorOf B)) → All (λ (of : ActorOf B). Keeps pictures home of view) ofs → sent_in_all ofs view.arrivals ≤ done_in_all ofs
  all_traced pictures home view [] keep = omega arith
  all_traced pictures home view (of ∷ ofs) keep =
      let rest = all_traced pictures home view ofs (All-tail (λ (o : ActorOf B). Keeps pictures home o view) of ofs keep) in
      let sent = sent_many pictures home view of (All-head (λ (o : ActorOf B). Keeps pictures home o view) of ofs keep) in
      let few = sends_from 1 no_past of.trace in
      let sends = sum_by-cons (λ (o : ActorOf B). length (filter (is_sent_by o.script.number) view.arrivals)) of ofs in
      let done = sum_by-cons (λ (o : ActorOf B). length o.trace) of ofs in
      omega (arith, rest, sent, few, sends, done)

  -- steps that are left, and those that are done
  both_few : (table : TableId) (pictures : ℕ → Picture) (home : DeskHome) (view : DeskView B) (actors : List (Actor B)) (ofs : List (ActorOf B)) → KeepAs table pictures home view actors ofs
      → All (λ (of : ActorOf B). length of.script.steps ≤ 4096) ofs → steps_left actors + done_in_all ofs ≤ 4096 * length ofs
  both_few table pictures home view [] [] keep few = omega arith
  both_few table pictures home view [] (of ∷ ofs) keep few = absurd keep
  both_few table pictures home view (actor ∷ actors) [] keep few = absurd keep
  both_few table pictures home view (actor ∷ actors) (of ∷ ofs) keep few =
      let rest = both_few table pictures home view actors ofs keep.1 (All-tail (λ (o : ActorOf B). length o.script.steps ≤ 4096) of ofs few) in
      let script = ap (λ (s : ActorScript). length s.steps) keep.0.is.script in
      let trace = keep.0.is.trace in
      let here : length of.script.steps ≤ 4096 = All-head (λ (o : ActorOf B). length o.script.steps ≤ 4096) of ofs few in
      let first = ap (λ (steps : List Step). length steps) keep.0.keeps.kept.kept.is.first in
      let mapped = length-map of.trace step_done in
      let taken = length-take (length of.trace) of.script.steps in
      let left = sum_by-cons (λ (a : Actor B). length a.script.steps - length a.replies.items) actor actors in
      let done = sum_by-cons (λ (o : ActorOf B). length o.trace) of ofs in
      omega (arith, rest, script, trace, here, first, mapped, taken, left, done)

  module _ (table : TableId) (scene : SceneValue) (so : SoFar B) (play : PlayOf B) (stands : Stands table scene so play) where
    scripts_within : (of : ActorOf B) → Contains so.actors of → IsActor (most_actors scene.version) of.script
    scripts_within of there =
        All-contains (IsActor (most_actors scene.version)) scene.actors of.script stands.of_scene.limits.actors.each
        (Contains-permutation (map script_of so.actors) scene.actors of.script (IsPermutation-sym scene.actors (map script_of so.actors) stands.tell.actors.scripts) (has_map script_of so.actors of there))

    few_here : length so.actors ≤ 64
    few_here =
        let mapped = length-map so.actors number_of in
        let many = many_below (map number_of so.actors) 64 stands.tell.actors.apart (of_all (λ (n : ℕ). (1 ≤ n) × (n ≤ 64)) (map number_of so.actors) (λ n there.
        let of = map_has number_of so.actors n there in
        let is = scripts_within of.0 of.1 in
        let low = is.low in
        let high = is.high in
        let most = few_actors scene.version in
        let same = of.2 in
        (omega (arith, low, same), omega (arith, high, most, same)))) in
        omega (arith, mapped, many)

    -- what waits and what was not taken has arrived
    few_waiting : length play.handler.pending + length (untaken play) ≤ length (view_in play).arrivals
    few_waiting =
        let commits = commits_in (vsyncs_in so.events) in
        let waits = ap (λ (xs : List (Arrival FrameOf)). length xs) stands.vsyncs.played.waits in
        let framed = length-map play.handler.pending (framed_arrival frame_of) in
        let kept = length-filter (is_uncommitted commits) (taken_at play) in
        let some = count_by-le-length (is_uncommitted commits) (taken_at play) in
        let taken = length-take (home_in play).taken (arrived_at play) in
        let mapped = length-map (view_in play).arrivals plain_arrival in
        let rest = length-drop (home_in play).taken (view_in play).arrivals in
        let low = stands.desk.taken in
        omega (arith, waits, framed, kept, some, taken, mapped, rest, low)

    -- the vsyncs of rounds from here on can be numbered
    pub rounds_numbered : play.vsyncs ≤ 2147483648 → play.vsyncs + vsyncs_left play.order play (at.Round 0 false) < 4294967295
    rounds_numbered made =
        let few = few_here in
        let steps = both_few table (picture_at scene.pictures) (home_in play) (view_in play) play.actor_set.actors so.actors stands.keep
        (of_all (λ (of : ActorOf B). length of.script.steps ≤ 4096) so.actors (λ of there. (scripts_within of there).few_steps)) in
        let counted = all_counted so.actors (view_in play).arrivals stands.tell.senders in
        let traced = all_traced (picture_at scene.pictures) (home_in play) (view_in play) so.actors stands.tell.actors.keep in
        let waiting = few_waiting in
        let pending = few_weigh (now_in play) play.handler.pending in
        let sent = few_weigh (now_in play) (untaken play) in
        omega (arith, made, few, steps, counted, traced, waiting, pending, sent)

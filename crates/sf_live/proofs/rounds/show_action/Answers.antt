use Rattle.std.proofs.Common.{ℕ, Bool, List, Err, ap, arith, length, not, subst, sym}
use Rattle.std.proofs.lemmas.List.{with_items_is}
use Rattle.atomic_table.specs.Seated.{TableId}
use Rattle.law_live_order.specs.law_rounds.Rounds.{IsInOrder}
use Rattle.law_live_order.proofs.law_rounds_lemmas.InOrder.{keeps_order}
use Rattle.sf_picture.specs.declared.picture.Picture.{Picture}
use Rattle.sf_script_scene.specs.Scene.{SceneValue}
use Rattle.sf_live_compositor.specs.sf_actor.Plain.{home_of, view_of}
use Rattle.sf_live_compositor.specs.sf_actor_set.ActorSets.{KeepAs}
use Rattle.sf_live_compositor.specs.sf_live_threads.Gates.{HavePassed}
use Rattle.sf_live_compositor.specs.sf_live_threads.declared.gates.Gates.{Gates}
use Rattle.sf_live_compositor.specs.sf_play.Actions.{next_tried}
use Rattle.sf_live_compositor.specs.sf_play.Players.{PlayerOf, SoFar, home_in}
use Rattle.sf_live_compositor.specs.sf_play.Standing.{StandsInRun}
use Rattle.sf_live.specs.inner.Rounds.{ShowsOn}
use Rattle.sf_live_compositor.specs.sf_actor.Scripts.{picture_at}
use Rattle.sf_live_compositor.specs.sf_record.declared.encode.RunFault.TheVariants.{NoMemory}
use Rattle.sf_live_compositor.proofs.sf_play_write_lemmas.ClosingLemmas.{few_steps}
use Rattle.sf_live_compositor.proofs.sf_play_write_lemmas.ActionLemmas.{timelines_within}
use Rattle.sf_live_compositor.proofs.FaultCounts.{err_fault}
use Rattle.sf_live.proofs.GateLemmas.{as_long, turned}
use Rattle.sf_live.proofs.RoundLemmas.{action_cut, cut_before, may_write, no_fault, shows_on}
use Rattle.sf_live.proofs.RunLemmas.{no_write_fault}
use Rattle.sf_live.proofs.rounds.show_action.Goals as goal

-- the actors of a player that stands in a run keep what they keep, over the pictures that it has
keeps_now : {B : Type 0} (table : TableId) (scene : SceneValue) (so : SoFar B) (player : PlayerOf B) → StandsInRun table scene so player
    → KeepAs table (picture_at player.play.actor_set.pictures) (home_of player.play.actor_set.desk) (view_of player.play.actor_set.desk) player.play.actor_set.actors so.actors
keeps_now table scene so player stands =
    let s = stands.stands.stands in
    subst (λ (pictures : List Picture). KeepAs table (picture_at pictures) (home_of player.play.actor_set.desk) (view_of player.play.actor_set.desk) player.play.actor_set.actors so.actors) (sym s.of_scene.pictures) s.keep

pub pass_gate-requires-clause-few : goal.pass_gate-requires-clause-few
pass_gate-requires-clause-few g c = λ place actor below.
    let has = c.requires.shown.2 in
    few_steps g.B.TableName.table c.requires.shown.0 has.so c.args.run.now.player has.stands place actor below

pub pass_gate-requires-clause-gates : goal.pass_gate-requires-clause-gates
pass_gate-requires-clause-gates g c = subst (HavePassed c.args.run.now.player.play.actor_set.actors) (sym c.deref_mut.ensures.value) c.requires.gates

pub returns-in-Err-clause-ended : goal.returns-in-Err-clause-ended
returns-in-Err-clause-ended g c = record {
  ok = tt;
  err = λ tells scene start has. cut_before tells g.B.TableName.table scene c.args.shows.now.plan c.args.shows.now.timelines.items start _ c.args.screens.now c.args.run.now.player has;
  later = omega arith;
  failed = λ is. absurd (no_write_fault (err_fault NoMemory is));
}

pub write_action-requires-clause-timelines : goal.write_action-requires-clause-timelines
write_action-requires-clause-timelines g c = λ lives outlives.
    let has = c.requires.shown.2 in
    timelines_within c.requires.shown.0 c.args.shows.now.timelines.items has.stands.stands.stands.of_scene.limits has.rising

pub write_action-requires-clause-may : goal.write_action-requires-clause-may
write_action-requires-clause-may g c = λ lives outlives.
    let has = c.requires.shown.2 in
    (c.requires.shown.0, may_write g.B.TableName.table c.requires.shown.0 c.args.shows.now.plan has.so c.in-Ok.action c.next.new.self has.planned (c.in-Ok.ensures.on c.requires.shown.0 has.so has.stands))

pub returns-in-Ok-write_action-clause-ended : goal.returns-in-Ok-write_action-clause-ended
returns-in-Ok-write_action-clause-ended g c = record {
  ok = λ scene start has.
      let goes = c.in-Ok.ensures.on scene has.so has.stands in
      let may = may_write g.B.TableName.table scene c.args.shows.now.plan has.so c.in-Ok.action c.next.new.self has.planned goes in
      let now = c.in-Ok-write_action.ensures.ok scene may has.shown in
      let takes = c.in-Ok.ensures.acts has.so.actors (keeps_now g.B.TableName.table scene has.so c.args.run.now.player has.stands) in
      let ordered = keeps_order _ (record { plain = λ a b e. e; picture = λ a b e. e; number = λ a b e. ap (λ (p : ℕ × ℕ). p.1) e }) g.B.TableName.table scene has.so c.args.run.now.player c.next.new.self c.in-Ok.action
      (home_in c.args.run.now.player.play).tells has.stands takes goes has.in_order in
      let in_order = subst (λ (tells : Bool). IsInOrder tells scene goes.later c.next.new.self.play) (sym c.in-Ok.ensures.told) ordered in
      subst (λ (b : Bool). ShowsOn (not b) g.B.TableName.table scene c.args.shows.now.plan c.args.shows.now.timelines.items start (g.K.Sink.taken c.write_action.new.sink) c.write_action.new.screens c.next.new.self) (sym c.is_end-goes_on.ensures)
      (shows_on g.B.TableName.table scene c.args.shows.now.plan c.args.shows.now.timelines.items start (g.K.Sink.taken c.args.sink.now) (g.K.Sink.taken c.write_action.new.sink) c.args.screens.now c.write_action.new.screens
      c.args.run.now.player c.next.new.self c.in-Ok.action has goes in_order now.0 now.1);
  err = tt;
  later = c.write_action.ensures.later;
  failed = λ is. absurd (no_fault is);
}

pub returns-in-Ok-write_action-clause-gates : goal.returns-in-Ok-write_action-clause-gates
returns-in-Ok-write_action-clause-gates g c =
    let has = c.requires.shown.2 in
    let keep = keeps_now g.B.TableName.table c.requires.shown.0 has.so c.args.run.now.player has.stands in
    let own = subst (HavePassed c.args.run.now.player.play.actor_set.actors) (sym c.deref_mut.ensures.value) c.requires.gates in
    let passed =
    turned _ g.B.TableName.table has.so.actors c.args.run.now.player c.next.new.self c.in-Ok.action c.deref_mut.result.now c.pass_gate.new.gates keep own (c.in-Ok.ensures.acts has.so.actors keep) c.pass_gate.ensures.passed in
    let many = c.args.run.now.gates.ok.0 in
    let same = ap (λ (gates : List Gates). length gates) c.deref_mut.ensures.value in
    let long = as_long (next_tried c.args.run.now.player) c.args.run.now.player.play.actor_set.actors c.deref_mut.result.now c.pass_gate.new.gates c.pass_gate.ensures.passed in
    subst (HavePassed c.next.new.self.play.actor_set.actors) (sym (with_items_is c.args.run.now.gates c.pass_gate.new.gates (omega (arith, many, long, same)))) passed

pub returns-in-Err-write_action-clause-ended : goal.returns-in-Err-write_action-clause-ended
returns-in-Err-write_action-clause-ended g c = record {
  ok = tt;
  err = λ tells scene start has.
      let goes = c.in-Ok.ensures.on scene has.so has.stands in
      let may = may_write g.B.TableName.table scene c.args.shows.now.plan has.so c.in-Ok.action c.next.new.self has.planned goes in
      action_cut tells g.B.TableName.table scene c.args.shows.now.plan c.args.shows.now.timelines.items start (g.K.Sink.taken c.args.sink.now) (g.K.Sink.taken c.write_action.new.sink) c.args.screens.now c.args.run.now.player
      c.next.new.self c.in-Ok.action has goes (c.in-Err-write_action.ensures.err scene may has.shown);
  later = c.write_action.ensures.later;
  failed = λ is. c.in-Err-write_action.ensures.failed (ap Err (err_fault c.in-Err-write_action.fault is));
}

pub returns-in-Ok-write_action-clause-told : goal.returns-in-Ok-write_action-clause-told
returns-in-Ok-write_action-clause-told g c = c.in-Ok.ensures.told

use Rattle.std.proofs.Common.{◌∙◌, ap, List, length}
use Rattle.sf_actor_steps.specs.declared.actor.Actor.{Actor}
use Rattle.sf_actor_steps.specs.sf_actor.Plain.{home_of}
use Rattle.sf_actor_set.specs.ActorSets.{ActorSetOf, scripts_of}
use Rattle.sf_actor_set.proofs.SteppingLemmas.{as_lent, is_actor_set_after, many_same, may_step, whole_tries, written_back}
use Rattle.sf_actor_set.proofs.actor_set.ActorSet.try_step.Goals as goal

pub try_at-tried-requires-clause-may : goal.try_at-tried-requires-clause-may
try_at-tried-requires-clause-may g c = may_step _ _ _ _ _ _ c.self.inside.is_spent c.as_slice.ensures c.deref_mut.ensures.value c.if-self.false c.self.invariant

pub invariant_of-self : goal.invariant_of-self
invariant_of-self g c =
    let scripts = c.try_at-tried.ensures.scripts ∙ ap (scripts_of {B = g.row.B.Denot}) c.deref_mut.ensures.value in
    let tries = as_lent _ _ _ c.args.index _ _ _ _ _ _ c.as_slice.ensures c.deref_mut.ensures.value c.try_at-tried.ensures.steps in
    let back = written_back c.try_at-tried.new.actors c.self.inside.actors.items c.self.inside.actors.len c.self.inside.actors.ok.0 scripts in
    rw back (is_actor_set_after _ _ c.args.index _ _ _ _ _ c.self.inside.is_spent _ c.if-self.false c.is_err-self-inside.ensures.value c.self.invariant scripts c.try_at-tried.ensures.home tries)

pub returns-clause-steps : goal.returns-clause-steps
returns-clause-steps g c =
    let scripts = c.try_at-tried.ensures.scripts ∙ ap (scripts_of {B = g.row.B.Denot}) c.deref_mut.ensures.value in
    let tries = as_lent _ _ _ c.args.index _ _ _ _ _ _ c.as_slice.ensures c.deref_mut.ensures.value c.try_at-tried.ensures.steps in
    let back = written_back c.try_at-tried.new.actors c.self.inside.actors.items c.self.inside.actors.len c.self.inside.actors.ok.0 scripts in
    λ ofs keep. whole_tries _ c.args.index _ _ _ _ _ _ _ _ _ c.self.view_is back tries ofs keep

pub returns-clause-many : goal.returns-clause-many
returns-clause-many g c =
    let scripts = c.try_at-tried.ensures.scripts ∙ ap (scripts_of {B = g.row.B.Denot}) c.deref_mut.ensures.value in
    let back = written_back c.try_at-tried.new.actors c.self.inside.actors.items c.self.inside.actors.len c.self.inside.actors.ok.0 scripts in
    ap (λ (actors : List (Actor g.row.B.Denot)). length actors) back ∙ many_same c.try_at-tried.new.actors c.self.inside.actors.items scripts ∙ ap (λ (actor_set : ActorSetOf g.row.B.Denot). length actor_set.actors) c.self.view_is

pub returns-clause-same : goal.returns-clause-same
returns-clause-same g c =
    let scripts = c.try_at-tried.ensures.scripts ∙ ap (scripts_of {B = g.row.B.Denot}) c.deref_mut.ensures.value in
    let back = written_back c.try_at-tried.new.actors c.self.inside.actors.items c.self.inside.actors.len c.self.inside.actors.ok.0 scripts in
    record {
      pictures = ap (λ (actor_set : ActorSetOf g.row.B.Denot). actor_set.pictures) c.self.view_is;
      scripts = ap (scripts_of {B = g.row.B.Denot}) back ∙ scripts ∙ ap (λ (actor_set : ActorSetOf g.row.B.Denot). scripts_of actor_set.actors) c.self.view_is;
      home = c.try_at-tried.ensures.home ∙ ap (λ (actor_set : ActorSetOf g.row.B.Denot). home_of actor_set.desk) c.self.view_is;
    }

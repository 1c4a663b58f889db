use Rattle.std.proofs.Common.{◌≡◌, ℕ, ◌≤◌, ◌∙◌, ap, subst, sym}
use Rattle.sf_play_report.specs.sf_turns.Counts.{range}
use Rattle.law_rights.specs.sf_actor_set.Scripts.{permits_of}
use Rattle.sf_play_report.specs.sf_commit.Handlers.{new_handler}
use Rattle.sf_script_scene.specs.Scene.{SceneValue}
use Rattle.sf_play.proofs.Rights.{begins, begins_player}
use Rattle.sf_play.proofs.player.Player.new.Goals as goal

pub invariant_of-result : goal.invariant_of-result
invariant_of-result g c =
    let scene : SceneValue = record {
      version = c.scene.inside.version;
      width = c.scene.inside.width;
      height = c.scene.inside.height;
      period = c.scene.inside.period;
      timelines = c.scene.inside.timelines;
      queues = c.scene.inside.queues;
      pictures = c.scene.inside.pictures;
      actors = c.scene.inside.actors;
      order = c.scene.inside.order;
      displays = c.scene.inside.displays;
      stacks = c.scene.inside.stacks;
      captures = c.scene.inside.captures;
      hits = c.scene.inside.hits;
      mirrors = c.scene.inside.mirrors;
    } in
    let whole : c.args.stock.buffers ≡ range 0 (permits_of c.scene.inside.actors) = subst (λ (s : SceneValue). c.args.stock.buffers ≡ range 0 (permits_of s.actors)) (sym c.scene.view_is) c.requires.whole in
    let sized : permits_of c.scene.inside.actors ≤ g.B.TableName.table.slots = subst (λ (s : SceneValue). permits_of s.actors ≤ g.B.TableName.table.slots) (sym c.scene.view_is) c.requires.sized in
    begins_player _ scene c.scene.invariant c.args.seat c.args.stock.buffers c.in_ok-actor_set.actor_set c.in_ok-handler.handler c.new-3.result c.as_slice.result.now c.as_slice.ensures c.in_ok-actor_set.ensures
    (c.in_ok-handler.ensures ∙ ap (λ (most : ℕ). new_handler c.scene.inside.width c.scene.inside.height most) c.most_layers.ensures) (c.new-3.ensures ∙ c.new-2.ensures.items) c.requires.fresh whole sized

pub returns : goal.returns
returns g c =
    let scene : SceneValue = record {
      version = c.scene.inside.version;
      width = c.scene.inside.width;
      height = c.scene.inside.height;
      period = c.scene.inside.period;
      timelines = c.scene.inside.timelines;
      queues = c.scene.inside.queues;
      pictures = c.scene.inside.pictures;
      actors = c.scene.inside.actors;
      order = c.scene.inside.order;
      displays = c.scene.inside.displays;
      stacks = c.scene.inside.stacks;
      captures = c.scene.inside.captures;
      hits = c.scene.inside.hits;
      mirrors = c.scene.inside.mirrors;
    } in
    let whole : c.args.stock.buffers ≡ range 0 (permits_of c.scene.inside.actors) = subst (λ (s : SceneValue). c.args.stock.buffers ≡ range 0 (permits_of s.actors)) (sym c.scene.view_is) c.requires.whole in
    let sized : permits_of c.scene.inside.actors ≤ g.B.TableName.table.slots = subst (λ (s : SceneValue). permits_of s.actors ≤ g.B.TableName.table.slots) (sym c.scene.view_is) c.requires.sized in
    rw (← c.scene.view_is) (begins _ scene c.scene.invariant c.args.seat c.args.stock.buffers c.in_ok-actor_set.actor_set c.in_ok-handler.handler c.new-3.result c.as_slice.result.now c.as_slice.ensures c.in_ok-actor_set.ensures
    (c.in_ok-handler.ensures ∙ ap (λ (most : ℕ). new_handler c.scene.inside.width c.scene.inside.height most) c.most_layers.ensures) (c.new-3.ensures ∙ c.new-2.ensures.items) c.requires.fresh whole sized)

-- A scene that is opened may be run.
use Rattle.std.proofs.Common.{◌≡◌, ℕ, List, [], ◌∷◌, Option, ap, ◌∙◌, sym, subst}
use Rattle.atomic_table.specs.Seated.{TableId}
use Rattle.sf_live_compositor.specs.sf_commit.Handlers.{HandlerOf, new_handler}
use Rattle.sf_script_scene.specs.Limits.{IsWithinLimits, most_layers}
use Rattle.sf_script_scene.specs.Scene.{SceneValue}
use Rattle.sf_script_scene.specs.declared.declarations.QueueDecl.{QueueDecl}
use Rattle.sf_live_compositor.specs.sf_surface.Tokens.{ReadLeaseOf}
use Rattle.sf_live_compositor.specs.sf_actor_set.Scripts.{AreOfScene}
use Rattle.sf_live_compositor.specs.law_played.Played.{opening}
use Rattle.sf_live_compositor.specs.sf_play_write.Showing.{IsOfScene}
use Rattle.sf_live_compositor.specs.sf_play_write.declared.shows.Shows.{Shows}
use Rattle.sf_live_compositor.specs.sf_play_write.Writing.{Writes}
use Rattle.sf_live.specs.declared.opening.Opened.{Opened}
use Rattle.sf_live.specs.Openings.{IsOpen}
use Rattle.sf_live.specs.inner.Running.{MayRun}

-- the parts of a scene are those of one
abbrev pub of_scene : (scene inside : SceneValue) (queues : List QueueDecl) → inside ≡ scene → IsWithinLimits inside → queues ≡ inside.queues → AreOfScene queues inside.pictures inside.actors
of_scene scene inside queues same limits are = record {
  scene = scene;
  limits = subst IsWithinLimits same limits;
  queues_of = sym (are ∙ ap (λ (s : SceneValue). s.queues) same);
  pictures_of = sym (ap (λ (s : SceneValue). s.pictures) same);
  scripts_of = sym (ap (λ (s : SceneValue). s.actors) same);
}

pub may_run : {B : Type 0} (table : TableId) (scene inside : SceneValue) (before now : Option (List ℕ)) (shows : Shows) (most : ℕ) (handler : HandlerOf ReadLeaseOf) (opened : Opened B) → inside ≡ scene
    → IsOpen scene table opened → handler ≡ new_handler inside.width inside.height most → most ≡ most_layers inside.version → IsOfScene scene shows → Writes before now (opening scene ∷ [])
    → MayRun table scene before now (record { shows = shows; period = inside.period; order = inside.order; handler = handler }) opened
may_run table scene inside before now shows most handler opened same opens new limit asked begun = record {
  opens = opens;
  handler_is = new
      ∙ ap (λ (n : ℕ). new_handler inside.width inside.height n) limit
      ∙ (λ i. new_handler (same i).width (same i).height (most_layers (same i).version));
  asked = asked;
  same_period = ap (λ (s : SceneValue). s.period) same;
  same_order = ap (λ (s : SceneValue). s.order) same;
  begun = begun;
}

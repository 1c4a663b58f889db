use Rattle.std.proofs.Common.{◌≤◌, List, ◌∷◌, length, ◌∙◌, ap, rules, sym, subst}
use Rattle.std.specs.Prelude.{map}
use Rattle.std.specs.List.{AllByRecursion, AllZip}
use Rattle.std.specs.List.Sorted.{IsStrictlyIncreasing}
use Rattle.std.proofs.lemmas.List.Sorted.{All-permutation}
use Rattle.sf_picture.specs.declared.picture.Picture.{Picture}
use Rattle.sf_script_scene.specs.declared.step.ActorScript.{ActorScript}
use Rattle.sf_script_scene.specs.declared.declarations.QueueDecl.{QueueDecl}
use Rattle.sf_live_compositor.specs.sf_surface.Objects.{mark_of}
use Rattle.sf_live_compositor.specs.sf_actor.Plain.{PlainOf, home_of, view_of}
use Rattle.sf_live_compositor.specs.sf_actor.Scripts.{picture_at}
use Rattle.sf_live_compositor.specs.sf_actor_steps.Actors.{IsActor}
use Rattle.sf_live_compositor.specs.sf_actor_steps.declared.actor.Actor.{Actor}
use Rattle.sf_live_compositor.specs.sf_actor_set.Opening.{IsSortedFrom, OpensQueues, new_actors}
use Rattle.sf_live_compositor.specs.sf_actor_set.Scripts.{permits_of}
use Rattle.sf_live_compositor.specs.sf_live_seats.Closing.{HasNoCalls}
use Rattle.sf_live_compositor.specs.sf_live_threads.Seating.{IsNewcomer, number_of}
use Rattle.sf_live.proofs.Newcomers.{few_opened, newcomers, numbers_same, opened_bare, rise_behind}
use Rattle.sf_live.proofs.OpenedScenes.{are_actors, marks_opened, stock_below, stock_once}
use Rattle.sf_live.proofs.opening.open.Goals as goal

pub open-requires : goal.open-requires
open-requires g c =
    let opens = c.in_ok-actor_set.ensures in
    record {
      no_calls =
          subst (λ (d : PlainOf g.row.B.Denot). AllByRecursion HasNoCalls d.queues) (sym c.into_parts-pictures.ensures.desk)
          (opened_bare c.args.queues.now c.in_ok-actor_set.actor_set.desk.queues opens.queues_opened);
      none_arrived = ap (λ (d : PlainOf g.row.B.Denot). d.arrivals) c.into_parts-pictures.ensures.desk ∙ opens.none_arrived;
    }

pub returns-clause-may : goal.returns-clause-may
returns-clause-may g c =
    let actor_set = c.in_ok-actor_set.actor_set in
    let opens = c.in_ok-actor_set.ensures in
    let kept = c.into_parts-pictures.ensures.kept in
    let shared = c.in_ok-locks.ensures.opened in
    let locks = c.in_ok-locks.locks in
    let seats = c.in_ok-locks.first.seats in
    record {
      first = c.in_ok-locks.ensures.first;
      none = search rules;
      unused = shared.nothing;
      few =
          subst (λ (actors : List (Actor g.row.B.Denot)). length actors ≤ 64) (sym c.into_parts-pictures.ensures.actors)
          (few_opened g.B.TableName.table (picture_at actor_set.pictures) (home_of actor_set.desk) (view_of actor_set.desk) actor_set.actors opens.declared c.args.turns.stock.buffers opens.keep
          (All-permutation (λ (script : ActorScript). script.number ≤ 64) c.args.scripts opens.declared opens.sorted.permutation c.requires.numbers) kept.numbered
          (subst IsStrictlyIncreasing (sym (numbers_same actor_set.actors)) kept.rising));
      rising =
          subst (λ (actors : List (Actor g.row.B.Denot)). IsStrictlyIncreasing (seats.by ∷ map number_of actors)) (sym c.into_parts-pictures.ensures.actors)
          (rise_behind seats.by actor_set.actors shared.number kept.numbered (subst IsStrictlyIncreasing (sym (numbers_same actor_set.actors)) kept.rising));
      newcomers =
          subst (λ (actors : List (Actor g.row.B.Denot)). AllByRecursion (IsNewcomer g.B.TableName.table locks c.into_parts-pictures.result.0 seats) actors) (sym c.into_parts-pictures.ensures.actors)
          (subst (λ (pictures : List Picture). AllByRecursion (IsNewcomer g.B.TableName.table locks pictures seats) actor_set.actors) (sym c.into_parts-pictures.ensures.pictures)
          (newcomers g.B.TableName.table locks actor_set.pictures seats (home_of actor_set.desk) (view_of actor_set.desk) actor_set.actors opens.declared c.args.turns.stock.buffers shared.nothing
          (shared.marks ∙ ap (λ (d : PlainOf g.row.B.Denot). map mark_of d.queues) c.into_parts-pictures.ensures.desk) opens.keep kept.plays));
    }

pub returns-clause-told : goal.returns-clause-told
returns-clause-told g c = c.in_ok-locks.ensures.opened.tells_is

pub returns-clause-opens : goal.returns-clause-opens
returns-clause-opens g c = λ of fresh sized.
    let actor_set = c.in_ok-actor_set.actor_set in
    let opens = c.in_ok-actor_set.ensures in
    let parts = c.into_parts-pictures.ensures in
    let shared = c.in_ok-locks.ensures.opened in
    let pictured = parts.pictures ∙ opens.same_pictures ∙ sym of.pictures_of in
    record {
      limits = of.limits;
      pictures = pictured;
      marks = shared.marks
          ∙ ap (λ (d : PlainOf g.row.B.Denot). map mark_of d.queues) parts.desk
          ∙ marks_opened of.scene actor_set.desk.queues of.limits (subst (λ (queues : List QueueDecl). OpensQueues queues actor_set.desk.queues) (sym of.queues_of) opens.queues_opened);
      declared = opens.declared;
      sorted = subst (λ (scripts : List ActorScript). IsSortedFrom (λ (script : ActorScript). script.number) scripts opens.declared) (sym of.scripts_of) opens.sorted;
      stock = c.args.turns.stock.buffers;
      once = stock_once c.args.turns.stock.buffers (permits_of c.args.scripts) c.requires.whole;
      below = stock_below c.args.turns.stock.buffers (permits_of c.args.scripts) g.B.TableName.table.slots c.requires.whole sized;
      actors = subst (λ (actors : List (Actor g.row.B.Denot)). AllZip (IsActor g.B.TableName.table) actors (new_actors opens.declared c.args.turns.stock.buffers)) (sym parts.actors)
          (are_actors g.B.TableName.table (picture_at actor_set.pictures) (home_of actor_set.desk) (view_of actor_set.desk) actor_set.actors (new_actors opens.declared c.args.turns.stock.buffers) opens.keep);
      newcomers = subst (λ (pictures : List Picture). AllByRecursion (IsNewcomer g.B.TableName.table c.in_ok-locks.locks pictures c.in_ok-locks.first.seats) c.into_parts-pictures.result.1.items) pictured
          (returns-clause-may g c).newcomers;
      none_taken = shared.took;
      step = shared.step;
      no_signals = ap (λ t. t.knows.signals) shared.times_is ∙ ap (λ (d : PlainOf g.row.B.Denot). d.times.knows.signals) parts.desk ∙ ap (λ k. k.signals) opens.none_raised;
      no_leaves = ap (λ t. t.leaves) shared.turns_is ∙ ap (λ (d : PlainOf g.row.B.Denot). d.turns.leaves) parts.desk ∙ ap (λ t. t.leaves) opens.same_seat ∙ fresh;
    }

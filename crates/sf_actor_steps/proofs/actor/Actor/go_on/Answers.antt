use Rattle.std.proofs.Common.{◌≡◌, ◌∙◌, ◌+◌, ℕ, List, ◌∷◌, [], ◌++◌, Some, ap, sym, refl, length, get_or, arith, ◌<◌}
use Rattle.std.specs.Prelude.{slice_get, vec_len}
use Rattle.std.proofs.lemmas.Option.{slice_get_read}
use Rattle.sf_actor.specs.sf_script_scene.declared.step.Step.{Step}
use Rattle.sf_actor.specs.declared.tried.Reply.{Reply}
use Rattle.sf_actor_steps.specs.declared.actor.Actor.{Actor}
use Rattle.sf_actor_steps.proofs.TryingLemmas.{is_left, is_made, may_be_tried}
use Rattle.sf_actor_steps.proofs.actor.Actor.go_on.Goals as goal

-- as many steps are done as there are replies
all_replied : {B : Type 0} (actor : Actor B) (done : ℕ) → done ≡ vec_len actor.replies → done ≡ length actor.replies.items
all_replied actor done e = omega (arith, e, actor.replies.ok.0)

-- the step that was read is the next one
next_read : (steps read : List Step) (done replies : ℕ) (s : Step) → read ≡ steps → done ≡ replies → done < length read → s ≡ get_or read done s → slice_get steps replies ≡ Some s
next_read steps read done replies s same at low is =
    ap (slice_get steps) (sym at) ∙ ap (λ (xs : List Step). slice_get xs done) (sym same) ∙ slice_get_read read (length read) done s refl low is

pub attempt-requires-clause-may : goal.attempt-requires-clause-may
attempt-requires-clause-may g c = λ unrefused.
    let actor = c.args.self.now in
    let at = all_replied actor c.len-done.result c.len-done.ensures in
    let there = next_read actor.script.steps c.as_slice.result.now c.len-done.result (length actor.replies.items) c.in-Some.step.now c.as_slice.ensures at c.in-Some.ensures.lookup.3.0 c.in-Some.ensures.lookup.1 in
    may_be_tried g.B.TableName.table c.args.pictures.now (g.D.Desk.home c.args.desk.now) actor (g.D.Desk.view c.args.desk.now) c.in-Some.step.now c.requires.plays there c.requires.kept unrefused

pub returns-then-not-is_done-clause-steps : goal.returns-then-not-is_done-clause-steps
returns-then-not-is_done-clause-steps g c = λ actor is keeps.
    let old = c.args.self.now in
    let at = all_replied old c.len-done.result c.len-done.ensures in
    let there = next_read old.script.steps c.as_slice.result.now c.len-done.result (length old.replies.items) c.in-Some.step.now c.as_slice.ensures at c.in-Some.ensures.lookup.3.0 c.in-Some.ensures.lookup.1 in
    is_left g.B.TableName.table c.args.pictures.now (g.D.Desk.home c.args.desk.now) old (g.D.Desk.view c.args.desk.now) c.in-Some.step.now c.requires.plays there actor is keeps
    (record old { bindings = c.attempt.new.self; replies = c.reserve.new.self }) (g.D.Desk.view c.attempt.new.desk) (c.len-done.result + 1) c.in_ok-tried.tried
    (ap (λ (n : ℕ). n + 1) at) c.in_ok-tried.ensures.attempts (sym c.is_done.ensures ∙ c.if-not-is_done.true) refl c.reserve.ensures.items refl

pub returns-clause-steps : goal.returns-clause-steps
returns-clause-steps g c = λ actor is keeps.
    let old = c.args.self.now in
    let at = all_replied old c.len-done.result c.len-done.ensures in
    let there = next_read old.script.steps c.as_slice.result.now c.len-done.result (length old.replies.items) c.in-Some.step.now c.as_slice.ensures at c.in-Some.ensures.lookup.3.0 c.in-Some.ensures.lookup.1 in
    is_made g.B.TableName.table c.args.pictures.now (g.D.Desk.home c.args.desk.now) old (g.D.Desk.view c.args.desk.now) c.in-Some.step.now c.requires.plays there actor is keeps
    (record old { bindings = c.attempt.new.self; replies = c.push_reserved.new.self }) (g.D.Desk.view c.attempt.new.desk) (c.len-done.result + 1) c.in_ok-tried.tried c.reply_to-reply.result
    (ap (λ (n : ℕ). n + 1) at) c.in_ok-tried.ensures.attempts (sym c.is_done.ensures ∙ c.if-not-is_done.false) c.reply_to-reply.ensures refl
    (c.push_reserved.ensures.items ∙ ap (λ (replies : List Reply). replies ++ c.reply_to-reply.result ∷ []) c.reserve.ensures.items) refl

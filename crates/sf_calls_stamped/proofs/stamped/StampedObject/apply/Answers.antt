use Rattle.std.proofs.Common.{◌≡◌, ℕ, ◌+◌, ◌∷◌, List, ap, ap₂, ◌∙◌, map, reverse, subst, sym}
use Rattle.std.specs.Prelude.{max}
use Rattle.sf_calls.specs.Histories.{entry, replies, waits}
use Rattle.sf_calls_stamped.specs.declared.stamped.Pair.{Pair}
use Rattle.sf_calls_stamped.specs.Objects.{StampedOf, history_of, pair_of, with_stamps}
use Rattle.sf_calls_stamped.specs.Stamps.{next_stamp, unstamped}
use Rattle.sf_calls_stamped.proofs.StampLemmas.{pushed-first, without_stamps}
use Rattle.sf_calls_stamped.proofs.stamped.StampedObject.apply.Goals as goal

pub returns-in-Done-clause-done : goal.returns-in-Done-clause-done
returns-in-Done-clause-done g c =
    let items = c.self.inside.stamps.items in
    let stamps = reverse (map pair_of items) in
    let o = c.self.inside.object in
    let s : StampedOf g.row.O.Denot = record { object = o; stamps = stamps } in
    let given = c.max-before.result + 1 in
    let pair : Pair = record { brought = c.of.result; given = c.of-in-Done.result } in
    let stamped : reverse (map pair_of c.push_reserved.new.self.items) ≡ (c.args.call.0, given) ∷ stamps =
    pushed-first items c.reserve.new.self.items c.push_reserved.new.self.items pair c.args.call.0 given c.push_reserved.ensures.items c.reserve.ensures.items
    (ap₂ (λ (a b : ℕ). (a, b)) c.of.ensures c.of-in-Done.ensures) in
    let history = ap₂ (λ ss calls. with_stamps ss calls) stamped c.in-Done.ensures.done.0 in
    let next : given ≡ next_stamp c.args.call.0 (history_of g.O.Object.history s) = ap (λ (n : ℕ). n + 1) (c.max-before.ensures ∙ ap (λ (n : ℕ). max c.args.call.0 n) c.self.invariant.newest_is) in
    let log = without_stamps stamps (g.O.Object.history o) c.self.invariant.many in
    let answer = subst (λ calls. g.O.Object.answers (g.O.Object.mark o) calls c.args.by (g.O.Object.plain_call c.args.call.1) (replies (g.O.Object.plain_reply c.in-Done.reply))) (sym log) c.in-Done.ensures.done.1 in
    subst (λ (t : StampedOf g.row.O.Denot).
    (with_stamps (reverse (map pair_of c.push_reserved.new.self.items)) (g.O.Object.history c.apply.new.self)
    ≡ entry c.args.by (c.args.call.0, g.O.Object.plain_call c.args.call.1) (given, g.O.Object.plain_reply c.in-Done.reply) ∷ history_of g.O.Object.history t)
    × ((given ≡ next_stamp c.args.call.0 (history_of g.O.Object.history t))
    × g.O.Object.answers (g.O.Object.mark t.object) (unstamped (history_of g.O.Object.history t)) c.args.by (g.O.Object.plain_call c.args.call.1) (replies (g.O.Object.plain_reply c.in-Done.reply)))
    × g.O.Object.reply_fits (g.O.Object.mark t.object) c.in-Done.reply) c.self.view_is
    (history, (next, answer), c.in-Done.ensures.done.2)

pub returns-in-NotYet-clause-not_yet : goal.returns-in-NotYet-clause-not_yet
returns-in-NotYet-clause-not_yet g c =
    let items = c.self.inside.stamps.items in
    let o = c.self.inside.object in
    let s : StampedOf g.row.O.Denot = record { object = o; stamps = reverse (map pair_of items) } in
    let log = without_stamps (reverse (map pair_of items)) (g.O.Object.history o) c.self.invariant.many in
    let answer = subst (λ calls. g.O.Object.answers (g.O.Object.mark o) calls c.args.by (g.O.Object.plain_call c.args.call.1) waits) (sym log) c.in-NotYet.ensures.not_yet.2 in (
      ap₂ (λ (object : g.row.O.Denot) (xs : List Pair). record { object = object; stamps = reverse (map pair_of xs) }) c.in-NotYet.ensures.not_yet.0 c.reserve.ensures.items ∙ c.self.view_is,
      ap (λ asked. (c.args.call.0, asked)) c.in-NotYet.ensures.not_yet.1,
      subst (λ (t : StampedOf g.row.O.Denot). g.O.Object.answers (g.O.Object.mark t.object) (unstamped (history_of g.O.Object.history t)) c.args.by (g.O.Object.plain_call c.args.call.1) waits) c.self.view_is answer,
    )

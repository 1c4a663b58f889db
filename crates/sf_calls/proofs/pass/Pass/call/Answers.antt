use Rattle.std.proofs.Common.{◌≡◌, List, [], ◌∷◌, Option, Some, sym, ap, ◌∙◌, subst}
use Rattle.atomic_table.specs.Table.{Me}
use Rattle.sf_calls.specs.declared.protocol.Knows.{Knows}
use Rattle.sf_calls.specs.declared.object.Entry.{Entry}
use Rattle.sf_calls.specs.Histories.{IsLegal, entry}
use Rattle.sf_calls.specs.Views.{PassView, pass_view}
use Rattle.sf_calls.specs.Calling.{Made, Waited}
use Rattle.sf_calls.proofs.CallSteps.{made, waited, unchanged, other_calls}
use Rattle.sf_calls.proofs.pass.Pass.call.Goals as goal

pub pass_on-requires-clause-legal : goal.pass_on-requires-clause-legal
pass_on-requires-clause-legal g c =
    let d = c.in-Done.ensures.done in let en = c.enter-object.ensures in
    subst (λ (z : g.row.O-Mark.Denot × List (Entry g.row.O-PlainCall.Denot g.row.O-PlainReply.Denot)). IsLegal (g.O.Object.answers z.0) z.1) (λ i. (sym c.apply.ensures.mark i, sym d.0 i)) (d.1, en.legal)

pub pass_on-requires-clause-grown : goal.pass_on-requires-clause-grown
pass_on-requires-clause-grown g c =
    let d = c.in-Done.ensures.done in let en = c.enter-object.ensures in let dr = c.draw-ticket.ensures in
    let M : Type 0 = Me (Option g.row.O.Denot) (Knows g.row.O-PlainCall.Denot g.row.O-PlainReply.Denot g.row.O-Mark.Denot) in
    let e : Entry g.row.O-PlainCall.Denot g.row.O-PlainReply.Denot = entry c.self.inside.by (g.O.Object.plain_call c.args.call) (g.O.Object.plain_reply c.in-Done.reply) in (
      e ∷ [],
      d.0 ∙ ap (λ (z : List (Entry g.row.O-PlainCall.Denot g.row.O-PlainReply.Denot)). e ∷ z) (sym (ap (λ (m : M). m.0.found) en.entered)),
      λ b ne. other_calls b e (λ z. ne (sym z ∙ (sym c.self.invariant.1 ∙ (sym (ap (λ (m : M). m.0.by) dr.drawn) ∙ sym (ap (λ (m : M). m.0.by) en.entered))))),
    )

pub returns-in-Done-clause-done : goal.returns-in-Done-clause-done
returns-in-Done-clause-done g c = λ m is.
    let d = c.in-Done.ensures.done in let en = c.enter-object.ensures in let dr = c.draw-ticket.ensures in let p = c.pass_on.ensures in
    let M : Type 0 = Me (Option g.row.O.Denot) (Knows g.row.O-PlainCall.Denot g.row.O-PlainReply.Denot g.row.O-Mark.Denot) in
    let V : Type 0 = PassView g.row.O-PlainCall.Denot g.row.O-PlainReply.Denot g.row.O-Mark.Denot in
    let same : g.O.Object.mark c.enter-object.result ≡ m = (let z : Some (g.O.Object.mark c.enter-object.result) ≡ Some m = sym en.marked ∙ (ap (λ (m : M). m.0.mark) dr.drawn ∙ (ap (λ (v : V). v.mark) c.self.view_is ∙ is)) in cc) in
    subst (λ (z : V × g.row.O-Mark.Denot). Made g.O.Object.answers z.1 z.0 (g.O.Object.plain_call c.args.call) (g.O.Object.plain_reply c.in-Done.reply) (pass_view c.pass_on.new.seat.table_id c.pass_on.new.seat.me.0) × g.O.Object.reply_fits z.1 c.in-Done.reply) (λ i. (c.self.view_is i, same i)) (
      made g.O.Object.answers (g.O.Object.mark c.enter-object.result) c.self.inside.seat.me.0 c.draw-ticket.new.seat.me.0 c.enter-object.new.seat.me.0 c.pass_on.new.seat.me.0
          c.self.inside.seat.table_id c.pass_on.new.seat.table_id c.draw-ticket.result c.self.inside.by
          (g.O.Object.history c.enter-object.result) (g.O.Object.history c.apply.new.self)
          (ap (λ (m : M). m.0) dr.drawn) (ap (λ (m : M). m.0) en.entered) (ap (λ (m : M). m.0) p.1) (p.0 ∙ (en.same.0 ∙ dr.same.0)) en.legal en.begins en.own_calls (sym c.self.invariant.1)
          (g.O.Object.plain_call c.args.call) (g.O.Object.plain_reply c.in-Done.reply) d.0 d.1,
      d.2,
    )

pub returns-in-NotYet-clause-not_yet : goal.returns-in-NotYet-clause-not_yet
returns-in-NotYet-clause-not_yet g c =
    let d = c.in-NotYet.ensures.not_yet in let en = c.enter-object.ensures in let dr = c.draw-ticket.ensures in let p = c.pass_on-in-NotYet.ensures in
    let M : Type 0 = Me (Option g.row.O.Denot) (Knows g.row.O-PlainCall.Denot g.row.O-PlainReply.Denot g.row.O-Mark.Denot) in
    let V : Type 0 = PassView g.row.O-PlainCall.Denot g.row.O-PlainReply.Denot g.row.O-Mark.Denot in (
      d.1,
      λ m is. let same : g.O.Object.mark c.enter-object.result ≡ m = (let z : Some (g.O.Object.mark c.enter-object.result) ≡ Some m = sym en.marked ∙ (ap (λ (m : M). m.0.mark) dr.drawn ∙ (ap (λ (v : V). v.mark) c.self.view_is ∙ is)) in cc) in
          subst (λ (z : V × g.row.O-Mark.Denot). Waited g.O.Object.answers z.1 z.0 (g.O.Object.plain_call c.args.call) (pass_view c.pass_on-in-NotYet.new.seat.table_id c.pass_on-in-NotYet.new.seat.me.0)) (λ i. (c.self.view_is i, same i)) (
          waited g.O.Object.answers (g.O.Object.mark c.enter-object.result) c.self.inside.seat.me.0 c.draw-ticket.new.seat.me.0 c.enter-object.new.seat.me.0 c.pass_on-in-NotYet.new.seat.me.0
          c.self.inside.seat.table_id c.pass_on-in-NotYet.new.seat.table_id c.draw-ticket.result c.self.inside.by
          (g.O.Object.history c.enter-object.result) (g.O.Object.history c.apply.new.self)
          (ap (λ (m : M). m.0) dr.drawn) (ap (λ (m : M). m.0) en.entered) (ap (λ (m : M). m.0) p.1) (p.0 ∙ (en.same.0 ∙ dr.same.0)) en.legal en.begins en.own_calls (sym c.self.invariant.1)
          (g.O.Object.plain_call c.args.call) (ap g.O.Object.history d.0) d.2
          ),
    )

pub returns-clause-no_memory : goal.returns-clause-no_memory
returns-clause-no_memory g c =
    let en = c.enter-object.ensures in let dr = c.draw-ticket.ensures in let p = c.give_up.ensures in
    let M : Type 0 = Me (Option g.row.O.Denot) (Knows g.row.O-PlainCall.Denot g.row.O-PlainReply.Denot g.row.O-Mark.Denot) in (
      c.in-NoMemory.ensures.no_memory.1,
      unchanged c.self.inside.seat.me.0 c.draw-ticket.new.seat.me.0 c.enter-object.new.seat.me.0 c.give_up.new.seat.me.0 c.self.inside.seat.table_id c.give_up.new.seat.table_id c.draw-ticket.result (g.O.Object.history c.enter-object.result)
          (ap (λ (m : M). m.0) dr.drawn) (ap (λ (m : M). m.0) en.entered) (ap (λ (m : M). m.0) p.1) (p.0 ∙ (en.same.0 ∙ dr.same.0)) ∙ c.self.view_is,
    )

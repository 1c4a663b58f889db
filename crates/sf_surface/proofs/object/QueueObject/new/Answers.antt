use Rattle.std.proofs.Common.{List, [], ◌∙◌, sym, refl, subst}
use Rattle.sf_slots.specs.Queue.{Queue}
use Rattle.sf_surface.specs.declared.entry.HistEntry.{HistEntry}
use Rattle.sf_surface.specs.Histories.{Made}
use Rattle.sf_surface.specs.Objects.{IsKept}
use Rattle.sf_surface.specs.Tokens.{Right}
use Rattle.sf_surface.proofs.ApplyLemmas.{kept_new}
use Rattle.sf_surface.proofs.object.QueueObject.new.Goals as goal

pub invariant_of-result : goal.invariant_of-result
invariant_of-result g c =
    let table = g.B.TableName.table in
    let number = c.args.queue in
    let empty = kept_new {B = g.row.B.Denot} table number c.args.width c.args.height (record { wide = c.requires.wide; narrow = c.requires.narrow; high = c.requires.high; low = c.requires.low }) refl in
    let queue = c.in-Ok.slots.value in
    let slots = subst (λ (q : Queue Right). IsKept {B = g.row.B.Denot} table number [] (record { queue = q; calls = [] })) (sym (c.in-Ok.ensures.ok ∙ c.in_ok-new.ensures)) empty in
    let shown = subst (λ (es : List HistEntry). IsKept {B = g.row.B.Denot} table number es (record { queue = queue; calls = [] })) (sym c.new-3.ensures.shown) slots in
    subst (λ (made : List (Made g.row.B.Denot)). IsKept {B = g.row.B.Denot} table number c.new-3.result.shown.items (record { queue = queue; calls = made })) (sym c.new-3.ensures.calls) shown

use Rattle.std.proofs.Common.{◌≡◌, ◌≤◌, List, ℕ, take, drop, length, rules, sym, ap, ◌∙◌, arith}
use Rattle.atomic_table.specs.Table.{Me}
use Rattle.sf_turns.specs.declared.protocol.Knows.{Knows}
use Rattle.sf_turns.specs.declared.protocol.Home.{Home}
use Rattle.sf_turns.specs.Counts.{range}
use Rattle.sf_turns.specs.Views.{StockView}
use Rattle.atomic_table.specs.Seated.{TableId}
use Rattle.sf_turns.proofs.Tallies.{length-range, take-range, drop-range}
use Rattle.sf_turns.proofs.stock.Stock.cut.Goals as goal

fits : (n from count : ℕ) (buffers : List ℕ) → range from count ≡ buffers → n ≤ length buffers → n ≤ count
fits n from count buffers e l = let h = ap length e in omega (arith, length-range from count)

abbrev view_buffers : StockView → List ℕ
view_buffers v = v.buffers

pub overflow_add-self : goal.overflow_add-self
overflow_add-self g c = let l : c.args.n ≤ c.self.inside.count = fits c.args.n _ _ c.args.self.now.buffers (ap view_buffers c.self.view_is) c.requires in let i = c.self.invariant in omega arith

pub overflow_sub-self : goal.overflow_sub-self
overflow_sub-self g c = fits c.args.n _ _ c.args.self.now.buffers (ap view_buffers c.self.view_is) c.requires

pub invariant_of-result : goal.invariant_of-result
invariant_of-result g c = let l : c.args.n ≤ c.self.inside.count = fits c.args.n _ _ c.args.self.now.buffers (ap view_buffers c.self.view_is) c.requires in
    let M : Type 0 = Me (Home g.row.P.Denot g.row.P-Stamp.Denot) (Knows g.row.P-Stamp.Denot) in
    let i = c.self.invariant in let e = c.cut-seat.ensures.stock in let slots = ap (λ (z : TableId). z.slots) (c.cut-seat.ensures.stock.0 ∙ (c.deref.ensures ∙ (c.in-Ok.ensures ∙ c.self.invariant.0))) in (
      search rules,
      search rules,
      search rules,
      search rules,
      ap (λ (m : M). m.0.stock) e.1 ∙ (ap (take c.args.n) i.4 ∙ take-range c.args.n c.self.inside.from c.self.inside.count l),
      search rules,
      omega arith,
      omega arith,
    )

pub invariant_of-self : goal.invariant_of-self
invariant_of-self g c = let l : c.args.n ≤ c.self.inside.count = fits c.args.n _ _ c.args.self.now.buffers (ap view_buffers c.self.view_is) c.requires in
    let M : Type 0 = Me (Home g.row.P.Denot g.row.P-Stamp.Denot) (Knows g.row.P-Stamp.Denot) in
    let i = c.self.invariant in let e = c.cut-seat.ensures.same in let slots = ap (λ (z : TableId). z.slots) e.0.0 in (
      search rules,
      search rules,
      search rules,
      search rules,
      ap (λ (m : M). m.0.stock) e.1 ∙ (ap (drop c.args.n) i.4 ∙ drop-range c.args.n c.self.inside.from c.self.inside.count l),
      search rules,
      omega arith,
      omega arith,
    )

pub returns-clause-ok : goal.returns-clause-ok
returns-clause-ok g c = let l : c.args.n ≤ c.self.inside.count = fits c.args.n _ _ c.args.self.now.buffers (ap view_buffers c.self.view_is) c.requires in
    let v = c.self.view_is in let now : range c.self.inside.from c.self.inside.count ≡ c.args.self.now.buffers = ap view_buffers v in
    let table : c.self.inside.seat.table_id ≡ c.args.self.now.table = ap (λ (z : StockView). z.table) v in
    let there : c.cut-seat.result.table_id ≡ c.args.self.now.table = (c.cut-seat.ensures.stock.0 ∙ (c.deref.ensures ∙ (c.in-Ok.ensures ∙ c.self.invariant.0))) ∙ table in
    let here : c.cut-seat.new.seat.table_id ≡ c.args.self.now.table = c.cut-seat.ensures.same.0.0 ∙ table in (
      (λ i. record { table = there i; buffers = (sym (take-range c.args.n c.self.inside.from c.self.inside.count l) ∙ ap (take c.args.n) now) i }),
      (λ i. record { table = here i; buffers = (sym (drop-range c.args.n c.self.inside.from c.self.inside.count l) ∙ ap (drop c.args.n) now) i }),
    )

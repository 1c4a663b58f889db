use Rattle.std.proofs.Common.{◌≡◌, ◌∙◌, ap, refl, subst, sym, arith}
use Rattle.std.specs.List.{AllPairs}
use Rattle.sf_txn.specs.Places.{Listed, front_of, kept}
use Rattle.sf_txn.specs.Transactions.{Stays}
use Rattle.sf_txn.proofs.MergedOperations.{none-of, with_ops-none}
use Rattle.sf_txn.proofs.Places.{apart-kept}
use Rattle.sf_txn.proofs.ops.Ops.put_before.Goals as goal

pub returns-in-None : goal.returns-in-None
returns-in-None c =
    let items = c.self.inside.items.items in
    let list : kept items ≡ c.args.self.now.list = ap (λ (l : Listed). l.list) c.self.view_is in
    let apart : AllPairs Stays c.args.self.now.list = subst (AllPairs Stays) list (apart-kept items c.self.invariant.apart) in
    let zero : front_of c.self.inside.index ≡ 0 = rw c.in-None.is refl in
    let front : c.args.self.now.front ≡ 0 = sym (ap (λ (l : Listed). l.front) c.self.view_is) ∙ zero in
    let none = none-of c.args.earlier.list (omega (arith, c.requires, front)) in
    rw none (list ∙ sym (with_ops-none c.args.self.now.list apart))

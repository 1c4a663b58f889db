use Rattle.std.proofs.Common.{◌≡◌, ap, sym, arith}
use Rattle.sf_txn.specs.Places.{Listed, kept}
use Rattle.sf_txn.proofs.Places.{length-kept}
use Rattle.sf_txn.proofs.ops.Ops.make_front.Goals as goal

pub returns-in_ok-index-clause-few : goal.returns-in_ok-index-clause-few
returns-in_ok-index-clause-few c =
    let list : kept c.self.inside.items.items ≡ c.args.self.now.list = ap (λ (l : Listed). l.list) c.self.view_is in
    rw (sym list) (omega (arith, length-kept c.self.inside.items.items, c.self.inside.items.ok.0, c.len.ensures, c.if-len-more.false, c.if-more-gt-MOST.false))

pub returns-else-front-more-clause-few : goal.returns-else-front-more-clause-few
returns-else-front-more-clause-few c =
    let list : kept c.self.inside.items.items ≡ c.args.self.now.list = ap (λ (l : Listed). l.list) c.self.view_is in
    rw (sym list) (omega (arith, length-kept c.self.inside.items.items, c.self.inside.items.ok.0, c.len.ensures, c.if-len-more.false, c.if-more-gt-MOST.false))

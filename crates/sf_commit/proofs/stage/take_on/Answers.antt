use Rattle.std.proofs.Common.{◌∙◌, sym, ap, Some}
use Rattle.sf_commit_next.proofs.sf_txn_lemmas.Firsts.{find-None, find-Some, without_first-None, without_first-Some}
use Rattle.sf_commit.specs.OnLayers.{is_on}
use Rattle.sf_commit.proofs.stage.take_on.Goals as goal

pub returns-in-Some-clause-taken : goal.returns-in-Some-clause-taken
returns-in-Some-clause-taken g c =
    let e = rw c.deref.ensures.value at c.in-Some.ensures in
    ap (λ one. Some one) c.remove.ensures.value ∙ sym (find-Some (is_on c.args.layer) c.args.on.now.items c.in-Some.place c.remove.result e)

pub returns-in-Some-clause-left : goal.returns-in-Some-clause-left
returns-in-Some-clause-left g c =
    let e = rw c.deref.ensures.value at c.in-Some.ensures in
    c.remove.ensures.items ∙ sym (without_first-Some (is_on c.args.layer) c.args.on.now.items c.in-Some.place e)

pub returns-in-None-clause-taken : goal.returns-in-None-clause-taken
returns-in-None-clause-taken g c =
    let e = rw c.deref.ensures.value at c.in-None.ensures in
    sym (find-None (is_on c.args.layer) c.args.on.now.items e)

pub returns-in-None-clause-left : goal.returns-in-None-clause-left
returns-in-None-clause-left g c =
    let e = rw c.deref.ensures.value at c.in-None.ensures in
    sym (without_first-None (is_on c.args.layer) c.args.on.now.items e)

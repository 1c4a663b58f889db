use Rattle.std.proofs.Common.{Some, ap, ◌∙◌, sym}
use Rattle.sf_txn.proofs.Firsts.{find-None, find-Some, without_first-None, without_first-Some}
use Rattle.sf_txn.proofs.lists.take_at.Goals as goal

pub returns-in-Some-clause-items : goal.returns-in-Some-clause-items
returns-in-Some-clause-items g c = λ test e. c.remove.ensures.items ∙ sym (without_first-Some test _ _ (sym c.in-Some.is ∙ e))

pub returns-in-Some-clause-taken : goal.returns-in-Some-clause-taken
returns-in-Some-clause-taken g c = λ test e. ap Some c.remove.ensures.value ∙ sym (find-Some test _ _ _ (sym c.in-Some.is ∙ e))

pub returns-in-None-clause-items : goal.returns-in-None-clause-items
returns-in-None-clause-items g c = λ test e. sym (without_first-None test _ (sym c.in-None.is ∙ e))

pub returns-in-None-clause-taken : goal.returns-in-None-clause-taken
returns-in-None-clause-taken g c = λ test e. sym (find-None test _ (sym c.in-None.is ∙ e))

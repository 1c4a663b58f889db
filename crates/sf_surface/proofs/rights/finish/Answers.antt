use Rattle.std.proofs.Common.{◌≡◌, ◌∙◌, ap, subst, sym}
use Rattle.sf_surface.specs.declared.lent.LentBuffer.{LentBuffer}
use Rattle.sf_surface.specs.declared.work.Work.{Work}
use Rattle.sf_surface.specs.Tokens.{IsRightOf, IsWriteLease, WriteLeaseOf, ending_drawn, turn_after, turn_of}
use Rattle.sf_surface.specs.inner.Lent.{lease_with}
use Rattle.sf_surface.proofs.LeaseLemmas.{after_right}
use Rattle.sf_surface.proofs.rights.finish.Goals as goal

pub finish_work-requires : goal.finish_work-requires
finish_work-requires g c =
    ap (λ (w : Work). (turn_of w).table) c.parts_of-lent.ensures.work ∙ c.parts_of-lent.ensures.keeps.right.of_table

pub returns-in-Ok-clause-right : goal.returns-in-Ok-clause-right
returns-in-Ok-clause-right g c =
    let table = g.B.TableName.table in
    let lease = c.args.lease in
    let keeps = c.parts_of-lent.ensures.keeps in
    let heir = c.in-Ok.ensures.heir ∙ ap (λ (w : Work). turn_after w) c.parts_of-lent.ensures.work in
    subst (IsRightOf table lease.held) (sym heir) (after_right table lease.held lease.work keeps.right keeps.drawn)

pub returns-in-Ok-clause-held : goal.returns-in-Ok-clause-held
returns-in-Ok-clause-held g c = ap (λ (lent : LentBuffer). lent.held) c.parts_of-lent.ensures.lent

pub returns-in-Ok-clause-heir : goal.returns-in-Ok-clause-heir
returns-in-Ok-clause-heir g c = c.in-Ok.ensures.heir ∙ ap (λ (w : Work). turn_after w) c.parts_of-lent.ensures.work

pub returns-in-Ok-clause-ends : goal.returns-in-Ok-clause-ends
returns-in-Ok-clause-ends g c = c.in-Ok.ensures.ends ∙ ap (λ (w : Work). ending_drawn w) c.parts_of-lent.ensures.work

pub lease-requires : goal.lease-requires
lease-requires g c =
    let work = c.in-Err.ensures.back ∙ c.parts_of-lent.ensures.work in
    let whole : lease_with c.parts_of-lent.result.0 c.in-Err.work ≡ c.args.lease = λ i. lease_with (c.parts_of-lent.ensures.lent i) (work i) in
    subst (λ (l : WriteLeaseOf). IsWriteLease g.B.TableName.table l) (sym whole) c.parts_of-lent.ensures.keeps

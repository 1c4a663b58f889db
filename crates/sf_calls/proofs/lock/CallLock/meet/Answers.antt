use Rattle.std.proofs.Common.{◌≡◌, List, ◌∷◌, Option, sym, ap, ◌∙◌, subst, arith, refl}
use Rattle.atomic_table.specs.Table.{Me}
use Rattle.std.specs.List.{Contains}
use Rattle.sf_calls.specs.declared.protocol.Knows.{Knows}
use Rattle.sf_calls.specs.declared.object.Entry.{Entry}
use Rattle.sf_calls.specs.Histories.{Begins, calls_by}
use Rattle.sf_calls.proofs.Keeps.{meets, recalls}
use Rattle.sf_calls.proofs.lock.CallLock.meet.Goals as goal

pub join_seat-requires : goal.join_seat-requires
join_seat-requires g c = let i = c.self.invariant in let o = c.requires.other in (
  c.requires.own.0 ∙ sym c.self.view_is,
  c.requires.own.1 ∙ sym c.self.view_is,
  o.2,
  omega arith,
  meets g.O.Object.history g.O.Object.mark g.O.Object.answers _ _ _ _ _ c.requires.first.0 c.requires.first.1 o.0 o.1,
)

pub load-requires : goal.load-requires
load-requires g c = let i = c.self.invariant in let j = c.join_seat.ensures in
    let M : Type 0 = Me (Option g.row.O.Denot) (Knows g.row.O-PlainCall.Denot g.row.O-PlainReply.Denot g.row.O-Mark.Denot) in (
      j.0 ∙ (c.requires.own.0 ∙ sym c.self.view_is),
      omega arith,
      recalls g.O.Object.history g.O.Object.mark g.O.Object.answers _ _ _ _ _ (ap (λ (m : M). m.0.is_first) j.2 ∙ c.requires.first.0) (ap (λ (m : M). m.0.inside) j.2 ∙ c.requires.first.1),
    )

first_has : {A : Type 0} (x : A) (xs : List A) → Contains (x ∷ xs) x
first_has x xs = (0, omega arith, refl)

pub returns-clause-their_calls : goal.returns-clause-their_calls
returns-clause-their_calls g c = let j = c.join_seat.ensures in let l = c.load.ensures.2 in
    let M : Type 0 = Me (Option g.row.O.Denot) (Knows g.row.O-PlainCall.Denot g.row.O-PlainReply.Denot g.row.O-Mark.Denot) in
    let E : Type 0 = List (Entry g.row.O-PlainCall.Denot g.row.O-PlainReply.Denot) in
    let u = c.args.other.me.0 in
    let has : Contains c.join_seat.new.seat.me.0.took (u.by, u.seen) = subst (λ (m : M). Contains m.0.took (u.by, u.seen)) (sym j.2) (first_has (u.by, u.seen) c.args.seat.now.me.0.took) in
    let told = l.3 (u.by, u.seen) has in
    subst (λ (m : M). Begins u.seen m.0.seen × (calls_by u.by m.0.seen ≡ calls_by u.by u.seen)) (sym l.0) told

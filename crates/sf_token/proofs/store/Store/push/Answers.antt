use Rattle.std.proofs.Common.{◌∙◌, sym, ap, subst, ◌<◌, ℕ, List, [], ◌∷◌, ◌++◌}
use Rattle.slab.specs.Slab.{Slab, get}
use Rattle.std.specs.List.{AllByRecursion}
use Rattle.sf_token.specs.Pending.{Arrival}
use Rattle.sf_token.specs.Slots.{AreFiled}
use Rattle.sf_token.proofs.IndexLemmas.{on_err, on_ok}
use Rattle.sf_token.proofs.StoreLemmas.{filed_push}
use Rattle.sf_token.proofs.store.Store.push.Goals as goal

pub invariant_of-self-2 : goal.invariant_of-self-2
invariant_of-self-2 g c =
    let below = subst (λ (list : List (Arrival g.row.L.Denot)). AllByRecursion (λ a. a.number < c.args.arrived.number) list) (sym c.self.view_is) c.requires in
    let entries = on_ok c.insert.result _ (sym c.is_err-2.ensures.value ∙ c.if-is_err-2.false) c.insert.ensures.entries in
    let more = filed_push c.self.inside.slots c.reserve.new.self c.insert_reserved.new.self c.insert_reserved.result c.vacant_key-key.result c.arrived.inside.number c.args.arrived
    c.self.inside.keys.entries c.insert.new.self.entries c.reserve.ensures.rest_kept c.insert_reserved.ensures.key c.vacant_key-key.ensures.value c.insert_reserved.ensures.was_vacant
    c.insert_reserved.ensures.updates (ap (λ (a : Arrival g.row.L.Denot). a.number) c.arrived.view_is) entries c.self.invariant.0 below in
    (more.0, c.insert.ensures.ordered)

pub returns-clause-ok : goal.returns-clause-ok
returns-clause-ok g c =
    let below = subst (λ (list : List (Arrival g.row.L.Denot)). AllByRecursion (λ a. a.number < c.args.arrived.number) list) (sym c.self.view_is) c.requires in
    let entries = on_ok c.insert.result _ (sym c.is_err-2.ensures.value ∙ c.if-is_err-2.false) c.insert.ensures.entries in
    let more = filed_push c.self.inside.slots c.reserve.new.self c.insert_reserved.new.self c.insert_reserved.result c.vacant_key-key.result c.arrived.inside.number c.args.arrived
    c.self.inside.keys.entries c.insert.new.self.entries c.reserve.ensures.rest_kept c.insert_reserved.ensures.key c.vacant_key-key.ensures.value c.insert_reserved.ensures.was_vacant
    c.insert_reserved.ensures.updates (ap (λ (a : Arrival g.row.L.Denot). a.number) c.arrived.view_is) entries c.self.invariant.0 below in
    more.1 ∙ ap (λ (list : List (Arrival g.row.L.Denot)). list ++ c.args.arrived ∷ []) c.self.view_is

-- room for more changes nothing that is filed
pub invariant_of-self : goal.invariant_of-self
invariant_of-self g c = (
  subst (λ (s : Slab (Arrival g.row.L.Denot)). AreFiled (get s) c.self.inside.keys.entries) (sym c.reserve.ensures.rest_kept) c.self.invariant.0,
  c.self.invariant.1,
)

pub invariant_of-self-then-is_err-2 : goal.invariant_of-self-then-is_err-2
invariant_of-self-then-is_err-2 g c =
    let stays = on_err c.insert.result _ (sym c.is_err-2.ensures.value ∙ c.if-is_err-2.true) c.insert.ensures.err in (
      subst (λ (entries : List (ℕ × ℕ)). AreFiled (get c.reserve.new.self) entries) (sym stays)
          (subst (λ (s : Slab (Arrival g.row.L.Denot)). AreFiled (get s) c.self.inside.keys.entries) (sym c.reserve.ensures.rest_kept) c.self.invariant.0),
      c.insert.ensures.ordered,
    )

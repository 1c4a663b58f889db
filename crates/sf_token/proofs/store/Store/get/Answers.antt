use Rattle.std.proofs.Common.{◌∙◌, sym, ap}
use Rattle.std.specs.List.{find}
use Rattle.std.specs.Option.{option_and_then}
use Rattle.slab.specs.Slab.{get}
use Rattle.sf_token.specs.Pending.{has_number}
use Rattle.sf_token.proofs.StoreLemmas.{find-filed}
use Rattle.sf_token.proofs.store.Store.get.Goals as goal

pub returns-in-Some : goal.returns-in-Some
returns-in-Some g c =
    let f = get c.self.inside.slots in
    c.get-in-Some.ensures ∙ ap (option_and_then f) c.in-Some.ensures.value
    ∙ sym (find-filed f c.args.number c.self.inside.keys.entries c.self.invariant.0) ∙ ap (find (has_number c.args.number)) c.self.view_is

pub returns-in-None : goal.returns-in-None
returns-in-None g c =
    let f = get c.self.inside.slots in
    ap (option_and_then f) c.in-None.ensures.value
    ∙ sym (find-filed f c.args.number c.self.inside.keys.entries c.self.invariant.0) ∙ ap (find (has_number c.args.number)) c.self.view_is

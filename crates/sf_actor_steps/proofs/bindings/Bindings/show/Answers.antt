use Rattle.std.proofs.Common.{◌∙◌, None, Some, List, Option, get_or, slice_set, refl, ap, sym, subst}
use Rattle.sf_base.specs.declared.ids.ActorId.{ActorId}
use Rattle.sf_actor.specs.sf_surface.Tokens.{ReadLeaseOf}
use Rattle.std.specs.Prelude.{option_to_list}
use Rattle.sf_actor.specs.sf_txn.Buffers.{Buffer}
use Rattle.sf_actor.specs.sf_txn.Transactions.{Contents, replaced_by, set_buffer}
use Rattle.sf_actor.specs.declared.holding.Holding.TheVariants as holding
use Rattle.sf_actor_steps.specs.Editing.{IsThere, Releases, ReleasesAll, buffer_with}
use Rattle.sf_actor_steps.specs.declared.bindings.Bindings.{Bindings}
use Rattle.sf_actor_steps.proofs.ShowingLemmas.{queues_of, replaced_there, txns_left}
use Rattle.sf_actor_steps.proofs.bindings.Bindings.show.Goals as goal
use Rattle.sf_actor_steps.proofs.bindings.Bindings.show.Goals.{in-Some+in_ok-release_overtaken+in-None-1, in-Some+in_ok-release_overtaken+in-Some-1, in_default-replaced}

pub release_overtaken-requires-clause-there : goal.release_overtaken-requires-clause-there
release_overtaken-requires-clause-there g c =
    let home = g.D.Desk.home c.args.desk.now in
    let bindings = c.args.self.now in
    let txn = c.take_transaction-transaction.result in
    let left = txns_left bindings c.take_frame-lease.new.self c.args.name (holding.Reads c.take_frame-lease.result) c.take_frame-lease.ensures in
    let there = ap (λ (txns : List (Option (Contents ReadLeaseOf))). get_or txns c.args.number None) (sym left) ∙ c.take_transaction-transaction.ensures.txn_there in
    subst (IsThere home) (sym c.buffer.view_is)
    (replaced_there home txn.buffers c.in_ok-buffer.buffer c.in-Some.buffer (queues_of home (get_or bindings.transactions c.args.number None) txn there c.requires.queues) (sym c.in-Ok.ensures.replaced ∙ c.in-Some.is))

pub returns-clause-shows : goal.returns-clause-shows
returns-clause-shows g c =
    let home = g.D.Desk.home c.args.desk.now in
    let by = c.args.self.now.by.0 in
    let old = g.D.Desk.view c.args.desk.now in
    let new = g.D.Desk.view c.match-replaced.desk in
    let without = c.take_transaction-transaction.new.self in
    let txn = c.take_transaction-transaction.result in
    let buffer = buffer_with c.args.layer c.take_frame-lease.result in
    let replaced = c.in-Ok.ensures.replaced ∙ ap (replaced_by txn.buffers) c.in_ok-buffer.ensures in
    let put = c.put.ensures ∙ ap (λ (t : Contents ReadLeaseOf). slice_set without.transactions c.args.number (Some t)) (c.in-Ok.ensures.ok ∙ ap (set_buffer txn) c.in_ok-buffer.ensures) in
    let by_same = ap (λ (h : Bindings _). h.by) c.take_transaction-transaction.ensures.txn_rest ∙ ap (λ (h : Bindings _). h.by) c.take_frame-lease.ensures.rest in
    let released : ReleasesAll home by c.args.step_number (option_to_list c.in-Ok.replaced) old new = elim c.match-replaced.branch [
      | in-Some+in_ok-release_overtaken+in-None-1 w ↦
          let next = g.D.Desk.view w.release_overtaken.new.desk in
          let given_back = subst (λ (b : Buffer ReadLeaseOf). Releases home by c.args.step_number b.lease old next) w.buffer.view_is
          (subst (λ (a : ActorId). Releases home a.0 c.args.step_number w.buffer.inside.lease old next) by_same w.in_ok-release_overtaken.ensures.releases) in
          subst (λ (o : Option (Buffer ReadLeaseOf)). ReleasesAll home by c.args.step_number (option_to_list o) old new) (sym w.in-Some.is) (next, given_back, ap g.D.Desk.view w.desk-is)
      | in-Some+in_ok-release_overtaken+in-Some-1 w ↦
          let next = g.D.Desk.view w.release_overtaken.new.desk in
          let given_back = subst (λ (b : Buffer ReadLeaseOf). Releases home by c.args.step_number b.lease old next) w.buffer.view_is
          (subst (λ (a : ActorId). Releases home a.0 c.args.step_number w.buffer.inside.lease old next) by_same w.in_ok-release_overtaken.ensures.releases) in
          subst (λ (o : Option (Buffer ReadLeaseOf)). ReleasesAll home by c.args.step_number (option_to_list o) old new) (sym w.in-Some.is) (next, given_back, ap g.D.Desk.view w.desk-is)
      | in_default-replaced w ↦
          subst (λ (o : Option (Buffer ReadLeaseOf)). ReleasesAll home by c.args.step_number (option_to_list o) old new) (sym w.in_default-replaced.is) (ap g.D.Desk.view w.desk-is)
    ] in (
      refl,
      record {
        lease = c.take_frame-lease.result;
        without_frame = c.take_frame-lease.new.self;
        takes = c.take_frame-lease.ensures;
        edits = record { edited = txn; without = without; takes = c.take_transaction-transaction.ensures; put_back = ap (λ txns. record without { transactions = txns }) put };
        releases = subst (λ (o : Option (Buffer ReadLeaseOf)). ReleasesAll home by c.args.step_number (option_to_list o) old new) replaced released;
      },
    )

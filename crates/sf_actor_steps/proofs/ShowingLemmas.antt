-- What a step that edits transactions finds in the bindings, and which queues are there.
use Rattle.std.proofs.Common.{◌≡◌, ◌≢◌, ℕ, List, [], get_or, Option, Some, None, ap, ◌∙◌, subst}
use Rattle.std.specs.Prelude.{option_to_list}
use Rattle.std.specs.List.{All}
use Rattle.std.proofs.lemmas.List.{get_or-set_other}
use Rattle.std.proofs.lemmas.List.Elements.{All-head}
use Rattle.sf_actor.specs.sf_layer.declared.op.Op.{Op}
use Rattle.sf_actor.specs.sf_script_scene.declared.change.Change.{Change}
use Rattle.sf_base.specs.declared.ids.LayerId.{LayerId}
use Rattle.sf_actor.specs.sf_surface.Tokens.{ReadLeaseOf}
use Rattle.sf_actor.specs.sf_txn.Buffers.{Buffer}
use Rattle.sf_actor.specs.sf_txn.Transactions.{Contents, is_for, replaced_by, shows_of}
use Rattle.sf_actor.specs.declared.holding.Holding.{Holding}
use Rattle.sf_actor.specs.declared.holding.Holding.TheVariants as holding
use Rattle.sf_actor.specs.Desks.{DeskHome}
use Rattle.sf_actor.specs.Scripts.{op_of}
use Rattle.sf_actor_steps.specs.Editing.{AreThere, HoldsShown, IsThere, TakesTxn}
use Rattle.sf_actor_steps.specs.Forming.{Takes}
use Rattle.sf_actor_steps.specs.declared.bindings.Bindings.{Bindings}
use Rattle.sf_actor_steps.proofs.EditingLemmas.{All-find, shows_none}

-- the operation of a change shows no buffer
pub plain_op : (o : Op) (changed : Change) (layer : LayerId) → o ≡ op_of changed → shows_of o layer ≡ []
plain_op o changed layer same = ap (λ (p : Op). shows_of p layer) same ∙ shows_none changed layer

-- the transaction whose queues are there
pub queues_of : (home : DeskHome) (held : Option (Contents ReadLeaseOf)) (txn : Contents ReadLeaseOf) → held ≡ Some txn → AreThere home held → All (IsThere home) txn.buffers
queues_of home held txn there all = subst (AreThere home) there all

-- the queue of a frame whose place another takes is there
pub replaced_there : (home : DeskHome) (buffers : List (Buffer ReadLeaseOf)) (buffer replaced : Buffer ReadLeaseOf) → All (IsThere home) buffers → replaced_by buffers buffer ≡ Some replaced → IsThere home replaced
replaced_there home buffers buffer replaced all found =
    All-head (IsThere home) replaced [] (subst (λ (o : Option (Buffer ReadLeaseOf)). All (IsThere home) (option_to_list o)) found (All-find (IsThere home) (is_for buffer.layer) buffers all))

module _ {B : Type 0} where
  pub frame_shown : (before taken : Bindings B) (name : ℕ) (lease : ReadLeaseOf) → Takes before taken name (holding.Reads lease) → HoldsShown (get_or before.names name None) → lease.frame ≢ 0
  frame_shown before taken name lease takes shown = subst HoldsShown takes.held_there shown

  -- a frame that is taken leaves the transactions
  pub txns_left : (before taken : Bindings B) (name : ℕ) (held : Holding B) → Takes before taken name held → taken.transactions ≡ before.transactions
  txns_left before taken name held takes = ap (λ (bindings : Bindings B). bindings.transactions) takes.rest

  -- a transaction that is taken leaves the others
  pub other_left : (before taken : Bindings B) (number other : ℕ) (txn : Contents ReadLeaseOf) → TakesTxn before taken number txn → other ≢ number → get_or taken.transactions other None ≡ get_or before.transactions other None
  other_left before taken number other txn takes apart =
      ap (λ (bindings : Bindings B). get_or bindings.transactions other None) takes.txn_rest ∙ get_or-set_other before.transactions number other None None apart

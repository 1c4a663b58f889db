-- What a reply tells of a call: the entry that the record of the history shows, and the permit that it hands back.
use Rattle.std.proofs.Common.{◌≡◌, ℕ, true, false, subst, sym, refl}
use Rattle.atomic_table.specs.Seated.{TableId}
use Rattle.sf_base.specs.declared.ids.QueueId.{QueueId}
use Rattle.sf_base.specs.declared.status.QStatus.{QStatus}
use Rattle.sf_slots.specs.declared.calls.PlainReply.{PlainReply}
use Rattle.sf_slots.specs.declared.calls.PlainReply.TheVariants as plain
use Rattle.sf_surface.specs.declared.call.QCall.{QCall}
use Rattle.sf_surface.specs.declared.call.QCall.TheVariants as call
use Rattle.sf_surface.specs.declared.call.QReply.{QReply}
use Rattle.sf_surface.specs.Calls.{told_call}
use Rattle.sf_surface.specs.Hands.{IsReply, refused_reply}
use Rattle.sf_surface.specs.Histories.{caller}
use Rattle.sf_surface.specs.Marks.{PermitFits, SpareFits}
use Rattle.sf_surface.specs.Named.{named_of, shown_with}
use Rattle.sf_surface.specs.Shown.{shown_call}

module _ {B : Type 0} (table : TableId) (queue : QueueId) (by step : ℕ) where
  pub record Tells (asked : QCall B) (answered : PlainReply) (reply : QReply B) : Type 0 where
    pub shown : shown_with by step (named_of queue asked) reply ≡ shown_call (record { caller = caller by; step = step; call = told_call queue asked; reply = answered })
    pub spare : PermitFits table asked → SpareFits table reply

  tells_as : (asked : QCall B) (answered : PlainReply) (reply other : QReply B) → reply ≡ other → Tells asked answered other → Tells asked answered reply
  tells_as asked answered reply other is tells = subst (λ (r : QReply B). Tells asked answered r) (sym is) tells

  -- a refused call names what it named, and gives its permit back
  refused_tells : (asked : QCall B) (cause : QStatus) → Tells asked (plain.Refused cause) (refused_reply cause asked)
  refused_tells call.Connect cause = record { shown = refl; spare = λ fits. tt }
  refused_tells call.Disconnect cause = record { shown = refl; spare = λ fits. tt }
  refused_tells (call.MaxDequeued n) cause = record { shown = refl; spare = λ fits. tt }
  refused_tells (call.Async on) cause = record { shown = refl; spare = λ fits. tt }
  refused_tells (call.Dequeue width height wait permit) cause = record { shown = refl; spare = λ fits. fits }
  refused_tells (call.Request lease) cause = record { shown = refl; spare = λ fits. tt }
  refused_tells (call.Queue lease picture time crop fence) cause = record { shown = refl; spare = λ fits. tt }
  refused_tells (call.Cancel lease fence) cause = record { shown = refl; spare = λ fits. tt }
  refused_tells (call.Detach lease) cause = record { shown = refl; spare = λ fits. tt }
  refused_tells (call.Attach loose) cause = record { shown = refl; spare = λ fits. tt }
  refused_tells (call.MaxAcquired n) cause = record { shown = refl; spare = λ fits. tt }
  refused_tells call.Abandon cause = record { shown = refl; spare = λ fits. tt }
  refused_tells (call.Acquire expected) cause = record { shown = refl; spare = λ fits. tt }
  refused_tells (call.Release lease fence) cause = record { shown = refl; spare = λ fits. tt }
  refused_tells (call.DetachRead lease) cause = record { shown = refl; spare = λ fits. tt }
  refused_tells (call.AttachRead loose) cause = record { shown = refl; spare = λ fits. tt }

  pub tells : (asked : QCall B) (answered : PlainReply) (reply : QReply B) → IsReply queue asked answered reply → Tells asked answered reply
  tells asked (plain.Refused cause) reply is = tells_as asked (plain.Refused cause) reply (refused_reply cause asked) is (refused_tells asked cause)
  tells call.Connect plain.Done reply is = tells_as _ _ reply _ is (record { shown = refl; spare = λ fits. tt })
  tells call.Connect _ reply is = absurd is
  tells call.Disconnect plain.Done reply is = tells_as _ _ reply _ is (record { shown = refl; spare = λ fits. tt })
  tells call.Disconnect _ reply is = absurd is
  tells (call.MaxDequeued n) plain.Done reply is = tells_as _ _ reply _ is (record { shown = refl; spare = λ fits. tt })
  tells (call.MaxDequeued n) _ reply is = absurd is
  tells (call.Async on) plain.Done reply is = tells_as _ _ reply _ is (record { shown = refl; spare = λ fits. tt })
  tells (call.Async on) _ reply is = absurd is
  tells (call.Dequeue width height wait permit) (plain.Dequeued slot held requested true fence) reply is = tells_as _ _ reply _ is (record { shown = refl; spare = λ fits. tt })
  tells (call.Dequeue width height wait permit) (plain.Dequeued slot held requested false fence) reply is = tells_as _ _ reply _ is.1 (record { shown = refl; spare = λ fits. fits })
  tells (call.Dequeue width height wait permit) _ reply is = absurd is
  tells (call.Request lease) (plain.Requested held) reply is = tells_as _ _ reply _ is (record { shown = refl; spare = λ fits. tt })
  tells (call.Request lease) _ reply is = absurd is
  tells (call.Queue lease picture time crop fence) (plain.Queued frame) reply is = tells_as _ _ reply _ is (record { shown = refl; spare = λ fits. tt })
  tells (call.Queue lease picture time crop fence) _ reply is = absurd is
  tells (call.Cancel lease fence) plain.Done reply is = tells_as _ _ reply _ is (record { shown = refl; spare = λ fits. tt })
  tells (call.Cancel lease fence) _ reply is = absurd is
  tells (call.Detach lease) plain.Done reply is = tells_as _ _ reply _ is (record { shown = refl; spare = λ fits. tt })
  tells (call.Detach lease) _ reply is = absurd is
  tells (call.Attach loose) (plain.Attached slot held) reply is = tells_as _ _ reply _ is (record { shown = refl; spare = λ fits. tt })
  tells (call.Attach loose) _ reply is = absurd is
  tells (call.MaxAcquired n) plain.Done reply is = tells_as _ _ reply _ is (record { shown = refl; spare = λ fits. tt })
  tells (call.MaxAcquired n) _ reply is = absurd is
  tells call.Abandon plain.Done reply is = tells_as _ _ reply _ is (record { shown = refl; spare = λ fits. tt })
  tells call.Abandon _ reply is = absurd is
  tells (call.Acquire expected) (plain.Acquired item dropped) reply is = tells_as _ _ reply _ is.1 (record { shown = refl; spare = λ fits. tt })
  tells (call.Acquire expected) _ reply is = absurd is
  tells (call.Release lease fence) plain.Done reply is = tells_as _ _ reply _ is (record { shown = refl; spare = λ fits. tt })
  tells (call.Release lease fence) _ reply is = absurd is
  tells (call.DetachRead lease) plain.Done reply is = tells_as _ _ reply _ is (record { shown = refl; spare = λ fits. tt })
  tells (call.DetachRead lease) _ reply is = absurd is
  tells (call.AttachRead loose) (plain.Attached slot held) reply is = tells_as _ _ reply _ is (record { shown = refl; spare = λ fits. tt })
  tells (call.AttachRead loose) _ reply is = absurd is

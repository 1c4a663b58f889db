use Rattle.std.proofs.Common.{refl}
use Rattle.sf_surface.specs.declared.call.QCall.TheVariants as call
use Rattle.sf_surface.proofs.SettingLemmas.{sets}
use Rattle.sf_surface.proofs.settings.set_max_dequeued.Goals as goal

pub returns : goal.returns
returns g c =
    let q = c.args.slots.now in
    sets g.B.TableName.table q c.set_max_dequeued.new.q c.args.by (call.MaxDequeued c.args.n) (record q.settings { max_dequeued = c.args.n }) c.set_max_dequeued.result c.answer.result c.requires.sound refl refl
    (record { hands = refl; from = λ log. tt; leaves = refl }) c.set_max_dequeued.ensures.unchanged c.set_max_dequeued.ensures.done (c.set_max_dequeued.ensures.history c.args.by) c.answer.ensures

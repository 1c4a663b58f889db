use Rattle.std.proofs.Common.{refl}
use Rattle.sf_surface.specs.declared.call.QCall.TheVariants as call
use Rattle.sf_surface.proofs.SettingLemmas.{sets}
use Rattle.sf_surface.proofs.settings.set_async.Goals as goal

pub returns : goal.returns
returns g c =
    let q = c.args.slots.now in
    sets g.B.TableName.table q c.set_async.new.q c.args.by (call.Async c.args.on) (record q.settings { asynchronous = c.args.on }) c.set_async.result c.answer.result c.requires.sound refl refl
    (record { hands = refl; from = λ log. tt; leaves = refl }) c.set_async.ensures.unchanged c.set_async.ensures.done (c.set_async.ensures.history c.args.by) c.answer.ensures

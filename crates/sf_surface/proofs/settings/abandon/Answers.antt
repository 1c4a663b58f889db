use Rattle.std.proofs.Common.{refl}
use Rattle.sf_surface.specs.declared.call.QCall.TheVariants as call
use Rattle.sf_surface.proofs.SettingLemmas.{gives_up}
use Rattle.sf_surface.proofs.settings.abandon.Goals as goal

pub returns : goal.returns
returns g c =
    gives_up g.B.TableName.table c.args.slots.now c.abandon.new.q c.args.by call.Abandon c.abandon.result c.answer.result
    (record { hands = refl; from = λ log. tt; leaves = refl }) c.abandon.ensures.unchanged c.abandon.ensures.done (c.abandon.ensures.history c.args.by) c.answer.ensures

use Rattle.std.proofs.Common.{◌∙◌, ap, subst, sym}
use Rattle.sf_intake.specs.Views.{SenderView}
use Rattle.sf_actor.specs.sf_surface.Tokens.{ReadLeaseOf}
use Rattle.sf_live_seats.specs.declared.at_intake.AtIntake.{AtIntake}
use Rattle.sf_live_seats.specs.declared.at_intake.AtIntake.TheVariants as at
use Rattle.sf_live_seats.specs.Seats.{SendsTo}
use Rattle.sf_live_seats.proofs.IntakeArrivals.{hears_one}
use Rattle.sf_live_seats.proofs.inbox.Inbox.hear.Goals as goal

pub hear-requires-clause-theirs : goal.hear-requires-clause-theirs
hear-requires-clause-theirs g c = subst (SendsTo {B = g.row.B.Denot} c.args.intake.now) c.in-Sends.is c.requires.theirs

pub returns-in-Sends-clause-hears : goal.returns-in-Sends-clause-hears
returns-in-Sends-clause-hears g c = hears_one c.args.self.now c.hear.new.self c.in-Sends.outbox.sender c.hear.ensures.heard

pub returns-in-Sends-clause-same : goal.returns-in-Sends-clause-same
returns-in-Sends-clause-same g c =
    let outbox = c.in-Sends.outbox in
    ap (λ (s : SenderView ReadLeaseOf). let a : AtIntake g.row.B.Denot = at.Sends (record outbox { sender = s }) in a) c.hear.ensures.same ∙ sym c.in-Sends.is

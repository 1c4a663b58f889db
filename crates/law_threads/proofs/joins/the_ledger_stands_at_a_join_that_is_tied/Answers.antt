use Rattle.law_draws.specs.sf_actor.Scripts.{picture_at}
use Rattle.law_draws.proofs.law_rights_lemmas.EmptyLedger.{begins_standing}
use Rattle.law_threads.specs.Cuts.{HasLedger}
use Rattle.std.proofs.Common.{ap, refl}
use Rattle.law_draws.specs.sf_actor.Makers.{BufferOf}
use Rattle.law_draws.specs.sf_surface.Reading.{PlainLease}
use Rattle.law_threads.specs.Members.{whole_of}
use Rattle.law_threads.proofs.LedgerViews.{close_keeps, ledger_gives, ledger_rests}
use Rattle.law_threads.proofs.LedgerAtTiedJoin.{own_apart, tied_close, tied_holds, tied_stands}
use Rattle.law_threads.proofs.ActorAsCaller.{ledger_lifted}
use Rattle.law_threads.proofs.joins.the_ledger_stands_at_a_join_that_is_tied.Goals as goal

abbrev at : PlainLease → BufferOf
at plain = record { queue = plain.queue.0; number = plain.held.number }

pub returns : goal.returns
returns b c = λ of.
    let join = of.join in
    let scene = join.scene in
    let table = join.table in
    let period = join.period in
    let most = join.most in
    let locks = join.locks in
    let last = join.last in
    let ends = join.ends in
    let desk = join.desk in
    let joins = join.joins in
    let tied = of.tied in
    let own = own_apart _ scene table period most locks last ends desk joins HasLedger tied in
    let lifted = ledger_lifted table locks joins.first desk joins.closes joins.ordered joins.is_first.own own tied.legal (picture_at scene.pictures) in
    tied_stands _ scene table period most locks last ends desk joins HasLedger tied
    (close_keeps _ _ (tied_close _ scene table period most locks last ends desk joins HasLedger tied (record { end = λ l. refl; next_end = λ l. refl; ends = λ eye. refl }) (λ one other same. ap at same) (ledger_gives (whole_of desk)) (ledger_rests (whole_of desk)) lifted
    (λ home view marks begins other close. close_keeps _ other close (begins_standing table.slots home view _ joins.begins.handler begins).ledger))
    (tied_holds _ scene table period most locks last ends desk joins HasLedger tied (record { end = λ l. refl; next_end = λ l. refl; ends = λ eye. refl }) (λ one other same. ap at same) (ledger_gives (whole_of desk)) (ledger_rests (whole_of desk)) lifted
    (λ home view marks begins other close. close_keeps _ other close (begins_standing table.slots home view _ joins.begins.handler begins).ledger)))

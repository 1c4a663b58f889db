use Rattle.std.proofs.Common.{ap, arith, subst, ◌∙◌, Err, OnErr, Result}
use Rattle.sf_record_sums.specs.sf_record.declared.encode.RunFault.{RunFault}
use Rattle.sf_live.specs.sf_play_write.Writing.{CutSome}
use Rattle.sf_app.proofs.StatusLemmas.{fault_part, fault_shown, fault_whole, script_cut}
use Rattle.sf_app.proofs.session.refuse.Goals as goal

pub returns-in-Ok : goal.returns-in-Ok
returns-in-Ok g c = λ options. fault_shown options c.args.fault _ _ _ _ c.in-Ok.ensures.ok (fault_whole c.args.fault _ _ c.in-Ok.ensures.ok c.in-Ok.ensures.fits)

pub returns-in-Err-WriteFault : goal.returns-in-Err-WriteFault
returns-in-Err-WriteFault g c = λ options.
    let failed = c.write_record.ensures.failed (c.in-Err-WriteFault.is ∙ ap Err c.in-Err-WriteFault.field-0-is) in
    script_cut options (Err c.args.fault) 4 _ _ _ _ (omega arith) (omega arith) (λ _. failed) c.in-Err-WriteFault.ensures.err
    (subst (λ (r : Result (Unit {0}) RunFault). OnErr r (CutSome (g.K.Sink.taken c.args.sink.now) (g.K.Sink.taken c.write_record.new.sink))) c.in-Err-WriteFault.is
    (fault_part c.write_record.result c.args.fault _ _ c.write_record.ensures.err c.write_record.ensures.begun (λ wanting. ap g.K.Sink.taken (c.write_record.ensures.nothing wanting))))

use Rattle.std.proofs.Common.{◌≡◌, get_or, set, refl, ap, ◌∙◌, arith}
use Rattle.std.proofs.lemmas.List.{set-get_or}
use Rattle.sf_intake.specs.Views.{IsBeginningOf, SenderView, TakerView}
use Rattle.sf_intake.proofs.TakerLemmas.{begun_step, all_taken, read_same}
use Rattle.sf_intake.proofs.taker.Taker.compare_each.Goals as goal

pub loop-i-init : goal.loop-i-init
loop-i-init g c = record { same = refl; senders = refl; begins = λ k d lt. absurd (omega arith) }

pub compare-requires-clause-own : goal.compare-requires-clause-own
compare-requires-clause-own g c = ap (λ (t : TakerView g.row.L.Denot). t.intake) c.loop-i.invariant.same ∙ c.requires.own

pub compare-requires-clause-theirs : goal.compare-requires-clause-theirs
compare-requires-clause-theirs g c =
    let r : SenderView g.row.L.Denot = c.index-senders-i.result in
    ap (λ (z : SenderView g.row.L.Denot). z.intake) (read_same c.loop-i.senders c.args.senders.now c.loop-i.i r c.loop-i.invariant.senders c.index-senders-i.is)
    ∙ c.requires.theirs c.loop-i.i (get_or c.loop-i.senders c.loop-i.i r) c.loop-i-test.true

pub loop-i-preserved : goal.loop-i-preserved
loop-i-preserved g c =
    let r : SenderView g.row.L.Denot = c.index-senders-i.result in
    let s : SenderView g.row.L.Denot = get_or c.loop-i.senders c.loop-i.i r in
    let is : s ≡ get_or c.args.senders.now c.loop-i.i s = read_same c.loop-i.senders c.args.senders.now c.loop-i.i r c.loop-i.invariant.senders c.index-senders-i.is in
    record {
      same = c.compare.ensures.taker ∙ c.loop-i.invariant.same;
      senders = ap (λ (x : SenderView g.row.L.Denot). set c.loop-i.senders c.loop-i.i x) c.compare.ensures.sender ∙ (set-get_or c.loop-i.senders c.loop-i.i r ∙ c.loop-i.invariant.senders);
      begins = begun_step c.args.self.now c.loop-i.self s c.args.senders.now c.loop-i.i c.loop-i.invariant.same is c.loop-i-test.true c.loop-i.invariant.begins c.compare.ensures.begins;
    }

pub returns-clause-begins : goal.returns-clause-begins
returns-clause-begins g c = all_taken (λ (z : SenderView g.row.L.Denot). IsBeginningOf z c.args.self.now.taken) c.args.senders.now c.loop-i.i c.loop-i-test.false c.loop-i.invariant.begins

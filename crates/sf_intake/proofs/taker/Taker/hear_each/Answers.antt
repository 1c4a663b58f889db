use Rattle.std.proofs.Common.{◌≡◌, get_or, set, refl, ap, ◌∙◌, arith}
use Rattle.std.specs.List.{Contains}
use Rattle.std.proofs.lemmas.List.{set-get_or}
use Rattle.sf_intake.specs.Views.{SenderView}
use Rattle.sf_intake.proofs.TakerLemmas.{heard_none, heard_one, heard_step, all_taken, read_same}
use Rattle.sf_intake.proofs.taker.Taker.hear_each.Goals as goal

pub loop-i-init : goal.loop-i-init
loop-i-init g c = record { same = heard_none c.args.self.now; senders = refl; heard = λ k d lt. absurd (omega arith) }

pub hear-requires-clause-own : goal.hear-requires-clause-own
hear-requires-clause-own g c = c.loop-i.invariant.same.same.intake ∙ c.requires.own

pub hear-requires-clause-theirs : goal.hear-requires-clause-theirs
hear-requires-clause-theirs g c =
    let r : SenderView g.row.L.Denot = c.index-senders-i.result in
    ap (λ (z : SenderView g.row.L.Denot). z.intake) (read_same c.loop-i.senders c.args.senders.now c.loop-i.i r c.loop-i.invariant.senders c.index-senders-i.is)
    ∙ c.requires.theirs c.loop-i.i (get_or c.loop-i.senders c.loop-i.i r) c.loop-i-test.true

pub loop-i-preserved : goal.loop-i-preserved
loop-i-preserved g c =
    let r : SenderView g.row.L.Denot = c.index-senders-i.result in
    let s : SenderView g.row.L.Denot = get_or c.loop-i.senders c.loop-i.i r in
    let is : s ≡ get_or c.args.senders.now c.loop-i.i s = read_same c.loop-i.senders c.args.senders.now c.loop-i.i r c.loop-i.invariant.senders c.index-senders-i.is in
    record {
      same = heard_one c.args.self.now c.loop-i.self c.hear.new.self s c.loop-i.invariant.same c.hear.ensures.heard;
      senders = ap (λ (x : SenderView g.row.L.Denot). set c.loop-i.senders c.loop-i.i x) c.hear.ensures.same ∙ (set-get_or c.loop-i.senders c.loop-i.i r ∙ c.loop-i.invariant.senders);
      heard = heard_step c.loop-i.self c.hear.new.self s c.args.senders.now c.loop-i.i c.hear.ensures.heard is c.loop-i-test.true c.loop-i.invariant.heard;
    }

pub returns-clause-heard : goal.returns-clause-heard
returns-clause-heard g c = all_taken (λ (z : SenderView g.row.L.Denot). Contains c.loop-i.self.heard (z.by.0, z.sent)) c.args.senders.now c.loop-i.i c.loop-i-test.false c.loop-i.invariant.heard

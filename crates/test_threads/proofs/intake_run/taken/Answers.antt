use Rattle.std.proofs.Common.{[], ◌∷◌, ◌∙◌, sym}
use Rattle.test_threads.proofs.IntakeLemmas.{all_made}
use Rattle.test_threads.proofs.intake_run.taken.Goals as goal

pub finish-requires-clause-senders : goal.finish-requires-clause-senders
finish-requires-clause-senders g c =
    let made = c.in_ok-first.ensures in
    let took = c.in_ok-list.ensures in
    all_made c.take_some.new.taker c.in_ok-senders.senders.items (1 ∷ 2 ∷ 3 ∷ []) (λ place sender low. c.in_ok-senders.ensures.own place sender low ∙ sym took.own)
    (c.in_ok-senders.ensures.numbers ∙ (λ i. made.first.2 i ∷ made.second.2 i ∷ made.third.2 i ∷ [])) (took.made ∙ made.made)

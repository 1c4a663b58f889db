use Rattle.std.proofs.Common.{arith}
use Rattle.sf_commit_next.proofs.AskingLemmas.{nothing_left}
use Rattle.sf_commit.proofs.DecideLemmas.{asked_all, asks_begun, asks_more, asks_rising}
use Rattle.sf_commit.proofs.decide.all_tokens.Goals as goal

pub loop-token-init : goal.loop-token-init
loop-token-init g c = asks_begun c.args.queues.now.pending c.in_ok-tokens.tokens.items c.new-asking.result c.in_ok-tokens.ensures c.new-asking.ensures

pub add_lowest-requires : goal.add_lowest-requires
add_lowest-requires g c =
    asks_rising c.args.queues.now.pending c.loop-token.tokens.items c.pop.new.self.items c.loop-token.asking c.in-Some.token c.loop-token.invariant c.in-Some.ensures.items

pub loop-token-preserved : goal.loop-token-preserved
loop-token-preserved g c =
    asks_more c.args.queues.now.pending c.loop-token.tokens.items c.pop.new.self.items c.loop-token.asking c.add_lowest.new.self c.in-Some.token c.loop-token.invariant c.in-Some.ensures.items
    c.in_ok-add_lowest.ensures

pub returns : goal.returns
returns g c =
    asked_all c.args.queues.now.pending c.loop-token.tokens.items c.loop-token.asking c.loop-token.invariant
    (nothing_left c.loop-token.tokens.items (omega (arith, c.loop-token.tokens.ok.0, c.in_default.ensures.cases.0)))

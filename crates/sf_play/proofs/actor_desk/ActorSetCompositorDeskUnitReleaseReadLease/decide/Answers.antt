use Rattle.sf_play.proofs.actor_desk.ActorSetCompositorDeskUnitReleaseReadLease.decide.Goals as goal

pub vsync-requires : goal.vsync-requires
vsync-requires g c = record {
  rising = λ alive. c.requires.rising c.take.new.self c.in_ok-arrived.arrived.items (record { takes = c.in_ok-arrived.ensures.taken; arrivals = c.take.ensures.arrivals; only = c.take.ensures.only });
}

pub returns-clause-decides : goal.returns-clause-decides
returns-clause-decides g c = record {
  took = c.take.new.self;
  arrived = c.in_ok-arrived.arrived.items;
  takes = record { takes = c.in_ok-arrived.ensures.taken; arrivals = c.take.ensures.arrivals; only = c.take.ensures.only };
  decides = c.in_ok-committed.ensures.decides;
  same = record { turns = c.vsync.ensures.turns; only = c.vsync.ensures.only };
}

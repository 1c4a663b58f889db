use Rattle.sf_token.proofs.arrivals.ArrivalsObject.legal.Goals as goal

pub returns : goal.returns
returns g c = rw (← c.self.view_is) c.self.invariant.legal

use Rattle.law_played.proofs.LeaseLemmas.{looks_tell, looks_tell_all}
use Rattle.law_played.proofs.handlers.looks_show_what_is_written.Goals as goal

pub returns-clause-known : goal.returns-clause-known
returns-clause-known g c = λ run v known. looks_tell g.L.Lease run.frame run.written v.old v.new v.eye v.later v.arrived v.seen v.expected v.told v.decides known

pub returns-clause-exact : goal.returns-clause-exact
returns-clause-exact g c = λ run v eye. looks_tell_all g.L.Lease run.frame run.written v.old v.new v.eye v.later v.arrived v.seen v.expected v.told v.decides eye.exact eye.tells

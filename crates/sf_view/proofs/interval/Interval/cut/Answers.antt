use Rattle.std.proofs.Common.{◌≡◌, rules, to_z, of_z, w32, ◌+ℤ◌, pos}
use Rattle.sf_view.proofs.IntervalLemmas.{interval_cut}
use Rattle.sf_view.proofs.interval.Interval.cut.Goals as goal

pub returns-clause-points : goal.returns-clause-points
returns-clause-points c at =
    let one : to_z w32 (of_z w32 c.max.result) ≡ c.max.result = search rules in
    let two : to_z w32 (of_z w32 c.min.result) ≡ c.min.result = search rules in
    let from : to_z w32 (of_z w32 c.args.self.from) ≡ c.args.self.from = search rules in
    let to : to_z w32 (of_z w32 c.args.self.to) ≡ c.args.self.to = search rules in
    let start : to_z w32 (of_z w32 c.args.start) ≡ c.args.start = search rules in
    let end : to_z w32 (of_z w32 c.end_of.result) ≡ c.end_of.result = search rules in
    let end_is : c.end_of.result ≡ c.args.start +ℤ pos c.args.extent = cc in
    rw (one, two, c.max.ensures.value, c.min.ensures.value, from, to, start, end, end_is) (interval_cut c.args.self.from c.args.self.to c.args.start (c.args.start +ℤ pos c.args.extent) at)

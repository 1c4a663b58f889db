use Rattle.std.proofs.Common.{arith, ◌≡◌, ◌+◌, subst, length, ℕ, length-take}
use Rattle.sf_io.specs.Streams.{Took}
use Rattle.sf_io.proofs.StreamLemmas.{took_more, took_no_more, took_within}
use Rattle.sf_io.proofs.streams.read_all.Goals as goal

pub returns-then-count-room-clause-too_long : goal.returns-then-count-room-clause-too_long
returns-then-count-room-clause-too_long g c =
    let all = took_more _ _ _ c.loop-count.all.items _ c.in-Ok.count c.loop-count.invariant.given c.in-Ok.ensures.bytes.0 c.in-Ok.ensures.bound.0 in
    let bound = c.in-Ok.ensures.bound.0 in
    let count : length c.loop-count.all.items + c.in-Ok.count ≡ c.args.limit + 1 = omega (arith, bound, c.loop-count.all.ok.0, length-take {A = ℕ}) in
    λ _. subst (Took _ _) count all

pub returns-in-Err-clause-before_failed : goal.returns-in-Err-clause-before_failed
returns-in-Err-clause-before_failed g c = λ _. took_no_more _ _ _ c.loop-count.all.items _ c.loop-count.invariant.given c.in-Err.ensures.bytes c.loop-count.invariant.small

pub returns-in-Err-extend_from_slice-clause-before_no_memory : goal.returns-in-Err-extend_from_slice-clause-before_no_memory
returns-in-Err-extend_from_slice-clause-before_no_memory g c =
    let all = took_more _ _ _ c.loop-count.all.items _ c.in-Ok.count c.loop-count.invariant.given c.in-Ok.ensures.bytes.0 c.in-Ok.ensures.bound.0 in
    λ _. took_within _ _ _ _ all (omega (arith, c.loop-count.all.ok.0, c.loop-count.invariant.small, c.len.ensures, c.if-count-room.false))

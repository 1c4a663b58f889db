use Rattle.std.proofs.Common.{sym, arith, true≢false}
use Rattle.sf_txn.proofs.ops.Ops.make_room_for.Goals as goal

pub returns-then-earlier_len-eq0-clause-room : goal.returns-then-earlier_len-eq0-clause-room
returns-then-earlier_len-eq0-clause-room c = (λ e. omega (arith, c.len-earlier_len.ensures, c.in_ok-make_front.ensures.front), λ e. absurd (true≢false e))

pub returns-then-earlier_len-eq0-clause-few : goal.returns-then-earlier_len-eq0-clause-few
returns-then-earlier_len-eq0-clause-few c = omega (arith, c.len-earlier_len.ensures, c.in_ok-make_front.ensures.few)

pub returns-clause-room : goal.returns-clause-room
returns-clause-room c = (λ e. absurd (true≢false (sym e)), λ e. omega (arith, c.len-later_len.ensures, c.in_ok-make_room.ensures.room))

pub returns-clause-few : goal.returns-clause-few
returns-clause-few c = omega (arith, c.len-later_len.ensures, c.in_ok-make_room.ensures.few)

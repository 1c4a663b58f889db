use Rattle.std.proofs.Common.{ℕ, ◌∙◌, ap, arith, refl, sym}
use Rattle.std.specs.List.{position}
use Rattle.std.specs.Vec.{with_item}
use Rattle.sf_actor.specs.sf_surface.declared.call.QCall.{QCall}
use Rattle.sf_live_seats.specs.Seats.{home_of, is_lock, lock_mark}
use Rattle.sf_live_seats.proofs.PassCall.{made_one, made_passed, refused, same_passed, told, waits_one, waits_passed}
use Rattle.sf_live_seats.proofs.QueueCall.{at_lock, called_changes, called_made, called_own, called_waits, changes_none, own_pass}
use Rattle.sf_live_seats.proofs.QueuePass.{low_place, no_queue}
use Rattle.sf_live_seats.proofs.seats.Seats.call.Goals as goal

pub returns-then-step-self-clause-changes : goal.returns-then-step-self-clause-changes
returns-then-step-self-clause-changes g c = changes_none c.args.self.now

pub unreachable-requires : goal.unreachable-requires
unreachable-requires g c =
    let seats = c.args.self.now in
    no_queue seats.by c.args.queue.0 c.args.locks.now.queues.items seats.queues.items (home_of c.args.locks.now seats) c.requires.own.queues refl
    (ap (position (is_lock {B = g.row.B.Denot} c.args.queue.0)) (sym c.deref.ensures.value) ∙ sym c.place_in.ensures ∙ c.in_default.is) c.requires.there

pub index_mut-seat-requires : goal.index_mut-seat-requires
index_mut-seat-requires g c =
    let seats = c.args.self.now in
    let low = low_place seats.by c.args.queue.0 c.in-Some.place c.args.locks.now.queues.items seats.queues.items c.requires.own.queues (ap (position (is_lock {B = g.row.B.Denot} c.args.queue.0)) (sym c.deref.ensures.value) ∙ sym c.place_in.ensures ∙ c.in-Some.is) in
    let long = seats.queues.ok.0 in
    omega (arith, low, long)

pub call-requires-clause-own : goal.call-requires-clause-own
call-requires-clause-own g c =
    let at = at_lock g.B.TableName.table c.args.locks.now c.args.self.now c.args.queue.0 c.in-Some.place c.index-lock.result.now c.index_mut-seat.result.now c.seat.inside.pass c.requires.own
    (ap (position (is_lock {B = g.row.B.Denot} c.args.queue.0)) (sym c.deref.ensures.value) ∙ sym c.place_in.ensures ∙ c.in-Some.is) c.index-lock.ensures c.index_mut-seat.ensures.value c.seat.view_is in
    let own = own_pass g.B.TableName.table c.args.locks.now c.args.self.now c.args.queue.0 c.in-Some.place c.index-lock.result.now c.seat.inside.pass at in
    own.own

pub call-requires-clause-fits : goal.call-requires-clause-fits
call-requires-clause-fits g c =
    let at = at_lock g.B.TableName.table c.args.locks.now c.args.self.now c.args.queue.0 c.in-Some.place c.index-lock.result.now c.index_mut-seat.result.now c.seat.inside.pass c.requires.own
    (ap (position (is_lock {B = g.row.B.Denot} c.args.queue.0)) (sym c.deref.ensures.value) ∙ sym c.place_in.ensures ∙ c.in-Some.is) c.index-lock.ensures c.index_mut-seat.ensures.value c.seat.view_is in
    let own = own_pass g.B.TableName.table c.args.locks.now c.args.self.now c.args.queue.0 c.in-Some.place c.index-lock.result.now c.seat.inside.pass at in
    (lock_mark c.index-lock.result.now, own.marked, c.requires.permit)

pub returns-in-Ok-clause-own : goal.returns-in-Ok-clause-own
returns-in-Ok-clause-own g c =
    let at = at_lock g.B.TableName.table c.args.locks.now c.args.self.now c.args.queue.0 c.in-Some.place c.index-lock.result.now c.index_mut-seat.result.now c.seat.inside.pass c.requires.own
    (ap (position (is_lock {B = g.row.B.Denot} c.args.queue.0)) (sym c.deref.ensures.value) ∙ sym c.place_in.ensures ∙ c.in-Some.is) c.index-lock.ensures c.index_mut-seat.ensures.value c.seat.view_is in
    let own = own_pass g.B.TableName.table c.args.locks.now c.args.self.now c.args.queue.0 c.in-Some.place c.index-lock.result.now c.seat.inside.pass at in
    let made = c.in-Ok.ensures.done (lock_mark c.index-lock.result.now) own.marked in
    let passed = made_passed c.index-lock.result.now c.seat.inside.pass c.call.new.self c.args.self.now.last c.args.step c.in-Ok.stamp c.args.call c.in-Ok.reply own c.call.ensures.same c.if-step-self.false made.0 in
    called_own g.B.TableName.table c.args.locks.now c.args.self.now c.args.queue.0 c.in-Some.place c.index-lock.result.now c.seat.inside.pass at c.call.new.self (record { step = c.args.step; stamp = c.in-Ok.stamp }) passed (with_item c.args.self.now.queues c.in-Some.place c.call.new.self) refl

pub returns-in-Ok-clause-changes : goal.returns-in-Ok-clause-changes
returns-in-Ok-clause-changes g c =
    let at = at_lock g.B.TableName.table c.args.locks.now c.args.self.now c.args.queue.0 c.in-Some.place c.index-lock.result.now c.index_mut-seat.result.now c.seat.inside.pass c.requires.own
    (ap (position (is_lock {B = g.row.B.Denot} c.args.queue.0)) (sym c.deref.ensures.value) ∙ sym c.place_in.ensures ∙ c.in-Some.is) c.index-lock.ensures c.index_mut-seat.ensures.value c.seat.view_is in
    let own = own_pass g.B.TableName.table c.args.locks.now c.args.self.now c.args.queue.0 c.in-Some.place c.index-lock.result.now c.seat.inside.pass at in
    let made = c.in-Ok.ensures.done (lock_mark c.index-lock.result.now) own.marked in
    let passed = made_passed c.index-lock.result.now c.seat.inside.pass c.call.new.self c.args.self.now.last c.args.step c.in-Ok.stamp c.args.call c.in-Ok.reply own c.call.ensures.same c.if-step-self.false made.0 in
    called_changes g.B.TableName.table c.args.locks.now c.args.self.now c.args.queue.0 c.in-Some.place c.index-lock.result.now c.seat.inside.pass at c.call.new.self (record { step = c.args.step; stamp = c.in-Ok.stamp }) passed (with_item c.args.self.now.queues c.in-Some.place c.call.new.self) refl

pub returns-in-Ok-clause-made : goal.returns-in-Ok-clause-made
returns-in-Ok-clause-made g c =
    let at = at_lock g.B.TableName.table c.args.locks.now c.args.self.now c.args.queue.0 c.in-Some.place c.index-lock.result.now c.index_mut-seat.result.now c.seat.inside.pass c.requires.own
    (ap (position (is_lock {B = g.row.B.Denot} c.args.queue.0)) (sym c.deref.ensures.value) ∙ sym c.place_in.ensures ∙ c.in-Some.is) c.index-lock.ensures c.index_mut-seat.ensures.value c.seat.view_is in
    let own = own_pass g.B.TableName.table c.args.locks.now c.args.self.now c.args.queue.0 c.in-Some.place c.index-lock.result.now c.seat.inside.pass at in
    let made = c.in-Ok.ensures.done (lock_mark c.index-lock.result.now) own.marked in
    let passed = made_passed c.index-lock.result.now c.seat.inside.pass c.call.new.self c.args.self.now.last c.args.step c.in-Ok.stamp c.args.call c.in-Ok.reply own c.call.ensures.same c.if-step-self.false made.0 in
    called_made g.B.TableName.table c.args.locks.now c.args.self.now c.args.queue.0 c.in-Some.place c.index-lock.result.now c.seat.inside.pass at c.call.new.self (record { step = c.args.step; stamp = c.in-Ok.stamp }) passed (with_item c.args.self.now.queues c.in-Some.place c.call.new.self) refl (c.args.step, c.args.call) c.in-Ok.reply
    (made_one (lock_mark c.index-lock.result.now) c.seat.inside.pass c.call.new.self c.args.self.now.last.stamp c.in-Ok.stamp (c.args.step, c.args.call) c.in-Ok.reply made.0)

pub returns-in-Ok-clause-spare : goal.returns-in-Ok-clause-spare
returns-in-Ok-clause-spare g c =
    let at = at_lock g.B.TableName.table c.args.locks.now c.args.self.now c.args.queue.0 c.in-Some.place c.index-lock.result.now c.index_mut-seat.result.now c.seat.inside.pass c.requires.own
    (ap (position (is_lock {B = g.row.B.Denot} c.args.queue.0)) (sym c.deref.ensures.value) ∙ sym c.place_in.ensures ∙ c.in-Some.is) c.index-lock.ensures c.index_mut-seat.ensures.value c.seat.view_is in
    let own = own_pass g.B.TableName.table c.args.locks.now c.args.self.now c.args.queue.0 c.in-Some.place c.index-lock.result.now c.seat.inside.pass at in
    (c.in-Ok.ensures.done (lock_mark c.index-lock.result.now) own.marked).1

pub returns-in-Err-NotYet-clause-own : goal.returns-in-Err-NotYet-clause-own
returns-in-Err-NotYet-clause-own g c =
    let at = at_lock g.B.TableName.table c.args.locks.now c.args.self.now c.args.queue.0 c.in-Some.place c.index-lock.result.now c.index_mut-seat.result.now c.seat.inside.pass c.requires.own
    (ap (position (is_lock {B = g.row.B.Denot} c.args.queue.0)) (sym c.deref.ensures.value) ∙ sym c.place_in.ensures ∙ c.in-Some.is) c.index-lock.ensures c.index_mut-seat.ensures.value c.seat.view_is in
    let own = own_pass g.B.TableName.table c.args.locks.now c.args.self.now c.args.queue.0 c.in-Some.place c.index-lock.result.now c.seat.inside.pass at in
    let not_yet = told c.seat.inside.pass c.call.new.self (c.args.self.now.last.stamp, (c.args.step, c.args.call)) _ c.in-Err-NotYet.field-0 c.in-Err-NotYet.field-0-is c.in-Err-NotYet.ensures.not_yet in
    let waited = not_yet.1 (lock_mark c.index-lock.result.now) own.marked in
    let passed = waits_passed c.index-lock.result.now c.seat.inside.pass c.call.new.self c.args.self.now.last (c.args.step, c.args.call) own c.call.ensures.same waited in
    called_own g.B.TableName.table c.args.locks.now c.args.self.now c.args.queue.0 c.in-Some.place c.index-lock.result.now c.seat.inside.pass at c.call.new.self c.args.self.now.last passed (with_item c.args.self.now.queues c.in-Some.place c.call.new.self) refl

pub returns-in-Err-NotYet-clause-changes : goal.returns-in-Err-NotYet-clause-changes
returns-in-Err-NotYet-clause-changes g c =
    let at = at_lock g.B.TableName.table c.args.locks.now c.args.self.now c.args.queue.0 c.in-Some.place c.index-lock.result.now c.index_mut-seat.result.now c.seat.inside.pass c.requires.own
    (ap (position (is_lock {B = g.row.B.Denot} c.args.queue.0)) (sym c.deref.ensures.value) ∙ sym c.place_in.ensures ∙ c.in-Some.is) c.index-lock.ensures c.index_mut-seat.ensures.value c.seat.view_is in
    let own = own_pass g.B.TableName.table c.args.locks.now c.args.self.now c.args.queue.0 c.in-Some.place c.index-lock.result.now c.seat.inside.pass at in
    let not_yet = told c.seat.inside.pass c.call.new.self (c.args.self.now.last.stamp, (c.args.step, c.args.call)) _ c.in-Err-NotYet.field-0 c.in-Err-NotYet.field-0-is c.in-Err-NotYet.ensures.not_yet in
    let waited = not_yet.1 (lock_mark c.index-lock.result.now) own.marked in
    let passed = waits_passed c.index-lock.result.now c.seat.inside.pass c.call.new.self c.args.self.now.last (c.args.step, c.args.call) own c.call.ensures.same waited in
    called_changes g.B.TableName.table c.args.locks.now c.args.self.now c.args.queue.0 c.in-Some.place c.index-lock.result.now c.seat.inside.pass at c.call.new.self c.args.self.now.last passed (with_item c.args.self.now.queues c.in-Some.place c.call.new.self) refl

pub returns-in-Err-NotYet-clause-not_yet : goal.returns-in-Err-NotYet-clause-not_yet
returns-in-Err-NotYet-clause-not_yet g c =
    let at = at_lock g.B.TableName.table c.args.locks.now c.args.self.now c.args.queue.0 c.in-Some.place c.index-lock.result.now c.index_mut-seat.result.now c.seat.inside.pass c.requires.own
    (ap (position (is_lock {B = g.row.B.Denot} c.args.queue.0)) (sym c.deref.ensures.value) ∙ sym c.place_in.ensures ∙ c.in-Some.is) c.index-lock.ensures c.index_mut-seat.ensures.value c.seat.view_is in
    let own = own_pass g.B.TableName.table c.args.locks.now c.args.self.now c.args.queue.0 c.in-Some.place c.index-lock.result.now c.seat.inside.pass at in
    let not_yet = told c.seat.inside.pass c.call.new.self (c.args.self.now.last.stamp, (c.args.step, c.args.call)) _ c.in-Err-NotYet.field-0 c.in-Err-NotYet.field-0-is c.in-Err-NotYet.ensures.not_yet in
    let waited = not_yet.1 (lock_mark c.index-lock.result.now) own.marked in
    let passed = waits_passed c.index-lock.result.now c.seat.inside.pass c.call.new.self c.args.self.now.last (c.args.step, c.args.call) own c.call.ensures.same waited in (
      ap (λ (back : ℕ × (ℕ × QCall g.row.B.Denot)). back.1.1) not_yet.0,
      called_waits g.B.TableName.table c.args.locks.now c.args.self.now c.args.queue.0 c.in-Some.place c.index-lock.result.now c.seat.inside.pass at c.call.new.self c.args.self.now.last passed (with_item c.args.self.now.queues c.in-Some.place c.call.new.self) refl (c.args.step, c.args.call)
          (waits_one (lock_mark c.index-lock.result.now) c.seat.inside.pass c.call.new.self c.args.self.now.last.stamp (c.args.step, c.args.call) waited),
    )

pub returns-in-Err-NoMemory-clause-changes : goal.returns-in-Err-NoMemory-clause-changes
returns-in-Err-NoMemory-clause-changes g c =
    let at = at_lock g.B.TableName.table c.args.locks.now c.args.self.now c.args.queue.0 c.in-Some.place c.index-lock.result.now c.index_mut-seat.result.now c.seat.inside.pass c.requires.own
    (ap (position (is_lock {B = g.row.B.Denot} c.args.queue.0)) (sym c.deref.ensures.value) ∙ sym c.place_in.ensures ∙ c.in-Some.is) c.index-lock.ensures c.index_mut-seat.ensures.value c.seat.view_is in
    let own = own_pass g.B.TableName.table c.args.locks.now c.args.self.now c.args.queue.0 c.in-Some.place c.index-lock.result.now c.seat.inside.pass at in
    let same = refused c.seat.inside.pass c.call.new.self (c.args.self.now.last.stamp, (c.args.step, c.args.call)) _ c.in-Err-NoMemory.field-0 c.in-Err-NoMemory.field-0-is c.in-Err-NoMemory.ensures.no_memory in
    let passed = same_passed c.index-lock.result.now c.seat.inside.pass c.call.new.self c.args.self.now.last own same in
    called_changes g.B.TableName.table c.args.locks.now c.args.self.now c.args.queue.0 c.in-Some.place c.index-lock.result.now c.seat.inside.pass at c.call.new.self c.args.self.now.last passed (with_item c.args.self.now.queues c.in-Some.place c.call.new.self) refl

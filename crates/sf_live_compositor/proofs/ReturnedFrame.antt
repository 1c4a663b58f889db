-- A frame goes back in a call of the compositor.
use Rattle.std.proofs.Common.{◌≡◌, ℕ, Ok, Err, Result, ap, sym, subst}
use Rattle.std.proofs.lemmas.Bool.{false≢true}
use Rattle.std.specs.Prelude.{IfOk, None, OnOk, is_ok}
use Rattle.atomic_table.specs.Seated.{TableId}
use Rattle.sf_base.specs.Fences.{Fence}
use Rattle.sf_base.specs.declared.NoMemory.{NoMemory}
use Rattle.sf_live_threads.specs.sf_calls.declared.fault.CallFault.{CallFault}
use Rattle.sf_live_threads.specs.sf_commit.Releases.{ReleaseOf}
use Rattle.sf_live_threads.specs.sf_surface.declared.call.QCall.{QCall}
use Rattle.sf_live_threads.specs.sf_surface.declared.call.QCall.TheVariants as call
use Rattle.sf_live_threads.specs.sf_surface.declared.call.QReply.{QReply}
use Rattle.sf_live_threads.specs.sf_surface.Tokens.{ReadLeaseOf}
use Rattle.sf_live_threads.specs.sf_actor.Desks.{DeskHome, DeskView, MadeCall}
use Rattle.sf_play_write.proofs.sf_actor_set_lemmas.CompositingLemmas.{ends_none}
use Rattle.sf_play_write.specs.law_rights.Standing.{GivesOne}
use Rattle.sf_live_threads.specs.sf_live_seats.declared.locks.Locks.{Locks}
use Rattle.sf_live_threads.specs.sf_live_seats.declared.seats.Seats.{Seats}
use Rattle.sf_live_threads.specs.sf_live_seats.Moves.{ChangesPasses}
use Rattle.sf_live_threads.specs.sf_live_seats.Seats.{home_of, view_of}
use Rattle.sf_live_compositor.specs.SeatDesk.{GivesBack}

module _ {B : Type 0} (home : DeskHome) (old new : DeskView B) (by step queue : ℕ) (lease : ReadLeaseOf) (fence : Fence) (first : by ≡ 0) where
  abbrev Made : QReply B → Type 0
  Made reply = MadeCall home old new by queue (step, call.Release lease fence) reply

  made_first : (reply : QReply B) → Made reply → MadeCall home old new 0 queue (step, call.Release lease fence) reply
  made_first reply made = subst (λ (b : ℕ). MadeCall home old new b queue (step, call.Release lease fence) reply) first made

  -- its reply ends no drawing
  pub ends_given : (outcome : Result (QReply B) (CallFault (QCall B))) → IfOk outcome Made → IfOk outcome (λ (reply : QReply B). reply.ends ≡ None)
  ends_given (Ok reply) made = ends_none home old new queue step lease fence reply (made_first reply made)
  ends_given (Err e) made = tt

  pub given : (outcome : Result (QReply B) (CallFault (QCall B))) (result : Result (Unit {0}) NoMemory) → is_ok result ≡ is_ok outcome → IfOk outcome Made → OnOk result ((reply : QReply B) × MadeCall home old new 0 queue (step, call.Release lease fence) reply)
  given (Ok reply) (Ok done) same made = (reply, made_first reply made)
  given outcome (Err e) same made = tt
  given (Err e) (Ok done) same made = absurd (false≢true (sym same))

pub step_given : {X E F : Type 0} (P : Type 0) (outcome : Result X E) (result : Result (Unit {0}) F) → is_ok result ≡ is_ok outcome → IfOk outcome (λ x. P) → OnOk result P
step_given P (Ok x) (Ok done) same p = p
step_given P outcome (Err e) same p = tt
step_given P (Err e) (Ok done) same p = absurd (false≢true (sym same))

pub gives_it : {B : Type 0} (home : DeskHome) (old new : DeskView B) (step : ℕ) (release : ReleaseOf ReadLeaseOf) (result : Result (Unit {0}) NoMemory)
    → OnOk result ((reply : QReply B) × MadeCall home old new 0 release.queue.0 (step, call.Release release.lease release.fence) reply) → OnOk result (GivesOne home step release old new)
gives_it home old new step release (Ok done) made = record { reply = made.0; made = made.1 }
gives_it home old new step release (Err e) made = tt

-- a call that gave a frame back
pub gives_back : {B : Type 0} (table : TableId) (locks : Locks B) (number : ℕ) (release : ReleaseOf ReadLeaseOf) (old new : Seats B) (result : Result (Unit {0}) NoMemory) → ChangesPasses old new
    → OnOk result (new.last.step ≡ number) → OnOk result (GivesOne (home_of locks old) number release (view_of old) (view_of new)) → OnOk result (GivesBack table locks number release old new)
gives_back table locks number release old new (Ok done) changes step gives = record { changes = changes; step = step; gives = gives; turns = ap (λ (s : Seats _). s.turns) changes.same }
gives_back table locks number release old new (Err e) changes step gives = tt

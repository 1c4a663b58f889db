-- What the calls that give nothing do to the queue: they set limits and modes, or give it up.
use Rattle.std.proofs.Common.{◌≡◌, ◌∙◌, List, [], ap, refl, subst, sym, Result, Ok, Err, None}
use Rattle.std.specs.Prelude.{OnOk, OnErr}
use Rattle.atomic_table.specs.Seated.{TableId}
use Rattle.sf_base.specs.declared.ids.ActorId.{ActorId}
use Rattle.sf_base.specs.declared.status.QStatus.{QStatus}
use Rattle.sf_slots.specs.declared.calls.PlainReply.TheVariants as reply
use Rattle.sf_slots.specs.declared.settings.Settings.{Settings}
use Rattle.sf_slots.specs.Effects.{refusal_in}
use Rattle.sf_slots.specs.Queue.{Queue, IsSound, configured, given_up}
use Rattle.sf_slots.specs.Replies.{refused_or}
use Rattle.sf_slots.specs.Tells.{Continues}
use Rattle.sf_surface.specs.declared.call.Gives.TheVariants as gives
use Rattle.sf_surface.specs.declared.call.QCall.{QCall}
use Rattle.sf_surface.specs.declared.call.QReply.{QReply}
use Rattle.sf_surface.specs.Calls.{told_call}
use Rattle.sf_surface.specs.Hands.{IsReply, done_reply, plain_reply}
use Rattle.sf_surface.specs.Histories.{FromLog, Made, left_by}
use Rattle.sf_surface.specs.Objects.{Does}
use Rattle.sf_surface.specs.Tokens.{Right}
use Rattle.sf_surface.proofs.DoesLemmas.{Keeps, Kept, configured_keeps, configured_kept, moves_only, refuses}
use Rattle.sf_surface.proofs.FitLemmas.{given_up_keeps}

module _ {B : Type 0} where
  -- a call whose reply gives nothing where it is done
  pub record GivesNothing (q : Queue Right) (asked : QCall B) : Type 0 where
    pub hands : IsReply q.number asked reply.Done (done_reply [] gives.Nothing None None)
    pub from : (log : List (Made B)) → FromLog log asked (done_reply [] gives.Nothing None None)
    pub leaves : left_by asked gives.Nothing ≡ None

  module _ (table : TableId) where
    -- a call that gives nothing is done, and leaves the queue so, or is refused
    pub answers : (q after left : Queue Right) (by : ActorId) (asked : QCall B) (done : Result (Unit {0}) QStatus) (answer : QReply B) → GivesNothing q asked → Keeps q left → Kept q left → OnErr done (after ≡ q) → OnOk done (after ≡ left) → Continues q after by (told_call q.number asked) (refused_or (refusal_in done) reply.Done) → answer ≡ plain_reply done asked → Does table q after by asked answer
    answers q after left by asked (Ok done) answer nothing keeps kept unchanged met goes is =
        moves_only table q after left by asked reply.Done answer met keeps kept goes
        (subst (IsReply q.number asked reply.Done) (sym is) nothing.hands)
        (λ log stored. subst (FromLog log asked) (sym is) (nothing.from log))
        (ap (λ (r : QReply B). left_by asked r.gives) is ∙ nothing.leaves)
    answers q after left by asked (Err cause) answer nothing keeps kept unchanged met goes is = refuses table q after by asked cause answer unchanged goes is

    -- other settings
    pub sets : (q after : Queue Right) (by : ActorId) (asked : QCall B) (settings : Settings) (done : Result (Unit {0}) QStatus) (answer : QReply B) → IsSound q → settings.width ≡ q.settings.width → settings.height ≡ q.settings.height → GivesNothing q asked → OnErr done (after ≡ q) → OnOk done (after ≡ configured q settings) → Continues q after by (told_call q.number asked) (refused_or (refusal_in done) reply.Done) → answer ≡ plain_reply done asked → Does table q after by asked answer
    sets q after by asked settings done answer sound wide high nothing unchanged met goes is =
        answers q after (configured q settings) by asked done answer nothing (configured_keeps q settings wide high) (configured_kept q settings sound) unchanged met goes is

    -- the queue is given up
    pub gives_up : (q after : Queue Right) (by : ActorId) (asked : QCall B) (done : Result (Unit {0}) QStatus) (answer : QReply B) → GivesNothing q asked → OnErr done (after ≡ q) → OnOk done (after ≡ given_up q) → Continues q after by (told_call q.number asked) (refused_or (refusal_in done) reply.Done) → answer ≡ plain_reply done asked → Does table q after by asked answer
    gives_up q after by asked done answer nothing unchanged met goes is =
        answers q after (given_up q) by asked done answer nothing
        (record { number = refl; width = refl; height = refl }) (λ P F of_item rights. given_up_keeps P F q) unchanged met goes is

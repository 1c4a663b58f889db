-- What connecting and disconnecting do to the queue.
use Rattle.std.proofs.Common.{◌≡◌, ℕ, ◌-◌, false, List, [], ◌∷◌, inl, inr, ap, ◌∙◌, refl, Some, None}
use Rattle.std.specs.List.{range_with_len}
use Rattle.std.proofs.lemmas.Bool.{cases_Bool}
use Rattle.atomic_table.specs.Seated.{TableId}
use Rattle.sf_base.specs.declared.ids.ActorId.{ActorId}
use Rattle.sf_base.specs.declared.status.QStatus.{QStatus}
use Rattle.sf_slots.specs.declared.calls.PlainCall.TheVariants as plain
use Rattle.sf_slots.specs.declared.calls.PlainReply.TheVariants as reply
use Rattle.sf_slots.specs.declared.settings.Settings.{Settings}
use Rattle.sf_slots.specs.Queue.{Queue, IsSound, slot_in, configured, retired_all, without_marks}
use Rattle.sf_slots.specs.Tells.{Continues}
use Rattle.sf_surface.specs.declared.call.QCall.TheVariants as call
use Rattle.sf_surface.specs.declared.call.QReply.{QReply}
use Rattle.sf_surface.specs.Objects.{Does}
use Rattle.sf_surface.specs.Tokens.{Right}
use Rattle.sf_surface.proofs.DoesLemmas.{Keeps, Kept, retired_same}
use Rattle.sf_surface.proofs.SettingLemmas.{answers, sets}
use Rattle.std.specs.Prelude.{OnErr, OnOk, Result}
use Rattle.sf_slots.specs.Effects.{all_vacated, disconnected, refusal_in, vacated, vacated_all}
use Rattle.sf_slots.specs.History.{is_back_or_lent}
use Rattle.sf_slots.specs.Told.{usable}
use Rattle.sf_slots.specs.Replies.{refused_or}
use Rattle.sf_surface.specs.Hands.{plain_reply}
use Rattle.sf_surface.proofs.FitLemmas.{retired_all_keeps, sound_queued, vacated_all_keeps, with_settings_keeps, without_marks_keeps}

-- slots that are vacated change neither the number nor the settings
vacated_one : (q : Queue Right) (s : ℕ) → ((vacated q s).number ≡ q.number) × ((vacated q s).settings ≡ q.settings)
vacated_one q s = elim (cases_Bool (is_back_or_lent (slot_in q s).state)) [
  | inl met ↦ rw met (refl, refl)
  | inr kept ↦ rw kept (refl, refl)
]

vacated_same : (xs : List ℕ) (q : Queue Right) → ((vacated_all q xs).number ≡ q.number) × ((vacated_all q xs).settings ≡ q.settings)
vacated_same [] q = (refl, refl)
vacated_same (s ∷ xs) q =
    let one = vacated_one q s in
    let rest = vacated_same xs (vacated q s) in
    (rest.0 ∙ one.0, rest.1 ∙ one.1)

disconnected_keeps : (q : Queue Right) → Keeps q (disconnected q)
unfolding all_vacated
disconnected_keeps q =
    let all : List ℕ = range_with_len 0 64 in
    let vacant : Queue Right = without_marks (vacated_all q all) in
    let settings : Settings = record vacant.settings { connected = None } in
    let before = vacated_same all q in
    let behind = retired_same (range_with_len (usable settings) (usable vacant.settings - usable settings)) vacant in
    record {
      number = behind.0 ∙ before.0;
      width = ap (λ (s : Settings). s.width) before.1;
      height = ap (λ (s : Settings). s.height) before.1;
    }

disconnected_kept : (q : Queue Right) → IsSound q → Kept q (disconnected q)
unfolding all_vacated
disconnected_kept q sound P F of_item rights =
    let all : List ℕ = range_with_len 0 64 in
    let vacant : Queue Right = without_marks (vacated_all q all) in
    let settings : Settings = record vacant.settings { connected = None } in
    let xs : List ℕ = range_with_len (usable settings) (usable vacant.settings - usable settings) in
    let a = vacated_all_keeps P F all q (sound_queued q sound) rights in
    let b = without_marks_keeps P F (vacated_all q all) a.0 a.1 in
    with_settings_keeps P F (retired_all vacant xs) settings (retired_all_keeps P F xs vacant b.0 b.1).1

module _ {B : Type 0} (table : TableId) where
  -- a producer connects
  pub connects : (q after : Queue Right) (by : ActorId) (given : Result (Unit {0}) QStatus) (answer : QReply B) → IsSound q → OnErr given (after ≡ q) → OnOk given (after ≡ configured q (record q.settings { connected = Some by; queued = false })) → Continues q after by plain.Connect (refused_or (refusal_in given) reply.Done) → answer ≡ plain_reply given call.Connect → Does table q after by call.Connect answer
  connects q after by given answer sound unchanged left goes is =
      sets table q after by call.Connect (record q.settings { connected = Some by; queued = false }) given answer sound refl refl
      (record { hands = refl; from = λ log. tt; leaves = refl }) unchanged left goes is

  -- and leaves
  pub disconnects : (q after : Queue Right) (by : ActorId) (given : Result (Unit {0}) QStatus) (answer : QReply B) → IsSound q → OnErr given (after ≡ q) → OnOk given (after ≡ disconnected q) → Continues q after by plain.Disconnect (refused_or (refusal_in given) reply.Done) → answer ≡ plain_reply given call.Disconnect → Does table q after by call.Disconnect answer
  disconnects q after by given answer sound unchanged left goes is =
      answers table q after (disconnected q) by call.Disconnect given answer
      (record { hands = refl; from = λ log. tt; leaves = refl }) (disconnected_keeps q) (disconnected_kept q sound) unchanged left goes is

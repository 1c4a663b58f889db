-- The times of a run's vsyncs, and what they saw of the timelines, as far as it has come.
use Rattle.std.specs.Prelude.{◌≡◌, ◌≢◌, ℕ, ◌*◌, ◌<◌, ◌≤◌, ◌==◌, false, List, [], ◌∷◌, ◌++◌, length, map}
use Rattle.std.specs.List.{All, list_any}
use Rattle.sf_base.specs.Fences.{value_of}
use Rattle.sf_base.specs.Points.{greatest}
use Rattle.sf_base.specs.declared.fences.Seen.{Seen}
use Rattle.sf_script_scene.specs.Scene.{SceneValue}
use Rattle.sf_actor.specs.Known.{Rise}
use Rattle.sf_record.specs.declared.event.VsyncRecords.{VsyncRecords}
use Rattle.sf_record.specs.declared.record.TimelineValue.{TimelineValue}
use Rattle.law_played.specs.Vsyncs.{AreVsyncs, WasSignalled, rising_timelines}

-- what a vsync shows of a timeline
abbrev pub value_shown : Seen → ℕ → TimelineValue
value_shown seen timeline = record { timeline = timeline; value = value_of seen.values timeline }

-- the vsyncs so far are those of a scene; none has a greater number than this, and none saw more than these values
pub record HasSeen (scene : SceneValue) (signals : List (ℕ × ℕ)) (vsyncs : List VsyncRecords) (number : ℕ) (seen : Seen) : Type 0 where
  pub are : AreVsyncs scene signals vsyncs
  pub numbers : All (λ vsync. vsync.number ≤ number) vsyncs
  pub values : All (λ vsync. All (λ t. t.value ≤ value_of seen.values t.timeline) vsync.timelines) vsyncs

-- the record of a vsync says its time and what was seen of the declared timelines, each 0 or signalled; and it committed something
pub record TellsTime (scene : SceneValue) (signals : List (ℕ × ℕ)) (vsync : VsyncRecords) (seen : Seen) : Type 0 where
  pub from_1 : 0 < vsync.number
  pub due : vsync.expected ≡ vsync.number * scene.period
  pub commit : vsync.commits ≢ []
  pub shows : vsync.timelines ≡ map (value_shown seen) (rising_timelines scene)
  pub signalled : (t : ℕ) → 1 ≤ t → t ≤ 64 → WasSignalled signals (value_shown seen t)

-- What the vsyncs so far saw: of this scene, where these points were signalled, up to this number and these values.
pub record SeenSoFar : Type 0 where
  -- what is played, and the points that were signalled
  pub scene : SceneValue
  pub signals : List (ℕ × ℕ)
  -- the records of the vsyncs, the greatest number, and the values seen
  pub vsyncs : List VsyncRecords
  pub number : ℕ
  pub seen : Seen

abbrev pub IsSo : SeenSoFar → Type 0
IsSo so = HasSeen so.scene so.signals so.vsyncs so.number so.seen

-- one more vsync has a greater number, saw no value fall, and says its time
pub record SeesMore (so : SeenSoFar) (report : VsyncRecords) (later : Seen) : Type 0 where
  pub greater : so.number < report.number
  pub rise : Rise so.seen later
  pub tells : TellsTime so.scene so.signals report later

abbrev pub with_report : SeenSoFar → VsyncRecords → Seen → SeenSoFar
with_report so report later = record so { vsyncs = so.vsyncs ++ report ∷ []; number = report.number; seen = later }

-- a record shows of each declared timeline what was seen, and nothing was seen of the others
pub record ShowsAllSeen (scene : SceneValue) (seen : Seen) (report : VsyncRecords) : Type 0 where
  pub all : length seen.values ≡ 64
  pub shows : report.timelines ≡ map (value_shown seen) (rising_timelines scene)
  pub no_others : (t : ℕ) → 1 ≤ t → t ≤ 64 → list_any (λ k. k == t) scene.timelines ≡ false → value_of seen.values t ≡ 0

-- the greatest of some points of each timeline was seen
pub record SawGreatest (seen : Seen) (points : List (ℕ × ℕ)) : Type 0 where
  pub all : length seen.values ≡ 64
  pub from_1 : All (λ p. 1 ≤ p.0) points
  pub greatest_is : (t : ℕ) → 1 ≤ t → t ≤ 64 → value_of seen.values t ≡ greatest t points

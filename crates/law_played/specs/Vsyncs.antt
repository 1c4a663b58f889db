-- The vsyncs of a run: when they are, and what they saw of the timelines.
use Rattle.std.specs.Prelude.{◌≡◌, ◌≢◌, ℕ, ◌*◌, ◌<◌, ◌≤◌, ◌==◌, true, ◌&&◌, ◌||◌, List, [], ◌∷◌, map}
use Rattle.std.specs.List.{All, AllZip, flat_map, list_any}
use Rattle.sf_script_scene.specs.Scene.{SceneValue}
use Rattle.sf_record.specs.declared.event.Event.{Event}
use Rattle.sf_record.specs.declared.event.Event.TheVariants as event
use Rattle.sf_record.specs.declared.event.VsyncRecords.{VsyncRecords}
use Rattle.sf_record.specs.declared.record.CommitRecord.{CommitRecord}
use Rattle.sf_record.specs.declared.record.TimelineValue.{TimelineValue}
use Rattle.law_played.specs.Runs.{rising}

-- the vsyncs among events, in order
abbrev pub vsync_in : Event → List VsyncRecords
vsync_in (event.Reply reply) = []
vsync_in (event.Vsync report) = report ∷ []

-- the vsyncs among events
unfoldable pub vsyncs_in : List Event → List VsyncRecords
vsyncs_in events = flat_map vsync_in events

-- the commits of a vsync
abbrev pub commits_of_vsync : VsyncRecords → List CommitRecord
commits_of_vsync report = report.commits

-- the commits of vsyncs, in order
unfoldable pub commits_in : List VsyncRecords → List CommitRecord
commits_in vsyncs = flat_map commits_of_vsync vsyncs

-- something holds of each item and the one after it
abbrev pub AllNextTo : {X : Type 0} → (X → X → Type 0) → X → List X → Type 0
AllNextTo P x [] = Unit {0}
AllNextTo P x (y ∷ later) = P x y × AllNextTo P y later

-- each two neighbours of a list are so
abbrev pub AllNext : {X : Type 0} → (X → X → Type 0) → List X → Type 0
AllNext P [] = Unit {0}
AllNext P (x ∷ later) = AllNextTo P x later

-- the timeline of a value
abbrev pub timeline_of : TimelineValue → ℕ
timeline_of t = t.timeline

-- the declared timelines by rising number
unfoldable pub rising_timelines : SceneValue → List ℕ
rising_timelines scene = rising (λ timeline. timeline) 64 scene.timelines

-- a value that a vsync saw is 0 or was signalled
abbrev pub WasSignalled : List (ℕ × ℕ) → TimelineValue → Type 0
WasSignalled signals t = ((t.value == 0) || list_any (λ s. (s.0 == t.timeline) && (s.1 == t.value)) signals) ≡ true

-- a value is no less than the one before
abbrev pub HasNotFallen : TimelineValue → TimelineValue → Type 0
HasNotFallen before t = before.value ≤ t.value

-- a vsync comes after another: with a greater number, and no value that fell
abbrev pub GoesOn : VsyncRecords → VsyncRecords → Type 0
GoesOn before vsync = (before.number < vsync.number) × AllZip HasNotFallen before.timelines vsync.timelines

-- Vsyncs. Their numbers rise from 1 on, each is expected at its number of periods and commits something, and saw of each
-- declared timeline 0 or what was signalled, and no less than the one before.
pub record AreVsyncs (scene : SceneValue) (signals : List (ℕ × ℕ)) (vsyncs : List VsyncRecords) : Type 0 where
  pub from_1 : All (λ vsync. 0 < vsync.number) vsyncs
  pub go_on : AllNext GoesOn vsyncs
  pub expected : All (λ vsync. vsync.expected ≡ vsync.number * scene.period) vsyncs
  pub commit : All (λ vsync. vsync.commits ≢ []) vsyncs
  pub timelines : All (λ vsync. map timeline_of vsync.timelines ≡ rising_timelines scene) vsyncs
  pub signalled : All (λ vsync. All (WasSignalled signals) vsync.timelines) vsyncs

-- What is written of a vsync.
use Rattle.std.specs.Prelude.{◌≡◌, ℕ, true, if◌then◌else◌, is_some, List, [], map, Option, Result, OnErr, OnOk}
use Rattle.std.specs.List.{All, AllZip}
use Rattle.sf_output_screen.specs.sf_picture.declared.picture.Picture.{Picture}
use Rattle.sf_play.specs.sf_commit.Handlers.{HandlerOf}
use Rattle.sf_play.specs.sf_commit.OnLayers.{OnLayer}
use Rattle.sf_play.specs.sf_commit.declared.vsync.Commit.{Commit}
use Rattle.sf_output_screen.specs.sf_layer.declared.layer.Layer.{Layer}
use Rattle.sf_output.specs.Outputs.{IsOutput, OfImage, map_output}
use Rattle.sf_output.specs.declared.output.Output.{Output}
use Rattle.sf_play.specs.sf_output_plan.Due.{ImageDue, ShowsDue, outputs_due}
use Rattle.sf_play.specs.sf_output_plan.declared.plan.Plan.{Plan}
use Rattle.sf_play.specs.sf_record.Events.{output_record, vsync_records}
use Rattle.sf_play.specs.sf_record.declared.event.VsyncRecords.{VsyncRecords}
use Rattle.sf_play.specs.sf_record.declared.encode.RunFault.{RunFault}
use Rattle.sf_play.specs.sf_record.declared.record.Record.{Record}
use Rattle.sf_play.specs.sf_play_report.Stages.{AreExpected, FindsPictures, IsReadableView, shows_frame}
use Rattle.sf_play.specs.sf_play_report.declared.report.VsyncReport.{VsyncReport}
use Rattle.sf_play.specs.sf_play_report.declared.sourced.SourcedView.{SourcedView}
use Rattle.sf_play.specs.law_played.Commits.{commit_shown}
use Rattle.sf_play.specs.law_played.Frames.{shown_due}
use Rattle.sf_play.specs.law_played.Seeing.{value_shown}
use Rattle.sf_output_screen.specs.ScreenLists.{AreShown}
use Rattle.sf_output_screen.specs.Screens.{IsShown, ScreenOf, image_bytes}
use Rattle.sf_output_screen.specs.declared.screens.OutputScreen.{OutputScreen}
use Rattle.sf_play_write.specs.declared.shows.Shows.{Shows}
use Rattle.sf_play_write.specs.Writing.{Writes, WritesPart, WritingEnded}

-- what the records of a vsync show, which leaves these layers
abbrev pub told_with : (ℕ → Picture) → Plan → List ℕ → VsyncReport → List Layer → VsyncRecords
told_with pictures plan timelines report layers = record {
  number = report.number;
  expected = report.expected;
  timelines = map (value_shown report.seen) timelines;
  commits = map commit_shown report.commits;
  shown = if shows_frame report.commits then shown_due pictures plan layers else [];
}

-- the records of a vsync; one that commits nothing has none
abbrev pub records_if : List Commit → VsyncRecords → List Record
records_if [] told = []
records_if commits told = vsync_records told

abbrev pub vsync_shown : (ℕ → Picture) → Plan → List ℕ → VsyncReport → List Layer → List Record
vsync_shown pictures plan timelines report layers = records_if report.commits (told_with pictures plan timelines report layers)

-- what was written of a vsync that left this handler, where the buffers on its layers have their pictures: all of its records, and the
-- screens show its images
abbrev pub WritesPictured : {L A : Type 0} → (OnLayer L → Picture) → Shows → HandlerOf L → VsyncReport → Option (List ℕ) → Option (List ℕ)
    → List OutputScreen → List OutputScreen → Result A RunFault → Type 0
WritesPictured expected shows handler report old new screens shown result =
    (pictures : ℕ → Picture) → AreExpected expected pictures handler → AreShown pictures screens
    → OnOk result (Writes old new (vsync_shown pictures shows.plan shows.timelines.items report handler.tree.layers) × AreShown pictures shown)

-- after a fault, a prefix of these
abbrev pub CutsPictured : {L A : Type 0} → (OnLayer L → Picture) → Shows → HandlerOf L → VsyncReport → Option (List ℕ) → Option (List ℕ)
    → List OutputScreen → Result A RunFault → Type 0
CutsPictured expected shows handler report old new screens result =
    (pictures : ℕ → Picture) → AreExpected expected pictures handler → AreShown pictures screens
    → OnErr result (WritesPart old new (vsync_shown pictures shows.plan shows.timelines.items report handler.tree.layers))

-- a view with its sources as its pixels
abbrev pub pixels_of : (ℕ → Picture) → SourcedView → List ℕ
pixels_of pictures sourced = image_bytes pictures sourced.view

-- each of the views finds its pictures
abbrev pub FindPictures : (ℕ → Picture) → List Picture → List (Output SourcedView) → Type 0
FindPictures pictures contents views = All (OfImage (FindsPictures pictures contents)) views

-- the views are of the outputs due, place by place, where a transaction was committed and not rejected
abbrev pub IsViewDue : ImageDue → SourcedView → Type 0
IsViewDue due sourced = ShowsDue due sourced.view

abbrev pub AreViewsDue : Plan → List Layer → List Commit → List (Output SourcedView) → Type 0
AreViewsDue plan layers commits views =
    AllZip (IsOutput IsViewDue) (if shows_frame commits then outputs_due plan layers else []) views

-- the views can be composed from these contents
abbrev pub AreReadableViews : List Picture → List (Output SourcedView) → Type 0
AreReadableViews contents views = All (OfImage (IsReadableView contents)) views

-- a screen showed a view
abbrev pub HasView : ScreenOf → Type 0
HasView screen = is_some screen.view ≡ true

-- a view's image is on a screen
pub record IsComposed (pictures : ℕ → Picture) (sourced : SourcedView) (screen : ScreenOf) : Type 0 where
  pub frame : screen.frame ≡ pixels_of pictures sourced
  pub shown : IsShown pictures screen

abbrev pub AreComposed : (ℕ → Picture) → List (Output SourcedView) → List (Output ScreenOf) → Type 0
AreComposed pictures views images = AllZip (IsOutput (IsComposed pictures)) views images

-- an output without its image
abbrev pub without_image : {A : Type 0} → Output A → Output (Unit {0})
without_image output = map_output (λ _. tt) output

-- the same outputs, place by place, whatever their images are
abbrev pub AreSameOutputs : {A B : Type 0} → List (Output A) → List (Output B) → Type 0
AreSameOutputs outputs others = map without_image outputs ≡ map without_image others

-- These images came of views and contents, on screens among these: they are of the views' outputs, each screen showed a view, and where the
-- views find their pictures among the contents, and what the screens showed were images, they are the images of the views.
pub record AreImagesOf (contents : List Picture) (views : List (Output SourcedView)) (screens : List OutputScreen) (images : List (Output ScreenOf)) : Type 0 where
  pub outputs : AreSameOutputs views images
  pub showed : All (OfImage HasView) images
  pub composed : (pictures : ℕ → Picture) → FindPictures pictures contents views → AreShown pictures screens → AreComposed pictures views images

-- screens that showed images show images still
abbrev pub KeepsShown : List OutputScreen → List OutputScreen → Type 0
KeepsShown screens shown = (pictures : ℕ → Picture) → AreShown pictures screens → AreShown pictures shown

-- the record of something that is composed
abbrev pub shown_record : ℕ → Output ScreenOf → Record
shown_record number image = output_record number (map_output (λ (screen : ScreenOf). screen.frame) image)

-- the pixels of what is composed
abbrev pub pixels_in : List (Output ScreenOf) → List (Output (List ℕ))
pixels_in images = map (map_output (λ (screen : ScreenOf). screen.frame)) images

-- what the records of a vsync show, of which these are the pixels
abbrev pub told_by : List ℕ → VsyncReport → List (Output (List ℕ)) → VsyncRecords
told_by timelines report shown = record {
  number = report.number;
  expected = report.expected;
  timelines = map (value_shown report.seen) timelines;
  commits = map commit_shown report.commits;
  shown = shown;
}

abbrev pub records_by : List ℕ → VsyncReport → List (Output (List ℕ)) → List Record
records_by timelines report shown = records_if report.commits (told_by timelines report shown)

-- these are the outputs due of a vsync with these commits, which leaves these layers, whichever pixels their images have
abbrev pub AreOutputsDue : Plan → List Layer → List Commit → List (Output (List ℕ)) → Type 0
AreOutputsDue plan layers commits shown = AreSameOutputs (if shows_frame commits then outputs_due plan layers else []) shown

-- the records of a vsync with this report were written, which leaves these layers, whichever pixels its images have
pub record WritesVsync (plan : Plan) (timelines : List ℕ) (layers : List Layer) (report : VsyncReport) (old new : Option (List ℕ)) : Type 0 where
  pub shown : List (Output (List ℕ))
  pub due : AreOutputsDue plan layers report.commits shown
  pub written : Writes old new (records_by timelines report shown)

-- a prefix of them was written
pub record CutsVsync (plan : Plan) (timelines : List ℕ) (layers : List Layer) (report : VsyncReport) (old new : Option (List ℕ)) : Type 0 where
  pub shown : List (Output (List ℕ))
  pub due : AreOutputsDue plan layers report.commits shown
  pub written : WritesPart old new (records_by timelines report shown)

-- how the writing of a vsync that left this handler ended, whatever the pictures are: its records were written, or a prefix of them
abbrev pub VsyncEnded : {L S A : Type 0} → (S → Option (List ℕ)) → (S → ℕ) → Shows → HandlerOf L → VsyncReport → S → S → Result A RunFault → Type 0
VsyncEnded taken faults shows handler report old new result =
    WritingEnded result (faults old) (faults new)
    (λ _. WritesVsync shows.plan shows.timelines.items handler.tree.layers report (taken old) (taken new))
    (CutsVsync shows.plan shows.timelines.items handler.tree.layers report (taken old) (taken new))

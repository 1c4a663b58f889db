-- The records of a vsync, piece by piece.
use Rattle.std.proofs.Common.{◌≡◌, ℕ, Bool, true, false, if◌then◌else◌, List, [], ◌∷◌, ◌++◌, drop, map, take, Option, Some, Result, Ok, Err, refl, ap, ◌∙◌, sym, subst, IfOk, OnErr, OnOk}
use Rattle.std.specs.Prelude.{IfSome, pos}
use Rattle.std.specs.List.{All, AllZip}
use Rattle.std.proofs.lemmas.List.Elements.{All-cons, All-nil, All-push}
use Rattle.byteorder.specs.Endian.{big_bytes}
use Rattle.std.proofs.lemmas.Bool.{false≢true}
use Rattle.std.proofs.lemmas.List.{drop_at, map-append, take_at}
use Rattle.sf_play.specs.sf_commit.declared.vsync.Commit.{Commit}
use Rattle.sf_output_screen.proofs.sf_compose_lemmas.RowLemmas.{frame_bytes-same}
use Rattle.sf_output_screen.specs.sf_compose.Again.{ShowsView}
use Rattle.sf_output_screen.specs.sf_compose.Frames.{frame_bytes}
use Rattle.sf_output_screen.specs.sf_layer.declared.layer.Layer.{Layer}
use Rattle.sf_output.specs.Outputs.{IsOutput, OfImage, map_output}
use Rattle.sf_output.specs.declared.image.ImageId.{ImageId}
use Rattle.sf_output.specs.declared.image.ImageId.TheVariants as id
use Rattle.sf_output.specs.declared.output.Output.{Output}
use Rattle.sf_output.specs.declared.output.Output.TheVariants as out
use Rattle.sf_output_screen.specs.sf_picture.declared.picture.Picture.{Picture}
use Rattle.sf_play.specs.sf_output_plan.Due.{ImageDue, outputs_due}
use Rattle.sf_play.specs.sf_output_plan.declared.plan.Plan.{Plan}
use Rattle.sf_play.specs.sf_record.Events.{image_record, output_record, vsync_records}
use Rattle.sf_play.specs.sf_record.Records.{BeginsImage, u32_bytes}
use Rattle.sf_play.specs.sf_record.Records.{image_in as record_in}
use Rattle.sf_play.specs.sf_record.declared.encode.RunFault.{RunFault}
use Rattle.sf_play.specs.sf_record.declared.event.VsyncRecords.{VsyncRecords}
use Rattle.sf_play.specs.sf_record.declared.record.Record.{Record}
use Rattle.sf_play.specs.sf_record.declared.record.Record.TheVariants as rec
use Rattle.sf_play.specs.sf_play_report.Reports.{has_commits}
use Rattle.sf_play.specs.sf_play_report.Stages.{shows_frame}
use Rattle.sf_play.specs.sf_play_report.declared.report.VsyncReport.{VsyncReport}
use Rattle.sf_play.specs.sf_play_report.declared.sourced.SourcedView.{SourcedView}
use Rattle.sf_play.specs.law_played.Commits.{commit_shown}
use Rattle.sf_play.specs.law_played.Frames.{frame_of, shown_due}
use Rattle.sf_play.specs.law_played.Seeing.{value_shown}
use Rattle.sf_output_screen.specs.ScreenLists.{AreShown}
use Rattle.sf_output_screen.specs.declared.screens.OutputScreen.{OutputScreen}
use Rattle.sf_output_screen.specs.Screens.{IsShown, IsWhole, ScreenOf, head_of, image_bytes}
use Rattle.sf_output_screen.proofs.ScreenLemmas.{shown_bytes}
use Rattle.sf_output_screen.proofs.sf_view_lemmas.ImageLemmas.{view_image-order}
use Rattle.sf_output_screen.specs.sf_view.Image.{image_in}
use Rattle.sf_output_screen.specs.sf_view.Stacks.{view_image}
use Rattle.sf_output_screen.specs.sf_view.Views.{ViewOf}
use Rattle.sf_play_write.proofs.WritingLemmas.{part_none, part_whole}
use Rattle.sf_play_write.specs.Vsyncs.{AreComposed, AreOutputsDue, AreSameOutputs, AreViewsDue, CutsVsync, HasView, IsComposed, IsViewDue, WritesVsync, pixels_in, pixels_of, records_by, records_if, shown_record, told_by, vsync_shown, without_image}
use Rattle.sf_play_write.specs.Writing.{Writes, WritesPart}

pub with_more : (A B : Type 0) (r : Result (Unit {0}) RunFault) → OnOk r A → B → OnOk r (A × B)
with_more A B (Ok u) a b = (a, b)
with_more A B (Err e) a b = tt

-- what a screen shows are the bytes of its view's image
frame_bytes_are : (pictures : ℕ → Picture) (view : ViewOf) (screen : ScreenOf) → screen.view ≡ Some view → IsWhole view screen.frame → IsShown pictures screen → screen.frame ≡ image_bytes pictures view
frame_bytes_are pictures view screen is whole shown =
    shown_bytes pictures view screen.frame whole (subst (λ (o : Option ViewOf). IfSome o (λ v. ShowsView pictures v screen.frame)) is shown)

-- a screen that has another number shows the same
pub still_shown : (pictures : ℕ → Picture) (before after : ScreenOf) → after.view ≡ before.view → after.frame ≡ before.frame → IsShown pictures before → IsShown pictures after
still_shown pictures before after view frame shown = subst (λ (s : Option ViewOf × List ℕ). IfSome s.0 (λ (v : ViewOf). ShowsView pictures v s.1)) (λ i. (sym view i, sym frame i)) shown

-- the numbers with which the body of a record begins
frame_head : (number : ℕ) → drop 4 (big_bytes 4 0 ++ big_bytes 4 number) ≡ big_bytes 4 number
frame_head number = drop_at (big_bytes 4 0) (big_bytes 4 number) 4 refl

pub image_begins : (of : ImageId) (number : ℕ) (body frame : List ℕ) → body ≡ head_of of number ++ frame → BeginsImage of number body
unfolding u32_bytes
image_begins id.Frame number body frame is =
    ap (take 4) (is ∙ ap (λ (head : List ℕ). head ++ frame) (frame_head number)) ∙ take_at (big_bytes 4 number) frame 4 refl
image_begins (id.Display output) number body frame is = ap (take 8) is ∙ take_at (big_bytes 4 output ++ big_bytes 4 number) frame 8 refl
image_begins (id.Capture output) number body frame is = ap (take 8) is ∙ take_at (big_bytes 4 output ++ big_bytes 4 number) frame 8 refl

-- the record of an image by its body
pub image_is : (of : ImageId) (number : ℕ) (body frame : List ℕ) → body ≡ head_of of number ++ frame → record_in of number body ≡ image_record of number frame
image_is id.Frame number body frame is =
    ap (λ (pixels : List ℕ). rec.Fram (record { number = number; pixels = pixels }))
    (ap (drop 4) (is ∙ ap (λ (head : List ℕ). head ++ frame) (frame_head number)) ∙ drop_at (big_bytes 4 number) frame 4 refl)
image_is (id.Display output) number body frame is =
    ap (λ (pixels : List ℕ). rec.Frad (record { output = output; number = number; pixels = pixels })) (ap (drop 8) is ∙ drop_at (big_bytes 4 output ++ big_bytes 4 number) frame 8 refl)
image_is (id.Capture output) number body frame is =
    ap (λ (pixels : List ℕ). rec.Capt (record { output = output; number = number; pixels = pixels })) (ap (drop 8) is ∙ drop_at (big_bytes 4 output ++ big_bytes 4 number) frame 8 refl)

-- one that commits something has its records, and one that commits nothing has none
pub its_records : (commits : List Commit) (told : VsyncRecords) → has_commits commits ≡ true → vsync_records told ≡ records_if commits told
its_records [] told is = absurd (false≢true is)
its_records (commit ∷ commits) told is = refl

pub no_records : (commits : List Commit) (told : VsyncRecords) → has_commits commits ≡ false → [] ≡ records_if commits told
no_records [] told is = refl
no_records (commit ∷ commits) told is = absurd (false≢true (sym is))

-- the first record of one that commits something
abbrev pub head_by : List ℕ → VsyncReport → Record
head_by timelines report = rec.Vsyn (record { number = report.number; expected = report.expected; timelines = map (value_shown report.seen) timelines })

-- the records of what is shown, one after another
each_record : (number : ℕ) (images : List (Output ScreenOf)) → map (shown_record number) images ≡ map (output_record number) (pixels_in images)
each_record number [] = refl
each_record number (image ∷ images) = ap (λ (rs : List Record). shown_record number image ∷ rs) (each_record number images)

-- all records of one that commits something
pub all_records : (timelines : List ℕ) (report : VsyncReport) (images : List (Output ScreenOf)) → has_commits report.commits ≡ true
    → head_by timelines report ∷ (map rec.Comm (map commit_shown report.commits) ++ map (shown_record report.number) images) ≡ records_by timelines report (pixels_in images)
all_records timelines report images some =
    ap (λ (rs : List Record). head_by timelines report ∷ (map rec.Comm (map commit_shown report.commits) ++ rs)) (each_record report.number images)
    ∙ its_records report.commits (told_by timelines report (pixels_in images)) some

pub zip_push : {A B : Type 0} (R : A → B → Type 0) (xs : List A) (ys : List B) (x : A) (y : B) → AllZip R xs ys → R x y → AllZip R (xs ++ x ∷ []) (ys ++ y ∷ [])
zip_push R [] [] x y zip r = (r, tt)
zip_push R [] (b ∷ ys) x y zip r = absurd zip
zip_push R (a ∷ xs) [] x y zip r = absurd zip
zip_push R (a ∷ xs) (b ∷ ys) x y zip r = (zip.0, zip_push R xs ys x y zip.1 r)

-- an output whose image a screen shows now, and one that has none
pub image_composed : (pictures : ℕ → Picture) (output : Output SourcedView) (of : ImageId) (sourced : SourcedView) (screen : ScreenOf) → output ≡ out.Image (record { of = of; shows = sourced })
    → screen.view ≡ Some sourced.view → IsWhole sourced.view screen.frame → IsShown pictures screen → IsOutput (IsComposed pictures) output (out.Image (record { of = of; shows = screen }))
image_composed pictures output of sourced screen is view whole shown =
    subst (λ (o : Output SourcedView). IsOutput (IsComposed pictures) o (out.Image (record { of = of; shows = screen }))) (sym is)
    (refl, record { frame = frame_bytes_are pictures sourced.view screen view whole shown; shown = shown })

pub hit_composed : (pictures : ℕ → Picture) (output : Output SourcedView) (number layer : ℕ) → output ≡ out.Hit number layer → IsOutput (IsComposed pictures) output (out.Hit number layer)
hit_composed pictures output number layer is = subst (λ (o : Output SourcedView). IsOutput (IsComposed pictures) o (out.Hit number layer)) (sym is) (refl, refl)

-- the pixels of images are those of the views that they are of
composed_is : (pictures : ℕ → Picture) (view : Output SourcedView) (image : Output ScreenOf) → IsOutput (IsComposed pictures) view image
    → map_output (λ (screen : ScreenOf). screen.frame) image ≡ map_output (pixels_of pictures) view
composed_is pictures (out.Image view) (out.Image image) is = (λ i. out.Image (record { of = sym is.0 i; shows = is.1.frame i }))
composed_is pictures (out.Hit n layer) (out.Hit m there) is = (λ i. out.Hit (sym is.0 i) (sym is.1 i))
composed_is pictures _ _ is = absurd is

composed_are : (pictures : ℕ → Picture) (views : List (Output SourcedView)) (images : List (Output ScreenOf)) → AreComposed pictures views images → pixels_in images ≡ map (map_output (pixels_of pictures)) views
composed_are pictures [] [] are = refl
composed_are pictures [] (image ∷ images) are = absurd are
composed_are pictures (view ∷ views) [] are = absurd are
composed_are pictures (view ∷ views) (image ∷ images) are = (λ i. composed_is pictures view image are.0 i ∷ composed_are pictures views images are.1 i)

-- and their screens show images
shown_is : (pictures : ℕ → Picture) (view : Output SourcedView) (image : Output ScreenOf) → IsOutput (IsComposed pictures) view image → OfImage (IsShown pictures) image
shown_is pictures (out.Image view) (out.Image image) is = is.1.shown
shown_is pictures (out.Hit n layer) (out.Hit m there) is = tt
shown_is pictures _ _ is = absurd is

pub composed_shown : (pictures : ℕ → Picture) (views : List (Output SourcedView)) (images : List (Output ScreenOf)) → AreComposed pictures views images → All (OfImage (IsShown pictures)) images
composed_shown pictures [] [] are = All-nil (OfImage (IsShown pictures))
composed_shown pictures [] (image ∷ images) are = absurd are
composed_shown pictures (view ∷ views) [] are = absurd are
composed_shown pictures (view ∷ views) (image ∷ images) are =
    All-cons (OfImage (IsShown pictures)) image images (shown_is pictures view image are.0) (composed_shown pictures views images are.1)

-- what is shown of a view that is due is what is due
pixels_are : (pictures : ℕ → Picture) (due : ImageDue) (sourced : SourcedView) → IsViewDue due sourced → frame_of pictures due ≡ pixels_of pictures sourced
unfolding frame_of image_bytes
pixels_are pictures due sourced shows =
    sym ((λ i. frame_bytes (λ x y. view_image pictures sourced.view (pos x) (pos y)) (shows.wide i) (shows.high i))
    ∙ frame_bytes-same (λ x y. view_image pictures sourced.view (pos x) (pos y)) (λ x y. image_in pictures due.layers due.order (pos x) (pos y)) due.width due.height
    (λ x y wide high. view_image-order pictures due.layers due.order due.width due.height sourced.view shows x y wide high))

output_is : (pictures : ℕ → Picture) (due : Output ImageDue) (view : Output SourcedView) → IsOutput IsViewDue due view → map_output (frame_of pictures) due ≡ map_output (pixels_of pictures) view
output_is pictures (out.Image due) (out.Image view) is = (λ i. out.Image (record { of = is.0 i; shows = pixels_are pictures due.shows view.shows is.1 i }))
output_is pictures (out.Hit n layer) (out.Hit m there) is = (λ i. out.Hit (is.0 i) (is.1 i))
output_is pictures _ _ is = absurd is

outputs_are : (pictures : ℕ → Picture) (dues : List (Output ImageDue)) (views : List (Output SourcedView)) → AllZip (IsOutput IsViewDue) dues views
    → map (map_output (frame_of pictures)) dues ≡ map (map_output (pixels_of pictures)) views
outputs_are pictures [] [] is = refl
outputs_are pictures [] (view ∷ views) is = absurd is
outputs_are pictures (due ∷ dues) [] is = absurd is
outputs_are pictures (due ∷ dues) (view ∷ views) is = (λ i. output_is pictures due view is.0 i ∷ outputs_are pictures dues views is.1 i)

shown_are : (pictures : ℕ → Picture) (plan : Plan) (layers : List Layer) (shows : Bool) (views : List (Output SourcedView)) → AllZip (IsOutput IsViewDue) (if shows then outputs_due plan layers else []) views
    → map (map_output (pixels_of pictures)) views ≡ (if shows then shown_due pictures plan layers else [])
unfolding shown_due
shown_are pictures plan layers true views is = sym (outputs_are pictures (outputs_due plan layers) views is)
shown_are pictures plan layers false views is = sym (outputs_are pictures [] views is)

-- the records by images that are composed of its views are those of what is due
pub records_are : (pictures : ℕ → Picture) (plan : Plan) (timelines : List ℕ) (report : VsyncReport) (layers : List Layer) (views : List (Output SourcedView))
    (images : List (Output ScreenOf)) → AreViewsDue plan layers report.commits views → AreComposed pictures views images
    → records_by timelines report (pixels_in images) ≡ vsync_shown pictures plan timelines report layers
records_are pictures plan timelines report layers views images due composed =
    let shown = composed_are pictures views images composed ∙ shown_are pictures plan layers (shows_frame report.commits) views due in
    (λ i. records_if report.commits (record {
      number = report.number;
      expected = report.expected;
      timelines = map (value_shown report.seen) timelines;
      commits = map commit_shown report.commits;
      shown = shown i;
    }))

-- a vsync of which the images are composed was written, for its report
pub vsync_written : (r : Result (Unit {0}) RunFault) (a b : Option (List ℕ)) (pictures : ℕ → Picture) (plan : Plan) (timelines : List ℕ) (report : VsyncReport) (layers : List Layer) (views : List (Output SourcedView)) (images : List (Output ScreenOf)) (screens shown : List OutputScreen) → AreViewsDue plan layers report.commits views → AreComposed pictures views images
    → OnOk r (Writes a b (records_by timelines report (pixels_in images)))
    → (All (OfImage (IsShown pictures)) images → AreShown pictures screens → OnOk r (AreShown pictures shown)) → AreShown pictures screens
    → OnOk r (Writes a b (vsync_shown pictures plan timelines report layers) × AreShown pictures shown)
vsync_written (Ok u) a b pictures plan timelines report layers views images screens shown due composed written still was = (
  subst (Writes a b) (records_are pictures plan timelines report layers views images due composed) written,
  still (composed_shown pictures views images composed) was,
)
vsync_written (Err e) a b pictures plan timelines report layers views images screens shown due composed written still was = tt

pub vsync_cut : (r : Result (Unit {0}) RunFault) (a b : Option (List ℕ)) (pictures : ℕ → Picture) (plan : Plan) (timelines : List ℕ) (report : VsyncReport) (layers : List Layer) (views : List (Output SourcedView)) (images : List (Output ScreenOf)) → AreViewsDue plan layers report.commits views → AreComposed pictures views images
    → OnErr r (WritesPart a b (records_by timelines report (pixels_in images))) → OnErr r (WritesPart a b (vsync_shown pictures plan timelines report layers))
vsync_cut (Ok u) a b pictures plan timelines report layers views images due composed part = tt
vsync_cut (Err e) a b pictures plan timelines report layers views images due composed part =
    subst (WritesPart a b) (records_are pictures plan timelines report layers views images due composed) part

-- one more output
outputs_push : {A B : Type 0} (xs : List (Output A)) (ys : List (Output B)) (x : Output A) (y : Output B) → AreSameOutputs xs ys → without_image x ≡ without_image y
    → AreSameOutputs (xs ++ x ∷ []) (ys ++ y ∷ [])
outputs_push xs ys x y same one =
    map-append without_image xs (x ∷ [])
    ∙ (λ i. same i ++ one i ∷ [])
    ∙ sym (map-append without_image ys (y ∷ []))

-- one more view and its image
module _ (views : List (Output SourcedView)) (images pushed : List (Output ScreenOf)) (view : Output SourcedView) (image : Output ScreenOf) (is : pushed ≡ images ++ image ∷ []) where
  pub outputs_more : AreSameOutputs views images → without_image view ≡ without_image image → AreSameOutputs (views ++ view ∷ []) pushed
  outputs_more same one = outputs_push views images view image same one ∙ ap (map without_image) (sym is)

  pub showed_more : All (OfImage HasView) images → OfImage HasView image → All (OfImage HasView) pushed
  showed_more showed one = subst (All (OfImage HasView)) (sym is) (All-push (OfImage HasView) images image showed one)

  pub composed_more : (pictures : ℕ → Picture) → AreComposed pictures views images → IsOutput (IsComposed pictures) view image → AreComposed pictures (views ++ view ∷ []) pushed
  composed_more pictures composed one = subst (AreComposed pictures (views ++ view ∷ [])) (sym is) (zip_push (IsOutput (IsComposed pictures)) views images view image composed one)

-- other images of the same output
other_image : {A B : Type 0} (f : A → B) (output : Output A) → without_image (map_output f output) ≡ without_image output
other_image f (out.Image image) = refl
other_image f (out.Hit n layer) = refl

pub other_images : {A B : Type 0} (f : A → B) (outputs : List (Output A)) → AreSameOutputs (map (map_output f) outputs) outputs
other_images f [] = refl
other_images f (output ∷ outputs) = (λ i. other_image f output i ∷ other_images f outputs i)

-- a view that is due is of the output that is due
due_output : (due : Output ImageDue) (view : Output SourcedView) → IsOutput IsViewDue due view → without_image due ≡ without_image view
due_output (out.Image due) (out.Image view) is = ap (λ (of : ImageId). out.Image (record { of = of; shows = tt })) is.0
due_output (out.Hit n layer) (out.Hit m there) is = (λ i. out.Hit (is.0 i) (is.1 i))
due_output _ _ is = absurd is

due_outputs : (dues : List (Output ImageDue)) (views : List (Output SourcedView)) → AllZip (IsOutput IsViewDue) dues views → AreSameOutputs dues views
due_outputs [] [] are = refl
due_outputs [] (view ∷ views) are = absurd are
due_outputs (due ∷ dues) [] are = absurd are
due_outputs (due ∷ dues) (view ∷ views) are = (λ i. due_output due view are.0 i ∷ due_outputs dues views are.1 i)

-- whichever pixels they have
module _ (plan : Plan) (timelines : List ℕ) (layers : List Layer) (report : VsyncReport) where
  abbrev dues : List (Output ImageDue)
  dues = if shows_frame report.commits then outputs_due plan layers else []

  -- nothing was written of a vsync
  pub vsync_unbegun : (a : Option (List ℕ)) → CutsVsync plan timelines layers report a a
  vsync_unbegun a =
      let shown = map (map_output (λ (_ : ImageDue). [])) dues in
      record { shown = shown; due = sym (other_images (λ (_ : ImageDue). []) dues); written = part_none a (records_by timelines report shown) }

  module _ (a b : Option (List ℕ)) (views : List (Output SourcedView)) (images : List (Output ScreenOf)) (due : AreViewsDue plan layers report.commits views) (same : AreSameOutputs views images) where
    are_due : AreOutputsDue plan layers report.commits (pixels_in images)
    are_due = due_outputs dues views due ∙ same ∙ sym (other_images (λ (screen : ScreenOf). screen.frame) images)

    pub vsync_told : Writes a b (records_by timelines report (pixels_in images)) → WritesVsync plan timelines layers report a b
    vsync_told written = record { shown = pixels_in images; due = are_due; written = written }

    pub vsync_begun : WritesPart a b (records_by timelines report (pixels_in images)) → CutsVsync plan timelines layers report a b
    vsync_begun part = record { shown = pixels_in images; due = are_due; written = part }

-- where it succeeded, and where it failed
pub told_if : {A X : Type 0} (r : Result (Unit {0}) RunFault) → (A → X) → OnOk r A → OnOk r X
told_if (Ok u) f fact = f fact
told_if (Err e) f fact = tt

pub begun_if : {A X : Type 0} (r : Result (Unit {0}) RunFault) → (A → X) → OnErr r A → OnErr r X
begun_if (Ok u) f fact = tt
begun_if (Err e) f fact = f fact

-- a vsync that was written whole
pub vsync_whole : (plan : Plan) (timelines : List ℕ) (layers : List Layer) (report : VsyncReport) (a b : Option (List ℕ)) → WritesVsync plan timelines layers report a b → CutsVsync plan timelines layers report a b
vsync_whole plan timelines layers report a b wrote = record { shown = wrote.shown; due = wrote.due; written = part_whole a b (records_by timelines report wrote.shown) wrote.written }

pub if_ok : {T E : Type 0} (P Q : T → Type 0) (r : Result T E) → ((x : T) → P x → Q x) → IfOk r P → IfOk r Q
if_ok P Q (Ok x) f p = f x p
if_ok P Q (Err e) f p = tt

-- what is due where something was committed
pub some_due : {A B : Type 0} (R : A → B → Type 0) (shows : Bool) (xs : List A) (ys : List B) → shows ≡ true → AllZip R xs ys → AllZip R (if shows then xs else []) ys
some_due R true xs ys met zip = zip
some_due R false xs ys met zip = absurd (false≢true met)

pub none_due : {A B : Type 0} (R : A → B → Type 0) (shows : Bool) (xs : List A) → shows ≡ false → AllZip R (if shows then xs else []) []
none_due R false xs unmet = tt
none_due R true xs unmet = absurd (false≢true (sym unmet))

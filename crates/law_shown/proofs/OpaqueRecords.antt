-- The images in the records of a run are opaque.
use Rattle.std.proofs.Common.{◌≡◌, ℕ, ◌+◌, Bool, true, false, List, [], ◌∷◌, ◌++◌, map, refl, sym, ap, subst, ◌∙◌, pos, ℤ}
use Rattle.std.specs.Prelude.{All, if◌then◌else◌}
use Rattle.std.specs.List.{AllByRecursion, flat_map, list_any, range_with_len}
use Rattle.std.proofs.lemmas.List.Elements.{All-cons, All-from_recursion, All-append, recursion_from_All}
use Rattle.sf_base.specs.declared.pixel.Rgba.{Rgba}
use Rattle.law_played.specs.sf_compose.Frames.{four_bytes, frame_bytes, row_bytes}
use Rattle.law_played.specs.sf_commit.Rounds.{Round}
use Rattle.law_played.specs.sf_actor.Makers.{Run}
use Rattle.law_played.specs.sf_actor.Names.{FrameOf}
use Rattle.law_played.specs.sf_actor.Scripts.{picture_at}
use Rattle.law_played.specs.sf_layer.declared.layer.Layer.{Layer}
use Rattle.law_played.specs.sf_output.Outputs.{map_output}
use Rattle.law_played.specs.sf_output.declared.image.ImageId.{ImageId}
use Rattle.law_played.specs.sf_output.declared.image.ImageId.TheVariants as id
use Rattle.law_played.specs.sf_output.declared.output.Output.{Output}
use Rattle.law_played.specs.sf_output.declared.output.Output.TheVariants as out
use Rattle.law_played.specs.sf_output_plan.Due.{ImageDue, outputs_due}
use Rattle.law_played.specs.sf_output_plan.declared.plan.Plan.{Plan}
use Rattle.law_played.specs.sf_picture.declared.picture.Picture.{Picture}
use Rattle.law_played.specs.sf_record.Events.{closing, event_records, events_records, image_record, output_record, vsync_records}
use Rattle.law_played.specs.sf_record.declared.event.Event.{Event}
use Rattle.law_played.specs.sf_record.declared.event.Event.TheVariants as event
use Rattle.law_played.specs.sf_record.declared.event.VsyncRecords.{VsyncRecords}
use Rattle.law_played.specs.sf_record.declared.record.ArrivalEntry.{ArrivalEntry}
use Rattle.law_played.specs.sf_record.declared.record.CommitRecord.{CommitRecord}
use Rattle.law_played.specs.sf_record.declared.record.HeldEntry.{HeldEntry}
use Rattle.law_played.specs.sf_record.declared.record.QueueHistory.{QueueHistory}
use Rattle.law_played.specs.sf_record.declared.record.Record.{Record}
use Rattle.law_played.specs.sf_record.declared.record.Record.TheVariants as rec
use Rattle.law_played.specs.sf_record.declared.record.StuckEntry.{StuckEntry}
use Rattle.law_played.specs.sf_script_scene.Scene.{SceneValue}
use Rattle.law_played.specs.sf_token.Pending.{Arrival}
use Rattle.law_played.specs.sf_tree.Trees.{TreeOf}
use Rattle.law_played.specs.sf_view.Image.{image_in}
use Rattle.law_played.specs.Frames.{ShowsImage, frame_of, is_done, plan_of, shown_after, shown_due}
use Rattle.law_played.specs.Played.{PlayedWhere, opening, records_of, vsyncs_told}
use Rattle.law_played.specs.Stages.{VsyncAt, bare_round, begun, ended, round_after, told_from}
use Rattle.law_played.specs.Vsyncs.{vsync_in, vsyncs_in}
use Rattle.law_images.proofs.OpaqueImages.{image_opaque}
use Rattle.law_shown.specs.Opaque.{HasOpaqueImage, IsOpaque}

joined : (xs ys : List ℕ) → IsOpaque xs → IsOpaque ys → IsOpaque (xs ++ ys)
joined [] ys p q = q
joined (r ∷ []) ys p q = absurd p
joined (r ∷ g ∷ []) ys p q = absurd p
joined (r ∷ g ∷ b ∷ []) ys p q = absurd p
joined (r ∷ g ∷ b ∷ a ∷ xs) ys p q = (p.0, joined xs ys p.1 q)

row_opaque : (at : ℕ → Rgba) (places : List ℕ) → ((x : ℕ) → (at x).a ≡ 255) → IsOpaque (flat_map (λ x. four_bytes (at x)) places)
row_opaque at [] opaque = tt
row_opaque at (x ∷ places) opaque = (opaque x, row_opaque at places opaque)

rows_opaque : (row : ℕ → List ℕ) (places : List ℕ) → ((y : ℕ) → IsOpaque (row y)) → IsOpaque (flat_map row places)
rows_opaque row [] opaque = tt
rows_opaque row (y ∷ places) opaque = joined (row y) (flat_map row places) (opaque y) (rows_opaque row places opaque)

frame_opaque : (pictures : ℕ → Picture) (due : ImageDue) → IsOpaque (frame_of pictures due)
unfolding frame_of frame_bytes row_bytes
frame_opaque pictures due =
    rows_opaque (λ y. flat_map (λ x. four_bytes (image_in pictures due.layers due.order (pos x) (pos y))) (range_with_len 0 due.width)) (range_with_len 0 due.height)
    (λ y. row_opaque (λ x. image_in pictures due.layers due.order (pos x) (pos y)) (range_with_len 0 due.width) (λ x. image_opaque pictures due.layers due.order (pos x) (pos y)))

record_opaque : (of : ImageId) (number : ℕ) (pixels : List ℕ) → IsOpaque pixels → HasOpaqueImage (image_record of number pixels)
record_opaque id.Frame number pixels opaque = opaque
record_opaque (id.Display output) number pixels opaque = opaque
record_opaque (id.Capture output) number pixels opaque = opaque

output_opaque : (pictures : ℕ → Picture) (number : ℕ) (one : Output ImageDue) → HasOpaqueImage (output_record number (map_output (frame_of pictures) one))
output_opaque pictures number (out.Image image) = record_opaque image.of number (frame_of pictures image.shows) (frame_opaque pictures image.shows)
output_opaque pictures number (out.Hit place layer) = tt

due_opaque : (pictures : ℕ → Picture) (number : ℕ) (dues : List (Output ImageDue)) → AllByRecursion HasOpaqueImage (map (output_record number) (map (map_output (frame_of pictures)) dues))
due_opaque pictures number [] = tt
due_opaque pictures number (one ∷ dues) = (output_opaque pictures number one, due_opaque pictures number dues)

shown_opaque : (scene : SceneValue) (number : ℕ) (commits : List CommitRecord) (tree : TreeOf) → AllByRecursion HasOpaqueImage (map (output_record number) (shown_after scene commits tree))
unfolding shown_due
shown_opaque scene number commits tree = by (list_any is_done commits)
  where
    by : (b : Bool) → AllByRecursion HasOpaqueImage (map (output_record number) (if b then shown_due (picture_at scene.pictures) (plan_of scene) tree.layers else []))
    by true = due_opaque (picture_at scene.pictures) number (outputs_due (plan_of scene) tree.layers)
    by false = tt

-- a vsync shows opaque images
abbrev pub ShowsOpaque : VsyncRecords → Type 0
ShowsOpaque vsync = AllByRecursion HasOpaqueImage (map (output_record vsync.number) vsync.shown)

one_opaque : (scene : SceneValue) (vsync : VsyncRecords) (tree : TreeOf) → vsync.shown ≡ shown_after scene vsync.commits tree → ShowsOpaque vsync
one_opaque scene vsync tree shown = subst (λ (shown : List (Output (List ℕ))). AllByRecursion HasOpaqueImage (map (output_record vsync.number) shown)) (sym shown) (shown_opaque scene vsync.number vsync.commits tree)

told_opaque : (scene : SceneValue) (arrivals : List (Arrival FrameOf)) (round : Round FrameOf) (vsyncs : List VsyncRecords)
    → AllByRecursion (ShowsImage scene) (told_from arrivals round vsyncs) → AllByRecursion ShowsOpaque vsyncs
unfolding told_from
told_opaque scene arrivals round [] shows = tt
told_opaque scene arrivals round (vsync ∷ later) shows =
    let next : Round FrameOf = ended (round_after arrivals (begun round) vsync.commits) in
    (one_opaque scene vsync next.stage.tree shows.0, told_opaque scene arrivals next later shows.1)

both : (xs ys : List Record) → AllByRecursion HasOpaqueImage xs → AllByRecursion HasOpaqueImage ys → AllByRecursion HasOpaqueImage (xs ++ ys)
both [] ys p q = q
both (x ∷ xs) ys p q = (p.0, both xs ys p.1 q)

commits_plain : (commits : List CommitRecord) → AllByRecursion HasOpaqueImage (map rec.Comm commits)
commits_plain [] = tt
commits_plain (commit ∷ commits) = (tt, commits_plain commits)

histories_plain : (histories : List QueueHistory) → AllByRecursion HasOpaqueImage (map rec.Hist histories)
histories_plain [] = tt
histories_plain (history ∷ histories) = (tt, histories_plain histories)

events_opaque : (events : List Event) → AllByRecursion ShowsOpaque (flat_map vsync_in events) → AllByRecursion HasOpaqueImage (flat_map event_records events)
events_opaque [] shows = tt
events_opaque (event.Reply reply ∷ events) shows = (tt, events_opaque events shows)
events_opaque (event.Vsync vsync ∷ events) shows =
    both (vsync_records vsync) (flat_map event_records events)
    (tt, both (map rec.Comm vsync.commits) (map (output_record vsync.number) vsync.shown) (commits_plain vsync.commits) shows.0)
    (events_opaque events shows.1)

closing_plain : (arrived : List ArrivalEntry) (histories : List QueueHistory) (held : List HeldEntry) (stuck : List StuckEntry) → AllByRecursion HasOpaqueImage (closing arrived histories held stuck)
closing_plain arrived histories held stuck = (tt, both (map rec.Hist histories) (rec.Hold held ∷ rec.Stuk stuck ∷ rec.Done ∷ []) (histories_plain histories) (tt, (tt, (tt, tt))))

pub opaque_records : (tells : Bool) (scene : SceneValue) (records : List Record) → PlayedWhere tells scene records → All HasOpaqueImage records
unfolding events_records vsyncs_in
opaque_records tells scene records played =
    let shows = played.shows in
    let told = told_opaque scene played.arrivals (bare_round scene) (vsyncs_in shows.events) (recursion_from_All (ShowsImage scene) (vsyncs_told scene played.arrivals shows.events) played.fits.frames) in
    let all : AllByRecursion HasOpaqueImage (records_of scene shows) =
    both (opening scene ∷ events_records shows.events) (closing shows.arrived shows.histories shows.held shows.stuck)
    (tt, events_opaque shows.events told) (closing_plain shows.arrived shows.histories shows.held shows.stuck) in
    All-from_recursion HasOpaqueImage records (subst (AllByRecursion HasOpaqueImage) (sym played.order) all)

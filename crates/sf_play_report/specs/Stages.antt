-- What is there to be shown: the layers, and the buffers on them with their pictures.
use Rattle.std.specs.Prelude.{◌≡◌, ℕ, ◌<◌, ◌≤◌, Bool, ◌==◌, List, get_or, length, map}
use Rattle.std.specs.List.{All, AllZip, list_any}
use Rattle.law_played.specs.sf_commit.Handlers.{HandlerOf}
use Rattle.law_played.specs.sf_commit.OnLayers.{OnLayer}
use Rattle.law_played.specs.sf_commit.Standing.{Stands}
use Rattle.law_played.specs.sf_commit.declared.vsync.Commit.{Commit}
use Rattle.law_played.specs.sf_compose.Readings.{AreReadable}
use Rattle.law_played.specs.sf_compose.Sources.{HasSources}
use Rattle.law_played.specs.sf_output.Outputs.{IsOutput, OfImage}
use Rattle.law_played.specs.sf_output.declared.output.Output.{Output}
use Rattle.law_played.specs.sf_picture.declared.picture.Picture.{Picture}
use Rattle.law_played.specs.sf_output_plan.Due.{ImageDue, IsPlan, ShowsDue, outputs_due}
use Rattle.law_played.specs.sf_output_plan.declared.plan.Plan.{Plan}
use Rattle.law_played.specs.sf_tree.Trees.{TreeOf}
use Rattle.law_played.specs.sf_txn.Buffers.{Shows}
use Rattle.law_played.specs.sf_view.Views.{ViewOf}
use Rattle.law_played.specs.sf_view.declared.content.Content.{Content}
use Rattle.law_played.specs.sf_view.declared.content.Content.TheVariants as content
use Rattle.law_played.specs.sf_view.declared.drawn.Drawn.{Drawn}
use Rattle.sf_play_report.specs.declared.sourced.SourcedView.{SourcedView}

-- a transaction was committed, and not rejected
abbrev pub is_accepted : Commit → Bool
is_accepted commit = commit.cause == 0

abbrev pub shows_frame : List Commit → Bool
shows_frame commits = list_any is_accepted commits

module _ {L : Type 0} where
  -- the buffer that a content shows, if it shows one, is on a layer
  abbrev pub ShowsOn : List (OnLayer L) → Content → Type 0
  ShowsOn on (content.Colour _) = Unit {0}
  ShowsOn on (content.Buffer shown) = (place : ℕ) × (place < length on) × ((d : OnLayer L) → (get_or on place d).shown ≡ shown)

  abbrev pub AllShowOn : List (OnLayer L) → List Drawn → Type 0
  AllShowOn on drawn = All (λ (one : Drawn). ShowsOn on one.content) drawn

  -- the place of the buffer that a content shows, if it shows one, among those on layers
  abbrev pub IsSourceOf : List (OnLayer L) → Content → ℕ → Type 0
  IsSourceOf on (content.Colour _) source = Unit {0}
  IsSourceOf on (content.Buffer shown) source = (source < length on) × ((d : OnLayer L) → (get_or on source d).shown ≡ shown)

  abbrev pub AreSourcesOf : List (OnLayer L) → List Drawn → List ℕ → Type 0
  AreSourcesOf on drawn sources = AllZip (λ (one : Drawn) (source : ℕ). IsSourceOf on one.content source) drawn sources

  -- a view with the places of its buffers
  pub record IsSourcedBy (on : List (OnLayer L)) (view : ViewOf) (sourced : SourcedView) : Type 0 where
    pub same : sourced.view ≡ view
    pub sources : AreSourcesOf on view.drawn sourced.sources

  -- a view of an output due, with the places of its buffers
  pub record IsSourcedDue (on : List (OnLayer L)) (due : ImageDue) (sourced : SourcedView) : Type 0 where
    pub shows : ShowsDue due sourced.view
    pub sources : AreSourcesOf on sourced.view.drawn sourced.sources

module _ {L : Type 0} (expects : OnLayer L → Picture) where
  -- What there is to show by a plan after a vsync: each layer shows the one buffer that stands for it, whose crop lies in its picture.
  pub record IsStage (plan : Plan) (handler : HandlerOf L) : Type 0 where
    pub planned : IsPlan plan
    pub few : length handler.tree.layers ≤ 1024
    pub stands : Stands handler.tree.layers handler.on
    pub crops : All (λ (one : OnLayer L). Shows one.shown (expects one)) handler.on

  -- each buffer on a layer has the picture that its number stands for
  abbrev pub AreExpected : (ℕ → Picture) → HandlerOf L → Type 0
  AreExpected pictures handler = All (λ (one : OnLayer L). expects one ≡ pictures one.shown.picture) handler.on

-- a view can be composed from the contents; and each of its layers finds the picture of its number there
abbrev pub IsReadableView : List Picture → SourcedView → Type 0
IsReadableView contents sourced = AreReadable contents sourced.view.drawn sourced.sources

abbrev pub FindsPictures : (ℕ → Picture) → List Picture → SourcedView → Type 0
FindsPictures pictures contents sourced = HasSources pictures sourced.view contents sourced.sources

-- What is to be composed, place by place the outputs due.
pub record AreSourced (plan : Plan) (tree : TreeOf) (contents : List Picture) (views : List (Output SourcedView)) : Type 0 where
  pub due : AllZip (IsOutput (λ (due : ImageDue) (sourced : SourcedView). ShowsDue due sourced.view)) (outputs_due plan tree.layers) views
  pub readable : All (OfImage (IsReadableView contents)) views

-- each layer of each of these views finds its picture among those of the buffers on layers
abbrev pub AllFindPictures : {L : Type 0} → (OnLayer L → Picture) → (ℕ → Picture) → HandlerOf L → List (Output SourcedView) → Type 0
AllFindPictures expects pictures handler views = All (OfImage (FindsPictures pictures (map expects handler.on))) views

-- whatever pictures the numbers of the buffers on layers stand for, each layer of each of these views finds its own
abbrev pub AllFindExpected : {L : Type 0} → (OnLayer L → Picture) → HandlerOf L → List (Output SourcedView) → Type 0
AllFindExpected expects handler views =
    (pictures : ℕ → Picture) → AreExpected expects pictures handler → AllFindPictures expects pictures handler views

-- What is known of leases along a vsync, and what its looks and its releases tell of their frames.
use Rattle.std.proofs.Common.{◌≡◌, ℕ, Bool, true, false, List, [], ◌∷◌, ◌++◌, map, refl, ap, sym, ◌∙◌, subst}
use Rattle.std.specs.List.{All, AllZip, flat_map}
use Rattle.std.proofs.lemmas.List.{append-nil}
use Rattle.std.proofs.lemmas.List.Concat.{flat_map-append}
use Rattle.std.proofs.lemmas.List.Elements.{All-append, All-cons, All-head, All-nil, All-tail}
use Rattle.sf_base.specs.declared.fences.Seen.{Seen}
use Rattle.sf_actor.specs.sf_surface.Reading.{plain_lease}
use Rattle.sf_actor.specs.sf_surface.Tokens.{ReadLeaseOf}
use Rattle.sf_commit.specs.sf_token.Loads.{AllLeases, IsLookedArrival}
use Rattle.sf_commit.specs.sf_token.Pending.{Arrival, is_of}
use Rattle.sf_compose.specs.sf_tree.Trees.{TreeOf}
use Rattle.sf_commit.specs.sf_txn.Buffers.{Buffer}
use Rattle.sf_commit.specs.sf_txn.Leases.{IsLooked, IsLookedBuffer}
use Rattle.sf_commit.specs.sf_txn.declared.lease.Lease.{Ghosts}
use Rattle.sf_commit.proofs.DecideLemmas.{all_left}
use Rattle.sf_commit.proofs.KnownLemmas.{holds_along}
use Rattle.sf_commit.specs.Handlers.{Decides, HandlerOf, begun as begun_by}
use Rattle.sf_commit.specs.Leases.{AllOn, HandsBack, IsReleaseOf}
use Rattle.sf_commit.specs.OnLayers.{OnLayer, shown_on}
use Rattle.sf_commit.specs.Releases.{ReleaseOf, CommittedOf}
use Rattle.sf_commit.specs.Rounds.{Leads, Round, committed}
use Rattle.sf_script_scene.specs.Scene.{SceneValue}
use Rattle.sf_actor.specs.Known.{frame_of, plain_arrival}
use Rattle.sf_actor.specs.Names.{FrameOf}
use Rattle.sf_actor.specs.Written.{FrameNumber}
use Rattle.sf_record.specs.declared.event.VsyncRecords.{VsyncRecords}
use Rattle.law_played.specs.Commits.{is_written}
use Rattle.law_played.specs.Frames.{ShowImages, ShowsImage, shown_after}
use Rattle.law_played.specs.Framing.{framed_arrival, framed_on}
use Rattle.law_played.specs.Histories.{released_at, released_in}
use Rattle.law_played.specs.Progress.{GivesBack, GoesOnBy, ShowsWhatIsWritten, WroteWhatShows, released_by}
use Rattle.law_played.specs.Stages.{VsyncAt}

module _ {L E R C : Type 0} (lease : Ghosts L E R C) (P : L → Type 0) (stays : (old new : L) → IsLooked lease old new → P old → P new) where
  abbrev HasAll : Arrival L → Type 0
  HasAll a = All (λ (b : Buffer L). P b.lease) a.txn.buffers

  buffers_have : (old new : List (Buffer L)) → AllZip (IsLookedBuffer lease) old new → All (λ (b : Buffer L). P b.lease) old → All (λ (b : Buffer L). P b.lease) new
  buffers_have [] [] zip all = All-nil (λ (b : Buffer L). P b.lease)
  buffers_have [] (n ∷ ns) zip all = absurd zip
  buffers_have (o ∷ os) [] zip all = absurd zip
  buffers_have (o ∷ os) (n ∷ ns) zip all =
      All-cons (λ (b : Buffer L). P b.lease) n ns (stays o.lease n.lease zip.0.looked (All-head (λ (b : Buffer L). P b.lease) o os all))
      (buffers_have os ns zip.1 (All-tail (λ (b : Buffer L). P b.lease) o os all))

  arrivals_have : (old new : List (Arrival L)) → AllZip (IsLookedArrival lease) old new → AllLeases P old → AllLeases P new
  arrivals_have [] [] zip all = All-nil HasAll
  arrivals_have [] (n ∷ ns) zip all = absurd zip
  arrivals_have (o ∷ os) [] zip all = absurd zip
  arrivals_have (o ∷ os) (n ∷ ns) zip all =
      All-cons HasAll n ns (buffers_have o.txn.buffers n.txn.buffers zip.0.buffers (All-head HasAll o os all)) (arrivals_have os ns zip.1 (All-tail HasAll o os all))

  waiting_have : (drawn : L → Bool) (seen : Seen) (expected : ℕ) (r end : Round L) (taken : List (Arrival L)) → Leads drawn seen expected r taken end → AllLeases P r.pending → AllLeases P end.pending
  waiting_have drawn seen expected r end [] leads all = subst (λ (x : Round L). AllLeases P x.pending) (sym leads) all
  waiting_have drawn seen expected r end (a ∷ later) leads all = waiting_have drawn seen expected (committed r a) end later leads.1 (all_left HasAll (is_of a.txn.token) r.pending all)

  shown_have : (on : List (OnLayer L)) → AllOn P on → AllOn P (map shown_on on)
  shown_have [] all = All-nil (λ (one : OnLayer L). P one.lease)
  shown_have (one ∷ on) all =
      All-cons (λ (one : OnLayer L). P one.lease) (shown_on one) (map shown_on on) (All-head (λ (one : OnLayer L). P one.lease) one on all)
      (shown_have on (All-tail (λ (one : OnLayer L). P one.lease) one on all))

  -- what holds of the leases that a handler has and of those that arrive, looks keep it, holds of all that it has then, and of what goes
  pub leases_have : (old new : HandlerOf L) (eye later : E) (arrived : List (Arrival L)) (seen : Seen) (expected : ℕ) (told : CommittedOf L)
      → (d : Decides lease old eye arrived seen expected told new later) → AllLeases P old.pending → AllLeases P arrived → AllOn P old.on
      → AllLeases P d.looked × AllLeases P new.pending × AllOn P new.on × AllOn P d.end.stage.gone
  leases_have old new eye later arrived seen expected told d waits brought on =
      let looked = arrivals_have (old.pending ++ arrived) d.looked d.looks (All-append HasAll old.pending arrived waits brought) in
      let holds = holds_along lease.shown seen expected (λ (one : OnLayer L). P one.lease) (begun_by old d.looked) d.end d.decided.taken d.decided.leads (record {
        on = on;
        gone = All-nil (λ (one : OnLayer L). P one.lease);
        waits = λ k a h j b g drawn. looked k a h j b g;
      }) in (
        looked,
        subst (λ (h : HandlerOf L). AllLeases P h.pending) (sym d.settled.state) (waiting_have lease.shown seen expected (begun_by old d.looked) d.end d.decided.taken d.decided.leads looked),
        subst (λ (h : HandlerOf L). AllOn P h.on) (sym d.settled.state) (shown_have d.end.stage.on holds.on),
        holds.gone,
      )

module _ {L E R C : Type 0} (lease : Ghosts L E R C) (frame : L → FrameOf) (written : List FrameNumber) (old new : HandlerOf L) (eye later : E) (arrived : List (Arrival L)) (seen : Seen)
    (expected : ℕ) (told : CommittedOf L) (d : Decides lease old eye arrived seen expected told new later) where
  pub looks_tell : AllLeases (λ l. lease.knows later l → is_written written (frame l) ≡ true) d.looked → WroteWhatShows frame lease.shown written d.looked
  looks_tell known k a h j b g drawn = known k a h j b g ((d.shown k a h j b g).known drawn)

  pub looks_tell_all : lease.is_exact (lease.mark eye) ≡ true → AllLeases (λ l. lease.tells (lease.ends eye) (lease.end l) ≡ is_written written (frame l)) d.looked
      → ShowsWhatIsWritten frame lease.shown written d.looked
  looks_tell_all exact all k a h j b g = (d.shown k a h j b g).exact exact ∙ all k a h j b g

module _ {L E R C : Type 0} (lease : Ghosts L E R C) (frame : L → FrameOf) (plain : (a b : L) → lease.plain a ≡ lease.plain b → frame a ≡ frame b) where
  one_back : (on : OnLayer L) (release : ReleaseOf L) → IsReleaseOf lease on release → GivesBack frame (framed_on frame on) release
  one_back on release is = record { queue = is.queue; number = is.frame; lease = by_read on.is_read is.handed; fence = is.fence }
    where
      by_read : (b : Bool) → HandsBack lease b on.lease release.lease → frame release.lease ≡ frame on.lease
      by_read true back = plain release.lease on.lease back.0
      by_read false back = ap frame back

  pub all_back : (gone : List (OnLayer L)) (releases : List (ReleaseOf L)) → AllZip (IsReleaseOf lease) gone releases → AllZip (GivesBack frame) (map (framed_on frame) gone) releases
  all_back [] [] zip = tt
  all_back [] (r ∷ rs) zip = absurd zip
  all_back (g ∷ gs) [] zip = absurd zip
  all_back (g ∷ gs) (r ∷ rs) zip = (one_back g r zip.0, all_back gs rs zip.1)

-- one vsync more
pub releases_go_on : (told later : List VsyncAt) (vsync : VsyncRecords) (tree : TreeOf) (gone : List (OnLayer FrameOf)) → GoesOnBy told later vsync tree gone
    → released_in later ≡ released_in told ++ released_by vsync gone
unfolding released_in
releases_go_on told later vsync tree gone goes =
    ap (flat_map released_at) goes.joined
    ∙ (flat_map-append released_at told (goes.at ∷ [])
    ∙ (ap (λ rest. flat_map released_at told ++ rest) (append-nil (released_at goes.at))
    ∙ (λ i. flat_map released_at told ++ released_by (goes.report i) (goes.goes i))))

pub images_go_on : (scene : SceneValue) (told later : List VsyncAt) (vsync : VsyncRecords) (tree : TreeOf) (gone : List (OnLayer FrameOf)) → GoesOnBy told later vsync tree gone
    → ShowImages scene told → vsync.shown ≡ shown_after scene vsync.commits tree → ShowImages scene later
images_go_on scene told later vsync tree gone goes images shows =
    subst (All (ShowsImage scene)) (sym goes.joined) (All-append (ShowsImage scene) told (goes.at ∷ []) images (All-cons (ShowsImage scene) goes.at [] here (All-nil (ShowsImage scene))))
  where
    here : ShowsImage scene goes.at
    here =
        ap (λ (v : VsyncRecords). v.shown) goes.report
        ∙ (shows ∙ (λ i. shown_after scene (sym goes.report i).commits (sym goes.leaves i)))

pub plain_frame : (a b : ReadLeaseOf) → plain_lease a ≡ plain_lease b → frame_of a ≡ frame_of b
plain_frame a b same =
    λ i. let l = same i in (l.queue, record { slot = l.slot; frame = l.frame; held = l.held; picture = l.picture; crop = l.crop; fence = l.fence })

pub plain_arrivals : (arrived : List (Arrival ReadLeaseOf)) → map (framed_arrival frame_of) arrived ≡ map plain_arrival arrived
plain_arrivals arrived = refl

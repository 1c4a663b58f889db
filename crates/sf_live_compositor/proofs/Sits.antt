-- A log of vsyncs goes on by one.
use Rattle.std.proofs.Common.{◌≡◌, ℕ, List, [], ◌∷◌, ◌++◌, Option, ap, ◌∙◌, sym, subst}
use Rattle.std.proofs.lemmas.List.{append-nil}
use Rattle.std.proofs.lemmas.List.Concat.{flat_map-append}
use Rattle.std.proofs.lemmas.List.Elements.{All-cons, All-head, All-nil, All-tail}
use Rattle.atomic_table.specs.Seated.{TableId}
use Rattle.sf_live_threads.specs.sf_picture.declared.picture.Picture.{Picture}
use Rattle.sf_play_write.specs.sf_output_plan.declared.plan.Plan.{Plan}
use Rattle.sf_play_write.specs.sf_record.declared.record.Record.{Record}
use Rattle.sf_play_write.specs.sf_play_report.Stages.{AreExpected}
use Rattle.sf_play_write.specs.sf_output_screen.declared.screens.OutputScreen.{OutputScreen}
use Rattle.sf_live_threads.specs.sf_surface.Tokens.{Issued, ReadLeaseOf}
use Rattle.sf_live_threads.specs.sf_turns.Views.{SeatView}
use Rattle.sf_live_threads.specs.sf_txn.declared.lease.Lease.{Ghosts}
use Rattle.sf_live_threads.specs.sf_live_seats.declared.locks.Locks.{Locks}
use Rattle.sf_play_write.specs.sf_play.Playing.{expected_by}
use Rattle.sf_play_write.specs.Vsyncs.{vsync_shown}
use Rattle.sf_play_write.specs.Writing.{Writes}
use Rattle.sf_play_write.proofs.WritingLemmas.{writes_more}
use Rattle.sf_live_compositor.specs.Sitting.{AreFound, Showing, ShowsVsync, Sits, records_shown, showing_of, showings_of}
use Rattle.sf_live_compositor.specs.Vsyncs.{More, Sitting}

abbrev IsFound : (ℕ → Picture) → Showing → Type 0
IsFound pictures showing = AreExpected expected_by pictures showing.handler

found_split : (pictures : ℕ → Picture) (showings : List Showing) (one : Showing) → AreFound pictures (showings ++ one ∷ []) → AreFound pictures showings × IsFound pictures one
found_split pictures [] one found = (All-nil (IsFound pictures), All-head (IsFound pictures) one [] found)
found_split pictures (s ∷ showings) one found =
    let rest = found_split pictures showings one (All-tail (IsFound pictures) s (showings ++ one ∷ []) found) in
    (All-cons (IsFound pictures) s showings (All-head (IsFound pictures) s (showings ++ one ∷ []) found) rest.0, rest.1)

abbrev one_shown : (ℕ → Picture) → Plan → List ℕ → Showing → List Record
one_shown pictures plan timelines one = vsync_shown pictures plan timelines one.report one.handler.tree.layers

records_more : (pictures : ℕ → Picture) (plan : Plan) (timelines : List ℕ) (showings : List Showing) (one : Showing)
    → records_shown pictures plan timelines (showings ++ one ∷ []) ≡ records_shown pictures plan timelines showings ++ one_shown pictures plan timelines one
records_more pictures plan timelines showings one =
    flat_map-append (one_shown pictures plan timelines) showings (one ∷ [])
    ∙ ap (λ (rs : List Record). records_shown pictures plan timelines showings ++ rs) (append-nil (one_shown pictures plan timelines one))

module _ {B : Type 0} (lease : Ghosts ReadLeaseOf SeatView ReadLeaseOf Issued) (table : TableId) (locks : Locks B) (period : ℕ) (plan : Plan) (most : ℕ) (timelines : List ℕ) (before now later : Option (List ℕ))
    (screens shown : List OutputScreen) (old new : Sitting B) where
  pub sits_more : Sits lease table locks period plan most timelines before now screens old → ShowsVsync lease table locks period plan timelines now later screens shown old new
      → Sits lease table locks period plan most timelines before later shown new
  sits_more sits shows =
      let one = showing_of lease table locks period shows.vsync in
      let told = showings_of lease table locks period sits.log in
      record {
        start = sits.start;
        fresh = sits.fresh;
        log = More sits.log shows.vsync;
        written = λ pictures found.
            let split = found_split pictures told one found in
            let was = sits.written pictures split.0 in
            let then = shows.written pictures split.1 was.1 in (
              subst (Writes before later) (sym (records_more pictures plan timelines told one))
                  (writes_more before now later (records_shown pictures plan timelines told) (one_shown pictures plan timelines one) was.0 then.0),
              then.1,
            );
        told = (now, sits.told, shows.told);
      }

-- of the same timelines
pub shows_by : {B : Type 0} (lease : Ghosts ReadLeaseOf SeatView ReadLeaseOf Issued) (table : TableId) (locks : Locks B) (period : ℕ) (plan : Plan) (before now : Option (List ℕ)) (screens shown : List OutputScreen)
    (old new : Sitting B) (some others : List ℕ) → some ≡ others → ShowsVsync lease table locks period plan some before now screens shown old new
    → ShowsVsync lease table locks period plan others before now screens shown old new
shows_by lease table locks period plan before now screens shown old new some others same shows =
    subst (λ (timelines : List ℕ). ShowsVsync lease table locks period plan timelines before now screens shown old new) same shows

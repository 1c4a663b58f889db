-- What is written of a whole play, from its first record to the last one.
use Rattle.std.proofs.Common.{◌≡◌, ℕ, List, [], ◌∷◌, ◌++◌, Option, Result, Ok, Err, ap, sym, subst, OnErr, OnOk}
use Rattle.std.proofs.lemmas.List.Elements.{All-nil}
use Rattle.atomic_table.specs.Seated.{TableId}
use Rattle.sf_play.specs.sf_actor.Scripts.{picture_at}
use Rattle.sf_output_screen.specs.Screens.{IsShown}
use Rattle.sf_output_screen.specs.declared.screens.OutputScreen.{OutputScreen}
use Rattle.sf_play.specs.sf_script_scene.Limits.{IsWithinLimits}
use Rattle.sf_play.specs.sf_script_scene.Scene.{SceneValue}
use Rattle.sf_play.specs.sf_record.Events.{events_records}
use Rattle.sf_play.specs.sf_record.declared.encode.RunFault.{RunFault}
use Rattle.sf_play.specs.sf_record.declared.event.Event.{Event}
use Rattle.sf_play.specs.sf_record.declared.record.Record.{Record}
use Rattle.sf_play.proofs.law_played_lemmas.PlayEnds.{has_records}
use Rattle.sf_play.specs.law_played.Played.{opening}
use Rattle.sf_play.specs.law_played.Plays.{first_playing, stays}
use Rattle.sf_play.specs.Going.{records_so}
use Rattle.sf_play.specs.Players.{PlayerOf}
use Rattle.sf_play_write.specs.Closings.{closing_of}
use Rattle.sf_play_write.specs.declared.shows.Shows.{Shows}
use Rattle.sf_play_write.specs.Runs.{CutRun, WroteRun}
use Rattle.sf_play_write.specs.Showing.{written_at}
use Rattle.sf_play_write.specs.inner.Rows.{HasWritten, IsReady, IsWriting}
use Rattle.sf_play_write.specs.Writing.{Writes, WritesPart}
use Rattle.sf_play_write.proofs.ClosingLemmas.{closing_is}
use Rattle.sf_play_write.proofs.ActionLemmas.{cut_so_far}
use Rattle.sf_play_write.proofs.WritingLemmas.{part_more, part_none, writes_more}

-- nothing was shown: only the first record is there
first_alone : (scene : SceneValue) (first : Record) (events : List Event) → first ≡ opening scene → events ≡ [] → first ∷ [] ≡ opening scene ∷ events_records events
unfolding events_records
first_alone scene first events opens none = (λ i. opens i ∷ events_records (sym none i))

-- nothing was written of a play, whose first record is still to come
pub nothing_written : (scene : SceneValue) (a : Option (List ℕ)) → IsWithinLimits scene → CutRun scene a a
nothing_written scene a limits =
    let begins = has_records scene (first_playing scene) limits stays in
    record { records = begins.0; is_play = begins.1; written = part_none a begins.0 }

module _ {B : Type 0} (table : TableId) (scene : SceneValue) (shows : Shows) (first : Record) (player : PlayerOf B) (ready : IsReady table scene shows first player) where
  -- the first record was written
  pub has_begun : (a b : Option (List ℕ)) → Writes a b (first ∷ []) → IsWriting table scene shows a (written_at b [] player)
  has_begun a b written = record {
    so = ready.begins.so;
    stands = ready.begins.stands;
    asked = ready.asked;
    written = subst (Writes a b) (first_alone scene first ready.begins.so.events ready.opens ready.begins.nothing) written;
    shown = All-nil (λ (one : OutputScreen). IsShown (picture_at scene.pictures) one.screen);
  }

  pub first_cut : (a b : Option (List ℕ)) → WritesPart a b (first ∷ []) → CutRun scene a b
  first_cut a b part =
      cut_so_far table scene a b ready.begins.so player ready.begins.stands (subst (WritesPart a b) (first_alone scene first ready.begins.so.events ready.opens ready.begins.nothing) part)

module _ {B : Type 0} (table : TableId) (scene : SceneValue) (a b c : Option (List ℕ)) (player : PlayerOf B) (has : HasWritten table scene a b player) where
  all_records : (opening scene ∷ events_records has.so.events) ++ closing_of player ≡ records_so scene has.so player
  all_records = ap (λ (rs : List Record). (opening scene ∷ events_records has.so.events) ++ rs) (closing_is table scene has.so player has.stands.in_run)

  -- the closing records were written behind all others, or a part of them
  pub run_written : (r : Result (Unit {0}) RunFault) → OnOk r (Writes b c (closing_of player)) → OnOk r (WroteRun scene a c)
  run_written (Ok u) last =
      let written = subst (Writes a c) all_records (writes_more a b c (opening scene ∷ events_records has.so.events) (closing_of player) has.written last) in
      record { records = records_so scene has.so player; is_play = has.ends.are; means = has.ends.means written.fits; written = written }
  run_written (Err e) last = tt

  pub run_cut : (r : Result (Unit {0}) RunFault) → OnErr r (WritesPart b c (closing_of player)) → OnErr r (CutRun scene a c)
  run_cut (Ok u) last = tt
  run_cut (Err e) last = record {
    records = records_so scene has.so player;
    is_play = has.ends.are;
    written = subst (WritesPart a c) all_records (part_more a b c (opening scene ∷ events_records has.so.events) (closing_of player) has.written last);
  }

-- What is written of a run, by its records or by their summary, and what it means.
use Rattle.std.proofs.Common.{◌≡◌, ℕ, Bool, true, false, List, [], ◌∷◌, Option, Some, Result, Ok, Err, OnErr, OnOk, All, refl, subst, sym}
use Rattle.std.specs.Io.KnownBytes.{Appends}
use Rattle.sf_app_options.specs.Options.{is_live}
use Rattle.sf_app_options.specs.declared.options.Run.{Run}
use Rattle.sf_app_options.specs.declared.options.Run.TheVariants as run
use Rattle.sf_script_scene.specs.Scene.{SceneValue}
use Rattle.sf_record_sums.specs.sf_record.Fitting.{RecordFits}
use Rattle.sf_record_sums.specs.sf_record.Records.{bytes_of}
use Rattle.sf_record_sums.specs.sf_record.declared.encode.RunFault.{RunFault}
use Rattle.sf_record_sums.specs.sf_record.declared.record.Record.{Record}
use Rattle.sf_record_sums.specs.sf_record.declared.record.Record.TheVariants as rec
use Rattle.sf_record_sums.specs.sf_record.declared.record.Summary.{Summary}
use Rattle.sf_live.specs.law_play_order.Happening.{HappenedInOrder}
use Rattle.sf_live.specs.sf_play_write.Runs.{CutRun, WroteRun}
use Rattle.sf_live.specs.sf_play_write.Writing.{Writes, WritesPart}
use Rattle.sf_record_sums.specs.Summaries.{summary_of, wrapped}
use Rattle.sf_app.specs.Shown.{Means, ShowsPart, ShowsPlay, ShowsRun, bytes_shown, records_shown}
use Rattle.sf_live.proofs.sf_play_write_lemmas.WritingLemmas.{one_record, part_none}

pub ok_then : {A B : Type 0} (r : Result (Unit {0}) RunFault) → (A → B) → OnOk r A → OnOk r B
ok_then (Ok u) f h = f h
ok_then (Err e) f h = tt

pub err_then : {A B : Type 0} (r : Result (Unit {0}) RunFault) → (A → B) → OnErr r A → OnErr r B
err_then (Ok u) f h = tt
err_then (Err e) f h = f h

-- the records of a play were written
pub run_shows : (scene : SceneValue) (a b : Option (List ℕ)) → WroteRun scene a b → ShowsPlay false scene a b
run_shows scene a b h = record { records = h.records; is_play = h.is_play; means = h.means; written = h.written }

pub run_shows_part : (scene : SceneValue) (a b : Option (List ℕ)) → CutRun scene a b → ShowsPart false scene a b
run_shows_part scene a b h = record { records = h.records; is_play = h.is_play; written = h.written }

-- a summary tells what the records come to that were taken
abbrev pub SumsUp : Summary → List ℕ → Type 0
SumsUp summary taken = (records : List Record) → All RecordFits records → taken ≡ bytes_of records → summary ≡ wrapped (summary_of records)

-- the summary of the records of a play was written
pub sum_shows : (scene : SceneValue) (taken : List ℕ) (summary : Summary) (a b : Option (List ℕ)) → WroteRun scene (Some []) (Some taken) → SumsUp summary taken →
    Writes a b (rec.Summ summary ∷ []) → ShowsPlay true scene a b
sum_shows scene taken summary a b h sums written = record {
  records = h.records;
  is_play = h.is_play;
  means = h.means;
  written = subst (λ (s : Summary). Writes a b (rec.Summ s ∷ [])) (sums h.records h.written.fits h.written.bytes) written;
}

pub sum_shows_part : (scene : SceneValue) (taken : List ℕ) (summary : Summary) (a b : Option (List ℕ)) → WroteRun scene (Some []) (Some taken) → SumsUp summary taken →
    WritesPart a b (rec.Summ summary ∷ []) → ShowsPart true scene a b
sum_shows_part scene taken summary a b h sums written = record {
  records = h.records;
  is_play = h.is_play;
  written = subst (λ (s : Summary). WritesPart a b (rec.Summ s ∷ [])) (sums h.records h.written.fits h.written.bytes) written;
}

-- a play that was cut short shows nothing of its summary
pub cut_shows_nothing : (scene : SceneValue) (a b c : Option (List ℕ)) → CutRun scene a b → ShowsPart true scene c c
cut_shows_nothing scene a b c h = record { records = h.records; is_play = h.is_play; written = part_none c (rec.Summ (wrapped (summary_of h.records)) ∷ []) }

-- the bytes of what is written of records
shown_bytes : (summary : Bool) (records : List Record) (a b : Option (List ℕ)) → Writes a b (records_shown summary records) → Appends a b (bytes_shown summary records)
shown_bytes true records a b h = subst (Appends a b) (sym (one_record (rec.Summ (wrapped (summary_of records))))) h.bytes
shown_bytes false records a b h = h.bytes

-- what was shown of a run shows records that mean what a played run means, in which a sender is told its place or not
pub record ShowsMeaning (r : Run) (summary tells : Bool) (scene : SceneValue) (a b : Option (List ℕ)) : Type 0 where
  pub records : List Record
  pub means : Means r tells scene records
  pub written : Appends a b (bytes_shown summary records)

in_order_told : (tells : Bool) (scene : SceneValue) (records : List Record) → tells ≡ true → HappenedInOrder true scene records → HappenedInOrder tells scene records
in_order_told tells scene records told means = subst (λ (t : Bool). HappenedInOrder t scene records) (sym told) means

pub run_means : (r : Run) (summary tells : Bool) (scene : SceneValue) (a b : Option (List ℕ)) → (is_live r ≡ true → summary ≡ false) → (is_live r ≡ false → tells ≡ true) → ShowsRun r summary tells scene a b
    → ShowsMeaning r summary tells scene a b
run_means run.Play summary tells scene a b unsummed told h =
    record { records = h.records; means = in_order_told tells scene h.records (told refl) h.means; written = shown_bytes summary h.records a b h.written }
run_means run.Gen summary tells scene a b unsummed told h =
    record { records = h.records; means = in_order_told tells scene h.records (told refl) h.means; written = shown_bytes summary h.records a b h.written }
run_means run.Live summary tells scene a b unsummed told h =
    record { records = h.records; means = h.means; written = subst (λ (s : Bool). Appends a b (bytes_shown s h.records)) (sym (unsummed refl)) h.written.bytes }

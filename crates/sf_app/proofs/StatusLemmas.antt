-- Which statuses are left where the words are right, the script is a scene, and nothing failed.
use Rattle.std.proofs.Common.{◌≡◌, ℕ, ◌<◌, ◌≤◌, Bool, true, false, List, [], ◌∷◌, ◌++◌, Option, None, Some, Result, Ok, Err, length, ◌⊎◌, inl, inr, refl, sym, ap, subst, ◌∙◌, arith, length-append, OnErr, OnOk, IsErrOf}
use Rattle.std.specs.Prelude.{◌≢◌}
use Rattle.std.proofs.lemmas.List.{append-nil, take_all}
use Rattle.std.proofs.lemmas.Bool.{cases_eq, lt-ltb}
use Rattle.std.proofs.KnownBytes.{Appends-nil}
use Rattle.std.specs.Io.KnownBytes.{Appends, Consumes, IsAtEnd}
use Rattle.sf_io.specs.Causes.{Rose}
use Rattle.sf_io.specs.Streams.{Took, TookPrefix}
use Rattle.sf_live.specs.Runs.{CutLive, in_rest, in_vsyncs}
use Rattle.sf_live.proofs.CutRuns.{cut_all, cut_nothing as none_cut_live}
use Rattle.sf_app_options.specs.declared.options.Options.{Options}
use Rattle.sf_app_options.specs.declared.options.Run.{Run}
use Rattle.sf_app_options.specs.declared.options.Run.TheVariants as run
use Rattle.sf_script_scene.specs.Limits.{IsWithinLimits}
use Rattle.sf_script_scene.specs.Scene.{SceneValue}
use Rattle.law_generated.specs.sf_script.declared.fault.ScriptFault.{ScriptFault}
use Rattle.law_generated.specs.sf_script.Parse.{parsed_of}
use Rattle.law_generated.proofs.SceneLemmas.{text_is_scene}
use Rattle.sf_record_sums.specs.sf_record.Fitting.{RecordFits}
use Rattle.sf_record_sums.specs.sf_record.declared.encode.RunFault.{RunFault}
use Rattle.sf_record_sums.specs.sf_record.declared.encode.RunFault.TheVariants as run_fault
use Rattle.sf_record_sums.specs.sf_record.declared.record.Record.TheVariants as rec
use Rattle.sf_live.proofs.law_played_lemmas.PlayEnds.{timed_records}
use Rattle.sf_live.proofs.sf_play_write_lemmas.WritingLemmas.{cut_none as none_cut, cut_part, one_part, one_written, part_none as none_of, part_whole as all_as_part, some_cut}
use Rattle.sf_live.specs.sf_play_write.Runs.{CutRun}
use Rattle.sf_live.specs.sf_play_write.Writing.{CutSome}
use Rattle.sf_app.proofs.HeaderLemmas.{IsPeriod, parsed_timed}
use Rattle.sf_app.specs.Shown.{ShowsPart, ShowsPlay, ShowsRun, ShowsRunPart, records_shown}
use Rattle.sf_app.specs.Statuses.{NoScene, PlayedScript, PrefixOf, RefusedScript, RunEnded, ScriptEnded, Spells, WritesPrefix, at_no_place, fault_bytes, misspelled, spells, status_of, too_long, too_long_to_spell}
use Rattle.sf_app.specs.declared.scene.SceneFault.{SceneFault}
use Rattle.sf_app.specs.declared.scene.SceneFault.TheVariants as scene_fault
use Rattle.sf_app.specs.Words.{IsScript, IsScriptBy, IsTold, IsToldBy, generated, is_gen, tells_place}

pub nothing_took : (a : Option (List ℕ)) (bs : List ℕ) → TookPrefix a a bs
nothing_took a bs = (0, omega arith, Appends-nil a)

-- what shows a play whole is a prefix of it
part_whole : (summary : Bool) (scene : SceneValue) (a b : Option (List ℕ)) → ShowsPlay summary scene a b → ShowsPart summary scene a b
part_whole summary scene a b h = record { records = h.records; is_play = h.is_play; written = all_as_part a b (records_shown summary h.records) h.written }

pub run_part_whole : (r : Run) (summary tells : Bool) (scene : SceneValue) (a b : Option (List ℕ)) → ShowsRun r summary tells scene a b → ShowsRunPart r summary tells scene a b
run_part_whole run.Live summary tells scene a b h = cut_all tells scene a b h
run_part_whole run.Play summary tells scene a b h = part_whole summary scene a b h
run_part_whole run.Gen summary tells scene a b h = part_whole summary scene a b h

-- nothing was written, which is a prefix too
pub cut_nothing : (a : Option (List ℕ)) → CutSome a a
cut_nothing a = none_cut a

-- a prefix of the record of a fault
pub fault_whole : (fault : ScriptFault) (a b : Option (List ℕ)) → Appends a b (fault_bytes fault) → RecordFits (rec.Sflt fault) → CutSome a b
fault_whole fault a b bytes fits = cut_part a b (rec.Sflt fault ∷ []) (all_as_part a b (rec.Sflt fault ∷ []) (one_written (Ok tt) a b (rec.Sflt fault) (rec.Sflt fault) refl bytes fits))

pub fault_part : (r : Result (Unit {0}) RunFault) (fault : ScriptFault) (a b : Option (List ℕ)) → OnErr r (TookPrefix a b (fault_bytes fault))
    → (IsErrOf r run_fault.WriteFault → RecordFits (rec.Sflt fault)) → (IsErrOf r run_fault.NoMemory → b ≡ a) → OnErr r (CutSome a b)
fault_part r fault a b part begun nothing = some_cut r a b (rec.Sflt fault ∷ []) (one_part r a b (rec.Sflt fault) (rec.Sflt fault) refl part begun nothing)

-- a prefix of what shows a play
play_cut : (summary : Bool) (scene : SceneValue) (a b : Option (List ℕ)) → ShowsPart summary scene a b → CutSome a b
play_cut summary scene a b h = cut_part a b (records_shown summary h.records) h.written

-- a prefix of the records of a run in threads
live_cut : (tells : Bool) (scene : SceneValue) (a b : Option (List ℕ)) → CutLive tells scene a b → CutSome a b
live_cut tells scene a b (in_vsyncs vsyncs begins part) = cut_part a b _ part
live_cut tells scene a b (in_rest shows fits part) = cut_part a b _ part

-- of what shows a run
pub run_cut : (r : Run) (summary tells : Bool) (scene : SceneValue) (a b : Option (List ℕ)) → ShowsRunPart r summary tells scene a b → CutSome a b
run_cut run.Live summary tells scene a b h = live_cut tells scene a b h
run_cut run.Play summary tells scene a b h = play_cut summary scene a b h
run_cut run.Gen summary tells scene a b h = play_cut summary scene a b h

cut_none : (scene : SceneValue) (a : Option (List ℕ)) → IsPeriod scene.period → CutRun scene a a
cut_none scene a period = let play = timed_records scene period.low period.high in record { records = play.0; is_play = play.1; written = none_of a play.0 }

part_none : (summary : Bool) (scene : SceneValue) (a : Option (List ℕ)) → IsPeriod scene.period → ShowsPart summary scene a a
part_none summary scene a period =
    let play = timed_records scene period.low period.high in record { records = play.0; is_play = play.1; written = none_of a (records_shown summary play.0) }

run_part_none : (r : Run) (summary tells : Bool) (scene : SceneValue) (a : Option (List ℕ)) → IsPeriod scene.period → ShowsRunPart r summary tells scene a a
run_part_none run.Live summary tells scene a period = none_cut_live tells scene a a refl
run_part_none run.Play summary tells scene a period = part_none summary scene a period
run_part_none run.Gen summary tells scene a period = part_none summary scene a period

pub cut_unbegun : (scene : SceneValue) (a : Option (List ℕ)) → IsWithinLimits scene → CutRun scene a a
cut_unbegun scene a limits = cut_none scene a (record { low = limits.header.low_period; high = limits.header.high_period })

-- a reader at its end gave all that it had
all_given : (bytes bs : List ℕ) (rest : Option (List ℕ)) → Consumes (Some bytes) rest bs → IsAtEnd rest → bytes ≡ bs
all_given bytes bs None h e = absurd h
all_given bytes bs (Some ys) h e = h ∙ ap (λ (l : List ℕ). bs ++ l) e ∙ append-nil bs

too_many : (bytes : List ℕ) (rest : Option (List ℕ)) → Took (Some bytes) rest 1048577 → 1048576 < length bytes
too_many bytes None (bs, h, n) = absurd h
too_many bytes (Some ys) (bs, h, n) = omega (arith, length-append bs ys, ap length h)

too_long_fault : (bytes : List ℕ) → 1048576 < length bytes → parsed_of bytes ≡ Err (at_no_place 9)
unfolding parsed_of
too_long_fault bytes h = rw (lt-ltb 1048576 (length bytes) h) refl

-- a scene is no fault
pub scene_is_read : (bytes : List ℕ) (scene : SceneValue) (rest : Option (List ℕ)) (fault : ScriptFault) → parsed_of bytes ≡ Ok scene → NoScene (Some bytes) rest fault → ⊥
scene_is_read bytes scene rest _ spelled (misspelled bs fault given end wrong) =
    let same = all_given bytes bs rest given end in
    let two : Ok scene ≡ Err fault = sym spelled ∙ ap parsed_of same ∙ wrong in
    cc
scene_is_read bytes scene rest _ spelled (too_long took) =
    let two : Ok scene ≡ Err (at_no_place 9) = sym spelled ∙ too_long_fault bytes (too_many bytes rest took) in
    cc

pub first_or_last : (n : ℕ) → n ≤ 5 → (n ≡ 1 → ⊥) → (n ≡ 2 → ⊥) → (n ≡ 3 → ⊥) → (n ≡ 4 → ⊥) → (n ≡ 0) ⊎ (n ≡ 5)
first_or_last n h a b c d = elim (cases_eq n 0) [
  | inl zero ↦ inl zero
  | inr some ↦ inr (omega (arith, some, a, b, c, d))
]

pub two_or_last : (n : ℕ) → n ≤ 5 → (n ≡ 0 → ⊥) → (n ≡ 1 → ⊥) → (n ≡ 3 → ⊥) → (n ≡ 4 → ⊥) → (n ≡ 2) ⊎ (n ≡ 5)
two_or_last n h a b c d = elim (cases_eq n 2) [
  | inl two ↦ inl two
  | inr some ↦ inr (omega (arith, some, a, b, c, d))
]

generated_no_fault : (number : ℕ) (fault : ScriptFault) → parsed_of (generated number) ≡ Err fault → ⊥
generated_no_fault number fault wrong =
    let is = text_is_scene number in
    let two : Ok is.scene ≡ Err fault = sym is.parsed ∙ wrong in
    cc

-- the script that was played is the one that is known
same_by : (gen : Bool) (number : ℕ) (left rest : Option (List ℕ)) (script bytes : List ℕ) → IsScriptBy gen number left rest script → IsToldBy gen number left bytes → bytes ≡ script
same_by true number left rest script bytes s told = told ∙ sym s.1
same_by false number left rest script bytes s told = all_given bytes script rest (subst (λ (l : Option (List ℕ)). Consumes l rest script) told s.0) s.1

same_script : (options : Options) (left rest : Option (List ℕ)) (script bytes : List ℕ) → IsScript options left rest script → IsTold options left bytes → bytes ≡ script
same_script options left rest script bytes s told = same_by (is_gen options.run) options.number left rest script bytes s told

refused_by : (gen : Bool) (options : Options) (left rest a b : Option (List ℕ)) (script : List ℕ) → is_gen options.run ≡ gen → IsScriptBy gen options.number left rest script →
    (fault : ScriptFault) → parsed_of script ≡ Err fault → Appends a b (fault_bytes fault) → RefusedScript (Some options) left rest a b
refused_by true options left rest a b script is s fault wrong written = absurd (generated_no_fault options.number fault (ap parsed_of (sym s.1) ∙ wrong))
refused_by false options left rest a b script is s fault wrong written =
    record { options = options; right = refl; reads = is; fault = fault; cause = misspelled script fault s.0 s.1 wrong; written = written }

-- a script that is refused was read
pub refused_script : (options : Options) (left rest a b : Option (List ℕ)) (script : List ℕ) → IsScript options left rest script →
    (fault : ScriptFault) × (parsed_of script ≡ Err fault) × Appends a b (fault_bytes fault) → RefusedScript (Some options) left rest a b
refused_script options left rest a b script s r = refused_by (is_gen options.run) options left rest a b script refl s r.0 r.1 r.2

-- a script that was played
pub played_script : (options : Options) (left rest a b : Option (List ℕ)) (script : List ℕ) → IsScript options left rest script →
    (scene : SceneValue) × (parsed_of script ≡ Ok scene) × ShowsRun options.run options.summary (tells_place options) scene a b → PlayedScript (Some options) left rest a b
played_script options left rest a b script s p = record { options = options; right = refl; bytes = script; script = s; scene = p.0; spelled = p.1; run = p.2 }

some_same : (asked : Option Options) (x y : Options) → asked ≡ Some x → asked ≡ Some y → x ≡ y
some_same asked x y e f = cc

-- right words are not wrong
pub right_words : (asked : Option Options) (options : Options) → asked ≡ Some options → asked ≡ None → ⊥
right_words asked options right wrong = cc

told_read : (options : Options) (left : Option (List ℕ)) (bytes : List ℕ) → is_gen options.run ≡ false → IsTold options left bytes → left ≡ Some bytes
told_read options left bytes reads told = subst (λ (gen : Bool). IsToldBy gen options.number left bytes) reads told

-- a script that is a scene is not refused
pub no_refusal : (asked : Option Options) (options : Options) (left rest a b : Option (List ℕ)) (bytes : List ℕ) (scene : SceneValue) → asked ≡ Some options → IsTold options left bytes →
    parsed_of bytes ≡ Ok scene → RefusedScript asked left rest a b → ⊥
no_refusal asked options left rest a b bytes scene right told spelled r =
    let reads : is_gen options.run ≡ false = ap (λ (o : Options). is_gen o.run) (some_same asked options r.options right r.right) ∙ r.reads in
    scene_is_read bytes scene rest r.fault spelled (subst (λ (l : Option (List ℕ)). NoScene l rest r.fault) (told_read options left bytes reads told) r.cause)

-- a script that was played is no fault
pub no_play : (asked : Option Options) (options : Options) (left rest a b : Option (List ℕ)) (bytes : List ℕ) (fault : ScriptFault) → asked ≡ Some options → IsTold options left bytes →
    parsed_of bytes ≡ Err fault → PlayedScript asked left rest a b → ⊥
no_play asked options left rest a b bytes fault right told wrong p =
    let script : IsScript options left rest p.bytes = subst (λ (o : Options). IsScript o left rest p.bytes) (some_same asked p.options options p.right right) p.script in
    let two : Err fault ≡ Ok p.scene = sym wrong ∙ ap parsed_of (same_script options left rest p.bytes bytes script told) ∙ p.spelled in
    cc

none_by : (options : Options) (bytes : List ℕ) (p : Result SceneValue ScriptFault) (a : Option (List ℕ)) → parsed_of bytes ≡ p → PrefixOf options p a a
none_by options bytes (Ok scene) a is = run_part_none options.run options.summary (tells_place options) scene a (parsed_timed bytes scene is)
none_by options bytes (Err fault) a is = nothing_took a (fault_bytes fault)

-- nothing was written
pub prefix_none : (options : Options) (bytes : List ℕ) (a : Option (List ℕ)) → PrefixOf options (parsed_of bytes) a a
prefix_none options bytes a = none_by options bytes (parsed_of bytes) a refl

pub prefix_refused : (options : Options) (p : Result SceneValue ScriptFault) (fault : ScriptFault) (a b : Option (List ℕ)) → p ≡ Err fault → TookPrefix a b (fault_bytes fault) → PrefixOf options p a b
prefix_refused options p fault a b is h = subst (λ (q : Result SceneValue ScriptFault). PrefixOf options q a b) (sym is) h

pub writes_none : (options : Options) (left a b : Option (List ℕ)) → b ≡ a → WritesPrefix (Some options) left a b
writes_none options left a b e = λ bytes told. subst (PrefixOf options (parsed_of bytes) a) (sym e) (prefix_none options bytes a)

-- a prefix was written of what the script that was played asks for
pub writes_script : (options : Options) (left rest : Option (List ℕ)) (script : List ℕ) (a b : Option (List ℕ)) → IsScript options left rest script →
    PrefixOf options (parsed_of script) a b → WritesPrefix (Some options) left a b
writes_script options left rest script a b s h = λ bytes told.
    subst (λ (t : List ℕ). PrefixOf options (parsed_of t) a b) (sym (same_script options left rest script bytes s told)) h

-- too many bytes were read, and a prefix was written of the record that says so
pub writes_too_long : (options : Options) (left rest a b : Option (List ℕ)) → is_gen options.run ≡ false → Took left rest 1048577 → TookPrefix a b (fault_bytes (at_no_place 9)) →
    WritesPrefix (Some options) left a b
writes_too_long options left rest a b reads took h = λ bytes told.
    let many : Took (Some bytes) rest 1048577 = subst (λ (l : Option (List ℕ)). Took l rest 1048577) (told_read options left bytes reads told) took in
    prefix_refused options (parsed_of bytes) (at_no_place 9) a b (too_long_fault bytes (too_many bytes rest many)) h

-- nothing was written, whatever the words ask for
pub writes_nothing : (asked : Option Options) (left a : Option (List ℕ)) → WritesPrefix asked left a a
writes_nothing None left a = refl
writes_nothing (Some options) left a = writes_none options left a a refl

-- what shows a fault whole is a prefix of it
fault_prefix : (bs : List ℕ) (a b : Option (List ℕ)) → Appends a b bs → TookPrefix a b bs
fault_prefix bs a b h = (length bs, omega arith, subst (Appends a b) (sym (take_all (length bs) bs (omega arith))) h)

-- what shows the run of a scene was written
pub scene_shown : (options : Options) (scene : SceneValue) (a b : Option (List ℕ)) (f g : ℕ) → ShowsRun options.run options.summary (tells_place options) scene a b → ScriptEnded options (Ok scene) 0 a b f g
scene_shown options scene a b f g h =
    let part = run_part_whole options.run options.summary (tells_place options) scene a b h in
    record {
      played = λ _. (scene, refl, h);
      refused = λ e. absurd (omega (arith, e));
      write_failed = λ e. absurd (omega (arith, e));
      range = omega arith;
      begun = λ e. omega (arith, e);
      read = λ e. omega (arith, e);
      prefix = part;
      cut = run_cut options.run options.summary (tells_place options) scene a b part;
    }

-- the record of a fault was written
pub fault_shown : (options : Options) (fault : ScriptFault) (a b : Option (List ℕ)) (f g : ℕ) → Appends a b (fault_bytes fault) → CutSome a b → ScriptEnded options (Err fault) 2 a b f g
fault_shown options fault a b f g h cut = record {
  played = λ e. absurd (omega (arith, e));
  refused = λ _. (fault, refl, h);
  write_failed = λ e. absurd (omega (arith, e));
  range = omega arith;
  begun = λ e. omega (arith, e);
  read = λ e. omega (arith, e);
  prefix = fault_prefix (fault_bytes fault) a b h;
  cut = cut;
}

-- the sink failed, or memory was wanting
pub script_cut : (options : Options) (p : Result SceneValue ScriptFault) (n : ℕ) (a b : Option (List ℕ)) (f g : ℕ) → 4 ≤ n → n ≤ 5 → (n ≡ 4 → Rose f g) → PrefixOf options p a b → CutSome a b →
    ScriptEnded options p n a b f g
script_cut options p n a b f g low high failed prefix cut = record {
  played = λ e. absurd (omega (arith, low, e));
  refused = λ e. absurd (omega (arith, low, e));
  write_failed = failed;
  range = high;
  begun = λ e. omega (arith, low, e);
  read = λ e. omega (arith, low, e);
  prefix = prefix;
  cut = cut;
}

-- the run of a scene ended
pub run_ended : (options : Options) (scene : SceneValue) (r : Result (Unit {0}) RunFault) (a b : Option (List ℕ)) (f g : ℕ) → OnOk r (ShowsRun options.run options.summary (tells_place options) scene a b)
    → OnErr r (ShowsRunPart options.run options.summary (tells_place options) scene a b) → (IsErrOf r run_fault.WriteFault → Rose f g) → ScriptEnded options (Ok scene) (status_of r) a b f g
run_ended options scene (Ok u) a b f g ok err failed = scene_shown options scene a b f g ok
run_ended options scene (Err run_fault.WriteFault) a b f g ok err failed =
    script_cut options (Ok scene) 4 a b f g (omega arith) (omega arith) (λ _. failed refl) err (run_cut options.run options.summary (tells_place options) scene a b err)
run_ended options scene (Err run_fault.NoMemory) a b f g ok err failed =
    script_cut options (Ok scene) 5 a b f g (omega arith) (omega arith) (λ e. absurd (omega (arith, e))) err (run_cut options.run options.summary (tells_place options) scene a b err)

-- what a script spells
spelled_as : (options : Options) (p q : Result SceneValue ScriptFault) (n : ℕ) (a b : Option (List ℕ)) (f g : ℕ) → p ≡ q → ScriptEnded options q n a b f g → ScriptEnded options p n a b f g
spelled_as options p q n a b f g is h = subst (λ (r : Result SceneValue ScriptFault). ScriptEnded options r n a b f g) (sym is) h

three_or_five : (n : ℕ) → (n ≡ 3) ⊎ (n ≡ 5) → (m : ℕ) → n ≡ m → m ≢ 3 → m ≢ 5 → ⊥
three_or_five n (inl e) m is a b = a (sym is ∙ e)
three_or_five n (inr e) m is a b = b (sym is ∙ e)

at_most_five : (n : ℕ) → (n ≡ 3) ⊎ (n ≡ 5) → n ≤ 5
at_most_five n (inl e) = omega (arith, e)
at_most_five n (inr e) = omega (arith, e)

err_is_not_ok : {fault : ScriptFault} {scene : SceneValue} → Err fault ≡ Ok scene → ⊥
err_is_not_ok e = cc

same_fault : (p : Result SceneValue ScriptFault) (one other : ScriptFault) → p ≡ Err one → p ≡ Err other → one ≡ other
same_fault p one other e f = cc

-- the fault of a script that is no scene is one
pub one_fault : (first second : Result SceneValue SceneFault) (one other : ScriptFault) → first ≡ Err (scene_fault.Script one) → second ≡ Err (scene_fault.Script other) → first ≡ second → one ≡ other
one_fault first second one other e f same = cc

-- a fault is no scene
no_scene : {A : Type 0} {P : SceneValue → Type 0} {fault : ScriptFault} → (scene : SceneValue) × (Err fault ≡ Ok scene) × P scene → A
no_scene h = absurd (err_is_not_ok h.1)

-- a script has one fault
the_fault : (p : Result SceneValue ScriptFault) (fault : ScriptFault) (a b : Option (List ℕ)) → p ≡ Err fault → (other : ScriptFault) × (p ≡ Err other) × Appends a b (fault_bytes other) → Appends a b (fault_bytes fault)
the_fault p fault a b is h = subst (λ (f : ScriptFault). Appends a b (fault_bytes f)) (same_fault p h.0 fault h.1 is) h.2

no_words : {A : Type 0} (options : Options) → Some options ≡ None → A
no_words options e = absurd (right_words (Some options) options refl e)

module _ {S K : Type 0} (left : S → Option (List ℕ)) (reads : S → ℕ) (taken : K → Option (List ℕ)) (writes : K → ℕ) where
  -- the words are wrong
  pub words_wrong : (asked : Option Options) (source : S) (sink : K) → asked ≡ None → RunEnded left reads taken writes asked 1 source source sink sink
  words_wrong asked source sink none = record {
    played = λ e. absurd (omega (arith, e));
    usage = λ _. none;
    wrong = λ _. inl refl;
    untouched = λ _. (refl, refl);
    refused = λ e. absurd (omega (arith, e));
    read_failed = λ e. absurd (omega (arith, e));
    silent = λ _. refl;
    write_failed = λ e. absurd (omega (arith, e));
    range = omega arith;
    unread = λ _ _ _. refl;
    prefix = writes_nothing asked (left source) (taken sink);
    cut = cut_nothing (taken sink);
  }

  -- memory was wanting before anything was read
  pub unbegun : (asked : Option Options) (source : S) (sink : K) → RunEnded left reads taken writes asked 5 source source sink sink
  unbegun asked source sink = record {
    played = λ e. absurd (omega (arith, e));
    usage = λ e. absurd (omega (arith, e));
    wrong = λ _. inr refl;
    untouched = λ _. (refl, refl);
    refused = λ e. absurd (omega (arith, e));
    read_failed = λ e. absurd (omega (arith, e));
    silent = λ _. refl;
    write_failed = λ e. absurd (omega (arith, e));
    range = omega arith;
    unread = λ _ _ _. refl;
    prefix = writes_nothing asked (left source) (taken sink);
    cut = cut_nothing (taken sink);
  }

  -- the source failed, or memory was wanting to read its script
  pub unread_script : (options : Options) (n : ℕ) (source rest : S) (sink : K) → (n ≡ 3) ⊎ (n ≡ 5) → (n ≡ 3 → Rose (reads source) (reads rest)) → (is_gen options.run ≡ true → rest ≡ source) →
      RunEnded left reads taken writes (Some options) n source rest sink sink
  unread_script options n source rest sink which failed same = record {
    played = λ e. absurd (three_or_five n which 0 e (omega arith) (omega arith));
    usage = λ e. absurd (three_or_five n which 1 e (omega arith) (omega arith));
    wrong = λ none. no_words options none;
    untouched = λ none. no_words options none;
    refused = λ e. absurd (three_or_five n which 2 e (omega arith) (omega arith));
    read_failed = failed;
    silent = λ _. refl;
    write_failed = λ e. absurd (three_or_five n which 4 e (omega arith) (omega arith));
    range = at_most_five n which;
    unread = λ asked is gen. same (ap (λ (o : Options). is_gen o.run) (some_same (Some options) options asked refl is) ∙ gen);
    prefix = writes_none options (left source) (taken sink) (taken sink) refl;
    cut = cut_nothing (taken sink);
  }

  -- a script was played, or refused for its fault
  script_read : (options : Options) (n : ℕ) (source rest : S) (sink now : K) (script : List ℕ) → IsScript options (left source) (left rest) script → (is_gen options.run ≡ true → rest ≡ source) →
      ScriptEnded options (parsed_of script) n (taken sink) (taken now) (writes sink) (writes now) → RunEnded left reads taken writes (Some options) n source rest sink now
  script_read options n source rest sink now script is same h = record {
    played = λ e. played_script options (left source) (left rest) (taken sink) (taken now) script is (h.played e);
    usage = λ e. absurd (h.begun e);
    wrong = λ none. no_words options none;
    untouched = λ none. no_words options none;
    refused = λ e. refused_script options (left source) (left rest) (taken sink) (taken now) script is (h.refused e);
    read_failed = λ e. absurd (h.read e);
    silent = λ e. absurd (h.read e);
    write_failed = h.write_failed;
    range = h.range;
    unread = λ asked right gen. same (ap (λ (o : Options). is_gen o.run) (some_same (Some options) options asked refl right) ∙ gen);
    prefix = writes_script options (left source) (left rest) script (taken sink) (taken now) is h.prefix;
    cut = h.cut;
  }

  -- a script that is too long was refused
  too_long_read : (options : Options) (n : ℕ) (source rest : S) (sink now : K) → (is_gen options.run ≡ false) × Took (left source) (left rest) 1048577 → (is_gen options.run ≡ true → rest ≡ source) →
      ScriptEnded options (Err (at_no_place 9)) n (taken sink) (taken now) (writes sink) (writes now) → RunEnded left reads taken writes (Some options) n source rest sink now
  too_long_read options n source rest sink now long same h = record {
    played = λ e. no_scene (h.played e);
    usage = λ e. absurd (h.begun e);
    wrong = λ none. no_words options none;
    untouched = λ none. no_words options none;
    refused = λ e. record { options = options; right = refl; reads = long.0; fault = at_no_place 9; cause = too_long long.1; written = the_fault (Err (at_no_place 9)) (at_no_place 9) (taken sink) (taken now) refl (h.refused e) };
    read_failed = λ e. absurd (h.read e);
    silent = λ e. absurd (h.read e);
    write_failed = h.write_failed;
    range = h.range;
    unread = λ asked right gen. same (ap (λ (o : Options). is_gen o.run) (some_same (Some options) options asked refl right) ∙ gen);
    prefix = writes_too_long options (left source) (left rest) (taken sink) (taken now) long.0 long.1 h.prefix;
    cut = h.cut;
  }

  -- what a script spells was played, or its fault was told
  pub spelled_ended : (options : Options) (spelled : Result SceneValue ScriptFault) (n : ℕ) (source rest : S) (sink now : K) → Spells options (left source) (left rest) spelled → (is_gen options.run ≡ true → rest ≡ source) →
      ScriptEnded options spelled n (taken sink) (taken now) (writes sink) (writes now) → RunEnded left reads taken writes (Some options) n source rest sink now
  spelled_ended options _ n source rest sink now (spells bytes spelled is parsed) same h = script_read options n source rest sink now bytes is same (spelled_as options (parsed_of bytes) spelled n _ _ _ _ parsed h)
  spelled_ended options _ n source rest sink now (too_long_to_spell reads took) same h = too_long_read options n source rest sink now (reads, took) same h

  -- what holds of the options that the words give
  pub ended_as : (asked : Option Options) (options : Options) (n : ℕ) (source rest : S) (sink now : K) → asked ≡ Some options → RunEnded left reads taken writes (Some options) n source rest sink now →
      RunEnded left reads taken writes asked n source rest sink now
  ended_as asked options n source rest sink now is h = subst (λ (o : Option Options). RunEnded left reads taken writes o n source rest sink now) (sym is) h

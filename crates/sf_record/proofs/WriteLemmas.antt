-- What was written so far, and what is left to write.
use Rattle.std.proofs.Common.{◌≡◌, ℕ, List, [], ◌∷◌, ◌++◌, All, Option, sym, ap, subst, ◌∙◌, append_assoc, ◌<◌, ◌+◌, length, drop, take, get_or}
use Rattle.std.proofs.lemmas.List.{append-nil, drop_more, take_more}
use Rattle.std.proofs.lemmas.List.Concat.{flat_map-append}
use Rattle.std.proofs.lemmas.List.Elements.{All-push}
use Rattle.std.proofs.KnownBytes.{Appends-trans}
use Rattle.std.specs.Io.KnownBytes.{Appends}
use Rattle.sf_io.specs.Streams.{TookPrefix}
use Rattle.sf_io.proofs.StreamLemmas.{TookPrefix-rest, TookPrefix-front}
use Rattle.sf_record.specs.Fitting.{RecordFits}
use Rattle.sf_record.specs.Records.{bytes_of, record_bytes}
use Rattle.sf_record.specs.declared.record.Record.{Record}

-- bytes were written, and with those that are left they are all
abbrev pub WrittenOf : Option (List ℕ) → Option (List ℕ) → List ℕ → List ℕ → Type 0
WrittenOf old new rest all = (done : List ℕ) × Appends old new done × (done ++ rest ≡ all)

-- one more piece was written
pub WrittenOf-more : (a b c : Option (List ℕ)) (piece rest all : List ℕ) → WrittenOf a b (piece ++ rest) all → Appends b c piece → WrittenOf a c rest all
WrittenOf-more a b c piece rest all (done, p, e) q = (done ++ piece, Appends-trans a b c done piece p q, append_assoc done piece rest ∙ e)

-- a prefix of one more piece was written
pub WrittenOf-prefix : (a b c : Option (List ℕ)) (piece rest all : List ℕ) → WrittenOf a b (piece ++ rest) all → TookPrefix b c piece → TookPrefix a c all
WrittenOf-prefix a b c piece rest all (done, p, e) q = subst (TookPrefix a c) e (TookPrefix-rest a b c done (piece ++ rest) p (TookPrefix-front b c piece rest q))

-- nothing is left
pub WrittenOf-all : (a b : Option (List ℕ)) (all : List ℕ) → WrittenOf a b [] all → Appends a b all
WrittenOf-all a b all (done, p, e) = subst (Appends a b) (sym (append-nil done) ∙ e) p

-- the bytes of the next record, and of those behind it
pub bytes_of-next : (rs : List Record) (i : ℕ) (r : Record) → i < length rs → r ≡ get_or rs i r → bytes_of (drop i rs) ≡ record_bytes r ++ bytes_of (drop (i + 1) rs)
unfolding bytes_of
bytes_of-next rs i r h is = ap bytes_of (drop_more rs i r h) ∙ ap (λ (x : Record). record_bytes x ++ bytes_of (drop (i + 1) rs)) (sym is)

pub write_next : (a b c : Option (List ℕ)) (rs : List Record) (i : ℕ) (r : Record) → i < length rs → r ≡ get_or rs i r → WrittenOf a b (bytes_of (drop i rs)) (bytes_of rs)
    → Appends b c (record_bytes r) → WrittenOf a c (bytes_of (drop (i + 1) rs)) (bytes_of rs)
write_next a b c rs i r h is w p = WrittenOf-more a b c (record_bytes r) (bytes_of (drop (i + 1) rs)) (bytes_of rs) (subst (λ (l : List ℕ). WrittenOf a b l (bytes_of rs)) (bytes_of-next rs i r h is) w) p

pub write_cut : (a b c : Option (List ℕ)) (rs : List Record) (i : ℕ) (r : Record) → i < length rs → r ≡ get_or rs i r → WrittenOf a b (bytes_of (drop i rs)) (bytes_of rs)
    → TookPrefix b c (record_bytes r) → TookPrefix a c (bytes_of rs)
write_cut a b c rs i r h is w p = WrittenOf-prefix a b c (record_bytes r) (bytes_of (drop (i + 1) rs)) (bytes_of rs) (subst (λ (l : List ℕ). WrittenOf a b l (bytes_of rs)) (bytes_of-next rs i r h is) w) p

-- the bytes of one more record
bytes_of-front : (rs : List Record) (i : ℕ) (r : Record) → i < length rs → r ≡ get_or rs i r → bytes_of (take (i + 1) rs) ≡ bytes_of (take i rs) ++ record_bytes r
unfolding bytes_of
bytes_of-front rs i r h is =
    ap bytes_of (take_more rs i r h) ∙ flat_map-append record_bytes (take i rs) (get_or rs i r ∷ [])
    ∙ ap (λ (x : Record). bytes_of (take i rs) ++ (record_bytes x ++ [])) (sym is) ∙ ap (λ (l : List ℕ). bytes_of (take i rs) ++ l) (append-nil (record_bytes r))

pub first_more : (a b c : Option (List ℕ)) (rs : List Record) (i : ℕ) (r : Record) → i < length rs → r ≡ get_or rs i r → Appends a b (bytes_of (take i rs)) → Appends b c (record_bytes r)
    → Appends a c (bytes_of (take (i + 1) rs))
first_more a b c rs i r h is p q = subst (Appends a c) (sym (bytes_of-front rs i r h is)) (Appends-trans a b c (bytes_of (take i rs)) (record_bytes r) p q)

pub fit_next : (rs : List Record) (i : ℕ) (r : Record) → i < length rs → r ≡ get_or rs i r → All RecordFits (take i rs) → RecordFits r → All RecordFits (take (i + 1) rs)
fit_next rs i r h is all one =
    subst (All RecordFits) (sym (take_more rs i r h ∙ ap (λ (x : Record). take i rs ++ x ∷ []) (sym is))) (All-push RecordFits (take i rs) r all one)

-- What was written of several records.
use Rattle.std.proofs.Common.{◌≡◌, ℕ, ◌≤◌, ◌+◌, ◌<◌, List, [], ◌∷◌, ◌++◌, length, get_or, take, drop, map, Option, Result, Ok, Err, ap, ◌∙◌, sym, subst, arith, refl, All, OnErr, OnOk, IsErrOf}
use Rattle.std.proofs.KnownBytes.{Appends-nil, Appends-trans}
use Rattle.std.proofs.Math.Seq.{take-append-add}
use Rattle.std.proofs.lemmas.List.{append-nil, length-append, map-append, take-append-drop, take-append-le, drop_more, take_all, take_more}
use Rattle.std.proofs.lemmas.List.Concat.{flat_map-append}
use Rattle.std.proofs.lemmas.List.Elements.{All-append, All-cons, All-nil}
use Rattle.std.specs.Io.KnownBytes.{Appends}
use Rattle.sf_io.specs.Streams.{TookPrefix}
use Rattle.sf_io.proofs.StreamLemmas.{TookPrefix-front, TookPrefix-rest}
use Rattle.sf_play.specs.sf_record.declared.encode.RunFault.{RunFault}
use Rattle.sf_play.specs.sf_record.declared.encode.RunFault.TheVariants as fault
use Rattle.sf_play.specs.sf_record.Fitting.{RecordFits}
use Rattle.sf_play.specs.sf_record.Records.{bytes_of, record_bytes}
use Rattle.sf_play.specs.sf_record.declared.record.Record.{Record}
use Rattle.sf_play_write.specs.Writing.{CutSome, Writes, WritesPart}

pub one_record : (r : Record) → record_bytes r ≡ bytes_of (r ∷ [])
unfolding bytes_of
one_record r = sym (append-nil (record_bytes r))

more_bytes : (rs ss : List Record) → bytes_of (rs ++ ss) ≡ bytes_of rs ++ bytes_of ss
unfolding bytes_of
more_bytes rs ss = flat_map-append record_bytes rs ss

-- nothing was written
pub writes_none : (a : Option (List ℕ)) → Writes a a []
unfolding bytes_of
writes_none a = record { bytes = Appends-nil a; fits = All-nil RecordFits }

pub writes_more : (a b c : Option (List ℕ)) (rs ss : List Record) → Writes a b rs → Writes b c ss → Writes a c (rs ++ ss)
writes_more a b c rs ss first second = record {
  bytes = subst (Appends a c) (sym (more_bytes rs ss)) (Appends-trans a b c (bytes_of rs) (bytes_of ss) first.bytes second.bytes);
  fits = All-append RecordFits rs ss first.fits second.fits;
}

-- whole records, and then a part of the next ones
pub part_more : (a b c : Option (List ℕ)) (rs ss : List Record) → Writes a b rs → WritesPart b c ss → WritesPart a c (rs ++ ss)
part_more a b c rs ss first second = record {
  begun = length rs + second.begun;
  few = omega (arith, length-append rs ss, second.few);
  fits = subst (All RecordFits) (sym begun_are) (All-append RecordFits rs (take second.begun ss) first.fits second.fits);
  bytes = subst (λ (records : List Record). TookPrefix a c (bytes_of records)) (sym begun_are)
      (subst (TookPrefix a c) (sym (more_bytes rs (take second.begun ss))) (TookPrefix-rest a b c (bytes_of rs) (bytes_of (take second.begun ss)) first.bytes second.bytes));
}
  where
    begun_are : take (length rs + second.begun) (rs ++ ss) ≡ rs ++ take second.begun ss
    begun_are = take-append-add rs ss second.begun

-- a part of the first records
pub part_front : (a b : Option (List ℕ)) (rs ss : List Record) → WritesPart a b rs → WritesPart a b (rs ++ ss)
part_front a b rs ss part = record {
  begun = part.begun;
  few = omega (arith, length-append rs ss, part.few);
  fits = subst (All RecordFits) (sym (take-append-le part.begun rs ss part.few)) part.fits;
  bytes = subst (λ (records : List Record). TookPrefix a b (bytes_of records)) (sym (take-append-le part.begun rs ss part.few)) part.bytes;
}

pub part_none : (a : Option (List ℕ)) (rs : List Record) → WritesPart a a rs
part_none a rs = record { begun = 0; few = omega arith; fits = All-nil RecordFits; bytes = (0, omega arith, Appends-nil a) }

took_whole : (a b : Option (List ℕ)) (bs : List ℕ) → Appends a b bs → TookPrefix a b bs
took_whole a b bs all = (length bs, omega arith, subst (Appends a b) (sym (take_all (length bs) bs (omega arith))) all)

pub part_whole : (a b : Option (List ℕ)) (rs : List Record) → Writes a b rs → WritesPart a b rs
part_whole a b rs all = record {
  begun = length rs;
  few = omega arith;
  fits = subst (All RecordFits) (sym (take_all (length rs) rs (omega arith))) all.fits;
  bytes = subst (λ (records : List Record). TookPrefix a b (bytes_of records)) (sym (take_all (length rs) rs (omega arith))) (took_whole a b (bytes_of rs) all.bytes);
}

-- it is a prefix of the bytes of all
pub part_bytes : (a b : Option (List ℕ)) (rs : List Record) → WritesPart a b rs → TookPrefix a b (bytes_of rs)
part_bytes a b rs part =
    subst (λ (records : List Record). TookPrefix a b (bytes_of records)) (take-append-drop part.begun rs)
    (subst (TookPrefix a b) (sym (more_bytes (take part.begun rs) (drop part.begun rs)))
    (TookPrefix-front a b (bytes_of (take part.begun rs)) (bytes_of (drop part.begun rs)) part.bytes))

-- a part of one record that fits its fields
part_of_one : (a b : Option (List ℕ)) (r : Record) → RecordFits r → TookPrefix a b (record_bytes r) → WritesPart a b (r ∷ [])
part_of_one a b r fits part = record { begun = 1; few = omega arith; fits = All-cons RecordFits r [] fits (All-nil RecordFits); bytes = subst (TookPrefix a b) (one_record r) part }

-- one record was made and written
pub one_written : (r : Result (Unit {0}) RunFault) (a b : Option (List ℕ)) (made expected : Record) → made ≡ expected → OnOk r (Appends a b (record_bytes made)) → OnOk r (RecordFits made) → OnOk r (Writes a b (expected ∷ []))
one_written (Ok u) a b made expected is bytes fits =
    subst (λ (x : Record). Writes a b (x ∷ [])) is (record { bytes = subst (Appends a b) (one_record made) bytes; fits = All-cons RecordFits made [] fits (All-nil RecordFits) })
one_written (Err e) a b made expected is bytes fits = tt

-- a part of it was written, which it fits, or nothing where memory was wanting
pub one_part : (r : Result (Unit {0}) RunFault) (a b : Option (List ℕ)) (made expected : Record) → made ≡ expected → OnErr r (TookPrefix a b (record_bytes made))
    → (IsErrOf r fault.WriteFault → RecordFits made) → (IsErrOf r fault.NoMemory → b ≡ a) → OnErr r (WritesPart a b (expected ∷ []))
one_part (Ok u) a b made expected is part begun nothing = tt
one_part (Err fault.WriteFault) a b made expected is part begun nothing = subst (λ (x : Record). WritesPart a b (x ∷ [])) is (part_of_one a b made (begun refl) part)
one_part (Err fault.NoMemory) a b made expected is part begun nothing = subst (λ (x : Option (List ℕ)). WritesPart a x (expected ∷ [])) (sym (nothing refl)) (part_none a (expected ∷ []))

-- the last of several records was written, or a part of it
pub last_written : (r : Result (Unit {0}) RunFault) (a b c : Option (List ℕ)) (rs ss : List Record) → Writes a b rs → OnOk r (Writes b c ss) → OnOk r (Writes a c (rs ++ ss))
last_written (Ok u) a b c rs ss first second = writes_more a b c rs ss first second
last_written (Err e) a b c rs ss first second = tt

pub last_cut : (r : Result (Unit {0}) RunFault) (a b c : Option (List ℕ)) (rs ss : List Record) → Writes a b rs → OnErr r (WritesPart b c ss) → OnErr r (WritesPart a c (rs ++ ss))
last_cut (Ok u) a b c rs ss first second = tt
last_cut (Err e) a b c rs ss first second = part_more a b c rs ss first second

-- one more of what is made of a list
each_next : {X Y : Type 0} (f : X → Y) (r : Y → Record) (xs : List X) (i : ℕ) (d : X) → i < length xs
    → map r (map f (take (i + 1) xs)) ≡ map r (map f (take i xs)) ++ r (f (get_or xs i d)) ∷ []
each_next f r xs i d below =
    ap (map r) (ap (map f) (take_more xs i d below) ∙ map-append f (take i xs) (get_or xs i d ∷ []))
    ∙ map-append r (map f (take i xs)) (f (get_or xs i d) ∷ [])

each_split : {X Y : Type 0} (f : X → Y) (r : Y → Record) (xs : List X) (i : ℕ) → map r (map f (take i xs)) ++ map r (map f (drop i xs)) ≡ map r (map f xs)
each_split f r xs i =
    sym (map-append r (map f (take i xs)) (map f (drop i xs)))
    ∙ ap (map r) (sym (map-append f (take i xs) (drop i xs)) ∙ ap (map f) (take-append-drop i xs))

each_front : {X Y : Type 0} (f : X → Y) (r : Y → Record) (xs : List X) (i : ℕ) (d : X) → i < length xs
    → map r (map f (drop i xs)) ≡ r (f (get_or xs i d)) ∷ map r (map f (drop (i + 1) xs))
each_front {X} f r xs i d below = ap (λ (l : List X). map r (map f l)) (drop_more xs i d below)

-- one more record was written
pub each_more : {X Y : Type 0} (f : X → Y) (r : Y → Record) (a b c : Option (List ℕ)) (xs : List X) (i : ℕ) (x : X) → i < length xs → x ≡ get_or xs i x
    → Writes a b (map r (map f (take i xs))) → Writes b c (r (f x) ∷ []) → Writes a c (map r (map f (take (i + 1) xs)))
each_more {X} f r a b c xs i x below is before now =
    subst (Writes a c) (sym (each_next f r xs i x below))
    (writes_more a b c (map r (map f (take i xs))) (r (f (get_or xs i x)) ∷ []) before (subst (λ (d : X). Writes b c (r (f d) ∷ [])) is now))

-- a part of the next record was written
pub each_part : {X Y : Type 0} (f : X → Y) (r : Y → Record) (a b c : Option (List ℕ)) (xs : List X) (i : ℕ) (x : X) → i < length xs → x ≡ get_or xs i x
    → Writes a b (map r (map f (take i xs))) → WritesPart b c (r (f x) ∷ []) → WritesPart a c (map r (map f xs))
each_part {X} f r a b c xs i x below is before now =
    subst (WritesPart a c) (each_split f r xs i)
    (part_more a b c (map r (map f (take i xs))) (map r (map f (drop i xs))) before
    (subst (WritesPart b c) (sym (each_front f r xs i x below))
    (part_front b c (r (f (get_or xs i x)) ∷ []) (map r (map f (drop (i + 1) xs))) (subst (λ (d : X). WritesPart b c (r (f d) ∷ [])) is now))))

pub still_later : (a b c : ℕ) → a ≤ b → b ≤ c → a ≤ c
still_later a b c p q = omega arith

-- whole records were written, and then at most one that is cut
pub cut_part : (a b : Option (List ℕ)) (rs : List Record) → WritesPart a b rs → CutSome a b
cut_part a b rs part = record { records = take part.begun rs; fits = part.fits; bytes = part.bytes }

pub some_cut : (r : Result (Unit {0}) RunFault) (a b : Option (List ℕ)) (rs : List Record) → OnErr r (WritesPart a b rs) → OnErr r (CutSome a b)
some_cut (Ok u) a b rs part = tt
some_cut (Err e) a b rs part = cut_part a b rs part

pub cut_none : (a : Option (List ℕ)) → CutSome a a
cut_none a = cut_part a a [] (part_none a [])

-- records of items that are handed out one after another: these are the first of all
module _ {X : Type 0} (f : X → Record) where
  pub shown_more : (a b c : Option (List ℕ)) (given : List X) (x : X) → Writes a b (map f given) → Writes b c (f x ∷ []) → Writes a c (map f (given ++ x ∷ []))
  shown_more a b c given x before now = subst (Writes a c) (sym (map-append f given (x ∷ []))) (writes_more a b c (map f given) (f x ∷ []) before now)

  pub shown_part : (a b c : Option (List ℕ)) (all given : List X) (x : X) → given ≡ take (length given) all → length given < length all → x ≡ get_or all (length given) x
      → Writes a b (map f given) → WritesPart b c (f x ∷ []) → WritesPart a c (map f all)
  shown_part a b c all given x so_far below is before now =
      subst (WritesPart a c) joined
      (part_more a b c (map f (take (length given) all)) (f x ∷ rest) (subst (λ (l : List X). Writes a b (map f l)) so_far before) (part_front b c (f x ∷ []) rest now))
    where
      rest : List Record
      rest = map f (drop (length given + 1) all)

      front : x ∷ drop (length given + 1) all ≡ drop (length given) all
      front = ap (λ (y : X). y ∷ drop (length given + 1) all) is ∙ sym (drop_more all (length given) x below)

      joined : map f (take (length given) all) ++ (f x ∷ map f (drop (length given + 1) all)) ≡ map f all
      joined =
          sym (map-append f (take (length given) all) (x ∷ drop (length given + 1) all))
          ∙ ap (map f) (ap (λ (l : List X). take (length given) all ++ l) front ∙ take-append-drop (length given) all)

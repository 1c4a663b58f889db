-- What is known of a sink and a source after one more call.
use Rattle.std.proofs.Common.{◌≡◌, ℕ, ◌+◌, ◌≤◌, List, ◌++◌, length, take, drop, [], ◌-◌, Option, refl, sym, ap, subst, ◌∙◌, arith, length-append, length-drop, take-append-drop}
use Rattle.std.proofs.lemmas.List.{take-append-le, take_at, drop_at, take_all, drop_all, drop-drop, append-nil, length-take-le}
use borrow.Rule.Slice.PartMut.{put_mid}
use Rattle.std.proofs.Math.Seq.{take-add, take-append-add}
use Rattle.std.proofs.KnownBytes.{Appends-trans, Consumes-trans}
use Rattle.std.specs.Io.KnownBytes.{Appends, Consumes, Keeps}
use Rattle.sf_io.specs.Streams.{Took, TookAtMost, TookPrefix}

-- a sink that took the first m bytes, and then n of the rest, took the first m + n
pub Appends-take_add : (a b c : Option (List ℕ)) (m n : ℕ) (bs : List ℕ) → Appends a b (take m bs) → Appends b c (take n (drop m bs)) → Appends a c (take (m + n) bs)
Appends-take_add a b c m n bs p q = subst (Appends a c) (sym (take-add m n bs)) (Appends-trans a b c (take m bs) (take n (drop m bs)) p q)

-- known bytes that stay are appended by none
pub Appends-kept : (a b c : Option (List ℕ)) (bs : List ℕ) → Appends a b bs → Keeps b c → Appends a c bs
Appends-kept a b c bs p q = grind (arith, Appends, Keeps)

-- a prefix of the front is a prefix of the whole
pub TookPrefix-front : (a b : Option (List ℕ)) (front rest : List ℕ) → TookPrefix a b front → TookPrefix a b (front ++ rest)
TookPrefix-front a b front rest (n, within, took) =
    (n, omega (arith, length-append front rest), subst (Appends a b) (sym (take-append-le n front rest within)) took)

-- the whole front, and a prefix of the rest
pub TookPrefix-rest : (a b c : Option (List ℕ)) (front rest : List ℕ) → Appends a b front → TookPrefix b c rest → TookPrefix a c (front ++ rest)
TookPrefix-rest a b c front rest p (n, within, took) =
    (length front + n, omega (arith, length-append front rest), subst (Appends a c) (sym (take-append-add front rest n)) (Appends-trans a b c front (take n rest) p took))

-- the second four of eight bytes are written
pub put_second : (xs ys zs bs : List ℕ) → length xs ≡ 4 → length ys ≡ 4 → bs ≡ zs ++ drop 4 (take 4 (drop 4 (xs ++ ys))) → put_mid 4 4 (xs ++ ys) bs ≡ xs ++ zs
put_second xs ys zs bs p q e =
    let t : take 4 (xs ++ ys) ≡ xs = take_at xs ys 4 p in
    let d : drop 4 (xs ++ ys) ≡ ys = drop_at xs ys 4 p in
    let none : drop 4 ys ≡ [] = drop_all 4 ys (omega arith) in
    let all : take 4 ys ≡ ys = take_all 4 ys (omega arith) in
    rw (e, t, d, all, none, append-nil, append-nil) refl

-- what a source in memory has left, before and after a read
pub left_after : (at n : ℕ) (bytes new rest : List ℕ) → at + n ≤ length bytes → new ≡ take ((at + n) - at) (drop at bytes) → drop at bytes ≡ take n (new ++ rest) ++ drop (at + n) bytes
left_after at n bytes new rest h e =
    let same : (at + n) - at ≡ n = omega arith in
    let new_is : new ≡ take n (drop at bytes) = e ∙ ap (λ (k : ℕ). take k (drop at bytes)) same in
    let len : length new ≡ n = ap length new_is ∙ length-take-le n (drop at bytes) (omega (arith, length-drop at bytes)) in
    rw (take_at new rest n len, ← drop-drop n at bytes, new_is, take-append-drop) refl

-- a read of n bytes, of a piece that is within what is left, takes what is taken
pub took_more : (a b c : Option (List ℕ)) (all buf : List ℕ) (n : ℕ) → Consumes a b all → Consumes b c (take n buf) → n ≤ length buf → Took a c (length all + n)
took_more a b c all buf n p q h =
    (all ++ take n buf, Consumes-trans a b c all (take n buf) p q, length-append all (take n buf) ∙ ap (λ (k : ℕ). length all + k) (length-take-le n buf h))

-- bytes that were taken stay taken where nothing more is
pub took_no_more : (a b c : Option (List ℕ)) (all : List ℕ) (limit : ℕ) → Consumes a b all → Keeps b c → length all ≤ limit → TookAtMost a c limit
took_no_more a b c all limit p kept h = (all, grind (arith, Consumes, Keeps), h)

-- so many bytes, which are within the limit
pub took_within : (a b : Option (List ℕ)) (n limit : ℕ) → Took a b n → n ≤ limit → TookAtMost a b limit
took_within a b n limit (bs, took, len) h = (bs, took, omega (arith, len, h))

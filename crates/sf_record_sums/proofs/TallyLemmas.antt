-- What the bytes of records add to the sums.
use Rattle.std.proofs.Common.{◌≡◌, ℕ, suc, ◌+◌, ◌-◌, ◌*◌, ◌/◌, ◌%◌, ◌^◌, ◌<◌, ◌≤◌, List, [], ◌∷◌, ◌++◌, All, false, ◌==◌, ◌&&◌, nat_lt, if◌then◌else◌, refl, sym, ap, ◌∙◌, length, length-append, arith, drop, take, get_or, take-append-drop, fold, ⊎_elim}
use Rattle.std.proofs.lemmas.Bool.{and_cases, cond-true, cond-false, cond_both, eqb-false, lt-ltb, le-ltb}
use Rattle.std.proofs.lemmas.List.{drop_more, drop-drop}
use Rattle.std.proofs.lemmas.List.Elements.{All-head, All-tail}
use Rattle.std.specs.Int.{byte_at}
use Rattle.std.specs.List.{flat_map, sum}
use Rattle.sf_record.specs.declared.record.HeldEntry.{HeldEntry}
use Rattle.sf_record.specs.declared.record.Record.{Record}
use Rattle.sf_record.specs.declared.record.Record.TheVariants as rec
use Rattle.sf_record.specs.declared.record.StuckEntry.{StuckEntry}
use Rattle.sf_record.specs.declared.record.Summary.{Summary}
use Rattle.sf_record.specs.Fitting.{Fits32, RecordFits}
use Rattle.sf_record.specs.Records.{body_of, buffer_bytes, bytes_of, held_bytes, list_bytes, record_bytes, stuck_bytes, u32_bytes, u64_bytes}
use Rattle.sf_record_sums.specs.declared.progress.Progress.{Progress}
use Rattle.sf_record_sums.specs.Steps.{added_up, after, begun, bump, plain_step, shifted, start, step}
use Rattle.sf_record_sums.specs.Summaries.{commits, frames, held, nothing, pixel_sum, rejected, replies, stuck, summary_of, total, vsyncs, wrapped}

pub after-append : (p : Progress) (xs ys : List ℕ) → after p (xs ++ ys) ≡ after (after p xs) ys
unfolding after
after-append p [] ys = refl
after-append p (x ∷ xs) ys = after-append (step p x) xs ys

-- bytes up to n, and those behind them
pub after-parts : (p : Progress) (n : ℕ) (bytes : List ℕ) → after (after p (take n bytes)) (drop n bytes) ≡ after p bytes
after-parts p n bytes = sym (after-append p (take n bytes) (drop n bytes)) ∙ ap (after p) (take-append-drop n bytes)

pub added_next : (n : ℕ) (bytes : List ℕ) (i byte next : ℕ) → i < length bytes → byte ≡ get_or bytes i 0 → next ≡ bump n byte → added_up next (drop (i + 1) bytes) ≡ added_up n (drop i bytes)
unfolding added_up
added_next n bytes i byte next h is e =
    ap (λ (m : ℕ). added_up m (drop (i + 1) bytes)) (e ∙ ap (bump n) is) ∙ sym (ap (added_up n) (drop_more bytes i 0 h))

pixel_step : (p : Progress) (byte : ℕ) → p.skip ≡ 0 → 0 < p.pixels
    → step p byte ≡ record p { summary = record p.summary { pixel_sum = bump p.summary.pixel_sum byte }; pixels = p.pixels - 1 }
pixel_step p byte skipped some = cond-false (nat_lt 0 p.skip) _ _ (le-ltb 0 p.skip (omega (arith, skipped))) ∙ cond-true (nat_lt 0 p.pixels) _ _ (lt-ltb 0 p.pixels some)

-- bytes of pixels are added up
pub pixels_after : (p : Progress) (bytes : List ℕ) → p.skip ≡ 0 → length bytes ≤ p.pixels
    → after p bytes ≡ record p { summary = record p.summary { pixel_sum = added_up p.summary.pixel_sum bytes }; pixels = p.pixels - length bytes }
unfolding after added_up
pixels_after p [] skipped within = let none : p.pixels ≡ p.pixels - 0 = omega arith in ap (λ (n : ℕ). record p { pixels = n }) none
pixels_after p (byte ∷ bytes) skipped within =
    let next = record p { summary = record p.summary { pixel_sum = bump p.summary.pixel_sum byte }; pixels = p.pixels - 1 } in
    let left : (p.pixels - 1) - length bytes ≡ p.pixels - suc (length bytes) = omega arith in
    ap (λ (q : Progress). after q bytes) (pixel_step p byte skipped (omega (arith, within))) ∙ pixels_after next bytes skipped (omega (arith, within))
    ∙ ap (λ (n : ℕ). record p { summary = record p.summary { pixel_sum = added_up (bump p.summary.pixel_sum byte) bytes }; pixels = n }) left

-- the rest of a record is passed over
tail_step : (s : Summary) (n byte : ℕ) → step (record (start s) { tail = suc n }) byte ≡ record (start s) { tail = n }
tail_step s n byte =
    let less : suc n - 1 ≡ n = omega arith in
    cond-true (nat_lt 0 (suc n)) _ _ (lt-ltb 0 (suc n) (omega arith)) ∙ ap (λ (m : ℕ). record (start s) { tail = m }) less

tail_after : (s : Summary) (bytes : List ℕ) → after (record (start s) { tail = length bytes }) bytes ≡ start s
unfolding after
tail_after s [] = refl
tail_after s (byte ∷ bytes) = ap (λ (p : Progress). after p bytes) (tail_step s (length bytes) byte) ∙ tail_after s bytes

-- the number in four bytes
four : (n : ℕ) → Fits32 n → shifted (shifted (shifted (shifted 0 (byte_at 3 n)) (byte_at 2 n)) (byte_at 1 n)) (byte_at 0 n) ≡ n
four n h = omega (arith, h)

abbrev tag_number : ℕ → ℕ → ℕ → ℕ → ℕ
tag_number a b c d = shifted (shifted (shifted (shifted 0 a) b) c) d

-- the head of a record
head_after : (a b c d n : ℕ) (s : Summary) (body : List ℕ) → Fits32 n → after (start s) (((a ∷ b ∷ c ∷ d ∷ []) ++ u32_bytes n) ++ body) ≡ after (begun (tag_number a b c d) n s) body
unfolding after u32_bytes
head_after a b c d n s body h = ap (λ (m : ℕ). after (begun (tag_number a b c d) m s) body) (four n h)

-- a record of which the head alone is needed
head_alone : (a b c d : ℕ) (s t : Summary) (body : List ℕ) → Fits32 (length body) → begun (tag_number a b c d) (length body) s ≡ record (start t) { tail = length body }
    → after (start s) (((a ∷ b ∷ c ∷ d ∷ []) ++ u32_bytes (length body)) ++ body) ≡ start t
head_alone a b c d s t body h e = head_after a b c d (length body) s body h ∙ ap (λ (p : Progress). after p body) e ∙ tail_after t body

-- how many entries a list has, by its bytes
held_length : (entries : List HeldEntry) → length (flat_map held_bytes entries) ≡ 24 * length entries
unfolding u32_bytes u64_bytes
held_length [] = refl
held_length (e ∷ es) = let rest = held_length es in omega (arith, rest, length-append (held_bytes e) (flat_map held_bytes es))

held_count : (entries : List HeldEntry) → (length (list_bytes held_bytes entries) - 4) / 24 ≡ length entries
unfolding list_bytes u32_bytes
held_count entries = let all = held_length entries in omega (arith, all, length-append (u32_bytes (length entries)) (flat_map held_bytes entries))

stuck_length : (entries : List StuckEntry) → length (flat_map stuck_bytes entries) ≡ 8 * length entries
unfolding u32_bytes
stuck_length [] = refl
stuck_length (e ∷ es) = let rest = stuck_length es in omega (arith, rest, length-append (stuck_bytes e) (flat_map stuck_bytes es))

stuck_count : (entries : List StuckEntry) → (length (list_bytes stuck_bytes entries) - 4) / 8 ≡ length entries
unfolding list_bytes u32_bytes
stuck_count entries = let all = stuck_length entries in omega (arith, all, length-append (u32_bytes (length entries)) (flat_map stuck_bytes entries))

-- the sums with one more record
abbrev added : Summary → Record → Summary
added s (rec.Scen _) = s
added s (rec.Repl _) = record s { replies = bump s.replies 1 }
added s (rec.Vsyn _) = record s { vsyncs = bump s.vsyncs 1 }
added s (rec.Comm c) = record s { commits = bump s.commits 1; rejected = bump s.rejected (if c.result == 0 then 0 else 1) }
added s (rec.Fram f) = record s { frames = bump s.frames 1; pixel_sum = added_up s.pixel_sum f.pixels }
added s (rec.Frad f) = record s { frames = bump s.frames 1; pixel_sum = added_up s.pixel_sum f.pixels }
added s (rec.Capt _) = s
added s (rec.Hits _) = s
added s (rec.Arrv _) = s
added s (rec.Hist _) = s
added s (rec.Hold entries) = record s { held = bump s.held (length entries) }
added s (rec.Stuk entries) = record s { stuck = bump s.stuck (length entries) }
added s rec.Done = s
added s (rec.Sflt _) = s
added s (rec.Summ _) = s

one_after : (s : Summary) (r : Record) → RecordFits r → after (start s) (record_bytes r) ≡ start (added s r)
unfolding record_bytes after u32_bytes body_of list_bytes
one_after s (rec.Scen x) h = head_alone 83 67 69 78 s s (body_of (rec.Scen x)) h.body refl
one_after s (rec.Repl x) h = head_alone 82 69 80 76 s (record s { replies = bump s.replies 1 }) (body_of (rec.Repl x)) h.body refl
one_after s (rec.Vsyn x) h = head_alone 86 83 89 78 s (record s { vsyncs = bump s.vsyncs 1 }) (body_of (rec.Vsyn x)) h.body refl
one_after s (rec.Comm c) h =
    let body = body_of (rec.Comm c) in
    let behind = u32_bytes c.operation ++ list_bytes buffer_bytes c.buffers in
    let end : length body - 12 ≡ length behind = omega arith in
    let sums = λ (n : ℕ). record s { commits = bump s.commits 1; rejected = bump s.rejected (if n == 0 then 0 else 1) } in
    head_after 67 79 77 77 (length body) s body h.body
    ∙ ap (λ (n : ℕ). after (record (start (sums n)) { tail = length body - 12 }) behind) (four c.result h.fields.result)
    ∙ ap (λ (n : ℕ). after (record (start (sums c.result)) { tail = n }) behind) end ∙ tail_after (sums c.result) behind
one_after s (rec.Fram f) h =
    let body = body_of (rec.Fram f) in
    let t = record s { frames = bump s.frames 1 } in
    let end : length body - 4 ≡ length f.pixels = omega arith in
    let none : length f.pixels - length f.pixels ≡ 0 = omega arith in
    head_after 70 82 65 77 (length body) s body h.body
    ∙ ap (λ (n : ℕ). after (record (start t) { pixels = n }) f.pixels) end
    ∙ pixels_after (record (start t) { pixels = length f.pixels }) f.pixels refl (omega arith)
    ∙ ap (λ (n : ℕ). record (start (record t { pixel_sum = added_up t.pixel_sum f.pixels })) { pixels = n }) none
one_after s (rec.Frad f) h =
    let body = body_of (rec.Frad f) in
    let t = record s { frames = bump s.frames 1 } in
    let end : length body - 8 ≡ length f.pixels = omega arith in
    let none : length f.pixels - length f.pixels ≡ 0 = omega arith in
    head_after 70 82 65 68 (length body) s body h.body
    ∙ ap (λ (n : ℕ). after (record (start t) { pixels = n }) f.pixels) end
    ∙ pixels_after (record (start t) { pixels = length f.pixels }) f.pixels refl (omega arith)
    ∙ ap (λ (n : ℕ). record (start (record t { pixel_sum = added_up t.pixel_sum f.pixels })) { pixels = n }) none
one_after s (rec.Capt x) h = head_alone 67 65 80 84 s s (body_of (rec.Capt x)) h.body refl
one_after s (rec.Hits x) h = head_alone 72 73 84 83 s s (body_of (rec.Hits x)) h.body refl
one_after s (rec.Arrv x) h = head_alone 65 82 82 86 s s (body_of (rec.Arrv x)) h.body refl
one_after s (rec.Hist x) h = head_alone 72 73 83 84 s s (body_of (rec.Hist x)) h.body refl
one_after s (rec.Hold x) h =
    let body = body_of (rec.Hold x) in
    head_alone 72 79 76 68 s (record s { held = bump s.held (length x) }) body h.body (ap (λ (n : ℕ). record (start (record s { held = bump s.held n })) { tail = length body }) (held_count x))
one_after s (rec.Stuk x) h =
    let body = body_of (rec.Stuk x) in
    head_alone 83 84 85 75 s (record s { stuck = bump s.stuck (length x) }) body h.body (ap (λ (n : ℕ). record (start (record s { stuck = bump s.stuck n })) { tail = length body }) (stuck_count x))
one_after s rec.Done h = head_alone 68 79 78 69 s s [] h.body refl
one_after s (rec.Sflt x) h = head_alone 83 70 76 84 s s (body_of (rec.Sflt x)) h.body refl
one_after s (rec.Summ x) h = head_alone 83 85 77 77 s s (body_of (rec.Summ x)) h.body refl

abbrev plus : Summary → Record → Summary
plus x r = record {
  replies = x.replies + replies r;
  vsyncs = x.vsyncs + vsyncs r;
  commits = x.commits + commits r;
  rejected = x.rejected + rejected r;
  frames = x.frames + frames r;
  pixel_sum = x.pixel_sum + pixel_sum r;
  held = x.held + held r;
  stuck = x.stuck + stuck r;
}

-- sums that began at x, with those of records
abbrev joined : Summary → List Record → Summary
joined x rs = record {
  replies = x.replies + total replies rs;
  vsyncs = x.vsyncs + total vsyncs rs;
  commits = x.commits + total commits rs;
  rejected = x.rejected + total rejected rs;
  frames = x.frames + total frames rs;
  pixel_sum = x.pixel_sum + total pixel_sum rs;
  held = x.held + total held rs;
  stuck = x.stuck + total stuck rs;
}

alike : (a b : Summary) → a.replies ≡ b.replies → a.vsyncs ≡ b.vsyncs → a.commits ≡ b.commits → a.rejected ≡ b.rejected → a.frames ≡ b.frames → a.pixel_sum ≡ b.pixel_sum → a.held ≡ b.held → a.stuck ≡ b.stuck → a ≡ b
alike a b r v c x f p h s =
    ap (λ (n : ℕ). record a { replies = n }) r
    ∙ ap (λ (n : ℕ). record a { replies = b.replies; vsyncs = n }) v
    ∙ ap (λ (n : ℕ). record a { replies = b.replies; vsyncs = b.vsyncs; commits = n }) c
    ∙ ap (λ (n : ℕ). record a { replies = b.replies; vsyncs = b.vsyncs; commits = b.commits; rejected = n }) x
    ∙ ap (λ (n : ℕ). record b { frames = n; pixel_sum = a.pixel_sum; held = a.held; stuck = a.stuck }) f
    ∙ ap (λ (n : ℕ). record b { pixel_sum = n; held = a.held; stuck = a.stuck }) p
    ∙ ap (λ (n : ℕ). record b { held = n; stuck = a.stuck }) h
    ∙ ap (λ (n : ℕ). record b { stuck = n }) s

keeps : (n : ℕ) → n % 2 ^ 64 ≡ (n + 0) % 2 ^ 64
keeps n = omega arith

bump_mod : (x k : ℕ) → bump (x % 2 ^ 64) k ≡ (x + k) % 2 ^ 64
bump_mod x k = omega arith

sum_from : (x : ℕ) (bytes : List ℕ) → fold (λ (a b : ℕ). a + b) x bytes ≡ x + sum bytes
sum_from x [] = omega arith
sum_from x (byte ∷ bytes) = let all = sum_from (x + byte) bytes in let behind = sum_from (0 + byte) bytes in omega (arith, all, behind)

added_up_mod : (x : ℕ) (bytes : List ℕ) → added_up (x % 2 ^ 64) bytes ≡ fold (λ (a b : ℕ). a + b) x bytes % 2 ^ 64
unfolding added_up
added_up_mod x [] = refl
added_up_mod x (byte ∷ bytes) = ap (λ (n : ℕ). added_up n bytes) (bump_mod x byte) ∙ added_up_mod (x + byte) bytes

sum_mod : (x : ℕ) (bytes : List ℕ) → added_up (x % 2 ^ 64) bytes ≡ (x + sum bytes) % 2 ^ 64
sum_mod x bytes = added_up_mod x bytes ∙ ap (λ (n : ℕ). n % 2 ^ 64) (sum_from x bytes)

unchanged : (x : Summary) → wrapped x ≡ wrapped (record { replies = x.replies + 0; vsyncs = x.vsyncs + 0; commits = x.commits + 0; rejected = x.rejected + 0; frames = x.frames + 0; pixel_sum = x.pixel_sum + 0; held = x.held + 0; stuck = x.stuck + 0 })
unchanged x = alike _ _ (keeps _) (keeps _) (keeps _) (keeps _) (keeps _) (keeps _) (keeps _) (keeps _)

added_is : (x : Summary) (r : Record) → added (wrapped x) r ≡ wrapped (plus x r)
added_is x (rec.Scen _) = unchanged x
added_is x (rec.Repl _) = alike _ _ (bump_mod _ _) (keeps _) (keeps _) (keeps _) (keeps _) (keeps _) (keeps _) (keeps _)
added_is x (rec.Vsyn _) = alike _ _ (keeps _) (bump_mod _ _) (keeps _) (keeps _) (keeps _) (keeps _) (keeps _) (keeps _)
added_is x (rec.Comm _) = alike _ _ (keeps _) (keeps _) (bump_mod _ _) (bump_mod _ _) (keeps _) (keeps _) (keeps _) (keeps _)
added_is x (rec.Fram f) = alike _ _ (keeps _) (keeps _) (keeps _) (keeps _) (bump_mod _ _) (sum_mod _ f.pixels) (keeps _) (keeps _)
added_is x (rec.Frad f) = alike _ _ (keeps _) (keeps _) (keeps _) (keeps _) (bump_mod _ _) (sum_mod _ f.pixels) (keeps _) (keeps _)
added_is x (rec.Capt _) = unchanged x
added_is x (rec.Hits _) = unchanged x
added_is x (rec.Arrv _) = unchanged x
added_is x (rec.Hist _) = unchanged x
added_is x (rec.Hold _) = alike _ _ (keeps _) (keeps _) (keeps _) (keeps _) (keeps _) (keeps _) (bump_mod _ _) (keeps _)
added_is x (rec.Stuk _) = alike _ _ (keeps _) (keeps _) (keeps _) (keeps _) (keeps _) (keeps _) (keeps _) (bump_mod _ _)
added_is x rec.Done = unchanged x
added_is x (rec.Sflt _) = unchanged x
added_is x (rec.Summ _) = unchanged x

regroup : (a b c : ℕ) → ((a + b) + c) % 2 ^ 64 ≡ (a + (b + c)) % 2 ^ 64
regroup a b c = omega arith

-- the bytes of records add what the records come to
all_after : (x : Summary) (rs : List Record) → All RecordFits rs → after (start (wrapped x)) (bytes_of rs) ≡ start (wrapped (joined x rs))
unfolding total bytes_of after
all_after x [] h = ap start (unchanged x)
all_after x (r ∷ rs) h =
    let front : after (start (wrapped x)) (record_bytes r) ≡ start (wrapped (plus x r)) = one_after (wrapped x) r (All-head RecordFits r rs h) ∙ ap start (added_is x r) in
    after-append (start (wrapped x)) (record_bytes r) (bytes_of rs) ∙ ap (λ (p : Progress). after p (bytes_of rs)) front
    ∙ all_after (plus x r) rs (All-tail RecordFits r rs h)
    ∙ ap start (alike _ _ (regroup _ _ _) (regroup _ _ _) (regroup _ _ _) (regroup _ _ _) (regroup _ _ _) (regroup _ _ _) (regroup _ _ _) (regroup _ _ _))

from_none : (n : ℕ) → (0 + n) % 2 ^ 64 ≡ n % 2 ^ 64
from_none n = omega arith

pub summed_up : (p : Progress) (bytes : List ℕ) (rs : List Record) → p ≡ after (start nothing) bytes → All RecordFits rs → bytes ≡ bytes_of rs → p.summary ≡ wrapped (summary_of rs)
summed_up p bytes rs is h all =
    ap (λ (q : Progress). q.summary) (is ∙ ap (after (start nothing)) all ∙ all_after nothing rs h)
    ∙ alike _ _ (from_none _) (from_none _) (from_none _) (from_none _) (from_none _) (from_none _) (from_none _) (from_none _)

-- a byte that is none of pixels
plain : (p : Progress) (byte : ℕ) → (p.skip == 0) && nat_lt 0 p.pixels ≡ false → step p byte ≡ plain_step p byte
plain p byte h =
    ⊎_elim
    (λ e. let some : 0 < p.skip = let differs = eqb-false p.skip 0 e in grind arith in cond-true (nat_lt 0 p.skip) _ _ (lt-ltb 0 p.skip some))
    (λ e. cond_both (nat_lt 0 p.skip) _ _ (λ (q : Progress). q ≡ plain_step p byte) (λ _. refl) (λ _. cond-false (nat_lt 0 p.pixels) _ _ e))
    (and_cases (p.skip == 0) (nat_lt 0 p.pixels) h)

pub plain_after : (p q : Progress) (bytes : List ℕ) → 0 < length bytes → (p.skip == 0) && nat_lt 0 p.pixels ≡ false → q ≡ plain_step p (get_or bytes 0 0) → q ≡ after p (take 1 bytes)
unfolding after
plain_after p q [] some h e = absurd (omega arith)
plain_after p q (byte ∷ bytes) some h e = e ∙ sym (plain p byte h)

-- the bytes up to `done` were read, and then `count` more
pub on_after : (p q all : Progress) (bytes : List ℕ) (done count : ℕ) → after p (drop done bytes) ≡ all → q ≡ after p (take count (drop done bytes)) → after q (drop (done + count) bytes) ≡ all
on_after p q all bytes done count so_far e =
    ap (after q) (sym (drop-drop count done bytes)) ∙ ap (λ (x : Progress). after x (drop count (drop done bytes))) e ∙ after-parts p count (drop done bytes) ∙ so_far

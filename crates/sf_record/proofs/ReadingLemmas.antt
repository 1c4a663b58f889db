-- What was written of records that fit is read back.
use Rattle.std.proofs.Common.{◌≡◌, ℕ, zero, suc, ◌+◌, ◌-◌, ◌*◌, ◌%◌, ◌^◌, ◌<◌, ◌≤◌, List, [], ◌∷◌, ◌++◌, All, drop, length, take, refl, sym, ap, subst, ◌∙◌, append_assoc, arith, length-append, lit<}
use Rattle.std.proofs.Math.Arith.{mod-mul}
use Rattle.std.proofs.Math.Nat.{mod-eq_of_lt, one-le-pow, pow-succ'}
use Rattle.std.proofs.Math.Seq.{drop-append_seam, take-append_seam}
use Rattle.std.proofs.lemmas.List.Elements.{All-head, All-tail}
use Rattle.std.specs.Int.{byte_at, bytes_high_first}
use Rattle.std.specs.List.{flat_map}
use Rattle.sf_script.specs.declared.fault.ScriptFault.{ScriptFault}
use Rattle.sf_record.specs.declared.record.ArrivalEntry.{ArrivalEntry}
use Rattle.sf_record.specs.declared.record.CommitRecord.{CommitRecord}
use Rattle.sf_record.specs.declared.record.CommittedBuffer.{CommittedBuffer}
use Rattle.sf_record.specs.declared.record.HeldEntry.{HeldEntry}
use Rattle.sf_record.specs.declared.record.HistoryEntry.{HistoryEntry}
use Rattle.sf_record.specs.declared.record.Hit.{Hit}
use Rattle.sf_record.specs.declared.record.NumberedFrame.{NumberedFrame}
use Rattle.sf_record.specs.declared.record.QueueHistory.{QueueHistory}
use Rattle.sf_record.specs.declared.record.Record.{Record}
use Rattle.sf_record.specs.declared.record.Record.TheVariants as rec
use Rattle.sf_record.specs.declared.record.ReplyRecord.{ReplyRecord}
use Rattle.sf_record.specs.declared.record.SceneHeader.{SceneHeader}
use Rattle.sf_record.specs.declared.record.StuckEntry.{StuckEntry}
use Rattle.sf_record.specs.declared.record.Summary.{Summary}
use Rattle.sf_record.specs.declared.record.TimelineValue.{TimelineValue}
use Rattle.sf_record.specs.declared.record.VsyncHeader.{VsyncHeader}
use Rattle.sf_record.specs.Fitting.{ArrivalFits, BufferFits, CallFits, CommitFits, FaultFits, Fits32, Fits64, HeldFits, HistoryFits, HitFits, ListFits, NumberedFits, RecordFits, ReplyFits, SceneFits, StuckFits, SummaryFits, TimelineFits, VsyncFits}
use Rattle.sf_record.specs.Reading.{AreDetermined, AreReadBack, Reader, list_of, read_arrival, read_body, read_buffer, read_call, read_commit, read_fault, read_held, read_history, read_hit, read_items, read_number, read_numbered, read_record, read_reply, read_scene, read_stuck, read_summary, read_timeline, read_up_to, read_vsync, records_in, so_many, u32, u64, ◌and◌, ◌of◌}
use Rattle.sf_record.specs.Records.{arrival_bytes, body_of, buffer_bytes, bytes_of, held_bytes, history_entry_bytes, hit_bytes, list_bytes, numbered_bytes, record_bytes, stuck_bytes, summary_bytes, tag_of, timeline_bytes, u32_bytes, u64_bytes}

-- the reader reads this value from these bytes, whatever follows
pub record Reads {A : Type 0} (reader : Reader A) (bytes : List ℕ) (value : A) : Type 0 where
  pub whole : (rest : List ℕ) → reader (bytes ++ rest) ≡ (value, rest)

-- the highest of k + 1 bytes and the number in the others
byte_more : (k n : ℕ) → byte_at k n * 256 ^ k + n % 256 ^ k ≡ n % 256 ^ suc k
byte_more zero n = omega arith
byte_more (suc k) n =
    let positive : zero < 256 ^ suc k = one-le-pow _ _ (lit< tt) in
    sym (ap (λ (m : ℕ). n % m) (pow-succ' 256 (suc k)) ∙ mod-mul n (lit< tt) positive)

number_read : (k n : ℕ) (rest : List ℕ) → read_number k (bytes_high_first k n ++ rest) ≡ (n % 256 ^ k, rest)
unfolding read_number
number_read zero n rest = let none : 0 ≡ n % 256 ^ zero = omega arith in ap (λ (m : ℕ). (m, rest)) none
number_read (suc k) n rest =
    ap (λ (l : ℕ × List ℕ). (byte_at k n * 256 ^ k + l.0, l.1)) (number_read k n rest) ∙ ap (λ (m : ℕ). (m, rest)) (byte_more k n)

u32_read : {n : ℕ} → Fits32 n → Reads u32 (u32_bytes n) n
unfolding u32_bytes
u32_read {n} h = record { whole = λ rest. number_read 4 n rest ∙ ap (λ (m : ℕ). (m, rest)) (mod-eq_of_lt h) }

u64_read : {n : ℕ} → Fits64 n → Reads u64 (u64_bytes n) n
unfolding u64_bytes
u64_read {n} h = record { whole = λ rest. number_read 8 n rest ∙ ap (λ (m : ℕ). (m, rest)) (mod-eq_of_lt h) }

of_read : {A B : Type 0} (make : A → B) {reads : Reader A} {bytes : List ℕ} {a : A} → Reads reads bytes a → Reads (make of reads) bytes (make a)
unfolding ◌of◌
of_read {A} {B} make {reads} {bytes} {a} h = record { whole = λ rest. ap (λ (r : A × List ℕ). (make r.0, r.1)) (h.whole rest) }

and_read : {A B : Type 0} {makes : Reader (A → B)} {reads : Reader A} {front back : List ℕ} {f : A → B} {a : A} → Reads makes front f → Reads reads back a → Reads (makes and reads) (front ++ back) (f a)
unfolding ◌and◌
and_read {A} {B} {makes} {reads} {front} {back} {f} {a} g h = record {
  whole = λ rest. ap (makes and reads) (append_assoc front back rest)
      ∙ ap (λ (m : (A → B) × List ℕ). (m.0 (reads m.1).0, (reads m.1).1)) (g.whole (back ++ rest))
      ∙ ap (λ (r : A × List ℕ). (f r.0, r.1)) (h.whole rest);
}

items_read : {A : Type 0} (item : Reader A) (bytes : A → List ℕ) (ItemFits : A → Type 0) → ((a : A) → ItemFits a → Reads item (bytes a) a) → (xs : List A) → All ItemFits xs
    → (rest : List ℕ) → read_items (length xs) item (flat_map bytes xs ++ rest) ≡ (xs, rest)
unfolding read_items
items_read item bytes ItemFits each [] h rest = refl
items_read {A} item bytes ItemFits each (x ∷ xs) h rest =
    ap (read_items (suc (length xs)) item) (append_assoc (bytes x) (flat_map bytes xs) rest)
    ∙ ap (λ (r : A × List ℕ). (r.0 ∷ (read_items (length xs) item r.1).0, (read_items (length xs) item r.1).1)) ((each x (All-head ItemFits x xs h)).whole (flat_map bytes xs ++ rest))
    ∙ ap (λ (r : List A × List ℕ). (x ∷ r.0, r.1)) (items_read item bytes ItemFits each xs (All-tail ItemFits x xs h) rest)

list_read : {A : Type 0} {item : Reader A} {bytes : A → List ℕ} {ItemFits : A → Type 0} → ((a : A) → ItemFits a → Reads item (bytes a) a) → {xs : List A} → ListFits ItemFits xs → Reads (list_of item) (list_bytes bytes xs) xs
unfolding list_of list_bytes
list_read {A} {item} {bytes} {ItemFits} each {xs} h = record {
  whole = λ rest. ap (list_of item) (append_assoc (u32_bytes (length xs)) (flat_map bytes xs) rest)
      ∙ ap (λ (c : ℕ × List ℕ). read_items c.0 item c.1) ((u32_read h.count).whole (flat_map bytes xs ++ rest))
      ∙ items_read item bytes ItemFits each xs h.each rest;
}

so_many_read : (bs : List ℕ) → Reads (so_many (length bs)) bs bs
unfolding so_many
so_many_read bs = record {
  whole = λ rest. ap (λ (l : List ℕ). (l, drop (length bs) (bs ++ rest))) (take-append_seam bs rest) ∙ ap (λ (l : List ℕ). (bs, l)) (drop-append_seam bs rest);
}

scene_read : (s : SceneHeader) → SceneFits s → Reads read_scene (u32_bytes s.version ++ u32_bytes s.width ++ u32_bytes s.height ++ u64_bytes s.period) s
unfolding read_scene
scene_read s h = and_read (and_read (and_read (of_read _ (u32_read h.version)) (u32_read h.width)) (u32_read h.height)) (u64_read h.period)

reply_read : (r : ReplyRecord) → ReplyFits r → Reads read_reply (u32_bytes r.actor ++ u32_bytes r.step ++ u32_bytes r.status ++ list_bytes u64_bytes r.values) r
unfolding read_reply
reply_read r h = and_read (and_read (and_read (of_read _ (u32_read h.actor)) (u32_read h.step)) (u32_read h.status)) (list_read (λ n fits. u64_read fits) h.values)

timeline_read : (t : TimelineValue) → TimelineFits t → Reads read_timeline (timeline_bytes t) t
unfolding read_timeline
timeline_read t h = and_read (of_read _ (u32_read h.timeline)) (u64_read h.value)

vsync_read : (v : VsyncHeader) → VsyncFits v → Reads read_vsync (u32_bytes v.number ++ u64_bytes v.expected ++ list_bytes timeline_bytes v.timelines) v
unfolding read_vsync
vsync_read v h = and_read (and_read (of_read _ (u32_read h.number)) (u64_read h.expected)) (list_read timeline_read h.timelines)

buffer_read : (b : CommittedBuffer) → BufferFits b → Reads read_buffer (buffer_bytes b) b
unfolding read_buffer
buffer_read b h =
    and_read (and_read (and_read (and_read (and_read (and_read (and_read (of_read _ (u32_read h.layer)) (u32_read h.queue)) (u64_read h.frame)) (u32_read h.picture)) (u32_read h.x)) (u32_read h.y)) (u32_read h.width)) (u32_read h.height)

commit_read : (c : CommitRecord) → CommitFits c → Reads read_commit (u32_bytes c.token ++ u32_bytes c.arrival ++ u32_bytes c.result ++ u32_bytes c.operation ++ list_bytes buffer_bytes c.buffers) c
unfolding read_commit
commit_read c h = and_read (and_read (and_read (and_read (of_read _ (u32_read h.token)) (u32_read h.arrival)) (u32_read h.result)) (u32_read h.operation)) (list_read buffer_read h.buffers)

arrival_read : (a : ArrivalEntry) → ArrivalFits a → Reads read_arrival (arrival_bytes a) a
unfolding read_arrival
arrival_read a h = and_read (and_read (of_read _ (u32_read h.actor)) (u32_read h.step)) (u32_read h.token)

call_read : (e : HistoryEntry) → CallFits e → Reads read_call (history_entry_bytes e) e
unfolding read_call
call_read e h = and_read (and_read (and_read (and_read (and_read (of_read _ (u32_read h.caller)) (u32_read h.step)) (u32_read h.kind)) (u32_read h.status)) (u32_read h.slot)) (u64_read h.frame)

history_read : (q : QueueHistory) → HistoryFits q → Reads read_history (u32_bytes q.queue ++ list_bytes history_entry_bytes q.entries) q
unfolding read_history
history_read q h = and_read (of_read _ (u32_read h.queue)) (list_read call_read h.entries)

held_read : (e : HeldEntry) → HeldFits e → Reads read_held (held_bytes e) e
unfolding read_held
held_read e h = and_read (and_read (and_read (of_read _ (u32_read h.arrival)) (u32_read h.hold)) (u64_read h.a)) (u64_read h.b)

stuck_read : (s : StuckEntry) → StuckFits s → Reads read_stuck (stuck_bytes s) s
unfolding read_stuck
stuck_read s h = and_read (of_read _ (u32_read h.actor)) (u32_read h.step)

fault_read : (f : ScriptFault) → FaultFits f → Reads read_fault (u32_bytes f.line ++ u32_bytes f.word ++ u32_bytes f.cause) f
unfolding read_fault
fault_read f h = and_read (and_read (of_read _ (u32_read h.line)) (u32_read h.word)) (u32_read h.cause)

summary_read : (s : Summary) → SummaryFits s → Reads read_summary (summary_bytes s) s
unfolding read_summary
summary_read s h =
    and_read (and_read (and_read (and_read (and_read (and_read (and_read (of_read _ (u64_read h.replies)) (u64_read h.vsyncs)) (u64_read h.commits)) (u64_read h.rejected)) (u64_read h.frames)) (u64_read h.pixel_sum)) (u64_read h.held)) (u64_read h.stuck)

-- how many bytes the pixels of a frame have, by what its body has
pixels_left : (k : ℕ) (pixels : List ℕ) → Fits32 (length (u32_bytes k ++ pixels)) → length (u32_bytes k ++ pixels) % 256 ^ 4 - 4 ≡ length pixels
unfolding u32_bytes
pixels_left k pixels h =
    let whole : length (bytes_high_first 4 k ++ pixels) ≡ 4 + length pixels = length-append (bytes_high_first 4 k) pixels in
    let kept : length (bytes_high_first 4 k ++ pixels) % 256 ^ 4 ≡ length (bytes_high_first 4 k ++ pixels) = mod-eq_of_lt h in
    omega (arith, kept, whole)

-- the same where two numbers stand in front of them
pixels_behind : (f : NumberedFrame) → Fits32 (length (numbered_bytes f)) → length (numbered_bytes f) % 256 ^ 4 - 8 ≡ length f.pixels
unfolding u32_bytes
pixels_behind f h =
    let whole : length (numbered_bytes f) ≡ 8 + length f.pixels = length-append (bytes_high_first 4 f.output ++ bytes_high_first 4 f.number) f.pixels in
    let kept : length (numbered_bytes f) % 256 ^ 4 ≡ length (numbered_bytes f) = mod-eq_of_lt h in
    omega (arith, kept, whole)

numbered_read : (f : NumberedFrame) → NumberedFits f → Fits32 (length (numbered_bytes f)) → Reads (read_numbered (length (numbered_bytes f) % 256 ^ 4)) (numbered_bytes f) f
unfolding read_numbered
numbered_read f h whole =
    let pixels : Reads (so_many (length (numbered_bytes f) % 256 ^ 4 - 8)) f.pixels f.pixels =
    subst (λ (n : ℕ). Reads (so_many n) f.pixels f.pixels) (sym (pixels_behind f whole)) (so_many_read f.pixels) in
    and_read (and_read (of_read _ (u32_read h.output)) (u32_read h.number)) pixels

hit_read : (x : Hit) → HitFits x → Reads read_hit (hit_bytes x) x
unfolding read_hit
hit_read x h = and_read (and_read (of_read _ (u32_read h.output)) (u32_read h.number)) (u32_read h.layer)

body_read : (r : Record) → RecordFits r → Reads (read_body (tag_of r) (length (body_of r) % 256 ^ 4)) (body_of r) r
unfolding read_body body_of
body_read (rec.Scen s) h = of_read _ (scene_read s h.fields)
body_read (rec.Repl r) h = of_read _ (reply_read r h.fields)
body_read (rec.Vsyn v) h = of_read _ (vsync_read v h.fields)
body_read (rec.Comm c) h = of_read _ (commit_read c h.fields)
body_read (rec.Fram f) h =
    let pixels : Reads (so_many (length (u32_bytes f.number ++ f.pixels) % 256 ^ 4 - 4)) f.pixels f.pixels =
    subst (λ (n : ℕ). Reads (so_many n) f.pixels f.pixels) (sym (pixels_left f.number f.pixels h.body)) (so_many_read f.pixels) in
    and_read (of_read _ (u32_read h.fields)) pixels
body_read (rec.Frad f) h = of_read _ (numbered_read f h.fields h.body)
body_read (rec.Capt f) h = of_read _ (numbered_read f h.fields h.body)
body_read (rec.Hits x) h = of_read _ (hit_read x h.fields)
body_read (rec.Arrv arrivals) h = of_read _ (list_read arrival_read h.fields)
body_read (rec.Hist history) h = of_read _ (history_read history h.fields)
body_read (rec.Hold held) h = of_read _ (list_read held_read h.fields)
body_read (rec.Stuk stuck) h = of_read _ (list_read stuck_read h.fields)
body_read rec.Done h = record { whole = λ rest. refl }
body_read (rec.Sflt fault) h = of_read _ (fault_read fault h.fields)
body_read (rec.Summ summary) h = of_read _ (summary_read summary h.fields)

length-tag : (r : Record) → length (tag_of r) ≡ 4
length-tag (rec.Scen s) = refl
length-tag (rec.Repl r) = refl
length-tag (rec.Vsyn v) = refl
length-tag (rec.Comm c) = refl
length-tag (rec.Fram f) = refl
length-tag (rec.Frad f) = refl
length-tag (rec.Capt f) = refl
length-tag (rec.Hits x) = refl
length-tag (rec.Arrv arrivals) = refl
length-tag (rec.Hist history) = refl
length-tag (rec.Hold held) = refl
length-tag (rec.Stuk stuck) = refl
length-tag rec.Done = refl
length-tag (rec.Sflt fault) = refl
length-tag (rec.Summ summary) = refl

-- behind a tag of four bytes and a length comes the body
behind_tag : (tag counted behind : List ℕ) (n : ℕ) → length tag ≡ 4 → u32 (counted ++ behind) ≡ (n, behind) → read_record (tag ++ (counted ++ behind)) ≡ read_body tag n behind
unfolding read_record
behind_tag tag counted behind n four number =
    let back : drop 4 (tag ++ (counted ++ behind)) ≡ counted ++ behind = ap (λ (k : ℕ). drop k (tag ++ (counted ++ behind))) (sym four) ∙ drop-append_seam tag (counted ++ behind) in
    let front : take 4 (tag ++ (counted ++ behind)) ≡ tag = ap (λ (k : ℕ). take k (tag ++ (counted ++ behind))) (sym four) ∙ take-append_seam tag (counted ++ behind) in
    ap (λ (l : List ℕ). read_body l (u32 (drop 4 (tag ++ (counted ++ behind)))).0 (u32 (drop 4 (tag ++ (counted ++ behind)))).1) front
    ∙ ap (λ (l : List ℕ). read_body tag (u32 l).0 (u32 l).1) back ∙ ap (λ (c : ℕ × List ℕ). read_body tag c.0 c.1) number

record_read : (r : Record) → RecordFits r → Reads read_record (record_bytes r) r
unfolding record_bytes
record_read r h = record {
  whole = λ rest.
      let body = body_of r in
      let counted = bytes_high_first 4 (length body) in
      ap read_record (append_assoc (tag_of r ++ counted) body rest ∙ append_assoc (tag_of r) counted (body ++ rest))
      ∙ behind_tag (tag_of r) counted (body ++ rest) (length body % 256 ^ 4) (length-tag r) (number_read 4 (length body) (body ++ rest))
      ∙ (body_read r h).whole rest;
}

-- a record has a byte at least
some_bytes : (r : Record) → 0 < length (record_bytes r)
unfolding record_bytes
some_bytes r =
    let four = length-tag r in
    let counted = bytes_high_first 4 (length (body_of r)) in
    omega (arith, four, length-append (tag_of r ++ counted) (body_of r), length-append (tag_of r) counted)

read_one_more : (most : ℕ) (bytes : List ℕ) → 0 < length bytes → read_up_to (suc most) bytes ≡ (read_record bytes).0 ∷ read_up_to most (read_record bytes).1
unfolding read_up_to
read_one_more most [] h = absurd (omega arith)
read_one_more most (b ∷ bytes) h = refl

read_nothing : (most : ℕ) → read_up_to most [] ≡ []
unfolding read_up_to
read_nothing zero = refl
read_nothing (suc most) = refl

read_each : (records : List Record) (most : ℕ) → length records ≤ most → All RecordFits records → read_up_to most (bytes_of records) ≡ records
unfolding bytes_of
read_each [] most h all = read_nothing most
read_each (r ∷ rs) zero h all = absurd (omega arith)
read_each (r ∷ rs) (suc most) h all =
    let one = some_bytes r in
    let some : 0 < length (record_bytes r ++ bytes_of rs) = omega (arith, one, length-append (record_bytes r) (bytes_of rs)) in
    read_one_more most (record_bytes r ++ bytes_of rs) some
    ∙ ap (λ (x : Record × List ℕ). x.0 ∷ read_up_to most x.1) ((record_read r (All-head RecordFits r rs all)).whole (bytes_of rs))
    ∙ ap (λ (l : List Record). r ∷ l) (read_each rs most (omega arith) (All-tail RecordFits r rs all))

no_more_than_bytes : (records : List Record) → length records ≤ length (bytes_of records)
unfolding bytes_of
no_more_than_bytes [] = omega arith
no_more_than_bytes (r ∷ rs) =
    let one = some_bytes r in
    let others = no_more_than_bytes rs in
    omega (arith, one, others, length-append (record_bytes r) (bytes_of rs))

pub read_back : AreReadBack
unfolding records_in
read_back records all = read_each records (length (bytes_of records)) (no_more_than_bytes records) all

pub determined : AreDetermined
determined first second all every same = sym (read_back first all) ∙ ap records_in same ∙ read_back second every

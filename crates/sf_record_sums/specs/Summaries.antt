-- What records come to.
use Rattle.std.specs.Prelude.{ℕ, ◌+◌, ◌%◌, ◌^◌, ◌==◌, List, [], ◌∷◌, if◌then◌else◌, length}
use Rattle.std.specs.List.{sum}
use Rattle.sf_record.specs.declared.record.Record.{Record}
use Rattle.sf_record.specs.declared.record.Record.TheVariants as rec
use Rattle.sf_record.specs.declared.record.Summary.{Summary}

-- the sum of a number of each record
unfoldable pub total : (Record → ℕ) → List Record → ℕ
total number [] = 0
total number (r ∷ rs) = number r + total number rs

-- how many replies a record is, one or none
abbrev pub replies : Record → ℕ
replies (rec.Repl _) = 1
replies _ = 0

-- how many vsyncs a record begins, one or none
abbrev pub vsyncs : Record → ℕ
vsyncs (rec.Vsyn _) = 1
vsyncs _ = 0

-- how many commits a record is, one or none
abbrev pub commits : Record → ℕ
commits (rec.Comm _) = 1
commits _ = 0

-- how many rejected transactions a record is, one or none
abbrev pub rejected : Record → ℕ
rejected (rec.Comm c) = if c.result == 0 then 0 else 1
rejected _ = 0

-- how many frames of displays a record is, one or none
abbrev pub frames : Record → ℕ
frames (rec.Fram _) = 1
frames (rec.Frad _) = 1
frames _ = 0

-- the sum of the bytes of a record's pixels
abbrev pub pixel_sum : Record → ℕ
pixel_sum (rec.Fram f) = sum f.pixels
pixel_sum (rec.Frad f) = sum f.pixels
pixel_sum _ = 0

-- how many held transactions a record has
abbrev pub held : Record → ℕ
held (rec.Hold entries) = length entries
held _ = 0

-- how many stuck actors a record has
abbrev pub stuck : Record → ℕ
stuck (rec.Stuk entries) = length entries
stuck _ = 0

-- how many replies, vsyncs, commits, rejected commits and frames; the sum of all bytes of pixels; how many are held and stuck
abbrev pub summary_of : List Record → Summary
summary_of rs = record {
  replies = total replies rs;
  vsyncs = total vsyncs rs;
  commits = total commits rs;
  rejected = total rejected rs;
  frames = total frames rs;
  pixel_sum = total pixel_sum rs;
  held = total held rs;
  stuck = total stuck rs;
}

abbrev pub nothing : Summary
nothing = record { replies = 0; vsyncs = 0; commits = 0; rejected = 0; frames = 0; pixel_sum = 0; held = 0; stuck = 0 }

-- each number as 64 bits hold it
abbrev pub wrapped : Summary → Summary
wrapped s = record {
  replies = s.replies % 2 ^ 64;
  vsyncs = s.vsyncs % 2 ^ 64;
  commits = s.commits % 2 ^ 64;
  rejected = s.rejected % 2 ^ 64;
  frames = s.frames % 2 ^ 64;
  pixel_sum = s.pixel_sum % 2 ^ 64;
  held = s.held % 2 ^ 64;
  stuck = s.stuck % 2 ^ 64;
}

-- How far the bytes of records are read, and what was counted of them, byte by byte.
use Rattle.std.specs.Prelude.{ℕ, ◌+◌, ◌-◌, ◌*◌, ◌/◌, ◌%◌, ◌^◌, ◌==◌, nat_lt, List, [], ◌∷◌, if◌then◌else◌}
use Rattle.sf_record.specs.declared.record.Summary.{Summary}
use Rattle.sf_record_sums.specs.declared.progress.Progress.{Progress}

-- at the start of a record
abbrev pub start : Summary → Progress
start s = record { summary = s; head = 0; tag = 0; number = 0; skip = 0; pixels = 0; result = 0; tail = 0 }

abbrev pub bump : ℕ → ℕ → ℕ
bump before more = (before + more) % 2 ^ 64

-- a number of four bytes, with one more byte
abbrev pub shifted : ℕ → ℕ → ℕ
shifted number byte = ((number * 256) % 2 ^ 32 + byte) % 2 ^ 32

-- the sums with the head of a record: its tag as a number, and the length of its body. An entry of HOLD has 24 bytes, one of STUK 8
abbrev pub counted : ℕ → ℕ → Summary → Summary
counted tag length s =
    if tag == 1380274252 then record s { replies = bump s.replies 1 } else
    if tag == 1448302926 then record s { vsyncs = bump s.vsyncs 1 } else
    if tag == 1129270605 then record s { commits = bump s.commits 1 } else
    if tag == 1179795789 then record s { frames = bump s.frames 1 } else
    if tag == 1179795780 then record s { frames = bump s.frames 1 } else
    if tag == 1213156420 then record s { held = bump s.held ((length - 4) / 24) } else
    if tag == 1398035787 then record s { stuck = bump s.stuck ((length - 4) / 8) } else s

-- behind the head: the result of COMM is in the bytes 8 to 11 of its body, the pixels of FRAM begin at 4, those of FRAD at 8
abbrev pub begun : ℕ → ℕ → Summary → Progress
begun tag length s =
    let counted = start (counted tag length s) in
    if tag == 1129270605 then record counted { skip = 8; result = 4; tail = length - 12 } else
    if tag == 1179795789 then record counted { skip = 4; pixels = length - 4 } else
    if tag == 1179795780 then record counted { skip = 8; pixels = length - 8 } else record counted { tail = length }

-- a byte of the head
abbrev pub headed : Progress → ℕ → Progress
headed p byte =
    let number = shifted p.number byte in
    if p.head == 3 then record p { head = 4; tag = number; number = 0 } else
    if nat_lt p.head 7 then record p { head = p.head + 1; number = number } else begun p.tag number p.summary

-- a byte of the result of a commit
abbrev pub judged : Progress → ℕ → Progress
judged p byte =
    let number = shifted p.number byte in
    if nat_lt 1 p.result then record p { result = p.result - 1; number = number } else
    record p { summary = record p.summary { rejected = bump p.summary.rejected (if number == 0 then 0 else 1) }; result = 0; number = 0 }

-- a byte that is none of pixels
abbrev pub plain_step : Progress → ℕ → Progress
plain_step p byte =
    if nat_lt 0 p.skip then record p { skip = p.skip - 1 } else
    if nat_lt 0 p.result then judged p byte else
    if nat_lt 0 p.tail then record p { tail = p.tail - 1 } else headed p byte

-- any byte
abbrev pub step : Progress → ℕ → Progress
step p byte =
    if nat_lt 0 p.skip then plain_step p byte else
    if nat_lt 0 p.pixels then record p { summary = record p.summary { pixel_sum = bump p.summary.pixel_sum byte }; pixels = p.pixels - 1 } else
    plain_step p byte

unfoldable pub after : Progress → List ℕ → Progress
after p [] = p
after p (byte ∷ bytes) = after (step p byte) bytes

unfoldable pub added_up : ℕ → List ℕ → ℕ
added_up n [] = n
added_up n (byte ∷ bytes) = added_up (bump n byte) bytes

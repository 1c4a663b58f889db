-- What a call that reads or writes many times does to the bytes that are known.
use Rattle.std.specs.Prelude.{◌≡◌, ℕ, ◌≤◌, List, ◌++◌, length, take, Option}
use Rattle.byteorder.specs.Endian.{big_bytes}
use Rattle.std.specs.Io.KnownBytes.{Appends, Consumes}

-- a source gave n bytes
abbrev pub Took : Option (List ℕ) → Option (List ℕ) → ℕ → Type 0
Took old new n = (bs : List ℕ) × Consumes old new bs × (length bs ≡ n)

-- a source gave at most n bytes
abbrev pub TookAtMost : Option (List ℕ) → Option (List ℕ) → ℕ → Type 0
TookAtMost old new n = (bs : List ℕ) × Consumes old new bs × (length bs ≤ n)

-- a sink took a prefix of bs
abbrev pub TookPrefix : Option (List ℕ) → Option (List ℕ) → List ℕ → Type 0
TookPrefix old new bs = (n : ℕ) × (n ≤ length bs) × Appends old new (take n bs)

-- a record: its tag, the length of its body in four bytes, highest first, and the body
abbrev pub framed : List ℕ → List ℕ → List ℕ
framed tag body = (tag ++ big_bytes 4 (length body)) ++ body

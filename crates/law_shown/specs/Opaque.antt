-- Images in records whose pixels are all opaque.
use Rattle.std.specs.Prelude.{◌≡◌, ℕ, List, [], ◌∷◌}
use Rattle.law_played.specs.sf_record.declared.record.Record.{Record}
use Rattle.law_played.specs.sf_record.declared.record.Record.TheVariants as rec

-- these bytes are pixels, four bytes to each, and the last byte of each is 255
abbrev pub IsOpaque : List ℕ → Type 0
IsOpaque [] = Unit {0}
IsOpaque (red ∷ green ∷ blue ∷ alpha ∷ later) = (alpha ≡ 255) × IsOpaque later
IsOpaque other = ⊥

-- if a record has an image, its pixels are opaque
abbrev pub HasOpaqueImage : Record → Type 0
HasOpaqueImage (rec.Fram frame) = IsOpaque frame.pixels
HasOpaqueImage (rec.Frad frame) = IsOpaque frame.pixels
HasOpaqueImage (rec.Capt frame) = IsOpaque frame.pixels
HasOpaqueImage other = Unit {0}

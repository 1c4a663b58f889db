-- What a loose buffer's right says of the buffer, and of one of the same size.
use Rattle.std.proofs.Common.{◌≡◌, ℕ, ◌≤◌, arith, ap, ◌∙◌}
use Rattle.std.proofs.lemmas.Bool.Decides.{nat_tests}
use Rattle.atomic_table.specs.Seated.{TableId}
use Rattle.sf_slots.specs.declared.slot.Held.{Held}
use Rattle.sf_surface.specs.Tokens.{IsRightOf, Right, is_size_of}

-- a buffer has a size that pictures have
pub record HasBufferSize (held : Held) : Type 0 where
  pub wide : 1 ≤ held.width
  pub narrow : held.width ≤ 512
  pub high : 1 ≤ held.height
  pub low : held.height ≤ 512

pub right_sized : (table : TableId) (held : Held) (right : Right) → IsRightOf table held right → HasBufferSize held
right_sized table held right fits =
    let size = fits.expects.size in
    let picture = fits.expects.fits in
    record {
      wide = grind (arith, nat_tests, size, picture.wide);
      narrow = grind (arith, nat_tests, size, picture.narrow);
      high = grind (arith, nat_tests, size, picture.high);
      low = grind (arith, nat_tests, size, picture.low);
    }

-- a right to a buffer is one to another buffer of its size
pub right_moved : (table : TableId) (held other : Held) (right : Right) → other.width ≡ held.width → other.height ≡ held.height → IsRightOf table held right → IsRightOf table other right
right_moved table held other right wide high fits = record {
  of_table = fits.of_table;
  expects = record {
    size = ap (λ (w : ℕ). is_size_of right.expects (record { number = 0; width = w; height = other.height })) wide ∙ ap (λ (h : ℕ). is_size_of right.expects (record { number = 0; width = held.width; height = h })) high ∙ fits.expects.size;
    fits = fits.expects.fits;
  };
}

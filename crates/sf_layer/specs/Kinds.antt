-- Kinds of operations.
use Rattle.std.specs.Prelude.{ℕ}
use Rattle.sf_layer.specs.declared.op.Op.{Op}
use Rattle.sf_layer.specs.declared.op.Op.TheVariants as op

-- the number of an operation's kind; z and relative are one kind
abbrev pub kind_of : Op → ℕ
kind_of (op.Create _ _) = 0
kind_of op.Destroy = 1
kind_of (op.Reparent _) = 2
kind_of (op.Z _) = 3
kind_of (op.Relative _ _) = 3
kind_of (op.Position _ _) = 4
kind_of (op.Crop _) = 5
kind_of (op.Alpha _) = 6
kind_of (op.Hidden _) = 7
kind_of (op.Opaque _) = 8
kind_of (op.Colour _) = 9
kind_of (op.Backpressure _) = 10
kind_of (op.Show _) = 11
kind_of (op.Orient _) = 12

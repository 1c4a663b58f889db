use Rattle.std.proofs.Common.{arith, ap, ◌∙◌, sym, ◌≤◌, ◌+◌, length}
use Rattle.std.proofs.lemmas.List.{drop_all}
use Rattle.sf_io.specs.Memory.{Supply}
use Rattle.sf_io.proofs.StreamLemmas.{left_after}
use Rattle.sf_io.proofs.memory.MemSourceSource.read.Goals as goal

pub returns-clause-bytes : goal.returns-clause-bytes
returns-clause-bytes c =
    let within : c.self.inside.at + c.min-count.result ≤ length c.self.inside.bytes.items =
    omega (arith, c.min-count.ensures, c.len.ensures, c.self.invariant, c.self.inside.bytes.ok.0) in (
      sym (ap (λ (s : Supply). s.left) c.self.view_is) ∙ left_after _ _ _ _ _ within (rw c.deref-2.ensures.value at c.copy_from_slice.ensures.after),
      λ none some. drop_all (c.self.inside.at + c.min-count.result) c.self.inside.bytes.items (omega (arith, within, c.min-count.ensures, c.len.ensures, c.self.inside.bytes.ok.0, c.copy_from_slice.ensures.len)),
    )

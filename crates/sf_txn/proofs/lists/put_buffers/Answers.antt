use Rattle.std.proofs.Common.{◌≡◌, List, [], ◌∷◌, ◌++◌, length, refl, ap, sym, ◌∙◌, arith}
use Rattle.std.proofs.lemmas.List.{append-nil}
use Rattle.sf_txn.specs.Buffers.{Buffer}
use Rattle.sf_txn.specs.Transactions.{all_replaced, with_buffers}
use Rattle.sf_txn.proofs.lists.put_buffers.Goals as goal

empty_of : {A : Type 0} (xs : List A) → length xs ≡ 0 → xs ≡ []
empty_of [] none = refl
empty_of (x ∷ xs) none = absurd (omega arith)

pub returns-clause-replaced : goal.returns-clause-replaced
returns-clause-replaced g c =
    let replaced = c.loop-buffer.replaced.items in
    let left = c.loop-buffer.buffer-iterator.rest in
    let none = empty_of left.items (omega (arith, left.ok.0, c.in-None.ensures.steps.0)) in
    sym (append-nil replaced) ∙ (ap (λ (bs : List (Buffer g.row.L.Denot)). replaced ++ all_replaced c.loop-buffer.buffers.items bs) (sym none) ∙ c.loop-buffer.invariant.replaced)

pub returns-clause-buffers : goal.returns-clause-buffers
returns-clause-buffers g c =
    let left = c.loop-buffer.buffer-iterator.rest in
    let none = empty_of left.items (omega (arith, left.ok.0, c.in-None.ensures.steps.0)) in
    ap (with_buffers c.loop-buffer.buffers.items) (sym none) ∙ c.loop-buffer.invariant.buffers

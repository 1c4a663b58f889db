use Rattle.std.proofs.Common.{◌∷◌, ◌++◌, List, map, ap, sym, ◌∙◌, append_assoc, arith}
use Rattle.std.proofs.lemmas.List.{append-nil}
use Rattle.sf_commit_next.specs.sf_txn.Buffers.{Buffer}
use Rattle.sf_commit.proofs.ListLemmas.{empty_of}
use Rattle.sf_commit.specs.OnLayers.{OnLayer, brought}
use Rattle.sf_commit.proofs.commit.give_up.Goals as goal

pub loop-buffer-preserved : goal.loop-buffer-preserved
loop-buffer-preserved g c =
    let gone = c.loop-buffer.gone.items in
    let later = c.next.new.self.rest.items in
    ap (λ (xs : List (OnLayer g.row.L.Denot)). xs ++ map brought later) c.in_ok-push.ensures.items
    ∙ (append_assoc gone _ (map brought later) ∙ (ap (λ (x : OnLayer g.row.L.Denot). gone ++ x ∷ map brought later) c.brought.ensures
    ∙ (ap (λ (bs : List (Buffer g.row.L.Denot)). gone ++ map brought bs) (sym c.in-Some.ensures.steps.0) ∙ c.loop-buffer.invariant)))

pub returns : goal.returns
returns g c =
    let gone = c.loop-buffer.gone.items in
    let left = c.loop-buffer.buffer-iterator.rest in
    let none = empty_of left.items (omega (arith, left.ok.0, c.in-None.ensures.steps.0)) in
    sym (append-nil gone) ∙ (ap (λ (bs : List (Buffer g.row.L.Denot)). gone ++ map brought bs) (sym none) ∙ c.loop-buffer.invariant)

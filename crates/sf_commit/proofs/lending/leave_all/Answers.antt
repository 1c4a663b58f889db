use Rattle.std.proofs.Common.{◌≡◌, ◌∙◌, ◌∷◌, [], List, ap, length, refl, reverse, subst, arith}
use Rattle.std.proofs.lemmas.List.{reverse-append, reverse-reverse}
use Rattle.std.proofs.lemmas.List.Elements.{All-head}
use Rattle.sf_commit_next.proofs.AskingLemmas.{nothing_left}
use Rattle.sf_commit.proofs.LendLemmas.{Left, left_all, left_more, left_none}
use Rattle.sf_commit.specs.Lending.{IsThere, KeptRead}
use Rattle.sf_commit.proofs.lending.leave_all.Goals as goal

pub loop-one-init : goal.loop-one-init
loop-one-init g c = record {
  so = left_none g.L.Lease c.args.slots.now.items c.args.kept.items (reverse c.reverse.new.self.items) c.args.eye.now
      (ap (λ (xs : List (KeptRead g.row.L.Denot)). reverse xs) c.reverse.ensures.items ∙ reverse-reverse c.args.kept.items) c.requires.fits c.requires.there;
  room = refl;
}

pub leave-requires-clause-fits : goal.leave-requires-clause-fits
leave-requires-clause-fits g c =
    let rest = reverse c.pop.new.self.items in
    let one = c.in-Some.one in
    let turned = ap (λ (xs : List (KeptRead g.row.L.Denot)). reverse xs) c.in-Some.ensures.items ∙ reverse-append c.pop.new.self.items (one ∷ []) in
    let so = subst (λ xs. Left g.L.Lease c.args.slots.now.items c.args.kept.items xs c.args.eye.now c.loop-one.eye c.loop-one.slots.items) turned c.loop-one.invariant.so in
    All-head (λ (read : KeptRead g.row.L.Denot). g.L.Lease.fits (g.L.Lease.mark c.loop-one.eye) read.lease) one rest so.fits

pub leave-requires-clause-there : goal.leave-requires-clause-there
leave-requires-clause-there g c =
    let rest = reverse c.pop.new.self.items in
    let one = c.in-Some.one in
    let turned = ap (λ (xs : List (KeptRead g.row.L.Denot)). reverse xs) c.in-Some.ensures.items ∙ reverse-append c.pop.new.self.items (one ∷ []) in
    let so = subst (λ xs. Left g.L.Lease c.args.slots.now.items c.args.kept.items xs c.args.eye.now c.loop-one.eye c.loop-one.slots.items) turned c.loop-one.invariant.so in
    All-head (IsThere g.L.Lease c.loop-one.slots.items) one rest so.there.there

pub loop-one-preserved : goal.loop-one-preserved
loop-one-preserved g c =
    let rest = reverse c.pop.new.self.items in
    let one = c.in-Some.one in
    let turned = ap (λ (xs : List (KeptRead g.row.L.Denot)). reverse xs) c.in-Some.ensures.items ∙ reverse-append c.pop.new.self.items (one ∷ []) in
    let so = subst (λ xs. Left g.L.Lease c.args.slots.now.items c.args.kept.items xs c.args.eye.now c.loop-one.eye c.loop-one.slots.items) turned c.loop-one.invariant.so in
    record {
      so = left_more g.L.Lease c.args.slots.now.items c.args.kept.items one rest c.args.eye.now c.loop-one.eye c.leave.new.eye c.loop-one.slots.items c.leave.new.slots.items
          so c.leave.ensures.reads c.leave.ensures.left;
      room = c.leave.ensures.room ∙ c.loop-one.invariant.room;
    }

pub returns-clause-reads : goal.returns-clause-reads
returns-clause-reads g c =
    let none : length c.loop-one.left.items ≡ 0 = omega (arith, c.loop-one.left.ok.0, c.in_default.ensures.cases.0) in
    (left_all g.L.Lease c.args.slots.now.items c.args.kept.items (reverse c.loop-one.left.items) c.args.eye.now c.loop-one.eye c.loop-one.slots.items c.loop-one.invariant.so
    (ap (λ (xs : List (KeptRead g.row.L.Denot)). reverse xs) (nothing_left c.loop-one.left.items none))).0

pub returns-clause-left : goal.returns-clause-left
returns-clause-left g c =
    let none : length c.loop-one.left.items ≡ 0 = omega (arith, c.loop-one.left.ok.0, c.in_default.ensures.cases.0) in
    (left_all g.L.Lease c.args.slots.now.items c.args.kept.items (reverse c.loop-one.left.items) c.args.eye.now c.loop-one.eye c.loop-one.slots.items c.loop-one.invariant.so
    (ap (λ (xs : List (KeptRead g.row.L.Denot)). reverse xs) (nothing_left c.loop-one.left.items none))).1

use Rattle.std.proofs.Common.{◌∷◌, ◌++◌, [], List, ap, length, refl, subst, sym, arith}
use Rattle.sf_commit.proofs.ListLemmas.{empty_of}
use Rattle.sf_commit.proofs.SettleLemmas.{Released, released_all, released_more, released_none, released_some}
use Rattle.sf_commit.specs.OnLayers.{OnLayer}
use Rattle.sf_commit.specs.Releases.{ReleaseOf}
use Rattle.sf_commit.proofs.settle.release_all.Goals as goal

pub returns-in_err-reserve-clause-some : goal.returns-in_err-reserve-clause-some
returns-in_err-reserve-clause-some g c =
    released_some g.L.Lease c.args.gone.items [] c.args.gone.items c.args.kept.now.items c.args.kept.now.items c.reserve.new.self.items
    (released_none g.L.Lease c.args.gone.items c.args.kept.now.items c.args.kept.now.items refl) c.reserve.ensures.items

pub loop-one-preserved : goal.loop-one-preserved
loop-one-preserved g c =
    let steps = c.in-Some.ensures.steps.0 in
    let so = subst (λ rest. Released g.L.Lease c.args.gone.items c.loop-one.releases.items rest c.args.kept.now.items c.loop-one.kept.items) steps c.loop-one.invariant.so in
    let enough = c.loop-one.invariant.room in
    let fewer = ap (λ (xs : List (OnLayer g.row.L.Denot)). length xs) steps in
    record {
      so = rw (c.in_ok-push.ensures.items)
          (released_more g.L.Lease c.args.gone.items c.next.new.self.rest.items c.loop-one.releases.items c.in-Some.one c.in_ok-release.field-0 c.args.kept.now.items c.loop-one.kept.items
          c.release.new.kept.items so c.in_ok-release.ensures.released c.in_ok-release.ensures.kept);
      room = omega (arith, enough, fewer, c.release.ensures.room, c.release.ensures.len);
    }

pub returns-in_err-push-clause-some : goal.returns-in_err-push-clause-some
returns-in_err-push-clause-some g c =
    let so = subst (λ rest. Released g.L.Lease c.args.gone.items c.loop-one.releases.items rest c.args.kept.now.items c.loop-one.kept.items) c.in-Some.ensures.steps.0 c.loop-one.invariant.so in
    released_some g.L.Lease c.args.gone.items (c.loop-one.releases.items ++ c.in_ok-release.field-0 ∷ []) c.next.new.self.rest.items c.args.kept.now.items c.release.new.kept.items c.release.new.kept.items
    (released_more g.L.Lease c.args.gone.items c.next.new.self.rest.items c.loop-one.releases.items c.in-Some.one c.in_ok-release.field-0 c.args.kept.now.items c.loop-one.kept.items
    c.release.new.kept.items so c.in_ok-release.ensures.released c.in_ok-release.ensures.kept) refl

pub returns-clause-released : goal.returns-clause-released
returns-clause-released g c =
    let left = c.loop-one.one-iterator.rest in
    let none = empty_of left.items (omega (arith, left.ok.0, c.in-None.ensures.steps.0)) in
    let so = subst (λ rest. Released g.L.Lease c.args.gone.items c.loop-one.releases.items rest c.args.kept.now.items c.loop-one.kept.items) none c.loop-one.invariant.so in
    (released_all g.L.Lease c.args.gone.items c.loop-one.releases.items c.args.kept.now.items c.loop-one.kept.items so).0

pub returns-clause-kept : goal.returns-clause-kept
returns-clause-kept g c =
    let left = c.loop-one.one-iterator.rest in
    let none = empty_of left.items (omega (arith, left.ok.0, c.in-None.ensures.steps.0)) in
    let so = subst (λ rest. Released g.L.Lease c.args.gone.items c.loop-one.releases.items rest c.args.kept.now.items c.loop-one.kept.items) none c.loop-one.invariant.so in
    (released_all g.L.Lease c.args.gone.items c.loop-one.releases.items c.args.kept.now.items c.loop-one.kept.items so).1

pub loop-one-init : goal.loop-one-init
loop-one-init g c =
    let rest = c.into_iter-one-iterator.ensures.into_iter_gives.0 in
    let enough = c.in_ok-reserve.ensures.ok in
    let many = ap (λ (xs : List (OnLayer g.row.L.Denot)). length xs) rest in
    record {
      so = subst (λ (releases : List (ReleaseOf g.row.L.Denot)). Released g.L.Lease c.args.gone.items releases c.into_iter-one-iterator.result.rest.items c.args.kept.now.items c.reserve.new.self.items)
          (sym c.new-releases.ensures.items)
          (subst (λ xs. Released g.L.Lease c.args.gone.items [] xs c.args.kept.now.items c.reserve.new.self.items) (sym rest)
          (released_none g.L.Lease c.args.gone.items c.args.kept.now.items c.reserve.new.self.items c.reserve.ensures.items));
      room = omega (arith, many, c.args.gone.ok.0, c.len.ensures, enough);
    }

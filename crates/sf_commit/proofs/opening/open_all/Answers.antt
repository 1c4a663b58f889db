use Rattle.std.proofs.Common.{[], ◌++◌, List, map, ap, ◌∙◌, subst, sym, arith}
use Rattle.std.proofs.lemmas.List.{append-nil}
use Rattle.std.proofs.lemmas.List.Elements.{All-head}
use Rattle.sf_commit.proofs.ListLemmas.{empty_of}
use Rattle.sf_commit.proofs.SettleLemmas.{Opened, opened_more, opened_none, then_after}
use Rattle.sf_commit.specs.Leases.{IsKnownOn, ShowsLease, pictures_here}
use Rattle.sf_commit.specs.OnLayers.{OnLayer, shown_on}
use Rattle.sf_commit.proofs.opening.open_all.Goals as goal

pub open_one-reading-requires : goal.open_one-reading-requires
open_one-reading-requires g c =
    let so = subst (λ rest. Opened g.L.Lease c.args.on.items (c.args.readings.now.items, c.args.contents.now.items) (c.loop-one.readings.items, c.loop-one.contents.items) rest c.args.eye.now c.loop-one.eye) c.in-Some.ensures.steps.0 c.loop-one.invariant in
    record {
      fits = All-head (λ (x : OnLayer g.row.L.Denot). g.L.Lease.fits (g.L.Lease.mark c.loop-one.eye) x.lease) c.in-Some.one c.next.new.self.rest.items so.fits;
      known = (All-head (IsKnownOn g.L.Lease c.loop-one.eye) c.in-Some.one c.next.new.self.rest.items so.known).known;
    }

pub returns-in_err-push-clause-eye : goal.returns-in_err-push-clause-eye
returns-in_err-push-clause-eye g c = then_after g.L.Lease c.args.eye.now c.loop-one.eye c.open_one-reading.new.eye [] [] c.loop-one.invariant.eye c.open_one-reading.ensures.eye

pub returns-in_err-add_painted-clause-eye : goal.returns-in_err-add_painted-clause-eye
returns-in_err-add_painted-clause-eye g c = then_after g.L.Lease c.args.eye.now c.loop-one.eye c.open_one-reading.new.eye [] [] c.loop-one.invariant.eye c.open_one-reading.ensures.eye

pub loop-one-preserved : goal.loop-one-preserved
loop-one-preserved g c =
    let so = subst (λ rest. Opened g.L.Lease c.args.on.items (c.args.readings.now.items, c.args.contents.now.items) (c.loop-one.readings.items, c.loop-one.contents.items) rest c.args.eye.now c.loop-one.eye) c.in-Some.ensures.steps.0 c.loop-one.invariant in
    rw (c.in_ok-push.ensures.items, c.in_ok-add_painted.ensures, c.open_one-reading.ensures.reading, c.open_one-reading.ensures.picture)
    (opened_more g.L.Lease c.args.on.items c.next.new.self.rest.items (c.args.readings.now.items, c.args.contents.now.items) c.loop-one.readings.items c.loop-one.contents.items c.in-Some.one c.args.eye.now c.loop-one.eye c.open_one-reading.new.eye so c.open_one-reading.ensures.eye
    (subst (ShowsLease g.L.Lease) c.open_one-reading.ensures.reading c.open_one-reading.ensures.crop))

pub loop-one-init : goal.loop-one-init
loop-one-init g c =
    subst (λ rest. Opened g.L.Lease c.args.on.items (c.args.readings.now.items, c.args.contents.now.items) (c.args.readings.now.items, c.args.contents.now.items) rest c.args.eye.now c.args.eye.now)
    (sym c.into_iter-one-iterator.ensures.into_iter_gives.0)
    (opened_none g.L.Lease c.args.on.items (c.args.readings.now.items, c.args.contents.now.items) c.args.eye.now c.requires.fits c.requires.known)

pub returns-clause-readings : goal.returns-clause-readings
returns-clause-readings g c =
    let made = c.loop-one.readings.items in
    let left = c.loop-one.one-iterator.rest in
    let none = empty_of left.items (omega (arith, left.ok.0, c.in-None.ensures.steps.0)) in
    sym (append-nil made) ∙ (ap (λ (rest : List (OnLayer g.row.L.Denot)). made ++ map shown_on rest) (sym none) ∙ c.loop-one.invariant.reads)

pub returns-clause-contents : goal.returns-clause-contents
returns-clause-contents g c =
    let made = c.loop-one.contents.items in
    let left = c.loop-one.one-iterator.rest in
    let none = empty_of left.items (omega (arith, left.ok.0, c.in-None.ensures.steps.0)) in
    sym (append-nil made) ∙ (ap (λ (rest : List (OnLayer g.row.L.Denot)). made ++ pictures_here g.L.Lease rest) (sym none) ∙ c.loop-one.invariant.shows)

use Rattle.std.proofs.Common.{arith, ◌∙◌, ◌<◌, ◌∷◌, ◌++◌, true, List, ap, sym, subst, append_assoc, length}
use Rattle.std.proofs.lemmas.List.{append-nil}
use Rattle.sf_base.specs.Fences.{no_points}
use Rattle.sf_view.specs.sf_picture.declared.picture.Picture.{Picture}
use Rattle.sf_commit.proofs.ListLemmas.{empty_of}
use Rattle.sf_commit.proofs.SettleLemmas.{taken_shows, some_here}
use Rattle.sf_commit.specs.Inside.{ShowsHere}
use Rattle.sf_commit.specs.Leases.{pictures_here}
use Rattle.sf_commit.specs.OnLayers.{OnLayer}
use Rattle.sf_commit.proofs.opening.gather.Goals as goal

pub taken_at-taken-requires : goal.taken_at-taken-requires
taken_at-taken-requires g c =
    let one = c.in-Some.reading in
    let rest = pictures_here g.L.Lease c.next.new.self.rest.items in
    λ none. subst (λ (ps : List Picture). 0 < length ps) (sym (c.loop-reading.invariant.1 ∙ ap (pictures_here g.L.Lease) c.in-Some.ensures.steps.0))
    (some_here one.place (g.L.Lease.picture one.lease) rest (sym (ap (λ (x : OnLayer g.row.L.Denot). x.place) c.reading.view_is) ∙ none))

pub invariant_of-push : goal.invariant_of-push
invariant_of-push g c =
    let one = c.in-Some.reading in
    let rest = pictures_here g.L.Lease c.next.new.self.rest.items in
    let taken = c.taken_at-taken in
    let here = taken.ensures.here ∙ (c.loop-reading.invariant.1 ∙ ap (pictures_here g.L.Lease) c.in-Some.ensures.steps.0) in
    let is = taken_shows taken.result one.place (g.L.Lease.picture one.lease) rest taken.new.pixels.rest.items (taken.ensures.place ∙ ap (λ (x : OnLayer g.row.L.Denot). x.place) c.reading.view_is) here in
    (c.reading.invariant, subst (λ (x : OnLayer g.row.L.Denot). ShowsHere taken.result (g.L.Lease.picture x.lease)) (sym c.reading.view_is) is.0)

pub loop-reading-preserved : goal.loop-reading-preserved
loop-reading-preserved g c =
    let one = c.in-Some.reading in
    let later = c.next.new.self.rest.items in
    let inside = c.reading.inside in
    let taken = c.taken_at-taken in
    let here = taken.ensures.here ∙ (c.loop-reading.invariant.1 ∙ ap (pictures_here g.L.Lease) c.in-Some.ensures.steps.0) in
    let is = taken_shows taken.result one.place (g.L.Lease.picture one.lease) (pictures_here g.L.Lease later) taken.new.pixels.rest.items
    (taken.ensures.place ∙ ap (λ (x : OnLayer g.row.L.Denot). x.place) c.reading.view_is) here in
    let same = (λ i. record { layer = inside.layer; shown = inside.shown; fence = no_points; lease = g.L.Lease.opened inside.reading; is_read = true; place = taken.ensures.place i }) ∙ c.reading.view_is in (
      ap (λ (xs : List (OnLayer g.row.L.Denot)). xs ++ later) c.in_ok-push.ensures.items
          ∙ (append_assoc c.loop-reading.on.items _ later ∙ (ap (λ (x : OnLayer g.row.L.Denot). c.loop-reading.on.items ++ x ∷ later) same
          ∙ (ap (λ (xs : List (OnLayer g.row.L.Denot)). c.loop-reading.on.items ++ xs) (sym c.in-Some.ensures.steps.0) ∙ c.loop-reading.invariant.0))),
      is.1,
    )

pub returns : goal.returns
returns g c =
    let made = c.loop-reading.on.items in
    let left = c.loop-reading.reading-iterator.rest in
    let none = empty_of left.items (omega (arith, left.ok.0, c.in-None.ensures.steps.0)) in
    sym (append-nil made) ∙ (ap (λ (rest : List (OnLayer g.row.L.Denot)). made ++ rest) (sym none) ∙ c.loop-reading.invariant.0)

use Rattle.std.proofs.Common.{◌≡◌, ◌∙◌, ◌++◌, [], List, Some, None, ap, length, map, sym, subst, arith}
use Rattle.std.proofs.lemmas.List.{length-map}
use Rattle.sf_view.specs.sf_picture.declared.picture.Picture.{Picture}
use Rattle.sf_commit_next.specs.sf_txn.Leases.{IsEyeAfter}
use Rattle.sf_commit.proofs.MarkLemmas.{back_made, lends_these, room_back, room_these, unchanged_these}
use Rattle.sf_commit.specs.Handlers.{HandlerOf}
use Rattle.sf_commit.specs.Leases.{pictures, pictures_here}
use Rattle.sf_commit.specs.Lending.{AllKept, AreThere, KeptRead, ends_of, read_of}
use Rattle.sf_commit.specs.OnLayers.{OnLayer, at_hand}
use Rattle.sf_commit.proofs.ValueLemmas.{value_of}
use Rattle.sf_commit.proofs.handler.Handler.give_back.Goals as goal

pub put_back-requires-clause-fits : goal.put_back-requires-clause-fits
put_back-requires-clause-fits g c =
    let fits = subst (λ (x : HandlerOf g.row.L.Denot). AllKept (g.L.Lease.fits (g.L.Lease.mark c.args.eye.now)) x.kept) (sym c.self.view_is) c.requires.fits in
    subst (AllKept (g.L.Lease.fits (g.L.Lease.mark c.args.eye.now))) (sym (ap (λ v. v.items) c.replace-kept.ensures.value)) fits

pub put_back-requires-clause-lends : goal.put_back-requires-clause-lends
put_back-requires-clause-lends g c =
    let inside = c.self.inside in
    let h = value_of inside in
    let same = subst (λ (x : HandlerOf g.row.L.Denot). x.lent ≡ Some c.args.contents) (sym c.self.view_is) c.requires.lent ∙ ap (λ (ps : List Picture). Some ps) (sym c.contents.view_is) in
    subst (λ (xs : List (OnLayer g.row.L.Denot)). AreThere g.L.Lease (map (λ (picture : Picture). Some picture) c.contents.inside.list.items) (c.replace-kept.result.items ++ map read_of xs))
    (sym c.deref.ensures.value)
    (subst (λ (reads : List (KeptRead g.row.L.Denot)). AreThere g.L.Lease (map (λ (picture : Picture). Some picture) c.contents.inside.list.items) (reads ++ map read_of inside.on.items))
    (sym (ap (λ v. v.items) c.replace-kept.ensures.value)) (lends_these g.L.Lease h inside.contents.items c.contents.inside.list.items inside.has_changed same c.self.invariant.0))

pub put_back-requires-clause-stayed : goal.put_back-requires-clause-stayed
put_back-requires-clause-stayed g c =
    ap (λ v. v.items) c.replace-stayed.ensures.value ∙ (c.self.invariant.0.same ∙ ap (λ (xs : List (OnLayer g.row.L.Denot)). pictures_here g.L.Lease xs) (sym c.deref.ensures.value))

pub put_back-requires-clause-room : goal.put_back-requires-clause-room
put_back-requires-clause-room g c =
    let same = subst (λ (x : HandlerOf g.row.L.Denot). x.lent ≡ Some c.args.contents) (sym c.self.view_is) c.requires.lent in
    let many = ap (λ (ps : List Picture). length ps) c.contents.view_is in
    room_these _ c.args.contents _ c.self.inside.on.items c.deref.result.now c.self.inside.has_changed _ _ same (omega (arith, c.contents.inside.list.ok.0, many)) c.deref.ensures.value c.self.invariant.1

pub put_back-requires-clause-unchanged : goal.put_back-requires-clause-unchanged
put_back-requires-clause-unchanged g c =
    let inside = c.self.inside in
    let h = value_of inside in
    let same = subst (λ (x : HandlerOf g.row.L.Denot). x.lent ≡ Some c.args.contents) (sym c.self.view_is) c.requires.lent ∙ ap (λ (ps : List Picture). Some ps) (sym c.contents.view_is) in
    λ e. let both = unchanged_these g.L.Lease h inside.contents.items c.contents.inside.list.items inside.has_changed same c.self.invariant.0 e in
    (both.0 ∙ ap (λ (xs : List (OnLayer g.row.L.Denot)). pictures g.L.Lease xs) (sym c.deref.ensures.value), ap (λ v. v.items) c.replace-kept.ensures.value ∙ both.1)

pub invariant_of-self : goal.invariant_of-self
invariant_of-self g c =
    let inside = c.self.inside in
    let h = value_of inside in
    let none = ap (λ v. v.items) c.replace-kept.ensures.after ∙ c.new.ensures.items in
    let many = ap (λ (xs : List (OnLayer g.row.L.Denot)). length xs) c.mark_at_hand.ensures ∙ length-map inside.on.items at_hand in (
      back_made g.L.Lease h _ inside.contents.items _ inside.has_changed c.self.invariant.0
          (λ i. record {
            width = inside.width;
            height = inside.height;
            tree = inside.tree;
            pending = inside.queues.pending;
            frames = inside.facts.frames;
            on = c.mark_at_hand.ensures i;
            last = inside.queues.last;
            is_spent = inside.is_spent;
            lent = None;
            kept = none i;
          })
          (c.put_back.ensures.contents ∙ ap (λ (xs : List (OnLayer g.row.L.Denot)). pictures g.L.Lease xs) c.deref.ensures.value),
      room_back _ (length inside.on.items) _ inside.has_changed _ _ _ _ c.self.invariant.1 (omega (arith, many)) c.put_back.ensures.no_slots (omega (arith, c.put_back.ensures.slots)) c.put_back.ensures.no_contents,
      c.self.invariant.2,
    )

pub returns-clause-back : goal.returns-clause-back
returns-clause-back g c =
    let inside = c.self.inside in
    let none = ap (λ v. v.items) c.replace-kept.ensures.after ∙ c.new.ensures.items in
    (λ i. record {
      width = inside.width;
      height = inside.height;
      tree = inside.tree;
      pending = inside.queues.pending;
      frames = inside.facts.frames;
      on = c.mark_at_hand.ensures i;
      last = inside.queues.last;
      is_spent = inside.is_spent;
      lent = None;
      kept = none i;
    })
    ∙ ap (λ (x : HandlerOf g.row.L.Denot). record x { on = map at_hand x.on; lent = None; kept = [] }) c.self.view_is

pub returns-clause-reads : goal.returns-clause-reads
returns-clause-reads g c =
    let kept = ap (λ v. v.items) c.replace-kept.ensures.value ∙ ap (λ (x : HandlerOf g.row.L.Denot). x.kept) c.self.view_is in
    subst (λ (reads : List (KeptRead g.row.L.Denot)). IsEyeAfter g.L.Lease c.args.eye.now c.put_back.new.eye (ends_of g.L.Lease reads)) kept c.put_back.ensures.reads

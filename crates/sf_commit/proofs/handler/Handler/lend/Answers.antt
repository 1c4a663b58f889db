use Rattle.std.proofs.Common.{◌≡◌, ◌∙◌, List, Some, None, ap, length, sym, subst, arith}
use Rattle.sf_commit.proofs.LendLemmas.{length_lent}
use Rattle.sf_commit.proofs.MarkLemmas.{lent_length, lent_made, pictures_kept, room_lent}
use Rattle.sf_commit.specs.Handlers.{HandlerOf}
use Rattle.sf_commit.specs.Leases.{pictures}
use Rattle.sf_commit.specs.OnLayers.{OnLayer, lent_from}
use Rattle.sf_commit.proofs.ValueLemmas.{value_of}
use Rattle.sf_commit.proofs.handler.Handler.lend.Goals as goal

pub invariant_of-self : goal.invariant_of-self
invariant_of-self g c =
    let inside = c.self.inside in
    let h = value_of inside in
    let none = subst (λ (x : HandlerOf g.row.L.Denot). x.lent ≡ None) (sym c.self.view_is) c.requires in
    let all = pictures_kept g.L.Lease h inside.contents.items inside.has_changed none c.self.invariant.0 in
    let list = ap (λ v. v.items) c.replace-list.ensures.value ∙ all in
    let given = c.of.ensures ∙ list in
    let many = ap (λ (xs : List (OnLayer g.row.L.Denot)). length xs) c.mark_lent.ensures ∙ length_lent g.L.Lease 0 inside.on.items in (
      lent_made g.L.Lease h _ inside.contents.items _ inside.has_changed none c.self.invariant.0
          (λ i. record {
            width = inside.width;
            height = inside.height;
            tree = inside.tree;
            pending = inside.queues.pending;
            frames = inside.facts.frames;
            on = c.mark_lent.ensures i;
            last = inside.queues.last;
            is_spent = inside.is_spent;
            lent = Some (given i);
            kept = inside.kept.items;
          })
          (ap (λ v. v.items) c.replace-list.ensures.after ∙ c.new.ensures.items),
      room_lent _ (length inside.on.items) _ _ inside.has_changed _ _ c.self.invariant.1 (lent_length g.L.Lease inside.on.items _ given) (omega (arith, many)),
      c.self.invariant.2,
    )

pub returns-clause-pictures : goal.returns-clause-pictures
returns-clause-pictures g c =
    let inside = c.self.inside in
    let h = value_of inside in
    let none = subst (λ (x : HandlerOf g.row.L.Denot). x.lent ≡ None) (sym c.self.view_is) c.requires in
    ap (λ v. v.items) c.replace-list.ensures.value ∙ (pictures_kept g.L.Lease h inside.contents.items inside.has_changed none c.self.invariant.0
    ∙ ap (λ (x : HandlerOf g.row.L.Denot). pictures g.L.Lease x.on) c.self.view_is)

pub returns-clause-lent : goal.returns-clause-lent
returns-clause-lent g c =
    let inside = c.self.inside in
    let h = value_of inside in
    let none = subst (λ (x : HandlerOf g.row.L.Denot). x.lent ≡ None) (sym c.self.view_is) c.requires in
    let given = c.of.ensures ∙ (ap (λ v. v.items) c.replace-list.ensures.value ∙ pictures_kept g.L.Lease h inside.contents.items inside.has_changed none c.self.invariant.0) in
    (λ i. record {
      width = inside.width;
      height = inside.height;
      tree = inside.tree;
      pending = inside.queues.pending;
      frames = inside.facts.frames;
      on = c.mark_lent.ensures i;
      last = inside.queues.last;
      is_spent = inside.is_spent;
      lent = Some (given i);
      kept = inside.kept.items;
    })
    ∙ ap (λ (x : HandlerOf g.row.L.Denot). record x { on = lent_from 0 x.on; lent = Some (pictures g.L.Lease x.on) }) c.self.view_is

use Rattle.std.proofs.Common.{sym, ap, ◌∙◌, [], ◌++◌, ◌∷◌, map}
use Rattle.std.proofs.lemmas.List.{map-set, get_or-map}
use Rattle.std.specs.List.{slice_set}
use Rattle.sf_tree.proofs.order.Below.push.Goals as goal

pub returns-clause-lists : goal.returns-clause-lists
returns-clause-lists c = let h = c.index_mut-list.ensures.value in let g = c.in_ok-push.ensures.items in
    map-set (λ l. l.items) c.args.self.now.lists.items c.args.with c.push.new.self ∙ ap (λ xs. slice_set (map (λ l. l.items) c.args.self.now.lists.items) c.args.with xs) (g ∙ ap (λ xs. xs ++ c.args.place ∷ []) (sym (get_or-map (λ l. l.items) c.args.self.now.lists.items c.args.with c.index_mut-list.result.now [] c.requires ∙ ap (λ l. l.items) (sym h))))

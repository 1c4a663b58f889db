use Rattle.std.proofs.Common.{◌∙◌, rules}
use Rattle.std.proofs.lemmas.List.Sorted.{answers_always}
use Rattle.sf_token.specs.declared.looks.Looks.{Looks}
use Rattle.sf_commit_next.proofs.SearchLemmas.{halved_found, halved_none}
use Rattle.sf_commit_next.proofs.next.drawn_at.Goals as goal

pub returns-in-Ok : goal.returns-in-Ok
returns-in-Ok c =
    let here = c.in-Ok.ensures.position (λ (look : Looks). look.number) (answers_always _ _ _ (λ f a r g called. search rules)) in
    c.as_slice.ensures ∙ halved_found c.args.number c.args.looks.now c.requires c.in-Ok.place c.index-looks-place.result c.in-Ok.ensures.bound (here c.index-looks-place.result)

pub returns-in-Err : goal.returns-in-Err
returns-in-Err c =
    halved_none c.args.number c.args.looks.now c.requires c.in-Err.field-0
    (c.in-Err.ensures.position (λ (look : Looks). look.number) (answers_always _ _ _ (λ f a r g called. search rules)))

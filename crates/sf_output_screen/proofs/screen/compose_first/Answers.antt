use Rattle.std.proofs.Common.{ℕ, List, map, subst, sym, arith}
use Rattle.sf_compose.specs.Again.{ShowsView}
use Rattle.sf_output_screen.proofs.ScreenLemmas.{composed_behind, whole_shows}
use Rattle.sf_output_screen.proofs.screen.compose_first.Goals as goal

pub returns-clause-shows : goal.returns-clause-shows
returns-clause-shows g c = λ picture sources.
    subst (λ (frame : List ℕ). ShowsView picture c.args.view.now frame)
    (sym (composed_behind c.deref_mut.result.now c.compose.new.frame c.in_ok-body.body.items c.in_ok-body.body.len
    (omega (arith, c.deref_mut.ensures.len)) (omega (arith, c.in_ok-body.ensures.len)) (omega (arith, c.compose.ensures.rest.size, c.deref_mut.ensures.len))))
    (whole_shows picture c.args.view.now (map g.C.Pixels.picture c.args.contents.now) c.args.sources.now c.in_ok-part.part c.compose.new.frame
    c.in_ok-part.ensures sources c.in_ok-compose.ensures.image)

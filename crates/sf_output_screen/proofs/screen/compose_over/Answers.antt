use Rattle.std.proofs.Common.{ℕ, List, map, sym, subst}
use Rattle.sf_compose.specs.Again.{ShowsView}
use Rattle.sf_output_screen.specs.Screens.{IsSameSize}
use Rattle.sf_output_screen.proofs.ScreenLemmas.{again_long, again_shows, all_behind, behind, on_ok}
use Rattle.sf_output_screen.proofs.screen.compose_over.Goals as goal

pub returns-clause-shows : goal.returns-clause-shows
returns-clause-shows g c =
    let old = c.args.old.now in
    let view = c.args.view.now in
    let body = c.args.body.now in
    let frame = c.compose_by.new.frame in
    let whole = sym (all_behind body) in
    on_ok _ _ c.compose_by.result
    (λ shown picture sources last. subst (λ (bytes : List ℕ). ShowsView picture view bytes)
    (sym (behind body frame c.requires.room (again_long body frame c.compose_by.ensures.rest.size)))
    (again_shows picture old view (map g.C.Pixels.picture c.args.contents.now) c.args.sources.now c.in_ok-part.part _ frame
    (subst (λ (bytes : List ℕ). IsSameSize bytes view old) whole c.requires.same) c.in_ok-part.ensures shown c.compose_by.ensures.rest sources
    (subst (λ (bytes : List ℕ). ShowsView picture old bytes) whole last)))
    c.compose_by.ensures.image

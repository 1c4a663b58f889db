use Rattle.std.proofs.Common.{List, ap, sym, ◌∙◌, get_or}
use Rattle.std.specs.List.{position}
use Rattle.sf_output_screen.specs.ScreenLists.{is_of}
use Rattle.sf_output_screen.specs.declared.screens.OutputScreen.{OutputScreen}
use Rattle.sf_output_screen.proofs.ScreenLemmas.{bare_at, own_at}
use Rattle.sf_output_screen.proofs.screens.Screens.take.Goals as goal

pub returns-in-Some-clause-own : goal.returns-in-Some-clause-own
returns-in-Some-clause-own c =
    let same = c.deref.ensures.value ∙ c.self.view_is in
    own_at c.args.self.now c.args.of c.in-Some.index c.remove-screen.result (sym c.in-Some.is ∙ (c.index_of.ensures ∙ ap (position (is_of c.args.of)) same))
    (c.remove-screen.ensures.value ∙ ap (λ (l : List OutputScreen). get_or l c.in-Some.index c.remove-screen.result) c.self.view_is)

pub returns-in-None-clause-own : goal.returns-in-None-clause-own
returns-in-None-clause-own c =
    let same = c.deref.ensures.value ∙ c.self.view_is in
    c.new.ensures ∙ bare_at c.args.self.now c.args.of (sym c.in-None.is ∙ (c.index_of.ensures ∙ ap (position (is_of c.args.of)) same))

use Rattle.std.proofs.Common.{◌≡◌, ◌∙◌, ap, refl, subst, Err, Ok}
use Rattle.law_generated.specs.sf_script.Parse.{parsed_of}
use Rattle.law_generated.specs.sf_script.declared.fault.ScriptFault.{ScriptFault}
use Rattle.sf_app.specs.declared.scene.SceneFault.TheVariants.{Script}
use Rattle.sf_app.specs.Statuses.{Spells, at_no_place, spells, too_long_to_spell}
use Rattle.sf_app.proofs.StatusLemmas.{one_fault}
use Rattle.sf_app.proofs.scene.scene_asked.Goals as goal

pub returns-in-Ok-parse-clause-scene : goal.returns-in-Ok-parse-clause-scene
returns-in-Ok-parse-clause-scene g c =
    let spelled : parsed_of c.deref.result.now ≡ Ok c.in-Ok-parse.scene = c.in-Ok-parse.ensures in
    spells c.in-Ok.script.items (Ok c.in-Ok-parse.scene) c.in-Ok.ensures.script (rw c.deref.ensures.value at spelled)

pub returns-in-Err-Script-clause-fault : goal.returns-in-Err-Script-clause-fault
returns-in-Err-Script-clause-fault g c = λ fault is.
    let spelled : parsed_of c.deref.result.now ≡ Err c.in-Err-Script.fault = rw c.in-Err-Script.field-0-is at c.in-Err-Script.ensures in
    spells c.in-Ok.script.items (Err fault) c.in-Ok.ensures.script ((rw c.deref.ensures.value at spelled) ∙ ap Err (one_fault (Err (Script c.in-Err-Script.fault)) (Err (Script fault)) c.in-Err-Script.fault fault refl refl is))

pub returns-in-Err-TooLong-clause-fault : goal.returns-in-Err-TooLong-clause-fault
returns-in-Err-TooLong-clause-fault g c = λ fault is.
    let long = c.in-Err-TooLong.ensures.too_long (ap Err c.in-Err-TooLong.field-0-is) in
    subst (λ (f : ScriptFault). Spells c.args.options (g.S.Source.left c.args.source.now) (g.S.Source.left c.script_asked.new.source) (Err f)) (one_fault (Err (Script (at_no_place 9))) (Err (Script fault)) (at_no_place 9) fault refl refl (rw c.at_no_place.ensures at is))
    (too_long_to_spell long.0 long.1)

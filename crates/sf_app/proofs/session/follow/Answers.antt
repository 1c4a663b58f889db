use Rattle.std.proofs.Common.{ap, arith, inl, inr, refl, ◌∙◌, Err, Ok}
use Rattle.sf_app.proofs.StatusLemmas.{ended_as, run_ended, spelled_ended, unbegun, unread_script, words_wrong}
use Rattle.sf_app.proofs.session.follow.Goals as goal

pub returns-in-Err-WrongWords : goal.returns-in-Err-WrongWords
returns-in-Err-WrongWords g c = words_wrong _ _ _ _ _ _ _ (rw c.in-Err-WrongWords.field-0-is at c.in-Err-WrongWords.ensures.given)

pub returns-in-Err-NoMemory : goal.returns-in-Err-NoMemory
returns-in-Err-NoMemory g c = unbegun _ _ _ _ _ _ _

pub returns-in-Ok-scene_asked : goal.returns-in-Ok-scene_asked
returns-in-Ok-scene_asked g c =
    ended_as _ _ _ _ _ c.in-Ok.options _ _ _ _ _ c.in-Ok.ensures.given
    (spelled_ended _ _ _ _ c.in-Ok.options (Ok c.in-Ok-scene_asked.scene) _ _ _ _ _ c.in-Ok-scene_asked.ensures.scene c.scene_asked.ensures.unread
    (rw c.status_of.ensures (run_ended c.in-Ok.options c.in-Ok-scene_asked.scene c.show_run.result _ _ _ _ c.show_run.ensures.ok c.show_run.ensures.err c.show_run.ensures.failed)))

pub returns-in-Err-Script : goal.returns-in-Err-Script
returns-in-Err-Script g c =
    ended_as _ _ _ _ _ c.in-Ok.options _ _ _ _ _ c.in-Ok.ensures.given
    (spelled_ended _ _ _ _ c.in-Ok.options (Err c.in-Err-Script.fault) _ _ _ _ _ (c.scene_asked.ensures.fault c.in-Err-Script.fault (c.in-Err-Script.is ∙ ap Err c.in-Err-Script.field-0-is)) c.scene_asked.ensures.unread
    (rw c.in-Err-Script.fault-is at (c.refuse.ensures c.in-Ok.options)))

pub returns-in-Err-ReadFailed : goal.returns-in-Err-ReadFailed
returns-in-Err-ReadFailed g c =
    ended_as _ _ _ _ _ c.in-Ok.options _ _ _ _ _ c.in-Ok.ensures.given
    (unread_script _ _ _ _ c.in-Ok.options 3 _ _ _ (inl refl) (λ _. c.scene_asked.ensures.failed (c.in-Err-ReadFailed.is ∙ ap Err c.in-Err-ReadFailed.field-0-is)) c.scene_asked.ensures.unread)

pub returns-in-Err-NoMemory-scene_asked : goal.returns-in-Err-NoMemory-scene_asked
returns-in-Err-NoMemory-scene_asked g c =
    ended_as _ _ _ _ _ c.in-Ok.options _ _ _ _ _ c.in-Ok.ensures.given
    (unread_script _ _ _ _ c.in-Ok.options 5 _ _ _ (inr refl) (λ e. absurd (omega (arith, e))) c.scene_asked.ensures.unread)

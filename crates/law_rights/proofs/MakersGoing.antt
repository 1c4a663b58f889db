-- A run goes on with a call.
use Rattle.std.proofs.Common.{◌≡◌, ◌==◌, ◌⊎◌, Bool, true, false, is_some, List, ◌∷◌, ap, ◌∙◌, sym, refl, inl, inr, subst, Option, Some, None}
use Rattle.std.specs.Prelude.{if◌then◌else◌}
use Rattle.std.proofs.lemmas.Bool.{cases_Bool, eq-eqb, eqb-true, false≢true}
use Rattle.sf_slots.specs.declared.calls.Entry.{Entry}
use Rattle.sf_slots.specs.declared.calls.PlainReply.{PlainReply}
use Rattle.sf_slots.specs.declared.calls.PlainReply.TheVariants as reply
use Rattle.sf_actor_set.specs.sf_surface.declared.call.QCall.{QCall}
use Rattle.sf_actor_set.specs.sf_surface.declared.call.QCall.TheVariants as call
use Rattle.sf_actor_set.specs.sf_surface.declared.mark.QueueMark.{QueueMark}
use Rattle.sf_actor_set.specs.sf_surface.Histories.{Made, told, told_entry, told_reply}
use Rattle.sf_actor_set.specs.sf_actor.Makers.{BufferOf, Run, attached_from, before_attach, is_attached, making_of}
use Rattle.law_rights.specs.MakerCalls.{IsNewAt}
use Rattle.law_rights.specs.Makers.{GoesOn, RightAt, WasMade}
use Rattle.law_rights.specs.MakerSteps.{IsMadeBy, RunGets, RunTold}
use Rattle.law_rights.proofs.MakersNumbering.{making_more, making_same, new_makes, newly_made}

module _ {B : Type 0} (mark : QueueMark) (made : Made B) (earlier : List (Made B)) (from : BufferOf) (before after : Run) (gets : RunGets mark made earlier from before after) where
  abbrev answered : PlainReply
  answered = told_reply mark earlier made.by made.call.1

  -- what was made before was made by the same call
  same_making : (stay : BufferOf) → WasMade before stay → making_of (after.calls stay.queue) stay.number ≡ making_of (before.calls stay.queue) stay.number
  same_making stay was = by_queue (cases_Bool (stay.queue == mark.queue.0))
    where
      by_queue : ((stay.queue == mark.queue.0) ≡ true) ⊎ ((stay.queue == mark.queue.0) ≡ false) → making_of (after.calls stay.queue) stay.number ≡ making_of (before.calls stay.queue) stay.number
      by_queue (inl met) =
          let same = eqb-true stay.queue mark.queue.0 met in
          let old : before.calls stay.queue ≡ told mark earlier = ap before.calls same ∙ gets.old in
          let new : after.calls stay.queue ≡ told mark (made ∷ earlier) = ap after.calls same ∙ gets.new in
          ap (λ (es : List Entry). making_of es stay.number) new
          ∙ making_same mark made earlier stay.number (subst (λ (es : List Entry). is_some (making_of es stay.number) ≡ true) old was)
          ∙ ap (λ (es : List Entry). making_of es stay.number) (sym old)
      by_queue (inr unmet) = ap (λ (es : List Entry). making_of es stay.number) (gets.others stay.queue (λ same. false≢true (sym unmet ∙ eq-eqb stay.queue mark.queue.0 same)))

  goes_on : GoesOn before after
  goes_on = record {
    made = λ stay was. subst (λ (o : Option Entry). is_some o ≡ true) (sym (same_making stay was)) was;
    same = λ stay was. ap (before_attach after stay) (same_making stay was) ∙ gets.traced stay was;
  }

  -- a buffer that comes is made by the new call
  new_making : (right : RightAt) → IsNewAt mark.queue made.call.1 answered right → making_of (after.calls right.at.queue) right.at.number ≡ Some (told_entry mark (told mark earlier) made)
  new_making right is =
      let new = new_makes mark.queue made.call.1 answered right is in
      ap (λ (es : List Entry). making_of es right.at.number) (ap after.calls new.1 ∙ gets.new) ∙ making_more mark made earlier right.at.number
      ∙ ap (λ (b : Bool). if b then Some (told_entry mark (told mark earlier) made) else making_of (told mark earlier) right.at.number) new.0

  made_first : (right : RightAt) → IsNewAt mark.queue made.call.1 answered right → is_attached answered ≡ false → before_attach after right.at (making_of (after.calls right.at.queue) right.at.number) ≡ None
  made_first right is none = ap (before_attach after right.at) (new_making right is) ∙ ap (λ (b : Bool). if b then Some (attached_from after (told_entry mark (told mark earlier) made) right.at) else None) none

  made_after : (right : RightAt) → IsNewAt mark.queue made.call.1 answered right → is_attached answered ≡ true → before_attach after right.at (making_of (after.calls right.at.queue) right.at.number) ≡ Some from
  made_after right is some =
      ap (before_attach after right.at) (new_making right is) ∙ ap (λ (b : Bool). if b then Some (attached_from after (told_entry mark (told mark earlier) made) right.at) else None) some
      ∙ ap (λ (s : BufferOf). Some s) (gets.attached right.at some)

  made_how : (asked : QCall B) (given : PlainReply) (right : RightAt) → IsNewAt mark.queue asked given right
      → (is_attached given ≡ false → before_attach after right.at (making_of (after.calls right.at.queue) right.at.number) ≡ None)
      → (is_attached given ≡ true → before_attach after right.at (making_of (after.calls right.at.queue) right.at.number) ≡ Some from) → IsMadeBy after asked from right.at
  made_how (call.Dequeue wide high wait permit) (reply.Dequeued slot held requested true fence) right is none some = none refl
  made_how (call.Attach loose) (reply.Attached slot held) right is none some = some refl
  made_how (call.AttachRead loose) (reply.Attached slot held) right is none some = some refl
  made_how asked given right is none some = absurd is

  pub run_told : RunTold mark.queue made.call.1 answered from before after
  run_told = record {
    on = goes_on;
    was_none = λ right is was.
        let new = new_makes mark.queue made.call.1 answered right is in
        newly_made mark made earlier right.at.number new.0 (subst (λ (es : List Entry). is_some (making_of es right.at.number) ≡ true) (ap before.calls new.1 ∙ gets.old) was);
    was_made = λ right is. ap (λ (o : Option Entry). is_some o) (new_making right is);
    made_by = λ right is. made_how made.call.1 answered right is (made_first right is) (made_after right is);
  }

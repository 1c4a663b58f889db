-- What an actor's names hold is what its trace tells, and a call that brings a held token brings the turn that was given.
use Rattle.std.proofs.Common.{◌≡◌, ℕ, ap, ◌∙◌, sym, refl, subst, Option, Some, None}
use Rattle.std.specs.Prelude.{get_or}
use Rattle.std.specs.Option.{option_map}
use Rattle.std.proofs.Math.ListN.{get_or-map}
use Rattle.sf_base.specs.Fences.{IsSignalled}
use Rattle.sf_base.specs.declared.status.QStatus.{QStatus}
use Rattle.sf_script_scene.specs.sf_picture.declared.picture.Picture.{Picture}
use Rattle.sf_script_scene.specs.declared.step.Step.{Step}
use Rattle.sf_surface.specs.sf_slots.declared.calls.PlainReply.{PlainReply}
use Rattle.sf_surface.specs.sf_slots.declared.calls.PlainReply.TheVariants as reply
use Rattle.sf_surface.specs.declared.call.QCall.{QCall}
use Rattle.sf_actor.specs.declared.done.Answered.TheVariants as answered
use Rattle.sf_actor.specs.declared.done.Done.{Done}
use Rattle.sf_actor.specs.declared.holding.Holding.{Holding}
use Rattle.sf_actor.specs.Asking.{Asked}
use Rattle.sf_actor.specs.Known.{Call, Share}
use Rattle.sf_actor.specs.Names.{Holdings, name_in}
use Rattle.sf_actor.specs.Holdings.{token_of, turn_held}
use Rattle.sf_actor.specs.Points.{shown_next}
use Rattle.sf_actor.specs.Rights.{IsFrom, MadeWith, WasGivenAt, brought_turn}
use Rattle.sf_actor.specs.Steps.{holdings_next, used_by}
use Rattle.sf_actor.specs.Traces.{source_in}
use Rattle.sf_actor.specs.Tries.{ActorKept, ActorOf, held_in, next_step, past_of}
use Rattle.sf_actor.proofs.TraceGrowth.{at_end}
use Rattle.sf_actor.proofs.CallShare.{CallsOnce, OneMore, call_adds, joined, only, only_one}
use Rattle.sf_actor.proofs.StepKeepsActor.{actor_with, stays, stepped}

-- a call that the queue refuses moves nothing
refusal_holds : (holdings : Holdings) (s : Step) (told : PlainReply) (cause : QStatus) → told ≡ reply.Refused cause → holdings_next holdings (record { step = s; answered = answered.Called told }) ≡ holdings
unfolding holdings_next
refusal_holds holdings s told cause refused = rw refused refl

module _ {B : Type 0} where
  -- what a name holds, as the trace tells it
  pub names_told : (pictures : ℕ → Picture) (actor : ActorOf B) (share : Share B) (name : ℕ) → ActorKept pictures actor share → name_in (past_of actor).holdings name ≡ option_map token_of (held_in actor.parts name)
  names_told pictures actor share name is =
      ap (λ (holdings : Holdings). name_in holdings name) (sym is.has)
      ∙ get_or-map (option_map token_of) actor.parts.names name None

  -- a call that brings the token of a name brings the turn with which it was given
  pub brings_held : (pictures : ℕ → Picture) (actor : ActorOf B) (share : Share B) (s : Step) (name : ℕ) (held : Holding B) (call : QCall B) → ActorKept pictures actor share → used_by s ≡ Some name → held_in actor.parts name ≡ Some held → brought_turn call ≡ Some (turn_held held) → IsFrom share.calls (source_in (past_of actor).since (used_by s)) (brought_turn call)
  brings_held pictures actor share s name held call is uses holds brings =
      subst (λ (used : Option ℕ). IsFrom share.calls (source_in (past_of actor).since used) (brought_turn call)) (sym uses)
      (subst (λ turn. WasGivenAt share.calls (get_or (past_of actor).since name 0) turn) (sym brings) (is.given name held holds))

  -- a call that the queue refuses leaves what the actor has
  pub refused_call_keeps : (pictures : ℕ → Picture) (actor : ActorOf B) (s : Step) (asked : Asked) (made : Call B) (cause : QStatus) (old new : Share B) → next_step actor ≡ Some s → ActorKept pictures actor old → CallsOnce pictures actor.stock (at_end actor.trace (record { step = s; answered = answered.Called made.told.reply })) asked made old new → OneMore asked.0.0 made old new → made.told.reply ≡ reply.Refused cause → ((number : ℕ) → MadeWith number made → ⊥) → IsSignalled (shown_next (past_of actor).holdings (past_of actor).shown (record { step = s; answered = answered.Called made.told.reply })) new.values → ActorKept pictures (stepped actor (record { step = s; answered = answered.Called made.told.reply }) actor.parts) new
  refused_call_keeps pictures actor s asked made cause old new is_next is calls more refused unmade reached =
      let done : Done = record { step = s; answered = answered.Called made.told.reply } in
      actor_with pictures actor done actor.parts old new is_next is (call_adds pictures actor.stock actor.trace (at_end actor.trace done) asked made old new calls more)
      (stays pictures actor done old new (only asked made) is (record {
        calls = joined asked made old new more;
        holdings = refusal_holds (past_of actor).holdings s made.told.reply cause refused;
        since = rw refused refl;
        reached = reached;
        unused = λ number queue other there makes. unmade number (subst (MadeWith number) (sym (only_one asked made other queue there).0) makes);
      }))

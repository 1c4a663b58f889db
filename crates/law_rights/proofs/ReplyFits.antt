-- What a reply gives fits what the step's names tell: where a loose buffer was last, and which buffer a drawing is owed of.
use Rattle.std.proofs.Common.{◌≡◌, ℕ, true, false, List, [], ◌∷◌, ap, ◌∙◌, sym, refl, subst, Option}
use Rattle.std.specs.Prelude.{Contains}
use Rattle.std.specs.Option.{option_map}
use Rattle.std.proofs.lemmas.Bool.{false≢true}
use Rattle.sf_base.specs.declared.ids.QueueId.{QueueId}
use Rattle.sf_actor_set.specs.sf_picture.declared.picture.Picture.{Picture}
use Rattle.sf_actor_set.specs.sf_script_scene.declared.step.Step.{Step}
use Rattle.sf_actor_set.specs.sf_script_scene.declared.step.Step.TheVariants as step
use Rattle.sf_slots.specs.declared.calls.PlainReply.{PlainReply}
use Rattle.sf_slots.specs.declared.calls.PlainReply.TheVariants as plain
use Rattle.sf_slots.specs.declared.slot.Held.{Held}
use Rattle.sf_actor_set.specs.sf_surface.declared.call.Gives.{Gives}
use Rattle.sf_actor_set.specs.sf_surface.declared.call.QCall.{QCall}
use Rattle.sf_actor_set.specs.sf_surface.declared.call.QCall.TheVariants as call
use Rattle.sf_actor_set.specs.sf_surface.declared.call.QReply.{QReply}
use Rattle.sf_actor_set.specs.sf_surface.declared.work.Work.{Work}
use Rattle.sf_actor_set.specs.sf_surface.declared.work.Work.TheVariants as work
use Rattle.sf_actor_set.specs.sf_surface.Hands.{IsReply, brought, owes}
use Rattle.sf_actor_set.specs.sf_surface.Tokens.{WriteLeaseOf, turn_of}
use Rattle.sf_actor_set.specs.sf_actor.declared.holding.Holding.{Holding}
use Rattle.sf_actor_set.specs.sf_actor.Makers.{BufferOf, is_attached, loose_buffer}
use Rattle.sf_actor_set.specs.sf_actor.Holdings.{token_of}
use Rattle.sf_actor_set.specs.sf_actor.Rights.{turn_by}
use Rattle.sf_actor_set.specs.sf_actor_steps.declared.asking.Asking.{Asking}
use Rattle.sf_actor_set.specs.sf_actor_steps.declared.asking.Homes.{Homes}
use Rattle.sf_actor_set.specs.sf_actor_steps.declared.bindings.Bindings.{Bindings}
use Rattle.sf_actor_set.specs.sf_actor_steps.Forming.{FormsCall}
use Rattle.sf_actor_set.specs.sf_actor_steps.Bindings.{holdings_of}
use Rattle.sf_actor_set.proofs.sf_actor_steps_lemmas.HoldingLemmas.{name_in-held}
use Rattle.law_rights.specs.MakerCalls.{brought_at, given_at}
use Rattle.law_rights.specs.Makers.{WriteAt, place_written}
use Rattle.law_rights.specs.Moves.{AreIn}
use Rattle.law_rights.specs.PlaceTries.{loose_at}
use Rattle.law_rights.proofs.TurnCounts.{none_in}
use Rattle.law_rights.proofs.BindingChanges.{FitsLoose, from_of, loose_in}
use Rattle.law_rights.proofs.OwedDrawings.{owes_at}

queue_fits : (B : Type 0) (homes : Homes) (queue : QueueId) (lease : WriteLeaseOf) (frame : ℕ) (picture : Picture) (done : Work) → homes.held ≡ lease.held
    → AreIn (owes_at {B = B} homes (owes queue lease frame picture done)) (record { write = record { turn = turn_by (turn_of done); frame = (queue, frame) }; number = lease.held.number } ∷ [])
queue_fits B homes queue lease frame picture (work.Fresh turn) same write there =
    subst (λ (held : Held). Contains (record { write = record { turn = turn_by turn; frame = (queue, frame) }; number = held.number } ∷ []) write) same there
queue_fits B homes queue lease frame picture (work.Drawn inside pixels) same write there = absurd (none_in write there)

queue_loose : (B : Type 0) (homes : Homes) (from : BufferOf) (asked : QCall B) (queue : QueueId) (lease : WriteLeaseOf) (frame : ℕ) (picture : Picture) (done : Work) → FitsLoose homes from asked (owes queue lease frame picture done)
queue_loose B homes from asked queue lease frame picture (work.Fresh turn) = tt
queue_loose B homes from asked queue lease frame picture (work.Drawn inside pixels) = tt

module _ {B : Type 0} where
  -- the names of a call's homes are of the lease that it brings
  abbrev pub IsOfLease : Homes → QCall B → Type 0
  IsOfLease homes (call.Detach lease) = homes.last ≡ lease.queue
  IsOfLease homes (call.DetachRead lease) = homes.last ≡ lease.queue
  IsOfLease homes (call.Queue lease picture time crop fence) = homes.held ≡ lease.held
  IsOfLease homes asked = Unit {0}

  abbrev pub IsAttach : QCall B → Type 0
  IsAttach (call.Attach loose) = Unit {0}
  IsAttach (call.AttachRead loose) = Unit {0}
  IsAttach asked = ⊥

  lease_at : (asking exact : Asking B) → asking ≡ exact → IsOfLease exact.homes exact.call → IsOfLease asking.homes asking.call
  lease_at asking exact same is = subst (λ (x : Asking B). IsOfLease x.homes x.call) (sym same) is

  pub forms_lease : (pictures : ℕ → Picture) (s : Step) (before taken : Bindings B) (asking : Asking B) → FormsCall pictures s before taken asking → IsOfLease asking.homes asking.call
  forms_lease pictures (step.Connect q) before taken asking forms = lease_at asking _ forms.1 tt
  forms_lease pictures (step.Disconnect q) before taken asking forms = lease_at asking _ forms.1 tt
  forms_lease pictures (step.MaxDequeued q n) before taken asking forms = lease_at asking _ forms.1 tt
  forms_lease pictures (step.Async q on) before taken asking forms = lease_at asking _ forms.1 tt
  forms_lease pictures (step.MaxAcquired q n) before taken asking forms = lease_at asking _ forms.1 tt
  forms_lease pictures (step.Abandon q) before taken asking forms = lease_at asking _ forms.1 tt
  forms_lease pictures (step.Acquire q i at) before taken asking forms = lease_at asking _ forms.1 tt
  forms_lease pictures (step.Dequeue q s size) before taken asking forms = lease_at asking _ forms.2 tt
  forms_lease pictures (step.DequeueWait q s size) before taken asking forms = lease_at asking _ forms.2 tt
  forms_lease pictures (step.Request s) before taken asking forms = lease_at asking _ forms.2 tt
  forms_lease pictures (step.Queue s p time crop points) before taken asking forms = lease_at asking _ forms.2 refl
  forms_lease pictures (step.Cancel s points) before taken asking forms = lease_at asking _ forms.2 tt
  forms_lease pictures (step.PDetach s b) before taken asking forms = lease_at asking _ forms.2 refl
  forms_lease pictures (step.Release i points) before taken asking forms = lease_at asking _ forms.2 tt
  forms_lease pictures (step.CDetach i b) before taken asking forms = lease_at asking _ forms.2 refl
  forms_lease pictures (step.PAttach q b s) before taken asking forms = lease_at asking _ forms.3 tt
  forms_lease pictures (step.CAttach q b i) before taken asking forms = lease_at asking _ forms.3 tt
  forms_lease pictures other before taken asking forms = absurd forms

  unlike : (asking exact : Asking B) (C : Type 0) → asking ≡ exact → (IsAttach exact.call → ⊥) → IsAttach asking.call → C
  unlike asking exact C same none is = absurd (none (subst (λ (x : Asking B). IsAttach x.call) same is))

  -- a loose buffer that is attached was last where the name tells that the step uses
  pub attaches : (pictures : ℕ → Picture) (s : Step) (before taken : Bindings B) (asking : Asking B) → FormsCall pictures s before taken asking → IsAttach asking.call → (stay : BufferOf) → loose_at (holdings_of before) s stay ≡ from_of asking
  attaches pictures (step.Connect q) before taken asking forms is stay = unlike asking _ _ forms.1 (λ none. none) is
  attaches pictures (step.Disconnect q) before taken asking forms is stay = unlike asking _ _ forms.1 (λ none. none) is
  attaches pictures (step.MaxDequeued q n) before taken asking forms is stay = unlike asking _ _ forms.1 (λ none. none) is
  attaches pictures (step.Async q on) before taken asking forms is stay = unlike asking _ _ forms.1 (λ none. none) is
  attaches pictures (step.MaxAcquired q n) before taken asking forms is stay = unlike asking _ _ forms.1 (λ none. none) is
  attaches pictures (step.Abandon q) before taken asking forms is stay = unlike asking _ _ forms.1 (λ none. none) is
  attaches pictures (step.Acquire q i at) before taken asking forms is stay = unlike asking _ _ forms.1 (λ none. none) is
  attaches pictures (step.Dequeue q s size) before taken asking forms is stay = unlike asking _ _ forms.2 (λ none. none) is
  attaches pictures (step.DequeueWait q s size) before taken asking forms is stay = unlike asking _ _ forms.2 (λ none. none) is
  attaches pictures (step.Request s) before taken asking forms is stay = unlike asking _ _ forms.2 (λ none. none) is
  attaches pictures (step.Queue s p time crop points) before taken asking forms is stay = unlike asking _ _ forms.2 (λ none. none) is
  attaches pictures (step.Cancel s points) before taken asking forms is stay = unlike asking _ _ forms.2 (λ none. none) is
  attaches pictures (step.PDetach s b) before taken asking forms is stay = unlike asking _ _ forms.2 (λ none. none) is
  attaches pictures (step.Release i points) before taken asking forms is stay = unlike asking _ _ forms.2 (λ none. none) is
  attaches pictures (step.CDetach i b) before taken asking forms is stay = unlike asking _ _ forms.2 (λ none. none) is
  attaches pictures (step.PAttach q b s) before taken asking forms is stay =
      ap (loose_buffer stay) (name_in-held before b ∙ ap (λ (held : Option (Holding B)). option_map token_of held) forms.2.held_there) ∙ sym (ap from_of forms.3)
  attaches pictures (step.CAttach q b i) before taken asking forms is stay =
      ap (loose_buffer stay) (name_in-held before b ∙ ap (λ (held : Option (Holding B)). option_map token_of held) forms.2.held_there) ∙ sym (ap from_of forms.3)
  attaches pictures other before taken asking forms is stay = absurd forms

  -- what a call brings is given back where it was
  pub fits_back : (homes : Homes) (asked : QCall B) → FitsLoose homes (loose_in homes.last asked) asked (brought asked)
  fits_back homes (call.Attach loose) = refl
  fits_back homes (call.AttachRead loose) = refl
  fits_back homes asked = tt

  pub brought_back : (from : BufferOf) (asked : QCall B) → given_at from asked (brought asked) ≡ brought_at from asked
  brought_back from call.Connect = refl
  brought_back from asked = refl

  pub brought_owes_none : (homes : Homes) (asked : QCall B) → owes_at homes (brought asked) ≡ []
  brought_owes_none homes call.Connect = refl
  brought_owes_none homes asked = refl

  -- what is given: a loose buffer is where its name tells, and what is owed then is of the frame that is queued
  pub record Fits (homes : Homes) (queue : QueueId) (asked : QCall B) (answered : PlainReply) (given : Gives B) : Type 0 where
    pub loose : FitsLoose homes (loose_in homes.last asked) asked given
    pub owed : AreIn (owes_at homes given) (place_written queue asked answered)
    pub attach : is_attached answered ≡ true → IsAttach asked

  plainly : (homes : Homes) (queue : QueueId) (asked : QCall B) (answered : PlainReply) (reply : QReply B) (given : Gives B) → reply.gives ≡ given → FitsLoose homes (loose_in homes.last asked) asked given
      → owes_at homes given ≡ [] → (is_attached answered ≡ true → IsAttach asked) → Fits homes queue asked answered reply.gives
  plainly homes queue asked answered reply given same fits none attach = subst (λ (g : Gives B). Fits homes queue asked answered g) (sym same) (record {
    loose = fits;
    owed = λ write there. absurd (none_in write (subst (λ (xs : List WriteAt). Contains xs write) none there));
    attach = attach;
  })

  unattached : (asked : QCall B) → false ≡ true → IsAttach asked
  unattached asked e = absurd (false≢true e)

  pub fits_reply : (homes : Homes) (queue : QueueId) (asked : QCall B) (answered : PlainReply) (reply : QReply B) → IsReply queue asked answered reply → IsOfLease homes asked → Fits homes queue asked answered reply.gives
  fits_reply homes queue asked (plain.Refused cause) reply is of =
      plainly homes queue asked (plain.Refused cause) reply (brought asked) (ap (λ (r : QReply B). r.gives) is) (fits_back homes asked) (brought_owes_none homes asked) (unattached asked)
  fits_reply homes queue (call.Queue lease picture time crop fence) (plain.Queued frame) reply is of =
      subst (λ (r : QReply B). Fits homes queue (call.Queue lease picture time crop fence) (plain.Queued frame) r.gives) (sym is) (record {
        loose = queue_loose B homes _ (call.Queue lease picture time crop fence) queue lease frame picture lease.work;
        owed = queue_fits B homes queue lease frame picture lease.work of;
        attach = unattached (call.Queue lease picture time crop fence);
      })
  fits_reply homes queue (call.Cancel lease fence) plain.Done reply is of = plainly homes queue _ _ reply _ (ap (λ (r : QReply B). r.gives) is) tt refl (unattached (call.Cancel lease fence))
  fits_reply homes queue (call.Detach lease) plain.Done reply is of =
      plainly homes queue _ _ reply _ (ap (λ (r : QReply B). r.gives) is) (ap (λ (q : QueueId). record { queue = q.0; number = lease.held.number }) of) refl (unattached (call.Detach lease))
  fits_reply homes queue (call.Dequeue wide high wait permit) (plain.Dequeued slot held requested true fence) reply is of =
      plainly homes queue _ _ reply _ (ap (λ (r : QReply B). r.gives) is) tt refl (unattached (call.Dequeue wide high wait permit))
  fits_reply homes queue (call.Dequeue wide high wait permit) (plain.Dequeued slot held requested false fence) reply is of =
      plainly homes queue _ _ reply _ (ap (λ (r : QReply B). r.gives) is.1) tt refl (unattached (call.Dequeue wide high wait permit))
  fits_reply homes queue (call.Acquire expected) (plain.Acquired item dropped) reply is of =
      plainly homes queue _ _ reply _ (ap (λ (r : QReply B). r.gives) is.1) tt refl (unattached (call.Acquire expected))
  fits_reply homes queue (call.Request lease) (plain.Requested held) reply is of = plainly homes queue _ _ reply _ (ap (λ (r : QReply B). r.gives) is) tt refl (unattached (call.Request lease))
  fits_reply homes queue (call.Attach loose) (plain.Attached slot held) reply is of = plainly homes queue _ _ reply _ (ap (λ (r : QReply B). r.gives) is) tt refl (λ e. tt)
  fits_reply homes queue (call.DetachRead lease) plain.Done reply is of =
      plainly homes queue _ _ reply _ (ap (λ (r : QReply B). r.gives) is) (ap (λ (q : QueueId). record { queue = q.0; number = lease.held.number }) of) refl (unattached (call.DetachRead lease))
  fits_reply homes queue (call.AttachRead loose) (plain.Attached slot held) reply is of = plainly homes queue _ _ reply _ (ap (λ (r : QReply B). r.gives) is) tt refl (λ e. tt)
  fits_reply homes queue (call.Release lease fence) plain.Done reply is of = plainly homes queue _ _ reply _ (ap (λ (r : QReply B). r.gives) is) tt refl (unattached (call.Release lease fence))
  fits_reply homes queue call.Connect plain.Done reply is of = plainly homes queue _ _ reply _ (ap (λ (r : QReply B). r.gives) is) tt refl (unattached call.Connect)
  fits_reply homes queue call.Disconnect plain.Done reply is of = plainly homes queue _ _ reply _ (ap (λ (r : QReply B). r.gives) is) tt refl (unattached call.Disconnect)
  fits_reply homes queue (call.MaxDequeued n) plain.Done reply is of = plainly homes queue _ _ reply _ (ap (λ (r : QReply B). r.gives) is) tt refl (unattached (call.MaxDequeued n))
  fits_reply homes queue (call.Async on) plain.Done reply is of = plainly homes queue _ _ reply _ (ap (λ (r : QReply B). r.gives) is) tt refl (unattached (call.Async on))
  fits_reply homes queue (call.MaxAcquired n) plain.Done reply is of = plainly homes queue _ _ reply _ (ap (λ (r : QReply B). r.gives) is) tt refl (unattached (call.MaxAcquired n))
  fits_reply homes queue call.Abandon plain.Done reply is of = plainly homes queue _ _ reply _ (ap (λ (r : QReply B). r.gives) is) tt refl (unattached call.Abandon)
  fits_reply homes queue asked answered reply is of = absurd is

-- The names that a step's call fills owe nothing, since none of the step's own tests refused it.
use Rattle.std.proofs.Common.{◌≡◌, ◌≢◌, ℕ, ◌<◌, ◌⊎◌, ◌==◌, not, ◌&&◌, Bool, true, false, List, [], ◌∷◌, suc, zero, is_some, arith, ap, ◌∙◌, sym, refl, inl, inr, subst, get_or, length, set, Option, Some, None}
use Rattle.std.specs.List.{flat_map}
use Rattle.std.specs.Option.{option_map}
use Rattle.std.proofs.lemmas.Bool.{cases_Bool, eq-eqb, eqb-true, false≢true}
use Rattle.std.proofs.lemmas.List.{get_or-set_other, get_or-set_same, length-set}
use Rattle.sf_base.specs.declared.ids.QueueId.{QueueId}
use Rattle.sf_actor_set.specs.sf_picture.declared.picture.Picture.{Picture}
use Rattle.sf_actor_set.specs.sf_script_scene.Ranges.{IsStep}
use Rattle.sf_actor_set.specs.sf_script_scene.declared.step.Step.{Step}
use Rattle.sf_actor_set.specs.sf_script_scene.declared.step.Step.TheVariants as step
use Rattle.sf_slots.specs.declared.calls.PlainReply.{PlainReply}
use Rattle.sf_slots.specs.declared.calls.PlainReply.TheVariants as plain
use Rattle.sf_actor_set.specs.sf_surface.declared.call.Gives.TheVariants as gives
use Rattle.sf_actor_set.specs.sf_surface.declared.call.QCall.{QCall}
use Rattle.sf_actor_set.specs.sf_surface.declared.call.QCall.TheVariants as call
use Rattle.sf_actor_set.specs.sf_surface.declared.call.QReply.{QReply}
use Rattle.sf_actor_set.specs.sf_surface.Hands.{IsReply, brought}
use Rattle.sf_actor_set.specs.sf_actor.declared.holding.Holding.{Holding}
use Rattle.sf_actor_set.specs.sf_actor.declared.holding.Holding.TheVariants as holding
use Rattle.sf_actor_set.specs.sf_actor.Names.{Holdings, Token, name_in}
use Rattle.sf_actor_set.specs.sf_actor.Holdings.{token_of}
use Rattle.sf_actor_set.specs.sf_actor.Tests.{first_met, is_taken, occupied, refusal_of, tests_of}
use Rattle.sf_actor_set.specs.sf_actor_steps.declared.asking.Asking.{Asking}
use Rattle.sf_actor_set.specs.sf_actor_steps.declared.bindings.Bindings.{Bindings}
use Rattle.sf_actor_set.specs.sf_actor_steps.Forming.{FormsCall, Takes}
use Rattle.sf_actor_set.specs.sf_actor_steps.Bindings.{holdings_of}
use Rattle.sf_actor_set.proofs.sf_actor_steps_lemmas.HoldingLemmas.{name_in-held}
use Rattle.law_rights.specs.Makers.{WriteAt, place_owed}
use Rattle.law_rights.specs.Moves.{Gets}
use Rattle.law_rights.proofs.OwedDrawings.{AreFree, IsFreeAt, gets_same, gets_set, bindings_owe}

-- no test is met
unmet_first : (test : Bool × ℕ) (tests : List (Bool × ℕ)) → first_met (test ∷ tests) ≡ None → (test.0 ≡ false) × (first_met tests ≡ None)
unmet_first test tests none = by_test test.0 refl
  where
    by_test : (b : Bool) → test.0 ≡ b → (test.0 ≡ false) × (first_met tests ≡ None)
    by_test true met = absurd (cc (rw met at none))
    by_test false unmet = (unmet, rw unmet at none)

tests_pass : (pictures : ℕ → Picture) (holdings : Holdings) (s : Step) → refusal_of pictures holdings s ≡ None → first_met (tests_of pictures holdings s) ≡ None
unfolding refusal_of
tests_pass pictures holdings s none = none

module _ {B : Type 0} where
  nothing_there : (held : Option (Holding B)) → is_some (option_map token_of held) ≡ false → held ≡ None
  nothing_there None none = refl
  nothing_there (Some held) none = absurd (cc (none))

  -- a name of which the test says that it is empty
  name_empty : (bindings : Bindings B) (name : ℕ) → is_some (name_in (holdings_of bindings) name) ≡ false → get_or bindings.names name None ≡ None
  name_empty bindings name none = nothing_there (get_or bindings.names name None) (ap (λ (t : Option Token). is_some t) (sym (name_in-held bindings name)) ∙ none)

  -- the name that a token was taken out of, or one that was empty before
  taken_free : (before taken : Bindings B) (name : ℕ) (held : Holding B) (filled : ℕ) → Takes before taken name held → length before.names ≡ 32 → name < 32 → filled < 32
      → (not (filled == name) && is_some (name_in (holdings_of before) filled)) ≡ false → IsFreeAt taken filled
  taken_free before taken name held filled takes wide low lower test = record {
    free = subst (λ (bindings : Bindings B). place_owed (get_or bindings.names filled None) ≡ []) (sym takes.rest) (by_name (cases_Bool (filled == name)));
    low = subst (λ (bindings : Bindings B). filled < length bindings.names) (sym takes.rest) within;
  }
    where
      within : filled < length (set before.names name None)
      within = omega (arith, wide, lower, length-set before.names name None)

      inside : name < length before.names
      inside = omega (arith, wide, low)

      apart : (filled == name) ≡ false → filled ≢ name
      apart unmet e = false≢true (sym unmet ∙ eq-eqb filled name e)

      by_name : ((filled == name) ≡ true) ⊎ ((filled == name) ≡ false) → place_owed (get_or (set before.names name None) filled None) ≡ []
      by_name (inl met) =
          let same = eqb-true filled name met in
          let none : get_or (set before.names name None) filled None ≡ None = subst (λ (n : ℕ). get_or (set before.names name None) n None ≡ None) (sym same) (get_or-set_same before.names name None None inside) in
          ap place_owed none
      by_name (inr unmet) =
          let empty : is_some (name_in (holdings_of before) filled) ≡ false = rw unmet at test in
          ap place_owed (get_or-set_other before.names name filled None None (apart unmet) ∙ name_empty before filled empty)

  itself_free : (before taken : Bindings B) (name : ℕ) (held : Holding B) → Takes before taken name held → length before.names ≡ 32 → name < 32 → IsFreeAt taken name
  itself_free before taken name held takes wide low = taken_free before taken name held name takes wide low low (rw (eq-eqb name name refl) refl)

  -- bindings that nothing was taken out of
  untaken_free : (before taken : Bindings B) (name : ℕ) → taken.names ≡ before.names → length before.names ≡ 32 → name < 32 → is_some (name_in (holdings_of before) name) ≡ false → IsFreeAt taken name
  untaken_free before taken name same wide low test = record {
    free = subst (λ (names : List (Option (Holding B))). place_owed (get_or names name None) ≡ []) (sym same) (ap place_owed (name_empty before name test));
    low = subst (λ (names : List (Option (Holding B))). name < length names) (sym same) (omega (arith, wide, low));
  }

  all_at : (taken : Bindings B) (asking exact : Asking B) → asking ≡ exact → IsFreeAt taken exact.homes.lent → IsFreeAt taken exact.homes.frame → IsFreeAt taken exact.homes.free → AreFree taken asking.homes
  all_at taken asking exact same a b c = subst (λ (x : Asking B). AreFree taken x.homes) (sym same) (record { lent = a; frame = b; free = c })

  -- a call that gives nothing
  abbrev pub GivesNothing : QCall B → Type 0
  GivesNothing asked = (queue : QueueId) (answered : PlainReply) (reply : QReply B) → IsReply queue asked answered reply → reply.gives ≡ gives.Nothing

  connect_nothing : GivesNothing call.Connect
  connect_nothing queue (plain.Refused cause) reply is = ap (λ (r : QReply B). r.gives) is
  connect_nothing queue plain.Done reply is = ap (λ (r : QReply B). r.gives) is
  connect_nothing queue answered reply is = absurd is

  disconnect_nothing : GivesNothing call.Disconnect
  disconnect_nothing queue (plain.Refused cause) reply is = ap (λ (r : QReply B). r.gives) is
  disconnect_nothing queue plain.Done reply is = ap (λ (r : QReply B). r.gives) is
  disconnect_nothing queue answered reply is = absurd is

  max_dequeued_nothing : (n : ℕ) → GivesNothing (call.MaxDequeued n)
  max_dequeued_nothing n queue (plain.Refused cause) reply is = ap (λ (r : QReply B). r.gives) is
  max_dequeued_nothing n queue plain.Done reply is = ap (λ (r : QReply B). r.gives) is
  max_dequeued_nothing n queue answered reply is = absurd is

  async_nothing : (on : Bool) → GivesNothing (call.Async on)
  async_nothing on queue (plain.Refused cause) reply is = ap (λ (r : QReply B). r.gives) is
  async_nothing on queue plain.Done reply is = ap (λ (r : QReply B). r.gives) is
  async_nothing on queue answered reply is = absurd is

  max_acquired_nothing : (n : ℕ) → GivesNothing (call.MaxAcquired n)
  max_acquired_nothing n queue (plain.Refused cause) reply is = ap (λ (r : QReply B). r.gives) is
  max_acquired_nothing n queue plain.Done reply is = ap (λ (r : QReply B). r.gives) is
  max_acquired_nothing n queue answered reply is = absurd is

  abandon_nothing : GivesNothing call.Abandon
  abandon_nothing queue (plain.Refused cause) reply is = ap (λ (r : QReply B). r.gives) is
  abandon_nothing queue plain.Done reply is = ap (λ (r : QReply B). r.gives) is
  abandon_nothing queue answered reply is = absurd is

  quiet : (asking exact : Asking B) (homes : Type 0) → asking ≡ exact → GivesNothing exact.call → brought exact.call ≡ gives.Nothing → (GivesNothing asking.call × (brought asking.call ≡ gives.Nothing)) ⊎ homes
  quiet asking exact homes same nothing brings = inl (subst (λ (x : Asking B). GivesNothing x.call) (sym same) nothing, ap (λ (x : Asking B). brought x.call) same ∙ brings)

  -- the names that the call of a step fills owe nothing, or it fills none
  pub forms_free : (pictures : ℕ → Picture) (s : Step) (before taken : Bindings B) (asking : Asking B) → FormsCall pictures s before taken asking → refusal_of pictures (holdings_of before) s ≡ None → IsStep s → length before.names ≡ 32
      → (GivesNothing asking.call × (brought asking.call ≡ gives.Nothing)) ⊎ AreFree taken asking.homes
  forms_free pictures (step.Connect q) before taken asking forms none ranges wide = quiet asking _ _ forms.1 connect_nothing refl
  forms_free pictures (step.Disconnect q) before taken asking forms none ranges wide = quiet asking _ _ forms.1 disconnect_nothing refl
  forms_free pictures (step.MaxDequeued q n) before taken asking forms none ranges wide = quiet asking _ _ forms.1 (max_dequeued_nothing n) refl
  forms_free pictures (step.Async q on) before taken asking forms none ranges wide = quiet asking _ _ forms.1 (async_nothing on) refl
  forms_free pictures (step.MaxAcquired q n) before taken asking forms none ranges wide = quiet asking _ _ forms.1 (max_acquired_nothing n) refl
  forms_free pictures (step.Abandon q) before taken asking forms none ranges wide = quiet asking _ _ forms.1 abandon_nothing refl
  forms_free pictures (step.Acquire q i at) before taken asking forms none ranges wide =
      let test = unmet_first (is_some (name_in (holdings_of before) i), occupied) [] (tests_pass pictures (holdings_of before) (step.Acquire q i at) none) in
      let free = untaken_free before taken i (ap (λ (bindings : Bindings B). bindings.names) forms.0) wide ranges.0.below test.0 in
      inr (all_at taken asking _ forms.1 free free free)
  forms_free pictures (step.Dequeue q s size) before taken asking forms none ranges wide =
      let test = unmet_first (is_some (name_in (holdings_of before) s), occupied) [] (tests_pass pictures (holdings_of before) (step.Dequeue q s size) none) in
      let free = untaken_free before taken s (ap (λ (bindings : Bindings B). bindings.names) forms.1.same) wide ranges.0.below test.0 in
      inr (all_at taken asking _ forms.2 free free free)
  forms_free pictures (step.DequeueWait q s size) before taken asking forms none ranges wide =
      let test = unmet_first (is_some (name_in (holdings_of before) s), occupied) [] (tests_pass pictures (holdings_of before) (step.DequeueWait q s size) none) in
      let free = untaken_free before taken s (ap (λ (bindings : Bindings B). bindings.names) forms.1.same) wide ranges.0.below test.0 in
      inr (all_at taken asking _ forms.2 free free free)
  forms_free pictures (step.Request s) before taken asking forms none ranges wide =
      let free = itself_free before taken s (holding.Lends forms.0) forms.1 wide ranges.below in
      inr (all_at taken asking _ forms.2 free free free)
  forms_free pictures (step.Queue s p time crop points) before taken asking forms none ranges wide =
      let free = itself_free before taken s (holding.Lends forms.0) forms.1 wide ranges.0.below in
      inr (all_at taken asking _ forms.2 free free free)
  forms_free pictures (step.Cancel s points) before taken asking forms none ranges wide =
      let free = itself_free before taken s (holding.Lends forms.0) forms.1 wide ranges.below in
      inr (all_at taken asking _ forms.2 free free free)
  forms_free pictures (step.Release i points) before taken asking forms none ranges wide =
      let free = itself_free before taken i (holding.Reads forms.0) forms.1 wide ranges.below in
      inr (all_at taken asking _ forms.2 free free free)
  forms_free pictures (step.PDetach s b) before taken asking forms none ranges wide =
      let tests = unmet_first _ ((is_taken (holdings_of before) s b, occupied) ∷ []) (tests_pass pictures (holdings_of before) (step.PDetach s b) none) in
      let test = unmet_first (is_taken (holdings_of before) s b, occupied) [] tests.1 in
      let free = itself_free before taken s (holding.Lends forms.0) forms.1 wide ranges.0.below in
      let other = taken_free before taken s (holding.Lends forms.0) b forms.1 wide ranges.0.below ranges.1.below test.0 in
      inr (all_at taken asking _ forms.2 free free other)
  forms_free pictures (step.CDetach i b) before taken asking forms none ranges wide =
      let tests = unmet_first _ ((is_taken (holdings_of before) i b, occupied) ∷ []) (tests_pass pictures (holdings_of before) (step.CDetach i b) none) in
      let test = unmet_first (is_taken (holdings_of before) i b, occupied) [] tests.1 in
      let free = itself_free before taken i (holding.Reads forms.0) forms.1 wide ranges.0.below in
      let other = taken_free before taken i (holding.Reads forms.0) b forms.1 wide ranges.0.below ranges.1.below test.0 in
      inr (all_at taken asking _ forms.2 free free other)
  forms_free pictures (step.PAttach q b s) before taken asking forms none ranges wide =
      let tests = unmet_first _ ((is_taken (holdings_of before) b s, occupied) ∷ []) (tests_pass pictures (holdings_of before) (step.PAttach q b s) none) in
      let test = unmet_first (is_taken (holdings_of before) b s, occupied) [] tests.1 in
      let free = itself_free before taken b (holding.Frees forms.0 forms.1) forms.2 wide ranges.0.below in
      let other = taken_free before taken b (holding.Frees forms.0 forms.1) s forms.2 wide ranges.0.below ranges.1.below test.0 in
      inr (all_at taken asking _ forms.3 other other free)
  forms_free pictures (step.CAttach q b i) before taken asking forms none ranges wide =
      let tests = unmet_first _ ((is_taken (holdings_of before) b i, occupied) ∷ []) (tests_pass pictures (holdings_of before) (step.CAttach q b i) none) in
      let test = unmet_first (is_taken (holdings_of before) b i, occupied) [] tests.1 in
      let free = itself_free before taken b (holding.Frees forms.0 forms.1) forms.2 wide ranges.0.below in
      let other = taken_free before taken b (holding.Frees forms.0 forms.1) i forms.2 wide ranges.0.below ranges.1.below test.0 in
      inr (all_at taken asking _ forms.3 other other free)
  forms_free pictures other before taken asking forms none ranges wide = absurd forms

  -- what is taken out of the bindings was no drawing that is owed
  pub takes_owes : (before taken : Bindings B) (name : ℕ) (held : Holding B) → Takes before taken name held → place_owed (Some held) ≡ [] → Gets (bindings_owe before) [] (bindings_owe taken)
  takes_owes before taken name held takes none = subst (λ (bindings : Bindings B). Gets (bindings_owe before) [] (bindings_owe bindings)) (sym takes.rest) (taken_out before.names name takes.held_there)
    where
      within : (names : List (Option (Holding B))) (i : ℕ) → get_or names i None ≡ Some held → i < length names
      within [] i there = absurd (cc (there))
      within (x ∷ names) zero there = omega arith
      within (x ∷ names) (suc i) there = let rest = within names i there in omega (arith, rest)

      taken_out : (names : List (Option (Holding B))) (i : ℕ) → get_or names i None ≡ Some held → Gets (flat_map place_owed names) [] (flat_map place_owed (set names i None))
      taken_out names i there = gets_set place_owed [] names i None None (within names i there) (subst (λ (xs : List WriteAt). Gets xs [] []) (sym (ap place_owed there ∙ none)) (gets_same []))

  same_owes : (before taken : Bindings B) → taken.names ≡ before.names → Gets (bindings_owe before) [] (bindings_owe taken)
  same_owes before taken same = subst (λ (names : List (Option (Holding B))). Gets (bindings_owe before) [] (flat_map place_owed names)) (sym same) (gets_same (bindings_owe before))

  pub forms_owe : (pictures : ℕ → Picture) (s : Step) (before taken : Bindings B) (asking : Asking B) → FormsCall pictures s before taken asking → Gets (bindings_owe before) [] (bindings_owe taken)
  forms_owe pictures (step.Connect q) before taken asking forms = same_owes before taken (ap (λ (bindings : Bindings B). bindings.names) forms.0)
  forms_owe pictures (step.Disconnect q) before taken asking forms = same_owes before taken (ap (λ (bindings : Bindings B). bindings.names) forms.0)
  forms_owe pictures (step.MaxDequeued q n) before taken asking forms = same_owes before taken (ap (λ (bindings : Bindings B). bindings.names) forms.0)
  forms_owe pictures (step.Async q on) before taken asking forms = same_owes before taken (ap (λ (bindings : Bindings B). bindings.names) forms.0)
  forms_owe pictures (step.MaxAcquired q n) before taken asking forms = same_owes before taken (ap (λ (bindings : Bindings B). bindings.names) forms.0)
  forms_owe pictures (step.Abandon q) before taken asking forms = same_owes before taken (ap (λ (bindings : Bindings B). bindings.names) forms.0)
  forms_owe pictures (step.Acquire q i at) before taken asking forms = same_owes before taken (ap (λ (bindings : Bindings B). bindings.names) forms.0)
  forms_owe pictures (step.Dequeue q s size) before taken asking forms = same_owes before taken (ap (λ (bindings : Bindings B). bindings.names) forms.1.same)
  forms_owe pictures (step.DequeueWait q s size) before taken asking forms = same_owes before taken (ap (λ (bindings : Bindings B). bindings.names) forms.1.same)
  forms_owe pictures (step.Request s) before taken asking forms = takes_owes before taken s (holding.Lends forms.0) forms.1 refl
  forms_owe pictures (step.Queue s p time crop points) before taken asking forms = takes_owes before taken s (holding.Lends forms.0) forms.1 refl
  forms_owe pictures (step.Cancel s points) before taken asking forms = takes_owes before taken s (holding.Lends forms.0) forms.1 refl
  forms_owe pictures (step.PDetach s b) before taken asking forms = takes_owes before taken s (holding.Lends forms.0) forms.1 refl
  forms_owe pictures (step.Release i points) before taken asking forms = takes_owes before taken i (holding.Reads forms.0) forms.1 refl
  forms_owe pictures (step.CDetach i b) before taken asking forms = takes_owes before taken i (holding.Reads forms.0) forms.1 refl
  forms_owe pictures (step.PAttach q b s) before taken asking forms = takes_owes before taken b (holding.Frees forms.0 forms.1) forms.2 refl
  forms_owe pictures (step.CAttach q b i) before taken asking forms = takes_owes before taken b (holding.Frees forms.0 forms.1) forms.2 refl
  forms_owe pictures other before taken asking forms = absurd forms

-- What tries do to the bindings of their actors that make no call of their own.
use Rattle.std.proofs.Common.{◌≡◌, ℕ, zero, suc, ◌+◌, ◌<◌, ◌≤◌, List, [], ◌∷◌, ◌++◌, arith, ap, ◌∙◌, sym, refl, inl, inr, subst, length, map, get_or, set, option_to_list, Option, Some, None}
use Rattle.std.specs.Prelude.{Contains}
use Rattle.std.specs.List.{flat_map, sum_by}
use Rattle.std.proofs.lemmas.List.{append-nil}
use Rattle.std.proofs.lemmas.List.Sums.{sum_by-cons}
use Rattle.sf_base.specs.Fences.{Fence}
use Rattle.sf_base.specs.declared.fences.Seen.{Seen}
use Rattle.sf_script_scene.specs.sf_picture.declared.picture.Picture.{Picture}
use Rattle.sf_script_scene.specs.Ranges.{IsStep}
use Rattle.sf_script_scene.specs.declared.step.Step.{Step}
use Rattle.law_draws.specs.sf_slots.declared.slot.Held.{Held}
use Rattle.law_draws.specs.sf_surface.Hands.{brought, permit_of}
use Rattle.law_draws.specs.sf_surface.Drawing.{Enters, Passes, drawn_with}
use Rattle.law_draws.specs.sf_surface.declared.work.Work.{Work}
use Rattle.law_draws.specs.sf_surface.declared.work.Work.TheVariants as work
use Rattle.law_draws.specs.sf_surface.Tokens.{OwingOf, ReadLeaseOf, WriteLeaseOf}
use Rattle.sf_turns.specs.Views.{SeatView}
use Rattle.law_draws.specs.sf_txn.Buffers.{Buffer}
use Rattle.law_draws.specs.sf_txn.Transactions.{Contents, all_replaced, empty, merged, replaced_by, set_buffer}
use Rattle.law_draws.specs.sf_actor.declared.holding.Holding.{Holding}
use Rattle.law_draws.specs.sf_actor.declared.holding.Holding.TheVariants as holding
use Rattle.law_draws.specs.sf_actor.Desks.{DeskHome, DeskView}
use Rattle.law_draws.specs.sf_actor.Rights.{Turn, issued_turn}
use Rattle.law_draws.specs.sf_actor.Tests.{refusal_of}
use Rattle.law_draws.specs.sf_actor_steps.declared.asking.Asking.{Asking}
use Rattle.law_draws.specs.sf_actor_steps.declared.bindings.Bindings.{Bindings}
use Rattle.law_draws.specs.sf_actor_steps.Actors.{parts_of}
use Rattle.law_draws.specs.sf_actor_steps.Calling.{taken_back, with_held}
use Rattle.law_draws.specs.sf_actor_steps.Drawing.{DrawsHolding, filled}
use Rattle.law_draws.specs.sf_actor_steps.Editing.{Edits, Merges, Shows, buffer_with, with_txn}
use Rattle.law_draws.specs.sf_actor_steps.Forming.{FormsCall, Takes}
use Rattle.law_draws.specs.sf_actor_steps.Bindings.{holdings_of}
use Rattle.law_draws.specs.law_rights.Makers.{RightAt, WriteAt, place_of, place_owed, places_held, places_sent, right_read}
use Rattle.law_draws.specs.law_rights.Moves.{AreIn, Gets}
use Rattle.law_draws.proofs.law_rights_lemmas.TurnCounts.{first, none_in}
use Rattle.law_draws.proofs.law_rights_lemmas.ReplyFits.{brought_back, brought_owes_none, fits_back}
use Rattle.law_draws.proofs.law_rights_lemmas.Forms.{edits_names, edits_sum, names_owe, put_txn, take_txn}
use Rattle.law_draws.proofs.law_rights_lemmas.FreeNames.{forms_free, forms_owe, takes_owes}
use Rattle.law_draws.proofs.law_rights_lemmas.BindingChanges.{from_of, set_most, set_none, weight_is}
use Rattle.law_draws.proofs.law_rights_lemmas.QueueCounts.{in_all}
use Rattle.law_draws.proofs.law_rights_lemmas.OwedDrawings.{gets_more, gets_push, gets_same, gets_set, given_owes, got_there, bindings_owe, loses_set, nothing_owes, owes_at}
use Rattle.law_draws.proofs.law_rights_lemmas.ReleasedFrames.{buffers_weight, lease_of, on_sum, with_sum, withs_sum}
use Rattle.law_draws.proofs.law_rights_lemmas.CallTryLedger.{forms_then, bindings_weight}

-- a token is put back where it was, and another one in its place
put_back : {A : Type 0} (xs : List (Option A)) (i : ℕ) (y : A) → get_or xs i None ≡ Some y → set (set xs i None) i (Some y) ≡ xs
put_back [] i y there = refl
put_back (x ∷ xs) zero y there = ap (λ z. z ∷ xs) (sym there)
put_back (x ∷ xs) (suc i) y there = ap (λ zs. x ∷ zs) (put_back xs i y there)

put_other : {A : Type 0} (xs : List (Option A)) (i : ℕ) (y : Option A) → set (set xs i None) i y ≡ set xs i y
put_other [] i y = refl
put_other (x ∷ xs) zero y = refl
put_other (x ∷ xs) (suc i) y = ap (λ zs. x ∷ zs) (put_other xs i y)

within : {A : Type 0} (xs : List (Option A)) (i : ℕ) (y : A) → get_or xs i None ≡ Some y → i < length xs
within [] i y there = absurd (cc (there))
within (x ∷ xs) zero y there = omega arith
within (x ∷ xs) (suc i) y there = let rest = within xs i y there in omega (arith, rest)

-- what was owed is drawn
abbrev pub write_of : OwingOf → Held → WriteAt
write_of owing held = record { write = record { turn = issued_turn owing.turn; frame = (owing.queue, owing.frame) }; number = held.number }

leases_weight : (w : RightAt → ℕ) (buffers : List (Buffer ReadLeaseOf)) → sum_by w (map right_read (map lease_of buffers)) ≡ buffers_weight w buffers
leases_weight w buffers =
    let all = on_sum w buffers [] in
    let same = ap (λ (xs : List ReadLeaseOf). sum_by w (map right_read xs)) (append-nil (map lease_of buffers)) in
    omega (arith, all, same)

module _ {B : Type 0} where
  -- rights in bindings go to other bindings, are let go, or go to frames that are yet to be given back
  pub record BindingsRest (before after : Bindings B) (more : List ReadLeaseOf) : Type 0 where
    pub less : (w : RightAt → ℕ) → sum_by w (places_held (parts_of after)) + sum_by w (map right_read more) ≤ sum_by w (places_held (parts_of before))
    pub owed : Gets (bindings_owe before) [] (bindings_owe after)

  -- what was owed is owed no longer
  pub record BindingsPay (before after : Bindings B) (write : WriteAt) : Type 0 where
    pub less : (w : RightAt → ℕ) → sum_by w (places_held (parts_of after)) ≤ sum_by w (places_held (parts_of before))
    pub was_owed : Contains (bindings_owe before) write
    pub fewer : AreIn (bindings_owe after) (bindings_owe before)
    pub unpaid : AreIn (bindings_owe before) ((write ∷ []) ++ bindings_owe after)

  pub same_rest : (before after : Bindings B) → after ≡ before → BindingsRest before after []
  same_rest before after same = record {
    less = λ w. let e = ap (λ (bindings : Bindings B). sum_by w (places_held (parts_of bindings))) same in omega (arith, e);
    owed = subst (λ (bindings : Bindings B). Gets (bindings_owe before) [] (bindings_owe bindings)) (sym same) (gets_same (bindings_owe before));
  }

  -- a call that waits brings back what it took
  pub waits_rest : (pictures : ℕ → Picture) (s : Step) (before taken after : Bindings B) (asking : Asking B) → FormsCall pictures s before taken asking → refusal_of pictures (holdings_of before) s ≡ None → IsStep s → length before.names ≡ 32
      → after ≡ taken_back asking.homes taken asking.call → BindingsRest before after []
  waits_rest pictures s before taken after asking forms unrefused ranges wide same = record {
    less = λ w.
        let bindings = forms_then w pictures s before taken after asking (brought asking.call) (permit_of asking.call) forms (fits_back asking.homes asking.call) same in
        let none = ap (sum_by w) (brought_back (from_of asking) asking.call) in
        omega (arith, bindings, none);
    owed = subst (λ (bindings : Bindings B). Gets (bindings_owe before) [] (bindings_owe bindings)) (sym same) owes;
  }
    where
      back : Gets (bindings_owe taken) (owes_at asking.homes (brought asking.call)) (bindings_owe (taken_back asking.homes taken asking.call))
      back = elim (forms_free pictures s before taken asking forms unrefused ranges wide) [
        | inl quiet ↦ nothing_owes asking.homes taken (brought asking.call) (permit_of asking.call) quiet.1
        | inr free ↦ given_owes asking.homes taken (brought asking.call) (permit_of asking.call) free
      ]

      owes : Gets (bindings_owe before) [] (bindings_owe (taken_back asking.homes taken asking.call))
      owes = gets_more (bindings_owe before) [] (bindings_owe taken) (bindings_owe (taken_back asking.homes taken asking.call)) (forms_owe pictures s before taken asking forms)
          (subst (λ xs. Gets (bindings_owe taken) xs (bindings_owe (taken_back asking.homes taken asking.call))) (brought_owes_none asking.homes asking.call) back)

  -- a transaction is begun or changed
  pub begins_rest : (before after : Bindings B) (number : ℕ) → after ≡ with_txn before number (Some empty) → BindingsRest before after []
  begins_rest before after number same = record {
    less = λ w. let put = put_txn w before number empty in let e = ap (λ (bindings : Bindings B). sum_by w (places_held (parts_of bindings))) same in omega (arith, put, e);
    owed = names_owe before after (ap (λ (bindings : Bindings B). bindings.names) same);
  }

  pub edits_rest : (before after : Bindings B) (number : ℕ) (change : Contents ReadLeaseOf → Contents ReadLeaseOf) → ((txn : Contents ReadLeaseOf) → places_sent (change txn) ≡ places_sent txn) → Edits before after number change
      → BindingsRest before after []
  edits_rest before after number change keeps edits = record {
    less = λ w. let sum = edits_sum w before after number change edits in let e = ap (sum_by w) (keeps edits.edited) in omega (arith, sum, e);
    owed = names_owe before after (edits_names before after number change edits);
  }

  -- a picture is drawn in a lease
  drawn_rest : (before after : Bindings B) (name : ℕ) (lease : WriteLeaseOf) (picture : Picture) → get_or before.names name None ≡ Some (holding.Lends lease)
      → after ≡ with_held (with_held before name None) name (Some (holding.Lends (drawn_with lease picture))) → BindingsRest before after []
  drawn_rest before after name lease picture there same = record {
    less = λ w.
        let none = set_none (λ (held : Option (Holding B)). sum_by w (place_of held)) before.names name (holding.Lends lease) there in
        let most = set_most (λ (held : Option (Holding B)). sum_by w (place_of held)) (set before.names name None) name (Some (holding.Lends (drawn_with lease picture))) in
        let a = weight_is w before in
        let b = weight_is w drawn in
        let c = bindings_weight w before in
        let d = bindings_weight w drawn in
        let e = ap (λ (bindings : Bindings B). sum_by w (places_held (parts_of bindings))) same in
        omega (arith, none, most, a, b, c, d, e);
    owed = subst (λ (bindings : Bindings B). Gets (bindings_owe before) [] (bindings_owe bindings)) (sym same) owes;
  }
    where
      drawn : Bindings B
      drawn = with_held (with_held before name None) name (Some (holding.Lends (drawn_with lease picture)))

      owes : Gets (bindings_owe before) [] (bindings_owe drawn)
      owes = subst (λ (names : List (Option (Holding B))). Gets (bindings_owe before) [] (flat_map place_owed names)) (sym (put_other before.names name (Some (holding.Lends (drawn_with lease picture)))))
          (gets_set place_owed [] before.names name None (Some (holding.Lends (drawn_with lease picture))) (within before.names name (holding.Lends lease) there)
          (subst (λ (xs : List WriteAt). Gets xs [] []) (sym (ap place_owed there)) (gets_same [])))

  owed_pay : (before after : Bindings B) (name : ℕ) (owing : OwingOf) (held : Held) → get_or before.names name None ≡ Some (holding.Owes owing held) → after ≡ with_held before name None → BindingsPay before after (write_of owing held)
  owed_pay before after name owing held there same = record {
    less = λ w.
        let none = set_none (λ (held : Option (Holding B)). sum_by w (place_of held)) before.names name (holding.Owes owing held) there in
        let a = weight_is w before in
        let b = weight_is w (with_held before name None) in
        let c = bindings_weight w before in
        let d = bindings_weight w (with_held before name None) in
        let e = ap (λ (bindings : Bindings B). sum_by w (places_held (parts_of bindings))) same in
        omega (arith, none, a, b, c, d, e);
    was_owed = in_all place_owed before.names (get_or before.names name None) (write_of owing held) (got_there before.names name None low)
        (subst (λ (xs : List WriteAt). Contains xs (write_of owing held)) (sym (ap place_owed there)) (first (write_of owing held) []));
    fewer = subst (λ (bindings : Bindings B). AreIn (bindings_owe bindings) (bindings_owe before)) (sym same) loses.0;
    unpaid = subst (λ (bindings : Bindings B). AreIn (bindings_owe before) ((write_of owing held ∷ []) ++ bindings_owe bindings)) (sym same) loses.1;
  }
    where
      low : name < length before.names
      low = within before.names name (holding.Owes owing held) there

      loses : AreIn (flat_map place_owed (set before.names name None)) (flat_map place_owed before.names) × AreIn (flat_map place_owed before.names) ((write_of owing held ∷ []) ++ flat_map place_owed (set before.names name None))
      loses = loses_set place_owed (write_of owing held ∷ []) before.names name None None low (λ x none. absurd (none_in x none))
          (subst (λ (xs : List WriteAt). AreIn xs ((write_of owing held ∷ []) ++ [])) (sym (ap place_owed there)) (λ x there. there))

  -- a frame goes into a transaction
  takes_sum : (w : RightAt → ℕ) (before taken : Bindings B) (name : ℕ) (held : Holding B) → Takes before taken name held → sum_by w (places_held (parts_of taken)) + sum_by w (place_of (Some held)) ≡ sum_by w (places_held (parts_of before))
  takes_sum w before taken name held takes =
      let none = set_none (λ (h : Option (Holding B)). sum_by w (place_of h)) before.names name held takes.held_there in
      let a = weight_is w before in
      let b = weight_is w (with_held before name None) in
      let c = bindings_weight w before in
      let d = bindings_weight w (with_held before name None) in
      let e = ap (λ (bindings : Bindings B). sum_by w (places_held (parts_of bindings))) takes.rest in
      omega (arith, none, a, b, c, d, e)

  module _ (home : DeskHome) (by place number : ℕ) (before after : Bindings B) (old new : DeskView B) where
    pub shows_rest : (layer name : ℕ) (shows : Shows home by place number layer name before after old new)
        → BindingsRest before after (map lease_of (option_to_list (replaced_by shows.edits.edited.buffers (buffer_with layer shows.lease))))
    shows_rest layer name shows = record {
      less = λ w.
          let take = takes_sum w before shows.without_frame name (holding.Reads shows.lease) shows.takes in
          let edit = edits_sum w shows.without_frame after number (λ txn. set_buffer txn (buffer_with layer shows.lease)) shows.edits in
          let put = with_sum w shows.edits.edited.buffers (buffer_with layer shows.lease) in
          let single = sum_by-cons w (right_read shows.lease) [] in
          let leases = leases_weight w (option_to_list (replaced_by shows.edits.edited.buffers (buffer_with layer shows.lease))) in
          omega (arith, take, edit, put, single, leases);
      owed = subst (λ (names : List (Option (Holding B))). Gets (bindings_owe before) [] (flat_map place_owed names)) (sym (edits_names shows.without_frame after number (λ txn. set_buffer txn (buffer_with layer shows.lease)) shows.edits))
          (takes_owes before shows.without_frame name (holding.Reads shows.lease) shows.takes refl);
    }

    pub merges_rest : (other : ℕ) (merges : Merges home by place number other before after old new) → BindingsRest before after (map lease_of (all_replaced merges.into.buffers merges.from.buffers))
    merges_rest other merges = record {
      less = λ w.
          let a = take_txn w before merges.without_into number merges.into merges.takes_into in
          let b = take_txn w merges.without_into merges.without_both other merges.from merges.takes_from in
          let c = put_txn w merges.without_both number (merged merges.into merges.from) in
          let d = put_txn w (with_txn merges.without_both number (Some (merged merges.into merges.from))) other empty in
          let e = ap (λ (bindings : Bindings B). sum_by w (places_held (parts_of bindings))) merges.put_back in
          let f = withs_sum w merges.into.buffers merges.from.buffers in
          let leases = leases_weight w (all_replaced merges.into.buffers merges.from.buffers) in
          omega (arith, a, b, c, d, e, f, leases);
      owed = subst (λ (names : List (Option (Holding B))). Gets (bindings_owe before) [] (flat_map place_owed names)) (sym same) (gets_same (bindings_owe before));
    }
      where
        same : after.names ≡ before.names
        same = ap (λ (bindings : Bindings B). bindings.names) merges.put_back ∙ ap (λ (bindings : Bindings B). bindings.names) merges.takes_from.txn_rest ∙ ap (λ (bindings : Bindings B). bindings.names) merges.takes_into.txn_rest

  -- what a draw that is done did: a lease was drawn in, or what was owed was paid and its turn left
  pub data Drew (before after : Bindings B) (name : ℕ) (held : Holding B) (old new : SeatView) : Type 0 where
    Lease : (lease : WriteLeaseOf) → held ≡ holding.Lends lease → BindingsRest before after [] → new.leaves ≡ old.leaves → Drew before after name held old new
    Paid : (owing : OwingOf) (buffer : Held) → held ≡ holding.Owes owing buffer → BindingsPay before after (write_of owing buffer) → Gets old.leaves (issued_turn owing.turn ∷ []) new.leaves → Drew before after name held old new

enters_left : (done : Work) (fence : Fence) (seen : Seen) (old new : SeatView) → Enters done fence seen old new → new.leaves ≡ old.leaves
enters_left (work.Fresh turn) fence seen old new enters = ap (λ (v : SeatView). v.leaves) enters.1.1.0
enters_left (work.Drawn inside pixels) fence seen old new same = ap (λ (v : SeatView). v.leaves) same

passes_left : (buffer number : ℕ) (old new : SeatView) → Passes buffer number old new → Gets old.leaves ((buffer, number) ∷ []) new.leaves
passes_left buffer number old new passes =
    let entered : passes.0.leaves ≡ old.leaves = ap (λ (v : SeatView). v.leaves) passes.1.1.0 in
    let left : new.leaves ≡ passes.0.leaves ++ (buffer, number) ∷ [] = ap (λ (v : SeatView). v.leaves) passes.2.1 in
    subst (λ (xs : List Turn). Gets old.leaves ((buffer, number) ∷ []) xs) (sym (left ∙ ap (λ (xs : List Turn). xs ++ (buffer, number) ∷ []) entered)) (gets_push old.leaves (buffer, number))

module _ {B : Type 0} where
  pub drew : (before after : Bindings B) (name : ℕ) (picture : Picture) (seen : Seen) (held : Holding B) (left : Option (Holding B)) (old new : SeatView) → get_or before.names name None ≡ Some held
      → DrawsHolding picture seen held left old new → after ≡ filled (with_held before name None) name left → Drew before after name held old new
  drew before after name picture seen (holding.Lends lease) left old new there draws same =
      Lease lease refl
      (drawn_rest before after name lease picture there (same ∙ ap (filled (with_held before name None) name) (draws.2 ∙ ap (λ (given : WriteLeaseOf). Some (holding.Lends given)) draws.1.1)))
      (enters_left lease.work lease.fence seen old new draws.1.2)
  drew before after name picture seen (holding.Owes owing buffer) left old new there draws same =
      Paid owing buffer refl (owed_pay before after name owing buffer there (same ∙ ap (filled (with_held before name None) name) draws.1))
      (passes_left owing.turn.buffer owing.turn.number old new draws.0.2)
  drew before after name picture seen (holding.Reads lease) left old new there draws same = absurd draws
  drew before after name picture seen (holding.Frees queue loose) left old new there draws same = absurd draws

  pub drawn_back : (before : Bindings B) (name : ℕ) (held : Holding B) → get_or before.names name None ≡ Some held → filled (with_held before name None) name (Some held) ≡ before
  drawn_back before name held there = ap (λ (names : List (Option (Holding B))). record before { names = names }) (put_back before.names name held there)

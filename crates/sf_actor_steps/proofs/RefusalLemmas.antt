-- The status of an actor's own tests, by what a name or a number holds.
use Rattle.std.proofs.Common.{◌≡◌, ℕ, true, false, cond, not, ◌||◌, [], ◌∷◌, Option, Some, None, refl, sym}
use Rattle.std.specs.Prelude.{◌==◌, is_some, is_none}
use Rattle.std.proofs.lemmas.Bool.{false≢true}
use Rattle.sf_actor.specs.sf_picture.declared.picture.Picture.{Picture}
use Rattle.sf_actor.specs.sf_script_scene.declared.step.Step.TheVariants as step
use Rattle.sf_actor.specs.sf_surface.Tokens.{OwingOf, ReadLeaseOf, WriteLeaseOf, is_size_of}
use Rattle.sf_actor.specs.sf_slots.declared.slot.Held.{Held}
use Rattle.sf_actor.specs.Names.{Holdings, Token, is_frame, is_lent, is_owing, name_in, transaction_in}
use Rattle.sf_actor.specs.Tests.{bad_value, empty, first_met, is_frameless, refusal_of}
use Rattle.sf_actor_steps.specs.Bindings.{lent_of, owing_of, shown_of}

-- drawing in a lent buffer
pub draw_lent : (pictures : ℕ → Picture) (holdings : Holdings) (name picture : ℕ) (lease : WriteLeaseOf) → name_in holdings name ≡ Some (lent_of lease) → refusal_of pictures holdings (step.Draw name picture) ≡ cond (not (is_size_of (pictures picture) lease.held)) (Some 11) None
unfolding refusal_of
draw_lent pictures holdings name picture lease e = rw e refl

-- drawing what is owed
pub draw_owed : (pictures : ℕ → Picture) (holdings : Holdings) (name picture : ℕ) (owing : OwingOf) (held : Held) → name_in holdings name ≡ Some (owing_of owing held) → refusal_of pictures holdings (step.Draw name picture) ≡ cond (not (owing.turn.promises.number == picture)) (Some 11) None
unfolding refusal_of
draw_owed pictures holdings name picture owing held e = rw e refl

-- drawing where nothing is lent or owed
pub draw_empty : (pictures : ℕ → Picture) (holdings : Holdings) (name picture : ℕ) → is_lent (name_in holdings name) ≡ false → is_owing (name_in holdings name) ≡ false → refusal_of pictures holdings (step.Draw name picture) ≡ Some 15
unfolding refusal_of
draw_empty pictures holdings name picture lent owing = rw (lent, owing) refl

-- moving a frame into a transaction
pub buffer_frame : (pictures : ℕ → Picture) (holdings : Holdings) (number layer name : ℕ) (lease : ReadLeaseOf) → is_some (transaction_in holdings number) ≡ true → name_in holdings name ≡ Some (shown_of lease) → refusal_of pictures holdings (step.Buffer number layer name) ≡ cond (lease.frame == 0) (Some 11) None
unfolding refusal_of
buffer_frame pictures holdings number layer name lease h e = by_transaction (transaction_in holdings number) (name_in holdings name) h e
  where
    by_transaction : {A : Type 0} (o : Option A) (t : Option Token) → is_some o ≡ true → t ≡ Some (shown_of lease) → first_met ((is_none o || not (is_frame t), empty) ∷ (is_frameless t, bad_value) ∷ []) ≡ cond (lease.frame == 0) (Some 11) None
    by_transaction None t h e = absurd (false≢true h)
    by_transaction (Some a) t h e = rw e refl

pub buffer_no_number : (pictures : ℕ → Picture) (holdings : Holdings) (number layer name : ℕ) → is_some (transaction_in holdings number) ≡ false → refusal_of pictures holdings (step.Buffer number layer name) ≡ Some 15
unfolding refusal_of
buffer_no_number pictures holdings number layer name h = by_transaction (transaction_in holdings number) (name_in holdings name) h
  where
    by_transaction : {A : Type 0} (o : Option A) (t : Option Token) → is_some o ≡ false → first_met ((is_none o || not (is_frame t), empty) ∷ (is_frameless t, bad_value) ∷ []) ≡ Some 15
    by_transaction None t h = refl
    by_transaction (Some a) t h = absurd (false≢true (sym h))

pub buffer_no_frame : (pictures : ℕ → Picture) (holdings : Holdings) (number layer name : ℕ) → is_frame (name_in holdings name) ≡ false → refusal_of pictures holdings (step.Buffer number layer name) ≡ Some 15
unfolding refusal_of
buffer_no_frame pictures holdings number layer name h = by_transaction (transaction_in holdings number) (name_in holdings name) h
  where
    by_transaction : {A : Type 0} (o : Option A) (t : Option Token) → is_frame t ≡ false → first_met ((is_none o || not (is_frame t), empty) ∷ (is_frameless t, bad_value) ∷ []) ≡ Some 15
    by_transaction None t h = refl
    by_transaction (Some a) t h = rw h refl

-- merging transactions
pub merge_of : (pictures : ℕ → Picture) (holdings : Holdings) (n m : ℕ) → cond (not (is_some (transaction_in holdings n))) (Some 15) (cond (not (is_some (transaction_in holdings m))) (Some 15) (cond (n == m) (Some 11) None)) ≡ refusal_of pictures holdings (step.Merge n m)
unfolding refusal_of
merge_of pictures holdings n m = by_both (transaction_in holdings n) (transaction_in holdings m)
  where
    by_both : {A : Type 0} (o p : Option A) → cond (not (is_some o)) (Some 15) (cond (not (is_some p)) (Some 15) (cond (n == m) (Some 11) None)) ≡ first_met ((is_none o || is_none p, empty) ∷ (n == m, bad_value) ∷ [])
    by_both None p = refl
    by_both (Some a) None = refl
    by_both (Some a) (Some b) = refl

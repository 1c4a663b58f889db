-- The words that ask for a live run ask for no summary, and those that ask for another ask for no queue of arrivals.
use Rattle.std.proofs.Common.{◌≡◌, ℕ, ◌∙◌, Bool, true, false, not, List, Option, None, Some, refl, sym, ap, subst}
use Rattle.std.specs.Prelude.{if◌then◌else◌}
use Rattle.sf_app_options.specs.Command.{has_matches}
use Rattle.sf_app_options.specs.Options.{do_conflict, is_live, is_queue, options_from, options_in, options_of}
use Rattle.sf_app_options.specs.declared.options.Intake.{Intake}
use Rattle.sf_app_options.specs.declared.options.Options.{Options}
use Rattle.sf_app_options.specs.declared.options.Run.{Run}
use Rattle.sf_app_options.specs.sf_script_words.Text.{Text}

some_is : {A : Type 0} (x y : A) → Some x ≡ Some y → x ≡ y
some_is x y e = cc

none_is_some : {A B : Type 0} (y : A) → None ≡ Some y → B
none_is_some y e = absurd (let no : ⊥ = cc in no)

-- options that are there are those that were found, without a conflict
by_conflict : (conflict : Bool) (found options : Options) → (if conflict then None else Some found) ≡ Some options → (conflict ≡ false) × (found ≡ options)
by_conflict true found options e = none_is_some options e
by_conflict false found options e = (refl, some_is found options e)

by_values : (r : Option Run) (workers number : Option ℕ) (summary : Bool) (intake : Option Intake) (options : Options) → options_from r workers number summary intake ≡ Some options
    → do_conflict (is_live options.run) options.summary (is_queue options.intake) ≡ false
unfolding options_from
by_values (Some r) (Some workers) (Some number) summary (Some intake) options e =
    let found = by_conflict (do_conflict (is_live r) summary (is_queue intake)) _ options e in
    ap (λ (o : Options). do_conflict (is_live o.run) o.summary (is_queue o.intake)) (sym found.1) ∙ found.0
by_values (Some r) (Some workers) (Some number) summary None options e = none_is_some options e
by_values (Some r) (Some workers) None summary intake options e = none_is_some options e
by_values (Some r) None number summary intake options e = none_is_some options e
by_values None workers number summary intake options e = none_is_some options e

-- what right words ask for has no conflict
no_conflict : (words : List Text) (options : Options) → options_of words ≡ Some options → do_conflict (is_live options.run) options.summary (is_queue options.intake) ≡ false
unfolding options_of options_in
no_conflict words options e = by_matches (has_matches words) refl
  where
    by_matches : (matches : Bool) → has_matches words ≡ matches → do_conflict (is_live options.run) options.summary (is_queue options.intake) ≡ false
    by_matches true s = by_values _ _ _ _ _ options (rw s at e)
    by_matches false s = none_is_some options (rw s at e)

pub live_has_no_summary : (words : List Text) (options : Options) → options_of words ≡ Some options → is_live options.run ≡ true → options.summary ≡ false
live_has_no_summary words options e live =
    subst (λ (l : Bool). do_conflict l options.summary (is_queue options.intake) ≡ false) live (no_conflict words options e)

pub others_have_no_queue : (words : List Text) (options : Options) → options_of words ≡ Some options → is_live options.run ≡ false → not (is_queue options.intake) ≡ true
others_have_no_queue words options e other =
    ap not (subst (λ (l : Bool). do_conflict l options.summary (is_queue options.intake) ≡ false) other (no_conflict words options e))

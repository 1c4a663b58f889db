-- Steps behind steps.
use Rattle.std.proofs.Common.{◌≡◌, ℕ, ◌<◌, ◌++◌, true, false, List, [], ◌∷◌, suc, Some, Ok, refl, ap, ◌∙◌, arith}
use Rattle.std.specs.Prelude.{nat_lt, option_to_list}
use Rattle.std.proofs.lemmas.Bool.Decides.{nat_tests}
use Rattle.std.proofs.lemmas.List.{length-append}
use Rattle.sf_script_words.specs.Text.{Text, words_of}
use Rattle.sf_script.specs.sf_script_scene.Scene.{last_of, on_last, steps_so_far, with_step}
use Rattle.sf_script.specs.sf_script_scene.declared.step.ActorScript.{ActorScript}
use Rattle.sf_script.specs.sf_script_scene.declared.step.Step.{Step}
use Rattle.sf_script.specs.Draft.{DraftValue, draft_after, is_any}
use Rattle.sf_script.specs.Keywords.{keyword_of}
use Rattle.sf_script.specs.Script.{form_at, is_skipped}
use Rattle.sf_script.specs.Steps.{step_at}
use Rattle.sf_script.specs.declared.line.Keyword.TheVariants as key
use Rattle.sf_script.specs.declared.line.Line.TheVariants as line
use Rattle.sf_script.specs.declared.line.NamedStep.{NamedStep}
use Rattle.sf_script.specs.declared.line.StepForm.{StepForm}
use Rattle.law_generated.specs.inner.Plain.{IsPlain}
use Rattle.law_generated.specs.inner.Ready.{Leads, Ready, numbers_of}
use Rattle.law_generated.proofs.PassLemmas.{both_pass, line_passes}

any_on : {X : Type 0} (f : X → X) (x : X) (xs : List X) → is_any (on_last f (x ∷ xs)) ≡ true
any_on f x [] = refl
any_on f x (y ∷ ys) = refl

last_behind : {X : Type 0} (x : X) (xs : List X) → is_any xs ≡ true → last_of (x ∷ xs) ≡ last_of xs
last_behind x [] e = absurd (cc)
last_behind x (y ∷ ys) e = refl

any_step : (actors : List ActorScript) (s : Step) → is_any actors ≡ true → is_any (with_step actors s) ≡ true
any_step [] s e = absurd (cc)
any_step (x ∷ xs) s e = any_on (λ a. record a { steps = a.steps ++ s ∷ [] }) x xs

counted_step : (actors : List ActorScript) (s : Step) → is_any actors ≡ true → steps_so_far (last_of (with_step actors s)) ≡ suc (steps_so_far (last_of actors))
counted_step [] s e = absurd (cc)
counted_step (x ∷ []) s e = omega (arith, length-append x.steps (s ∷ []))
counted_step (x ∷ y ∷ ys) s e =
    ap steps_so_far (last_behind x (with_step (y ∷ ys) s) (any_step (y ∷ ys) s refl)) ∙ counted_step (y ∷ ys) s refl

numbers_step : (actors : List ActorScript) (s : Step) → numbers_of (with_step actors s) ≡ numbers_of actors
numbers_step [] s = refl
numbers_step (x ∷ []) s = refl
numbers_step (x ∷ y ∷ ys) s = ap (λ ns. x.number ∷ ns) (numbers_step (y ∷ ys) s)

step_ready : (d : DraftValue) (names : List Text) (k : ℕ) (named : NamedStep) → Ready d names k → Ready (draft_after d (line.Step named)) (names ++ option_to_list named.new_name) (suc k)
step_ready d names k named r = record {
  version = r.version;
  queues = r.queues;
  pictures = r.pictures;
  actor = any_step d.scene.actors named.step r.actor;
  counted = counted_step d.scene.actors named.step r.actor ∙ ap suc r.counted;
  rank = refl;
  named = ap (λ ns. ns ++ option_to_list named.new_name) r.named;
}

room : (n k : ℕ) → n ≡ k → k < 4096 → nat_lt n 4096 ≡ true
room n k e h = grind (arith, nat_tests)

-- the line of a step leads on
pub step_leads : (d : DraftValue) (names : List Text) (k : ℕ) (t word : Text) (words : List Text) (form : StepForm) (named : NamedStep) → Ready d names k → k < 4096 → IsPlain t → words_of t ≡ word ∷ words →
    is_skipped (word ∷ words) ≡ false → keyword_of false true word ≡ Some (key.Step form) → step_at d form words ≡ Ok named → Leads ((t ++ 10 ∷ []) ∷ []) d (names ++ option_to_list named.new_name) (suc k)
unfolding form_at
step_leads d names k t word words form named r h plain cut begins known formed = record {
  after = draft_after d (line.Step named);
  pass = line_passes d t word words (key.Step form) (line.Step named) (record {
    plain = plain;
    cut = cut;
    begins = begins;
    known = rw (r.version, r.actor) known;
    follows = rw (r.rank, r.actor) refl;
    fits = room (steps_so_far (last_of d.scene.actors)) k r.counted h;
    formed = rw (formed) refl;
  });
  ready = step_ready d names k named r;
  kept = numbers_step d.scene.actors named.step;
}

-- lines behind lines
pub leads_then : (xs ys : List Text) (d : DraftValue) (names names' : List Text) (k k' : ℕ) → Leads xs d names k → ((e : DraftValue) → Ready e names k → Leads ys e names' k') → Leads (xs ++ ys) d names' k'
leads_then xs ys d names names' k k' first next =
    let second = next first.after first.ready in
    record { after = second.after; pass = both_pass xs ys d first.after second.after first.pass second.pass; ready = second.ready; kept = second.kept ∙ first.kept }

-- lines behind a line
pub more : (line : Text) (lines : List Text) (d : DraftValue) (names names' : List Text) (k k' : ℕ) → Leads (line ∷ []) d names k → ((e : DraftValue) → Ready e names k → Leads lines e names' k') → Leads (line ∷ lines) d names' k'
more line lines d names names' k k' first next = leads_then (line ∷ []) lines d names names' k k' first next

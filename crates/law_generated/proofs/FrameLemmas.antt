-- The lines of a generated frame.
use Rattle.std.proofs.Common.{◌≡◌, ℕ, ◌+◌, ◌*◌, ◌<◌, ◌≤◌, ◌++◌, List, [], ◌∷◌, zero, suc, Option, Some, None, refl, ap, subst, arith}
use Rattle.std.specs.Prelude.{codes, option_to_list}
use Rattle.sf_script_words.specs.Text.{Text, lines_of}
use Rattle.sf_script.specs.Script.{lines_at}
use Rattle.law_generated.specs.inner.Passes.{Passes}
use Rattle.sf_script.specs.Draft.{DraftValue, place_of}
use Rattle.sf_script.specs.Mentions.{bound_as}
use Rattle.sf_script_generate.specs.Lines.{numbered_line, plain_line, position_line}
use Rattle.sf_script_generate.specs.Generator.{after_draws, draw, frame_lines, parts_from}
use Rattle.law_generated.specs.inner.Ready.{Leads, Ready}
use Rattle.law_generated.proofs.ReadyLemmas.{leads_then, more}
use Rattle.law_generated.proofs.StepLemmas.{acquire_leads, apply_leads, buffer_leads, dequeuewait_leads, draw_leads, position_leads, queue_leads, request_leads, tx_leads}

-- a frame, by its picture and its place
frame_by : (d : DraftValue) (names : List Text) (n1 n2 : Option Text) (k a p x y : ℕ) → Ready d names k → k + 9 < 4096 → 1 ≤ a → a ≤ 4 → 1 ≤ p → p ≤ 8 → x < 129 → y < 89 →
    bound_as names (codes "s") (place_of (codes "s") names) ≡ Some (record { place = 0; new_name = n1 }) →
    place_of (codes "s") (names ++ option_to_list n1) ≡ Some 0 →
    bound_as (names ++ option_to_list n1) (codes "i") (place_of (codes "i") (names ++ option_to_list n1)) ≡ Some (record { place = 1; new_name = n2 }) →
    place_of (codes "i") ((names ++ option_to_list n1) ++ option_to_list n2) ≡ Some 1 →
    Leads
    (numbered_line (codes "dequeuewait ") a (codes " as s") ∷ plain_line (codes "request s") ∷ numbered_line (codes "draw s ") p [] ∷ numbered_line (codes "queue s ") p [] ∷ numbered_line (codes "acquire ") a (codes " as i")
    ∷ plain_line (codes "tx 1") ∷ numbered_line (codes "buffer 1 ") a (codes " i") ∷ position_line a x y ∷ numbered_line (codes "apply 1 token ") a [] ∷ []) d ((names ++ option_to_list n1) ++ option_to_list n2)
    (suc (suc (suc (suc (suc (suc (suc (suc (suc k)))))))))
frame_by d names n1 n2 k a p x y r m la ha lp hp hx hy b1 p1 b2 p2 =
    let one = names ++ option_to_list n1 in
    let two = one ++ option_to_list n2 in
    more _ _ d _ _ _ _ (dequeuewait_leads d names k a n1 r (omega arith) b1 la ha) (λ e1 r1.
    more _ _ e1 _ _ _ _ (request_leads e1 one (suc k) r1 (omega arith) p1) (λ e2 r2.
    more _ _ e2 _ _ _ _ (draw_leads e2 one (suc (suc k)) p r2 (omega arith) p1 lp hp) (λ e3 r3.
    more _ _ e3 _ _ _ _ (queue_leads e3 one (suc (suc (suc k))) p r3 (omega arith) p1 lp hp) (λ e4 r4.
    more _ _ e4 _ _ _ _ (acquire_leads e4 one (suc (suc (suc (suc k)))) a n2 r4 (omega arith) b2 la ha) (λ e5 r5.
    more _ _ e5 _ _ _ _ (tx_leads e5 two (suc (suc (suc (suc (suc k))))) r5 (omega arith)) (λ e6 r6.
    more _ _ e6 _ _ _ _ (buffer_leads e6 two (suc (suc (suc (suc (suc (suc k)))))) a r6 (omega arith) p2 la ha) (λ e7 r7.
    more _ _ e7 _ _ _ _ (position_leads e7 two (suc (suc (suc (suc (suc (suc (suc k))))))) a x y r7 (omega arith) la ha hx hy) (λ e8 r8.
    apply_leads e8 two (suc (suc (suc (suc (suc (suc (suc (suc k)))))))) a r8 (omega arith) la ha))))))))

abbrev Both : List Text
Both = codes "s" ∷ codes "i" ∷ []

nine : (k : ℕ) → suc (suc (suc (suc (suc (suc (suc (suc (suc k)))))))) ≡ k + 9
nine k = omega arith

pub first_frame : (d : DraftValue) (k a s : ℕ) → Ready d [] k → k + 9 < 4096 → 1 ≤ a → a ≤ 4 → Leads (frame_lines s a) d (codes "s" ∷ codes "i" ∷ []) (k + 9)
first_frame d k a s r m la ha =
    subst (λ (n : ℕ). Leads (frame_lines s a) d Both n) (nine k)
    (frame_by d [] (Some (codes "s")) (Some (codes "i")) k a (1 + draw s 0 8) (draw s 1 129) (draw s 2 89) r m la ha (omega arith) (omega arith) (omega arith) (omega arith) refl refl refl refl)

pub next_frame : (d : DraftValue) (k a s : ℕ) → Ready d (codes "s" ∷ codes "i" ∷ []) k → k + 9 < 4096 → 1 ≤ a → a ≤ 4 → Leads (frame_lines s a) d (codes "s" ∷ codes "i" ∷ []) (k + 9)
next_frame d k a s r m la ha =
    subst (λ (n : ℕ). Leads (frame_lines s a) d Both n) (nine k)
    (frame_by d (codes "s" ∷ codes "i" ∷ []) None None k a (1 + draw s 0 8) (draw s 1 129) (draw s 2 89) r m la ha (omega arith) (omega arith) (omega arith) (omega arith) refl refl refl refl)

pub no_lines_pass : (d : DraftValue) → Passes [] d d
no_lines_pass d = record { on = λ number rest. let same : number ≡ number + 0 = omega arith in ap (λ n. lines_at n d (lines_of rest)) same }

pub no_lead : (d : DraftValue) (names : List Text) (k : ℕ) → Ready d names k → Leads [] d names k
no_lead d names k r = record { after = d; pass = no_lines_pass d; ready = r; kept = refl }

-- frames behind the first one
later_frames : (n : ℕ) (d : DraftValue) (k a s j : ℕ) → Ready d (codes "s" ∷ codes "i" ∷ []) k → k + 9 * n < 4096 → 1 ≤ a → a ≤ 4 → Leads (parts_from (λ y i. frame_lines y a) 3 s j n) d (codes "s" ∷ codes "i" ∷ []) (k + 9 * n)
unfolding parts_from
later_frames zero d k a s j r m la ha =
    let same : k ≡ k + 9 * 0 = omega arith in
    subst (λ (c : ℕ). Leads [] d Both c) same (no_lead d Both k r)
later_frames (suc n) d k a s j r m la ha =
    let same : k + 9 + 9 * n ≡ k + 9 * suc n = omega arith in
    subst (λ (c : ℕ). Leads (frame_lines s a ++ parts_from (λ y i. frame_lines y a) 3 (after_draws s 3) (j + 1) n) d Both c) same
    (leads_then (frame_lines s a) (parts_from (λ y i. frame_lines y a) 3 (after_draws s 3) (j + 1) n) d Both Both (k + 9) (k + 9 + 9 * n) (next_frame d k a s r (omega arith) la ha)
    (λ e r'. later_frames n e (k + 9) a (after_draws s 3) (j + 1) r' (omega arith) la ha))

-- all frames of a producer, of which there is one at least
pub all_frames : (n : ℕ) (d : DraftValue) (k a s : ℕ) → Ready d [] k → k + 9 * suc n < 4096 → 1 ≤ a → a ≤ 4 → Leads (parts_from (λ y i. frame_lines y a) 3 s 0 (suc n)) d (codes "s" ∷ codes "i" ∷ []) (k + 9 + 9 * n)
unfolding parts_from
all_frames n d k a s r m la ha =
    leads_then (frame_lines s a) (parts_from (λ y i. frame_lines y a) 3 (after_draws s 3) (0 + 1) n) d Both Both (k + 9) (k + 9 + 9 * n) (first_frame d k a s r (omega arith) la ha)
    (λ e r'. later_frames n e (k + 9) a (after_draws s 3) (0 + 1) r' (omega arith) la ha)

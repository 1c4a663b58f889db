-- The lines of a generated producer.
use Rattle.std.proofs.Common.{◌≡◌, ℕ, ◌+◌, ◌*◌, ◌<◌, ◌≤◌, ◌++◌, ◌==◌, Bool, true, false, List, [], ◌∷◌, suc, Some, Ok, refl, ap, ◌∙◌, arith}
use Rattle.std.specs.Prelude.{codes, ◌||◌}
use Rattle.std.specs.List.{list_any}
use Rattle.std.specs.Fmt.{decimal}
use Rattle.sf_script_words.specs.Text.{Text}
use Rattle.sf_script_words.specs.Reading.{end_at}
use Rattle.sf_script.specs.sf_script_scene.Scene.{has_actor, last_of, steps_so_far}
use Rattle.sf_script.specs.sf_script_scene.declared.step.ActorScript.{ActorScript}
use Rattle.sf_script.specs.Declarations.{new_actor_at}
use Rattle.sf_script.specs.Draft.{DraftValue, draft_after, is_any}
use Rattle.sf_script.specs.Keywords.{keyword_of, plain_keyword_of}
use Rattle.sf_script.specs.Script.{form_at, is_skipped}
use Rattle.sf_script.specs.declared.line.Keyword.TheVariants as key
use Rattle.sf_script.specs.declared.line.Line.TheVariants as line
use Rattle.sf_script_generate.specs.Lines.{numbered_line, pair_line, plain_line, position_line}
use Rattle.sf_script_generate.specs.Generator.{after_draws, draw, frame_lines, parts_from, producer_lines}
use Rattle.law_generated.specs.inner.Passes.{Passes}
use Rattle.law_generated.specs.inner.Ready.{Between, Comes, Leads, Ready, numbers_of}
use Rattle.law_generated.proofs.FrameLemmas.{all_frames, no_lines_pass}
use Rattle.law_generated.proofs.PassLemmas.{both_pass, line_passes}
use Rattle.law_generated.proofs.ReadLemmas.{number_read}
use Rattle.law_generated.proofs.ReadyLemmas.{more}
use Rattle.law_generated.proofs.StepLemmas.{alpha_leads, apply_leads, async_leads, connect_leads, create_leads, maxdequeued_leads, position_leads, tx_leads, z_leads}
use Rattle.law_generated.proofs.WordLemmas.{first, number_end, numbered_plain}

actor_known : (b : Bool) → keyword_of false b (codes "actor") ≡ Some key.Actor
unfolding plain_keyword_of
actor_known true = refl
actor_known false = refl

any_more : {X : Type 0} (xs : List X) (x : X) → is_any (xs ++ x ∷ []) ≡ true
any_more [] x = refl
any_more (y ∷ ys) x = refl

last_more : {X : Type 0} (xs : List X) (x : X) → last_of (xs ++ x ∷ []) ≡ Some x
last_more [] x = refl
last_more (y ∷ []) x = refl
last_more (y ∷ z ∷ zs) x = last_more (z ∷ zs) x

numbers_more : (actors : List ActorScript) (a : ActorScript) → numbers_of (actors ++ a ∷ []) ≡ numbers_of actors ++ a.number ∷ []
numbers_more [] a = refl
numbers_more (x ∷ xs) a = ap (λ ns. x.number ∷ ns) (numbers_more xs a)

has_in : (actors : List ActorScript) (n : ℕ) → has_actor actors n ≡ list_any (λ m. m == n) (numbers_of actors)
has_in [] n = refl
has_in (x ∷ xs) n = ap (λ b. (x.number == n) || b) (has_in xs n)

actor_formed : (d : DraftValue) (numbers : List ℕ) (a : ℕ) → Between d numbers → 1 ≤ a → a ≤ 4 → list_any (λ m. m == a) numbers ≡ false → form_at d key.Actor (decimal a ∷ []) ≡ Ok (line.Actor a)
unfolding form_at new_actor_at end_at
actor_formed d numbers a b l h fresh =
    let lacks : has_actor d.scene.actors a ≡ false = has_in d.scene.actors a ∙ ap (list_any (λ m. m == a)) b.actors ∙ fresh in
    rw (b.version, number_read 1 16 a [] l (omega arith) (omega arith), lacks) refl

actor_ready : (d : DraftValue) (numbers : List ℕ) (a : ℕ) → Between d numbers → Ready (draft_after d (line.Actor a)) [] 0
actor_ready d numbers a b = record {
  version = b.version;
  queues = b.queues;
  pictures = b.pictures;
  actor = any_more d.scene.actors (record { number = a; steps = [] });
  counted = ap steps_so_far (last_more d.scene.actors (record { number = a; steps = [] }));
  rank = refl;
  named = refl;
}

actor_passes : (d : DraftValue) (numbers : List ℕ) (a : ℕ) → Between d numbers → 1 ≤ a → a ≤ 4 → list_any (λ m. m == a) numbers ≡ false → Passes (numbered_line (codes "actor ") a [] ∷ []) d (draft_after d (line.Actor a))
unfolding numbered_line is_skipped
actor_passes d numbers a b l h fresh =
    line_passes d ((codes "actor " ++ decimal a) ++ []) (codes "actor") (decimal a ∷ []) key.Actor (line.Actor a) (record {
      plain = numbered_plain (codes "actor ") a [] (omega arith) refl refl;
      cut = first (codes "actor") (decimal a ++ []) refl (number_end a (omega arith));
      begins = refl;
      known = rw (b.version) (actor_known (is_any d.scene.actors));
      follows = rw (b.follows) refl;
      fits = refl;
      formed = actor_formed d numbers a b l h fresh;
    })

-- the steps of a producer, behind its `actor` line
steps_lead : (d : DraftValue) (a x n : ℕ) → Ready d [] 0 → 18 + 9 * n < 4096 → 1 ≤ a → a ≤ 4 →
    Leads
    (numbered_line (codes "connect ") a [] ∷ numbered_line (codes "maxdequeued ") a (codes " 2") ∷ pair_line (codes "async ") a (codes " ") (draw x 0 2) ∷ plain_line (codes "tx 1") ∷ numbered_line (codes "set 1 ") a (codes " create buffer 0")
    ∷ position_line a (draw x 1 129) (draw x 2 89) ∷ pair_line (codes "set 1 ") a (codes " z ") (draw x 3 5) ∷ pair_line (codes "set 1 ") a (codes " alpha ") (draw x 4 256) ∷ numbered_line (codes "apply 1 token ") a []
    ∷ parts_from (λ y i. frame_lines y a) 3 (after_draws x 5) 0 (suc n)) d (codes "s" ∷ codes "i" ∷ []) (9 + 9 + 9 * n)
steps_lead d a x n r m la ha =
    more _ _ d _ _ _ _ (connect_leads d [] 0 a r (omega arith) la ha) (λ e1 r1.
    more _ _ e1 _ _ _ _ (maxdequeued_leads e1 [] 1 a r1 (omega arith) la ha) (λ e2 r2.
    more _ _ e2 _ _ _ _ (async_leads e2 [] 2 a (draw x 0 2) r2 (omega arith) la ha (omega arith)) (λ e3 r3.
    more _ _ e3 _ _ _ _ (tx_leads e3 [] 3 r3 (omega arith)) (λ e4 r4.
    more _ _ e4 _ _ _ _ (create_leads e4 [] 4 a r4 (omega arith) la ha) (λ e5 r5.
    more _ _ e5 _ _ _ _ (position_leads e5 [] 5 a (draw x 1 129) (draw x 2 89) r5 (omega arith) la ha (omega arith) (omega arith)) (λ e6 r6.
    more _ _ e6 _ _ _ _ (z_leads e6 [] 6 a (draw x 3 5) r6 (omega arith) la ha (omega arith)) (λ e7 r7.
    more _ _ e7 _ _ _ _ (alpha_leads e7 [] 7 a (draw x 4 256) r7 (omega arith) la ha (omega arith)) (λ e8 r8.
    more _ _ e8 _ _ _ _ (apply_leads e8 [] 8 a r8 (omega arith) la ha) (λ e9 r9.
    all_frames n e9 9 a (after_draws x 5) r9 (omega arith) la ha)))))))))

-- a producer with its frames
pub producer_comes : (d : DraftValue) (numbers : List ℕ) (a x n : ℕ) → Between d numbers → 18 + 9 * n < 4096 → 1 ≤ a → a ≤ 4 → list_any (λ m. m == a) numbers ≡ false → Comes (producer_lines (suc n) x a) d (numbers ++ a ∷ [])
producer_comes d numbers a x n b m la ha fresh =
    let begun = draft_after d (line.Actor a) in
    let steps = steps_lead begun a x n (actor_ready d numbers a b) m la ha in
    record {
      after = steps.after;
      pass = both_pass (numbered_line (codes "actor ") a [] ∷ []) _ d begun steps.after (actor_passes d numbers a b la ha fresh) steps.pass;
      between = record {
        version = steps.ready.version;
        queues = steps.ready.queues;
        pictures = steps.ready.pictures;
        actors = steps.kept ∙ numbers_more d.scene.actors (record { number = a; steps = [] }) ∙ ap (λ ns. ns ++ a ∷ []) b.actors;
        follows = rw (steps.ready.rank) refl;
      };
    }

pub comes_then : (xs ys : List Text) (d : DraftValue) (n m : List ℕ) → Comes xs d n → ((e : DraftValue) → Between e n → Comes ys e m) → Comes (xs ++ ys) d m
comes_then xs ys d n m first next =
    let second = next first.after first.between in
    record { after = second.after; pass = both_pass xs ys d first.after second.after first.pass second.pass; between = second.between }

no_more : (d : DraftValue) (numbers : List ℕ) → Between d numbers → Comes [] d numbers
no_more d numbers b = record { after = d; pass = no_lines_pass d; between = b }

-- all producers
pub producers_come : (d : DraftValue) (x n : ℕ) → Between d [] → 18 + 9 * n < 4096 → Comes (parts_from (producer_lines (suc n)) (5 + 3 * suc n) x 1 4) d (1 ∷ 2 ∷ 3 ∷ 4 ∷ [])
unfolding parts_from
producers_come d x n b m =
    let w = 5 + 3 * suc n in
    let x2 = after_draws x w in
    let x3 = after_draws x2 w in
    let x4 = after_draws x3 w in
    comes_then _ _ d (1 ∷ []) _ (producer_comes d [] 1 x n b m (omega arith) (omega arith) refl) (λ e b1.
    comes_then _ _ e (1 ∷ 2 ∷ []) _ (producer_comes e (1 ∷ []) 2 x2 n b1 m (omega arith) (omega arith) refl) (λ f b2.
    comes_then _ _ f (1 ∷ 2 ∷ 3 ∷ []) _ (producer_comes f (1 ∷ 2 ∷ []) 3 x3 n b2 m (omega arith) (omega arith) refl) (λ g b3.
    comes_then _ _ g (1 ∷ 2 ∷ 3 ∷ 4 ∷ []) _ (producer_comes g (1 ∷ 2 ∷ 3 ∷ []) 4 x4 n b3 m (omega arith) (omega arith) refl) (λ h b4. no_more h (1 ∷ 2 ∷ 3 ∷ 4 ∷ []) b4))))

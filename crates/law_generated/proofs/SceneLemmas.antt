-- The whole of a generated scene.
use Rattle.std.proofs.Common.{◌≡◌, ℕ, ◌+◌, ◌*◌, ◌≤◌, ◌%◌, ◌++◌, ◌==◌, Bool, true, false, List, [], ◌∷◌, zero, suc, Option, Some, None, Ok, Err, length, refl, sym, ap, subst, ◌∙◌, arith}
use Rattle.std.specs.Prelude.{codes, nat_lt}
use Rattle.std.specs.List.{concat, list_any}
use Rattle.std.specs.Fmt.{decimal}
use Rattle.std.proofs.lemmas.Bool.Decides.{nat_tests}
use Rattle.std.proofs.lemmas.List.{append-nil}
use Rattle.sf_script_words.specs.Text.{Text, lines_of as cut_lines}
use Rattle.sf_script_words.specs.Numbers.{decimal_of, digits_after}
use Rattle.sf_script_words.specs.Reading.{end_at, number_at, word_at}
use Rattle.sf_script.specs.sf_script_scene.Scene.{SceneValue, has_queue}
use Rattle.sf_script.specs.sf_script_scene.declared.declarations.QueueDecl.{QueueDecl}
use Rattle.sf_script.specs.Declarations.{header_at, new_queue_at, new_timeline_at, version_at}
use Rattle.sf_script.specs.Draft.{DraftValue, draft_after, is_any, may_follow_rank, no_lines}
use Rattle.sf_script.specs.Keywords.{keyword_of, plain_keyword_of}
use Rattle.sf_script.specs.Parse.{parsed_of, too_long}
use Rattle.sf_script.specs.Script.{form_at, is_skipped, lines_at, scene_at, script_of}
use Rattle.sf_script.specs.declared.line.Header.{Header}
use Rattle.sf_script.specs.declared.line.Keyword.TheVariants as key
use Rattle.sf_script.specs.declared.line.Line.TheVariants as line
use Rattle.sf_script_generate.specs.Lines.{numbered_line, plain_line}
use Rattle.sf_script_generate.specs.Generator.{after_draws, first_lines, frames_of, lines_of, parts_from, pictures_from, producer_lines, producers_from, queue_line}
use Rattle.law_generated.specs.inner.Painting.{Painting}
use Rattle.law_generated.specs.inner.Passes.{Passes}
use Rattle.law_generated.specs.inner.Ready.{Between}
use Rattle.law_generated.specs.Scenes.{IsScene}
use Rattle.law_generated.proofs.SizeLemmas.{text_within}
use Rattle.law_generated.proofs.DecimalLemmas.{if_not}
use Rattle.law_generated.proofs.PassLemmas.{both_pass, line_passes}
use Rattle.law_generated.proofs.PictureLemmas.{has_in, pictures_paint, thirty_two}
use Rattle.law_generated.proofs.ProducerLemmas.{producers_come}
use Rattle.law_generated.proofs.ReadLemmas.{number_read}
use Rattle.law_generated.proofs.WordLemmas.{first, last, number_first, numbered_plain, plain_so}

-- the first lines

abbrev head : Header
head = record { version = 1; width = 160; height = 120; period = 16666667 }

abbrev headed : DraftValue
headed = draft_after no_lines (line.Scene head)

scene_known : keyword_of false false (codes "scene") ≡ Some key.Scene
unfolding plain_keyword_of
scene_known = refl

scene_formed : form_at no_lines key.Scene (codes "1" ∷ codes "160" ∷ codes "120" ∷ codes "16666667" ∷ []) ≡ Ok (line.Scene head)
unfolding form_at header_at version_at end_at number_at word_at decimal_of digits_after
scene_formed = refl

scene_passes : Passes (plain_line (codes "scene 1 160 120 16666667") ∷ []) no_lines headed
unfolding plain_line is_skipped
scene_passes = line_passes no_lines (codes "scene 1 160 120 16666667") (codes "scene") (codes "1" ∷ codes "160" ∷ codes "120" ∷ codes "16666667" ∷ []) key.Scene (line.Scene head) (record {
  plain = plain_so (codes "scene 1 160 120 16666667") refl;
  cut = first (codes "scene") (codes "1 160 120 16666667") refl (first (codes "1") (codes "160 120 16666667") refl (first (codes "160") (codes "120 16666667") refl (first (codes "120") (codes "16666667") refl (last (codes "16666667") refl))));
  begins = refl;
  known = scene_known;
  follows = refl;
  fits = refl;
  formed = scene_formed;
})

abbrev timed : DraftValue
timed = draft_after headed (line.Timeline 1)

timeline_known : keyword_of false false (codes "timeline") ≡ Some key.Timeline
unfolding plain_keyword_of
timeline_known = refl

timeline_formed : form_at headed key.Timeline (codes "1" ∷ []) ≡ Ok (line.Timeline 1)
unfolding form_at new_timeline_at end_at number_at word_at decimal_of digits_after
timeline_formed = refl

timeline_passes : Passes (plain_line (codes "timeline 1") ∷ []) headed timed
unfolding plain_line is_skipped
timeline_passes = line_passes headed (codes "timeline 1") (codes "timeline") (codes "1" ∷ []) key.Timeline (line.Timeline 1) (record {
  plain = plain_so (codes "timeline 1") refl;
  cut = first (codes "timeline") (codes "1") refl (last (codes "1") refl);
  begins = refl;
  known = timeline_known;
  follows = refl;
  fits = refl;
  formed = timeline_formed;
})

abbrev declared : ℕ → QueueDecl
declared q = record { number = q; width = 32; height = 32 }

queue_known : keyword_of false false (codes "queue") ≡ Some key.Queue
unfolding plain_keyword_of
queue_known = refl

queue_formed : (d : DraftValue) (q : ℕ) → 1 ≤ q → q ≤ 4 → has_queue d.scene.queues q ≡ false → form_at d key.Queue (decimal q ∷ codes "32" ∷ codes "32" ∷ []) ≡ Ok (line.Queue (declared q))
unfolding form_at new_queue_at end_at
queue_formed d q l h fresh = rw (number_read 1 16 q (codes "32" ∷ codes "32" ∷ []) l (omega arith) (omega arith), fresh, thirty_two (codes "32" ∷ []), thirty_two []) refl

queue_passes : (d : DraftValue) (q : ℕ) → 1 ≤ q → q ≤ 4 → has_queue d.scene.queues q ≡ false → d.scene.version ≡ 1 → is_any d.scene.actors ≡ false → may_follow_rank d.rank key.Queue ≡ true → Passes (queue_line q ∷ []) d (draft_after d (line.Queue (declared q)))
unfolding numbered_line is_skipped
queue_passes d q l h fresh v a f = line_passes d ((codes "queue " ++ decimal q) ++ codes " 32 32") (codes "queue") (decimal q ∷ codes "32" ∷ codes "32" ∷ []) key.Queue (line.Queue (declared q)) (record {
  plain = numbered_plain (codes "queue ") q (codes " 32 32") (omega arith) refl refl;
  cut = first (codes "queue") (decimal q ++ codes " 32 32") refl (number_first q (codes "32 32") (omega arith) (first (codes "32") (codes "32") refl (last (codes "32") refl)));
  begins = refl;
  known = rw (v, a) queue_known;
  follows = rw (f) refl;
  fits = refl;
  formed = queue_formed d q l h fresh;
})

abbrev after_queues : ℕ → DraftValue → DraftValue
after_queues q d = draft_after d (line.Queue (declared q))

abbrev opened : DraftValue
opened = after_queues 4 (after_queues 3 (after_queues 2 (after_queues 1 timed)))

first_pass : Passes first_lines no_lines opened
first_pass =
    both_pass (plain_line (codes "scene 1 160 120 16666667") ∷ []) _ no_lines headed opened scene_passes
    (both_pass (plain_line (codes "timeline 1") ∷ []) _ headed timed opened timeline_passes
    (both_pass (queue_line 1 ∷ []) _ timed (after_queues 1 timed) opened (queue_passes timed 1 (omega arith) (omega arith) refl refl refl refl)
    (both_pass (queue_line 2 ∷ []) _ (after_queues 1 timed) (after_queues 2 (after_queues 1 timed)) opened (queue_passes (after_queues 1 timed) 2 (omega arith) (omega arith) refl refl refl refl)
    (both_pass (queue_line 3 ∷ []) (queue_line 4 ∷ []) (after_queues 2 (after_queues 1 timed)) (after_queues 3 (after_queues 2 (after_queues 1 timed))) opened (queue_passes (after_queues 2 (after_queues 1 timed)) 3 (omega arith) (omega arith) refl refl refl refl)
    (queue_passes (after_queues 3 (after_queues 2 (after_queues 1 timed))) 4 (omega arith) (omega arith) refl refl refl refl)))))

four : (q : ℕ) → 1 ≤ q → q ≤ 4 → list_any (λ m. m == q) (1 ∷ 2 ∷ 3 ∷ 4 ∷ []) ≡ true
four zero l h = absurd (omega arith)
four (suc zero) l h = refl
four (suc (suc zero)) l h = refl
four (suc (suc (suc zero))) l h = refl
four (suc (suc (suc (suc zero)))) l h = refl
four (suc (suc (suc (suc (suc q))))) l h = absurd (omega arith)

eight : (p : ℕ) → 1 ≤ p → p ≤ 8 → list_any (λ m. m == p) (1 ∷ 2 ∷ 3 ∷ 4 ∷ 5 ∷ 6 ∷ 7 ∷ 8 ∷ []) ≡ true
eight zero l h = absurd (omega arith)
eight (suc zero) l h = refl
eight (suc (suc zero)) l h = refl
eight (suc (suc (suc zero))) l h = refl
eight (suc (suc (suc (suc zero)))) l h = refl
eight (suc (suc (suc (suc (suc zero))))) l h = refl
eight (suc (suc (suc (suc (suc (suc zero)))))) l h = refl
eight (suc (suc (suc (suc (suc (suc (suc zero))))))) l h = refl
eight (suc (suc (suc (suc (suc (suc (suc (suc zero)))))))) l h = refl
eight (suc (suc (suc (suc (suc (suc (suc (suc (suc p))))))))) l h = absurd (omega arith)

opened_paints : Painting opened [] 0
opened_paints = record { version = refl; queues = four; pictures = refl; actors = refl; filled = refl; follows = refl }

actor_follows : (rank : Option ℕ) → may_follow_rank rank key.Picture ≡ true → may_follow_rank rank key.Actor ≡ true
actor_follows None e = e
actor_follows (Some rank) e = grind (arith, nat_tests)

end_follows : (rank : Option ℕ) → may_follow_rank rank key.Actor ≡ true → may_follow_rank rank key.End ≡ true
end_follows None e = e
end_follows (Some rank) e = grind (arith, nat_tests)

between_painted : (d : DraftValue) (k : ℕ) → Painting d (1 ∷ 2 ∷ 3 ∷ 4 ∷ 5 ∷ 6 ∷ 7 ∷ 8 ∷ []) k → Between d []
between_painted d k b = record {
  version = b.version;
  queues = b.queues;
  pictures = λ p l h. has_in d.scene.pictures p ∙ ap (list_any (λ m. m == p)) b.pictures ∙ eight p l h;
  actors = rw (b.actors) refl;
  follows = actor_follows d.rank b.follows;
}

end_known : (b : Bool) → keyword_of false b (codes "end") ≡ Some key.End
unfolding plain_keyword_of
end_known true = refl
end_known false = refl

end_formed : (d : DraftValue) → form_at d key.End [] ≡ Ok line.End
unfolding form_at end_at
end_formed d = refl

end_passes : (d : DraftValue) (numbers : List ℕ) → Between d numbers → Passes (plain_line (codes "end") ∷ []) d (draft_after d line.End)
unfolding plain_line is_skipped
end_passes d numbers b = line_passes d (codes "end") (codes "end") [] key.End line.End (record {
  plain = plain_so (codes "end") refl;
  cut = last (codes "end") refl;
  begins = refl;
  known = rw (b.version) (end_known (is_any d.scene.actors));
  follows = rw (end_follows d.rank b.follows) refl;
  fits = refl;
  formed = end_formed d;
})

ended : (number : ℕ) (d : DraftValue) → lines_at number (draft_after d line.End) (cut_lines []) ≡ Ok d.scene
unfolding lines_at scene_at cut_lines
ended number d = refl

abbrev behind_one : ℕ → ℕ
behind_one number = 19 + number % 400

-- what the lines of a script spell
record Spelled (text : Text) : Type 0 where
  scene : SceneValue
  spelled : script_of text ≡ Ok scene
  version : scene.version ≡ 1

-- the lines of a number's text spell some scene
spelled_lines : (number : ℕ) → Spelled (concat (lines_of number))
unfolding lines_of script_of
spelled_lines number =
    let n = behind_one number in
    let painted = pictures_paint opened number opened_paints in
    let come = producers_come painted.after (after_draws number 72) n (between_painted painted.after 2 painted.painting) (omega arith) in
    let same : suc n ≡ frames_of number = omega arith in
    let produced = subst (λ (f : ℕ). Passes (parts_from (producer_lines f) (5 + 3 * f) (after_draws number 72) 1 4) painted.after come.after) same come.pass in
    let all = both_pass _ (plain_line (codes "end") ∷ []) no_lines come.after (draft_after come.after line.End)
    (both_pass _ (producers_from (after_draws number 72) (frames_of number)) no_lines painted.after come.after (both_pass first_lines (pictures_from number) no_lines opened painted.after first_pass painted.pass) produced)
    (end_passes come.after (1 ∷ 2 ∷ 3 ∷ 4 ∷ []) come.between) in
    record {
      scene = come.after.scene;
      version = come.between.version;
      spelled = ap (λ t. lines_at 1 no_lines (cut_lines t)) (sym (append-nil (concat (((first_lines ++ pictures_from number) ++ producers_from (after_draws number 72) (frames_of number)) ++ plain_line (codes "end") ∷ []))))
          ∙ all.on 1 [] ∙ ended (1 + length (((first_lines ++ pictures_from number) ++ producers_from (after_draws number 72) (frames_of number)) ++ plain_line (codes "end") ∷ [])) come.after;
    }

not_over : (n : ℕ) → n ≤ 1048576 → nat_lt 1048576 n ≡ false
not_over n h = grind (arith, nat_tests)

-- a text that is not too long is what its lines spell
parsed_lines : (text : Text) (scene : SceneValue) → length text ≤ 1048576 → script_of text ≡ Ok scene → parsed_of text ≡ Ok scene
unfolding parsed_of
parsed_lines text scene h e = if_not (nat_lt 1048576 (length text)) (Err too_long) (script_of text) (not_over (length text) h) ∙ e

pub text_is_scene : (number : ℕ) → IsScene (concat (lines_of number))
text_is_scene number =
    let lines = spelled_lines number in
    record { scene = lines.scene; parsed = parsed_lines (concat (lines_of number)) lines.scene (text_within number) lines.spelled; version = lines.version }

-- The lines of generated steps.
use Rattle.std.proofs.Common.{◌≡◌, ℕ, ◌<◌, ◌≤◌, ◌^◌, ◌++◌, ◌==◌, true, false, List, [], ◌∷◌, suc, Option, Some, None, Ok, pos, refl, subst, arith}
use Rattle.std.specs.Prelude.{codes, option_to_list}
use Rattle.std.specs.Fmt.{decimal}
use Rattle.std.proofs.lemmas.List.{append-nil}
use Rattle.sf_script_words.specs.Text.{Text, words_of}
use Rattle.sf_script_words.specs.Names.{is_name, name_at}
use Rattle.sf_script_words.specs.Reading.{end_at, fixed_at, word_at}
use Rattle.sf_script.specs.sf_script_scene.declared.change.Change.TheVariants as change
use Rattle.sf_script.specs.sf_script_scene.declared.step.Step.{Step}
use Rattle.sf_script.specs.sf_script_scene.declared.step.Step.TheVariants as step
use Rattle.sf_script.specs.Draft.{DraftValue, place_of}
use Rattle.sf_script.specs.Changes.{change_at, changed_at, created_at, moved_at, parent_at, raised_at}
use Rattle.sf_script.specs.Keywords.{change_form_of, keyword_of}
use Rattle.sf_script.specs.Mentions.{bound_as, bound_name_at, declared_picture_at, declared_queue_at, used_name_at}
use Rattle.sf_script.specs.Parts.{asked_size_at, expected_at, fences_at, part_at, time_at}
use Rattle.sf_script.specs.Script.{is_skipped}
use Rattle.sf_script.specs.Steps.{acquire_at, as_name_at, async_at, dequeue_at, draw_at, most_at, on_queue_at, plain, queue_at, request_at, step_at}
use Rattle.sf_script.specs.Transactions.{apply_at, buffer_at, set_at, tx_at}
use Rattle.sf_script.specs.declared.line.Keyword.TheVariants as key
use Rattle.sf_script.specs.declared.line.QueueForm.TheVariants as queue
use Rattle.sf_script.specs.declared.line.Side.TheVariants as side
use Rattle.sf_script.specs.declared.line.StepForm.{StepForm}
use Rattle.sf_script.specs.declared.line.StepForm.TheVariants as form
use Rattle.sf_script_generate.specs.Lines.{numbered_line, pair_line, plain_line, position_line}
use Rattle.law_generated.specs.inner.Plain.{IsPlain}
use Rattle.law_generated.specs.inner.Ready.{Leads, Ready}
use Rattle.law_generated.proofs.KeywordLemmas.{acquire_known, apply_known, async_known, buffer_known, connect_known, dequeuewait_known, draw_known, maxdequeued_known, queue_known, request_known, set_known, tx_known}
use Rattle.law_generated.proofs.ReadLemmas.{flag_read, none_read, number_read, one_read, signed_read, two_read}
use Rattle.law_generated.proofs.ReadyLemmas.{step_leads}
use Rattle.law_generated.proofs.WordLemmas.{first, last, number_end, number_first, number_last, number_then, numbered_plain, pair_plain, plain_so, position_plain, position_words}

-- a step that binds no new name
plain_leads : (d : DraftValue) (names : List Text) (k : ℕ) (t word : Text) (words : List Text) (form : StepForm) (s : Step) → Ready d names k → k < 4096 → IsPlain t → words_of t ≡ word ∷ words →
    is_skipped (word ∷ words) ≡ false → keyword_of false true word ≡ Some (key.Step form) → step_at d form words ≡ Ok (plain s) → Leads ((t ++ 10 ∷ []) ∷ []) d names (suc k)
plain_leads d names k t word words form s r h p cut begins known formed =
    subst (λ (ns : List Text). Leads ((t ++ 10 ∷ []) ∷ []) d ns (suc k)) (append-nil names) (step_leads d names k t word words form (plain s) r h p cut begins known formed)

-- numbers of producers and pictures are small
small : (n : ℕ) → n < 1000 → n < 2 ^ 64
small n h = omega arith

connect_read : (d : DraftValue) (names : List Text) (k a : ℕ) → Ready d names k → 1 ≤ a → a ≤ 4 → step_at d (form.OnQueue queue.Connect) (decimal a ∷ []) ≡ Ok (plain (step.Connect a))
unfolding step_at on_queue_at declared_queue_at end_at
connect_read d names k a r l h = rw (number_read 1 16 a [] l (omega arith) (omega arith), r.queues a l h) refl

pub connect_leads : (d : DraftValue) (names : List Text) (k a : ℕ) → Ready d names k → k < 4096 → 1 ≤ a → a ≤ 4 → Leads (numbered_line (codes "connect ") a [] ∷ []) d names (suc k)
unfolding numbered_line is_skipped
connect_leads d names k a r m l h =
    plain_leads d names k ((codes "connect " ++ decimal a) ++ []) (codes "connect") (decimal a ∷ []) (form.OnQueue queue.Connect) (step.Connect a) r m (numbered_plain (codes "connect ") a [] (omega arith) refl refl)
    (first (codes "connect") (decimal a ++ []) refl (number_end a (omega arith))) refl connect_known (connect_read d names k a r l h)

maxdequeued_read : (d : DraftValue) (names : List Text) (k : ℕ) (a : ℕ) → Ready d names k → 1 ≤ a → a ≤ 4 → step_at d (form.Most side.Producer) (decimal a ∷ codes "2" ∷ []) ≡ Ok (plain (step.MaxDequeued a 2))
unfolding step_at most_at declared_queue_at end_at
maxdequeued_read d names k a r l h = rw (number_read 1 16 a (codes "2" ∷ []) l (omega arith) (omega arith), r.queues a l h, two_read []) refl

pub maxdequeued_leads : (d : DraftValue) (names : List Text) (k : ℕ) (a : ℕ) → Ready d names k → k < 4096 → 1 ≤ a → a ≤ 4 → Leads (numbered_line (codes "maxdequeued ") a (codes " 2") ∷ []) d names (suc k)
unfolding numbered_line is_skipped
maxdequeued_leads d names k a r m l h =
    plain_leads d names k ((codes "maxdequeued " ++ decimal a) ++ codes " 2") (codes "maxdequeued") (decimal a ∷ codes "2" ∷ []) (form.Most side.Producer) (step.MaxDequeued a 2) r m (numbered_plain (codes "maxdequeued ") a (codes " 2") (omega arith) refl refl)
    (first (codes "maxdequeued") (decimal a ++ codes " 2") refl (number_first a (codes "2") (omega arith) (last (codes "2") refl))) refl maxdequeued_known (maxdequeued_read d names k a r l h)

async_read : (d : DraftValue) (names : List Text) (k : ℕ) (a b : ℕ) → Ready d names k → 1 ≤ a → a ≤ 4 → b < 2 → step_at d (form.Async) (decimal a ∷ decimal b ∷ []) ≡ Ok (plain (step.Async a (b == 1)))
unfolding step_at async_at declared_queue_at end_at
async_read d names k a b r l h g = rw (number_read 1 16 a (decimal b ∷ []) l (omega arith) (omega arith), r.queues a l h, flag_read b [] g) refl

pub async_leads : (d : DraftValue) (names : List Text) (k : ℕ) (a b : ℕ) → Ready d names k → k < 4096 → 1 ≤ a → a ≤ 4 → b < 2 → Leads (pair_line (codes "async ") a (codes " ") b ∷ []) d names (suc k)
unfolding pair_line is_skipped
async_leads d names k a b r m l h g =
    plain_leads d names k (((codes "async " ++ decimal a) ++ codes " ") ++ decimal b) (codes "async") (decimal a ∷ decimal b ∷ []) (form.Async) (step.Async a (b == 1)) r m (pair_plain (codes "async ") a (codes " ") b (omega arith) (omega arith) refl refl)
    (first (codes "async") ((decimal a ++ codes " ") ++ decimal b) refl (number_then a [] (decimal b) (omega arith) (number_last b (omega arith)))) refl async_known (async_read d names k a b r l h g)

tx_read : (d : DraftValue) (names : List Text) (k : ℕ) → Ready d names k → step_at d (form.Tx) (codes "1" ∷ []) ≡ Ok (plain (step.Tx 1))
unfolding step_at tx_at end_at
tx_read d names k r = rw (one_read []) refl

pub tx_leads : (d : DraftValue) (names : List Text) (k : ℕ) → Ready d names k → k < 4096 → Leads (plain_line (codes "tx 1") ∷ []) d names (suc k)
unfolding plain_line is_skipped
tx_leads d names k r m =
    plain_leads d names k (codes "tx 1") (codes "tx") (codes "1" ∷ []) (form.Tx) (step.Tx 1) r m (plain_so (codes "tx 1") refl)
    (first (codes "tx") (codes "1") refl (last (codes "1") refl)) refl tx_known (tx_read d names k r)

create_read : (d : DraftValue) (names : List Text) (k : ℕ) (a : ℕ) → Ready d names k → 1 ≤ a → a ≤ 4 → step_at d form.Set (codes "1" ∷ decimal a ∷ codes "create" ∷ codes "buffer" ∷ codes "0" ∷ []) ≡ Ok (plain (step.Set 1 a (change.CreateBuffer (Some 0))))
unfolding step_at set_at change_at changed_at change_form_of end_at word_at created_at parent_at
create_read d names k a r l h = rw (one_read (decimal a ∷ codes "create" ∷ codes "buffer" ∷ codes "0" ∷ []), number_read 1 4294967295 a (codes "create" ∷ codes "buffer" ∷ codes "0" ∷ []) l (omega arith) (omega arith), none_read []) refl

pub create_leads : (d : DraftValue) (names : List Text) (k : ℕ) (a : ℕ) → Ready d names k → k < 4096 → 1 ≤ a → a ≤ 4 → Leads (numbered_line (codes "set 1 ") a (codes " create buffer 0") ∷ []) d names (suc k)
unfolding numbered_line is_skipped
create_leads d names k a r m l h =
    plain_leads d names k ((codes "set 1 " ++ decimal a) ++ codes " create buffer 0") (codes "set") (codes "1" ∷ decimal a ∷ codes "create" ∷ codes "buffer" ∷ codes "0" ∷ []) form.Set (step.Set 1 a (change.CreateBuffer (Some 0))) r m (numbered_plain (codes "set 1 ") a (codes " create buffer 0") (omega arith) refl refl)
    (first (codes "set") (codes "1 " ++ (decimal a ++ codes " create buffer 0")) refl (first (codes "1") (decimal a ++ codes " create buffer 0") refl (number_first a (codes "create buffer 0") (omega arith) (first (codes "create") (codes "buffer 0") refl (first (codes "buffer") (codes "0") refl (last (codes "0") refl)))))) refl set_known (create_read d names k a r l h)

position_read : (d : DraftValue) (names : List Text) (k : ℕ) (a x y : ℕ) → Ready d names k → 1 ≤ a → a ≤ 4 → x < 129 → y < 89 → step_at d form.Set (codes "1" ∷ decimal a ∷ codes "position" ∷ decimal x ∷ decimal y ∷ []) ≡ Ok (plain (step.Set 1 a (change.Position (pos x) (pos y))))
unfolding step_at set_at change_at changed_at change_form_of end_at word_at moved_at
position_read d names k a x y r l h hx hy = rw (one_read (decimal a ∷ codes "position" ∷ decimal x ∷ decimal y ∷ []), number_read 1 4294967295 a (codes "position" ∷ decimal x ∷ decimal y ∷ []) l (omega arith) (omega arith), signed_read 16384 16384 x (decimal y ∷ []) (omega arith) (omega arith), signed_read 16384 16384 y [] (omega arith) (omega arith)) refl

pub position_leads : (d : DraftValue) (names : List Text) (k : ℕ) (a x y : ℕ) → Ready d names k → k < 4096 → 1 ≤ a → a ≤ 4 → x < 129 → y < 89 → Leads (position_line a x y ∷ []) d names (suc k)
unfolding position_line is_skipped
position_leads d names k a x y r m l h hx hy =
    plain_leads d names k (((((codes "set 1 " ++ decimal a) ++ codes " position ") ++ decimal x) ++ codes " ") ++ decimal y) (codes "set") (codes "1" ∷ decimal a ∷ codes "position" ∷ decimal x ∷ decimal y ∷ []) form.Set (step.Set 1 a (change.Position (pos x) (pos y))) r m (position_plain a x y (omega arith) (omega arith) (omega arith))
    (first (codes "set") (codes "1 " ++ ((((decimal a ++ codes " position ") ++ decimal x) ++ codes " ") ++ decimal y)) refl (first (codes "1") ((((decimal a ++ codes " position ") ++ decimal x) ++ codes " ") ++ decimal y) refl (position_words a x y (omega arith) (omega arith) (omega arith)))) refl set_known (position_read d names k a x y r l h hx hy)

z_read : (d : DraftValue) (names : List Text) (k : ℕ) (a z : ℕ) → Ready d names k → 1 ≤ a → a ≤ 4 → z < 5 → step_at d form.Set (codes "1" ∷ decimal a ∷ codes "z" ∷ decimal z ∷ []) ≡ Ok (plain (step.Set 1 a (change.Z (pos z))))
unfolding step_at set_at change_at changed_at change_form_of end_at word_at raised_at
z_read d names k a z r l h g = rw (one_read (decimal a ∷ codes "z" ∷ decimal z ∷ []), number_read 1 4294967295 a (codes "z" ∷ decimal z ∷ []) l (omega arith) (omega arith), signed_read 2147483648 2147483647 z [] (omega arith) (omega arith)) refl

pub z_leads : (d : DraftValue) (names : List Text) (k : ℕ) (a z : ℕ) → Ready d names k → k < 4096 → 1 ≤ a → a ≤ 4 → z < 5 → Leads (pair_line (codes "set 1 ") a (codes " z ") z ∷ []) d names (suc k)
unfolding pair_line is_skipped
z_leads d names k a z r m l h g =
    plain_leads d names k (((codes "set 1 " ++ decimal a) ++ codes " z ") ++ decimal z) (codes "set") (codes "1" ∷ decimal a ∷ codes "z" ∷ decimal z ∷ []) form.Set (step.Set 1 a (change.Z (pos z))) r m (pair_plain (codes "set 1 ") a (codes " z ") z (omega arith) (omega arith) refl refl)
    (first (codes "set") (codes "1 " ++ ((decimal a ++ codes " z ") ++ decimal z)) refl (first (codes "1") ((decimal a ++ codes " z ") ++ decimal z) refl (number_then a (codes "z ") (decimal z) (omega arith) (first (codes "z") (decimal z) refl (number_last z (omega arith)))))) refl set_known (z_read d names k a z r l h g)

alpha_read : (d : DraftValue) (names : List Text) (k : ℕ) (a b : ℕ) → Ready d names k → 1 ≤ a → a ≤ 4 → b < 256 → step_at d form.Set (codes "1" ∷ decimal a ∷ codes "alpha" ∷ decimal b ∷ []) ≡ Ok (plain (step.Set 1 a (change.Alpha b)))
unfolding step_at set_at change_at changed_at change_form_of end_at word_at
alpha_read d names k a b r l h g = rw (one_read (decimal a ∷ codes "alpha" ∷ decimal b ∷ []), number_read 1 4294967295 a (codes "alpha" ∷ decimal b ∷ []) l (omega arith) (omega arith), number_read 0 255 b [] (omega arith) (omega arith) (omega arith)) refl

pub alpha_leads : (d : DraftValue) (names : List Text) (k : ℕ) (a b : ℕ) → Ready d names k → k < 4096 → 1 ≤ a → a ≤ 4 → b < 256 → Leads (pair_line (codes "set 1 ") a (codes " alpha ") b ∷ []) d names (suc k)
unfolding pair_line is_skipped
alpha_leads d names k a b r m l h g =
    plain_leads d names k (((codes "set 1 " ++ decimal a) ++ codes " alpha ") ++ decimal b) (codes "set") (codes "1" ∷ decimal a ∷ codes "alpha" ∷ decimal b ∷ []) form.Set (step.Set 1 a (change.Alpha b)) r m (pair_plain (codes "set 1 ") a (codes " alpha ") b (omega arith) (omega arith) refl refl)
    (first (codes "set") (codes "1 " ++ ((decimal a ++ codes " alpha ") ++ decimal b)) refl (first (codes "1") ((decimal a ++ codes " alpha ") ++ decimal b) refl (number_then a (codes "alpha ") (decimal b) (omega arith) (first (codes "alpha") (decimal b) refl (number_last b (omega arith)))))) refl set_known (alpha_read d names k a b r l h g)

apply_read : (d : DraftValue) (names : List Text) (k : ℕ) (a : ℕ) → Ready d names k → 1 ≤ a → a ≤ 4 → step_at d (form.Apply) (codes "1" ∷ codes "token" ∷ decimal a ∷ []) ≡ Ok (plain (step.Apply 1 a))
unfolding step_at apply_at fixed_at end_at word_at
apply_read d names k a r l h = rw (one_read (codes "token" ∷ decimal a ∷ []), number_read 1 4294967295 a [] l (omega arith) (omega arith)) refl

pub apply_leads : (d : DraftValue) (names : List Text) (k : ℕ) (a : ℕ) → Ready d names k → k < 4096 → 1 ≤ a → a ≤ 4 → Leads (numbered_line (codes "apply 1 token ") a [] ∷ []) d names (suc k)
unfolding numbered_line is_skipped
apply_leads d names k a r m l h =
    plain_leads d names k ((codes "apply 1 token " ++ decimal a) ++ []) (codes "apply") (codes "1" ∷ codes "token" ∷ decimal a ∷ []) (form.Apply) (step.Apply 1 a) r m (numbered_plain (codes "apply 1 token ") a [] (omega arith) refl refl)
    (first (codes "apply") (codes "1 token " ++ (decimal a ++ [])) refl (first (codes "1") (codes "token " ++ (decimal a ++ [])) refl (first (codes "token") (decimal a ++ []) refl (number_end a (omega arith))))) refl apply_known (apply_read d names k a r l h)

request_read : (d : DraftValue) (names : List Text) (k : ℕ) → Ready d names k → place_of (codes "s") names ≡ Some 0 → step_at d (form.Request) (codes "s" ∷ []) ≡ Ok (plain (step.Request 0))
unfolding step_at request_at used_name_at name_at is_name end_at word_at
request_read d names k r e = rw (r.named, e) refl

pub request_leads : (d : DraftValue) (names : List Text) (k : ℕ) → Ready d names k → k < 4096 → place_of (codes "s") names ≡ Some 0 → Leads (plain_line (codes "request s") ∷ []) d names (suc k)
unfolding plain_line is_skipped
request_leads d names k r m e =
    plain_leads d names k (codes "request s") (codes "request") (codes "s" ∷ []) (form.Request) (step.Request 0) r m (plain_so (codes "request s") refl)
    (first (codes "request") (codes "s") refl (last (codes "s") refl)) refl request_known (request_read d names k r e)

draw_read : (d : DraftValue) (names : List Text) (k : ℕ) (p : ℕ) → Ready d names k → place_of (codes "s") names ≡ Some 0 → 1 ≤ p → p ≤ 8 → step_at d (form.Draw) (codes "s" ∷ decimal p ∷ []) ≡ Ok (plain (step.Draw 0 p))
unfolding step_at draw_at used_name_at declared_picture_at name_at is_name end_at word_at
draw_read d names k p r e l h = rw (r.named, e, number_read 1 256 p [] l (omega arith) (omega arith), r.pictures p l h) refl

pub draw_leads : (d : DraftValue) (names : List Text) (k : ℕ) (p : ℕ) → Ready d names k → k < 4096 → place_of (codes "s") names ≡ Some 0 → 1 ≤ p → p ≤ 8 → Leads (numbered_line (codes "draw s ") p [] ∷ []) d names (suc k)
unfolding numbered_line is_skipped
draw_leads d names k p r m e l h =
    plain_leads d names k ((codes "draw s " ++ decimal p) ++ []) (codes "draw") (codes "s" ∷ decimal p ∷ []) (form.Draw) (step.Draw 0 p) r m (numbered_plain (codes "draw s ") p [] (omega arith) refl refl)
    (first (codes "draw") (codes "s " ++ (decimal p ++ [])) refl (first (codes "s") (decimal p ++ []) refl (number_end p (omega arith)))) refl draw_known (draw_read d names k p r e l h)

queue_read : (d : DraftValue) (names : List Text) (k : ℕ) (p : ℕ) → Ready d names k → place_of (codes "s") names ≡ Some 0 → 1 ≤ p → p ≤ 8 → step_at d (form.Queue) (codes "s" ∷ decimal p ∷ []) ≡ Ok (plain (step.Queue 0 p None None []))
unfolding step_at queue_at used_name_at declared_picture_at name_at is_name time_at part_at fences_at word_at
queue_read d names k p r e l h = rw (r.named, e, number_read 1 256 p [] l (omega arith) (omega arith), r.pictures p l h) refl

pub queue_leads : (d : DraftValue) (names : List Text) (k : ℕ) (p : ℕ) → Ready d names k → k < 4096 → place_of (codes "s") names ≡ Some 0 → 1 ≤ p → p ≤ 8 → Leads (numbered_line (codes "queue s ") p [] ∷ []) d names (suc k)
unfolding numbered_line is_skipped
queue_leads d names k p r m e l h =
    plain_leads d names k ((codes "queue s " ++ decimal p) ++ []) (codes "queue") (codes "s" ∷ decimal p ∷ []) (form.Queue) (step.Queue 0 p None None []) r m (numbered_plain (codes "queue s ") p [] (omega arith) refl refl)
    (first (codes "queue") (codes "s " ++ (decimal p ++ [])) refl (first (codes "s") (decimal p ++ []) refl (number_end p (omega arith)))) refl queue_known (queue_read d names k p r e l h)

buffer_read : (d : DraftValue) (names : List Text) (k : ℕ) (a : ℕ) → Ready d names k → place_of (codes "i") names ≡ Some 1 → 1 ≤ a → a ≤ 4 → step_at d (form.Buffer) (codes "1" ∷ decimal a ∷ codes "i" ∷ []) ≡ Ok (plain (step.Buffer 1 a 1))
unfolding step_at buffer_at used_name_at name_at is_name end_at word_at
buffer_read d names k a r e l h = rw (one_read (decimal a ∷ codes "i" ∷ []), number_read 1 4294967295 a (codes "i" ∷ []) l (omega arith) (omega arith), r.named, e) refl

pub buffer_leads : (d : DraftValue) (names : List Text) (k : ℕ) (a : ℕ) → Ready d names k → k < 4096 → place_of (codes "i") names ≡ Some 1 → 1 ≤ a → a ≤ 4 → Leads (numbered_line (codes "buffer 1 ") a (codes " i") ∷ []) d names (suc k)
unfolding numbered_line is_skipped
buffer_leads d names k a r m e l h =
    plain_leads d names k ((codes "buffer 1 " ++ decimal a) ++ codes " i") (codes "buffer") (codes "1" ∷ decimal a ∷ codes "i" ∷ []) (form.Buffer) (step.Buffer 1 a 1) r m (numbered_plain (codes "buffer 1 ") a (codes " i") (omega arith) refl refl)
    (first (codes "buffer") (codes "1 " ++ (decimal a ++ codes " i")) refl (first (codes "1") (decimal a ++ codes " i") refl (number_first a (codes "i") (omega arith) (last (codes "i") refl)))) refl buffer_known (buffer_read d names k a r e l h)

dequeuewait_read : (d : DraftValue) (names : List Text) (k : ℕ) (a : ℕ) (new : Option Text) → Ready d names k → bound_as names (codes "s") (place_of (codes "s") names) ≡ Some (record { place = 0; new_name = new }) → 1 ≤ a → a ≤ 4 → step_at d (form.Dequeue true) (decimal a ∷ codes "as" ∷ codes "s" ∷ []) ≡ Ok (record { step = step.DequeueWait a 0 None; new_name = new })
unfolding step_at dequeue_at declared_queue_at as_name_at fixed_at bound_name_at name_at is_name asked_size_at word_at
dequeuewait_read d names k a new r e l h = rw (number_read 1 16 a (codes "as" ∷ codes "s" ∷ []) l (omega arith) (omega arith), r.queues a l h, r.named, e) refl

pub dequeuewait_leads : (d : DraftValue) (names : List Text) (k : ℕ) (a : ℕ) (new : Option Text) → Ready d names k → k < 4096 → bound_as names (codes "s") (place_of (codes "s") names) ≡ Some (record { place = 0; new_name = new }) → 1 ≤ a → a ≤ 4 → Leads (numbered_line (codes "dequeuewait ") a (codes " as s") ∷ []) d (names ++ option_to_list new) (suc k)
unfolding numbered_line is_skipped
dequeuewait_leads d names k a new r m e l h =
    step_leads d names k ((codes "dequeuewait " ++ decimal a) ++ codes " as s") (codes "dequeuewait") (decimal a ∷ codes "as" ∷ codes "s" ∷ []) (form.Dequeue true) (record { step = step.DequeueWait a 0 None; new_name = new }) r m (numbered_plain (codes "dequeuewait ") a (codes " as s") (omega arith) refl refl)
    (first (codes "dequeuewait") (decimal a ++ codes " as s") refl (number_first a (codes "as s") (omega arith) (first (codes "as") (codes "s") refl (last (codes "s") refl)))) refl dequeuewait_known (dequeuewait_read d names k a new r e l h)

acquire_read : (d : DraftValue) (names : List Text) (k : ℕ) (a : ℕ) (new : Option Text) → Ready d names k → bound_as names (codes "i") (place_of (codes "i") names) ≡ Some (record { place = 1; new_name = new }) → 1 ≤ a → a ≤ 4 → step_at d (form.Acquire) (decimal a ∷ codes "as" ∷ codes "i" ∷ []) ≡ Ok (record { step = step.Acquire a 1 None; new_name = new })
unfolding step_at acquire_at declared_queue_at as_name_at fixed_at bound_name_at name_at is_name expected_at word_at
acquire_read d names k a new r e l h = rw (number_read 1 16 a (codes "as" ∷ codes "i" ∷ []) l (omega arith) (omega arith), r.queues a l h, r.named, e) refl

pub acquire_leads : (d : DraftValue) (names : List Text) (k : ℕ) (a : ℕ) (new : Option Text) → Ready d names k → k < 4096 → bound_as names (codes "i") (place_of (codes "i") names) ≡ Some (record { place = 1; new_name = new }) → 1 ≤ a → a ≤ 4 → Leads (numbered_line (codes "acquire ") a (codes " as i") ∷ []) d (names ++ option_to_list new) (suc k)
unfolding numbered_line is_skipped
acquire_leads d names k a new r m e l h =
    step_leads d names k ((codes "acquire " ++ decimal a) ++ codes " as i") (codes "acquire") (decimal a ∷ codes "as" ∷ codes "i" ∷ []) (form.Acquire) (record { step = step.Acquire a 1 None; new_name = new }) r m (numbered_plain (codes "acquire ") a (codes " as i") (omega arith) refl refl)
    (first (codes "acquire") (decimal a ++ codes " as i") refl (number_first a (codes "as i") (omega arith) (first (codes "as") (codes "i") refl (last (codes "i") refl)))) refl acquire_known (acquire_read d names k a new r e l h)

-- Who made a buffer, in a run at its join: the caller whose permit it is.
use Rattle.std.proofs.Common.{◌≡◌, ℕ, ◌+◌, ◌≤◌, true, List, [], ◌∷◌, ◌++◌, arith, ap, ◌∙◌, sym, refl, inl, inr, subst, map, Option, Some, None}
use Rattle.std.specs.Prelude.{Contains}
use Rattle.std.specs.List.{AllZip, flat_map}
use Rattle.std.proofs.lemmas.Bool.{cases_eq, eq-eqb, eqb-true, false≢true, ne_eqb}
use Rattle.std.proofs.lemmas.List.{append_assoc}
use Rattle.atomic_table.specs.Seated.{TableId}
use Rattle.law_draws.specs.sf_calls.declared.object.Entry.{Entry}
use Rattle.law_draws.specs.sf_calls.Histories.{GoesOnWithout, IsLegal}
use Rattle.sf_script_scene.specs.sf_picture.declared.picture.Picture.{Picture}
use Rattle.sf_script_scene.specs.Scene.{SceneValue}
use Rattle.law_draws.specs.sf_surface.declared.mark.QueueMark.{QueueMark}
use Rattle.law_draws.specs.sf_surface.Hands.{permit_of}
use Rattle.law_draws.specs.sf_surface.Histories.{Answers, Made, told_reply}
use Rattle.sf_turns.specs.Views.{PermitView}
use Rattle.sf_turns.specs.Counts.{stock_at}
use Rattle.law_draws.specs.sf_actor.Desks.{mark_among}
use Rattle.law_draws.specs.sf_actor.Known.{call_after, own_calls}
use Rattle.law_draws.specs.sf_actor.Plain.{PlainOf, view_of as plain_view}
use Rattle.law_draws.specs.sf_actor.Rights.{made_with}
use Rattle.law_draws.specs.law_rights.Calls.{made_of}
use Rattle.law_draws.specs.law_rights.Standing.{stock_of}
use Rattle.law_draws.specs.law_rights.States.{AreApart}
use Rattle.law_draws.proofs.law_rights_lemmas.QueueCounts.{mark_only}
use Rattle.law_draws.proofs.law_played_lemmas.Members.{has_cases, has_first, has_here, has_later}
use Rattle.sf_live_compositor.specs.sf_live_seats.declared.locks.Locks.{Locks}
use Rattle.sf_live_compositor.specs.sf_live_seats.Seats.{marks_of, view_of}
use Rattle.sf_live_compositor.specs.sf_live_threads.Walks.{IsSound, Moment}
use Rattle.law_threads.specs.Cuts.{MakesAt}
use Rattle.law_threads.specs.Joining.{CameBack, of_at}
use Rattle.law_threads.specs.Members.{AllOnce, bit, count_of, mine, whole_of}
use Rattle.law_threads.proofs.ReturnedFrames.{legal_front}
use Rattle.law_threads.proofs.CallCounts.{Found, IsAt, find_mine, mine_there, mine_without, same_at_place}
use Rattle.law_threads.proofs.CallCounts.Found.{Nothing, One}
use Rattle.law_threads.proofs.WalkBlocks.{made_it, own_there}

-- what is counted is there
pub counted_there : (n : ℕ) (xs : List ℕ) → 1 ≤ count_of n xs → Contains xs n
counted_there n [] some = absurd (omega (arith, some))
counted_there n (x ∷ xs) some = elim (cases_eq n x) [
  | inl same ↦ has_first x n xs (sym same)
  | inr apart ↦
      let none = ap bit (ne_eqb n x apart) in
      has_later x n xs (counted_there n xs (omega (arith, some, none)))
]

pub stock_there : (number : ℕ) (stock : List ℕ) → Contains stock number → 1 ≤ stock_at number stock
stock_there number [] there = absurd (omega (arith, there.1))
stock_there number (x ∷ stock) there = elim (has_cases x number stock there) [
  | inl met ↦ let here = eq-eqb number x (sym met) in rw here (omega arith)
  | inr later ↦ let rest = stock_there number stock later in omega (arith, rest)
]

stock_joined : (number : ℕ) (xs ys : List ℕ) → stock_at number (xs ++ ys) ≡ stock_at number xs + stock_at number ys
stock_joined number [] ys = omega arith
stock_joined number (x ∷ xs) ys = let rest = stock_joined number xs ys in omega (arith, rest)

-- what makes a buffer brings its permit
pub brings : (asked spare : Option PermitView) (number : ℕ) → made_with asked spare number ≡ true → (permit : PermitView) × (asked ≡ Some permit) × (permit.buffer ≡ number)
brings (Some permit) None number with_it = (permit, refl, eqb-true permit.buffer number with_it)
brings (Some permit) (Some spare) number with_it = absurd (false≢true with_it)
brings None spare number with_it = absurd (false≢true with_it)

module _ {C R : Type 0} where
  pub once_there : (bys : List ℕ) (more : List (Entry C R)) (e : Entry C R) (earlier : List (Entry C R)) → AllOnce bys (more ++ e ∷ earlier) → count_of e.by bys ≡ 1
  once_there bys [] e earlier all = all.0
  once_there bys (m ∷ more) e earlier all = once_there bys more e earlier all.1

module _ {B : Type 0} (number : ℕ) where
  stock_among : (ends : List (Moment B)) (y : Moment B) → Contains ends y → Contains y.of.stock number → 1 ≤ stock_at number (flat_map stock_of (map of_at ends))
  stock_among [] y there own = absurd (omega (arith, there.1))
  stock_among (end ∷ ends) y there own =
      let joined = stock_joined number end.of.stock (flat_map stock_of (map of_at ends)) in
      elim (has_cases end y ends there) [
        | inl same ↦ let here = stock_there number end.of.stock (subst (λ (m : Moment B). Contains m.of.stock number) (sym same) own) in omega (arith, joined, here)
        | inr later ↦ let rest = stock_among ends y later own in omega (arith, joined, rest)
      ]

  -- no permit is of two stocks
  pub one_stock : (ends : List (Moment B)) → stock_at number (flat_map stock_of (map of_at ends)) ≤ 1 → (x y : Moment B) → Contains ends x → Contains ends y → Contains x.of.stock number → Contains y.of.stock number
      → x.seats.by ≡ y.seats.by
  one_stock [] few x y x_there y_there x_own y_own = absurd (omega (arith, x_there.1))
  one_stock (end ∷ ends) few x y x_there y_there x_own y_own =
      let joined = stock_joined number end.of.stock (flat_map stock_of (map of_at ends)) in
      elim (has_cases end x ends x_there) [
        | inl x_here ↦ elim (has_cases end y ends y_there) [
          | inl y_here ↦ ap (λ (m : Moment B). m.seats.by) (sym x_here ∙ y_here)
          | inr y_later ↦
              let here = stock_there number end.of.stock (subst (λ (m : Moment B). Contains m.of.stock number) (sym x_here) x_own) in
              let rest = stock_among ends y y_later y_own in
              absurd (omega (arith, few, joined, here, rest))
        ]
        | inr x_later ↦ elim (has_cases end y ends y_there) [
          | inl y_here ↦
              let here = stock_there number end.of.stock (subst (λ (m : Moment B). Contains m.of.stock number) (sym y_here) y_own) in
              let rest = stock_among ends x x_later x_own in
              absurd (omega (arith, few, joined, here, rest))
          | inr y_later ↦ one_stock ends (omega (arith, few, joined)) x y x_later y_later x_own y_own
        ]
      ]

module _ {B : Type 0} (table : TableId) (pictures : ℕ → Picture) (locks : Locks B) (desk : PlainOf B) (marks : (whole_of desk).marks ≡ marks_of locks) (apart : AreApart (marks_of locks))
    (legal : (queue : ℕ) → IsLegal (Answers (mark_among (marks_of locks) queue)) ((plain_view desk).calls queue)) (moment : Moment B) (sound : IsSound table pictures locks moment)
    (served : moment.of.script.number ≡ moment.seats.by) (goes : (queue : ℕ) → GoesOnWithout moment.seats.by ((view_of moment.seats).calls queue) ((plain_view desk).calls queue)) where
  -- what an actor made is of its stock
  pub own_stock : (number queue place : ℕ) (makes : MakesAt (whole_of desk) number queue place) → makes.made.by ≡ moment.seats.by → Contains moment.of.stock number
  own_stock number queue place makes by_it = by_found (find_mine moment.seats.by place ((view_of moment.seats).calls queue))
    where
      whole_at : IsAt ((plain_view desk).calls queue) place makes.made makes.earlier
      whole_at = record { more = makes.later; is = makes.is; height = makes.at }

      there : 1 ≤ mine moment.seats.by place ((view_of moment.seats).calls queue)
      there =
          let all = mine_there moment.seats.by place ((plain_view desk).calls queue) makes.made makes.earlier whole_at by_it in
          let same = mine_without moment.seats.by place ((view_of moment.seats).calls queue) ((plain_view desk).calls queue) (goes queue) in
          omega (arith, all, same)

      mark : QueueMark
      mark = mark_among (marks_of locks) queue

      mark_is : makes.mark ≡ mark_among (marks_of locks) queue
      mark_is = mark_only (marks_of locks) makes.mark apart (subst (λ (ms : List QueueMark). Contains ms makes.mark) marks makes.marked) ∙ ap (mark_among (marks_of locks)) makes.on_it

      legal_here : IsLegal (Answers (mark_among (marks_of locks) queue)) (makes.made ∷ makes.earlier)
      legal_here = legal_front (Answers (mark_among (marks_of locks) queue)) makes.later (makes.made ∷ makes.earlier)
          (subst (IsLegal (Answers (mark_among (marks_of locks) queue))) makes.is (legal queue))

      by_found : Found moment.seats.by place ((view_of moment.seats).calls queue) → Contains moment.of.stock number
      by_found (Nothing none) = absurd (let some = there in omega (arith, some, none))
      by_found (One e earlier at own) =
          subst (λ (n : ℕ). Contains moment.of.stock n) with_it.2 (sound.keeps.kept.kept.permits queue (call_after mark earlier e) with_it.0 own_call with_it.1)
        where
          same : (e ≡ makes.made) × (earlier ≡ makes.earlier)
          same = same_at_place ((plain_view desk).calls queue) place e makes.made earlier makes.earlier (record {
            more = (goes queue).begins.0 ++ at.more;
            is = (goes queue).begins.1 ∙ ap (λ (xs : List (Made B)). (goes queue).begins.0 ++ xs) at.is ∙ sym (append_assoc (goes queue).begins.0 at.more (e ∷ earlier));
            height = at.height;
          }) whole_at

          own_call : Contains (own_calls moment.of.script.number (mark_among (marks_of locks) queue) ((view_of moment.seats).calls queue)) (call_after mark earlier e)
          own_call = subst (λ (cs : List (Made B)). Contains (own_calls moment.of.script.number (mark_among (marks_of locks) queue) cs) (call_after mark earlier e)) (sym at.is)
              (own_there moment.of.script.number (mark_among (marks_of locks) queue) at.more earlier e (own ∙ sym served))

          with_e : made_with (permit_of e.call.1) e.reply.spare number ≡ true
          with_e = subst (λ (m : Made B). made_with (permit_of m.call.1) m.reply.spare number ≡ true) (sym same.0)
              (made_it (mark_among (marks_of locks) queue).queue makes.made.call.1 (told_reply (mark_among (marks_of locks) queue) makes.earlier makes.made.by makes.made.call.1) makes.made.reply number legal_here.0.answer
              (subst (λ (m : QueueMark). Contains (made_of makes.made.call.1 (told_reply m makes.earlier makes.made.by makes.made.call.1)) number) mark_is makes.makes))

          with_it : (permit : PermitView) × (permit_of e.call.1 ≡ Some permit) × (permit.buffer ≡ number)
          with_it = brings (permit_of e.call.1) e.reply.spare number with_e

module _ {B : Type 0} (scene : SceneValue) (table : TableId) (locks : Locks B) where
  -- who was given seats as the one who came back
  pub record SeatedAs (starts : List (Moment B)) (end : Moment B) : Type 0 where
    pub start : Moment B
    pub there : Contains starts start
    pub back : CameBack scene table locks start end

  pub seated_as : (starts ends : List (Moment B)) → AllZip (CameBack scene table locks) starts ends → (end : Moment B) → Contains ends end → SeatedAs starts end
  seated_as [] [] came end there = absurd (omega (arith, there.1))
  seated_as [] (one ∷ ends) came end there = absurd came
  seated_as (start ∷ starts) [] came end there = absurd came
  seated_as (start ∷ starts) (one ∷ ends) came end there = elim (has_cases one end ends there) [
    | inl same ↦ record { start = start; there = has_here start starts; back = subst (λ (m : Moment B). CameBack scene table locks start m) same came.0 }
    | inr later ↦ let rest = seated_as starts ends came.1 end later in record { start = rest.start; there = has_later start rest.start starts rest.there; back = rest.back }
  ]

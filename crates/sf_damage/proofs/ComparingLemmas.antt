-- Pieces of a part that are compared layer after layer.
use Rattle.std.proofs.Common.{◌≡◌, ◌≢◌, ◌↔◌, ◌⊎◌, ℕ, ℤ, Bool, true, false, not, ◌&&◌, ◌||◌, List, [], ◌∷◌, ◌++◌, drop, refl, sym, ◌∙◌, ap, subst, inl, inr, arith, Some}
use Rattle.std.specs.List.{All}
use Rattle.std.proofs.lemmas.Bool.{and_parts, false≢true, not-true, or_cases}
use Rattle.std.proofs.lemmas.List.Elements.{All-pop, All-push}
use Rattle.std.proofs.lemmas.List.Folds.{list_any-append}
use Rattle.sf_base.specs.Geometry.{covers}
use Rattle.sf_base.specs.declared.geometry.Rect.{Rect}
use Rattle.sf_region.specs.Points.{has}
use Rattle.sf_view.specs.Stacks.{sheet_of}
use Rattle.sf_view.specs.Views.{is_in_clip}
use Rattle.sf_view.specs.declared.drawn.Drawn.{Drawn}
use Rattle.sf_damage.specs.inner.Comparing.{Comparison, Differ, IsPushed, IsTold, has_part, has_piece}
use Rattle.sf_damage.specs.Damage.{DiffersIn, stack_in}
use Rattle.sf_damage.specs.declared.pieces.Piece.{Piece}
use Rattle.sf_damage.proofs.DiffersLemmas.{IsSplit}
use Rattle.sf_damage.proofs.StackLemmas.{stack-apart, stack-both, stack-heads, stack-others, stack-some, stack-without, stack-without_new}

-- at each point of a region the two differ exactly where the stacks of these layers do
abbrev pub AreLeft : Comparison → List Drawn → List Drawn → List Rect → Type 0
AreLeft c olds news region = (x y : ℤ) → has region x y ≡ true → Differ c x y ↔ (stack_in olds x y ≢ stack_in news x y)

-- at each point of a region the two differ
abbrev pub AllDiffer : Comparison → List Rect → Type 0
AllDiffer c region = (x y : ℤ) → has region x y ≡ true → Differ c x y

-- regions after one was appended that may be empty
abbrev pub IsFound : List (List Rect) → List Rect → List (List Rect) → Type 0
IsFound old part new = (x y : ℤ) → has_part new x y ≡ (has_part old x y || has part x y)

within : (h c i : Bool) → i ≡ (h && c) → i ≡ true → (h ≡ true) × (c ≡ true)
within h c i e t = and_parts h c (sym e ∙ t)

beside : (h c b : Bool) → b ≡ (h && not c) → b ≡ true → (h ≡ true) × (c ≡ false)
beside h c b e t = let both : (h ≡ true) × (not c ≡ true) = and_parts h (not c) (sym e ∙ t) in (both.0, not-true c both.1)

-- the first layer is the same in both lists
pub left_both : (c : Comparison) (d e : Drawn) (os ns : List Drawn) (region : List Rect) → d ≡ e → AreLeft c (d ∷ os) (e ∷ ns) region → AreLeft c os ns region
left_both c d e os ns region same left x y t =
    let there = subst (λ (n : Drawn). Differ c x y ↔ (stack_in (d ∷ os) x y ≢ stack_in (n ∷ ns) x y)) (sym same) (left x y t) in
    ((λ h a. there.0 h (stack-both d os ns x y a)), (λ h. there.1 (λ a. h (stack-apart d os ns x y a))))

-- beside its clip the first old layer does not count
pub left_old : (c : Comparison) (d : Drawn) (os ns : List Drawn) (part inside outside : List Rect) → IsSplit d.clip part inside outside → AreLeft c (d ∷ os) ns part → AreLeft c os ns outside
left_old c d os ns part inside outside parts left x y t =
    let out = beside (has part x y) (covers d.clip x y) (has outside x y) (parts.outside x y) t in
    let here = stack-without d os (stack_in ns x y) x y out.1 in
    let there = left x y out.0 in
    ((λ h. here.1 (there.0 h)), (λ h. there.1 (here.0 h)))

-- nor does the first new layer beside its own
pub left_new : (c : Comparison) (d : Drawn) (os ns : List Drawn) (part inside outside : List Rect) → IsSplit d.clip part inside outside → AreLeft c os (d ∷ ns) part → AreLeft c os ns outside
left_new c d os ns part inside outside parts left x y t =
    let out = beside (has part x y) (covers d.clip x y) (has outside x y) (parts.outside x y) t in
    let here = stack-without_new d ns (stack_in os x y) x y out.1 in
    let there = left x y out.0 in
    ((λ h. here.1 (there.0 h)), (λ h. there.1 (here.0 h)))

-- within its clip all that counts before counts still
pub left_inside : (c : Comparison) (clip : Rect) (os ns : List Drawn) (part inside outside : List Rect) → IsSplit clip part inside outside → AreLeft c os ns part → AreLeft c os ns inside
left_inside c clip os ns part inside outside parts left x y t = left x y (within (has part x y) (covers clip x y) (has inside x y) (parts.inside x y) t).0

pub lies_inside : (clip : Rect) (d : Drawn) (part inside outside : List Rect) → IsSplit clip part inside outside → ((x y : ℤ) → has part x y ≡ true → is_in_clip d x y ≡ true) → (x y : ℤ) → has outside x y ≡ true → is_in_clip d x y ≡ true
lies_inside clip d part inside outside parts lies x y t = lies x y (beside (has part x y) (covers clip x y) (has outside x y) (parts.outside x y) t).0

pub lies_in : (d : Drawn) (part inside outside : List Rect) → IsSplit d.clip part inside outside → (x y : ℤ) → has inside x y ≡ true → is_in_clip d x y ≡ true
lies_in d part inside outside parts x y t = (within (has part x y) (covers d.clip x y) (has inside x y) (parts.inside x y) t).1

-- where both lists begin with a layer that has the point, their sheets decide, and else the layers above
pub left_above : (c : Comparison) (o n : Drawn) (os ns : List Drawn) (part inside outside : List Rect) → IsSplit n.clip part inside outside → ((x y : ℤ) → has part x y ≡ true → is_in_clip o x y ≡ true)
    → sheet_of o ≡ sheet_of n → AreLeft c (o ∷ os) (n ∷ ns) part → AreLeft c os ns inside
left_above c o n os ns part inside outside parts lies same left x y t =
    let in_both = within (has part x y) (covers n.clip x y) (has inside x y) (parts.inside x y) t in
    let here = stack-heads o n os ns x y (lies x y in_both.0) in_both.1 same in
    let there = left x y in_both.0 in
    ((λ h. here.1 (there.0 h)), (λ h. there.1 (here.0 h)))

pub differ_here : (c : Comparison) (o n : Drawn) (os ns : List Drawn) (part inside outside : List Rect) → IsSplit n.clip part inside outside → ((x y : ℤ) → has part x y ≡ true → is_in_clip o x y ≡ true)
    → (sheet_of o ≡ sheet_of n → ⊥) → AreLeft c (o ∷ os) (n ∷ ns) part → AllDiffer c inside
differ_here c o n os ns part inside outside parts lies other left x y t =
    let in_both = within (has part x y) (covers n.clip x y) (has inside x y) (parts.inside x y) t in
    (left x y in_both.0).1 (stack-others o n os ns x y (lies x y in_both.0) in_both.1 other)

-- where one list has no layer left, the other decides
pub differ_gone : (c : Comparison) (o : Drawn) (os : List Drawn) (part : List Rect) → ((x y : ℤ) → has part x y ≡ true → is_in_clip o x y ≡ true) → AreLeft c (o ∷ os) [] part → AllDiffer c part
differ_gone c o os part lies left x y t = (left x y t).1 (stack-some o os x y (lies x y t))

pub differ_new : (c : Comparison) (n : Drawn) (ns : List Drawn) (part inside outside : List Rect) → IsSplit n.clip part inside outside → AreLeft c [] (n ∷ ns) part → AllDiffer c inside
differ_new c n ns part inside outside parts left x y t =
    let in_new = within (has part x y) (covers n.clip x y) (has inside x y) (parts.inside x y) t in
    (left x y in_new.0).1 (λ e. stack-some n ns x y in_new.1 (sym e))

-- what is found is told
to_found : (f p h o : Bool) → (f || (p || (h || o))) ≡ true → ((f || h) || (p || o)) ≡ true
to_found true p h o e = refl
to_found false p true o e = refl
to_found false true false o e = refl
to_found false false false o e = e

pub told_found : (c : Comparison) (olds news : List Drawn) (others : ℤ → ℤ → Bool) (pieces : List Piece) (found more : List (List Rect)) (part : List Rect) → AllDiffer c part → IsFound found part more
    → IsTold c olds news (λ x y. has part x y || others x y) pieces found → IsTold c olds news others pieces more
told_found c olds news others pieces found more part differ pushed told = record {
  found_differ = λ x y t.
      elim (or_cases (has_part found x y) (has part x y) (sym (pushed x y) ∙ t)) [
        | inl before ↦ told.found_differ x y before
        | inr here ↦ differ x y here
      ];
  are_open = told.are_open;
  all = λ x y d. rw (pushed x y) (to_found (has_part found x y) (has_piece pieces x y) (has part x y) (others x y) (told.all x y d));
}

-- an open piece is told
to_open : (f p h o : Bool) → (f || (p || (h || o))) ≡ true → (f || ((p || (h || false)) || o)) ≡ true
to_open true p h o e = refl
to_open false true h o e = refl
to_open false false true o e = refl
to_open false false false o e = e

to_none : (f p o : Bool) → (f || (p || (false || o))) ≡ true → (f || (p || o)) ≡ true
to_none f p o e = e

pub told_pushed : (c : Comparison) (olds news : List Drawn) (others : ℤ → ℤ → Bool) (pieces more : List Piece) (found : List (List Rect)) (part : List Rect) (from : ℕ) → AreLeft c olds (drop from news) part → IsPushed part from pieces more
    → IsTold c olds news (λ x y. has part x y || others x y) pieces found → IsTold c olds news others more found
told_pushed c olds news others pieces more found part from left pushed told = elim pushed [
  | inl is ↦ rw is (record {
    found_differ = told.found_differ;
    are_open = All-push (λ (piece : Piece). AreLeft c olds (drop piece.from news) piece.part) pieces (record { part = part; from = from }) told.are_open left;
    all = λ x y d. rw (list_any-append (λ (piece : Piece). has piece.part x y) pieces (record { part = part; from = from } ∷ [])) (to_open (has_part found x y) (has_piece pieces x y) (has part x y) (others x y) (told.all x y d));
  })
  | inr is ↦ rw is.1 (record {
    found_differ = told.found_differ;
    are_open = told.are_open;
    all = λ x y d. to_none (has_part found x y) (has_piece pieces x y) (others x y) (subst (λ (rs : List Rect). (has_part found x y || (has_piece pieces x y || (has rs x y || others x y))) ≡ true) is.0 (told.all x y d));
  })
]

-- a part that is split is told by its two halves
to_split : (f p h o c i b : Bool) → i ≡ (h && c) → b ≡ (h && not c) → (f || (p || (h || o))) ≡ true → (f || (p || (i || (b || o)))) ≡ true
to_split true p h o c i b e g t = refl
to_split false true h o c i b e g t = refl
to_split false false true o true i b e g t = rw e refl
to_split false false true o false i b e g t = rw (e, g) refl
to_split false false false o c i b e g t = rw (e, g) t

pub told_split : (c : Comparison) (olds news : List Drawn) (others : ℤ → ℤ → Bool) (pieces : List Piece) (found : List (List Rect)) (clip : Rect) (part inside outside : List Rect) → IsSplit clip part inside outside
    → IsTold c olds news (λ x y. has part x y || others x y) pieces found → IsTold c olds news (λ x y. has inside x y || (has outside x y || others x y)) pieces found
told_split c olds news others pieces found clip part inside outside parts told = record {
  found_differ = told.found_differ;
  are_open = told.are_open;
  all = λ x y d. to_split (has_part found x y) (has_piece pieces x y) (has part x y) (others x y) (covers clip x y) (has inside x y) (has outside x y) (parts.inside x y) (parts.outside x y) (told.all x y d);
}

-- a piece in which none differs needs not be told
to_alike : (f p h o : Bool) → (h ≡ true → ⊥) → (f || (p || (h || o))) ≡ true → (f || (p || o)) ≡ true
to_alike f p true o none t = absurd (none refl)
to_alike f p false o none t = t

pub told_alike : (c : Comparison) (olds news : List Drawn) (others : ℤ → ℤ → Bool) (pieces : List Piece) (found : List (List Rect)) (part : List Rect) → ((x y : ℤ) → has part x y ≡ true → Differ c x y → ⊥)
    → IsTold c olds news (λ x y. has part x y || others x y) pieces found → IsTold c olds news others pieces found
told_alike c olds news others pieces found part none told = record {
  found_differ = told.found_differ;
  are_open = told.are_open;
  all = λ x y d. to_alike (has_part found x y) (has_piece pieces x y) (has part x y) (others x y) (λ t. none x y t d) (told.all x y d);
}

pub alike_none : (c : Comparison) (part : List Rect) → AreLeft c [] [] part → (x y : ℤ) → has part x y ≡ true → Differ c x y → ⊥
alike_none c part left x y t d = (left x y t).0 d refl

-- a piece of an old layer's clip, compared from a new layer on: what is left of it, and what was told meanwhile
abbrev pub Goes : Drawn → List Drawn → Piece → List Piece → List (List Rect) → ℕ → List Rect → List Piece → List (List Rect) → Type 0
Goes old news piece pieces found at rest more parts = (c : Comparison) (olds : List Drawn) (others : ℤ → ℤ → Bool)
    → AreLeft c (old ∷ olds) (drop piece.from news) piece.part → IsTold c olds news (λ x y. has piece.part x y || others x y) pieces found
    → AreLeft c (old ∷ olds) (drop at news) rest × IsTold c olds news (λ x y. has rest x y || others x y) more parts

-- the points of a part are in a drawn layer's clip
abbrev pub LiesIn : Drawn → List Rect → Type 0
LiesIn drawn part = (x y : ℤ) → has part x y ≡ true → is_in_clip drawn x y ≡ true

pub goes_begin : (old : Drawn) (news : List Drawn) (piece : Piece) (pieces : List Piece) (found : List (List Rect)) → Goes old news piece pieces found piece.from piece.part pieces found
goes_begin old news piece pieces found c olds others left told = (left, told)

-- the next new layer has the same sheet: where it has the point, the layers above are to be compared
pub goes_same : (old new : Drawn) (news : List Drawn) (piece : Piece) (pieces more last : List Piece) (found parts : List (List Rect)) (at next : ℕ) (rest inside outside : List Rect) → drop at news ≡ new ∷ drop next news → sheet_of old ≡ sheet_of new
    → IsSplit new.clip rest inside outside → LiesIn old rest → IsPushed inside next more last
    → Goes old news piece pieces found at rest more parts → Goes old news piece pieces found next outside last parts
goes_same old new news piece pieces more last found parts at next rest inside outside cut same parts_of lies pushed goes c olds others left told =
    let before = goes c olds others left told in
    let here : AreLeft c (old ∷ olds) (new ∷ drop next news) rest = subst (λ (ns : List Drawn). AreLeft c (old ∷ olds) ns rest) cut before.0 in (
      left_new c new (old ∷ olds) (drop next news) rest inside outside parts_of here,
      told_pushed c olds news (λ x y. has outside x y || others x y) more last parts inside next
          (left_above c old new olds (drop next news) rest inside outside parts_of lies same here) pushed
          (told_split c olds news others more parts new.clip rest inside outside parts_of before.1),
    )

-- it has another one: there the two differ
pub goes_other : (old new : Drawn) (news : List Drawn) (piece : Piece) (pieces more : List Piece) (found parts last : List (List Rect)) (at next : ℕ) (rest inside outside : List Rect) → drop at news ≡ new ∷ drop next news → (sheet_of old ≡ sheet_of new → ⊥)
    → IsSplit new.clip rest inside outside → LiesIn old rest → IsFound parts inside last
    → Goes old news piece pieces found at rest more parts → Goes old news piece pieces found next outside more last
goes_other old new news piece pieces more found parts last at next rest inside outside cut other parts_of lies pushed goes c olds others left told =
    let before = goes c olds others left told in
    let here : AreLeft c (old ∷ olds) (new ∷ drop next news) rest = subst (λ (ns : List Drawn). AreLeft c (old ∷ olds) ns rest) cut before.0 in (
      left_new c new (old ∷ olds) (drop next news) rest inside outside parts_of here,
      told_found c olds news (λ x y. has outside x y || others x y) more parts last inside
          (differ_here c old new olds (drop next news) rest inside outside parts_of lies other here) pushed
          (told_split c olds news others more parts new.clip rest inside outside parts_of before.1),
    )

-- what is left behind the last new layer differs
pub goes_end : (old : Drawn) (news : List Drawn) (piece : Piece) (pieces more : List Piece) (found parts last : List (List Rect)) (at : ℕ) (rest : List Rect) → drop at news ≡ [] ⊎ (rest ≡ []) → LiesIn old rest → IsFound parts rest last
    → Goes old news piece pieces found at rest more parts
    → (c : Comparison) (olds : List Drawn) (others : ℤ → ℤ → Bool) → AreLeft c (old ∷ olds) (drop piece.from news) piece.part → IsTold c olds news (λ x y. has piece.part x y || others x y) pieces found → IsTold c olds news others more last
goes_end old news piece pieces more found parts last at rest none lies pushed goes c olds others left told =
    let before = goes c olds others left told in
    told_found c olds news others more parts last rest
    (elim none [
      | inl e ↦ differ_gone c old olds rest lies (subst (λ (ns : List Drawn). AreLeft c (old ∷ olds) ns rest) e before.0)
      | inr e ↦ rw e (λ x y t. absurd (false≢true t))
    ]) pushed before.1

-- a piece behind the last old layer, compared from a new layer on
abbrev pub GoesOn : List Drawn → Piece → List (List Rect) → ℕ → List Rect → List (List Rect) → Type 0
GoesOn news piece found at rest parts = (c : Comparison) (others : ℤ → ℤ → Bool)
    → AreLeft c [] (drop piece.from news) piece.part → IsTold c [] news (λ x y. has piece.part x y || others x y) [] found
    → AreLeft c [] (drop at news) rest × IsTold c [] news (λ x y. has rest x y || others x y) [] parts

pub goes_on_begin : (news : List Drawn) (piece : Piece) (found : List (List Rect)) → GoesOn news piece found piece.from piece.part found
goes_on_begin news piece found c others left told = (left, told)

pub goes_on_new : (new : Drawn) (news : List Drawn) (piece : Piece) (found parts last : List (List Rect)) (at next : ℕ) (rest inside outside : List Rect) → drop at news ≡ new ∷ drop next news
    → IsSplit new.clip rest inside outside → IsFound parts inside last → GoesOn news piece found at rest parts → GoesOn news piece found next outside last
goes_on_new new news piece found parts last at next rest inside outside cut parts_of pushed goes c others left told =
    let before = goes c others left told in
    let here : AreLeft c [] (new ∷ drop next news) rest = subst (λ (ns : List Drawn). AreLeft c [] ns rest) cut before.0 in (
      left_new c new [] (drop next news) rest inside outside parts_of here,
      told_found c [] news (λ x y. has outside x y || others x y) [] parts last inside
          (differ_new c new (drop next news) rest inside outside parts_of here) pushed
          (told_split c [] news others [] parts new.clip rest inside outside parts_of before.1),
    )

pub goes_on_end : (news : List Drawn) (piece : Piece) (found parts : List (List Rect)) (at : ℕ) (rest : List Rect) → drop at news ≡ [] ⊎ (rest ≡ []) → GoesOn news piece found at rest parts
    → (c : Comparison) (others : ℤ → ℤ → Bool) → AreLeft c [] (drop piece.from news) piece.part → IsTold c [] news (λ x y. has piece.part x y || others x y) [] found → IsTold c [] news others [] parts
goes_on_end news piece found parts at rest none goes c others left told =
    let before = goes c others left told in
    told_alike c [] news others [] parts rest
    (elim none [
      | inl e ↦ alike_none c rest (subst (λ (ns : List Drawn). AreLeft c [] ns rest) e before.0)
      | inr e ↦ rw e (λ x y t d. false≢true t)
    ]) before.1

-- when all was compared, what was found is all that differs
pub told_all : (olds news : List Drawn) (part region : List Rect) (found : List (List Rect)) → IsTold (record { olds = olds; news = news; part = part }) [] news (λ x y. false) [] found → ((x y : ℤ) → has region x y ≡ has_part found x y) → DiffersIn olds news part region
told_all olds news part region found told is = record {
  points = λ x y. (
    (λ t. told.found_differ x y (sym (is x y) ∙ t)),
    (λ d. is x y ∙ (or_none (has_part found x y) (told.all x y d))),
  );
}
  where
    or_none : (f : Bool) → (f || (false || false)) ≡ true → f ≡ true
    or_none true t = refl
    or_none false t = t

-- before anything was compared the part is one piece
pub told_begin : (olds news : List Drawn) (part : List Rect) (pieces : List Piece) → IsPushed part 0 [] pieces → IsTold (record { olds = olds; news = news; part = part }) olds news (λ x y. false) pieces []
told_begin olds news part pieces pushed =
    told_pushed (record { olds = olds; news = news; part = part }) olds news (λ x y. false) [] pieces [] part 0 (λ x y t. ((λ d. d.1), (λ apart. (t, apart)))) pushed
    (record {
      found_differ = λ x y t. absurd (false≢true t);
      are_open = λ k d inside. absurd (omega (arith, inside));
      all = λ x y d. rw (d.0) refl;
    })

-- the pieces of a layer are told beside those of the next one
turned : (f p : Bool) → (f || (p || false)) ≡ true → (f || (false || p)) ≡ true
turned true p t = refl
turned false true t = refl
turned false false t = t

pub told_turned : (c : Comparison) (olds above news : List Drawn) (pieces none : List Piece) (found : List (List Rect)) → none ≡ [] → IsTold c olds news (λ x y. false) pieces found → IsTold c above news (has_piece pieces) none found
told_turned c olds above news pieces none found is told = rw is (record {
  found_differ = told.found_differ;
  are_open = λ k d inside. absurd (omega (arith, inside));
  all = λ x y d. turned (has_part found x y) (has_piece pieces x y) (told.all x y d);
})

-- the last piece is taken
taken : (f p r h : Bool) → (f || (p || (r || (h || false)))) ≡ true → (f || (p || (h || r))) ≡ true
taken true p r h t = refl
taken false true r h t = refl
taken false false r true t = refl
taken false false true false t = refl
taken false false false false t = t

pub told_taken : (c : Comparison) (olds news : List Drawn) (before rest pieces : List Piece) (piece : Piece) (found : List (List Rect)) → before ≡ rest ++ piece ∷ [] → IsTold c olds news (has_piece before) pieces found
    → IsTold c olds news (λ x y. has piece.part x y || has_piece rest x y) pieces found
told_taken c olds news before rest pieces piece found is told = record {
  found_differ = told.found_differ;
  are_open = told.are_open;
  all = λ x y d.
      taken (has_part found x y) (has_piece pieces x y) (has_piece rest x y) (has piece.part x y)
      (subst (λ (b : Bool). (has_part found x y || (has_piece pieces x y || b)) ≡ true) (ap (λ (l : List Piece). has_piece l x y) is ∙ list_any-append (λ (one : Piece). has one.part x y) rest (piece ∷ [])) (told.all x y d));
}

-- of two halves either may be told first
swapped : (f p a b o : Bool) → (f || (p || (a || (b || o)))) ≡ true → (f || (p || (b || (a || o)))) ≡ true
swapped true p a b o t = refl
swapped false true a b o t = refl
swapped false false a true o t = refl
swapped false false true false o t = refl
swapped false false false false o t = t

pub told_swapped : (c : Comparison) (olds news : List Drawn) (others : ℤ → ℤ → Bool) (pieces : List Piece) (found : List (List Rect)) (one other : List Rect) → IsTold c olds news (λ x y. has one x y || (has other x y || others x y)) pieces found
    → IsTold c olds news (λ x y. has other x y || (has one x y || others x y)) pieces found
told_swapped c olds news others pieces found one other told = record {
  found_differ = told.found_differ;
  are_open = told.are_open;
  all = λ x y d. swapped (has_part found x y) (has_piece pieces x y) (has one x y) (has other x y) (others x y) (told.all x y d);
}

-- the elements of a list before its last one, and that one
pub all_before : {X : Type 0} (P : X → Type 0) (xs ys : List X) (x : X) → xs ≡ ys ++ x ∷ [] → All P xs → All P ys × P x
all_before P xs ys x is all = All-pop P xs ys (Some x) is all

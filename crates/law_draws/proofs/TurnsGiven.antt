-- Of the calls of the step that filled a name one gives a turn at most.
use Rattle.std.proofs.Common.{◌≡◌, ℕ, zero, suc, ◌+◌, ◌⊎◌, ◌==◌, Bool, true, false, List, [], ◌∷◌, ◌++◌, map, replicate, get_or, Option, Some, None, arith, ap, sym, refl, ◌∙◌, inl, inr, subst}
use Rattle.std.specs.Prelude.{Contains, filter, if◌then◌else◌, is_some, slice_set}
use Rattle.std.specs.List.{AllZip, flat_map}
use Rattle.std.specs.Option.{option_map}
use Rattle.std.proofs.lemmas.Bool.{cases_Bool, cases_eq, eqb-true}
use Rattle.std.proofs.lemmas.List.Elements.{Contains-append_cases}
use Rattle.law_rights.specs.sf_picture.declared.picture.Picture.{Picture}
use Rattle.law_rights.specs.sf_script_scene.declared.step.Step.{Step}
use Rattle.law_rights.specs.sf_script_scene.declared.step.Step.TheVariants as step
use Rattle.law_rights.specs.sf_surface.Histories.{Made}
use Rattle.law_rights.specs.sf_surface.declared.mark.QueueMark.{QueueMark}
use Rattle.law_rights.specs.sf_actor.declared.done.Answered.{Answered}
use Rattle.law_rights.specs.sf_actor.declared.done.Answered.TheVariants as answered
use Rattle.law_rights.specs.sf_actor.declared.done.Done.{Done}
use Rattle.law_rights.specs.sf_actor.Asking.{Asked, call_of, overtaken_by}
use Rattle.law_rights.specs.sf_actor.Desks.{DeskHome, DeskView, known_of, mark_among}
use Rattle.law_rights.specs.sf_actor.Draws.{entered_at, entered_name}
use Rattle.law_rights.specs.sf_actor.Known.{Call, call_after, own_calls, share_of, told_by}
use Rattle.law_rights.specs.sf_actor.Names.{FrameOf, Holdings}
use Rattle.law_rights.specs.sf_actor.Rights.{Turn, WasGivenAt, given_turn}
use Rattle.law_rights.specs.sf_actor.Steps.{filled_by, used_by, was_done}
use Rattle.law_rights.specs.sf_actor.ScriptTraces.{IsMade, made_on}
use Rattle.law_rights.specs.sf_actor.Traces.{DoneAt, MadeStep, Past, Source, made_at, made_by, next, no_past, overtaken, own_call, places_from, places_of, release_at, since_next, since_with, source_in}
use Rattle.law_rights.specs.sf_actor.Tries.{ActorOf, Keeps}
use Rattle.law_rights.proofs.law_played_lemmas.Members.{filter_has, has_map, joined_has, map_has, zip_has}
use Rattle.law_rights.proofs.TurnCounts.{first, in_front, later, none_in, the_only}
use Rattle.law_rights.proofs.DrawOrder.{places_late}
use Rattle.law_rights.proofs.PaidDrawings.{same_place}

-- what is in a place after one was set
set_cases : (xs : List ℕ) (i j y : ℕ) → (get_or (slice_set xs i y) j 0 ≡ y) ⊎ (get_or (slice_set xs i y) j 0 ≡ get_or xs j 0)
set_cases [] i j y = inr refl
set_cases (x ∷ xs) zero zero y = inl refl
set_cases (x ∷ xs) zero (suc j) y = inr refl
set_cases (x ∷ xs) (suc i) zero y = inr refl
set_cases (x ∷ xs) (suc i) (suc j) y = set_cases xs i j y

abbrev zeros : ℕ → List ℕ
zeros n = replicate n 0

all_zero : (n j : ℕ) → get_or (zeros n) j 0 ≡ 0
all_zero zero j = refl
all_zero (suc n) zero = refl
all_zero (suc n) (suc j) = all_zero n j

-- a step at this place filled a name
pub record FillsAt (places : List DoneAt) (place : ℕ) : Type 0 where
  pub at : DoneAt
  pub there : Contains places at
  pub here : at.place ≡ place
  pub fills : is_some (filled_by at.done.step) ≡ true

-- the place of the step that filled a name, or what it was before
with_since : (since : List ℕ) (filled : Option ℕ) (place name : ℕ) → ((get_or (since_with since filled place) name 0 ≡ place) × (is_some filled ≡ true)) ⊎ (get_or (since_with since filled place) name 0 ≡ get_or since name 0)
with_since since None place name = inr refl
with_since since (Some filled) place name = elim (set_cases since filled name place) [
  | inl now ↦ inl (now, refl)
  | inr was ↦ inr was
]

one_since : (since : List ℕ) (place : ℕ) (done : Done) (name : ℕ) → ((get_or (since_next since place done) name 0 ≡ place) × (is_some (filled_by done.step) ≡ true)) ⊎ (get_or (since_next since place done) name 0 ≡ get_or since name 0)
one_since since place done name = elim (cases_Bool (was_done done.answered)) [
  | inl met ↦ rw met (with_since since (filled_by done.step) place name)
  | inr unmet ↦ inr (rw unmet refl)
]

since_is : (place : ℕ) (past : Past) (trace : List Done) (at : DoneAt) (name : ℕ) → Contains (places_from place past trace) at
    → (get_or at.past.since name 0 ≡ get_or past.since name 0) ⊎ FillsAt (places_from place past trace) (get_or at.past.since name 0)
unfolding places_from
since_is place past [] at name there = absurd (none_in at there)
since_is place past (done ∷ trace) at name there = by_place (in_front here at rest there) (since_is (place + 1) (next place past done) trace at name)
  where
    here : DoneAt
    here = record { place = place; past = past; done = done }

    rest : List DoneAt
    rest = places_from (place + 1) (next place past done) trace

    by_step : get_or at.past.since name 0 ≡ get_or (since_next past.since place done) name 0
        → ((get_or (since_next past.since place done) name 0 ≡ place) × (is_some (filled_by done.step) ≡ true)) ⊎ (get_or (since_next past.since place done) name 0 ≡ get_or past.since name 0)
        → (get_or at.past.since name 0 ≡ get_or past.since name 0) ⊎ FillsAt (here ∷ rest) (get_or at.past.since name 0)
    by_step same (inl now) = inr (record { at = here; there = first here rest; here = sym (same ∙ now.0); fills = now.1 })
    by_step same (inr was) = inl (same ∙ was)

    by_rest : (get_or at.past.since name 0 ≡ get_or (since_next past.since place done) name 0) ⊎ FillsAt rest (get_or at.past.since name 0)
        → (get_or at.past.since name 0 ≡ get_or past.since name 0) ⊎ FillsAt (here ∷ rest) (get_or at.past.since name 0)
    by_rest (inl same) = by_step same (one_since past.since place done name)
    by_rest (inr fills) = inr (record { at = fills.at; there = later here fills.at rest fills.there; here = fills.here; fills = fills.fills })

    by_place : (here ≡ at) ⊎ Contains rest at → (Contains rest at → (get_or at.past.since name 0 ≡ get_or (since_next past.since place done) name 0) ⊎ FillsAt rest (get_or at.past.since name 0))
        → (get_or at.past.since name 0 ≡ get_or past.since name 0) ⊎ FillsAt (here ∷ rest) (get_or at.past.since name 0)
    by_place (inl same) further = inl (ap (λ (a : DoneAt). get_or a.past.since name 0) (sym same))
    by_place (inr behind) further = by_rest (further behind)

-- a step that fills a name takes no frame's place
none_overtaken : (holdings : Holdings) (s : Step) → is_some (filled_by s) ≡ true → overtaken_by holdings s ≡ []
none_overtaken holdings (step.Buffer n layer i) fills = absurd (cc fills)
none_overtaken holdings (step.Merge n m) fills = absurd (cc fills)
none_overtaken holdings s fills = refl

-- one call of a step at this place at most
abbrev AtMostOnce : ℕ → List MadeStep → Type 0
AtMostOnce place [] = Unit {0}
AtMostOnce place (made ∷ more) = (made.step ≡ place → (other : MadeStep) → Contains more other → other.step ≡ place → ⊥) × AtMostOnce place more

none_once : (place : ℕ) (made : List MadeStep) → ((one : MadeStep) → Contains made one → one.step ≡ place → ⊥) → AtMostOnce place made
none_once place [] none = tt
none_once place (made ∷ more) none = (λ same other there again. none made (first made more) same, none_once place more (λ one there. none one (later made one more there)))

once_filter : (place : ℕ) (p : MadeStep → Bool) (made : List MadeStep) → AtMostOnce place made → AtMostOnce place (filter p made)
once_filter place p [] once = tt
once_filter place p (made ∷ more) once = by_test (cases_Bool (p made)) (once_filter place p more once.1)
  where
    by_test : (p made ≡ true) ⊎ (p made ≡ false) → AtMostOnce place (filter p more) → AtMostOnce place (filter p (made ∷ more))
    by_test (inl met) rest = rw met ((λ same other there again. once.0 same other (filter_has p more other there).0 again), rest)
    by_test (inr unmet) rest = rw unmet rest

once_joined : (place : ℕ) (made more : List MadeStep) → AtMostOnce place made → AtMostOnce place more
    → ((one other : MadeStep) → Contains made one → one.step ≡ place → Contains more other → other.step ≡ place → ⊥) → AtMostOnce place (made ++ more)
once_joined place [] more once again apart = again
once_joined place (made ∷ rest) more once again apart = (
  λ same other there other_same. elim (Contains-append_cases rest more other there) [
    | inl near ↦ once.0 same other near other_same
    | inr far ↦ apart made other (first made rest) same far other_same
  ],
  once_joined place rest more once.1 again (λ one other there same far other_same. apart one other (later made one rest there) same far other_same),
)

-- so it is the same call
once_same : (place : ℕ) (made : List MadeStep) → AtMostOnce place made → (one other : MadeStep) → Contains made one → one.step ≡ place → Contains made other → other.step ≡ place → one ≡ other
once_same place [] once one other there same again too = absurd (none_in one there)
once_same place (made ∷ more) once one other there same again too =
    by_place (in_front made one more there) (in_front made other more again) (λ a b. once_same place more once.1 one other a same b too)
  where
    by_place : (made ≡ one) ⊎ Contains more one → (made ≡ other) ⊎ Contains more other → (Contains more one → Contains more other → one ≡ other) → one ≡ other
    by_place (inl a) (inl b) further = sym a ∙ b
    by_place (inl a) (inr b) further = absurd (once.0 (ap (λ (m : MadeStep). m.step) a ∙ same) other b too)
    by_place (inr a) (inl b) further = absurd (once.0 (ap (λ (m : MadeStep). m.step) b ∙ too) one a same)
    by_place (inr a) (inr b) further = further a b

-- the calls of a step are made at its place
own_at : (place : ℕ) (asked : Option Asked) (answer : Answered) (source : Source) (made : MadeStep) → Contains (own_call place asked answer source) made → place ≡ made.step
own_at place (Some asked) (answered.Called replied) source made there =
    ap (λ (m : MadeStep). m.step) (the_only (record { step = place; asked = asked; told = Some replied; brings = source }) made there)
own_at place asked answer source made there = absurd (none_in made there)

own_once : (spot place : ℕ) (asked : Option Asked) (answer : Answered) (source : Source) → AtMostOnce spot (own_call place asked answer source)
own_once spot place (Some asked) (answered.Called replied) source = (λ same other there again. none_in other there, tt)
own_once spot place asked answer source = tt

overtaken_at : (place : ℕ) (frames : List FrameOf) (done : Bool) (made : MadeStep) → Contains (if done then map (release_at place) frames else []) made → place ≡ made.step
overtaken_at place frames true made there = ap (λ (m : MadeStep). m.step) (map_has (release_at place) frames made there).2
overtaken_at place frames false made there = absurd (none_in made there)

none_there : (place : ℕ) (frames : List FrameOf) (done : Bool) (made : MadeStep) → frames ≡ [] → Contains (if done then map (release_at place) frames else []) made → ⊥
none_there place frames true made none there = none_in made (subst (λ (fs : List FrameOf). Contains (map (release_at place) fs) made) none there)
none_there place frames false made none there = none_in made there

abbrev own_of : (ℕ → Picture) → DoneAt → List MadeStep
own_of pictures at = own_call at.place (call_of pictures at.past.holdings at.done.step) at.done.answered (source_in at.past.since (used_by at.done.step))

made_here : (pictures : ℕ → Picture) (at : DoneAt) (made : MadeStep) → Contains (made_at pictures at) made → at.place ≡ made.step
made_here pictures at made there = by_kind (Contains-append_cases (own_of pictures at) (overtaken at.place at.past.holdings at.done) made there)
  where
    by_kind : Contains (own_of pictures at) made ⊎ Contains (overtaken at.place at.past.holdings at.done) made → at.place ≡ made.step
    by_kind (inl called) = own_at at.place (call_of pictures at.past.holdings at.done.step) at.done.answered (source_in at.past.since (used_by at.done.step)) made called
    by_kind (inr released) = overtaken_at at.place (overtaken_by at.past.holdings at.done.step) (was_done at.done.answered) made released

-- where the step at this place takes no frame's place
module _ (pictures : ℕ → Picture) (spot : ℕ) where
  abbrev TakesNone : DoneAt → Type 0
  TakesNone at = at.place ≡ spot → overtaken_by at.past.holdings at.done.step ≡ []

  step_once : (at : DoneAt) → TakesNone at → AtMostOnce spot (made_at pictures at)
  step_once at none = elim (cases_eq at.place spot) [
    | inl here ↦
        once_joined spot (own_of pictures at) (overtaken at.place at.past.holdings at.done)
        (own_once spot at.place (call_of pictures at.past.holdings at.done.step) at.done.answered (source_in at.past.since (used_by at.done.step)))
        (none_once spot (overtaken at.place at.past.holdings at.done) (λ one there same. none_there at.place (overtaken_by at.past.holdings at.done.step) (was_done at.done.answered) one (none here) there))
        (λ one other there same far other_same. none_there at.place (overtaken_by at.past.holdings at.done.step) (was_done at.done.answered) other (none here) far)
    | inr apart ↦ none_once spot (made_at pictures at) (λ one there same. apart (made_here pictures at one there ∙ same))
  ]

  trace_once : (place : ℕ) (past : Past) (trace : List Done) → ((at : DoneAt) → Contains (places_from place past trace) at → TakesNone at) → AtMostOnce spot (flat_map (made_at pictures) (places_from place past trace))
  unfolding places_from
  trace_once place past [] none = tt
  trace_once place past (done ∷ trace) none =
      once_joined spot (made_at pictures at) (flat_map (made_at pictures) rest) (step_once at (none at (first at rest)))
      (trace_once (place + 1) (next place past done) trace (λ other there. none other (later at other rest there))) apart
    where
      at : DoneAt
      at = record { place = place; past = past; done = done }

      rest : List DoneAt
      rest = places_from (place + 1) (next place past done) trace

      apart : (one other : MadeStep) → Contains (made_at pictures at) one → one.step ≡ spot → Contains (flat_map (made_at pictures) rest) other → other.step ≡ spot → ⊥
      apart one other there same far other_same =
          let found = joined_has (made_at pictures) rest other far in
          let late = places_late (place + 1) (next place past done) trace found.0 found.1 in
          let mine = made_here pictures at one there in
          let theirs = made_here pictures found.0 other found.2 in
          omega (arith, late, mine, theirs, same, other_same)

module _ {B : Type 0} where
  -- what a call tells has its step
  own_step : (actor : ℕ) (mark : QueueMark) (calls : List (Made B)) (made : Call B) → Contains (own_calls actor mark calls) made → made.told.step ≡ made.made.call.0
  own_step actor mark [] made there = absurd (none_in made there)
  own_step actor mark (one ∷ earlier) made there =
      by_place (Contains-append_cases (own_calls actor mark earlier) (if one.by == actor then call_after mark earlier one ∷ [] else []) made there) (own_step actor mark earlier made)
    where
      by_test : (b : Bool) → Contains (if b then call_after mark earlier one ∷ [] else []) made → made.told.step ≡ made.made.call.0
      by_test true now = subst (λ (c : Call B). c.told.step ≡ c.made.call.0) (the_only (call_after mark earlier one) made now) refl
      by_test false now = absurd (none_in made now)

      by_place : Contains (own_calls actor mark earlier) made ⊎ Contains (if one.by == actor then call_after mark earlier one ∷ [] else []) made
          → (Contains (own_calls actor mark earlier) made → made.told.step ≡ made.made.call.0) → made.told.step ≡ made.made.call.0
      by_place (inl was) further = further was
      by_place (inr now) further = by_test (one.by == actor) now

  -- calls that steps made, of which one at most is at this place
  zip_once : (spot : ℕ) (steps : List MadeStep) (calls : List (Call B)) → AllZip IsMade steps (map told_by calls) → AtMostOnce spot steps → (one other : Call B)
      → Contains calls one → one.told.step ≡ spot → Contains calls other → other.told.step ≡ spot → one ≡ other
  zip_once spot steps [] zip once one other there same again too = absurd (none_in one there)
  zip_once spot [] (call ∷ calls) zip once one other there same again too = absurd zip
  zip_once spot (step ∷ steps) (call ∷ calls) zip once one other there same again too =
      by_place (in_front call one calls there) (in_front call other calls again) (λ a b. zip_once spot steps calls zip.1 once.1 one other a same b too)
    where
      apart : (a b : Call B) → call ≡ a → a.told.step ≡ spot → Contains calls b → b.told.step ≡ spot → ⊥
      apart a b here a_same behind b_same =
          let partner = zip_has IsMade steps (map told_by calls) b.told zip.1 (has_map told_by calls b behind) in
          once.0 (sym zip.0.step ∙ ap (λ (c : Call B). c.told.step) here ∙ a_same) partner.0 partner.1 (sym partner.2.step ∙ b_same)

      by_place : (call ≡ one) ⊎ Contains calls one → (call ≡ other) ⊎ Contains calls other → (Contains calls one → Contains calls other → one ≡ other) → one ≡ other
      by_place (inl a) (inl b) further = sym a ∙ b
      by_place (inl a) (inr b) further = absurd (apart one other a same b too)
      by_place (inr a) (inl b) further = absurd (apart other one b too a same)
      by_place (inr a) (inr b) further = further a b

  module _ (pictures : ℕ → Picture) (home : DeskHome) (view : DeskView B) (of : ActorOf B) (keeps : Keeps pictures home of view) where
    abbrev calls : ℕ → List (Call B)
    calls = (share_of of.script.number (known_of home view)).calls

    module _ (fill : DoneAt) (filled : Contains (places_of of.trace) fill) (fills : is_some (filled_by fill.done.step) ≡ true) where
      once : AtMostOnce fill.place (made_by pictures of.trace)
      once = trace_once pictures fill.place 1 no_past of.trace
          (λ at there here. ap (λ (a : DoneAt). overtaken_by a.past.holdings a.done.step) (same_place 1 no_past of.trace at fill there filled here) ∙ none_overtaken fill.past.holdings fill.done.step fills)

      module _ (queue : ℕ) (one : Call B) (there : Contains (calls queue) one) (at : one.made.call.0 ≡ fill.place) where
        step_is : one.told.step ≡ fill.place
        step_is = own_step of.script.number (mark_among home.marks queue) (view.calls queue) one there ∙ at

        maker : (made : MadeStep) × Contains (made_on queue (made_by pictures of.trace)) made × IsMade made one.told
        maker = zip_has IsMade (made_on queue (made_by pictures of.trace)) (map told_by (calls queue)) one.told (keeps.kept.kept.is.made queue) (has_map told_by (calls queue) one there)

        asked : Contains (made_by pictures of.trace) maker.0 × ((maker.0.asked.0.0 == queue) ≡ true)
        asked = filter_has (λ (m : MadeStep). m.asked.0.0 == queue) (made_by pictures of.trace) maker.0 maker.1

      same_call : (queue other : ℕ) (one two : Call B) → Contains (calls queue) one → one.made.call.0 ≡ fill.place → Contains (calls other) two → two.made.call.0 ≡ fill.place → one ≡ two
      same_call queue other one two there at again too =
          let mine = maker queue one there at in
          let theirs = maker other two again too in
          let same = once_same fill.place (made_by pictures of.trace) once mine.0 theirs.0 (asked queue one there at).0 (sym mine.2.step ∙ step_is queue one there at)
          (asked other two again too).0 (sym theirs.2.step ∙ step_is other two again too) in
          let queues : queue ≡ other = sym (eqb-true mine.0.asked.0.0 queue (asked queue one there at).1) ∙ ap (λ (m : MadeStep). m.asked.0.0) same
          ∙ eqb-true theirs.0.asked.0.0 other (asked other two again too).1 in
          zip_once fill.place (made_on other (made_by pictures of.trace)) (calls other) (keeps.kept.kept.is.made other)
          (once_filter fill.place (λ (m : MadeStep). m.asked.0.0 == other) (made_by pictures of.trace) once) one two
          (subst (λ (q : ℕ). Contains (calls q) one) queues there) (step_is queue one there at) again (step_is other two again too)

      filled_once : (turn other : Turn) → WasGivenAt calls fill.place (Some turn) → WasGivenAt calls fill.place (Some other) → turn ≡ other
      filled_once turn other given again =
          let same = same_call given.0 again.0 given.1 again.1 given.2 given.3 again.2 again.3 in
          let turns : Some turn ≡ Some other = sym given.4 ∙ ap (λ (c : Call B). given_turn c.made.reply.gives) same ∙ again.4 in
          cc turns

    -- no call is of a step before the first
    none_before : (turn : Turn) → WasGivenAt calls 0 (Some turn) → ⊥
    none_before turn given =
        let told = own_step of.script.number (mark_among home.marks given.0) (view.calls given.0) given.1 given.2 in
        let partner = zip_has IsMade (made_on given.0 (made_by pictures of.trace)) (map told_by (calls given.0)) given.1.told (keeps.kept.kept.is.made given.0) (has_map told_by (calls given.0) given.1 given.2) in
        let some = filter_has (λ (m : MadeStep). m.asked.0.0 == given.0) (made_by pictures of.trace) partner.0 partner.1 in
        let at = joined_has (made_at pictures) (places_of of.trace) partner.0 some.0 in
        let placed = made_here pictures at.0 partner.0 at.2 in
        let low = places_late 1 no_past of.trace at.0 at.1 in
        let same = partner.2.step in
        let zero_is = given.3 in
        omega (arith, placed, low, same, told, zero_is)

    entered_since : (at : DoneAt) (name : Option ℕ) (place : ℕ) → option_map (λ n. get_or at.past.since n 0) name ≡ Some place → (n : ℕ) × (get_or at.past.since n 0 ≡ place)
    entered_since at None place is = absurd (cc is)
    entered_since at (Some n) place is = (n, cc is)

    -- one turn was given at the place of what a draw enters
    pub given_once : (at : DoneAt) → Contains (places_of of.trace) at → (place : ℕ) → entered_at at ≡ Some place → (turn other : Turn) → WasGivenAt calls place (Some turn) → WasGivenAt calls place (Some other) → turn ≡ other
    given_once at there place entered turn other given again = by_since (since_is 1 no_past of.trace at name.0 there)
      where
        name : (n : ℕ) × (get_or at.past.since n 0 ≡ place)
        name = entered_since at (entered_name at.past.holdings at.done.step at.done.answered) place entered

        by_since : (get_or at.past.since name.0 0 ≡ get_or (zeros 32) name.0 0) ⊎ FillsAt (places_of of.trace) (get_or at.past.since name.0 0) → turn ≡ other
        by_since (inl first) = absurd (none_before turn (subst (λ (p : ℕ). WasGivenAt calls p (Some turn)) (sym name.1 ∙ first ∙ all_zero 32 name.0) given))
        by_since (inr fills) =
            let same : place ≡ fills.at.place = sym name.1 ∙ sym fills.here in
            filled_once fills.at fills.there fills.fills turn other (subst (λ (p : ℕ). WasGivenAt calls p (Some turn)) same given) (subst (λ (p : ℕ). WasGivenAt calls p (Some other)) same again)

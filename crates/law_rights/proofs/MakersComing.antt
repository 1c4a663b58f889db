-- A buffer that comes to a queue keeps makers followed.
use Rattle.std.proofs.Common.{◌≡◌, ℕ, ◌<◌, ◌≤◌, ◌⊎◌, ◌==◌, ◌&&◌, Bool, true, false, List, [], ◌∷◌, length, arith, refl, ap, sym, ◌∙◌, subst, inl, inr}
use Rattle.std.specs.Prelude.{Contains, if◌then◌else◌}
use Rattle.std.proofs.lemmas.Bool.{cases_Bool, eq-eqb, eqb-true, false≢true}
use Rattle.sf_actor_set.specs.sf_actor.Makers.{BufferOf, Maker, Run}
use Rattle.law_rights.specs.Makers.{AreFollowed, AreMade, GoesOn, IsStay, IsTraced, Places, RightAt, Stays, WasMade, WriteAt, buffer_of, maker_in}
use Rattle.law_rights.specs.Places.{AttachesTo, ComesTo, MakesAt, WasAt}
use Rattle.law_rights.specs.Stays.{AreStays, IsBefore, first_stay, maker_of}
use Rattle.law_rights.proofs.TurnCounts.{in_front}
use Rattle.law_rights.proofs.MakersKeeping.{traced_on}

-- one buffer of a queue, or two
abbrev is_stay : BufferOf → BufferOf → Bool
is_stay stay other = (stay.queue == other.queue) && (stay.number == other.number)

is_itself : (stay : BufferOf) → is_stay stay stay ≡ true
is_itself stay = rw (eq-eqb stay.queue stay.queue refl, eq-eqb stay.number stay.number refl) refl

both : (a b : Bool) → (a && b) ≡ true → (a ≡ true) × (b ≡ true)
both true b e = (refl, e)
both false b e = absurd (false≢true e)

is_one : (stay other : BufferOf) → is_stay stay other ≡ true → stay ≡ other
is_one stay other e =
    let parts = both (stay.queue == other.queue) (stay.number == other.number) e in
    let queue = eqb-true stay.queue other.queue parts.0 in
    let number = eqb-true stay.number other.number parts.1 in
    λ i. record { queue = queue i; number = number i }

apart : (stay other : BufferOf) → (stay ≡ other → ⊥) → is_stay stay other ≡ false
apart stay other differ = elim (cases_Bool (is_stay stay other)) [
  | inl met ↦ absurd (differ (is_one stay other met))
  | inr unmet ↦ unmet
]

one_or_other : (n m : ℕ) → (n ≡ m) ⊎ (n ≡ m → ⊥)
one_or_other n m = elim (cases_Bool (n == m)) [
  | inl met ↦ inl (eqb-true n m met)
  | inr unmet ↦ inr (λ same. false≢true (sym unmet ∙ eq-eqb n m same))
]

-- a buffer comes to a stay that was none, after these
abbrev pub comes : Stays → ℕ → BufferOf → List BufferOf → Stays
comes stays buffer stay earlier = record {
  last = λ other. if other == buffer then stay else stays.last other;
  before = λ other. if is_stay other stay then earlier else stays.before other;
}

module _ (run : Run) (most : ℕ) (stays : Stays) (buffer : ℕ) (stay : BufferOf) (earlier : List BufferOf) where
  abbrev after : Stays
  after = comes stays buffer stay earlier

  last_is : after.last buffer ≡ stay
  last_is = rw (eq-eqb buffer buffer refl) refl

  last_other : (other : ℕ) → (other ≡ buffer → ⊥) → after.last other ≡ stays.last other
  last_other other differ = elim (cases_Bool (other == buffer)) [
    | inl met ↦ absurd (differ (eqb-true other buffer met))
    | inr unmet ↦ rw unmet refl
  ]

  before_is : after.before stay ≡ earlier
  before_is = rw (is_itself stay) refl

  before_other : (other : BufferOf) → (other ≡ stay → ⊥) → after.before other ≡ stays.before other
  before_other other differ = rw (apart other stay differ) refl

  maker_other : (other : BufferOf) → (other ≡ stay → ⊥) → maker_in after other ≡ maker_in stays other
  maker_other other differ = ap (maker_of other) (before_other other differ)

  traced_with : (other : BufferOf) (before : List BufferOf) → AreMade run (other ∷ before) → AreStays run other before → length before ≤ most → after.before other ≡ before → IsTraced run most after other
  traced_with other before made are few same = record {
    was_made = subst (λ (xs : List BufferOf). AreMade run (other ∷ xs)) (sym same) made;
    follows = subst (AreStays run other) (sym same) are;
    few = subst (λ (xs : List BufferOf). length xs ≤ most) (sym same) few;
  }

  traced_other : (other : BufferOf) → (other ≡ stay → ⊥) → IsTraced run most stays other → IsTraced run most after other
  traced_other other differ traced = traced_with other (stays.before other) traced.was_made traced.follows traced.few (before_other other differ)

-- what is known of the stays of a buffer before the one to which it comes
pub record IsNewest (before after : Run) (most : ℕ) (stays : Stays) (buffer : ℕ) (stay : BufferOf) (earlier : List BufferOf) (old : Places) : Type 0 where
  pub were_made : AreMade after (stay ∷ earlier)
  pub are_stays : AreStays after stay earlier
  pub few : length earlier ≤ most
  pub newer : (write : WriteAt) → Contains old.queued write → write.write.turn.0 ≡ buffer
      → ((maker_of stay earlier).made ≡ (maker_in stays (stays.last buffer)).made) × ((maker_in stays (stays.last buffer)).age < length earlier)
  pub own : (other : ℕ) → (other ≡ buffer → ⊥) → Contains old.made other → (maker_of stay earlier).made ≡ (maker_in stays (stays.last other)).made → ⊥

-- the first of stays that were made was made
pub first_made : (run : Run) (stay : BufferOf) (earlier : List BufferOf) → AreMade run (stay ∷ earlier) → WasMade run (first_stay stay earlier)
first_made run stay [] made = made.0
first_made run stay (before ∷ earlier) made = first_made run before earlier made.1

module _ (before after : Run) (most more : ℕ) (stays : Stays) (old new : Places) (on : GoesOn before after) (grows : most ≤ more) (are : AreFollowed before most stays old) (buffer : ℕ) (stay : BufferOf)
    (known : (write : WriteAt) → Contains old.queued write → Contains old.made write.write.turn.0) (came : ComesTo buffer stay before after old new) (earlier : List BufferOf) (newest : IsNewest before after more stays buffer stay earlier old)
    (made : (other : ℕ) → Contains new.made other → (other ≡ buffer) ⊎ Contains old.made other) where
  abbrev next : Stays
  next = comes stays buffer stay earlier

  -- what was made before is another
  not_new : (other : BufferOf) → WasMade before other → other ≡ stay → ⊥
  not_new other was same = came.was_none (subst (WasMade before) same was)

  traced_next : (other : BufferOf) → IsTraced before most stays other → IsTraced after more next other
  traced_next other traced = traced_other after more stays buffer stay earlier other (not_new other traced.was_made.0) (traced_on before after most more stays other on grows traced)

  traced_new : IsTraced after more next stay
  traced_new = traced_with after more stays buffer stay earlier stay earlier newest.were_made newest.are_stays newest.few (before_is after more stays buffer stay earlier)

  made_next : (other : ℕ) → (other ≡ buffer) ⊎ ((other ≡ buffer → ⊥) × Contains old.made other) → IsTraced after more next (next.last other)
  made_next other (inl same) = subst (IsTraced after more next) (sym (ap next.last same ∙ last_is after more stays buffer stay earlier)) traced_new
  made_next other (inr was) = subst (IsTraced after more next) (sym (last_other after more stays buffer stay earlier other was.0)) (traced_next (stays.last other) (are.made other was.1))

  live_next : (right : RightAt) → (WasAt old right × (right.turn.0 ≡ buffer → ⊥)) ⊎ ((right.turn.0 ≡ buffer) × (right.at ≡ stay)) → right.at ≡ next.last right.turn.0
  live_next right (inl was) = sym was.0.3 ∙ are.live was.0.0 was.0.1 ∙ ap stays.last was.0.2 ∙ sym (last_other after more stays buffer stay earlier right.turn.0 was.1)
  live_next right (inr here) = here.1 ∙ sym (ap next.last here.0 ∙ last_is after more stays buffer stay earlier)

  maker_next : (write : WriteAt) → Contains old.queued write → maker_in next (buffer_of write) ≡ maker_in stays (buffer_of write)
  maker_next write there = maker_other after more stays buffer stay earlier (buffer_of write) (not_new (buffer_of write) ((are.queued write there).traced.was_made.0))

  new_maker : maker_in next stay ≡ maker_of stay earlier
  new_maker = ap (maker_of stay) (before_is after more stays buffer stay earlier)

  queued_next : (write : WriteAt) → Contains old.queued write → (write.write.turn.0 ≡ buffer) ⊎ (write.write.turn.0 ≡ buffer → ⊥) → IsStay after more next write.write.turn.0 (buffer_of write)
  queued_next write there (inl same) = record {
    traced = traced_next (buffer_of write) is.traced;
    one_maker = ap (λ (m : Maker). m.made) (maker_next write there) ∙ is.one_maker ∙ ap (λ (b : ℕ). (maker_in stays (stays.last b)).made) same ∙ sym found.0 ∙ ap (λ (m : Maker). m.made) (sym now);
    age = inl (omega (arith, mine, theirs, less, below));
  }
    where
      is : IsStay before most stays write.write.turn.0 (buffer_of write)
      is = are.queued write there

      found : ((maker_of stay earlier).made ≡ (maker_in stays (stays.last buffer)).made) × ((maker_in stays (stays.last buffer)).age < length earlier)
      found = newest.newer write there same

      now : maker_in next (next.last write.write.turn.0) ≡ maker_of stay earlier
      now = ap (maker_in next) (ap next.last same ∙ last_is after more stays buffer stay earlier) ∙ new_maker

      mine : (maker_in next (buffer_of write)).age ≡ (maker_in stays (buffer_of write)).age
      mine = ap (λ (m : Maker). m.age) (maker_next write there)

      theirs : (maker_in next (next.last write.write.turn.0)).age ≡ length earlier
      theirs = ap (λ (m : Maker). m.age) now

      less : (maker_in stays (stays.last buffer)).age < length earlier
      less = found.1

      below : (maker_in stays (buffer_of write)).age ≤ (maker_in stays (stays.last buffer)).age
      below = elim is.age [
        | inl older ↦ (let same_age = ap (λ (b : ℕ). (maker_in stays (stays.last b)).age) same in omega (arith, older, same_age))
        | inr last ↦ (let same_age = ap (λ (s : BufferOf). (maker_in stays s).age) (last ∙ ap stays.last same) in omega (arith, same_age))
      ]
  queued_next write there (inr differ) = record {
    traced = traced_next (buffer_of write) is.traced;
    one_maker = ap (λ (m : Maker). m.made) (maker_next write there) ∙ is.one_maker ∙ ap (λ (m : Maker). m.made) (sym last_maker);
    age = elim is.age [
      | inl older ↦ (let mine = ap (λ (m : Maker). m.age) (maker_next write there) in let theirs = ap (λ (m : Maker). m.age) last_maker in inl (omega (arith, older, mine, theirs)))
      | inr last ↦ inr (last ∙ sym (last_other after more stays buffer stay earlier write.write.turn.0 differ))
    ];
  }
    where
      is : IsStay before most stays write.write.turn.0 (buffer_of write)
      is = are.queued write there

      same_last : next.last write.write.turn.0 ≡ stays.last write.write.turn.0
      same_last = last_other after more stays buffer stay earlier write.write.turn.0 differ

      last_maker : maker_in next (next.last write.write.turn.0) ≡ maker_in stays (stays.last write.write.turn.0)
      last_maker = ap (maker_in next) same_last
          ∙ maker_other after more stays buffer stay earlier (stays.last write.write.turn.0) (not_new (stays.last write.write.turn.0) ((are.made write.write.turn.0 (known write there)).was_made.0))

  -- no two come to one maker
  made_here : (other : ℕ) → other ≡ buffer → (maker_in next (next.last other)).made ≡ (maker_of stay earlier).made
  made_here other same = ap (λ (m : Maker). m.made) (ap (maker_in next) (ap next.last same ∙ last_is after more stays buffer stay earlier) ∙ new_maker)

  made_there : (other : ℕ) → (other ≡ buffer → ⊥) × Contains old.made other → (maker_in next (next.last other)).made ≡ (maker_in stays (stays.last other)).made
  made_there other was = ap (λ (m : Maker). m.made)
      (ap (maker_in next) (last_other after more stays buffer stay earlier other was.0)
      ∙ maker_other after more stays buffer stay earlier (stays.last other) (not_new (stays.last other) ((are.made other was.1).was_made.0)))

  apart_next : (one other : ℕ) → (one ≡ buffer) ⊎ ((one ≡ buffer → ⊥) × Contains old.made one) → (other ≡ buffer) ⊎ ((other ≡ buffer → ⊥) × Contains old.made other)
      → (maker_in next (next.last one)).made ≡ (maker_in next (next.last other)).made → one ≡ other
  apart_next one other (inl mine) (inl theirs) same = mine ∙ sym theirs
  apart_next one other (inl mine) (inr theirs) same = absurd (newest.own other theirs.0 theirs.1 (sym (made_here one mine) ∙ same ∙ made_there other theirs))
  apart_next one other (inr mine) (inl theirs) same = absurd (newest.own one mine.0 mine.1 (sym (made_here other theirs) ∙ sym same ∙ made_there one mine))
  apart_next one other (inr mine) (inr theirs) same = are.apart one other mine.1 theirs.1 (sym (made_there one mine) ∙ same ∙ made_there other theirs)

  pub come_keeps : AreFollowed after more next new
  come_keeps = record {
    made = λ other there. made_next other (split other (made other there));
    apart = λ one other here there same. apart_next one other (split one (made one here)) (split other (made other there)) same;
    live = λ right there. live_next right (came.live right there);
    queued = λ write there. queued_next write (came.queued.no_others write there) (one_or_other write.write.turn.0 buffer);
    once = λ one other is too turn. are.once one other (came.queued.no_others one is) (came.queued.no_others other too) turn;
    rises = λ one other is too same less.
        let was = came.queued.no_others one is in
        let had = came.queued.no_others other too in
        let mine = ap (λ (m : Maker). m.age) (maker_next one was) in
        let theirs = ap (λ (m : Maker). m.age) (maker_next other had) in
        elim (are.rises one other was had same less) [
          | inl older ↦ inl (omega (arith, older, mine, theirs))
          | inr equal ↦ inr (mine ∙ equal.0 ∙ sym theirs, equal.1)
        ];
    owed = λ write there. came.queued.all write (are.owed write (came.owed write there));
  }
    where
      split : (other : ℕ) → (other ≡ buffer) ⊎ Contains old.made other → (other ≡ buffer) ⊎ ((other ≡ buffer → ⊥) × Contains old.made other)
      split other (inl same) = inl same
      split other (inr there) = elim (one_or_other other buffer) [
        | inl same ↦ inl same
        | inr differ ↦ inr (differ, there)
      ]

module _ (before after : Run) (most more : ℕ) (stays : Stays) (old new : Places) (on : GoesOn before after) (grows : most < more) (are : AreFollowed before most stays old)
    (known : (write : WriteAt) → Contains old.queued write → Contains old.made write.write.turn.0) (buffer : ℕ) (stay : BufferOf) where
  more_or_same : most ≤ more
  more_or_same = omega (arith, grows)

  -- a loose buffer is attached
  pub attach_keeps : AttachesTo buffer stay before after old new → AreFollowed after more (comes stays buffer stay (stays.last buffer ∷ stays.before (stays.last buffer))) new
  attach_keeps attaches = come_keeps before after most more stays old new on more_or_same are buffer stay known attaches.comes (stays.last buffer ∷ stays.before (stays.last buffer)) newest
      (λ other there. inr (attaches.made other there))
    where
      traced : IsTraced before most stays (stays.last buffer)
      traced = are.made buffer attaches.known

      at : attaches.right.at ≡ stays.last buffer
      at = are.live attaches.right attaches.there ∙ ap stays.last attaches.same

      newest : IsNewest before after more stays buffer stay (stays.last buffer ∷ stays.before (stays.last buffer)) old
      newest =
          let few = traced.few in
          let on_stay = traced_on before after most more stays (stays.last buffer) on more_or_same traced in
          record {
            were_made = (attaches.comes.was_made, on_stay.was_made);
            are_stays = (subst (IsBefore after stay) at attaches.from, on_stay.follows);
            few = omega (arith, few, grows);
            newer = λ write there same. (refl, omega arith);
            own = λ other differ there same. differ (sym (are.apart buffer other attaches.known there same));
          }

  -- a buffer is made
  pub make_keeps : MakesAt buffer stay before after old new → AreFollowed after more (comes stays buffer stay []) new
  make_keeps makes = come_keeps before after most more stays old new on more_or_same are buffer stay known makes.comes [] newest
      (λ other there. front other (in_front buffer other old.made (makes.made other there)))
    where
      front : (other : ℕ) → (buffer ≡ other) ⊎ Contains old.made other → (other ≡ buffer) ⊎ Contains old.made other
      front other (inl same) = inl (sym same)
      front other (inr there) = inr there

      newest : IsNewest before after more stays buffer stay [] old
      newest = record {
        were_made = (makes.comes.was_made, tt);
        are_stays = makes.first;
        few = omega arith;
        newer = λ write there same. absurd (makes.unqueued write there same);
        own = λ other differ there same.
            let was = are.made other there in
            makes.comes.was_none (subst (WasMade before) (sym same) (first_made before (stays.last other) (stays.before (stays.last other)) was.was_made));
      }

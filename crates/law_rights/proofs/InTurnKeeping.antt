-- What draws entered stays in turn while a run goes on.
use Rattle.std.proofs.Common.{◌≡◌, ℕ, ◌+◌, ◌<◌, ◌≤◌, ◌⊎◌, ◌&&◌, true, List, [], ◌∷◌, length, arith, refl, ap, sym, ◌∙◌, subst, inl, inr}
use Rattle.std.specs.Prelude.{Contains}
use Rattle.sf_actor_set.specs.sf_script_scene.Scene.{SceneValue}
use Rattle.sf_actor_set.specs.sf_actor.Makers.{BufferOf, Maker, Run, buffer_in, is_before, same_maker}
use Rattle.sf_actor_set.specs.sf_actor.Names.{Token}
use Rattle.law_played.specs.Runs.{StepBy, steps_in}
use Rattle.law_played.specs.Turns.{calls_in, maker_at, turn_frame}
use Rattle.law_rights.specs.InTurn.{IsEarlier, IsInTurn, WasWritten, frames_on}
use Rattle.law_rights.specs.Makers.{AreFollowed, AreMade, GoesOn, IsTraced, Places, RightAt, Stays, WasMade, WriteAt, buffer_of}
use Rattle.law_rights.specs.Places.{WasAt}
use Rattle.law_rights.specs.Stays.{AreStays, IsBefore, IsFirst, maker_of}
use Rattle.law_rights.proofs.FirstLemmas.{before_means, both_met, one_maker_is}
use Rattle.law_rights.proofs.BufferOrigins.{followed_back}
use Rattle.law_rights.proofs.MakersComing.{first_made}
use Rattle.law_rights.proofs.MakersKeeping.{made_on, stays_on}
use Rattle.law_rights.proofs.MakersTelling.{one_made}

-- a buffer came to a queue, as one that was none before: it was made, or it was at a right before
pub record Arrives (scene : SceneValue) (before after : Run) (old : Places) (right : RightAt) : Type 0 where
  pub was_none : WasMade before right.at → ⊥
  pub way : IsFirst after right.at ⊎ ((was : RightAt) × Contains old.live was × IsBefore after right.at was.at)
  pub more : calls_in scene before < calls_in scene after

-- a frame was queued with a right that was there, as the next of its queue
pub record IsNext (before : Run) (old : Places) (write : WriteAt) : Type 0 where
  pub was : RightAt
  pub there : Contains old.live was
  pub at : was.at ≡ buffer_of write
  pub frame : write.write.frame.1 ≡ frames_on before (buffer_of write).queue + 1

module _ (scene : SceneValue) (before after : Run) (old new : Places) (stays : Stays) (are : AreFollowed before (calls_in scene before) stays old)
    (live_made : (right : RightAt) → Contains old.live right → Contains old.made right.turn.0) (on : GoesOn before after) (grows : calls_in scene before ≤ calls_in scene after) where
  -- a stay that was made has the same maker
  same_at : (stay : BufferOf) (earlier : List BufferOf) → AreMade before (stay ∷ earlier) → AreStays before stay earlier → length earlier ≤ calls_in scene before → maker_at scene after stay ≡ maker_at scene before stay
  same_at stay earlier made follows few =
      followed_back after (calls_in scene after) stay earlier (stays_on before after on stay earlier made follows) (omega (arith, few, grows))
      ∙ sym (followed_back before (calls_in scene before) stay earlier follows few)

  traced_same : (stay : BufferOf) → IsTraced before (calls_in scene before) stays stay → maker_at scene after stay ≡ maker_at scene before stay
  traced_same stay traced = same_at stay (stays.before stay) traced.was_made traced.follows traced.few

  right_traced : (right : RightAt) → Contains old.live right → IsTraced before (calls_in scene before) stays right.at
  right_traced right there = subst (IsTraced before (calls_in scene before) stays) (sym (are.live right there)) (are.made right.turn.0 (live_made right there))

  module _ (s : StepBy) (token : Token) (is : IsInTurn scene before old s token) where
    abbrev stay : BufferOf
    stay = buffer_in token

    token_same : maker_at scene after stay ≡ maker_at scene before stay
    token_same = same_at stay is.earlier is.made is.follows is.few

    token_before : maker_at scene before stay ≡ maker_of stay is.earlier
    token_before = followed_back before (calls_in scene before) stay is.earlier is.follows is.few

    abbrev Newest : RightAt → Type 0
    Newest right = ((maker_at scene after stay).age < (maker_at scene after right.at).age) ⊎ (stay ≡ right.at)

    was_newest : (right : RightAt) → WasAt old right → same_maker (maker_at scene after right.at) (maker_at scene after stay) ≡ true → Newest right
    was_newest right was same =
        let at_same : maker_at scene after right.at ≡ maker_at scene before was.0.at =
        ap (maker_at scene after) (sym was.3) ∙ traced_same was.0.at (right_traced was.0 was.1) in
        elim (is.newest was.0 was.1 (subst (λ (m : Maker). same_maker m (maker_at scene before stay) ≡ true) at_same
        (subst (λ (m : Maker). same_maker (maker_at scene after right.at) m ≡ true) token_same same))) [
          | inl less ↦
              let mine = ap (λ (m : Maker). m.age) token_same in
              let theirs = ap (λ (m : Maker). m.age) at_same in
              inl (omega (arith, less, mine, theirs))
          | inr one ↦ inr (one ∙ was.3)
        ]

    arrived_newest : (right : RightAt) → Arrives scene before after old right → same_maker (maker_at scene after right.at) (maker_at scene after stay) ≡ true → Newest right
    arrived_newest right arrives same = by_way arrives.way
      where
        made : (maker_at scene after right.at).made ≡ (maker_of stay is.earlier).made
        made = one_maker_is (maker_at scene after right.at) (maker_at scene after stay) same ∙ ap (λ (m : Maker). m.made) (token_same ∙ token_before)

        by_way : IsFirst after right.at ⊎ ((was : RightAt) × Contains old.live was × IsBefore after right.at was.at) → Newest right
        by_way (inl first) =
            let here : maker_at scene after right.at ≡ maker_of right.at [] = followed_back after (calls_in scene after) right.at [] first (omega arith) in
            let same_stay = sym (ap (λ (m : Maker). m.made) here) ∙ made in
            absurd (arrives.was_none (subst (WasMade before) (sym same_stay) (first_made before stay is.earlier is.made)))
        by_way (inr from) =
            let traced = right_traced from.0 from.1 in
            let few = traced.few in
            let more = arrives.more in
            let here : maker_at scene after right.at ≡ maker_of right.at (from.0.at ∷ stays.before from.0.at) =
            followed_back after (calls_in scene after) right.at (from.0.at ∷ stays.before from.0.at)
            (from.2, stays_on before after on from.0.at (stays.before from.0.at) traced.was_made traced.follows) (omega (arith, few, more)) in
            let there : maker_at scene before from.0.at ≡ maker_of from.0.at (stays.before from.0.at) =
            followed_back before (calls_in scene before) from.0.at (stays.before from.0.at) traced.follows few in
            let one = one_made (maker_at scene before from.0.at) (maker_at scene before stay)
            (ap (λ (m : Maker). m.made) there ∙ sym (ap (λ (m : Maker). m.made) here) ∙ made ∙ sym (ap (λ (m : Maker). m.made) token_before)) in
            let mine = ap (λ (m : Maker). m.age) token_same in
            let theirs = ap (λ (m : Maker). m.age) here in
            let was = ap (λ (m : Maker). m.age) there in
            elim (is.newest from.0 from.1 one) [
              | inl less ↦ inl (omega (arith, less, mine, theirs, was))
              | inr at ↦ let ages = ap (λ (b : BufferOf). (maker_at scene before b).age) at in inl (omega (arith, ages, mine, theirs, was))
            ]

    module _ (same_frame : turn_frame after s token ≡ turn_frame before s token) (frames_grow : (queue : ℕ) → frames_on before queue ≤ frames_on after queue)
        (steps : (other : StepBy) → Contains (steps_in scene before) other → Contains (steps_in scene after) other)
        (live_from : (right : RightAt) → Contains new.live right → WasAt old right ⊎ Arrives scene before after old right)
        (queued_from : (write : WriteAt) → Contains new.queued write → Contains old.queued write ⊎ IsNext before old write) where
      was_written : (write : WriteAt) → Contains old.queued write → IsEarlier scene after s token write → WasWritten scene after s write.write.frame
      was_written write there earlier =
          let write_same = traced_same (buffer_of write) ((are.queued write there).traced) in
          let was : IsEarlier scene before s token write =
          subst (λ (m : Maker). (same_maker m (maker_at scene before stay) && is_before m.age write.write.frame.1 (maker_at scene before stay).age (turn_frame before s token)) ≡ true) write_same
          (subst (λ (m : Maker). (same_maker (maker_at scene after (buffer_of write)) m && is_before (maker_at scene after (buffer_of write)).age write.write.frame.1 m.age (turn_frame before s token)) ≡ true) token_same
          (subst (λ (n : ℕ). (same_maker (maker_at scene after (buffer_of write)) (maker_at scene after stay)
          && is_before (maker_at scene after (buffer_of write)).age write.write.frame.1 (maker_at scene after stay).age n) ≡ true) same_frame earlier)) in
          let wrote = is.first write there was in
          record { by = wrote.by; there = steps wrote.by wrote.there; wrote = wrote.wrote; no_later = wrote.no_later }

      -- what is queued now comes after
      not_earlier : (write : WriteAt) → IsNext before old write → IsEarlier scene after s token write → ⊥
      not_earlier write next earlier = by_newest (was_newest next.was (next.was, next.there, refl, refl) one) before_it
        where
          parts : (same_maker (maker_at scene after (buffer_of write)) (maker_at scene after stay) ≡ true)
              × (is_before (maker_at scene after (buffer_of write)).age write.write.frame.1 (maker_at scene after stay).age (turn_frame after s token) ≡ true)
          parts = both_met (same_maker (maker_at scene after (buffer_of write)) (maker_at scene after stay))
              (is_before (maker_at scene after (buffer_of write)).age write.write.frame.1 (maker_at scene after stay).age (turn_frame after s token)) earlier

          one : same_maker (maker_at scene after next.was.at) (maker_at scene after stay) ≡ true
          one = subst (λ (b : BufferOf). same_maker (maker_at scene after b) (maker_at scene after stay) ≡ true) (sym next.at) parts.0

          before_it : ((maker_at scene after (buffer_of write)).age < (maker_at scene after stay).age)
              ⊎ (((maker_at scene after (buffer_of write)).age ≡ (maker_at scene after stay).age) × write.write.frame.1 < turn_frame after s token)
          before_it = before_means (maker_at scene after (buffer_of write)).age write.write.frame.1 (maker_at scene after stay).age (turn_frame after s token) parts.1

          at_age : (maker_at scene after next.was.at).age ≡ (maker_at scene after (buffer_of write)).age
          at_age = ap (λ (b : BufferOf). (maker_at scene after b).age) next.at

          by_newest : Newest next.was → ((maker_at scene after (buffer_of write)).age < (maker_at scene after stay).age)
              ⊎ (((maker_at scene after (buffer_of write)).age ≡ (maker_at scene after stay).age) × write.write.frame.1 < turn_frame after s token) → ⊥
          by_newest (inl newer) (inl less) = let age = at_age in omega (arith, newer, less, age)
          by_newest (inl newer) (inr equal) = let age = at_age in let same = equal.0 in omega (arith, newer, same, age)
          by_newest (inr same) (inl less) = let ages = ap (λ (b : BufferOf). (maker_at scene after b).age) (same ∙ next.at) in omega (arith, ages, less)
          by_newest (inr same) (inr equal) =
              let frames = ap (λ (b : BufferOf). frames_on before b.queue) (same ∙ next.at) in
              let next_frame = next.frame in
              let low = is.frame in
              let fewer = equal.1 in
              omega (arith, frames, next_frame, low, fewer, same_frame)

      pub turn_stays : IsInTurn scene after new s token
      turn_stays = record {
        earlier = is.earlier;
        made = made_on before after on (stay ∷ is.earlier) is.made;
        follows = stays_on before after on stay is.earlier is.made is.follows;
        few = (let few = is.few in omega (arith, few, grows));
        newest = λ right there same. elim (live_from right there) [
          | inl was ↦ was_newest right was same
          | inr arrives ↦ arrived_newest right arrives same
        ];
        frame = (let low = is.frame in let more = frames_grow stay.queue in omega (arith, low, more, same_frame));
        first = λ write there earlier. elim (queued_from write there) [
          | inl was ↦ was_written write was earlier
          | inr next ↦ absurd (not_earlier write next earlier)
        ];
      }

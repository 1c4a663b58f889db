-- A try of one of the actors over an exact desk: every other one keeps what it keeps.
use Rattle.std.proofs.Common.{◌≡◌, ◌≢◌, ℕ, zero, suc, ◌<◌, ◌≤◌, Bool, true, false, List, [], ◌∷◌, length, get_or, set, take, drop, ◌++◌, Some, refl, ap, ◌∙◌, sym, subst, arith}
use Rattle.std.specs.Prelude.{slice_get, is_err, IfOk, Result, Ok, Err}
use Rattle.std.specs.List.{All, AllPairs}
use Rattle.std.specs.List.Sorted.{IsStrictlyIncreasing}
use Rattle.std.proofs.lemmas.Bool.{false≢true}
use Rattle.std.proofs.lemmas.List.{get_or-map, length-map}
use Rattle.std.proofs.lemmas.List.Elements.{All-cons, All-head, All-nil, All-tail}
use Rattle.atomic_table.specs.Seated.{TableId}
use Rattle.sf_base.specs.declared.memory.NoMemory.{NoMemory}
use Rattle.sf_commit.specs.sf_picture.declared.picture.Picture.{Picture}
use Rattle.sf_actor_steps.specs.sf_script_scene.declared.step.ActorScript.{ActorScript}
use Rattle.sf_actor_steps.specs.sf_actor.declared.tried.Stepped.{Stepped}
use Rattle.sf_actor_steps.specs.sf_actor.declared.tried.Stepped.TheVariants as stepped
use Rattle.sf_actor_steps.specs.sf_actor.Desks.{DeskHome, DeskView, known_of}
use Rattle.sf_actor_steps.specs.sf_actor.Known.{GoesOn}
use Rattle.sf_actor_steps.specs.sf_actor.Plain.{PlainOf, home_of, view_of}
use Rattle.sf_actor_steps.specs.sf_actor.Scripts.{picture_at}
use Rattle.sf_actor_steps.specs.sf_actor.Tries.{ActorOf, Keeps, Tries}
use Rattle.sf_actor_steps.proofs.sf_actor_lemmas.GoingOn.{keeps_on}
use Rattle.sf_actor_steps.specs.Actors.{IsActor, IsKept, Steps}
use Rattle.sf_actor_steps.specs.Playable.{MayPlay}
use Rattle.sf_actor_steps.specs.declared.actor.Actor.{Actor}
use Rattle.sf_actor_set.specs.ActorSets.{ActorSetOf, IsActorSet, KeepAs, KeepsAs, MayStep, StepsAt, TriesAt, numbers_of, script_of, scripts_of}
use Rattle.sf_actor_set.proofs.RisingLemmas.{rising_differ}

module _ {B : Type 0} where
  -- what an actor keeps stays while the histories go on without an entry of it
  pub keeps_after : (pictures : ℕ → Picture) (home : DeskHome) (of : ActorOf B) (before after : DeskView B) → GoesOn of.script.number (known_of home before) (known_of home after) → Keeps pictures home of before → Keeps pictures home of after
  keeps_after pictures home of before after goes keeps = record { kept = keeps_on pictures of (known_of home before) (known_of home after) goes keeps.kept; there = keeps.there }

  -- so it is for every other actor, whatever a try came to
  others_keep : (pictures : ℕ → Picture) (home : DeskHome) (old new : ActorOf B) (before after : DeskView B) (came_to : Stepped) → home.is_exact ≡ true → Tries pictures home old before new after came_to
      → (of : ActorOf B) → of.script.number ≢ old.script.number → Keeps pictures home of before → Keeps pictures home of after
  others_keep pictures home old new before after stepped.Done exact tries of other keeps = keeps_after pictures home of before after (tries.1.alone exact of.script.number other) keeps
  others_keep pictures home old new before after stepped.NotYet exact tries of other keeps = keeps_after pictures home of before after (tries.alone exact of.script.number) keeps
  others_keep pictures home old new before after stepped.Ended exact tries of other keeps = subst (Keeps pictures home of) (sym tries.1) keeps

  module _ (table : TableId) (pictures : ℕ → Picture) (home : DeskHome) (before after : DeskView B) where
    rest_keep : (number : ℕ) → ((of : ActorOf B) → of.script.number ≢ number → Keeps pictures home of before → Keeps pictures home of after)
        → (actors : List (Actor B)) (ofs : List (ActorOf B)) → All (λ other. number ≢ other) (numbers_of (scripts_of actors)) → KeepAs table pictures home before actors ofs → KeepAs table pictures home after actors ofs
    rest_keep number goes [] [] differ keep = tt
    rest_keep number goes [] (of ∷ ofs) differ keep = keep
    rest_keep number goes (actor ∷ actors) [] differ keep = keep
    rest_keep number goes (actor ∷ actors) (of ∷ ofs) differ keep =
        let same = ap (λ (script : ActorScript). script.number) keep.0.is.script in
        let other = All-head (λ other. number ≢ other) actor.script.number (numbers_of (scripts_of actors)) differ in (
          record { is = keep.0.is; keeps = goes of (λ e. other (sym e ∙ same)) keep.0.keeps },
          rest_keep number goes actors ofs (All-tail (λ other. number ≢ other) actor.script.number (numbers_of (scripts_of actors)) differ) keep.1,
        )

    all_keep : (one : Actor B) (its : ActorOf B) → KeepsAs table pictures home after one its → (index : ℕ) (actors : List (Actor B)) (ofs : List (ActorOf B)) → index < length actors
        → AllPairs (λ m n. m ≢ n) (numbers_of (scripts_of actors))
        → ((of : ActorOf B) → of.script.number ≢ get_or (numbers_of (scripts_of actors)) index 0 → Keeps pictures home of before → Keeps pictures home of after)
        → KeepAs table pictures home before actors ofs → KeepAs table pictures home after (set actors index one) (set ofs index its)
    all_keep one its is index [] ofs there differ goes keep = absurd (omega arith)
    all_keep one its is index (actor ∷ actors) [] there differ goes keep = absurd keep
    all_keep one its is zero (actor ∷ actors) (of ∷ ofs) there differ goes keep =
        (is, rest_keep actor.script.number goes actors ofs (λ k d below. differ zero (suc k) d (omega arith) (omega arith)) keep.1)
    all_keep one its is (suc index) (actor ∷ actors) (of ∷ ofs) there differ goes keep =
        let same = ap (λ (script : ActorScript). script.number) keep.0.is.script in
        let many = length-map (scripts_of actors) (λ (script : ActorScript). script.number) in
        let more = length-map actors script_of in (
          record { is = keep.0.is; keeps = goes of (λ e. differ zero (suc index) 0 (omega arith) (omega (arith, many, more)) (sym same ∙ e)) keep.0.keeps },
          all_keep one its is index actors ofs (omega arith) (λ i j d up below. differ (suc i) (suc j) d (omega arith) (omega arith)) goes keep.1,
        )

    -- the actor at an index is one of those that keep
    kept_at : (index : ℕ) (actors : List (Actor B)) (ofs : List (ActorOf B)) (d : Actor B) → index < length actors → KeepAs table pictures home before actors ofs
        → (of : ActorOf B) × (slice_get ofs index ≡ Some of) × KeepsAs table pictures home before (get_or actors index d) of × ((get_or actors index d).script.number ≡ get_or (numbers_of (scripts_of actors)) index 0)
    kept_at index [] ofs d there keep = absurd (omega arith)
    kept_at index (first ∷ actors) [] d there keep = absurd keep
    kept_at zero (first ∷ actors) (of ∷ ofs) d there keep = (of, refl, keep.0, refl)
    kept_at (suc index) (first ∷ actors) (of ∷ ofs) d there keep = kept_at index actors ofs d (omega arith) keep.1

    -- actors that keep what they keep do so as some traces
    pub gathered : (actors : List (Actor B)) → All (λ actor. IsKept table pictures home actor before) actors → (ofs : List (ActorOf B)) × KeepAs table pictures home before actors ofs
    gathered [] kept = ([], tt)
    gathered (actor ∷ actors) kept =
        let first = All-head (λ actor. IsKept table pictures home actor before) actor actors kept in
        let rest = gathered actors (All-tail (λ actor. IsKept table pictures home actor before) actor actors kept) in
        (first.of ∷ rest.0, (record { is = first.is; keeps = first.keeps }, rest.1))

    pub kept_as : (actors : List (Actor B)) (ofs : List (ActorOf B)) → KeepAs table pictures home before actors ofs → All (λ actor. IsKept table pictures home actor before) actors
    kept_as [] ofs keep = All-nil (λ actor. IsKept table pictures home actor before)
    kept_as (actor ∷ actors) [] keep = absurd keep
    kept_as (actor ∷ actors) (of ∷ ofs) keep =
        All-cons (λ actor. IsKept table pictures home actor before) actor actors (record { of = of; is = keep.0.is; keeps = keep.0.keeps }) (kept_as actors ofs keep.1)

  read_at : (xs : List (Actor B)) (n : ℕ) (d : Actor B) → n < length xs → slice_get xs n ≡ Some (get_or xs n d)
  read_at [] n d low = absurd (omega arith)
  read_at (x ∷ xs) zero d low = refl
  read_at (x ∷ xs) (suc n) d low = read_at xs n d (omega arith)

  read_set : (xs : List (Actor B)) (n : ℕ) (x : Actor B) → n < length xs → slice_get (set xs n x) n ≡ Some x
  read_set [] n x low = absurd (omega arith)
  read_set (first ∷ xs) zero x low = refl
  read_set (first ∷ xs) (suc n) x low = read_set xs n x (omega arith)

  -- a try of the actor at an index is one of the actor set
  pub steps_at : (table : TableId) (pictures : ℕ → Picture) (index : ℕ) (actors : List (Actor B)) (ofs : List (ActorOf B)) (before after : PlainOf B) (d one : Actor B) (came_to : Result Stepped NoMemory)
      → index < length actors → IsStrictlyIncreasing (numbers_of (scripts_of actors)) → home_of after ≡ home_of before
      → ((of : ActorOf B) → IsActor table (get_or actors index d) of → Keeps pictures (home_of before) of (view_of before) → IfOk came_to (Steps table pictures (home_of before) (get_or actors index d).bindings of (view_of before) one (view_of after)))
      → KeepAs table pictures (home_of before) (view_of before) actors ofs → IfOk came_to (StepsAt table pictures index actors ofs before (set actors index one) after)
  steps_at table pictures index actors ofs before after d one (Err e) there rising same steps keep = tt
  steps_at table pictures index actors ofs before after d one (Ok came_to) there rising same steps keep =
      let home = home_of before in
      let at = kept_at table pictures home (view_of before) (view_of after) index actors ofs d there keep in
      let old = at.0 in
      let does = steps old at.2.is at.2.keeps in
      let number : old.script.number ≡ get_or (numbers_of (scripts_of actors)) index 0 = ap (λ (script : ActorScript). script.number) at.2.is.script ∙ at.3 in
      record {
        old = old;
        new = does.new;
        here = at.1;
        tries = does.tries;
        keep = subst (λ (h : DeskHome). KeepAs table pictures h (view_of after) (set actors index one) (set ofs index does.new)) (sym same)
            (all_keep table pictures home (view_of before) (view_of after) one does.new (record { is = does.is; keeps = does.keeps }) index actors ofs there (rising_differ _ rising)
            (λ of other. others_keep pictures home old does.new (view_of before) (view_of after) came_to refl does.tries of (λ e. other (e ∙ number))) keep);
        was_here = get_or actors index d;
        now_here = one;
        was_at = read_at actors index d there;
        now_at = read_set actors index one there;
        acts = does.acts;
      }

  -- the actor at an index may play
  pub plays_at : (home : DeskHome) (pictures : List Picture) (actors : List (Actor B)) (index : ℕ) (d : Actor B) → index < length actors → All (MayPlay home pictures) (scripts_of actors) → MayPlay home pictures (get_or actors index d).script
  plays_at home pictures actors index d there plays =
      let many = length-map actors script_of in
      subst (MayPlay home pictures) (get_or-map script_of actors index d d.script there) (plays index d.script (omega (arith, many, there)))

  -- the scripts stay
  pub same_scripts : (actors : List (Actor B)) (index : ℕ) (d one : Actor B) → index < length actors → one.script ≡ (get_or actors index d).script → scripts_of (set actors index one) ≡ scripts_of actors
  same_scripts [] index d one there same = absurd (omega arith)
  same_scripts (first ∷ actors) zero d one there same = ap (λ (script : ActorScript). script ∷ scripts_of actors) same
  same_scripts (first ∷ actors) (suc index) d one there same = ap (λ (scripts : List ActorScript). first.script ∷ scripts) (same_scripts actors index d one (omega arith) same)

  -- actors of which each keeps what it keeps still do after a try that found memory
  pub still_kept : (table : TableId) (pictures : ℕ → Picture) (index : ℕ) (actors news : List (Actor B)) (before after : PlainOf B) (came_to : Stepped)
      → All (λ actor. IsKept table pictures (home_of before) actor (view_of before)) actors
      → ((ofs : List (ActorOf B)) → KeepAs table pictures (home_of before) (view_of before) actors ofs → StepsAt table pictures index actors ofs before news after came_to)
      → All (λ actor. IsKept table pictures (home_of after) actor (view_of after)) news
  still_kept table pictures index actors news before after came_to kept steps =
      let all = gathered table pictures (home_of before) (view_of before) (view_of after) actors kept in
      kept_as table pictures (home_of after) (view_of after) (view_of after) news _ (steps all.0 all.1).keep

  -- an actor set that found memory so far may step
  pub may_step : (table : TableId) (pictures shown : List Picture) (actors lent : List (Actor B)) (desk : PlainOf B) (is_spent : Bool) → shown ≡ pictures → lent ≡ actors → is_spent ≡ false
      → IsActorSet table (record { pictures = pictures; actors = actors; desk = desk; is_spent = is_spent }) → MayStep table shown lent desk
  may_step table pictures shown actors lent desk is_spent same_pictures same_actors unspent is =
      subst (λ (ps : List Picture). MayStep table ps lent desk) (sym same_pictures)
      (subst (λ (xs : List (Actor B)). MayStep table pictures xs desk) (sym same_actors) (record { rising = is.rising; plays = is.plays; kept = is.kept unspent }))

  -- the tries of what was lent are those of the actor set
  pub as_lent : (table : TableId) (pictures shown : List Picture) (index : ℕ) (actors lent news : List (Actor B)) (before after : PlainOf B) (came_to : Result Stepped NoMemory) → shown ≡ pictures → lent ≡ actors
      → TriesAt table (picture_at shown) index lent before news after came_to → TriesAt table (picture_at pictures) index actors before news after came_to
  as_lent table pictures shown index actors lent news before after came_to same_pictures same_actors tries =
      subst (λ (ps : List Picture). TriesAt table (picture_at ps) index actors before news after came_to) same_pictures
      (subst (λ (xs : List (Actor B)). TriesAt table (picture_at shown) index xs before news after came_to) same_actors tries)

  kept_unless : (table : TableId) (pictures : List Picture) (index : ℕ) (actors news : List (Actor B)) (before after : PlainOf B) (came_to : Result Stepped NoMemory)
      → All (λ actor. IsKept table (picture_at pictures) (home_of before) actor (view_of before)) actors → TriesAt table (picture_at pictures) index actors before news after came_to → is_err came_to ≡ false
      → All (λ actor. IsKept table (picture_at pictures) (home_of after) actor (view_of after)) news
  kept_unless table pictures index actors news before after (Err e) kept tries found = absurd (false≢true (sym found))
  kept_unless table pictures index actors news before after (Ok came_to) kept tries found = still_kept table (picture_at pictures) index actors news before after came_to kept tries

  -- an actor set is one after a try
  pub is_actor_set_after : (table : TableId) (pictures : List Picture) (index : ℕ) (actors news : List (Actor B)) (before after : PlainOf B) (came_to : Result Stepped NoMemory) (is_spent spent : Bool) → is_spent ≡ false → spent ≡ is_err came_to
      → IsActorSet table (record { pictures = pictures; actors = actors; desk = before; is_spent = is_spent }) → scripts_of news ≡ scripts_of actors → home_of after ≡ home_of before
      → TriesAt table (picture_at pictures) index actors before news after came_to → IsActorSet table (record { pictures = pictures; actors = news; desk = after; is_spent = spent })
  is_actor_set_after table pictures index actors news before after came_to is_spent spent unspent found is scripts home tries = record {
    rising = subst (λ (ss : List ActorScript). IsStrictlyIncreasing (numbers_of ss)) (sym scripts) is.rising;
    numbered = subst (λ (ss : List ActorScript). All (λ (script : ActorScript). 1 ≤ script.number) ss) (sym scripts) is.numbered;
    plays = subst (λ (ss : List ActorScript). All (MayPlay (home_of after) pictures) ss) (sym scripts) (subst (λ (h : DeskHome). All (MayPlay h pictures) (scripts_of actors)) (sym home) is.plays);
    kept = λ unspent_now. kept_unless table pictures index actors news before after came_to (is.kept unspent) tries (sym found ∙ unspent_now);
  }

  -- actors that were lent as a slice and came back
  pub many_same : (news actors : List (Actor B)) → scripts_of news ≡ scripts_of actors → length news ≡ length actors
  many_same news actors scripts = sym (length-map news script_of) ∙ ap length scripts ∙ length-map actors script_of

  pub written_back : (news actors : List (Actor B)) (n : ℕ) → n ≡ length actors → scripts_of news ≡ scripts_of actors → take n (news ++ drop (length news) actors) ≡ news
  written_back news actors n size scripts =
      let whole = take_front news (drop (length news) actors) in
      ap (λ m. take m (news ++ drop (length news) actors)) (size ∙ sym (many_same news actors scripts)) ∙ whole
    where
      take_front : (xs ys : List (Actor B)) → take (length xs) (xs ++ ys) ≡ xs
      take_front [] ys = refl
      take_front (x ∷ xs) ys = ap (λ (zs : List (Actor B)). x ∷ zs) (take_front xs ys)

  -- what a try of the actor set comes to
  pub whole_tries : (table : TableId) (index : ℕ) (actor_set : ActorSetOf B) (pictures : List Picture) (actors news written : List (Actor B)) (before after : PlainOf B) (is_spent : Bool) (came_to : Result Stepped NoMemory)
      → record { pictures = pictures; actors = actors; desk = before; is_spent = is_spent } ≡ actor_set → written ≡ news → TriesAt table (picture_at pictures) index actors before news after came_to → TriesAt table (picture_at actor_set.pictures) index actor_set.actors actor_set.desk written after came_to
  whole_tries table index actor_set pictures actors news written before after is_spent came_to is same tries =
      subst (λ (x : ActorSetOf B). TriesAt table (picture_at x.pictures) index x.actors x.desk written after came_to) is
      (subst (λ (xs : List (Actor B)). TriesAt table (picture_at pictures) index actors before xs after came_to) (sym same) tries)

-- Where an earlier turn at pixels has not left, an older draw is owed.
use Rattle.std.proofs.Common.{◌≡◌, ℕ, zero, suc, ◌<◌, ◌&&◌, Bool, true, List, [], ◌∷◌, map, get_or, Option, Some, None, refl, ap, sym, ◌∙◌, subst}
use Rattle.std.specs.Prelude.{Contains, option_to_list}
use Rattle.std.specs.List.{flat_map}
use Rattle.std.specs.Option.{option_map}
use Rattle.std.proofs.lemmas.Bool.{false≢true}
use Rattle.std.proofs.lemmas.List.Elements.{All-contains}
use Rattle.std.proofs.lemmas.List.Sorted.{Contains-permutation, IsPermutation-sym}
use Rattle.sf_base.specs.Fences.{Fence}
use Rattle.sf_actor_set.specs.sf_picture.declared.picture.Picture.{Picture}
use Rattle.sf_actor_set.specs.sf_surface.Tokens.{ReadLeaseOf}
use Rattle.sf_actor_set.specs.sf_turns.Counts.{IsExact}
use Rattle.sf_actor_set.specs.sf_commit.Handlers.{HandlerOf}
use Rattle.sf_actor_set.specs.sf_script_scene.Scene.{SceneValue}
use Rattle.sf_actor_set.specs.sf_actor.declared.done.Done.{Done}
use Rattle.sf_actor_set.specs.sf_actor.declared.holding.Holding.{Holding}
use Rattle.sf_actor_set.specs.sf_actor.declared.holding.Holding.TheVariants as holding
use Rattle.sf_actor_set.specs.sf_actor.Desks.{DeskHome, DeskView}
use Rattle.sf_actor_set.specs.sf_actor.Makers.{Run, is_older}
use Rattle.sf_actor_set.specs.sf_actor.Names.{Holdings, Token, is_owing}
use Rattle.sf_actor_set.specs.sf_actor.Holdings.{token_of, turn_held}
use Rattle.sf_actor_set.specs.sf_actor.Points.{undrawn_fence}
use Rattle.sf_actor_set.specs.sf_actor.Rights.{Turn}
use Rattle.sf_actor_set.specs.sf_actor.Scripts.{picture_at}
use Rattle.sf_actor_set.specs.sf_actor.Traces.{past_after}
use Rattle.sf_actor_set.specs.sf_actor.Tries.{ActorOf, Keeps}
use Rattle.law_played.proofs.ArrivedFrames.{any_passes}
use Rattle.law_played.proofs.Members.{has_filter, has_first, has_here, has_joined, has_later, has_map}
use Rattle.law_played.proofs.RunTraces.{trace_here}
use Rattle.law_played.specs.Actors.{AreActors, run_of, script_of}
use Rattle.law_played.specs.Stopping.{TellsOlder}
use Rattle.law_played.specs.Stuck.{holdings_at_end, owings_left, owings_of}
use Rattle.law_played.specs.Turns.{maker_at}
use Rattle.law_rights.proofs.WaitingDraws.{short_owed}
use Rattle.law_rights.specs.Actors.{AreOver}
use Rattle.law_rights.specs.Older.{IsHeld, MakersTell}
use Rattle.law_rights.specs.Owed.{MayDraw}
use Rattle.law_rights.specs.Standing.{LedgerStands}

-- what a place of names holds
pub get_there : {X : Type 0} (xs : List (Option X)) (n : ℕ) (x : X) → get_or xs n None ≡ Some x → Contains xs (Some x)
get_there [] n x e = absurd (cc (e))
get_there (y ∷ ys) zero x e = has_first y (Some x) ys e
get_there (y ∷ ys) (suc n) x e = has_later y (Some x) ys (get_there ys n x e)

both_hold : (a b : Bool) → a ≡ true → b ≡ true → (a && b) ≡ true
both_hold a b e f = rw (e, f) refl

module _ {B : Type 0} where
  may_draw : (held : Holding B) (fence : Fence) → undrawn_fence (Some (token_of held)) ≡ Some fence → MayDraw held
  may_draw (holding.Lends lease) fence e = tt
  may_draw (holding.Owes owing held) fence e = tt
  may_draw (holding.Reads lease) fence e = absurd (cc (e))
  may_draw (holding.Frees queue loose) fence e = absurd (cc (e))

  module _ (pictures : ℕ → Picture) (buffers : ℕ) (home : DeskHome) (before : DeskView B) (ofs : List (ActorOf B)) (handler : HandlerOf ReadLeaseOf) (stands : LedgerStands buffers home before ofs handler)
      (over : AreOver pictures home before ofs) (exact : IsExact buffers before.turns.leaves before.turns.seen) where
    module _ (scene : SceneValue) (now : DeskHome) (after : DeskView B) (actors : AreActors scene ofs now after) (makers : MakersTell (maker_at scene (run_of ofs now after)) ofs) where
      abbrev run : Run
      run = run_of ofs now after

      -- what a name owes is owed at the end
      owing_left : (held : Holding B) → IsHeld ofs held → is_owing (Some (token_of held)) ≡ true → Contains (owings_left scene run) (token_of held)
      owing_left held is owes =
          let traced : run.trace is.of.script.number ≡ is.of.trace = trace_here ofs is.of actors.apart is.there in
          let keeps = All-contains (λ (of : ActorOf B). Keeps (picture_at scene.pictures) now of after) ofs is.of actors.keep is.there in
          let names : map (option_map token_of) is.of.parts.names ≡ (holdings_at_end run is.of.script).names =
          ap (λ (h : Holdings). h.names) keeps.kept.has ∙ ap (λ (t : List Done). (past_after t).holdings.names) (sym traced) in
          let has = subst (λ (xs : List (Option Token)). Contains xs (Some (token_of held))) names
          (has_map (option_map token_of) is.of.parts.names (Some held) is.named) in
          let own = has_filter (λ token. is_owing (Some token)) (flat_map option_to_list (holdings_at_end run is.of.script).names) (token_of held) owes
          (has_joined option_to_list (holdings_at_end run is.of.script).names (Some (token_of held)) (token_of held) has (has_here (token_of held) [])) in
          let declared = Contains-permutation (map script_of ofs) scene.actors is.of.script (IsPermutation-sym scene.actors (map script_of ofs) actors.scripts) (has_map script_of ofs is.of is.there) in
          has_joined (owings_of run) scene.actors is.of.script (token_of held) declared own

      older_is : (one other : Holding B) → IsHeld ofs one → IsHeld ofs other → is_owing (Some (token_of one)) ≡ true → (fence : Fence) → undrawn_fence (Some (token_of other)) ≡ Some fence
          → (turn_held one).0 ≡ (turn_held other).0 → (turn_held one).1 < (turn_held other).1 → is_older (maker_at scene run) (token_of one) (token_of other) ≡ true
      older_is (holding.Owes owing held) (holding.Lends lease) is there owes fence e buffer less = makers.same (holding.Owes owing held) (holding.Lends lease) is there refl tt buffer
      older_is (holding.Owes owing held) (holding.Owes second kept) is there owes fence e buffer less =
          both_hold _ _ (makers.same (holding.Owes owing held) (holding.Owes second kept) is there refl tt buffer) (makers.order (holding.Owes owing held) (holding.Owes second kept) is there refl refl buffer less)
      older_is (holding.Owes owing held) (holding.Reads lease) is there owes fence e buffer less = absurd (cc (e))
      older_is (holding.Owes owing held) (holding.Frees queue loose) is there owes fence e buffer less = absurd (cc (e))
      older_is (holding.Lends lease) other is there owes fence e buffer less = absurd (false≢true owes)
      older_is (holding.Reads lease) other is there owes fence e buffer less = absurd (false≢true owes)
      older_is (holding.Frees queue loose) other is there owes fence e buffer less = absurd (false≢true owes)

      -- an earlier turn that has not left tells of an older draw that is owed
      pub tells_older : before.turns.is_first ≡ true → before.turns.out ≡ 0 → (of : ActorOf B) → Contains ofs of → TellsOlder scene run of before after
      tells_older first alone of there = record {
        owed = λ name held fence here undrawn short.
            let named = get_there of.parts.names name held here in
            let found = short_owed pictures buffers home before ofs handler stands over of held after.turns there named (may_draw held fence undrawn) first alone exact short in
            let one : Holding B = holding.Owes found.owed.owing found.owed.held in
            let is : IsHeld ofs one = record { of = found.owed.of; there = found.owed.there; named = found.owed.named } in
            any_passes (λ owing. is_older (maker_at scene run) owing (token_of held)) (owings_left scene run) (token_of one) (owing_left one is refl)
            (older_is one held is (record { of = of; there = there; named = named }) refl fence undrawn (ap (λ (t : Turn). t.0) found.owed.owes)
            (subst (λ (n : ℕ). n < (turn_held held).1) (sym (ap (λ (t : Turn). t.1) found.owed.owes)) found.earlier));
      }

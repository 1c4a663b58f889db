-- What a draw comes to: in a lent buffer, or of what is owed.
use Rattle.std.proofs.Common.{◌≡◌, ℕ, ◌+◌, ◌<◌, List, [], ◌∷◌, ◌++◌, length, set, inl, inr, arith, ap, ◌∙◌, sym, refl, subst, Option, Some, None}
use Rattle.std.specs.Prelude.{get_or, true}
use Rattle.std.specs.Option.{option_map}
use Rattle.std.proofs.lemmas.List.{append-nil, length-append, set-get_or, set-set}
use Rattle.sf_base.specs.Fences.{Fence, IsSignalled}
use Rattle.sf_base.specs.Points.{points_from}
use Rattle.sf_base.specs.declared.fences.Seen.{Seen}
use Rattle.sf_actor.specs.sf_picture.declared.picture.Picture.{Picture}
use Rattle.sf_actor.specs.sf_script_scene.declared.step.Step.TheVariants as step
use Rattle.sf_actor.specs.sf_slots.declared.slot.Held.{Held}
use Rattle.sf_actor.specs.sf_surface.declared.work.Work.{Work}
use Rattle.sf_actor.specs.sf_surface.declared.work.Work.TheVariants as work
use Rattle.sf_actor.specs.sf_surface.Calls.{write_token}
use Rattle.sf_actor.specs.sf_surface.Drawing.{Enters, IsShort, MayEnter, MustWait, Passes, drawn_with}
use Rattle.sf_actor.specs.sf_surface.Drawing.{Waits as WaitsIn}
use Rattle.sf_actor.specs.sf_surface.Tokens.{OwingOf, WriteLeaseOf, turn_of}
use Rattle.sf_actor.specs.sf_turns.Views.{SeatView}
use Rattle.sf_actor.specs.declared.done.Answered.TheVariants as answered
use Rattle.sf_actor.specs.declared.done.Done.{Done}
use Rattle.sf_actor.specs.declared.holding.Holding.{Holding}
use Rattle.sf_actor.specs.declared.holding.Holding.TheVariants as holding
use Rattle.sf_actor.specs.Desks.{ChangesTimes, ChangesTurns, DeskHome, DeskView, has_queue, known_of, looks}
use Rattle.sf_actor.specs.Known.{GoesOn, share_of}
use Rattle.sf_actor.specs.Names.{Lent}
use Rattle.sf_actor.specs.Holdings.{HoldingsOf, drawn_picture, queue_held, token_of, turn_held}
use Rattle.sf_actor.specs.Points.{undrawn_fence, waited_fence}
use Rattle.sf_actor.specs.Tests.{refusal_of}
use Rattle.sf_actor.specs.Tries.{ActorKept, ActorOf, AreThere, DrawsHeld, DrawsIn, EntersInTurn, EarlierTurn, Open, Sees, held_in, owed_turn, past_of}
use Rattle.sf_actor.proofs.BroughtTokens.{names_told}
use Rattle.sf_actor.proofs.DrawStep.{draw_lease_keeps, draw_owing_keeps, enters_goes}
use Rattle.sf_actor.proofs.GoingOn.{keeps_on}
use Rattle.sf_actor.proofs.CallGrowth.{end_goes, goes_twice, look_goes, see_goes}
use Rattle.sf_actor.proofs.LookStep.{look_keeps, seen_reached}
use Rattle.sf_actor.proofs.NameChanges.{held_case}
use Rattle.sf_actor.proofs.NameChanges.{with_held as parts_with}
use Rattle.sf_actor_steps.specs.Actors.{parts_of}
use Rattle.sf_actor_steps.specs.Calling.{with_held}
use Rattle.sf_actor_steps.specs.inner.Coming.{Comes, IsReady, LeftWith, reply_with}
use Rattle.sf_actor_steps.specs.Drawing.{Draws, TriesDraw, filled}
use Rattle.sf_actor_steps.specs.declared.bindings.Bindings.{Bindings}
use Rattle.sf_actor_steps.specs.declared.tried.Tried.{Tried}
use Rattle.sf_actor_steps.specs.declared.tried.Tried.TheVariants as tried
use Rattle.sf_actor_steps.proofs.OwnComings.{look_counts, look_left, look_signals, no_fence, own_done}

-- the step, where it is done
abbrev drawing : ℕ → ℕ → Done
drawing name p = record { step = step.Draw name p; answered = answered.Own 0 }

enters_left : (w : Work) (fence : Fence) (seen : Seen) (old new : SeatView) → Enters w fence seen old new → new.leaves ≡ old.leaves
enters_left (work.Fresh turn) fence seen old new enters = ap (λ (turns : SeatView). turns.leaves) enters.1.1.0
enters_left (work.Drawn inside pixels) fence seen old new enters = ap (λ (turns : SeatView). turns.leaves) enters

module _ {B : Type 0} where
  -- the desk has the queue of what a name holds then
  pub there_with : (home : DeskHome) (parts : HoldingsOf B) (name : ℕ) (held : Option (Holding B)) (stock : List ℕ) → name < length parts.names → AreThere home parts → ((now : Holding B) → held ≡ Some now → has_queue home (queue_held now).0 ≡ true) → AreThere home (parts_with parts name held stock)
  there_with home parts name held stock low there fits = record {
    names = λ other now is_held. held_case parts name held stock other now low is_held (λ same here. fits now here) (λ apart was. there.names other now was);
    frames = there.frames;
  }

  -- a name is filled again
  pub filled_parts : (bindings : Bindings B) (name : ℕ) (held : Option (Holding B)) → parts_of (filled (with_held bindings name None) name held) ≡ parts_with (parts_of bindings) name held (parts_of bindings).stock
  filled_parts bindings name None = refl
  filled_parts bindings name (Some held) = ap (λ (names : List (Option (Holding B))). record (parts_of bindings) { names = names }) (set-set bindings.names name None (Some held))

  -- with what it held
  pub filled_back : (bindings : Bindings B) (name : ℕ) (held : Holding B) → get_or bindings.names name None ≡ Some held → parts_of (filled (with_held bindings name None) name (Some held)) ≡ parts_of bindings
  filled_back bindings name held there =
      filled_parts bindings name (Some held)
      ∙ ap (λ (x : Option (Holding B)). record (parts_of bindings) { names = set bindings.names name x }) (sym there)
      ∙ ap (λ (names : List (Option (Holding B))). record (parts_of bindings) { names = names }) (set-get_or bindings.names name None)

  -- what a draw leaves, which a look came before
  record Drew (home : DeskHome) (old looked new : DeskView B) (seen : Seen) : Type 0 where
    pub sees : Sees home old looked seen
    pub times : ChangesTimes old looked
    pub turns : ChangesTurns looked new

  same_turns : (home : DeskHome) (old looked new : DeskView B) (seen : Seen) → Drew home old looked new seen → looked.turns ≡ old.turns
  same_turns home old looked new seen drew = ap (λ (view : DeskView B). view.turns) drew.times

  same_times : (home : DeskHome) (old looked new : DeskView B) (seen : Seen) → Drew home old looked new seen → new.times ≡ looked.times
  same_times home old looked new seen drew = ap (λ (view : DeskView B). view.times) drew.turns

  sees_still : (home : DeskHome) (old looked new : DeskView B) (seen : Seen) → Drew home old looked new seen → Sees home old new seen
  sees_still home old looked new seen drew = record {
    all = drew.sees.all;
    shown = same_times home old looked new seen drew ∙ drew.sees.shown;
    known = drew.sees.known;
    exact = drew.sees.exact;
  }

  -- what is entered is what the name holds
  in_turn : (home : DeskHome) (actor : ActorOf B) (old new : DeskView B) (name p : ℕ) → DrawsHeld home old new (held_in actor.parts name) → EntersInTurn home actor old new (drawing name p)
  in_turn home actor old new name p draws other picture is own = subst (λ (n : ℕ). DrawsHeld home old new (held_in actor.parts n)) (one is) draws
    where
      one : step.Draw name p ≡ step.Draw other picture → name ≡ other
      one e = cc

  draws_in : (home : DeskHome) (old looked new : DeskView B) (w : Work) (fence : Fence) (seen : Seen) → Drew home old looked new seen → Enters w fence seen looked.turns new.turns → DrawsIn home old new fence w
  draws_in home old looked new (work.Fresh turn) fence seen drew enters = (
    (seen, sees_still home old looked new seen drew, enters.0),
    subst (λ (turns : SeatView). MayEnter turn.buffer turn.number turns new.turns) (same_turns home old looked new seen drew) enters.1,
  )
  draws_in home old looked new (work.Drawn inside pixels) fence seen drew enters = enters ∙ same_turns home old looked new seen drew

  lease_comes : (pictures : ℕ → Picture) (home : DeskHome) (actor : ActorOf B) (before after : Bindings B) (old looked new : DeskView B) (name p : ℕ) (seen : Seen) (lease : WriteLeaseOf) → IsReady pictures home actor before old (step.Draw name p) → refusal_of pictures (past_of actor).holdings (step.Draw name p) ≡ None → Drew home old looked new seen → get_or before.names name None ≡ Some (holding.Lends lease) → Enters lease.work lease.fence seen looked.turns new.turns → after ≡ filled (with_held before name None) name (Some (holding.Lends (drawn_with lease (pictures p)))) → Comes pictures home actor after old new (tried.Own 0)
  lease_comes pictures home actor before after old looked new name p seen lease ready unrefused drew there enters left =
      let by = actor.script.number in
      let now : Holding B = holding.Lends (drawn_with lease (pictures p)) in
      let here : held_in actor.parts name ≡ Some (holding.Lends lease) = ap (λ (parts : HoldingsOf B). held_in parts name) ready.parts ∙ there in
      let low : name < length actor.parts.names = let below = ready.playable.ranges.below in let names = ready.names in let same = ap (λ (parts : HoldingsOf B). length parts.names) ready.parts in omega (arith, below, names, same) in
      let parts = parts_with actor.parts name (Some now) actor.parts.stock in
      own_done pictures home actor after old new (drawing name p) parts (reply_with by (length actor.trace + 1) 0 []) refl
      (record {
        signals = ap (λ (view : DeskView B). view.times.signals) drew.turns ∙ look_signals home old looked seen drew.sees ∙ sym (append-nil old.times.signals);
        ended =
            enters_left lease.work lease.fence seen looked.turns new.turns enters
            ∙ look_left old looked drew.times
            ∙ sym (append-nil old.turns.leaves)
            ∙ ap (λ (h : Option (Holding B)). old.turns.leaves ++ owed_turn h) (sym here);
        entered = in_turn home actor old new name p (subst (DrawsHeld home old new) (sym here) (draws_in home old looked new lease.work lease.fence seen drew enters));
        refused = no_fence pictures home actor old new (drawing name p) refl;
        alone = λ exact other apart.
            goes_twice other (known_of home old) (known_of home looked) (known_of home new)
            (see_goes other home old looked (points_from 1 seen.values) drew.times drew.sees.shown)
            (enters_goes other home looked new lease.work lease.fence seen drew.turns enters);
        has =
            ap parts_of left
            ∙ filled_parts before name (Some now)
            ∙ ap (λ (of : HoldingsOf B). parts_with of name (Some now) of.stock) (sym ready.parts);
        kept = draw_lease_keeps pictures actor name p lease home looked new seen ready.is_next (look_keeps pictures actor home old looked seen drew.times drew.sees ready.keeps.kept) unrefused ready.pictured here low
            (λ shown. seen_reached home old looked seen lease.fence drew.sees shown) drew.turns enters;
        there = there_with home actor.parts name (Some now) actor.parts.stock low ready.keeps.there
            (λ held e. subst (λ (h : Holding B). has_queue home (queue_held h).0 ≡ true) (one held e) (ready.keeps.there.names name (holding.Lends lease) here));
      })
    where
      one : (held : Holding B) → Some (holding.Lends (drawn_with lease (pictures p))) ≡ Some held → holding.Lends (drawn_with lease (pictures p)) ≡ held
      one held e = cc

  owing_comes : (pictures : ℕ → Picture) (home : DeskHome) (actor : ActorOf B) (before after : Bindings B) (old looked new : DeskView B) (name p : ℕ) (seen : Seen) (owing : OwingOf) (held : Held) → IsReady pictures home actor before old (step.Draw name p) → refusal_of pictures (past_of actor).holdings (step.Draw name p) ≡ None → Drew home old looked new seen → get_or before.names name None ≡ Some (holding.Owes owing held) → IsSignalled owing.fence seen → Passes owing.turn.buffer owing.turn.number looked.turns new.turns → after ≡ filled (with_held before name None) name None → Comes pictures home actor after old new (tried.Own 0)
  owing_comes pictures home actor before after old looked new name p seen owing held ready unrefused drew there signalled passes left =
      let by = actor.script.number in
      let here : held_in actor.parts name ≡ Some (holding.Owes owing held) = ap (λ (parts : HoldingsOf B). held_in parts name) ready.parts ∙ there in
      let low : name < length actor.parts.names = let below = ready.playable.ranges.below in let names = ready.names in let same = ap (λ (parts : HoldingsOf B). length parts.names) ready.parts in omega (arith, below, names, same) in
      let inside : DeskView B = record looked { turns = passes.0 } in
      let turns = same_turns home old looked new seen drew in
      let parts = parts_with actor.parts name None actor.parts.stock in
      own_done pictures home actor after old new (drawing name p) parts (reply_with by (length actor.trace + 1) 0 []) refl
      (record {
        signals = ap (λ (view : DeskView B). view.times.signals) drew.turns ∙ look_signals home old looked seen drew.sees ∙ sym (append-nil old.times.signals);
        ended =
            ap (λ (seats : SeatView). seats.leaves) passes.2.1
            ∙ ap (λ (seats : SeatView). seats.leaves ++ (owing.turn.buffer, owing.turn.number) ∷ []) passes.1.1.0
            ∙ ap (λ (seats : SeatView). seats.leaves ++ (owing.turn.buffer, owing.turn.number) ∷ []) turns
            ∙ ap (λ (h : Option (Holding B)). old.turns.leaves ++ owed_turn h) (sym here);
        entered = in_turn home actor old new name p (subst (DrawsHeld home old new) (sym here)
            ((seen, sees_still home old looked new seen drew, signalled), subst (λ (seats : SeatView). Passes owing.turn.buffer owing.turn.number seats new.turns) turns passes));
        refused = no_fence pictures home actor old new (drawing name p) refl;
        alone = λ exact other apart.
            goes_twice other (known_of home old) (known_of home looked) (known_of home new)
            (see_goes other home old looked (points_from 1 seen.values) drew.times drew.sees.shown)
            (goes_twice other (known_of home looked) (known_of home inside) (known_of home new)
            (look_goes other home looked inside owing.turn.buffer passes.1.0 refl passes.1.1)
            (end_goes other home inside new owing.turn.buffer owing.turn.number drew.turns passes.2));
        has =
            ap parts_of left
            ∙ filled_parts before name None
            ∙ ap (λ (of : HoldingsOf B). parts_with of name None of.stock) (sym ready.parts);
        kept = draw_owing_keeps pictures actor name p owing held home looked new ready.is_next (look_keeps pictures actor home old looked seen drew.times drew.sees ready.keeps.kept) unrefused here low
            (seen_reached home old looked seen owing.fence drew.sees signalled) drew.turns passes;
        there = there_with home actor.parts name None actor.parts.stock low ready.keeps.there (λ now e. absurd (none_some now e));
      })
    where
      none_some : (now : Holding B) → None ≡ Some now → ⊥
      none_some now e = cc

  -- a draw that is not done: its fence is open, or an earlier turn has not left
  not_drawn : (pictures : ℕ → Picture) (home : DeskHome) (actor : ActorOf B) (before after : Bindings B) (old looked new : DeskView B) (name p : ℕ) (seen : Seen) (held : Holding B) (fence : Fence) → IsReady pictures home actor before old (step.Draw name p) → refusal_of pictures (past_of actor).holdings (step.Draw name p) ≡ None → Drew home old looked new seen → get_or before.names name None ≡ Some held → undrawn_fence (Some (token_of held)) ≡ Some fence → MustWait fence seen (turn_held held).0 (turn_held held).1 looked.turns new.turns → after ≡ filled (with_held before name None) name (Some held) → LeftWith pictures home actor after old new
  not_drawn pictures home actor before after old looked new name p seen held fence ready unrefused drew there undrawn waits left =
      let here : held_in actor.parts name ≡ Some held = ap (λ (parts : HoldingsOf B). held_in parts name) ready.parts ∙ there in
      let fenced : waited_fence (past_of actor).holdings (step.Draw name p) ≡ Some fence =
      ap undrawn_fence (names_told pictures actor (share_of actor.script.number (known_of home old)) name ready.keeps.kept ∙ ap (option_map token_of) here) ∙ undrawn in
      let turns = same_turns home old looked new seen drew in
      let kept = look_keeps pictures actor home old looked seen drew.times drew.sees ready.keeps.kept in
      let times = same_times home old looked new seen drew in
      let sees = sees_still home old looked new seen drew in
      let has = ap parts_of left ∙ filled_back before name held there ∙ sym ready.parts in
      let signals = look_signals home old new seen sees in
      elim waits [
        | inl is_open ↦
            let same : new ≡ looked = drew.turns ∙ ap (λ (seats : SeatView). record looked { turns = seats }) is_open.1 in
            record {
              leaves = record {
                next = step.Draw name p;
                step = ready.is_next;
                unrefused = unrefused;
                why = Open fence fenced (seen, sees, is_open.0) (is_open.1 ∙ turns);
                same = refl;
                signals = signals;
                left = ap (λ (seats : SeatView). seats.leaves) (is_open.1 ∙ turns);
                looked = λ not. subst (λ (view : DeskView B). looks old < looks view) (sym same) (look_counts home old looked seen drew.times drew.sees);
                calls = λ exact queue. ap (λ (view : DeskView B). view.calls queue) (same ∙ drew.times);
                arrivals = ap (λ (view : DeskView B). view.arrivals) (same ∙ drew.times);
                alone = λ exact other. subst (λ (view : DeskView B). GoesOn other (known_of home old) (known_of home view)) (sym same) (see_goes other home old looked (points_from 1 seen.values) drew.times drew.sees.shown);
              };
              parts = has;
              keeps = record {
                kept = subst (λ (view : DeskView B). ActorKept pictures actor (share_of actor.script.number (known_of home view))) (sym same) kept;
                there = ready.keeps.there;
              };
            }
        | inr short ↦
            let counted : GoesOn actor.script.number (known_of home looked) (known_of home new) = look_goes actor.script.number home looked new (turn_held held).0 short.1.0 drew.turns short.1.1 in
            let seats = short.1.1.0 in
            record {
              leaves = record {
                next = step.Draw name p;
                step = ready.is_next;
                unrefused = unrefused;
                why = EarlierTurn name p held fence refl here fenced (seen, sees, short.0) (subst (λ (s : SeatView). IsShort (turn_held held).0 (turn_held held).1 s new.turns) turns short.1);
                same = refl;
                signals = signals;
                left = ap (λ (s : SeatView). s.leaves) seats ∙ ap (λ (s : SeatView). s.leaves) turns;
                looked = λ not.
                    let before_it = look_counts home old looked seen drew.times drew.sees in
                    let same_shown = ap (λ (view : DeskView B). length view.times.shown) drew.turns in
                    let same_locked = ap (λ (view : DeskView B). view.locked) drew.turns in
                    let more = ap (λ (s : SeatView). length s.seen) seats in
                    let longer = length-append looked.turns.seen (((turn_held held).0, short.1.0) ∷ []) in
                    omega (arith, before_it, same_shown, same_locked, more, longer);
                calls = λ exact queue. ap (λ (view : DeskView B). view.calls queue) drew.turns ∙ ap (λ (view : DeskView B). view.calls queue) drew.times;
                arrivals = ap (λ (view : DeskView B). view.arrivals) drew.turns ∙ ap (λ (view : DeskView B). view.arrivals) drew.times;
                alone = λ exact other.
                    goes_twice other (known_of home old) (known_of home looked) (known_of home new)
                    (see_goes other home old looked (points_from 1 seen.values) drew.times drew.sees.shown)
                    (look_goes other home looked new (turn_held held).0 short.1.0 drew.turns short.1.1);
              };
              parts = has;
              keeps = record { kept = keeps_on pictures actor (known_of home looked) (known_of home new) counted kept; there = ready.keeps.there };
            }
      ]

  lease_waits : (pictures : ℕ → Picture) (home : DeskHome) (actor : ActorOf B) (before after : Bindings B) (old looked new : DeskView B) (name p : ℕ) (seen : Seen) (lease : WriteLeaseOf) (w : Work) → lease.work ≡ w → IsReady pictures home actor before old (step.Draw name p) → refusal_of pictures (past_of actor).holdings (step.Draw name p) ≡ None → Drew home old looked new seen → get_or before.names name None ≡ Some (holding.Lends lease) → WaitsIn w lease.fence seen looked.turns new.turns → after ≡ filled (with_held before name None) name (Some (holding.Lends lease)) → LeftWith pictures home actor after old new
  lease_waits pictures home actor before after old looked new name p seen lease (work.Fresh turn) is ready unrefused drew there waits left =
      not_drawn pictures home actor before after old looked new name p seen (holding.Lends lease) lease.fence ready unrefused drew there
      (ap (λ (of : Work). undrawn_fence (Some (Lent lease.queue (write_token lease.queue lease) (drawn_picture of)))) is)
      (subst (λ (of : Work). MustWait lease.fence seen (turn_of of).buffer (turn_of of).number looked.turns new.turns) (sym is) waits) left
  lease_waits pictures home actor before after old looked new name p seen lease (work.Drawn inside pixels) is ready unrefused drew there waits left = absurd waits

  -- a draw, by what the name holds
  held_comes : (pictures : ℕ → Picture) (home : DeskHome) (actor : ActorOf B) (before after : Bindings B) (old looked new : DeskView B) (name p : ℕ) (seen : Seen) (held : Holding B) (came_to : Tried) → IsReady pictures home actor before old (step.Draw name p) → refusal_of pictures (past_of actor).holdings (step.Draw name p) ≡ None → Drew home old looked new seen → get_or before.names name None ≡ Some held → TriesDraw name (pictures p) seen held (with_held before name None) after looked new came_to → Comes pictures home actor after old new came_to
  held_comes pictures home actor before after old looked new name p seen (holding.Lends lease) (tried.Own status) ready unrefused drew there tries =
      let draws = tries.2.1 in
      let left = tries.3 ∙ ap (filled (with_held before name None) name) (tries.2.2 ∙ ap (λ (given : WriteLeaseOf). Some (holding.Lends given)) draws.1) in
      subst (λ (s : ℕ). Comes pictures home actor after old new (tried.Own s)) (sym tries.0)
      (lease_comes pictures home actor before after old looked new name p seen lease ready unrefused drew there draws.2 left)
  held_comes pictures home actor before after old looked new name p seen (holding.Owes owing held) (tried.Own status) ready unrefused drew there tries =
      let pays = tries.2.0 in
      subst (λ (s : ℕ). Comes pictures home actor after old new (tried.Own s)) (sym tries.0)
      (owing_comes pictures home actor before after old looked new name p seen owing held ready unrefused drew there pays.1 pays.2 (tries.3 ∙ ap (filled (with_held before name None) name) tries.2.1))
  held_comes pictures home actor before after old looked new name p seen (holding.Reads lease) (tried.Own status) ready unrefused drew there tries = absurd tries.2
  held_comes pictures home actor before after old looked new name p seen (holding.Frees queue loose) (tried.Own status) ready unrefused drew there tries = absurd tries.2
  held_comes pictures home actor before after old looked new name p seen (holding.Lends lease) tried.NotYet ready unrefused drew there tries =
      lease_waits pictures home actor before after old looked new name p seen lease lease.work refl ready unrefused drew there tries.0.2 tries.1
  held_comes pictures home actor before after old looked new name p seen (holding.Owes owing held) tried.NotYet ready unrefused drew there tries =
      not_drawn pictures home actor before after old looked new name p seen (holding.Owes owing held) owing.fence ready unrefused drew there refl tries.0.2 tries.1
  held_comes pictures home actor before after old looked new name p seen (holding.Reads lease) tried.NotYet ready unrefused drew there tries = absurd tries.0
  held_comes pictures home actor before after old looked new name p seen (holding.Frees queue loose) tried.NotYet ready unrefused drew there tries = absurd tries.0
  held_comes pictures home actor before after old looked new name p seen held (tried.Called status values) ready unrefused drew there tries = absurd tries
  held_comes pictures home actor before after old looked new name p seen held (tried.Sent number) ready unrefused drew there tries = absurd tries

  pub draw_comes : (pictures : ℕ → Picture) (home : DeskHome) (actor : ActorOf B) (before after : Bindings B) (old new : DeskView B) (name p : ℕ) (came_to : Tried) → IsReady pictures home actor before old (step.Draw name p) → refusal_of pictures (past_of actor).holdings (step.Draw name p) ≡ None → Draws home name (pictures p) before after old new came_to → Comes pictures home actor after old new came_to
  draw_comes pictures home actor before after old new name p came_to ready unrefused draws =
      held_comes pictures home actor before after old draws.looked new name p draws.seen draws.held came_to ready unrefused
      (record { sees = draws.sees; times = draws.times; turns = draws.turns }) draws.there draws.tries

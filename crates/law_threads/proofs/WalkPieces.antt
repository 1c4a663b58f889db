-- The walk of an actor, piece by piece.
use Rattle.std.proofs.Common.{◌≡◌, ℕ, suc, ◌+◌, ◌<◌, ◌≤◌, ◌==◌, true, false, List, [], ◌∷◌, ◌++◌, arith, ap, ◌∙◌, sym, refl, subst, length, Some}
use Rattle.std.specs.Prelude.{Contains, slice_get}
use Rattle.std.specs.List.{list_any}
use Rattle.std.proofs.lemmas.List.{append-nil, append_assoc, length-append}
use Rattle.atomic_table.specs.Seated.{TableId}
use Rattle.law_draws.specs.sf_calls.Histories.{IsLegal}
use Rattle.sf_script_scene.specs.sf_picture.declared.picture.Picture.{Picture}
use Rattle.sf_script_scene.specs.Ranges.{IsStep}
use Rattle.sf_script_scene.specs.declared.step.ActorScript.{ActorScript}
use Rattle.sf_script_scene.specs.declared.step.Step.{Step}
use Rattle.law_draws.specs.sf_surface.declared.mark.QueueMark.{QueueMark}
use Rattle.law_draws.specs.sf_surface.Histories.{Answers, Made, told_reply}
use Rattle.law_draws.specs.sf_token.Arrivals.{sent}
use Rattle.law_draws.specs.sf_token.Pending.{Arrival}
use Rattle.law_draws.specs.sf_actor.declared.done.Done.{Done}
use Rattle.law_draws.specs.sf_actor.declared.tried.Stepped.{Stepped}
use Rattle.law_draws.specs.sf_actor.declared.tried.Stepped.TheVariants as stepped
use Rattle.law_draws.specs.sf_actor.Desks.{DeskHome, DeskView, mark_among}
use Rattle.law_draws.specs.sf_actor.Known.{call_after, own_calls}
use Rattle.law_draws.specs.sf_actor.Tries.{ActorOf, Keeps, Tries, next_step}
use Rattle.law_draws.specs.sf_actor_steps.Actors.{Acts, IsActor}
use Rattle.sf_live_compositor.specs.sf_live_seats.declared.locks.Locks.{Locks}
use Rattle.sf_live_compositor.specs.sf_live_seats.declared.seats.Seats.{Seats}
use Rattle.sf_live_compositor.specs.sf_live_seats.Seats.{home_of, marks_of, view_of}
use Rattle.sf_live_compositor.specs.sf_live_threads.Walks.{IsSound, IsTry, Moment, Walk}
use Rattle.sf_live_compositor.specs.sf_live_threads.Walks.Walk.{Begin, More}
use Rattle.law_draws.specs.law_rights.States.{AreApart, State}
use Rattle.law_draws.proofs.law_rights_lemmas.QueueCounts.{mark_only}
use Rattle.law_draws.proofs.law_rights_lemmas.StepLedger.{got_has, next_done}
use Rattle.law_threads.specs.Cuts.{Event, Local, MakesAt, Whole}
use Rattle.law_threads.specs.Lifts.{Comes, LearnsOnly, local_of}
use Rattle.law_draws.specs.sf_actor_steps.declared.bindings.Bindings.{Bindings}
use Rattle.law_draws.specs.sf_actor_steps.declared.tried.Tried.{Tried}
use Rattle.law_threads.proofs.ReturnedFrames.{legal_front}
use Rattle.law_draws.specs.sf_actor.Rights.{MadeWith, made_with}
use Rattle.law_draws.specs.sf_surface.Hands.{permit_of}
use Rattle.law_draws.specs.law_rights.Calls.{made_of}
use Rattle.law_threads.proofs.TryEvents.{goes_same}
use Rattle.law_threads.specs.Orders.{Spot}
use Rattle.law_threads.specs.Tries.{DoesTry}
use Rattle.law_threads.proofs.Arrivals.{own_joined, sent_own}
use Rattle.law_threads.proofs.CallCounts.{Found, IsAt, find_mine, mine_there, same_at_place}
use Rattle.law_threads.proofs.CallCounts.Found.{Nothing, One}
use Rattle.law_threads.proofs.Lines.{AnyPiece, IsFresh, Post, Rest, end_rest, same_rest, with_any}
use Rattle.law_threads.proofs.Pieces.{SendsArrive, known_in, learns_known, piece_of, post_of}
use Rattle.law_threads.proofs.WalkBlocks.{Front, attempts_front, comes_arrivals, comes_front, front_on, made_it, own_there, same_learns}
use Rattle.law_threads.specs.Members.{mine, total_in}

module _ {B : Type 0} (table : TableId) (pictures : ℕ → Picture) (locks : Locks B) where
  -- what is kept over a desk is kept over that of other seats of the same caller
  keeps_there : (of : ActorOf B) (old new : Seats B) (view : DeskView B) → new.by ≡ old.by → Keeps pictures (home_of locks old) of view → Keeps pictures (home_of locks new) of view
  keeps_there of old new view same keeps = subst (λ (n : ℕ). Keeps pictures (record (home_of locks old) { serves = λ by. by == n }) of view) (sym same) keeps

  -- what is known of a moment stays known
  pub try_sound : (before after : Moment B) → IsTry table pictures locks before after → IsSound table pictures locks after
  try_sound before after one = record {
    is = subst (λ (of : ActorOf B). IsActor table after.actor of) one.is one.steps.is;
    keeps = keeps_there after.of before.seats after.seats (view_of after.seats) one.caller (subst (λ (of : ActorOf B). Keeps pictures (home_of locks before.seats) of (view_of after.seats)) one.is one.steps.keeps);
  }

  pub walk_sound : {start end : Moment B} → Walk table pictures locks start end → IsSound table pictures locks start → IsSound table pictures locks end
  walk_sound Begin sound = sound
  walk_sound (More {before} {after} walk one) sound = try_sound before after one

  -- the script and the stock stay
  tries_same : (home : DeskHome) (was is : ActorOf B) (old new : DeskView B) (st : Stepped) → Tries pictures home was old is new st → (is.script ≡ was.script) × (is.stock ≡ was.stock)
  tries_same home was is old new stepped.Done tries = (ap (λ (a : ActorOf B). a.script) tries.1.same, ap (λ (a : ActorOf B). a.stock) tries.1.same)
  tries_same home was is old new stepped.NotYet tries = (ap (λ (a : ActorOf B). a.script) tries.same, ap (λ (a : ActorOf B). a.stock) tries.same)
  tries_same home was is old new stepped.Ended tries = (ap (λ (a : ActorOf B). a.script) tries.0, ap (λ (a : ActorOf B). a.stock) tries.0)

  pub try_same : (before after : Moment B) → IsTry table pictures locks before after → (after.of.script ≡ before.of.script) × (after.of.stock ≡ before.of.stock)
  try_same before after one =
      let same = tries_same (home_of locks before.seats) before.of one.steps.new (view_of before.seats) (view_of after.seats) one.stepped one.steps.tries in (
        ap (λ (a : ActorOf B). a.script) (sym one.is) ∙ same.0,
        ap (λ (a : ActorOf B). a.stock) (sym one.is) ∙ same.1,
      )

  pub walk_same : {start end : Moment B} → Walk table pictures locks start end → (end.of.script ≡ start.of.script) × (end.of.stock ≡ start.of.stock)
  walk_same Begin = (refl, refl)
  walk_same (More {before} {after} walk one) = let rest = walk_same walk in let same = try_same before after one in (same.0 ∙ rest.0, same.1 ∙ rest.1)

  -- the caller stays along a walk
  pub walk_by : {start end : Moment B} → Walk table pictures locks start end → end.seats.by ≡ start.seats.by
  walk_by Begin = refl
  walk_by (More {before} {after} walk one) = one.caller ∙ walk_by walk

module _ {B : Type 0} (whole : Whole B) (table : TableId) (pictures : ℕ → Picture) (locks : Locks B) (marks : whole.marks ≡ marks_of locks) (apart : AreApart (marks_of locks))
    (absent : (queue : ℕ) → list_any (λ (mark : QueueMark). mark.queue.0 == queue) (marks_of locks) ≡ false → whole.view.calls queue ≡ [])
    (legal : (queue : ℕ) → IsLegal (Answers (mark_among (marks_of locks) queue)) (whole.view.calls queue)) (Holds : State B → Type 0)
    (lifted : (home : DeskHome) → home.marks ≡ marks_of locks → (was is : ActorOf B) (before after : Bindings B) (old new : DeskView B) → ((queue : ℕ) → Front (new.calls queue) (whole.view.calls queue))
    → (s : Step) (came_to : Tried) → DoesTry pictures home was is s before after old new came_to → Comes whole Holds before.by.0 was is old new)
    (by : ℕ) (stock : List ℕ) (script : ActorScript) (numbered : script.number ≡ by) (ranges : (s : Step) → Contains script.steps s → IsStep s)
    (owner : (number queue place : ℕ) → Contains stock number → (makes : MakesAt whole number queue place) → makes.made.by ≡ by)
    (stamp : Spot → ℕ) (At : Spot → ℕ → Type 0) (order : (here there : Spot) (n m : ℕ) → At here n → At there m → n < m → stamp here ≤ stamp there)
    (told : (queue : ℕ) (made : Made B) (earlier : List (Made B)) → IsAt (whole.view.calls queue) (length earlier) made earlier → made.by ≡ by → At (suc queue, length earlier) made.call.0)
    (arrive_all : SendsArrive whole Holds by stamp At) where
  abbrev pub total : Spot → ℕ
  total here = total_in whole by here.0 here.1

  -- what was known is a front of what was called in the whole run; and of what it sent, wherever that arrived
  pub record IsFront (view : DeskView B) : Type 0 where
    pub calls : (queue : ℕ) → Front (view.calls queue) (whole.view.calls queue)
    pub later : List (Arrival _)
    pub arrives : sent_own by (sent whole.arriving) ≡ sent_own by view.arrivals ++ later

  -- the actor is the one of this script and stock
  pub record IsIt (moment : Moment B) : Type 0 where
    pub script_is : moment.of.script ≡ script
    pub stock_is : moment.of.stock ≡ stock

  abbrev post : Moment B → Post B
  post moment = post_of whole by moment.of (view_of moment.seats)

  number_is : (moment : Moment B) → IsIt moment → moment.of.script.number ≡ by
  number_is moment it = ap (λ (s : ActorScript). s.number) it.script_is ∙ numbered

  -- the permits that it has left made nothing that was known
  fresh : (moment : Moment B) → IsSound table pictures locks moment → IsIt moment → IsFront (view_of moment.seats) → IsFresh whole Holds total stamp At order (post moment)
  fresh moment sound it front = record { unused = unused; own = own }
    where
      left_there : (number : ℕ) → Contains (moment.of.parts.stock ++ []) number → Contains moment.of.parts.stock number
      left_there number there = subst (λ (xs : List ℕ). Contains xs number) (append-nil moment.of.parts.stock) there

      own_by : (number queue place : ℕ) → Contains (moment.of.parts.stock ++ []) number → (makes : MakesAt whole number queue place) → makes.made.by ≡ by
      own_by number queue place there makes = owner number queue place (subst (λ (xs : List ℕ). Contains xs number) it.stock_is (sound.keeps.kept.permits.own number (left_there number there))) makes

      own : (number queue place : ℕ) → Contains (moment.of.parts.stock ++ []) number → MakesAt whole number queue place → 1 ≤ total_in whole by (suc queue) place
      own number queue place there makes = mine_there by place (whole.view.calls queue) makes.made makes.earlier (record { more = makes.later; is = makes.is; height = makes.at }) (own_by number queue place there makes)

      unused : (number queue place : ℕ) → Contains (moment.of.parts.stock ++ []) number → MakesAt whole number queue place → mine by place ((view_of moment.seats).calls queue) ≡ 0
      unused number queue place there makes = by_found (find_mine by place ((view_of moment.seats).calls queue))
        where
          by_found : Found by place ((view_of moment.seats).calls queue) → mine by place ((view_of moment.seats).calls queue) ≡ 0
          by_found (Nothing none) = none
          by_found (One e earlier at own) = absurd (sound.keeps.kept.permits.unused number queue (call_after mark earlier e) (left_there number there) own_call with_it)
            where
              same : (e ≡ makes.made) × (earlier ≡ makes.earlier)
              same = same_at_place (whole.view.calls queue) place e makes.made earlier makes.earlier (record {
                more = (front.calls queue).0 ++ at.more;
                is = (front.calls queue).1 ∙ ap (λ (xs : List (Made B)). (front.calls queue).0 ++ xs) at.is ∙ sym (append_assoc (front.calls queue).0 at.more (e ∷ earlier));
                height = at.height;
              }) (record { more = makes.later; is = makes.is; height = makes.at })

              mark : QueueMark
              mark = mark_among (marks_of locks) queue

              mark_is : makes.mark ≡ mark_among (marks_of locks) queue
              mark_is = mark_only (marks_of locks) makes.mark apart (subst (λ (ms : List QueueMark). Contains ms makes.mark) marks makes.marked) ∙ ap (mark_among (marks_of locks)) makes.on_it

              own_call : Contains (own_calls moment.of.script.number (mark_among (marks_of locks) queue) ((view_of moment.seats).calls queue)) (call_after mark earlier e)
              own_call = subst (λ (cs : List (Made B)). Contains (own_calls moment.of.script.number (mark_among (marks_of locks) queue) cs) (call_after mark earlier e)) (sym at.is)
                  (own_there moment.of.script.number (mark_among (marks_of locks) queue) at.more earlier e (own ∙ sym (number_is moment it)))

              legal_here : IsLegal (Answers (mark_among (marks_of locks) queue)) (makes.made ∷ makes.earlier)
              legal_here = legal_front (Answers (mark_among (marks_of locks) queue)) makes.later (makes.made ∷ makes.earlier)
                  (subst (IsLegal (Answers (mark_among (marks_of locks) queue))) makes.is (legal queue))

              with_it : MadeWith number (call_after mark earlier e)
              with_it = subst (λ (m : Made B). made_with (permit_of m.call.1) m.reply.spare number ≡ true) (sym same.0)
                  (made_it (mark_among (marks_of locks) queue).queue makes.made.call.1 (told_reply (mark_among (marks_of locks) queue) makes.earlier makes.made.by makes.made.call.1) makes.made.reply number legal_here.0.answer
                  (subst (λ (m : QueueMark). Contains (made_of makes.made.call.1 (told_reply m makes.earlier makes.made.by makes.made.call.1)) number) mark_is makes.makes))

  -- what is behind a moment
  abbrev Behind : Moment B → List (List (Event B)) → Local B → Type 0
  Behind moment rest last = Rest whole Holds total stamp At order (post moment) rest last

  module _ (before after : Moment B) (one : IsTry table pictures locks before after) (sound : IsSound table pictures locks before) (it : IsIt before) (front : IsFront (view_of after.seats)) where
    abbrev home : DeskHome
    home = home_of locks before.seats

    abbrev old : DeskView B
    old = view_of before.seats

    abbrev new : DeskView B
    new = view_of after.seats

    bindings_by : before.actor.bindings.by.0 ≡ by
    bindings_by = sound.is.by_it ∙ ap (λ (s : ActorScript). s.number) (sym sound.is.script) ∙ number_is before it

    -- a try that was done
    done_try : (tries : Tries pictures (home_of locks before.seats) before.of (view_of before.seats) one.steps.new (view_of after.seats) stepped.Done)
        → (Comes whole Holds by before.of one.steps.new (view_of before.seats) (view_of after.seats)) × (length one.steps.new.trace ≡ length before.of.trace + 1)
    done_try tries = (
      subst (λ (n : ℕ). Comes whole Holds n before.of one.steps.new (view_of before.seats) (view_of after.seats)) bindings_by
          (lifted (home_of locks before.seats) refl before.of one.steps.new before.actor.bindings after.actor.bindings (view_of before.seats) (view_of after.seats) front.calls tries.1.done.step acts.came_to (record {
            is_next = is_next;
            parts_was = sound.is.parts;
            parts_is = one.steps.is.parts;
            by_it = ap (λ (s : ActorScript). s.number) sound.is.script ∙ sym sound.is.by_it;
            wide = sound.is.names;
            ranges = ranges tries.1.done.step (got_has script.steps (length before.of.trace) tries.1.done.step
                (ap (λ (s : ActorScript). slice_get s.steps (length before.of.trace)) (sym it.script_is) ∙ is_next));
            keeps_was = sound.keeps;
            keeps_is = one.steps.keeps;
            reply = tries.0;
            does = tries.1;
            attempts = acts.attempts;
          })),
      ap (λ (t : List Done). length t) tries.1.trace ∙ length-append before.of.trace (tries.1.done ∷ []),
    )
      where
        is_next : next_step before.of ≡ Some tries.1.done.step
        is_next = next_done pictures (home_of locks before.seats) before.of one.steps.new (view_of before.seats) (view_of after.seats) tries.0 one.steps.keeps tries.1

        acts : Acts pictures (home_of locks before.seats) tries.1.done.step (length before.of.trace + 1) before.actor.bindings (view_of before.seats) after.actor.bindings (view_of after.seats)
        acts = one.steps.acts tries.1.done.step is_next

    record Back (rest : List (List (Event B))) (last : Local B) : Type 0 where
      more : List (List (Event B))
      behind : Behind before more last
      is_front : IsFront (view_of before.seats)

    fronts_back : ((queue : ℕ) → Front ((view_of before.seats).calls queue) ((view_of after.seats).calls queue)) → (more : List (Arrival _)) → (view_of after.seats).arrivals ≡ (view_of before.seats).arrivals ++ more → IsFront (view_of before.seats)
    fronts_back calls more arrivals = record {
      calls = λ queue. front_on ((view_of before.seats).calls queue) ((view_of after.seats).calls queue) (whole.view.calls queue) (calls queue) (front.calls queue);
      later = sent_own by more ++ front.later;
      arrives = front.arrives ∙ ap (λ xs. sent_own by xs ++ front.later) arrivals ∙ ap (λ xs. xs ++ front.later) (own_joined by (view_of before.seats).arrivals more)
          ∙ append_assoc (sent_own by (view_of before.seats).arrivals) (sent_own by more) front.later;
    }

    back_done : (tries : Tries pictures (home_of locks before.seats) before.of (view_of before.seats) one.steps.new (view_of after.seats) stepped.Done) → (rest : List (List (Event B))) (last : Local B) → Behind after rest last → Back rest last
    back_done tries rest last behind = record {
      more = with_it.0;
      behind = with_it.1;
      is_front = is_front;
    }
      where
        came : (Comes whole Holds by before.of one.steps.new (view_of before.seats) (view_of after.seats)) × (length one.steps.new.trace ≡ length before.of.trace + 1)
        came = done_try tries

        arrivals : (more : List (Arrival _)) × ((view_of after.seats).arrivals ≡ (view_of before.seats).arrivals ++ more)
        arrivals = comes_arrivals whole Holds by before.of one.steps.new (view_of before.seats) (view_of after.seats) came.0

        is_front : IsFront (view_of before.seats)
        is_front = fronts_back (comes_front whole Holds by before.of one.steps.new (view_of before.seats) (view_of after.seats) came.0) arrivals.0 arrivals.1

        piece : AnyPiece whole Holds total stamp At order (post before) (post_of whole by one.steps.new (view_of after.seats))
        piece = piece_of whole Holds by stamp At order told arrive_all before.of one.steps.new (view_of before.seats) (view_of after.seats) came.1 front.calls front.later front.arrives came.0

        behind_new : Rest whole Holds total stamp At order (post_of whole by one.steps.new (view_of after.seats)) rest last
        behind_new = subst (λ (of : ActorOf B). Rest whole Holds total stamp At order (post_of whole by of (view_of after.seats)) rest last) (sym one.is) behind

        with_it : (more : List (List (Event B))) × Behind before more last
        with_it = with_any whole Holds total stamp At order (post before) (post_of whole by one.steps.new (view_of after.seats)) piece (fresh before sound it is_front) rest last behind_new

    -- one that was not
    back_same : one.steps.new ≡ before.of → LearnsOnly by (view_of before.seats) (view_of after.seats) → (view_of after.seats).turns.leaves ≡ (view_of before.seats).turns.leaves
        → (rest : List (List (Event B))) (last : Local B) → Behind after rest last → Back rest last
    back_same same learns left rest last behind = record {
      more = rest;
      behind = same_rest whole Holds total stamp At order (post before) (post after) local_same (λ here. learns_known whole Holds by (view_of before.seats) (view_of after.seats) learns here.0 here.1) step_same rest last behind;
      is_front = fronts_back (λ queue. (learns.calls queue).begins) [] (learns.arrivals ∙ sym (append-nil (view_of before.seats).arrivals));
    }
      where
        of_same : after.of ≡ before.of
        of_same = sym one.is ∙ same

        local_same : (post before).local ≡ (post after).local
        local_same = λ i. local_of (sym of_same i) [] (sym left i)

        step_same : (post before).step ≤ (post after).step
        step_same = let e = ap (λ (of : ActorOf B). length of.trace) of_same in omega (arith, e)

    learns_by : (n : ℕ) → n ≡ by → LearnsOnly n (view_of before.seats) (view_of after.seats) → LearnsOnly by (view_of before.seats) (view_of after.seats)
    learns_by n same learns = subst (λ (m : ℕ). LearnsOnly m (view_of before.seats) (view_of after.seats)) same learns

    back_by : (st : Stepped) → Tries pictures (home_of locks before.seats) before.of (view_of before.seats) one.steps.new (view_of after.seats) st → (rest : List (List (Event B))) (last : Local B) → Behind after rest last → Back rest last
    back_by stepped.Done tries rest last behind = back_done tries rest last behind
    back_by stepped.NotYet tries rest last behind =
        let acts = one.steps.acts tries.next tries.step in
        back_same tries.same
        (learns_by before.of.script.number (number_is before it)
        (same_learns pictures (home_of locks before.seats) before.of (view_of before.seats) (view_of after.seats) sound.keeps
        (subst (λ (of : ActorOf B). Keeps pictures (home_of locks before.seats) of (view_of after.seats)) tries.same one.steps.keeps)
        (attempts_front _ pictures (home_of locks before.seats) before.actor.bindings.by.0 (length before.of.trace + 1) tries.next before.actor.bindings after.actor.bindings (view_of before.seats) (view_of after.seats) acts.came_to acts.attempts)
        tries.arrivals))
        tries.left rest last behind
    back_by stepped.Ended tries rest last behind =
        back_same tries.0
        (record {
          calls = λ queue. goes_same by ((view_of before.seats).calls queue) ((view_of after.seats).calls queue) (ap (λ (view : DeskView B). view.calls queue) tries.1);
          arrivals = ap (λ (view : DeskView B). view.arrivals) tries.1;
        })
        (ap (λ (view : DeskView B). view.turns.leaves) tries.1) rest last behind

    back_try : (rest : List (List (Event B))) (last : Local B) → Behind after rest last → Back rest last
    back_try rest last behind = back_by one.stepped one.steps.tries rest last behind

  -- all that an actor has yet to do at a moment from which it walks on
  pub record IsBehind (moment : Moment B) (last : Local B) : Type 0 where
    pub rest : List (List (Event B))
    pub behind : Rest whole Holds total stamp At order (post moment) rest last
    pub is_front : IsFront (view_of moment.seats)

  walk_behind : {start end : Moment B} → Walk table pictures locks start end → IsSound table pictures locks start → IsIt start → (last : Local B) → IsBehind end last → IsBehind start last
  walk_behind Begin sound it last behind = behind
  walk_behind {start} (More {before} {after} walk one) sound it last behind =
      walk_behind walk sound it last (record { rest = back.more; behind = back.behind; is_front = back.is_front })
    where
      it_before : IsIt before
      it_before = let same = walk_same table pictures locks walk in record { script_is = same.0 ∙ it.script_is; stock_is = same.1 ∙ it.stock_is }

      back : Back before after one (walk_sound table pictures locks walk sound) it_before behind.is_front behind.rest last
      back = back_try before after one (walk_sound table pictures locks walk sound) it_before behind.is_front behind.rest last behind.behind

  -- from its beginning it has its whole walk to do
  pub walked : (start end : Moment B) → Walk table pictures locks start end → IsSound table pictures locks start → IsIt start → IsFront (view_of end.seats)
      → ((lock place : ℕ) → known_in whole by (view_of end.seats) lock place ≡ total_in whole by lock place) → IsBehind start (post end).local
  walked start end walk sound it front known =
      let same = walk_same table pictures locks walk in
      walk_behind walk sound it (post end).local (record {
        rest = [];
        behind = end_rest whole Holds total stamp At order (post end) (fresh end (walk_sound table pictures locks walk sound) (record { script_is = same.0 ∙ it.script_is; stock_is = same.1 ∙ it.stock_is }) front) (λ here. known here.0 here.1);
        is_front = front;
      })

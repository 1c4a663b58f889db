-- Seats that go on, call by call.
use Rattle.std.proofs.Common.{◌≡◌, ℕ, ◌≤◌, ◌==◌, List, [], ◌∷◌, ◌++◌, inl, inr, arith, ap, ◌∙◌, refl, sym, subst}
use Rattle.std.proofs.lemmas.List.{append_assoc}
use Rattle.std.specs.List.{AllZip}
use Rattle.atomic_table.specs.Seated.{TableId}
use Rattle.sf_live_threads.specs.sf_commit.Releases.{ReleaseOf}
use Rattle.sf_live_threads.specs.sf_surface.Reading.{EyeMark}
use Rattle.sf_live_threads.specs.sf_surface.Tokens.{ReadLeaseOf}
use Rattle.sf_live_threads.specs.sf_turns.Views.{SeatView}
use Rattle.sf_live_threads.specs.sf_actor.Known.{AreAmong}
use Rattle.sf_play_write.specs.law_rights.Standing.{GiveAll}
use Rattle.sf_play_write.specs.sf_play.VsyncOver.{InTurn}
use Rattle.sf_live_threads.specs.sf_live_seats.declared.locks.Locks.{Locks}
use Rattle.sf_live_threads.specs.sf_live_seats.declared.seats.Seats.{Seats}
use Rattle.sf_live_threads.specs.sf_live_seats.Arriving.{ArrivalsPass}
use Rattle.sf_live_threads.specs.sf_live_seats.Moves.{MadeLater, MovesPass, Stays}
use Rattle.sf_live_threads.specs.sf_live_seats.Observers.{SeatGoesOn}
use Rattle.sf_live_threads.specs.sf_live_seats.Seats.{AreSeats, QueuePass, home_of, view_of}
use Rattle.sf_live_compositor.specs.SeatDesk.{AreFirst, GivesBack, Observes}
use Rattle.sf_live_threads.specs.sf_calls.Histories.{Begins}
use Rattle.sf_live_threads.proofs.sf_live_seats_lemmas.FirstSeatsKept.{stays_called}

begins_on : {X : Type 0} (xs ys zs : List X) → Begins xs ys → Begins ys zs → Begins xs zs
begins_on xs ys zs one two = (two.0 ++ one.0, two.1 ∙ ap (λ (l : List _). two.0 ++ l) one.1 ∙ sym (append_assoc two.0 one.0 xs))

among_more : (these those more : List (ℕ × ℕ)) → AreAmong these those → AreAmong those more → AreAmong these more
among_more these those more first second = λ p there. second p (first p there)

module _ {B : Type 0} where
  moved_on : (first second third : List (QueuePass B)) → AllZip MovesPass first second → AllZip MovesPass second third → AllZip MovesPass first third
  moved_on [] [] [] one two = tt
  moved_on [] [] (r ∷ third) one two = absurd two
  moved_on [] (q ∷ second) third one two = absurd one
  moved_on (p ∷ first) [] third one two = absurd one
  moved_on (p ∷ first) (q ∷ second) [] one two = absurd two
  moved_on (p ∷ first) (q ∷ second) (r ∷ third) one two = (
    record {
      same = two.0.same ∙ ap (λ (v : QueuePass B). record v { seen = r.seen; turns = r.turns }) one.0.same;
      begins = begins_on p.seen q.seen r.seen one.0.begins two.0.begins;
    },
    moved_on first second third one.1 two.1,
  )

  -- one after the other
  pub stays_on : (first second third : Seats B) → Stays first second → Stays second third → Stays first third
  stays_on first second third one two = record {
    number = two.number ∙ one.number;
    passes = moved_on first.queues.items second.queues.items third.queues.items one.passes two.passes;
    arrivals = two.arrivals ∙ ap (λ (v : ArrivalsPass). record v { seen = third.arrivals.seen; turns = third.arrivals.turns }) one.arrivals;
    begins = begins_on first.arrivals.seen second.arrivals.seen third.arrivals.seen one.begins two.begins;
    times = (two.times.0 ∙ one.times.0, two.times.1 ∙ one.times.1);
    known = among_more first.times.knows.known second.times.knows.known third.times.knows.known one.known two.known;
    signals = among_more first.times.knows.signals second.times.knows.signals third.times.knows.signals one.signals two.signals;
    turns = (two.turns.0 ∙ one.turns.0, two.turns.1 ∙ one.turns.1);
    leaves = among_more first.turns.leaves second.turns.leaves third.turns.leaves one.leaves two.leaves;
    seen = λ b. (let a = one.seen b in let c = two.seen b in omega (arith, a, c));
  }

  all_stay : (passes : List (QueuePass B)) → AllZip MovesPass passes passes
  all_stay [] = tt
  all_stay (p ∷ passes) = (record { same = refl; begins = ([], refl) }, all_stay passes)

  pub stays_none : (seats : Seats B) → Stays seats seats
  stays_none seats = record {
    number = refl;
    passes = all_stay seats.queues.items;
    arrivals = refl;
    begins = ([], refl);
    times = (refl, refl);
    known = λ p there. there;
    signals = λ p there. there;
    turns = (refl, refl);
    leaves = λ p there. there;
    seen = λ b. omega arith;
  }

  pub later_on : (first second third : Seats B) → MadeLater first second → first.last.stamp ≤ second.last.stamp → MadeLater second third → MadeLater first third
  later_on first second third one rises two m there = elim (two m there) [
    | inl was ↦ one m was
    | inr since ↦ inr (omega (arith, rises, since))
  ]

  -- these frames went back, for the vsync of this number
  pub record Gave (locks : Locks B) (number : ℕ) (releases : List (ReleaseOf ReadLeaseOf)) (old new : Seats B) : Type 0 where
    pub stays : Stays old new
    pub gives : GiveAll (home_of locks old) number releases (view_of old) (view_of new)
    pub later : MadeLater old new
    pub last : old.last.stamp ≤ new.last.stamp
    pub arrivals : new.arrivals ≡ old.arrivals
    pub early : old.last.step ≤ number → new.last.step ≤ number
    pub turns : new.turns ≡ old.turns

  pub gave_all : (table : TableId) (locks : Locks B) (number : ℕ) (releases : List (ReleaseOf ReadLeaseOf)) (old new : Seats B) → InTurn (GivesBack table locks number) releases old new → Gave locks number releases old new
  gave_all table locks number [] old new same =
      subst (Gave locks number [] old) (sym same) (record { stays = stays_none old; gives = refl; later = λ m there. inl there; last = omega arith; arrivals = refl; early = λ e. e; turns = refl })
  gave_all table locks number (release ∷ later) old new gives =
      let mid = gives.0 in
      let one = gives.1 in
      let rest = gave_all table locks number later mid new gives.2 in
      let on = stays_called old mid one.changes in
      record {
        stays = stays_on old mid new on rest.stays;
        gives = (view_of mid, one.gives, subst (λ (b : ℕ). GiveAll (record (home_of locks old) { serves = λ by. by == b }) number later (view_of mid) (view_of new)) on.number rest.gives);
        later = later_on old mid new one.changes.later one.changes.last rest.later;
        last = (let a = one.changes.last in let b = rest.last in omega (arith, a, b));
        arrivals = rest.arrivals ∙ ap (λ (s : Seats B). s.arrivals) one.changes.same;
        early = λ low. rest.early (let step = one.step in omega (arith, step));
        turns = rest.turns ∙ one.turns;
      }

  -- they are the caller's own still once its seat at the turns went on
  pub own_on : (table : TableId) (locks : Locks B) (seats : Seats B) (turns : SeatView) → SeatGoesOn seats.turns turns → AreSeats table locks seats → AreSeats table locks (record seats { turns = turns })
  own_on table locks seats turns goes own = record {
    queues = own.queues;
    own_arrivals = own.own_arrivals;
    marked = own.marked;
    number = own.number;
    own_times = own.own_times;
    own_turns = ap (λ (m : EyeMark). m.table) goes.mark ∙ own.own_turns;
    in_order = own.in_order;
    takes = own.takes;
    pass = own.pass;
    way = own.way;
  }

  -- they are the compositor's still once it has decided
  pub first_on : (table : TableId) (locks : Locks B) (old new : Seats B) → Observes old new → AreFirst table locks old → AreFirst table locks new
  first_on table locks old new decides first =
      subst (AreFirst table locks) (sym decides.same) (record { own = own_on table locks old new.turns decides.goes first.own; first = first.first })

-- Seats that the first ones give.
use Rattle.std.proofs.Common.{◌≡◌, ℕ, ◌+◌, false, List, [], ◌∷◌, ◌++◌, length, Some, arith, ap, ap₂, ◌∙◌, sym, refl, subst}
use Rattle.std.specs.Prelude.{map, Contains}
use Rattle.std.specs.List.{AllByRecursion, AllZip}
use Rattle.atomic_table.specs.Seated.{TableId}
use Rattle.sf_calls.specs.Histories.{calls_by}
use Rattle.sf_calls.specs.Passes.{given, giving}
use Rattle.sf_calls_stamped.specs.Stamps.{unstamped}
use Rattle.sf_times.specs.Seats.{lending, split_off}
use Rattle.sf_times.specs.Views.{SeatView as TimesView}
use Rattle.sf_intake.specs.sf_token.Arrivals.{sent}
use Rattle.sf_turns.specs.Views.{SeatView as TurnsView}
use Rattle.sf_actor.specs.Known.{AreAmong, CountsRise}
use Rattle.sf_live_seats.specs.declared.clock.Clock.{Clock}
use Rattle.sf_live_seats.specs.declared.first.FirstSeats.{FirstSeats}
use Rattle.sf_live_seats.specs.declared.locks.Locks.{Locks}
use Rattle.sf_live_seats.specs.declared.locks.QueueLock.{QueueLock}
use Rattle.sf_live_seats.specs.declared.seats.Seats.{Seats}
use Rattle.sf_live_seats.specs.Arriving.{ArrivalsPass}
use Rattle.sf_live_seats.specs.First.{Gives, HandsOut, IsFirst, IsGiven, IsTaken, KnowsNothing, Leads, TookPass, gave_of}
use Rattle.sf_live_seats.specs.Passes.{IsAt, MayGive}
use Rattle.sf_live_seats.specs.Seats.{AreSeats, IsAtIntake, IsInOrder, IsPassOf, QueuePass, arrivals_known, calls_known, calls_made, moment, moments_of, post_moment, posts_of, sent_in, takes_in}
use Rattle.sf_live_seats.proofs.IntakeArrivals.{has_here}
use Rattle.sf_live_seats.proofs.IntakeHands.{GivesAt, gives_at}

pub zip_map : {X Y Z : Type 0} (R : X → Y → Type 0) (S : X → Z → Type 0) (f : Y → Z) (xs : List X) (ys : List Y) → ((x : X) (y : Y) → R x y → S x (f y)) → AllZip R xs ys → AllZip S xs (map f ys)
zip_map R S f [] [] each all = tt
zip_map R S f [] (y ∷ ys) each all = absurd all
zip_map R S f (x ∷ xs) [] each all = absurd all
zip_map R S f (x ∷ xs) (y ∷ ys) each all = (each x y all.0, zip_map R S f xs ys each all.1)

pub zip_map_left : {X Y Z : Type 0} (R : Y → X → Type 0) (S : Z → X → Type 0) (f : Y → Z) (ys : List Y) (xs : List X) → ((y : Y) (x : X) → R y x → S (f y) x) → AllZip R ys xs → AllZip S (map f ys) xs
zip_map_left R S f [] [] each all = tt
zip_map_left R S f (y ∷ ys) [] each all = absurd all
zip_map_left R S f [] (x ∷ xs) each all = absurd all
zip_map_left R S f (y ∷ ys) (x ∷ xs) each all = (each y x all.0, zip_map_left R S f ys xs each all.1)

pub zip_weaker : {X Y : Type 0} (R S : X → Y → Type 0) (xs : List X) (ys : List Y) → ((x : X) (y : Y) → R x y → S x y) → AllZip R xs ys → AllZip S xs ys
zip_weaker R S [] [] each all = tt
zip_weaker R S (x ∷ xs) [] each all = absurd all
zip_weaker R S [] (y ∷ ys) each all = absurd all
zip_weaker R S (x ∷ xs) (y ∷ ys) each all = (each x y all.0, zip_weaker R S xs ys each all.1)

pub each_map : {X Y : Type 0} (P : X → Type 0) (Q : Y → Type 0) (f : X → Y) (xs : List X) → ((x : X) → P x → Q (f x)) → AllByRecursion P xs → AllByRecursion Q (map f xs)
each_map P Q f [] each all = tt
each_map P Q f (x ∷ xs) each all = (each x all.0, each_map P Q f xs each all.1)

-- what holds of each pair of one list with another, and of each element of the second
pub each_beside : {X Y : Type 0} (R : X → Y → Type 0) (P Q : Y → Type 0) (xs : List X) (ys : List Y) → ((x : X) (y : Y) → R x y → P y → Q y) → AllZip R xs ys → AllByRecursion P ys → AllByRecursion Q ys
each_beside R P Q [] [] each all ps = tt
each_beside R P Q (x ∷ xs) [] each all ps = tt
each_beside R P Q [] (y ∷ ys) each all ps = absurd all
each_beside R P Q (x ∷ xs) (y ∷ ys) each all ps = (each x y all.0 ps.0, each_beside R P Q xs ys each all.1 ps.1)

pub all_of : {X : Type 0} (P : X → Type 0) (xs : List X) → ((x : X) → P x) → AllByRecursion P xs
all_of P [] each = tt
all_of P (x ∷ xs) each = (each x, all_of P xs each)

pub none_in_order : (last : Clock) → IsInOrder last []
none_in_order last = record {
  step = λ m there. absurd (nowhere m there);
  stamp = λ m there. absurd (nowhere m there);
  rise = λ m n there other less. absurd (nowhere m there);
}
  where
    nowhere : (m : ℕ × ℕ) → Contains [] m → ⊥
    nowhere m there = (let low = there.1 in omega (arith, low))

module _ {B : Type 0} where
  -- what a caller may be given, of the first seats
  pub may_give : (by : ℕ) (buffers : TableId) (locks : Locks B) (first : FirstSeats B) → IsFirst buffers locks first → (Contains (first.seats.by ∷ gave_of first) by → ⊥) → AllByRecursion (MayGive by) first.seats.queues.items
  may_give by buffers locks first is fresh =
      each_beside (IsPassOf first.seats.by) (Leads (gave_of first)) (MayGive by) locks.queues.items first.seats.queues.items
      (λ lock pass own leads. record {
        is_first = leads.is_first;
        fresh = λ there. fresh (subst (λ (xs : List ℕ). Contains xs by) (ap₂ (λ (b : ℕ) (bs : List ℕ). b ∷ bs) own.number leads.gave_is) there);
      }) is.own.queues is.queues

  pub at_locks : (by : ℕ) (locks : List (QueueLock B)) (passes : List (QueuePass B)) → AllZip (IsPassOf by) locks passes → AllZip IsAt locks passes
  at_locks by locks passes own = zip_weaker (IsPassOf by) IsAt locks passes (λ lock pass h. h.own) own

  -- passes that know the same
  same_calls : (f : QueuePass B → QueuePass B) → ((p : QueuePass B) → (f p).seen ≡ p.seen) → ((p : QueuePass B) → (f p).mark ≡ p.mark) → (passes : List (QueuePass B)) (queue : ℕ) → calls_known (map f passes) queue ≡ calls_known passes queue
  same_calls f seen mark [] queue = refl
  same_calls f seen mark (p ∷ passes) queue =
      rw (seen p, mark p, same_calls f seen mark passes queue) refl

  same_moments : (f : QueuePass B → QueuePass B) → ((p : QueuePass B) → (f p).seen ≡ p.seen) → (by : ℕ) (passes : List (QueuePass B)) → calls_made by (map f passes) ≡ calls_made by passes
  same_moments f seen by [] = refl
  same_moments f seen by (p ∷ passes) =
      ap₂ (λ (xs ys : List (ℕ × ℕ)). xs ++ ys) (ap (λ calls. map moment (calls_by by calls)) (seen p)) (same_moments f seen by passes)

  pub no_moments : (by : ℕ) (passes : List (QueuePass B)) → AllByRecursion (λ (pass : QueuePass B). pass.seen ≡ []) passes → calls_made by passes ≡ []
  no_moments by [] none = refl
  no_moments by (p ∷ passes) none = ap₂ (λ calls (ys : List (ℕ × ℕ)). map moment (calls_by by calls) ++ ys) none.0 (no_moments by passes none.1)

  -- the first seats and those that they gave
  pub record IsSplit (by : ℕ) (old new : FirstSeats B) (seats : Seats B) : Type 0 where
    pub took : new.took ≡ old.took
    pub number : new.seats.by ≡ old.seats.by
    pub last : new.seats.last ≡ old.seats.last
    pub queues : new.seats.queues.items ≡ map (giving by) old.seats.queues.items
    pub arrivals : new.seats.arrivals ≡ giving by old.seats.arrivals
    pub times : new.seats.times ≡ record old.seats.times { knows = lending old.seats.times.knows }
    pub turns : new.seats.turns ≡ record old.seats.turns { out = old.seats.turns.out + 1 }
    pub pass : new.seats.pass ≡ Some new.seats.arrivals
    pub hands : HandsOut by seats.arrivals old.seats.intake new.seats.intake seats.pass seats.intake
    pub given_number : seats.by ≡ by
    pub given_queues : seats.queues.items ≡ map (given by) old.seats.queues.items
    pub given_arrivals : seats.arrivals ≡ given by old.seats.arrivals
    pub given_times : seats.times ≡ record old.seats.times { knows = split_off old.seats.times.knows }
    pub given_turns : seats.turns ≡ record old.seats.turns { is_first = false; out = 0; leaves = [] }

  module _ (by : ℕ) (buffers : TableId) (locks : Locks B) (old new : FirstSeats B) (seats : Seats B) (first : IsFirst buffers locks old) (fresh : Contains (old.seats.by ∷ gave_of old) by → ⊥) (unused : KnowsNothing old.seats) (s : IsSplit by old new seats) where
    hands : GivesAt locks by seats.arrivals (gave_of old) old.seats.last old.seats.intake new.seats.intake seats.pass seats.intake
    hands =
        gives_at locks old.seats.by by seats.arrivals (gave_of old) old.seats.last old.seats.intake new.seats.intake seats.pass seats.intake first.number fresh
        (ap (λ (p : ArrivalsPass). p.table) s.given_arrivals ∙ first.own.own_arrivals) (ap (λ (p : ArrivalsPass). p.mark) s.given_arrivals ∙ first.own.marked) (ap (λ (p : ArrivalsPass). p.by) s.given_arrivals)
        (ap (λ (p : ArrivalsPass). p.seen) s.given_arrivals ∙ unused.arrivals) first.own.way s.hands

    gave_is : gave_of new ≡ by ∷ gave_of old
    gave_is = ap (λ (p : ArrivalsPass). p.gave) s.arrivals

    arrived_same : new.seats.arrivals.seen ≡ old.seats.arrivals.seen
    arrived_same = ap (λ (p : ArrivalsPass). p.seen) s.arrivals

    own_queues : AllZip (IsPassOf new.seats.by) locks.queues.items new.seats.queues.items
    own_queues =
        subst (λ (ps : List (QueuePass B)). AllZip (IsPassOf new.seats.by) locks.queues.items ps) (sym s.queues)
        (zip_map (IsPassOf old.seats.by) (IsPassOf new.seats.by) (giving by) locks.queues.items old.seats.queues.items
        (λ lock pass own. record { own = own.own; number = own.number ∙ sym s.number; marked = own.marked; numbered = own.numbered }) first.own.queues)

    same_order : moments_of new.seats ≡ moments_of old.seats
    same_order =
        ap (λ (b : ℕ). calls_made b new.seats.queues.items ++ (sent_in (calls_by b new.seats.arrivals.seen) ++ map post_moment (posts_of new.seats.intake))) s.number
        ∙ ap₂ (λ (xs ys : List (ℕ × ℕ)). xs ++ ys)
        (ap (calls_made old.seats.by) s.queues ∙ same_moments (giving by) (λ p. refl) old.seats.by old.seats.queues.items)
        (ap₂ (λ calls posts. sent_in (calls_by old.seats.by calls) ++ map post_moment posts) arrived_same hands.posts)

    own_seats : AreSeats buffers locks new.seats
    own_seats = record {
      queues = own_queues;
      own_arrivals = ap (λ (p : ArrivalsPass). p.table) s.arrivals ∙ first.own.own_arrivals;
      marked = ap (λ (p : ArrivalsPass). p.mark) s.arrivals ∙ first.own.marked;
      number = ap (λ (p : ArrivalsPass). p.by) s.arrivals ∙ first.own.number ∙ sym s.number;
      own_times = ap (λ (v : TimesView). v.table) s.times ∙ first.own.own_times;
      own_turns = ap (λ (v : TurnsView). v.table) s.turns ∙ first.own.own_turns;
      in_order =
          subst (λ (c : Clock). IsInOrder c (moments_of new.seats)) (sym s.last)
          (subst (λ (xs : List (ℕ × ℕ)). IsInOrder old.seats.last xs) (sym same_order) first.own.in_order);
      takes = λ other. absurd (other (s.number ∙ first.number));
      pass = s.pass ∙ sym (hands.same_pass new.seats.arrivals);
      way =
          subst (λ (c : Clock). IsAtIntake locks new.seats.by (gave_of new) c new.seats.intake) (sym s.last)
          (subst (λ (bs : List ℕ). IsAtIntake locks new.seats.by bs old.seats.last new.seats.intake) (sym gave_is) (hands.way new.seats.by (s.number ∙ first.number)));
    }

    leads_all : AllByRecursion (Leads (gave_of new)) new.seats.queues.items
    leads_all =
        subst (λ (ps : List (QueuePass B)). AllByRecursion (Leads (gave_of new)) ps) (sym s.queues)
        (each_map (Leads (gave_of old)) (Leads (gave_of new)) (giving by) old.seats.queues.items
        (λ pass leads. record { is_first = leads.is_first; gave_is = ap (λ (bs : List ℕ). by ∷ bs) leads.gave_is ∙ sym gave_is; start = leads.start }) first.queues)

    still_taken : (t : Seats B) → IsTaken old.seats buffers locks t → IsTaken new.seats buffers locks t
    still_taken t is = record {
      own = is.own;
      queues =
          subst (λ (ps : List (QueuePass B)). AllZip (TookPass t.by) ps t.queues.items) (sym s.queues)
          (zip_map_left (TookPass t.by) (TookPass t.by) (giving by) old.seats.queues.items t.queues.items (λ p q there. there) is.queues);
      arrivals = subst (λ (p : ArrivalsPass). Contains p.took (t.by, t.arrivals.seen)) (sym s.arrivals) is.arrivals;
      known = subst (λ (v : TimesView). AreAmong t.times.knows.known v.knows.known) (sym s.times) is.known;
      signals = subst (λ (v : TimesView). AreAmong t.times.knows.signals v.knows.signals) (sym s.times) is.signals;
      leaves = subst (λ (v : TurnsView). AreAmong t.turns.leaves v.leaves) (sym s.turns) is.leaves;
      seen = subst (λ (v : TurnsView). CountsRise t.turns.seen v.seen) (sym s.turns) is.seen;
    }

    pub first_after : IsFirst buffers locks new
    first_after =
        let long = ap (λ (bs : List ℕ). length bs) gave_is in
        let took = ap (λ ts. length ts.items) s.took in
        record {
          own = own_seats;
          number = s.number ∙ first.number;
          queues = leads_all;
          arrivals = ap (λ (p : ArrivalsPass). p.is_first) s.arrivals ∙ first.arrivals;
          start = ap (λ (p : ArrivalsPass). p.start) s.arrivals ∙ first.start;
          times = ap (λ (v : TimesView). v.knows.is_first) s.times ∙ first.times;
          turns = ap (λ (v : TurnsView). v.is_first) s.turns ∙ first.turns;
          times_out = (let out = ap (λ (v : TimesView). v.knows.out) s.times in let was = first.times_out in omega (arith, long, took, out, was));
          turns_out = (let out = ap (λ (v : TurnsView). v.out) s.turns in let was = first.turns_out in omega (arith, long, took, out, was));
          took = λ t there. still_taken t (first.took t (subst (λ (ts : List (Seats B)). Contains ts t) (ap (λ ts. map (λ seats. seats.value) ts.items) s.took) there));
        }

    nothing_after : (f : QueuePass B → QueuePass B) → ((p : QueuePass B) → (f p).seen ≡ p.seen) → AllByRecursion (λ (pass : QueuePass B). pass.seen ≡ []) (map f old.seats.queues.items)
    nothing_after f seen = each_map (λ (p : QueuePass B). p.seen ≡ []) (λ (p : QueuePass B). p.seen ≡ []) f old.seats.queues.items (λ p none. seen p ∙ none) unused.queues

    pub gives_after : Gives by old new
    gives_after = record {
      gave = gave_is;
      took = ap (λ ts. map (λ seats. seats.value) ts.items) s.took;
      number = s.number;
      last = s.last;
      knows = record {
        calls = λ queue. ap (λ (ps : List (QueuePass B)). calls_known ps queue) s.queues ∙ same_calls (giving by) (λ p. refl) (λ p. refl) old.seats.queues.items queue;
        arrivals = hands.known new.seats.arrivals.seen ∙ ap (arrivals_known old.seats.intake) arrived_same;
      };
      nothing = record {
        queues = subst (λ (ps : List (QueuePass B)). AllByRecursion (λ (pass : QueuePass B). pass.seen ≡ []) ps) (sym s.queues) (nothing_after (giving by) (λ p. refl));
        arrivals = arrived_same ∙ unused.arrivals;
        posts = hands.posts ∙ unused.posts;
        unfinished = hands.unfinished;
      };
      times = s.times;
      turns = s.turns;
    }

    given_arrived : seats.arrivals.seen ≡ []
    given_arrived = ap (λ (p : ArrivalsPass). p.seen) s.given_arrivals ∙ unused.arrivals

    given_nothing : KnowsNothing seats
    given_nothing = record {
      queues = subst (λ (ps : List (QueuePass B)). AllByRecursion (λ (pass : QueuePass B). pass.seen ≡ []) ps) (sym s.given_queues) (nothing_after (given by) (λ p. refl));
      arrivals = given_arrived;
      posts = hands.given_posts;
      unfinished = hands.given_unfinished;
    }

    given_moments : moments_of seats ≡ []
    given_moments =
        ap₂ (λ (xs ys : List (ℕ × ℕ)). xs ++ ys) (no_moments seats.by seats.queues.items given_nothing.queues)
        (ap₂ (λ calls posts. sent_in (calls_by seats.by calls) ++ map post_moment posts) given_arrived hands.given_posts)

    pub seats_given : AreSeats buffers locks seats
    seats_given = record {
      queues =
          subst (λ (ps : List (QueuePass B)). AllZip (IsPassOf seats.by) locks.queues.items ps) (sym s.given_queues)
          (zip_map (IsPassOf old.seats.by) (IsPassOf seats.by) (given by) locks.queues.items old.seats.queues.items
          (λ lock pass own. record { own = own.own; number = sym s.given_number; marked = own.marked; numbered = own.numbered }) first.own.queues);
      own_arrivals = ap (λ (p : ArrivalsPass). p.table) s.given_arrivals ∙ first.own.own_arrivals;
      marked = ap (λ (p : ArrivalsPass). p.mark) s.given_arrivals ∙ first.own.marked;
      number = ap (λ (p : ArrivalsPass). p.by) s.given_arrivals ∙ sym s.given_number;
      own_times = ap (λ (v : TimesView). v.table) s.given_times ∙ first.own.own_times;
      own_turns = ap (λ (v : TurnsView). v.table) s.given_turns ∙ first.own.own_turns;
      in_order = subst (λ (xs : List (ℕ × ℕ)). IsInOrder seats.last xs) (sym given_moments) (none_in_order seats.last);
      takes = λ other. ap (λ calls. takes_in (calls_by seats.by calls)) given_arrived;
      pass = hands.given_there;
      way = subst (λ (n : ℕ). IsAtIntake locks n seats.arrivals.gave seats.last seats.intake) (sym s.given_number) (hands.given_way seats.last seats.arrivals.gave);
    }

    pub given_is : IsGiven by old.seats seats
    given_is = record {
      number = s.given_number;
      apart = λ zero. fresh (subst (λ (n : ℕ). Contains (old.seats.by ∷ gave_of old) n) (first.number ∙ sym zero ∙ s.given_number) (has_here old.seats.by (gave_of old)));
      knows = record {
        calls = λ queue. ap (λ (ps : List (QueuePass B)). calls_known ps queue) s.given_queues ∙ same_calls (given by) (λ p. refl) (λ p. refl) old.seats.queues.items queue;
        arrivals =
            hands.given_known seats.arrivals.seen given_arrived ∙ sym (hands.known_is old.seats.arrivals.seen ∙ ap (λ calls. sent (unstamped calls)) unused.arrivals);
      };
      nothing = given_nothing;
      times = s.given_times;
      turns = s.given_turns;
    }

-- A log whose moments follow one another is an order of what it tells.
use Rattle.std.proofs.Common.{◌≡◌, ℕ, suc, zero, ◌+◌, ◌-◌, ◌<◌, ◌≤◌, Bool, true, false, ◌==◌, ◌&&◌, List, [], ◌∷◌, ◌++◌, length, get_or, map, reverse, Option, Some, None, slice_get, refl, sym, ap, subst, ◌∙◌, inl, inr, arith, Contains}
use Rattle.std.proofs.lemmas.Bool.{cases_lt}
use Rattle.std.proofs.lemmas.Bool.Decides.{nat_tests}
use Rattle.std.proofs.lemmas.List.{get_or_append_left, get_or-append_right, length-append}
use Rattle.std.proofs.lemmas.Option.{get_or_from_slice_get, slice_get_read, slice_get_within}
use Rattle.std.specs.Prelude.{if◌then◌else◌, nat_lt, is_some, option_to_list}
use Rattle.std.specs.List.{AllByRecursion}
use Rattle.law_order.specs.Order.{Happened}
use Rattle.law_played.specs.sf_actor.Names.{FrameOf}
use Rattle.law_played.specs.sf_actor.sf_slots.declared.calls.Entry.{Entry}
use Rattle.law_played.specs.sf_record.declared.event.VsyncRecords.{VsyncRecords}
use Rattle.law_played.specs.sf_record.declared.record.CommitRecord.{CommitRecord}
use Rattle.law_played.specs.sf_script_scene.Scene.{SceneValue}
use Rattle.law_played.specs.sf_token.Pending.{Arrival}
use Rattle.law_played.specs.Arrivals.{entry_of}
use Rattle.law_played.specs.Histories.{history_shown, rising_queues}
use Rattle.law_played.specs.RunStates.{RunState}
use Rattle.law_play_order.proofs.Logs.{AreNumbered, Arrived, Called, Follows, IsEnd, IsTimely, Moment, Vsynced, arrival_in, bit, count, is_arrival, is_on, is_vsync, items, number_of, on, owner, step_of}
use Rattle.law_play_order.proofs.Found.{Found, compare, end_fewer, end_shorter, find_at, head_is, member, tail_is, timely_at}

-- a call of the compositor is one of a vsync that was
abbrev pub IsWithin : ℕ → Moment → Type 0
IsWithin most (Called queue entry) = entry.caller.0 ≡ 0 → (1 ≤ entry.step) × (entry.step ≤ most)
IsWithin most (Arrived arrived) = Unit {0}
IsWithin most (Vsynced number) = Unit {0}

-- a vsync is in the log, and before it the arrival of this number
pub record IsCommitted (log : List Moment) (vsync number : ℕ) : Type 0 where
  pub older : List Moment
  pub end : IsEnd (Vsynced vsync ∷ older) log
  pub arrival : Arrival FrameOf
  pub before : List Moment
  pub there : IsEnd (Arrived arrival ∷ before) older
  pub numbered : arrival.number ≡ number

-- a log tells of a state
pub record Tells (state : RunState) (log : List Moment) : Type 0 where
  pub timely : IsTimely log
  pub numbered : AreNumbered log
  pub calls : (queue : ℕ) → items (on queue) log ≡ reverse (state.run.calls queue)
  pub arrivals : items arrival_in log ≡ state.arrivals
  pub many : count is_vsync log ≡ state.vsyncs
  pub within : AllByRecursion (IsWithin state.vsyncs) log
  pub commits : (at : VsyncRecords) (commit : CommitRecord) → Contains state.reports at → Contains at.commits commit → IsCommitted log at.number commit.arrival

abbrev pub happened : SceneValue → RunState → Happened
happened scene state = record { histories = map (history_shown state.run) (rising_queues scene); arrived = map entry_of state.arrivals; vsyncs = state.reports }

slice_front : {X : Type 0} (ys zs : List X) (i : ℕ) (x : X) → slice_get ys i ≡ Some x → slice_get (ys ++ zs) i ≡ Some x
slice_front ys zs i x e =
    let low = slice_get_within ys i x e in
    let long = length-append ys zs in
    slice_get_read (ys ++ zs) (length (ys ++ zs)) i x refl (omega (arith, low, long)) (sym (get_or_append_left ys zs x i low ∙ get_or_from_slice_get ys i x x e))

slice_last : {X : Type 0} (ys : List X) (x : X) → slice_get (ys ++ x ∷ []) (length ys) ≡ Some x
slice_last ys x =
    let long = length-append ys (x ∷ []) in
    let none : length ys - length ys ≡ 0 = omega arith in
    slice_get_read (ys ++ x ∷ []) (length (ys ++ x ∷ [])) (length ys) x refl (omega (arith, long))
    (sym (get_or-append_right ys (x ∷ []) (length ys) (length ys) x refl (omega arith) ∙ ap (λ i. get_or (x ∷ []) i x) none))

one_or_none : {X : Type 0} (o : Option X) → length (option_to_list o) ≡ bit (is_some o)
one_or_none None = refl
one_or_none (Some x) = refl

pub items_long : {X : Type 0} (pick : Moment → Option X) (log : List Moment) → length (items pick log) ≡ count (λ m. is_some (pick m)) log
items_long pick [] = refl
items_long pick (m ∷ log) =
    let rest = items_long pick log in
    let one = one_or_none (pick m) in
    let long = length-append (items pick log) (option_to_list (pick m)) in
    omega (arith, rest, one, long)

pub item_at : {X : Type 0} (pick : Moment → Option X) (a : Moment) (older log : List Moment) (x : X) → IsEnd (a ∷ older) log → pick a ≡ Some x
    → slice_get (items pick log) (count (λ m. is_some (pick m)) older) ≡ Some x
item_at pick a older [] x e is = absurd (cc (e))
item_at {X} pick a older (m ∷ log) x (inl e) is =
    let here : slice_get (items pick older ++ x ∷ []) (count (λ m. is_some (pick m)) older) ≡ Some x =
    ap (slice_get (items pick older ++ x ∷ [])) (sym (items_long pick older)) ∙ slice_last (items pick older) x in
    let same : items pick (m ∷ log) ≡ items pick older ++ x ∷ [] = ap (items pick) (sym e) ∙ ap (λ (o : Option X). items pick older ++ option_to_list o) is in
    ap (λ (l : List X). slice_get l (count (λ m. is_some (pick m)) older)) same ∙ here
item_at pick a older (m ∷ log) x (inr h) is = slice_front (items pick log) (option_to_list (pick m)) (count (λ m. is_some (pick m)) older) x (item_at pick a older log x h is)

-- what a list that was made of another has
pub record Made {X Y : Type 0} (f : X → Y) (y : Y) : Type 0 where
  pub from : X
  pub is : f from ≡ y

pub mapped : {X Y : Type 0} (f : X → Y) (xs : List X) (y : Y) → Contains (map f xs) y → Made f y
mapped f [] y c = absurd (omega (arith, c.1))
mapped f (x ∷ xs) y (zero, low, e) = record { from = x; is = e }
mapped f (x ∷ xs) y (suc k, low, e) = mapped f xs y (k, omega (arith, low), e)

pub some_is : {X : Type 0} (x y : X) → Some x ≡ Some y → x ≡ y
some_is x y e = cc (e)

-- a moment is a call on a queue, or an arrival, or a vsync
pub record IsCallOn (queue : ℕ) (m : Moment) : Type 0 where
  pub entry : Entry
  pub is : m ≡ Called queue entry
  pub picked : on queue m ≡ Some entry

pub call_on : (queue : ℕ) (m : Moment) → is_on queue m ≡ true → IsCallOn queue m
call_on queue (Arrived arrived) e = absurd (cc (e))
call_on queue (Vsynced number) e = absurd (cc (e))
call_on queue (Called other entry) e = by (other == queue) refl e
  where
    by : (b : Bool) → (other == queue) ≡ b → is_some (if b then Some entry else None) ≡ true → IsCallOn queue (Called other entry)
    by true same e = record { entry = entry; is = ap (λ q. Called q entry) (grind (arith, nat_tests, same)); picked = rw same refl }
    by false same e = absurd (cc (e))

pub record IsArrivalIn (m : Moment) : Type 0 where
  pub arrived : Arrival FrameOf
  pub is : m ≡ Arrived arrived
  pub picked : arrival_in m ≡ Some arrived

pub arrival_is : (m : Moment) → is_arrival m ≡ true → IsArrivalIn m
arrival_is (Called queue entry) e = absurd (cc (e))
arrival_is (Arrived arrived) e = record { arrived = arrived; is = refl; picked = refl }
arrival_is (Vsynced number) e = absurd (cc (e))

pub record IsVsyncOf (m : Moment) : Type 0 where
  pub number : ℕ
  pub is : m ≡ Vsynced number

pub vsync_is : (m : Moment) → is_vsync m ≡ true → IsVsyncOf m
vsync_is (Called queue entry) e = absurd (cc (e))
vsync_is (Arrived arrived) e = absurd (cc (e))
vsync_is (Vsynced number) e = record { number = number; is = refl }

pub no_call : (queue : ℕ) (m : Moment) → is_on queue m ≡ true → is_vsync m ≡ true → ⊥
no_call queue (Called other entry) e f = cc (f)
no_call queue (Arrived arrived) e f = cc (e)
no_call queue (Vsynced number) e f = cc (e)

-- a later moment's step is not below an older one's of the same owner
no_earlier : (m older : Moment) → Follows m older → owner older ≡ owner m → step_of older ≤ step_of m
no_earlier (Called queue entry) older follows same = follows same
no_earlier (Arrived arrived) older follows same = follows same
no_earlier (Vsynced number) older follows same = let less = follows same in omega (arith, less)

module _ (log : List Moment) (timely : IsTimely log) where
  -- the first of two moments has the lesser number
  pub before : (kind also : Moment → Bool) (place other : ℕ) (f : Found kind place log) (g : Found also other log) → (IsEnd (g.at ∷ g.older) f.older → ⊥) → ((f.at ∷ f.older) ≡ (g.at ∷ g.older) → ⊥)
      → number_of kind place log < number_of also other log
  before kind also place other f g not_older not_same = elim (compare f.at g.at f.older g.older log f.end g.end) [
    | inl h ↦ let less = end_shorter f.at f.older g.older h in let one = f.numbered in let two = g.numbered in omega (arith, less, one, two)
    | inr s ↦ elim s [
      | inl same ↦ absurd (not_same same)
      | inr h ↦ absurd (not_older h)
    ]
  ]

  -- so is one of an earlier step of the same owner
  pub by_steps : (kind also : Moment → Bool) (place other : ℕ) (f : Found kind place log) (g : Found also other log) → owner f.at ≡ owner g.at → step_of f.at < step_of g.at
      → number_of kind place log < number_of also other log
  by_steps kind also place other f g same less = before kind also place other f g
      (λ h. let follows = member (Follows f.at) g.at g.older f.older (timely_at f.at f.older log timely f.end) h in
      let no = no_earlier f.at g.at follows (sym same) in omega (arith, no, less))
      (λ e. let equal : step_of f.at ≡ step_of g.at = ap step_of (head_is f.at g.at f.older g.older e) in omega (arith, equal, less))

  -- and one of the same kind at a lesser place
  pub by_places : (kind : Moment → Bool) (place other : ℕ) (f : Found kind place log) (g : Found kind other log) → place < other → number_of kind place log < number_of kind other log
  by_places kind place other f g less = before kind kind place other f g
      (λ h. let fewer = end_fewer kind g.at g.older f.older g.is h in let one = f.many in let two = g.many in omega (arith, fewer, one, two, less))
      (λ e. let equal : count kind f.older ≡ count kind g.older = ap (count kind) (tail_is f.at g.at f.older g.older e) in let one = f.many in let two = g.many in omega (arith, equal, one, two, less))

-- a number for each place from 1 on: those beyond the log have greater ones
abbrev pub total : (Moment → Bool) → ℕ → List Moment → ℕ
total kind zero log = 0
total kind (suc place) log = if nat_lt place (count kind log) then number_of kind place log else length log + suc place

pub number_low : (kind : Moment → Bool) (place : ℕ) (log : List Moment) (f : Found kind place log) → (1 ≤ number_of kind place log) × (number_of kind place log ≤ length log)
number_low kind place log f = let one = f.numbered in let end = end_shorter f.at f.older log f.end in (omega (arith, one), omega (arith, one, end))

pub inside : (kind : Moment → Bool) (place : ℕ) (log : List Moment) → place < count kind log → total kind (suc place) log ≡ number_of kind place log
inside kind place log low = let t : nat_lt place (count kind log) ≡ true = grind (arith, nat_tests, low) in rw t refl

pub outside : (kind : Moment → Bool) (place : ℕ) (log : List Moment) → count kind log ≤ place → total kind (suc place) log ≡ length log + suc place
outside kind place log high = let t : nat_lt place (count kind log) ≡ false = grind (arith, nat_tests, high) in rw t refl

pub total_rises : (log : List Moment) → IsTimely log → (kind : Moment → Bool) (one next : ℕ) → one < next → total kind one log < total kind next log
total_rises log timely kind one zero less = absurd (omega (arith, less))
total_rises log timely kind zero (suc next) less = elim (cases_lt next (count kind log)) [
  | inl low ↦ let is = inside kind next log low in let n = (number_low kind next log (find_at kind next log low)).0 in omega (arith, is, n)
  | inr high ↦ let is = outside kind next log high in omega (arith, is)
]
total_rises log timely kind (suc one) (suc next) less = elim (cases_lt next (count kind log)) [
  | inl low ↦
      let first : one < count kind log = omega (arith, less, low) in
      let is = inside kind next log low in
      let was = inside kind one log first in
      let rise = by_places log timely kind one next (find_at kind one log first) (find_at kind next log low) (omega (arith, less)) in
      omega (arith, is, was, rise)
  | inr high ↦ elim (cases_lt one (count kind log)) [
    | inl first ↦
        let is = outside kind next log high in
        let was = inside kind one log first in
        let low = (number_low kind one log (find_at kind one log first)).1 in
        omega (arith, is, was, low)
    | inr also ↦ let is = outside kind next log high in let was = outside kind one log also in omega (arith, is, was, less)
  ]
]

-- the number of a moment that is there
pub number_here : (kind : Moment → Bool) (a : Moment) (xs log : List Moment) → kind a ≡ true → IsEnd (a ∷ xs) log → number_of kind (count kind xs) log ≡ length xs + 1
number_here kind a xs [] is e = absurd (cc (e))
number_here kind a xs (m ∷ log) is (inl e) =
    let here : number_of kind (count kind xs) (a ∷ xs) ≡ length xs + 1 = let t : (count kind xs == count kind xs) ≡ true = grind (arith, nat_tests) in rw (is, t) refl in
    ap (number_of kind (count kind xs)) (sym e) ∙ here
number_here kind a xs (m ∷ log) is (inr h) =
    let fewer = end_fewer kind a xs log is h in
    let unlike : (count kind log == count kind xs) ≡ false = grind (arith, nat_tests, fewer) in
    rw (no_and (kind m) (count kind log == count kind xs) unlike) (number_here kind a xs log is h)
  where
    no_and : (a b : Bool) → b ≡ false → (a && b) ≡ false
    no_and true b e = e
    no_and false b e = refl

pub end_within : (a b : Moment) (xs ys log : List Moment) → IsEnd (a ∷ xs) ys → IsEnd (b ∷ ys) log → IsEnd (a ∷ xs) log
end_within a b xs ys [] e f = absurd (cc (f))
end_within a b xs ys (m ∷ log) e (inl f) = inr (subst (IsEnd (a ∷ xs)) (tail_is b m ys log f) e)
end_within a b xs ys (m ∷ log) e (inr h) = inr (end_within a b xs ys log e h)

-- One vsync, put together from what was decided and what was settled.
use Rattle.std.proofs.Common.{inl, inr, ◌≡◌, ℕ, Bool, true, false, List, [], ◌∷◌, ◌++◌, ◌≤◌, length, map, Option, Some, None, Result, Ok, Err, refl, ap, sym, ◌∙◌, subst, true≢false, arith}
use Rattle.std.specs.Prelude.{IfSome, OnErr, if◌then◌else◌, is_some}
use Rattle.std.proofs.lemmas.List.{append-nil, append_assoc}
use Rattle.std.specs.List.{All, AllZip}
use Rattle.std.proofs.lemmas.List.Elements.{All-append, All-cons, All-head, All-nil, All-tail}
use Rattle.sf_base.specs.declared.fences.Seen.{Seen}
use Rattle.sf_view.specs.sf_picture.declared.picture.Picture.{Picture}
use Rattle.sf_commit_next.specs.sf_ready.Facts.{FactsOf}
use Rattle.sf_commit_next.specs.sf_ready.declared.hold.Hold.{Hold}
use Rattle.sf_commit_next.specs.sf_token.Loads.{AllLeases, IsLookedArrival}
use Rattle.sf_commit_next.specs.sf_token.Pending.{Arrival, IsRisingFrom, QueuesOf, is_of}
use Rattle.sf_view.specs.sf_tree.Trees.{TreeOf}
use Rattle.sf_commit_next.specs.sf_txn.Buffers.{Buffer}
use Rattle.sf_commit_next.specs.sf_txn.Leases.{IsEyeAfter, IsLookedBuffer, IsShownTo}
use Rattle.sf_commit_next.specs.sf_txn.Transactions.{without_first}
use Rattle.sf_commit_next.specs.sf_txn.declared.lease.Lease.{Ghosts}
use Rattle.sf_commit.proofs.DecideLemmas.{all_left}
use Rattle.sf_commit.proofs.FollowLemmas.{lower, rising_append, rising_looked}
use Rattle.sf_commit.proofs.KnownLemmas.{Holds, holds_along}
use Rattle.sf_commit.proofs.LendLemmas.{many_along, placed_on, there_after, there_left, there_right}
use Rattle.sf_commit.proofs.SettleLemmas.{reads-append, then_after}
use Rattle.sf_commit.proofs.StandingAlong.{stands_decided}
use Rattle.sf_commit.specs.inner.Following.{DecidesAll, SettlesAll, begun_with}
use Rattle.sf_commit.specs.Handlers.{AreToGo, Decides, FitsHandler, HandlerOf, IsHandler, IsKept, Stops, last_of, lent_pixels}
use Rattle.sf_commit.specs.Leases.{AllOn, IsKnownOn, IsReleaseOf, here_if, pictures, pictures_here}
use Rattle.sf_commit.specs.Lending.{AllKept, AreThere, IsThere, KeepsSome, KeptRead, ends_of, is_at, kept_if, left_if, read_of, reads_of}
use Rattle.sf_commit.specs.OnLayers.{OnLayer, brought, shown_on}
use Rattle.sf_commit.specs.Releases.{ReleaseOf, CommittedOf}
use Rattle.sf_commit.specs.Rounds.{Leads, Round, StageOf, committed}
use Rattle.sf_commit.specs.Standing.{Stands}

module _ {L : Type 0} where
  -- without one of them, numbers rise
  rising_left : (t : Arrival L → Bool) (before last : ℕ) (xs : List (Arrival L)) → IsRisingFrom before xs last → IsRisingFrom before (without_first t xs) last
  rising_left t before last [] h = h
  rising_left t before last (x ∷ xs) h = by_test (rising_left t x.number last xs h.1) (t x) refl
    where
      by_test : IsRisingFrom x.number (without_first t xs) last → (b : Bool) → t x ≡ b → IsRisingFrom before (without_first t (x ∷ xs)) last
      by_test rest true e = let less = h.0 in rw e (lower before x.number last xs (omega (arith, less)) h.1)
      by_test rest false e = rw e (h.0, rest)

  module _ (drawn : L → Bool) (seen : Seen) (expected : ℕ) where
    -- what holds of all that waits holds of what waits still
    waits_along : (P : Arrival L → Type 0) (r end : Round L) (taken : List (Arrival L)) → Leads drawn seen expected r taken end → All P r.pending → All P end.pending
    waits_along P r end [] leads all = subst (λ (x : Round L). All P x.pending) (sym leads) all
    waits_along P r end (a ∷ later) leads all = waits_along P (committed r a) end later leads.1 (all_left P (is_of a.txn.token) r.pending all)

    rising_along : (last : ℕ) (r end : Round L) (taken : List (Arrival L)) → Leads drawn seen expected r taken end → IsRisingFrom 0 r.pending last → IsRisingFrom 0 end.pending last
    rising_along last r end [] leads h = subst (λ (x : Round L). IsRisingFrom 0 x.pending last) (sym leads) h
    rising_along last r end (a ∷ later) leads h = rising_along last (committed r a) end later leads.1 (rising_left (is_of a.txn.token) 0 last r.pending h)

module _ {L E R C : Type 0} (lease : Ghosts L E R C) where
  -- an eye can read it: it fits, and knows what was not read yet to be written
  pub record IsReadable (eye : E) (one : OnLayer L) : Type 0 where
    pub fits : lease.fits (lease.mark eye) one.lease
    pub known : IsKnownOn lease eye one

  buffers_readable : (eye now : E) (olds news : List (Buffer L)) → lease.mark now ≡ lease.mark eye → AllZip (IsLookedBuffer lease) olds news
      → All (λ (b : Buffer L). lease.fits (lease.mark eye) b.lease) olds → All (λ (b : Buffer L). IsShownTo lease eye now b.lease) news
      → All (λ (b : Buffer L). lease.shown b.lease ≡ true → IsReadable now (brought b)) news
  buffers_readable eye now [] [] mark zip fits shown = All-nil (λ (b : Buffer L). lease.shown b.lease ≡ true → IsReadable now (brought b))
  buffers_readable eye now [] (n ∷ ns) mark zip fits shown = absurd zip
  buffers_readable eye now (o ∷ os) [] mark zip fits shown = absurd zip
  buffers_readable eye now (o ∷ os) (n ∷ ns) mark zip fits shown =
      let old = All-head (λ (b : Buffer L). lease.fits (lease.mark eye) b.lease) o os fits in
      let seen = All-head (λ (b : Buffer L). IsShownTo lease eye now b.lease) n ns shown in
      All-cons (λ (b : Buffer L). lease.shown b.lease ≡ true → IsReadable now (brought b)) n ns
      (λ drawn. record {
        fits = subst (λ m. lease.fits m n.lease) (sym mark) ((zip.0.looked.fits (lease.mark eye)).1 old);
        known = record { known = λ _. seen.known drawn };
      })
      (buffers_readable eye now os ns mark zip.1 (All-tail (λ (b : Buffer L). lease.fits (lease.mark eye) b.lease) o os fits)
      (All-tail (λ (b : Buffer L). IsShownTo lease eye now b.lease) n ns shown))

  -- what was looked at can be read once it is drawn
  waits_readable : (eye now : E) (olds looked : List (Arrival L)) → lease.mark now ≡ lease.mark eye → AllZip (IsLookedArrival lease) olds looked
      → AllLeases (lease.fits (lease.mark eye)) olds → AllLeases (IsShownTo lease eye now) looked
      → All (λ (a : Arrival L). All (λ (b : Buffer L). lease.shown b.lease ≡ true → IsReadable now (brought b)) a.txn.buffers) looked
  waits_readable eye now [] [] mark zip fits shown = All-nil (λ (a : Arrival L). All (λ (b : Buffer L). lease.shown b.lease ≡ true → IsReadable now (brought b)) a.txn.buffers)
  waits_readable eye now [] (n ∷ ns) mark zip fits shown = absurd zip
  waits_readable eye now (o ∷ os) [] mark zip fits shown = absurd zip
  waits_readable eye now (o ∷ os) (n ∷ ns) mark zip fits shown =
      All-cons (λ (a : Arrival L). All (λ (b : Buffer L). lease.shown b.lease ≡ true → IsReadable now (brought b)) a.txn.buffers) n ns
      (buffers_readable eye now o.txn.buffers n.txn.buffers mark zip.0.buffers
      (All-head (λ (a : Arrival L). All (λ (b : Buffer L). lease.fits (lease.mark eye) b.lease) a.txn.buffers) o os fits)
      (All-head (λ (a : Arrival L). All (λ (b : Buffer L). IsShownTo lease eye now b.lease) a.txn.buffers) n ns shown))
      (waits_readable eye now os ns mark zip.1 (All-tail (λ (a : Arrival L). All (λ (b : Buffer L). lease.fits (lease.mark eye) b.lease) a.txn.buffers) o os fits)
      (All-tail (λ (a : Arrival L). All (λ (b : Buffer L). IsShownTo lease eye now b.lease) a.txn.buffers) n ns shown))

  -- looks change nothing of which eyes fit
  buffers_fit : (m : lease.Mark) (olds news : List (Buffer L)) → AllZip (IsLookedBuffer lease) olds news
      → All (λ (b : Buffer L). lease.fits m b.lease) olds → All (λ (b : Buffer L). lease.fits m b.lease) news
  buffers_fit m [] [] zip fits = All-nil (λ (b : Buffer L). lease.fits m b.lease)
  buffers_fit m [] (n ∷ ns) zip fits = absurd zip
  buffers_fit m (o ∷ os) [] zip fits = absurd zip
  buffers_fit m (o ∷ os) (n ∷ ns) zip fits =
      All-cons (λ (b : Buffer L). lease.fits m b.lease) n ns ((zip.0.looked.fits m).1 (All-head (λ (b : Buffer L). lease.fits m b.lease) o os fits))
      (buffers_fit m os ns zip.1 (All-tail (λ (b : Buffer L). lease.fits m b.lease) o os fits))

  waits_fit : (m : lease.Mark) (olds looked : List (Arrival L)) → AllZip (IsLookedArrival lease) olds looked → AllLeases (lease.fits m) olds → AllLeases (lease.fits m) looked
  waits_fit m [] [] zip fits = All-nil (λ (a : Arrival L). All (λ (b : Buffer L). lease.fits m b.lease) a.txn.buffers)
  waits_fit m [] (n ∷ ns) zip fits = absurd zip
  waits_fit m (o ∷ os) [] zip fits = absurd zip
  waits_fit m (o ∷ os) (n ∷ ns) zip fits =
      All-cons (λ (a : Arrival L). All (λ (b : Buffer L). lease.fits m b.lease) a.txn.buffers) n ns
      (buffers_fit m o.txn.buffers n.txn.buffers zip.0.buffers (All-head (λ (a : Arrival L). All (λ (b : Buffer L). lease.fits m b.lease) a.txn.buffers) o os fits))
      (waits_fit m os ns zip.1 (All-tail (λ (a : Arrival L). All (λ (b : Buffer L). lease.fits m b.lease) a.txn.buffers) o os fits))

  -- what an eye was shown it was shown later, too
  shown_later : (eye now next : E) (looked : List (Arrival L)) → ((l : L) → lease.knows now l → lease.knows next l)
      → AllLeases (IsShownTo lease eye now) looked → AllLeases (IsShownTo lease eye next) looked
  shown_later eye now next looked keeps shown =
      λ k d h j e g. let one = shown k d h j e g in record { known = λ drawn. keeps _ (one.known drawn); still = one.still; exact = one.exact }

  -- what was read already can be read
  on_readable : (eye now : E) (on : List (OnLayer L)) → lease.mark now ≡ lease.mark eye → AllOn (lease.fits (lease.mark eye)) on → All (λ (one : OnLayer L). one.is_read ≡ true) on
      → All (IsReadable now) on
  on_readable eye now [] mark fits read = All-nil (IsReadable now)
  on_readable eye now (x ∷ xs) mark fits read =
      All-cons (IsReadable now) x xs (record {
        fits = subst (λ m. lease.fits m x.lease) (sym mark) (All-head (λ (one : OnLayer L). lease.fits (lease.mark eye) one.lease) x xs fits);
        known = record { known = λ unread. absurd (true≢false (sym (All-head (λ (one : OnLayer L). one.is_read ≡ true) x xs read) ∙ unread)) };
      })
      (on_readable eye now xs mark (All-tail (λ (one : OnLayer L). lease.fits (lease.mark eye) one.lease) x xs fits) (All-tail (λ (one : OnLayer L). one.is_read ≡ true) x xs read))

  -- what a vsync begins with
  pub record Begins (eye : E) (on : List (OnLayer L)) (pending arrived : List (Arrival L)) : Type 0 where
    pub fits : AllOn (lease.fits (lease.mark eye)) on
    pub read : All (λ (one : OnLayer L). one.is_read ≡ true) on
    pub waits : AllLeases (lease.fits (lease.mark eye)) pending
    pub brought : AllLeases (lease.fits (lease.mark eye)) arrived

  module _ (tree : TreeOf) (on : List (OnLayer L)) (facts : FactsOf) (q : QueuesOf L) (eye : E) (arrived : List (Arrival L)) (seen : Seen) (expected : ℕ) (stage : StageOf L)
      (waits : List (ℕ × Hold)) (later : QueuesOf L) (noted : FactsOf) (now : E)
      (d : DecidesAll lease tree on facts q eye arrived seen expected stage waits later noted now) (begins : Begins eye on q.pending arrived) where
    all_fit : AllLeases (lease.fits (lease.mark eye)) (q.pending ++ arrived)
    all_fit = All-append (λ (a : Arrival L). All (λ (b : Buffer L). lease.fits (lease.mark eye) b.lease) a.txn.buffers) q.pending arrived begins.waits begins.brought

    -- what is on layers and what goes can be read in the end
    pub readable : Holds lease.shown seen expected (IsReadable now) d.end
    readable = holds_along lease.shown seen expected (IsReadable now) (begun_with tree on facts.frames d.looked) d.end d.decided.taken d.decided.leads (record {
      on = on_readable eye now on d.eye_is.mark begins.fits begins.read;
      gone = All-nil (IsReadable now);
      waits = waits_readable eye now (q.pending ++ arrived) d.looked d.eye_is.mark d.looks all_fit d.shown;
    })

    pub stage_on : All (IsReadable now) stage.on
    stage_on = subst (λ (s : StageOf L). All (IsReadable now) s.on) (sym d.stage_is) readable.on

    pub stage_gone : All (IsReadable now) stage.gone
    stage_gone = subst (λ (s : StageOf L). All (IsReadable now) s.gone) (sym d.stage_is) readable.gone

    -- and the eye fits what waits still
    pub waits_fit_still : AllLeases (lease.fits (lease.mark eye)) d.end.pending
    waits_fit_still =
        waits_along lease.shown seen expected (λ (a : Arrival L). All (λ (b : Buffer L). lease.fits (lease.mark eye) b.lease) a.txn.buffers)
        (begun_with tree on facts.frames d.looked) d.end d.decided.taken d.decided.leads
        (waits_fit (lease.mark eye) (q.pending ++ arrived) d.looked d.looks all_fit)

    -- the numbers of what waits still rise
    pub rising_still : IsRisingFrom 0 q.pending q.last → IsRisingFrom q.last arrived (last_of q.last arrived) → IsRisingFrom 0 d.end.pending (last_of q.last arrived)
    rising_still earlier rising =
        let last = last_of q.last arrived in
        rising_along lease.shown seen expected last (begun_with tree on facts.frames d.looked) d.end d.decided.taken d.decided.leads
        (rising_looked lease 0 last (q.pending ++ arrived) d.looked d.looks (rising_append 0 q.last last q.pending arrived earlier rising))

    -- the pixels of the reads that go on stand where they are lent
    pub there_still : (pixels : List (Option Picture)) (kept : List (KeptRead L)) → AreThere lease pixels (kept ++ map read_of on)
        → AreThere lease pixels ((kept ++ reads_of stage.gone) ++ map read_of stage.on)
    there_still pixels kept there =
        let begun = begun_with tree on facts.frames d.looked in
        let placed = holds_along lease.shown seen expected (λ (one : OnLayer L). IsThere lease pixels (read_of one)) begun d.end d.decided.taken d.decided.leads
        (record { on = placed_on lease pixels kept on there; gone = All-nil (λ (one : OnLayer L). IsThere lease pixels (read_of one)); waits = λ k a h j b g drawn. tt }) in
        subst (λ (s : StageOf L). AreThere lease pixels ((kept ++ reads_of s.gone) ++ map read_of s.on)) (sym d.stage_is)
        (there_after lease pixels kept on d.end.stage.on d.end.stage.gone there placed.on placed.gone
        (λ place. many_along (λ (one : OnLayer L). is_at place (read_of one)) (λ b. refl) lease.shown seen expected begun d.end d.decided.taken d.decided.leads))

    -- and each layer shows its buffer
    pub stands_still : Stands tree.layers on → Stands d.end.stage.tree.layers (map shown_on d.end.stage.on)
    stands_still stands =
        stands_decided lease.shown seen expected (begun_with tree on facts.frames d.looked) d.end d.decided d.shows stands

  pub begins_with : (old : HandlerOf L) (on : List (OnLayer L)) (q : QueuesOf L) (eye : E) (arrived : List (Arrival L)) → IsHandler lease old → FitsHandler lease eye old
      → AllLeases (lease.fits (lease.mark eye)) arrived → on ≡ old.on → q ≡ record { pending = old.pending; last = old.last } → Begins eye on q.pending arrived
  begins_with old on q eye arrived handler fits brought on_is queues = record {
    fits = subst (AllOn (lease.fits (lease.mark eye))) (sym on_is) fits.on;
    read = subst (All (λ (one : OnLayer L). one.is_read ≡ true)) (sym on_is) handler.read;
    waits = subst (λ (x : QueuesOf L). AllLeases (lease.fits (lease.mark eye)) x.pending) (sym queues) fits.pending;
    brought = brought;
  }

  pub fits_of : (eye : E) (on : List (OnLayer L)) → All (IsReadable eye) on → AllOn (lease.fits (lease.mark eye)) on
  fits_of eye on all k d h = (all k d h).fits

  pub known_of : (eye : E) (on : List (OnLayer L)) → All (IsReadable eye) on → All (IsKnownOn lease eye) on
  known_of eye on all k d h = (all k d h).known

  fits_shown : (m : lease.Mark) (on : List (OnLayer L)) → AllOn (lease.fits m) on → AllOn (lease.fits m) (map shown_on on)
  fits_shown m [] all = All-nil (λ (one : OnLayer L). lease.fits m one.lease)
  fits_shown m (x ∷ xs) all =
      All-cons (λ (one : OnLayer L). lease.fits m one.lease) (shown_on x) (map shown_on xs) (All-head (λ (one : OnLayer L). lease.fits m one.lease) x xs all)
      (fits_shown m xs (All-tail (λ (one : OnLayer L). lease.fits m one.lease) x xs all))

  read_shown : (on : List (OnLayer L)) → All (λ (one : OnLayer L). one.is_read ≡ true) (map shown_on on)
  read_shown [] = All-nil (λ (one : OnLayer L). one.is_read ≡ true)
  read_shown (x ∷ xs) = All-cons (λ (one : OnLayer L). one.is_read ≡ true) (shown_on x) (map shown_on xs) refl (read_shown xs)

  pictures_read : (on : List (OnLayer L)) → pictures_here lease (map shown_on on) ≡ pictures_here lease on
  pictures_read [] = refl
  pictures_read (x ∷ xs) = ap (λ rest. here_if x.place (lease.picture x.lease) ++ rest) (pictures_read xs)

  reads_read : (on : List (OnLayer L)) → map read_of (map shown_on on) ≡ map read_of on
  reads_read [] = refl
  reads_read (x ∷ xs) = ap (λ rest. read_of x ∷ rest) (reads_read xs)

  -- reads of buffers fit an eye that fits their leases
  reads_fit : (P : L → Type 0) (on : List (OnLayer L)) → AllOn P on → AllKept P (reads_of on)
  reads_fit P [] all = All-nil (λ (read : KeptRead L). P read.lease)
  reads_fit P (x ∷ xs) all =
      by_test (reads_fit P xs (All-tail (λ (one : OnLayer L). P one.lease) x xs all)) (All-head (λ (one : OnLayer L). P one.lease) x xs all) x.is_read refl
    where
      by_test : AllKept P (reads_of xs) → P x.lease → (b : Bool) → x.is_read ≡ b → AllKept P (reads_of (x ∷ xs))
      by_test rest here true e = rw e (All-cons (λ (read : KeptRead L). P read.lease) (read_of x) (reads_of xs) here rest)
      by_test rest here false e = rw e rest

  first_part : (P : OnLayer L → Type 0) (xs ys : List (OnLayer L)) → All P (xs ++ ys) → All P xs
  first_part P [] ys all = All-nil P
  first_part P (x ∷ xs) ys all = All-cons P x xs (All-head P x (xs ++ ys) all) (first_part P xs ys (All-tail P x (xs ++ ys) all))

  -- the reads that some releases keep fit the eye, too, and their pixels stand where they are lent
  pub some_fit : (P : L → Type 0) (kept later : List (KeptRead L)) (gone : List (OnLayer L)) → KeepsSome kept later gone → AllKept P kept → AllOn P gone → AllKept P later
  some_fit P kept later gone some old all =
      subst (AllKept P) (sym some.kept) (All-append (λ (read : KeptRead L). P read.lease) kept (reads_of some.handed) old
      (reads_fit P some.handed (first_part (λ (one : OnLayer L). P one.lease) some.handed some.left (subst (AllOn P) (sym some.all) all))))

  pub some_there : (pixels : List (Option Picture)) (kept later : List (KeptRead L)) (gone : List (OnLayer L)) (rest : List (KeptRead L)) → KeepsSome kept later gone
      → AreThere lease pixels ((kept ++ reads_of gone) ++ rest) → AreThere lease pixels later
  some_there pixels kept later gone rest some there =
      let all = ap (λ (xs : List (OnLayer L)). reads_of xs) (sym some.all) ∙ reads-append some.handed some.left in
      let both = subst (λ (reads : List (KeptRead L)). AreThere lease pixels (kept ++ reads)) all (there_left lease pixels (kept ++ reads_of gone) rest there) in
      subst (AreThere lease pixels) (sym some.kept)
      (there_left lease pixels (kept ++ reads_of some.handed) (reads_of some.left)
      (subst (AreThere lease pixels) (sym (append_assoc kept (reads_of some.handed) (reads_of some.left))) both))

  -- where nothing is lent, nothing stands at a place
  pub there_unlent : (lent : Option (List Picture)) (reads : List (KeptRead L)) → is_some lent ≡ false → AreThere lease (lent_pixels lent) reads → AreThere lease [] reads
  there_unlent None reads e there = there
  there_unlent (Some lent) reads e there = absurd (true≢false e)

  -- what is kept of reads once those are left that need not be kept
  kept_after : (lent : Option (List Picture)) (kept later more : List (KeptRead L)) → (lent ≡ None → kept ≡ []) → later ≡ kept ++ more
      → (if is_some lent then later else []) ≡ kept ++ kept_if lent more
  kept_after None kept later more unlent same = sym (append-nil kept ∙ unlent refl)
  kept_after (Some lent) kept later more unlent same = same

  left_after : (lent : Option (List Picture)) (kept later more : List (KeptRead L)) → (lent ≡ None → kept ≡ []) → later ≡ kept ++ more
      → (if is_some lent then [] else ends_of lease later) ≡ ends_of lease (left_if lent more)
  left_after None kept later more unlent same = ap (λ (reads : List (KeptRead L)). ends_of lease reads) (same ∙ ap (λ (reads : List (KeptRead L)). reads ++ more) (unlent refl))
  left_after (Some lent) kept later more unlent same = refl

  none_kept : (lent : Option (List Picture)) (later : List (KeptRead L)) → lent ≡ None → (if is_some lent then later else []) ≡ []
  none_kept None later e = refl
  none_kept (Some lent) later e = cc

  there_kept : (lent : Option (List Picture)) (later rest : List (KeptRead L)) → AreThere lease (lent_pixels lent) (later ++ rest)
      → AreThere lease (lent_pixels lent) ((if is_some lent then later else []) ++ rest)
  there_kept None later rest there = there_right lease [] later rest there
  there_kept (Some lent) later rest there = there

  kept_fit : (P : L → Type 0) (lent : Option (List Picture)) (later : List (KeptRead L)) → AllKept P later → AllKept P (if is_some lent then later else [])
  kept_fit P None later all = All-nil (λ (read : KeptRead L). P read.lease)
  kept_fit P (Some lent) later all = all

  -- what was lent has changed since
  changed : (lent : Option (List Picture)) (P : List Picture → Type 0) → IfSome lent (λ given. is_some lent ≡ false → P given)
  changed None P = tt
  changed (Some lent) P = λ e. absurd (true≢false e)

  -- a handler that is spent keeps the reads of what is lent
  pub kept_spent : (h : HandlerOf L) (contents : List Picture) (has_changed : Bool) → h.on ≡ [] → contents ≡ [] → h.is_spent ≡ true → has_changed ≡ is_some h.lent
      → AreThere lease (lent_pixels h.lent) h.kept → (h.lent ≡ None → h.kept ≡ []) → IsKept lease h contents has_changed
  kept_spent h contents has_changed on none spent same there unlent = record {
    same = none ∙ ap (pictures_here lease) (sym on);
    few = subst (λ (xs : List (OnLayer L)). length xs ≤ 4294967295) (sym on) (omega arith);
    lends = subst (λ (xs : List (OnLayer L)). AreThere lease (lent_pixels h.lent) (h.kept ++ map read_of xs)) (sym on)
        (subst (AreThere lease (lent_pixels h.lent)) (sym (append-nil h.kept)) there);
    unlent = unlent;
    unchanged = subst (λ (b : Bool). IfSome h.lent (λ lent. b ≡ false → (lent ≡ pictures lease h.on) × (h.kept ≡ []))) (sym same)
        (changed h.lent (λ lent. (lent ≡ pictures lease h.on) × (h.kept ≡ [])));
    keeps = λ alive. absurd (true≢false (sym spent ∙ alive));
  }

  -- a vsync that stops before it releases anything, and one that stops afterwards
  pub stops_early : (old new : HandlerOf L) (eye eye' : E) (arrived : List (Arrival L)) (seen : Seen) (expected : ℕ) → new.is_spent ≡ true → new.lent ≡ old.lent → new.kept ≡ old.kept
      → IsEyeAfter lease eye eye' [] → Stops lease old eye arrived seen expected new eye'
  stops_early old new eye eye' arrived seen expected spent lent kept reads = record {
    spent = spent;
    lent = lent;
    handed = [];
    gone = inl refl;
    kept = kept ∙ none_more old.lent;
    reads = subst (IsEyeAfter lease eye eye') (none_left old.lent) reads;
    fits = subst (λ (xs : List (KeptRead L)). AllKept (lease.fits (lease.mark eye)) old.kept → AllKept (lease.fits (lease.mark eye)) xs) (sym kept) (λ all. all);
  }
    where
      none_more : (o : Option (List Picture)) → old.kept ≡ old.kept ++ kept_if o []
      none_more None = sym (append-nil old.kept)
      none_more (Some lent) = sym (append-nil old.kept)

      none_left : (o : Option (List Picture)) → ◌≡◌ {A = List (ℕ × ℕ)} [] (ends_of lease (left_if o []))
      none_left None = refl
      none_left (Some lent) = refl

  pub stops_late : (old new : HandlerOf L) (eye now mid eye' : E) (arrived : List (Arrival L)) (seen : Seen) (expected : ℕ) (later : List (KeptRead L)) (gone : List (OnLayer L))
      → new.is_spent ≡ true → new.lent ≡ old.lent → (old.lent ≡ None → old.kept ≡ []) → (some : KeepsSome old.kept later gone) → AreToGo lease old eye arrived seen expected eye' some.handed
      → AllOn (lease.fits (lease.mark eye)) gone → new.kept ≡ (if is_some old.lent then later else []) → IsEyeAfter lease eye now [] → IsEyeAfter lease now mid []
      → IsEyeAfter lease mid eye' (if is_some old.lent then [] else ends_of lease later) → Stops lease old eye arrived seen expected new eye'
  stops_late old new eye now mid eye' arrived seen expected later gone spent lent unlent some goes all kept first second third = record {
    spent = spent;
    lent = lent;
    handed = some.handed;
    gone = inr goes;
    kept = kept ∙ kept_after old.lent old.kept later (reads_of some.handed) unlent some.kept;
    reads = subst (IsEyeAfter lease eye eye') (left_after old.lent old.kept later (reads_of some.handed) unlent some.kept)
        (then_after lease eye mid eye' [] (if is_some old.lent then [] else ends_of lease later) (then_after lease eye now mid [] [] first second) third);
    fits = λ fit. subst (AllKept (lease.fits (lease.mark eye))) (sym kept)
        (kept_fit (lease.fits (lease.mark eye)) old.lent later (some_fit (lease.fits (lease.mark eye)) old.kept later gone some fit all));
  }

  -- a vsync that came as far as the releases, of which some were made
  pub record Tried (old : HandlerOf L) (facts : FactsOf) (q : QueuesOf L) (on : List (OnLayer L)) (eye now mid : E) (arrived : List (Arrival L)) (seen : Seen) (expected : ℕ)
      (stage made : StageOf L) (waits : List (ℕ × Hold)) (later : QueuesOf L) (noted : FactsOf) (all : List (KeptRead L)) : Type 0 where
    pub frames : facts.frames ≡ old.frames
    pub queues : q ≡ record { pending = old.pending; last = old.last }
    pub on_is : on ≡ old.on
    pub decides : DecidesAll lease old.tree on facts q eye arrived seen expected stage waits later noted now
    pub stage_is : stage ≡ made
    pub handler : IsHandler lease old
    pub fits : FitsHandler lease eye old
    pub brought : AllLeases (lease.fits (lease.mark eye)) arrived
    pub some : KeepsSome old.kept all made.gone
    pub settled_eye : IsEyeAfter lease now mid []
    pub lends : AreThere lease (lent_pixels old.lent) (old.kept ++ map read_of old.on)
    pub unlent : old.lent ≡ None → old.kept ≡ []

  module _ (old : HandlerOf L) (facts : FactsOf) (q : QueuesOf L) (on : List (OnLayer L)) (eye now mid : E) (arrived : List (Arrival L)) (seen : Seen) (expected : ℕ)
      (stage made : StageOf L) (waits : List (ℕ × Hold)) (later : QueuesOf L) (noted : FactsOf) (all : List (KeptRead L))
      (t : Tried old facts q on eye now mid arrived seen expected stage made waits later noted all) where
    tried_begins : Begins eye on q.pending arrived
    tried_begins = begins_with old on q eye arrived t.handler t.fits t.brought t.on_is t.queues

    tried_gone : AllOn (lease.fits (lease.mark eye)) made.gone
    tried_gone =
        subst (λ (s : StageOf L). AllOn (lease.fits (lease.mark eye)) s.gone) t.stage_is
        (subst (λ m. AllOn (lease.fits m) stage.gone) t.decides.eye_is.mark
        (fits_of now stage.gone (stage_gone old.tree on facts q eye arrived seen expected stage waits later noted now t.decides tried_begins)))

    pub tried_fit : AllKept (lease.fits (lease.mark mid)) all
    tried_fit = subst (λ m. AllKept (lease.fits m) all) (sym (t.settled_eye.mark ∙ t.decides.eye_is.mark)) (some_fit (lease.fits (lease.mark eye)) old.kept all made.gone t.some t.fits.kept tried_gone)

    tried_there : AreThere lease (lent_pixels old.lent) all
    tried_there =
        some_there (lent_pixels old.lent) old.kept all made.gone (map read_of made.on) t.some
        (subst (λ (s : StageOf L). AreThere lease (lent_pixels old.lent) ((old.kept ++ reads_of s.gone) ++ map read_of s.on)) t.stage_is
        (there_still old.tree on facts q eye arrived seen expected stage waits later noted now t.decides tried_begins (lent_pixels old.lent) old.kept
        (subst (λ (xs : List (OnLayer L)). AreThere lease (lent_pixels old.lent) (old.kept ++ map read_of xs)) (sym t.on_is) t.lends)))

    pub tried_unlent : is_some old.lent ≡ false → AreThere lease [] all
    tried_unlent e = there_unlent old.lent all e tried_there

    -- and that stops then
    pub tried_kept : (new : HandlerOf L) (contents : List Picture) (has_changed : Bool) → new.on ≡ [] → contents ≡ [] → new.is_spent ≡ true → new.lent ≡ old.lent
        → has_changed ≡ is_some old.lent → new.kept ≡ (if is_some old.lent then all else []) → IsKept lease new contents has_changed
    tried_kept new contents has_changed none empty spent lent same kept =
        kept_spent new contents has_changed none empty spent (same ∙ ap (λ (o : Option (List Picture)). is_some o) (sym lent))
        (subst (λ (o : Option (List Picture)). AreThere lease (lent_pixels o) new.kept) (sym lent)
        (subst (AreThere lease (lent_pixels old.lent)) (sym kept) (part old.lent tried_there)))
        (λ e. kept ∙ none_kept old.lent all (sym lent ∙ e))
      where
        part : (o : Option (List Picture)) → AreThere lease (lent_pixels o) all → AreThere lease (lent_pixels o) (if is_some o then all else [])
        part None there = there_left lease [] [] all there
        part (Some x) there = there

    pub tried_stops : (new : HandlerOf L) (eye' : E) → new.is_spent ≡ true → new.lent ≡ old.lent → new.kept ≡ (if is_some old.lent then all else [])
        → IsEyeAfter lease mid eye' (if is_some old.lent then [] else ends_of lease all) → Stops lease old eye arrived seen expected new eye'
    tried_stops new eye' spent lent kept left =
        let d = t.decides in
        stops_late old new eye now mid eye' arrived seen expected all made.gone spent lent t.unlent t.some
        (record {
          looked = d.looked;
          looks = subst (λ (x : QueuesOf L). AllZip (IsLookedArrival lease) (x.pending ++ arrived) d.looked) t.queues d.looks;
          shown = shown_later eye now eye' d.looked (λ l knows. left.keeps l (t.settled_eye.keeps l knows)) d.shown;
          end = d.end;
          decided = record {
            taken = d.decided.taken;
            leads = subst (λ (b : Round L). Leads lease.shown seen expected b d.decided.taken d.end)
                (λ i. record { stage = record { tree = old.tree; on = t.on_is i; commits = []; gone = [] }; pending = d.looked; frames = t.frames i; fresh = [] })
                d.decided.leads;
            rests = d.decided.rests;
          };
          left = t.some.left;
          all = t.some.all ∙ ap (λ (x : StageOf L). x.gone) (sym t.stage_is ∙ d.stage_is);
        })
        tried_gone kept t.decides.eye_is t.settled_eye left

  -- a vsync that stops before the releases
  pub kept_early : (old new : HandlerOf L) (contents later : List Picture) (b has_changed : Bool) → IsKept lease old contents b → new.on ≡ [] → later ≡ [] → new.is_spent ≡ true → new.lent ≡ old.lent
      → has_changed ≡ is_some old.lent → new.kept ≡ old.kept → IsKept lease new later has_changed
  kept_early old new contents later b has_changed kept none empty spent lent changes same =
      kept_spent new later has_changed none empty spent (changes ∙ ap (λ (o : Option (List Picture)). is_some o) (sym lent))
      (subst (λ (o : Option (List Picture)). AreThere lease (lent_pixels o) new.kept) (sym lent)
      (subst (AreThere lease (lent_pixels old.lent)) (sym same) (there_left lease (lent_pixels old.lent) old.kept (map read_of old.on) kept.lends)))
      (λ e. same ∙ kept.unlent (sym lent ∙ e))

  pub kept_at_once : (old new : HandlerOf L) (contents : List Picture) (b : Bool) → IsKept lease old contents b → new.on ≡ old.on → new.is_spent ≡ true → new.lent ≡ old.lent → new.kept ≡ old.kept
      → IsKept lease new contents b
  kept_at_once old new contents b kept on spent lent same = record {
    same = kept.same ∙ ap (pictures_here lease) (sym on);
    few = subst (λ (xs : List (OnLayer L)). length xs ≤ 4294967295) (sym on) kept.few;
    lends = subst (λ (x : Option (List Picture) × List (KeptRead L) × List (OnLayer L)). AreThere lease (lent_pixels x.0) (x.1 ++ map read_of x.2)) (λ i. (sym lent i, sym same i, sym on i)) kept.lends;
    unlent = λ e. same ∙ kept.unlent (sym lent ∙ e);
    unchanged = subst (λ (x : Option (List Picture) × List (KeptRead L) × List (OnLayer L)). IfSome x.0 (λ pics. b ≡ false → (pics ≡ pictures lease x.2) × (x.1 ≡ [])))
        (λ i. (sym lent i, sym same i, sym on i)) kept.unchanged;
    keeps = λ alive. absurd (true≢false (sym spent ∙ alive));
  }

  -- a vsync between two handlers: what was decided, and what was settled of it
  pub record Makes (old : HandlerOf L) (facts : FactsOf) (q : QueuesOf L) (on : List (OnLayer L)) (eye now mid next : E) (arrived : List (Arrival L)) (seen : Seen) (expected : ℕ)
      (stage made : StageOf L) (waits : List (ℕ × Hold)) (later : QueuesOf L) (noted : FactsOf) (readings : List (OnLayer L)) (contents : List Picture)
      (releases : List (ReleaseOf L)) (all kept : List (KeptRead L)) : Type 0 where
    pub alive : old.is_spent ≡ false
    pub frames : facts.frames ≡ old.frames
    pub queues : q ≡ record { pending = old.pending; last = old.last }
    pub on_is : on ≡ old.on
    pub decides : DecidesAll lease old.tree on facts q eye arrived seen expected stage waits later noted now
    pub stage_is : stage ≡ made
    pub settles : SettlesAll lease made.on made.gone old.kept readings contents releases all
    pub settled_eye : IsEyeAfter lease now mid []
    pub left : IsEyeAfter lease mid next (if is_some old.lent then [] else ends_of lease all)
    pub kept_is : kept ≡ (if is_some old.lent then all else [])
    pub lends : AreThere lease (lent_pixels old.lent) (old.kept ++ map read_of old.on)
    pub unlent : old.lent ≡ None → old.kept ≡ []
    pub handler : IsHandler lease old
    pub fits : FitsHandler lease eye old
    pub brought : AllLeases (lease.fits (lease.mark eye)) arrived
    pub rising : IsRisingFrom old.last arrived (last_of old.last arrived)

  module _ (old : HandlerOf L) (facts : FactsOf) (q : QueuesOf L) (on : List (OnLayer L)) (eye now mid next : E) (arrived : List (Arrival L)) (seen : Seen) (expected : ℕ)
      (stage made : StageOf L) (waits : List (ℕ × Hold)) (later : QueuesOf L) (noted : FactsOf) (readings : List (OnLayer L)) (contents : List Picture)
      (releases : List (ReleaseOf L)) (all kept : List (KeptRead L))
      (m : Makes old facts q on eye now mid next arrived seen expected stage made waits later noted readings contents releases all kept) where
    begins : Begins eye on q.pending arrived
    begins = begins_with old on q eye arrived m.handler m.fits m.brought m.on_is m.queues

    end_is : made ≡ m.decides.end.stage
    end_is = sym m.stage_is ∙ m.decides.stage_is

    mark_is : lease.mark next ≡ lease.mark eye
    mark_is = m.left.mark ∙ (m.settled_eye.mark ∙ m.decides.eye_is.mark)

    mark_now : lease.mark next ≡ lease.mark now
    mark_now = m.left.mark ∙ m.settled_eye.mark

    readable_gone : All (IsReadable now) made.gone
    readable_gone = subst (λ (s : StageOf L). All (IsReadable now) s.gone) m.stage_is (stage_gone old.tree on facts q eye arrived seen expected stage waits later noted now m.decides begins)

    there_all : AreThere lease (lent_pixels old.lent) (all ++ map read_of made.on)
    there_all =
        subst (λ (reads : List (KeptRead L)). AreThere lease (lent_pixels old.lent) (reads ++ map read_of made.on)) (sym m.settles.kept_are)
        (subst (λ (s : StageOf L). AreThere lease (lent_pixels old.lent) ((old.kept ++ reads_of s.gone) ++ map read_of s.on)) m.stage_is
        (there_still old.tree on facts q eye arrived seen expected stage waits later noted now m.decides begins (lent_pixels old.lent) old.kept
        (subst (λ (xs : List (OnLayer L)). AreThere lease (lent_pixels old.lent) (old.kept ++ map read_of xs)) (sym m.on_is) m.lends)))

    last_is : later.last ≡ last_of old.last arrived
    last_is = ap (λ (x : QueuesOf L). x.last) m.decides.queues ∙ ap (λ (x : QueuesOf L). last_of x.last arrived) m.queues

    readable_on : All (IsReadable now) made.on
    readable_on = subst (λ (s : StageOf L). All (IsReadable now) s.on) m.stage_is (stage_on old.tree on facts q eye arrived seen expected stage waits later noted now m.decides begins)

    abbrev pub handler_after : HandlerOf L
    handler_after = record {
      width = old.width;
      height = old.height;
      tree = made.tree;
      pending = later.pending;
      frames = noted.frames;
      on = readings;
      last = later.last;
      is_spent = false;
      lent = old.lent;
      kept = kept;
    }

    fits_after : FitsHandler lease next handler_after
    fits_after = record {
      pending = subst (λ mark. AllLeases (lease.fits mark) later.pending) (sym mark_is)
          (subst (λ (x : QueuesOf L). AllLeases (lease.fits (lease.mark eye)) x.pending) (sym m.decides.queues)
          (waits_fit_still old.tree on facts q eye arrived seen expected stage waits later noted now m.decides begins));
      on = subst (AllOn (lease.fits (lease.mark next))) (sym m.settles.on_is)
          (fits_shown (lease.mark next) made.on (subst (λ mark. AllOn (lease.fits mark) made.on) (sym mark_now) (fits_of now made.on readable_on)));
      kept = subst (AllKept (lease.fits (lease.mark next))) (sym m.kept_is)
          (kept_fit (lease.fits (lease.mark next)) old.lent all (subst (AllKept (lease.fits (lease.mark next))) (sym m.settles.kept_are)
          (All-append (λ (read : KeptRead L). lease.fits (lease.mark next) read.lease) old.kept (reads_of made.gone)
          (subst (λ mark. AllKept (lease.fits mark) old.kept) (sym mark_is) m.fits.kept)
          (reads_fit (lease.fits (lease.mark next)) made.gone (subst (λ mark. AllOn (lease.fits mark) made.gone) (sym mark_now) (fits_of now made.gone readable_gone))))));
    }

    pub decides_vsync : Decides lease old eye arrived seen expected (record { commits = made.commits; releases = releases; held = waits }) handler_after next
    decides_vsync =
        let d = m.decides in
        let s = m.settles in
        let read = s.on_is ∙ ap (λ (x : StageOf L). map shown_on x.on) end_is in
        record {
          alive = m.alive;
          looked = d.looked;
          looks = subst (λ (x : QueuesOf L). AllZip (IsLookedArrival lease) (x.pending ++ arrived) d.looked) m.queues d.looks;
          shown = shown_later eye now next d.looked (λ l knows. m.left.keeps l (m.settled_eye.keeps l knows)) d.shown;
          end = d.end;
          decided = record {
            taken = d.decided.taken;
            leads = subst (λ (b : Round L). Leads lease.shown seen expected b d.decided.taken d.end)
                (λ i. record { stage = record { tree = old.tree; on = m.on_is i; commits = []; gone = [] }; pending = d.looked; frames = m.frames i; fresh = [] })
                d.decided.leads;
            rests = d.decided.rests;
          };
          settled = record {
            commits = ap (λ (x : StageOf L). x.commits) end_is;
            held = d.holds;
            releases = subst (λ (x : StageOf L). AllZip (IsReleaseOf lease) x.gone releases) end_is s.released;
            frames = d.frames;
            state = λ i. record {
              width = old.width;
              height = old.height;
              tree = (end_is i).tree;
              pending = (d.queues i).pending;
              frames = noted.frames;
              on = read i;
              last = last_is i;
              is_spent = sym m.alive i;
              lent = old.lent;
              kept = kept;
            };
            kept = m.kept_is ∙ (kept_after old.lent old.kept all (reads_of made.gone) m.unlent s.kept_are ∙ ap (λ (x : StageOf L). old.kept ++ kept_if old.lent (reads_of x.gone)) end_is);
            reads = subst (λ (x : StageOf L). IsEyeAfter lease eye next (ends_of lease (left_if old.lent (reads_of x.gone)))) end_is
                (subst (IsEyeAfter lease eye next) (left_after old.lent old.kept all (reads_of made.gone) m.unlent s.kept_are)
                (then_after lease eye mid next [] (if is_some old.lent then [] else ends_of lease all) (then_after lease eye now mid [] [] d.eye_is m.settled_eye) m.left));
            fits = λ _ _. fits_after;
          };
        }

    pub kept_vsync : IsKept lease handler_after contents (is_some old.lent)
    kept_vsync = record {
      same = m.settles.contents_are ∙ (sym (pictures_read made.on) ∙ ap (pictures_here lease) (sym m.settles.on_is));
      few = m.settles.few;
      lends = subst (λ (xs : List (OnLayer L)). AreThere lease (lent_pixels old.lent) (kept ++ map read_of xs)) (sym m.settles.on_is)
          (subst (λ (reads : List (KeptRead L)). AreThere lease (lent_pixels old.lent) (kept ++ reads)) (sym (reads_read made.on))
          (subst (λ (reads : List (KeptRead L)). AreThere lease (lent_pixels old.lent) (reads ++ map read_of made.on)) (sym m.kept_is)
          (there_kept old.lent all (map read_of made.on) there_all)));
      unlent = λ none. m.kept_is ∙ none_kept old.lent all none;
      unchanged = changed old.lent (λ lent. (lent ≡ pictures lease readings) × (kept ≡ []));
      keeps = λ _. record {
        display = m.handler.display;
        stands = subst (Stands made.tree.layers) (sym m.settles.on_is)
            (subst (λ (x : StageOf L). Stands x.tree.layers (map shown_on x.on)) (sym end_is)
            (stands_still old.tree on facts q eye arrived seen expected stage waits later noted now m.decides begins (subst (Stands old.tree.layers) (sym m.on_is) m.handler.stands)));
        read = subst (All (λ (one : OnLayer L). one.is_read ≡ true)) (sym m.settles.on_is) (read_shown made.on);
        crops = m.settles.crops;
        rising = subst (λ (n : ℕ). IsRisingFrom 0 later.pending n) (sym (ap (λ (x : QueuesOf L). x.last) m.decides.queues))
            (subst (λ (x : QueuesOf L). IsRisingFrom 0 x.pending (last_of q.last arrived)) (sym m.decides.queues)
            (rising_still old.tree on facts q eye arrived seen expected stage waits later noted now m.decides begins
            (subst (λ (x : QueuesOf L). IsRisingFrom 0 x.pending x.last) (sym m.queues) m.handler.rising)
            (subst (λ (x : QueuesOf L). IsRisingFrom x.last arrived (last_of x.last arrived)) (sym m.queues) m.rising)));
      };
    }

  -- the same said of the same handler and of what is told
  pub decides_same : (old same : HandlerOf L) (eye next : E) (arrived : List (Arrival L)) (seen : Seen) (expected : ℕ) (told known : CommittedOf L) (new : HandlerOf L)
      → old ≡ same → told ≡ known → Decides lease old eye arrived seen expected told new next → Decides lease same eye arrived seen expected known new next
  decides_same old same eye next arrived seen expected told known new at said decides =
      subst (λ (h : HandlerOf L). Decides lease h eye arrived seen expected known new next) at
      (subst (λ (t : CommittedOf L). Decides lease old eye arrived seen expected t new next) said decides)

  pub kept_as : (h : HandlerOf L) (contents : List Picture) (b c : Bool) → c ≡ b → IsKept lease h contents b → IsKept lease h contents c
  kept_as h contents b c same kept = subst (IsKept lease h contents) (sym same) kept

  -- the same said of a vsync that stops, whatever it answers with
  pub stops_same : {A F : Type 0} (answer : Result A F) (old same new : HandlerOf L) (eye eye' : E) (arrived : List (Arrival L)) (seen : Seen) (expected : ℕ)
      → old ≡ same → Stops lease old eye arrived seen expected new eye' → OnErr answer (Stops lease same eye arrived seen expected new eye')
  stops_same (Ok x) old same new eye eye' arrived seen expected at stops = tt
  stops_same (Err e) old same new eye eye' arrived seen expected at stops = subst (λ (h : HandlerOf L). Stops lease h eye arrived seen expected new eye') at stops

  -- a vsync that was made stops when its view finds no memory: it handed back all that went
  pub stops_unseen : (old made new : HandlerOf L) (eye eye' : E) (arrived : List (Arrival L)) (seen : Seen) (expected : ℕ) (told : CommittedOf L)
      → Decides lease old eye arrived seen expected told made eye' → FitsHandler lease eye old → AllLeases (lease.fits (lease.mark eye)) arrived
      → new.is_spent ≡ true → new.lent ≡ made.lent → new.kept ≡ made.kept → Stops lease old eye arrived seen expected new eye'
  stops_unseen old made new eye eye' arrived seen expected told d fits brought spent lent kept =
      let s = d.settled in
      record {
        spent = spent;
        lent = lent ∙ ap (λ (h : HandlerOf L). h.lent) s.state;
        handed = d.end.stage.gone;
        gone = inr (record { looked = d.looked; looks = d.looks; shown = d.shown; end = d.end; decided = d.decided; left = []; all = append-nil d.end.stage.gone });
        kept = kept ∙ s.kept;
        reads = s.reads;
        fits = λ _. subst (AllKept (lease.fits (lease.mark eye))) (sym kept) (subst (λ m. AllKept (lease.fits m) made.kept) s.reads.mark (s.fits fits brought).kept);
      }

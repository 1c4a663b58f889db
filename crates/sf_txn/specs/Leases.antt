-- What looks make of leases, buffers and eyes.
use Rattle.std.specs.Prelude.{◌≡◌, ℕ, ◌↔◌, true, List, ◌++◌, IsTrue}
use Rattle.sf_txn.specs.Buffers.{Buffer}
use Rattle.sf_txn.specs.Counts.{HasRisen}
use Rattle.sf_txn.specs.declared.lease.Lease.{Ghosts}

module _ {L E R C : Type 0} (lease : Ghosts L E R C) where
  -- a lease that was looked at: nothing else of it changed than what looks show
  pub record IsLooked (old new : L) : Type 0 where
    pub plain : lease.plain new ≡ lease.plain old
    pub picture : lease.picture new ≡ lease.picture old
    pub end : lease.end new ≡ lease.end old
    pub next_end : lease.next_end new ≡ lease.next_end old
    pub fits : (m : lease.Mark) → lease.fits m new ↔ lease.fits m old
    pub test : (e : E) → lease.knows e new ↔ lease.knows e old
    pub looks : HasRisen (lease.looks old) (lease.looks new)

  -- a buffer whose lease was looked at
  pub record IsLookedBuffer (old new : Buffer L) : Type 0 where
    pub layer : new.layer ≡ old.layer
    pub shown : new.shown ≡ old.shown
    pub fence : new.fence ≡ old.fence
    pub looked : IsLooked old.lease new.lease

  -- what a look showed is so: a true one is known from then on, what was known before is true, and an exact eye says
  -- by the ends that it had
  pub record IsShownTo (old new : E) (l : L) : Type 0 where
    pub known : IsTrue (lease.shown l) → lease.knows new l
    pub still : lease.knows old l → IsTrue (lease.shown l)
    pub exact : lease.is_exact (lease.mark old) ≡ true → lease.shown l ≡ lease.tells (lease.ends old) (lease.end l)

  -- an eye after a call: what it knew it knows, and it made these ends more
  pub record IsEyeAfter (old new : E) (made : List (ℕ × ℕ)) : Type 0 where
    pub mark : lease.mark new ≡ lease.mark old
    pub ends : lease.ends new ≡ lease.ends old ++ made
    pub keeps : (l : L) → lease.knows old l → lease.knows new l

-- Looks at buffers, one after another.
use Rattle.std.proofs.Common.{◌≡◌, ℕ, ◌+◌, ◌<◌, ◌≤◌, Bool, List, [], ◌∷◌, ◌++◌, length, get_or, map, take, drop, refl, ap, ◌∙◌, sym, subst, arith, append-nil}
use Rattle.std.specs.List.{All, AllZip, slice_set}
use Rattle.std.proofs.lemmas.List.{drop_more, drop-set-lt, map-append, take_more, take_more_set, take_all}
use Rattle.std.proofs.lemmas.List.Elements.{All-push, All-weaker}
use Rattle.std.proofs.lemmas.Slice.Zip.{all_zipped_more}
use Rattle.sf_txn.specs.Buffers.{Buffer}
use Rattle.sf_txn.specs.Leases.{IsEyeAfter, IsLookedBuffer, IsShownTo}
use Rattle.sf_txn.specs.Transactions.{Contents, IsTransaction, shown_by}
use Rattle.sf_txn.specs.declared.lease.Lease.{Ghosts}

module _ {L E R C : Type 0} (lease : Ghosts L E R C) where
  -- the buffers below an index were looked at, and the others are as they were
  pub record LookedBelow (before after : E) (old new : List (Buffer L)) (answers : List Bool) (index : ℕ) : Type 0 where
    pub looked : AllZip (IsLookedBuffer lease) (take index old) (take index new)
    pub rest : drop index new ≡ drop index old
    pub told : All (λ buffer. IsShownTo lease before after buffer.lease) (take index new)
    pub shown : answers ≡ map (λ buffer. lease.shown buffer.lease) (take index new)
    pub eye : IsEyeAfter lease before after []

  -- an eye after two calls
  pub eye_then : (a b c : E) → IsEyeAfter lease a b [] → IsEyeAfter lease b c [] → IsEyeAfter lease a c []
  eye_then a b c p q = record {
    mark = q.mark ∙ p.mark;
    ends = q.ends ∙ (append-nil (lease.ends b) ∙ p.ends);
    keeps = λ l h. q.keeps l (p.keeps l h);
  }

  -- what a look showed stays so for an eye that makes no ends
  pub shown_later : (a b c : E) (l : L) → IsEyeAfter lease b c [] → IsShownTo lease a b l → IsShownTo lease a c l
  shown_later a b c l q s = record { known = λ h. q.keeps l (s.known h); still = s.still; exact = s.exact }

  -- what a look showed is so for the eye as it was before it made no ends
  pub shown_earlier : (a b c : E) (l : L) → IsEyeAfter lease a b [] → IsShownTo lease b c l → IsShownTo lease a c l
  shown_earlier a b c l p s = record {
    known = s.known;
    still = λ h. s.still (p.keeps l h);
    exact = λ h. s.exact (ap lease.is_exact p.mark ∙ h) ∙ ap (λ ends. lease.tells ends (lease.end l)) (p.ends ∙ append-nil (lease.ends a));
  }

  -- the next buffer is as it was
  pub next-same : (old new : List (Buffer L)) (index : ℕ) (d : Buffer L) → index < length new → length new ≡ length old → drop index new ≡ drop index old → get_or new index d ≡ get_or old index d
  next-same old new index d inside size rest =
      let both : (get_or new index d ∷ drop (index + 1) new) ≡ (get_or old index d ∷ drop (index + 1) old) = sym (drop_more new index d inside) ∙ (rest ∙ drop_more old index d (omega arith)) in
      cc

  -- the eye fits the next buffer
  pub next-fits : (before mid : E) (old new : List (Buffer L)) (answers : List Bool) (index : ℕ) (d : Buffer L) → index < length new → length new ≡ length old → LookedBelow before mid old new answers index → All (λ buffer. lease.fits (lease.mark before) buffer.lease) old → lease.fits (lease.mark mid) (get_or new index d).lease
  next-fits before mid old new answers index d inside size b fits =
      subst (λ (m : lease.Mark). lease.fits m (get_or new index d).lease) (sym b.eye.mark)
      (subst (λ (x : Buffer L). lease.fits (lease.mark before) x.lease) (sym (next-same old new index d inside size b.rest)) (fits index d (omega arith)))

  -- one more was looked at
  pub LookedBelow-more : (before mid after : E) (old new : List (Buffer L)) (shown : List Bool) (index : ℕ) (d next : Buffer L) → index < length new → length new ≡ length old → IsLookedBuffer lease (get_or new index d) next → IsShownTo lease mid after next.lease → IsEyeAfter lease mid after [] → LookedBelow before mid old new shown index → LookedBelow before after old (slice_set new index next) (shown ++ lease.shown next.lease ∷ []) (index + 1)
  LookedBelow-more before mid after old new shown index d next inside size looked told eye b = record {
    looked = rw (take_more old index d (omega arith), taken) (all_zipped_more (IsLookedBuffer lease) (take index old) (take index new) (get_or old index d) next b.looked (rw (sym same) looked));
    rest = drop-set-lt (index + 1) new index next (omega arith) ∙ after_same;
    told = rw taken (All-push (λ buffer. IsShownTo lease before after buffer.lease) (take index new) next (All-weaker (λ buffer. IsShownTo lease before mid buffer.lease) (λ buffer. IsShownTo lease before after buffer.lease) (λ buffer s. shown_later before mid after buffer.lease eye s) (take index new) b.told) (shown_earlier before mid after next.lease b.eye told));
    shown = rw (taken, map-append (λ buffer. lease.shown buffer.lease) (take index new) (next ∷ [])) (ap (λ ss. ss ++ lease.shown next.lease ∷ []) b.shown);
    eye = eye_then before mid after b.eye eye;
  }
    where
      taken : take (index + 1) (slice_set new index next) ≡ take index new ++ next ∷ []
      taken = take_more_set new index next inside

      same : get_or new index d ≡ get_or old index d
      same = next-same old new index d inside size b.rest

      after_same : drop (index + 1) new ≡ drop (index + 1) old
      after_same =
          let both : (get_or new index d ∷ drop (index + 1) new) ≡ (get_or old index d ∷ drop (index + 1) old) = sym (drop_more new index d inside) ∙ (b.rest ∙ drop_more old index d (omega arith)) in
          cc

  -- looks change nothing of what buffers show
  shown_by-looked : (old new : List (Buffer L)) → AllZip (IsLookedBuffer lease) old new → map shown_by new ≡ map shown_by old
  shown_by-looked [] [] all = refl
  shown_by-looked [] (y ∷ ys) all = absurd all
  shown_by-looked (x ∷ xs) [] all = absurd all
  shown_by-looked (x ∷ xs) (y ∷ ys) all = rw (all.0.layer, all.0.shown) (ap (λ zs. shown_by x ∷ zs) (shown_by-looked xs ys all.1))

  pub IsTransaction-looked : (txn : Contents L) (new : List (Buffer L)) → IsTransaction txn → AllZip (IsLookedBuffer lease) txn.buffers new → IsTransaction (record txn { buffers = new })
  IsTransaction-looked txn new h all = record {
    few = h.few;
    in_range = h.in_range;
    apart = h.apart;
    shown = h.shown ∙ sym (shown_by-looked txn.buffers new all);
  }

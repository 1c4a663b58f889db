-- Buffers that go, one after another.
use Rattle.std.proofs.Common.{◌≡◌, ℕ, ◌<◌, List, [], ◌∷◌, ◌++◌, length, map, Option, Some, None, refl, ap, sym, ◌∙◌, subst, arith}
use Rattle.std.specs.List.{All, AllZip}
use Rattle.std.specs.Prelude.{filter}
use Rattle.std.proofs.lemmas.List.{append-nil, append_assoc, map-append}
use Rattle.std.proofs.lemmas.List.Elements.{All-append, All-cons, All-nil, All-tail, All-weaker, filter-append}
use Rattle.sf_view.specs.sf_picture.declared.picture.Picture.{Picture}
use Rattle.sf_commit_next.specs.sf_txn.Leases.{IsEyeAfter}
use Rattle.sf_commit_next.specs.sf_txn.declared.lease.Lease.{Ghosts}
use Rattle.sf_commit.specs.Leases.{AllOn, IsKnownOn, IsReleaseOf, ShowsLease, here_if, pictures_here}
use Rattle.sf_commit.specs.Lending.{KeepsSome, KeptRead, read_of, reads_of}
use Rattle.sf_commit.specs.Inside.{ShowsHere, here_of, place_of}
use Rattle.sf_commit.specs.OnLayers.{OnLayer, shown_on}
use Rattle.sf_commit.specs.Releases.{ReleaseOf}
use Rattle.sf_commit.specs.declared.on.TakenPixels.{TakenPixels}
use Rattle.sf_commit.specs.declared.on.TakenPixels.TheVariants as taken_pixels

zip_push : {A B : Type 0} (R : A → B → Type 0) (xs : List A) (ys : List B) (x : A) (y : B) → AllZip R xs ys → R x y → AllZip R (xs ++ x ∷ []) (ys ++ y ∷ [])
zip_push R [] [] x y h r = (r, tt)
zip_push R [] (b ∷ ys) x y h r = absurd h
zip_push R (a ∷ xs) [] x y h r = absurd h
zip_push R (a ∷ xs) (b ∷ ys) x y h r = (h.0, zip_push R xs ys x y h.1 r)

-- pixels that are taken from those at hand show their picture
pub taken_shows : (taken : TakenPixels) (place : Option ℕ) (picture : Picture) (before after : List Picture) → place_of taken ≡ place → here_of taken ++ after ≡ here_if place picture ++ before
    → ShowsHere taken picture × (after ≡ before)
taken_shows (taken_pixels.Here painted) None picture before after at here = let both : painted ∷ after ≡ picture ∷ before = here in (cc, cc)
taken_shows (taken_pixels.Here painted) (Some p) picture before after at here = cc
taken_shows (taken_pixels.Lent q) None picture before after at here = cc
taken_shows (taken_pixels.Lent q) (Some p) picture before after at here = (refl, here)

pub some_here : (place : Option ℕ) (picture : Picture) (before : List Picture) → place ≡ None → 0 < length (here_if place picture ++ before)
some_here None picture before e = omega arith
some_here (Some p) picture before e = cc

module _ {L : Type 0} where
  pub reads-append : (xs ys : List (OnLayer L)) → reads_of (xs ++ ys) ≡ reads_of xs ++ reads_of ys
  reads-append xs ys =
      ap (map read_of) (filter-append (λ (one : OnLayer L). one.is_read) xs ys)
      ∙ map-append read_of (filter (λ (one : OnLayer L). one.is_read) xs) (filter (λ (one : OnLayer L). one.is_read) ys)

module _ {L E R C : Type 0} (lease : Ghosts L E R C) where
  pub eye_same : (eye : E) → IsEyeAfter lease eye eye []
  eye_same eye = record { mark = refl; ends = sym (append-nil (lease.ends eye)); keeps = λ l knows. knows }

  pub then_after : (old now next : E) (made more : List (ℕ × ℕ)) → IsEyeAfter lease old now made → IsEyeAfter lease now next more → IsEyeAfter lease old next (made ++ more)
  then_after old now next made more first second = record {
    mark = second.mark ∙ first.mark;
    ends = second.ends ∙ (ap (λ ends. ends ++ more) first.ends ∙ append_assoc (lease.ends old) made more);
    keeps = λ l knows. second.keeps l (first.keeps l knows);
  }

  -- these were released, and those are left
  pub record Released (gone : List (OnLayer L)) (releases : List (ReleaseOf L)) (rest : List (OnLayer L)) (old now : List (KeptRead L)) : Type 0 where
    pub done : List (OnLayer L)
    pub all : done ++ rest ≡ gone
    pub released : AllZip (IsReleaseOf lease) done releases
    pub kept : now ≡ old ++ reads_of done

  pub released_more : (gone rest : List (OnLayer L)) (releases : List (ReleaseOf L)) (one : OnLayer L) (release : ReleaseOf L) (old now next : List (KeptRead L))
      → Released gone releases (one ∷ rest) old now → IsReleaseOf lease one release → next ≡ now ++ reads_of (one ∷ []) → Released gone (releases ++ release ∷ []) rest old next
  released_more gone rest releases one release old now next so is kept = record {
    done = so.done ++ one ∷ [];
    all = append_assoc so.done (one ∷ []) rest ∙ so.all;
    released = zip_push (IsReleaseOf lease) so.done releases one release so.released is;
    kept = kept ∙ (ap (λ reads. reads ++ reads_of (one ∷ [])) so.kept ∙ (append_assoc old (reads_of so.done) (reads_of (one ∷ [])) ∙ ap (λ reads. old ++ reads) (sym (reads-append so.done (one ∷ [])))));
  }

  pub released_none : (gone : List (OnLayer L)) (kept now : List (KeptRead L)) → now ≡ kept → Released gone [] gone kept now
  released_none gone kept now same = record { done = []; all = refl; released = tt; kept = same ∙ sym (append-nil kept) }

  pub released_all : (gone : List (OnLayer L)) (releases : List (ReleaseOf L)) (old now : List (KeptRead L)) → Released gone releases [] old now
      → AllZip (IsReleaseOf lease) gone releases × (now ≡ old ++ reads_of gone)
  released_all gone releases old now so =
      let same = sym (append-nil so.done) ∙ so.all in
      (subst (λ xs. AllZip (IsReleaseOf lease) xs releases) same so.released, so.kept ∙ ap (λ xs. old ++ reads_of xs) same)

  -- so far some were handed back
  pub released_some : (gone : List (OnLayer L)) (releases : List (ReleaseOf L)) (rest : List (OnLayer L)) (old now next : List (KeptRead L)) → Released gone releases rest old now → next ≡ now
      → KeepsSome old next gone
  released_some gone releases rest old now next so same = record { handed = so.done; left = rest; all = so.all; kept = same ∙ so.kept }

  -- the pixels of these are out, and those are left
  pub record Opened (on : List (OnLayer L)) (first made : List (OnLayer L) × List Picture) (rest : List (OnLayer L)) (old now : E) : Type 0 where
    pub reads : made.0 ++ map shown_on rest ≡ first.0 ++ map shown_on on
    pub shows : made.1 ++ pictures_here lease rest ≡ first.1 ++ pictures_here lease on
    pub crops : All (ShowsLease lease) first.0 → All (ShowsLease lease) made.0
    pub eye : IsEyeAfter lease old now []
    pub fits : AllOn (lease.fits (lease.mark now)) rest
    pub known : All (IsKnownOn lease now) rest

  pub opened_none : (on : List (OnLayer L)) (first : List (OnLayer L) × List Picture) (eye : E) → AllOn (lease.fits (lease.mark eye)) on → All (IsKnownOn lease eye) on
      → Opened on first first on eye eye
  opened_none on first eye fits known = record {
    reads = refl;
    shows = refl;
    crops = λ all. all;
    eye = record { mark = refl; ends = sym (append-nil (lease.ends eye)); keeps = λ l knows. knows };
    fits = fits;
    known = known;
  }

  pub opened_more : (on rest : List (OnLayer L)) (first : List (OnLayer L) × List Picture) (readings : List (OnLayer L)) (contents : List Picture) (one : OnLayer L) (old now next : E)
      → Opened on first (readings, contents) (one ∷ rest) old now → IsEyeAfter lease now next [] → ShowsLease lease (shown_on one)
      → Opened on first (readings ++ shown_on one ∷ [], contents ++ here_if one.place (lease.picture one.lease)) rest old next
  opened_more on rest first readings contents one old now next so e crop = record {
    reads = append_assoc readings (shown_on one ∷ []) (map shown_on rest) ∙ so.reads;
    shows = append_assoc contents (here_if one.place (lease.picture one.lease)) (pictures_here lease rest) ∙ so.shows;
    crops = λ all. All-append (ShowsLease lease) readings (shown_on one ∷ []) (so.crops all) (All-cons (ShowsLease lease) (shown_on one) [] crop (All-nil (ShowsLease lease)));
    eye = then_after old now next [] [] so.eye e;
    fits = subst (λ m. AllOn (lease.fits m) rest) (sym e.mark) (All-tail (λ (x : OnLayer L). lease.fits (lease.mark now) x.lease) one rest so.fits);
    known = All-weaker (IsKnownOn lease now) (IsKnownOn lease next) (λ x known. record { known = λ unread. e.keeps x.lease (known.known unread) }) rest (All-tail (IsKnownOn lease now) one rest so.known);
  }

-- The calls of a compositor among threads are the releases of its vsyncs, and no other.
use Rattle.std.proofs.Common.{◌≡◌, ℕ, ◌==◌, Bool, true, false, List, [], ◌∷◌, ◌++◌, map, refl, ap, sym, ◌∙◌, subst, inl, inr}
use Rattle.std.specs.List.{All, AllZip}
use Rattle.std.proofs.lemmas.Bool.{cases_eq, eq-eqb, ne_eqb}
use Rattle.std.proofs.lemmas.List.{append-nil, append_assoc, map-append}
use Rattle.std.proofs.lemmas.List.Elements.{All-cons, All-head, All-tail, filter-append}
use Rattle.sf_base.specs.Fences.{Fence}
use Rattle.sf_base.specs.declared.ids.QueueId.{QueueId}
use Rattle.law_threads.specs.sf_calls.Histories.{GoesOnWithout, calls_by, entry}
use Rattle.law_threads.specs.sf_layer.declared.shown.Shown.{Shown}
use Rattle.law_threads.specs.sf_slots.declared.calls.Entry.{Entry}
use Rattle.law_threads.specs.sf_slots.declared.calls.PlainCall.TheVariants as plain
use Rattle.law_threads.specs.sf_surface.Histories.{Made, told, told_entry}
use Rattle.law_threads.specs.sf_surface.Reading.{PlainLease, plain_lease}
use Rattle.law_threads.specs.sf_surface.Tokens.{Issued, ReadLeaseOf}
use Rattle.law_threads.specs.sf_surface.declared.call.QCall.TheVariants as call
use Rattle.law_threads.specs.sf_surface.declared.call.QReply.{QReply}
use Rattle.law_threads.specs.sf_surface.declared.mark.QueueMark.{QueueMark}
use Rattle.law_threads.specs.sf_turns.Views.{SeatView}
use Rattle.law_threads.specs.sf_txn.declared.lease.Lease.{Ghosts}
use Rattle.law_threads.specs.sf_commit.Leases.{HandsBack, IsReleaseOf as IsGoneAs}
use Rattle.law_threads.specs.sf_commit.OnLayers.{OnLayer}
use Rattle.law_threads.specs.sf_commit.Releases.{ReleaseOf}
use Rattle.law_threads.specs.sf_script_scene.declared.declarations.QueueDecl.{QueueDecl}
use Rattle.law_threads.specs.sf_actor.Desks.{DeskHome, DeskView, mark_among}
use Rattle.law_threads.specs.sf_actor.Known.{Call, call_after, frame_of, own_calls, told_by}
use Rattle.law_threads.specs.sf_actor.Names.{FrameOf}
use Rattle.law_threads.proofs.sf_actor_lemmas.GoingOn.{own_same}
use Rattle.law_threads.specs.law_rights.Standing.{GiveAll, GivesOne}
use Rattle.law_threads.proofs.law_played_lemmas.RunGrowth.{IsReleaseOf, released_token}
use Rattle.law_threads.proofs.law_played_lemmas.LeaseLemmas.{plain_frame}
use Rattle.law_threads.proofs.law_played_lemmas.RunTraces.{own_told}
use Rattle.law_threads.specs.law_played.Actors.{IsRelease, mark_declared}
use Rattle.law_threads.specs.law_played.Framing.{framed_on}
use Rattle.law_threads.specs.law_played.Histories.{IsReleased, Released, released_on}
use Rattle.law_threads.specs.law_played.Runs.{calls_of}
use Rattle.law_joins.specs.Calls.{AreReleasesOn, IsGivenOn, entries_of}
use Rattle.law_threads.proofs.sf_play_lemmas.HandlerLeases.{IsOnLent, OfFrames}

-- partners of two lists, with one more on each
zip_more : {X Y : Type 0} (R : X → Y → Type 0) (xs : List X) (ys : List Y) (x : X) (y : Y) → AllZip R xs ys → R x y → AllZip R (xs ++ x ∷ []) (ys ++ y ∷ [])
zip_more R [] [] x y zip is = (is, tt)
zip_more R [] (b ∷ ys) x y zip is = absurd zip
zip_more R (a ∷ xs) [] x y zip is = absurd zip
zip_more R (a ∷ xs) (b ∷ ys) x y zip is = (zip.0, zip_more R xs ys x y zip.1 is)

-- the frames that go at a vsync, as they are told
abbrev pub told_back : ℕ → List (OnLayer ReadLeaseOf) → List Released
told_back number gone = map (λ (on : OnLayer FrameOf). record { vsync = number; on = on }) (map (framed_on frame_of) gone)

module _ {B : Type 0} where
  is_released : (mark : QueueMark) (earlier : List Entry) (vsync : ℕ) (lease : ReadLeaseOf) (fence : Fence) (reply : QReply B) (one : Released) → lease.queue.0 ≡ mark.queue.0
      → IsReleaseOf one vsync lease fence → IsReleased one (told_entry mark earlier (entry 0 (vsync, call.Release lease fence) reply))
  is_released mark earlier vsync lease fence reply one same of = record {
    step = sym of.at;
    call = (λ i. plain.Release (released_token mark.queue lease same i) fence) ∙ (λ i. plain.Release (sym of.leased i).1 (sym of.fenced i));
  }

  -- a frame that goes back in a release leaves releases alone
  one_releases : (home : DeskHome) (number : ℕ) (release : ReleaseOf ReadLeaseOf) (old new : DeskView B) → GivesOne home number release old new → (queue : ℕ) → AreReleasesOn (old.calls queue) → AreReleasesOn (new.calls queue)
  one_releases home number release old new one queue all = elim (cases_eq queue release.queue.0) [
    | inl same ↦
        let made : Made B = entry 0 (number, call.Release release.lease release.fence) one.reply in
        let was : AreReleasesOn (old.calls release.queue.0) = subst (λ (q : ℕ). AreReleasesOn (old.calls q)) same all in
        subst (λ (q : ℕ). AreReleasesOn (new.calls q)) (sym same)
        (subst AreReleasesOn (sym one.made.newest)
        (All-cons (λ (m : Made B). IsRelease m.call.1) made (calls_by 0 one.made.earlier) tt
        (subst (All (λ (m : Made B). IsRelease m.call.1)) (sym one.made.goes_on.calls) was)))
    | inr apart ↦ subst AreReleasesOn (sym (one.made.changes.others queue apart)) all
  ]

  pub all_releases : (home : DeskHome) (number : ℕ) (releases : List (ReleaseOf ReadLeaseOf)) (old new : DeskView B) → GiveAll home number releases old new → (queue : ℕ) → AreReleasesOn (old.calls queue) → AreReleasesOn (new.calls queue)
  all_releases home number [] old new gives queue all = subst (λ (v : DeskView B). AreReleasesOn (v.calls queue)) (sym gives) all
  all_releases home number (release ∷ later) old new gives queue all = all_releases home number later gives.0 new gives.2 queue (one_releases home number release old gives.0 gives.1 queue all)

  module _ (marks : List QueueMark) where
    module _ (declared : QueueDecl) (marked : mark_among marks declared.number ≡ mark_declared declared) (home : DeskHome) (number : ℕ) where
      one_given : (release : ReleaseOf ReadLeaseOf) (old new : DeskView B) (back : Released) (released : List Released) → GivesOne home number release old new → release.lease.queue.0 ≡ release.queue.0
          → IsReleaseOf back number release.lease release.fence → IsGivenOn marks old.calls released declared → IsGivenOn marks new.calls (released ++ back ∷ []) declared
      one_given release old new back released one own of zip =
          let mark : QueueMark = mark_among marks declared.number in
          let is_on : Released → Bool = λ r. r.on.lease.0.0 == declared.number in
          let numbered : mark.queue.0 ≡ declared.number = ap (λ (m : QueueMark). m.queue.0) marked in
          let leased : back.on.lease.0.0 ≡ release.queue.0 = ap (λ (f : FrameOf). f.0.0) of.leased ∙ own in
          let split = filter-append is_on released (back ∷ []) in
          let made : Made B = entry 0 (number, call.Release release.lease release.fence) one.reply in
          let earlier : List (Made B) = one.made.earlier in
          elim (cases_eq declared.number release.queue.0) [
            | inl same ↦
                let last : Entry = told_entry mark (told mark earlier) made in
                let met : (back.on.lease.0.0 == declared.number) ≡ true = eq-eqb back.on.lease.0.0 declared.number (leased ∙ sym same) in
                let more : released_on declared.number (released ++ back ∷ []) ≡ released_on declared.number released ++ back ∷ [] = split ∙ rw met refl in
                let grown : new.calls declared.number ≡ made ∷ earlier = subst (λ (q : ℕ). new.calls q ≡ made ∷ earlier) (sym same) one.made.newest in
                let goes : GoesOnWithout 0 (old.calls declared.number) earlier = subst (λ (q : ℕ). GoesOnWithout 0 (old.calls q) earlier) (sym same) one.made.goes_on in
                let calls : entries_of mark (new.calls declared.number) ≡ entries_of mark (old.calls declared.number) ++ last ∷ [] =
                ap (entries_of mark) grown
                ∙ map-append told_by (own_calls 0 mark earlier) (call_after mark earlier made ∷ [])
                ∙ ap (λ (cs : List (Call B)). map told_by cs ++ last ∷ []) (own_same 0 mark (old.calls declared.number) earlier goes) in
                subst (λ (rs : List Released). AllZip IsReleased rs (entries_of mark (new.calls declared.number))) (sym more)
                (subst (λ (es : List Entry). AllZip IsReleased (released_on declared.number released ++ back ∷ []) es) (sym calls)
                (zip_more IsReleased (released_on declared.number released) (entries_of mark (old.calls declared.number)) back last zip
                (is_released mark (told mark earlier) number release.lease release.fence one.reply back (own ∙ sym same ∙ sym numbered) of)))
            | inr apart ↦
                let unmet : (back.on.lease.0.0 == declared.number) ≡ false = ne_eqb back.on.lease.0.0 declared.number (λ e. apart (sym e ∙ leased)) in
                let more : released_on declared.number (released ++ back ∷ []) ≡ released_on declared.number released = split ∙ rw unmet (append-nil (released_on declared.number released)) in
                subst (λ (rs : List Released). AllZip IsReleased rs (entries_of mark (new.calls declared.number))) (sym more)
                (subst (λ (cs : List (Made B)). AllZip IsReleased (released_on declared.number released) (entries_of mark cs)) (sym (one.made.changes.others declared.number apart)) zip)
          ]

      module _ (lease : Ghosts ReadLeaseOf SeatView ReadLeaseOf Issued) (frames : OfFrames lease) (joined : DeskView B) where
        -- the lease that goes back is that of the frame, but for its right
        handed_plain : (is_read : Bool) (l back : ReadLeaseOf) → HandsBack lease is_read l back → plain_lease back ≡ plain_lease l
        handed_plain true l back handed = frames.plain back l handed.0
        handed_plain false l back handed = ap plain_lease handed

        gone_given : (on : OnLayer ReadLeaseOf) (release : ReleaseOf ReadLeaseOf) (old new : DeskView B) (released : List Released) → IsGoneAs lease on release → IsOnLent joined on → GivesOne home number release old new
            → IsGivenOn marks old.calls released declared → IsGivenOn marks new.calls (released ++ record { vsync = number; on = framed_on frame_of on } ∷ []) declared
        gone_given on release old new released is shows one zip =
            let same = handed_plain on.is_read on.lease release.lease is.handed in
            let own : release.lease.queue.0 ≡ release.queue.0 = ap (λ (l : PlainLease). l.queue.0) same ∙ sym (ap (λ (q : QueueId). q.0) is.queue ∙ ap (λ (s : Shown). s.queue.0) shows.shows) in
            one_given release old new (record { vsync = number; on = framed_on frame_of on }) released one own
            (record { at = refl; leased = plain_frame on.lease release.lease (sym same); fenced = sym is.fence }) zip

        pub all_given : (gone : List (OnLayer ReadLeaseOf)) (releases : List (ReleaseOf ReadLeaseOf)) (old new : DeskView B) (released : List Released) → AllZip (IsGoneAs lease) gone releases → All (IsOnLent joined) gone
            → GiveAll home number releases old new → IsGivenOn marks old.calls released declared → IsGivenOn marks new.calls (released ++ told_back number gone) declared
        all_given [] [] old new released are shows gives zip =
            subst (λ (rs : List Released). IsGivenOn marks new.calls rs declared) (sym (append-nil released)) (subst (λ (v : DeskView B). IsGivenOn marks v.calls released declared) (sym gives) zip)
        all_given [] (release ∷ later) old new released are shows gives zip = absurd are
        all_given (on ∷ gone) [] old new released are shows gives zip = absurd are
        all_given (on ∷ gone) (release ∷ later) old new released are shows gives zip =
            let one : Released = record { vsync = number; on = framed_on frame_of on } in
            let first = gone_given on release old gives.0 released are.0 (All-head (IsOnLent joined) on gone shows) gives.1 zip in
            let rest = all_given gone later gives.0 new (released ++ one ∷ []) are.1 (All-tail (IsOnLent joined) on gone shows) gives.2 first in
            subst (λ (rs : List Released). IsGivenOn marks new.calls rs declared) (append_assoc released (one ∷ []) (told_back number gone)) rest

    -- where they are so of a history, they are of one that goes on without the compositor
    pub given_on : (old new : ℕ → List (Made B)) (released : List Released) (declared : QueueDecl) → GoesOnWithout 0 (old declared.number) (new declared.number) → IsGivenOn marks old released declared
        → AllZip IsReleased (released_on declared.number released) (calls_of 0 (told (mark_among marks declared.number) (new declared.number)))
    given_on old new released declared goes zip =
        let mark = mark_among marks declared.number in
        subst (λ (es : List Entry). AllZip IsReleased (released_on declared.number released) es)
        (ap (map told_by) (sym (own_same 0 mark (old declared.number) (new declared.number) goes)) ∙ sym (own_told 0 mark (new declared.number))) zip

-- A vsync that is decided while the pixels of what is shown are lent is, once they are given back, the vsync that it is where nothing is lent.
use Rattle.std.proofs.Common.{◌≡◌, ℕ, ◌+◌, Bool, true, false, if◌then◌else◌, List, [], ◌∷◌, ◌++◌, map, Option, Some, None, Result, Ok, Err, refl, ap, sym, ◌∙◌, subst}
use Rattle.std.specs.Prelude.{filter}
use Rattle.std.specs.List.{All, AllZip, find}
use Rattle.std.specs.Option.{option_map, option_to_list}
use Rattle.std.proofs.lemmas.List.{append-nil, map-append}
use Rattle.std.proofs.lemmas.List.Elements.{All-cons, All-head, All-map, All-nil, All-tail, All-weaker}
use Rattle.sf_base.specs.declared.fences.Seen.{Seen}
use Rattle.sf_base.specs.declared.ids.LayerId.{LayerId}
use Rattle.sf_live_threads.specs.sf_layer.declared.op.Op.{Op}
use Rattle.sf_live_threads.specs.sf_layer.declared.op.Op.TheVariants as op
use Rattle.sf_live_threads.specs.sf_picture.declared.picture.Picture.{Picture}
use Rattle.sf_live_threads.specs.sf_token.Loads.{AllLeases}
use Rattle.sf_live_threads.specs.sf_token.Pending.{Arrival}
use Rattle.sf_live_threads.specs.sf_tree.Changes.{Rejection, after}
use Rattle.sf_live_threads.specs.sf_tree.Trees.{TreeOf}
use Rattle.sf_live_threads.specs.sf_txn.Buffers.{Buffer}
use Rattle.sf_live_threads.specs.sf_txn.Leases.{IsEyeAfter, IsShownTo}
use Rattle.sf_live_threads.specs.sf_txn.declared.lease.Lease.{Ghosts}
use Rattle.sf_live_threads.specs.sf_commit.Handlers.{Decides, HandlerOf, begun, last_of}
use Rattle.sf_live_threads.specs.sf_commit.Leases.{AllOn, IsReleaseOf}
use Rattle.sf_live_threads.specs.sf_commit.Lending.{KeptRead, ends_of, kept_if, left_if, read_of, reads_of}
use Rattle.sf_live_threads.specs.sf_commit.OnLayers.{OnLayer, at_hand, brought, gone_with, is_on, lent_from, on_after, shown_on, without}
use Rattle.sf_live_threads.specs.sf_commit.Releases.{ReleaseOf, CommittedOf}
use Rattle.sf_live_threads.specs.sf_commit.Rounds.{Decided, Leads, Round, StageOf, committed, stage_with}

module _ {L : Type 0} where
  -- the buffers of a stage, as they are where their pixels are at hand
  abbrev pub stage_at_hand : StageOf L → StageOf L
  stage_at_hand stage = record stage { on = map at_hand stage.on; gone = map at_hand stage.gone }

  abbrev pub round_at_hand : Round L → Round L
  round_at_hand r = record r { stage = stage_at_hand r.stage }

  pub hand_twice : (on : List (OnLayer L)) → map at_hand (map at_hand on) ≡ map at_hand on
  hand_twice [] = refl
  hand_twice (one ∷ on) = ap (λ (rest : List (OnLayer L)). at_hand one ∷ rest) (hand_twice on)

  pub lent_at_hand : (place : ℕ) (on : List (OnLayer L)) → map at_hand (lent_from place on) ≡ map at_hand on
  lent_at_hand place [] = refl
  lent_at_hand place (one ∷ on) = ap (λ (rest : List (OnLayer L)). at_hand one ∷ rest) (lent_at_hand (place + 1) on)

  pub shown_at_hand : (on : List (OnLayer L)) → map shown_on (map at_hand on) ≡ map at_hand (map shown_on on)
  shown_at_hand [] = refl
  shown_at_hand (one ∷ on) = ap (λ (rest : List (OnLayer L)). at_hand (shown_on one) ∷ rest) (shown_at_hand on)

  brought_at_hand : (buffers : List (Buffer L)) → map at_hand (map brought buffers) ≡ map brought buffers
  brought_at_hand [] = refl
  brought_at_hand (b ∷ bs) = ap (λ (rest : List (OnLayer L)). brought b ∷ rest) (brought_at_hand bs)

  -- layers are told apart as before
  if_at_hand : (b : Bool) (xs ys : List (OnLayer L)) → (if b then map at_hand xs else map at_hand ys) ≡ map at_hand (if b then xs else ys)
  if_at_hand true xs ys = refl
  if_at_hand false xs ys = refl

  without_at_hand : (layer : LayerId) (on : List (OnLayer L)) → without layer (map at_hand on) ≡ map at_hand (without layer on)
  without_at_hand layer [] = refl
  without_at_hand layer (one ∷ on) =
      ap (λ (rest : List (OnLayer L)). if is_on layer one then map at_hand on else at_hand one ∷ rest) (without_at_hand layer on)
      ∙ if_at_hand (is_on layer one) on (one ∷ without layer on)

  listed_at_hand : (found : Option (OnLayer L)) → option_to_list (option_map at_hand found) ≡ map at_hand (option_to_list found)
  listed_at_hand None = refl
  listed_at_hand (Some one) = refl

  find_if : (b : Bool) (one : OnLayer L) (found : Option (OnLayer L)) → (if b then Some (at_hand one) else option_map at_hand found) ≡ option_map at_hand (if b then Some one else found)
  find_if true one found = refl
  find_if false one found = refl

  find_at_hand : (layer : LayerId) (on : List (OnLayer L)) → find (is_on layer) (map at_hand on) ≡ option_map at_hand (find (is_on layer) on)
  find_at_hand layer [] = refl
  find_at_hand layer (one ∷ on) =
      ap (λ (rest : Option (OnLayer L)). if is_on layer one then Some (at_hand one) else rest) (find_at_hand layer on)
      ∙ find_if (is_on layer one) one (find (is_on layer) on)

  found_at_hand : (layer : LayerId) (on : List (OnLayer L)) → option_to_list (find (is_on layer) (map at_hand on)) ≡ map at_hand (option_to_list (find (is_on layer) on))
  found_at_hand layer on = ap option_to_list (find_at_hand layer on) ∙ listed_at_hand (find (is_on layer) on)

  -- a newer buffer
  put_at_hand : (layer : LayerId) (on : List (OnLayer L)) (b : Buffer L) → without layer (map at_hand on) ++ brought b ∷ [] ≡ map at_hand (without layer on ++ brought b ∷ [])
  put_at_hand layer on b = ap (λ (xs : List (OnLayer L)). xs ++ brought b ∷ []) (without_at_hand layer on) ∙ sym (map-append at_hand (without layer on) (brought b ∷ []))

  on_at_hand : (on : List (OnLayer L)) (ops : List (LayerId × Op)) (buffers : List (Buffer L)) → on_after (map at_hand on) ops buffers ≡ map at_hand (on_after on ops buffers)
  on_at_hand on [] buffers = refl
  on_at_hand on ((layer, op.Show shown) ∷ ops) [] = on_at_hand on ops []
  on_at_hand on ((layer, op.Show shown) ∷ ops) (b ∷ bs) =
      ap (λ (xs : List (OnLayer L)). on_after xs ops bs) (put_at_hand layer on b) ∙ on_at_hand (without layer on ++ brought b ∷ []) ops bs
  on_at_hand on ((layer, op.Destroy) ∷ ops) buffers =
      ap (λ (xs : List (OnLayer L)). on_after xs ops buffers) (without_at_hand layer on) ∙ on_at_hand (without layer on) ops buffers
  on_at_hand on ((layer, (op.Create kind parent)) ∷ ops) buffers = on_at_hand on ops buffers
  on_at_hand on ((layer, (op.Reparent parent)) ∷ ops) buffers = on_at_hand on ops buffers
  on_at_hand on ((layer, (op.Z z)) ∷ ops) buffers = on_at_hand on ops buffers
  on_at_hand on ((layer, (op.Relative other z)) ∷ ops) buffers = on_at_hand on ops buffers
  on_at_hand on ((layer, (op.Position x y)) ∷ ops) buffers = on_at_hand on ops buffers
  on_at_hand on ((layer, (op.Crop crop)) ∷ ops) buffers = on_at_hand on ops buffers
  on_at_hand on ((layer, (op.Alpha alpha)) ∷ ops) buffers = on_at_hand on ops buffers
  on_at_hand on ((layer, (op.Hidden hidden)) ∷ ops) buffers = on_at_hand on ops buffers
  on_at_hand on ((layer, (op.Opaque opaque)) ∷ ops) buffers = on_at_hand on ops buffers
  on_at_hand on ((layer, (op.Colour colour)) ∷ ops) buffers = on_at_hand on ops buffers
  on_at_hand on ((layer, (op.Backpressure backpressure)) ∷ ops) buffers = on_at_hand on ops buffers
  on_at_hand on ((layer, (op.Orient orient)) ∷ ops) buffers = on_at_hand on ops buffers

  gone_at_hand : (on : List (OnLayer L)) (ops : List (LayerId × Op)) (buffers : List (Buffer L)) → gone_with (map at_hand on) ops buffers ≡ map at_hand (gone_with on ops buffers)
  gone_at_hand on [] buffers = refl
  gone_at_hand on ((layer, op.Show shown) ∷ ops) [] = gone_at_hand on ops []
  gone_at_hand on ((layer, op.Show shown) ∷ ops) (b ∷ bs) =
      (λ i. found_at_hand layer on i ++ gone_with (put_at_hand layer on b i) ops bs)
      ∙ ap (λ (xs : List (OnLayer L)). map at_hand (option_to_list (find (is_on layer) on)) ++ xs) (gone_at_hand (without layer on ++ brought b ∷ []) ops bs)
      ∙ sym (map-append at_hand (option_to_list (find (is_on layer) on)) (gone_with (without layer on ++ brought b ∷ []) ops bs))
  gone_at_hand on ((layer, op.Destroy) ∷ ops) buffers =
      (λ i. found_at_hand layer on i ++ gone_with (without_at_hand layer on i) ops buffers)
      ∙ ap (λ (xs : List (OnLayer L)). map at_hand (option_to_list (find (is_on layer) on)) ++ xs) (gone_at_hand (without layer on) ops buffers)
      ∙ sym (map-append at_hand (option_to_list (find (is_on layer) on)) (gone_with (without layer on) ops buffers))
  gone_at_hand on ((layer, (op.Create kind parent)) ∷ ops) buffers = gone_at_hand on ops buffers
  gone_at_hand on ((layer, (op.Reparent parent)) ∷ ops) buffers = gone_at_hand on ops buffers
  gone_at_hand on ((layer, (op.Z z)) ∷ ops) buffers = gone_at_hand on ops buffers
  gone_at_hand on ((layer, (op.Relative other z)) ∷ ops) buffers = gone_at_hand on ops buffers
  gone_at_hand on ((layer, (op.Position x y)) ∷ ops) buffers = gone_at_hand on ops buffers
  gone_at_hand on ((layer, (op.Crop crop)) ∷ ops) buffers = gone_at_hand on ops buffers
  gone_at_hand on ((layer, (op.Alpha alpha)) ∷ ops) buffers = gone_at_hand on ops buffers
  gone_at_hand on ((layer, (op.Hidden hidden)) ∷ ops) buffers = gone_at_hand on ops buffers
  gone_at_hand on ((layer, (op.Opaque opaque)) ∷ ops) buffers = gone_at_hand on ops buffers
  gone_at_hand on ((layer, (op.Colour colour)) ∷ ops) buffers = gone_at_hand on ops buffers
  gone_at_hand on ((layer, (op.Backpressure backpressure)) ∷ ops) buffers = gone_at_hand on ops buffers
  gone_at_hand on ((layer, (op.Orient orient)) ∷ ops) buffers = gone_at_hand on ops buffers

  stage_with_at_hand : (stage : StageOf L) (a : Arrival L) (tree : Result TreeOf Rejection) → stage_with (stage_at_hand stage) a tree ≡ stage_at_hand (stage_with stage a tree)
  stage_with_at_hand stage a (Ok tree) = λ i. record {
    tree = tree;
    on = on_at_hand stage.on a.txn.ops a.txn.buffers i;
    commits = (stage_with stage a (Ok tree)).commits;
    gone = (ap (λ (xs : List (OnLayer L)). map at_hand stage.gone ++ xs) (gone_at_hand stage.on a.txn.ops a.txn.buffers)
        ∙ sym (map-append at_hand stage.gone (gone_with stage.on a.txn.ops a.txn.buffers))) i;
  }
  stage_with_at_hand stage a (Err rejection) = λ i. record {
    tree = stage.tree;
    on = map at_hand stage.on;
    commits = (stage_with stage a (Err rejection)).commits;
    gone = (ap (λ (xs : List (OnLayer L)). map at_hand stage.gone ++ xs) (sym (brought_at_hand a.txn.buffers))
        ∙ sym (map-append at_hand stage.gone (map brought a.txn.buffers))) i;
  }

  committed_at_hand : (r : Round L) (a : Arrival L) → committed (round_at_hand r) a ≡ round_at_hand (committed r a)
  committed_at_hand r a = ap (λ (stage : StageOf L). record (committed r a) { stage = stage }) (stage_with_at_hand r.stage a (after r.stage.tree a.txn.ops))

  -- what is at hand stays there
  here_stage : (stage : StageOf L) (a : Arrival L) (tree : Result TreeOf Rejection) → map at_hand stage.on ≡ stage.on → map at_hand (stage_with stage a tree).on ≡ (stage_with stage a tree).on
  here_stage stage a (Ok tree) here = sym (on_at_hand stage.on a.txn.ops a.txn.buffers) ∙ ap (λ (on : List (OnLayer L)). on_after on a.txn.ops a.txn.buffers) here
  here_stage stage a (Err rejection) here = here

  module _ (drawn : L → Bool) (seen : Seen) (expected : ℕ) where
    here_along : (r end : Round L) (taken : List (Arrival L)) → Leads drawn seen expected r taken end → map at_hand r.stage.on ≡ r.stage.on → map at_hand end.stage.on ≡ end.stage.on
    here_along r end [] leads here = subst (λ (x : Round L). map at_hand x.stage.on ≡ x.stage.on) (sym leads) here
    here_along r end (a ∷ later) leads here = here_along (committed r a) end later leads.1 (here_stage r.stage a (after r.stage.tree a.txn.ops) here)

    leads_at_hand : (r end : Round L) (taken : List (Arrival L)) → Leads drawn seen expected r taken end → Leads drawn seen expected (round_at_hand r) taken (round_at_hand end)
    leads_at_hand r end [] leads = ap round_at_hand leads
    leads_at_hand r end (a ∷ later) leads = (
      leads.0,
      subst (λ (s : Round L). Leads drawn seen expected s later (round_at_hand end)) (sym (committed_at_hand r a)) (leads_at_hand (committed r a) end later leads.1),
    )

    pub decided_at_hand : (r end : Round L) → Decided drawn seen expected r end → Decided drawn seen expected (round_at_hand r) (round_at_hand end)
    decided_at_hand r end decided = record { taken = decided.taken; leads = leads_at_hand r end decided.taken decided.leads; rests = decided.rests }

  lent_all : (P : L → Type 0) (place : ℕ) (on : List (OnLayer L)) → AllOn P on → AllOn P (lent_from place on)
  lent_all P place [] all = all
  lent_all P place (one ∷ on) all =
      All-cons (λ (x : OnLayer L). P x.lease) (record one { place = Some place }) (lent_from (place + 1) on) (All-head (λ (x : OnLayer L). P x.lease) one on all)
      (lent_all P (place + 1) on (All-tail (λ (x : OnLayer L). P x.lease) one on all))

module _ {L E R C : Type 0} (lease : Ghosts L E R C) where
  released_at_hand : (gone : List (OnLayer L)) (releases : List (ReleaseOf L)) → AllZip (IsReleaseOf lease) gone releases → AllZip (IsReleaseOf lease) (map at_hand gone) releases
  released_at_hand [] [] zip = tt
  released_at_hand [] (r ∷ rs) zip = absurd zip
  released_at_hand (one ∷ gone) [] zip = absurd zip
  released_at_hand (one ∷ gone) (r ∷ rs) zip = (
    record { queue = zip.0.queue; frame = zip.0.frame; fence = zip.0.fence; handed = zip.0.handed },
    released_at_hand gone rs zip.1,
  )

  ends_if : (b : Bool) (one : OnLayer L) (xs ys : List (OnLayer L)) → ends_of lease (map read_of xs) ≡ ends_of lease (map read_of ys)
      → ends_of lease (map read_of (if b then at_hand one ∷ xs else xs)) ≡ ends_of lease (map read_of (if b then one ∷ ys else ys))
  ends_if true one xs ys same = ap (λ (rest : List (ℕ × ℕ)). lease.end one.lease ∷ rest) same
  ends_if false one xs ys same = same

  ends_at_hand : (gone : List (OnLayer L)) → ends_of lease (reads_of (map at_hand gone)) ≡ ends_of lease (reads_of gone)
  ends_at_hand [] = refl
  ends_at_hand (one ∷ gone) =
      ends_if one.is_read one (filter (λ (x : OnLayer L). x.is_read) (map at_hand gone)) (filter (λ (x : OnLayer L). x.is_read) gone) (ends_at_hand gone)

  module _ (old : HandlerOf L) (pixels : List Picture) (eye mid later : E) (arrived : List (Arrival L)) (seen : Seen) (expected : ℕ) (told : CommittedOf L) (new : HandlerOf L)
      (unlent : old.lent ≡ None) (none_kept : old.kept ≡ []) (here : map at_hand old.on ≡ old.on) where
    -- what is shown was lent, a vsync was decided, and all was given back: the vsync is one of a handler that lent nothing
    pub decides_behind : Decides lease (record old { on = lent_from 0 old.on; lent = Some pixels }) eye arrived seen expected told new mid
        → IsEyeAfter lease mid later (ends_of lease new.kept)
        → Decides lease old eye arrived seen expected told (record new { on = map at_hand new.on; lent = None; kept = [] }) later
    decides_behind decides back =
        let s = decides.settled in
        let end = decides.end in
        let made : ends_of lease new.kept ≡ ends_of lease (left_if old.lent (reads_of (map at_hand end.stage.gone))) =
        ap (ends_of lease) (s.kept ∙ ap (λ (k : List (KeptRead L)). k ++ reads_of end.stage.gone) none_kept)
        ∙ sym (ends_at_hand end.stage.gone)
        ∙ ap (λ (l : Option (List Picture)). ends_of lease (left_if l (reads_of (map at_hand end.stage.gone)))) (sym unlent) in
        record {
          alive = decides.alive;
          looked = decides.looked;
          looks = decides.looks;
          shown = All-weaker (λ (a : Arrival L). All (λ (b : Buffer L). IsShownTo lease eye mid b.lease) a.txn.buffers) (λ (a : Arrival L). All (λ (b : Buffer L). IsShownTo lease eye later b.lease) a.txn.buffers)
              (λ a. All-weaker (λ (b : Buffer L). IsShownTo lease eye mid b.lease) (λ (b : Buffer L). IsShownTo lease eye later b.lease)
              (λ b is. record { known = λ drawn. back.keeps b.lease (is.known drawn); still = is.still; exact = is.exact }) a.txn.buffers) decides.looked decides.shown;
          end = round_at_hand end;
          decided =
              subst (λ (r : Round L). Decided lease.shown seen expected r (round_at_hand end))
              (ap (λ (on : List (OnLayer L)). record (begun old decides.looked) { stage = record (begun old decides.looked).stage { on = on } }) (lent_at_hand 0 old.on ∙ here))
              (decided_at_hand lease.shown seen expected (begun (record old { on = lent_from 0 old.on; lent = Some pixels }) decides.looked) end decides.decided);
          settled = record {
            commits = s.commits;
            held = s.held;
            releases = released_at_hand end.stage.gone told.releases s.releases;
            frames = s.frames;
            state =
                ap (λ (h : HandlerOf L). record h { on = map at_hand h.on; lent = None; kept = [] }) s.state
                ∙ (λ i. record old {
                  tree = end.stage.tree;
                  on = sym (shown_at_hand end.stage.on) i;
                  pending = end.pending;
                  frames = new.frames;
                  last = last_of old.last arrived;
                  lent = sym unlent i;
                  kept = [];
                });
            kept = λ i. sym none_kept i ++ kept_if (sym unlent i) (reads_of (map at_hand end.stage.gone));
            reads = record {
              mark = back.mark ∙ s.reads.mark;
              ends = back.ends ∙ (λ i. (s.reads.ends ∙ append-nil (lease.ends eye)) i ++ made i);
              keeps = λ l known. back.keeps l (s.reads.keeps l known);
            };
            fits = λ fits brought.
                let mark = back.mark in
                let was = s.fits (record { pending = fits.pending; on = lent_all (lease.fits (lease.mark eye)) 0 old.on fits.on; kept = fits.kept }) brought in
                record {
                  pending = subst (λ (m : lease.Mark). AllLeases (lease.fits m) new.pending) (sym mark) was.pending;
                  on = subst (λ (m : lease.Mark). AllOn (lease.fits m) (map at_hand new.on)) (sym mark) (All-map (λ (one : OnLayer L). lease.fits (lease.mark mid) one.lease) at_hand new.on was.on);
                  kept = All-nil (λ (read : KeptRead L). lease.fits (lease.mark later) read.lease);
                };
          };
        }

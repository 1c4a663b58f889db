-- Frames in place of leases: what operations make of buffers on layers, and what a commit makes of a round, is told alike.
use Rattle.std.proofs.Common.{◌≡◌, Bool, true, false, cond, List, [], ◌∷◌, ◌++◌, map, Option, Some, None, Result, Ok, Err, refl, ap, sym, ◌∙◌}
use Rattle.std.specs.Prelude.{◌||◌}
use Rattle.std.specs.List.{AllZip, find, list_any}
use Rattle.std.specs.Option.{option_map, option_to_list}
use Rattle.std.proofs.lemmas.List.{map-append}
use Rattle.std.proofs.lemmas.List.Folds.{list_any-append}
use Rattle.sf_base.specs.declared.ids.LayerId.{LayerId}
use Rattle.sf_compose.specs.sf_layer.declared.op.Op.{Op}
use Rattle.sf_compose.specs.sf_layer.declared.op.Op.TheVariants as op
use Rattle.sf_compose.specs.sf_layer.declared.shown.Shown.{Shown}
use Rattle.sf_commit.specs.sf_ready.Facts.{is_met, meets}
use Rattle.sf_commit.specs.sf_token.Loads.{IsLookedArrival}
use Rattle.sf_commit.specs.sf_token.Pending.{Arrival}
use Rattle.sf_compose.specs.sf_tree.Changes.{Rejection, after}
use Rattle.sf_compose.specs.sf_tree.Trees.{TreeOf}
use Rattle.sf_commit.specs.sf_txn.Buffers.{Buffer}
use Rattle.sf_commit.specs.sf_txn.Leases.{IsLookedBuffer}
use Rattle.sf_commit.specs.sf_txn.Transactions.{shown_by, without_first}
use Rattle.sf_commit.specs.sf_txn.declared.lease.Lease.{Ghosts}
use Rattle.sf_commit.specs.OnLayers.{OnLayer, brought, gone_with, is_on, on_after, shown_on, without}
use Rattle.sf_commit.specs.Rounds.{Round, StageOf, committed, frames_in, layers_in, shown_if, stage_after, stage_with}
use Rattle.law_played.specs.Framing.{IsRoundOf, framed_arrival, framed_buffer, framed_on, framed_stage}

module _ {X Y : Type 0} (g : X → Y) (p : X → Bool) (q : Y → Bool) (same : (x : X) → q (g x) ≡ p x) where
  -- what is found, and what is left without it, is found and left alike after a change that the test does not see
  pub find-map : (xs : List X) → find q (map g xs) ≡ option_map g (find p xs)
  find-map [] = refl
  find-map (x ∷ xs) = rw (same x) (by_test (find-map xs) (p x))
    where
      by_test : find q (map g xs) ≡ option_map g (find p xs) → (b : Bool) → cond b (Some (g x)) (find q (map g xs)) ≡ option_map g (cond b (Some x) (find p xs))
      by_test rest true = refl
      by_test rest false = rest

  pub left-map : (xs : List X) → without_first q (map g xs) ≡ map g (without_first p xs)
  left-map [] = refl
  left-map (x ∷ xs) = rw (same x) (by_test (left-map xs) (p x))
    where
      by_test : without_first q (map g xs) ≡ map g (without_first p xs) → (b : Bool)
          → cond b (map g xs) (g x ∷ without_first q (map g xs)) ≡ map g (cond b xs (x ∷ without_first p xs))
      by_test rest true = refl
      by_test rest false = ap (λ r. g x ∷ r) rest

listed-map : {X Y : Type 0} (g : X → Y) (o : Option X) → option_to_list (option_map g o) ≡ map g (option_to_list o)
listed-map g None = refl
listed-map g (Some x) = refl

any_append : {X : Type 0} (p : X → Bool) (xs fs gs : List X) → list_any p fs ≡ list_any p gs → list_any p (xs ++ fs) ≡ list_any p (xs ++ gs)
any_append p xs fs gs e = rw (list_any-append p xs fs, list_any-append p xs gs) (ap (λ b. list_any p xs || b) e)

module _ {L M : Type 0} (frame : L → M) where
  left_on : (layer : LayerId) (on : List (OnLayer L)) → without layer (map (framed_on frame) on) ≡ map (framed_on frame) (without layer on)
  left_on layer on = left-map (framed_on frame) (is_on layer) (is_on layer) (λ x. refl) on

  found_on : (layer : LayerId) (on : List (OnLayer L)) → option_to_list (find (is_on layer) (map (framed_on frame) on)) ≡ map (framed_on frame) (option_to_list (find (is_on layer) on))
  found_on layer on =
      ap option_to_list (find-map (framed_on frame) (is_on layer) (is_on layer) (λ x. refl) on) ∙ listed-map (framed_on frame) (find (is_on layer) on)

  -- a buffer more is shown
  shown_more : (layer : LayerId) (on : List (OnLayer L)) (b : Buffer L)
      → without layer (map (framed_on frame) on) ++ brought (framed_buffer frame b) ∷ [] ≡ map (framed_on frame) (without layer on ++ brought b ∷ [])
  shown_more layer on b =
      ap (λ (xs : List (OnLayer M)). xs ++ brought (framed_buffer frame b) ∷ []) (left_on layer on) ∙ sym (map-append (framed_on frame) (without layer on) (brought b ∷ []))

  after_framed : (on : List (OnLayer L)) (ops : List (LayerId × Op)) (buffers : List (Buffer L))
      → on_after (map (framed_on frame) on) ops (map (framed_buffer frame) buffers) ≡ map (framed_on frame) (on_after on ops buffers)
  after_framed on [] buffers = refl
  after_framed on ((layer, op.Show shown) ∷ ops) [] = after_framed on ops []
  after_framed on ((layer, op.Show shown) ∷ ops) (b ∷ bs) =
      ap (λ (xs : List (OnLayer M)). on_after xs ops (map (framed_buffer frame) bs)) (shown_more layer on b) ∙ after_framed (without layer on ++ brought b ∷ []) ops bs
  after_framed on ((layer, op.Destroy) ∷ ops) buffers =
      ap (λ (xs : List (OnLayer M)). on_after xs ops (map (framed_buffer frame) buffers)) (left_on layer on) ∙ after_framed (without layer on) ops buffers
  after_framed on ((layer, (op.Create kind parent)) ∷ ops) buffers = after_framed on ops buffers
  after_framed on ((layer, (op.Reparent parent)) ∷ ops) buffers = after_framed on ops buffers
  after_framed on ((layer, (op.Z z)) ∷ ops) buffers = after_framed on ops buffers
  after_framed on ((layer, (op.Relative other z)) ∷ ops) buffers = after_framed on ops buffers
  after_framed on ((layer, (op.Position x y)) ∷ ops) buffers = after_framed on ops buffers
  after_framed on ((layer, (op.Crop crop)) ∷ ops) buffers = after_framed on ops buffers
  after_framed on ((layer, (op.Alpha alpha)) ∷ ops) buffers = after_framed on ops buffers
  after_framed on ((layer, (op.Hidden hidden)) ∷ ops) buffers = after_framed on ops buffers
  after_framed on ((layer, (op.Opaque opaque)) ∷ ops) buffers = after_framed on ops buffers
  after_framed on ((layer, (op.Colour colour)) ∷ ops) buffers = after_framed on ops buffers
  after_framed on ((layer, (op.Backpressure backpressure)) ∷ ops) buffers = after_framed on ops buffers
  after_framed on ((layer, (op.Orient orient)) ∷ ops) buffers = after_framed on ops buffers

  -- what goes first, and what goes after it
  goes_on : (xs : List (OnLayer M)) (ys : List (OnLayer L)) (us : List (OnLayer M)) (vs : List (OnLayer L)) → xs ≡ map (framed_on frame) ys → us ≡ map (framed_on frame) vs
      → xs ++ us ≡ map (framed_on frame) (ys ++ vs)
  goes_on xs ys us vs e f = (λ i. e i ++ f i) ∙ sym (map-append (framed_on frame) ys vs)

  gone_framed : (on : List (OnLayer L)) (ops : List (LayerId × Op)) (buffers : List (Buffer L))
      → gone_with (map (framed_on frame) on) ops (map (framed_buffer frame) buffers) ≡ map (framed_on frame) (gone_with on ops buffers)
  gone_framed on [] buffers = refl
  gone_framed on ((layer, op.Show shown) ∷ ops) [] = gone_framed on ops []
  gone_framed on ((layer, op.Show shown) ∷ ops) (b ∷ bs) =
      goes_on (option_to_list (find (is_on layer) (map (framed_on frame) on))) (option_to_list (find (is_on layer) on))
      (gone_with (without layer (map (framed_on frame) on) ++ brought (framed_buffer frame b) ∷ []) ops (map (framed_buffer frame) bs))
      (gone_with (without layer on ++ brought b ∷ []) ops bs) (found_on layer on)
      (ap (λ (xs : List (OnLayer M)). gone_with xs ops (map (framed_buffer frame) bs)) (shown_more layer on b) ∙ gone_framed (without layer on ++ brought b ∷ []) ops bs)
  gone_framed on ((layer, op.Destroy) ∷ ops) buffers =
      goes_on (option_to_list (find (is_on layer) (map (framed_on frame) on))) (option_to_list (find (is_on layer) on))
      (gone_with (without layer (map (framed_on frame) on)) ops (map (framed_buffer frame) buffers))
      (gone_with (without layer on) ops buffers) (found_on layer on)
      (ap (λ (xs : List (OnLayer M)). gone_with xs ops (map (framed_buffer frame) buffers)) (left_on layer on) ∙ gone_framed (without layer on) ops buffers)
  gone_framed on ((layer, (op.Create kind parent)) ∷ ops) buffers = gone_framed on ops buffers
  gone_framed on ((layer, (op.Reparent parent)) ∷ ops) buffers = gone_framed on ops buffers
  gone_framed on ((layer, (op.Z z)) ∷ ops) buffers = gone_framed on ops buffers
  gone_framed on ((layer, (op.Relative other z)) ∷ ops) buffers = gone_framed on ops buffers
  gone_framed on ((layer, (op.Position x y)) ∷ ops) buffers = gone_framed on ops buffers
  gone_framed on ((layer, (op.Crop crop)) ∷ ops) buffers = gone_framed on ops buffers
  gone_framed on ((layer, (op.Alpha alpha)) ∷ ops) buffers = gone_framed on ops buffers
  gone_framed on ((layer, (op.Hidden hidden)) ∷ ops) buffers = gone_framed on ops buffers
  gone_framed on ((layer, (op.Opaque opaque)) ∷ ops) buffers = gone_framed on ops buffers
  gone_framed on ((layer, (op.Colour colour)) ∷ ops) buffers = gone_framed on ops buffers
  gone_framed on ((layer, (op.Backpressure backpressure)) ∷ ops) buffers = gone_framed on ops buffers
  gone_framed on ((layer, (op.Orient orient)) ∷ ops) buffers = gone_framed on ops buffers

  -- what a transaction shows, and the buffers that it brings
  shows_framed : (buffers : List (Buffer L)) → map shown_by (map (framed_buffer frame) buffers) ≡ map shown_by buffers
  shows_framed [] = refl
  shows_framed (b ∷ bs) = ap (λ (rest : List (LayerId × Shown)). shown_by b ∷ rest) (shows_framed bs)

  brought_framed : (buffers : List (Buffer L)) → map brought (map (framed_buffer frame) buffers) ≡ map (framed_on frame) (map brought buffers)
  brought_framed [] = refl
  brought_framed (b ∷ bs) = ap (λ (rest : List (OnLayer M)). framed_on frame (brought b) ∷ rest) (brought_framed bs)

  shown_framed : (res : Result TreeOf Rejection) (buffers : List (Buffer L)) → shown_if res (map (framed_buffer frame) buffers) ≡ shown_if res buffers
  shown_framed (Ok tree) buffers = shows_framed buffers
  shown_framed (Err rejection) buffers = refl

  -- the stage after a transaction
  with_framed : (stage : StageOf L) (a : Arrival L) (res : Result TreeOf Rejection) → stage_with (framed_stage frame stage) (framed_arrival frame a) res ≡ framed_stage frame (stage_with stage a res)
  with_framed stage a (Ok tree) = λ i. record {
    tree = tree;
    on = after_framed stage.on a.txn.ops a.txn.buffers i;
    commits = stage.commits ++ record { token = a.txn.token; number = a.number; cause = 0; op = 0; buffers = shows_framed a.txn.buffers i } ∷ [];
    gone = goes_on (map (framed_on frame) stage.gone) stage.gone
        (gone_with (map (framed_on frame) stage.on) a.txn.ops (map (framed_buffer frame) a.txn.buffers)) (gone_with stage.on a.txn.ops a.txn.buffers)
        refl (gone_framed stage.on a.txn.ops a.txn.buffers) i;
  }
  with_framed stage a (Err rejection) = λ i. record {
    tree = stage.tree;
    on = map (framed_on frame) stage.on;
    commits = stage.commits ++ record { token = a.txn.token; number = a.number; cause = rejection.cause; op = rejection.op; buffers = shows_framed a.txn.buffers i } ∷ [];
    gone = goes_on (map (framed_on frame) stage.gone) stage.gone (map brought (map (framed_buffer frame) a.txn.buffers)) (map brought a.txn.buffers)
        refl (brought_framed a.txn.buffers) i;
  }

  pub stage_framed : (stage : StageOf L) (a : Arrival L) → stage_after (framed_stage frame stage) (framed_arrival frame a) ≡ framed_stage frame (stage_after stage a)
  stage_framed stage a = with_framed stage a (after stage.tree a.txn.ops)

  -- a commit on both sides
  pub round_committed : (round : Round M) (r : Round L) (a : Arrival L) → IsRoundOf frame round r → IsRoundOf frame (committed round (framed_arrival frame a)) (committed r a)
  round_committed round r a is =
      let shown : shown_if (after round.stage.tree a.txn.ops) (map (framed_buffer frame) a.txn.buffers) ≡ shown_if (after r.stage.tree a.txn.ops) a.txn.buffers =
      ap (λ (s : StageOf M). shown_if (after s.tree a.txn.ops) (map (framed_buffer frame) a.txn.buffers)) is.stage ∙ shown_framed (after r.stage.tree a.txn.ops) a.txn.buffers in
      record {
        stage = ap (λ (s : StageOf M). stage_after s (framed_arrival frame a)) is.stage ∙ stage_framed r.stage a;
        frames = λ barrier. ap (λ (s : List (LayerId × Shown)). is_met (frames_in s ++ round.frames) barrier) shown
            ∙ any_append (meets barrier) (frames_in (shown_if (after r.stage.tree a.txn.ops) a.txn.buffers)) round.frames r.frames (is.frames barrier);
        fresh = λ i. layers_in (shown i) ++ is.fresh i;
      }

  -- what is shown at the end of a vsync
  pub read_framed : (on : List (OnLayer L)) → map shown_on (map (framed_on frame) on) ≡ map (framed_on frame) (map shown_on on)
  read_framed [] = refl
  read_framed (one ∷ on) = ap (λ (rest : List (OnLayer M)). shown_on (framed_on frame one) ∷ rest) (read_framed on)

pub read_twice : {L : Type 0} (on : List (OnLayer L)) → map shown_on (map shown_on on) ≡ map shown_on on
read_twice [] = refl
read_twice (one ∷ on) = ap (λ rest. shown_on one ∷ rest) (read_twice on)

-- looks change no frame
module _ {L E R C M : Type 0} (lease : Ghosts L E R C) (frame : L → M) (plain : (a b : L) → lease.plain a ≡ lease.plain b → frame a ≡ frame b) where
  buffer_looked : (old new : Buffer L) → IsLookedBuffer lease old new → framed_buffer frame new ≡ framed_buffer frame old
  buffer_looked old new is =
      λ i. record { layer = is.layer i; shown = is.shown i; fence = is.fence i; lease = plain new.lease old.lease is.looked.plain i }

  buffers_looked : (old new : List (Buffer L)) → AllZip (IsLookedBuffer lease) old new → map (framed_buffer frame) new ≡ map (framed_buffer frame) old
  buffers_looked [] [] zip = refl
  buffers_looked [] (n ∷ ns) zip = absurd zip
  buffers_looked (o ∷ os) [] zip = absurd zip
  buffers_looked (o ∷ os) (n ∷ ns) zip = λ i. buffer_looked o n zip.0 i ∷ buffers_looked os ns zip.1 i

  pub arrival_looked : (old new : Arrival L) → IsLookedArrival lease old new → framed_arrival frame new ≡ framed_arrival frame old
  arrival_looked old new is =
      λ i. record {
        number = is.number i;
        actor = is.actor i;
        step = is.step i;
        txn = record {
          token = (is.rest i).token;
          desired = (is.rest i).desired;
          ops = (is.rest i).ops;
          buffers = buffers_looked old.txn.buffers new.txn.buffers is.buffers i;
          barriers = (is.rest i).barriers;
        };
      }

  pub arrivals_looked : (old new : List (Arrival L)) → AllZip (IsLookedArrival lease) old new → map (framed_arrival frame) new ≡ map (framed_arrival frame) old
  arrivals_looked [] [] zip = refl
  arrivals_looked [] (n ∷ ns) zip = absurd zip
  arrivals_looked (o ∷ os) [] zip = absurd zip
  arrivals_looked (o ∷ os) (n ∷ ns) zip = λ i. arrival_looked o n zip.0 i ∷ arrivals_looked os ns zip.1 i

use Rattle.std.proofs.Common.{◌∙◌, Bool, false, [], length, refl, ap, sym, subst, true≢false, arith}
use Rattle.std.specs.Prelude.{if◌then◌else◌}
use Rattle.std.specs.List.{All}
use Rattle.std.proofs.lemmas.Result.{IfOk-from_err}
use Rattle.sf_commit_next.specs.sf_ready.Facts.{HasSame}
use Rattle.sf_view.specs.sf_tree.Trees.{TreeOf}
use Rattle.sf_commit_next.specs.sf_txn.Leases.{IsEyeAfter}
use Rattle.sf_commit.proofs.MarkLemmas.{room_failed, room_made, some_map}
use Rattle.sf_commit.proofs.SettleLemmas.{eye_same}
use Rattle.sf_commit.proofs.VsyncLemmas.{IsReadable, Makes, Tried, begins_with, decides_same, decides_vsync, fits_of, kept_as, kept_at_once, kept_early, kept_vsync, known_of, stage_on}
use Rattle.sf_commit.proofs.VsyncLemmas.{stops_early, stops_same, tried_fit, tried_kept, tried_stops, tried_unlent}
use Rattle.sf_commit.specs.inner.Following.{DecidesAll}
use Rattle.sf_commit.specs.Handlers.{HandlerOf}
use Rattle.sf_commit.specs.Lending.{ends_of}
use Rattle.sf_commit.specs.Rounds.{StageOf, pressed_in}
use Rattle.sf_commit.proofs.ValueLemmas.{fits_inside, rising_inside, stage_of, value_of}
use Rattle.sf_commit.proofs.handler.Handler.commit.Goals as goal

pub decide_all-requires-clause-pending : goal.decide_all-requires-clause-pending
decide_all-requires-clause-pending g c =
    (fits_inside g.L.Lease c.args.eye.now (value_of c.self.inside) c.args.self.now c.self.view_is c.requires.fits c.if-self.false).pending

pub decide_all-requires-clause-earlier : goal.decide_all-requires-clause-earlier
decide_all-requires-clause-earlier g c = (c.self.invariant.0.keeps c.if-self.false).rising

pub decide_all-requires-clause-rising : goal.decide_all-requires-clause-rising
decide_all-requires-clause-rising g c =
    rising_inside (value_of c.self.inside) c.args.self.now c.args.arrived.items c.self.view_is c.requires.rising c.if-self.false

pub decide_all-requires-clause-pressed : goal.decide_all-requires-clause-pressed
decide_all-requires-clause-pressed g c =
    subst (λ (t : TreeOf). HasSame c.self.inside.facts.pressed (pressed_in t.layers)) (sym c.replace-tree.ensures.value) (c.self.invariant.2 c.if-self.false)

pub settle_all-settled-requires-clause-staying : goal.settle_all-settled-requires-clause-staying
settle_all-settled-requires-clause-staying g c =
    let inside = c.self.inside in
    let h = value_of inside in
    let fits = fits_inside g.L.Lease c.args.eye.now (value_of c.self.inside) c.args.self.now c.self.view_is c.requires.fits c.if-self.false in
    let on = c.in_ok-on.ensures ∙ ap (λ v. v.items) c.replace-readings.ensures.value in
    let begins = begins_with g.L.Lease h c.in_ok-on.on.items inside.queues c.args.eye.now c.args.arrived.items (c.self.invariant.0.keeps c.if-self.false) fits c.requires.brought on refl in
    let stays = stage_on g.L.Lease c.replace-tree.result c.in_ok-on.on.items inside.facts inside.queues c.args.eye.now c.args.arrived.items c.args.seen.now c.args.expected
    c.in_ok-stage.stage c.in_ok-stage.held.items c.decide_all.new.queues c.decide_all.new.facts c.decide_all.new.eye c.in_ok-stage.ensures.decides begins in
    fits_of g.L.Lease c.decide_all.new.eye c.stage.inside.on.items
    (subst (λ (s : StageOf g.row.L.Denot). All (IsReadable g.L.Lease c.decide_all.new.eye) s.on) (sym c.stage.view_is) stays)

pub settle_all-settled-requires-clause-known : goal.settle_all-settled-requires-clause-known
settle_all-settled-requires-clause-known g c =
    let inside = c.self.inside in
    let h = value_of inside in
    let fits = fits_inside g.L.Lease c.args.eye.now (value_of c.self.inside) c.args.self.now c.self.view_is c.requires.fits c.if-self.false in
    let on = c.in_ok-on.ensures ∙ ap (λ v. v.items) c.replace-readings.ensures.value in
    let begins = begins_with g.L.Lease h c.in_ok-on.on.items inside.queues c.args.eye.now c.args.arrived.items (c.self.invariant.0.keeps c.if-self.false) fits c.requires.brought on refl in
    let stays = stage_on g.L.Lease c.replace-tree.result c.in_ok-on.on.items inside.facts inside.queues c.args.eye.now c.args.arrived.items c.args.seen.now c.args.expected
    c.in_ok-stage.stage c.in_ok-stage.held.items c.decide_all.new.queues c.decide_all.new.facts c.decide_all.new.eye c.in_ok-stage.ensures.decides begins in
    known_of g.L.Lease c.decide_all.new.eye c.stage.inside.on.items
    (subst (λ (s : StageOf g.row.L.Denot). All (IsReadable g.L.Lease c.decide_all.new.eye) s.on) (sym c.stage.view_is) stays)

pub leave_unlent-requires-clause-fits : goal.leave_unlent-requires-clause-fits
leave_unlent-requires-clause-fits g c =
    let inside = c.self.inside in
    let h = value_of inside in
    let fits = fits_inside g.L.Lease c.args.eye.now (value_of c.self.inside) c.args.self.now c.self.view_is c.requires.fits c.if-self.false in
    let on = c.in_ok-on.ensures ∙ ap (λ v. v.items) c.replace-readings.ensures.value in
    let stage = c.stage.inside in
    let made = stage_of stage in
    let decides = subst (λ (t : TreeOf). DecidesAll g.L.Lease t c.in_ok-on.on.items inside.facts inside.queues c.args.eye.now c.args.arrived.items c.args.seen.now c.args.expected
    c.in_ok-stage.stage c.in_ok-stage.held.items c.decide_all.new.queues c.decide_all.new.facts c.decide_all.new.eye) c.replace-tree.ensures.value c.in_ok-stage.ensures.decides in
    let t : Tried g.L.Lease h inside.facts inside.queues c.in_ok-on.on.items c.args.eye.now c.decide_all.new.eye c.settle_all-settled.new.eye c.args.arrived.items c.args.seen.now c.args.expected
    c.in_ok-stage.stage made c.in_ok-stage.held.items c.decide_all.new.queues c.decide_all.new.facts c.settle_all-settled.new.kept.items = record {
      frames = refl;
      queues = refl;
      on_is = on;
      decides = decides;
      stage_is = sym c.stage.view_is;
      handler = c.self.invariant.0.keeps c.if-self.false;
      fits = fits;
      brought = c.requires.brought;
      some = c.settle_all-settled.ensures.some;
      settled_eye = c.settle_all-settled.ensures.eye;
      lends = c.self.invariant.0.lends;
      unlent = c.self.invariant.0.unlent;
    } in
    tried_fit g.L.Lease h inside.facts inside.queues c.in_ok-on.on.items c.args.eye.now c.decide_all.new.eye c.settle_all-settled.new.eye c.args.arrived.items c.args.seen.now c.args.expected
    c.in_ok-stage.stage made c.in_ok-stage.held.items c.decide_all.new.queues c.decide_all.new.facts c.settle_all-settled.new.kept.items t

pub leave_unlent-requires-clause-there : goal.leave_unlent-requires-clause-there
leave_unlent-requires-clause-there g c =
    let inside = c.self.inside in
    let h = value_of inside in
    let fits = fits_inside g.L.Lease c.args.eye.now (value_of c.self.inside) c.args.self.now c.self.view_is c.requires.fits c.if-self.false in
    let on = c.in_ok-on.ensures ∙ ap (λ v. v.items) c.replace-readings.ensures.value in
    let stage = c.stage.inside in
    let made = stage_of stage in
    let decides = subst (λ (t : TreeOf). DecidesAll g.L.Lease t c.in_ok-on.on.items inside.facts inside.queues c.args.eye.now c.args.arrived.items c.args.seen.now c.args.expected
    c.in_ok-stage.stage c.in_ok-stage.held.items c.decide_all.new.queues c.decide_all.new.facts c.decide_all.new.eye) c.replace-tree.ensures.value c.in_ok-stage.ensures.decides in
    let t : Tried g.L.Lease h inside.facts inside.queues c.in_ok-on.on.items c.args.eye.now c.decide_all.new.eye c.settle_all-settled.new.eye c.args.arrived.items c.args.seen.now c.args.expected
    c.in_ok-stage.stage made c.in_ok-stage.held.items c.decide_all.new.queues c.decide_all.new.facts c.settle_all-settled.new.kept.items = record {
      frames = refl;
      queues = refl;
      on_is = on;
      decides = decides;
      stage_is = sym c.stage.view_is;
      handler = c.self.invariant.0.keeps c.if-self.false;
      fits = fits;
      brought = c.requires.brought;
      some = c.settle_all-settled.ensures.some;
      settled_eye = c.settle_all-settled.ensures.eye;
      lends = c.self.invariant.0.lends;
      unlent = c.self.invariant.0.unlent;
    } in
    let is_lent = c.is_some-is_lent.ensures ∙ sym (some_map (λ lent. lent.value) inside.lent) in
    λ e. tried_unlent g.L.Lease h inside.facts inside.queues c.in_ok-on.on.items c.args.eye.now c.decide_all.new.eye c.settle_all-settled.new.eye c.args.arrived.items c.args.seen.now c.args.expected
    c.in_ok-stage.stage made c.in_ok-stage.held.items c.decide_all.new.queues c.decide_all.new.facts c.settle_all-settled.new.kept.items t (sym is_lent ∙ e)

pub invariant_of-self : goal.invariant_of-self
invariant_of-self g c =
    let inside = c.self.inside in
    let h = value_of inside in
    (kept_at_once g.L.Lease h _ inside.contents.items inside.has_changed c.self.invariant.0 refl refl refl refl, c.self.invariant.1, λ alive. absurd (true≢false alive))

pub invariant_of-self-in_err-on : goal.invariant_of-self-in_err-on
invariant_of-self-in_err-on g c =
    let inside = c.self.inside in
    let h = value_of inside in
    let is_lent = c.is_some-is_lent.ensures ∙ sym (some_map (λ lent. lent.value) inside.lent) in
    let none = ap (λ v. v.items) c.replace-readings.ensures.after ∙ c.new.ensures.items in
    let empty = ap (λ v. v.items) c.replace-contents.ensures.after ∙ c.new-2.ensures.items in (
      kept_early g.L.Lease h _ inside.contents.items _ inside.has_changed _ c.self.invariant.0 none empty refl refl is_lent refl,
      room_failed _ _ (length inside.on.items) inside.has_changed _ _ _ _ _ none c.self.invariant.1 refl refl (omega arith),
      λ alive. absurd (true≢false alive),
    )

pub invariant_of-self-in_err-stage : goal.invariant_of-self-in_err-stage
invariant_of-self-in_err-stage g c =
    let inside = c.self.inside in
    let h = value_of inside in
    let is_lent = c.is_some-is_lent.ensures ∙ sym (some_map (λ lent. lent.value) inside.lent) in
    let none = ap (λ v. v.items) c.replace-readings.ensures.after ∙ c.new.ensures.items in
    let empty = ap (λ v. v.items) c.replace-contents.ensures.after ∙ c.new-2.ensures.items in (
      kept_early g.L.Lease h _ inside.contents.items _ inside.has_changed _ c.self.invariant.0 none empty refl refl is_lent refl,
      room_failed _ _ (length inside.on.items) inside.has_changed _ _ _ _ _ none c.self.invariant.1 refl refl (omega arith),
      λ alive. absurd (true≢false alive),
    )

pub invariant_of-self-in_err-on-2 : goal.invariant_of-self-in_err-on-2
invariant_of-self-in_err-on-2 g c =
    let inside = c.self.inside in
    let h = value_of inside in
    let fits = fits_inside g.L.Lease c.args.eye.now (value_of c.self.inside) c.args.self.now c.self.view_is c.requires.fits c.if-self.false in
    let on = c.in_ok-on.ensures ∙ ap (λ v. v.items) c.replace-readings.ensures.value in
    let stage = c.stage.inside in
    let made = stage_of stage in
    let decides = subst (λ (t : TreeOf). DecidesAll g.L.Lease t c.in_ok-on.on.items inside.facts inside.queues c.args.eye.now c.args.arrived.items c.args.seen.now c.args.expected
    c.in_ok-stage.stage c.in_ok-stage.held.items c.decide_all.new.queues c.decide_all.new.facts c.decide_all.new.eye) c.replace-tree.ensures.value c.in_ok-stage.ensures.decides in
    let t : Tried g.L.Lease h inside.facts inside.queues c.in_ok-on.on.items c.args.eye.now c.decide_all.new.eye c.settle_all-settled.new.eye c.args.arrived.items c.args.seen.now c.args.expected
    c.in_ok-stage.stage made c.in_ok-stage.held.items c.decide_all.new.queues c.decide_all.new.facts c.settle_all-settled.new.kept.items = record {
      frames = refl;
      queues = refl;
      on_is = on;
      decides = decides;
      stage_is = sym c.stage.view_is;
      handler = c.self.invariant.0.keeps c.if-self.false;
      fits = fits;
      brought = c.requires.brought;
      some = c.settle_all-settled.ensures.some;
      settled_eye = c.settle_all-settled.ensures.eye;
      lends = c.self.invariant.0.lends;
      unlent = c.self.invariant.0.unlent;
    } in
    let is_lent = c.is_some-is_lent.ensures ∙ sym (some_map (λ lent. lent.value) inside.lent) in
    let kept = c.leave_unlent.ensures.kept ∙ ap (λ (b : Bool). if b then c.settle_all-settled.new.kept.items else []) is_lent in
    let left = subst (λ (b : Bool). IsEyeAfter g.L.Lease c.settle_all-settled.new.eye c.leave_unlent.new.eye (if b then [] else ends_of g.L.Lease c.settle_all-settled.new.kept.items)) is_lent c.leave_unlent.ensures.reads in
    let none = ap (λ v. v.items) c.replace-readings.ensures.after ∙ c.new.ensures.items in
    let empty = ap (λ v. v.items) c.replace-contents.ensures.after ∙ c.new-2.ensures.items in (
      tried_kept g.L.Lease h inside.facts inside.queues c.in_ok-on.on.items c.args.eye.now c.decide_all.new.eye c.settle_all-settled.new.eye c.args.arrived.items c.args.seen.now c.args.expected
          c.in_ok-stage.stage made c.in_ok-stage.held.items c.decide_all.new.queues c.decide_all.new.facts c.settle_all-settled.new.kept.items t _ _ _ none empty refl refl is_lent kept,
      room_failed _ _ (length inside.on.items) inside.has_changed _ _ _ _ _ none c.self.invariant.1 refl refl (omega arith),
      λ alive. absurd (true≢false alive),
    )

pub invariant_of-self-in_err-make : goal.invariant_of-self-in_err-make
invariant_of-self-in_err-make g c =
    let inside = c.self.inside in
    let h = value_of inside in
    let fits = fits_inside g.L.Lease c.args.eye.now (value_of c.self.inside) c.args.self.now c.self.view_is c.requires.fits c.if-self.false in
    let on = c.in_ok-on.ensures ∙ ap (λ v. v.items) c.replace-readings.ensures.value in
    let stage = c.stage.inside in
    let made = stage_of stage in
    let decides = subst (λ (t : TreeOf). DecidesAll g.L.Lease t c.in_ok-on.on.items inside.facts inside.queues c.args.eye.now c.args.arrived.items c.args.seen.now c.args.expected
    c.in_ok-stage.stage c.in_ok-stage.held.items c.decide_all.new.queues c.decide_all.new.facts c.decide_all.new.eye) c.replace-tree.ensures.value c.in_ok-stage.ensures.decides in
    let t : Tried g.L.Lease h inside.facts inside.queues c.in_ok-on.on.items c.args.eye.now c.decide_all.new.eye c.settle_all-settled.new.eye c.args.arrived.items c.args.seen.now c.args.expected
    c.in_ok-stage.stage made c.in_ok-stage.held.items c.decide_all.new.queues c.decide_all.new.facts c.settle_all-settled.new.kept.items = record {
      frames = refl;
      queues = refl;
      on_is = on;
      decides = decides;
      stage_is = sym c.stage.view_is;
      handler = c.self.invariant.0.keeps c.if-self.false;
      fits = fits;
      brought = c.requires.brought;
      some = c.settle_all-settled.ensures.some;
      settled_eye = c.settle_all-settled.ensures.eye;
      lends = c.self.invariant.0.lends;
      unlent = c.self.invariant.0.unlent;
    } in
    let is_lent = c.is_some-is_lent.ensures ∙ sym (some_map (λ lent. lent.value) inside.lent) in
    let kept = c.leave_unlent.ensures.kept ∙ ap (λ (b : Bool). if b then c.settle_all-settled.new.kept.items else []) is_lent in
    let left = subst (λ (b : Bool). IsEyeAfter g.L.Lease c.settle_all-settled.new.eye c.leave_unlent.new.eye (if b then [] else ends_of g.L.Lease c.settle_all-settled.new.kept.items)) is_lent c.leave_unlent.ensures.reads in
    let none = ap (λ v. v.items) c.replace-readings.ensures.after ∙ c.new.ensures.items in
    let empty = ap (λ v. v.items) c.replace-contents.ensures.after ∙ c.new-2.ensures.items in (
      tried_kept g.L.Lease h inside.facts inside.queues c.in_ok-on.on.items c.args.eye.now c.decide_all.new.eye c.settle_all-settled.new.eye c.args.arrived.items c.args.seen.now c.args.expected
          c.in_ok-stage.stage made c.in_ok-stage.held.items c.decide_all.new.queues c.decide_all.new.facts c.settle_all-settled.new.kept.items t _ _ _ none empty refl refl is_lent kept,
      room_failed _ _ (length inside.on.items) inside.has_changed _ _ _ _ _ none c.self.invariant.1 c.make.ensures.no_slots c.make.ensures.no_contents c.make.ensures.kept,
      λ alive. absurd (true≢false alive),
    )

pub invariant_of-self-2 : goal.invariant_of-self-2
invariant_of-self-2 g c =
    let inside = c.self.inside in
    let h = value_of inside in
    let fits = fits_inside g.L.Lease c.args.eye.now (value_of c.self.inside) c.args.self.now c.self.view_is c.requires.fits c.if-self.false in
    let on = c.in_ok-on.ensures ∙ ap (λ v. v.items) c.replace-readings.ensures.value in
    let stage = c.stage.inside in
    let made = stage_of stage in
    let decides = subst (λ (t : TreeOf). DecidesAll g.L.Lease t c.in_ok-on.on.items inside.facts inside.queues c.args.eye.now c.args.arrived.items c.args.seen.now c.args.expected
    c.in_ok-stage.stage c.in_ok-stage.held.items c.decide_all.new.queues c.decide_all.new.facts c.decide_all.new.eye) c.replace-tree.ensures.value c.in_ok-stage.ensures.decides in
    let is_lent = c.is_some-is_lent.ensures ∙ sym (some_map (λ lent. lent.value) inside.lent) in
    let kept = c.leave_unlent.ensures.kept ∙ ap (λ (b : Bool). if b then c.settle_all-settled.new.kept.items else []) is_lent in
    let left = subst (λ (b : Bool). IsEyeAfter g.L.Lease c.settle_all-settled.new.eye c.leave_unlent.new.eye (if b then [] else ends_of g.L.Lease c.settle_all-settled.new.kept.items)) is_lent c.leave_unlent.ensures.reads in
    let s = c.in_ok-on-2.field-0 in
    let m : Makes g.L.Lease h inside.facts inside.queues c.in_ok-on.on.items c.args.eye.now c.decide_all.new.eye c.settle_all-settled.new.eye c.leave_unlent.new.eye c.args.arrived.items c.args.seen.now c.args.expected
    c.in_ok-stage.stage made c.in_ok-stage.held.items c.decide_all.new.queues c.decide_all.new.facts s.on.items s.contents.items s.releases.items
    c.settle_all-settled.new.kept.items c.leave_unlent.new.kept.items = record {
      alive = c.if-self.false;
      frames = refl;
      queues = refl;
      on_is = on;
      decides = decides;
      stage_is = sym c.stage.view_is;
      settles = c.in_ok-on-2.ensures.settles;
      settled_eye = c.settle_all-settled.ensures.eye;
      left = left;
      kept_is = kept;
      lends = c.self.invariant.0.lends;
      unlent = c.self.invariant.0.unlent;
      handler = c.self.invariant.0.keeps c.if-self.false;
      fits = fits;
      brought = c.requires.brought;
      rising = rising_inside (value_of c.self.inside) c.args.self.now c.args.arrived.items c.self.view_is c.requires.rising c.if-self.false;
    } in
    let many = c.len.ensures in
    let ok = s.on.ok.0 in (
      kept_as g.L.Lease _ s.contents.items _ _ is_lent (kept_vsync g.L.Lease h inside.facts inside.queues c.in_ok-on.on.items c.args.eye.now c.decide_all.new.eye c.settle_all-settled.new.eye c.leave_unlent.new.eye c.args.arrived.items c.args.seen.now c.args.expected
          c.in_ok-stage.stage made c.in_ok-stage.held.items c.decide_all.new.queues c.decide_all.new.facts s.on.items s.contents.items s.releases.items
          c.settle_all-settled.new.kept.items c.leave_unlent.new.kept.items m),
      room_made _ (length inside.on.items) (length s.on.items) inside.has_changed c.is_some-is_lent.result _ _ _ _ c.self.invariant.1 c.make.ensures.no_slots c.make.ensures.no_contents
          c.make.ensures.kept (omega (arith, c.in_ok-make.ensures.slots, many, ok)) (λ e. let all = c.in_ok-make.ensures.contents e in omega (arith, all, many, ok)),
      λ _. subst (λ (s : StageOf g.row.L.Denot). HasSame c.decide_all.new.facts.pressed (pressed_in s.tree.layers)) (sym c.stage.view_is) decides.pressed,
    )

pub returns-clause-decides : goal.returns-clause-decides
returns-clause-decides g c =
    let inside = c.self.inside in
    let h = value_of inside in
    let fits = fits_inside g.L.Lease c.args.eye.now (value_of c.self.inside) c.args.self.now c.self.view_is c.requires.fits c.if-self.false in
    let on = c.in_ok-on.ensures ∙ ap (λ v. v.items) c.replace-readings.ensures.value in
    let stage = c.stage.inside in
    let made = stage_of stage in
    let decides = subst (λ (t : TreeOf). DecidesAll g.L.Lease t c.in_ok-on.on.items inside.facts inside.queues c.args.eye.now c.args.arrived.items c.args.seen.now c.args.expected
    c.in_ok-stage.stage c.in_ok-stage.held.items c.decide_all.new.queues c.decide_all.new.facts c.decide_all.new.eye) c.replace-tree.ensures.value c.in_ok-stage.ensures.decides in
    let is_lent = c.is_some-is_lent.ensures ∙ sym (some_map (λ lent. lent.value) inside.lent) in
    let kept = c.leave_unlent.ensures.kept ∙ ap (λ (b : Bool). if b then c.settle_all-settled.new.kept.items else []) is_lent in
    let left = subst (λ (b : Bool). IsEyeAfter g.L.Lease c.settle_all-settled.new.eye c.leave_unlent.new.eye (if b then [] else ends_of g.L.Lease c.settle_all-settled.new.kept.items)) is_lent c.leave_unlent.ensures.reads in
    let s = c.in_ok-on-2.field-0 in
    let m : Makes g.L.Lease h inside.facts inside.queues c.in_ok-on.on.items c.args.eye.now c.decide_all.new.eye c.settle_all-settled.new.eye c.leave_unlent.new.eye c.args.arrived.items c.args.seen.now c.args.expected
    c.in_ok-stage.stage made c.in_ok-stage.held.items c.decide_all.new.queues c.decide_all.new.facts s.on.items s.contents.items s.releases.items
    c.settle_all-settled.new.kept.items c.leave_unlent.new.kept.items = record {
      alive = c.if-self.false;
      frames = refl;
      queues = refl;
      on_is = on;
      decides = decides;
      stage_is = sym c.stage.view_is;
      settles = c.in_ok-on-2.ensures.settles;
      settled_eye = c.settle_all-settled.ensures.eye;
      left = left;
      kept_is = kept;
      lends = c.self.invariant.0.lends;
      unlent = c.self.invariant.0.unlent;
      handler = c.self.invariant.0.keeps c.if-self.false;
      fits = fits;
      brought = c.requires.brought;
      rising = rising_inside (value_of c.self.inside) c.args.self.now c.args.arrived.items c.self.view_is c.requires.rising c.if-self.false;
    } in
    let told = decides_vsync g.L.Lease h inside.facts inside.queues c.in_ok-on.on.items c.args.eye.now c.decide_all.new.eye c.settle_all-settled.new.eye c.leave_unlent.new.eye c.args.arrived.items c.args.seen.now c.args.expected
    c.in_ok-stage.stage made c.in_ok-stage.held.items c.decide_all.new.queues c.decide_all.new.facts s.on.items s.contents.items s.releases.items
    c.settle_all-settled.new.kept.items c.leave_unlent.new.kept.items m in
    decides_same g.L.Lease _ _ c.args.eye.now c.leave_unlent.new.eye c.args.arrived.items c.args.seen.now c.args.expected _ _ _ c.self.view_is
    (λ i. record { commits = sym c.new-5.ensures i; releases = sym c.new-6.ensures i; held = sym c.new-7.ensures i })
    told

pub returns-then-self-clause-stops : goal.returns-then-self-clause-stops
returns-then-self-clause-stops g c =
    stops_early g.L.Lease c.args.self.now _ c.args.eye.now _ c.args.arrived.items c.args.seen.now c.args.expected (ap (λ (x : HandlerOf g.row.L.Denot). x.is_spent) (sym c.self.view_is) ∙ c.if-self.true) refl refl (eye_same g.L.Lease c.args.eye.now)

pub returns-in_err-with_limit-clause-stops : goal.returns-in_err-with_limit-clause-stops
returns-in_err-with_limit-clause-stops g c =
    let inside = c.self.inside in
    let h = value_of inside in
    stops_same g.L.Lease _ h _ _ c.args.eye.now _ c.args.arrived.items c.args.seen.now c.args.expected c.self.view_is (stops_early g.L.Lease h _ c.args.eye.now _ c.args.arrived.items c.args.seen.now c.args.expected refl refl refl (eye_same g.L.Lease c.args.eye.now))

pub returns-in_err-on-clause-stops : goal.returns-in_err-on-clause-stops
returns-in_err-on-clause-stops g c =
    let inside = c.self.inside in
    let h = value_of inside in
    stops_same g.L.Lease _ h _ _ c.args.eye.now _ c.args.arrived.items c.args.seen.now c.args.expected c.self.view_is (stops_early g.L.Lease h _ c.args.eye.now _ c.args.arrived.items c.args.seen.now c.args.expected refl refl refl (eye_same g.L.Lease c.args.eye.now))

pub returns-in_err-stage-clause-stops : goal.returns-in_err-stage-clause-stops
returns-in_err-stage-clause-stops g c =
    let inside = c.self.inside in
    let h = value_of inside in
    stops_same g.L.Lease _ h _ _ c.args.eye.now _ c.args.arrived.items c.args.seen.now c.args.expected c.self.view_is (stops_early g.L.Lease h _ c.args.eye.now _ c.args.arrived.items c.args.seen.now c.args.expected refl refl refl (c.decide_all.ensures.eye))

pub returns-in_err-on-2-clause-stops : goal.returns-in_err-on-2-clause-stops
returns-in_err-on-2-clause-stops g c =
    let inside = c.self.inside in
    let h = value_of inside in
    let fits = fits_inside g.L.Lease c.args.eye.now (value_of c.self.inside) c.args.self.now c.self.view_is c.requires.fits c.if-self.false in
    let on = c.in_ok-on.ensures ∙ ap (λ v. v.items) c.replace-readings.ensures.value in
    let stage = c.stage.inside in
    let made = stage_of stage in
    let decides = subst (λ (t : TreeOf). DecidesAll g.L.Lease t c.in_ok-on.on.items inside.facts inside.queues c.args.eye.now c.args.arrived.items c.args.seen.now c.args.expected
    c.in_ok-stage.stage c.in_ok-stage.held.items c.decide_all.new.queues c.decide_all.new.facts c.decide_all.new.eye) c.replace-tree.ensures.value c.in_ok-stage.ensures.decides in
    let t : Tried g.L.Lease h inside.facts inside.queues c.in_ok-on.on.items c.args.eye.now c.decide_all.new.eye c.settle_all-settled.new.eye c.args.arrived.items c.args.seen.now c.args.expected
    c.in_ok-stage.stage made c.in_ok-stage.held.items c.decide_all.new.queues c.decide_all.new.facts c.settle_all-settled.new.kept.items = record {
      frames = refl;
      queues = refl;
      on_is = on;
      decides = decides;
      stage_is = sym c.stage.view_is;
      handler = c.self.invariant.0.keeps c.if-self.false;
      fits = fits;
      brought = c.requires.brought;
      some = c.settle_all-settled.ensures.some;
      settled_eye = c.settle_all-settled.ensures.eye;
      lends = c.self.invariant.0.lends;
      unlent = c.self.invariant.0.unlent;
    } in
    let is_lent = c.is_some-is_lent.ensures ∙ sym (some_map (λ lent. lent.value) inside.lent) in
    let kept = c.leave_unlent.ensures.kept ∙ ap (λ (b : Bool). if b then c.settle_all-settled.new.kept.items else []) is_lent in
    let left = subst (λ (b : Bool). IsEyeAfter g.L.Lease c.settle_all-settled.new.eye c.leave_unlent.new.eye (if b then [] else ends_of g.L.Lease c.settle_all-settled.new.kept.items)) is_lent c.leave_unlent.ensures.reads in
    stops_same g.L.Lease _ h _ _ c.args.eye.now c.leave_unlent.new.eye c.args.arrived.items c.args.seen.now c.args.expected c.self.view_is
    (tried_stops g.L.Lease h inside.facts inside.queues c.in_ok-on.on.items c.args.eye.now c.decide_all.new.eye c.settle_all-settled.new.eye c.args.arrived.items c.args.seen.now c.args.expected
    c.in_ok-stage.stage made c.in_ok-stage.held.items c.decide_all.new.queues c.decide_all.new.facts c.settle_all-settled.new.kept.items t _ c.leave_unlent.new.eye refl refl kept left)

pub returns-in_err-make-clause-stops : goal.returns-in_err-make-clause-stops
returns-in_err-make-clause-stops g c =
    let inside = c.self.inside in
    let h = value_of inside in
    let fits = fits_inside g.L.Lease c.args.eye.now (value_of c.self.inside) c.args.self.now c.self.view_is c.requires.fits c.if-self.false in
    let on = c.in_ok-on.ensures ∙ ap (λ v. v.items) c.replace-readings.ensures.value in
    let stage = c.stage.inside in
    let made = stage_of stage in
    let decides = subst (λ (t : TreeOf). DecidesAll g.L.Lease t c.in_ok-on.on.items inside.facts inside.queues c.args.eye.now c.args.arrived.items c.args.seen.now c.args.expected
    c.in_ok-stage.stage c.in_ok-stage.held.items c.decide_all.new.queues c.decide_all.new.facts c.decide_all.new.eye) c.replace-tree.ensures.value c.in_ok-stage.ensures.decides in
    let t : Tried g.L.Lease h inside.facts inside.queues c.in_ok-on.on.items c.args.eye.now c.decide_all.new.eye c.settle_all-settled.new.eye c.args.arrived.items c.args.seen.now c.args.expected
    c.in_ok-stage.stage made c.in_ok-stage.held.items c.decide_all.new.queues c.decide_all.new.facts c.settle_all-settled.new.kept.items = record {
      frames = refl;
      queues = refl;
      on_is = on;
      decides = decides;
      stage_is = sym c.stage.view_is;
      handler = c.self.invariant.0.keeps c.if-self.false;
      fits = fits;
      brought = c.requires.brought;
      some = c.settle_all-settled.ensures.some;
      settled_eye = c.settle_all-settled.ensures.eye;
      lends = c.self.invariant.0.lends;
      unlent = c.self.invariant.0.unlent;
    } in
    let is_lent = c.is_some-is_lent.ensures ∙ sym (some_map (λ lent. lent.value) inside.lent) in
    let kept = c.leave_unlent.ensures.kept ∙ ap (λ (b : Bool). if b then c.settle_all-settled.new.kept.items else []) is_lent in
    let left = subst (λ (b : Bool). IsEyeAfter g.L.Lease c.settle_all-settled.new.eye c.leave_unlent.new.eye (if b then [] else ends_of g.L.Lease c.settle_all-settled.new.kept.items)) is_lent c.leave_unlent.ensures.reads in
    stops_same g.L.Lease _ h _ _ c.args.eye.now c.leave_unlent.new.eye c.args.arrived.items c.args.seen.now c.args.expected c.self.view_is
    (tried_stops g.L.Lease h inside.facts inside.queues c.in_ok-on.on.items c.args.eye.now c.decide_all.new.eye c.settle_all-settled.new.eye c.args.arrived.items c.args.seen.now c.args.expected
    c.in_ok-stage.stage made c.in_ok-stage.held.items c.decide_all.new.queues c.decide_all.new.facts c.settle_all-settled.new.kept.items t _ c.leave_unlent.new.eye refl refl kept left)

pub returns-in_err-on-2-clause-mark : goal.returns-in_err-on-2-clause-mark
returns-in_err-on-2-clause-mark g c = c.leave_unlent.ensures.reads.mark ∙ (c.settle_all-settled.ensures.eye.mark ∙ c.decide_all.ensures.eye.mark)

pub returns-in_err-on-2-clause-keeps : goal.returns-in_err-on-2-clause-keeps
returns-in_err-on-2-clause-keeps g c = λ l knows. c.leave_unlent.ensures.reads.keeps l (c.settle_all-settled.ensures.eye.keeps l (c.decide_all.ensures.eye.keeps l knows))

pub returns-in_err-make-clause-mark : goal.returns-in_err-make-clause-mark
returns-in_err-make-clause-mark g c = c.leave_unlent.ensures.reads.mark ∙ (c.settle_all-settled.ensures.eye.mark ∙ c.decide_all.ensures.eye.mark)

pub returns-in_err-make-clause-keeps : goal.returns-in_err-make-clause-keeps
returns-in_err-make-clause-keeps g c = λ l knows. c.leave_unlent.ensures.reads.keeps l (c.settle_all-settled.ensures.eye.keeps l (c.decide_all.ensures.eye.keeps l knows))

pub returns-clause-mark : goal.returns-clause-mark
returns-clause-mark g c = c.leave_unlent.ensures.reads.mark ∙ (c.settle_all-settled.ensures.eye.mark ∙ c.decide_all.ensures.eye.mark)

pub returns-clause-keeps : goal.returns-clause-keeps
returns-clause-keeps g c = λ l knows. c.leave_unlent.ensures.reads.keeps l (c.settle_all-settled.ensures.eye.keeps l (c.decide_all.ensures.eye.keeps l knows))

pub returns-in_err-stage-clause-mark : goal.returns-in_err-stage-clause-mark
returns-in_err-stage-clause-mark g c = c.decide_all.ensures.eye.mark

pub returns-in_err-stage-clause-keeps : goal.returns-in_err-stage-clause-keeps
returns-in_err-stage-clause-keeps g c = c.decide_all.ensures.eye.keeps

pub returns-in_err-on-2-clause-decides : goal.returns-in_err-on-2-clause-decides
returns-in_err-on-2-clause-decides g c = IfOk-from_err _ _ c.from_residual-in_err-on-2.ensures.0

pub returns-in_err-make-clause-decides : goal.returns-in_err-make-clause-decides
returns-in_err-make-clause-decides g c = IfOk-from_err _ _ c.from_residual-in_err-make.ensures.0

pub returns-clause-again : goal.returns-clause-again
returns-clause-again g c = λ again. sym (ap (λ (x : HandlerOf g.row.L.Denot). x.is_spent) (sym c.self.view_is) ∙ c.if-self.false) ∙ again

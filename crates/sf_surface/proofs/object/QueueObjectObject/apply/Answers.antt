use Rattle.std.proofs.Common.{◌≡◌, ◌∙◌, ap, arith, List, [], ◌∷◌, ◌++◌, subst, sym, true}
use Rattle.std.specs.Vec.{vec_capacity}
use Rattle.sf_base.specs.declared.status.QStatus.TheVariants.{WouldBlock}
use Rattle.sf_calls.specs.Histories.{entry}
use Rattle.sf_slots.specs.declared.calls.PlainReply.TheVariants as plain
use Rattle.sf_slots.specs.Queue.{Queue}
use Rattle.sf_surface.specs.declared.call.QCall.{QCall}
use Rattle.sf_surface.specs.declared.entry.HistEntry.{HistEntry}
use Rattle.sf_surface.specs.declared.entry.Named.{Named}
use Rattle.sf_surface.specs.Calls.{may_wait}
use Rattle.sf_surface.specs.Histories.{Made, Replied, told_reply}
use Rattle.sf_surface.specs.Inside.{HasRoomFor}
use Rattle.sf_surface.specs.Kept.{calls_in}
use Rattle.sf_surface.specs.Marks.{SpareFits}
use Rattle.sf_surface.specs.Named.{named_of, shown_with}
use Rattle.sf_surface.specs.Objects.{IsKept, ObjectOf, mark_of}
use Rattle.sf_surface.specs.Tokens.{Right}
use Rattle.sf_surface.proofs.ApplyLemmas.{answers_call, counters_low, kept_call, waits_call}
use Rattle.sf_surface.proofs.object.QueueObjectObject.apply.Goals as goal

pub dispatch-requires-clause-buffers : goal.dispatch-requires-clause-buffers
dispatch-requires-clause-buffers g c =
    let inside = c.self.inside in
    let kept_before = subst (λ (q : Queue Right). IsKept {B = g.row.B.Denot} g.B.TableName.table inside.number inside.history.shown.items (record { queue = q; calls = calls_in inside.history })) (sym c.deref_mut.ensures.value) c.self.invariant in
    (counters_low {B = g.row.B.Denot} g.B.TableName.table inside.number inside.history.shown.items (record { queue = c.deref_mut.result.now; calls = calls_in inside.history }) kept_before (omega (arith, inside.history.shown.ok, inside.history.shown.small))).0

pub dispatch-requires-clause-frames : goal.dispatch-requires-clause-frames
dispatch-requires-clause-frames g c =
    let inside = c.self.inside in
    let kept_before = subst (λ (q : Queue Right). IsKept {B = g.row.B.Denot} g.B.TableName.table inside.number inside.history.shown.items (record { queue = q; calls = calls_in inside.history })) (sym c.deref_mut.ensures.value) c.self.invariant in
    (counters_low {B = g.row.B.Denot} g.B.TableName.table inside.number inside.history.shown.items (record { queue = c.deref_mut.result.now; calls = calls_in inside.history }) kept_before (omega (arith, inside.history.shown.ok, inside.history.shown.small))).1

pub dispatch-requires-clause-room : goal.dispatch-requires-clause-room
dispatch-requires-clause-room g c =
    subst (λ (q : Queue Right). HasRoomFor q c.args.call.1 (vec_capacity c.in-Ok.room.values)) (c.deref.ensures ∙ sym c.deref_mut.ensures.value)
    (c.may_tell_points-has_points.ensures _ c.in-Ok.ensures.points)

pub invariant_of-self-in-Done : goal.invariant_of-self-in-Done
invariant_of-self-in-Done g c =
    let table = g.B.TableName.table in
    let inside = c.self.inside in
    let by = c.args.by in
    let step = c.args.call.0 in
    let asked = c.args.call.1 in
    let reply = c.in-Done.reply in
    let after = c.dispatch.new.slots in
    let before : List HistEntry = inside.history.shown.items in
    let old : ObjectOf g.row.B.Denot = record { queue = c.deref_mut.result.now; calls = calls_in inside.history } in
    let kept_before = subst (λ (q : Queue Right). IsKept {B = g.row.B.Denot} g.B.TableName.table inside.number inside.history.shown.items (record { queue = q; calls = calls_in inside.history })) (sym c.deref_mut.ensures.value) c.self.invariant in
    let kept = kept_call table old after by step asked reply inside.number before c.in-Done.ensures.done c.in-Done.ensures.waited kept_before in
    let named = ap (λ (n : Named). before ++ shown_with by step n reply ∷ []) c.named_of-named.ensures in
    let shown = c.put.ensures.shown ∙ ap (λ (es : List HistEntry). es ++ shown_with by step c.named_of-named.result reply ∷ []) c.in-Ok.ensures.shown ∙ named in
    let told = c.put.ensures.calls ∙ ap (λ (q : QCall g.row.B.Denot). entry by (step, q) reply ∷ calls_in c.ready.new.history) c.of-kept.ensures ∙ ap (λ (calls : List (Made g.row.B.Denot)). entry by (step, asked) reply ∷ calls) c.in-Ok.ensures.calls in
    subst (λ (es : List HistEntry). IsKept {B = g.row.B.Denot} table inside.number es (record { queue = after; calls = calls_in c.put.new.self })) (sym shown)
    (subst (λ (calls : List (Made g.row.B.Denot)). IsKept {B = g.row.B.Denot} table inside.number (before ++ shown_with by step (named_of inside.number asked) reply ∷ []) (record { queue = after; calls = calls })) (sym told) kept)

pub returns-in-Done-clause-done : goal.returns-in-Done-clause-done
returns-in-Done-clause-done g c =
    let table = g.B.TableName.table in
    let inside = c.self.inside in
    let by = c.args.by in
    let step = c.args.call.0 in
    let asked = c.args.call.1 in
    let reply = c.in-Done.reply in
    let old : ObjectOf g.row.B.Denot = record { queue = c.deref_mut.result.now; calls = calls_in inside.history } in
    let told = c.put.ensures.calls ∙ ap (λ (q : QCall g.row.B.Denot). entry by (step, q) reply ∷ calls_in c.ready.new.history) c.of-kept.ensures ∙ ap (λ (calls : List (Made g.row.B.Denot)). entry by (step, asked) reply ∷ calls) c.in-Ok.ensures.calls in
    let kept_before = subst (λ (q : Queue Right). IsKept {B = g.row.B.Denot} g.B.TableName.table inside.number inside.history.shown.items (record { queue = q; calls = calls_in inside.history })) (sym c.deref_mut.ensures.value) c.self.invariant in
    let answers = answers_call table old c.dispatch.new.slots by step asked reply c.in-Done.ensures.done c.in-Done.ensures.waited kept_before.keeps c.requires in
    let viewed : old ≡ c.args.self.now = (λ i. let o : ObjectOf g.row.B.Denot = record { queue = c.deref_mut.ensures.value i; calls = calls_in inside.history } in o) ∙ c.self.view_is in
    let seen = subst (λ (o : ObjectOf g.row.B.Denot). Replied (mark_of o) o.calls by asked reply × SpareFits table reply) viewed answers in
    (told ∙ ap (λ (o : ObjectOf g.row.B.Denot). entry by (step, asked) reply ∷ o.calls) c.self.view_is, seen.0, seen.1)

pub returns-in-NotYet-clause-not_yet : goal.returns-in-NotYet-clause-not_yet
returns-in-NotYet-clause-not_yet g c =
    let table = g.B.TableName.table in
    let inside = c.self.inside in
    let by = c.args.by in
    let asked = c.args.call.1 in
    let told = c.in-NotYet.ensures.not_yet in
    let old : ObjectOf g.row.B.Denot = record { queue = c.deref_mut.result.now; calls = calls_in inside.history } in
    let kept_before = subst (λ (q : Queue Right). IsKept {B = g.row.B.Denot} g.B.TableName.table inside.number inside.history.shown.items (record { queue = q; calls = calls_in inside.history })) (sym c.deref_mut.ensures.value) c.self.invariant in
    let waits = waits_call table old by asked kept_before.keeps told.2 told.3 in
    let viewed : old ≡ c.args.self.now = (λ i. let o : ObjectOf g.row.B.Denot = record { queue = c.deref_mut.ensures.value i; calls = calls_in inside.history } in o) ∙ c.self.view_is in
    let seen = subst (λ (o : ObjectOf g.row.B.Denot). (may_wait asked ≡ true) × (told_reply (mark_of o) o.calls by asked ≡ plain.Refused WouldBlock)) viewed waits in (
      (λ i. let o : ObjectOf g.row.B.Denot = record { queue = told.1 i; calls = c.in-Ok.ensures.calls i } in o) ∙ viewed,
      ap (λ (q : QCall g.row.B.Denot). (c.args.call.0, q)) told.0,
      seen,
    )

pub invariant_of-self-in-NotYet-1 : goal.invariant_of-self-in-NotYet-1
invariant_of-self-in-NotYet-1 g c =
    let table = g.B.TableName.table in
    let inside = c.self.inside in
    let before : List HistEntry = inside.history.shown.items in
    let old : ObjectOf g.row.B.Denot = record { queue = c.deref_mut.result.now; calls = calls_in inside.history } in
    let new : ObjectOf g.row.B.Denot = record { queue = c.dispatch.new.slots; calls = calls_in c.ready.new.history } in
    let kept_before = subst (λ (q : Queue Right). IsKept {B = g.row.B.Denot} g.B.TableName.table inside.number inside.history.shown.items (record { queue = q; calls = calls_in inside.history })) (sym c.deref_mut.ensures.value) c.self.invariant in
    let same : new ≡ old = λ i. record { queue = c.in-NotYet.ensures.not_yet.1 i; calls = c.in-Ok.ensures.calls i } in
    subst (λ (es : List HistEntry). IsKept {B = g.row.B.Denot} table inside.number es new) (sym c.in-Ok.ensures.shown)
    (subst (λ (o : ObjectOf g.row.B.Denot). IsKept {B = g.row.B.Denot} table inside.number before o) (sym same) kept_before)

pub invariant_of-self-in-NoMemory-1 : goal.invariant_of-self-in-NoMemory-1
invariant_of-self-in-NoMemory-1 g c =
    let table = g.B.TableName.table in
    let inside = c.self.inside in
    let before : List HistEntry = inside.history.shown.items in
    let old : ObjectOf g.row.B.Denot = record { queue = c.deref_mut.result.now; calls = calls_in inside.history } in
    let new : ObjectOf g.row.B.Denot = record { queue = c.dispatch.new.slots; calls = calls_in c.ready.new.history } in
    let kept_before = subst (λ (q : Queue Right). IsKept {B = g.row.B.Denot} g.B.TableName.table inside.number inside.history.shown.items (record { queue = q; calls = calls_in inside.history })) (sym c.deref_mut.ensures.value) c.self.invariant in
    let same : new ≡ old = λ i. record { queue = c.in-NoMemory.ensures.no_memory.1 i; calls = c.in-Ok.ensures.calls i } in
    subst (λ (es : List HistEntry). IsKept {B = g.row.B.Denot} table inside.number es new) (sym c.in-Ok.ensures.shown)
    (subst (λ (o : ObjectOf g.row.B.Denot). IsKept {B = g.row.B.Denot} table inside.number before o) (sym same) kept_before)

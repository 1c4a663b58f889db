-- What a call tells its caller, from the steps of the call.
use Rattle.std.proofs.Common.{◌≡◌, ℕ, true, false, ◌+◌, ◌≢◌, List, [], ◌∷◌, Some, None, sym, refl, ap, ◌∙◌, subst}
use Rattle.atomic_table.specs.Seated.{TableId}
use Rattle.sf_calls.specs.declared.protocol.Knows.{Knows}
use Rattle.sf_calls.specs.declared.object.Entry.{Entry}
use Rattle.sf_calls.specs.declared.object.Answer.{Answer}
use Rattle.sf_calls.specs.Histories.{IsLegal, Begins, calls_by, entry, replies, waits}
use Rattle.sf_calls.specs.Calling.{Made, Waited}
use Rattle.sf_calls.specs.Views.{pass_view}
use Rattle.sf_calls.proofs.Histories.{begins_more, calls_here, calls_else}

pub other_calls : {C R : Type 0} (b : ℕ) (e : Entry C R) → e.by ≢ b → calls_by b (e ∷ []) ≡ []
other_calls b e ne = calls_else b e [] ne

-- The four views of a pass in a call: before it, with its ticket, with the object, and after it
-- gave the object back with the history h'.
module _ {C R M : Type 0} (answers : M → List (Entry C R) → ℕ → C → Answer R → Type 0) (m : M) (v0 v1 v2 w : Knows C R M) (t t' : TableId) (k b : ℕ) (h h' : List (Entry C R))
    (e1 : v1 ≡ record v0 { ticket = Some k })
    (e2 : v2 ≡ record v1 { inside = true; found = h })
    (e3 : w ≡ record v2 { seen = h'; turns = v2.turns + 1; ticket = None; inside = false; found = h' })
    (table : t' ≡ t)
    (legal : IsLegal (answers m) h)
    (begins : Begins v1.seen h)
    (own : calls_by v1.by h ≡ calls_by v1.by v1.seen)
    (by : b ≡ v0.by) where
  abbrev K : Type 0
  K = Knows C R M

  seen : w.seen ≡ h'
  seen = ap (λ (z : K). z.seen) e3

  was : v1.seen ≡ v0.seen
  was = ap (λ (z : K). z.seen) e1

  by1 : v1.by ≡ v0.by
  by1 = ap (λ (z : K). z.by) e1

  own0 : calls_by v0.by h ≡ calls_by v0.by v0.seen
  own0 = subst (λ (z : ℕ × List (Entry C R)). calls_by z.0 h ≡ calls_by z.0 z.1) (λ i. (by1 i, was i)) own

  after : w ≡ record v0 { seen = h'; turns = v0.turns + 1; ticket = None; inside = false; found = h' }
  after = e3 ∙ ap (λ (z : K). record z { seen = h'; turns = z.turns + 1; ticket = None; inside = false; found = h' }) (e2 ∙ ap (λ (z : K). record z { inside = true; found = h }) e1)

  turn : w.turns ≡ v0.turns + 1
  turn = ap (λ (z : K). z.turns) after

  pub same : pass_view t' w ≡ record (pass_view t v0) { seen = w.seen; turns = w.turns }
  same = (λ i. pass_view (table i) (after i)) ∙ (λ i. record (pass_view t v0) { seen = sym seen i; turns = sym turn i })

  pub made : (call : C) (reply : R) → h' ≡ entry b call reply ∷ h → answers m h b call (replies reply) → Made answers m (pass_view t v0) call reply (pass_view t' w)
  made call reply grown answered =
      let e : Entry C R = entry v0.by call reply in
      let whole : h' ≡ e ∷ h = grown ∙ (λ i. entry (by i) call reply ∷ h) in
      record {
        legal = subst (IsLegal (answers m)) (sym (seen ∙ whole)) (subst (λ (z : ℕ). answers m h z call (replies reply)) by answered, legal);
        begins = subst (λ (z : List (Entry C R) × List (Entry C R)). Begins z.0 z.1) (λ i. (was i, sym (seen ∙ whole) i)) (begins_more v1.seen h (e ∷ []) begins);
        newest = (h, seen ∙ whole);
        own = ap (calls_by v0.by) (seen ∙ whole) ∙ (calls_here v0.by e h refl ∙ ap (λ l. e ∷ l) own0);
        turn = turn;
      }

  pub waited : (call : C) → h' ≡ h → answers m h b call waits → Waited answers m (pass_view t v0) call (pass_view t' w)
  waited call still answered = record {
    legal = subst (IsLegal (answers m)) (sym (seen ∙ still)) legal;
    begins = subst (λ (z : List (Entry C R) × List (Entry C R)). Begins z.0 z.1) (λ i. (was i, sym (seen ∙ still) i)) begins;
    own = ap (calls_by v0.by) (seen ∙ still) ∙ own0;
    not_yet = subst (λ (z : List (Entry C R) × ℕ). answers m z.0 z.1 call waits) (λ i. (sym (seen ∙ still) i, by i)) answered;
    turn = turn;
  }

-- want of memory leaves what contracts see of the pass
pub unchanged : {C R M : Type 0} (v0 v1 v2 w : Knows C R M) (t t' : TableId) (k : ℕ) (h : List (Entry C R)) → v1 ≡ record v0 { ticket = Some k } → v2 ≡ record v1 { inside = true; found = h } → w ≡ record v2 { ticket = None; inside = false; found = v2.seen } → t' ≡ t → pass_view t' w ≡ pass_view t v0
unchanged {C} {R} {M} v0 v1 v2 w t t' k h e1 e2 e3 table =
    let after : w ≡ record v0 { ticket = None; inside = false; found = v0.seen } = e3 ∙ ap (λ (z : Knows C R M). record z { ticket = None; inside = false; found = z.seen }) (e2 ∙ ap (λ (z : Knows C R M). record z { inside = true; found = h }) e1) in
    λ i. pass_view (table i) (after i)

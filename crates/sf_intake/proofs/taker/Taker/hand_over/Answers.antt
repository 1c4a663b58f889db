use Rattle.std.proofs.Common.{◌≡◌, ◌++◌, List, length, sym, ap, ◌∙◌, subst, arith}
use Rattle.std.proofs.lemmas.List.{take-append-drop}
use Rattle.sf_token.specs.Pending.{Arrival}
use Rattle.sf_intake.specs.Passes.{known}
use Rattle.sf_intake.specs.Views.{IsTaker, taker_view}
use Rattle.sf_intake.proofs.TakerLemmas.{handed_over, handed_keeps}
use Rattle.sf_intake.proofs.taker.Taker.hand_over.Goals as goal

pub split_off-requires : goal.split_off-requires
split_off-requires g c = let t = c.if-len-le-MOST_TAKEN.false in let s = c.len.ensures in omega arith

pub invariant_of-self : goal.invariant_of-self
invariant_of-self g c =
    let w = c.self.inside.waiting.items in
    let e : c.replace.result.items ≡ c.split_off.new.self.items = λ i. (c.replace.ensures.value i).items in
    let a : c.replace.new.dest.items ≡ c.in-Ok.rest.items = λ i. (c.replace.ensures.after i).items in
    let cut : c.self.inside.waiting.items ≡ c.replace.result.items ++ c.replace.new.dest.items = sym (take-append-drop 4096 w) ∙ (λ i. sym (e ∙ c.in-Ok.ensures.items) i ++ sym (a ∙ c.in-Ok.ensures.tail) i) in (
      handed_keeps g.N.LeaseHome.holds (known c.self.inside.pass) w c.replace.result.items c.replace.new.dest.items c.self.inside.last cut c.self.invariant.0,
      c.self.invariant.1,
      c.self.invariant.2,
      c.self.invariant.3,
    )

pub returns-in-Ok-clause-ok : goal.returns-in-Ok-clause-ok
returns-in-Ok-clause-ok g c =
    let w = c.self.inside.waiting.items in
    let e : c.replace.result.items ≡ c.split_off.new.self.items = λ i. (c.replace.ensures.value i).items in
    let a : c.replace.new.dest.items ≡ c.in-Ok.rest.items = λ i. (c.replace.ensures.after i).items in
    let cut : c.self.inside.waiting.items ≡ c.replace.result.items ++ c.replace.new.dest.items = sym (take-append-drop 4096 w) ∙ (λ i. sym (e ∙ c.in-Ok.ensures.items) i ++ sym (a ∙ c.in-Ok.ensures.tail) i) in
    handed_over g.N.LeaseHome.holds c.args.self.now (known c.self.inside.pass) c.self.inside.pass.web w c.replace.result.items c.replace.new.dest.items c.self.inside.last c.self.inside.empties c.self.view_is
    cut c.self.invariant.0

pub returns-in-Ok-clause-few : goal.returns-in-Ok-clause-few
returns-in-Ok-clause-few g c =
    let e : c.replace.result.items ≡ c.split_off.new.self.items = λ i. (c.replace.ensures.value i).items in
    let n : length c.replace.result.items ≡ length c.split_off.new.self.items = ap (λ (l : List (Arrival g.row.L.Denot)). length l) e in
    let o = c.split_off.new.self.ok.0 in let m = c.in-Ok.ensures.len in omega arith

pub returns-in-Ok-clause-short : goal.returns-in-Ok-clause-short
returns-in-Ok-clause-short g c = λ few.
    let e : c.replace.result.items ≡ c.split_off.new.self.items = λ i. (c.replace.ensures.value i).items in
    let n : length c.replace.result.items ≡ length c.split_off.new.self.items = ap (λ (l : List (Arrival g.row.L.Denot)). length l) e in
    let o = c.split_off.new.self.ok.0 in let m = c.in-Ok.ensures.len in absurd (omega arith)

pub invariant_of-self-in-Err : goal.invariant_of-self-in-Err
invariant_of-self-in-Err g c =
    let e : c.split_off.new.self.items ≡ c.self.inside.waiting.items = λ i. (c.in-Err.ensures.err i).items in (
      subst (λ (l : List (Arrival g.row.L.Denot)). IsTaker g.N.LeaseHome.holds (known c.self.inside.pass) l c.self.inside.last) (sym e) c.self.invariant.0,
      c.self.invariant.1,
      c.self.invariant.2,
      c.self.invariant.3,
    )

pub returns-in-Err-clause-err : goal.returns-in-Err-clause-err
returns-in-Err-clause-err g c =
    let e : c.split_off.new.self.items ≡ c.self.inside.waiting.items = λ i. (c.in-Err.ensures.err i).items in
    ap (λ (l : List (Arrival g.row.L.Denot)). taker_view c.self.inside.pass.web (known c.self.inside.pass) l c.self.inside.empties) e ∙ c.self.view_is

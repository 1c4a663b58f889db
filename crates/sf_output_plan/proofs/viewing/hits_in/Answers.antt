use Rattle.std.proofs.Common.{◌≡◌, get_or, refl, sym, rules, w32, pos}
use mir.Val.{of_z, to_z}
use Rattle.sf_output.specs.Outputs.{IsOutput}
use Rattle.sf_output_plan.specs.Due.{ShowsDue, hit_due}
use Rattle.sf_output_plan.specs.declared.plan.HitPlan.{HitPlan}
use Rattle.sf_output_plan.proofs.DueLemmas.{map_more}
use Rattle.sf_output_plan.proofs.viewing.hits_in.Goals as goal

pub loop-test-preserved : goal.loop-test-preserved
loop-test-preserved c = λ plan tree shows.
    let test : HitPlan = get_or c.args.hits.now c.loop-test.test-index (record { number = 0; x = pos 0; y = pos 0 }) in
    let across : to_z w32 (of_z w32 test.x) ≡ test.x = search rules in
    let down : to_z w32 (of_z w32 test.y) ≡ test.y = search rules in
    map_more (IsOutput ShowsDue) (hit_due plan tree) c.args.hits.now c.loop-test.test-index _ c.loop-test.views.items c.push.new.self.items _
    c.loop-test-test.true (c.loop-test.invariant plan tree shows) (refl, sym (rw (across, down) at (c.number_at-layer.ensures plan tree shows))) c.in_ok-push.ensures.items

use Rattle.std.proofs.Common.{List, [], subst, sym}
use Rattle.std.proofs.lemmas.List.{take_more}
use Rattle.sf_base.specs.declared.ids.LayerId.{LayerId}
use Rattle.sf_mirror.specs.inner.Marks.{AreMarks}
use Rattle.sf_mirror.proofs.NamingLemmas.{no_marks}
use Rattle.sf_mirror.proofs.naming.marks_of.Goals as goal

pub loop-id-init : goal.loop-id-init
loop-id-init c = subst (AreMarks []) (sym (c.in_ok-marks.ensures.items_if_clones_equal (λ y e. e))) no_marks

pub loop-id-preserved : goal.loop-id-preserved
loop-id-preserved c =
    subst (λ (l : List LayerId). AreMarks l c.mark.new.marks.items) (sym (take_more c.args.taken.now c.loop-id.id-index _ c.loop-id-test.true))
    (c.mark.ensures _ c.loop-id.invariant)

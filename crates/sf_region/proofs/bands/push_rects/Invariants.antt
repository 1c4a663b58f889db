use Rattle.std.proofs.Common.{◌≡◌, ◌++◌, take}
use Rattle.sf_region.specs.Spans.{rects_of}
use Rattle.sf_region.proofs.bands.push_rects.Given as goal

abbrev pub invariant-loop-span : goal.invariant-loop-span
invariant-loop-span l = l.rects.items ≡ l.fn.rects.items ++ rects_of (take l.span-index l.spans) l.from l.to

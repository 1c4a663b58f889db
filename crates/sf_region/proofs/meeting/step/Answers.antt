use Rattle.std.proofs.Common.{◌≡◌, ℕ, ◌+◌, ◌≤◌, ap, length, subst, arith}
use Rattle.std.specs.Prelude.{slice_index_or}
use Rattle.sf_base.specs.declared.geometry.Rect.{Rect}
use Rattle.sf_region.specs.inner.Bands.{EndsBefore}
use Rattle.sf_region.specs.Edges.{bottom, left, past_all, right, top}
use Rattle.sf_region.specs.declared.spans.Span.{Span}
use Rattle.sf_region.proofs.MeetingLemmas.{apart_above, apart_below, apart_left, apart_right, full_at, nowhere, passed}
use Rattle.sf_region.proofs.meeting.step.Goals as goal

pub bottom_of-low-requires : goal.bottom_of-low-requires
bottom_of-low-requires c = (full_at c.args.rects.now c.args.at nowhere c.requires.banded c.requires.within).near

pub span_of-span-requires : goal.span_of-span-requires
span_of-span-requires c = (full_at c.args.rects.now c.args.at nowhere c.requires.banded c.requires.within).near

pub top_of-requires : goal.top_of-requires
top_of-requires c = (full_at c.args.rects.now c.args.at nowhere c.requires.banded c.requires.within).near

pub returns-then-bottom_of-top_of-clause-same : goal.returns-then-bottom_of-top_of-clause-same
returns-then-bottom_of-top_of-clause-same c =
    let rects = c.args.rects.now in
    let rect = c.args.rect.now in
    let under : bottom rect ≤ top (slice_index_or rects c.args.at nowhere) = omega (arith, c.if-bottom_of-top_of.true, c.bottom_of.ensures, c.top_of.ensures) in
    passed rects c.args.at (length rects) nowhere rect c.requires.banded c.requires.near (omega (arith, c.requires.within)) (omega arith) (apart_below rects c.args.at nowhere rect c.requires.banded c.requires.within under)

pub returns-then-low-top_of-clause-same : goal.returns-then-low-top_of-clause-same
returns-then-low-top_of-clause-same c =
    let rects = c.args.rects.now in
    let rect = c.args.rect.now in
    let over : bottom (slice_index_or rects c.args.at nowhere) ≤ top rect = omega (arith, c.if-low-top_of.true, c.bottom_of-low.ensures, c.top_of-else-bottom_of-top_of.ensures) in
    passed rects c.args.at c.past.result nowhere rect c.requires.banded c.requires.near (omega (arith, c.past.ensures.from)) c.past.ensures.within
    (apart_above rects c.args.at c.past.result nowhere rect past_all over
    (λ k low high. subst (λ (n : ℕ). EndsBefore n past_all (slice_index_or rects k nowhere)) c.top_of-then-low-top_of.ensures (c.past.ensures.before k nowhere low high)))

pub returns-then-span-other-clause-same : goal.returns-then-span-other-clause-same
returns-then-span-other-clause-same c =
    let rects = c.args.rects.now in
    let rect = c.args.rect.now in
    let one = slice_index_or rects c.args.at nowhere in
    let ends : c.span_of-span.result.end ≡ right one = ap (λ (s : Span). s.end) c.span_of-span.ensures in
    let starts : c.span_of-other.result.start ≡ left rect = ap (λ (s : Span). s.start) c.span_of-other.ensures in
    let west : right one ≤ left rect = omega (arith, c.if-span-other.true, ends, starts) in
    passed rects c.args.at c.past-then-span-other.result nowhere rect c.requires.banded c.requires.near (omega (arith, c.past-then-span-other.ensures.from)) c.past-then-span-other.ensures.within
    (apart_left rects c.args.at c.past-then-span-other.result nowhere rect c.requires.banded c.past-then-span-other.ensures.within west
    (λ k low high. subst (λ (n : ℕ). EndsBefore (bottom one) n (slice_index_or rects k nowhere)) starts
    (subst (λ (n : ℕ). EndsBefore n c.span_of-other.result.start (slice_index_or rects k nowhere)) c.bottom_of-low.ensures (c.past-then-span-other.ensures.before k nowhere low high))))

pub returns-then-other-span-clause-same : goal.returns-then-other-span-clause-same
returns-then-other-span-clause-same c =
    let rects = c.args.rects.now in
    let rect = c.args.rect.now in
    let one = slice_index_or rects c.args.at nowhere in
    let ends : c.span_of-other.result.end ≡ right rect = ap (λ (s : Span). s.end) c.span_of-other.ensures in
    let starts : c.span_of-span.result.start ≡ left one = ap (λ (s : Span). s.start) c.span_of-span.ensures in
    let east : right rect ≤ left one = omega (arith, c.if-other-span.true, ends, starts) in
    passed rects c.args.at c.past-then-other-span.result nowhere rect c.requires.banded c.requires.near (omega (arith, c.past-then-other-span.ensures.from)) c.past-then-other-span.ensures.within
    (apart_right rects c.args.at c.past-then-other-span.result nowhere rect past_all c.requires.banded c.requires.within c.past-then-other-span.ensures.within east
    (λ k low high. subst (λ (n : ℕ). EndsBefore n past_all (slice_index_or rects k nowhere)) c.bottom_of-low.ensures (c.past-then-other-span.ensures.before k nowhere low high)))

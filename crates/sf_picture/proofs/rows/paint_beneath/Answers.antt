use Rattle.sf_picture.proofs.LeapLemmas.{ShowsMarked-more}
use Rattle.sf_picture.proofs.rows.paint_beneath.Goals as goal

pub returns-clause-shows : goal.returns-clause-shows
returns-clause-shows c = ShowsMarked-more c.args.picture.now c.args.at _ c.requires.shows c.requires.fill c.paint_bare.ensures.marks (rw (c.seen_as-colour.ensures, c.as_slice.ensures) at c.paint_bare.ensures.paints) (rw c.as_slice.ensures at c.columns_of-left.ensures.covers)

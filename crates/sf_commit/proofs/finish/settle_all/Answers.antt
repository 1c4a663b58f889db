use Rattle.std.proofs.Common.{◌∙◌, ◌++◌, ap, sym, subst, map, arith}
use Rattle.std.specs.List.{All}
use Rattle.std.proofs.lemmas.List.Elements.{All-nil}
use Rattle.sf_commit.specs.Leases.{ShowsLease, pictures_here}
use Rattle.sf_commit.specs.OnLayers.{shown_on}
use Rattle.sf_commit.proofs.SettleLemmas.{eye_same}
use Rattle.sf_commit.proofs.finish.settle_all.Goals as goal

pub returns-clause-settles : goal.returns-clause-settles
returns-clause-settles g c =
    let on = c.in_ok-open_all.ensures.readings ∙ ap (λ xs. xs ++ map shown_on c.args.on.items) c.new-readings.ensures.items in
    let contents = c.in_ok-open_all.ensures.contents ∙ ap (λ xs. xs ++ pictures_here g.L.Lease c.args.on.items) c.new-contents.ensures.items in
    record {
      on_is = on;
      contents_are = contents;
      crops = c.in_ok-open_all.ensures.crops (subst (All (ShowsLease g.L.Lease)) (sym c.new-readings.ensures.items) (All-nil (ShowsLease g.L.Lease)));
      few = omega (arith, c.len.ensures, c.if-len.false, c.open_all.new.readings.ok.0);
      released = c.in_ok-releases.ensures.released;
      kept_are = c.in_ok-releases.ensures.kept;
    }

pub returns-in_err-releases-clause-eye : goal.returns-in_err-releases-clause-eye
returns-in_err-releases-clause-eye g c = eye_same g.L.Lease c.args.eye.now

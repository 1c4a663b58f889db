use Rattle.std.proofs.Common.{◌≡◌, sym, ◌∙◌, ap, Some, None}
use Rattle.std.specs.Option.{option_copied}
use Rattle.std.specs.List.{find}
use Rattle.std.proofs.lemmas.Bool.{false≢true}
use Rattle.sf_actor_steps.specs.Bindings.{is_numbered}
use Rattle.sf_actor_steps.proofs.PictureLemmas.{found, not_found}
use Rattle.sf_actor_steps.proofs.refusal.picture_of.Goals as goal

pub unreachable-requires : goal.unreachable-requires
unreachable-requires c =
    let e : find (is_numbered c.args.number) c.args.pictures.now ≡ None = sym c.find_picture.ensures ∙ ap option_copied c.in_default.is in
    false≢true (sym (not_found c.args.pictures.now c.args.number e) ∙ c.requires)

pub returns : goal.returns
returns c =
    let e : find (is_numbered c.args.number) c.args.pictures.now ≡ Some c.in-Some.picture.now = sym c.find_picture.ensures ∙ ap option_copied c.in-Some.is in
    sym (found c.args.pictures.now c.args.number c.in-Some.picture.now e)

use Rattle.std.proofs.Common.{refl, ◌∙◌, ap, List, ℕ, ◌++◌}
use Rattle.byteorder.specs.Endian.{big_bytes}
use Rattle.sf_io.proofs.StreamLemmas.{put_second}
use Rattle.sf_io.proofs.streams.head_of.Goals as goal

pub returns : goal.returns
returns c =
    put_second _ _ (big_bytes 4 c.args.length_of_body) _ c.copy_from_slice.ensures.len refl c.write_u32.ensures
    ∙ ap (λ (l : List ℕ). l ++ big_bytes 4 c.args.length_of_body) c.copy_from_slice.ensures.after

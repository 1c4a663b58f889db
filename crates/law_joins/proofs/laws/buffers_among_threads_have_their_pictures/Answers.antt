use Rattle.std.proofs.Common.{ℕ, ap}
use Rattle.law_joins.proofs.BufferPictures.{all_find}
use Rattle.law_joins.proofs.laws.buffers_among_threads_have_their_pictures.Goals as goal

pub returns : goal.returns
returns g c = λ join. all_find _ (record { plain = λ a b e. e; picture = λ a b e. e; number = λ a b e. ap (λ (p : ℕ × ℕ). p.1) e }) join.scene g.B.TableName.table join.period join.most join.locks join.last join.ends join.desk join.is

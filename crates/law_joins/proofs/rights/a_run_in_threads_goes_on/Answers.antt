use Rattle.std.proofs.Common.{ℕ, ap, refl}
use Rattle.law_threads.specs.sf_surface.Reading.{PlainLease}
use Rattle.law_threads.specs.sf_actor.Makers.{BufferOf}
use Rattle.law_joins.proofs.KnownBeginnings.{tied_in_run, tied_standing}
use Rattle.law_joins.proofs.rights.a_run_in_threads_goes_on.Goals as goal

abbrev at : PlainLease → BufferOf
at plain = record { queue = plain.queue.0; number = plain.held.number }

pub returns-clause-in_run : goal.returns-clause-in_run
returns-clause-in_run g c = λ join few.
    tied_in_run _ join.scene g.B.TableName.table join.period join.most join.locks join.last join.ends join.desk join.is (record { plain = λ a b e. e; picture = λ a b e. e; number = λ a b e. ap (λ (p : ℕ × ℕ). p.1) e }) (λ eye l knows. knows)
    (record { end = λ l. refl; next_end = λ l. refl; ends = λ eye. refl }) (λ one other same. ap at same) few

pub returns-clause-standing : goal.returns-clause-standing
returns-clause-standing g c = λ join few.
    tied_standing _ join.scene g.B.TableName.table join.period join.most join.locks join.last join.ends join.desk join.is (record { plain = λ a b e. e; picture = λ a b e. e; number = λ a b e. ap (λ (p : ℕ × ℕ). p.1) e }) (λ eye l knows. knows)
    (record { end = λ l. refl; next_end = λ l. refl; ends = λ eye. refl }) (λ one other same. ap at same) few

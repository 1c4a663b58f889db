use Rattle.std.proofs.Common.{◌≡◌, sym, subst}
use Rattle.std.specs.Prelude.{IfOk}
use Rattle.std.specs.List.{AllZip}
use Rattle.sf_live_seats.specs.declared.first.FirstSeats.{FirstSeats}
use Rattle.sf_live_threads.specs.Backs.{AllCame}
use Rattle.sf_live_threads.specs.inner.Tasks.{AreTasks, GivesWhole, Stays}
use Rattle.sf_live_threads.specs.Visits.{Attends}
use Rattle.sf_live_threads.proofs.AttendLemmas.{all_came, carried, left_so, ok_more, some_more, some_ok, tasks_fit, tasks_stay}
use Rattle.sf_live_threads.proofs.run.fn.crowd.scope.Goals as goal

pub attend_sent-rest-requires-clause-fit : goal.attend_sent-rest-requires-clause-fit
attend_sent-rest-requires-clause-fit g c κs within =
    some_more _ _ (λ tasks are. tasks_fit g.B.TableName.table c.captures.locks.now c.captures.pictures.now c.captures.seated_actors.items tasks.items are) c.send_all-sent.result c.send_all-sent.ensures

pub returns : goal.returns
returns g c =
    let table = g.B.TableName.table in
    let locks = c.captures.locks.now in
    let pictures = c.captures.pictures.now in
    let first = c.captures.first in
    let sent = c.captures.seated_actors.items in
    let visitor = c.attend_sent-rest.new.visitor in
    let rest = c.attend_sent-rest.result in
    let out = c.attend_sent-rest.ensures in
    let joined = c.join_all.ensures in
    let are : IfOk rest (λ out. AreTasks table locks pictures sent out.1.items) =
    some_ok _ (λ tasks out. AllZip (Stays table locks pictures) tasks.items out.1.items) _ (λ tasks out are stays. tasks_stay table locks pictures sent tasks.items out.1.items are stays) c.send_all-sent.result rest out.none
    c.send_all-sent.ensures out.tasks in
    record {
      attended = λ start kept.
          let keeps = g.V.Visit.keeps start in
          carried (λ out. Attends keeps table locks first out.0 visitor) (λ out back. back.0 ≡ out.0) (λ back. Attends keeps table locks first back.0 visitor)
          (λ out back same attends. subst (λ (f : FirstSeats g.row.B.Denot). Attends keeps table locks first f visitor) (sym same) attends) rest c.join_all.result joined.rested joined.first (out.attended start kept);
      left = λ start kept.
          let keeps = g.V.Visit.keeps start in
          left_so keeps (g.V.Visit.ended start) locks visitor (λ out. out.0) rest c.join_all.result
          (ok_more (λ out. Attends keeps table locks first out.0 visitor) (λ out. keeps visitor locks out.0) (λ out attends. attends.kept) rest (out.attended start kept)) (out.left start kept) joined.left;
      came =
          carried (λ out. AreTasks table locks pictures sent out.1.items) (λ out back. AllZip (GivesWhole table) out.1.items back.1.items) (λ back. AllCame table locks pictures sent back.1.items)
          (λ out back whole are. all_came table locks pictures sent out.1.items back.1.items are whole) rest c.join_all.result joined.rested joined.came are;
    }

use Rattle.std.proofs.Common.{◌∙◌, map, sym, arith}
use Rattle.std.proofs.lemmas.List.{length-map}
use Rattle.sf_live_threads.specs.Backs.{AllCame}
use Rattle.sf_live_threads.specs.Seating.{GetsSeats, IsNewcomer, number_of}
use Rattle.sf_live_threads.specs.SeatedActors.{MayTryNext, Came}
use Rattle.sf_live_threads.specs.Meeting.{seats_of}
use Rattle.sf_live_threads.specs.Visits.{Attends}
use Rattle.sf_live_threads.proofs.AttendLemmas.{left_returned, of_ok, ok_both}
use Rattle.sf_live_threads.proofs.SeatingLemmas.{newcomer_may_try_next}
use Rattle.sf_live_threads.proofs.MeetLemmas.{all_back, callers_back, came_own, finished_given, room_for_all, same_callers}
use Rattle.sf_live_threads.proofs.Zips.{zip_each, zip_long}
use Rattle.sf_live_threads.proofs.run.run_actors.Goals as goal

pub crowd-visitor-requires-clause-few : goal.crowd-visitor-requires-clause-few
crowd-visitor-requires-clause-few g c κs within =
    let long = zip_long (GetsSeats {B = g.row.B.Denot} g.B.TableName.table c.args.locks.now c.args.first.seats) c.args.actors.items c.in-Ok.after_seating.1.items c.in-Ok.ensures.seated_actors in
    omega (arith, long, c.requires.few)

pub crowd-visitor-requires-clause-may_try_next : goal.crowd-visitor-requires-clause-may_try_next
crowd-visitor-requires-clause-may_try_next g c κs within =
    zip_each (IsNewcomer g.B.TableName.table c.args.locks.now c.args.pictures.now c.args.first.seats) (GetsSeats g.B.TableName.table c.args.locks.now c.args.first.seats)
    (MayTryNext g.B.TableName.table c.args.locks.now c.args.pictures.now)
    (λ actor seated_actor new gets_seats. newcomer_may_try_next g.B.TableName.table c.args.locks.now c.args.pictures.now c.args.first.seats actor seated_actor new gets_seats)
    c.args.actors.items c.in-Ok.after_seating.1.items c.requires.newcomers c.in-Ok.ensures.seated_actors

pub take_in-requires-clause-theirs : goal.take_in-requires-clause-theirs
take_in-requires-clause-theirs g c =
    let came = of_ok (λ rest. AllCame g.B.TableName.table c.args.locks.now c.args.pictures.now c.in-Ok.after_seating.1.items rest.1.items) c.crowd-visitor.result.1 _ c.in-Ok-rest.is c.crowd-visitor.ensures.came in
    came_own g.B.TableName.table c.args.locks.now c.args.pictures.now c.in-Ok.after_seating.1.items c.in-Ok-rest.back.items came

pub take_in-requires-clause-out : goal.take_in-requires-clause-out
take_in-requires-clause-out g c =
    let e = c.in-Ok.ensures in
    let came = of_ok (λ rest. AllCame g.B.TableName.table c.args.locks.now c.args.pictures.now c.in-Ok.after_seating.1.items rest.1.items) c.crowd-visitor.result.1 _ c.in-Ok-rest.is c.crowd-visitor.ensures.came in
    let attends = of_ok (λ rest. Attends (g.V.Visit.keeps c.args.visitor) g.B.TableName.table c.args.locks.now c.in-Ok.after_seating.0 rest.0 c.crowd-visitor.result.0) c.crowd-visitor.result.1 _ c.in-Ok-rest.is (c.crowd-visitor.ensures.attended c.args.visitor (c.requires.kept c.in-Ok.after_seating.0 c.in-Ok.ensures.first c.in-Ok.ensures.gives)) in
    let gets_seats = zip_long (GetsSeats {B = g.row.B.Denot} g.B.TableName.table c.args.locks.now c.args.first.seats) c.args.actors.items c.in-Ok.after_seating.1.items e.seated_actors in
    let back = zip_long (Came {B = g.row.B.Denot} g.B.TableName.table c.args.locks.now c.args.pictures.now) c.in-Ok.after_seating.1.items c.in-Ok-rest.back.items came in
    room_for_all g.B.TableName.table c.args.locks.now c.args.first c.in-Ok.after_seating.0 c.in-Ok-rest.attended (map number_of c.args.actors.items) c.in-Ok-rest.back.items
    c.requires.first c.requires.none e.gives attends.given (sym back ∙ (sym gets_seats ∙ sym (length-map c.args.actors.items number_of)))

pub returns-in-Ok-rest-clause-all : goal.returns-in-Ok-rest-clause-all
returns-in-Ok-rest-clause-all g c =
    let e = c.in-Ok.ensures in
    let came = of_ok (λ rest. AllCame g.B.TableName.table c.args.locks.now c.args.pictures.now c.in-Ok.after_seating.1.items rest.1.items) c.crowd-visitor.result.1 _ c.in-Ok-rest.is c.crowd-visitor.ensures.came in
    let attends = of_ok (λ rest. Attends (g.V.Visit.keeps c.args.visitor) g.B.TableName.table c.args.locks.now c.in-Ok.after_seating.0 rest.0 c.crowd-visitor.result.0) c.crowd-visitor.result.1 _ c.in-Ok-rest.is (c.crowd-visitor.ensures.attended c.args.visitor (c.requires.kept c.in-Ok.after_seating.0 c.in-Ok.ensures.first c.in-Ok.ensures.gives)) in
    ok_both _ _ _ (λ all_returned met returned. all_back g.B.TableName.table c.args.locks.now c.args.first c.in-Ok.after_seating.0 met.finished all_returned.first (map number_of c.args.actors.items)
    met.reunited c.requires.first c.requires.none e.gives (finished_given c.in-Ok.after_seating.0 c.in-Ok-rest.attended met.finished attends.given met.finishes) met.met
    (same_callers c.args.locks.now (map seats_of c.in-Ok-rest.back.items) met.reunited met.reunites
    ∙ callers_back g.B.TableName.table c.args.locks.now c.args.pictures.now c.args.first.seats c.args.actors.items c.in-Ok.after_seating.1.items c.in-Ok-rest.back.items e.seated_actors came))
    c.take_in.result c.take_in.ensures.met c.take_in.ensures.returned

pub returns-in-Ok-rest-clause-returns : goal.returns-in-Ok-rest-clause-returns
returns-in-Ok-rest-clause-returns g c =
    let e = c.in-Ok.ensures in
    let came = of_ok (λ rest. AllCame g.B.TableName.table c.args.locks.now c.args.pictures.now c.in-Ok.after_seating.1.items rest.1.items) c.crowd-visitor.result.1 _ c.in-Ok-rest.is c.crowd-visitor.ensures.came in
    let attends = of_ok (λ rest. Attends (g.V.Visit.keeps c.args.visitor) g.B.TableName.table c.args.locks.now c.in-Ok.after_seating.0 rest.0 c.crowd-visitor.result.0) c.crowd-visitor.result.1 _ c.in-Ok-rest.is (c.crowd-visitor.ensures.attended c.args.visitor (c.requires.kept c.in-Ok.after_seating.0 c.in-Ok.ensures.first c.in-Ok.ensures.gives)) in
    ok_both _ _ _ (λ all_returned met returned. record {
      after_seating = c.in-Ok.after_seating.0;
      gives = e.gives;
      sent = c.in-Ok.after_seating.1.items;
      gets_seats = e.seated_actors;
      back = c.in-Ok-rest.back.items;
      came = came;
      attended = c.in-Ok-rest.attended;
      attends = attends;
      met = met;
      returned = returned;
    }) c.take_in.result c.take_in.ensures.met c.take_in.ensures.returned

pub returns-in-Ok-rest-clause-left : goal.returns-in-Ok-rest-clause-left
returns-in-Ok-rest-clause-left g c =
    let attends = of_ok (λ rest. Attends (g.V.Visit.keeps c.args.visitor) g.B.TableName.table c.args.locks.now c.in-Ok.after_seating.0 rest.0 c.crowd-visitor.result.0) c.crowd-visitor.result.1 _ c.in-Ok-rest.is (c.crowd-visitor.ensures.attended c.args.visitor (c.requires.kept c.in-Ok.after_seating.0 c.in-Ok.ensures.first c.in-Ok.ensures.gives)) in
    left_returned (g.V.Visit.keeps c.args.visitor) (g.V.Visit.ended c.args.visitor) c.args.locks.now c.args.visitor c.crowd-visitor.result.0 c.in-Ok-rest.attended attends.kept c.take_in.result c.take_in.ensures.no_memory

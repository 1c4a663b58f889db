use Rattle.std.proofs.Common.{◌∙◌, ap, refl, subst, sym, ℕ}
use Rattle.sf_play_report.specs.sf_surface.Reading.{PlainLease}
use Rattle.sf_play_report.specs.sf_actor.Makers.{BufferOf}
use Rattle.sf_play.proofs.NextAction.{goes, goes_with, keeps_as, less, may_make, stays, told, turned}
use Rattle.sf_play.specs.Places.{settled}
use Rattle.sf_play.specs.Players.{PlayOf, PlayerOf}
use Rattle.sf_play.specs.Standing.{StandsAlong, StandsInRun}
use Rattle.sf_play.specs.Actions.{KeepsActorSet}
use Rattle.sf_play.proofs.player.Player.next.Goals as goal

abbrev buffer_in : PlainLease → BufferOf
buffer_in plain = record { queue = plain.queue.0; number = plain.held.number }

pub action_at-requires : goal.action_at-requires
action_at-requires g c =
    let play : PlayOf g.row.B.Denot = record { period = c.self.inside.period; order = c.self.inside.order; actor_set = c.self.inside.actor_set; handler = c.self.inside.handler; vsyncs = c.self.inside.vsyncs } in
    let inside : PlayerOf g.row.B.Denot = record { play = play; place = c.self.inside.place; held = c.self.inside.held; is_spent = c.self.inside.is_spent } in
    record {
      spent = refl;
      may = may_make g.B.TableName.table inside (c.self.invariant.stands c.if-self.false);
      settled = c.settled-place.ensures ∙ (λ i. settled (c.as_slice.ensures i) c.self.inside.place);
    }

pub invariant_of-self-3 : goal.invariant_of-self-3
invariant_of-self-3 g c =
    let play : PlayOf g.row.B.Denot = record { period = c.self.inside.period; order = c.self.inside.order; actor_set = c.self.inside.actor_set; handler = c.self.inside.handler; vsyncs = c.self.inside.vsyncs } in
    let inside : PlayerOf g.row.B.Denot = record { play = play; place = c.self.inside.place; held = c.self.inside.held; is_spent = c.self.inside.is_spent } in
    let next : PlayOf g.row.B.Denot = record { period = c.self-2.inside.period; order = c.self-2.inside.order; actor_set = c.self-2.inside.actor_set; handler = c.self-2.inside.handler; vsyncs = c.self-2.inside.vsyncs } in
    let later : PlayerOf g.row.B.Denot = record { play = next; place = c.self-2.inside.place; held = c.self-2.inside.held; is_spent = c.self-2.inside.is_spent } in
    stays _ g.B.TableName.table inside later c.in_ok-action.action c.settled-place.result (c.settled-place.ensures ∙ (λ i. settled (c.as_slice.ensures i) c.self.inside.place)) c.if-self.false
    (λ ofs keep. rw c.self-2.view_is (c.in_ok-action.ensures.acts ofs keep))
    (record { plain = λ a b e. e; picture = λ a b e. e; number = λ a b e. ap (λ (p : ℕ × ℕ). p.1) e }) (record { end = λ l. refl; next_end = λ l. refl; ends = λ eye. refl })
    (record { places = λ one other same. ap buffer_in same; shows = λ one is. is; exact = λ eye first none. rw (first, none) refl; tells = λ eye l. refl })
    c.tells.ensures (keeps_as _ g.B.TableName.table later c.action_at.new.self c.self-2.view_is c.tells-2.ensures) (c.self.invariant.stands c.if-self.false)

pub returns-clause-acts : goal.returns-clause-acts
returns-clause-acts g c = λ ofs keep.
    let play : PlayOf g.row.B.Denot = record { period = c.self.inside.period; order = c.self.inside.order; actor_set = c.self.inside.actor_set; handler = c.self.inside.handler; vsyncs = c.self.inside.vsyncs } in
    let inside : PlayerOf g.row.B.Denot = record { play = play; place = c.self.inside.place; held = c.self.inside.held; is_spent = c.self.inside.is_spent } in
    let next : PlayOf g.row.B.Denot = record { period = c.self-2.inside.period; order = c.self-2.inside.order; actor_set = c.self-2.inside.actor_set; handler = c.self-2.inside.handler; vsyncs = c.self-2.inside.vsyncs } in
    let later : PlayerOf g.row.B.Denot = record { play = next; place = c.self-2.inside.place; held = c.self-2.inside.held; is_spent = c.self-2.inside.is_spent } in
    let keep_inside = subst (λ (p : PlayerOf g.row.B.Denot). KeepsActorSet g.B.TableName.table p.play ofs) (sym c.self.view_is) keep in
    rw (← c.self.view_is) (turned _ g.B.TableName.table inside later c.in_ok-action.action c.settled-place.result (c.settled-place.ensures ∙ (λ i. settled (c.as_slice.ensures i) c.self.inside.place)) c.if-self.false
    (λ os kept. rw c.self-2.view_is (c.in_ok-action.ensures.acts os kept)) ofs keep_inside)

pub returns-clause-on : goal.returns-clause-on
returns-clause-on g c = λ scene so was.
    let play : PlayOf g.row.B.Denot = record { period = c.self.inside.period; order = c.self.inside.order; actor_set = c.self.inside.actor_set; handler = c.self.inside.handler; vsyncs = c.self.inside.vsyncs } in
    let inside : PlayerOf g.row.B.Denot = record { play = play; place = c.self.inside.place; held = c.self.inside.held; is_spent = c.self.inside.is_spent } in
    let next : PlayOf g.row.B.Denot = record { period = c.self-2.inside.period; order = c.self-2.inside.order; actor_set = c.self-2.inside.actor_set; handler = c.self-2.inside.handler; vsyncs = c.self-2.inside.vsyncs } in
    let later : PlayerOf g.row.B.Denot = record { play = next; place = c.self-2.inside.place; held = c.self-2.inside.held; is_spent = c.self-2.inside.is_spent } in
    goes _ g.B.TableName.table inside later c.in_ok-action.action c.settled-place.result (c.settled-place.ensures ∙ (λ i. settled (c.as_slice.ensures i) c.self.inside.place)) c.if-self.false
    (λ ofs keep. rw c.self-2.view_is (c.in_ok-action.ensures.acts ofs keep))
    (record { plain = λ a b e. e; picture = λ a b e. e; number = λ a b e. ap (λ (p : ℕ × ℕ). p.1) e }) (record { end = λ l. refl; next_end = λ l. refl; ends = λ eye. refl })
    (record { places = λ one other same. ap buffer_in same; shows = λ one is. is; exact = λ eye first none. rw (first, none) refl; tells = λ eye l. refl })
    c.tells.ensures (keeps_as _ g.B.TableName.table later c.action_at.new.self c.self-2.view_is c.tells-2.ensures) scene so (subst (λ (p : PlayerOf g.row.B.Denot). StandsInRun g.B.TableName.table scene so p) (sym c.self.view_is) was)

pub returns-clause-along : goal.returns-clause-along
returns-clause-along g c = λ scene so was.
    let play : PlayOf g.row.B.Denot = record { period = c.self.inside.period; order = c.self.inside.order; actor_set = c.self.inside.actor_set; handler = c.self.inside.handler; vsyncs = c.self.inside.vsyncs } in
    let inside : PlayerOf g.row.B.Denot = record { play = play; place = c.self.inside.place; held = c.self.inside.held; is_spent = c.self.inside.is_spent } in
    let next : PlayOf g.row.B.Denot = record { period = c.self-2.inside.period; order = c.self-2.inside.order; actor_set = c.self-2.inside.actor_set; handler = c.self-2.inside.handler; vsyncs = c.self-2.inside.vsyncs } in
    let later : PlayerOf g.row.B.Denot = record { play = next; place = c.self-2.inside.place; held = c.self-2.inside.held; is_spent = c.self-2.inside.is_spent } in
    goes_with _ g.B.TableName.table inside later c.in_ok-action.action c.settled-place.result (c.settled-place.ensures ∙ (λ i. settled (c.as_slice.ensures i) c.self.inside.place)) c.if-self.false
    (λ ofs keep. rw c.self-2.view_is (c.in_ok-action.ensures.acts ofs keep))
    (record { plain = λ a b e. e; picture = λ a b e. e; number = λ a b e. ap (λ (p : ℕ × ℕ). p.1) e }) (record { end = λ l. refl; next_end = λ l. refl; ends = λ eye. refl })
    (record { places = λ one other same. ap buffer_in same; shows = λ one is. is; exact = λ eye first none. rw (first, none) refl; tells = λ eye l. refl })
    c.tells.ensures (keeps_as _ g.B.TableName.table later c.action_at.new.self c.self-2.view_is c.tells-2.ensures) scene so (subst (λ (p : PlayerOf g.row.B.Denot). StandsAlong g.B.TableName.table scene so p) (sym c.self.view_is) was)

pub returns-clause-less : goal.returns-clause-less
returns-clause-less g c =
    let play : PlayOf g.row.B.Denot = record { period = c.self.inside.period; order = c.self.inside.order; actor_set = c.self.inside.actor_set; handler = c.self.inside.handler; vsyncs = c.self.inside.vsyncs } in
    let inside : PlayerOf g.row.B.Denot = record { play = play; place = c.self.inside.place; held = c.self.inside.held; is_spent = c.self.inside.is_spent } in
    let next : PlayOf g.row.B.Denot = record { period = c.self-2.inside.period; order = c.self-2.inside.order; actor_set = c.self-2.inside.actor_set; handler = c.self-2.inside.handler; vsyncs = c.self-2.inside.vsyncs } in
    let later : PlayerOf g.row.B.Denot = record { play = next; place = c.self-2.inside.place; held = c.self-2.inside.held; is_spent = c.self-2.inside.is_spent } in
    rw (← c.self.view_is) (less _ g.B.TableName.table inside later c.in_ok-action.action c.settled-place.result (c.settled-place.ensures ∙ (λ i. settled (c.as_slice.ensures i) c.self.inside.place)) c.if-self.false
    (λ ofs keep. rw c.self-2.view_is (c.in_ok-action.ensures.acts ofs keep))
    (record { plain = λ a b e. e; picture = λ a b e. e; number = λ a b e. ap (λ (p : ℕ × ℕ). p.1) e }) (record { end = λ l. refl; next_end = λ l. refl; ends = λ eye. refl })
    (record { places = λ one other same. ap buffer_in same; shows = λ one is. is; exact = λ eye first none. rw (first, none) refl; tells = λ eye l. refl })
    c.tells.ensures (keeps_as _ g.B.TableName.table later c.action_at.new.self c.self-2.view_is c.tells-2.ensures) (c.self.invariant.stands c.if-self.false))

pub returns-clause-told : goal.returns-clause-told
returns-clause-told g c =
    let play : PlayOf g.row.B.Denot = record { period = c.self.inside.period; order = c.self.inside.order; actor_set = c.self.inside.actor_set; handler = c.self.inside.handler; vsyncs = c.self.inside.vsyncs } in
    let inside : PlayerOf g.row.B.Denot = record { play = play; place = c.self.inside.place; held = c.self.inside.held; is_spent = c.self.inside.is_spent } in
    let next : PlayOf g.row.B.Denot = record { period = c.self-2.inside.period; order = c.self-2.inside.order; actor_set = c.self-2.inside.actor_set; handler = c.self-2.inside.handler; vsyncs = c.self-2.inside.vsyncs } in
    let later : PlayerOf g.row.B.Denot = record { play = next; place = c.self-2.inside.place; held = c.self-2.inside.held; is_spent = c.self-2.inside.is_spent } in
    rw (← c.self.view_is) (told _ g.B.TableName.table inside later c.in_ok-action.action c.settled-place.result (c.settled-place.ensures ∙ (λ i. settled (c.as_slice.ensures i) c.self.inside.place)) c.if-self.false
    (λ ofs keep. rw c.self-2.view_is (c.in_ok-action.ensures.acts ofs keep))
    (record { plain = λ a b e. e; picture = λ a b e. e; number = λ a b e. ap (λ (p : ℕ × ℕ). p.1) e }) (record { end = λ l. refl; next_end = λ l. refl; ends = λ eye. refl })
    (record { places = λ one other same. ap buffer_in same; shows = λ one is. is; exact = λ eye first none. rw (first, none) refl; tells = λ eye l. refl })
    c.tells.ensures (keeps_as _ g.B.TableName.table later c.action_at.new.self c.self-2.view_is c.tells-2.ensures) (c.self.invariant.stands c.if-self.false))

use Rattle.std.proofs.Common.{◌∙◌, ℕ, List, ap, subst, sym}
use Rattle.std.specs.List.{All, AllZip}
use Rattle.sf_commit_next.specs.sf_ready.Facts.{FactsOf, HasSame}
use Rattle.std.proofs.lemmas.List.Elements.{All-append}
use Rattle.sf_commit_next.specs.sf_token.Loads.{AllLeases, IsLookedArrival}
use Rattle.sf_commit_next.specs.sf_token.Pending.{Arrival, IsRisingFrom, QueuesOf}
use Rattle.sf_commit_next.specs.sf_txn.Buffers.{Buffer}
use Rattle.sf_commit.proofs.FollowLemmas.{looked_all, looks_rise, rising_append, rising_looked}
use Rattle.sf_commit.proofs.HeldLemmas.{held_is, looks_begin, looks_stay}
use Rattle.sf_commit.proofs.SettleLemmas.{eye_same}
use Rattle.sf_commit.specs.Handlers.{last_of}
use Rattle.sf_commit.specs.inner.Holding.{AreLooks}
use Rattle.sf_commit_next.specs.Next.{AreRising, IsLookedAt}
use Rattle.sf_commit.specs.Rounds.{Leads, StageOf, pressed_in}
use Rattle.sf_commit.proofs.follow.decide_all.Goals as goal

pub look-requires : goal.look-requires
look-requires g c =
    let fits = g.L.Lease.fits (g.L.Lease.mark c.args.eye.now) in
    record {
      fits = subst (λ (q : QueuesOf g.row.L.Denot). AllLeases fits q.pending) (sym c.in_ok-receive.ensures)
          (All-append (λ (a : Arrival g.row.L.Denot). All (λ (b : Buffer g.row.L.Denot). fits b.lease) a.txn.buffers) c.args.queues.now.pending c.args.arrived.items c.requires.pending c.requires.brought);
    }

pub decide-requires-clause-pressed : goal.decide-requires-clause-pressed
decide-requires-clause-pressed g c = subst (λ (p : List ℕ). HasSame p (pressed_in c.args.stage.tree.layers)) (sym (ap (λ (f : FactsOf). f.pressed) c.begin_vsync.ensures)) c.requires.pressed

pub decide-requires-clause-looked : goal.decide-requires-clause-looked
decide-requires-clause-looked g c =
    let end = last_of c.args.queues.now.last c.args.arrived.items in
    let all = rising_append 0 c.args.queues.now.last end c.args.queues.now.pending c.args.arrived.items c.requires.earlier c.requires.rising in
    let received = subst (λ xs. IsRisingFrom 0 xs end) (sym (ap (λ (q : QueuesOf g.row.L.Denot). q.pending) c.in_ok-receive.ensures)) all in
    let rises = rising_looked g.L.Lease 0 end c.receive.new.queues.pending c.look.new.self.pending c.in_ok-looks.ensures.looked received in
    subst (λ looks. All (IsLookedAt g.L.Lease.shown looks) c.look.new.self.pending) (sym (c.as_slice.ensures.value ∙ c.in_ok-looks.ensures.looks))
    (looked_all g.L.Lease 0 end c.look.new.self.pending rises)

pub decide-requires-clause-rising : goal.decide-requires-clause-rising
decide-requires-clause-rising g c =
    let end = last_of c.args.queues.now.last c.args.arrived.items in
    let all = rising_append 0 c.args.queues.now.last end c.args.queues.now.pending c.args.arrived.items c.requires.earlier c.requires.rising in
    let received = subst (λ xs. IsRisingFrom 0 xs end) (sym (ap (λ (q : QueuesOf g.row.L.Denot). q.pending) c.in_ok-receive.ensures)) all in
    let rises = rising_looked g.L.Lease 0 end c.receive.new.queues.pending c.look.new.self.pending c.in_ok-looks.ensures.looked received in
    subst (AreRising 0) (sym (c.as_slice.ensures.value ∙ c.in_ok-looks.ensures.looks)) (looks_rise g.L.Lease 0 end c.look.new.self.pending rises)

pub held-requires : goal.held-requires
held-requires g c =
    let end = last_of c.args.queues.now.last c.args.arrived.items in
    let all = rising_append 0 c.args.queues.now.last end c.args.queues.now.pending c.args.arrived.items c.requires.earlier c.requires.rising in
    let received = subst (λ xs. IsRisingFrom 0 xs end) (sym (ap (λ (q : QueuesOf g.row.L.Denot). q.pending) c.in_ok-receive.ensures)) all in
    let rises = rising_looked g.L.Lease 0 end c.receive.new.queues.pending c.look.new.self.pending c.in_ok-looks.ensures.looked received in
    let begins = subst (λ looks. AreLooks g.L.Lease looks c.look.new.self.pending) (sym (c.as_slice-2.ensures.value ∙ c.in_ok-looks.ensures.looks)) (looks_begin g.L.Lease c.look.new.self.pending end rises) in
    looks_stay g.L.Lease c.args.instant.seen.now c.args.instant.expected c.as_slice-2.result.now _ c.decide.new.stage c.decide.new.queues.pending c.decide.new.facts c.in_ok-decide.ensures.comes begins

pub returns-clause-decides : goal.returns-clause-decides
returns-clause-decides g c =
    let comes = c.in_ok-decide.ensures.comes in
    let lasts = c.in_ok-decide.ensures.last ∙ (ap (λ (q : QueuesOf g.row.L.Denot). q.last) c.in_ok-looks.ensures.rest ∙ ap (λ (q : QueuesOf g.row.L.Denot). q.last) c.in_ok-receive.ensures) in
    let frames = ap (λ (f : FactsOf). f.frames) c.begin_vsync.ensures in
    let fresh = ap (λ (f : FactsOf). f.fresh) c.begin_vsync.ensures in
    record {
      looked = c.look.new.self.pending;
      looks = subst (λ xs. AllZip (IsLookedArrival g.L.Lease) xs c.look.new.self.pending) (ap (λ (q : QueuesOf g.row.L.Denot). q.pending) c.in_ok-receive.ensures) c.in_ok-looks.ensures.looked;
      shown = c.in_ok-looks.ensures.told;
      end = comes.end;
      decided = record {
        taken = comes.decided.taken;
        leads = subst (λ b. Leads g.L.Lease.shown c.args.instant.seen.now c.args.instant.expected b comes.decided.taken comes.end)
            (λ i. record { stage = record { tree = c.args.stage.tree; on = c.args.stage.on; commits = c.requires.no_commits i; gone = c.requires.none_gone i }; pending = c.look.new.self.pending; frames = frames i; fresh = fresh i })
            comes.decided.leads;
        rests = comes.decided.rests;
      };
      shows = comes.shows;
      stage_is = comes.state.made;
      queues = λ i. record { pending = comes.state.waits i; last = lasts i };
      frames = comes.state.same.frames;
      pressed = subst (λ (s : StageOf g.row.L.Denot). HasSame c.decide.new.facts.pressed (pressed_in s.tree.layers)) (sym comes.state.made) comes.state.same.pressed;
      holds = c.in_ok-waits.ensures ∙ held_is g.L.Lease.shown c.args.instant.seen.now c.args.instant.expected c.decide.new.stage c.decide.new.queues.pending c.decide.new.facts comes.end comes.state;
      eye_is = c.look.ensures.eye;
    }

pub returns-in_err-receive-clause-eye : goal.returns-in_err-receive-clause-eye
returns-in_err-receive-clause-eye g c = eye_same g.L.Lease c.args.eye.now

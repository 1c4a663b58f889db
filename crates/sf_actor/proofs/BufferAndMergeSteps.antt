-- What an actor keeps where a frame goes from its name into a transaction, and where it merges two transactions: the frames whose
-- places others take are given back.
use Rattle.std.proofs.Common.{◌≡◌, ℕ, ◌+◌, ◌<◌, List, [], length, set, inl, inr, arith, ap, ◌∙◌, sym, refl, subst, Option, Some, None}
use Rattle.std.specs.Prelude.{Contains, get_or, map, option_to_list}
use Rattle.std.specs.List.{All, AllZip}
use Rattle.std.specs.Option.{option_map}
use Rattle.std.proofs.lemmas.Bool.{false≢true}
use Rattle.std.proofs.lemmas.List.{append-nil, length-set, map-set}
use Rattle.std.proofs.lemmas.List.Elements.{All-map}
use Rattle.sf_script_scene.specs.sf_picture.declared.picture.Picture.{Picture}
use Rattle.sf_script_scene.specs.declared.step.Step.{Step}
use Rattle.sf_script_scene.specs.declared.step.Step.TheVariants as step
use Rattle.sf_surface.specs.declared.call.QCall.{QCall}
use Rattle.sf_surface.specs.Hands.{permit_of}
use Rattle.sf_surface.specs.Tokens.{EndingOf, ReadLeaseOf}
use Rattle.sf_surface.specs.sf_turns.Views.{PermitView}
use Rattle.sf_token.specs.sf_txn.Buffers.{Buffer}
use Rattle.sf_token.specs.sf_txn.Transactions.{Contents, all_replaced, empty, merged, replaced_by, set_buffer}
use Rattle.sf_actor.specs.declared.done.Answered.TheVariants as answered
use Rattle.sf_actor.specs.declared.done.Done.{Done}
use Rattle.sf_actor.specs.declared.holding.Holding.TheVariants as holding
use Rattle.sf_actor.specs.Asking.{buffer_of, merged_away, overtaken_by, replaced_in}
use Rattle.sf_actor.specs.Desks.{DeskHome, DeskView, known_of}
use Rattle.sf_actor.specs.Known.{Call, Share, frame_of, plain_txn, share_of, told_by}
use Rattle.sf_actor.specs.Names.{Frame, FrameOf, Holdings, name_in, transaction_in, with_name, with_transaction}
use Rattle.sf_actor.specs.Holdings.{plain_of, token_of}
use Rattle.sf_actor.specs.Rights.{BringsGiven, EndsIn, HoldsAcquired, MadeWith, QueuesPicture, made_with}
use Rattle.sf_actor.specs.Scripts.{layer_of}
use Rattle.sf_actor.specs.Steps.{holdings_next}
use Rattle.sf_actor.specs.ScriptTraces.{IsMade, made_on}
use Rattle.sf_actor.specs.Tests.{refusal_of}
use Rattle.sf_actor.specs.Traces.{AnswersTests, MadeStep, made_at, release_at}
use Rattle.sf_actor.specs.Tries.{ActorKept, ActorOf, contents_in, held_in, next_step, past_of}
use Rattle.sf_actor.proofs.TraceGrowth.{Adds, at_end}
use Rattle.sf_actor.proofs.BroughtTokens.{names_told}
use Rattle.sf_actor.proofs.FilledNames.{all_still, changes_move, still_reached}
use Rattle.sf_actor.proofs.Forms.{plain_since}
use Rattle.sf_actor.proofs.StepKeepsActor.{actor_with, permits_stay, stepped}
use Rattle.sf_actor.proofs.NameChanges.{held_case, with_held}
use Rattle.sf_actor.proofs.NumberChanges.{contents_case, transactions_told, with_contents}
use Rattle.sf_actor.proofs.TransactionsAlike.{all_replaced_all, all_replaced_plain, all_with_all, merged_plain, replaced_all, replaced_plain, right_of, shown_plain, with_all}
use Rattle.sf_actor.proofs.OvertakenReleases.{GaveBack, GivesBack, IsAcquired, IsMarked, IsRelease, gives_back}

-- a frame as a buffer of a transaction, on a layer, with its right
abbrev pub buffer_with : ℕ → ReadLeaseOf → Buffer ReadLeaseOf
buffer_with layer lease = record { layer = layer_of layer; shown = record { queue = lease.queue; frame = lease.frame; picture = lease.picture; crop = lease.crop }; fence = lease.fence; lease = lease }

-- what names and numbers hold after the steps
shown_then : (holdings : Holdings) (n layer i : ℕ) (lease : ReadLeaseOf) (txn : Contents ReadLeaseOf) → transaction_in holdings n ≡ Some (plain_txn txn) → name_in holdings i ≡ Some (Frame lease.queue (frame_of lease).1) → holdings_next holdings (record { step = step.Buffer n layer i; answered = answered.Own 0 }) ≡ with_name (with_transaction holdings n (Some (set_buffer (plain_txn txn) (buffer_of layer (frame_of lease))))) i None
unfolding holdings_next
shown_then holdings n layer i lease txn there named = rw (named, there) refl

merged_then : (holdings : Holdings) (n m : ℕ) (txn other : Contents ReadLeaseOf) → transaction_in holdings n ≡ Some (plain_txn txn) → transaction_in holdings m ≡ Some (plain_txn other) → holdings_next holdings (record { step = step.Merge n m; answered = answered.Own 0 }) ≡ with_transaction (with_transaction holdings n (Some (merged (plain_txn txn) (plain_txn other)))) m (Some empty)
unfolding holdings_next
merged_then holdings n m txn other there too = rw (there, too) refl

module _ {B : Type 0} where
  -- a release queues no picture, ends nothing, and brings no permit
  release_shows : (pictures : ℕ → Picture) (made : Call B) → IsRelease made → QueuesPicture pictures made.made.call.1
  release_shows pictures made is = subst (QueuesPicture pictures) (sym is.2) tt

  release_ends : (left : List (ℕ × ℕ)) (made : Call B) → IsRelease made → EndsIn left made.made.reply.ends
  release_ends left made is = subst (λ (ending : Option EndingOf). EndsIn left ending) (sym is.3) tt

  release_permits : (made : Call B) (permit : PermitView) → IsRelease made → permit_of made.made.call.1 ≡ Some permit → ⊥
  release_permits made permit is brings = none_some (ap permit_of (sym is.2) ∙ brings)
    where
      none_some : None ≡ Some permit → ⊥
      none_some e = cc

  release_makes : (made : Call B) (number : ℕ) → IsRelease made → MadeWith number made → ⊥
  release_makes made number is makes = false≢true (sym (ap (λ (asked : QCall B). made_with (permit_of asked) made.made.reply.spare number) is.2) ∙ makes)

  -- a step that is done without a call of its own, and gives these frames back
  pub record IsYield (pictures : ℕ → Picture) (actor : ActorOf B) (s : Step) (leases : List ReadLeaseOf) : Type 0 where
    pub test : refusal_of pictures (past_of actor).holdings s ≡ None
    pub made : made_at pictures (at_end actor.trace (record { step = s; answered = answered.Own 0 })) ≡ map (release_at (length actor.trace + 1)) (overtaken_by (past_of actor).holdings s)
    pub overtakes : overtaken_by (past_of actor).holdings s ≡ map frame_of leases

  yield_adds : (pictures : ℕ → Picture) (actor : ActorOf B) (n layer i : ℕ) (leases : List ReadLeaseOf) (old new : Share B) → IsYield pictures actor (step.Buffer n layer i) leases → GaveBack (length actor.trace + 1) leases old new → All (IsAcquired old.calls) leases → Adds pictures actor.stock actor.trace (at_end actor.trace (record { step = step.Buffer n layer i; answered = answered.Own 0 })) old new
  yield_adds pictures actor n layer i leases old new yield gave acquired =
      let s : Step = step.Buffer n layer i in
      let steps : List MadeStep = map (release_at (length actor.trace + 1)) (map frame_of leases) in
      let same : made_at pictures (at_end actor.trace (record { step = s; answered = answered.Own 0 })) ≡ steps = yield.made ∙ ap (map (release_at (length actor.trace + 1))) yield.overtakes in
      record {
        added = gave.added;
        arrived = [];
        calls = gave.calls;
        arrivals = gave.arrivals ∙ sym (append-nil old.arrivals);
        answered = subst (λ (test : Option ℕ). AnswersTests pictures new.values (past_of actor) s (answered.Own 0) test) (sym yield.test) (tt, refl);
        made = λ queue. subst (λ (xs : List MadeStep). AllZip IsMade (made_on queue xs) (map told_by (gave.added queue))) (sym same) (gave.made queue);
        sent = refl;
        values = gave.values;
        signals = gave.signals;
        signalled = λ p there. absurd (nil there);
        left = gave.left;
        counts = gave.counts;
        shows = λ queue made there. release_shows pictures made (gave.releases queue made there);
        tokens = λ queue. subst (λ (xs : List MadeStep). AllZip (BringsGiven old.calls) (made_on queue xs) (gave.added queue)) (sym same) (gave.tokens old.calls acquired queue);
        sends = λ k d low. absurd (omega (arith, low));
        permits = λ queue made permit there brings. absurd (release_permits made permit (gave.releases queue made there) brings);
        new_ones = λ number queue other made earlier there before mine theirs. release_makes made number (gave.releases queue made there) mine;
        once = λ number queue other made later there too mine theirs. absurd (release_makes made number (gave.releases queue made there) mine);
        ends = λ queue made there. release_ends new.left made (gave.releases queue made there);
        pays = λ frame there. absurd (nil there);
        counted = λ place entered. absurd (no_place place entered);
        order = λ place entered. absurd (no_place place entered);
      }
    where
      nil : {A : Type 0} {x : A} → Contains [] x → ⊥
      nil there = omega (arith, there.1)

      no_place : (place : ℕ) → None ≡ Some place → ⊥
      no_place place e = cc

  merge_adds : (pictures : ℕ → Picture) (actor : ActorOf B) (n m : ℕ) (leases : List ReadLeaseOf) (old new : Share B) → IsYield pictures actor (step.Merge n m) leases → GaveBack (length actor.trace + 1) leases old new → All (IsAcquired old.calls) leases → Adds pictures actor.stock actor.trace (at_end actor.trace (record { step = step.Merge n m; answered = answered.Own 0 })) old new
  merge_adds pictures actor n m leases old new yield gave acquired =
      let s : Step = step.Merge n m in
      let steps : List MadeStep = map (release_at (length actor.trace + 1)) (map frame_of leases) in
      let same : made_at pictures (at_end actor.trace (record { step = s; answered = answered.Own 0 })) ≡ steps = yield.made ∙ ap (map (release_at (length actor.trace + 1))) yield.overtakes in
      record {
        added = gave.added;
        arrived = [];
        calls = gave.calls;
        arrivals = gave.arrivals ∙ sym (append-nil old.arrivals);
        answered = subst (λ (test : Option ℕ). AnswersTests pictures new.values (past_of actor) s (answered.Own 0) test) (sym yield.test) (tt, refl);
        made = λ queue. subst (λ (xs : List MadeStep). AllZip IsMade (made_on queue xs) (map told_by (gave.added queue))) (sym same) (gave.made queue);
        sent = refl;
        values = gave.values;
        signals = gave.signals;
        signalled = λ p there. absurd (nil there);
        left = gave.left;
        counts = gave.counts;
        shows = λ queue made there. release_shows pictures made (gave.releases queue made there);
        tokens = λ queue. subst (λ (xs : List MadeStep). AllZip (BringsGiven old.calls) (made_on queue xs) (gave.added queue)) (sym same) (gave.tokens old.calls acquired queue);
        sends = λ k d low. absurd (omega (arith, low));
        permits = λ queue made permit there brings. absurd (release_permits made permit (gave.releases queue made there) brings);
        new_ones = λ number queue other made earlier there before mine theirs. release_makes made number (gave.releases queue made there) mine;
        once = λ number queue other made later there too mine theirs. absurd (release_makes made number (gave.releases queue made there) mine);
        ends = λ queue made there. release_ends new.left made (gave.releases queue made there);
        pays = λ frame there. absurd (nil there);
        counted = λ place entered. absurd (no_place place entered);
        order = λ place entered. absurd (no_place place entered);
      }
    where
      nil : {A : Type 0} {x : A} → Contains [] x → ⊥
      nil there = omega (arith, there.1)

      no_place : (place : ℕ) → None ≡ Some place → ⊥
      no_place place e = cc

  -- A frame moves into a transaction, and the one whose place it takes is given back. The name's frame is one that the actor
  -- acquired.
  pub show_keeps : (pictures : ℕ → Picture) (actor : ActorOf B) (n layer i : ℕ) (lease : ReadLeaseOf) (txn : Contents ReadLeaseOf) (home : DeskHome) (old new : DeskView B) → next_step actor ≡ Some (step.Buffer n layer i) → ActorKept pictures actor (share_of actor.script.number (known_of home old)) → refusal_of pictures (past_of actor).holdings (step.Buffer n layer i) ≡ None → contents_in actor.parts n ≡ Some txn → held_in actor.parts i ≡ Some (holding.Reads lease) → IsAcquired (share_of actor.script.number (known_of home old)).calls lease → n < length actor.parts.transactions → i < length actor.parts.names → All (λ (buffer : Buffer ReadLeaseOf). IsMarked home buffer.lease) txn.buffers → GivesBack home actor.script.number (length actor.trace + 1) (map right_of (option_to_list (replaced_by txn.buffers (buffer_with layer lease)))) old new → ActorKept pictures (stepped actor (record { step = step.Buffer n layer i; answered = answered.Own 0 }) (with_held (with_contents actor.parts n (Some (set_buffer txn (buffer_with layer lease)))) i None actor.parts.stock)) (share_of actor.script.number (known_of home new))
  show_keeps pictures actor n layer i lease txn home old new is_next is unrefused there holds acquired low_number low_name marked gives =
      let by = actor.script.number in
      let s : Step = step.Buffer n layer i in
      let done : Done = record { step = s; answered = answered.Own 0 } in
      let before = share_of by (known_of home old) in
      let after = share_of by (known_of home new) in
      let buffer = buffer_with layer lease in
      let buffers = option_to_list (replaced_by txn.buffers buffer) in
      let leases = map right_of buffers in
      let past = past_of actor in
      let named : name_in past.holdings i ≡ Some (Frame lease.queue (frame_of lease).1) = names_told pictures actor before i is ∙ ap (option_map token_of) holds in
      let told : transaction_in past.holdings n ≡ Some (plain_txn txn) = transactions_told pictures actor before n is ∙ ap (option_map plain_txn) there in
      let gave : GaveBack (length actor.trace + 1) leases before after =
      gives_back home by (length actor.trace + 1) leases old new gives (All-map (IsMarked home) right_of buffers (replaced_all (λ (b : Buffer ReadLeaseOf). IsMarked home b.lease) buffer.layer txn.buffers marked)) in
      let owned : All (HoldsAcquired before.calls) txn.buffers = is.acquired n txn there in
      let ours : All (IsAcquired before.calls) leases = All-map (IsAcquired before.calls) right_of buffers (replaced_all (HoldsAcquired before.calls) buffer.layer txn.buffers owned) in
      let yield : IsYield pictures actor s leases = record {
        test = unrefused;
        made = refl;
        overtakes =
            (λ k. replaced_in (told k) layer (named k))
            ∙ replaced_plain txn.buffers buffer;
      } in
      let now = set_buffer txn buffer in
      let parts = with_held (with_contents actor.parts n (Some now)) i None actor.parts.stock in
      let known : All (HoldsAcquired after.calls) now.buffers = all_still before after gave.added now.buffers gave.calls (with_all (HoldsAcquired before.calls) txn.buffers buffer owned acquired) in
      actor_with pictures actor done parts before after is_next is (yield_adds pictures actor n layer i leases before after yield gave ours)
      (changes_move pictures actor done parts before after gave.added is (record {
        calls = gave.calls;
        has =
            (λ k. record {
              names = map-set (option_map token_of) actor.parts.names i None k;
              transactions = map-set (option_map plain_txn) actor.parts.transactions n (Some now) k;
            })
            ∙ ap (λ (holdings : Holdings). with_name (with_transaction holdings n (Some (plain_txn now))) i None) is.has
            ∙ ap (λ (t : Contents FrameOf). with_name (with_transaction past.holdings n (Some t)) i None) (sym (shown_plain txn buffer))
            ∙ sym (shown_then past.holdings n layer i lease txn told named);
        held = λ name held is_held. held_case actor.parts i None actor.parts.stock name held low_name is_held
            (λ same none. absurd (none_some none))
            (λ apart was. inl (was, ap (λ (since : List ℕ). get_or since name 0) (plain_since past.since (length actor.trace + 1) done refl)));
        contents = λ number other is_there. contents_case actor.parts n (Some now) number other low_number is_there
            (λ e. inr (subst (λ (t : Contents ReadLeaseOf). All (HoldsAcquired after.calls) t.buffers) (one other e) known))
            (λ was. inl was);
        reached = still_reached actor before after gave.values is.reached;
        permits = permits_stay pictures actor done parts before after gave.added is refl gave.calls (λ number queue made below makes. release_makes made number (gave.releases queue made below) makes);
      }))
    where
      none_some : {A : Type 0} {x : A} → None ≡ Some x → ⊥
      none_some e = cc

      one : (other : Contents ReadLeaseOf) → Some (set_buffer txn (buffer_with layer lease)) ≡ Some other → set_buffer txn (buffer_with layer lease) ≡ other
      one other e = cc

  -- One transaction is merged into another and is empty then, and the frames whose places others take are given back.
  pub merge_keeps : (pictures : ℕ → Picture) (actor : ActorOf B) (n m : ℕ) (txn other : Contents ReadLeaseOf) (home : DeskHome) (old new : DeskView B) → next_step actor ≡ Some (step.Merge n m) → ActorKept pictures actor (share_of actor.script.number (known_of home old)) → refusal_of pictures (past_of actor).holdings (step.Merge n m) ≡ None → contents_in actor.parts n ≡ Some txn → contents_in actor.parts m ≡ Some other → n < length actor.parts.transactions → m < length actor.parts.transactions → All (λ (buffer : Buffer ReadLeaseOf). IsMarked home buffer.lease) txn.buffers → All (λ (buffer : Buffer ReadLeaseOf). IsMarked home buffer.lease) other.buffers → GivesBack home actor.script.number (length actor.trace + 1) (map right_of (all_replaced txn.buffers other.buffers)) old new → ActorKept pictures (stepped actor (record { step = step.Merge n m; answered = answered.Own 0 }) (with_contents (with_contents actor.parts n (Some (merged txn other))) m (Some empty))) (share_of actor.script.number (known_of home new))
  merge_keeps pictures actor n m txn other home old new is_next is unrefused there too low low_other marked marked_too gives =
      let by = actor.script.number in
      let s : Step = step.Merge n m in
      let done : Done = record { step = s; answered = answered.Own 0 } in
      let before = share_of by (known_of home old) in
      let after = share_of by (known_of home new) in
      let buffers = all_replaced txn.buffers other.buffers in
      let leases = map right_of buffers in
      let past = past_of actor in
      let told : transaction_in past.holdings n ≡ Some (plain_txn txn) = transactions_told pictures actor before n is ∙ ap (option_map plain_txn) there in
      let told_too : transaction_in past.holdings m ≡ Some (plain_txn other) = transactions_told pictures actor before m is ∙ ap (option_map plain_txn) too in
      let gave : GaveBack (length actor.trace + 1) leases before after =
      gives_back home by (length actor.trace + 1) leases old new gives (All-map (IsMarked home) right_of buffers (all_replaced_all (λ (b : Buffer ReadLeaseOf). IsMarked home b.lease) txn.buffers other.buffers marked marked_too)) in
      let owned : All (HoldsAcquired before.calls) txn.buffers = is.acquired n txn there in
      let owned_too : All (HoldsAcquired before.calls) other.buffers = is.acquired m other too in
      let ours : All (IsAcquired before.calls) leases = All-map (IsAcquired before.calls) right_of buffers (all_replaced_all (HoldsAcquired before.calls) txn.buffers other.buffers owned owned_too) in
      let yield : IsYield pictures actor s leases = record {
        test = unrefused;
        made = refl;
        overtakes =
            (λ k. merged_away (told k) (told_too k))
            ∙ all_replaced_plain txn.buffers other.buffers;
      } in
      let now = merged txn other in
      let parts = with_contents (with_contents actor.parts n (Some now)) m (Some empty) in
      let known : All (HoldsAcquired after.calls) now.buffers = all_still before after gave.added now.buffers gave.calls (all_with_all (HoldsAcquired before.calls) txn.buffers other.buffers owned owned_too) in
      let longer : m < length (set actor.parts.transactions n (Some now)) = omega (arith, length-set actor.parts.transactions n (Some now), low_other) in
      actor_with pictures actor done parts before after is_next is (merge_adds pictures actor n m leases before after yield gave ours)
      (changes_move pictures actor done parts before after gave.added is (record {
        calls = gave.calls;
        has =
            ap (λ (transactions : List (Option (Contents FrameOf))). record { names = (plain_of actor.parts).names; transactions = transactions })
            (map-set (option_map plain_txn) (set actor.parts.transactions n (Some now)) m (Some empty)
            ∙ ap (λ (transactions : List (Option (Contents FrameOf))). set transactions m (Some empty)) (map-set (option_map plain_txn) actor.parts.transactions n (Some now)))
            ∙ ap (λ (holdings : Holdings). with_transaction (with_transaction holdings n (Some (plain_txn now))) m (Some empty)) is.has
            ∙ ap (λ (t : Contents FrameOf). with_transaction (with_transaction past.holdings n (Some t)) m (Some empty)) (sym (merged_plain txn other))
            ∙ sym (merged_then past.holdings n m txn other told told_too);
        held = λ name held is_held. inl (is_held, ap (λ (since : List ℕ). get_or since name 0) (plain_since past.since (length actor.trace + 1) done refl));
        contents = λ number another is_there. contents_case (with_contents actor.parts n (Some now)) m (Some empty) number another longer is_there
            (λ e. inr (subst (λ (t : Contents ReadLeaseOf). All (HoldsAcquired after.calls) t.buffers) (one empty another e) (λ k d below. absurd (omega (arith, below)))))
            (λ was. contents_case actor.parts n (Some now) number another low was
            (λ e. inr (subst (λ (t : Contents ReadLeaseOf). All (HoldsAcquired after.calls) t.buffers) (one now another e) known))
            (λ before. inl before));
        reached = still_reached actor before after gave.values is.reached;
        permits = permits_stay pictures actor done parts before after gave.added is refl gave.calls (λ number queue made below makes. release_makes made number (gave.releases queue made below) makes);
      }))
    where
      one : (a b : Contents ReadLeaseOf) → Some a ≡ Some b → a ≡ b
      one a b e = cc

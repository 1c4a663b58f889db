-- A compositor has as many layers at most as at its beginning: no vsync changes that limit.
use Rattle.std.proofs.Common.{◌≡◌, ℕ, Bool, List, [], ◌∷◌, Result, Ok, Err, refl, ap, ◌∙◌}
use Rattle.sf_base.specs.declared.fences.Seen.{Seen}
use Rattle.sf_live_threads.proofs.sf_tree_lemmas.KeepingAll.{after-ok}
use Rattle.sf_live_threads.specs.sf_tree.Changes.{Rejection, after}
use Rattle.sf_live_threads.specs.sf_tree.Trees.{TreeOf}
use Rattle.sf_live_threads.specs.sf_token.Pending.{Arrival}
use Rattle.sf_live_threads.specs.sf_surface.Tokens.{ReadLeaseOf}
use Rattle.sf_live_threads.specs.sf_turns.Views.{SeatView}
use Rattle.sf_live_threads.specs.sf_txn.declared.lease.Lease.{Ghosts}
use Rattle.sf_live_threads.specs.sf_commit.Handlers.{Decides, HandlerOf, begun}
use Rattle.sf_live_threads.specs.sf_commit.Releases.{CommittedOf}
use Rattle.sf_live_threads.specs.sf_commit.Rounds.{Leads, Round, StageOf, committed, stage_after, stage_with}

module _ {L : Type 0} where
  stage_limit : (stage : StageOf L) (arrived : Arrival L) → (stage_after stage arrived).tree.most ≡ stage.tree.most
  stage_limit stage arrived = by_result (after stage.tree arrived.txn.ops) (λ next e. (after-ok stage.tree next arrived.txn.ops e).1)
    where
      by_result : (result : Result TreeOf Rejection) → ((next : TreeOf) → result ≡ Ok next → next.most ≡ stage.tree.most) → (stage_with stage arrived result).tree.most ≡ stage.tree.most
      by_result (Ok next) kept = kept next refl
      by_result (Err rejection) kept = refl

  round_limit : (drawn : L → Bool) (seen : Seen) (expected : ℕ) (r : Round L) (taken : List (Arrival L)) (end : Round L) → Leads drawn seen expected r taken end
      → end.stage.tree.most ≡ r.stage.tree.most
  round_limit drawn seen expected r [] end leads = ap (λ (x : Round L). x.stage.tree.most) leads
  round_limit drawn seen expected r (next ∷ later) end leads = round_limit drawn seen expected (committed r next) later end leads.1 ∙ stage_limit r.stage next

pub limit_stays : {R C : Type 0} (lease : Ghosts ReadLeaseOf SeatView R C) (old new : HandlerOf ReadLeaseOf) (eye after : SeatView) (arrived : List (Arrival ReadLeaseOf)) (seen : Seen) (expected : ℕ)
    (told : CommittedOf ReadLeaseOf) → Decides lease old eye arrived seen expected told new after → new.tree.most ≡ old.tree.most
limit_stays lease old new eye after arrived seen expected told d =
    ap (λ (h : HandlerOf ReadLeaseOf). h.tree.most) d.settled.state
    ∙ round_limit lease.shown seen expected (begun old d.looked) d.decided.taken d.end d.decided.leads

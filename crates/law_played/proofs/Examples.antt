-- The examples, computed by the definitions.
use Rattle.std.proofs.Common.{◌≡◌, [], ◌∷◌, map, refl}
use Rattle.std.specs.List.{flat_map}
use Rattle.sf_base.specs.Fences.{first_open_of, greater_of_each, merged, no_points, open_from, with_point}
use Rattle.sf_actor.specs.sf_slots.Tells.{AreReplies}
use Rattle.sf_actor.specs.sf_surface.Hands.{points_from}
use Rattle.sf_compose.specs.sf_tree.Changes.{created}
use Rattle.sf_actor.specs.Scripts.{picture_at}
use Rattle.sf_actor.specs.Steps.{holdings_next}
use Rattle.sf_actor.specs.Traces.{places_from}
use Rattle.sf_actor.specs.Written.{written_in}
use Rattle.law_played.specs.Examples.{commits_due, pixel_queue, queue_calls, queue_history, queue_replies, queue_run, queue_trace, release_shown}
use Rattle.law_played.specs.Examples.{replacing_arrivals, replacing_end, replacing_told, replacing_vsyncs}
use Rattle.law_played.specs.Histories.{entry_shown, history_shown, released_in}
use Rattle.law_played.specs.Holds.{AreHeld, uncommitted}
use Rattle.law_played.specs.Replies.{replies_due}
use Rattle.law_played.specs.Stages.{arrival_at, commits_from, round_after, round_at_end, told_from}
use Rattle.law_played.specs.Vsyncs.{commits_in}

pub replies_are : replies_due queue_run 1 ≡ queue_replies
unfolding places_from holdings_next no_points with_point merged greater_of_each points_from
replies_are = refl

pub history_is : history_shown queue_run pixel_queue ≡ queue_history
unfolding places_from holdings_next entry_shown picture_at no_points with_point merged greater_of_each
history_is = refl

pub legal : AreReplies 1 1 queue_calls
unfolding places_from holdings_next picture_at no_points with_point merged greater_of_each
legal = (refl, (refl, (refl, (refl, (refl, tt)))))

pub written_are : written_in queue_trace ≡ ((record { 0 = 1 }, 1) ∷ [])
unfolding places_from holdings_next
written_are = refl

pub releases_are : map release_shown (released_in replacing_told) ≡ ((1, 0, 1, 1 ∷ 1 ∷ []) ∷ (2, 1, 2, []) ∷ [])
unfolding released_in told_from commits_from round_after arrival_at created places_from holdings_next no_points with_point merged greater_of_each points_from
releases_are = refl

pub commits_are : flat_map commits_due replacing_told ≡ commits_in replacing_vsyncs
unfolding commits_in told_from commits_from round_after arrival_at created places_from holdings_next no_points with_point merged greater_of_each
commits_are = refl

pub held_are : AreHeld replacing_end (uncommitted replacing_arrivals (commits_in replacing_vsyncs))
    (record { arrival = 4; hold = 5; a = 1; b = 9 } ∷ [])
unfolding commits_in told_from commits_from round_after round_at_end arrival_at created first_open_of open_from
    places_from holdings_next no_points with_point merged greater_of_each
held_are = refl

-- The calls of a compositor, whose number is 0, on a queue: they are the releases of its vsyncs.
use Rattle.std.specs.Prelude.{ℕ, List, All, map}
use Rattle.std.specs.List.{AllZip}
use Rattle.law_threads.specs.sf_calls.Histories.{calls_by}
use Rattle.law_threads.specs.sf_slots.declared.calls.Entry.{Entry}
use Rattle.law_threads.specs.sf_surface.declared.mark.QueueMark.{QueueMark}
use Rattle.law_threads.specs.sf_surface.Histories.{Made}
use Rattle.law_threads.specs.sf_script_scene.declared.declarations.QueueDecl.{QueueDecl}
use Rattle.law_threads.specs.sf_actor.Desks.{mark_among}
use Rattle.law_threads.specs.sf_actor.Known.{own_calls, told_by}
use Rattle.law_threads.specs.law_played.Actors.{IsRelease}
use Rattle.law_threads.specs.law_played.Histories.{IsReleased, Released, released_on}

module _ {B : Type 0} where
  -- what its calls make of a queue
  abbrev pub entries_of : QueueMark → List (Made B) → List Entry
  entries_of mark calls = map told_by (own_calls 0 mark calls)

  -- those on a declared queue are these releases
  abbrev pub IsGivenOn : List QueueMark → (ℕ → List (Made B)) → List Released → QueueDecl → Type 0
  IsGivenOn marks calls released declared = AllZip IsReleased (released_on declared.number released) (entries_of (mark_among marks declared.number) (calls declared.number))

  -- each of them is a release
  abbrev pub AreReleasesOn : List (Made B) → Type 0
  AreReleasesOn calls = All (λ (made : Made B). IsRelease made.call.1) (calls_by 0 calls)

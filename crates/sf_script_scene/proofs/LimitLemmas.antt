-- A scene with one thing more keeps the limits.
use Rattle.std.proofs.Common.{◌≡◌, ℕ, ◌<◌, ◌≤◌, ◌+◌, ◌==◌, Bool, true, false, ◌||◌, List, [], ◌∷◌, ◌++◌, length, refl, sym, ap, subst, ◌∙◌, inl, inr, arith, length-append, Option, None, Some}
use Rattle.std.proofs.lemmas.Bool.{or_cases, or_left, or_right}
use Rattle.std.proofs.lemmas.List.Elements.{All-nil, All-append, All-push, All-weaker}
use Rattle.std.specs.List.{All}
use Rattle.std.specs.Prelude.{IfSome}
use Rattle.sf_picture.specs.declared.fill.Fill.{Fill}
use Rattle.sf_picture.specs.declared.picture.Picture.{Picture}
use Rattle.sf_script_scene.specs.Limits.{EachStep, IsActor, IsHeader, IsPick, IsRgba, IsVersion1, IsWithinLimits, StepFits, most_actors}
use Rattle.sf_script_scene.specs.Named.{KnowsPicture, KnowsQueue, KnowsTimelines, picture_named, queue_named, timelines_named}
use Rattle.sf_script_scene.specs.Ranges.{IsCapture, IsDisplay, IsFill, IsHit, IsMirror, IsPicture, IsQueue, IsStack, IsStep, IsTimeline}
use Rattle.sf_script_scene.specs.Scene.{SceneValue, has_actor, has_capture, has_display, has_hit, has_layer, has_picture, has_queue, has_timeline, bare_scene, fills_so_far, last_of, steps_so_far, with_fill, with_step}
use Rattle.sf_script_scene.specs.declared.declarations.CaptureDecl.{CaptureDecl}
use Rattle.sf_script_scene.specs.declared.declarations.DisplayDecl.{DisplayDecl}
use Rattle.sf_script_scene.specs.declared.declarations.HitDecl.{HitDecl}
use Rattle.sf_script_scene.specs.declared.declarations.Pick.{Pick}
use Rattle.sf_script_scene.specs.declared.declarations.QueueDecl.{QueueDecl}
use Rattle.sf_script_scene.specs.declared.step.ActorScript.{ActorScript}
use Rattle.sf_script_scene.specs.declared.step.Step.{Step}
use Rattle.sf_script_scene.proofs.DeclaredLemmas.{All-on_last, AreDeclared-nil, AreDeclared-on_last, AreDeclared-push, IfSome-weaker, has_number-on_last, has_number-push, on_last-push}

-- what holds of all steps holds by a weaker claim
each_step-weaker : (P Q : Step → Type 0) (actors : List ActorScript) → ((s : Step) → P s → Q s) → All (EachStep P) actors → All (EachStep Q) actors
each_step-weaker P Q actors f h = All-weaker (EachStep P) (EachStep Q) (λ a k. All-weaker P Q f a.steps k) actors h

-- anything holds of each step of an actor that has none
no_steps : (P : Step → Type 0) (a : ActorScript) → a.steps ≡ [] → EachStep P a
no_steps P a e = subst (All P) (sym e) (All-nil P)

no_steps_yet : (most : ℕ) (a : ActorScript) → 1 ≤ a.number → a.number ≤ most → a.steps ≡ [] → IsActor most a
no_steps_yet most a low high e = record { low = low; high = high; few_steps = omega (arith, ap (λ (l : List Step). length l) e); steps = subst (All IsStep) (sym e) (All-nil IsStep) }

IsPick-push : (actors : List ActorScript) (a : ActorScript) (p : Pick) → IsPick actors p → IsPick (actors ++ a ∷ []) p
IsPick-push actors a p h = record {
  declared = elim (or_cases (p.actor == 0) (has_actor actors p.actor) h.declared) [
    | inl vsync ↦ or_left (p.actor == 0) _ vsync
    | inr declared ↦ or_right (p.actor == 0) _ (has_number-push (λ (x : ActorScript). x.number) actors a p.actor declared)
  ];
  low = h.low;
  high = h.high;
}

-- an actor with one more step
abbrev stepped : Step → ActorScript → ActorScript
stepped st a = record a { steps = a.steps ++ st ∷ [] }

-- a picture with one more fill
abbrev filled : Fill → Picture → Picture
filled x p = record p { fills = p.fills ++ x ∷ [] }

abbrev HasRoom : ActorScript → Type 0
HasRoom a = length a.steps < 4096

has_room : (o : Option ActorScript) → steps_so_far o < 4096 → IfSome o HasRoom
has_room None l = tt
has_room (Some a) l = l

abbrev TakesFill : Picture → Type 0
TakesFill p = length p.fills < 1024

takes_fill : (o : Option Picture) → fills_so_far o < 1024 → IfSome o TakesFill
takes_fill None l = tt
takes_fill (Some p) l = l

IsActor-stepped : (most : ℕ) (st : Step) → IsStep st → (a : ActorScript) → IsActor most a → HasRoom a → IsActor most (stepped st a)
IsActor-stepped most st k a h l = record { low = h.low; high = h.high; few_steps = omega (arith, length-append a.steps (st ∷ []), l); steps = All-push IsStep a.steps st h.steps k }

IsPicture-filled : (x : Fill) → IsFill x → (p : Picture) → IsPicture p → TakesFill p → IsPicture (filled x p)
IsPicture-filled x k p h l = record {
  low = h.low;
  high = h.high;
  size = record { wide = h.size.wide; narrow = h.size.narrow; high = h.size.high; low = h.size.low };
  few_fills = omega (arith, length-append p.fills (x ∷ []), l);
  fills = All-push IsFill p.fills x h.fills k;
}

anything : {X : Type 0} (o : Option X) → IfSome o (λ x. Unit {0})
anything None = tt
anything (Some x) = tt

-- what holds of each step holds of those with one more that does
known-stepped : (P : Step → Type 0) (st : Step) → P st → (actors : List ActorScript) → All (EachStep P) actors → All (EachStep P) (with_step actors st)
known-stepped P st k actors h = All-on_last (EachStep P) (λ a. Unit {0}) (stepped st) (λ a e u. All-push P a.steps st e k) actors h (anything (last_of actors))

IsPick-stepped : (st : Step) (actors : List ActorScript) (p : Pick) → IsPick actors p → IsPick (with_step actors st) p
IsPick-stepped st actors p h = record {
  declared = ap (λ (k : Bool). (p.actor == 0) || k) (has_number-on_last (λ (a : ActorScript). a.number) (stepped st) (λ a. refl) actors p.actor) ∙ h.declared;
  low = h.low;
  high = h.high;
}

-- what version 1 lacks is lacked still where something else is declared
keeps : (s : SceneValue) (timelines : List ℕ) (queues : List QueueDecl) (actors : List ActorScript) (order : List Pick) → IsVersion1 s
    → IsVersion1 (record s { timelines = timelines; queues = queues; actors = actors; order = order })
keeps s timelines queues actors order k = record {
  no_displays = k.no_displays;
  no_stacks = k.no_stacks;
  no_captures = k.no_captures;
  no_hits = k.no_hits;
  no_mirrors = k.no_mirrors;
  pictures = k.pictures;
}

-- the same with other pictures that are of red, green, blue and alpha
keeps_pictures : (s : SceneValue) (pictures : List Picture) → All IsRgba pictures → IsVersion1 s → IsVersion1 (record s { pictures = pictures })
keeps_pictures s pictures all k = record {
  no_displays = k.no_displays;
  no_stacks = k.no_stacks;
  no_captures = k.no_captures;
  no_hits = k.no_hits;
  no_mirrors = k.no_mirrors;
  pictures = all;
}

-- a version is not both
not_first : (version : ℕ) → version ≡ 2 → version ≡ 1 → ⊥
not_first version two one = omega (arith, two, one)

-- a scene in which nothing is declared
pub limits-bare : (version width height period : ℕ) → IsHeader version width height period → IsWithinLimits (bare_scene version width height period)
limits-bare version width height period h = record {
  header = h;
  timelines = AreDeclared-nil (λ (t : ℕ). t) IsTimeline;
  queues = AreDeclared-nil (λ (q : QueueDecl). q.number) IsQueue;
  pictures = AreDeclared-nil (λ (p : Picture). p.number) IsPicture;
  actors = AreDeclared-nil (λ (a : ActorScript). a.number) (IsActor (most_actors version));
  known_timelines = All-nil (EachStep (KnowsTimelines []));
  known_queues = All-nil (EachStep (KnowsQueue []));
  known_pictures = All-nil (EachStep (KnowsPicture []));
  order = record { few = omega arith; picks = All-nil (IsPick []) };
  displays = AreDeclared-nil (λ (d : DisplayDecl). d.number) IsDisplay;
  stacks = AreDeclared-nil (λ (p : ℕ × ℕ). p.0) IsStack;
  captures = AreDeclared-nil (λ (c : CaptureDecl). c.number) IsCapture;
  hits = AreDeclared-nil (λ (d : HitDecl). d.number) IsHit;
  mirrors = record { few = omega arith; declared = AreDeclared-nil (λ (p : ℕ × ℕ). p.0) IsMirror };
  version_1 = λ e. record {
    no_displays = refl;
    no_stacks = refl;
    no_captures = refl;
    no_hits = refl;
    no_mirrors = refl;
    pictures = All-nil IsRgba;
  };
}

pub limits-timeline : (s : SceneValue) (x : ℕ) → IsWithinLimits s → IsTimeline x → has_timeline s.timelines x ≡ false → IsWithinLimits (record s { timelines = s.timelines ++ x ∷ [] })
limits-timeline s x h r f = record {
  header = h.header;
  timelines = AreDeclared-push (λ (t : ℕ). t) IsTimeline s.timelines x h.timelines r f;
  queues = h.queues;
  pictures = h.pictures;
  actors = h.actors;
  known_timelines =
      each_step-weaker (KnowsTimelines s.timelines) (KnowsTimelines (s.timelines ++ x ∷ [])) s.actors
      (λ st k. All-weaker (λ n. has_timeline s.timelines n ≡ true) (λ n. has_timeline (s.timelines ++ x ∷ []) n ≡ true) (has_number-push (λ (t : ℕ). t) s.timelines x) (timelines_named st) k) h.known_timelines;
  known_queues = h.known_queues;
  known_pictures = h.known_pictures;
  order = h.order;
  displays = h.displays;
  stacks = h.stacks;
  captures = h.captures;
  hits = h.hits;
  mirrors = h.mirrors;
  version_1 = λ e. keeps s (s.timelines ++ x ∷ []) s.queues s.actors s.order (h.version_1 e);
}

pub limits-queue : (s : SceneValue) (x : QueueDecl) → IsWithinLimits s → IsQueue x → has_queue s.queues x.number ≡ false → IsWithinLimits (record s { queues = s.queues ++ x ∷ [] })
limits-queue s x h r f = record {
  header = h.header;
  timelines = h.timelines;
  queues = AreDeclared-push (λ (q : QueueDecl). q.number) IsQueue s.queues x h.queues r f;
  pictures = h.pictures;
  actors = h.actors;
  known_timelines = h.known_timelines;
  known_queues =
      each_step-weaker (KnowsQueue s.queues) (KnowsQueue (s.queues ++ x ∷ [])) s.actors
      (λ st k. IfSome-weaker (λ n. has_queue s.queues n ≡ true) (λ n. has_queue (s.queues ++ x ∷ []) n ≡ true) (queue_named st) (has_number-push (λ (q : QueueDecl). q.number) s.queues x) k) h.known_queues;
  known_pictures = h.known_pictures;
  order = h.order;
  displays = h.displays;
  stacks = h.stacks;
  captures = h.captures;
  hits = h.hits;
  mirrors = h.mirrors;
  version_1 = λ e. keeps s s.timelines (s.queues ++ x ∷ []) s.actors s.order (h.version_1 e);
}

pub limits-picture : (s : SceneValue) (x : Picture) → IsWithinLimits s → IsPicture x → (s.version ≡ 1 → IsRgba x) → has_picture s.pictures x.number ≡ false → IsWithinLimits (record s { pictures = s.pictures ++ x ∷ [] })
limits-picture s x h r g f = record {
  header = h.header;
  timelines = h.timelines;
  queues = h.queues;
  pictures = AreDeclared-push (λ (p : Picture). p.number) IsPicture s.pictures x h.pictures r f;
  actors = h.actors;
  known_timelines = h.known_timelines;
  known_queues = h.known_queues;
  known_pictures =
      each_step-weaker (KnowsPicture s.pictures) (KnowsPicture (s.pictures ++ x ∷ [])) s.actors
      (λ st k. IfSome-weaker (λ n. has_picture s.pictures n ≡ true) (λ n. has_picture (s.pictures ++ x ∷ []) n ≡ true) (picture_named st) (has_number-push (λ (p : Picture). p.number) s.pictures x) k) h.known_pictures;
  order = h.order;
  displays = h.displays;
  stacks = h.stacks;
  captures = h.captures;
  hits = h.hits;
  mirrors = h.mirrors;
  version_1 = λ e. keeps_pictures s (s.pictures ++ x ∷ []) (All-push IsRgba s.pictures x (h.version_1 e).pictures (g e)) (h.version_1 e);
}

pub limits-display : (s : SceneValue) (x : DisplayDecl) → IsWithinLimits s → IsDisplay x → s.version ≡ 2 → has_display s.displays x.number ≡ false → IsWithinLimits (record s { displays = s.displays ++ x ∷ [] })
limits-display s x h r two f = record {
  header = h.header;
  timelines = h.timelines;
  queues = h.queues;
  pictures = h.pictures;
  actors = h.actors;
  known_timelines = h.known_timelines;
  known_queues = h.known_queues;
  known_pictures = h.known_pictures;
  order = h.order;
  displays = AreDeclared-push (λ (d : DisplayDecl). d.number) IsDisplay s.displays x h.displays r f;
  stacks = h.stacks;
  captures = h.captures;
  hits = h.hits;
  mirrors = h.mirrors;
  version_1 = λ e. absurd (not_first s.version two e);
}

pub limits-stack : (s : SceneValue) (x : ℕ × ℕ) → IsWithinLimits s → IsStack x → s.version ≡ 2 → has_layer s.stacks x.0 ≡ false → IsWithinLimits (record s { stacks = s.stacks ++ x ∷ [] })
limits-stack s x h r two f = record {
  header = h.header;
  timelines = h.timelines;
  queues = h.queues;
  pictures = h.pictures;
  actors = h.actors;
  known_timelines = h.known_timelines;
  known_queues = h.known_queues;
  known_pictures = h.known_pictures;
  order = h.order;
  displays = h.displays;
  stacks = AreDeclared-push (λ (p : ℕ × ℕ). p.0) IsStack s.stacks x h.stacks r f;
  captures = h.captures;
  hits = h.hits;
  mirrors = h.mirrors;
  version_1 = λ e. absurd (not_first s.version two e);
}

pub limits-capture : (s : SceneValue) (x : CaptureDecl) → IsWithinLimits s → IsCapture x → s.version ≡ 2 → has_capture s.captures x.number ≡ false → IsWithinLimits (record s { captures = s.captures ++ x ∷ [] })
limits-capture s x h r two f = record {
  header = h.header;
  timelines = h.timelines;
  queues = h.queues;
  pictures = h.pictures;
  actors = h.actors;
  known_timelines = h.known_timelines;
  known_queues = h.known_queues;
  known_pictures = h.known_pictures;
  order = h.order;
  displays = h.displays;
  stacks = h.stacks;
  captures = AreDeclared-push (λ (c : CaptureDecl). c.number) IsCapture s.captures x h.captures r f;
  hits = h.hits;
  mirrors = h.mirrors;
  version_1 = λ e. absurd (not_first s.version two e);
}

pub limits-hit : (s : SceneValue) (x : HitDecl) → IsWithinLimits s → IsHit x → s.version ≡ 2 → has_hit s.hits x.number ≡ false → IsWithinLimits (record s { hits = s.hits ++ x ∷ [] })
limits-hit s x h r two f = record {
  header = h.header;
  timelines = h.timelines;
  queues = h.queues;
  pictures = h.pictures;
  actors = h.actors;
  known_timelines = h.known_timelines;
  known_queues = h.known_queues;
  known_pictures = h.known_pictures;
  order = h.order;
  displays = h.displays;
  stacks = h.stacks;
  captures = h.captures;
  hits = AreDeclared-push (λ (d : HitDecl). d.number) IsHit s.hits x h.hits r f;
  mirrors = h.mirrors;
  version_1 = λ e. absurd (not_first s.version two e);
}

pub limits-mirror : (s : SceneValue) (x : ℕ × ℕ) → IsWithinLimits s → IsMirror x → s.version ≡ 2 → length s.mirrors < 8 → has_layer s.mirrors x.0 ≡ false → IsWithinLimits (record s { mirrors = s.mirrors ++ x ∷ [] })
limits-mirror s x h r two l f = record {
  header = h.header;
  timelines = h.timelines;
  queues = h.queues;
  pictures = h.pictures;
  actors = h.actors;
  known_timelines = h.known_timelines;
  known_queues = h.known_queues;
  known_pictures = h.known_pictures;
  order = h.order;
  displays = h.displays;
  stacks = h.stacks;
  captures = h.captures;
  hits = h.hits;
  mirrors = record { few = omega (arith, length-append s.mirrors (x ∷ []), l); declared = AreDeclared-push (λ (p : ℕ × ℕ). p.0) IsMirror s.mirrors x h.mirrors.declared r f };
  version_1 = λ e. absurd (not_first s.version two e);
}

pub limits-actor : (s : SceneValue) (x : ActorScript) → IsWithinLimits s → 1 ≤ x.number → x.number ≤ most_actors s.version → x.steps ≡ [] → has_actor s.actors x.number ≡ false → IsWithinLimits (record s { actors = s.actors ++ x ∷ [] })
limits-actor s x h low high e f = record {
  header = h.header;
  timelines = h.timelines;
  queues = h.queues;
  pictures = h.pictures;
  actors = AreDeclared-push (λ (a : ActorScript). a.number) (IsActor (most_actors s.version)) s.actors x h.actors (no_steps_yet (most_actors s.version) x low high e) f;
  known_timelines = All-push (EachStep (KnowsTimelines s.timelines)) s.actors x h.known_timelines (no_steps (KnowsTimelines s.timelines) x e);
  known_queues = All-push (EachStep (KnowsQueue s.queues)) s.actors x h.known_queues (no_steps (KnowsQueue s.queues) x e);
  known_pictures = All-push (EachStep (KnowsPicture s.pictures)) s.actors x h.known_pictures (no_steps (KnowsPicture s.pictures) x e);
  order = record { few = h.order.few; picks = All-weaker (IsPick s.actors) (IsPick (s.actors ++ x ∷ [])) (IsPick-push s.actors x) s.order h.order.picks };
  displays = h.displays;
  stacks = h.stacks;
  captures = h.captures;
  hits = h.hits;
  mirrors = h.mirrors;
  version_1 = λ e. keeps s s.timelines s.queues (s.actors ++ x ∷ []) s.order (h.version_1 e);
}

pub limits-order : (s : SceneValue) (ps : List Pick) → IsWithinLimits s → All (IsPick s.actors) ps → length s.order + length ps ≤ 1048576 → IsWithinLimits (record s { order = s.order ++ ps })
limits-order s ps h r l = record {
  header = h.header;
  timelines = h.timelines;
  queues = h.queues;
  pictures = h.pictures;
  actors = h.actors;
  known_timelines = h.known_timelines;
  known_queues = h.known_queues;
  known_pictures = h.known_pictures;
  order = record { few = omega (arith, length-append s.order ps, l); picks = All-append (IsPick s.actors) s.order ps h.order.picks r };
  displays = h.displays;
  stacks = h.stacks;
  captures = h.captures;
  hits = h.hits;
  mirrors = h.mirrors;
  version_1 = λ e. keeps s s.timelines s.queues s.actors (s.order ++ ps) (h.version_1 e);
}

pub limits-step : (s : SceneValue) (st : Step) → IsWithinLimits s → steps_so_far (last_of s.actors) < 4096 → StepFits s st → IsWithinLimits (record s { actors = with_step s.actors st })
limits-step s st h l k = record {
  header = h.header;
  timelines = h.timelines;
  queues = h.queues;
  pictures = h.pictures;
  actors = AreDeclared-on_last (λ (a : ActorScript). a.number) (IsActor (most_actors s.version)) HasRoom (stepped st) (λ a. refl) (IsActor-stepped (most_actors s.version) st k.ranges) s.actors h.actors (has_room (last_of s.actors) l);
  known_timelines = known-stepped (KnowsTimelines s.timelines) st k.timelines s.actors h.known_timelines;
  known_queues = known-stepped (KnowsQueue s.queues) st k.queue s.actors h.known_queues;
  known_pictures = known-stepped (KnowsPicture s.pictures) st k.picture s.actors h.known_pictures;
  order = record { few = h.order.few; picks = All-weaker (IsPick s.actors) (IsPick (with_step s.actors st)) (IsPick-stepped st s.actors) s.order h.order.picks };
  displays = h.displays;
  stacks = h.stacks;
  captures = h.captures;
  hits = h.hits;
  mirrors = h.mirrors;
  version_1 = λ e. keeps s s.timelines s.queues (with_step s.actors st) s.order (h.version_1 e);
}

pub limits-fill : (s : SceneValue) (x : Fill) → IsWithinLimits s → fills_so_far (last_of s.pictures) < 1024 → IsFill x → IsWithinLimits (record s { pictures = with_fill s.pictures x })
limits-fill s x h l k = record {
  header = h.header;
  timelines = h.timelines;
  queues = h.queues;
  pictures = AreDeclared-on_last (λ (p : Picture). p.number) IsPicture TakesFill (filled x) (λ p. refl) (IsPicture-filled x k) s.pictures h.pictures (takes_fill (last_of s.pictures) l);
  actors = h.actors;
  known_timelines = h.known_timelines;
  known_queues = h.known_queues;
  known_pictures =
      each_step-weaker (KnowsPicture s.pictures) (KnowsPicture (with_fill s.pictures x)) s.actors
      (λ st k. IfSome-weaker (λ n. has_picture s.pictures n ≡ true) (λ n. has_picture (with_fill s.pictures x) n ≡ true) (picture_named st) (λ n t. has_number-on_last (λ (p : Picture). p.number) (filled x) (λ p. refl) s.pictures n ∙ t) k) h.known_pictures;
  order = h.order;
  displays = h.displays;
  stacks = h.stacks;
  captures = h.captures;
  hits = h.hits;
  mirrors = h.mirrors;
  version_1 = λ e. keeps_pictures s (with_fill s.pictures x) (All-on_last IsRgba (λ p. Unit {0}) (filled x) (λ p rgba u. rgba) s.pictures (h.version_1 e).pictures (anything (last_of s.pictures))) (h.version_1 e);
}

-- a last picture that is taken off, filled and put back
pub with_fill-back : (old new ps : List Picture) (p : Picture) (fills : List Fill) (x : Fill) → old ≡ ps ++ p ∷ [] → fills ≡ p.fills ++ x ∷ [] → new ≡ ps ++ record p { fills = fills } ∷ [] → new ≡ with_fill old x
with_fill-back old new ps p fills x e f g =
    g ∙ ap (λ (l : List Fill). ps ++ record p { fills = l } ∷ []) f ∙ sym (on_last-push (filled x) ps p) ∙ ap (λ (l : List Picture). with_fill l x) (sym e)

-- a last actor that is taken off, gets a step and is put back
pub with_step-back : (old new front : List ActorScript) (a : ActorScript) (steps : List Step) (st : Step) → old ≡ front ++ a ∷ [] → steps ≡ a.steps ++ st ∷ [] → new ≡ front ++ record a { steps = steps } ∷ [] → new ≡ with_step old st
with_step-back old new front a steps st e f g =
    g ∙ ap (λ (l : List Step). front ++ record a { steps = l } ∷ []) f ∙ sym (on_last-push (stepped st) front a) ∙ ap (λ (l : List ActorScript). with_step l st) (sym e)

-- A frame that was acquired with a token was queued with one, and shows what was queued.
use Rattle.std.proofs.Common.{◌≡◌, ℕ, ◌==◌, true, List, [], ◌∷◌, Option, refl, sym, ap, ◌∙◌, subst, inl, inr}
use Rattle.std.specs.Prelude.{Contains, if◌then◌else◌}
use Rattle.std.proofs.lemmas.Bool.{eq-eqb}
use Rattle.std.proofs.lemmas.List.Elements.{All-contains, Contains-append_left, Contains-append_right}
use Rattle.sf_base.specs.Fences.{Fence}
use Rattle.sf_base.specs.declared.geometry.Rect.{Rect}
use Rattle.sf_base.specs.declared.ids.QueueId.{QueueId}
use Rattle.sf_script_scene.specs.sf_picture.declared.picture.Picture.{Picture}
use Rattle.sf_commit.specs.sf_calls.Histories.{IsLegal}
use Rattle.sf_actor.specs.sf_slots.declared.calls.Entry.{Entry}
use Rattle.sf_actor.specs.sf_slots.declared.calls.PlainReply.{PlainReply}
use Rattle.sf_actor.specs.sf_slots.declared.calls.PlainReply.TheVariants as plain
use Rattle.sf_actor.specs.sf_slots.declared.item.PlainItem.{PlainItem}
use Rattle.sf_actor.specs.sf_surface.Calls.{queued_token, told_call}
use Rattle.sf_actor.specs.sf_surface.Hands.{IsReply, taken_lease}
use Rattle.sf_actor.specs.sf_surface.Histories.{Answers, caller, ComesFrom, FromLog, Made, Queues, Replied, told, told_entry, told_reply}
use Rattle.sf_actor.specs.sf_surface.Tokens.{ReadLeaseOf, Right, WriteLeaseOf}
use Rattle.sf_actor.specs.sf_surface.declared.call.Gives.{Gives}
use Rattle.sf_actor.specs.sf_surface.declared.call.Gives.TheVariants as gives
use Rattle.sf_actor.specs.sf_surface.declared.call.QCall.{QCall}
use Rattle.sf_actor.specs.sf_surface.declared.call.QCall.TheVariants as call
use Rattle.sf_actor.specs.sf_surface.declared.call.QReply.{QReply}
use Rattle.sf_actor.specs.sf_surface.declared.mark.QueueMark.{QueueMark}
use Rattle.sf_script_scene.specs.Scene.{SceneValue}
use Rattle.sf_actor.specs.Desks.{DeskHome, DeskView, mark_among}
use Rattle.sf_actor.specs.Known.{Call, call_after, own_calls}
use Rattle.sf_actor.specs.Rights.{QueuesPicture}
use Rattle.sf_actor.specs.Scripts.{picture_at}
use Rattle.sf_actor.specs.Tries.{ActorOf, Keeps}
use Rattle.law_played.specs.Acquired.{TakesFrame, WasQueued}
use Rattle.law_played.specs.Actors.{AreActors, AreCalls, IsCallBy, IsRelease, number_of}
use Rattle.law_played.proofs.Members.{has_cases, has_here, has_later, has_none, map_has}
use Rattle.law_played.proofs.QueuedFrames.{IsQueued, acquired_was_queued, queued_once}
use Rattle.law_played.proofs.RunTraces.{told_legal}

-- what an acquire was told that gave a lease
record WasTold (queue : QueueId) (answered : PlainReply) (lease : ReadLeaseOf) : Type 0 where
  item : PlainItem
  dropped : ℕ
  turn : Right
  is : answered ≡ plain.Acquired item dropped
  taken : lease ≡ taken_lease queue item turn

module _ {B : Type 0} where
  told_acquire : (queue : QueueId) (expected : ℕ) (answered : PlainReply) (reply : QReply B) (lease : ReadLeaseOf) → IsReply queue (call.Acquire expected) answered reply → reply.gives ≡ gives.Read lease
      → WasTold queue answered lease
  told_acquire queue expected (plain.Acquired item dropped) reply lease is gave =
      let same = ap (λ (r : QReply B). r.gives) (sym is.1) ∙ gave in
      record { item = item; dropped = dropped; turn = is.0; is = refl; taken = (let e : lease ≡ taken_lease queue item is.0 = cc in e) }
  told_acquire queue expected (plain.Refused cause) reply lease is gave = let same = ap (λ (r : QReply B). r.gives) (sym is) ∙ gave in absurd (cc)
  told_acquire queue expected other reply lease is gave = absurd is

  -- a call that queued a frame was told its number
  told_number : (queue : QueueId) (lease : WriteLeaseOf) (picture : Picture) (time : Option ℕ) (crop : Rect) (fence : Fence) (answered : PlainReply) (reply : QReply B) (frame : ℕ)
      → IsReply queue (call.Queue lease picture time crop fence) answered reply → reply.values ≡ lease.slot.0 ∷ frame ∷ [] → answered ≡ plain.Queued frame
  told_number queue lease picture time crop fence (plain.Queued number) reply frame is values =
      let same = ap (λ (r : QReply B). r.values) (sym is) ∙ values in
      let e : number ≡ frame = cc in
      ap (λ (n : ℕ). plain.Queued n) e
  told_number queue lease picture time crop fence (plain.Refused cause) reply frame is values = let same = ap (λ (r : QReply B). r.values) (sym is) ∙ values in absurd (cc)
  told_number queue lease picture time crop fence other reply frame is values = absurd is

  -- a call among others: it was answered after those before it, and told with them
  record IsAmong (mark : QueueMark) (calls : List (Made B)) (made : Made B) : Type 0 where
    earlier : List (Made B)
    replied : Replied mark earlier made.by made.call.1 made.reply
    legal : IsLegal (Answers mark) earlier
    before : (other : Made B) → Contains earlier other → Contains calls other
    entry : Contains (told mark calls) (told_entry mark (told mark earlier) made)

  is_among : (mark : QueueMark) (calls : List (Made B)) (made : Made B) → IsLegal (Answers mark) calls → Contains calls made → IsAmong mark calls made
  unfolding told
  is_among mark [] made legal there = has_none made there
  is_among mark (m ∷ earlier) made legal there = elim (has_cases m made earlier there) [
    | inl same ↦ subst (λ (x : Made B). IsAmong mark (m ∷ earlier) x) same (record {
      earlier = earlier;
      replied = legal.0;
      legal = legal.1;
      before = λ other c. has_later m other earlier c;
      entry = has_here (told_entry mark (told mark earlier) m) (told mark earlier);
    })
    | inr c ↦
        let rest = is_among mark earlier made legal.1 c in
        record {
          earlier = rest.earlier;
          replied = rest.replied;
          legal = rest.legal;
          before = λ other d. has_later m other earlier (rest.before other d);
          entry = has_later (told_entry mark (told mark earlier) m) (told_entry mark (told mark rest.earlier) made) (told mark earlier) rest.entry;
        }
  ]

  -- what a call tells that queued a frame
  pub record IsTold (mark : QueueMark) (calls : List (Made B)) (made : Made B) (frame picture : ℕ) (crop : Rect) : Type 0 where
    pub entry : Entry
    pub there : Contains (told mark calls) entry
    pub caller : entry.caller.0 ≡ made.by
    pub queued : IsQueued entry frame picture crop

  pub queued_told : (mark : QueueMark) (calls : List (Made B)) (made : Made B) (frame : ℕ) (right : Right) → IsLegal (Answers mark) calls → Contains calls made → (queues : Queues made frame right)
      → IsTold mark calls made frame queues.picture.number queues.crop
  queued_told mark calls made frame right legal there queues =
      let among = is_among mark calls made legal there in
      let asked : QCall B = call.Queue queues.lease queues.picture queues.time queues.crop queues.fence in
      let same : made.call.1 ≡ asked = ap (λ (c : ℕ × QCall B). c.1) queues.call in
      let answer = subst (λ (c : QCall B). IsReply mark.queue c (told_reply mark among.earlier made.by c) made.reply) same among.replied.answer in
      let number = told_number mark.queue queues.lease queues.picture queues.time queues.crop queues.fence (told_reply mark among.earlier made.by asked) made.reply frame answer (ap (λ (r : QReply B). r.values) queues.reply) in
      record {
        entry = told_entry mark (told mark among.earlier) made;
        there = among.entry;
        caller = refl;
        queued = record {
          lease = queued_token mark.queue queues.lease queues.picture;
          width = queues.picture.width;
          height = queues.picture.height;
          time = queues.time;
          fence = queues.fence;
          call = ap (told_call mark.queue) same;
          reply = ap (told_reply mark among.earlier made.by) same ∙ number;
        };
      }

  pub was_queued : (mark : QueueMark) (calls : List (Made B)) (made : Made B) (lease : ReadLeaseOf) → IsLegal (Answers mark) calls → Contains calls made → TakesFrame made lease → WasQueued calls lease
  was_queued mark calls made lease legal there takes =
      let among = is_among mark calls made legal there in
      let asked : QCall B = call.Acquire takes.expected in
      let answer = subst (λ (c : QCall B). IsReply mark.queue c (told_reply mark among.earlier made.by c) made.reply) takes.call among.replied.answer in
      let was = told_acquire mark.queue takes.expected (told_reply mark among.earlier made.by asked) made.reply lease answer takes.gives in
      let from = subst (λ (g : Gives B). ComesFrom among.earlier asked g made.reply.spare) takes.gives (subst (λ (c : QCall B). FromLog among.earlier c made.reply) takes.call among.replied.from) in
      let queued = from.0 in
      let plainly = acquired_was_queued mark.width mark.height (told mark among.earlier) (caller made.by) takes.expected was.dropped was.item (sym was.is) in
      let told_so = queued_told mark among.earlier queued.0 lease.frame lease.turn among.legal queued.1 queued.2 in
      let same = queued_once mark.width mark.height (told mark among.earlier) told_so.entry plainly.entry lease.frame queued.2.picture.number was.item.picture queued.2.crop was.item.crop
      (told_legal mark among.earlier) told_so.there plainly.there told_so.queued
      (subst (λ (n : ℕ). IsQueued plainly.entry n was.item.picture was.item.crop) (ap (λ (l : ReadLeaseOf). l.frame) (sym was.taken)) plainly.queued) in
      let calls = sym plainly.queued.call ∙ ap (λ (e : Entry). e.call) (sym same) ∙ told_so.queued.call in
      let picture : was.item.picture ≡ queued.2.picture.number = cc in
      let crop : was.item.crop ≡ queued.2.crop = cc in
      record {
        made = queued.0;
        there = among.before queued.0 queued.1;
        queues = queued.2;
        picture = ap (λ (l : ReadLeaseOf). l.picture) was.taken ∙ picture;
        crop = ap (λ (l : ReadLeaseOf). l.crop) was.taken ∙ crop;
        pixels = ap (λ (r : Right). r.expects) queued.2.follows;
      }

  -- a call of an actor is one of its own
  own_has : (actor : ℕ) (mark : QueueMark) (calls : List (Made B)) (made : Made B) → made.by ≡ actor → Contains calls made → (one : Call B) × Contains (own_calls actor mark calls) one × (one.made ≡ made)
  own_has actor mark [] made by there = has_none made there
  own_has actor mark (m ∷ earlier) made by there = elim (has_cases m made earlier there) [
    | inl same ↦
        let met : (m.by == actor) ≡ true = eq-eqb m.by actor (ap (λ (x : Made B). x.by) same ∙ by) in
        rw met (call_after mark earlier m, Contains-append_right (own_calls actor mark earlier) (call_after mark earlier m ∷ []) (call_after mark earlier m) (has_here (call_after mark earlier m) []), same)
    | inr c ↦ let rest = own_has actor mark earlier made by c in (rest.0, Contains-append_left (own_calls actor mark earlier) (if m.by == actor then call_after mark earlier m ∷ [] else []) rest.0 rest.1, rest.2)
  ]

  -- an actor that queues a frame does so with the scene's picture of its number
  pub queues_scenes : (scene : SceneValue) (ofs : List (ActorOf B)) (home : DeskHome) (view : DeskView B) (queue : ℕ) (made : Made B) → AreActors scene ofs home view → AreCalls scene ofs home view
      → Contains (view.calls queue) made → (frame : ℕ) (right : Right) → (queues : Queues made frame right) → queues.picture ≡ picture_at scene.pictures queues.picture.number
  queues_scenes scene ofs home view queue made actors calls there frame right queues =
      let asked : QCall B = call.Queue queues.lease queues.picture queues.time queues.crop queues.fence in
      let same : made.call.1 ≡ asked = ap (λ (c : ℕ × QCall B). c.1) queues.call in
      elim (All-contains (IsCallBy ofs) (view.calls queue) made (calls.callers queue) there) [
        | inl release ↦ absurd (subst (λ (c : QCall B). IsRelease c) same release.1)
        | inr by ↦
            let found = map_has number_of ofs made.by by in
            let keeps = All-contains (λ of. Keeps (picture_at scene.pictures) home of view) ofs found.0 actors.keep found.1 in
            let own = own_has (number_of found.0) (mark_among home.marks queue) (view.calls queue) made (sym found.2) there in
            subst (λ (c : QCall B). QueuesPicture (picture_at scene.pictures) c) (ap (λ (m : Made B). m.call.1) own.2 ∙ same) (keeps.kept.kept.shows queue own.0 own.1)
      ]

  pub shows_picture : (scene : SceneValue) (ofs : List (ActorOf B)) (home : DeskHome) (view : DeskView B) (queue : ℕ) (made : Made B) (lease : ReadLeaseOf) → AreActors scene ofs home view
      → AreCalls scene ofs home view → Contains (view.calls queue) made → TakesFrame made lease → lease.turn.expects ≡ picture_at scene.pictures lease.picture
  shows_picture scene ofs home view queue made lease actors calls there takes =
      let was = was_queued (mark_among home.marks queue) (view.calls queue) made lease (calls.legal queue) there takes in
      was.pixels ∙ queues_scenes scene ofs home view queue was.made actors calls was.there lease.frame lease.turn was.queues ∙ ap (picture_at scene.pictures) (sym was.picture)

-- A run of the main program continues in an inner block.
use Rattle.std.proofs.Common.{◌≡◌, ◌<◌, ◌≤◌, ℕ, suc, ◌+◌, ◌-◌, ◌*◌, Bool, true, false, List, ◌++◌, length, drop, refl, sym, ap, subst, ◌∙◌, arith}
use Rattle.std.proofs.lemmas.List.{length-append, length-map}
use Rattle.std.proofs.lemmas.Option.{slice_get_within, slice_get-get_or}
use Rattle.std.specs.List.{slice_set}
use Rattle.std.specs.Option.{option_and_then}
use Rattle.std.specs.Prelude.{Option, Some, None, slice_get, Result, Ok, Err}
use Rattle.liszt_base.specs.declared.answers.RunEnd.TheVariants.{Trap as EndTrap, Done as EndDone}
use Rattle.liszt_tree.specs.Tree.{Main}
use Rattle.resolved_code.specs.declared.items.ItemCode.{ItemCode, out-ItemCode}
use Rattle.phase_types.specs.Environments.{Site, next_scalar}
use Rattle.kernel_eval.specs.Outcomes.{Stop, Trapped, Outcome, Computation, Done, pure, halt, continue_with, ◌>>◌}
use Rattle.kernel_eval.specs.States.{Fields, State, known_scalars}
use Rattle.seq_meaning.specs.MainCode.{IsCode}
use Rattle.seq_meaning.specs.MainRuns.{Frame, MainRun, InnerBlock, block_at, index_after, block_and_rest, deepest, frames_left, World, Descends, Stands, AtItem, InBlock, StandsAt, KeepsShape, HasEvent, Ends, HasAdvanced, AreSame, AreFewer, HaveOneMore, CanAdvance, block_in, next_frame, logged}
use Rattle.seq_meaning.specs.RemainingEvents.{HasFewer, events_in}
use Rattle.seq_meaning.specs.Internal.RunSteps.{CountsDown, events_at}
use Rattle.seq_meaning.specs.Runs.{Event, ScopeOpened, ScopeClosed, FieldDeclared, ComprehensionReached, Progress, log_event, lift_state, modify_state, after_scope, all_or_nothing, comprehension, main_meaning}
use Rattle.seq_meaning.specs.declared.main_run.MainStep.{MainStep}
use Rattle.seq_meaning.specs.declared.main_run.MainStep.TheVariants.{Enter, Leave, Declare, Comp, Over}
use Rattle.seq_meaning.proofs.EventCountLemmas.{events_here, events_inside}
use Rattle.seq_meaning.proofs.MainBlockLemmas.{level_in}
use Rattle.seq_meaning.proofs.MainHereLemmas.{stands_below}
use Rattle.seq_meaning.proofs.MainStepLemmas.{set_here, set_there, length_set, drop_keys, drop_front, value_in_rest}

-- THE BLOCK THAT IS OPEN at a level
pub record Inside (w : World) (frames : List Frame) (depth level : ℕ) (outside : List ℕ) (items : List ItemCode) (known : List ℕ) (remaining : Computation Progress Done) : Type 0 where
  pub frame : Frame
  pub inner : InnerBlock
  pub site : Site
  pub rest : Main
  pub before : State
  pub new : List ℕ
  pub block : Computation Progress Done
  pub at : slice_get frames level ≡ Some frame
  pub found : block_at items frame ≡ Some inner
  pub stands : Stands w frames depth (suc level) (known_scalars before) inner.block.items known block
  pub known_is : known_scalars before ≡ new ++ outside
  pub descends : Descends (next_scalar site) (known_scalars before)
  pub code : IsCode w.parts site rest (drop (index_after frame inner) items)
  pub is : remaining ≡ block_and_rest w before inner.block.scope block site rest

pub inside : {w : World} {frames : List Frame} {depth level : ℕ} {outside known : List ℕ} {items : List ItemCode} {remaining : Computation Progress Done}
    → Stands w frames depth level outside items known remaining → suc level < depth → Inside w frames depth level outside items known remaining
inside (AtItem frame site rest new at is code known_is descends) deep = absurd (omega (arith, is, deep))
inside (InBlock {block = block} frame inner site rest before new at found stands known_is descends code) deep = record {
  frame = frame;
  inner = inner;
  site = site;
  rest = rest;
  before = before;
  new = new;
  block = block;
  at = at;
  found = found;
  stands = stands;
  known_is = known_is;
  descends = descends;
  code = code;
  is = refl;
}

pub at_level : {w : World} {frames : List Frame} {depth level : ℕ} {outside known : List ℕ} {items : List ItemCode} {remaining : Computation Progress Done}
    → Stands w frames depth level outside items known remaining → depth ≤ suc level → suc level ≡ depth
at_level stands l = let b = stands_below stands in omega (arith, b, l)

-- the events that remain of the items, by those of the open block in them
events_around : {w : World} {level : ℕ} {outside known : List ℕ} {inner_items : List ItemCode} {remaining : Computation Progress Done} (worth : ℕ) (items : List ItemCode) (r : MainRun) (frame : Frame) (inner : InnerBlock)
    → slice_get r.frames level ≡ Some frame → block_at items frame ≡ Some inner → Stands w r.frames r.depth (suc level) outside inner_items known remaining
    → events_at worth level items r ≡ events_at worth (suc level) inner.block.items r + (1 + events_in (drop (index_after frame inner) items))
events_around {level = level} worth items r frame inner at found stands =
    events_inside worth level items r frame _ inner at (slice_get-get_or r.frames (suc level) frame (level_in stands)) (stands_below stands) found

-- what is done after a block
abbrev after_outcome : World → State → ℕ → Site → Main → Outcome Progress Done → Outcome Progress Done
after_outcome w before scope site rest outcome =
    continue_with (λ done. main_meaning w.mesh w.turns site rest)
    (continue_with (λ done. log_event (ScopeClosed scope)) (continue_with (λ done. modify_state (after_scope before)) outcome.after outcome.answer).after
    (continue_with (λ done. modify_state (after_scope before)) outcome.after outcome.answer).answer).after
    (continue_with (λ done. log_event (ScopeClosed scope)) (continue_with (λ done. modify_state (after_scope before)) outcome.after outcome.answer).after
    (continue_with (λ done. modify_state (after_scope before)) outcome.after outcome.answer).answer).answer

comprehension_then : (w : World) (before : State) (scope : ℕ) (site : Site) (rest : Main) (first next : Computation Progress Done) (p : Progress)
    → block_and_rest w before scope (first >> next) site rest p ≡ (first >> block_and_rest w before scope next site rest) p
comprehension_then w before scope site rest first next p = go (first p).after (first p).answer where
  go : (after : Progress) (answer : Result Done Stop) → after_outcome w before scope site rest (continue_with (λ done. next) after answer)
      ≡ continue_with (λ done. block_and_rest w before scope next site rest) after answer
  go after (Ok done) = refl
  go after (Err stop) = refl

module _ {w : World} {r : MainRun} {level : ℕ} {outside : List ℕ} {items : List ItemCode} {p : Progress} {remaining : Computation Progress Done} (s : StandsAt w r level outside items p remaining)
    (deep : suc level < r.depth) (frame : Frame) (at : slice_get r.frames level ≡ Some frame) (inner : InnerBlock) (found : block_at items frame ≡ Some inner) (deeper : deepest inner.block.items < deepest items) where
  abbrev InsideHere : Type 0
  InsideHere = Inside w r.frames r.depth level outside items (known_scalars p.state) remaining

  pub inside_here : InsideHere
  inside_here = inside s.stands deep

  pub same_inner : inside_here.inner ≡ inner
  same_inner = cc (inside_here.found, ap (block_at items) (same_frame inside_here), found) where
    same_frame : (i : InsideHere) → i.frame ≡ frame
    same_frame i = cc (i.at, at)

  abbrev next_remaining : Computation Progress Done
  next_remaining = inside_here.block

  pub stands_inside : StandsAt w r (suc level) (known_scalars inside_here.before) inner.block.items p inside_here.block
  stands_inside = record {
    stands = subst (λ (inner : InnerBlock). Stands w r.frames r.depth (suc level) (known_scalars inside_here.before) inner.block.items (known_scalars p.state) inside_here.block) same_inner inside_here.stands;
    has_state = s.has_state;
    room = omega (arith, s.room, deeper);
    has_meaning = λ none. s.has_meaning (ap (λ remaining. (remaining p).answer) inside_here.is
        ∙ ap (λ answer. (after_outcome w inside_here.before inside_here.inner.block.scope inside_here.site inside_here.rest (record { after = (inside_here.block p).after; answer = answer })).answer) none);
  }

  -- the block has an event, and so has the block around it
  module _ (after : MainRun) (keeps : KeepsShape (suc level) r after) where
    abbrev around : Computation Progress Done → Computation Progress Done
    around rest = block_and_rest w inside_here.before inside_here.inner.block.scope rest inside_here.site inside_here.rest

    remaining_is : (outcome : Outcome Progress Done) → inside_here.block p ≡ outcome → remaining p ≡ after_outcome w inside_here.before inside_here.inner.block.scope inside_here.site inside_here.rest outcome
    remaining_is outcome e = ap (λ remaining. remaining p) inside_here.is ∙ ap (after_outcome w inside_here.before inside_here.inner.block.scope inside_here.site inside_here.rest) e

    around_stands : (known : List ℕ) (rest : Computation Progress Done) → Stands w after.frames after.depth (suc level) (known_scalars inside_here.before) inner.block.items known rest
        → Stands w after.frames after.depth level outside items known (around rest)
    around_stands known rest stands =
        InBlock inside_here.frame inside_here.inner inside_here.site inside_here.rest inside_here.before inside_here.new
        (keeps.frames level (omega arith) ∙ inside_here.at) inside_here.found
        (subst (λ (inner : InnerBlock). Stands w after.frames after.depth (suc level) (known_scalars inside_here.before) inner.block.items known rest) (sym same_inner) stands)
        inside_here.known_is inside_here.descends inside_here.code

    event_around : (event : Event) (Changes : Fields → Fields → Type 0) → HasEvent w event Changes (suc level) (known_scalars inside_here.before) inner.block.items p inside_here.block after
        → HasEvent w event Changes level outside items p remaining after
    event_around event Changes g = record {
      later = g.later;
      rest = around g.rest;
      is = remaining_is (g.rest (logged event g.later)) g.is;
      path = g.path;
      fields = g.fields;
      stands = record {
        stands = around_stands (known_scalars g.later.state) g.rest g.stands.stands;
        has_state = g.stands.has_state;
        room = omega (arith, s.room, keeps.count);
        has_meaning = λ none. s.has_meaning (ap (λ outcome. outcome.answer) (remaining_is (g.rest (logged event g.later)) g.is) ∙ none);
      };
    }

    pub advances_around : (step : MainStep) → HasAdvanced w (suc level) (known_scalars inside_here.before) inner.block.items p inside_here.block (Some step) after
        → HasAdvanced w level outside items p remaining (Some step) after
    advances_around (Enter scope) g = event_around (ScopeOpened scope) AreSame g
    advances_around (Leave scope) g = event_around (ScopeClosed scope) AreFewer g
    advances_around (Declare field value) g = event_around (FieldDeclared field value) (HaveOneMore w field value) g
    advances_around (Comp k) g = record {
      later = g.later;
      rest = around g.rest;
      c = g.c;
      found = g.found;
      is = ap (λ remaining. remaining p) inside_here.is ∙ ap (after_outcome w inside_here.before inside_here.inner.block.scope inside_here.site inside_here.rest) g.is
          ∙ comprehension_then w inside_here.before inside_here.inner.block.scope inside_here.site inside_here.rest (lift_state (all_or_nothing (comprehension w.mesh g.c w.turns))) g.rest (logged (ComprehensionReached k) g.later);
      path = g.path;
      fields = g.fields;
      stands = around_stands (known_scalars g.later.state) g.rest g.stands;
      has_state = g.has_state;
      room = omega (arith, s.room, keeps.count);
    }
    advances_around (Over (EndTrap trap)) g = record { later = g.later; is = remaining_is (halt (Trapped trap) g.later) g.is; path = g.path; has_state = g.has_state }
    advances_around (Over EndDone) g = g

    -- fewer events remain of the block, and so of the items around it
    pub fewer_around : (worth : ℕ) (step : MainStep) → HasAdvanced w (suc level) (known_scalars inside_here.before) inner.block.items p inside_here.block (Some step) after
        → HasFewer step (events_at worth (suc level) inner.block.items r) (events_at worth (suc level) inner.block.items after)
        → HasFewer step (events_at worth level items r) (events_at worth level items after)
    fewer_around worth step g h = go step g h where
      frame_after : slice_get after.frames level ≡ Some frame
      frame_after = keeps.frames level (omega arith) ∙ at

      old : events_at worth level items r ≡ events_at worth (suc level) inner.block.items r + (1 + events_in (drop (index_after frame inner) items))
      old = events_around worth items r frame inner at found stands_inside.stands

      go : (step : MainStep) → HasAdvanced w (suc level) (known_scalars inside_here.before) inner.block.items p inside_here.block (Some step) after
          → HasFewer step (events_at worth (suc level) inner.block.items r) (events_at worth (suc level) inner.block.items after)
          → HasFewer step (events_at worth level items r) (events_at worth level items after)
      go (Enter scope) g h = omega (arith, old, events_around worth items after frame inner frame_after found g.stands.stands, h)
      go (Leave scope) g h = omega (arith, old, events_around worth items after frame inner frame_after found g.stands.stands, h)
      go (Declare field value) g h = omega (arith, old, events_around worth items after frame inner frame_after found g.stands.stands, h)
      go (Comp k) g h = omega (arith, old, events_around worth items after frame inner frame_after found g.stands, h)
      go (Over end) g h = tt

    pub fewer_left : (worth : ℕ) → events_at worth (suc level) inner.block.items after ≤ events_at worth (suc level) inner.block.items r
        → events_at worth level items (record after { depth = suc level; frames = frames_left after.frames level frame inner.is_repeated }) < events_at worth level items r
    fewer_left worth l =
        omega (arith, l, left inner.is_repeated refl, events_around worth items r frame inner at found stands_inside.stands)
      where
        left : (repeated : Bool) → inner.is_repeated ≡ repeated
            → events_at worth level items (record after { depth = suc level; frames = frames_left after.frames level frame repeated }) ≡ after.turns * worth + events_in (drop (index_after frame inner) items)
        left true same = events_here worth level items (record after { depth = suc level }) frame (keeps.frames level (omega arith) ∙ at) refl
            ∙ ap (λ repeated. after.turns * worth + events_in (drop (index_after frame (record { block = inner.block; is_repeated = repeated })) items)) (sym same)
        left false same = events_here worth level items (record after { depth = suc level; frames = slice_set after.frames level (next_frame frame) }) (next_frame frame)
            (set_here after.frames level (next_frame frame) (omega (arith, slice_get_within r.frames level frame at, keeps.count))) refl
            ∙ ap (λ repeated. after.turns * worth + events_in (drop (index_after frame (record { block = inner.block; is_repeated = repeated })) items)) (sym same)

    -- the block ends
    pub leaves : Ends w (known_scalars inside_here.before) p inside_here.block after
        → HasEvent w (ScopeClosed inner.block.scope) AreFewer level outside items p remaining (record after { depth = suc level; frames = frames_left after.frames level frame inner.is_repeated })
    leaves g = record {
      later = later;
      rest = main_meaning w.mesh w.turns inside_here.site inside_here.rest;
      is = is;
      path = g.path;
      fields = record { ended = length g.later.state.fields - length inside_here.before.fields; are = ap (drop (length g.later.state.fields - length inside_here.before.fields)) g.fields };
      stands = record {
        stands = stands_after inner.is_repeated refl;
        has_state = record {
          scalars = record { holds = λ number value e. g.has_state.scalars.holds number value (value_in_rest g.bound (length g.later.state.scalars - length inside_here.before.scalars) g.later.state.scalars number value g.descends e) };
          prints = g.has_state.prints;
          turns = g.has_state.turns;
          each_scalar = g.has_state.each_scalar;
          each_print = g.has_state.each_print;
          printed = g.has_state.printed;
        };
        room = room_after inner.is_repeated;
        has_meaning = λ none. s.has_meaning (ap (λ outcome. outcome.answer) is ∙ none);
      };
    } where
      later : Progress
      later = record g.later { state = after_scope inside_here.before g.later.state }

      is : remaining p ≡ main_meaning w.mesh w.turns inside_here.site inside_here.rest (logged (ScopeClosed inner.block.scope) later)
      is = remaining_is (pure (tt {0}) g.later) g.is
          ∙ ap (λ (inner : InnerBlock). main_meaning w.mesh w.turns inside_here.site inside_here.rest (logged (ScopeClosed inner.block.scope) (record g.later { state = after_scope inside_here.before g.later.state }))) same_inner

      count_is : length g.later.state.scalars - length inside_here.before.scalars ≡ length g.new
      count_is =
          let a : length (known_scalars g.later.state) ≡ length g.later.state.scalars = length-map g.later.state.scalars (λ scalar. scalar.0) in
          let b : length (known_scalars inside_here.before) ≡ length inside_here.before.scalars = length-map inside_here.before.scalars (λ scalar. scalar.0) in
          let c : length (known_scalars g.later.state) ≡ length g.new + length (known_scalars inside_here.before) = ap (λ known. length known) g.known ∙ length-append g.new (known_scalars inside_here.before) in
          omega (arith, a, b, c)

      known_after : known_scalars (record g.later { state = after_scope inside_here.before g.later.state }).state ≡ known_scalars inside_here.before
      known_after =
          drop_keys (length g.later.state.scalars - length inside_here.before.scalars) g.later.state.scalars
          ∙ ap (drop (length g.later.state.scalars - length inside_here.before.scalars)) g.known
          ∙ drop_front g.new (known_scalars inside_here.before) (length g.later.state.scalars - length inside_here.before.scalars) count_is

      frame_is : inside_here.frame ≡ frame
      frame_is = cc (inside_here.at, at)

      level_is : level < length after.frames
      level_is = omega (arith, slice_get_within r.frames level frame at, keeps.count)

      code_at : (repeated : Bool) → inner.is_repeated ≡ repeated → IsCode w.parts inside_here.site inside_here.rest (drop (index_after frame (record { block = inner.block; is_repeated = repeated })) items)
      code_at repeated same = subst (λ repeated. IsCode w.parts inside_here.site inside_here.rest (drop (index_after frame (record { block = inner.block; is_repeated = repeated })) items)) same
          (subst (λ (inner : InnerBlock). IsCode w.parts inside_here.site inside_here.rest (drop (index_after frame inner) items)) same_inner
          (subst (λ frame. IsCode w.parts inside_here.site inside_here.rest (drop (index_after frame inside_here.inner) items)) frame_is inside_here.code))

      stands_after : (repeated : Bool) → inner.is_repeated ≡ repeated
          → Stands w (frames_left after.frames level frame repeated) (suc level) level outside items (known_scalars (record g.later { state = after_scope inside_here.before g.later.state }).state) (main_meaning w.mesh w.turns inside_here.site inside_here.rest)
      stands_after true same = AtItem frame inside_here.site inside_here.rest inside_here.new (keeps.frames level (omega arith) ∙ at) refl (code_at true same) (known_after ∙ inside_here.known_is)
          (subst (Descends (next_scalar inside_here.site)) (sym known_after) inside_here.descends)
      stands_after false same = AtItem (next_frame frame) inside_here.site inside_here.rest inside_here.new (set_here after.frames level (next_frame frame) level_is) refl (code_at false same) (known_after ∙ inside_here.known_is)
          (subst (Descends (next_scalar inside_here.site)) (sym known_after) inside_here.descends)

      room_after : (repeated : Bool) → level + deepest items < length (frames_left after.frames level frame repeated)
      room_after true = omega (arith, s.room, keeps.count)
      room_after false = omega (arith, s.room, keeps.count, length_set after.frames level (next_frame frame))

-- as the calls say it
abbrev pub Advances : MainRun → ℕ → List ItemCode → Option MainStep → MainRun → Type 0
Advances r level items result after =
    (w : World) (outside : List ℕ) (p : Progress) (remaining : Computation Progress Done) → StandsAt w r level outside items p remaining → HasAdvanced w level outside items p remaining result after

pub advances_at : (r after : MainRun) (level next : ℕ) (items slice : List ItemCode) (result : Option MainStep) → next ≡ suc level → slice ≡ items → Advances r next slice result after
    → Advances r (suc level) items result after
advances_at r after level next items slice result same_level same_items h =
    subst (λ items. Advances r (suc level) items result after) same_items (subst (λ level. Advances r level slice result after) same_level h)

abbrev pub Counts : MainRun → ℕ → List ItemCode → Option MainStep → MainRun → Type 0
Counts r level items result after = (worth : ℕ) → events_in items < worth → CountsDown result (events_at worth level items r) (events_at worth level items after)

pub counts_at : (r after : MainRun) (level next : ℕ) (items slice : List ItemCode) (result : Option MainStep) → next ≡ suc level → slice ≡ items → Counts r next slice result after
    → Counts r (suc level) items result after
counts_at r after level next items slice result same_level same_items h =
    subst (λ items. Counts r (suc level) items result after) same_items (subst (λ level. Counts r level slice result after) same_level h)

pub keeps_at : (r after : MainRun) (level next : ℕ) → next ≡ suc level → KeepsShape next r after → KeepsShape (suc level) r after
keeps_at r after level next same h = subst (λ level. KeepsShape level r after) same h

pub can_at : (r : MainRun) (level next : ℕ) (items slice : List ItemCode) → next ≡ suc level → slice ≡ items → CanAdvance r (suc level) items → CanAdvance r next slice
can_at r level next items slice same_level same_items h =
    subst (λ level. CanAdvance r level slice) (sym same_level) (subst (λ items. CanAdvance r (suc level) items) (sym same_items) h)

pub can_inside : {r : MainRun} {level : ℕ} {items : List ItemCode} (can : CanAdvance r level items) → suc level < r.depth → (frame : Frame) → slice_get r.frames level ≡ Some frame
    → (inner : InnerBlock) → block_at items frame ≡ Some inner → deepest inner.block.items < deepest items → CanAdvance r (suc level) inner.block.items
can_inside can deep frame at inner found deeper = record {
  w = can.w;
  outside = known_scalars (inside_here can.stands deep frame at inner found deeper).before;
  p = can.p;
  remaining = (inside_here can.stands deep frame at inner found deeper).block;
  stands = stands_inside can.stands deep frame at inner found deeper;
}

pub block_within : (items : List ItemCode) (frame : Frame) (inner : InnerBlock) → block_at items frame ≡ Some inner → frame.index < length items
block_within items frame inner found = go (slice_get items frame.index) refl found where
  go : (o : Option ItemCode) → slice_get items frame.index ≡ o → option_and_then (λ c. block_in (out-ItemCode c) frame.after_else) o ≡ Some inner → frame.index < length items
  go (Some c) is found = slice_get_within items frame.index c is
  go None is found = absurd cc

pub keeps_left : (level : ℕ) (r mid : MainRun) (frame : Frame) (repeated : Bool) → KeepsShape (suc level) r mid → KeepsShape level r (record mid { depth = suc level; frames = frames_left mid.frames level frame repeated })
keeps_left level r mid frame true h = record { frames = λ j l. h.frames j (omega (arith, l)); count = h.count; scalars = h.scalars; prints = h.prints }
keeps_left level r mid frame false h = record {
  frames = λ j l. set_there mid.frames level j (next_frame frame) (λ same. absurd (omega (arith, same, l))) ∙ h.frames j (omega (arith, l));
  count = length_set mid.frames level (next_frame frame) ∙ h.count;
  scalars = h.scalars;
  prints = h.prints;
}

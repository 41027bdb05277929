-- A run of a main program, an event at a time. This project's own.
use Rattle.std.specs.Prelude.{◌≡◌, ◌≢◌, ◌⊎◌, ◌<◌, ◌≤◌, ℕ, suc, ◌+◌, max, Bool, true, false, if◌then◌else◌, Option, Some, None, List, [], ◌∷◌, ◌++◌, length, map, take, drop, replicate, slice_get, ℤ, Result, Ok, Err}
use Rattle.std.specs.List.{slice_set}
use Rattle.std.specs.Option.{option_map, option_and_then}
use Rattle.liszt_base.specs.Limits.{print_limit}
use Rattle.liszt_base.specs.MeshLists.{MeshLists}
use Rattle.liszt_base.specs.declared.answers.RunEnd.TheVariants.{Trap as EndTrap, Done as EndDone}
use Rattle.liszt_base.specs.declared.answers.Place.{Place}
use Rattle.liszt_base.specs.declared.answers.Trap.{Trap}
use Rattle.liszt_base.specs.declared.answers.TrapKind.TheVariants.{Prints, Spent}
use Rattle.liszt_tree.specs.Tree.{Main}
use Rattle.mesh_topology.specs.Elements.{count}
use Rattle.resolved_code.specs.declared.items.BlockCode.{BlockCode}
use Rattle.resolved_code.specs.declared.items.ItemCode.{ItemCode, fold-ItemCode, out-ItemCode}
use Rattle.resolved_code.specs.declared.items.ItemCode.TheOpen.{ItemCode-F, BlockCode-F}
use Rattle.phase_types.specs.declared.info.FieldInfo.{FieldInfo}
use Rattle.phase_types.specs.declared.state.CheckedProgram.{CheckedProgram}
use Rattle.phase_types.specs.Environments.{parts_of, Comprehension, Part, Site, fields_in, scalars_in, comprehensions_in, first_declared, next_scalar}
use Rattle.kernel_eval.specs.Outcomes.{NoMeaning, Trapped, Computation, Done, pure, halt, ◌>>◌}
use Rattle.kernel_eval.specs.HeldFields.{HoldsScalars}
use Rattle.kernel_eval.specs.States.{Fields, State, known_scalars}
use Rattle.seq_meaning.specs.MainCode.{IsCode}
use Rattle.seq_meaning.specs.MainValues.{main_trap}
use Rattle.seq_meaning.specs.Runs.{Event, ScopeOpened, ScopeClosed, FieldDeclared, ComprehensionReached, Progress, log_event, lift_state, modify_state, after_scope, all_or_nothing, comprehension, main_meaning, empty, run}
pub use Rattle.seq_meaning.specs.declared.main_run.Frame.{Frame}
pub use Rattle.seq_meaning.specs.declared.main_run.MainRun.{MainRun}
use Rattle.seq_meaning.specs.declared.main_run.MainStep.{MainStep}
use Rattle.seq_meaning.specs.declared.main_run.MainStep.TheVariants.{Enter, Leave, Declare, Comp, Over}

-- BLOCKS IN BLOCKS: how many deep the blocks of items are nested
abbrev pub greatest : List ℕ → ℕ
greatest [] = 0
greatest (n ∷ ns) = max n (greatest ns)

abbrev pub or_none : Option ℕ → ℕ
or_none None = 0
or_none (Some n) = n

abbrev pub nested_layer : ItemCode-F ℕ ℕ → ℕ
nested_layer (ItemCode-F.If test first second) = max first (or_none second)
nested_layer (ItemCode-F.While place test body) = body
nested_layer _ = 0

abbrev pub block_layer : BlockCode-F ℕ ℕ → ℕ
block_layer block = 1 + greatest block.items

abbrev pub nested : ItemCode → ℕ
nested c = fold-ItemCode ℕ ℕ nested_layer block_layer c

abbrev pub deepest : List ItemCode → ℕ
deepest items = greatest (map nested items)

-- THE BLOCK IN AN ITEM that is open: of an `if` the first one or the one after `else`; of a `while` its body, after which the `while`
-- is repeated
pub record InnerBlock : Type 0 where
  pub block : BlockCode
  pub is_repeated : Bool

abbrev pub block_in : ItemCode-F ItemCode BlockCode → Bool → Option InnerBlock
block_in (ItemCode-F.If test first second) false = Some (record { block = first; is_repeated = false })
block_in (ItemCode-F.If test first second) true = option_map (λ block. record { block = block; is_repeated = false }) second
block_in (ItemCode-F.While place test body) after_else = Some (record { block = body; is_repeated = true })
block_in _ after_else = None

abbrev pub block_at : List ItemCode → Frame → Option InnerBlock
block_at items frame = option_and_then (λ c. block_in (out-ItemCode c) frame.after_else) (slice_get items frame.index)

abbrev pub index_after : Frame → InnerBlock → ℕ
index_after frame inner = if inner.is_repeated then frame.index else suc frame.index

-- A RUN STANDS in nested blocks, of which each has a frame: what remains to be done of a block at a level is the rest of its items from
-- the frame's index on, or what remains of the block in the item there, the end of that block's scope, and the rest. The numbers of the
-- scalars that are known descend, and those from outside the block remain at their end.
pub record World : Type 0 where
  pub mesh : MeshLists
  pub turns : ℕ
  pub parts : List Part

abbrev pub Descends : ℕ → List ℕ → Type 0
Descends bound [] = Unit {0}
Descends bound (n ∷ ns) = (n < bound) × Descends n ns

abbrev pub block_and_rest : World → State → ℕ → Computation Progress Done → Site → Main → Computation Progress Done
block_and_rest w before scope block site rest =
    block >> modify_state (after_scope before) >> log_event (ScopeClosed scope) >> main_meaning w.mesh w.turns site rest

pub data Stands (w : World) (frames : List Frame) (depth : ℕ) : ℕ → List ℕ → List ItemCode → List ℕ → Computation Progress Done → Type 0 where
  AtItem : {level : ℕ} {outside known : List ℕ} {items : List ItemCode} (frame : Frame) (site : Site) (rest : Main) (new : List ℕ)
      → slice_get frames level ≡ Some frame → suc level ≡ depth → IsCode w.parts site rest (drop frame.index items)
      → known ≡ new ++ outside → Descends (next_scalar site) known
      → Stands w frames depth level outside items known (main_meaning w.mesh w.turns site rest)
  InBlock : {level : ℕ} {outside known : List ℕ} {items : List ItemCode} {block : Computation Progress Done} (frame : Frame) (inner : InnerBlock)
      (site : Site) (rest : Main) (before : State) (new : List ℕ)
      → slice_get frames level ≡ Some frame → block_at items frame ≡ Some inner
      → Stands w frames depth (suc level) (known_scalars before) inner.block.items known block
      → known_scalars before ≡ new ++ outside → Descends (next_scalar site) (known_scalars before)
      → IsCode w.parts site rest (drop (index_after frame inner) items)
      → Stands w frames depth level outside items known (block_and_rest w before inner.block.scope block site rest)

-- what the run has of a state
pub record HasState (w : World) (r : MainRun) (s : State) : Type 0 where
  pub scalars : HoldsScalars s r.scalars
  pub prints : s.prints ≡ take r.printed r.prints
  pub turns : s.turns ≡ r.turns
  pub each_scalar : length r.scalars ≡ length (scalars_in w.parts)
  pub each_print : length r.prints ≡ print_limit
  pub printed : r.printed ≤ print_limit

pub record StandsAt (w : World) (r : MainRun) (level : ℕ) (outside : List ℕ) (items : List ItemCode) (p : Progress) (remaining : Computation Progress Done)
    : Type 0 where
  pub stands : Stands w r.frames r.depth level outside items (known_scalars p.state) remaining
  pub has_state : HasState w r p.state
  pub room : level + deepest items < length r.frames
  pub has_meaning : (remaining p).answer ≢ Err NoMeaning

-- the frames below a level are unchanged, and so are the numbers of frames, scalars and prints
pub record KeepsShape (level : ℕ) (r after : MainRun) : Type 0 where
  pub frames : (j : ℕ) → j < level → slice_get after.frames j ≡ slice_get r.frames j
  pub count : length after.frames ≡ length r.frames
  pub scalars : length after.scalars ≡ length r.scalars
  pub prints : length after.prints ≡ length r.prints

-- a state after which an event is logged, and the progress then
abbrev pub logged : Event → Progress → Progress
logged event p = (log_event event p).after

-- THE RUN HAS AN EVENT, from a progress and what remains then: what remains does the event and what remains afterwards.
pub record HasEvent (w : World) (event : Event) (Changes : Fields → Fields → Type 0) (level : ℕ) (outside : List ℕ) (items : List ItemCode) (p : Progress)
    (remaining : Computation Progress Done) (after : MainRun) : Type 0 where
  pub later : Progress
  pub rest : Computation Progress Done
  pub is : remaining p ≡ rest (logged event later)
  pub path : later.path ≡ p.path
  pub fields : Changes p.state.fields later.state.fields
  pub stands : StandsAt w after level outside items (logged event later) rest

-- it reaches a comprehension, after which it can continue from every state that the comprehension leaves
pub record Reaches (w : World) (k : ℕ) (level : ℕ) (outside : List ℕ) (items : List ItemCode) (p : Progress) (remaining : Computation Progress Done)
    (after : MainRun) : Type 0 where
  pub later : Progress
  pub rest : Computation Progress Done
  pub c : Comprehension
  pub found : slice_get (comprehensions_in w.parts) k ≡ Some c
  pub is : remaining p ≡ (lift_state (all_or_nothing (comprehension w.mesh c w.turns)) >> rest) (logged (ComprehensionReached k) later)
  pub path : later.path ≡ p.path
  pub fields : later.state.fields ≡ p.state.fields
  pub stands : Stands w after.frames after.depth level outside items (known_scalars later.state) rest
  pub has_state : HasState w after later.state
  pub room : level + deepest items < length after.frames

-- it traps
pub record Traps (w : World) (trap : Trap) (p : Progress) (remaining : Computation Progress Done) (after : MainRun) : Type 0 where
  pub later : Progress
  pub is : remaining p ≡ halt (Trapped trap) later
  pub path : later.path ≡ p.path
  pub has_state : HasState w after later.state

-- it reaches the end of the block
pub record Ends (w : World) (outside : List ℕ) (p : Progress) (remaining : Computation Progress Done) (after : MainRun) : Type 0 where
  pub later : Progress
  pub is : remaining p ≡ pure (tt {0}) later
  pub path : later.path ≡ p.path
  pub fields : later.state.fields ≡ p.state.fields
  pub has_state : HasState w after later.state
  pub new : List ℕ
  pub known : known_scalars later.state ≡ new ++ outside
  pub bound : ℕ
  pub descends : Descends bound (known_scalars later.state)

-- how the fields change: not at all, by the end of a scope, and by a declaration
abbrev pub AreSame : Fields → Fields → Type 0
AreSame fields later = later ≡ fields

pub record AreFewer (fields later : Fields) : Type 0 where
  pub ended : ℕ
  pub are : later ≡ drop ended fields

pub record HaveOneMore (w : World) (field : ℕ) (value : ℤ) (fields later : Fields) : Type 0 where
  pub index : ℕ
  pub info : FieldInfo
  pub number : field ≡ first_declared + index
  pub found : slice_get (fields_in w.parts) index ≡ Some info
  pub are : later ≡ (field, replicate (count w.mesh info.kind) value) ∷ fields

abbrev pub HasAdvanced : World → ℕ → List ℕ → List ItemCode → Progress → Computation Progress Done → Option MainStep → MainRun → Type 0
HasAdvanced w level outside items p remaining None after = Ends w outside p remaining after
HasAdvanced w level outside items p remaining (Some (Enter scope)) after = HasEvent w (ScopeOpened scope) AreSame level outside items p remaining after
HasAdvanced w level outside items p remaining (Some (Leave scope)) after = HasEvent w (ScopeClosed scope) AreFewer level outside items p remaining after
HasAdvanced w level outside items p remaining (Some (Declare field value)) after =
    HasEvent w (FieldDeclared field value) (HaveOneMore w field value) level outside items p remaining after
HasAdvanced w level outside items p remaining (Some (Comp k)) after = Reaches w k level outside items p remaining after
HasAdvanced w level outside items p remaining (Some (Over (EndTrap trap))) after = Traps w trap p remaining after
HasAdvanced w level outside items p remaining (Some (Over EndDone)) after = ⊥

-- ONE ITEM is done, and the run continues with the next one; or there is an event, or a trap
pub record Continues (w : World) (level : ℕ) (outside : List ℕ) (items : List ItemCode) (p : Progress) (remaining : Computation Progress Done) (r after : MainRun)
    : Type 0 where
  pub later : Progress
  pub rest : Computation Progress Done
  pub is : remaining p ≡ rest later
  pub path : later.path ≡ p.path
  pub fields : later.state.fields ≡ p.state.fields
  pub stands : StandsAt w after level outside items later rest
  pub depth : after.depth ≡ r.depth

abbrev pub HasDoneItem : World → ℕ → List ℕ → List ItemCode → Progress → Computation Progress Done → Result (Option MainStep) Trap → MainRun → MainRun → Type 0
HasDoneItem w level outside items p remaining (Ok None) r after = Continues w level outside items p remaining r after
HasDoneItem w level outside items p remaining (Ok (Some step)) r after = HasAdvanced w level outside items p remaining (Some step) after
HasDoneItem w level outside items p remaining (Err trap) r after = Traps w trap p remaining after

-- a run that can advance
pub record CanAdvance (r : MainRun) (level : ℕ) (items : List ItemCode) : Type 0 where
  pub w : World
  pub outside : List ℕ
  pub p : Progress
  pub remaining : Computation Progress Done
  pub stands : StandsAt w r level outside items p remaining

-- a print and a turn, with the trap where none is left
abbrev pub HasPrinted : Place → ℤ → Result (Unit {0}) Trap → MainRun → MainRun → Type 0
HasPrinted place value (Ok done) r after =
    (r.printed < print_limit) × (after ≡ record r { prints = slice_set r.prints r.printed value; printed = suc r.printed })
HasPrinted place value (Err trap) r after = (print_limit ≤ r.printed) × (trap ≡ main_trap Prints place) × (after ≡ r)

abbrev pub HasTakenTurn : Place → Result (Unit {0}) Trap → MainRun → MainRun → Type 0
HasTakenTurn place (Ok done) r after = r.turns ≡ suc after.turns × (after ≡ record r { turns = after.turns })
HasTakenTurn place (Err trap) r after = (r.turns ≡ 0) × (trap ≡ main_trap Spent place) × (after ≡ r)

abbrev pub next_frame : Frame → Frame
next_frame frame = record { index = suc frame.index; after_else = frame.after_else }

-- the innermost block of the run has this item next, and the frame after it is `next`
pub record CanDo (r : MainRun) (level : ℕ) (items : List ItemCode) (next : Frame) (c : ItemCode) : Type 0 where
  pub can : CanAdvance r level items
  pub innermost : suc level ≡ r.depth
  pub frame : Frame
  pub at : slice_get r.frames level ≡ Some frame
  pub next_is : next ≡ next_frame frame
  pub item : slice_get items frame.index ≡ Some c

-- the frames after an inner block is left
abbrev pub frames_left : List Frame → ℕ → Frame → Bool → List Frame
frames_left frames level frame true = frames
frames_left frames level frame false = slice_set frames level (next_frame frame)

-- A RUN IS PREPARED for a checked program: it has a place for each scalar and each print, and a frame for each level of blocks.
pub record IsPreparedRun (checked : CheckedProgram) (r : MainRun) : Type 0 where
  pub scalars : length r.scalars ≡ length checked.scalars
  pub prints : length r.prints ≡ print_limit
  pub frames : deepest checked.items < length r.frames

-- it has begun, before its first event
pub record HasBegunRun (turns : ℕ) (r : MainRun) : Type 0 where
  pub depth : r.depth ≡ 0
  pub printed : r.printed ≡ 0
  pub turns_are : r.turns ≡ turns

-- IT IS AT a progress of the run of a program: what the whole run does is what remains from there.
pub record IsAt (mesh : MeshLists) (program : Main) (turns : ℕ) (items : List ItemCode) (p : Progress) (r : MainRun) : Type 0 where
  pub remaining : Computation Progress Done
  pub is : run mesh program turns ≡ remaining p
  pub stands : StandsAt (record { mesh = mesh; turns = turns; parts = parts_of program }) r 0 [] items p remaining

-- its next event, or the end
abbrev pub HasNext : World → List ItemCode → Progress → Computation Progress Done → MainStep → MainRun → Type 0
HasNext w items p remaining (Over EndDone) after = Ends w [] p remaining after
HasNext w items p remaining step after = HasAdvanced w 0 [] items p remaining (Some step) after

-- what `next` asks: the run is before its first event, or can advance
abbrev pub CanContinue : CheckedProgram → MainRun → Type 0
CanContinue checked r = ((r.depth ≡ 0) × IsPreparedRun checked r) ⊎ CanAdvance r 0 checked.items

-- the first event opens the outermost scope
pub record HasOpened (mesh : MeshLists) (program : Main) (turns : ℕ) (items : List ItemCode) (step : MainStep) (after : MainRun) : Type 0 where
  pub step_is : step ≡ Enter 0
  pub at : IsAt mesh program turns items (logged (ScopeOpened 0) (record { state = empty turns; path = [] })) after

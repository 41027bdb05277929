-- Where a run of the main program stands in its innermost block, and the item there.
use Rattle.std.proofs.Common.{◌≡◌, ◌<◌, ℕ, suc, Bool, true, false, List, ◌∷◌, ◌++◌, length, drop, refl, sym, ap, subst, ◌∙◌, arith, rules}
use Rattle.std.specs.List.{slice_set}
use Rattle.std.specs.Prelude.{Option, Some, None, slice_get}
use Rattle.liszt_base.specs.declared.answers.Place.{Place}
use Rattle.liszt_base.specs.declared.elements.Kind.{Kind}
use Rattle.liszt_tree.specs.declared.tree.How.{How}
use Rattle.liszt_tree.specs.Tree.{Expression, Body, MainItem, MainField, MainVar, MainAssign, MainIf, MainWhile, MainFor, Print, Main, item}
use Rattle.resolved_code.specs.declared.expressions.NumberCode.{NumberCode}
use Rattle.resolved_code.specs.declared.expressions.TruthCode.{TruthCode}
use Rattle.resolved_code.specs.declared.items.BlockCode.{BlockCode}
use Rattle.resolved_code.specs.declared.items.ItemCode.{ItemCode, out-ItemCode, the_lemmas}
use Rattle.resolved_code.specs.declared.items.ItemCode.TheOpen.{ItemCode-F}
use Rattle.resolved_code.specs.declared.items.ItemCode.TheVariants as code
use Rattle.phase_types.specs.Environments.{Part, IsPrefix, Site, ScalarName, binding_of, scalar_part, next_field, next_scalar, next_comprehension, next_scope, block_start, after_block, has_else_block, after_item, after_main}
use Rattle.phase_types.proofs.PartLemmas.{item_is_prefix, next_part}
use Rattle.kernel_eval.specs.Outcomes.{Computation, Done}
use Rattle.seq_meaning.specs.MainCode.{IsNumberCode, IsTruthCode, IsCode, FieldCode, VarCode, AssignCode, IfCode, IfElseCode, WhileCode, ForCode, PrintCode}
use Rattle.seq_meaning.specs.MainRuns.{Frame, MainRun, World, Descends, Stands, AtItem, InBlock, KeepsShape}
use Rattle.seq_meaning.specs.Runs.{Progress, main_meaning}
use Rattle.seq_meaning.proofs.MainStepLemmas.{set_here, set_there, length_set, drop_at, descends_below}
use Rattle.seq_meaning.proofs.TypedRunLemmas.{more_of}

pub stands_below : {w : World} {frames : List Frame} {depth level : ℕ} {outside known : List ℕ} {items : List ItemCode} {remaining : Computation Progress Done}
    → Stands w frames depth level outside items known remaining → level < depth
stands_below (AtItem frame site rest new at is code known_is descends) = omega (arith, is)
stands_below (InBlock frame inner site rest before new at is stands known_is descends code) = let l = stands_below stands in omega (arith, l)

-- THE INNERMOST BLOCK
pub record Here (w : World) (frames : List Frame) (depth level : ℕ) (outside : List ℕ) (items : List ItemCode) (known : List ℕ) (remaining : Computation Progress Done) : Type 0 where
  pub frame : Frame
  pub site : Site
  pub program : Main
  pub new : List ℕ
  pub at : slice_get frames level ≡ Some frame
  pub code : IsCode w.parts site program (drop frame.index items)
  pub known_is : known ≡ new ++ outside
  pub descends : Descends (next_scalar site) known
  pub is : remaining ≡ main_meaning w.mesh w.turns site program

pub here : {w : World} {frames : List Frame} {depth level : ℕ} {outside known : List ℕ} {items : List ItemCode} {remaining : Computation Progress Done}
    → Stands w frames depth level outside items known remaining → suc level ≡ depth → Here w frames depth level outside items known remaining
here (AtItem frame site rest new at is code known_is descends) innermost = record {
  frame = frame;
  site = site;
  program = rest;
  new = new;
  at = at;
  code = code;
  known_is = known_is;
  descends = descends;
  is = refl;
}
here (InBlock frame inner site rest before new at is stands known_is descends code) innermost = let l = stands_below stands in absurd (omega (arith, l, innermost))

-- the code at the item
pub code_here : {w : World} {frames : List Frame} {depth level : ℕ} {outside known : List ℕ} {items : List ItemCode} {remaining : Computation Progress Done}
    (h : Here w frames depth level outside items known remaining) (frame : Frame) (c : ItemCode) → slice_get frames level ≡ Some frame → slice_get items frame.index ≡ Some c
    → IsCode w.parts h.site h.program (c ∷ drop (suc frame.index) items)
code_here {w = w} {items = items} h frame c at is =
    let same : h.frame ≡ frame = cc (h.at, at) in
    subst (IsCode w.parts h.site h.program) (ap (λ frame. drop frame.index items) same ∙ drop_at items frame.index c is) h.code

-- THE SAME BLOCK at the next item
pub at_next : (w : World) (frames : List Frame) (depth level : ℕ) (outside known new : List ℕ) (items : List ItemCode) (frame : Frame) (site : Site) (rest : Main) → level < length frames → suc level ≡ depth
    → IsCode w.parts site rest (drop frame.index items) → known ≡ new ++ outside → Descends (next_scalar site) known
    → Stands w (slice_set frames level frame) depth level outside items known (main_meaning w.mesh w.turns site rest)
at_next w frames depth level outside known new items frame site rest l innermost code known_is descends =
    AtItem frame site rest new (set_here frames level frame l) innermost code known_is descends

pub keeps_shape : (level : ℕ) (r after : MainRun) (frame : Frame) → after.frames ≡ slice_set r.frames level frame → length after.scalars ≡ length r.scalars → length after.prints ≡ length r.prints
    → KeepsShape level r after
keeps_shape level r after frame is scalars prints = record {
  frames = λ j l. ap (λ frames. slice_get frames j) is ∙ set_there r.frames level j frame (λ same. absurd (omega (arith, same, l)));
  count = ap (λ frames. length frames) is ∙ length_set r.frames level frame;
  scalars = scalars;
  prints = prints;
}

pub scalars_after_item : (site : Site) (i : MainItem) (known : List ℕ) → Descends (next_scalar site) known → Descends (next_scalar (after_item site i)) known
scalars_after_item site i known h = descends_below (next_scalar site) (next_scalar (after_item site i)) known (more_of scalar_part site.parts (after_item site i).parts (item_is_prefix site i)) h

pub block_descends : (site : Site) (known : List ℕ) → Descends (next_scalar site) known → Descends (next_scalar (block_start site)) known
block_descends site known h = descends_below (next_scalar site) (next_scalar (block_start site)) known (more_of scalar_part site.parts (block_start site).parts (next_part site.parts _)) h

-- ITEMS by their code
out_field : (field : ℕ) (x : NumberCode) → out-ItemCode (code.Field field x) ≡ ItemCode-F.Field field x
out_field field x = search (rules, the_lemmas)

out_var : (scalar : ℕ) (x : NumberCode) → out-ItemCode (code.Var scalar x) ≡ ItemCode-F.Var scalar x
out_var scalar x = search (rules, the_lemmas)

pub record FieldHere (parts : List Part) (site : Site) (program : Main) (codes : List ItemCode) (field : ℕ) (x : NumberCode) : Type 0 where
  pub place : Place
  pub name : List ℕ
  pub at : Place
  pub kind : Kind
  pub init : Expression
  pub rest : Main
  pub is : program ≡ item (MainField place name at kind init) rest
  pub number : field ≡ next_field site
  pub value : IsNumberCode site.environment init x
  pub before : IsPrefix (after_item site (MainField place name at kind init)).parts parts
  pub code : IsCode parts (after_item site (MainField place name at kind init)) rest codes

pub field_here : {parts : List Part} {site : Site} {program : Main} {codes : List ItemCode} {c : ItemCode} (field : ℕ) (x : NumberCode) → IsCode parts site program (c ∷ codes) → c ≡ code.Field field x
    → FieldHere parts site program codes field x
field_here field x (FieldCode {site = site} place name at kind {init = init} {x = y} value before code) e =
    let o : ItemCode-F.Field (next_field site) y ≡ ItemCode-F.Field field x = sym (out_field (next_field site) y) ∙ ap out-ItemCode e ∙ out_field field x in
    let number : next_field site ≡ field = cc in
    let same : y ≡ x = cc in
    record { place = place; name = name; at = at; kind = kind; init = init; rest = _; is = refl; number = sym number; value = subst (IsNumberCode site.environment init) same value; before = before; code = code }
field_here field x (VarCode place name at value before code) e = absurd cc
field_here field x (AssignCode place name how scalar bound value code) e = absurd cc
field_here field x (IfCode place has_else value first none code) e = absurd cc
field_here field x (IfElseCode place has_else value first none second code) e = absurd cc
field_here field x (WhileCode place value body code) e = absurd cc
field_here field x (ForCode place name at over body before code) e = absurd cc
field_here field x (PrintCode place value code) e = absurd cc

pub record VarHere (parts : List Part) (site : Site) (program : Main) (codes : List ItemCode) (scalar : ℕ) (x : NumberCode) : Type 0 where
  pub place : Place
  pub name : List ℕ
  pub at : Place
  pub init : Expression
  pub rest : Main
  pub is : program ≡ item (MainVar place name at init) rest
  pub number : scalar ≡ next_scalar site
  pub value : IsNumberCode site.environment init x
  pub before : IsPrefix (after_item site (MainVar place name at init)).parts parts
  pub code : IsCode parts (after_item site (MainVar place name at init)) rest codes

pub var_here : {parts : List Part} {site : Site} {program : Main} {codes : List ItemCode} {c : ItemCode} (scalar : ℕ) (x : NumberCode) → IsCode parts site program (c ∷ codes) → c ≡ code.Var scalar x
    → VarHere parts site program codes scalar x
var_here scalar x (VarCode {site = site} place name at {init = init} {x = y} value before code) e =
    let o : ItemCode-F.Var (next_scalar site) y ≡ ItemCode-F.Var scalar x = sym (out_var (next_scalar site) y) ∙ ap out-ItemCode e ∙ out_var scalar x in
    let number : next_scalar site ≡ scalar = cc in
    let same : y ≡ x = cc in
    record { place = place; name = name; at = at; init = init; rest = _; is = refl; number = sym number; value = subst (IsNumberCode site.environment init) same value; before = before; code = code }
var_here scalar x (FieldCode place name at kind value before code) e = absurd cc
var_here scalar x (AssignCode place name how n bound value code) e = absurd cc
var_here scalar x (IfCode place has_else value first none code) e = absurd cc
var_here scalar x (IfElseCode place has_else value first none second code) e = absurd cc
var_here scalar x (WhileCode place value body code) e = absurd cc
var_here scalar x (ForCode place name at over body before code) e = absurd cc
var_here scalar x (PrintCode place value code) e = absurd cc

out_assign : (scalar : ℕ) (how : How) (x : NumberCode) → out-ItemCode (code.Assign scalar how x) ≡ ItemCode-F.Assign scalar how x
out_assign scalar how x = search (rules, the_lemmas)

out_print : (place : Place) (x : NumberCode) → out-ItemCode (code.Print place x) ≡ ItemCode-F.Print place x
out_print place x = search (rules, the_lemmas)

out_for : (k : ℕ) → out-ItemCode (code.For k) ≡ ItemCode-F.For k
out_for k = search (rules, the_lemmas)

pub out_while : (place : Place) (x : TruthCode) (body : BlockCode) → out-ItemCode (code.While place x body) ≡ ItemCode-F.While place x body
out_while place x body = search (rules, the_lemmas)

pub out_if : (x : TruthCode) (first : BlockCode) (second : Option BlockCode) → out-ItemCode (code.If x first second) ≡ ItemCode-F.If x first second
out_if x first second = search (rules, the_lemmas)

pub record AssignHere (parts : List Part) (site : Site) (program : Main) (codes : List ItemCode) (scalar : ℕ) (how : How) (x : NumberCode) : Type 0 where
  pub place : Place
  pub name : List ℕ
  pub value : Expression
  pub rest : Main
  pub is : program ≡ item (MainAssign place name how value) rest
  pub bound : binding_of site.environment name ≡ Some (ScalarName scalar)
  pub value_is : IsNumberCode site.environment value x
  pub code : IsCode parts site rest codes

pub assign_here : {parts : List Part} {site : Site} {program : Main} {codes : List ItemCode} {c : ItemCode} (scalar : ℕ) (how : How) (x : NumberCode) → IsCode parts site program (c ∷ codes) → c ≡ code.Assign scalar how x
    → AssignHere parts site program codes scalar how x
assign_here {site = site} scalar how x (AssignCode {rest = more} place name old n {value = e} {x = y} bound value code) eq =
    let o : ItemCode-F.Assign n old y ≡ ItemCode-F.Assign scalar how x = sym (out_assign n old y) ∙ ap out-ItemCode eq ∙ out_assign scalar how x in
    let number : n ≡ scalar = cc in
    let same : y ≡ x = cc in
    let same_how : old ≡ how = cc in
    record {
      place = place;
      name = name;
      value = e;
      rest = _;
      is = ap (λ how. item (MainAssign place name how e) more) same_how;
      bound = bound ∙ ap (λ n. Some (ScalarName n)) number;
      value_is = subst (IsNumberCode site.environment e) same value;
      code = code;
    }
assign_here scalar how x (FieldCode place name at kind value before code) e = absurd cc
assign_here scalar how x (VarCode place name at value before code) e = absurd cc
assign_here scalar how x (IfCode place has_else value first none code) e = absurd cc
assign_here scalar how x (IfElseCode place has_else value first none second code) e = absurd cc
assign_here scalar how x (WhileCode place value body code) e = absurd cc
assign_here scalar how x (ForCode place name at over body before code) e = absurd cc
assign_here scalar how x (PrintCode place value code) e = absurd cc

pub record PrintHere (parts : List Part) (site : Site) (program : Main) (codes : List ItemCode) (place : Place) (x : NumberCode) : Type 0 where
  pub value : Expression
  pub rest : Main
  pub is : program ≡ item (Print place value) rest
  pub value_is : IsNumberCode site.environment value x
  pub code : IsCode parts site rest codes

pub print_here : {parts : List Part} {site : Site} {program : Main} {codes : List ItemCode} {c : ItemCode} (place : Place) (x : NumberCode) → IsCode parts site program (c ∷ codes) → c ≡ code.Print place x
    → PrintHere parts site program codes place x
print_here {site = site} place x (PrintCode {rest = more} there {value = e} {x = y} value code) eq =
    let o : ItemCode-F.Print there y ≡ ItemCode-F.Print place x = sym (out_print there y) ∙ ap out-ItemCode eq ∙ out_print place x in
    let same_place : there ≡ place = cc in
    let same : y ≡ x = cc in
    record { value = e; rest = _; is = ap (λ place. item (Print place e) more) same_place; value_is = subst (IsNumberCode site.environment e) same value; code = code }
print_here there x (FieldCode place name at kind value before code) e = absurd cc
print_here there x (VarCode place name at value before code) e = absurd cc
print_here there x (AssignCode place name how n bound value code) e = absurd cc
print_here there x (IfCode place has_else value first none code) e = absurd cc
print_here there x (IfElseCode place has_else value first none second code) e = absurd cc
print_here there x (WhileCode place value body code) e = absurd cc
print_here there x (ForCode place name at over body before code) e = absurd cc

pub record ForHere (parts : List Part) (site : Site) (program : Main) (codes : List ItemCode) (k : ℕ) : Type 0 where
  pub place : Place
  pub name : List ℕ
  pub at : Place
  pub over : Kind
  pub body : Body
  pub rest : Main
  pub is : program ≡ item (MainFor place name at over body) rest
  pub number : k ≡ next_comprehension site
  pub before : IsPrefix (after_item site (MainFor place name at over body)).parts parts
  pub code : IsCode parts (after_item site (MainFor place name at over body)) rest codes

pub for_here : {parts : List Part} {site : Site} {program : Main} {codes : List ItemCode} {c : ItemCode} (k : ℕ) → IsCode parts site program (c ∷ codes) → c ≡ code.For k → ForHere parts site program codes k
for_here k (ForCode {site = site} place name at over body before code) e =
    let o : ItemCode-F.For (next_comprehension site) ≡ ItemCode-F.For k = sym (out_for (next_comprehension site)) ∙ ap out-ItemCode e ∙ out_for k in
    let number : next_comprehension site ≡ k = cc in
    record { place = place; name = name; at = at; over = over; body = body; rest = _; is = refl; number = sym number; before = before; code = code }
for_here k (FieldCode place name at kind value before code) e = absurd cc
for_here k (VarCode place name at value before code) e = absurd cc
for_here k (AssignCode place name how n bound value code) e = absurd cc
for_here k (IfCode place has_else value first none code) e = absurd cc
for_here k (IfElseCode place has_else value first none second code) e = absurd cc
for_here k (WhileCode place value body code) e = absurd cc
for_here k (PrintCode place value code) e = absurd cc

pub record WhileHere (parts : List Part) (site : Site) (program : Main) (codes : List ItemCode) (place : Place) (x : TruthCode) (body : BlockCode) : Type 0 where
  pub test : Expression
  pub tree : Main
  pub rest : Main
  pub is : program ≡ item (MainWhile place test tree) rest
  pub scope : body.scope ≡ next_scope site
  pub value : IsTruthCode site.environment test x
  pub body_code : IsCode parts (block_start site) tree body.items
  pub code : IsCode parts (after_item site (MainWhile place test tree)) rest codes

pub while_here : {parts : List Part} {site : Site} {program : Main} {codes : List ItemCode} {c : ItemCode} (place : Place) (x : TruthCode) (body : BlockCode) → IsCode parts site program (c ∷ codes) → c ≡ code.While place x body
    → WhileHere parts site program codes place x body
while_here {parts = parts} place x body (WhileCode {site = site} {rest = more} {body = tree} {body_codes = body_codes} there {test = test} {x = y} value inner code) e =
    let o : ItemCode-F.While there y (record { scope = next_scope site; items = body_codes }) ≡ ItemCode-F.While place x body = sym (out_while there y _) ∙ ap out-ItemCode e ∙ out_while place x body in
    let same_place : there ≡ place = cc in
    let same : y ≡ x = cc in
    let same_body : record { scope = next_scope site; items = body_codes } ≡ body = cc in
    record {
      test = test;
      tree = tree;
      rest = _;
      is = ap (λ place. item (MainWhile place test tree) more) same_place;
      scope = sym (ap (λ (b : BlockCode). b.scope) same_body);
      value = subst (IsTruthCode site.environment test) same value;
      body_code = subst (λ (b : BlockCode). IsCode parts (block_start site) tree b.items) same_body inner;
      code = code;
    }
while_here there x block (FieldCode place name at kind value before code) e = absurd cc
while_here there x block (VarCode place name at value before code) e = absurd cc
while_here there x block (AssignCode place name how n bound value code) e = absurd cc
while_here there x block (IfCode place has_else value first none code) e = absurd cc
while_here there x block (IfElseCode place has_else value first none second code) e = absurd cc
while_here there x block (ForCode place name at over body before code) e = absurd cc
while_here there x block (PrintCode place value code) e = absurd cc

-- of an `if` the second block is there or not
abbrev pub ElseHere : List Part → Site → Main → Bool → Option BlockCode → Type 0
ElseHere parts after_first second has_else None = has_else_block second has_else ≡ false
ElseHere parts after_first second has_else (Some block) =
    (has_else_block second has_else ≡ true) × (block.scope ≡ next_scope after_first) × IsCode parts (block_start after_first) second block.items

pub record IfHere (parts : List Part) (site : Site) (program : Main) (codes : List ItemCode) (x : TruthCode) (first : BlockCode) (second : Option BlockCode) : Type 0 where
  pub place : Place
  pub test : Expression
  pub first_tree : Main
  pub second_tree : Main
  pub has_else : Bool
  pub rest : Main
  pub is : program ≡ item (MainIf place test first_tree second_tree has_else) rest
  pub scope : first.scope ≡ next_scope site
  pub value : IsTruthCode site.environment test x
  pub first_code : IsCode parts (block_start site) first_tree first.items
  pub second_code : ElseHere parts (after_block site (after_main (block_start site) first_tree)) second_tree has_else second
  pub code : IsCode parts (after_item site (MainIf place test first_tree second_tree has_else)) rest codes

pub if_here : {parts : List Part} {site : Site} {program : Main} {codes : List ItemCode} {c : ItemCode} (x : TruthCode) (first : BlockCode) (second : Option BlockCode) → IsCode parts site program (c ∷ codes)
    → c ≡ code.If x first second → IfHere parts site program codes x first second
if_here {parts = parts} x first second (IfCode {site = site} {first = tree} {second = other} {first_codes = first_codes} place has_else {test = test} {x = y} value inner none code) e =
    let o : ItemCode-F.If y (record { scope = next_scope site; items = first_codes }) None ≡ ItemCode-F.If x first second = sym (out_if y _ None) ∙ ap out-ItemCode e ∙ out_if x first second in
    let same : y ≡ x = cc in
    let same_first : record { scope = next_scope site; items = first_codes } ≡ first = cc in
    let same_second : None ≡ second = cc in
    record {
      place = place;
      test = test;
      first_tree = tree;
      second_tree = other;
      has_else = has_else;
      rest = _;
      is = refl;
      scope = sym (ap (λ (b : BlockCode). b.scope) same_first);
      value = subst (IsTruthCode site.environment test) same value;
      first_code = subst (λ (b : BlockCode). IsCode parts (block_start site) tree b.items) same_first inner;
      second_code = subst (ElseHere parts (after_block site (after_main (block_start site) tree)) other has_else) same_second none;
      code = code;
    }
if_here {parts = parts} x first second (IfElseCode {site = site} {first = tree} {second = other} {first_codes = first_codes} {second_codes = second_codes} place has_else {test = test} {x = y} value inner some inner_second code) e =
    let o : ItemCode-F.If y (record { scope = next_scope site; items = first_codes }) (Some (record { scope = next_scope (after_block site (after_main (block_start site) tree)); items = second_codes })) ≡ ItemCode-F.If x first second =
    sym (out_if y _ _) ∙ ap out-ItemCode e ∙ out_if x first second in
    let same : y ≡ x = cc in
    let same_first : record { scope = next_scope site; items = first_codes } ≡ first = cc in
    let same_second : Some (record { scope = next_scope (after_block site (after_main (block_start site) tree)); items = second_codes }) ≡ second = cc in
    record {
      place = place;
      test = test;
      first_tree = tree;
      second_tree = other;
      has_else = has_else;
      rest = _;
      is = refl;
      scope = sym (ap (λ (b : BlockCode). b.scope) same_first);
      value = subst (IsTruthCode site.environment test) same value;
      first_code = subst (λ (b : BlockCode). IsCode parts (block_start site) tree b.items) same_first inner;
      second_code = subst (ElseHere parts (after_block site (after_main (block_start site) tree)) other has_else) same_second (some, refl, inner_second);
      code = code;
    }
if_here x block second_block (FieldCode place name at kind value before code) e = absurd cc
if_here x block second_block (VarCode place name at value before code) e = absurd cc
if_here x block second_block (AssignCode place name how n bound value code) e = absurd cc
if_here x block second_block (WhileCode place value body code) e = absurd cc
if_here x block second_block (ForCode place name at over body before code) e = absurd cc
if_here x block second_block (PrintCode place value code) e = absurd cc

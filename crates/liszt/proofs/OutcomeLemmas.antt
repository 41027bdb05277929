-- Words and files have one outcome, and the top call answers it.
use Rattle.std.proofs.Common.{◌≡◌, ℕ, inl, inr, List, length, Option, Some, None, Result, Ok, Err, MatchOption, MatchResult, Bool, true, false, nat_lt, refl, sym, ap, subst, ◌∙◌, arith, ltb-false, ltb-true}
use Rattle.std.specs.Io.KnownBytes.{append_known}
use Rattle.liszt_base.specs.declared.answers.Input.{Input}
use Rattle.liszt_base.specs.declared.answers.Input.TheVariants.{Program, Node, Ele}
use Rattle.liszt_base.specs.declared.answers.ProgramFault.{ProgramFault}
use Rattle.liszt_lexer.specs.Lexer.{tokens_of, end_of}
use Rattle.liszt_lexer.specs.declared.token.Token.{Token}
use Rattle.liszt_tree.specs.Tree.{Main}
use Rattle.liszt_parser.specs.Grammar.{lexemes, Derives}
use Rattle.liszt_parser.specs.ParseFault.{IsParseFault}
use Rattle.liszt_parser.proofs.OneTree.{one_tree_derived}
use Rattle.liszt_parser.proofs.OneFault.{one as one_fault}
use Rattle.liszt_parser.proofs.SomeFault.{some_fault}
use Rattle.liszt_base.specs.declared.mesh.PointTable.{PointTable}
use Rattle.liszt_base.specs.MeshLists.{MeshLists}
use Rattle.liszt_base.specs.Limits.{file_limit}
use Rattle.liszt_report.specs.Endings.{too_long, program_ending, mesh_ending}
use Rattle.liszt_io.specs.Causes.{Rose}
use Rattle.liszt_io.specs.Shelves.{Files, file, Tally}
use Rattle.liszt_base.specs.declared.answers.MeshFault.{MeshFault}
use Rattle.liszt_base.specs.declared.mesh.Point.{Point}
use Rattle.liszt_report.specs.Texts.{check_text}
use Rattle.liszt_tree.specs.Canonical.{canonical}
use Rattle.mesh_topology.specs.Elements.{count}
use Rattle.phase_types.specs.declared.state.CheckedProgram.{CheckedProgram}
use Rattle.phase_types.specs.Checked.{checked_program}
use Rattle.phase_types.specs.Walk.{check_fault}
use Rattle.phase_types.proofs.FaultLemmas.{is_typed}
use Rattle.phase_types.proofs.CheckedLemmas.{typed_is_checked}
use Rattle.text_scan.specs.Rows.{text_rows}
use Rattle.tet_reader.specs.Faults.{node_fault, cells_fault}
use Rattle.tet_reader.proofs.Lists.{one_point_list, node_spelled, node_passes}
use Rattle.tet_reader.proofs.EleReading.{mesh_spelled_over, mesh_passes_over, one_mesh_over}
use Rattle.liszt_report.specs.declared.ended.Ended.{Ended}
use Rattle.liszt_report.specs.declared.ended.Ended.TheVariants.{Done, Usage, Program as OfProgram, Mesh, Limit, Trap, ReadFault, WriteFault, NoMemory}
use Rattle.command_words.specs.declared.command.Mode.{Mode}
use Rattle.command_words.specs.declared.command.Mode.TheVariants.{Check, Stencil, Seq}
use Rattle.command_words.specs.Commands.{command_of, Invocation}
use Rattle.liszt.specs.Expected.{RunsOn, Outcome, refusal, Within, Follows, IsProgramFault, ProgramResult, NodeResult, EleResult, TakesIn, Finishes, TakesCells, TakesPoints, Performs, ChecksOn, WorksOn, done_with, ResultsIn, Expected}
use Rattle.std.specs.Prelude.{is_some}
use Rattle.liszt_base.specs.Corners.{IsMesh}
use Rattle.mesh_topology.specs.Elements.{corner_lists}
use Rattle.liszt_base.specs.declared.answers.LimitFault.{LimitFault}
use Rattle.liszt_base.specs.declared.answers.RunEnd.{RunEnd}
use Rattle.phase_types.specs.Environments.{fields_of}
use Rattle.seq_meaning.specs.FieldStores.{StoreWords, prepared_store}
use Rattle.seq_meaning.specs.Runs.{run_end}
use Rattle.seq_meaning.proofs.TypedRunLemmas.{run_ends}
use Rattle.liszt.proofs.MeshLemmas.{is_mesh}
use Rattle.liszt.specs.Expected.{InfersOn, run_outcome, stencils_outcome}
use Rattle.stencil_infer.specs.Stencils.{StencilLists, program_inference}
use Rattle.liszt.specs.Answers.{outside, IsLost, EndsWith, Answers, HasCauses, IsOutcome}

-- One outcome

same_file : (files : Files) (name x y : List ℕ) → file files name ≡ Some x → file files name ≡ Some y → x ≡ y
same_file files name x y e f = cc

abbrev IsOne : (Outcome → Type 0) → Type 0
IsOne Comes = (a b : Outcome) → Comes a → Comes b → a ≡ b

-- bytes have one result
abbrev HasOneResult : {A : Type 0} → (List ℕ → Result A Ended → Type 0) → Type 0
HasOneResult {A} HasResult = (bytes : List ℕ) (a b : Result A Ended) → HasResult bytes a → HasResult bytes b → a ≡ b

one_within : {A : Type 0} (input : Input) (HasResult : List ℕ → Result A Ended → Type 0) → HasOneResult HasResult → HasOneResult (Within input HasResult)
one_within input HasResult one bytes a b (inl p) (inl q) = p.1 ∙ sym q.1
one_within input HasResult one bytes a b (inl p) (inr q) = absurd (omega (arith, p.0, q.0))
one_within input HasResult one bytes a b (inr p) (inl q) = absurd (omega (arith, p.0, q.0))
one_within input HasResult one bytes a b (inr p) (inr q) = one bytes a b p.1 q.1

one_follows : {A : Type 0} (Continues : A → Outcome → Type 0) (answer : Result A Ended) → ((value : A) → IsOne (Continues value)) → IsOne (Follows Continues answer)
one_follows Continues (Ok value) rest a b p q = rest value a b p q
one_follows Continues (Err ended) rest a b p q = p ∙ sym q

one_input : {A : Type 0} (files : Files) (input : Input) (name : List ℕ) (HasResult : List ℕ → Result A Ended → Type 0) (Continues : A → Outcome → Type 0)
    → HasOneResult HasResult → ((value : A) → IsOne (Continues value)) → IsOne (TakesIn (λ n. file files n ≡ None) files input name HasResult Continues)
one_input files input name HasResult Continues one rest a b (inl p) (inl q) = p.1 ∙ sym q.1
one_input files input name HasResult Continues one rest a b (inl p) (inr q) = let n = p.0 in let s = q.2 in cc
one_input files input name HasResult Continues one rest a b (inr p) (inl q) = let n = q.0 in let s = p.2 in cc
one_input {A} files input name HasResult Continues one rest a b (inr p) (inr q) =
    let bytes : p.0 ≡ q.0 = same_file files name p.0 q.0 p.2 q.2 in
    let answer : p.1 ≡ q.1 = one_within input HasResult one q.0 p.1 q.1 (subst (λ (l : List ℕ). Within input HasResult l p.1) bytes p.3) q.3 in
    one_follows Continues q.1 rest a b (subst (λ (r : Result A Ended). Follows Continues r a) answer p.4) q.4

-- the tokens of a text are one list or one fault
same_tokens : (bytes : List ℕ) (ts us : List Token) → tokens_of bytes ≡ Ok ts → tokens_of bytes ≡ Ok us → ts ≡ us
same_tokens bytes ts us e f = cc

abbrev IsFaultOf : List ℕ → List Token → Option ProgramFault → Type 0
IsFaultOf bytes ts fault = IsParseFault (lexemes bytes ts) (end_of bytes) fault

one_parse : (bytes : List ℕ) (ts us : List Token) (f g : Option ProgramFault) → tokens_of bytes ≡ Ok ts → tokens_of bytes ≡ Ok us
    → IsFaultOf bytes ts f → IsFaultOf bytes us g → f ≡ g
one_parse bytes ts us f g e e' h h' =
    one_fault (lexemes bytes us) (end_of bytes) f g (subst (λ (l : List Token). IsFaultOf bytes l f) (same_tokens bytes ts us e e') h) h'

one_program_fault : (bytes : List ℕ) (f g : ProgramFault) → IsProgramFault bytes f → IsProgramFault bytes g → f ≡ g
one_program_fault bytes f g (inl e) (inl e') = cc
one_program_fault bytes f g (inl e) (inr h') = let is = h'.1 in absurd cc
one_program_fault bytes f g (inr h) (inl e') = let is = h.1 in absurd cc
one_program_fault bytes f g (inr h) (inr h') = let same = one_parse bytes h.0 h'.0 (Some f) (Some g) h.1 h'.1 h.2 h'.2 in cc

no_program_fault : {A : Type 0} (bytes : List ℕ) (tree : Main) (f : ProgramFault) → ProgramResult bytes (Ok tree) → IsProgramFault bytes f → A
no_program_fault bytes tree f h (inl e) = let is = h.1 in absurd cc
no_program_fault bytes tree f h (inr h') =
    let same = one_parse bytes h.0 h'.0 None (Some f) h.1 h'.1 ((tree, h.2), h.3) h'.2 in absurd cc

one_program : HasOneResult ProgramResult
one_program bytes (Ok p) (Ok q) h i =
    let same = same_tokens bytes h.0 i.0 h.1 i.1 in
    ap Ok (one_tree_derived (lexemes bytes i.0) p q (subst (λ (l : List Token). Derives (lexemes bytes l) p) same h.2) i.2)
one_program bytes (Ok p) (Err e) h i = no_program_fault bytes p i.0 h i.1
one_program bytes (Err e) (Ok q) h i = no_program_fault bytes q h.0 i h.1
one_program bytes (Err e) (Err f) h i = ap Err (h.2 ∙ (ap program_ending (one_program_fault bytes h.0 i.0 h.1 i.1) ∙ sym i.2))

same_fault : (o : Option MeshFault) (f g : MeshFault) → o ≡ Some f → o ≡ Some g → f ≡ g
same_fault o f g p q = cc

same_table : (l m : List Point) (b c : ℕ) → l ≡ m → b ≡ c → ◌≡◌ {A = PointTable} (record { list = l; base = b }) (record { list = m; base = c })
same_table l m b c p q = cc

one_node : HasOneResult NodeResult
one_node bytes (Ok t) (Ok u) h i =
    let same = one_point_list (text_rows bytes).rows t.base u.base t.list u.list h i in
    ap Ok (same_table t.list u.list t.base u.base same.1 same.0)
one_node bytes (Ok t) (Err e) h i = let none = node_passes (text_rows bytes).last_line (text_rows bytes).rows t.base t.list h in let some = i.1 in cc
one_node bytes (Err e) (Ok u) h i = let none = node_passes (text_rows bytes).last_line (text_rows bytes).rows u.base u.list i in let some = h.1 in cc
one_node bytes (Err e) (Err f) h i = ap Err (h.2 ∙ (ap mesh_ending (same_fault (node_fault (text_rows bytes)) h.0 i.0 h.1 i.1) ∙ sym i.2))

one_ele : (table : PointTable) → HasOneResult (EleResult table)
one_ele table bytes (Ok m) (Ok n) h i = ap Ok (one_mesh_over table (text_rows bytes) m n h i)
one_ele table bytes (Ok m) (Err e) h i = let none = mesh_passes_over table (text_rows bytes) m h in let some = i.1 in cc
one_ele table bytes (Err e) (Ok n) h i = let none = mesh_passes_over table (text_rows bytes) n i in let some = h.1 in cc
one_ele table bytes (Err e) (Err f) h i =
    ap Err (h.2 ∙ (ap mesh_ending (same_fault (cells_fault (length table.list) table.base (text_rows bytes)) h.0 i.0 h.1 i.1) ∙ sym i.2))

one_run : (turns : ℕ) (tree : Main) (mesh : MeshLists) → IsOne (RunsOn turns tree mesh)
one_run turns tree mesh a b h i = go (prepared_store (fields_of tree) mesh) h i where
  go : (store : Result StoreWords LimitFault)
      → MatchResult store (λ words. (end : RunEnd) × (run_end mesh tree turns ≡ Some end) × (a ≡ run_outcome mesh tree turns end)) (λ fault. a ≡ refusal (Limit fault))
      → MatchResult store (λ words. (end : RunEnd) × (run_end mesh tree turns ≡ Some end) × (b ≡ run_outcome mesh tree turns end)) (λ fault. b ≡ refusal (Limit fault))
      → a ≡ b
  go (Ok words) h i = let same : Some h.0 ≡ Some i.0 = sym h.1 ∙ i.1 in let end : h.0 ≡ i.0 = cc in h.2 ∙ ap (run_outcome mesh tree turns) end ∙ sym i.2
  go (Err fault) h i = h ∙ sym i

-- a tree has one checked program
same_checked : (tree : Main) (c d : CheckedProgram) → checked_program tree ≡ Ok c → checked_program tree ≡ Ok d → c ≡ d
same_checked tree c d p q = cc

one_check : (tree : Main) (mesh : MeshLists) → IsOne (ChecksOn tree mesh)
one_check tree mesh a b h i =
    h.2 ∙ (ap (λ c. done_with (check_text (canonical tree) c (count mesh))) (same_checked tree h.0 i.0 h.1 i.1) ∙ sym i.2)

one_inference : (tree : Main) (mesh : MeshLists) → IsOne (InfersOn tree mesh)
one_inference tree mesh a b h i = go (program_inference mesh tree) h i where
  go : (inferred : Result (List StencilLists) LimitFault)
      → MatchResult inferred (λ stencils. (checked : CheckedProgram) × (checked_program tree ≡ Ok checked) × (a ≡ stencils_outcome checked stencils)) (λ fault. a ≡ refusal (Limit fault))
      → MatchResult inferred (λ stencils. (checked : CheckedProgram) × (checked_program tree ≡ Ok checked) × (b ≡ stencils_outcome checked stencils)) (λ fault. b ≡ refusal (Limit fault))
      → a ≡ b
  go (Ok stencils) h i = h.2 ∙ (ap (λ c. stencils_outcome c stencils) (same_checked tree h.0 i.0 h.1 i.1) ∙ sym i.2)
  go (Err fault) h i = h ∙ sym i

one_work : (mode : Mode) (tree : Main) (mesh : MeshLists) → IsOne (WorksOn mode tree mesh)
one_work Check tree mesh = one_check tree mesh
one_work Stencil tree mesh = one_inference tree mesh
one_work (Seq turns) tree mesh = one_run turns tree mesh

one_finish : (mode : Mode) (tree : Main) (mesh : MeshLists) → IsOne (Finishes mode tree mesh)
one_finish mode tree mesh = go (check_fault tree) where
  go : (fault : Option ProgramFault) → IsOne (λ outcome. MatchOption fault (WorksOn mode tree mesh outcome) (λ f. outcome ≡ refusal (program_ending f)))
  go None a b h i = one_work mode tree mesh a b h i
  go (Some fault) a b h i = h ∙ sym i

one_performed : (files : Files) (c : Invocation) → IsOne (Performs (λ n. file files n ≡ None) files c)
one_performed files c =
    let Lost : List ℕ → Type 0 = λ n. file files n ≡ None in
    one_input files Program c.program ProgramResult (TakesPoints Lost files c) one_program (λ program.
    one_input files Node c.node NodeResult (TakesCells Lost files c program) one_node (λ table.
    one_input files Ele c.ele (EleResult table) (Finishes c.mode program) (one_ele table) (one_finish c.mode program)))

one_command : (files : Files) (o : Option Invocation)
    → IsOne (λ outcome. MatchOption o (outcome ≡ refusal Usage) (λ c. Performs (λ n. file files n ≡ None) files c outcome))
one_command files None a b p q = p ∙ sym q
one_command files (Some c) a b p q = one_performed files c a b p q

pub one_expected : (words : List (List ℕ)) (files : Files) (a b : Outcome) → Expected words files a → Expected words files b → a ≡ b
one_expected words files a b p q = one_command files (command_of words) a b p q

-- Where only strays were counted, a file is lost only where the shelf has none of its name.

-- more files may count as lost
follows_weakened : {A : Type 0} (Continues Continues' : A → Outcome → Type 0) (answer : Result A Ended) (outcome : Outcome)
    → ((value : A) → Continues value outcome → Continues' value outcome) → Follows Continues answer outcome → Follows Continues' answer outcome
follows_weakened Continues Continues' (Ok value) outcome rest p = rest value p
follows_weakened Continues Continues' (Err ended) outcome rest p = p

input_weakened : {A : Type 0} (Lost Lost' : List ℕ → Type 0) (files : Files) (input : Input) (name : List ℕ) (HasResult : List ℕ → Result A Ended → Type 0) (Continues Continues' : A → Outcome → Type 0) (outcome : Outcome)
    → ((n : List ℕ) → Lost n → Lost' n) → ((value : A) → Continues value outcome → Continues' value outcome)
    → TakesIn Lost files input name HasResult Continues outcome → TakesIn Lost' files input name HasResult Continues' outcome
input_weakened Lost Lost' files input name HasResult Continues Continues' outcome lost rest (inl p) = inl (lost name p.0, p.1)
input_weakened Lost Lost' files input name HasResult Continues Continues' outcome lost rest (inr p) =
    inr (p.0, p.1, p.2, p.3, follows_weakened Continues Continues' p.1 outcome rest p.4)

command_weakened : (Lost Lost' : List ℕ → Type 0) (files : Files) (o : Option Invocation) (outcome : Outcome) → ((n : List ℕ) → Lost n → Lost' n)
    → MatchOption o (outcome ≡ refusal Usage) (λ c. Performs Lost files c outcome) → MatchOption o (outcome ≡ refusal Usage) (λ c. Performs Lost' files c outcome)
command_weakened Lost Lost' files None outcome lost p = p
command_weakened Lost Lost' files (Some c) outcome lost p =
    input_weakened Lost Lost' files Program c.program ProgramResult (TakesPoints Lost files c) (TakesPoints Lost' files c) outcome lost (λ program.
    input_weakened Lost Lost' files Node c.node NodeResult (TakesCells Lost files c program) (TakesCells Lost' files c program) outcome lost (λ table.
    input_weakened Lost Lost' files Ele c.ele (EleResult table) (Finishes c.mode program) (Finishes c.mode program) outcome lost (λ mesh q. q))) p

lost_without_file : (files : Files) (before now : Tally) (name : List ℕ) → (Rose before.others now.others → ⊥) → IsLost files before now name → file files name ≡ None
lost_without_file files before now name none (inl p) = p
lost_without_file files before now name none (inr p) = absurd (none p.0)

expected_of : (words : List (List ℕ)) (files : Files) (before now : Tally) (outcome : Outcome) → (Rose before.others now.others → ⊥)
    → ResultsIn (IsLost files before now) words files outcome → Expected words files outcome
expected_of words files before now outcome none p =
    command_weakened (IsLost files before now) (λ n. file files n ≡ None) files (command_of words) outcome (λ n. lost_without_file files before now n none) p

ending_is_outcome : (words : List (List ℕ)) (files : Files) (before now : Tally) (shelf shelf' : ℕ) (old new : Option (List ℕ)) (ended : Ended) (outcome : Outcome) → (Rose before.others now.others → ⊥)
    → EndsWith words files (outside before shelf old) (outside now shelf' new) ended → Expected words files outcome → IsOutcome outcome old new ended
ending_is_outcome words files before now shelf shelf' old new ended outcome none e x =
    let own : Outcome = record { ended = ended; text = e.0 } in
    let same : own ≡ outcome = one_expected words files own outcome (expected_of words files before now own none e.1) x in
    inl (ap (λ (o : Outcome). o.ended) same, e.2 ∙ ap (λ (o : Outcome). append_known old o.text) same)

-- The answer is the outcome, where only strays were counted.
pub complete : (words : List (List ℕ)) (files : Files) (before now : Tally) (shelf shelf' sink sink' : ℕ) (old new : Option (List ℕ)) (ended : Ended) (outcome : Outcome)
    → Answers words files (outside before shelf old) (outside now shelf' new) ended → HasCauses shelf shelf' sink sink' ended → Expected words files outcome
    → (Rose before.others now.others → ⊥) → (Rose sink sink' → ⊥) → IsOutcome outcome old new ended
complete words files before now shelf shelf' sink sink' old new Done outcome a c x none whole = ending_is_outcome words files before now shelf shelf' old new Done outcome none a x
complete words files before now shelf shelf' sink sink' old new Usage outcome a c x none whole = ending_is_outcome words files before now shelf shelf' old new Usage outcome none a x
complete words files before now shelf shelf' sink sink' old new (OfProgram f) outcome a c x none whole = ending_is_outcome words files before now shelf shelf' old new (OfProgram f) outcome none a x
complete words files before now shelf shelf' sink sink' old new (Mesh f) outcome a c x none whole = ending_is_outcome words files before now shelf shelf' old new (Mesh f) outcome none a x
complete words files before now shelf shelf' sink sink' old new (Limit f) outcome a c x none whole = ending_is_outcome words files before now shelf shelf' old new (Limit f) outcome none a x
complete words files before now shelf shelf' sink sink' old new (Trap t) outcome a c x none whole = ending_is_outcome words files before now shelf shelf' old new (Trap t) outcome none a x
complete words files before now shelf shelf' sink sink' old new (ReadFault i) outcome a c x none whole = ending_is_outcome words files before now shelf shelf' old new (ReadFault i) outcome none a x
complete words files before now shelf shelf' sink sink' old new WriteFault outcome a c x none whole = absurd (whole c.1)
complete words files before now shelf shelf' sink sink' old new NoMemory outcome a c x none whole = inr refl

-- There is an outcome.
-- bytes have a result
abbrev HasSomeResult : {A : Type 0} → (List ℕ → Result A Ended → Type 0) → Type 0
HasSomeResult {A} HasResult = (bytes : List ℕ) → (answer : Result A Ended) × HasResult bytes answer

some_within : {A : Type 0} (input : Input) (HasResult : List ℕ → Result A Ended → Type 0) → HasSomeResult HasResult → HasSomeResult (Within input HasResult)
some_within {A} input HasResult some bytes = go (nat_lt file_limit (length bytes)) refl
  where
    go : (long : Bool) → nat_lt file_limit (length bytes) ≡ long → (answer : Result A Ended) × Within input HasResult bytes answer
    go true is = (Err (too_long input), inl (ltb-true file_limit (length bytes) is, refl))
    go false is = let answer = some bytes in (answer.0, inr (ltb-false file_limit (length bytes) is, answer.1))

some_follows : {A : Type 0} (Continues : A → Outcome → Type 0) (answer : Result A Ended) → ((value : A) → answer ≡ Ok value → (outcome : Outcome) × Continues value outcome)
    → (outcome : Outcome) × Follows Continues answer outcome
some_follows Continues (Ok value) rest = rest value refl
some_follows Continues (Err ended) rest = (refusal ended, refl)

some_input : {A : Type 0} (files : Files) (input : Input) (name : List ℕ) (HasResult : List ℕ → Result A Ended → Type 0) (Continues : A → Outcome → Type 0) (held : Option (List ℕ))
    → HasSomeResult HasResult → ((bytes : List ℕ) (value : A) → Within input HasResult bytes (Ok value) → (outcome : Outcome) × Continues value outcome)
    → file files name ≡ held → (outcome : Outcome) × TakesIn (λ n. file files n ≡ None) files input name HasResult Continues outcome
some_input files input name HasResult Continues None some rest is = (refusal (ReadFault input), inl (is, refl))
some_input files input name HasResult Continues (Some bytes) some rest is =
    let answer = some_within input HasResult some bytes in
    let more = some_follows Continues answer.0 (λ value e. rest bytes value (subst (Within input HasResult bytes) e answer.1)) in
    (more.0, inr (bytes, answer.0, is, answer.1, more.1))

some_program : HasSomeResult ProgramResult
some_program bytes = go (tokens_of bytes) refl where
  at : (ts : List Token) → tokens_of bytes ≡ Ok ts → (fault : Option ProgramFault) → IsFaultOf bytes ts fault
      → (answer : Result Main Ended) × ProgramResult bytes answer
  at ts is None h = (Ok h.0.0, (ts, is, h.0.1, h.1))
  at ts is (Some fault) h = (Err (program_ending fault), (fault, inr (ts, is, h), refl))

  go : (read : Result (List Token) ProgramFault) → tokens_of bytes ≡ read → (answer : Result Main Ended) × ProgramResult bytes answer
  go (Ok ts) is = let f = some_fault (lexemes bytes ts) (end_of bytes) in at ts is f.0 f.1
  go (Err fault) is = (Err (program_ending fault), (fault, inl is, refl))

some_run : (turns : ℕ) (tree : Main) (mesh : MeshLists) → IsMesh (length mesh.points) (corner_lists mesh) → check_fault tree ≡ None → (outcome : Outcome) × RunsOn turns tree mesh outcome
some_run turns tree mesh is_mesh none = go (prepared_store (fields_of tree) mesh) refl where
  ended : (end : Option RunEnd) → is_some end ≡ true → run_end mesh tree turns ≡ end → (end : RunEnd) × (run_end mesh tree turns ≡ Some end)
  ended (Some end) some is = (end, is)
  ended None some is = absurd cc

  go : (store : Result StoreWords LimitFault) → prepared_store (fields_of tree) mesh ≡ store
      → (outcome : Outcome) × MatchResult store (λ words. (end : RunEnd) × (run_end mesh tree turns ≡ Some end) × (outcome ≡ run_outcome mesh tree turns end)) (λ fault. outcome ≡ refusal (Limit fault))
  go (Ok words) is =
      let end = ended (run_end mesh tree turns) (run_ends mesh turns is_mesh tree (is_typed tree none)) refl in
      (run_outcome mesh tree turns end.0, (end.0, end.1, refl))
  go (Err fault) is = (refusal (Limit fault), refl)

some_check : (tree : Main) (mesh : MeshLists) → check_fault tree ≡ None → (outcome : Outcome) × ChecksOn tree mesh outcome
some_check tree mesh none =
    let c = typed_is_checked tree (is_typed tree none) in
    (done_with (check_text (canonical tree) c.0 (count mesh)), (c.0, c.1, refl))

some_inference : (tree : Main) (mesh : MeshLists) → check_fault tree ≡ None → (outcome : Outcome) × InfersOn tree mesh outcome
some_inference tree mesh none = go (program_inference mesh tree) where
  go : (inferred : Result (List StencilLists) LimitFault) → (outcome : Outcome) × MatchResult inferred
      (λ stencils. (checked : CheckedProgram) × (checked_program tree ≡ Ok checked) × (outcome ≡ stencils_outcome checked stencils))
      (λ fault. outcome ≡ refusal (Limit fault))
  go (Ok stencils) = let c = typed_is_checked tree (is_typed tree none) in (stencils_outcome c.0 stencils, (c.0, c.1, refl))
  go (Err fault) = (refusal (Limit fault), refl)

some_work : (mode : Mode) (tree : Main) (mesh : MeshLists) → IsMesh (length mesh.points) (corner_lists mesh) → check_fault tree ≡ None → (outcome : Outcome) × WorksOn mode tree mesh outcome
some_work Check tree mesh is_mesh none = some_check tree mesh none
some_work Stencil tree mesh is_mesh none = some_inference tree mesh none
some_work (Seq turns) tree mesh is_mesh none = some_run turns tree mesh is_mesh none

some_finish : (mode : Mode) (tree : Main) (mesh : MeshLists) → IsMesh (length mesh.points) (corner_lists mesh) → (outcome : Outcome) × Finishes mode tree mesh outcome
some_finish mode tree mesh is_mesh = go (check_fault tree) refl where
  go : (fault : Option ProgramFault) → check_fault tree ≡ fault
      → (outcome : Outcome) × MatchOption fault (WorksOn mode tree mesh outcome) (λ f. outcome ≡ refusal (program_ending f))
  go None is = some_work mode tree mesh is_mesh is
  go (Some fault) is = (refusal (program_ending fault), refl)

some_node : HasSomeResult NodeResult
some_node bytes = go (node_fault (text_rows bytes)) refl
  where
    go : (fault : Option MeshFault) → node_fault (text_rows bytes) ≡ fault → (answer : Result PointTable Ended) × NodeResult bytes answer
    go None is = let p = node_spelled (text_rows bytes).last_line (text_rows bytes).rows is in (Ok (record { list = p.1; base = p.0 }), p.2)
    go (Some f) is = (Err (mesh_ending f), (f, is, refl))

some_ele : (table : PointTable) → HasSomeResult (EleResult table)
some_ele table bytes = go (cells_fault (length table.list) table.base (text_rows bytes)) refl
  where
    go : (fault : Option MeshFault) → cells_fault (length table.list) table.base (text_rows bytes) ≡ fault → (answer : Result MeshLists Ended) × EleResult table bytes answer
    go None is = let m = mesh_spelled_over table (text_rows bytes) is in (Ok m.0, m.1)
    go (Some f) is = (Err (mesh_ending f), (f, is, refl))

mesh_within : (table : PointTable) (bytes : List ℕ) (mesh : MeshLists) → Within Ele (EleResult table) bytes (Ok mesh) → IsMesh (length mesh.points) (corner_lists mesh)
mesh_within table bytes mesh (inl long) = let e = long.1 in absurd cc
mesh_within table bytes mesh (inr spelled) = is_mesh table (text_rows bytes) mesh spelled.1

some_command : (files : Files) (o : Option Invocation)
    → (outcome : Outcome) × MatchOption o (outcome ≡ refusal Usage) (λ c. Performs (λ n. file files n ≡ None) files c outcome)
some_command files None = (refusal Usage, refl)
some_command files (Some c) =
    let Lost : List ℕ → Type 0 = λ n. file files n ≡ None in
    some_input files Program c.program ProgramResult (TakesPoints Lost files c) (file files c.program) some_program (λ program_bytes program program_is.
    some_input files Node c.node NodeResult (TakesCells Lost files c program) (file files c.node) some_node (λ node_bytes table table_is.
    some_input files Ele c.ele (EleResult table) (Finishes c.mode program) (file files c.ele) (some_ele table)
    (λ ele_bytes mesh mesh_is. some_finish c.mode program mesh (mesh_within table ele_bytes mesh mesh_is))
    refl) refl) refl

pub some_expected : (words : List (List ℕ)) (files : Files) → (outcome : Outcome) × Expected words files outcome
some_expected words files = some_command files (command_of words)

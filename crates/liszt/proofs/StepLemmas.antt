-- The steps that read the inputs, joined.
use Rattle.std.proofs.Common.{◌≡◌, ℕ, ◌≤◌, inl, inr, List, [], length, Option, Some, None, MatchOption, MatchResult, Result, Ok, Err, refl, sym, ap, subst, ◌∙◌, arith, ℤ, ◌⊎◌}
use Rattle.std.specs.Prelude.{IfOk}
use Rattle.std.proofs.lemmas.List.{length-map}
use Rattle.liszt_base.specs.declared.answers.Input.{Input}
use Rattle.liszt_base.specs.declared.answers.Input.TheVariants.{Program, Node, Ele}
use Rattle.liszt_base.specs.declared.mesh.PointTable.{PointTable}
use Rattle.liszt_base.specs.MeshLists.{MeshLists}
use Rattle.std.specs.Io.KnownBytes.{append_known}
use Rattle.liszt_io.specs.declared.outside.WriteFault.{WriteFault as Unwritten}
use Rattle.liszt_io.specs.Causes.{HasCause}
use Rattle.liszt_io.specs.Sinks.{TakesPrefix, Writes}
use Rattle.liszt_io.specs.Shelves.{Files, Tally, FailsAt}
use Rattle.liszt_tree.specs.Tree.{Main}
use Rattle.liszt_report.specs.declared.ended.Ended.{Ended}
use Rattle.liszt_report.specs.declared.ended.Ended.TheVariants.{Done, Usage, Program as OfProgram, Mesh, Limit, Trap, ReadFault, WriteFault, NoMemory}
use Rattle.liszt.specs.declared.job.Job.{Job}
use Rattle.liszt.specs.declared.job.Job.TheVariants as jobs
use Rattle.liszt.specs.declared.job.CheckJob.{CheckJob}
use Rattle.command_words.specs.declared.command.Mode.{Mode}
use Rattle.command_words.specs.declared.command.Mode.TheVariants.{Check}
use Rattle.liszt_report.specs.Texts.{check_text}
use Rattle.liszt_tree.specs.Canonical.{canonical}
use Rattle.mesh_topology.specs.Elements.{count}
use Rattle.phase_types.specs.declared.state.CheckedProgram.{CheckedProgram}
use Rattle.command_words.specs.Commands.{command_of, Invocation}
use Rattle.liszt_base.specs.declared.answers.Refused.{Refused}
use Rattle.liszt_base.specs.declared.answers.Refused.TheVariants.{Fault, NoMemory as OutOfMemory}
use Rattle.liszt_report.specs.Endings.{ending_text, program_ending, ending_of, too_long}
use Rattle.liszt.specs.Expected.{Outcome, refusal, Within, ProgramResult, NodeResult, EleResult, TakesIn, Finishes, TakesCells, TakesPoints, Performs, WorksOn, done_with, ResultsIn}
use Rattle.liszt_base.specs.declared.answers.RunEnd.{RunEnd}
use Rattle.liszt_base.specs.declared.answers.RunEnd.TheVariants.{Done as IsDone, Trap as IsTrap}
use Rattle.liszt_base.specs.declared.answers.Trap.{Trap as RunTrap}
use Rattle.liszt.specs.Expected.{outcome_of_run}
use Rattle.liszt.specs.Answers.{outside, IsRunOutcome, IsLost, Answers, Wrote, HasCauses, HasShelfCause}
use Rattle.liszt.specs.Internal.Steps.{HasStepCause, StepGives, input_at, MakesJob, MakesJobOf, Prepares, ReadsProgram, WritesOutcome, check_job_text, job_outcome}
use Rattle.liszt_lexer.specs.Lexed.{LexedText, lexed_text}
use Rattle.liszt_lexer.proofs.LexedTextLemmas.{lexed_parts}
use Rattle.liszt_parser.specs.Grammar.{lexeme, lexemes}
use Rattle.liszt_parser.specs.ParseFault.{IsParseFault}
use Rattle.liszt_parser.specs.ParserAnswers.{ParsesTo}
use Rattle.liszt_tree.specs.declared.tree.Program.{Program as Tree}
use Rattle.liszt_base.specs.declared.answers.ProgramFault.{ProgramFault}
use Rattle.liszt_base.specs.declared.answers.ProgramWhat.{ProgramWhat}
use Rattle.liszt_base.specs.declared.answers.ProgramWhat.TheVariants.{BadByte, LongNumber, LongName, Big, Syntax, Deep, NameUnknown, NameTwice, TypeMismatch, PhaseConflict, ScalarWrite, BuiltinWrite}
use Rattle.phase_types.specs.Walk.{check_fault}
use Rattle.liszt_base.specs.Limits.{token_limit}
use Rattle.liszt_lexer.specs.Lexer.{tokens_of, pieces, findings_after}
use Rattle.liszt_lexer.specs.declared.token.Token.{Token}
use Rattle.liszt_lexer.proofs.FindingLemmas.{few_with_limit}
use Rattle.liszt_parser.proofs.NodeCountLemmas.{nodes_within}
use Rattle.liszt_tree.specs.Tree.{program_tree}
use Rattle.liszt_base.specs.Gives.{Gives}
use Rattle.phase_types.specs.Checked.{checked_program, item_count}
use Rattle.phase_types.proofs.CheckedLemmas.{only_fault, items_are_nodes}

-- The program of a text, from its tokens
pub program_read : (text : List ℕ) (lexed : LexedText) (result : Result Tree (Refused ProgramFault)) → lexed_text text ≡ Ok lexed
    → ParsesTo (lexemes text lexed.tokens) lexed.end result → ReadsProgram text result
program_read text lexed (Ok program) is parsed = let p = lexed_parts text lexed is in (lexed.tokens, p.0, parsed.0, parsed.1)
program_read text lexed (Err (Fault fault)) is parsed =
    let p = lexed_parts text lexed is in
    inr (lexed.tokens, p.0, subst (λ e. IsParseFault (lexemes text lexed.tokens) e (Some fault)) p.1 parsed)
program_read text lexed (Err OutOfMemory) is parsed = tt

-- A program that is read has at most as many items as tokens.
few_tokens : (text : List ℕ) (tokens : List Token) → tokens_of text ≡ Ok tokens → length tokens ≤ token_limit
few_tokens text tokens is =
    let le : 0 ≤ token_limit = omega arith in
    omega (arith, few_with_limit 0 (findings_after [] (pieces text)) tokens le is)

pub few_items : (text : List ℕ) (result : Result Tree (Refused ProgramFault)) → ReadsProgram text result
    → IfOk result (λ program. item_count (program_tree program) ≤ token_limit)
few_items text (Ok program) read =
    let tokens = few_tokens text read.0 read.1 in
    let nodes = nodes_within (lexemes text read.0) (program_tree program) read.2 in
    let long : length (lexemes text read.0) ≡ length read.0 = length-map read.0 (lexeme text) in
    omega (arith, tokens, nodes, items_are_nodes (program_tree program), long)
few_items text (Err refused) read = tt

-- From the bytes of an input to their result

err_is : {A : Type 0} (x y : Ended) → ◌≡◌ {A = Result A Ended} (Err x) (Err y) → x ≡ y
err_is x y e = cc

-- a refusal of the bytes alone is a refusal of every result
pub step_refused : {A B : Type 0} (files : Files) (input : Input) (name : List ℕ) (HasResult : List ℕ → Result A Ended → Type 0) (Itself : List ℕ → Result B Ended → Type 0)
    (before now : Tally) (ended : Ended) → ((bytes : List ℕ) (e : Ended) → Itself bytes (Err e) → ⊥)
    → StepGives (input_at files input name) Itself before now (Err ended) → StepGives (input_at files input name) HasResult before now (Err ended)
step_refused files input name HasResult Itself before now ended none (inl memory) = inl memory
step_refused files input name HasResult Itself before now ended none (inr (inl lost)) = inr (inl lost)
step_refused files input name HasResult Itself before now ended none (inr (inr h)) = inr (inr (h.0, h.1, go h.2))
  where
    go : Within input Itself h.0 (Err ended) → Within input HasResult h.0 (Err ended)
    go (inl long) = inl (long.0, ap (λ (e : Ended). Err e) (err_is ended (too_long input) long.1))
    go (inr w) = absurd (none h.0 ended w.1)

-- the value of bytes within the limit, and their fault
pub step_value : {A B : Type 0} (files : Files) (input : Input) (name : List ℕ) (HasResult : List ℕ → Result A Ended → Type 0) (Itself : List ℕ → Result B Ended → Type 0)
    (before now : Tally) (seen : B) (value : A) → StepGives (input_at files input name) Itself before now (Ok seen)
    → ((bytes : List ℕ) → Itself bytes (Ok seen) → HasResult bytes (Ok value)) → StepGives (input_at files input name) HasResult before now (Ok value)
step_value files input name HasResult Itself before now seen value h more = (h.0, h.1, go h.2, h.3)
  where
    go : Within input Itself h.0 (Ok seen) → Within input HasResult h.0 (Ok value)
    go (inl long) = let no : Ok seen ≡ Err (too_long input) = long.1 in cc
    go (inr w) = inr (w.0, more h.0 w.1)

pub step_fault : {A B : Type 0} (files : Files) (input : Input) (name : List ℕ) (HasResult : List ℕ → Result A Ended → Type 0) (Itself : List ℕ → Result B Ended → Type 0)
    (before now : Tally) (seen : B) (ended : Ended) → StepGives (input_at files input name) Itself before now (Ok seen)
    → ((bytes : List ℕ) → Itself bytes (Ok seen) → HasResult bytes (Err ended)) → StepGives (input_at files input name) HasResult before now (Err ended)
step_fault files input name HasResult Itself before now seen ended h more = inr (inr (h.0, h.1, go h.2))
  where
    go : Within input Itself h.0 (Ok seen) → Within input HasResult h.0 (Err ended)
    go (inl long) = let no : Ok seen ≡ Err (too_long input) = long.1 in cc
    go (inr w) = inr (w.0, more h.0 w.1)

-- a call on the bytes was refused
pub step_failed : {A B F : Type 0} (files : Files) (input : Input) (name : List ℕ) (HasResult : List ℕ → Result A Ended → Type 0) (Itself : List ℕ → Result B Ended → Type 0)
    (before now : Tally) (seen : B) (of_fault : F → Ended) (refused : Refused F) (result : Result A Ended) → result ≡ Err (ending_of of_fault refused)
    → StepGives (input_at files input name) Itself before now (Ok seen)
    → ((bytes : List ℕ) (fault : F) → refused ≡ Fault fault → Itself bytes (Ok seen) → HasResult bytes (Err (of_fault fault)))
    → StepGives (input_at files input name) HasResult before now result
step_failed {A} files input name HasResult Itself before now seen of_fault (Fault fault) result is h more =
    subst (λ (r : Result A Ended). StepGives (input_at files input name) HasResult before now r) (sym is)
    (step_fault files input name HasResult Itself before now seen (of_fault fault) h (λ bytes same. more bytes fault refl same))
step_failed {A} files input name HasResult Itself before now seen of_fault OutOfMemory result is h more =
    subst (λ (r : Result A Ended). StepGives (input_at files input name) HasResult before now r) (sym is) (inl refl)

-- From the steps to the command

-- an input is refused
input_refused : {A : Type 0} (files : Files) (input : Input) (name : List ℕ) (HasResult : List ℕ → Result A Ended → Type 0) (Continues : A → Outcome → Type 0) (before now : Tally) (ended : Ended)
    → StepGives (input_at files input name) HasResult before now (Err ended) → (ended ≡ NoMemory) ⊎ TakesIn (IsLost files before now) files input name HasResult Continues (refusal ended)
input_refused files input name HasResult Continues before now ended (inl memory) = inl memory
input_refused files input name HasResult Continues before now ended (inr (inl lost)) = inr (inl (lost.1, ap refusal lost.0))
input_refused files input name HasResult Continues before now ended (inr (inr h)) = inr (inr (h.0, Err ended, h.1, h.2, refl))

-- the input has a value, with which the command continues to the outcome
input_continues : {A : Type 0} (Lost : List ℕ → Type 0) (files : Files) (input : Input) (name : List ℕ) (HasResult : List ℕ → Result A Ended → Type 0) (Continues : A → Outcome → Type 0) (before now : Tally) (value : A) (outcome : Outcome)
    → StepGives (input_at files input name) HasResult before now (Ok value) → Continues value outcome → TakesIn Lost files input name HasResult Continues outcome
input_continues Lost files input name HasResult Continues before now value outcome h rest = inr (h.0, Ok value, h.1, h.2, rest)

refusal_continues : (Comes Comes' : Outcome → Type 0) (ended : Ended) → ((outcome : Outcome) → Comes outcome → Comes' outcome)
    → (ended ≡ NoMemory) ⊎ Comes (refusal ended) → (ended ≡ NoMemory) ⊎ Comes' (refusal ended)
refusal_continues Comes Comes' ended more (inl memory) = inl memory
refusal_continues Comes Comes' ended more (inr h) = inr (more (refusal ended) h)

named : (Lost : List ℕ → Type 0) (words : List (List ℕ)) (files : Files) (c : Invocation) (outcome : Outcome) → command_of words ≡ Some c → Performs Lost files c outcome → ResultsIn Lost words files outcome
named Lost words files c outcome is h =
    subst (λ (o : Option Invocation). MatchOption o (outcome ≡ refusal Usage) (λ d. Performs Lost files d outcome)) (sym is) h

pub no_command : (Lost : List ℕ → Type 0) (words : List (List ℕ)) (files : Files) → command_of words ≡ None → ResultsIn Lost words files (refusal Usage)
no_command Lost words files is =
    subst (λ (o : Option Invocation). MatchOption o (refusal Usage ≡ refusal Usage) (λ d. Performs Lost files d (refusal Usage))) (sym is) refl

pub program_refused : (words : List (List ℕ)) (files : Files) (c : Invocation) (before now : Tally) (ended : Ended) → command_of words ≡ Some c
    → StepGives (input_at files Program c.program) ProgramResult before now (Err ended) → Prepares words files before now (Err ended)
program_refused words files c before now ended is first =
    let Lost : List ℕ → Type 0 = IsLost files before now in
    refusal_continues (Performs Lost files c) (ResultsIn Lost words files) ended (λ outcome. named Lost words files c outcome is)
    (input_refused files Program c.program ProgramResult (TakesPoints Lost files c) before now ended first)

pub node_refused : (words : List (List ℕ)) (files : Files) (c : Invocation) (program : Main) (before t now : Tally) (ended : Ended) → command_of words ≡ Some c
    → StepGives (input_at files Program c.program) ProgramResult before t (Ok program) → StepGives (input_at files Node c.node) NodeResult t now (Err ended) → Prepares words files before now (Err ended)
node_refused words files c program before t now ended is first second =
    let Lost : List ℕ → Type 0 = IsLost files before now in
    let second' = subst (λ (s : Tally). StepGives (input_at files Node c.node) NodeResult s now (Err ended)) first.3 second in
    refusal_continues (TakesPoints Lost files c program) (ResultsIn Lost words files) ended
    (λ outcome h. named Lost words files c outcome is (input_continues Lost files Program c.program ProgramResult (TakesPoints Lost files c) before t program outcome first h))
    (input_refused files Node c.node NodeResult (TakesCells Lost files c program) before now ended second')

pub ele_refused : (words : List (List ℕ)) (files : Files) (c : Invocation) (program : Main) (table : PointTable) (before t u now : Tally) (ended : Ended) → command_of words ≡ Some c
    → StepGives (input_at files Program c.program) ProgramResult before t (Ok program) → StepGives (input_at files Node c.node) NodeResult t u (Ok table)
    → StepGives (input_at files Ele c.ele) (EleResult table) u now (Err ended) → Prepares words files before now (Err ended)
ele_refused words files c program table before t u now ended is first second third =
    let Lost : List ℕ → Type 0 = IsLost files before now in
    let third' = subst (λ (s : Tally). StepGives (input_at files Ele c.ele) (EleResult table) s now (Err ended)) (second.3 ∙ first.3) third in
    refusal_continues (TakesCells Lost files c program table) (ResultsIn Lost words files) ended
    (λ outcome h. named Lost words files c outcome is
    (input_continues Lost files Program c.program ProgramResult (TakesPoints Lost files c) before t program outcome first
    (input_continues Lost files Node c.node NodeResult (TakesCells Lost files c program) t u table outcome second h)))
    (input_refused files Ele c.ele (EleResult table) (Finishes c.mode program) before now ended third')

-- the lines of a job are the text of its program on its mesh
-- the outcome of a typed program is that of the mode
typed_finishes : (mode : Mode) (tree : Main) (mesh : MeshLists) (outcome : Outcome) → check_fault tree ≡ None → WorksOn mode tree mesh outcome → Finishes mode tree mesh outcome
typed_finishes mode tree mesh outcome none works =
    subst (λ fault. MatchOption fault (WorksOn mode tree mesh outcome) (λ f. outcome ≡ refusal (program_ending f))) (sym none) works

-- the outcome of a job, or of the refusal to make one
job_finishes : (mode : Mode) (tree : Main) (mesh : MeshLists) (job : Job) → MakesJob mode tree mesh (Ok job) → Finishes mode tree mesh (job_outcome job)
job_finishes mode tree mesh job made = typed_finishes mode tree mesh (job_outcome job) made.1 made.0

refusal_finishes : (Comes : Outcome → Type 0) (mode : Mode) (tree : Main) (mesh : MeshLists) (ended : Ended) → ((outcome : Outcome) → Finishes mode tree mesh outcome → Comes outcome)
    → MakesJob mode tree mesh (Err ended) → (ended ≡ NoMemory) ⊎ Comes (refusal ended)
refusal_finishes Comes mode tree mesh ended comes (inl memory) = inl memory
refusal_finishes Comes mode tree mesh ended comes (inr (inl faulty)) =
    inr (comes (refusal ended)
    (subst (λ fault. MatchOption fault (WorksOn mode tree mesh (refusal ended)) (λ f. refusal ended ≡ refusal (program_ending f))) (sym faulty.1) (ap refusal faulty.2)))
refusal_finishes Comes mode tree mesh ended comes (inr (inr limit)) =
    inr (subst (λ (e : Ended). Comes (refusal e)) (sym limit.1) (comes (refusal (Limit limit.0)) (typed_finishes mode tree mesh (refusal (Limit limit.0)) limit.3 limit.2)))

pub all_inputs : (words : List (List ℕ)) (files : Files) (c : Invocation) (program : Main) (table : PointTable) (mesh : MeshLists) (made : Result Job Ended) (before t u now : Tally) → command_of words ≡ Some c
    → StepGives (input_at files Program c.program) ProgramResult before t (Ok program) → StepGives (input_at files Node c.node) NodeResult t u (Ok table)
    → StepGives (input_at files Ele c.ele) (EleResult table) u now (Ok mesh) → MakesJob c.mode program mesh made → Prepares words files before now made
all_inputs words files c program table mesh made before t u now is first second third makes = go made makes
  where
    comes : (outcome : Outcome) → Finishes c.mode program mesh outcome → ResultsIn (IsLost files before now) words files outcome
    comes outcome finishes =
        let Lost : List ℕ → Type 0 = IsLost files before now in
        named Lost words files c outcome is
        (input_continues Lost files Program c.program ProgramResult (TakesPoints Lost files c) before t program outcome first
        (input_continues Lost files Node c.node NodeResult (TakesCells Lost files c program) t u table outcome second
        (input_continues Lost files Ele c.ele (EleResult table) (Finishes c.mode program) u now mesh outcome third finishes)))

    go : (made : Result Job Ended) → MakesJob c.mode program mesh made → Prepares words files before now made
    go (Ok job) makes = comes (job_outcome job) (job_finishes c.mode program mesh job makes)
    go (Err ended) makes = refusal_finishes (ResultsIn (IsLost files before now) words files) c.mode program mesh ended comes makes

-- a program that was refused has the fault of its walk
pub job_refused : (mode : Mode) (tree : Main) (mesh : MeshLists) (made : Result Job Ended) (refused : Refused ProgramFault)
    → Gives (checked_program tree) (Err refused) → made ≡ Err (ending_of program_ending refused) → MakesJob mode tree mesh made
job_refused mode tree mesh made (Fault fault) is same =
    subst (MakesJob mode tree mesh) (sym same) (inr (inl (fault, only_fault tree fault is, refl)))
job_refused mode tree mesh made OutOfMemory is same = subst (MakesJob mode tree mesh) (sym same) (inl refl)

-- the jobs of the modes, and the refusal of `seq`
pub check_made : (mode : Mode) (tree : Main) (mesh : MeshLists) (checked : CheckedProgram) (job : CheckJob) → mode ≡ Check → check_fault tree ≡ None → checked_program tree ≡ Ok checked
    → check_job_text job ≡ check_text (canonical tree) checked (count mesh) → MakesJob mode tree mesh (Ok (jobs.Check job))
check_made mode tree mesh checked job is none typed text =
    subst (λ (m : Mode). MakesJob m tree mesh (Ok (jobs.Check job))) (sym is) ((checked, typed, ap done_with text), none)

pub mode_made : (mode known : Mode) (tree : Main) (mesh : MeshLists) (job : Job) → mode ≡ known → check_fault tree ≡ None
    → WorksOn known tree mesh (job_outcome job) → MakesJob mode tree mesh (Ok job)
mode_made mode known tree mesh job is none works = subst (λ (m : Mode). MakesJob m tree mesh (Ok job)) (sym is) (works, none)

pub mode_refused : {J : Type 0} (outcome_of : J → Outcome) (mode known : Mode) (tree : Main) (mesh : MeshLists) (made : Result Job Ended) (ended : Ended) → mode ≡ known → check_fault tree ≡ None
    → MakesJobOf outcome_of (WorksOn known tree mesh) (Err ended) → made ≡ Err ended → MakesJob mode tree mesh made
mode_refused outcome_of mode known tree mesh made ended is none refused same =
    subst (λ (m : Mode). MakesJob m tree mesh made) (sym is) (subst (MakesJob known tree mesh) (sym same) (go refused))
  where
    go : MakesJobOf outcome_of (WorksOn known tree mesh) (Err ended) → MakesJob known tree mesh (Err ended)
    go (inl memory) = inl memory
    go (inr limit) = inr (inr (limit.0, limit.1, limit.2, none))

-- the ending of a program's fault is neither Usage nor a fault of the shelf
program_cause : (shelf shelf' : ℕ) (fault : ProgramFault) → shelf' ≡ shelf → HasStepCause {A = Job} shelf shelf' (Err (program_ending fault))
program_cause shelf shelf' fault same = go fault.what where
  go : (what : ProgramWhat) → HasStepCause {A = Job} shelf shelf' (Err (program_ending (record { what = what; place = fault.place; first = fault.first })))
  go BadByte = same
  go LongNumber = same
  go LongName = same
  go Big = same
  go Syntax = same
  go Deep = same
  go NameUnknown = same
  go NameTwice = same
  go TypeMismatch = same
  go PhaseConflict = same
  go ScalarWrite = same
  go BuiltinWrite = same

program_no_usage : (fault : ProgramFault) → program_ending fault ≡ Usage → ⊥
program_no_usage fault = go fault.what where
  go : (what : ProgramWhat) → program_ending (record { what = what; place = fault.place; first = fault.first }) ≡ Usage → ⊥
  go BadByte is = absurd cc
  go LongNumber is = absurd cc
  go LongName is = absurd cc
  go Big is = absurd cc
  go Syntax is = absurd cc
  go Deep is = absurd cc
  go NameUnknown is = absurd cc
  go NameTwice is = absurd cc
  go TypeMismatch is = absurd cc
  go PhaseConflict is = absurd cc
  go ScalarWrite is = absurd cc
  go BuiltinWrite is = absurd cc

-- the other clauses of a job
pub job_cause : (shelf shelf' : ℕ) (mode : Mode) (tree : Main) (mesh : MeshLists) (made : Result Job Ended) → MakesJob mode tree mesh made → shelf' ≡ shelf
    → HasStepCause shelf shelf' made
job_cause shelf shelf' mode tree mesh (Ok job) makes same = same
job_cause shelf shelf' mode tree mesh (Err ended) (inl memory) same = subst (λ (e : Ended). HasStepCause {A = Job} shelf shelf' (Err e)) (sym memory) same
job_cause shelf shelf' mode tree mesh (Err ended) (inr (inl faulty)) same = subst (λ (e : Ended). HasStepCause {A = Job} shelf shelf' (Err e)) (sym faulty.2) (program_cause shelf shelf' faulty.0 same)
job_cause shelf shelf' mode tree mesh (Err ended) (inr (inr limit)) same = subst (λ (e : Ended). HasStepCause {A = Job} shelf shelf' (Err e)) (sym limit.1) same

pub job_no_usage : (mode : Mode) (tree : Main) (mesh : MeshLists) (made : Result Job Ended) → MakesJob mode tree mesh made → made ≡ Err Usage → ⊥
job_no_usage mode tree mesh (Ok job) makes is = absurd cc
job_no_usage mode tree mesh (Err ended) (inl memory) is = absurd cc
job_no_usage mode tree mesh (Err ended) (inr (inl faulty)) is = let same : program_ending faulty.0 ≡ Usage = sym faulty.2 ∙ err_is ended Usage is in program_no_usage faulty.0 same
job_no_usage mode tree mesh (Err ended) (inr (inr limit)) is = let l = limit.1 in absurd cc

-- a job has an outcome of the command that the words name
pub made_job : (words : List (List ℕ)) (c : Invocation) (tree : Main) (mesh : MeshLists) (made : Result Job Ended) → command_of words ≡ Some c → MakesJob c.mode tree mesh made
    → IfOk made (λ job. MatchOption (command_of words) ⊥ (λ d. IsRunOutcome d.mode (job_outcome job).ended (job_outcome job).text))
made_job words c tree mesh (Ok job) is makes =
    let own : IsRunOutcome c.mode (job_outcome job).ended (job_outcome job).text = (tree, mesh, job_finishes c.mode tree mesh job makes) in
    subst (λ (o : Option Invocation). MatchOption o ⊥ (λ d. IsRunOutcome d.mode (job_outcome job).ended (job_outcome job).text)) (sym is) own
made_job words c tree mesh (Err ended) is makes = tt

-- a failed file is a lost one
pub lost_at : (files : Files) (name : List ℕ) (before now : Tally) → FailsAt files name before now → IsLost files before now name
lost_at files name before now (inl stray) = inl stray.0
lost_at files name before now (inr other) = inr (other.1.others, other.1.last)

-- a refusal that is not Usage
pub no_usage : {A B : Type 0} (ended : Ended) (result : Result A Ended) → result ≡ Err ended → (◌≡◌ {A = Result B Ended} (Err ended) (Err Usage) → ⊥) → result ≡ Err Usage → ⊥
no_usage ended result is other usage = let same : ended ≡ Usage = cc in other (ap Err same)

-- From what is known before anything is written to the answer

-- the ending of a job is Done or a trap
abbrev IsEndOfRun : Ended → Type 0
IsEndOfRun ended = (ended ≡ Done) ⊎ ((trap : RunTrap) × (ended ≡ Trap trap))

by_end : (P : Ended → Type 0) → P Done → ((trap : RunTrap) → P (Trap trap)) → (ended : Ended) → IsEndOfRun ended → P ended
by_end P done in_trap ended (inl is) = subst P (sym is) done
by_end P done in_trap ended (inr is) = subst P (sym is.1) (in_trap is.0)

end_of_run : (end : RunEnd) (prints : List ℤ) (fields : List ℕ) → IsEndOfRun (outcome_of_run end prints fields).ended
end_of_run IsDone prints fields = inl refl
end_of_run (IsTrap trap) prints fields = inr (trap, refl)

end_of_job : (job : Job) → IsEndOfRun (job_outcome job).ended
end_of_job (jobs.Check check) = inl refl
end_of_job (jobs.Stencil stencil) = inl refl
end_of_job (jobs.Seq seq) = end_of_run seq.end _ _

-- the answer of the outcome of a run
outcome_answers : (words : List (List ℕ)) (files : Files) (before now : Tally) (shelf shelf' : ℕ) (old new : Option (List ℕ)) (known : Ended) (text : List ℕ) (written : Result Ended Unwritten) (ended : Ended)
    → IsEndOfRun known → ResultsIn (IsLost files before now) words files (record { ended = known; text = text }) → shelf' ≡ shelf → WritesOutcome (record { ended = known; text = text }) old new written
    → MatchResult written (λ e. ended ≡ e) (λ _. ended ≡ WriteFault) → Answers words files (outside before shelf old) (outside now shelf' new) ended
outcome_answers words files before now shelf shelf' old new known text (Ok e) ended ends comes same wrote is =
    subst (Answers words files (outside before shelf old) (outside now shelf' new)) (sym (is ∙ wrote.0))
    (by_end (λ (known : Ended). ResultsIn (IsLost files before now) words files (record { ended = known; text = text }) → Answers words files (outside before shelf old) (outside now shelf' new) known)
    (λ comes. (text, comes, wrote.1)) (λ trap comes. (text, comes, wrote.1)) known ends comes)
outcome_answers words files before now shelf shelf' old new known text (Err _) ended ends comes same prefix is =
    subst (Answers words files (outside before shelf old) (outside now shelf' new)) (sym is) (record { ended = known; text = text }, inl comes, prefix, by_end (HasShelfCause shelf shelf') same (λ trap. same) known ends)

pub job_answers : (words : List (List ℕ)) (files : Files) (before now : Tally) (shelf shelf' : ℕ) (old new : Option (List ℕ)) (job : Job) (written : Result Ended Unwritten) (ended : Ended)
    → Prepares words files before now (Ok job) → shelf' ≡ shelf → WritesOutcome (job_outcome job) old new written → MatchResult written (λ e. ended ≡ e) (λ _. ended ≡ WriteFault)
    → Answers words files (outside before shelf old) (outside now shelf' new) ended
job_answers words files before now shelf shelf' old new job written ended comes same writes is =
    outcome_answers words files before now shelf shelf' old new (job_outcome job).ended (job_outcome job).text written ended (end_of_job job) comes same writes is

-- its causes; and it is not Usage
end_causes : (shelf shelf' sink sink' : ℕ) (known : Ended) → IsEndOfRun known → shelf' ≡ shelf → sink' ≡ sink → HasCauses shelf shelf' sink sink' known
end_causes shelf shelf' sink sink' known ends first second = by_end (HasCauses shelf shelf' sink sink') (first, second) (λ trap. (first, second)) known ends

pub job_causes : (shelf shelf' sink sink' : ℕ) (old new : Option (List ℕ)) (job : Job) (written : Result Ended Unwritten) (ended : Ended) → shelf' ≡ shelf → HasCause sink sink' written
    → WritesOutcome (job_outcome job) old new written → MatchResult written (λ e. ended ≡ e) (λ _. ended ≡ WriteFault) → HasCauses shelf shelf' sink sink' ended
job_causes shelf shelf' sink sink' old new job (Ok e) ended first second wrote is =
    subst (HasCauses shelf shelf' sink sink') (sym (is ∙ wrote.0)) (end_causes shelf shelf' sink sink' (job_outcome job).ended (end_of_job job) first second.kept)
job_causes shelf shelf' sink sink' old new job (Err _) ended first second wrote is =
    subst (HasCauses shelf shelf' sink sink') (sym is) (omega (arith, first), second.failed)

end_no_usage : (known : Ended) → IsEndOfRun known → known ≡ Usage → ⊥
end_no_usage known (inl done) is = let same : Done ≡ Usage = sym done ∙ is in absurd cc
end_no_usage known (inr trap) is = let same : Trap trap.0 ≡ Usage = sym trap.1 ∙ is in absurd cc

pub job_end_no_usage : (old new : Option (List ℕ)) (job : Job) (written : Result Ended Unwritten) (ended : Ended) → WritesOutcome (job_outcome job) old new written
    → MatchResult written (λ e. ended ≡ e) (λ _. ended ≡ WriteFault) → ended ≡ Usage → ⊥
job_end_no_usage old new job (Ok e) ended wrote is usage = end_no_usage (job_outcome job).ended (end_of_job job) (sym (is ∙ wrote.0) ∙ usage)
job_end_no_usage old new job (Err _) ended wrote is usage = let same : WriteFault ≡ Usage = sym is ∙ usage in absurd cc

-- a refusal whose line was written is the answer
refused : (words : List (List ℕ)) (files : Files) (before now : Tally) (shelf shelf' : ℕ) (old new : Option (List ℕ)) (ended : Ended)
    → (ended ≡ NoMemory) ⊎ ResultsIn (IsLost files before now) words files (refusal ended) → HasStepCause {A = Job} shelf shelf' (Err ended)
    → new ≡ append_known old (ending_text ended) → Answers words files (outside before shelf old) (outside now shelf' new) ended
refused words files before now shelf shelf' old new NoMemory comes can output = output
refused words files before now shelf shelf' old new Done comes can output = absurd can
refused words files before now shelf shelf' old new WriteFault comes can output = absurd can
refused words files before now shelf shelf' old new Usage (inl memory) can output = cc
refused words files before now shelf shelf' old new Usage (inr comes) can output = (ending_text Usage, comes, output)
refused words files before now shelf shelf' old new (OfProgram fault) (inl memory) can output = cc
refused words files before now shelf shelf' old new (Mesh fault) (inl memory) can output = cc
refused words files before now shelf shelf' old new (OfProgram fault) (inr comes) can output = (ending_text (OfProgram fault), comes, output)
refused words files before now shelf shelf' old new (Mesh fault) (inr comes) can output = (ending_text (Mesh fault), comes, output)
refused words files before now shelf shelf' old new (Limit fault) (inl memory) can output = cc
refused words files before now shelf shelf' old new (Trap trap) comes can output = absurd can
refused words files before now shelf shelf' old new (Limit fault) (inr comes) can output = (ending_text (Limit fault), comes, output)
refused words files before now shelf shelf' old new (ReadFault x) (inl memory) can output = cc
refused words files before now shelf shelf' old new (ReadFault x) (inr comes) can output = (ending_text (ReadFault x), comes, output)

-- the count after a refusal
shelf_cause : (shelf shelf' : ℕ) (ended : Ended) → HasStepCause {A = Job} shelf shelf' (Err ended) → HasShelfCause shelf shelf' ended
shelf_cause shelf shelf' (ReadFault x) h = h
shelf_cause shelf shelf' Done h = absurd h
shelf_cause shelf shelf' WriteFault h = absurd h
shelf_cause shelf shelf' Usage h = h
shelf_cause shelf shelf' (OfProgram fault) h = h
shelf_cause shelf shelf' (Mesh fault) h = h
shelf_cause shelf shelf' (Limit fault) h = h
shelf_cause shelf shelf' (Trap trap) h = absurd h
shelf_cause shelf shelf' NoMemory h = h

-- and one whose line was not is what was being written
unwritten : (words : List (List ℕ)) (files : Files) (before now : Tally) (shelf shelf' : ℕ) (old new : Option (List ℕ)) (ended : Ended)
    → (ended ≡ NoMemory) ⊎ ResultsIn (IsLost files before now) words files (refusal ended) → HasStepCause {A = Job} shelf shelf' (Err ended)
    → TakesPrefix old new (ending_text ended) → Answers words files (outside before shelf old) (outside now shelf' new) WriteFault
unwritten words files before now shelf shelf' old new ended (inl memory) cause prefix =
    (refusal ended, inr (ap refusal memory), prefix, shelf_cause shelf shelf' ended cause)
unwritten words files before now shelf shelf' old new ended (inr comes) cause prefix =
    (refusal ended, inl comes, prefix, shelf_cause shelf shelf' ended cause)

pub refusal_answers : (words : List (List ℕ)) (files : Files) (before now : Tally) (shelf shelf' : ℕ) (old new : Option (List ℕ)) (known : Ended) (written : Result Unit Unwritten) (ended : Ended)
    → Prepares words files before now (Err known) → HasStepCause {A = Job} shelf shelf' (Err known) → Writes (ending_text known) old new written
    → MatchResult written (λ _. ended ≡ known) (λ _. ended ≡ WriteFault) → Answers words files (outside before shelf old) (outside now shelf' new) ended
refusal_answers words files before now shelf shelf' old new known (Ok _) ended comes cause output is =
    subst (Answers words files (outside before shelf old) (outside now shelf' new)) (sym is) (refused words files before now shelf shelf' old new known comes cause output)
refusal_answers words files before now shelf shelf' old new known (Err _) ended comes cause prefix is =
    subst (Answers words files (outside before shelf old) (outside now shelf' new)) (sym is) (unwritten words files before now shelf shelf' old new known comes cause prefix)

-- What was written, over whatever shelf

text_of_job : (o : Option Invocation) (ended : Ended) (text : List ℕ) → MatchOption o ⊥ (λ c. IsRunOutcome c.mode ended text)
    → MatchOption o (text ≡ ending_text Usage) (λ c. ((e : Ended) × (text ≡ ending_text e)) ⊎ ((e : Ended) × IsRunOutcome c.mode e text))
text_of_job None ended text is = absurd is
text_of_job (Some c) ended text is = inr (ended, is)

text_of_refusal : (o : Option Invocation) (ended : Ended) → (o ≡ None → ended ≡ Usage)
    → MatchOption o (ending_text ended ≡ ending_text Usage) (λ c. ((e : Ended) × (ending_text ended ≡ ending_text e)) ⊎ ((e : Ended) × IsRunOutcome c.mode e (ending_text ended)))
text_of_refusal None ended usage = ap ending_text (usage refl)
text_of_refusal (Some c) ended usage = inl (ended, refl)

wrote_run : (words : List (List ℕ)) (old new : Option (List ℕ)) (known : Ended) (text : List ℕ) (written : Result Ended Unwritten) (ended : Ended) → IsEndOfRun known
    → MatchOption (command_of words) ⊥ (λ c. IsRunOutcome c.mode known text) → WritesOutcome (record { ended = known; text = text }) old new written
    → MatchResult written (λ e. ended ≡ e) (λ _. ended ≡ WriteFault) → Wrote words old new ended
wrote_run words old new known text (Ok e) ended run is wrote ends = subst (Wrote words old new) (sym (ends ∙ wrote.0))
    (by_end (λ (known : Ended). MatchOption (command_of words) ⊥ (λ c. IsRunOutcome c.mode known text) → Wrote words old new known)
    (λ is. (text, is, wrote.1)) (λ trap is. (text, is, wrote.1)) known run is)
wrote_run words old new known text (Err _) ended run is prefix ends = subst (Wrote words old new) (sym ends) (text, text_of_job (command_of words) known text is, prefix)

pub wrote_job : (words : List (List ℕ)) (old new : Option (List ℕ)) (job : Job) (written : Result Ended Unwritten) (ended : Ended)
    → MatchOption (command_of words) ⊥ (λ c. IsRunOutcome c.mode (job_outcome job).ended (job_outcome job).text) → WritesOutcome (job_outcome job) old new written
    → MatchResult written (λ e. ended ≡ e) (λ _. ended ≡ WriteFault) → Wrote words old new ended
wrote_job words old new job written ended is writes ends = wrote_run words old new (job_outcome job).ended (job_outcome job).text written ended (end_of_job job) is writes ends

wrote_line : (words : List (List ℕ)) (shelf shelf' : ℕ) (old new : Option (List ℕ)) (known : Ended) → HasStepCause {A = Job} shelf shelf' (Err known) → new ≡ append_known old (ending_text known) → Wrote words old new known
wrote_line words shelf shelf' old new (ReadFault x) can output = output
wrote_line words shelf shelf' old new (OfProgram fault) can output = output
wrote_line words shelf shelf' old new (Mesh fault) can output = output
wrote_line words shelf shelf' old new (Limit fault) can output = output
wrote_line words shelf shelf' old new (Trap trap) can output = absurd can
wrote_line words shelf shelf' old new Usage can output = output
wrote_line words shelf shelf' old new NoMemory can output = output
wrote_line words shelf shelf' old new Done can output = absurd can
wrote_line words shelf shelf' old new WriteFault can output = absurd can

pub wrote_refusal : (words : List (List ℕ)) (shelf shelf' : ℕ) (old new : Option (List ℕ)) (known : Ended) (written : Result Unit Unwritten) (ended : Ended)
    → (command_of words ≡ None → known ≡ Usage) → HasStepCause {A = Job} shelf shelf' (Err known) → Writes (ending_text known) old new written
    → MatchResult written (λ _. ended ≡ known) (λ _. ended ≡ WriteFault) → Wrote words old new ended
wrote_refusal words shelf shelf' old new known (Ok _) ended usage can output ends = subst (Wrote words old new) (sym ends) (wrote_line words shelf shelf' old new known can output)
wrote_refusal words shelf shelf' old new known (Err _) ended usage can prefix ends =
    subst (Wrote words old new) (sym ends) (ending_text known, text_of_refusal (command_of words) known usage, prefix)

written_cause : (shelf shelf' sink sink' : ℕ) (refusal : Ended) → HasStepCause {A = Job} shelf shelf' (Err refusal) → sink' ≡ sink → HasCauses shelf shelf' sink sink' refusal
written_cause shelf shelf' sink sink' (ReadFault x) first second = (first, second)
written_cause shelf shelf' sink sink' (OfProgram fault) first second = (first, second)
written_cause shelf shelf' sink sink' (Mesh fault) first second = (first, second)
written_cause shelf shelf' sink sink' (Limit fault) first second = (first, second)
written_cause shelf shelf' sink sink' (Trap trap) first second = absurd first
written_cause shelf shelf' sink sink' Usage first second = (first, second)
written_cause shelf shelf' sink sink' NoMemory first second = (first, second)
written_cause shelf shelf' sink sink' Done first second = absurd first
written_cause shelf shelf' sink sink' WriteFault first second = absurd first

not_fallen : (shelf shelf' : ℕ) (refusal : Ended) → HasStepCause {A = Job} shelf shelf' (Err refusal) → shelf ≤ shelf'
not_fallen shelf shelf' (ReadFault x) first = first.0
not_fallen shelf shelf' (OfProgram fault) first = omega (arith, first)
not_fallen shelf shelf' (Mesh fault) first = omega (arith, first)
not_fallen shelf shelf' (Limit fault) first = omega (arith, first)
not_fallen shelf shelf' (Trap trap) first = absurd first
not_fallen shelf shelf' Usage first = omega (arith, first)
not_fallen shelf shelf' NoMemory first = omega (arith, first)
not_fallen shelf shelf' Done first = absurd first
not_fallen shelf shelf' WriteFault first = absurd first

pub causes_of : (shelf shelf' sink sink' : ℕ) (refusal : Ended) (written : Result Unit Unwritten) (ended : Ended)
    → HasStepCause {A = Job} shelf shelf' (Err refusal) → HasCause sink sink' written → MatchResult written (λ _. ended ≡ refusal) (λ _. ended ≡ WriteFault)
    → HasCauses shelf shelf' sink sink' ended
causes_of shelf shelf' sink sink' first_ended (Ok _) ended first second is =
    subst (HasCauses shelf shelf' sink sink') (sym is) (written_cause shelf shelf' sink sink' first_ended first second.kept)
causes_of shelf shelf' sink sink' first_ended (Err _) ended first second is =
    subst (HasCauses shelf shelf' sink sink') (sym is) (not_fallen shelf shelf' first_ended first, second.failed)

-- What the parser's functions answer of whole programs. Private functions' contracts cite it.
use Rattle.std.specs.Prelude.{ℕ, ⊤, Some, List, Result, Ok, Err}
use Rattle.liszt_base.specs.declared.answers.Place.{Place}
use Rattle.liszt_base.specs.declared.answers.ProgramFault.{ProgramFault}
use Rattle.liszt_base.specs.declared.answers.Refused.{Refused}
use Rattle.liszt_base.specs.declared.answers.Refused.TheVariants.{Fault, NoMemory as OutOfMemory}
use Rattle.liszt_tree.specs.Tree.{program_tree}
use Rattle.liszt_tree.specs.declared.tree.Program.{Program}
use Rattle.liszt_parser.specs.Grammar.{Lexeme, Derives}
use Rattle.liszt_parser.specs.ParseFault.{IsSyntaxAt, IsParseFault}

-- The tree that the tokens are, at any depth, or the index of the first token that continues no program.
abbrev pub IsParsed : List Lexeme → Result Program (Refused ℕ) → Type 0
IsParsed ts (Ok program) = Derives ts (program_tree program)
IsParsed ts (Err (Fault place)) = IsSyntaxAt ts place
IsParsed ts (Err OutOfMemory) = ⊤

-- The refusal is the fault of the tokens, or out of memory.
abbrev pub RefusesBy : List Lexeme → Place → Refused ProgramFault → Type 0
RefusesBy ts ending (Fault fault) = IsParseFault ts ending (Some fault)
RefusesBy ts ending OutOfMemory = ⊤

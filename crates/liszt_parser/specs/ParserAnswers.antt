-- What the parser answers. This project's own.
use Rattle.std.specs.Prelude.{⊤, Some, List, length, Result, Ok, Err}
use Rattle.liszt_base.specs.declared.answers.Place.{Place}
use Rattle.liszt_base.specs.declared.answers.ProgramFault.{ProgramFault}
use Rattle.liszt_base.specs.declared.answers.Refused.{Refused}
use Rattle.liszt_base.specs.declared.answers.Refused.TheVariants.{Fault, NoMemory as OutOfMemory}
use Rattle.liszt_tree.specs.Tree.{program_tree}
use Rattle.liszt_tree.specs.declared.tree.Program.{Program}
use Rattle.liszt_parser.specs.Grammar.{Lexeme, Derives}
use Rattle.liszt_parser.specs.ParseFault.{IsShallow, IsParseFault}

-- The tree that the tokens are, which is nowhere too deep, or their fault. Out of memory is always allowed.
abbrev pub ParsesTo : List Lexeme → Place → Result Program (Refused ProgramFault) → Type 0
ParsesTo ts ending (Ok program) = Derives ts (program_tree program) × IsShallow ts (length ts)
ParsesTo ts ending (Err (Fault fault)) = IsParseFault ts ending (Some fault)
ParsesTo ts ending (Err OutOfMemory) = ⊤

-- The fault of tokens that are no program, or a program that is too deep. This project's own profile, after Liszt.
use Rattle.std.specs.Prelude.{◌≡◌, ℕ, ◌+◌, ◌<◌, ◌≤◌, ◌⊎◌, Option, Some, None, List, ◌++◌, length, take, slice_index_or, map}
use Rattle.liszt_base.specs.declared.answers.Place.{Place}
use Rattle.liszt_base.specs.declared.answers.ProgramFault.{ProgramFault}
use Rattle.liszt_base.specs.declared.answers.ProgramWhat.{ProgramWhat}
use Rattle.liszt_base.specs.declared.answers.ProgramWhat.TheVariants.{Syntax, Deep}
use Rattle.liszt_base.specs.Limits.{depth_limit}
use Rattle.liszt_tree.specs.Tree.{Main}
use Rattle.liszt_parser.specs.Depth.{depth}
use Rattle.liszt_parser.specs.Grammar.{Lexeme, Derives}

-- Some program starts with these tokens; the tokens are a program.
abbrev pub IsProgramPrefix : List Lexeme → Type 0
IsProgramPrefix front = (rest : List Lexeme) × (tree : Main) × Derives (front ++ rest) tree

abbrev pub IsProgram : List Lexeme → Type 0
IsProgram ts = (tree : Main) × Derives ts tree

-- Syntax is at the first token that continues no program: some program starts with the tokens before it, and none starts with
-- it in addition. The end counts as a token, after the last one.
pub record IsSyntaxAt (ts : List Lexeme) (place : ℕ) : Type 0 where
  pub within : place ≤ length ts
  pub before : IsProgramPrefix (take place ts)
  pub token : place < length ts → IsProgramPrefix (take (place + 1) ts) → ⊥
  pub «end» : place ≡ length ts → IsProgram ts → ⊥

-- No token before this index is deeper than the limit.
abbrev pub IsShallow : List Lexeme → ℕ → Type 0
IsShallow ts up_to = (place : ℕ) → place < up_to → place < length ts → depth (take (place + 1) ts) ≤ depth_limit

-- Deep is at the first token whose depth is above the limit, where some program starts with the tokens up to it. Otherwise the
-- fault is Syntax.
pub record IsDeepAt (ts : List Lexeme) (place : ℕ) : Type 0 where
  pub within : place < length ts
  pub deep : depth_limit < depth (take (place + 1) ts)
  pub shallow : IsShallow ts place
  pub begins : IsProgramPrefix (take (place + 1) ts)

-- The place of a token, or of the end.
abbrev pub place_of : List Lexeme → Place → ℕ → Place
place_of ts ending place = slice_index_or (map (λ t. t.place) ts) place ending

abbrev pub fault_at : ProgramWhat → Place → ProgramFault
fault_at what place = record { what = what; place = place; first = None }

-- The fault of the tokens: Syntax or Deep, at the earlier token; or none.
abbrev pub IsParseFault : List Lexeme → Place → Option ProgramFault → Type 0
IsParseFault ts ending None = IsProgram ts × IsShallow ts (length ts)
IsParseFault ts ending (Some fault) =
    (place : ℕ) × ((IsSyntaxAt ts place × IsShallow ts place × (fault ≡ fault_at Syntax (place_of ts ending place)))
    ⊎ (IsDeepAt ts place × (fault ≡ fault_at Deep (place_of ts ending place))))

-- The limits of what is read, compiled and run. This project's own.
use Rattle.std.specs.Prelude.{ℕ}

-- bytes of one input file
abbrev pub file_limit : ℕ
file_limit = 67108864

-- points and cells of a mesh
abbrev pub point_limit : ℕ
point_limit = 200000

abbrev pub cell_limit : ℕ
cell_limit = 1000000

-- tokens of a program
abbrev pub token_limit : ℕ
token_limit = 131072

-- brackets and prefix operators of a program that are open at once
abbrev pub depth_limit : ℕ
depth_limit = 64

-- bytes of a name
abbrev pub name_limit : ℕ
name_limit = 64

-- turns of `while` bodies that `--turns` allows at most, and those without it
abbrev pub turn_limit : ℕ
turn_limit = 1000000000

abbrev pub default_turns : ℕ
default_turns = 1000000

-- ranks of a run
abbrev pub rank_limit : ℕ
rank_limit = 16

-- `print` statements of a run
abbrev pub print_limit : ℕ
print_limit = 65536

-- words of all declared fields together
abbrev pub word_limit : ℕ
word_limit = 16777216

-- visits that the inference of one comprehension takes, 2 to the 28th
abbrev pub visit_limit : ℕ
visit_limit = 268435456

-- entries of one comprehension's stencils
abbrev pub entry_limit : ℕ
entry_limit = 16777216

-- numbers that all comprehensions together keep, 2 to the 27th
abbrev pub kept_limit : ℕ
kept_limit = 134217728

-- What a parser still has to do: the tokens left, and at a token the productions that begin there, the outermost first.
use Rattle.std.proofs.Common.{ℕ, ◌+◌, ◌-◌, ◌*◌}
use Rattle.liszt_tree.specs.declared.tree.Level.{Level}
use Rattle.liszt_tree.specs.declared.tree.Level.TheVariants.{Or, And, Sum, Product}

abbrev pub work : ℕ → ℕ → ℕ → ℕ
work all at rank = (all - at) * 16 + rank

abbrev pub operand_work : Level → ℕ
operand_work Or = 12
operand_work And = 10
operand_work Sum = 7
operand_work Product = 5

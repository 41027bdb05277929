-- The reserved words and the symbols of the language, each identified by its index in its
-- list. This project's own profile, after Liszt (DeVito et al., Supercomputing 2011).
use Rattle.std.specs.Prelude.{ℕ, List, [], ◌∷◌, codes}

abbrev pub reserved_words : List (List ℕ)
reserved_words =
    codes "field" ∷ codes "var" ∷ codes "val" ∷ codes "if" ∷ codes "else" ∷ codes "while"
    ∷ codes "for" ∷ codes "print"
    ∷ codes "mesh" ∷ codes "min" ∷ codes "max" ∷ codes "Vertex" ∷ codes "Edge" ∷ codes "Face"
    ∷ codes "Cell"
    ∷ codes "head" ∷ codes "tail" ∷ codes "inside" ∷ codes "outside" ∷ codes "flip"
    ∷ codes "towards"
    ∷ codes "vertices" ∷ codes "edges" ∷ codes "faces" ∷ codes "cells" ∷ codes "edges_ccw"
    ∷ codes "valid" ∷ codes "ID"
    ∷ codes "def" ∷ codes "return" ∷ codes "boundary" ∷ []

abbrev pub symbols : List (List ℕ)
symbols =
    codes "(" ∷ codes ")" ∷ codes "{" ∷ codes "}" ∷ codes "," ∷ codes ";" ∷ codes ":" ∷ codes "<-"
    ∷ codes "==" ∷ codes "!=" ∷ codes "<=" ∷ codes ">=" ∷ codes "<" ∷ codes ">" ∷ codes "&&"
    ∷ codes "||"
    ∷ codes "+" ∷ codes "-" ∷ codes "*" ∷ codes "/" ∷ codes "%" ∷ codes "!"
    ∷ codes "=" ∷ codes "+=" ∷ codes "-=" ∷ codes "*=" ∷ codes "&=" ∷ codes "|=" ∷ codes "^=" ∷ []

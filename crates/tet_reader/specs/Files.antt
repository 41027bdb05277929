-- The files of the worked cases, and the points and cells that they spell. This project's own.
use Rattle.std.specs.Prelude.{ℕ, List, [], ◌∷◌, codes, pos, negsuc}
use Rattle.liszt_base.specs.declared.mesh.Point.{Point}
use Rattle.liszt_base.specs.declared.mesh.RawCell.{RawCell}

abbrev pub five_points : List ℕ
five_points = codes "5 3 0 0\n0 0 0 0\n1 1 0 0\n2 0 1 0\n3 0 0 1\n4 1 1 1\n"

abbrev pub six_points : List ℕ
six_points = codes "6 3 0 0\n0 0 0 0\n1 1 0 0\n2 0 1 0\n3 0 0 1\n4 1 1 1\n5 2 2 2\n"

-- Points numbered from 1, with an attribute and a marker
-- each, and a cell numbered from 0 with two attributes.
abbrev pub marked_points : List ℕ
marked_points =
    codes "4 3 1 1\n1 1 2 3 .5 7\n# next\n2 0 1e-05 0 0 -1\n3 0 1 0 0 0\n4 0 -0.0000019 1 1e3 2\n"

abbrev pub four_marked : List Point
four_marked =
    record { x = pos 1000000; y = pos 2000000; z = pos 3000000; mark = pos 7 }
    ∷ record { x = pos 0; y = pos 10; z = pos 0; mark = negsuc 0 }
    ∷ record { x = pos 0; y = pos 1000000; z = pos 0; mark = pos 0 }
    ∷ record { x = pos 0; y = negsuc 0; z = pos 1000000; mark = pos 2 } ∷ []

abbrev pub cell_with_region : List ℕ
cell_with_region = codes "1 4 2\n0 4 2 3 1 2.5 9\n"

abbrev pub turned_with_region : List RawCell
turned_with_region = record { corners = 3 ∷ 1 ∷ 2 ∷ 0 ∷ []; region = pos 2500000 } ∷ []

-- A point numbered from 0 and a cell numbered from 1, without attributes and markers.
abbrev pub short_points : List ℕ
short_points = codes "1\n0 1 2 3\n"

abbrev pub one_short : List Point
one_short = record { x = pos 1000000; y = pos 2000000; z = pos 3000000; mark = pos 0 } ∷ []

abbrev pub short_cell : List ℕ
short_cell = codes "1\n1 0 1 2 3\n"

abbrev pub plain_cell : List RawCell
plain_cell = record { corners = 0 ∷ 1 ∷ 2 ∷ 3 ∷ []; region = pos 0 } ∷ []

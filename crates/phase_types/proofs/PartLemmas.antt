-- Parts are numbered by the parts that precede them, and keep their numbers.
use Rattle.std.proofs.Common.{◌≡◌, Bool, true, false, List, [], ◌∷◌, ◌++◌, length, refl, sym, ap, ◌∙◌}
use Rattle.std.proofs.lemmas.List.{append-nil, append_assoc}
use Rattle.std.proofs.lemmas.List.Elements.{filter_map-append}
use Rattle.std.specs.List.{cons_option, filter_map}
use Rattle.std.specs.Prelude.{Option, Some, slice_get, if◌then◌else◌}
use Rattle.liszt_tree.specs.Tree.{MainItem, MainField, MainVar, MainAssign, MainIf, MainWhile, MainFor, Print, Main, no_item, item}
use Rattle.phase_types.specs.Environments.{Part, Site, IsPrefix, block_start, after_block, has_else_block, after_item, after_main}

pub same_parts : (before : List Part) → IsPrefix before before
same_parts before = record { rest = []; appended = sym (append-nil before) }

pub next_part : (before : List Part) (part : Part) → IsPrefix before (before ++ part ∷ [])
next_part before part = record { rest = part ∷ []; appended = refl }

pub prefix_of_prefix : {a b c : List Part} → IsPrefix a b → IsPrefix b c → IsPrefix a c
prefix_of_prefix {a = a} r s = record { rest = r.rest ++ s.rest; appended = s.appended ∙ ap (λ parts. parts ++ s.rest) r.appended ∙ append_assoc a r.rest s.rest }

either_way : (b : Bool) (before : List Part) (this other : Site) → IsPrefix before this.parts → IsPrefix before other.parts
    → IsPrefix before (if b then this else other).parts
either_way true before this other h g = h
either_way false before this other h g = g

mutual
  pub item_is_prefix : (site : Site) (i : MainItem) → IsPrefix site.parts (after_item site i).parts
  item_is_prefix site (MainField place name at kind init) = next_part site.parts _
  item_is_prefix site (MainVar place name at init) = next_part site.parts _
  item_is_prefix site (MainAssign place name how value) = same_parts site.parts
  item_is_prefix site (MainIf place test first second has_else) =
      let after_first : Site = after_block site (after_main (block_start site) first) in
      let first_part : IsPrefix site.parts after_first.parts = prefix_of_prefix (next_part site.parts _) (main_is_prefix (block_start site) first) in
      either_way (has_else_block second has_else) site.parts (after_block site (after_main (block_start after_first) second)) after_first
      (prefix_of_prefix first_part (prefix_of_prefix (next_part after_first.parts _) (main_is_prefix (block_start after_first) second))) first_part
  item_is_prefix site (MainWhile place test body) = prefix_of_prefix (next_part site.parts _) (main_is_prefix (block_start site) body)
  item_is_prefix site (MainFor place name at over body) = next_part site.parts _
  item_is_prefix site (Print place value) = same_parts site.parts

  pub main_is_prefix : (site : Site) (program : Main) → IsPrefix site.parts (after_main site program).parts
  main_is_prefix site no_item = same_parts site.parts
  main_is_prefix site (item i rest) = prefix_of_prefix (item_is_prefix site i) (main_is_prefix (after_item site i) rest)

-- the item after a list is at the index that is its length
pub at_length : {A : Type 0} (front : List A) (x : A) (rest : List A) → slice_get (front ++ x ∷ rest) (length front) ≡ Some x
at_length [] x rest = refl
at_length (y ∷ front) x rest = at_length front x rest

pub part_at : {A : Type 0} (sort : Part → Option A) (before rest : List Part) (part : Part) (x : A) → sort part ≡ Some x
    → slice_get (filter_map sort (before ++ part ∷ rest)) (length (filter_map sort before)) ≡ Some x
part_at sort before rest part x e =
    ap (λ sorted. slice_get sorted (length (filter_map sort before)))
    (filter_map-append sort before (part ∷ rest) ∙ ap (λ found. filter_map sort before ++ cons_option found (filter_map sort rest)) e)
    ∙ at_length (filter_map sort before) x (filter_map sort rest)

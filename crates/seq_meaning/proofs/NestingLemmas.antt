-- How deep blocks are nested.
use Rattle.std.proofs.Common.{◌≡◌, ◌≤◌, ◌<◌, ℕ, zero, suc, ◌+◌, ◌-◌, List, [], ◌∷◌, take, length, get_or, rules, sym, subst, arith}
use Rattle.std.proofs.Math.Nat.{le-max_left, le-max_right, max-le}
use Rattle.std.specs.Prelude.{IfSome, max, Option, Some, None, slice_get}
use Rattle.liszt_base.specs.declared.answers.Place.{Place}
use Rattle.resolved_code.specs.declared.expressions.TruthCode.{TruthCode}
use Rattle.resolved_code.specs.declared.items.BlockCode.{BlockCode}
use Rattle.resolved_code.specs.declared.items.ItemCode.{ItemCode, the_lemmas}
use Rattle.resolved_code.specs.declared.items.ItemCode.TheVariants as code
use Rattle.seq_meaning.specs.MainRuns.{nested, deepest}

pub nested_if : (test : TruthCode) (first second : BlockCode) → nested (code.If test first (Some second)) ≡ max (1 + deepest first.items) (1 + deepest second.items)
nested_if test first second = search (rules, the_lemmas)

pub nested_if_alone : (test : TruthCode) (first : BlockCode) → nested (code.If test first None) ≡ max (1 + deepest first.items) 0
nested_if_alone test first = search (rules, the_lemmas)

pub nested_while : (place : Place) (test : TruthCode) (body : BlockCode) → nested (code.While place test body) ≡ 1 + deepest body.items
nested_while place test body = search (rules, the_lemmas)

pub item_nested : (items : List ItemCode) (i : ℕ) (c : ItemCode) → slice_get items i ≡ Some c → nested c ≤ deepest items
item_nested [] i c e = absurd cc
item_nested (x ∷ items) zero c e = let same : x ≡ c = cc in subst (λ c. nested c ≤ deepest (x ∷ items)) same (le-max_left (nested x) (deepest items))
item_nested (x ∷ items) (suc i) c e = let l = item_nested items i c e in let r : deepest items ≤ max (nested x) (deepest items) = le-max_right (nested x) (deepest items) in omega (arith, l, r)

one_item_more : (items : List ItemCode) (i : ℕ) (c : ItemCode) (n : ℕ) → i < length items → c ≡ get_or items i c → deepest (take i items) ≤ n → nested c ≤ n → deepest (take (suc i) items) ≤ n
one_item_more [] i c n b e l m = absurd (omega (arith, b))
one_item_more (x ∷ items) zero c n b e l m = max-le (subst (λ c. nested c ≤ n) e m) (omega arith)
one_item_more (x ∷ items) (suc i) c n b e l m =
    let here : nested x ≤ max (nested x) (deepest (take i items)) = le-max_left (nested x) (deepest (take i items)) in
    let there : deepest (take i items) ≤ max (nested x) (deepest (take i items)) = le-max_right (nested x) (deepest (take i items)) in
    max-le (omega (arith, here, l)) (one_item_more items i c n (omega (arith, b)) e (omega (arith, there, l)) m)

pub room_for_one_more : (items : List ItemCode) (i : ℕ) (c : ItemCode) (level old new : ℕ) → i < length items → c ≡ get_or items i c → level + deepest (take i items) < old → old ≤ new → level + 1 + nested c ≤ new
    → level + deepest (take (i + 1) items) < new
room_for_one_more items i c level old new b e l m k =
    let more : deepest (take (suc i) items) ≤ new - level - 1 = one_item_more items i c (new - level - 1) b e (omega (arith, l, m)) (omega (arith, k)) in
    let same : i + 1 ≡ suc i = omega arith in
    subst (λ j. level + deepest (take j items) < new) (sym same) (omega (arith, more, l, m))

pub room_for_both : (a b level old new : ℕ) → level + a < old → old ≤ new → level + b < new → level + max (1 + a) (1 + b) ≤ new
room_for_both a b level old new l m k =
    let both : max (1 + a) (1 + b) ≤ new - level = max-le (omega (arith, l, m)) (omega (arith, k)) in omega (arith, both, k)

pub room_for_one : (a level new : ℕ) → level + a < new → level + max (1 + a) 0 ≤ new
room_for_one a level new l = let both : max (1 + a) 0 ≤ new - level = max-le (omega (arith, l)) (omega arith) in omega (arith, both, l)

pub some_below : {A : Type 0} (o : Option A) (f : A → ℕ) (n m : ℕ) → IfSome o (λ a. f a < n) → n ≤ m → IfSome o (λ a. f a < m)
some_below (Some a) f n m h l = omega (arith, h, l)
some_below None f n m h l = tt

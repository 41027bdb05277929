-- Lines, and the blanks before them.
use Rattle.std.proofs.Common.{◌≡◌, ℕ, zero, suc, ◌+◌, List, ◌++◌, codes, refl, ap, sym, ◌∙◌, add-one, append_assoc, append-nil}
use Rattle.std.proofs.lemmas.Result.{IfOk-equal}
use Rattle.std.specs.List.{repeat}
use Rattle.liszt_tree.specs.Canonical.{line}

-- a line is its blanks, its text and a line feed
pub line_is : (depth : ℕ) (text : List ℕ) → line depth text ≡ repeat depth (codes "  ") ++ (text ++ codes "\n")
line_is zero text = refl
line_is (suc depth) text = ap (λ t. codes "  " ++ t) (line_is depth text)

-- one more time at the end
pub repeat_more : {A : Type 0} (n : ℕ) (xs : List A) → repeat (n + 1) xs ≡ repeat n xs ++ xs
repeat_more n xs = ap (λ m. repeat m xs) (add-one n) ∙ go n xs
  where
    go : {A : Type 0} (n : ℕ) (xs : List A) → repeat (suc n) xs ≡ repeat n xs ++ xs
    go zero xs = append-nil xs
    go (suc n) xs = ap (λ t. xs ++ t) (go n xs) ∙ sym (append_assoc xs (repeat n xs) xs)

-- what a function that writes a line cites
pub ruleset line_steps = (line_is, IfOk-equal, append_assoc)

-- A program is read where nothing is left, and where something is left or an item is stuck, Syntax stands there.
use Rattle.std.proofs.Common.{◌≡◌, ℕ, suc, ◌+◌, ◌<◌, ◌≤◌, List, [], ◌∷◌, ◌++◌, length, take, drop, refl, sym, ap, subst, ◌∙◌, append_assoc, length-append, length-drop, add-one, arith}
use Rattle.std.specs.Prelude.{Err}
use Rattle.liszt_base.specs.declared.answers.Refused.{Refused}
use Rattle.liszt_base.specs.declared.answers.Refused.TheVariants.{Fault, NoMemory}
use Rattle.liszt_tree.specs.Tree.{Main}
use Rattle.liszt_parser.specs.Grammar.{Lexeme, IsMain, Derives}
use Rattle.liszt_parser.specs.ParseFault.{IsProgramPrefix, IsProgram, IsSyntaxAt}
use Rattle.liszt_parser.specs.Internal.ProgramParsing.{IsParsed}
use Rattle.liszt_parser.specs.Internal.Productions.{mains}
use Rattle.liszt_parser.specs.Internal.Reading.{SameHead, IsRead, Fails}
use Rattle.liszt_parser.proofs.HeadLemmas.{ends_same}
use Rattle.liszt_parser.proofs.OneTree.{one_main}

-- FRONTS of a list
take_front : {A : Type 0} (front us : List A) → take (length front) (front ++ us) ≡ front
take_front [] us = refl
take_front (t ∷ front) us = ap (λ z. t ∷ z) (take_front front us)

take_one_more : {A : Type 0} (front us : List A) (t : A) → take (suc (length front)) (front ++ t ∷ us) ≡ front ++ t ∷ []
take_one_more [] us t = refl
take_one_more (u ∷ front) us t = ap (λ z. u ∷ z) (take_one_more front us t)

front_length : {A : Type 0} (ts front : List A) (place : ℕ) → place ≤ length ts → ts ≡ front ++ drop place ts → length front ≡ place
front_length ts front place within e = omega (arith, ap length e, length-append front (drop place ts), length-drop place ts)

-- where the tokens before a place begin a program, and none goes on there
syntax_from : (ts front at : List Lexeme) (place : ℕ) → place ≤ length ts → drop place ts ≡ at → ts ≡ front ++ at → IsProgramPrefix front
    → ((other : List Lexeme) (tree : Main) → SameHead at other → Derives (front ++ other) tree → ⊥) → IsSyntaxAt ts place
syntax_from ts front at place within here e begins ends =
    record { within = within; before = subst IsProgramPrefix before begins; token = λ l b. token at here e ends l b; «end» = λ l p. at_end at here e ends l p }
  where
    long : length front ≡ place
    long = front_length ts front place within (e ∙ ap (λ z. front ++ z) (sym here))

    before : front ≡ take place ts
    before = sym (take_front front at) ∙ ap (λ z. take (length front) z) (sym e) ∙ ap (λ n. take n ts) long

    token : (at : List Lexeme) → drop place ts ≡ at → ts ≡ front ++ at
        → ((other : List Lexeme) (tree : Main) → SameHead at other → Derives (front ++ other) tree → ⊥) → place < length ts
        → IsProgramPrefix (take (place + 1) ts) → ⊥
    token [] here e ends l b = let none = ap length here in omega (arith, length-drop place ts)
    token (t ∷ us) here e ends l b =
        let operands_step : take (place + 1) ts ≡ front ++ t ∷ [] =
        ap (λ n. take n ts) (add-one place ∙ ap suc (sym long)) ∙ ap (λ z. take (suc (length front)) z) e ∙ take_one_more front us t in
        ends (t ∷ b.0) b.1 refl
        (subst (λ z. Derives z b.1) (ap (λ z. z ++ b.0) operands_step ∙ append_assoc front (t ∷ []) b.0) b.2)

    at_end : (at : List Lexeme) → drop place ts ≡ at → ts ≡ front ++ at
        → ((other : List Lexeme) (tree : Main) → SameHead at other → Derives (front ++ other) tree → ⊥) → place ≡ length ts
        → IsProgram ts → ⊥
    at_end [] here e ends l p = ends [] p.0 tt (subst (λ z. Derives z p.0) e p.1)
    at_end (t ∷ us) here e ends l p = let some = ap length here in omega (arith, length-drop place ts)

pub program_fails : (ts : List Lexeme) (refused : Refused ℕ) → Fails mains ts 0 refused → IsParsed ts (Err refused)
program_fails ts NoMemory h = tt
program_fails ts (Fault place) h =
    syntax_from ts h.1.front (drop place ts) place h.0 refl h.1.parts (h.1.more ++ [], h.1.whole, h.1.continues [])
    (λ other tree same d. h.1.ends_here other [] tree same d refl)

pub program_read : (ts at : List Lexeme) (tree : Main) → at ≡ [] → IsRead mains ts tree at → Derives ts tree
program_read ts at tree e d =
    let read : IsMain (d.front ++ []) tree [] = d.reads_on [] (λ ends. refl) in
    subst (λ z. IsMain z tree []) (sym (d.parts ∙ ap (λ z. d.front ++ z) e)) read

pub something_left : (ts : List Lexeme) (place : ℕ) (t : Lexeme) (left : List Lexeme) (tree : Main) → place ≤ length ts → drop place ts ≡ t ∷ left
    → IsRead mains ts tree (drop place ts) → IsSyntaxAt ts place
something_left ts place t left tree within here d =
    syntax_from ts d.front (drop place ts) place within refl d.parts ([], tree, d.reads_on [] (λ ends. refl)) ends
  where
    nothing : (other : List Lexeme) → SameHead (t ∷ left) other → other ≡ [] → ⊥
    nothing [] h e = h
    nothing (u ∷ us) h e = absurd cc

    ends : (other : List Lexeme) (e : Main) → SameHead (drop place ts) other → Derives (d.front ++ other) e → ⊥
    ends other e h k =
        let stop = ends_same (drop place ts) other h d.stops in
        let mine : IsMain (d.front ++ other) tree other = d.reads_on other (λ ends. stop) in
        let same = one_main mine stop e [] k refl in
        nothing other (subst (λ z. SameHead z other) here h) same.1

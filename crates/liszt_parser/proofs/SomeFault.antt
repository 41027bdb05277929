-- Tokens have a fault, or none: there is always an answer.
use Rattle.std.proofs.Common.{◌≡◌, zero, suc, ℕ, ◌+◌, ◌<◌, ◌≤◌, ◌⊎◌, inl, inr, Option, Some, None, List, [], ◌∷◌, ◌++◌, length, length-append, take, drop, refl, sym, ap, subst, ◌∙◌, arith, below_more}
use Rattle.std.specs.Prelude.{Bool, true, false, nat_lt}
use Rattle.std.proofs.lemmas.Bool.{ltb-true, ltb-false}
use Rattle.liszt_base.specs.declared.answers.Place.{Place}
use Rattle.liszt_base.specs.declared.answers.ProgramFault.{ProgramFault}
use Rattle.liszt_base.specs.declared.answers.ProgramWhat.TheVariants.{Syntax, Deep}
use Rattle.liszt_tree.specs.Tree.{Main}
use Rattle.liszt_parser.specs.Depth.{depth}
use Rattle.liszt_parser.specs.Grammar.{Lexeme, Derives}
use Rattle.liszt_parser.specs.Internal.Nesting.{IsFirstDeep}
use Rattle.liszt_parser.specs.ParseFault.{IsSyntaxAt, IsShallow, IsParseFault, place_of, fault_at}
use Rattle.liszt_parser.specs.Internal.Productions.{mains}
use Rattle.liszt_parser.proofs.ReadOrStuck.{ReadOrStuck}
use Rattle.liszt_parser.proofs.ReadOrStuckItems.{known_mains}
use Rattle.liszt_parser.proofs.ProgramReading.{program_read, something_left, program_fails}
use Rattle.liszt_parser.specs.Internal.Reading.{IsRead, IsStuck}
use Rattle.liszt_base.specs.declared.answers.Refused.TheVariants.{Fault}
use Rattle.std.proofs.Math.Seq.{drop-append_seam}
use Rattle.liszt_parser.proofs.ParsedLemmas.{syntax_primary, syntax_first, deep_of_program, deep_at_end}
use Rattle.liszt_base.specs.Limits.{depth_limit}

-- THE FIRST TOKEN that is too deep is found, if there is one, among any front
DeepIn : List Lexeme → ℕ → Type 0
DeepIn ts n = (IsShallow ts n) ⊎ ((place : ℕ) × IsFirstDeep ts (Some place))

deep_in : (ts : List Lexeme) (n : ℕ) → n ≤ length ts → DeepIn ts n
unfolding DeepIn
deep_in ts zero le = inl (λ place lt within. absurd (omega (arith, lt)))
deep_in ts (suc n) le = go (deep_in ts n (omega arith)) where
  at : IsShallow ts n → (b : Bool) → nat_lt depth_limit (depth (take (n + 1) ts)) ≡ b → DeepIn ts (suc n)
  at shallow true is = inr (n, (shallow, omega arith, ltb-true depth_limit (depth (take (n + 1) ts)) is))
  at shallow false is =
      let more : n + 1 ≡ suc n = omega arith in
      inl (subst (λ m. IsShallow ts m) more
      (below_more (λ k. k < length ts → depth (take (k + 1) ts) ≤ depth_limit) n shallow (λ within. ltb-false depth_limit (depth (take (n + 1) ts)) is)))

  go : DeepIn ts n → DeepIn ts (suc n)
  go (inl shallow) = at shallow (nat_lt depth_limit (depth (take (n + 1) ts))) refl
  go (inr deep) = inr deep

first_deep : (ts : List Lexeme) → (place : Option ℕ) × IsFirstDeep ts place
unfolding DeepIn
first_deep ts = go (deep_in ts (length ts) (omega arith)) where
  go : DeepIn ts (length ts) → (place : Option ℕ) × IsFirstDeep ts place
  go (inl shallow) = (None, shallow)
  go (inr deep) = (Some deep.0, deep.1)

-- THE TOKENS are a program, or Syntax stands somewhere
pub Reading : List Lexeme → Type 0
Reading ts = ((tree : Main) × Derives ts tree) ⊎ ((place : ℕ) × IsSyntaxAt ts place)

within : (ts front left : List Lexeme) → ts ≡ front ++ left → (length front ≤ length ts) × (drop (length front) ts ≡ left)
within ts front left e =
    let long = ap length e in
    let few : length front ≤ length ts = omega (arith, long, length-append front left) in
    (few, ap (drop (length front)) e ∙ drop-append_seam front left)

known_program : (ts : List Lexeme) → Reading ts
unfolding Reading ReadOrStuck
known_program ts = go (known_mains ts) where
  go : ReadOrStuck mains ts → Reading ts
  go (inl (tree, [], d)) = inl (tree, program_read ts [] tree refl d)
  go (inl (tree, t ∷ left, d)) =
      let w = within ts d.front (t ∷ left) d.parts in
      inr (length d.front, something_left ts (length d.front) t left tree w.0 w.1 (subst (λ z. IsRead mains ts tree z) (sym w.1) d))
  go (inr (at, d)) =
      let w = within ts d.front at d.parts in
      inr (length d.front, program_fails ts (Fault (length d.front)) (w.0, subst (λ z. IsStuck mains ts z) (sym w.1) d))

pub some_fault : (ts : List Lexeme) (ending : Place) → (fault : Option ProgramFault) × IsParseFault ts ending fault
unfolding Reading
some_fault ts ending = go (first_deep ts) where
  primary_expression : IsShallow ts (length ts) → Reading ts → (fault : Option ProgramFault) × IsParseFault ts ending fault
  primary_expression shallow (inl r) = (None, ((r.0, r.1), shallow))
  primary_expression shallow (inr s) = (Some (fault_at Syntax (place_of ts ending s.0)), syntax_primary ts ending s.0 shallow s.1)

  stuck : (deep place : ℕ) → IsFirstDeep ts (Some deep) → IsSyntaxAt (take (deep + 1) ts) place → (b : Bool) → nat_lt deep place ≡ b
      → (fault : Option ProgramFault) × IsParseFault ts ending fault
  stuck deep place first s true is = (Some (fault_at Deep (place_of ts ending deep)), deep_at_end ts ending deep place first (ltb-true deep place is) s)
  stuck deep place first s false is = (Some (fault_at Syntax (place_of ts ending place)), syntax_first ts ending deep place first (ltb-false deep place is) s)

  up_to : (deep : ℕ) → IsFirstDeep ts (Some deep) → Reading (take (deep + 1) ts) → (fault : Option ProgramFault) × IsParseFault ts ending fault
  up_to deep first (inl r) = (Some (fault_at Deep (place_of ts ending deep)), deep_of_program ts ending deep r.0 first r.1)
  up_to deep first (inr s) = stuck deep s.0 first s.1 (nat_lt deep s.0) refl

  go : (place : Option ℕ) × IsFirstDeep ts place → (fault : Option ProgramFault) × IsParseFault ts ending fault
  go (None, shallow) = primary_expression shallow (known_program ts)
  go (Some deep, first) = up_to deep first (known_program (take (deep + 1) ts))

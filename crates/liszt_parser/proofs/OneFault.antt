-- Tokens have one fault at most, for what begins a program up to a later place begins one up to each earlier place.
use Rattle.std.proofs.Common.{◌≡◌, ℕ, ◌+◌, ◌<◌, ◌≤◌, ◌⊎◌, inl, inr, ◌↔◌, Option, Some, None, List, ◌++◌, length, take, drop, refl}
use Rattle.std.proofs.Common.{sym, ap, subst, ◌∙◌, append_assoc, arith}
use Rattle.std.proofs.lemmas.List.{take-append-drop, take-take}
use Rattle.liszt_base.specs.declared.answers.Place.{Place}
use Rattle.liszt_base.specs.declared.answers.ProgramFault.{ProgramFault}
use Rattle.liszt_base.specs.declared.answers.ProgramWhat.{ProgramWhat}
use Rattle.liszt_base.specs.declared.answers.ProgramWhat.TheVariants.{Syntax, Deep}
use Rattle.liszt_tree.specs.Tree.{Main}
use Rattle.liszt_parser.specs.Depth.{depth}
use Rattle.liszt_parser.specs.Grammar.{Lexeme, Derives}
use Rattle.liszt_parser.specs.ParseFault.{IsProgramPrefix, IsProgram, IsSyntaxAt, IsShallow, IsDeepAt, place_of, fault_at, IsParseFault}
use Rattle.liszt_base.specs.Limits.{depth_limit}

-- where one place is earlier than, the same as or later than another
earlier_or_later : (k l : ℕ) → (k < l) ⊎ ((k ≡ l) ⊎ (l < k))
earlier_or_later k l = grind arith

-- a place up to another is earlier or the same
less_or_same : (k l : ℕ) → k ≤ l → (k < l) ⊎ (k ≡ l)
less_or_same k l le = grind arith

-- what begins a program up to a place begins one up to an earlier place
begins_earlier : (ts : List Lexeme) (k l : ℕ) → k ≤ l → IsProgramPrefix (take l ts) → IsProgramPrefix (take k ts)
begins_earlier ts k l le b =
    let parted : take l ts ++ b.0 ≡ take k ts ++ (drop k (take l ts) ++ b.0) =
    ap (λ front. front ++ b.0) (sym (take-append-drop k (take l ts)) ∙ ap (λ front. front ++ drop k (take l ts)) (take-take k l ts le))
    ∙ append_assoc (take k ts) (drop k (take l ts)) b.0 in
    (drop k (take l ts) ++ b.0, b.1, subst (λ (all : List Lexeme). Derives all b.1) parted b.2)

-- each front of a program begins one
program_begins : (ts : List Lexeme) (k : ℕ) → IsProgram ts → IsProgramPrefix (take k ts)
program_begins ts k p = (drop k ts, p.0, subst (λ (all : List Lexeme). Derives all p.0) (sym (take-append-drop k ts)) p.1)

-- no depth is above 64 and at most 64
too_deep : (d : ℕ) → depth_limit < d → d ≤ depth_limit → ⊥
too_deep d more less = omega arith

-- where all is shallow up to a place nothing before it is deep
not_deep_before : (ts : List Lexeme) (k l : ℕ) → IsDeepAt ts k → IsShallow ts l → k < l → ⊥
not_deep_before ts k l deep shallow lt = too_deep (depth (take (k + 1) ts)) deep.deep (shallow k lt deep.within)

-- where Syntax stands, no program goes on
no_program_continues : (ts : List Lexeme) (k n : ℕ) → IsSyntaxAt ts k → k < n → n ≤ length ts → IsProgramPrefix (take n ts) → ⊥
no_program_continues ts k n s lt within b = s.token (omega arith) (begins_earlier ts (k + 1) n (omega arith) b)

-- where Syntax stands is no program
no_program : (ts : List Lexeme) (k : ℕ) → IsSyntaxAt ts k → IsProgram ts → ⊥
no_program ts k s p = go (less_or_same k (length ts) s.within) where
  go : (k < length ts) ⊎ (k ≡ length ts) → ⊥
  go (inl lt) = s.token lt (program_begins ts (k + 1) p)
  go (inr e) = s.«end» e p

-- Syntax stands at one place
same_syntax : (ts : List Lexeme) (k l : ℕ) → IsSyntaxAt ts k → IsSyntaxAt ts l → k ≡ l
same_syntax ts k l s t = go (earlier_or_later k l) where
  go : (k < l) ⊎ ((k ≡ l) ⊎ (l < k)) → k ≡ l
  go (inl lt) = absurd (no_program_continues ts k l s lt t.within t.before)
  go (inr (inl e)) = e
  go (inr (inr lt)) = absurd (no_program_continues ts l k t lt s.within s.before)

-- Deep stands at one place
same_deep : (ts : List Lexeme) (k l : ℕ) → IsDeepAt ts k → IsDeepAt ts l → k ≡ l
same_deep ts k l s t = go (earlier_or_later k l) where
  go : (k < l) ⊎ ((k ≡ l) ⊎ (l < k)) → k ≡ l
  go (inl lt) = absurd (not_deep_before ts k l s t.shallow lt)
  go (inr (inl e)) = e
  go (inr (inr lt)) = absurd (not_deep_before ts l k t s.shallow lt)

-- Syntax and Deep never stand both
not_both : (ts : List Lexeme) (k l : ℕ) → IsSyntaxAt ts k → IsShallow ts k → IsDeepAt ts l → ⊥
not_both ts k l s shallow deep = go (earlier_or_later l k) where
  go : (l < k) ⊎ ((l ≡ k) ⊎ (k < l)) → ⊥
  go (inl lt) = not_deep_before ts l k deep shallow lt
  go (inr (inl e)) = no_program_continues ts k (l + 1) s (omega arith) (omega (arith, deep.within)) deep.begins
  go (inr (inr lt)) = no_program_continues ts k (l + 1) s (omega arith) (omega (arith, deep.within)) deep.begins

-- the same kind of fault at one place
same_fault : (what : ProgramWhat) (ts : List Lexeme) (ending : Place) (k l : ℕ) (fault other : ProgramFault) → k ≡ l
    → fault ≡ fault_at what (place_of ts ending k)
    → other ≡ fault_at what (place_of ts ending l) → Some fault ≡ Some other
same_fault what ts ending k l fault other same e f = ap Some (e ∙ ap (λ n. fault_at what (place_of ts ending n)) same ∙ sym f)

-- why a fault stands at a place
abbrev Cause : List Lexeme → Place → ProgramFault → ℕ → Type 0
Cause ts ending fault place =
    (IsSyntaxAt ts place × IsShallow ts place × (fault ≡ fault_at Syntax (place_of ts ending place)))
    ⊎ (IsDeepAt ts place × (fault ≡ fault_at Deep (place_of ts ending place)))

-- a shallow program has no fault
no_fault : (ts : List Lexeme) (ending : Place) (fault : ProgramFault) (k : ℕ) → IsProgram ts → IsShallow ts (length ts)
    → Cause ts ending fault k → ⊥
no_fault ts ending fault k p shallow (inl s) = no_program ts k s.0 p
no_fault ts ending fault k p shallow (inr d) = not_deep_before ts k (length ts) d.0 shallow d.0.within

-- two faults of the same tokens are one
same_cause : (ts : List Lexeme) (ending : Place) (fault other : ProgramFault) (k l : ℕ) → Cause ts ending fault k
    → Cause ts ending other l → Some fault ≡ Some other
same_cause ts ending fault other k l (inl s) (inl t) = same_fault Syntax ts ending k l fault other (same_syntax ts k l s.0 t.0) s.2 t.2
same_cause ts ending fault other k l (inl s) (inr d) = absurd (not_both ts k l s.0 s.1 d.0)
same_cause ts ending fault other k l (inr d) (inl s) = absurd (not_both ts l k s.0 s.1 d.0)
same_cause ts ending fault other k l (inr d) (inr e) = same_fault Deep ts ending k l fault other (same_deep ts k l d.0 e.0) d.1 e.1

-- tokens have one answer
pub one : (ts : List Lexeme) (ending : Place) (fault other : Option ProgramFault) → IsParseFault ts ending fault
    → IsParseFault ts ending other → fault ≡ other
one ts ending None None h k = refl
one ts ending None (Some other) h k = absurd (no_fault ts ending other k.0 h.0 h.1 k.1)
one ts ending (Some fault) None h k = absurd (no_fault ts ending fault h.0 k.0 k.1 h.1)
one ts ending (Some fault) (Some other) h k = same_cause ts ending fault other h.0 k.0 h.1 k.1

-- the answer is no fault exactly for a shallow program
pub none : (ts : List Lexeme) (ending : Place) → IsParseFault ts ending None ↔ ((tree : Main) × Derives ts tree × IsShallow ts (length ts))
none ts ending = (λ h. (h.0.0, h.0.1, h.1), λ h. ((h.0, h.1), h.2))

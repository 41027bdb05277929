-- A table by fields and scalars as the list of its accesses.
use Rattle.std.proofs.Common.{◌≡◌, Bool, true, false, cond, List, [], ◌∷◌, ◌++◌, map, refl, ap, ◌∙◌}
use Rattle.std.specs.List.{AllByRecursion}
use Rattle.std.specs.Prelude.{Some, None}
use Rattle.std.specs.Map.{lookup}
use Rattle.indexmap.specs.IndexMap.{insert_entry}
use Rattle.resolved_code.specs.Accesses.{is_subject, first_access}
use Rattle.resolved_code.specs.declared.accesses.AccessAt.{AccessAt}
use Rattle.resolved_code.specs.declared.accesses.Subject.{Subject}
use Rattle.resolved_code.specs.declared.accesses.Subject.TheVariants.{Field, Scalar}
use Rattle.resolved_code.specs.contracts.accesses.SubjectPartialEq.TheImpl.{eq-value}

pub same_test : (subject other : Subject) → eq-value.it subject other ≡ is_subject subject other
same_test (Field number) (Field other) = refl
same_test (Scalar number) (Scalar other) = refl
same_test (Field number) (Scalar other) = refl
same_test (Scalar number) (Field other) = refl

abbrev pub Entries : Type 0
Entries = List (Subject × AccessAt)

abbrev pub HasKeys : Entries → Type 0
HasKeys entries = AllByRecursion (λ (entry : Subject × AccessAt). entry.0 ≡ entry.1.subject) entries

abbrev pub accesses_of : Entries → List AccessAt
accesses_of entries = map (λ entry. entry.1) entries

pub found_first : (subject : Subject) (entries : Entries) → HasKeys entries → lookup (eq-value.it subject) entries ≡ first_access (accesses_of entries) subject
found_first subject [] keys = refl
found_first subject (entry ∷ entries) keys =
    ap (λ b. cond b (Some entry.1) (lookup (eq-value.it subject) entries)) (same_test subject entry.0 ∙ ap (is_subject subject) keys.0)
    ∙ ap (cond (is_subject subject entry.1.subject) (Some entry.1)) (found_first subject entries keys.1)

pub with_key : (entries : Entries) (access : AccessAt) → HasKeys entries → HasKeys (entries ++ (access.subject, access) ∷ [])
with_key [] access keys = (refl, tt)
with_key (entry ∷ entries) access keys = (keys.0, with_key entries access keys.1)

-- a new key goes last
pub inserted_last : (entries : Entries) (access : AccessAt) → lookup (eq-value.it access.subject) entries ≡ None
    → insert_entry eq-value.it entries access.subject access ≡ entries ++ (access.subject, access) ∷ []
inserted_last [] access none = refl
inserted_last (entry ∷ entries) access none = go (eq-value.it access.subject entry.0) none (inserted_last entries access) where
  go : (b : Bool) → cond b (Some entry.1) (lookup (eq-value.it access.subject) entries) ≡ None
      → (lookup (eq-value.it access.subject) entries ≡ None → insert_entry eq-value.it entries access.subject access ≡ entries ++ (access.subject, access) ∷ [])
      → cond b ((entry.0, access) ∷ entries) (entry ∷ insert_entry eq-value.it entries access.subject access) ≡ entry ∷ (entries ++ (access.subject, access) ∷ [])
  go true e again = absurd cc
  go false e again = ap (λ rest. entry ∷ rest) (again e)

pub inserted : (entries : Entries) (access : AccessAt) → HasKeys entries → first_access (accesses_of entries) access.subject ≡ None
    → insert_entry eq-value.it entries access.subject access ≡ entries ++ (access.subject, access) ∷ []
inserted entries access keys none = inserted_last entries access (found_first access.subject entries keys ∙ none)

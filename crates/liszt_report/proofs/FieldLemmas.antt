-- The texts of fields.
use Rattle.std.proofs.Common.{◌≡◌, ℕ, ◌+◌, ◌-◌, ◌==◌, ℤ, pos, List, [], ◌∷◌, ◌++◌, Option, Some, map, slice_get, unwrap_or, drop, inl, inr, refl, sym, ap, ◌∙◌, arith, ◌≤◌, ◌<◌, suc, eqb-true}
use Rattle.std.proofs.lemmas.Bool.{cases_Bool}
use Rattle.std.proofs.lemmas.Option.{slice_get-map}
use Rattle.std.specs.Option.{option_map}
use Rattle.liszt_base.specs.declared.elements.Kind.{Kind}
use Rattle.phase_types.specs.declared.info.FieldInfo.{FieldInfo}
use Rattle.liszt_report.specs.Endings.{field_text, value_line}
use Rattle.liszt_report.specs.FieldValues.{FieldValues, value_at}
use Rattle.liszt_report.specs.Texts.{declared_text, fields_from}
use Rattle.liszt_report.proofs.WrittenLemmas.{drop_item, range_same}

pub fields_next : (count : Kind → ℕ) (value : ℕ → ℕ → ℤ) (fields : List FieldInfo) (k : ℕ) (info : FieldInfo) → slice_get fields k ≡ Some info
    → fields_from count value (6 + k) (drop k fields) ≡ declared_text count value (k + 6) info ++ fields_from count value (6 + (k + 1)) (drop (k + 1) fields)
fields_next count value fields k info is =
    let here : 6 + k ≡ k + 6 = omega arith in
    let next : k + 6 + 1 ≡ 6 + (k + 1) = omega arith in
    ap (fields_from count value (6 + k)) (drop_item fields k info is)
    ∙ ap (λ n. declared_text count value n info ++ fields_from count value (n + 1) (drop (k + 1) fields)) here
    ∙ ap (λ n. declared_text count value (k + 6) info ++ fields_from count value n (drop (k + 1) fields)) next

-- THE TEXTS OF THE SAME VALUES are the same: of a field, of a declared field, and of all fields of the outermost scope
field_same : (name : List ℕ) (value other : ℕ → ℤ) (count : ℕ) → ((id : ℕ) → id < count → value id ≡ other id) → field_text name value count ≡ field_text name other count
field_same name value other count same =
    range_same (λ id. value_line name id (value id)) (λ id. value_line name id (other id)) 0 count (λ id least below. ap (value_line name id) (same id (omega (arith, below))))

outermost_same : (count : Kind → ℕ) (value other : ℕ → ℕ → ℤ) (field : ℕ) (info : FieldInfo)
    → (info.scope ≡ 0 → (id : ℕ) → id < count info.kind → value field id ≡ other field id)
    → declared_text count value field info ≡ declared_text count other field info
outermost_same count value other field info same = elim (cases_Bool (info.scope == 0)) [
  | inl h ↦ rw h (field_same info.name (value field) (other field) (count info.kind) (same (eqb-true info.scope 0 h)))
  | inr h ↦ rw h refl
]

pub declared_same : (count : Kind → ℕ) (values others : FieldValues) (field : ℕ) (info : FieldInfo)
    → ((number id : ℕ) → values number id ≡ others number id)
    → declared_text count (value_at values) field info ≡ declared_text count (value_at others) field info
declared_same count values others field info same =
    outermost_same count (value_at values) (value_at others) field info (λ outermost id below. ap (λ o. unwrap_or o (pos 0)) (same field id))

pub fields_same : (count : Kind → ℕ) (value other : ℕ → ℕ → ℤ) (first : ℕ) (fields : List FieldInfo)
    → ((index id : ℕ) (info : FieldInfo) → slice_get fields index ≡ Some info → info.scope ≡ 0 → id < count info.kind → value (first + index) id ≡ other (first + index) id)
    → fields_from count value first fields ≡ fields_from count other first fields
fields_same count value other first [] same = refl
fields_same count value other first (info ∷ fields) same =
    ap (λ text. text ++ fields_from count value (first + 1) fields) (outermost_same count value other first info (λ outermost id below. at_first id (same 0 id info refl outermost below)))
    ∙ ap (λ text. declared_text count other first info ++ text) (fields_same count value other (first + 1) fields (λ index id info is outermost below. moved index id (same (suc index) id info is outermost below)))
  where
    at_first : (id : ℕ) → value (first + 0) id ≡ other (first + 0) id → value first id ≡ other first id
    at_first id e = let n : first + 0 ≡ first = omega arith in sym (ap (λ field. value field id) n) ∙ e ∙ ap (λ field. other field id) n

    moved : (index id : ℕ) → value (first + suc index) id ≡ other (first + suc index) id → value (first + 1 + index) id ≡ other (first + 1 + index) id
    moved index id e = let n : first + suc index ≡ first + 1 + index = omega arith in sym (ap (λ field. value field id) n) ∙ e ∙ ap (λ field. other field id) n

-- the value of a pair that has one
pub value_known : (values others : FieldValues) (field id : ℕ) (value : ℤ) → values field id ≡ others field id → values field id ≡ Some value
    → value ≡ value_at others field id
value_known values others field id value same is = ap (λ o. unwrap_or o (pos 0)) (sym is ∙ same)

-- a word of a declared field, whose number is 6 or more
after_six : {A : Type 0} (a b c d e f : A) (xs : List A) (k : ℕ) → slice_get (a ∷ b ∷ c ∷ d ∷ e ∷ f ∷ xs) (suc (suc (suc (suc (suc (suc k)))))) ≡ slice_get xs k
after_six a b c d e f xs k = refl

pub declared_word : (word : FieldInfo → List ℕ) (fields : List FieldInfo) (field : ℕ) (found : Option FieldInfo) (a b c d e f : List ℕ) → 6 ≤ field → found ≡ slice_get fields (field - 6)
    → unwrap_or (option_map word found) [] ≡ unwrap_or (slice_get (a ∷ b ∷ c ∷ d ∷ e ∷ f ∷ map word fields) field) []
declared_word word fields field found a b c d e f le is =
    let words : List (List ℕ) = map word fields in
    let number : field ≡ suc (suc (suc (suc (suc (suc (field - 6)))))) = omega arith in
    let looked : slice_get (a ∷ b ∷ c ∷ d ∷ e ∷ f ∷ words) field ≡ option_map word found =
    ap (slice_get (a ∷ b ∷ c ∷ d ∷ e ∷ f ∷ words)) number ∙ after_six a b c d e f words (field - 6) ∙ slice_get-map word fields (field - 6)
    ∙ ap (option_map word) (sym is) in
    ap (λ o. unwrap_or o []) (sym looked)

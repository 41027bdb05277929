-- The words of scopes and the first words of fields.
use Rattle.std.proofs.Common.{◌≡◌, ◌≢◌, ◌⊎◌, ◌<◌, ◌≤◌, ℕ, zero, suc, ◌+◌, ◌==◌, Bool, true, false, List, [], ◌∷◌, length, map, take, refl, sym, subst, ap, ◌∙◌, inl, inr, arith}
use Rattle.std.proofs.lemmas.Bool.{cases_Bool, ltb-true, ltb-false}
use Rattle.std.proofs.lemmas.Bool.Decides.{eqb_tells, nat_tests}
use Rattle.std.proofs.lemmas.List.FromFn.{map-range_with_len_more, get_or-map-range_with_len, length-map-range_with_len}
use Rattle.std.proofs.lemmas.List.Recursion.{max_bounds, max_least, max_push}
use Rattle.std.proofs.lemmas.List.Sums.{sum_by-cons, sum_by_more, sum_by-take-le}
use Rattle.std.specs.Ordering.{nat_cmp, ord_max}
use Rattle.std.specs.List.{range_with_len}
use Rattle.std.specs.Prelude.{Option, Some, None, Result, Ok, Err, Contains, if◌then◌else◌, max, nat_lt, slice_index, slice_index_or, sum_by}
use Rattle.liszt_base.specs.declared.answers.LimitFault.{LimitFault}
use Rattle.liszt_base.specs.declared.answers.LimitWhat.TheVariants.{Words}
use Rattle.word_region.specs.Regions.{AreScopes, EndsBefore, IsLive, IsRegion, RegionState, chain, enclosing, first_word_of, greatest_of, index_of, own_words, peak_of, planned, scope_at, size_at, words_above, words_upto}
use Rattle.word_region.specs.Internal.Tables.{IsTable, all_words}
use Rattle.word_region.proofs.ChainLemmas.{chain_first, chain_none, enclosing_below, enclosing_cases, member_cases, no_open_scope}

-- the words that a field has in a scope
abbrev pub words_in : ℕ → ℕ × ℕ → ℕ
words_in scope field = if field.0 == scope then field.1 else 0

-- THE WORDS of a scope and its ancestors are its own and those of its ancestors, which are those of its parent and its ancestors.
pub upto_is : (scopes : List ℕ) (sizes : List (ℕ × ℕ)) (scope : ℕ) → AreScopes scopes → scope < length scopes
    → words_upto scopes sizes scope ≡ own_words sizes scope + words_above scopes sizes scope
upto_is scopes sizes scope are below =
    ap (λ (l : List ℕ). sum_by (own_words sizes) l) (chain_first scopes scope are below)
    ∙ sum_by-cons (own_words sizes) scope (chain scopes (enclosing scopes scope))

no_words : (scopes : List ℕ) (sizes : List (ℕ × ℕ)) → sum_by (own_words sizes) (chain scopes None) ≡ 0
no_words scopes sizes = ap (λ (l : List ℕ). sum_by (own_words sizes) l) (chain_none scopes)

pub above_parent : (scopes : List ℕ) (sizes : List (ℕ × ℕ)) (scope : ℕ) → enclosing scopes scope ≡ Some (slice_index scopes scope)
    → words_above scopes sizes scope ≡ words_upto scopes sizes (slice_index scopes scope)
above_parent scopes sizes scope e = ap (λ o. sum_by (own_words sizes) (chain scopes o)) e

-- THE WORDS of a member of a scope's chain, and of two members
upto_within : (scopes : List ℕ) (sizes : List (ℕ × ℕ)) → AreScopes scopes → (bound scope x : ℕ) → scope < bound
    → scope < length scopes → Contains (chain scopes (Some scope)) x
    → (scope ≡ x) ⊎ (words_upto scopes sizes x ≤ words_above scopes sizes scope)
upto_within scopes sizes are zero scope x p below m = absurd (omega arith)
upto_within scopes sizes are (suc bound) scope x p below m = elim (member_cases scopes scope x are below m) [
  | inl e ↦ inl e
  | inr h ↦
      let parent = slice_index scopes scope in
      let less : slice_index scopes scope < scope = h.0 in
      let above = above_parent scopes sizes scope h.1 in
      elim (upto_within scopes sizes are bound parent x (omega arith) (omega arith) h.2) [
        | inl e ↦ inr (let same = ap (words_upto scopes sizes) e in omega arith)
        | inr le ↦ inr (let is = upto_is scopes sizes parent are (omega arith) in omega arith)
      ]
]

pub record AreNested (scopes : List ℕ) (sizes : List (ℕ × ℕ)) (x y : ℕ) : Type 0 where
  pub outer : words_upto scopes sizes x ≤ words_above scopes sizes y

two_within : (scopes : List ℕ) (sizes : List (ℕ × ℕ)) → AreScopes scopes → (bound scope x y : ℕ) → scope < bound
    → scope < length scopes → Contains (chain scopes (Some scope)) x → Contains (chain scopes (Some scope)) y
    → (x ≡ y) ⊎ (AreNested scopes sizes x y ⊎ AreNested scopes sizes y x)
two_within scopes sizes are zero scope x y p below m n = absurd (omega arith)
two_within scopes sizes are (suc bound) scope x y p below m n = elim (member_cases scopes scope x are below m) [
  | inl e ↦ elim (upto_within scopes sizes are (suc bound) scope y p below n) [
    | inl d ↦ inl (omega arith)
    | inr le ↦ inr (inr (record { outer = (let same = ap (words_above scopes sizes) e in omega arith) }))
  ]
  | inr g ↦ elim (member_cases scopes scope y are below n) [
    | inl d ↦ elim (upto_within scopes sizes are (suc bound) scope x p below m) [
      | inl e ↦ inl (omega arith)
      | inr le ↦ inr (inl (record { outer = (let same = ap (words_above scopes sizes) d in omega arith) }))
    ]
    | inr h ↦
        let less : slice_index scopes scope < scope = g.0 in
        two_within scopes sizes are bound (slice_index scopes scope) x y (omega arith) (omega arith) g.2 h.2
  ]
]

-- ALL WORDS are at least those of a scope and its ancestors, which are different scopes of numbers up to that of the scope.
unfoldable words_below : List (ℕ × ℕ) → ℕ → ℕ
words_below sizes zero = 0
words_below sizes (suc n) = words_below sizes n + own_words sizes n

has_none : (field : ℕ × ℕ) (scope : ℕ) → field.0 ≢ scope → words_in scope field ≡ 0
has_none field scope ne = elim (eqb_tells field.0 scope) [
  | inl h ↦ absurd (ne h.1)
  | inr h ↦ ap (λ b. if b then field.1 else 0) h.0
]

has_some : (field : ℕ × ℕ) (scope : ℕ) → words_in scope field ≤ field.1
has_some field scope = elim (eqb_tells field.0 scope) [
  | inl h ↦ (let e : words_in scope field ≡ field.1 = ap (λ b. if b then field.1 else 0) h.0 in omega arith)
  | inr h ↦ (let e : words_in scope field ≡ 0 = ap (λ b. if b then field.1 else 0) h.0 in omega arith)
]

below_none : (n : ℕ) → words_below [] n ≡ 0
unfolding words_below
below_none zero = refl
below_none (suc n) = let e = below_none n in omega arith

below_before : (field : ℕ × ℕ) (sizes : List (ℕ × ℕ)) (n : ℕ) → n ≤ field.0
    → words_below (field ∷ sizes) n ≡ words_below sizes n
unfolding words_below
below_before field sizes zero le = refl
below_before field sizes (suc n) le =
    omega (arith, below_before field sizes n (omega arith), sum_by-cons (words_in n) field sizes, has_none field n (λ e. omega arith))

below_after : (field : ℕ × ℕ) (sizes : List (ℕ × ℕ)) (n : ℕ)
    → words_below (field ∷ sizes) n ≤ words_below sizes n + field.1
unfolding words_below
below_after field sizes zero = omega arith
below_after field sizes (suc n) =
    let own = sum_by-cons (words_in n) field sizes in
    elim (eqb_tells field.0 n) [
      | inl h ↦ omega (arith, below_before field sizes n (omega (arith, h.1)), has_some field n)
      | inr h ↦ omega (arith, below_after field sizes n, has_none field n h.1)
    ]

below_all : (sizes : List (ℕ × ℕ)) (n : ℕ) → words_below sizes n ≤ all_words sizes
below_all [] n = omega (arith, below_none n)
below_all (field ∷ sizes) n =
    omega (arith, below_after field sizes n, below_all sizes n, sum_by-cons (λ (f : ℕ × ℕ). f.1) field sizes)

upto_below : (scopes : List ℕ) (sizes : List (ℕ × ℕ)) → AreScopes scopes → (n scope : ℕ) → scope < n
    → scope < length scopes → words_upto scopes sizes scope ≤ words_below sizes n
unfolding words_below
upto_below scopes sizes are zero scope p below = absurd (omega arith)
upto_below scopes sizes are (suc n) scope p below = elim (eqb_tells scope n) [
  | inr h ↦ (let ne = h.1 in omega (arith, upto_below scopes sizes are n scope (omega arith) below))
  | inl h ↦
      let own = ap (own_words sizes) h.1 in
      let is = upto_is scopes sizes scope are below in
      elim (enclosing_cases scopes are scope below) [
        | inl g ↦ omega (arith, ap (words_above scopes sizes) g.0, no_words scopes sizes)
        | inr g ↦
            let less : slice_index scopes scope < scope = g.2 in
            let same = h.1 in
            omega (arith, above_parent scopes sizes scope g.1, upto_below scopes sizes are n (slice_index scopes scope) (omega arith) (omega arith))
      ]
]

pub upto_le_all : (scopes : List ℕ) (sizes : List (ℕ × ℕ)) (scope : ℕ) → AreScopes scopes → scope < length scopes
    → words_upto scopes sizes scope ≤ all_words sizes
upto_le_all scopes sizes scope are below =
    omega (arith, upto_below scopes sizes are (scope + 1) scope (omega arith) below, below_all sizes (scope + 1))

-- all words are at least those of a scope
pub own_le_all : (sizes : List (ℕ × ℕ)) (scope : ℕ) → own_words sizes scope ≤ all_words sizes
own_le_all [] scope = omega arith
own_le_all (field ∷ sizes) scope =
    omega (arith, sum_by-cons (words_in scope) field sizes, sum_by-cons (λ (f : ℕ × ℕ). f.1) field sizes, has_some field scope, own_le_all sizes scope)

-- THE PEAK is the greatest number of words of a scope and its ancestors.
pub upto_le_peak : (scopes : List ℕ) (sizes : List (ℕ × ℕ)) (scope : ℕ) → scope < length scopes
    → words_upto scopes sizes scope ≤ peak_of scopes sizes
upto_le_peak scopes sizes scope below =
    let sums = map (words_upto scopes sizes) (range_with_len 0 (length scopes)) in
    let count : length sums ≡ length scopes = length-map-range_with_len (words_upto scopes sizes) 0 (length scopes) in
    let at : slice_index_or sums scope 0 ≡ words_upto scopes sizes scope =
    get_or-map-range_with_len (words_upto scopes sizes) 0 (length scopes) scope scope 0 below (omega arith) in
    let le = max_bounds greatest_of (λ n. n) refl (λ n ns. refl) sums scope 0 (omega arith) in
    omega arith

pub peak_least : (scopes : List ℕ) (sizes : List (ℕ × ℕ)) (bound : ℕ)
    → ((scope : ℕ) → scope < length scopes → words_upto scopes sizes scope ≤ bound) → peak_of scopes sizes ≤ bound
peak_least scopes sizes bound each =
    let sums = map (words_upto scopes sizes) (range_with_len 0 (length scopes)) in
    let count : length sums ≡ length scopes = length-map-range_with_len (words_upto scopes sizes) 0 (length scopes) in
    max_least greatest_of (λ n. n) refl (λ n ns. refl) sums 0 bound (λ scope below.
    let lt : scope < length scopes = omega arith in
    let at : slice_index_or sums scope 0 ≡ words_upto scopes sizes scope =
    get_or-map-range_with_len (words_upto scopes sizes) 0 (length scopes) scope scope 0 lt (omega arith) in
    let le = each scope lt in
    omega arith)

pub planned_fits : (scopes : List ℕ) (sizes : List (ℕ × ℕ)) (limit : ℕ) (region : RegionState)
    → planned scopes sizes limit ≡ Ok region → peak_of region.scopes region.sizes ≤ limit
planned_fits scopes sizes limit region e = by_test (nat_lt limit (peak_of scopes sizes)) refl e where
  by_test : (b : Bool) → nat_lt limit (peak_of scopes sizes) ≡ b
      → if◌then◌else◌ {A = Result RegionState LimitFault} b
      (Err (record { what = Words; allowed = limit; found = peak_of scopes sizes }))
      (Ok (record { scopes = scopes; sizes = sizes; innermost = None })) ≡ Ok region
      → peak_of region.scopes region.sizes ≤ limit
  by_test true h e = absurd cc
  by_test false h e =
      let is : (record { scopes = scopes; sizes = sizes; innermost = None }) ≡ region = cc in
      subst (λ (r : RegionState). peak_of r.scopes r.sizes ≤ limit) is (ltb-false limit (peak_of scopes sizes) h)

-- THE WORDS of a field end within its scope's, and where the later fields of its scope begin.
pub field_more : (sizes : List (ℕ × ℕ)) (index : ℕ) → index < length sizes
    → own_words (take (index + 1) sizes) (scope_at sizes index)
    ≡ own_words (take index sizes) (scope_at sizes index) + size_at sizes index
field_more sizes index below =
    let scope = scope_at sizes index in
    let same : (scope == scope) ≡ true = grind (arith, eqb_tells) in
    sum_by_more (words_in scope) sizes index (0, 0) below
    ∙ ap (λ b. own_words (take index sizes) scope + (if b then size_at sizes index else 0)) same

take_mono : (f : ℕ × ℕ → ℕ) (xs : List (ℕ × ℕ)) (m n : ℕ) → m ≤ n → sum_by f (take m xs) ≤ sum_by f (take n xs)
take_mono f [] zero zero le = omega arith
take_mono f [] zero (suc n) le = omega arith
take_mono f [] (suc m) zero le = omega arith
take_mono f [] (suc m) (suc n) le = omega arith
take_mono f (x ∷ xs) zero n le = omega arith
take_mono f (x ∷ xs) (suc m) zero le = absurd (omega arith)
take_mono f (x ∷ xs) (suc m) (suc n) le =
    omega (arith, sum_by-cons f x (take m xs), sum_by-cons f x (take n xs), take_mono f xs m n (omega arith))

pub field_within : (sizes : List (ℕ × ℕ)) (index : ℕ) → index < length sizes
    → own_words (take index sizes) (scope_at sizes index) + size_at sizes index ≤ own_words sizes (scope_at sizes index)
field_within sizes index below =
    omega (arith, field_more sizes index below, sum_by-take-le (words_in (scope_at sizes index)) sizes (index + 1))

later_field : (sizes : List (ℕ × ℕ)) (index later : ℕ) → index < later → index < length sizes
    → own_words (take index sizes) (scope_at sizes index) + size_at sizes index ≤ own_words (take later sizes) (scope_at sizes index)
later_field sizes index later lt below =
    omega (arith, field_more sizes index below, take_mono (words_in (scope_at sizes index)) sizes (index + 1) later (omega arith))

-- TWO LIVE FIELDS
order : (x y : ℕ) → x ≢ y → (x < y) ⊎ (y < x)
order x y ne = elim (cases_Bool (nat_lt x y)) [
  | inl h ↦ inl (ltb-true x y h)
  | inr h ↦ inr (let le = ltb-false x y h in omega arith)
]

pub live_scope : (region : RegionState) (field : ℕ) → IsRegion region → IsLive region field
    → (scope : ℕ) × (scope < length region.scopes) × (region.innermost ≡ Some scope)
    × Contains (chain region.scopes (Some scope)) (scope_at region.sizes (index_of field))
live_scope region field is live = by_innermost region.innermost refl where
  by_innermost : (o : Option ℕ) → region.innermost ≡ o
      → (scope : ℕ) × (scope < length region.scopes) × (region.innermost ≡ Some scope)
      × Contains (chain region.scopes (Some scope)) (scope_at region.sizes (index_of field))
  by_innermost None e =
      absurd (no_open_scope region.scopes (scope_at region.sizes (index_of field))
      (subst (λ o. Contains (chain region.scopes o) (scope_at region.sizes (index_of field))) e live.is_open))
  by_innermost (Some scope) e = (
    scope,
    is.innermost scope e,
    e,
    subst (λ o. Contains (chain region.scopes o) (scope_at region.sizes (index_of field))) e live.is_open,
  )

-- the words of a field end within those of its scope and its ancestors
field_end : (region : RegionState) (field : ℕ) → IsRegion region → IsLive region field
    → scope_at region.sizes (index_of field) < length region.scopes
    → first_word_of region.scopes region.sizes field + size_at region.sizes (index_of field)
    ≤ 1 + words_upto region.scopes region.sizes (scope_at region.sizes (index_of field))
field_end region field is live below =
    let scope = scope_at region.sizes (index_of field) in
    omega (arith, field_within region.sizes (index_of field) live.exists, upto_is region.scopes region.sizes scope is.scopes below)

scope_exists : (region : RegionState) (field : ℕ) → IsRegion region → IsLive region field
    → scope_at region.sizes (index_of field) < length region.scopes
scope_exists region field is live = is.fields (index_of field) (0, 0) live.exists

pub within_peak : (region : RegionState) (field : ℕ) → IsRegion region → IsLive region field
    → first_word_of region.scopes region.sizes field + size_at region.sizes (index_of field)
    ≤ peak_of region.scopes region.sizes + 1
within_peak region field is live =
    let scope = scope_at region.sizes (index_of field) in
    let below = scope_exists region field is live in
    omega (arith, field_end region field is live below, upto_le_peak region.scopes region.sizes scope below)

nested_fields : (region : RegionState) (field other : ℕ) → IsRegion region → IsLive region field
    → AreNested region.scopes region.sizes (scope_at region.sizes (index_of field)) (scope_at region.sizes (index_of other))
    → EndsBefore region field other
nested_fields region field other is live nested =
    omega (arith, field_end region field is live (scope_exists region field is live), nested.outer)

same_scope : (region : RegionState) (field other : ℕ) → IsRegion region → IsLive region field
    → scope_at region.sizes (index_of field) ≡ scope_at region.sizes (index_of other) → index_of field < index_of other
    → EndsBefore region field other
same_scope region field other is live same lt =
    let above = ap (words_above region.scopes region.sizes) same in
    let own = ap (own_words (take (index_of other) region.sizes)) same in
    omega (arith, later_field region.sizes (index_of field) (index_of other) lt live.exists)

pub live_apart : (region : RegionState) (field other : ℕ) → IsRegion region → field ≢ other → IsLive region field
    → IsLive region other → EndsBefore region field other ⊎ EndsBefore region other field
live_apart region field other is ne live also =
    let at = live_scope region field is live in
    let too = live_scope region other is also in
    let some : Some too.0 ≡ Some at.0 = sym too.2 ∙ at.2 in
    let inner : too.0 ≡ at.0 = cc in
    let x = scope_at region.sizes (index_of field) in
    let y = scope_at region.sizes (index_of other) in
    let member = subst (λ s. Contains (chain region.scopes (Some s)) y) inner too.3 in
    elim (two_within region.scopes region.sizes is.scopes (suc at.0) at.0 x y (omega arith) at.1 at.3 member) [
      | inr nested ↦ elim nested [
        | inl h ↦ inl (nested_fields region field other is live h)
        | inr h ↦ inr (nested_fields region other field is also h)
      ]
      | inl same ↦ elim (order (index_of field) (index_of other) (λ e. ne (let p = live.declared in let q = also.declared in omega arith))) [
        | inl lt ↦ inl (same_scope region field other is live same lt)
        | inr lt ↦ inr (same_scope region other field is also (sym same) lt)
      ]
    ]

-- THE SUMS of a further scope: the words of its ancestors are those of its parent and of the parent's ancestors.
pub none_above : (scopes : List ℕ) (sizes : List (ℕ × ℕ)) (scope words : ℕ) → None ≡ enclosing scopes scope → words ≡ 0
    → words ≡ words_above scopes sizes scope
none_above scopes sizes scope words e none =
    none ∙ sym (ap (λ o. sum_by (own_words sizes) (chain scopes o)) (sym e) ∙ no_words scopes sizes)

pub next_above : (scopes : List ℕ) (sizes : List (ℕ × ℕ)) (own starts : List ℕ) (scope parent words : ℕ) → AreScopes scopes
    → scope < length scopes → IsTable scope (words_above scopes sizes) starts → IsTable (length scopes) (own_words sizes) own
    → Some parent ≡ enclosing scopes scope → words ≡ slice_index starts parent + slice_index own parent
    → words ≡ words_above scopes sizes scope
next_above scopes sizes own starts scope parent words are below sums owns e is =
    let less = enclosing_below scopes scope parent are below (sym e) in
    let outer : words_above scopes sizes scope ≡ words_upto scopes sizes parent =
    ap (λ o. sum_by (own_words sizes) (chain scopes o)) (sym e) in
    omega (arith, upto_is scopes sizes parent are (omega arith), sums.values parent less, owns.values parent (omega arith))

pub upto_fits : (scopes : List ℕ) (sizes : List (ℕ × ℕ)) (scope : ℕ) → AreScopes scopes → scope < length scopes
    → words_above scopes sizes scope + own_words sizes scope ≤ all_words sizes
upto_fits scopes sizes scope are below =
    omega (arith, upto_is scopes sizes scope are below, upto_le_all scopes sizes scope are below)

pub max_is : (a b : ℕ) → ord_max nat_cmp a b ≡ max a b
max_is a b = grind (arith, nat_tests)

pub next_greatest : (scopes : List ℕ) (sizes : List (ℕ × ℕ)) (scope peak words next : ℕ) → AreScopes scopes → scope < length scopes
    → peak ≡ greatest_of (map (words_upto scopes sizes) (range_with_len 0 scope)) → words ≡ words_above scopes sizes scope
    → next ≡ max peak (words + own_words sizes scope)
    → next ≡ greatest_of (map (words_upto scopes sizes) (range_with_len 0 (scope + 1)))
next_greatest scopes sizes scope peak words next are below old above e =
    let sums = map (words_upto scopes sizes) (range_with_len 0 scope) in
    let upto : words + own_words sizes scope ≡ words_upto scopes sizes scope = omega (arith, upto_is scopes sizes scope are below) in
    e ∙ ap (λ n. max n (words + own_words sizes scope)) old ∙ ap (λ n. max (greatest_of sums) n) upto
    ∙ sym (max_push greatest_of (λ n. n) refl (λ n ns. refl) sums (words_upto scopes sizes scope))
    ∙ ap greatest_of (sym (map-range_with_len_more (words_upto scopes sizes) 0 scope scope (omega arith)))

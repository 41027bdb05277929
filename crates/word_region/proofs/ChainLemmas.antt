-- The chains of scopes.
use Rattle.std.proofs.Common.{◌≡◌, ◌≢◌, ◌⊎◌, ◌<◌, ◌≤◌, ℕ, zero, suc, ◌+◌, List, [], ◌∷◌, length, refl, sym, subst, ap, ◌∙◌, inl, inr, arith}
use Rattle.std.proofs.lemmas.Option.{slice_get-get_or}
use Rattle.std.specs.Prelude.{Some, None, Contains, slice_get, slice_index}
use Rattle.word_region.specs.Regions.{AreScopes, IsLive, IsRegion, MayOpen, RegionState, chain, chain_within, closed, enclosing, first_declared, index_of, opened, scope_at}

-- a scope is scope 0, or its parent has a lower number
pub enclosing_cases : (scopes : List ℕ) → AreScopes scopes → (scope : ℕ) → scope < length scopes
    → ((scope ≡ 0) × (enclosing scopes scope ≡ None))
    ⊎ ((scope ≢ 0) × (enclosing scopes scope ≡ Some (slice_index scopes scope)) × (slice_index scopes scope < scope))
enclosing_cases scopes are zero below = inl (refl, refl)
enclosing_cases scopes are (suc k) below =
    let at : slice_get scopes (k + 1) ≡ Some (slice_index scopes (k + 1)) = slice_get-get_or scopes (k + 1) 0 (omega arith) in
    let le = are.lower k (slice_index scopes (k + 1)) at in
    let same : k + 1 ≡ suc k = omega arith in
    inr (
      (λ e. omega arith),
      subst (λ n. slice_get scopes n ≡ Some (slice_index scopes n)) same at,
      subst (λ n. slice_index scopes n < n) same (omega arith),
    )

pub enclosing_below : (scopes : List ℕ) (scope parent : ℕ) → AreScopes scopes → scope < length scopes
    → enclosing scopes scope ≡ Some parent → parent < scope
enclosing_below scopes scope parent are below e = elim (enclosing_cases scopes are scope below) [
  | inl h ↦ (let no : None ≡ Some parent = sym h.1 ∙ e in absurd cc)
  | inr h ↦
      let some : Some (slice_index scopes scope) ≡ Some parent = sym h.1 ∙ e in
      let is : slice_index scopes scope ≡ parent = cc in
      let less : slice_index scopes scope < scope = h.2 in
      omega arith
]

none_within : (steps : ℕ) (scopes : List ℕ) → chain_within steps scopes None ≡ []
none_within zero scopes = refl
none_within (suc steps) scopes = refl

-- a chain does not depend on the bound, from the scope's number on
enough_steps : (scopes : List ℕ) → AreScopes scopes → (m n scope : ℕ) → scope < m → scope < n → scope < length scopes
    → chain_within m scopes (Some scope) ≡ chain_within n scopes (Some scope)
enough_steps scopes are zero n scope p q below = absurd (omega arith)
enough_steps scopes are (suc m) zero scope p q below = absurd (omega arith)
enough_steps scopes are (suc m) (suc n) scope p q below =
    let rest : chain_within m scopes (enclosing scopes scope) ≡ chain_within n scopes (enclosing scopes scope) =
    elim (enclosing_cases scopes are scope below) [
      | inl h ↦ ap (chain_within m scopes) h.1 ∙ none_within m scopes ∙ sym (ap (chain_within n scopes) h.1 ∙ none_within n scopes)
      | inr h ↦ ap (chain_within m scopes) h.1
          ∙ enough_steps scopes are m n (slice_index scopes scope) (omega arith) (omega arith) (omega arith)
          ∙ sym (ap (chain_within n scopes) h.1)
    ] in
    ap (λ rest. scope ∷ rest) rest

first_within : (scopes : List ℕ) → AreScopes scopes → (steps scope : ℕ) → steps ≡ length scopes → scope < steps
    → chain_within steps scopes (Some scope) ≡ scope ∷ chain_within steps scopes (enclosing scopes scope)
first_within scopes are zero scope all below = absurd (omega arith)
first_within scopes are (suc steps) scope all below =
    let rest : chain_within steps scopes (enclosing scopes scope) ≡ chain_within (suc steps) scopes (enclosing scopes scope) =
    elim (enclosing_cases scopes are scope (omega arith)) [
      | inl h ↦ ap (chain_within steps scopes) h.1 ∙ none_within steps scopes ∙ sym (ap (chain_within (suc steps) scopes) h.1)
      | inr h ↦ ap (chain_within steps scopes) h.1
          ∙ enough_steps scopes are steps (suc steps) (slice_index scopes scope) (omega arith) (omega arith) (omega arith)
          ∙ sym (ap (chain_within (suc steps) scopes) h.1)
    ] in
    ap (λ rest. scope ∷ rest) rest

-- THE CHAIN of a scope is the scope and the chain of its parent; that of none has no members.
pub chain_first : (scopes : List ℕ) (scope : ℕ) → AreScopes scopes → scope < length scopes
    → chain scopes (Some scope) ≡ scope ∷ chain scopes (enclosing scopes scope)
chain_first scopes scope are below = first_within scopes are (length scopes) scope refl below

pub chain_none : (scopes : List ℕ) → chain scopes None ≡ []
chain_none scopes = none_within (length scopes) scopes

-- MEMBERS of chains
pub contains_cases : (y : ℕ) (ys : List ℕ) (x : ℕ) → Contains (y ∷ ys) x → (y ≡ x) ⊎ Contains ys x
contains_cases y ys x (zero, below, at) = inl at
contains_cases y ys x (suc k, below, at) = inr (k, (let p : k < length ys = omega arith in p), at)

pub contains_later : (y : ℕ) (ys : List ℕ) (x : ℕ) → Contains ys x → Contains (y ∷ ys) x
contains_later y ys x (k, below, at) = (suc k, (let p : suc k < suc (length ys) = omega arith in p), at)

no_member : (x : ℕ) → Contains [] x → ⊥
no_member x (k, below, at) = omega arith

pub no_open_scope : (scopes : List ℕ) (x : ℕ) → Contains (chain scopes None) x → ⊥
no_open_scope scopes x m = no_member x (subst (λ (l : List ℕ). Contains l x) (chain_none scopes) m)

-- a member of a scope's chain is the scope, or a member of the chain of its parent
pub member_cases : (scopes : List ℕ) (scope x : ℕ) → AreScopes scopes → scope < length scopes
    → Contains (chain scopes (Some scope)) x
    → (scope ≡ x)
    ⊎ ((slice_index scopes scope < scope) × (enclosing scopes scope ≡ Some (slice_index scopes scope))
    × Contains (chain scopes (Some (slice_index scopes scope))) x)
member_cases scopes scope x are below m =
    elim (contains_cases scope (chain scopes (enclosing scopes scope)) x (subst (λ (l : List ℕ). Contains l x) (chain_first scopes scope are below) m)) [
      | inl e ↦ inl e
      | inr n ↦ elim (enclosing_cases scopes are scope below) [
        | inl h ↦ absurd (no_open_scope scopes x (subst (λ o. Contains (chain scopes o) x) h.1 n))
        | inr h ↦ inr (h.2, h.1, subst (λ o. Contains (chain scopes o) x) h.1 n)
      ]
    ]

-- a field that is live stays so when a further scope is opened
pub still_live : (region : RegionState) (scope field : ℕ) → IsRegion region → MayOpen region scope → IsLive region field
    → IsLive (opened region scope) field
still_live region scope field is may live = record {
  declared = live.declared;
  exists = live.exists;
  is_open =
      let x = scope_at region.sizes (index_of field) in
      subst (λ (l : List ℕ). Contains l x) (sym (chain_first region.scopes scope is.scopes may.exists))
      (contains_later scope (chain region.scopes (enclosing region.scopes scope)) x
      (subst (λ o. Contains (chain region.scopes o) x) may.inside live.is_open));
}

-- the fields of the innermost open scope are live
pub own_live : (region : RegionState) (field : ℕ) → IsRegion region → first_declared ≤ field
    → index_of field < length region.sizes → region.innermost ≡ Some (scope_at region.sizes (index_of field))
    → IsLive region field
own_live region field is declared exists at = record {
  declared = declared;
  exists = exists;
  is_open =
      let scope = scope_at region.sizes (index_of field) in
      subst (λ o. Contains (chain region.scopes o) scope) (sym at)
      (subst (λ (l : List ℕ). Contains l scope) (sym (chain_first region.scopes scope is.scopes (is.innermost scope at)))
      (zero, (let p : 0 < suc (length (chain region.scopes (enclosing region.scopes scope))) = omega arith in p), refl));
}

-- fields of other scopes stay live when the innermost one is closed
pub outer_live : (region : RegionState) (scope field : ℕ) → IsRegion region → region.innermost ≡ Some scope
    → scope_at region.sizes (index_of field) ≢ scope → IsLive region field → IsLive (closed region scope) field
outer_live region scope field is at other live = record {
  declared = live.declared;
  exists = live.exists;
  is_open =
      let x = scope_at region.sizes (index_of field) in
      let open_before = subst (λ o. Contains (chain region.scopes o) x) at live.is_open in
      elim (contains_cases scope (chain region.scopes (enclosing region.scopes scope)) x
      (subst (λ (l : List ℕ). Contains l x) (chain_first region.scopes scope is.scopes (is.innermost scope at)) open_before)) [
        | inl e ↦ absurd (other (sym e))
        | inr m ↦ m
      ];
}
